-- Where bytes stand in data memory, whose each byte is, and how a byte of a pointer is shown as a number.
use Rattle.std.specs.Prelude.{ℕ, ◌+◌, ◌/◌, ◌%◌, ◌≡◌, ◌≢◌, ◌<◌, ◌≤◌, Bool, true, false, not, ◌&&◌, ◌||◌, nat_lt, nat_le, if◌then◌else◌, List, [], ◌∷◌, length, Option, Some, None, slice_index_or}
use Rattle.pic_chip.specs.Address as chip
use Rattle.pic_chip.specs.Address.{Place, General, place}
use Rattle.pic_chip.specs.Run.{Range, covers, object_at}
use Rattle.pic_world.specs.Roots.{same_root}
use Rattle.pic_world.specs.declared.Cell.{Cell}
use Rattle.pic_world.specs.declared.Root.{Root}
use Rattle.pic_world.specs.declared.Root.TheVariants.{Main, Isr}
use Rattle.core_code.specs.Bytes as bytes
use Rattle.core_code.specs.Bytes.{Held, byte_in}
use Rattle.core_code.specs.declared.code.Byte.{Byte}
use Rattle.core_code.specs.declared.code.Byte.TheVariants as names
use Rattle.sym_code.specs.declared.code.Saved.{Saved}
use Rattle.sym_code.specs.declared.code.Saved.TheVariants as saved

-- the frame of a copy, and the root that the copy runs under
pub record FrameRange : Type 0 where
  pub root : Root
  pub address : ℕ
  pub size : ℕ

pub record DataLayout : Type 0 where
  -- the static objects in order
  pub objects : List Range
  -- the frames of the copies in order
  pub frames : List FrameRange

abbrev pub no_range : Range
no_range = record { constant = true; address = 0; size = 0 }

abbrev pub no_frame : FrameRange
no_frame = record { root = Main; address = 0; size = 0 }

abbrev pub object : DataLayout → ℕ → Range
object l n = slice_index_or l.objects n no_range

abbrev pub frame : DataLayout → ℕ → FrameRange
frame l c = slice_index_or l.frames c no_frame

-- ---- addresses
-- Results and main's saved context stand in the bytes that every bank has.
abbrev pub result_address : Root → ℕ
result_address Main = 0x70
result_address Isr = 0x74

abbrev pub saved_address : Saved → ℕ
saved_address saved.W = 0x78
saved_address saved.Status = 0x79
saved_address saved.Fsr = 0x7a
saved_address saved.Pclath = 0x7b

unfoldable pub address_of : DataLayout → Byte → ℕ
address_of l (names.Static n offset) = (object l n).address + offset
address_of l (names.Frame c offset) = (frame l c).address + offset
address_of l (names.Result root k) = result_address root + k
address_of l (names.Device address) = address

-- the number of the general byte at an address
abbrev pub general_in : Place → Option ℕ
general_in (General k) = Some k
general_in _ = None

unfoldable pub general_at : ℕ → Option ℕ
general_at address = general_in (place (address / 128) (address % 128))

-- the low 8 bits of an address, or its ninth bit
abbrev pub address_byte : Bool → ℕ → ℕ
address_byte false a = a % 256
address_byte true a = a / 256 % 2

-- how an abstract byte is shown
unfoldable pub shown : DataLayout → Held → ℕ
shown l bytes.Unset = 0
shown l (bytes.Number n) = n
shown l (bytes.Part object offset high) = address_byte high (address_of l (byte_in object offset))

-- ---- owners
pub data Owner : Type 0 where
  -- a static object that isn't const: each access of the byte is an event, and shows this cell
  Watched : Cell → Owner
  Constant : Owner
  -- the frames and results of the copies that run under this root
  Of : Root → Owner
  -- no instruction of a copy names it
  Nobody : Owner

abbrev pub covers_any : List Range → ℕ → Bool
covers_any [] address = false
covers_any (r ∷ rs) address = covers r address || covers_any rs address

abbrev pub frame_owner : List FrameRange → ℕ → Owner
frame_owner [] address = Nobody
frame_owner (f ∷ fs) address = if nat_le f.address address && nat_lt address (f.address + f.size) then Of f.root else frame_owner fs address

abbrev pub private_owner : DataLayout → ℕ → Owner
private_owner l address =
    if nat_le 0x70 address && nat_lt address 0x74 then Of Main else
    if nat_le 0x74 address && nat_lt address 0x78 then Of Isr else frame_owner l.frames address

abbrev pub owner_by : DataLayout → ℕ → Option Cell → Owner
owner_by l address (Some cell) = Watched cell
owner_by l address None = if covers_any l.objects address then Constant else private_owner l address

-- whose the general byte of a number is
unfoldable pub owner : DataLayout → ℕ → Owner
owner l k = let address = chip.address_of k in owner_by l address (object_at l.objects 0 address)

-- ---- near layouts
-- Each object and frame ends by 100h: the banks 0 and 1 have all that a program names, so RP1 and IRP may stay 0.
abbrev pub near_ranges : List Range → Bool
near_ranges [] = true
near_ranges (r ∷ rs) = nat_le (r.address + r.size) 0x100 && near_ranges rs

abbrev pub near_frames : List FrameRange → Bool
near_frames [] = true
near_frames (f ∷ fs) = nat_le (f.address + f.size) 0x100 && near_frames fs

unfoldable pub all_near : DataLayout → Bool
all_near l = near_ranges l.objects && near_frames l.frames

-- an object or a frame has the address
abbrev pub covers_frame : List FrameRange → ℕ → Bool
covers_frame [] address = false
covers_frame (f ∷ fs) address = (nat_le f.address address && nat_lt address (f.address + f.size)) || covers_frame fs address

unfoldable pub is_covered : DataLayout → ℕ → Bool
is_covered l address = covers_any l.objects address || covers_frame l.frames address

-- ---- layouts that serve
abbrev pub lies_in : ℕ → ℕ → ℕ → ℕ → Bool
lies_in first behind address size = nat_le first address && nat_le (address + size) behind

-- So many bytes stand one behind the other in one of the four regions of general bytes (DS39582, register file map). The
-- bytes 70h to 7Fh, which each bank shows, are kept for results and the saved context.
abbrev pub is_whole : ℕ → ℕ → Bool
is_whole address size = lies_in 0x20 0x70 address size || lies_in 0xa0 0xf0 address size || lies_in 0x110 0x170 address size || lies_in 0x190 0x1f0 address size

-- one stands whole before the other
abbrev pub are_apart : ℕ → ℕ → ℕ → ℕ → Bool
are_apart address size other count = nat_le (address + size) other || nat_le (other + count) address

-- Frames of two copies may hold something at the same time: they run under different roots, or one of the copies calls the
-- other, directly or by others.
abbrev pub may_meet : DataLayout → (ℕ → ℕ → Bool) → ℕ → ℕ → Bool
may_meet l reaches c d = not (same_root (frame l c).root (frame l d).root) || reaches c d || reaches d c

-- Objects and frames are whole, and no two of them that may be live at the same time have a byte in common.
pub record IsLaidOut (reaches : ℕ → ℕ → Bool) (l : DataLayout) : Type 0 where
  pub objects : (n : ℕ) → n < length l.objects → is_whole (object l n).address (object l n).size ≡ true
  pub frames : (c : ℕ) → c < length l.frames → is_whole (frame l c).address (frame l c).size ≡ true
  pub objects_apart : (n m : ℕ) → n < length l.objects → m < length l.objects → n ≢ m → are_apart (object l n).address (object l n).size (object l m).address (object l m).size ≡ true
  pub frames_clear : (n c : ℕ) → n < length l.objects → c < length l.frames → are_apart (object l n).address (object l n).size (frame l c).address (frame l c).size ≡ true
  pub frames_apart : (c d : ℕ) → c < length l.frames → d < length l.frames → c ≢ d → may_meet l reaches c d ≡ true
      → are_apart (frame l c).address (frame l c).size (frame l d).address (frame l d).size ≡ true

-- The layout is one of objects with these first bytes, watched or const, and of copies with such roots and frames, which are as
-- large at least: that of a helper has more than byte code knows of.
pub record IsOf (first : List (List Held)) (is_watched : ℕ → Bool) (copies : ℕ) (frame_bytes : ℕ → ℕ) (root : ℕ → Root) (l : DataLayout) : Type 0 where
  pub objects : length l.objects ≡ length first
  pub sizes : (n : ℕ) → n < length first → (object l n).size ≡ length (slice_index_or first n [])
  pub constants : (n : ℕ) → n < length first → (object l n).constant ≡ not (is_watched n)
  pub frames : length l.frames ≡ copies
  pub frame_sizes : (c : ℕ) → c < copies → frame_bytes c ≤ (frame l c).size
  pub roots : (c : ℕ) → c < copies → (frame l c).root ≡ root c
