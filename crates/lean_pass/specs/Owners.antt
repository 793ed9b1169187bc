-- Whose a general byte is, and where an operand leads, as the code says it.
use Rattle.std.specs.Prelude.{◌≡◌, ℕ, ◌+◌, ◌-◌, ◌*◌, Bool, true, false, not, ◌&&◌, ◌||◌, nat_eq, nat_le, nat_lt, if◌then◌else◌, List, [], ◌∷◌, Option, Some, None, slice_get}
use Rattle.pic_chip.specs.Run.{Range, covers}
use Rattle.pic_map.specs.declared.FrameLine.{FrameLine}
use Rattle.pic_map.specs.declared.ObjLine.{ObjLine}
use Rattle.core_code.specs.declared.code.Byte.{Byte}
use Rattle.core_code.specs.declared.code.Byte.TheVariants as bytes
use Rattle.pic_world.specs.declared.Root.TheVariants.{Main, Isr}
use Rattle.sym_code.specs.Layout as layouts
use Rattle.sym_code.specs.Layout.{DataLayout, Owner, owner}
use Rattle.code_place.specs.Layouts.{layout_of}
use Rattle.lean_code.specs.Changes as changes
use Rattle.lean_pass.specs.declared.owners.Aim.{Aim}
use Rattle.lean_pass.specs.declared.owners.Aim.TheVariants as aims
use Rattle.lean_pass.specs.declared.owners.Whose.{Whose}
use Rattle.lean_pass.specs.declared.owners.Whose.TheVariants as whose

-- ---- owners
abbrev pub kind : Owner → Whose
kind (layouts.Watched cell) = whose.Watched
kind layouts.Constant = whose.Constant
kind (layouts.Of Main) = whose.Main
kind (layouts.Of Isr) = whose.Isr
kind layouts.Nobody = whose.Nobody

-- an object that isn't const covers the address
abbrev pub is_watched : List Range → ℕ → Bool
is_watched [] address = false
is_watched (r ∷ rs) address = if not r.constant && covers r address then true else is_watched rs address

-- of each number that is listed whose that byte is
pub record AreOwners (l : DataLayout) (list : List Whose) : Type 0 where
  pub listed : (k : ℕ) (w : Whose) → slice_get list k ≡ Some w → w ≡ kind (owner l k)

abbrev pub own_by : Bool → Whose → Bool
own_by inside whose.Main = not inside
own_by inside whose.Isr = inside
own_by inside w = false

abbrev pub near_by : Bool → Whose → Bool
near_by inside whose.Constant = true
near_by inside w = own_by inside w

-- ---- where an operand leads
abbrev pub aim_of : Aim → changes.Aim
aim_of aims.ToFsr = changes.ToFsr
aim_of aims.ToEvent = changes.ToEvent
aim_of (aims.ToByte k) = changes.ToByte k
aim_of aims.Through = changes.Through
aim_of aims.Nowhere = changes.Nowhere

abbrev pub access_by : Bool → Bool → ℕ → Whose → changes.Aim
access_by inside writes k whose.Watched = changes.ToEvent
access_by inside false k whose.Constant = changes.ToByte k
access_by inside true k whose.Constant = changes.Nowhere
access_by false writes k whose.Main = changes.ToByte k
access_by true writes k whose.Main = changes.Nowhere
access_by false writes k whose.Isr = changes.Nowhere
access_by true writes k whose.Isr = changes.ToByte k
access_by inside writes k whose.Nobody = changes.Nowhere

abbrev pub general_aim : DataLayout → Bool → Bool → Option ℕ → changes.Aim
general_aim l inside writes None = changes.Nowhere
general_aim l inside writes (Some k) = access_by inside writes k (kind (owner l k))

abbrev pub byte_aim : DataLayout → Bool → Bool → Byte → changes.Aim
byte_aim l inside writes (bytes.Device address) = changes.ToEvent
byte_aim l inside writes byte = general_aim l inside writes (layouts.general_at (layouts.address_of l byte))

abbrev pub is_in_frame : layouts.FrameRange → ℕ → Bool
is_in_frame f address = nat_le f.address address && nat_lt address (f.address + f.size)

-- ---- addresses of general bytes
-- registers of the core stand there in this bank, with PIR1 and PIE1
abbrev pub is_core : ℕ → ℕ → Bool
is_core bank low = nat_eq low 2 || (nat_eq low 3 || (nat_eq low 4 || (nat_eq low 10 || (nat_eq low 11 || (nat_eq low 12 && nat_lt bank 2)))))

abbrev pub first_general : ℕ → ℕ
first_general bank = if nat_lt bank 2 then 0x20 else 0x10

abbrev pub general_by : ℕ → ℕ → Option ℕ
general_by bank low =
    if is_core bank low then None else
    if nat_le 0x70 low then Some (low - 0x20) else
    if nat_le (first_general bank) low then Some (0x60 * bank + low - 0x20) else None

abbrev pub object_address : Option ObjLine → ℕ
object_address None = 0
object_address (Some line) = line.address

abbrev pub frame_address : Option FrameLine → ℕ
frame_address None = 0
frame_address (Some line) = line.address

abbrev pub owner_in : DataLayout → ℕ → Option Whose → Whose
owner_in l k None = kind (owner l k)
owner_in l k (Some w) = w
