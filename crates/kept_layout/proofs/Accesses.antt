-- What is accessed over the layout in which private objects are main's own bytes.
use Rattle.std.proofs.Common.{◌≡◌, ℕ, zero, suc, ◌+◌, ◌<◌, Bool, true, false, not, ◌&&◌, ◌||◌, nat_le, nat_lt, if◌then◌else◌, List, [], ◌∷◌, ◌++◌, length, Option, Some, None, slice_index_or, refl, sym, ap, ◌∙◌, arith}
use Rattle.std.proofs.lemmas.Bool.{leb-true, le-leb, ltb-true}
use Rattle.core_code.specs.declared.code.Byte.{Byte}
use Rattle.core_code.specs.declared.code.Byte.TheVariants as bytes
use Rattle.pic_chip.specs.Run.{Range, covers}
use Rattle.pic_world.specs.declared.Root.TheVariants.{Main, Isr}
use Rattle.kept_trace.specs.Kept.{is_kept_cell}
use Rattle.select_wide.specs.Direct.{is_clear, is_indf}
use Rattle.sym_code.specs.Effect.{Setting, Loud, Port, Shared, Access, Pointer, Event, Silent, Denied, access_by, general_access, is_selected, named_access, access_of}
use Rattle.sym_code.specs.Layout.{DataLayout, FrameRange, IsLaidOut, Owner, Watched, Constant, Of, Nobody, no_range, no_frame, address_of, general_at, covers_any, covers_frame, owner, near_ranges, near_frames, all_near, is_covered}
use Rattle.sym_code.specs.Registers.{Registers, pointer}
use Rattle.sym_code.specs.declared.code.Operand.{Operand}
use Rattle.sym_code.specs.declared.code.Operand.TheVariants as operands
use Rattle.sym_code.specs.declared.code.Register.TheVariants.{Indf, Status, Fsr, Pclath}
use Rattle.kept_layout.specs.KeptLayout.{is_private, emptied, as_frame, emptied_from, frames_from, kept_layout, kept_setting, is_private_owner, is_private_byte}
use Rattle.kept_layout.specs.OpenCode.{is_placed, operand_opens}
use Rattle.kept_layout.proofs.Owners.{never, left_of, right_of, never_covers, seen_owner, owner_seen}

-- ---- addresses
pub object_address : (kept : List Bool) (i : ℕ) (rs : List Range) (n : ℕ) → (slice_index_or (emptied_from kept i rs) n no_range).address ≡ (slice_index_or rs n no_range).address
object_address kept i [] n = refl
object_address kept i (r ∷ rs) zero = by (is_private kept i r)
  where
    by : (b : Bool) → (if b then emptied r else r).address ≡ r.address
    by true = refl
    by false = refl
object_address kept i (r ∷ rs) (suc n) = object_address kept (i + 1) rs n

pub frame_kept : (fs gs : List FrameRange) (c : ℕ) → c < length fs → slice_index_or (fs ++ gs) c no_frame ≡ slice_index_or fs c no_frame
frame_kept [] gs c l = absurd (omega (arith, l))
frame_kept (f ∷ fs) gs zero l = refl
frame_kept (f ∷ fs) gs (suc c) l = frame_kept fs gs c (omega (arith, l))

pub address_same : (kept : List Bool) (l : DataLayout) (byte : Byte) → is_placed l byte ≡ true → address_of (kept_layout kept l) byte ≡ address_of l byte
unfolding address_of
address_same kept l (bytes.Static n offset) e = ap (λ (a : ℕ). a + offset) (object_address kept 0 l.objects n)
address_same kept l (bytes.Frame c offset) e = ap (λ (f : FrameRange). f.address + offset) (frame_kept l.frames (frames_from kept 0 l.objects) c (ltb-true c (length l.frames) e))
address_same kept l (bytes.Result root k) e = refl
address_same kept l (bytes.Device address) e = refl

-- ---- what is covered, and how far the layout goes
frames_joined : (fs gs : List FrameRange) (x : ℕ) → covers_frame (fs ++ gs) x ≡ (covers_frame fs x || covers_frame gs x)
frames_joined [] gs x = refl
frames_joined (f ∷ fs) gs x = ap (λ (b : Bool). (nat_le f.address x && nat_lt x (f.address + f.size)) || b) (frames_joined fs gs x) ∙ by (nat_le f.address x && nat_lt x (f.address + f.size)) (covers_frame fs x)
  where
    by : (a b : Bool) → (a || (b || covers_frame gs x)) ≡ ((a || b) || covers_frame gs x)
    by true b = refl
    by false b = refl

near_joined : (fs gs : List FrameRange) → near_frames (fs ++ gs) ≡ (near_frames fs && near_frames gs)
near_joined [] gs = refl
near_joined (f ∷ fs) gs = ap (λ (b : Bool). nat_le (f.address + f.size) 0x100 && b) (near_joined fs gs) ∙ by (nat_le (f.address + f.size) 0x100) (near_frames fs)
  where
    by : (a b : Bool) → (a && (b && near_frames gs)) ≡ ((a && b) && near_frames gs)
    by true b = refl
    by false b = refl

covers_same : (kept : List Bool) (x i : ℕ) (rs : List Range) → (covers_any (emptied_from kept i rs) x || covers_frame (frames_from kept i rs) x) ≡ covers_any rs x
covers_same kept x i [] = refl
covers_same kept x i (r ∷ rs) = by (covers_same kept x (i + 1) rs) (is_private kept i r)
  where
    private : (v w a b : Bool) → w ≡ false → ((w || a) || (v || b)) ≡ (v || (a || b))
    private v true a b ew = never ew
    private true false true b ew = refl
    private true false false b ew = refl
    private false false a b ew = refl

    shown : (v a b : Bool) → ((v || a) || b) ≡ (v || (a || b))
    shown true a b = refl
    shown false a b = refl

    by : (covers_any (emptied_from kept (i + 1) rs) x || covers_frame (frames_from kept (i + 1) rs) x) ≡ covers_any rs x
        → (p : Bool) → (covers_any ((if p then emptied r else r) ∷ emptied_from kept (i + 1) rs) x || covers_frame (if p then as_frame r ∷ frames_from kept (i + 1) rs else frames_from kept (i + 1) rs) x) ≡ (covers r x || covers_any rs x)
    by more true = private (covers r x) (nat_le r.address x && nat_lt x (r.address + 0)) (covers_any (emptied_from kept (i + 1) rs) x) (covers_frame (frames_from kept (i + 1) rs) x) (never_covers r.address x) ∙ ap (λ (b : Bool). covers r x || b) more
    by more false = shown (covers r x) (covers_any (emptied_from kept (i + 1) rs) x) (covers_frame (frames_from kept (i + 1) rs) x) ∙ ap (λ (b : Bool). covers r x || b) more

pub covered_same : (kept : List Bool) (l : DataLayout) (x : ℕ) → is_covered (kept_layout kept l) x ≡ is_covered l x
unfolding is_covered
covered_same kept l x =
    ap (λ (b : Bool). covers_any (emptied_from kept 0 l.objects) x || b) (frames_joined l.frames (frames_from kept 0 l.objects) x)
    ∙ by (covers_any (emptied_from kept 0 l.objects) x) (covers_frame l.frames x) (covers_frame (frames_from kept 0 l.objects) x)
    ∙ ap (λ (b : Bool). b || covers_frame l.frames x) (covers_same kept x 0 l.objects)
  where
    by : (a b c : Bool) → (a || (b || c)) ≡ ((a || c) || b)
    by true b c = refl
    by false true true = refl
    by false true false = refl
    by false false true = refl
    by false false false = refl

near_same_from : (kept : List Bool) (i : ℕ) (rs : List Range) → (near_ranges (emptied_from kept i rs) && near_frames (frames_from kept i rs)) ≡ near_ranges rs
near_same_from kept i [] = refl
near_same_from kept i (r ∷ rs) = by (near_same_from kept (i + 1) rs) (is_private kept i r)
  where
    smaller : nat_le (r.address + r.size) 0x100 ≡ true → nat_le (r.address + 0) 0x100 ≡ true
    smaller e = le-leb (r.address + 0) 0x100 (omega (arith, leb-true (r.address + r.size) 0x100 e))

    private : (v w a b : Bool) → (v ≡ true → w ≡ true) → ((w && a) && (v && b)) ≡ (v && (a && b))
    private true true true b h = refl
    private true true false b h = refl
    private true false a b h = never (sym (h refl))
    private false true true b h = refl
    private false true false b h = refl
    private false false a b h = refl

    shown : (v a b : Bool) → ((v && a) && b) ≡ (v && (a && b))
    shown true a b = refl
    shown false a b = refl

    by : (near_ranges (emptied_from kept (i + 1) rs) && near_frames (frames_from kept (i + 1) rs)) ≡ near_ranges rs
        → (p : Bool) → (near_ranges ((if p then emptied r else r) ∷ emptied_from kept (i + 1) rs) && near_frames (if p then as_frame r ∷ frames_from kept (i + 1) rs else frames_from kept (i + 1) rs)) ≡ (nat_le (r.address + r.size) 0x100 && near_ranges rs)
    by more true = private (nat_le (r.address + r.size) 0x100) (nat_le (r.address + 0) 0x100) (near_ranges (emptied_from kept (i + 1) rs)) (near_frames (frames_from kept (i + 1) rs)) smaller ∙ ap (λ (b : Bool). nat_le (r.address + r.size) 0x100 && b) more
    by more false = shown (nat_le (r.address + r.size) 0x100) (near_ranges (emptied_from kept (i + 1) rs)) (near_frames (frames_from kept (i + 1) rs)) ∙ ap (λ (b : Bool). nat_le (r.address + r.size) 0x100 && b) more

pub near_same : (kept : List Bool) (l : DataLayout) → all_near (kept_layout kept l) ≡ all_near l
unfolding all_near
near_same kept l =
    ap (λ (b : Bool). near_ranges (emptied_from kept 0 l.objects) && b) (near_joined l.frames (frames_from kept 0 l.objects))
    ∙ by (near_ranges (emptied_from kept 0 l.objects)) (near_frames l.frames) (near_frames (frames_from kept 0 l.objects))
    ∙ ap (λ (b : Bool). b && near_frames l.frames) (near_same_from kept 0 l.objects)
  where
    by : (a b c : Bool) → (a && (b && c)) ≡ ((a && c) && b)
    by true true true = refl
    by true true false = refl
    by true false true = refl
    by true false false = refl
    by false b c = refl

-- ---- accesses
-- private bytes are accessed without an event
abbrev pub seen_loud : Loud → Bool → Access
seen_loud (Port address) b = Event (Port address)
seen_loud (Shared k cell) b = if b then Event (Shared k cell) else Silent k

abbrev pub is_kept_loud : List Bool → Loud → Bool
is_kept_loud kept (Port address) = true
is_kept_loud kept (Shared k cell) = is_kept_cell kept cell

abbrev pub seen_access : List Bool → Access → Access
seen_access kept (Event b) = seen_loud b (is_kept_loud kept b)
seen_access kept access = access

-- free: it may be of a private byte
abbrev pub access_opens : List Bool → Bool → Access → Bool
access_opens kept free (Event b) = free || is_kept_loud kept b
access_opens kept free access = true

by_seen : (kept : List Bool) (inside writes : Bool) (k : ℕ) (o : Owner) → access_opens kept (not inside) (access_by inside writes k o) ≡ true → access_by inside writes k (seen_owner kept o) ≡ seen_access kept (access_by inside writes k o)
by_seen kept inside writes k (Watched cell) e = by inside (is_kept_cell kept cell) e
  where
    by : (i b : Bool) → (not i || b) ≡ true → access_by i writes k (if b then Watched cell else Of Main) ≡ (if b then Event (Shared k cell) else Silent k)
    by i true h = refl
    by false false h = refl
    by true false h = never (sym h)
by_seen kept true false k Constant e = refl
by_seen kept false false k Constant e = refl
by_seen kept true true k Constant e = refl
by_seen kept false true k Constant e = refl
by_seen kept true writes k (Of Main) e = refl
by_seen kept false writes k (Of Main) e = refl
by_seen kept true writes k (Of Isr) e = refl
by_seen kept false writes k (Of Isr) e = refl
by_seen kept inside writes k Nobody e = refl

by_clear : (kept : List Bool) (inside writes : Bool) (k : ℕ) (o : Owner) → is_private_owner kept o ≡ false → access_opens kept false (access_by inside writes k o) ≡ true
by_clear kept inside writes k (Watched cell) e = by (is_kept_cell kept cell) e
  where
    by : (b : Bool) → not b ≡ false → b ≡ true
    by true h = refl
    by false h = never h
by_clear kept true false k Constant e = refl
by_clear kept false false k Constant e = refl
by_clear kept true true k Constant e = refl
by_clear kept false true k Constant e = refl
by_clear kept true writes k (Of Main) e = refl
by_clear kept false writes k (Of Main) e = refl
by_clear kept true writes k (Of Isr) e = refl
by_clear kept false writes k (Of Isr) e = refl
by_clear kept inside writes k Nobody e = refl

module _ (kept : List Bool) (reaches : ℕ → ℕ → Bool) (g : Setting) (laid : IsLaidOut reaches g.program.layout) (inside writes : Bool) (r : Registers) where
  abbrev l : DataLayout
  l = g.program.layout

  abbrev hidden : ℕ → Bool
  hidden = is_private_byte kept l

  general_seen : (at : Option ℕ) → access_opens kept (not inside) (general_access l inside writes at) ≡ true → general_access (kept_layout kept l) inside writes at ≡ seen_access kept (general_access l inside writes at)
  general_seen None e = refl
  general_seen (Some k) e = ap (access_by inside writes k) (owner_seen kept reaches l laid k) ∙ by_seen kept inside writes k (owner l k) e

  general_clear : (at : Option ℕ) → is_clear hidden at ≡ true → access_opens kept false (general_access l inside writes at) ≡ true
  general_clear None e = refl
  general_clear (Some k) e = by_clear kept inside writes k (owner l k) (by (is_private_owner kept (owner l k)) e)
    where
      by : (b : Bool) → not b ≡ true → b ≡ false
      by true h = never (sym h)
      by false h = refl

  if_seen : (b : Bool) (a c : Access) → (access_opens kept (not inside) c ≡ true → a ≡ seen_access kept c) → access_opens kept (not inside) (if b then c else Denied) ≡ true → (if b then a else Denied) ≡ seen_access kept (if b then c else Denied)
  if_seen true a c h e = h e
  if_seen false a c h e = refl

  if_clear : (b : Bool) (c : Access) → access_opens kept false c ≡ true → access_opens kept false (if b then c else Denied) ≡ true
  if_clear true c e = e
  if_clear false c e = refl

  named_seen : (byte : Byte) → is_placed l byte ≡ true → access_opens kept (not inside) (named_access g inside writes r (address_of l byte)) ≡ true
      → named_access (kept_setting kept g) inside writes r (address_of (kept_layout kept l) byte) ≡ seen_access kept (named_access g inside writes r (address_of l byte))
  named_seen byte placed e =
      ap (named_access (kept_setting kept g) inside writes r) (address_same kept l byte placed)
      ∙ if_seen (is_selected g r (address_of l byte)) (general_access (kept_layout kept l) inside writes (general_at (address_of l byte))) (general_access l inside writes (general_at (address_of l byte))) (general_seen (general_at (address_of l byte))) e

  device_seen : (b : Bool) (address : ℕ) → (if b then Event (Port address) else Denied) ≡ seen_access kept (if b then Event (Port address) else Denied)
  device_seen true address = refl
  device_seen false address = refl

  device_clear : (free b : Bool) (address : ℕ) → access_opens kept free (if b then Event (Port address) else Denied) ≡ true
  device_clear true true address = refl
  device_clear false true address = refl
  device_clear free false address = refl

  pub access_seen : (operand : Operand) → operand_opens hidden l true operand ≡ true → access_opens kept (not inside) (access_of g inside writes r operand) ≡ true
      → access_of (kept_setting kept g) inside writes r operand ≡ seen_access kept (access_of g inside writes r operand)
  unfolding access_of
  access_seen (operands.Byte (bytes.Device address)) p e = device_seen _ address
  access_seen (operands.Byte (bytes.Static n offset)) p e = named_seen (bytes.Static n offset) refl e
  access_seen (operands.Byte (bytes.Frame c offset)) p e = named_seen (bytes.Frame c offset) (left_of (is_placed l (bytes.Frame c offset)) true p) e
  access_seen (operands.Byte (bytes.Result root k)) p e = named_seen (bytes.Result root k) refl e
  access_seen (operands.Register Indf) p e =
      ap (λ (b : Bool). if b then general_access (kept_layout kept l) inside writes (general_at (pointer r)) else Denied) (covered_same kept l (pointer r))
      ∙ if_seen (is_covered l (pointer r)) (general_access (kept_layout kept l) inside writes (general_at (pointer r))) (general_access l inside writes (general_at (pointer r))) (general_seen (general_at (pointer r))) e
  access_seen (operands.Register Status) p e = refl
  access_seen (operands.Register Fsr) p e = refl
  access_seen (operands.Register Pclath) p e = refl
  access_seen (operands.Saved cell) p e = refl

  named_clear : (byte : Byte) → is_clear hidden (general_at (address_of l byte)) ≡ true → access_opens kept false (named_access g inside writes r (address_of l byte)) ≡ true
  named_clear byte e = if_clear (is_selected g r (address_of l byte)) (general_access l inside writes (general_at (address_of l byte))) (general_clear (general_at (address_of l byte)) e)

  clear_of : (placed free clear : Bool) → (placed && (free || clear)) ≡ true → free ≡ false → clear ≡ true
  clear_of true true clear e f = never f
  clear_of true false clear e f = e
  clear_of false free clear e f = never (sym e)

  -- an access by name, and one through FSR
  opens_clear : (operand : Operand) → operand_opens hidden l false operand ≡ true → (is_indf operand ≡ true → is_clear hidden (general_at (pointer r)) ≡ true) → access_opens kept false (access_of g inside writes r operand) ≡ true
  unfolding access_of
  opens_clear (operands.Byte (bytes.Device address)) p e = device_clear false _ address
  opens_clear (operands.Byte (bytes.Static n offset)) p e = named_clear (bytes.Static n offset) p
  opens_clear (operands.Byte (bytes.Frame c offset)) p e = named_clear (bytes.Frame c offset) (right_of (is_placed l (bytes.Frame c offset)) _ p)
  opens_clear (operands.Byte (bytes.Result root k)) p e = named_clear (bytes.Result root k) p
  opens_clear (operands.Register Indf) p e = if_clear (is_covered l (pointer r)) (general_access l inside writes (general_at (pointer r))) (general_clear (general_at (pointer r)) (e refl))
  opens_clear (operands.Register Status) p e = refl
  opens_clear (operands.Register Fsr) p e = refl
  opens_clear (operands.Register Pclath) p e = refl
  opens_clear (operands.Saved cell) p e = refl

  opens_free : (access : Access) → access_opens kept true access ≡ true
  opens_free Pointer = refl
  opens_free (Event b) = refl
  opens_free (Silent k) = refl
  opens_free Denied = refl

  pub opens_more : (access : Access) → access_opens kept false access ≡ true → (free : Bool) → access_opens kept free access ≡ true
  opens_more access e true = opens_free access
  opens_more access e false = e

  pub access_open : (free : Bool) (operand : Operand) → operand_opens hidden l free operand ≡ true → (is_indf operand ≡ true → is_clear hidden (general_at (pointer r)) ≡ true) → access_opens kept free (access_of g inside writes r operand) ≡ true
  access_open true operand p e = opens_free (access_of g inside writes r operand)
  access_open false operand p e = opens_clear operand p e

  pub placed_only : (free : Bool) (operand : Operand) → operand_opens hidden l free operand ≡ true → operand_opens hidden l true operand ≡ true
  placed_only free (operands.Byte byte) p = ap (λ (b : Bool). b && true) (left_of (is_placed l byte) _ p)
  placed_only free (operands.Register register) p = refl
  placed_only free (operands.Saved cell) p = refl

  -- so where what is free isn't the handler's
  pub access_same : (free : Bool) → (free ≡ true → inside ≡ false) → (operand : Operand) → operand_opens hidden l free operand ≡ true → (is_indf operand ≡ true → is_clear hidden (general_at (pointer r)) ≡ true)
      → access_of (kept_setting kept g) inside writes r operand ≡ seen_access kept (access_of g inside writes r operand)
  access_same true outside operand p e = access_seen operand (placed_only true operand p) (ap (λ (b : Bool). access_opens kept (not b) (access_of g inside writes r operand)) (outside refl) ∙ opens_free (access_of g inside writes r operand))
  access_same false outside operand p e = access_seen operand (placed_only false operand p) (opens_more (access_of g inside writes r operand) (access_open false operand p e) (not inside))
