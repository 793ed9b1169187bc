-- Whose bytes are, and where operands lead, by what the code looks at.
use Rattle.std.proofs.Common.{◌≡◌, ℕ, zero, suc, ◌+◌, ◌-◌, ◌*◌, ◌/◌, ◌%◌, ◌<◌, ◌≤◌, Bool, true, false, not, ◌&&◌, ◌||◌, if◌then◌else◌, List, [], ◌∷◌, ◌++◌, length, length-append, map, Option, Some, None, slice_get, refl, sym, ap, ◌∙◌, subst, arith}
use Rattle.std.proofs.lemmas.Option.{none-some}
use Rattle.std.specs.Prelude.{nat_eq, nat_le, nat_lt, slice_index_or}
use Rattle.pic_chip.specs.Address as chip
use Rattle.pic_chip.specs.Run.{Range, covers, object_at}
use Rattle.pic_world.specs.Registers.{is_register, lowest}
use Rattle.pic_world.specs.declared.Cell.TheVariants as cells
use Rattle.pic_world.specs.declared.Root.TheVariants.{Main, Isr}
use Rattle.pic_map.specs.declared.FrameLine.{FrameLine}
use Rattle.pic_map.specs.declared.ObjLine.{ObjLine}
use Rattle.core_code.specs.declared.code.Byte.{Byte}
use Rattle.core_code.specs.declared.code.Byte.TheVariants as bytes
use Rattle.sym_code.specs.Effect as effects
use Rattle.sym_code.specs.Layout as layouts
use Rattle.sym_code.specs.Layout.{DataLayout, Owner, owner, owner_by, covers_any, private_owner, no_range, no_frame, general_at, general_in}
use Rattle.sym_code.specs.declared.code.Operand.{Operand}
use Rattle.sym_code.specs.declared.code.Operand.TheVariants as operands
use Rattle.sym_code.specs.declared.code.Register.TheVariants.{Indf, Status, Fsr, Pclath}
use Rattle.code_place.specs.Layouts.{range_of, frame_of}
use Rattle.lean_code.specs.Changes as changes
use Rattle.lean_pass.specs.Owners.{AreOwners, kind, is_watched, own_by, near_by, access_by, general_aim, byte_aim, is_core, first_general, general_by, object_address, frame_address, owner_in}
use Rattle.lean_pass.specs.declared.owners.Whose.{Whose}
use Rattle.lean_pass.specs.declared.owners.Whose.TheVariants as whose

-- ---- owners
watched_by : (l : DataLayout) (rs : List Range) (i a : ℕ) → kind (owner_by l a (object_at rs i a)) ≡ (if is_watched rs a then whose.Watched else kind (owner_by l a None))
watched_by l [] i a = refl
watched_by l (r ∷ rs) i a = by_case (not r.constant && covers r a) (watched_by l rs (i + 1) a)
  where
    by_case : (c : Bool) → kind (owner_by l a (object_at rs (i + 1) a)) ≡ (if is_watched rs a then whose.Watched else kind (owner_by l a None))
        → kind (owner_by l a (if c then Some (cells.Static i (a - r.address)) else object_at rs (i + 1) a)) ≡ (if (if c then true else is_watched rs a) then whose.Watched else kind (owner_by l a None))
    by_case true e = refl
    by_case false e = e

pub kind_is : (l : DataLayout) (k : ℕ) → kind (owner l k) ≡ (if is_watched l.objects (chip.address_of k) then whose.Watched else (if covers_any l.objects (chip.address_of k) then whose.Constant else kind (private_owner l (chip.address_of k))))
unfolding owner
kind_is l k = watched_by l l.objects 0 (chip.address_of k) ∙ ap (λ (w : Whose). if is_watched l.objects (chip.address_of k) then whose.Watched else w) (by_case (covers_any l.objects (chip.address_of k)))
  where
    by_case : (c : Bool) → kind (if c then layouts.Constant else private_owner l (chip.address_of k)) ≡ (if c then whose.Constant else kind (private_owner l (chip.address_of k)))
    by_case true = refl
    by_case false = refl

own_kind : (inside : Bool) (o : Owner) → changes.is_own inside o ≡ own_by inside (kind o)
own_kind inside (layouts.Watched cell) = refl
own_kind inside layouts.Constant = refl
own_kind inside (layouts.Of Main) = refl
own_kind inside (layouts.Of Isr) = refl
own_kind inside layouts.Nobody = refl

near_kind : (inside : Bool) (o : Owner) → changes.is_near inside o ≡ near_by inside (kind o)
near_kind inside (layouts.Watched cell) = refl
near_kind inside layouts.Constant = refl
near_kind inside (layouts.Of Main) = refl
near_kind inside (layouts.Of Isr) = refl
near_kind inside layouts.Nobody = refl

pub own_is : (l : DataLayout) (inside : Bool) (k : ℕ) → changes.is_own inside (owner l k) ≡ own_by inside (kind (owner l k))
own_is l inside k = own_kind inside (owner l k)

pub near_is : (l : DataLayout) (inside : Bool) (k : ℕ) → changes.is_near inside (owner l k) ≡ near_by inside (kind (owner l k))
near_is l inside k = near_kind inside (owner l k)

-- ---- addresses
pub object_is : (lines : List ObjLine) (n : ℕ) → (slice_index_or (map range_of lines) n no_range).address ≡ object_address (slice_get lines n)
object_is [] n = refl
object_is (line ∷ lines) zero = refl
object_is (line ∷ lines) (suc n) = object_is lines n

pub frame_is : (lines : List FrameLine) (n : ℕ) → (slice_index_or (map frame_of lines) n no_frame).address ≡ frame_address (slice_get lines n)
frame_is [] n = refl
frame_is (line ∷ lines) zero = refl
frame_is (line ∷ lines) (suc n) = frame_is lines n

general_cases : (c2 c3 c4 c10 c11 c12 bank_0 high general register : Bool) (x y d : ℕ)
    → general_in (if c2 then chip.Pcl else if c3 then chip.Status else if c4 then chip.Fsr else if c10 then chip.Pclath else if c11 then chip.Intcon else if c12 then (if bank_0 then chip.Pir1 else chip.Pie1) else if high then chip.General x else if general then chip.General y else if register then chip.Device d else chip.Nothing)
    ≡ (if c2 || (c3 || (c4 || (c10 || (c11 || c12)))) then None else (if high then Some x else (if general then Some y else None)))
general_cases true c3 c4 c10 c11 c12 b h g r x y d = refl
general_cases false true c4 c10 c11 c12 b h g r x y d = refl
general_cases false false true c10 c11 c12 b h g r x y d = refl
general_cases false false false true c11 c12 b h g r x y d = refl
general_cases false false false false true c12 b h g r x y d = refl
general_cases false false false false false true true h g r x y d = refl
general_cases false false false false false true false h g r x y d = refl
general_cases false false false false false false b true g r x y d = refl
general_cases false false false false false false b false true r x y d = refl
general_cases false false false false false false b false false true x y d = refl
general_cases false false false false false false b false false false x y d = refl

pub general_is : (address : ℕ) → general_at address ≡ general_by (address / 128) (address % 128)
unfolding general_at
general_is address = by_place (address / 128) (address % 128)
  where
    by_place : (bank low : ℕ) → general_in (chip.place bank low) ≡ general_by bank low
    by_place bank low =
        general_cases (nat_eq low 2) (nat_eq low 3) (nat_eq low 4) (nat_eq low 10) (nat_eq low 11) (nat_eq low 12 && nat_lt bank 2) (nat_eq bank 0) (nat_le 0x70 low) (nat_le (first_general bank) low)
        (is_register (0x80 * bank + low)) (low - 0x20) (0x60 * bank + low - 0x20) (lowest (0x80 * bank + low))

-- ---- operands
access_kind : (inside writes : Bool) (k : ℕ) (o : Owner) → changes.aim_of (effects.access_by inside writes k o) ≡ access_by inside writes k (kind o)
access_kind inside writes k (layouts.Watched cell) = refl
access_kind inside true k layouts.Constant = refl
access_kind inside false k layouts.Constant = refl
access_kind true writes k (layouts.Of Main) = refl
access_kind false writes k (layouts.Of Main) = refl
access_kind true writes k (layouts.Of Isr) = refl
access_kind false writes k (layouts.Of Isr) = refl
access_kind inside writes k layouts.Nobody = refl

general_kind : (l : DataLayout) (inside writes : Bool) (o : Option ℕ) → changes.aim_of (effects.general_access l inside writes o) ≡ general_aim l inside writes o
general_kind l inside writes None = refl
general_kind l inside writes (Some k) = access_kind inside writes k (owner l k)

pub byte_is : (l : DataLayout) (inside writes : Bool) (byte : Byte) → changes.aim l inside writes (operands.Byte byte) ≡ byte_aim l inside writes byte
unfolding changes.aim
byte_is l inside writes (bytes.Static n offset) = general_kind l inside writes (general_at (layouts.address_of l (bytes.Static n offset)))
byte_is l inside writes (bytes.Frame c offset) = general_kind l inside writes (general_at (layouts.address_of l (bytes.Frame c offset)))
byte_is l inside writes (bytes.Result root k) = general_kind l inside writes (general_at (layouts.address_of l (bytes.Result root k)))
byte_is l inside writes (bytes.Device address) = refl

-- ---- the table of owners
pub owner_is : (l : DataLayout) (list : List Whose) (k : ℕ) → AreOwners l list → owner_in l k (slice_get list k) ≡ kind (owner l k)
owner_is l list k all = by_entry (slice_get list k) refl
  where
    by_entry : (o : Option Whose) → slice_get list k ≡ o → owner_in l k o ≡ kind (owner l k)
    by_entry None is = refl
    by_entry (Some w) is = all.listed k w is

pub owners_none : (l : DataLayout) (list : List Whose) → list ≡ [] → AreOwners l list
owners_none l list none = record { listed = λ k w got. absurd (none-some w (ap (λ (x : List Whose). slice_get x k) (sym none) ∙ got)) }

same_whose : (v w : Whose) → Some v ≡ Some w → w ≡ v
same_whose v w e = cc

push_is : (f : ℕ → Whose) (list : List Whose) (w : Whose) → w ≡ f (length list) → ((j : ℕ) (u : Whose) → slice_get list j ≡ Some u → u ≡ f j) → (k : ℕ) (v : Whose) → slice_get (list ++ w ∷ []) k ≡ Some v → v ≡ f k
push_is f [] w is before zero v got = same_whose w v got ∙ is
push_is f [] w is before (suc k) v got = absurd (none-some v got)
push_is f (x ∷ list) w is before zero v got = before 0 v got
push_is f (x ∷ list) w is before (suc k) v got = push_is (λ j. f (suc j)) list w is (λ j u h. before (suc j) u h) k v got

pub owners_more : (l : DataLayout) (list new : List Whose) (w : Whose) (n : ℕ) → new ≡ list ++ w ∷ [] → length list ≡ n → w ≡ kind (owner l n) → AreOwners l list → AreOwners l new
owners_more l list new w n put is so before = record { listed = λ k v got. push_is (λ j. kind (owner l j)) list w (so ∙ ap (λ j. kind (owner l j)) (sym is)) before.listed k v (ap (λ (x : List Whose). slice_get x k) (sym put) ∙ got) }

pub length_more : (list new : List Whose) (w : Whose) (n : ℕ) → new ≡ list ++ w ∷ [] → length list ≡ n → length new ≡ n + 1
length_more list new w n put is = ap length put ∙ length-append list (w ∷ []) ∙ ap (λ k. k + 1) is
