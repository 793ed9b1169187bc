-- Places that a run of a sound program comes to: a register that one names is in the table.
use Rattle.std.proofs.Common.{◌≡◌, ℕ, Bool, true, false, List, ◌∷◌, Some, None, refl, sym, subst}
use Rattle.std.proofs.lemmas.Bool.{and_parts, false≢true}
use Rattle.std.specs.Prelude.{if◌then◌else◌, is_some, nat_lt}
use Rattle.c_typed.specs.Fits.{is_device, is_named, place_rule_holds, register_type}
use Rattle.c_typed.specs.Trees as tree
use Rattle.c_typed.specs.Trees.{Expression, Item, Place, Program, Statement}
use Rattle.c_typed.specs.declared.expression.Object.{Object as Name}
use Rattle.c_typed.specs.declared.expression.Object.TheVariants as names
use Rattle.c_typed.specs.declared.types.Qualified.{Qualified}
use Rattle.c_typed.specs.declared.types.Ty.{Ty}
use Rattle.pic_world.specs.Registers.{name_at}
use Rattle.src_rules.specs.Parts.{IsExpressionOf, IsPlaceOf}
use Rattle.src_rules.specs.Standing.{CopyStands, Copying, Fetches, FetchStands, IsFound, IsSpotOf, IsWritten, SkimStands, Skims, SpellStands, Spells, StackStands, Writes, WriteStands, stepped}
use Rattle.src_values.specs.Control.{At, AtWith, Stores, Copies, Fills, Items, Pending, In, Doing}
use Rattle.src_values.specs.Data.{Datum}
use Rattle.src_values.specs.Objects.{spot_of}
use Rattle.src_values.specs.declared.objects.Byte.{Byte}
use Rattle.src_values.specs.declared.objects.CopyOf.{CopyOf}
use Rattle.src_values.specs.declared.objects.Pointer.TheVariants.{Null, Into}
use Rattle.src_values.specs.declared.objects.Spot.{Spot}
use Rattle.src_values.specs.declared.objects.Spot.TheVariants as spots

-- a register is one of the table
abbrev pub SpotIsNamed : Spot → Type 0
SpotIsNamed (spots.Device address) = is_some (name_at address) ≡ true
SpotIsNamed (spots.Bit register number) = is_some (name_at register) ≡ true
SpotIsNamed (spots.Memory x) = Unit {0}

pub stepped_named : (n : ℕ) (spot : Spot) → SpotIsNamed spot → SpotIsNamed (stepped n spot)
stepped_named n (spots.Device address) h = h
stepped_named n (spots.Bit register number) h = h
stepped_named n (spots.Memory Null) h = tt
stepped_named n (spots.Memory (Into object offset)) h = tt

pub at_named : (n : ℕ) (start spot : Spot) → spot ≡ stepped n start → SpotIsNamed start → SpotIsNamed spot
at_named n start spot e h = subst SpotIsNamed (sym e) (stepped_named n start h)

-- ---- fixed places
device_named : (device : Bool) (ty : Qualified) (local : Bool) → is_named local (if device then Some register_type else None) ty ≡ true → device ≡ true
device_named true ty local h = refl
device_named false ty local h = absurd (false≢true h)

name_named : (p : Program) (c : CopyOf) (object : Name) (ty : Qualified) (line : ℕ) → IsPlaceOf p c.function (tree.Name object ty line) → SpotIsNamed (spot_of p c object)
unfolding place_rule_holds is_device
name_named p c (names.Static n) ty line h = tt
name_named p c (names.Param n) ty line h = tt
name_named p c (names.Local n) ty line h = tt
name_named p c (names.Register address) ty line h = device_named (is_some (name_at address)) ty false h

bit_named : (p : Program) (c : CopyOf) (register number line : ℕ) → IsPlaceOf p c.function (tree.Bit register number line) → is_some (name_at register) ≡ true
unfolding place_rule_holds is_device
bit_named p c register number line h = (and_parts (is_some (name_at register)) (nat_lt number 8) h).0

pub place_named : (p : Program) (c : CopyOf) (place : Place) (spot : Spot) → IsPlaceOf p c.function place → IsSpotOf p c place spot → SpotIsNamed spot
place_named p c (tree.Name object ty line) spot h e = subst SpotIsNamed (sym e) (name_named p c object ty line h)
place_named p c (tree.Bit register number line) spot h e = subst SpotIsNamed (sym e) (bit_named p c register number line h)
place_named p c (tree.Member whole member offset ty line) spot h (x, y, of_whole, to, e) = subst SpotIsNamed (sym e) tt
place_named p c (tree.Deref pointer ty line) spot h (x, is, e) = subst SpotIsNamed (sym e) tt

-- ---- what the node on top reads and writes
found_named : (p : Program) (c : CopyOf) (e : Expression) (spot : Spot) → IsExpressionOf p c.function e → IsFound p c e spot → SpotIsNamed spot
found_named p c (tree.Read place ty line) spot h f = place_named p c place spot h.1 f
found_named p c (tree.Assign place value ty line) spot h f = place_named p c place spot h.1 f
found_named p c (tree.StructAssign place from size line) spot h f = place_named p c place spot h.1 f
found_named p c (tree.Update op place value operation size ty line) spot h f = place_named p c place spot h.1 f
found_named p c (tree.Step op place operation size ty line) spot h f = place_named p c place spot h.1 f
found_named p c _ spot h f = absurd f

written_named : (p : Program) (c : CopyOf) (e : Expression) (spot : Spot) → IsExpressionOf p c.function e → IsWritten p c e spot → SpotIsNamed spot
written_named p c (tree.Assign place value ty line) spot h f = place_named p c place spot h.1 f
written_named p c (tree.Update op place value operation size ty line) spot h f = place_named p c place spot h.1 f
written_named p c (tree.Step op place operation size ty line) spot h f = place_named p c place spot h.1 f
written_named p c _ spot h f = absurd f

module _ (p : Program) (c : CopyOf) where
  fetches_named : (k : List Pending) (start : Spot) → StackStands p c k → Fetches k start → SpotIsNamed start
  fetches_named (In (tree.Read place ty line) (At found) ∷ k) start h e = subst SpotIsNamed (sym e) (found_named p c (tree.Read place ty line) found h.0 h.2)
  fetches_named (In (tree.Update op place value operation size ty line) (AtWith found u) ∷ k) start h e =
      subst SpotIsNamed (sym e) (found_named p c (tree.Update op place value operation size ty line) found h.0 h.2.0)
  fetches_named (In (tree.Step op place operation size ty line) (At found) ∷ k) start h e = subst SpotIsNamed (sym e) (found_named p c (tree.Step op place operation size ty line) found h.0 h.2)
  fetches_named _ start h e = absurd e

  pub fetch_named : (k : List Pending) (spot : Spot) (read : List Byte) → StackStands p c k → FetchStands p k spot read → SpotIsNamed spot
  fetch_named k spot read h f = at_named _ f.start spot f.at (fetches_named k f.start h f.node)

  skims_named : (k : List Pending) (start : Spot) → StackStands p c k → Skims k start → SpotIsNamed start
  skims_named (In (tree.Read place ty line) (At found) ∷ k) start h e = subst SpotIsNamed (sym e) (found_named p c (tree.Read place ty line) found h.0 h.2)
  skims_named _ start h e = absurd e

  pub skim_named : (k : List Pending) (spot : Spot) (left : ℕ) → StackStands p c k → SkimStands p k spot left → SpotIsNamed spot
  skim_named k spot left h f = at_named f.done f.start spot f.at (skims_named k f.start h f.node)

  writes_named : (k : List Pending) (start : Spot) (ty : Ty) → StackStands p c k → Writes p c k start ty → SpotIsNamed start
  writes_named (In e (Stores found u) ∷ k) start ty h w = subst SpotIsNamed (sym w.0) (written_named p c e found h.0 h.2.0)
  writes_named (Doing (tree.InitScalar local e line) Fills ∷ k) start ty h w = subst SpotIsNamed (sym w.0) tt
  writes_named (Doing (tree.InitList local all line) (Items (tree.Scalar offset e) rest) ∷ k) start ty h w = subst SpotIsNamed (sym w.0) tt
  writes_named _ start ty h w = absurd w

  pub write_named : (k : List Pending) (spot : Spot) (v : Datum) (at : ℕ) → StackStands p c k → WriteStands p c k spot v at → SpotIsNamed spot
  write_named k spot v at h w = at_named at w.start spot w.there (writes_named k w.start w.type h w.node)

  copying_named : (k : List Pending) (to from : Spot) (n : ℕ) → StackStands p c k → Copying p c k to from n → SpotIsNamed to × SpotIsNamed from
  copying_named (In (tree.StructAssign place other size line) Copies ∷ k) to from n h (t, f, e) = (place_named p c place to h.0.1 t, place_named p c other from h.0.2 f)
  copying_named (Doing (tree.InitList local all line) (Items (tree.Struct offset other size) rest) ∷ k) to from n h (t, f, e) =
      (subst SpotIsNamed (sym t) tt, place_named p c other from h.2.1.1.2 f)
  copying_named _ to from n h e = absurd e

  pub copy_named : (k : List Pending) (to from : Spot) (left : ℕ) → StackStands p c k → CopyStands p c k to from left → SpotIsNamed to × SpotIsNamed from
  copy_named k to from left h f =
      let both = copying_named k f.first f.other f.size h f.node in
      (at_named f.done f.first to f.written both.0, at_named f.done f.other from f.read both.1)

  spells_named : (k : List Pending) (spot : Spot) (whole : List ℕ) (n : ℕ) → Spells p c k spot whole n → SpotIsNamed spot
  spells_named (Doing (tree.InitList local all line) (Items (tree.Text offset text size) rest) ∷ k) spot whole n e = subst SpotIsNamed (sym e.0) tt
  spells_named _ spot whole n e = absurd e

  pub spell_named : (k : List Pending) (spot : Spot) (text : List ℕ) (left : ℕ) → SpellStands p c k spot text left → SpotIsNamed spot
  spell_named k spot text left f = at_named f.done f.start spot f.written (spells_named k f.start f.whole f.size f.node)
