-- Values for which the source has no answer: the run is undefined there, and nothing is asked of byte code.
use Rattle.std.proofs.Common.{ℕ, Bool, List, ◌∷◌, Option, Some, None}
use Rattle.c_ints.specs.declared.operators.BinOp.{BinOp}
use Rattle.c_typed.specs.Trees as tree
use Rattle.c_typed.specs.Trees.{Expression, Place, Program}
use Rattle.c_typed.specs.Words.{step_operator}
use Rattle.c_typed.specs.declared.expression.StepOp.{StepOp}
use Rattle.c_typed.specs.declared.types.Ty.{Ty}
use Rattle.c_typed.specs.declared.types.Ty.TheVariants as types
use Rattle.core_code.specs.Machine.{Machine}
use Rattle.pic_world.specs.World.{World, arrived}
use Rattle.src_rules.specs.Giving.{answered, changes}
use Rattle.src_rules.specs.Step.{act}
use Rattle.src_values.specs.Control.{Focus, Holds, At, AtWith, One, Pending, In, active}
use Rattle.src_values.specs.Data as datum
use Rattle.src_values.specs.Data.{Datum}
use Rattle.src_values.specs.Memory as source
use Rattle.src_values.specs.Values as answers
use Rattle.src_values.specs.Values.{Answer, bad_right, binary_answer, change_answer, converted, difference_answer, offset_answer, on_values, one_in, then_converted, unless_bad}
use Rattle.src_values.specs.declared.objects.Byte.{Byte}
use Rattle.src_values.specs.declared.objects.CopyOf.{CopyOf}
use Rattle.src_values.specs.declared.objects.Pointer.TheVariants.{Null, Into}
use Rattle.src_values.specs.declared.objects.Spot.{Spot}
use Rattle.src_values.specs.declared.objects.Undef.{Undef}
use Rattle.lower_trace.proofs.CodeLeft.{Scene}
use Rattle.lower_trace.proofs.Leads.{Led, Law, led_nowhere}

abbrev pub IsNone : Answer → Type 0
IsNone (answers.Gives v) = ⊥
IsNone (answers.Fails kind) = Unit {0}
IsNone answers.Strays = Unit {0}

pub none_answered : (z : Scene) (x : Focus) (stack : List Pending) (a : Answer) (line : ℕ) (k : List Pending) (cp : CopyOf) (l : source.Memory) (w : World Byte) (c : Machine) → IsNone a → Led z x stack c (answered a line k cp l w)
none_answered z x stack (answers.Gives v) line k cp l w c h = absurd h
none_answered z x stack (answers.Fails kind) line k cp l w c h = led_nowhere z x stack c _ (λ q l. tt)
none_answered z x stack answers.Strays line k cp l w c h = led_nowhere z x stack c _ (λ q l. tt)

none_changed : (z : Scene) (x : Focus) (stack : List Pending) (a : Answer) (e : Expression) (spot : Spot) (keeps : Bool) (old : Datum) (line : ℕ) (k : List Pending) (cp : CopyOf) (l : source.Memory) (w : World Byte) (c : Machine) → IsNone a → Led z x stack c (changes a e spot keeps old line k cp l w)
none_changed z x stack (answers.Gives v) e spot keeps old line k cp l w c h = absurd h
none_changed z x stack (answers.Fails kind) e spot keeps old line k cp l w c h = led_nowhere z x stack c _ (λ q l. tt)
none_changed z x stack answers.Strays e spot keeps old line k cp l w c h = led_nowhere z x stack c _ (λ q l. tt)

none_unless : (b : Option Undef) (a : Answer) → IsNone a → IsNone (unless_bad b a)
none_unless None a h = h
none_unless (Some kind) a h = tt

none_converted : (ty : Ty) (a : Answer) → IsNone a → IsNone (then_converted ty a)
none_converted ty (answers.Gives v) h = absurd h
none_converted ty (answers.Fails kind) h = tt
none_converted ty answers.Strays h = tt

-- two values of an operator that are neither integers nor pointers
abbrev pub AreApart : Datum → Datum → Type 0
AreApart (datum.Number x) (datum.Number y) = ⊥
AreApart (datum.Pointer x) (datum.Pointer y) = ⊥
AreApart u v = Unit {0}

none_values : (p : Program) (live : List CopyOf) (op : BinOp) (u v : Datum) → AreApart u v → IsNone (on_values p live op u v)
none_values p live op (datum.Number x) (datum.Number y) h = absurd h
none_values p live op (datum.Number x) (datum.Pointer y) h = tt
none_values p live op (datum.Number x) datum.Missing h = tt
none_values p live op (datum.Pointer x) (datum.Number y) h = tt
none_values p live op (datum.Pointer x) (datum.Pointer y) h = absurd h
none_values p live op (datum.Pointer x) datum.Missing h = tt
none_values p live op datum.Missing (datum.Number y) h = tt
none_values p live op datum.Missing (datum.Pointer y) h = tt
none_values p live op datum.Missing datum.Missing h = tt

pub none_binary : (p : Program) (live : List CopyOf) (op : BinOp) (ty : Ty) (u v : Datum) → AreApart u v → IsNone (binary_answer p live op ty u v)
unfolding binary_answer
none_binary p live op ty u v h = none_unless (bad_right op ty v) (on_values p live op u v) (none_values p live op u v h)

pub apart_binaries : (z : Scene) (op : BinOp) (left right : Expression) (ty : Ty) (line : ℕ) (u v : Datum) (k : List Pending) → AreApart u v → Law z (Holds v) (In (tree.Binary op left right ty line) (One u) ∷ k)
unfolding act
apart_binaries z op left right ty line u v k h cp l w c known due m =
    none_answered z _ _ (binary_answer z.program (active cp (Holds v) k) op ty u v) line k cp l (arrived z.outside w) c (none_binary z.program (active cp (Holds v) k) op ty u v h)

-- no pointer and integer
abbrev pub NoOffset : Datum → Datum → Type 0
NoOffset (datum.Pointer x) (datum.Number q) = ⊥
NoOffset (datum.Number q) (datum.Pointer x) = ⊥
NoOffset u v = Unit {0}

none_offset : (p : Program) (op : BinOp) (size : ℕ) (u v : Datum) → NoOffset u v → IsNone (offset_answer p op size u v)
unfolding offset_answer
none_offset p op size (datum.Number x) (datum.Number y) h = tt
none_offset p op size (datum.Number x) (datum.Pointer y) h = absurd h
none_offset p op size (datum.Number x) datum.Missing h = tt
none_offset p op size (datum.Pointer x) (datum.Number y) h = absurd h
none_offset p op size (datum.Pointer x) (datum.Pointer y) h = tt
none_offset p op size (datum.Pointer x) datum.Missing h = tt
none_offset p op size datum.Missing (datum.Number y) h = tt
none_offset p op size datum.Missing (datum.Pointer y) h = tt
none_offset p op size datum.Missing datum.Missing h = tt

pub apart_offsets : (z : Scene) (op : BinOp) (left right : Expression) (size : ℕ) (ty : Ty) (line : ℕ) (u v : Datum) (k : List Pending) → NoOffset u v → Law z (Holds v) (In (tree.Offset op left right size ty line) (One u) ∷ k)
unfolding act
apart_offsets z op left right size ty line u v k h cp l w c known due m =
    none_answered z _ _ (offset_answer z.program op size u v) line k cp l (arrived z.outside w) c (none_offset z.program op size u v h)

-- no two pointers
abbrev pub NoDifference : Datum → Datum → Type 0
NoDifference (datum.Pointer x) (datum.Pointer y) = ⊥
NoDifference u v = Unit {0}

none_difference : (size : ℕ) (u v : Datum) → NoDifference u v → IsNone (difference_answer size u v)
unfolding difference_answer
none_difference size (datum.Number x) (datum.Number y) h = tt
none_difference size (datum.Number x) (datum.Pointer y) h = tt
none_difference size (datum.Number x) datum.Missing h = tt
none_difference size (datum.Pointer Null) (datum.Number y) h = tt
none_difference size (datum.Pointer (Into o f)) (datum.Number y) h = tt
none_difference size (datum.Pointer x) (datum.Pointer y) h = absurd h
none_difference size (datum.Pointer Null) datum.Missing h = tt
none_difference size (datum.Pointer (Into o f)) datum.Missing h = tt
none_difference size datum.Missing (datum.Number y) h = tt
none_difference size datum.Missing (datum.Pointer y) h = tt
none_difference size datum.Missing datum.Missing h = tt

pub apart_differences : (z : Scene) (left right : Expression) (size line : ℕ) (u v : Datum) (k : List Pending) → NoDifference u v → Law z (Holds v) (In (tree.Difference left right size line) (One u) ∷ k)
unfolding act
apart_differences z left right size line u v k h cp l w c known due m =
    none_answered z _ _ (difference_answer size u v) line k cp l (arrived z.outside w) c (none_difference size u v h)

-- ---- changes
-- the value of the place is missing
missing_old : (p : Program) (live : List CopyOf) (op : BinOp) (operation : Ty) (size : ℕ) (ty : Ty) (u : Datum) → IsNone (change_answer p live op operation size ty datum.Missing u)
unfolding change_answer converted offset_answer
missing_old p live op types.Void size ty u = none_converted ty (binary_answer p live op types.Void datum.Missing u) (none_binary p live op types.Void datum.Missing u tt)
missing_old p live op (types.Int o) size ty u = tt
missing_old p live op (types.Pointer row) size ty u = tt
missing_old p live op (types.Array element length bytes) size ty u = tt
missing_old p live op (types.Struct number) size ty u = tt

-- what it is changed by is missing
missing_by : (p : Program) (live : List CopyOf) (op : BinOp) (operation : Ty) (size : ℕ) (ty : Ty) (q : Datum) → IsNone (change_answer p live op operation size ty q datum.Missing)
unfolding change_answer converted
missing_by p live op types.Void size ty q = none_converted ty (binary_answer p live op types.Void datum.Missing datum.Missing) (none_binary p live op types.Void datum.Missing datum.Missing tt)
missing_by p live op (types.Int o) size ty (datum.Number x) = none_converted ty (binary_answer p live op (types.Int o) _ datum.Missing) (none_binary p live op (types.Int o) _ datum.Missing tt)
missing_by p live op (types.Int o) size ty (datum.Pointer x) = tt
missing_by p live op (types.Int o) size ty datum.Missing = tt
missing_by p live op (types.Pointer row) size ty q = none_converted ty (offset_answer p op size q datum.Missing) (none_offset p op size q datum.Missing (by q))
  where
    by : (q : Datum) → NoOffset q datum.Missing
    by (datum.Number x) = tt
    by (datum.Pointer x) = tt
    by datum.Missing = tt
missing_by p live op (types.Array element length bytes) size ty q = tt
missing_by p live op (types.Struct number) size ty q = tt

pub missing_updates : (z : Scene) (op : BinOp) (place : Place) (value : Expression) (operation : Ty) (size : ℕ) (ty : Ty) (line : ℕ) (spot : Spot) (u : Datum) (k : List Pending) → Law z (Holds datum.Missing) (In (tree.Update op place value operation size ty line) (AtWith spot u) ∷ k)
unfolding act
missing_updates z op place value operation size ty line spot u k cp l w c known due m =
    none_changed z _ _ (change_answer z.program (active cp (Holds datum.Missing) k) op operation size ty datum.Missing u) _ spot _ _ line k cp l (arrived z.outside w) c (missing_old z.program (active cp (Holds datum.Missing) k) op operation size ty u)

pub updates_missing : (z : Scene) (op : BinOp) (place : Place) (value : Expression) (operation : Ty) (size : ℕ) (ty : Ty) (line : ℕ) (spot : Spot) (v : Datum) (k : List Pending) → Law z (Holds v) (In (tree.Update op place value operation size ty line) (AtWith spot datum.Missing) ∷ k)
unfolding act
updates_missing z op place value operation size ty line spot v k cp l w c known due m =
    none_changed z _ _ (change_answer z.program (active cp (Holds v) k) op operation size ty v datum.Missing) _ spot _ _ line k cp l (arrived z.outside w) c (missing_by z.program (active cp (Holds v) k) op operation size ty v)

pub missing_steps : (z : Scene) (op : StepOp) (place : Place) (operation : Ty) (size : ℕ) (ty : Ty) (line : ℕ) (spot : Spot) (k : List Pending) → Law z (Holds datum.Missing) (In (tree.Step op place operation size ty line) (At spot) ∷ k)
unfolding act
missing_steps z op place operation size ty line spot k cp l w c known due m =
    none_changed z _ _ (change_answer z.program (active cp (Holds datum.Missing) k) (step_operator op) operation size ty datum.Missing (one_in operation)) _ spot _ _ line k cp l (arrived z.outside w) c (missing_old z.program (active cp (Holds datum.Missing) k) (step_operator op) operation size ty (one_in operation))
