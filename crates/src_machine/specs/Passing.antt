-- The values of arguments that wait for their call, and the parameters that get them.
use Rattle.std.specs.Prelude.{ℕ, ◌≤◌, ◌+◌, Bool, true, false, if◌then◌else◌, List, [], ◌∷◌, Option, Some, None}
use Rattle.c_typed.specs.Trees as tree
use Rattle.c_typed.specs.Trees.{Expression, Program}
use Rattle.pic_world.specs.World.{World}
use Rattle.src_rules.specs.Accesses.{goes}
use Rattle.src_rules.specs.State.{Outcome, Undefined}
use Rattle.src_rules.specs.Step.{with_value, with_values, has_missing, copy_of, body_of}
use Rattle.src_values.specs.Control as control
use Rattle.src_values.specs.Control.{Past, Passed, Called, In, Returns}
use Rattle.src_values.specs.Data.{Datum}
use Rattle.src_values.specs.Memory.{Memory, fresh}
use Rattle.src_values.specs.Objects.{object_bytes}
use Rattle.src_values.specs.Seen.{datum_of}
use Rattle.src_values.specs.Values.{byte_count}
use Rattle.src_values.specs.declared.control.Pending.{Pending}
use Rattle.src_values.specs.declared.control.Pending.TheVariants as frames
use Rattle.src_values.specs.declared.objects.Byte.{Byte}
use Rattle.src_values.specs.declared.objects.CopyOf.{CopyOf}
use Rattle.src_values.specs.declared.objects.Datum.TheVariants as datums
use Rattle.src_values.specs.declared.objects.Object.TheVariants.{Variable}
use Rattle.src_values.specs.declared.objects.Undef.TheVariants.{Unset}

-- the values among what waits, and whether all of it is values
abbrev pub values_among : List Pending → List Datum
values_among [] = []
values_among (frames.Value v ∷ k) = datum_of v ∷ values_among k
values_among (_ ∷ k) = values_among k

abbrev pub is_value : Pending → Bool
is_value (frames.Value v) = true
is_value _ = false

abbrev pub value_in : Option Pending → Bool
value_in None = false
value_in (Some p) = is_value p

abbrev pub are_values : List Pending → Bool
are_values [] = true
are_values (frames.Value v ∷ k) = are_values k
are_values (_ ∷ k) = false

-- a value that is missing
abbrev pub missing_in : Option Pending → Bool
missing_in (Some (frames.Value datums.Missing)) = true
missing_in _ = false

-- the memory when a variable has got what waits, if that is a value
abbrev pub given : Memory → CopyOf → ℕ → Option Pending → Memory
given m c n (Some (frames.Value v)) = with_value m (Variable c n) (datum_of v)
given m c n _ = m

-- the variables of a copy from this number on have room for the values
abbrev pub FitFrom : Program → CopyOf → ℕ → List Datum → Type 0
FitFrom p c n [] = Unit {0}
FitFrom p c n (v ∷ vs) = (byte_count v ≤ object_bytes p (Variable c n)) × FitFrom p c (n + 1) vs

abbrev pub FitAt : Program → CopyOf → ℕ → Option Pending → Type 0
FitAt p c n (Some (frames.Value v)) = byte_count (datum_of v) ≤ object_bytes p (Variable c n)
FitAt p c n _ = Unit {0}

-- the parameters of the function that is called have room for the values of the arguments
abbrev pub FitCall : Program → CopyOf → List control.Pending → Type 0
FitCall p c (In (tree.Call f arguments ty line) (Passed values) ∷ k) = FitFrom p (copy_of c.root f) 0 values
FitCall p c _ = Unit {0}

-- a call with these values, of a function
abbrev pub called : Program → Expression → ℕ → ℕ → List Datum → List control.Pending → CopyOf → Memory → World Byte → Outcome
called p e f line values k c m w =
    if has_missing values then Undefined Unset line
    else goes (copy_of c.root f) Past (body_of p f (Returns c ∷ In e Called ∷ k)) (with_values (fresh m (copy_of c.root f)) (copy_of c.root f) 0 values) w
