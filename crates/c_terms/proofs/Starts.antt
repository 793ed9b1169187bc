-- The pointer to the first element of an array.
use Rattle.std.proofs.Common.{◌≡◌, ℕ, Ok, Result, sym, ap, subst}
use Rattle.c_typed.specs.Trees as typed
use Rattle.c_typed.specs.Trees.{Expression, Place}
use Rattle.c_typed.specs.Types.{place_type}
use Rattle.c_typed.specs.declared.types.Qualified.{Qualified}
use Rattle.c_typed.specs.declared.types.Ty.{Ty}
use Rattle.c_typed.specs.declared.types.Ty.TheVariants.{Pointer}
use Rattle.type_rules.specs.Faults.{Fault}
use Rattle.type_rules.specs.Known.{Known, given}
use Rattle.type_rules.specs.Rows.{like, target_of, pointer_to, place_of_row, with_row}
use Rattle.type_rules.specs.Terms as rule
use Rattle.c_tables.specs.Answers.{Refuses}
use Rattle.c_tables.specs.declared.error.CheckError.{CheckError}
use Rattle.c_tables.proofs.Steps.{then_ok, out_of_memory}

pub start_refused : (e : CheckError) (target : Qualified) (known : Known) (said : Result (Expression × Known) Fault) → Refuses e (pointer_to target known) → Refuses e said
start_refused e target known said h = out_of_memory e (Pointer (place_of_row known.targets target), record known { targets = with_row known.targets target }) said h

pub start_is : (place : Place) (row line : ℕ) (known after : Known) (target : Qualified) (ty : Ty) (value : Expression) → target ≡ like (place_type place) (target_of known row).ty → pointer_to target known ≡ Ok (ty, after) → value ≡ typed.Address place ty line → rule.array_start place row line known ≡ Ok (value, after)
start_is place row line known after target ty value e h v =
    then_ok (pointer_to (like (place_type place) (target_of known row).ty)) (λ t. given (typed.Address place t line)) known after ty (Ok (value, after))
    (subst (λ t. pointer_to t known ≡ Ok (ty, after)) e h) (ap (λ x. Ok (x, after)) (sym v))
