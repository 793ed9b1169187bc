-- Assignments, `++` and `--`: what each rule says, by what its parts are.
use Rattle.std.proofs.Common.{◌≡◌, ℕ, Bool, true, false, not, if◌then◌else◌, [], ◌∷◌, Option, Some, None, Ok, refl, sym, ap, subst, ◌∙◌}
use Rattle.c_ints.specs.declared.operators.BinOp.{BinOp}
use Rattle.c_typed.specs.Sameness.{same_type, is_struct}
use Rattle.c_typed.specs.Trees as typed
use Rattle.c_typed.specs.Trees.{Expression, Place}
use Rattle.c_typed.specs.Types.{type_of, place_type}
use Rattle.c_typed.specs.declared.expression.StepOp.{StepOp}
use Rattle.c_typed.specs.declared.types.Ty.{Ty}
use Rattle.c_typed.specs.declared.types.Ty.TheVariants.{Void, Int, Pointer, Array, Struct}
use Rattle.type_rules.specs.Conversions.{converted, assigned}
use Rattle.type_rules.specs.Faults as kind
use Rattle.type_rules.specs.Known.{Known, Rule, given, tried, wanted, known_here, go_on, ◌>>=◌}
use Rattle.type_rules.specs.Operations.{Operation, operation_of, counts_in, element_bytes}
use Rattle.type_rules.specs.Rows.{bytes_of}
use Rattle.type_rules.specs.Terms.{Term, Operand, Side, side_of, value_term, no_table}
use Rattle.type_rules.specs.Writes.{written_place, structure_read, copy, simple_assignment, keeps_type, compound_assignment, counted, stepped}
use Rattle.c_tables.specs.Answers.{Refuses}
use Rattle.c_tables.specs.declared.error.CheckError.{CheckError}
use Rattle.c_tables.proofs.Steps.{then_refuses}

-- ---- `=`

abbrev source_then : Place → ℕ → Known → Option Place → Rule Term
source_then place line known source = wanted kind.Convert line source >>= (λ from. given (value_term (typed.StructAssign place from (bytes_of known (place_type place).ty) line) line))

abbrev copy_then : Place → Operand → ℕ → Known → Bool → Rule Term
copy_then place x line known same = tried ((not same, kind.Convert) ∷ []) line >>= (λ _. source_then place line known (structure_read x.value))

pub is_copied : (place : Place) (x : Operand) (line : ℕ) (known : Known) (from : Place) → same_type (type_of x.value) (place_type place).ty ≡ true → structure_read x.value ≡ Some from → copy place x line known ≡ Ok (value_term (typed.StructAssign place from (bytes_of known (place_type place).ty) line) line, known)
is_copied place x line known from h some = ap (λ same. copy_then place x line known same known) h ∙ ap (λ source. source_then place line known source known) some

abbrev assign_then : Ty → Place → ℕ → Expression → Rule Term
assign_then ty place line value = given (value_term (typed.Assign place value ty line) line)

of_scalar : (ty : Ty) (place : Place) (x : Operand) (line : ℕ) (known : Known) → is_struct ty ≡ false → simple_assignment ty place x line known ≡ go_on (assign_then ty place line) (assigned x ty line known)
of_scalar Void place x line known h = refl
of_scalar (Int ty) place x line known h = refl
of_scalar (Pointer row) place x line known h = refl
of_scalar (Array row count size) place x line known h = refl
of_scalar (Struct number) place x line known h = cc

pub not_assigned : (ty : Ty) (place : Place) (x : Operand) (line : ℕ) (known : Known) (e : CheckError) → is_struct ty ≡ false → Refuses e (assigned x ty line known) → Refuses e (simple_assignment ty place x line known)
not_assigned ty place x line known e h r = subst (Refuses e) (sym (of_scalar ty place x line known h)) (then_refuses (assigned x ty line) (assign_then ty place line) known e r)

pub is_assigned : (ty : Ty) (place : Place) (x : Operand) (line : ℕ) (known mid : Known) (value : Expression) → is_struct ty ≡ false → assigned x ty line known ≡ Ok (value, mid) → simple_assignment ty place x line known ≡ Ok (value_term (typed.Assign place value ty line) line, mid)
is_assigned ty place x line known mid value h e = of_scalar ty place x line known h ∙ ap (go_on (assign_then ty place line)) e

-- ---- `op=`

abbrev pub written_side : Place → Side
written_side place = record { ty = (place_type place).ty; null = false }

abbrev pub updated : BinOp → Place → Operand → ℕ → Operation → Term
updated op place x line found = value_term (typed.Update op place (converted x found.right) found.left found.size (place_type place).ty line) line

abbrev kept_then : BinOp → Place → Operand → ℕ → Operation → Bool → Rule Term
kept_then op place x line found keeps = tried ((not keeps, kind.Convert) ∷ []) line >>= (λ _. given (updated op place x line found))

abbrev compound_then : BinOp → Place → Operand → ℕ → Option Operation → Rule Term
compound_then op place x line found = wanted kind.Operand line found >>= (λ f. kept_then op place x line f (keeps_type f.node (place_type place).ty f.ty))

pub is_updated : (op : BinOp) (place : Place) (x : Operand) (line : ℕ) (known : Known) (found : Operation) → operation_of known op (written_side place) (side_of x) ≡ Some found → keeps_type found.node (place_type place).ty found.ty ≡ true → compound_assignment op place x line known ≡ Ok (updated op place x line found, known)
is_updated op place x line known found h keeps = ap (λ f. compound_then op place x line f known) h ∙ ap (λ k. kept_then op place x line found k known) keeps

-- ---- `++` and `--`

abbrev counted_in : Known → ℕ → Bool → Option (Ty × ℕ)
counted_in known row counts = if counts then Some (Pointer row, element_bytes known row) else None

pub counts_pointer : (known : Known) (row size : ℕ) → counts_in known row ≡ true → size ≡ element_bytes known row → Some (Pointer row, size) ≡ counted known (Pointer row)
counts_pointer known row size h e = ap (λ n. Some (Pointer row, n)) e ∙ sym (ap (counted_in known row) h)

pub no_count : (known : Known) (row : ℕ) → counts_in known row ≡ false → None ≡ counted known (Pointer row)
no_count known row h = sym (ap (counted_in known row) h)

abbrev pub step_term : StepOp → Place → ℕ → Ty × ℕ → Term
step_term op place line found = value_term (typed.Step op place found.0 found.1 (place_type place).ty line) line

abbrev counted_then : StepOp → Place → ℕ → Option (Ty × ℕ) → Rule Term
counted_then op place line found = wanted kind.Operand line found >>= (λ f. given (step_term op place line f))

abbrev step_then : StepOp → ℕ → Place → Rule Term
step_then op line place = known_here >>= (λ known. counted_then op place line (counted known (place_type place).ty))

abbrev table_then : StepOp → Term → ℕ → Rule Term
table_then op t line = wanted kind.Assign line (written_place t.form) >>= step_then op line

place_stepped : (op : StepOp) (t : Term) (line : ℕ) (known mid : Known) (place : Place) → no_table t known ≡ Ok (known, known) → wanted kind.Assign line (written_place t.form) known ≡ Ok (place, mid) → stepped op t line known ≡ counted_then op place line (counted mid (place_type place).ty) mid
place_stepped op t line known mid place h w = ap (go_on (λ _. table_then op t line)) h ∙ ap (go_on (step_then op line)) w

pub is_stepped : (op : StepOp) (t : Term) (line : ℕ) (known mid : Known) (place : Place) (found : Ty × ℕ) → no_table t known ≡ Ok (known, known) → wanted kind.Assign line (written_place t.form) known ≡ Ok (place, mid) → counted mid (place_type place).ty ≡ Some found → stepped op t line known ≡ Ok (step_term op place line found, mid)
is_stepped op t line known mid place found h w some = place_stepped op t line known mid place h w ∙ ap (λ f. counted_then op place line f mid) some
