-- Assignments, `++` and `--`, and calls.
use Rattle.std.proofs.Common.{◌≡◌, ℕ, ◌+◌, ◌≤◌, Bool, true, false, not, ◌&&◌, if◌then◌else◌, nat_eq, List, [], ◌∷◌, length, Option, Some, None, is_some, ap, arith}
use Rattle.std.proofs.lemmas.Option.{same_Some}
use Rattle.c_ints.specs.declared.operators.BinOp.{BinOp}
use Rattle.c_token.specs.declared.token.TokKind.{TokKind}
use Rattle.c_typed.specs.Sameness.{same_type}
use Rattle.c_typed.specs.TreeNodes.{nodes_in, nodes_of_all, nodes_at}
use Rattle.c_typed.specs.Trees as typed
use Rattle.c_typed.specs.Trees.{Expression, Place}
use Rattle.c_typed.specs.Types.{type_of, place_type}
use Rattle.c_typed.specs.declared.expression.StepOp.{StepOp}
use Rattle.c_typed.specs.declared.types.Ty.{Ty}
use Rattle.c_typed.specs.declared.types.Ty.TheVariants.{Void, Int, Pointer, Array, Struct}
use Rattle.type_rules.specs.Conversions.{converted, assigned}
use Rattle.type_rules.specs.Faults as kind
use Rattle.type_rules.specs.Known.{Known, given, go_on}
use Rattle.type_rules.specs.Operations.{operation_of}
use Rattle.type_rules.specs.Rows.{bytes_of}
use Rattle.type_rules.specs.Terms.{Form, ValueForm, PlaceForm, FunctionForm, TypeForm, Operand, Term, side_of, value_term, table_tests, is_written}
use Rattle.type_rules.specs.Writes.{written_place, structure_read, copy, simple_assignment, keeps_type, compound_assignment, assignment_by, sign_operator, assignment, counted, stepped, function_named, signature_in, definition_in, called, passed, call}
use Rattle.typed_laws.specs.Weights.{Met, held, Costs, nothing, operand_nodes, listed_nodes, form_nodes, IsTerm}
use Rattle.typed_laws.proofs.StepSizes.{met_given, met_on, met_tests, met_tried, met_wanted}
use Rattle.typed_laws.proofs.ValueSizes.{value_is, converted_nodes, assigned_met}

-- ---- what is written, and what is read

chosen_place : (b : Bool) (place found : Place) → (if b then Some place else None) ≡ Some found → nodes_at found ≤ nodes_at place
chosen_place true place found is = let same = ap nodes_at (same_Some place found is) in omega arith
chosen_place false place found is = absurd (cc is)

written_nodes : (form : Form) (place : Place) → written_place form ≡ Some place → nodes_at place ≤ form_nodes form
written_nodes (PlaceForm p reach) place is = chosen_place (is_written (PlaceForm p reach)) p place is
written_nodes (ValueForm value) place is = absurd (cc is)
written_nodes (FunctionForm number bare) place is = absurd (cc is)
written_nodes TypeForm place is = absurd (cc is)

pub read_nodes : (e : Expression) (from : Place) → structure_read e ≡ Some from → nodes_at from + 1 ≤ nodes_in e
unfolding nodes_in nodes_of_all nodes_at
read_nodes (typed.Read place ty line) from is = let same = ap nodes_at (same_Some place from is) in omega arith
read_nodes _ from is = absurd (cc is)

module _ (h m n : ℕ) (place : Place) (x : Operand) (line : ℕ) (known : Known) (to : nodes_at place + 2 ≤ m) (light : operand_nodes x ≤ n) (within : held known ≤ h) where
  copy_nodes : (from : Place) (size : ℕ) → structure_read x.value ≡ Some from → nodes_in (typed.StructAssign place from size line) + 2 ≤ m + n + 3
  unfolding nodes_in nodes_of_all nodes_at
  copy_nodes from size is = omega (arith, read_nodes x.value from is)

  copy_met : Met (IsTerm h (m + n + 3)) (copy place x line known)
  copy_met = met_tried _ ((not (same_type (type_of x.value) (place_type place).ty), kind.Convert) ∷ []) line known _ (met_wanted _ kind.Convert line (structure_read x.value) known _
      (λ from is. met_given _ _ _ (value_is h (m + n + 3) (typed.StructAssign place from (bytes_of known (place_type place).ty) line) line known (copy_nodes from (bytes_of known (place_type place).ty) is) within)))

  value_met : (ty : Ty) (k : Known) (e : Expression) → Costs h n nodes_in e k → IsTerm h (m + n + 3) (value_term (typed.Assign place e ty line) line) k
  unfolding nodes_in nodes_of_all nodes_at
  value_met ty k e c = value_is h (m + n + 3) (typed.Assign place e ty line) line k (omega arith) c.within

  scalar_met : (ty : Ty) → Met (IsTerm h (m + n + 3)) (go_on (λ value. given (value_term (typed.Assign place value ty line) line)) (assigned x ty line known))
  scalar_met ty = met_on (Costs h n nodes_in) _ _ _ (assigned_met h n x ty line known light within) (λ e k c. met_given _ _ _ (value_met ty k e c))

  simple_met : (ty : Ty) → Met (IsTerm h (m + n + 3)) (simple_assignment ty place x line known)
  simple_met (Struct number) = copy_met
  simple_met Void = scalar_met Void
  simple_met (Int i) = scalar_met (Int i)
  simple_met (Pointer row) = scalar_met (Pointer row)
  simple_met (Array row count size) = scalar_met (Array row count size)

  update_nodes : (op : BinOp) (ty operation result : Ty) (size : ℕ) → nodes_in (typed.Update op place (converted x ty) operation size result line) + 2 ≤ m + n + 3
  unfolding nodes_in nodes_of_all nodes_at
  update_nodes op ty operation result size = omega (arith, converted_nodes x ty)

  compound_met : (op : BinOp) → Met (IsTerm h (m + n + 3)) (compound_assignment op place x line known)
  compound_met op = met_wanted _ kind.Operand line (operation_of known op (record { ty = (place_type place).ty; null = false }) (side_of x)) known _
      (λ found is. met_tried _ ((not (keeps_type found.node (place_type place).ty found.ty), kind.Convert) ∷ []) line known _ (met_given _ _ _
      (value_is h (m + n + 3) (typed.Update op place (converted x found.right) found.left found.size (place_type place).ty line) line known (update_nodes op found.right found.left (place_type place).ty found.size) within)))

  assignment_by_met : (found : Option BinOp) → Met (IsTerm h (m + n + 3)) (assignment_by found place x line known)
  assignment_by_met None = simple_met (place_type place).ty
  assignment_by_met (Some op) = compound_met op

pub assignment_met : (h m n : ℕ) (sign : TokKind) (target : Term) (x : Operand) (known : Known) → form_nodes target.form + 2 ≤ m → operand_nodes x ≤ n → held known ≤ h → Met (IsTerm h (m + n + 3)) (assignment sign target x known)
assignment_met h m n sign target x known to light within = met_wanted _ kind.Assign target.start (written_place target.form) known _
    (λ place is. assignment_by_met h m n place x target.start known (omega (arith, written_nodes target.form place is)) light within (sign_operator sign))

-- ---- `++` and `--`

step_nodes : (n : ℕ) (op : StepOp) (place : Place) (operation result : Ty) (size line : ℕ) → nodes_at place + 2 ≤ n → nodes_in (typed.Step op place operation size result line) + 2 ≤ n + 1
unfolding nodes_in nodes_of_all nodes_at
step_nodes n op place operation result size line light = omega arith

pub stepped_met : (h n : ℕ) (op : StepOp) (t : Term) (line : ℕ) (known : Known) → IsTerm h n t known → Met (IsTerm h (n + 1)) (stepped op t line known)
stepped_met h n op t line known g = met_tried _ (table_tests t.form) t.line known _ (met_wanted _ kind.Assign line (written_place t.form) known _
    (λ place written. met_wanted _ kind.Operand line (counted known (place_type place).ty) known _ (λ found is. met_given _ _ _
    (value_is h (n + 1) (typed.Step op place found.0 found.1 (place_type place).ty line) line known
    (step_nodes n op place found.0 (place_type place).ty found.1 line (omega (arith, written_nodes t.form place written))) g.within))))

-- ---- calls

pub called_met : (h : ℕ) (t : Term) (known : Known) → held known ≤ h → Met (Costs h 0 nothing) (called t known)
called_met h t known within = met_tried _ (table_tests t.form) t.line known _
    (met_tests _ ((is_some (function_named t.form) && not (is_some (definition_in (signature_in known (function_named t.form)))), kind.Name) ∷ []) t.line known (record { light = omega arith; within = within }))

passed_met : (h : ℕ) (xs : List Operand) (types : List Ty) (line : ℕ) (known : Known) → held known ≤ h → Met (Costs h (listed_nodes xs) nodes_of_all) (passed xs types line known)
unfolding nodes_in nodes_of_all nodes_at
passed_met h [] types line known within = met_given _ _ _ (record { light = omega arith; within = within })
passed_met h (x ∷ xs) [] line known within = met_given _ _ _ (record { light = omega arith; within = within })
passed_met h (x ∷ xs) (ty ∷ types) line known within = met_on (Costs h (operand_nodes x) nodes_in) _ _ _ (assigned_met h (operand_nodes x) x ty line known (omega arith) within)
    (λ value k c. met_on (Costs h (listed_nodes xs) nodes_of_all) _ _ _ (passed_met h xs types line k c.within)
    (λ values k2 d. met_given _ _ _ (record { light = omega arith; within = d.within })))

call_nodes : (n function line : ℕ) (values : typed.Expressions) (ty : Ty) → nodes_of_all values ≤ n → nodes_in (typed.Call function values ty line) + 2 ≤ n + 3
unfolding nodes_in nodes_of_all nodes_at
call_nodes n function line values ty light = omega arith

pub call_met : (h n : ℕ) (t : Term) (arguments : List Operand) (known : Known) → listed_nodes arguments ≤ n → held known ≤ h → Met (IsTerm h (n + 3)) (call t arguments known)
call_met h n t arguments known light within = met_wanted _ kind.Call t.start (signature_in known (function_named t.form)) known _ (λ s is. met_wanted _ kind.Name t.start s.definition known _
    (λ function defined. met_tried _ ((not (nat_eq (length s.params) (length arguments)), kind.Call) ∷ []) t.start known _ (met_on (Costs h (listed_nodes arguments) nodes_of_all) _ _ _ (passed_met h arguments s.params t.start known within)
    (λ values k c. met_given _ _ _ (value_is h (n + 3) (typed.Call function values (s.result).ty t.start) t.start k (call_nodes n function t.start values (s.result).ty (omega arith)) c.within)))))
