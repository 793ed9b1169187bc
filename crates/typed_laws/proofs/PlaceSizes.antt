-- Operators on places: `* & [] . ->` and `sizeof`.
use Rattle.std.proofs.Common.{ℕ, ◌+◌, ◌≤◌, ◌%◌, Bool, true, false, not, if◌then◌else◌, List, [], ◌∷◌, arith}
use Rattle.c_ints.specs.declared.operators.BinOp.TheVariants as binop
use Rattle.c_ints.specs.declared.types.IntTy.TheVariants as int
use Rattle.c_typed.specs.TreeNodes.{nodes_in, nodes_of_all, nodes_at}
use Rattle.c_typed.specs.Trees as typed
use Rattle.c_typed.specs.Trees.{Place}
use Rattle.c_typed.specs.Types.{type_of, place_type}
use Rattle.c_typed.specs.declared.types.Qualified.{Qualified}
use Rattle.c_typed.specs.declared.types.Ty.{Ty}
use Rattle.type_rules.specs.Conversions.{converted}
use Rattle.type_rules.specs.Faults as kind
use Rattle.type_rules.specs.Known.{Known, given, go_on}
use Rattle.type_rules.specs.Operations.{Operation, operation_of}
use Rattle.type_rules.specs.Places.{pointed_type, object_pointed, reach_behind, dereference, keeps_place, before_index, element, address_of, address, member_in, part_type, member_of, member, pointed_member, size_of_type, measured, size_of_term}
use Rattle.type_rules.specs.Rows.{bytes_of, is_complete}
use Rattle.type_rules.specs.Terms.{Form, ValueForm, PlaceForm, FunctionForm, TypeForm, Operand, Term, side_of, as_term, number_of_type, table_tests, used, is_addressable, first_into}
use Rattle.typed_laws.specs.Weights.{Met, held, Costs, operand_nodes, form_nodes, IsTerm}
use Rattle.typed_laws.proofs.StepSizes.{met_given, met_broken, met_on, met_tried, met_wanted, term_more}
use Rattle.typed_laws.proofs.ValueSizes.{value_is, place_is, converted_nodes, indexed_met, used_met}

module _ (h n : ℕ) (x : Operand) (known : Known) (light : operand_nodes x ≤ n) (within : held known ≤ h) where
  pub dereference_met : (line : ℕ) → Met (IsTerm h (n + 2)) (dereference x line known)
  unfolding nodes_in nodes_of_all nodes_at
  dereference_met line = met_wanted _ kind.Operand line (object_pointed known (type_of x.value)) known _ (λ ty is. met_given _ _ _ (place_is h (n + 2) (typed.Deref x.value ty line) (reach_behind x.into) line known (omega arith) within))

-- ---- `e[i]`

before_by : (h n : ℕ) (b : Bool) (t : Term) (known : Known) → IsTerm h n t known → Met (IsTerm h (n + 1)) ((if b then given t else (λ k. go_on (λ x. given (as_term x)) (used t k))) known)
before_by h n true t known g = met_given _ _ _ (record { form_light = omega arith; listed_light = omega arith; within = g.within })
before_by h n false t known g = met_on (Costs h n operand_nodes) _ _ (λ x. given (as_term x)) (used_met h n t known g)
    (λ x k c. met_given _ _ _ (record { form_light = omega arith; listed_light = omega arith; within = c.within }))

pub before_met : (h n : ℕ) (t : Term) (known : Known) → IsTerm h n t known → Met (IsTerm h (n + 1)) (before_index t known)
before_met h n t known g = before_by h n (keeps_place t.form) t known g

element_nodes : (m n : ℕ) (x y : Operand) (found : Operation) (ty : Qualified) (line : ℕ) → operand_nodes x ≤ m → operand_nodes y ≤ n
    → nodes_at (typed.Deref (typed.Offset binop.Add (converted x found.left) (converted y found.right) found.size found.ty line) ty line) ≤ 2 + (m + n)
unfolding nodes_in nodes_of_all nodes_at
element_nodes m n x y found ty line left right = omega (arith, converted_nodes x found.left, converted_nodes y found.right)

pub element_met : (h m n : ℕ) (whole index : Term) (known : Known) → form_nodes whole.form + 2 ≤ m → IsTerm h n index known → Met (IsTerm h (m + n + 4)) (element whole index known)
element_met h m n whole index known first g = met_on (Costs h m operand_nodes) _ _ _ (indexed_met h m whole known first g.within)
    (λ x k c. met_on (Costs h n operand_nodes) _ _ _ (indexed_met h n index k g.form_light c.within)
    (λ y k2 d. met_wanted _ kind.Operand whole.start (operation_of k2 binop.Add (side_of x) (side_of y)) k2 _
    (λ found is. met_wanted _ kind.Operand whole.start (pointed_type k2 found.ty) k2 _ (λ ty pointed. met_given _ _ _
    (place_is h (m + n + 4) (typed.Deref (typed.Offset binop.Add (converted x found.left) (converted y found.right) found.size found.ty whole.start) ty whole.start) (reach_behind (first_into x.into y.into)) whole.start k2
    (omega (arith, element_nodes m n x y found ty whole.start c.light d.light)) d.within)))))

-- ---- `&`

address_of_met : (h n : ℕ) (form : Form) (line : ℕ) (known : Known) → form_nodes form + 2 ≤ n → held known ≤ h → Met (IsTerm h (n + 1)) (address_of form line known)
unfolding nodes_in nodes_of_all nodes_at
address_of_met h n (PlaceForm place reach) line known light within =
    met_tried _ ((not (is_addressable place reach), kind.Address) ∷ []) line known _ (met_given _ _ _ (record { form_light = omega arith; listed_light = omega arith; within = within }))
address_of_met h n (ValueForm value) line known light within = met_broken _ _
address_of_met h n (FunctionForm number bare) line known light within = met_broken _ _
address_of_met h n TypeForm line known light within = met_broken _ _

pub address_met : (h n : ℕ) (t : Term) (line : ℕ) (known : Known) → IsTerm h n t known → Met (IsTerm h (n + 1)) (address t line known)
address_met h n t line known g = met_tried _ (table_tests t.form) t.line known _ (address_of_met h n t.form line known g.form_light g.within)

-- ---- `.` and `->`

member_of_met : (h n : ℕ) (form : Form) (name : List ℕ) (line : ℕ) (known : Known) → form_nodes form + 2 ≤ n → held known ≤ h → Met (IsTerm h (n + 1)) (member_of form name line known)
unfolding nodes_in nodes_of_all nodes_at
member_of_met h n (PlaceForm place reach) name line known light within = met_wanted _ kind.Member line (member_in known (place_type place).ty name) known _
    (λ found is. met_given _ _ _ (place_is h (n + 1) (typed.Member place found.0 (found.1).offset (part_type (place_type place) (found.1).ty) line) reach line known (omega arith) within))
member_of_met h n (ValueForm value) name line known light within = met_broken _ _
member_of_met h n (FunctionForm number bare) name line known light within = met_broken _ _
member_of_met h n TypeForm name line known light within = met_broken _ _

pub member_met : (h n : ℕ) (t : Term) (name : List ℕ) (line : ℕ) (known : Known) → IsTerm h n t known → Met (IsTerm h (n + 1)) (member t name line known)
member_met h n t name line known g = met_tried _ (table_tests t.form) t.line known _ (member_of_met h n t.form name line known g.form_light g.within)

pub pointed_member_met : (h n : ℕ) (x : Operand) (name : List ℕ) (line : ℕ) (known : Known) → operand_nodes x ≤ n → held known ≤ h → Met (IsTerm h (n + 3)) (pointed_member x name line known)
pointed_member_met h n x name line known light within = met_wanted _ kind.Member line (object_pointed known (type_of x.value)) known _ (λ ty is. met_on (IsTerm h (n + 2)) _ _ _ (dereference_met h n x known light within line)
    (λ whole k g. term_more h (n + 2 + 1) (n + 3) _ (omega arith) (member_met h (n + 2) whole name line k g)))

-- ---- `sizeof`

pub size_of_type_met : (h : ℕ) (ty : Ty) (line : ℕ) (known : Known) → held known ≤ h → Met (IsTerm h 3) (size_of_type ty line known)
unfolding nodes_in nodes_of_all nodes_at
size_of_type_met h ty line known within = met_tried _ ((not (is_complete known ty), kind.Incomplete) ∷ []) line known _ (met_given _ _ _ (value_is h 3 (number_of_type int.UInt (bytes_of known ty % 65536) line) line known (omega arith) within))

pub size_of_term_met : (h : ℕ) (t : Term) (line : ℕ) (known : Known) → held known ≤ h → Met (IsTerm h 3) (size_of_term t line known)
size_of_term_met h t line known within = met_wanted _ kind.Operand line (measured t.form) known _ (λ ty is. size_of_type_met h ty line known within)
