-- Values of expressions, and conversions: a node each.
use Rattle.std.proofs.Common.{ℕ, ◌+◌, ◌≤◌, Bool, true, false, not, if◌then◌else◌, [], ◌∷◌, arith}
use Rattle.c_typed.specs.Sameness.{same_type}
use Rattle.c_typed.specs.TreeNodes.{nodes_in, nodes_of_all, nodes_at}
use Rattle.c_typed.specs.Trees as typed
use Rattle.c_typed.specs.Trees.{Expression, Place}
use Rattle.c_typed.specs.Types.{type_of, place_type}
use Rattle.c_typed.specs.declared.types.Ty.{Ty}
use Rattle.c_typed.specs.declared.types.Ty.TheVariants.{Array}
use Rattle.type_rules.specs.Conversions.{converted, may_be_assigned, assigned}
use Rattle.type_rules.specs.Faults as kind
use Rattle.type_rules.specs.Known.{Known, given}
use Rattle.type_rules.specs.Terms.{Reach, Form, ValueForm, PlaceForm, FunctionForm, TypeForm, Operand, Term, side_of, value_term, place_term, table_tests, as_operand, value_at, in_place, value_in, used}
use Rattle.typed_laws.specs.Weights.{Met, held, Costs, operand_nodes, form_nodes, IsTerm}
use Rattle.typed_laws.proofs.StepSizes.{met_given, met_broken, met_on, met_tried}

pub value_is : (h n : ℕ) (e : Expression) (line : ℕ) (k : Known) → nodes_in e + 2 ≤ n → held k ≤ h → IsTerm h n (value_term e line) k
value_is h n e line k light within = record { form_light = light; listed_light = omega arith; within = within }

pub place_is : (h n : ℕ) (place : Place) (reach : Reach) (line : ℕ) (k : Known) → nodes_at place + 2 ≤ n → held k ≤ h → IsTerm h n (place_term place reach line) k
place_is h n place reach line k light within = record { form_light = light; listed_light = omega arith; within = within }

-- ---- conversions

by_same : (b : Bool) (v : Expression) (ty : Ty) (line : ℕ) → nodes_in (if b then v else typed.Convert v ty line) ≤ nodes_in v + 1
unfolding nodes_in nodes_of_all nodes_at
by_same true v ty line = omega arith
by_same false v ty line = omega arith

pub converted_nodes : (x : Operand) (ty : Ty) → nodes_in (converted x ty) ≤ operand_nodes x
converted_nodes x ty = by_same (same_type (type_of x.value) ty) x.value ty x.line

pub assigned_met : (h n : ℕ) (x : Operand) (ty : Ty) (line : ℕ) (known : Known) → operand_nodes x ≤ n → held known ≤ h → Met (Costs h n nodes_in) (assigned x ty line known)
assigned_met h n x ty line known light within = met_tried _ ((not (may_be_assigned known (side_of x) ty), kind.Convert) ∷ []) line known _ (met_given _ _ _ (record { light = omega (arith, converted_nodes x ty); within = within }))

-- ---- the value of an expression

value_at_met : (h : ℕ) (place : Place) (ty : Ty) (line : ℕ) (known : Known) → held known ≤ h → Met (Costs h (nodes_at place + 1) nodes_in) (value_at place ty line known)
unfolding nodes_in nodes_of_all nodes_at
value_at_met h place (Array row count size) line known within = met_given _ _ _ (record { light = omega arith; within = within })
value_at_met h place _ line known within = met_given _ _ _ (record { light = omega arith; within = within })

value_in_met : (h n : ℕ) (t : Term) (form : Form) (known : Known) → form_nodes form + 2 ≤ n → held known ≤ h → Met (Costs h n operand_nodes) (value_in t form known)
value_in_met h n t (ValueForm value) known light within = met_given _ _ _ (record { light = omega arith; within = within })
value_in_met h n t (PlaceForm place reach) known light within = met_on (Costs h (nodes_at place + 1) nodes_in) _ _ (λ value. given (as_operand t value (in_place place reach))) (value_at_met h place (place_type place).ty t.line known within)
    (λ value k g. met_given _ _ _ (record { light = omega arith; within = g.within }))
value_in_met h n t (FunctionForm number bare) known light within = met_broken _ _
value_in_met h n t TypeForm known light within = met_broken _ _

pub indexed_met : (h n : ℕ) (t : Term) (known : Known) → form_nodes t.form + 2 ≤ n → held known ≤ h → Met (Costs h n operand_nodes) (value_in t t.form known)
indexed_met h n t known light within = value_in_met h n t t.form known light within

pub used_met : (h n : ℕ) (t : Term) (known : Known) → IsTerm h n t known → Met (Costs h n operand_nodes) (used t known)
used_met h n t known g = met_tried _ (table_tests t.form) t.line known _ (value_in_met h n t t.form known g.form_light g.within)
