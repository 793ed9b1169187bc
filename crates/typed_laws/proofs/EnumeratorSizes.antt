-- Constant expressions and enumerators declare no object.
use Rattle.std.proofs.Common.{ℕ, ◌≤◌, not, [], ◌∷◌, ◌*◌, length}
use Rattle.std.specs.Prelude.{ℤ, pos}
use Rattle.c_nodes.specs.Trees as tree
use Rattle.c_nodes.specs.Trees.{Tree, EnumeratorTree, MoreEnumerators, spelled}
use Rattle.c_nodes.specs.Words.{Symbol}
use Rattle.c_typed.specs.Folding.{folded}
use Rattle.c_typed.specs.declared.folding.Folded.{Folded}
use Rattle.c_typed.specs.declared.folding.Folded.TheVariants as folding
use Rattle.type_rules.specs.Constants.{number_in, number_of, constant_value, is_length, array_length}
use Rattle.type_rules.specs.Enumerators.{enumerator_tests, numbered, enumerator, more_enumerators, enumerators}
use Rattle.type_rules.specs.Faults as kind
use Rattle.type_rules.specs.Known.{Known}
use Rattle.type_rules.specs.Terms.{Operand}
use Rattle.typed_laws.specs.Weights.{Met, held, Costs, nothing, operand_nodes}
use Rattle.typed_laws.proofs.ExpressionSizes.{value_of_met}
use Rattle.typed_laws.proofs.StepSizes.{met_broken, met_on, met_tried, met_kept}

number_in_met : (h : ℕ) (f : Folded) (line : ℕ) (known : Known) → held known ≤ h → Met (Costs h 0 nothing) (number_in f line known)
number_in_met h (folding.Value v) line known within = met_kept h v known within
number_in_met h _ line known within = met_broken _ _

pub number_met : (h : ℕ) (x : Operand) (known : Known) → held known ≤ h → Met (Costs h 0 nothing) (number_of x known)
number_met h x known within = number_in_met h (folded x.value) x.line known within

pub constant_met : (h : ℕ) (e : Tree) (known : Known) → held known ≤ h → Met (Costs h 0 nothing) (constant_value e known)
constant_met h e known within = met_on (Costs h (3 * length (spelled e)) operand_nodes) _ _ _ (value_of_met e h known within) (λ x k c. number_met h x k c.within)

pub array_length_met : (h : ℕ) (e : Tree) (known : Known) → held known ≤ h → Met (Costs h 0 nothing) (array_length e known)
array_length_met h e known within = met_on (Costs h (3 * length (spelled e)) operand_nodes) _ _ _ (value_of_met e h known within)
    (λ x k c. met_on (Costs h 0 nothing) _ _ _ (number_met h x k c.within) (λ v k2 d. met_tried _ ((not (is_length v.number), kind.Size) ∷ []) x.line k2 _ (met_kept h _ k2 d.within)))

numbered_met : (h : ℕ) (name : Symbol) (n : ℤ) (known : Known) → held known ≤ h → Met (Costs h 0 nothing) (numbered name n known)
numbered_met h name n known within = met_tried _ (enumerator_tests known name n) name.line known _ (met_kept h _ _ within)

enumerator_met : (h : ℕ) (e : EnumeratorTree) (next : ℤ) (known : Known) → held known ≤ h → Met (Costs h 0 nothing) (enumerator e next known)
enumerator_met h (tree.Bare name) next known within = numbered_met h name next known within
enumerator_met h (tree.Valued name equals e) next known within = met_on (Costs h 0 nothing) _ _ _ (constant_met h e known within) (λ v k c. numbered_met h name v.number k c.within)

more_enumerators_met : (h : ℕ) (es : MoreEnumerators) (next : ℤ) (known : Known) → held known ≤ h → Met (Costs h 0 nothing) (more_enumerators es next known)
more_enumerators_met h tree.NoEnumerator next known within = met_kept h next known within
more_enumerators_met h (tree.AndEnumerator comma e es) next known within = met_on (Costs h 0 nothing) _ _ _ (enumerator_met h e next known within) (λ after k c. more_enumerators_met h es after k c.within)

pub enumerators_met : (h : ℕ) (e : EnumeratorTree) (es : MoreEnumerators) (known : Known) → held known ≤ h → Met (Costs h 0 nothing) (enumerators e es known)
enumerators_met h e es known within = met_on (Costs h 0 nothing) _ _ _ (enumerator_met h e (pos 0) known within) (λ next k c. more_enumerators_met h es next k c.within)
