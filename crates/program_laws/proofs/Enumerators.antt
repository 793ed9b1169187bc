-- Constant expressions and enumerators declare no object.
use Rattle.std.proofs.Common.{ℕ, not, List, [], ◌∷◌}
use Rattle.std.specs.Prelude.{ℤ, pos}
use Rattle.c_nodes.specs.Trees as tree
use Rattle.c_nodes.specs.Trees.{Tree, EnumeratorTree, MoreEnumerators}
use Rattle.c_nodes.specs.Words.{Symbol}
use Rattle.c_typed.specs.Folding.{folded}
use Rattle.c_typed.specs.declared.folding.Folded.{Folded}
use Rattle.c_typed.specs.declared.folding.Folded.TheVariants as folding
use Rattle.type_rules.specs.Constants.{number_in, number_of, constant_value, is_length, array_length}
use Rattle.type_rules.specs.Enumerators.{enumerator_tests, numbered, enumerator, more_enumerators, enumerators}
use Rattle.type_rules.specs.Faults as kind
use Rattle.type_rules.specs.Known.{Known}
use Rattle.type_rules.specs.Terms.{Operand}
use Rattle.program_laws.specs.Named.{Held, Stays}
use Rattle.program_laws.proofs.Expressions.{value_of_stays}
use Rattle.program_laws.proofs.Steps.{stays_given, stays_broken, stays_on, stays_tried}

number_in_stays : (whose : List ℕ) (f : Folded) (line : ℕ) (known : Known) → Held whose known → Stays whose (number_in f line known)
number_in_stays whose (folding.Value v) line known held = stays_given v known held
number_in_stays whose _ line known held = stays_broken _ _ _

pub number_stays : (whose : List ℕ) (x : Operand) (known : Known) → Held whose known → Stays whose (number_of x known)
number_stays whose x known held = number_in_stays whose (folded x.value) x.line known held

pub constant_stays : (whose : List ℕ) (e : Tree) (known : Known) → Held whose known → Stays whose (constant_value e known)
constant_stays whose e known held = stays_on _ _ _ (value_of_stays e whose known held) (λ x k c. number_stays whose x k c)

pub array_length_stays : (whose : List ℕ) (e : Tree) (known : Known) → Held whose known → Stays whose (array_length e known)
array_length_stays whose e known held = stays_on _ _ _ (value_of_stays e whose known held)
    (λ x k c. stays_on _ _ _ (number_stays whose x k c) (λ v k2 d. stays_tried _ ((not (is_length v.number), kind.Size) ∷ []) x.line k2 _ (stays_given _ k2 d)))

numbered_stays : (whose : List ℕ) (name : Symbol) (n : ℤ) (known : Known) → Held whose known → Stays whose (numbered name n known)
numbered_stays whose name n known held = stays_tried _ (enumerator_tests known name n) name.line known _ (stays_given _ _ held)

enumerator_stays : (whose : List ℕ) (e : EnumeratorTree) (next : ℤ) (known : Known) → Held whose known → Stays whose (enumerator e next known)
enumerator_stays whose (tree.Bare name) next known held = numbered_stays whose name next known held
enumerator_stays whose (tree.Valued name equals e) next known held = stays_on _ _ _ (constant_stays whose e known held) (λ v k c. numbered_stays whose name v.number k c)

more_enumerators_stays : (whose : List ℕ) (es : MoreEnumerators) (next : ℤ) (known : Known) → Held whose known → Stays whose (more_enumerators es next known)
more_enumerators_stays whose tree.NoEnumerator next known held = stays_given next known held
more_enumerators_stays whose (tree.AndEnumerator comma e es) next known held = stays_on _ _ _ (enumerator_stays whose e next known held) (λ after k c. more_enumerators_stays whose es after k c)

pub enumerators_stays : (whose : List ℕ) (e : EnumeratorTree) (es : MoreEnumerators) (known : Known) → Held whose known → Stays whose (enumerators e es known)
enumerators_stays whose e es known held = stays_on _ _ _ (enumerator_stays whose e (pos 0) known held) (λ next k c. more_enumerators_stays whose es next k c)
