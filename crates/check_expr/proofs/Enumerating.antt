-- Enumerations: an enumerator, the enumerators from the front of the list, and the tag.
use Rattle.std.proofs.Common.{◌≡◌, ℕ, ◌+◌, ◌-◌, ◌^◌, ◌<◌, ◌≤◌, ℤ, pos, negsuc, ◌+ℤ◌, ◌≤ℤ◌, ◌<ℤ◌, to_z, of_z, w64, Bool, true, false, not, List, [], ◌∷◌, drop, length, map, Option, Result, Ok, Err, refl, sym, ap, subst, ◌∙◌, arith}
use Rattle.std.proofs.lemmas.Bool.{true≢false}
use Rattle.std.proofs.lemmas.Int.{ints, to_z-of_z}
use Rattle.std.proofs.Math.ListN.{get_or}
use Rattle.c_ints.specs.Quantity.{Quantity}
use Rattle.c_nodes.specs.Lists.{more_enumerators}
use Rattle.c_nodes.specs.Trees as tree
use Rattle.c_nodes.specs.Trees.{Tree, SpecTree, EnumeratorTree}
use Rattle.c_nodes.specs.Views.{next_enumerator_of, NextEnumerator}
use Rattle.c_nodes.specs.Words.{Symbol, Symbols}
use Rattle.c_tables.specs.Answers.{Refuses, Learns}
use Rattle.c_tables.specs.declared.error.CheckError.{CheckError}
use Rattle.c_tables.specs.declared.error.CheckError.TheVariants as errors
use Rattle.type_rules.specs.Constants.{constant_value}
use Rattle.type_rules.specs.Declarators.{Context, enum_opened, enum_closed}
use Rattle.type_rules.specs.Enumerators as rule
use Rattle.type_rules.specs.Faults as kind
use Rattle.type_rules.specs.Faults.{Fault}
use Rattle.type_rules.specs.Known.{EnumeratorName, Known, Rule, given, tried, go_on}
use Rattle.type_rules.specs.Names.{is_declared, bind, tests_of_new}
use Rattle.type_rules.specs.Specifiers.{InFile}
use Rattle.check_expr.specs.Lists.{enum_rule}
use Rattle.check_expr.proofs.Declaring.{at_front, at_end}
use Rattle.c_outline.proofs.Outlining.{refused_through}

-- ---- the number of an enumerator

-- whether a rule is met
is_met : {A : Type 0} → Result (A × Known) Fault → Bool
is_met (Ok x) = true
is_met (Err fault) = false

-- both rules of the name where the first is broken, and where it is met
first_broken : (b c : Bool) (line : ℕ) (k : Known) (e : CheckError) → Refuses e (tried ((b, kind.Again) ∷ []) line k) → Refuses e (tried ((b, kind.Again) ∷ (c, kind.Constant) ∷ []) line k)
unfolding is_met
first_broken true c line k e h = h
first_broken false c line k errors.NoMemory h = tt
first_broken false c line k (errors.Kind kind at) h = absurd (true≢false (ap is_met h))

first_met : (b c : Bool) (line : ℕ) (k after : Known) → tried ((b, kind.Again) ∷ []) line k ≡ Ok (after, after) → tried ((b, kind.Again) ∷ (c, kind.Constant) ∷ []) line k ≡ tried ((c, kind.Constant) ∷ []) line k
unfolding is_met
first_met true c line k after h = absurd (true≢false (sym (ap is_met h)))
first_met false c line k after h = refl

too_wide : (c : Bool) (line : ℕ) (k : Known) → c ≡ false → tried ((not c, kind.Constant) ∷ []) line k ≡ Err (record { kind = kind.Constant; line = line })
too_wide c line k e = rw e refl

fits : (c : Bool) (line : ℕ) (k : Known) → c ≡ true → tried ((not c, kind.Constant) ∷ []) line k ≡ Ok (k, k)
fits c line k e = rw e refl

abbrev after_bound : ℤ → Known → Rule ℤ
after_bound n x = given (n +ℤ pos 1)

abbrev after_tests : Symbol → ℤ → Known → Rule ℤ
after_tests name n x k = go_on (after_bound n) (bind name.bytes (EnumeratorName n) k)

pub number_again : (name : Symbol) (n : ℤ) (k : Known) (e : CheckError) → Refuses e (tests_of_new k name.bytes name.line k) → Refuses e (rule.numbered name n k)
number_again name n k e h = refused_through e (after_tests name n) (tried (rule.enumerator_tests k name n) name.line k) (first_broken (is_declared k name.bytes) (not (rule.is_int n)) name.line k e h)

pub number_wide : (name : Symbol) (n : ℤ) (k after : Known) → tests_of_new k name.bytes name.line k ≡ Ok (after, after) → rule.is_int n ≡ false → rule.numbered name n k ≡ Err (record { kind = kind.Constant; line = name.line })
number_wide name n k after h i = ap (go_on (after_tests name n)) (first_met (is_declared k name.bytes) (not (rule.is_int n)) name.line k after h ∙ too_wide (rule.is_int n) name.line k i)

tests_met : (name : Symbol) (n : ℤ) (k after : Known) → tests_of_new k name.bytes name.line k ≡ Ok (after, after) → rule.is_int n ≡ true → rule.numbered name n k ≡ after_tests name n k k
tests_met name n k after h i = ap (go_on (after_tests name n)) (first_met (is_declared k name.bytes) (not (rule.is_int n)) name.line k after h ∙ fits (rule.is_int n) name.line k i)

pub number_unbound : (name : Symbol) (n : ℤ) (k after : Known) (e : CheckError) → tests_of_new k name.bytes name.line k ≡ Ok (after, after) → rule.is_int n ≡ true → Refuses e (bind name.bytes (EnumeratorName n) k) → Refuses e (rule.numbered name n k)
number_unbound name n k after e h i b = subst (Refuses e) (sym (tests_met name n k after h i)) (refused_through e (after_bound n) (bind name.bytes (EnumeratorName n) k) b)

pub number_given : (name : Symbol) (n : ℤ) (k after bound : Known) → tests_of_new k name.bytes name.line k ≡ Ok (after, after) → rule.is_int n ≡ true → bind name.bytes (EnumeratorName n) k ≡ Ok (bound, bound) → rule.numbered name n k ≡ Ok (n +ℤ pos 1, bound)
number_given name n k after bound h i b = tests_met name n k after h i ∙ ap (go_on (after_bound n)) b

-- the number of the next one as the machine keeps it
pub next_kept : (n : ℤ) → rule.is_int n ≡ true → to_z w64 (of_z w64 (n +ℤ pos 1)) ≡ n +ℤ pos 1
next_kept n int = grind (arith, ints, to_z-of_z)

-- ---- an enumerator with a value

-- a value's number as the machine keeps it
pub kept_number : (x : ℤ) → negsuc (2 ^ 31 - 1) ≤ℤ x → x <ℤ pos (2 ^ 32) → to_z w64 (of_z w64 x) ≡ x
kept_number x low high = grind (arith, to_z-of_z)

abbrev with_number : Symbol → Quantity → Rule ℤ
with_number name v = rule.numbered name v.number

pub valued_refused : (name : Symbol) (equals : ℕ) (e : Tree) (next : ℤ) (k : Known) (error : CheckError) → Refuses error (constant_value e k) → Refuses error (rule.enumerator (tree.Valued name equals e) next k)
valued_refused name equals e next k error h = refused_through error (with_number name) (constant_value e k) h

pub valued_given : (name : Symbol) (equals : ℕ) (e : Tree) (next : ℤ) (v : Quantity) (k after : Known) → constant_value e k ≡ Ok (v, after) → rule.enumerator (tree.Valued name equals e) next k ≡ rule.numbered name v.number after
valued_given name equals e next v k after h = ap (go_on (with_number name)) h

-- ---- the enumerators behind the first

abbrev pub rest_enumerators : List (ℕ × EnumeratorTree) → ℤ → Rule ℤ
rest_enumerators es next = rule.more_enumerators (more_enumerators es) next

pub enumerators_more : (xs : List NextEnumerator) (i : ℕ) (x : NextEnumerator) (comma : ℕ) (e : EnumeratorTree) (next after_it : ℤ) (said : Result (ℤ × Known) Fault) (here after : Known) → i < length xs → x ≡ get_or xs i x → next_enumerator_of x ≡ (comma, e)
    → said ≡ rest_enumerators (map next_enumerator_of (drop i xs)) next here → rule.enumerator e next here ≡ Ok (after_it, after) → said ≡ rest_enumerators (map next_enumerator_of (drop (i + 1) xs)) after_it after
enumerators_more xs i x comma e next after_it said here after lt is shown goes h =
    let rest = map next_enumerator_of (drop (i + 1) xs) in
    goes ∙ at_front next_enumerator_of (λ l. rest_enumerators l next here) xs i x lt is ∙ ap (λ y. rest_enumerators (y ∷ rest) next here) shown ∙ ap (go_on (λ (n : ℤ). rest_enumerators rest n)) h

pub enumerators_refused : (xs : List NextEnumerator) (i : ℕ) (x : NextEnumerator) (comma : ℕ) (e : EnumeratorTree) (next : ℤ) (said : Result (ℤ × Known) Fault) (here : Known) (error : CheckError) → i < length xs → x ≡ get_or xs i x → next_enumerator_of x ≡ (comma, e)
    → said ≡ rest_enumerators (map next_enumerator_of (drop i xs)) next here → Refuses error (rule.enumerator e next here) → Refuses error said
enumerators_refused xs i x comma e next said here error lt is shown goes h =
    let rest = map next_enumerator_of (drop (i + 1) xs) in
    subst (Refuses error) (sym (goes ∙ at_front next_enumerator_of (λ l. rest_enumerators l next here) xs i x lt is ∙ ap (λ y. rest_enumerators (y ∷ rest) next here) shown)) (refused_through error (λ (n : ℤ). rest_enumerators rest n) (rule.enumerator e next here) h)

pub enumerators_end : (xs : List NextEnumerator) (i : ℕ) (next : ℤ) (said : Result (ℤ × Known) Fault) (here : Known) → length xs ≤ i → said ≡ rest_enumerators (map next_enumerator_of (drop i xs)) next here → said ≡ Ok (next, here)
enumerators_end xs i next said here le goes = goes ∙ at_end next_enumerator_of (λ l. rest_enumerators l next here) xs i le

-- ---- a whole enumeration

abbrev inside : Bool → Context
inside bodies = record { site = InFile; bodies = bodies }

module _ (t : SpecTree) (line : ℕ) (tag : Symbols) (o : ℕ) (e : EnumeratorTree) (es : List (ℕ × EnumeratorTree)) (last : Option ℕ) (c : ℕ) (bodies : Bool) (known : Known) (is : t ≡ tree.EnumBody line tag o e (more_enumerators es) last c) where
  abbrev closed : ℤ → Rule Known
  closed n = enum_closed tag

  abbrev numbered : Rule ℤ
  numbered k = go_on (rest_enumerators es) (rule.enumerator e (pos 0) k)

  abbrev behind_opened : Known → Rule Known
  behind_opened x k = go_on closed (numbered k)

  at_opened : enum_rule t bodies known ≡ go_on behind_opened (enum_opened (inside bodies) tag line known)
  at_opened = ap (λ t. enum_rule t bodies known) is

  pub unopened : (error : CheckError) → Refuses error (enum_opened (inside bodies) tag line known) → Refuses error (enum_rule t bodies known)
  unopened error h = subst (Refuses error) (sym at_opened) (refused_through error behind_opened (enum_opened (inside bodies) tag line known) h)

  module _ (opens : enum_opened (inside bodies) tag line known ≡ Ok (known, known)) where
    at_first : enum_rule t bodies known ≡ go_on closed (numbered known)
    at_first = at_opened ∙ ap (go_on behind_opened) opens

    pub first_unnumbered : (error : CheckError) → Refuses error (rule.enumerator e (pos 0) known) → Refuses error (enum_rule t bodies known)
    first_unnumbered error h = subst (Refuses error) (sym at_first) (refused_through error closed (numbered known) (refused_through error (rest_enumerators es) (rule.enumerator e (pos 0) known) h))

    module _ (next : ℤ) (mid : Known) (first : rule.enumerator e (pos 0) known ≡ Ok (next, mid)) where
      at_rest : enum_rule t bodies known ≡ go_on closed (rest_enumerators es next mid)
      at_rest = at_first ∙ ap (λ said. go_on closed (go_on (rest_enumerators es) said)) first

      pub rest_unnumbered : (error : CheckError) → Refuses error (rest_enumerators es next mid) → Refuses error (enum_rule t bodies known)
      rest_unnumbered error h = subst (Refuses error) (sym at_rest) (refused_through error closed (rest_enumerators es next mid) h)

      pub enumeration_closes : (n : ℤ) (end after : Known) (result : Result Unit CheckError) → rest_enumerators es next mid ≡ Ok (n, end) → Learns result after (enum_closed tag end) → Learns result after (enum_rule t bodies known)
      enumeration_closes n end after result rest h = subst (Learns result after) (sym (at_rest ∙ ap (go_on closed) rest)) h
