-- Units: the typed program of a unit is sound.
use Rattle.std.proofs.Common.{◌≡◌, ℕ, Bool, true, false, List, [], ◌∷◌, ◌++◌, map, Result, Ok, Err, refl, sym, ap, ◌∙◌, subst, append_assoc, append-nil}
use Rattle.std.specs.Prelude.{slice_get}
use Rattle.std.proofs.lemmas.Option.{same_Some}
use Rattle.c_nodes.specs.Programs as tree
use Rattle.c_nodes.specs.Programs.{ItemTree}
use Rattle.c_typed.specs.Sound.{is_sound}
use Rattle.c_typed.specs.Trees.{FunctionTree, Program}
use Rattle.type_rules.specs.Declarators.{name_in}
use Rattle.type_rules.specs.Faults.{Fault}
use Rattle.type_rules.specs.Known.{FunctionName, Signature, Known, known_first, given, go_on}
use Rattle.type_rules.specs.Units.{is_among, defined_in, functions_of, structure_tree, program_from, program_in, judged_unit}
use Rattle.typed_laws.specs.Files.{Holds, name_of, Files, Turns}
use Rattle.typed_laws.proofs.Files.{IsFresh, turns_on, turns_given, declaration_turns}
use Rattle.typed_laws.proofs.Functions.{function_turns}
use Rattle.typed_laws.proofs.Lists.{none_is, is_there, same_answer, mapped_at, numbered_at}
use Rattle.typed_laws.proofs.Names.{definition_is, among_is, named_last, mapped_last}
use Rattle.typed_laws.proofs.Programs.{mapped_from, program_sound}
use Rattle.type_rules.specs.Names.{entry_of}

-- a name that no function has that is done
not_among : (names : List (List ℕ)) (done : List FunctionTree) (name : List ℕ) → IsFresh names done name → is_among name (map name_of done) ≡ false
not_among names done name fresh = by_test (is_among name (map name_of done)) refl
  where
    by_test : (b : Bool) → is_among name (map name_of done) ≡ b → is_among name (map name_of done) ≡ false
    by_test true e = let r = among_is name (map name_of done) e in let x = mapped_from name_of done r.0 name r.1 in absurd (fresh r.0 x.0 x.1 x.2)
    by_test false e = e

module _ (names : List (List ℕ)) where
  functions_turn : (is : List ItemTree) (done : List FunctionTree) (known : Known) → Files names done known → names ≡ defined_in is (map name_of done) → Turns (λ rest k. Files names (done ++ rest) k × (names ≡ map name_of (done ++ rest))) (functions_of is known)
  functions_turn [] done known y is = turns_given _ [] known (subst (λ l. Files names l known) (sym (append-nil done)) y, is ∙ ap (map name_of) (sym (append-nil done)))
  functions_turn (tree.Function s d b ∷ is) done known y same = turns_on _ _ _ (λ first. λ k. go_on (λ others. given (first ∷ others)) (functions_of is k)) (function_turns names done s d b known y)
      (λ g k h. turns_on _ _ _ (λ others. given (g ∷ others))
      (functions_turn is (done ++ g ∷ []) k h.0 (same ∙ ap (defined_in is) (named_last (name_in d) (map name_of done) (not_among names done (name_in d) h.2) ∙ (ap (λ z. map name_of done ++ z ∷ []) (sym h.1) ∙ sym (mapped_last name_of done g)))))
      (λ rest last r. turns_given _ (g ∷ rest) last (subst (λ l. Files names l last) (append_assoc done (g ∷ []) rest) r.0, r.1 ∙ ap (map name_of) (append_assoc done (g ∷ []) rest))))
  functions_turn (tree.Declaration d ∷ is) done known y same = turns_on _ _ _ (λ u. functions_of is) (declaration_turns names done d known y) (λ u k h. functions_turn is done k h same)

-- ---- the whole program

first_files : (names : List (List ℕ)) → Files names [] (known_first names)
first_files names = record {
  steady = record {
    orderly = record {
      rows = λ row q h. absurd (none_is h);
      distinct = λ row q h. absurd (none_is h);
      shapes = λ n s h. absurd (none_is h);
      scopes = (tt, tt);
      tags = tt;
      results = λ n s h. absurd (none_is h);
    };
    named = (tt, tt);
    statics = λ n s h. absurd (none_is h);
    locals = λ n v h. absurd (none_is h);
    result = tt;
  };
  idle = refl;
  definitions = refl;
  scope = [];
  only = refl;
  named = λ name n h. absurd (none_is h);
  signed = λ n s h. absurd (none_is h);
  made = λ i g h. absurd (none_is h);
  fitting = λ i g h. absurd (none_is h);
}

module _ (names : List (List ℕ)) (functions : List FunctionTree) (known : Known) (y : Files names functions known) (same : names ≡ map name_of functions) where
  number_is : (a b : ℕ) → FunctionName a ≡ FunctionName b → a ≡ b
  number_is a b e = cc e

  last_holds : Holds known (program_from known functions)
  last_holds = record {
    begins = record {
      rows = λ row q h. h;
      structures = λ n s h. is_there (slice_get (map structure_tree known.shapes) n) (structure_tree s) (mapped_at structure_tree known.shapes n s h);
      closed = λ n s h closed. (mapped_at structure_tree known.shapes n s h, numbered_at (λ s. s.size) known.shapes n s h);
      functions = λ n d s h defined.
          let r = y.signed n s h in
          let q = y.named r.0 n r.1 in
          let is = same_answer (slice_get known.signatures n) s q.0 h q.1 in
          let place = definition_is names r.0 d (sym q.2 ∙ (ap (λ (z : Signature). z.definition) (sym is) ∙ defined)) in
          let g = mapped_from name_of functions d r.0 (ap (λ l. slice_get l d) (sym same) ∙ place) in
          let m = y.made d g.0 g.1 in
          let number : m.0 ≡ n = number_is m.0 n (same_Some (FunctionName m.0) (FunctionName n) (sym m.2 ∙ (ap (entry_of y.scope) g.2 ∙ r.1))) in
          let signature : m.1 ≡ s = same_answer (slice_get known.signatures n) m.1 s (ap (slice_get known.signatures) (sym number) ∙ m.3) h in
          (g.0, g.1, (m.4).result ∙ ap (λ (z : Signature). (z.result).ty) signature, (m.4).params ∙ ap (λ (z : Signature). z.params) signature);
    };
    statics = λ n s h. (s, h, refl);
  }

  unit_sound : is_sound (program_from known functions) ≡ true
  unit_sound = program_sound known (y.steady).orderly (program_from known functions) last_holds.begins refl refl refl (y.steady).statics (λ i g h. y.fitting i g h (program_from known functions) last_holds)

judged_by : (names : List (List ℕ)) (r : Result (List FunctionTree × Known) Fault) → Turns (λ rest k. Files names ([] ++ rest) k × (names ≡ map name_of ([] ++ rest))) r → (p : Program) → program_in r ≡ Ok p → is_sound p ≡ true
unfolding Turns
judged_by names (Err fault) h p is = absurd (cc is)
judged_by names (Ok x) h p is = subst (λ z. is_sound z ≡ true) (same_ok (program_from x.1 x.0) p is) (unit_sound names x.0 x.1 h.0 h.1)
  where
    same_ok : (a b : Program) → ◌≡◌ {A = Result Program Fault} (Ok a) (Ok b) → a ≡ b
    same_ok a b e = cc e

-- The typed program of a unit is sound.
pub judged_sound : (unit : List ItemTree) (p : Program) → judged_unit unit ≡ Ok p → is_sound p ≡ true
unfolding judged_unit
judged_sound unit p is = judged_by (defined_in unit []) (functions_of unit (known_first (defined_in unit []))) (functions_turn (defined_in unit []) unit [] (known_first (defined_in unit [])) (first_files (defined_in unit [])) refl) p is
