-- Units: the names of static objects and of functions.
use Rattle.std.proofs.Common.{◌≡◌, ℕ, zero, suc, ◌<◌, true, List, [], ◌∷◌, ◌++◌, length, map, Some, Result, Ok, Err, ◌⊎◌, inl, inr, refl, sym, ap, ◌∙◌, subst, arith, append_assoc, append-nil}
use Rattle.std.specs.Prelude.{slice_get, slice_index_or}
use Rattle.c_token.specs.Longest.{is_word}
use Rattle.c_nodes.specs.Programs as tree
use Rattle.c_nodes.specs.Programs.{ItemTree, BlockTree, IsBlock, IsItem, IsUnit, spelled_declaration, spelled_block, spelled_item, spelled_unit}
use Rattle.c_nodes.specs.Trees.{SpecTrees, DeclaratorTree, spelled_specs, spelled_declarator}
use Rattle.c_typed.specs.Trees as typed
use Rattle.c_typed.specs.Trees.{FunctionTree, Program}
use Rattle.c_typed.specs.declared.types.Ty.{Ty}
use Rattle.type_rules.specs.Declarators.{in_file, name_in, line_in}
use Rattle.type_rules.specs.Faults as kind
use Rattle.type_rules.specs.Faults.{Fault}
use Rattle.type_rules.specs.Known.{Scope, Known, known_first, no_body, given, broken, go_on}
use Rattle.type_rules.specs.Names.{is_declared, without_first}
use Rattle.type_rules.specs.Outlines.{Param, Declared, ObjectDeclared, FunctionDeclared, Outline}
use Rattle.type_rules.specs.Specifiers.{Specified}
use Rattle.type_rules.specs.Statements.{body_statements}
use Rattle.type_rules.specs.Units.{defined_in, variable_of, function_body, function_declared, function, functions_of, program_from, program_in, judged_unit}
use Rattle.typed_laws.specs.Files.{Files, Turns}
use Rattle.typed_laws.proofs.Files.{IsFresh, turns_on, turns_given, declaration_turns}
use Rattle.typed_laws.proofs.Functions.{function_turns}
use Rattle.typed_laws.proofs.Lists.{none_is, got_either, within}
use Rattle.program_laws.specs.Named.{AreWords, HaveWords, AreNamed, Held, Stays}
use Rattle.program_laws.proofs.Declarations.{function_rule_stays, file_declaration_stays}
use Rattle.program_laws.proofs.Declarators.{specified_stays, outline_stays}
use Rattle.program_laws.proofs.Statements.{body_stays}
use Rattle.program_laws.proofs.Steps.{stays_given, stays_broken, stays_on, stays_over, stays_tried}
use Rattle.program_laws.proofs.Words.{words_left, words_right, declared_word}

-- ---- static objects

module _ (b : BlockTree) (said : Specified) (name : List ℕ) (result : Ty) (params : List Param) (scope : Scope) where
  abbrev ended : typed.Statements → Known → Result (FunctionTree × Known) Fault
  ended ss k = Ok (record { name = name; result = result; params = map variable_of params; locals = (k.body).locals; body = ss; interrupt = said.interrupt; line = said.line }, record k { scopes = without_first k.scopes; body = no_body })

  abbrev begun : Known → Known
  begun known = record known { body = record { name = name; result = result; locals = []; declarators = 0 }; scopes = scope ∷ known.scopes }

  function_body_stays : (known : Known) → is_word name ≡ true → IsBlock b → AreWords (spelled_block b) → Held [] known → Stays [] (function_body b said name result params scope known)
  function_body_stays known word is words held = stays_over name [] (body_statements b (begun known)) ended (body_stays b name word (begun known) is words (held.0, refl)) (λ ss k g. stays_given _ _ (g.0, refl))

declared_stays : (declared : Declared) (b : BlockTree) (said : Specified) (o : Outline) (name : List ℕ) (line : ℕ) (known : Known) → is_word name ≡ true → IsBlock b → AreWords (spelled_block b) → Held [] known
    → Stays [] (function_declared declared b said o name line known)
declared_stays (FunctionDeclared result params scope) b said o name line known word is words held = stays_on _ _ _ (function_rule_stays [] name result params o.bad true line known held)
    (λ u k g. function_body_stays b said name result.ty params scope k word is words g)
declared_stays (ObjectDeclared ty) b said o name line known word is words held = stays_tried _ ((is_declared known name, kind.Again) ∷ []) line known (λ u. broken kind.Declare line) (stays_broken _ _ _)

-- the tokens of a function's declarator and body
declarator_words : (s : SpecTrees) (d : DeclaratorTree) (b : BlockTree) → AreWords (spelled_item (tree.Function s d b)) → AreWords (spelled_declarator d)
declarator_words s d b words = words_left (spelled_declarator d) (spelled_block b) (words_right (spelled_specs s) (spelled_declarator d ++ spelled_block b) words)

block_words : (s : SpecTrees) (d : DeclaratorTree) (b : BlockTree) → AreWords (spelled_item (tree.Function s d b)) → AreWords (spelled_block b)
block_words s d b words = words_right (spelled_declarator d) (spelled_block b) (words_right (spelled_specs s) (spelled_declarator d ++ spelled_block b) words)

function_word : (s : SpecTrees) (d : DeclaratorTree) (b : BlockTree) → IsItem (tree.Function s d b) → AreWords (spelled_item (tree.Function s d b)) → is_word (name_in d) ≡ true
function_word s d b is words = declared_word d is.1 (declarator_words s d b words)

function_stays : (s : SpecTrees) (d : DeclaratorTree) (b : BlockTree) (known : Known) → IsItem (tree.Function s d b) → AreWords (spelled_item (tree.Function s d b)) → Held [] known → Stays [] (function s d b known)
function_stays s d b known is words held = stays_on _ _ _ (specified_stays s [] in_file known held)
    (λ said k g. stays_tried _ ((said.is_typedef, kind.Declare) ∷ []) said.line k _ (stays_on _ _ _ (outline_stays [] d said true k g)
    (λ o k2 g2. declared_stays o.declared b said o (name_in d) (line_in d) k2 (function_word s d b is words) is.3 (block_words s d b words) g2)))

functions_stay : (is_ : List ItemTree) (known : Known) → IsUnit is_ → AreWords (spelled_unit is_) → Held [] known → Stays [] (functions_of is_ known)
functions_stay [] known is words held = stays_given _ _ held
functions_stay (tree.Function s d b ∷ is_) known is words held = stays_on _ _ _ (function_stays s d b known is.0 (words_left (spelled_item (tree.Function s d b)) (spelled_unit is_) words) held)
    (λ first k g. stays_on _ _ (λ others. given (first ∷ others)) (functions_stay is_ k is.1 (words_right (spelled_item (tree.Function s d b)) (spelled_unit is_) words) g) (λ others k2 g2. stays_given _ _ g2))
functions_stay (tree.Declaration d ∷ is_) known is words held = stays_on _ _ _ (file_declaration_stays [] d known is.0 (words_left (spelled_declaration d) (spelled_unit is_) words) held)
    (λ u k g. functions_stay is_ k is.1 (words_right (spelled_declaration d) (spelled_unit is_) words) g)

-- ---- functions

-- no two functions at different places have one name
abbrev Differ : List FunctionTree → Type 0
Differ fs = (i j : ℕ) (f g : FunctionTree) → i < j → slice_get fs i ≡ Some f → slice_get fs j ≡ Some g → f.name ≡ g.name → ⊥

-- a name that none before has is one more
differ_last : (names : List (List ℕ)) (done : List FunctionTree) (g : FunctionTree) → Differ done → IsFresh names done g.name → Differ (done ++ g ∷ [])
differ_last names done g differ fresh i j f h less at_i at_j same = by (got_either done g i f at_i) (got_either done g j h at_j)
  where
    by : (slice_get done i ≡ Some f) ⊎ ((i ≡ length done) × (g ≡ f)) → (slice_get done j ≡ Some h) ⊎ ((j ≡ length done) × (g ≡ h)) → ⊥
    by (inl p) (inl q) = differ i j f h less p q same
    by (inl p) (inr q) = fresh i f p (same ∙ ap (λ (z : FunctionTree). z.name) (sym q.1))
    by (inr p) (inl q) = let l = within done j h q in omega (arith, less, p.0, l)
    by (inr p) (inr q) = omega (arith, less, p.0, q.0)

module _ (names : List (List ℕ)) where
  functions_named : (is_ : List ItemTree) (done : List FunctionTree) (known : Known) → IsUnit is_ → AreWords (spelled_unit is_) → Files names done known → Differ done
      → Turns (λ rest k. HaveWords rest × Differ (done ++ rest)) (functions_of is_ known)
  functions_named [] done known is words y differ = turns_given _ [] known (tt, subst Differ (sym (append-nil done)) differ)
  functions_named (tree.Function s d b ∷ is_) done known is words y differ = turns_on _ _ _ (λ first. λ k. go_on (λ others. given (first ∷ others)) (functions_of is_ k)) (function_turns names done s d b known y)
      (λ g k h. turns_on _ _ _ (λ others. given (g ∷ others))
      (functions_named is_ (done ++ g ∷ []) k is.1 (words_right (spelled_item (tree.Function s d b)) (spelled_unit is_) words) h.0 (differ_last names done g differ (subst (IsFresh names done) (sym h.1) h.2)))
      (λ rest last r. turns_given _ (g ∷ rest) last
      ((subst (λ z. is_word z ≡ true) (sym h.1) (function_word s d b is.0 (words_left (spelled_item (tree.Function s d b)) (spelled_unit is_) words)), r.0), subst Differ (append_assoc done (g ∷ []) rest) r.1)))
  functions_named (tree.Declaration d ∷ is_) done known is words y differ = turns_on _ _ _ (λ u. functions_of is_) (declaration_turns names done d known y)
      (λ u k h. functions_named is_ done k is.1 (words_right (spelled_declaration d) (spelled_unit is_) words) h differ)

first_files : (names : List (List ℕ)) → Files names [] (known_first names)
first_files names = record {
  steady = record {
    orderly = record {
      rows = λ row q h. absurd (none_is h);
      distinct = λ row q h. absurd (none_is h);
      shapes = λ n s h. absurd (none_is h);
      scopes = (tt, tt);
      tags = tt;
      results = λ n s h. absurd (none_is h);
    };
    named = (tt, tt);
    statics = λ n s h. absurd (none_is h);
    locals = λ n v h. absurd (none_is h);
    result = tt;
  };
  idle = refl;
  definitions = refl;
  scope = [];
  only = refl;
  named = λ name n h. absurd (none_is h);
  signed = λ n s h. absurd (none_is h);
  made = λ i g h. absurd (none_is h);
  fitting = λ i g h. absurd (none_is h);
}

-- ---- the whole program

got_at : (fs : List FunctionTree) (i : ℕ) (d : FunctionTree) → i < length fs → slice_get fs i ≡ Some (slice_index_or fs i d)
got_at [] i d h = absurd (omega (arith, h))
got_at (f ∷ fs) zero d h = refl
got_at (f ∷ fs) (suc i) d h = got_at fs i d (omega (arith, h))

program_named : (fs : List FunctionTree) (known : Known) → Held [] known → HaveWords fs → Differ fs → AreNamed (program_from known fs)
program_named fs known held have differ = record {
  statics = held.0;
  functions = have;
  distinct = λ i j d less within_j same. differ i j (slice_index_or fs i d) (slice_index_or fs j d) less (got_at fs i d (omega (arith, less, within_j))) (got_at fs j d within_j) same;
}

judged_by : (r : Result (List FunctionTree × Known) Fault) → Stays [] r → Turns (λ rest k. HaveWords rest × Differ ([] ++ rest)) r → (p : Program) → program_in r ≡ Ok p → AreNamed p
unfolding Stays Turns
judged_by (Err fault) stays turns p is = absurd (cc is)
judged_by (Ok x) stays turns p is = subst AreNamed (same_ok (program_from x.1 x.0) p is) (program_named x.0 x.1 stays turns.0 turns.1)
  where
    same_ok : (a b : Program) → ◌≡◌ {A = Result Program Fault} (Ok a) (Ok b) → a ≡ b
    same_ok a b e = cc e

pub judged_named : (unit : List ItemTree) (p : Program) → IsUnit unit → AreWords (spelled_unit unit) → judged_unit unit ≡ Ok p → AreNamed p
unfolding judged_unit
judged_named unit p grammar words is = let names = defined_in unit [] in
    judged_by (functions_of unit (known_first names)) (functions_stay unit (known_first names) grammar words (tt, refl)) (functions_named names unit [] (known_first names) grammar words (first_files names) (λ i j f g less h. absurd (none_is h))) p is
