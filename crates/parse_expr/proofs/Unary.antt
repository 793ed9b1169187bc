-- What tests on trees tell of them: what may be assigned to, and the word `void` alone.
use Rattle.std.proofs.Common.{◌≡◌, ℕ, ◌<◌, ◌≤◌, ◌==◌, Bool, true, false, not, List, [], ◌∷◌, None, Result, Err, Vec, Box, Global, vec_len, length, get_or, map, refl, sym, ap, ◌∙◌, arith}
use Rattle.std.proofs.lemmas.Bool.{eqb-true, eq-eqb}
use Rattle.c_nodes.specs.Words.{Symbol, Symbols, spell_pointers}
use Rattle.c_nodes.specs.Trees as tree
use Rattle.c_nodes.specs.Trees.{Tree, Behind, Before, Join, Post, Pre, Sign, Sizeof, TypeTree, SpecTrees, Specified, MoreSpecs, NoSpec, AndSpec, SpecTree, OneWord, Tagged, Body, NamedType, EnumTagged, EnumBody, EnumeratorTree, MemberTree, DeclaratorTree, SuffixTree, SuffixTrees, ParamTree, is_unary, is_cast, is_void, is_bare_void}
use Rattle.c_nodes.specs.Lists.{ChoiceParts, posted, prefixed, joined, chosen, more_specs, suffixes_of}
use Rattle.c_nodes.specs.Views.{NextOperand, LayerPrimary, binary_of, operand_of, postfix_suffix_of, prefix_of, primary_of, spec_of, suffix_of, cast_of, choice_of, cond_of, next_operand_of, postfix_of, specs_of, binary_step, enumerator_step, operand_step, param_step, postfix_suffix_step, prefix_step, primary_step, spec_step, suffix_step, assign_step, cast_step, choice_step, cond_step, declarator_step, enum_body_step, expr_step, member_step, postfix_step, specs_step, struct_body_step}
use Rattle.c_nodes.specs.declared.word.Pointer.{Pointer}
use Rattle.c_nodes.specs.declared.expression.Binary.{Binary}
use Rattle.c_nodes.specs.declared.expression.Binary.TheVariants as Binaries
use Rattle.c_nodes.specs.declared.expression.Binary.TheOpen as Open
use Rattle.c_nodes.specs.declared.expression.Binary.TheFolds.{fold_out-Primary}
use Rattle.c_nodes.specs.declared.expression.Binary.TheViews.{out-Postfix, out-Cast, out-Cond, out-Specs}
use Rattle.c_nodes.specs.declared.expression.Cast.{Cast}
use Rattle.c_nodes.specs.declared.expression.Choice.{Choice}
use Rattle.c_nodes.specs.declared.expression.Cond.{Cond}
use Rattle.c_nodes.specs.declared.expression.Postfix.{Postfix}
use Rattle.c_nodes.specs.declared.expression.Prefix.{Prefix}
use Rattle.c_nodes.specs.declared.expression.Primary.{Primary}
use Rattle.c_nodes.specs.declared.expression.Spec.{Spec}
use Rattle.c_nodes.specs.declared.expression.Specs.{Specs}
use Rattle.c_nodes.specs.declared.expression.Suffix.{Suffix}
use Rattle.c_nodes.proofs.Shapes.{show_postfix, show_cast, show_binary_chain, show_cond, show_specs}
use Rattle.parse_expr.specs.Reading.{target_at}

posted_is_unary : (ps : List Post) (e : Tree) → is_unary e ≡ true → is_unary (posted e ps) ≡ true
posted_is_unary [] e h = h
posted_is_unary (p ∷ ps) e h = posted_is_unary ps (Behind e p) refl

step_is_unary : (l : LayerPrimary) → is_unary (primary_step l) ≡ true
step_is_unary (Open.Name name) = refl
step_is_unary (Open.Constant constant) = refl
step_is_unary (Open.Group opening inner closing) = refl

primary_is_unary : (p : Primary) → is_unary (primary_of p) ≡ true
unfolding primary_of
primary_is_unary p = rw (fold_out-Primary Tree EnumeratorTree Tree ParamTree Post Pre Tree SpecTree SuffixTree Tree Tree ChoiceParts Tree DeclaratorTree SpecTree Tree MemberTree Tree SpecTrees SpecTree binary_step enumerator_step operand_step param_step postfix_suffix_step prefix_step primary_step spec_step suffix_step assign_step cast_step choice_step cond_step declarator_step enum_body_step expr_step member_step postfix_step specs_step struct_body_step p) (step_is_unary _)

pub postfix_is_unary : (p : Postfix) → is_unary (postfix_of p) ≡ true
postfix_is_unary p = rw (show_postfix p) (posted_is_unary (map postfix_suffix_of (out-Postfix p).suffixes.items) (primary_of (out-Postfix p).primary) (primary_is_unary (out-Postfix p).primary))

before_is_unary : (p : Pre) (e : Tree) → is_unary (Before p e) ≡ not (is_cast p)
before_is_unary (Sign s) e = refl
before_is_unary (Sizeof k) e = refl
before_is_unary (tree.Cast o t c) e = refl

-- the first prefix decides
first_of_list : (prefixes : List Prefix) (p : Prefix) (e : Tree) → 0 < length prefixes → p ≡ get_or prefixes 0 p → is_unary (prefixed (map prefix_of prefixes) e) ≡ not (is_cast (prefix_of p))
first_of_list [] p e lt h = let no : ⊥ = omega arith in absurd no
first_of_list (q ∷ prefixes) p e lt h = rw h (before_is_unary (prefix_of q) (prefixed (map prefix_of prefixes) e))

pub first_is_unary : (list : List Prefix) (c : Cast) (p : Prefix) → list ≡ (out-Cast c).prefixes.items → 0 < length list → p ≡ get_or list 0 p → not (is_cast (prefix_of p)) ≡ is_unary (cast_of c)
first_is_unary list c p same lt h = rw (show_cast c, ← same) (sym (first_of_list list p (operand_of (out-Cast c).operand) lt h))

pub bare_is_unary : (list : List Prefix) (c : Cast) → list ≡ (out-Cast c).prefixes.items → length list ≤ 0 → is_unary (operand_of (out-Cast c).operand) ≡ is_unary (cast_of c)
bare_is_unary [] c same le = rw (show_cast c, ← same) refl
bare_is_unary (p ∷ list) c same le = let no : ⊥ = omega arith in absurd no

-- ---- lists that are empty, and others

none_of : {X : Type 0} (items : List X) (n : ℕ) → n ≡ length items → (n == 0) ≡ true → items ≡ []
none_of [] n h e = refl
none_of (x ∷ items) n h e = let z : n ≡ 0 = eqb-true n 0 e in let no : ⊥ = omega arith in absurd no

pub same_err : {X E : Type 0} (a b : E) → ◌≡◌ {A = Result X E} (Err a) (Err b) → b ≡ a
same_err a b h = cc

pub no_items : {X : Type 0} (v : Vec X Global) → (vec_len v == 0) ≡ true → v.items ≡ []
no_items v h = let k = v.ok.0 in none_of v.items (vec_len v) (omega (arith, k)) h

some_of : {X : Type 0} (items : List X) (n : ℕ) → n ≡ length items → (n == 0) ≡ false → items ≡ [] → ⊥
some_of {X = X} items n h e none =
    let l : length items ≡ 0 = ap (λ (i : List X). length i) none in
    let z : n ≡ 0 = omega arith in
    let y : (n == 0) ≡ true = eq-eqb n 0 z in
    let no : ◌≡◌ {A = Bool} true false = sym y ∙ e in
    cc

-- ---- chains and choices

pub chain_alone : (operand : Binary) (first : Box Binary Global) (others : Vec NextOperand Global) (b : Binary) → operand ≡ Binaries.Chain first others → (vec_len others == 0) ≡ true → b ≡ first.value → binary_of operand ≡ binary_of b
chain_alone operand first others b is none same = rw (is, same, show_binary_chain first others, no_items others none) refl

join_is_not : (bs : List (Symbol × Tree)) (s : Symbol) (a b : Tree) → is_unary (joined (Join s a b) bs) ≡ false
join_is_not [] s a b = refl
join_is_not (c ∷ bs) s a b = join_is_not bs c.0 (Join s a b) c.1

joined_is_not : (bs : List NextOperand) (a : Tree) → (bs ≡ [] → ⊥) → is_unary (joined a (map next_operand_of bs)) ≡ false
joined_is_not [] a some = absurd (some refl)
joined_is_not (b ∷ bs) a some = join_is_not (map next_operand_of bs) (next_operand_of b).0 a (next_operand_of b).1

pub chain_is_not : (operand : Binary) (first : Box Binary Global) (others : Vec NextOperand Global) → operand ≡ Binaries.Chain first others → (vec_len others == 0) ≡ false → is_unary (binary_of operand) ≡ false
chain_is_not operand first others is some =
    let k = others.ok.0 in
    rw (is, show_binary_chain first others) (joined_is_not others.items (binary_of first.value) (some_of others.items (vec_len others) (omega (arith, k)) some))

pub choices_none : (value : Cond) → (vec_len (out-Cond value).choices == 0) ≡ true → cond_of value ≡ binary_of (out-Cond value).last
choices_none value none = rw (show_cond value, no_items (out-Cond value).choices none) refl

pub choices_same : (value : Cond) (last : Binary) → (vec_len (out-Cond value).choices == 0) ≡ true → binary_of last ≡ binary_of (out-Cond value).last → chosen (map choice_of (out-Cond value).choices.items) (binary_of last) ≡ cond_of value
choices_same value last none same = rw (show_cond value, no_items (out-Cond value).choices none, same) refl

chosen_is_not : (cs : List Choice) (e : Tree) → (cs ≡ [] → ⊥) → is_unary (chosen (map choice_of cs) e) ≡ false
chosen_is_not [] e some = absurd (some refl)
chosen_is_not (c ∷ cs) e some = refl

pub choices_are_not : (value : Cond) → (vec_len (out-Cond value).choices == 0) ≡ false → is_unary (cond_of value) ≡ false
choices_are_not value some =
    let k = (out-Cond value).choices.ok.0 in
    rw (show_cond value) (chosen_is_not (out-Cond value).choices.items (binary_of (out-Cond value).last) (some_of (out-Cond value).choices.items (vec_len (out-Cond value).choices) (omega (arith, k)) some))

pub no_target : (a : Tree) (toks : Symbols) → is_unary a ≡ false → target_at a toks ≡ None
unfolding target_at
no_target a toks h = rw h refl

-- ---- `void` alone

two_are_not : (t u : SpecTree) (m : MoreSpecs) → is_void (Specified t (AndSpec u m)) ≡ false
two_are_not (OneWord s) u m = refl
two_are_not (Tagged k n) u m = refl
two_are_not (Body k tag o m ms c) u n = refl
two_are_not (NamedType s) u m = refl
two_are_not (EnumTagged k n) u m = refl
two_are_not (EnumBody k tag o e es last c) u m = refl

more_are_not : (ss : List Spec) (t : SpecTree) → (ss ≡ [] → ⊥) → is_void (Specified t (more_specs (map spec_of ss))) ≡ false
more_are_not [] t some = absurd (some refl)
more_are_not (s ∷ ss) t some = two_are_not t (spec_of s) (more_specs (map spec_of ss))

pub others_are_not : (s : Specs) → (vec_len (out-Specs s).others == 0) ≡ false → false ≡ is_void (specs_of s)
others_are_not s some =
    let k = (out-Specs s).others.ok.0 in
    rw (show_specs s) (sym (more_are_not (out-Specs s).others.items (spec_of (out-Specs s).first) (some_of (out-Specs s).others.items (vec_len (out-Specs s).others) (omega (arith, k)) some)))

pub first_is_void : (s : Specs) → (vec_len (out-Specs s).others == 0) ≡ true → is_void (Specified (spec_of (out-Specs s).first) NoSpec) ≡ is_void (specs_of s)
first_is_void s none = rw (show_specs s, no_items (out-Specs s).others none) refl

pub pointers_come : (s : SpecTrees) (ps : List Pointer) (ss : SuffixTrees) → 1 ≤ length ps → false ≡ is_bare_void s (spell_pointers ps) ss
pointers_come s [] ss le = let no : ⊥ = omega arith in absurd no
pointers_come s (p ∷ ps) ss le = refl

pub suffixes_come : (s : SpecTrees) (ps : List Pointer) (ss : List Suffix) → 1 ≤ length ss → false ≡ is_bare_void s (spell_pointers ps) (suffixes_of (map suffix_of ss))
suffixes_come s ps [] le = let no : ⊥ = omega arith in absurd no
suffixes_come s [] (x ∷ ss) le = refl
suffixes_come s (p ∷ ps) (x ∷ ss) le = refl
