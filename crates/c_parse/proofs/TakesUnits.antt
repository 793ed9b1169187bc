-- What is read as a unit is one, and it is spelled with all tokens.
use Rattle.std.proofs.Common.{◌≡◌, ℕ, true, ◌&&◌, List, [], ◌∷◌, ◌++◌, length, Some, None, refl, sym, ap, subst, ◌∙◌}
use Rattle.std.proofs.lemmas.List.{append-nil}
use Rattle.std.proofs.lemmas.Option.{same_Some}
use Rattle.c_token.specs.declared.token.Punct.TheVariants as marks
use Rattle.c_nodes.specs.Words.{Symbols}
use Rattle.c_nodes.specs.Kinds.{is_punct}
use Rattle.c_nodes.specs.Trees.{SpecTrees, DeclaratorTree, spelled_specs, spelled_declarator, AreSpecs, IsDeclarator}
use Rattle.c_nodes.specs.Programs.{ItemTree, Function, Declaration, spelled_declaration, spelled_item, spelled_unit, IsItem, IsUnit, is_function}
use Rattle.parse_expr.specs.Reader.{front_is, punct_at, all_that}
use Rattle.parse_expr.proofs.Knots.{ArePlain, Takes, Sound, SoundStep}
use Rattle.parse_expr.proofs.Collects.{and_both}
use Rattle.parse_expr.proofs.TakesLists.{Splits, join, part, take, bind_ok, sound_then, cases_if, cases_option, got_ok, punct_takes, Each, spelled_all, all_take}
use Rattle.parse_expr.proofs.Takes.{specs_takes, declarator_takes}
use Rattle.c_parse.specs.Reading.{begun_behind, declared_behind, statement_at, function_by, variables_by, declared_item_by, item_on, item_behind, item_by, next_item_by, whole, unit_by}
use Rattle.c_parse.proofs.TakesDeclarations.{begun_behind_takes, declared_takes}
use Rattle.c_parse.proofs.TakesStatements.{block_takes, statement_takes}

-- behind the specifiers and the first declarator
function_takes : (n : ℕ) (s : SpecTrees) (d : DeclaratorTree) → AreSpecs s → IsDeclarator d → is_function d ≡ true → (toks : Symbols) → ArePlain toks → (x : ItemTree × Symbols) → function_by n s d toks ≡ Some x → Takes spelled_item IsItem (spelled_specs s ++ (spelled_declarator d ++ toks)) x
unfolding function_by
function_takes n s d specs is bracketed toks plain x e =
    let b = sound_then (block_takes n 256 (statement_at n 256) (statement_takes n 256)) toks plain _ x e in
    take (Function s d b.read.0) (join (record { is = refl }) (join (record { is = refl }) (part b.takes))) (specs, is, bracketed, b.takes.tree.0, b.takes.tree.1) b.takes.plain b.on

variables_take : (n : ℕ) (s : SpecTrees) (d : DeclaratorTree) → AreSpecs s → IsDeclarator d → (toks : Symbols) → ArePlain toks → (x : ItemTree × Symbols) → variables_by n s d toks ≡ Some x → Takes spelled_item IsItem (spelled_specs s ++ (spelled_declarator d ++ toks)) x
unfolding variables_by
variables_take n s d specs is toks plain x e =
    let b = bind_ok (begun_behind n d toks) _ x e in
    let first = begun_behind_takes n d is toks plain b.0 b.1 in
    let t = bind_ok (declared_behind n s b.0.0 b.0.1) _ x b.2 in
    let others = declared_takes n s b.0.0 specs first.tree b.0.1 first.plain t.0 t.1 in
    let split : Splits (spelled_specs s ++ (spelled_declarator d ++ toks)) (spelled_declaration t.0.0) t.0.1 = record { is = ap (λ (l : Symbols). spelled_specs s ++ l) first.parts ∙ others.parts } in
    take (Declaration t.0.0) split others.tree others.plain t.2

declared_item_takes : (n : ℕ) (s : SpecTrees) (d : DeclaratorTree) → AreSpecs s → IsDeclarator d → (toks : Symbols) → ArePlain toks → (x : ItemTree × Symbols) → declared_item_by n s d toks ≡ Some x → Takes spelled_item IsItem (spelled_specs s ++ (spelled_declarator d ++ toks)) x
unfolding declared_item_by
declared_item_takes n s d specs is toks plain x e = cases_if (is_function d && front_is (is_punct marks.LeftBrace) toks) _ _ (Some x)
    (λ both e2. function_takes n s d specs is (and_both (is_function d) (front_is (is_punct marks.LeftBrace) toks) both).0 toks plain x e2)
    (λ both e2. variables_take n s d specs is toks plain x e2) e

item_behind_takes : (n : ℕ) (s : SpecTrees) → AreSpecs s → (toks : Symbols) → ArePlain toks → (x : ItemTree × Symbols) → item_behind n s toks ≡ Some x → Takes spelled_item IsItem (spelled_specs s ++ toks) x
unfolding item_behind
item_behind_takes n s specs toks plain x e = cases_option (punct_at marks.Semicolon toks) (item_on n s toks) (Some x)
    (λ z come e2.
    let t = punct_takes marks.Semicolon toks plain z come in
    take (Declaration (record { specs = s; declared = None; semicolon = z.0 })) (join (record { is = refl }) (part t)) (specs, tt) t.plain e2)
    (λ come e2.
    let d = sound_then (declarator_takes n) toks plain _ x e2 in
    let t = d.takes in
    subst (λ (l : Symbols). Takes spelled_item IsItem (spelled_specs s ++ l) x) (sym t.parts) (declared_item_takes n s d.read.0 specs t.tree d.read.1 t.plain x d.on)) e

pub item_takes : (n : ℕ) → Sound spelled_item IsItem (item_by n)
unfolding item_by
item_takes n toks plain x e =
    let s = sound_then (specs_takes n) toks plain _ x e in
    let t = s.takes in
    subst (λ (l : Symbols). Takes spelled_item IsItem l x) (sym t.parts) (item_behind_takes n s.read.0 t.tree s.read.1 t.plain x s.on)

next_item_takes : (n : ℕ) → SoundStep spelled_item IsItem (next_item_by n)
unfolding next_item_by
next_item_takes n toks plain x e = cases_if (front_is (λ k. true) toks) _ _ (Some (Some x))
    (λ is e2. item_takes n toks plain x (got_ok (item_by n toks) x e2))
    (λ is e2. absurd cc) e

unit_spelled : (u : List ItemTree) → spelled_unit u ≡ spelled_all spelled_item u
unit_spelled [] = refl
unit_spelled (i ∷ u) = ap (λ (l : Symbols). spelled_item i ++ l) (unit_spelled u)

unit_is : (u : List ItemTree) → Each IsItem u → IsUnit u
unit_is [] each = tt
unit_is (i ∷ u) each = (each.0, unit_is u each.1)

whole_takes : (x : List ItemTree × Symbols) (u : List ItemTree) → whole x ≡ Some u → (x.0 ≡ u) × (x.1 ≡ [])
whole_takes (is, []) u e = (same_Some is u e, refl)
whole_takes (is, s ∷ rest) u e = absurd cc

pub unit_takes : (toks : Symbols) (u : List ItemTree) → ArePlain toks → unit_by toks ≡ Some u → (toks ≡ spelled_unit u) × IsUnit u
unfolding unit_by
unit_takes toks u plain e =
    let n = length toks in
    let a = bind_ok (all_that (next_item_by n) toks) whole u e in
    let t = all_take spelled_item IsItem (next_item_by n) (next_item_takes n) toks plain a.0 a.1 in
    let w = whole_takes a.0 u a.2 in
    let parts : toks ≡ spelled_unit a.0.0 = t.parts ∙ ap (λ (l : Symbols). spelled_all spelled_item a.0.0 ++ l) w.1 ∙ append-nil (spelled_all spelled_item a.0.0) ∙ sym (unit_spelled a.0.0) in
    subst (λ (v : List ItemTree). (toks ≡ spelled_unit v) × IsUnit v) w.0 (parts, unit_is a.0.0 t.tree)
