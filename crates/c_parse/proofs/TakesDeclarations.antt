-- What is read as an initializer or as a declaration is a tree of its kind.
use Rattle.std.proofs.Common.{◌≡◌, ℕ, zero, suc, List, [], ◌∷◌, ◌++◌, Some, None, refl, sym, ap, subst, ◌∙◌}
use Rattle.c_token.specs.declared.token.Punct.TheVariants as marks
use Rattle.c_nodes.specs.Words.{Symbols, punct, spelled_comma}
use Rattle.c_nodes.specs.Kinds.{is_punct, is_text}
use Rattle.c_nodes.specs.Trees.{SpecTrees, DeclaratorTree, spelled_specs, spelled_declarator, AreSpecs, IsDeclarator}
use Rattle.c_nodes.specs.Programs.{InitTree, Value, Quoted, Listed, BegunTree, DeclarationTree, spelled_init, spelled_more_inits, spelled_begun, spelled_more_begun, spelled_declaration, spelled_declarations, IsInit, AreMoreInits, IsBegun, AreMoreBegun, IsDeclaration, AreDeclarations}
use Rattle.c_nodes.specs.ProgramViews.{more_inits}
use Rattle.parse_expr.specs.Reader.{◌>>=◌, Reader, front_is, punct_at, specs_come, comma_at, all_that}
use Rattle.parse_expr.proofs.Knots.{ArePlain, Takes, Sound, SoundStep}
use Rattle.parse_expr.proofs.Plain.{punct_is}
use Rattle.parse_expr.proofs.TakesLists.{Splits, join, splits_as, part, one, taken_as, take, sound_then, cases_if, cases_option, got_ok, punct_takes, comma_takes, Each, spelled_all, all_take}
use Rattle.parse_expr.proofs.Takes.{assign_takes, specs_takes, declarator_takes}
use Rattle.c_parse.specs.Reading.{next_init_by, list_by, value_by, init_by, init_inside, init_at, begun_on, begun_behind, begun_by, next_begun_by, declared_behind, declaration_on, declaration_behind, declaration_by, next_declaration_by}

-- ---- initializers

abbrev spelled_next_init : ℕ × InitTree → Symbols
spelled_next_init i = punct marks.Comma i.0 ∷ spelled_init i.1

next_init_takes : (inner : Reader InitTree) → Sound spelled_init IsInit inner → SoundStep spelled_next_init (λ i. IsInit i.1) (next_init_by inner)
unfolding next_init_by
next_init_takes inner sound [] plain x e = absurd cc
next_init_takes inner sound (s ∷ rest) plain x e = cases_if (is_punct marks.Comma s.kind) _ _ (Some (Some x))
    (λ is e2. cases_if (front_is (is_punct marks.RightBrace) rest) _ _ (Some (Some x))
    (λ ends e3. absurd cc)
    (λ ends e3.
    let i = sound_then sound rest plain.1 _ x (got_ok (inner rest >>= λ i. Some ((s.line, i.0), i.1)) x e3) in
    taken_as s (punct marks.Comma s.line) rest (punct_is marks.Comma s plain.0 is)
    (take (s.line, i.read.0) (join (one (punct marks.Comma s.line) rest) (part i.takes)) i.takes.tree i.takes.plain i.on)) e2)
    (λ is e2. absurd cc) e

more_inits_spelled : (is : List (ℕ × InitTree)) → spelled_more_inits (more_inits is) ≡ spelled_all spelled_next_init is
more_inits_spelled [] = refl
more_inits_spelled (i ∷ is) = ap (λ (l : Symbols). spelled_next_init i ++ l) (more_inits_spelled is)

more_inits_are : (is : List (ℕ × InitTree)) → Each (λ i. IsInit i.1) is → AreMoreInits (more_inits is)
more_inits_are [] each = tt
more_inits_are (i ∷ is) each = (each.0, more_inits_are is each.1)

list_takes : (inner : Reader InitTree) → Sound spelled_init IsInit inner → (o : ℕ) (toks : Symbols) → ArePlain toks → (x : InitTree × Symbols) → list_by inner o toks ≡ Some x → Takes spelled_init IsInit (punct marks.LeftBrace o ∷ toks) x
unfolding list_by
list_takes inner sound o toks plain x e =
    let i = sound_then sound toks plain _ x e in
    let is = sound_then (all_take spelled_next_init (λ i. IsInit i.1) (next_init_by inner) (next_init_takes inner sound)) i.read.1 i.takes.plain _ x i.on in
    let last = comma_takes is.read.1 is.takes.plain in
    let c = sound_then (punct_takes marks.RightBrace) (comma_at is.read.1).1 last.plain _ x is.on in
    take (Listed o i.read.0 (more_inits is.read.0) (comma_at is.read.1).0 c.read.0)
    (join (one (punct marks.LeftBrace o) toks) (join (part i.takes) (join (splits_as (part is.takes) (more_inits_spelled is.read.0)) (join (part last) (part c.takes)))))
    (i.takes.tree, more_inits_are is.read.0 is.takes.tree) c.takes.plain c.on

value_takes : (n : ℕ) → Sound spelled_init IsInit (value_by n)
unfolding value_by
value_takes n toks plain x e =
    let a = sound_then (assign_takes n) toks plain _ x e in
    take (Value a.read.0) (part a.takes) a.takes.tree a.takes.plain a.on

init_by_takes : (n : ℕ) (inner : Reader InitTree) → Sound spelled_init IsInit inner → Sound spelled_init IsInit (init_by n inner)
unfolding init_by
init_by_takes n inner sound [] plain x e = absurd cc
init_by_takes n inner sound (s ∷ rest) plain x e = cases_if (is_punct marks.LeftBrace s.kind) _ _ (Some x)
    (λ is e2. taken_as s (punct marks.LeftBrace s.line) rest (punct_is marks.LeftBrace s plain.0 is) (list_takes inner sound s.line rest plain.1 x e2))
    (λ is e2. cases_if (is_text s.kind) _ _ (Some x)
    (λ is e3. take (Quoted s) (one s rest) is plain.1 e3)
    (λ is e3. value_takes n (s ∷ rest) plain x e3) e2) e

inside_takes : (n : ℕ) → Sound spelled_init IsInit (init_inside n)
unfolding init_inside
inside_takes zero toks plain x e = absurd cc
inside_takes (suc n) toks plain x e = init_by_takes n (init_inside n) (inside_takes n) toks plain x e

pub init_takes : (n : ℕ) → Sound spelled_init IsInit (init_at n)
init_takes n = init_by_takes n (init_inside n) (inside_takes n)

-- ---- declarators with what they begin as

-- behind a declarator
pub begun_behind_takes : (n : ℕ) (d : DeclaratorTree) → IsDeclarator d → (toks : Symbols) → ArePlain toks → (x : BegunTree × Symbols) → begun_behind n d toks ≡ Some x → Takes spelled_begun IsBegun (spelled_declarator d ++ toks) x
unfolding begun_behind
begun_behind_takes n d is toks plain x e = cases_option (punct_at marks.Assign toks) (begun_on n d toks) (Some x)
    (λ z come e2.
    let t = punct_takes marks.Assign toks plain z come in
    let i = sound_then (init_takes n) z.1 t.plain _ x e2 in
    take (record { declarator = d; init = Some (z.0, i.read.0) }) (join (record { is = refl }) (join (part t) (part i.takes))) (is, i.takes.tree) i.takes.plain i.on)
    (λ come e2. take (record { declarator = d; init = None }) (join {toks = spelled_declarator d ++ toks} {b = []} {middle = toks} (record { is = refl }) (record { is = refl })) (is, tt) plain e2) e

begun_takes : (n : ℕ) → Sound spelled_begun IsBegun (begun_by n)
unfolding begun_by
begun_takes n toks plain x e =
    let d = sound_then (declarator_takes n) toks plain _ x e in
    let t = d.takes in
    subst (λ (l : Symbols). Takes spelled_begun IsBegun l x) (sym t.parts) (begun_behind_takes n d.read.0 t.tree d.read.1 t.plain x d.on)

abbrev spelled_next_begun : ℕ × BegunTree → Symbols
spelled_next_begun b = punct marks.Comma b.0 ∷ spelled_begun b.1

next_begun_takes : (n : ℕ) → SoundStep spelled_next_begun (λ b. IsBegun b.1) (next_begun_by n)
unfolding next_begun_by
next_begun_takes n [] plain x e = absurd cc
next_begun_takes n (s ∷ rest) plain x e = cases_if (is_punct marks.Comma s.kind) _ _ (Some (Some x))
    (λ is e2.
    let b = sound_then (begun_takes n) rest plain.1 _ x (got_ok (begun_by n rest >>= λ b. Some ((s.line, b.0), b.1)) x e2) in
    taken_as s (punct marks.Comma s.line) rest (punct_is marks.Comma s plain.0 is)
    (take (s.line, b.read.0) (join (one (punct marks.Comma s.line) rest) (part b.takes)) b.takes.tree b.takes.plain b.on))
    (λ is e2. absurd cc) e

more_begun_spelled : (bs : List (ℕ × BegunTree)) → spelled_more_begun bs ≡ spelled_all spelled_next_begun bs
more_begun_spelled [] = refl
more_begun_spelled (b ∷ bs) = ap (λ (l : Symbols). spelled_next_begun b ++ l) (more_begun_spelled bs)

more_begun_are : (bs : List (ℕ × BegunTree)) → Each (λ b. IsBegun b.1) bs → AreMoreBegun bs
more_begun_are [] each = tt
more_begun_are (b ∷ bs) each = (each.0, more_begun_are bs each.1)

-- ---- declarations

-- behind the specifiers and the first declarator
pub declared_takes : (n : ℕ) (s : SpecTrees) (b : BegunTree) → AreSpecs s → IsBegun b → (toks : Symbols) → ArePlain toks → (x : DeclarationTree × Symbols) → declared_behind n s b toks ≡ Some x → Takes spelled_declaration IsDeclaration (spelled_specs s ++ (spelled_begun b ++ toks)) x
unfolding declared_behind
declared_takes n s b specs is toks plain x e =
    let bs = sound_then (all_take spelled_next_begun (λ b. IsBegun b.1) (next_begun_by n) (next_begun_takes n)) toks plain _ x e in
    let c = sound_then (punct_takes marks.Semicolon) bs.read.1 bs.takes.plain _ x bs.on in
    let begun : Splits (spelled_begun b ++ toks) (spelled_begun b ++ spelled_more_begun bs.read.0) bs.read.1 = join (record { is = refl }) (splits_as (part bs.takes) (more_begun_spelled bs.read.0)) in
    take (record { specs = s; declared = Some (b, bs.read.0); semicolon = c.read.0 }) (join (record { is = refl }) (join begun (part c.takes))) (specs, (is, more_begun_are bs.read.0 bs.takes.tree)) c.takes.plain c.on

declaration_behind_takes : (n : ℕ) (s : SpecTrees) → AreSpecs s → (toks : Symbols) → ArePlain toks → (x : DeclarationTree × Symbols) → declaration_behind n s toks ≡ Some x → Takes spelled_declaration IsDeclaration (spelled_specs s ++ toks) x
unfolding declaration_behind
declaration_behind_takes n s specs toks plain x e = cases_option (punct_at marks.Semicolon toks) (declaration_on n s toks) (Some x)
    (λ z come e2.
    let t = punct_takes marks.Semicolon toks plain z come in
    take (record { specs = s; declared = None; semicolon = z.0 }) (join (record { is = refl }) (part t)) (specs, tt) t.plain e2)
    (λ come e2.
    let b = sound_then (begun_takes n) toks plain _ x e2 in
    let t = b.takes in
    subst (λ (l : Symbols). Takes spelled_declaration IsDeclaration (spelled_specs s ++ l) x) (sym t.parts) (declared_takes n s b.read.0 specs t.tree b.read.1 t.plain x b.on)) e

pub declaration_takes : (n : ℕ) → Sound spelled_declaration IsDeclaration (declaration_by n)
unfolding declaration_by
declaration_takes n toks plain x e =
    let s = sound_then (specs_takes n) toks plain _ x e in
    let t = s.takes in
    subst (λ (l : Symbols). Takes spelled_declaration IsDeclaration l x) (sym t.parts) (declaration_behind_takes n s.read.0 t.tree s.read.1 t.plain x s.on)

next_declaration_takes : (n : ℕ) → SoundStep spelled_declaration IsDeclaration (next_declaration_by n)
unfolding next_declaration_by
next_declaration_takes n toks plain x e = cases_if (specs_come toks) _ _ (Some (Some x))
    (λ is e2. declaration_takes n toks plain x (got_ok (declaration_by n toks) x e2))
    (λ is e2. absurd cc) e

declarations_spelled : (ds : List DeclarationTree) → spelled_declarations ds ≡ spelled_all spelled_declaration ds
declarations_spelled [] = refl
declarations_spelled (d ∷ ds) = ap (λ (l : Symbols). spelled_declaration d ++ l) (declarations_spelled ds)

declarations_are : (ds : List DeclarationTree) → Each IsDeclaration ds → AreDeclarations ds
declarations_are [] each = tt
declarations_are (d ∷ ds) each = (each.0, declarations_are ds each.1)

-- all declarations of a block
pub declarations_take : (n : ℕ) → Sound spelled_declarations AreDeclarations (all_that (next_declaration_by n))
declarations_take n toks plain x e =
    let t = all_take spelled_declaration IsDeclaration (next_declaration_by n) (next_declaration_takes n) toks plain x e in
    record { parts = t.parts ∙ ap (λ (l : Symbols). l ++ x.1) (sym (declarations_spelled x.0)); tree = declarations_are x.0 t.tree; plain = t.plain }
