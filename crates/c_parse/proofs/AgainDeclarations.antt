-- Initializers and declarations are read again from their spelling.
use Rattle.std.proofs.Common.{◌≡◌, ℕ, zero, suc, ◌≤◌, Bool, true, false, if◌then◌else◌, List, [], ◌∷◌, ◌++◌, length, Option, Some, None, refl, ap, ◌∙◌, append_assoc, length-append, arith}
use Rattle.c_token.specs.declared.token.TokKind.{TokKind}
use Rattle.c_token.specs.declared.token.TokKind.TheVariants as kinds
use Rattle.c_token.specs.declared.token.Punct.TheVariants as marks
use Rattle.c_nodes.specs.Words.{Symbol, Symbols, punct, spelled_comma}
use Rattle.c_nodes.specs.Kinds.{is_punct, is_text, is_spec}
use Rattle.c_nodes.specs.Trees.{Tree, SpecTrees, DeclaratorTree, spelled, spelled_specs, spelled_declarator, IsDeclarator}
use Rattle.c_nodes.specs.Programs.{InitTree, Value, Quoted, Listed, MoreInits, NoInit, AndInit, BegunTree, DeclaredTrees, DeclarationTree, spelled_init, spelled_more_inits, spelled_equals, spelled_begun, spelled_more_begun, spelled_declared, spelled_declaration, spelled_declarations, IsInit, AreMoreInits, IsEquals, IsBegun, AreMoreBegun, AreDeclared, IsDeclaration, AreDeclarations}
use Rattle.c_nodes.specs.ProgramViews.{more_inits}
use Rattle.parse_expr.specs.Reader.{Reader, front_is, punct_at, comma_at, collect}
use Rattle.parse_expr.proofs.Knots.{goes_on_specs, goes_on_suffixes, begins_expr, Stops}
use Rattle.parse_expr.proofs.Collects.{front_not, punct_none, collect_ends, collect_more}
use Rattle.parse_expr.proofs.Starts.{begins_declarator, declarator_token, declarator_starts}
use Rattle.parse_expr.proofs.AgainOperands.{expr_starts}
use Rattle.parse_expr.proofs.AgainAll.{assign_again, specs_again, declarator_again}
use Rattle.c_parse.specs.Reading.{next_init_by, list_by, value_by, init_by, init_inside, init_at, begun_behind, begun_by, next_begun_by, declared_behind, declaration_behind, declaration_by, next_declaration_by}
use Rattle.c_parse.proofs.AgainFronts.{apart_mark, no_mark, no_text, begins_init, init_starts, declaration_starts, declaration_has_token}

-- ---- initializers

abbrev pub init_items : MoreInits → List (ℕ × InitTree)
init_items NoInit = []
init_items (AndInit c i is) = (c, i) ∷ init_items is

pub inits_of_items : (is : MoreInits) → more_inits (init_items is) ≡ is
inits_of_items NoInit = refl
inits_of_items (AndInit c i is) = ap (AndInit c i) (inits_of_items is)

abbrev pub ReadsInit : InitTree → Type 0
ReadsInit i = (n : ℕ) → length (spelled_init i) ≤ n → IsInit i → (rest : Symbols) → Stops 12 rest → init_at n (spelled_init i ++ rest) ≡ Some (i, rest)

-- what stands behind the items: a comma or none, and `}`
abbrev list_end : Option ℕ → ℕ → Symbols → Symbols
list_end last c rest = spelled_comma last ++ punct marks.RightBrace c ∷ rest

abbrev ReadsInits : MoreInits → Type 0
ReadsInits is = (n : ℕ) → length (spelled_more_inits is) ≤ n → AreMoreInits is → (last : Option ℕ) (c : ℕ) (rest : Symbols) (m : ℕ) → length (spelled_more_inits is) ≤ m → collect (next_init_by (init_at n)) m (spelled_more_inits is ++ list_end last c rest) ≡ Some (init_items is, list_end last c rest)

value_front : (n : ℕ) (inner : Reader InitTree) (toks : Symbols) → front_is begins_expr toks ≡ true → init_by n inner toks ≡ value_by n toks
unfolding init_by
value_front n inner [] h = absurd cc
value_front n inner (s ∷ toks) h = rw (apart_mark begins_expr marks.LeftBrace refl s.kind h, no_text s.kind h) refl

value_reads : (e : Tree) → ReadsInit (Value e)
unfolding value_by
value_reads e n le is rest stop =
    let first = value_front n (init_inside n) (spelled e ++ rest) (expr_starts e is.0 rest) in
    let whole = assign_again n e le is rest stop in
    first ∙ rw whole refl

no_brace : (k : TokKind) → is_text k ≡ true → is_punct marks.LeftBrace k ≡ false
no_brace kinds.Text h = refl
no_brace _ h = absurd cc

quoted_reads : (s : Symbol) → ReadsInit (Quoted s)
unfolding init_by
quoted_reads s n le is rest stop = rw (no_brace s.kind is, is) refl

more_stop : (is : MoreInits) (last : Option ℕ) (c : ℕ) (rest : Symbols) → Stops 12 (spelled_more_inits is ++ list_end last c rest)
more_stop NoInit None c rest = refl
more_stop NoInit (Some l) c rest = refl
more_stop (AndInit k i is) last c rest = refl

inits_end : (inner : Reader InitTree) (last : Option ℕ) (c : ℕ) (rest : Symbols) → next_init_by inner (list_end last c rest) ≡ Some None
unfolding next_init_by
inits_end inner None c rest = refl
inits_end inner (Some l) c rest = refl

comma_reads : (last : Option ℕ) (c : ℕ) (rest : Symbols) → comma_at (list_end last c rest) ≡ (last, punct marks.RightBrace c ∷ rest)
unfolding comma_at punct_at
comma_reads None c rest = refl
comma_reads (Some l) c rest = refl

list_spelled : (i : InitTree) (is : MoreInits) (last : Option ℕ) (c : ℕ) (rest : Symbols) → (spelled_init i ++ (spelled_more_inits is ++ (spelled_comma last ++ punct marks.RightBrace c ∷ []))) ++ rest ≡ spelled_init i ++ (spelled_more_inits is ++ list_end last c rest)
list_spelled i is last c rest = simp append_assoc

listed_reads : (o : ℕ) (i : InitTree) (is : MoreInits) (last : Option ℕ) (c : ℕ) → ReadsInit i → ReadsInits is → ReadsInit (Listed o i is last c)
unfolding init_by list_by init_inside punct_at
listed_reads o i is last c hi his zero le are rest stop = absurd (omega arith)
listed_reads o i is last c hi his (suc n) le are rest stop =
    let end = list_end last c rest in
    let more = spelled_more_inits is ++ end in
    let sizes = length-append {A = Symbol} in
    let first = hi n (omega (arith, length-append {A = Symbol})) are.0 more (more_stop is last c rest) in
    let others = his n (omega (arith, length-append {A = Symbol})) are.1 last c rest (length more) (omega (arith, length-append {A = Symbol})) in
    rw (list_spelled i is last c rest, first, others, comma_reads last c rest, inits_of_items is) refl

no_init_reads : ReadsInits NoInit
no_init_reads n le are last c rest m turns = collect_ends (next_init_by (init_at n)) m (list_end last c rest) (inits_end (init_at n) last c rest)

next_init_reads : (k : ℕ) (i : InitTree) (n : ℕ) (more : Symbols) → IsInit i → init_at n (spelled_init i ++ more) ≡ Some (i, more) → next_init_by (init_at n) (punct marks.Comma k ∷ (spelled_init i ++ more)) ≡ Some (Some ((k, i), more))
unfolding next_init_by
next_init_reads k i n more is h = rw (no_mark begins_init marks.RightBrace refl (spelled_init i ++ more) (init_starts i is more), h) refl

and_init_reads : (k : ℕ) (i : InitTree) (is : MoreInits) → ReadsInit i → ReadsInits is → ReadsInits (AndInit k i is)
and_init_reads k i is hi his n le are last c rest zero turns = absurd (omega arith)
and_init_reads k i is hi his n le are last c rest (suc m) turns =
    let end = list_end last c rest in
    let more = spelled_more_inits is ++ end in
    let first = hi n (omega (arith, length-append (spelled_init i) (spelled_more_inits is))) are.0 more (more_stop is last c rest) in
    let step = next_init_reads k i n more are.0 first in
    let others = his n (omega (arith, length-append (spelled_init i) (spelled_more_inits is))) are.1 last c rest m (omega (arith, length-append (spelled_init i) (spelled_more_inits is))) in
    ap (λ (l : Symbols). collect (next_init_by (init_at n)) (suc m) (punct marks.Comma k ∷ l)) (append_assoc (spelled_init i) (spelled_more_inits is) end)
    ∙ collect_more (next_init_by (init_at n)) m (punct marks.Comma k ∷ (spelled_init i ++ more)) more end (k, i) (init_items is) step others

mutual
  pub init_again : (i : InitTree) → ReadsInit i
  init_again (Value e) = value_reads e
  init_again (Quoted s) = quoted_reads s
  init_again (Listed o i is last c) = listed_reads o i is last c (init_again i) (inits_again is)

  inits_again : (is : MoreInits) → ReadsInits is
  inits_again NoInit = no_init_reads
  inits_again (AndInit k i is) = and_init_reads k i is (init_again i) (inits_again is)

-- ---- declarators with what they begin as

-- what stands behind one
abbrev pub ends_begun : TokKind → Bool
ends_begun k = if is_punct marks.Comma k then true else is_punct marks.Semicolon k

pub begun_token : (k : TokKind) (test : TokKind → Bool) → test (kinds.Punct marks.Comma) ≡ false → test (kinds.Punct marks.Semicolon) ≡ false → ends_begun k ≡ true → test k ≡ false
begun_token (kinds.Punct marks.Comma) test comma semicolon h = comma
begun_token (kinds.Punct marks.Semicolon) test comma semicolon h = semicolon
begun_token _ test comma semicolon h = absurd cc

pub begun_not : (test : TokKind → Bool) → test (kinds.Punct marks.Comma) ≡ false → test (kinds.Punct marks.Semicolon) ≡ false → (rest : Symbols) → front_is ends_begun rest ≡ true → front_is test rest ≡ false
begun_not test comma semicolon rest h = front_not ends_begun test (λ k. begun_token k test comma semicolon) rest h

-- what stands behind a declarator
pub equals_stop : (i : Option (ℕ × InitTree)) (rest : Symbols) → front_is ends_begun rest ≡ true → front_is goes_on_suffixes (spelled_equals i ++ rest) ≡ false
equals_stop None rest h = begun_not goes_on_suffixes refl refl rest h
equals_stop (Some i) rest h = refl

pub begun_behind_again : (n : ℕ) (d : DeclaratorTree) (i : Option (ℕ × InitTree)) → length (spelled_equals i) ≤ n → IsEquals i → (rest : Symbols) → front_is ends_begun rest ≡ true → begun_behind n d (spelled_equals i ++ rest) ≡ Some (record { declarator = d; init = i }, rest)
unfolding begun_behind punct_at
begun_behind_again n d None le is rest h = rw (punct_none marks.Assign rest (begun_not (is_punct marks.Assign) refl refl rest h)) refl
begun_behind_again n d (Some i) le is rest h = rw (init_again i.1 n (omega arith) is rest (begun_not _ refl refl rest h)) refl

pub begun_again : (n : ℕ) (b : BegunTree) → length (spelled_begun b) ≤ n → IsBegun b → (rest : Symbols) → front_is ends_begun rest ≡ true → begun_by n (spelled_begun b ++ rest) ≡ Some (b, rest)
unfolding begun_by
begun_again n b le is rest h =
    let more = spelled_equals b.init ++ rest in
    let sizes = length-append (spelled_declarator b.declarator) (spelled_equals b.init) in
    let first = declarator_again n b.declarator (omega arith) is.0 more (equals_stop b.init rest h) in
    rw (append_assoc (spelled_declarator b.declarator) (spelled_equals b.init) rest, first) (begun_behind_again n b.declarator b.init (omega arith) is.1 rest h)

-- further ones, to the semicolon
more_begun_stop : (bs : List (ℕ × BegunTree)) (c : ℕ) (rest : Symbols) → front_is ends_begun (spelled_more_begun bs ++ punct marks.Semicolon c ∷ rest) ≡ true
more_begun_stop [] c rest = refl
more_begun_stop (b ∷ bs) c rest = refl

next_begun_end : (n c : ℕ) (rest : Symbols) → next_begun_by n (punct marks.Semicolon c ∷ rest) ≡ Some None
unfolding next_begun_by
next_begun_end n c rest = refl

next_begun_reads : (n k : ℕ) (b : BegunTree) (more : Symbols) → begun_by n (spelled_begun b ++ more) ≡ Some (b, more) → next_begun_by n (punct marks.Comma k ∷ (spelled_begun b ++ more)) ≡ Some (Some ((k, b), more))
unfolding next_begun_by
next_begun_reads n k b more h = rw h refl

pub more_begun_again : (n : ℕ) (bs : List (ℕ × BegunTree)) → length (spelled_more_begun bs) ≤ n → AreMoreBegun bs → (c : ℕ) (rest : Symbols) (m : ℕ) → length (spelled_more_begun bs) ≤ m → collect (next_begun_by n) m (spelled_more_begun bs ++ punct marks.Semicolon c ∷ rest) ≡ Some (bs, punct marks.Semicolon c ∷ rest)
more_begun_again n [] le are c rest m turns = collect_ends (next_begun_by n) m (punct marks.Semicolon c ∷ rest) (next_begun_end n c rest)
more_begun_again n (b ∷ bs) le are c rest zero turns = absurd (omega arith)
more_begun_again n (b ∷ bs) le are c rest (suc m) turns =
    let end = punct marks.Semicolon c ∷ rest in
    let more = spelled_more_begun bs ++ end in
    let sizes = length-append (spelled_begun b.1) (spelled_more_begun bs) in
    let first = begun_again n b.1 (omega arith) are.0 more (more_begun_stop bs c rest) in
    let step = next_begun_reads n b.0 b.1 more first in
    let others = more_begun_again n bs (omega arith) are.1 c rest m (omega arith) in
    ap (λ (l : Symbols). collect (next_begun_by n) (suc m) (punct marks.Comma b.0 ∷ l)) (append_assoc (spelled_begun b.1) (spelled_more_begun bs) end)
    ∙ collect_more (next_begun_by n) m (punct marks.Comma b.0 ∷ (spelled_begun b.1 ++ more)) more end b bs step others

-- ---- declarations

-- behind the first declarator
pub declared_again : (n : ℕ) (specs : SpecTrees) (b : BegunTree) (bs : List (ℕ × BegunTree)) (c : ℕ) → length (spelled_more_begun bs) ≤ n → AreMoreBegun bs → (rest : Symbols) → declared_behind n specs b (spelled_more_begun bs ++ punct marks.Semicolon c ∷ rest) ≡ Some (record { specs = specs; declared = Some (b, bs); semicolon = c }, rest)
unfolding declared_behind punct_at
declared_again n specs b bs c le are rest =
    let end = punct marks.Semicolon c ∷ rest in
    let turns = length-append (spelled_more_begun bs) end in
    rw (more_begun_again n bs le are c rest (length (spelled_more_begun bs ++ end)) (omega arith)) refl

-- a declarator doesn't begin with `;`, nor with what goes on with specifiers
pub declarator_not : (test : TokKind → Bool) → test (kinds.Punct marks.Star) ≡ false → test kinds.Name ≡ false → (d : DeclaratorTree) → IsDeclarator d → (rest : Symbols) → front_is test (spelled_declarator d ++ rest) ≡ false
declarator_not test star name d is rest = front_not begins_declarator test (λ k. declarator_token k test star name) (spelled_declarator d ++ rest) (declarator_starts d is rest)

begun_not_front : (test : TokKind → Bool) → test (kinds.Punct marks.Star) ≡ false → test kinds.Name ≡ false → (b : BegunTree) → IsBegun b → (rest : Symbols) → front_is test (spelled_begun b ++ rest) ≡ false
begun_not_front test star name b is rest = ap (front_is test) (append_assoc (spelled_declarator b.declarator) (spelled_equals b.init) rest) ∙ declarator_not test star name b.declarator is.0 (spelled_equals b.init ++ rest)

pub declared_stop : (d : Option DeclaredTrees) (c : ℕ) → AreDeclared d → (rest : Symbols) → front_is goes_on_specs (spelled_declared d ++ punct marks.Semicolon c ∷ rest) ≡ false
declared_stop None c are rest = refl
declared_stop (Some d) c are rest = ap (front_is goes_on_specs) (append_assoc (spelled_begun d.0) (spelled_more_begun d.1) (punct marks.Semicolon c ∷ rest)) ∙ begun_not_front goes_on_specs refl refl d.0 are.0 (spelled_more_begun d.1 ++ punct marks.Semicolon c ∷ rest)

-- behind the specifiers
declaration_behind_again : (n : ℕ) (specs : SpecTrees) (d : Option DeclaredTrees) (c : ℕ) → length (spelled_declared d) ≤ n → AreDeclared d → (rest : Symbols) → declaration_behind n specs (spelled_declared d ++ punct marks.Semicolon c ∷ rest) ≡ Some (record { specs = specs; declared = d; semicolon = c }, rest)
unfolding declaration_behind punct_at
declaration_behind_again n specs None c le are rest = refl
declaration_behind_again n specs (Some d) c le are rest =
    let end = punct marks.Semicolon c ∷ rest in
    let more = spelled_more_begun d.1 ++ end in
    let sizes = length-append (spelled_begun d.0) (spelled_more_begun d.1) in
    let none = punct_none marks.Semicolon (spelled_begun d.0 ++ more) (begun_not_front (is_punct marks.Semicolon) refl refl d.0 are.0 more) in
    let first = begun_again n d.0 (omega arith) are.0 more (more_begun_stop d.1 c rest) in
    rw (append_assoc (spelled_begun d.0) (spelled_more_begun d.1) end, none, first) (declared_again n specs d.0 d.1 c (omega arith) are.1 rest)

pub declaration_again : (n : ℕ) (d : DeclarationTree) → length (spelled_declaration d) ≤ n → IsDeclaration d → (rest : Symbols) → declaration_by n (spelled_declaration d ++ rest) ≡ Some (d, rest)
unfolding declaration_by
declaration_again n d le is rest =
    let end = punct marks.Semicolon d.semicolon ∷ rest in
    let more = spelled_declared d.declared ++ end in
    let regrouped : spelled_declaration d ++ rest ≡ spelled_specs d.specs ++ more = simp append_assoc in
    let first = specs_again n d.specs (omega (arith, length-append {A = Symbol})) is.0 more (declared_stop d.declared d.semicolon is.1 rest) in
    rw (regrouped, first) (declaration_behind_again n d.specs d.declared d.semicolon (omega (arith, length-append {A = Symbol})) is.1 rest)

next_declaration_none : (n : ℕ) (rest : Symbols) → front_is is_spec rest ≡ false → next_declaration_by n rest ≡ Some None
unfolding next_declaration_by
next_declaration_none n rest h = rw h refl

next_declaration_reads : (n : ℕ) (d : DeclarationTree) (more : Symbols) → IsDeclaration d → declaration_by n (spelled_declaration d ++ more) ≡ Some (d, more) → next_declaration_by n (spelled_declaration d ++ more) ≡ Some (Some (d, more))
unfolding next_declaration_by
next_declaration_reads n d more is h = rw (declaration_starts d is more, h) refl

pub declarations_again : (n : ℕ) (ds : List DeclarationTree) → length (spelled_declarations ds) ≤ n → AreDeclarations ds → (rest : Symbols) → front_is is_spec rest ≡ false → (m : ℕ) → length (spelled_declarations ds) ≤ m → collect (next_declaration_by n) m (spelled_declarations ds ++ rest) ≡ Some (ds, rest)
declarations_again n [] le are rest stop m turns = collect_ends (next_declaration_by n) m rest (next_declaration_none n rest stop)
declarations_again n (d ∷ ds) le are rest stop zero turns = absurd (omega (arith, declaration_has_token d, length-append (spelled_declaration d) (spelled_declarations ds)))
declarations_again n (d ∷ ds) le are rest stop (suc m) turns =
    let more = spelled_declarations ds ++ rest in
    let sizes = length-append (spelled_declaration d) (spelled_declarations ds) in
    let first = declaration_again n d (omega arith) are.0 more in
    let step = next_declaration_reads n d more are.0 first in
    let others = declarations_again n ds (omega arith) are.1 rest stop m (omega (arith, declaration_has_token d)) in
    ap (collect (next_declaration_by n) (suc m)) (append_assoc (spelled_declaration d) (spelled_declarations ds) rest)
    ∙ collect_more (next_declaration_by n) m (spelled_declaration d ++ more) more rest d ds step others
