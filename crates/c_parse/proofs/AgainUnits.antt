-- Units are read again from their spelling.
use Rattle.std.proofs.Common.{◌≡◌, ℕ, zero, suc, ◌≤◌, Bool, true, false, ◌&&◌, List, [], ◌∷◌, ◌++◌, length, Option, Some, None, refl, ap, ◌∙◌, append_assoc, length-append, arith}
use Rattle.c_token.specs.declared.token.Punct.TheVariants as marks
use Rattle.c_nodes.specs.Words.{Symbols, punct}
use Rattle.c_nodes.specs.Kinds.{is_punct, is_spec}
use Rattle.c_nodes.specs.Trees.{SpecTrees, DeclaratorTree, spelled_specs, spelled_declarator, IsDeclarator}
use Rattle.c_nodes.specs.Programs.{InitTree, BegunTree, DeclaredTrees, DeclarationTree, BlockTree, Block, ItemTree, Function, Declaration, spelled_equals, spelled_begun, spelled_more_begun, spelled_declared, spelled_declaration, spelled_block, spelled_item, spelled_unit, IsEquals, AreMoreBegun, AreDeclared, IsDeclaration, IsItem, IsUnit, is_function}
use Rattle.parse_expr.specs.Reader.{front_is, punct_at, collect}
use Rattle.parse_expr.proofs.Knots.{goes_on_specs, goes_on_suffixes}
use Rattle.parse_expr.proofs.Collects.{punct_none, collect_ends, collect_more}
use Rattle.parse_expr.proofs.AgainAll.{specs_again, declarator_again}
use Rattle.c_parse.specs.Reading.{function_by, variables_by, declared_item_by, item_behind, item_by, next_item_by, unit_by}
use Rattle.c_parse.proofs.AgainFronts.{has_front, item_starts, item_has_token}
use Rattle.c_parse.proofs.AgainDeclarations.{ends_begun, begun_not, equals_stop, begun_behind_again, declared_again, declared_stop, declarator_not}
use Rattle.c_parse.proofs.AgainStatements.{block_again}

no_semicolon : (d : DeclaratorTree) → IsDeclarator d → (rest : Symbols) → punct_at marks.Semicolon (spelled_declarator d ++ rest) ≡ None
no_semicolon d is rest = punct_none marks.Semicolon (spelled_declarator d ++ rest) (declarator_not (is_punct marks.Semicolon) refl refl d is rest)

-- ---- functions

block_front : (n : ℕ) (s : SpecTrees) (d : DeclaratorTree) (b : BlockTree) (rest : Symbols) → is_function d ≡ true → declared_item_by n s d (spelled_block b ++ rest) ≡ function_by n s d (spelled_block b ++ rest)
unfolding declared_item_by
block_front n s d (Block o ds ss c) rest h = rw h refl

block_stop : (b : BlockTree) (rest : Symbols) → front_is goes_on_suffixes (spelled_block b ++ rest) ≡ false
block_stop (Block o ds ss c) rest = refl

function_again : (n : ℕ) (s : SpecTrees) (d : DeclaratorTree) (b : BlockTree) → length (spelled_item (Function s d b)) ≤ n → IsItem (Function s d b) → (rest : Symbols) → item_by n (spelled_item (Function s d b) ++ rest) ≡ Some (Function s d b, rest)
unfolding item_by item_behind function_by
function_again n s d b le is rest =
    let body = spelled_block b ++ rest in
    let more = spelled_declarator d ++ body in
    let sizes = length-append (spelled_specs s) (spelled_declarator d ++ spelled_block b) in
    let sizes_behind = length-append (spelled_declarator d) (spelled_block b) in
    let regrouped : spelled_item (Function s d b) ++ rest ≡ spelled_specs s ++ more = simp append_assoc in
    let specs = specs_again n s (omega arith) is.0 more (declarator_not goes_on_specs refl refl d is.1 body) in
    let declarator = declarator_again n d (omega arith) is.1 body (block_stop b rest) in
    let block = block_again n b 256 is.4 (omega arith) is.3 rest in
    ap (item_by n) regrouped ∙ rw (specs, no_semicolon d is.1 body, declarator, block_front n s d b rest is.2, block) refl

-- ---- declarations outside functions

-- a declaration with declarators
abbrev variables : SpecTrees → DeclaredTrees → ℕ → DeclarationTree
variables s d c = record { specs = s; declared = Some d; semicolon = c }

more_front : (bs : List (ℕ × BegunTree)) (c : ℕ) (rest : Symbols) → front_is ends_begun (spelled_more_begun bs ++ punct marks.Semicolon c ∷ rest) ≡ true
more_front [] c rest = refl
more_front (b ∷ bs) c rest = refl

-- what is behind the first declarator is no block
equals_front : (i : Option (ℕ × InitTree)) (bs : List (ℕ × BegunTree)) (c : ℕ) (rest : Symbols) → front_is (is_punct marks.LeftBrace) (spelled_equals i ++ (spelled_more_begun bs ++ punct marks.Semicolon c ∷ rest)) ≡ false
equals_front None bs c rest = begun_not (is_punct marks.LeftBrace) refl refl (spelled_more_begun bs ++ punct marks.Semicolon c ∷ rest) (more_front bs c rest)
equals_front (Some i) bs c rest = refl

and_false : (a b : Bool) → b ≡ false → (a && b) ≡ false
and_false true b h = h
and_false false b h = refl

variables_front : (n : ℕ) (s : SpecTrees) (d : DeclaratorTree) (toks : Symbols) → front_is (is_punct marks.LeftBrace) toks ≡ false → declared_item_by n s d toks ≡ variables_by n s d toks
unfolding declared_item_by
variables_front n s d toks h = rw (and_false (is_function d) (front_is (is_punct marks.LeftBrace) toks) h) refl

declared_item_again : (n : ℕ) (s : SpecTrees) (b : BegunTree) (bs : List (ℕ × BegunTree)) (c : ℕ) → length (spelled_equals b.init) ≤ n → length (spelled_more_begun bs) ≤ n → IsEquals b.init → AreMoreBegun bs → (rest : Symbols) → declared_item_by n s b.declarator (spelled_equals b.init ++ (spelled_more_begun bs ++ punct marks.Semicolon c ∷ rest)) ≡ Some (Declaration (variables s (b, bs) c), rest)
unfolding variables_by
declared_item_again n s b bs c le les is are rest =
    let behind = spelled_more_begun bs ++ punct marks.Semicolon c ∷ rest in
    let first = variables_front n s b.declarator (spelled_equals b.init ++ behind) (equals_front b.init bs c rest) in
    let begun = begun_behind_again n b.declarator b.init le is behind (more_front bs c rest) in
    let declared = declared_again n s b bs c les are rest in
    first ∙ rw (begun, declared) refl

item_behind_again : (n : ℕ) (s : SpecTrees) (d : Option DeclaredTrees) (c : ℕ) → length (spelled_declared d) ≤ n → AreDeclared d → (rest : Symbols) → item_behind n s (spelled_declared d ++ punct marks.Semicolon c ∷ rest) ≡ Some (Declaration (record { specs = s; declared = d; semicolon = c }), rest)
unfolding item_behind punct_at
item_behind_again n s None c le are rest = refl
item_behind_again n s (Some d) c le are rest =
    let end = punct marks.Semicolon c ∷ rest in
    let behind = spelled_equals d.0.init ++ (spelled_more_begun d.1 ++ end) in
    let sizes = length-append (spelled_begun d.0) (spelled_more_begun d.1) in
    let sizes_first = length-append (spelled_declarator d.0.declarator) (spelled_equals d.0.init) in
    let regrouped : spelled_declared (Some d) ++ end ≡ spelled_declarator d.0.declarator ++ behind = simp append_assoc in
    let declarator = declarator_again n d.0.declarator (omega arith) are.0.0 behind (equals_stop d.0.init (spelled_more_begun d.1 ++ end) (more_front d.1 c rest)) in
    ap (item_behind n s) regrouped ∙ rw (no_semicolon d.0.declarator are.0.0 behind, declarator) (declared_item_again n s d.0 d.1 c (omega arith) (omega arith) are.0.1 are.1 rest)

outside_again : (n : ℕ) (d : DeclarationTree) → length (spelled_declaration d) ≤ n → IsDeclaration d → (rest : Symbols) → item_by n (spelled_declaration d ++ rest) ≡ Some (Declaration d, rest)
unfolding item_by
outside_again n d le is rest =
    let end = punct marks.Semicolon d.semicolon ∷ rest in
    let more = spelled_declared d.declared ++ end in
    let sizes = length-append (spelled_specs d.specs) (spelled_declared d.declared ++ punct marks.Semicolon d.semicolon ∷ []) in
    let sizes_behind = length-append (spelled_declared d.declared) (punct marks.Semicolon d.semicolon ∷ []) in
    let regrouped : spelled_declaration d ++ rest ≡ spelled_specs d.specs ++ more = simp append_assoc in
    let specs = specs_again n d.specs (omega arith) is.0 more (declared_stop d.declared d.semicolon is.1 rest) in
    ap (item_by n) regrouped ∙ rw specs (item_behind_again n d.specs d.declared d.semicolon (omega arith) is.1 rest)

-- ---- units

pub item_again : (n : ℕ) (i : ItemTree) → length (spelled_item i) ≤ n → IsItem i → (rest : Symbols) → item_by n (spelled_item i ++ rest) ≡ Some (i, rest)
item_again n (Function s d b) le is rest = function_again n s d b le is rest
item_again n (Declaration d) le is rest = outside_again n d le is rest

next_item_end : (n : ℕ) → next_item_by n [] ≡ Some None
unfolding next_item_by
next_item_end n = refl

next_item_reads : (n : ℕ) (i : ItemTree) (more : Symbols) → IsItem i → item_by n (spelled_item i ++ more) ≡ Some (i, more) → next_item_by n (spelled_item i ++ more) ≡ Some (Some (i, more))
unfolding next_item_by
next_item_reads n i more is h = rw (has_front is_spec (spelled_item i ++ more) (item_starts i is more), h) refl

items_collect : (n : ℕ) (u : List ItemTree) → length (spelled_unit u) ≤ n → IsUnit u → (m : ℕ) → length (spelled_unit u) ≤ m → collect (next_item_by n) m (spelled_unit u) ≡ Some (u, [])
items_collect n [] le is m turns = collect_ends (next_item_by n) m [] (next_item_end n)
items_collect n (i ∷ u) le is zero turns = absurd (omega (arith, item_has_token i, length-append (spelled_item i) (spelled_unit u)))
items_collect n (i ∷ u) le is (suc m) turns =
    let more = spelled_unit u in
    let sizes = length-append (spelled_item i) more in
    let first = item_again n i (omega arith) is.0 more in
    let step = next_item_reads n i more is.0 first in
    let others = items_collect n u (omega arith) is.1 m (omega (arith, item_has_token i)) in
    collect_more (next_item_by n) m (spelled_item i ++ more) more [] i u step others

pub unit_again : (u : List ItemTree) → IsUnit u → unit_by (spelled_unit u) ≡ Some u
unfolding unit_by
unit_again u is =
    let all = spelled_unit u in
    let read = items_collect (length all) u (omega arith) is (length all) (omega arith) in
    rw read refl
