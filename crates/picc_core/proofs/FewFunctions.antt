-- A text has few functions: a token at least is spelled for each, and a text has at most 262,144 tokens.
use Rattle.std.proofs.Common.{◌≡◌, ℕ, suc, ◌≤◌, Bool, true, false, List, [], ◌∷◌, ◌++◌, length, Option, Some, None, Result, Ok, Err, refl, sym, ap, ◌∙◌, arith}
use Rattle.std.specs.Prelude.{nat_lt, if◌then◌else◌}
use Rattle.std.proofs.lemmas.List.{length-append, length-map}
use Rattle.c_token.specs.Text.{tokens_of}
use Rattle.c_token.specs.declared.token.LexError.{LexError}
use Rattle.c_token.specs.declared.token.Tok.{Tok}
use Rattle.c_pre.specs.Items.{program_of}
use Rattle.c_pre.specs.declared.PreError.{PreError}
use Rattle.c_pre.proofs.Few.{program_few}
use Rattle.c_nodes.specs.Programs.{ItemTree, Function, Declaration, BlockTree, Block, spelled_block, spelled_item, spelled_unit}
use Rattle.c_nodes.specs.Trees.{SpecTrees, DeclaratorTree, spelled_specs, spelled_declarator}
use Rattle.c_typed.specs.Trees.{FunctionTree, Program}
use Rattle.parse_expr.specs.Reader.{symbol_in}
use Rattle.parse_expr.specs.declared.error.ParseError.{ParseError}
use Rattle.c_parse.specs.Limits.{first_over}
use Rattle.c_parse.specs.Marks.{nothing_marked, marked}
use Rattle.c_parse.proofs.Names.{as_many}
use Rattle.type_rules.specs.Declarations.{file_declaration}
use Rattle.type_rules.specs.Faults.{Fault}
use Rattle.type_rules.specs.Known.{Known, known_first, given, go_on, ◌>>=◌}
use Rattle.type_rules.specs.Units.{defined_in, function, functions_of, program_from, program_in, judged_unit}
use Rattle.picc_core.specs.Texts as texts
use Rattle.picc_core.specs.Texts.{longest, behind_directives, behind_tokens, tokens_left, within_limits, program_tokens}
use Rattle.picc_core.specs.Typed.{IsTreeOf, IsTypedAs}
use Rattle.picc_core.specs.declared.refusal.CompileError.{CompileError}
use Rattle.picc_core.specs.declared.refusal.CompileError.TheVariants.{Refused}
use Rattle.picc_core.specs.declared.refusal.LimitKind.TheVariants.{Text}
use Rattle.picc_core.specs.declared.refusal.Refusal.TheVariants.{Limit}

-- ---- tokens
ok_is : {A E : Type 0} (r : Result A E) (x y : A) → r ≡ Ok x → r ≡ Ok y → x ≡ y
ok_is r x y here there = let both = sym here ∙ there in cc

directives_few : (text : List ℕ) (r : Result (List Tok) PreError) (toks : List Tok) → ((ts : List Tok) → r ≡ Ok ts → length ts ≤ 262144) → behind_directives text r ≡ Ok toks → length toks ≤ 262144
directives_few text (Ok ts) toks few is =
    let low = few ts refl in
    let marks = as_many text nothing_marked ts in
    let same = ap length (ok_is (behind_directives text (Ok ts)) (marked text ts) toks refl is) in
    omega (arith, low, marks, same)
directives_few text (Err e) toks few is = absurd (cc)

scanned_few : (text : List ℕ) (scanned : Result (List Tok) LexError) (toks : List Tok) → behind_tokens text scanned ≡ Ok toks → length toks ≤ 262144
scanned_few text (Ok raw) toks is = directives_few text (program_of text raw) toks (λ ts left. program_few text raw ts left) is
scanned_few text (Err e) toks is = absurd (cc)

left_few : (text : List ℕ) (toks : List Tok) → tokens_left text ≡ Ok toks → length toks ≤ 262144
unfolding tokens_left
left_few text toks is = by (nat_lt longest (length text)) is
  where
    by : (long : Bool) → (if long then Err (Refused (Limit Text 0)) else behind_tokens text (tokens_of text)) ≡ Ok toks → length toks ≤ 262144
    by true all = absurd (cc)
    by false all = scanned_few text (tokens_of text) toks all

limits_ok : (ts : List Tok) (over : Option ParseError) (toks : List Tok) → texts.limited ts over ≡ Ok toks → ts ≡ toks
limits_ok ts None toks is = ok_is (texts.limited ts None) ts toks refl is
limits_ok ts (Some e) toks is = absurd (cc)

within_few : (r : Result (List Tok) CompileError) (toks : List Tok) → ((ts : List Tok) → r ≡ Ok ts → length ts ≤ 262144) → within_limits r ≡ Ok toks → length toks ≤ 262144
within_few (Ok ts) toks few is = let low = few ts refl in let same = ap length (limits_ok ts (first_over 0 0 ts) toks is) in omega (arith, low, same)
within_few (Err e) toks few is = absurd (cc)

tokens_few : (text : List ℕ) (toks : List Tok) → program_tokens text ≡ Ok toks → length toks ≤ 262144
tokens_few text toks is = within_few (tokens_left text) toks (λ ts left. left_few text ts left) is

-- ---- functions
-- the block of a function begins with a brace
block_spelled : (b : BlockTree) → 1 ≤ length (spelled_block b)
block_spelled (Block o ds ss c) = omega arith

function_spelled : (s : SpecTrees) (d : DeclaratorTree) (b : BlockTree) (unit : List ItemTree) → suc (length (spelled_unit unit)) ≤ length (spelled_unit (Function s d b ∷ unit))
function_spelled s d b unit =
    let first = length-append (spelled_specs s) (spelled_declarator d ++ spelled_block b) in
    let second = length-append (spelled_declarator d) (spelled_block b) in
    let all = length-append (spelled_item (Function s d b)) (spelled_unit unit) in
    let low = block_spelled b in
    omega (arith, first, second, all, low)

functions_spelled : (unit : List ItemTree) (known after : Known) (fs : List FunctionTree) → functions_of unit known ≡ Ok (fs, after) → length fs ≤ length (spelled_unit unit)
functions_spelled [] known after fs is = let same = ap (λ (x : List FunctionTree × Known). length x.0) (ok_is (functions_of [] known) ([], known) (fs, after) refl is) in omega (arith, same)
functions_spelled (Function s d b ∷ unit) known after fs is = first (function s d b known) (λ between later others all. functions_spelled unit between later others all) is
  where
    behind : (f : FunctionTree) (between : Known) (r : Result (List FunctionTree × Known) Fault) → ((later : Known) (others : List FunctionTree) → r ≡ Ok (others, later) → length others ≤ length (spelled_unit unit))
        → go_on (λ others. given (f ∷ others)) r ≡ Ok (fs, after) → length fs ≤ length (spelled_unit (Function s d b ∷ unit))
    behind f between (Ok x) few all =
        let low = few x.1 x.0 refl in
        let same = ap (λ (y : List FunctionTree × Known). length y.0) (ok_is (go_on (λ others. given (f ∷ others)) (Ok x)) (f ∷ x.0, x.1) (fs, after) refl all) in
        let one = function_spelled s d b unit in
        omega (arith, low, same, one)
    behind f between (Err e) few all = absurd (cc)

    first : (r : Result (FunctionTree × Known) Fault)
        → ((between later : Known) (others : List FunctionTree) → functions_of unit between ≡ Ok (others, later) → length others ≤ length (spelled_unit unit))
        → go_on (λ f. functions_of unit >>= λ others. given (f ∷ others)) r ≡ Ok (fs, after) → length fs ≤ length (spelled_unit (Function s d b ∷ unit))
    first (Ok x) few all = behind x.0 x.1 (functions_of unit x.1) (few x.1) all
    first (Err e) few all = absurd (cc)
functions_spelled (Declaration d ∷ unit) known after fs is = first (file_declaration d known) (λ between all. functions_spelled unit between after fs all) is
  where
    first : (r : Result (Known × Known) Fault) → ((between : Known) → functions_of unit between ≡ Ok (fs, after) → length fs ≤ length (spelled_unit unit)) → go_on (λ _. functions_of unit) r ≡ Ok (fs, after)
        → length fs ≤ length (spelled_unit (Declaration d ∷ unit))
    first (Ok x) few all = let low = few x.1 all in let one = length-append (spelled_item (Declaration d)) (spelled_unit unit) in omega (arith, low, one)
    first (Err e) few all = absurd (cc)

program_spelled : (unit : List ItemTree) (r : Result (List FunctionTree × Known) Fault) (p : Program) → ((fs : List FunctionTree) (after : Known) → r ≡ Ok (fs, after) → length fs ≤ length (spelled_unit unit))
    → program_in r ≡ Ok p → length p.functions ≤ length (spelled_unit unit)
program_spelled unit (Ok x) p few is = let low = few x.0 x.1 refl in let same = ap (λ (q : Program). length q.functions) (ok_is (program_in (Ok x)) (program_from x.1 x.0) p refl is) in omega (arith, low, same)
program_spelled unit (Err e) p few is = absurd (cc)

unit_spelled : (unit : List ItemTree) (p : Program) → judged_unit unit ≡ Ok p → length p.functions ≤ length (spelled_unit unit)
unfolding judged_unit
unit_spelled unit p is =
    program_spelled unit (functions_of unit (known_first (defined_in unit []))) p (λ fs after all. functions_spelled unit (known_first (defined_in unit [])) after fs all) is

-- so a text's tree is spelled with few
pub tree_few : (text : List ℕ) (tree : List ItemTree) → IsTreeOf text tree → length (spelled_unit tree) ≤ 262144
tree_few text tree of_text =
    let same = ap length of_text.spelled in
    let size = length-map of_text.toks (symbol_in text) in
    let low = tokens_few text of_text.toks of_text.tokens in
    omega (arith, same, size, low)

pub few_functions : (text : List ℕ) (p : Program) → IsTypedAs text p → length p.functions ≤ 0x10000000
few_functions text p typed =
    let spelled = unit_spelled typed.tree p typed.judged in
    let low = tree_few text typed.tree typed.of_text in
    omega (arith, spelled, low)
