-- The tokens that initializers, declarations and statements begin with, and tests that none of those passes.
use Rattle.std.proofs.Common.{◌≡◌, ℕ, ◌<◌, Bool, true, false, if◌then◌else◌, [], ◌∷◌, ◌++◌, length, Option, Some, None, refl, ap, ◌∙◌, append_assoc, length-append, arith}
use Rattle.c_token.specs.declared.token.TokKind.{TokKind}
use Rattle.c_token.specs.declared.token.TokKind.TheVariants as kinds
use Rattle.c_token.specs.declared.token.Keyword.{Keyword}
use Rattle.c_token.specs.declared.token.Keyword.TheVariants as words
use Rattle.c_token.specs.declared.token.Punct.{Punct}
use Rattle.c_token.specs.declared.token.Punct.TheVariants as marks
use Rattle.c_nodes.specs.Words.{Symbols, punct}
use Rattle.c_nodes.specs.Kinds.{is_punct, is_key, is_text, is_spec}
use Rattle.c_nodes.specs.Trees.{Tree, spelled, spelled_specs, spelled_declarator, IsTree}
use Rattle.c_nodes.specs.Programs.{InitTree, Value, Quoted, Listed, DeclarationTree, StatementTree, Braced, Plain, Chain, While, Do, For, Switch, Break, Continue, Return, Block, Arm, ItemTree, Function, Declaration, spelled_any, spelled_init, spelled_declared, spelled_declaration, spelled_statement, spelled_block, spelled_item, IsAny, IsInit, IsDeclaration, IsStatement, IsItem, is_chain}
use Rattle.parse_expr.specs.Reader.{front_is}
use Rattle.parse_expr.proofs.Knots.{begins_expr}
use Rattle.parse_expr.proofs.Plain.{punct_kind, key_kind}
use Rattle.parse_expr.proofs.Collects.{front_not}
use Rattle.parse_expr.proofs.AgainOperands.{expr_starts}
use Rattle.parse_expr.proofs.Starts.{specs_start, specs_have_token}

-- ---- a token that passes one test is not another token

pub apart_mark : (begins : TokKind → Bool) (p : Punct) → begins (kinds.Punct p) ≡ false → (k : TokKind) → begins k ≡ true → is_punct p k ≡ false
apart_mark begins p never k h =
    elim (is_punct p k) as (λ b. is_punct p k ≡ b → b ≡ false) [
      | true ↦ λ e. absurd (let same = punct_kind p k e in cc)
      | false ↦ λ e. refl
    ] refl

pub apart_word : (begins : TokKind → Bool) (w : Keyword) → begins (kinds.Keyword w) ≡ false → (k : TokKind) → begins k ≡ true → is_key w k ≡ false
apart_word begins w never k h =
    elim (is_key w k) as (λ b. is_key w k ≡ b → b ≡ false) [
      | true ↦ λ e. absurd (let same = key_kind w k e in cc)
      | false ↦ λ e. refl
    ] refl

pub no_mark : (begins : TokKind → Bool) (p : Punct) → begins (kinds.Punct p) ≡ false → (toks : Symbols) → front_is begins toks ≡ true → front_is (is_punct p) toks ≡ false
no_mark begins p never toks h = front_not begins (is_punct p) (apart_mark begins p never) toks h

pub no_word : (begins : TokKind → Bool) (w : Keyword) → begins (kinds.Keyword w) ≡ false → (toks : Symbols) → front_is begins toks ≡ true → front_is (is_key w) toks ≡ false
no_word begins w never toks h = front_not begins (is_key w) (apart_word begins w never) toks h

-- what passes a narrow test passes a wider one
pub front_wide : (narrow wide : TokKind → Bool) → ((k : TokKind) → narrow k ≡ true → wide k ≡ true) → (toks : Symbols) → front_is narrow toks ≡ true → front_is wide toks ≡ true
front_wide narrow wide within [] h = absurd cc
front_wide narrow wide within (s ∷ rest) h = within s.kind h

pub has_front : (test : TokKind → Bool) (toks : Symbols) → front_is test toks ≡ true → front_is (λ k. true) toks ≡ true
has_front test toks h = front_wide test (λ k. true) (λ k e. refl) toks h

-- ---- expressions

pub no_text : (k : TokKind) → begins_expr k ≡ true → is_text k ≡ false
no_text kinds.Text h = absurd cc
no_text _ h = refl

-- ---- initializers

-- an expression, a string or `{`
abbrev pub begins_init : TokKind → Bool
begins_init k = if begins_expr k then true else if is_text k then true else is_punct marks.LeftBrace k

expr_init : (k : TokKind) → begins_expr k ≡ true → begins_init k ≡ true
expr_init k h = rw h refl

text_init : (k : TokKind) → is_text k ≡ true → begins_init k ≡ true
text_init kinds.Text h = refl
text_init _ h = absurd cc

pub init_starts : (i : InitTree) → IsInit i → (rest : Symbols) → front_is begins_init (spelled_init i ++ rest) ≡ true
init_starts (Value e) is rest = front_wide begins_expr begins_init expr_init (spelled e ++ rest) (expr_starts e is.0 rest)
init_starts (Quoted s) is rest = text_init s.kind is
init_starts (Listed o i is_ last c) is rest = refl

-- ---- declarations

pub declaration_starts : (d : DeclarationTree) → IsDeclaration d → (rest : Symbols) → front_is is_spec (spelled_declaration d ++ rest) ≡ true
declaration_starts d is rest =
    let behind = spelled_declared d.declared ++ punct marks.Semicolon d.semicolon ∷ [] in
    ap (front_is is_spec) (append_assoc (spelled_specs d.specs) behind rest) ∙ specs_start d.specs is.0 (behind ++ rest)

pub declaration_has_token : (d : DeclarationTree) → 0 < length (spelled_declaration d)
declaration_has_token d = omega (arith, specs_have_token d.specs, length-append (spelled_specs d.specs) (spelled_declared d.declared ++ punct marks.Semicolon d.semicolon ∷ []))

-- ---- statements

-- a statement that is no expression and no block
abbrev pub begins_control : TokKind → Bool
begins_control (kinds.Keyword words.If) = true
begins_control (kinds.Keyword words.While) = true
begins_control (kinds.Keyword words.Do) = true
begins_control (kinds.Keyword words.For) = true
begins_control (kinds.Keyword words.Switch) = true
begins_control (kinds.Keyword words.Break) = true
begins_control (kinds.Keyword words.Continue) = true
begins_control (kinds.Keyword words.Return) = true
begins_control (kinds.Punct marks.LeftBrace) = true
begins_control (kinds.Punct marks.Semicolon) = true
begins_control _ = false

abbrev pub begins_statement : TokKind → Bool
begins_statement k = if begins_expr k then true else begins_control k

expr_statement : (k : TokKind) → begins_expr k ≡ true → begins_statement k ≡ true
expr_statement k h = rw h refl

pub any_starts : (e : Tree) → IsTree e → (rest : Symbols) → front_is begins_statement (spelled e ++ rest) ≡ true
any_starts e is rest = front_wide begins_expr begins_statement expr_statement (spelled e ++ rest) (expr_starts e is rest)

plain_starts : (e : Option Tree) (c : ℕ) → IsAny e → (rest : Symbols) → front_is begins_statement ((spelled_any e ++ punct marks.Semicolon c ∷ []) ++ rest) ≡ true
plain_starts None c is rest = refl
plain_starts (Some e) c is rest = ap (front_is begins_statement) (append_assoc (spelled e) (punct marks.Semicolon c ∷ []) rest) ∙ any_starts e is (punct marks.Semicolon c ∷ rest)

pub statement_starts : (s : StatementTree) → IsStatement s → (rest : Symbols) → front_is begins_statement (spelled_statement s ++ rest) ≡ true
statement_starts (Braced (Block o ds ss c)) is rest = refl
statement_starts (Plain e c) is rest = plain_starts e c is rest
statement_starts (Chain (Arm k e s) as_) is rest = refl
statement_starts (While k e s) is rest = refl
statement_starts (Do k s w e c) is rest = refl
statement_starts (For k h s) is rest = refl
statement_starts (Switch k e o is_ c) is rest = refl
statement_starts (Break k c) is rest = refl
statement_starts (Continue k c) is rest = refl
statement_starts (Return k e c) is rest = refl

pub statement_has_token : (s : StatementTree) → 0 < length (spelled_statement s)
statement_has_token (Braced (Block o ds ss c)) = omega arith
statement_has_token (Plain e c) = omega (arith, length-append (spelled_any e) (punct marks.Semicolon c ∷ []))
statement_has_token (Chain (Arm k e s) as_) = omega arith
statement_has_token (While k e s) = omega arith
statement_has_token (Do k s w e c) = omega arith
statement_has_token (For k h s) = omega arith
statement_has_token (Switch k e o is_ c) = omega arith
statement_has_token (Break k c) = omega arith
statement_has_token (Continue k c) = omega arith
statement_has_token (Return k e c) = omega arith

-- no statement begins with a specifier
pub statement_no_spec : (k : TokKind) → begins_statement k ≡ true → is_spec k ≡ false
statement_no_spec (kinds.Keyword words.Sizeof) h = refl
statement_no_spec (kinds.Keyword words.If) h = refl
statement_no_spec (kinds.Keyword words.While) h = refl
statement_no_spec (kinds.Keyword words.Do) h = refl
statement_no_spec (kinds.Keyword words.For) h = refl
statement_no_spec (kinds.Keyword words.Switch) h = refl
statement_no_spec (kinds.Keyword words.Break) h = refl
statement_no_spec (kinds.Keyword words.Continue) h = refl
statement_no_spec (kinds.Keyword words.Return) h = refl
statement_no_spec (kinds.Keyword _) h = absurd cc
statement_no_spec kinds.TypeName h = absurd cc
statement_no_spec _ h = refl

plain_no_if : (e : Option Tree) (c : ℕ) → IsAny e → (rest : Symbols) → front_is (is_key words.If) ((spelled_any e ++ punct marks.Semicolon c ∷ []) ++ rest) ≡ false
plain_no_if None c is rest = refl
plain_no_if (Some e) c is rest = ap (front_is (is_key words.If)) (append_assoc (spelled e) (punct marks.Semicolon c ∷ []) rest) ∙ no_word begins_expr words.If refl (spelled e ++ punct marks.Semicolon c ∷ rest) (expr_starts e is (punct marks.Semicolon c ∷ rest))

-- a statement that is no `if` doesn't begin with one
pub statement_no_if : (s : StatementTree) → IsStatement s → is_chain s ≡ false → (rest : Symbols) → front_is (is_key words.If) (spelled_statement s ++ rest) ≡ false
statement_no_if (Braced (Block o ds ss c)) is none rest = refl
statement_no_if (Plain e c) is none rest = plain_no_if e c is rest
statement_no_if (Chain a as_) is none rest = absurd cc
statement_no_if (While k e s) is none rest = refl
statement_no_if (Do k s w e c) is none rest = refl
statement_no_if (For k h s) is none rest = refl
statement_no_if (Switch k e o is_ c) is none rest = refl
statement_no_if (Break k c) is none rest = refl
statement_no_if (Continue k c) is none rest = refl
statement_no_if (Return k e c) is none rest = refl

-- ---- units

pub item_starts : (i : ItemTree) → IsItem i → (rest : Symbols) → front_is is_spec (spelled_item i ++ rest) ≡ true
item_starts (Function s d b) is rest =
    let behind = spelled_declarator d ++ spelled_block b in
    ap (front_is is_spec) (append_assoc (spelled_specs s) behind rest) ∙ specs_start s is.0 (behind ++ rest)
item_starts (Declaration d) is rest = declaration_starts d is rest

pub item_has_token : (i : ItemTree) → 0 < length (spelled_item i)
item_has_token (Function s d b) = omega (arith, specs_have_token s, length-append (spelled_specs s) (spelled_declarator d ++ spelled_block b))
item_has_token (Declaration d) = declaration_has_token d
