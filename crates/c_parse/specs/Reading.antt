-- Reading initializers, declarations, statements and units from left to right. The number n says how
-- many brackets may still be entered in an expression.
use Rattle.std.specs.Prelude.{◌≡◌, ℕ, zero, suc, Bool, true, false, ◌&&◌, if◌then◌else◌, List, [], ◌∷◌, length, Option, Some, None}
use Rattle.c_token.specs.declared.token.Keyword.TheVariants as words
use Rattle.c_token.specs.declared.token.Punct.{Punct}
use Rattle.c_token.specs.declared.token.Punct.TheVariants as marks
use Rattle.c_nodes.specs.Words.{Symbol, Symbols}
use Rattle.c_nodes.specs.Kinds.{is_punct, is_key, is_text}
use Rattle.c_nodes.specs.Trees.{Tree, SpecTrees, DeclaratorTree}
use Rattle.c_nodes.specs.Programs.{ConditionTree, HeadTree, LabelTree, Case, Default, InitTree, Value, Quoted, Listed, BegunTree, DeclaredTrees, DeclarationTree, StatementTree, Braced, Plain, Chain, While, Do, For, Switch, Break, Continue, Return, BlockTree, Block, ArmTree, Arm, is_function, ItemTree, Function, Declaration}
use Rattle.c_nodes.specs.ProgramViews.{more_inits, statements_of, arms_of, InnerTree, LabelInner, StatementInner, items_of}
use Rattle.parse_expr.specs.Reader.{◌>>=◌, Reader, Step, front_is, punct_at, key_at, specs_come, comma_at, got, all_that}
use Rattle.parse_expr.specs.Reading.{at, expr_by, cond_by, assign_by, specs_by, declarator_by}

-- ---- initializers

-- a comma that an item follows, and not the end of the list
unfoldable pub next_init_by : Reader InitTree → Step (ℕ × InitTree)
next_init_by inner [] = Some None
next_init_by inner (s ∷ rest) =
    if is_punct marks.Comma s.kind then (if front_is (is_punct marks.RightBrace) rest then Some None else got (inner rest >>= λ i. Some ((s.line, i.0), i.1)))
    else Some None

-- behind the brace
unfoldable pub list_by : Reader InitTree → ℕ → Reader InitTree
list_by inner o toks = do
  i ← inner toks
  is ← all_that (next_init_by inner) i.1
  c ← punct_at marks.RightBrace (comma_at is.1).1
  Some (Listed o i.0 (more_inits is.0) (comma_at is.1).0 c.0, c.1)

unfoldable pub value_by : ℕ → Reader InitTree
value_by n toks = do
  e ← assign_by (at n) toks
  Some (Value e.0, e.1)

unfoldable pub init_by : ℕ → Reader InitTree → Reader InitTree
init_by n inner [] = None
init_by n inner (s ∷ rest) =
    if is_punct marks.LeftBrace s.kind then list_by inner s.line rest
    else if is_text s.kind then Some (Quoted s, rest)
    else value_by n (s ∷ rest)

-- an initializer in braces, and one around it
unfoldable pub init_inside : ℕ → Reader InitTree
init_inside zero toks = None
init_inside (suc n) toks = init_by n (init_inside n) toks

abbrev pub init_at : ℕ → Reader InitTree
init_at n toks = init_by n (init_inside n) toks

-- ---- declarations

-- behind a declarator
abbrev pub begun_on : ℕ → DeclaratorTree → Symbols → Option (ℕ × Symbols) → Option (BegunTree × Symbols)
begun_on n d toks None = Some (record { declarator = d; init = None }, toks)
begun_on n d toks (Some e) = do
  i ← init_at n e.1
  Some (record { declarator = d; init = Some (e.0, i.0) }, i.1)

unfoldable pub begun_behind : ℕ → DeclaratorTree → Reader BegunTree
begun_behind n d toks = begun_on n d toks (punct_at marks.Assign toks)

unfoldable pub begun_by : ℕ → Reader BegunTree
begun_by n toks = do
  d ← declarator_by (at n) toks
  begun_behind n d.0 d.1

unfoldable pub next_begun_by : ℕ → Step (ℕ × BegunTree)
next_begun_by n [] = Some None
next_begun_by n (s ∷ rest) =
    if is_punct marks.Comma s.kind then got (begun_by n rest >>= λ b. Some ((s.line, b.0), b.1))
    else Some None

-- behind the first declarator
unfoldable pub declared_behind : ℕ → SpecTrees → BegunTree → Reader DeclarationTree
declared_behind n specs b toks = do
  bs ← all_that (next_begun_by n) toks
  c ← punct_at marks.Semicolon bs.1
  Some (record { specs = specs; declared = Some (b, bs.0); semicolon = c.0 }, c.1)

-- behind the specifiers
abbrev pub declaration_on : ℕ → SpecTrees → Symbols → Option (ℕ × Symbols) → Option (DeclarationTree × Symbols)
declaration_on n specs toks (Some c) = Some (record { specs = specs; declared = None; semicolon = c.0 }, c.1)
declaration_on n specs toks None = do
  b ← begun_by n toks
  declared_behind n specs b.0 b.1

unfoldable pub declaration_behind : ℕ → SpecTrees → Reader DeclarationTree
declaration_behind n specs toks = declaration_on n specs toks (punct_at marks.Semicolon toks)

unfoldable pub declaration_by : ℕ → Reader DeclarationTree
declaration_by n toks = do
  s ← specs_by (at n) toks
  declaration_behind n s.0 s.1

unfoldable pub next_declaration_by : ℕ → Step DeclarationTree
next_declaration_by n toks = if specs_come toks then got (declaration_by n toks) else Some None

-- ---- parts of statements

unfoldable pub condition_by : ℕ → Reader ConditionTree
condition_by n toks = do
  o ← punct_at marks.LeftParenthesis toks
  e ← expr_by (at n) o.1
  c ← punct_at marks.RightParenthesis e.1
  Some (record { opening = o.0; expr = e.0; closing = c.0 }, c.1)

-- an expression that may be left out, and the punctuator behind it
abbrev pub any_on : ℕ → Punct → Symbols → Option (ℕ × Symbols) → Option ((Option Tree × ℕ) × Symbols)
any_on n p toks (Some c) = Some ((None, c.0), c.1)
any_on n p toks None = do
  e ← expr_by (at n) toks
  c ← punct_at p e.1
  Some ((Some e.0, c.0), c.1)

unfoldable pub any_before : ℕ → Punct → Reader (Option Tree × ℕ)
any_before n p toks = any_on n p toks (punct_at p toks)

unfoldable pub head_by : ℕ → Reader HeadTree
head_by n toks = do
  o ← punct_at marks.LeftParenthesis toks
  a ← any_before n marks.Semicolon o.1
  b ← any_before n marks.Semicolon a.1
  c ← any_before n marks.RightParenthesis b.1
  Some (record { opening = o.0; begin = a.0.0; first = a.0.1; condition = b.0.0; second = b.0.1; step = c.0.0; closing = c.0.1 }, c.1)

unfoldable pub plain_by : ℕ → Reader StatementTree
plain_by n toks = do
  e ← any_before n marks.Semicolon toks
  Some (Plain e.0.0 e.0.1, e.1)

unfoldable pub break_by : ℕ → Reader StatementTree
break_by k toks = do
  c ← punct_at marks.Semicolon toks
  Some (Break k c.0, c.1)

unfoldable pub continue_by : ℕ → Reader StatementTree
continue_by k toks = do
  c ← punct_at marks.Semicolon toks
  Some (Continue k c.0, c.1)

unfoldable pub return_by : ℕ → ℕ → Reader StatementTree
return_by n k toks = do
  e ← any_before n marks.Semicolon toks
  Some (Return k e.0.0 e.0.1, e.1)

-- ---- statements, by the reader of those that stand in them

unfoldable pub arm_by : ℕ → Reader StatementTree → Reader ArmTree
arm_by n next toks = do
  k ← key_at words.If toks
  e ← condition_by n k.1
  s ← next e.1
  Some (Arm k.0 e.0 s.0, s.1)

-- `else` that an `if` follows
unfoldable pub next_arm_by : ℕ → Reader StatementTree → Step (ℕ × ArmTree)
next_arm_by n next [] = Some None
next_arm_by n next (s ∷ rest) =
    if is_key words.Else s.kind && front_is (is_key words.If) rest then got (arm_by n next rest >>= λ a. Some ((s.line, a.0), a.1))
    else Some None

-- a last `else`
abbrev pub last_on : Reader StatementTree → Symbols → Option (ℕ × Symbols) → Option (Option (ℕ × StatementTree) × Symbols)
last_on next toks None = Some (None, toks)
last_on next toks (Some k) = do
  s ← next k.1
  Some (Some (k.0, s.0), s.1)

unfoldable pub last_by : Reader StatementTree → Reader (Option (ℕ × StatementTree))
last_by next toks = last_on next toks (key_at words.Else toks)

unfoldable pub chain_by : ℕ → Reader StatementTree → Reader StatementTree
chain_by n next toks = do
  a ← arm_by n next toks
  as_ ← all_that (next_arm_by n next) a.1
  o ← last_by next as_.1
  Some (Chain a.0 (arms_of as_.0 o.0), o.1)

unfoldable pub while_by : ℕ → Reader StatementTree → ℕ → Reader StatementTree
while_by n next k toks = do
  e ← condition_by n toks
  s ← next e.1
  Some (While k e.0 s.0, s.1)

unfoldable pub do_by : ℕ → Reader StatementTree → ℕ → Reader StatementTree
do_by n next k toks = do
  s ← next toks
  w ← key_at words.While s.1
  e ← condition_by n w.1
  c ← punct_at marks.Semicolon e.1
  Some (Do k s.0 w.0 e.0 c.0, c.1)

unfoldable pub for_by : ℕ → Reader StatementTree → ℕ → Reader StatementTree
for_by n next k toks = do
  h ← head_by n toks
  s ← next h.1
  Some (For k h.0 s.0, s.1)

unfoldable pub case_by : ℕ → ℕ → Reader LabelTree
case_by n k toks = do
  e ← cond_by (at n) toks
  c ← punct_at marks.Colon e.1
  Some (Case k e.0 c.0, c.1)

unfoldable pub default_by : ℕ → Reader LabelTree
default_by k toks = do
  c ← punct_at marks.Colon toks
  Some (Default k c.0, c.1)

-- what stands in the body of a `switch`, to its closing brace
unfoldable pub inner_by : ℕ → Reader StatementTree → Step InnerTree
inner_by n next [] = Some None
inner_by n next (s ∷ rest) =
    if is_punct marks.RightBrace s.kind then Some None
    else if is_key words.Case s.kind then got (case_by n s.line rest >>= λ l. Some (LabelInner l.0, l.1))
    else if is_key words.Default s.kind then got (default_by s.line rest >>= λ l. Some (LabelInner l.0, l.1))
    else got (next (s ∷ rest) >>= λ t. Some (StatementInner t.0, t.1))

unfoldable pub switch_by : ℕ → Reader StatementTree → ℕ → Reader StatementTree
switch_by n next k toks = do
  e ← condition_by n toks
  o ← punct_at marks.LeftBrace e.1
  is ← all_that (inner_by n next) o.1
  c ← punct_at marks.RightBrace is.1
  Some (Switch k e.0 o.0 (items_of is.0) c.0, c.1)

unfoldable pub next_statement_by : Reader StatementTree → Step StatementTree
next_statement_by next toks = if front_is (is_punct marks.RightBrace) toks then Some None else if front_is (λ k. true) toks then got (next toks) else Some None

unfoldable pub block_by : ℕ → Reader StatementTree → Reader BlockTree
block_by n next toks = do
  o ← punct_at marks.LeftBrace toks
  ds ← all_that (next_declaration_by n) o.1
  ss ← all_that (next_statement_by next) ds.1
  c ← punct_at marks.RightBrace ss.1
  Some (Block o.0 ds.0 (statements_of ss.0) c.0, c.1)

unfoldable pub braced_by : ℕ → Reader StatementTree → Reader StatementTree
braced_by n next toks = do
  b ← block_by n next toks
  Some (Braced b.0, b.1)

unfoldable pub statement_by : ℕ → Reader StatementTree → Reader StatementTree
statement_by n next [] = None
statement_by n next (s ∷ rest) =
    if is_punct marks.LeftBrace s.kind then braced_by n next (s ∷ rest)
    else if is_key words.If s.kind then chain_by n next (s ∷ rest)
    else if is_key words.While s.kind then while_by n next s.line rest
    else if is_key words.Do s.kind then do_by n next s.line rest
    else if is_key words.For s.kind then for_by n next s.line rest
    else if is_key words.Switch s.kind then switch_by n next s.line rest
    else if is_key words.Break s.kind then break_by s.line rest
    else if is_key words.Continue s.kind then continue_by s.line rest
    else if is_key words.Return s.kind then return_by n s.line rest
    else plain_by n (s ∷ rest)

-- a statement in which at most room - 1 others stand in one another
unfoldable pub statement_at : ℕ → ℕ → Reader StatementTree
statement_at n zero toks = None
statement_at n (suc room) toks = statement_by n (statement_at n room) toks

-- ---- units

-- behind the specifiers and the first declarator
unfoldable pub function_by : ℕ → SpecTrees → DeclaratorTree → Reader ItemTree
function_by n specs d toks = do
  b ← block_by n (statement_at n 256) toks
  Some (Function specs d b.0, b.1)

unfoldable pub variables_by : ℕ → SpecTrees → DeclaratorTree → Reader ItemTree
variables_by n specs d toks = do
  b ← begun_behind n d toks
  t ← declared_behind n specs b.0 b.1
  Some (Declaration t.0, t.1)

unfoldable pub declared_item_by : ℕ → SpecTrees → DeclaratorTree → Reader ItemTree
declared_item_by n specs d toks = if is_function d && front_is (is_punct marks.LeftBrace) toks then function_by n specs d toks else variables_by n specs d toks

-- behind the specifiers
abbrev pub item_on : ℕ → SpecTrees → Symbols → Option (ℕ × Symbols) → Option (ItemTree × Symbols)
item_on n specs toks (Some c) = Some (Declaration record { specs = specs; declared = None; semicolon = c.0 }, c.1)
item_on n specs toks None = do
  d ← declarator_by (at n) toks
  declared_item_by n specs d.0 d.1

unfoldable pub item_behind : ℕ → SpecTrees → Reader ItemTree
item_behind n specs toks = item_on n specs toks (punct_at marks.Semicolon toks)

unfoldable pub item_by : ℕ → Reader ItemTree
item_by n toks = do
  s ← specs_by (at n) toks
  item_behind n s.0 s.1

unfoldable pub next_item_by : ℕ → Step ItemTree
next_item_by n toks = if front_is (λ k. true) toks then got (item_by n toks) else Some None

-- all of the tokens
abbrev pub whole : List ItemTree × Symbols → Option (List ItemTree)
whole (is, []) = Some is
whole (is, s ∷ rest) = None

unfoldable pub unit_by : Symbols → Option (List ItemTree)
unit_by toks = all_that (next_item_by (length toks)) toks >>= whole
