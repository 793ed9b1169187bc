-- Reading expressions, declarators and type names from left to right.
use Rattle.std.specs.Prelude.{ℕ, zero, suc, ◌&&◌, ◌==◌, if◌then◌else◌, List, [], ◌∷◌, length, Option, Some, None}
use Rattle.c_token.specs.declared.token.Keyword.TheVariants as words
use Rattle.c_token.specs.declared.token.Punct.TheVariants as marks
use Rattle.c_nodes.specs.Words.{Symbol, Symbols}
use Rattle.c_nodes.specs.Kinds.{is_punct, is_key, is_name, is_leaf, level_of, is_assignment, is_prefix, is_step, is_field, is_spec_word, is_type_name}
use Rattle.c_nodes.specs.Trees.{Tree, Leaf, Group, Measure, Choose, Assign, Post, Index, CallBare, Call, Field, Step, Pre, Sign, Sizeof, Cast, TypeTree, TypeOf, SpecTrees, Specified, SpecTree, OneWord, Tagged, Body, NamedType, EnumTagged, EnumBody, EnumeratorTree, Bare, Valued, MemberTree, Members, DeclaratorTree, Declares, SuffixTree, Unsized, Sized, Empty, VoidOnly, Params, ParamTree, Named, Unnamed, is_unary, is_bare_void}
use Rattle.c_nodes.specs.Lists.{posted, prefixed, joined, listed, more_specs, more_members, more_declarators, suffixes_of, more_params, more_enumerators}
use Rattle.parse_expr.specs.Reader.{◌>>=◌, Reader, front_is, symbol_at, punct_at, key_at, specs_come, comma_at, type_opens, got, all_that, pointers_at}
use Rattle.parse_expr.specs.Reader as reader

-- What may stand in brackets, and between `?` and `:`. Each is read with one bracket less to go.
pub record Inner : Type 0 where
  pub expr : Reader Tree
  pub size : Reader Tree
  pub type_name : Reader TypeTree
  pub members : Reader (MemberTree × List MemberTree)
  pub params : Reader (ParamTree × List (ℕ × ParamTree))
  pub enumerators : Reader (EnumeratorTree × List (ℕ × EnumeratorTree))

-- ---- operands

unfoldable pub group_by : Inner → Reader Tree
group_by inner toks = do
  o ← punct_at marks.LeftParenthesis toks
  e ← inner.expr o.1
  c ← punct_at marks.RightParenthesis e.1
  Some (Group o.0 e.0 c.0, c.1)

unfoldable pub primary_by : Inner → Reader Tree
primary_by inner [] = None
primary_by inner (s ∷ rest) = if is_leaf s.kind then Some (Leaf s, rest) else group_by inner (s ∷ rest)

unfoldable pub index_by : Inner → ℕ → Reader Post
index_by inner o toks = do
  e ← inner.expr toks
  c ← punct_at marks.RightBracket e.1
  Some (Index o e.0 c.0, c.1)

-- behind the bracket of a call
abbrev pub call_on : Inner → ℕ → Symbols → Option (ℕ × Symbols) → Option (Post × Symbols)
call_on inner o toks (Some c) = Some (CallBare o c.0, c.1)
call_on inner o toks None = do
  e ← inner.expr toks
  c ← punct_at marks.RightParenthesis e.1
  Some (Call o e.0 c.0, c.1)

unfoldable pub call_by : Inner → ℕ → Reader Post
call_by inner o toks = call_on inner o toks (punct_at marks.RightParenthesis toks)

unfoldable pub field_by : Symbol → Reader Post
field_by s toks = do
  n ← symbol_at is_name toks
  Some (Field s n.0, n.1)

unfoldable pub post_by : Inner → reader.Step Post
post_by inner [] = Some None
post_by inner (s ∷ rest) =
    if is_punct marks.LeftBracket s.kind then got (index_by inner s.line rest)
    else if is_punct marks.LeftParenthesis s.kind then got (call_by inner s.line rest)
    else if is_field s.kind then got (field_by s rest)
    else if is_step s.kind then Some (Some (Step s, rest))
    else Some None

unfoldable pub postfix_by : Inner → Reader Tree
postfix_by inner toks = do
  e ← primary_by inner toks
  ps ← all_that (post_by inner) e.1
  Some (posted e.0 ps.0, ps.1)

-- a type in brackets, with the lines of both
unfoldable pub bracketed_by : Inner → Reader (ℕ × TypeTree × ℕ)
bracketed_by inner toks = do
  o ← punct_at marks.LeftParenthesis toks
  t ← inner.type_name o.1
  c ← punct_at marks.RightParenthesis t.1
  Some ((o.0, t.0, c.0), c.1)

unfoldable pub cast_by : Inner → Reader Pre
cast_by inner toks = do
  b ← bracketed_by inner toks
  Some (Cast b.0.0 b.0.1 b.0.2, b.1)

unfoldable pub prefix_by : Inner → reader.Step Pre
prefix_by inner [] = Some None
prefix_by inner (s ∷ rest) =
    if is_prefix s.kind then (if is_step s.kind && type_opens rest then None else Some (Some (Sign s, rest)))
    else if is_key words.Sizeof s.kind then (if type_opens rest then Some None else Some (Some (Sizeof s.line, rest)))
    else if type_opens (s ∷ rest) then got (cast_by inner (s ∷ rest))
    else Some None

abbrev pub operand_on : Inner → Symbols → Option (ℕ × Symbols) → Option (Tree × Symbols)
operand_on inner toks None = postfix_by inner toks
operand_on inner toks (Some k) = do
  b ← bracketed_by inner k.1
  Some (Measure k.0 b.0.0 b.0.1 b.0.2, b.1)

unfoldable pub operand_by : Inner → Reader Tree
operand_by inner toks = operand_on inner toks (key_at words.Sizeof toks)

unfoldable pub unary_by : Inner → Reader Tree
unary_by inner toks = do
  ps ← all_that (prefix_by inner) toks
  e ← operand_by inner ps.1
  Some (prefixed ps.0 e.0, e.1)

-- ---- operators

-- an operator of a tier, and its right operand
unfoldable pub right_by : ℕ → Reader Tree → reader.Step (Symbol × Tree)
right_by k next [] = Some None
right_by k next (s ∷ rest) =
    if level_of s.kind == k then got (next rest >>= λ b. Some ((s, b.0), b.1))
    else Some None

unfoldable pub tier_by : Inner → ℕ → Reader Tree
tier_by inner zero toks = unary_by inner toks
tier_by inner (suc k) toks = do
  a ← tier_by inner k toks
  bs ← all_that (right_by (suc k) (tier_by inner k)) a.1
  Some (joined a.0 bs.0, bs.1)

-- behind `?`
abbrev pub choose_on : Inner → Reader Tree → Tree → Symbols → Option (ℕ × Symbols) → Option (Tree × Symbols)
choose_on inner again c toks None = Some (c, toks)
choose_on inner again c toks (Some q) = do
  t ← inner.expr q.1
  k ← punct_at marks.Colon t.1
  e ← again k.1
  Some (Choose c q.0 t.0 k.0 e.0, e.1)

unfoldable pub choices : Inner → ℕ → Reader Tree
choices inner zero toks = None
choices inner (suc n) toks = do
  c ← tier_by inner 10 toks
  choose_on inner (choices inner n) c.0 c.1 (punct_at marks.Question c.1)

unfoldable pub cond_by : Inner → Reader Tree
cond_by inner toks = choices inner (length toks) toks

-- the operator of an assignment, behind what may stand on its left
unfoldable pub target_at : Tree → Reader Symbol
target_at a toks = if is_unary a then symbol_at is_assignment toks else None

abbrev pub assign_on : Reader Tree → Tree → Symbols → Option (Symbol × Symbols) → Option (Tree × Symbols)
assign_on again a toks None = Some (a, toks)
assign_on again a toks (Some s) = do
  b ← again s.1
  Some (Assign a s.0 b.0, b.1)

unfoldable pub assigns : Inner → ℕ → Reader Tree
assigns inner zero toks = None
assigns inner (suc n) toks = do
  a ← cond_by inner toks
  assign_on (assigns inner n) a.0 a.1 (target_at a.0 a.1)

unfoldable pub assign_by : Inner → Reader Tree
assign_by inner toks = assigns inner (length toks) toks

-- assignments between commas
unfoldable pub comma_by : Inner → reader.Step (ℕ × Tree)
comma_by inner [] = Some None
comma_by inner (s ∷ rest) =
    if is_punct marks.Comma s.kind then got (assign_by inner rest >>= λ b. Some ((s.line, b.0), b.1))
    else Some None

unfoldable pub expr_by : Inner → Reader Tree
expr_by inner toks = do
  a ← assign_by inner toks
  bs ← all_that (comma_by inner) a.1
  Some (listed a.0 bs.0, bs.1)

-- ---- specifiers

unfoldable pub body_by : Inner → ℕ → Symbols → Reader SpecTree
body_by inner k tag toks = do
  o ← punct_at marks.LeftBrace toks
  m ← inner.members o.1
  c ← punct_at marks.RightBrace m.1
  Some (Body k tag o.0 m.0.0 (more_members m.0.1) c.0, c.1)

-- behind `struct`
abbrev pub struct_on : Inner → ℕ → Symbols → Option (Symbol × Symbols) → Option (SpecTree × Symbols)
struct_on inner k toks None = body_by inner k [] toks
struct_on inner k toks (Some n) =
    if front_is (is_punct marks.LeftBrace) n.1 then body_by inner k (n.0 ∷ []) n.1
    else Some (Tagged k n.0, n.1)

unfoldable pub struct_by : Inner → ℕ → Reader SpecTree
struct_by inner k toks = struct_on inner k toks (symbol_at is_name toks)

-- `}` behind the enumerators, where a comma may stand before it
unfoldable pub enum_body_by : Inner → ℕ → Symbols → Reader SpecTree
enum_body_by inner k tag toks = do
  o ← punct_at marks.LeftBrace toks
  e ← inner.enumerators o.1
  c ← punct_at marks.RightBrace (comma_at e.1).1
  Some (EnumBody k tag o.0 e.0.0 (more_enumerators e.0.1) (comma_at e.1).0 c.0, c.1)

-- behind `enum`
abbrev pub enum_on : Inner → ℕ → Symbols → Option (Symbol × Symbols) → Option (SpecTree × Symbols)
enum_on inner k toks None = enum_body_by inner k [] toks
enum_on inner k toks (Some n) =
    if front_is (is_punct marks.LeftBrace) n.1 then enum_body_by inner k (n.0 ∷ []) n.1
    else Some (EnumTagged k n.0, n.1)

unfoldable pub enum_by : Inner → ℕ → Reader SpecTree
enum_by inner k toks = enum_on inner k toks (symbol_at is_name toks)

unfoldable pub spec_by : Inner → Reader SpecTree
spec_by inner [] = None
spec_by inner (s ∷ rest) =
    if is_spec_word s.kind then Some (OneWord s, rest)
    else if is_type_name s.kind then Some (NamedType s, rest)
    else if is_key words.Struct s.kind then struct_by inner s.line rest
    else if is_key words.Enum s.kind then enum_by inner s.line rest
    else None

unfoldable pub next_spec_by : Inner → reader.Step SpecTree
next_spec_by inner toks = if specs_come toks then got (spec_by inner toks) else Some None

unfoldable pub specs_by : Inner → Reader SpecTrees
specs_by inner toks = do
  s ← spec_by inner toks
  ss ← all_that (next_spec_by inner) s.1
  Some (Specified s.0 (more_specs ss.0), ss.1)

unfoldable pub type_name_by : Inner → Reader TypeTree
type_name_by inner toks = do
  s ← specs_by inner toks
  Some (TypeOf s.0 (pointers_at s.1).0, (pointers_at s.1).1)

-- ---- declarators

unfoldable pub length_by : Inner → ℕ → Reader SuffixTree
length_by inner o toks = do
  e ← inner.size toks
  c ← punct_at marks.RightBracket e.1
  Some (Sized o e.0 c.0, c.1)

abbrev pub array_on : Inner → ℕ → Symbols → Option (ℕ × Symbols) → Option (SuffixTree × Symbols)
array_on inner o toks (Some c) = Some (Unsized o c.0, c.1)
array_on inner o toks None = length_by inner o toks

unfoldable pub array_by : Inner → ℕ → Reader SuffixTree
array_by inner o toks = array_on inner o toks (punct_at marks.RightBracket toks)

-- `void` and `)`, with the line of each
unfoldable pub void_at : Reader (ℕ × ℕ)
void_at toks = do
  v ← key_at words.Void toks
  c ← punct_at marks.RightParenthesis v.1
  Some ((v.0, c.0), c.1)

unfoldable pub list_by : Inner → ℕ → Reader SuffixTree
list_by inner o toks = do
  ps ← inner.params toks
  c ← punct_at marks.RightParenthesis ps.1
  Some (Params o ps.0.0 (more_params ps.0.1) c.0, c.1)

abbrev pub void_on : Inner → ℕ → Symbols → Option ((ℕ × ℕ) × Symbols) → Option (SuffixTree × Symbols)
void_on inner o toks (Some v) = Some (VoidOnly o v.0.0 v.0.1, v.1)
void_on inner o toks None = list_by inner o toks

abbrev pub function_on : Inner → ℕ → Symbols → Option (ℕ × Symbols) → Option (SuffixTree × Symbols)
function_on inner o toks (Some c) = Some (Empty o c.0, c.1)
function_on inner o toks None = void_on inner o toks (void_at toks)

-- behind the bracket of a function
unfoldable pub function_by : Inner → ℕ → Reader SuffixTree
function_by inner o toks = function_on inner o toks (punct_at marks.RightParenthesis toks)

unfoldable pub suffix_by : Inner → reader.Step SuffixTree
suffix_by inner [] = Some None
suffix_by inner (s ∷ rest) =
    if is_punct marks.LeftBracket s.kind then got (array_by inner s.line rest)
    else if is_punct marks.LeftParenthesis s.kind then got (function_by inner s.line rest)
    else Some None

-- behind the pointers of a declarator
unfoldable pub named_by : Inner → Symbols → Reader DeclaratorTree
named_by inner ps toks = do
  n ← symbol_at is_name toks
  ss ← all_that (suffix_by inner) n.1
  Some (Declares ps n.0 (suffixes_of ss.0), ss.1)

unfoldable pub declarator_by : Inner → Reader DeclaratorTree
declarator_by inner toks = named_by inner (pointers_at toks).0 (pointers_at toks).1

unfoldable pub next_declarator_by : Inner → reader.Step (ℕ × DeclaratorTree)
next_declarator_by inner [] = Some None
next_declarator_by inner (s ∷ rest) =
    if is_punct marks.Comma s.kind then got (declarator_by inner rest >>= λ d. Some ((s.line, d.0), d.1))
    else Some None

unfoldable pub member_by : Inner → Reader MemberTree
member_by inner toks = do
  s ← specs_by inner toks
  d ← declarator_by inner s.1
  ds ← all_that (next_declarator_by inner) d.1
  c ← punct_at marks.Semicolon ds.1
  Some (Members s.0 d.0 (more_declarators ds.0) c.0, c.1)

unfoldable pub next_member_by : Inner → reader.Step MemberTree
next_member_by inner toks = if specs_come toks then got (member_by inner toks) else Some None

unfoldable pub members_by : Inner → Reader (MemberTree × List MemberTree)
members_by inner toks = do
  m ← member_by inner toks
  ms ← all_that (next_member_by inner) m.1
  Some ((m.0, ms.0), ms.1)

-- ---- enumerators

-- behind the name of an enumerator
abbrev pub valued_on : Inner → Symbol → Symbols → Option (ℕ × Symbols) → Option (EnumeratorTree × Symbols)
valued_on inner n toks None = Some (Bare n, toks)
valued_on inner n toks (Some q) = do
  e ← cond_by inner q.1
  Some (Valued n q.0 e.0, e.1)

unfoldable pub valued_by : Inner → Symbol → Reader EnumeratorTree
valued_by inner n toks = valued_on inner n toks (punct_at marks.Assign toks)

unfoldable pub enumerator_by : Inner → Reader EnumeratorTree
enumerator_by inner toks = do
  n ← symbol_at is_name toks
  valued_by inner n.0 n.1

-- a comma that an enumerator follows, and not the end of the list
unfoldable pub next_enumerator_by : Inner → reader.Step (ℕ × EnumeratorTree)
next_enumerator_by inner [] = Some None
next_enumerator_by inner (s ∷ rest) =
    if is_punct marks.Comma s.kind then (if front_is (is_punct marks.RightBrace) rest then Some None else got (enumerator_by inner rest >>= λ e. Some ((s.line, e.0), e.1)))
    else Some None

unfoldable pub enumerators_by : Inner → Reader (EnumeratorTree × List (ℕ × EnumeratorTree))
enumerators_by inner toks = do
  e ← enumerator_by inner toks
  es ← all_that (next_enumerator_by inner) e.1
  Some ((e.0, es.0), es.1)

-- ---- parameters

-- a parameter without a name, behind its pointers
abbrev pub unnamed_on : SpecTrees → Symbols → List SuffixTree × Symbols → Option (ParamTree × Symbols)
unnamed_on s ps ss = if is_bare_void s ps (suffixes_of ss.0) then None else Some (Unnamed s ps (suffixes_of ss.0), ss.1)

unfoldable pub unnamed_by : Inner → SpecTrees → Symbols → Reader ParamTree
unnamed_by inner s ps toks = do
  ss ← all_that (suffix_by inner) toks
  unnamed_on s ps ss

unfoldable pub named_param_by : Inner → SpecTrees → Symbols → Reader ParamTree
named_param_by inner s ps toks = do
  d ← named_by inner ps toks
  Some (Named s d.0, d.1)

unfoldable pub param_behind : Inner → SpecTrees → Symbols → Reader ParamTree
param_behind inner s ps toks = if front_is is_name toks then named_param_by inner s ps toks else unnamed_by inner s ps toks

unfoldable pub param_by : Inner → Reader ParamTree
param_by inner toks = do
  s ← specs_by inner toks
  param_behind inner s.0 (pointers_at s.1).0 (pointers_at s.1).1

unfoldable pub next_param_by : Inner → reader.Step (ℕ × ParamTree)
next_param_by inner [] = Some None
next_param_by inner (s ∷ rest) =
    if is_punct marks.Comma s.kind then got (param_by inner rest >>= λ p. Some ((s.line, p.0), p.1))
    else Some None

unfoldable pub params_by : Inner → Reader (ParamTree × List (ℕ × ParamTree))
params_by inner toks = do
  p ← param_by inner toks
  ps ← all_that (next_param_by inner) p.1
  Some ((p.0, ps.0), ps.1)

-- What is read where n brackets may still be entered.
unfoldable pub at : ℕ → Inner
at zero = record { expr = λ toks. None; size = λ toks. None; type_name = λ toks. None; members = λ toks. None; params = λ toks. None; enumerators = λ toks. None }
at (suc n) = record { expr = expr_by (at n); size = cond_by (at n); type_name = type_name_by (at n); members = members_by (at n); params = params_by (at n); enumerators = enumerators_by (at n) }
