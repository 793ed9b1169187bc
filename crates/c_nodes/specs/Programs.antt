-- Trees of initializers, declarations, statements and units as pure data, the tokens that each is
-- spelled with, and which of them are trees of the grammar (ISO/IEC 9899:1990, 6.5 to 6.7, in the
-- subset). A number that stands where a token does is the line of that token.
use Rattle.std.specs.Prelude.{◌≡◌, ℕ, suc, max, Bool, true, false, ◌≤◌, List, [], ◌∷◌, ◌++◌, Option, Some, None}
use Rattle.c_token.specs.declared.token.Keyword.TheVariants as words
use Rattle.c_token.specs.declared.token.Punct.TheVariants as marks
use Rattle.c_nodes.specs.Words.{Symbol, Symbols, key, punct, spelled_comma}
use Rattle.c_nodes.specs.Kinds.{is_text}
use Rattle.c_nodes.specs.Trees.{Tree, SpecTrees, DeclaratorTree, Declares, SuffixTrees, NoSuffix, AndSuffix, SuffixTree, Unsized, Sized, Empty, VoidOnly, Params, spelled, spelled_specs, spelled_declarator, IsTree, AreSpecs, IsDeclarator, rank}

-- ---- expressions that stand alone

-- `(e)`: the condition of a statement, or what a `switch` looks at
pub record ConditionTree : Type 0 where
  pub opening : ℕ
  pub expr : Tree
  pub closing : ℕ

-- `(begin; condition; step)`
pub record HeadTree : Type 0 where
  pub opening : ℕ
  pub begin : Option Tree
  pub first : ℕ
  pub condition : Option Tree
  pub second : ℕ
  pub step : Option Tree
  pub closing : ℕ

abbrev pub spelled_any : Option Tree → Symbols
spelled_any None = []
spelled_any (Some e) = spelled e

abbrev pub IsAny : Option Tree → Type 0
IsAny None = Unit {0}
IsAny (Some e) = IsTree e

abbrev pub spelled_condition : ConditionTree → Symbols
spelled_condition c = punct marks.LeftParenthesis c.opening ∷ (spelled c.expr ++ punct marks.RightParenthesis c.closing ∷ [])

abbrev pub spelled_head : HeadTree → Symbols
spelled_head h = punct marks.LeftParenthesis h.opening ∷ (spelled_any h.begin ++ punct marks.Semicolon h.first ∷ (spelled_any h.condition ++ punct marks.Semicolon h.second ∷ (spelled_any h.step ++ punct marks.RightParenthesis h.closing ∷ [])))

abbrev pub IsHead : HeadTree → Type 0
IsHead h = IsAny h.begin × IsAny h.condition × IsAny h.step

-- a label of a `switch`
pub data LabelTree : Type 0 where
  Case : ℕ → Tree → ℕ → LabelTree
  Default : ℕ → ℕ → LabelTree

abbrev pub spelled_label : LabelTree → Symbols
spelled_label (Case k e c) = key words.Case k ∷ (spelled e ++ punct marks.Colon c ∷ [])
spelled_label (Default k c) = key words.Default k ∷ punct marks.Colon c ∷ []

abbrev pub IsLabel : LabelTree → Type 0
IsLabel (Case k e c) = IsTree e × (rank e ≤ 11)
IsLabel (Default k c) = Unit {0}

-- ---- initializers

mutual
  -- an assignment, a string, or items in braces, with a comma behind the last or without one
  pub data InitTree : Type 0 where
    Value : Tree → InitTree
    Quoted : Symbol → InitTree
    Listed : ℕ → InitTree → MoreInits → Option ℕ → ℕ → InitTree

  pub data MoreInits : Type 0 where
    NoInit : MoreInits
    AndInit : ℕ → InitTree → MoreInits → MoreInits

abbrev mutual
  pub spelled_init : InitTree → Symbols
  spelled_init (Value e) = spelled e
  spelled_init (Quoted s) = s ∷ []
  spelled_init (Listed o i is last c) = punct marks.LeftBrace o ∷ (spelled_init i ++ (spelled_more_inits is ++ (spelled_comma last ++ punct marks.RightBrace c ∷ [])))

  pub spelled_more_inits : MoreInits → Symbols
  spelled_more_inits NoInit = []
  spelled_more_inits (AndInit c i is) = punct marks.Comma c ∷ (spelled_init i ++ spelled_more_inits is)

abbrev mutual
  pub IsInit : InitTree → Type 0
  IsInit (Value e) = IsTree e × (rank e ≤ 12)
  IsInit (Quoted s) = is_text s.kind ≡ true
  IsInit (Listed o i is last c) = IsInit i × AreMoreInits is

  pub AreMoreInits : MoreInits → Type 0
  AreMoreInits NoInit = Unit {0}
  AreMoreInits (AndInit c i is) = IsInit i × AreMoreInits is

-- ---- declarations

-- a declarator, and `=` with what it begins as
pub record BegunTree : Type 0 where
  pub declarator : DeclaratorTree
  pub init : Option (ℕ × InitTree)

abbrev pub spelled_equals : Option (ℕ × InitTree) → Symbols
spelled_equals None = []
spelled_equals (Some i) = punct marks.Assign i.0 ∷ spelled_init i.1

abbrev pub IsEquals : Option (ℕ × InitTree) → Type 0
IsEquals None = Unit {0}
IsEquals (Some i) = IsInit i.1

abbrev pub spelled_begun : BegunTree → Symbols
spelled_begun b = spelled_declarator b.declarator ++ spelled_equals b.init

abbrev pub IsBegun : BegunTree → Type 0
IsBegun b = IsDeclarator b.declarator × IsEquals b.init

abbrev pub spelled_more_begun : List (ℕ × BegunTree) → Symbols
spelled_more_begun [] = []
spelled_more_begun (b ∷ bs) = punct marks.Comma b.0 ∷ (spelled_begun b.1 ++ spelled_more_begun bs)

abbrev pub AreMoreBegun : List (ℕ × BegunTree) → Type 0
AreMoreBegun [] = Unit {0}
AreMoreBegun (b ∷ bs) = IsBegun b.1 × AreMoreBegun bs

abbrev pub DeclaredTrees : Type 0
DeclaredTrees = BegunTree × List (ℕ × BegunTree)

abbrev pub spelled_declared : Option DeclaredTrees → Symbols
spelled_declared None = []
spelled_declared (Some d) = spelled_begun d.0 ++ spelled_more_begun d.1

abbrev pub AreDeclared : Option DeclaredTrees → Type 0
AreDeclared None = Unit {0}
AreDeclared (Some d) = IsBegun d.0 × AreMoreBegun d.1

pub record DeclarationTree : Type 0 where
  pub specs : SpecTrees
  pub declared : Option DeclaredTrees
  pub semicolon : ℕ

abbrev pub spelled_declaration : DeclarationTree → Symbols
spelled_declaration d = spelled_specs d.specs ++ (spelled_declared d.declared ++ punct marks.Semicolon d.semicolon ∷ [])

abbrev pub IsDeclaration : DeclarationTree → Type 0
IsDeclaration d = AreSpecs d.specs × AreDeclared d.declared

abbrev pub spelled_declarations : List DeclarationTree → Symbols
spelled_declarations [] = []
spelled_declarations (d ∷ ds) = spelled_declaration d ++ spelled_declarations ds

abbrev pub AreDeclarations : List DeclarationTree → Type 0
AreDeclarations [] = Unit {0}
AreDeclarations (d ∷ ds) = IsDeclaration d × AreDeclarations ds

-- ---- statements

mutual
  pub data StatementTree : Type 0 where
    Braced : BlockTree → StatementTree
    Plain : Option Tree → ℕ → StatementTree
    -- `if` with its arms
    Chain : ArmTree → Arms → StatementTree
    While : ℕ → ConditionTree → StatementTree → StatementTree
    Do : ℕ → StatementTree → ℕ → ConditionTree → ℕ → StatementTree
    For : ℕ → HeadTree → StatementTree → StatementTree
    Switch : ℕ → ConditionTree → ℕ → Items → ℕ → StatementTree
    Break : ℕ → ℕ → StatementTree
    Continue : ℕ → ℕ → StatementTree
    Return : ℕ → Option Tree → ℕ → StatementTree

  pub data BlockTree : Type 0 where
    Block : ℕ → List DeclarationTree → Statements → ℕ → BlockTree

  pub data Statements : Type 0 where
    NoStatement : Statements
    AndStatement : StatementTree → Statements → Statements

  -- `if (e) statement`
  pub data ArmTree : Type 0 where
    Arm : ℕ → ConditionTree → StatementTree → ArmTree

  -- what follows the first arm: nothing, `else` and a statement, or `else` and an arm and so on
  pub data Arms : Type 0 where
    NoElse : Arms
    Else : ℕ → StatementTree → Arms
    ElseIf : ℕ → ArmTree → Arms → Arms

  -- what stands in the body of a `switch`
  pub data Items : Type 0 where
    NoItem : Items
    AndLabel : LabelTree → Items → Items
    AndInner : StatementTree → Items → Items

abbrev mutual
  pub spelled_statement : StatementTree → Symbols
  spelled_statement (Braced b) = spelled_block b
  spelled_statement (Plain e c) = spelled_any e ++ punct marks.Semicolon c ∷ []
  spelled_statement (Chain a as_) = spelled_arm a ++ spelled_arms as_
  spelled_statement (While k e s) = key words.While k ∷ (spelled_condition e ++ spelled_statement s)
  spelled_statement (Do k s w e c) = key words.Do k ∷ (spelled_statement s ++ key words.While w ∷ (spelled_condition e ++ punct marks.Semicolon c ∷ []))
  spelled_statement (For k h s) = key words.For k ∷ (spelled_head h ++ spelled_statement s)
  spelled_statement (Switch k e o is c) = key words.Switch k ∷ (spelled_condition e ++ punct marks.LeftBrace o ∷ (spelled_items is ++ punct marks.RightBrace c ∷ []))
  spelled_statement (Break k c) = key words.Break k ∷ punct marks.Semicolon c ∷ []
  spelled_statement (Continue k c) = key words.Continue k ∷ punct marks.Semicolon c ∷ []
  spelled_statement (Return k e c) = key words.Return k ∷ (spelled_any e ++ punct marks.Semicolon c ∷ [])

  pub spelled_block : BlockTree → Symbols
  spelled_block (Block o ds ss c) = punct marks.LeftBrace o ∷ (spelled_declarations ds ++ (spelled_statements ss ++ punct marks.RightBrace c ∷ []))

  pub spelled_statements : Statements → Symbols
  spelled_statements NoStatement = []
  spelled_statements (AndStatement s ss) = spelled_statement s ++ spelled_statements ss

  pub spelled_arm : ArmTree → Symbols
  spelled_arm (Arm k e s) = key words.If k ∷ (spelled_condition e ++ spelled_statement s)

  pub spelled_arms : Arms → Symbols
  spelled_arms NoElse = []
  spelled_arms (Else k s) = key words.Else k ∷ spelled_statement s
  spelled_arms (ElseIf k a as_) = key words.Else k ∷ (spelled_arm a ++ spelled_arms as_)

  pub spelled_items : Items → Symbols
  spelled_items NoItem = []
  spelled_items (AndLabel l is) = spelled_label l ++ spelled_items is
  spelled_items (AndInner s is) = spelled_statement s ++ spelled_items is

-- A statement with an open `if` at its end: one that an `else` behind it would belong to.
abbrev mutual
  pub is_open : StatementTree → Bool
  is_open (Braced b) = false
  is_open (Plain e c) = false
  is_open (Chain a as_) = is_open_arms as_
  is_open (While k e s) = is_open s
  is_open (Do k s w e c) = false
  is_open (For k h s) = is_open s
  is_open (Switch k e o is c) = false
  is_open (Break k c) = false
  is_open (Continue k c) = false
  is_open (Return k e c) = false

  pub is_open_arms : Arms → Bool
  is_open_arms NoElse = true
  is_open_arms (Else k s) = is_open s
  is_open_arms (ElseIf k a as_) = is_open_arms as_

abbrev pub is_chain : StatementTree → Bool
is_chain (Chain a as_) = true
is_chain _ = false

-- what an `else` may follow
abbrev pub MayPrecede : ArmTree → Arms → Type 0
MayPrecede (Arm k e s) NoElse = Unit {0}
MayPrecede (Arm k e s) (Else l t) = is_open s ≡ false
MayPrecede (Arm k e s) (ElseIf l a as_) = is_open s ≡ false

-- The trees of the grammar.
abbrev mutual
  pub IsStatement : StatementTree → Type 0
  IsStatement (Braced b) = IsBlock b
  IsStatement (Plain e c) = IsAny e
  IsStatement (Chain a as_) = IsArm a × AreArms as_ × MayPrecede a as_
  IsStatement (While k e s) = IsTree e.expr × IsStatement s
  IsStatement (Do k s w e c) = IsStatement s × IsTree e.expr
  IsStatement (For k h s) = IsHead h × IsStatement s
  IsStatement (Switch k e o is c) = IsTree e.expr × AreItems is
  IsStatement (Break k c) = Unit {0}
  IsStatement (Continue k c) = Unit {0}
  IsStatement (Return k e c) = IsAny e

  pub IsBlock : BlockTree → Type 0
  IsBlock (Block o ds ss c) = AreDeclarations ds × AreStatements ss

  pub AreStatements : Statements → Type 0
  AreStatements NoStatement = Unit {0}
  AreStatements (AndStatement s ss) = IsStatement s × AreStatements ss

  pub IsArm : ArmTree → Type 0
  IsArm (Arm k e s) = IsTree e.expr × IsStatement s

  pub AreArms : Arms → Type 0
  AreArms NoElse = Unit {0}
  AreArms (Else k s) = IsStatement s × (is_chain s ≡ false)
  AreArms (ElseIf k a as_) = IsArm a × AreArms as_ × MayPrecede a as_

  pub AreItems : Items → Type 0
  AreItems NoItem = Unit {0}
  AreItems (AndLabel l is) = IsLabel l × AreItems is
  AreItems (AndInner s is) = IsStatement s × AreItems is

-- How many statements stand in one another inside a statement.
abbrev mutual
  pub depth : StatementTree → ℕ
  depth (Braced b) = depth_block b
  depth (Plain e c) = 0
  depth (Chain a as_) = max (depth_arm a) (depth_arms as_)
  depth (While k e s) = suc (depth s)
  depth (Do k s w e c) = suc (depth s)
  depth (For k h s) = suc (depth s)
  depth (Switch k e o is c) = depth_items is
  depth (Break k c) = 0
  depth (Continue k c) = 0
  depth (Return k e c) = 0

  pub depth_block : BlockTree → ℕ
  depth_block (Block o ds ss c) = depth_statements ss

  pub depth_statements : Statements → ℕ
  depth_statements NoStatement = 0
  depth_statements (AndStatement s ss) = max (suc (depth s)) (depth_statements ss)

  pub depth_arm : ArmTree → ℕ
  depth_arm (Arm k e s) = suc (depth s)

  pub depth_arms : Arms → ℕ
  depth_arms NoElse = 0
  depth_arms (Else k s) = suc (depth s)
  depth_arms (ElseIf k a as_) = max (depth_arm a) (depth_arms as_)

  pub depth_items : Items → ℕ
  depth_items NoItem = 0
  depth_items (AndLabel l is) = depth_items is
  depth_items (AndInner s is) = max (suc (depth s)) (depth_items is)

-- ---- units

-- whether a declarator ends in brackets for parameters
abbrev pub is_bracketed : SuffixTree → Bool
is_bracketed (Unsized o c) = false
is_bracketed (Sized o e c) = false
is_bracketed (Empty o c) = true
is_bracketed (VoidOnly o v c) = true
is_bracketed (Params o p ps c) = true

abbrev pub ends_bracketed : SuffixTrees → Bool
ends_bracketed NoSuffix = false
ends_bracketed (AndSuffix s NoSuffix) = is_bracketed s
ends_bracketed (AndSuffix s (AndSuffix t ss)) = ends_bracketed (AndSuffix t ss)

abbrev pub is_function : DeclaratorTree → Bool
is_function (Declares ps n ss) = ends_bracketed ss

-- a function, or a declaration outside functions
pub data ItemTree : Type 0 where
  Function : SpecTrees → DeclaratorTree → BlockTree → ItemTree
  Declaration : DeclarationTree → ItemTree

abbrev pub spelled_item : ItemTree → Symbols
spelled_item (Function s d b) = spelled_specs s ++ (spelled_declarator d ++ spelled_block b)
spelled_item (Declaration d) = spelled_declaration d

-- a statement stands inside at most 255 others, and the body of a function is none
abbrev pub IsItem : ItemTree → Type 0
IsItem (Function s d b) = AreSpecs s × IsDeclarator d × (is_function d ≡ true) × IsBlock b × (depth_block b ≤ 256)
IsItem (Declaration d) = IsDeclaration d

abbrev pub spelled_unit : List ItemTree → Symbols
spelled_unit [] = []
spelled_unit (i ∷ is) = spelled_item i ++ spelled_unit is

abbrev pub IsUnit : List ItemTree → Type 0
IsUnit [] = Unit {0}
IsUnit (i ∷ is) = IsItem i × IsUnit is
