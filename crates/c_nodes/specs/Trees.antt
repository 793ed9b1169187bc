-- Trees of expressions and of declarators as pure data, the tokens that each is spelled with, and
-- which of them are trees of the grammar (ISO/IEC 9899:1990, 6.3 and 6.5, in the subset).
-- A number that stands where a token does is the line of that token.
use Rattle.std.specs.Prelude.{◌≡◌, ℕ, Bool, true, false, ◌&&◌, if◌then◌else◌, ◌<◌, ◌≤◌, [], ◌∷◌, ◌++◌, Option}
use Rattle.c_token.specs.declared.token.Keyword.TheVariants as words
use Rattle.c_token.specs.declared.token.Punct.TheVariants as marks
use Rattle.c_nodes.specs.Words.{Symbol, Symbols, key, punct, spelled_comma}
use Rattle.c_nodes.specs.Kinds.{is_punct, is_key, is_name, is_type_name, is_leaf, level_of, is_assignment, is_prefix, is_step, is_field, is_qualifier, is_spec_word}

mutual
  -- an expression
  pub data Tree : Type 0 where
    Leaf : Symbol → Tree
    Group : ℕ → Tree → ℕ → Tree
    Behind : Tree → Post → Tree
    Before : Pre → Tree → Tree
    Measure : ℕ → ℕ → TypeTree → ℕ → Tree
    Join : Symbol → Tree → Tree → Tree
    Choose : Tree → ℕ → Tree → ℕ → Tree → Tree
    Assign : Tree → Symbol → Tree → Tree

  -- what may stand behind an operand: `[e]`, `()`, `(e)`, `.name` or `->name`, `++` or `--`
  pub data Post : Type 0 where
    Index : ℕ → Tree → ℕ → Post
    CallBare : ℕ → ℕ → Post
    Call : ℕ → Tree → ℕ → Post
    Field : Symbol → Symbol → Post
    Step : Symbol → Post

  -- what may stand before an operand: an operator, `sizeof`, a cast
  pub data Pre : Type 0 where
    Sign : Symbol → Pre
    Sizeof : ℕ → Pre
    Cast : ℕ → TypeTree → ℕ → Pre

  -- the name of a type: specifiers and pointers
  pub data TypeTree : Type 0 where
    TypeOf : SpecTrees → Symbols → TypeTree

  pub data SpecTrees : Type 0 where
    Specified : SpecTree → MoreSpecs → SpecTrees

  pub data MoreSpecs : Type 0 where
    NoSpec : MoreSpecs
    AndSpec : SpecTree → MoreSpecs → MoreSpecs

  -- a specifier: a word, a marked name, `struct NAME`, a structure with its members, `enum NAME`, or an enumeration with its enumerators and
  -- perhaps a comma behind them
  pub data SpecTree : Type 0 where
    OneWord : Symbol → SpecTree
    Tagged : ℕ → Symbol → SpecTree
    Body : ℕ → Symbols → ℕ → MemberTree → MoreMembers → ℕ → SpecTree
    NamedType : Symbol → SpecTree
    EnumTagged : ℕ → Symbol → SpecTree
    EnumBody : ℕ → Symbols → ℕ → EnumeratorTree → MoreEnumerators → Option ℕ → ℕ → SpecTree

  pub data MoreEnumerators : Type 0 where
    NoEnumerator : MoreEnumerators
    AndEnumerator : ℕ → EnumeratorTree → MoreEnumerators → MoreEnumerators

  -- a name, and `=` with its value or without one
  pub data EnumeratorTree : Type 0 where
    Bare : Symbol → EnumeratorTree
    Valued : Symbol → ℕ → Tree → EnumeratorTree

  pub data MoreMembers : Type 0 where
    NoMember : MoreMembers
    AndMember : MemberTree → MoreMembers → MoreMembers

  pub data MemberTree : Type 0 where
    Members : SpecTrees → DeclaratorTree → MoreDeclarators → ℕ → MemberTree

  pub data MoreDeclarators : Type 0 where
    NoDeclarator : MoreDeclarators
    AndDeclarator : ℕ → DeclaratorTree → MoreDeclarators → MoreDeclarators

  -- pointers, a name, suffixes
  pub data DeclaratorTree : Type 0 where
    Declares : Symbols → Symbol → SuffixTrees → DeclaratorTree

  pub data SuffixTrees : Type 0 where
    NoSuffix : SuffixTrees
    AndSuffix : SuffixTree → SuffixTrees → SuffixTrees

  -- `[]`, `[e]`, `()`, `(void)`, or a list of parameters
  pub data SuffixTree : Type 0 where
    Unsized : ℕ → ℕ → SuffixTree
    Sized : ℕ → Tree → ℕ → SuffixTree
    Empty : ℕ → ℕ → SuffixTree
    VoidOnly : ℕ → ℕ → ℕ → SuffixTree
    Params : ℕ → ParamTree → MoreParams → ℕ → SuffixTree

  pub data MoreParams : Type 0 where
    NoParam : MoreParams
    AndParam : ℕ → ParamTree → MoreParams → MoreParams

  pub data ParamTree : Type 0 where
    Named : SpecTrees → DeclaratorTree → ParamTree
    Unnamed : SpecTrees → Symbols → SuffixTrees → ParamTree

-- The tokens of a tree, in order.
abbrev mutual
  pub spelled : Tree → Symbols
  spelled (Leaf s) = s ∷ []
  spelled (Group o e c) = punct marks.LeftParenthesis o ∷ (spelled e ++ punct marks.RightParenthesis c ∷ [])
  spelled (Behind e p) = spelled e ++ spelled_post p
  spelled (Before p e) = spelled_pre p ++ spelled e
  spelled (Measure k o t c) = key words.Sizeof k ∷ punct marks.LeftParenthesis o ∷ (spelled_type t ++ punct marks.RightParenthesis c ∷ [])
  spelled (Join s a b) = spelled a ++ s ∷ spelled b
  spelled (Choose c q t k e) = spelled c ++ punct marks.Question q ∷ (spelled t ++ punct marks.Colon k ∷ spelled e)
  spelled (Assign a s b) = spelled a ++ s ∷ spelled b

  pub spelled_post : Post → Symbols
  spelled_post (Index o e c) = punct marks.LeftBracket o ∷ (spelled e ++ punct marks.RightBracket c ∷ [])
  spelled_post (CallBare o c) = punct marks.LeftParenthesis o ∷ punct marks.RightParenthesis c ∷ []
  spelled_post (Call o e c) = punct marks.LeftParenthesis o ∷ (spelled e ++ punct marks.RightParenthesis c ∷ [])
  spelled_post (Field s n) = s ∷ n ∷ []
  spelled_post (Step s) = s ∷ []

  pub spelled_pre : Pre → Symbols
  spelled_pre (Sign s) = s ∷ []
  spelled_pre (Sizeof k) = key words.Sizeof k ∷ []
  spelled_pre (Cast o t c) = punct marks.LeftParenthesis o ∷ (spelled_type t ++ punct marks.RightParenthesis c ∷ [])

  pub spelled_type : TypeTree → Symbols
  spelled_type (TypeOf s ps) = spelled_specs s ++ ps

  pub spelled_specs : SpecTrees → Symbols
  spelled_specs (Specified s ss) = spelled_spec s ++ spelled_more_specs ss

  pub spelled_more_specs : MoreSpecs → Symbols
  spelled_more_specs NoSpec = []
  spelled_more_specs (AndSpec s ss) = spelled_spec s ++ spelled_more_specs ss

  pub spelled_spec : SpecTree → Symbols
  spelled_spec (OneWord s) = s ∷ []
  spelled_spec (Tagged k n) = key words.Struct k ∷ n ∷ []
  spelled_spec (Body k tag o m ms c) = key words.Struct k ∷ (tag ++ punct marks.LeftBrace o ∷ (spelled_member m ++ (spelled_more_members ms ++ punct marks.RightBrace c ∷ [])))
  spelled_spec (NamedType s) = s ∷ []
  spelled_spec (EnumTagged k n) = key words.Enum k ∷ n ∷ []
  spelled_spec (EnumBody k tag o e es last c) = key words.Enum k ∷ (tag ++ punct marks.LeftBrace o ∷ (spelled_enumerator e ++ (spelled_more_enumerators es ++ (spelled_comma last ++ punct marks.RightBrace c ∷ []))))

  pub spelled_more_enumerators : MoreEnumerators → Symbols
  spelled_more_enumerators NoEnumerator = []
  spelled_more_enumerators (AndEnumerator c e es) = punct marks.Comma c ∷ (spelled_enumerator e ++ spelled_more_enumerators es)

  pub spelled_enumerator : EnumeratorTree → Symbols
  spelled_enumerator (Bare n) = n ∷ []
  spelled_enumerator (Valued n q e) = n ∷ punct marks.Assign q ∷ spelled e

  pub spelled_more_members : MoreMembers → Symbols
  spelled_more_members NoMember = []
  spelled_more_members (AndMember m ms) = spelled_member m ++ spelled_more_members ms

  pub spelled_member : MemberTree → Symbols
  spelled_member (Members s d ds c) = spelled_specs s ++ (spelled_declarator d ++ (spelled_more_declarators ds ++ punct marks.Semicolon c ∷ []))

  pub spelled_more_declarators : MoreDeclarators → Symbols
  spelled_more_declarators NoDeclarator = []
  spelled_more_declarators (AndDeclarator c d ds) = punct marks.Comma c ∷ (spelled_declarator d ++ spelled_more_declarators ds)

  pub spelled_declarator : DeclaratorTree → Symbols
  spelled_declarator (Declares ps n ss) = ps ++ n ∷ spelled_suffixes ss

  pub spelled_suffixes : SuffixTrees → Symbols
  spelled_suffixes NoSuffix = []
  spelled_suffixes (AndSuffix s ss) = spelled_suffix s ++ spelled_suffixes ss

  pub spelled_suffix : SuffixTree → Symbols
  spelled_suffix (Unsized o c) = punct marks.LeftBracket o ∷ punct marks.RightBracket c ∷ []
  spelled_suffix (Sized o e c) = punct marks.LeftBracket o ∷ (spelled e ++ punct marks.RightBracket c ∷ [])
  spelled_suffix (Empty o c) = punct marks.LeftParenthesis o ∷ punct marks.RightParenthesis c ∷ []
  spelled_suffix (VoidOnly o v c) = punct marks.LeftParenthesis o ∷ key words.Void v ∷ punct marks.RightParenthesis c ∷ []
  spelled_suffix (Params o p ps c) = punct marks.LeftParenthesis o ∷ (spelled_param p ++ (spelled_more_params ps ++ punct marks.RightParenthesis c ∷ []))

  pub spelled_more_params : MoreParams → Symbols
  spelled_more_params NoParam = []
  spelled_more_params (AndParam c p ps) = punct marks.Comma c ∷ (spelled_param p ++ spelled_more_params ps)

  pub spelled_param : ParamTree → Symbols
  spelled_param (Named s d) = spelled_specs s ++ spelled_declarator d
  spelled_param (Unnamed s ps ss) = spelled_specs s ++ (ps ++ spelled_suffixes ss)

-- How loosely a tree binds: 0 an operand with its prefixes, 1 to 10 the binary operators, 11 a
-- choice, 12 an assignment, 13 a comma.
abbrev pub rank : Tree → ℕ
rank (Leaf s) = 0
rank (Group o e c) = 0
rank (Behind e p) = 0
rank (Before p e) = 0
rank (Measure k o t c) = 0
rank (Join s a b) = level_of s.kind
rank (Choose c q t k e) = 11
rank (Assign a s b) = 12

-- a primary expression with its postfixes
abbrev pub is_postfix : Tree → Bool
is_postfix (Leaf s) = true
is_postfix (Group o e c) = true
is_postfix (Behind e p) = true
is_postfix _ = false

abbrev pub is_cast : Pre → Bool
is_cast (Sign s) = false
is_cast (Sizeof k) = false
is_cast (Cast o t c) = true

-- a unary expression: what an assignment may have on its left, and `++`, `--` and `sizeof` behind them
abbrev pub is_unary : Tree → Bool
is_unary (Leaf s) = true
is_unary (Group o e c) = true
is_unary (Behind e p) = true
is_unary (Before (Sign s) e) = true
is_unary (Before (Sizeof k) e) = true
is_unary (Before (Cast o t c) e) = false
is_unary (Measure k o t c) = true
is_unary (Join s a b) = false
is_unary (Choose c q t k e) = false
is_unary (Assign a s b) = false

-- whether an operand may stand behind a prefix
abbrev pub may_follow : Pre → Tree → Bool
may_follow (Sign s) e = if is_step s.kind then is_unary e else true
may_follow (Sizeof k) e = is_unary e
may_follow (Cast o t c) e = true

-- pointers: nothing, or `*` and then any number of `*` and qualifiers
abbrev pub are_stars : Symbols → Bool
are_stars [] = true
are_stars (s ∷ rest) = (if is_punct marks.Star s.kind then true else is_qualifier s.kind) && are_stars rest

abbrev pub are_pointers : Symbols → Bool
are_pointers [] = true
are_pointers (s ∷ rest) = is_punct marks.Star s.kind && are_stars rest

-- the name of a structure or of an enumeration, where it has one
abbrev pub is_tag : Symbols → Bool
is_tag [] = true
is_tag (n ∷ []) = is_name n.kind
is_tag (n ∷ m ∷ rest) = false

abbrev pub is_void : SpecTrees → Bool
is_void (Specified (OneWord s) NoSpec) = is_key words.Void s.kind
is_void _ = false

-- a parameter that is the one word `void`
abbrev pub is_bare_void : SpecTrees → Symbols → SuffixTrees → Bool
is_bare_void s [] NoSuffix = is_void s
is_bare_void s _ _ = false

-- The trees of the grammar. An operator between two operands is a symbol without bytes: of a comma a
-- list keeps the line alone.
abbrev mutual
  pub IsTree : Tree → Type 0
  IsTree (Leaf s) = is_leaf s.kind ≡ true
  IsTree (Group o e c) = IsTree e
  IsTree (Behind e p) = IsTree e × IsPost p × (is_postfix e ≡ true)
  IsTree (Before p e) = IsPre p × IsTree e × (rank e ≡ 0) × (may_follow p e ≡ true)
  IsTree (Measure k o t c) = IsType t
  IsTree (Join s a b) = IsTree a × IsTree b × (0 < level_of s.kind) × (rank a ≤ level_of s.kind) × (rank b < level_of s.kind) × (s.bytes ≡ [])
  IsTree (Choose c q t k e) = IsTree c × IsTree t × IsTree e × (rank c ≤ 10) × (rank e ≤ 11)
  IsTree (Assign a s b) = IsTree a × IsTree b × (is_assignment s.kind ≡ true) × (is_unary a ≡ true) × (rank b ≤ 12)

  pub IsPost : Post → Type 0
  IsPost (Index o e c) = IsTree e
  IsPost (CallBare o c) = Unit {0}
  IsPost (Call o e c) = IsTree e
  IsPost (Field s n) = (is_field s.kind ≡ true) × (is_name n.kind ≡ true)
  IsPost (Step s) = is_step s.kind ≡ true

  pub IsPre : Pre → Type 0
  IsPre (Sign s) = is_prefix s.kind ≡ true
  IsPre (Sizeof k) = Unit {0}
  IsPre (Cast o t c) = IsType t

  pub IsType : TypeTree → Type 0
  IsType (TypeOf s ps) = AreSpecs s × (are_pointers ps ≡ true)

  pub AreSpecs : SpecTrees → Type 0
  AreSpecs (Specified s ss) = IsSpec s × AreMoreSpecs ss

  pub AreMoreSpecs : MoreSpecs → Type 0
  AreMoreSpecs NoSpec = Unit {0}
  AreMoreSpecs (AndSpec s ss) = IsSpec s × AreMoreSpecs ss

  pub IsSpec : SpecTree → Type 0
  IsSpec (OneWord s) = is_spec_word s.kind ≡ true
  IsSpec (Tagged k n) = is_name n.kind ≡ true
  IsSpec (Body k tag o m ms c) = (is_tag tag ≡ true) × IsMember m × AreMoreMembers ms
  IsSpec (NamedType s) = is_type_name s.kind ≡ true
  IsSpec (EnumTagged k n) = is_name n.kind ≡ true
  IsSpec (EnumBody k tag o e es last c) = (is_tag tag ≡ true) × IsEnumerator e × AreMoreEnumerators es

  pub AreMoreEnumerators : MoreEnumerators → Type 0
  AreMoreEnumerators NoEnumerator = Unit {0}
  AreMoreEnumerators (AndEnumerator c e es) = IsEnumerator e × AreMoreEnumerators es

  pub IsEnumerator : EnumeratorTree → Type 0
  IsEnumerator (Bare n) = is_name n.kind ≡ true
  IsEnumerator (Valued n q e) = (is_name n.kind ≡ true) × IsTree e × (rank e ≤ 11)

  pub AreMoreMembers : MoreMembers → Type 0
  AreMoreMembers NoMember = Unit {0}
  AreMoreMembers (AndMember m ms) = IsMember m × AreMoreMembers ms

  pub IsMember : MemberTree → Type 0
  IsMember (Members s d ds c) = AreSpecs s × IsDeclarator d × AreMoreDeclarators ds

  pub AreMoreDeclarators : MoreDeclarators → Type 0
  AreMoreDeclarators NoDeclarator = Unit {0}
  AreMoreDeclarators (AndDeclarator c d ds) = IsDeclarator d × AreMoreDeclarators ds

  pub IsDeclarator : DeclaratorTree → Type 0
  IsDeclarator (Declares ps n ss) = (are_pointers ps ≡ true) × (is_name n.kind ≡ true) × AreSuffixes ss

  pub AreSuffixes : SuffixTrees → Type 0
  AreSuffixes NoSuffix = Unit {0}
  AreSuffixes (AndSuffix s ss) = IsSuffix s × AreSuffixes ss

  pub IsSuffix : SuffixTree → Type 0
  IsSuffix (Unsized o c) = Unit {0}
  IsSuffix (Sized o e c) = IsTree e × (rank e ≤ 11)
  IsSuffix (Empty o c) = Unit {0}
  IsSuffix (VoidOnly o v c) = Unit {0}
  IsSuffix (Params o p ps c) = IsParam p × AreMoreParams ps

  pub AreMoreParams : MoreParams → Type 0
  AreMoreParams NoParam = Unit {0}
  AreMoreParams (AndParam c p ps) = IsParam p × AreMoreParams ps

  pub IsParam : ParamTree → Type 0
  IsParam (Named s d) = AreSpecs s × IsDeclarator d
  IsParam (Unnamed s ps ss) = AreSpecs s × (are_pointers ps ≡ true) × AreSuffixes ss × (is_bare_void s ps ss ≡ false)
