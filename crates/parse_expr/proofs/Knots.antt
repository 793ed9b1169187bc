-- What is shown of readers: that they take trees (Sound), and that they read each tree again (Complete).
use Rattle.std.proofs.Common.{◌≡◌, ℕ, ◌≤◌, Bool, true, false, nat_le, nat_lt, ◌&&◌, if◌then◌else◌, List, [], ◌∷◌, ◌++◌, length, Option, Some}
use Rattle.c_token.specs.declared.token.TokKind.{TokKind}
use Rattle.c_token.specs.declared.token.Keyword.TheVariants as words
use Rattle.c_token.specs.declared.token.Punct.TheVariants as marks
use Rattle.c_nodes.specs.Words.{Symbol, Symbols, punct, spelled_comma}
use Rattle.c_nodes.specs.Kinds.{is_punct, is_key, is_leaf, is_prefix, level_of, is_assignment, is_step, is_field, is_spec, is_qualifier}
use Rattle.c_nodes.specs.Trees.{Tree, MemberTree, ParamTree, spelled, spelled_type, spelled_member, spelled_more_members, spelled_param, spelled_more_params, IsTree, IsType, IsMember, AreMoreMembers, IsParam, AreMoreParams, EnumeratorTree, spelled_enumerator, spelled_more_enumerators, IsEnumerator, AreMoreEnumerators, rank}
use Rattle.c_nodes.specs.Lists.{more_members, more_params, more_enumerators}
use Rattle.parse_expr.specs.Reader.{Reader, Step, front_is, spells}
use Rattle.parse_expr.specs.Reading.{Inner}

-- ---- what is read is a tree, and spells the tokens taken

-- Only names, marked or not, and texts have bytes. So it is with the symbols of any tokens (`symbols_plain`).
abbrev pub IsPlain : Symbol → Type 0
IsPlain s = spells s.kind ≡ false → s.bytes ≡ []

abbrev pub ArePlain : Symbols → Type 0
ArePlain [] = Unit {0}
ArePlain (s ∷ rest) = IsPlain s × ArePlain rest

pub record Takes {A : Type 0} (spell : A → Symbols) (Is : A → Type 0) (toks : Symbols) (x : A × Symbols) : Type 0 where
  pub parts : toks ≡ spell x.0 ++ x.1
  pub tree : Is x.0
  pub plain : ArePlain x.1

abbrev pub Sound : {A : Type 0} → (A → Symbols) → (A → Type 0) → Reader A → Type 0
Sound spell Is reader = (toks : Symbols) → ArePlain toks → (x : _) → reader toks ≡ Some x → Takes spell Is toks x

abbrev pub SoundStep : {A : Type 0} → (A → Symbols) → (A → Type 0) → Step A → Type 0
SoundStep spell Is step = (toks : Symbols) → ArePlain toks → (x : _) → step toks ≡ Some (Some x) → Takes spell Is toks x

-- trees that bind no more loosely than a choice, than an assignment
abbrev pub IsCond : Tree → Type 0
IsCond t = IsTree t × (rank t ≤ 11)

abbrev pub IsAssign : Tree → Type 0
IsAssign t = IsTree t × (rank t ≤ 12)

abbrev pub spelled_members : MemberTree × List MemberTree → Symbols
spelled_members m = spelled_member m.0 ++ spelled_more_members (more_members m.1)

abbrev pub AreMembers : MemberTree × List MemberTree → Type 0
AreMembers m = IsMember m.0 × AreMoreMembers (more_members m.1)

abbrev pub spelled_params : ParamTree × List (ℕ × ParamTree) → Symbols
spelled_params p = spelled_param p.0 ++ spelled_more_params (more_params p.1)

abbrev pub AreParams : ParamTree × List (ℕ × ParamTree) → Type 0
AreParams p = IsParam p.0 × AreMoreParams (more_params p.1)

abbrev pub spelled_enumerators : EnumeratorTree × List (ℕ × EnumeratorTree) → Symbols
spelled_enumerators e = spelled_enumerator e.0 ++ spelled_more_enumerators (more_enumerators e.1)

abbrev pub AreEnumerators : EnumeratorTree × List (ℕ × EnumeratorTree) → Type 0
AreEnumerators e = IsEnumerator e.0 × AreMoreEnumerators (more_enumerators e.1)

pub record SoundInner (inner : Inner) : Type 0 where
  pub expr : Sound spelled IsTree inner.expr
  pub size : Sound spelled IsCond inner.size
  pub type_name : Sound spelled_type IsType inner.type_name
  pub members : Sound spelled_members AreMembers inner.members
  pub params : Sound spelled_params AreParams inner.params
  pub enumerators : Sound spelled_enumerators AreEnumerators inner.enumerators

-- ---- what is spelled is read, where what follows doesn't go on with it

-- tokens that go on with a tree of a rank: postfixes, operators no looser than it
abbrev pub goes_on : ℕ → TokKind → Bool
goes_on k t =
    if is_punct marks.LeftBracket t then true
    else if is_punct marks.LeftParenthesis t then true
    else if is_field t then true
    else if is_step t then true
    else if nat_le 11 k && is_punct marks.Question t then true
    else if nat_le 12 k && is_assignment t then true
    else nat_lt 0 (level_of t) && nat_le (level_of t) k

-- tokens that an expression begins with
abbrev pub begins_expr : TokKind → Bool
begins_expr t = if is_leaf t then true else if is_punct marks.LeftParenthesis t then true else if is_prefix t then true else is_key words.Sizeof t

abbrev pub Stops : ℕ → Symbols → Type 0
Stops k rest = front_is (goes_on k) rest ≡ false

-- tokens that go on with pointers, with specifiers, with suffixes
abbrev pub goes_on_pointers : TokKind → Bool
goes_on_pointers t = if is_punct marks.Star t then true else is_qualifier t

abbrev pub goes_on_specs : TokKind → Bool
goes_on_specs t = if is_punct marks.LeftBrace t then true else is_spec t

abbrev pub goes_on_suffixes : TokKind → Bool
goes_on_suffixes t = if is_punct marks.LeftBracket t then true else is_punct marks.LeftParenthesis t

-- what follows a type's name, the members of a structure, parameters
abbrev pub StopsType : Symbols → Type 0
StopsType rest = (front_is goes_on_specs rest ≡ false) × (front_is goes_on_pointers rest ≡ false)

abbrev pub StopsMembers : Symbols → Type 0
StopsMembers rest = front_is is_spec rest ≡ false

-- behind parameters comes `)`
abbrev pub StopsParams : Symbols → Type 0
StopsParams rest = front_is (is_punct marks.RightParenthesis) rest ≡ true

-- behind enumerators comes `}`, or a comma and `}`
abbrev pub list_end : Option ℕ → ℕ → Symbols → Symbols
list_end last c rest = spelled_comma last ++ punct marks.RightBrace c ∷ rest

pub record EndsList (rest : Symbols) : Type 0 where
  pub last : Option ℕ
  pub close : ℕ
  pub after : Symbols
  pub is : rest ≡ list_end last close after

-- A reader gives each tree of its class, spelled with at most n tokens, and what follows.
abbrev pub Again : {A : Type 0} → ℕ → (A → Symbols) → (A → Type 0) → (Symbols → Type 0) → Reader A → Type 0
Again n spell Is Stop reader = (a : _) → length (spell a) ≤ n → Is a → (rest : Symbols) → Stop rest → reader (spell a ++ rest) ≡ Some (a, rest)

pub record CompleteInner (n : ℕ) (inner : Inner) : Type 0 where
  pub expr : Again n spelled IsTree (Stops 13) inner.expr
  pub size : Again n spelled IsCond (Stops 11) inner.size
  pub type_name : Again n spelled_type IsType StopsType inner.type_name
  pub members : Again n spelled_members AreMembers StopsMembers inner.members
  pub params : Again n spelled_params AreParams StopsParams inner.params
  pub enumerators : Again n spelled_enumerators AreEnumerators EndsList inner.enumerators
