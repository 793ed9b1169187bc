-- The tokens that specifiers and declarators begin with, and that each has one.
use Rattle.std.proofs.Common.{◌≡◌, ◌<◌, Bool, true, false, if◌then◌else◌, [], ◌∷◌, ◌++◌, length, refl, ap, ◌∙◌, append_assoc, length-append, arith}
use Rattle.c_token.specs.declared.token.TokKind.{TokKind}
use Rattle.c_token.specs.declared.token.TokKind.TheVariants as kinds
use Rattle.c_token.specs.declared.token.Keyword.{Keyword}
use Rattle.c_token.specs.declared.token.Keyword.TheVariants as words
use Rattle.c_token.specs.declared.token.Punct.TheVariants as marks
use Rattle.c_nodes.specs.Words.{Symbols, punct}
use Rattle.c_nodes.specs.Kinds.{is_punct, is_name, is_type_name, is_spec, is_spec_word, is_specifying, begins_spec}
use Rattle.c_nodes.specs.Trees.{TypeTree, TypeOf, SpecTrees, Specified, SpecTree, OneWord, Tagged, Body, NamedType, EnumTagged, EnumBody, EnumeratorTree, Bare, Valued, MemberTree, Members, DeclaratorTree, Declares, SuffixTree, Unsized, Sized, Empty, VoidOnly, Params, ParamTree, Named, Unnamed, spelled_type, spelled_specs, spelled_more_specs, spelled_spec, spelled_member, spelled_more_declarators, spelled_declarator, spelled_suffixes, spelled_suffix, spelled_param, AreSpecs, IsSpec, IsMember, IsDeclarator, IsParam, spelled_enumerator, IsEnumerator}
use Rattle.parse_expr.specs.Reader.{front_is}
use Rattle.parse_expr.proofs.Knots.{goes_on_suffixes}
use Rattle.parse_expr.proofs.Collects.{and_both}

-- ---- tokens that pass a test, and what other tests say of them

-- a token that begins a specifier is a keyword or a marked name
pub spec_token : (k : TokKind) (test : TokKind → Bool) → ((w : Keyword) → test (kinds.Keyword w) ≡ false) → test kinds.TypeName ≡ false → is_spec k ≡ true → test k ≡ false
spec_token (kinds.Keyword w) test none marked h = none w
spec_token kinds.TypeName test none marked h = marked
spec_token _ test none marked h = absurd cc

pub name_token : (k : TokKind) → is_name k ≡ true → k ≡ kinds.Name
name_token kinds.Name h = refl
name_token _ h = absurd cc

pub star_token : (k : TokKind) → is_punct marks.Star k ≡ true → k ≡ kinds.Punct marks.Star
star_token (kinds.Punct marks.Star) h = refl
star_token _ h = absurd cc

-- `*` or a name
abbrev pub begins_declarator : TokKind → Bool
begins_declarator k = if is_punct marks.Star k then true else is_name k

pub declarator_token : (k : TokKind) (test : TokKind → Bool) → test (kinds.Punct marks.Star) ≡ false → test kinds.Name ≡ false → begins_declarator k ≡ true → test k ≡ false
declarator_token (kinds.Punct marks.Star) test star name h = star
declarator_token kinds.Name test star name h = name
declarator_token _ test star name h = absurd cc

pub suffix_token : (k : TokKind) (test : TokKind → Bool) → test (kinds.Punct marks.LeftBracket) ≡ false → test (kinds.Punct marks.LeftParenthesis) ≡ false → goes_on_suffixes k ≡ true → test k ≡ false
suffix_token (kinds.Punct marks.LeftBracket) test bracket parenthesis h = bracket
suffix_token (kinds.Punct marks.LeftParenthesis) test bracket parenthesis h = parenthesis
suffix_token _ test bracket parenthesis h = absurd cc

-- what stands behind a parameter
abbrev pub ends_param : TokKind → Bool
ends_param k = if is_punct marks.Comma k then true else is_punct marks.RightParenthesis k

pub param_end : (k : TokKind) (test : TokKind → Bool) → test (kinds.Punct marks.Comma) ≡ false → test (kinds.Punct marks.RightParenthesis) ≡ false → ends_param k ≡ true → test k ≡ false
param_end (kinds.Punct marks.Comma) test comma close h = comma
param_end (kinds.Punct marks.RightParenthesis) test comma close h = close
param_end _ test comma close h = absurd cc

word_begins : (w : Keyword) → is_specifying w ≡ true → begins_spec w ≡ true
word_begins words.Struct h = refl
word_begins words.Enum h = refl
word_begins w h = h

spec_word_begins : (k : TokKind) → is_spec_word k ≡ true → is_spec k ≡ true
spec_word_begins (kinds.Keyword w) h = word_begins w h
spec_word_begins _ h = absurd cc

type_name_begins : (k : TokKind) → is_type_name k ≡ true → is_spec k ≡ true
type_name_begins kinds.TypeName h = refl
type_name_begins _ h = absurd cc

-- a marked name is no keyword
pub type_name_token : (k : TokKind) (test : TokKind → Bool) → test kinds.TypeName ≡ false → is_type_name k ≡ true → test k ≡ false
type_name_token kinds.TypeName test none h = none
type_name_token _ test none h = absurd cc

-- ---- specifiers

pub spec_starts : (s : SpecTree) → IsSpec s → (rest : Symbols) → front_is is_spec (spelled_spec s ++ rest) ≡ true
spec_starts (OneWord s) is rest = spec_word_begins s.kind is
spec_starts (Tagged k n) is rest = refl
spec_starts (Body k tag o m ms c) is rest = refl
spec_starts (NamedType s) is rest = type_name_begins s.kind is
spec_starts (EnumTagged k n) is rest = refl
spec_starts (EnumBody k tag o e es last c) is rest = refl

pub specs_start : (s : SpecTrees) → AreSpecs s → (rest : Symbols) → front_is is_spec (spelled_specs s ++ rest) ≡ true
specs_start (Specified s ss) is rest = ap (front_is is_spec) (append_assoc (spelled_spec s) (spelled_more_specs ss) rest) ∙ spec_starts s is.0 (spelled_more_specs ss ++ rest)

pub spec_has_token : (s : SpecTree) → 0 < length (spelled_spec s)
spec_has_token (OneWord s) = omega arith
spec_has_token (Tagged k n) = omega arith
spec_has_token (Body k tag o m ms c) = omega arith
spec_has_token (NamedType s) = omega arith
spec_has_token (EnumTagged k n) = omega arith
spec_has_token (EnumBody k tag o e es last c) = omega arith

pub specs_have_token : (s : SpecTrees) → 0 < length (spelled_specs s)
specs_have_token (Specified s ss) = omega (arith, spec_has_token s, length-append (spelled_spec s) (spelled_more_specs ss))

pub type_has_token : (t : TypeTree) → 0 < length (spelled_type t)
type_has_token (TypeOf s ps) = omega (arith, specs_have_token s, length-append (spelled_specs s) ps)

pub member_starts : (m : MemberTree) → IsMember m → (rest : Symbols) → front_is is_spec (spelled_member m ++ rest) ≡ true
member_starts (Members s d ds c) is rest =
    let behind = spelled_declarator d ++ (spelled_more_declarators ds ++ punct marks.Semicolon c ∷ []) in
    ap (front_is is_spec) (append_assoc (spelled_specs s) behind rest) ∙ specs_start s is.0 (behind ++ rest)

pub member_has_token : (m : MemberTree) → 0 < length (spelled_member m)
member_has_token (Members s d ds c) =
    let behind = spelled_declarator d ++ (spelled_more_declarators ds ++ punct marks.Semicolon c ∷ []) in
    omega (arith, specs_have_token s, length-append (spelled_specs s) behind)

-- ---- declarators

pub declarator_starts : (d : DeclaratorTree) → IsDeclarator d → (rest : Symbols) → front_is begins_declarator (spelled_declarator d ++ rest) ≡ true
declarator_starts (Declares [] n ss) is rest = ap begins_declarator (name_token n.kind is.1)
declarator_starts (Declares (p ∷ ps) n ss) is rest = ap begins_declarator (star_token p.kind (and_both _ _ is.0).0)

pub suffix_starts : (s : SuffixTree) → (rest : Symbols) → front_is goes_on_suffixes (spelled_suffix s ++ rest) ≡ true
suffix_starts (Unsized o c) rest = refl
suffix_starts (Sized o e c) rest = refl
suffix_starts (Empty o c) rest = refl
suffix_starts (VoidOnly o v c) rest = refl
suffix_starts (Params o p ps c) rest = refl

pub suffix_has_token : (s : SuffixTree) → 0 < length (spelled_suffix s)
suffix_has_token (Unsized o c) = omega arith
suffix_has_token (Sized o e c) = omega arith
suffix_has_token (Empty o c) = omega arith
suffix_has_token (VoidOnly o v c) = omega arith
suffix_has_token (Params o p ps c) = omega arith

pub param_starts : (p : ParamTree) → IsParam p → (rest : Symbols) → front_is is_spec (spelled_param p ++ rest) ≡ true
param_starts (Named s d) is rest = ap (front_is is_spec) (append_assoc (spelled_specs s) (spelled_declarator d) rest) ∙ specs_start s is.0 (spelled_declarator d ++ rest)
param_starts (Unnamed s ps ss) is rest = ap (front_is is_spec) (append_assoc (spelled_specs s) (ps ++ spelled_suffixes ss) rest) ∙ specs_start s is.0 ((ps ++ spelled_suffixes ss) ++ rest)

pub param_has_token : (p : ParamTree) → 0 < length (spelled_param p)
param_has_token (Named s d) = omega (arith, specs_have_token s, length-append (spelled_specs s) (spelled_declarator d))
param_has_token (Unnamed s ps ss) = omega (arith, specs_have_token s, length-append (spelled_specs s) (ps ++ spelled_suffixes ss))

-- ---- enumerators

pub enumerator_starts : (e : EnumeratorTree) → IsEnumerator e → (rest : Symbols) → front_is is_name (spelled_enumerator e ++ rest) ≡ true
enumerator_starts (Bare n) is rest = is
enumerator_starts (Valued n q e) is rest = is.0

pub enumerator_has_token : (e : EnumeratorTree) → 0 < length (spelled_enumerator e)
enumerator_has_token (Bare n) = omega arith
enumerator_has_token (Valued n q e) = omega arith
