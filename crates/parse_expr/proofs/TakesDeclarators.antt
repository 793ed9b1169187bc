-- What is read as specifiers, as a declarator, as members or as parameters is a tree of its kind.
use Rattle.std.proofs.Common.{◌≡◌, ℕ, true, List, [], ◌∷◌, ◌++◌, Some, refl, sym, ap, subst, ◌∙◌, append_assoc}
use Rattle.c_token.specs.declared.token.Keyword.TheVariants as words
use Rattle.c_token.specs.declared.token.Punct.TheVariants as marks
use Rattle.c_nodes.specs.Words.{Symbols, key, punct, spelled_comma}
use Rattle.c_nodes.specs.Kinds.{is_punct, is_key, is_name, is_type_name, is_spec_word}
use Rattle.c_nodes.specs.Trees.{TypeOf, SpecTrees, Specified, SpecTree, OneWord, Tagged, Body, NamedType, EnumTagged, EnumBody, spelled_enumerator, spelled_more_enumerators, MemberTree, Members, DeclaratorTree, Declares, SuffixTree, Unsized, Sized, Empty, VoidOnly, Params, ParamTree, Named, Unnamed, is_bare_void, are_pointers, is_tag, spelled_type, spelled_specs, spelled_more_specs, spelled_spec, spelled_more_members, spelled_member, spelled_more_declarators, spelled_declarator, spelled_suffixes, spelled_suffix, spelled_more_params, spelled_param, IsType, AreSpecs, AreMoreSpecs, IsSpec, AreMoreMembers, IsMember, AreMoreDeclarators, IsDeclarator, AreSuffixes, IsSuffix, AreMoreParams, IsParam}
use Rattle.c_nodes.specs.Lists.{more_specs, more_members, more_declarators, suffixes_of, more_params, more_enumerators}
use Rattle.parse_expr.specs.Reader.{◌>>=◌, Reader, front_is, symbol_at, punct_at, comma_at, specs_come, all_that, pointers_at}
use Rattle.parse_expr.specs.Reading.{Inner, body_by, struct_on, struct_by, enum_body_by, enum_on, enum_by, spec_by, next_spec_by, specs_by, type_name_by, length_by, array_on, array_by, void_at, list_by, void_on, function_on, function_by, suffix_by, named_by, declarator_by, next_declarator_by, member_by, next_member_by, members_by, unnamed_by, named_param_by, param_behind, param_by, next_param_by, params_by}
use Rattle.parse_expr.proofs.Knots.{ArePlain, Takes, Sound, SoundStep, SoundInner, spelled_members, AreMembers, spelled_params, AreParams}
use Rattle.parse_expr.proofs.Plain.{punct_is, key_is}
use Rattle.parse_expr.proofs.TakesLists.{Splits, join, splits_as, part, one, taken_as, take, bind_ok, sound_then, cases_if, cases_option, got_ok, symbol_takes, punct_takes, comma_takes, key_takes, Nothing, Each, spelled_all, all_take, pointers_take}

-- ---- specifiers

-- a structure, behind its keyword and its tag
body_takes : (inner : Inner) → SoundInner inner → (k : ℕ) (tag toks : Symbols) → is_tag tag ≡ true → ArePlain toks → (x : SpecTree × Symbols) → body_by inner k tag toks ≡ Some x → Takes spelled_spec IsSpec (key words.Struct k ∷ (tag ++ toks)) x
unfolding body_by
body_takes inner sound k tag toks is plain x e =
    let o = sound_then (punct_takes marks.LeftBrace) toks plain _ x e in
    let m = sound_then sound.members o.read.1 o.takes.plain _ x o.on in
    let c = sound_then (punct_takes marks.RightBrace) m.read.1 m.takes.plain _ x m.on in
    let more = spelled_more_members (more_members m.read.0.1) in
    let behind : Splits toks (punct marks.LeftBrace o.read.0 ∷ (spelled_member m.read.0.0 ++ (more ++ punct marks.RightBrace c.read.0 ∷ []))) c.read.1
    = splits_as (join (part o.takes) (join (part m.takes) (part c.takes))) (ap (λ (l : Symbols). punct marks.LeftBrace o.read.0 ∷ l) (sym (append_assoc (spelled_member m.read.0.0) more (punct marks.RightBrace c.read.0 ∷ [])))) in
    take (Body k tag o.read.0 m.read.0.0 (more_members m.read.0.1) c.read.0) (join (one (key words.Struct k) (tag ++ toks)) (join (record { is = refl }) behind)) (is, m.takes.tree.0, m.takes.tree.1) c.takes.plain c.on

struct_takes : (inner : Inner) → SoundInner inner → (k : ℕ) (toks : Symbols) → ArePlain toks → (x : SpecTree × Symbols) → struct_by inner k toks ≡ Some x → Takes spelled_spec IsSpec (key words.Struct k ∷ toks) x
unfolding struct_by
struct_takes inner sound k toks plain x e = cases_option (symbol_at is_name toks) (struct_on inner k toks) (Some x)
    (λ z is e2.
    let n = symbol_takes is_name toks plain z is in
    cases_if (front_is (is_punct marks.LeftBrace) z.1) _ _ (Some x)
    (λ brace e3. subst (λ (l : Symbols). Takes spelled_spec IsSpec (key words.Struct k ∷ l) x) (sym n.parts) (body_takes inner sound k (z.0 ∷ []) z.1 n.tree n.plain x e3))
    (λ brace e3. take (Tagged k z.0) (join (one (key words.Struct k) toks) (part n)) n.tree n.plain e3) e2)
    (λ is e2. body_takes inner sound k [] toks refl plain x e2) e

-- an enumeration, behind its keyword and its tag
enum_body_takes : (inner : Inner) → SoundInner inner → (k : ℕ) (tag toks : Symbols) → is_tag tag ≡ true → ArePlain toks → (x : SpecTree × Symbols) → enum_body_by inner k tag toks ≡ Some x → Takes spelled_spec IsSpec (key words.Enum k ∷ (tag ++ toks)) x
unfolding enum_body_by
enum_body_takes inner sound k tag toks is plain x e =
    let o = sound_then (punct_takes marks.LeftBrace) toks plain _ x e in
    let m = sound_then sound.enumerators o.read.1 o.takes.plain _ x o.on in
    let last = comma_takes m.read.1 m.takes.plain in
    let c = sound_then (punct_takes marks.RightBrace) (comma_at m.read.1).1 last.plain _ x m.on in
    let more = spelled_more_enumerators (more_enumerators m.read.0.1) in
    let end = spelled_comma (comma_at m.read.1).0 ++ punct marks.RightBrace c.read.0 ∷ [] in
    let behind : Splits toks (punct marks.LeftBrace o.read.0 ∷ (spelled_enumerator m.read.0.0 ++ (more ++ end))) c.read.1
    = splits_as (join (part o.takes) (join (part m.takes) (join (part last) (part c.takes)))) (ap (λ (l : Symbols). punct marks.LeftBrace o.read.0 ∷ l) (sym (append_assoc (spelled_enumerator m.read.0.0) more end))) in
    take (EnumBody k tag o.read.0 m.read.0.0 (more_enumerators m.read.0.1) (comma_at m.read.1).0 c.read.0) (join (one (key words.Enum k) (tag ++ toks)) (join (record { is = refl }) behind)) (is, m.takes.tree.0, m.takes.tree.1) c.takes.plain c.on

enum_takes : (inner : Inner) → SoundInner inner → (k : ℕ) (toks : Symbols) → ArePlain toks → (x : SpecTree × Symbols) → enum_by inner k toks ≡ Some x → Takes spelled_spec IsSpec (key words.Enum k ∷ toks) x
unfolding enum_by
enum_takes inner sound k toks plain x e = cases_option (symbol_at is_name toks) (enum_on inner k toks) (Some x)
    (λ z is e2.
    let n = symbol_takes is_name toks plain z is in
    cases_if (front_is (is_punct marks.LeftBrace) z.1) _ _ (Some x)
    (λ brace e3. subst (λ (l : Symbols). Takes spelled_spec IsSpec (key words.Enum k ∷ l) x) (sym n.parts) (enum_body_takes inner sound k (z.0 ∷ []) z.1 n.tree n.plain x e3))
    (λ brace e3. take (EnumTagged k z.0) (join (one (key words.Enum k) toks) (part n)) n.tree n.plain e3) e2)
    (λ is e2. enum_body_takes inner sound k [] toks refl plain x e2) e

spec_takes : (inner : Inner) → SoundInner inner → Sound spelled_spec IsSpec (spec_by inner)
unfolding spec_by
spec_takes inner sound [] plain x e = absurd cc
spec_takes inner sound (s ∷ rest) plain x e = cases_if (is_spec_word s.kind) _ _ (Some x)
    (λ is e2. take (OneWord s) (one s rest) is plain.1 e2)
    (λ is e2. cases_if (is_type_name s.kind) _ _ (Some x)
    (λ is e3. take (NamedType s) (one s rest) is plain.1 e3)
    (λ is e3. cases_if (is_key words.Struct s.kind) _ _ (Some x)
    (λ is e4. taken_as s (key words.Struct s.line) rest (key_is words.Struct s plain.0 is) (struct_takes inner sound s.line rest plain.1 x e4))
    (λ is e4. cases_if (is_key words.Enum s.kind) _ _ (Some x)
    (λ is e5. taken_as s (key words.Enum s.line) rest (key_is words.Enum s plain.0 is) (enum_takes inner sound s.line rest plain.1 x e5))
    (λ is e5. absurd cc) e4) e3) e2) e

next_spec_takes : (inner : Inner) → SoundInner inner → SoundStep spelled_spec IsSpec (next_spec_by inner)
unfolding next_spec_by
next_spec_takes inner sound toks plain x e = cases_if (specs_come toks) _ _ (Some (Some x))
    (λ is e2. spec_takes inner sound toks plain x (got_ok (spec_by inner toks) x e2))
    (λ is e2. absurd cc) e

more_specs_spelled : (ss : List SpecTree) → spelled_more_specs (more_specs ss) ≡ spelled_all spelled_spec ss
more_specs_spelled [] = refl
more_specs_spelled (s ∷ ss) = ap (λ (l : Symbols). spelled_spec s ++ l) (more_specs_spelled ss)

more_specs_are : (ss : List SpecTree) → Each IsSpec ss → AreMoreSpecs (more_specs ss)
more_specs_are [] each = tt
more_specs_are (s ∷ ss) each = (each.0, more_specs_are ss each.1)

pub specs_by_take : (inner : Inner) → SoundInner inner → Sound spelled_specs AreSpecs (specs_by inner)
unfolding specs_by
specs_by_take inner sound toks plain x e =
    let s = sound_then (spec_takes inner sound) toks plain _ x e in
    let ss = sound_then (all_take spelled_spec IsSpec (next_spec_by inner) (next_spec_takes inner sound)) s.read.1 s.takes.plain _ x s.on in
    take (Specified s.read.0 (more_specs ss.read.0)) (join (part s.takes) (splits_as (part ss.takes) (more_specs_spelled ss.read.0))) (s.takes.tree, more_specs_are ss.read.0 ss.takes.tree) ss.takes.plain ss.on

pub type_name_by_takes : (inner : Inner) → SoundInner inner → Sound spelled_type IsType (type_name_by inner)
unfolding type_name_by
type_name_by_takes inner sound toks plain x e =
    let s = sound_then (specs_by_take inner sound) toks plain _ x e in
    let ps = pointers_take s.read.1 s.takes.plain in
    take (TypeOf s.read.0 (pointers_at s.read.1).0) (join (part s.takes) (part ps)) (s.takes.tree, ps.tree) ps.plain s.on

-- ---- suffixes

length_takes : (inner : Inner) → SoundInner inner → (o : ℕ) (toks : Symbols) → ArePlain toks → (x : SuffixTree × Symbols) → length_by inner o toks ≡ Some x → Takes spelled_suffix IsSuffix (punct marks.LeftBracket o ∷ toks) x
unfolding length_by
length_takes inner sound o toks plain x e =
    let m = sound_then sound.size toks plain _ x e in
    let c = sound_then (punct_takes marks.RightBracket) m.read.1 m.takes.plain _ x m.on in
    take (Sized o m.read.0 c.read.0) (join (one (punct marks.LeftBracket o) toks) (join (part m.takes) (part c.takes))) m.takes.tree c.takes.plain c.on

array_takes : (inner : Inner) → SoundInner inner → (o : ℕ) (toks : Symbols) → ArePlain toks → (x : SuffixTree × Symbols) → array_by inner o toks ≡ Some x → Takes spelled_suffix IsSuffix (punct marks.LeftBracket o ∷ toks) x
unfolding array_by
array_takes inner sound o toks plain x e = cases_option (punct_at marks.RightBracket toks) (array_on inner o toks) (Some x)
    (λ z is e2.
    let c = punct_takes marks.RightBracket toks plain z is in
    take (Unsized o z.0) (join (one (punct marks.LeftBracket o) toks) (part c)) tt c.plain e2)
    (λ is e2. length_takes inner sound o toks plain x e2) e

void_takes : Sound (λ v. key words.Void v.0 ∷ punct marks.RightParenthesis v.1 ∷ []) Nothing void_at
unfolding void_at
void_takes toks plain x e =
    let v = sound_then (key_takes words.Void) toks plain _ x e in
    let c = sound_then (punct_takes marks.RightParenthesis) v.read.1 v.takes.plain _ x v.on in
    take (v.read.0, c.read.0) (join (part v.takes) (part c.takes)) tt c.takes.plain c.on

list_takes : (inner : Inner) → SoundInner inner → (o : ℕ) (toks : Symbols) → ArePlain toks → (x : SuffixTree × Symbols) → list_by inner o toks ≡ Some x → Takes spelled_suffix IsSuffix (punct marks.LeftParenthesis o ∷ toks) x
unfolding list_by
list_takes inner sound o toks plain x e =
    let m = sound_then sound.params toks plain _ x e in
    let c = sound_then (punct_takes marks.RightParenthesis) m.read.1 m.takes.plain _ x m.on in
    let more = spelled_more_params (more_params m.read.0.1) in
    let behind : Splits toks (spelled_param m.read.0.0 ++ (more ++ punct marks.RightParenthesis c.read.0 ∷ [])) c.read.1
    = splits_as (join (part m.takes) (part c.takes)) (sym (append_assoc (spelled_param m.read.0.0) more (punct marks.RightParenthesis c.read.0 ∷ []))) in
    take (Params o m.read.0.0 (more_params m.read.0.1) c.read.0) (join (one (punct marks.LeftParenthesis o) toks) behind) (m.takes.tree.0, m.takes.tree.1) c.takes.plain c.on

function_takes : (inner : Inner) → SoundInner inner → (o : ℕ) (toks : Symbols) → ArePlain toks → (x : SuffixTree × Symbols) → function_by inner o toks ≡ Some x → Takes spelled_suffix IsSuffix (punct marks.LeftParenthesis o ∷ toks) x
unfolding function_by
function_takes inner sound o toks plain x e = cases_option (punct_at marks.RightParenthesis toks) (function_on inner o toks) (Some x)
    (λ z is e2.
    let c = punct_takes marks.RightParenthesis toks plain z is in
    take (Empty o z.0) (join (one (punct marks.LeftParenthesis o) toks) (part c)) tt c.plain e2)
    (λ is e2. cases_option (void_at toks) (void_on inner o toks) (Some x)
    (λ v is e3.
    let t = void_takes toks plain v is in
    take (VoidOnly o v.0.0 v.0.1) (join (one (punct marks.LeftParenthesis o) toks) (part t)) tt t.plain e3)
    (λ is e3. list_takes inner sound o toks plain x e3) e2) e

suffix_takes : (inner : Inner) → SoundInner inner → SoundStep spelled_suffix IsSuffix (suffix_by inner)
unfolding suffix_by
suffix_takes inner sound [] plain x e = absurd cc
suffix_takes inner sound (s ∷ rest) plain x e = cases_if (is_punct marks.LeftBracket s.kind) _ _ (Some (Some x))
    (λ is e2. taken_as s (punct marks.LeftBracket s.line) rest (punct_is marks.LeftBracket s plain.0 is) (array_takes inner sound s.line rest plain.1 x (got_ok (array_by inner s.line rest) x e2)))
    (λ is e2. cases_if (is_punct marks.LeftParenthesis s.kind) _ _ (Some (Some x))
    (λ is e3. taken_as s (punct marks.LeftParenthesis s.line) rest (punct_is marks.LeftParenthesis s plain.0 is) (function_takes inner sound s.line rest plain.1 x (got_ok (function_by inner s.line rest) x e3)))
    (λ is e3. absurd cc) e2) e

suffixes_spelled : (ss : List SuffixTree) → spelled_suffixes (suffixes_of ss) ≡ spelled_all spelled_suffix ss
suffixes_spelled [] = refl
suffixes_spelled (s ∷ ss) = ap (λ (l : Symbols). spelled_suffix s ++ l) (suffixes_spelled ss)

suffixes_are : (ss : List SuffixTree) → Each IsSuffix ss → AreSuffixes (suffixes_of ss)
suffixes_are [] each = tt
suffixes_are (s ∷ ss) each = (each.0, suffixes_are ss each.1)

-- all suffixes, as the tree has them
pub suffixes_take : (inner : Inner) → SoundInner inner → Sound (λ ss. spelled_suffixes (suffixes_of ss)) (λ ss. AreSuffixes (suffixes_of ss)) (all_that (suffix_by inner))
suffixes_take inner sound toks plain x e =
    let t = all_take spelled_suffix IsSuffix (suffix_by inner) (suffix_takes inner sound) toks plain x e in
    record { parts = t.parts ∙ ap (λ (l : Symbols). l ++ x.1) (sym (suffixes_spelled x.0)); tree = suffixes_are x.0 t.tree; plain = t.plain }

-- ---- declarators

-- a name and suffixes, behind pointers
pub named_takes : (inner : Inner) → SoundInner inner → (ps toks : Symbols) → are_pointers ps ≡ true → ArePlain toks → (x : DeclaratorTree × Symbols) → named_by inner ps toks ≡ Some x → Takes spelled_declarator IsDeclarator (ps ++ toks) x
unfolding named_by
named_takes inner sound ps toks are plain x e =
    let n = sound_then (symbol_takes is_name) toks plain _ x e in
    let ss = sound_then (suffixes_take inner sound) n.read.1 n.takes.plain _ x n.on in
    take (Declares ps n.read.0 (suffixes_of ss.read.0)) (join (record { is = refl }) (join (part n.takes) (part ss.takes))) (are, n.takes.tree, ss.takes.tree) ss.takes.plain ss.on

pub declarator_by_takes : (inner : Inner) → SoundInner inner → Sound spelled_declarator IsDeclarator (declarator_by inner)
unfolding declarator_by
declarator_by_takes inner sound toks plain x e =
    let ps = pointers_take toks plain in
    subst (λ (l : Symbols). Takes spelled_declarator IsDeclarator l x) (sym ps.parts) (named_takes inner sound (pointers_at toks).0 (pointers_at toks).1 ps.tree ps.plain x e)

abbrev pub spelled_next_declarator : ℕ × DeclaratorTree → Symbols
spelled_next_declarator d = punct marks.Comma d.0 ∷ spelled_declarator d.1

pub next_declarator_takes : (inner : Inner) → SoundInner inner → SoundStep spelled_next_declarator (λ d. IsDeclarator d.1) (next_declarator_by inner)
unfolding next_declarator_by
next_declarator_takes inner sound [] plain x e = absurd cc
next_declarator_takes inner sound (s ∷ rest) plain x e = cases_if (is_punct marks.Comma s.kind) _ _ (Some (Some x))
    (λ is e2.
    let d = sound_then (declarator_by_takes inner sound) rest plain.1 _ x (got_ok (declarator_by inner rest >>= λ d. Some ((s.line, d.0), d.1)) x e2) in
    taken_as s (punct marks.Comma s.line) rest (punct_is marks.Comma s plain.0 is)
    (take (s.line, d.read.0) (join (one (punct marks.Comma s.line) rest) (part d.takes)) d.takes.tree d.takes.plain d.on))
    (λ is e2. absurd cc) e

pub more_declarators_spelled : (ds : List (ℕ × DeclaratorTree)) → spelled_more_declarators (more_declarators ds) ≡ spelled_all spelled_next_declarator ds
more_declarators_spelled [] = refl
more_declarators_spelled (d ∷ ds) = ap (λ (l : Symbols). spelled_next_declarator d ++ l) (more_declarators_spelled ds)

pub more_declarators_are : (ds : List (ℕ × DeclaratorTree)) → Each (λ d. IsDeclarator d.1) ds → AreMoreDeclarators (more_declarators ds)
more_declarators_are [] each = tt
more_declarators_are (d ∷ ds) each = (each.0, more_declarators_are ds each.1)

-- ---- members

member_takes : (inner : Inner) → SoundInner inner → Sound spelled_member IsMember (member_by inner)
unfolding member_by
member_takes inner sound toks plain x e =
    let s = sound_then (specs_by_take inner sound) toks plain _ x e in
    let d = sound_then (declarator_by_takes inner sound) s.read.1 s.takes.plain _ x s.on in
    let ds = sound_then (all_take spelled_next_declarator (λ d. IsDeclarator d.1) (next_declarator_by inner) (next_declarator_takes inner sound)) d.read.1 d.takes.plain _ x d.on in
    let c = sound_then (punct_takes marks.Semicolon) ds.read.1 ds.takes.plain _ x ds.on in
    take (Members s.read.0 d.read.0 (more_declarators ds.read.0) c.read.0) (join (part s.takes) (join (part d.takes) (join (splits_as (part ds.takes) (more_declarators_spelled ds.read.0)) (part c.takes)))) (s.takes.tree, d.takes.tree, more_declarators_are ds.read.0 ds.takes.tree) c.takes.plain c.on

next_member_takes : (inner : Inner) → SoundInner inner → SoundStep spelled_member IsMember (next_member_by inner)
unfolding next_member_by
next_member_takes inner sound toks plain x e = cases_if (specs_come toks) _ _ (Some (Some x))
    (λ is e2. member_takes inner sound toks plain x (got_ok (member_by inner toks) x e2))
    (λ is e2. absurd cc) e

more_members_spelled : (ms : List MemberTree) → spelled_more_members (more_members ms) ≡ spelled_all spelled_member ms
more_members_spelled [] = refl
more_members_spelled (m ∷ ms) = ap (λ (l : Symbols). spelled_member m ++ l) (more_members_spelled ms)

more_members_are : (ms : List MemberTree) → Each IsMember ms → AreMoreMembers (more_members ms)
more_members_are [] each = tt
more_members_are (m ∷ ms) each = (each.0, more_members_are ms each.1)

pub members_by_take : (inner : Inner) → SoundInner inner → Sound spelled_members AreMembers (members_by inner)
unfolding members_by
members_by_take inner sound toks plain x e =
    let m = sound_then (member_takes inner sound) toks plain _ x e in
    let ms = sound_then (all_take spelled_member IsMember (next_member_by inner) (next_member_takes inner sound)) m.read.1 m.takes.plain _ x m.on in
    take (m.read.0, ms.read.0) (join (part m.takes) (splits_as (part ms.takes) (more_members_spelled ms.read.0))) (m.takes.tree, more_members_are ms.read.0 ms.takes.tree) ms.takes.plain ms.on

-- ---- parameters

-- a parameter behind its specifiers and its pointers
abbrev SoundParam : SpecTrees → Symbols → Reader ParamTree → Type 0
SoundParam s ps reader = (toks : Symbols) → ArePlain toks → (x : ParamTree × Symbols) → reader toks ≡ Some x → Takes spelled_param IsParam (spelled_specs s ++ (ps ++ toks)) x

unnamed_takes : (inner : Inner) → SoundInner inner → (s : SpecTrees) (ps : Symbols) → AreSpecs s → are_pointers ps ≡ true → SoundParam s ps (unnamed_by inner s ps)
unfolding unnamed_by
unnamed_takes inner sound s ps specs are toks plain x e =
    let ss = sound_then (suffixes_take inner sound) toks plain _ x e in
    cases_if (is_bare_void s ps (suffixes_of ss.read.0)) _ _ (Some x)
    (λ is e2. absurd cc)
    (λ is e2. take (Unnamed s ps (suffixes_of ss.read.0)) (join (record { is = refl }) (join (record { is = refl }) (part ss.takes))) (specs, are, ss.takes.tree, is) ss.takes.plain e2) ss.on

named_param_takes : (inner : Inner) → SoundInner inner → (s : SpecTrees) (ps : Symbols) → AreSpecs s → are_pointers ps ≡ true → SoundParam s ps (named_param_by inner s ps)
unfolding named_param_by
named_param_takes inner sound s ps specs are toks plain x e =
    let d = bind_ok (named_by inner ps toks) _ x e in
    let t = named_takes inner sound ps toks are plain d.0 d.1 in
    take (Named s d.0.0) (join (record { is = refl }) (part t)) (specs, t.tree) t.plain d.2

param_behind_takes : (inner : Inner) → SoundInner inner → (s : SpecTrees) (ps : Symbols) → AreSpecs s → are_pointers ps ≡ true → SoundParam s ps (param_behind inner s ps)
unfolding param_behind
param_behind_takes inner sound s ps specs are toks plain x e = cases_if (front_is is_name toks) _ _ (Some x)
    (λ is e2. named_param_takes inner sound s ps specs are toks plain x e2)
    (λ is e2. unnamed_takes inner sound s ps specs are toks plain x e2) e

param_takes : (inner : Inner) → SoundInner inner → Sound spelled_param IsParam (param_by inner)
unfolding param_by
param_takes inner sound toks plain x e =
    let s = sound_then (specs_by_take inner sound) toks plain _ x e in
    let ps = pointers_take s.read.1 s.takes.plain in
    let parts : toks ≡ spelled_specs s.read.0 ++ ((pointers_at s.read.1).0 ++ (pointers_at s.read.1).1) = s.takes.parts ∙ ap (λ (l : Symbols). spelled_specs s.read.0 ++ l) ps.parts in
    subst (λ (l : Symbols). Takes spelled_param IsParam l x) (sym parts) (param_behind_takes inner sound s.read.0 (pointers_at s.read.1).0 s.takes.tree ps.tree (pointers_at s.read.1).1 ps.plain x s.on)

abbrev spelled_next_param : ℕ × ParamTree → Symbols
spelled_next_param p = punct marks.Comma p.0 ∷ spelled_param p.1

next_param_takes : (inner : Inner) → SoundInner inner → SoundStep spelled_next_param (λ p. IsParam p.1) (next_param_by inner)
unfolding next_param_by
next_param_takes inner sound [] plain x e = absurd cc
next_param_takes inner sound (s ∷ rest) plain x e = cases_if (is_punct marks.Comma s.kind) _ _ (Some (Some x))
    (λ is e2.
    let p = sound_then (param_takes inner sound) rest plain.1 _ x (got_ok (param_by inner rest >>= λ p. Some ((s.line, p.0), p.1)) x e2) in
    taken_as s (punct marks.Comma s.line) rest (punct_is marks.Comma s plain.0 is)
    (take (s.line, p.read.0) (join (one (punct marks.Comma s.line) rest) (part p.takes)) p.takes.tree p.takes.plain p.on))
    (λ is e2. absurd cc) e

more_params_spelled : (ps : List (ℕ × ParamTree)) → spelled_more_params (more_params ps) ≡ spelled_all spelled_next_param ps
more_params_spelled [] = refl
more_params_spelled (p ∷ ps) = ap (λ (l : Symbols). spelled_next_param p ++ l) (more_params_spelled ps)

more_params_are : (ps : List (ℕ × ParamTree)) → Each (λ p. IsParam p.1) ps → AreMoreParams (more_params ps)
more_params_are [] each = tt
more_params_are (p ∷ ps) each = (each.0, more_params_are ps each.1)

pub params_by_take : (inner : Inner) → SoundInner inner → Sound spelled_params AreParams (params_by inner)
unfolding params_by
params_by_take inner sound toks plain x e =
    let p = sound_then (param_takes inner sound) toks plain _ x e in
    let ps = sound_then (all_take spelled_next_param (λ p. IsParam p.1) (next_param_by inner) (next_param_takes inner sound)) p.read.1 p.takes.plain _ x p.on in
    take (p.read.0, ps.read.0) (join (part p.takes) (splits_as (part ps.takes) (more_params_spelled ps.read.0))) (p.takes.tree, more_params_are ps.read.0 ps.takes.tree) ps.takes.plain ps.on
