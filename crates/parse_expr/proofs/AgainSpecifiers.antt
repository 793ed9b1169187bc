-- Specifiers and type names are read again from their spelling, where what stands in brackets is.
use Rattle.std.proofs.Common.{◌≡◌, ℕ, zero, suc, ◌≤◌, true, false, List, [], ◌∷◌, ◌++◌, length, Option, Some, None, refl, ap, ◌∙◌, append_assoc, length-append, arith}
use Rattle.c_token.specs.declared.token.Punct.TheVariants as marks
use Rattle.c_nodes.specs.Words.{Symbols, punct, spelled_comma}
use Rattle.c_nodes.specs.Kinds.{is_punct, is_spec, is_spec_word}
use Rattle.c_nodes.specs.Trees.{TypeOf, Specified, MoreSpecs, NoSpec, AndSpec, SpecTree, OneWord, Tagged, Body, NamedType, EnumTagged, EnumBody, EnumeratorTree, MoreEnumerators, NoEnumerator, AndEnumerator, spelled_enumerator, spelled_more_enumerators, IsEnumerator, AreMoreEnumerators, MemberTree, MoreMembers, NoMember, AndMember, spelled_type, spelled_specs, spelled_more_specs, spelled_spec, spelled_member, spelled_more_members, IsType, AreSpecs, AreMoreSpecs, IsSpec, IsMember, AreMoreMembers, are_stars, are_pointers}
use Rattle.c_nodes.specs.Lists.{more_specs, more_members, more_enumerators}
use Rattle.parse_expr.specs.Reader.{Step, front_is, symbol_at, punct_at, comma_at, collect}
use Rattle.parse_expr.specs.Reading.{Inner, body_by, struct_by, enum_body_by, enum_by, spec_by, next_spec_by, specs_by, type_name_by}
use Rattle.parse_expr.proofs.Knots.{goes_on_specs, StopsType, list_end, Again, CompleteInner}
use Rattle.parse_expr.proofs.Collects.{front_not, front_narrow, collect_ends, collect_more, pointers_again, and_both, neither}
use Rattle.parse_expr.proofs.Starts.{spec_token, type_name_token, star_token, spec_starts, spec_has_token}

-- what is read by a step again
abbrev pub AgainStep : {A : Type 0} → ℕ → (A → Symbols) → (A → Type 0) → (Symbols → Type 0) → Step A → Type 0
AgainStep n spell Is Stop step = (a : _) → length (spell a) ≤ n → Is a → (rest : Symbols) → Stop rest → step (spell a ++ rest) ≡ Some (Some (a, rest))

-- ---- the lists of trees as lists

abbrev pub spec_items : MoreSpecs → List SpecTree
spec_items NoSpec = []
spec_items (AndSpec s ss) = s ∷ spec_items ss

pub specs_of_items : (ss : MoreSpecs) → more_specs (spec_items ss) ≡ ss
specs_of_items NoSpec = refl
specs_of_items (AndSpec s ss) = ap (AndSpec s) (specs_of_items ss)

abbrev pub member_items : MoreMembers → List MemberTree
member_items NoMember = []
member_items (AndMember m ms) = m ∷ member_items ms

pub members_of_items : (ms : MoreMembers) → more_members (member_items ms) ≡ ms
members_of_items NoMember = refl
members_of_items (AndMember m ms) = ap (AndMember m) (members_of_items ms)

abbrev pub enumerator_items : MoreEnumerators → List (ℕ × EnumeratorTree)
enumerator_items NoEnumerator = []
enumerator_items (AndEnumerator c e es) = (c, e) ∷ enumerator_items es

pub enumerators_of_items : (es : MoreEnumerators) → more_enumerators (enumerator_items es) ≡ es
enumerators_of_items NoEnumerator = refl
enumerators_of_items (AndEnumerator c e es) = ap (AndEnumerator c e) (enumerators_of_items es)

-- ---- specifiers

-- no `{` behind it
abbrev pub StopsSpec : Symbols → Type 0
StopsSpec rest = front_is (is_punct marks.LeftBrace) rest ≡ false

abbrev pub StopsSpecs : Symbols → Type 0
StopsSpecs rest = front_is goes_on_specs rest ≡ false

-- the members of a structure, and its `}`
body_again : (n : ℕ) (inner : Inner) → CompleteInner n inner → (k : ℕ) (tag : Symbols) (o : ℕ) (m : MemberTree) (ms : MoreMembers) (c : ℕ) → length (spelled_spec (Body k tag o m ms c)) ≤ suc n → IsMember m → AreMoreMembers ms → (rest : Symbols) → body_by inner k tag (punct marks.LeftBrace o ∷ ((spelled_member m ++ (spelled_more_members ms ++ punct marks.RightBrace c ∷ [])) ++ rest)) ≡ Some (Body k tag o m ms c, rest)
unfolding body_by punct_at
body_again n inner complete k tag o m ms c le is are rest =
    let close = punct marks.RightBrace c ∷ rest in
    let behind = spelled_more_members ms ++ punct marks.RightBrace c ∷ [] in
    let both = length-append (spelled_member m) (spelled_more_members ms) in
    let one = length-append tag (punct marks.LeftBrace o ∷ (spelled_member m ++ behind)) in
    let two = length-append (spelled_member m) behind in
    let three = length-append (spelled_more_members ms) (punct marks.RightBrace c ∷ []) in
    let fits : length (spelled_member m ++ spelled_more_members ms) ≤ n = omega arith in
    let back = members_of_items ms in
    let regrouped : (spelled_member m ++ behind) ++ rest ≡ (spelled_member m ++ spelled_more_members ms) ++ close = simp append_assoc in
    let is_read : inner.members ((spelled_member m ++ spelled_more_members ms) ++ close) ≡ Some ((m, member_items ms), close) = rw back at (complete.members (m, member_items ms) (rw back fits) (is, rw back are) close refl) in
    rw (regrouped, is_read, back) refl

-- the enumerators of an enumeration, its last comma, and its `}`
comma_reads : (last : Option ℕ) (c : ℕ) (rest : Symbols) → comma_at (list_end last c rest) ≡ (last, punct marks.RightBrace c ∷ rest)
unfolding comma_at punct_at
comma_reads None c rest = refl
comma_reads (Some l) c rest = refl

enum_body_again : (n : ℕ) (inner : Inner) → CompleteInner n inner → (k : ℕ) (tag : Symbols) (o : ℕ) (e : EnumeratorTree) (es : MoreEnumerators) (last : Option ℕ) (c : ℕ) → length (spelled_spec (EnumBody k tag o e es last c)) ≤ suc n → IsEnumerator e → AreMoreEnumerators es → (rest : Symbols) → enum_body_by inner k tag (punct marks.LeftBrace o ∷ ((spelled_enumerator e ++ (spelled_more_enumerators es ++ (spelled_comma last ++ punct marks.RightBrace c ∷ []))) ++ rest)) ≡ Some (EnumBody k tag o e es last c, rest)
unfolding enum_body_by punct_at
enum_body_again n inner complete k tag o e es last c le is are rest =
    let end = spelled_comma last ++ punct marks.RightBrace c ∷ [] in
    let close = list_end last c rest in
    let behind = spelled_more_enumerators es ++ end in
    let both = length-append (spelled_enumerator e) (spelled_more_enumerators es) in
    let one = length-append tag (punct marks.LeftBrace o ∷ (spelled_enumerator e ++ behind)) in
    let two = length-append (spelled_enumerator e) behind in
    let three = length-append (spelled_more_enumerators es) end in
    let fits : length (spelled_enumerator e ++ spelled_more_enumerators es) ≤ n = omega arith in
    let back = enumerators_of_items es in
    let regrouped : (spelled_enumerator e ++ behind) ++ rest ≡ (spelled_enumerator e ++ spelled_more_enumerators es) ++ close = simp append_assoc in
    let is_read : inner.enumerators ((spelled_enumerator e ++ spelled_more_enumerators es) ++ close) ≡ Some ((e, enumerator_items es), close) = rw back at (complete.enumerators (e, enumerator_items es) (rw back fits) (is, rw back are) close (record { last = last; close = c; after = rest; is = refl })) in
    rw (regrouped, is_read, comma_reads last c rest, back) refl

pub spec_again_by : (n : ℕ) (inner : Inner) → CompleteInner n inner → Again (suc n) spelled_spec IsSpec StopsSpec (spec_by inner)
unfolding spec_by struct_by enum_by symbol_at
spec_again_by n inner complete (OneWord s) le is rest stop = rw is refl
spec_again_by n inner complete (Tagged k name) le is rest stop = rw (is, stop) refl
spec_again_by n inner complete (Body k [] o m ms c) le is rest stop = body_again n inner complete k [] o m ms c le is.1 is.2 rest
spec_again_by n inner complete (Body k (t ∷ []) o m ms c) le is rest stop = let named = is.0 in rw named (body_again n inner complete k (t ∷ []) o m ms c le is.1 is.2 rest)
spec_again_by n inner complete (Body k (t ∷ u ∷ more) o m ms c) le is rest stop = absurd (let h = is.0 in cc)
spec_again_by n inner complete (NamedType s) le is rest stop = rw (type_name_token s.kind is_spec_word refl is, is) refl
spec_again_by n inner complete (EnumTagged k name) le is rest stop = rw (is, stop) refl
spec_again_by n inner complete (EnumBody k [] o e es last c) le is rest stop = enum_body_again n inner complete k [] o e es last c le is.1 is.2 rest
spec_again_by n inner complete (EnumBody k (t ∷ []) o e es last c) le is rest stop = let named = is.0 in rw named (enum_body_again n inner complete k (t ∷ []) o e es last c le is.1 is.2 rest)
spec_again_by n inner complete (EnumBody k (t ∷ u ∷ more) o e es last c) le is rest stop = absurd (let h = is.0 in cc)

-- further specifiers

next_spec_none : (inner : Inner) (rest : Symbols) → StopsSpecs rest → next_spec_by inner rest ≡ Some None
unfolding next_spec_by
next_spec_none inner rest stop = rw (front_narrow goes_on_specs is_spec (λ k h. (neither (is_punct marks.LeftBrace k) (is_spec k) h).1) rest stop) refl

pub next_spec_again : (n : ℕ) (inner : Inner) → CompleteInner n inner → AgainStep (suc n) spelled_spec IsSpec StopsSpec (next_spec_by inner)
unfolding next_spec_by
next_spec_again n inner complete s le is rest stop = rw (spec_starts s is rest, spec_again_by n inner complete s le is rest stop) refl

-- no `{` behind a specifier, since another one or what follows them all comes
specs_go_on : (ss : MoreSpecs) → AreMoreSpecs ss → (rest : Symbols) → StopsSpecs rest → StopsSpec (spelled_more_specs ss ++ rest)
specs_go_on NoSpec are rest stop = front_narrow goes_on_specs (is_punct marks.LeftBrace) (λ k h. (neither (is_punct marks.LeftBrace k) (is_spec k) h).0) rest stop
specs_go_on (AndSpec s ss) are rest stop =
    let begin = spec_starts s are.0 (spelled_more_specs ss ++ rest) in
    ap (front_is (is_punct marks.LeftBrace)) (append_assoc (spelled_spec s) (spelled_more_specs ss) rest) ∙ front_not is_spec (is_punct marks.LeftBrace) (λ k. spec_token k (is_punct marks.LeftBrace) (λ w. refl) refl) (spelled_spec s ++ (spelled_more_specs ss ++ rest)) begin

pub specs_collect : (n : ℕ) (inner : Inner) → CompleteInner n inner → (ss : MoreSpecs) → length (spelled_more_specs ss) ≤ suc n → AreMoreSpecs ss → (rest : Symbols) → StopsSpecs rest → (m : ℕ) → length (spelled_more_specs ss) ≤ m → collect (next_spec_by inner) m (spelled_more_specs ss ++ rest) ≡ Some (spec_items ss, rest)
specs_collect n inner complete NoSpec le are rest stop m turns = collect_ends (next_spec_by inner) m rest (next_spec_none inner rest stop)
specs_collect n inner complete (AndSpec s ss) le are rest stop zero turns = absurd (omega (arith, spec_has_token s, length-append (spelled_spec s) (spelled_more_specs ss)))
specs_collect n inner complete (AndSpec s ss) le are rest stop (suc m) turns =
    let more = spelled_more_specs ss ++ rest in
    let sizes = length-append (spelled_spec s) (spelled_more_specs ss) in
    let first = next_spec_again n inner complete s (omega arith) are.0 more (specs_go_on ss are.1 rest stop) in
    let others = specs_collect n inner complete ss (omega arith) are.1 rest stop m (omega (arith, spec_has_token s)) in
    ap (collect (next_spec_by inner) (suc m)) (append_assoc (spelled_spec s) (spelled_more_specs ss) rest) ∙ collect_more (next_spec_by inner) m (spelled_spec s ++ more) more rest s (spec_items ss) first others

pub specs_again_by : (n : ℕ) (inner : Inner) → CompleteInner n inner → Again (suc n) spelled_specs AreSpecs StopsSpecs (specs_by inner)
unfolding specs_by
specs_again_by n inner complete (Specified s ss) le are rest stop =
    let more = spelled_more_specs ss ++ rest in
    let sizes = length-append (spelled_spec s) (spelled_more_specs ss) in
    let all = length-append (spelled_more_specs ss) rest in
    let first = spec_again_by n inner complete s (omega arith) are.0 more (specs_go_on ss are.1 rest stop) in
    let others = specs_collect n inner complete ss (omega arith) are.1 rest stop (length more) (omega arith) in
    rw (append_assoc (spelled_spec s) (spelled_more_specs ss) rest, first, others, specs_of_items ss) refl

-- ---- type names

-- pointers don't go on with specifiers
pub pointers_begin : (ps rest : Symbols) → are_pointers ps ≡ true → StopsSpecs rest → StopsSpecs (ps ++ rest)
pointers_begin [] rest are stop = stop
pointers_begin (p ∷ ps) rest are stop = ap goes_on_specs (star_token p.kind (and_both (is_punct marks.Star p.kind) (are_stars ps) are).0)

pub type_name_again_by : (n : ℕ) (inner : Inner) → CompleteInner n inner → Again (suc n) spelled_type IsType StopsType (type_name_by inner)
unfolding type_name_by
type_name_again_by n inner complete (TypeOf s ps) le is rest stop =
    let sizes = length-append (spelled_specs s) ps in
    let specs = specs_again_by n inner complete s (omega arith) is.0 (ps ++ rest) (pointers_begin ps rest is.1 stop.0) in
    rw (append_assoc (spelled_specs s) ps rest, specs, pointers_again ps rest is.1 stop.1) refl
