-- Suffixes, declarators, members and parameters are read again from their spelling, where what stands in brackets is.
use Rattle.std.proofs.Common.{◌≡◌, ℕ, zero, suc, ◌≤◌, Bool, true, false, List, [], ◌∷◌, ◌++◌, length, Some, None, inl, inr, refl, ap, ◌∙◌, append_assoc, length-append, arith}
use Rattle.c_token.specs.declared.token.TokKind.{TokKind}
use Rattle.c_token.specs.declared.token.TokKind.TheVariants as kinds
use Rattle.c_token.specs.declared.token.Keyword.TheVariants as words
use Rattle.c_token.specs.declared.token.Punct.TheVariants as marks
use Rattle.c_nodes.specs.Words.{Symbol, Symbols, punct}
use Rattle.c_nodes.specs.Kinds.{is_punct, is_key, is_name, is_spec}
use Rattle.c_nodes.specs.Trees.{Tree, SpecTrees, Specified, NoSpec, AndSpec, OneWord, Tagged, Body, NamedType, EnumTagged, EnumBody, MemberTree, Members, MoreMembers, NoMember, AndMember, DeclaratorTree, Declares, MoreDeclarators, NoDeclarator, AndDeclarator, SuffixTrees, NoSuffix, AndSuffix, SuffixTree, Unsized, Sized, Empty, VoidOnly, Params, MoreParams, NoParam, AndParam, ParamTree, Named, Unnamed, spelled, spelled_specs, spelled_more_specs, spelled_spec, spelled_member, spelled_more_members, spelled_more_declarators, spelled_declarator, spelled_suffixes, spelled_suffix, spelled_more_params, spelled_param, AreSpecs, IsMember, AreMoreMembers, IsDeclarator, AreMoreDeclarators, AreSuffixes, IsSuffix, IsParam, AreMoreParams, are_stars, are_pointers, is_void, is_bare_void}
use Rattle.c_nodes.specs.Lists.{more_members, more_declarators, suffixes_of, more_params}
use Rattle.parse_expr.specs.Reader.{front_is, symbol_at, punct_at, key_at, all_that, collect, pointers_at}
use Rattle.parse_expr.specs.Reading.{Inner, length_by, array_by, void_at, list_by, function_by, suffix_by, named_by, declarator_by, next_declarator_by, member_by, next_member_by, members_by, unnamed_by, named_param_by, param_behind, param_by, next_param_by, params_by}
use Rattle.parse_expr.proofs.Knots.{begins_expr, goes_on_pointers, goes_on_specs, goes_on_suffixes, StopsMembers, StopsParams, IsCond, spelled_members, AreMembers, spelled_params, AreParams, Again, CompleteInner}
use Rattle.parse_expr.proofs.Collects.{and_both, neither, true_or_false, front_not, punct_none, collect_ends, collect_more, pointers_again}
use Rattle.parse_expr.proofs.Starts.{spec_token, type_name_token, name_token, star_token, begins_declarator, declarator_token, suffix_token, ends_param, param_end, spec_starts, member_starts, member_has_token, declarator_starts, suffix_starts, suffix_has_token, param_starts}
use Rattle.parse_expr.proofs.AgainKinds.{no_bracket}
use Rattle.parse_expr.proofs.AgainOperands.{expr_starts}
use Rattle.parse_expr.proofs.AgainSpecifiers.{AgainStep, StopsSpecs, member_items, pointers_begin, specs_again_by}

-- ---- the lists of trees as lists

abbrev pub suffix_items : SuffixTrees → List SuffixTree
suffix_items NoSuffix = []
suffix_items (AndSuffix s ss) = s ∷ suffix_items ss

pub suffixes_of_items : (ss : SuffixTrees) → suffixes_of (suffix_items ss) ≡ ss
suffixes_of_items NoSuffix = refl
suffixes_of_items (AndSuffix s ss) = ap (AndSuffix s) (suffixes_of_items ss)

abbrev pub declarator_items : MoreDeclarators → List (ℕ × DeclaratorTree)
declarator_items NoDeclarator = []
declarator_items (AndDeclarator c d ds) = (c, d) ∷ declarator_items ds

pub declarators_of_items : (ds : MoreDeclarators) → more_declarators (declarator_items ds) ≡ ds
declarators_of_items NoDeclarator = refl
declarators_of_items (AndDeclarator c d ds) = ap (AndDeclarator c d) (declarators_of_items ds)

abbrev pub param_items : MoreParams → List (ℕ × ParamTree)
param_items NoParam = []
param_items (AndParam c p ps) = (c, p) ∷ param_items ps

pub params_of_items : (ps : MoreParams) → more_params (param_items ps) ≡ ps
params_of_items NoParam = refl
params_of_items (AndParam c p ps) = ap (AndParam c p) (params_of_items ps)

-- ---- suffixes

-- `[e]`
length_again : (n : ℕ) (inner : Inner) → CompleteInner n inner → (o : ℕ) (e : Tree) (c : ℕ) → length (spelled e) ≤ n → IsCond e → (rest : Symbols) → array_by inner o ((spelled e ++ punct marks.RightBracket c ∷ []) ++ rest) ≡ Some (Sized o e c, rest)
unfolding array_by length_by punct_at
length_again n inner complete o e c le is rest =
    let close = punct marks.RightBracket c ∷ rest in
    let regrouped = append_assoc (spelled e) (punct marks.RightBracket c ∷ []) rest in
    let is_read = complete.size e le is close refl in
    rw (regrouped, punct_none marks.RightBracket (spelled e ++ close) (front_not begins_expr (is_punct marks.RightBracket) no_bracket (spelled e ++ close) (expr_starts e is.0 close)), is_read) refl

-- `void` and `)` stand where the only parameter is that word
void_behind : (s : Symbol) (more : Symbols) → (is_key words.Void s.kind ≡ true → front_is (is_punct marks.RightParenthesis) more ≡ false) → void_at (s ∷ more) ≡ None
unfolding void_at key_at
void_behind s more f =
    elim (true_or_false (is_key words.Void s.kind)) [
      | inl h ↦ rw (h, punct_none marks.RightParenthesis more (f h)) refl
      | inr h ↦ rw h refl
    ]

no_void : (s : SpecTrees) → AreSpecs s → (more : Symbols) → (is_void s ≡ true → front_is (is_punct marks.RightParenthesis) more ≡ false) → void_at (spelled_specs s ++ more) ≡ None
unfolding void_at key_at
no_void (Specified (OneWord s) NoSpec) is more f = void_behind s more f
no_void (Specified (OneWord s) (AndSpec t ss)) is more f =
    let behind = spelled_more_specs ss ++ more in
    let begin = front_not is_spec (is_punct marks.RightParenthesis) (λ k. spec_token k (is_punct marks.RightParenthesis) (λ w. refl) refl) (spelled_spec t ++ behind) (spec_starts t is.1.0 behind) in
    void_behind s ((spelled_spec t ++ spelled_more_specs ss) ++ more) (λ h. ap (front_is (is_punct marks.RightParenthesis)) (append_assoc (spelled_spec t) (spelled_more_specs ss) more) ∙ begin)
no_void (Specified (Tagged k n) ss) is more f = refl
no_void (Specified (Body k tag o m ms c) ss) is more f = refl
no_void (Specified (NamedType s) ss) is more f = rw (type_name_token s.kind (is_key words.Void) refl is.0) refl
no_void (Specified (EnumTagged k n) ss) is more f = refl
no_void (Specified (EnumBody k tag o e es last c) ss) is more f = refl

-- behind the specifiers of a parameter that is not `void` alone no `)` comes, where they are `void`
param_no_void : (p : ParamTree) → IsParam p → (more : Symbols) → void_at (spelled_param p ++ more) ≡ None
param_no_void (Named s d) is more =
    let begin = front_not begins_declarator (is_punct marks.RightParenthesis) (λ k. declarator_token k (is_punct marks.RightParenthesis) refl refl) (spelled_declarator d ++ more) (declarator_starts d is.1 more) in
    ap void_at (append_assoc (spelled_specs s) (spelled_declarator d) more) ∙ no_void s is.0 (spelled_declarator d ++ more) (λ h. begin)
param_no_void (Unnamed s [] NoSuffix) is more =
    let named = is.3 in
    ap void_at (append_assoc (spelled_specs s) [] more) ∙ no_void s is.0 more (λ h. absurd cc)
param_no_void (Unnamed s [] (AndSuffix x ss)) is more =
    let behind = spelled_suffixes ss ++ more in
    let begin = front_not goes_on_suffixes (is_punct marks.RightParenthesis) (λ k. suffix_token k (is_punct marks.RightParenthesis) refl refl) (spelled_suffix x ++ behind) (suffix_starts x behind) in
    let begins : front_is (is_punct marks.RightParenthesis) ((spelled_suffix x ++ spelled_suffixes ss) ++ more) ≡ false = ap (front_is (is_punct marks.RightParenthesis)) (append_assoc (spelled_suffix x) (spelled_suffixes ss) more) ∙ begin in
    ap void_at (append_assoc (spelled_specs s) (spelled_suffix x ++ spelled_suffixes ss) more) ∙ no_void s is.0 ((spelled_suffix x ++ spelled_suffixes ss) ++ more) (λ h. begins)
param_no_void (Unnamed s (p ∷ ps) ss) is more =
    let star = star_token p.kind (and_both (is_punct marks.Star p.kind) (are_stars ps) is.1).0 in
    ap void_at (append_assoc (spelled_specs s) ((p ∷ ps) ++ spelled_suffixes ss) more) ∙ no_void s is.0 (((p ∷ ps) ++ spelled_suffixes ss) ++ more) (λ h. ap (is_punct marks.RightParenthesis) star)

-- a list of parameters
list_again : (n : ℕ) (inner : Inner) → CompleteInner n inner → (o : ℕ) (p : ParamTree) (ps : MoreParams) (c : ℕ) → length (spelled_suffix (Params o p ps c)) ≤ suc n → IsParam p → AreMoreParams ps → (rest : Symbols) → function_by inner o ((spelled_param p ++ (spelled_more_params ps ++ punct marks.RightParenthesis c ∷ [])) ++ rest) ≡ Some (Params o p ps c, rest)
unfolding function_by list_by punct_at
list_again n inner complete o p ps c le is are rest =
    let close = punct marks.RightParenthesis c ∷ rest in
    let both = length-append (spelled_param p) (spelled_more_params ps) in
    let one = length-append (spelled_param p) (spelled_more_params ps ++ punct marks.RightParenthesis c ∷ []) in
    let two = length-append (spelled_more_params ps) (punct marks.RightParenthesis c ∷ []) in
    let fits : length (spelled_param p ++ spelled_more_params ps) ≤ n = omega arith in
    let back = params_of_items ps in
    let whole = (spelled_param p ++ spelled_more_params ps) ++ close in
    let behind = spelled_more_params ps ++ close in
    let regrouped : (spelled_param p ++ (spelled_more_params ps ++ punct marks.RightParenthesis c ∷ [])) ++ rest ≡ whole = simp append_assoc in
    let grouped = append_assoc (spelled_param p) (spelled_more_params ps) close in
    let begin = front_not is_spec (is_punct marks.RightParenthesis) (λ k. spec_token k (is_punct marks.RightParenthesis) (λ w. refl) refl) (spelled_param p ++ behind) (param_starts p is behind) in
    let is_read : inner.params whole ≡ Some ((p, param_items ps), close) = rw back at (complete.params (p, param_items ps) (rw back fits) (is, rw back are) close refl) in
    let first : punct_at marks.RightParenthesis whole ≡ None = rw grouped (punct_none marks.RightParenthesis (spelled_param p ++ behind) begin) in
    let second : void_at whole ≡ None = rw grouped (param_no_void p is behind) in
    rw (regrouped, first, second, is_read, back) refl

abbrev pub Anything : Symbols → Type 0
Anything rest = Unit {0}

pub suffix_again_by : (n : ℕ) (inner : Inner) → CompleteInner n inner → AgainStep (suc n) spelled_suffix IsSuffix Anything (suffix_by inner)
unfolding suffix_by array_by function_by void_at punct_at key_at
suffix_again_by n inner complete (Unsized o c) le is rest stop = refl
suffix_again_by n inner complete (Sized o e c) le is rest stop =
    rw (length_again n inner complete o e c (omega (arith, length-append (spelled e) (punct marks.RightBracket c ∷ []))) is rest) refl
suffix_again_by n inner complete (Empty o c) le is rest stop = refl
suffix_again_by n inner complete (VoidOnly o v c) le is rest stop = refl
suffix_again_by n inner complete (Params o p ps c) le is rest stop =
    rw (list_again n inner complete o p ps c le is.0 is.1 rest) refl

abbrev pub StopsSuffixes : Symbols → Type 0
StopsSuffixes rest = front_is goes_on_suffixes rest ≡ false

suffix_none : (inner : Inner) (rest : Symbols) → StopsSuffixes rest → suffix_by inner rest ≡ Some None
unfolding suffix_by
suffix_none inner [] stop = refl
suffix_none inner (s ∷ rest) stop = let a = neither (is_punct marks.LeftBracket s.kind) (is_punct marks.LeftParenthesis s.kind) stop in rw (a.0, a.1) refl

pub suffixes_collect : (n : ℕ) (inner : Inner) → CompleteInner n inner → (ss : SuffixTrees) → length (spelled_suffixes ss) ≤ suc n → AreSuffixes ss → (rest : Symbols) → StopsSuffixes rest → (m : ℕ) → length (spelled_suffixes ss) ≤ m → collect (suffix_by inner) m (spelled_suffixes ss ++ rest) ≡ Some (suffix_items ss, rest)
suffixes_collect n inner complete NoSuffix le are rest stop m turns = collect_ends (suffix_by inner) m rest (suffix_none inner rest stop)
suffixes_collect n inner complete (AndSuffix s ss) le are rest stop zero turns = absurd (omega (arith, suffix_has_token s, length-append (spelled_suffix s) (spelled_suffixes ss)))
suffixes_collect n inner complete (AndSuffix s ss) le are rest stop (suc m) turns =
    let more = spelled_suffixes ss ++ rest in
    let sizes = length-append (spelled_suffix s) (spelled_suffixes ss) in
    let first = suffix_again_by n inner complete s (omega arith) are.0 more tt in
    let others = suffixes_collect n inner complete ss (omega arith) are.1 rest stop m (omega (arith, suffix_has_token s)) in
    ap (collect (suffix_by inner) (suc m)) (append_assoc (spelled_suffix s) (spelled_suffixes ss) rest) ∙ collect_more (suffix_by inner) m (spelled_suffix s ++ more) more rest s (suffix_items ss) first others

pub suffixes_again_by : (n : ℕ) (inner : Inner) → CompleteInner n inner → (ss : SuffixTrees) → length (spelled_suffixes ss) ≤ suc n → AreSuffixes ss → (rest : Symbols) → StopsSuffixes rest → all_that (suffix_by inner) (spelled_suffixes ss ++ rest) ≡ Some (suffix_items ss, rest)
suffixes_again_by n inner complete ss le are rest stop =
    suffixes_collect n inner complete ss le are rest stop (length (spelled_suffixes ss ++ rest)) (omega (arith, length-append (spelled_suffixes ss) rest))

-- ---- declarators

-- behind the pointers
named_again : (n : ℕ) (inner : Inner) → CompleteInner n inner → (ps : Symbols) (name : Symbol) (ss : SuffixTrees) → length (spelled_suffixes ss) ≤ suc n → is_name name.kind ≡ true → AreSuffixes ss → (rest : Symbols) → StopsSuffixes rest → named_by inner ps (name ∷ (spelled_suffixes ss ++ rest)) ≡ Some (Declares ps name ss, rest)
unfolding named_by symbol_at
named_again n inner complete ps name ss le is are rest stop =
    let suffixes = suffixes_again_by n inner complete ss le are rest stop in
    rw (is, suffixes, suffixes_of_items ss) refl

-- a name doesn't go on with pointers
pointers_before : (ps : Symbols) (name : Symbol) (more rest : Symbols) → are_pointers ps ≡ true → is_name name.kind ≡ true → pointers_at ((ps ++ name ∷ more) ++ rest) ≡ (ps, name ∷ (more ++ rest))
pointers_before ps name more rest are is =
    ap pointers_at (append_assoc ps (name ∷ more) rest) ∙ pointers_again ps (name ∷ (more ++ rest)) are (ap goes_on_pointers (name_token name.kind is))

pub declarator_again_by : (n : ℕ) (inner : Inner) → CompleteInner n inner → Again (suc n) spelled_declarator IsDeclarator StopsSuffixes (declarator_by inner)
unfolding declarator_by
declarator_again_by n inner complete (Declares ps name ss) le is rest stop =
    let sizes = length-append ps (name ∷ spelled_suffixes ss) in
    rw (pointers_before ps name (spelled_suffixes ss) rest is.0 is.1) (named_again n inner complete ps name ss (omega arith) is.1 is.2 rest stop)

-- ---- members of structures

next_declarator_none : (inner : Inner) (close : ℕ) (rest : Symbols) → next_declarator_by inner (punct marks.Semicolon close ∷ rest) ≡ Some None
unfolding next_declarator_by
next_declarator_none inner close rest = refl

next_declarator_again : (n : ℕ) (inner : Inner) → CompleteInner n inner → (comma : ℕ) (d : DeclaratorTree) → length (spelled_declarator d) ≤ suc n → IsDeclarator d → (rest : Symbols) → StopsSuffixes rest → next_declarator_by inner (punct marks.Comma comma ∷ (spelled_declarator d ++ rest)) ≡ Some (Some ((comma, d), rest))
unfolding next_declarator_by
next_declarator_again n inner complete comma d le is rest stop = rw (declarator_again_by n inner complete d le is rest stop) refl

-- no suffix behind a declarator, since a comma or the semicolon comes
declarators_go_on : (ds : MoreDeclarators) (close : ℕ) (rest : Symbols) → StopsSuffixes (spelled_more_declarators ds ++ punct marks.Semicolon close ∷ rest)
declarators_go_on NoDeclarator close rest = refl
declarators_go_on (AndDeclarator c d ds) close rest = refl

pub declarators_collect : (n : ℕ) (inner : Inner) → CompleteInner n inner → (ds : MoreDeclarators) → length (spelled_more_declarators ds) ≤ suc n → AreMoreDeclarators ds → (close : ℕ) (rest : Symbols) (m : ℕ) → length (spelled_more_declarators ds) ≤ m → collect (next_declarator_by inner) m (spelled_more_declarators ds ++ punct marks.Semicolon close ∷ rest) ≡ Some (declarator_items ds, punct marks.Semicolon close ∷ rest)
declarators_collect n inner complete NoDeclarator le are close rest m turns = collect_ends (next_declarator_by inner) m (punct marks.Semicolon close ∷ rest) (next_declarator_none inner close rest)
declarators_collect n inner complete (AndDeclarator c d ds) le are close rest zero turns = absurd (omega arith)
declarators_collect n inner complete (AndDeclarator c d ds) le are close rest (suc m) turns =
    let end = punct marks.Semicolon close ∷ rest in
    let more = spelled_more_declarators ds ++ end in
    let sizes = length-append (spelled_declarator d) (spelled_more_declarators ds) in
    let first = next_declarator_again n inner complete c d (omega arith) are.0 more (declarators_go_on ds close rest) in
    let others = declarators_collect n inner complete ds (omega arith) are.1 close rest m (omega arith) in
    let regrouped : (spelled_declarator d ++ spelled_more_declarators ds) ++ end ≡ spelled_declarator d ++ more = append_assoc (spelled_declarator d) (spelled_more_declarators ds) end in
    ap (λ (l : Symbols). collect (next_declarator_by inner) (suc m) (punct marks.Comma c ∷ l)) regrouped ∙ collect_more (next_declarator_by inner) m (punct marks.Comma c ∷ (spelled_declarator d ++ more)) more end (c, d) (declarator_items ds) first others

-- specifiers end at a declarator
pub specs_end : (d : DeclaratorTree) → IsDeclarator d → (rest : Symbols) → StopsSpecs (spelled_declarator d ++ rest)
specs_end d is rest = front_not begins_declarator goes_on_specs (λ k. declarator_token k goes_on_specs refl refl) (spelled_declarator d ++ rest) (declarator_starts d is rest)

pub member_again_by : (n : ℕ) (inner : Inner) → CompleteInner n inner → Again (suc n) spelled_member IsMember Anything (member_by inner)
unfolding member_by punct_at
member_again_by n inner complete (Members s d ds c) le is rest stop =
    let end = punct marks.Semicolon c ∷ rest in
    let more = spelled_more_declarators ds ++ end in
    let one = length-append (spelled_specs s) (spelled_declarator d ++ (spelled_more_declarators ds ++ punct marks.Semicolon c ∷ [])) in
    let two = length-append (spelled_declarator d) (spelled_more_declarators ds ++ punct marks.Semicolon c ∷ []) in
    let three = length-append (spelled_more_declarators ds) (punct marks.Semicolon c ∷ []) in
    let all = length-append (spelled_more_declarators ds) end in
    let regrouped : spelled_member (Members s d ds c) ++ rest ≡ spelled_specs s ++ (spelled_declarator d ++ more) = simp append_assoc in
    let specs = specs_again_by n inner complete s (omega arith) is.0 (spelled_declarator d ++ more) (specs_end d is.1 more) in
    let first = declarator_again_by n inner complete d (omega arith) is.1 more (declarators_go_on ds c rest) in
    let others = declarators_collect n inner complete ds (omega arith) is.2 c rest (length more) (omega arith) in
    ap (member_by inner) regrouped ∙ rw (specs, first, others, declarators_of_items ds) refl

next_member_none : (inner : Inner) (rest : Symbols) → StopsMembers rest → next_member_by inner rest ≡ Some None
unfolding next_member_by
next_member_none inner rest stop = rw stop refl

next_member_again : (n : ℕ) (inner : Inner) → CompleteInner n inner → AgainStep (suc n) spelled_member IsMember Anything (next_member_by inner)
unfolding next_member_by
next_member_again n inner complete m le is rest stop = rw (member_starts m is rest, member_again_by n inner complete m le is rest tt) refl

pub members_collect : (n : ℕ) (inner : Inner) → CompleteInner n inner → (ms : MoreMembers) → length (spelled_more_members ms) ≤ suc n → AreMoreMembers ms → (rest : Symbols) → StopsMembers rest → (m : ℕ) → length (spelled_more_members ms) ≤ m → collect (next_member_by inner) m (spelled_more_members ms ++ rest) ≡ Some (member_items ms, rest)
members_collect n inner complete NoMember le are rest stop m turns = collect_ends (next_member_by inner) m rest (next_member_none inner rest stop)
members_collect n inner complete (AndMember d ds) le are rest stop zero turns = absurd (omega (arith, member_has_token d, length-append (spelled_member d) (spelled_more_members ds)))
members_collect n inner complete (AndMember d ds) le are rest stop (suc m) turns =
    let more = spelled_more_members ds ++ rest in
    let sizes = length-append (spelled_member d) (spelled_more_members ds) in
    let first = next_member_again n inner complete d (omega arith) are.0 more tt in
    let others = members_collect n inner complete ds (omega arith) are.1 rest stop m (omega (arith, member_has_token d)) in
    ap (collect (next_member_by inner) (suc m)) (append_assoc (spelled_member d) (spelled_more_members ds) rest) ∙ collect_more (next_member_by inner) m (spelled_member d ++ more) more rest d (member_items ds) first others

members_more : (n : ℕ) (inner : Inner) → CompleteInner n inner → (m : MemberTree) (ms : MoreMembers) → length (spelled_member m ++ spelled_more_members ms) ≤ suc n → IsMember m → AreMoreMembers ms → (rest : Symbols) → StopsMembers rest → members_by inner ((spelled_member m ++ spelled_more_members ms) ++ rest) ≡ Some ((m, member_items ms), rest)
unfolding members_by
members_more n inner complete m ms le is are rest stop =
    let more = spelled_more_members ms ++ rest in
    let sizes = length-append (spelled_member m) (spelled_more_members ms) in
    let all = length-append (spelled_more_members ms) rest in
    let first = member_again_by n inner complete m (omega arith) is more tt in
    let others = members_collect n inner complete ms (omega arith) are rest stop (length more) (omega arith) in
    rw (append_assoc (spelled_member m) (spelled_more_members ms) rest, first, others) refl

items_of_members : (ms : List MemberTree) → member_items (more_members ms) ≡ ms
items_of_members [] = refl
items_of_members (m ∷ ms) = ap (λ (l : List MemberTree). m ∷ l) (items_of_members ms)

pub members_again_by : (n : ℕ) (inner : Inner) → CompleteInner n inner → Again (suc n) spelled_members AreMembers StopsMembers (members_by inner)
members_again_by n inner complete m le is rest stop = rw (items_of_members m.1) at (members_more n inner complete m.0 (more_members m.1) le is.0 is.1 rest stop)

-- ---- parameters

abbrev pub StopsParam : Symbols → Type 0
StopsParam rest = front_is ends_param rest ≡ true

param_stops : (test : TokKind → Bool) → test (kinds.Punct marks.Comma) ≡ false → test (kinds.Punct marks.RightParenthesis) ≡ false → (rest : Symbols) → StopsParam rest → front_is test rest ≡ false
param_stops test comma close rest stop = front_not ends_param test (λ k. param_end k test comma close) rest stop

-- what stands behind the specifiers of a parameter without a name
suffixes_stop : (test : TokKind → Bool) → test (kinds.Punct marks.Comma) ≡ false → test (kinds.Punct marks.RightParenthesis) ≡ false → test (kinds.Punct marks.LeftBracket) ≡ false → test (kinds.Punct marks.LeftParenthesis) ≡ false → (ss : SuffixTrees) (rest : Symbols) → StopsParam rest → front_is test (spelled_suffixes ss ++ rest) ≡ false
suffixes_stop test comma close bracket parenthesis NoSuffix rest stop = param_stops test comma close rest stop
suffixes_stop test comma close bracket parenthesis (AndSuffix s ss) rest stop =
    let behind = spelled_suffixes ss ++ rest in
    ap (front_is test) (append_assoc (spelled_suffix s) (spelled_suffixes ss) rest) ∙ front_not goes_on_suffixes test (λ k. suffix_token k test bracket parenthesis) (spelled_suffix s ++ behind) (suffix_starts s behind)

unnamed_again : (n : ℕ) (inner : Inner) → CompleteInner n inner → (s : SpecTrees) (ps : Symbols) (ss : SuffixTrees) → length (spelled_suffixes ss) ≤ suc n → AreSuffixes ss → is_bare_void s ps ss ≡ false → (rest : Symbols) → StopsParam rest → param_behind inner s ps (spelled_suffixes ss ++ rest) ≡ Some (Unnamed s ps ss, rest)
unfolding param_behind unnamed_by
unnamed_again n inner complete s ps ss le are bare rest stop =
    let suffixes = suffixes_again_by n inner complete ss le are rest (param_stops goes_on_suffixes refl refl rest stop) in
    rw (suffixes_stop is_name refl refl refl refl ss rest stop, suffixes, suffixes_of_items ss, bare) refl

pub param_again_by : (n : ℕ) (inner : Inner) → CompleteInner n inner → Again (suc n) spelled_param IsParam StopsParam (param_by inner)
unfolding param_by param_behind named_param_by
param_again_by n inner complete (Named s (Declares ps name ss)) le is rest stop =
    let d = Declares ps name ss in
    let one = length-append (spelled_specs s) (spelled_declarator d) in
    let two = length-append ps (name ∷ spelled_suffixes ss) in
    let specs = specs_again_by n inner complete s (omega arith) is.0 (spelled_declarator d ++ rest) (specs_end d is.1 rest) in
    let pointers = pointers_before ps name (spelled_suffixes ss) rest is.1.0 is.1.1 in
    let named = named_again n inner complete ps name ss (omega arith) is.1.1 is.1.2 rest (param_stops goes_on_suffixes refl refl rest stop) in
    let is_named = is.1.1 in
    ap (param_by inner) (append_assoc (spelled_specs s) (spelled_declarator d) rest) ∙ rw (specs, pointers, is_named, named) refl
param_again_by n inner complete (Unnamed s ps ss) le is rest stop =
    let behind = spelled_suffixes ss ++ rest in
    let one = length-append (spelled_specs s) (ps ++ spelled_suffixes ss) in
    let two = length-append ps (spelled_suffixes ss) in
    let regrouped : spelled_param (Unnamed s ps ss) ++ rest ≡ spelled_specs s ++ (ps ++ behind) = simp append_assoc in
    let ends = pointers_begin ps behind is.1 (suffixes_stop goes_on_specs refl refl refl refl ss rest stop) in
    let specs = specs_again_by n inner complete s (omega arith) is.0 (ps ++ behind) ends in
    let pointers = pointers_again ps behind is.1 (suffixes_stop goes_on_pointers refl refl refl refl ss rest stop) in
    let unnamed = unnamed_again n inner complete s ps ss (omega arith) is.2 is.3 rest stop in
    ap (param_by inner) regrouped ∙ rw (specs, pointers) unnamed

next_param_again : (n : ℕ) (inner : Inner) → CompleteInner n inner → (comma : ℕ) (p : ParamTree) → length (spelled_param p) ≤ suc n → IsParam p → (rest : Symbols) → StopsParam rest → next_param_by inner (punct marks.Comma comma ∷ (spelled_param p ++ rest)) ≡ Some (Some ((comma, p), rest))
unfolding next_param_by
next_param_again n inner complete comma p le is rest stop = rw (param_again_by n inner complete p le is rest stop) refl

-- behind a parameter a comma comes, or the bracket
close_ends : (k : TokKind) → is_punct marks.RightParenthesis k ≡ true → ends_param k ≡ true
close_ends (kinds.Punct marks.RightParenthesis) h = refl
close_ends _ h = absurd cc

params_stop : (rest : Symbols) → StopsParams rest → StopsParam rest
params_stop [] stop = absurd cc
params_stop (s ∷ rest) stop = close_ends s.kind stop

params_go_on : (ps : MoreParams) (rest : Symbols) → StopsParams rest → StopsParam (spelled_more_params ps ++ rest)
params_go_on NoParam rest stop = params_stop rest stop
params_go_on (AndParam c p ps) rest stop = refl

no_comma : (k : TokKind) → is_punct marks.RightParenthesis k ≡ true → is_punct marks.Comma k ≡ false
no_comma (kinds.Punct marks.RightParenthesis) h = refl
no_comma _ h = absurd cc

next_param_none : (inner : Inner) (rest : Symbols) → StopsParams rest → next_param_by inner rest ≡ Some None
unfolding next_param_by
next_param_none inner [] stop = refl
next_param_none inner (s ∷ rest) stop = rw (no_comma s.kind stop) refl

pub params_collect : (n : ℕ) (inner : Inner) → CompleteInner n inner → (ps : MoreParams) → length (spelled_more_params ps) ≤ suc n → AreMoreParams ps → (rest : Symbols) → StopsParams rest → (m : ℕ) → length (spelled_more_params ps) ≤ m → collect (next_param_by inner) m (spelled_more_params ps ++ rest) ≡ Some (param_items ps, rest)
params_collect n inner complete NoParam le are rest stop m turns = collect_ends (next_param_by inner) m rest (next_param_none inner rest stop)
params_collect n inner complete (AndParam c p ps) le are rest stop zero turns = absurd (omega arith)
params_collect n inner complete (AndParam c p ps) le are rest stop (suc m) turns =
    let more = spelled_more_params ps ++ rest in
    let sizes = length-append (spelled_param p) (spelled_more_params ps) in
    let first = next_param_again n inner complete c p (omega arith) are.0 more (params_go_on ps rest stop) in
    let others = params_collect n inner complete ps (omega arith) are.1 rest stop m (omega arith) in
    let regrouped : (spelled_param p ++ spelled_more_params ps) ++ rest ≡ spelled_param p ++ more = append_assoc (spelled_param p) (spelled_more_params ps) rest in
    ap (λ (l : Symbols). collect (next_param_by inner) (suc m) (punct marks.Comma c ∷ l)) regrouped ∙ collect_more (next_param_by inner) m (punct marks.Comma c ∷ (spelled_param p ++ more)) more rest (c, p) (param_items ps) first others

params_more : (n : ℕ) (inner : Inner) → CompleteInner n inner → (p : ParamTree) (ps : MoreParams) → length (spelled_param p ++ spelled_more_params ps) ≤ suc n → IsParam p → AreMoreParams ps → (rest : Symbols) → StopsParams rest → params_by inner ((spelled_param p ++ spelled_more_params ps) ++ rest) ≡ Some ((p, param_items ps), rest)
unfolding params_by
params_more n inner complete p ps le is are rest stop =
    let more = spelled_more_params ps ++ rest in
    let sizes = length-append (spelled_param p) (spelled_more_params ps) in
    let all = length-append (spelled_more_params ps) rest in
    let first = param_again_by n inner complete p (omega arith) is more (params_go_on ps rest stop) in
    let others = params_collect n inner complete ps (omega arith) are rest stop (length more) (omega arith) in
    rw (append_assoc (spelled_param p) (spelled_more_params ps) rest, first, others) refl

items_of_params : (ps : List (ℕ × ParamTree)) → param_items (more_params ps) ≡ ps
items_of_params [] = refl
items_of_params (p ∷ ps) = ap (λ (l : List (ℕ × ParamTree)). p ∷ l) (items_of_params ps)

pub params_again_by : (n : ℕ) (inner : Inner) → CompleteInner n inner → Again (suc n) spelled_params AreParams StopsParams (params_by inner)
params_again_by n inner complete p le is rest stop = rw (items_of_params p.1) at (params_more n inner complete p.0 (more_params p.1) le is.0 is.1 rest stop)
