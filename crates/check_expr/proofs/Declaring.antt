-- Declarators, part by part: each clause of the rules, and lists from their front.
use Rattle.std.proofs.Common.{◌≡◌, ℕ, ◌+◌, ◌<◌, ◌≤◌, Bool, true, false, List, [], ◌∷◌, ◌++◌, length, drop, map, Option, Result, Ok, Err, refl, sym, ap, subst, ◌∙◌, append_assoc}
use Rattle.std.proofs.Math.ListN.{get_or}
use Rattle.std.proofs.lemmas.List.{drop_more, drop_all, append-nil}
use Rattle.c_nodes.specs.Lists.{more_specs, more_members, more_declarators, suffixes_of, more_params}
use Rattle.c_nodes.specs.Trees as tree
use Rattle.c_nodes.specs.Trees.{Tree, SpecTrees, SpecTree, MemberTree, MoreMembers, DeclaratorTree, SuffixTree, SuffixTrees, ParamTree, MoreParams, TypeTree, EnumeratorTree, MoreEnumerators}
use Rattle.c_nodes.specs.Views.{NextDeclarator, NextParam, spec_of, member_of, next_declarator_of, suffix_of, next_param_of}
use Rattle.c_nodes.specs.Words.{Symbol, Symbols, keyed}
use Rattle.c_nodes.specs.declared.expression.Spec.{Spec}
use Rattle.c_nodes.specs.declared.expression.Member.{Member}
use Rattle.c_nodes.specs.declared.expression.Suffix.{Suffix}
use Rattle.c_nodes.specs.declared.word.Word.{Word}
use Rattle.c_tables.specs.Answers.{Refuses}
use Rattle.c_tables.specs.declared.error.CheckError.{CheckError}
use Rattle.type_rules.specs.Declarators.{Context, of_member, of_param, body_opened, structure_in, structure_of, specified, spec_rule, members, field, suffixes, suffix, param, outline_of, line_in}
use Rattle.type_rules.specs.Declarators as rule
use Rattle.type_rules.specs.Faults as kind
use Rattle.type_rules.specs.Faults.{Fault}
use Rattle.type_rules.specs.Known.{Waiting, is_waiting, Scope, Known, Rule, Open, Closed, given, tried, go_on}
use Rattle.type_rules.specs.Names.{enter_list, leave_list}
use Rattle.type_rules.specs.Outlines.{Param, Made, ArrayMade, FunctionMade, Outline, object_outline, outlined, param_outlined, param_rule, member_rule, declarator_line}
use Rattle.type_rules.specs.Rows.{is_absent, progress_of, set_progress}
use Rattle.type_rules.specs.Specifiers as rule_specifiers
use Rattle.type_rules.specs.Specifiers.{Gathered, OfTypeName, nothing_gathered, StructBase, EnumBase, with_base, Specified, specifiers, specs_line, spec_line}
use Rattle.type_rules.specs.TypeNames as names
use Rattle.type_rules.specs.TypeNames.{with_pointers, type_named, named_spec, more_named_specs}
use Rattle.type_rules.specs.Constants.{array_length}
use Rattle.c_typed.specs.declared.types.Qualified.{Qualified}
use Rattle.c_outline.specs.Gathering.{GathersTo, base_of, kept_of, based, worded}
use Rattle.check_expr.specs.Lists.{body_rule, enum_rule}
use Rattle.c_outline.specs.declared.specifiers.Base.{Base}
use Rattle.c_outline.specs.declared.specifiers.Base.TheVariants as bases
use Rattle.c_outline.specs.declared.specifiers.Words.{Words}
use Rattle.c_outline.proofs.Gathering.{kept_base, kept_word}
use Rattle.c_outline.proofs.Outlining.{refused_through, go_on_both}

-- ---- a list at its front, and at its end

pub at_front : {A B C : Type 0} (view : A → B) (whole : List B → C) (xs : List A) (i : ℕ) (x : A) → i < length xs → x ≡ get_or xs i x → whole (map view (drop i xs)) ≡ whole (view x ∷ map view (drop (i + 1) xs))
at_front view whole xs i x lt is = ap (λ l. whole (map view l)) (drop_more xs i x lt ∙ ap (λ y. y ∷ drop (i + 1) xs) (sym is))

pub at_end : {A B C : Type 0} (view : A → B) (whole : List B → C) (xs : List A) (i : ℕ) → length xs ≤ i → whole (map view (drop i xs)) ≡ whole []
at_end view whole xs i le = ap (λ l. whole (map view l)) (drop_all i xs le)

-- ---- specifiers: what is gathered so far, and the rest of the list

pub record Left {B : Type 0} (finish : Gathered → Rule B) (rest : Gathered → Rule Gathered) (w : Words) (here : Known) (said : Result (B × Known) Fault) : Type 0 where
  pub gathered : Gathered
  pub kept : w ≡ kept_of gathered
  pub goes : said ≡ go_on finish (rest gathered here)

pub left_more : {B : Type 0} (finish : Gathered → Rule B) (rest further step : Gathered → Rule Gathered) (w v : Words) (here after : Known) (said : Result (B × Known) Fault)
    → ((g : Gathered) (k : Known) → rest g k ≡ go_on further (step g k)) → Left finish rest w here said → ((g : Gathered) → w ≡ kept_of g → GathersTo v after (step g here)) → Left finish further v after said
left_more finish rest further step w v here after said splits h one =
    let r = one h.gathered h.kept in
    record { gathered = r.gathered; kept = r.kept; goes = h.goes ∙ ap (go_on finish) (splits h.gathered here ∙ ap (go_on further) r.answers) }

pub left_refused : {B : Type 0} (finish : Gathered → Rule B) (rest further step : Gathered → Rule Gathered) (w : Words) (here : Known) (said : Result (B × Known) Fault) (e : CheckError)
    → ((g : Gathered) (k : Known) → rest g k ≡ go_on further (step g k)) → Left finish rest w here said → ((g : Gathered) → w ≡ kept_of g → Refuses e (step g here)) → Refuses e said
left_refused finish rest further step w here said e splits h one =
    subst (Refuses e) (sym (h.goes ∙ ap (go_on finish) (splits h.gathered here))) (refused_through e finish (go_on further (step h.gathered here)) (refused_through e further (step h.gathered here) (one h.gathered h.kept)))

pub left_ends : {B : Type 0} (finish : Gathered → Rule B) (rest : Gathered → Rule Gathered) (w : Words) (here : Known) (said : Result (B × Known) Fault)
    → ((g : Gathered) (k : Known) → rest g k ≡ Ok (g, k)) → (h : Left finish rest w here said) → said ≡ finish h.gathered here
left_ends finish rest w here said ends h = h.goes ∙ ap (go_on finish) (ends h.gathered here)

-- ---- specifiers of declarations

abbrev pub finish_specs : Context → ℕ → Gathered → Rule Specified
finish_specs context line g = specifiers context.site g line

abbrev pub rest_specs : List SpecTree → Context → Gathered → Rule Gathered
rest_specs ss context g = rule.more_specs (more_specs ss) context g

pub specs_begin : (t : SpecTrees) (s : SpecTree) (ss : List SpecTree) (context : Context) (w : Words) (known after : Known) → t ≡ tree.Specified s (more_specs ss) → GathersTo w after (spec_rule s context nothing_gathered known) → Left (finish_specs context (specs_line t)) (rest_specs ss context) w after (specified t context known)
unfolding specified
specs_begin t s ss context w known after e h = subst (λ t. Left (finish_specs context (specs_line t)) (rest_specs ss context) w after (specified t context known)) (sym e)
    (record { gathered = h.gathered; kept = h.kept; goes = ap (go_on (λ (g : Gathered) (k : Known). go_on (λ (x : Gathered). specifiers context.site x (spec_line s)) (rule.more_specs (more_specs ss) context g k))) h.answers })

pub specs_refused : (t : SpecTrees) (s : SpecTree) (ss : List SpecTree) (context : Context) (known : Known) (e : CheckError) → t ≡ tree.Specified s (more_specs ss) → Refuses e (spec_rule s context nothing_gathered known) → Refuses e (specified t context known)
unfolding specified
specs_refused t s ss context known e is h = subst (λ t. Refuses e (specified t context known)) (sym is) (refused_through e (λ (g : Gathered) (k : Known). go_on (λ (x : Gathered). specifiers context.site x (spec_line s)) (rule.more_specs (more_specs ss) context g k)) (spec_rule s context nothing_gathered known) h)

specs_split : (s : SpecTree) (ss : List SpecTree) (context : Context) (g : Gathered) (k : Known) → rest_specs (s ∷ ss) context g k ≡ go_on (rest_specs ss context) (spec_rule s context g k)
unfolding rule.more_specs
specs_split s ss context g k = refl

pub specs_at : (xs : List Spec) (i : ℕ) (x : Spec) (context : Context) → i < length xs → x ≡ get_or xs i x → (g : Gathered) (k : Known) → rest_specs (map spec_of (drop i xs)) context g k ≡ go_on (rest_specs (map spec_of (drop (i + 1) xs)) context) (spec_rule (spec_of x) context g k)
specs_at xs i x context lt is g k = at_front spec_of (λ l. rest_specs l context g k) xs i x lt is ∙ specs_split (spec_of x) (map spec_of (drop (i + 1) xs)) context g k

specs_none : (context : Context) (g : Gathered) (k : Known) → rest_specs [] context g k ≡ Ok (g, k)
unfolding rule.more_specs
specs_none context g k = refl

pub specs_end : (xs : List Spec) (i : ℕ) (context : Context) → length xs ≤ i → (g : Gathered) (k : Known) → rest_specs (map spec_of (drop i xs)) context g k ≡ Ok (g, k)
specs_end xs i context le g k = at_end spec_of (λ l. rest_specs l context g k) xs i le ∙ specs_none context g k

-- ---- specifiers of names of types

abbrev pub after_named : Symbols → Specified → Rule Qualified
after_named pointers base = λ k. go_on (λ (x : Known). with_pointers pointers base.ty) (tried ((is_waiting base.waiting, kind.Incomplete) ∷ []) base.line k)

abbrev pub finish_name : SpecTrees → Symbols → Gathered → Rule Qualified
finish_name t pointers g = λ known. go_on (after_named pointers) (specifiers OfTypeName g (specs_line t) known)

abbrev pub rest_names : List SpecTree → Gathered → Rule Gathered
rest_names ss g = more_named_specs (more_specs ss) g

pub names_begin : (n : TypeTree) (t : SpecTrees) (s : SpecTree) (ss : List SpecTree) (pointers : Symbols) (w : Words) (known after : Known) → n ≡ tree.TypeOf t pointers → t ≡ tree.Specified s (more_specs ss) → GathersTo w after (named_spec s nothing_gathered known) → Left (finish_name t pointers) (rest_names ss) w after (type_named n known)
names_begin n t s ss pointers w known after en e h = subst (λ n. Left (finish_name t pointers) (rest_names ss) w after (type_named n known)) (sym en) (subst (λ t. Left (finish_name t pointers) (rest_names ss) w after (type_named (tree.TypeOf t pointers) known)) (sym e)
    (record { gathered = h.gathered; kept = h.kept; goes = ap (λ r. go_on (finish_name (tree.Specified s (more_specs ss)) pointers) (go_on (rest_names ss) r)) h.answers }))

pub names_refused : (n : TypeTree) (t : SpecTrees) (s : SpecTree) (ss : List SpecTree) (pointers : Symbols) (known : Known) (e : CheckError) → n ≡ tree.TypeOf t pointers → t ≡ tree.Specified s (more_specs ss) → Refuses e (named_spec s nothing_gathered known) → Refuses e (type_named n known)
names_refused n t s ss pointers known e en is h = subst (λ n. Refuses e (type_named n known)) (sym en) (subst (λ t. Refuses e (type_named (tree.TypeOf t pointers) known)) (sym is)
    (refused_through e (finish_name (tree.Specified s (more_specs ss)) pointers) (go_on (rest_names ss) (named_spec s nothing_gathered known)) (refused_through e (rest_names ss) (named_spec s nothing_gathered known) h)))

pub name_waits : (t : SpecTrees) (pointers : Symbols) (g : Gathered) (base : Specified) (known mid : Known) → specifiers OfTypeName g (specs_line t) known ≡ Ok (base, mid) → is_waiting base.waiting ≡ true → finish_name t pointers g known ≡ Err (record { kind = kind.Incomplete; line = base.line })
name_waits t pointers g base known mid h w = ap (go_on (after_named pointers)) h ∙ ap (λ b. go_on (λ (x : Known). with_pointers pointers base.ty) (tried ((b, kind.Incomplete) ∷ []) base.line mid)) w

pub name_whole : (t : SpecTrees) (pointers : Symbols) (g : Gathered) (base : Specified) (known mid : Known) → specifiers OfTypeName g (specs_line t) known ≡ Ok (base, mid) → is_waiting base.waiting ≡ false → finish_name t pointers g known ≡ with_pointers pointers base.ty mid
name_whole t pointers g base known mid h w = ap (go_on (after_named pointers)) h ∙ ap (λ b. go_on (λ (x : Known). with_pointers pointers base.ty) (tried ((b, kind.Incomplete) ∷ []) base.line mid)) w

pub names_at : (xs : List Spec) (i : ℕ) (x : Spec) → i < length xs → x ≡ get_or xs i x → (g : Gathered) (k : Known) → rest_names (map spec_of (drop i xs)) g k ≡ go_on (rest_names (map spec_of (drop (i + 1) xs))) (named_spec (spec_of x) g k)
names_at xs i x lt is g k = at_front spec_of (λ l. rest_names l g k) xs i x lt is

pub names_end : (xs : List Spec) (i : ℕ) → length xs ≤ i → (g : Gathered) (k : Known) → rest_names (map spec_of (drop i xs)) g k ≡ Ok (g, k)
names_end xs i le g k = at_end spec_of (λ l. rest_names l g k) xs i le

-- ---- a specifier with a structure

pub reference_given : (line : ℕ) (n : Symbol) (context : Context) (g : Gathered) (number : ℕ) (known after : Known) → structure_of context n.bytes line known ≡ Ok (number, after) → spec_rule (tree.Tagged line n) context g known ≡ Ok (with_base (StructBase number) g, after)
unfolding spec_rule
reference_given line n context g number known after h = ap (go_on (λ (x : ℕ). given (with_base (StructBase x) g))) h

pub reference_refused : (line : ℕ) (n : Symbol) (context : Context) (g : Gathered) (known : Known) (e : CheckError) → Refuses e (structure_of context n.bytes line known) → Refuses e (spec_rule (tree.Tagged line n) context g known)
unfolding spec_rule
reference_refused line n context g known e h = refused_through e (λ (x : ℕ). given (with_base (StructBase x) g)) (structure_of context n.bytes line known) h

body_split : (line : ℕ) (tag : Symbols) (o : ℕ) (m : MemberTree) (ms : MoreMembers) (c : ℕ) (context : Context) (g : Gathered) (known : Known)
    → spec_rule (tree.Body line tag o m ms c) context g known ≡ go_on (λ (number : ℕ) (k : Known). go_on (λ (x : Known). given (with_base (StructBase number) g)) (body_rule (tree.Body line tag o m ms c) number k)) (body_opened context tag line known)
unfolding spec_rule
body_split line tag o m ms c context g known = by_opened (body_opened context tag line known) where
  by_members : (number : ℕ) (said : Result (Known × Known) Fault) → go_on (λ (x : Known) (k : Known). go_on (λ (y : Known) (j : Known). go_on (λ (z : Known). given (with_base (StructBase number) g)) (set_progress number Closed j)) (rule.more_members ms number k)) said ≡ go_on (λ (x : Known). given (with_base (StructBase number) g)) (go_on (λ (x : Known) (k : Known). go_on (λ (y : Known). set_progress number Closed) (rule.more_members ms number k)) said)
  by_members number (Err fault) = refl
  by_members number (Ok x) = sym (go_on_both (λ (y : Known). set_progress number Closed) (λ (z : Known). given (with_base (StructBase number) g)) (rule.more_members ms number x.1))

  by_opened : (said : Result (ℕ × Known) Fault) → go_on (λ (number : ℕ) (k : Known). go_on (λ (x : Known) (k : Known). go_on (λ (y : Known) (j : Known). go_on (λ (z : Known). given (with_base (StructBase number) g)) (set_progress number Closed j)) (rule.more_members ms number k)) (members m number k)) said ≡ go_on (λ (number : ℕ) (k : Known). go_on (λ (x : Known). given (with_base (StructBase number) g)) (body_rule (tree.Body line tag o m ms c) number k)) said
  by_opened (Err fault) = refl
  by_opened (Ok x) = by_members x.0 (members m x.0 x.1)

-- ---- members

abbrev pub rest_members : List MemberTree → ℕ → Rule Known
rest_members ms number = rule.more_members (more_members ms) number

abbrev pub close : ℕ → Known → Rule Known
close number = λ (x : Known). set_progress number Closed

pub body_begin : (t : SpecTree) (line : ℕ) (tag : Symbols) (o : ℕ) (m : MemberTree) (ms : List MemberTree) (c number : ℕ) (known after : Known) → t ≡ tree.Body line tag o m (more_members ms) c → members m number known ≡ Ok (after, after) → body_rule t number known ≡ go_on (close number) (rest_members ms number after)
body_begin t line tag o m ms c number known after e h = ap (λ t. body_rule t number known) e ∙ ap (go_on (λ (x : Known) (k : Known). go_on (close number) (rest_members ms number k))) h

pub body_refused : (t : SpecTree) (line : ℕ) (tag : Symbols) (o : ℕ) (m : MemberTree) (ms : List MemberTree) (c number : ℕ) (known : Known) (e : CheckError) → t ≡ tree.Body line tag o m (more_members ms) c → Refuses e (members m number known) → Refuses e (body_rule t number known)
body_refused t line tag o m ms c number known e is h = subst (λ t. Refuses e (body_rule t number known)) (sym is) (refused_through e (λ (x : Known) (k : Known). go_on (close number) (rest_members ms number k)) (members m number known) h)

members_split : (m : MemberTree) (ms : List MemberTree) (number : ℕ) (k : Known) → rest_members (m ∷ ms) number k ≡ go_on (λ (x : Known). rest_members ms number) (members m number k)
unfolding rule.more_members
members_split m ms number k = refl

members_none : (number : ℕ) (k : Known) → rest_members [] number k ≡ Ok (k, k)
unfolding rule.more_members
members_none number k = refl

pub members_more : (xs : List Member) (i : ℕ) (x : Member) (number : ℕ) (said : Result (Known × Known) Fault) (here after : Known) → i < length xs → x ≡ get_or xs i x → said ≡ go_on (close number) (rest_members (map member_of (drop i xs)) number here) → members (member_of x) number here ≡ Ok (after, after) → said ≡ go_on (close number) (rest_members (map member_of (drop (i + 1) xs)) number after)
members_more xs i x number said here after lt is goes h = goes ∙ ap (go_on (close number)) (at_front member_of (λ l. rest_members l number here) xs i x lt is ∙ members_split (member_of x) (map member_of (drop (i + 1) xs)) number here ∙ ap (go_on (λ (y : Known). rest_members (map member_of (drop (i + 1) xs)) number)) h)

pub members_refused : (xs : List Member) (i : ℕ) (x : Member) (number : ℕ) (said : Result (Known × Known) Fault) (here : Known) (e : CheckError) → i < length xs → x ≡ get_or xs i x → said ≡ go_on (close number) (rest_members (map member_of (drop i xs)) number here) → Refuses e (members (member_of x) number here) → Refuses e said
members_refused xs i x number said here e lt is goes h =
    let split = at_front member_of (λ l. rest_members l number here) xs i x lt is ∙ members_split (member_of x) (map member_of (drop (i + 1) xs)) number here in
    subst (Refuses e) (sym (goes ∙ ap (go_on (close number)) split)) (refused_through e (close number) (go_on (λ (y : Known). rest_members (map member_of (drop (i + 1) xs)) number) (members (member_of x) number here)) (refused_through e (λ (y : Known). rest_members (map member_of (drop (i + 1) xs)) number) (members (member_of x) number here) h))

pub members_end : (xs : List Member) (i : ℕ) (number : ℕ) (said : Result (Known × Known) Fault) (here after : Known) → length xs ≤ i → said ≡ go_on (close number) (rest_members (map member_of (drop i xs)) number here) → set_progress number Closed here ≡ Ok (after, after) → said ≡ Ok (after, after)
members_end xs i number said here after le goes h = goes ∙ ap (go_on (close number)) (at_end member_of (λ l. rest_members l number here) xs i le ∙ members_none number here) ∙ h

-- ---- fields

abbrev pub rest_fields : List (ℕ × DeclaratorTree) → Specified → ℕ → Rule Known
rest_fields ds said number = rule.more_fields (more_declarators ds) said number

fields_split : (comma : ℕ) (d : DeclaratorTree) (ds : List (ℕ × DeclaratorTree)) (s : Specified) (number : ℕ) (k : Known) → rest_fields ((comma, d) ∷ ds) s number k ≡ go_on (λ (x : Known). rest_fields ds s number) (field d s number k)
unfolding rule.more_fields
fields_split comma d ds s number k = refl

fields_none : (s : Specified) (number : ℕ) (k : Known) → rest_fields [] s number k ≡ Ok (k, k)
unfolding rule.more_fields
fields_none s number k = refl

abbrev pub member_fields : DeclaratorTree → List (ℕ × DeclaratorTree) → ℕ → Specified → Rule Known
member_fields d ds number s = λ k. go_on (λ (x : Known). rest_fields ds s number) (field d s number k)

pub member_split : (s : SpecTrees) (d : DeclaratorTree) (ds : List (ℕ × DeclaratorTree)) (semicolon number : ℕ) (known : Known) → members (tree.Members s d (more_declarators ds) semicolon) number known ≡ go_on (member_fields d ds number) (specified s of_member known)
unfolding members
member_split s d ds semicolon number known = refl

pub fields_begin : (t : MemberTree) (s : SpecTrees) (d : DeclaratorTree) (ds : List (ℕ × DeclaratorTree)) (semicolon number : ℕ) (said : Specified) (known mid after : Known) → t ≡ tree.Members s d (more_declarators ds) semicolon → specified s of_member known ≡ Ok (said, mid) → field d said number mid ≡ Ok (after, after) → members t number known ≡ rest_fields ds said number after
fields_begin t s d ds semicolon number said known mid after e h f = ap (λ t. members t number known) e ∙ member_split s d ds semicolon number known ∙ ap (go_on (member_fields d ds number)) h ∙ ap (go_on (λ (x : Known). rest_fields ds said number)) f

pub fields_unspecified : (t : MemberTree) (s : SpecTrees) (d : DeclaratorTree) (ds : List (ℕ × DeclaratorTree)) (semicolon number : ℕ) (known : Known) (e : CheckError) → t ≡ tree.Members s d (more_declarators ds) semicolon → Refuses e (specified s of_member known) → Refuses e (members t number known)
fields_unspecified t s d ds semicolon number known e is h = subst (Refuses e) (sym (ap (λ t. members t number known) is ∙ member_split s d ds semicolon number known)) (refused_through e (member_fields d ds number) (specified s of_member known) h)

pub fields_first_refused : (t : MemberTree) (s : SpecTrees) (d : DeclaratorTree) (ds : List (ℕ × DeclaratorTree)) (semicolon number : ℕ) (said : Specified) (known mid : Known) (e : CheckError) → t ≡ tree.Members s d (more_declarators ds) semicolon → specified s of_member known ≡ Ok (said, mid) → Refuses e (field d said number mid) → Refuses e (members t number known)
fields_first_refused t s d ds semicolon number said known mid e is h r = subst (Refuses e) (sym (ap (λ t. members t number known) is ∙ member_split s d ds semicolon number known ∙ ap (go_on (member_fields d ds number)) h)) (refused_through e (λ (x : Known). rest_fields ds said number) (field d said number mid) r)

pub fields_more : (xs : List NextDeclarator) (i : ℕ) (x : NextDeclarator) (comma : ℕ) (d : DeclaratorTree) (s : Specified) (number : ℕ) (said : Result (Known × Known) Fault) (here after : Known) → i < length xs → x ≡ get_or xs i x → next_declarator_of x ≡ (comma, d) → said ≡ rest_fields (map next_declarator_of (drop i xs)) s number here → field d s number here ≡ Ok (after, after) → said ≡ rest_fields (map next_declarator_of (drop (i + 1) xs)) s number after
fields_more xs i x comma d s number said here after lt is shown goes h =
    let rest = map next_declarator_of (drop (i + 1) xs) in
    goes ∙ at_front next_declarator_of (λ l. rest_fields l s number here) xs i x lt is ∙ ap (λ y. rest_fields (y ∷ rest) s number here) shown ∙ fields_split comma d rest s number here ∙ ap (go_on (λ (y : Known). rest_fields rest s number)) h

pub fields_refused : (xs : List NextDeclarator) (i : ℕ) (x : NextDeclarator) (comma : ℕ) (d : DeclaratorTree) (s : Specified) (number : ℕ) (said : Result (Known × Known) Fault) (here : Known) (e : CheckError) → i < length xs → x ≡ get_or xs i x → next_declarator_of x ≡ (comma, d) → said ≡ rest_fields (map next_declarator_of (drop i xs)) s number here → Refuses e (field d s number here) → Refuses e said
fields_refused xs i x comma d s number said here e lt is shown goes h =
    let rest = map next_declarator_of (drop (i + 1) xs) in
    subst (Refuses e) (sym (goes ∙ at_front next_declarator_of (λ l. rest_fields l s number here) xs i x lt is ∙ ap (λ y. rest_fields (y ∷ rest) s number here) shown ∙ fields_split comma d rest s number here)) (refused_through e (λ (y : Known). rest_fields rest s number) (field d s number here) h)

pub fields_end : (xs : List NextDeclarator) (i : ℕ) (s : Specified) (number : ℕ) (said : Result (Known × Known) Fault) (here : Known) → length xs ≤ i → said ≡ rest_fields (map next_declarator_of (drop i xs)) s number here → said ≡ Ok (here, here)
fields_end xs i s number said here le goes = goes ∙ at_end next_declarator_of (λ l. rest_fields l s number here) xs i le ∙ fields_none s number here

pub field_split : (pointers : Symbols) (n : Symbol) (ss : SuffixTrees) (s : Specified) (number : ℕ) (known : Known) → field (tree.Declares pointers n ss) s number known ≡ go_on (λ (o : Outline). member_rule number o n.bytes (declarator_line pointers n)) (outline_of (tree.Declares pointers n ss) s false known)
unfolding field
field_split pointers n ss s number known = by_base (with_pointers pointers s.ty known) where
  by_made : (base : Qualified) (said : Result (List Made × Known) Fault) → go_on (λ (made : List Made) (k : Known). go_on (λ (o : Outline). member_rule number o n.bytes (declarator_line pointers n)) (outlined made (object_outline base s.waiting) k)) said ≡ go_on (λ (o : Outline). member_rule number o n.bytes (declarator_line pointers n)) (go_on (λ (made : List Made). outlined made (object_outline base s.waiting)) said)
  by_made base said = sym (go_on_both (λ (made : List Made). outlined made (object_outline base s.waiting)) (λ (o : Outline). member_rule number o n.bytes (declarator_line pointers n)) said)

  by_base : (said : Result (Qualified × Known) Fault) → go_on (λ (base : Qualified) (j : Known). go_on (λ (made : List Made) (k : Known). go_on (λ (o : Outline). member_rule number o n.bytes (declarator_line pointers n)) (outlined made (object_outline base s.waiting) k)) (suffixes ss false j)) said ≡ go_on (λ (o : Outline). member_rule number o n.bytes (declarator_line pointers n)) (go_on (λ (base : Qualified) (j : Known). go_on (λ (made : List Made). outlined made (object_outline base s.waiting)) (suffixes ss false j)) said)
  by_base (Err fault) = refl
  by_base (Ok x) = by_made x.0 (suffixes ss false x.1)

pub field_put : (t : DeclaratorTree) (pointers : Symbols) (n : Symbol) (ss : SuffixTrees) (s : Specified) (o : Outline) (number line : ℕ) (name : List ℕ) (known mid : Known) → t ≡ tree.Declares pointers n ss → name ≡ n.bytes → line ≡ line_in t → outline_of t s false known ≡ Ok (o, mid) → field t s number known ≡ member_rule number o name line mid
field_put t pointers n ss s o number line name known mid e named at h =
    ap (λ t. field t s number known) e ∙ field_split pointers n ss s number known ∙ ap (go_on (λ (o : Outline). member_rule number o n.bytes (declarator_line pointers n))) (ap (λ t. outline_of t s false known) (sym e) ∙ h)
    ∙ ap (λ b. member_rule number o b (declarator_line pointers n) mid) (sym named) ∙ ap (λ l. member_rule number o name l mid) (ap line_in (sym e) ∙ sym at)

pub field_refused : (t : DeclaratorTree) (pointers : Symbols) (n : Symbol) (ss : SuffixTrees) (s : Specified) (number : ℕ) (known : Known) (e : CheckError) → t ≡ tree.Declares pointers n ss → Refuses e (outline_of t s false known) → Refuses e (field t s number known)
field_refused t pointers n ss s number known e is h = subst (λ t. Refuses e (field t s number known)) (sym is) (subst (Refuses e) (sym (field_split pointers n ss s number known)) (refused_through e (λ (o : Outline). member_rule number o n.bytes (declarator_line pointers n)) (outline_of (tree.Declares pointers n ss) s false known) (subst (λ t. Refuses e (outline_of t s false known)) is h)))

-- ---- what a declarator makes of a type

abbrev pub after_base : SuffixTrees → Bool → Waiting → Qualified → Rule Outline
after_base ss bodies waiting base = λ k. go_on (λ (made : List Made). outlined made (object_outline base waiting)) (suffixes ss bodies k)

pub outline_ends : (t : DeclaratorTree) (pointers : Symbols) (n : Symbol) (ss : SuffixTrees) (s : Specified) (bodies : Bool) (base : Qualified) (made : List Made) (known mid here : Known) → t ≡ tree.Declares pointers n ss → with_pointers pointers s.ty known ≡ Ok (base, mid) → suffixes ss bodies mid ≡ Ok (made, here) → outline_of t s bodies known ≡ outlined made (object_outline base s.waiting) here
outline_ends t pointers n ss s bodies base made known mid here e p m = ap (λ t. outline_of t s bodies known) e ∙ ap (go_on (after_base ss bodies s.waiting)) p ∙ ap (go_on (λ (made : List Made). outlined made (object_outline base s.waiting))) m

pub outline_unpointed : (t : DeclaratorTree) (pointers : Symbols) (n : Symbol) (ss : SuffixTrees) (s : Specified) (bodies : Bool) (known : Known) (e : CheckError) → t ≡ tree.Declares pointers n ss → Refuses e (with_pointers pointers s.ty known) → Refuses e (outline_of t s bodies known)
outline_unpointed t pointers n ss s bodies known e is h = subst (λ t. Refuses e (outline_of t s bodies known)) (sym is) (refused_through e (after_base ss bodies s.waiting) (with_pointers pointers s.ty known) h)

pub outline_unmade : (t : DeclaratorTree) (pointers : Symbols) (n : Symbol) (ss : SuffixTrees) (s : Specified) (bodies : Bool) (base : Qualified) (known mid : Known) (e : CheckError) → t ≡ tree.Declares pointers n ss → with_pointers pointers s.ty known ≡ Ok (base, mid) → Refuses e (suffixes ss bodies mid) → Refuses e (outline_of t s bodies known)
outline_unmade t pointers n ss s bodies base known mid e is p h = subst (λ t. Refuses e (outline_of t s bodies known)) (sym is) (subst (Refuses e) (sym (ap (go_on (after_base ss bodies s.waiting)) p)) (refused_through e (λ (made : List Made). outlined made (object_outline base s.waiting)) (suffixes ss bodies mid) h))

-- ---- suffixes

abbrev pub rest_suffixes : List SuffixTree → Bool → Rule (List Made)
rest_suffixes ss bodies = suffixes (suffixes_of ss) bodies

abbrev pub fronted : List Made → List Made → Rule (List Made)
fronted made = λ more. given (made ++ more)

suffixes_split : (s : SuffixTree) (ss : List SuffixTree) (bodies : Bool) (k : Known) → rest_suffixes (s ∷ ss) bodies k ≡ go_on (λ (m : Made) (j : Known). go_on (λ (more : List Made). given (m ∷ more)) (rest_suffixes ss bodies j)) (suffix s bodies k)
unfolding suffixes
suffixes_split s ss bodies k = refl

suffixes_none : (bodies : Bool) (k : Known) → rest_suffixes [] bodies k ≡ Ok ([], k)
unfolding suffixes
suffixes_none bodies k = refl

fronted_none : (said : Result (List Made × Known) Fault) → said ≡ go_on (fronted []) said
fronted_none (Ok x) = refl
fronted_none (Err fault) = refl

fronted_more : (made : List Made) (m : Made) (said : Result (List Made × Known) Fault) → go_on (fronted made) (go_on (λ (more : List Made). given (m ∷ more)) said) ≡ go_on (fronted (made ++ m ∷ [])) said
fronted_more made m (Ok x) = ap (λ l. Ok (l, x.1)) (sym (append_assoc made (m ∷ []) x.0))
fronted_more made m (Err fault) = refl

pub suffixes_begin : (xs : List Suffix) (bodies : Bool) (made : List Made) (known : Known) → made ≡ [] → rest_suffixes (map suffix_of xs) bodies known ≡ go_on (fronted made) (rest_suffixes (map suffix_of (drop 0 xs)) bodies known)
suffixes_begin xs bodies made known n = fronted_none (rest_suffixes (map suffix_of xs) bodies known) ∙ ap (λ l. go_on (fronted l) (rest_suffixes (map suffix_of xs) bodies known)) (sym n)

pub suffixes_more : (xs : List Suffix) (i : ℕ) (x : Suffix) (bodies : Bool) (made now : List Made) (m : Made) (said : Result (List Made × Known) Fault) (here after : Known) → i < length xs → x ≡ get_or xs i x → now ≡ made ++ m ∷ [] → said ≡ go_on (fronted made) (rest_suffixes (map suffix_of (drop i xs)) bodies here) → suffix (suffix_of x) bodies here ≡ Ok (m, after) → said ≡ go_on (fronted now) (rest_suffixes (map suffix_of (drop (i + 1) xs)) bodies after)
suffixes_more xs i x bodies made now m said here after lt is put goes h =
    let rest = map suffix_of (drop (i + 1) xs) in
    goes ∙ ap (go_on (fronted made)) (at_front suffix_of (λ l. rest_suffixes l bodies here) xs i x lt is ∙ suffixes_split (suffix_of x) rest bodies here ∙ ap (go_on (λ (m : Made) (j : Known). go_on (λ (more : List Made). given (m ∷ more)) (rest_suffixes rest bodies j))) h)
    ∙ fronted_more made m (rest_suffixes rest bodies after) ∙ ap (λ l. go_on (fronted l) (rest_suffixes rest bodies after)) (sym put)

pub suffixes_refused : (xs : List Suffix) (i : ℕ) (x : Suffix) (bodies : Bool) (made : List Made) (said : Result (List Made × Known) Fault) (here : Known) (e : CheckError) → i < length xs → x ≡ get_or xs i x → said ≡ go_on (fronted made) (rest_suffixes (map suffix_of (drop i xs)) bodies here) → Refuses e (suffix (suffix_of x) bodies here) → Refuses e said
suffixes_refused xs i x bodies made said here e lt is goes h =
    let rest = map suffix_of (drop (i + 1) xs) in
    subst (Refuses e) (sym (goes ∙ ap (go_on (fronted made)) (at_front suffix_of (λ l. rest_suffixes l bodies here) xs i x lt is ∙ suffixes_split (suffix_of x) rest bodies here)))
    (refused_through e (fronted made) (go_on (λ (m : Made) (j : Known). go_on (λ (more : List Made). given (m ∷ more)) (rest_suffixes rest bodies j)) (suffix (suffix_of x) bodies here)) (refused_through e (λ (m : Made) (j : Known). go_on (λ (more : List Made). given (m ∷ more)) (rest_suffixes rest bodies j)) (suffix (suffix_of x) bodies here) h))

pub suffixes_end : (xs : List Suffix) (i : ℕ) (bodies : Bool) (made : List Made) (said : Result (List Made × Known) Fault) (here : Known) → length xs ≤ i → said ≡ go_on (fronted made) (rest_suffixes (map suffix_of (drop i xs)) bodies here) → said ≡ Ok (made, here)
suffixes_end xs i bodies made said here le goes = goes ∙ ap (go_on (fronted made)) (at_end suffix_of (λ l. rest_suffixes l bodies here) xs i le ∙ suffixes_none bodies here) ∙ ap (λ l. Ok (l, here)) (append-nil made)

-- ---- one suffix

pub suffix_unsized : (opening closing : ℕ) (bodies : Bool) (k : Known) → suffix (tree.Unsized opening closing) bodies k ≡ Ok (ArrayMade 0, k)
unfolding suffix
suffix_unsized opening closing bodies k = refl

pub suffix_sized : (opening : ℕ) (e : Tree) (closing count : ℕ) (bodies : Bool) (known after : Known) → array_length e known ≡ Ok (count, after) → suffix (tree.Sized opening e closing) bodies known ≡ Ok (ArrayMade count, after)
unfolding suffix
suffix_sized opening e closing count bodies known after h = ap (go_on (λ (n : ℕ). given (ArrayMade n))) h

pub suffix_unlengthed : (opening : ℕ) (t : Tree) (closing : ℕ) (bodies : Bool) (known : Known) (e : CheckError) → Refuses e (array_length t known) → Refuses e (suffix (tree.Sized opening t closing) bodies known)
unfolding suffix
suffix_unlengthed opening t closing bodies known e h = refused_through e (λ (n : ℕ). given (ArrayMade n)) (array_length t known) h

pub suffix_empty : (opening closing : ℕ) (bodies : Bool) (k : Known) → suffix (tree.Empty opening closing) bodies k ≡ Ok (FunctionMade [] [], k)
unfolding suffix
suffix_empty opening closing bodies k = refl

pub suffix_void : (opening word closing : ℕ) (bodies : Bool) (k : Known) → suffix (tree.VoidOnly opening word closing) bodies k ≡ Ok (FunctionMade [] [], k)
unfolding suffix
suffix_void opening word closing bodies k = refl

abbrev pub list_closed : List Param → Rule Made
list_closed all = λ k. go_on (λ (scope : Scope). given (FunctionMade all scope)) (leave_list k)

abbrev pub list_more : MoreParams → Bool → List Param → Rule Made
list_more ps bodies first = λ k. go_on list_closed (rule.more_params ps bodies first k)

abbrev pub list_begun : ParamTree → MoreParams → Bool → Known → Rule Made
list_begun p ps bodies = λ (x : Known) (k : Known). go_on (list_more ps bodies) (param p bodies [] k)

params_split : (opening : ℕ) (p : ParamTree) (ps : MoreParams) (closing : ℕ) (bodies : Bool) (known : Known) → suffix (tree.Params opening p ps closing) bodies known ≡ go_on (list_begun p ps bodies) (enter_list known)
unfolding suffix
params_split opening p ps closing bodies known = refl

pub params_whole : (opening : ℕ) (p : ParamTree) (ps : MoreParams) (closing : ℕ) (bodies : Bool) (first all : List Param) (scope : Scope) (known inner mid end after : Known) → enter_list known ≡ Ok (inner, inner) → param p bodies [] inner ≡ Ok (first, mid) → rule.more_params ps bodies first mid ≡ Ok (all, end) → leave_list end ≡ Ok (scope, after) → suffix (tree.Params opening p ps closing) bodies known ≡ Ok (FunctionMade all scope, after)
params_whole opening p ps closing bodies first all scope known inner mid end after e f m l = params_split opening p ps closing bodies known ∙ ap (go_on (list_begun p ps bodies)) e ∙ ap (go_on (list_more ps bodies)) f ∙ ap (go_on list_closed) m ∙ ap (go_on (λ (names : Scope). given (FunctionMade all names))) l

pub params_closed : (opening : ℕ) (p : ParamTree) (ps : MoreParams) (closing : ℕ) (bodies : Bool) (known : Known) (e : CheckError) → Refuses e (enter_list known) → Refuses e (suffix (tree.Params opening p ps closing) bodies known)
params_closed opening p ps closing bodies known e h = subst (Refuses e) (sym (params_split opening p ps closing bodies known)) (refused_through e (list_begun p ps bodies) (enter_list known) h)

pub params_first : (opening : ℕ) (p : ParamTree) (ps : MoreParams) (closing : ℕ) (bodies : Bool) (known inner : Known) (e : CheckError) → enter_list known ≡ Ok (inner, inner) → Refuses e (param p bodies [] inner) → Refuses e (suffix (tree.Params opening p ps closing) bodies known)
params_first opening p ps closing bodies known inner e b h = subst (Refuses e) (sym (params_split opening p ps closing bodies known ∙ ap (go_on (list_begun p ps bodies)) b)) (refused_through e (list_more ps bodies) (param p bodies [] inner) h)

pub params_others : (opening : ℕ) (p : ParamTree) (ps : MoreParams) (closing : ℕ) (bodies : Bool) (first : List Param) (known inner mid : Known) (e : CheckError) → enter_list known ≡ Ok (inner, inner) → param p bodies [] inner ≡ Ok (first, mid) → Refuses e (rule.more_params ps bodies first mid) → Refuses e (suffix (tree.Params opening p ps closing) bodies known)
params_others opening p ps closing bodies first known inner mid e b f h = subst (Refuses e) (sym (params_split opening p ps closing bodies known ∙ ap (go_on (list_begun p ps bodies)) b ∙ ap (go_on (list_more ps bodies)) f)) (refused_through e list_closed (rule.more_params ps bodies first mid) h)

-- ---- lists of parameters

abbrev pub rest_params : List (ℕ × ParamTree) → Bool → List Param → Rule (List Param)
rest_params ps bodies before = rule.more_params (more_params ps) bodies before

rest_params_split : (comma : ℕ) (p : ParamTree) (ps : List (ℕ × ParamTree)) (bodies : Bool) (before : List Param) (k : Known) → rest_params ((comma, p) ∷ ps) bodies before k ≡ go_on (λ (l : List Param). rest_params ps bodies l) (param p bodies before k)
unfolding rule.more_params
rest_params_split comma p ps bodies before k = refl

rest_params_none : (bodies : Bool) (before : List Param) (k : Known) → rest_params [] bodies before k ≡ Ok (before, k)
unfolding rule.more_params
rest_params_none bodies before k = refl

pub params_more : (xs : List NextParam) (i : ℕ) (x : NextParam) (comma : ℕ) (p : ParamTree) (bodies : Bool) (before now : List Param) (said : Result (List Param × Known) Fault) (here after : Known) → i < length xs → x ≡ get_or xs i x → next_param_of x ≡ (comma, p) → said ≡ rest_params (map next_param_of (drop i xs)) bodies before here → param p bodies before here ≡ Ok (now, after) → said ≡ rest_params (map next_param_of (drop (i + 1) xs)) bodies now after
params_more xs i x comma p bodies before now said here after lt is shown goes h =
    let rest = map next_param_of (drop (i + 1) xs) in
    goes ∙ at_front next_param_of (λ l. rest_params l bodies before here) xs i x lt is ∙ ap (λ y. rest_params (y ∷ rest) bodies before here) shown ∙ rest_params_split comma p rest bodies before here ∙ ap (go_on (λ (l : List Param). rest_params rest bodies l)) h

pub params_refused : (xs : List NextParam) (i : ℕ) (x : NextParam) (comma : ℕ) (p : ParamTree) (bodies : Bool) (before : List Param) (said : Result (List Param × Known) Fault) (here : Known) (e : CheckError) → i < length xs → x ≡ get_or xs i x → next_param_of x ≡ (comma, p) → said ≡ rest_params (map next_param_of (drop i xs)) bodies before here → Refuses e (param p bodies before here) → Refuses e said
params_refused xs i x comma p bodies before said here e lt is shown goes h =
    let rest = map next_param_of (drop (i + 1) xs) in
    subst (Refuses e) (sym (goes ∙ at_front next_param_of (λ l. rest_params l bodies before here) xs i x lt is ∙ ap (λ y. rest_params (y ∷ rest) bodies before here) shown ∙ rest_params_split comma p rest bodies before here)) (refused_through e (λ (l : List Param). rest_params rest bodies l) (param p bodies before here) h)

pub params_end : (xs : List NextParam) (i : ℕ) (bodies : Bool) (before : List Param) (said : Result (List Param × Known) Fault) (here : Known) → length xs ≤ i → said ≡ rest_params (map next_param_of (drop i xs)) bodies before here → said ≡ Ok (before, here)
params_end xs i bodies before said here le goes = goes ∙ at_end next_param_of (λ l. rest_params l bodies before here) xs i le ∙ rest_params_none bodies before here

-- ---- one parameter, with a name or without one

-- the parts of a parameter: specifiers, pointers, suffixes, the bytes of its name, and its line where specifiers were read
pub record Shape : Type 0 where
  pub specs : SpecTrees
  pub pointers : Symbols
  pub suffixed : SuffixTrees
  pub name : List ℕ
  pub line : Specified → ℕ

abbrev pub param_ends : Shape → List Param → Specified → Outline → Rule (List Param)
param_ends p before said o = param_rule before said o p.name (p.line said)

abbrev pub param_made : Shape → List Param → Specified → Qualified → List Made → Rule (List Param)
param_made p before said base made = λ k. go_on (param_ends p before said) (param_outlined made (object_outline base said.waiting) k)

abbrev pub param_pointed : Shape → Bool → List Param → Specified → Qualified → Rule (List Param)
param_pointed p bodies before said base = λ k. go_on (param_made p before said base) (suffixes p.suffixed bodies k)

abbrev pub param_said : Shape → Bool → List Param → Specified → Rule (List Param)
param_said p bodies before said = λ k. go_on (param_pointed p bodies before said) (with_pointers p.pointers said.ty k)

abbrev pub shaped : Shape → Bool → List Param → Rule (List Param)
shaped p bodies before = λ k. go_on (param_said p bodies before) (specified p.specs (of_param bodies) k)

abbrev pub named_shape : SpecTrees → Symbols → Symbol → SuffixTrees → Shape
named_shape s pointers n ss = record { specs = s; pointers = pointers; suffixed = ss; name = n.bytes; line = λ said. declarator_line pointers n }

abbrev pub unnamed_shape : SpecTrees → Symbols → SuffixTrees → Shape
unnamed_shape s pointers ss = record { specs = s; pointers = pointers; suffixed = ss; name = []; line = λ said. said.line }

pub param_named : (s : SpecTrees) (pointers : Symbols) (n : Symbol) (ss : SuffixTrees) (bodies : Bool) (before : List Param) (k : Known) → param (tree.Named s (tree.Declares pointers n ss)) bodies before k ≡ shaped (named_shape s pointers n ss) bodies before k
unfolding param
param_named s pointers n ss bodies before k = refl

pub param_unnamed : (s : SpecTrees) (pointers : Symbols) (ss : SuffixTrees) (bodies : Bool) (before : List Param) (k : Known) → param (tree.Unnamed s pointers ss) bodies before k ≡ shaped (unnamed_shape s pointers ss) bodies before k
unfolding param
param_unnamed s pointers ss bodies before k = refl

pub param_whole : (p : Shape) (bodies : Bool) (before : List Param) (said : Specified) (base : Qualified) (made : List Made) (o : Outline) (known one two three four : Known) → specified p.specs (of_param bodies) known ≡ Ok (said, one) → with_pointers p.pointers said.ty one ≡ Ok (base, two) → suffixes p.suffixed bodies two ≡ Ok (made, three) → param_outlined made (object_outline base said.waiting) three ≡ Ok (o, four) → shaped p bodies before known ≡ param_rule before said o p.name (p.line said) four
param_whole p bodies before said base made o known one two three four a b c d = ap (go_on (param_said p bodies before)) a ∙ ap (go_on (param_pointed p bodies before said)) b ∙ ap (go_on (param_made p before said base)) c ∙ ap (go_on (param_ends p before said)) d

pub param_unsaid : (p : Shape) (bodies : Bool) (before : List Param) (known : Known) (e : CheckError) → Refuses e (specified p.specs (of_param bodies) known) → Refuses e (shaped p bodies before known)
param_unsaid p bodies before known e h = refused_through e (param_said p bodies before) (specified p.specs (of_param bodies) known) h

pub param_unpointed : (p : Shape) (bodies : Bool) (before : List Param) (said : Specified) (known one : Known) (e : CheckError) → specified p.specs (of_param bodies) known ≡ Ok (said, one) → Refuses e (with_pointers p.pointers said.ty one) → Refuses e (shaped p bodies before known)
param_unpointed p bodies before said known one e a h = subst (Refuses e) (sym (ap (go_on (param_said p bodies before)) a)) (refused_through e (param_pointed p bodies before said) (with_pointers p.pointers said.ty one) h)

pub param_unmade : (p : Shape) (bodies : Bool) (before : List Param) (said : Specified) (base : Qualified) (known one two : Known) (e : CheckError) → specified p.specs (of_param bodies) known ≡ Ok (said, one) → with_pointers p.pointers said.ty one ≡ Ok (base, two) → Refuses e (suffixes p.suffixed bodies two) → Refuses e (shaped p bodies before known)
param_unmade p bodies before said base known one two e a b h = subst (Refuses e) (sym (ap (go_on (param_said p bodies before)) a ∙ ap (go_on (param_pointed p bodies before said)) b)) (refused_through e (param_made p before said base) (suffixes p.suffixed bodies two) h)

pub param_unlined : (p : Shape) (bodies : Bool) (before : List Param) (said : Specified) (base : Qualified) (made : List Made) (known one two three : Known) (e : CheckError) → specified p.specs (of_param bodies) known ≡ Ok (said, one) → with_pointers p.pointers said.ty one ≡ Ok (base, two) → suffixes p.suffixed bodies two ≡ Ok (made, three) → Refuses e (param_outlined made (object_outline base said.waiting) three) → Refuses e (shaped p bodies before known)
param_unlined p bodies before said base made known one two three e a b c h = subst (Refuses e) (sym (ap (go_on (param_said p bodies before)) a ∙ ap (go_on (param_pointed p bodies before said)) b ∙ ap (go_on (param_made p before said base)) c)) (refused_through e (param_ends p before said) (param_outlined made (object_outline base said.waiting) three) h)

-- ---- a body that opens

pub opened_again : (context : Context) (tag : Symbols) (line number : ℕ) (known mid : Known) → structure_in context tag line known ≡ Ok (number, mid) → is_absent (progress_of mid number) ≡ false → body_opened context tag line known ≡ Err (record { kind = kind.Again; line = line })
opened_again context tag line number known mid h a = rw (h, a)

pub opened_inside : (context : Context) (tag : Symbols) (line number : ℕ) (known mid : Known) → structure_in context tag line known ≡ Ok (number, mid) → is_absent (progress_of mid number) ≡ true → context.bodies ≡ false → body_opened context tag line known ≡ Err (record { kind = kind.Declare; line = line })
opened_inside context tag line number known mid h a b = rw (h, a, b)

pub opened_well : (context : Context) (tag : Symbols) (line number : ℕ) (known mid after : Known) → structure_in context tag line known ≡ Ok (number, mid) → is_absent (progress_of mid number) ≡ true → context.bodies ≡ true → set_progress number Open mid ≡ Ok (after, after) → body_opened context tag line known ≡ Ok (number, after)
opened_well context tag line number known mid after h a b s = rw (h, a, b) (ap (go_on (λ (x : Known). given number)) s)

-- ---- one specifier, by what is kept

pub word_named : (t : SpecTree) (word : Word) (g : Gathered) (w v : Words) (k : Known) → t ≡ tree.OneWord (keyed word) → v ≡ worded word.keyword w → w ≡ kept_of g → GathersTo v k (named_spec t g k)
word_named t word g w v k e h i = record { gathered = record g { words = word.keyword ∷ g.words }; kept = h ∙ ap (worded word.keyword) i ∙ kept_word word.keyword g; answers = ap (λ t. named_spec t g k) e }

pub word_given : (t : SpecTree) (word : Word) (context : Context) (g : Gathered) (w v : Words) (k : Known) → t ≡ tree.OneWord (keyed word) → v ≡ worded word.keyword w → w ≡ kept_of g → GathersTo v k (spec_rule t context g k)
unfolding spec_rule
word_given t word context g w v k e h i = record { gathered = record g { words = word.keyword ∷ g.words }; kept = h ∙ ap (worded word.keyword) i ∙ kept_word word.keyword g; answers = ap (λ t. spec_rule t context g k) e }

pub tag_given : (t : SpecTree) (line : ℕ) (n : Symbol) (context : Context) (g : Gathered) (number : ℕ) (w v : Words) (known after : Known) → t ≡ tree.Tagged line n → structure_of context n.bytes line known ≡ Ok (number, after) → v ≡ based (bases.Structure number) w → w ≡ kept_of g → GathersTo v after (spec_rule t context g known)
tag_given t line n context g number w v known after e s h i = record { gathered = with_base (StructBase number) g; kept = h ∙ ap (based (bases.Structure number)) i ∙ kept_base (bases.Structure number) g; answers = ap (λ t. spec_rule t context g known) e ∙ reference_given line n context g number known after s }

pub tag_refused : (t : SpecTree) (line : ℕ) (n : Symbol) (context : Context) (g : Gathered) (known : Known) (e : CheckError) → t ≡ tree.Tagged line n → Refuses e (structure_of context n.bytes line known) → Refuses e (spec_rule t context g known)
tag_refused t line n context g known e is h = subst (λ t. Refuses e (spec_rule t context g known)) (sym is) (reference_refused line n context g known e h)

pub body_given : (t : SpecTree) (line : ℕ) (tag : Symbols) (o : ℕ) (m : MemberTree) (ms : MoreMembers) (c number : ℕ) (context : Context) (g : Gathered) (w v : Words) (known mid after : Known) → t ≡ tree.Body line tag o m ms c → body_opened context tag line known ≡ Ok (number, mid) → body_rule t number mid ≡ Ok (after, after) → v ≡ based (bases.Structure number) w → w ≡ kept_of g → GathersTo v after (spec_rule t context g known)
body_given t line tag o m ms c number context g w v known mid after e s b h i = record {
  gathered = with_base (StructBase number) g;
  kept = h ∙ ap (based (bases.Structure number)) i ∙ kept_base (bases.Structure number) g;
  answers = ap (λ t. spec_rule t context g known) e ∙ body_split line tag o m ms c context g known ∙ ap (go_on (λ (n : ℕ) (k : Known). go_on (λ (x : Known). given (with_base (StructBase n) g)) (body_rule (tree.Body line tag o m ms c) n k))) s
      ∙ ap (λ t. go_on (λ (x : Known). given (with_base (StructBase number) g)) (body_rule t number mid)) (sym e) ∙ ap (go_on (λ (x : Known). given (with_base (StructBase number) g))) b;
}

pub body_unopened : (t : SpecTree) (line : ℕ) (tag : Symbols) (o : ℕ) (m : MemberTree) (ms : MoreMembers) (c : ℕ) (context : Context) (g : Gathered) (known : Known) (e : CheckError) → t ≡ tree.Body line tag o m ms c → Refuses e (body_opened context tag line known) → Refuses e (spec_rule t context g known)
body_unopened t line tag o m ms c context g known e is h = subst (Refuses e) (sym (ap (λ t. spec_rule t context g known) is ∙ body_split line tag o m ms c context g known)) (refused_through e (λ (n : ℕ) (k : Known). go_on (λ (x : Known). given (with_base (StructBase n) g)) (body_rule (tree.Body line tag o m ms c) n k)) (body_opened context tag line known) h)

pub body_unclosed : (t : SpecTree) (line : ℕ) (tag : Symbols) (o : ℕ) (m : MemberTree) (ms : MoreMembers) (c number : ℕ) (context : Context) (g : Gathered) (known mid : Known) (e : CheckError) → t ≡ tree.Body line tag o m ms c → body_opened context tag line known ≡ Ok (number, mid) → Refuses e (body_rule t number mid) → Refuses e (spec_rule t context g known)
body_unclosed t line tag o m ms c number context g known mid e is s h = subst (Refuses e) (sym (ap (λ t. spec_rule t context g known) is ∙ body_split line tag o m ms c context g known ∙ ap (go_on (λ (n : ℕ) (k : Known). go_on (λ (x : Known). given (with_base (StructBase n) g)) (body_rule (tree.Body line tag o m ms c) n k))) s)) (refused_through e (λ (x : Known). given (with_base (StructBase number) g)) (body_rule (tree.Body line tag o m ms c) number mid) (subst (λ t. Refuses e (body_rule t number mid)) is h))

-- ---- the name of a type, and enumerations

abbrev pub with_base_in : Gathered → rule_specifiers.Base → Rule Gathered
with_base_in g base = given (with_base base g)

pub base_given : (said : Result (rule_specifiers.Base × Known) Fault) (g : Gathered) (base : Base) (w v : Words) (after : Known) → said ≡ Ok (base_of base, after) → v ≡ based base w → w ≡ kept_of g → GathersTo v after (go_on (with_base_in g) said)
base_given said g base w v after b h i = record { gathered = with_base (base_of base) g; kept = h ∙ ap (based base) i ∙ kept_base base g; answers = ap (go_on (with_base_in g)) b }

pub base_refused : (said : Result (rule_specifiers.Base × Known) Fault) (g : Gathered) (e : CheckError) → Refuses e said → Refuses e (go_on (with_base_in g) said)
base_refused said g e h = refused_through e (with_base_in g) said h

pub named_type_given : (s : Symbol) (context : Context) (g : Gathered) (k : Known) → spec_rule (tree.NamedType s) context g k ≡ rule_specifiers.type_name_rule s g k
unfolding spec_rule
named_type_given s context g k = refl

pub enum_tagged_given : (line : ℕ) (n : Symbol) (context : Context) (g : Gathered) (k : Known) → spec_rule (tree.EnumTagged line n) context g k ≡ names.enum_rule n line g k
unfolding spec_rule
enum_tagged_given line n context g k = refl

enum_split : (line : ℕ) (tag : Symbols) (o : ℕ) (e : EnumeratorTree) (es : MoreEnumerators) (last : Option ℕ) (c : ℕ) (context : Context) (g : Gathered) (k : Known)
    → spec_rule (tree.EnumBody line tag o e es last c) context g k ≡ go_on (λ (x : Known). given (with_base EnumBase g)) (rule.enum_body context tag e es line k)
unfolding spec_rule
enum_split line tag o e es last c context g k = refl

pub enum_given : (t : SpecTree) (line : ℕ) (tag : Symbols) (o : ℕ) (e : EnumeratorTree) (es : MoreEnumerators) (last : Option ℕ) (c : ℕ) (context : Context) (g : Gathered) (w v : Words) (known after : Known) → t ≡ tree.EnumBody line tag o e es last c → enum_rule t context.bodies known ≡ Ok (after, after) → v ≡ based bases.Enumeration w → w ≡ kept_of g → GathersTo v after (spec_rule t context g known)
enum_given t line tag o e es last c context g w v known after is b h i = record {
  gathered = with_base EnumBase g;
  kept = h ∙ ap (based bases.Enumeration) i ∙ kept_base bases.Enumeration g;
  answers = ap (λ t. spec_rule t context g known) is ∙ enum_split line tag o e es last c context g known ∙ ap (go_on (λ (x : Known). given (with_base EnumBase g))) (ap (λ t. enum_rule t context.bodies known) (sym is) ∙ b);
}

pub enum_refused : (t : SpecTree) (line : ℕ) (tag : Symbols) (o : ℕ) (e : EnumeratorTree) (es : MoreEnumerators) (last : Option ℕ) (c : ℕ) (context : Context) (g : Gathered) (known : Known) (error : CheckError) → t ≡ tree.EnumBody line tag o e es last c → Refuses error (enum_rule t context.bodies known) → Refuses error (spec_rule t context g known)
enum_refused t line tag o e es last c context g known error is h = subst (λ t. Refuses error (spec_rule t context g known)) (sym is) (subst (Refuses error) (sym (enum_split line tag o e es last c context g known)) (refused_through error (λ (x : Known). given (with_base EnumBase g)) (rule.enum_body context tag e es line known) (subst (λ t. Refuses error (enum_rule t context.bodies known)) is h)))
