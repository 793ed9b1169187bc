-- Specifiers with structures, declarators and parameters: the tables stay in order, and the types that they make are there.
use Rattle.std.proofs.Common.{◌≡◌, ℕ, ◌+◌, ◌-◌, Bool, true, false, not, if◌then◌else◌, List, [], ◌∷◌, ◌++◌, length, Option, Some, None, Result, Ok, Err, ◌⊎◌, inl, inr, refl, sym, ap, ◌∙◌, subst, true≢false}
use Rattle.std.specs.Prelude.{slice_get}
use Rattle.c_nodes.specs.Trees as tree
use Rattle.c_nodes.specs.Trees.{SpecTrees, MoreSpecs, SpecTree, EnumeratorTree, MoreEnumerators, MemberTree, MoreMembers, MoreDeclarators, DeclaratorTree, SuffixTrees, SuffixTree, MoreParams, ParamTree}
use Rattle.c_nodes.specs.Words.{Symbols}
use Rattle.c_typed.specs.declared.types.Qualified.{Qualified}
use Rattle.type_rules.specs.Declarators.{Context, of_member, of_param, declares_tags, tag_or_new, structure_of, structure_in, body_opened, is_tagged, enum_closed, enum_body, specified, more_specs, spec_rule, members, more_members, more_fields, field, suffixes, suffix, more_params, param, outline_of}
use Rattle.type_rules.specs.Enumerators.{enumerators}
use Rattle.type_rules.specs.Faults as kind
use Rattle.type_rules.specs.Faults.{Fault}
use Rattle.type_rules.specs.Known.{Tag, StructTag, EnumTag, Open, Scope, Shape, Known, Rule, go_on, broken, given}
use Rattle.type_rules.specs.Names.{leave_list, without_first, first_scope, with_entry}
use Rattle.type_rules.specs.Outlines.{Param, Made, FunctionMade, object_outline, declarator_line}
use Rattle.type_rules.specs.Rows.{is_absent, progress_in, progress_of, tagged, set_progress, new_structure, no_members, new_tag, new_enum_tag}
use Rattle.type_rules.specs.Specifiers.{Base, StructBase, EnumBase, NamedBase, Gathered, nothing_gathered, with_base, Specified, spec_line}
use Rattle.typed_laws.specs.Spreading.{Grows, Spreads, Runs, IsOpen, AreParams, IsMade, IsDeclared, Doomed, Fates, IsNoParam, IsParamDeclared}
use Rattle.typed_laws.specs.Tables.{Each, IsBase, IsBound, AreBound, IsThere, IsTag, IsNamedBase, Orderly}
use Rattle.typed_laws.proofs.Enumerating.{enumerated_none, enumerated_on, first_of}
use Rattle.typed_laws.proofs.Enumerators.{length_goes, enumerators_run}
use Rattle.typed_laws.proofs.Expressions.{specifiers_goes, pointers_go, worded, type_name_goes, enum_goes}
use Rattle.typed_laws.proofs.Lists.{all_more, got_left, got_last}
use Rattle.typed_laws.proofs.Operators.{not_false}
use Rattle.typed_laws.proofs.Outlines.{runs_first, fates_after, fates_on, outlined_fates, param_fates, params_spread, list_grows, made_grows, scoped_orderly, scoped_grows, param_refused, member_refused, param_rule_runs, member_rule_runs}
use Rattle.typed_laws.proofs.Scopes.{inner_left, entry_holds, put_holds}
use Rattle.typed_laws.proofs.Spreading.{equal_or_not, grows_on, stands_grows, shape_grows, tags_grow, runs_given, runs_wider, runs_broken, runs_on, runs_test, from_goes}
use Rattle.typed_laws.proofs.Structures.{shaped_orderly, more_runs, opened_runs, closed_runs, open_kept}

-- ---- tags

there_grows : (before after : Known) → Grows before after → (n : ℕ) → IsThere before n → IsThere after n
there_grows before after g n h = let t = g.shapes n h.0 h.1 in (t.0, t.1)

-- the tags as they are, with a structure more
tag_later : (known : Known) (tags : List (List ℕ × Tag)) (tag : Tag) → IsTag known tag → IsTag (record known { shapes = known.shapes ++ no_members ∷ []; tags = tags }) tag
tag_later known tags (StructTag n) h = (h.0, got_left known.shapes (no_members ∷ []) n h.0 h.1)
tag_later known tags EnumTag h = tt

module _ (known : Known) (o : Orderly known) where
  new_structure_runs : Runs None false known (λ n k. IsThere k n) (new_structure known)
  new_structure_runs = more_runs known o known.tags (all_more known.tags (λ e. tag_later known known.tags e.1) o.tags)

  new_tag_runs : (tag : List ℕ) → Runs None false known (λ n k. IsThere k n) (new_tag tag known)
  new_tag_runs tag = more_runs known o (with_entry known.tags tag (StructTag (length known.shapes)))
      (put_holds (IsTag (record known { shapes = known.shapes ++ no_members ∷ []; tags = with_entry known.tags tag (StructTag (length known.shapes)) })) known.tags tag (StructTag (length known.shapes))
      (no_members, got_last known.shapes no_members)
      (all_more known.tags (λ e. tag_later known (with_entry known.tags tag (StructTag (length known.shapes))) e.1) o.tags))

  tag_runs : (found : Option Tag) (context : Context) (tag : List ℕ) (line : ℕ) → ((t : Tag) → found ≡ Some t → IsTag known t) → Runs None false known (λ n k. IsThere k n) (tag_or_new found context tag line known)
  tag_runs (Some (StructTag n)) context tag line there = runs_given None false _ known n o (there (StructTag n) refl)
  tag_runs (Some EnumTag) context tag line there = runs_broken None false _ known _
  tag_runs None context tag line there = by_site (declares_tags context.site)
    where
      by_site : (b : Bool) → Runs None false known (λ n k. IsThere k n) ((if b then new_tag tag else broken kind.Name line) known)
      by_site true = new_tag_runs tag
      by_site false = runs_broken None false _ known _

  pub structure_of_runs : (context : Context) (tag : List ℕ) (line : ℕ) → Runs None false known (λ n k. IsThere k n) (structure_of context tag line known)
  structure_of_runs context tag line = tag_runs (tagged known tag) context tag line (λ t is. entry_holds (IsTag known) known.tags tag t o.tags is)

  structure_in_runs : (context : Context) (tag : Symbols) (line : ℕ) → Runs None false known (λ n k. IsThere k n) (structure_in context tag line known)
  structure_in_runs context [] line = new_structure_runs
  structure_in_runs context (n ∷ ns) line = structure_of_runs context n.bytes line

  -- the tag of an enumeration
  new_enum_runs : (tag : List ℕ) → Runs None false known (λ x k. Unit {0}) (new_enum_tag tag known)
  unfolding Runs
  new_enum_runs tag = record {
    spreads = record { grows = grows; spared = λ n s h body free. h; scopes = enumerated_none known.scopes known.scopes refl; signatures = refl; definitions = refl; statics = refl; body = refl };
    orderly = shaped_orderly known known.shapes (with_entry known.tags tag EnumTag) o grows (λ n s h. shape_grows known (record known { tags = with_entry known.tags tag EnumTag }) grows o s (o.shapes n s h))
        (put_holds (IsTag (record known { tags = with_entry known.tags tag EnumTag })) known.tags tag EnumTag tt (tags_grow known (record known { tags = with_entry known.tags tag EnumTag }) grows known.tags o.tags));
    holds = tt;
  }
    where
      grows : Grows known (record known { tags = with_entry known.tags tag EnumTag })
      grows = record { rows = λ row q h. h; shapes = λ n s h. (s, h, λ e. refl); statics = λ n s h. (s, h, refl) }

  enum_closed_runs : (tag : Symbols) → Runs None false known (λ x k. Unit {0}) (enum_closed tag known)
  enum_closed_runs [] = runs_given None false _ known _ o tt
  enum_closed_runs (n ∷ ns) = new_enum_runs n.bytes

-- the body of an enumeration
enum_body_runs : (known : Known) → Orderly known → (context : Context) (tag : Symbols) (e : EnumeratorTree) (es : MoreEnumerators) (line : ℕ) → Runs None false known (λ x k. Unit {0}) (enum_body context tag e es line known)
enum_body_runs known o context tag e es line =
    runs_test None false _ known (is_tagged known tag) kind.Again ((not context.bodies, kind.Declare) ∷ []) line (λ u. λ k. go_on (λ x. enum_closed tag) (enumerators e es k)) (λ new.
    runs_test None false _ known (not context.bodies) kind.Declare [] line (λ u. λ k. go_on (λ x. enum_closed tag) (enumerators e es k)) (λ allowed.
    runs_on None false (λ m k. Unit {0}) _ known _ (λ x. enum_closed tag) (enumerators_run known o e es) (λ m mid s o2 u. enum_closed_runs mid o2 tag)))

-- A body is opened where its structure had none.
WasFree : Known → ℕ → Type 0
WasFree known number = (s : Shape) → slice_get known.shapes number ≡ Some s → is_absent s.body ≡ true

IsOpened : Known → ℕ → Known → Type 0
IsOpened before number known = IsOpen false known number × WasFree before number

absent_in : (known : Known) (number : ℕ) (s : Shape) → slice_get known.shapes number ≡ Some s → is_absent (progress_of known number) ≡ true → is_absent s.body ≡ true
absent_in known number s there h = ap (λ x. is_absent (progress_in x)) (sym there) ∙ h

free_before : (before mid : Known) (number : ℕ) → Spreads None false before mid → is_absent (progress_of mid number) ≡ true → WasFree before number
unfolding WasFree
free_before before mid number s absent x there = by_test (is_absent x.body) refl
  where
    by_test : (b : Bool) → is_absent x.body ≡ b → is_absent x.body ≡ true
    by_test true e = e
    by_test false e = absurd (true≢false (sym (absent_in mid number x (s.spared number x there e tt) absent) ∙ e))

opened_is : (before mid : Known) (number : ℕ) → IsOpen false mid number → WasFree before number → IsOpened before number mid
unfolding IsOpened
opened_is before mid number h free = (h, free)

opened_parts : (before mid : Known) (number : ℕ) → IsOpened before number mid → IsOpen false mid number × WasFree before number
unfolding IsOpened
opened_parts before mid number h = h

body_opened_runs : (known : Known) → Orderly known → (context : Context) (tag : Symbols) (line : ℕ) → Runs None false known (λ n k. IsOpened known n k) (body_opened context tag line known)
body_opened_runs known o context tag line = runs_on None false (λ n k. IsThere k n) _ known _ _ (structure_in_runs known o context tag line)
    (λ number mid s o2 there. runs_test None false _ mid (not (is_absent (progress_of mid number))) kind.Again ((not context.bodies, kind.Declare) ∷ []) line (λ u. λ k. go_on (λ x. given number) (set_progress number Open k))
    (λ e. runs_test None false _ mid (not context.bodies) kind.Declare [] line (λ u. λ k. go_on (λ x. given number) (set_progress number Open k))
    (λ e2. runs_on None false (λ x k. IsOpen false k number) _ mid _ (λ x. given number) (opened_runs mid o2 number there.0 there.1 (absent_in mid number there.0 there.1 (not_false (is_absent (progress_of mid number)) e)))
    (λ x after s2 o3 h. runs_given None false _ after number o3 (opened_is known after number h (free_before known mid number s (not_false (is_absent (progress_of mid number)) e)))))))

-- Where the structure of a body was free before, the body changes no other.
unskip : (before mid after : Known) (number : ℕ) → WasFree before number → Spreads None false before mid → Spreads (Some number) false mid after → Spreads None false before after
unfolding WasFree
unskip before mid after number free a b = record {
  grows = grows_on before mid after a.grows b.grows;
  spared = λ n s there present u. by_number n s there present (equal_or_not number n);
  scopes = enumerated_on before.scopes mid.scopes after.scopes a.scopes b.scopes;
  signatures = b.signatures ∙ a.signatures;
  definitions = b.definitions ∙ a.definitions;
  statics = b.statics ∙ a.statics;
  body = b.body ∙ a.body;
}
  where
    by_number : (n : ℕ) (s : Shape) → slice_get before.shapes n ≡ Some s → is_absent s.body ≡ false → (number ≡ n) ⊎ (number ≡ n → ⊥) → slice_get after.shapes n ≡ Some s
    by_number n s there present (inl e) = absurd (true≢false (sym (free s (ap (slice_get before.shapes) e ∙ there)) ∙ present))
    by_number n s there present (inr apart) = b.spared n s (a.spared n s there present tt) present apart

body_on : {B : Type 0} (Q : B → Known → Type 0) (before : Known) (r : Result (ℕ × Known) Fault) (second : ℕ → Rule B)
    → Runs None false before (λ n k. IsOpened before n k) r → ((n : ℕ) (mid : Known) → Grows before mid → Orderly mid → IsOpen false mid n → Runs (Some n) false mid Q (second n mid)) → Runs None false before Q (go_on second r)
unfolding Runs IsOpened
body_on Q before (Err fault) second g more = tt
body_on {B = B} Q before (Ok x) second g more = ended (second x.0 x.1) (more x.0 x.1 (g.spreads).grows g.orderly (g.holds).0)
  where
    ended : (r : Result (B × Known) Fault) → Runs (Some x.0) false x.1 Q r → Runs None false before Q r
    ended (Ok y) h = record { spreads = unskip before x.1 y.1 x.0 (g.holds).1 g.spreads h.spreads; orderly = h.orderly; holds = h.holds }
    ended (Err fault) h = tt

-- ---- lists of parameters

scoped_on : (known k : Known) (scopes : List Scope) (lists : ℕ) → Spreads None true (record known { scopes = [] ∷ known.scopes; lists = known.lists + 1 }) k → Spreads None false known (record k { scopes = without_first k.scopes; lists = lists })
scoped_on known k scopes lists s = record {
  grows = grows_on known _ _ (scoped_grows known ([] ∷ known.scopes) (known.lists + 1)) (grows_on _ k _ s.grows (scoped_grows k (without_first k.scopes) lists));
  spared = λ n x there present u. s.spared n x there present tt;
  scopes = enumerated_none known.scopes (without_first k.scopes) s.scopes;
  signatures = s.signatures;
  definitions = s.definitions;
  statics = s.statics;
  body = s.body;
}

entered : (known : Known) → Orderly known → Orderly (record known { scopes = [] ∷ known.scopes; lists = known.lists + 1 })
entered known o = scoped_orderly known ([] ∷ known.scopes) (known.lists + 1) o (tt, o.scopes)

left_orderly : (k : Known) → Orderly k → Orderly (record k { scopes = without_first k.scopes; lists = k.lists - 1 })
left_orderly k o = scoped_orderly k (without_first k.scopes) (k.lists - 1) o (inner_left (IsBound k) k.scopes o.scopes)

list_ended : (known : Known) (r : Result (List Param × Known) Fault) → Runs None true (record known { scopes = [] ∷ known.scopes; lists = known.lists + 1 }) (λ ps k. AreParams k ps) r
    → Runs None false known (λ m k. IsMade k m) (go_on (λ all. λ k. go_on (λ scope. given (FunctionMade all scope)) (leave_list k)) r)
unfolding Runs
list_ended known (Err fault) g = tt
list_ended known (Ok x) g = record {
  spreads = scoped_on known x.1 (without_first (x.1).scopes) ((x.1).lists - 1) g.spreads;
  orderly = left_orderly x.1 g.orderly;
  holds = list_grows x.1 (record x.1 { scopes = without_first (x.1).scopes; lists = (x.1).lists - 1 }) (scoped_grows x.1 (without_first (x.1).scopes) ((x.1).lists - 1)) g.orderly x.0 (first_scope (x.1).scopes)
      (record { params = (g.holds).0; bound = first_of (AreBound x.1) tt (x.1).scopes (g.orderly).scopes; listed = (g.holds).1 });
}

list_on : (known : Known) (r : Result (List Param × Known) Fault) (second : List Param → Rule Made) → Runs None true (record known { scopes = [] ∷ known.scopes; lists = known.lists + 1 }) (λ ps k. AreParams k ps) r
    → ((first : List Param) (mid : Known) → Spreads None true (record known { scopes = [] ∷ known.scopes; lists = known.lists + 1 }) mid → Orderly mid → AreParams mid first → Runs None false known (λ m k. IsMade k m) (second first mid))
    → Runs None false known (λ m k. IsMade k m) (go_on second r)
unfolding Runs
list_on known (Err fault) second g more = tt
list_on known (Ok x) second g more = more x.0 x.1 g.spreads g.orderly g.holds

-- ---- the recursion

base_later : (before after : Known) → Grows before after → Orderly before → (base : Base) → IsNamedBase before base → IsNamedBase after base
base_later before after g o (StructBase n) h = there_grows before after g n h
base_later before after g o EnumBase h = tt
base_later before after g o (NamedBase q waiting) h = stands_grows before after g o q.ty h

bases_later : (before after : Known) → Grows before after → Orderly before → (bases : List Base) → Each (IsNamedBase before) bases → Each (IsNamedBase after) bases
bases_later before after g o bases all = all_more bases (base_later before after g o) all

pub base_grows : (before after : Known) → Grows before after → Orderly before → (q : Qualified) → IsBase before q → IsBase after q
base_grows before after g o q h = stands_grows before after g o q.ty h

and_base : (said : Specified) (number : ℕ) (known : Known) (r : Result (Known × Known) Fault) → Orderly known → IsBase known said.ty → Runs (Some number) false known (λ x k. IsOpen true k number) r → Runs (Some number) false known (λ x k. IsOpen true k number × IsBase k said.ty) r
unfolding Runs
and_base said number known (Ok x) o base g = record { spreads = g.spreads; orderly = g.orderly; holds = (g.holds, base_grows known x.1 (g.spreads).grows o said.ty base) }
and_base said number known (Err fault) o base g = tt

mutual
  unfolding specified more_specs spec_rule members more_members more_fields field suffixes suffix more_params param

  pub specified_runs : (s : SpecTrees) (context : Context) (known : Known) → Orderly known → Runs None false known (λ s k. IsBase k s.ty) (specified s context known)
  specified_runs (tree.Specified s ss) context known o = runs_on None false (λ g k. Each (IsNamedBase k) g.bases) _ known _ _ (spec_runs s context nothing_gathered known o tt)
      (λ first mid s1 o1 all. runs_on None false (λ g k. Each (IsNamedBase k) g.bases) _ mid _ _ (more_specs_run ss context first mid o1 all)
      (λ gathered after s2 o2 all2. from_goes (λ said k. IsBase k said.ty) after _ (specifiers_goes after after.targets o2 context.site gathered (spec_line s) all2)))

  pub more_specs_run : (ss : MoreSpecs) (context : Context) (g : Gathered) (known : Known) → Orderly known → Each (IsNamedBase known) g.bases → Runs None false known (λ g k. Each (IsNamedBase k) g.bases) (more_specs ss context g known)
  more_specs_run tree.NoSpec context g known o all = runs_given None false _ known g o all
  more_specs_run (tree.AndSpec s ss) context g known o all = runs_on None false (λ g k. Each (IsNamedBase k) g.bases) _ known _ _ (spec_runs s context g known o all)
      (λ next mid s1 o1 all1. more_specs_run ss context next mid o1 all1)

  pub spec_runs : (s : SpecTree) (context : Context) (g : Gathered) (known : Known) → Orderly known → Each (IsNamedBase known) g.bases → Runs None false known (λ g k. Each (IsNamedBase k) g.bases) (spec_rule s context g known)
  spec_runs (tree.OneWord s) context g known o all = runs_given None false _ known _ o (subst (Each (IsNamedBase known)) (sym (worded known s.kind g)) all)
  spec_runs (tree.Tagged line n) context g known o all = runs_on None false (λ m k. IsThere k m) _ known _ _ (structure_of_runs known o context n.bytes line)
      (λ number mid s1 o1 there. runs_given None false _ mid _ o1 (there, bases_later known mid s1.grows o g.bases all))
  spec_runs (tree.Body line tag opening m ms closing) context g known o all =
      body_on _ known _ _ (body_opened_runs known o context tag line)
      (λ number mid s1 o1 h. runs_on (Some number) false (λ x k. IsOpen true k number) _ mid _ _ (members_run m number false mid o1 h)
      (λ x mid2 s2 o2 h2. runs_on (Some number) false (λ x k. IsOpen true k number) _ mid2 _ _ (more_members_run ms number mid2 o2 h2)
      (λ y mid3 s3 o3 h3. runs_on (Some number) false (λ x k. IsThere k number) _ mid3 _ (λ x. given (with_base (StructBase number) g)) (closed_runs mid3 o3 number true h3 refl)
      (λ z after s4 o4 there. runs_given (Some number) false _ after _ o4 (
        there,
        bases_later mid3 after s4.grows o3 g.bases (bases_later mid2 mid3 s3.grows o2 g.bases (bases_later mid mid2 s2.grows o1 g.bases (bases_later known mid s1 o g.bases all))),
      )))))
  spec_runs (tree.NamedType s) context g known o all = from_goes (λ g k. Each (IsNamedBase k) g.bases) known _ (type_name_goes known s g known.targets o all)
  spec_runs (tree.EnumTagged line n) context g known o all = from_goes (λ g k. Each (IsNamedBase k) g.bases) known _ (enum_goes known n line g known.targets o all)
  spec_runs (tree.EnumBody line tag opening e es last closing) context g known o all = runs_on None false (λ x k. Unit {0}) _ known _ _ (enum_body_runs known o context tag e es line)
      (λ x mid s1 o1 u. runs_given None false _ mid _ o1 (tt, bases_later known mid s1.grows o g.bases all))

  pub members_run : (m : MemberTree) (number : ℕ) (some : Bool) (known : Known) → Orderly known → IsOpen some known number → Runs (Some number) false known (λ x k. IsOpen true k number) (members m number known)
  members_run (tree.Members s d ds semicolon) number some known o h = runs_first (Some number) false (λ s k. IsBase k s.ty) _ known _ _ (specified_runs s of_member known o)
      (λ said mid s1 o1 base. runs_on (Some number) false (λ x k. IsOpen true k number × IsBase k said.ty) _ mid _ _ (field_run d said number some mid o1 base (open_kept some known mid number s1 h))
      (λ x after s2 o2 h2. more_fields_run ds said number after o2 h2.1 h2.0))

  pub more_members_run : (ms : MoreMembers) (number : ℕ) (known : Known) → Orderly known → IsOpen true known number → Runs (Some number) false known (λ x k. IsOpen true k number) (more_members ms number known)
  more_members_run tree.NoMember number known o h = runs_given (Some number) false _ known _ o h
  more_members_run (tree.AndMember m ms) number known o h = runs_on (Some number) false (λ x k. IsOpen true k number) _ known _ _ (members_run m number true known o h)
      (λ x mid s1 o1 h1. more_members_run ms number mid o1 h1)

  pub more_fields_run : (ds : MoreDeclarators) (said : Specified) (number : ℕ) (known : Known) → Orderly known → IsBase known said.ty → IsOpen true known number → Runs (Some number) false known (λ x k. IsOpen true k number) (more_fields ds said number known)
  more_fields_run tree.NoDeclarator said number known o base h = runs_given (Some number) false _ known _ o h
  more_fields_run (tree.AndDeclarator comma d ds) said number known o base h = runs_on (Some number) false (λ x k. IsOpen true k number × IsBase k said.ty) _ known _ _ (field_run d said number true known o base h)
      (λ x mid s1 o1 h1. more_fields_run ds said number mid o1 h1.1 h1.0)

  pub field_run : (d : DeclaratorTree) (said : Specified) (number : ℕ) (some : Bool) (known : Known) → Orderly known → IsBase known said.ty → IsOpen some known number → Runs (Some number) false known (λ x k. IsOpen true k number × IsBase k said.ty) (field d said number known)
  field_run (tree.Declares pointers n ss) said number some known o base h = runs_first (Some number) false (λ q k. IsBase k q) _ known _ _ (from_goes (λ q k. IsBase k q) known _ (pointers_go known pointers known.targets o said.ty base))
      (λ q mid s1 o1 hq. runs_first (Some number) false (λ ms k. Each (IsMade k) ms) _ mid _ _ (suffixes_run ss false mid o1)
      (λ made after s2 o2 all. fates_on (Some number) false Doomed (λ x k. IsDeclared k x.declared) _ after _ _ (outlined_fates made (object_outline q said.waiting) after o2 (stands_grows mid after s2.grows o1 q.ty hq) all)
      (λ x last d. member_refused number x n.bytes (declarator_line pointers n) last d)
      (λ x last s3 o3 declared. and_base said number last _ o3 (base_grows after last s3.grows o2 said.ty (base_grows mid after s2.grows o1 said.ty (base_grows known mid s1.grows o said.ty base)))
      (member_rule_runs number some x n.bytes (declarator_line pointers n) last o3 (open_kept some after last number s3 (open_kept some mid after number s2 (open_kept some known mid number s1 h))) declared))))

  pub suffixes_run : (ss : SuffixTrees) (bodies : Bool) (known : Known) → Orderly known → Runs None false known (λ ms k. Each (IsMade k) ms) (suffixes ss bodies known)
  suffixes_run tree.NoSuffix bodies known o = runs_given None false _ known _ o tt
  suffixes_run (tree.AndSuffix s ss) bodies known o = runs_on None false (λ m k. IsMade k m) _ known _ _ (suffix_runs s bodies known o)
      (λ made mid s1 o1 h. runs_on None false (λ ms k. Each (IsMade k) ms) _ mid _ _ (suffixes_run ss bodies mid o1)
      (λ more after s2 o2 all. runs_given None false _ after _ o2 (made_grows mid after s2.grows o1 made h, all)))

  pub suffix_runs : (s : SuffixTree) (bodies : Bool) (known : Known) → Orderly known → Runs None false known (λ m k. IsMade k m) (suffix s bodies known)
  suffix_runs (tree.Unsized opening closing) bodies known o = runs_given None false _ known _ o tt
  suffix_runs (tree.Sized opening e closing) bodies known o = runs_on None false (λ n k. Unit {0}) _ known _ _ (from_goes (λ n k. Unit {0}) known _ (length_goes known e known.targets o)) (λ n mid s1 o1 u. runs_given None false _ mid _ o1 tt)
  suffix_runs (tree.Empty opening closing) bodies known o = runs_given None false _ known _ o (record { params = tt; bound = tt; listed = tt })
  suffix_runs (tree.VoidOnly opening word closing) bodies known o = runs_given None false _ known _ o (record { params = tt; bound = tt; listed = tt })
  suffix_runs (tree.Params opening p ps closing) bodies known o = list_on known _ (λ first. λ k. go_on (λ all. λ k. go_on (λ scope. given (FunctionMade all scope)) (leave_list k)) (more_params ps bodies first k)) (param_runs p bodies [] _ (entered known o) (tt, tt))
      (λ first mid s1 o1 all. list_ended known _ (runs_wider None true _ _ mid _ s1 (more_params_run ps bodies first mid o1 all)))

  pub more_params_run : (ps : MoreParams) (bodies : Bool) (before : List Param) (known : Known) → Orderly known → AreParams known before → Runs None true known (λ ps k. AreParams k ps) (more_params ps bodies before known)
  more_params_run tree.NoParam bodies before known o all = runs_given None true _ known _ o all
  more_params_run (tree.AndParam comma p ps) bodies before known o all = runs_on None true (λ ps k. AreParams k ps) _ known _ _ (param_runs p bodies before known o all)
      (λ next mid s1 o1 all1. more_params_run ps bodies next mid o1 all1)

  pub param_runs : (p : ParamTree) (bodies : Bool) (before : List Param) (known : Known) → Orderly known → AreParams known before → Runs None true known (λ ps k. AreParams k ps) (param p bodies before known)
  param_runs (tree.Named s (tree.Declares pointers n ss)) bodies before known o all = runs_first None true (λ s k. IsBase k s.ty) _ known _ _ (specified_runs s (of_param bodies) known o)
      (λ said mid s1 o1 base. runs_first None true (λ q k. IsBase k q) _ mid _ _ (from_goes (λ q k. IsBase k q) mid _ (pointers_go mid pointers mid.targets o1 said.ty base))
      (λ q mid2 s2 o2 hq. runs_first None true (λ ms k. Each (IsMade k) ms) _ mid2 _ _ (suffixes_run ss bodies mid2 o2)
      (λ made after s3 o3 made_all. fates_on None true IsNoParam (λ x k. IsParamDeclared k x.declared) _ after _ _ (param_fates made q said.waiting after o3 (base_grows mid2 after s3.grows o2 q hq) made_all)
      (λ x last d. param_refused before said x n.bytes (declarator_line pointers n) last d)
      (λ x last s4 o4 declared. param_rule_runs before said x n.bytes (declarator_line pointers n) last o4 declared
      (params_spread after last s4 o3 before (params_spread mid2 after s3 o2 before (params_spread mid mid2 s2 o1 before (params_spread known mid s1 o before all))))))))
  param_runs (tree.Unnamed s pointers ss) bodies before known o all = runs_first None true (λ s k. IsBase k s.ty) _ known _ _ (specified_runs s (of_param bodies) known o)
      (λ said mid s1 o1 base. runs_first None true (λ q k. IsBase k q) _ mid _ _ (from_goes (λ q k. IsBase k q) mid _ (pointers_go mid pointers mid.targets o1 said.ty base))
      (λ q mid2 s2 o2 hq. runs_first None true (λ ms k. Each (IsMade k) ms) _ mid2 _ _ (suffixes_run ss bodies mid2 o2)
      (λ made after s3 o3 made_all. fates_on None true IsNoParam (λ x k. IsParamDeclared k x.declared) _ after _ _ (param_fates made q said.waiting after o3 (base_grows mid2 after s3.grows o2 q hq) made_all)
      (λ x last d. param_refused before said x [] said.line last d)
      (λ x last s4 o4 declared. param_rule_runs before said x [] said.line last o4 declared
      (params_spread after last s4 o3 before (params_spread mid2 after s3 o2 before (params_spread mid mid2 s2 o1 before (params_spread known mid s1 o before all))))))))

-- What a declarator makes of what its specifiers say.
pub outline_fates : (d : DeclaratorTree) (said : Specified) (bodies : Bool) (known : Known) → Orderly known → IsBase known said.ty → Fates known Doomed (λ x k. IsDeclared k x.declared) (outline_of d said bodies known)
outline_fates (tree.Declares pointers n ss) said bodies known o base = fates_after (λ q k. IsBase k q) _ _ known _ _ (from_goes (λ q k. IsBase k q) known _ (pointers_go known pointers known.targets o said.ty base))
    (λ q mid s1 o1 hq. fates_after (λ ms k. Each (IsMade k) ms) _ _ mid _ _ (suffixes_run ss bodies mid o1)
    (λ made after s2 o2 all. outlined_fates made (object_outline q said.waiting) after o2 (stands_grows mid after s2.grows o1 q.ty hq) all))
