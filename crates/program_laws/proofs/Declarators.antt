-- Specifiers and declarators declare no object.
use Rattle.std.proofs.Common.{ℕ, Bool, true, false, not, if◌then◌else◌, List, [], ◌∷◌, Option, Some, None}
use Rattle.c_nodes.specs.Trees as tree
use Rattle.c_nodes.specs.Trees.{SpecTrees, MoreSpecs, SpecTree, MemberTree, MoreMembers, MoreDeclarators, DeclaratorTree, SuffixTrees, SuffixTree, MoreParams, ParamTree, EnumeratorTree, MoreEnumerators}
use Rattle.c_nodes.specs.Words.{Symbols}
use Rattle.type_rules.specs.Declarators.{Context, of_member, of_param, declares_tags, tag_or_new, structure_of, structure_in, body_opened, is_tagged, enum_closed, enum_body, specified, more_specs, spec_rule, members, more_members, more_fields, field, suffixes, suffix, more_params, param, outline_of}
use Rattle.type_rules.specs.Faults as kind
use Rattle.type_rules.specs.Known.{Tag, StructTag, EnumTag, Known, Rule, given, broken, go_on}
use Rattle.type_rules.specs.Names.{enter_list, leave_list}
use Rattle.type_rules.specs.Outlines.{Param, Made, FunctionMade, object_outline, declarator_line}
use Rattle.type_rules.specs.Rows.{tagged, new_tag, is_absent, progress_of}
use Rattle.type_rules.specs.Specifiers.{Gathered, nothing_gathered, Specified, spec_line}
use Rattle.program_laws.specs.Named.{Held, Stays}
use Rattle.program_laws.proofs.Enumerators.{array_length_stays, enumerators_stays}
use Rattle.program_laws.proofs.Outlines.{outlined_stays, param_outlined_stays, param_stays, member_stays}
use Rattle.program_laws.proofs.Steps.{stays_given, stays_broken, stays_on, stays_tried}
use Rattle.program_laws.proofs.TypeNames.{pointers_stays, specifiers_stays, type_name_stays, enum_stays}

-- ---- tags and bodies

new_or_stays : (whose : List ℕ) (b : Bool) (tag : List ℕ) (line : ℕ) (known : Known) → Held whose known → Stays whose ((if b then new_tag tag else broken kind.Name line) known)
new_or_stays whose true tag line known held = stays_given _ _ held
new_or_stays whose false tag line known held = stays_broken _ _ _

tag_stays : (whose : List ℕ) (found : Option Tag) (context : Context) (tag : List ℕ) (line : ℕ) (known : Known) → Held whose known → Stays whose (tag_or_new found context tag line known)
tag_stays whose (Some (StructTag number)) context tag line known held = stays_given number known held
tag_stays whose (Some EnumTag) context tag line known held = stays_broken _ _ _
tag_stays whose None context tag line known held = new_or_stays whose (declares_tags context.site) tag line known held

structure_stays : (whose : List ℕ) (context : Context) (tag : List ℕ) (line : ℕ) (known : Known) → Held whose known → Stays whose (structure_of context tag line known)
structure_stays whose context tag line known held = tag_stays whose (tagged known tag) context tag line known held

structure_in_stays : (whose : List ℕ) (context : Context) (tag : Symbols) (line : ℕ) (known : Known) → Held whose known → Stays whose (structure_in context tag line known)
structure_in_stays whose context [] line known held = stays_given _ _ held
structure_in_stays whose context (n ∷ ns) line known held = structure_stays whose context n.bytes line known held

opened_stays : (whose : List ℕ) (context : Context) (tag : Symbols) (line : ℕ) (known : Known) → Held whose known → Stays whose (body_opened context tag line known)
opened_stays whose context tag line known held = stays_on _ _ _ (structure_in_stays whose context tag line known held)
    (λ number k c. stays_tried _ ((not (is_absent (progress_of k number)), kind.Again) ∷ (not context.bodies, kind.Declare) ∷ []) line k _ (stays_given _ _ c))

enum_closed_stays : (whose : List ℕ) (tag : Symbols) (known : Known) → Held whose known → Stays whose (enum_closed tag known)
enum_closed_stays whose [] known held = stays_given _ _ held
enum_closed_stays whose (n ∷ ns) known held = stays_given _ _ held

enum_body_stays : (whose : List ℕ) (context : Context) (tag : Symbols) (e : EnumeratorTree) (es : MoreEnumerators) (line : ℕ) (known : Known) → Held whose known → Stays whose (enum_body context tag e es line known)
enum_body_stays whose context tag e es line known held = stays_tried _ ((is_tagged known tag, kind.Again) ∷ (not context.bodies, kind.Declare) ∷ []) line known _
    (stays_on _ _ _ (enumerators_stays whose e es known held) (λ next k c. enum_closed_stays whose tag k c))

-- the end of a list of parameters
abbrev list_left : List Param → Rule Made
list_left all = λ k. go_on (λ scope. given (FunctionMade all scope)) (leave_list k)

left_stays : (whose : List ℕ) (all : List Param) (known : Known) → Held whose known → Stays whose (list_left all known)
left_stays whose all known held = stays_given _ _ held

-- ---- the recursion

mutual
  unfolding specified more_specs spec_rule members more_members more_fields field suffixes suffix more_params param

  pub specified_stays : (s : SpecTrees) (whose : List ℕ) (context : Context) (known : Known) → Held whose known → Stays whose (specified s context known)
  specified_stays (tree.Specified s ss) whose context known held = stays_on _ _ _ (spec_stays s whose context nothing_gathered known held)
      (λ first k c. stays_on _ _ _ (more_specs_stays ss whose context first k c)
      (λ gathered k2 c2. specifiers_stays whose context.site gathered (spec_line s) k2 c2))

  more_specs_stays : (ss : MoreSpecs) (whose : List ℕ) (context : Context) (g : Gathered) (known : Known) → Held whose known → Stays whose (more_specs ss context g known)
  more_specs_stays tree.NoSpec whose context g known held = stays_given g known held
  more_specs_stays (tree.AndSpec s ss) whose context g known held = stays_on _ _ _ (spec_stays s whose context g known held) (λ next k c. more_specs_stays ss whose context next k c)

  spec_stays : (s : SpecTree) (whose : List ℕ) (context : Context) (g : Gathered) (known : Known) → Held whose known → Stays whose (spec_rule s context g known)
  spec_stays (tree.OneWord s) whose context g known held = stays_given _ known held
  spec_stays (tree.Tagged line n) whose context g known held = stays_on _ _ _ (structure_stays whose context n.bytes line known held) (λ number k c. stays_given _ k c)
  spec_stays (tree.Body line tag opening m ms closing) whose context g known held = stays_on _ _ _ (opened_stays whose context tag line known held)
      (λ number k c. stays_on _ _ _ (members_stays m whose number k c)
      (λ u k2 c2. stays_on _ _ _ (more_members_stays ms whose number k2 c2) (λ v k3 c3. stays_given _ _ c3)))
  spec_stays (tree.NamedType s) whose context g known held = type_name_stays whose s g known held
  spec_stays (tree.EnumTagged line n) whose context g known held = enum_stays whose n line g known held
  spec_stays (tree.EnumBody line tag opening e es last closing) whose context g known held = stays_on _ _ _ (enum_body_stays whose context tag e es line known held) (λ u k c. stays_given _ k c)

  members_stays : (m : MemberTree) (whose : List ℕ) (number : ℕ) (known : Known) → Held whose known → Stays whose (members m number known)
  members_stays (tree.Members s d ds semicolon) whose number known held = stays_on _ _ _ (specified_stays s whose of_member known held)
      (λ said k c. stays_on _ _ _ (field_stays d whose said number k c) (λ u k2 c2. more_fields_stays ds whose said number k2 c2))

  more_members_stays : (ms : MoreMembers) (whose : List ℕ) (number : ℕ) (known : Known) → Held whose known → Stays whose (more_members ms number known)
  more_members_stays tree.NoMember whose number known held = stays_given _ known held
  more_members_stays (tree.AndMember m ms) whose number known held = stays_on _ _ _ (members_stays m whose number known held) (λ u k c. more_members_stays ms whose number k c)

  more_fields_stays : (ds : MoreDeclarators) (whose : List ℕ) (said : Specified) (number : ℕ) (known : Known) → Held whose known → Stays whose (more_fields ds said number known)
  more_fields_stays tree.NoDeclarator whose said number known held = stays_given _ known held
  more_fields_stays (tree.AndDeclarator comma d ds) whose said number known held = stays_on _ _ _ (field_stays d whose said number known held) (λ u k c. more_fields_stays ds whose said number k c)

  field_stays : (d : DeclaratorTree) (whose : List ℕ) (said : Specified) (number : ℕ) (known : Known) → Held whose known → Stays whose (field d said number known)
  field_stays (tree.Declares pointers n ss) whose said number known held = stays_on _ _ _ (pointers_stays pointers whose said.ty known held)
      (λ base k c. stays_on _ _ _ (suffixes_stays ss whose false k c)
      (λ made k2 c2. stays_on _ _ _ (outlined_stays whose made (object_outline base said.waiting) k2 c2)
      (λ o k3 c3. member_stays whose number o n.bytes (declarator_line pointers n) k3 c3)))

  suffixes_stays : (ss : SuffixTrees) (whose : List ℕ) (bodies : Bool) (known : Known) → Held whose known → Stays whose (suffixes ss bodies known)
  suffixes_stays tree.NoSuffix whose bodies known held = stays_given _ _ held
  suffixes_stays (tree.AndSuffix s ss) whose bodies known held = stays_on _ _ _ (suffix_stays s whose bodies known held)
      (λ made k c. stays_on _ _ _ (suffixes_stays ss whose bodies k c)
      (λ more k2 c2. stays_given _ _ c2))

  suffix_stays : (s : SuffixTree) (whose : List ℕ) (bodies : Bool) (known : Known) → Held whose known → Stays whose (suffix s bodies known)
  suffix_stays (tree.Unsized opening closing) whose bodies known held = stays_given _ _ held
  suffix_stays (tree.Sized opening e closing) whose bodies known held = stays_on _ _ _ (array_length_stays whose e known held) (λ count k c. stays_given _ _ c)
  suffix_stays (tree.Empty opening closing) whose bodies known held = stays_given _ _ held
  suffix_stays (tree.VoidOnly opening word closing) whose bodies known held = stays_given _ _ held
  suffix_stays (tree.Params opening p ps closing) whose bodies known held = stays_on _ (enter_list known) (λ u. λ k. go_on (λ first. λ k2. go_on (λ all. list_left all) (more_params ps bodies first k2)) (param p bodies [] k)) (stays_given _ _ held)
      (λ u k0 c0. stays_on _ _ (λ first. λ k2. go_on (λ all. list_left all) (more_params ps bodies first k2)) (params_stays p whose bodies [] k0 c0)
      (λ first k c. stays_on _ _ (λ all. list_left all) (more_params_stays ps whose bodies first k c)
      (λ all k2 c2. left_stays whose all k2 c2)))

  more_params_stays : (ps : MoreParams) (whose : List ℕ) (bodies : Bool) (before : List Param) (known : Known) → Held whose known → Stays whose (more_params ps bodies before known)
  more_params_stays tree.NoParam whose bodies before known held = stays_given _ _ held
  more_params_stays (tree.AndParam comma p ps) whose bodies before known held = stays_on _ _ _ (params_stays p whose bodies before known held)
      (λ next k c. more_params_stays ps whose bodies next k c)

  params_stays : (p : ParamTree) (whose : List ℕ) (bodies : Bool) (before : List Param) (known : Known) → Held whose known → Stays whose (param p bodies before known)
  params_stays (tree.Named s (tree.Declares pointers n ss)) whose bodies before known held = stays_on _ _ _ (specified_stays s whose (of_param bodies) known held)
      (λ said k c. stays_on _ _ _ (pointers_stays pointers whose said.ty k c)
      (λ base k2 c2. stays_on _ _ _ (suffixes_stays ss whose bodies k2 c2)
      (λ made k3 c3. stays_on _ _ _ (param_outlined_stays whose made (object_outline base said.waiting) k3 c3)
      (λ o k4 c4. param_stays whose before said o n.bytes (declarator_line pointers n) k4 c4))))
  params_stays (tree.Unnamed s pointers ss) whose bodies before known held = stays_on _ _ _ (specified_stays s whose (of_param bodies) known held)
      (λ said k c. stays_on _ _ _ (pointers_stays pointers whose said.ty k c)
      (λ base k2 c2. stays_on _ _ _ (suffixes_stays ss whose bodies k2 c2)
      (λ made k3 c3. stays_on _ _ _ (param_outlined_stays whose made (object_outline base said.waiting) k3 c3)
      (λ o k4 c4. param_stays whose before said o [] said.line k4 c4))))

-- What a declarator makes of what its specifiers say.
pub outline_stays : (whose : List ℕ) (d : DeclaratorTree) (said : Specified) (bodies : Bool) (known : Known) → Held whose known → Stays whose (outline_of d said bodies known)
outline_stays whose (tree.Declares pointers n ss) said bodies known held = stays_on _ _ _ (pointers_stays pointers whose said.ty known held)
    (λ base k c. stays_on _ _ _ (suffixes_stays ss whose bodies k c)
    (λ made k2 c2. outlined_stays whose made (object_outline base said.waiting) k2 c2))
