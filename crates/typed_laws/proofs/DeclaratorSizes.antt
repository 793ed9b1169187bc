-- Specifiers and declarators declare no object, and each parameter of a declarator has a token of its own.
use Rattle.std.proofs.Common.{ℕ, ◌+◌, ◌≤◌, Bool, true, false, not, if◌then◌else◌, List, [], ◌∷◌, length, Option, Some, None, arith, length-append}
use Rattle.c_nodes.specs.Trees as tree
use Rattle.c_nodes.specs.Trees.{SpecTrees, MoreSpecs, SpecTree, MemberTree, MoreMembers, MoreDeclarators, DeclaratorTree, SuffixTrees, SuffixTree, MoreParams, ParamTree, EnumeratorTree, MoreEnumerators, spelled_declarator, spelled_suffixes, spelled_suffix, spelled_more_params, spelled_param}
use Rattle.c_nodes.specs.Words.{Symbol, Symbols}
use Rattle.type_rules.specs.Declarators.{Context, of_member, of_param, declares_tags, tag_or_new, structure_of, structure_in, body_opened, is_tagged, enum_closed, enum_body, specified, more_specs, spec_rule, members, more_members, more_fields, field, suffixes, suffix, more_params, param, outline_of}
use Rattle.type_rules.specs.Faults as kind
use Rattle.type_rules.specs.Known.{Tag, StructTag, EnumTag, Known, Rule, given, broken, go_on}
use Rattle.type_rules.specs.Names.{enter_list, leave_list}
use Rattle.type_rules.specs.Outlines.{Param, Made, FunctionMade, object_outline, declarator_line}
use Rattle.type_rules.specs.Rows.{tagged, new_tag, is_absent, progress_of}
use Rattle.type_rules.specs.Specifiers.{Gathered, nothing_gathered, Specified, spec_line}
use Rattle.typed_laws.specs.Weights.{Met, held, Costs, nothing, made_params, all_params, outline_params, outline_size}
use Rattle.typed_laws.proofs.EnumeratorSizes.{array_length_met, enumerators_met}
use Rattle.typed_laws.proofs.OutlineSizes.{outlined_met, param_outlined_met, param_met, member_met}
use Rattle.typed_laws.proofs.StepSizes.{met_given, met_broken, met_on, met_tried, met_weaker, met_kept, costs_more}
use Rattle.typed_laws.proofs.TypeNameSizes.{pointers_met, specifiers_met, type_name_met, enum_met}

-- ---- tags and bodies

new_or_met : (h : ℕ) (b : Bool) (tag : List ℕ) (line : ℕ) (known : Known) → held known ≤ h → Met (Costs h 0 nothing) ((if b then new_tag tag else broken kind.Name line) known)
new_or_met h true tag line known within = met_kept h _ _ within
new_or_met h false tag line known within = met_broken _ _

tag_met : (h : ℕ) (found : Option Tag) (context : Context) (tag : List ℕ) (line : ℕ) (known : Known) → held known ≤ h → Met (Costs h 0 nothing) (tag_or_new found context tag line known)
tag_met h (Some (StructTag number)) context tag line known within = met_kept h number known within
tag_met h (Some EnumTag) context tag line known within = met_broken _ _
tag_met h None context tag line known within = new_or_met h (declares_tags context.site) tag line known within

structure_met : (h : ℕ) (context : Context) (tag : List ℕ) (line : ℕ) (known : Known) → held known ≤ h → Met (Costs h 0 nothing) (structure_of context tag line known)
structure_met h context tag line known within = tag_met h (tagged known tag) context tag line known within

structure_in_met : (h : ℕ) (context : Context) (tag : Symbols) (line : ℕ) (known : Known) → held known ≤ h → Met (Costs h 0 nothing) (structure_in context tag line known)
structure_in_met h context [] line known within = met_kept h _ _ within
structure_in_met h context (n ∷ ns) line known within = structure_met h context n.bytes line known within

opened_met : (h : ℕ) (context : Context) (tag : Symbols) (line : ℕ) (known : Known) → held known ≤ h → Met (Costs h 0 nothing) (body_opened context tag line known)
opened_met h context tag line known within = met_on (Costs h 0 nothing) _ _ _ (structure_in_met h context tag line known within)
    (λ number k c. met_tried _ ((not (is_absent (progress_of k number)), kind.Again) ∷ (not context.bodies, kind.Declare) ∷ []) line k _ (met_kept h _ _ c.within))

enum_closed_met : (h : ℕ) (tag : Symbols) (known : Known) → held known ≤ h → Met (Costs h 0 nothing) (enum_closed tag known)
enum_closed_met h [] known within = met_kept h _ _ within
enum_closed_met h (n ∷ ns) known within = met_kept h _ _ within

enum_body_met : (h : ℕ) (context : Context) (tag : Symbols) (e : EnumeratorTree) (es : MoreEnumerators) (line : ℕ) (known : Known) → held known ≤ h → Met (Costs h 0 nothing) (enum_body context tag e es line known)
enum_body_met h context tag e es line known within = met_tried _ ((is_tagged known tag, kind.Again) ∷ (not context.bodies, kind.Declare) ∷ []) line known _
    (met_on (Costs h 0 nothing) _ _ _ (enumerators_met h e es known within) (λ next k c. enum_closed_met h tag k c.within))

-- the end of a list of parameters
abbrev list_left : List Param → Rule Made
list_left all = λ k. go_on (λ scope. given (FunctionMade all scope)) (leave_list k)

left_met : (h n : ℕ) (all : List Param) (known : Known) → length all ≤ n → held known ≤ h → Met (Costs h n made_params) (list_left all known)
left_met h n all known light within = met_given _ _ _ (record { light = light; within = within })

-- ---- the recursion

mutual
  unfolding specified more_specs spec_rule members more_members more_fields field suffixes suffix more_params param

  pub specified_met : (s : SpecTrees) (h : ℕ) (context : Context) (known : Known) → held known ≤ h → Met (Costs h 0 nothing) (specified s context known)
  specified_met (tree.Specified s ss) h context known within = met_on (Costs h 0 nothing) _ _ _ (spec_met s h context nothing_gathered known within)
      (λ first k c. met_on (Costs h 0 nothing) _ _ _ (more_specs_met ss h context first k c.within)
      (λ gathered k2 c2. specifiers_met h context.site gathered (spec_line s) k2 c2.within))

  more_specs_met : (ss : MoreSpecs) (h : ℕ) (context : Context) (g : Gathered) (known : Known) → held known ≤ h → Met (Costs h 0 nothing) (more_specs ss context g known)
  more_specs_met tree.NoSpec h context g known within = met_kept h g known within
  more_specs_met (tree.AndSpec s ss) h context g known within = met_on (Costs h 0 nothing) _ _ _ (spec_met s h context g known within) (λ next k c. more_specs_met ss h context next k c.within)

  spec_met : (s : SpecTree) (h : ℕ) (context : Context) (g : Gathered) (known : Known) → held known ≤ h → Met (Costs h 0 nothing) (spec_rule s context g known)
  spec_met (tree.OneWord s) h context g known within = met_kept h _ known within
  spec_met (tree.Tagged line n) h context g known within = met_on (Costs h 0 nothing) _ _ _ (structure_met h context n.bytes line known within) (λ number k c. met_kept h _ k c.within)
  spec_met (tree.Body line tag opening m ms closing) h context g known within = met_on (Costs h 0 nothing) _ _ _ (opened_met h context tag line known within)
      (λ number k c. met_on (Costs h 0 nothing) _ _ _ (members_met m h number k c.within)
      (λ u k2 c2. met_on (Costs h 0 nothing) _ _ _ (more_members_met ms h number k2 c2.within) (λ v k3 c3. met_kept h _ _ c3.within)))
  spec_met (tree.NamedType s) h context g known within = type_name_met h s g known within
  spec_met (tree.EnumTagged line n) h context g known within = enum_met h n line g known within
  spec_met (tree.EnumBody line tag opening e es last closing) h context g known within = met_on (Costs h 0 nothing) _ _ _ (enum_body_met h context tag e es line known within) (λ u k c. met_kept h _ k c.within)

  members_met : (m : MemberTree) (h number : ℕ) (known : Known) → held known ≤ h → Met (Costs h 0 nothing) (members m number known)
  members_met (tree.Members s d ds semicolon) h number known within = met_on (Costs h 0 nothing) _ _ _ (specified_met s h of_member known within)
      (λ said k c. met_on (Costs h 0 nothing) _ _ _ (field_met d h said number k c.within) (λ u k2 c2. more_fields_met ds h said number k2 c2.within))

  more_members_met : (ms : MoreMembers) (h number : ℕ) (known : Known) → held known ≤ h → Met (Costs h 0 nothing) (more_members ms number known)
  more_members_met tree.NoMember h number known within = met_kept h _ known within
  more_members_met (tree.AndMember m ms) h number known within = met_on (Costs h 0 nothing) _ _ _ (members_met m h number known within) (λ u k c. more_members_met ms h number k c.within)

  more_fields_met : (ds : MoreDeclarators) (h : ℕ) (said : Specified) (number : ℕ) (known : Known) → held known ≤ h → Met (Costs h 0 nothing) (more_fields ds said number known)
  more_fields_met tree.NoDeclarator h said number known within = met_kept h _ known within
  more_fields_met (tree.AndDeclarator comma d ds) h said number known within = met_on (Costs h 0 nothing) _ _ _ (field_met d h said number known within) (λ u k c. more_fields_met ds h said number k c.within)

  field_met : (d : DeclaratorTree) (h : ℕ) (said : Specified) (number : ℕ) (known : Known) → held known ≤ h → Met (Costs h 0 nothing) (field d said number known)
  field_met (tree.Declares pointers n ss) h said number known within = met_on (Costs h 0 nothing) _ _ _ (pointers_met pointers h said.ty known within)
      (λ base k c. met_on (Costs h (length (spelled_suffixes ss)) all_params) _ _ _ (suffixes_met ss h false k c.within)
      (λ made k2 c2. met_on (Costs h (all_params made + 0) outline_params) _ _ _ (outlined_met h made (object_outline base said.waiting) k2 c2.within)
      (λ o k3 c3. member_met h number o n.bytes (declarator_line pointers n) k3 c3.within)))

  suffixes_met : (ss : SuffixTrees) (h : ℕ) (bodies : Bool) (known : Known) → held known ≤ h → Met (Costs h (length (spelled_suffixes ss)) all_params) (suffixes ss bodies known)
  suffixes_met tree.NoSuffix h bodies known within = met_given _ _ _ (record { light = omega arith; within = within })
  suffixes_met (tree.AndSuffix s ss) h bodies known within = met_on (Costs h (length (spelled_suffix s)) made_params) _ _ _ (suffix_met s h bodies known within)
      (λ made k c. met_on (Costs h (length (spelled_suffixes ss)) all_params) _ _ _ (suffixes_met ss h bodies k c.within)
      (λ more k2 c2. met_given _ _ _ (record { light = omega (arith, length-append (spelled_suffix s) (spelled_suffixes ss)); within = c2.within })))

  suffix_met : (s : SuffixTree) (h : ℕ) (bodies : Bool) (known : Known) → held known ≤ h → Met (Costs h (length (spelled_suffix s)) made_params) (suffix s bodies known)
  suffix_met (tree.Unsized opening closing) h bodies known within = met_given _ _ _ (record { light = omega arith; within = within })
  suffix_met (tree.Sized opening e closing) h bodies known within = met_on (Costs h 0 nothing) _ _ _ (array_length_met h e known within) (λ count k c. met_given _ _ _ (record { light = omega arith; within = c.within }))
  suffix_met (tree.Empty opening closing) h bodies known within = met_given _ _ _ (record { light = omega arith; within = within })
  suffix_met (tree.VoidOnly opening word closing) h bodies known within = met_given _ _ _ (record { light = omega arith; within = within })
  suffix_met (tree.Params opening p ps closing) h bodies known within = met_on (Costs h 0 nothing) _ (enter_list known) (λ u. λ k. go_on (λ first. λ k2. go_on (λ all. list_left all) (more_params ps bodies first k2)) (param p bodies [] k)) (met_kept h _ _ within)
      (λ u k0 c0. met_on (Costs h (0 + 1) length) _ _ (λ first. λ k2. go_on (λ all. list_left all) (more_params ps bodies first k2)) (params_met p h bodies [] k0 c0.within)
      (λ first k c. met_on (Costs h (length first + length (spelled_more_params ps)) length) _ _ (λ all. list_left all) (more_params_met ps h bodies first k c.within)
      (λ all k2 c2. left_met h (length (spelled_suffix (tree.Params opening p ps closing))) all k2 (omega (arith, length-append {A = Symbol})) c2.within)))

  more_params_met : (ps : MoreParams) (h : ℕ) (bodies : Bool) (before : List Param) (known : Known) → held known ≤ h → Met (Costs h (length before + length (spelled_more_params ps)) length) (more_params ps bodies before known)
  more_params_met tree.NoParam h bodies before known within = met_given _ _ _ (record { light = omega arith; within = within })
  more_params_met (tree.AndParam comma p ps) h bodies before known within = met_on (Costs h (length before + 1) length) _ _ _ (params_met p h bodies before known within)
      (λ next k c. costs_more h (length next + length (spelled_more_params ps)) (length before + length (spelled_more_params (tree.AndParam comma p ps))) length _ (omega (arith, length-append (spelled_param p) (spelled_more_params ps))) (more_params_met ps h bodies next k c.within))

  params_met : (p : ParamTree) (h : ℕ) (bodies : Bool) (before : List Param) (known : Known) → held known ≤ h → Met (Costs h (length before + 1) length) (param p bodies before known)
  params_met (tree.Named s (tree.Declares pointers n ss)) h bodies before known within = met_on (Costs h 0 nothing) _ _ _ (specified_met s h (of_param bodies) known within)
      (λ said k c. met_on (Costs h 0 nothing) _ _ _ (pointers_met pointers h said.ty k c.within)
      (λ base k2 c2. met_on (Costs h (length (spelled_suffixes ss)) all_params) _ _ _ (suffixes_met ss h bodies k2 c2.within)
      (λ made k3 c3. met_on (Costs h 0 nothing) _ _ _ (param_outlined_met h made (object_outline base said.waiting) k3 c3.within)
      (λ o k4 c4. param_met h before said o n.bytes (declarator_line pointers n) k4 c4.within))))
  params_met (tree.Unnamed s pointers ss) h bodies before known within = met_on (Costs h 0 nothing) _ _ _ (specified_met s h (of_param bodies) known within)
      (λ said k c. met_on (Costs h 0 nothing) _ _ _ (pointers_met pointers h said.ty k c.within)
      (λ base k2 c2. met_on (Costs h (length (spelled_suffixes ss)) all_params) _ _ _ (suffixes_met ss h bodies k2 c2.within)
      (λ made k3 c3. met_on (Costs h 0 nothing) _ _ _ (param_outlined_met h made (object_outline base said.waiting) k3 c3.within)
      (λ o k4 c4. param_met h before said o [] said.line k4 c4.within))))

-- What a declarator makes of what its specifiers say.
pub outline_met : (h : ℕ) (d : DeclaratorTree) (said : Specified) (bodies : Bool) (known : Known) → held known ≤ h → Met (Costs h (length (spelled_declarator d)) outline_size) (outline_of d said bodies known)
outline_met h (tree.Declares pointers n ss) said bodies known within = met_on (Costs h 0 nothing) _ _ _ (pointers_met pointers h said.ty known within)
    (λ base k c. met_on (Costs h (length (spelled_suffixes ss)) all_params) _ _ _ (suffixes_met ss h bodies k c.within)
    (λ made k2 c2. met_weaker (Costs h (all_params made + 0) outline_params) _ _ (λ o k3 c3. record { light = omega (arith, length-append pointers (n ∷ spelled_suffixes ss)); within = c3.within })
    (outlined_met h made (object_outline base said.waiting) k2 c2.within)))
