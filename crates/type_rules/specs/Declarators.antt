-- Specifiers with structures and enumerations, declarators and parameters (ISO/IEC 9899:1990, 6.5): one clause for each part, from left to right.
use Rattle.std.specs.Prelude.{ℕ, Bool, true, false, not, if◌then◌else◌, List, [], ◌∷◌, Option, Some, None, is_some}
use Rattle.c_nodes.specs.Trees.{SpecTrees, MoreSpecs, SpecTree, MemberTree, MoreMembers, MoreDeclarators, DeclaratorTree, SuffixTrees, SuffixTree, MoreParams, ParamTree, EnumeratorTree, MoreEnumerators}
use Rattle.c_nodes.specs.Trees as tree
use Rattle.c_nodes.specs.Words.{Symbols}
use Rattle.type_rules.specs.Faults as kind
use Rattle.type_rules.specs.Known.{Tag, StructTag, EnumTag, Open, Closed, Known, Rule, given, broken, known_here, tried, ◌>>=◌}
use Rattle.type_rules.specs.Names.{enter_list, leave_list}
use Rattle.type_rules.specs.Rows.{tagged, new_tag, new_enum_tag, new_structure, set_progress, is_absent, progress_of}
use Rattle.type_rules.specs.Specifiers.{Site, InFile, InBlock, OfMember, OfParam, StructBase, EnumBase, Gathered, nothing_gathered, with_word_of, with_base, type_name_rule, Specified, specifiers, spec_line}
use Rattle.type_rules.specs.TypeNames.{with_pointers, enum_rule}
use Rattle.type_rules.specs.Constants.{array_length}
use Rattle.type_rules.specs.Enumerators.{enumerators}
use Rattle.type_rules.specs.Outlines.{Param, Made, ArrayMade, FunctionMade, Outline, object_outline, outlined, param_outlined, param_rule, member_rule, declarator_line}

-- Where specifiers stand, and whether a structure or an enumeration may have its body there: in the file, and not inside another body.
pub record Context : Type 0 where
  pub site : Site
  pub bodies : Bool

abbrev pub in_file : Context
in_file = record { site = InFile; bodies = true }

abbrev pub in_block : Context
in_block = record { site = InBlock; bodies = false }

abbrev pub of_member : Context
of_member = record { site = OfMember; bodies = false }

abbrev pub of_param : Bool → Context
of_param bodies = record { site = OfParam; bodies = bodies }

-- ---- tags (6.5.2.3): declarations and members in the file declare them

abbrev pub declares_tags : Site → Bool
declares_tags InFile = true
declares_tags OfMember = true
declares_tags _ = false

abbrev pub tag_or_new : Option Tag → Context → List ℕ → ℕ → Rule ℕ
tag_or_new (Some (StructTag number)) context tag line = given number
tag_or_new (Some EnumTag) context tag line = broken kind.Again line
tag_or_new None context tag line = if declares_tags context.site then new_tag tag else broken kind.Name line

abbrev pub structure_of : Context → List ℕ → ℕ → Rule ℕ
structure_of context tag line = do
  known ← known_here
  tag_or_new (tagged known tag) context tag line

abbrev pub structure_in : Context → Symbols → ℕ → Rule ℕ
structure_in context [] line = new_structure
structure_in context (n ∷ ns) line = structure_of context n.bytes line

-- A body is the first one of its structure, and stands where bodies may stand.
abbrev pub body_opened : Context → Symbols → ℕ → Rule ℕ
body_opened context tag line = do
  number ← structure_in context tag line
  known ← known_here
  _ ← tried ((not (is_absent (progress_of known number)), kind.Again) ∷ (not context.bodies, kind.Declare) ∷ []) line
  _ ← set_progress number Open
  given number

-- The tag of an enumeration with a body isn't declared before.
abbrev pub is_tagged : Known → Symbols → Bool
is_tagged known [] = false
is_tagged known (n ∷ ns) = is_some (tagged known n.bytes)

abbrev pub enum_opened : Context → Symbols → ℕ → Rule Known
enum_opened context tag line = do
  known ← known_here
  tried ((is_tagged known tag, kind.Again) ∷ (not context.bodies, kind.Declare) ∷ []) line

-- It is declared behind the body.
abbrev pub enum_closed : Symbols → Rule Known
enum_closed [] = known_here
enum_closed (n ∷ ns) = new_enum_tag n.bytes

abbrev pub enum_body : Context → Symbols → EnumeratorTree → MoreEnumerators → ℕ → Rule Known
enum_body context tag e es line = do
  _ ← enum_opened context tag line
  _ ← enumerators e es
  enum_closed tag

-- ---- the recursion

unfoldable mutual
  pub specified : SpecTrees → Context → Rule Specified
  specified (tree.Specified s ss) context = do
    first ← spec_rule s context nothing_gathered
    gathered ← more_specs ss context first
    specifiers context.site gathered (spec_line s)

  pub more_specs : MoreSpecs → Context → Gathered → Rule Gathered
  more_specs tree.NoSpec context g = given g
  more_specs (tree.AndSpec s ss) context g = do
    next ← spec_rule s context g
    more_specs ss context next

  pub spec_rule : SpecTree → Context → Gathered → Rule Gathered
  spec_rule (tree.OneWord s) context g = given (with_word_of s.kind g)
  spec_rule (tree.Tagged line n) context g = do
    number ← structure_of context n.bytes line
    given (with_base (StructBase number) g)
  spec_rule (tree.Body line tag opening m ms closing) context g = do
    number ← body_opened context tag line
    _ ← members m number
    _ ← more_members ms number
    _ ← set_progress number Closed
    given (with_base (StructBase number) g)
  spec_rule (tree.NamedType s) context g = type_name_rule s g
  spec_rule (tree.EnumTagged line n) context g = enum_rule n line g
  spec_rule (tree.EnumBody line tag opening e es last closing) context g = do
    _ ← enum_body context tag e es line
    given (with_base EnumBase g)

  pub members : MemberTree → ℕ → Rule Known
  members (tree.Members s d ds semicolon) number = do
    said ← specified s of_member
    _ ← field d said number
    more_fields ds said number

  pub more_members : MoreMembers → ℕ → Rule Known
  more_members tree.NoMember number = known_here
  more_members (tree.AndMember m ms) number = do
    _ ← members m number
    more_members ms number

  pub more_fields : MoreDeclarators → Specified → ℕ → Rule Known
  more_fields tree.NoDeclarator said number = known_here
  more_fields (tree.AndDeclarator comma d ds) said number = do
    _ ← field d said number
    more_fields ds said number

  pub field : DeclaratorTree → Specified → ℕ → Rule Known
  field (tree.Declares pointers n ss) said number = do
    base ← with_pointers pointers said.ty
    made ← suffixes ss false
    o ← outlined made (object_outline base said.waiting)
    member_rule number o n.bytes (declarator_line pointers n)

  -- Suffixes are tried first, from left to right.
  pub suffixes : SuffixTrees → Bool → Rule (List Made)
  suffixes tree.NoSuffix bodies = given []
  suffixes (tree.AndSuffix s ss) bodies = do
    made ← suffix s bodies
    more ← suffixes ss bodies
    given (made ∷ more)

  pub suffix : SuffixTree → Bool → Rule Made
  suffix (tree.Unsized opening closing) bodies = given (ArrayMade 0)
  suffix (tree.Sized opening e closing) bodies = do
    count ← array_length e
    given (ArrayMade count)
  suffix (tree.Empty opening closing) bodies = given (FunctionMade [] [])
  suffix (tree.VoidOnly opening word closing) bodies = given (FunctionMade [] [])
  suffix (tree.Params opening p ps closing) bodies = do
    _ ← enter_list
    first ← param p bodies []
    all ← more_params ps bodies first
    scope ← leave_list
    given (FunctionMade all scope)

  pub more_params : MoreParams → Bool → List Param → Rule (List Param)
  more_params tree.NoParam bodies before = given before
  more_params (tree.AndParam comma p ps) bodies before = do
    next ← param p bodies before
    more_params ps bodies next

  pub param : ParamTree → Bool → List Param → Rule (List Param)
  param (tree.Named s (tree.Declares pointers n ss)) bodies before = do
    said ← specified s (of_param bodies)
    base ← with_pointers pointers said.ty
    made ← suffixes ss bodies
    o ← param_outlined made (object_outline base said.waiting)
    param_rule before said o n.bytes (declarator_line pointers n)
  param (tree.Unnamed s pointers ss) bodies before = do
    said ← specified s (of_param bodies)
    base ← with_pointers pointers said.ty
    made ← suffixes ss bodies
    o ← param_outlined made (object_outline base said.waiting)
    param_rule before said o [] said.line

-- What a declarator makes of what its specifiers say.
abbrev pub outline_of : DeclaratorTree → Specified → Bool → Rule Outline
outline_of (tree.Declares pointers n ss) said bodies = do
  base ← with_pointers pointers said.ty
  made ← suffixes ss bodies
  outlined made (object_outline base said.waiting)

abbrev pub name_in : DeclaratorTree → List ℕ
name_in (tree.Declares pointers n ss) = n.bytes

abbrev pub line_in : DeclaratorTree → ℕ
line_in (tree.Declares pointers n ss) = declarator_line pointers n
