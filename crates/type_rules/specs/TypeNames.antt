-- Pointers, and the names of types (ISO/IEC 9899:1990, 6.5.4.1 and 6.5.5).
use Rattle.std.specs.Prelude.{ℕ, Bool, true, if◌then◌else◌, [], ◌∷◌, Option, Some, None, is_some}
use Rattle.c_token.specs.declared.token.Keyword.TheVariants as words
use Rattle.c_token.specs.declared.token.Punct.TheVariants as marks
use Rattle.c_nodes.specs.Kinds.{is_punct, is_key}
use Rattle.c_nodes.specs.Trees.{TypeTree, SpecTrees, MoreSpecs, SpecTree}
use Rattle.c_nodes.specs.Trees as tree
use Rattle.c_nodes.specs.Words.{Symbol, Symbols}
use Rattle.c_typed.specs.declared.types.Qualified.{Qualified}
use Rattle.type_rules.specs.Faults as kind
use Rattle.type_rules.specs.Faults.{Kind}
use Rattle.type_rules.specs.Known.{is_waiting, Tag, StructTag, EnumTag, Known, Rule, given, broken, known_here, tried, ◌>>=◌}
use Rattle.type_rules.specs.Rows.{plain, pointer_to, tagged, is_absent, progress_of}
use Rattle.type_rules.specs.Specifiers.{OfTypeName, Base, EnumBase, Gathered, nothing_gathered, with_word_of, with_base, type_name_rule, specifiers, specs_line}

-- A `*` makes a pointer, and a qualifier behind it qualifies that pointer.
abbrev pub with_pointers : Symbols → Qualified → Rule Qualified
with_pointers [] ty = given ty
with_pointers (s ∷ rest) ty =
    if is_punct marks.Star s.kind then (do
      pointer ← pointer_to ty
      with_pointers rest (plain pointer))
    else if is_key words.Const s.kind then with_pointers rest (record ty { constant = true })
    else with_pointers rest (record ty { volatile = true })

-- ---- the name of a type has no structure and no body of an enumeration: a tag is declared before, and then a structure may not stand there

abbrev pub is_first_body : Known → ℕ → Bool
is_first_body known number = is_absent (progress_of known number)

-- why the body of a structure can't stand there
abbrev pub body_kind_of : Known → Option Tag → Kind
body_kind_of known None = kind.Name
body_kind_of known (Some (StructTag number)) = if is_first_body known number then kind.Declare else kind.Again
body_kind_of known (Some EnumTag) = kind.Again

abbrev pub body_kind : Known → Symbols → Kind
body_kind known [] = kind.Declare
body_kind known (n ∷ ns) = body_kind_of known (tagged known n.bytes)

-- why `struct NAME` can't
abbrev pub tag_kind_of : Option Tag → Kind
tag_kind_of None = kind.Name
tag_kind_of (Some (StructTag number)) = kind.Declare
tag_kind_of (Some EnumTag) = kind.Again

abbrev pub tag_kind : Known → Symbol → Kind
tag_kind known n = tag_kind_of (tagged known n.bytes)

-- why the body of an enumeration can't
abbrev pub enum_body_kind : Known → Symbols → Kind
enum_body_kind known [] = kind.Declare
enum_body_kind known (n ∷ ns) = if is_some (tagged known n.bytes) then kind.Again else kind.Declare

-- `enum NAME` names an enumeration that is declared.
abbrev pub enum_of : Option Tag → ℕ → Rule Base
enum_of None line = broken kind.Name line
enum_of (Some (StructTag number)) line = broken kind.Again line
enum_of (Some EnumTag) line = given EnumBase

abbrev pub enum_rule : Symbol → ℕ → Gathered → Rule Gathered
enum_rule n line g = do
  known ← known_here
  base ← enum_of (tagged known n.bytes) line
  given (with_base base g)

abbrev pub named_spec : SpecTree → Gathered → Rule Gathered
named_spec (tree.OneWord s) g = given (with_word_of s.kind g)
named_spec (tree.Tagged k n) g = do
  known ← known_here
  broken (tag_kind known n) k
named_spec (tree.Body k tag o m ms c) g = do
  known ← known_here
  broken (body_kind known tag) k
named_spec (tree.NamedType s) g = type_name_rule s g
named_spec (tree.EnumTagged k n) g = enum_rule n k g
named_spec (tree.EnumBody k tag o e es last c) g = do
  known ← known_here
  broken (enum_body_kind known tag) k

abbrev pub more_named_specs : MoreSpecs → Gathered → Rule Gathered
more_named_specs tree.NoSpec g = given g
more_named_specs (tree.AndSpec s ss) g = do
  more ← named_spec s g
  more_named_specs ss more

abbrev pub named_specs : SpecTrees → Rule Gathered
named_specs (tree.Specified s ss) = do
  first ← named_spec s nothing_gathered
  more_named_specs ss first

-- A type that waits is none that anything is measured or converted by.
abbrev pub type_named : TypeTree → Rule Qualified
type_named (tree.TypeOf specs pointers) = do
  gathered ← named_specs specs
  base ← specifiers OfTypeName gathered (specs_line specs)
  _ ← tried ((is_waiting base.waiting, kind.Incomplete) ∷ []) base.line
  with_pointers pointers base.ty
