-- The parts of declarators between the rules' own.
use Rattle.std.specs.Prelude.{ℕ, Bool, true, if◌then◌else◌}
use Rattle.c_token.specs.declared.token.Keyword.{Keyword}
use Rattle.c_token.specs.declared.token.Keyword.TheVariants as words
use Rattle.c_token.specs.declared.token.TokKind.TheVariants as kinds
use Rattle.c_nodes.specs.Kinds.{is_key}
use Rattle.c_nodes.specs.Trees.{SpecTree, TypeTree}
use Rattle.c_nodes.specs.Trees as tree
use Rattle.c_typed.specs.declared.types.Qualified.{Qualified}
use Rattle.type_rules.specs.Declarators.{members, more_members, enum_body}
use Rattle.type_rules.specs.Known.{Closed, Known, Rule, known_here, ◌>>=◌}
use Rattle.type_rules.specs.Places.{size_of_type}
use Rattle.type_rules.specs.Rows.{set_progress}
use Rattle.type_rules.specs.Specifiers.{InFile}
use Rattle.type_rules.specs.Terms.{Term}
use Rattle.type_rules.specs.TypeNames.{type_named}

-- the members of a structure, which is whole behind them
abbrev pub body_rule : SpecTree → ℕ → Rule Known
body_rule (tree.Body line tag opening m ms closing) number = do
  _ ← members m number
  _ ← more_members ms number
  set_progress number Closed
body_rule _ number = known_here

-- the body of an enumeration, where bodies may stand or not
abbrev pub enum_rule : SpecTree → Bool → Rule Known
enum_rule (tree.EnumBody line tag opening e es last closing) bodies = enum_body (record { site = InFile; bodies = bodies }) tag e es line
enum_rule _ bodies = known_here

-- `sizeof` of the name of a type
abbrev pub sized_name : TypeTree → ℕ → Rule Term
sized_name name line = do
  of ← type_named name
  size_of_type of.ty line

-- a pointer with a word more behind its star
abbrev pub with_qualifier : Keyword → Qualified → Qualified
with_qualifier keyword ty = if is_key words.Const (kinds.Keyword keyword) then record ty { constant = true } else record ty { volatile = true }
