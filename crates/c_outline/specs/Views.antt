-- What specifiers and declarators say to the checker, as the rules speak of it.
use Rattle.std.specs.Prelude.{Bool, true, false, map}
use Rattle.type_rules.specs.Outlines as rule
use Rattle.type_rules.specs.Specifiers as rule_specifiers
use Rattle.c_tables.specs.Tables.{scope_of, waiting_of}
use Rattle.c_outline.specs.declared.outline.Declared.{Declared}
use Rattle.c_outline.specs.declared.outline.Declared.TheVariants as declared
use Rattle.c_outline.specs.declared.outline.Made.{Made}
use Rattle.c_outline.specs.declared.outline.Made.TheVariants as made
use Rattle.c_outline.specs.declared.outline.Outline.{Outline}
use Rattle.c_outline.specs.declared.outline.ParamShape.{ParamShape}
use Rattle.c_outline.specs.declared.specifiers.Site.{Site}
use Rattle.c_outline.specs.declared.specifiers.Site.TheVariants as sites
use Rattle.c_outline.specs.declared.specifiers.Specified.{Specified}
use Rattle.c_outline.specs.declared.specifiers.Storage.{Storage}
use Rattle.c_outline.specs.declared.specifiers.Storage.TheVariants as storages

-- ---- specifiers

abbrev pub site_of : Site → rule_specifiers.Site
site_of sites.File = rule_specifiers.InFile
site_of sites.Block = rule_specifiers.InBlock
site_of sites.Member = rule_specifiers.OfMember
site_of sites.Param = rule_specifiers.OfParam
site_of sites.TypeName = rule_specifiers.OfTypeName

abbrev pub is_typedef : Storage → Bool
is_typedef storages.Typedef = true
is_typedef _ = false

abbrev pub is_static : Storage → Bool
is_static storages.Static = true
is_static _ = false

abbrev pub is_register : Storage → Bool
is_register storages.Register = true
is_register _ = false

abbrev pub specified_of : Specified → rule_specifiers.Specified
specified_of s = record { ty = s.ty; waiting = waiting_of s.waiting; is_typedef = is_typedef s.storage; fixed = is_static s.storage; register = is_register s.storage; interrupt = s.interrupt; line = s.line }

-- ---- declarators

abbrev pub param_of : ParamShape → rule.Param
param_of p = record { name = p.name.items; ty = p.ty; fixed = p.fixed; line = p.line }

abbrev pub made_of : Made → rule.Made
made_of (made.Array length) = rule.ArrayMade length
made_of (made.Function list) = rule.FunctionMade (map param_of list.params.items) (scope_of list.names)

abbrev pub declared_of : Declared → rule.Declared
declared_of (declared.Object ty) = rule.ObjectDeclared ty
declared_of (declared.Function result params names) = rule.FunctionDeclared result (map param_of params.items) (scope_of names)

abbrev pub outline_of : Outline → rule.Outline
outline_of o = record { declared = declared_of o.declared; bad = o.bad; waiting = waiting_of o.waiting }
