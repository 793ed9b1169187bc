-- What terms, and places of declarations, say to the checker, as the rules speak of them.
use Rattle.std.specs.Prelude.{[], Result, Ok, Err}
use Rattle.type_rules.specs.Declarators as rule
use Rattle.type_rules.specs.Faults.{Fault}
use Rattle.type_rules.specs.Known.{Known}
use Rattle.type_rules.specs.Terms.{Term}
use Rattle.c_outline.specs.Views.{site_of}
use Rattle.check_expr.specs.declared.declarator.Context.{Context}

-- ---- terms: what stands between commas isn't kept

abbrev pub unlisted : Result (Term × Known) Fault → Result (Term × Known) Fault
unlisted (Ok x) = Ok (record x.0 { listed = [] }, x.1)
unlisted (Err fault) = Err fault

-- ---- declarations

abbrev pub context_of : Context → rule.Context
context_of c = record { site = site_of c.site; bodies = c.bodies }
