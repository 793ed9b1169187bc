use Rattle.std.proofs.Common.{◌∙◌, ap, sym, List}
use Rattle.std.specs.Ordering.{nat_cmp}
use Rattle.std.specs.Cmp.Lexicographic.{slice_cmp}
use Rattle.std.specs.BTreeMap.{is_at}
use Rattle.std.specs.Map.{lookup}
use Rattle.c_pre.specs.declared.directive.Definition.{Definition}
use Rattle.c_pre.specs.Directive.{position_of, table_of}
use Rattle.c_pre.proofs.Tables.{nowhere}
use Rattle.c_pre.proofs.names.no_definitions.Goals as goal

pub returns-clause-indexed : goal.returns-clause-indexed
returns-clause-indexed c = λ name.
    ap (lookup (is_at (λ k. slice_cmp nat_cmp name k.now))) c.new-2.ensures.empty ∙ nowhere name
    ∙ sym (ap (λ (ds : List Definition). position_of (table_of ds) name) c.new.ensures.items)
