use Rattle.std.proofs.Common.{ap, length, map}
use Rattle.c_nodes.specs.ProgramViews.{unit_of}
use Rattle.c_nodes.specs.Programs.{spelled_unit}
use Rattle.c_typed.specs.Nodes.{program_size}
use Rattle.c_typed.specs.Views.{function_of, static_of}
use Rattle.type_rules.specs.Units as rule
use Rattle.c_tables.specs.Tables.{known_of}
use Rattle.c_check.proofs.Units.{is_given, is_kept, is_few, is_bounded}
use Rattle.c_check.proofs.unit.typed.Goals as goal

pub invariant_of-result : goal.invariant_of-result
invariant_of-result c =
    let unit = unit_of c.args.unit.now in
    let known = known_of c.args.checker in
    let p = rule.program_from known (map function_of c.args.functions.items) in
    let ts = c.in-Ok.targets.items in
    let ss = c.in-Ok.structures.items in
    let os = c.into_entries.result.items in
    let fs = c.args.functions.items in
    let is = is_given known ts ss os fs (c.in-Ok.ensures.targets known) (c.in-Ok.ensures.structures known) (ap (λ v. map static_of v.items) c.into_entries.ensures) in
    record { sound = is_kept unit p ts ss os fs c.requires.judged is; small = (is_bounded (program_size os fs) (length (spelled_unit unit)) (is_few unit p ts ss os fs c.requires.judged is) c.requires.few).1 }

pub returns-clause-ok : goal.returns-clause-ok
returns-clause-ok c =
    let known = known_of c.args.checker in
    is_given known c.in-Ok.targets.items c.in-Ok.structures.items c.into_entries.result.items c.args.functions.items (c.in-Ok.ensures.targets known) (c.in-Ok.ensures.structures known) (ap (λ v. map static_of v.items) c.into_entries.ensures)

pub returns-clause-few : goal.returns-clause-few
returns-clause-few c =
    let known = known_of c.args.checker in
    let ts = c.in-Ok.targets.items in
    let ss = c.in-Ok.structures.items in
    let os = c.into_entries.result.items in
    let fs = c.args.functions.items in
    let is = is_given known ts ss os fs (c.in-Ok.ensures.targets known) (c.in-Ok.ensures.structures known) (ap (λ v. map static_of v.items) c.into_entries.ensures) in
    is_few (unit_of c.args.unit.now) (rule.program_from known (map function_of fs)) ts ss os fs c.requires.judged is

pub returns-clause-bounded : goal.returns-clause-bounded
returns-clause-bounded c =
    let known = known_of c.args.checker in
    let ts = c.in-Ok.targets.items in
    let ss = c.in-Ok.structures.items in
    let os = c.into_entries.result.items in
    let fs = c.args.functions.items in
    let unit = unit_of c.args.unit.now in
    let is = is_given known ts ss os fs (c.in-Ok.ensures.targets known) (c.in-Ok.ensures.structures known) (ap (λ v. map static_of v.items) c.into_entries.ensures) in
    (is_bounded (program_size os fs) (length (spelled_unit unit)) (is_few unit (rule.program_from known (map function_of fs)) ts ss os fs c.requires.judged is) c.requires.few).0
