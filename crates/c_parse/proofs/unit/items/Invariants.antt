use Rattle.std.proofs.Common.{◌≡◌, ◌-◌, length, map}
use Rattle.c_nodes.specs.ProgramViews.{item_of}
use Rattle.c_parse.specs.Reading.{next_item_by}
use Rattle.parse_expr.specs.Reader.{collect, all_that, symbols_in}
use Rattle.parse_expr.proofs.Loops.{fronted}
use Rattle.c_parse.proofs.unit.items.Given as goal

abbrev pub invariant-loop : goal.invariant-loop
invariant-loop l = fronted (map item_of l.found.items) (collect (next_item_by l.fuel) (length l.toks - l.counter) (symbols_in l.text l.rest)) ≡ all_that (next_item_by l.fuel) (symbols_in l.text l.toks)
