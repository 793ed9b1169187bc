use Rattle.std.proofs.Common.{◌≡◌, ◌-◌, length, map}
use Rattle.c_nodes.specs.ProgramViews.{next_begun_of}
use Rattle.c_parse.specs.Reading.{next_begun_by}
use Rattle.parse_expr.specs.Reader.{collect, all_that, symbols_in}
use Rattle.parse_expr.proofs.Loops.{fronted}
use Rattle.c_parse.proofs.declaration.next_begins.Given as goal

abbrev pub invariant-loop : goal.invariant-loop
invariant-loop l = fronted (map next_begun_of l.found.items) (collect (next_begun_by l.fuel) (length l.toks - l.counter) (symbols_in l.text l.rest)) ≡ all_that (next_begun_by l.fuel) (symbols_in l.text l.toks)
