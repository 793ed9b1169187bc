use Rattle.std.proofs.Common.{◌≡◌, ◌+◌, ◌-◌, ◌*◌, length, map}
use Rattle.c_nodes.specs.ProgramViews.{next_init_of}
use Rattle.parse_expr.specs.Reader.{collect, all_that, symbols_in}
use Rattle.c_parse.specs.Reading.{next_init_by, init_inside}
use Rattle.parse_expr.proofs.Loops.{fronted}
use Rattle.c_parse.proofs.initial.+init.Given as goal

abbrev pub decreases-inner_init : goal.decreases-inner_init
decreases-inner_init l = 8 * l.fuel

abbrev pub decreases-next_init : goal.decreases-next_init
decreases-next_init l = 8 * l.fuel + 1

abbrev pub decreases-next_inits : goal.decreases-next_inits
decreases-next_inits l = 8 * l.fuel + 2

abbrev pub decreases-list : goal.decreases-list
decreases-list l = 8 * l.fuel + 3

abbrev pub decreases-init : goal.decreases-init
decreases-init l = 8 * l.fuel + 4

abbrev pub invariant-next_inits-loop : goal.invariant-next_inits-loop
invariant-next_inits-loop l = fronted (map next_init_of l.found.items) (collect (next_init_by (init_inside l.fuel)) (length l.toks - l.counter) (symbols_in l.text l.rest)) ≡ all_that (next_init_by (init_inside l.fuel)) (symbols_in l.text l.toks)
