use Rattle.std.proofs.Common.{◌≡◌, ◌+◌, ◌-◌, ◌*◌, length, map}
use Rattle.c_nodes.specs.ProgramViews.{statement_of, else_arm_of, switch_item_of}
use Rattle.c_parse.specs.Reading.{next_statement_by, next_arm_by, inner_by, statement_at}
use Rattle.parse_expr.specs.Reader.{collect, all_that, symbols_in}
use Rattle.parse_expr.proofs.Loops.{fronted}
use Rattle.c_parse.proofs.statement.+statement.Given as goal

abbrev pub decreases-statement : goal.decreases-statement
decreases-statement l = 8 * l.room

abbrev pub decreases-entered : goal.decreases-entered
decreases-entered l = 8 * l.room + 6

abbrev pub decreases-braced : goal.decreases-braced
decreases-braced l = 8 * l.room + 5

abbrev pub decreases-block : goal.decreases-block
decreases-block l = 8 * l.room + 4

abbrev pub decreases-next_statement : goal.decreases-next_statement
decreases-next_statement l = 8 * l.room + 1

abbrev pub decreases-statements : goal.decreases-statements
decreases-statements l = 8 * l.room + 2

abbrev pub decreases-chain : goal.decreases-chain
decreases-chain l = 8 * l.room + 4

abbrev pub decreases-arm : goal.decreases-arm
decreases-arm l = 8 * l.room + 1

abbrev pub decreases-next_arm : goal.decreases-next_arm
decreases-next_arm l = 8 * l.room + 2

abbrev pub decreases-next_arms : goal.decreases-next_arms
decreases-next_arms l = 8 * l.room + 3

abbrev pub decreases-last_arm : goal.decreases-last_arm
decreases-last_arm l = 8 * l.room + 1

abbrev pub decreases-while_loop : goal.decreases-while_loop
decreases-while_loop l = 8 * l.room + 1

abbrev pub decreases-do_loop : goal.decreases-do_loop
decreases-do_loop l = 8 * l.room + 1

abbrev pub decreases-for_loop : goal.decreases-for_loop
decreases-for_loop l = 8 * l.room + 1

abbrev pub decreases-switch : goal.decreases-switch
decreases-switch l = 8 * l.room + 3

abbrev pub decreases-inner : goal.decreases-inner
decreases-inner l = 8 * l.room + 1

abbrev pub decreases-inners : goal.decreases-inners
decreases-inners l = 8 * l.room + 2

abbrev pub invariant-statements-loop : goal.invariant-statements-loop
invariant-statements-loop l = fronted (map statement_of l.found.items) (collect (next_statement_by (statement_at l.fuel l.room)) (length l.toks - l.counter) (symbols_in l.text l.rest)) ≡ all_that (next_statement_by (statement_at l.fuel l.room)) (symbols_in l.text l.toks)

abbrev pub invariant-next_arms-loop : goal.invariant-next_arms-loop
invariant-next_arms-loop l = fronted (map else_arm_of l.found.items) (collect (next_arm_by l.fuel (statement_at l.fuel l.room)) (length l.toks - l.counter) (symbols_in l.text l.rest)) ≡ all_that (next_arm_by l.fuel (statement_at l.fuel l.room)) (symbols_in l.text l.toks)

abbrev pub invariant-inners-loop : goal.invariant-inners-loop
invariant-inners-loop l = fronted (map switch_item_of l.found.items) (collect (inner_by l.fuel (statement_at l.fuel l.room)) (length l.toks - l.counter) (symbols_in l.text l.rest)) ≡ all_that (inner_by l.fuel (statement_at l.fuel l.room)) (symbols_in l.text l.toks)
