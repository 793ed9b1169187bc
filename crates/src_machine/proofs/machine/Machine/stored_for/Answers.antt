use Rattle.std.proofs.Common.{sym, ap, ◌∙◌, [], map}
use Rattle.c_typed.specs.Views.{item_of}
use Rattle.src_machine.proofs.Bytes.{list_there, scalar_there, stored_nowhere}
use Rattle.src_machine.proofs.machine.Machine.stored_for.Goals as goal
use Rattle.src_machine.specs.Seen.{setting_of, stack_of, memory_of}
use Rattle.src_values.specs.Control as control
use Rattle.src_values.specs.Seen.{statement_in, list_seen}

pub returns-in-Some-clause-tells : goal.returns-in-Some-clause-tells
returns-in-Some-clause-tells c = λ room o w.
    c.stored_in_list.ensures.tells room (list_there (statement_in c.args.code) c.in-Some.local (map item_of c.in-Some.items.now.items) (sym (c.list_at.ensures control.Past []) ∙ ap list_seen c.in-Some.is)) o w

pub returns-clause-tells : goal.returns-clause-tells
returns-clause-tells c = λ room o w.
    stored_nowhere (setting_of c.args.self.now o) c.args.code c.args.stage (stack_of c.args.self.now) c.args.self.now.copy (memory_of c.args.self.now) w (sym (c.list_at.ensures control.Past []) ∙ ap list_seen c.in_default.is)
    (scalar_there c.args.code c.statement.result c.in-Some-statement.statement c.is_scalar.result c.statement.ensures c.in-Some-statement.is c.is_scalar.ensures ∙ c.if-is_scalar.false)
