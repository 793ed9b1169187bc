use Rattle.std.proofs.Common.{sym, ◌∙◌}
use Rattle.src_machine.proofs.Turns.{has_items, starts_list}
use Rattle.src_machine.specs.Seen.{stack_of, memory_of, setting_of}
use Rattle.src_values.specs.Seen.{statement_in}
use Rattle.src_machine.proofs.machine.Machine.starts.Goals as goal

pub returns-in-InitList-clause-tells : goal.returns-in-InitList-clause-tells
returns-in-InitList-clause-tells c = λ room is other o w.
    c.listed.ensures.tells room (has_items (statement_in c.args.code) c.args.statement.now c.in-InitList.local c.in-InitList.items c.in-InitList.line is c.in-InitList.is) o w
    ∙ sym (starts_list (setting_of c.args.self.now o) (statement_in c.args.code) c.args.statement.now c.in-InitList.local c.in-InitList.items c.in-InitList.line (stack_of c.args.self.now) c.args.self.now.copy (memory_of c.args.self.now) w is c.in-InitList.is)
