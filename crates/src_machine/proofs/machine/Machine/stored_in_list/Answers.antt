use Rattle.std.proofs.Common.{◌+◌, arith, sym, map, drop, ap, ◌∙◌}
use Rattle.src_machine.specs.Seen.{stack_of, memory_of, setting_of}
use Rattle.src_rules.specs.Accesses.{items, stored_for}
use Rattle.src_values.specs.Seen.{statement_in, stage_in}
use Rattle.c_typed.specs.Views.{item_of}
use Rattle.src_machine.proofs.Bytes.{list_stored, list_items}
use Rattle.src_machine.proofs.OtherStages.{stored_list_lost}
use Rattle.src_machine.proofs.machine.Machine.stored_in_list.Goals as goal

pub returns-then-at-len-clause-tells : goal.returns-then-at-len-clause-tells
returns-then-at-len-clause-tells c = λ room is o w.
    c.items.ensures.tells room (list_items (statement_in c.args.code) c.args.local (map item_of c.args.items.now.items) is) o w
    ∙ ap (λ object. items (setting_of c.args.self.now o) (statement_in c.args.code) object (drop (c.in-Items.at + 1) (map item_of c.args.items.now.items)) (stack_of c.args.self.now) c.args.self.now.copy (memory_of c.args.self.now) w) c.local_of-object.ensures
    ∙ list_stored (setting_of c.args.self.now o) (statement_in c.args.code) c.args.local c.args.items.now.items c.in-Items.at (stack_of c.args.self.now) c.args.self.now.copy (memory_of c.args.self.now) w is (omega (arith, c.if-at-len.true, c.len.ensures))
    ∙ ap (λ stage. stored_for (setting_of c.args.self.now o) (statement_in c.args.code) (stage_in (statement_in c.args.code) stage) (stack_of c.args.self.now) c.args.self.now.copy (memory_of c.args.self.now) w) (sym c.in-Items.is)

pub returns-in_default-clause-tells : goal.returns-in_default-clause-tells
returns-in_default-clause-tells c =
    let old = c.args.self.now in
    λ room is o w. sym (stored_list_lost c.args.stage c.in_default.not-Items c.in_default.not-Blanks (setting_of old o) (stack_of old) old.copy (memory_of old) w (statement_in c.args.code) c.args.local (map item_of c.args.items.now.items) is)
