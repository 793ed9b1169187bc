use Rattle.src_machine.proofs.OtherStatements.{item_taken_lost}
use Rattle.std.proofs.Common.{◌∙◌, sym, length}
use Rattle.std.proofs.lemmas.Bool.{ltb-true}
use Rattle.src_machine.proofs.Gives.{scalar_taken}
use Rattle.src_machine.specs.Seen.{stack_of, memory_of, setting_of}
use Rattle.src_values.specs.Seen.{datum_of, statement_in}
use Rattle.src_machine.proofs.machine.Machine.take_item.Goals as goal

pub returns-in-Some-Scalar-clause-tells : goal.returns-in-Some-Scalar-clause-tells
returns-in-Some-Scalar-clause-tells c = λ room same o w.
    let looked = c.in-Some-Scalar.ensures.lookup in
    c.used.ensures.tells room w
    ∙ scalar_taken (setting_of c.args.self.now o) c.args.statement.now c.in-InitList.local c.in-InitList.items c.in-InitList.line c.args.at c.in-Some-Scalar.offset c.in-Some-Scalar.field-0-1 c.in-Some-Scalar.field-0.now c.deref.result.now (datum_of c.args.value) (stack_of c.args.self.now) c.args.self.now.copy (memory_of c.args.self.now) w c.behind-spot.result (statement_in c.args.code) c.local_of.result c.in-InitList.is c.deref.ensures.value (ltb-true c.args.at (length c.deref.result.now) (sym looked.0)) looked.1 c.in-Some-Scalar.field-0-is same c.local_of.ensures c.behind-spot.ensures

pub returns-in_default-clause-tells : goal.returns-in_default-clause-tells
returns-in_default-clause-tells c = λ room same o w. sym (item_taken_lost c.args.statement.now c.in_default.not-InitList (setting_of c.args.self.now o) c.args.at (datum_of c.args.value) (stack_of c.args.self.now) c.args.self.now.copy (memory_of c.args.self.now) w)
