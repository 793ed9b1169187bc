use Rattle.std.proofs.Common.{◌∷◌, ap, sym, false, ◌∙◌}
use Rattle.c_typed.specs.Views.{expression_of}
use Rattle.src_machine.proofs.Calls.{hands_no_part}
use Rattle.src_machine.proofs.OtherNodes.{hands_other}
use Rattle.src_machine.proofs.OtherStages.{none_called_by}
use Rattle.src_machine.specs.Seen.{waiting, interrupted_in, memory_of}
use Rattle.src_rules.specs.Statements.{handed}
use Rattle.src_values.specs.Control.{In}
use Rattle.src_values.specs.Seen.{datum_of, frames_behind, got_in, has_values, values_on}
use Rattle.src_machine.proofs.machine.Machine.handed_to.Goals as goal

-- another expression than a call
pub returns-in_default-expr-clause-tells : goal.returns-in_default-expr-clause-tells
returns-in_default-expr-clause-tells c = λ w.
    let old = c.args.self.now in
    let e = expression_of c.args.expr.now in
    sym (ap (λ got. handed (datum_of c.args.value) c.args.caller (In e (got_in e got (values_on (waiting old))) ∷ frames_behind (interrupted_in old) (has_values got) (waiting old)) (memory_of old) w) c.in-Called.is
    ∙ hands_other c.args.expr.now c.in_default-expr.not-Call (datum_of c.args.value) c.args.caller (frames_behind (interrupted_in old) false (waiting old)) (memory_of old) w)

-- a call that isn't under way
pub returns-in_default-clause-tells : goal.returns-in_default-clause-tells
returns-in_default-clause-tells c = λ w.
    let old = c.args.self.now in
    sym (hands_no_part (datum_of c.args.value) c.args.caller (expression_of c.args.expr.now) c.args.got (values_on (waiting old)) (frames_behind (interrupted_in old) (has_values c.args.got) (waiting old)) (memory_of old) w
    (none_called_by c.args.got c.in_default.not-Called))
