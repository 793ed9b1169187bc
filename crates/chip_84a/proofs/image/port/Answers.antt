use Rattle.std.proofs.Common.{◌∙◌, ap}
use Rattle.chip_84a.specs.Port.{port_word}
use Rattle.chip_84a.proofs.Filled.{begins, goes_on, ends, rows_stand}
use Rattle.chip_84a.proofs.image.port.Goals as goal

pub loop-at-init : goal.loop-at-init
loop-at-init c = begins c.args.image.now c.in_ok-ported.ported c.in_ok-ported.ensures

pub loop-at-preserved : goal.loop-at-preserved
loop-at-preserved c =
    goes_on c.args.image.now c.loop-at.ported c.loop-at.at c.port_word.result c.set.new.self c.loop-at.invariant c.loop-at-test.true c.word.ensures.words
    (c.port_word.ensures.value ∙ ap port_word c.word.ensures.value) c.set.ensures.set

pub returns-clause-words : goal.returns-clause-words
returns-clause-words c = ends c.args.image.now c.loop-at.ported c.loop-at.at c.loop-at.invariant c.loop-at-test.false c.loop-at.auto.at-end

pub returns-clause-rows : goal.returns-clause-rows
returns-clause-rows c =
    rows_stand c.args.image.now c.loop-at.ported (ends c.args.image.now c.loop-at.ported c.loop-at.at c.loop-at.invariant c.loop-at-test.false c.loop-at.auto.at-end)
