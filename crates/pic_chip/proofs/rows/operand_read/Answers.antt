use Rattle.std.proofs.Common.{◌≡◌, ◌∙◌}
use Rattle.pic_chip.specs.Named.{named}
use Rattle.pic_chip.proofs.Wanted.{byte_wants, test_wants}
use Rattle.pic_chip.proofs.rows.operand_read.Goals as goal

pub returns-clause-byte : goal.returns-clause-byte
returns-clause-byte c = λ inputs d result flags next.
    c.device_of.ensures ∙ byte_wants c.args.profile inputs c.args.processor.now c.args.f (named c.operand.result) c.operand.ensures.fits c.operand.ensures.leads d result flags next

pub returns-clause-test : goal.returns-clause-test
returns-clause-test c = λ inputs b v.
    c.device_of.ensures ∙ test_wants c.args.profile inputs c.args.processor.now c.args.f (named c.operand.result) c.operand.ensures.fits c.operand.ensures.leads b v
