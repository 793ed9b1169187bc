use Rattle.std.proofs.Common.{arith, ◌∙◌, sym}
use Rattle.pic_isa.proofs.Rows.{of_jump, of_literal}
use Rattle.pic_isa.proofs.decode_word.Goals as goal

pub returns-in-2-clause-same : goal.returns-in-2-clause-same
returns-in-2-clause-same c = c.jump_ins.ensures.same ∙ sym (of_jump c.args.word (omega arith) (omega arith))

pub returns-in_default-clause-same : goal.returns-in_default-clause-same
returns-in_default-clause-same c = c.literal_ins.ensures.same ∙ sym (of_literal c.args.word (omega arith) (omega arith))
