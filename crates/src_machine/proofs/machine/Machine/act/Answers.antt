use Rattle.src_machine.proofs.Acting.{eval_told, find_told, give_told, found_told, begin_told, proceed_told, fetch_told, skim_told, write_told, put_bit_told, copy_read_told, copy_write_told, spell_told, blank_told, call_told, leave_told, compares_told, over_told}
use Rattle.src_machine.proofs.machine.Machine.act.Goals as goal

pub returns-in-Eval-clause-tells : goal.returns-in-Eval-clause-tells
returns-in-Eval-clause-tells c = λ s map w outside here. eval_told s map c.args.self.now c.eval.new.self c.eval.result w here c.in-Eval.expr c.in-Eval.is c.eval.ensures.others c.eval.ensures.quiet c.eval.ensures.tells

pub returns-in-Find-clause-tells : goal.returns-in-Find-clause-tells
returns-in-Find-clause-tells c = λ s map w outside here. find_told s map c.args.self.now c.find.new.self c.find.result w here c.in-Find.place c.in-Find.is c.find.ensures.others c.find.ensures.quiet c.find.ensures.tells

pub returns-in-Holds-clause-tells : goal.returns-in-Holds-clause-tells
returns-in-Holds-clause-tells c = λ s map w outside here. give_told s map c.args.self.now c.give.new.self c.give.result w here c.in-Holds.value c.in-Holds.is c.give.ensures.others c.give.ensures.quiet c.give.ensures.tells

pub returns-in-Found-clause-tells : goal.returns-in-Found-clause-tells
returns-in-Found-clause-tells c = λ s map w outside here. found_told s map c.args.self.now c.found.new.self c.found.result w here c.in-Found.spot c.in-Found.is c.found.ensures.others c.found.ensures.quiet c.found.ensures.tells

pub returns-in-Run-clause-tells : goal.returns-in-Run-clause-tells
returns-in-Run-clause-tells c = λ s map w outside here. begin_told s map c.args.self.now c.begin.new.self c.begin.result w here c.in-Run.code c.in-Run.is c.begin.ensures.tells

pub returns-in-Past-clause-tells : goal.returns-in-Past-clause-tells
returns-in-Past-clause-tells c = λ s map w outside here. proceed_told s map c.args.self.now c.proceed.new.self c.proceed.result w here c.in-Past.is c.proceed.ensures.tells

pub returns-in-Fetch-clause-tells : goal.returns-in-Fetch-clause-tells
returns-in-Fetch-clause-tells c = λ s map w outside here. fetch_told s map c.args.self.now c.fetch.new.self c.fetch.result w here c.in-Fetch.spot c.in-Fetch.read c.in-Fetch.is (λ known next few going. c.fetch.ensures.tells s map w here.at going outside known next few)

pub returns-in-Skim-clause-tells : goal.returns-in-Skim-clause-tells
returns-in-Skim-clause-tells c = λ s map w outside here. skim_told s map c.args.self.now c.skim.new.self c.skim.result w here c.in-Skim.spot c.in-Skim.left c.in-Skim.last c.in-Skim.is (λ known next going. c.skim.ensures.tells s map w c.in-Skim.last here.at going outside known next)

pub returns-in-Write-clause-tells : goal.returns-in-Write-clause-tells
returns-in-Write-clause-tells c = λ s map w outside here. write_told s map c.args.self.now c.write.new.self c.write.result w here c.in-Write.spot c.in-Write.value c.in-Write.at c.in-Write.is (λ known next going room. c.write.ensures.tells s map w here.at going room outside known next)

pub returns-in-PutBit-clause-tells : goal.returns-in-PutBit-clause-tells
returns-in-PutBit-clause-tells c = λ s map w outside here. put_bit_told s map c.args.self.now c.put_bit.new.self c.put_bit.result w here c.in-PutBit.register c.in-PutBit.bit c.in-PutBit.value c.in-PutBit.old c.in-PutBit.is (λ small going room. c.put_bit.ensures.tells small s map w here.at going room)

pub returns-in-CopyRead-clause-tells : goal.returns-in-CopyRead-clause-tells
returns-in-CopyRead-clause-tells c = λ s map w outside here. copy_read_told s map c.args.self.now c.copy_read.new.self c.copy_read.result w here c.in-CopyRead.to c.in-CopyRead.from c.in-CopyRead.left c.in-CopyRead.is (λ known going room. c.copy_read.ensures.tells s map w here.at going room outside known)

pub returns-in-CopyWrite-clause-tells : goal.returns-in-CopyWrite-clause-tells
returns-in-CopyWrite-clause-tells c = λ s map w outside here. copy_write_told s map c.args.self.now c.copy_write.new.self c.copy_write.result w here c.in-CopyWrite.to c.in-CopyWrite.from c.in-CopyWrite.byte c.in-CopyWrite.left c.in-CopyWrite.is (λ known to from going room. c.copy_write.ensures.tells s map w here.at going room known to from)

pub returns-in-Spell-clause-tells : goal.returns-in-Spell-clause-tells
returns-in-Spell-clause-tells c = λ s map w outside here. spell_told s map c.args.self.now c.spell.new.self c.spell.result w here c.in-Spell.spot c.in-Spell.text c.in-Spell.left c.in-Spell.is (λ next going room. c.spell.ensures.tells s map w here.at going room next)

pub returns-in-Blank-clause-tells : goal.returns-in-Blank-clause-tells
returns-in-Blank-clause-tells c = λ s map w outside here. blank_told s map c.args.self.now c.blank.new.self c.blank.result w here c.in-Blank.at c.in-Blank.end c.in-Blank.is (λ small going room. c.blank.ensures.tells small s map w here.at going room)

pub returns-in-Calls-clause-tells : goal.returns-in-Calls-clause-tells
returns-in-Calls-clause-tells c = λ s map w outside here. call_told s map c.args.self.now c.call.new.self c.call.result w here c.in-Calls.is c.call.ensures.others c.call.ensures.quiet c.call.ensures.tells

pub returns-in-Leaves-clause-tells : goal.returns-in-Leaves-clause-tells
returns-in-Leaves-clause-tells c = λ s map w outside here. leave_told s map c.args.self.now c.leave.new.self c.leave.result w here c.in-Leaves.value c.in-Leaves.is c.leave.ensures.others c.leave.ensures.quiet c.leave.ensures.tells

pub returns-in-Compares-clause-tells : goal.returns-in-Compares-clause-tells
returns-in-Compares-clause-tells c = λ s map w outside here. compares_told s map c.args.self.now c.compares.new.self c.compares.result w here c.in-Compares.value c.in-Compares.cases c.in-Compares.next c.in-Compares.is c.compares.ensures.others c.compares.ensures.quiet c.compares.ensures.tells

pub returns-in-Over-clause-tells : goal.returns-in-Over-clause-tells
returns-in-Over-clause-tells c = λ s map w outside here. over_told s map c.args.self.now w c.in-Over.is
