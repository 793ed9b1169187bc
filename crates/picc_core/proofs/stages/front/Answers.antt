use Rattle.std.proofs.Common.{◌≤◌, IfErr, sym, subst, arith}
use Rattle.picc_core.specs.Answers.{TellsErrorBy}
use Rattle.picc_core.specs.Limits.{IsFirstRefusalWithin}
use Rattle.picc_core.specs.declared.limits.Limits.{Limits}
use Rattle.picc_core.proofs.Limited.{front_told}
use Rattle.picc_core.proofs.stages.front.Goals as goal

pub front_within-requires : goal.front_within-requires
front_within-requires c = subst (λ (l : Limits). l.words_of_block ≤ 2048) (sym c.whole_chip.ensures) (omega arith)

pub returns-clause-refused : goal.returns-clause-refused
returns-clause-refused c =
    front_told c.args.text.now c.front_within.result
    (subst (λ (l : Limits). IfErr c.front_within.result (TellsErrorBy (IsFirstRefusalWithin l) c.args.text.now)) c.whole_chip.ensures c.front_within.ensures.refused)
