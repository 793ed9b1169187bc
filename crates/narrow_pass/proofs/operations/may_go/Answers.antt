use Rattle.narrow_pass.specs.Ways.{marks_of, turns_of}
use Rattle.narrow_pass.proofs.Others.{goes_anywhere}
use Rattle.narrow_pass.proofs.operations.may_go.Goals as goal

pub returns-in_default : goal.returns-in_default
returns-in_default c = let no = c.in_default in record {
  goes = λ is. goes_anywhere c.args.c.now no.not-Many no.not-If no.not-Loop no.not-Exit no.not-Again (turns_of c.args.turns.now.list.items) (marks_of c.args.here.now);
}
