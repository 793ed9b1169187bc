use Rattle.narrow_pass.proofs.Bodies.{program_is}
use Rattle.narrow_pass.proofs.pass.program_of.Goals as goal

pub returns : goal.returns
returns c = record {
  answer = program_is c.args.alone c.args.lent.now c.args.given.now (record { bodies = c.args.bodies; statics = c.in_ok-statics.statics }) (rw c.deref.ensures.value at c.in_ok-statics.ensures) c.requires;
}
