use Rattle.narrow_pass.proofs.Bodies.{program_again}
use Rattle.narrow_pass.proofs.pass.copied_program.Goals as goal

pub returns : goal.returns
returns c = record {
  answer =
      program_again c.args.alone c.args.given.now (record { bodies = c.in_ok-bodies.bodies; statics = c.in_ok-statics.statics }) (rw c.deref-2.ensures.value at c.in_ok-statics.ensures)
      (rw c.deref.ensures.value at c.in_ok-bodies.ensures.same);
}
