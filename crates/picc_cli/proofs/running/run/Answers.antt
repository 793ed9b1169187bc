use Rattle.std.proofs.Common.{refl}
use Rattle.picc_cli.specs.TracedStep.{setting_by}
use Rattle.picc_cli.proofs.TracedWhole.{statics_few}
use Rattle.picc_cli.proofs.running.run.Goals as goal

pub run_steps-requires-clause-begun : goal.run_steps-requires-clause-begun
run_steps-requires-clause-begun g c =
    let s = setting_by c.args.known.typed c.args.script.now in
    record {
      setting = s;
      outside = refl;
      objects = c.requires.placed.each_object;
      at = c.in-Ok.ensures.begins s refl c.requires.given (statics_few s.program c.args.known.typed refl c.requires.few);
    }

pub returns-in-Ok-clause-ran : goal.returns-in-Ok-clause-ran
returns-in-Ok-clause-ran g c = λ s program outside given.
    c.run_steps.ensures.ran s outside (c.in-Ok.ensures.begins s program given (statics_few s.program c.args.known.typed program c.requires.few))
