use Rattle.std.proofs.Common.{refl}
use Rattle.pic_map.specs.MapView.{content_of}
use Rattle.src_machine.proofs.Following.{first_source}
use Rattle.src_machine.proofs.progress.Source.new.Goals as goal

pub returns-clause-begins : goal.returns-clause-begins
returns-clause-begins c = λ s e given few.
    first_source s (content_of c.args.map.now) (record { machine = c.in_ok-new.field-0; main_steps = 0; runs = 0; stop = _ }) (c.in_ok-new.ensures.begins s e given few) refl refl refl
