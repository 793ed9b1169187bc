use Rattle.std.proofs.Common.{refl}
use Rattle.pic_map.specs.MapView.{content_of}
use Rattle.run_compare.proofs.SourceRuns.{begins}
use Rattle.run_compare.proofs.source_run.SourceRun.new.Goals as goal

pub returns : goal.returns
returns c = record { begins = λ s program given few. begins s (content_of c.args.map.now) _ refl refl (c.in_ok-new.ensures.begins s program given few) }
