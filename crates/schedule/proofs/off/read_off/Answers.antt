use Rattle.std.proofs.Common.{◌≡◌, ℕ, ◌∙◌, ap}
use Rattle.std.proofs.lemmas.Result.{IfOk-weaker}
use Rattle.pic_chip.specs.Run.{moment}
use Rattle.pic_map.specs.MapContent.{watch_of}
use Rattle.pic_map.specs.MapView.{content_of}
use Rattle.schedule.specs.declared.off.Off.{Off}
use Rattle.schedule.specs.Off.{last_free}
use Rattle.schedule.specs.Watching.{run_of}
use Rattle.schedule.proofs.FreeMoments.{last_going}
use Rattle.schedule.proofs.off.read_off.Goals as goal

pub read_at-requires-clause-going : goal.read_at-requires-clause-going
read_at-requires-clause-going c =
    let g = run_of c.args.image.now c.args.map.now c.args.script.now in
    ap (λ (n : ℕ). (moment g n).stopped) (c.last_free-moment.ensures.last (watch_of (content_of c.args.map.now))) ∙ last_going g c.args.n

pub returns-clause-last : goal.returns-clause-last
returns-clause-last c =
    let g = run_of c.args.image.now c.args.map.now c.args.script.now in
    IfOk-weaker c.read_at.result (λ (off : Off). off.moment ≡ c.last_free-moment.result) (λ (off : Off). off.moment ≡ last_free g c.args.n)
    (λ off e. e ∙ c.last_free-moment.ensures.last (watch_of (content_of c.args.map.now))) c.read_at.ensures.moment
