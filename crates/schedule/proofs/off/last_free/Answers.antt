use Rattle.std.proofs.Common.{◌≡◌, ◌≤◌, ◌+◌, [], ap, ◌∙◌, subst, arith}
use Rattle.pic_chip.specs.Run.{Watch}
use Rattle.schedule.specs.Watching.{watched_run}
use Rattle.schedule.proofs.Boundaries.{run_starts, run_goes_on, run_ends}
use Rattle.schedule.proofs.FreeMoments.{last_before, none_before, latest_is, last_on, last_at, last_within, last_behind}
use Rattle.schedule.proofs.off.last_free.Goals as goal

abbrev nothing : Watch
nothing = record { main = 0; halt = 0; ranges = [] }

pub loop-moment-init : goal.loop-moment-init
loop-moment-init c = λ watch.
    let g = watched_run c.args.image.now watch c.args.script.now in
    (run_starts g c.new-run.result.chip c.new-run.result.handling c.new-run.ensures.chip c.new-run.ensures.handling, none_before g)

pub step-requires : goal.step-requires
step-requires c =
    let i = (c.loop-moment.invariant nothing).0.index in
    let below = c.loop-moment-test.true in
    let few = c.requires in
    omega (arith, i, below, few)

pub returns-in-Unmodelled-clause-last : goal.returns-in-Unmodelled-clause-last
returns-in-Unmodelled-clause-last c = λ watch.
    let g = watched_run c.args.image.now watch c.args.script.now in
    let so_far = c.loop-moment.invariant watch in
    let run = c.loop-moment.run in
    let below = c.loop-moment-test.true in
    let within : c.loop-moment.moment ≤ c.args.n = omega (arith, below) in
    last_behind g c.loop-moment.moment c.args.n c.latest-last.result within
    (run_ends g c.loop-moment.moment run.chip run.handling c.in-Unmodelled.field-0 so_far.0 c.in-Unmodelled.ensures.stopped)
    (latest_is g c.loop-moment.moment c.mask_at.result run.chip run.handling c.boundary-boundary.result.taken c.is_busy.result c.loop-moment.last c.latest-last.result so_far.0 so_far.1
    c.mask_at.ensures.value c.boundary-boundary.ensures.taken c.is_busy.ensures c.latest-last.ensures)

pub returns-in-Unmodelled-clause-within : goal.returns-in-Unmodelled-clause-within
returns-in-Unmodelled-clause-within c =
    let e = returns-in-Unmodelled-clause-last c nothing in
    let most = last_within (watched_run c.args.image.now nothing c.args.script.now) c.args.n in
    omega (arith, e, most)

pub loop-moment-preserved : goal.loop-moment-preserved
loop-moment-preserved c = λ watch.
    let g = watched_run c.args.image.now watch c.args.script.now in
    let so_far = c.loop-moment.invariant watch in
    let run = c.loop-moment.run in
    let now = c.step.new.self in
    let boundary = c.boundary-boundary in (
      run_goes_on g c.loop-moment.moment run.chip now.chip run.handling now.handling boundary.result.taken boundary.result.returns c.mask_at.result so_far.0
          c.mask_at.ensures.value boundary.ensures.taken boundary.ensures.returns c.in-Done.ensures.handling c.in-Done.ensures.state c.in-Done.ensures.index c.in-Done.ensures.stopped,
      last_on g c.loop-moment.moment c.latest-last.result
          (latest_is g c.loop-moment.moment c.mask_at.result run.chip run.handling boundary.result.taken c.is_busy.result c.loop-moment.last c.latest-last.result so_far.0 so_far.1
          c.mask_at.ensures.value boundary.ensures.taken c.is_busy.ensures c.latest-last.ensures),
    )

pub returns-clause-last : goal.returns-clause-last
returns-clause-last c = λ watch.
    let g = watched_run c.args.image.now watch c.args.script.now in
    let over = c.loop-moment-test.false in
    let most = c.loop-moment.auto.moment-end in
    let at_end : c.loop-moment.moment ≡ c.args.n + 1 = omega (arith, over, most) in
    last_at g c.args.n c.loop-moment.last ((c.loop-moment.invariant watch).1 ∙ ap (last_before g) at_end)

pub returns-clause-within : goal.returns-clause-within
returns-clause-within c =
    let e = returns-clause-last c nothing in
    let most = last_within (watched_run c.args.image.now nothing c.args.script.now) c.args.n in
    omega (arith, e, most)
