use Rattle.std.proofs.Common.{◌≡◌, ◌≤◌, ◌+◌, ◌-◌, ℕ, length, sym, ap, ◌∙◌, arith}
use Rattle.pic_chip.specs.Run.{moment}
use Rattle.pic_map.specs.MapContent.{watch_of}
use Rattle.pic_map.specs.MapView.{content_of}
use Rattle.schedule.specs.Watching.{run_of, traces}
use Rattle.schedule.proofs.Counting.{none_begun}
use Rattle.schedule.proofs.Moments.{going_before}
use Rattle.schedule.proofs.Putting.{IsPut, put_none, put_next, put_last, lengths_all, before_all, rising_off}
use Rattle.schedule.proofs.off.read_at.Goals as goal

pub loop-at-init : goal.loop-at-init
loop-at-init c =
    let g = run_of c.args.image.now c.args.map.now c.args.script.now in
    let at = c.new-watched.ensures.at c.args.image.now c.args.script.now in
    let few = c.new-watched.ensures.few in
    let begun = at.begun in
    let none = none_begun g in
    record {
      at = at;
      put = put_none g c.args.moment c.args.script.now.arrivals.items c.deref-left.result.now c.new-2.result.items c.new.result.items c.deref-left.ensures.value c.new-2.ensures.items c.new.ensures.items c.args.script.now.rising;
      earlier = at.count;
      events = few;
      runs = omega (arith, begun, none);
    }

pub loop-at-preserved : goal.loop-at-preserved
loop-at-preserved c =
    let g = run_of c.args.image.now c.args.map.now c.args.script.now in
    let so_far = c.loop-at.invariant in
    let old = c.loop-at.reading in
    let new = c.put_arrivals.new.reading in
    let below = c.loop-at-test.true in
    let next : c.loop-at.at + 1 ≤ c.args.moment = omega (arith, below) in
    let within : c.loop-at.at ≤ c.args.moment = omega (arith, below) in
    let same : c.loop-at.at ≡ c.loop-at.at + 1 - 1 = omega arith in
    let events = so_far.events in
    let more = c.step.ensures.events in
    let runs = so_far.runs in
    let begun = c.step.ensures.runs in
    record {
      at = c.step.ensures.at (watch_of (content_of c.args.map.now)) c.loop-at.at so_far.at c.mask_at.ensures.value (going_before g (c.loop-at.at + 1) c.args.moment next c.requires.going);
      put = put_next g c.args.moment c.loop-at.at c.args.script.now.arrivals.items c.loop-at.left.now c.in_ok-left.left.now old.lengths.items new.lengths.items old.before.items new.before.items c.loop-at.earlier c.loop-at.watched.events
          so_far.put within c.in_ok-left.ensures.puts c.in_ok-left.ensures.later so_far.earlier so_far.at.count;
      earlier = so_far.at.count ∙ ap (λ (n : ℕ). length (moment g n).trace) same;
      events = omega (arith, events, more);
      runs = omega (arith, runs, begun);
    }

pub returns-clause-lengths : goal.returns-clause-lengths
returns-clause-lengths c =
    let g = run_of c.args.image.now c.args.map.now c.args.script.now in
    let so_far = c.loop-at.invariant in
    let old = c.loop-at.reading in
    let new = c.put_arrivals-2.new.reading in
    let over = c.loop-at-test.false in
    let most = c.loop-at.auto.at-end in
    let last : c.loop-at.at ≡ c.args.moment = omega (arith, over, most) in
    lengths_all g c.args.moment c.args.script.now.arrivals.items c.in_ok-put_arrivals.field-0.now new.lengths.items new.before.items
    (put_last g c.args.moment c.loop-at.at c.args.script.now.arrivals.items c.loop-at.left.now c.in_ok-put_arrivals.field-0.now old.lengths.items new.lengths.items old.before.items new.before.items c.loop-at.earlier c.loop-at.watched.events
    so_far.put last c.in_ok-put_arrivals.ensures.puts c.in_ok-put_arrivals.ensures.later so_far.earlier so_far.at.count)

pub returns-clause-before : goal.returns-clause-before
returns-clause-before c =
    let g = run_of c.args.image.now c.args.map.now c.args.script.now in
    let so_far = c.loop-at.invariant in
    let old = c.loop-at.reading in
    let new = c.put_arrivals-2.new.reading in
    let over = c.loop-at-test.false in
    let most = c.loop-at.auto.at-end in
    let last : c.loop-at.at ≡ c.args.moment = omega (arith, over, most) in
    before_all g c.args.moment c.args.script.now.arrivals.items c.in_ok-put_arrivals.field-0.now new.lengths.items new.before.items
    (put_last g c.args.moment c.loop-at.at c.args.script.now.arrivals.items c.loop-at.left.now c.in_ok-put_arrivals.field-0.now old.lengths.items new.lengths.items old.before.items new.before.items c.loop-at.earlier c.loop-at.watched.events
    so_far.put last c.in_ok-put_arrivals.ensures.puts c.in_ok-put_arrivals.ensures.later so_far.earlier so_far.at.count)

pub invariant_of-result : goal.invariant_of-result
invariant_of-result c =
    let g = run_of c.args.image.now c.args.map.now c.args.script.now in
    let so_far = c.loop-at.invariant in
    let old = c.loop-at.reading in
    let new = c.put_arrivals-2.new.reading in
    let over = c.loop-at-test.false in
    let most = c.loop-at.auto.at-end in
    let last : c.loop-at.at ≡ c.args.moment = omega (arith, over, most) in
    let all = put_last g c.args.moment c.loop-at.at c.args.script.now.arrivals.items c.loop-at.left.now c.in_ok-put_arrivals.field-0.now old.lengths.items new.lengths.items old.before.items new.before.items c.loop-at.earlier c.loop-at.watched.events
    so_far.put last c.in_ok-put_arrivals.ensures.puts c.in_ok-put_arrivals.ensures.later so_far.earlier so_far.at.count in
    record {
      rising = rising_off g c.args.moment c.args.script.now.arrivals.items new.lengths.items c.args.script.now.rising
          (lengths_all g c.args.moment c.args.script.now.arrivals.items c.in_ok-put_arrivals.field-0.now new.lengths.items new.before.items all);
    }
