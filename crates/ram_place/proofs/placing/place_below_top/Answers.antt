use Rattle.std.proofs.Common.{◌≡◌, ℕ, true}
use Rattle.live_frames.specs.Memory.{is_taken}
use Rattle.ram_place.proofs.Below.{lost_below, span_below, span_over}
use Rattle.ram_place.proofs.placing.place_below_top.Goals as goal

pub returns-in_default : goal.returns-in_default
returns-in_default c = lost_below (λ (x : ℕ). is_taken c.args.taken.now.marks x ≡ true) c.args.top c.args.size c.in_default.ensures

pub returns-then-is_over : goal.returns-then-is_over
returns-then-is_over c =
    span_over (λ (x : ℕ). is_taken c.args.taken.now.marks x ≡ true) c.args.top c.args.size c.in-Some.span.address c.in-Some.span.size c.in-Some.ensures (c.is_over.ensures.over c.if-is_over.true)

pub returns : goal.returns
returns c = span_below (λ (x : ℕ). is_taken c.args.taken.now.marks x ≡ true) c.args.top c.args.size c.in-Some.span.address c.in-Some.span.size c.in-Some.ensures (c.is_over.ensures.within c.if-is_over.false)
