use Rattle.std.proofs.Common.{◌∙◌, ap, refl, ◌∷◌, ◌++◌, [], arith, length, List, None}
use Rattle.std.proofs.lemmas.List.Elements.{All-pop}
use Rattle.c_pre.specs.declared.replace.Frame.{Frame}
use Rattle.c_pre.specs.Replace.{IsMark}
use Rattle.c_pre.proofs.Looping.{keeps_first, keeps_end, keeps_marks, nothing_waits}
use Rattle.c_pre.proofs.replace.replace.Goals as goal

pub loop-frame-init : goal.loop-frame-init
loop-frame-init c =
    let f : Frame = record { rest = c.args.tokens; definition = None } in
    keeps_first c.args.lists.now c.args.line c.args.tokens.now c.args.output.now c.args.busy.now f c.push.new.stack.items
    c.requires refl refl
    (c.in_ok-push.ensures.ok ∙ ap (λ (s : List Frame). s ++ f ∷ []) c.new-stack.ensures.items)

pub step-requires-clause-marks : goal.step-requires-clause-marks
step-requires-clause-marks c = (All-pop (IsMark (length c.args.lists.now)) c.loop-frame.stack.items c.pop.new.self.items c.pop.result c.pop.ensures.items c.loop-frame.invariant.1).0

pub returns-clause-passes : goal.returns-clause-passes
returns-clause-passes c =
    keeps_end c.args.lists.now c.args.line c.args.tokens.now c.args.output.now c.loop-frame.output c.loop-frame.busy c.loop-frame.stack.items c.loop-frame.invariant
    (nothing_waits c.loop-frame.stack.items (omega (arith, c.in_default.ensures.cases.0, c.loop-frame.stack.ok.0)))

pub returns-clause-unmarked : goal.returns-clause-unmarked
returns-clause-unmarked c =
    keeps_marks c.args.lists.now c.args.line c.args.tokens.now c.args.output.now c.loop-frame.output c.loop-frame.busy c.loop-frame.stack.items c.loop-frame.invariant
    (nothing_waits c.loop-frame.stack.items (omega (arith, c.in_default.ensures.cases.0, c.loop-frame.stack.ok.0)))
