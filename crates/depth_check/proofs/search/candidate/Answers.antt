use Rattle.std.proofs.Common.{◌∙◌, sym, ap, subst}
use Rattle.depth_check.specs.Search.{tables, raised}
use Rattle.depth_check.specs.Found.{IsBest}
use Rattle.depth_check.proofs.Showing.{best}
use Rattle.depth_check.proofs.search.candidate.Goals as goal

pub returns : goal.returns
returns c = subst (IsBest c.args.image.now c.args.interrupts c.args.cell) (sym (c.raise_all.ensures ∙ ap (raised c.args.image.now 9) c.in_ok-h.ensures.same))
    (best c.args.image.now c.args.interrupts c.args.cell (tables c.in_ok-s.s) c.in_ok-s.ensures.search c.in_ok-s.ensures.settled)
