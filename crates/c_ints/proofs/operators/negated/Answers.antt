use Rattle.std.proofs.Common.{arith, ◌∙◌, refl}
use Rattle.std.proofs.lemmas.Int.{ints}
use Rattle.c_ints.proofs.Sizes.{cut_same}
use Rattle.c_ints.proofs.operators.negated.Goals as goal

pub returns : goal.returns
returns c =
    let v = c.wide.ensures.value in
    let l = c.wide.ensures.least in
    let g = c.wide.ensures.greatest in
    c.cut.ensures ∙ cut_same _ _ _ _ refl (omega (arith, ints))
