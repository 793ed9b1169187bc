use Rattle.std.proofs.Common.{◌∙◌, int_rem}
use Rattle.std.specs.Int.{w128}
use Rattle.std.proofs.lemmas.Int.{rem_is}
use Rattle.src_values.proofs.Sizes.{cut_same, both, fits_small}
use Rattle.src_values.proofs.arithmetic.remainder.Goals as goal

pub returns : goal.returns
returns c =
    let x = c.wide.result in
    let y = c.wide-2.result in
    let computed = rem_is w128 x y (fits_small x c.wide.ensures.size) (fits_small y c.wide-2.ensures.size) in
    c.cut.ensures ∙ cut_same _ _ _ _ c.ty.ensures (computed ∙ both int_rem _ _ _ _ c.wide.ensures.value c.wide-2.ensures.value)
