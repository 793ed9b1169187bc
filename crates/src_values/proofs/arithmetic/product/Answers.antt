use Rattle.std.proofs.Common.{◌∙◌, ◌*ℤ◌}
use Rattle.src_values.proofs.Sizes.{cut_same, both, mul_is, product_fits}
use Rattle.src_values.proofs.arithmetic.product.Goals as goal

pub overflow_mul-wide : goal.overflow_mul-wide
overflow_mul-wide c = product_fits c.wide.result c.wide-2.result c.wide.ensures.size c.wide-2.ensures.size

pub returns : goal.returns
returns c =
    c.cut.ensures ∙
    cut_same _ _ _ _ c.ty.ensures
    (mul_is c.wide.result c.wide-2.result c.wide.ensures.size c.wide-2.ensures.size ∙
    both (λ x y. x *ℤ y) _ _ _ _ c.wide.ensures.value c.wide-2.ensures.value)
