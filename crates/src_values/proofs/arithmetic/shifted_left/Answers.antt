use Rattle.std.proofs.Common.{◌∙◌, ◌*ℤ◌, ◌^◌, pos, unsigned_abs, ap}
use Rattle.std.specs.Int.{w64}
use Rattle.std.proofs.lemmas.Int.{to_z-of_z}
use Rattle.src_values.proofs.Sizes.{cut_same, both, mul_is, product_fits}
use Rattle.src_values.proofs.arithmetic.shifted_left.Goals as goal

pub overflow_mul-wide : goal.overflow_mul-wide
overflow_mul-wide c = product_fits c.wide.result c.power_of_two.result c.wide.ensures.size c.power_of_two.ensures.size

pub returns : goal.returns
returns c =
    c.cut.ensures ∙
    cut_same _ _ _ _ c.ty.ensures
    (mul_is c.wide.result c.power_of_two.result c.wide.ensures.size c.power_of_two.ensures.size ∙
    both (λ x y. x *ℤ y) _ _ _ _ c.wide.ensures.value
    (c.power_of_two.ensures.value ∙
    ap (λ z. pos (2 ^ unsigned_abs z)) (to_z-of_z w64 c.number.result (record { sfits = c.number.type_inv }) ∙ c.number.ensures.value)))
