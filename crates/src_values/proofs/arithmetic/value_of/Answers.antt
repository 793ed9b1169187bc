use Rattle.std.proofs.Common.{◌∙◌, ap}
use Rattle.std.specs.Int.{w64}
use Rattle.std.proofs.lemmas.Int.{to_z-of_z}
use Rattle.c_ints.specs.Operators.{cut_to, truth, comparison}
use Rattle.src_values.proofs.Comparisons.{compared_value, is_comparison}
use Rattle.src_values.proofs.Sizes.{both}
use Rattle.c_ints.specs.declared.types.IntTy.TheVariants.{Int}
use Rattle.src_values.proofs.arithmetic.value_of.Goals as goal

pub returns-in-Lt : goal.returns-in-Lt
returns-in-Lt c =
    let x = to_z-of_z w64 c.number.result (record { sfits = c.number.type_inv }) ∙ c.number.ensures.value in
    let y = to_z-of_z w64 c.number-in-Lt.result (record { sfits = c.number-in-Lt.type_inv }) ∙ c.number-in-Lt.ensures.value in
    c.truth_of.ensures ∙
    ap (λ b. cut_to Int (truth b)) (c.compared.ensures ∙ both (comparison c.args.op) _ _ _ _ x y) ∙
    compared_value c.args.op c.args.a.ty c.args.a.number c.args.b.number (is_comparison c.args.op c.in-Lt.is)
