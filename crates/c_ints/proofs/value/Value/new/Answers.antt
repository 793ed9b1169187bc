use Rattle.std.proofs.Common.{◌∙◌, ap, arith}
use Rattle.std.specs.Int.{w128}
use Rattle.std.proofs.lemmas.Int.{to_z_pos}
use Rattle.c_ints.specs.Range.{cut, pattern}
use Rattle.c_ints.proofs.Cut.{bits_kept}
use Rattle.c_ints.proofs.value.Value.new.Goals as goal

pub returns-clause-bits : goal.returns-clause-bits
returns-clause-bits c =
    let fits = c.ranges.bits.fits in
    ap (λ q. pattern c.args.ty q.number) c.cut.ensures ∙
    ap (λ z. pattern c.args.ty (cut c.args.ty z)) (to_z_pos w128 c.args.bits (omega (arith, fits))) ∙
    bits_kept c.args.ty c.args.bits
