use Rattle.std.proofs.Common.{◌-◌, length, ap, ◌∙◌, arith, length-take-le}
use Rattle.c_tables.proofs.scope.drop_last.Goals as goal

pub returns : goal.returns
returns c =
    let before = c.args.places.now in
    ap length c.pop-place.ensures.rest ∙ length-take-le (before.len - 1) before.items (omega (arith, before.ok.0)) ∙ ap (λ n. n - 1) before.ok.0
