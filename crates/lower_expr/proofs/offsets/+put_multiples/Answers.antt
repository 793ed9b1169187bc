use Rattle.lower_expr.proofs.Numbers.{multiples_step}
use Rattle.lower_expr.proofs.offsets.+put_multiples.Goals as goal

pub returns : goal.returns
returns t c = multiples_step _ _ _ _ _ _ _ _ c.if-digits-eq0.false c.if-size-lt2.false c.in_ok-put_multiples.ensures c.in_ok-put_operator.ensures c.in_ok-put_odd.ensures
