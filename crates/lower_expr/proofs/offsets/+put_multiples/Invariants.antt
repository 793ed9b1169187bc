use Rattle.lower_expr.proofs.offsets.+put_multiples.Given as goal

abbrev pub decreases-put_multiples : goal.decreases-put_multiples
decreases-put_multiples l = l.digits
