use Rattle.std.proofs.Common.{◌≡◌, Some, subst, sym}
use Rattle.pic_isa.specs.Table.{HasWord}
use Rattle.pic_isa.specs.Lookup.{row_of}
use Rattle.pic_isa.proofs.Rows.{has_own, of_word}
use Rattle.pic_isa.proofs.encode.Goals as goal

pub returns-clause-row : goal.returns-clause-row
returns-clause-row c = subst (HasWord c.args.i) (sym c.own_word.ensures.word) (has_own c.args.i)

pub returns-clause-again : goal.returns-clause-again
returns-clause-again c = subst (λ w. row_of w ≡ Some c.args.i) (sym c.own_word.ensures.word) (of_word c.args.i c.requires)
