use Rattle.std.proofs.Common.{◌≡◌, drop}
use Rattle.c_token.specs.Token.{comment_end}
use Rattle.c_token.proofs.Strings.{further}
use Rattle.c_token.proofs.piece.comment_end.Given as goal

-- what is left gives the rest of the comment
abbrev pub invariant-loop-i : goal.invariant-loop-i
invariant-loop-i l = comment_end l.text ≡ further l.i (comment_end (drop l.i l.text))
