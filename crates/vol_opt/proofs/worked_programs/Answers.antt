use Rattle.std.proofs.Common.{refl}
use Rattle.vol_opt.specs.Kept.{is_volatile_within, reaches_within}
use Rattle.vol_opt.specs.Uses.{whole_of, uses, place_uses, arguments_uses, statement_uses, statements_uses}
use Rattle.c_typed.specs.Calls.{calls, place_calls, arguments_calls, statement_calls, statements_calls}
use Rattle.vol_opt.proofs.worked_programs.Goals as goal

pub returns : goal.returns
unfolding is_volatile_within reaches_within whole_of uses place_uses arguments_uses statement_uses statements_uses calls place_calls arguments_calls statement_calls statements_calls
returns c = record {
  private = refl;
  own = refl;
  deep = refl;
  later = refl;
  handler = refl;
  unhandled = refl;
  addresses = refl;
  first = refl;
  copied = refl;
}
