use Rattle.std.proofs.Common.{refl}
use Rattle.named_registers.specs.Registers.{registers, place_registers, statement_registers, statements_registers}
use Rattle.named_registers.proofs.worked_programs.Goals as goal

pub returns : goal.returns
unfolding registers place_registers statement_registers statements_registers
returns c = record {
  shared = refl;
  alone = refl;
  bit = refl;
  step = refl;
  least = refl;
}
