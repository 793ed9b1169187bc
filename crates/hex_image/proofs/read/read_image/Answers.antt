use Rattle.std.proofs.Common.{◌≤◌, sym, subst}
use Rattle.hex_image.specs.HexFile.{times}
use Rattle.hex_image.proofs.Found.{single_given}
use Rattle.hex_image.proofs.read.read_image.Goals as goal

pub filled-requires : goal.filled-requires
filled-requires c = record {
  once = λ a. subst (λ given. times given a ≤ 1) (sym c.bytes.ensures) ((single_given c.args.bytes.now c.in_ok-given.given c.in_ok-given.ensures.exact).once a);
}
