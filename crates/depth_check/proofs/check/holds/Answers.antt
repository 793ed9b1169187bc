use Rattle.std.proofs.Common.{◌∙◌, sym}
use Rattle.depth_check.specs.Certificate.{seen}
use Rattle.depth_check.proofs.Sure.{too_deep}
use Rattle.depth_check.proofs.check.holds.Goals as goal

pub returns-then-is_too_deep : goal.returns-then-is_too_deep
returns-then-is_too_deep c = too_deep c.args.image.now (seen c.args.h.now) (sym c.is_too_deep.ensures ∙ c.if-is_too_deep.true)
