use Rattle.chip_84a.proofs.Ported.{image_ported}
use Rattle.chip_84a.proofs.images_port.Goals as goal

pub returns : goal.returns
returns c = image_ported
