use Rattle.pic_map.proofs.FileLaws.{one_only}
use Rattle.pic_map.proofs.one_content.Goals as goal

pub returns : goal.returns
returns c = one_only
