use Rattle.std.proofs.Common.{◌∙◌, ap, not}
use Rattle.std.specs.BTreeMap.{get_by_text}
use Rattle.host_io.proofs.Maps.{none_found}
use Rattle.host_io.proofs.memory.MemoryHost.lacks.Goals as goal

pub returns : goal.returns
returns c = ap not c.contains_key.ensures ∙ none_found (λ bytes. bytes.items) (get_by_text c.args.self.now.files c.args.name.now)
