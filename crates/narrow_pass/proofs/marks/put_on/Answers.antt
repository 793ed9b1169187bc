use Rattle.std.proofs.Common.{◌∙◌}
use Rattle.narrow_pass.specs.Ways.{marks_of}
use Rattle.narrow_pass.proofs.Runs.{on_bytes}
use Rattle.narrow_pass.proofs.marks.put_on.Goals as goal

pub returns : goal.returns
returns c = c.put_all.ensures ∙ on_bytes c.args.copy (marks_of c.args.here.now.items) c.args.byte c.args.count
