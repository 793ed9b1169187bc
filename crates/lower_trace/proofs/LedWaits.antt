-- The laws of states for which byte code waits, put together.
use Rattle.core_code.specs.Machine.{Machine}
use Rattle.lower_trace.proofs.CodeLeft.{Scene, source_in}
use Rattle.lower_trace.proofs.Known.{Known}
use Rattle.lower_trace.proofs.Leads.{Led}
use Rattle.lower_trace.proofs.LedBytes.{copies_wait}
use Rattle.lower_trace.proofs.LedCounts.{counts_on}
use Rattle.lower_trace.proofs.Waiting.{CopyWaits, CountWaits, Waiting}
use Rattle.lower_trace.specs.Lowering.{IsLowerable}
use Rattle.pic_world.specs.World.{arrived, is_due}
use Rattle.src_rules.specs.State.{State}
use Rattle.src_rules.specs.Step.{act}
use Rattle.std.proofs.Common.{false, ◌<◌, ◌≡◌}
use Rattle.std.specs.List.{All}

pub waits_on : (z : Scene) (given : IsLowerable z.program z.copies) (input : All (λ byte. byte < 256) z.outside.input) (t : State) (c : Machine) → Known z t → is_due (arrived z.outside t.world) ≡ false → Waiting z t c → Led z t.focus t.stack c (act (source_in z) t.focus t.stack t.copy t.memory (arrived z.outside t.world))
waits_on z given input t c known due (CountWaits p) = counts_on z given input t c known due p
waits_on z given input t c known due (CopyWaits fixed p) = copies_wait z given input t c known fixed p
