use Rattle.std.proofs.Common.{Some}
use Rattle.picc_cli.specs.Command.{Generate}
use Rattle.picc_cli.proofs.GenerationEnds.{generation_complete, generation_faults, generation_printed, generation_status, generation_told}
use Rattle.picc_cli.proofs.NothingDone.{no_end, no_faults, no_print, no_status}
use Rattle.picc_cli.proofs.summary.print_generated.Goals as goal

-- ---- the program is printed
pub returns-in-Ok-clause-faults : goal.returns-in-Ok-clause-faults
returns-in-Ok-clause-faults g c = generation_faults c.args.functions _ (g.H.Host.contents c.args.host.now) _ _ _ _ _ _ c.say_line.ensures.said

pub returns-in-Ok-clause-status : goal.returns-in-Ok-clause-status
returns-in-Ok-clause-status g c = generation_status c.args.functions _ _ _ _ _ _ _ c.say_line.ensures.said

pub returns-in-Ok-clause-printed : goal.returns-in-Ok-clause-printed
returns-in-Ok-clause-printed g c =
    generation_printed c.args.functions _ (g.H.Host.contents c.args.host.now) _ _ _ _ _ _ (rw c.deref.ensures.value c.in-Ok.ensures) c.say_line.ensures.said

pub returns-in-Ok-clause-told : goal.returns-in-Ok-clause-told
returns-in-Ok-clause-told g c = generation_told c.args.functions c.requires.size (g.H.Host.contents c.args.host.now) (g.H.Host.contents c.say_line.new.host) (g.H.Host.printed c.args.host.now) (g.H.Host.printed c.say_line.new.host) _

pub returns-in-Ok-clause-complete : goal.returns-in-Ok-clause-complete
returns-in-Ok-clause-complete g c = generation_complete c.args.functions _ _ _ (g.H.Host.contents c.args.host.now) _ _ _ _ c.say_line.ensures.said

-- ---- there is no memory for it
pub returns-in-Err-clause-faults : goal.returns-in-Err-clause-faults
returns-in-Err-clause-faults g c = no_faults (Some (Generate c.args.functions)) (g.H.Host.kind c.args.host.now) (g.H.Host.faults c.args.host.now) (g.H.Host.contents c.args.host.now)

pub returns-in-Err-clause-status : goal.returns-in-Err-clause-status
returns-in-Err-clause-status g c = no_status (Some (Generate c.args.functions))

pub returns-in-Err-clause-printed : goal.returns-in-Err-clause-printed
returns-in-Err-clause-printed g c = no_print (Some (Generate c.args.functions)) (g.H.Host.kind c.args.host.now) (g.H.Host.contents c.args.host.now) (g.H.Host.printed c.args.host.now)

pub returns-in-Err-clause-told : goal.returns-in-Err-clause-told
returns-in-Err-clause-told g c =
    generation_told c.args.functions c.requires.size (g.H.Host.contents c.args.host.now) (g.H.Host.contents c.args.host.now) (g.H.Host.printed c.args.host.now) (g.H.Host.printed c.args.host.now) _

pub returns-in-Err-clause-complete : goal.returns-in-Err-clause-complete
returns-in-Err-clause-complete g c =
    no_end (Some (Generate c.args.functions)) (g.H.Host.kind c.args.host.now) (g.H.Host.faults c.args.host.now) (g.H.Host.faults c.args.host.now) (g.H.Host.contents c.args.host.now)
