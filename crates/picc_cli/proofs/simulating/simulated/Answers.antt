use Rattle.std.proofs.Common.{◌∙◌}
use Rattle.pic_map.specs.MapView.{content_of}
use Rattle.schedule.specs.ScriptFile as script_file
use Rattle.picc_cli.specs.CommandView.{simulated_of}
use Rattle.picc_cli.proofs.Sound.{no_hex_fails, no_map_fails}
use Rattle.picc_cli.proofs.SimulationEnds.{run_known}
use Rattle.picc_cli.proofs.simulating.simulated.Goals as goal

pub returns-in-Err-clause-sound : goal.returns-in-Err-clause-sound
returns-in-Err-clause-sound g c = no_hex_fails _ _ (simulated_of c.args.asked) c.in-Err.end c.in-Err.ensures.sound c.in-Err.ensures.none

pub returns-in-Err-map_in-clause-sound : goal.returns-in-Err-map_in-clause-sound
returns-in-Err-map_in-clause-sound g c =
    no_map_fails _ _ (simulated_of c.args.asked) _ _ c.in-Err-map_in.end _ _ c.in-Ok.ensures.sound c.in-Ok.ensures.found c.in-Ok.ensures.same_kind c.in-Ok.ensures.same_contents
    c.in-Err-map_in.ensures.sound c.in-Err-map_in.ensures.none

pub returns-clause-knows : goal.returns-clause-knows
returns-clause-knows g c =
    run_known (simulated_of c.args.asked) _ _ _ c.in-Ok.image (content_of c.in-Ok-map_in.map) (script_file.content_of c.in-Ok-script_in.script) _ _ c.run.result _ _ _
    c.in-Ok.ensures.found c.in-Ok.ensures.same_contents c.in-Ok-map_in.ensures.found c.in-Ok-map_in.ensures.same_contents c.in-Ok-script_in.ensures.found
    (c.in-Ok-script_in.ensures.same_printed ∙ c.in-Ok-map_in.ensures.same_printed ∙ c.in-Ok.ensures.same_printed) c.run.ensures.runs
