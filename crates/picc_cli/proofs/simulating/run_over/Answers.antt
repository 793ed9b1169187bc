use Rattle.std.proofs.Common.{refl}
use Rattle.pic_map.specs.MapView.{content_of}
use Rattle.schedule.specs.ScriptFile as script_file
use Rattle.picc_cli.proofs.SimulationEnds.{looked_first, run_of}
use Rattle.picc_cli.proofs.simulating.run_over.Goals as goal

pub returns-in-Pic16F877a-clause-run : goal.returns-in-Pic16F877a-clause-run
returns-in-Pic16F877a-clause-run g c =
    rw c.in-Pic16F877a.is (
    run_of _ _ c.args.image.now (content_of c.args.map.now) (script_file.content_of c.args.script.now) c.args.instructions _ _ _ _ _ _ _ _ _ _
    c.in_ok-feed.ensures.fed
    c.reset-chip.ensures
    (looked_first (content_of c.args.map.now) 0 _ _ refl c.new-tracer.ensures c.at.ensures.new)
    c.requires.empty
    c.simulate.ensures.went
    )

pub returns-in-Pic16F84a-clause-run : goal.returns-in-Pic16F84a-clause-run
returns-in-Pic16F84a-clause-run g c =
    rw c.in-Pic16F84a.is (
    run_of _ _ c.args.image.now (content_of c.args.map.now) (script_file.content_of c.args.script.now) c.args.instructions _ _ _ _ _ _ _ _ _ _
    c.in_ok-feed.ensures.fed
    c.reset-chip-in-Pic16F84a.ensures
    (looked_first (content_of c.args.map.now) 0 _ _ refl c.new-tracer.ensures c.at.ensures.new)
    c.requires.empty
    c.simulate84.ensures.went
    )
