use Rattle.pic_map.specs.MapView.{content_of}
use Rattle.picc_cli.proofs.ChipNames.{run_named}
use Rattle.picc_cli.proofs.simulating.run.Goals as goal

pub print_run-requires : goal.print_run-requires
print_run-requires g c = run_named (content_of c.args.map.now) c.args.asked.chip _ _ _ _ _ _ _ c.in-Ok.ensures.run
