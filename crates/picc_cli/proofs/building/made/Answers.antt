use Rattle.picc_cli.proofs.BuildWhole.{made_whole}
use Rattle.picc_cli.proofs.building.made.Goals as goal

pub texts_of-requires : goal.texts_of-requires
texts_of-requires c = c.in_ok-program.ensures.whole.written

pub returns-in-Ok-clause-made : goal.returns-in-Ok-clause-made
returns-in-Ok-clause-made c =
    let program = c.in_ok-program.program in
    let says = c.in_ok-program.ensures in
    let files = c.in-Ok.ensures in
    made_whole c.args.text.now c.in-Ok.texts.hex.items c.in-Ok.texts.map.items program files.hex_file files.hex files.map_file files.map c.args.chip says.whole says.made
