use Rattle.depth_check.specs.Certificate.{seen}
use Rattle.picc_cli.proofs.CheckEnds.{bounded, has_handler, has_main}
use Rattle.picc_cli.proofs.checking.depth_by.Goals as goal

pub total-requires-clause-main : goal.total-requires-clause-main
total-requires-clause-main c = has_main c.args.image.now (seen c.args.certificate.now) c.requires

pub total-requires-clause-handler : goal.total-requires-clause-handler
total-requires-clause-handler c = has_handler c.args.image.now (seen c.args.certificate.now) c.requires

pub returns : goal.returns
returns c = bounded c.args.image.now (seen c.args.certificate.now) c.total.result c.requires c.total.ensures
