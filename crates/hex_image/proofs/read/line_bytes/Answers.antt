use Rattle.hex_image.proofs.Pairs.{decoded, not_decoded}
use Rattle.hex_image.proofs.read.line_bytes.Goals as goal

pub returns-in-Ok : goal.returns-in-Ok
returns-in-Ok c = decoded c.args.number c.args.first c.args.digits.now c.in-Ok.bytes.items c.if-first-ne58.false c.in-Ok.ensures.ok

pub returns-in-Err : goal.returns-in-Err
returns-in-Err c = not_decoded c.args.number c.args.first c.args.digits.now c.in-Err.error c.undecoded.result c.if-first-ne58.false c.in-Err.ensures.err c.undecoded.ensures
