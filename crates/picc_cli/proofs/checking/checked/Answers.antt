use Rattle.picc_cli.proofs.CheckEnds.{image_known, read_cause, read_sound, unread_sound, file_known}
use Rattle.picc_cli.proofs.checking.checked.Goals as goal

pub returns-in-Ok-clause-cause : goal.returns-in-Ok-clause-cause
returns-in-Ok-clause-cause g c = read_cause _ _ _ c.certified.result c.in-Ok.ensures.cause c.certified.ensures.end

pub returns-in-Ok-clause-sound : goal.returns-in-Ok-clause-sound
returns-in-Ok-clause-sound g c = read_sound _ _ c.args.hex.now _ c.certified.result c.in-Ok.ensures.sound c.certified.ensures.end

pub returns-in-Ok-clause-knows : goal.returns-in-Ok-clause-knows
returns-in-Ok-clause-knows g c = image_known _ c.args.hex.now c.in-Ok.image c.certified.result c.in-Ok.ensures.found c.certified.ensures.end c.certified.ensures.knows

pub returns-in-Err-clause-sound : goal.returns-in-Err-clause-sound
returns-in-Err-clause-sound g c = unread_sound _ _ c.args.hex.now c.in-Err.end c.in-Err.ensures.sound

pub returns-in-Err-clause-knows : goal.returns-in-Err-clause-knows
returns-in-Err-clause-knows g c = file_known _ c.args.hex.now c.in-Err.end c.in-Err.ensures.none
