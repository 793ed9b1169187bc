use Rattle.lower_stmt.proofs.Objects.{numbered}
use Rattle.lower_stmt.proofs.initials.first_bytes.Goals as goal

pub bytes_of_static-requires : goal.bytes_of_static-requires
bytes_of_static-requires c =
    numbered c.args.p.now.targets.items c.args.p.now.structures.items c.args.p.now.statics.items c.args.p.now.functions.items c.deref-object-items.result.now c.loop-object.object-index c.object-item.result c.deref-object-items.ensures.value c.requires.sound
    c.requires.few c.loop-object-test.true c.object-item.is
