use Rattle.std.proofs.Common.{◌≡◌, true, false, arith}
use Rattle.pic_world.specs.Control.{is_stored}
use Rattle.src_memory.specs.Seen.{outside_by}
use Rattle.src_memory.proofs.Worlds.{none_used, one_used}
use Rattle.src_memory.proofs.world.World.read.Goals as goal

pub returns-then-is_stored-clause-world : goal.returns-then-is_stored-clause-world
returns-then-is_stored-clause-world c = λ w e h few.
    let q : is_stored c.args.address ≡ true = cc in
    none_used (outside_by c.args.script.now) c.note.new.self w e c.args.address q (c.note.ensures (outside_by c.args.script.now) w e h few)

pub returns-clause-world : goal.returns-clause-world
returns-clause-world c = λ w e h few.
    let q : is_stored c.args.address ≡ false = cc in
    let g = c.note.ensures (outside_by c.args.script.now) w e h few in
    let was = h.taken in
    let below = h.few in
    let same = g.taken in
    one_used (outside_by c.args.script.now) c.args.self.now c.note.new.self w e c.args.address c.saturating_add-self.result q (omega (arith, c.saturating_add-self.ensures)) h g
