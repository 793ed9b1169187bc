use Rattle.std.proofs.Common.{◌≡◌, true, false, ap, ◌∙◌}
use Rattle.std.specs.Prelude.{slice_index}
use Rattle.pic_world.specs.Control.{is_stored}
use Rattle.src_memory.specs.Seen.{outside_by}
use Rattle.src_memory.proofs.Worlds.{value_read, value_stored}
use Rattle.src_memory.proofs.world.World.value.Goals as goal

pub returns-then-is_stored : goal.returns-then-is_stored
returns-then-is_stored c = λ w h.
    let e : is_stored c.args.address ≡ true = cc in
    c.stored.ensures ∙ value_stored (outside_by c.args.script.now) c.args.self.now w c.args.address h e

pub returns : goal.returns
returns c = λ w h.
    let e : is_stored c.args.address ≡ false = cc in
    c.input_at.ensures ∙ ap (λ xs. slice_index xs c.args.self.now.taken) c.deref.ensures.value ∙ value_read (outside_by c.args.script.now) c.args.self.now w c.args.address h e
