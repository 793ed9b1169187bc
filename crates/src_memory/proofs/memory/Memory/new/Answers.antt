use Rattle.c_typed.specs.Views.{program_of}
use Rattle.pic_map.specs.MapView.{content_of}
use Rattle.src_memory.proofs.First.{first_is, first_of, first_shaped}
use Rattle.src_memory.proofs.Small.{sound_small}
use Rattle.src_memory.specs.declared.memory.Memory.{Memory}
use Rattle.src_memory.proofs.memory.Memory.new.Goals as goal

pub returns-clause-memory : goal.returns-clause-memory
returns-clause-memory c =
    let p = program_of c.args.program.now in
    let map = content_of c.args.map.now in
    let m : Memory = record { fixed = c.in_ok-statics_at_start.field-0; main = c.in_ok-frames_at_start.field-0; handler = c.in_ok-frames_at_start-2.field-0 } in
    first_is p map m (first_of p map m c.in_ok-statics_at_start.ensures c.in_ok-frames_at_start.ensures c.in_ok-frames_at_start-2.ensures)

pub returns-clause-shape : goal.returns-clause-shape
returns-clause-shape c = λ few.
    let p = program_of c.args.program.now in
    let map = content_of c.args.map.now in
    let m : Memory = record { fixed = c.in_ok-statics_at_start.field-0; main = c.in_ok-frames_at_start.field-0; handler = c.in_ok-frames_at_start-2.field-0 } in
    first_shaped p map m (first_of p map m c.in_ok-statics_at_start.ensures c.in_ok-frames_at_start.ensures c.in_ok-frames_at_start-2.ensures) (sound_small p c.args.program.now.sound few)
