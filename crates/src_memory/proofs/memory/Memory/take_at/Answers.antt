use Rattle.std.proofs.Common.{sym}
use Rattle.src_memory.specs.Accessed.{fits_by}
use Rattle.src_memory.proofs.Reaching.{take_beyond, take_refused, take_shown, take_silent}
use Rattle.src_memory.proofs.memory.Memory.take_at.Goals as goal

pub returns-in-None : goal.returns-in-None
returns-in-None c = λ s map live w shaped world alive few known.
    take_beyond s map live w c.args.self.now c.args.reach.root (fits_by c.args.fits) c.args.object c.args.offset c.args.world.now shaped (sym c.in-None.ensures)

pub returns-in-Some-read_fault : goal.returns-in-Some-read_fault
returns-in-Some-read_fault c = λ s map live w shaped world alive few known.
    take_refused s map live w c.args.self.now c.args.reach.root (fits_by c.args.fits) c.args.object c.args.offset c.args.world.now shaped
    c.args.reach.alive c.in-Some.byte alive (sym c.in-Some.ensures) c.in-Some-read_fault.kind c.in-Some-read_fault.ensures

pub returns-in-Some-place : goal.returns-in-Some-place
returns-in-Some-place c = λ s map live w shaped world alive few known.
    take_shown s map live w c.args.self.now c.args.reach.root (fits_by c.args.fits) c.args.object c.args.offset c.note.new.self shaped
    c.args.reach.alive c.in-Some.byte alive (sym c.in-Some.ensures) c.in-Some-place.cell c.shown-value.result
    c.in-None-read_fault.ensures c.in-Some-place.ensures c.shown-value.ensures known (λ e. c.note.ensures s.outside w e world few)

pub returns-in-None-place : goal.returns-in-None-place
returns-in-None-place c = λ s map live w shaped world alive few known.
    take_silent s map live w c.args.self.now c.args.reach.root (fits_by c.args.fits) c.args.object c.args.offset c.args.world.now shaped
    c.args.reach.alive c.in-Some.byte alive (sym c.in-Some.ensures) c.in-None-read_fault.ensures c.in-None-place.ensures world
