use Rattle.std.proofs.Common.{sym, ap, subst, ◌∙◌, Ok, Err}
use Rattle.std.specs.Prelude.{Some}
use Rattle.src_memory.specs.Accessed.{TellsTaking, fits_by}
use Rattle.src_memory.specs.Cells.{memory_in}
use Rattle.src_memory.specs.Seen.{IsWorld, outside_by}
use Rattle.src_memory.specs.Shown.{address_of}
use Rattle.src_memory.proofs.Devices.{take_bit, take_device, take_null}
use Rattle.src_values.specs.Accesses as stated
use Rattle.src_values.specs.declared.objects.Byte.TheVariants as bytes
use Rattle.src_values.specs.declared.objects.Spot.TheVariants as spots
use Rattle.src_values.specs.declared.objects.Undef.TheVariants.{Outside}
use Rattle.src_memory.proofs.memory.Memory.take_byte.Goals as goal

pub returns-in-Device : goal.returns-in-Device
returns-in-Device c = λ s map live w shaped same world alive few known.
    let o = outside_by c.args.script.now in
    let here : IsWorld o c.args.world.now w = subst (λ p. IsWorld p c.args.world.now w) same world in
    let a = address_of s.program map in
    subst (λ spot. TellsTaking s.outside a (Ok (record { byte = bytes.Number c.read_register-value.result.0; event = Some c.read_register-value.result.1 })) c.read_register-value.new.self (stated.take_byte s live c.args.reach.root (fits_by c.args.fits) spot (memory_in c.args.self.now) w)) (sym c.in-Device.is)
    (take_device s o same a live c.args.reach.root (fits_by c.args.fits) c.in-Device.address (memory_in c.args.self.now) w c.read_register-value.new.self c.read_register-value.result.0 c.read_register-value.result.1
    (c.read_register-value.ensures.value w here) (c.read_register-value.ensures.event a w here) (c.read_register-value.ensures.world w here few))

pub returns-in-Bit : goal.returns-in-Bit
returns-in-Bit c = λ s map live w shaped same world alive few known.
    let o = outside_by c.args.script.now in
    let here : IsWorld o c.args.world.now w = subst (λ p. IsWorld p c.args.world.now w) same world in
    let a = address_of s.program map in
    subst (λ spot. TellsTaking s.outside a (Ok (record { byte = bytes.Number c.bit_of.result; event = Some c.read_register-value-in-Bit.result.1 })) c.read_register-value-in-Bit.new.self (stated.take_byte s live c.args.reach.root (fits_by c.args.fits) spot (memory_in c.args.self.now) w)) (sym c.in-Bit.is)
    (take_bit s o same a live c.args.reach.root (fits_by c.args.fits) c.in-Bit.register (memory_in c.args.self.now) w c.read_register-value-in-Bit.new.self c.read_register-value-in-Bit.result.0 c.read_register-value-in-Bit.result.1
    (c.read_register-value-in-Bit.ensures.value w here) (c.read_register-value-in-Bit.ensures.event a w here) (c.read_register-value-in-Bit.ensures.world w here few) c.in-Bit.bit c.bit_of.result c.bit_of.ensures)

pub returns-in-Memory-Null : goal.returns-in-Memory-Null
returns-in-Memory-Null c = λ s map live w shaped same world alive few known.
    let null = rw c.in-Memory-Null.is at c.in-Memory-Null.field-0-is in
    subst (λ spot. TellsTaking s.outside (address_of s.program map) (Err Outside) c.args.world.now (stated.take_byte s live c.args.reach.root (fits_by c.args.fits) spot (memory_in c.args.self.now) w)) (sym (c.in-Memory-Null.is ∙ ap (λ x. spots.Memory x) null))
    (take_null s (address_of s.program map) live c.args.reach.root (fits_by c.args.fits) (memory_in c.args.self.now) w c.args.world.now)
