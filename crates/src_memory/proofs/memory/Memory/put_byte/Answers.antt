use Rattle.std.proofs.Common.{sym, ap, subst, ◌∙◌, Err}
use Rattle.src_memory.specs.Accessed.{TellsPutting}
use Rattle.src_memory.specs.Cells.{memory_in}
use Rattle.src_memory.specs.Shown.{address_of}
use Rattle.src_memory.proofs.Devices.{put_bit, put_null, put_to_device}
use Rattle.src_values.specs.Accesses as stated
use Rattle.src_values.specs.declared.objects.Spot.TheVariants as spots
use Rattle.src_values.specs.declared.objects.Undef.TheVariants.{Outside}
use Rattle.src_memory.proofs.memory.Memory.put_byte.Goals as goal

pub returns-in-Device-clause-access : goal.returns-in-Device-clause-access
returns-in-Device-clause-access c = λ s map live w shaped world alive few known.
    subst (λ spot. TellsPutting s.outside (address_of s.program map) c.put_register.result (memory_in c.args.self.now) c.put_register.new.self (stated.put_byte s live c.args.reach.root spot c.args.byte (memory_in c.args.self.now) w)) (sym c.in-Device.is)
    (put_to_device s (address_of s.program map) live c.args.reach.root c.in-Device.address c.args.byte (memory_in c.args.self.now) w c.put_register.new.self c.put_register.result c.number_in.result c.number_in.ensures
    (c.put_register.ensures s.outside (address_of s.program map) (memory_in c.args.self.now) w world few))

pub returns-in-Bit-clause-access : goal.returns-in-Bit-clause-access
returns-in-Bit-clause-access c = λ s map live w shaped world alive few known.
    subst (λ spot. TellsPutting s.outside (address_of s.program map) (Err Outside) (memory_in c.args.self.now) c.args.world.now (stated.put_byte s live c.args.reach.root spot c.args.byte (memory_in c.args.self.now) w)) (sym c.in-Bit.is)
    (put_bit s (address_of s.program map) live c.args.reach.root _ _ c.args.byte (memory_in c.args.self.now) w c.args.world.now)

pub returns-in-Memory-Null-clause-access : goal.returns-in-Memory-Null-clause-access
returns-in-Memory-Null-clause-access c = λ s map live w shaped world alive few known.
    let null = rw c.in-Memory-Null.is at c.in-Memory-Null.field-0-is in
    subst (λ spot. TellsPutting s.outside (address_of s.program map) (Err Outside) (memory_in c.args.self.now) c.args.world.now (stated.put_byte s live c.args.reach.root spot c.args.byte (memory_in c.args.self.now) w)) (sym (c.in-Memory-Null.is ∙ ap (λ x. spots.Memory x) null))
    (put_null s (address_of s.program map) live c.args.reach.root c.args.byte (memory_in c.args.self.now) w c.args.world.now)
