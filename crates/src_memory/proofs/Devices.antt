-- What an access to a device register answers.
use Rattle.std.proofs.Common.{◌≡◌, ℕ, Bool, false, if◌then◌else◌, List, refl, sym, ap, subst, ◌∙◌, Ok, Err}
use Rattle.std.specs.Prelude.{Option, Some, Result}
use Rattle.pic_world.specs.Bits.{bit}
use Rattle.pic_world.specs.World as shared
use Rattle.pic_world.specs.World.{Happening, Outside, ReadOf, WriteOf, after_device_read, after_device_write, device_value, noted, sets_gie, value_kept}
use Rattle.pic_world.specs.declared.Cell.TheVariants.{Device}
use Rattle.pic_world.specs.declared.Event.{Event}
use Rattle.pic_world.specs.declared.Event.TheVariants as events
use Rattle.pic_world.specs.declared.Root.{Root}
use Rattle.src_memory.specs.Accessed.{TellsPutting, TellsTaking}
use Rattle.src_memory.specs.Seen.{IsWorld}
use Rattle.src_memory.specs.Shown.{shown}
use Rattle.src_memory.specs.declared.world.World.{World}
use Rattle.src_values.specs.Accesses.{Puts, Refuses, device_put, put_byte, take_byte}
use Rattle.src_values.specs.Memory as spec
use Rattle.src_values.specs.Memory.{Setting}
use Rattle.src_values.specs.Values.{number_in}
use Rattle.src_values.specs.declared.objects.Byte.{Byte}
use Rattle.src_values.specs.declared.objects.Byte.TheVariants as bytes
use Rattle.src_values.specs.declared.objects.CopyOf.{CopyOf}
use Rattle.src_values.specs.declared.objects.Object.{Object}
use Rattle.src_values.specs.declared.objects.Pointer.TheVariants.{Null}
use Rattle.src_values.specs.declared.objects.Spot.TheVariants as spots
use Rattle.src_values.specs.declared.objects.Undef.{Undef}
use Rattle.src_values.specs.declared.objects.Undef.TheVariants.{Gie, Outside as Beyond}

-- the event of a read
pub read_shown : (a : Object → ℕ) (register value wanted : ℕ) → value ≡ wanted → events.Read (Device register) value ≡ shown a (ReadOf (Device register) (bytes.Number wanted))
unfolding shown
read_shown a register value wanted e = ap (events.Read (Device register)) e

pub after_read : (o p : Outside) (code : World) (register : ℕ) (w : shared.World Byte) → ((e : Happening Byte) → IsWorld o code (noted e (shared.input_used register w))) → IsWorld o code (after_device_read bytes.Number p register w)
unfolding after_device_read
after_read o p code register w h = h (ReadOf (Device register) (bytes.Number (device_value p register w)))

module _ (set : Setting) (o : Outside) (same : set.outside ≡ o) (a : Object → ℕ) (live : List CopyOf) (root : Root) (fits : Byte → Bool) (register : ℕ) (m : spec.Memory) (w : shared.World Byte) (code : World) (value : ℕ) (event : Event)
    (is : value ≡ device_value o register w) (shows : event ≡ shown a (ReadOf (Device register) (bytes.Number (device_value o register w)))) (leaves : IsWorld o code (after_device_read bytes.Number o register w)) where
  pub take_device : TellsTaking set.outside a (Ok (record { byte = bytes.Number value; event = Some event })) code (take_byte set live root fits (spots.Device register) m w)
  unfolding take_byte
  take_device = record {
    reads = ap bytes.Number (is ∙ ap (λ p. device_value p register w) (sym same));
    leaves = subst (λ p. IsWorld p code (after_device_read bytes.Number p register w)) (sym same) leaves;
    shows = ap Some (shows ∙ ap (λ p. shown a (ReadOf (Device register) (bytes.Number (device_value p register w)))) (sym same));
  }

  pub take_bit : (number got : ℕ) → got ≡ bit value number → TellsTaking set.outside a (Ok (record { byte = bytes.Number got; event = Some event })) code (take_byte set live root fits (spots.Bit register number) m w)
  unfolding take_byte
  take_bit number got b = record {
    reads = ap bytes.Number (b ∙ ap (λ v. bit v number) (is ∙ ap (λ p. device_value p register w) (sym same)));
    leaves = subst (λ p. IsWorld p code (after_device_read bytes.Number p register w)) (sym same) leaves;
    shows = ap Some (shows ∙ ap (λ p. shown a (ReadOf (Device register) (bytes.Number (device_value p register w)))) (sym same));
  }

pub put_device : (o : Outside) (a : Object → ℕ) (m : spec.Memory) (code : World) (register value : ℕ) (w : shared.World Byte) → false ≡ sets_gie register value w → ((e : Happening Byte) → IsWorld o code (noted e (value_kept register value w))) →
    TellsPutting o a (Ok (Some (events.Write (Device register) value))) m code (device_put register value m w)
unfolding shown after_device_write
put_device o a m code register value w e h =
    subst (λ b. TellsPutting o a (Ok (Some (events.Write (Device register) value))) m code (if b then Refuses Gie else Puts m (after_device_write bytes.Number register value w) (Some (WriteOf (Device register) (bytes.Number value))))) e
    (record { stores = refl; leaves = h (WriteOf (Device register) (bytes.Number value)); shows = refl })

-- ---- what isn't a device register
pub take_null : (set : Setting) (a : Object → ℕ) (live : List CopyOf) (root : Root) (fits : Byte → Bool) (m : spec.Memory) (w : shared.World Byte) (code : World) → TellsTaking set.outside a (Err Beyond) code (take_byte set live root fits (spots.Memory Null) m w)
unfolding take_byte
take_null set a live root fits m w code = refl

pub put_null : (set : Setting) (a : Object → ℕ) (live : List CopyOf) (root : Root) (byte : Byte) (m : spec.Memory) (w : shared.World Byte) (code : World) → TellsPutting set.outside a (Err Beyond) m code (put_byte set live root (spots.Memory Null) byte m w)
unfolding put_byte
put_null set a live root byte m w code = refl

pub put_bit : (set : Setting) (a : Object → ℕ) (live : List CopyOf) (root : Root) (register number : ℕ) (byte : Byte) (m : spec.Memory) (w : shared.World Byte) (code : World) → TellsPutting set.outside a (Err Beyond) m code (put_byte set live root (spots.Bit register number) byte m w)
unfolding put_byte
put_bit set a live root register number byte m w code = refl

pub put_to_device : (set : Setting) (a : Object → ℕ) (live : List CopyOf) (root : Root) (register : ℕ) (byte : Byte) (m : spec.Memory) (w : shared.World Byte) (code : World) (result : Result (Option Event) Undef) (value : ℕ) → value ≡ number_in byte →
    TellsPutting set.outside a result m code (device_put register value m w) → TellsPutting set.outside a result m code (put_byte set live root (spots.Device register) byte m w)
unfolding put_byte
put_to_device set a live root register byte m w code result value e h = subst (λ n. TellsPutting set.outside a result m code (device_put register n m w)) e h
