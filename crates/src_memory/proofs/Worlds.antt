-- The world that the code keeps, behind each of its changes.
use Rattle.std.proofs.Common.{◌≡◌, ℕ, ◌+◌, ◌/◌, ◌%◌, true, false, not, ◌&&◌, if◌then◌else◌, [], ◌∷◌, length, refl, sym, ap, subst, ◌∙◌, arith, length-append}
use Rattle.std.specs.Prelude.{bit_or, slice_index}
use Rattle.pic_world.specs.Arrivals.{arriving}
use Rattle.pic_world.specs.Bits.{set_bit, clear_bit}
use Rattle.pic_world.specs.Control as control
use Rattle.pic_world.specs.Control.{Control, is_stored, stored, with_stored, raised_by}
use Rattle.pic_world.specs.World as shared
use Rattle.pic_world.specs.World.{Outside, Happening, arrived, noted, device_value, input_used, value_kept}
use Rattle.pic_world.specs.declared.script.Script.{Script}
use Rattle.pic_world.proofs.WorldLaws.{arrived_again}
use Rattle.src_memory.specs.Seen.{IsWorld, control_in, control_of, outside_by}
use Rattle.src_memory.specs.declared.world.World.{World}
use Rattle.src_values.specs.declared.objects.Byte.{Byte}

-- ---- interrupts
pub entering : (o : Outside) (code : World) (w : shared.World Byte) (x : ℕ) → x ≡ clear_bit 7 code.intcon → IsWorld o code w → IsWorld o (record code { inside = true; intcon = x; arrived = false }) (shared.entered w)
unfolding shared.entered control.entered
entering o code w x e h = record {
  control = ap control.entered h.control ∙ ap (λ n. control_of n code.pir1 code.pie1) (sym e);
  inside = refl;
  taken = h.taken;
  count = h.count;
  few = h.few;
  settled = λ q. absurd (cc);
}

pub leaving : (o : Outside) (code : World) (w : shared.World Byte) (x : ℕ) → x ≡ set_bit 7 code.intcon → IsWorld o code w → IsWorld o (record code { inside = false; intcon = x; arrived = false }) (shared.left w)
unfolding shared.left control.left
leaving o code w x e h = record {
  control = ap control.left h.control ∙ ap (λ n. control_of n code.pir1 code.pie1) (sym e);
  inside = refl;
  taken = h.taken;
  count = h.count;
  few = h.few;
  settled = λ q. absurd (cc);
}

pub is_due_by : (o : Outside) (code : World) (w : shared.World Byte) → IsWorld o code w → not code.inside && control.is_due (control_in code) ≡ shared.is_due w
unfolding shared.is_due
is_due_by o code w h = ap (λ b. not b && control.is_due (control_in code)) (sym h.inside) ∙ ap (λ c. not w.inside && control.is_due c) (sym h.control)

pub sets_gie_by : (o : Outside) (code : World) (w : shared.World Byte) (address value : ℕ) → IsWorld o code w → code.inside && control.sets_gie address value ≡ shared.sets_gie address value w
unfolding shared.sets_gie
sets_gie_by o code w address value h = ap (λ b. b && control.sets_gie address value) (sym h.inside)

-- ---- arrivals
pub arriving_now : (script : Script) (code : World) (w : shared.World Byte) (mask : ℕ) → mask ≡ arriving script.arrivals.items code.events → IsWorld (outside_by script) code w →
    IsWorld (outside_by script) (record code { intcon = bit_or code.intcon (mask % 8); pir1 = bit_or code.pir1 (mask / 8 % 256); arrived = true }) (arrived (outside_by script) w)
unfolding arrived raised_by
arriving_now script code w mask e h =
    let m : arriving script.arrivals.items (length w.trace) ≡ mask = ap (arriving script.arrivals.items) h.count ∙ sym e in
    record {
      control = ap (λ n. raised_by n w.control) m ∙ ap (raised_by mask) h.control;
      inside = h.inside;
      taken = h.taken;
      count = h.count;
      few = h.few;
      settled = λ q. arrived_again (outside_by script) w;
    }

-- ---- registers
pub keeps_intcon : (o : Outside) (code : World) (w : shared.World Byte) (address value : ℕ) → address ≡ 11 → IsWorld o code w → IsWorld o (record code { intcon = value; arrived = false }) (value_kept address value w)
unfolding with_stored
keeps_intcon o code w address value e h =
    subst (λ a. IsWorld o (record code { intcon = value; arrived = false }) (value_kept a value w)) (sym e)
    (record { control = ap (λ c. control_of value c.pir1 c.pie1) h.control; inside = h.inside; taken = h.taken; count = h.count; few = h.few; settled = λ q. absurd (cc) })

pub keeps_pir1 : (o : Outside) (code : World) (w : shared.World Byte) (address value : ℕ) → address ≡ 12 → IsWorld o code w → IsWorld o (record code { pir1 = value; arrived = false }) (value_kept address value w)
unfolding with_stored
keeps_pir1 o code w address value e h =
    subst (λ a. IsWorld o (record code { pir1 = value; arrived = false }) (value_kept a value w)) (sym e)
    (record { control = ap (λ c. control_of c.intcon value c.pie1) h.control; inside = h.inside; taken = h.taken; count = h.count; few = h.few; settled = λ q. absurd (cc) })

pub keeps_pie1 : (o : Outside) (code : World) (w : shared.World Byte) (address value : ℕ) → address ≡ 140 → IsWorld o code w → IsWorld o (record code { pie1 = value; arrived = false }) (value_kept address value w)
unfolding with_stored
keeps_pie1 o code w address value e h =
    subst (λ a. IsWorld o (record code { pie1 = value; arrived = false }) (value_kept a value w)) (sym e)
    (record { control = ap (λ c. control_of c.intcon c.pir1 value) h.control; inside = h.inside; taken = h.taken; count = h.count; few = h.few; settled = λ q. absurd (cc) })

-- ---- reads
pub value_stored : (o : Outside) (code : World) (w : shared.World Byte) (address : ℕ) → IsWorld o code w → is_stored address ≡ true → stored address (control_in code) ≡ device_value o address w
unfolding device_value
value_stored o code w address h e =
    ap (stored address) (sym h.control) ∙ sym (ap (λ b. if b then stored address w.control else slice_index o.input w.taken) e)

pub value_read : (o : Outside) (code : World) (w : shared.World Byte) (address : ℕ) → IsWorld o code w → is_stored address ≡ false → slice_index o.input code.taken ≡ device_value o address w
unfolding device_value
value_read o code w address h e =
    ap (slice_index o.input) (sym h.taken) ∙ sym (ap (λ b. if b then stored address w.control else slice_index o.input w.taken) e)

pub none_used : (o : Outside) (code : World) (w : shared.World Byte) (e : Happening Byte) (address : ℕ) → is_stored address ≡ true → IsWorld o code (noted e w) → IsWorld o code (noted e (input_used address w))
none_used o code w e address q h = subst (λ b. IsWorld o code (noted e (if b then w else record w { taken = w.taken + 1 }))) (sym q) h

one_more : (o : Outside) (old code : World) (w : shared.World Byte) (e : Happening Byte) (taken : ℕ) → taken ≡ code.taken + 1 → IsWorld o old w → IsWorld o code (noted e w) → IsWorld o (record code { taken = taken }) (noted e (record w { taken = w.taken + 1 }))
unfolding arrived
one_more o old code w e taken t h g =
    let events : length w.trace + 1 ≡ code.events = sym (length-append w.trace (e ∷ [])) ∙ g.count in
    let was = h.count in
    let few = h.few in
    let same = g.taken in
    let had = h.taken in
    record {
      control = g.control;
      inside = g.inside;
      taken = omega arith;
      count = g.count;
      few = omega arith;
      settled = λ q. ap (λ (v : shared.World Byte). record v { taken = w.taken + 1 }) (g.settled q);
    }

pub one_used : (o : Outside) (old code : World) (w : shared.World Byte) (e : Happening Byte) (address taken : ℕ) → is_stored address ≡ false → taken ≡ code.taken + 1 → IsWorld o old w → IsWorld o code (noted e w) → IsWorld o (record code { taken = taken }) (noted e (input_used address w))
one_used o old code w e address taken q t h g =
    subst (λ b. IsWorld o (record code { taken = taken }) (noted e (if b then w else record w { taken = w.taken + 1 }))) (sym q) (one_more o old code w e taken t h g)
