-- The registers by which interrupts come are bytes, and whether the handler runs changes at its entry and its end alone.
use Rattle.std.proofs.Common.{◌≡◌, ℕ, ◌+◌, ◌/◌, ◌%◌, ◌<◌, Bool, true, false, nat_eq, List, length, refl, arith, ⊎_elim}
use Rattle.std.proofs.lemmas.Bool.{and_parts, not-true, cases_lt}
use Rattle.std.proofs.lemmas.List.{get_or_past}
use Rattle.std.proofs.lemmas.Nat.{or_lt}
use Rattle.std.specs.List.{All}
use Rattle.std.specs.Prelude.{if◌then◌else◌, slice_index}
use Rattle.pic_world.specs.Control.{Control, is_stored, stored, with_stored, raised_by}
use Rattle.pic_world.specs.Control as control
use Rattle.pic_world.specs.World.{Outside, World, arrived, is_due, entered, left, device_value, after_device_read, after_device_write}
use Rattle.src_rules.specs.Standing.{ControlStands}

raised_stands : (mask : ℕ) (r : Control) → ControlStands r → ControlStands (raised_by mask r)
unfolding raised_by
raised_stands mask r h = record { intcon = or_lt 8 r.intcon (mask % 8) h.intcon (omega arith); pir1 = or_lt 8 r.pir1 (mask / 8 % 256) h.pir1 (omega arith); pie1 = h.pie1 }

pub arrived_stands : {B : Type 0} (o : Outside) (w : World B) → ControlStands w.control → ControlStands (arrived o w).control
unfolding arrived
arrived_stands o w h = raised_stands _ w.control h

pub arrived_inside : {B : Type 0} (o : Outside) (w : World B) → (arrived o w).inside ≡ w.inside
unfolding arrived
arrived_inside o w = refl

pub entered_stands : {B : Type 0} (w : World B) → ControlStands w.control → ControlStands (entered w).control
unfolding entered control.entered
entered_stands w h = let i = h.intcon in record { intcon = omega arith; pir1 = h.pir1; pie1 = h.pie1 }

pub entered_inside : {B : Type 0} (w : World B) → (entered w).inside ≡ true
unfolding entered
entered_inside w = refl

pub left_stands : {B : Type 0} (w : World B) → ControlStands w.control → ControlStands (left w).control
unfolding left control.left
left_stands w h = let i = h.intcon in record { intcon = omega arith; pir1 = h.pir1; pie1 = h.pie1 }

pub left_inside : {B : Type 0} (w : World B) → (left w).inside ≡ false
unfolding left
left_inside w = refl

pub due_outside : {B : Type 0} (w : World B) → is_due w ≡ true → w.inside ≡ false
unfolding is_due
due_outside w e = not-true _ (and_parts _ _ e).0

-- ---- device registers
used_stands : {B : Type 0} (b : Bool) (w : World B) → ControlStands w.control → ControlStands (if b then w else record w { taken = w.taken + 1 }).control
used_stands true w h = h
used_stands false w h = h

used_inside : {B : Type 0} (b : Bool) (w : World B) → (if b then w else record w { taken = w.taken + 1 }).inside ≡ w.inside
used_inside true w = refl
used_inside false w = refl

pub read_stands : {B : Type 0} (number : ℕ → B) (o : Outside) (address : ℕ) (w : World B) → ControlStands w.control → ControlStands (after_device_read number o address w).control
unfolding after_device_read
read_stands number o address w h = used_stands (is_stored address) w h

pub read_inside : {B : Type 0} (number : ℕ → B) (o : Outside) (address : ℕ) (w : World B) → (after_device_read number o address w).inside ≡ w.inside
unfolding after_device_read
read_inside number o address w = used_inside (is_stored address) w

put_stands : (value : ℕ) (a b : Bool) (r : Control) → value < 256 → ControlStands r → ControlStands (if a then record r { intcon = value } else if b then record r { pir1 = value } else record r { pie1 = value })
put_stands value true b r v h = record { intcon = v; pir1 = h.pir1; pie1 = h.pie1 }
put_stands value false true r v h = record { intcon = h.intcon; pir1 = v; pie1 = h.pie1 }
put_stands value false false r v h = record { intcon = h.intcon; pir1 = h.pir1; pie1 = v }

stored_stands : (address value : ℕ) (r : Control) → value < 256 → ControlStands r → ControlStands (with_stored address value r)
unfolding with_stored
stored_stands address value r v h = put_stands value (nat_eq address 0x0b) (nat_eq address 0x0c) r v h

kept_stands : {B : Type 0} (b : Bool) (address value : ℕ) (w : World B) → value < 256 → ControlStands w.control → ControlStands (if b then record w { control = with_stored address value w.control } else w).control
kept_stands true address value w v h = stored_stands address value w.control v h
kept_stands false address value w v h = h

kept_inside : {B : Type 0} (b : Bool) (address value : ℕ) (w : World B) → (if b then record w { control = with_stored address value w.control } else w).inside ≡ w.inside
kept_inside true address value w = refl
kept_inside false address value w = refl

pub write_stands : {B : Type 0} (number : ℕ → B) (address value : ℕ) (w : World B) → value < 256 → ControlStands w.control → ControlStands (after_device_write number address value w).control
unfolding after_device_write
write_stands number address value w v h = kept_stands (is_stored address) address value w v h

pub write_inside : {B : Type 0} (number : ℕ → B) (address value : ℕ) (w : World B) → (after_device_write number address value w).inside ≡ w.inside
unfolding after_device_write
write_inside number address value w = kept_inside (is_stored address) address value w

chosen_small : (a b : Bool) (x y z : ℕ) → x < 256 → y < 256 → z < 256 → (if a then x else if b then y else z) < 256
chosen_small true b x y z hx hy hz = hx
chosen_small false true x y z hx hy hz = hy
chosen_small false false x y z hx hy hz = hz

stored_small : (address : ℕ) (r : Control) → ControlStands r → stored address r < 256
unfolding stored
stored_small address r h = chosen_small (nat_eq address 0x0b) (nat_eq address 0x0c) r.intcon r.pir1 r.pie1 h.intcon h.pir1 h.pie1

either_small : (b : Bool) (x y : ℕ) → x < 256 → y < 256 → (if b then x else y) < 256
either_small true x y hx hy = hx
either_small false x y hx hy = hy

pub input_small : (xs : List ℕ) (n : ℕ) → All (λ byte. byte < 256) xs → slice_index xs n < 256
input_small xs n h = ⊎_elim (λ l. h n 0 l) (λ g. rw (get_or_past xs n 0 g) (omega arith)) (cases_lt n (length xs))

pub value_small : {B : Type 0} (o : Outside) (address : ℕ) (w : World B) → All (λ byte. byte < 256) o.input → ControlStands w.control → device_value o address w < 256
unfolding device_value
value_small o address w i h = either_small (is_stored address) _ _ (stored_small address w.control h) (input_small o.input w.taken i)
