-- Laws of the world: flags that arrive again change nothing, and the world as the next level shows it goes the same way.
use Rattle.std.proofs.Common.{◌≡◌, ℕ, ◌+◌, Bool, true, false, if◌then◌else◌, List, [], ◌∷◌, length, map, refl, sym, ap, ◌∙◌}
use Rattle.std.proofs.lemmas.List.{length-map, map-append}
use Rattle.pic_world.specs.Control.{is_stored, with_stored, raised_by}
use Rattle.pic_world.specs.declared.Cell.TheVariants.{Device}
use Rattle.pic_world.specs.World.{Outside, World, Happening, ReadOf, WriteOf, input_used, value_kept, arrived, is_due, entered, left, noted, device_value, after_device_read, after_device_write, sets_gie, event_as, world_as}
use Rattle.pic_world.proofs.ControlLaws.{raised_again}

-- ---- arrivals
pub arrived_again : {B : Type 0} (o : Outside) (w : World B) → arrived o (arrived o w) ≡ arrived o w
unfolding arrived
arrived_again o w = ap (λ c. record w { control = c }) (raised_again (o.schedule (length w.trace)) w.control)

pub arrived_trace : {B : Type 0} (o : Outside) (w : World B) → (arrived o w).trace ≡ w.trace
unfolding arrived
arrived_trace o w = refl

pub arrived_inside : {B : Type 0} (o : Outside) (w : World B) → (arrived o w).inside ≡ w.inside
unfolding arrived
arrived_inside o w = refl

pub arrived_taken : {B : Type 0} (o : Outside) (w : World B) → (arrived o w).taken ≡ w.taken
unfolding arrived
arrived_taken o w = refl

-- ---- one world as the next level shows it
module _ {A B : Type 0} (f : A → B) where
  pub arrived_as : (o : Outside) (w : World A) → arrived o (world_as f w) ≡ world_as f (arrived o w)
  unfolding arrived world_as
  arrived_as o w =
      ap (λ n. record { control = raised_by (o.schedule n) w.control; inside = w.inside; taken = w.taken; trace = map (event_as f) w.trace }) (length-map w.trace (event_as f))

  pub due_as : (w : World A) → is_due (world_as f w) ≡ is_due w
  unfolding is_due world_as
  due_as w = refl

  pub entered_as : (w : World A) → entered (world_as f w) ≡ world_as f (entered w)
  unfolding entered world_as
  entered_as w = refl

  pub left_as : (w : World A) → left (world_as f w) ≡ world_as f (left w)
  unfolding left world_as
  left_as w = refl

  pub noted_as : (e : Happening A) (w : World A) → noted (event_as f e) (world_as f w) ≡ world_as f (noted e w)
  unfolding world_as
  noted_as e w = ap (λ t. record { control = w.control; inside = w.inside; taken = w.taken; trace = t }) (sym (map-append (event_as f) w.trace (e ∷ [])))

  pub value_as : (o : Outside) (address : ℕ) (w : World A) → device_value o address (world_as f w) ≡ device_value o address w
  unfolding device_value world_as
  value_as o address w = refl

  pub gie_as : (address value : ℕ) (w : World A) → sets_gie address value (world_as f w) ≡ sets_gie address value w
  unfolding sets_gie world_as
  gie_as address value w = refl

  input_case : (b : Bool) (w : World A) → (if b then world_as f w else record (world_as f w) { taken = w.taken + 1 }) ≡ world_as f (if b then w else record w { taken = w.taken + 1 })
  unfolding world_as
  input_case true w = refl
  input_case false w = refl

  pub read_as : (number : ℕ → A) (o : Outside) (address : ℕ) (w : World A) → after_device_read (λ n. f (number n)) o address (world_as f w) ≡ world_as f (after_device_read number o address w)
  unfolding after_device_read device_value world_as
  read_as number o address w =
      ap (noted (ReadOf (Device address) (f (number (device_value o address w))))) (input_case (is_stored address) w)
      ∙ noted_as (ReadOf (Device address) (number (device_value o address w))) (input_used address w)

  kept_case : (b : Bool) (address value : ℕ) (w : World A) → (if b then record (world_as f w) { control = with_stored address value w.control } else world_as f w) ≡ world_as f (if b then record w { control = with_stored address value w.control } else w)
  unfolding world_as
  kept_case true address value w = refl
  kept_case false address value w = refl

  pub write_as : (number : ℕ → A) (address value : ℕ) (w : World A) → after_device_write (λ n. f (number n)) address value (world_as f w) ≡ world_as f (after_device_write number address value w)
  unfolding after_device_write world_as
  write_as number address value w =
      ap (noted (WriteOf (Device address) (f (number value)))) (kept_case (is_stored address) address value w)
      ∙ noted_as (WriteOf (Device address) (number value)) (value_kept address value w)
