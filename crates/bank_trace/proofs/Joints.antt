-- Both machines in one, and what an effect makes of them.
use Rattle.std.proofs.Common.{◌≡◌, ℕ, ◌+◌, Bool, true, false, if◌then◌else◌, [], Option, Some, None, option_map, refl, sym, ap, ◌∙◌}
use Rattle.pic_world.specs.World.{Outside, World, Ended, entered, left, noted}
use Rattle.sym_code.specs.Effect.{Thread, Memory, Write, written, Loud}
use Rattle.sym_code.specs.Machine.{Machine, Entry, Next, Goes, Stops, value_by, read_by, write_by, wrote_by, is_forbidden, checked, lands_at, running, moved, acted, at_front, with_entry, enter}
use Rattle.sym_code.specs.Programs.{Position, lands, front}
use Rattle.sym_code.specs.declared.code.BlockName.TheVariants.{Copy}
use Rattle.bank_trace.proofs.Lists.{never}
use Rattle.bank_trace.proofs.Holding.{Bits}
use Rattle.bank_trace.proofs.Banks.{bits_of}
use Rattle.flow_facts.specs.Walk.{is_open, is_open_at}
use Rattle.bank_trace.proofs.Sites.{Site, IsSound, without, with, plain_setting, banked_setting}
use Rattle.bank_trace.proofs.Places.{under, under_front, open_front, under_lands}
use Rattle.bank_trace.proofs.Twins.{Twin, plain_thread, banked_thread, FineAt, IsFineTwin, Deed, Quietly, Reading, Writing, Leaving, Ending, Resting, plain_effect, banked_effect, IsFineDeed, is_resting}

pub record Joint : Type 0 where
  pub main : Twin
  pub isr : Twin
  pub entries : ℕ
  pub memory : Memory
  pub world : World ℕ

-- each thread by f
abbrev pub machine_by : (Twin → Thread) → Joint → Machine
machine_by f j = record { main = f j.main; isr = f j.isr; entries = j.entries; memory = j.memory; world = j.world }

abbrev pub plain_machine : Site → Joint → Machine
plain_machine x j = machine_by (plain_thread x) j

abbrev pub banked_machine : Joint → Machine
banked_machine j = machine_by banked_thread j

pub record IsFineJoint (x : Site) (j : Joint) : Type 0 where
  pub main : IsFineTwin x j.main
  pub isr : IsFineTwin x j.isr

abbrev pub running_twin : Joint → Twin
running_twin j = if j.world.inside then j.isr else j.main

-- behind a step of the thread that runs
abbrev pub put : Joint → Twin → Option Write → World ℕ → Joint
put j t w v = record { main = if j.world.inside then j.main else t; isr = if j.world.inside then t else j.isr; entries = j.entries; memory = written w j.memory; world = v }

pub if_by : {A B : Type 0} (f : A → B) (c : Bool) (a b : A) → (if c then f a else f b) ≡ f (if c then a else b)
if_by f true a b = refl
if_by f false a b = refl

if_fine : (x : Site) (c : Bool) (a b : Twin) → IsFineTwin x a → IsFineTwin x b → IsFineTwin x (if c then a else b)
if_fine x true a b h k = h
if_fine x false a b h k = k

pub running_by : (f : Twin → Thread) (j : Joint) → running (machine_by f j) ≡ f (running_twin j)
running_by f j = if_by f j.world.inside j.isr j.main

pub fine_running : (x : Site) (j : Joint) → IsFineJoint x j → IsFineTwin x (running_twin j)
fine_running x j h = if_fine x j.world.inside j.isr j.main h.isr h.main

pub fine_put : (x : Site) (j : Joint) (t : Twin) (w : Option Write) (v : World ℕ) → IsFineJoint x j → IsFineTwin x t → IsFineJoint x (put j t w v)
fine_put x j t w v h k = record { main = if_fine x j.world.inside j.main t h.main k; isr = if_fine x j.world.inside t j.isr k h.isr }

pub moved_by : (f : Twin → Thread) (j : Joint) (t : Twin) (w : Option Write) (v : World ℕ) → moved (machine_by f j) (Some (record { thread = f t; write = w; world = v })) ≡ Goes (machine_by f (put j t w v))
moved_by f j t w v =
    let g : Thread → Thread → Next = λ a b. Goes (record { main = a; isr = b; entries = j.entries; memory = written w j.memory; world = v }) in
    ap (λ (a : Thread). g a (if j.world.inside then f t else f j.isr)) (if_by f j.world.inside j.main t)
    ∙ ap (g (f (if j.world.inside then j.main else t))) (if_by f j.world.inside t j.isr)

-- The code without selects stops, or both go on as one.
pub data Both (x : Site) (f g : Next) : Type 0 where
  Stopped : f ≡ Stops → Both x f g
  Went : (j : Joint) → IsFineJoint x j → f ≡ Goes (plain_machine x j) → g ≡ Goes (banked_machine j) → Both x f g

module _ (x : Site) (o : Outside) (j : Joint) (fine : IsFineJoint x j) where
  both_moved : (t : Twin) (w : Option Write) (v : World ℕ) → IsFineTwin x t → (c d : Bool) → (c ≡ true → d ≡ true)
      → Both x (moved (plain_machine x j) (if c then Some (record { thread = plain_thread x t; write = w; world = v }) else None)) (moved (banked_machine j) (if d then Some (record { thread = banked_thread t; write = w; world = v }) else None))
  both_moved t w v h false d ok = Stopped refl
  both_moved t w v h true true ok = Went (put j t w v) (fine_put x j t w v fine h) (moved_by (plain_thread x) j t w v) (moved_by banked_thread j t w v)
  both_moved t w v h true false ok = never (ok refl)

  lands_both : (at : Option Position) (b : Bits) → FineAt x at b → lands_at (without x) (option_map (under x) at) ≡ true → lands_at (with x) at ≡ true
  lands_both None b h e = e
  lands_both (Some q) b h e = under_lands x q h.settled e

  both_checked : (t : Twin) (w : Option Write) (v : World ℕ) → IsFineTwin x t
      → Both x (moved (plain_machine x j) (checked (without x) (Some (record { thread = plain_thread x t; write = w; world = v })))) (moved (banked_machine j) (checked (with x) (Some (record { thread = banked_thread t; write = w; world = v }))))
  both_checked t w v h = both_moved t w v h (lands_at (without x) (option_map (under x) t.at)) (lands_at (with x) t.at) (lands_both t.at t.bits h.at)

  both_written : (b : Loud) (v : ℕ) (t : Twin) → IsFineTwin x t → (c : Bool)
      → Both x
      (moved (plain_machine x j) (checked (without x) (if c then None else Some (record { thread = plain_thread x t; write = write_by b v; world = wrote_by j.world b v }))))
      (moved (banked_machine j) (checked (with x) (if c then None else Some (record { thread = banked_thread t; write = write_by b v; world = wrote_by j.world b v }))))
  both_written b v t h true = Stopped refl
  both_written b v t h false = both_checked t (write_by b v) (wrote_by j.world b v) h

  pub both_acted : (d : Deed) → IsFineDeed x d → is_resting d ≡ false → Both x (acted (plain_setting x) o (plain_machine x j) (plain_effect x d)) (acted (banked_setting x) o (banked_machine j) (banked_effect d))
  unfolding acted
  both_acted (Quietly t w) h e = both_checked t w j.world h
  both_acted (Reading b next) h e = both_checked (next (value_by o j.memory j.world b)) None (read_by o j.memory j.world b) (h (value_by o j.memory j.world b))
  both_acted (Writing b v t) h e = both_written b v t h (is_forbidden j.world b v)
  both_acted Leaving h e = Went (record j { world = left j.world }) (record { main = fine.main; isr = fine.isr }) refl refl
  both_acted (Ending t) h e = Went (record j { main = t; world = noted Ended j.world }) (record { main = h; isr = fine.isr }) refl refl
  both_acted Resting h e = never (sym e)

  -- ---- entries
  module _ (e : Entry) where
    abbrev begun : ℕ → Twin
    begun copy = record { rest = None; at = Some (front (with x) (Copy copy)); stack = []; registers = e j.entries; bits = bits_of (e j.entries) }

    module _ (sound : IsSound x) where
      fine_begun : (copy : ℕ) → is_open x.facts copy ≡ true → IsFineTwin x (begun copy)
      fine_begun copy is = record { at = (open_front x sound copy (bits_of (e j.entries)) is).fine; stack = tt }

      both_in : (copy : ℕ) → is_open x.facts copy ≡ true → (c d : Bool) → (c ≡ true → d ≡ true)
          → Both x (if c then Goes (with_entry (at_front (without x) copy (e j.entries)) (plain_machine x j)) else Stops) (if d then Goes (with_entry (at_front (with x) copy (e j.entries)) (banked_machine j)) else Stops)
      both_in copy is false d ok = Stopped refl
      both_in copy is true true ok =
          Went (record { main = j.main; isr = begun copy; entries = j.entries + 1; memory = j.memory; world = entered j.world }) (record { main = fine.main; isr = fine_begun copy is })
          (let g : Position → Next = λ p. Goes (with_entry (record { rest = None; at = Some p; stack = []; registers = e j.entries }) (plain_machine x j)) in ap g (under_front x (Copy copy)))
          refl
      both_in copy is true false ok = never (ok refl)

      pub both_enter : (handler : Option ℕ) → is_open_at x.facts handler ≡ true → Both x (enter (plain_setting x) e handler (plain_machine x j)) (enter (banked_setting x) e handler (banked_machine j))
      both_enter None is = Stopped refl
      both_enter (Some copy) is =
          both_in copy is (lands (without x) (front (without x) (Copy copy))) (lands (with x) (front (with x) (Copy copy)))
          (λ c. under_lands x (front (with x) (Copy copy)) (open_front x sound copy (bits_of (e j.entries)) is).fine.settled (ap (lands (without x)) (sym (under_front x (Copy copy))) ∙ c))
