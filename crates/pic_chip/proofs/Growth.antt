-- How an instruction's counts grow.
use Rattle.std.proofs.Common.{◌≡◌, ℕ, ◌+◌, ◌*◌, ◌/◌, ◌%◌, ◌^◌, ◌≤◌, ◌<◌, Bool, true, false, refl, ap, ◌∙◌, arith}
use Rattle.pic_chip.specs.declared.processor.Flags.{Flags}
use Rattle.pic_chip.specs.declared.processor.Flags.TheVariants.{Keep, OnlyZ, OnlyC, Sums}
use Rattle.pic_chip.specs.State.{State}
use Rattle.pic_chip.specs.Address.{Place, Status, Device}
use Rattle.pic_world.specs.Bits.{bit}
use Rattle.pic_chip.specs.Changes.{Grows, stored, after_reading, flagged, keeps_flags, finished, row_done}

-- the counts are the same
abbrev pub Kept : State → State → Type 0
Kept s t = (t.pushes ≡ s.pushes) × (t.pops ≡ s.pops) × (t.taken ≡ s.taken)

flags_kept : (fl : Flags) (v : ℕ) (s : State) → Kept s (flagged fl v s)
flags_kept Keep v s = (refl, refl, refl)
flags_kept OnlyZ v s = (refl, refl, refl)
flags_kept (OnlyC c) v s = (refl, refl, refl)
flags_kept (Sums c dc) v s = (refl, refl, refl)

store_kept : (plain : Bool) (p : Place) (v : ℕ) (s : State) → Kept s (stored plain p v s)
store_kept true Status v s = (refl, refl, refl)
store_kept false Status v s = (refl, refl, refl)
store_kept plain _ v s = (refl, refl, refl)

pub finished_kept : (p : Place) (d : Bool) (v : ℕ) (fl : Flags) (s : State) → Kept s (finished p d v fl s)
finished_kept p true v fl s =
    let a = flags_kept fl v (stored (keeps_flags fl) p v s) in
    let b = store_kept (keeps_flags fl) p v s in
    (a.0 ∙ b.0, a.1 ∙ b.1, a.2 ∙ b.2)
finished_kept p false v fl s = flags_kept fl v (record s { w = v })

one_bit : (x : ℕ) → bit x 7 ≤ 1
one_bit x = omega arith

pub grows_from : (s t : State) → t.pushes ≡ s.pushes → t.pops ≡ s.pops → t.taken ≤ s.taken + 1 → Grows s t
grows_from s t a b c =
    let x = bit t.intcon 7 in
    let y = bit s.intcon 7 in
    let hx : x ≤ 1 = one_bit t.intcon in
    record { pushes = omega arith; pops = omega arith; taken = c }

reading_kept : (p : Place) (s : State) → ((after_reading p s).pushes ≡ s.pushes) × ((after_reading p s).pops ≡ s.pops) × ((after_reading p s).taken ≤ s.taken + 1)
reading_kept (Device a) s = (refl, refl, omega arith)
reading_kept _ s = (refl, refl, omega arith)

pub row_grows : (n : ℕ) (p : Place) (d : Bool) (v : ℕ) (fl : Flags) (s : State) → Grows s (row_done n p d v fl s)
row_grows n p d v fl s =
    let t : State = record s { pc = n } in
    let a = finished_kept p d v fl (after_reading p t) in
    let b = reading_kept p t in
    let a2 = a.2 in
    let b2 = b.2 in
    grows_from s (row_done n p d v fl s) (a.0 ∙ b.0) (a.1 ∙ b.1) (omega arith)
