-- The second chip as a member of the family: its lockstep.
use Rattle.std.proofs.Common.{◌≡◌, ℕ, zero, suc, ◌+◌, ◌-◌, ◌/◌, ◌%◌, ◌<◌, ◌≤◌, ◌⊎◌, inl, inr, ⊎_elim, Bool, true, false, List, [], ◌∷◌, Option, None, refl, sym, ap, ◌∙◌, subst, arith}
use Rattle.std.specs.Prelude.{if◌then◌else◌, nat_eq, nat_lt, nat_le, not, ◌&&◌, ◌||◌, slice_index}
use Rattle.std.proofs.lemmas.Bool.{ltb-true, lt-ltb, leb-true, le-leb}
use Rattle.pic_isa.specs.declared.Ins.{Ins}
use Rattle.pic_world.specs.Arrivals.{arriving}
use Rattle.pic_chip.specs.Address.{Place, Pcl, Status, Fsr, Pclath, Intcon, Pir1, Pie1, General, Device, Nothing, address_of}
use Rattle.pic_chip.specs.Instructions.{is_modelled}
use Rattle.pic_chip.specs.Interrupts as chip
use Rattle.pic_chip.specs.Run as chip_run
use Rattle.pic_chip.specs.Run.{Moment, object_at, moment as first_moment_at}
use Rattle.pic_chip.specs.State as chip_state
use Rattle.pic_chip.specs.State.{State}
use Rattle.chip_84a.specs.Family as family
use Rattle.chip_84a.specs.Family.{ShareBytes, StaysNear, BeginAlike, has, moment_by}
use Rattle.chip_84a.specs.Lockstep.{IsNear, SameBytes, is_shared, place_of, twin, AreAlike, Lockstep}
use Rattle.chip_84a.specs.Machine.{room, reset}
use Rattle.chip_84a.specs.Members.{pic16f84a}
use Rattle.chip_84a.specs.Port.{low, ported_row}
use Rattle.chip_84a.specs.Run as run
use Rattle.chip_84a.specs.Run.{Setting, moment as second_moment_at}
use Rattle.chip_84a.proofs.Members.{second_fits}
use Rattle.chip_84a.proofs.Places.{and_left, and_right}
use Rattle.chip_84a.proofs.Shown.{small_address}
use Rattle.chip_84a.proofs.Together as together
use Rattle.chip_84a.proofs.Together.{keeps_step, modelled_by}

pub handling_twin : (mask : ℕ) (m : Moment) (ram : List ℕ) → m.state.pie1 ≡ 0 → run.is_handling mask (record m { state = twin m.state ram }) ≡ chip_run.is_handling mask m
handling_twin mask m ram quiet = together.handling_by false mask m ram (λ off. quiet)

pub modelled_twin : (o : Option Ins) → is_modelled (ported_row o) ≡ is_modelled o
modelled_twin o = modelled_by low o

-- ---- its runs are those of the member
general : Setting → family.Setting
general h = record { image = h.image; watch = h.watch; reset = reset h.start; inputs = h.inputs; arrivals = h.arrivals }

same_moment : (h : Setting) (n : ℕ) → second_moment_at h n ≡ moment_by pic16f84a (general h) n
unfolding second_moment_at moment_by general
same_moment h zero = refl
same_moment h (suc n) = ap (λ m. run.next_moment h.image h.inputs h.watch (arriving h.arrivals n) m) (same_moment h n)

-- ---- bytes
both : (a b : Bool) → a ≡ true → b ≡ true → (a && b) ≡ true
both true b e f = f
both false b e f = absurd (cc)

either : (a b : Bool) → (a || b) ≡ true → (a ≡ true) ⊎ (b ≡ true)
either true b e = inl refl
either false b e = inr e

-- a byte that both have stands below 48, or from 80 to 95
which : (k : ℕ) → family.shared_byte pic16f84a k ≡ true → (k < 48) ⊎ ((80 ≤ k) × (k < 96))
which k e =
    ⊎_elim (λ l. inl (ltb-true k 48 l)) (λ h. inr (leb-true 80 k (and_left _ _ h), ltb-true k 96 (and_right (nat_le 80 k) _ h)))
    (either (nat_lt k 48) (nat_le 80 k && nat_lt k 96) e)

byte_low : (k : ℕ) → k < 48 → pic16f84a.byte k ≡ k + 20
byte_low k lt = ap (λ b. if b then k + 20 else k - 80) (lt-ltb k 48 lt)

byte_high : (k : ℕ) → 80 ≤ k → pic16f84a.byte k ≡ k - 80
byte_high k le = by (nat_lt k 48) refl where
  by : (b : Bool) → nat_lt k 48 ≡ b → (if b then k + 20 else k - 80) ≡ k - 80
  by true e = absurd (let z = ltb-true k 48 e in omega (arith, z, le))
  by false e = refl

share : (ram ram' : List ℕ) → SameBytes ram ram' → ShareBytes pic16f84a ram ram'
share ram ram' b = record {
  count = b.count;
  second_count = b.second_count;
  same = λ k lt shared.
      ⊎_elim (λ l. ap (λ j. slice_index ram' j) (byte_low k l) ∙ b.low k l)
      (λ h.
      let le = h.0 in let up = h.1 in
      ap (λ j. slice_index ram' j) (byte_high k le) ∙ b.common (k - 80) (omega (arith, le, up)) ∙ ap (slice_index ram) (let z : k - 80 + 80 ≡ k = omega (arith, le) in z))
      (which k shared);
}

unshare : (ram ram' : List ℕ) → ShareBytes pic16f84a ram ram' → SameBytes ram ram'
unshare ram ram' b = record {
  count = b.count;
  second_count = b.second_count;
  low = λ k lt. sym (ap (λ j. slice_index ram' j) (byte_low k lt)) ∙ b.same k (omega (arith, lt)) (first (nat_lt k 48) (nat_le 80 k && nat_lt k 96) (lt-ltb k 48 lt));
  common = λ k lt.
      let j = k + 80 in
      let e : j - 80 ≡ k = omega arith in
      ap (λ i. slice_index ram' i) (sym e) ∙ sym (ap (λ i. slice_index ram' i) (byte_high j (omega arith)))
      ∙ b.same j (omega (arith, lt)) (second (nat_lt j 48) (nat_le 80 j && nat_lt j 96) (both _ _ (le-leb 80 j (omega arith)) (lt-ltb j 96 (omega (arith, lt)))));
} where
  first : (a b : Bool) → a ≡ true → (a || b) ≡ true
  first true b e = refl
  first false b e = absurd (cc)

  second : (a b : Bool) → b ≡ true → (a || b) ≡ true
  second true b e = refl
  second false b e = e

-- ---- what both have
has_it : (direct : Bool) (p : Place) → is_shared direct p ≡ true → has pic16f84a direct p ≡ true
has_it direct (General k) e = both (nat_lt k 368) _ (lt-ltb k 368 (below k direct e)) e where
  below : (k : ℕ) (direct : Bool) → (nat_lt k 48 || (direct && (nat_le 80 k && nat_lt k 96))) ≡ true → k < 368
  below k direct e =
      ⊎_elim (λ l. let z = ltb-true k 48 l in omega (arith, z)) (λ h. let z = ltb-true k 96 (and_right (nat_le 80 k) _ (and_right direct _ h)) in omega (arith, z))
      (either (nat_lt k 48) (direct && (nat_le 80 k && nat_lt k 96)) e)
has_it direct (Device a) e = let z = small_address a e in both (nat_lt a 512) _ (lt-ltb a 512 (omega (arith, z))) e
has_it direct Pcl e = refl
has_it direct Status e = refl
has_it direct Fsr e = refl
has_it direct Pclath e = refl
has_it direct Intcon e = refl
has_it direct Pir1 e = e
has_it direct Pie1 e = e
has_it direct Nothing e = e

near_it : (image : List ℕ) (s : State) → IsNear image s → StaysNear pic16f84a image s
near_it image s n = record {
  pc = n.pc;
  bank = n.bank;
  fsr = n.fsr;
  operand = λ i f row file. let o = n.operand i f row file in (o.0, has_it (not (nat_eq f 0)) (place_of s f) o.1);
}

-- ---- both runs
module _ (g : chip_run.Setting) (h : Setting) (alike : AreAlike g h) where
  first_state : reset h.start ≡ twin (chip_state.reset g.start) (room h.start.ram)
  first_state = λ i. record {
    w = alike.w i;
    pc = 0;
    bank = 0;
    z = alike.flags i / 4 % 2;
    dc = alike.flags i / 2 % 2;
    c = alike.flags i % 2;
    fsr = alike.fsr i;
    pclath = 0;
    intcon = 0;
    pir1 = 0;
    pie1 = 0;
    ram = room h.start.ram;
    stack = 0 ∷ 0 ∷ 0 ∷ 0 ∷ 0 ∷ 0 ∷ 0 ∷ 0 ∷ [];
    pushes = 0;
    pops = 0;
    taken = 0;
  }

  -- where an access shows nothing there is no object
  clear_it : (k : ℕ) → k < 368 → family.shared_byte pic16f84a k ≡ true → pic16f84a.hides (pic16f84a.lowest (pic16f84a.byte k)) ≡ true → object_at g.watch.ranges 0 (address_of k) ≡ None
  clear_it k lt shared hidden =
      ⊎_elim
      (λ l.
      let e : k + 20 + 12 ≡ k + 32 = omega arith in
      let z = ltb-true (k + 32) 0x20 (and_right (nat_le 0x0c (k + 32)) _ (subst (λ a. pic16f84a.hides a ≡ true) (ap (λ q. q + 12) (byte_low k l) ∙ e) hidden)) in
      absurd (omega (arith, z)))
      (λ r.
      let le = r.0 in let up = r.1 in
      let a : address_of k ≡ k + 0x20 = ap (λ b. if b then k + 0x20 else (if nat_lt k 176 then k + 0x40 else if nat_lt k 272 then k + 0x60 else k + 0x80)) (lt-ltb k 96 up) in
      let e : k + 32 ≡ k - 80 + 112 = omega (arith, le) in
      ap (object_at g.watch.ranges 0) (a ∙ e) ∙ alike.clear (k - 80) (omega (arith, le, up)))
      (which k shared)

  begin_alike : BeginAlike pic16f84a g (general h)
  unfolding general
  begin_alike = record {
    image = alike.image;
    watch = alike.watch;
    inputs = alike.inputs;
    arrivals = alike.arrivals;
    ram = room h.start.ram;
    bytes = share g.start.ram (room h.start.ram) alike.ram;
    reset = first_state;
    clear = clear_it;
  }

pub lockstep : Lockstep
lockstep g h alike n near =
    let x = keeps_step pic16f84a second_fits g (general h) (begin_alike g h alike) n (λ k lt. near_it g.image (chip.begun (arriving g.arrivals k) (first_moment_at g k).state) (near k lt)) in
    let e = same_moment h n in
    record {
      bytes = subst (λ (b : Moment). SameBytes (first_moment_at g n).state.ram b.state.ram) (sym e) (unshare (first_moment_at g n).state.ram (moment_by pic16f84a (general h) n).state.ram x.bytes);
      quiet = x.quiet refl;
      same = subst (λ (b : Moment). b ≡ record (first_moment_at g n) { state = twin (first_moment_at g n).state b.state.ram }) (sym e) x.same;
    }
