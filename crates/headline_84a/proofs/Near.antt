-- An image that keeps within what both chips have: each of its instructions is near.
use Rattle.std.proofs.Common.{◌≡◌, ℕ, zero, suc, ◌+◌, ◌<◌, ◌≤◌, ◌⊎◌, inl, inr, Bool, true, false, List, [], ◌∷◌, ◌++◌, refl, sym, subst, ⊎_elim, arith}
use Rattle.std.specs.Prelude.{if◌then◌else◌, nat_eq, nat_lt, nat_le, not, ◌&&◌, ◌||◌, slice_index, Contains}
use Rattle.std.proofs.lemmas.Bool.{leb-true, le-leb, ltb-true, ltb-false, lt-ltb}
use Rattle.pic_world.specs.Arrivals.{arriving}
use Rattle.pic_world.specs.Control.{is_due}
use Rattle.pic_world.specs.declared.Event.TheVariants as events
use Rattle.pic_chip.specs.Act.{perform}
use Rattle.pic_chip.specs.Address.{Place, Pcl, Status, Fsr, Pclath, Intcon, Pir1, Pie1, General, Device, Nothing, address_of}
use Rattle.pic_chip.specs.Interrupts.{begun, raised, enter, control_of}
use Rattle.pic_chip.specs.Run.{IsStart, Watch, Moment, Setting, observed, stepped, ends_at, moment}
use Rattle.pic_chip.specs.SmallAddress.{is_small_register}
use Rattle.pic_chip.specs.State.{State, reset}
use Rattle.pic_chip.proofs.Ranges.{IsRanged, executed_ranged, raised_ranged, entered_ranged}
use Rattle.pic_map.specs.MapContent.{ObjectLine, FrameLine, MapContent}
use Rattle.live_frames.specs.Memory.{covers}
use Rattle.ram_place.specs.Placement.{objects_have, frames_have}
use Rattle.chip_84a.specs.Lockstep.{IsNear, is_shared, place_of}
use Rattle.headline.specs.Keeps.{is_mapped, IsNearMap, Touches, KeepsTo}
use Rattle.headline_84a.specs.Second.{IsLow, IsLowMap}

-- ---- each register stays within its size
observed_state : (w : Watch) (m : Moment) → (observed w m).state ≡ m.state
observed_state w m = by m.met where
  ended : (b : Bool) → (if b then record m { ended = true; trace = m.trace ++ events.End ∷ [] } else m).state ≡ m.state
  ended true = refl
  ended false = refl

  by : (b : Bool) → (if b then (if nat_eq m.state.pc w.halt && not m.ended then record m { ended = true; trace = m.trace ++ events.End ∷ [] } else m) else record m { met = nat_eq m.state.pc w.main }).state ≡ m.state
  by true = ended (nat_eq m.state.pc w.halt && not m.ended)
  by false = refl

module _ (inputs : List ℕ) (small : (k : ℕ) → slice_index inputs k < 256) where
  begun_ranged : (mask : ℕ) (s : State) → IsRanged s → IsRanged (begun mask s)
  begun_ranged mask s x = by (is_due (control_of (raised mask s))) (raised_ranged inputs small s x mask) where
    by : (b : Bool) → IsRanged (raised mask s) → IsRanged (if b then perform enter (raised mask s) else raised mask s)
    by true y = entered_ranged inputs small (raised mask s) y
    by false y = y

reset_ranged : (g : Setting) → IsStart g.start → IsRanged (reset g.start)
reset_ranged g x = record {
  w = x.w;
  bank = omega arith;
  z = omega arith;
  dc = omega arith;
  c = omega arith;
  fsr = x.fsr;
  pclath = omega arith;
  intcon = omega arith;
  pir1 = omega arith;
  pie1 = omega arith;
  bytes = x.bytes;
  count = x.count;
  stack = refl;
}

module _ (g : Setting) (start : IsStart g.start) (small : (k : ℕ) → slice_index g.inputs k < 256) where
  abbrev at_reset : Moment
  at_reset = record { state = reset g.start; stopped = false; handling = false; met = false; ended = false; early = []; trace = [] }

  ranged : (n : ℕ) → IsRanged (moment g n).state
  unfolding moment
  ranged zero = subst IsRanged (sym (observed_state g.watch at_reset)) (reset_ranged g start)
  ranged (suc n) = by (ends_at g.image (arriving g.arrivals n) (moment g n)) (ranged n) where
    by : (b : Bool) → IsRanged (moment g n).state
        → IsRanged (if b then record (moment g n) { stopped = true } else observed g.watch (stepped g.image g.inputs g.watch.ranges (arriving g.arrivals n) (moment g n))).state
    by true x = x
    by false x =
        subst IsRanged (sym (observed_state g.watch (stepped g.image g.inputs g.watch.ranges (arriving g.arrivals n) (moment g n))))
        (executed_ranged g.inputs small (begun (arriving g.arrivals n) (moment g n).state) (begun_ranged g.inputs small (arriving g.arrivals n) (moment g n).state x) g.image)

  pub now_ranged : (n : ℕ) → IsRanged (begun (arriving g.arrivals n) (moment g n).state)
  now_ranged n = begun_ranged g.inputs small (arriving g.arrivals n) (moment g n).state (ranged n)

-- ---- addresses of a low map
not_both : (a b : Bool) → (a || b) ≡ true → (a ≡ true) ⊎ (b ≡ true)
not_both true b e = inl refl
not_both false b e = inr e

covered : (address size x : ℕ) → covers address size x ≡ true → (address ≤ x) × (x < address + size)
covered address size x e = by (nat_le address x) (nat_lt x (address + size)) refl refl e where
  by : (a b : Bool) → nat_le address x ≡ a → nat_lt x (address + size) ≡ b → (a && b) ≡ true → (address ≤ x) × (x < address + size)
  by true true p q e = (leb-true address x p, ltb-true x (address + size) q)
  by true false p q e = absurd (cc)
  by false b p q e = absurd (cc)

lies : (address size x : ℕ) → IsLow address size → covers address size x ≡ true → (0x20 ≤ x) × (x < 0x50)
lies address size x low e = let c = covered address size x e in let a = c.0 in let b = c.1 in let p = low.0 in let q = low.1 in (omega (arith, a, p), omega (arith, b, q))

pub later : {T : Type 0} (line l : T) (rest : List T) → Contains rest l → Contains (line ∷ rest) l
later line l rest h = let lt = h.1 in (suc h.0, omega (arith, lt), h.2)

pub here : {T : Type 0} (line : T) (rest : List T) → Contains (line ∷ rest) line
here line rest = (0, omega arith, refl)

objects_low : (lines : List ObjectLine) (x : ℕ) → ((line : ObjectLine) → Contains lines line → IsLow line.address line.size) → objects_have lines x ≡ true → (0x20 ≤ x) × (x < 0x50)
objects_low [] x low e = absurd (cc)
objects_low (line ∷ rest) x low e =
    ⊎_elim (λ h. lies line.address line.size x (low line (here line rest)) h) (λ h. objects_low rest x (λ l is. low l (later line l rest is)) h)
    (not_both (covers line.address line.size x) (objects_have rest x) e)

frames_low : (lines : List FrameLine) (x : ℕ) → ((line : FrameLine) → Contains lines line → IsLow line.address line.size) → frames_have lines x ≡ true → (0x20 ≤ x) × (x < 0x50)
frames_low [] x low e = absurd (cc)
frames_low (line ∷ rest) x low e =
    ⊎_elim (λ h. lies line.address line.size x (low line (here line rest)) h) (λ h. frames_low rest x (λ l is. low l (later line l rest is)) h)
    (not_both (covers line.address line.size x) (frames_have rest x) e)

mapped_low : (content : MapContent) → IsLowMap content → (x : ℕ) → is_mapped content x ≡ true → (0x20 ≤ x) × (x < 0x50)
mapped_low content low x e =
    ⊎_elim (λ h. objects_low content.objects x low.objects h) (λ h. frames_low content.frames x low.frames h) (not_both (objects_have content.objects x) (frames_have content.frames x) e)

near_map : (content : MapContent) → IsLowMap content → IsNearMap content
near_map content low x e = let a = mapped_low content low x e in let b = a.1 in omega (arith, b)

-- ---- general bytes by their lowest addresses
low_number : (k : ℕ) → 0x20 ≤ address_of k → address_of k < 0x50 → k < 48
low_number k = by (nat_lt k 96) (nat_lt k 176) (nat_lt k 272) refl refl refl where
  by : (a b c : Bool) → nat_lt k 96 ≡ a → nat_lt k 176 ≡ b → nat_lt k 272 ≡ c → 0x20 ≤ (if a then k + 0x20 else if b then k + 0x40 else if c then k + 0x60 else k + 0x80)
      → (if a then k + 0x20 else if b then k + 0x40 else if c then k + 0x60 else k + 0x80) < 0x50 → k < 48
  by true b c p q r le lt = omega (arith, lt)
  by false true c p q r le lt = let z = ltb-false k 96 p in absurd (omega (arith, z, lt))
  by false false true p q r le lt = let z = ltb-false k 96 p in absurd (omega (arith, z, lt))
  by false false false p q r le lt = let z = ltb-false k 96 p in absurd (omega (arith, z, lt))

common_number : (k : ℕ) → 0x70 ≤ address_of k → address_of k < 0x80 → (80 ≤ k) × (k < 96)
common_number k = by (nat_lt k 96) (nat_lt k 176) (nat_lt k 272) refl refl refl where
  by : (a b c : Bool) → nat_lt k 96 ≡ a → nat_lt k 176 ≡ b → nat_lt k 272 ≡ c → 0x70 ≤ (if a then k + 0x20 else if b then k + 0x40 else if c then k + 0x60 else k + 0x80)
      → (if a then k + 0x20 else if b then k + 0x40 else if c then k + 0x60 else k + 0x80) < 0x80 → (80 ≤ k) × (k < 96)
  by true b c p q r le lt = (omega (arith, le), omega (arith, lt))
  by false true c p q r le lt = let z = ltb-false k 96 p in absurd (omega (arith, z, lt))
  by false false true p q r le lt = let z = ltb-false k 96 p in absurd (omega (arith, z, lt))
  by false false false p q r le lt = let z = ltb-false k 96 p in absurd (omega (arith, z, lt))

-- ---- one instruction
off : (b : Bool) → b ≡ true → b ≡ false → ⊥
off true e f = cc
off false e f = cc

module _ (content : MapContent) (named : ℕ → Bool) (low : IsLowMap content) (registers : (address : ℕ) → named address ≡ true → is_small_register address ≡ true) where
  general_shared : (direct : Bool) (k : ℕ) → Touches content named direct (General k) → is_shared direct (General k) ≡ true
  general_shared direct k =
      ⊎_elim
      (λ e. let a = mapped_low content low (address_of k) e in first (nat_lt k 48) (direct && (nat_le 80 k && nat_lt k 96)) (lt-ltb k 48 (low_number k a.0 a.1)))
      (λ h. let a = common_number k h.1 h.2 in second (nat_lt k 48) direct (nat_le 80 k) (nat_lt k 96) h.0 (le-leb 80 k a.0) (lt-ltb k 96 a.1)) where
        first : (a b : Bool) → a ≡ true → (a || b) ≡ true
        first true b e = refl
        first false b e = absurd (cc)

        second : (a b c d : Bool) → b ≡ true → c ≡ true → d ≡ true → (a || (b && (c && d))) ≡ true
        second true b c d e f g = refl
        second false true true true e f g = refl
        second false false c d e f g = absurd (cc)
        second false true false d e f g = absurd (cc)
        second false true true false e f g = absurd (cc)

  shared : (direct : Bool) (p : Place) → Touches content named direct p → is_shared direct p ≡ true
  shared direct (General k) t = general_shared direct k t
  shared direct (Device address) t = registers address t
  shared direct Pcl t = refl
  shared direct Status t = refl
  shared direct Fsr t = refl
  shared direct Pclath t = refl
  shared direct Intcon t = refl
  shared direct Pir1 t = absurd (off (is_small_register 0x0c) (registers 0x0c t) refl)
  shared direct Pie1 t = absurd (off (is_small_register 0x8c) (registers 0x8c t) refl)
  shared direct Nothing t = absurd t

  pub near : (end : ℕ) (image : List ℕ) (s : State) → end ≤ 1024 → s.fsr < 256 → KeepsTo content named end image s → IsNear image s
  near end image s words fsr k = record {
    pc = let p = k.pc in omega (arith, p, words);
    bank = k.near (near_map content low);
    fsr = fsr;
    operand = λ i f row file. let t = k.touches i f row file in (t.0, shared (not (nat_eq f 0)) (place_of s f) t.1);
  }
