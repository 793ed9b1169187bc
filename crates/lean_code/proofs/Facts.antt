-- What is said stays true.
use Rattle.std.proofs.Common.{◌≡◌, ℕ, Bool, true, false, not, if◌then◌else◌, Option, Some, None, refl, sym, ap, ◌∙◌, subst}
use Rattle.std.specs.Prelude.{nat_eq, ◌<◌, ◌||◌}
use Rattle.std.proofs.lemmas.Bool.{eqb-true}
use Rattle.std.proofs.lemmas.Option.{none-some}
use Rattle.pic_world.specs.Bits.{truth}
use Rattle.pic_world.specs.declared.Root.TheVariants.{Main, Isr}
use Rattle.sym_code.specs.Effect.{Memory, with_byte}
use Rattle.sym_code.specs.Layout.{Owner, Watched, Constant, Of, Nobody}
use Rattle.sym_code.specs.Registers.{Registers, result_with, flags_with}
use Rattle.sym_code.specs.declared.code.FileOperation.{FileOperation}
use Rattle.sym_code.specs.declared.code.FileOperation.TheVariants as files
use Rattle.lean_code.specs.Rows.{Facts, Apart}
use Rattle.lean_code.specs.Changes.{Flags, is_number, Holds, Alike, Weaker, CoversFlags, Aim, ToByte, Through, is_own, is_near, lost, without_zero, without_w, moved, number_at, with_bits, with_number, worked_by, worked, after_to_w, learned, stored, flags_in, leaves_w}
use Rattle.lean_code.proofs.Lists.{never}
use Rattle.lean_code.specs.Computed.{computed}
use Rattle.lean_code.proofs.Alike.{move_is, flags_w}
use Rattle.lean_code.proofs.Bits.{truth_small, carry_stays, zero_stays_bit, carry_set, zero_set}
use Rattle.lean_code.proofs.Computing.{Says, computed_is, left_is, left_sets, zero_is}

pub some_is : (n k : ℕ) → Some n ≡ Some k → n ≡ k
some_is n k e = cc

-- ---- weaker facts
pub weaker_holds : (f k : Facts) (r : Registers) (m : Memory) → Weaker f k → Holds k r m → Holds f r m
weaker_holds f k r m w x = record { number = λ n e. x.number n (w.number n e); held = λ a e. x.held a (w.held a e); zero = λ e. x.zero (w.zero e); known = λ a n e. x.known a n (w.known a n e); twin = λ a b e. x.twin a b (w.twin a b e); carry_bit = λ e. x.carry_bit (w.carry_bit e); zero_bit = λ e. x.zero_bit (w.zero_bit e) }

pub covers_alike : (b d : Apart) (r s : Registers) → CoversFlags b d → Alike d r s → Alike b r s
covers_alike b d r s v x = record { w = λ e. x.w (v.w e); z = λ e. x.z (v.z e); dc = λ e. x.dc (v.dc e); c = λ e. x.c (v.c e); fsr = x.fsr; irp = x.irp }

pub weaker_same : (f : Facts) → Weaker f f
weaker_same f = record { number = λ n e. e; held = λ a e. e; zero = λ e. e; known = λ a n e. e; twin = λ a b e. e; carry_bit = λ e. e; zero_bit = λ e. e }

-- ---- owners
pub near_other : (inside : Bool) (o : Owner) → is_near inside o ≡ true → is_own (not inside) o ≡ false
near_other inside (Watched cell) e = refl
near_other inside Constant e = refl
near_other false (Of Main) e = refl
near_other true (Of Main) e = never e
near_other false (Of Isr) e = never e
near_other true (Of Isr) e = refl
near_other inside Nobody e = refl

pub own_near : (inside : Bool) (o : Owner) → is_own inside o ≡ true → is_near inside o ≡ true
own_near inside (Watched cell) e = e
own_near inside Constant e = refl
own_near inside (Of Main) e = e
own_near inside (Of Isr) e = e
own_near inside Nobody e = e

pub own_other : (inside : Bool) (o : Owner) → is_own inside o ≡ true → is_near (not inside) o ≡ false
own_other inside (Watched cell) e = never e
own_other inside Constant e = never e
own_other false (Of Main) e = refl
own_other true (Of Main) e = never e
own_other false (Of Isr) e = never e
own_other true (Of Isr) e = refl
own_other inside Nobody e = never e

pub not_false : (c : Bool) → (c ≡ true → false ≡ true) → c ≡ false
not_false true f = never (f refl)
not_false false f = refl

pub number_of : (o : Option ℕ) (n : ℕ) → is_number o n ≡ true → o ≡ Some n
number_of None n e = never e
number_of (Some k) n e = ap (λ (i : ℕ). Some i) (eqb-true k n e)

-- flags that are said to be 0 or 1 are
abbrev pub AreBits : Facts → Registers → Type 0
AreBits f s = (f.carry_bit ≡ true → s.c < 2) × (f.zero_bit ≡ true → s.z < 2)

-- so are those that an instruction writes
pub bits_hold : (g : Flags) (h : Facts) (t : Registers) (m : Memory) → (g.c ≡ true → t.c < 2) → (g.z ≡ true → t.z < 2) → Holds h t m → Holds (with_bits g h) t m
bits_hold g h t m c z x = record { number = x.number; held = x.held; zero = x.zero; known = x.known; twin = x.twin; carry_bit = λ e. either g.c h.carry_bit t.c c x.carry_bit e; zero_bit = λ e. either g.z h.zero_bit t.z z x.zero_bit e }
  where
    either : (a b : Bool) (v : ℕ) → (a ≡ true → v < 2) → (b ≡ true → v < 2) → (a || b) ≡ true → v < 2
    either true b v p q e = p refl
    either false b v p q e = q e

module _ (f : Facts) (r : Registers) (m : Memory) (x : Holds f r m) where
  -- ---- other registers
  pub lose_zero : (s : Registers) → s.w ≡ r.w → AreBits f s → Holds (without_zero f) s m
  lose_zero s is bits = record { number = λ n e. is ∙ x.number n e; held = λ a e. is ∙ x.held a e; zero = λ e. never e; known = x.known; twin = x.twin; carry_bit = bits.0; zero_bit = bits.1 }

  pub lose_w : (s : Registers) → AreBits f s → Holds (without_w f) s m
  lose_w s bits = record { number = λ n e. absurd (none-some n e); held = λ a e. never e; zero = λ e. never e; known = x.known; twin = x.twin; carry_bit = bits.0; zero_bit = bits.1 }

  -- registers in which W, Z and C are the same
  pub keep_all : (s : Registers) → s.w ≡ r.w → s.z ≡ r.z → s.c ≡ r.c → Holds f s m
  keep_all s is z c = record {
    number = λ n e. is ∙ x.number n e;
    held = λ a e. is ∙ x.held a e;
    zero = λ e. z ∙ x.zero e ∙ ap (λ (n : ℕ). truth (nat_eq n 0)) (sym is);
    known = x.known;
    twin = x.twin;
    carry_bit = λ e. subst (λ (n : ℕ). n < 2) (sym c) (x.carry_bit e);
    zero_bit = λ e. subst (λ (n : ℕ). n < 2) (sym z) (x.zero_bit e);
  }

  pub flags_bits : (op : FileOperation) (v : ℕ) → AreBits f (flags_with r op v)
  flags_bits op v = (λ e. carry_stays op r v (x.carry_bit e), λ e. zero_stays_bit op r v (x.zero_bit e))

  -- W and Z are those of a number that is read
  move_held : (k b v : ℕ) → v ≡ m k → (c : Bool) → nat_eq b k ≡ c → (if c then true else f.twin k b) ≡ true → v ≡ m b
  move_held k b v same true is e = same ∙ ap m (sym (eqb-true b k is))
  move_held k b v same false is e = same ∙ x.twin k b e

  move_holds : (a : Aim) (v : ℕ) → ((k : ℕ) → a ≡ ToByte k → v ≡ m k) → Holds (moved a f) (record r { w = v; z = truth (nat_eq v 0) }) m
  move_holds (ToByte k) v same = record { number = λ n e. same k refl ∙ x.known k n e; held = λ b e. move_held k b v (same k refl) (nat_eq b k) refl e; zero = λ e. refl; known = x.known; twin = x.twin; carry_bit = x.carry_bit; zero_bit = λ e. truth_small (nat_eq v 0) }
  move_holds a v same = record { number = λ n e. absurd (none-some n e); held = λ b e. never e; zero = λ e. refl; known = x.known; twin = x.twin; carry_bit = x.carry_bit; zero_bit = λ e. truth_small (nat_eq v 0) }

  -- W holds a result
  result_holds : (op : FileOperation) (byte : Option ℕ) (v : ℕ) → Says byte v → (o : Option ℕ) → computed op f.number byte ≡ o → Holds (with_number o (flags_in op).z f) (record (flags_with r op v) { w = result_with r op v }) m
  result_holds op byte v k None e = record { number = λ n h. absurd (none-some n h); held = λ a h. never h; zero = λ h. zero_is op r v h; known = x.known; twin = x.twin; carry_bit = (flags_bits op v).0; zero_bit = (flags_bits op v).1 }
  result_holds op byte v k (Some n) e =
      let is = computed_is op r v n f.number byte x.number k e in
      record { number = λ i h. is ∙ some_is n i h; held = λ a h. is ∙ sym (x.known a n (number_of (f.known a) n h)); zero = λ h. zero_is op r v h; known = x.known; twin = x.twin; carry_bit = (flags_bits op v).0; zero_bit = (flags_bits op v).1 }

  worked_either : (op : FileOperation) (byte : Option ℕ) (v : ℕ) → Says byte v → (c : Bool) → leaves_w op byte ≡ c
      → Holds (if c then record f { zero = true } else with_number (computed op f.number byte) (flags_in op).z f) (record (flags_with r op v) { w = result_with r op v }) m
  worked_either op byte v k true e =
      let is = left_is op r v byte k e in
      record { number = λ n h. is ∙ x.number n h; held = λ a h. is ∙ x.held a h; zero = λ h. zero_is op r v (left_sets op byte e); known = x.known; twin = x.twin; carry_bit = (flags_bits op v).0; zero_bit = (flags_bits op v).1 }
  worked_either op byte v k false e = result_holds op byte v k (computed op f.number byte) refl

  pub worked_holds : (op : FileOperation) (byte : Option ℕ) (v : ℕ) → Says byte v → Holds (worked op byte f) (record (flags_with r op v) { w = result_with r op v }) m
  worked_holds op byte v k =
      bits_hold (flags_in op) (worked_by op byte f) (record (flags_with r op v) { w = result_with r op v }) m (λ e. carry_set op r v e) (λ e. zero_set op r v e) (worked_either op byte v k (leaves_w op byte) refl)

  pub number_says : (a : Aim) (v : ℕ) → ((k : ℕ) → a ≡ ToByte k → v ≡ m k) → Says (number_at a f) v
  number_says (ToByte k) v same i e = same k refl ∙ x.known k i e
  number_says a v same i e = absurd (none-some i e)

  pub to_w_holds : (op : FileOperation) (a : Aim) (v : ℕ) → ((k : ℕ) → a ≡ ToByte k → v ≡ m k) → Holds (after_to_w op a f) (record (flags_with r op v) { w = result_with r op v }) m
  to_w_holds files.Movf a v same = subst (λ (t : Registers). Holds (moved a f) t m) (sym (move_is r v)) (move_holds a v same)
  to_w_holds op a v same = worked_holds op (number_at a f) v (number_says a v same)

  pub flags_hold : (op : FileOperation) (v : ℕ) → Holds (without_zero f) (flags_with r op v) m
  flags_hold op v = lose_zero (flags_with r op v) (flags_w r op v) (flags_bits op v)

  -- ---- other memory
  held_if : (c b : Bool) (v y : ℕ) → (b ≡ true → r.w ≡ y) → (if c then false else b) ≡ true → r.w ≡ (if c then v else y)
  held_if true b v y s e = never e
  held_if false b v y s e = s e

  known_if : (c : Bool) (o : Option ℕ) (v y n : ℕ) → (o ≡ Some n → y ≡ n) → (if c then None else o) ≡ Some n → (if c then v else y) ≡ n
  known_if true o v y n s e = absurd (none-some n e)
  known_if false o v y n s e = s e

  twin_if : (c d h : Bool) (v y z : ℕ) → (h ≡ true → y ≡ z) → (if c then false else (if d then false else h)) ≡ true → (if c then v else y) ≡ (if d then v else z)
  twin_if true d h v y z s e = never e
  twin_if false true h v y z s e = never e
  twin_if false false h v y z s e = s e

  pub lost_byte : (hidden : ℕ → Bool) (k v : ℕ) → Holds (lost hidden (ToByte k) f) r (with_byte m k v)
  lost_byte hidden k v = record {
    number = x.number;
    held = λ a e. held_if (nat_eq a k) (f.held a) v (m a) (x.held a) e;
    zero = x.zero;
    known = λ a n e. known_if (nat_eq a k) (f.known a) v (m a) n (x.known a n) e;
    twin = λ a b e. twin_if (nat_eq a k) (nat_eq b k) (f.twin a b) v (m a) (m b) (x.twin a b) e;
    carry_bit = x.carry_bit;
    zero_bit = x.zero_bit;
  }

  -- a byte of which nothing is said
  pub elsewhere : (k v : ℕ) → ((a : ℕ) → f.held a ≡ true → nat_eq a k ≡ false) → ((a n : ℕ) → f.known a ≡ Some n → nat_eq a k ≡ false) → ((a b : ℕ) → f.twin a b ≡ true → (nat_eq a k ≡ false) × (nat_eq b k ≡ false)) → Holds f r (with_byte m k v)
  elsewhere k v p q t = record {
    number = x.number;
    held = λ a e. x.held a e ∙ sym (ap (λ (c : Bool). if c then v else m a) (p a e));
    zero = x.zero;
    known = λ a n e. ap (λ (c : Bool). if c then v else m a) (q a n e) ∙ x.known a n e;
    twin = λ a b e. ap (λ (c : Bool). if c then v else m a) (t a b e).0 ∙ x.twin a b e ∙ sym (ap (λ (c : Bool). if c then v else m b) (t a b e).1);
    carry_bit = x.carry_bit;
    zero_bit = x.zero_bit;
  }

-- facts of hidden bytes alone
through_held : (c b : Bool) → (if c then b else false) ≡ true → (c ≡ true) × (b ≡ true)
through_held true b e = (refl, e)
through_held false b e = never e

through_known : (c : Bool) (o : Option ℕ) (n : ℕ) → (if c then o else None) ≡ Some n → (c ≡ true) × (o ≡ Some n)
through_known true o n e = (refl, e)
through_known false o n e = absurd (none-some n e)

through_twin : (c d h : Bool) → (if c then (if d then h else false) else false) ≡ true → (c ≡ true) × (d ≡ true) × (h ≡ true)
through_twin true true h e = (refl, refl, e)
through_twin true false h e = never e
through_twin false d h e = never e

pub lost_weaker : (hidden : ℕ → Bool) (a : Aim) (f : Facts) → Weaker (lost hidden a f) f
lost_weaker hidden (ToByte k) f = record { number = λ n e. e; held = λ b e. first (nat_eq b k) (f.held b) e; zero = λ e. e; known = λ b n e. second (nat_eq b k) (f.known b) n e; twin = λ b c e. third (nat_eq b k) (nat_eq c k) (f.twin b c) e; carry_bit = λ e. e; zero_bit = λ e. e }
  where
    first : (c b : Bool) → (if c then false else b) ≡ true → b ≡ true
    first true b e = never e
    first false b e = e

    second : (c : Bool) (o : Option ℕ) (n : ℕ) → (if c then None else o) ≡ Some n → o ≡ Some n
    second true o n e = absurd (none-some n e)
    second false o n e = e

    third : (c d h : Bool) → (if c then false else (if d then false else h)) ≡ true → h ≡ true
    third true d h e = never e
    third false true h e = never e
    third false false h e = e
lost_weaker hidden Through f = record { number = λ n e. e; held = λ b e. (through_held (hidden b) (f.held b) e).1; zero = λ e. e; known = λ b n e. (through_known (hidden b) (f.known b) n e).1; twin = λ b c e. (through_twin (hidden b) (hidden c) (f.twin b c) e).2; carry_bit = λ e. e; zero_bit = λ e. e }
lost_weaker hidden a f = weaker_same f

apart_by : (hidden : ℕ → Bool) (a k : ℕ) → hidden a ≡ true → hidden k ≡ false → nat_eq a k ≡ false
apart_by hidden a k h n = not_false (nat_eq a k) (λ e. sym n ∙ ap hidden (sym (eqb-true a k e)) ∙ h)

pub lost_through : (hidden : ℕ → Bool) (f : Facts) (r : Registers) (m : Memory) (k v : ℕ) → hidden k ≡ false → Holds f r m → Holds (lost hidden Through f) r (with_byte m k v)
lost_through hidden f r m k v open_k x =
    elsewhere (lost hidden Through f) r m (weaker_holds (lost hidden Through f) f r m (lost_weaker hidden Through f) x) k v
    (λ a e. apart_by hidden a k (through_held (hidden a) (f.held a) e).0 open_k)
    (λ a n e. apart_by hidden a k (through_known (hidden a) (f.known a) n e).0 open_k)
    (λ a b e. let t = through_twin (hidden a) (hidden b) (f.twin a b) e in (apart_by hidden a k t.0 open_k, apart_by hidden b k t.1 open_k))

pub learned_says : (hidden : ℕ → Bool) (f : Facts) (r : Registers) (m : Memory) (k v : ℕ) (number : Option ℕ) → Says number v → Holds f r m → Holds (learned hidden (ToByte k) number f) r (with_byte m k v)
learned_says hidden f r m k v number says x = record {
  number = x.number;
  held = (lost_byte f r m x hidden k v).held;
  zero = x.zero;
  known = λ a n e. by_case (nat_eq a k) (f.known a) (m a) n (x.known a n) e;
  twin = (lost_byte f r m x hidden k v).twin;
  carry_bit = x.carry_bit;
  zero_bit = x.zero_bit;
}
  where
    by_case : (c : Bool) (o : Option ℕ) (y n : ℕ) → (o ≡ Some n → y ≡ n) → (if c then number else o) ≡ Some n → (if c then v else y) ≡ n
    by_case true o y n s e = says n e
    by_case false o y n s e = s e

pub learned_byte : (hidden : ℕ → Bool) (f : Facts) (r : Registers) (m : Memory) (k v : ℕ) → Holds f r m → Holds (learned hidden (ToByte k) (Some v) f) r (with_byte m k v)
learned_byte hidden f r m k v x = learned_says hidden f r m k v (Some v) (λ n e. some_is v n e) x

pub stored_byte : (hidden : ℕ → Bool) (f : Facts) (r : Registers) (m : Memory) (k : ℕ) → Holds f r m → Holds (stored hidden (ToByte k) f) r (with_byte m k r.w)
stored_byte hidden f r m k x = record {
  number = x.number;
  held = λ a e. held_case (nat_eq a k) (f.held a) (m a) (x.held a) e;
  zero = x.zero;
  known = λ a n e. known_case (nat_eq a k) (f.known a) (m a) n (x.known a n) e;
  twin = λ a b e. twin_case (nat_eq b k) (nat_eq a k) (f.held b) (f.twin a b) (m a) (m b) (x.held b) (x.twin a b) e;
  carry_bit = x.carry_bit;
  zero_bit = x.zero_bit;
}
  where
    held_case : (c b : Bool) (y : ℕ) → (b ≡ true → r.w ≡ y) → (if c then true else b) ≡ true → r.w ≡ (if c then r.w else y)
    held_case true b y s e = refl
    held_case false b y s e = s e

    known_case : (c : Bool) (o : Option ℕ) (y n : ℕ) → (o ≡ Some n → y ≡ n) → (if c then f.number else o) ≡ Some n → (if c then r.w else y) ≡ n
    known_case true o y n s e = x.number n e
    known_case false o y n s e = s e

    twin_case : (d c h t : Bool) (y z : ℕ) → (h ≡ true → r.w ≡ z) → (t ≡ true → y ≡ z) → (if d then false else (if c then h else t)) ≡ true → (if c then r.w else y) ≡ (if d then r.w else z)
    twin_case true c h t y z p q e = never e
    twin_case false true h t y z p q e = p e
    twin_case false false h t y z p q e = q e
