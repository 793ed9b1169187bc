-- Operators on one value.
use Rattle.std.proofs.Common.{◌≡◌, ℕ, zero, suc, ◌+◌, ◌-◌, ◌*◌, ◌%◌, ◌^◌, ◌<◌, List, [], ◌∷◌, ◌++◌, refl, ap, sym, ◌∙◌, subst, arith, Bool, bit_or, ℤ, pos, neg_ℤ, ◌+ℤ◌, ◌-ℤ◌}
use Rattle.std.specs.Prelude.{nat_eq, if◌then◌else◌}
use Rattle.std.proofs.Math.Nat.{pow-suc}
use Rattle.std.proofs.lemmas.Int.{ints}
use Rattle.std.proofs.lemmas.Nat.{le_or_l, le_or_r, or_lt}
use Rattle.std.proofs.lemmas.Bool.Decides.{nat_tests}
use Rattle.sym_code.specs.Registers.{Registers}
use Rattle.sym_code.specs.declared.code.FileOperation.TheVariants.{Comf, Incf, Movf, Iorwf}
use Rattle.sym_code.specs.Effect.{Memory}
use Rattle.select_trace.specs.Run.{Machine, Sym, Row, Flag, going, run}
use Rattle.sym_code.specs.declared.code.BitOperation.TheVariants.{Btfsc, Btfss}
use Rattle.sym_code.specs.declared.code.Into.TheVariants.{W, File}
use Rattle.select_trace.specs.Code.{Operand, file_code, flag_code, complement_code, increment_byte_code, increment_code, ors_code, test_code, nonzero_code, choice_code, truth_code, bang_code}
use Rattle.select_trace.specs.Links.{Fine}
use Rattle.select_trace.specs.Ripples.{total, Changes, AreDistinct, Rippled}
use Rattle.select_trace.specs.Values.{val}
use Rattle.select_trace.specs.Comparisons.{Truth}
use Rattle.c_ints.specs.declared.types.IntTy.{IntTy}
use Rattle.c_ints.specs.declared.operators.UnOp.TheVariants.{Minus, Not}
use Rattle.c_ints.specs.Range.{span, cut, pattern}
use Rattle.c_ints.specs.Operators.{exact_unary}
use Rattle.select_trace.proofs.Vals.{run_append, going_is, val_below}
use Rattle.select_trace.proofs.Links.{nonzero}
use Rattle.select_trace.proofs.Ripples.{upward, val_total, rippled}
use Rattle.select_trace.proofs.RoutineSteps.{carry_of, zero_of, Inverts, Inverted, Increments, Incremented, comf, incf_first, incf_more, one_of, inverted_more, incremented_more, incremented_at}
use Rattle.select_trace.proofs.Negate.{negated}
use Rattle.select_trace.proofs.Comparisons.{OnlyW, by_carry, fine_w, truth_is, truth_from, run4}
use Rattle.select_trace.proofs.OperatorValues.{offset, small_mod}
use Rattle.select_trace.proofs.Ints.{pattern_of, mod_shift, pattern_cut}

-- only the bytes of one operand have changed
pub record Within (t u : Machine) (at : Operand) (k : ℕ) : Type 0 where
  pub fine : Fine u
  pub others : (a : ℕ) → ((j : ℕ) → j < k → a ≡ at j → ⊥) → u.memory a ≡ t.memory a

-- a ripple from the lowest byte on, in numbers
pub of_ripple_at : (flag : Registers → ℕ) (T : ℕ → ℕ → ℕ → ℕ → Type 0) (at : Operand) (k : ℕ) (t u : Machine) → Rippled flag upward T t u at k →
    (has : T k (val (λ j. t.memory (at j)) k) (val (λ j. u.memory (at j)) k) (flag u.registers)) × (Within t u at k)
of_ripple_at flag T at k t u h =
    let a : total upward (λ j. t.memory (at j)) k ≡ val (λ j. t.memory (at j)) k = val_total (λ j. t.memory (at j)) k in
    let b : total upward (λ j. u.memory (at j)) k ≡ val (λ j. u.memory (at j)) k = val_total (λ j. u.memory (at j)) k in
    let has : T k (val (λ j. t.memory (at j)) k) (val (λ j. u.memory (at j)) k) (flag u.registers) = rw (a, b) at h.has in
    (has, record { fine = h.fine; others = h.others })

pub complement : (at : Operand) (w : ℕ) → AreDistinct w at → (t : Machine) → Fine t →
    (val (λ j. (run (complement_code at w) t).memory (at j)) w + val (λ j. t.memory (at j)) w + 1 ≡ 256 ^ w) × (Within t (run (complement_code at w) t) at w)
complement at w distinct t ok =
    let all = of_ripple_at carry_of Inverted at w t (run (complement_code at w) t)
    (rippled carry_of upward Inverts Inverted (λ k. file_code Comf (at k) File) at w (λ k lt. one_of carry_of (Inverts k) (file_code Comf (at k) File) (at k) (λ r m. comf r m (at k))) distinct
    (λ k v u c x y d lt h s. inverted_more (256 ^ k) (256 ^ suc k) v u x y (pow-suc 256 k) h s) t ok refl w (omega arith)) in
    (all.0, all.1)

increment_one : (at : Operand) (k : ℕ) (u : Machine) → Fine u → Changes zero_of (Increments k) u (run (increment_byte_code at k) u) (at k)
increment_one at zero u ok = one_of zero_of (Increments 0) (increment_byte_code at 0) (at 0) (λ r m. incf_first r m (at 0)) u ok
increment_one at (suc k) u ok =
    subst (λ (xs : List Sym). Changes zero_of (Increments 1) u (run xs u) (at (suc k))) (ap (λ b. (if b then [] else flag_code Btfsc 2) ++ file_code Incf (at (suc k)) File) (sym (nonzero k)))
    (one_of zero_of (Increments 1) (Flag Btfsc 2 ∷ Row Incf (at (suc k)) File ∷ []) (at (suc k)) (λ r m. incf_more r m (at (suc k))) u ok)

pub increment : (at : Operand) (w : ℕ) → AreDistinct w at → 0 < w → (t : Machine) → Fine t →
    (val (λ j. (run (increment_code at w) t).memory (at j)) w + 256 ^ w * (run (increment_code at w) t).registers.z ≡ val (λ j. t.memory (at j)) w + 1) × (Within t (run (increment_code at w) t) at w)
increment at w distinct wide t ok =
    let all = of_ripple_at zero_of Incremented at w t (run (increment_code at w) t)
    (rippled zero_of upward Increments Incremented (increment_byte_code at) at w (λ k lt. increment_one at k) distinct
    (λ k v u c x y d lt. incremented_more k v u c x y d) t ok (refl, refl) w (omega arith)) in
    (incremented_at w _ _ _ wide all.0, all.1)

pub minus : (at : Operand) (w : ℕ) → AreDistinct w at → 0 < w → (t : Machine) → Fine t →
    (val (λ j. (run (complement_code at w ++ increment_code at w) t).memory (at j)) w ≡ (256 ^ w - val (λ j. t.memory (at j)) w) % 256 ^ w) × (Within t (run (complement_code at w ++ increment_code at w) t) at w)
minus at w distinct wide t ok =
    let t1 : Machine = run (complement_code at w) t in
    let h1 = complement at w distinct t ok in
    let h2 = increment at w distinct wide t1 h1.1.fine in
    let below : (t : Machine) → Fine t → val (λ j. t.memory (at j)) w < 256 ^ w = λ t ok. val_below (λ j. t.memory (at j)) w (λ j lt. ok.bytes (at j)) in
    let is : val (λ j. (run (increment_code at w) t1).memory (at j)) w ≡ (256 ^ w - val (λ j. t.memory (at j)) w) % 256 ^ w = negated (256 ^ w) _ _ _ _ h1.0 h2.0 (below _ h2.1.fine) h2.1.fine.zero (below t ok) in
    subst (λ (u : Machine). (val (λ j. u.memory (at j)) w ≡ (256 ^ w - val (λ j. t.memory (at j)) w) % 256 ^ w) × (Within t u at w)) (sym (run_append (complement_code at w) (increment_code at w) t))
    (is, record { fine = h2.1.fine; others = λ a no. h2.1.others a no ∙ h1.1.others a no })

-- ---- whether all bytes are 0
record Ored (t u : Machine) (x : ℕ) : Type 0 where
  fine : Fine u
  w : u.registers.w ≡ x
  zero : u.registers.z ≡ (if nat_eq x 0 then 1 else 0)
  same : (a : ℕ) → u.memory a ≡ t.memory a

moved : (a : ℕ) (t : Machine) → Fine t → Ored t (run (file_code Movf a W) t) (t.memory a)
moved a t ok = subst (λ (v : Machine). Fine v → Ored v (run (file_code Movf a W) v) (v.memory a)) (going_is t ok.going) (at t.registers t.memory) ok
  where
    at : (r : Registers) (m : Memory) → Fine (going r m) → Ored (going r m) (run (file_code Movf a W) (going r m)) (m a)
    at r m ok = record {
      fine = record { going = refl; carry = ok.carry; zero = grind (arith, nat_tests); bytes = ok.bytes };
      w = refl;
      zero = grind (arith, nat_tests);
      same = λ b. refl;
    }

ored : (a : ℕ) (t : Machine) → Fine t → Ored t (run (file_code Iorwf a W) t) (bit_or t.registers.w (t.memory a))
ored a t ok = subst (λ (v : Machine). Fine v → Ored v (run (file_code Iorwf a W) v) (bit_or v.registers.w (v.memory a))) (going_is t ok.going) (at t.registers t.memory) ok
  where
    at : (r : Registers) (m : Memory) → Fine (going r m) → Ored (going r m) (run (file_code Iorwf a W) (going r m)) (bit_or r.w (m a))
    at r m ok = record {
      fine = record { going = refl; carry = ok.carry; zero = grind (arith, nat_tests); bytes = ok.bytes };
      w = refl;
      zero = grind (arith, nat_tests);
      same = λ b. refl;
    }

pub record Tested (t u : Machine) (n : ℕ) : Type 0 where
  pub fine : Fine u
  pub none : u.registers.w ≡ 0 → n ≡ 0
  pub some : n ≡ 0 → u.registers.w ≡ 0
  pub small : u.registers.w < 256
  pub zero : u.registers.z ≡ (if nat_eq u.registers.w 0 then 1 else 0)
  pub same : (a : ℕ) → u.memory a ≡ t.memory a

pub tested : (at : Operand) (k : ℕ) (t : Machine) → Fine t → Tested t (run (test_code at (suc k)) t) (val (λ j. t.memory (at j)) (suc k))
tested at zero t ok =
    let h : Ored t (run (file_code Movf (at 0) W) t) (t.memory (at 0)) = moved (at 0) t ok in
    record { fine = h.fine; none = λ e. omega (arith, h.w, e); some = λ e. h.w ∙ omega (arith, e); small = subst (λ (x : ℕ). x < 256) (sym h.w) (ok.bytes (at 0)); zero = h.zero ∙ ap (λ x. if nat_eq x 0 then 1 else 0) (sym h.w); same = h.same }
tested at (suc k) t ok =
    let u : Machine = run (test_code at (suc k)) t in
    let h : Tested t u (val (λ j. t.memory (at j)) (suc k)) = tested at k t ok in
    let v : Machine = run (file_code Iorwf (at (suc k)) W) u in
    let o : Ored u v (bit_or u.registers.w (u.memory (at (suc k)))) = ored (at (suc k)) u h.fine in
    let b : u.memory (at (suc k)) ≡ t.memory (at (suc k)) = h.same (at (suc k)) in
    let e : run (test_code at (suc (suc k))) t ≡ v = run_append (file_code Movf (at 0) W) (ors_code at (suc k)) t ∙ run_append (ors_code at k) (file_code Iorwf (at (suc k)) W) (run (file_code Movf (at 0) W) t) ∙ ap (run (file_code Iorwf (at (suc k)) W)) (sym (run_append (file_code Movf (at 0) W) (ors_code at k) t)) in
    subst (λ (x : Machine). Tested t x (val (λ j. t.memory (at j)) (suc (suc k)))) (sym e) (record {
      fine = o.fine;
      none = λ z.
          let both : bit_or u.registers.w (u.memory (at (suc k))) ≡ 0 = sym o.w ∙ z in
          let x : u.registers.w ≡ 0 = omega (arith, le_or_l u.registers.w (u.memory (at (suc k))), both) in
          let y : t.memory (at (suc k)) ≡ 0 = omega (arith, le_or_r u.registers.w (u.memory (at (suc k))), both, b) in
          zeros (256 ^ suc k) _ _ (h.none x) y;
      some = λ z.
          let p = parts (256 ^ suc k) (val (λ j. t.memory (at j)) (suc k)) (t.memory (at (suc k))) (one (suc k)) z in
          o.w ∙ ap (λ n. bit_or n (u.memory (at (suc k)))) (h.some p.0) ∙ ap (λ n. bit_or 0 n) (b ∙ p.1);
      small = subst (λ (x : ℕ). x < 256) (sym o.w) (or_lt 8 u.registers.w (u.memory (at (suc k))) h.small (h.fine.bytes (at (suc k))));
      zero = o.zero ∙ ap (λ x. if nat_eq x 0 then 1 else 0) (sym o.w);
      same = λ a. o.same a ∙ h.same a;
    })
  where
    zeros : (p v x : ℕ) → v ≡ 0 → x ≡ 0 → v + p * x ≡ 0
    zeros p v x e f = rw (e, f) (omega arith)

    one : (k : ℕ) → 0 < 256 ^ k
    one zero = omega arith
    one (suc k) = let h : 0 < 256 ^ k = one k in let e : 256 ^ suc k ≡ 256 ^ k * 256 = pow-suc 256 k in omega arith

    parts : (p v x : ℕ) → 0 < p → v + p * x ≡ 0 → (v ≡ 0) × (x ≡ 0)
    parts p v zero h e = (omega arith, refl)
    parts p v (suc x) h e = absurd (big p v x h e)
      where
        big : (p v x : ℕ) → 0 < p → v + p * suc x ≡ 0 → ⊥
        big p v x h e = let f : p * suc x ≡ p * x + p = omega arith in omega (arith, f)

-- C tells whether W isn't 0
record Carries (t u : Machine) : Type 0 where
  fine : Fine u
  carry : u.registers.c ≡ (if nat_eq t.registers.w 0 then 0 else 1)
  same : (a : ℕ) → u.memory a ≡ t.memory a

carries : (t : Machine) → Fine t → t.registers.w < 256 → Carries t (run nonzero_code t)
carries t ok lt = subst (λ (v : Machine). Fine v → v.registers.w < 256 → Carries v (run nonzero_code v)) (going_is t ok.going) (at t.registers t.memory) ok lt
  where
    at : (r : Registers) (m : Memory) → Fine (going r m) → r.w < 256 → Carries (going r m) (run nonzero_code (going r m))
    at r m ok lt = record {
      fine = record { going = refl; carry = grind (arith, nat_tests); zero = grind (arith, nat_tests); bytes = ok.bytes };
      carry = grind (arith, nat_tests);
      same = λ a. refl;
    }

pub bang : (clearable : Bool) (at : Operand) (w : ℕ) → 0 < w → (at 0 ≡ at 1 → ⊥) → (t : Machine) → Fine t → Truth t.memory (run (bang_code clearable at w) t) at (if nat_eq (val (λ j. t.memory (at j)) w) 0 then 1 else 0)
bang clearable at zero lt apart t ok = absurd (omega arith)
bang clearable at (suc k) lt apart t ok =
    let u : Machine = run (test_code at (suc k)) t in
    let h : Tested t u (val (λ j. t.memory (at j)) (suc k)) = tested at k t ok in
    let n : Machine = run nonzero_code u in
    let f : Carries u n = carries u h.fine h.small in
    let v : Machine = run (choice_code 0 Btfss 0 1) n in
    let c : OnlyW n v (if nat_eq n.registers.c 1 then 0 else 1) = by_carry 0 n f.fine in
    let is : v.registers.w ≡ (if nat_eq (val (λ j. t.memory (at j)) (suc k)) 0 then 1 else 0) = c.w ∙ answer_is _ _ _ f.carry h.none h.some in
    let e : run (bang_code clearable at (suc k)) t ≡ run (truth_code clearable at) v = run4 (test_code at (suc k)) nonzero_code (choice_code 0 Btfss 0 1) (truth_code clearable at) t in
    subst (λ (x : Machine). Truth t.memory x at (if nat_eq (val (λ j. t.memory (at j)) (suc k)) 0 then 1 else 0)) (sym e)
    (truth_from t.memory v _ at _ (λ a. c.same a ∙ f.same a ∙ h.same a) (truth_is clearable at v _ apart (small (val (λ j. t.memory (at j)) (suc k))) is (fine_w n v _ f.fine c)))
  where
    small : (n : ℕ) → (if nat_eq n 0 then 1 else 0) < 2
    small n = grind (arith, nat_tests)

    answer_is : (c w n : ℕ) → c ≡ (if nat_eq w 0 then 0 else 1) → (w ≡ 0 → n ≡ 0) → (n ≡ 0 → w ≡ 0) → ◌≡◌ {A = ℕ} (if nat_eq c 1 then 0 else 1) (if nat_eq n 0 then 1 else 0)
    answer_is c w n e f g = grind (arith, nat_tests)

-- ---- values
pub minus_value : (ty : IntTy) (n a : ℕ) → n < span ty → a ≡ (span ty - n) % span ty → a ≡ pattern ty (cut ty (exact_unary Minus (cut ty (pos n))))
minus_value ty n a lt e =
    let x = offset ty n lt in
    e ∙ sym (mod_shift (span ty - n) x.0 (span ty) (omega arith)) ∙ sym (pattern_cut ty (neg_ℤ (cut ty (pos n))) ∙ pattern_of ty (neg_ℤ (cut ty (pos n))) 1 (span ty - n + x.0 * span ty) (at (cut ty (pos n)) (span ty) x.0 n lt x.1))
  where
    at : (z : ℤ) (s e n : ℕ) → n < s → z +ℤ pos (e * s) ≡ pos n → neg_ℤ z +ℤ pos (1 * s) ≡ pos (s - n + e * s)
    at z s e n lt h = omega (arith, ints)

pub not_value : (ty : IntTy) (n a : ℕ) → n < span ty → a + n + 1 ≡ span ty → a ≡ pattern ty (cut ty (exact_unary Not (cut ty (pos n))))
not_value ty n a lt e =
    let x = offset ty n lt in
    sym (small_mod a (span ty) (omega arith)) ∙ sym (mod_shift a x.0 (span ty) (omega arith)) ∙ sym (pattern_cut ty (neg_ℤ (cut ty (pos n)) -ℤ pos 1) ∙ pattern_of ty (neg_ℤ (cut ty (pos n)) -ℤ pos 1) 1 (a + x.0 * span ty) (at (cut ty (pos n)) (span ty) x.0 n a e x.1))
  where
    at : (z : ℤ) (s e n a : ℕ) → a + n + 1 ≡ s → z +ℤ pos (e * s) ≡ pos n → neg_ℤ z -ℤ pos 1 +ℤ pos (1 * s) ≡ pos (a + e * s)
    at z s e n a lt h = omega (arith, ints)
