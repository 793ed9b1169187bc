-- Code that goes over the bytes of one value in place.
use Rattle.std.proofs.Common.{◌≡◌, ℕ, zero, suc, ◌+◌, ◌*◌, ◌^◌, ◌<◌, ◌≤◌, List, refl, ap, sym, ◌∙◌, subst, arith, inl, inr}
use Rattle.std.proofs.lemmas.Bool.{cases_eq}
use Rattle.select_trace.specs.Run.{Machine, Sym, run}
use Rattle.sym_code.specs.Registers.{Registers}
use Rattle.select_trace.specs.Code.{Operand, rising}
use Rattle.select_trace.specs.Links.{Fine}
use Rattle.select_trace.specs.Ripples.{total, Changes, EachChanges, AreDistinct, Rippled}
use Rattle.select_trace.specs.Values.{val}
use Rattle.select_trace.proofs.Vals.{run_append}

pub total_same : (more : ℕ → ℕ → ℕ → ℕ) (f g : ℕ → ℕ) (k : ℕ) → ((j : ℕ) → j < k → f j ≡ g j) → total more f k ≡ total more g k
total_same more f g zero h = refl
total_same more f g (suc k) h =
    ap (λ x. more k x (f k)) (total_same more f g k (λ j lt. h j (omega arith))) ∙ ap (λ x. more k (total more g k) x) (h k (omega arith))

-- from the lowest byte on
abbrev pub upward : ℕ → ℕ → ℕ → ℕ
upward k v x = v + 256 ^ k * x

pub val_total : (f : ℕ → ℕ) (k : ℕ) → total upward f k ≡ val f k
val_total f zero = refl
val_total f (suc k) = ap (λ x. x + 256 ^ k * f k) (val_total f k)

pub rippled : (flag : Registers → ℕ) (more : ℕ → ℕ → ℕ → ℕ) (R : ℕ → ℕ → ℕ → ℕ → ℕ → Type 0) (T : ℕ → ℕ → ℕ → ℕ → Type 0) (code : ℕ → List Sym) (at : Operand) (w : ℕ) → EachChanges flag R code at w → AreDistinct w at →
    ((k v u c x y d : ℕ) → k < w → T k v u c → R k c x y d → T (suc k) (more k v x) (more k u y) d) →
    (t : Machine) → Fine t → T 0 0 0 (flag t.registers) → (k : ℕ) → k ≤ w → Rippled flag more T t (run (rising code k) t) at k
rippled flag more R T code at w each distinct closed t ok start zero le = record { fine = ok; has = start; others = λ a h. refl }
rippled flag more R T code at w each distinct closed t ok start (suc k) le =
    subst (λ (v : Machine). Rippled flag more T t v at (suc k)) (sym (run_append (rising code k) (code k) t))
    (further flag more R T (code k) at w distinct closed t k le (run (rising code k) t) (rippled flag more R T code at w each distinct closed t ok start k (omega arith)) (each k le))
  where
    further : (flag : Registers → ℕ) (more : ℕ → ℕ → ℕ → ℕ) (R : ℕ → ℕ → ℕ → ℕ → ℕ → Type 0) (T : ℕ → ℕ → ℕ → ℕ → Type 0) (xs : List Sym) (at : Operand) (w : ℕ) → AreDistinct w at →
        ((k v u c x y d : ℕ) → k < w → T k v u c → R k c x y d → T (suc k) (more k v x) (more k u y) d) →
        (t : Machine) (k : ℕ) → suc k ≤ w → (u : Machine) → Rippled flag more T t u at k →
        ((u : Machine) → Fine u → Changes flag (R k) u (run xs u) (at k)) → Rippled flag more T t (run xs u) at (suc k)
    further flag more R T xs at w distinct closed t k le u before one =
        let v : Machine = run xs u in
        let now : Changes flag (R k) u v (at k) = one u before.fine in
        let kept : total more (λ j. u.memory (at j)) k ≡ total more (λ j. v.memory (at j)) k = total_same more _ _ k (λ j lt. sym (now.others (at j) (distinct j k lt le))) in
        let same : u.memory (at k) ≡ t.memory (at k) = before.others (at k) (λ j lt e. distinct j k lt le (sym e)) in
        let had : T k (total more (λ j. t.memory (at j)) k) (total more (λ j. v.memory (at j)) k) (flag u.registers) = subst (λ (x : ℕ). T k (total more (λ j. t.memory (at j)) k) x (flag u.registers)) kept before.has in
        let here : R k (flag u.registers) (t.memory (at k)) (v.memory (at k)) (flag v.registers) = subst (λ (x : ℕ). R k (flag u.registers) x (v.memory (at k)) (flag v.registers)) same now.has in
        record {
          fine = record {
            going = now.going;
            carry = now.carry;
            zero = now.zero;
            bytes = λ a. elim (cases_eq a (at k)) [ inl e ↦ rw e now.byte | inr ne ↦ rw (now.others a ne) (before.fine.bytes a) ];
          };
          has = closed k _ _ _ _ _ _ le had here;
          others = λ a h. now.others a (h k (omega arith)) ∙ before.others a (λ j lt. h j (omega arith));
        }
