-- Sums and differences of any width.
use Rattle.std.proofs.Common.{◌≡◌, ℕ, zero, suc, ◌+◌, ◌*◌, ◌^◌, ◌<◌, ◌≤◌, List, refl, ap, sym, ◌∙◌, subst, arith, inl, inr}
use Rattle.std.proofs.Math.Nat.{pow-suc}
use Rattle.std.proofs.lemmas.Bool.{cases_eq}
use Rattle.sym_code.specs.Effect.{Memory}
use Rattle.select_trace.specs.Run.{Machine, Sym, run}
use Rattle.sym_code.specs.declared.code.Into.TheVariants.{W}
use Rattle.select_trace.specs.Code.{Operand, Chain, Sum, Difference, rising, link_code}
use Rattle.select_trace.specs.Links.{Fine, Adds, Links, EachLinks, Apart, Chained, Tells, Told, carried}
use Rattle.select_trace.specs.Values.{val}
use Rattle.select_trace.proofs.Vals.{run_append, val_same}
use Rattle.select_trace.proofs.Links.{tells}

adds_more : (chain : Chain) (p q v l r c x y z d : ℕ) → q ≡ p * 256 → Adds chain p l r (carried chain 0 0) v c → Adds chain 256 y z c x d → Adds chain q (l + p * y) (r + p * z) (carried chain 0 0) (v + p * x) d
adds_more Sum p q v l r c x y z d e h k = more p q v l r c x y z d e h k
  where
    more : (p q v l r c x y z d : ℕ) → q ≡ p * 256 → v + p * c ≡ l + r + 0 → x + 256 * d ≡ y + z + c → v + p * x + q * d ≡ l + p * y + (r + p * z) + 0
    more p q v l r c x y z d e h k = let k2 : p * (x + 256 * d) ≡ p * (y + z + c) = ap (λ s. p * s) k in let e2 : q * d ≡ p * 256 * d = ap (λ s. s * d) e in omega (arith, k2, e2)
adds_more Difference p q v l r c x y z d e h k = more p q v l r c x y z d e h k
  where
    more : (p q v l r c x y z d : ℕ) → q ≡ p * 256 → v + r + p * c + 1 ≡ l + 1 + p → x + z + 256 * d + 1 ≡ y + c + 256 → v + p * x + (r + p * z) + q * d + 1 ≡ l + p * y + 1 + q
    more p q v l r c x y z d e h k = let k2 : p * (x + z + 256 * d + 1) ≡ p * (y + c + 256) = ap (λ s. p * s) k in let e2 : q * d ≡ p * 256 * d = ap (λ s. s * d) e in omega (arith, k2, e2)

-- All bytes below k, where a write of a byte spoils no later byte that is read or written.
pub chained : (chain : Chain) (code : ℕ → List Sym) (to left right : Operand) (w : ℕ) → EachLinks chain code to left right w → Apart w to to → Apart w to left → Apart w to right →
    (t : Machine) → Fine t → (k : ℕ) → k ≤ w → Chained chain t.memory (run (rising code k) t) to left right k
chained chain code to left right w each at al ar t ok zero le = record {
  fine = ok;
  adds = start chain;
  others = λ a h. refl;
}
  where
    start : (chain : Chain) → Adds chain 1 0 0 (carried chain 0 0) 0 (carried chain 0 t.registers.c)
    start Sum = refl
    start Difference = refl
chained chain code to left right w each at al ar t ok (suc k) le =
    subst (λ (v : Machine). Chained chain t.memory v to left right (suc k)) (sym (run_append (rising code k) (code k) t))
    (more chain (code k) to left right w at al ar t.memory k le (run (rising code k) t) (chained chain code to left right w each at al ar t ok k (omega arith)) (each k le))
  where
    more : (chain : Chain) (xs : List Sym) (to left right : Operand) (w : ℕ) → Apart w to to → Apart w to left → Apart w to right → (m : Memory) (k : ℕ) → suc k ≤ w → (u : Machine) →
        Chained chain m u to left right k →
        ((u : Machine) → Fine u → Links chain u.memory (carried chain k u.registers.c) (run xs u) (to k) (left k) (right k)) →
        Chained chain m (run xs u) to left right (suc k)
    more chain xs to left right w at al ar m k le u before one =
        let v : Machine = run xs u in
        let link : Links chain u.memory (carried chain k u.registers.c) v (to k) (left k) (right k) = one u before.fine in
        let kept : val (λ j. u.memory (to j)) k ≡ val (λ j. v.memory (to j)) k = val_same _ _ k (λ j lt. sym (link.others (to j) (at j k lt le))) in
        let l : u.memory (left k) ≡ m (left k) = before.others (left k) (λ j lt e. al j k lt le (sym e)) in
        let r : u.memory (right k) ≡ m (right k) = before.others (right k) (λ j lt e. ar j k lt le (sym e)) in
        let had : Adds chain (256 ^ k) (val (λ j. m (left j)) k) (val (λ j. m (right j)) k) (carried chain 0 0) (val (λ j. v.memory (to j)) k) (carried chain k u.registers.c) = rw kept at before.adds in
        let here : Adds chain 256 (m (left k)) (m (right k)) (carried chain k u.registers.c) (v.memory (to k)) v.registers.c = rw (l, r) at link.adds in
        record {
          fine = record {
            going = link.going;
            carry = link.carry;
            zero = link.zero;
            bytes = λ a. elim (cases_eq a (to k)) [ inl e ↦ rw e link.byte | inr ne ↦ rw (link.others a ne) (before.fine.bytes a) ];
          };
          adds = adds_more chain (256 ^ k) (256 ^ suc k) _ _ _ _ _ _ _ _ (pow-suc 256 k) had here;
          others = λ a h. link.others a (h k (omega arith)) ∙ before.others a (λ j lt. h j (omega arith));
        }

-- ---- differences whose bytes go nowhere
told_more : (p q v l r c x y z d : ℕ) → q ≡ p * 256 → v < p → x < 256 → Adds Difference p l r 1 v c → Adds Difference 256 y z c x d → (v + p * x < q) × Adds Difference q (l + p * y) (r + p * z) 1 (v + p * x) d
told_more p q v l r c x y z d e lt small h k = (grind arith, adds_more Difference p q v l r c x y z d e h k)

pub told : (left right : Operand) (t : Machine) → Fine t → (k : ℕ) → Told t.memory (run (rising (link_code Difference left right W) k) t) left right k
told left right t ok zero = record { fine = ok; number = 0; small = omega arith; adds = refl; same = λ b. refl }
told left right t ok (suc k) =
    subst (λ (v : Machine). Told t.memory v left right (suc k)) (sym (run_append (rising (link_code Difference left right W) k) (link_code Difference left right W k) t))
    (more left right (link_code Difference left right W k) t.memory k (run (rising (link_code Difference left right W) k) t) (told left right t ok k) (tells left right k))
  where
    more : (left right : Operand) (xs : List Sym) (m : Memory) (k : ℕ) (u : Machine) → Told m u left right k →
        ((u : Machine) → Fine u → Tells u.memory (carried Difference k u.registers.c) (run xs u) (left k) (right k)) → Told m (run xs u) left right (suc k)
    more left right xs m k u before one =
        let now = one u before.fine in
        let l : u.memory (left k) ≡ m (left k) = before.same (left k) in
        let r : u.memory (right k) ≡ m (right k) = before.same (right k) in
        let here : Adds Difference 256 (m (left k)) (m (right k)) (carried Difference k u.registers.c) now.byte (run xs u).registers.c = rw (l, r) at now.adds in
        let both = told_more (256 ^ k) (256 ^ suc k) before.number _ _ _ now.byte _ _ _ (pow-suc 256 k) before.small now.small before.adds here in
        record {
          fine = record { going = now.going; carry = now.carry; zero = now.zero; bytes = λ a. rw (now.same a) (before.fine.bytes a) };
          number = before.number + 256 ^ k * now.byte;
          small = both.0;
          adds = both.1;
          same = λ a. now.same a ∙ before.same a;
        }
