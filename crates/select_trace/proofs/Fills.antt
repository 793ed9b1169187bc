-- Bytes that become one number, widening, and the fill of a shift by whole bytes.
use Rattle.std.proofs.Common.{◌≡◌, ℕ, zero, suc, ◌+◌, ◌*◌, ◌/◌, ◌^◌, ◌<◌, ◌≤◌, List, refl, ap, sym, ◌∙◌, subst, arith, inl, inr, Bool, true, false}
use Rattle.std.proofs.Math.Nat.{pow-suc}
use Rattle.std.proofs.lemmas.Nat.{pow-add}
use Rattle.std.proofs.lemmas.Bool.{cases_eq, cases_lt}
use Rattle.std.proofs.lemmas.Bool.Decides.{nat_tests}
use Rattle.sym_code.specs.Registers.{Registers}
use Rattle.sym_code.specs.Effect.{Memory}
use Rattle.select_trace.specs.Run.{Machine, Sym, going, run, Going}
use Rattle.select_trace.specs.Code.{Operand, rising, store_code, set_code, stores_code, clears_code, sign_code}
use Rattle.select_trace.specs.Links.{Fine}
use Rattle.select_trace.specs.Ripples.{AreDistinct}
use Rattle.select_trace.specs.Values.{val}
use Rattle.select_trace.specs.Fills.{Filled}
use Rattle.select_trace.proofs.Vals.{run_append, going_is}

pub record Stores (t u : Machine) (to x : ℕ) : Type 0 where
  pub going : u.mode ≡ Going
  pub carry : u.registers.c < 2
  pub zero : u.registers.z < 2
  pub here : u.memory to ≡ x
  pub others : (b : ℕ) → (b ≡ to → ⊥) → u.memory b ≡ t.memory b
  -- W is x as before, where it was
  pub keeps : t.registers.w ≡ x → u.registers.w ≡ x

store_at : (to : ℕ) (r : Registers) (m : Memory) → Fine (going r m) → Stores (going r m) (run (store_code to) (going r m)) to r.w
store_at to r m ok = record { going = refl; carry = ok.carry; zero = ok.zero; here = grind (arith, nat_tests); others = λ b ne. grind (arith, nat_tests); keeps = λ e. e }

clear_at : (clearable : Bool) (to : ℕ) (r : Registers) (m : Memory) → Fine (going r m) → Stores (going r m) (run (set_code clearable to 0) (going r m)) to 0
clear_at true to r m ok = record { going = refl; carry = ok.carry; zero = omega arith; here = grind (arith, nat_tests); others = λ b ne. grind (arith, nat_tests); keeps = λ e. e }
clear_at false to r m ok = record { going = refl; carry = ok.carry; zero = ok.zero; here = grind (arith, nat_tests); others = λ b ne. grind (arith, nat_tests); keeps = λ e. refl }

abbrev EachStores : (ℕ → List Sym) → Operand → ℕ → (Machine → Type 0) → Type 0
EachStores code to x when = (k : ℕ) (u : Machine) → Fine u → when u → Stores u (run (code k) u) (to k) x

-- all bytes, where the code of each makes it x, and keeps what that wants
fills : (code : ℕ → List Sym) (to : Operand) (x w : ℕ) (when : Machine → Type 0) → x < 256 → EachStores code to x when → ((k : ℕ) (u : Machine) → Stores u (run (code k) u) (to k) x → when u → when (run (code k) u)) → AreDistinct w to →
    (t : Machine) → Fine t → when t → (k : ℕ) → k ≤ w → (filled : Filled t.memory (run (rising code k) t) to x k) × when (run (rising code k) t)
fills code to x w when small each stays distinct t ok h zero le = (record { fine = ok; fills = λ j lt. absurd (omega arith); others = λ a no. refl }, h)
fills code to x w when small each stays distinct t ok h (suc k) le =
    subst (λ (v : Machine). (filled : Filled t.memory v to x (suc k)) × when v) (sym (run_append (rising code k) (code k) t))
    (more (run (rising code k) t) (fills code to x w when small each stays distinct t ok h k (omega arith)) (each k) (stays k))
  where
    more : (u : Machine) → ((filled : Filled t.memory u to x k) × when u) → ((u : Machine) → Fine u → when u → Stores u (run (code k) u) (to k) x) → ((u : Machine) → Stores u (run (code k) u) (to k) x → when u → when (run (code k) u)) →
        (filled : Filled t.memory (run (code k) u) to x (suc k)) × when (run (code k) u)
    more u before one stay =
        let f : Filled t.memory u to x k = before.0 in
        let s : Stores u (run (code k) u) (to k) x = one u f.fine before.1 in (
          record {
            fine = record { going = s.going; carry = s.carry; zero = s.zero; bytes = λ a. elim (cases_eq a (to k)) [ inl e ↦ rw (e, s.here) small | inr ne ↦ rw (s.others a ne) (f.fine.bytes a) ] };
            fills = λ j lt. elim (cases_eq j k) [ inl e ↦ ap (λ n. (run (code k) u).memory (to n)) e ∙ s.here | inr ne ↦ let lt2 : j < k = omega arith in s.others (to j) (λ d. distinct j k lt2 le d) ∙ f.fills j lt2 ];
            others = λ a no. s.others a (no k (omega arith)) ∙ f.others a (λ j lt. no j (omega arith));
          },
          stay u s before.1,
        )

abbrev HasW : ℕ → Machine → Type 0
HasW x u = u.registers.w ≡ x

store_one : (to : ℕ) (x : ℕ) (u : Machine) → Fine u → HasW x u → Stores u (run (store_code to) u) to x
store_one to x u ok e = subst (λ (n : ℕ). Stores u (run (store_code to) u) to n) e
    (subst (λ (v : Machine). Fine v → Stores v (run (store_code to) v) to u.registers.w) (going_is u ok.going) (store_at to u.registers u.memory) ok)

clear_one : (clearable : Bool) (to : ℕ) (u : Machine) → Fine u → Stores u (run (set_code clearable to 0) u) to 0
clear_one clearable to u ok = subst (λ (v : Machine). Fine v → Stores v (run (set_code clearable to 0) v) to 0) (going_is u ok.going) (clear_at clearable to u.registers u.memory) ok

-- bytes become W
pub stored : (to : Operand) (x w : ℕ) → x < 256 → AreDistinct w to → (t : Machine) → Fine t → t.registers.w ≡ x → Filled t.memory (run (stores_code to w) t) to x w
stored to x w small distinct t ok e = (fills (λ k. store_code (to k)) to x w (HasW x) small (λ k u f h. store_one (to k) x u f h) (λ k u s h. s.keeps h) distinct t ok e w (omega arith)).0

-- bytes become 0
pub cleared : (clearable : Bool) (to : Operand) (w : ℕ) → AreDistinct w to → (t : Machine) → Fine t → Filled t.memory (run (clears_code clearable to w) t) to 0 w
cleared clearable to w distinct t ok = (fills (λ k. set_code clearable (to k) 0) to 0 w (λ _. Unit {0}) (omega arith) (λ k u f h. clear_one clearable (to k) u f) (λ k u s h. tt) distinct t ok tt w (omega arith)).0

-- ---- the sign in W
pub record Signed (t u : Machine) (x : ℕ) : Type 0 where
  pub fine : Fine u
  pub w : u.registers.w ≡ 255 * (x / 128)
  pub same : (a : ℕ) → u.memory a ≡ t.memory a

pub sign_in : (top : ℕ) (t : Machine) → Fine t → Signed t (run (sign_code top) t) (t.memory top)
sign_in top t ok = subst (λ (v : Machine). Fine v → Signed v (run (sign_code top) v) (v.memory top)) (going_is t ok.going) (at top t.registers t.memory) ok
  where
    at : (top : ℕ) (r : Registers) (m : Memory) → Fine (going r m) → Signed (going r m) (run (sign_code top) (going r m)) (m top)
    at top r m ok =
        let lt : m top < 256 = ok.bytes top in
        record {
          fine = record { going = grind (arith, nat_tests); carry = grind (arith, nat_tests, ok.carry); zero = grind (arith, nat_tests, ok.zero); bytes = λ a. grind (arith, nat_tests, ok.bytes a) };
          w = grind (arith, nat_tests);
          same = λ a. grind (arith, nat_tests);
        }

-- ---- numbers
-- the bytes below k and those behind them
pub val_split : (f : ℕ → ℕ) (k n : ℕ) → val f (k + n) ≡ val f k + 256 ^ k * val (λ j. f (k + j)) n
val_split f k zero = let e : k + 0 ≡ k = omega arith in ap (val f) e ∙ omega arith
val_split f k (suc n) =
    let e : k + suc n ≡ suc (k + n) = omega arith in
    ap (val f) e ∙ more (256 ^ k) (256 ^ n) (256 ^ (k + n)) (val f (k + n)) (val f k) (val (λ j. f (k + j)) n) (f (k + n)) (pow-add 256 k n) (val_split f k n)
  where
    more : (p q r v a b x : ℕ) → r ≡ p * q → v ≡ a + p * b → v + r * x ≡ a + p * (b + q * x)
    more p q r v a b x e h = let e2 : r * x ≡ p * q * x = ap (λ z. z * x) e in omega (arith, h, e2)

pub val_zero : (f : ℕ → ℕ) (k : ℕ) → ((j : ℕ) → j < k → f j ≡ 0) → val f k ≡ 0
val_zero f zero h = refl
val_zero f (suc k) h = zeros (256 ^ k) _ _ (val_zero f k (λ j lt. h j (omega arith))) (h k (omega arith))
  where
    zeros : (p v x : ℕ) → v ≡ 0 → x ≡ 0 → v + p * x ≡ 0
    zeros p v x e f = rw (e, f) (omega arith)

pub val_ones : (f : ℕ → ℕ) (k : ℕ) → ((j : ℕ) → j < k → f j ≡ 255) → val f k + 1 ≡ 256 ^ k
val_ones f zero h = refl
val_ones f (suc k) h = ones (256 ^ k) (256 ^ suc k) _ _ (pow-suc 256 k) (val_ones f k (λ j lt. h j (omega arith))) (h k (omega arith))
  where
    ones : (p q v x : ℕ) → q ≡ p * 256 → v + 1 ≡ p → x ≡ 255 → v + p * x + 1 ≡ q
    ones p q v x e f g = let h : p * x ≡ p * 255 = ap (λ z. p * z) g in omega (arith, h)

-- s says whether they are all ones or all 0
pub val_fill : (f : ℕ → ℕ) (k s : ℕ) → s < 2 → ((j : ℕ) → j < k → f j ≡ 255 * s) → val f k + s ≡ 256 ^ k * s
val_fill f k s lt h = elim (cases_lt s 1) [
  | inl z ↦ let e : s ≡ 0 = omega arith in none (256 ^ k) (val f k) s e (val_zero f k (λ j l. h j l ∙ ap (λ n. 255 * n) e))
  | inr z ↦ let e : s ≡ 1 = omega arith in all (256 ^ k) (val f k) s e (val_ones f k (λ j l. h j l ∙ ap (λ n. 255 * n) e))
]
  where
    none : (p v s : ℕ) → s ≡ 0 → v ≡ 0 → v + s ≡ p * s
    none p v s e h = rw (e, h) (omega arith)

    all : (p v s : ℕ) → s ≡ 1 → v + 1 ≡ p → v + s ≡ p * s
    all p v s e h = rw e (omega (arith, h))
