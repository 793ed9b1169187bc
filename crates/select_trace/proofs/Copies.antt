-- Copies of several bytes.
use Rattle.std.proofs.Common.{◌≡◌, ℕ, zero, suc, ◌<◌, ◌≤◌, refl, sym, ◌∙◌, subst, arith, inl, inr}
use Rattle.std.proofs.lemmas.Bool.{cases_eq}
use Rattle.std.proofs.lemmas.Bool.Decides.{nat_tests}
use Rattle.sym_code.specs.Effect.{Memory}
use Rattle.select_trace.specs.Run.{Machine, going, run, Going}
use Rattle.sym_code.specs.Registers.{Registers}
use Rattle.select_trace.specs.Code.{Operand, rising, copy_code}
use Rattle.select_trace.specs.Links.{Fine, Apart}
use Rattle.select_trace.specs.Ripples.{AreDistinct}
use Rattle.select_trace.specs.Copies.{Copied}
use Rattle.select_trace.proofs.Vals.{run_append, going_is}

pub record Copies (m : Memory) (t : Machine) (to from : ℕ) : Type 0 where
  pub going : t.mode ≡ Going
  pub carry : t.registers.c < 2
  pub zero : t.registers.z < 2
  pub here : t.memory to ≡ m from
  pub others : (b : ℕ) → (b ≡ to → ⊥) → t.memory b ≡ m b

one_at : (r : Registers) (m : Memory) (to from : ℕ) → r.c < 2 → Copies m (run (copy_code to from) (going r m)) to from
one_at r m to from c = record {
  going = grind (arith, nat_tests);
  carry = grind (arith, nat_tests);
  zero = grind (arith, nat_tests);
  here = grind (arith, nat_tests);
  others = λ b ne. grind (arith, nat_tests);
}

pub one_copied : (u : Machine) → Fine u → (to from : ℕ) → Copies u.memory (run (copy_code to from) u) to from
one_copied u ok to from = subst (λ (v : Machine). Copies u.memory (run (copy_code to from) v) to from) (going_is u ok.going) (one_at u.registers u.memory to from ok.carry)

-- A write spoils no later byte that is read.
pub copied : (to from : Operand) (w : ℕ) → AreDistinct w to → Apart w to from → (t : Machine) → Fine t → (k : ℕ) → k ≤ w → Copied t.memory (run (rising (λ k. copy_code (to k) (from k)) k) t) to from k
copied to from w distinct apart t ok zero le = record { fine = ok; copies = λ j lt. absurd (omega arith); others = λ a h. refl }
copied to from w distinct apart t ok (suc k) le =
    subst (λ (v : Machine). Copied t.memory v to from (suc k)) (sym (run_append (rising (λ k. copy_code (to k) (from k)) k) (copy_code (to k) (from k)) t))
    (more to from w distinct apart t.memory k le (run (rising (λ k. copy_code (to k) (from k)) k) t) (copied to from w distinct apart t ok k (omega arith)))
  where
    more : (to from : Operand) (w : ℕ) → AreDistinct w to → Apart w to from → (m : Memory) (k : ℕ) → suc k ≤ w → (u : Machine) → Copied m u to from k → Copied m (run (copy_code (to k) (from k)) u) to from (suc k)
    more to from w distinct apart m k le u h =
        let v : Machine = run (copy_code (to k) (from k)) u in
        let one : Copies u.memory v (to k) (from k) = one_copied u h.fine (to k) (from k) in
        record {
          fine = record { going = one.going; carry = one.carry; zero = one.zero; bytes = λ a. elim (cases_eq a (to k)) [ inl e ↦ rw (e, one.here) (h.fine.bytes (from k)) | inr ne ↦ rw (one.others a ne) (h.fine.bytes a) ] };
          copies = λ j lt. elim (cases_eq j k) [
            | inl e ↦ rw (e, one.here) (h.others (from k) (λ i lti d. apart i k lti le (sym d)))
            | inr ne ↦ let lt2 : j < k = omega arith in one.others (to j) (λ d. distinct j k lt2 le d) ∙ h.copies j lt2
          ];
          others = λ a no. one.others a (no k (omega arith)) ∙ h.others a (λ j lt. no j (omega arith));
        }
