-- In a near layout RP1 and IRP are 0 at each moment.
use Rattle.std.proofs.Common.{◌≡◌, ℕ, zero, suc, ◌/◌, ◌<◌, true, false, List, refl, sym, ap, ◌∙◌, subst, arith}
use Rattle.std.specs.Prelude.{slice_index}
use Rattle.pic_chip.specs.Instructions.{swap}
use Rattle.pic_chip.specs.State.{State}
use Rattle.sym_code.specs.Effect.{Setting, Thread}
use Rattle.sym_code.specs.Layout.{all_near}
use Rattle.sym_code.specs.Machine.{Machine}
use Rattle.sym_code.specs.Registers.{Registers, bank}
use Rattle.chip_trace.proofs.Context.{swap_twice}
use Rattle.chip_trace.proofs.Image.{IsImage}
use Rattle.chip_trace.proofs.Relations.{Ground, Sees}
use Rattle.chip_trace.proofs.Sound.{IsGood, IsLow}
use Rattle.chip_trace.proofs.Stands.{Mode, InMain, Saving, Selecting, InHandler, Leaving, IsHeld, IsSaved, saved, given, cell, status}

saved_bank : (k : ℕ) (a : State) → (saved k a).bank ≡ a.bank
saved_bank zero a = refl
saved_bank (suc zero) a = refl
saved_bank (suc (suc zero)) a = refl
saved_bank (suc (suc (suc zero))) a = refl
saved_bank (suc (suc (suc (suc zero)))) a = refl
saved_bank (suc (suc (suc (suc (suc zero))))) a = refl
saved_bank (suc (suc (suc (suc (suc (suc zero)))))) a = refl
saved_bank (suc (suc (suc (suc (suc (suc (suc k))))))) a = refl

given_bank : (r k : ℕ) (a : State) → a.bank < 2 → swap (cell a 89) / 32 < 2 → (given r k a).bank < 2
given_bank r zero a x y = x
given_bank r (suc zero) a x y = x
given_bank r (suc (suc zero)) a x y = x
given_bank r (suc (suc (suc zero))) a x y = x
given_bank r (suc (suc (suc (suc zero)))) a x y = x
given_bank r (suc (suc (suc (suc (suc zero))))) a x y = x
given_bank r (suc (suc (suc (suc (suc (suc zero)))))) a x y = y
given_bank r (suc (suc (suc (suc (suc (suc (suc zero))))))) a x y = y
given_bank r (suc (suc (suc (suc (suc (suc (suc (suc k)))))))) a x y = y

seen_low : (s : State) (r : Registers) → Sees s r → IsLow r → s.bank < 2
seen_low s r sees low = let l0 = low.0 in let l1 = low.1 in let b = sees.bank in let r0 = sees.banks.0 in omega (arith, l0, l1, b, r0)

module _ (g : Setting) (h : Ground) (image input : List ℕ) (hd : ℕ) (x : IsImage g h image input hd) (near : all_near g.program.layout ≡ true) where
  -- what was saved of STATUS
  saved_low : (u : Thread) (k : State) (ram : List ℕ) → IsHeld g h image hd x.vector u k → IsSaved g h image hd x.vector k ram → IsLow u.registers → swap (slice_index ram 89) / 32 < 2
  saved_low u k ram held s low =
      let r = held.ranged in
      let q1 = r.bank in let q2 = r.z in let q3 = r.dc in let q4 = r.c in
      let full : status k < 256 = omega (arith, q1, q2, q3, q4) in
      let is : swap (slice_index ram 89) ≡ status k = ap swap s.status ∙ swap_twice (status k) full in
      let b = seen_low k u.registers held.at.sees low in
      omega (arith, is, b, q2, q3, q4)

  pub low_by : (t : Machine) (u : Thread) (k s : State) (done : ℕ) → IsGood g false u → Mode g h image hd x.vector t u k s done → s.bank < 2
  low_by t u k s done good (InMain q a) = seen_low s u.registers a.at.sees (good.low near)
  low_by t u k s done good (Saving has i a lo hi q en is) =
      subst (λ b. b < 2) (sym (ap (λ (y : State). y.bank) is ∙ saved_bank i a)) (seen_low a u.registers en.sees (good.low near))
  low_by t u k s done good (Selecting has j p a lj q en sel is) =
      subst (λ b. b < 2) (sym (ap (λ (y : State). y.bank) is)) (seen_low a u.registers en.sees (good.low near))
  low_by t u k s done good (InHandler has q a) = seen_low s t.isr.registers a.at.sees (a.good.low near)
  low_by t u k s done good (Leaving has i a lk q lf is) =
      subst (λ b. b < 2) (sym (ap (λ (y : State). y.bank) is)) (given_bank h.restore i a (lf.low near) (saved_low u k a.ram lf.held lf.saved (good.low near)))
