-- One bit to the left or right, on any operand, and several bits.
use Rattle.std.proofs.Common.{◌≡◌, ℕ, zero, suc, ◌+◌, ◌-◌, ◌*◌, ◌/◌, ◌%◌, ◌^◌, ◌<◌, ◌≤◌, [], ◌∷◌, refl, ap, sym, ◌∙◌, subst, arith, ◌⊎◌, inl, inr}
use Rattle.std.proofs.Math.Nat.{pow-succ'}
use Rattle.sym_code.specs.declared.code.FileOperation.TheVariants.{Rlf, Rrf}
use Rattle.select_trace.specs.Run.{Machine, Flag, run}
use Rattle.sym_code.specs.declared.code.BitOperation.TheVariants.{Bcf}
use Rattle.sym_code.specs.declared.code.Into.TheVariants.{W, File}
use Rattle.select_trace.specs.Code.{Operand, file_code, bit_up_code, bit_down_code, behind, Way, Left, Right, SignedRight, bit_shift_code, bit_shifts_code}
use Rattle.select_trace.specs.Links.{Fine}
use Rattle.select_trace.specs.Ripples.{total, Rippled, AreDistinct}
use Rattle.select_trace.specs.Values.{val}
use Rattle.select_trace.specs.Shifts.{IsTop}
use Rattle.select_trace.specs.Constants.{WayGone}
use Rattle.select_trace.proofs.Vals.{run_append, val_same}
use Rattle.select_trace.proofs.Ripples.{upward, rippled}
use Rattle.select_trace.proofs.RoutineSteps.{carry_of, Shifts, Shifted, rlf, one_of, shifted_more}
use Rattle.select_trace.proofs.ShiftRight.{downward, Halves, Halved, rrf, halved_more, whole_val, top_bit, TopOf, to_carry}
use Rattle.select_trace.proofs.Shift.{left_more, gone_right, top_more, two_below}
use Rattle.select_trace.proofs.Product.{cleared, clears_carry}
use Rattle.select_trace.proofs.Unary.{Within, of_ripple_at}

pub up : (at : Operand) (w : ℕ) → AreDistinct w at → (t : Machine) → Fine t →
    (val (λ j. (run (bit_up_code at w) t).memory (at j)) w + 256 ^ w * (run (bit_up_code at w) t).registers.c ≡ 2 * val (λ j. t.memory (at j)) w + t.registers.c) × (Within t (run (bit_up_code at w) t) at w)
up at w distinct t ok =
    let all = of_ripple_at carry_of (Shifted t.registers.c) at w t (run (bit_up_code at w) t)
    (rippled carry_of upward Shifts (Shifted t.registers.c) (λ k. file_code Rlf (at k) File) at w (λ k lt. one_of carry_of (Shifts k) (file_code Rlf (at k) File) (at k) (λ r m. rlf r m (at k))) distinct
    (λ k v u c x y d lt. shifted_more t.registers.c k v u c x y d) t ok (omega arith) w (omega arith)) in
    (all.0, all.1)

pub down : (at : Operand) (w : ℕ) → AreDistinct w at → (t : Machine) → Fine t →
    (2 * val (λ j. (run (bit_down_code at w) t).memory (at j)) w + (run (bit_down_code at w) t).registers.c ≡ 256 ^ w * t.registers.c + val (λ j. t.memory (at j)) w) × (Within t (run (bit_down_code at w) t) at w)
down at w distinct t ok =
    let to : ℕ → ℕ = λ k. at (w - 1 - k) in
    let apart : AreDistinct w to = λ j k lt ltw e. distinct (w - 1 - k) (w - 1 - j) (omega arith) (omega arith) (sym e) in
    let u : Machine = run (bit_down_code at w) t in
    let h : Rippled carry_of downward (Halved t.registers.c) t u to w =
    rippled carry_of downward Halves (Halved t.registers.c) (λ k. file_code Rrf (at (w - 1 - k)) File) to w (λ k lt. one_of carry_of (Halves k) (file_code Rrf (at (w - 1 - k)) File) (to k) (λ r m. rrf r m (to k))) apart
    (λ k v u c x y d lt. halved_more t.registers.c k v u c x y d) t ok (start t.registers.c) w (omega arith) in
    let a : total downward (λ j. t.memory (to j)) w ≡ val (λ j. t.memory (at j)) w = whole_val (λ j. t.memory (at j)) w in
    let b : total downward (λ j. u.memory (to j)) w ≡ val (λ j. u.memory (at j)) w = whole_val (λ j. u.memory (at j)) w in (
      ap (λ x. 2 * x + u.registers.c) (sym b) ∙ h.has ∙ ap (λ x. 256 ^ w * t.registers.c + x) a,
      record { fine = h.fine; others = λ x no. h.others x (λ j lt e. no (w - 1 - j) (omega arith) e) },
    )
  where
    start : (c : ℕ) → 2 * 0 + c ≡ 1 * c + 0
    start c = omega arith

-- the part that a shift by so many whole bytes leaves for single bits
abbrev pub part_of : Way → Operand → ℕ → Operand
part_of Left at bytes = behind at bytes
part_of Right at bytes = at
part_of SignedRight at bytes = at

pub record OneBit (way : Way) (t u : Machine) (at : Operand) (w : ℕ) : Type 0 where
  pub within : Within t u at w
  pub gone : (s n i : ℕ) → WayGone way (256 ^ w) s n i (val (λ j. t.memory (at j)) w) → WayGone way (256 ^ w) s n (suc i) (val (λ j. u.memory (at j)) w)

one_bit : (way : Way) (at : Operand) (width bytes : ℕ) → bytes < width → AreDistinct width at → (t : Machine) → Fine t → OneBit way t (run (bit_shift_code way at width bytes) t) (part_of way at bytes) (width - bytes)
one_bit Left at width bytes less distinct t ok =
    let w : ℕ = width - bytes in
    let t0 : Machine = cleared t in
    let f0 : Fine t0 = record { going = ok.going; carry = omega arith; zero = ok.zero; bytes = ok.bytes } in
    let h = up (behind at bytes) w (λ j k l m e. distinct (bytes + j) (bytes + k) (omega arith) (omega arith) e) t0 f0 in
    let e : run (bit_shift_code Left at width bytes) t ≡ run (bit_up_code (behind at bytes) w) t0 = run_append (Flag Bcf 0 ∷ []) (bit_up_code (behind at bytes) w) t ∙ ap (run (bit_up_code (behind at bytes) w)) (clears_carry t ok.going) in
    subst (λ (u : Machine). OneBit Left t u (behind at bytes) w) (sym e) (record {
      within = record { fine = h.1.fine; others = h.1.others };
      gone = λ s n i g. left_more (256 ^ w) n i (2 ^ i) (2 ^ suc i) (val (λ j. t.memory (behind at bytes j)) w) _ _ (pow-succ' 2 i) (h.0 ∙ omega arith) g;
    })
one_bit Right at width bytes less distinct t ok =
    let w : ℕ = width - bytes in
    let t0 : Machine = cleared t in
    let f0 : Fine t0 = record { going = ok.going; carry = omega arith; zero = ok.zero; bytes = ok.bytes } in
    let h = down at w (λ j k l m e. distinct j k l (omega arith) e) t0 f0 in
    let e : run (bit_shift_code Right at width bytes) t ≡ run (bit_down_code at w) t0 = run_append (Flag Bcf 0 ∷ []) (bit_down_code at w) t ∙ ap (run (bit_down_code at w)) (clears_carry t ok.going) in
    subst (λ (u : Machine). OneBit Right t u at w) (sym e) (record {
      within = record { fine = h.1.fine; others = h.1.others };
      gone = λ s n i g. gone_right (256 ^ w) 0 n i (val (λ j. t.memory (at j)) w) _ _ h.0 h.1.fine.carry g;
    })
one_bit SignedRight at width bytes less distinct t ok =
    let w : ℕ = width - bytes in
    let wide : 0 < w = omega arith in
    let t0 : Machine = run (file_code Rlf (at (w - 1)) W) t in
    let c : TopOf t t0 (t.memory (at (w - 1))) = to_carry t ok (at (w - 1)) in
    let h = down at w (λ j k l m e. distinct j k l (omega arith) e) t0 c.fine in
    let same : val (λ j. t0.memory (at j)) w ≡ val (λ j. t.memory (at j)) w = val_same _ _ w (λ j lt. c.same (at j)) in
    let e : run (bit_shift_code SignedRight at width bytes) t ≡ run (bit_down_code at w) t0 = run_append (file_code Rlf (at (w - 1)) W) (bit_down_code at w) t in
    let top = top_bit (λ j. t.memory (at j)) w wide (λ j lt. ok.bytes (at j)) in
    subst (λ (u : Machine). OneBit SignedRight t u at w) (sym e) (record {
      within = record { fine = h.1.fine; others = λ a no. h.1.others a no ∙ c.same a };
      gone = λ s n i g.
          let is : t0.registers.c ≡ s = c.carry ∙ top_is _ _ _ _ top (ok.bytes (at (w - 1))) g.1 in
          let step : 2 * val (λ j. (run (bit_down_code at w) t0).memory (at j)) w + (run (bit_down_code at w) t0).registers.c ≡ 256 ^ w * s + val (λ j. t.memory (at j)) w = h.0 ∙ ap (λ x. 256 ^ w * x + val (λ j. t0.memory (at j)) w) is ∙ ap (λ x. 256 ^ w * s + x) same in (
            gone_right (256 ^ w) s n i (val (λ j. t.memory (at j)) w) _ _ step h.1.fine.carry g.0,
            top_more (256 ^ w) s (val (λ j. t.memory (at j)) w) _ _ (two_below w wide) step h.1.fine.carry g.1,
          );
    })
  where
    top_is : (x b a s : ℕ) → ((128 ≤ x) × (b ≤ 2 * a)) ⊎ ((x < 128) × (2 * a < b)) → x < 256 → IsTop b a s → x / 128 % 2 ≡ s
    top_is x b a s h lt t = elim h [
      | inl hi ↦ elim t [ inl one ↦ (omega (arith, hi.0)) ∙ sym one.0 | inr none ↦ absurd (omega (arith, hi.1, none.1)) ]
      | inr lo ↦ elim t [ inl one ↦ absurd (omega (arith, lo.1, one.1)) | inr none ↦ (omega (arith, lo.0)) ∙ sym none.0 ]
    ]

pub record SomeBits (way : Way) (s n : ℕ) (t u : Machine) (at : Operand) (w count : ℕ) : Type 0 where
  pub within : Within t u at w
  pub gone : WayGone way (256 ^ w) s n count (val (λ j. u.memory (at j)) w)

pub some_bits : (way : Way) (s n : ℕ) (at : Operand) (width bytes : ℕ) → bytes < width → AreDistinct width at → (t : Machine) → Fine t → WayGone way (256 ^ (width - bytes)) s n 0 (val (λ j. t.memory (part_of way at bytes j)) (width - bytes)) →
    (count : ℕ) → SomeBits way s n t (run (bit_shifts_code way at width bytes count) t) (part_of way at bytes) (width - bytes) count
some_bits way s n at width bytes less distinct t ok g zero = record { within = record { fine = ok; others = λ a no. refl }; gone = g }
some_bits way s n at width bytes less distinct t ok g (suc k) =
    let u : Machine = run (bit_shifts_code way at width bytes k) t in
    let h : SomeBits way s n t u (part_of way at bytes) (width - bytes) k = some_bits way s n at width bytes less distinct t ok g k in
    let o : OneBit way u (run (bit_shift_code way at width bytes) u) (part_of way at bytes) (width - bytes) = one_bit way at width bytes less distinct u h.within.fine in
    subst (λ (v : Machine). SomeBits way s n t v (part_of way at bytes) (width - bytes) (suc k)) (sym (run_append (bit_shifts_code way at width bytes k) (bit_shift_code way at width bytes) t))
    (record { within = record { fine = o.within.fine; others = λ a no. o.within.others a no ∙ h.within.others a no }; gone = o.gone s n k h.gone })
