-- Shifts by a variable.
use Rattle.std.proofs.Common.{◌≡◌, ℕ, zero, suc, ◌+◌, ◌-◌, ◌*◌, ◌/◌, ◌%◌, ◌^◌, ◌<◌, ◌≤◌, [], ◌∷◌, refl, ap, sym, ◌∙◌, subst, arith, ◌⊎◌, inl, inr}
use Rattle.std.specs.Prelude.{nat_eq, if◌then◌else◌}
use Rattle.select_trace.proofs.Links.{nonzero}
use Rattle.std.proofs.Math.Nat.{pow-succ', pow-suc}
use Rattle.std.proofs.lemmas.Nat.{mul-le}
use Rattle.std.proofs.lemmas.Bool.Decides.{nat_tests}
use Rattle.sym_code.specs.Effect.{Memory}
use Rattle.select_trace.specs.Run.{Machine, Flag, Return, Returned, going, run, Going}
use Rattle.sym_code.specs.declared.code.BitOperation.TheVariants.{Btfsc, Bcf}
use Rattle.sym_code.specs.Registers.{Registers}
use Rattle.sym_code.specs.declared.code.FileOperation.TheVariants.{Movf, Rlf}
use Rattle.select_trace.specs.Code.{rising, copy_code}
use Rattle.select_trace.specs.Links.{Fine}
use Rattle.select_trace.specs.Copies.{Copied}
use Rattle.select_trace.specs.Helpers.{Layout, Value, Left, Right, Answer, Answers, ShiftLeft, ShiftRight, each, AreApart, to_file, to_w, one_bit_code, Direction, Leftward, Rightward, SignedRightward}
use Rattle.select_trace.specs.Steps.{number_of, Steps}
use Rattle.select_trace.specs.Shifts.{GoneRight, IsTop, Gone, SparesAnswer, shift_start, ReturnsAtOnce, GoesRound}
use Rattle.select_trace.proofs.Vals.{run_append, going_is, val_same}
use Rattle.select_trace.proofs.Copies.{copied}
use Rattle.select_trace.proofs.RoutineSteps.{shift_left, each_is}
use Rattle.select_trace.proofs.CountedLoops.{Counts, looped}
use Rattle.select_trace.proofs.ShiftRight.{shift_right, top_bit, TopOf, to_carry}
use Rattle.select_trace.proofs.Product.{cleared, clears_carry}

-- ---- the answer becomes a value
pub answer_is : (l : Layout) → AreApart l → (v : Value) → (Answer ≡ v → ⊥) → (t : Machine) → Fine t →
    (number_of l (run (each l (Answers v)) t) Answer ≡ number_of l t v) × (Steps l t (run (each l (Answers v)) t) Answer)
answer_is l apart v ne t ok =
    let h : Copied t.memory (run (rising (λ k. copy_code (l.at Answer k) (l.at v k)) l.width) t) (l.at Answer) (l.at v) l.width =
    copied (l.at Answer) (l.at v) l.width (apart.within Answer) (λ j k lt ltw e. apart.between Answer v ne j k (omega arith) ltw e) t ok l.width (omega arith) in
    let h2 : Copied t.memory (run (each l (Answers v)) t) (l.at Answer) (l.at v) l.width = rw (each_is l (Answers v) l.width) at h in
    (val_same _ _ l.width (λ j lt. h2.copies j lt), record { fine = h2.fine; others = h2.others })

-- ---- one bit
pub record OneBit (l : Layout) (direction : Direction) (t u : Machine) : Type 0 where
  pub steps : Steps l t u Answer
  pub gone : (s n i : ℕ) → Gone direction (256 ^ l.width) s n i (number_of l t Answer) → Gone direction (256 ^ l.width) s n (suc i) (number_of l u Answer)

pub left_more : (b n i p q a c x : ℕ) → q ≡ 2 * p → x + b * c ≡ 2 * a → (over : ℕ) × (a + b * over ≡ n * p) → (over : ℕ) × (x + b * over ≡ n * q)
left_more b n i p q a c x e h g = (c + 2 * g.0, let e2 : n * q ≡ n * (2 * p) = ap (λ z. n * z) e in omega (arith, h, g.1, e2))

right_more : (b s n p q a d x r : ℕ) → q ≡ 2 * p → 2 * x + d ≡ b * s + a → d < 2 → r < p → n + b * s * p ≡ a * p + r + b * s → (rest : ℕ) × (rest < q) × (n + b * s * q ≡ x * q + rest + b * s)
right_more b s n p q a d x r e h ds lt is =
    let dp : d * p ≤ 1 * p = mul-le d p 1 p (omega arith) (omega arith) in
    let hp : (2 * x + d) * p ≡ (b * s + a) * p = ap (λ z. z * p) h in
    let e1 : b * s * q ≡ b * s * (2 * p) = ap (λ z. b * s * z) e in
    let e2 : x * q ≡ x * (2 * p) = ap (λ z. x * z) e in
    (d * p + r, omega (arith, dp, e), omega (arith, hp, e1, e2, is))

pub gone_right : (b s n i a d x : ℕ) → 2 * x + d ≡ b * s + a → d < 2 → GoneRight b s n i a → GoneRight b s n (suc i) x
gone_right b s n i a d x h ds g =
    let r = right_more b s n (2 ^ i) (2 ^ suc i) a d x g.rest (pow-succ' 2 i) h ds g.small g.is in
    record { rest = r.0; small = r.1; is = r.2 }

pub top_more : (b s a d x : ℕ) → 2 ≤ b → 2 * x + d ≡ b * s + a → d < 2 → IsTop b a s → IsTop b x s
top_more b s a d x bs h ds t = elim t [
  | inl one ↦ let e : b * s ≡ b * 1 = ap (λ z. b * z) one.0 in inl (one.0, omega (arith, one.1, e, h))
  | inr none ↦ let e : b * s ≡ b * 0 = ap (λ z. b * z) none.0 in inr (none.0, omega (arith, none.1, e, h))
]

pub two_below : (w : ℕ) → 0 < w → 2 ≤ 256 ^ w
two_below zero lt = absurd (omega arith)
two_below (suc w) lt = at (256 ^ w) (256 ^ suc w) (pow-suc 256 w) (pow256 w)
  where
    at : (p q : ℕ) → q ≡ p * 256 → 0 < p → 2 ≤ q
    at p q e h = omega arith

    pow256 : (w : ℕ) → 0 < 256 ^ w
    pow256 zero = omega arith
    pow256 (suc w) = let h : 0 < 256 ^ w = pow256 w in let e : 256 ^ suc w ≡ 256 ^ w * 256 = pow-suc 256 w in omega arith

pub one_bit : (l : Layout) → AreApart l → 0 < l.width → (direction : Direction) (t : Machine) → Fine t → OneBit l direction t (run (one_bit_code l direction) t)
one_bit l apart wide Leftward t ok =
    let t0 : Machine = cleared t in
    let f0 : Fine t0 = record { going = ok.going; carry = omega arith; zero = ok.zero; bytes = ok.bytes } in
    let h = shift_left l apart Answer t0 f0 in
    let e : run (one_bit_code l Leftward) t ≡ run (each l (ShiftLeft Answer)) t0 = run_append (Flag Bcf 0 ∷ []) (each l (ShiftLeft Answer)) t ∙ ap (run (each l (ShiftLeft Answer))) (clears_carry t ok.going) in
    subst (λ (u : Machine). OneBit l Leftward t u) (sym e) (record {
      steps = record { fine = h.1.fine; others = h.1.others };
      gone = λ s n i g. left_more (256 ^ l.width) n i (2 ^ i) (2 ^ suc i) (number_of l t Answer) _ _ (pow-succ' 2 i) (h.0 ∙ omega arith) g;
    })
one_bit l apart wide Rightward t ok =
    let t0 : Machine = cleared t in
    let f0 : Fine t0 = record { going = ok.going; carry = omega arith; zero = ok.zero; bytes = ok.bytes } in
    let h = shift_right l apart t0 f0 in
    let e : run (one_bit_code l Rightward) t ≡ run (each l ShiftRight) t0 = run_append (Flag Bcf 0 ∷ []) (each l ShiftRight) t ∙ ap (run (each l ShiftRight)) (clears_carry t ok.going) in
    subst (λ (u : Machine). OneBit l Rightward t u) (sym e) (record {
      steps = record { fine = h.1.fine; others = h.1.others };
      gone = λ s n i g. gone_right (256 ^ l.width) 0 n i (number_of l t Answer) _ _ h.0 h.1.fine.carry g;
    })
one_bit l apart wide SignedRightward t ok =
    let t0 : Machine = run (to_w Rlf (l.at Answer (l.width - 1)) ∷ []) t in
    let c : TopOf t t0 (t.memory (l.at Answer (l.width - 1))) = to_carry t ok (l.at Answer (l.width - 1)) in
    let h = shift_right l apart t0 c.fine in
    let same : number_of l t0 Answer ≡ number_of l t Answer = val_same _ _ l.width (λ j lt. c.same (l.at Answer j)) in
    let e : run (one_bit_code l SignedRightward) t ≡ run (each l ShiftRight) t0 = run_append (to_w Rlf (l.at Answer (l.width - 1)) ∷ []) (each l ShiftRight) t in
    let top = top_bit (λ j. t.memory (l.at Answer j)) l.width wide (λ j lt. ok.bytes (l.at Answer j)) in
    subst (λ (u : Machine). OneBit l SignedRightward t u) (sym e) (record {
      steps = record { fine = h.1.fine; others = λ a no. h.1.others a no ∙ c.same a };
      gone = λ s n i g.
          let is : t0.registers.c ≡ s = c.carry ∙ top_is _ _ _ _ top (ok.bytes (l.at Answer (l.width - 1))) g.1 in
          let step : 2 * number_of l (run (each l ShiftRight) t0) Answer + (run (each l ShiftRight) t0).registers.c ≡ 256 ^ l.width * s + number_of l t Answer = h.0 ∙ ap (λ x. 256 ^ l.width * x + number_of l t0 Answer) is ∙ ap (λ x. 256 ^ l.width * s + x) same in (
            gone_right (256 ^ l.width) s n i (number_of l t Answer) _ _ step h.1.fine.carry g.0,
            top_more (256 ^ l.width) s (number_of l t Answer) _ _ (two_below l.width wide) step h.1.fine.carry g.1,
          );
    })
  where
    top_is : (x b a s : ℕ) → ((128 ≤ x) × (b ≤ 2 * a)) ⊎ ((x < 128) × (2 * a < b)) → x < 256 → IsTop b a s → x / 128 % 2 ≡ s
    top_is x b a s h lt t = elim h [
      | inl hi ↦ elim t [ inl one ↦ (omega (arith, hi.0)) ∙ sym one.0 | inr none ↦ absurd (omega (arith, hi.1, none.1)) ]
      | inr lo ↦ elim t [ inl one ↦ absurd (omega (arith, lo.1, one.1)) | inr none ↦ (omega (arith, lo.0)) ∙ sym none.0 ]
    ]

-- ---- the loop
answer≢right : Answer ≡ Right → ⊥
answer≢right e = cc

right≢answer : Right ≡ Answer → ⊥
right≢answer e = cc

answer≢left : Answer ≡ Left → ⊥
answer≢left e = cc

left≢answer : Left ≡ Answer → ⊥
left≢answer e = cc

record Shifted (l : Layout) (direction : Direction) (s : ℕ) (t : Machine) (i : ℕ) (u : Machine) : Type 0 where
  spares : SparesAnswer l t u
  gone : Gone direction (256 ^ l.width) s (number_of l t Left) i (number_of l u Answer)

shifted_more : (l : Layout) → AreApart l → 0 < l.width → (direction : Direction) (s : ℕ) (t0 : Machine) (i : ℕ) (t : Machine) → Fine t → Shifted l direction s t0 i t →
    (fine : Fine (run (one_bit_code l direction) t)) × (Shifted l direction s t0 (suc i) (run (one_bit_code l direction) t)) × ((run (one_bit_code l direction) t).memory (l.at Right 0) ≡ t.memory (l.at Right 0))
shifted_more l apart wide direction s t0 i t ok h =
    let o : OneBit l direction t (run (one_bit_code l direction) t) = one_bit l apart wide direction t ok in (
      o.steps.fine,
      record { spares = λ a na nr. o.steps.others a na ∙ h.spares a na nr; gone = o.gone s (number_of l t0 Left) i h.gone },
      o.steps.others (l.at Right 0) (λ j lt e. apart.between Right Answer right≢answer 0 j wide lt e),
    )

shifted_stable : (l : Layout) → AreApart l → 0 < l.width → (direction : Direction) (s : ℕ) (t0 : Machine) (i : ℕ) (t u : Machine) → Shifted l direction s t0 i t → Counts t u (l.at Right 0) → Shifted l direction s t0 i u
shifted_stable l apart wide direction s t0 i t u h c =
    let e : number_of l u Answer ≡ number_of l t Answer = val_same _ _ l.width (λ j lt. c.others (l.at Answer j) (λ e. apart.between Answer Right answer≢right j 0 lt wide e)) in
    record {
      spares = λ a na nr. c.others a nr ∙ h.spares a na nr;
      gone = subst (λ (x : ℕ). Gone direction (256 ^ l.width) s (number_of l t0 Left) i x) (sym e) h.gone;
    }

-- ---- the start
record Tested (t u : Machine) (a : ℕ) : Type 0 where
  mode : u.mode ≡ (if nat_eq (t.memory a) 0 then Returned else Going)
  carry : u.registers.c < 2
  zero : u.registers.z < 2
  same : (b : ℕ) → u.memory b ≡ t.memory b

tested_at : (r : Registers) (m : Memory) (a : ℕ) → r.c < 2 → Tested (going r m) (run (to_file Movf a ∷ Flag Btfsc 2 ∷ Return ∷ []) (going r m)) a
tested_at r m a c = record {
  mode = grind (arith, nat_tests);
  carry = grind (arith, nat_tests);
  zero = grind (arith, nat_tests);
  same = λ b. grind (arith, nat_tests);
}

tested : (t : Machine) → Fine t → (a : ℕ) → Tested t (run (to_file Movf a ∷ Flag Btfsc 2 ∷ Return ∷ []) t) a
tested t ok a = subst (λ (v : Machine). Tested v (run (to_file Movf a ∷ Flag Btfsc 2 ∷ Return ∷ []) v) a) (going_is t ok.going) (tested_at t.registers t.memory a ok.carry)

pub gone_none : (direction : Direction) (b s n : ℕ) → IsTop b n s → Gone direction b s n 0 n
gone_none Leftward b s n top = (0, omega arith)
gone_none Rightward b s n top = record { rest = 0; small = omega arith; is = omega arith }
gone_none SignedRightward b s n top = (record { rest = 0; small = omega arith; is = omega arith }, top)

pub shift : (l : Layout) → AreApart l → 0 < l.width → (direction : Direction) (s : ℕ) (t : Machine) → Fine t → IsTop (256 ^ l.width) (number_of l t Left) s → ReturnsAtOnce l t ⊎ GoesRound l direction s t
shift l apart wide direction s t ok top = from (t.memory (l.at Right 0)) refl
  where
    u : Machine
    u = run (each l (Answers Left)) t

    first : (number_of l u Answer ≡ number_of l t Left) × (Steps l t u Answer)
    first = answer_is l apart Left answer≢left t ok

    v : Machine
    v = run (shift_start l) t

    second : Tested u v (l.at Right 0)
    second = subst (λ (x : Machine). Tested u x (l.at Right 0)) (sym (run_append (each l (Answers Left)) (to_file Movf (l.at Right 0) ∷ Flag Btfsc 2 ∷ Return ∷ []) t)) (tested u first.1.fine (l.at Right 0))

    count : u.memory (l.at Right 0) ≡ t.memory (l.at Right 0)
    count = first.1.others (l.at Right 0) (λ j lt e. apart.between Right Answer right≢answer 0 j wide lt e)

    answer : number_of l v Answer ≡ number_of l t Left
    answer = val_same _ _ l.width (λ j lt. second.same (l.at Answer j)) ∙ first.0

    spares : SparesAnswer l t v
    spares a na nr = second.same a ∙ first.1.others a na

    from : (n : ℕ) → n ≡ t.memory (l.at Right 0) → ReturnsAtOnce l t ⊎ GoesRound l direction s t
    from zero e = inl (record {
      none = sym e;
      mode = second.mode ∙ ap (λ x. if nat_eq x 0 then Returned else Going) (count ∙ sym e);
      answer = answer;
      spares = spares;
    })
    from (suc n) e =
        let going : v.mode ≡ Going = second.mode ∙ ap (λ x. if nat_eq x 0 then Returned else Going) (count ∙ sym e) ∙ ap (λ b. if b then Returned else Going) (nonzero n) in
        let fine : Fine v = record { going = going; carry = second.carry; zero = second.zero; bytes = λ a. rw (second.same a) (first.1.fine.bytes a) } in
        let start : Shifted l direction s t 0 v = record { spares = spares; gone = subst (λ (x : ℕ). Gone direction (256 ^ l.width) s (number_of l t Left) 0 x) (sym answer) (gone_none direction (256 ^ l.width) s (number_of l t Left) top) } in
        let all = looped 0 (l.at Right 0) (one_bit_code l direction) (Shifted l direction s t) (suc n) (λ i x lt f h. shifted_more l apart wide direction s t i x f h) (shifted_stable l apart wide direction s t) n 0 v (omega arith) (subst (λ (x : ℕ). x < 256) (sym e) (ok.bytes (l.at Right 0))) fine (second.same (l.at Right 0) ∙ count ∙ sym e) start in
        inr (record {
          rounds = n;
          as_bits = sym e;
          begins = going;
          out = all.0;
          loops = all.1;
          fine = all.2;
          spares = all.3.spares;
          gone = all.3.gone;
        })
