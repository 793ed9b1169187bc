-- Where the remainder is at least the right operand, that is taken off it.
use Rattle.std.proofs.Common.{◌≡◌, ℕ, ◌+◌, ◌*◌, ◌^◌, ◌<◌, List, [], ◌∷◌, ◌++◌, append_assoc, refl, ap, sym, ◌∙◌, subst, arith, inl, inr}
use Rattle.std.proofs.lemmas.Bool.{cases_lt}
use Rattle.sym_code.specs.Effect.{Memory}
use Rattle.select_trace.specs.Run.{Machine, Sym, Flag, Goto, Label, going, run, Going}
use Rattle.sym_code.specs.declared.code.BitOperation.TheVariants.{Bsf, Btfsc, Btfss}
use Rattle.sym_code.specs.Registers.{Registers}
use Rattle.select_trace.specs.Links.{Fine}
use Rattle.select_trace.specs.Helpers.{Layout, Value, Right, Remainder, Subtract, Compare, each, take_off_code, AreApart}
use Rattle.select_trace.specs.Steps.{number_of, Steps}
use Rattle.select_trace.proofs.Vals.{run_append, going_is, val_same}
use Rattle.select_trace.proofs.RoutineSteps.{subtract, compare}
use Rattle.select_trace.proofs.Stays.{seeking, past, number_below}

-- where C and the remainder make one number, the right operand is taken off as often as it goes, which is once or not at all
pub record TakesOff (l : Layout) (t u : Machine) : Type 0 where
  pub steps : Steps l t u Remainder
  pub divides : number_of l t Remainder + 256 ^ l.width * t.registers.c < 2 * number_of l t Right →
      (number_of l t Remainder + 256 ^ l.width * t.registers.c ≡ u.registers.c * number_of l t Right + number_of l u Remainder) × (number_of l u Remainder < number_of l t Right)

-- the end: subtract, and set C
abbrev carrying : Machine → Machine
carrying t = record t { registers = record t.registers { c = 1 } }

abbrev tail_of : Layout → List Sym
tail_of l = each l Subtract ++ Flag Bsf 0 ∷ Label 2 ∷ []

bracketed : (l : Layout) → take_off_code l ≡ (Flag Btfsc 0 ∷ Goto 1 ∷ []) ++ (each l Compare ++ (Flag Btfss 0 ∷ Goto 2 ∷ Label 1 ∷ tail_of l))
bracketed l = simp append_assoc

ends : (u : Machine) → u.mode ≡ Going → run (Flag Bsf 0 ∷ Label 2 ∷ []) u ≡ carrying u
ends u is = subst (λ (t : Machine). run (Flag Bsf 0 ∷ Label 2 ∷ []) t ≡ carrying t) (going_is u is) refl

subtracts : (l : Layout) → AreApart l → 0 < l.width → (t : Machine) → Fine t →
    Steps l t (run (tail_of l) t) Remainder × ((run (tail_of l) t).registers.c ≡ 1) ×
    (d : ℕ) × (number_of l (run (tail_of l) t) Remainder + number_of l t Right + 256 ^ l.width * d ≡ number_of l t Remainder + 256 ^ l.width) × (d < 2)
subtracts l apart wide t ok =
    let u : Machine = run (each l Subtract) t in
    let h = subtract l apart wide t ok in
    let f : Fine u = h.1.fine in
    let e : carrying u ≡ run (tail_of l) t = sym (run_append (each l Subtract) (Flag Bsf 0 ∷ Label 2 ∷ []) t ∙ ends u f.going) in
    subst (λ (v : Machine). Steps l t v Remainder × (v.registers.c ≡ 1) × (d : ℕ) × (number_of l v Remainder + number_of l t Right + 256 ^ l.width * d ≡ number_of l t Remainder + 256 ^ l.width) × (d < 2)) e
    (record { fine = record { going = f.going; carry = omega arith; zero = f.zero; bytes = f.bytes }; others = h.1.others }, refl, u.registers.c, h.0, f.carry)

put : (n b c k d s a e : ℕ) → c ≡ a → k ≡ e → n + b * a ≡ e * d + s → n + b * c ≡ k * d + s
put n b c k d s a e x y h = rw (x, y) h

put_below : (n b c d a : ℕ) → c ≡ a → n + b * c < 2 * d → n + b * a < 2 * d
put_below n b c d a x h = rw x at h

-- with the carry
with_carry : (b r d s x : ℕ) → r < b → d < b → s < b → x < 2 → s + d + b * x ≡ r + b → r + b * 1 < 2 * d → (r + b * 1 ≡ 1 * d + s) × (s < d)
with_carry b r d s x rb db sb lt e h = elim (cases_lt x 1) [
  | inl l ↦ let z : x ≡ 0 = omega arith in let e2 : s + d + b * 0 ≡ r + b = rw z at e in omega (arith, e2)
  | inr g ↦ let z : x ≡ 1 = omega arith in let e2 : s + d + b * 1 ≡ r + b = rw z at e in omega (arith, e2)
]

off_with_carry : (l : Layout) → AreApart l → 0 < l.width → (t : Machine) → Fine t → t.registers.c ≡ 1 → TakesOff l t (run (take_off_code l) t)
off_with_carry l apart wide t ok c =
    let h = subtracts l apart wide t ok in
    subst (λ (v : Machine). TakesOff l t v) (sym (way l t ok c))
    (record {
      steps = h.0;
      divides = λ lt.
          let lt2 = put_below (number_of l t Remainder) (256 ^ l.width) t.registers.c (number_of l t Right) 1 c lt in
          let r = with_carry (256 ^ l.width) (number_of l t Remainder) (number_of l t Right) (number_of l (run (tail_of l) t) Remainder) h.2
          (number_below l t ok Remainder) (number_below l t ok Right) (number_below l _ h.0.fine Remainder) h.4 h.3 lt2 in
          (put _ _ _ _ _ _ _ _ c h.1 r.0, r.1);
    })
  where
    way_at : (l : Layout) (r : Registers) (m : Memory) → r.c ≡ 1 → run (take_off_code l) (going r m) ≡ run (tail_of l) (going r m)
    way_at l r m c =
        let start : run (Flag Btfsc 0 ∷ Goto 1 ∷ []) (going r m) ≡ seeking 1 r m = rw c refl in
        ap (λ xs. run xs (going r m)) (bracketed l) ∙ run_append (Flag Btfsc 0 ∷ Goto 1 ∷ []) (each l Compare ++ (Flag Btfss 0 ∷ Goto 2 ∷ Label 1 ∷ tail_of l)) (going r m) ∙ ap (run (each l Compare ++ (Flag Btfss 0 ∷ Goto 2 ∷ Label 1 ∷ tail_of l))) start
        ∙ run_append (each l Compare) (Flag Btfss 0 ∷ Goto 2 ∷ Label 1 ∷ tail_of l) (seeking 1 r m) ∙ ap (run (Flag Btfss 0 ∷ Goto 2 ∷ Label 1 ∷ tail_of l)) (past l Compare l.width 1 r m)

    way : (l : Layout) (t : Machine) → Fine t → t.registers.c ≡ 1 → run (take_off_code l) t ≡ run (tail_of l) t
    way l t ok c = subst (λ (v : Machine). run (take_off_code l) v ≡ run (tail_of l) v) (going_is t ok.going) (way_at l t.registers t.memory c)

-- without it
enough : (b r d s x n y : ℕ) → r < b → d < b → s < b → x < 2 → n < b → n + d + b * 1 ≡ r + b → s + d + b * x ≡ r + b → (r + b * 0 ≡ 1 * d + s) × (r + b * 0 < 2 * d → s < d)
enough b r d s x n y rb db sb lt nb e h = elim (cases_lt x 1) [
  | inl l ↦ let z : x ≡ 0 = omega arith in let e2 : s + d + b * 0 ≡ r + b = rw z at h in omega (arith, e2)
  | inr g ↦ let z : x ≡ 1 = omega arith in let e2 : s + d + b * 1 ≡ r + b = rw z at h in omega (arith, e2)
]

off_without : (l : Layout) → AreApart l → 0 < l.width → (t : Machine) → Fine t → t.registers.c ≡ 0 → TakesOff l t (run (take_off_code l) t)
off_without l apart wide t ok c =
    let u : Machine = run (each l Compare) t in
    let k = compare l wide t ok in
    let f : Fine u = k.0 in
    let from : run (take_off_code l) t ≡ run (Flag Btfss 0 ∷ Goto 2 ∷ Label 1 ∷ tail_of l) u = start l t ok c in
    let same : (v : Value) → number_of l u v ≡ number_of l t v = λ v. val_same _ _ l.width (λ j lt. k.1 (l.at v j)) in
    elim (cases_lt u.registers.c 1) [
      | inl lt ↦
          let z : u.registers.c ≡ 0 = omega arith in
          let e : number_of l t Remainder < number_of l t Right = small _ _ _ _ _ z k.3 k.4 in
          subst (λ (v : Machine). TakesOff l t v) (sym (from ∙ misses l u f z))
          (record {
            steps = record { fine = f; others = λ a no. k.1 a };
            divides = λ lt2. (put _ _ _ _ _ _ 0 0 c z (nothing _ _ _ _ (same Remainder)), rw (same Remainder) e);
          })
      | inr ge ↦
          let one : u.registers.c ≡ 1 = omega (arith, f.carry) in
          let h = subtracts l apart wide u f in
          subst (λ (v : Machine). TakesOff l t v) (sym (from ∙ hits l u f one))
          (record {
            steps = record { fine = h.0.fine; others = λ a no. h.0.others a no ∙ k.1 a };
            divides =
                let k4 : k.2 + number_of l t Right + 256 ^ l.width * 1 ≡ number_of l t Remainder + 256 ^ l.width = rw one at k.4 in
                let h3 : number_of l (run (tail_of l) u) Remainder + number_of l t Right + 256 ^ l.width * h.2 ≡ number_of l t Remainder + 256 ^ l.width = rw (same Right, same Remainder) at h.3 in
                let r = enough (256 ^ l.width) (number_of l t Remainder) (number_of l t Right) (number_of l (run (tail_of l) u) Remainder) h.2 k.2 0
                (number_below l t ok Remainder) (number_below l t ok Right) (number_below l _ h.0.fine Remainder) h.4 k.3 k4 h3 in
                λ lt. (put _ _ _ _ _ _ _ _ c h.1 r.0, r.1 (put_below _ _ _ _ _ c lt));
          })
    ]
  where
    nothing : (n b d s : ℕ) → s ≡ n → n + b * 0 ≡ 0 * d + s
    nothing n b d s e = omega arith

    small : (b r d n x : ℕ) → x ≡ 0 → n < b → n + d + b * x ≡ r + b → r < d
    small b r d n x z lt e = let e2 : n + d + b * 0 ≡ r + b = rw z at e in omega (arith, e2)

    start_at : (l : Layout) (r : Registers) (m : Memory) → r.c ≡ 0 → run (take_off_code l) (going r m) ≡ run (Flag Btfss 0 ∷ Goto 2 ∷ Label 1 ∷ tail_of l) (run (each l Compare) (going r m))
    start_at l r m c =
        let begin : run (Flag Btfsc 0 ∷ Goto 1 ∷ []) (going r m) ≡ going r m = rw c refl in
        ap (λ xs. run xs (going r m)) (bracketed l) ∙ run_append (Flag Btfsc 0 ∷ Goto 1 ∷ []) (each l Compare ++ (Flag Btfss 0 ∷ Goto 2 ∷ Label 1 ∷ tail_of l)) (going r m) ∙ ap (run (each l Compare ++ (Flag Btfss 0 ∷ Goto 2 ∷ Label 1 ∷ tail_of l))) begin
        ∙ run_append (each l Compare) (Flag Btfss 0 ∷ Goto 2 ∷ Label 1 ∷ tail_of l) (going r m)

    start : (l : Layout) (t : Machine) → Fine t → t.registers.c ≡ 0 → run (take_off_code l) t ≡ run (Flag Btfss 0 ∷ Goto 2 ∷ Label 1 ∷ tail_of l) (run (each l Compare) t)
    start l t ok c = subst (λ (v : Machine). run (take_off_code l) v ≡ run (Flag Btfss 0 ∷ Goto 2 ∷ Label 1 ∷ tail_of l) (run (each l Compare) v)) (going_is t ok.going) (start_at l t.registers t.memory c)

    misses_at : (l : Layout) (r : Registers) (m : Memory) → r.c ≡ 0 → run (Flag Btfss 0 ∷ Goto 2 ∷ Label 1 ∷ tail_of l) (going r m) ≡ going r m
    misses_at l r m c =
        let begin : run (Flag Btfss 0 ∷ Goto 2 ∷ Label 1 ∷ []) (going r m) ≡ seeking 2 r m = rw c refl in
        run_append (Flag Btfss 0 ∷ Goto 2 ∷ Label 1 ∷ []) (tail_of l) (going r m) ∙ ap (run (tail_of l)) begin
        ∙ run_append (each l Subtract) (Flag Bsf 0 ∷ Label 2 ∷ []) (seeking 2 r m) ∙ ap (run (Flag Bsf 0 ∷ Label 2 ∷ [])) (past l Subtract l.width 2 r m)

    misses : (l : Layout) (u : Machine) → Fine u → u.registers.c ≡ 0 → run (Flag Btfss 0 ∷ Goto 2 ∷ Label 1 ∷ tail_of l) u ≡ u
    misses l u ok c = subst (λ (v : Machine). run (Flag Btfss 0 ∷ Goto 2 ∷ Label 1 ∷ tail_of l) v ≡ v) (going_is u ok.going) (misses_at l u.registers u.memory c)

    hits_at : (l : Layout) (r : Registers) (m : Memory) → r.c ≡ 1 → run (Flag Btfss 0 ∷ Goto 2 ∷ Label 1 ∷ tail_of l) (going r m) ≡ run (tail_of l) (going r m)
    hits_at l r m c =
        let begin : run (Flag Btfss 0 ∷ Goto 2 ∷ Label 1 ∷ []) (going r m) ≡ going r m = rw c refl in
        run_append (Flag Btfss 0 ∷ Goto 2 ∷ Label 1 ∷ []) (tail_of l) (going r m) ∙ ap (run (tail_of l)) begin

    hits : (l : Layout) (u : Machine) → Fine u → u.registers.c ≡ 1 → run (Flag Btfss 0 ∷ Goto 2 ∷ Label 1 ∷ tail_of l) u ≡ run (tail_of l) u
    hits l u ok c = subst (λ (v : Machine). run (Flag Btfss 0 ∷ Goto 2 ∷ Label 1 ∷ tail_of l) v ≡ run (tail_of l) v) (going_is u ok.going) (hits_at l u.registers u.memory c)

pub takes_off : (l : Layout) → AreApart l → 0 < l.width → (t : Machine) → Fine t → TakesOff l t (run (take_off_code l) t)
takes_off l apart wide t ok = elim (cases_lt t.registers.c 1) [
  | inl lt ↦ off_without l apart wide t ok (omega arith)
  | inr ge ↦ off_with_carry l apart wide t ok (omega (arith, ok.carry))
]
