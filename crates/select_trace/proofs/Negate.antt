-- A value that is negated where a bit says so.
use Rattle.std.proofs.Common.{◌≡◌, ℕ, ◌+◌, ◌-◌, ◌*◌, ◌/◌, ◌%◌, ◌^◌, ◌<◌, ◌≤◌, List, [], ◌∷◌, ◌++◌, append_assoc, refl, ap, sym, ◌∙◌, subst, arith, inl, inr}
use Rattle.std.specs.Prelude.{nat_eq, if◌then◌else◌, true, false}
use Rattle.std.proofs.lemmas.Nat.{mod-mul-add}
use Rattle.std.proofs.lemmas.Bool.{cases_lt, ne_eqb, eq-eqb}
use Rattle.sym_code.specs.Effect.{Memory}
use Rattle.select_trace.specs.Run.{Machine, Skipping, Sym, Test, Goto, Label, going, run, Going}
use Rattle.sym_code.specs.declared.code.BitOperation.TheVariants.{Btfss}
use Rattle.sym_code.specs.Registers.{Registers}
use Rattle.select_trace.specs.Links.{Fine}
use Rattle.select_trace.specs.Helpers.{Layout, Value, Invert, Increment, each, AreApart, negate_if_code}
use Rattle.select_trace.specs.Steps.{number_of, Steps}
use Rattle.select_trace.proofs.Vals.{run_append, going_is}
use Rattle.select_trace.proofs.RoutineSteps.{invert, increment}
use Rattle.select_trace.proofs.Stays.{number_below, seeking, past}

pub label_passed : (n : ℕ) (u : Machine) → u.mode ≡ Going → run (Label n ∷ []) u ≡ u
label_passed n u is = subst (λ (v : Machine). run (Label n ∷ []) v ≡ v) (going_is u is) refl

pub record Negates (l : Layout) (t u : Machine) (v : Value) : Type 0 where
  pub steps : Steps l t u v
  pub is : number_of l u v ≡ (256 ^ l.width - number_of l t v) % 256 ^ l.width

abbrev pub negate_code : Layout → Value → List Sym
negate_code l v = each l (Invert v) ++ each l (Increment v)

pub negated : (b n x y z : ℕ) → x + n + 1 ≡ b → y + b * z ≡ x + 1 → y < b → z < 2 → n < b → y ≡ (b - n) % b
negated b n x y z e h lt zs ns = elim (cases_lt n 1) [
  | inl no_n ↦
      let n0 : n ≡ 0 = omega arith in
      let z1 : z ≡ 1 = elim (cases_lt z 1) [ inl l ↦ let z0 : z ≡ 0 = omega arith in let h2 : y + b * 0 ≡ x + 1 = rw z0 at h in absurd (omega (arith, h2)) | inr g ↦ omega arith ] in
      let h2 : y + b * 1 ≡ x + 1 = rw z1 at h in
      let y0 : y ≡ 0 = omega (arith, h2) in
      rw (y0, n0) (sym (mod_self b (omega arith)))
  | inr some ↦
      let z0 : z ≡ 0 = elim (cases_lt z 1) [ inl l ↦ omega arith | inr g ↦ let z1 : z ≡ 1 = omega arith in let h2 : y + b * 1 ≡ x + 1 = rw z1 at h in absurd (omega (arith, h2)) ] in
      let h2 : y + b * 0 ≡ x + 1 = rw z0 at h in
      let is : y ≡ b - n = omega (arith, h2) in
      sym (ap (λ k. k % b) (sym is) ∙ mod_small y b lt)
]
  where
    mod_small : (y b : ℕ) → y < b → y % b ≡ y
    mod_small y b lt = let e : y ≡ 0 * b + y = omega arith in ap (λ z. z % b) e ∙ mod-mul-add 0 b y lt

    mod_self : (b : ℕ) → 0 < b → (b - 0) % b ≡ 0
    mod_self b lt = let e : b - 0 ≡ 1 * b + 0 = omega arith in ap (λ z. z % b) e ∙ mod-mul-add 1 b 0 lt

pub negate : (l : Layout) → AreApart l → 0 < l.width → (v : Value) (t : Machine) → Fine t → Negates l t (run (negate_code l v) t) v
negate l apart wide v t ok =
    let t1 : Machine = run (each l (Invert v)) t in
    let h1 = invert l apart v t ok in
    let h2 = increment l apart wide v t1 h1.1.fine in
    subst (λ (u : Machine). Negates l t u v) (sym (run_append (each l (Invert v)) (each l (Increment v)) t)) (record {
      steps = record { fine = h2.1.fine; others = λ a no. h2.1.others a no ∙ h1.1.others a no };
      is = negated (256 ^ l.width) (number_of l t v) (number_of l t1 v) _ _ h1.0 h2.0 (number_below l _ h2.1.fine v) h2.1.fine.zero (number_below l t ok v);
    })

-- ---- where a bit says so
pub record NegatesIf (l : Layout) (x : ℕ) (t u : Machine) (v : Value) : Type 0 where
  pub steps : Steps l t u v
  pub stays : x < 128 → number_of l u v ≡ number_of l t v
  pub turns : 128 ≤ x → number_of l u v ≡ (256 ^ l.width - number_of l t v) % 256 ^ l.width

bracketed : (l : Layout) (sign n : ℕ) (v : Value) → negate_if_code l sign v n ≡ (Test Btfss sign 7 ∷ Goto n ∷ []) ++ (each l (Invert v) ++ (each l (Increment v) ++ (Label n ∷ [])))
bracketed l sign n v = simp append_assoc

own_label : (n : ℕ) (r : Registers) (m : Memory) → run (Label n ∷ []) (seeking n r m) ≡ going r m
own_label n r m = rw (eq-eqb n n refl) refl

negate_if_at : (l : Layout) → AreApart l → 0 < l.width → (sign n : ℕ) (v : Value) (r : Registers) (m : Memory) → Fine (going r m) → NegatesIf l (m sign) (going r m) (run (negate_if_code l sign v n) (going r m)) v
negate_if_at l apart wide sign n v r m ok = elim (cases_lt (m sign) 128) [
  | inl lt ↦
      let begin : run (Test Btfss sign 7 ∷ Goto n ∷ []) (going r m) ≡ seeking n r m = low (m sign) lt r m n in
      let e : run (negate_if_code l sign v n) (going r m) ≡ going r m =
      ap (λ xs. run xs (going r m)) (bracketed l sign n v) ∙ run_append (Test Btfss sign 7 ∷ Goto n ∷ []) (each l (Invert v) ++ (each l (Increment v) ++ (Label n ∷ []))) (going r m)
      ∙ ap (run (each l (Invert v) ++ (each l (Increment v) ++ (Label n ∷ [])))) begin
      ∙ run_append (each l (Invert v)) (each l (Increment v) ++ (Label n ∷ [])) (seeking n r m) ∙ ap (run (each l (Increment v) ++ (Label n ∷ []))) (past l (Invert v) l.width n r m)
      ∙ run_append (each l (Increment v)) (Label n ∷ []) (seeking n r m) ∙ ap (run (Label n ∷ [])) (past l (Increment v) l.width n r m) ∙ own_label n r m in
      subst (λ (u : Machine). NegatesIf l (m sign) (going r m) u v) (sym e) (record { steps = record { fine = ok; others = λ a no. refl }; stays = λ _. refl; turns = λ ge. absurd (omega arith) })
  | inr ge ↦
      let begin : run (Test Btfss sign 7 ∷ Goto n ∷ []) (going r m) ≡ going r m = high (m sign) ge (ok.bytes sign) r m n in
      let h : Negates l (going r m) (run (negate_code l v) (going r m)) v = negate l apart wide v (going r m) ok in
      let e : run (negate_if_code l sign v n) (going r m) ≡ run (negate_code l v) (going r m) =
      ap (λ xs. run xs (going r m)) (bracketed l sign n v) ∙ run_append (Test Btfss sign 7 ∷ Goto n ∷ []) (each l (Invert v) ++ (each l (Increment v) ++ (Label n ∷ []))) (going r m)
      ∙ ap (run (each l (Invert v) ++ (each l (Increment v) ++ (Label n ∷ [])))) begin
      ∙ ap (λ xs. run xs (going r m)) (sym (append_assoc (each l (Invert v)) (each l (Increment v)) (Label n ∷ [])))
      ∙ run_append (negate_code l v) (Label n ∷ []) (going r m) ∙ label_passed n (run (negate_code l v) (going r m)) h.steps.fine.going in
      subst (λ (u : Machine). NegatesIf l (m sign) (going r m) u v) (sym e) (record { steps = h.steps; stays = λ lt. absurd (omega arith); turns = λ _. h.is })
]
  where
    low : (x : ℕ) → x < 128 → (r : Registers) (m : Memory) (n : ℕ) → run (Goto n ∷ []) (record { mode = (if nat_eq (x / 2 ^ 7 % 2) 1 then Skipping else Going); registers = r; memory = m }) ≡ seeking n r m
    low x lt r m n = let e : nat_eq (x / 2 ^ 7 % 2) 1 ≡ false = ne_eqb (x / 2 ^ 7 % 2) 1 (λ d. absurd (omega arith)) in rw e refl

    high : (x : ℕ) → 128 ≤ x → x < 256 → (r : Registers) (m : Memory) (n : ℕ) → run (Goto n ∷ []) (record { mode = (if nat_eq (x / 2 ^ 7 % 2) 1 then Skipping else Going); registers = r; memory = m }) ≡ going r m
    high x ge lt r m n = let e : nat_eq (x / 2 ^ 7 % 2) 1 ≡ true = eq-eqb (x / 2 ^ 7 % 2) 1 (omega arith) in rw e refl

pub negate_if : (l : Layout) → AreApart l → 0 < l.width → (sign n : ℕ) (v : Value) (t : Machine) → Fine t → NegatesIf l (t.memory sign) t (run (negate_if_code l sign v n) t) v
negate_if l apart wide sign n v t ok = subst (λ (u : Machine). Fine u → NegatesIf l (u.memory sign) u (run (negate_if_code l sign v n) u) v) (going_is t ok.going) (λ k. negate_if_at l apart wide sign n v t.registers t.memory k) ok
