-- Runs of one thread without an event and without an access through FSR, step by step.
use Rattle.std.proofs.Common.{◌≡◌, ℕ, zero, suc, ◌+◌, Bool, false, if◌then◌else◌, List, [], ◌∷◌, Some, None, ap, sym, ◌∙◌, arith, inl, inr, drop, length, get_or, slice_get, add-one}
use Rattle.std.proofs.lemmas.Option.{slice_get-get_or}
use Rattle.std.proofs.Math.Seq.{drop-cons}
use Rattle.std.proofs.Math.ListN.{drop_of_length-le}
use Rattle.std.proofs.lemmas.Bool.{cases_lt}
use Rattle.sym_code.specs.Effect.{Setting, effect, effect_rest, effect_at, effect_if, effect_of}
use Rattle.sym_code.specs.Programs.{Program, Position, position, fetched, stand, labels_in_front}
use Rattle.sym_code.specs.Quiet.{Scene, quiet_by, quiet_if, quiet_step, quiet_run, quiet_cost, price_at, price_if}
use Rattle.sym_code.specs.declared.code.BlockName.{BlockName}
use Rattle.sym_code.specs.declared.code.Sym.{Sym}
use Rattle.select_wide.specs.Direct.{is_indirect, next_of, direct_step, direct_if, direct_run}
use Rattle.select_wide.proofs.Direct.{step_direct, run_quiet}

-- what stands in front
pub head_of : {A : Type 0} (code : List A) (i : ℕ) (x : A) (rest : List A) → drop i code ≡ x ∷ rest → (slice_get code i ≡ Some x) × (drop (i + 1) code ≡ rest)
head_of {A} code i x rest e = elim (cases_lt i (length code)) [
  | inl lt ↦
      let d : drop i code ≡ get_or code i x ∷ drop (suc i) code = drop-cons code i x lt in
      let both : get_or code i x ∷ drop (suc i) code ≡ x ∷ rest = sym d ∙ e in
      (slice_get-get_or code i x lt ∙ ap (λ (y : A). Some y) (heads both), ap (λ k. drop k code) (add-one i) ∙ tails both)
  | inr ge ↦ let d : drop i code ≡ [] = drop_of_length-le code ge in let c : [] ≡ x ∷ rest = sym d ∙ e in absurd (cc)
]
  where
    heads : {a b : A} {xs ys : List A} → a ∷ xs ≡ b ∷ ys → a ≡ b
    heads e = cc

    tails : {a b : A} {xs ys : List A} → a ∷ xs ≡ b ∷ ys → xs ≡ ys
    tails e = cc

-- one step, then the others
pub first_then : (g : Setting) (inside : Bool) (n : ℕ) (s u : Scene) → direct_step g inside s ≡ Some u → direct_run g inside (suc n) s ≡ direct_run g inside n u
unfolding direct_run
first_then g inside zero s u e = e
first_then g inside (suc n) s u e = ap (direct_if g inside) (first_then g inside n s u e)

quiet_then : (g : Setting) (inside : Bool) (n : ℕ) (s u : Scene) → quiet_step g inside s ≡ Some u → quiet_run g inside (suc n) s ≡ quiet_run g inside n u
unfolding quiet_run
quiet_then g inside zero s u e = e
quiet_then g inside (suc n) s u e = ap (quiet_if g inside) (quiet_then g inside n s u e)

pub first_cost : (g : Setting) (price : BlockName → ℕ → ℕ) (inside : Bool) (n : ℕ) (s u : Scene) → direct_step g inside s ≡ Some u → quiet_cost g price inside (suc n) s ≡ price_at price s.thread.at + quiet_cost g price inside n u
unfolding quiet_cost quiet_run
first_cost g price inside zero s u e = omega arith
first_cost g price inside (suc n) s u e =
    let h : quiet_cost g price inside (suc n) s ≡ price_at price s.thread.at + quiet_cost g price inside n u = first_cost g price inside n s u e in
    let f : price_if price (quiet_run g inside (suc n) s) ≡ price_if price (quiet_run g inside n u) = ap (price_if price) (quiet_then g inside n s u (step_direct g inside s u e).1) in
    put _ _ _ _ _ h f
  where
    put : (a b c d e : ℕ) → a ≡ b + c → d ≡ e → a + d ≡ b + (c + e)
    put a b c d e p q = omega arith

-- some steps, then others
pub runs_then : (g : Setting) (inside : Bool) (n m : ℕ) (s u : Scene) → direct_run g inside n s ≡ Some u → direct_run g inside (n + m) s ≡ direct_run g inside m u
unfolding direct_run
runs_then g inside n zero s u e = ap (λ k. direct_run g inside k s) (let f : n + 0 ≡ n = omega arith in f) ∙ e
runs_then g inside n (suc m) s u e = ap (λ k. direct_run g inside k s) (let f : n + suc m ≡ suc (n + m) = omega arith in f) ∙ ap (direct_if g inside) (runs_then g inside n m s u e)

quiet_runs : (g : Setting) (inside : Bool) (n m : ℕ) (s u : Scene) → quiet_run g inside n s ≡ Some u → quiet_run g inside (n + m) s ≡ quiet_run g inside m u
unfolding quiet_run
quiet_runs g inside n zero s u e = ap (λ k. quiet_run g inside k s) (let f : n + 0 ≡ n = omega arith in f) ∙ e
quiet_runs g inside n (suc m) s u e = ap (λ k. quiet_run g inside k s) (let f : n + suc m ≡ suc (n + m) = omega arith in f) ∙ ap (quiet_if g inside) (quiet_runs g inside n m s u e)

pub costs_then : (g : Setting) (price : BlockName → ℕ → ℕ) (inside : Bool) (n m : ℕ) (s u : Scene) → direct_run g inside n s ≡ Some u → quiet_cost g price inside (n + m) s ≡ quiet_cost g price inside n s + quiet_cost g price inside m u
unfolding quiet_cost
costs_then g price inside n zero s u e = ap (λ k. quiet_cost g price inside k s) (let f : n + 0 ≡ n = omega arith in f) ∙ (omega arith)
costs_then g price inside n (suc m) s u e =
    let h : quiet_cost g price inside (n + m) s ≡ quiet_cost g price inside n s + quiet_cost g price inside m u = costs_then g price inside n m s u e in
    let f : price_if price (quiet_run g inside (n + m) s) ≡ price_if price (quiet_run g inside m u) = ap (price_if price) (quiet_runs g inside n m s u (run_quiet g inside n s u e)) in
    ap (λ k. quiet_cost g price inside k s) (let f : n + suc m ≡ suc (n + m) = omega arith in f) ∙ put _ _ _ _ _ h f
  where
    put : (a b c d e : ℕ) → a ≡ b + c → d ≡ e → a + d ≡ b + (c + e)
    put a b c d e p q = omega arith

-- a thread with nothing left to write stands at an instruction that names no INDF
pub step_is : (g : Setting) (inside : Bool) (s : Scene) (p : Position) (x : Sym) → s.thread.rest ≡ None → s.thread.at ≡ Some p → fetched g.program p ≡ Some x → is_indirect (Some x) ≡ false →
    direct_step g inside s ≡ quiet_by g.program s.memory (effect_of g inside p s.thread s.memory x)
unfolding effect
step_is g inside s p x idle at there direct =
    ap (λ b. if b then None else quiet_step g inside s) (ap (λ o. is_indirect (next_of g.program o)) at ∙ ap is_indirect there ∙ direct)
    ∙ ap (λ o. quiet_by g.program s.memory (effect_rest g inside s.thread s.memory o)) idle
    ∙ ap (λ o. quiet_by g.program s.memory (effect_at g inside s.thread s.memory o)) at
    ∙ ap (λ o. quiet_by g.program s.memory (effect_if g inside p s.thread s.memory o)) there

-- where no label stands, the code goes on right there
pub stand_at : (q : Program) (block : BlockName) (i : ℕ) → labels_in_front (drop i (q.block block)) ≡ 0 → stand q (position block i) ≡ position block i
unfolding stand
stand_at q block i e = ap (position block) (let f : i + labels_in_front (drop i (q.block block)) ≡ i = omega (arith, e) in f)
