-- The next micro-step that counts is found.
use Rattle.std.proofs.Common.{◌≡◌, ℕ, zero, suc, ◌+◌, ◌<◌, ◌≤◌, Bool, true, false, not, ◌||◌, Option, refl, sym, ap, ◌∙◌, subst, arith}
use Rattle.std.proofs.lemmas.Bool.{false≢true}
use Rattle.std.specs.Prelude.{if◌then◌else◌}
use Rattle.pic_world.specs.World.{Happening}
use Rattle.src_rules.proofs.Moments.{starts, steps, gone_stands}
use Rattle.src_rules.proofs.Weighing.{weight_falls}
use Rattle.src_rules.specs.Laws.{IsProper, IsOfBytes, WeightFalls, IsReadyBehind, ReadyComes, RunsCompose, StepsAreMoments}
use Rattle.src_rules.specs.Runs.{gone, run, is_taken, is_ready, ready_within, ready, moment, take, after}
use Rattle.src_rules.specs.Standing.{Stands}
use Rattle.src_rules.specs.State.{State, Outcome, Went, Undefined, Idle, Lost}
use Rattle.src_rules.specs.Step.{start, step, counts}
use Rattle.src_rules.specs.Weights.{weight}
use Rattle.src_values.specs.Memory.{Setting}
use Rattle.src_values.specs.declared.objects.Byte.{Byte}

pub falls : WeightFalls
falls s t h e u event w = weight_falls s t h e u event w

pub compose : RunsCompose
unfolding run
compose s m zero t = let e : m + 0 ≡ m = omega arith in ap (λ k. run s k t) e
compose s m (suc n) t = let e : m + suc n ≡ suc (m + n) = omega arith in ap (λ k. run s k t) e ∙ ap (λ u. gone u (step s u)) (compose s m n t)

-- the first micro-step, and then the others
first_then : (s : Setting) (n : ℕ) (t : State) → run s n (gone t (step s t)) ≡ run s (suc n) t
unfolding run
first_then s n t = let e : 1 + n ≡ suc n = omega arith in sym (compose s 1 n t) ∙ ap (λ k. run s k t) e

unready : (a b : Bool) → (a || not b) ≡ false → (a ≡ false) × (b ≡ true)
unready true b e = absurd (false≢true (sym e))
unready false true e = (refl, refl)
unready false false e = absurd (false≢true (sym e))

took : (out : Outcome) (t : State) → is_taken out ≡ true → (event : Option (Happening Byte)) × (out ≡ Went (gone t out) event)
took (Went u event) t e = (event, refl)
took (Undefined kind line) t e = absurd (false≢true e)
took Idle t e = absurd (false≢true e)
took Lost t e = absurd (false≢true e)

lighter : (s : Setting) (t : State) → Stands s.program t → is_ready s t ≡ false → weight s (gone t (step s t)) < weight s t
lighter s t h e = let u = unready (counts s t) (is_taken (step s t)) e in let o = took (step s t) t u.1 in weight_falls s t h u.0 (gone t (step s t)) o.0 o.1

module _ (s : Setting) (proper : IsProper s.program) (input : IsOfBytes s.outside) where
  Found : State → State → Type 0
  Found t u = IsReadyBehind s t u × Stands s.program u

  here : (t : State) → Stands s.program t → is_ready s t ≡ true → Found t t
  unfolding Found run
  here t h e = (record { count = 0; at = refl; few = omega arith; ready = e; before = λ n l. absurd (omega arith) }, h)

  behind : (t u : State) → is_ready s t ≡ false → Stands s.program t → Found (gone t (step s t)) u → Found t u
  unfolding Found run
  behind t u e h f =
      let l = lighter s t h e in
      let d = f.0.few in
      (record { count = suc f.0.count; at = f.0.at ∙ first_then s f.0.count t; few = omega arith; ready = f.0.ready; before = before_all }, f.1)
    where
      before_all : (n : ℕ) → n < suc f.0.count → (counts s (run s n t) ≡ false) × (is_taken (step s (run s n t)) ≡ true)
      before_all zero l = unready (counts s t) (is_taken (step s t)) e
      before_all (suc n) l = subst (λ x. (counts s x ≡ false) × (is_taken (step s x) ≡ true)) (first_then s n t) (f.0.before n (omega arith))

  search_case : (n : ℕ) (t : State) (b : Bool) → is_ready s t ≡ b → Stands s.program t → (b ≡ false → Found (gone t (step s t)) (ready_within n s (gone t (step s t)))) → Found t (if b then t else ready_within n s (gone t (step s t)))
  search_case n t true e h more = here t h e
  search_case n t false e h more = behind t (ready_within n s (gone t (step s t))) e h (more refl)

  not_ready : (t : State) (b : Bool) → is_ready s t ≡ b → Stands s.program t → weight s t ≤ 0 → b ≡ true
  not_ready t true e h l = refl
  not_ready t false e h l = let d = lighter s t h e in absurd (omega arith)

  found : (n : ℕ) (t : State) → Stands s.program t → weight s t ≤ n → Found t (ready_within n s t)
  unfolding ready_within
  found zero t h l = here t h (not_ready t (is_ready s t) refl h l)
  found (suc n) t h l =
      search_case n t (is_ready s t) refl h (λ e. found n (gone t (step s t)) (gone_stands s t (step s t) h (steps s proper input t h)) (let d = lighter s t h e in omega arith))

pub comes : ReadyComes
unfolding ready Found
comes s proper input t h = found s proper input (weight s t) t h (omega arith)

-- ---- behind so many steps
abbrev IsMoment : Setting → State → Type 0
IsMoment s t = ((m : ℕ) × (t ≡ moment s m)) × Stands s.program t

run_on : (s : Setting) (t u : State) (m n : ℕ) → t ≡ moment s m → u ≡ run s n t → u ≡ moment s (m + n)
run_on s t u m n e d = d ∙ (ap (run s n) e ∙ sym (compose s m n (start s)))

one_more : (s : Setting) (m : ℕ) → gone (moment s m) (step s (moment s m)) ≡ moment s (m + 1)
unfolding run
one_more s m = let e : m + 1 ≡ suc m = omega arith in ap (λ k. run s k (start s)) (sym e)

stay_or_go : (s : Setting) (t r : State) (out : Outcome) (m n : ℕ) → t ≡ moment s m → r ≡ moment s n → step s r ≡ out → Stands s.program t → Stands s.program (gone r out) → IsMoment s (gone t out)
stay_or_go s t r (Went u event) m n e d o h g = ((n + 1, ap (λ x. gone r x) (sym o) ∙ (ap (λ x. gone x (step s x)) d ∙ one_more s n)), g)
stay_or_go s t r (Undefined kind line) m n e d o h g = ((m, e), h)
stay_or_go s t r Idle m n e d o h g = ((m, e), h)
stay_or_go s t r Lost m n e d o h g = ((m, e), h)

first_moment : (s : Setting) → start s ≡ moment s 0
unfolding run
first_moment s = refl

pub are_moments : StepsAreMoments
unfolding after take
are_moments s proper input zero = ((0, first_moment s), starts s proper)
are_moments s proper input (suc n) =
    let i = are_moments s proper input n in
    let f = comes s proper input (after s n) i.1 in
    stay_or_go s (after s n) (ready s (after s n)) (step s (ready s (after s n))) i.0.0 (i.0.0 + f.0.count) i.0.1 (run_on s (after s n) (ready s (after s n)) i.0.0 f.0.count i.0.1 f.0.at) refl i.1
    (gone_stands s (ready s (after s n)) (step s (ready s (after s n))) f.1 (steps s proper input (ready s (after s n)) f.1))
