-- The next step of a state, found one micro-step after another; and the states of a run, up to flags that have arrived.
use Rattle.std.proofs.Common.{◌≡◌, ◌≤◌, ◌<◌, inl, ⊎_elim, ℕ, zero, suc, ◌+◌, ◌*◌, Bool, true, false, not, ◌||◌, Option, length, refl, sym, ap, ◌∙◌, subst, arith}
use Rattle.std.proofs.lemmas.Bool.{false≢true}
use Rattle.std.specs.Prelude.{if◌then◌else◌}
use Rattle.c_typed.specs.TreeNodes.{nodes_of}
use Rattle.pic_world.specs.World.{Happening}
use Rattle.src_machine.specs.Steps.{IsGiven, IsOnRun, IsRoom, settled}
use Rattle.src_rules.proofs.Changes.{arrivals_once}
use Rattle.src_rules.proofs.Depths.{short, moment_sized}
use Rattle.src_rules.proofs.Moments.{moments, steps, gone_stands}
use Rattle.src_rules.proofs.Rooms.{FocusSized, Sized}
use Rattle.src_rules.proofs.Weighing.{weight_falls}
use Rattle.src_rules.proofs.Worlds.{arrived_stands, arrived_inside}
use Rattle.src_rules.specs.Laws.{IsProper, IsOfBytes, entries}
use Rattle.src_rules.specs.Runs.{gone, run, moment, is_taken, is_ready, ready_within, ready}
use Rattle.src_rules.specs.Standing.{Stands}
use Rattle.src_rules.specs.State.{State, Outcome, Went, Undefined, Idle, Lost}
use Rattle.src_rules.specs.Step.{step, counts}
use Rattle.src_rules.specs.Weights.{weight}
use Rattle.src_values.specs.Memory.{Setting}
use Rattle.src_values.specs.declared.objects.Byte.{Byte}

-- ---- ready states
here : (s : Setting) (n : ℕ) (t : State) → is_ready s t ≡ true → ready_within n s t ≡ t
unfolding ready_within
here s zero t h = refl
here s (suc n) t h = ap (λ b. if b then t else ready_within n s (gone t (step s t))) h

further : (s : Setting) (n : ℕ) (t : State) → is_ready s t ≡ false → ready_within (suc n) s t ≡ ready_within n s (gone t (step s t))
unfolding ready_within
further s n t h = ap (λ b. if b then t else ready_within n s (gone t (step s t))) h

pub ready_here : (s : Setting) (t : State) → is_ready s t ≡ true → ready s t ≡ t
unfolding ready
ready_here s t h = here s (weight s t) t h

unready : (a b : Bool) → (a || not b) ≡ false → (a ≡ false) × (b ≡ true)
unready true b e = absurd (false≢true (sym e))
unready false true e = (refl, refl)
unready false false e = absurd (false≢true (sym e))

took : (out : Outcome) (t : State) → is_taken out ≡ true → (event : Option (Happening Byte)) × (out ≡ Went (gone t out) event)
took (Went u event) t e = (event, refl)
took (Undefined kind line) t e = absurd (false≢true e)
took Idle t e = absurd (false≢true e)
took Lost t e = absurd (false≢true e)

pub lighter : (s : Setting) (t : State) → Stands s.program t → is_ready s t ≡ false → weight s (gone t (step s t)) < weight s t
lighter s t h e = let u = unready (counts s t) (is_taken (step s t)) e in let o = took (step s t) t u.1 in weight_falls s t h u.0 (gone t (step s t)) o.0 o.1

module _ (s : Setting) (proper : IsProper s.program) (input : IsOfBytes s.outside) where
  next_stands : (t : State) → Stands s.program t → Stands s.program (gone t (step s t))
  next_stands t h = gone_stands s t (step s t) h (steps s proper input t h)

  nothing_left : (t : State) (b : Bool) → is_ready s t ≡ b → Stands s.program t → weight s t ≤ 0 → b ≡ true
  nothing_left t true e h l = refl
  nothing_left t false e h l = let d = lighter s t h e in absurd (omega arith)

  both : (n m : ℕ) (t : State) (b : Bool) → is_ready s t ≡ b → (b ≡ false → ready_within n s (gone t (step s t)) ≡ ready_within m s (gone t (step s t))) → ready_within (suc n) s t ≡ ready_within (suc m) s t
  both n m t true e i = here s (suc n) t e ∙ sym (here s (suc m) t e)
  both n m t false e i = further s n t e ∙ i refl ∙ sym (further s m t e)

  -- where there is time enough, it doesn't matter how much
  enough : (n m : ℕ) (t : State) → Stands s.program t → weight s t ≤ n → weight s t ≤ m → ready_within n s t ≡ ready_within m s t
  enough zero m t h a b = let r = nothing_left t (is_ready s t) refl h a in here s zero t r ∙ sym (here s m t r)
  enough (suc n) zero t h a b = let r = nothing_left t (is_ready s t) refl h b in here s (suc n) t r ∙ sym (here s zero t r)
  enough (suc n) (suc m) t h a b =
      both n m t (is_ready s t) refl
      (λ e. let d = lighter s t h e in enough n m (gone t (step s t)) (next_stands t h) (omega arith) (omega arith))

  on_by : (n : ℕ) (t : State) → weight s t ≡ n → Stands s.program t → is_ready s t ≡ false → ready_within n s t ≡ ready_within (weight s (gone t (step s t))) s (gone t (step s t))
  on_by zero t w h e = let d = lighter s t h e in absurd (omega arith)
  on_by (suc n) t w h e = let d = lighter s t h e in further s n t e ∙ enough n (weight s (gone t (step s t))) (gone t (step s t)) (next_stands t h) (omega arith) (omega arith)

  -- behind a micro-step that doesn't count the next step is the same
  pub ready_on : (t : State) → Stands s.program t → is_ready s t ≡ false → ready s t ≡ ready s (gone t (step s t))
  unfolding ready
  ready_on t h e = on_by (weight s t) t refl h e

-- ---- the states of a run
pub settled_stands : (s : Setting) (t : State) → Stands s.program t → Stands s.program (settled s.outside t)
settled_stands s t h = record {
  reached = h.reached;
  focus = h.focus;
  stack = h.stack;
  memory = h.memory;
  control = arrived_stands s.outside t.world h.control;
  inside = arrived_inside s.outside t.world ∙ h.inside;
}

pub run_stands : (s : Setting) → IsGiven s → (t : State) → IsOnRun s t → Stands s.program t
run_stands s given t on =
    let h = (moments s given.proper given.bytes on.number).0 in
    ⊎_elim (λ e. subst (Stands s.program) (sym e) h) (λ e. subst (Stands s.program) (sym e) (settled_stands s (moment s on.number) h)) on.at

next_moment : (s : Setting) (n : ℕ) (u : State) (event : Option (Happening Byte)) → step s (moment s n) ≡ Went u event → u ≡ moment s (suc n)
unfolding run
next_moment s n u event is = sym (ap (gone (moment s n)) is)

pub run_goes : (s : Setting) (t u : State) (event : Option (Happening Byte)) → IsOnRun s t → step s t ≡ Went u event → IsOnRun s u
run_goes s t u event on is = record {
  number = suc on.number;
  at = inl (next_moment s on.number u event (⊎_elim (λ e. ap (step s) (sym e) ∙ is) (λ e. sym (arrivals_once s (moment s on.number)) ∙ (ap (step s) (sym e) ∙ is)) on.at));
}

-- ---- how much waits at these
pub run_short : (s : Setting) → IsGiven s → (t : State) → IsOnRun s t → entries t.stack ≤ 2 * (nodes_of s.program + length s.program.functions)
run_short s given t on =
    let most = 2 * (nodes_of s.program + length s.program.functions) in
    let h = short s given.proper given.bytes given.acyclic on.number in
    ⊎_elim (λ e. subst (λ x. entries x.stack ≤ most) (sym e) h) (λ e. subst (λ x. entries x.stack ≤ most) (sym e) h) on.at

pub run_roomy : (s : Setting) (room : ℕ) → IsRoom s room → (t : State) → IsOnRun s t → entries t.stack + 3 ≤ room
run_roomy s room enough t on =
    let h = enough on.number in
    ⊎_elim (λ e. subst (λ x. entries x.stack + 3 ≤ room) (sym e) h) (λ e. subst (λ x. entries x.stack + 3 ≤ room) (sym e) h) on.at

pub more_room : (s : Setting) (a b : ℕ) → IsRoom s a → a ≤ b → IsRoom s b
more_room s a b enough more n = let h = enough n in omega arith

abbrev pub IsSized : Setting → State → Type 0
IsSized s t = FocusSized s.program t.copy t.focus t.stack × Sized s.program t.copy t.stack

pub run_sized : (s : Setting) → IsGiven s → (t : State) → IsOnRun s t → IsSized s t
run_sized s given t on =
    let h = moment_sized s given.proper given.bytes on.number in
    ⊎_elim (λ e. subst (IsSized s) (sym e) h) (λ e. subst (IsSized s) (sym e) h) on.at
