-- Micro-steps where the handler is not entered, of either program.
use Rattle.std.proofs.Common.{◌≡◌, ℕ, suc, ◌+◌, ◌⊎◌, inl, inr, ⊎_elim, Bool, true, false, ◌&&◌, List, Option, Some, None, if◌then◌else◌, refl, sym, ap, ◌∙◌, subst}
use Rattle.std.proofs.lemmas.Bool.{false≢true}
use Rattle.c_typed.specs.Trees.{Program}
use Rattle.pic_world.specs.World.{World, Happening, arrived, is_due}
use Rattle.rom_source.proofs.Standing.{Brief, Walk, Then}
use Rattle.src_rules.specs.Runs.{one_if}
use Rattle.src_rules.specs.State.{State, state, Outcome, Went, Undefined, Idle, Lost}
use Rattle.src_rules.specs.Step.{is_some_line, act, refused, interrupted, step_at, step, enters, counts}
use Rattle.src_values.specs.Control.{Focus, Pending}
use Rattle.src_values.specs.Counting.{counted_line}
use Rattle.src_values.specs.Memory.{Setting, Memory}
use Rattle.src_values.specs.Objects.{handler_in}
use Rattle.src_values.specs.declared.objects.Byte.{Byte}
use Rattle.src_values.specs.declared.objects.CopyOf.{CopyOf}

-- of what an outcome goes to
abbrev pub IfWent : (State → Option (Happening Byte) → Type 0) → Outcome → Type 0
IfWent P (Went u event) = P u event
IfWent P _ = Unit {0}

module _ (g : Setting) where
  -- the handler isn't entered
  abbrev pub Passed : World Byte → Type 0
  Passed w = (is_due w && is_some_line (handler_in g.program)) ≡ false

  module _ (P : State → Option (Happening Byte) → Type 0) where
    refused_went : (l : Option ℕ) (out : Outcome) → IfWent P out → IfWent P (refused l out)
    refused_went (Some line) (Went u event) h = tt
    refused_went None (Went u event) h = h
    refused_went l (Undefined kind line) h = tt
    refused_went (Some line) Idle h = tt
    refused_went None Idle h = tt
    refused_went l Lost h = tt

    refused_some : (l : Option ℕ) (out : Outcome) → is_some_line l ≡ true → IfWent P (refused l out)
    refused_some None out e = absurd (false≢true e)
    refused_some (Some line) (Went u event) e = tt
    refused_some (Some line) (Undefined kind at) e = tt
    refused_some (Some line) Idle e = tt
    refused_some (Some line) Lost e = tt

    module _ (c : CopyOf) (x : Focus) (k : List Pending) (m : Memory) where
      went_by : (w : World Byte) (b : Bool) (h : Option ℕ) → (b && is_some_line h) ≡ false → IfWent P (act g x k c m w) → IfWent P (if b then interrupted g h x k c m w else act g x k c m w)
      went_by w true (Some h) e a = absurd (false≢true (sym e))
      went_by w true None e a = refused_went (counted_line g.program c x k) (act g x k c m w) a
      went_by w false h e a = a

      pub went : (v w : World Byte) → arrived g.outside v ≡ w → Passed w → IfWent P (act g x k c m w) → IfWent P (step g (state c x k m v))
      unfolding step
      went v w is e a = subst (λ y. IfWent P (step_at g x k c m y)) (sym is) (went_by w (is_due w) (handler_in g.program) e a)

      free_by : (w : World Byte) (b : Bool) (h : Option ℕ) → is_due w ≡ b → (b && is_some_line h) ≡ false → is_some_line (counted_line g.program c x k) ≡ true → (is_due w ≡ false → IfWent P (act g x k c m w))
          → IfWent P (if b then interrupted g h x k c m w else act g x k c m w)
      free_by w true (Some h) due e l a = absurd (false≢true (sym e))
      free_by w true None due e l a = refused_some (counted_line g.program c x k) (act g x k c m w) l
      free_by w false h due e l a = a due

      -- one that counts isn't taken where an interrupt is due
      pub went_free : (v w : World Byte) → arrived g.outside v ≡ w → Passed w → is_some_line (counted_line g.program c x k) ≡ true → (is_due w ≡ false → IfWent P (act g x k c m w)) → IfWent P (step g (state c x k m v))
      unfolding step
      went_free v w is e l a = subst (λ y. IfWent P (step_at g x k c m y)) (sym is) (free_by w (is_due w) (handler_in g.program) refl e l a)

  module _ (c : CopyOf) (x : Focus) (k : List Pending) (m : Memory) (v w : World Byte) (is : arrived g.outside v ≡ w) where
    pub counts_is : Passed w → counts g (state c x k m v) ≡ is_some_line (counted_line g.program c x k)
    unfolding counts enters
    counts_is e = ap (λ y. if is_due y && is_some_line (handler_in g.program) then true else is_some_line (counted_line g.program c x k)) is ∙ ap (λ b. if b then true else is_some_line (counted_line g.program c x k)) e

    quiet_by : (b : Bool) (h l : Option ℕ) (out : Outcome) (u : State) (event : Option (Happening Byte)) → (b && is_some_line h) ≡ false → l ≡ None → out ≡ Went u event → counted_line g.program c x k ≡ l → act g x k c m w ≡ out
        → (if b then interrupted g h x k c m w else act g x k c m w) ≡ Went u event
    quiet_by true (Some h) l out u event e n o f a = absurd (false≢true (sym e))
    quiet_by true None l out u event e n o f a = ap (λ y. refused y (act g x k c m w)) (f ∙ n) ∙ ap (refused None) (a ∙ o)
    quiet_by false h l out u event e n o f a = a ∙ o

    -- one that doesn't count
    pub quiet_step : (u : State) (event : Option (Happening Byte)) → Passed w → counted_line g.program c x k ≡ None → act g x k c m w ≡ Went u event → step g (state c x k m v) ≡ Went u event
    unfolding step
    quiet_step u event e n a = ap (λ y. step_at g x k c m y) is ∙ quiet_by (is_due w) (handler_in g.program) None (Went u event) u event e refl refl n a

    -- where nothing is due
    pub free_step : (u : State) (event : Option (Happening Byte)) → is_due w ≡ false → act g x k c m w ≡ Went u event → step g (state c x k m v) ≡ Went u event
    unfolding step
    free_step u event e a = ap (λ y. step_at g x k c m y) is ∙ ap (λ b. if b then interrupted g (handler_in g.program) x k c m w else act g x k c m w) e ∙ a

    pub free_passes : is_due w ≡ false → Passed w
    free_passes e = ap (λ b. b && is_some_line (handler_in g.program)) e

    pub enters_none : Passed w → enters g (state c x k m v) ≡ false
    unfolding enters
    enters_none e = ap (λ y. is_due y && is_some_line (handler_in g.program)) is ∙ e

    -- one micro-step more
    pub then_free : (p : Program) → Brief p x k → (n j : ℕ) (b : Bool) (u t : State) (event : Option (Happening Byte)) → is_due w ≡ false → is_some_line (counted_line g.program c x k) ≡ b → act g x k c m w ≡ Went u event → Walk p g n j u t → Walk p g (suc n) (one_if b + j) (state c x k m v) t
    then_free p brief n j b u t event e f a rest =
        subst (λ i. Walk p g (suc n) (one_if i + j) (state c x k m v) t) (counts_is (free_passes e) ∙ f) (Then n j (state c x k m v) u t event brief (enters_none (free_passes e)) (free_step u event e a) rest)

    pub then_quiet : (p : Program) → Brief p x k → (n j : ℕ) (u t : State) (event : Option (Happening Byte)) → Passed w → counted_line g.program c x k ≡ None → act g x k c m w ≡ Went u event → Walk p g n j u t → Walk p g (suc n) (0 + j) (state c x k m v) t
    then_quiet p brief n j u t event e f a rest =
        subst (λ i. Walk p g (suc n) (one_if i + j) (state c x k m v) t) (counts_is e ∙ ap is_some_line f) (Then n j (state c x k m v) u t event brief (enters_none e) (quiet_step u event e f a) rest)

-- ---- a micro-step that is taken
abbrev pub state_in : State → Outcome → State
state_in other (Went u event) = u
state_in other _ = other

abbrev pub event_of : Outcome → Option (Happening Byte)
event_of (Went u event) = event
event_of _ = None

abbrev pub is_went : Outcome → Bool
is_went (Went u event) = true
is_went _ = false

module _ (g : Setting) (c : CopyOf) (x : Focus) (k : List Pending) (m : Memory) (v w : World Byte) (is : arrived g.outside v ≡ w) where
  -- nothing is due, or it doesn't count
  abbrev pub MayGo : Type 0
  MayGo = (is_due w ≡ false) ⊎ (is_some_line (counted_line g.program c x k) ≡ false)

  -- what it was by itself
  pub record Acted (u : State) (event : Option (Happening Byte)) : Type 0 where
    pub goes : act g x k c m w ≡ Went u event
    pub may : MayGo

  not_refused : (l : Option ℕ) (out : Outcome) (u : State) (event : Option (Happening Byte)) → refused l out ≡ Went u event → (out ≡ Went u event) × (is_some_line l ≡ false)
  not_refused (Some line) (Went t other) u event e = absurd (false≢true (ap is_went e))
  not_refused None (Went t other) u event e = (e, refl)
  not_refused l (Undefined kind line) u event e = absurd (false≢true (ap is_went e))
  not_refused (Some line) Idle u event e = absurd (false≢true (ap is_went e))
  not_refused None Idle u event e = absurd (false≢true (ap is_went e))
  not_refused l Lost u event e = absurd (false≢true (ap is_went e))

  acted_by : (b : Bool) (h : Option ℕ) (u : State) (event : Option (Happening Byte)) → is_due w ≡ b → (b && is_some_line h) ≡ false → (if b then interrupted g h x k c m w else act g x k c m w) ≡ Went u event → Acted u event
  acted_by true (Some h) u event d e a = absurd (false≢true (sym e))
  acted_by true None u event d e a = let f = not_refused (counted_line g.program c x k) (act g x k c m w) u event a in record { goes = f.0; may = inr f.1 }
  acted_by false h u event d e a = record { goes = a; may = inl d }

  pub acted : (u : State) (event : Option (Happening Byte)) → Passed g w → step g (state c x k m v) ≡ Went u event → Acted u event
  unfolding step
  acted u event e a = acted_by (is_due w) (handler_in g.program) u event refl e (sym (ap (λ y. step_at g x k c m y) is) ∙ a)

  none_of : (l : Option ℕ) → is_some_line l ≡ false → l ≡ None
  none_of None e = refl
  none_of (Some line) e = absurd (false≢true (sym e))

  pub goes_on : (u : State) (event : Option (Happening Byte)) → Passed g w → MayGo → act g x k c m w ≡ Went u event → step g (state c x k m v) ≡ Went u event
  goes_on u event e may a =
      ⊎_elim (λ free. free_step g c x k m v w is u event free a) (λ none. quiet_step g c x k m v w is u event e (none_of (counted_line g.program c x k) none) a) may
