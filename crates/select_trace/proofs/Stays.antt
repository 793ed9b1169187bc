-- What stays as it is, and what code that seeks a label goes past.
use Rattle.std.proofs.Common.{◌≡◌, ℕ, zero, suc, ◌^◌, ◌<◌, refl, ap, ◌∙◌}
use Rattle.sym_code.specs.Effect.{Memory}
use Rattle.select_trace.specs.Run.{Machine, Seeking, run}
use Rattle.sym_code.specs.Registers.{Registers}
use Rattle.select_trace.specs.Links.{Fine}
use Rattle.select_trace.specs.Helpers.{Layout, Value, Step, ShiftLeft, ShiftRight, Clear, Answers, Invert, Increment, Add, Subtract, Compare, step_code, each_byte, AreApart}
use Rattle.select_trace.specs.Steps.{number_of, Steps, Stays}
use Rattle.select_trace.proofs.Vals.{run_append, val_same, val_below}
use Rattle.select_trace.proofs.Links.{nonzero}

pub stays_of : {may : Value → Type 0} (l : Layout) (t u : Machine) (v : Value) → may v → Steps l t u v → Stays l t u may
stays_of l t u v m h = record { fine = h.fine; others = λ a no. h.others a (λ j lt e. no v m j lt e) }

pub stays_then : {may : Value → Type 0} (l : Layout) (t u v : Machine) → Stays l t u may → Stays l u v may → Stays l t v may
stays_then l t u v h k = record { fine = k.fine; others = λ a no. k.others a no ∙ h.others a no }

pub kept_byte : {may : Value → Type 0} (l : Layout) → AreApart l → (t u : Machine) → Stays l t u may → (x : Value) → ((v : Value) → may v → x ≡ v → ⊥) → (j : ℕ) → j < l.width → u.memory (l.at x j) ≡ t.memory (l.at x j)
kept_byte l apart t u h x ne j lt = h.others (l.at x j) (λ v m i lti e. apart.between x v (ne v m) j i lt lti e)

pub kept : {may : Value → Type 0} (l : Layout) → AreApart l → (t u : Machine) → Stays l t u may → (x : Value) → ((v : Value) → may v → x ≡ v → ⊥) → number_of l u x ≡ number_of l t x
kept l apart t u h x ne = val_same _ _ l.width (λ j lt. kept_byte l apart t u h x ne j lt)

pub number_below : (l : Layout) (t : Machine) → Fine t → (v : Value) → number_of l t v < 256 ^ l.width
number_below l t ok v = val_below _ l.width (λ j lt. ok.bytes (l.at v j))

-- ---- code without a label, while one is sought
abbrev pub seeking : ℕ → Registers → Memory → Machine
seeking n r m = record { mode = Seeking n; registers = r; memory = m }

step_past : (l : Layout) (step : Step) (k n : ℕ) (r : Registers) (m : Memory) → run (step_code l step k) (seeking n r m) ≡ seeking n r m
step_past l (Clear v) k n r m = refl
step_past l (Answers v) k n r m = refl
step_past l (ShiftLeft v) k n r m = refl
step_past l ShiftRight k n r m = refl
step_past l Add zero n r m = refl
step_past l Add (suc k) n r m = rw (nonzero k) refl
step_past l Compare zero n r m = refl
step_past l Compare (suc k) n r m = rw (nonzero k) refl
step_past l Subtract zero n r m = refl
step_past l Subtract (suc k) n r m = rw (nonzero k) refl
step_past l (Invert v) k n r m = refl
step_past l (Increment v) zero n r m = refl
step_past l (Increment v) (suc k) n r m = rw (nonzero k) refl

pub past : (l : Layout) (step : Step) (k n : ℕ) (r : Registers) (m : Memory) → run (each_byte l step k) (seeking n r m) ≡ seeking n r m
past l step zero n r m = refl
past l step (suc k) n r m = run_append (each_byte l step k) (step_code l step k) (seeking n r m) ∙ ap (run (step_code l step k)) (past l step k n r m) ∙ step_past l step k n r m
