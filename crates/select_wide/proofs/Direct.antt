-- Runs without an access through FSR are runs without an event.
use Rattle.std.proofs.Common.{◌≡◌, ℕ, zero, suc, Bool, true, false, not, ◌||◌, if◌then◌else◌, Option, Some, None, refl, ap, ◌∙◌}
use Rattle.sym_code.specs.Effect.{Setting, Thread}
use Rattle.sym_code.specs.Layout.{general_at}
use Rattle.sym_code.specs.Programs.{Program}
use Rattle.sym_code.specs.Quiet.{Scene, quiet_if, quiet_step, quiet_run}
use Rattle.sym_code.specs.Registers.{pointer}
use Rattle.select_wide.specs.Direct.{is_indirect, next_of, is_clear, clears_next, is_open, direct_step, direct_if, direct_run}

pub step_direct : (g : Setting) (inside : Bool) (s u : Scene) → direct_step g inside s ≡ Some u → (is_indirect (next_of g.program s.thread.at) ≡ false) × (quiet_step g inside s ≡ Some u)
step_direct g inside s u e = by (is_indirect (next_of g.program s.thread.at)) e
  where
    by : (b : Bool) → (if b then None else quiet_step g inside s) ≡ Some u → (b ≡ false) × (quiet_step g inside s ≡ Some u)
    by true f = absurd (cc)
    by false f = (refl, f)

pub run_quiet : (g : Setting) (inside : Bool) (n : ℕ) (s u : Scene) → direct_run g inside n s ≡ Some u → quiet_run g inside n s ≡ Some u
unfolding direct_run quiet_run
run_quiet g inside zero s u e = e
run_quiet g inside (suc n) s u e = by (direct_run g inside n s) e (λ c h. run_quiet g inside n s c h) refl
  where
    by : (o : Option Scene) → direct_if g inside o ≡ Some u → ((c : Scene) → direct_run g inside n s ≡ Some c → quiet_run g inside n s ≡ Some c) → direct_run g inside n s ≡ o → quiet_if g inside (quiet_run g inside n s) ≡ Some u
    by None f before h = absurd (cc)
    by (Some c) f before h = ap (quiet_if g inside) (before c h) ∙ (step_direct g inside c u f).1

-- a thread whose next instruction names no INDF is open, whatever is hidden
pub direct_open : (hidden : ℕ → Bool) (q : Program) (th : Thread) → th.rest ≡ None → is_indirect (next_of q th.at) ≡ false → is_open hidden q th ≡ true
direct_open hidden q th idle e = ap (clears_next hidden q th) idle ∙ ap (λ b. not b || is_clear hidden (general_at (pointer th.registers))) e
