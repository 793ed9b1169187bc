-- Statuses and faults of a command that ended with this status, whatever its form is.
use Rattle.std.proofs.Common.{◌≡◌, ℕ, ◌<◌, ◌⊎◌, inl, inr, true, false, Bool, IsTrue, Option, Some, List, refl, sym, ◌∙◌, subst, arith}
use Rattle.host_io.specs.Host.{Kind, Contents, IsCounted}
use Rattle.picc_cli.specs.Command.{Form}
use Rattle.picc_cli.specs.Finished.{LacksFile, HasFaults, IsStatus, HasStatus}
use Rattle.host_lines.specs.Said.{GivesUp, HasOutcomeCause, Says}
use Rattle.picc_cli.proofs.Endings.{number_apart, counted_later}

-- ---- statuses
abbrev pub NotTwo : ℕ → Type 0
NotTwo result = result ≡ 2 → ⊥

pub up_not_two : (result : ℕ) → GivesUp result → NotTwo result
up_not_two result (inl e) two = absurd (omega arith)
up_not_two result (inr e) two = absurd (omega arith)

pub with_status : (form : Form) (result : ℕ) → IsStatus (Some form) result → NotTwo result → HasStatus (Some form) result
with_status form result known not_two = record { known = known; usage = λ two. absurd (not_two two); no_form = λ none. absurd (cc) }

-- ---- faults
counted_fails : (kind : Kind) (before now : ℕ) (fails : Bool) → HasOutcomeCause kind before now fails → before < now → fails ≡ true
counted_fails kind before now true cause more = refl
counted_fails kind before now false cause more = let same = cause.kept refl in absurd (omega arith)

-- What is said of faults, where this status is that of a fault, and over a sound host one is a file without a content.
pub form_faults : (form : Option Form) (kind alike : Kind) (old : Option Contents) (fails : Bool) (status : ℕ)
    → (status ≡ 3 → fails ≡ true) → (fails ≡ true → status ≡ 3)
    → (IsTrue kind.is_sound → fails ≡ true → LacksFile form old) → (IsTrue kind.is_sound → LacksFile form old → GivesUp status)
    → (first before now : ℕ) (p q : Option (List ℕ)) (line : List ℕ) (result : ℕ) → HasOutcomeCause kind first before fails
    → alike ≡ kind → Says alike before now p q line status result → HasFaults kind first now form old result
form_faults form kind alike old fails status three fault only missing first before now p q line result cause same (inl s) =
    let e = s.ends in let kept = s.kept in let low = cause.never_falls in
    record {
      never_falls = omega arith;
      only = λ is. subst (IsCounted kind first) (sym s.kept) (cause.failed (three (sym s.ends ∙ is)));
      each = λ more. inl (s.ends ∙ fault (counted_fails kind first before fails cause (omega arith)));
      sound = λ is at. only is (three (sym s.ends ∙ at));
      missing = λ is lacks. subst GivesUp (sym s.ends) (missing is lacks);
    }
form_faults form kind alike old fails status three fault only missing first before now p q line result cause same (inr u) =
    let low = cause.never_falls in let more = u.never_falls in
    record {
      never_falls = omega arith;
      only = λ is. counted_later kind first before now cause.never_falls (subst (λ (k : Kind). IsCounted k before now) same (u.failed is));
      each = λ _. u.ends;
      sound = λ is at. number_apart 3 9 result (omega arith) at (u.unsound (subst (λ (k : Kind). IsTrue k.is_sound) (sym same) is));
      missing = λ is lacks. u.ends;
    }

-- the status of what is said is this one, or 3 or 9
pub said_status : (kind : Kind) (before now : ℕ) (p q : Option (List ℕ)) (line : List ℕ) (status result : ℕ) → Says kind before now p q line status result
    → (result ≡ status) ⊎ GivesUp result
said_status kind before now p q line status result (inl s) = inl s.ends
said_status kind before now p q line status result (inr u) = inr u.ends
