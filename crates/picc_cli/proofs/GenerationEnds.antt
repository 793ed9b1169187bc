-- How a generation ends: with the one text that is to be printed, or for a fault or want of memory.
use Rattle.std.proofs.Common.{◌≡◌, ℕ, inl, inr, ⊎_elim, Option, Some, None, IfSome, List, subst, arith}
use Rattle.generated_laws.proofs.Whole.{accepted, sizes_are}
use Rattle.host_io.specs.Host.{Kind, Contents}
use Rattle.host_lines.specs.Said.{Says}
use Rattle.picc_cli.specs.Command.{Form, Generate}
use Rattle.picc_cli.specs.Finished.{HasFaults, HasPrinted, IsStatus, HasStatus, HasTold, IsComplete}
use Rattle.picc_cli.specs.Summary.{generated_text, IsSize}
use Rattle.picc_cli.proofs.Endings.{quiet_nine, said_prefix, up_apart}
use Rattle.picc_cli.proofs.FormEnds.{said_status, with_status, up_not_two, NotTwo}

module _ (functions : ℕ) where
  abbrev form : Option Form
  form = Some (Generate functions)

  -- ---- the status
  not_two : (result : ℕ) → IsStatus form result → NotTwo result
  not_two result (inl e) two = absurd (omega arith)
  not_two result (inr up) two = up_not_two result up two

  pub generation_status : (kind : Kind) (before now : ℕ) (p q : Option (List ℕ)) (line : List ℕ) (result : ℕ) → Says kind before now p q line 0 result → HasStatus form result
  generation_status kind before now p q line result says =
      let known : IsStatus form result = ⊎_elim (λ e. inl e) (λ up. inr up) (said_status kind before now p q line 0 result says) in
      with_status (Generate functions) result known (not_two result known)

  -- ---- faults
  pub generation_faults : (kind : Kind) (old : Option Contents) (before now : ℕ) (p q : Option (List ℕ)) (line : List ℕ) (result : ℕ) → Says kind before now p q line 0 result
      → HasFaults kind before now form old result
  generation_faults kind old before now p q line result (inl s) =
      let e = s.ends in let kept = s.kept in
      record {
        never_falls = omega arith;
        only = λ three. absurd (omega arith);
        each = λ more. absurd (omega arith);
        sound = λ is three. absurd (omega arith);
        missing = λ is lacks. absurd lacks;
      }
  generation_faults kind old before now p q line result (inr u) =
      record {
        never_falls = u.never_falls;
        only = u.failed;
        each = λ _. u.ends;
        sound = λ is three. let nine = u.unsound is in absurd (omega arith);
        missing = λ is lacks. absurd lacks;
      }

  -- ---- what is printed
  pub generation_printed : (kind : Kind) (files : Option Contents) (before now : ℕ) (p q : Option (List ℕ)) (line : List ℕ) (result : ℕ) → line ≡ generated_text functions
      → Says kind before now p q line 0 result → HasPrinted kind form files p q result
  generation_printed kind files before now p q line result is says = by (subst (λ (t : List ℕ). Says kind before now p q t 0 result) is says) where
    by : Says kind before now p q (generated_text functions) 0 result → HasPrinted kind form files p q result
    by (inl s) = record { whole = λ zero. s.printed; prefix = λ up. said_prefix kind before now p q (generated_text functions) 0 result (inl s) }
    by (inr u) = record { whole = λ zero. up_apart 0 result (omega arith) zero u.ends; prefix = λ up. u.printed }

  -- nothing more is told
  pub generation_told : IsSize functions → (old new : Option Contents) (p q : Option (List ℕ)) (result : ℕ) → IfSome old (λ o. HasTold form o new p q result)
  generation_told size None new p q result = tt
  generation_told size (Some o) new p q result = λ e. record { accepted = accepted functions size.0 size.1; sizes = sizes_are functions size.0 size.1 }

  -- ---- without a fault
  pub generation_complete : (kind : Kind) (before now : ℕ) (old : Option Contents) (p q : Option (List ℕ)) (line : List ℕ) (result : ℕ) → Says kind before now p q line 0 result
      → IfSome old (λ o. IsComplete kind before now form o result)
  generation_complete kind before now None p q line result says = tt
  generation_complete kind before now (Some o) p q line result (inl s) = λ quiet. inl s.ends
  generation_complete kind before now (Some o) p q line result (inr u) = λ quiet. inr (quiet_nine result (λ three. quiet (u.failed three)) u.ends)
