-- Statuses and faults of simulations and comparisons.
use Rattle.std.proofs.Common.{◌≡◌, ℕ, ◌⊎◌, inl, inr, ⊎_elim, true, Option, Some, None, IfSome, List, refl, sym, ◌∙◌, arith}
use Rattle.host_io.specs.Host.{Kind, Contents}
use Rattle.picc_cli.specs.declared.comparing.Ended as agree_ends
use Rattle.picc_cli.specs.declared.comparing.Ended.TheVariants as agree
use Rattle.picc_cli.specs.declared.inputs.FileEnd.{FileEnd}
use Rattle.picc_cli.specs.declared.inputs.FileEnd.TheVariants as files
use Rattle.picc_cli.specs.declared.simulating.Ended as chip_ends
use Rattle.picc_cli.specs.declared.simulating.Ended.TheVariants as chip
use Rattle.picc_cli.specs.Agreement as agreement
use Rattle.picc_cli.specs.Chip as simulation
use Rattle.picc_cli.specs.Command.{Simulated, Compared, Form, Simulate, Agree}
use Rattle.picc_cli.specs.Finished.{HasFaults, IsStatus, HasStatus, HasTold, IsComplete}
use Rattle.picc_cli.specs.Inputs as inputs
use Rattle.host_lines.specs.Said.{GivesUp, HasOutcomeCause, Says}
use Rattle.picc_cli.specs.Simulation.{HasSimulated}
use Rattle.pic_sim.specs.Going.{Known}
use Rattle.picc_cli.proofs.AgreementWhole.{agreement_whole}
use Rattle.picc_cli.proofs.SimulationWhole.{simulation_whole}
use Rattle.picc_cli.proofs.FormEnds.{form_faults, said_status, with_status, up_not_two, NotTwo}
use Rattle.picc_cli.proofs.InputFiles.{file_three, file_fault}

-- ---- simulations
pub chip_three : (ended : chip_ends.Ended) → simulation.status_of ended ≡ 3 → simulation.is_fault ended ≡ true
chip_three chip.Done e = absurd (omega arith)
chip_three (chip.Unmodelled at) e = absurd (omega arith)
chip_three (chip.NoHex end) e = file_three end e
chip_three (chip.NoMap end) e = file_three end e
chip_three (chip.NoScript end) e = file_three end e
chip_three chip.CannotPrint e = refl
chip_three chip.NoMemory e = absurd (omega arith)

chip_fault : (ended : chip_ends.Ended) → simulation.is_fault ended ≡ true → simulation.status_of ended ≡ 3
chip_fault chip.Done e = absurd (cc)
chip_fault (chip.Unmodelled at) e = absurd (cc)
chip_fault (chip.NoHex end) e = file_fault end e
chip_fault (chip.NoMap end) e = file_fault end e
chip_fault (chip.NoScript end) e = file_fault end e
chip_fault chip.CannotPrint e = refl
chip_fault chip.NoMemory e = absurd (cc)

module _ (asked : Simulated) where
  -- it lacks the file at which it ended
  missing_file : (old : Option Contents) (ended : chip_ends.Ended) → simulation.EndsAtMissing asked old ended → simulation.LacksFile asked old
  missing_file old ended (inl (is, lacks)) = inl lacks
  missing_file old ended (inr (inl (is, has, lacks))) = inr (inl (has, lacks))
  missing_file old ended (inr (inr (is, has, more, lacks))) = inr (inr (has, more, lacks))

  abbrev sim : Option Form
  sim = Some (Simulate asked)

  file_status : (end : FileEnd) (result : ℕ) → result ≡ inputs.status_of end → IsStatus sim result
  file_status files.CannotRead result e = inr (inr (inr (inl e)))
  file_status files.TooLong result e = inr (inl e)
  file_status (files.BadHex error) result e = inr (inl e)
  file_status (files.BadLine line) result e = inr (inl e)
  file_status files.NoMemory result e = inr (inr (inr (inr e)))

  chip_known : (ended : chip_ends.Ended) (result : ℕ) → result ≡ simulation.status_of ended → IsStatus sim result
  chip_known chip.Done result e = inl e
  chip_known (chip.Unmodelled at) result e = inr (inr (inl e))
  chip_known (chip.NoHex end) result e = file_status end result e
  chip_known (chip.NoMap end) result e = file_status end result e
  chip_known (chip.NoScript end) result e = file_status end result e
  chip_known chip.CannotPrint result e = inr (inr (inr (inl e)))
  chip_known chip.NoMemory result e = inr (inr (inr (inr e)))

  chip_not_two : (result : ℕ) → IsStatus sim result → NotTwo result
  chip_not_two result (inl e) two = absurd (omega arith)
  chip_not_two result (inr (inl e)) two = absurd (omega arith)
  chip_not_two result (inr (inr (inl e))) two = absurd (omega arith)
  chip_not_two result (inr (inr (inr up))) two = up_not_two result up two

  pub chip_status : (ended : chip_ends.Ended) (kind : Kind) (before now : ℕ) (p q : Option (List ℕ)) (line : List ℕ) (result : ℕ)
      → Says kind before now p q line (simulation.status_of ended) result → HasStatus sim result
  chip_status ended kind before now p q line result says =
      let known : IsStatus sim result = ⊎_elim (λ e. chip_known ended result e) (λ up. inr (inr (inr up))) (said_status kind before now p q line (simulation.status_of ended) result says) in
      with_status (Simulate asked) result known (chip_not_two result known)

  pub chip_faults : (ended : chip_ends.Ended) (kind alike : Kind) (old : Option Contents) (first before now : ℕ) (p q : Option (List ℕ)) (line : List ℕ) (result : ℕ)
      → HasOutcomeCause kind first before (simulation.is_fault ended) → simulation.FailsWithoutFiles kind old asked ended → alike ≡ kind
      → Says alike before now p q line (simulation.status_of ended) result → HasFaults kind first now sim old result
  chip_faults ended kind alike old first before now p q line result cause sound same says =
      form_faults sim kind alike old (simulation.is_fault ended) (simulation.status_of ended) (chip_three ended) (chip_fault ended) (λ is at. missing_file old ended (sound.only is at)) sound.missing
      first before now p q line result cause same says

  pub chip_complete : (kind : Kind) (before now : ℕ) (old : Option Contents) (result : ℕ) (first last : Known) (p q : Option (List ℕ)) → HasFaults kind before now sim old result → HasStatus sim result
      → IfSome old (λ o. HasSimulated sim o first last p q result) → IfSome old (λ o. IsComplete kind before now sim o result)
  chip_complete kind before now None result first last p q faults status told = tt
  chip_complete kind before now (Some o) result first last p q faults status told = λ quiet.
      let never : result ≡ 3 → ⊥ = λ three. quiet (faults.only three) in simulation_whole asked o first last p q result never told (by_status status.known never)
    where
      by_status : IsStatus sim result → (result ≡ 3 → ⊥) → (result ≡ 0) ⊎ ((result ≡ 5) ⊎ ((result ≡ 6) ⊎ (result ≡ 9)))
      by_status (inl e) never = inl e
      by_status (inr (inl e)) never = inr (inl e)
      by_status (inr (inr (inl e))) never = inr (inr (inl e))
      by_status (inr (inr (inr (inl e)))) never = absurd (never e)
      by_status (inr (inr (inr (inr e)))) never = inr (inr (inr e))

-- a status 5 of a simulation is that of a file
pub five_at_file : (ended : chip_ends.Ended) (kind : Kind) (before now : ℕ) (p q : Option (List ℕ)) (line : List ℕ) (result : ℕ)
    → Says kind before now p q line (simulation.status_of ended) result → result ≡ 5 → simulation.ends_at_file ended ≡ true
five_at_file ended kind before now p q line result says five =
    ⊎_elim (λ e. by_end ended (sym e ∙ five)) (λ up. absurd (not_up up)) (said_status kind before now p q line (simulation.status_of ended) result says)
  where
    not_up : GivesUp result → ⊥
    not_up (inl e) = absurd (omega arith)
    not_up (inr e) = absurd (omega arith)

    by_end : (ended : chip_ends.Ended) → simulation.status_of ended ≡ 5 → simulation.ends_at_file ended ≡ true
    by_end chip.Done e = absurd (omega arith)
    by_end (chip.Unmodelled pc) e = absurd (omega arith)
    by_end (chip.NoHex end) e = refl
    by_end (chip.NoMap end) e = refl
    by_end (chip.NoScript end) e = refl
    by_end chip.CannotPrint e = absurd (omega arith)
    by_end chip.NoMemory e = absurd (omega arith)

-- ---- comparisons
pub agree_three : (ended : agree_ends.Ended) → agreement.status_of ended ≡ 3 → agreement.is_fault ended ≡ true
agree_three (agree.Same events) e = absurd (omega arith)
agree_three (agree.Undefined kind line) e = absurd (omega arith)
agree_three (agree.Refused refusal) e = absurd (omega arith)
agree_three agree.CannotReadText e = refl
agree_three (agree.NoScript end) e = file_three end e
agree_three agree.NoMemory e = absurd (omega arith)

agree_fault : (ended : agree_ends.Ended) → agreement.is_fault ended ≡ true → agreement.status_of ended ≡ 3
agree_fault (agree.Same events) e = absurd (cc)
agree_fault (agree.Undefined kind line) e = absurd (cc)
agree_fault (agree.Refused refusal) e = absurd (cc)
agree_fault agree.CannotReadText e = refl
agree_fault (agree.NoScript end) e = file_fault end e
agree_fault agree.NoMemory e = absurd (cc)

module _ (asked : Compared) where
  missing_input : (old : Option Contents) (ended : agree_ends.Ended) → agreement.EndsAtMissing asked old ended → agreement.LacksFile asked old
  missing_input old ended (inl (is, lacks)) = inl lacks
  missing_input old ended (inr (is, has, lacks)) = inr lacks

  abbrev comparison : Option Form
  comparison = Some (Agree asked)

  script_status : (end : FileEnd) (result : ℕ) → result ≡ inputs.status_of end → IsStatus comparison result
  script_status files.CannotRead result e = inr (inr (inr (inr (inl e))))
  script_status files.TooLong result e = inr (inr (inr (inl e)))
  script_status (files.BadHex error) result e = inr (inr (inr (inl e)))
  script_status (files.BadLine line) result e = inr (inr (inr (inl e)))
  script_status files.NoMemory result e = inr (inr (inr (inr (inr e))))

  agree_known : (ended : agree_ends.Ended) (result : ℕ) → result ≡ agreement.status_of ended → IsStatus comparison result
  agree_known (agree.Same events) result e = inl e
  agree_known (agree.Undefined kind line) result e = inr (inr (inl e))
  agree_known (agree.Refused refusal) result e = inr (inl e)
  agree_known agree.CannotReadText result e = inr (inr (inr (inr (inl e))))
  agree_known (agree.NoScript end) result e = script_status end result e
  agree_known agree.NoMemory result e = inr (inr (inr (inr (inr e))))

  agree_not_two : (result : ℕ) → IsStatus comparison result → NotTwo result
  agree_not_two result (inl e) two = absurd (omega arith)
  agree_not_two result (inr (inl e)) two = absurd (omega arith)
  agree_not_two result (inr (inr (inl e))) two = absurd (omega arith)
  agree_not_two result (inr (inr (inr (inl e)))) two = absurd (omega arith)
  agree_not_two result (inr (inr (inr (inr up)))) two = up_not_two result up two

  pub agree_status : (ended : agree_ends.Ended) (kind : Kind) (before now : ℕ) (p q : Option (List ℕ)) (line : List ℕ) (result : ℕ)
      → Says kind before now p q line (agreement.status_of ended) result → HasStatus comparison result
  agree_status ended kind before now p q line result says =
      let known : IsStatus comparison result = ⊎_elim (λ e. agree_known ended result e) (λ up. inr (inr (inr (inr up)))) (said_status kind before now p q line (agreement.status_of ended) result says) in
      with_status (Agree asked) result known (agree_not_two result known)

  pub agree_faults : (ended : agree_ends.Ended) (kind alike : Kind) (old : Option Contents) (first before now : ℕ) (p q : Option (List ℕ)) (line : List ℕ) (result : ℕ)
      → HasOutcomeCause kind first before (agreement.is_fault ended) → agreement.FailsWithoutFiles kind old asked ended → alike ≡ kind
      → Says alike before now p q line (agreement.status_of ended) result → HasFaults kind first now comparison old result
  agree_faults ended kind alike old first before now p q line result cause sound same says =
      form_faults comparison kind alike old (agreement.is_fault ended) (agreement.status_of ended) (agree_three ended) (agree_fault ended) (λ is at. missing_input old ended (sound.only is at)) sound.missing
      first before now p q line result cause same says

  pub agree_complete : (kind : Kind) (before now : ℕ) (old new : Option Contents) (result : ℕ) (p q : Option (List ℕ)) → HasFaults kind before now comparison old result → HasStatus comparison result
      → IfSome old (λ o. HasTold comparison o new p q result) → IfSome old (λ o. IsComplete kind before now comparison o result)
  agree_complete kind before now None new result p q faults status told = tt
  agree_complete kind before now (Some o) new result p q faults status told = λ quiet.
      let never : result ≡ 3 → ⊥ = λ three. quiet (faults.only three) in agreement_whole asked o result never p q told (by_status status.known never)
    where
      by_status : IsStatus comparison result → (result ≡ 3 → ⊥) → (result ≡ 0) ⊎ ((result ≡ 1) ⊎ ((result ≡ 4) ⊎ ((result ≡ 5) ⊎ (result ≡ 9))))
      by_status (inl e) never = inl e
      by_status (inr (inl e)) never = inr (inl e)
      by_status (inr (inr (inl e))) never = inr (inr (inl e))
      by_status (inr (inr (inr (inl e)))) never = inr (inr (inr (inl e)))
      by_status (inr (inr (inr (inr (inl e))))) never = absurd (never e)
      by_status (inr (inr (inr (inr (inr e))))) never = inr (inr (inr (inr e)))
