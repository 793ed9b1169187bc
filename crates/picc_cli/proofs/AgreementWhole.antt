-- Without a fault, how a comparison ends by its files.
use Rattle.std.proofs.Common.{◌≡◌, ℕ, ◌⊎◌, inl, inr, ⊎_elim, Option, Some, List, sym, subst}
use Rattle.host_io.specs.Host.{Contents}
use Rattle.picc_core.proofs.OneAnswer.{one_answer}
use Rattle.picc_core.specs.Answers.{Tells}
use Rattle.picc_core.specs.Decided.{IsAcceptedText}
use Rattle.picc_core.specs.declared.refusal.Refusal.{Refusal}
use Rattle.picc_cli.specs.declared.comparing.Ended.{Ended}
use Rattle.picc_cli.specs.declared.comparing.Ended.TheVariants.{Same, Undefined, Refused, CannotReadText, NoScript, NoMemory}
use Rattle.picc_cli.specs.declared.inputs.FileEnd.{FileEnd}
use Rattle.picc_cli.specs.Agreement.{AgreementTells, Knows, status_of}
use Rattle.picc_cli.specs.Command.{Compared}
use Rattle.picc_cli.specs.Finished.{AgreementCompletes, ReadsEnd}
use Rattle.picc_cli.specs.Inputs.{HasNoScript}
use Rattle.picc_cli.specs.RunsTold.{RunsTell}
use Rattle.host_lines.specs.Said.{GivesUp}
use Rattle.picc_cli.specs.ScriptInput.{IsScript}
use Rattle.picc_cli.proofs.FilesKept.{same_bytes, script_kept, script_ends, file_ends}

module _ (asked : Compared) (o : Contents) (result : ℕ) (quiet : result ≡ 3 → ⊥) where
  nine : GivesUp result → result ≡ 9
  nine (inl three) = absurd (quiet three)
  nine (inr is) = is

  no_script_ends : (ended : Ended) → Knows asked o ended → result ≡ status_of ended → (script : List ℕ) → o asked.script ≡ Some script → (IsScript script → ⊥) → (result ≡ 5) ⊎ (result ≡ 9)
  no_script_ends (Same events) k e script has none = absurd (none (subst IsScript (same_bytes o asked.script k.script script k.has_script has) k.of_script))
  no_script_ends (Undefined kind line) k e script has none = absurd (none (subst IsScript (same_bytes o asked.script k.script script k.has_script has) k.of_script))
  no_script_ends (Refused refusal) k e script has none = absurd (none (subst IsScript (same_bytes o asked.script k.script script k.has_script has) k.of_script))
  no_script_ends CannotReadText k e script has none = absurd (quiet e)
  no_script_ends (NoScript end) k e script has none = file_ends end result quiet e
  no_script_ends NoMemory k e script has none = inr e

  -- where there is a script, the text decides
  kept_ends : (end : FileEnd) → HasNoScript o asked.script end → result ≡ status_of (NoScript end) → (script : List ℕ) → o asked.script ≡ Some script → IsScript script → result ≡ 9
  kept_ends end k e script has is = nine (subst GivesUp (sym e) (script_kept o asked.script is.content end (script, has, record { short = is.short; file = is.file }) k))

  accepted_ends : (ended : Ended) → Knows asked o ended → result ≡ status_of ended → (text script : List ℕ) → o asked.input ≡ Some text → o asked.script ≡ Some script → IsScript script → IsAcceptedText text
      → (result ≡ 0) ⊎ ((result ≡ 4) ⊎ (result ≡ 9))
  accepted_ends (Same events) k e text script reads has is accepted = inl e
  accepted_ends (Undefined kind line) k e text script reads has is accepted = inr (inl e)
  accepted_ends (Refused refusal) k e text script reads has is accepted =
      absurd ((one_answer text).either refusal accepted (subst (λ t. Tells t refusal) (same_bytes o asked.input k.text text k.has_text reads) k.of_text))
  accepted_ends CannotReadText k e text script reads has is accepted = absurd (quiet e)
  accepted_ends (NoScript end) k e text script reads has is accepted = inr (inr (kept_ends end k e script has is))
  accepted_ends NoMemory k e text script reads has is accepted = inr (inr e)

  refused_ends : (ended : Ended) → Knows asked o ended → result ≡ status_of ended → (text script : List ℕ) (refusal : Refusal) → o asked.input ≡ Some text → o asked.script ≡ Some script → IsScript script
      → Tells text refusal → (result ≡ 1) ⊎ (result ≡ 9)
  refused_ends (Same events) k e text script refusal reads has is tells =
      absurd ((one_answer text).either refusal (subst IsAcceptedText (same_bytes o asked.input k.text text k.has_text reads) k.of_text) tells)
  refused_ends (Undefined kind line) k e text script refusal reads has is tells =
      absurd ((one_answer text).either refusal (subst IsAcceptedText (same_bytes o asked.input k.text text k.has_text reads) k.of_text) tells)
  refused_ends (Refused told) k e text script refusal reads has is tells = inl e
  refused_ends CannotReadText k e text script refusal reads has is tells = absurd (quiet e)
  refused_ends (NoScript end) k e text script refusal reads has is tells = inr (kept_ends end k e script has is)
  refused_ends NoMemory k e text script refusal reads has is tells = inr e

  read_ends : (ended : Ended) → Knows asked o ended → result ≡ status_of ended → (text script : List ℕ) → o asked.input ≡ Some text → o asked.script ≡ Some script → ReadsEnd text script result
  read_ends (Same events) k e text script reads has =
      inl (inl e, subst IsScript (same_bytes o asked.script k.script script k.has_script has) k.of_script, subst IsAcceptedText (same_bytes o asked.input k.text text k.has_text reads) k.of_text)
  read_ends (Undefined kind line) k e text script reads has =
      inl (inr e, subst IsScript (same_bytes o asked.script k.script script k.has_script has) k.of_script, subst IsAcceptedText (same_bytes o asked.input k.text text k.has_text reads) k.of_text)
  read_ends (Refused refusal) k e text script reads has =
      inr (inl (e, subst IsScript (same_bytes o asked.script k.script script k.has_script has) k.of_script, (refusal, subst (λ t. Tells t refusal) (same_bytes o asked.input k.text text k.has_text reads) k.of_text)))
  read_ends CannotReadText k e text script reads has = absurd (quiet e)
  read_ends (NoScript end) k e text script reads has = inr (inr (script_ends o asked.script end k result quiet e script has))
  read_ends NoMemory k e text script reads has = inr (inr (inr e))

  pub agreement_whole : (before after : Option (List ℕ)) → AgreementTells RunsTell asked o before after result → (result ≡ 0) ⊎ ((result ≡ 1) ⊎ ((result ≡ 4) ⊎ ((result ≡ 5) ⊎ (result ≡ 9))))
      → AgreementCompletes asked o result
  agreement_whole before after t ends =
      record {
        ends = ends;
        files =
            record {
              ends = λ text script reads has. ⊎_elim (λ said. read_ends t.ended t.knows said.0 text script reads has) (λ up. inr (inr (inr (nine up.0)))) t.last;
              no_script = λ text script reads has none. ⊎_elim (λ said. no_script_ends t.ended t.knows said.0 script has none) (λ up. inr (nine up.0)) t.last;
              accepted = λ text script reads has is accepted.
                  ⊎_elim (λ said. accepted_ends t.ended t.knows said.0 text script reads has is accepted) (λ up. inr (inr (nine up.0))) t.last;
              refused = λ text script refusal reads has is tells.
                  ⊎_elim (λ said. refused_ends t.ended t.knows said.0 text script refusal reads has is tells) (λ up. inr (nine up.0)) t.last;
            };
      }
