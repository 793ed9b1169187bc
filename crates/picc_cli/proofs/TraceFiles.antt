-- What a trace knows of its files.
use Rattle.std.proofs.Common.{◌≡◌, ℕ, Option, Some, None, IfSome, List, sym, ◌∙◌, subst}
use Rattle.host_io.specs.Host.{Contents, IsRead}
use Rattle.picc_core.specs.Answers.{Tells}
use Rattle.picc_core.specs.Decided.{IsAcceptedText}
use Rattle.picc_core.specs.declared.refusal.Refusal.{Refusal}
use Rattle.schedule.specs.ScriptFile.{ScriptContent}
use Rattle.picc_cli.specs.declared.building.Outcome.TheVariants as outcomes
use Rattle.picc_cli.specs.declared.inputs.FileEnd.{FileEnd}
use Rattle.picc_cli.specs.declared.tracing.Ended.{Ended}
use Rattle.picc_cli.specs.declared.tracing.Ended.TheVariants.{Done, Undefined, Refused, CannotReadText, NoScript, CannotPrint, NoMemory}
use Rattle.picc_cli.specs.Command.{Asked}
use Rattle.picc_cli.specs.Inputs.{IsScriptInput, HasNoScript}
use Rattle.picc_cli.specs.ScriptInput.{IsFile, IsScript}
use Rattle.picc_cli.specs.Trace.{Knows, IsRunEnd}
use Rattle.picc_cli.proofs.Files.{content_of, take_all}
use Rattle.picc_core.specs.Compiled.{plain}
use Rattle.picc_cli.proofs.Whole.{why_whole, accepted_whole}

-- ---- the text and the script
pub no_script_known : (asked : Asked) (old middle : Option Contents) (end : FileEnd) → middle ≡ old → IfSome middle (λ o. HasNoScript o asked.script end) → IfSome old (λ o. Knows asked o (NoScript end))
no_script_known asked None middle end same none = tt
no_script_known asked (Some o) middle end same none = subst (λ c. IfSome c (λ o. HasNoScript o asked.script end)) same none

script_of : (o : Contents) (name : List ℕ) (content : ScriptContent) → IsFile o name (IsScriptInput content) → IsFile o name IsScript
script_of o name content (bytes, has, is) = (bytes, has, record { short = is.short; content = content; file = is.file })

run_at : (asked : Asked) (o : Contents) (ended : Ended) (bytes : List ℕ) → IsRead asked.input 262145 bytes o → IsFile o asked.script IsScript → IsAcceptedText bytes → IsRunEnd ended → Knows asked o ended
run_at asked o Done bytes read (script, has, is) accepted end =
    let text = content_of 262145 (o asked.input) bytes read in
    record {
      text = text.0;
      script = script;
      has_text = text.1;
      has_script = has;
      of_text = accepted_whole text.0 bytes text.2 accepted;
      of_script = is;
    }
run_at asked o (Undefined kind line) bytes read (script, has, is) accepted end =
    let text = content_of 262145 (o asked.input) bytes read in
    record {
      text = text.0;
      script = script;
      has_text = text.1;
      has_script = has;
      of_text = accepted_whole text.0 bytes text.2 accepted;
      of_script = is;
    }
run_at asked o CannotPrint bytes read file accepted end = tt
run_at asked o NoMemory bytes read file accepted end = tt
run_at asked o (Refused refusal) bytes read file accepted end = absurd end
run_at asked o CannotReadText bytes read file accepted end = absurd end
run_at asked o (NoScript why) bytes read file accepted end = absurd end

pub run_known : (asked : Asked) (old middle : Option Contents) (content : ScriptContent) (ended : Ended) (bytes text : List ℕ) → IfSome old (IsRead asked.input 262145 bytes) → middle ≡ old
    → IfSome middle (λ o. IsFile o asked.script (IsScriptInput content)) → text ≡ bytes → IsAcceptedText text → IsRunEnd ended → IfSome old (λ o. Knows asked o ended)
run_known asked None middle content ended bytes text read same file e accepted end = tt
run_known asked (Some o) middle content ended bytes text read same file e accepted end =
    run_at asked o ended bytes read (script_of o asked.script content (subst (λ c. IfSome c (λ o. IsFile o asked.script (IsScriptInput content))) same file)) (subst IsAcceptedText e accepted) end

refused_at : (asked : Asked) (o : Contents) (refusal : Refusal) (bytes : List ℕ) → IsRead asked.input 262145 bytes o → IsFile o asked.script IsScript → Tells bytes refusal
    → Knows asked o (Refused refusal)
refused_at asked o refusal bytes read (script, has, is) tells =
    let text = content_of 262145 (o asked.input) bytes read in
    record {
      text = text.0;
      script = script;
      has_text = text.1;
      has_script = has;
      of_text = why_whole plain text.0 bytes (outcomes.Refused refusal) (λ l. sym text.2 ∙ take_all text.0 262145 l) text.2 tells;
      of_script = is;
    }

pub refused_known : (asked : Asked) (old middle : Option Contents) (content : ScriptContent) (told refusal : Refusal) (bytes text : List ℕ) → IfSome old (IsRead asked.input 262145 bytes) → middle ≡ old
    → IfSome middle (λ o. IsFile o asked.script (IsScriptInput content)) → text ≡ bytes → Tells text refusal → told ≡ refusal → IfSome old (λ o. Knows asked o (Refused told))
refused_known asked None middle content told refusal bytes text read same file e tells is = tt
refused_known asked (Some o) middle content told refusal bytes text read same file e tells is =
    let tells_read = subst (λ t. Tells t refusal) e tells in
    refused_at asked o told bytes read (script_of o asked.script content (subst (λ c. IfSome c (λ o. IsFile o asked.script (IsScriptInput content))) same file)) (subst (Tells bytes) (sym is) tells_read)
