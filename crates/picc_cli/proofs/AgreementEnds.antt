-- What is known of a comparison by its end.
use Rattle.std.proofs.Common.{◌≡◌, ℕ, Option, Some, None, IfSome, List, sym, ◌∙◌, subst}
use Rattle.c_typed.specs.Views.{program_of}
use Rattle.call_graph.specs.declared.types.FnCopy.{FnCopy}
use Rattle.host_io.specs.Host.{Kind, Contents, IsRead}
use Rattle.pic_map.specs.MapView.{content_of as map_content}
use Rattle.pic_world.specs.declared.script.Script.{Script}
use Rattle.picc_core.proofs.Trees.{typed_tree}
use Rattle.picc_core.specs.Compiled.{IsCompiledTo}
use Rattle.picc_core.specs.Decided.{IsAcceptedText}
use Rattle.picc_core.specs.declared.known.Built.{Built}
use Rattle.program_code.specs.Translated.{IsTranslated}
use Rattle.run_compare.specs.Agreement.{Tells}
use Rattle.run_compare.specs.declared.comparing.Agreed.{Agreed}
use Rattle.run_compare.specs.declared.comparing.Agreed.TheVariants as answers
use Rattle.schedule.specs.Off.{last_free}
use Rattle.schedule.specs.ScriptFile.{ScriptContent, content_of as script_content}
use Rattle.schedule.specs.Watching.{run_of}
use Rattle.picc_cli.specs.declared.building.Outcome.TheVariants as outcomes
use Rattle.picc_cli.specs.declared.comparing.Ended.{Ended}
use Rattle.picc_cli.specs.declared.comparing.Ended.TheVariants.{Same, Undefined, Refused, CannotReadText, NoScript, NoMemory}
use Rattle.picc_cli.specs.declared.inputs.FileEnd.{FileEnd}
use Rattle.picc_cli.specs.Agreement.{Knows, RunKnows, files_of, last_line, status_of}
use Rattle.picc_cli.specs.Command.{Compared, Agree}
use Rattle.picc_cli.specs.Finished.{HasTold}
use Rattle.picc_cli.specs.Inputs.{IsScriptInput, HasNoScript}
use Rattle.picc_cli.specs.Made.{HasMade, RunsMade}
use Rattle.picc_cli.specs.RunsTold.{EndTells, FilesTell, IsExact, RunsTell}
use Rattle.host_lines.specs.Said.{Says}
use Rattle.picc_cli.specs.ScriptInput.{IsFile, IsScript}
use Rattle.picc_cli.specs.Trace.{Reads}
use Rattle.picc_cli.proofs.Files.{content_of, take_all}
use Rattle.picc_cli.proofs.SimulationEnds.{said_last}
use Rattle.picc_core.specs.Compiled.{plain}
use Rattle.picc_cli.proofs.Whole.{why_whole, accepted_whole, tree_whole}

-- what a text is compiled to, and what is told of its run
pub compiled_tell : (text : List ℕ) (built : Built) (script : Script) (n : ℕ) (agreed : Agreed) → IsCompiledTo text built
    → IsTranslated (program_of built.typed) built.image (map_content built.map)
    → ((copies : List FnCopy) → Tells (program_of built.typed) copies (map_content built.map) (run_of built.image built.map script) (last_free (run_of built.image built.map script) n) agreed)
    → RunsMade text (script_content script) n agreed
compiled_tell text built script n agreed is made tells = record {
  tells =
      record {
        accepted = is.taken;
        program = program_of built.typed;
        typed = is.typed;
        roots = is.roots;
        acyclic = is.recursion;
        image = built.image;
        content = map_content built.map;
        placed = is.lines;
        faithful = is.faithful;
        told = tells;
      };
  translated = made;
}

module _ (asked : Compared) where
  reads : (o : Contents) (text script : List ℕ) (content : ScriptContent) (Of : List ℕ → Type 0) → o asked.input ≡ Some text → o asked.script ≡ Some script → IsScriptInput content script → Of text
      → Reads (files_of asked) o Of IsScript
  reads o text script content Of has_text has_script is of =
      record { text = text; script = script; has_text = has_text; has_script = has_script; of_text = of; of_script = record { short = is.short; content = content; file = is.file } }

  compared_at : (o : Contents) (ended : Ended) (bytes : List ℕ) (content : ScriptContent) → IsRead asked.input 262145 bytes o → IsFile o asked.script (IsScriptInput content) → RunKnows bytes ended
      → Knows asked o ended
  compared_at o (Same events) bytes content read (script, has, is) accepted =
      let text = content_of 262145 (o asked.input) bytes read in
      reads o text.0 script content IsAcceptedText text.1 has is (accepted_whole text.0 bytes text.2 accepted)
  compared_at o (Undefined kind line) bytes content read (script, has, is) accepted =
      let text = content_of 262145 (o asked.input) bytes read in
      reads o text.0 script content IsAcceptedText text.1 has is (accepted_whole text.0 bytes text.2 accepted)
  compared_at o (Refused refusal) bytes content read (script, has, is) tells =
      let text = content_of 262145 (o asked.input) bytes read in
      reads o text.0 script content _ text.1 has is (why_whole plain text.0 bytes (outcomes.Refused refusal) (λ l. sym text.2 ∙ take_all text.0 262145 l) text.2 tells)
  compared_at o CannotReadText bytes content read file none = absurd none
  compared_at o (NoScript end) bytes content read file none = absurd none
  compared_at o NoMemory bytes content read file none = tt

  -- ---- what is told of the runs
  files_tell : (o : Contents) (bytes : List ℕ) (content : ScriptContent) (agreed : Agreed) → IsRead asked.input 262145 bytes o → IsFile o asked.script (IsScriptInput content)
      → RunsMade bytes content asked.instructions agreed → FilesTell RunsMade asked o agreed
  files_tell o bytes content agreed read file tells =
      let text = content_of 262145 (o asked.input) bytes read in
      let whole = tree_whole text.0 bytes text.2 (typed_tree bytes tells.tells.program tells.tells.typed) in
      record { text = text.0; script = content; has_text = text.1; script_file = file; runs = subst (λ t. RunsMade t content asked.instructions agreed) whole tells }

  exact_at : (o : Contents) (ended : Ended) (bytes : List ℕ) (content : ScriptContent) → IsRead asked.input 262145 bytes o → IsFile o asked.script (IsScriptInput content)
      → EndTells RunsMade bytes content asked.instructions ended → IsExact RunsMade asked o ended
  exact_at o (Same events) bytes content read file tells = files_tell o bytes content (answers.Same events) read file tells
  exact_at o (Undefined kind line) bytes content read file tells = files_tell o bytes content (answers.Undefined kind line) read file tells
  exact_at o (Refused refusal) bytes content read file tells = tt
  exact_at o CannotReadText bytes content read file tells = tt
  exact_at o (NoScript end) bytes content read file tells = tt
  exact_at o NoMemory bytes content read file tells = tt

  pub runs_exact : (old middle : Option Contents) (ended : Ended) (bytes text : List ℕ) (content : ScriptContent) → IfSome old (IsRead asked.input 262145 bytes) → middle ≡ old
      → IfSome middle (λ o. IsFile o asked.script (IsScriptInput content)) → text ≡ bytes → EndTells RunsMade text content asked.instructions ended → IfSome old (λ o. IsExact RunsMade asked o ended)
  runs_exact None middle ended bytes text content read same file e tells = tt
  runs_exact (Some o) middle ended bytes text content read same file e tells =
      exact_at o ended bytes content read (subst (λ c. IfSome c (λ o. IsFile o asked.script (IsScriptInput content))) same file) (subst (λ t. EndTells RunsMade t content asked.instructions ended) e tells)

  -- where the runs weren't compared nothing is to be told of them
  pub unread_exact : (old : Option Contents) → IfSome old (λ o. IsExact RunsMade asked o CannotReadText)
  unread_exact None = tt
  unread_exact (Some o) = tt

  pub unheld_exact : (old : Option Contents) → IfSome old (λ o. IsExact RunsMade asked o NoMemory)
  unheld_exact None = tt
  unheld_exact (Some o) = tt

  pub unscripted_exact : (old : Option Contents) (end : FileEnd) → IfSome old (λ o. IsExact RunsMade asked o (NoScript end))
  unscripted_exact None end = tt
  unscripted_exact (Some o) end = tt

  -- the text and the script were read, and the runs compared
  pub runs_known : (old middle : Option Contents) (ended : Ended) (bytes text : List ℕ) (content : ScriptContent) → IfSome old (IsRead asked.input 262145 bytes) → middle ≡ old
      → IfSome middle (λ o. IsFile o asked.script (IsScriptInput content)) → text ≡ bytes → RunKnows text ended → IfSome old (λ o. Knows asked o ended)
  runs_known None middle ended bytes text content read same file e knows = tt
  runs_known (Some o) middle ended bytes text content read same file e knows =
      compared_at o ended bytes content read (subst (λ c. IfSome c (λ o. IsFile o asked.script (IsScriptInput content))) same file) (subst (λ t. RunKnows t ended) e knows)

  -- there was no script
  pub none_known : (old middle : Option Contents) (end : FileEnd) → middle ≡ old → IfSome middle (λ o. HasNoScript o asked.script end) → IfSome old (λ o. Knows asked o (NoScript end))
  none_known None middle end same none = tt
  none_known (Some o) middle end same none = subst (λ c. IfSome c (λ o. HasNoScript o asked.script end)) same none

  -- whoever made the image, this is told of its run
  told_files : (o : Contents) (agreed : Agreed) → FilesTell RunsMade asked o agreed → FilesTell RunsTell asked o agreed
  told_files o agreed is = record { text = is.text; script = is.script; has_text = is.has_text; script_file = is.script_file; runs = is.runs.tells }

  told_exact : (o : Contents) (ended : Ended) → IsExact RunsMade asked o ended → IsExact RunsTell asked o ended
  told_exact o (Same events) exact = told_files o (answers.Same events) exact
  told_exact o (Undefined kind line) exact = told_files o (answers.Undefined kind line) exact
  told_exact o (Refused refusal) exact = tt
  told_exact o CannotReadText exact = tt
  told_exact o (NoScript end) exact = tt
  told_exact o NoMemory exact = tt

  pub agreement_made : (ended : Ended) (old new : Option Contents) (kind : Kind) (first later : ℕ) (p middle q : Option (List ℕ)) (result : ℕ) → IfSome old (λ o. Knows asked o ended) → IfSome old (λ o. IsExact RunsMade asked o ended) → middle ≡ p
      → Says kind first later middle q (last_line asked ended) (status_of ended) result → IfSome old (λ o. HasMade (Some (Agree asked)) o new p q result)
  agreement_made ended None new kind first later p middle q result knows exact same says = tt
  agreement_made ended (Some o) new kind first later p middle q result knows exact same says =
      let alike = subst (λ x. Says kind first later x q (last_line asked ended) (status_of ended) result) same says in
      record { ended = ended; knows = knows; exact = exact; last = said_last kind first later p q (last_line asked ended) (status_of ended) result alike }

  pub agreement_told : (ended : Ended) (old new : Option Contents) (kind : Kind) (first later : ℕ) (p middle q : Option (List ℕ)) (result : ℕ) → IfSome old (λ o. Knows asked o ended) → IfSome old (λ o. IsExact RunsMade asked o ended) → middle ≡ p
      → Says kind first later middle q (last_line asked ended) (status_of ended) result → IfSome old (λ o. HasTold (Some (Agree asked)) o new p q result)
  agreement_told ended None new kind first later p middle q result knows exact same says = tt
  agreement_told ended (Some o) new kind first later p middle q result knows exact same says =
      let alike = subst (λ x. Says kind first later x q (last_line asked ended) (status_of ended) result) same says in
      record { ended = ended; knows = knows; exact = told_exact o ended exact; last = said_last kind first later p q (last_line asked ended) (status_of ended) result alike }
