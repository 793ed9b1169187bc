-- How a trace ends, by what was printed.
use Rattle.std.proofs.Common.{◌≡◌, ℕ, ◌⊎◌, inl, inr, ⊎_elim, true, IsTrue, Option, Some, None, IfSome, List, [], ◌++◌, refl, sym, ap, ◌∙◌, subst, arith, option_map}
use Rattle.host_io.specs.Host.{Kind, Contents, Lacks, PrintsPrefix, IsCounted}
use Rattle.picc_core.proofs.OneAnswer.{one_answer}
use Rattle.picc_core.specs.Answers.{Tells}
use Rattle.picc_core.specs.Decided.{IsAcceptedText}
use Rattle.picc_core.specs.declared.refusal.Refusal.{Refusal}
use Rattle.picc_cli.specs.declared.inputs.FileEnd.{FileEnd}
use Rattle.picc_cli.specs.declared.inputs.FileEnd.TheVariants as files
use Rattle.picc_cli.specs.declared.inputs.FileEnd.TheVariants.{CannotRead}
use Rattle.picc_cli.specs.declared.tracing.Ended.{Ended}
use Rattle.picc_cli.specs.declared.tracing.Ended.TheVariants.{Done, Undefined, Refused, CannotReadText, NoScript, CannotPrint, NoMemory}
use Rattle.picc_cli.specs.Command.{Asked, Form, Trace}
use Rattle.picc_cli.specs.Finished.{LacksFile, HasFaults, IsStatus, HasStatus, TracePrints, TraceTells, HasTold, IsComplete, ReadsEnd}
use Rattle.picc_cli.specs.Inputs as inputs
use Rattle.picc_cli.specs.Lines.{cannot_read}
use Rattle.host_lines.specs.Said.{GivesUp, HasOutcomeCause, Says}
use Rattle.picc_cli.specs.ScriptInput.{IsScript}
use Rattle.picc_cli.specs.Trace.{Knows, is_fault, FailsWithoutFiles, AreEventLines, last_line, Leads, IsTraceText, status_of}
use Rattle.picc_cli.proofs.Endings.{number_apart, counted_later, quiet_ends, quiet_nine, said_prefix}
use Rattle.host_lines.proofs.Prefixes.{longer, later}
use Rattle.picc_cli.proofs.FilesKept.{same_bytes, script_kept, script_ends, file_ends}
use Rattle.picc_cli.proofs.FormEnds.{form_faults}
use Rattle.picc_cli.proofs.FormPrints.{then_more, prefix_of_nothing}
use Rattle.picc_cli.proofs.InputFiles.{file_three, file_fault}

-- ---- faults and statuses
pub three_fails : (ended : Ended) → status_of ended ≡ 3 → is_fault ended ≡ true
three_fails Done e = absurd (omega arith)
three_fails (Undefined kind line) e = absurd (omega arith)
three_fails (Refused refusal) e = absurd (omega arith)
three_fails CannotReadText e = refl
three_fails (NoScript end) e = file_three end e
three_fails CannotPrint e = refl
three_fails NoMemory e = absurd (omega arith)

fails_three : (ended : Ended) → is_fault ended ≡ true → status_of ended ≡ 3
fails_three Done e = absurd (cc)
fails_three (Undefined kind line) e = absurd (cc)
fails_three (Refused refusal) e = absurd (cc)
fails_three CannotReadText e = refl
fails_three (NoScript end) e = file_fault end e
fails_three CannotPrint e = refl
fails_three NoMemory e = absurd (cc)

module _ (asked : Asked) where
  abbrev form : Option Form
  form = Some (Trace asked)

  no_form : form ≡ None → ⊥
  no_form none = cc

  -- ---- the status
  script_status : (end : FileEnd) (result : ℕ) → result ≡ inputs.status_of end → IsStatus form result
  script_status CannotRead result e = inr (inr (inr (inr (inl e))))
  script_status files.TooLong result e = inr (inr (inr (inl e)))
  script_status (files.BadHex error) result e = inr (inr (inr (inl e)))
  script_status (files.BadLine line) result e = inr (inr (inr (inl e)))
  script_status files.NoMemory result e = inr (inr (inr (inr (inr e))))

  status_known : (ended : Ended) (result : ℕ) → result ≡ status_of ended → IsStatus form result
  status_known Done result e = inl e
  status_known (Undefined kind line) result e = inr (inr (inl e))
  status_known (Refused refusal) result e = inr (inl e)
  status_known CannotReadText result e = inr (inr (inr (inr (inl e))))
  status_known (NoScript end) result e = script_status end result e
  status_known CannotPrint result e = inr (inr (inr (inr (inl e))))
  status_known NoMemory result e = inr (inr (inr (inr (inr e))))

  not_two : (result : ℕ) → IsStatus form result → result ≡ 2 → form ≡ None
  not_two result (inl e) two = absurd (omega arith)
  not_two result (inr (inl e)) two = absurd (omega arith)
  not_two result (inr (inr (inl e))) two = absurd (omega arith)
  not_two result (inr (inr (inr (inl e)))) two = absurd (omega arith)
  not_two result (inr (inr (inr (inr (inl e))))) two = absurd (omega arith)
  not_two result (inr (inr (inr (inr (inr e))))) two = absurd (omega arith)

  has_status : (result : ℕ) → IsStatus form result → HasStatus form result
  has_status result known = record { known = known; usage = not_two result known; no_form = λ none. absurd (no_form none) }

  pub trace_status : (ended : Ended) (kind : Kind) (before now : ℕ) (p q : Option (List ℕ)) (result : ℕ)
      → Says kind before now p q (last_line asked ended) (status_of ended) result → HasStatus form result
  trace_status ended kind before now p q result (inl s) = has_status result (status_known ended result s.ends)
  trace_status ended kind before now p q result (inr u) = has_status result (inr (inr (inr (inr u.ends))))

  -- ---- the whole text, or a prefix of one

  whole_text : (ended : Ended) (p middle q : Option (List ℕ)) → Leads asked.steps ended p middle → q ≡ option_map (λ t. t ++ last_line asked ended) middle
      → GivesUp (status_of ended) ⊎ ((text : List ℕ) × IsTraceText asked ended text × (q ≡ option_map (λ t. t ++ text) p))
  whole_text Done p middle q (text, lines, e) f = inr (text ++ [], record { events = text; has_events = lines; whole = refl }, then_more p middle q text [] e f)
  whole_text (Undefined kind line) p middle q (text, lines, e) f =
      inr (text ++ last_line asked (Undefined kind line), record { events = text; has_events = lines; whole = refl }, then_more p middle q text (last_line asked (Undefined kind line)) e f)
  whole_text (Refused refusal) p middle q same f =
      inr (last_line asked (Refused refusal), record { events = []; has_events = refl; whole = refl }, f ∙ ap (option_map (λ t. t ++ last_line asked (Refused refusal))) same)
  whole_text CannotReadText p middle q same f = inl (inl refl)
  whole_text (NoScript end) p middle q same f =
      inr (last_line asked (NoScript end), record { events = []; has_events = refl; whole = refl }, f ∙ ap (option_map (λ t. t ++ last_line asked (NoScript end))) same)
  whole_text CannotPrint p middle q leads f = inl (inl refl)
  whole_text NoMemory p middle q leads f = inl (inr refl)

  abbrev HasPrefix : Option (List ℕ) → Option (List ℕ) → Type 0
  HasPrefix p q = (ended : Ended) × (text : List ℕ) × IsTraceText asked ended text × PrintsPrefix p q text

  broken_lines : (p middle q : Option (List ℕ)) (text : List ℕ) → AreEventLines asked.steps text → PrintsPrefix p middle text → PrintsPrefix middle q [] → HasPrefix p q
  broken_lines p middle q text lines first second =
      (Done, text ++ [], record { events = text; has_events = lines; whole = refl }, longer p q text [] (subst (λ o. PrintsPrefix p o text) (sym (prefix_of_nothing middle q second)) first))

  at_last : (ended : Ended) (p middle q : Option (List ℕ)) → IsTraceText asked ended (last_line asked ended) → middle ≡ p → PrintsPrefix middle q (last_line asked ended) → HasPrefix p q
  at_last ended p middle q is same prefix = (ended, last_line asked ended, is, subst (λ o. PrintsPrefix o q (last_line asked ended)) same prefix)

  prefix_text : (ended : Ended) (p middle q : Option (List ℕ)) → Leads asked.steps ended p middle → PrintsPrefix middle q (last_line asked ended) → HasPrefix p q
  prefix_text Done p middle q (text, lines, e) prefix = (Done, text ++ [], record { events = text; has_events = lines; whole = refl }, later p middle q text [] e prefix)
  prefix_text (Undefined kind line) p middle q (text, lines, e) prefix = (
    Undefined kind line,
    text ++ last_line asked (Undefined kind line),
    record { events = text; has_events = lines; whole = refl },
    later p middle q text (last_line asked (Undefined kind line)) e prefix,
  )
  prefix_text (Refused refusal) p middle q same prefix = at_last (Refused refusal) p middle q (record { events = []; has_events = refl; whole = refl }) same prefix
  prefix_text CannotReadText p middle q same prefix = at_last CannotReadText p middle q (record { events = []; has_events = refl; whole = refl }) same prefix
  prefix_text (NoScript end) p middle q same prefix = at_last (NoScript end) p middle q (record { events = []; has_events = refl; whole = refl }) same prefix
  prefix_text CannotPrint p middle q (text, lines, first) prefix = broken_lines p middle q text lines first prefix
  prefix_text NoMemory p middle q (inl same) prefix = at_last NoMemory p middle q (record { events = []; has_events = refl; whole = refl }) same prefix
  prefix_text NoMemory p middle q (inr (text, lines, first)) prefix = broken_lines p middle q text lines first prefix

  -- ---- the printed text
  abbrev TellsMissing : Option Contents → Option (List ℕ) → Option (List ℕ) → Type 0
  TellsMissing old p q =
      (Lacks old asked.input × (q ≡ option_map (λ text. text ++ cannot_read asked.input) p)) ⊎ (Lacks old asked.script × (q ≡ option_map (λ text. text ++ cannot_read asked.script) p))

  missing_text : (ended : Ended) (p middle q : Option (List ℕ)) → ended ≡ CannotReadText → Leads asked.steps ended p middle → q ≡ option_map (λ t. t ++ last_line asked ended) middle
      → q ≡ option_map (λ text. text ++ cannot_read asked.input) p
  missing_text ended p middle q is leads e =
      let same : middle ≡ p = subst (λ x. Leads asked.steps x p middle) is leads in
      let said : q ≡ option_map (λ t. t ++ cannot_read asked.input) middle = subst (λ x. q ≡ option_map (λ t. t ++ last_line asked x) middle) is e in
      said ∙ ap (option_map (λ text. text ++ cannot_read asked.input)) same

  missing_script : (ended : Ended) (p middle q : Option (List ℕ)) → ended ≡ NoScript CannotRead → Leads asked.steps ended p middle → q ≡ option_map (λ t. t ++ last_line asked ended) middle
      → q ≡ option_map (λ text. text ++ cannot_read asked.script) p
  missing_script ended p middle q is leads e =
      let same : middle ≡ p = subst (λ x. Leads asked.steps x p middle) is leads in
      let said : q ≡ option_map (λ t. t ++ cannot_read asked.script) middle = subst (λ x. q ≡ option_map (λ t. t ++ last_line asked x) middle) is e in
      said ∙ ap (option_map (λ text. text ++ cannot_read asked.script)) same

  told_missing : (kind : Kind) (old : Option Contents) (ended : Ended) (p middle q : Option (List ℕ)) → FailsWithoutFiles kind old asked ended → IsTrue kind.is_sound → is_fault ended ≡ true
      → Leads asked.steps ended p middle → q ≡ option_map (λ t. t ++ last_line asked ended) middle → TellsMissing old p q
  told_missing kind old ended p middle q fails sound fault leads e =
      ⊎_elim
      (λ (is, lacks). inl (lacks, missing_text ended p middle q is leads e))
      (λ (is, lacks). inr (lacks, missing_script ended p middle q is leads e))
      (fails.only sound fault)

  pub trace_printed : (kind later : Kind) (old : Option Contents) (ended : Ended) (before now : ℕ) (p middle q : Option (List ℕ)) (result : ℕ)
      → FailsWithoutFiles kind old asked ended → later ≡ kind → Leads asked.steps ended p middle
      → Says later before now middle q (last_line asked ended) (status_of ended) result → TracePrints kind asked old p q result
  trace_printed kind later old ended before now p middle q result fails alike leads (inl s) =
      record {
        whole = ⊎_elim
            (λ up. inl (subst GivesUp (sym s.ends) up))
            (λ (text, is, e). inr (ended, text, sym s.ends, is, e))
            (whole_text ended p middle q leads s.printed);
        prefix = λ _. prefix_text ended p middle q leads (said_prefix later before now middle q (last_line asked ended) (status_of ended) result (inl s));
        sound = λ is three. told_missing kind old ended p middle q fails is (three_fails ended (sym s.ends ∙ three)) leads s.printed;
      }
  trace_printed kind later old ended before now p middle q result fails alike leads (inr u) =
      record {
        whole = inl u.ends;
        prefix = λ _. prefix_text ended p middle q leads u.printed;
        sound = λ is three. number_apart 3 9 result (omega arith) three (u.unsound (subst (λ (k : Kind). IsTrue k.is_sound) (sym alike) is));
      }

  -- ---- where the files are told too
  told_at : (ended : Ended) (o : Contents) (kind : Kind) (before now : ℕ) (p middle q : Option (List ℕ)) (result : ℕ) → Knows asked o ended → Leads asked.steps ended p middle
      → Says kind before now middle q (last_line asked ended) (status_of ended) result → GivesUp result ⊎ TraceTells asked o p q result
  told_at ended o kind before now p middle q result knows leads (inl s) =
      ⊎_elim
      (λ up. inl (subst GivesUp (sym s.ends) up))
      (λ (text, is, e). inr (record { ended = ended; text = text; status = sym s.ends; knows = knows; whole = is; printed = e }))
      (whole_text ended p middle q leads s.printed)
  told_at ended o kind before now p middle q result knows leads (inr u) = inl u.ends

  pub trace_told : (ended : Ended) (old new : Option Contents) (kind : Kind) (before now : ℕ) (p middle q : Option (List ℕ)) (result : ℕ) → IfSome old (λ o. Knows asked o ended)
      → Leads asked.steps ended p middle → Says kind before now middle q (last_line asked ended) (status_of ended) result → IfSome old (λ o. HasTold form o new p q result)
  trace_told ended None new kind before now p middle q result knows leads says = tt
  trace_told ended (Some o) new kind before now p middle q result knows leads says = told_at ended o kind before now p middle q result knows leads says

  -- ---- faults
  pub trace_faults : (kind alike : Kind) (old : Option Contents) (ended : Ended) (first before now : ℕ) (p q : Option (List ℕ)) (result : ℕ) → HasOutcomeCause kind first before (is_fault ended)
      → FailsWithoutFiles kind old asked ended → alike ≡ kind → Says alike before now p q (last_line asked ended) (status_of ended) result → HasFaults kind first now form old result
  trace_faults kind alike old ended first before now p q result cause fails same says =
      form_faults form kind alike old (is_fault ended) (status_of ended) (three_fails ended) (fails_three ended) only gives_up first before now p q (last_line asked ended) result cause same says
    where
      only : IsTrue kind.is_sound → is_fault ended ≡ true → LacksFile form old
      only is at = ⊎_elim (λ (x, lacks). inl lacks) (λ (x, lacks). inr lacks) (fails.only is at)

      at_script : (ended ≡ CannotReadText) ⊎ ((ended ≡ NoScript CannotRead) ⊎ (ended ≡ NoMemory)) → GivesUp (status_of ended)
      at_script (inl x) = inl (ap status_of x)
      at_script (inr (inl x)) = inl (ap status_of x)
      at_script (inr (inr x)) = inr (ap status_of x)

      gives_up : IsTrue kind.is_sound → LacksFile form old → GivesUp (status_of ended)
      gives_up is (inl lacks) = inl (ap status_of (fails.text is lacks))
      gives_up is (inr lacks) = at_script (fails.script is lacks)

  -- ---- without a fault
  no_script_ends : (ended : Ended) (o : Contents) (result : ℕ) → Knows asked o ended → result ≡ status_of ended → (is_fault ended ≡ true → ⊥) → (script : List ℕ) → o asked.script ≡ Some script
      → (IsScript script → ⊥) → (result ≡ 5) ⊎ (result ≡ 9)
  no_script_ends Done o result k e quiet script has none = absurd (none (subst IsScript (same_bytes o asked.script k.script script k.has_script has) k.of_script))
  no_script_ends (Undefined kind line) o result k e quiet script has none = absurd (none (subst IsScript (same_bytes o asked.script k.script script k.has_script has) k.of_script))
  no_script_ends (Refused refusal) o result k e quiet script has none = absurd (none (subst IsScript (same_bytes o asked.script k.script script k.has_script has) k.of_script))
  no_script_ends CannotReadText o result k e quiet script has none = absurd (quiet refl)
  no_script_ends (NoScript end) o result k e quiet script has none = file_ends end result (λ three. quiet (file_three end (sym e ∙ three))) e
  no_script_ends CannotPrint o result k e quiet script has none = absurd (quiet refl)
  no_script_ends NoMemory o result k e quiet script has none = inr e

  -- where there is a script, the text decides
  kept_ends : (end : FileEnd) (o : Contents) (result : ℕ) → inputs.HasNoScript o asked.script end → result ≡ inputs.status_of end → (inputs.is_fault end ≡ true → ⊥) → (script : List ℕ)
      → o asked.script ≡ Some script → IsScript script → result ≡ 9
  kept_ends end o result k e quiet script has is =
      ⊎_elim
      (λ three. absurd (quiet (file_three end three)))
      (λ nine. e ∙ nine)
      (script_kept o asked.script is.content end (script, has, record { short = is.short; file = is.file }) k)

  accepted_ends : (ended : Ended) (o : Contents) (result : ℕ) → Knows asked o ended → result ≡ status_of ended → (is_fault ended ≡ true → ⊥) → (text script : List ℕ) → o asked.input ≡ Some text
      → o asked.script ≡ Some script → IsScript script → IsAcceptedText text → (result ≡ 0) ⊎ ((result ≡ 4) ⊎ (result ≡ 9))
  accepted_ends Done o result k e quiet text script reads has is accepted = inl e
  accepted_ends (Undefined kind line) o result k e quiet text script reads has is accepted = inr (inl e)
  accepted_ends (Refused refusal) o result k e quiet text script reads has is accepted =
      absurd ((one_answer text).either refusal accepted (subst (λ t. Tells t refusal) (same_bytes o asked.input k.text text k.has_text reads) k.of_text))
  accepted_ends CannotReadText o result k e quiet text script reads has is accepted = absurd (quiet refl)
  accepted_ends (NoScript end) o result k e quiet text script reads has is accepted = inr (inr (kept_ends end o result k e quiet script has is))
  accepted_ends CannotPrint o result k e quiet text script reads has is accepted = absurd (quiet refl)
  accepted_ends NoMemory o result k e quiet text script reads has is accepted = inr (inr e)

  refused_ends : (ended : Ended) (o : Contents) (result : ℕ) → Knows asked o ended → result ≡ status_of ended → (is_fault ended ≡ true → ⊥) → (text script : List ℕ) (refusal : Refusal)
      → o asked.input ≡ Some text → o asked.script ≡ Some script → IsScript script → Tells text refusal → (result ≡ 1) ⊎ (result ≡ 9)
  refused_ends Done o result k e quiet text script refusal reads has is tells =
      absurd ((one_answer text).either refusal (subst IsAcceptedText (same_bytes o asked.input k.text text k.has_text reads) k.of_text) tells)
  refused_ends (Undefined kind line) o result k e quiet text script refusal reads has is tells =
      absurd ((one_answer text).either refusal (subst IsAcceptedText (same_bytes o asked.input k.text text k.has_text reads) k.of_text) tells)
  refused_ends (Refused told) o result k e quiet text script refusal reads has is tells = inl e
  refused_ends CannotReadText o result k e quiet text script refusal reads has is tells = absurd (quiet refl)
  refused_ends (NoScript end) o result k e quiet text script refusal reads has is tells = inr (kept_ends end o result k e quiet script has is)
  refused_ends CannotPrint o result k e quiet text script refusal reads has is tells = absurd (quiet refl)
  refused_ends NoMemory o result k e quiet text script refusal reads has is tells = inr e

  read_ends : (ended : Ended) (o : Contents) (result : ℕ) → Knows asked o ended → result ≡ status_of ended → (is_fault ended ≡ true → ⊥) → (text script : List ℕ)
      → o asked.input ≡ Some text → o asked.script ≡ Some script → ReadsEnd text script result
  read_ends Done o result k e quiet text script reads has =
      inl (inl e, subst IsScript (same_bytes o asked.script k.script script k.has_script has) k.of_script, subst IsAcceptedText (same_bytes o asked.input k.text text k.has_text reads) k.of_text)
  read_ends (Undefined kind line) o result k e quiet text script reads has =
      inl (inr e, subst IsScript (same_bytes o asked.script k.script script k.has_script has) k.of_script, subst IsAcceptedText (same_bytes o asked.input k.text text k.has_text reads) k.of_text)
  read_ends (Refused refusal) o result k e quiet text script reads has =
      inr (inl (e, subst IsScript (same_bytes o asked.script k.script script k.has_script has) k.of_script, (refusal, subst (λ t. Tells t refusal) (same_bytes o asked.input k.text text k.has_text reads) k.of_text)))
  read_ends CannotReadText o result k e quiet text script reads has = absurd (quiet refl)
  read_ends (NoScript end) o result k e quiet text script reads has =
      inr (inr (script_ends o asked.script end k result (λ three. quiet (file_three end (sym e ∙ three))) e script has))
  read_ends CannotPrint o result k e quiet text script reads has = absurd (quiet refl)
  read_ends NoMemory o result k e quiet text script reads has = inr (inr (inr e))

  complete_at : (kind : Kind) (ended : Ended) (o : Contents) (first before now : ℕ) (p q : Option (List ℕ)) (result : ℕ)
      → Knows asked o ended → HasOutcomeCause kind first before (is_fault ended)
      → Says kind before now p q (last_line asked ended) (status_of ended) result → IsComplete kind first now form o result
  complete_at kind ended o first before now p q result knows cause (inl s) = λ quiet.
      let no_fault : is_fault ended ≡ true → ⊥ = λ fault. quiet (subst (IsCounted kind first) (sym s.kept) (cause.failed fault)) in
      record {
        ends = λ text script reads has. read_ends ended o result knows s.ends no_fault text script reads has;
        no_script = λ text script reads has none. no_script_ends ended o result knows s.ends no_fault script has none;
        accepted = λ text script reads has is accepted. accepted_ends ended o result knows s.ends no_fault text script reads has is accepted;
        refused = λ text script refusal reads has is tells. refused_ends ended o result knows s.ends no_fault text script refusal reads has is tells;
      }
  complete_at kind ended o first before now p q result knows cause (inr u) = λ quiet.
      let no_three : result ≡ 3 → ⊥ = λ three. quiet (counted_later kind first before now cause.never_falls (u.failed three)) in
      record {
        ends = λ text script reads has. inr (inr (inr (quiet_nine result no_three u.ends)));
        no_script = λ text script reads has none. quiet_ends 5 result no_three u.ends;
        accepted = λ text script reads has is accepted. inr (quiet_ends 4 result no_three u.ends);
        refused = λ text script refusal reads has is tells. quiet_ends 1 result no_three u.ends;
      }

  pub trace_complete : (kind alike : Kind) (ended : Ended) (old : Option Contents) (first before now : ℕ) (p q : Option (List ℕ)) (result : ℕ)
      → IfSome old (λ o. Knows asked o ended) → HasOutcomeCause kind first before (is_fault ended) → alike ≡ kind
      → Says alike before now p q (last_line asked ended) (status_of ended) result → IfSome old (λ o. IsComplete kind first now form o result)
  trace_complete kind alike ended None first before now p q result knows cause same says = tt
  trace_complete kind alike ended (Some o) first before now p q result knows cause same says =
      complete_at kind ended o first before now p q result knows cause
      (subst (λ (k : Kind). Says k before now p q (last_line asked ended) (status_of ended) result) same says)
