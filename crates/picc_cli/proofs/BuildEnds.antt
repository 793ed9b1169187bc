-- How a build ends, by its outcome and by what was printed.
use Rattle.std.proofs.Common.{◌≡◌, ℕ, ◌⊎◌, inl, inr, true, IsTrue, Option, Some, None, IfSome, List, ◌++◌, length, refl, sym, ap, ◌∙◌, subst, arith, option_map}
use Rattle.std.proofs.Math.Seq.{take-length}
use Rattle.host_io.specs.Host.{Kind, Contents, put, PrintsPrefix, IsCounted}
use Rattle.picc_cli.specs.declared.building.Outcome.{Outcome}
use Rattle.picc_cli.specs.declared.building.Outcome.TheVariants.{Built, Refused, Register, CannotRead, CannotWriteHex, CannotWriteMap, NoMemory}
use Rattle.pic_chip.specs.declared.profile.Profile.{Profile}
use Rattle.pic_chip.specs.declared.profile.Profile.TheVariants.{Pic16F877a, Pic16F84a}
use Rattle.picc_core.proofs.OneSecond.{one_plain, one_second}
use Rattle.picc_core.specs.Compiled.{HasOneAnswerOf}
use Rattle.picc_core.specs.Compiled as builds
use Rattle.picc_core.specs.Decided.{IsAcceptedBy}
use Rattle.picc_cli.specs.Built.{IsBuiltBy}
use Rattle.picc_cli.specs.Command.{Names, Form, Build}
use Rattle.picc_cli.specs.Finished.{HasStatus, BuildHasFiles, BuildPrints, HasTold, IsComplete, IsRefusedTextBy}
use Rattle.picc_cli.specs.Lines.{cannot_read}
use Rattle.picc_cli.specs.Made.{files_for}
use Rattle.picc_cli.specs.Outcome.{Builds, Refuses, BreaksOff, TellsWhyBy, WorkedOn, build_for, is_fault, FailsWithoutInput, line_of, status_of}
use Rattle.host_lines.specs.Said.{GivesUp, HasOutcomeCause, Says}
use Rattle.picc_cli.proofs.Endings.{number_apart, up_apart, add_nothing, whole_line, counted_later, quiet_ends, quiet_nine}
use Rattle.picc_cli.proofs.FilesKept.{same_bytes}

-- what the passes made for the first chip is built, too
built_for : (chip : Profile) (text hex map : List ℕ) → files_for chip text hex map → IsBuiltBy (build_for chip) text hex map
built_for Pic16F877a text hex map is = is.built
built_for Pic16F84a text hex map is = is.built

-- of each build there is one answer
answer_for : (chip : Profile) (text : List ℕ) → HasOneAnswerOf (build_for chip) text
answer_for Pic16F877a text = one_plain text
answer_for Pic16F84a text = one_second text

never_both : (chip : Profile) (text : List ℕ) (why : Outcome) → IsAcceptedBy (build_for chip).Accepts text → TellsWhyBy (build_for chip) text why → ⊥
never_both chip text (Refused refusal) accepted tells = let answer = answer_for chip text in answer.refused.either refusal accepted tells
never_both chip text (Register line) accepted tells = (answer_for chip text).register line accepted tells
never_both chip text Built accepted tells = tells
never_both chip text CannotRead accepted tells = tells
never_both chip text CannotWriteHex accepted tells = tells
never_both chip text CannotWriteMap accepted tells = tells
never_both chip text NoMemory accepted tells = tells

module _ (names : Names) where
  abbrev form : Option Form
  form = Some (Build names)

  no_name : form ≡ None → ⊥
  no_name none = cc

  up_status : (result : ℕ) → GivesUp result → HasStatus form result
  up_status result up =
      record { known = inr (inr up); usage = λ f. up_apart 2 result (omega arith) f up; no_form = λ none. inr up }

  -- whatever the outcome was, an output that isn't whole has a prefix
  breaks : (outcome : Outcome) (o : Contents) (new : Option Contents) → WorkedOn (files_for names.chip) outcome names o new → BreaksOff (files_for names.chip) names o new
  breaks Built o new w =
      inr (record {
        text = w.text;
        hex = w.hex;
        map = w.map;
        read = w.read;
        built = w.built;
        files = inr (length w.map, omega arith, w.files ∙ ap (λ t. Some (put names.map t (put names.output w.hex o))) (sym (take-length w.map)));
      })
  breaks (Refused refusal) o new w = inl w.files
  breaks (Register line) o new w = inl w.files
  breaks CannotRead o new w = inl w
  breaks CannotWriteHex o new w = w
  breaks CannotWriteMap o new w = w
  breaks NoMemory o new w = w

  refused_files : (why : Outcome) (o : Contents) (new : Option Contents) (result : ℕ) → Refuses why names o new → result ≡ 1 → BuildHasFiles (files_for names.chip) names o new result
  refused_files why o new result w e =
      record {
        built = λ f. number_apart 0 1 result (omega arith) f e;
        refused = λ _. (why, w);
        broken = λ up. up_apart 1 result (omega arith) e up;
      }

  said_files : (outcome : Outcome) (o : Contents) (new : Option Contents) (result : ℕ) → WorkedOn (files_for names.chip) outcome names o new → result ≡ status_of outcome → BuildHasFiles (files_for names.chip) names o new result
  said_files Built o new result w e =
      record {
        built = λ _. w;
        refused = λ f. number_apart 0 1 result (omega arith) e f;
        broken = λ up. up_apart 0 result (omega arith) e up;
      }
  said_files (Refused refusal) o new result w e = refused_files (Refused refusal) o new result w e
  said_files (Register line) o new result w e = refused_files (Register line) o new result w e
  said_files CannotRead o new result w e =
      record {
        built = λ f. number_apart 0 3 result (omega arith) f e;
        refused = λ f. number_apart 1 3 result (omega arith) f e;
        broken = λ up. inl w;
      }
  said_files CannotWriteHex o new result w e =
      record {
        built = λ f. number_apart 0 3 result (omega arith) f e;
        refused = λ f. number_apart 1 3 result (omega arith) f e;
        broken = λ up. w;
      }
  said_files CannotWriteMap o new result w e =
      record {
        built = λ f. number_apart 0 3 result (omega arith) f e;
        refused = λ f. number_apart 1 3 result (omega arith) f e;
        broken = λ up. w;
      }
  said_files NoMemory o new result w e =
      record {
        built = λ f. number_apart 0 9 result (omega arith) f e;
        refused = λ f. number_apart 1 9 result (omega arith) f e;
        broken = λ up. w;
      }

  unsaid_files : (outcome : Outcome) (o : Contents) (new : Option Contents) (result : ℕ) → WorkedOn (files_for names.chip) outcome names o new → GivesUp result → BuildHasFiles (files_for names.chip) names o new result
  unsaid_files outcome o new result w up =
      record {
        built = λ e. up_apart 0 result (omega arith) e up;
        refused = λ e. up_apart 1 result (omega arith) e up;
        broken = λ _. breaks outcome o new w;
      }

  pub build_files : (outcome : Outcome) (old middle new : Option Contents) (kind : Kind) (before now : ℕ) (p q : Option (List ℕ)) (result : ℕ) → IfSome old (λ o. WorkedOn (files_for names.chip) outcome names o middle)
      → new ≡ middle → Says kind before now p q (line_of names outcome) (status_of outcome) result → IfSome old (λ o. BuildHasFiles (files_for names.chip) names o new result)
  build_files outcome None middle new kind before now p q result w same says = tt
  build_files outcome (Some o) middle new kind before now p q result w same (inl s) = said_files outcome o new result (subst (WorkedOn (files_for names.chip) outcome names o) (sym same) w) s.ends
  build_files outcome (Some o) middle new kind before now p q result w same (inr u) = unsaid_files outcome o new result (subst (WorkedOn (files_for names.chip) outcome names o) (sym same) w) u.ends

  -- whoever made them, the files are built
  is_built : (text hex map : List ℕ) → files_for names.chip text hex map → IsBuiltBy (build_for names.chip) text hex map
  is_built text hex map is = built_for names.chip text hex map is

  built_files : (o : Contents) (new : Option Contents) (result : ℕ) → BuildHasFiles (files_for names.chip) names o new result → BuildHasFiles (IsBuiltBy (build_for names.chip)) names o new result
  built_files o new result is =
      record {
        built = λ e. let w = is.built e in record { text = w.text; hex = w.hex; map = w.map; read = w.read; built = is_built w.text w.hex w.map w.built; files = w.files };
        refused = is.refused;
        broken = λ up.
            elim (is.broken up) [
              | inl same ↦ inl same
              | inr w ↦ inr (record { text = w.text; hex = w.hex; map = w.map; read = w.read; built = is_built w.text w.hex w.map w.built; files = w.files })
            ];
      }

  pub files_built : (old new : Option Contents) (result : ℕ) → IfSome old (λ o. BuildHasFiles (files_for names.chip) names o new result) → IfSome old (λ o. BuildHasFiles (IsBuiltBy (build_for names.chip)) names o new result)
  files_built None new result is = tt
  files_built (Some o) new result is = built_files o new result is

  -- ---- the status
  refused_status : (result : ℕ) → result ≡ 1 → HasStatus form result
  refused_status result e =
      record { known = inr (inl e); usage = λ f. number_apart 1 2 result (omega arith) e f; no_form = λ none. absurd (no_name none) }

  said_status : (outcome : Outcome) (result : ℕ) → result ≡ status_of outcome → HasStatus form result
  said_status Built result e =
      record { known = inl e; usage = λ f. number_apart 0 2 result (omega arith) e f; no_form = λ none. absurd (no_name none) }
  said_status (Refused refusal) result e = refused_status result e
  said_status (Register line) result e = refused_status result e
  said_status CannotRead result e = up_status result (inl e)
  said_status CannotWriteHex result e = up_status result (inl e)
  said_status CannotWriteMap result e = up_status result (inl e)
  said_status NoMemory result e = up_status result (inr e)

  pub build_status : (outcome : Outcome) (kind : Kind) (before now : ℕ) (p q : Option (List ℕ)) (result : ℕ)
      → Says kind before now p q (line_of names outcome) (status_of outcome) result → HasStatus form result
  build_status outcome kind before now p q result (inl s) = said_status outcome result s.ends
  build_status outcome kind before now p q result (inr u) = up_status result u.ends

  -- ---- the printed text
  prefix_printed : (kind : Kind) (outcome : Outcome) (p q : Option (List ℕ)) (result : ℕ) → PrintsPrefix p q (line_of names outcome) → GivesUp result
      → (IsTrue kind.is_sound → result ≡ 3 → q ≡ option_map (λ text. text ++ cannot_read names.input) p) → BuildPrints kind names p q result
  prefix_printed kind outcome p q result prints up sound =
      record {
        nothing = λ f. up_apart 0 result (omega arith) f up;
        error = λ f. up_apart 1 result (omega arith) f up;
        prefix = λ _. (outcome, prints);
        sound = sound;
      }

  gives_up : (kind : Kind) (outcome : Outcome) (p q : Option (List ℕ)) (result : ℕ) → q ≡ option_map (λ text. text ++ line_of names outcome) p → GivesUp result
      → (IsTrue kind.is_sound → result ≡ 3 → q ≡ option_map (λ text. text ++ cannot_read names.input) p) → BuildPrints kind names p q result
  gives_up kind outcome p q result e up sound =
      prefix_printed kind outcome p q result (subst (λ r. PrintsPrefix p r (line_of names outcome)) (sym e) (whole_line p (line_of names outcome))) up sound

  -- over a sound host the one fault is that there is no input
  only_read : (kind : Kind) (old : Option Contents) (outcome : Outcome) (p q : Option (List ℕ)) → FailsWithoutInput kind old names.input outcome → is_fault outcome ≡ true
      → q ≡ option_map (λ text. text ++ line_of names outcome) p → IsTrue kind.is_sound → q ≡ option_map (λ text. text ++ cannot_read names.input) p
  only_read kind old outcome p q fails fault e sound = subst (λ o. q ≡ option_map (λ text. text ++ line_of names o) p) (fails.only sound fault).0 e

  refused_printed : (kind : Kind) (why : Outcome) (p q : Option (List ℕ)) (result : ℕ) → status_of why ≡ 1 → q ≡ option_map (λ text. text ++ line_of names why) p
      → result ≡ 1 → BuildPrints kind names p q result
  refused_printed kind why p q result one e st =
      record {
        nothing = λ f. number_apart 0 1 result (omega arith) f st;
        error = λ _. (why, one, e);
        prefix = λ up. up_apart 1 result (omega arith) st up;
        sound = λ is f. number_apart 1 3 result (omega arith) st f;
      }

  said_printed : (kind : Kind) (old : Option Contents) (outcome : Outcome) (p q : Option (List ℕ)) (result : ℕ) → FailsWithoutInput kind old names.input outcome
      → q ≡ option_map (λ text. text ++ line_of names outcome) p → result ≡ status_of outcome → BuildPrints kind names p q result
  said_printed kind old Built p q result fails e st =
      record {
        nothing = λ _. e ∙ add_nothing p;
        error = λ f. number_apart 0 1 result (omega arith) st f;
        prefix = λ up. up_apart 0 result (omega arith) st up;
        sound = λ is f. number_apart 0 3 result (omega arith) st f;
      }
  said_printed kind old (Refused refusal) p q result fails e st = refused_printed kind (Refused refusal) p q result refl e st
  said_printed kind old (Register line) p q result fails e st = refused_printed kind (Register line) p q result refl e st
  said_printed kind old CannotRead p q result fails e st = gives_up kind CannotRead p q result e (inl st) (λ is three. e)
  said_printed kind old CannotWriteHex p q result fails e st = gives_up kind CannotWriteHex p q result e (inl st) (λ is three. only_read kind old CannotWriteHex p q fails refl e is)
  said_printed kind old CannotWriteMap p q result fails e st = gives_up kind CannotWriteMap p q result e (inl st) (λ is three. only_read kind old CannotWriteMap p q fails refl e is)
  said_printed kind old NoMemory p q result fails e st = gives_up kind NoMemory p q result e (inr st) (λ is three. number_apart 3 9 result (omega arith) three st)

  pub build_printed : (kind later : Kind) (old : Option Contents) (outcome : Outcome) (before now : ℕ) (p middle q : Option (List ℕ)) (result : ℕ)
      → FailsWithoutInput kind old names.input outcome → later ≡ kind → middle ≡ p
      → Says later before now middle q (line_of names outcome) (status_of outcome) result → BuildPrints kind names p q result
  build_printed kind later old outcome before now p middle q result fails alike same (inl s) =
      said_printed kind old outcome p q result fails (s.printed ∙ ap (option_map (λ text. text ++ line_of names outcome)) same) s.ends
  build_printed kind later old outcome before now p middle q result fails alike same (inr u) =
      prefix_printed kind outcome p q result (subst (λ o. PrintsPrefix o q (line_of names outcome)) same u.printed) u.ends
      (λ is three. number_apart 3 9 result (omega arith) three (u.unsound (subst (λ (k : Kind). IsTrue k.is_sound) (sym alike) is)))

  -- ---- the line of a refusal, where the files are told too
  told_at : (why : Outcome) (o : Contents) (new : Option Contents) (p q : Option (List ℕ)) (result : ℕ) → Refuses why names o new
      → q ≡ option_map (λ text. text ++ line_of names why) p → HasTold form o new p q result
  told_at why o new p q result w e st = record { why = why; refuses = w; printed = e }

  said_told : (outcome : Outcome) (o : Contents) (new : Option Contents) (p q : Option (List ℕ)) (result : ℕ) → WorkedOn (files_for names.chip) outcome names o new
      → q ≡ option_map (λ text. text ++ line_of names outcome) p → result ≡ status_of outcome → HasTold form o new p q result
  said_told Built o new p q result w e st = λ one. number_apart 0 1 result (omega arith) st one
  said_told (Refused refusal) o new p q result w e st = told_at (Refused refusal) o new p q result w e
  said_told (Register line) o new p q result w e st = told_at (Register line) o new p q result w e
  said_told CannotRead o new p q result w e st = λ one. number_apart 1 3 result (omega arith) one st
  said_told CannotWriteHex o new p q result w e st = λ one. number_apart 1 3 result (omega arith) one st
  said_told CannotWriteMap o new p q result w e st = λ one. number_apart 1 3 result (omega arith) one st
  said_told NoMemory o new p q result w e st = λ one. number_apart 1 9 result (omega arith) one st

  pub build_told : (outcome : Outcome) (old middle new : Option Contents) (kind : Kind) (before now : ℕ) (p still q : Option (List ℕ)) (result : ℕ)
      → IfSome old (λ o. WorkedOn (files_for names.chip) outcome names o middle) → new ≡ middle → still ≡ p
      → Says kind before now still q (line_of names outcome) (status_of outcome) result → IfSome old (λ o. HasTold form o new p q result)
  build_told outcome None middle new kind before now p still q result w same quiet says = tt
  build_told outcome (Some o) middle new kind before now p still q result w same quiet (inl s) =
      said_told outcome o new p q result (subst (WorkedOn (files_for names.chip) outcome names o) (sym same) w) (s.printed ∙ ap (option_map (λ text. text ++ line_of names outcome)) quiet) s.ends
  build_told outcome (Some o) middle new kind before now p still q result w same quiet (inr u) = λ one. up_apart 1 result (omega arith) one u.ends

  -- ---- without a fault
  abbrev b : builds.Build
  b = build_for names.chip

  -- the reason that is told of the text
  refused_why : (why : Outcome) (o : Contents) (new : Option Contents) (text : List ℕ) → Refuses why names o new → o names.input ≡ Some text → TellsWhyBy b text why
  refused_why why o new text w read = subst (λ t. TellsWhyBy b t why) (same_bytes o names.input w.text text w.read read) w.tells

  built_accepted : (o : Contents) (new : Option Contents) (text : List ℕ) → Builds (files_for names.chip) names o new → o names.input ≡ Some text → IsAcceptedBy b.Accepts text
  built_accepted o new text w read = subst (IsAcceptedBy b.Accepts) (same_bytes o names.input w.text text w.read read) (is_built w.text w.hex w.map w.built).accepted

  text_ends : (outcome : Outcome) (o : Contents) (new : Option Contents) (result : ℕ) → WorkedOn (files_for names.chip) outcome names o new → result ≡ status_of outcome
      → (is_fault outcome ≡ true → ⊥) → (text : List ℕ) → o names.input ≡ Some text → ((result ≡ 0) × IsAcceptedBy b.Accepts text) ⊎ (((result ≡ 1) × IsRefusedTextBy b text) ⊎ (result ≡ 9))
  text_ends Built o new result w e quiet text read = inl (e, built_accepted o new text w read)
  text_ends (Refused refusal) o new result w e quiet text read = inr (inl (e, (Refused refusal, refused_why (Refused refusal) o new text w read)))
  text_ends (Register line) o new result w e quiet text read = inr (inl (e, (Register line, refused_why (Register line) o new text w read)))
  text_ends CannotRead o new result w e quiet text read = absurd (quiet refl)
  text_ends CannotWriteHex o new result w e quiet text read = absurd (quiet refl)
  text_ends CannotWriteMap o new result w e quiet text read = absurd (quiet refl)
  text_ends NoMemory o new result w e quiet text read = inr (inr e)

  accepted_ends : (outcome : Outcome) (o : Contents) (new : Option Contents) (result : ℕ) → WorkedOn (files_for names.chip) outcome names o new → result ≡ status_of outcome
      → (is_fault outcome ≡ true → ⊥) → (text : List ℕ) → o names.input ≡ Some text → IsAcceptedBy b.Accepts text → (result ≡ 0) ⊎ (result ≡ 9)
  accepted_ends Built o new result w e quiet text read accepted = inl e
  accepted_ends (Refused refusal) o new result w e quiet text read accepted =
      absurd (never_both names.chip text (Refused refusal) accepted (refused_why (Refused refusal) o new text w read))
  accepted_ends (Register line) o new result w e quiet text read accepted =
      absurd (never_both names.chip text (Register line) accepted (refused_why (Register line) o new text w read))
  accepted_ends CannotRead o new result w e quiet text read accepted = absurd (quiet refl)
  accepted_ends CannotWriteHex o new result w e quiet text read accepted = absurd (quiet refl)
  accepted_ends CannotWriteMap o new result w e quiet text read accepted = absurd (quiet refl)
  accepted_ends NoMemory o new result w e quiet text read accepted = inr e

  refused_ends : (outcome : Outcome) (o : Contents) (new : Option Contents) (result : ℕ) → WorkedOn (files_for names.chip) outcome names o new → result ≡ status_of outcome
      → (is_fault outcome ≡ true → ⊥) → (text : List ℕ) (why : Outcome) → o names.input ≡ Some text → TellsWhyBy b text why → (result ≡ 1) ⊎ (result ≡ 9)
  refused_ends Built o new result w e quiet text why read tells = absurd (never_both names.chip text why (built_accepted o new text w read) tells)
  refused_ends (Refused told) o new result w e quiet text why read tells = inl e
  refused_ends (Register line) o new result w e quiet text why read tells = inl e
  refused_ends CannotRead o new result w e quiet text why read tells = absurd (quiet refl)
  refused_ends CannotWriteHex o new result w e quiet text why read tells = absurd (quiet refl)
  refused_ends CannotWriteMap o new result w e quiet text why read tells = absurd (quiet refl)
  refused_ends NoMemory o new result w e quiet text why read tells = inr e

  complete_at : (kind : Kind) (outcome : Outcome) (o : Contents) (middle : Option Contents) (first before now : ℕ) (p q : Option (List ℕ)) (result : ℕ)
      → WorkedOn (files_for names.chip) outcome names o middle → HasOutcomeCause kind first before (is_fault outcome)
      → Says kind before now p q (line_of names outcome) (status_of outcome) result → IsComplete kind first now form o result
  complete_at kind outcome o middle first before now p q result w cause (inl s) = λ quiet.
      let no_fault : is_fault outcome ≡ true → ⊥ = λ fault. quiet (subst (IsCounted kind first) (sym s.kept) (cause.failed fault)) in
      record {
        ends = λ text read. text_ends outcome o middle result w s.ends no_fault text read;
        accepted = λ text read is. accepted_ends outcome o middle result w s.ends no_fault text read is;
        refused = λ text why read tells. refused_ends outcome o middle result w s.ends no_fault text why read tells;
      }
  complete_at kind outcome o middle first before now p q result w cause (inr u) = λ quiet.
      let no_three : result ≡ 3 → ⊥ = λ three. quiet (counted_later kind first before now cause.never_falls (u.failed three)) in
      record {
        ends = λ text read. inr (inr (quiet_nine result no_three u.ends));
        accepted = λ text read is. quiet_ends 0 result no_three u.ends;
        refused = λ text why read tells. quiet_ends 1 result no_three u.ends;
      }

  pub build_complete : (kind later : Kind) (outcome : Outcome) (old middle : Option Contents) (first before now : ℕ) (p q : Option (List ℕ)) (result : ℕ)
      → IfSome old (λ o. WorkedOn (files_for names.chip) outcome names o middle) → HasOutcomeCause kind first before (is_fault outcome) → later ≡ kind
      → Says later before now p q (line_of names outcome) (status_of outcome) result → IfSome old (λ o. IsComplete kind first now form o result)
  build_complete kind later outcome None middle first before now p q result w cause alike says = tt
  build_complete kind later outcome (Some o) middle first before now p q result w cause alike says =
      complete_at kind outcome o middle first before now p q result w cause
      (subst (λ (k : Kind). Says k before now p q (line_of names outcome) (status_of outcome) result) alike says)
