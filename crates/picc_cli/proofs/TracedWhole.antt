-- What is known of a trace whose run began: its files, its typed program, and its run by the definitions of the source.
use Rattle.std.proofs.Common.{◌≡◌, ℕ, ◌+◌, ◌-◌, ◌*◌, ◌<◌, ◌≤◌, ◌⊎◌, inl, inr, Bool, true, false, ◌&&◌, nat_le, Option, Some, None, IfSome, List, [], ◌∷◌, length, refl, sym, ap, ◌∙◌, subst, ⊎_elim, arith}
use Rattle.std.specs.Prelude.{if◌then◌else◌}
use Rattle.std.specs.List.{All}
use Rattle.std.proofs.lemmas.Bool.{and_parts, leb-true}
use Rattle.std.proofs.lemmas.List.Elements.{All-append, All-cons, All-nil}
use Rattle.std.proofs.lemmas.List.{length-map}
use Rattle.std.proofs.lemmas.Option.{cond_some}
use Rattle.c_typed.specs.Chains.{graph_of}
use Rattle.c_typed.specs.Roots.{broken_root}
use Rattle.c_typed.specs.Sound.{is_sound}
use Rattle.c_typed.specs.Trees.{Program}
use Rattle.c_typed.specs.Views.{program_of, static_of}
use Rattle.c_typed.specs.declared.program.Typed.{Typed}
use Rattle.call_graph.specs.Copies.{AreCopies}
use Rattle.call_graph.specs.Levels.{IsAcyclic}
use Rattle.call_graph.specs.declared.types.FnCopy.{FnCopy}
use Rattle.program_laws.proofs.Traces.{traces_named}
use Rattle.headline.specs.SourceOf.{setting_of}
use Rattle.host_io.specs.Host.{Kind, Contents, IsRead}
use Rattle.pic_map.specs.MapContent.{MapContent, ObjectLine, FrameLine}
use Rattle.pic_world.specs.World.{Outside, outside_of}
use Rattle.picc_cli.specs.declared.inputs.FileEnd.{FileEnd}
use Rattle.picc_cli.specs.declared.tracing.Ended.{Ended}
use Rattle.picc_cli.specs.declared.tracing.Ended.TheVariants.{Done, Undefined, Refused, CannotReadText, NoScript, CannotPrint, NoMemory}
use Rattle.picc_cli.specs.Command.{Asked, Form, Build, Trace, Simulate, Agree, Generate, Check}
use Rattle.picc_cli.specs.Inputs.{IsScriptInput}
use Rattle.host_lines.specs.Said.{Says}
use Rattle.picc_cli.specs.ScriptInput.{IsFile}
use Rattle.picc_cli.specs.Trace.{IsRunEnd, last_line, status_of}
use Rattle.picc_cli.specs.Traced.{HasTraced, Ran, RunsBy, Traces, map_of}
use Rattle.picc_cli.proofs.EventNames.{all_shown}
use Rattle.picc_cli.proofs.Files.{content_of}
use Rattle.picc_cli.proofs.NothingDone.{nothing_of}
use Rattle.picc_cli.proofs.SimulationEnds.{said_last}
use Rattle.picc_cli.proofs.Whole.{tree_whole}
use Rattle.picc_core.specs.Texts.{HasTree}
use Rattle.picc_core.specs.Typed.{IsTypedAs}
use Rattle.picc_core.specs.declared.refusal.Refusal.{Refusal}
use Rattle.ram_place.specs.Placement.{IsPlacing}
use Rattle.schedule.specs.ScriptFile.{ScriptContent, AreBytes, AreLines, AreScriptLines, Piece, Blank, Input, At, byte_value, inputs_of, paired}
use Rattle.src_machine.specs.Steps.{IsGiven}
use Rattle.src_memory.specs.Shown.{address_of}
use Rattle.src_rules.specs.Numbers.{ProgramHasNumbers}
use Rattle.src_rules.specs.Runs.{after}
use Rattle.src_values.specs.Memory.{Setting}
use Rattle.text_lines.specs.Text.{digit_value, lines_of}

-- ---- a script's input comes in bytes
chosen : (b : Bool) (x h : ℕ) (o : Option ℕ) → (if b then Some x else o) ≡ Some h → ((b ≡ true) × (x ≡ h)) ⊎ (o ≡ Some h)
chosen true x h o e = inl (refl, cc e)
chosen false x h o e = inr e

-- a digit between two codes, the first of which is worth `base` less
ranged : (first last less c h : ℕ) → (nat_le first c && nat_le c last ≡ true) × (c - less ≡ h) → (first ≤ c) × (c ≤ last) × (c - less ≡ h)
ranged first last less c h t =
    let parts = and_parts (nat_le first c) (nat_le c last) t.0 in
    (leb-true first c parts.0, leb-true c last parts.1, t.1)

digit_small : (c h : ℕ) → digit_value c ≡ Some h → h < 16
digit_small c h e =
    ⊎_elim (λ t. let r = ranged 48 57 48 c h t in let low = r.0 in let high = r.1 in let same = r.2 in omega (arith, low, high, same))
    (λ f.
    ⊎_elim (λ t. let r = ranged 65 70 55 c h t in let low = r.0 in let high = r.1 in let same = r.2 in omega (arith, low, high, same))
    (λ g. let r = ranged 97 102 87 c h (cond_some (nat_le 97 c && nat_le c 102) (c - 87) h g) in let low = r.0 in let high = r.1 in let same = r.2 in omega (arith, low, high, same))
    (chosen (nat_le 65 c && nat_le c 70) (c - 55) h (if nat_le 97 c && nat_le c 102 then Some (c - 87) else None) f))
    (chosen (nat_le 48 c && nat_le c 57) (c - 48) h (if nat_le 65 c && nat_le c 70 then Some (c - 55) else if nat_le 97 c && nat_le c 102 then Some (c - 87) else None) e)

paired_small : (o p : Option ℕ) (byte : ℕ) → ((h : ℕ) → o ≡ Some h → h < 16) → ((h : ℕ) → p ≡ Some h → h < 16) → paired o p ≡ Some byte → byte < 256
paired_small (Some high) (Some low) byte first second e =
    let a = first high refl in let b = second low refl in let same : 16 * high + low ≡ byte = cc e in omega (arith, a, b, same)
paired_small None p byte first second e = absurd (cc e)
paired_small (Some high) None byte first second e = absurd (cc e)

byte_small : (high low byte : ℕ) → byte_value high low ≡ Some byte → byte < 256
byte_small high low byte e = paired_small (digit_value high) (digit_value low) byte (digit_small high) (digit_small low) e

bytes_small : (text bytes : List ℕ) → AreBytes text bytes → All (λ b. b < 256) bytes
bytes_small [] [] are = All-nil (λ b. b < 256)
bytes_small (space ∷ high ∷ low ∷ text) (byte ∷ bytes) are = All-cons (λ b. b < 256) byte bytes (byte_small high low byte are.1) (bytes_small text bytes are.2)
bytes_small [] (byte ∷ bytes) are = absurd are
bytes_small (space ∷ []) bytes are = absurd are
bytes_small (space ∷ high ∷ []) bytes are = absurd are
bytes_small (space ∷ high ∷ low ∷ text) [] are = absurd are

inputs_small : (lines : List (List ℕ)) (pieces : List Piece) → AreLines lines pieces → All (λ b. b < 256) (inputs_of pieces)
inputs_small [] [] are = All-nil (λ b. b < 256)
inputs_small (line ∷ lines) (Blank ∷ pieces) are = inputs_small lines pieces are.1
inputs_small (line ∷ lines) (Input bytes ∷ pieces) are = All-append (λ b. b < 256) bytes (inputs_of pieces) (bytes_small are.0.0 bytes are.0.2) (inputs_small lines pieces are.1)
inputs_small (line ∷ lines) (At arrival ∷ pieces) are = inputs_small lines pieces are.1
inputs_small [] (piece ∷ pieces) are = absurd are
inputs_small (line ∷ lines) [] are = absurd are

input_small : (lines : List (List ℕ)) (content : ScriptContent) → AreScriptLines lines content → All (λ b. b < 256) content.input
input_small lines content are = subst (All (λ b. b < 256)) (sym are.input) (inputs_small lines are.pieces are.tell)

-- ---- the run
pub statics_few : (p : Program) (typed : Typed) → p ≡ program_of typed → length typed.statics.items ≤ 65536 → length p.statics ≤ 65536
statics_few p typed is few = let shown = ap (λ (q : Program). length q.statics) is ∙ length-map typed.statics.items static_of in omega (arith, shown, few)

-- What a run is given: the text's tree, its typed program by the rules and with numbers of their types, its copies and places.
pub record IsFront (text : List ℕ) (program : Program) (copies : List FnCopy) (objects : List ObjectLine) (frames : List FrameLine) : Type 0 where
  pub tree : HasTree text
  pub typed : IsTypedAs text program
  pub sound : is_sound program ≡ true
  pub roots : broken_root program ≡ None
  pub numbers : ProgramHasNumbers program
  pub acyclic : IsAcyclic (graph_of program)
  pub are_copies : AreCopies program copies
  pub placed : IsPlacing program copies objects frames

-- the run of a program, under any setting of it
abbrev pub RanFor : Program → Outside → MapContent → ℕ → Ended → Option (List ℕ) → Option (List ℕ) → Type 0
RanFor program outside content most ended p q = (s : Setting) → s.program ≡ program → s.outside ≡ outside → IsGiven s → Ran s content most ended p q

module _ (asked : Asked) (content : ScriptContent) (bytes text : List ℕ) (program : Program) (copies : List FnCopy) (objects : List ObjectLine) (frames : List FrameLine) (p q : Option (List ℕ)) where
  traces_at : (o : Contents) (ended : Ended) → IsRead asked.input 262145 bytes o → IsFile o asked.script (IsScriptInput content) → IsFront bytes program copies objects frames
      → RanFor program (outside_of content.input content.arrivals) (map_of objects frames) asked.steps ended p q → Traces asked o ended p q
  traces_at o ended read (script, has, is) front ran =
      let whole = content_of 262145 (o asked.input) bytes read in
      record {
        text = whole.0;
        script = content;
        program = program;
        copies = copies;
        content = map_of objects frames;
        has_text = whole.1;
        script_file = (script, has, is);
        tree = subst HasTree (tree_whole whole.0 bytes whole.2 front.tree) front.tree;
        typed = subst (λ (t : List ℕ). IsTypedAs t program) (tree_whole whole.0 bytes whole.2 front.tree) front.typed;
        sound = front.sound;
        roots = front.roots;
        acyclic = front.acyclic;
        are_copies = front.are_copies;
        placed = front.placed;
        numbers = front.numbers;
        ran =
            ran (setting_of program (outside_of content.input content.arrivals)) refl refl
            (record { proper = record { sound = front.sound; roots = front.roots; numbers = front.numbers }; acyclic = front.acyclic; bytes = input_small (lines_of script) content is.file });
        named = λ n.
            all_shown program (map_of objects frames) front.placed.each_object (address_of program (map_of objects frames))
            (after (setting_of program (outside_of content.input content.arrivals)) n).world.trace
            (traces_named (setting_of program (outside_of content.input content.arrivals)) (record { sound = front.sound; roots = front.roots; numbers = front.numbers }) (input_small (lines_of script) content is.file) n);
      }

  runs_at : (o : Contents) (ended : Ended) → IsRead asked.input 262145 bytes o → IsFile o asked.script (IsScriptInput content) → IsFront bytes program copies objects frames
      → RanFor program (outside_of content.input content.arrivals) (map_of objects frames) asked.steps ended p q → IsRunEnd ended → RunsBy asked o ended p q
  runs_at o Done read file front ran end = traces_at o Done read file front ran
  runs_at o (Undefined kind line) read file front ran end = traces_at o (Undefined kind line) read file front ran
  runs_at o CannotPrint read file front ran end = traces_at o CannotPrint read file front ran
  runs_at o NoMemory read file front ran end = inr (traces_at o NoMemory read file front ran)
  runs_at o (Refused refusal) read file front ran end = absurd end
  runs_at o CannotReadText read file front ran end = absurd end
  runs_at o (NoScript why) read file front ran end = absurd end

  pub traced_runs : (old middle : Option Contents) (first : Option (List ℕ)) (ended : Ended) → first ≡ p → IfSome old (IsRead asked.input 262145 bytes) → middle ≡ old
      → IfSome middle (λ o. IsFile o asked.script (IsScriptInput content)) → text ≡ bytes → IsFront text program copies objects frames
      → RanFor program (outside_of content.input content.arrivals) (map_of objects frames) asked.steps ended first q → IsRunEnd ended → IfSome old (λ o. RunsBy asked o ended p q)
  traced_runs None middle first ended printed read same file e front ran end = tt
  traced_runs (Some o) middle first ended printed read same file e front ran end =
      runs_at o ended read (subst (λ c. IfSome c (λ o. IsFile o asked.script (IsScriptInput content))) same file)
      (subst (λ t. IsFront t program copies objects frames) e front)
      (λ s of outside given. subst (λ x. Ran s (map_of objects frames) asked.steps ended x q) printed (ran s of outside given)) end

-- ---- a trace that didn't begin
pub quiet_unread : (asked : Asked) (old : Option Contents) (p q : Option (List ℕ)) → q ≡ p → IfSome old (λ o. RunsBy asked o CannotReadText p q)
quiet_unread asked None p q same = tt
quiet_unread asked (Some o) p q same = same

pub quiet_script : (asked : Asked) (old : Option Contents) (end : FileEnd) (p q : Option (List ℕ)) → q ≡ p → IfSome old (λ o. RunsBy asked o (NoScript end) p q)
quiet_script asked None end p q same = tt
quiet_script asked (Some o) end p q same = same

pub quiet_refused : (asked : Asked) (old : Option Contents) (refusal : Refusal) (p q : Option (List ℕ)) → q ≡ p → IfSome old (λ o. RunsBy asked o (Refused refusal) p q)
quiet_refused asked None refusal p q same = tt
quiet_refused asked (Some o) refusal p q same = same

pub quiet_memory : (asked : Asked) (old : Option Contents) (p q : Option (List ℕ)) → q ≡ p → IfSome old (λ o. RunsBy asked o NoMemory p q)
quiet_memory asked None p q same = tt
quiet_memory asked (Some o) p q same = inl same

-- ---- the whole
pub trace_told : (asked : Asked) (ended : Ended) (old : Option Contents) (kind : Kind) (first later : ℕ) (p middle q : Option (List ℕ)) (result : ℕ)
    → IfSome old (λ o. RunsBy asked o ended p middle) → Says kind first later middle q (last_line asked ended) (status_of ended) result
    → IfSome old (λ o. HasTraced (Some (Trace asked)) o p q result)
trace_told asked ended None kind first later p middle q result runs says = tt
trace_told asked ended (Some o) kind first later p middle q result runs says =
    record { ended = ended; middle = middle; runs = runs; last = said_last kind first later middle q (last_line asked ended) (status_of ended) result says }

pub not_traced : (form : Option Form) (old : Option Contents) (p : Option (List ℕ)) → IfSome old (λ o. HasTraced form o p p 9)
not_traced form None p = tt
not_traced None (Some o) p = tt
not_traced (Some (Build names)) (Some o) p = tt
not_traced (Some (Trace asked)) (Some o) p = record { ended = NoMemory; middle = p; runs = inl refl; last = inr (inr refl, nothing_of p []) }
not_traced (Some (Simulate asked)) (Some o) p = tt
not_traced (Some (Agree asked)) (Some o) p = tt
not_traced (Some (Generate functions)) (Some o) p = tt
not_traced (Some (Check hex)) (Some o) p = tt
