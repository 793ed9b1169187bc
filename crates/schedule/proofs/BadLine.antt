-- Where reading stops is the first bad line.
use Rattle.std.proofs.Common.{◌≡◌, ℕ, ◌+◌, Option, Some, None, Result, Ok, Err, List, [], ◌∷◌, ◌++◌, length, refl, sym, ap, ◌∙◌, arith}
use Rattle.text_lines.specs.Text.{lines_of}
use Rattle.pic_world.specs.declared.script.Script.{Script}
use Rattle.schedule.specs.declared.read.ScriptError.{ScriptError}
use Rattle.schedule.specs.declared.read.ScriptError.TheVariants.{NoMemory, BadLine}
use Rattle.schedule.specs.Answers.{GivesScript, TellsBadLine, reading_of}
use Rattle.schedule.specs.ScriptFile.{ScriptContent, AreScriptLines, IsFirstBadLine}
use Rattle.schedule.specs.Reading.{after_line, go_on, read_on, nothing}
use Rattle.schedule.proofs.FileLaws.{script_is, script_again}

-- reading from number k stops at line number n
record Stopped (k : ℕ) (m : ScriptContent) (lines : List (List ℕ)) (n : ℕ) : Type 0 where
  before : List (List ℕ)
  line : List ℕ
  rest : List (List ℕ)
  content : ScriptContent
  split : lines ≡ before ++ line ∷ rest
  place : n ≡ k + length before
  reads : read_on k m before ≡ Ok content
  stops : read_on k m (before ++ line ∷ []) ≡ Err n

here : (k n : ℕ) (m : ScriptContent) (line : List ℕ) (lines : List (List ℕ)) → after_line m line ≡ None → k ≡ n → Stopped k m (line ∷ lines) n
unfolding read_on
here k n m line lines e same = record {
  before = [];
  line = line;
  rest = lines;
  content = m;
  split = refl;
  place = omega (arith, same);
  reads = refl;
  stops = ap (λ o. go_on o k (λ c. read_on (k + 1) c [])) e ∙ ap Err same;
}

later : (k n : ℕ) (m next : ScriptContent) (line : List ℕ) (lines : List (List ℕ)) → after_line m line ≡ Some next → Stopped (k + 1) next lines n → Stopped k m (line ∷ lines) n
unfolding read_on
later k n m next line lines e h =
    let place = h.place in
    record {
      before = line ∷ h.before;
      line = h.line;
      rest = h.rest;
      content = h.content;
      split = ap (λ ls. line ∷ ls) h.split;
      place = omega (arith, place);
      reads = ap (λ o. go_on o k (λ c. read_on (k + 1) c h.before)) e ∙ h.reads;
      stops = ap (λ o. go_on o k (λ c. read_on (k + 1) c (h.before ++ h.line ∷ []))) e ∙ h.stops;
    }

no_error : (c : ScriptContent) (n : ℕ) → Ok c ≡ Err n → ⊥
no_error c n e = cc e

stopped : (k n : ℕ) (m : ScriptContent) (lines : List (List ℕ)) → read_on k m lines ≡ Err n → Stopped k m lines n
unfolding read_on
stopped k n m [] h = absurd (no_error m n h)
stopped k n m (line ∷ lines) h = by_line (λ next g. stopped (k + 1) n next lines g) (after_line m line) refl h
  where
    by_line : ((next : ScriptContent) → read_on (k + 1) next lines ≡ Err n → Stopped (k + 1) next lines n) → (o : Option ScriptContent) → after_line m line ≡ o
        → go_on o k (λ c. read_on (k + 1) c lines) ≡ Err n → Stopped k m (line ∷ lines) n
    by_line behind None e g = here k n m line lines e (cc g)
    by_line behind (Some next) e g = later k n m next line lines e (behind next g)

not_both : (r : Result ScriptContent ℕ) (c : ScriptContent) (n : ℕ) → r ≡ Ok c → r ≡ Err n → ⊥
not_both r c n e f = cc (e, f)

first_bad : (text : List ℕ) (n : ℕ) → reading_of text ≡ Err n → IsFirstBadLine text n
first_bad text n h =
    let s = stopped 1 n nothing (lines_of text) h in
    let place = s.place in
    record {
      before = s.before;
      line = s.line;
      rest = s.rest;
      split = s.split;
      place = omega (arith, place);
      good = (s.content, script_is 1 s.content s.before s.reads);
      bad = λ c are. not_both (read_on 1 nothing (s.before ++ s.line ∷ [])) c n (script_again 1 c (s.before ++ s.line ∷ []) are) s.stops;
    }

pub bad_line : (result : Result Script ScriptError) (text : List ℕ) → GivesScript result (reading_of text) → TellsBadLine result text
bad_line (Ok s) text e = tt
bad_line (Err (BadLine line)) text e = first_bad text line e
bad_line (Err NoMemory) text e = tt
