-- Where reading stops is the first bad line.
use Rattle.std.proofs.Common.{◌≡◌, ℕ, ◌+◌, Option, Some, None, Result, Ok, Err, List, [], ◌∷◌, ◌++◌, length, refl, sym, ap, ◌∙◌, subst, arith}
use Rattle.std.specs.Prelude.{codes}
use Rattle.text_lines.specs.Text.{lines_of, bytes_of}
use Rattle.text_lines.specs.Front.{after}
use Rattle.pic_map.specs.declared.Map.{Map}
use Rattle.pic_map.specs.declared.read.MapError.{MapError}
use Rattle.pic_map.specs.declared.read.MapError.TheVariants.{NoMemory, BadLine}
use Rattle.pic_map.specs.declared.read.Stage.{Stage}
use Rattle.pic_map.specs.declared.read.Stage.TheVariants.{Heading, MainPoint, HaltPoint, Objects, Frames, Ended}
use Rattle.pic_map.specs.Answers.{GivesMap, reading_of, TellsBadLine}
use Rattle.pic_map.specs.MapContent.{MapContent}
use Rattle.pic_map.specs.MapFile.{next_of, IsFirstBadLine}
use Rattle.pic_map.specs.Reading.{point_of, object_of, frame_of, after_line, go_on, at_end, read_on, nothing}
use Rattle.pic_map.proofs.FileLaws.{lines_are, lines_again}

-- no file goes on so from this stage
StopsAt : Stage → MapContent → Option (List ℕ) → Type 0
StopsAt s m None = (k : ℕ) → at_end s k m ≡ Err k
StopsAt s m (Some line) = after_line s m line ≡ None

stops : (k : ℕ) (s : Stage) (m : MapContent) (lines : List (List ℕ)) → StopsAt s m (next_of lines) → read_on k s m lines ≡ Err k
unfolding read_on StopsAt
stops k s m [] h = h k
stops k s m (line ∷ lines) h = ap (λ o. go_on o k (λ t n. read_on (k + 1) t n lines)) h

-- reading from number k stops at number n, in a stage in which no file goes on so
record Stopped (k : ℕ) (s : Stage) (m : MapContent) (lines : List (List ℕ)) (n : ℕ) : Type 0 where
  before : List (List ℕ)
  rest : List (List ℕ)
  stage : Stage
  content : MapContent
  split : lines ≡ before ++ rest
  place : n ≡ k + length before
  runs : (behind : List (List ℕ)) → read_on k s m (before ++ behind) ≡ read_on n stage content behind
  ends : StopsAt stage content (next_of rest)

here : (k n : ℕ) (s : Stage) (m : MapContent) (lines : List (List ℕ)) → n ≡ k → StopsAt s m (next_of lines) → Stopped k s m lines n
here k n s m lines e h = record {
  before = [];
  rest = lines;
  stage = s;
  content = m;
  split = refl;
  place = omega (arith, e);
  runs = λ behind. ap (λ i. read_on i s m behind) (sym e);
  ends = h;
}

at_an_end : (k n : ℕ) (s : Stage) (m : MapContent) → at_end s k m ≡ Err n → Stopped k s m [] n
unfolding StopsAt
at_an_end k n Heading m e = here k n Heading m [] (cc e) (λ j. refl)
at_an_end k n MainPoint m e = here k n MainPoint m [] (cc e) (λ j. refl)
at_an_end k n HaltPoint m e = here k n HaltPoint m [] (cc e) (λ j. refl)
at_an_end k n Objects m e = here k n Objects m [] (cc e) (λ j. refl)
at_an_end k n Frames m e = here k n Frames m [] (cc e) (λ j. refl)
at_an_end k n Ended m e = absurd (cc e)

later_on : (k n : ℕ) (s t : Stage) (m u : MapContent) (line : List ℕ) (lines : List (List ℕ)) → after_line s m line ≡ Some (t, u) → Stopped (k + 1) t u lines n → Stopped k s m (line ∷ lines) n
unfolding read_on
later_on k n s t m u line lines e h =
    let place = h.place in
    record {
      before = line ∷ h.before;
      rest = h.rest;
      stage = h.stage;
      content = h.content;
      split = ap (λ ls. line ∷ ls) h.split;
      place = omega (arith, place);
      runs = λ behind. ap (λ o. go_on o k (λ v w. read_on (k + 1) v w (h.before ++ behind))) e ∙ h.runs behind;
      ends = h.ends;
    }

stopped : (k n : ℕ) (s : Stage) (m : MapContent) (lines : List (List ℕ)) → read_on k s m lines ≡ Err n → Stopped k s m lines n
unfolding read_on StopsAt
stopped k n s m [] h = at_an_end k n s m h
stopped k n s m (line ∷ lines) h = by_next (λ t u. stopped (k + 1) n t u lines) (after_line s m line) refl h
  where
    by_next : ((t : Stage) (u : MapContent) → read_on (k + 1) t u lines ≡ Err n → Stopped (k + 1) t u lines n)
        → (o : Option (Stage × MapContent)) → after_line s m line ≡ o → go_on o k (λ t u. read_on (k + 1) t u lines) ≡ Err n → Stopped k s m (line ∷ lines) n
    by_next later None e g = here k n s m (line ∷ lines) (cc g) e
    by_next later (Some (t, u)) e g = later_on k n s t m u line lines e (later t u g)

-- from each stage some lines end a file
completed : (k : ℕ) (s : Stage) (m : MapContent) → (lines : List (List ℕ)) × (c : MapContent) × (read_on k s m lines ≡ Ok c)
unfolding read_on after_line point_of object_of frame_of after bytes_of
completed k Heading m = (codes "picc map 1" ∷ codes "main 0000" ∷ codes "halt 0000" ∷ codes "end" ∷ [], record m { main = 0; halt = 0 }, refl)
completed k MainPoint m = (codes "main 0000" ∷ codes "halt 0000" ∷ codes "end" ∷ [], record m { main = 0; halt = 0 }, refl)
completed k HaltPoint m = (codes "halt 0000" ∷ codes "end" ∷ [], record m { halt = 0 }, refl)
completed k Objects m = (codes "end" ∷ [], m, refl)
completed k Frames m = (codes "end" ∷ [], m, refl)
completed k Ended m = ([], m, refl)

no_both : (c : MapContent) (n : ℕ) (r : Result MapContent ℕ) → r ≡ Ok c → r ≡ Err n → ⊥
no_both c n r e f = cc (e, f)

first_bad : (text : List ℕ) (n : ℕ) → reading_of text ≡ Err n → IsFirstBadLine text n
first_bad text n h =
    let s = stopped 1 n Heading nothing (lines_of text) h in
    let (behind, content, reads) = completed n s.stage s.content in
    let place = s.place in
    record {
      before = s.before;
      rest = s.rest;
      split = s.split;
      place = omega (arith, place);
      good = (behind, content, lines_are (s.before ++ behind) content (s.runs behind ∙ reads));
      bad = λ other c are same. no_both c n (read_on n s.stage s.content other) (sym (s.runs other) ∙ lines_again (s.before ++ other) c are)
          (stops n s.stage s.content other (subst (StopsAt s.stage s.content) (sym same) s.ends));
    }

pub bad_line : (result : Result Map MapError) (text : List ℕ) → GivesMap result (reading_of text) → TellsBadLine result text
bad_line (Ok m) text e = tt
bad_line (Err (BadLine line)) text e = first_bad text line e
bad_line (Err NoMemory) text e = tt
