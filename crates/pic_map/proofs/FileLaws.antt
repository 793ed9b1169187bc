-- What is read of a text's lines is the content of a map file, and that of each map file is read.
use Rattle.std.proofs.Common.{◌≡◌, ℕ, ◌+◌, Bool, true, false, Option, Some, None, Result, Ok, Err, List, [], ◌∷◌, ◌++◌, refl, sym, ap, ◌∙◌, subst, append_assoc, append-nil, nat_eq}
use Rattle.std.specs.Prelude.{codes, if◌then◌else◌}
use Rattle.std.specs.Option.{option_map}
use Rattle.std.specs.Cmp.Lexicographic.{pointwise}
use Rattle.std.proofs.lemmas.Slice.Eq.{bytes_eq-Decides}
use Rattle.text_lines.specs.Text.{lines_of}
use Rattle.pic_world.specs.declared.Root.{Root}
use Rattle.pic_world.specs.declared.Root.TheVariants.{Main, Isr}
use Rattle.text_lines.specs.Front.{after}
use Rattle.text_lines.proofs.Words.{after_is, after_again}
use Rattle.pic_map.specs.MapContent.{ObjectLine, FrameLine, MapContent}
use Rattle.pic_map.specs.MapFile.{IsMapFile, AreMapLines, IsObjectLine, IsFrameLine, AreObjectLines, AreFrameLines, IsPointLine, object_word, root_word}
use Rattle.pic_map.specs.MapText.{AreObjects, AreFrames, AreInRange}
use Rattle.pic_map.specs.declared.read.Stage.{Stage}
use Rattle.pic_map.specs.declared.read.Stage.TheVariants.{Heading, MainPoint, HaltPoint, Objects, Frames, Ended}
use Rattle.pic_map.specs.Reading.{placed_of, point_of, object_with, object_behind, object_of, frame_with, frame_behind, frame_of, end_next, frame_next, object_next, after_line, go_on, read_on, nothing}
use Rattle.pic_map.proofs.Fields.{mapped, placed_is, placed_again, point_is, point_again}

-- ---- object lines and frame lines
object_fields : (line text : List ℕ) (constant : Bool) (o : ObjectLine) → line ≡ object_word constant ++ text → object_with constant (placed_of text) ≡ Some o → IsObjectLine line o
object_fields line text constant o e h =
    let (p, f, g) = mapped (λ p. record { constant = constant; name = p.name; address = p.address; size = p.size }) (placed_of text) o h in
    let (tail, spelled, name, place) = placed_is text p f in
    subst (IsObjectLine line) g (record {
      tail = tail;
      spelled = e ∙ ap (λ t. object_word constant ++ t) spelled ∙ sym (append_assoc (object_word constant) p.name tail);
      name = name;
      place = place;
    })

object_by_words : (line : List ℕ) (o : ObjectLine) (x y : Option (List ℕ)) → after (codes "static ") line ≡ x → after (codes "const ") line ≡ y → object_behind x y ≡ Some o → IsObjectLine line o
object_by_words line o (Some text) y e f h = object_fields line text false o (after_is (codes "static ") line text e) h
object_by_words line o None (Some text) e f h = object_fields line text true o (after_is (codes "const ") line text f) h
object_by_words line o None None e f h = absurd (cc h)

object_is : (line : List ℕ) (o : ObjectLine) → object_of line ≡ Some o → IsObjectLine line o
unfolding object_of
object_is line o h = object_by_words line o (after (codes "static ") line) (after (codes "const ") line) refl refl h

frame_fields : (line text : List ℕ) (root : Root) (f : FrameLine) → line ≡ root_word root ++ text → frame_with root (placed_of text) ≡ Some f → IsFrameLine line f
frame_fields line text root f e h =
    let (p, k, g) = mapped (λ p. record { root = root; name = p.name; address = p.address; size = p.size }) (placed_of text) f h in
    let (tail, spelled, name, place) = placed_is text p k in
    subst (IsFrameLine line) g (record {
      tail = tail;
      spelled = e ∙ ap (λ t. root_word root ++ t) spelled ∙ sym (append_assoc (root_word root) p.name tail);
      name = name;
      place = place;
    })

frame_by_words : (line : List ℕ) (f : FrameLine) (x y : Option (List ℕ)) → after (codes "frame main ") line ≡ x → after (codes "frame isr ") line ≡ y → frame_behind x y ≡ Some f → IsFrameLine line f
frame_by_words line f (Some text) y e g h = frame_fields line text Main f (after_is (codes "frame main ") line text e) h
frame_by_words line f None (Some text) e g h = frame_fields line text Isr f (after_is (codes "frame isr ") line text g) h
frame_by_words line f None None e g h = absurd (cc h)

frame_is : (line : List ℕ) (f : FrameLine) → frame_of line ≡ Some f → IsFrameLine line f
unfolding frame_of
frame_is line f h = frame_by_words line f (after (codes "frame main ") line) (after (codes "frame isr ") line) refl refl h

object_text_again : (constant : Bool) (text : List ℕ) → object_of (object_word constant ++ text) ≡ object_with constant (placed_of text)
unfolding object_of after
object_text_again false text = ap (λ x. object_behind x (after (codes "const ") (codes "static " ++ text))) (after_again (codes "static ") text)
object_text_again true text = ap (λ x. object_behind None x) (after_again (codes "const ") text)

object_again : (line : List ℕ) (o : ObjectLine) → IsObjectLine line o → object_of line ≡ Some o
object_again line o h =
    ap object_of (h.spelled ∙ append_assoc (object_word o.constant) o.name h.tail)
    ∙ object_text_again o.constant (o.name ++ h.tail)
    ∙ ap (object_with o.constant) (placed_again o.name h.tail o.address o.size h.name h.place)

frame_text_again : (root : Root) (text : List ℕ) → frame_of (root_word root ++ text) ≡ frame_with root (placed_of text)
unfolding frame_of after
frame_text_again Main text = ap (λ x. frame_behind x (after (codes "frame isr ") (codes "frame main " ++ text))) (after_again (codes "frame main ") text)
frame_text_again Isr text = ap (λ x. frame_behind None x) (after_again (codes "frame isr ") text)

frame_again : (line : List ℕ) (f : FrameLine) → IsFrameLine line f → frame_of line ≡ Some f
frame_again line f h =
    ap frame_of (h.spelled ∙ append_assoc (root_word f.root) f.name h.tail)
    ∙ frame_text_again f.root (f.name ++ h.tail)
    ∙ ap (frame_with f.root) (placed_again f.name h.tail f.address f.size h.name h.place)

-- a frame line is no object line
not_object : (root : Root) (text : List ℕ) → object_of (root_word root ++ text) ≡ None
unfolding object_of after
not_object Main text = refl
not_object Isr text = refl

-- ---- from a line on
no_result : (k : ℕ) (c : MapContent) → Err k ≡ Ok c → ⊥
no_result k c e = cc e

ended_is : (k : ℕ) (m c : MapContent) (lines : List (List ℕ)) → read_on k Ended m lines ≡ Ok c → (lines ≡ []) × (c ≡ m)
unfolding read_on after_line
ended_is k m c [] h = (refl, cc h)
ended_is k m c (line ∷ lines) h = absurd (no_result k c h)

pub record FramesBehind (m : MapContent) (lines : List (List ℕ)) (c : MapContent) : Type 0 where
  pub frame_lines : List (List ℕ)
  pub added : List FrameLine
  pub split : lines ≡ frame_lines ++ codes "end" ∷ []
  pub are : AreFrameLines frame_lines added
  pub whole : c ≡ record m { frames = m.frames ++ added }

end_is : (k : ℕ) (m c : MapContent) (line : List ℕ) (lines : List (List ℕ)) → go_on (end_next m line) k (λ s n. read_on (k + 1) s n lines) ≡ Ok c → FramesBehind m (line ∷ lines) c
end_is k m c line lines h = by_test (pointwise nat_eq line (codes "end")) refl h
  where
    by_test : (b : Bool) → pointwise nat_eq line (codes "end") ≡ b
        → go_on (if◌then◌else◌ {A = Option (Stage × MapContent)} b (Some (Ended, m)) None) k (λ s n. read_on (k + 1) s n lines) ≡ Ok c → FramesBehind m (line ∷ lines) c
    by_test true e g =
        let last = ended_is (k + 1) m c lines g in
        record {
          frame_lines = [];
          added = [];
          split = ap (λ l. l ∷ lines) ((bytes_eq-Decides line (codes "end")).0 e) ∙ ap (λ ls. codes "end" ∷ ls) last.0;
          are = tt;
          whole = last.1 ∙ ap (λ fs. record m { frames = fs }) (sym (append-nil m.frames));
        }
    by_test false e g = absurd (no_result k c g)

abbrev pub with_frame : MapContent → FrameLine → MapContent
with_frame m f = record m { frames = m.frames ++ f ∷ [] }

one_frame : (m c : MapContent) (line : List ℕ) (f : FrameLine) (lines : List (List ℕ)) → IsFrameLine line f → FramesBehind (with_frame m f) lines c → FramesBehind m (line ∷ lines) c
one_frame m c line f lines is h = record {
  frame_lines = line ∷ h.frame_lines;
  added = f ∷ h.added;
  split = ap (λ ls. line ∷ ls) h.split;
  are = (is, h.are);
  whole = h.whole ∙ ap (λ fs. record m { frames = fs }) (append_assoc m.frames (f ∷ []) h.added);
}

pub frames_are : (k : ℕ) (m c : MapContent) (lines : List (List ℕ)) → read_on k Frames m lines ≡ Ok c → FramesBehind m lines c
unfolding read_on after_line
frames_are k m c [] h = absurd (no_result k c h)
frames_are k m c (line ∷ lines) h = by_frame (λ n. frames_are (k + 1) n c lines) (frame_of line) refl h
  where
    by_frame : ((n : MapContent) → read_on (k + 1) Frames n lines ≡ Ok c → FramesBehind n lines c) → (o : Option FrameLine) → frame_of line ≡ o
        → go_on (frame_next o m line) k (λ s n. read_on (k + 1) s n lines) ≡ Ok c → FramesBehind m (line ∷ lines) c
    by_frame later (Some f) e g = one_frame m c line f lines (frame_is line f e) (later (with_frame m f) g)
    by_frame later None e g = end_is k m c line lines g

pub record ObjectsBehind (m : MapContent) (lines : List (List ℕ)) (c : MapContent) : Type 0 where
  pub object_lines : List (List ℕ)
  pub frame_lines : List (List ℕ)
  pub objects : List ObjectLine
  pub frames : List FrameLine
  pub split : lines ≡ object_lines ++ (frame_lines ++ codes "end" ∷ [])
  pub are_objects : AreObjectLines object_lines objects
  pub are_frames : AreFrameLines frame_lines frames
  pub whole : c ≡ record m { objects = m.objects ++ objects; frames = m.frames ++ frames }

abbrev pub with_object : MapContent → ObjectLine → MapContent
with_object m o = record m { objects = m.objects ++ o ∷ [] }

one_object : (m c : MapContent) (line : List ℕ) (o : ObjectLine) (lines : List (List ℕ)) → IsObjectLine line o → ObjectsBehind (with_object m o) lines c → ObjectsBehind m (line ∷ lines) c
one_object m c line o lines is h = record {
  object_lines = line ∷ h.object_lines;
  frame_lines = h.frame_lines;
  objects = o ∷ h.objects;
  frames = h.frames;
  split = ap (λ ls. line ∷ ls) h.split;
  are_objects = (is, h.are_objects);
  are_frames = h.are_frames;
  whole = h.whole ∙ ap (λ os. record m { objects = os; frames = m.frames ++ h.frames }) (append_assoc m.objects (o ∷ []) h.objects);
}

no_object : (m c : MapContent) (lines : List (List ℕ)) → FramesBehind m lines c → ObjectsBehind m lines c
no_object m c lines h = record {
  object_lines = [];
  frame_lines = h.frame_lines;
  objects = [];
  frames = h.added;
  split = h.split;
  are_objects = tt;
  are_frames = h.are;
  whole = h.whole ∙ ap (λ os. record m { objects = os; frames = m.frames ++ h.added }) (sym (append-nil m.objects));
}

pub objects_are : (k : ℕ) (m c : MapContent) (lines : List (List ℕ)) → read_on k Objects m lines ≡ Ok c → ObjectsBehind m lines c
unfolding read_on after_line
objects_are k m c [] h = absurd (no_result k c h)
objects_are k m c (line ∷ lines) h = by_object (λ n. objects_are (k + 1) n c lines) (frames_are k m c (line ∷ lines)) (object_of line) refl h
  where
    by_object : ((n : MapContent) → read_on (k + 1) Objects n lines ≡ Ok c → ObjectsBehind n lines c)
        → (go_on (frame_next (frame_of line) m line) k (λ s n. read_on (k + 1) s n lines) ≡ Ok c → FramesBehind m (line ∷ lines) c)
        → (o : Option ObjectLine) → object_of line ≡ o
        → go_on (object_next o m line) k (λ s n. read_on (k + 1) s n lines) ≡ Ok c → ObjectsBehind m (line ∷ lines) c
    by_object later frames (Some o) e g = one_object m c line o lines (object_is line o e) (later (with_object m o) g)
    by_object later frames None e g = no_object m c (line ∷ lines) (frames g)

-- ---- the whole file
abbrev pub with_halt : MapContent → ℕ → MapContent
with_halt m a = record m { halt = a }

abbrev pub with_main : MapContent → ℕ → MapContent
with_main m a = record m { main = a }

halt_is : (k : ℕ) (m c : MapContent) (lines : List (List ℕ)) → read_on k HaltPoint m lines ≡ Ok c
    → (line : List ℕ) × (rest : List (List ℕ)) × (a : ℕ) × (lines ≡ line ∷ rest) × IsPointLine (codes "halt") line a × ObjectsBehind (with_halt m a) rest c
unfolding read_on after_line
halt_is k m c [] h = absurd (no_result k c h)
halt_is k m c (line ∷ lines) h = by_point (point_of (codes "halt ") line) refl h
  where
    by_point : (o : Option ℕ) → point_of (codes "halt ") line ≡ o → go_on (option_map (λ a. (Objects, with_halt m a)) o) k (λ s n. read_on (k + 1) s n lines) ≡ Ok c
        → (first : List ℕ) × (rest : List (List ℕ)) × (a : ℕ) × (line ∷ lines ≡ first ∷ rest) × IsPointLine (codes "halt") first a × ObjectsBehind (with_halt m a) rest c
    by_point None e g = absurd (no_result k c g)
    by_point (Some a) e g = (line, lines, a, refl, point_is (codes "halt") line a e, objects_are (k + 1) (with_halt m a) c lines g)

main_is : (k : ℕ) (m c : MapContent) (lines : List (List ℕ)) → read_on k MainPoint m lines ≡ Ok c
    → (line : List ℕ) × (rest : List (List ℕ)) × (a : ℕ) × (lines ≡ line ∷ rest) × IsPointLine (codes "main") line a × (read_on (k + 1) HaltPoint (with_main m a) rest ≡ Ok c)
unfolding read_on after_line
main_is k m c [] h = absurd (no_result k c h)
main_is k m c (line ∷ lines) h = by_point (point_of (codes "main ") line) refl h
  where
    by_point : (o : Option ℕ) → point_of (codes "main ") line ≡ o → go_on (option_map (λ a. (HaltPoint, with_main m a)) o) k (λ s n. read_on (k + 1) s n lines) ≡ Ok c
        → (first : List ℕ) × (rest : List (List ℕ)) × (a : ℕ) × (line ∷ lines ≡ first ∷ rest) × IsPointLine (codes "main") first a × (read_on (k + 1) HaltPoint (with_main m a) rest ≡ Ok c)
    by_point None e g = absurd (no_result k c g)
    by_point (Some a) e g = (line, lines, a, refl, point_is (codes "main") line a e, g)

heading_is : (k : ℕ) (m c : MapContent) (lines : List (List ℕ)) → read_on k Heading m lines ≡ Ok c → (rest : List (List ℕ)) × (lines ≡ codes "picc map 1" ∷ rest) × (read_on (k + 1) MainPoint m rest ≡ Ok c)
unfolding read_on after_line
heading_is k m c [] h = absurd (no_result k c h)
heading_is k m c (line ∷ lines) h = by_test (pointwise nat_eq line (codes "picc map 1")) refl h
  where
    by_test : (b : Bool) → pointwise nat_eq line (codes "picc map 1") ≡ b
        → go_on (if◌then◌else◌ {A = Option (Stage × MapContent)} b (Some (MainPoint, m)) None) k (λ s n. read_on (k + 1) s n lines) ≡ Ok c
        → (rest : List (List ℕ)) × (line ∷ lines ≡ codes "picc map 1" ∷ rest) × (read_on (k + 1) MainPoint m rest ≡ Ok c)
    by_test true e g = (lines, ap (λ l. l ∷ lines) ((bytes_eq-Decides line (codes "picc map 1")).0 e), g)
    by_test false e g = absurd (no_result k c g)

-- what is read is a map file
pub lines_are : (lines : List (List ℕ)) (c : MapContent) → read_on 1 Heading nothing lines ≡ Ok c → AreMapLines lines c
lines_are lines c h =
    let (first, e1, h1) = heading_is 1 nothing c lines h in
    let (main_line, second, main, e2, main_point, h2) = main_is 2 nothing c first h1 in
    let (halt_line, third, halt, e3, halt_point, behind) = halt_is 3 (with_main nothing main) c second h2 in
    subst (AreMapLines lines) (sym behind.whole) (record {
      main_line = main_line;
      halt_line = halt_line;
      object_lines = behind.object_lines;
      frame_lines = behind.frame_lines;
      lines = e1 ∙ ap (λ ls. codes "picc map 1" ∷ ls) (e2 ∙ ap (λ ls. main_line ∷ ls) (e3 ∙ ap (λ ls. halt_line ∷ ls) behind.split));
      main = main_point;
      halt = halt_point;
      objects = behind.are_objects;
      frames = behind.are_frames;
    })

pub file_is : (text : List ℕ) (c : MapContent) → read_on 1 Heading nothing (lines_of text) ≡ Ok c → IsMapFile text c
file_is text c h = lines_are (lines_of text) c h

-- ---- what is a map file is read
end_again : (k : ℕ) (m : MapContent) → read_on k Frames m (codes "end" ∷ []) ≡ Ok m
unfolding read_on after_line frame_of after
end_again k m = refl

frames_again : (k : ℕ) (m : MapContent) (lines : List (List ℕ)) (frames : List FrameLine) → AreFrameLines lines frames
    → read_on k Frames m (lines ++ codes "end" ∷ []) ≡ Ok (record m { frames = m.frames ++ frames })
unfolding read_on after_line
frames_again k m [] [] h = end_again k m ∙ ap (λ fs. Ok (record m { frames = fs })) (sym (append-nil m.frames))
frames_again k m [] (f ∷ frames) h = absurd h
frames_again k m (line ∷ lines) [] h = absurd h
frames_again k m (line ∷ lines) (f ∷ frames) h =
    ap (λ o. go_on (frame_next o m line) k (λ s n. read_on (k + 1) s n (lines ++ codes "end" ∷ []))) (frame_again line f h.0)
    ∙ frames_again (k + 1) (with_frame m f) lines frames h.1
    ∙ ap (λ fs. Ok (record m { frames = fs })) (append_assoc m.frames (f ∷ []) frames)

end_no_object : object_of (codes "end") ≡ None
unfolding object_of after
end_no_object = refl

-- where no object line comes, the lines of the frames may begin
skip_objects : (k : ℕ) (m : MapContent) (lines : List (List ℕ)) (frames : List FrameLine) → AreFrameLines lines frames
    → read_on k Objects m (lines ++ codes "end" ∷ []) ≡ read_on k Frames m (lines ++ codes "end" ∷ [])
unfolding read_on after_line
skip_objects k m [] frames h = ap (λ o. go_on (object_next o m (codes "end")) k (λ s n. read_on (k + 1) s n [])) end_no_object
skip_objects k m (line ∷ lines) [] h = absurd h
skip_objects k m (line ∷ lines) (f ∷ frames) h =
    let is = h.0 in
    ap (λ o. go_on (object_next o m line) k (λ s n. read_on (k + 1) s n (lines ++ codes "end" ∷ [])))
    (ap object_of (is.spelled ∙ append_assoc (root_word f.root) f.name is.tail) ∙ not_object f.root (f.name ++ is.tail))

objects_again : (k : ℕ) (m : MapContent) (lines : List (List ℕ)) (objects : List ObjectLine) (behind : List (List ℕ)) (frames : List FrameLine)
    → AreObjectLines lines objects → AreFrameLines behind frames
    → read_on k Objects m (lines ++ (behind ++ codes "end" ∷ [])) ≡ Ok (record m { objects = m.objects ++ objects; frames = m.frames ++ frames })
unfolding read_on after_line
objects_again k m [] [] behind frames h g =
    skip_objects k m behind frames g ∙ frames_again k m behind frames g
    ∙ ap (λ os. Ok (record m { objects = os; frames = m.frames ++ frames })) (sym (append-nil m.objects))
objects_again k m [] (o ∷ objects) behind frames h g = absurd h
objects_again k m (line ∷ lines) [] behind frames h g = absurd h
objects_again k m (line ∷ lines) (o ∷ objects) behind frames h g =
    ap (λ o. go_on (object_next o m line) k (λ s n. read_on (k + 1) s n (lines ++ (behind ++ codes "end" ∷ [])))) (object_again line o h.0)
    ∙ objects_again (k + 1) (with_object m o) lines objects behind frames h.1 g
    ∙ ap (λ os. Ok (record m { objects = os; frames = m.frames ++ frames })) (append_assoc m.objects (o ∷ []) objects)

three_again : (main_line halt_line : List ℕ) (rest : List (List ℕ)) (main halt : ℕ) → IsPointLine (codes "main") main_line main → IsPointLine (codes "halt") halt_line halt
    → read_on 1 Heading nothing (codes "picc map 1" ∷ main_line ∷ halt_line ∷ rest) ≡ read_on 4 Objects (with_halt (with_main nothing main) halt) rest
unfolding read_on after_line
three_again main_line halt_line rest main halt p q =
    ap (λ o. go_on (option_map (λ a. (HaltPoint, with_main nothing a)) o) 2 (λ s n. read_on 3 s n (halt_line ∷ rest))) (point_again (codes "main") main_line main p)
    ∙ ap (λ o. go_on (option_map (λ a. (Objects, with_halt (with_main nothing main) a)) o) 3 (λ s n. read_on 4 s n rest)) (point_again (codes "halt") halt_line halt q)

pub lines_again : (lines : List (List ℕ)) (c : MapContent) → AreMapLines lines c → read_on 1 Heading nothing lines ≡ Ok c
lines_again lines c h =
    ap (read_on 1 Heading nothing) h.lines
    ∙ three_again h.main_line h.halt_line (h.object_lines ++ (h.frame_lines ++ codes "end" ∷ [])) c.main c.halt h.main h.halt
    ∙ objects_again 4 (with_halt (with_main nothing c.main) c.halt) h.object_lines c.objects h.frame_lines c.frames h.objects h.frames

pub file_again : (text : List ℕ) (c : MapContent) → IsMapFile text c → read_on 1 Heading nothing (lines_of text) ≡ Ok c
file_again text c h = lines_again (lines_of text) c h

same_ok : (r : Result MapContent ℕ) (a b : MapContent) → r ≡ Ok a → r ≡ Ok b → a ≡ b
same_ok r a b e f = cc (e, f)

-- each text has one content at most
pub one_only : (text : List ℕ) (a b : MapContent) → IsMapFile text a → IsMapFile text b → a ≡ b
one_only text a b h k = same_ok (read_on 1 Heading nothing (lines_of text)) a b (file_again text a h) (file_again text b k)

-- ---- what a map file tells can be written
objects_in_range : (lines : List (List ℕ)) (objects : List ObjectLine) → AreObjectLines lines objects → AreObjects objects
objects_in_range [] [] h = tt
objects_in_range [] (o ∷ objects) h = absurd h
objects_in_range (line ∷ lines) [] h = absurd h
objects_in_range (line ∷ lines) (o ∷ objects) h =
    let is = h.0 in
    (record { named = is.name; within = is.place.within; most = is.place.most }, objects_in_range lines objects h.1)

frames_in_range : (lines : List (List ℕ)) (frames : List FrameLine) → AreFrameLines lines frames → AreFrames frames
frames_in_range [] [] h = tt
frames_in_range [] (f ∷ frames) h = absurd h
frames_in_range (line ∷ lines) [] h = absurd h
frames_in_range (line ∷ lines) (f ∷ frames) h =
    let is = h.0 in
    (record { named = is.name; within = is.place.within; most = is.place.most }, frames_in_range lines frames h.1)

pub in_range : (text : List ℕ) (c : MapContent) → IsMapFile text c → AreInRange c
in_range text c h = record {
  main = h.main.within;
  halt = h.halt.within;
  objects = objects_in_range h.object_lines c.objects h.objects;
  frames = frames_in_range h.frame_lines c.frames h.frames;
}
