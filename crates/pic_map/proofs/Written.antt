-- The written text by its parts, and that it is a map file.
use Rattle.std.proofs.Common.{◌≡◌, ℕ, ◌+◌, ◌/◌, ◌%◌, ◌<◌, Bool, true, false, ◌&&◌, List, [], ◌∷◌, ◌++◌, map, refl, sym, ap, ◌∙◌, arith, append_assoc, ⊎_elim, nat_eq}
use Rattle.std.specs.Prelude.{codes}
use Rattle.std.specs.List.{list_all, AllPass}
use Rattle.std.proofs.lemmas.Bool.{ne_eqb, lt-ltb, le-ltb, cases_lt, and_parts}
use Rattle.std.proofs.lemmas.List.Sums.{list_all-from_AllPass}
use Rattle.pic_world.specs.declared.Root.{Root}
use Rattle.pic_world.specs.declared.Root.TheVariants.{Main, Isr}
use Rattle.text_lines.specs.Text.{hex_pairs, lines_of, split_lines, without_cr}
use Rattle.text_lines.proofs.Lines.{is_plain, first_line, plain_pairs}
use Rattle.text_lines.proofs.Digits.{pairs_back}
use Rattle.std.specs.Fmt.{decimal}
use Rattle.pic_map.specs.Decimal.{number_text}
use Rattle.pic_map.specs.MapContent.{ObjectLine, FrameLine, MapContent}
use Rattle.pic_map.specs.MapFile.{IsMapFile, IsAddress, AreObjectLines, AreFrameLines, HasPlace, is_name_byte, object_word, root_word}
use Rattle.pic_map.specs.MapText.{address_text, place_text, object_text, frame_text, line, objects_text, frames_text, map_text, IsPlaced, AreObjects, AreFrames, AreInRange}
use Rattle.pic_map.proofs.Decimals.{number_is_decimal}

-- ---- by parts
pub place_parts : (old : List ℕ) (address size : ℕ) → size < 1000
    → ((((old ++ 32 ∷ []) ++ address_text address) ++ 32 ∷ []) ++ decimal size) ++ 10 ∷ [] ≡ old ++ line (place_text address size)
unfolding hex_pairs
place_parts old address size h =
    rw (number_is_decimal size h)
    (ap (λ t. t ++ 10 ∷ []) (append_assoc (((old ++ 32 ∷ []) ++ address_text address)) (32 ∷ []) (number_text size)
    ∙ append_assoc (old ++ 32 ∷ []) (address_text address) (32 ∷ number_text size)
    ∙ append_assoc old (32 ∷ []) (address_text address ++ 32 ∷ number_text size))
    ∙ append_assoc old (place_text address size) (10 ∷ []))

abbrev pub first_lines : ℕ → ℕ → List ℕ
first_lines main halt = codes "picc map 1" ++ 10 ∷ ((codes "main " ++ address_text main) ++ 10 ∷ ((codes "halt " ++ address_text halt) ++ 10 ∷ []))

pub whole : (content : MapContent)
    → ((first_lines content.main content.halt ++ objects_text content.objects) ++ frames_text content.frames) ++ (codes "end" ++ 10 ∷ []) ≡ map_text content
unfolding map_text hex_pairs
whole content = refl

-- ---- nothing in a line ends it
plain_append : (xs ys : List ℕ) → list_all is_plain xs ≡ true → list_all is_plain ys ≡ true → list_all is_plain (xs ++ ys) ≡ true
plain_append [] ys h k = k
plain_append (x ∷ xs) ys h k = both (is_plain x) (list_all is_plain xs) (list_all is_plain (xs ++ ys)) h (λ t. plain_append xs ys t k)
  where
    both : (a b c : Bool) → (a && b) ≡ true → (b ≡ true → c ≡ true) → (a && c) ≡ true
    both true b c h f = f h
    both false b c h f = h

plain_name_byte : (c : ℕ) → is_name_byte c ≡ true → is_plain c ≡ true
plain_name_byte c h = rw (other 10 refl, other 13 refl) refl
  where
    other : (n : ℕ) → is_name_byte n ≡ false → nat_eq c n ≡ false
    other n e = ne_eqb c n (λ same. absurd (cc (sym h ∙ ap is_name_byte same ∙ e)))

plain_name : (name : List ℕ) → AllPass is_name_byte name → list_all is_plain name ≡ true
plain_name name all = passes name (list_all-from_AllPass is_name_byte name all)
  where
    passes : (cs : List ℕ) → list_all is_name_byte cs ≡ true → list_all is_plain cs ≡ true
    passes [] e = refl
    passes (c ∷ cs) e =
        let parts = and_parts (is_name_byte c) (list_all is_name_byte cs) e in
        rw (plain_name_byte c parts.0, passes cs parts.1) refl

plain_digit_text : (d : ℕ) → is_plain (48 + d) ≡ true
plain_digit_text d = rw (ne_eqb (48 + d) 10 (omega arith), ne_eqb (48 + d) 13 (omega arith)) refl

plain_number : (n : ℕ) → list_all is_plain (number_text n) ≡ true
plain_number n =
    ⊎_elim
    (λ a. rw (lt-ltb n 10 a, plain_digit_text n) refl)
    (λ a.
    ⊎_elim
    (λ b. rw (le-ltb n 10 a, lt-ltb n 100 b, plain_digit_text (n / 10), plain_digit_text (n % 10)) refl)
    (λ b. rw (le-ltb n 10 a, le-ltb n 100 b, plain_digit_text (n / 100), plain_digit_text (n / 10 % 10), plain_digit_text (n % 10)) refl)
    (cases_lt n 100))
    (cases_lt n 10)

address_plain : (a : ℕ) → list_all is_plain (address_text a) ≡ true
address_plain a = plain_pairs ((a / 256) ∷ (a % 256) ∷ [])

place_plain : (address size : ℕ) → list_all is_plain (place_text address size) ≡ true
place_plain address size = plain_append (address_text address) (32 ∷ number_text size) (address_plain address) (plain_number size)

object_word_plain : (b : Bool) → list_all is_plain (object_word b) ≡ true
object_word_plain true = refl
object_word_plain false = refl

root_word_plain : (r : Root) → list_all is_plain (root_word r) ≡ true
root_word_plain Main = refl
root_word_plain Isr = refl

object_plain : (o : ObjectLine) → AllPass is_name_byte o.name → list_all is_plain (object_text o) ≡ true
object_plain o h = plain_append (object_word o.constant ++ o.name) (place_text o.address o.size) (plain_append (object_word o.constant) o.name (object_word_plain o.constant) (plain_name o.name h)) (place_plain o.address o.size)

frame_plain : (f : FrameLine) → AllPass is_name_byte f.name → list_all is_plain (frame_text f) ≡ true
frame_plain f h = plain_append (root_word f.root ++ f.name) (place_text f.address f.size) (plain_append (root_word f.root) f.name (root_word_plain f.root) (plain_name f.name h)) (place_plain f.address f.size)

-- ---- the lines
written_line : (text rest : List ℕ) → list_all is_plain text ≡ true → lines_of (line text ++ rest) ≡ text ∷ lines_of rest
written_line text rest h = ap lines_of (append_assoc text (10 ∷ []) rest) ∙ first_line text rest h

object_lines : (objects : List ObjectLine) (rest : List ℕ) → AreObjects objects → lines_of (objects_text objects ++ rest) ≡ map object_text objects ++ lines_of rest
unfolding objects_text
object_lines [] rest h = refl
object_lines (o ∷ objects) rest h =
    ap lines_of (append_assoc (line (object_text o)) (objects_text objects) rest)
    ∙ written_line (object_text o) (objects_text objects ++ rest) (object_plain o h.0.named.bytes)
    ∙ ap (λ ls. object_text o ∷ ls) (object_lines objects rest h.1)

frame_lines : (frames : List FrameLine) (rest : List ℕ) → AreFrames frames → lines_of (frames_text frames ++ rest) ≡ map frame_text frames ++ lines_of rest
unfolding frames_text
frame_lines [] rest h = refl
frame_lines (f ∷ frames) rest h =
    ap lines_of (append_assoc (line (frame_text f)) (frames_text frames) rest)
    ∙ written_line (frame_text f) (frames_text frames ++ rest) (frame_plain f h.0.named.bytes)
    ∙ ap (λ ls. frame_text f ∷ ls) (frame_lines frames rest h.1)

pub address_back : (a : ℕ) → a < 0x10000 → IsAddress (address_text a) a
address_back a h = pairs_back ((a / 256) ∷ (a % 256) ∷ []) (omega arith, (omega arith, tt))

placed : (name : List ℕ) (address size : ℕ) → IsPlaced name address size → HasPlace (place_text address size) address size
placed name address size h =
    let within = h.within in
    record { digits = address_text address; spelled = refl; at = address_back address (omega arith); within = h.within; most = h.most }

are_objects : (objects : List ObjectLine) → AreObjects objects → AreObjectLines (map object_text objects) objects
are_objects [] h = tt
are_objects (o ∷ objects) h = (record { tail = place_text o.address o.size; spelled = refl; name = h.0.named; place = placed o.name o.address o.size h.0 }, are_objects objects h.1)

are_frames : (frames : List FrameLine) → AreFrames frames → AreFrameLines (map frame_text frames) frames
are_frames [] h = tt
are_frames (f ∷ frames) h = (record { tail = place_text f.address f.size; spelled = refl; name = h.0.named; place = placed f.name f.address f.size h.0 }, are_frames frames h.1)

end_lines : lines_of (line (codes "end")) ≡ codes "end" ∷ []
unfolding split_lines without_cr
end_lines = refl

main_plain : (a : ℕ) → list_all is_plain (codes "main " ++ address_text a) ≡ true
main_plain a = address_plain a

halt_plain : (a : ℕ) → list_all is_plain (codes "halt " ++ address_text a) ≡ true
halt_plain a = address_plain a

spelled_out : (main halt : ℕ) (rest : List ℕ) → first_lines main halt ++ rest
    ≡ codes "picc map 1" ++ 10 ∷ ((codes "main " ++ address_text main) ++ 10 ∷ ((codes "halt " ++ address_text halt) ++ 10 ∷ rest))
unfolding hex_pairs
spelled_out main halt rest = refl

first_three : (main halt : ℕ) (rest : List ℕ)
    → lines_of (first_lines main halt ++ rest) ≡ codes "picc map 1" ∷ (codes "main " ++ address_text main) ∷ (codes "halt " ++ address_text halt) ∷ lines_of rest
first_three main halt rest =
    let halt_line = codes "halt " ++ address_text halt in
    let main_line = codes "main " ++ address_text main in
    ap lines_of (spelled_out main halt rest)
    ∙ first_line (codes "picc map 1") (main_line ++ 10 ∷ (halt_line ++ 10 ∷ rest)) refl
    ∙ ap (λ ls. codes "picc map 1" ∷ ls) (first_line main_line (halt_line ++ 10 ∷ rest) (main_plain main)
    ∙ ap (λ ls. main_line ∷ ls) (first_line halt_line rest (halt_plain halt)))

-- the written text is a map file of the content
pub is_file : (content : MapContent) → AreInRange content → IsMapFile (map_text content) content
is_file content h =
    let main = content.main in
    let halt = content.halt in
    let main_small = h.main in
    let halt_small = h.halt in
    let end = line (codes "end") in
    let frames = frames_text content.frames ++ end in
    let objects = objects_text content.objects ++ frames in
    let first = first_lines main halt in
    record {
      main_line = codes "main " ++ address_text main;
      halt_line = codes "halt " ++ address_text halt;
      object_lines = map object_text content.objects;
      frame_lines = map frame_text content.frames;
      lines =
          ap lines_of (sym (whole content) ∙ append_assoc (first ++ objects_text content.objects) (frames_text content.frames) end ∙ append_assoc first (objects_text content.objects) frames)
          ∙ first_three main halt objects
          ∙ ap (λ ls. codes "picc map 1" ∷ (codes "main " ++ address_text main) ∷ (codes "halt " ++ address_text halt) ∷ ls) (object_lines content.objects frames h.objects
          ∙ ap (λ ls. map object_text content.objects ++ ls) (frame_lines content.frames end h.frames
          ∙ ap (λ ls. map frame_text content.frames ++ ls) end_lines));
      main = record { digits = address_text main; spelled = refl; at = address_back main (omega arith); within = h.main };
      halt = record { digits = address_text halt; spelled = refl; at = address_back halt (omega arith); within = h.halt };
      objects = are_objects content.objects h.objects;
      frames = are_frames content.frames h.frames;
    }
