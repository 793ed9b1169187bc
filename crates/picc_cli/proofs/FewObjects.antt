-- A map that isn't too long has few objects.
use Rattle.std.proofs.Common.{◌≡◌, ℕ, suc, ◌+◌, ◌*◌, ◌≤◌, Bool, true, false, List, [], ◌∷◌, ◌++◌, length, map, codes, nat_eq, ap, arith}
use Rattle.std.proofs.lemmas.List.{length-append}
use Rattle.std.specs.Prelude.{if◌then◌else◌}
use Rattle.text_lines.specs.Text.{split_lines, without_cr, onto_first}
use Rattle.pic_map.specs.MapContent.{ObjectLine, MapContent}
use Rattle.pic_map.specs.MapFile.{object_word, AreObjectLines, IsMapFile}

-- the bytes of all lines
abbrev total : List (List ℕ) → ℕ
total [] = 0
total (line ∷ lines) = length line + total lines

total_joined : (a b : List (List ℕ)) → total (a ++ b) ≡ total a + total b
total_joined [] b = omega arith
total_joined (line ∷ a) b = let more = total_joined a b in omega arith

onto_total : (c : ℕ) (lines : List (List ℕ)) → total (onto_first c lines) ≡ total lines + 1
onto_total c [] = omega arith
onto_total c (line ∷ lines) = omega arith

split_total : (text : List ℕ) → total (split_lines text) ≤ length text
unfolding split_lines
split_total [] = omega arith
split_total (c ∷ text) = by_test (split_total text) (nat_eq c 10) where
  by_test : total (split_lines text) ≤ length text → (b : Bool) → total (if b then [] ∷ split_lines text else onto_first c (split_lines text)) ≤ suc (length text)
  by_test more true = omega arith
  by_test more false = let onto = onto_total c (split_lines text) in omega arith

cut_total : (line : List ℕ) → length (without_cr line) ≤ length line
unfolding without_cr
cut_total [] = omega arith
cut_total (c ∷ []) = by_test (nat_eq c 13) where
  by_test : (b : Bool) → length (if b then [] else c ∷ []) ≤ 1
  by_test true = omega arith
  by_test false = omega arith
cut_total (c ∷ d ∷ line) = let more = cut_total (d ∷ line) in omega arith

lines_total : (lines : List (List ℕ)) → total (map without_cr lines) ≤ total lines
lines_total [] = omega arith
lines_total (line ∷ lines) = let one = cut_total line in let more = lines_total lines in omega arith

word_long : (constant : Bool) → 4 ≤ length (object_word constant)
word_long true = omega arith
word_long false = omega arith

-- an object's line has four bytes at least
objects_total : (lines : List (List ℕ)) (objects : List ObjectLine) → AreObjectLines lines objects → 4 * length objects ≤ total lines
objects_total [] [] are = omega arith
objects_total (line ∷ lines) (object ∷ objects) are =
    let word = word_long object.constant in
    let more = objects_total lines objects are.1 in
    let spelled = ap (length {A = ℕ}) are.0.spelled in
    let one = length-append {A = ℕ} (object_word object.constant ++ object.name) are.0.tail in
    let two = length-append {A = ℕ} (object_word object.constant) object.name in
    omega arith
objects_total [] (object ∷ objects) are = absurd are
objects_total (line ∷ lines) [] are = absurd are

pub few_objects : (text : List ℕ) (content : MapContent) → IsMapFile text content → length text ≤ 262144 → length content.objects ≤ 65536
few_objects text content file short =
    let objects = objects_total file.object_lines content.objects file.objects in
    let split = split_total text in
    let cut = lines_total (split_lines text) in
    let all = ap total file.lines in
    let joined = total_joined file.object_lines (file.frame_lines ++ codes "end" ∷ []) in
    omega arith
