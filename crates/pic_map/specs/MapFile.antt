-- Which texts are map files, and of which content. This format is the project's own.
use Rattle.std.specs.Prelude.{◌≡◌, ◌≢◌, ℕ, ◌+◌, ◌/◌, ◌%◌, ◌<◌, ◌≤◌, ◌&&◌, ◌||◌, Bool, true, false, nat_eq, nat_le, Option, Some, None, List, [], ◌∷◌, ◌++◌, length, codes}
use Rattle.std.specs.List.{AllPass}
use Rattle.text_lines.specs.Text.{lines_of, bytes_of}
use Rattle.pic_world.specs.declared.Root.{Root}
use Rattle.pic_world.specs.declared.Root.TheVariants.{Main, Isr}
use Rattle.pic_map.specs.MapContent.{ObjectLine, FrameLine, MapContent}
use Rattle.pic_map.specs.Decimal.{number_text}

-- four hexadecimal digits of either case
abbrev pub IsAddress : List ℕ → ℕ → Type 0
IsAddress digits address = bytes_of digits ≡ Some ((address / 256) ∷ (address % 256) ∷ [])

-- letters, digits, `_`, `.` and `$`
abbrev pub is_name_byte : ℕ → Bool
is_name_byte c =
    (nat_le 65 c && nat_le c 90) || (nat_le 97 c && nat_le c 122) || (nat_le 48 c && nat_le c 57)
    || nat_eq c 95 || nat_eq c 46 || nat_eq c 36

pub record IsName (name : List ℕ) : Type 0 where
  pub some : 0 < length name
  pub bytes : AllPass is_name_byte name

-- a space, an address of data memory, a space, and a size in decimal
pub record HasPlace (tail : List ℕ) (address size : ℕ) : Type 0 where
  pub digits : List ℕ
  pub spelled : tail ≡ 32 ∷ (digits ++ 32 ∷ number_text size)
  pub at : IsAddress digits address
  pub within : address < 0x200
  pub most : size ≤ 352

-- a word and an address of program memory
pub record IsPointLine (word line : List ℕ) (address : ℕ) : Type 0 where
  pub digits : List ℕ
  pub spelled : line ≡ word ++ 32 ∷ digits
  pub at : IsAddress digits address
  pub within : address < 0x2000

abbrev pub object_word : Bool → List ℕ
object_word true = codes "const "
object_word false = codes "static "

abbrev pub root_word : Root → List ℕ
root_word Main = codes "frame main "
root_word Isr = codes "frame isr "

pub record IsObjectLine (line : List ℕ) (object : ObjectLine) : Type 0 where
  pub tail : List ℕ
  pub spelled : line ≡ object_word object.constant ++ object.name ++ tail
  pub name : IsName object.name
  pub place : HasPlace tail object.address object.size

pub record IsFrameLine (line : List ℕ) (frame : FrameLine) : Type 0 where
  pub tail : List ℕ
  pub spelled : line ≡ root_word frame.root ++ frame.name ++ tail
  pub name : IsName frame.name
  pub place : HasPlace tail frame.address frame.size

abbrev pub AreObjectLines : List (List ℕ) → List ObjectLine → Type 0
AreObjectLines [] [] = Unit {0}
AreObjectLines (line ∷ lines) (object ∷ objects) = IsObjectLine line object × AreObjectLines lines objects
AreObjectLines _ _ = ⊥

abbrev pub AreFrameLines : List (List ℕ) → List FrameLine → Type 0
AreFrameLines [] [] = Unit {0}
AreFrameLines (line ∷ lines) (frame ∷ frames) = IsFrameLine line frame × AreFrameLines lines frames
AreFrameLines _ _ = ⊥

-- The first line names the format; then main, halt, the objects, the frames, and `end`. Nothing follows it.
pub record AreMapLines (all : List (List ℕ)) (content : MapContent) : Type 0 where
  pub main_line : List ℕ
  pub halt_line : List ℕ
  pub object_lines : List (List ℕ)
  pub frame_lines : List (List ℕ)
  pub lines : all ≡ codes "picc map 1" ∷ main_line ∷ halt_line ∷ (object_lines ++ (frame_lines ++ codes "end" ∷ []))
  pub main : IsPointLine (codes "main") main_line content.main
  pub halt : IsPointLine (codes "halt") halt_line content.halt
  pub objects : AreObjectLines object_lines content.objects
  pub frames : AreFrameLines frame_lines content.frames

abbrev pub IsMapFile : List ℕ → MapContent → Type 0
IsMapFile text content = AreMapLines (lines_of text) content

-- ---- where a text first goes wrong
-- the next line, if there is one
abbrev pub next_of : List (List ℕ) → Option (List ℕ)
next_of [] = None
next_of (line ∷ lines) = Some line

-- Line `number`, counted from 1, is the first that is wrong: some map file begins with the lines before it,
-- and none that does has there what the text has, a line or the end of the text.
pub record IsFirstBadLine (text : List ℕ) (number : ℕ) : Type 0 where
  pub before : List (List ℕ)
  pub rest : List (List ℕ)
  pub split : lines_of text ≡ before ++ rest
  pub place : number ≡ length before + 1
  pub good : (behind : List (List ℕ)) × (content : MapContent) × AreMapLines (before ++ behind) content
  pub bad : (behind : List (List ℕ)) (content : MapContent) → AreMapLines (before ++ behind) content → next_of behind ≢ next_of rest
