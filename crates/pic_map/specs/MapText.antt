-- The one text that is written for a map: digits in upper case, and each line ends at LF.
use Rattle.std.specs.Prelude.{ℕ, ◌/◌, ◌%◌, ◌<◌, ◌≤◌, List, [], ◌∷◌, ◌++◌, codes}
use Rattle.text_lines.specs.Text.{hex_pairs}
use Rattle.pic_map.specs.Decimal.{number_text}
use Rattle.pic_map.specs.MapContent.{ObjectLine, FrameLine, MapContent}
use Rattle.pic_map.specs.MapFile.{IsName, object_word, root_word}

-- an address as four digits
abbrev pub address_text : ℕ → List ℕ
address_text address = hex_pairs ((address / 256) ∷ (address % 256) ∷ [])

abbrev pub place_text : ℕ → ℕ → List ℕ
place_text address size = 32 ∷ (address_text address ++ 32 ∷ number_text size)

abbrev pub object_text : ObjectLine → List ℕ
object_text o = object_word o.constant ++ o.name ++ place_text o.address o.size

abbrev pub frame_text : FrameLine → List ℕ
frame_text f = root_word f.root ++ f.name ++ place_text f.address f.size

abbrev pub line : List ℕ → List ℕ
line text = text ++ 10 ∷ []

unfoldable pub objects_text : List ObjectLine → List ℕ
objects_text [] = []
objects_text (o ∷ objects) = line (object_text o) ++ objects_text objects

unfoldable pub frames_text : List FrameLine → List ℕ
frames_text [] = []
frames_text (f ∷ frames) = line (frame_text f) ++ frames_text frames

unfoldable pub map_text : MapContent → List ℕ
map_text content =
    line (codes "picc map 1") ++ line (codes "main " ++ address_text content.main) ++ line (codes "halt " ++ address_text content.halt)
    ++ objects_text content.objects ++ frames_text content.frames ++ line (codes "end")

-- ---- what can be written
-- a name, an address of data memory, and a size
pub record IsPlaced (name : List ℕ) (address size : ℕ) : Type 0 where
  pub named : IsName name
  pub within : address < 0x200
  pub most : size ≤ 352

abbrev pub AreObjects : List ObjectLine → Type 0
AreObjects [] = Unit {0}
AreObjects (o ∷ objects) = IsPlaced o.name o.address o.size × AreObjects objects

abbrev pub AreFrames : List FrameLine → Type 0
AreFrames [] = Unit {0}
AreFrames (f ∷ frames) = IsPlaced f.name f.address f.size × AreFrames frames

pub record AreInRange (content : MapContent) : Type 0 where
  pub main : content.main < 0x2000
  pub halt : content.halt < 0x2000
  pub objects : AreObjects content.objects
  pub frames : AreFrames content.frames
