-- What a reader's answer says of a reading.
use Rattle.std.specs.Prelude.{◌≡◌, ℕ, List, Result, Ok, Err}
use Rattle.text_lines.specs.Text.{lines_of}
use Rattle.pic_map.specs.declared.read.Stage.TheVariants.{Heading}
use Rattle.pic_map.specs.Reading.{read_on, nothing}
use Rattle.pic_map.specs.declared.Map.{Map}
use Rattle.pic_map.specs.declared.read.MapError.{MapError}
use Rattle.pic_map.specs.declared.read.MapError.TheVariants.{NoMemory, BadLine}
use Rattle.pic_map.specs.MapContent.{MapContent}
use Rattle.pic_map.specs.MapFile.{IsFirstBadLine}
use Rattle.pic_map.specs.MapView.{content_of}

-- the answer tells this reading: its content, or the number of a line, where memory sufficed
abbrev pub GivesMap : Result Map MapError → Result MapContent ℕ → Type 0
GivesMap (Ok m) read = read ≡ Ok (content_of m)
GivesMap (Err (BadLine line)) read = read ≡ Err line
GivesMap (Err NoMemory) read = Unit {0}

-- what is read of a whole text
abbrev pub reading_of : List ℕ → Result MapContent ℕ
reading_of text = read_on 1 Heading nothing (lines_of text)

-- a line that the answer tells is the first that is wrong
abbrev pub TellsBadLine : Result Map MapError → List ℕ → Type 0
TellsBadLine (Err (BadLine line)) text = IsFirstBadLine text line
TellsBadLine (Err NoMemory) text = Unit {0}
TellsBadLine (Ok m) text = Unit {0}
