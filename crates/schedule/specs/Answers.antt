-- What a reader's answer says of a reading.
use Rattle.std.specs.Prelude.{◌≡◌, ℕ, ◌++◌, Bool, true, false, Option, Some, None, List, Result, Ok, Err}
use Rattle.std.specs.Option.{option_map}
use Rattle.text_lines.specs.Text.{lines_of}
use Rattle.pic_world.specs.declared.script.Script.{Script}
use Rattle.schedule.specs.Reading.{read_on, nothing}
use Rattle.schedule.specs.ScriptFile.{ScriptContent, content_of, IsFirstBadLine}
use Rattle.schedule.specs.declared.read.ScriptError.{ScriptError}
use Rattle.schedule.specs.declared.read.ScriptError.TheVariants.{NoMemory, BadLine}

-- the answer tells this reading: its content, or the number of a line, where memory sufficed
abbrev pub GivesScript : Result Script ScriptError → Result ScriptContent ℕ → Type 0
GivesScript (Ok s) read = read ≡ Ok (content_of s)
GivesScript (Err (BadLine line)) read = read ≡ Err line
GivesScript (Err NoMemory) read = Unit {0}

-- what is read of a whole text
abbrev pub reading_of : List ℕ → Result ScriptContent ℕ
reading_of text = read_on 1 nothing (lines_of text)

-- a line that the answer tells is the first that is wrong
abbrev pub TellsBadLine : Result Script ScriptError → List ℕ → Type 0
TellsBadLine (Err (BadLine line)) text = IsFirstBadLine text line
TellsBadLine (Err NoMemory) text = Unit {0}
TellsBadLine (Ok s) text = Unit {0}

-- it went well, and this is the next content; or it didn't
abbrev pub Goes : Bool → Option ScriptContent → ScriptContent → Type 0
Goes true next new = next ≡ Some new
Goes false next new = next ≡ None

-- it went well, and these bytes stand behind the old ones now; or it didn't
abbrev pub Puts : Bool → List ℕ → Option (List ℕ) → List ℕ → Type 0
Puts true old read new = option_map (λ bytes. old ++ bytes) read ≡ Some new
Puts false old read new = read ≡ None
