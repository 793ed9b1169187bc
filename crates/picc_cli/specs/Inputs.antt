-- Files that a command reads whole, closes and then checks: why it doesn't go on behind one, what is known of the file then,
-- and the line that is printed.
use Rattle.std.specs.Prelude.{ℕ, ◌≡◌, ◌≤◌, ◌<◌, Bool, true, false, IsTrue, Option, List, [], length, codes, if◌then◌else◌, Result, Ok, Err}
use Rattle.hex_image.specs.Faults.{fault_line, fault_text}
use Rattle.hex_image.specs.HexFile.{IsHexFile}
use Rattle.hex_image.specs.Reading.{reading_of}
use Rattle.hex_image.specs.declared.read.HexError.{HexError}
use Rattle.hex_image.specs.declared.read.HexError.TheVariants as errors
use Rattle.host_io.specs.Host.{Kind, Contents, Lacks}
use Rattle.pic_map.specs.MapContent.{MapContent}
use Rattle.pic_map.specs.MapFile as map_file
use Rattle.pic_map.specs.MapFile.{IsMapFile}
use Rattle.schedule.specs.ScriptFile.{ScriptContent, IsScriptFile}
use Rattle.picc_cli.specs.declared.inputs.FileEnd.{FileEnd}
use Rattle.picc_cli.specs.declared.inputs.FileEnd.TheVariants.{CannotRead, TooLong, BadHex, BadLine, NoMemory}
use Rattle.picc_cli.specs.Lines.{cannot_read, located}
use Rattle.picc_cli.specs.ScriptInput.{IsFile, HasBadLine, IsLong, longest_script}

-- ---- the files
-- the most bytes of a HEX file and of a map
abbrev pub longest_hex : ℕ
longest_hex = 1048576

abbrev pub longest_map : ℕ
longest_map = 262144

-- a HEX file of this image, not too long
pub record IsHexInput (image bytes : List ℕ) : Type 0 where
  pub short : length bytes ≤ longest_hex
  pub file : IsHexFile bytes image

pub record IsMapInput (content : MapContent) (bytes : List ℕ) : Type 0 where
  pub short : length bytes ≤ longest_map
  pub file : IsMapFile bytes content

pub record IsScriptInput (content : ScriptContent) (bytes : List ℕ) : Type 0 where
  pub short : length bytes ≤ longest_script
  pub file : IsScriptFile bytes content

-- it isn't too long, it is no HEX file, and this is the first check that it fails
pub record HasBadRecord (error : HexError) (bytes : List ℕ) : Type 0 where
  pub short : length bytes ≤ longest_hex
  pub first : reading_of bytes ≡ Err error
  pub none : (image : List ℕ) → IsHexFile bytes image → ⊥

-- it isn't too long, and its first bad line has this number
pub record HasBadMapLine (line : ℕ) (bytes : List ℕ) : Type 0 where
  pub short : length bytes ≤ longest_map
  pub first : map_file.IsFirstBadLine bytes line
  pub none : (content : MapContent) → IsMapFile bytes content → ⊥

-- ---- where there is none
-- What is known of the content of a name where a command ends there so.
abbrev pub IsUnread : ℕ → Contents → List ℕ → FileEnd → Type 0
IsUnread limit old name CannotRead = Unit {0}
IsUnread limit old name NoMemory = Unit {0}
IsUnread limit old name TooLong = IsFile old name (λ bytes. limit < length bytes)
IsUnread limit old name (BadHex error) = ⊥
IsUnread limit old name (BadLine line) = ⊥

abbrev pub HasNoHex : Contents → List ℕ → FileEnd → Type 0
HasNoHex old name CannotRead = Unit {0}
HasNoHex old name NoMemory = Unit {0}
HasNoHex old name TooLong = IsFile old name (λ bytes. longest_hex < length bytes)
HasNoHex old name (BadHex error) = IsFile old name (HasBadRecord error)
HasNoHex old name (BadLine line) = ⊥

abbrev pub HasNoMap : Contents → List ℕ → FileEnd → Type 0
HasNoMap old name CannotRead = Unit {0}
HasNoMap old name NoMemory = Unit {0}
HasNoMap old name TooLong = IsFile old name (λ bytes. longest_map < length bytes)
HasNoMap old name (BadHex error) = ⊥
HasNoMap old name (BadLine line) = IsFile old name (HasBadMapLine line)

abbrev pub HasNoScript : Contents → List ℕ → FileEnd → Type 0
HasNoScript old name CannotRead = Unit {0}
HasNoScript old name NoMemory = Unit {0}
HasNoScript old name TooLong = IsFile old name IsLong
HasNoScript old name (BadHex error) = ⊥
HasNoScript old name (BadLine line) = IsFile old name (HasBadLine line)

-- how a command ends where no image was read for this reason
abbrev pub is_no_memory : HexError → Bool
is_no_memory errors.NoMemory = true
is_no_memory (errors.BadRecord line) = false
is_no_memory (errors.Checksum line found wanted) = false
is_no_memory (errors.UnknownType line kind) = false
is_no_memory (errors.Outside line address) = false
is_no_memory (errors.Twice line address) = false
is_no_memory errors.NoEnd = false

abbrev pub hex_end : HexError → FileEnd
hex_end error = if is_no_memory error then NoMemory else BadHex error

-- ---- faults
abbrev pub is_fault : FileEnd → Bool
is_fault CannotRead = true
is_fault TooLong = false
is_fault (BadHex error) = false
is_fault (BadLine line) = false
is_fault NoMemory = false

abbrev pub fails_in : {T : Type 0} → Result T FileEnd → Bool
fails_in (Ok x) = false
fails_in (Err end) = is_fault end

-- over a sound host only a file without a content is a fault, and it is one
pub record FailsWithoutFile {T : Type 0} (kind : Kind) (old : Option Contents) (name : List ℕ) (result : Result T FileEnd) : Type 0 where
  pub only : IsTrue kind.is_sound → fails_in result ≡ true → (result ≡ Err CannotRead) × Lacks old name
  pub always : IsTrue kind.is_sound → Lacks old name → result ≡ Err CannotRead

-- ---- the printed line and the status
abbrev pub line_of : List ℕ → FileEnd → List ℕ
line_of name CannotRead = cannot_read name
line_of name TooLong = located name 0 (codes "too long")
line_of name (BadHex error) = located name (fault_line error) (fault_text error)
line_of name (BadLine line) = located name line (codes "bad line")
line_of name NoMemory = []

abbrev pub status_of : FileEnd → ℕ
status_of CannotRead = 3
status_of TooLong = 5
status_of (BadHex error) = 5
status_of (BadLine line) = 5
status_of NoMemory = 9
