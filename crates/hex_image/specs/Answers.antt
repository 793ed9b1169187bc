-- What a reader's answer says of a reading.
use Rattle.std.specs.Prelude.{◌≡◌, ℕ, ◌+◌, ◌*◌, ◌%◌, ◌<◌, Result, Ok, Err, List, slice_index}
use Rattle.hex.specs.declared.error.FromHexError.{FromHexError}
use Rattle.hex.specs.declared.error.FromHexError.TheVariants.{OutOfMemory}
use Rattle.pic_chip.specs.Words.{AreWords}
use Rattle.hex_image.specs.HexFile.{Given, byte_at}
use Rattle.hex_image.specs.Reading as reading
use Rattle.hex_image.specs.declared.read.Record.{Record}
use Rattle.hex_image.specs.declared.read.Record.TheVariants.{Data, End, Upper}
use Rattle.hex_image.specs.declared.read.HexError.{HexError}
use Rattle.hex_image.specs.declared.read.HexError.TheVariants.{NoMemory, BadRecord, Checksum, UnknownType, Outside, Twice, NoEnd}

-- the error is that of the reading, or memory ran out
abbrev pub Refuses : {A : Type 0} → HexError → Result A HexError → Type 0
Refuses NoMemory read = Unit {0}
Refuses (BadRecord line) read = read ≡ Err (BadRecord line)
Refuses (Checksum line found wanted) read = read ≡ Err (Checksum line found wanted)
Refuses (UnknownType line kind) read = read ≡ Err (UnknownType line kind)
Refuses (Outside line address) read = read ≡ Err (Outside line address)
Refuses (Twice line address) read = read ≡ Err (Twice line address)
Refuses NoEnd read = read ≡ Err NoEnd

-- the answer tells this reading: what is read, seen in its way, or the error, where memory sufficed
abbrev pub Gives : {A B : Type 0} → (A → B) → Result A HexError → Result B HexError → Type 0
Gives seen (Ok a) read = read ≡ Ok (seen a)
Gives seen (Err e) read = Refuses e read

-- digits that spell no bytes make a bad record
abbrev pub undecoded : ℕ → FromHexError → HexError
undecoded k OutOfMemory = NoMemory
undecoded k _ = BadRecord k

-- what a record of the code tells
abbrev pub told_by : Record → reading.Told
told_by (Data address bytes) = reading.Data address bytes.now
told_by End = reading.End
told_by (Upper bits) = reading.Upper bits

-- the words are made of the bytes that were given: a byte that wasn't is FFh, and bits 7 and 6 of a high byte are dropped
pub record IsFilled (given : List Given) (image : List ℕ) : Type 0 where
  pub words : AreWords image
  pub each : (w : ℕ) → w < 8192 → slice_index image w ≡ byte_at given (2 * w) 0xff + 256 * (byte_at given (2 * w + 1) 0xff % 64)

-- the image is made of what is read of the text
abbrev pub IsReadAs : List ℕ → List ℕ → Type 0
IsReadAs text image = (given : List Given) × (reading.reading_of text ≡ Ok given) × IsFilled given image

-- the image is made of what is read, or the error is that of the reading
abbrev pub GivesImage : Result (List ℕ) HexError → List ℕ → Type 0
GivesImage (Ok image) text = IsReadAs text image
GivesImage (Err e) text = Refuses e (reading.reading_of text)
