-- Which texts are HEX files, and of which image (Intel, Hexadecimal Object File Format
-- Specification, of 1988; kinds 00, 01 and 04). The word at w has its low byte at 2w and its high
-- byte at 2w + 1, as the programmers of the PIC16F877A write it.
use Rattle.std.specs.Prelude.{◌≡◌, ℕ, ◌+◌, ◌*◌, ◌%◌, ◌<◌, ◌≤◌, ◌&&◌, ◌||◌, nat_eq, Bool, Option, Some, None, List, [], ◌∷◌, ◌++◌, if◌then◌else◌, slice_index, length, take}
use Rattle.std.specs.List.{sum}
use Rattle.text_lines.specs.Text.{lines_of, bytes_of}
use Rattle.pic_chip.specs.Words.{AreWords}

-- a record: its kind, its 16 bits of address, and its data
pub record HexRecord : Type 0 where
  pub kind : ℕ
  pub address : ℕ
  pub bytes : List ℕ

-- data of any length is of kind 0; kind 1, the end, has none; kind 4, the upper 16 bits of the
-- addresses that follow, has two bytes
abbrev pub has_kind : ℕ → ℕ → Bool
has_kind kind count = nat_eq kind 0 || (nat_eq kind 1 && nat_eq count 0) || (nat_eq kind 4 && nat_eq count 2)

-- The bytes of a record: how many data bytes it has, the address with its high byte first, the
-- kind, the data and the checksum. Their sum is 0 modulo 256.
abbrev pub fields : List ℕ → Option HexRecord
fields (count ∷ high ∷ low ∷ kind ∷ more) =
    if nat_eq (length more) (count + 1) && nat_eq (sum (count ∷ high ∷ low ∷ kind ∷ more) % 256) 0 && has_kind kind count
    then Some (record { kind = kind; address = 256 * high + low; bytes = take count more })
    else None
fields _ = None

abbrev pub fields_in : Option (List ℕ) → Option HexRecord
fields_in (Some bytes) = fields bytes
fields_in None = None

-- the record of a line: `:` and its bytes, each as two digits of either case
abbrev pub record_of : ℕ → List ℕ → Option HexRecord
record_of first digits = if nat_eq first 58 then fields_in (bytes_of digits) else None

-- a byte that is given: its address and its value
abbrev pub Given : Type 0
Given = ℕ × ℕ

-- bytes from an address on
unfoldable pub from_address : ℕ → List ℕ → List Given
from_address address [] = []
from_address address (b ∷ bytes) = (address, b) ∷ from_address (address + 1) bytes

abbrev pub in_front : List Given → Option (List Given) → Option (List Given)
in_front front None = None
in_front front (Some more) = Some (front ++ more)

-- What a record gives, before what the rest gives under its upper 16 bits of address. The end
-- ends the file: the rest isn't read.
abbrev pub with_record : Option HexRecord → (ℕ → Option (List Given)) → ℕ → Option (List Given)
with_record None rest upper = None
with_record (Some r) rest upper =
    if nat_eq r.kind 1 then Some [] else
    if nat_eq r.kind 4 then rest (256 * slice_index r.bytes 0 + slice_index r.bytes 1) else
    in_front (from_address (65536 * upper + r.address) r.bytes) (rest upper)

-- The bytes that lines give, in order, where each line up to the end record is empty or a record.
unfoldable pub given_by : List (List ℕ) → ℕ → Option (List Given)
given_by [] upper = None
given_by ([] ∷ lines) upper = given_by lines upper
given_by ((first ∷ digits) ∷ lines) upper = with_record (record_of first digits) (given_by lines) upper

-- how often the byte at an address is given
unfoldable pub times : List Given → ℕ → ℕ
times [] address = 0
times (g ∷ more) address = (if nat_eq g.0 address then 1 else 0) + times more address

-- the byte given at an address, or what stands there otherwise
unfoldable pub byte_at : List Given → ℕ → ℕ → ℕ
byte_at [] address otherwise = otherwise
byte_at (g ∷ more) address otherwise = if nat_eq g.0 address then g.1 else byte_at more address otherwise

-- The text is a HEX file of the image: each address is below 4400h and given once at most. Bytes
-- from 4000h, which are not program memory, are not kept; a byte that isn't given is FFh; bits 7
-- and 6 of a high byte are dropped.
pub record IsHexFile (text image : List ℕ) : Type 0 where
  pub given : List Given
  pub reads : given_by (lines_of text) 0 ≡ Some given
  pub below : (address : ℕ) → 0x4400 ≤ address → times given address ≡ 0
  pub once : (address : ℕ) → times given address ≤ 1
  pub words : AreWords image
  pub each : (w : ℕ) → w < 8192 → slice_index image w ≡ byte_at given (2 * w) 0xff + 256 * (byte_at given (2 * w + 1) 0xff % 64)
