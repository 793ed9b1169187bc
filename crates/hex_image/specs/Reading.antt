-- Reading a HEX file, line by line. At each record the checks are made in one order: its bytes and their count, their sum,
-- its kind, how many data bytes that kind has, and for each data byte in order its address.
use Rattle.std.specs.Prelude.{ℕ, ◌+◌, ◌-◌, ◌*◌, ◌%◌, nat_eq, nat_lt, Option, Some, None, Result, Ok, Err, List, [], ◌∷◌, ◌++◌, if◌then◌else◌, slice_index, length, take}
use Rattle.std.specs.List.{sum}
use Rattle.text_lines.specs.Text.{lines_of, bytes_of}
use Rattle.hex_image.specs.HexFile.{Given, times}
use Rattle.hex_image.specs.HexText.{checksum}
use Rattle.hex_image.specs.declared.read.HexError.{HexError}
use Rattle.hex_image.specs.declared.read.HexError.TheVariants.{BadRecord, Checksum, UnknownType, Outside, Twice, NoEnd}

-- what a record tells: bytes and the lower 16 bits of the first one's address; that the file ends; or the upper 16 bits of
-- the addresses that follow
pub data Told : Type 0 where
  Data : ℕ → List ℕ → Told
  End : Told
  Upper : ℕ → Told

-- an end has no data
abbrev pub end_with : ℕ → List ℕ → Result Told HexError
end_with k [] = Ok End
end_with k (b ∷ bytes) = Err (BadRecord k)

-- upper bits are two bytes, the high one first
abbrev pub upper_with : ℕ → List ℕ → Result Told HexError
upper_with k (high ∷ low ∷ []) = Ok (Upper (256 * high + low))
upper_with k _ = Err (BadRecord k)

abbrev pub told : ℕ → ℕ → ℕ → List ℕ → Result Told HexError
told k kind address bytes =
    if nat_eq kind 0 then Ok (Data address bytes) else
    if nat_eq kind 1 then end_with k bytes else
    if nat_eq kind 4 then upper_with k bytes else
    Err (UnknownType k kind)

-- the checksum that stands last, and the one that would make the sum 0 modulo 256
abbrev pub wrong_sum : ℕ → List ℕ → HexError
wrong_sum k bytes = Checksum k (slice_index bytes (length bytes - 1)) (checksum (take (length bytes - 1) bytes))

-- what the bytes of the record on line k tell
unfoldable pub record_of : ℕ → List ℕ → Result Told HexError
record_of k (count ∷ high ∷ low ∷ kind ∷ more) =
    if nat_eq (length more) (count + 1) then
    (if nat_eq (sum (count ∷ high ∷ low ∷ kind ∷ more) % 256) 0 then told k kind (256 * high + low) (take count more) else
    Err (wrong_sum k (count ∷ high ∷ low ∷ kind ∷ more))) else
    Err (BadRecord k)
record_of k _ = Err (BadRecord k)

-- the bytes of a line: `:`, and pairs of digits
abbrev pub pairs_in : ℕ → Option (List ℕ) → Result (List ℕ) HexError
pairs_in k (Some bytes) = Ok bytes
pairs_in k None = Err (BadRecord k)

abbrev pub line_bytes : ℕ → ℕ → List ℕ → Result (List ℕ) HexError
line_bytes k first digits = if nat_eq first 58 then pairs_in k (bytes_of digits) else Err (BadRecord k)

abbrev pub told_in : ℕ → Result (List ℕ) HexError → Result Told HexError
told_in k (Ok bytes) = record_of k bytes
told_in k (Err e) = Err e

-- bytes from an address on, behind those that were given before: each below 4400h, and where none was given
unfoldable pub placed : ℕ → List Given → ℕ → List ℕ → Result (List Given) HexError
placed k given address [] = Ok given
placed k given address (b ∷ bytes) =
    if nat_lt address 0x4400 then
    (if nat_lt 0 (times given address) then Err (Twice k address) else placed k (given ++ (address, b) ∷ []) (address + 1) bytes) else
    Err (Outside k address)

-- the upper 16 bits of the addresses that follow, or none where the file ends; and what is given by then
abbrev pub Next : Type 0
Next = Option ℕ × List Given

abbrev pub under : ℕ → Result (List Given) HexError → Result Next HexError
under upper (Ok given) = Ok (Some upper, given)
under upper (Err e) = Err e

abbrev pub after_record : ℕ → ℕ → List Given → Result Told HexError → Result Next HexError
after_record k upper given (Ok (Data address bytes)) = under upper (placed k given (65536 * upper + address) bytes)
after_record k upper given (Ok End) = Ok (None, given)
after_record k upper given (Ok (Upper bits)) = Ok (Some bits, given)
after_record k upper given (Err e) = Err e

unfoldable pub after_line : ℕ → ℕ → List Given → List ℕ → Result Next HexError
after_line k upper given [] = Ok (Some upper, given)
after_line k upper given (first ∷ digits) = after_record k upper given (told_in k (line_bytes k first digits))

abbrev pub go_on : Result Next HexError → (ℕ → List Given → Result (List Given) HexError) → Result (List Given) HexError
go_on (Ok (Some upper, given)) rest = rest upper given
go_on (Ok (None, given)) rest = Ok given
go_on (Err e) rest = Err e

-- What is given by the lines from number k on, up to the record that ends the file; or what is wrong with the first record
-- that breaks a check.
unfoldable pub read_on : ℕ → ℕ → List Given → List (List ℕ) → Result (List Given) HexError
read_on k upper given [] = Err NoEnd
read_on k upper given (line ∷ lines) = go_on (after_line k upper given line) (λ u g. read_on (k + 1) u g lines)

-- what is read of a whole text
abbrev pub reading_of : List ℕ → Result (List Given) HexError
reading_of text = read_on 1 0 [] (lines_of text)
