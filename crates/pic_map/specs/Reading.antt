-- Reading a map file, line by line.
use Rattle.std.specs.Prelude.{ℕ, ◌+◌, ◌-◌, ◌*◌, ◌&&◌, Bool, true, false, nat_eq, nat_lt, nat_le, Option, Some, None, Result, Ok, Err, List, [], ◌∷◌, ◌++◌, length, take, drop, codes, if◌then◌else◌}
use Rattle.std.specs.Option.{option_map, option_and_then}
use Rattle.std.specs.Cmp.Lexicographic.{pointwise}
use Rattle.pic_world.specs.declared.Root.{Root}
use Rattle.pic_world.specs.declared.Root.TheVariants.{Main, Isr}
use Rattle.text_lines.specs.Text.{bytes_of}
use Rattle.text_lines.specs.Front.{after}
use Rattle.pic_map.specs.MapContent.{ObjectLine, FrameLine, MapContent}
use Rattle.pic_map.specs.MapFile.{is_name_byte}
use Rattle.pic_map.specs.declared.read.Stage.{Stage}
use Rattle.pic_map.specs.declared.read.Stage.TheVariants.{Heading, MainPoint, HaltPoint, Objects, Frames, Ended}

-- ---- the fields of a line
abbrev pub below : ℕ → Option ℕ → Option ℕ
below limit None = None
below limit (Some n) = if nat_lt n limit then Some n else None

-- two bytes, the high one first
abbrev pub number_of : Option (List ℕ) → Option ℕ
number_of (Some (high ∷ low ∷ [])) = Some (256 * high + low)
number_of _ = None

-- four digits
abbrev pub address_of : ℕ → List ℕ → Option ℕ
address_of limit (a ∷ b ∷ c ∷ d ∷ []) = below limit (number_of (bytes_of (a ∷ b ∷ c ∷ d ∷ [])))
address_of limit _ = None

abbrev pub is_digit : ℕ → Bool
is_digit c = nat_le 48 c && nat_le c 57

-- a size in decimal, without leading zeros
unfoldable pub size_of : List ℕ → Option ℕ
size_of (a ∷ []) = if is_digit a then Some (a - 48) else None
size_of (a ∷ b ∷ []) = if nat_lt 48 a && is_digit a && is_digit b then Some (10 * (a - 48) + (b - 48)) else None
size_of (a ∷ b ∷ c ∷ []) =
    if nat_lt 48 a && is_digit a && is_digit b && is_digit c then below 353 (Some (100 * (a - 48) + 10 * (b - 48) + (c - 48))) else None
size_of _ = None

abbrev pub both : Option ℕ → Option ℕ → Option (ℕ × ℕ)
both None y = None
both (Some x) None = None
both (Some x) (Some y) = Some (x, y)

-- a space, an address, a space and a size
unfoldable pub place_of : List ℕ → Option (ℕ × ℕ)
place_of (s ∷ a ∷ b ∷ c ∷ d ∷ t ∷ digits) =
    if nat_eq s 32 && nat_eq t 32 then both (address_of 0x200 (a ∷ b ∷ c ∷ d ∷ [])) (size_of digits) else None
place_of _ = None

-- how many bytes at the front are those of names
unfoldable pub name_length : List ℕ → ℕ
name_length [] = 0
name_length (c ∷ text) = if is_name_byte c then name_length text + 1 else 0

pub record NameAndPlace : Type 0 where
  pub name : List ℕ
  pub address : ℕ
  pub size : ℕ

-- a name with its place
unfoldable pub placed_of : List ℕ → Option NameAndPlace
placed_of text =
    let n = name_length text in
    if nat_eq n 0 then None else option_map (λ p. record { name = take n text; address = p.0; size = p.1 }) (place_of (drop n text))

-- ---- the lines
abbrev pub object_with : Bool → Option NameAndPlace → Option ObjectLine
object_with constant placed = option_map (λ p. record { constant = constant; name = p.name; address = p.address; size = p.size }) placed

abbrev pub object_behind : Option (List ℕ) → Option (List ℕ) → Option ObjectLine
object_behind (Some text) other = object_with false (placed_of text)
object_behind None (Some text) = object_with true (placed_of text)
object_behind None None = None

unfoldable pub object_of : List ℕ → Option ObjectLine
object_of line = object_behind (after (codes "static ") line) (after (codes "const ") line)

abbrev pub frame_with : Root → Option NameAndPlace → Option FrameLine
frame_with root placed = option_map (λ p. record { root = root; name = p.name; address = p.address; size = p.size }) placed

abbrev pub frame_behind : Option (List ℕ) → Option (List ℕ) → Option FrameLine
frame_behind (Some text) other = frame_with Main (placed_of text)
frame_behind None (Some text) = frame_with Isr (placed_of text)
frame_behind None None = None

unfoldable pub frame_of : List ℕ → Option FrameLine
frame_of line = frame_behind (after (codes "frame main ") line) (after (codes "frame isr ") line)

unfoldable pub point_of : List ℕ → List ℕ → Option ℕ
point_of word line = option_and_then (address_of 0x2000) (after word line)

-- ---- the file
-- what a line leads to: the stage behind it, and the content so far
abbrev pub Next : Type 0
Next = Option (Stage × MapContent)

abbrev pub end_next : MapContent → List ℕ → Next
end_next m line = if pointwise nat_eq line (codes "end") then Some (Ended, m) else None

abbrev pub frame_next : Option FrameLine → MapContent → List ℕ → Next
frame_next (Some f) m line = Some (Frames, record m { frames = m.frames ++ f ∷ [] })
frame_next None m line = end_next m line

abbrev pub object_next : Option ObjectLine → MapContent → List ℕ → Next
object_next (Some o) m line = Some (Objects, record m { objects = m.objects ++ o ∷ [] })
object_next None m line = frame_next (frame_of line) m line

unfoldable pub after_line : Stage → MapContent → List ℕ → Next
after_line Heading m line = if pointwise nat_eq line (codes "picc map 1") then Some (MainPoint, m) else None
after_line MainPoint m line = option_map (λ a. (HaltPoint, record m { main = a })) (point_of (codes "main ") line)
after_line HaltPoint m line = option_map (λ a. (Objects, record m { halt = a })) (point_of (codes "halt ") line)
after_line Objects m line = object_next (object_of line) m line
after_line Frames m line = frame_next (frame_of line) m line
after_line Ended m line = None

abbrev pub go_on : Next → ℕ → (Stage → MapContent → Result MapContent ℕ) → Result MapContent ℕ
go_on None k rest = Err k
go_on (Some p) k rest = rest p.0 p.1

abbrev pub at_end : Stage → ℕ → MapContent → Result MapContent ℕ
at_end Ended k m = Ok m
at_end _ k m = Err k

-- The content of the lines from number k on, or the number of the first line that doesn't fit: a missing
-- one has the number behind the last.
unfoldable pub read_on : ℕ → Stage → MapContent → List (List ℕ) → Result MapContent ℕ
read_on k stage m [] = at_end stage k m
read_on k stage m (line ∷ lines) = go_on (after_line stage m line) k (λ s n. read_on (k + 1) s n lines)

-- the content before anything is read
abbrev pub nothing : MapContent
nothing = record { main = 0; halt = 0; objects = []; frames = [] }
