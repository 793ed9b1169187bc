-- Reading a script file, line by line.
use Rattle.std.specs.Prelude.{ℕ, ◌+◌, ◌-◌, ◌*◌, ◌^◌, ◌&&◌, ◌||◌, nat_eq, nat_lt, nat_le, Option, Some, None, Result, Ok, Err, List, [], ◌∷◌, ◌++◌, length, take, drop, codes, if◌then◌else◌}
use Rattle.std.specs.List.{slice_get}
use Rattle.std.specs.Str.{bytes_eq}
use Rattle.pic_world.specs.declared.Arrival.{Arrival}
use Rattle.pic_world.specs.declared.Flag.{Flag}
use Rattle.pic_world.specs.Arrivals.{flags}
use Rattle.text_lines.specs.Front.{after}
use Rattle.schedule.specs.ScriptFile.{ScriptContent, byte_value, is_digit, flag_word}

-- ---- input
abbrev pub byte_onto : Option ℕ → Option (List ℕ) → Option (List ℕ)
byte_onto (Some byte) (Some bytes) = Some (byte ∷ bytes)
byte_onto _ _ = None

abbrev pub byte_before : Option ℕ → List ℕ → Option (ℕ × List ℕ)
byte_before None tail = None
byte_before (Some byte) tail = Some (byte, tail)

-- a space and two digits, and what stands behind them
unfoldable pub byte_at_front : List ℕ → Option (ℕ × List ℕ)
byte_at_front (space ∷ high ∷ low ∷ tail) = if nat_eq space 32 then byte_before (byte_value high low) tail else None
byte_at_front _ = None

-- bytes, each a space and two digits
unfoldable pub bytes_in : List ℕ → Option (List ℕ)
bytes_in [] = Some []
bytes_in (c ∷ []) = None
bytes_in (c ∷ d ∷ []) = None
bytes_in (space ∷ high ∷ low ∷ tail) = if nat_eq space 32 then byte_onto (byte_value high low) (bytes_in tail) else None

abbrev pub with_input : ScriptContent → Option (List ℕ) → Option ScriptContent
with_input m None = None
with_input m (Some bytes) = Some (record m { input = m.input ++ bytes })

-- ---- arrivals
unfoldable pub digits_length : List ℕ → ℕ
digits_length [] = 0
digits_length (c ∷ text) = if is_digit c then digits_length text + 1 else 0

-- the number that digits spell behind those of a number, where it is below 2^32
unfoldable pub time_onto : ℕ → List ℕ → Option ℕ
time_onto n [] = Some n
time_onto n (c ∷ digits) = if nat_lt 4294967295 (10 * n + (c - 48)) then None else time_onto (10 * n + (c - 48)) digits

-- the one of some flags whose name stands there
abbrev pub flag_among : List Flag → List ℕ → Option Flag
flag_among [] tail = None
flag_among (flag ∷ rest) tail = if bytes_eq tail (flag_word flag) then Some flag else flag_among rest tail

abbrev pub flag_in : List ℕ → Option Flag
flag_in tail = flag_among flags tail

abbrev pub arrival_of : Option ℕ → Option Flag → Option Arrival
arrival_of (Some t) (Some flag) = Some (record { t = t; flag = flag })
arrival_of _ _ = None

-- a time and a flag
unfoldable pub arrival_in : List ℕ → Option Arrival
arrival_in text =
    let n = digits_length text in
    if nat_eq n 0 || nat_lt 10 n then None else arrival_of (time_onto 0 (take n text)) (flag_in (drop n text))

abbrev pub time_of : Option Arrival → ℕ
time_of None = 0
time_of (Some a) = a.t

-- the time of the last arrival, or 0
abbrev pub last_time : List Arrival → ℕ
last_time arrivals = time_of (slice_get arrivals (length arrivals - 1))

abbrev pub with_arrival : ScriptContent → Option Arrival → Option ScriptContent
with_arrival m None = None
with_arrival m (Some a) = if nat_lt a.t (last_time m.arrivals) then None else Some (record m { arrivals = m.arrivals ++ a ∷ [] })

-- ---- lines
abbrev pub by_word : ScriptContent → Option (List ℕ) → Option (List ℕ) → Option ScriptContent
by_word m (Some digits) other = with_input m (bytes_in digits)
by_word m None (Some text) = with_arrival m (arrival_in text)
by_word m None None = None

-- the content with what a line tells, where a script may have that line there
unfoldable pub after_line : ScriptContent → List ℕ → Option ScriptContent
after_line m [] = Some m
after_line m (c ∷ line) = by_word m (after (codes "input") (c ∷ line)) (after (codes "at ") (c ∷ line))

abbrev pub go_on : Option ScriptContent → ℕ → (ScriptContent → Result ScriptContent ℕ) → Result ScriptContent ℕ
go_on None k rest = Err k
go_on (Some m) k rest = rest m

-- The content of the lines from number k on, or the number of the first line that doesn't fit.
unfoldable pub read_on : ℕ → ScriptContent → List (List ℕ) → Result ScriptContent ℕ
read_on k m [] = Ok m
read_on k m (line ∷ lines) = go_on (after_line m line) k (λ n. read_on (k + 1) n lines)

-- the content before anything is read
abbrev pub nothing : ScriptContent
nothing = record { input = []; arrivals = [] }
