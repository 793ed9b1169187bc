-- The words of the command line.
use Rattle.std.specs.Prelude.{ℕ, ◌+◌, ◌-◌, ◌*◌, Bool, true, false, not, ◌&&◌, nat_eq, nat_lt, nat_le, Option, Some, None, List, [], ◌∷◌, length, codes, map, if◌then◌else◌, option_map, String, string_bytes}
use Rattle.std.specs.List.{list_all}
use Rattle.std.specs.Str.{bytes_eq}
use Rattle.std.specs.declared.alloc.Global.{Global}
use Rattle.pic_chip.specs.declared.profile.Profile.{Profile}
use Rattle.pic_chip.specs.declared.profile.Profile.TheVariants.{Pic16F877a, Pic16F84a}
use Rattle.schedule.specs.ScriptFile.{is_digit}

-- the chip for which a text is built, and the three files of the build
pub record Names : Type 0 where
  pub chip : Profile
  pub input : List ℕ
  pub output : List ℕ
  pub map : List ℕ

-- the two files of a trace, and how many steps are taken at most
pub record Asked : Type 0 where
  pub input : List ℕ
  pub script : List ℕ
  pub steps : ℕ

-- the chip that a built program runs on, the three files of the run, and how many instructions it has
pub record Simulated : Type 0 where
  pub chip : Profile
  pub hex : List ℕ
  pub map : List ℕ
  pub script : List ℕ
  pub instructions : ℕ

-- the two files of a comparison, and how many instructions it has at most
pub record Compared : Type 0 where
  pub input : List ℕ
  pub script : List ℕ
  pub instructions : ℕ

pub data Form : Type 0 where
  Build : Names → Form
  Trace : Asked → Form
  Simulate : Simulated → Form
  Agree : Compared → Form
  Generate : ℕ → Form
  Check : List ℕ → Form

-- a name isn't empty and doesn't begin with `-`
abbrev pub is_name : List ℕ → Bool
is_name [] = false
is_name (c ∷ rest) = not (nat_eq c 45)

abbrev pub differ : List ℕ → List ℕ → List ℕ → Bool
differ a b c = not (bytes_eq a b) && not (bytes_eq a c) && not (bytes_eq b c)

-- a number is spelled by one to ten decimal digits, leading zeros allowed, and is at most a limit
abbrev pub all_digits : List ℕ → Bool
all_digits word = list_all is_digit word

abbrev pub is_short : List ℕ → Bool
is_short word = nat_lt 0 (length word) && nat_le (length word) 10

-- the number that decimal digits spell behind those of a number, where it is at most the limit
unfoldable pub number_onto : ℕ → ℕ → List ℕ → Option ℕ
number_onto most n [] = Some n
number_onto most n (c ∷ digits) = if nat_lt most (10 * n + (c - 48)) then None else number_onto most (10 * n + (c - 48)) digits

abbrev pub number_in : ℕ → List ℕ → Option ℕ
number_in most word = if is_short word && all_digits word then number_onto most 0 word else None

-- `build IN OUT MAP` and `build84 IN OUT MAP`, of three different names
abbrev pub build_of : Profile → List (List ℕ) → Option Form
build_of chip (a ∷ b ∷ c ∷ []) = if differ a b c then Some (Build (record { chip = chip; input = a; output = b; map = c })) else None
build_of chip _ = None

-- `trace IN SCRIPT M`, M up to 1,000,000
abbrev pub trace_of : List (List ℕ) → Option Form
trace_of (a ∷ b ∷ m ∷ []) = option_map (λ steps. Trace (record { input = a; script = b; steps = steps })) (number_in 1000000 m)
trace_of _ = None

-- `sim HEX MAP SCRIPT N` and `sim84 HEX MAP SCRIPT N`, N up to 1,000,000
abbrev pub simulate_of : Profile → List (List ℕ) → Option Form
simulate_of chip (a ∷ b ∷ c ∷ n ∷ []) = option_map (λ instructions. Simulate (record { chip = chip; hex = a; map = b; script = c; instructions = instructions })) (number_in 1000000 n)
simulate_of chip _ = None

-- `agree IN SCRIPT N`, N up to 100,000
abbrev pub agree_of : List (List ℕ) → Option Form
agree_of (a ∷ b ∷ n ∷ []) = option_map (λ instructions. Agree (record { input = a; script = b; instructions = instructions })) (number_in 100000 n)
agree_of _ = None

-- `gen K`, K from 1 to 64
abbrev pub from_one : Option ℕ → Option Form
from_one None = None
from_one (Some size) = if nat_lt 0 size then Some (Generate size) else None

abbrev pub generate_of : List (List ℕ) → Option Form
generate_of (k ∷ []) = from_one (number_in 64 k)
generate_of _ = None

-- `check HEX`
abbrev pub check_of : List (List ℕ) → Option Form
check_of (hex ∷ []) = Some (Check hex)
check_of _ = None

-- the form of words by the first of them
unfoldable pub form_by_name : List (List ℕ) → Option Form
form_by_name [] = None
form_by_name (command ∷ rest) =
    if bytes_eq command (codes "build") then build_of Pic16F877a rest else
    if bytes_eq command (codes "trace") then trace_of rest else
    if bytes_eq command (codes "sim") then simulate_of Pic16F877a rest else
    if bytes_eq command (codes "agree") then agree_of rest else
    if bytes_eq command (codes "gen") then generate_of rest else
    if bytes_eq command (codes "check") then check_of rest else
    if bytes_eq command (codes "build84") then build_of Pic16F84a rest else
    if bytes_eq command (codes "sim84") then simulate_of Pic16F84a rest else None

-- no word may be empty or begin with `-`
abbrev pub form_of : List (List ℕ) → Option Form
form_of words = if list_all is_name words then form_by_name words else None

-- a board is used by the forms that simulate alone
abbrev pub is_simulation : Option Form → Bool
is_simulation None = false
is_simulation (Some (Build names)) = false
is_simulation (Some (Trace asked)) = false
is_simulation (Some (Simulate asked)) = true
is_simulation (Some (Agree asked)) = false
is_simulation (Some (Generate size)) = false
is_simulation (Some (Check hex)) = false

abbrev pub words_of : List (String Global) → List (List ℕ)
words_of words = map string_bytes words
