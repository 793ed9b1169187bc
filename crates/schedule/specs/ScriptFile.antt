-- Which texts are script files, and of which content. This format is the project's own.
use Rattle.std.specs.Prelude.{◌≡◌, ℕ, ◌+◌, ◌-◌, ◌*◌, ◌<◌, ◌≤◌, ◌^◌, ◌&&◌, Bool, nat_le, Option, Some, None, List, [], ◌∷◌, ◌++◌, length, codes}
use Rattle.std.specs.List.{AllPass}
use Rattle.text_lines.specs.Text.{lines_of, digit_value}
use Rattle.pic_world.specs.declared.Arrival.{Arrival}
use Rattle.pic_world.specs.declared.Flag.{Flag}
use Rattle.pic_world.specs.declared.Flag.TheVariants.{Rbif, Intf, Tmr0if, Tmr1if, Tmr2if, Ccp1if, Sspif, Txif, Rcif, Adif, Pspif}
use Rattle.pic_world.specs.declared.script.Script.{Script}
use Rattle.pic_world.specs.Arrivals.{IsRising}

-- the bytes that reads of device registers take, and the flags that arrive, in order
pub record ScriptContent : Type 0 where
  pub input : List ℕ
  pub arrivals : List Arrival

abbrev pub content_of : Script → ScriptContent
content_of s = record { input = s.input.items; arrivals = s.arrivals.items }

-- the byte that two hexadecimal digits of either case spell
abbrev pub paired : Option ℕ → Option ℕ → Option ℕ
paired (Some high) (Some low) = Some (16 * high + low)
paired _ _ = None

abbrev pub byte_value : ℕ → ℕ → Option ℕ
byte_value high low = paired (digit_value high) (digit_value low)

-- each byte as a space and two digits
abbrev pub AreBytes : List ℕ → List ℕ → Type 0
AreBytes [] [] = Unit {0}
AreBytes (space ∷ high ∷ low ∷ tail) (byte ∷ bytes) = (space ≡ 32) × (byte_value high low ≡ Some byte) × AreBytes tail bytes
AreBytes _ _ = ⊥

abbrev pub is_digit : ℕ → Bool
is_digit c = nat_le 48 c && nat_le c 57

-- the number that decimal digits spell behind those of a number
unfoldable pub number_onto : ℕ → List ℕ → ℕ
number_onto n [] = n
number_onto n (c ∷ digits) = number_onto (10 * n + (c - 48)) digits

-- one to ten decimal digits, leading zeros allowed
pub record IsTime (digits : List ℕ) (t : ℕ) : Type 0 where
  pub some : 0 < length digits
  pub most : length digits ≤ 10
  pub all : AllPass is_digit digits
  pub value : number_onto 0 digits ≡ t
  pub within : t < 2 ^ 32

-- a flag's name, behind a space
abbrev pub flag_word : Flag → List ℕ
flag_word Rbif = codes " RBIF"
flag_word Intf = codes " INTF"
flag_word Tmr0if = codes " TMR0IF"
flag_word Tmr1if = codes " TMR1IF"
flag_word Tmr2if = codes " TMR2IF"
flag_word Ccp1if = codes " CCP1IF"
flag_word Sspif = codes " SSPIF"
flag_word Txif = codes " TXIF"
flag_word Rcif = codes " RCIF"
flag_word Adif = codes " ADIF"
flag_word Pspif = codes " PSPIF"

-- what a line tells
pub data Piece : Type 0 where
  Blank : Piece
  Input : List ℕ → Piece
  At : Arrival → Piece

abbrev pub IsLine : List ℕ → Piece → Type 0
IsLine line Blank = line ≡ []
IsLine line (Input bytes) = (tail : List ℕ) × (line ≡ codes "input" ++ tail) × AreBytes tail bytes
IsLine line (At arrival) = (digits : List ℕ) × (line ≡ codes "at " ++ (digits ++ flag_word arrival.flag)) × IsTime digits arrival.t

abbrev pub AreLines : List (List ℕ) → List Piece → Type 0
AreLines [] [] = Unit {0}
AreLines (line ∷ lines) (piece ∷ pieces) = IsLine line piece × AreLines lines pieces
AreLines _ _ = ⊥

-- the bytes of all input lines, joined
abbrev pub inputs_of : List Piece → List ℕ
inputs_of [] = []
inputs_of (Blank ∷ pieces) = inputs_of pieces
inputs_of (Input bytes ∷ pieces) = bytes ++ inputs_of pieces
inputs_of (At arrival ∷ pieces) = inputs_of pieces

abbrev pub arrivals_of : List Piece → List Arrival
arrivals_of [] = []
arrivals_of (Blank ∷ pieces) = arrivals_of pieces
arrivals_of (Input bytes ∷ pieces) = arrivals_of pieces
arrivals_of (At arrival ∷ pieces) = arrival ∷ arrivals_of pieces

pub record AreScriptLines (lines : List (List ℕ)) (content : ScriptContent) : Type 0 where
  pub pieces : List Piece
  pub tell : AreLines lines pieces
  pub input : content.input ≡ inputs_of pieces
  pub arrivals : content.arrivals ≡ arrivals_of pieces
  pub rising : IsRising 0 (arrivals_of pieces)

abbrev pub IsScriptFile : List ℕ → ScriptContent → Type 0
IsScriptFile text content = AreScriptLines (lines_of text) content

-- ---- where a text first goes wrong
-- Line `number`, counted from 1, is the first that is wrong: the lines before it are a script file, and with it
-- they are none.
pub record IsFirstBadLine (text : List ℕ) (number : ℕ) : Type 0 where
  pub before : List (List ℕ)
  pub line : List ℕ
  pub rest : List (List ℕ)
  pub split : lines_of text ≡ before ++ line ∷ rest
  pub place : number ≡ length before + 1
  pub good : (content : ScriptContent) × AreScriptLines before content
  pub bad : (content : ScriptContent) → AreScriptLines (before ++ line ∷ []) content → ⊥
