-- math_helpers' Layouts, Pieces and Routines. A layout says where byte k of each value stands.
use Rattle.std.specs.Prelude.{◌≡◌, ℕ, zero, suc, ◌-◌, ◌*◌, ◌<◌, nat_eq, if◌then◌else◌, List, [], ◌∷◌, ◌++◌}
use Rattle.sym_code.specs.declared.code.FileOperation.{FileOperation}
use Rattle.sym_code.specs.declared.code.FileOperation.TheVariants.{Addwf, Subwf, Movf, Incfsz, Decfsz, Rlf, Rrf, Comf, Incf, Xorwf}
use Rattle.select_trace.specs.Run.{Sym, Row, Movwf, Clrf, Test, Flag, Movlw, Goto, Label}
use Rattle.sym_code.specs.declared.code.Into.TheVariants.{W, File}
use Rattle.sym_code.specs.declared.code.BitOperation.{BitOperation}
use Rattle.sym_code.specs.declared.code.BitOperation.TheVariants.{Bcf, Bsf, Btfsc, Btfss}

pub data Value : Type 0 where
  Left : Value
  Right : Value
  Remainder : Value
  Spare : Value
  Answer : Value

pub record Layout : Type 0 where
  pub width : ℕ
  pub at : Value → ℕ → ℕ

pub data Step : Type 0 where
  Clear : Value → Step
  Answers : Value → Step
  ShiftLeft : Value → Step
  ShiftRight : Step
  Add : Step
  Compare : Step
  Subtract : Step
  Invert : Value → Step
  Increment : Value → Step

abbrev pub to_file : FileOperation → ℕ → Sym
to_file op file = Row op file File

abbrev pub to_w : FileOperation → ℕ → Sym
to_w op file = Row op file W

abbrev pub right_byte : Layout → BitOperation → ℕ → List Sym
right_byte l unless k = to_w Movf (l.at Right k) ∷ (if nat_eq k 0 then [] else Flag unless 0 ∷ to_w Incfsz (l.at Right k) ∷ [])

abbrev pub step_code : Layout → Step → ℕ → List Sym
step_code l (Clear v) k = Clrf (l.at v k) ∷ []
step_code l (Answers v) k = to_w Movf (l.at v k) ∷ Movwf (l.at Answer k) ∷ []
step_code l (ShiftLeft v) k = to_file Rlf (l.at v k) ∷ []
step_code l ShiftRight k = to_file Rrf (l.at Answer (l.width - 1 - k)) ∷ []
step_code l Add k = right_byte l Btfsc k ++ to_file Addwf (l.at Answer k) ∷ []
step_code l Compare k = right_byte l Btfss k ++ to_w Subwf (l.at Remainder k) ∷ []
step_code l Subtract k = right_byte l Btfss k ++ to_file Subwf (l.at Remainder k) ∷ []
step_code l (Invert v) k = to_file Comf (l.at v k) ∷ []
step_code l (Increment v) k = (if nat_eq k 0 then [] else Flag Btfsc 2 ∷ []) ++ to_file Incf (l.at v k) ∷ []

abbrev pub each_byte : Layout → Step → ℕ → List Sym
each_byte l step zero = []
each_byte l step (suc k) = each_byte l step k ++ step_code l step k

abbrev pub each : Layout → Step → List Sym
each l step = each_byte l step l.width

abbrev pub bits_of : Layout → ℕ
bits_of l = 8 * l.width

abbrev pub rounds_code : Layout → List Sym
rounds_code l = Movlw (bits_of l) ∷ Movwf (l.at Spare 0) ∷ []

abbrev pub round_end_code : Layout → Value → ℕ → List Sym
round_end_code l counter label = to_file Decfsz (l.at counter 0) ∷ Goto label ∷ []

-- what a round of a product does before its end
abbrev pub product_round : Layout → List Sym
product_round l =
    Flag Bcf 0 ∷ []
    ++ each l (ShiftLeft Answer) ++ each l (ShiftLeft Left) ++ Flag Btfss 0 ∷ Goto 1 ∷ []
    ++ each l Add ++ Label 1 ∷ []

abbrev pub negate_if_code : Layout → ℕ → Value → ℕ → List Sym
negate_if_code l sign value label =
    Test Btfss sign 7 ∷ Goto label ∷ [] ++ each l (Invert value) ++ each l (Increment value) ++ Label label ∷ []

abbrev pub take_off_code : Layout → List Sym
take_off_code l =
    Flag Btfsc 0 ∷ Goto 1 ∷ [] ++ each l Compare ++ Flag Btfss 0 ∷ Goto 2 ∷ Label 1 ∷ []
    ++ each l Subtract ++ Flag Bsf 0 ∷ Label 2 ∷ []

-- what a round of a division does before its end
abbrev pub divide_round : Layout → List Sym
divide_round l = each l (ShiftLeft Left) ++ each l (ShiftLeft Remainder) ++ take_off_code l

-- no two bytes are one
pub record AreApart (l : Layout) : Type 0 where
  pub within : (v : Value) (j k : ℕ) → j < k → k < l.width → l.at v j ≡ l.at v k → ⊥
  pub between : (v u : Value) → (v ≡ u → ⊥) → (j k : ℕ) → j < l.width → k < l.width → l.at v j ≡ l.at u k → ⊥

pub data Direction : Type 0 where
  Leftward : Direction
  Rightward : Direction
  SignedRightward : Direction

abbrev pub one_bit_code : Layout → Direction → List Sym
one_bit_code l Leftward = Flag Bcf 0 ∷ [] ++ each l (ShiftLeft Answer)
one_bit_code l Rightward = Flag Bcf 0 ∷ [] ++ each l ShiftRight
one_bit_code l SignedRightward = to_w Rlf (l.at Answer (l.width - 1)) ∷ [] ++ each l ShiftRight

pub data Part : Type 0 where
  Quotient : Part
  Rest : Part

abbrev pub part_value : Part → Value
part_value Quotient = Left
part_value Rest = Remainder

-- bit 7 of the sign becomes that of the answer
abbrev pub sign_code : Layout → Part → List Sym
sign_code l Quotient = to_w Movf (l.at Left (l.width - 1)) ∷ to_w Xorwf (l.at Right (l.width - 1)) ∷ Movwf (l.at Spare 1) ∷ []
sign_code l Rest = to_w Movf (l.at Left (l.width - 1)) ∷ Movwf (l.at Spare 1) ∷ []

abbrev pub magnitudes_code : Layout → List Sym
magnitudes_code l =
    negate_if_code l (l.at Left (l.width - 1)) Left 3
    ++ negate_if_code l (l.at Right (l.width - 1)) Right 4
