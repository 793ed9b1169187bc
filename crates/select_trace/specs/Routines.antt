-- math_helpers' routines, word for word.
use Rattle.std.specs.Prelude.{List, [], ◌∷◌, ◌++◌}
use Rattle.sym_code.specs.declared.code.FileOperation.TheVariants.{Movf}
use Rattle.select_trace.specs.Run.{Sym, Flag, Return, Goto, Label}
use Rattle.sym_code.specs.declared.code.BitOperation.TheVariants.{Bcf, Btfsc, Btfss}
use Rattle.select_trace.specs.Helpers.{Layout, Left, Right, Remainder, Spare, Answer, Clear, Answers, ShiftLeft, Add, each, to_file, rounds_code, round_end_code, take_off_code, negate_if_code, Part, part_value, sign_code, magnitudes_code, Direction, one_bit_code}

abbrev pub product_code : Layout → List Sym
product_code l =
    each l (Clear Answer) ++ rounds_code l ++ Label 0 ∷ Flag Bcf 0 ∷ []
    ++ each l (ShiftLeft Answer) ++ each l (ShiftLeft Left) ++ Flag Btfss 0 ∷ Goto 1 ∷ []
    ++ each l Add ++ Label 1 ∷ [] ++ round_end_code l Spare 0 ++ Return ∷ []

abbrev pub divide_code : Layout → List Sym
divide_code l =
    each l (Clear Remainder) ++ rounds_code l ++ Label 0 ∷ []
    ++ each l (ShiftLeft Left) ++ each l (ShiftLeft Remainder) ++ take_off_code l
    ++ round_end_code l Spare 0 ++ each l (ShiftLeft Left)

abbrev pub division_code : Layout → Part → List Sym
division_code l part = divide_code l ++ each l (Answers (part_value part)) ++ Return ∷ []

abbrev pub signed_division_code : Layout → Part → List Sym
signed_division_code l part =
    sign_code l part ++ magnitudes_code l ++ divide_code l
    ++ negate_if_code l (l.at Spare 1) (part_value part) 5 ++ each l (Answers (part_value part)) ++ Return ∷ []

abbrev pub shift_code : Layout → Direction → List Sym
shift_code l direction =
    each l (Answers Left) ++ to_file Movf (l.at Right 0) ∷ Flag Btfsc 2 ∷ Return ∷ Label 0 ∷ []
    ++ one_bit_code l direction ++ round_end_code l Right 0 ++ Return ∷ []
