-- The emitted code: select_wide's Pieces, Sums, .. and math_helpers' Pieces and Routines, over operands that are functions
-- from the number of a byte to the general byte that it is.
use Rattle.std.specs.Prelude.{ℕ, zero, suc, ◌+◌, ◌-◌, ◌/◌, ◌%◌, nat_eq, Bool, true, false, cond, ◌&&◌, if◌then◌else◌, List, [], ◌∷◌, ◌++◌}
use Rattle.sym_code.specs.declared.code.FileOperation.{FileOperation}
use Rattle.sym_code.specs.declared.code.FileOperation.TheVariants.{Addwf, Subwf, Movf, Incfsz, Xorwf, Iorwf, Comf, Incf, Rlf, Rrf}
use Rattle.select_trace.specs.Run.{Sym, Row, Movwf, Clrf, Test, Movlw, Addlw, Xorlw, Clrw, Flag}
use Rattle.sym_code.specs.declared.code.Into.{Into}
use Rattle.sym_code.specs.declared.code.Into.TheVariants.{W, File}
use Rattle.sym_code.specs.declared.code.BitOperation.{BitOperation}
use Rattle.sym_code.specs.declared.code.BitOperation.TheVariants.{Bcf, Btfsc, Btfss}

abbrev pub Operand : Type 0
Operand = ℕ → ℕ

abbrev pub rising : (ℕ → List Sym) → ℕ → List Sym
rising code zero = []
rising code (suc k) = rising code k ++ code k

abbrev pub file_code : FileOperation → ℕ → Into → List Sym
file_code op byte into = Row op byte into ∷ []

abbrev pub store_code : ℕ → List Sym
store_code byte = Movwf byte ∷ []

abbrev pub flag_code : BitOperation → ℕ → List Sym
flag_code op flag = Flag op flag ∷ []

abbrev pub copy_code : ℕ → ℕ → List Sym
copy_code to from = file_code Movf from W ++ store_code to

abbrev pub pair_code : FileOperation → ℕ → ℕ → Into → List Sym
pair_code op left right into = file_code Movf right W ++ file_code op left into

-- ---- sums and differences
pub data Chain : Type 0 where
  Sum : Chain
  Difference : Chain

abbrev pub chain_operation : Chain → FileOperation
chain_operation Sum = Addwf
chain_operation Difference = Subwf

abbrev pub unless_carried : Chain → BitOperation
unless_carried Sum = Btfsc
unless_carried Difference = Btfss

abbrev pub further_code : Chain → ℕ → ℕ → Into → List Sym
further_code chain left right into = file_code Movf right W ++ flag_code (unless_carried chain) 0 ++ file_code Incfsz right W ++ file_code (chain_operation chain) left into

abbrev pub link_code : Chain → Operand → Operand → Into → ℕ → List Sym
link_code chain left right into k = if nat_eq k 0 then pair_code (chain_operation chain) (left 0) (right 0) into else further_code chain (left k) (right k) into

abbrev pub apart_code : Chain → Operand → Operand → Operand → ℕ → List Sym
apart_code chain to left right k = if nat_eq k 0 then pair_code (chain_operation chain) (left 0) (right 0) W ++ store_code (to 0) else copy_code (to k) (left k) ++ further_code chain (to k) (right k) File

-- ---- comparisons
abbrev pub number_code : ℕ → List Sym
number_code value = Movlw value ∷ []

abbrev pub bit_code : BitOperation → ℕ → ℕ → List Sym
bit_code op byte bit = Test op byte bit ∷ []

-- frames' and results' bytes are cleared by CLRF; of others an access is an event
abbrev pub set_code : Bool → ℕ → ℕ → List Sym
set_code clearable to value = cond (nat_eq value 0 && clearable) (Clrf to ∷ []) (number_code value ++ store_code to)

-- C becomes 1 where W isn't 0, and 0 where it is
abbrev pub nonzero_code : List Sym
nonzero_code = Addlw 255 ∷ []

abbrev pub choice_code : ℕ → BitOperation → ℕ → ℕ → List Sym
choice_code usual test flag other = number_code usual ++ flag_code test flag ++ number_code other

abbrev pub truth_code : Bool → Operand → List Sym
truth_code clearable to = store_code (to 0) ++ set_code clearable (to 1) 0

abbrev pub difference_bits_code : Operand → Operand → Operand → ℕ → List Sym
difference_bits_code to left right k = pair_code Xorwf (left k) (right k) W ++ (if nat_eq k 0 then store_code (to 0) else file_code Iorwf (to 0) File)

abbrev pub differences_code : Operand → Operand → Operand → ℕ → List Sym
differences_code to left right width = rising (difference_bits_code to left right) width

abbrev pub equality_code : Bool → ℕ → Operand → Operand → Operand → ℕ → List Sym
equality_code clearable usual to left right width = differences_code to left right width ++ choice_code usual Btfsc 2 (1 - usual) ++ truth_code clearable to

abbrev pub turn_code : ℕ → List Sym
turn_code top = bit_code Btfsc top 7 ++ (Xorlw 1 ∷ [])

abbrev pub signs_code : Bool → ℕ → ℕ → List Sym
signs_code signed left right = if signed then turn_code left ++ turn_code right else []

abbrev pub links_code : Operand → Operand → ℕ → List Sym
links_code left right width = rising (link_code Difference left right W) width

abbrev pub order_code : Bool → Bool → ℕ → Operand → Operand → Operand → ℕ → List Sym
order_code clearable signed usual to left right width = links_code left right width ++ choice_code usual Btfss 0 (1 - usual) ++ signs_code signed (left (width - 1)) (right (width - 1)) ++ truth_code clearable to

-- ---- operators on one value
abbrev pub complement_code : Operand → ℕ → List Sym
complement_code at width = rising (λ k. file_code Comf (at k) File) width

abbrev pub increment_byte_code : Operand → ℕ → List Sym
increment_byte_code at k = (if nat_eq k 0 then [] else flag_code Btfsc 2) ++ file_code Incf (at k) File

abbrev pub increment_code : Operand → ℕ → List Sym
increment_code at width = rising (increment_byte_code at) width

abbrev pub ors_code : Operand → ℕ → List Sym
ors_code first zero = []
ors_code first (suc k) = ors_code first k ++ file_code Iorwf (first (suc k)) W

abbrev pub test_code : Operand → ℕ → List Sym
test_code test zero = Clrw ∷ []
test_code test (suc k) = file_code Movf (test 0) W ++ ors_code test k

abbrev pub bang_code : Bool → Operand → ℕ → List Sym
bang_code clearable at width = test_code at width ++ nonzero_code ++ choice_code 0 Btfss 0 1 ++ truth_code clearable at

-- ---- widening
abbrev pub behind : Operand → ℕ → Operand
behind at offset k = at (offset + k)

abbrev pub sign_code : ℕ → List Sym
sign_code top = number_code 0 ++ bit_code Btfsc top 7 ++ number_code 255

abbrev pub stores_code : Operand → ℕ → List Sym
stores_code to count = rising (λ k. store_code (to k)) count

abbrev pub clears_code : Bool → Operand → ℕ → List Sym
clears_code clearable to count = rising (λ k. set_code clearable (to k) 0) count

-- from so many bytes to others
abbrev pub widening_code : Bool → Bool → Operand → ℕ → ℕ → List Sym
widening_code clearable signed at from to = if signed then sign_code (at (from - 1)) ++ stores_code (behind at from) (to - from) else clears_code clearable (behind at from) (to - from)

-- ---- bit operations
abbrev pub bits_code : FileOperation → Bool → Operand → Operand → Operand → ℕ → List Sym
bits_code op in_place to left right width = rising (λ k. if in_place then pair_code op (left k) (right k) File else pair_code op (left k) (right k) W ++ store_code (to k)) width

-- ---- shifts by constants
pub data Way : Type 0 where
  Left : Way
  Right : Way
  SignedRight : Way

abbrev pub copies_code : Operand → Operand → ℕ → List Sym
copies_code to from count = rising (λ k. copy_code (to k) (from k)) count

abbrev pub raised_code : Operand → ℕ → ℕ → List Sym
raised_code at width bytes = rising (λ k. copy_code (at (width - 1 - k)) (at (width - 1 - k - bytes))) (width - bytes)

abbrev pub bytes_up_code : Bool → Operand → ℕ → ℕ → List Sym
bytes_up_code clearable at width bytes = raised_code at width bytes ++ clears_code clearable at bytes

abbrev pub bytes_down_code : Bool → Bool → Operand → ℕ → ℕ → List Sym
bytes_down_code clearable signed at width bytes = copies_code at (behind at bytes) (width - bytes) ++ (if signed then sign_code (at (width - bytes - 1)) ++ stores_code (behind at (width - bytes)) bytes else clears_code clearable (behind at (width - bytes)) bytes)

abbrev pub bytes_way_code : Bool → Way → Operand → ℕ → ℕ → List Sym
bytes_way_code clearable Left at width bytes = bytes_up_code clearable at width bytes
bytes_way_code clearable Right at width bytes = bytes_down_code clearable false at width bytes
bytes_way_code clearable SignedRight at width bytes = bytes_down_code clearable true at width bytes

abbrev pub bytes_code : Bool → Way → Operand → ℕ → ℕ → List Sym
bytes_code clearable way at width bytes = if nat_eq bytes 0 then [] else bytes_way_code clearable way at width bytes

abbrev pub bit_up_code : Operand → ℕ → List Sym
bit_up_code at count = rising (λ k. file_code Rlf (at k) File) count

abbrev pub bit_down_code : Operand → ℕ → List Sym
bit_down_code at count = rising (λ k. file_code Rrf (at (count - 1 - k)) File) count

abbrev pub bit_shift_code : Way → Operand → ℕ → ℕ → List Sym
bit_shift_code Left at width bytes = flag_code Bcf 0 ++ bit_up_code (behind at bytes) (width - bytes)
bit_shift_code Right at width bytes = flag_code Bcf 0 ++ bit_down_code at (width - bytes)
bit_shift_code SignedRight at width bytes = file_code Rlf (at (width - bytes - 1)) W ++ bit_down_code at (width - bytes)

abbrev pub bit_shifts_code : Way → Operand → ℕ → ℕ → ℕ → List Sym
bit_shifts_code way at width bytes count = rising (λ k. bit_shift_code way at width bytes) count

abbrev pub in_place_code : Bool → Way → Operand → ℕ → ℕ → List Sym
in_place_code clearable way at width count = bytes_code clearable way at width (count / 8) ++ bit_shifts_code way at width (count / 8) (count % 8)
