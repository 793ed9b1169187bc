-- What can be read off the code of a routine: the words it takes, the labels it jumps to, and the bytes it names.
use Rattle.std.specs.Prelude.{◌≡◌, ℕ, ◌+◌, ◌<◌, ◌≤◌, nat_eq, Bool, true, false, not, ◌&&◌, ◌||◌, if◌then◌else◌, List, [], ◌∷◌, length, take, drop}
use Rattle.c_typed.specs.declared.calls.Helper.{Helper}
use Rattle.c_typed.specs.declared.calls.Helper.TheVariants.{Mul2, Mul4, Divu2, Divs2, Remu2, Rems2, Divu4, Divs4, Remu4, Rems4, Shl2, Shru2, Shrs2, Shl4, Shru4, Shrs4}
use Rattle.core_code.specs.declared.code.Byte.{Byte}
use Rattle.core_code.specs.declared.code.Byte.TheVariants as Byte
use Rattle.pic_world.specs.declared.Root.{Root}
use Rattle.sym_code.specs.declared.code.BitOperation.TheVariants.{Btfsc, Btfss}
use Rattle.sym_code.specs.declared.code.FileOperation.TheVariants.{Decfsz, Incfsz}
use Rattle.sym_code.specs.declared.code.Label.TheVariants as Label
use Rattle.sym_code.specs.declared.code.Literal.TheVariants as Literal
use Rattle.sym_code.specs.declared.code.LiteralOperation.TheVariants.{Movlw}
use Rattle.sym_code.specs.declared.code.Operand.{Operand}
use Rattle.sym_code.specs.declared.code.Operand.TheVariants as Operand
use Rattle.sym_code.specs.declared.code.PlainOperation.TheVariants.{Return}
use Rattle.sym_code.specs.declared.code.Register.TheVariants.{Status}
use Rattle.sym_code.specs.declared.code.Sym.{Sym}
use Rattle.sym_code.specs.declared.code.Sym.TheVariants as Sym
use Rattle.sym_code.specs.declared.code.Target.TheVariants as Target

-- ---- words
abbrev pub is_in_frame : Operand → Bool
is_in_frame (Operand.Byte (Byte.Frame copy offset)) = true
is_in_frame _ = false

abbrev pub accesses_frame : Sym → Bool
accesses_frame (Sym.File op file into) = is_in_frame file
accesses_frame (Sym.Movwf file) = is_in_frame file
accesses_frame (Sym.Clrf file) = is_in_frame file
accesses_frame (Sym.Bit op file bit) = is_in_frame file
accesses_frame _ = false

abbrev pub jumps : Sym → Bool
jumps (Sym.Goto target) = true
jumps _ = false

-- the selects of a bank or a page take two words at most, and are left out where the same was selected before
abbrev pub select_words : Bool → Bool → ℕ
select_words selected needed = if needed && not selected then 2 else 0

-- the words of code behind which the frame's bank and the block's page are selected or not; nothing is known at a label
abbrev pub words_from : Bool → Bool → List Sym → ℕ
words_from bank page [] = 0
words_from bank page (Sym.Label label ∷ rest) = words_from false false rest
words_from bank page (sym ∷ rest) =
    1 + select_words bank (accesses_frame sym) + select_words page (jumps sym)
    + words_from (bank || accesses_frame sym) (page || jumps sym) rest

-- the words of a block with all selects that it can need, at most
abbrev pub most_words : List Sym → ℕ
most_words list = words_from false false list

-- ---- prices
abbrev pub is_skip : Sym → Bool
is_skip (Sym.File Decfsz file into) = true
is_skip (Sym.File Incfsz file into) = true
is_skip (Sym.Bit Btfsc file bit) = true
is_skip (Sym.Bit Btfss file bit) = true
is_skip _ = false

-- A label, at which nothing is known; and a read of a table, which costs more than its word.
abbrev pub breaks : Sym → Bool
breaks (Sym.Label label) = true
breaks (Sym.Table table root) = true
breaks _ = false

-- Neither stands among the instructions, and the last of them isn't a skip, before which the selects of the following one
-- would stand.
abbrev pub is_straight : List Sym → Bool
is_straight [] = true
is_straight (Sym.Label label ∷ rest) = false
is_straight (Sym.Table table root ∷ rest) = false
is_straight (sym ∷ []) = not (is_skip sym)
is_straight (sym ∷ next ∷ rest) = is_straight (next ∷ rest)

-- the prices of so many instructions together, from this number on
abbrev pub sum_from : (ℕ → ℕ) → ℕ → List Sym → ℕ
sum_from price n [] = 0
sum_from price n (sym ∷ rest) = price n + sum_from price (n + 1) rest

-- Wherever some instructions stand one behind the other, they cost no more than their words with all selects that they
-- can need.
abbrev pub ArePriced : (ℕ → ℕ) → List Sym → Type 0
ArePriced price list = (n : ℕ) (part : List Sym) → take (length part) (drop n list) ≡ part → is_straight part ≡ true → sum_from price n part ≤ most_words part

-- ---- what is stated
-- the words of a routine
abbrev pub stated_words : Helper → ℕ
stated_words Mul2 = 90
stated_words Mul4 = 160
stated_words Divu2 = 180
stated_words Divs2 = 180
stated_words Remu2 = 180
stated_words Rems2 = 180
stated_words Divu4 = 320
stated_words Divs4 = 320
stated_words Remu4 = 320
stated_words Rems4 = 320
stated_words Shl2 = 50
stated_words Shru2 = 50
stated_words Shrs2 = 50
stated_words Shl4 = 70
stated_words Shru4 = 70
stated_words Shrs4 = 70

-- how many bytes of the right operand a routine is given: of a shift's count the lowest one
abbrev pub right_bytes : Helper → ℕ
right_bytes Mul2 = 2
right_bytes Mul4 = 4
right_bytes Divu2 = 2
right_bytes Divs2 = 2
right_bytes Remu2 = 2
right_bytes Rems2 = 2
right_bytes Divu4 = 4
right_bytes Divs4 = 4
right_bytes Remu4 = 4
right_bytes Rems4 = 4
right_bytes _ = 1

-- ---- labels
abbrev pub marks : List Sym → List ℕ
marks [] = []
marks (Sym.Label (Label.Inner n) ∷ rest) = n ∷ marks rest
marks (_ ∷ rest) = marks rest

abbrev pub is_among : List ℕ → ℕ → Bool
is_among [] n = false
is_among (m ∷ ms) n = nat_eq m n || is_among ms n

abbrev pub are_distinct : List ℕ → Bool
are_distinct [] = true
are_distinct (n ∷ ns) = not (is_among ns n) && are_distinct ns

-- each jump goes to one of these labels
abbrev pub jump_to : List ℕ → List Sym → Bool
jump_to labels [] = true
jump_to labels (Sym.Goto (Target.Label (Label.Inner n)) ∷ rest) = is_among labels n && jump_to labels rest
jump_to labels (Sym.Goto target ∷ rest) = false
jump_to labels (Sym.Call target ∷ rest) = false
jump_to labels (_ ∷ rest) = jump_to labels rest

-- no label stands twice, and each jump goes to one that stands there
abbrev pub is_closed : List Sym → Bool
is_closed list = are_distinct (marks list) && jump_to (marks list) list

-- ---- bytes
-- how many bytes the frame of a routine has
abbrev pub frame_size : Helper → ℕ
frame_size Mul2 = 8
frame_size Mul4 = 16
frame_size Divu2 = 8
frame_size Divs2 = 8
frame_size Remu2 = 8
frame_size Rems2 = 8
frame_size Divu4 = 16
frame_size Divs4 = 16
frame_size Remu4 = 16
frame_size Rems4 = 16
frame_size Shl2 = 4
frame_size Shru2 = 4
frame_size Shrs2 = 4
frame_size Shl4 = 8
frame_size Shru4 = 8
frame_size Shrs4 = 8

-- a byte of the copy's frame of so many bytes, or one of the root's four result bytes
abbrev pub IsOwnByte : Root → ℕ → ℕ → Byte → Type 0
IsOwnByte root copy size (Byte.Frame c offset) = (c ≡ copy) × (offset < size)
IsOwnByte root copy size (Byte.Result r k) = (r ≡ root) × (k < 4)
IsOwnByte root copy size _ = ⊥

abbrev pub IsOwnOperand : Root → ℕ → ℕ → Operand → Type 0
IsOwnOperand root copy size (Operand.Byte byte) = IsOwnByte root copy size byte
IsOwnOperand root copy size _ = ⊥

-- An instruction that names no other byte, and of the chip's registers at most a flag of STATUS; one that returns, or
-- jumps within the block; or a label.
abbrev pub IsOwn : Root → ℕ → ℕ → Sym → Type 0
IsOwn root copy size (Sym.File op file into) = IsOwnOperand root copy size file
IsOwn root copy size (Sym.Movwf file) = IsOwnOperand root copy size file
IsOwn root copy size (Sym.Clrf file) = IsOwnOperand root copy size file
IsOwn root copy size (Sym.Bit op (Operand.Register register) bit) = (register ≡ Status) × (bit < 3)
IsOwn root copy size (Sym.Bit op file bit) = IsOwnOperand root copy size file
IsOwn root copy size (Sym.Literal op (Literal.Number n)) = op ≡ Movlw
IsOwn root copy size (Sym.Plain op) = op ≡ Return
IsOwn root copy size (Sym.Goto (Target.Label (Label.Inner n))) = Unit {0}
IsOwn root copy size (Sym.Label (Label.Inner n)) = Unit {0}
IsOwn root copy size _ = ⊥
