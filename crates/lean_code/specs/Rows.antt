-- Code of which some instructions are left out or become others, with what is known at each: what a pass that makes code smaller
-- has to show.
use Rattle.std.specs.Prelude.{ℕ, ◌-◌, suc, zero, Bool, true, false, not, if◌then◌else◌, List, [], ◌∷◌, Option, Some, None}
use Rattle.core_code.specs.declared.code.Byte.{Byte}
use Rattle.core_code.specs.declared.code.Byte.TheVariants as bytes
use Rattle.sym_code.specs.Effect.{Setting}
use Rattle.sym_code.specs.Layout.{DataLayout}
use Rattle.sym_code.specs.Programs.{Program, no_tables, labels_in_front}
use Rattle.sym_code.specs.Registers.{no_leaves}
use Rattle.sym_code.specs.declared.code.BitOperation.{BitOperation}
use Rattle.sym_code.specs.declared.code.BitOperation.TheVariants as bit_ops
use Rattle.sym_code.specs.declared.code.BlockName.{BlockName}
use Rattle.sym_code.specs.declared.code.Into.TheVariants as into
use Rattle.sym_code.specs.declared.code.Literal.TheVariants.{Number}
use Rattle.sym_code.specs.declared.code.LiteralOperation.{LiteralOperation}
use Rattle.sym_code.specs.declared.code.Operand.{Operand}
use Rattle.sym_code.specs.declared.code.Operand.TheVariants as operands
use Rattle.sym_code.specs.declared.code.Register.TheVariants.{Status}
use Rattle.sym_code.specs.declared.code.Sym.{Sym}
use Rattle.sym_code.specs.declared.code.Sym.TheVariants as syms

-- ---- what is known
-- What is true of the machine that runs the given code.
pub record Facts : Type 0 where
  -- W is this number
  pub number : Option ℕ
  -- W is what this general byte holds
  pub held : ℕ → Bool
  -- Z says whether W is 0
  pub zero : Bool
  -- the general byte holds this number
  pub known : ℕ → Option ℕ
  -- the first general byte holds what the second one does, of which it is a copy
  pub twin : ℕ → ℕ → Bool
  -- C is 0 or 1
  pub carry_bit : Bool
  -- so is Z
  pub zero_bit : Bool

-- What may differ between the two machines: W, the flags, general bytes.
pub record Apart : Type 0 where
  pub w : Bool
  pub z : Bool
  pub dc : Bool
  pub c : Bool
  pub bytes : ℕ → Bool

-- a flag that a comparison leaves
pub data FlagName : Type 0 where
  Carry : FlagName
  Zero : FlagName

-- What a flag of the machine that runs the code that is made tells.
pub data Shown : Type 0 where
  Unshown : Shown
  -- it is set, or it isn't
  Sees : FlagName → Bool → Shown
  -- Z says whether W of the same machine is 0
  Reports : Shown
  -- W of the other machine is the first number where it is set, and else the second one
  Chooses : FlagName → ℕ → ℕ → Shown

pub record Note : Type 0 where
  pub facts : Facts
  pub apart : Apart
  -- W of the machine that runs the code that is made is what this byte holds for the other one
  pub carry : Option ℕ
  pub shown : Shown

abbrev pub nothing_known : Facts
nothing_known = record { number = None; held = λ a. false; zero = false; known = λ a. None; twin = λ a b. false; carry_bit = false; zero_bit = false }

-- ---- rows
-- what becomes of an instruction
pub data Act : Type 0 where
  Keeps : Act
  Drops : Act
  -- an operation on W and a number stands in its place
  Puts : LiteralOperation → ℕ → Act
  -- its result goes to W
  Narrows : Act
  -- the byte is cleared in which it stores W
  Clears : Act
  -- another byte of its frame is read, so many bytes before its own, and the result goes to W
  Reads : ℕ → Act
  -- a flag is tested in the place of Z, or its opposite
  Tests : FlagName → Bool → Act

-- an instruction of the given code, and what is known before it; none where nothing comes there
pub data Row : Type 0 where
  At : Sym → Act → Option Note → Row

abbrev pub old_of : Row → Sym
old_of (At s act said) = s

abbrev pub note_of : Row → Option Note
note_of (At s act said) = said

abbrev pub has_note : Option Note → Bool
has_note None = false
has_note (Some n) = true

-- something may come there
abbrev pub is_reached : Row → Bool
is_reached row = has_note (note_of row)

-- the given code
abbrev pub olds : List Row → List Sym
olds [] = []
olds (row ∷ rows) = old_of row ∷ olds rows

-- an operation on a byte whose result goes to W
abbrev pub narrowed : Sym → Sym
narrowed (syms.File op operand to) = syms.File op operand into.W
narrowed s = s

-- A byte that may be cleared: on a device register CLRF could be taken for a read.
abbrev pub may_clear : Operand → Bool
may_clear (operands.Byte (bytes.Device address)) = false
may_clear (operands.Byte byte) = true
may_clear operand = false

-- the byte is cleared in which W is stored
abbrev pub cleared : Sym → Sym
cleared (syms.Movwf operand) = syms.Clrf operand
cleared s = s

-- the byte so many bytes before it in its frame
abbrev pub byte_before : ℕ → Byte → Byte
byte_before n (bytes.Frame copy offset) = bytes.Frame copy (offset - n)
byte_before n byte = byte

abbrev pub operand_before : ℕ → Operand → Operand
operand_before n (operands.Byte byte) = operands.Byte (byte_before n byte)
operand_before n operand = operand

-- an operation on that byte, or a test of it
abbrev pub reads_before : ℕ → Sym → Sym
reads_before n (syms.File op operand to) = syms.File op (operand_before n operand) into.W
reads_before n (syms.Bit op operand bit) = syms.Bit op (operand_before n operand) bit
reads_before n s = s

abbrev pub bit_of : FlagName → ℕ
bit_of Carry = 0
bit_of Zero = 2

-- the opposite test
abbrev pub turned_by : Bool → BitOperation → BitOperation
turned_by true bit_ops.Btfsc = bit_ops.Btfss
turned_by true bit_ops.Btfss = bit_ops.Btfsc
turned_by turned op = op

-- a test of that flag
abbrev pub tests_flag : FlagName → Bool → Sym → Sym
tests_flag flag turned (syms.Bit op operand bit) = syms.Bit (turned_by turned op) (operands.Register Status) (bit_of flag)
tests_flag flag turned s = s

-- a label always stays
abbrev pub put_of : Sym → Act → Option Sym
put_of (syms.Label label) act = Some (syms.Label label)
put_of s Keeps = Some s
put_of s Drops = None
put_of s (Puts op n) = Some (syms.Literal op (Number n))
put_of s Narrows = Some (narrowed s)
put_of s Clears = Some (cleared s)
put_of s (Reads n) = Some (reads_before n s)
put_of s (Tests flag turned) = Some (tests_flag flag turned s)

abbrev pub in_front : Option Sym → List Sym → List Sym
in_front None list = list
in_front (Some s) list = s ∷ list

abbrev pub put_by : Row → Option Sym
put_by (At s act said) = put_of s act

-- the code that is made
abbrev pub puts : List Row → List Sym
puts [] = []
puts (row ∷ rows) = in_front (put_by row) (puts rows)

abbrev pub is_label : Sym → Bool
is_label (syms.Label label) = true
is_label _ = false

abbrev pub is_none : Option Sym → Bool
is_none None = true
is_none (Some s) = false

abbrev pub is_dropped : Row → Bool
is_dropped row = is_none (put_by row)

-- ---- places
-- The number, in the code that is made, of the first instruction that comes from an index or from behind it.
abbrev pub place_in : List Row → ℕ → ℕ
place_in [] j = j
place_in (row ∷ rows) zero = labels_in_front (puts (row ∷ rows))
place_in (row ∷ rows) (suc j) = if is_dropped row then place_in rows j else suc (place_in rows j)

-- what is known where the code goes on at the front of a list, behind the labels there; none where no instruction stands
abbrev pub note_ahead : List Row → Option (Option Note)
note_ahead [] = None
note_ahead (row ∷ rows) = if is_label (old_of row) then note_ahead rows else Some (note_of row)

-- the list behind its first instruction
abbrev pub past : List Row → List Row
past [] = []
past (row ∷ rows) = if is_label (old_of row) then past rows else rows

-- the first instruction of the list is left out; and an instruction that is made stands in it
abbrev pub drops_first : List Row → Bool
drops_first [] = false
drops_first (row ∷ rows) = if is_label (old_of row) then drops_first rows else is_dropped row

abbrev pub keeps_first : List Row → Bool
keeps_first [] = false
keeps_first (row ∷ rows) = if is_label (old_of row) then keeps_first rows else not (is_dropped row)

abbrev pub goes_on : List Row → Bool
goes_on [] = false
goes_on (row ∷ rows) = if is_label (old_of row) then goes_on rows else (if is_dropped row then goes_on rows else true)

-- ---- programs
pub record Lean : Type 0 where
  pub rows : BlockName → List Row
  pub handler : Option ℕ
  pub layout : DataLayout
  pub limit : Bool → ℕ
  -- pages don't count: selects come later
  pub old_page : BlockName → ℕ
  pub new_page : BlockName → ℕ
  -- the block runs inside the handler
  pub inside : BlockName → Bool
  -- what is known where a block returns
  pub ends : BlockName → Note
  -- bytes that may differ in the functions that wait for a block
  pub outer : BlockName → ℕ → Bool
  -- bytes of the handler's that may differ while it doesn't run
  pub rest : ℕ → Bool
  -- bytes that are never read or written through FSR
  pub hidden : ℕ → Bool

abbrev pub old_program : Lean → Program
old_program x = record { block = λ name. olds (x.rows name); handler = x.handler; layout = x.layout; tables = no_tables }

abbrev pub new_program : Lean → Program
new_program x = record { block = λ name. puts (x.rows name); handler = x.handler; layout = x.layout; tables = no_tables }

abbrev pub old_setting : Lean → Setting
old_setting x = record { program = old_program x; banked = false; page_of = x.old_page; limit = x.limit; leaves = no_leaves }

abbrev pub new_setting : Lean → Setting
new_setting x = record { program = new_program x; banked = false; page_of = x.new_page; limit = x.limit; leaves = no_leaves }
