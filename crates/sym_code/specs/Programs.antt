-- Programs of symbolic code, and positions in them. A label is no instruction and no position: where one stands, the code
-- goes on behind it. Of two blocks or labels of one name the first counts.
use Rattle.std.specs.Prelude.{ℕ, suc, ◌+◌, Bool, true, false, nat_eq, if◌then◌else◌, List, [], ◌∷◌, drop, Option, Some, None, option_map, slice_get}
use Rattle.sym_code.specs.Layout.{DataLayout}
use Rattle.sym_code.specs.declared.code.BlockName.{BlockName}
use Rattle.sym_code.specs.declared.code.BlockName.TheVariants.{Start, Copy}
use Rattle.sym_code.specs.declared.code.Label.{Label}
use Rattle.sym_code.specs.declared.code.Label.TheVariants.{Inner, Halt, Restore}
use Rattle.sym_code.specs.declared.code.Sym.{Sym}
use Rattle.sym_code.specs.declared.code.Sym.TheVariants as sym
use Rattle.sym_code.specs.declared.code.SymBlock.{SymBlock}
use Rattle.sym_code.specs.declared.code.Target.{Target}
use Rattle.sym_code.specs.declared.code.Target.TheVariants as targets

-- ---- names
abbrev pub same_name : BlockName → BlockName → Bool
same_name Start Start = true
same_name (Copy c) (Copy d) = nat_eq c d
same_name _ _ = false

abbrev pub same_label : Label → Label → Bool
same_label (Inner n) (Inner m) = nat_eq n m
same_label Halt Halt = true
same_label Restore Restore = true
same_label _ _ = false

-- the block that a target lies in, where this is the block of the jump
abbrev pub block_of : BlockName → Target → BlockName
block_of own (targets.Block name) = name
block_of own (targets.Label (Inner n)) = own
block_of own (targets.Label Halt) = Start
block_of own (targets.Label Restore) = Start

-- A target that lies in the block itself, as each inner label does: the words that read a table are in the page of its block.
abbrev pub own_place : Target
own_place = targets.Label (Inner 0)

-- ---- programs
pub record Program : Type 0 where
  pub block : BlockName → List Sym
  -- the handler's copy; main's is copy 0
  pub handler : Option ℕ
  pub layout : DataLayout
  -- the bytes of each table in program memory
  pub tables : ℕ → Option (List ℕ)

abbrev pub no_tables : ℕ → Option (List ℕ)
no_tables table = None

-- the code of the block of a name
abbrev pub block_in : List SymBlock → BlockName → List Sym
block_in [] name = []
block_in (b ∷ bs) name = if same_name b.name name then b.list.items else block_in bs name

-- the program that blocks make
abbrev pub code_of : List SymBlock → Option ℕ → DataLayout → Program
code_of blocks handler layout = record { block = block_in blocks; handler = handler; layout = layout; tables = no_tables }

-- ---- positions
-- an instruction of a block, by its number there
pub record Position : Type 0 where
  pub block : BlockName
  pub index : ℕ

abbrev pub position : BlockName → ℕ → Position
position name n = record { block = name; index = n }

abbrev pub fetched : Program → Position → Option Sym
fetched q p = slice_get (q.block p.block) p.index

abbrev pub is_word : Option Sym → Bool
is_word None = false
is_word (Some (sym.Label label)) = false
is_word (Some s) = true

-- an instruction stands there
abbrev pub lands : Program → Position → Bool
lands q p = is_word (fetched q p)

abbrev pub labels_in_front : List Sym → ℕ
labels_in_front [] = 0
labels_in_front (sym.Label label ∷ rest) = suc (labels_in_front rest)
labels_in_front (s ∷ rest) = 0

-- where the code goes on from here: behind the labels that stand here
unfoldable pub stand : Program → Position → Position
stand q p = position p.block (p.index + labels_in_front (drop p.index (q.block p.block)))

-- the front of a block
abbrev pub front : Program → BlockName → Position
front q name = stand q (position name 0)

-- behind an instruction
abbrev pub behind : Program → Position → Position
behind q p = stand q (position p.block (p.index + 1))

-- behind an instruction, or behind the one that follows it
abbrev pub onward : Program → Position → Bool → Position
onward q p skips = if skips then behind q (behind q p) else behind q p

abbrev pub label_from : List Sym → Label → ℕ → Option ℕ
label_from [] label n = None
label_from (sym.Label l ∷ rest) label n = if same_label l label then Some n else label_from rest label (n + 1)
label_from (s ∷ rest) label n = label_from rest label (n + 1)

-- Where a target stands. Main's end and the handler's are no places: what jumps there ends a thread.
abbrev pub place_of : Program → Position → Target → Option Position
place_of q p (targets.Block name) = Some (front q name)
place_of q p (targets.Label Halt) = None
place_of q p (targets.Label Restore) = None
place_of q p (targets.Label (Inner n)) = option_map (λ k. stand q (position p.block k)) (label_from (q.block p.block) (Inner n) 0)
