-- How the chip stands at a thread: its registers, its return stack, and what an image has at the places of instructions.
use Rattle.std.specs.Prelude.{◌≡◌, ℕ, ◌+◌, ◌*◌, ◌/◌, ◌%◌, ◌<◌, ◌≤◌, true, nat_eq, List, [], ◌∷◌, length, Option, Some, None, slice_index, slice_set}
use Rattle.pic_isa.specs.declared.Ins.{Ins}
use Rattle.pic_isa.specs.declared.Ins.TheVariants as isa
use Rattle.pic_isa.specs.Lookup.{row_of}
use Rattle.pic_chip.specs.State.{State}
use Rattle.pic_chip.proofs.Stack.{IsOn}
use Rattle.code_place.specs.Instructions.{file_row, bit_row, literal_row, plain_row, bank_row, bit_set}
use Rattle.sym_code.specs.Effect.{Setting, Thread, Write, literal_value}
use Rattle.sym_code.specs.Layout.{DataLayout, address_of, saved_address}
use Rattle.sym_code.specs.Programs.{Position, block_of, fetched, is_word, lands, behind, place_of}
use Rattle.sym_code.specs.Registers.{Registers, bank, page}
use Rattle.sym_code.specs.Touching.{is_file}
use Rattle.sym_code.specs.declared.code.Label.TheVariants.{Halt, Restore}
use Rattle.sym_code.specs.declared.code.Operand.{Operand}
use Rattle.sym_code.specs.declared.code.Operand.TheVariants as operands
use Rattle.sym_code.specs.declared.code.PageBit.{PageBit}
use Rattle.sym_code.specs.declared.code.PageBit.TheVariants.{Low, High}
use Rattle.sym_code.specs.declared.code.Register.TheVariants.{Indf, Status, Fsr, Pclath}
use Rattle.sym_code.specs.declared.code.Sym.{Sym}
use Rattle.sym_code.specs.declared.code.Sym.TheVariants as syms
use Rattle.sym_code.specs.declared.code.Target.{Target}
use Rattle.sym_code.specs.declared.code.Target.TheVariants as targets

-- ---- registers
-- the chip has a thread's registers
pub record Sees (s : State) (r : Registers) : Type 0 where
  pub w : s.w ≡ r.w
  pub z : s.z ≡ r.z
  pub dc : s.dc ≡ r.dc
  pub c : s.c ≡ r.c
  pub fsr : s.fsr ≡ r.fsr
  pub bank : s.bank ≡ 4 * r.irp + bank r
  pub page : s.pclath / 8 ≡ page r
  pub banks : (r.rp0 < 2) × (r.rp1 < 2) × (r.irp < 2)
  pub pages : (r.page_low < 2) × (r.page_high < 2)

-- ---- memory
abbrev pub put_in : Option Write → List ℕ → List ℕ
put_in None ram = ram
put_in (Some x) ram = slice_set ram x.number x.byte

-- ---- places
-- the low seven bits by which an instruction names an operand
abbrev pub low_of : DataLayout → Operand → ℕ
low_of l (operands.Byte b) = address_of l b % 128
low_of l (operands.Register Indf) = 0x00
low_of l (operands.Register Status) = 0x03
low_of l (operands.Register Fsr) = 0x04
low_of l (operands.Register Pclath) = 0x0a
low_of l (operands.Saved cell) = saved_address cell

abbrev pub page_row : PageBit → ℕ → Ins
page_row Low page = bit_set 0x0a 3 (nat_eq (page % 2) 1)
page_row High page = bit_set 0x0a 4 (nat_eq (page / 2 % 2) 1)

-- where each position of a program stands in an image, the two addresses at which main and the handler end, and where main stands
-- when it has ended
pub record Ground : Type 0 where
  pub place : Position → ℕ
  pub halt : ℕ
  pub restore : ℕ
  pub rests : ℕ
  -- the words of the start block
  pub long : ℕ

module _ (g : Setting) (h : Ground) where
  -- a jump or a call with this field leads to the target, where its page is selected
  abbrev pub Reaches : Position → Target → ℕ → Type 0
  Reaches p (targets.Label Halt) k = (k < 2048) × (g.page_of (block_of p.block (targets.Label Halt)) * 2048 + k ≡ h.halt)
  Reaches p (targets.Label Restore) k = (k < 2048) × (g.page_of (block_of p.block (targets.Label Restore)) * 2048 + k ≡ h.restore)
  Reaches p target k = (k < 2048) × ((p' : Position) → place_of g.program p target ≡ Some p' → lands g.program p' ≡ true → g.page_of (block_of p.block target) * 2048 + k ≡ h.place p')

  -- the instruction that stands for a symbolic one; none does for a read of a table
  abbrev pub Means : Position → Sym → Ins → Type 0
  Means p (syms.Label label) i = Unit {0}
  Means p (syms.SelectBank which on) i = i ≡ bank_row which on
  Means p (syms.SelectPage which target) i = i ≡ page_row which (g.page_of (block_of p.block target))
  Means p (syms.File op x into) i = i ≡ file_row op (low_of g.program.layout x) (is_file into)
  Means p (syms.Movwf x) i = i ≡ isa.Movwf (low_of g.program.layout x)
  Means p (syms.Clrf x) i = i ≡ isa.Clrf (low_of g.program.layout x)
  Means p (syms.Bit op x b) i = (i ≡ bit_row op (low_of g.program.layout x) b) × (b < 8)
  Means p (syms.Literal op v) i = i ≡ literal_row op (literal_value g.program.layout v)
  Means p (syms.Plain op) i = i ≡ plain_row op
  Means p (syms.Call target) i = (k : ℕ) × (i ≡ isa.Call k) × Reaches p target k
  Means p (syms.Goto target) i = (k : ℕ) × (i ≡ isa.Goto k) × Reaches p target k
  Means p (syms.Table table root) i = ⊥

  -- the words of the positions, the top first
  abbrev pub words : List Position → List ℕ → List ℕ
  words [] below = below
  words (p ∷ s) below = h.place p % 8192 ∷ words s below

  -- where a thread stands
  abbrev pub spot : Option Position → ℕ
  spot None = h.rests
  spot (Some p) = h.place p

  -- what a thread's next instruction asks of the chip
  pub record IsAt (th : Thread) (below : List ℕ) (s : State) : Type 0 where
    pub pc : s.pc ≡ spot th.at
    pub sees : Sees s th.registers
    pub stack : IsOn s.stack 0 (words th.stack below)
    pub depth : s.pushes ≡ s.pops + length (words th.stack below)

  -- all code is below this address
  pub record IsBelow (end : ℕ) : Type 0 where
    pub code : (p : Position) → lands g.program p ≡ true → h.place p < end
    pub start : h.long ≤ end

  pub record IsPlaced (image : List ℕ) : Type 0 where
    pub code : (p : Position) (s : Sym) → fetched g.program p ≡ Some s → is_word (Some s) ≡ true → (i : Ins) × (row_of (slice_index image (h.place p)) ≡ Some i) × Means p s i
    pub below : (p : Position) → lands g.program p ≡ true → h.place p < 8192
    pub next : (p : Position) → lands g.program p ≡ true → h.place (behind g.program p) ≡ h.place p + 1
    pub two : (p : Position) → lands g.program p ≡ true → lands g.program (behind g.program (behind g.program p)) ≡ true → h.place (behind g.program (behind g.program p)) ≡ h.place p + 2
