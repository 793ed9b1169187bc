-- A run of a list of instructions as a function. Operands are general bytes by their numbers. A mode carries skips, and
-- jumps forward to a label, along the list: so the run of `xs ++ ys` is that of ys after that of xs. A loop's body ends
-- in `Seeking` its label where another round is due.
use Rattle.std.specs.Prelude.{ℕ, Bool, nat_eq, if◌then◌else◌, List, [], ◌∷◌, bit_xor}
use Rattle.pic_world.specs.Bits.{bit, truth}
use Rattle.sym_code.specs.Effect.{Memory, with_byte}
use Rattle.sym_code.specs.Registers.{Registers}
use Rattle.sym_code.specs.declared.code.BitOperation.{BitOperation}
use Rattle.sym_code.specs.declared.code.BitOperation.TheVariants.{Bcf, Bsf, Btfsc, Btfss}
use Rattle.sym_code.specs.declared.code.FileOperation.{FileOperation}
use Rattle.sym_code.specs.declared.code.FileOperation.TheVariants.{Addwf}
use Rattle.sym_code.specs.declared.code.Into.{Into}
use Rattle.sym_code.specs.declared.code.Into.TheVariants.{W, File}
use Rattle.select_trace.specs.Rows.{result_with, flags_with, skips_with, status_bit, with_status_bit}

pub data Sym : Type 0 where
  -- a row on a byte
  Row : FileOperation → ℕ → Into → Sym
  Movwf : ℕ → Sym
  Clrf : ℕ → Sym
  -- a test of a bit of a byte
  Test : BitOperation → ℕ → ℕ → Sym
  -- a bit of STATUS
  Flag : BitOperation → ℕ → Sym
  Movlw : ℕ → Sym
  Addlw : ℕ → Sym
  Xorlw : ℕ → Sym
  Clrw : Sym
  Return : Sym
  Goto : ℕ → Sym
  Label : ℕ → Sym

pub data Mode : Type 0 where
  Going : Mode
  Skipping : Mode
  Seeking : ℕ → Mode
  Returned : Mode

pub record Machine : Type 0 where
  pub mode : Mode
  pub registers : Registers
  pub memory : Memory

abbrev pub going : Registers → Memory → Machine
going r m = record { mode = Going; registers = r; memory = m }

abbrev pub skipping_if : Bool → Mode
skipping_if skips = if skips then Skipping else Going

abbrev pub row : FileOperation → ℕ → Into → Registers → Memory → Machine
row op a W r m = record { mode = skipping_if (skips_with r op (m a)); registers = record (flags_with r op (m a)) { w = result_with r op (m a) }; memory = m }
row op a File r m = record { mode = skipping_if (skips_with r op (m a)); registers = flags_with r op (m a); memory = with_byte m a (result_with r op (m a)) }

abbrev pub flag : BitOperation → ℕ → Registers → Memory → Machine
flag Bcf b r m = going (with_status_bit r b 0) m
flag Bsf b r m = going (with_status_bit r b 1) m
flag Btfsc b r m = record { mode = skipping_if (nat_eq (status_bit r b) 0); registers = r; memory = m }
flag Btfss b r m = record { mode = skipping_if (nat_eq (status_bit r b) 1); registers = r; memory = m }

abbrev pub test : BitOperation → ℕ → ℕ → Registers → Memory → Machine
test Btfsc b x r m = record { mode = skipping_if (nat_eq (bit x b) 0); registers = r; memory = m }
test _ b x r m = record { mode = skipping_if (nat_eq (bit x b) 1); registers = r; memory = m }

abbrev pub execute : Sym → Registers → Memory → Machine
execute (Row op a into) r m = row op a into r m
execute (Movwf a) r m = going r (with_byte m a r.w)
execute (Clrf a) r m = going (record r { z = 1 }) (with_byte m a 0)
execute (Test op a b) r m = test op b (m a) r m
execute (Flag op b) r m = flag op b r m
execute (Movlw n) r m = going (record r { w = n }) m
-- as ADDWF of a byte that is the number
execute (Addlw n) r m = going (record (flags_with r Addwf n) { w = result_with r Addwf n }) m
execute (Xorlw n) r m = going (record r { w = bit_xor n r.w; z = truth (nat_eq (bit_xor n r.w) 0) }) m
execute Clrw r m = going (record r { w = 0; z = 1 }) m
execute Return r m = record { mode = Returned; registers = r; memory = m }
execute (Goto l) r m = record { mode = Seeking l; registers = r; memory = m }
execute (Label l) r m = going r m

-- a skip goes past labels, and past the next word
abbrev pub skipped : Sym → Mode
skipped (Label l) = Skipping
skipped _ = Going

abbrev pub sought : ℕ → Sym → Mode
sought l (Label n) = if nat_eq n l then Going else Seeking l
sought l _ = Seeking l

abbrev pub step_in : Mode → Sym → Registers → Memory → Machine
step_in Going i r m = execute i r m
step_in Skipping i r m = record { mode = skipped i; registers = r; memory = m }
step_in (Seeking l) i r m = record { mode = sought l i; registers = r; memory = m }
step_in Returned i r m = record { mode = Returned; registers = r; memory = m }

abbrev pub step : Sym → Machine → Machine
step i t = step_in t.mode i t.registers t.memory

abbrev pub run : List Sym → Machine → Machine
run [] t = t
run (i ∷ is) t = run is (step i t)
