-- Instructions that no pass leaves out, whatever is known of the code: what stands for a step of the source of which each counts.
use Rattle.std.specs.Prelude.{ℕ, ◌%◌, Bool, true, false, nat_eq, ◌||◌}
use Rattle.core_code.specs.Cost.{is_kept}
use Rattle.sym_code.specs.declared.code.BitOperation.{BitOperation}
use Rattle.sym_code.specs.declared.code.BitOperation.TheVariants as bits
use Rattle.sym_code.specs.declared.code.Label.TheVariants.{Inner}
use Rattle.sym_code.specs.declared.code.Operand.{Operand}
use Rattle.sym_code.specs.declared.code.Operand.TheVariants as operands
use Rattle.sym_code.specs.declared.code.PlainOperation.{PlainOperation}
use Rattle.sym_code.specs.declared.code.PlainOperation.TheVariants as plain
use Rattle.sym_code.specs.declared.code.Register.TheVariants.{Indf, Status}
use Rattle.sym_code.specs.declared.code.Sym.{Sym}
use Rattle.sym_code.specs.declared.code.Sym.TheVariants as syms
use Rattle.sym_code.specs.declared.code.Target.{Target}
use Rattle.sym_code.specs.declared.code.Target.TheVariants as targets

-- A byte that the source has, or the one that FSR points to. Given is how many bytes the variables of each copy have.
abbrev pub is_marked_operand : (ℕ → ℕ) → Operand → Bool
is_marked_operand variables (operands.Byte byte) = is_kept variables byte
is_marked_operand variables (operands.Register Indf) = true
is_marked_operand variables (operands.Register register) = false
is_marked_operand variables (operands.Saved saved) = false

-- Z, bit 2 of STATUS
abbrev pub is_zero_flag : Operand → ℕ → Bool
is_zero_flag (operands.Register Status) n = nat_eq n 2
is_zero_flag operand n = false

-- a test of Z, or of a bit of such a byte
abbrev pub is_marked_bit : (ℕ → ℕ) → BitOperation → Operand → ℕ → Bool
is_marked_bit variables bits.Btfsc operand n = is_zero_flag operand n || is_marked_operand variables operand
is_marked_bit variables bits.Btfss operand n = is_zero_flag operand n || is_marked_operand variables operand
is_marked_bit variables op operand n = is_marked_operand variables operand

abbrev pub is_marked_plain : PlainOperation → Bool
is_marked_plain plain.Return = true
is_marked_plain plain.Retfie = true
is_marked_plain op = false

-- A jump back to the top of a loop, whose label has an even number, is a step by itself, and so is one that ends main or the
-- handler. The label at the end of a loop or of a choice has an odd number, and so has the one where a bit is cleared: a jump to
-- there only goes past what other steps stand for.
abbrev pub is_marked_target : Target → Bool
is_marked_target (targets.Label (Inner n)) = nat_eq (n % 2) 0
is_marked_target target = true

abbrev pub is_marked : (ℕ → ℕ) → Sym → Bool
is_marked variables (syms.File op operand to) = is_marked_operand variables operand
is_marked variables (syms.Movwf operand) = is_marked_operand variables operand
is_marked variables (syms.Clrf operand) = is_marked_operand variables operand
is_marked variables (syms.Bit op operand n) = is_marked_bit variables op operand n
is_marked variables (syms.Goto target) = is_marked_target target
is_marked variables (syms.Call target) = true
is_marked variables (syms.Plain op) = is_marked_plain op
is_marked variables (syms.Table table root) = true
is_marked variables s = false
