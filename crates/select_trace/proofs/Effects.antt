-- What an instruction on own bytes does on the symbolic machine is what it does over bytes by number.
use Rattle.std.proofs.Common.{◌≡◌, ℕ, zero, suc, ◌<◌, Bool, true, false, Option, Some, None, refl, ap, ◌∙◌, arith}
use Rattle.std.specs.Prelude.{◌&&◌, nat_eq, if◌then◌else◌}
use Rattle.std.proofs.lemmas.Bool.{ne_eqb}
use Rattle.core_code.specs.declared.code.Byte.{Byte}
use Rattle.pic_world.specs.Bits.{bit}
use Rattle.sym_code.specs.Effect.{Setting, Thread, Memory, Access, Stuck, effect_of, file_to_w, file_to_file, store, test, put_flag, test_flag}
use Rattle.sym_code.specs.Layout.{all_near}
use Rattle.sym_code.specs.Machine.{lands_at}
use Rattle.sym_code.specs.Programs.{Program, Position, behind, onward}
use Rattle.sym_code.specs.Quiet.{Scene, quiet_by}
use Rattle.sym_code.specs.Registers as real
use Rattle.sym_code.specs.Registers.{Registers, after_row}
use Rattle.sym_code.specs.declared.code.BitOperation.{BitOperation}
use Rattle.sym_code.specs.declared.code.BitOperation.TheVariants.{Bcf, Bsf, Btfsc, Btfss}
use Rattle.sym_code.specs.declared.code.FileOperation.{FileOperation}
use Rattle.sym_code.specs.declared.code.Into.TheVariants.{W, File}
use Rattle.sym_code.specs.declared.code.Literal.TheVariants as literals
use Rattle.sym_code.specs.declared.code.LiteralOperation.TheVariants as lit
use Rattle.sym_code.specs.declared.code.Operand.TheVariants as operands
use Rattle.sym_code.specs.declared.code.PlainOperation.TheVariants as plains
use Rattle.sym_code.specs.declared.code.Register.TheVariants as registers
use Rattle.sym_code.specs.declared.code.Sym.{Sym}
use Rattle.sym_code.specs.declared.code.Sym.TheVariants as sym
use Rattle.select_trace.specs.Rows.{result_with, flags_with, skips_with, status_bit, with_status_bit}
use Rattle.select_trace.specs.Run as run
use Rattle.select_trace.specs.Run.{Mode, Going, Skipping, Seeking, Returned, Machine, execute, skipping_if}
use Rattle.select_trace.specs.Silent.{number_at, AreQuiet, IsStraight, plain}
use Rattle.select_trace.proofs.Names.{silent}

-- where an instruction that jumps nowhere leads
abbrev pub next : Program → Position → Mode → Position
next q p Going = behind q p
next q p Skipping = behind q (behind q p)
next q p (Seeking l) = p
next q p Returned = p

-- a thread that goes on there, and memory
abbrev pub scene : Thread → Position → Machine → Scene
scene th at u = record { thread = record th { at = Some at; registers = u.registers }; memory = u.memory }

abbrev pub goes_if : Program → Scene → Option Scene
goes_if q s = if lands_at q s.thread.at then Some s else None

onward_is : (q : Program) (p : Position) (b : Bool) → onward q p b ≡ next q p (skipping_if b)
onward_is q p true = refl
onward_is q p false = refl

flag_set : (r : Registers) (n v : ℕ) → n < 3 → real.with_status_bit r n v ≡ Some (with_status_bit r n v)
flag_set r zero v lt = refl
flag_set r (suc zero) v lt = refl
flag_set r (suc (suc zero)) v lt = refl
flag_set r (suc (suc (suc n))) v lt = absurd (omega arith)

flag_read : (r : Registers) (n : ℕ) → n < 3 → real.status_bit r n ≡ Some (status_bit r n)
flag_read r zero lt = refl
flag_read r (suc zero) lt = refl
flag_read r (suc (suc zero)) lt = refl
flag_read r (suc (suc (suc n))) lt = absurd (omega arith)

module _ (g : Setting) (inside : Bool) (P : Byte → Type 0) (quiet : AreQuiet g inside P) (p : Position) (th : Thread) (m : Memory) where
  -- what is to be shown of an instruction
  abbrev Does : Sym → Type 0
  Does x = quiet_by g.program m (effect_of g inside p th m x) ≡ goes_if g.program (scene th (next g.program p (execute (plain (number_at g.program.layout) x) th.registers m).mode) (execute (plain (number_at g.program.layout) x) th.registers m))

  abbrev at : Byte → ℕ
  at = number_at g.program.layout

  moved : (b : Bool) (r : Registers) (n : Memory) → goes_if g.program (record { thread = record th { at = Some (onward g.program p b); registers = r }; memory = n }) ≡ goes_if g.program (record { thread = record th { at = Some (next g.program p (skipping_if b)); registers = r }; memory = n })
  moved b r n = ap (λ (k : Position). goes_if g.program (record { thread = record th { at = Some k; registers = r }; memory = n })) (onward_is g.program p b)

  to_w : (op : FileOperation) (byte : Byte) → P byte → Does (sym.File op (operands.Byte byte) W)
  unfolding effect_of real.result_with real.flags_with real.skips_with
  to_w op byte h =
      ap (λ (a : Access). quiet_by g.program m (file_to_w g.program p th m op a)) (silent g inside P quiet false th.registers byte h)
      ∙ moved (skips_with th.registers op (m (at byte))) (record (flags_with th.registers op (m (at byte))) { w = result_with th.registers op (m (at byte)) }) m

  to_file : (op : FileOperation) (byte : Byte) → P byte → Does (sym.File op (operands.Byte byte) File)
  unfolding effect_of real.result_with real.flags_with real.skips_with
  to_file op byte h =
      ap (λ (a : Access). quiet_by g.program m (file_to_file g.program p th m op a)) (silent g inside P quiet true th.registers byte h)
      ∙ moved (skips_with th.registers op (m (at byte))) (flags_with th.registers op (m (at byte))) (run.row op (at byte) File th.registers m).memory

  movwf : (byte : Byte) → P byte → Does (sym.Movwf (operands.Byte byte))
  unfolding effect_of
  movwf byte h = ap (λ (a : Access). quiet_by g.program m (store g.program p th th.registers th.registers.w a)) (silent g inside P quiet true th.registers byte h)

  clrf : (byte : Byte) → P byte → Does (sym.Clrf (operands.Byte byte))
  unfolding effect_of
  clrf byte h = ap (λ (a : Access). quiet_by g.program m (store g.program p th (record th.registers { z = 1 }) 0 a)) (silent g inside P quiet true th.registers byte h)

  btfsc : (byte : Byte) (n : ℕ) → P byte → Does (sym.Bit Btfsc (operands.Byte byte) n)
  unfolding effect_of
  btfsc byte n h =
      ap (λ (a : Access). quiet_by g.program m (test g.program p th m (λ x. nat_eq (bit x n) 0) a)) (silent g inside P quiet false th.registers byte h)
      ∙ moved (nat_eq (bit (m (at byte)) n) 0) th.registers m

  btfss : (byte : Byte) (n : ℕ) → P byte → Does (sym.Bit Btfss (operands.Byte byte) n)
  unfolding effect_of
  btfss byte n h =
      ap (λ (a : Access). quiet_by g.program m (test g.program p th m (λ x. nat_eq (bit x n) 1) a)) (silent g inside P quiet false th.registers byte h)
      ∙ moved (nat_eq (bit (m (at byte)) n) 1) th.registers m

  on_flag : (op : BitOperation) (n : ℕ) → n < 3 → Does (sym.Bit op (operands.Register registers.Status) n)
  unfolding effect_of
  on_flag Bcf n lt = ap (λ (o : Option Registers). quiet_by g.program m (put_flag g.program p th o)) (flag_set th.registers n 0 lt)
  on_flag Bsf n lt =
      ap (λ (c : Bool). quiet_by g.program m (if c && all_near g.program.layout then Stuck else put_flag g.program p th (real.with_status_bit th.registers n 1))) (ne_eqb n 7 (λ e. omega (arith, e, lt)))
      ∙ ap (λ (o : Option Registers). quiet_by g.program m (put_flag g.program p th o)) (flag_set th.registers n 1 lt)
  on_flag Btfsc n lt = ap (λ (o : Option ℕ). quiet_by g.program m (test_flag g.program p th 0 o)) (flag_read th.registers n lt) ∙ moved (nat_eq (status_bit th.registers n) 0) th.registers m
  on_flag Btfss n lt = ap (λ (o : Option ℕ). quiet_by g.program m (test_flag g.program p th 1 o)) (flag_read th.registers n lt) ∙ moved (nat_eq (status_bit th.registers n) 1) th.registers m

  pub does : (x : Sym) → IsStraight P x → Does x
  unfolding effect_of after_row
  does (sym.File op (operands.Byte byte) W) h = to_w op byte h
  does (sym.File op (operands.Byte byte) File) h = to_file op byte h
  does (sym.Movwf (operands.Byte byte)) h = movwf byte h
  does (sym.Clrf (operands.Byte byte)) h = clrf byte h
  does (sym.Bit Btfsc (operands.Byte byte) n) h = btfsc byte n h
  does (sym.Bit Btfss (operands.Byte byte) n) h = btfss byte n h
  does (sym.Bit op (operands.Register registers.Status) n) h = on_flag op n h
  does (sym.Literal lit.Movlw (literals.Number n)) h = refl
  does (sym.Literal lit.Addlw (literals.Number n)) h = refl
  does (sym.Literal lit.Xorlw (literals.Number n)) h = refl
  does (sym.Plain plains.Clrw) h = refl
  does x h = absurd h
