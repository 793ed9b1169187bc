-- The code of operators asks for no bank but that of the own frame.
use Rattle.std.proofs.Common.{ℕ, ◌≤◌, List, [], ◌∷◌, arith}
use Rattle.core_code.specs.declared.code.Byte.{Byte}
use Rattle.core_code.specs.declared.code.Byte.TheVariants.{Static, Frame, Result, Device}
use Rattle.pic_world.specs.declared.Root.{Root}
use Rattle.select_wide.specs.Links.{IsNearByte, IsNear, AreNear}
use Rattle.sym_code.specs.declared.code.BitOperation.TheVariants.{Btfsc, Btfss}
use Rattle.sym_code.specs.declared.code.Literal.TheVariants as literals
use Rattle.sym_code.specs.declared.code.LiteralOperation.TheVariants.{Addlw, Movlw, Xorlw}
use Rattle.sym_code.specs.declared.code.Operand.TheVariants as operands
use Rattle.sym_code.specs.declared.code.PlainOperation.TheVariants as plains
use Rattle.sym_code.specs.declared.code.Register.TheVariants.{Status}
use Rattle.sym_code.specs.declared.code.Sym.{Sym}
use Rattle.sym_code.specs.declared.code.Sym.TheVariants as syms
use Rattle.select_trace.specs.Silent.{IsIn, IsStraight, AreStraight}

-- own bytes are near
near_byte : (root : Root) (copy size whole : ℕ) → size ≤ whole → (b : Byte) → IsIn root copy size b 1 → IsNearByte copy whole b
near_byte root copy size whole le (Frame c j) h = let l = h.1 in (h.0, omega arith)
near_byte root copy size whole le (Result r j) h = tt
near_byte root copy size whole le (Static n j) h = absurd h
near_byte root copy size whole le (Device a) h = absurd h

near_one : (root : Root) (copy size whole : ℕ) → size ≤ whole → (x : Sym) → IsStraight (λ b. IsIn root copy size b 1) x → IsNear copy whole x
near_one root copy size whole le (syms.File op (operands.Byte b) into) h = near_byte root copy size whole le b h
near_one root copy size whole le (syms.Movwf (operands.Byte b)) h = near_byte root copy size whole le b h
near_one root copy size whole le (syms.Clrf (operands.Byte b)) h = near_byte root copy size whole le b h
near_one root copy size whole le (syms.Bit Btfsc (operands.Byte b) n) h = near_byte root copy size whole le b h
near_one root copy size whole le (syms.Bit Btfss (operands.Byte b) n) h = near_byte root copy size whole le b h
near_one root copy size whole le (syms.Bit op (operands.Register Status) n) h = omega arith
near_one root copy size whole le (syms.Literal Movlw (literals.Number n)) h = tt
near_one root copy size whole le (syms.Literal Addlw (literals.Number n)) h = tt
near_one root copy size whole le (syms.Literal Xorlw (literals.Number n)) h = tt
near_one root copy size whole le (syms.Plain plains.Clrw) h = tt
near_one root copy size whole le x h = absurd h

-- behind a byte of the own frame no bank is selected any more
pub near_own : (root : Root) (copy size whole : ℕ) → size ≤ whole → (xs : List Sym) → AreStraight (λ b. IsIn root copy size b 1) xs → AreNear copy whole xs
near_own root copy size whole le [] all = tt
near_own root copy size whole le (x ∷ xs) all = (near_one root copy size whole le x all.0, near_own root copy size whole le xs all.1)
