-- The routines of helpers are named within any layout.
use Rattle.std.proofs.Common.{◌≡◌, ℕ, suc, ◌<◌, ◌≤◌, Bool, true, false, not, ◌&&◌, nat_lt, List, [], ◌∷◌, All, length, refl, ap, ◌∙◌, arith}
use Rattle.std.specs.List.{list_all}
use Rattle.std.proofs.lemmas.Bool.{lt-ltb}
use Rattle.core_code.specs.declared.code.Byte.TheVariants as bytes
use Rattle.math_helpers.specs.Shape.{IsOwn, IsOwnOperand, frame_size}
use Rattle.math_helpers.specs.Routines.{helper_code}
use Rattle.math_helpers.proofs.Shapes.{code_is_own}
use Rattle.pic_world.specs.declared.Root.{Root}
use Rattle.sym_code.specs.Layout.{DataLayout, frame}
use Rattle.sym_code.specs.declared.code.BitOperation.{BitOperation}
use Rattle.sym_code.specs.declared.code.BitOperation.TheVariants.{Bcf, Bsf, Btfsc, Btfss}
use Rattle.sym_code.specs.declared.code.BlockName.{BlockName}
use Rattle.sym_code.specs.declared.code.Into.TheVariants as into
use Rattle.sym_code.specs.declared.code.Label.TheVariants as labels
use Rattle.sym_code.specs.declared.code.Literal.TheVariants as literals
use Rattle.sym_code.specs.declared.code.Operand.{Operand}
use Rattle.sym_code.specs.declared.code.Operand.TheVariants as operands
use Rattle.sym_code.specs.declared.code.Sym.{Sym}
use Rattle.sym_code.specs.declared.code.Sym.TheVariants as syms
use Rattle.sym_code.specs.declared.code.Target.TheVariants as targets
use Rattle.kept_layout.specs.NamedCode.{operand_named}
use Rattle.kept_layout.specs.OpenCode.{sym_by}
use Rattle.kept_layout.specs.Routines.{RoutinesAreNamed}

module _ (kept : List Bool) (handlers : BlockName → Bool) (l : DataLayout) (own : BlockName) (root : Root) (copy size : ℕ) (there : copy < length l.frames) (room : size ≤ (frame l copy).size) where
  operand_own : (free : Bool) (operand : Operand) → IsOwnOperand root copy size operand → operand_named kept l free operand ≡ true
  operand_own free (operands.Byte (bytes.Frame c offset)) h =
      ap (λ (k : ℕ). nat_lt k (length l.frames) && nat_lt offset (frame l k).size) h.0
      ∙ ap (λ (b : Bool). b && nat_lt offset (frame l copy).size) (lt-ltb copy (length l.frames) there) ∙ (let low = h.1 in lt-ltb offset (frame l copy).size (omega (arith, low, room)))
  operand_own free (operands.Byte (bytes.Result r k)) h = lt-ltb k 4 h.1
  operand_own free (operands.Byte byte) h = absurd h
  operand_own free (operands.Register register) h = absurd h
  operand_own free (operands.Saved cell) h = absurd h

  bit_own : (op : BitOperation) (operand : Operand) (b : ℕ) → ((free : Bool) → operand_named kept l free operand ≡ true) → sym_by (operand_named kept l) handlers l own (syms.Bit op operand b) ≡ true
  unfolding sym_by
  bit_own Bcf operand b h = h false
  bit_own Bsf operand b h = h false
  bit_own Btfsc operand b h = h (not (handlers own))
  bit_own Btfss operand b h = h (not (handlers own))

  sym_own : (s : Sym) → IsOwn root copy size s → sym_by (operand_named kept l) handlers l own s ≡ true
  unfolding sym_by
  sym_own (syms.File op operand into.W) h = operand_own (not (handlers own)) operand h
  sym_own (syms.File op operand into.File) h = operand_own false operand h
  sym_own (syms.Movwf operand) h = operand_own (not (handlers own)) operand h
  sym_own (syms.Clrf operand) h = operand_own (not (handlers own)) operand h
  sym_own (syms.Bit op (operands.Register register) b) h = bit_own op (operands.Register register) b (λ free. refl)
  sym_own (syms.Bit op (operands.Byte byte) b) h = bit_own op (operands.Byte byte) b (λ free. operand_own free (operands.Byte byte) h)
  sym_own (syms.Bit op (operands.Saved cell) b) h = absurd h
  sym_own (syms.Literal op (literals.Number n)) h = refl
  sym_own (syms.Plain op) h = refl
  sym_own (syms.Goto (targets.Label (labels.Inner n))) h = refl
  sym_own (syms.Label (labels.Inner n)) h = refl
  sym_own s h = absurd h

  all_own : (list : List Sym) → All (IsOwn root copy size) list → list_all (sym_by (operand_named kept l) handlers l own) list ≡ true
  all_own [] h = refl
  all_own (s ∷ list) h = ap (λ (b : Bool). b && list_all (sym_by (operand_named kept l) handlers l own) list) (sym_own s (h 0 s (omega arith))) ∙ all_own list (λ k d m. h (suc k) d (omega (arith, m)))

pub routines_named : RoutinesAreNamed
routines_named kept handlers l own h root copy there room = all_own kept handlers l own root copy (frame_size h) there room (helper_code h root copy) (code_is_own h root copy)
