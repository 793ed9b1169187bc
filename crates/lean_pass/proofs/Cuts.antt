-- The rules of the test are as the code cuts them.
use Rattle.std.proofs.Common.{◌≡◌, ℕ, Bool, true, false, not, ◌&&◌, if◌then◌else◌, List, Option, Some, None, refl, ap}
use Rattle.sym_code.specs.declared.code.BitOperation.{BitOperation}
use Rattle.sym_code.specs.declared.code.BitOperation.TheVariants as bit_ops
use Rattle.sym_code.specs.declared.code.BlockName.{BlockName}
use Rattle.sym_code.specs.declared.code.FileOperation.{FileOperation}
use Rattle.sym_code.specs.declared.code.FileOperation.TheVariants as files
use Rattle.sym_code.specs.declared.code.Into.{Into}
use Rattle.sym_code.specs.declared.code.Into.TheVariants as into
use Rattle.sym_code.specs.declared.code.LiteralOperation.{LiteralOperation}
use Rattle.sym_code.specs.declared.code.LiteralOperation.TheVariants as literals
use Rattle.sym_code.specs.declared.code.Operand.{Operand}
use Rattle.sym_code.specs.declared.code.Operand.TheVariants as operands
use Rattle.sym_code.specs.declared.code.Register.TheVariants.{Indf, Status, Fsr, Pclath}
use Rattle.sym_code.specs.declared.code.Sym.TheVariants as syms
use Rattle.sym_code.specs.declared.code.Target.TheVariants as targets
use Rattle.lean_code.specs.Changes.{Aim, ToFsr, ToEvent, ToByte, Through, Nowhere}
use Rattle.lean_code.specs.Checked.{ListedBlock, ListedNote, ListedRow, Sketch, block_in, keeps_bit, keeps_call, drops_bit, drops_to_w, is_left_out, is_tested, narrows_for, same_operation, puts_same, puts_self, puts_number, puts_byte}
use Rattle.lean_code.specs.Rows.{FlagName}
use Rattle.lean_pass.specs.Rules.{is_move, aim_byte, calls, keeps_bit_by, drops_bit_by, drops_file, tests_bit, on_byte, on_bytes}

module _ (k : Sketch) (block : ListedBlock) (n : ListedNote) where
  pub keeps_bit_is : (rest : List ListedRow) (op : BitOperation) (operand : Operand) (b : ℕ) → keeps_bit k block n rest op operand b ≡ keeps_bit_by k block n rest op operand b
  keeps_bit_is rest bit_ops.Bcf (operands.Register Status) b = refl
  keeps_bit_is rest bit_ops.Bcf (operands.Register Indf) b = refl
  keeps_bit_is rest bit_ops.Bcf (operands.Register Fsr) b = refl
  keeps_bit_is rest bit_ops.Bcf (operands.Register Pclath) b = refl
  keeps_bit_is rest bit_ops.Bcf (operands.Byte byte) b = refl
  keeps_bit_is rest bit_ops.Bcf (operands.Saved cell) b = refl
  keeps_bit_is rest bit_ops.Bsf (operands.Register Status) b = refl
  keeps_bit_is rest bit_ops.Bsf (operands.Register Indf) b = refl
  keeps_bit_is rest bit_ops.Bsf (operands.Register Fsr) b = refl
  keeps_bit_is rest bit_ops.Bsf (operands.Register Pclath) b = refl
  keeps_bit_is rest bit_ops.Bsf (operands.Byte byte) b = refl
  keeps_bit_is rest bit_ops.Bsf (operands.Saved cell) b = refl
  keeps_bit_is rest bit_ops.Btfsc (operands.Register Status) b = refl
  keeps_bit_is rest bit_ops.Btfsc (operands.Register Indf) b = refl
  keeps_bit_is rest bit_ops.Btfsc (operands.Register Fsr) b = refl
  keeps_bit_is rest bit_ops.Btfsc (operands.Register Pclath) b = refl
  keeps_bit_is rest bit_ops.Btfsc (operands.Byte byte) b = refl
  keeps_bit_is rest bit_ops.Btfsc (operands.Saved cell) b = refl
  keeps_bit_is rest bit_ops.Btfss (operands.Register Status) b = refl
  keeps_bit_is rest bit_ops.Btfss (operands.Register Indf) b = refl
  keeps_bit_is rest bit_ops.Btfss (operands.Register Fsr) b = refl
  keeps_bit_is rest bit_ops.Btfss (operands.Register Pclath) b = refl
  keeps_bit_is rest bit_ops.Btfss (operands.Byte byte) b = refl
  keeps_bit_is rest bit_ops.Btfss (operands.Saved cell) b = refl

  pub drops_bit_is : (rest : List ListedRow) (op : BitOperation) (operand : Operand) (b : ℕ) → drops_bit k block n rest op operand b ≡ drops_bit_by k block n rest op operand b
  drops_bit_is rest bit_ops.Bcf (operands.Register Status) b = refl
  drops_bit_is rest bit_ops.Bcf (operands.Register Indf) b = refl
  drops_bit_is rest bit_ops.Bcf (operands.Register Fsr) b = refl
  drops_bit_is rest bit_ops.Bcf (operands.Register Pclath) b = refl
  drops_bit_is rest bit_ops.Bcf (operands.Byte byte) b = refl
  drops_bit_is rest bit_ops.Bcf (operands.Saved cell) b = refl
  drops_bit_is rest bit_ops.Bsf (operands.Register Status) b = refl
  drops_bit_is rest bit_ops.Bsf (operands.Register Indf) b = refl
  drops_bit_is rest bit_ops.Bsf (operands.Register Fsr) b = refl
  drops_bit_is rest bit_ops.Bsf (operands.Register Pclath) b = refl
  drops_bit_is rest bit_ops.Bsf (operands.Byte byte) b = refl
  drops_bit_is rest bit_ops.Bsf (operands.Saved cell) b = refl
  drops_bit_is rest bit_ops.Btfsc (operands.Register Status) b = refl
  drops_bit_is rest bit_ops.Btfsc (operands.Register Indf) b = refl
  drops_bit_is rest bit_ops.Btfsc (operands.Register Fsr) b = refl
  drops_bit_is rest bit_ops.Btfsc (operands.Register Pclath) b = refl
  drops_bit_is rest bit_ops.Btfsc (operands.Byte byte) b = refl
  drops_bit_is rest bit_ops.Btfsc (operands.Saved cell) b = refl
  drops_bit_is rest bit_ops.Btfss (operands.Register Status) b = refl
  drops_bit_is rest bit_ops.Btfss (operands.Register Indf) b = refl
  drops_bit_is rest bit_ops.Btfss (operands.Register Fsr) b = refl
  drops_bit_is rest bit_ops.Btfss (operands.Register Pclath) b = refl
  drops_bit_is rest bit_ops.Btfss (operands.Byte byte) b = refl
  drops_bit_is rest bit_ops.Btfss (operands.Saved cell) b = refl

  pub drops_file_is : (here : ℕ) (rest : List ListedRow) (op : FileOperation) (operand : Operand) (to : Into) → is_left_out k block n here rest (syms.File op operand to) ≡ drops_file k block n rest op operand to
  drops_file_is here rest op operand into.W = refl
  drops_file_is here rest op operand into.File = refl

  pub drops_to_w_is : (rest : List ListedRow) (op : FileOperation) (a : Aim) → drops_to_w k block n rest op a ≡ on_byte (drops_to_w k block n rest op) (aim_byte a)
  drops_to_w_is rest op (ToByte i) = refl
  drops_to_w_is rest files.Addwf ToFsr = refl
  drops_to_w_is rest files.Andwf ToFsr = refl
  drops_to_w_is rest files.Comf ToFsr = refl
  drops_to_w_is rest files.Decf ToFsr = refl
  drops_to_w_is rest files.Decfsz ToFsr = refl
  drops_to_w_is rest files.Incf ToFsr = refl
  drops_to_w_is rest files.Incfsz ToFsr = refl
  drops_to_w_is rest files.Iorwf ToFsr = refl
  drops_to_w_is rest files.Movf ToFsr = refl
  drops_to_w_is rest files.Rlf ToFsr = refl
  drops_to_w_is rest files.Rrf ToFsr = refl
  drops_to_w_is rest files.Subwf ToFsr = refl
  drops_to_w_is rest files.Swapf ToFsr = refl
  drops_to_w_is rest files.Xorwf ToFsr = refl
  drops_to_w_is rest files.Addwf ToEvent = refl
  drops_to_w_is rest files.Andwf ToEvent = refl
  drops_to_w_is rest files.Comf ToEvent = refl
  drops_to_w_is rest files.Decf ToEvent = refl
  drops_to_w_is rest files.Decfsz ToEvent = refl
  drops_to_w_is rest files.Incf ToEvent = refl
  drops_to_w_is rest files.Incfsz ToEvent = refl
  drops_to_w_is rest files.Iorwf ToEvent = refl
  drops_to_w_is rest files.Movf ToEvent = refl
  drops_to_w_is rest files.Rlf ToEvent = refl
  drops_to_w_is rest files.Rrf ToEvent = refl
  drops_to_w_is rest files.Subwf ToEvent = refl
  drops_to_w_is rest files.Swapf ToEvent = refl
  drops_to_w_is rest files.Xorwf ToEvent = refl
  drops_to_w_is rest files.Addwf Through = refl
  drops_to_w_is rest files.Andwf Through = refl
  drops_to_w_is rest files.Comf Through = refl
  drops_to_w_is rest files.Decf Through = refl
  drops_to_w_is rest files.Decfsz Through = refl
  drops_to_w_is rest files.Incf Through = refl
  drops_to_w_is rest files.Incfsz Through = refl
  drops_to_w_is rest files.Iorwf Through = refl
  drops_to_w_is rest files.Movf Through = refl
  drops_to_w_is rest files.Rlf Through = refl
  drops_to_w_is rest files.Rrf Through = refl
  drops_to_w_is rest files.Subwf Through = refl
  drops_to_w_is rest files.Swapf Through = refl
  drops_to_w_is rest files.Xorwf Through = refl
  drops_to_w_is rest files.Addwf Nowhere = refl
  drops_to_w_is rest files.Andwf Nowhere = refl
  drops_to_w_is rest files.Comf Nowhere = refl
  drops_to_w_is rest files.Decf Nowhere = refl
  drops_to_w_is rest files.Decfsz Nowhere = refl
  drops_to_w_is rest files.Incf Nowhere = refl
  drops_to_w_is rest files.Incfsz Nowhere = refl
  drops_to_w_is rest files.Iorwf Nowhere = refl
  drops_to_w_is rest files.Movf Nowhere = refl
  drops_to_w_is rest files.Rlf Nowhere = refl
  drops_to_w_is rest files.Rrf Nowhere = refl
  drops_to_w_is rest files.Subwf Nowhere = refl
  drops_to_w_is rest files.Swapf Nowhere = refl
  drops_to_w_is rest files.Xorwf Nowhere = refl

  pub puts_byte_is : (rest : List ListedRow) (op : FileOperation) (i : ℕ) (new : LiteralOperation) (v : ℕ)
      → puts_byte k block n rest op i new v ≡ (if is_move op && same_operation literals.Iorlw new then puts_self k block n rest i v else (if same_operation literals.Movlw new && not (is_move op) then puts_number k block n rest op i v else puts_same k block n rest op i new v))
  puts_byte_is rest files.Addwf i literals.Addlw v = refl
  puts_byte_is rest files.Addwf i literals.Andlw v = refl
  puts_byte_is rest files.Addwf i literals.Iorlw v = refl
  puts_byte_is rest files.Addwf i literals.Movlw v = refl
  puts_byte_is rest files.Addwf i literals.Retlw v = refl
  puts_byte_is rest files.Addwf i literals.Sublw v = refl
  puts_byte_is rest files.Addwf i literals.Xorlw v = refl
  puts_byte_is rest files.Andwf i literals.Addlw v = refl
  puts_byte_is rest files.Andwf i literals.Andlw v = refl
  puts_byte_is rest files.Andwf i literals.Iorlw v = refl
  puts_byte_is rest files.Andwf i literals.Movlw v = refl
  puts_byte_is rest files.Andwf i literals.Retlw v = refl
  puts_byte_is rest files.Andwf i literals.Sublw v = refl
  puts_byte_is rest files.Andwf i literals.Xorlw v = refl
  puts_byte_is rest files.Comf i literals.Addlw v = refl
  puts_byte_is rest files.Comf i literals.Andlw v = refl
  puts_byte_is rest files.Comf i literals.Iorlw v = refl
  puts_byte_is rest files.Comf i literals.Movlw v = refl
  puts_byte_is rest files.Comf i literals.Retlw v = refl
  puts_byte_is rest files.Comf i literals.Sublw v = refl
  puts_byte_is rest files.Comf i literals.Xorlw v = refl
  puts_byte_is rest files.Decf i literals.Addlw v = refl
  puts_byte_is rest files.Decf i literals.Andlw v = refl
  puts_byte_is rest files.Decf i literals.Iorlw v = refl
  puts_byte_is rest files.Decf i literals.Movlw v = refl
  puts_byte_is rest files.Decf i literals.Retlw v = refl
  puts_byte_is rest files.Decf i literals.Sublw v = refl
  puts_byte_is rest files.Decf i literals.Xorlw v = refl
  puts_byte_is rest files.Decfsz i literals.Addlw v = refl
  puts_byte_is rest files.Decfsz i literals.Andlw v = refl
  puts_byte_is rest files.Decfsz i literals.Iorlw v = refl
  puts_byte_is rest files.Decfsz i literals.Movlw v = refl
  puts_byte_is rest files.Decfsz i literals.Retlw v = refl
  puts_byte_is rest files.Decfsz i literals.Sublw v = refl
  puts_byte_is rest files.Decfsz i literals.Xorlw v = refl
  puts_byte_is rest files.Incf i literals.Addlw v = refl
  puts_byte_is rest files.Incf i literals.Andlw v = refl
  puts_byte_is rest files.Incf i literals.Iorlw v = refl
  puts_byte_is rest files.Incf i literals.Movlw v = refl
  puts_byte_is rest files.Incf i literals.Retlw v = refl
  puts_byte_is rest files.Incf i literals.Sublw v = refl
  puts_byte_is rest files.Incf i literals.Xorlw v = refl
  puts_byte_is rest files.Incfsz i literals.Addlw v = refl
  puts_byte_is rest files.Incfsz i literals.Andlw v = refl
  puts_byte_is rest files.Incfsz i literals.Iorlw v = refl
  puts_byte_is rest files.Incfsz i literals.Movlw v = refl
  puts_byte_is rest files.Incfsz i literals.Retlw v = refl
  puts_byte_is rest files.Incfsz i literals.Sublw v = refl
  puts_byte_is rest files.Incfsz i literals.Xorlw v = refl
  puts_byte_is rest files.Iorwf i literals.Addlw v = refl
  puts_byte_is rest files.Iorwf i literals.Andlw v = refl
  puts_byte_is rest files.Iorwf i literals.Iorlw v = refl
  puts_byte_is rest files.Iorwf i literals.Movlw v = refl
  puts_byte_is rest files.Iorwf i literals.Retlw v = refl
  puts_byte_is rest files.Iorwf i literals.Sublw v = refl
  puts_byte_is rest files.Iorwf i literals.Xorlw v = refl
  puts_byte_is rest files.Movf i literals.Addlw v = refl
  puts_byte_is rest files.Movf i literals.Andlw v = refl
  puts_byte_is rest files.Movf i literals.Iorlw v = refl
  puts_byte_is rest files.Movf i literals.Movlw v = refl
  puts_byte_is rest files.Movf i literals.Retlw v = refl
  puts_byte_is rest files.Movf i literals.Sublw v = refl
  puts_byte_is rest files.Movf i literals.Xorlw v = refl
  puts_byte_is rest files.Rlf i literals.Addlw v = refl
  puts_byte_is rest files.Rlf i literals.Andlw v = refl
  puts_byte_is rest files.Rlf i literals.Iorlw v = refl
  puts_byte_is rest files.Rlf i literals.Movlw v = refl
  puts_byte_is rest files.Rlf i literals.Retlw v = refl
  puts_byte_is rest files.Rlf i literals.Sublw v = refl
  puts_byte_is rest files.Rlf i literals.Xorlw v = refl
  puts_byte_is rest files.Rrf i literals.Addlw v = refl
  puts_byte_is rest files.Rrf i literals.Andlw v = refl
  puts_byte_is rest files.Rrf i literals.Iorlw v = refl
  puts_byte_is rest files.Rrf i literals.Movlw v = refl
  puts_byte_is rest files.Rrf i literals.Retlw v = refl
  puts_byte_is rest files.Rrf i literals.Sublw v = refl
  puts_byte_is rest files.Rrf i literals.Xorlw v = refl
  puts_byte_is rest files.Subwf i literals.Addlw v = refl
  puts_byte_is rest files.Subwf i literals.Andlw v = refl
  puts_byte_is rest files.Subwf i literals.Iorlw v = refl
  puts_byte_is rest files.Subwf i literals.Movlw v = refl
  puts_byte_is rest files.Subwf i literals.Retlw v = refl
  puts_byte_is rest files.Subwf i literals.Sublw v = refl
  puts_byte_is rest files.Subwf i literals.Xorlw v = refl
  puts_byte_is rest files.Swapf i literals.Addlw v = refl
  puts_byte_is rest files.Swapf i literals.Andlw v = refl
  puts_byte_is rest files.Swapf i literals.Iorlw v = refl
  puts_byte_is rest files.Swapf i literals.Movlw v = refl
  puts_byte_is rest files.Swapf i literals.Retlw v = refl
  puts_byte_is rest files.Swapf i literals.Sublw v = refl
  puts_byte_is rest files.Swapf i literals.Xorlw v = refl
  puts_byte_is rest files.Xorwf i literals.Addlw v = refl
  puts_byte_is rest files.Xorwf i literals.Andlw v = refl
  puts_byte_is rest files.Xorwf i literals.Iorlw v = refl
  puts_byte_is rest files.Xorwf i literals.Movlw v = refl
  puts_byte_is rest files.Xorwf i literals.Retlw v = refl
  puts_byte_is rest files.Xorwf i literals.Sublw v = refl
  puts_byte_is rest files.Xorwf i literals.Xorlw v = refl

  pub narrows_is : (rest : List ListedRow) (op : FileOperation) (a b : Aim) → narrows_for k block n rest op a b ≡ on_bytes (narrows_for k block n rest op) (aim_byte a) (aim_byte b)
  narrows_is rest op (ToByte i) (ToByte j) = refl
  narrows_is rest op (ToByte i) ToFsr = refl
  narrows_is rest op (ToByte i) ToEvent = refl
  narrows_is rest op (ToByte i) Through = refl
  narrows_is rest op (ToByte i) Nowhere = refl
  narrows_is rest op ToFsr b = refl
  narrows_is rest op ToEvent b = refl
  narrows_is rest op Through b = refl
  narrows_is rest op Nowhere b = refl

  pub call_is : (rest : List ListedRow) (name : BlockName) (callee : ListedBlock) → callee ≡ block_in k.blocks name → calls k block n rest callee ≡ keeps_call k block n rest (targets.Block name)
  call_is rest name callee is = ap (calls k block n rest) is

  pub tested_is : (rest : List ListedRow) (flag : FlagName) (turned : Bool) (op : BitOperation) (operand : Operand) (b : ℕ) → is_tested k block n rest flag turned (syms.Bit op operand b) ≡ tests_bit k block n rest flag turned op operand b
  tested_is rest flag turned bit_ops.Bcf (operands.Register Status) b = refl
  tested_is rest flag turned bit_ops.Bcf (operands.Register Indf) b = refl
  tested_is rest flag turned bit_ops.Bcf (operands.Register Fsr) b = refl
  tested_is rest flag turned bit_ops.Bcf (operands.Register Pclath) b = refl
  tested_is rest flag turned bit_ops.Bcf (operands.Byte byte) b = refl
  tested_is rest flag turned bit_ops.Bcf (operands.Saved cell) b = refl
  tested_is rest flag turned bit_ops.Bsf (operands.Register Status) b = refl
  tested_is rest flag turned bit_ops.Bsf (operands.Register Indf) b = refl
  tested_is rest flag turned bit_ops.Bsf (operands.Register Fsr) b = refl
  tested_is rest flag turned bit_ops.Bsf (operands.Register Pclath) b = refl
  tested_is rest flag turned bit_ops.Bsf (operands.Byte byte) b = refl
  tested_is rest flag turned bit_ops.Bsf (operands.Saved cell) b = refl
  tested_is rest flag turned bit_ops.Btfsc (operands.Register Status) b = refl
  tested_is rest flag turned bit_ops.Btfsc (operands.Register Indf) b = refl
  tested_is rest flag turned bit_ops.Btfsc (operands.Register Fsr) b = refl
  tested_is rest flag turned bit_ops.Btfsc (operands.Register Pclath) b = refl
  tested_is rest flag turned bit_ops.Btfsc (operands.Byte byte) b = refl
  tested_is rest flag turned bit_ops.Btfsc (operands.Saved cell) b = refl
  tested_is rest flag turned bit_ops.Btfss (operands.Register Status) b = refl
  tested_is rest flag turned bit_ops.Btfss (operands.Register Indf) b = refl
  tested_is rest flag turned bit_ops.Btfss (operands.Register Fsr) b = refl
  tested_is rest flag turned bit_ops.Btfss (operands.Register Pclath) b = refl
  tested_is rest flag turned bit_ops.Btfss (operands.Byte byte) b = refl
  tested_is rest flag turned bit_ops.Btfss (operands.Saved cell) b = refl
