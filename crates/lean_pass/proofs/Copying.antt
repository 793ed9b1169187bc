-- The rules of reads in the place of others are as the code cuts them.
use Rattle.std.proofs.Common.{◌≡◌, ℕ, Bool, List, Option, Some, None, refl}
use Rattle.sym_code.specs.declared.code.BitOperation.{BitOperation}
use Rattle.sym_code.specs.declared.code.FileOperation.{FileOperation}
use Rattle.sym_code.specs.declared.code.Into.{Into}
use Rattle.sym_code.specs.declared.code.Into.TheVariants as into
use Rattle.sym_code.specs.declared.code.Operand.{Operand}
use Rattle.sym_code.specs.declared.code.Sym.TheVariants as syms
use Rattle.lean_code.specs.Changes.{Aim, ToFsr, ToEvent, ToByte, Through, Nowhere}
use Rattle.lean_code.specs.Checked.{ListedBlock, ListedNote, ListedRow, Sketch, read, reads_for, reads_to, tests_for, is_read}
use Rattle.lean_code.specs.Rows.{operand_before}
use Rattle.lean_pass.specs.Rules.{aim_byte, on_bytes, on_two, on_three, reads_file}

module _ (k : Sketch) (block : ListedBlock) (n : ListedNote) where
  pub reads_is : (rest : List ListedRow) (op : FileOperation) (a b : Aim) → reads_for k block n rest op a b ≡ on_bytes (reads_for k block n rest op) (aim_byte a) (aim_byte b)
  reads_is rest op (ToByte i) (ToByte j) = refl
  reads_is rest op (ToByte i) ToFsr = refl
  reads_is rest op (ToByte i) ToEvent = refl
  reads_is rest op (ToByte i) Through = refl
  reads_is rest op (ToByte i) Nowhere = refl
  reads_is rest op ToFsr b = refl
  reads_is rest op ToEvent b = refl
  reads_is rest op Through b = refl
  reads_is rest op Nowhere b = refl

  pub tests_is : (rest : List ListedRow) (op : BitOperation) (bit : ℕ) (a b : Aim) → tests_for k block n rest op bit a b ≡ on_bytes (tests_for k block n rest op bit) (aim_byte a) (aim_byte b)
  tests_is rest op bit (ToByte i) (ToByte j) = refl
  tests_is rest op bit (ToByte i) ToFsr = refl
  tests_is rest op bit (ToByte i) ToEvent = refl
  tests_is rest op bit (ToByte i) Through = refl
  tests_is rest op bit (ToByte i) Nowhere = refl
  tests_is rest op bit ToFsr b = refl
  tests_is rest op bit ToEvent b = refl
  tests_is rest op bit Through b = refl
  tests_is rest op bit Nowhere b = refl

  pub reads_to_is : (rest : List ListedRow) (op : FileOperation) (a b c : Aim) → reads_to k block n rest op a b c ≡ on_three (reads_to k block n rest op) (aim_byte a) (aim_byte b) (aim_byte c)
  reads_to_is rest op (ToByte i) (ToByte h) (ToByte j) = refl
  reads_to_is rest op (ToByte i) (ToByte h) ToFsr = refl
  reads_to_is rest op (ToByte i) (ToByte h) ToEvent = refl
  reads_to_is rest op (ToByte i) (ToByte h) Through = refl
  reads_to_is rest op (ToByte i) (ToByte h) Nowhere = refl
  reads_to_is rest op (ToByte i) ToFsr c = refl
  reads_to_is rest op (ToByte i) ToEvent c = refl
  reads_to_is rest op (ToByte i) Through c = refl
  reads_to_is rest op (ToByte i) Nowhere c = refl
  reads_to_is rest op ToFsr b c = refl
  reads_to_is rest op ToEvent b c = refl
  reads_to_is rest op Through b c = refl
  reads_to_is rest op Nowhere b c = refl

  pub file_is : (rest : List ListedRow) (before : ℕ) (op : FileOperation) (operand : Operand) (to : Into) → is_read k block n rest before (syms.File op operand to) ≡ reads_file k block n rest op operand to (read k block n (operand_before before operand))
  file_is rest before op operand into.W = refl
  file_is rest before op operand into.File = refl
