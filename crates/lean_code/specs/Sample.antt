-- A certificate that passes: of the code of `unsigned char ticks; void main(void){ticks++;}`, fifteen instructions, of which six are left.
use Rattle.std.specs.Prelude.{◌≡◌, ℕ, Bool, true, false, List, [], ◌∷◌, Option, Some, None}
use Rattle.pic_world.specs.declared.Root.TheVariants.{Main}
use Rattle.core_code.specs.declared.code.Byte.TheVariants as bytes
use Rattle.sym_code.specs.declared.code.BitOperation.TheVariants as bits
use Rattle.sym_code.specs.declared.code.BlockName.TheVariants.{Copy}
use Rattle.sym_code.specs.declared.code.FileOperation.TheVariants as files
use Rattle.sym_code.specs.declared.code.Into.TheVariants as into
use Rattle.sym_code.specs.declared.code.Label.TheVariants as labels
use Rattle.sym_code.specs.declared.code.Literal.TheVariants.{Number}
use Rattle.sym_code.specs.declared.code.LiteralOperation.TheVariants as literals
use Rattle.sym_code.specs.declared.code.Operand.TheVariants as operands
use Rattle.sym_code.specs.declared.code.Register.TheVariants.{Status}
use Rattle.sym_code.specs.declared.code.Sym.{Sym}
use Rattle.sym_code.specs.declared.code.Sym.TheVariants as syms
use Rattle.sym_code.specs.declared.code.Target.TheVariants as targets
use Rattle.lean_code.specs.Rows.{Keeps, Drops, Puts, Narrows, Unshown, puts}
use Rattle.lean_code.specs.Checked.{KnownByte, ListedNote, ListedRow, Listed, Sketch, rows_in, is_lean}

abbrev said : Option ℕ → List ℕ → Bool → List KnownByte → Bool → Bool → Bool → Bool → List ℕ → Option ℕ → ListedNote
said number held zero known w z dc c bytes carry =
    record { facts = record { number = number; held = held; zero = zero; known = known; twins = []; carry_bit = false; zero_bit = false }; apart = record { w = w; z = z; dc = dc; c = c; bytes = bytes }; carry = carry; shown = Unshown }

abbrev pub sample_rows : List ListedRow
sample_rows =
    Listed (syms.Literal literals.Movlw (Number 1)) Drops (Some (said (None) ([]) false ([]) false false false false ([]) (None))) ∷
    Listed (syms.Movwf (operands.Byte (bytes.Frame 0 0))) Drops (Some (said (Some 1) ([]) false ([]) true false false false ([]) (None))) ∷
    Listed (syms.Clrf (operands.Byte (bytes.Frame 0 1))) Drops (Some (said (Some 1) (1 ∷ []) false (record { byte = 1; number = 1 } ∷ []) true false false false (1 ∷ []) (None))) ∷
    Listed (syms.File files.Movf (operands.Byte (bytes.Static 0 0)) into.W) Keeps (Some (said (Some 1) (1 ∷ []) false (record { byte = 1; number = 1 } ∷ record { byte = 2; number = 0 } ∷ []) true true false false (1 ∷ 2 ∷ []) (None))) ∷
    Listed (syms.Movwf (operands.Byte (bytes.Frame 0 2))) Keeps (Some (said (None) ([]) true (record { byte = 1; number = 1 } ∷ record { byte = 2; number = 0 } ∷ []) false false false false (1 ∷ 2 ∷ []) (None))) ∷
    Listed (syms.Clrf (operands.Byte (bytes.Frame 0 3))) Drops (Some (said (None) (3 ∷ []) true (record { byte = 1; number = 1 } ∷ record { byte = 2; number = 0 } ∷ []) false false false false (1 ∷ 2 ∷ []) (None))) ∷
    Listed (syms.File files.Movf (operands.Byte (bytes.Frame 0 0)) into.W) (Puts literals.Movlw 1) (Some (said (None) (3 ∷ []) false (record { byte = 1; number = 1 } ∷ record { byte = 2; number = 0 } ∷ record { byte = 4; number = 0 } ∷ []) false true false false (1 ∷ 2 ∷ 4 ∷ []) (None))) ∷
    Listed (syms.File files.Addwf (operands.Byte (bytes.Frame 0 2)) into.File) Narrows (Some (said (Some 1) (1 ∷ []) true (record { byte = 1; number = 1 } ∷ record { byte = 2; number = 0 } ∷ record { byte = 4; number = 0 } ∷ []) false true false false (1 ∷ 2 ∷ 4 ∷ []) (None))) ∷
    Listed (syms.File files.Movf (operands.Byte (bytes.Frame 0 1)) into.W) Drops (Some (said (Some 1) (1 ∷ []) false (record { byte = 1; number = 1 } ∷ record { byte = 2; number = 0 } ∷ record { byte = 4; number = 0 } ∷ []) true false false false (1 ∷ 2 ∷ 3 ∷ 4 ∷ []) (Some 3))) ∷
    Listed (syms.Bit bits.Btfsc (operands.Register Status) 0) Drops (Some (said (Some 0) (2 ∷ []) true (record { byte = 1; number = 1 } ∷ record { byte = 2; number = 0 } ∷ record { byte = 4; number = 0 } ∷ []) true true false false (1 ∷ 2 ∷ 3 ∷ 4 ∷ []) (Some 3))) ∷
    Listed (syms.File files.Incfsz (operands.Byte (bytes.Frame 0 1)) into.W) Drops (Some (said (Some 0) (2 ∷ []) true (record { byte = 1; number = 1 } ∷ record { byte = 2; number = 0 } ∷ record { byte = 4; number = 0 } ∷ []) true true false false (1 ∷ 2 ∷ 3 ∷ 4 ∷ []) (Some 3))) ∷
    Listed (syms.File files.Addwf (operands.Byte (bytes.Frame 0 3)) into.File) Drops (Some (said (None) ([]) false (record { byte = 1; number = 1 } ∷ record { byte = 2; number = 0 } ∷ record { byte = 4; number = 0 } ∷ []) true true false false (1 ∷ 2 ∷ 3 ∷ 4 ∷ []) (Some 3))) ∷
    Listed (syms.File files.Movf (operands.Byte (bytes.Frame 0 2)) into.W) Drops (Some (said (None) ([]) false (record { byte = 1; number = 1 } ∷ record { byte = 2; number = 0 } ∷ []) true true true true (1 ∷ 2 ∷ 3 ∷ 4 ∷ []) (Some 3))) ∷
    Listed (syms.Movwf (operands.Byte (bytes.Static 0 0))) Keeps (Some (said (None) (3 ∷ []) true (record { byte = 1; number = 1 } ∷ record { byte = 2; number = 0 } ∷ []) false true true true (1 ∷ 2 ∷ 3 ∷ 4 ∷ []) (None))) ∷
    Listed (syms.Goto (targets.Label labels.Halt)) Keeps (Some (said (None) (3 ∷ []) true (record { byte = 1; number = 1 } ∷ record { byte = 2; number = 0 } ∷ []) false true true true (1 ∷ 2 ∷ 3 ∷ 4 ∷ []) (None))) ∷
    []

abbrev pub sample : Sketch
sample = record {
  blocks = record { name = Copy 0; rows = sample_rows; inside = false; ends = said None [] false [] true true true true [] None; outer = [] } ∷ [];
  handler = None;
  layout = record { objects = record { constant = false; address = 32; size = 1 } ∷ []; frames = record { root = Main; address = 33; size = 11 } ∷ [] };
  rest = [];
  hidden = λ a. false;
}

abbrev pub sample_made : List Sym
sample_made =
    syms.File files.Movf (operands.Byte (bytes.Static 0 0)) into.W ∷
    syms.Movwf (operands.Byte (bytes.Frame 0 2)) ∷
    syms.Literal literals.Movlw (Number 1) ∷
    syms.File files.Addwf (operands.Byte (bytes.Frame 0 2)) into.W ∷
    syms.Movwf (operands.Byte (bytes.Static 0 0)) ∷
    syms.Goto (targets.Label labels.Halt) ∷
    []

abbrev pub SamplePasses : Type 0
SamplePasses = (is_lean sample ≡ true) × (puts (rows_in sample_rows) ≡ sample_made)
