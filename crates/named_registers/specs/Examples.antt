-- Typed programs by hand, and the first foreign line of each.
use Rattle.std.specs.Prelude.{◌≡◌, ℕ, false, List, [], ◌∷◌, Option, Some, None, map}
use Rattle.c_typed.specs.Fits.{register_type}
use Rattle.c_typed.specs.Trees as tree
use Rattle.c_typed.specs.Trees.{Expression, Place, Statement, Statements, FunctionTree, Program}
use Rattle.c_typed.specs.declared.expression.Object.TheVariants as object
use Rattle.c_typed.specs.declared.statement.LoopForm.TheVariants.{For}
use Rattle.c_typed.specs.declared.types.Ty.TheVariants.{Void}
use Rattle.pic_chip.specs.SmallAddress.{is_small_register}
use Rattle.named_registers.specs.Foreign.{first_foreign}

abbrev pub body_of : List Statement → Statements
body_of [] = tree.NoStatement
body_of (s ∷ ss) = tree.AndStatement s (body_of ss)

abbrev pub function_of : List Statement → FunctionTree
function_of statements = record { name = []; result = Void; params = []; locals = []; body = body_of statements; interrupt = false; line = 1 }

-- a program whose functions have these statements
abbrev pub program_with : List (List Statement) → Program
program_with bodies = record { targets = []; structures = []; sizes = []; statics = []; functions = map function_of bodies }

abbrev pub register : ℕ → ℕ → Place
register address line = tree.Name (object.Register address) register_type line

-- `REGISTER;` and `REGISTER=BIT;`
abbrev pub read : ℕ → ℕ → Expression
read address line = tree.Read (register address line) register_type.ty line

abbrev pub write_bit : ℕ → ℕ → ℕ → Expression
write_bit address from line = tree.Assign (register address line) (tree.Read (tree.Bit from 0 line) register_type.ty line) register_type.ty line

-- `for (;;READ) ;`
abbrev pub turns : Expression → ℕ → Statement
turns step line = tree.Loop For None None (Some step) (tree.Empty line) line

abbrev pub first_line : List (List Statement) → Option ℕ
first_line bodies = first_foreign is_small_register (program_with bodies)

-- PORTB, TRISA and INTCON are on both chips. PORTC isn't, nor is a bit of it, wherever they stand; the least line counts, and not the first
-- function.
pub record WorkedPrograms : Type 0 where
  pub shared : first_line ((tree.Expr (write_bit 0x06 0x0b 1) 1 ∷ turns (read 0x85 2) 2 ∷ []) ∷ []) ≡ None
  pub alone : first_line ((tree.Expr (read 0x07 3) 3 ∷ []) ∷ []) ≡ Some 3
  pub bit : first_line ((tree.Expr (write_bit 0x06 0x07 4) 4 ∷ []) ∷ []) ≡ Some 4
  pub step : first_line ((turns (read 0x07 5) 5 ∷ []) ∷ []) ≡ Some 5
  pub least : first_line ((tree.Expr (read 0x8c 9) 9 ∷ []) ∷ (tree.Expr (read 0x06 6) 6 ∷ tree.Expr (read 0x1e 7) 7 ∷ []) ∷ []) ≡ Some 7
