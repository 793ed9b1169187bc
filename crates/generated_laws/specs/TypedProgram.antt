-- The typed program of a generated text.
use Rattle.std.specs.Prelude.{ℕ, zero, suc, ◌+◌, pos, true, false, List, [], ◌∷◌, Some, codes}
use Rattle.c_ints.specs.declared.operators.BinOp.TheVariants as operators
use Rattle.c_ints.specs.declared.types.IntTy.TheVariants as int
use Rattle.c_typed.specs.Trees as typed
use Rattle.c_typed.specs.Trees.{Expression, Place, Statement, Statements, VariableTree, StaticTree, FunctionTree, Program}
use Rattle.c_typed.specs.declared.expression.Object.TheVariants as objects
use Rattle.c_typed.specs.declared.types.Qualified.{Qualified}
use Rattle.c_typed.specs.declared.types.Ty.{Ty}
use Rattle.c_typed.specs.declared.types.Ty.TheVariants as types
use Rattle.generated_laws.specs.Tree.{function_name}

abbrev pub byte : Ty
byte = types.Int int.UChar

abbrev pub plain : Qualified
plain = record { ty = byte; constant = false; volatile = false }

abbrev pub port : Qualified
port = record { ty = byte; constant = false; volatile = true }

abbrev pub variable : ℕ → VariableTree
variable line = record { name = codes "x"; ty = plain; line = line }

-- `x+I` is a sum of ints
abbrev pub sum_at : ℕ → ℕ → Expression
sum_at line i =
    typed.Convert (typed.Binary operators.Add
    (typed.Convert (typed.Read (typed.Name (objects.Param 0) plain line) byte line) (types.Int int.Int) line)
    (typed.Constant (record { ty = int.Int; number = pos i }) line)
    (types.Int int.Int) line) byte line

abbrev pub function_at : ℕ → ℕ → FunctionTree
function_at line i = record {
  name = function_name i;
  result = byte;
  params = variable line ∷ [];
  locals = [];
  body = typed.AndStatement (typed.Return (Some (sum_at line i)) line) typed.NoStatement;
  interrupt = false;
  line = line;
}

-- so many functions from a number on
abbrev pub functions_from : ℕ → ℕ → List FunctionTree → List FunctionTree
functions_from i zero rest = rest
functions_from i (suc n) rest = function_at (i + 2) i ∷ functions_from (suc i) n rest

abbrev pub local : ℕ → Place
local line = typed.Name (objects.Local 0) plain line

abbrev pub register : ℕ → ℕ → Place
register address line = typed.Name (objects.Register address) port line

abbrev pub assigned : ℕ → Place → Expression → Statement
assigned line place value = typed.Expr (typed.Assign place value byte line) line

abbrev pub call_at : ℕ → ℕ → Statement
call_at line i = assigned line (local line) (typed.Call i (typed.AndExpression (typed.Read (local line) byte line) typed.NoExpression) byte line)

-- the calls of so many functions from a number on
abbrev pub calls_from : ℕ → ℕ → ℕ → Statements → Statements
calls_from line i zero rest = rest
calls_from line i (suc n) rest = typed.AndStatement (call_at (line + i) i) (calls_from line (suc i) n rest)

-- PORTB has the address 6, and PORTC 7.
abbrev pub main_at : ℕ → ℕ → FunctionTree
main_at line functions = record {
  name = codes "main";
  result = types.Void;
  params = [];
  locals = variable line ∷ [];
  body = typed.AndStatement (typed.Declare 0 line)
      (typed.AndStatement (assigned (line + 1) (local (line + 1)) (typed.Read (register 6 (line + 1)) byte (line + 1)))
      (calls_from (line + 2) 0 functions
      (typed.AndStatement (assigned (line + 2 + functions) (register 7 (line + 2 + functions)) (typed.Read (local (line + 2 + functions)) byte (line + 2 + functions))) typed.NoStatement)));
  interrupt = false;
  line = line;
}

abbrev pub unused : StaticTree
unused = record { name = codes "s"; ty = plain; initial = []; line = 1 }

unfoldable pub generated_program : ℕ → Program
generated_program functions = record {
  targets = [];
  structures = [];
  sizes = [];
  statics = unused ∷ [];
  functions = functions_from 0 functions (main_at (functions + 2) functions ∷ []);
}
