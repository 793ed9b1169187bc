-- Small programs as typed trees. All nodes stand at line 1.
use Rattle.std.specs.Prelude.{ℕ, Bool, true, false, ℤ, pos, negsuc, List, [], ◌∷◌, Option, Some, None, codes}
use Rattle.c_ints.specs.declared.operators.BinOp.{BinOp}
use Rattle.c_ints.specs.declared.operators.BinOp.TheVariants as ops
use Rattle.c_ints.specs.declared.types.IntTy.{IntTy}
use Rattle.c_ints.specs.declared.types.IntTy.TheVariants as int
use Rattle.c_typed.specs.Trees as tree
use Rattle.c_typed.specs.Trees.{Expression, Place, Statement, Statements, Arm, FunctionTree, StaticTree, VariableTree, Program}
use Rattle.c_typed.specs.declared.expression.Object.TheVariants as names
use Rattle.c_typed.specs.declared.expression.StepOp.TheVariants as steps
use Rattle.c_typed.specs.declared.statement.LoopForm.TheVariants as forms
use Rattle.c_typed.specs.declared.program.Initial.{Initial}
use Rattle.c_typed.specs.declared.program.InitialByte.TheVariants as initial
use Rattle.c_typed.specs.declared.types.Qualified.{Qualified}
use Rattle.c_typed.specs.declared.types.Ty.{Ty}
use Rattle.c_typed.specs.declared.types.Ty.TheVariants as types

-- ---- types: the first of the targets is unsigned char, and the second a pointer to it
abbrev pub uchar : Ty
uchar = types.Int int.UChar

abbrev pub uint : Ty
uint = types.Int int.UInt

abbrev pub sint : Ty
sint = types.Int int.Int

abbrev pub to_uchar : Ty
to_uchar = types.Pointer 0

abbrev pub plain : Ty → Qualified
plain ty = record { ty = ty; constant = false; volatile = false }

-- ---- expressions
abbrev pub number : IntTy → ℤ → Expression
number ty n = tree.Constant (record { ty = ty; number = n }) 1

-- a number as an unsigned char
abbrev pub byte : ℕ → Expression
byte n = number int.UChar (pos n)

abbrev pub as_uchar : Expression → Expression
as_uchar e = tree.Convert e uchar 1

abbrev pub operate : BinOp → Ty → Expression → Expression → Expression
operate op ty a b = tree.Binary op a b ty 1

-- ---- places
abbrev pub device : ℕ → Place
device address = tree.Name (names.Register address) (plain uchar) 1

abbrev pub static_at : ℕ → Ty → Place
static_at n ty = tree.Name (names.Static n) (plain ty) 1

abbrev pub local_at : ℕ → Ty → Place
local_at n ty = tree.Name (names.Local n) (plain ty) 1

abbrev pub param_at : ℕ → Ty → Place
param_at n ty = tree.Name (names.Param n) (plain ty) 1

abbrev pub pointed : Expression → Place
pointed e = tree.Deref e (plain uchar) 1

-- ---- statements
abbrev pub put : Place → Ty → Expression → Statement
put place ty e = tree.Expr (tree.Assign place e ty 1) 1

-- PORTA, PORTB, PORTC and INTCON get a byte; a bit of INTCON becomes 0 or 1
abbrev pub porta : Expression → Statement
porta e = put (device 5) uchar e

abbrev pub portb : Expression → Statement
portb e = put (device 6) uchar e

abbrev pub portc : Expression → Statement
portc e = put (device 7) uchar e

abbrev pub intcon : Expression → Statement
intcon e = put (device 0x0b) uchar e

abbrev pub intcon_bit : ℕ → ℕ → Statement
intcon_bit bit value = put (tree.Bit 0x0b bit 1) uchar (byte value)

abbrev pub statements : List Statement → Statements
statements [] = tree.NoStatement
statements (t ∷ ts) = tree.AndStatement t (statements ts)

-- ---- programs
abbrev pub variable : Ty → VariableTree
variable ty = record { name = []; ty = plain ty; line = 1 }

abbrev pub function_of : List ℕ → Ty → List VariableTree → List VariableTree → Bool → List Statement → FunctionTree
function_of name result params locals interrupt body = record { name = name; result = result; params = params; locals = locals; body = statements body; interrupt = interrupt; line = 1 }

abbrev pub main_of : List VariableTree → List Statement → FunctionTree
main_of locals body = function_of (codes "main") types.Void [] locals false body

abbrev pub handler_of : List Statement → FunctionTree
handler_of body = function_of (codes "h") types.Void [] [] true body

abbrev pub helper_of : Ty → List VariableTree → List VariableTree → List Statement → FunctionTree
helper_of result params locals body = function_of (codes "f") result params locals false body

abbrev pub static_of : Ty → List Initial → StaticTree
static_of ty bytes = record { name = codes "x"; ty = plain ty; initial = bytes; line = 1 }

abbrev pub program_of : List StaticTree → List FunctionTree → Program
program_of statics functions = record { targets = plain uchar ∷ plain to_uchar ∷ []; structures = []; sizes = []; statics = statics; functions = functions }

-- ---- choices
abbrev pub for_ever : Statement → Statement
for_ever body = tree.Loop forms.For None None None body 1

abbrev pub block : List Statement → Statement
block ts = tree.Block (statements ts) 1

abbrev pub arm : Expression → Statement → Arm
arm condition chosen = tree.OneArm condition chosen 1

abbrev pub input_at : ℕ → Expression
input_at address = tree.Read (device address) uchar 1

abbrev pub choose : Expression → Expression → Expression → Expression
choose condition chosen otherwise = tree.Conditional condition chosen otherwise sint 1

-- void main(void) { for (;;) if (PORTA) PORTB = 1; else if (1) { PORTB = PORTA ? 3 : PORTC ? 4 : 5; break; } }
abbrev pub chooses : Program
chooses = program_of []
    (main_of []
    (for_ever
    (tree.If
    (tree.AndArm (arm (input_at 5) (portb (byte 1)))
    (tree.AndArm (arm (number int.Int (pos 1))
    (block
    (portb (as_uchar (choose (input_at 5) (number int.Int (pos 3)) (choose (input_at 7) (number int.Int (pos 4)) (number int.Int (pos 5)))))
    ∷ tree.Break 1
    ∷ [])))
    tree.NoArm))
    tree.NoLast 1)
    ∷ [])
    ∷ [])

-- ---- handler and main together
-- INTF = 0;
abbrev pub flag_off : Statement
flag_off = intcon_bit 1 0

-- unsigned int t = 0x00FF; void interrupt h(void) { t++; INTF = 0; }
-- void main(void) { unsigned int v; INTCON = 0x90; v = t; PORTB = v >> 8; PORTC = v; }
abbrev pub torn_read : Program
torn_read = program_of
    (static_of uint (record { offset = 0; byte = initial.Number 0xff } ∷ []) ∷ [])
    (handler_of (tree.Expr (tree.Step steps.PostIncrement (static_at 0 uint) uint 0 uint 1) 1 ∷ flag_off ∷ [])
    ∷ main_of (variable uint ∷ [])
    (tree.Declare 0 1
    ∷ intcon (byte 0x90)
    ∷ put (local_at 0 uint) uint (tree.Read (static_at 0 uint) uint 1)
    ∷ portb (as_uchar (operate ops.Shr uint (tree.Read (local_at 0 uint) uint 1) (number int.Int (pos 8))))
    ∷ portc (as_uchar (tree.Read (local_at 0 uint) uint 1))
    ∷ [])
    ∷ [])

-- void main(void) { INTCON = 0x10; INTCON &= 0xFD; PORTB = INTCON; }
abbrev pub lost_flag : Program
lost_flag = program_of []
    (main_of []
    (intcon (byte 0x10)
    ∷ tree.Expr (tree.Update ops.And (device 0x0b) (number int.Int (pos 0xfd)) sint 0 uchar 1) 1
    ∷ portb (tree.Read (device 0x0b) uchar 1)
    ∷ [])
    ∷ [])

-- void interrupt h(void) { PORTB = 1; INTF = 0; }
-- void main(void) { INTE = 1; GIE = 1; PORTA = 2; }
abbrev pub pending_flag : Program
pending_flag = program_of []
    (handler_of (portb (byte 1) ∷ flag_off ∷ [])
    ∷ main_of [] (intcon_bit 4 1 ∷ intcon_bit 7 1 ∷ porta (byte 2) ∷ [])
    ∷ [])

-- the value of the parameter of this number
abbrev pub param : ℕ → Expression
param n = tree.Read (param_at n uchar) uchar 1

abbrev pub result : Expression → Statement
result e = tree.Return (Some e) 1

abbrev pub one_argument : ℕ → Expression → Expression
one_argument f e = tree.Call f (tree.AndExpression e tree.NoExpression) uchar 1

abbrev pub two_arguments : ℕ → Expression → Expression → Expression
two_arguments f a b = tree.Call f (tree.AndExpression a (tree.AndExpression b tree.NoExpression)) uchar 1

-- unsigned char f(unsigned char a, unsigned char b) { return a + b; }
-- unsigned char g(unsigned char x) { return f(x, 3); }
-- void main(void) { PORTB = f(1, g(2)); }
abbrev pub overlaid : Program
overlaid = program_of []
    (helper_of uchar (variable uchar ∷ variable uchar ∷ []) [] (result (as_uchar (operate ops.Add sint (tree.Convert (param 0) sint 1) (tree.Convert (param 1) sint 1))) ∷ [])
    ∷ helper_of uchar (variable uchar ∷ []) [] (result (two_arguments 0 (param 0) (byte 3)) ∷ [])
    ∷ main_of [] (portb (two_arguments 0 (byte 1) (one_argument 1 (byte 2))) ∷ [])
    ∷ [])

-- ---- a program for each kind of undefined step
-- PORTB = E; in a main with an unsigned char, and two unsigned char objects
abbrev pub shows : Expression → Program
shows e = program_of (static_of uchar [] ∷ static_of uchar [] ∷ []) (main_of (variable uchar ∷ []) (portb (as_uchar e) ∷ []) ∷ [])

abbrev pub ints : BinOp → ℤ → ℤ → Program
ints op a b = shows (operate op sint (number int.Int a) (number int.Int b))

abbrev pub address_of : Place → Expression
address_of place = tree.Address place to_uchar 1

-- 1 / 0, (-32768) / (-1), and 1 << 16
abbrev pub divides : Program
divides = ints ops.Div (pos 1) (pos 0)

abbrev pub overflows : Program
overflows = ints ops.Div (negsuc 32767) (negsuc 0)

abbrev pub shifts : Program
shifts = ints ops.Shl (pos 1) (pos 16)

-- a local without a value
abbrev pub reads_unset : Program
reads_unset = shows (tree.Read (local_at 0 uchar) uchar 1)

-- what null points to
abbrev pub reads_null : Program
reads_null = shows (tree.Read (pointed (tree.Convert (number int.Int (pos 0)) to_uchar 1)) uchar 1)

-- &x < &y, and &x + 1 == &y
abbrev pub compares_order : Program
compares_order = shows (operate ops.Lt to_uchar (address_of (static_at 0 uchar)) (address_of (static_at 1 uchar)))

abbrev pub compares_past : Program
compares_past = shows (operate ops.Eq to_uchar (tree.Offset ops.Add (address_of (static_at 0 uchar)) (number int.Int (pos 1)) 1 to_uchar 1) (address_of (static_at 1 uchar)))

-- an object q that points to another object x
abbrev pub pointing : List StaticTree
pointing = static_of to_uchar (record { offset = 0; byte = initial.Address 1 0 } ∷ record { offset = 1; byte = initial.Address 1 1 } ∷ []) ∷ static_of uchar [] ∷ []

abbrev pub pointer_q : Expression
pointer_q = tree.Read (static_at 0 to_uchar) to_uchar 1

-- PORTB = *(unsigned char *)&q;
abbrev pub reads_pointer : Program
reads_pointer = program_of pointing (main_of [] (portb (tree.Read (pointed (tree.Cast (tree.Address (static_at 0 to_uchar) (types.Pointer 1) 1) to_uchar 1)) uchar 1) ∷ []) ∷ [])

-- void f(void) { unsigned char a; q = &a; }  void main(void) { f(); *q = 1; }
abbrev pub writes_left : Program
writes_left = program_of pointing
    (helper_of types.Void [] (variable uchar ∷ []) (put (static_at 0 to_uchar) to_uchar (address_of (local_at 0 uchar)) ∷ [])
    ∷ main_of [] (tree.Expr (tree.Call 0 tree.NoExpression types.Void 1) 1 ∷ put (pointed pointer_q) uchar (byte 1) ∷ [])
    ∷ [])

-- void interrupt h(void) { PORTB = *q; }  void main(void) { unsigned char a = 1; q = &a; INTCON = 0x90; }
abbrev pub reaches_main : Program
reaches_main = program_of pointing
    (handler_of (portb (tree.Read (pointed pointer_q) uchar 1) ∷ [])
    ∷ main_of (variable uchar ∷ []) (tree.InitScalar 0 (byte 1) 1 ∷ put (static_at 0 to_uchar) to_uchar (address_of (local_at 0 uchar)) ∷ intcon (byte 0x90) ∷ [])
    ∷ [])

-- void interrupt h(void) { INTCON = 0x90; }  void main(void) { INTCON = 0x90; }
abbrev pub sets_gie : Program
sets_gie = program_of [] (handler_of (intcon (byte 0x90) ∷ []) ∷ main_of [] (intcon (byte 0x90) ∷ []) ∷ [])

-- no handler: void main(void) { INTCON = 0x90; }
abbrev pub enables_nothing : Program
enables_nothing = program_of [] (main_of [] (intcon (byte 0x90) ∷ []) ∷ [])

-- ---- a structure, which is the third of the targets
abbrev pub structure : Ty
structure = types.Struct 0

abbrev pub to_structure : Ty
to_structure = types.Pointer 2

abbrev pub address_in_q : Place → Statement
address_in_q place = put (local_at 0 to_structure) to_structure (tree.Address place to_structure 1)

-- struct s { unsigned char a; }; struct s x;
-- void main(void) { struct s *q; q = &x; for (;;) { struct s b = *q; q = &b; } }
abbrev pub declares_again : Program
declares_again = record {
  targets = plain uchar ∷ plain to_uchar ∷ plain structure ∷ [];
  structures = record { members = record { ty = plain uchar; offset = 0 } ∷ []; size = 1 } ∷ [];
  sizes = 1 ∷ [];
  statics = static_of structure [] ∷ [];
  functions = main_of (variable to_structure ∷ variable structure ∷ [])
      (tree.Declare 0 1
      ∷ address_in_q (static_at 0 structure)
      ∷ for_ever
      (block
      (tree.Declare 1 1
      ∷ tree.Expr (tree.StructAssign (local_at 1 structure) (tree.Deref (tree.Read (local_at 0 to_structure) to_structure 1) (plain structure) 1) 1 1) 1
      ∷ address_in_q (local_at 1 structure)
      ∷ []))
      ∷ []) ∷ [];
}
