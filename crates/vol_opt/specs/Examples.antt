-- Typed programs by hand, and what is kept of each.
use Rattle.std.specs.Prelude.{◌≡◌, ℕ, pos, Bool, true, false, List, [], ◌∷◌, map}
use Rattle.c_ints.specs.declared.operators.BinOp.TheVariants as binop
use Rattle.c_ints.specs.declared.types.IntTy.TheVariants as int
use Rattle.c_typed.specs.Fits.{register_type}
use Rattle.c_typed.specs.Trees as tree
use Rattle.c_typed.specs.Trees.{Expression, Place, Statement, Statements, FunctionTree, MemberTree, StructureTree, StaticTree, Program}
use Rattle.c_typed.specs.declared.expression.Object.TheVariants as object
use Rattle.c_typed.specs.declared.program.Initial.{Initial}
use Rattle.c_typed.specs.declared.program.InitialByte.TheVariants as initial
use Rattle.c_typed.specs.declared.types.Qualified.{Qualified}
use Rattle.c_typed.specs.declared.types.Ty.{Ty}
use Rattle.c_typed.specs.declared.types.Ty.TheVariants.{Void, Int, Pointer, Array, Struct}
use Rattle.vol_opt.specs.Kept.{kept_of}

-- ---- parts of programs
abbrev pub plain : Ty → Qualified
plain ty = record { ty = ty; constant = false; volatile = false }

abbrev pub volatile : Ty → Qualified
volatile ty = record { ty = ty; constant = false; volatile = true }

abbrev pub byte : Ty
byte = Int int.UChar

abbrev pub object_with : List Initial → Qualified → StaticTree
object_with first ty = record { name = []; ty = ty; initial = first; line = 1 }

abbrev pub object_of : Qualified → StaticTree
object_of = object_with []

abbrev pub structure_of : List Qualified → StructureTree
structure_of members = record { members = map (λ ty. record { ty = ty; offset = 0 }) members; size = 1 }

abbrev pub body_of : List Statement → Statements
body_of [] = tree.NoStatement
body_of (s ∷ ss) = tree.AndStatement s (body_of ss)

abbrev pub function_of : Bool → List Statement → FunctionTree
function_of interrupt statements = record { name = []; result = Void; params = []; locals = []; body = body_of statements; interrupt = interrupt; line = 1 }

abbrev pub program_of : List Qualified → List StructureTree → List StaticTree → List FunctionTree → Program
program_of targets structures statics functions = record { targets = targets; structures = structures; sizes = []; statics = statics; functions = functions }

-- these functions, with so many plain bytes
abbrev pub with_bytes : List StaticTree → List FunctionTree → Program
with_bytes = program_of [] []

abbrev pub x : StaticTree
x = object_of (plain byte)

-- these objects, in a program that does nothing
abbrev pub objects_of : List Qualified → List StructureTree → List Qualified → Program
objects_of targets structures types = program_of targets structures (map object_of types) (function_of false [] ∷ [])

-- ---- nodes
abbrev pub static : ℕ → Place
static number = tree.Name (object.Static number) (plain byte) 1

abbrev pub read : Place → Expression
read place = tree.Read place byte 1

abbrev pub address : Place → Expression
address place = tree.Address place (Pointer 0) 1

-- `OBJECT = 1;`, `PORTB = OBJECT;`, `VALUE;`, `f();`
abbrev pub writes : ℕ → Statement
writes number = tree.Expr (tree.Assign (static number) (tree.Constant (record { ty = int.UChar; number = pos 1 }) 1) byte 1) 1

abbrev pub shows : ℕ → Statement
shows number = tree.Expr (tree.Assign (tree.Name (object.Register 6) register_type 1) (read (static number)) byte 1) 1

abbrev pub value : Expression → Statement
value e = tree.Expr e 1

abbrev pub calls : ℕ → Statement
calls function = tree.Expr (tree.Call function tree.NoExpression Void 1) 1

-- `ARRAY[0]`
abbrev pub element : ℕ → Place
element number = tree.Deref (tree.Offset binop.Add (address (static number)) (tree.Constant (record { ty = int.Int; number = pos 0 }) 1) 1 (Pointer 0) 1) (plain byte) 1

pub record WorkedPrograms : Type 0 where
  -- `x = 1; x = 1; PORTB = x;`
  pub private : kept_of (with_bytes (x ∷ []) (function_of false (writes 0 ∷ writes 0 ∷ shows 0 ∷ []) ∷ [])) ≡ false ∷ []
  -- a volatile byte, beside one that isn't; a pointer to a volatile byte, and a volatile pointer
  pub own : kept_of (objects_of (volatile byte ∷ plain byte ∷ []) [] (volatile byte ∷ plain byte ∷ plain (Pointer 0) ∷ volatile (Pointer 1) ∷ [])) ≡ true ∷ false ∷ false ∷ true ∷ []
  -- structure 1 has a member of structure 0, which has a volatile member; structure 2 has a pointer to structure 0; and arrays of these, of
  -- one dimension and of two
  pub deep : kept_of (objects_of (plain (Struct 1) ∷ plain (Struct 2) ∷ plain (Array 0 2 2) ∷ plain (Struct 0) ∷ [])
      (structure_of (plain byte ∷ volatile byte ∷ []) ∷ structure_of (plain (Struct 0) ∷ []) ∷ structure_of (plain byte ∷ plain (Pointer 3) ∷ []) ∷ [])
      (plain (Struct 0) ∷ plain (Struct 1) ∷ plain (Struct 2) ∷ plain (Array 0 2 2) ∷ plain (Array 1 2 2) ∷ plain (Array 2 2 4) ∷ [])) ≡ true ∷ true ∷ false ∷ true ∷ false ∷ true ∷ []
  -- a structure that stands before the one that is its member, as one is declared that gets its body later
  pub later : kept_of (objects_of [] (structure_of (plain (Struct 1) ∷ []) ∷ structure_of (plain (Struct 2) ∷ []) ∷ structure_of (volatile byte ∷ []) ∷ []) (plain (Struct 0) ∷ [])) ≡ true ∷ []
  -- main, a handler that reads object 0 and calls function 3, which writes object 1; nothing calls function 2, which writes object 2 as main does
  pub handler : kept_of (with_bytes (x ∷ x ∷ x ∷ []) (function_of false (writes 2 ∷ []) ∷ function_of true (shows 0 ∷ calls 3 ∷ []) ∷ function_of false (writes 2 ∷ []) ∷ function_of false (writes 1 ∷ []) ∷ [])) ≡ true ∷ true ∷ false ∷ []
  -- without a handler none is
  pub unhandled : kept_of (with_bytes (x ∷ x ∷ x ∷ []) (function_of false (writes 2 ∷ []) ∷ function_of false (shows 0 ∷ calls 3 ∷ []) ∷ function_of false (writes 2 ∷ []) ∷ function_of false (writes 1 ∷ []) ∷ [])) ≡ false ∷ false ∷ false ∷ []
  -- a function that nothing calls takes the address of object 0, and of a member of object 1; object 2 is indexed; object 3 is read through,
  -- and what it leads to is a member of no object
  pub addresses : kept_of (with_bytes (x ∷ x ∷ x ∷ x ∷ x ∷ []) (function_of false (writes 4 ∷ []) ∷ function_of false (value (address (static 0)) ∷ value (address (tree.Member (static 1) 0 0 (plain byte) 1)) ∷ value (read (element 2)) ∷ value (address (tree.Member (tree.Deref (read (static 3)) (plain (Struct 0)) 1) 0 0 (plain byte) 1)) ∷ []) ∷ [])) ≡ true ∷ true ∷ true ∷ false ∷ false ∷ []
  -- object 1 begins with the address of object 0
  pub first : kept_of (with_bytes (x ∷ object_with (record { offset = 0; byte = initial.Address 0 0 } ∷ record { offset = 1; byte = initial.Address 0 1 } ∷ []) (plain (Pointer 0)) ∷ x ∷ []) (function_of false [] ∷ [])) ≡ true ∷ false ∷ false ∷ []
  -- a structure that is copied is no address that is used
  pub copied : kept_of (with_bytes (x ∷ x ∷ []) (function_of false (value (tree.StructAssign (static 0) (static 1) 1 1) ∷ []) ∷ [])) ≡ false ∷ false ∷ []
