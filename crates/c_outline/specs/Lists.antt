-- What a call answers that puts a parameter after a list, and what a declarator makes of arrays.
use Rattle.std.specs.Prelude.{◌≡◌, ℕ, List, Option, Some, None, Result, Ok, Err}
use Rattle.c_tables.specs.Answers.{Refuses}
use Rattle.c_tables.specs.declared.error.CheckError.{CheckError}
use Rattle.c_typed.specs.declared.types.Qualified.{Qualified}
use Rattle.c_typed.specs.declared.types.Ty.{Ty}
use Rattle.c_typed.specs.declared.types.Ty.TheVariants.{Array}
use Rattle.type_rules.specs.Faults.{Fault}
use Rattle.type_rules.specs.Known.{Waiting, Whole, OneArray, Known, Rule, given, go_on, ◌>>=◌}
use Rattle.type_rules.specs.Outlines.{Param, Made, ArrayMade, FunctionMade, Declared, ObjectDeclared, FunctionDeclared, Outline, behind, pointer_outline}
use Rattle.type_rules.specs.Rows.{plain, like, pointer_to, target_of}

-- The list behind the call, and what is known there.
abbrev pub Lists : Result Unit CheckError → List Param → Known → Result (List Param × Known) Fault → Type 0
Lists (Ok x) list after said = said ≡ Ok (list, after)
Lists (Err e) list after said = Refuses e said

-- what is declared where it is an array, and the row of its elements
abbrev pub array_of_type : Ty → Qualified → Option (Qualified × ℕ)
array_of_type (Array row count size) whole = Some (whole, row)
array_of_type _ whole = None

abbrev pub array_of_declared : Declared → Option (Qualified × ℕ)
array_of_declared (ObjectDeclared whole) = array_of_type whole.ty whole
array_of_declared (FunctionDeclared result params scope) = None

-- a parameter that is an array by the name of its type
abbrev pub by_array : Outline → Option (Qualified × ℕ) → Rule Outline
by_array o None known = Ok (o, known)
by_array o (Some array) known = go_on (λ (made : Ty). given (record o { declared = ObjectDeclared (plain made) })) (pointer_to (like array.0 (target_of known array.1).ty) known)

-- the element of what waits for one array
abbrev pub waiting_element : Waiting → Declared → Option Qualified
waiting_element (OneArray n) (ObjectDeclared element) = Some element
waiting_element _ _ = None

abbrev pub pointer_instead : Outline → Qualified → Rule Outline
pointer_instead o element = do
  ty ← pointer_to element
  given (record o { declared = ObjectDeclared (plain ty); waiting = Whole })

-- what the outermost suffix makes of a parameter
abbrev pub outermost : Made → Outline → Rule Outline
outermost (ArrayMade count) o = pointer_outline o o.declared
outermost (FunctionMade params scope) o = behind (FunctionMade params scope) o
