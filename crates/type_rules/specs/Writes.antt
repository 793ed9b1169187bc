-- Assignments, `++` and `--`, and calls (ISO/IEC 9899:1990, 6.3.2.2, 6.3.2.4, 6.3.3.1 and 6.3.16).
use Rattle.std.specs.Prelude.{ℕ, Bool, true, false, not, ◌&&◌, if◌then◌else◌, nat_eq, List, [], ◌∷◌, length, Option, Some, None, is_some, slice_get}
use Rattle.c_ints.specs.Conversions.{common}
use Rattle.c_ints.specs.declared.operators.BinOp.{BinOp}
use Rattle.c_ints.specs.declared.types.IntTy.TheVariants as int
use Rattle.c_token.specs.declared.token.TokKind.{TokKind}
use Rattle.c_token.specs.declared.token.TokKind.TheVariants as kinds
use Rattle.c_typed.specs.Sameness.{same_type, is_int}
use Rattle.c_typed.specs.Trees as typed
use Rattle.c_typed.specs.Trees.{Expression, Expressions, Place}
use Rattle.c_typed.specs.Types.{type_of, place_type}
use Rattle.c_typed.specs.declared.expression.StepOp.{StepOp}
use Rattle.c_typed.specs.declared.types.Ty.{Ty}
use Rattle.c_typed.specs.declared.types.Ty.TheVariants.{Int, Pointer, Struct}
use Rattle.type_rules.specs.Faults as kind
use Rattle.type_rules.specs.Known.{Signature, Known, Rule, given, known_here, tried, wanted, ◌>>=◌}
use Rattle.type_rules.specs.Rows.{bytes_of}
use Rattle.type_rules.specs.Terms.{Form, PlaceForm, FunctionForm, Term, Operand, side_of, value_term, no_table, is_written}
use Rattle.type_rules.specs.Conversions.{converted, assigned}
use Rattle.type_rules.specs.Operations.{Node, Plain, Moved, Difference, operation_of, compound_of, counts_in, element_bytes}

-- The left side of an assignment, `++` and `--` is a place that is neither const nor an array.
abbrev pub written_place : Form → Option Place
written_place (PlaceForm place reach) = if is_written (PlaceForm place reach) then Some place else None
written_place _ = None

-- ---- `=`

-- the place whose structure a value is
abbrev pub structure_read : Expression → Option Place
structure_read (typed.Read place ty line) = Some place
structure_read _ = None

-- A structure goes to a structure of the same type; one that a comma gives is none.
abbrev pub copy : Place → Operand → ℕ → Rule Term
copy place x line = do
  known ← known_here
  _ ← tried ((not (same_type (type_of x.value) (place_type place).ty), kind.Convert) ∷ []) line
  from ← wanted kind.Convert line (structure_read x.value)
  given (value_term (typed.StructAssign place from (bytes_of known (place_type place).ty) line) line)

abbrev pub simple_assignment : Ty → Place → Operand → ℕ → Rule Term
simple_assignment (Struct number) place x line = copy place x line
simple_assignment ty place x line = do
  value ← assigned x ty line
  given (value_term (typed.Assign place value ty line) line)

-- ---- `op=` (6.3.16.2): the operator's result becomes the place's type

abbrev pub keeps_type : Node → Ty → Ty → Bool
keeps_type Plain place result = is_int place
keeps_type Moved place result = same_type result place
keeps_type Difference place result = false

abbrev pub compound_assignment : BinOp → Place → Operand → ℕ → Rule Term
compound_assignment op place x line = do
  known ← known_here
  found ← wanted kind.Operand line (operation_of known op (record { ty = (place_type place).ty; null = false }) (side_of x))
  _ ← tried ((not (keeps_type found.node (place_type place).ty found.ty), kind.Convert) ∷ []) line
  given (value_term (typed.Update op place (converted x found.right) found.left found.size (place_type place).ty line) line)

abbrev pub assignment_by : Option BinOp → Place → Operand → ℕ → Rule Term
assignment_by None place x line = simple_assignment (place_type place).ty place x line
assignment_by (Some op) place x line = compound_assignment op place x line

abbrev pub sign_operator : TokKind → Option BinOp
sign_operator (kinds.Punct p) = compound_of p
sign_operator _ = None

-- A const array on the left was refused before the right side.
abbrev pub assignment : TokKind → Term → Operand → Rule Term
assignment sign target x = do
  place ← wanted kind.Assign target.start (written_place target.form)
  assignment_by (sign_operator sign) place x target.start

-- ---- `++` and `--`: an integer counts in its common type with int, a pointer in elements

abbrev pub counted : Known → Ty → Option (Ty × ℕ)
counted known (Int ty) = Some (Int (common ty int.Int), 0)
counted known (Pointer row) = if counts_in known row then Some (Pointer row, element_bytes known row) else None
counted known _ = None

abbrev pub stepped : StepOp → Term → ℕ → Rule Term
stepped op t line = do
  _ ← no_table t
  place ← wanted kind.Assign line (written_place t.form)
  known ← known_here
  found ← wanted kind.Operand line (counted known (place_type place).ty)
  given (value_term (typed.Step op place found.0 found.1 (place_type place).ty line) line)

-- ---- calls

-- the number of the function that a term names without brackets
abbrev pub function_named : Form → Option ℕ
function_named (FunctionForm number true) = Some number
function_named _ = None

abbrev pub signature_in : Known → Option ℕ → Option Signature
signature_in known None = None
signature_in known (Some number) = slice_get known.signatures number

abbrev pub definition_in : Option Signature → Option ℕ
definition_in None = None
definition_in (Some s) = s.definition

-- A function that is called is defined somewhere. This is the name's own rule, before the arguments.
abbrev pub called : Term → Rule Known
called t = do
  known ← known_here
  _ ← no_table t
  tried ((is_some (function_named t.form) && not (is_some (definition_in (signature_in known (function_named t.form)))), kind.Name) ∷ []) t.line

-- Each argument becomes the type of its parameter; there are as many as these.
abbrev pub passed : List Operand → List Ty → ℕ → Rule Expressions
passed [] types line = given typed.NoExpression
passed (x ∷ xs) [] line = given typed.NoExpression
passed (x ∷ xs) (ty ∷ types) line = do
  value ← assigned x ty line
  values ← passed xs types line
  given (typed.AndExpression value values)

abbrev pub call : Term → List Operand → Rule Term
call t arguments = do
  known ← known_here
  signature ← wanted kind.Call t.start (signature_in known (function_named t.form))
  function ← wanted kind.Name t.start signature.definition
  _ ← tried ((not (nat_eq (length signature.params) (length arguments)), kind.Call) ∷ []) t.start
  values ← passed arguments signature.params t.start
  given (value_term (typed.Call function values (signature.result).ty t.start) t.start)
