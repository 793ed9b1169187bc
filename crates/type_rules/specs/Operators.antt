-- Operators on operands that have values (ISO/IEC 9899:1990, 6.3.3 to 6.3.17): one rule for each kind of node.
use Rattle.std.specs.Prelude.{ℕ, not, ◌&&◌, ◌||◌, if◌then◌else◌, [], ◌∷◌, Option, Some, None}
use Rattle.c_ints.specs.Conversions.{promoted, common}
use Rattle.c_ints.specs.declared.operators.BinOp.{BinOp}
use Rattle.c_ints.specs.declared.operators.UnOp.{UnOp}
use Rattle.c_ints.specs.declared.operators.UnOp.TheVariants as unop
use Rattle.c_token.specs.declared.token.Punct.TheVariants as marks
use Rattle.c_token.specs.declared.token.TokKind.{TokKind}
use Rattle.c_token.specs.declared.token.TokKind.TheVariants as kinds
use Rattle.c_typed.specs.Sameness.{same_type, is_int, is_pointer, is_scalar}
use Rattle.c_typed.specs.Trees as typed
use Rattle.c_typed.specs.Trees.{Expression}
use Rattle.c_typed.specs.Types.{type_of}
use Rattle.c_typed.specs.declared.expression.LogicalOp.{LogicalOp}
use Rattle.c_typed.specs.declared.expression.LogicalOp.TheVariants as logicals
use Rattle.c_typed.specs.declared.types.Ty.{Ty}
use Rattle.c_typed.specs.declared.types.Ty.TheVariants.{Void, Int, Pointer}
use Rattle.type_rules.specs.Faults as kind
use Rattle.type_rules.specs.Known.{Known, Rule, given, broken, known_here, tried, wanted, ◌>>=◌}
use Rattle.type_rules.specs.Terms.{Reach, Term, Operand, Side, side_of, value_term, first_into}
use Rattle.type_rules.specs.Conversions.{converted, may_be_assigned, may_be_cast}
use Rattle.type_rules.specs.Operations.{Node, Plain, Moved, Difference, Operation, plain_int, operation_of, binary_of}

-- ---- `* / % + - << >> < > <= >= == != & ^ |`

abbrev pub binary_value : Node → BinOp → Expression → Expression → Operation → ℕ → Expression
binary_value Plain op left right found line = typed.Binary op left right found.ty line
binary_value Moved op left right found line = typed.Offset op left right found.size found.ty line
binary_value Difference op left right found line = typed.Difference left right found.size line

-- A pointer into an array that is moved still points into that array.
abbrev pub into_behind : Node → Operand → Operand → Option Reach
into_behind Moved x y = first_into x.into y.into
into_behind _ x y = None

abbrev pub binary_term : BinOp → Operand → Operand → Operation → Term
binary_term op x y found = record (value_term (binary_value found.node op (converted x found.left) (converted y found.right) found x.start) x.start) { into = into_behind found.node x y }

abbrev pub binary : BinOp → Operand → Operand → Rule Term
binary op x y = do
  known ← known_here
  found ← wanted kind.Operand x.start (operation_of known op (side_of x) (side_of y))
  given (binary_term op x y found)

-- ---- `&&` and `||` of integers and pointers (6.3.13, 6.3.14)

abbrev pub logical : LogicalOp → Operand → Operand → Rule Term
logical op x y = do
  _ ← tried ((not (is_scalar (type_of x.value) && is_scalar (type_of y.value)), kind.Operand) ∷ []) x.start
  given (value_term (typed.Logical op x.value y.value x.start) x.start)

-- ---- the comma (6.3.17)

abbrev pub comma : Operand → Operand → Rule Term
comma x y = given (value_term (typed.Comma x.value y.value (type_of y.value) x.start) x.start)

-- two operands with a sign between them
abbrev pub between_by : Option BinOp → Operand → Operand → Rule Term
between_by None x y = broken kind.Operand x.start
between_by (Some op) x y = binary op x y

abbrev pub between : TokKind → Operand → Operand → Rule Term
between (kinds.Punct marks.And) x y = logical logicals.And x y
between (kinds.Punct marks.Or) x y = logical logicals.Or x y
between (kinds.Punct marks.Comma) x y = comma x y
between (kinds.Punct p) x y = between_by (binary_of p) x y
between _ x y = broken kind.Operand x.start

-- ---- `?:` (6.3.15)

abbrev pub if_pointer : Ty → Option Ty
if_pointer (Pointer row) = Some (Pointer row)
if_pointer _ = None

-- a pointer, and something else behind the colon
abbrev pub pointer_choice : Known → Ty → Side → Side → Option Ty
pointer_choice known a x y =
    if same_type a y.ty || (y.null && may_be_assigned known y a) then Some a
    else if x.null then if_pointer y.ty
    else None

-- The type of a choice: integers have their common type, pointers of one type that type, a pointer and a null constant that of the pointer, and void.
abbrev pub choice_type : Known → Side → Side → Ty → Ty → Option Ty
choice_type known x y (Int a) (Int b) = Some (Int (common a b))
choice_type known x y (Int a) (Pointer b) = if x.null then Some (Pointer b) else None
choice_type known x y (Pointer a) b = pointer_choice known (Pointer a) x y
choice_type known x y Void Void = Some Void
choice_type known x y _ _ = None

abbrev pub choice : Operand → Operand → Operand → Rule Term
choice c x y = do
  known ← known_here
  _ ← tried ((not (is_scalar (type_of c.value)), kind.Operand) ∷ []) c.start
  ty ← wanted kind.Operand c.start (choice_type known (side_of x) (side_of y) (type_of x.value) (type_of y.value))
  given (value_term (typed.Conditional c.value (converted x ty) (converted y ty) ty c.start) c.start)

-- ---- casts (6.3.4): a null constant that is cast to a pointer is still one

abbrev pub cast : Ty → Operand → ℕ → Rule Term
cast ty x line = do
  _ ← tried ((not (may_be_cast (side_of x) ty), kind.Operand) ∷ []) line
  given (record (value_term (typed.Cast x.value ty line) line) { null = x.null && is_pointer ty })

-- ---- `+ - ~ !` before an operand (6.3.3.3)

abbrev pub promoted_type : Ty → Ty
promoted_type (Int ty) = Int (promoted ty)
promoted_type ty = ty

abbrev pub arithmetic : UnOp → Operand → ℕ → Rule Term
arithmetic op x line = do
  _ ← tried ((not (is_int (type_of x.value)), kind.Operand) ∷ []) line
  given (value_term (typed.Unary op (converted x (promoted_type (type_of x.value))) (promoted_type (type_of x.value)) line) line)

abbrev pub negation : Operand → ℕ → Rule Term
negation x line = do
  _ ← tried ((not (is_scalar (type_of x.value)), kind.Operand) ∷ []) line
  given (value_term (typed.Unary unop.Bang x.value plain_int line) line)
