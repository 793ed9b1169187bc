-- Which code is left for byte code, and what waits behind it, where the source stands: functions of the focus and of what
-- waits. An operation is taken here without what stands before it in its `Many`.
use Rattle.std.specs.Prelude.{ℕ, zero, suc, ◌+◌, ◌-◌, ◌*◌, Bool, true, false, ◌&&◌, if◌then◌else◌, List, [], ◌∷◌, ◌++◌, length, drop, Option, Some, None, slice_index}
use Rattle.pic_world.specs.World.{Outside}
use Rattle.pic_world.specs.declared.Root.{Root}
use Rattle.c_typed.specs.Trees as tree
use Rattle.c_typed.specs.Sound.{count_of}
use Rattle.c_typed.specs.Trees.{Expression, Expressions, Place, Item, Statement, Statements, Arm, Arms, LastArm, FunctionTree, Program}
use Rattle.c_typed.specs.Types.{type_of, place_type}
use Rattle.c_typed.specs.Folding.{constant_bits}
use Rattle.c_typed.specs.Words.{step_operator}
use Rattle.c_typed.specs.declared.statement.LoopForm.{LoopForm}
use Rattle.c_typed.specs.declared.statement.LoopForm.TheVariants.{While, Do, For}
use Rattle.c_typed.specs.declared.statement.TCase.{TCase}
use Rattle.c_typed.specs.declared.types.Ty.{Ty}
use Rattle.call_graph.specs.declared.types.FnCopy.{FnCopy}
use Rattle.core_code.specs.Bytes.{Held, is_private}
use Rattle.core_code.specs.Bytes as core_bytes
use Rattle.core_code.specs.Machine as core
use Rattle.core_code.specs.Machine.{Task, Do as Todo, Put, PutBit, PutBack, Join, LoadFrom, StoreTo, Reading, Over, Waiting, InLoop, InCall, InHandler, loading, storing, with_bit}
use Rattle.core_code.specs.Tree as code
use Rattle.core_code.specs.Tree.{Tree, many}
use Rattle.core_code.specs.declared.code.Byte.{Byte}
use Rattle.core_code.specs.declared.code.Byte.TheVariants.{Frame, Result}
use Rattle.core_puts.specs.Bytes.{behind, beyond, operation_type}
use Rattle.lower_expr.specs.Layout.{Layout, width, value_width, place_width, copy_of}
use Rattle.lower_expr.specs.Lowering.{expr_code, address_code, arguments_code, pointer_code, behind_pointer, shifts_by_constant, change_code, is_pointer, arguments_width, update_of, step_of}
use Rattle.core_puts.specs.Puts.{copies, copies_if, operator, choice, test_size}
use Rattle.lower_expr.specs.Rows.{widened, tested, unary_row, logical_row, binary_row, offset_row, difference_row, member_row, address_row, value_row, assigned_row, kept_row, written_row, bit_row, change_of, change_row, given_byte, update_row, keeps_old, step_number, step_row, called_row, struct_row, side_of, taken, given, advances, structure_row}
use Rattle.lower_expr.specs.Spots.{spot_of, pointer_bytes}
use Rattle.lower_expr.specs.declared.places.Spot as place
use Rattle.lower_expr.specs.declared.places.Spot.TheVariants.{Fixed, Bit, Computed}
use Rattle.lower_stmt.specs.Declarators.{items_code, rest_code, is_covered}
use Rattle.lower_stmt.specs.Frames.{ground_for}
use Rattle.lower_stmt.specs.Ground.{Ground, first, result_byte, local_byte, local_bytes, value_code, effect_code}
use Rattle.lower_stmt.specs.Ground as ground
use Rattle.lower_stmt.specs.Jumps.{outside, in_segment}
use Rattle.lower_stmt.specs.Labels.{labels_of, segments_before}
use Rattle.lower_stmt.specs.Programs.{core_of}
use Rattle.lower_stmt.specs.Statements.{stmt_code, stmts_code, arms_code, last_code, segments_code, segments_in, condition_code, any_code, once, jumps_in}
use Rattle.lower_stmt.specs.Switches.{comparisons, cases_code, otherwise_segment, around, for_labels}
use Rattle.lower_trace.specs.Lowering.{copy_number, object_as, offset_as, held_as}
use Rattle.src_values.specs.Memory as source
use Rattle.src_values.specs.Control.{Focus, Eval, Find, Holds, Found, Run, Past, Fetch, Skim, Write, PutBit as BitPut, CopyRead, CopyWrite, Spell, Blank, Calls, Leaves, Compares, Over as Done, Got, Nothing, Chosen, One, At, AtWith, Stores, Args, Passed, Called, Stage, Tests, Begins, Steps, Turns, Picks, InArm, Chooses, AtItem, Items, Blanks, Pending, In, To, Doing, Before, Returns, Resumes}
use Rattle.src_values.specs.Objects.{function_at}
use Rattle.src_values.specs.Values.{number_in, lowest_bit}
use Rattle.src_values.specs.declared.objects.Byte as value
use Rattle.src_values.specs.declared.objects.Byte.TheVariants as values
use Rattle.src_values.specs.declared.objects.CopyOf.{CopyOf}
use Rattle.src_values.specs.declared.objects.Object as object
use Rattle.src_values.specs.declared.objects.Object.TheVariants as objects
use Rattle.src_values.specs.declared.objects.Pointer.TheVariants.{Into}
use Rattle.src_values.specs.declared.objects.Spot as spot
use Rattle.src_values.specs.declared.objects.Spot.TheVariants as spots

-- a program with its copies, and what comes from outside
pub record Scene : Type 0 where
  pub program : Program
  pub copies : List FnCopy
  pub outside : Outside

abbrev pub source_in : Scene → source.Setting
source_in z = record { program = z.program; outside = z.outside }

abbrev pub core_in : Scene → core.Setting
core_in z = record { program = core_of z.program z.copies; outside = z.outside }

abbrev pub held : Scene → value.Byte → Held
held z byte = held_as z.program z.copies byte

-- the number of a copy, its function, and what its code stands on
abbrev pub number : Scene → CopyOf → ℕ
number z c = copy_number z.copies c.root c.function

unfoldable pub ground_in : Scene → CopyOf → Ground
ground_in z c = ground_for z.program z.copies (number z c) c.root (function_at z.program c.function)

-- ---- operations as tasks, without what stands before them
abbrev pub todo : List Tree → List Task → List Task
todo [] c = c
todo (t ∷ ts) c = Todo [] t ∷ todo ts c

abbrev pub plain : List Task → List Task
plain [] = []
plain (Todo before t ∷ c) = Todo [] t ∷ plain c
plain (Put to held ∷ c) = Put to held ∷ plain c
plain (PutBit to value ∷ c) = PutBit to value ∷ plain c
plain (PutBack register value ∷ c) = PutBack register value ∷ plain c
plain (Join ∷ c) = Join ∷ plain c
plain (LoadFrom to object offset n ∷ c) = LoadFrom to object offset n ∷ plain c
plain (StoreTo object offset from n ∷ c) = StoreTo object offset from n ∷ plain c
plain (Reading bytes ∷ c) = Reading bytes ∷ plain c
plain (Over ∷ c) = Over ∷ plain c

abbrev pub plain_behind : List Waiting → List Waiting
plain_behind [] = []
plain_behind (InLoop body c ∷ s) = InLoop body (plain c) ∷ plain_behind s
plain_behind (InCall p c ∷ s) = InCall p (plain c) ∷ plain_behind s
plain_behind (InHandler p a c ∷ s) = InHandler p a (plain c) ∷ plain_behind s

-- ---- expressions that wait
-- whether the value that the frame on top waits for is used
abbrev pub wanted : List Pending → Bool
wanted (In (tree.Comma left right ty line) Nothing ∷ k) = false
wanted (In (tree.Conditional condition held failed ty line) Chosen ∷ k) = wanted k
wanted (Doing (tree.Expr e line) stage ∷ k) = false
wanted (Doing (tree.Loop shape begin condition step body line) Begins ∷ k) = false
wanted (Doing (tree.Loop shape begin condition step body line) Steps ∷ k) = false
wanted _ = true

-- how many bytes the first arguments have
abbrev pub before_argument : Layout → ℕ → ℕ → Expressions → ℕ
before_argument l zero before es = before
before_argument l (suc n) before tree.NoExpression = before
before_argument l (suc n) before (tree.AndExpression e es) = before_argument l n (beyond before (value_width l e)) es

-- where the value stands that an assignment, an update or a step writes, its own value being due at b
abbrev pub stored : Ground → ℕ → Expression → ℕ
stored g b (tree.Assign place value ty line) = behind_pointer g.layout g.copy b place
stored g b (tree.Update op place value operation size ty line) = beyond (behind_pointer g.layout g.copy b place) (value_width g.layout value)
stored g b (tree.Step op place operation size ty line) = beyond (behind_pointer g.layout g.copy b place) (width g.layout operation)
stored g b _ = b

-- where the value of a node's next part goes, behind all that waits for it
abbrev pub above : Ground → ℕ → Expression → Got → ℕ
above g b (tree.Read place ty line) (At spot) = behind_pointer g.layout g.copy b place
above g b (tree.Binary op left right ty line) (One u) = beyond b (value_width g.layout left)
above g b (tree.Offset op left right size ty line) (One u) = beyond b 2
above g b (tree.Difference left right size line) (One u) = beyond b 2
above g b (tree.Assign place value ty line) (At spot) = behind_pointer g.layout g.copy b place
above g b (tree.StructAssign place from size line) (At spot) = behind_pointer g.layout g.copy b place
above g b (tree.Update op place value operation size ty line) (At spot) = behind_pointer g.layout g.copy b place
above g b (tree.Update op place value operation size ty line) (AtWith spot u) = beyond (behind_pointer g.layout g.copy b place) (value_width g.layout value)
above g b (tree.Step op place operation size ty line) (At spot) = beyond (behind_pointer g.layout g.copy b place) (width g.layout operation)
above g b (tree.Call function arguments ty line) (Args before more) = beyond b (before_argument g.layout (length before) 0 arguments)
above g b (tree.Call function arguments ty line) (Passed values) = beyond b (arguments_width g.layout 0 arguments)
above g b (tree.Step op place operation size ty line) (Stores spot v) = beyond (beyond (stored g b (tree.Step op place operation size ty line)) (width g.layout ty)) 4
above g b e (Stores spot v) = beyond (stored g b e) (width g.layout (type_of e))
above g b _ _ = b

abbrev pub base : Ground → List Pending → ℕ
base g (In e got ∷ k) = above g (base g k) e got
base g (To place ∷ k) = base g k
base g _ = g.base

-- a value that was read behind the pointer to its place comes to the front
abbrev pub kept_value : place.Spot → Byte → ℕ → List Tree
kept_value (Fixed from) at count = []
kept_value (Bit register bit) at count = []
kept_value Computed at count = copies at (behind at 2) count

-- where the right operand of an update stands, behind the pointer to its place, and behind it the place's value
abbrev pub right_of : place.Spot → Byte → Byte
right_of spot at = behind at (pointer_bytes spot)

abbrev pub left_of : place.Spot → Byte → ℕ → Byte
left_of spot at count = behind (right_of spot at) count

-- an update behind the read of its place, and behind the write; `change` is the operator's code
abbrev pub changed_rest : Ty → Ty → Bool → Bool → ℕ → List Tree → place.Spot → Root → Byte → ℕ → List Tree
changed_rest from operation wanted keeps count change spot root at bytes =
    widened from operation (left_of spot at count)
    ++ copies_if (wanted && keeps) (behind (left_of spot at count) count) (left_of spot at count) bytes
    ++ change
    ++ written_row spot root at (left_of spot at count) bytes
    ++ copies_if wanted at (given_byte keeps (behind (left_of spot at count) count) (left_of spot at count)) bytes

abbrev pub written_rest : Bool → Bool → ℕ → place.Spot → Byte → ℕ → List Tree
written_rest wanted keeps count spot at bytes = copies_if wanted at (given_byte keeps (behind (left_of spot at count) count) (left_of spot at count)) bytes

-- the code of a node behind the part that is under way
abbrev pub rest_of : Ground → ℕ → Bool → Expression → Got → List Tree
rest_of g b w (tree.Read place ty line) Nothing = value_row (spot_of g.layout g.copy place) (Frame g.copy b) (width g.layout ty)
rest_of g b w (tree.Read place ty line) (At spot) = kept_value (spot_of g.layout g.copy place) (Frame g.copy b) (width g.layout ty)
rest_of g b w (tree.Address place ty line) Nothing = address_row (spot_of g.layout g.copy place) (Frame g.copy b)
rest_of g b w (tree.Convert operand ty line) Nothing = widened (type_of operand) ty (Frame g.copy b)
rest_of g b w (tree.Cast operand ty line) Nothing = widened (type_of operand) ty (Frame g.copy b)
rest_of g b w (tree.Unary op operand ty line) Nothing = unary_row op (operation_type ty) (Frame g.copy b) (value_width g.layout operand)
rest_of g b w (tree.Binary op left right ty line) Nothing =
    change_code (shifts_by_constant op right) (expr_code g.layout g.copy (beyond b (value_width g.layout left)) true right)
    ++ binary_row (shifts_by_constant op right) op (operation_type (type_of left)) (Frame g.copy b) (Frame g.copy (beyond b (value_width g.layout left))) (constant_bits right) (value_width g.layout right)
rest_of g b w (tree.Binary op left right ty line) (One u) =
    binary_row (shifts_by_constant op right) op (operation_type (type_of left)) (Frame g.copy b) (Frame g.copy (beyond b (value_width g.layout left))) (constant_bits right) (value_width g.layout right)
rest_of g b w (tree.Offset op left right size ty line) Nothing = expr_code g.layout g.copy (beyond b 2) true right ++ offset_row op (Frame g.copy b) (is_pointer (type_of left)) size
rest_of g b w (tree.Offset op left right size ty line) (One u) = offset_row op (Frame g.copy b) (is_pointer (type_of left)) size
rest_of g b w (tree.Difference left right size line) Nothing = expr_code g.layout g.copy (beyond b 2) true right ++ difference_row (Frame g.copy b) size
rest_of g b w (tree.Difference left right size line) (One u) = difference_row (Frame g.copy b) size
rest_of g b w (tree.Logical op left right line) Nothing =
    logical_row op (Frame g.copy b) (value_width g.layout left) (expr_code g.layout g.copy b true right ++ tested (Frame g.copy b) (value_width g.layout right) 1 0 ∷ []) ∷ []
rest_of g b w (tree.Logical op left right line) (One u) = tested (Frame g.copy b) (value_width g.layout right) 1 0 ∷ []
rest_of g b w (tree.Conditional condition held failed ty line) Nothing =
    choice (Frame g.copy b) (value_width g.layout condition) (expr_code g.layout g.copy b w held) (expr_code g.layout g.copy b w failed) ∷ []
rest_of g b w (tree.Comma left right ty line) Nothing = expr_code g.layout g.copy b w right
rest_of g b w (tree.Assign place value ty line) Nothing =
    expr_code g.layout g.copy (behind_pointer g.layout g.copy b place) true value
    ++ assigned_row w (spot_of g.layout g.copy place) g.layout.root (Frame g.copy b) (width g.layout ty)
rest_of g b w (tree.Assign place value ty line) (At spot) = assigned_row w (spot_of g.layout g.copy place) g.layout.root (Frame g.copy b) (width g.layout ty)
rest_of g b w (tree.Assign place value ty line) (Stores spot v) =
    kept_row w (spot_of g.layout g.copy place) (Frame g.copy b) (behind (Frame g.copy b) (pointer_bytes (spot_of g.layout g.copy place))) (width g.layout ty)
rest_of g b w (tree.StructAssign place from size line) Nothing =
    pointer_code (spot_of g.layout g.copy from) (address_code g.layout g.copy (behind_pointer g.layout g.copy b place) from)
    ++ struct_row g.layout.root (spot_of g.layout g.copy place) (spot_of g.layout g.copy from) (Frame g.copy b) size
rest_of g b w (tree.StructAssign place from size line) (At spot) = struct_row g.layout.root (spot_of g.layout g.copy place) (spot_of g.layout g.copy from) (Frame g.copy b) size
rest_of g b w (tree.Update op place value operation size ty line) Nothing =
    change_code (shifts_by_constant op value) (expr_code g.layout g.copy (behind_pointer g.layout g.copy b place) true value)
    ++ update_row (update_of w g.layout op place value operation size) (spot_of g.layout g.copy place) g.layout.root (Frame g.copy b) (place_width g.layout place) (place_type place).ty
rest_of g b w (tree.Update op place value operation size ty line) (At spot) =
    update_row (update_of w g.layout op place value operation size) (spot_of g.layout g.copy place) g.layout.root (Frame g.copy b) (place_width g.layout place) (place_type place).ty
rest_of g b w (tree.Update op place value operation size ty line) (AtWith spot u) =
    changed_rest (place_type place).ty operation w false (value_width g.layout value)
    (change_row (change_of (shifts_by_constant op value) operation size (constant_bits value)) op (operation_type operation) (left_of (spot_of g.layout g.copy place) (Frame g.copy b) (value_width g.layout value)) (right_of (spot_of g.layout g.copy place) (Frame g.copy b)) (value_width g.layout value))
    (spot_of g.layout g.copy place) g.layout.root (Frame g.copy b) (place_width g.layout place)
rest_of g b w (tree.Update op place value operation size ty line) (Stores spot v) =
    written_rest w false (value_width g.layout value) (spot_of g.layout g.copy place) (Frame g.copy b) (place_width g.layout place)
rest_of g b w (tree.Step op place operation size ty line) Nothing =
    step_row (step_of w g.layout op operation) (step_number operation size) (spot_of g.layout g.copy place) g.layout.root (Frame g.copy b) (place_width g.layout place) (place_type place).ty
rest_of g b w (tree.Step op place operation size ty line) (At spot) =
    changed_rest (place_type place).ty operation w (keeps_old op) (width g.layout operation)
    (operator (step_operator op) (operation_type operation) (left_of (spot_of g.layout g.copy place) (Frame g.copy b) (width g.layout operation)) (right_of (spot_of g.layout g.copy place) (Frame g.copy b)) ∷ [])
    (spot_of g.layout g.copy place) g.layout.root (Frame g.copy b) (place_width g.layout place)
rest_of g b w (tree.Step op place operation size ty line) (Stores spot v) =
    written_rest w (keeps_old op) (width g.layout operation) (spot_of g.layout g.copy place) (Frame g.copy b) (place_width g.layout place)
rest_of g b w (tree.Call function arguments ty line) (Args before more) =
    arguments_code g.layout g.copy b (before_argument g.layout (suc (length before)) 0 arguments) more
    ++ called_row w g.layout.root (copy_of g.layout function) (Frame g.copy b) (arguments_width g.layout 0 arguments) (width g.layout ty)
rest_of g b w (tree.Call function arguments ty line) (Passed values) =
    called_row w g.layout.root (copy_of g.layout function) (Frame g.copy b) (arguments_width g.layout 0 arguments) (width g.layout ty)
rest_of g b w (tree.Call function arguments ty line) Called = copies_if w (Frame g.copy b) (Result g.layout.root 0) (width g.layout ty)
rest_of g b w _ _ = []

-- Behind the operand that a choice led to the code of both operands joins.
abbrev pub joining : Expression → Got → List Task → List Task
joining (tree.Logical op left right line) (One u) c = Join ∷ c
joining (tree.Conditional condition held failed ty line) Chosen c = Join ∷ c
joining _ _ c = c

-- a member of a place that is computed
abbrev pub member_rest : place.Spot → Byte → ℕ → Root → List Tree
member_rest (Fixed from) at offset root = []
member_rest (Bit register bit) at offset root = member_row at offset (Result root 0)
member_rest Computed at offset root = member_row at offset (Result root 0)

abbrev pub rest_to : Ground → ℕ → Place → List Tree
rest_to g b (tree.Member whole member offset ty line) = member_rest (spot_of g.layout g.copy whole) (Frame g.copy b) offset g.layout.root
rest_to g b _ = []

-- ---- statements that wait
abbrev pub arm_count : Arms → ℕ
arm_count tree.NoArm = 0
arm_count (tree.AndArm arm arms) = suc (arm_count arms)

-- the ends of so many choices
abbrev pub joins : ℕ → List Task → List Task
joins zero c = c
joins (suc n) c = Join ∷ joins n c

abbrev TypeOf : {A : Type 0} → A → Type 0
TypeOf {A = A} x = A

abbrev pub Jumps : Type 0
Jumps = TypeOf outside

-- ---- the body of a switch
-- a loop that is under way, with what follows it
pub record Looped : Type 0 where
  pub body : Tree
  pub code : List Task

abbrev pub stacked : List Looped → List Waiting → List Waiting
stacked [] s = s
stacked (x ∷ xs) s = InLoop x.body x.code ∷ stacked xs s

-- the body of the loop of a segment, which stands behind the loop that leads to it
abbrev pub segment_body : Tree → List Tree → Tree
segment_body body segment = many ((code.Loop body ∷ []) ++ segment ++ code.Exit 0 ∷ [])

-- The loops of segments round this body, from there out, but for the last one; and the body of the last one.
abbrev pub nested : Tree → List (List Tree) → List Looped
nested body [] = []
nested body (segment ∷ segments) = record { body = body; code = todo (segment ++ code.Exit 0 ∷ []) [] } ∷ nested (segment_body body segment) segments

abbrev pub outermost : Tree → List (List Tree) → Tree
outermost body [] = body
outermost body (segment ∷ segments) = outermost (segment_body body segment) segments

-- a switch by its parts
pub record Switched : Type 0 where
  pub value : Expression
  pub cases : List TCase
  pub default : Option ℕ
  pub body : Statements

abbrev pub labels_in : Switched → List ℕ
labels_in x = labels_of x.cases x.default

abbrev pub segment_count : Switched → ℕ
segment_count x = segments_in x.body (labels_in x)

-- what stands in its innermost loop, and its segments
abbrev pub compared : Ground → Switched → List Tree
compared g x = comparisons g x.value x.cases x.default (labels_in x) (segment_count x)

abbrev pub segments : Ground → Jumps → Switched → List (List Tree)
segments g j x = (segments_code g j (labels_in x) (segment_count x) 0 0 x.body).later

abbrev pub loops_in : Ground → Jumps → Switched → List Looped
loops_in g j x = nested (many (compared g x)) (segments g j x)

abbrev pub whole_loop : Ground → Jumps → Switched → Tree
whole_loop g j x = outermost (many (compared g x)) (segments g j x)

-- How many statements of its body stand before these last ones, and how many segments have begun there.
abbrev pub index_in : Switched → Statements → ℕ
index_in x ss = count_of x.body - count_of ss

abbrev pub begun_at : Switched → Statements → ℕ
begun_at x ss = segments_before (index_in x ss) (labels_in x)

-- the switch whose body waits on top
abbrev pub switch_on : List Pending → Option Switched
switch_on (Doing (tree.Switch value cases default ss line) Turns ∷ k) = Some (record { value = value; cases = cases; default = default; body = ss })
switch_on _ = None

abbrev pub jumps_before : Option Switched → Statements → Jumps → Jumps
jumps_before None ss j = j
jumps_before (Some x) ss j = in_segment j (segment_count x - begun_at x ss)

-- where `break` and `continue` lead to
abbrev pub jumps : List Pending → Jumps
jumps (Doing (tree.Loop shape begin condition step body line) Turns ∷ k) = jumps_in shape
jumps (Doing (tree.Switch value cases default ss line) Turns ∷ k) = jumps k
jumps (Doing (tree.If chain otherwise line) (InArm more) ∷ k) = jumps k
jumps (Before ss ∷ k) = jumps_before (switch_on k) ss (jumps k)
jumps _ = outside

-- The statements that are left of a block, or of the body of a switch: there the code of their segment. Segments behind it
-- wait in loops.
abbrev pub code_before : Ground → Option Switched → Statements → Jumps → List Task → List Task
code_before g None ss j c = todo (stmts_code g j ss) c
code_before g (Some x) ss j c = todo (segments_code g j (labels_in x) (segment_count x) (index_in x ss) (begun_at x ss) ss).running c

abbrev pub inner_loops : Ground → Jumps → Option Switched → Statements → List Looped
inner_loops g j None ss = []
inner_loops g j (Some x) ss = drop (begun_at x ss) (loops_in g j x)

-- a switch without labels has no loops
abbrev pub if_labelled : {A : Type 0} → List ℕ → A → A → A
if_labelled [] a b = b
if_labelled (label ∷ labels) a b = a

-- what is left in the innermost loop once these labels are to be compared
abbrev pub comparing : Ground → Switched → List TCase → List Tree
comparing g x labels = cases_code g (operation_type (type_of x.value)) (ground.width g x.value) (labels_in x) labels ++ code.Exit (otherwise_segment (labels_in x) (segment_count x) x.default) ∷ []

-- ---- first values of a local
-- the items that are left, and the bytes that no item has
abbrev pub items_left : Ground → ℕ → List Item → List Item → List Tree
items_left g local all rest = items_code g (local_byte g local) rest ++ rest_code g (local_byte g local) all (local_bytes g local)

-- an item whose value stands there, or whose place was found
abbrev pub item_left : Ground → Byte → Item → List Tree
item_left g to (tree.Scalar offset e) = copies (behind to offset) (first g) (ground.width g e)
item_left g to (tree.Struct offset from size) = struct_row g.layout.root (Fixed (behind to offset)) (spot_of g.layout g.copy from) (first g) size
item_left g to (tree.Text offset bytes size) = []

-- so many characters of a string, from this one on, and so many bytes without an item
abbrev pub text_from : Byte → List ℕ → ℕ → ℕ → List Tree
text_from to bytes at zero = []
text_from to bytes at (suc left) = code.Set (behind to at) (slice_index bytes at) ∷ text_from to bytes (at + 1) left

abbrev pub blank_byte : Ground → Byte → List Item → ℕ → List Tree
blank_byte g to all at = if is_covered g all at then [] else code.Set (behind to at) 0 ∷ []

abbrev pub blanks_from : Ground → Byte → List Item → ℕ → ℕ → List Tree
blanks_from g to all at zero = []
blanks_from g to all at (suc left) = blank_byte g to all at ++ blanks_from g to all (at + 1) left

-- the body of a loop, and of the loop that runs once in it
abbrev pub loop_body : Ground → LoopForm → Option Expression → Option Expression → List Tree → Tree
loop_body g While condition step body = many (condition_code g condition ++ body)
loop_body g Do condition step body = many (once body ++ condition_code g condition)
loop_body g For condition step body = many (condition_code g condition ++ once body ++ any_code g step)

abbrev pub once_body : List Tree → Tree
once_body body = many (body ++ code.Exit 0 ∷ [])

-- the test of a condition whose value stands there, and what follows it
abbrev pub tested_condition : Ground → Option Expression → List Tree
tested_condition g None = []
tested_condition g (Some e) = code.If (first g) (test_size (ground.width g e)) (many []) (code.Exit 0) ∷ []

abbrev pub behind_test : Ground → LoopForm → Option Expression → List Tree → List Tree
behind_test g While step body = body
behind_test g Do step body = []
behind_test g For step body = once body ++ any_code g step

-- what follows a turn in the loop
abbrev pub behind_turn : Ground → LoopForm → Option Expression → Option Expression → List Tree
behind_turn g While condition step = []
behind_turn g Do condition step = condition_code g condition
behind_turn g For condition step = any_code g step

abbrev pub turn_rest : LoopForm → List Task
turn_rest While = []
turn_rest Do = Todo [] (code.Exit 0) ∷ []
turn_rest For = Todo [] (code.Exit 0) ∷ []

abbrev pub turn_behind : Ground → LoopForm → Option Expression → Option Expression → List Tree → List Waiting → List Waiting
turn_behind g While condition step body s = s
turn_behind g Do condition step body s = InLoop (once_body body) (todo (behind_turn g Do condition step) []) ∷ s
turn_behind g For condition step body s = InLoop (once_body body) (todo (behind_turn g For condition step) []) ∷ s

-- The code of a statement behind the part that is under way, c being what follows it.
abbrev pub code_doing : Ground → Jumps → Statement → Stage → List Task → List Task
code_doing g j (tree.InitScalar local e line) Tests c = todo (copies (local_byte g local) (first g) (ground.width g e)) c
code_doing g j (tree.If chain otherwise line) (Picks (tree.OneArm condition chosen at) more) c =
    todo (choice (first g) (ground.width g condition) (stmt_code g j chosen) (arms_code g j (last_code g j otherwise) more) ∷ []) (joins (arm_count chain - suc (arm_count more)) c)
code_doing g j (tree.If chain otherwise line) (InArm more) c = joins (arm_count chain - arm_count more) c
code_doing g j (tree.Loop shape begin condition step body line) Begins c = todo (code.Loop (loop_body g shape condition step (stmt_code g (jumps_in shape) body)) ∷ []) c
code_doing g j (tree.Loop shape begin condition step body line) Tests c = todo (tested_condition g condition ++ behind_test g shape step (stmt_code g (jumps_in shape) body)) []
code_doing g j (tree.Loop shape begin condition step body line) Turns c = turn_rest shape
code_doing g j (tree.Loop shape begin condition step body line) Steps c = []
code_doing g j (tree.Switch value cases default ss line) Tests c =
    todo (for_labels (labels_of cases default) (around (comparisons g value cases default (labels_of cases default) (segments_in ss (labels_of cases default))) (segments_code g j (labels_of cases default) (segments_in ss (labels_of cases default)) 0 0 ss))) c
code_doing g j (tree.Switch value cases default ss line) Turns c = Todo [] (code.Exit 0) ∷ []
code_doing g j (tree.InitList local all line) (AtItem item rest) c = todo (item_left g (local_byte g local) item ++ items_left g local all rest) c
code_doing g j (tree.InitList local all line) (Items item rest) c = todo (items_left g local all rest) c
code_doing g j (tree.Return (Some e) line) Tests c = todo (copies (result_byte g) (first g) (ground.width g e) ++ code.Leave ∷ []) c
code_doing g j _ _ c = c

abbrev pub stack_doing : Ground → Jumps → Statement → Stage → List Task → List Waiting → List Waiting
stack_doing g j (tree.Loop shape begin condition step body line) Tests c s = InLoop (loop_body g shape condition step (stmt_code g (jumps_in shape) body)) c ∷ s
stack_doing g j (tree.Loop shape begin condition step body line) Steps c s = InLoop (loop_body g shape condition step (stmt_code g (jumps_in shape) body)) c ∷ s
stack_doing g j (tree.Loop shape begin condition step body line) Turns c s =
    turn_behind g shape condition step (stmt_code g (jumps_in shape) body) (InLoop (loop_body g shape condition step (stmt_code g (jumps_in shape) body)) c ∷ s)
stack_doing g j (tree.Switch value cases default ss line) Chooses c s =
    if_labelled (labels_of cases default) (stacked (loops_in g j (record { value = value; cases = cases; default = default; body = ss })) (InLoop (whole_loop g j (record { value = value; cases = cases; default = default; body = ss })) c ∷ s)) s
stack_doing g j (tree.Switch value cases default ss line) Turns c s = InLoop (whole_loop g j (record { value = value; cases = cases; default = default; body = ss })) c ∷ s
stack_doing g j _ _ c s = s

-- ---- all that waits
-- the code that is left once the focus is done
abbrev pub code_after : Ground → List Pending → List Task
code_after g [] = Todo [] code.Leave ∷ []
code_after g (In e got ∷ k) = todo (rest_of g (base g k) (wanted k) e got) (joining e got (code_after g k))
code_after g (To place ∷ k) = todo (rest_to g (base g k) place) (code_after g k)
code_after g (Doing t stage ∷ k) = code_doing g (jumps k) t stage (code_after g k)
code_after g (Before ss ∷ k) = code_before g (switch_on k) ss (jumps k) (code_after g k)
code_after g (Returns d ∷ k) = Todo [] code.Leave ∷ []
code_after g (Resumes d x ∷ k) = Todo [] code.Leave ∷ []

-- ---- accesses
-- so many bytes become others, from this one on
abbrev pub copies_from : Byte → Byte → ℕ → ℕ → List Tree
copies_from to from at zero = []
copies_from to from at (suc left) = code.Copy (behind to at) (behind from at) ∷ copies_from to from (at + 1) left

-- the byte that was read last of all, if it isn't written yet
abbrev pub putting : Scene → Byte → List value.Byte → List Task → List Task
putting z to [] c = c
putting z to (byte ∷ []) c = Put to (held z byte) ∷ c
putting z to (byte ∷ next ∷ more) c = putting z (core_bytes.behind to 1) (next ∷ more) c

abbrev pub putting_if : Bool → Scene → Byte → List value.Byte → List Task → List Task
putting_if true z to read c = putting z to read c
putting_if false z to read c = c

abbrev pub is_fixed : object.Object → Bool
is_fixed (objects.Fixed n) = true
is_fixed (objects.Variable c n) = false

abbrev pub loading_from : Scene → spot.Spot → Byte → ℕ → List value.Byte → List Task → List Task
loading_from z (spots.Memory (Into object offset)) to left read c =
    putting_if (is_fixed object) z to read (loading (core_bytes.behind to (length read)) (object_as z.copies object) (offset_as z.program object + offset) left c)
loading_from z _ to left read c = c

-- a place is read to `to`, of which these bytes were read; the pointer to it stands at `pointer` if it is computed
abbrev pub reading : Scene → place.Spot → spot.Spot → Byte → Byte → ℕ → List value.Byte → List Task → List Task
reading z (Fixed from) at pointer to count read c = putting_if (if is_private from then false else true) z to read (todo (copies_from to from (length read) (count - length read)) c)
reading z (Bit register bit) at pointer to count [] c = Todo [] (code.BitRead to register bit) ∷ c
reading z (Bit register bit) at pointer to count (byte ∷ more) c = PutBit to (number_in byte) ∷ c
reading z Computed at pointer to count [] c = Todo [] (code.Load to pointer count) ∷ c
reading z Computed at pointer to count (byte ∷ more) c = loading_from z at to (count - length (byte ∷ more)) (byte ∷ more) c

abbrev pub reading_in : Scene → Ground → ℕ → Expression → Got → spot.Spot → List value.Byte → List Task → List Task
reading_in z g b (tree.Read place ty line) got at read c = reading z (spot_of g.layout g.copy place) at (Frame g.copy b) (Frame g.copy (above g b (tree.Read place ty line) got)) (width g.layout ty) read c
reading_in z g b (tree.Update op place value operation size ty line) got at read c =
    reading z (spot_of g.layout g.copy place) at (Frame g.copy b) (Frame g.copy (above g b (tree.Update op place value operation size ty line) got)) (place_width g.layout place) read c
reading_in z g b (tree.Step op place operation size ty line) got at read c =
    reading z (spot_of g.layout g.copy place) at (Frame g.copy b) (Frame g.copy (above g b (tree.Step op place operation size ty line) got)) (place_width g.layout place) read c
reading_in z g b _ got at read c = c

abbrev pub reading_at : Scene → Ground → List Pending → spot.Spot → List value.Byte → List Task
reading_at z g (In e got ∷ k) at read = reading_in z g (base g k) e got at read (code_after g (In e got ∷ k))
reading_at z g k at read = code_after g k

-- A structure that is read for nothing is read as if its bytes were wanted; of those that were read only the last one counts.
abbrev pub unset_bytes : ℕ → List value.Byte
unset_bytes zero = []
unset_bytes (suc n) = values.Unset ∷ unset_bytes n

abbrev pub skimmed : ℕ → Option value.Byte → List value.Byte
skimmed done None = []
skimmed done (Some byte) = unset_bytes (done - 1) ++ byte ∷ []

abbrev pub skim_count : Ground → List Pending → ℕ
skim_count g (In (tree.Read place ty line) got ∷ k) = width g.layout ty
skim_count g k = 0

abbrev pub stored_at : Ground → List Pending → ℕ
stored_at g (In e got ∷ k) = stored g (base g k) e
stored_at g k = g.base

abbrev pub storing_to : Scene → spot.Spot → Byte → ℕ → List Task → List Task
storing_to z (spots.Memory (Into object offset)) from left c = storing (object_as z.copies object) (offset_as z.program object + offset) from left c
storing_to z _ from left c = c

-- a place is written from `from`, of which so many bytes were written
abbrev pub writing : Scene → Root → place.Spot → spot.Spot → Byte → Byte → ℕ → ℕ → List Task → List Task
writing z root (Fixed to) at pointer from count done c = todo (copies_from to from done (count - done)) c
writing z root (Bit register bit) at pointer from count zero c = todo (bit_row root register bit from) c
writing z root (Bit register bit) at pointer from count (suc done) c = Join ∷ c
writing z root Computed at pointer from count zero c = Todo [] (code.Store pointer from count) ∷ c
writing z root Computed at pointer from count (suc done) c = storing_to z at (core_bytes.behind from (suc done)) (count - suc done) c

abbrev pub writing_in : Scene → Ground → ℕ → Expression → Got → spot.Spot → ℕ → List Task → List Task
writing_in z g b (tree.Assign place value ty line) got at done c =
    writing z g.layout.root (spot_of g.layout g.copy place) at (Frame g.copy b) (Frame g.copy (stored g b (tree.Assign place value ty line))) (width g.layout ty) done c
writing_in z g b (tree.Update op place value operation size ty line) got at done c =
    writing z g.layout.root (spot_of g.layout g.copy place) at (Frame g.copy b) (Frame g.copy (stored g b (tree.Update op place value operation size ty line))) (place_width g.layout place) done c
writing_in z g b (tree.Step op place operation size ty line) got at done c =
    writing z g.layout.root (spot_of g.layout g.copy place) at (Frame g.copy b) (Frame g.copy (stored g b (tree.Step op place operation size ty line))) (place_width g.layout place) done c
writing_in z g b _ got at done c = c

abbrev pub writing_at : Scene → Ground → List Pending → spot.Spot → ℕ → List Task
writing_at z g (In e got ∷ k) at done = writing_in z g (base g k) e got at done (code_after g (In e got ∷ k))
writing_at z g (Doing (tree.InitScalar local e line) stage ∷ k) at done = writing z g.layout.root (Fixed (local_byte g local)) at (first g) (first g) (ground.width g e) done (code_after g k)
writing_at z g (Doing (tree.InitList local all line) (Items (tree.Scalar offset e) rest) ∷ k) at done =
    writing z g.layout.root (Fixed (behind (local_byte g local) offset)) at (first g) (first g) (ground.width g e) done (code_after g (Doing (tree.InitList local all line) (Items (tree.Scalar offset e) rest) ∷ k))
writing_at z g k at done = code_after g k

-- ---- first values, and labels
abbrev pub spelling_at : Ground → List Pending → ℕ → List Task → List Task
spelling_at g (Doing (tree.InitList local all line) (Items (tree.Text offset bytes size) rest) ∷ k) left c = todo (text_from (behind (local_byte g local) offset) bytes (size - left) left) c
spelling_at g _ left c = c

abbrev pub blanking_at : Ground → List Pending → ℕ → ℕ → List Task → List Task
blanking_at g (Doing (tree.InitList local all line) Blanks ∷ k) at left c = todo (blanks_from g (local_byte g local) all at left) c
blanking_at g _ at left c = c

abbrev pub comparing_at : Ground → List Pending → List TCase → List Task → List Task
comparing_at g (Doing (tree.Switch value cases default ss line) Chooses ∷ k) labels c = if_labelled (labels_of cases default) (todo (comparing g (record { value = value; cases = cases; default = default; body = ss }) labels) []) c
comparing_at g _ labels c = c

-- ---- structures that are copied
-- where a byte stands on its way
abbrev pub between : place.Spot → place.Spot → Byte → Byte
between p q at = behind (behind at (pointer_bytes p)) (pointer_bytes q)

-- the code of so many bytes, from this one on
abbrev pub bytes_from : Byte → place.Spot → place.Spot → Byte → ℕ → ℕ → List Tree
bytes_from one p q at i zero = []
bytes_from one p q at i (suc left) =
    advances (side_of p at) (side_of q (behind at (pointer_bytes p))) one i
    ++ taken (between p q at) (side_of q (behind at (pointer_bytes p))) i ∷ [] ++ given (side_of p at) (between p q at) i ∷ [] ++ bytes_from one p q at (i + 1) left

-- behind the first byte the number 1 is there by which pointers go on
abbrev pub through_left : Root → place.Spot → place.Spot → Byte → ℕ → ℕ → List Tree
through_left root p q at size zero = structure_row root (side_of p at) (side_of q (behind at (pointer_bytes p))) (between p q at) size
through_left root p q at size (suc done) = bytes_from (Result root 0) p q at (suc done) (size - suc done)

-- a structure of which so many bytes are copied
abbrev pub copying : Root → place.Spot → place.Spot → Byte → ℕ → ℕ → List Tree
copying root (Fixed to) (Fixed from) at size done = copies_from to from done (beyond 0 size - done)
copying root p q at size done = through_left root p q at size done

-- The read of a byte may be an event: then the byte is written to its way by the next step.
abbrev pub is_seen : place.Spot → spot.Spot → Bool
is_seen (Fixed from) at = if is_private from then false else true
is_seen (Bit register bit) at = false
is_seen Computed (spots.Memory (Into object offset)) = is_fixed object
is_seen Computed at = false

-- the byte of this number was read
abbrev pub carrying : Scene → Root → place.Spot → place.Spot → Byte → ℕ → spot.Spot → value.Byte → ℕ → List Task → List Task
carrying z root (Fixed to) (Fixed from) at size where_is byte i c = Put (behind to i) (held z byte) ∷ todo (copies_from to from (i + 1) (beyond 0 size - (i + 1))) c
carrying z root p q at size where_is byte i c =
    putting_if (is_seen q where_is) z (between p q at) (byte ∷ []) (todo (given (side_of p at) (between p q at) i ∷ bytes_from (Result root 0) p q at (i + 1) (size - (i + 1))) c)

-- so many bytes are left; and one that was read, and so many behind it
abbrev pub copying_at : Ground → List Pending → ℕ → List Task
copying_at g (In (tree.StructAssign place other size line) got ∷ k) left =
    todo (copying g.layout.root (spot_of g.layout g.copy place) (spot_of g.layout g.copy other) (Frame g.copy (base g k)) size (size - left)) (code_after g (In (tree.StructAssign place other size line) got ∷ k))
copying_at g (Doing (tree.InitList local all line) (Items (tree.Struct offset other size) rest) ∷ k) left =
    todo (copying g.layout.root (Fixed (behind (local_byte g local) offset)) (spot_of g.layout g.copy other) (first g) size (size - left)) (code_after g (Doing (tree.InitList local all line) (Items (tree.Struct offset other size) rest) ∷ k))
copying_at g k left = code_after g k

abbrev pub carrying_at : Scene → Ground → List Pending → spot.Spot → value.Byte → ℕ → List Task
carrying_at z g (In (tree.StructAssign place other size line) got ∷ k) from byte left =
    carrying z g.layout.root (spot_of g.layout g.copy place) (spot_of g.layout g.copy other) (Frame g.copy (base g k)) size from byte (size - suc left) (code_after g (In (tree.StructAssign place other size line) got ∷ k))
carrying_at z g (Doing (tree.InitList local all line) (Items (tree.Struct offset other size) rest) ∷ k) from byte left =
    carrying z g.layout.root (Fixed (behind (local_byte g local) offset)) (spot_of g.layout g.copy other) (first g) size from byte (size - suc left) (code_after g (Doing (tree.InitList local all line) (Items (tree.Struct offset other size) rest) ∷ k))
carrying_at z g k from byte left = code_after g k

-- ---- where byte code stands
-- A function that is left is left in byte code too.
abbrev pub code_left : Scene → List Pending → List Task
code_left z (Returns d ∷ k) = code_after (ground_in z d) k
code_left z k = []

abbrev pub code_at : Scene → Ground → Focus → List Pending → List Task
code_at z g (Eval e) k = todo (expr_code g.layout g.copy (base g k) (wanted k) e) (code_after g k)
code_at z g (Find place) k = todo (pointer_code (spot_of g.layout g.copy place) (address_code g.layout g.copy (base g k) place)) (code_after g k)
code_at z g (Holds v) k = code_after g k
code_at z g (Found spot) k = code_after g k
code_at z g (Run t) k = todo (stmt_code g (jumps k) t) (code_after g k)
code_at z g Past k = code_after g k
code_at z g (Fetch spot read) k = reading_at z g k spot read
code_at z g (Skim spot left byte) k = reading_at z g k spot (skimmed (skim_count g k - left) byte)
code_at z g (Write spot v done) k = writing_at z g k spot done
code_at z g (BitPut register number v old) k = PutBack register (with_bit number (lowest_bit v) old) ∷ Join ∷ code_after g k
code_at z g (Spell spot text left) k = spelling_at g k left (code_after g k)
code_at z g (Blank at left) k = blanking_at g k at left (code_after g k)
code_at z g (CopyRead to from left) k = copying_at g k left
code_at z g (CopyWrite to from byte left) k = carrying_at z g k from byte left
code_at z g Calls k = code_after g k
code_at z g (Leaves v) k = code_left z k
code_at z g (Compares v labels) k = comparing_at g k labels (code_after g k)
code_at z g Done k = Over ∷ []

abbrev pub stack_after : Scene → Ground → List Pending → List Waiting
stack_after z g [] = []
stack_after z g (In e got ∷ k) = stack_after z g k
stack_after z g (To place ∷ k) = stack_after z g k
stack_after z g (Doing t stage ∷ k) = stack_doing g (jumps k) t stage (code_after g k) (stack_after z g k)
stack_after z g (Before ss ∷ k) = stacked (inner_loops g (jumps k) (switch_on k) ss) (stack_after z g k)
stack_after z g (Returns d ∷ k) = InCall (number z d) (code_after (ground_in z d) k) ∷ stack_after z (ground_in z d) k
stack_after z g (Resumes d x ∷ k) = InHandler (number z d) None (code_at z (ground_in z d) x k) ∷ stack_after z (ground_in z d) k

abbrev pub stack_left : Scene → List Pending → List Waiting
stack_left z (Returns d ∷ k) = stack_after z (ground_in z d) k
stack_left z k = []

abbrev pub stack_at : Scene → Ground → Focus → List Pending → List Waiting
stack_at z g (Leaves v) k = stack_left z k
stack_at z g _ k = stack_after z g k

abbrev pub copy_left : CopyOf → List Pending → CopyOf
copy_left c (Returns d ∷ k) = d
copy_left c k = c

-- the copy that runs in byte code
abbrev pub copy_at : CopyOf → Focus → List Pending → CopyOf
copy_at c (Leaves v) k = copy_left c k
copy_at c _ k = c
