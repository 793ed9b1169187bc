-- What micro-steps that don't count may cost byte code together, before the next one that counts: by the tree that is under way, and by what waits.
use Rattle.std.specs.Prelude.{not, nat_lt, length, ℕ, zero, suc, ◌+◌, ◌-◌, ◌*◌, nat_eq, Bool, true, false, ◌&&◌, if◌then◌else◌, List, [], ◌∷◌, Option, Some, None}
use Rattle.c_ints.specs.Range.{bytes_of}
use Rattle.c_typed.specs.Trees as tree
use Rattle.c_typed.specs.Trees.{Expression, Expressions, Place, Item, Statement, Statements, Arm, Arms, LastArm, Program}
use Rattle.c_typed.specs.Types.{type_bytes, value_bytes, place_type, form_of}
use Rattle.c_typed.specs.Words.{convert_words, address_words, computed_words, struct_words}
use Rattle.c_typed.specs.declared.expression.PlaceForm.TheVariants as forms
use Rattle.c_typed.specs.declared.statement.LoopForm.{LoopForm}
use Rattle.src_values.specs.Control as control
use Rattle.src_values.specs.Control.{Focus, Got, Nothing, Chosen, One, At, AtWith, Stores, Copies, Args, Passed, Called, Stage, Tests, Begins, Steps, Turns, Picks, InArm, Chooses, Fills, AtItem, Items, Blanks, Pending, In, To, Doing, Before, Returns, Resumes, read_type}
use Rattle.src_values.specs.Counting.{is_operator}
use Rattle.src_values.specs.Values.{written_bytes}
use Rattle.src_values.specs.declared.objects.CopyOf.{CopyOf}
use Rattle.lower_trace.proofs.CodeLeft.{arm_count, switch_on}
use Rattle.lower_trace.proofs.Falling.{falling}
use Rattle.lower_trace.proofs.Spans.{body_words}
use Rattle.lower_trace.proofs.Prices.{skim_end, turn_most, turned_most}

-- a read of no bytes ends without a step that counts
abbrev pub empty_read : List ℕ → Place → ℕ → ℕ
empty_read sizes place bytes = if nat_eq bytes 0 then computed_words (form_of place) else 0

-- ---- from the beginning of a node to its first step that counts, or to its end
unfoldable mutual
  pub burden : List ℕ → Expression → ℕ
  burden sizes (tree.Constant value line) = 4 * bytes_of value.ty
  burden sizes (tree.Read place ty line) = place_burden sizes place + empty_read sizes place (type_bytes sizes ty)
  burden sizes (tree.Address place ty line) = place_burden sizes place + address_words (form_of place)
  burden sizes (tree.Convert operand ty line) = burden sizes operand + convert_words (value_bytes sizes operand) (type_bytes sizes ty)
  burden sizes (tree.Cast operand ty line) = burden sizes operand
  burden sizes (tree.Unary op operand ty line) = burden sizes operand
  burden sizes (tree.Binary op left right ty line) = burden sizes left + burden sizes right
  burden sizes (tree.Offset op left right size ty line) = burden sizes left + burden sizes right
  burden sizes (tree.Difference left right size line) = burden sizes left + burden sizes right
  burden sizes (tree.Logical op left right line) = burden sizes left + (4 * value_bytes sizes left + 28 + burden sizes right)
  burden sizes (tree.Conditional condition chosen otherwise ty line) = burden sizes condition
  burden sizes (tree.Comma left right ty line) = burden sizes left
  burden sizes (tree.Assign place value ty line) = place_burden sizes place + burden sizes value
  burden sizes (tree.StructAssign place from size line) = place_burden sizes place + place_burden sizes from
  burden sizes (tree.Update op place value operation size ty line) = place_burden sizes place + burden sizes value
  burden sizes (tree.Step op place operation size ty line) = place_burden sizes place + 16
  burden sizes (tree.Call function arguments ty line) = arguments_burden sizes arguments

  pub arguments_burden : List ℕ → Expressions → ℕ
  arguments_burden sizes tree.NoExpression = 0
  arguments_burden sizes (tree.AndExpression e es) = burden sizes e + arguments_burden sizes es

  pub place_burden : List ℕ → Place → ℕ
  place_burden sizes (tree.Name object ty line) = 0
  place_burden sizes (tree.Bit register number line) = 0
  place_burden sizes (tree.Member whole member offset ty line) = place_burden sizes whole
  place_burden sizes (tree.Deref pointer ty line) = burden sizes pointer

-- ---- the words of all functions under way
unfoldable pub under : Program → CopyOf → List Pending → ℕ
under p c [] = body_words p c
under p c (In e got ∷ k) = under p c k
under p c (To place ∷ k) = under p c k
under p c (Doing t stage ∷ k) = under p c k
under p c (Before ss ∷ k) = under p c k
under p c (Returns d ∷ k) = body_words p c + under p d k
under p c (Resumes d x ∷ k) = body_words p c + under p d k

-- and what the function that runs can't owe beside them
abbrev pub slack : Program → CopyOf → ℕ
slack p c = 4096 - 2 * body_words p c

unfoldable pub bulk : Program → CopyOf → List Pending → ℕ
bulk p c [] = slack p c + body_words p c
bulk p c (In e got ∷ k) = bulk p c k
bulk p c (To place ∷ k) = bulk p c k
bulk p c (Doing t stage ∷ k) = bulk p c k
bulk p c (Before ss ∷ k) = bulk p c k
bulk p c (Returns d ∷ k) = slack p c + (body_words p c + under p d k)
bulk p c (Resumes d x ∷ k) = slack p c + (body_words p c + under p d k)

-- whether a node may come to its end without a step that counts
abbrev pub place_passes : Place → Bool
place_passes (tree.Name object ty line) = true
place_passes (tree.Bit register number line) = true
place_passes (tree.Member whole member offset ty line) = false
place_passes (tree.Deref pointer ty line) = false

unfoldable pub passes : Program → Expression → Bool
passes p (tree.Constant value line) = true
passes p (tree.Read place ty line) = place_passes place && nat_eq (type_bytes p.sizes ty) 0
passes p (tree.Address place ty line) = place_passes place && not (is_operator p (place_type place).ty ty)
passes p (tree.Convert operand ty line) = passes p operand
passes p (tree.Cast operand ty line) = false
passes p (tree.Unary op operand ty line) = false
passes p (tree.Binary op left right ty line) = false
passes p (tree.Offset op left right size ty line) = false
passes p (tree.Difference left right size line) = false
passes p (tree.Logical op left right line) = false
passes p (tree.Conditional condition chosen otherwise ty line) = false
passes p (tree.Comma left right ty line) = false
passes p (tree.Assign place value ty line) = false
passes p (tree.StructAssign place from size line) = false
passes p (tree.Update op place value operation size ty line) = false
passes p (tree.Step op place operation size ty line) = false
passes p (tree.Call function arguments ty line) = false

abbrev pub either : Bool → ℕ → ℕ → ℕ
either true n m = n
either false n m = m

-- ---- statements
abbrev pub items_burden : List ℕ → List Item → ℕ
items_burden sizes [] = 0
items_burden sizes (tree.Scalar offset value ∷ rest) = burden sizes value
items_burden sizes (tree.Struct offset from size ∷ rest) = place_burden sizes from + (struct_words forms.Fixed (form_of from) 0 + items_burden sizes rest)
items_burden sizes (tree.Text offset text size ∷ rest) = items_burden sizes rest

-- a declarator that begins; all other statements count there
abbrev pub declarator_burden : List ℕ → Statement → ℕ
declarator_burden sizes (tree.InitScalar local e line) = burden sizes e
declarator_burden sizes (tree.InitList local all line) = items_burden sizes all
declarator_burden sizes _ = 0

unfoldable pub statements_burden : List ℕ → Statements → ℕ
statements_burden sizes tree.NoStatement = 0
statements_burden sizes (tree.AndStatement t ts) = declarator_burden sizes t + statements_burden sizes ts

-- the test of a condition, up to the body or to the end of the loop
abbrev pub test_burden : List ℕ → LoopForm → Option Expression → ℕ
test_burden sizes shape None = 0
test_burden sizes shape (Some e) = burden sizes e + (4 * value_bytes sizes e + (20 + turn_most shape))

abbrev pub step_burden : List ℕ → Option Expression → ℕ
step_burden sizes None = 0
step_burden sizes (Some e) = burden sizes e + 4

-- the conditions of arms that don't hold, of so many arms in all
unfoldable pub arms_burden : List ℕ → ℕ → Arms → ℕ
arms_burden sizes count tree.NoArm = 4 * count
arms_burden sizes count (tree.AndArm (tree.OneArm condition chosen line) more) = burden sizes condition + (4 * value_bytes sizes condition + 16 + arms_burden sizes count more)

-- ---- what waits
-- behind the end of a statement
abbrev pub end_burden_for : List ℕ → Statement → Stage → ℕ
end_burden_for sizes (tree.Loop shape first condition step body line) Turns = turned_most shape step + (step_burden sizes step + test_burden sizes shape condition)
end_burden_for sizes (tree.Switch e cases default ss line) Turns = 4
end_burden_for sizes (tree.If chain otherwise line) (InArm more) = 4 * (arm_count chain - arm_count more)
end_burden_for sizes _ _ = 0

unfoldable pub end_burden : Program → CopyOf → List Pending → ℕ
end_burden p c [] = bulk p c []
end_burden p c (In e got ∷ k) = bulk p c k
end_burden p c (To place ∷ k) = bulk p c k
end_burden p c (Doing t stage ∷ k) = end_burden_for p.sizes t stage + end_burden p c k
end_burden p c (Before ss ∷ k) = falling (switch_on k) ss + (statements_burden p.sizes ss + end_burden p c k)
end_burden p c (Returns d ∷ k) = bulk p c (Returns d ∷ k)
end_burden p c (Resumes d x ∷ k) = bulk p c (Resumes d x ∷ k)

-- a statement takes a value, but for `return`
abbrev pub value_burden_for : List ℕ → Statement → Stage → ℕ
value_burden_for sizes (tree.If chain otherwise line) (Picks (tree.OneArm condition chosen at) more) = 4 * value_bytes sizes condition + 16 + arms_burden sizes (arm_count chain) more
value_burden_for sizes (tree.Loop shape first condition step body line) Begins = test_burden sizes shape condition
value_burden_for sizes (tree.Loop shape first condition step body line) Steps = 4 + test_burden sizes shape condition
value_burden_for sizes (tree.Loop shape first (Some condition) step body line) Tests = 4 * value_bytes sizes condition + (20 + turn_most shape)
value_burden_for sizes (tree.Switch e cases default ss line) Tests = 12 + statements_burden sizes ss
value_burden_for sizes _ _ = 0

-- an expression takes a value: what it costs itself, and whether its own value comes without a step that counts
abbrev pub value_burden_in : List ℕ → Expression → Got → ℕ
value_burden_in sizes (tree.Convert operand ty line) Nothing = convert_words (value_bytes sizes operand) (type_bytes sizes ty)
value_burden_in sizes (tree.Binary op left right ty line) Nothing = burden sizes right
value_burden_in sizes (tree.Offset op left right size ty line) Nothing = burden sizes right
value_burden_in sizes (tree.Difference left right size line) Nothing = burden sizes right
value_burden_in sizes (tree.Logical op left right line) Nothing = 4 * value_bytes sizes left + 28 + burden sizes right
value_burden_in sizes (tree.Conditional condition chosen otherwise ty line) Chosen = 4
value_burden_in sizes (tree.Call function arguments ty line) (Args before more) = arguments_burden sizes more
value_burden_in sizes _ _ = 0

abbrev pub hands_on : Expression → Got → Bool
hands_on (tree.Convert operand ty line) Nothing = true
hands_on (tree.Conditional condition chosen otherwise ty line) Chosen = true
hands_on _ _ = false

-- `return` leaves its function, and the call has the value
abbrev pub is_return : Statement → Stage → Bool
is_return (tree.Return value line) Tests = true
is_return _ _ = false

abbrev pub returned_burden : List ℕ → Statement → ℕ
returned_burden sizes (tree.Return (Some e) line) = 6 * value_bytes sizes e + 4
returned_burden sizes _ = 0

-- one that is handed to a call has this many bytes
abbrev pub handed_burden : List ℕ → Expression → Got → ℕ
handed_burden sizes (tree.Call function arguments ty line) Called = 6 * type_bytes sizes ty
handed_burden sizes _ _ = 0

unfoldable mutual
  -- a value goes to what waits
  pub value_burden : Program → CopyOf → List Pending → ℕ
  value_burden p c [] = bulk p c []
  value_burden p c (In e got ∷ k) = value_burden_in p.sizes e got + either (hands_on e got) (value_burden p c k) (bulk p c k)
  value_burden p c (To place ∷ k) = bulk p c k
  value_burden p c (Doing t stage ∷ k) = if is_return t stage then returned_burden p.sizes t + leave_burden p c k else value_burden_for p.sizes t stage + end_burden p c k
  value_burden p c (Before ss ∷ k) = bulk p c k
  value_burden p c (Returns d ∷ k) = bulk p c (Returns d ∷ k)
  value_burden p c (Resumes d x ∷ k) = bulk p c (Resumes d x ∷ k)

  -- a function that is left with a value
  pub leave_burden : Program → CopyOf → List Pending → ℕ
  leave_burden p c [] = 0
  leave_burden p c (In e got ∷ k) = 0
  leave_burden p c (To place ∷ k) = 0
  leave_burden p c (Doing t stage ∷ k) = leave_burden p c k
  leave_burden p c (Before ss ∷ k) = leave_burden p c k
  leave_burden p c (Returns d ∷ k) = call_burden p d k
  leave_burden p c (Resumes d x ∷ k) = 0

  pub call_burden : Program → CopyOf → List Pending → ℕ
  call_burden p c [] = 0
  call_burden p c (In e got ∷ k) = handed_burden p.sizes e got + value_burden p c k
  call_burden p c (To place ∷ k) = 0
  call_burden p c (Doing t stage ∷ k) = 0
  call_burden p c (Before ss ∷ k) = 0
  call_burden p c (Returns d ∷ k) = 0
  call_burden p c (Resumes d x ∷ k) = 0

-- a place goes to what waits: what it costs, and whether a value comes of it without a step that counts
abbrev pub found_burden_in : List ℕ → Expression → Got → ℕ
found_burden_in sizes (tree.Read place ty line) Nothing = empty_read sizes place (type_bytes sizes ty)
found_burden_in sizes (tree.Address place ty line) Nothing = address_words (form_of place)
found_burden_in sizes (tree.Assign place value ty line) Nothing = burden sizes value
found_burden_in sizes (tree.StructAssign place from size line) Nothing = place_burden sizes from
found_burden_in sizes (tree.Update op place value operation size ty line) Nothing = burden sizes value
found_burden_in sizes (tree.Step op place operation size ty line) Nothing = 16
found_burden_in sizes _ _ = 0

-- An address counts where it is an operator.
abbrev pub leads_on : Program → Expression → Got → Bool
leads_on p (tree.Read place ty line) Nothing = nat_eq (type_bytes p.sizes ty) 0
leads_on p (tree.Address place ty line) Nothing = not (is_operator p (place_type place).ty ty)
leads_on p _ _ = false

abbrev pub copied_burden : List ℕ → Stage → ℕ
copied_burden sizes (AtItem (tree.Struct offset from size) rest) = struct_words forms.Fixed (form_of from) 0 + items_burden sizes rest
copied_burden sizes (Items (tree.Struct offset from size) rest) = struct_words forms.Fixed (form_of from) 0 + items_burden sizes rest
copied_burden sizes (Items item rest) = items_burden sizes rest
copied_burden sizes _ = 0

abbrev pub items_left : List ℕ → Stage → ℕ
items_left sizes (Items item rest) = items_burden sizes rest
items_left sizes _ = 0

abbrev pub place_burden_at : Program → CopyOf → List Pending → ℕ
place_burden_at p c (In e got ∷ k) = found_burden_in p.sizes e got + either (leads_on p e got) (value_burden p c k) (bulk p c k)
place_burden_at p c (To place ∷ k) = bulk p c k
place_burden_at p c (Doing t stage ∷ k) = copied_burden p.sizes stage + end_burden p c k
place_burden_at p c k = 0

-- all bytes of a value were read, written or copied
abbrev pub is_read : Expression → Bool
is_read (tree.Read place ty line) = true
is_read _ = false

abbrev pub fetched_burden : Program → CopyOf → List Pending → ℕ
fetched_burden p c (In e got ∷ k) = 27 + either (is_read e) (value_burden p c k) (bulk p c k)
fetched_burden p c k = 27

abbrev pub skimmed_burden : Program → CopyOf → List Pending → ℕ
skimmed_burden p c (In (tree.Read place ty line) got ∷ k) = skim_end p.sizes place (type_bytes p.sizes ty) + value_burden p c k
skimmed_burden p c k = 27

abbrev pub stored_burden : Program → CopyOf → ℕ → List Pending → ℕ
stored_burden p c own (In e got ∷ k) = own + value_burden p c k
stored_burden p c own (Doing t stage ∷ k) = items_left p.sizes stage + end_burden p c k
stored_burden p c own k = 0

abbrev pub copy_burden : Program → CopyOf → List Pending → ℕ
copy_burden p c (In e got ∷ k) = 8 + value_burden p c k
copy_burden p c (Doing t stage ∷ k) = copied_burden p.sizes stage + end_burden p c k
copy_burden p c k = 0

abbrev pub compared_burden_for : List ℕ → Statement → ℕ
compared_burden_for sizes (tree.Switch e cases default ss line) = 12 + statements_burden sizes ss
compared_burden_for sizes _ = 0

abbrev pub compared_burden : Program → CopyOf → List Pending → ℕ
compared_burden p c (Doing t stage ∷ k) = compared_burden_for p.sizes t + end_burden p c k
compared_burden p c k = 0

abbrev pub if_any : ℕ → ℕ → ℕ → ℕ
if_any zero some none = none
if_any (suc n) some none = some

-- ---- a state: what is owed before the next step that counts, and the words of the functions that are under way there
abbrev pub load : Program → CopyOf → Focus → List Pending → ℕ
load p c (control.Eval e) k = burden p.sizes e + either (passes p e) (value_burden p c k) (bulk p c k)
load p c (control.Find place) k = place_burden p.sizes place + either (place_passes place) (place_burden_at p c k) (bulk p c k)
load p c (control.Holds v) k = value_burden p c k
load p c (control.Found spot) k = place_burden_at p c k
load p c (control.Run t) k = declarator_burden p.sizes t + end_burden p c k
load p c control.Past k = end_burden p c k
load p c (control.Fetch spot read) k = if nat_lt (length read) (type_bytes p.sizes (read_type k)) then bulk p c k else fetched_burden p c k
load p c (control.Skim spot left byte) k = if_any left (bulk p c k) (skimmed_burden p c k)
load p c (control.Write spot v at) k = if nat_lt at (written_bytes spot v) then bulk p c k else stored_burden p c 28 k
load p c (control.PutBit register number v old) k = bulk p c k
load p c (control.CopyRead to from left) k = if_any left (bulk p c k) (copy_burden p c k)
load p c (control.CopyWrite to from byte left) k = bulk p c k
load p c (control.Spell spot text left) k = stored_burden p c 0 k
load p c (control.Blank at left) k = stored_burden p c 0 k
load p c control.Calls k = bulk p c k
load p c (control.Leaves v) k = leave_burden p c k
load p c (control.Compares v labels) k = compared_burden p c k
load p c control.Over k = bulk p c k
