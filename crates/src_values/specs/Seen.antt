-- The values, answers, focuses and stacks that the code has, as those of the definitions. Each is a function: where the code
-- has an index beyond a list, it shows a part for which the definitions answer what the code answers.
use Rattle.std.specs.Prelude.{ℕ, zero, suc, ◌+◌, ◌-◌, ◌^◌, ◌<◌, Bool, true, false, ◌&&◌, ℤ, neg_ℤ, List, [], ◌∷◌, ◌++◌, reverse, drop, map, pos, Option, Some, None, option_map, slice_get, Vec}
use Rattle.std.specs.Borrow.{Bor}
use Rattle.std.specs.Global.{Global}
use Rattle.c_ints.specs.Operators.{cut_to}
use Rattle.c_ints.specs.Quantity.{Quantity}
use Rattle.c_typed.specs.Trees as tree
use Rattle.c_typed.specs.Trees.{Expression, Expressions, Place, Item, Statement, Statements, Arm, Arms}
use Rattle.c_typed.specs.Views.{expression_of, place_of, item_of, statements_of, statement_of}
use Rattle.c_typed.specs.declared.expression.Object.TheVariants.{Register}
use Rattle.c_typed.specs.declared.statement.TItem.{TItem}
use Rattle.c_typed.specs.declared.statement.TStmt.{TStmt}
use Rattle.c_typed.specs.declared.statement.TStmt.TheViews.{out-TArm}
use Rattle.c_typed.specs.declared.types.Ty.TheVariants.{Void}
use Rattle.src_values.specs.Control as control
use Rattle.src_values.specs.Data as datum
use Rattle.src_values.specs.Objects.{is_alive}
use Rattle.src_values.specs.Values as answers
use Rattle.src_values.specs.Values.{converted}
use Rattle.src_values.specs.declared.control.Code.{Code}
use Rattle.src_values.specs.declared.control.Code.TheVariants as codes
use Rattle.src_values.specs.declared.control.Focus.{Focus}
use Rattle.src_values.specs.declared.control.Focus.TheVariants as focuses
use Rattle.src_values.specs.declared.control.Got.{Got}
use Rattle.src_values.specs.declared.control.Got.TheVariants as gots
use Rattle.src_values.specs.declared.control.Pending.{Pending}
use Rattle.src_values.specs.declared.control.Pending.TheVariants as frames
use Rattle.src_values.specs.declared.control.Stage.{Stage}
use Rattle.src_values.specs.declared.control.Stage.TheVariants as stages
use Rattle.src_values.specs.declared.objects.Byte.{Byte}
use Rattle.src_values.specs.declared.objects.CopyOf.{CopyOf}
use Rattle.src_values.specs.declared.objects.Datum.{Datum}
use Rattle.src_values.specs.declared.objects.Datum.TheVariants as datums
use Rattle.src_values.specs.declared.objects.Number.{Number}
use Rattle.src_values.specs.declared.objects.Pointer.TheVariants.{Null, Into}
use Rattle.src_values.specs.declared.objects.ReadBytes.{ReadBytes}
use Rattle.src_values.specs.declared.objects.ReadBytes.TheVariants as reads
use Rattle.src_values.specs.declared.objects.Spot.{Spot}
use Rattle.src_values.specs.declared.objects.Spot.TheVariants as spots
use Rattle.src_values.specs.declared.objects.Undef.TheVariants.{Unset}
use Rattle.src_values.specs.declared.values.Answer.{Answer}
use Rattle.src_values.specs.declared.values.Answer.TheVariants as given

-- ---- values
-- a number, by its bits
abbrev pub quantity_of : Number → Quantity
quantity_of n = cut_to n.ty (pos n.bits)

abbrev pub datum_of : Datum → datum.Datum
datum_of (datums.Number n) = datum.Number (quantity_of n)
datum_of (datums.Pointer x) = datum.Pointer x
datum_of datums.Missing = datum.Missing

-- there is no value
abbrev pub is_missing : datum.Datum → Bool
is_missing (datum.Number q) = false
is_missing (datum.Pointer x) = false
is_missing datum.Missing = true

-- the bytes that were read
abbrev pub read_of : ReadBytes → List Byte
read_of reads.Nothing = []
read_of (reads.One a) = a ∷ []
read_of (reads.Two a b) = a ∷ b ∷ []
read_of (reads.Three a b c) = a ∷ b ∷ c ∷ []
read_of (reads.Four a b c d) = a ∷ b ∷ c ∷ d ∷ []

abbrev pub answer_in : Answer → answers.Answer
answer_in (given.Gives v) = answers.Gives (datum_of v)
answer_in (given.Fails kind) = answers.Fails kind
answer_in given.Strays = answers.Strays

-- what two pointers point to is alive
abbrev pub are_alive : List CopyOf → datum.Datum → datum.Datum → Bool
are_alive active (datum.Pointer (Into a f)) (datum.Pointer (Into b g)) = is_alive active a && is_alive active b
are_alive active _ _ = true

-- what an operator answers of an operand that is no number where it wants one: a missing one is unset
abbrev pub unset_or_strays : datum.Datum → answers.Answer
unset_or_strays (datum.Number q) = answers.Strays
unset_or_strays (datum.Pointer x) = answers.Strays
unset_or_strays datum.Missing = answers.Fails Unset

-- a step up or down by so many bytes
abbrev pub signed : Bool → ℕ → ℤ
signed true n = neg_ℤ (pos n)
signed false n = pos n

-- the number of the following byte is below 2 to the 64
abbrev pub has_next : Spot → Type 0
has_next (spots.Device address) = Unit {0}
has_next (spots.Bit register number) = Unit {0}
has_next (spots.Memory Null) = Unit {0}
has_next (spots.Memory (Into object offset)) = offset + 1 < 2 ^ 64

-- ---- statements
-- The statement at a place; where there is none the code goes on as behind an empty one, at line 0.
abbrev pub found_at : Code → Option TStmt
found_at (codes.Listed ss at) = slice_get ss.now.items at
found_at (codes.Boxed s) = Some s.now.value
found_at (codes.InArm arms at) = option_map (λ arm. (out-TArm arm).then) (slice_get arms.now.items at)

abbrev pub or_empty : Option TStmt → Statement
or_empty None = tree.Empty 0
or_empty (Some s) = statement_of s

abbrev pub statement_in : Code → Statement
statement_in code = or_empty (found_at code)

abbrev pub is_loop : Statement → Bool
is_loop (tree.Loop shape first condition step body line) = true
is_loop _ = false

abbrev pub is_switch : Statement → Bool
is_switch (tree.Switch e cases default ss line) = true
is_switch _ = false

-- the parts behind so many
abbrev pub expressions_from : ℕ → Expressions → Expressions
expressions_from zero es = es
expressions_from (suc n) tree.NoExpression = tree.NoExpression
expressions_from (suc n) (tree.AndExpression e es) = expressions_from n es

abbrev pub arms_from : ℕ → Arms → Arms
arms_from zero as_ = as_
arms_from (suc n) tree.NoArm = tree.NoArm
arms_from (suc n) (tree.AndArm a as_) = arms_from n as_

-- the arms of a statement, and the items of its list
abbrev pub arms_in : Statement → Arms
arms_in (tree.If chain otherwise line) = chain
arms_in _ = tree.NoArm

abbrev pub items_in : Statement → List Item
items_in (tree.InitList local all line) = all
items_in _ = []

-- a stage at which no statement of the form waits
abbrev pub lost : Statement → control.Stage
lost (tree.InitScalar local e line) = control.Chooses
lost _ = control.Fills

abbrev pub picks_of : Statement → Arms → control.Stage
picks_of t tree.NoArm = lost t
picks_of t (tree.AndArm arm more) = control.Picks arm more

abbrev pub at_item_of : Statement → List Item → control.Stage
at_item_of t [] = lost t
at_item_of t (item ∷ more) = control.AtItem item more

abbrev pub items_of : Statement → List Item → control.Stage
items_of t [] = lost t
items_of t (item ∷ more) = control.Items item more

abbrev pub stage_in : Statement → Stage → control.Stage
stage_in t stages.Tests = control.Tests
stage_in t stages.Begins = control.Begins
stage_in t stages.Steps = control.Steps
stage_in t stages.Turns = control.Turns
stage_in t (stages.Picks at) = picks_of t (arms_from at (arms_in t))
stage_in t (stages.InArm at) = control.InArm (arms_from at (arms_in t))
stage_in t stages.Chooses = control.Chooses
stage_in t stages.Fills = control.Fills
stage_in t (stages.AtItem at) = at_item_of t (drop at (items_in t))
stage_in t (stages.Items at) = items_of t (drop at (items_in t))
stage_in t stages.Blanks = control.Blanks

-- ---- focuses
abbrev pub focus_in : Focus → control.Focus
focus_in (focuses.Eval e) = control.Eval (expression_of e.now)
focus_in (focuses.Find place) = control.Find (place_of place.now)
focus_in (focuses.Holds v) = control.Holds (datum_of v)
focus_in (focuses.Found spot) = control.Found spot
focus_in (focuses.Run code) = control.Run (statement_in code)
focus_in focuses.Past = control.Past
focus_in (focuses.Fetch spot read) = control.Fetch spot (read_of read)
focus_in (focuses.Skim spot left last) = control.Skim spot left last
focus_in (focuses.Write spot v at) = control.Write spot (datum_of v) at
focus_in (focuses.PutBit register number v old) = control.PutBit register number (datum_of v) old
focus_in (focuses.CopyRead to from left) = control.CopyRead to from left
focus_in (focuses.CopyWrite to from byte left) = control.CopyWrite to from byte left
focus_in (focuses.Spell spot text left) = control.Spell spot text.now left
focus_in (focuses.Blank at end) = control.Blank at (end - at)
focus_in focuses.Calls = control.Calls
focus_in (focuses.Leaves v) = control.Leaves (datum_of v)
focus_in (focuses.Compares v cases next) = control.Compares (datum_of v) (drop next cases.now.items)
focus_in focuses.Over = control.Over

abbrev pub is_over : control.Focus → Bool
is_over control.Over = true
is_over _ = false

-- ---- stacks, the top first
-- the values of arguments that stand on top, the lowest first
abbrev pub values_on : List Pending → List datum.Datum
values_on (frames.Value v ∷ k) = values_on k ++ datum_of v ∷ []
values_on _ = []

-- the arguments of a call behind so many
abbrev pub arguments_from : ℕ → Expression → Expressions
arguments_from n (tree.Call function arguments ty line) = expressions_from n arguments
arguments_from n _ = tree.NoExpression

abbrev pub got_in : Expression → Got → List datum.Datum → control.Got
got_in e gots.Nothing values = control.Nothing
got_in e gots.Chosen values = control.Chosen
got_in e (gots.One v) values = control.One (datum_of v)
got_in e (gots.At spot) values = control.At spot
got_in e (gots.AtWith spot v) values = control.AtWith spot (datum_of v)
got_in e (gots.Stores spot v) values = control.Stores spot (datum_of v)
got_in e gots.Copies values = control.Copies
got_in e (gots.Args n) values = control.Args values (arguments_from (n + 1) e)
got_in e gots.Passed values = control.Passed values
got_in e gots.Called values = control.Called

-- Whether the values below belong to a call.
abbrev pub has_values : Got → Bool
has_values gots.Nothing = false
has_values gots.Chosen = false
has_values (gots.One v) = false
has_values (gots.At spot) = false
has_values (gots.AtWith spot v) = false
has_values (gots.Stores spot v) = false
has_values gots.Copies = false
has_values (gots.Args n) = true
has_values gots.Passed = true
has_values gots.Called = false

-- a frame at which no rule goes on, for a value that no call waits for
abbrev pub astray : control.Pending
astray = control.To (tree.Name (Register 0) (record { ty = Void; constant = false; volatile = false }) 0)

-- the frame of a value, which is left out where it belongs to a call
abbrev pub unless_of_call : Bool → List control.Pending → List control.Pending
unless_of_call true k = k
unless_of_call false k = astray ∷ k

-- What waits, where the handler interrupted this focus; whether the values on top belong to a call above.
abbrev pub frames_behind : control.Focus → Bool → List Pending → List control.Pending
frames_behind x of_call [] = []
frames_behind x of_call (frames.In e got ∷ k) = control.In (expression_of e.now) (got_in (expression_of e.now) got (values_on k)) ∷ frames_behind x (has_values got) k
frames_behind x of_call (frames.Value v ∷ k) = unless_of_call of_call (frames_behind x of_call k)
frames_behind x of_call (frames.To place ∷ k) = control.To (place_of place.now) ∷ frames_behind x false k
frames_behind x of_call (frames.Doing code stage ∷ k) = control.Doing (statement_in code) (stage_in (statement_in code) stage) ∷ frames_behind x false k
frames_behind x of_call (frames.Before ss at ∷ k) = control.Before (statements_of (map statement_of (drop at ss.now.items))) ∷ frames_behind x false k
frames_behind x of_call (frames.Ended ∷ k) = control.Before tree.NoStatement ∷ frames_behind x false k
frames_behind x of_call (frames.Returns copy ∷ k) = control.Returns copy ∷ frames_behind x false k
frames_behind x of_call (frames.Resumes copy ∷ k) = control.Resumes copy x ∷ frames_behind x false k

abbrev pub frames_in : control.Focus → List Pending → List control.Pending
frames_in x k = frames_behind x false k

-- the stack that the code has, with its top at the end
abbrev pub stack_in : control.Focus → List Pending → List control.Pending
stack_in x k = frames_in x (reverse k)

-- a stack with this top: an empty one where there is none
abbrev pub with_top : Option (Bor Pending) → List Pending → List Pending
with_top None k = []
with_top (Some top) k = top.now ∷ k

-- the list of the statement that waits, and the number of its local
abbrev pub list_in : Statement → Option (ℕ × List Item)
list_in (tree.InitList local all line) = Some (local, all)
list_in _ = None

abbrev pub list_on : List control.Pending → Option (ℕ × List Item)
list_on (control.Doing t stage ∷ k) = list_in t
list_on _ = None

abbrev pub list_seen : Option (ℕ × Bor (Vec TItem Global)) → Option (ℕ × List Item)
list_seen None = None
list_seen (Some list) = Some (list.0, map item_of list.1.now.items)
