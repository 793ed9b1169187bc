-- What is known of the parts of a function that are under way: what they call is among the calls of the function; and where the value of
-- an integer constant expression is waited for, that value comes.
use Rattle.std.proofs.Common.{◌≡◌, ℕ, Bool, true, false, ◌||◌, List, [], ◌∷◌, ◌++◌, Option, Some, None, refl, sym, ◌∙◌}
use Rattle.std.specs.List.{list_any}
use Rattle.c_typed.specs.Calls.{calls, place_calls, arguments_calls, items_calls, statement_calls, statements_calls, arm_calls, arms_calls}
use Rattle.c_typed.specs.Folding.{constant_value, connected, truth_of}
use Rattle.c_typed.specs.Trees as tree
use Rattle.c_typed.specs.Trees.{Expression, Program}
use Rattle.c_typed.specs.Types.{is_constant}
use Rattle.c_typed.specs.declared.calls.FnId.{FnId}
use Rattle.src_rules.specs.State.{Outcome, Went, Undefined, Idle, Lost}
use Rattle.src_values.specs.Control.{Focus, Eval, Find, Holds, Run, Got, Nothing, Chosen, One, At, AtWith, Args, Stage, Picks, InArm, AtItem, Items, Pending, In, To, Doing, Before, Returns, Resumes}
use Rattle.src_values.specs.Data as datum
use Rattle.src_values.specs.Data.{Datum}
use Rattle.src_values.specs.Objects.{function_at}
use Rattle.src_values.specs.Values as answers
use Rattle.src_values.specs.Values.{Answer}
use Rattle.src_values.specs.declared.objects.CopyOf.{CopyOf}

-- ---- calls
-- each of these calls is one of the function's: whatever is asked of calls, where one of them has it, one of the function's has it
abbrev pub Has : Program → ℕ → List FnId → Type 0
Has p f xs = (test : FnId → Bool) → list_any test xs ≡ true → list_any test (statements_calls (function_at p f).body) ≡ true

or_right : (a b : Bool) → b ≡ true → (a || b) ≡ true
or_right true b e = refl
or_right false b e = e

any_left : (test : FnId → Bool) (xs ys : List FnId) → list_any test xs ≡ true → list_any test (xs ++ ys) ≡ true
any_left test [] ys e = absurd (cc)
any_left test (x ∷ xs) ys e = by (test x) e (any_left test xs ys) where
  by : (t : Bool) → (t || list_any test xs) ≡ true → (list_any test xs ≡ true → list_any test (xs ++ ys) ≡ true) → (t || list_any test (xs ++ ys)) ≡ true
  by true h more = refl
  by false h more = more h

any_right : (test : FnId → Bool) (xs ys : List FnId) → list_any test ys ≡ true → list_any test (xs ++ ys) ≡ true
any_right test [] ys e = e
any_right test (x ∷ xs) ys e = or_right (test x) (list_any test (xs ++ ys)) (any_right test xs ys e)

pub left_has : (p : Program) (f : ℕ) (xs ys : List FnId) → Has p f (xs ++ ys) → Has p f xs
left_has p f xs ys h test e = h test (any_left test xs ys e)

pub right_has : (p : Program) (f : ℕ) (xs ys : List FnId) → Has p f (xs ++ ys) → Has p f ys
right_has p f xs ys h test e = h test (any_right test xs ys e)

pub none_has : (p : Program) (f : ℕ) → Has p f []
none_has p f test e = absurd (cc)

-- ---- constants
-- The expression whose value the frame on top waits for; of frames that no constant has there is none.
abbrev pub owed : List Pending → Option Expression
owed (In (tree.Convert operand ty line) Nothing ∷ k) = Some operand
owed (In (tree.Cast operand ty line) Nothing ∷ k) = Some operand
owed (In (tree.Unary op operand ty line) Nothing ∷ k) = Some operand
owed (In (tree.Binary op left right ty line) Nothing ∷ k) = Some left
owed (In (tree.Binary op left right ty line) (One u) ∷ k) = Some right
owed (In (tree.Logical op left right line) Nothing ∷ k) = Some left
owed (In (tree.Logical op left right line) (One u) ∷ k) = Some right
owed (In (tree.Conditional condition held failed ty line) Nothing ∷ k) = Some condition
owed (In (tree.Conditional condition held failed ty line) Chosen ∷ k) = Some (tree.Conditional condition held failed ty line)
owed (In (tree.Update op place value operation size ty line) (At spot) ∷ k) = Some value
owed _ = None

-- where a constant is owed, the expression is one with the same value
abbrev pub IsFor : Option Expression → Expression → Type 0
IsFor None e = Unit {0}
IsFor (Some part) e = is_constant part ≡ true → (is_constant e ≡ true) × (constant_value e ≡ constant_value part)

-- the value of an expression, if that is a constant
abbrev pub IsValue : Expression → Datum → Type 0
IsValue e (datum.Number q) = is_constant e ≡ true → constant_value e ≡ Some q
IsValue e (datum.Pointer x) = is_constant e ≡ true → ⊥
IsValue e datum.Missing = is_constant e ≡ true → ⊥

abbrev pub ValueFor : Option Expression → Datum → Type 0
ValueFor None v = Unit {0}
ValueFor (Some part) v = IsValue part v

abbrev pub AnswerIs : Expression → Answer → Type 0
AnswerIs e (answers.Gives v) = IsValue e v
AnswerIs e (answers.Fails kind) = Unit {0}
AnswerIs e answers.Strays = Unit {0}

pub itself : (e : Expression) → IsFor (Some e) e
itself e is = (is, refl)

pub given : (o : Option Expression) (e : Expression) (v : Datum) → IsValue e v → IsFor o e → ValueFor o v
given None e v x h = tt
given (Some part) e (datum.Number q) x h = λ is. let r = h is in sym r.1 ∙ x r.0
given (Some part) e (datum.Pointer y) x h = λ is. x (h is).0
given (Some part) e datum.Missing x h = λ is. x (h is).0

-- an expression that is no constant
pub free_value : (e : Expression) (v : Datum) → (is_constant e ≡ true → ⊥) → IsValue e v
free_value e (datum.Number q) never = λ is. absurd (never is)
free_value e (datum.Pointer x) never = never
free_value e datum.Missing never = never

pub free_given : (o : Option Expression) (e : Expression) (v : Datum) → (is_constant e ≡ true → ⊥) → IsFor o e → ValueFor o v
free_given o e v never h = given o e v (free_value e v never) h

pub free_for : (o : Option Expression) (e other : Expression) → (is_constant e ≡ true → ⊥) → IsFor o e → IsFor o other
free_for None e other never h = tt
free_for (Some part) e other never h = λ is. absurd (never (h is).0)

pub free_answer : (e : Expression) (a : Answer) → (is_constant e ≡ true → ⊥) → AnswerIs e a
free_answer e (answers.Gives v) never = free_value e v never
free_answer e (answers.Fails kind) never = tt
free_answer e answers.Strays never = tt

-- ---- states
-- what is done of a node
abbrev pub DoneOf : Program → ℕ → Expression → Got → Type 0
DoneOf p f (tree.Binary op left right ty line) (One u) = IsValue left u
DoneOf p f (tree.Logical op left right line) (One u) = is_constant left ≡ true → connected op (constant_value left) (constant_value right) ≡ truth_of (constant_value right)
DoneOf p f (tree.Update op place value operation size ty line) (AtWith spot u) = IsValue value u
DoneOf p f (tree.Call function arguments ty line) (Args before more) = Has p f (arguments_calls more)
DoneOf p f _ _ = Unit {0}

abbrev pub StageHas : Program → ℕ → Stage → Type 0
StageHas p f (Picks arm more) = Has p f (arm_calls arm) × Has p f (arms_calls more)
StageHas p f (InArm more) = Has p f (arms_calls more)
StageHas p f (AtItem item rest) = Has p f (items_calls rest)
StageHas p f (Items item rest) = Has p f (items_calls rest)
StageHas p f _ = Unit {0}

abbrev pub FocusHas : Program → CopyOf → Focus → List Pending → Type 0
FocusHas p c (Eval e) k = Has p c.function (calls e) × IsFor (owed k) e
FocusHas p c (Find place) k = Has p c.function (place_calls place)
FocusHas p c (Holds v) k = ValueFor (owed k) v
FocusHas p c (Run t) k = Has p c.function (statement_calls t)
FocusHas p c _ k = Unit {0}

abbrev pub StackHas : Program → CopyOf → List Pending → Type 0
StackHas p c [] = Unit {0}
StackHas p c (In e got ∷ k) = (Has p c.function (calls e) × IsFor (owed k) e) × DoneOf p c.function e got × StackHas p c k
StackHas p c (To place ∷ k) = Has p c.function (place_calls place) × StackHas p c k
StackHas p c (Doing t stage ∷ k) = Has p c.function (statement_calls t) × StageHas p c.function stage × StackHas p c k
StackHas p c (Before ss ∷ k) = Has p c.function (statements_calls ss) × StackHas p c k
StackHas p c (Returns d ∷ k) = StackHas p d k
StackHas p c (Resumes d x ∷ k) = FocusHas p d x k × StackHas p d k

-- where a micro-step goes on, the next state has all this
abbrev pub KeepsParts : Program → Outcome → Type 0
KeepsParts p (Went u event) = FocusHas p u.copy u.focus u.stack × StackHas p u.copy u.stack
KeepsParts p (Undefined kind line) = Unit {0}
KeepsParts p Idle = Unit {0}
KeepsParts p Lost = Unit {0}
