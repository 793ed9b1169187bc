-- The depth of each node of the code from the depths of its parts, and of lists.
use Rattle.std.proofs.Common.{◌≡◌, ℕ, ◌+◌, ◌<◌, ◌≤◌, ◌^◌, max, List, [], ◌∷◌, Some, None, map, drop, length, refl, sym, ap, ◌∙◌, arith}
use Rattle.std.proofs.Math.ListN.{get_or}
use Rattle.std.proofs.lemmas.List.{drop_more, drop_all}
use Rattle.std.specs.Global.{Box}
use Rattle.c_typed.proofs.Shapes.{show_arm}
use Rattle.c_typed.specs.Nodes.{capped}
use Rattle.c_typed.specs.Views.{expression_of, arguments_of, item_of, statement_of, statements_of, arm_of, arms_of, last_arm_of, function_of}
use Rattle.c_typed.specs.declared.expression.TExpr.{TExpr}
use Rattle.c_typed.specs.declared.program.Function.{Function}
use Rattle.c_typed.specs.declared.statement.TArm.{TArm}
use Rattle.c_typed.specs.declared.statement.TItem.{TItem}
use Rattle.c_typed.specs.declared.statement.TStmt as StmtOf
use Rattle.c_typed.specs.declared.statement.TStmt.TheViews.{out-TArm}
use Rattle.source_room.specs.Depth.{expression_depth, arguments_depth, item_depth, items_depth, statement_depth, body_depth, arm_depth, arms_depth, last_depth, function_depth, functions_depth, deepest_of}

pub see_arm : (arm : TArm) → arm_depth (arm_of arm) ≡ max (expression_depth (expression_of (out-TArm arm).condition)) (statement_depth (statement_of (out-TArm arm).then))
unfolding statement_depth
see_arm arm = ap arm_depth (show_arm arm)

pub see_some_last : (last : Box StmtOf.TStmt) → last_depth (last_arm_of (Some last)) ≡ statement_depth (statement_of last.value)
unfolding statement_depth
see_some_last last = refl

pub see_no_last : last_depth (last_arm_of None) ≡ 0
unfolding statement_depth
see_no_last = refl

pub ruleset lasts = (see_some_last, see_no_last)

-- ---- lists
one_apart : {A : Type 0} (F : List A → ℕ) (xs : List A) (i : ℕ) (x : A) → i < length xs → x ≡ get_or xs i x → F (drop i xs) ≡ F (x ∷ drop (i + 1) xs)
one_apart F xs i x lt is = ap F (drop_more xs i x lt) ∙ ap (λ y. F (y ∷ drop (i + 1) xs)) (sym is)

-- what is the greatest of a list's parts
deeper : (now count n r rest more whole : ℕ) → rest ≡ max n more → r ≡ capped n → now ≡ max count r → capped (max count rest) ≡ capped whole → capped (max now more) ≡ capped whole
deeper now count n r rest more whole split made put so_far = omega (arith, split, made, put, so_far)

pub one_deeper : {A : Type 0} (f : A → ℕ) (F : List A → ℕ) (xs : List A) (i : ℕ) (x : A) (now count r whole : ℕ) → F (x ∷ drop (i + 1) xs) ≡ max (f x) (F (drop (i + 1) xs)) → i < length xs → x ≡ get_or xs i x → r ≡ capped (f x) → now ≡ max count r → now < 2 ^ 64 → (count < 2 ^ 64) × (capped (max count (F (drop i xs))) ≡ capped whole) → (now < 2 ^ 64) × (capped (max now (F (drop (i + 1) xs))) ≡ capped whole)
one_deeper f F xs i x now count r whole parts lt is made put fits so_far = (fits, deeper now count (f x) r (F (drop i xs)) (F (drop (i + 1) xs)) whole (one_apart F xs i x lt is ∙ parts) made put so_far.1)

deepest_ended : (count rest whole : ℕ) → rest ≡ 0 → count < 2 ^ 64 → capped (max count rest) ≡ capped whole → count ≡ capped whole
deepest_ended count rest whole none fits so_far = omega (arith, none, fits, so_far)

pub all_deeper : {A : Type 0} (F : List A → ℕ) (xs : List A) (i : ℕ) (count whole : ℕ) → F [] ≡ 0 → length xs ≤ i → (count < 2 ^ 64) × (capped (max count (F (drop i xs))) ≡ capped whole) → count ≡ capped whole
all_deeper F xs i count whole none past so_far = deepest_ended count (F (drop i xs)) whole (ap F (drop_all i xs past) ∙ none) so_far.0 so_far.1

-- what adds up over a list
counted : (now count n r rest more whole : ℕ) → rest ≡ n + more → r ≡ capped n → now ≡ capped (count + r) → capped (count + rest) ≡ capped whole → capped (now + more) ≡ capped whole
counted now count n r rest more whole split made put so_far = omega (arith, split, made, put, so_far)

pub one_more : {A : Type 0} (f : A → ℕ) (F : List A → ℕ) (xs : List A) (i : ℕ) (x : A) (now count r whole : ℕ) → F (x ∷ drop (i + 1) xs) ≡ f x + F (drop (i + 1) xs) → i < length xs → x ≡ get_or xs i x → r ≡ capped (f x) → now ≡ capped (count + r) → now < 2 ^ 64 → (count < 2 ^ 64) × (capped (count + F (drop i xs)) ≡ capped whole) → (now < 2 ^ 64) × (capped (now + F (drop (i + 1) xs)) ≡ capped whole)
one_more f F xs i x now count r whole parts lt is made put fits so_far = (fits, counted now count (f x) r (F (drop i xs)) (F (drop (i + 1) xs)) whole (one_apart F xs i x lt is ∙ parts) made put so_far.1)

ended : (count rest whole : ℕ) → rest ≡ 0 → count < 2 ^ 64 → capped (count + rest) ≡ capped whole → count ≡ capped whole
ended count rest whole none fits so_far = omega (arith, none, fits, so_far)

pub all_counted : {A : Type 0} (F : List A → ℕ) (xs : List A) (i : ℕ) (count whole : ℕ) → F [] ≡ 0 → length xs ≤ i → (count < 2 ^ 64) × (capped (count + F (drop i xs)) ≡ capped whole) → count ≡ capped whole
all_counted F xs i count whole none past so_far = ended count (F (drop i xs)) whole (ap F (drop_all i xs past) ∙ none) so_far.0 so_far.1

-- ---- arguments, each of which waits above those before it
argued : (now late count early n r s rest more whole : ℕ) → rest ≡ max n (1 + more) → r ≡ capped n → s ≡ capped (early + r) → now ≡ max count s → late ≡ capped (early + 1) → capped (max count (early + rest)) ≡ capped whole → capped (max now (late + more)) ≡ capped whole
argued now late count early n r s rest more whole split made sum put next so_far = omega (arith, split, made, sum, put, next, so_far)

abbrev pub arguments_so_far : ℕ → ℕ → List TExpr → ℕ → Type 0
arguments_so_far count before rest whole = (count < 2 ^ 64) × (before < 2 ^ 64) × (capped (max count (before + arguments_depth (arguments_of (map expression_of rest)))) ≡ capped whole)

pub one_argument : (xs : List TExpr) (i : ℕ) (x : TExpr) (now late count early r s whole : ℕ) → i < length xs → x ≡ get_or xs i x → r ≡ capped (expression_depth (expression_of x)) → s ≡ capped (early + r) → now ≡ max count s → late ≡ capped (early + 1) → now < 2 ^ 64 → late < 2 ^ 64 → arguments_so_far count early (drop i xs) whole → arguments_so_far now late (drop (i + 1) xs) whole
unfolding expression_depth
one_argument xs i x now late count early r s whole lt is made sum put next fits fits_too so_far =
    (fits, fits_too, argued now late count early (expression_depth (expression_of x)) r s (arguments_depth (arguments_of (map expression_of (drop i xs)))) (arguments_depth (arguments_of (map expression_of (drop (i + 1) xs)))) whole (one_apart (λ l. arguments_depth (arguments_of (map expression_of l))) xs i x lt is) made sum put next so_far.2)

arguments_ended : (out count before rest whole : ℕ) → rest ≡ 0 → count < 2 ^ 64 → before < 2 ^ 64 → out ≡ max count before → capped (max count (before + rest)) ≡ capped whole → out ≡ capped whole
arguments_ended out count before rest whole none fits fits_too put so_far = omega (arith, none, fits, fits_too, put, so_far)

pub all_arguments : (xs : List TExpr) (i out count before whole : ℕ) → length xs ≤ i → out ≡ max count before → arguments_so_far count before (drop i xs) whole → out ≡ capped whole
unfolding expression_depth
all_arguments xs i out count before whole past put so_far = arguments_ended out count before (arguments_depth (arguments_of (map expression_of (drop i xs)))) whole (ap (λ l. arguments_depth (arguments_of (map expression_of l))) (drop_all i xs past)) so_far.0 so_far.1 put so_far.2

-- ---- the lists of a tree
abbrev pub items_in : List TItem → ℕ
items_in xs = items_depth (map item_of xs)

abbrev pub item_in : TItem → ℕ
item_in x = item_depth (item_of x)

abbrev pub statements_in : List StmtOf.TStmt → ℕ
statements_in xs = body_depth (statements_of (map statement_of xs))

abbrev pub statement_in : StmtOf.TStmt → ℕ
statement_in x = statement_depth (statement_of x)

abbrev pub arms_in : List TArm → ℕ
arms_in xs = arms_depth (arms_of (map arm_of xs))

abbrev pub arm_in : TArm → ℕ
arm_in x = arm_depth (arm_of x)

abbrev pub functions_in : List Function → ℕ
functions_in xs = functions_depth (map function_of xs)

abbrev pub deepest_in : List Function → ℕ
deepest_in xs = deepest_of (map function_of xs)

abbrev pub function_in : Function → ℕ
function_in x = function_depth (function_of x)

pub more_statements : (x : StmtOf.TStmt) (xs : List StmtOf.TStmt) → statements_in (x ∷ xs) ≡ max (statement_in x) (statements_in xs)
unfolding statement_depth
more_statements x xs = refl

pub no_statements : statements_in [] ≡ 0
unfolding statement_depth
no_statements = refl

pub more_arms : (x : TArm) (xs : List TArm) → arms_in (x ∷ xs) ≡ max (arm_in x) (arms_in xs)
unfolding statement_depth
more_arms x xs = refl

pub no_arms : arms_in [] ≡ 0
unfolding statement_depth
no_arms = refl
