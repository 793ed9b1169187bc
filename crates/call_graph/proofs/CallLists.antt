-- The calls of lists of parts, one element after the other.
use Rattle.std.proofs.Common.{◌≡◌, List, [], ◌∷◌, ◌++◌, map, refl}
use Rattle.c_typed.specs.declared.calls.FnId.{FnId}
use Rattle.c_typed.specs.declared.expression.TExpr.{TExpr}
use Rattle.c_typed.specs.declared.statement.TArm.{TArm}
use Rattle.c_typed.specs.declared.statement.TItem.{TItem}
use Rattle.c_typed.specs.declared.statement.TStmt.{TStmt}
use Rattle.c_typed.specs.Calls.{calls, arguments_calls, item_calls, items_calls, statement_calls, statements_calls, arm_calls, arms_calls}
use Rattle.c_typed.specs.Views.{expression_of, arguments_of, item_of, statement_of, statements_of, arm_of, arms_of}

abbrev pub arguments_calls_in : List TExpr → List FnId
arguments_calls_in xs = arguments_calls (arguments_of (map expression_of xs))

abbrev pub calls_in : TExpr → List FnId
calls_in x = calls (expression_of x)

pub arguments_calls_none : arguments_calls_in [] ≡ []
unfolding arguments_calls
arguments_calls_none = refl

pub arguments_calls_more : (x : TExpr) (xs : List TExpr) → arguments_calls_in (x ∷ xs) ≡ calls_in x ++ arguments_calls_in xs
unfolding arguments_calls
arguments_calls_more x xs = refl

abbrev pub items_calls_in : List TItem → List FnId
items_calls_in xs = items_calls (map item_of xs)

abbrev pub item_calls_in : TItem → List FnId
item_calls_in x = item_calls (item_of x)

pub items_calls_none : items_calls_in [] ≡ []
items_calls_none = refl

pub items_calls_more : (x : TItem) (xs : List TItem) → items_calls_in (x ∷ xs) ≡ item_calls_in x ++ items_calls_in xs
items_calls_more x xs = refl

abbrev pub statements_calls_in : List TStmt → List FnId
statements_calls_in xs = statements_calls (statements_of (map statement_of xs))

abbrev pub statement_calls_in : TStmt → List FnId
statement_calls_in x = statement_calls (statement_of x)

pub statements_calls_none : statements_calls_in [] ≡ []
unfolding statements_calls
statements_calls_none = refl

pub statements_calls_more : (x : TStmt) (xs : List TStmt) → statements_calls_in (x ∷ xs) ≡ statement_calls_in x ++ statements_calls_in xs
unfolding statements_calls
statements_calls_more x xs = refl

abbrev pub arms_calls_in : List TArm → List FnId
arms_calls_in xs = arms_calls (arms_of (map arm_of xs))

abbrev pub arm_calls_in : TArm → List FnId
arm_calls_in x = arm_calls (arm_of x)

pub arms_calls_none : arms_calls_in [] ≡ []
unfolding arms_calls
arms_calls_none = refl

pub arms_calls_more : (x : TArm) (xs : List TArm) → arms_calls_in (x ∷ xs) ≡ arm_calls_in x ++ arms_calls_in xs
unfolding arms_calls
arms_calls_more x xs = refl
