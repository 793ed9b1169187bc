-- The words and bytes of lists of parts, one element after the other.
use Rattle.std.proofs.Common.{◌≡◌, ℕ, ◌+◌, ◌*◌, List, [], ◌∷◌, map, refl}
use Rattle.c_typed.specs.declared.expression.TExpr.{TExpr}
use Rattle.c_typed.specs.declared.statement.TArm.{TArm}
use Rattle.c_typed.specs.declared.statement.TCase.{TCase}
use Rattle.c_typed.specs.declared.statement.TItem.{TItem}
use Rattle.c_typed.specs.declared.statement.TStmt.{TStmt}
use Rattle.c_typed.specs.Views.{expression_of, arguments_of, item_of, statement_of, statements_of, arm_of, arms_of}
use Rattle.c_typed.specs.Words.{words, arguments_words, item_words, items_words, item_bytes, items_bytes, cases_words, statement_words, statements_words, arm_words, arms_words}

abbrev pub arguments_words_in : List ℕ → List TExpr → ℕ
arguments_words_in sizes xs = arguments_words sizes (arguments_of (map expression_of xs))

abbrev pub words_in : List ℕ → TExpr → ℕ
words_in sizes x = words sizes (expression_of x)

pub arguments_words_none : (sizes : List ℕ) → arguments_words_in sizes [] ≡ 0
unfolding arguments_words
arguments_words_none sizes = refl

pub arguments_words_more : (sizes : List ℕ) (x : TExpr) (xs : List TExpr) → arguments_words_in sizes (x ∷ xs) ≡ words_in sizes x + arguments_words_in sizes xs
unfolding arguments_words
arguments_words_more sizes x xs = refl

abbrev pub items_words_in : List ℕ → List TItem → ℕ
items_words_in sizes xs = items_words sizes (map item_of xs)

abbrev pub item_words_in : List ℕ → TItem → ℕ
item_words_in sizes x = item_words sizes (item_of x)

pub items_words_none : (sizes : List ℕ) → items_words_in sizes [] ≡ 0
items_words_none sizes = refl

pub items_words_more : (sizes : List ℕ) (x : TItem) (xs : List TItem) → items_words_in sizes (x ∷ xs) ≡ item_words_in sizes x + items_words_in sizes xs
items_words_more sizes x xs = refl

abbrev pub items_bytes_in : List ℕ → List TItem → ℕ
items_bytes_in sizes xs = items_bytes sizes (map item_of xs)

abbrev pub item_bytes_in : List ℕ → TItem → ℕ
item_bytes_in sizes x = item_bytes sizes (item_of x)

pub items_bytes_none : (sizes : List ℕ) → items_bytes_in sizes [] ≡ 0
items_bytes_none sizes = refl

pub items_bytes_more : (sizes : List ℕ) (x : TItem) (xs : List TItem) → items_bytes_in sizes (x ∷ xs) ≡ item_bytes_in sizes x + items_bytes_in sizes xs
items_bytes_more sizes x xs = refl

abbrev pub statements_words_in : List ℕ → List ℕ → List TStmt → ℕ
statements_words_in sizes locals xs = statements_words sizes locals (statements_of (map statement_of xs))

abbrev pub statement_words_in : List ℕ → List ℕ → TStmt → ℕ
statement_words_in sizes locals x = statement_words sizes locals (statement_of x)

pub statements_words_none : (sizes locals : List ℕ) → statements_words_in sizes locals [] ≡ 0
unfolding statements_words
statements_words_none sizes locals = refl

pub statements_words_more : (sizes locals : List ℕ) (x : TStmt) (xs : List TStmt) → statements_words_in sizes locals (x ∷ xs) ≡ statement_words_in sizes locals x + statements_words_in sizes locals xs
unfolding statements_words
statements_words_more sizes locals x xs = refl

abbrev pub arms_words_in : List ℕ → List ℕ → List TArm → ℕ
arms_words_in sizes locals xs = arms_words sizes locals (arms_of (map arm_of xs))

abbrev pub arm_words_in : List ℕ → List ℕ → TArm → ℕ
arm_words_in sizes locals x = arm_words sizes locals (arm_of x)

pub arms_words_none : (sizes locals : List ℕ) → arms_words_in sizes locals [] ≡ 0
unfolding arms_words
arms_words_none sizes locals = refl

pub arms_words_more : (sizes locals : List ℕ) (x : TArm) (xs : List TArm) → arms_words_in sizes locals (x ∷ xs) ≡ arm_words_in sizes locals x + arms_words_in sizes locals xs
unfolding arms_words
arms_words_more sizes locals x xs = refl

abbrev pub case_words : ℕ → TCase → ℕ
case_words bytes x = 10 * bytes + 14

pub cases_none : (bytes : ℕ) → cases_words bytes [] ≡ 0
cases_none bytes = refl

pub cases_more : (bytes : ℕ) (x : TCase) (xs : List TCase) → cases_words bytes (x ∷ xs) ≡ case_words bytes x + cases_words bytes xs
cases_more bytes x xs = refl
