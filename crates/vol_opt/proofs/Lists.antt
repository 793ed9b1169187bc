-- Marks along lists of numbers, and of parts that use some.
use Rattle.std.proofs.Common.{◌≡◌, ℕ, ◌+◌, ◌<◌, ◌≤◌, Bool, true, false, List, [], ◌∷◌, ◌++◌, map, length, get_or, set, drop, refl, sym, ap, ◌∙◌}
use Rattle.std.proofs.lemmas.List.{at_drop_more, drop_all, get_or_default}
use Rattle.c_typed.specs.Views.{expression_of, arguments_of, item_of, statement_of, statements_of, arm_of, arms_of, function_of, static_of}
use Rattle.c_typed.specs.declared.expression.TExpr.{TExpr}
use Rattle.c_typed.specs.declared.program.Function.{Function}
use Rattle.c_typed.specs.declared.program.Initial.{Initial}
use Rattle.c_typed.specs.declared.program.Static.{Static}
use Rattle.c_typed.specs.declared.statement.TArm.{TArm}
use Rattle.c_typed.specs.declared.statement.TItem.{TItem}
use Rattle.c_typed.specs.declared.statement.TStmt.{TStmt}
use Rattle.vol_opt.specs.Kept.{addresses_in, byte_address, first_addresses, initial_addresses}
use Rattle.vol_opt.specs.Marks.{marked}
use Rattle.vol_opt.specs.Uses.{uses, arguments_uses, item_uses, items_uses, statement_uses, statements_uses, arm_uses, arms_uses}

-- ---- lists of numbers
pub marked_on : (marks : List Bool) (xs ys : List ℕ) → marked marks (xs ++ ys) ≡ marked (marked marks xs) ys
unfolding marked
marked_on marks [] ys = refl
marked_on marks (x ∷ xs) ys = marked_on (set marks x true) xs ys

pub marked_none : (marks : List Bool) → marked marks [] ≡ marks
unfolding marked
marked_none marks = refl

pub ruleset marked_rules = (marked_on, marked_none)

-- ---- loops: `F` is what a whole list uses
pub one_more : {A : Type 0} (f : A → List ℕ) (F : List A → List ℕ) → ((x : A) (xs : List A) → F (x ∷ xs) ≡ f x ++ F xs) → (xs : List A) (i : ℕ) (x : A) (now so_far whole : List Bool) → i < length xs → x ≡ get_or xs i x → now ≡ marked so_far (f x) → marked so_far (F (drop i xs)) ≡ whole → marked now (F (drop (i + 1) xs)) ≡ whole
one_more f F step xs i x now so_far whole lt is found all =
    let rest = drop (i + 1) xs in
    ap (λ o. marked o (F rest)) found ∙ (sym (marked_on so_far (f x) (F rest)) ∙ (ap (marked so_far) (sym (at_drop_more F xs i x lt ∙ (ap (λ y. F (y ∷ rest)) (sym is) ∙ step x rest))) ∙ all))

-- the same of an element that the loop names by its place
pub one_more_at : {A : Type 0} (f : A → List ℕ) (F : List A → List ℕ) → ((x : A) (xs : List A) → F (x ∷ xs) ≡ f x ++ F xs) → (xs : List A) (i : ℕ) (d : A) (now so_far whole : List Bool) → i < length xs → now ≡ marked so_far (f (get_or xs i d)) → marked so_far (F (drop i xs)) ≡ whole → marked now (F (drop (i + 1) xs)) ≡ whole
one_more_at f F step xs i d now so_far whole lt found all = one_more f F step xs i (get_or xs i d) now so_far whole lt (get_or_default xs i d (get_or xs i d) lt) found all

pub all_seen : {A : Type 0} (F : List A → List ℕ) → F [] ≡ [] → (xs : List A) (i : ℕ) (so_far whole : List Bool) → length xs ≤ i → marked so_far (F (drop i xs)) ≡ whole → so_far ≡ whole
all_seen F none xs i so_far whole past all = sym (marked_none so_far) ∙ (ap (marked so_far) (sym (ap F (drop_all i xs past) ∙ none)) ∙ all)

-- ---- lists of parts
module _ (names : Bool) where
  abbrev pub arguments_in : List TExpr → List ℕ
  arguments_in xs = arguments_uses names (arguments_of (map expression_of xs))

  abbrev pub expression_in : TExpr → List ℕ
  expression_in x = uses names (expression_of x)

  pub arguments_none : arguments_in [] ≡ []
  unfolding arguments_uses
  arguments_none = refl

  pub arguments_more : (x : TExpr) (xs : List TExpr) → arguments_in (x ∷ xs) ≡ expression_in x ++ arguments_in xs
  unfolding arguments_uses
  arguments_more x xs = refl

  abbrev pub items_in : List TItem → List ℕ
  items_in xs = items_uses names (map item_of xs)

  abbrev pub item_in : TItem → List ℕ
  item_in x = item_uses names (item_of x)

  abbrev pub statements_in : List TStmt → List ℕ
  statements_in xs = statements_uses names (statements_of (map statement_of xs))

  abbrev pub statement_in : TStmt → List ℕ
  statement_in x = statement_uses names (statement_of x)

  pub statements_none : statements_in [] ≡ []
  unfolding statements_uses
  statements_none = refl

  pub statements_more : (x : TStmt) (xs : List TStmt) → statements_in (x ∷ xs) ≡ statement_in x ++ statements_in xs
  unfolding statements_uses
  statements_more x xs = refl

  abbrev pub arms_in : List TArm → List ℕ
  arms_in xs = arms_uses names (arms_of (map arm_of xs))

  abbrev pub arm_in : TArm → List ℕ
  arm_in x = arm_uses names (arm_of x)

  pub arms_none : arms_in [] ≡ []
  unfolding arms_uses
  arms_none = refl

  pub arms_more : (x : TArm) (xs : List TArm) → arms_in (x ∷ xs) ≡ arm_in x ++ arms_in xs
  unfolding arms_uses
  arms_more x xs = refl

abbrev pub functions_in : List Function → List ℕ
functions_in xs = addresses_in (map function_of xs)

abbrev pub function_in : Function → List ℕ
function_in x = statements_uses false (function_of x).body

abbrev pub first_in : Initial → List ℕ
first_in x = byte_address x.byte

abbrev pub statics_in : List Static → List ℕ
statics_in xs = initial_addresses (map static_of xs)

abbrev pub static_in : Static → List ℕ
static_in x = first_addresses (static_of x).initial
