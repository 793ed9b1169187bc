-- Expressions as the code has them, in lists: what each list makes of a term, and what is read before anything is made.
use Rattle.std.specs.Prelude.{ℕ, List, [], ◌∷◌, ◌++◌}
use Rattle.c_ints.specs.declared.operators.UnOp.TheVariants as unop
use Rattle.c_token.specs.declared.token.Punct.{Punct}
use Rattle.c_token.specs.declared.token.Punct.TheVariants as marks
use Rattle.c_token.specs.declared.token.TokKind.{TokKind}
use Rattle.c_nodes.specs.Lists.{ChoiceParts}
use Rattle.c_nodes.specs.Trees as tree
use Rattle.c_nodes.specs.Trees.{Tree, Post, Pre}
use Rattle.c_nodes.specs.Words.{Symbol}
use Rattle.c_typed.specs.declared.types.Qualified.{Qualified}
use Rattle.type_rules.specs.Expressions.{judged, judged_behind, signed, listed_by, arguments_in}
use Rattle.type_rules.specs.Known.{Rule, given, ◌>>=◌}
use Rattle.type_rules.specs.Operators.{between, choice, cast, comma, arithmetic, negation}
use Rattle.type_rules.specs.Places.{dereference, size_of_term}
use Rattle.type_rules.specs.Terms.{Term, Operand, used, no_table}
use Rattle.type_rules.specs.TypeNames.{type_named}
use Rattle.type_rules.specs.Writes.{assignment}
use Rattle.check_expr.specs.Views.{unlisted}

-- ---- what stands between commas isn't kept

abbrev pub bare : Term → Term
bare t = record t { listed = [] }

abbrev pub barely : Tree → Rule Term
barely e = λ known. unlisted (judged e known)

-- ---- from left to right: the term of what stands before the list, and what stands in it

-- commas
abbrev pub sequenced_from : Term → List (ℕ × Tree) → Rule Term
sequenced_from t [] = given t
sequenced_from t (b ∷ bs) = do
  x ← used t
  right ← judged b.1
  y ← used right
  next ← comma x y
  sequenced_from next bs

-- operators of one tier
abbrev pub combined_from : Term → List (Symbol × Tree) → Rule Term
combined_from t [] = given t
combined_from t (b ∷ bs) = do
  x ← used t
  right ← judged b.1
  y ← used right
  next ← between b.0.kind x y
  combined_from (listed_by b.0.kind t.listed x y next) bs

-- postfixes
abbrev pub posted_from : Term → List Post → Rule Term
posted_from t [] = given t
posted_from t (p ∷ ps) = do
  next ← judged_behind p t
  posted_from next ps

-- arguments behind those that are read already
abbrev pub arguments_from : List Operand → List (ℕ × Tree) → Rule (List Operand)
arguments_from done [] = given done
arguments_from done (b ∷ bs) = do
  t ← judged b.1
  x ← used t
  arguments_from (done ++ x ∷ []) bs

-- the arguments of a call, which have the form of an expression with commas
abbrev pub arguments_read : Tree → Rule (List Operand)
arguments_read e = do
  list ← judged e
  arguments_in list.listed list

-- ---- left sides: read from left to right, assigned to from right to left

abbrev pub Sides : Type 0
Sides = List (Term × TokKind)

abbrev pub sides_from : Sides → List (Tree × Symbol) → Rule Sides
sides_from done [] = given done
sides_from done (t ∷ ts) = do
  target ← judged t.0
  _ ← no_table target
  sides_from (done ++ (target, t.1.kind) ∷ []) ts

abbrev pub assigned_back : Sides → Term → Rule Term
assigned_back [] value = given value
assigned_back (s ∷ ss) value = do
  from ← assigned_back ss value
  x ← used from
  assignment s.1 s.0 x

-- ---- choices: read from left to right, chosen between from right to left

abbrev pub Choices : Type 0
Choices = List (Operand × Operand)

-- the value of a condition, and of what is chosen where it holds
abbrev pub condition_of : Tree → Rule Operand
condition_of c = do
  t ← judged c
  used t

abbrev pub consequence_of : Tree → Rule Operand
consequence_of c = do
  t ← barely c
  used t

abbrev pub choices_from : Choices → List ChoiceParts → Rule Choices
choices_from done [] = given done
choices_from done (c ∷ cs) = do
  condition ← judged c.0
  x ← used condition
  first ← barely c.2
  y ← used first
  choices_from (done ++ (x, y) ∷ []) cs

abbrev pub chosen_back : Choices → Term → Rule Term
chosen_back [] value = given value
chosen_back (c ∷ cs) value = do
  second ← chosen_back cs value
  z ← used second
  choice c.0 c.1 z

-- what stands behind the last choice is read, and then chosen between
abbrev pub chosen_behind : Choices → Tree → Rule Term
chosen_behind choices last = do
  value ← judged last
  chosen_back choices value

-- ---- prefixes: their types from left to right, applied from right to left

-- what a sign makes of a value
abbrev pub computed : Punct → Operand → ℕ → Rule Term
computed marks.Star x line = dereference x line
computed marks.Plus x line = arithmetic unop.Plus x line
computed marks.Minus x line = arithmetic unop.Minus x line
computed marks.Tilde x line = arithmetic unop.Not x line
computed _ x line = negation x line

pub data Applied : Type 0 where
  AppliedSign : Symbol → Applied
  AppliedSizeof : ℕ → Applied
  AppliedCast : Qualified → ℕ → Applied

abbrev pub applied_by : Applied → Term → Rule Term
applied_by (AppliedSign s) t = signed s.kind t s.line
applied_by (AppliedSizeof line) t = size_of_term t line
applied_by (AppliedCast ty line) t = do
  x ← used t
  cast ty.ty x line

abbrev pub type_before : Pre → Rule Applied
type_before (tree.Sign s) = given (AppliedSign s)
type_before (tree.Sizeof line) = given (AppliedSizeof line)
type_before (tree.Cast line ty closing) = do
  to ← type_named ty
  given (AppliedCast to line)

abbrev pub applied_from : List Applied → List Pre → Rule (List Applied)
applied_from done [] = given done
applied_from done (p ∷ ps) = do
  next ← type_before p
  applied_from (done ++ next ∷ []) ps

abbrev pub applied_back : List Applied → Term → Rule Term
applied_back [] t = given t
applied_back (a ∷ others) t = do
  operand ← applied_back others t
  applied_by a operand
