-- Reading an expression from the middle: behind what was read of it, and behind what stands before the `?` of choices
-- that wait for their `:`.
use Rattle.std.specs.Prelude.{ℕ, suc, List, [], ◌∷◌, ◌++◌, Option, Some, None}
use Rattle.c_token.specs.declared.token.Punct.TheVariants as marks
use Rattle.c_nodes.specs.Words.{Symbol, punct}
use Rattle.c_nodes.specs.Trees.{Tree, Join}
use Rattle.c_nodes.specs.Lists.{ChoiceParts, assigned, chosen, listed}
use Rattle.parse_expr.specs.Reader.{◌>>=◌, Reader, punct_at, all_that}
use Rattle.parse_expr.specs.Reading.{Inner, at, cond_by, target_at, assign_on, assign_by, comma_by}

-- What was read of an expression up to an operand: the assignments before it with the line of the comma behind them, the
-- left sides of the assignment that it stands in, and the choices before it.
pub record FrontParts : Type 0 where
  pub before : Option (Tree × ℕ)
  pub targets : List (Tree × Symbol)
  pub choices : List ChoiceParts

abbrev pub no_front : FrontParts
no_front = record { before = None; targets = []; choices = [] }

-- an assignment behind those before it
abbrev pub behind_comma : Option (Tree × ℕ) → Tree → Tree
behind_comma None a = a
behind_comma (Some x) a = Join (punct marks.Comma x.1) x.0 a

-- behind an assignment: those that follow
unfoldable pub others_by : Inner → Option (Tree × ℕ) → Tree → Reader Tree
others_by inner before a toks = do
  bs ← all_that (comma_by inner) toks
  Some (listed (behind_comma before a) bs.0, bs.1)

-- behind a value: what is assigned to it, and the assignments that follow
unfoldable pub value_by : Inner → FrontParts → Tree → Reader Tree
value_by inner front c toks = do
  a ← assign_on (assign_by inner) c toks (target_at c toks)
  others_by inner front.before (assigned front.targets a.0) a.1

-- an expression, of which this front was read
unfoldable pub front_by : Inner → FrontParts → Reader Tree
front_by inner front toks = do
  c ← cond_by inner toks
  value_by inner front (chosen front.choices c.0) c.1

-- what waits for the `:` of a choice: the front, the condition, and the line of `?`
pub record WaitingParts : Type 0 where
  pub front : FrontParts
  pub condition : Tree
  pub question : ℕ

abbrev pub with_choice : FrontParts → ChoiceParts → FrontParts
with_choice front c = record front { choices = front.choices ++ c ∷ [] }

-- Behind an expression that was read for the first of those that wait. Where that stands n brackets may be entered, and
-- one more for each that waits below.
unfoldable pub closed_by : ℕ → List WaitingParts → Tree → Reader Tree
closed_by n [] e toks = Some (e, toks)
closed_by n (w ∷ ws) e toks = do
  k ← punct_at marks.Colon toks
  x ← front_by (at n) (with_choice w.front (w.condition, w.question, e, k.0)) k.1
  closed_by (suc n) ws x.0 x.1
