-- An `if` as pure data, with or without an `else`; and what waits below a frame that is taken off.
use Rattle.std.proofs.Common.{◌≡◌, None, Some, List, [], ◌∷◌, ◌++◌, reverse, map}
use Rattle.std.proofs.lemmas.List.{reverse-append}
use Rattle.c_typed.proofs.Shapes.{show_statement_if_alone, show_statement_if_else}
use Rattle.c_typed.specs.Trees as tree
use Rattle.c_typed.specs.Views.{statement_of, arms_of, arm_of, last_arm_of}
use Rattle.c_typed.specs.declared.statement.TStmt.TheVariants as TStmt
use Rattle.src_values.specs.declared.control.Pending.{Pending}

pub show_statement_if : (arms : _) (otherwise : _) (line : _) → statement_of (TStmt.If arms otherwise line) ≡ tree.If (arms_of (map arm_of arms.items)) (last_arm_of otherwise) line
show_statement_if arms None line = show_statement_if_alone arms line
show_statement_if arms (Some last) line = show_statement_if_else arms last line

pub top_first : (below : List Pending) (top : Pending) → reverse (below ++ top ∷ []) ≡ top ∷ reverse below
top_first below top = reverse-append below (top ∷ [])
