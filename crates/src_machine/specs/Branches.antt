-- What a statement of the code is, as a premise of the functions that go on with its parts, and how `return` begins.
use Rattle.std.specs.Prelude.{◌≡◌, Bool, true, false, List, ◌∷◌, Option, Some, None, map, Vec}
use Rattle.std.specs.Global.{Box, Global}
use Rattle.c_typed.specs.Trees as tree
use Rattle.c_typed.specs.Trees.{Expression, Statement}
use Rattle.c_typed.specs.Views.{arm_of, arms_of, last_arm_of, item_of}
use Rattle.c_typed.specs.declared.statement.TArm.{TArm}
use Rattle.c_typed.specs.declared.statement.TItem.{TItem}
use Rattle.c_typed.specs.declared.statement.TStmt.{TStmt}
use Rattle.pic_world.specs.World.{World}
use Rattle.src_rules.specs.Accesses.{goes}
use Rattle.src_rules.specs.State.{Outcome}
use Rattle.src_rules.specs.Statements.{proceed, unwound}
use Rattle.src_values.specs.Control.{Eval, Tests, Pending, Doing, statement_line}
use Rattle.src_values.specs.Memory.{Memory}
use Rattle.src_values.specs.Seen.{items_in}
use Rattle.src_values.specs.declared.control.Pending.{Pending as Frame}
use Rattle.src_values.specs.declared.control.Pending.TheVariants as frames
use Rattle.src_values.specs.declared.objects.Byte.{Byte}
use Rattle.src_values.specs.declared.objects.CopyOf.{CopyOf}

-- an `if` with these arms, and with this behind its last `else`
abbrev pub IsIf : Statement → Vec TArm Global → Option (Box TStmt) → Type 0
IsIf t arms otherwise = t ≡ tree.If (arms_of (map arm_of arms.items)) (last_arm_of otherwise) (statement_line t)

-- the declarator of a local with these items
abbrev pub HasItems : Statement → Vec TItem Global → Type 0
HasItems t items = items_in t ≡ map item_of items.items

abbrev pub is_return : Statement → Bool
is_return (tree.Return value line) = true
is_return _ = false

-- a `return` with this value begins
abbrev pub returned : Statement → Option Expression → List Pending → CopyOf → Memory → World Byte → Outcome
returned t None k c m w = proceed (unwound k) c m w
returned t (Some e) k c m w = goes c (Eval e) (Doing t Tests ∷ k) m w

-- what the handler interrupted waits
abbrev pub resumes : Frame → Bool
resumes (frames.Resumes copy) = true
resumes _ = false
