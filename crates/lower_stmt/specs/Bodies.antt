-- The code of a whole program.
use Rattle.std.specs.Prelude.{ℕ, ◌+◌, List, [], ◌∷◌, ◌++◌, Option, Some, None, map, slice_get}
use Rattle.c_typed.specs.Trees.{FunctionTree, Program}
use Rattle.c_typed.specs.declared.calls.FnId.{FnId}
use Rattle.c_typed.specs.declared.calls.FnId.TheVariants.{User, Helper}
use Rattle.call_graph.specs.declared.types.FnCopy.{FnCopy}
use Rattle.core_code.specs.Tree as core
use Rattle.core_code.specs.Tree.{Tree}
use Rattle.core_code.specs.View.{trees_in}
use Rattle.core_code.specs.declared.code.Body.{Body}
use Rattle.core_code.specs.declared.code.FirstByte.{FirstByte}
use Rattle.lower_stmt.specs.FirstBytes.{static_bytes}
use Rattle.lower_stmt.specs.Frames.{ground_for}
use Rattle.lower_stmt.specs.Ground.{Ground}
use Rattle.lower_stmt.specs.Jumps.{outside}
use Rattle.lower_stmt.specs.Statements.{stmts_code}
use Rattle.pic_world.specs.declared.Root.{Root}

-- the code of a copy, by its number
pub record BodyTree : Type 0 where
  pub copy : ℕ
  pub root : Root
  pub code : List Tree

abbrev pub body_of : Body → BodyTree
body_of b = record { copy = b.copy; root = b.root; code = trees_in b.code.items }

-- a function's statements, and the end of its body
abbrev pub body_code : Ground → FunctionTree → List Tree
body_code g f = stmts_code g outside f.body ++ core.Leave ∷ []

-- the same of a copy's function; where none has the number there are no statements
abbrev pub code_of : Program → List FnCopy → ℕ → Root → Option FunctionTree → List Tree
code_of p copies number root None = core.Leave ∷ []
code_of p copies number root (Some f) = body_code (ground_for p copies number root f) f

-- A helper has no body.
abbrev pub bodies_for : Program → List FnCopy → ℕ → Root → FnId → List BodyTree
bodies_for p copies number root (User function) = record { copy = number; root = root; code = code_of p copies number root (slice_get p.functions function) } ∷ []
bodies_for p copies number root (Helper helper) = []

-- the bodies of the copies from this number on, in their order
abbrev pub bodies_from : Program → List FnCopy → ℕ → List FnCopy → List BodyTree
bodies_from p copies number [] = []
bodies_from p copies number (copy ∷ rest) = bodies_for p copies number copy.root copy.function ++ bodies_from p copies (number + 1) rest

abbrev pub bodies_of : Program → List FnCopy → List BodyTree
bodies_of p copies = bodies_from p copies 0 copies

-- the first bytes of each static object
abbrev pub first_bytes : Program → List (List FirstByte)
first_bytes p = map (static_bytes p.sizes) p.statics
