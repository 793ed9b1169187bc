-- Laws of programs whose tables are read by calls.
use Rattle.std.specs.Prelude.{◌≡◌, ◌≤◌, ◌*◌, ◌+◌, ℕ, true, List, [], ◌∷◌, Some, None, length, get_or, slice_get}
use Rattle.call_graph.specs.Levels.{IsAcyclic}
use Rattle.c_typed.specs.Chains.{graph_of}
use Rattle.c_typed.specs.Roots.{broken_root}
use Rattle.c_typed.specs.Sound.{is_sound}
use Rattle.c_typed.specs.TreeNodes.{nodes_of}
use Rattle.c_typed.specs.Trees.{StaticTree, FunctionTree, Program}
use Rattle.rom_tables.specs.Outlined.{outlined}

-- What each node names is there, and the typing rules hold, where they do so in the given program.
abbrev pub KeepsSound : Type 0
KeepsSound = (p : Program) → is_sound p ≡ true → is_sound (outlined p) ≡ true

-- the parameters and locals of functions
abbrev pub variables_in : List FunctionTree → ℕ
variables_in [] = 0
variables_in (f ∷ fs) = length f.params + length f.locals + variables_in fs

-- nodes, static objects, parameters and locals together
abbrev pub size_of : Program → ℕ
size_of p = nodes_of p + length p.statics + variables_in p.functions

-- It is at most 16 times as large as the given program.
abbrev pub KeepsSmall : Type 0
KeepsSmall = (p : Program) → size_of (outlined p) ≤ 16 * size_of p

-- No chain of calls leads from a function to itself, where none does so in the given program.
abbrev pub KeepsAcyclic : Type 0
KeepsAcyclic = (p : Program) → IsAcyclic (graph_of p) → IsAcyclic (graph_of (outlined p))

-- The rules on main and on the interrupt handler hold, where they do so in the given program: no reader is one of these,
-- and no call of these is added.
abbrev pub KeepsRoots : Type 0
KeepsRoots = (p : Program) → broken_root p ≡ None → broken_root (outlined p) ≡ None

-- Functions have different names, and static objects too; no name of a function begins with a dollar sign.
pub record HaveNames (p : Program) : Type 0 where
  pub functions : (i j : ℕ) (f g : FunctionTree) → slice_get p.functions i ≡ Some f → slice_get p.functions j ≡ Some g → f.name ≡ g.name → i ≡ j
  pub statics : (i j : ℕ) (s r : StaticTree) → slice_get p.statics i ≡ Some s → slice_get p.statics j ≡ Some r → s.name ≡ r.name → i ≡ j
  pub words : (i : ℕ) (f : FunctionTree) → slice_get p.functions i ≡ Some f → get_or f.name 0 0 ≡ 36 → ⊥

-- Functions have different names, the readers too, where names of the given program are so.
abbrev pub KeepsNames : Type 0
KeepsNames = (p : Program) → HaveNames p → (i j : ℕ) (f g : FunctionTree) → slice_get (outlined p).functions i ≡ Some f → slice_get (outlined p).functions j ≡ Some g → f.name ≡ g.name → i ≡ j
