-- The marks that the walks leave.
use Rattle.std.specs.Prelude.{ℕ, Bool, true, false, ◌||◌, if◌then◌else◌, List, [], ◌∷◌, set, get_or, map}
use Rattle.c_typed.specs.Trees.{FunctionTree, Program}
use Rattle.c_typed.specs.declared.types.Qualified.{Qualified}
use Rattle.c_typed.specs.declared.types.Ty.{Ty}
use Rattle.c_typed.specs.declared.types.Ty.TheVariants.{Void, Int, Pointer, Array, Struct}
use Rattle.vol_opt.specs.Kept.{has_member, is_volatile_within}
use Rattle.vol_opt.specs.Uses.{statements_uses}

-- marks, and one more at each number of a list
unfoldable pub marked : List Bool → List ℕ → List Bool
marked marks [] = marks
marked marks (n ∷ ns) = marked (set marks n true) ns

-- what a function names, if it is one of those that are asked for
abbrev pub names_if : Bool → FunctionTree → List ℕ
names_if b f = if b then statements_uses true f.body else []

-- An element or a member is marked: the marks are of the types that arrays have elements of, and of the structures.
abbrev pub part_marked : List Bool → List Bool → Ty → Bool
part_marked targets structures Void = false
part_marked targets structures (Int ty) = false
part_marked targets structures (Pointer target) = false
part_marked targets structures (Array element count size) = get_or targets element false
part_marked targets structures (Struct number) = get_or structures number false

abbrev pub type_marked : List Bool → List Bool → Qualified → Bool
type_marked targets structures q = q.volatile || part_marked targets structures q.ty

abbrev pub targets_within : Program → ℕ → List Bool
targets_within p n = map (is_volatile_within p n) p.targets

abbrev pub structures_within : Program → ℕ → List Bool
structures_within p n = map (has_member (is_volatile_within p n)) p.structures
