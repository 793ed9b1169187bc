-- Where targets stand by the maps that the code keeps of blocks and labels.
use Rattle.std.specs.Prelude.{◌≡◌, ℕ, List, Option}
use Rattle.std.specs.BTreeMap.{BTreeMap, get}
use Rattle.std.specs.Ordering.{nat_cmp}
use Rattle.sym_code.specs.declared.code.BlockName.{BlockName}
use Rattle.sym_code.specs.declared.code.BlockName.TheVariants as names
use Rattle.sym_code.specs.declared.code.Label.{Label}
use Rattle.sym_code.specs.declared.code.Label.TheVariants as labels
use Rattle.sym_code.specs.declared.code.SymBlock.{SymBlock}
use Rattle.sym_code.specs.declared.code.Target.{Target}
use Rattle.sym_code.specs.declared.code.Target.TheVariants as targets
use Rattle.code_place.specs.Places.{block_place, label_place, label_at}
use Rattle.code_place.specs.declared.marks.Marks.{Marks}

abbrev pub block_in : Marks → BlockName → Option ℕ
block_in marks names.Start = marks.start
block_in marks (names.Copy copy) = get nat_cmp marks.copies copy

abbrev pub label_in : Marks → BTreeMap ℕ ℕ → Label → Option ℕ
label_in marks inner (labels.Inner number) = get nat_cmp inner number
label_in marks inner labels.Halt = marks.halt
label_in marks inner labels.Restore = marks.restore

abbrev pub target_in : Marks → BTreeMap ℕ ℕ → Target → Option ℕ
target_in marks inner (targets.Block name) = block_in marks name
target_in marks inner (targets.Label label) = label_in marks inner label

-- the maps have each block and label of a program where it stands
abbrev pub AreMarks : List SymBlock → List ℕ → Marks → Type 0
AreMarks blocks at marks = ((name : BlockName) → block_in marks name ≡ block_place blocks at name) × (marks.halt ≡ label_place blocks at labels.Halt) × (marks.restore ≡ label_place blocks at labels.Restore)

-- and these the inner labels of a block at an address
abbrev pub AreInner : SymBlock → ℕ → BTreeMap ℕ ℕ → Type 0
AreInner block start inner = (number : ℕ) → get nat_cmp inner number ≡ label_at (labels.Inner number) start block.list.items

-- where a target stands for a block at an address, by the maps of the program
abbrev pub label_by : Marks → SymBlock → ℕ → Label → Option ℕ
label_by marks block start (labels.Inner number) = label_at (labels.Inner number) start block.list.items
label_by marks block start labels.Halt = marks.halt
label_by marks block start labels.Restore = marks.restore

abbrev pub target_by : Marks → SymBlock → ℕ → Target → Option ℕ
target_by marks block start (targets.Block name) = block_in marks name
target_by marks block start (targets.Label label) = label_by marks block start label
