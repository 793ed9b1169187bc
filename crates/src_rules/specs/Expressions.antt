-- How expressions and places begin, and what follows a place that was found (ISO/IEC 9899:1990, 6.3): the left operand comes
-- first, and the node waits for it.
use Rattle.std.specs.Prelude.{ℕ, pos, List, [], ◌∷◌, Option, Some, None}
use Rattle.c_typed.specs.Trees as tree
use Rattle.c_typed.specs.Trees.{Expression, Expressions, Place, Statement}
use Rattle.pic_world.specs.World.{World}
use Rattle.src_rules.specs.Accesses.{goes, fetching}
use Rattle.src_rules.specs.State.{Outcome, Undefined, Lost}
use Rattle.src_values.specs.Memory.{Setting, Memory}
use Rattle.src_values.specs.Control.{Eval, Find, Holds, Found, CopyRead, Calls, Got, Nothing, At, Copies, Args, Passed, Stage, AtItem, Items, Pending, In, To, Doing}
use Rattle.src_values.specs.Data as datum
use Rattle.src_values.specs.Data.{Datum}
use Rattle.src_values.specs.Objects.{behind, spot_of, local_of, moved}
use Rattle.src_values.specs.declared.objects.Byte.{Byte}
use Rattle.src_values.specs.declared.objects.CopyOf.{CopyOf}
use Rattle.src_values.specs.declared.objects.Pointer.{Pointer}
use Rattle.src_values.specs.declared.objects.Spot.{Spot}
use Rattle.src_values.specs.declared.objects.Spot.TheVariants as spots
use Rattle.src_values.specs.declared.objects.Undef.TheVariants.{Outside}

-- ---- arguments, from left to right, and then the call
abbrev pub arguments : Expression → List Datum → Expressions → List Pending → CopyOf → Memory → World Byte → Outcome
arguments e values tree.NoExpression k c m w = goes c Calls (In e (Passed values) ∷ k) m w
arguments e values (tree.AndExpression argument more) k c m w = goes c (Eval argument) (In e (Args values more) ∷ k) m w

-- ---- an expression begins
abbrev pub eval : Expression → List Pending → CopyOf → Memory → World Byte → Outcome
eval (tree.Constant value line) k c m w = goes c (Holds (datum.Number value)) k m w
eval (tree.Read place ty line) k c m w = goes c (Find place) (In (tree.Read place ty line) Nothing ∷ k) m w
eval (tree.Address place ty line) k c m w = goes c (Find place) (In (tree.Address place ty line) Nothing ∷ k) m w
eval (tree.Convert operand ty line) k c m w = goes c (Eval operand) (In (tree.Convert operand ty line) Nothing ∷ k) m w
eval (tree.Cast operand ty line) k c m w = goes c (Eval operand) (In (tree.Cast operand ty line) Nothing ∷ k) m w
eval (tree.Unary op operand ty line) k c m w = goes c (Eval operand) (In (tree.Unary op operand ty line) Nothing ∷ k) m w
eval (tree.Binary op left right ty line) k c m w = goes c (Eval left) (In (tree.Binary op left right ty line) Nothing ∷ k) m w
eval (tree.Offset op left right size ty line) k c m w = goes c (Eval left) (In (tree.Offset op left right size ty line) Nothing ∷ k) m w
eval (tree.Difference left right size line) k c m w = goes c (Eval left) (In (tree.Difference left right size line) Nothing ∷ k) m w
eval (tree.Logical op left right line) k c m w = goes c (Eval left) (In (tree.Logical op left right line) Nothing ∷ k) m w
eval (tree.Conditional condition chosen otherwise ty line) k c m w = goes c (Eval condition) (In (tree.Conditional condition chosen otherwise ty line) Nothing ∷ k) m w
eval (tree.Comma left right ty line) k c m w = goes c (Eval left) (In (tree.Comma left right ty line) Nothing ∷ k) m w
eval (tree.Assign place value ty line) k c m w = goes c (Find place) (In (tree.Assign place value ty line) Nothing ∷ k) m w
eval (tree.StructAssign place from size line) k c m w = goes c (Find place) (In (tree.StructAssign place from size line) Nothing ∷ k) m w
eval (tree.Update op place value operation size ty line) k c m w = goes c (Find place) (In (tree.Update op place value operation size ty line) Nothing ∷ k) m w
eval (tree.Step op place operation size ty line) k c m w = goes c (Find place) (In (tree.Step op place operation size ty line) Nothing ∷ k) m w
eval (tree.Call function values ty line) k c m w = arguments (tree.Call function values ty line) [] values k c m w

-- ---- a place is looked for
abbrev pub find : Setting → Place → List Pending → CopyOf → Memory → World Byte → Outcome
find s (tree.Name object ty line) k c m w = goes c (Found (spot_of s.program c object)) k m w
find s (tree.Bit register number line) k c m w = goes c (Found (spots.Bit register number)) k m w
find s (tree.Member whole member offset ty line) k c m w = goes c (Find whole) (To (tree.Member whole member offset ty line) ∷ k) m w
find s (tree.Deref pointer ty line) k c m w = goes c (Eval pointer) (To (tree.Deref pointer ty line) ∷ k) m w

-- ---- a place was found
-- the address of a place
abbrev pub address : Spot → Option Pointer
address (spots.Memory x) = Some x
address _ = None

abbrev pub takes : Option Pointer → List Pending → CopyOf → Memory → World Byte → Outcome
takes (Some x) k c m w = goes c (Holds (datum.Pointer x)) k m w
takes None k c m w = Lost

abbrev pub found_in : Setting → Expression → Got → Spot → List Pending → CopyOf → Memory → World Byte → Outcome
found_in s (tree.Read place ty line) Nothing spot k c m w = goes c (fetching spot ty s.program.sizes) (In (tree.Read place ty line) (At spot) ∷ k) m w
found_in s (tree.Address place ty line) Nothing spot k c m w = takes (address spot) k c m w
found_in s (tree.Assign place value ty line) Nothing spot k c m w = goes c (Eval value) (In (tree.Assign place value ty line) (At spot) ∷ k) m w
found_in s (tree.StructAssign place from size line) Nothing spot k c m w = goes c (Find from) (In (tree.StructAssign place from size line) (At spot) ∷ k) m w
found_in s (tree.StructAssign place from size line) (At to) spot k c m w = goes c (CopyRead to spot size) (In (tree.StructAssign place from size line) Copies ∷ k) m w
found_in s (tree.Update op place value operation size ty line) Nothing spot k c m w = goes c (Eval value) (In (tree.Update op place value operation size ty line) (At spot) ∷ k) m w
found_in s (tree.Step op place operation size ty line) Nothing spot k c m w = goes c (fetching spot ty s.program.sizes) (In (tree.Step op place operation size ty line) (At spot) ∷ k) m w
found_in s _ _ spot k c m w = Lost

-- a member, so many bytes behind the start of its structure
abbrev pub at_member : Option Pointer → ℕ → List Pending → CopyOf → Memory → World Byte → Outcome
at_member (Some x) line k c m w = goes c (Found (spots.Memory x)) k m w
at_member None line k c m w = Undefined Outside line

abbrev pub member_of : Setting → Option Pointer → ℕ → ℕ → List Pending → CopyOf → Memory → World Byte → Outcome
member_of s (Some x) offset line k c m w = at_member (moved s.program x (pos offset)) line k c m w
member_of s None offset line k c m w = Lost

abbrev pub found_to : Setting → Place → Spot → List Pending → CopyOf → Memory → World Byte → Outcome
found_to s (tree.Member whole member offset ty line) spot k c m w = member_of s (address spot) offset line k c m w
found_to s _ spot k c m w = Lost

-- the structure that an item of a list begins with
abbrev pub found_for : Setting → Statement → Stage → Spot → List Pending → CopyOf → Memory → World Byte → Outcome
found_for s (tree.InitList local all line) (AtItem (tree.Struct offset from size) rest) spot k c m w =
    goes c (CopyRead (behind (local_of s.program c local) offset) spot size) (Doing (tree.InitList local all line) (Items (tree.Struct offset from size) rest) ∷ k) m w
found_for s _ _ spot k c m w = Lost

abbrev pub found : Setting → Spot → List Pending → CopyOf → Memory → World Byte → Outcome
found s spot (In e got ∷ k) c m w = found_in s e got spot k c m w
found s spot (To place ∷ k) c m w = found_to s place spot k c m w
found s spot (Doing t stage ∷ k) c m w = found_for s t stage spot k c m w
found s spot _ c m w = Lost
