-- What follows a part of a statement, and where jumps lead, by what is under way of the statements that wait.
use Rattle.std.proofs.Common.{◌≡◌, Bool, true, false, List, [], ◌∷◌, drop, refl}
use Rattle.c_typed.specs.Trees as tree
use Rattle.c_typed.specs.Trees.{Statement, Arms, Item}
use Rattle.pic_world.specs.World.{World}
use Rattle.src_rules.specs.Accesses.{goes}
use Rattle.src_rules.specs.State.{Lost}
use Rattle.src_rules.specs.Statements.{turned, break_at, continue_at, unwound}
use Rattle.src_values.specs.Control as control
use Rattle.src_values.specs.Control.{Pending, Doing, Past}
use Rattle.src_values.specs.Memory.{Memory}
use Rattle.src_values.specs.Seen.{stage_in, lost, picks_of, at_item_of, items_of, arms_from, arms_in, items_in, is_loop, is_switch}
use Rattle.src_values.specs.declared.control.Stage.{Stage}
use Rattle.src_values.specs.declared.control.Stage.TheVariants as stages
use Rattle.src_values.specs.declared.objects.Byte.{Byte}
use Rattle.src_values.specs.declared.objects.CopyOf.{CopyOf}

-- ---- stages at which no body and no arm is under way
abbrev pub is_turning : control.Stage → Bool
is_turning control.Tests = false
is_turning control.Begins = false
is_turning control.Steps = false
is_turning control.Turns = true
is_turning (control.Picks arm more) = false
is_turning (control.InArm more) = true
is_turning control.Chooses = false
is_turning control.Fills = false
is_turning (control.AtItem item more) = false
is_turning (control.Items item more) = false
is_turning control.Blanks = false

-- of the code, the same
abbrev pub turns_by : Stage → Bool
turns_by stages.Tests = false
turns_by stages.Begins = false
turns_by stages.Steps = false
turns_by stages.Turns = true
turns_by (stages.Picks at) = false
turns_by (stages.InArm at) = true
turns_by stages.Chooses = false
turns_by stages.Fills = false
turns_by (stages.AtItem at) = false
turns_by (stages.Items at) = false
turns_by stages.Blanks = false

lost_is_none : (t : Statement) → is_turning (lost t) ≡ false
lost_is_none (tree.Block ss line) = refl
lost_is_none (tree.Empty line) = refl
lost_is_none (tree.Expr e line) = refl
lost_is_none (tree.Declare local line) = refl
lost_is_none (tree.InitScalar local e line) = refl
lost_is_none (tree.InitList local all line) = refl
lost_is_none (tree.If chain otherwise line) = refl
lost_is_none (tree.Loop shape first condition step body line) = refl
lost_is_none (tree.Switch e cases default ss line) = refl
lost_is_none (tree.Break line) = refl
lost_is_none (tree.Continue line) = refl
lost_is_none (tree.Return e line) = refl

picks_are_none : (t : Statement) (chain : Arms) → is_turning (picks_of t chain) ≡ false
picks_are_none t tree.NoArm = lost_is_none t
picks_are_none t (tree.AndArm arm more) = refl

at_items_are_none : (t : Statement) (all : List Item) → is_turning (at_item_of t all) ≡ false
at_items_are_none t [] = lost_is_none t
at_items_are_none t (item ∷ more) = refl

items_are_none : (t : Statement) (all : List Item) → is_turning (items_of t all) ≡ false
items_are_none t [] = lost_is_none t
items_are_none t (item ∷ more) = refl

pub stage_is_none : (t : Statement) (stage : Stage) → turns_by stage ≡ false → is_turning (stage_in t stage) ≡ false
stage_is_none t stages.Tests h = refl
stage_is_none t stages.Begins h = refl
stage_is_none t stages.Steps h = refl
stage_is_none t stages.Turns h = absurd (cc)
stage_is_none t (stages.Picks at) h = picks_are_none t (arms_from at (arms_in t))
stage_is_none t (stages.InArm at) h = absurd (cc)
stage_is_none t stages.Chooses h = refl
stage_is_none t stages.Fills h = refl
stage_is_none t (stages.AtItem at) h = at_items_are_none t (drop at (items_in t))
stage_is_none t (stages.Items at) h = items_are_none t (drop at (items_in t))
stage_is_none t stages.Blanks h = refl

-- ---- what follows a part
ends_nothing : (t : Statement) (stage : control.Stage) (k : List Pending) (c : CopyOf) (m : Memory) (w : World Byte) → is_turning stage ≡ false → turned t stage k c m w ≡ Lost
ends_nothing (tree.Block ss line) stage k c m w h = refl
ends_nothing (tree.Empty line) stage k c m w h = refl
ends_nothing (tree.Expr e line) stage k c m w h = refl
ends_nothing (tree.Declare local line) stage k c m w h = refl
ends_nothing (tree.InitScalar local e line) stage k c m w h = refl
ends_nothing (tree.InitList local all line) stage k c m w h = refl
ends_nothing (tree.If chain otherwise line) control.Tests k c m w h = refl
ends_nothing (tree.If chain otherwise line) control.Begins k c m w h = refl
ends_nothing (tree.If chain otherwise line) control.Steps k c m w h = refl
ends_nothing (tree.If chain otherwise line) control.Turns k c m w h = absurd (cc)
ends_nothing (tree.If chain otherwise line) (control.Picks arm others) k c m w h = refl
ends_nothing (tree.If chain otherwise line) (control.InArm others) k c m w h = absurd (cc)
ends_nothing (tree.If chain otherwise line) control.Chooses k c m w h = refl
ends_nothing (tree.If chain otherwise line) control.Fills k c m w h = refl
ends_nothing (tree.If chain otherwise line) (control.AtItem item others) k c m w h = refl
ends_nothing (tree.If chain otherwise line) (control.Items item others) k c m w h = refl
ends_nothing (tree.If chain otherwise line) control.Blanks k c m w h = refl
ends_nothing (tree.Loop shape first condition step body line) control.Tests k c m w h = refl
ends_nothing (tree.Loop shape first condition step body line) control.Begins k c m w h = refl
ends_nothing (tree.Loop shape first condition step body line) control.Steps k c m w h = refl
ends_nothing (tree.Loop shape first condition step body line) control.Turns k c m w h = absurd (cc)
ends_nothing (tree.Loop shape first condition step body line) (control.Picks arm others) k c m w h = refl
ends_nothing (tree.Loop shape first condition step body line) (control.InArm others) k c m w h = absurd (cc)
ends_nothing (tree.Loop shape first condition step body line) control.Chooses k c m w h = refl
ends_nothing (tree.Loop shape first condition step body line) control.Fills k c m w h = refl
ends_nothing (tree.Loop shape first condition step body line) (control.AtItem item others) k c m w h = refl
ends_nothing (tree.Loop shape first condition step body line) (control.Items item others) k c m w h = refl
ends_nothing (tree.Loop shape first condition step body line) control.Blanks k c m w h = refl
ends_nothing (tree.Switch e cases default ss line) control.Tests k c m w h = refl
ends_nothing (tree.Switch e cases default ss line) control.Begins k c m w h = refl
ends_nothing (tree.Switch e cases default ss line) control.Steps k c m w h = refl
ends_nothing (tree.Switch e cases default ss line) control.Turns k c m w h = absurd (cc)
ends_nothing (tree.Switch e cases default ss line) (control.Picks arm others) k c m w h = refl
ends_nothing (tree.Switch e cases default ss line) (control.InArm others) k c m w h = absurd (cc)
ends_nothing (tree.Switch e cases default ss line) control.Chooses k c m w h = refl
ends_nothing (tree.Switch e cases default ss line) control.Fills k c m w h = refl
ends_nothing (tree.Switch e cases default ss line) (control.AtItem item others) k c m w h = refl
ends_nothing (tree.Switch e cases default ss line) (control.Items item others) k c m w h = refl
ends_nothing (tree.Switch e cases default ss line) control.Blanks k c m w h = refl
ends_nothing (tree.Break line) stage k c m w h = refl
ends_nothing (tree.Continue line) stage k c m w h = refl
ends_nothing (tree.Return e line) stage k c m w h = refl

pub ends_no_part : (t : Statement) (stage : Stage) (k : List Pending) (c : CopyOf) (m : Memory) (w : World Byte) → turns_by stage ≡ false → turned t (stage_in t stage) k c m w ≡ Lost
ends_no_part t stage k c m w h = ends_nothing t (stage_in t stage) k c m w (stage_is_none t stage h)

-- ---- jumps
breaks_nothing : (t : Statement) (stage : control.Stage) (k : List Pending) (c : CopyOf) (m : Memory) (w : World Byte) → is_turning stage ≡ false → break_at (Doing t stage ∷ k) c m w ≡ Lost
breaks_nothing t control.Tests k c m w h = refl
breaks_nothing t control.Begins k c m w h = refl
breaks_nothing t control.Steps k c m w h = refl
breaks_nothing t control.Turns k c m w h = absurd (cc)
breaks_nothing t (control.Picks arm more) k c m w h = refl
breaks_nothing t (control.InArm more) k c m w h = absurd (cc)
breaks_nothing t control.Chooses k c m w h = refl
breaks_nothing t control.Fills k c m w h = refl
breaks_nothing t (control.AtItem item more) k c m w h = refl
breaks_nothing t (control.Items item more) k c m w h = refl
breaks_nothing t control.Blanks k c m w h = refl

pub breaks_no_part : (t : Statement) (stage : Stage) (k : List Pending) (c : CopyOf) (m : Memory) (w : World Byte) → turns_by stage ≡ false → break_at (Doing t (stage_in t stage) ∷ k) c m w ≡ Lost
breaks_no_part t stage k c m w h = breaks_nothing t (stage_in t stage) k c m w (stage_is_none t stage h)

continues_nothing : (t : Statement) (stage : control.Stage) (k : List Pending) (c : CopyOf) (m : Memory) (w : World Byte) → is_turning stage ≡ false → continue_at (Doing t stage ∷ k) c m w ≡ Lost
continues_nothing (tree.Block ss line) control.Tests k c m w h = refl
continues_nothing (tree.Block ss line) control.Begins k c m w h = refl
continues_nothing (tree.Block ss line) control.Steps k c m w h = refl
continues_nothing (tree.Block ss line) control.Turns k c m w h = absurd (cc)
continues_nothing (tree.Block ss line) (control.Picks arm others) k c m w h = refl
continues_nothing (tree.Block ss line) (control.InArm others) k c m w h = absurd (cc)
continues_nothing (tree.Block ss line) control.Chooses k c m w h = refl
continues_nothing (tree.Block ss line) control.Fills k c m w h = refl
continues_nothing (tree.Block ss line) (control.AtItem item others) k c m w h = refl
continues_nothing (tree.Block ss line) (control.Items item others) k c m w h = refl
continues_nothing (tree.Block ss line) control.Blanks k c m w h = refl
continues_nothing (tree.Empty line) control.Tests k c m w h = refl
continues_nothing (tree.Empty line) control.Begins k c m w h = refl
continues_nothing (tree.Empty line) control.Steps k c m w h = refl
continues_nothing (tree.Empty line) control.Turns k c m w h = absurd (cc)
continues_nothing (tree.Empty line) (control.Picks arm others) k c m w h = refl
continues_nothing (tree.Empty line) (control.InArm others) k c m w h = absurd (cc)
continues_nothing (tree.Empty line) control.Chooses k c m w h = refl
continues_nothing (tree.Empty line) control.Fills k c m w h = refl
continues_nothing (tree.Empty line) (control.AtItem item others) k c m w h = refl
continues_nothing (tree.Empty line) (control.Items item others) k c m w h = refl
continues_nothing (tree.Empty line) control.Blanks k c m w h = refl
continues_nothing (tree.Expr e line) control.Tests k c m w h = refl
continues_nothing (tree.Expr e line) control.Begins k c m w h = refl
continues_nothing (tree.Expr e line) control.Steps k c m w h = refl
continues_nothing (tree.Expr e line) control.Turns k c m w h = absurd (cc)
continues_nothing (tree.Expr e line) (control.Picks arm others) k c m w h = refl
continues_nothing (tree.Expr e line) (control.InArm others) k c m w h = absurd (cc)
continues_nothing (tree.Expr e line) control.Chooses k c m w h = refl
continues_nothing (tree.Expr e line) control.Fills k c m w h = refl
continues_nothing (tree.Expr e line) (control.AtItem item others) k c m w h = refl
continues_nothing (tree.Expr e line) (control.Items item others) k c m w h = refl
continues_nothing (tree.Expr e line) control.Blanks k c m w h = refl
continues_nothing (tree.Declare local line) control.Tests k c m w h = refl
continues_nothing (tree.Declare local line) control.Begins k c m w h = refl
continues_nothing (tree.Declare local line) control.Steps k c m w h = refl
continues_nothing (tree.Declare local line) control.Turns k c m w h = absurd (cc)
continues_nothing (tree.Declare local line) (control.Picks arm others) k c m w h = refl
continues_nothing (tree.Declare local line) (control.InArm others) k c m w h = absurd (cc)
continues_nothing (tree.Declare local line) control.Chooses k c m w h = refl
continues_nothing (tree.Declare local line) control.Fills k c m w h = refl
continues_nothing (tree.Declare local line) (control.AtItem item others) k c m w h = refl
continues_nothing (tree.Declare local line) (control.Items item others) k c m w h = refl
continues_nothing (tree.Declare local line) control.Blanks k c m w h = refl
continues_nothing (tree.InitScalar local e line) control.Tests k c m w h = refl
continues_nothing (tree.InitScalar local e line) control.Begins k c m w h = refl
continues_nothing (tree.InitScalar local e line) control.Steps k c m w h = refl
continues_nothing (tree.InitScalar local e line) control.Turns k c m w h = absurd (cc)
continues_nothing (tree.InitScalar local e line) (control.Picks arm others) k c m w h = refl
continues_nothing (tree.InitScalar local e line) (control.InArm others) k c m w h = absurd (cc)
continues_nothing (tree.InitScalar local e line) control.Chooses k c m w h = refl
continues_nothing (tree.InitScalar local e line) control.Fills k c m w h = refl
continues_nothing (tree.InitScalar local e line) (control.AtItem item others) k c m w h = refl
continues_nothing (tree.InitScalar local e line) (control.Items item others) k c m w h = refl
continues_nothing (tree.InitScalar local e line) control.Blanks k c m w h = refl
continues_nothing (tree.InitList local all line) control.Tests k c m w h = refl
continues_nothing (tree.InitList local all line) control.Begins k c m w h = refl
continues_nothing (tree.InitList local all line) control.Steps k c m w h = refl
continues_nothing (tree.InitList local all line) control.Turns k c m w h = absurd (cc)
continues_nothing (tree.InitList local all line) (control.Picks arm others) k c m w h = refl
continues_nothing (tree.InitList local all line) (control.InArm others) k c m w h = absurd (cc)
continues_nothing (tree.InitList local all line) control.Chooses k c m w h = refl
continues_nothing (tree.InitList local all line) control.Fills k c m w h = refl
continues_nothing (tree.InitList local all line) (control.AtItem item others) k c m w h = refl
continues_nothing (tree.InitList local all line) (control.Items item others) k c m w h = refl
continues_nothing (tree.InitList local all line) control.Blanks k c m w h = refl
continues_nothing (tree.If chain otherwise line) control.Tests k c m w h = refl
continues_nothing (tree.If chain otherwise line) control.Begins k c m w h = refl
continues_nothing (tree.If chain otherwise line) control.Steps k c m w h = refl
continues_nothing (tree.If chain otherwise line) control.Turns k c m w h = absurd (cc)
continues_nothing (tree.If chain otherwise line) (control.Picks arm others) k c m w h = refl
continues_nothing (tree.If chain otherwise line) (control.InArm others) k c m w h = absurd (cc)
continues_nothing (tree.If chain otherwise line) control.Chooses k c m w h = refl
continues_nothing (tree.If chain otherwise line) control.Fills k c m w h = refl
continues_nothing (tree.If chain otherwise line) (control.AtItem item others) k c m w h = refl
continues_nothing (tree.If chain otherwise line) (control.Items item others) k c m w h = refl
continues_nothing (tree.If chain otherwise line) control.Blanks k c m w h = refl
continues_nothing (tree.Loop shape first condition step body line) control.Tests k c m w h = refl
continues_nothing (tree.Loop shape first condition step body line) control.Begins k c m w h = refl
continues_nothing (tree.Loop shape first condition step body line) control.Steps k c m w h = refl
continues_nothing (tree.Loop shape first condition step body line) control.Turns k c m w h = absurd (cc)
continues_nothing (tree.Loop shape first condition step body line) (control.Picks arm others) k c m w h = refl
continues_nothing (tree.Loop shape first condition step body line) (control.InArm others) k c m w h = absurd (cc)
continues_nothing (tree.Loop shape first condition step body line) control.Chooses k c m w h = refl
continues_nothing (tree.Loop shape first condition step body line) control.Fills k c m w h = refl
continues_nothing (tree.Loop shape first condition step body line) (control.AtItem item others) k c m w h = refl
continues_nothing (tree.Loop shape first condition step body line) (control.Items item others) k c m w h = refl
continues_nothing (tree.Loop shape first condition step body line) control.Blanks k c m w h = refl
continues_nothing (tree.Switch e cases default ss line) control.Tests k c m w h = refl
continues_nothing (tree.Switch e cases default ss line) control.Begins k c m w h = refl
continues_nothing (tree.Switch e cases default ss line) control.Steps k c m w h = refl
continues_nothing (tree.Switch e cases default ss line) control.Turns k c m w h = absurd (cc)
continues_nothing (tree.Switch e cases default ss line) (control.Picks arm others) k c m w h = refl
continues_nothing (tree.Switch e cases default ss line) (control.InArm others) k c m w h = absurd (cc)
continues_nothing (tree.Switch e cases default ss line) control.Chooses k c m w h = refl
continues_nothing (tree.Switch e cases default ss line) control.Fills k c m w h = refl
continues_nothing (tree.Switch e cases default ss line) (control.AtItem item others) k c m w h = refl
continues_nothing (tree.Switch e cases default ss line) (control.Items item others) k c m w h = refl
continues_nothing (tree.Switch e cases default ss line) control.Blanks k c m w h = refl
continues_nothing (tree.Break line) control.Tests k c m w h = refl
continues_nothing (tree.Break line) control.Begins k c m w h = refl
continues_nothing (tree.Break line) control.Steps k c m w h = refl
continues_nothing (tree.Break line) control.Turns k c m w h = absurd (cc)
continues_nothing (tree.Break line) (control.Picks arm others) k c m w h = refl
continues_nothing (tree.Break line) (control.InArm others) k c m w h = absurd (cc)
continues_nothing (tree.Break line) control.Chooses k c m w h = refl
continues_nothing (tree.Break line) control.Fills k c m w h = refl
continues_nothing (tree.Break line) (control.AtItem item others) k c m w h = refl
continues_nothing (tree.Break line) (control.Items item others) k c m w h = refl
continues_nothing (tree.Break line) control.Blanks k c m w h = refl
continues_nothing (tree.Continue line) control.Tests k c m w h = refl
continues_nothing (tree.Continue line) control.Begins k c m w h = refl
continues_nothing (tree.Continue line) control.Steps k c m w h = refl
continues_nothing (tree.Continue line) control.Turns k c m w h = absurd (cc)
continues_nothing (tree.Continue line) (control.Picks arm others) k c m w h = refl
continues_nothing (tree.Continue line) (control.InArm others) k c m w h = absurd (cc)
continues_nothing (tree.Continue line) control.Chooses k c m w h = refl
continues_nothing (tree.Continue line) control.Fills k c m w h = refl
continues_nothing (tree.Continue line) (control.AtItem item others) k c m w h = refl
continues_nothing (tree.Continue line) (control.Items item others) k c m w h = refl
continues_nothing (tree.Continue line) control.Blanks k c m w h = refl
continues_nothing (tree.Return e line) control.Tests k c m w h = refl
continues_nothing (tree.Return e line) control.Begins k c m w h = refl
continues_nothing (tree.Return e line) control.Steps k c m w h = refl
continues_nothing (tree.Return e line) control.Turns k c m w h = absurd (cc)
continues_nothing (tree.Return e line) (control.Picks arm others) k c m w h = refl
continues_nothing (tree.Return e line) (control.InArm others) k c m w h = absurd (cc)
continues_nothing (tree.Return e line) control.Chooses k c m w h = refl
continues_nothing (tree.Return e line) control.Fills k c m w h = refl
continues_nothing (tree.Return e line) (control.AtItem item others) k c m w h = refl
continues_nothing (tree.Return e line) (control.Items item others) k c m w h = refl
continues_nothing (tree.Return e line) control.Blanks k c m w h = refl

pub continues_no_part : (t : Statement) (stage : Stage) (k : List Pending) (c : CopyOf) (m : Memory) (w : World Byte) → turns_by stage ≡ false → continue_at (Doing t (stage_in t stage) ∷ k) c m w ≡ Lost
continues_no_part t stage k c m w h = continues_nothing t (stage_in t stage) k c m w (stage_is_none t stage h)

pub continues_in_arm : (t : Statement) (others : Arms) (k : List Pending) (c : CopyOf) (m : Memory) (w : World Byte) → continue_at (Doing t (control.InArm others) ∷ k) c m w ≡ continue_at k c m w
continues_in_arm (tree.Block ss line) others k c m w = refl
continues_in_arm (tree.Empty line) others k c m w = refl
continues_in_arm (tree.Expr e line) others k c m w = refl
continues_in_arm (tree.Declare local line) others k c m w = refl
continues_in_arm (tree.InitScalar local e line) others k c m w = refl
continues_in_arm (tree.InitList local all line) others k c m w = refl
continues_in_arm (tree.If chain otherwise line) others k c m w = refl
continues_in_arm (tree.Loop shape first condition step body line) others k c m w = refl
continues_in_arm (tree.Switch e cases default ss line) others k c m w = refl
continues_in_arm (tree.Break line) others k c m w = refl
continues_in_arm (tree.Continue line) others k c m w = refl
continues_in_arm (tree.Return e line) others k c m w = refl

pub continues_loop : (t : Statement) (k : List Pending) (c : CopyOf) (m : Memory) (w : World Byte) → is_loop t ≡ true → continue_at (Doing t control.Turns ∷ k) c m w ≡ goes c Past (Doing t control.Turns ∷ k) m w
continues_loop (tree.Block ss line) k c m w h = absurd (cc)
continues_loop (tree.Empty line) k c m w h = absurd (cc)
continues_loop (tree.Expr e line) k c m w h = absurd (cc)
continues_loop (tree.Declare local line) k c m w h = absurd (cc)
continues_loop (tree.InitScalar local e line) k c m w h = absurd (cc)
continues_loop (tree.InitList local all line) k c m w h = absurd (cc)
continues_loop (tree.If chain otherwise line) k c m w h = absurd (cc)
continues_loop (tree.Loop shape first condition step body line) k c m w h = refl
continues_loop (tree.Switch e cases default ss line) k c m w h = absurd (cc)
continues_loop (tree.Break line) k c m w h = absurd (cc)
continues_loop (tree.Continue line) k c m w h = absurd (cc)
continues_loop (tree.Return e line) k c m w h = absurd (cc)

pub continues_switch : (t : Statement) (k : List Pending) (c : CopyOf) (m : Memory) (w : World Byte) → is_switch t ≡ true → continue_at (Doing t control.Turns ∷ k) c m w ≡ continue_at k c m w
continues_switch (tree.Block ss line) k c m w h = absurd (cc)
continues_switch (tree.Empty line) k c m w h = absurd (cc)
continues_switch (tree.Expr e line) k c m w h = absurd (cc)
continues_switch (tree.Declare local line) k c m w h = absurd (cc)
continues_switch (tree.InitScalar local e line) k c m w h = absurd (cc)
continues_switch (tree.InitList local all line) k c m w h = absurd (cc)
continues_switch (tree.If chain otherwise line) k c m w h = absurd (cc)
continues_switch (tree.Loop shape first condition step body line) k c m w h = absurd (cc)
continues_switch (tree.Switch e cases default ss line) k c m w h = refl
continues_switch (tree.Break line) k c m w h = absurd (cc)
continues_switch (tree.Continue line) k c m w h = absurd (cc)
continues_switch (tree.Return e line) k c m w h = absurd (cc)

pub continues_neither : (t : Statement) (k : List Pending) (c : CopyOf) (m : Memory) (w : World Byte) → is_loop t ≡ false → is_switch t ≡ false → continue_at (Doing t control.Turns ∷ k) c m w ≡ Lost
continues_neither (tree.Block ss line) k c m w h g = refl
continues_neither (tree.Empty line) k c m w h g = refl
continues_neither (tree.Expr e line) k c m w h g = refl
continues_neither (tree.Declare local line) k c m w h g = refl
continues_neither (tree.InitScalar local e line) k c m w h g = refl
continues_neither (tree.InitList local all line) k c m w h g = refl
continues_neither (tree.If chain otherwise line) k c m w h g = refl
continues_neither (tree.Loop shape first condition step body line) k c m w h g = absurd (cc)
continues_neither (tree.Switch e cases default ss line) k c m w h g = absurd (cc)
continues_neither (tree.Break line) k c m w h g = refl
continues_neither (tree.Continue line) k c m w h g = refl
continues_neither (tree.Return e line) k c m w h g = refl

unwinds_nothing : (t : Statement) (stage : control.Stage) (k : List Pending) → is_turning stage ≡ false → unwound (Doing t stage ∷ k) ≡ Doing t stage ∷ k
unwinds_nothing t control.Tests k h = refl
unwinds_nothing t control.Begins k h = refl
unwinds_nothing t control.Steps k h = refl
unwinds_nothing t control.Turns k h = absurd (cc)
unwinds_nothing t (control.Picks arm more) k h = refl
unwinds_nothing t (control.InArm more) k h = absurd (cc)
unwinds_nothing t control.Chooses k h = refl
unwinds_nothing t control.Fills k h = refl
unwinds_nothing t (control.AtItem item more) k h = refl
unwinds_nothing t (control.Items item more) k h = refl
unwinds_nothing t control.Blanks k h = refl

pub unwinds_no_part : (t : Statement) (stage : Stage) (k : List Pending) → turns_by stage ≡ false → unwound (Doing t (stage_in t stage) ∷ k) ≡ Doing t (stage_in t stage) ∷ k
unwinds_no_part t stage k h = unwinds_nothing t (stage_in t stage) k (stage_is_none t stage h)
