-- What is lost at every stage of a statement, and with everything that an expression has got, but those that a rule is about.
use Rattle.std.proofs.Common.{◌≡◌, ℕ, zero, suc, ◌+◌, true, false, List, [], ◌∷◌, drop, refl}
use Rattle.c_typed.specs.Trees as tree
use Rattle.c_typed.specs.Trees.{Expression, Item, Statement}
use Rattle.c_typed.specs.declared.statement.TCase.{TCase}
use Rattle.pic_world.specs.World.{World}
use Rattle.src_machine.proofs.Calls.{called_by, passed_by}
use Rattle.src_machine.proofs.Gives.{no_label_tests, no_label_begins, no_label_steps, no_label_turns, no_label_picks, no_label_in_arm, no_label_fills, no_label_at_item, no_label_items, no_label_blanks, no_value_at_turns, no_value_at_in_arm, no_value_at_chooses, no_value_at_fills, no_value_at_items, no_value_at_blanks}
use Rattle.src_machine.proofs.Items.{no_place_tests_at, no_place_begins_at, no_place_steps_at, no_place_turns_at, no_place_picks_at, no_place_in_arm_at, no_place_chooses_at, no_place_fills_at, no_place_items_at, no_place_blanks_at}
use Rattle.src_machine.proofs.Places.{no_place_chosen, no_place_one, no_place_with, no_place_stored, no_place_copied, no_place_args, no_place_passed, no_place_called}
use Rattle.src_machine.specs.Seen.{IsListOf, is_scalar}
use Rattle.src_rules.specs.Accesses.{stored_in, stored_for}
use Rattle.src_rules.specs.Expressions.{found_in, found_for}
use Rattle.src_rules.specs.Giving.{take_for, compares_for}
use Rattle.src_rules.specs.State.{Lost}
use Rattle.src_values.specs.Control.{Pending}
use Rattle.src_values.specs.Data.{Datum}
use Rattle.src_values.specs.Memory.{Setting, Memory}
use Rattle.src_values.specs.Seen.{arguments_from, at_item_of, datum_of, got_in, stage_in}
use Rattle.src_values.specs.declared.control.Got.{Got}
use Rattle.src_values.specs.declared.control.Got.TheVariants as gots
use Rattle.src_values.specs.declared.control.Stage.{Stage}
use Rattle.src_values.specs.declared.control.Stage.TheVariants as stages
use Rattle.src_values.specs.declared.objects.Byte.{Byte}
use Rattle.src_values.specs.declared.objects.CopyOf.{CopyOf}
use Rattle.src_values.specs.declared.objects.Spot.{Spot}

-- no statement takes a place but for an item
pub no_place_elsewhere : (stage : Stage) → ((at : _) → stage ≡ stages.AtItem at → ⊥) → (s : Setting) (spot : Spot) (k : List Pending) (c : CopyOf) (m : Memory) (w : World Byte) (t : Statement) → found_for s t (stage_in t stage) spot k c m w ≡ Lost
no_place_elsewhere stages.Tests no_at_item s spot k c m w t = no_place_tests_at s spot k c m w t
no_place_elsewhere stages.Begins no_at_item s spot k c m w t = no_place_begins_at s spot k c m w t
no_place_elsewhere stages.Steps no_at_item s spot k c m w t = no_place_steps_at s spot k c m w t
no_place_elsewhere stages.Turns no_at_item s spot k c m w t = no_place_turns_at s spot k c m w t
no_place_elsewhere (stages.Picks at) no_at_item s spot k c m w t = no_place_picks_at s at spot k c m w t
no_place_elsewhere (stages.InArm at) no_at_item s spot k c m w t = no_place_in_arm_at s at spot k c m w t
no_place_elsewhere stages.Chooses no_at_item s spot k c m w t = no_place_chooses_at s spot k c m w t
no_place_elsewhere stages.Fills no_at_item s spot k c m w t = no_place_fills_at s spot k c m w t
no_place_elsewhere (stages.AtItem at) no_at_item s spot k c m w t = absurd (no_at_item at refl)
no_place_elsewhere (stages.Items at) no_at_item s spot k c m w t = no_place_items_at s at spot k c m w t
no_place_elsewhere stages.Blanks no_at_item s spot k c m w t = no_place_blanks_at s spot k c m w t

-- labels are compared only where a statement chooses
pub no_label_elsewhere : (stage : Stage) → (stage ≡ stages.Chooses → ⊥) → (v : Datum) (labels : List TCase) (k : List Pending) (c : CopyOf) (m : Memory) (w : World Byte) (t : Statement) → compares_for t (stage_in t stage) v labels k c m w ≡ Lost
no_label_elsewhere stages.Tests no_chooses v labels k c m w t = no_label_tests v labels k c m w t
no_label_elsewhere stages.Begins no_chooses v labels k c m w t = no_label_begins v labels k c m w t
no_label_elsewhere stages.Steps no_chooses v labels k c m w t = no_label_steps v labels k c m w t
no_label_elsewhere stages.Turns no_chooses v labels k c m w t = no_label_turns v labels k c m w t
no_label_elsewhere (stages.Picks at) no_chooses v labels k c m w t = no_label_picks at v labels k c m w t
no_label_elsewhere (stages.InArm at) no_chooses v labels k c m w t = no_label_in_arm at v labels k c m w t
no_label_elsewhere stages.Chooses no_chooses v labels k c m w t = absurd (no_chooses refl)
no_label_elsewhere stages.Fills no_chooses v labels k c m w t = no_label_fills v labels k c m w t
no_label_elsewhere (stages.AtItem at) no_chooses v labels k c m w t = no_label_at_item at v labels k c m w t
no_label_elsewhere (stages.Items at) no_chooses v labels k c m w t = no_label_items at v labels k c m w t
no_label_elsewhere stages.Blanks no_chooses v labels k c m w t = no_label_blanks v labels k c m w t

-- a statement takes a value for its expression, an arm or an item
pub no_value_elsewhere : (stage : Stage) → (stage ≡ stages.Tests → ⊥) → (stage ≡ stages.Begins → ⊥) → (stage ≡ stages.Steps → ⊥) → ((at : _) → stage ≡ stages.Picks at → ⊥) → ((at : _) → stage ≡ stages.AtItem at → ⊥) → (s : Setting) (v : Datum) (k : List Pending) (c : CopyOf) (m : Memory) (w : World Byte) (t : Statement) → take_for s t (stage_in t stage) v k c m w ≡ Lost
no_value_elsewhere stages.Tests no_tests no_begins no_steps no_picks no_at_item s v k c m w t = absurd (no_tests refl)
no_value_elsewhere stages.Begins no_tests no_begins no_steps no_picks no_at_item s v k c m w t = absurd (no_begins refl)
no_value_elsewhere stages.Steps no_tests no_begins no_steps no_picks no_at_item s v k c m w t = absurd (no_steps refl)
no_value_elsewhere stages.Turns no_tests no_begins no_steps no_picks no_at_item s v k c m w t = no_value_at_turns s v k c m w t
no_value_elsewhere (stages.Picks at) no_tests no_begins no_steps no_picks no_at_item s v k c m w t = absurd (no_picks at refl)
no_value_elsewhere (stages.InArm at) no_tests no_begins no_steps no_picks no_at_item s v k c m w t = no_value_at_in_arm s at v k c m w t
no_value_elsewhere stages.Chooses no_tests no_begins no_steps no_picks no_at_item s v k c m w t = no_value_at_chooses s v k c m w t
no_value_elsewhere stages.Fills no_tests no_begins no_steps no_picks no_at_item s v k c m w t = no_value_at_fills s v k c m w t
no_value_elsewhere (stages.AtItem at) no_tests no_begins no_steps no_picks no_at_item s v k c m w t = absurd (no_at_item at refl)
no_value_elsewhere (stages.Items at) no_tests no_begins no_steps no_picks no_at_item s v k c m w t = no_value_at_items s at v k c m w t
no_value_elsewhere stages.Blanks no_tests no_begins no_steps no_picks no_at_item s v k c m w t = no_value_at_blanks s v k c m w t

-- an expression takes a place for its first and its second one
pub no_place_part : (got : Got) → (got ≡ gots.Nothing → ⊥) → ((to : _) → got ≡ gots.At to → ⊥) → (s : Setting) (values : List Datum) (spot : Spot) (k : List Pending) (c : CopyOf) (m : Memory) (w : World Byte) (e : Expression) → found_in s e (got_in e got values) spot k c m w ≡ Lost
no_place_part gots.Nothing no_nothing no_at s values spot k c m w e = absurd (no_nothing refl)
no_place_part gots.Chosen no_nothing no_at s values spot k c m w e = no_place_chosen s spot k c m w e
no_place_part (gots.One u) no_nothing no_at s values spot k c m w e = no_place_one s (datum_of u) spot k c m w e
no_place_part (gots.At to) no_nothing no_at s values spot k c m w e = absurd (no_at to refl)
no_place_part (gots.AtWith to u) no_nothing no_at s values spot k c m w e = no_place_with s to (datum_of u) spot k c m w e
no_place_part (gots.Stores to u) no_nothing no_at s values spot k c m w e = no_place_stored s to (datum_of u) spot k c m w e
no_place_part gots.Copies no_nothing no_at s values spot k c m w e = no_place_copied s spot k c m w e
no_place_part (gots.Args n) no_nothing no_at s values spot k c m w e = no_place_args s values (arguments_from (n + 1) e) spot k c m w e
no_place_part gots.Passed no_nothing no_at s values spot k c m w e = no_place_passed s values spot k c m w e
no_place_part gots.Called no_nothing no_at s values spot k c m w e = no_place_called s spot k c m w e

-- an expression goes on behind a write of its value or a copy of its structure
pub no_stored_part : (got : Got) → ((to : _) (u : _) → got ≡ gots.Stores to u → ⊥) → (got ≡ gots.Copies → ⊥) → (values : List Datum) (k : List Pending) (c : CopyOf) (m : Memory) (w : World Byte) (e : Expression) → stored_in e (got_in e got values) k c m w ≡ Lost
no_stored_part gots.Nothing no_stores no_copies values k c m w e = refl
no_stored_part gots.Chosen no_stores no_copies values k c m w e = refl
no_stored_part (gots.One u) no_stores no_copies values k c m w e = refl
no_stored_part (gots.At to) no_stores no_copies values k c m w e = refl
no_stored_part (gots.AtWith to u) no_stores no_copies values k c m w e = refl
no_stored_part (gots.Stores to u) no_stores no_copies values k c m w e = absurd (no_stores to u refl)
no_stored_part gots.Copies no_stores no_copies values k c m w e = absurd (no_copies refl)
no_stored_part (gots.Args n) no_stores no_copies values k c m w e = refl
no_stored_part gots.Passed no_stores no_copies values k c m w e = refl
no_stored_part gots.Called no_stores no_copies values k c m w e = refl

-- a call has all its arguments
pub none_passed_by : (got : Got) → (got ≡ gots.Passed → ⊥) → passed_by got ≡ false
none_passed_by gots.Nothing no_passed = refl
none_passed_by gots.Chosen no_passed = refl
none_passed_by (gots.One u) no_passed = refl
none_passed_by (gots.At to) no_passed = refl
none_passed_by (gots.AtWith to u) no_passed = refl
none_passed_by (gots.Stores to u) no_passed = refl
none_passed_by gots.Copies no_passed = refl
none_passed_by (gots.Args n) no_passed = refl
none_passed_by gots.Passed no_passed = absurd (no_passed refl)
none_passed_by gots.Called no_passed = refl

-- behind the write of a scalar nothing but that write goes on
scalar_lost : (stage : Stage) → (stage ≡ stages.Fills → ⊥) → (s : Setting) (local : ℕ) (e : Expression) (line : ℕ) (k : List Pending) (c : CopyOf) (m : Memory) (w : World Byte) → stored_for s (tree.InitScalar local e line) (stage_in (tree.InitScalar local e line) stage) k c m w ≡ Lost
scalar_lost stages.Tests no_fills s local e line k c m w = refl
scalar_lost stages.Begins no_fills s local e line k c m w = refl
scalar_lost stages.Steps no_fills s local e line k c m w = refl
scalar_lost stages.Turns no_fills s local e line k c m w = refl
scalar_lost (stages.Picks zero) no_fills s local e line k c m w = refl
scalar_lost (stages.Picks (suc at)) no_fills s local e line k c m w = refl
scalar_lost (stages.InArm at) no_fills s local e line k c m w = refl
scalar_lost stages.Chooses no_fills s local e line k c m w = refl
scalar_lost stages.Fills no_fills s local e line k c m w = absurd (no_fills refl)
scalar_lost (stages.AtItem zero) no_fills s local e line k c m w = refl
scalar_lost (stages.AtItem (suc at)) no_fills s local e line k c m w = refl
scalar_lost (stages.Items zero) no_fills s local e line k c m w = refl
scalar_lost (stages.Items (suc at)) no_fills s local e line k c m w = refl
scalar_lost stages.Blanks no_fills s local e line k c m w = refl

pub stored_first_lost : (stage : Stage) → (stage ≡ stages.Fills → ⊥) → (s : Setting) (k : List Pending) (c : CopyOf) (m : Memory) (w : World Byte) (t : Statement) → is_scalar t ≡ true → stored_for s t (stage_in t stage) k c m w ≡ Lost
stored_first_lost stage no_fills s k c m w (tree.Block ss line) scalar = absurd (cc)
stored_first_lost stage no_fills s k c m w (tree.Empty line) scalar = absurd (cc)
stored_first_lost stage no_fills s k c m w (tree.Expr e line) scalar = absurd (cc)
stored_first_lost stage no_fills s k c m w (tree.Declare local line) scalar = absurd (cc)
stored_first_lost stage no_fills s k c m w (tree.InitScalar local e line) scalar = scalar_lost stage no_fills s local e line k c m w
stored_first_lost stage no_fills s k c m w (tree.InitList local all line) scalar = absurd (cc)
stored_first_lost stage no_fills s k c m w (tree.If chain otherwise line) scalar = absurd (cc)
stored_first_lost stage no_fills s k c m w (tree.Loop shape first condition step body line) scalar = absurd (cc)
stored_first_lost stage no_fills s k c m w (tree.Switch e cases default ss line) scalar = absurd (cc)
stored_first_lost stage no_fills s k c m w (tree.Break line) scalar = absurd (cc)
stored_first_lost stage no_fills s k c m w (tree.Continue line) scalar = absurd (cc)
stored_first_lost stage no_fills s k c m w (tree.Return e line) scalar = absurd (cc)

item_lost : (s : Setting) (local : ℕ) (all : List Item) (line : ℕ) (rest : List Item) (k : List Pending) (c : CopyOf) (m : Memory) (w : World Byte) → stored_for s (tree.InitList local all line) (at_item_of (tree.InitList local all line) rest) k c m w ≡ Lost
item_lost s local all line [] k c m w = refl
item_lost s local all line (item ∷ rest) k c m w = refl

-- behind the write of a part of a list nothing but that part and the bytes without one go on
list_lost : (stage : Stage) → ((at : _) → stage ≡ stages.Items at → ⊥) → (stage ≡ stages.Blanks → ⊥) → (s : Setting) (local : ℕ) (all : List Item) (line : ℕ) (k : List Pending) (c : CopyOf) (m : Memory) (w : World Byte) → stored_for s (tree.InitList local all line) (stage_in (tree.InitList local all line) stage) k c m w ≡ Lost
list_lost stages.Tests no_items no_blanks s local all line k c m w = refl
list_lost stages.Begins no_items no_blanks s local all line k c m w = refl
list_lost stages.Steps no_items no_blanks s local all line k c m w = refl
list_lost stages.Turns no_items no_blanks s local all line k c m w = refl
list_lost (stages.Picks zero) no_items no_blanks s local all line k c m w = refl
list_lost (stages.Picks (suc at)) no_items no_blanks s local all line k c m w = refl
list_lost (stages.InArm at) no_items no_blanks s local all line k c m w = refl
list_lost stages.Chooses no_items no_blanks s local all line k c m w = refl
list_lost stages.Fills no_items no_blanks s local all line k c m w = refl
list_lost (stages.AtItem at) no_items no_blanks s local all line k c m w = item_lost s local all line (drop at all) k c m w
list_lost (stages.Items at) no_items no_blanks s local all line k c m w = absurd (no_items at refl)
list_lost stages.Blanks no_items no_blanks s local all line k c m w = absurd (no_blanks refl)

pub stored_list_lost : (stage : Stage) → ((at : _) → stage ≡ stages.Items at → ⊥) → (stage ≡ stages.Blanks → ⊥) → (s : Setting) (k : List Pending) (c : CopyOf) (m : Memory) (w : World Byte) (t : Statement) (n : ℕ) (items : List Item) → IsListOf t n items → stored_for s t (stage_in t stage) k c m w ≡ Lost
stored_list_lost stage no_items no_blanks s k c m w (tree.Block ss line) n items is = absurd is
stored_list_lost stage no_items no_blanks s k c m w (tree.Empty line) n items is = absurd is
stored_list_lost stage no_items no_blanks s k c m w (tree.Expr e line) n items is = absurd is
stored_list_lost stage no_items no_blanks s k c m w (tree.Declare local line) n items is = absurd is
stored_list_lost stage no_items no_blanks s k c m w (tree.InitScalar local e line) n items is = absurd is
stored_list_lost stage no_items no_blanks s k c m w (tree.InitList local all line) n items is = list_lost stage no_items no_blanks s local all line k c m w
stored_list_lost stage no_items no_blanks s k c m w (tree.If chain otherwise line) n items is = absurd is
stored_list_lost stage no_items no_blanks s k c m w (tree.Loop shape first condition step body line) n items is = absurd is
stored_list_lost stage no_items no_blanks s k c m w (tree.Switch e cases default ss line) n items is = absurd is
stored_list_lost stage no_items no_blanks s k c m w (tree.Break line) n items is = absurd is
stored_list_lost stage no_items no_blanks s k c m w (tree.Continue line) n items is = absurd is
stored_list_lost stage no_items no_blanks s k c m w (tree.Return e line) n items is = absurd is

-- what waits for the value of a call is a call that is under way
pub none_called_by : (got : Got) → (got ≡ gots.Called → ⊥) → called_by got ≡ false
none_called_by gots.Nothing no_called = refl
none_called_by gots.Chosen no_called = refl
none_called_by (gots.One u) no_called = refl
none_called_by (gots.At to) no_called = refl
none_called_by (gots.AtWith to u) no_called = refl
none_called_by (gots.Stores to u) no_called = refl
none_called_by gots.Copies no_called = refl
none_called_by (gots.Args n) no_called = refl
none_called_by gots.Passed no_called = refl
none_called_by gots.Called no_called = absurd (no_called refl)
