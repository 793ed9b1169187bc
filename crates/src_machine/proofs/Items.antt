-- What statements do with a place that was found, of the trees that the code has.
use Rattle.std.proofs.Common.{◌≡◌, ℕ, zero, suc, ◌<◌, ◌≤◌, arith, length, List, [], ◌∷◌, map, drop, refl, sym, subst, ap, ◌∙◌}
use Rattle.std.specs.Global.{Global}
use Rattle.std.specs.Prelude.{get_or}
use Rattle.std.specs.declared.vec.Vec.{Vec}
use Rattle.c_typed.proofs.Shapes.{show_statement_block, show_statement_empty, show_statement_expr, show_statement_declare, show_statement_init_scalar, show_statement_init_list, show_statement_loop, show_statement_switch, show_statement_break, show_statement_continue, show_statement_return}
use Rattle.c_typed.specs.Trees as tree
use Rattle.c_typed.specs.Trees.{Item, Arms, LastArm, Statement}
use Rattle.c_typed.specs.Views.{statement_of, item_of}
use Rattle.c_typed.specs.declared.statement.TItem.{TItem}
use Rattle.c_typed.specs.declared.statement.TItem.TheVariants as items
use Rattle.c_typed.specs.declared.statement.TStmt.TheVariants as TStmt
use Rattle.pic_world.specs.World.{World}
use Rattle.src_machine.proofs.Shapes.{show_statement_if}
use Rattle.src_rules.specs.Accesses.{goes}
use Rattle.src_rules.specs.Expressions.{found_for}
use Rattle.src_rules.specs.State.{Lost}
use Rattle.src_values.specs.Control.{CopyRead, Pending, Doing}
use Rattle.src_values.specs.Memory.{Setting, Memory}
use Rattle.src_values.specs.Objects.{behind, local_of}
use Rattle.src_values.specs.Seen.{stage_in, at_item_of, items_of, picks_of, arms_from}
use Rattle.src_values.specs.declared.control.Stage.TheVariants as stages
use Rattle.src_values.specs.declared.objects.Byte.{Byte}
use Rattle.src_values.specs.declared.objects.CopyOf.{CopyOf}
use Rattle.src_values.specs.declared.objects.Spot.{Spot}

pub item_found_block : (s : Setting) (statements : _) (line : _) (at : ℕ) (spot : Spot) (k : List Pending) (c : CopyOf) (m : Memory) (w : World Byte) → found_for s (statement_of (TStmt.Block statements line)) (stage_in (statement_of (TStmt.Block statements line)) (stages.AtItem at)) spot k c m w ≡ Lost
item_found_block s statements line zero spot k c m w = ap (λ t. found_for s t (stage_in t (stages.AtItem zero)) spot k c m w) (show_statement_block statements line)
item_found_block s statements line (suc n) spot k c m w = ap (λ t. found_for s t (stage_in t (stages.AtItem (suc n))) spot k c m w) (show_statement_block statements line)

pub item_found_empty : (s : Setting) (line : _) (at : ℕ) (spot : Spot) (k : List Pending) (c : CopyOf) (m : Memory) (w : World Byte) → found_for s (statement_of (TStmt.Empty line)) (stage_in (statement_of (TStmt.Empty line)) (stages.AtItem at)) spot k c m w ≡ Lost
item_found_empty s line zero spot k c m w = ap (λ t. found_for s t (stage_in t (stages.AtItem zero)) spot k c m w) (show_statement_empty line)
item_found_empty s line (suc n) spot k c m w = ap (λ t. found_for s t (stage_in t (stages.AtItem (suc n))) spot k c m w) (show_statement_empty line)

pub item_found_expr : (s : Setting) (value : _) (line : _) (at : ℕ) (spot : Spot) (k : List Pending) (c : CopyOf) (m : Memory) (w : World Byte) → found_for s (statement_of (TStmt.Expr value line)) (stage_in (statement_of (TStmt.Expr value line)) (stages.AtItem at)) spot k c m w ≡ Lost
item_found_expr s value line zero spot k c m w = ap (λ t. found_for s t (stage_in t (stages.AtItem zero)) spot k c m w) (show_statement_expr value line)
item_found_expr s value line (suc n) spot k c m w = ap (λ t. found_for s t (stage_in t (stages.AtItem (suc n))) spot k c m w) (show_statement_expr value line)

pub item_found_declare : (s : Setting) (local : _) (line : _) (at : ℕ) (spot : Spot) (k : List Pending) (c : CopyOf) (m : Memory) (w : World Byte) → found_for s (statement_of (TStmt.Declare local line)) (stage_in (statement_of (TStmt.Declare local line)) (stages.AtItem at)) spot k c m w ≡ Lost
item_found_declare s local line zero spot k c m w = ap (λ t. found_for s t (stage_in t (stages.AtItem zero)) spot k c m w) (show_statement_declare local line)
item_found_declare s local line (suc n) spot k c m w = ap (λ t. found_for s t (stage_in t (stages.AtItem (suc n))) spot k c m w) (show_statement_declare local line)

pub item_found_init_scalar : (s : Setting) (local : _) (value : _) (line : _) (at : ℕ) (spot : Spot) (k : List Pending) (c : CopyOf) (m : Memory) (w : World Byte) → found_for s (statement_of (TStmt.InitScalar local value line)) (stage_in (statement_of (TStmt.InitScalar local value line)) (stages.AtItem at)) spot k c m w ≡ Lost
item_found_init_scalar s local value line zero spot k c m w = ap (λ t. found_for s t (stage_in t (stages.AtItem zero)) spot k c m w) (show_statement_init_scalar local value line)
item_found_init_scalar s local value line (suc n) spot k c m w = ap (λ t. found_for s t (stage_in t (stages.AtItem (suc n))) spot k c m w) (show_statement_init_scalar local value line)

pub item_found_if : (s : Setting) (arms : _) (otherwise : _) (line : _) (at : ℕ) (spot : Spot) (k : List Pending) (c : CopyOf) (m : Memory) (w : World Byte) → found_for s (statement_of (TStmt.If arms otherwise line)) (stage_in (statement_of (TStmt.If arms otherwise line)) (stages.AtItem at)) spot k c m w ≡ Lost
item_found_if s arms otherwise line zero spot k c m w = ap (λ t. found_for s t (stage_in t (stages.AtItem zero)) spot k c m w) (show_statement_if arms otherwise line)
item_found_if s arms otherwise line (suc n) spot k c m w = ap (λ t. found_for s t (stage_in t (stages.AtItem (suc n))) spot k c m w) (show_statement_if arms otherwise line)

pub item_found_loop : (s : Setting) (shape : _) (begin : _) (condition : _) (step : _) (body : _) (line : _) (at : ℕ) (spot : Spot) (k : List Pending) (c : CopyOf) (m : Memory) (w : World Byte) → found_for s (statement_of (TStmt.Loop shape begin condition step body line)) (stage_in (statement_of (TStmt.Loop shape begin condition step body line)) (stages.AtItem at)) spot k c m w ≡ Lost
item_found_loop s shape begin condition step body line zero spot k c m w = ap (λ t. found_for s t (stage_in t (stages.AtItem zero)) spot k c m w) (show_statement_loop shape begin condition step body line)
item_found_loop s shape begin condition step body line (suc n) spot k c m w = ap (λ t. found_for s t (stage_in t (stages.AtItem (suc n))) spot k c m w) (show_statement_loop shape begin condition step body line)

pub item_found_switch : (s : Setting) (value : _) (cases : _) (default : _) (statements : _) (line : _) (at : ℕ) (spot : Spot) (k : List Pending) (c : CopyOf) (m : Memory) (w : World Byte) → found_for s (statement_of (TStmt.Switch value cases default statements line)) (stage_in (statement_of (TStmt.Switch value cases default statements line)) (stages.AtItem at)) spot k c m w ≡ Lost
item_found_switch s value cases default statements line zero spot k c m w = ap (λ t. found_for s t (stage_in t (stages.AtItem zero)) spot k c m w) (show_statement_switch value cases default statements line)
item_found_switch s value cases default statements line (suc n) spot k c m w = ap (λ t. found_for s t (stage_in t (stages.AtItem (suc n))) spot k c m w) (show_statement_switch value cases default statements line)

pub item_found_break : (s : Setting) (line : _) (at : ℕ) (spot : Spot) (k : List Pending) (c : CopyOf) (m : Memory) (w : World Byte) → found_for s (statement_of (TStmt.Break line)) (stage_in (statement_of (TStmt.Break line)) (stages.AtItem at)) spot k c m w ≡ Lost
item_found_break s line zero spot k c m w = ap (λ t. found_for s t (stage_in t (stages.AtItem zero)) spot k c m w) (show_statement_break line)
item_found_break s line (suc n) spot k c m w = ap (λ t. found_for s t (stage_in t (stages.AtItem (suc n))) spot k c m w) (show_statement_break line)

pub item_found_continue : (s : Setting) (line : _) (at : ℕ) (spot : Spot) (k : List Pending) (c : CopyOf) (m : Memory) (w : World Byte) → found_for s (statement_of (TStmt.Continue line)) (stage_in (statement_of (TStmt.Continue line)) (stages.AtItem at)) spot k c m w ≡ Lost
item_found_continue s line zero spot k c m w = ap (λ t. found_for s t (stage_in t (stages.AtItem zero)) spot k c m w) (show_statement_continue line)
item_found_continue s line (suc n) spot k c m w = ap (λ t. found_for s t (stage_in t (stages.AtItem (suc n))) spot k c m w) (show_statement_continue line)

pub item_found_return : (s : Setting) (value : _) (line : _) (at : ℕ) (spot : Spot) (k : List Pending) (c : CopyOf) (m : Memory) (w : World Byte) → found_for s (statement_of (TStmt.Return value line)) (stage_in (statement_of (TStmt.Return value line)) (stages.AtItem at)) spot k c m w ≡ Lost
item_found_return s value line zero spot k c m w = ap (λ t. found_for s t (stage_in t (stages.AtItem zero)) spot k c m w) (show_statement_return value line)
item_found_return s value line (suc n) spot k c m w = ap (λ t. found_for s t (stage_in t (stages.AtItem (suc n))) spot k c m w) (show_statement_return value line)

-- what stands at a number of a list, and what follows it
pub drop_some : (xs : List TItem) (n : ℕ) (x : TItem) → n < length xs → x ≡ get_or xs n x → drop n (map item_of xs) ≡ item_of x ∷ drop (suc n) (map item_of xs)
drop_some [] n x h e = absurd (omega arith)
drop_some (y ∷ ys) zero x h e = ap (λ z. item_of z ∷ map item_of ys) (sym e)
drop_some (y ∷ ys) (suc n) x h e = drop_some ys n x (omega arith) e

pub drop_none : (xs : List TItem) (n : ℕ) → length xs ≤ n → drop n (map item_of xs) ≡ []
drop_none [] zero h = refl
drop_none [] (suc n) h = refl
drop_none (y ∷ ys) zero h = absurd (omega arith)
drop_none (y ∷ ys) (suc n) h = drop_none ys n (omega arith)

no_item : (s : Setting) (local : ℕ) (all ys : List Item) (line : ℕ) (spot : Spot) (k : List Pending) (c : CopyOf) (m : Memory) (w : World Byte) → ys ≡ [] → found_for s (tree.InitList local all line) (at_item_of (tree.InitList local all line) ys) spot k c m w ≡ Lost
no_item s local all ys line spot k c m w h = ap (λ zs. found_for s (tree.InitList local all line) (at_item_of (tree.InitList local all line) zs) spot k c m w) h

pub item_found_struct : (s : Setting) (local : ℕ) (list : Vec TItem Global) (line : ℕ) (at : ℕ) (offset : _) (from : _) (size : _) (spot : Spot) (k : List Pending) (c : CopyOf) (m : Memory) (w : World Byte) → at < length list.items → items.Struct offset from size ≡ get_or list.items at (items.Struct offset from size) → found_for s (statement_of (TStmt.InitList local list line)) (stage_in (statement_of (TStmt.InitList local list line)) (stages.AtItem at)) spot k c m w ≡ goes c (CopyRead (behind (local_of s.program c local) offset) spot size) (Doing (statement_of (TStmt.InitList local list line)) (stage_in (statement_of (TStmt.InitList local list line)) (stages.Items at)) ∷ k) m w
item_found_struct s local list line at offset from size spot k c m w h e =
    subst (λ t. found_for s t (stage_in t (stages.AtItem at)) spot k c m w ≡ goes c (CopyRead (behind (local_of s.program c local) offset) spot size) (Doing t (stage_in t (stages.Items at)) ∷ k) m w) (sym (show_statement_init_list local list line))
    (subst (λ ys. found_for s (tree.InitList local (map item_of list.items) line) (at_item_of (tree.InitList local (map item_of list.items) line) ys) spot k c m w ≡ goes c (CopyRead (behind (local_of s.program c local) offset) spot size) (Doing (tree.InitList local (map item_of list.items) line) (items_of (tree.InitList local (map item_of list.items) line) ys) ∷ k) m w) (sym (drop_some list.items at (items.Struct offset from size) h e)) refl)

pub item_found_scalar : (s : Setting) (local : ℕ) (list : Vec TItem Global) (line : ℕ) (at : ℕ) (offset : _) (value : _) (spot : Spot) (k : List Pending) (c : CopyOf) (m : Memory) (w : World Byte) → at < length list.items → items.Scalar offset value ≡ get_or list.items at (items.Scalar offset value) → found_for s (statement_of (TStmt.InitList local list line)) (stage_in (statement_of (TStmt.InitList local list line)) (stages.AtItem at)) spot k c m w ≡ Lost
item_found_scalar s local list line at offset value spot k c m w h e =
    subst (λ t. found_for s t (stage_in t (stages.AtItem at)) spot k c m w ≡ Lost) (sym (show_statement_init_list local list line))
    (subst (λ ys. found_for s (tree.InitList local (map item_of list.items) line) (at_item_of (tree.InitList local (map item_of list.items) line) ys) spot k c m w ≡ Lost) (sym (drop_some list.items at (items.Scalar offset value) h e)) refl)

pub item_found_text : (s : Setting) (local : ℕ) (list : Vec TItem Global) (line : ℕ) (at : ℕ) (offset : _) (text : _) (size : _) (spot : Spot) (k : List Pending) (c : CopyOf) (m : Memory) (w : World Byte) → at < length list.items → items.Text offset text size ≡ get_or list.items at (items.Text offset text size) → found_for s (statement_of (TStmt.InitList local list line)) (stage_in (statement_of (TStmt.InitList local list line)) (stages.AtItem at)) spot k c m w ≡ Lost
item_found_text s local list line at offset text size spot k c m w h e =
    subst (λ t. found_for s t (stage_in t (stages.AtItem at)) spot k c m w ≡ Lost) (sym (show_statement_init_list local list line))
    (subst (λ ys. found_for s (tree.InitList local (map item_of list.items) line) (at_item_of (tree.InitList local (map item_of list.items) line) ys) spot k c m w ≡ Lost) (sym (drop_some list.items at (items.Text offset text size) h e)) refl)

pub item_found_none : (s : Setting) (local : ℕ) (list : Vec TItem Global) (line : ℕ) (at : ℕ) (spot : Spot) (k : List Pending) (c : CopyOf) (m : Memory) (w : World Byte) → length list.items ≤ at → found_for s (statement_of (TStmt.InitList local list line)) (stage_in (statement_of (TStmt.InitList local list line)) (stages.AtItem at)) spot k c m w ≡ Lost
item_found_none s local list line at spot k c m w h = ap (λ t. found_for s t (stage_in t (stages.AtItem at)) spot k c m w) (show_statement_init_list local list line) ∙ no_item s local (map item_of list.items) (drop at (map item_of list.items)) line spot k c m w (drop_none list.items at h)

-- ---- where no place goes
no_place_picks : (s : Setting) (chain : Arms) (otherwise : LastArm) (line : ℕ) (more : Arms) (spot : Spot) (k : List Pending) (c : CopyOf) (m : Memory) (w : World Byte) → found_for s (tree.If chain otherwise line) (picks_of (tree.If chain otherwise line) more) spot k c m w ≡ Lost
no_place_picks s chain otherwise line tree.NoArm spot k c m w = refl
no_place_picks s chain otherwise line (tree.AndArm arm more) spot k c m w = refl

no_place_items : (s : Setting) (local : ℕ) (all : List Item) (line : ℕ) (ys : List Item) (spot : Spot) (k : List Pending) (c : CopyOf) (m : Memory) (w : World Byte) → found_for s (tree.InitList local all line) (items_of (tree.InitList local all line) ys) spot k c m w ≡ Lost
no_place_items s local all line [] spot k c m w = refl
no_place_items s local all line (y ∷ ys) spot k c m w = refl

pub no_place_tests_at : (s : Setting) (spot : Spot) (k : List Pending) (c : CopyOf) (m : Memory) (w : World Byte) (t : Statement) → found_for s t (stage_in t stages.Tests) spot k c m w ≡ Lost
no_place_tests_at s spot k c m w (tree.Block ss line) = refl
no_place_tests_at s spot k c m w (tree.Empty line) = refl
no_place_tests_at s spot k c m w (tree.Expr e line) = refl
no_place_tests_at s spot k c m w (tree.Declare local line) = refl
no_place_tests_at s spot k c m w (tree.InitScalar local e line) = refl
no_place_tests_at s spot k c m w (tree.InitList local all line) = refl
no_place_tests_at s spot k c m w (tree.If chain otherwise line) = refl
no_place_tests_at s spot k c m w (tree.Loop shape first condition step body line) = refl
no_place_tests_at s spot k c m w (tree.Switch e cases default ss line) = refl
no_place_tests_at s spot k c m w (tree.Break line) = refl
no_place_tests_at s spot k c m w (tree.Continue line) = refl
no_place_tests_at s spot k c m w (tree.Return e line) = refl

pub no_place_begins_at : (s : Setting) (spot : Spot) (k : List Pending) (c : CopyOf) (m : Memory) (w : World Byte) (t : Statement) → found_for s t (stage_in t stages.Begins) spot k c m w ≡ Lost
no_place_begins_at s spot k c m w (tree.Block ss line) = refl
no_place_begins_at s spot k c m w (tree.Empty line) = refl
no_place_begins_at s spot k c m w (tree.Expr e line) = refl
no_place_begins_at s spot k c m w (tree.Declare local line) = refl
no_place_begins_at s spot k c m w (tree.InitScalar local e line) = refl
no_place_begins_at s spot k c m w (tree.InitList local all line) = refl
no_place_begins_at s spot k c m w (tree.If chain otherwise line) = refl
no_place_begins_at s spot k c m w (tree.Loop shape first condition step body line) = refl
no_place_begins_at s spot k c m w (tree.Switch e cases default ss line) = refl
no_place_begins_at s spot k c m w (tree.Break line) = refl
no_place_begins_at s spot k c m w (tree.Continue line) = refl
no_place_begins_at s spot k c m w (tree.Return e line) = refl

pub no_place_steps_at : (s : Setting) (spot : Spot) (k : List Pending) (c : CopyOf) (m : Memory) (w : World Byte) (t : Statement) → found_for s t (stage_in t stages.Steps) spot k c m w ≡ Lost
no_place_steps_at s spot k c m w (tree.Block ss line) = refl
no_place_steps_at s spot k c m w (tree.Empty line) = refl
no_place_steps_at s spot k c m w (tree.Expr e line) = refl
no_place_steps_at s spot k c m w (tree.Declare local line) = refl
no_place_steps_at s spot k c m w (tree.InitScalar local e line) = refl
no_place_steps_at s spot k c m w (tree.InitList local all line) = refl
no_place_steps_at s spot k c m w (tree.If chain otherwise line) = refl
no_place_steps_at s spot k c m w (tree.Loop shape first condition step body line) = refl
no_place_steps_at s spot k c m w (tree.Switch e cases default ss line) = refl
no_place_steps_at s spot k c m w (tree.Break line) = refl
no_place_steps_at s spot k c m w (tree.Continue line) = refl
no_place_steps_at s spot k c m w (tree.Return e line) = refl

pub no_place_turns_at : (s : Setting) (spot : Spot) (k : List Pending) (c : CopyOf) (m : Memory) (w : World Byte) (t : Statement) → found_for s t (stage_in t stages.Turns) spot k c m w ≡ Lost
no_place_turns_at s spot k c m w (tree.Block ss line) = refl
no_place_turns_at s spot k c m w (tree.Empty line) = refl
no_place_turns_at s spot k c m w (tree.Expr e line) = refl
no_place_turns_at s spot k c m w (tree.Declare local line) = refl
no_place_turns_at s spot k c m w (tree.InitScalar local e line) = refl
no_place_turns_at s spot k c m w (tree.InitList local all line) = refl
no_place_turns_at s spot k c m w (tree.If chain otherwise line) = refl
no_place_turns_at s spot k c m w (tree.Loop shape first condition step body line) = refl
no_place_turns_at s spot k c m w (tree.Switch e cases default ss line) = refl
no_place_turns_at s spot k c m w (tree.Break line) = refl
no_place_turns_at s spot k c m w (tree.Continue line) = refl
no_place_turns_at s spot k c m w (tree.Return e line) = refl

pub no_place_picks_at : (s : Setting) (at : ℕ) (spot : Spot) (k : List Pending) (c : CopyOf) (m : Memory) (w : World Byte) (t : Statement) → found_for s t (stage_in t (stages.Picks at)) spot k c m w ≡ Lost
no_place_picks_at s zero spot k c m w (tree.Block ss line) = refl
no_place_picks_at s (suc n) spot k c m w (tree.Block ss line) = refl
no_place_picks_at s zero spot k c m w (tree.Empty line) = refl
no_place_picks_at s (suc n) spot k c m w (tree.Empty line) = refl
no_place_picks_at s zero spot k c m w (tree.Expr e line) = refl
no_place_picks_at s (suc n) spot k c m w (tree.Expr e line) = refl
no_place_picks_at s zero spot k c m w (tree.Declare local line) = refl
no_place_picks_at s (suc n) spot k c m w (tree.Declare local line) = refl
no_place_picks_at s zero spot k c m w (tree.InitScalar local e line) = refl
no_place_picks_at s (suc n) spot k c m w (tree.InitScalar local e line) = refl
no_place_picks_at s zero spot k c m w (tree.InitList local all line) = refl
no_place_picks_at s (suc n) spot k c m w (tree.InitList local all line) = refl
no_place_picks_at s zero spot k c m w (tree.If chain otherwise line) = no_place_picks s chain otherwise line (arms_from zero chain) spot k c m w
no_place_picks_at s (suc n) spot k c m w (tree.If chain otherwise line) = no_place_picks s chain otherwise line (arms_from (suc n) chain) spot k c m w
no_place_picks_at s zero spot k c m w (tree.Loop shape first condition step body line) = refl
no_place_picks_at s (suc n) spot k c m w (tree.Loop shape first condition step body line) = refl
no_place_picks_at s zero spot k c m w (tree.Switch e cases default ss line) = refl
no_place_picks_at s (suc n) spot k c m w (tree.Switch e cases default ss line) = refl
no_place_picks_at s zero spot k c m w (tree.Break line) = refl
no_place_picks_at s (suc n) spot k c m w (tree.Break line) = refl
no_place_picks_at s zero spot k c m w (tree.Continue line) = refl
no_place_picks_at s (suc n) spot k c m w (tree.Continue line) = refl
no_place_picks_at s zero spot k c m w (tree.Return e line) = refl
no_place_picks_at s (suc n) spot k c m w (tree.Return e line) = refl

pub no_place_in_arm_at : (s : Setting) (at : ℕ) (spot : Spot) (k : List Pending) (c : CopyOf) (m : Memory) (w : World Byte) (t : Statement) → found_for s t (stage_in t (stages.InArm at)) spot k c m w ≡ Lost
no_place_in_arm_at s zero spot k c m w (tree.Block ss line) = refl
no_place_in_arm_at s (suc n) spot k c m w (tree.Block ss line) = refl
no_place_in_arm_at s zero spot k c m w (tree.Empty line) = refl
no_place_in_arm_at s (suc n) spot k c m w (tree.Empty line) = refl
no_place_in_arm_at s zero spot k c m w (tree.Expr e line) = refl
no_place_in_arm_at s (suc n) spot k c m w (tree.Expr e line) = refl
no_place_in_arm_at s zero spot k c m w (tree.Declare local line) = refl
no_place_in_arm_at s (suc n) spot k c m w (tree.Declare local line) = refl
no_place_in_arm_at s zero spot k c m w (tree.InitScalar local e line) = refl
no_place_in_arm_at s (suc n) spot k c m w (tree.InitScalar local e line) = refl
no_place_in_arm_at s zero spot k c m w (tree.InitList local all line) = refl
no_place_in_arm_at s (suc n) spot k c m w (tree.InitList local all line) = refl
no_place_in_arm_at s zero spot k c m w (tree.If chain otherwise line) = refl
no_place_in_arm_at s (suc n) spot k c m w (tree.If chain otherwise line) = refl
no_place_in_arm_at s zero spot k c m w (tree.Loop shape first condition step body line) = refl
no_place_in_arm_at s (suc n) spot k c m w (tree.Loop shape first condition step body line) = refl
no_place_in_arm_at s zero spot k c m w (tree.Switch e cases default ss line) = refl
no_place_in_arm_at s (suc n) spot k c m w (tree.Switch e cases default ss line) = refl
no_place_in_arm_at s zero spot k c m w (tree.Break line) = refl
no_place_in_arm_at s (suc n) spot k c m w (tree.Break line) = refl
no_place_in_arm_at s zero spot k c m w (tree.Continue line) = refl
no_place_in_arm_at s (suc n) spot k c m w (tree.Continue line) = refl
no_place_in_arm_at s zero spot k c m w (tree.Return e line) = refl
no_place_in_arm_at s (suc n) spot k c m w (tree.Return e line) = refl

pub no_place_chooses_at : (s : Setting) (spot : Spot) (k : List Pending) (c : CopyOf) (m : Memory) (w : World Byte) (t : Statement) → found_for s t (stage_in t stages.Chooses) spot k c m w ≡ Lost
no_place_chooses_at s spot k c m w (tree.Block ss line) = refl
no_place_chooses_at s spot k c m w (tree.Empty line) = refl
no_place_chooses_at s spot k c m w (tree.Expr e line) = refl
no_place_chooses_at s spot k c m w (tree.Declare local line) = refl
no_place_chooses_at s spot k c m w (tree.InitScalar local e line) = refl
no_place_chooses_at s spot k c m w (tree.InitList local all line) = refl
no_place_chooses_at s spot k c m w (tree.If chain otherwise line) = refl
no_place_chooses_at s spot k c m w (tree.Loop shape first condition step body line) = refl
no_place_chooses_at s spot k c m w (tree.Switch e cases default ss line) = refl
no_place_chooses_at s spot k c m w (tree.Break line) = refl
no_place_chooses_at s spot k c m w (tree.Continue line) = refl
no_place_chooses_at s spot k c m w (tree.Return e line) = refl

pub no_place_fills_at : (s : Setting) (spot : Spot) (k : List Pending) (c : CopyOf) (m : Memory) (w : World Byte) (t : Statement) → found_for s t (stage_in t stages.Fills) spot k c m w ≡ Lost
no_place_fills_at s spot k c m w (tree.Block ss line) = refl
no_place_fills_at s spot k c m w (tree.Empty line) = refl
no_place_fills_at s spot k c m w (tree.Expr e line) = refl
no_place_fills_at s spot k c m w (tree.Declare local line) = refl
no_place_fills_at s spot k c m w (tree.InitScalar local e line) = refl
no_place_fills_at s spot k c m w (tree.InitList local all line) = refl
no_place_fills_at s spot k c m w (tree.If chain otherwise line) = refl
no_place_fills_at s spot k c m w (tree.Loop shape first condition step body line) = refl
no_place_fills_at s spot k c m w (tree.Switch e cases default ss line) = refl
no_place_fills_at s spot k c m w (tree.Break line) = refl
no_place_fills_at s spot k c m w (tree.Continue line) = refl
no_place_fills_at s spot k c m w (tree.Return e line) = refl

pub no_place_items_at : (s : Setting) (at : ℕ) (spot : Spot) (k : List Pending) (c : CopyOf) (m : Memory) (w : World Byte) (t : Statement) → found_for s t (stage_in t (stages.Items at)) spot k c m w ≡ Lost
no_place_items_at s zero spot k c m w (tree.Block ss line) = refl
no_place_items_at s (suc n) spot k c m w (tree.Block ss line) = refl
no_place_items_at s zero spot k c m w (tree.Empty line) = refl
no_place_items_at s (suc n) spot k c m w (tree.Empty line) = refl
no_place_items_at s zero spot k c m w (tree.Expr e line) = refl
no_place_items_at s (suc n) spot k c m w (tree.Expr e line) = refl
no_place_items_at s zero spot k c m w (tree.Declare local line) = refl
no_place_items_at s (suc n) spot k c m w (tree.Declare local line) = refl
no_place_items_at s zero spot k c m w (tree.InitScalar local e line) = refl
no_place_items_at s (suc n) spot k c m w (tree.InitScalar local e line) = refl
no_place_items_at s zero spot k c m w (tree.InitList local all line) = no_place_items s local all line (drop zero all) spot k c m w
no_place_items_at s (suc n) spot k c m w (tree.InitList local all line) = no_place_items s local all line (drop (suc n) all) spot k c m w
no_place_items_at s zero spot k c m w (tree.If chain otherwise line) = refl
no_place_items_at s (suc n) spot k c m w (tree.If chain otherwise line) = refl
no_place_items_at s zero spot k c m w (tree.Loop shape first condition step body line) = refl
no_place_items_at s (suc n) spot k c m w (tree.Loop shape first condition step body line) = refl
no_place_items_at s zero spot k c m w (tree.Switch e cases default ss line) = refl
no_place_items_at s (suc n) spot k c m w (tree.Switch e cases default ss line) = refl
no_place_items_at s zero spot k c m w (tree.Break line) = refl
no_place_items_at s (suc n) spot k c m w (tree.Break line) = refl
no_place_items_at s zero spot k c m w (tree.Continue line) = refl
no_place_items_at s (suc n) spot k c m w (tree.Continue line) = refl
no_place_items_at s zero spot k c m w (tree.Return e line) = refl
no_place_items_at s (suc n) spot k c m w (tree.Return e line) = refl

pub no_place_blanks_at : (s : Setting) (spot : Spot) (k : List Pending) (c : CopyOf) (m : Memory) (w : World Byte) (t : Statement) → found_for s t (stage_in t stages.Blanks) spot k c m w ≡ Lost
no_place_blanks_at s spot k c m w (tree.Block ss line) = refl
no_place_blanks_at s spot k c m w (tree.Empty line) = refl
no_place_blanks_at s spot k c m w (tree.Expr e line) = refl
no_place_blanks_at s spot k c m w (tree.Declare local line) = refl
no_place_blanks_at s spot k c m w (tree.InitScalar local e line) = refl
no_place_blanks_at s spot k c m w (tree.InitList local all line) = refl
no_place_blanks_at s spot k c m w (tree.If chain otherwise line) = refl
no_place_blanks_at s spot k c m w (tree.Loop shape first condition step body line) = refl
no_place_blanks_at s spot k c m w (tree.Switch e cases default ss line) = refl
no_place_blanks_at s spot k c m w (tree.Break line) = refl
no_place_blanks_at s spot k c m w (tree.Continue line) = refl
no_place_blanks_at s spot k c m w (tree.Return e line) = refl

pub ruleset found_items = (item_found_struct, item_found_scalar, item_found_text, item_found_none)

pub ruleset no_finds = (no_place_tests_at, no_place_begins_at, no_place_steps_at, no_place_turns_at, no_place_picks_at, no_place_in_arm_at, no_place_chooses_at, no_place_fills_at, no_place_items_at, no_place_blanks_at)
