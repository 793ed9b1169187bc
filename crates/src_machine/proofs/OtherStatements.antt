-- What a rule says of every statement but those that it is about.
use Rattle.c_typed.specs.Trees.{Arms}
use Rattle.c_typed.specs.Views.{statement_of}
use Rattle.c_typed.specs.declared.statement.TArm.{TArm}
use Rattle.c_typed.specs.declared.statement.TCase.{TCase}
use Rattle.c_typed.specs.declared.statement.TStmt.TheOpen.{TStmt-F}
use Rattle.c_typed.specs.declared.statement.TStmt.TheViews.{out-TStmt, roll-TStmt, roll-out-TStmt}
use Rattle.c_typed.specs.declared.statement.TStmt.{TStmt}
use Rattle.pic_world.specs.World.{World}
use Rattle.src_machine.proofs.Gives.{arm_taken_block, arm_taken_break, arm_taken_continue, arm_taken_declare, arm_taken_empty, arm_taken_expr, arm_taken_init_list, arm_taken_init_scalar, arm_taken_loop, arm_taken_return, arm_taken_switch, begins_block, begins_break, begins_continue, begins_declare, begins_empty, begins_expr, begins_if, begins_init_list, begins_init_scalar, begins_return, begins_switch, item_taken_block, item_taken_break, item_taken_continue, item_taken_declare, item_taken_empty, item_taken_expr, item_taken_if, item_taken_init_scalar, item_taken_loop, item_taken_return, item_taken_switch, labels_block, labels_break, labels_continue, labels_declare, labels_empty, labels_expr, labels_if, labels_init_list, labels_init_scalar, labels_loop, labels_return, steps_block, steps_break, steps_continue, steps_declare, steps_empty, steps_expr, steps_if, steps_init_list, steps_init_scalar, steps_return, steps_switch, tests_block, tests_break, tests_continue, tests_declare, tests_empty, tests_if, tests_init_list}
use Rattle.src_machine.proofs.Items.{item_found_block, item_found_break, item_found_continue, item_found_declare, item_found_empty, item_found_expr, item_found_if, item_found_init_scalar, item_found_loop, item_found_return, item_found_switch}
use Rattle.src_machine.proofs.Scalars.{is_scalar_block, is_scalar_break, is_scalar_continue, is_scalar_declare, is_scalar_empty, is_scalar_expr, is_scalar_if, is_scalar_init_list, is_scalar_loop, is_scalar_return, is_scalar_switch}
use Rattle.src_machine.proofs.Turns.{arm_ends_block, arm_ends_break, arm_ends_continue, arm_ends_declare, arm_ends_empty, arm_ends_expr, arm_ends_init_list, arm_ends_init_scalar, arm_ends_loop, arm_ends_return, arm_ends_switch, turns_block, turns_break, turns_continue, turns_declare, turns_empty, turns_expr, turns_if, turns_init_list, turns_init_scalar, turns_return}
use Rattle.src_machine.specs.Seen.{is_scalar}
use Rattle.src_rules.specs.Accesses.{items}
use Rattle.src_rules.specs.Expressions.{found_for}
use Rattle.src_rules.specs.Giving.{compares_for, take_for}
use Rattle.src_rules.specs.State.{Lost}
use Rattle.src_rules.specs.Statements.{arms, begin, turned}
use Rattle.src_values.specs.Control.{Begins, Chooses, InArm, Pending, Steps, Tests, Turns}
use Rattle.src_values.specs.Data.{Datum}
use Rattle.src_values.specs.Memory.{Memory, Setting}
use Rattle.src_values.specs.Seen.{stage_in}
use Rattle.src_values.specs.declared.objects.Byte.{Byte}
use Rattle.src_values.specs.declared.objects.CopyOf.{CopyOf}
use Rattle.src_values.specs.declared.objects.Spot.{Spot}
use Rattle.std.proofs.Common.{List, ap, false, sym, ℕ, ◌∙◌, ◌≡◌}
use Rattle.c_typed.specs.declared.statement.TStmt.TheOpen as OpenStmt
use Rattle.c_typed.specs.declared.statement.TStmt.TheVariants as TStmt
use Rattle.src_values.specs.declared.control.Stage.TheVariants as stages

begins_lost_layer : (l : TStmt-F TStmt TArm) (e : TStmt) → roll-TStmt l ≡ e → ((shape : _) (begin : _) (condition : _) (step : _) (body : _) (line : _) → e ≡ TStmt.Loop shape begin condition step body line → ⊥) → (s : Setting) (v : Datum) (k : List Pending) (c : CopyOf) (m : Memory) (w : World Byte) → take_for s (statement_of e) Begins v k c m w ≡ Lost
begins_lost_layer (OpenStmt.Block statements line) e is no_loop s v k c m w = ap (λ e. take_for s (statement_of e) Begins v k c m w) (sym is ∙ TStmt.rolls-Block statements line) ∙ begins_block s statements line v k c m w
begins_lost_layer (OpenStmt.Empty line) e is no_loop s v k c m w = ap (λ e. take_for s (statement_of e) Begins v k c m w) (sym is ∙ TStmt.rolls-Empty line) ∙ begins_empty s line v k c m w
begins_lost_layer (OpenStmt.Expr value line) e is no_loop s v k c m w = ap (λ e. take_for s (statement_of e) Begins v k c m w) (sym is ∙ TStmt.rolls-Expr value line) ∙ begins_expr s value line v k c m w
begins_lost_layer (OpenStmt.Declare local line) e is no_loop s v k c m w = ap (λ e. take_for s (statement_of e) Begins v k c m w) (sym is ∙ TStmt.rolls-Declare local line) ∙ begins_declare s local line v k c m w
begins_lost_layer (OpenStmt.InitScalar local value line) e is no_loop s v k c m w = ap (λ e. take_for s (statement_of e) Begins v k c m w) (sym is ∙ TStmt.rolls-InitScalar local value line) ∙ begins_init_scalar s local value line v k c m w
begins_lost_layer (OpenStmt.InitList local items line) e is no_loop s v k c m w = ap (λ e. take_for s (statement_of e) Begins v k c m w) (sym is ∙ TStmt.rolls-InitList local items line) ∙ begins_init_list s local items line v k c m w
begins_lost_layer (OpenStmt.If arms otherwise line) e is no_loop s v k c m w = ap (λ e. take_for s (statement_of e) Begins v k c m w) (sym is ∙ TStmt.rolls-If arms otherwise line) ∙ begins_if s arms otherwise line v k c m w
begins_lost_layer (OpenStmt.Loop x0 x1 x2 x3 x4 x5) e is no_loop s v k c m w = absurd (no_loop x0 x1 x2 x3 x4 x5 (sym is ∙ TStmt.rolls-Loop x0 x1 x2 x3 x4 x5))
begins_lost_layer (OpenStmt.Switch value cases default statements line) e is no_loop s v k c m w = ap (λ e. take_for s (statement_of e) Begins v k c m w) (sym is ∙ TStmt.rolls-Switch value cases default statements line) ∙ begins_switch s value cases default statements line v k c m w
begins_lost_layer (OpenStmt.Break line) e is no_loop s v k c m w = ap (λ e. take_for s (statement_of e) Begins v k c m w) (sym is ∙ TStmt.rolls-Break line) ∙ begins_break s line v k c m w
begins_lost_layer (OpenStmt.Continue line) e is no_loop s v k c m w = ap (λ e. take_for s (statement_of e) Begins v k c m w) (sym is ∙ TStmt.rolls-Continue line) ∙ begins_continue s line v k c m w
begins_lost_layer (OpenStmt.Return value line) e is no_loop s v k c m w = ap (λ e. take_for s (statement_of e) Begins v k c m w) (sym is ∙ TStmt.rolls-Return value line) ∙ begins_return s value line v k c m w

pub begins_lost : (e : TStmt) → ((shape : _) (begin : _) (condition : _) (step : _) (body : _) (line : _) → e ≡ TStmt.Loop shape begin condition step body line → ⊥) → (s : Setting) (v : Datum) (k : List Pending) (c : CopyOf) (m : Memory) (w : World Byte) → take_for s (statement_of e) Begins v k c m w ≡ Lost
begins_lost e no_loop s v k c m w = begins_lost_layer (out-TStmt e) e (roll-out-TStmt e) no_loop s v k c m w

steps_lost_layer : (l : TStmt-F TStmt TArm) (e : TStmt) → roll-TStmt l ≡ e → ((shape : _) (begin : _) (condition : _) (step : _) (body : _) (line : _) → e ≡ TStmt.Loop shape begin condition step body line → ⊥) → (s : Setting) (v : Datum) (k : List Pending) (c : CopyOf) (m : Memory) (w : World Byte) → take_for s (statement_of e) Steps v k c m w ≡ Lost
steps_lost_layer (OpenStmt.Block statements line) e is no_loop s v k c m w = ap (λ e. take_for s (statement_of e) Steps v k c m w) (sym is ∙ TStmt.rolls-Block statements line) ∙ steps_block s statements line v k c m w
steps_lost_layer (OpenStmt.Empty line) e is no_loop s v k c m w = ap (λ e. take_for s (statement_of e) Steps v k c m w) (sym is ∙ TStmt.rolls-Empty line) ∙ steps_empty s line v k c m w
steps_lost_layer (OpenStmt.Expr value line) e is no_loop s v k c m w = ap (λ e. take_for s (statement_of e) Steps v k c m w) (sym is ∙ TStmt.rolls-Expr value line) ∙ steps_expr s value line v k c m w
steps_lost_layer (OpenStmt.Declare local line) e is no_loop s v k c m w = ap (λ e. take_for s (statement_of e) Steps v k c m w) (sym is ∙ TStmt.rolls-Declare local line) ∙ steps_declare s local line v k c m w
steps_lost_layer (OpenStmt.InitScalar local value line) e is no_loop s v k c m w = ap (λ e. take_for s (statement_of e) Steps v k c m w) (sym is ∙ TStmt.rolls-InitScalar local value line) ∙ steps_init_scalar s local value line v k c m w
steps_lost_layer (OpenStmt.InitList local items line) e is no_loop s v k c m w = ap (λ e. take_for s (statement_of e) Steps v k c m w) (sym is ∙ TStmt.rolls-InitList local items line) ∙ steps_init_list s local items line v k c m w
steps_lost_layer (OpenStmt.If arms otherwise line) e is no_loop s v k c m w = ap (λ e. take_for s (statement_of e) Steps v k c m w) (sym is ∙ TStmt.rolls-If arms otherwise line) ∙ steps_if s arms otherwise line v k c m w
steps_lost_layer (OpenStmt.Loop x0 x1 x2 x3 x4 x5) e is no_loop s v k c m w = absurd (no_loop x0 x1 x2 x3 x4 x5 (sym is ∙ TStmt.rolls-Loop x0 x1 x2 x3 x4 x5))
steps_lost_layer (OpenStmt.Switch value cases default statements line) e is no_loop s v k c m w = ap (λ e. take_for s (statement_of e) Steps v k c m w) (sym is ∙ TStmt.rolls-Switch value cases default statements line) ∙ steps_switch s value cases default statements line v k c m w
steps_lost_layer (OpenStmt.Break line) e is no_loop s v k c m w = ap (λ e. take_for s (statement_of e) Steps v k c m w) (sym is ∙ TStmt.rolls-Break line) ∙ steps_break s line v k c m w
steps_lost_layer (OpenStmt.Continue line) e is no_loop s v k c m w = ap (λ e. take_for s (statement_of e) Steps v k c m w) (sym is ∙ TStmt.rolls-Continue line) ∙ steps_continue s line v k c m w
steps_lost_layer (OpenStmt.Return value line) e is no_loop s v k c m w = ap (λ e. take_for s (statement_of e) Steps v k c m w) (sym is ∙ TStmt.rolls-Return value line) ∙ steps_return s value line v k c m w

pub steps_lost : (e : TStmt) → ((shape : _) (begin : _) (condition : _) (step : _) (body : _) (line : _) → e ≡ TStmt.Loop shape begin condition step body line → ⊥) → (s : Setting) (v : Datum) (k : List Pending) (c : CopyOf) (m : Memory) (w : World Byte) → take_for s (statement_of e) Steps v k c m w ≡ Lost
steps_lost e no_loop s v k c m w = steps_lost_layer (out-TStmt e) e (roll-out-TStmt e) no_loop s v k c m w

arm_taken_lost_layer : (l : TStmt-F TStmt TArm) (e : TStmt) → roll-TStmt l ≡ e → ((arms : _) (otherwise : _) (line : _) → e ≡ TStmt.If arms otherwise line → ⊥) → (s : Setting) (at : ℕ) (v : Datum) (k : List Pending) (c : CopyOf) (m : Memory) (w : World Byte) → take_for s (statement_of e) (stage_in (statement_of e) (stages.Picks at)) v k c m w ≡ Lost
arm_taken_lost_layer (OpenStmt.Block statements line) e is no_if s at v k c m w = ap (λ e. take_for s (statement_of e) (stage_in (statement_of e) (stages.Picks at)) v k c m w) (sym is ∙ TStmt.rolls-Block statements line) ∙ arm_taken_block s statements line at v k c m w
arm_taken_lost_layer (OpenStmt.Empty line) e is no_if s at v k c m w = ap (λ e. take_for s (statement_of e) (stage_in (statement_of e) (stages.Picks at)) v k c m w) (sym is ∙ TStmt.rolls-Empty line) ∙ arm_taken_empty s line at v k c m w
arm_taken_lost_layer (OpenStmt.Expr value line) e is no_if s at v k c m w = ap (λ e. take_for s (statement_of e) (stage_in (statement_of e) (stages.Picks at)) v k c m w) (sym is ∙ TStmt.rolls-Expr value line) ∙ arm_taken_expr s value line at v k c m w
arm_taken_lost_layer (OpenStmt.Declare local line) e is no_if s at v k c m w = ap (λ e. take_for s (statement_of e) (stage_in (statement_of e) (stages.Picks at)) v k c m w) (sym is ∙ TStmt.rolls-Declare local line) ∙ arm_taken_declare s local line at v k c m w
arm_taken_lost_layer (OpenStmt.InitScalar local value line) e is no_if s at v k c m w = ap (λ e. take_for s (statement_of e) (stage_in (statement_of e) (stages.Picks at)) v k c m w) (sym is ∙ TStmt.rolls-InitScalar local value line) ∙ arm_taken_init_scalar s local value line at v k c m w
arm_taken_lost_layer (OpenStmt.InitList local items line) e is no_if s at v k c m w = ap (λ e. take_for s (statement_of e) (stage_in (statement_of e) (stages.Picks at)) v k c m w) (sym is ∙ TStmt.rolls-InitList local items line) ∙ arm_taken_init_list s local items line at v k c m w
arm_taken_lost_layer (OpenStmt.If x0 x1 x2) e is no_if s at v k c m w = absurd (no_if x0 x1 x2 (sym is ∙ TStmt.rolls-If x0 x1 x2))
arm_taken_lost_layer (OpenStmt.Loop shape begin condition step body line) e is no_if s at v k c m w = ap (λ e. take_for s (statement_of e) (stage_in (statement_of e) (stages.Picks at)) v k c m w) (sym is ∙ TStmt.rolls-Loop shape begin condition step body line) ∙ arm_taken_loop s shape begin condition step body line at v k c m w
arm_taken_lost_layer (OpenStmt.Switch value cases default statements line) e is no_if s at v k c m w = ap (λ e. take_for s (statement_of e) (stage_in (statement_of e) (stages.Picks at)) v k c m w) (sym is ∙ TStmt.rolls-Switch value cases default statements line) ∙ arm_taken_switch s value cases default statements line at v k c m w
arm_taken_lost_layer (OpenStmt.Break line) e is no_if s at v k c m w = ap (λ e. take_for s (statement_of e) (stage_in (statement_of e) (stages.Picks at)) v k c m w) (sym is ∙ TStmt.rolls-Break line) ∙ arm_taken_break s line at v k c m w
arm_taken_lost_layer (OpenStmt.Continue line) e is no_if s at v k c m w = ap (λ e. take_for s (statement_of e) (stage_in (statement_of e) (stages.Picks at)) v k c m w) (sym is ∙ TStmt.rolls-Continue line) ∙ arm_taken_continue s line at v k c m w
arm_taken_lost_layer (OpenStmt.Return value line) e is no_if s at v k c m w = ap (λ e. take_for s (statement_of e) (stage_in (statement_of e) (stages.Picks at)) v k c m w) (sym is ∙ TStmt.rolls-Return value line) ∙ arm_taken_return s value line at v k c m w

pub arm_taken_lost : (e : TStmt) → ((arms : _) (otherwise : _) (line : _) → e ≡ TStmt.If arms otherwise line → ⊥) → (s : Setting) (at : ℕ) (v : Datum) (k : List Pending) (c : CopyOf) (m : Memory) (w : World Byte) → take_for s (statement_of e) (stage_in (statement_of e) (stages.Picks at)) v k c m w ≡ Lost
arm_taken_lost e no_if s at v k c m w = arm_taken_lost_layer (out-TStmt e) e (roll-out-TStmt e) no_if s at v k c m w

item_taken_lost_layer : (l : TStmt-F TStmt TArm) (e : TStmt) → roll-TStmt l ≡ e → ((local : _) (items : _) (line : _) → e ≡ TStmt.InitList local items line → ⊥) → (s : Setting) (at : ℕ) (v : Datum) (k : List Pending) (c : CopyOf) (m : Memory) (w : World Byte) → take_for s (statement_of e) (stage_in (statement_of e) (stages.AtItem at)) v k c m w ≡ Lost
item_taken_lost_layer (OpenStmt.Block statements line) e is no_initlist s at v k c m w = ap (λ e. take_for s (statement_of e) (stage_in (statement_of e) (stages.AtItem at)) v k c m w) (sym is ∙ TStmt.rolls-Block statements line) ∙ item_taken_block s statements line at v k c m w
item_taken_lost_layer (OpenStmt.Empty line) e is no_initlist s at v k c m w = ap (λ e. take_for s (statement_of e) (stage_in (statement_of e) (stages.AtItem at)) v k c m w) (sym is ∙ TStmt.rolls-Empty line) ∙ item_taken_empty s line at v k c m w
item_taken_lost_layer (OpenStmt.Expr value line) e is no_initlist s at v k c m w = ap (λ e. take_for s (statement_of e) (stage_in (statement_of e) (stages.AtItem at)) v k c m w) (sym is ∙ TStmt.rolls-Expr value line) ∙ item_taken_expr s value line at v k c m w
item_taken_lost_layer (OpenStmt.Declare local line) e is no_initlist s at v k c m w = ap (λ e. take_for s (statement_of e) (stage_in (statement_of e) (stages.AtItem at)) v k c m w) (sym is ∙ TStmt.rolls-Declare local line) ∙ item_taken_declare s local line at v k c m w
item_taken_lost_layer (OpenStmt.InitScalar local value line) e is no_initlist s at v k c m w = ap (λ e. take_for s (statement_of e) (stage_in (statement_of e) (stages.AtItem at)) v k c m w) (sym is ∙ TStmt.rolls-InitScalar local value line) ∙ item_taken_init_scalar s local value line at v k c m w
item_taken_lost_layer (OpenStmt.InitList x0 x1 x2) e is no_initlist s at v k c m w = absurd (no_initlist x0 x1 x2 (sym is ∙ TStmt.rolls-InitList x0 x1 x2))
item_taken_lost_layer (OpenStmt.If arms otherwise line) e is no_initlist s at v k c m w = ap (λ e. take_for s (statement_of e) (stage_in (statement_of e) (stages.AtItem at)) v k c m w) (sym is ∙ TStmt.rolls-If arms otherwise line) ∙ item_taken_if s arms otherwise line at v k c m w
item_taken_lost_layer (OpenStmt.Loop shape begin condition step body line) e is no_initlist s at v k c m w = ap (λ e. take_for s (statement_of e) (stage_in (statement_of e) (stages.AtItem at)) v k c m w) (sym is ∙ TStmt.rolls-Loop shape begin condition step body line) ∙ item_taken_loop s shape begin condition step body line at v k c m w
item_taken_lost_layer (OpenStmt.Switch value cases default statements line) e is no_initlist s at v k c m w = ap (λ e. take_for s (statement_of e) (stage_in (statement_of e) (stages.AtItem at)) v k c m w) (sym is ∙ TStmt.rolls-Switch value cases default statements line) ∙ item_taken_switch s value cases default statements line at v k c m w
item_taken_lost_layer (OpenStmt.Break line) e is no_initlist s at v k c m w = ap (λ e. take_for s (statement_of e) (stage_in (statement_of e) (stages.AtItem at)) v k c m w) (sym is ∙ TStmt.rolls-Break line) ∙ item_taken_break s line at v k c m w
item_taken_lost_layer (OpenStmt.Continue line) e is no_initlist s at v k c m w = ap (λ e. take_for s (statement_of e) (stage_in (statement_of e) (stages.AtItem at)) v k c m w) (sym is ∙ TStmt.rolls-Continue line) ∙ item_taken_continue s line at v k c m w
item_taken_lost_layer (OpenStmt.Return value line) e is no_initlist s at v k c m w = ap (λ e. take_for s (statement_of e) (stage_in (statement_of e) (stages.AtItem at)) v k c m w) (sym is ∙ TStmt.rolls-Return value line) ∙ item_taken_return s value line at v k c m w

pub item_taken_lost : (e : TStmt) → ((local : _) (items : _) (line : _) → e ≡ TStmt.InitList local items line → ⊥) → (s : Setting) (at : ℕ) (v : Datum) (k : List Pending) (c : CopyOf) (m : Memory) (w : World Byte) → take_for s (statement_of e) (stage_in (statement_of e) (stages.AtItem at)) v k c m w ≡ Lost
item_taken_lost e no_initlist s at v k c m w = item_taken_lost_layer (out-TStmt e) e (roll-out-TStmt e) no_initlist s at v k c m w

tests_lost_layer : (l : TStmt-F TStmt TArm) (e : TStmt) → roll-TStmt l ≡ e → ((value : _) (line : _) → e ≡ TStmt.Expr value line → ⊥) → ((local : _) (value : _) (line : _) → e ≡ TStmt.InitScalar local value line → ⊥) → ((shape : _) (begin : _) (condition : _) (step : _) (body : _) (line : _) → e ≡ TStmt.Loop shape begin condition step body line → ⊥) → ((value : _) (cases : _) (default : _) (statements : _) (line : _) → e ≡ TStmt.Switch value cases default statements line → ⊥) → ((value : _) (line : _) → e ≡ TStmt.Return value line → ⊥) → (s : Setting) (v : Datum) (k : List Pending) (c : CopyOf) (m : Memory) (w : World Byte) → take_for s (statement_of e) Tests v k c m w ≡ Lost
tests_lost_layer (OpenStmt.Block statements line) e is no_expr no_initscalar no_loop no_switch no_return s v k c m w = ap (λ e. take_for s (statement_of e) Tests v k c m w) (sym is ∙ TStmt.rolls-Block statements line) ∙ tests_block s statements line v k c m w
tests_lost_layer (OpenStmt.Empty line) e is no_expr no_initscalar no_loop no_switch no_return s v k c m w = ap (λ e. take_for s (statement_of e) Tests v k c m w) (sym is ∙ TStmt.rolls-Empty line) ∙ tests_empty s line v k c m w
tests_lost_layer (OpenStmt.Expr x0 x1) e is no_expr no_initscalar no_loop no_switch no_return s v k c m w = absurd (no_expr x0 x1 (sym is ∙ TStmt.rolls-Expr x0 x1))
tests_lost_layer (OpenStmt.Declare local line) e is no_expr no_initscalar no_loop no_switch no_return s v k c m w = ap (λ e. take_for s (statement_of e) Tests v k c m w) (sym is ∙ TStmt.rolls-Declare local line) ∙ tests_declare s local line v k c m w
tests_lost_layer (OpenStmt.InitScalar x0 x1 x2) e is no_expr no_initscalar no_loop no_switch no_return s v k c m w = absurd (no_initscalar x0 x1 x2 (sym is ∙ TStmt.rolls-InitScalar x0 x1 x2))
tests_lost_layer (OpenStmt.InitList local items line) e is no_expr no_initscalar no_loop no_switch no_return s v k c m w = ap (λ e. take_for s (statement_of e) Tests v k c m w) (sym is ∙ TStmt.rolls-InitList local items line) ∙ tests_init_list s local items line v k c m w
tests_lost_layer (OpenStmt.If arms otherwise line) e is no_expr no_initscalar no_loop no_switch no_return s v k c m w = ap (λ e. take_for s (statement_of e) Tests v k c m w) (sym is ∙ TStmt.rolls-If arms otherwise line) ∙ tests_if s arms otherwise line v k c m w
tests_lost_layer (OpenStmt.Loop x0 x1 x2 x3 x4 x5) e is no_expr no_initscalar no_loop no_switch no_return s v k c m w = absurd (no_loop x0 x1 x2 x3 x4 x5 (sym is ∙ TStmt.rolls-Loop x0 x1 x2 x3 x4 x5))
tests_lost_layer (OpenStmt.Switch x0 x1 x2 x3 x4) e is no_expr no_initscalar no_loop no_switch no_return s v k c m w = absurd (no_switch x0 x1 x2 x3 x4 (sym is ∙ TStmt.rolls-Switch x0 x1 x2 x3 x4))
tests_lost_layer (OpenStmt.Break line) e is no_expr no_initscalar no_loop no_switch no_return s v k c m w = ap (λ e. take_for s (statement_of e) Tests v k c m w) (sym is ∙ TStmt.rolls-Break line) ∙ tests_break s line v k c m w
tests_lost_layer (OpenStmt.Continue line) e is no_expr no_initscalar no_loop no_switch no_return s v k c m w = ap (λ e. take_for s (statement_of e) Tests v k c m w) (sym is ∙ TStmt.rolls-Continue line) ∙ tests_continue s line v k c m w
tests_lost_layer (OpenStmt.Return x0 x1) e is no_expr no_initscalar no_loop no_switch no_return s v k c m w = absurd (no_return x0 x1 (sym is ∙ TStmt.rolls-Return x0 x1))

pub tests_lost : (e : TStmt) → ((value : _) (line : _) → e ≡ TStmt.Expr value line → ⊥) → ((local : _) (value : _) (line : _) → e ≡ TStmt.InitScalar local value line → ⊥) → ((shape : _) (begin : _) (condition : _) (step : _) (body : _) (line : _) → e ≡ TStmt.Loop shape begin condition step body line → ⊥) → ((value : _) (cases : _) (default : _) (statements : _) (line : _) → e ≡ TStmt.Switch value cases default statements line → ⊥) → ((value : _) (line : _) → e ≡ TStmt.Return value line → ⊥) → (s : Setting) (v : Datum) (k : List Pending) (c : CopyOf) (m : Memory) (w : World Byte) → take_for s (statement_of e) Tests v k c m w ≡ Lost
tests_lost e no_expr no_initscalar no_loop no_switch no_return s v k c m w = tests_lost_layer (out-TStmt e) e (roll-out-TStmt e) no_expr no_initscalar no_loop no_switch no_return s v k c m w

labels_lost_layer : (l : TStmt-F TStmt TArm) (e : TStmt) → roll-TStmt l ≡ e → ((value : _) (cases : _) (default : _) (statements : _) (line : _) → e ≡ TStmt.Switch value cases default statements line → ⊥) → (v : Datum) (labels : List TCase) (k : List Pending) (c : CopyOf) (m : Memory) (w : World Byte) → compares_for (statement_of e) Chooses v labels k c m w ≡ Lost
labels_lost_layer (OpenStmt.Block statements line) e is no_switch v labels k c m w = ap (λ e. compares_for (statement_of e) Chooses v labels k c m w) (sym is ∙ TStmt.rolls-Block statements line) ∙ labels_block statements line v labels k c m w
labels_lost_layer (OpenStmt.Empty line) e is no_switch v labels k c m w = ap (λ e. compares_for (statement_of e) Chooses v labels k c m w) (sym is ∙ TStmt.rolls-Empty line) ∙ labels_empty line v labels k c m w
labels_lost_layer (OpenStmt.Expr value line) e is no_switch v labels k c m w = ap (λ e. compares_for (statement_of e) Chooses v labels k c m w) (sym is ∙ TStmt.rolls-Expr value line) ∙ labels_expr value line v labels k c m w
labels_lost_layer (OpenStmt.Declare local line) e is no_switch v labels k c m w = ap (λ e. compares_for (statement_of e) Chooses v labels k c m w) (sym is ∙ TStmt.rolls-Declare local line) ∙ labels_declare local line v labels k c m w
labels_lost_layer (OpenStmt.InitScalar local value line) e is no_switch v labels k c m w = ap (λ e. compares_for (statement_of e) Chooses v labels k c m w) (sym is ∙ TStmt.rolls-InitScalar local value line) ∙ labels_init_scalar local value line v labels k c m w
labels_lost_layer (OpenStmt.InitList local items line) e is no_switch v labels k c m w = ap (λ e. compares_for (statement_of e) Chooses v labels k c m w) (sym is ∙ TStmt.rolls-InitList local items line) ∙ labels_init_list local items line v labels k c m w
labels_lost_layer (OpenStmt.If arms otherwise line) e is no_switch v labels k c m w = ap (λ e. compares_for (statement_of e) Chooses v labels k c m w) (sym is ∙ TStmt.rolls-If arms otherwise line) ∙ labels_if arms otherwise line v labels k c m w
labels_lost_layer (OpenStmt.Loop shape begin condition step body line) e is no_switch v labels k c m w = ap (λ e. compares_for (statement_of e) Chooses v labels k c m w) (sym is ∙ TStmt.rolls-Loop shape begin condition step body line) ∙ labels_loop shape begin condition step body line v labels k c m w
labels_lost_layer (OpenStmt.Switch x0 x1 x2 x3 x4) e is no_switch v labels k c m w = absurd (no_switch x0 x1 x2 x3 x4 (sym is ∙ TStmt.rolls-Switch x0 x1 x2 x3 x4))
labels_lost_layer (OpenStmt.Break line) e is no_switch v labels k c m w = ap (λ e. compares_for (statement_of e) Chooses v labels k c m w) (sym is ∙ TStmt.rolls-Break line) ∙ labels_break line v labels k c m w
labels_lost_layer (OpenStmt.Continue line) e is no_switch v labels k c m w = ap (λ e. compares_for (statement_of e) Chooses v labels k c m w) (sym is ∙ TStmt.rolls-Continue line) ∙ labels_continue line v labels k c m w
labels_lost_layer (OpenStmt.Return value line) e is no_switch v labels k c m w = ap (λ e. compares_for (statement_of e) Chooses v labels k c m w) (sym is ∙ TStmt.rolls-Return value line) ∙ labels_return value line v labels k c m w

pub labels_lost : (e : TStmt) → ((value : _) (cases : _) (default : _) (statements : _) (line : _) → e ≡ TStmt.Switch value cases default statements line → ⊥) → (v : Datum) (labels : List TCase) (k : List Pending) (c : CopyOf) (m : Memory) (w : World Byte) → compares_for (statement_of e) Chooses v labels k c m w ≡ Lost
labels_lost e no_switch v labels k c m w = labels_lost_layer (out-TStmt e) e (roll-out-TStmt e) no_switch v labels k c m w

item_found_lost_layer : (l : TStmt-F TStmt TArm) (e : TStmt) → roll-TStmt l ≡ e → ((local : _) (items : _) (line : _) → e ≡ TStmt.InitList local items line → ⊥) → (s : Setting) (at : ℕ) (spot : Spot) (k : List Pending) (c : CopyOf) (m : Memory) (w : World Byte) → found_for s (statement_of e) (stage_in (statement_of e) (stages.AtItem at)) spot k c m w ≡ Lost
item_found_lost_layer (OpenStmt.Block statements line) e is no_initlist s at spot k c m w = ap (λ e. found_for s (statement_of e) (stage_in (statement_of e) (stages.AtItem at)) spot k c m w) (sym is ∙ TStmt.rolls-Block statements line) ∙ item_found_block s statements line at spot k c m w
item_found_lost_layer (OpenStmt.Empty line) e is no_initlist s at spot k c m w = ap (λ e. found_for s (statement_of e) (stage_in (statement_of e) (stages.AtItem at)) spot k c m w) (sym is ∙ TStmt.rolls-Empty line) ∙ item_found_empty s line at spot k c m w
item_found_lost_layer (OpenStmt.Expr value line) e is no_initlist s at spot k c m w = ap (λ e. found_for s (statement_of e) (stage_in (statement_of e) (stages.AtItem at)) spot k c m w) (sym is ∙ TStmt.rolls-Expr value line) ∙ item_found_expr s value line at spot k c m w
item_found_lost_layer (OpenStmt.Declare local line) e is no_initlist s at spot k c m w = ap (λ e. found_for s (statement_of e) (stage_in (statement_of e) (stages.AtItem at)) spot k c m w) (sym is ∙ TStmt.rolls-Declare local line) ∙ item_found_declare s local line at spot k c m w
item_found_lost_layer (OpenStmt.InitScalar local value line) e is no_initlist s at spot k c m w = ap (λ e. found_for s (statement_of e) (stage_in (statement_of e) (stages.AtItem at)) spot k c m w) (sym is ∙ TStmt.rolls-InitScalar local value line) ∙ item_found_init_scalar s local value line at spot k c m w
item_found_lost_layer (OpenStmt.InitList x0 x1 x2) e is no_initlist s at spot k c m w = absurd (no_initlist x0 x1 x2 (sym is ∙ TStmt.rolls-InitList x0 x1 x2))
item_found_lost_layer (OpenStmt.If arms otherwise line) e is no_initlist s at spot k c m w = ap (λ e. found_for s (statement_of e) (stage_in (statement_of e) (stages.AtItem at)) spot k c m w) (sym is ∙ TStmt.rolls-If arms otherwise line) ∙ item_found_if s arms otherwise line at spot k c m w
item_found_lost_layer (OpenStmt.Loop shape begin condition step body line) e is no_initlist s at spot k c m w = ap (λ e. found_for s (statement_of e) (stage_in (statement_of e) (stages.AtItem at)) spot k c m w) (sym is ∙ TStmt.rolls-Loop shape begin condition step body line) ∙ item_found_loop s shape begin condition step body line at spot k c m w
item_found_lost_layer (OpenStmt.Switch value cases default statements line) e is no_initlist s at spot k c m w = ap (λ e. found_for s (statement_of e) (stage_in (statement_of e) (stages.AtItem at)) spot k c m w) (sym is ∙ TStmt.rolls-Switch value cases default statements line) ∙ item_found_switch s value cases default statements line at spot k c m w
item_found_lost_layer (OpenStmt.Break line) e is no_initlist s at spot k c m w = ap (λ e. found_for s (statement_of e) (stage_in (statement_of e) (stages.AtItem at)) spot k c m w) (sym is ∙ TStmt.rolls-Break line) ∙ item_found_break s line at spot k c m w
item_found_lost_layer (OpenStmt.Continue line) e is no_initlist s at spot k c m w = ap (λ e. found_for s (statement_of e) (stage_in (statement_of e) (stages.AtItem at)) spot k c m w) (sym is ∙ TStmt.rolls-Continue line) ∙ item_found_continue s line at spot k c m w
item_found_lost_layer (OpenStmt.Return value line) e is no_initlist s at spot k c m w = ap (λ e. found_for s (statement_of e) (stage_in (statement_of e) (stages.AtItem at)) spot k c m w) (sym is ∙ TStmt.rolls-Return value line) ∙ item_found_return s value line at spot k c m w

pub item_found_lost : (e : TStmt) → ((local : _) (items : _) (line : _) → e ≡ TStmt.InitList local items line → ⊥) → (s : Setting) (at : ℕ) (spot : Spot) (k : List Pending) (c : CopyOf) (m : Memory) (w : World Byte) → found_for s (statement_of e) (stage_in (statement_of e) (stages.AtItem at)) spot k c m w ≡ Lost
item_found_lost e no_initlist s at spot k c m w = item_found_lost_layer (out-TStmt e) e (roll-out-TStmt e) no_initlist s at spot k c m w

turns_lost_layer : (l : TStmt-F TStmt TArm) (e : TStmt) → roll-TStmt l ≡ e → ((shape : _) (begin : _) (condition : _) (step : _) (body : _) (line : _) → e ≡ TStmt.Loop shape begin condition step body line → ⊥) → ((value : _) (cases : _) (default : _) (statements : _) (line : _) → e ≡ TStmt.Switch value cases default statements line → ⊥) → (k : List Pending) (c : CopyOf) (m : Memory) (w : World Byte) → turned (statement_of e) Turns k c m w ≡ Lost
turns_lost_layer (OpenStmt.Block ss line) e is no_loop no_switch k c m w = ap (λ e. turned (statement_of e) Turns k c m w) (sym is ∙ TStmt.rolls-Block ss line) ∙ turns_block ss line k c m w
turns_lost_layer (OpenStmt.Empty line) e is no_loop no_switch k c m w = ap (λ e. turned (statement_of e) Turns k c m w) (sym is ∙ TStmt.rolls-Empty line) ∙ turns_empty line k c m w
turns_lost_layer (OpenStmt.Expr value line) e is no_loop no_switch k c m w = ap (λ e. turned (statement_of e) Turns k c m w) (sym is ∙ TStmt.rolls-Expr value line) ∙ turns_expr value line k c m w
turns_lost_layer (OpenStmt.Declare local line) e is no_loop no_switch k c m w = ap (λ e. turned (statement_of e) Turns k c m w) (sym is ∙ TStmt.rolls-Declare local line) ∙ turns_declare local line k c m w
turns_lost_layer (OpenStmt.InitScalar local value line) e is no_loop no_switch k c m w = ap (λ e. turned (statement_of e) Turns k c m w) (sym is ∙ TStmt.rolls-InitScalar local value line) ∙ turns_init_scalar local value line k c m w
turns_lost_layer (OpenStmt.InitList local all line) e is no_loop no_switch k c m w = ap (λ e. turned (statement_of e) Turns k c m w) (sym is ∙ TStmt.rolls-InitList local all line) ∙ turns_init_list local all line k c m w
turns_lost_layer (OpenStmt.If chain otherwise line) e is no_loop no_switch k c m w = ap (λ e. turned (statement_of e) Turns k c m w) (sym is ∙ TStmt.rolls-If chain otherwise line) ∙ turns_if chain otherwise line k c m w
turns_lost_layer (OpenStmt.Loop x0 x1 x2 x3 x4 x5) e is no_loop no_switch k c m w = absurd (no_loop x0 x1 x2 x3 x4 x5 (sym is ∙ TStmt.rolls-Loop x0 x1 x2 x3 x4 x5))
turns_lost_layer (OpenStmt.Switch x0 x1 x2 x3 x4) e is no_loop no_switch k c m w = absurd (no_switch x0 x1 x2 x3 x4 (sym is ∙ TStmt.rolls-Switch x0 x1 x2 x3 x4))
turns_lost_layer (OpenStmt.Break line) e is no_loop no_switch k c m w = ap (λ e. turned (statement_of e) Turns k c m w) (sym is ∙ TStmt.rolls-Break line) ∙ turns_break line k c m w
turns_lost_layer (OpenStmt.Continue line) e is no_loop no_switch k c m w = ap (λ e. turned (statement_of e) Turns k c m w) (sym is ∙ TStmt.rolls-Continue line) ∙ turns_continue line k c m w
turns_lost_layer (OpenStmt.Return value line) e is no_loop no_switch k c m w = ap (λ e. turned (statement_of e) Turns k c m w) (sym is ∙ TStmt.rolls-Return value line) ∙ turns_return value line k c m w

pub turns_lost : (e : TStmt) → ((shape : _) (begin : _) (condition : _) (step : _) (body : _) (line : _) → e ≡ TStmt.Loop shape begin condition step body line → ⊥) → ((value : _) (cases : _) (default : _) (statements : _) (line : _) → e ≡ TStmt.Switch value cases default statements line → ⊥) → (k : List Pending) (c : CopyOf) (m : Memory) (w : World Byte) → turned (statement_of e) Turns k c m w ≡ Lost
turns_lost e no_loop no_switch k c m w = turns_lost_layer (out-TStmt e) e (roll-out-TStmt e) no_loop no_switch k c m w

arm_ends_lost_layer : (l : TStmt-F TStmt TArm) (e : TStmt) → roll-TStmt l ≡ e → ((arms : _) (otherwise : _) (line : _) → e ≡ TStmt.If arms otherwise line → ⊥) → (others : Arms) (k : List Pending) (c : CopyOf) (m : Memory) (w : World Byte) → turned (statement_of e) (InArm others) k c m w ≡ Lost
arm_ends_lost_layer (OpenStmt.Block ss line) e is no_if others k c m w = ap (λ e. turned (statement_of e) (InArm others) k c m w) (sym is ∙ TStmt.rolls-Block ss line) ∙ arm_ends_block ss line others k c m w
arm_ends_lost_layer (OpenStmt.Empty line) e is no_if others k c m w = ap (λ e. turned (statement_of e) (InArm others) k c m w) (sym is ∙ TStmt.rolls-Empty line) ∙ arm_ends_empty line others k c m w
arm_ends_lost_layer (OpenStmt.Expr value line) e is no_if others k c m w = ap (λ e. turned (statement_of e) (InArm others) k c m w) (sym is ∙ TStmt.rolls-Expr value line) ∙ arm_ends_expr value line others k c m w
arm_ends_lost_layer (OpenStmt.Declare local line) e is no_if others k c m w = ap (λ e. turned (statement_of e) (InArm others) k c m w) (sym is ∙ TStmt.rolls-Declare local line) ∙ arm_ends_declare local line others k c m w
arm_ends_lost_layer (OpenStmt.InitScalar local value line) e is no_if others k c m w = ap (λ e. turned (statement_of e) (InArm others) k c m w) (sym is ∙ TStmt.rolls-InitScalar local value line) ∙ arm_ends_init_scalar local value line others k c m w
arm_ends_lost_layer (OpenStmt.InitList local all line) e is no_if others k c m w = ap (λ e. turned (statement_of e) (InArm others) k c m w) (sym is ∙ TStmt.rolls-InitList local all line) ∙ arm_ends_init_list local all line others k c m w
arm_ends_lost_layer (OpenStmt.If x0 x1 x2) e is no_if others k c m w = absurd (no_if x0 x1 x2 (sym is ∙ TStmt.rolls-If x0 x1 x2))
arm_ends_lost_layer (OpenStmt.Loop shape first condition step body line) e is no_if others k c m w = ap (λ e. turned (statement_of e) (InArm others) k c m w) (sym is ∙ TStmt.rolls-Loop shape first condition step body line) ∙ arm_ends_loop shape first condition step body line others k c m w
arm_ends_lost_layer (OpenStmt.Switch value cases default ss line) e is no_if others k c m w = ap (λ e. turned (statement_of e) (InArm others) k c m w) (sym is ∙ TStmt.rolls-Switch value cases default ss line) ∙ arm_ends_switch value cases default ss line others k c m w
arm_ends_lost_layer (OpenStmt.Break line) e is no_if others k c m w = ap (λ e. turned (statement_of e) (InArm others) k c m w) (sym is ∙ TStmt.rolls-Break line) ∙ arm_ends_break line others k c m w
arm_ends_lost_layer (OpenStmt.Continue line) e is no_if others k c m w = ap (λ e. turned (statement_of e) (InArm others) k c m w) (sym is ∙ TStmt.rolls-Continue line) ∙ arm_ends_continue line others k c m w
arm_ends_lost_layer (OpenStmt.Return value line) e is no_if others k c m w = ap (λ e. turned (statement_of e) (InArm others) k c m w) (sym is ∙ TStmt.rolls-Return value line) ∙ arm_ends_return value line others k c m w

pub arm_ends_lost : (e : TStmt) → ((arms : _) (otherwise : _) (line : _) → e ≡ TStmt.If arms otherwise line → ⊥) → (others : Arms) (k : List Pending) (c : CopyOf) (m : Memory) (w : World Byte) → turned (statement_of e) (InArm others) k c m w ≡ Lost
arm_ends_lost e no_if others k c m w = arm_ends_lost_layer (out-TStmt e) e (roll-out-TStmt e) no_if others k c m w

is_scalar_other_layer : (l : TStmt-F TStmt TArm) (e : TStmt) → roll-TStmt l ≡ e → ((local : _) (value : _) (line : _) → e ≡ TStmt.InitScalar local value line → ⊥) → is_scalar (statement_of e) ≡ false
is_scalar_other_layer (OpenStmt.Block statements line) e is no_initscalar = ap (λ e. is_scalar (statement_of e)) (sym is ∙ TStmt.rolls-Block statements line) ∙ is_scalar_block statements line
is_scalar_other_layer (OpenStmt.Empty line) e is no_initscalar = ap (λ e. is_scalar (statement_of e)) (sym is ∙ TStmt.rolls-Empty line) ∙ is_scalar_empty line
is_scalar_other_layer (OpenStmt.Expr value line) e is no_initscalar = ap (λ e. is_scalar (statement_of e)) (sym is ∙ TStmt.rolls-Expr value line) ∙ is_scalar_expr value line
is_scalar_other_layer (OpenStmt.Declare local line) e is no_initscalar = ap (λ e. is_scalar (statement_of e)) (sym is ∙ TStmt.rolls-Declare local line) ∙ is_scalar_declare local line
is_scalar_other_layer (OpenStmt.InitScalar x0 x1 x2) e is no_initscalar = absurd (no_initscalar x0 x1 x2 (sym is ∙ TStmt.rolls-InitScalar x0 x1 x2))
is_scalar_other_layer (OpenStmt.InitList local items line) e is no_initscalar = ap (λ e. is_scalar (statement_of e)) (sym is ∙ TStmt.rolls-InitList local items line) ∙ is_scalar_init_list local items line
is_scalar_other_layer (OpenStmt.If arms otherwise line) e is no_initscalar = ap (λ e. is_scalar (statement_of e)) (sym is ∙ TStmt.rolls-If arms otherwise line) ∙ is_scalar_if arms otherwise line
is_scalar_other_layer (OpenStmt.Loop shape begin condition step body line) e is no_initscalar = ap (λ e. is_scalar (statement_of e)) (sym is ∙ TStmt.rolls-Loop shape begin condition step body line) ∙ is_scalar_loop shape begin condition step body line
is_scalar_other_layer (OpenStmt.Switch value cases default statements line) e is no_initscalar = ap (λ e. is_scalar (statement_of e)) (sym is ∙ TStmt.rolls-Switch value cases default statements line) ∙ is_scalar_switch value cases default statements line
is_scalar_other_layer (OpenStmt.Break line) e is no_initscalar = ap (λ e. is_scalar (statement_of e)) (sym is ∙ TStmt.rolls-Break line) ∙ is_scalar_break line
is_scalar_other_layer (OpenStmt.Continue line) e is no_initscalar = ap (λ e. is_scalar (statement_of e)) (sym is ∙ TStmt.rolls-Continue line) ∙ is_scalar_continue line
is_scalar_other_layer (OpenStmt.Return value line) e is no_initscalar = ap (λ e. is_scalar (statement_of e)) (sym is ∙ TStmt.rolls-Return value line) ∙ is_scalar_return value line

pub is_scalar_other : (e : TStmt) → ((local : _) (value : _) (line : _) → e ≡ TStmt.InitScalar local value line → ⊥) → is_scalar (statement_of e) ≡ false
is_scalar_other e no_initscalar = is_scalar_other_layer (out-TStmt e) e (roll-out-TStmt e) no_initscalar
