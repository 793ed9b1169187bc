-- What statements do with a value, of the trees that the code has.
use Rattle.std.proofs.Common.{◌≡◌, ℕ, zero, suc, ◌+◌, ◌<◌, ◌≤◌, arith, length, List, [], ◌∷◌, map, drop, Option, refl, sym, subst, ap, ◌∙◌}
use Rattle.std.specs.Global.{Box, Global}
use Rattle.std.specs.Prelude.{get_or, option_map}
use Rattle.std.specs.declared.vec.Vec.{Vec}
use Rattle.c_typed.proofs.Shapes.{show_statement_block, show_statement_empty, show_statement_expr, show_statement_declare, show_statement_init_scalar, show_statement_init_list, show_statement_loop, show_statement_switch, show_statement_break, show_statement_continue, show_statement_return}
use Rattle.c_typed.specs.Trees as tree
use Rattle.c_typed.specs.Trees.{Item, Arms, LastArm, Statement}
use Rattle.c_typed.specs.Views.{expression_of, statement_of, statements_of, item_of, arms_of, arm_of, last_arm_of}
use Rattle.c_typed.specs.declared.expression.TExpr.{TExpr}
use Rattle.c_typed.specs.declared.statement.TArm.{TArm}
use Rattle.c_typed.specs.declared.statement.TCase.{TCase}
use Rattle.c_typed.specs.declared.statement.TItem.{TItem}
use Rattle.c_typed.specs.declared.statement.TItem.TheVariants as items
use Rattle.c_typed.specs.declared.statement.TStmt.{TStmt}
use Rattle.c_typed.specs.declared.statement.TStmt.TheVariants as TStmt
use Rattle.pic_world.specs.World.{World}
use Rattle.src_machine.proofs.Items.{drop_some, drop_none}
use Rattle.src_machine.proofs.Shapes.{show_statement_if}
use Rattle.src_machine.specs.Branches.{IsIf}
use Rattle.src_rules.specs.Accesses.{goes}
use Rattle.src_rules.specs.Giving.{take_for, used, branch, statements_behind, compares_in, compares_for}
use Rattle.src_rules.specs.State.{Lost}
use Rattle.src_rules.specs.Statements.{test, turn, unwound}
use Rattle.src_values.specs.Control.{Past, Write, Leaves, Compares, Tests, Begins, Steps, Chooses, Fills, Pending, Doing, statement_line}
use Rattle.src_values.specs.Data.{Datum}
use Rattle.src_values.specs.Memory.{Setting, Memory}
use Rattle.src_values.specs.Objects.{behind, local_of}
use Rattle.src_values.specs.Seen.{stage_in, at_item_of, items_of}
use Rattle.src_values.specs.Values.{truth_of}
use Rattle.src_values.specs.declared.control.Stage.TheVariants as stages
use Rattle.src_values.specs.declared.objects.Byte.{Byte}
use Rattle.src_values.specs.declared.objects.CopyOf.{CopyOf}
use Rattle.src_values.specs.declared.objects.Object.{Object}
use Rattle.src_values.specs.declared.objects.Spot.{Spot}

pub tests_block : (s : Setting) (statements : Vec TStmt Global) (line : _) (v : Datum) (k : List Pending) (c : CopyOf) (m : Memory) (w : World Byte) → take_for s (statement_of (TStmt.Block statements line)) Tests v k c m w ≡ Lost
tests_block s statements line v k c m w = ap (λ t. take_for s t Tests v k c m w) (show_statement_block statements line)

pub tests_empty : (s : Setting) (line : _) (v : Datum) (k : List Pending) (c : CopyOf) (m : Memory) (w : World Byte) → take_for s (statement_of (TStmt.Empty line)) Tests v k c m w ≡ Lost
tests_empty s line v k c m w = ap (λ t. take_for s t Tests v k c m w) (show_statement_empty line)

pub tests_expr : (s : Setting) (value : _) (line : _) (v : Datum) (k : List Pending) (c : CopyOf) (m : Memory) (w : World Byte) → take_for s (statement_of (TStmt.Expr value line)) Tests v k c m w ≡ goes c Past k m w
tests_expr s value line v k c m w = ap (λ t. take_for s t Tests v k c m w) (show_statement_expr value line)

pub tests_declare : (s : Setting) (local : _) (line : _) (v : Datum) (k : List Pending) (c : CopyOf) (m : Memory) (w : World Byte) → take_for s (statement_of (TStmt.Declare local line)) Tests v k c m w ≡ Lost
tests_declare s local line v k c m w = ap (λ t. take_for s t Tests v k c m w) (show_statement_declare local line)

pub tests_init_scalar : (s : Setting) (local : _) (value : _) (line : _) (v : Datum) (k : List Pending) (c : CopyOf) (m : Memory) (w : World Byte) → take_for s (statement_of (TStmt.InitScalar local value line)) Tests v k c m w ≡ used v line (goes c (Write (behind (local_of s.program c local) 0) v 0) (Doing (statement_of (TStmt.InitScalar local value line)) Fills ∷ k) m w)
tests_init_scalar s local value line v k c m w = subst (λ t. take_for s t Tests v k c m w ≡ used v line (goes c (Write (behind (local_of s.program c local) 0) v 0) (Doing t Fills ∷ k) m w)) (sym (show_statement_init_scalar local value line)) refl

pub tests_init_list : (s : Setting) (local : _) (items : _) (line : _) (v : Datum) (k : List Pending) (c : CopyOf) (m : Memory) (w : World Byte) → take_for s (statement_of (TStmt.InitList local items line)) Tests v k c m w ≡ Lost
tests_init_list s local items line v k c m w = ap (λ t. take_for s t Tests v k c m w) (show_statement_init_list local items line)

pub tests_if : (s : Setting) (arms : Vec TArm Global) (otherwise : _) (line : _) (v : Datum) (k : List Pending) (c : CopyOf) (m : Memory) (w : World Byte) → take_for s (statement_of (TStmt.If arms otherwise line)) Tests v k c m w ≡ Lost
tests_if s arms otherwise line v k c m w = ap (λ t. take_for s t Tests v k c m w) (show_statement_if arms otherwise line)

pub tests_loop : (s : Setting) (shape : _) (begin : _) (condition : _) (step : _) (body : _) (line : _) (v : Datum) (k : List Pending) (c : CopyOf) (m : Memory) (w : World Byte) → take_for s (statement_of (TStmt.Loop shape begin condition step body line)) Tests v k c m w ≡ branch (truth_of v) line (turn (statement_of (TStmt.Loop shape begin condition step body line)) (statement_of body.value) k c m w) (goes c Past k m w)
tests_loop s shape begin condition step body line v k c m w = subst (λ t. take_for s t Tests v k c m w ≡ branch (truth_of v) line (turn t (statement_of body.value) k c m w) (goes c Past k m w)) (sym (show_statement_loop shape begin condition step body line)) refl

pub tests_switch : (s : Setting) (value : _) (cases : Vec TCase Global) (default : _) (statements : Vec TStmt Global) (line : _) (v : Datum) (k : List Pending) (c : CopyOf) (m : Memory) (w : World Byte) → take_for s (statement_of (TStmt.Switch value cases default statements line)) Tests v k c m w ≡ used v line (goes c (Compares v cases.items) (Doing (statement_of (TStmt.Switch value cases default statements line)) Chooses ∷ k) m w)
tests_switch s value cases default statements line v k c m w = subst (λ t. take_for s t Tests v k c m w ≡ used v line (goes c (Compares v cases.items) (Doing t Chooses ∷ k) m w)) (sym (show_statement_switch value cases default statements line)) refl

pub tests_break : (s : Setting) (line : _) (v : Datum) (k : List Pending) (c : CopyOf) (m : Memory) (w : World Byte) → take_for s (statement_of (TStmt.Break line)) Tests v k c m w ≡ Lost
tests_break s line v k c m w = ap (λ t. take_for s t Tests v k c m w) (show_statement_break line)

pub tests_continue : (s : Setting) (line : _) (v : Datum) (k : List Pending) (c : CopyOf) (m : Memory) (w : World Byte) → take_for s (statement_of (TStmt.Continue line)) Tests v k c m w ≡ Lost
tests_continue s line v k c m w = ap (λ t. take_for s t Tests v k c m w) (show_statement_continue line)

pub tests_return : (s : Setting) (value : _) (line : _) (v : Datum) (k : List Pending) (c : CopyOf) (m : Memory) (w : World Byte) → take_for s (statement_of (TStmt.Return value line)) Tests v k c m w ≡ used v line (goes c (Leaves v) (unwound k) m w)
tests_return s value line v k c m w = ap (λ t. take_for s t Tests v k c m w) (show_statement_return value line)

pub begins_block : (s : Setting) (statements : Vec TStmt Global) (line : _) (v : Datum) (k : List Pending) (c : CopyOf) (m : Memory) (w : World Byte) → take_for s (statement_of (TStmt.Block statements line)) Begins v k c m w ≡ Lost
begins_block s statements line v k c m w = ap (λ t. take_for s t Begins v k c m w) (show_statement_block statements line)

pub begins_empty : (s : Setting) (line : _) (v : Datum) (k : List Pending) (c : CopyOf) (m : Memory) (w : World Byte) → take_for s (statement_of (TStmt.Empty line)) Begins v k c m w ≡ Lost
begins_empty s line v k c m w = ap (λ t. take_for s t Begins v k c m w) (show_statement_empty line)

pub begins_expr : (s : Setting) (value : _) (line : _) (v : Datum) (k : List Pending) (c : CopyOf) (m : Memory) (w : World Byte) → take_for s (statement_of (TStmt.Expr value line)) Begins v k c m w ≡ Lost
begins_expr s value line v k c m w = ap (λ t. take_for s t Begins v k c m w) (show_statement_expr value line)

pub begins_declare : (s : Setting) (local : _) (line : _) (v : Datum) (k : List Pending) (c : CopyOf) (m : Memory) (w : World Byte) → take_for s (statement_of (TStmt.Declare local line)) Begins v k c m w ≡ Lost
begins_declare s local line v k c m w = ap (λ t. take_for s t Begins v k c m w) (show_statement_declare local line)

pub begins_init_scalar : (s : Setting) (local : _) (value : _) (line : _) (v : Datum) (k : List Pending) (c : CopyOf) (m : Memory) (w : World Byte) → take_for s (statement_of (TStmt.InitScalar local value line)) Begins v k c m w ≡ Lost
begins_init_scalar s local value line v k c m w = ap (λ t. take_for s t Begins v k c m w) (show_statement_init_scalar local value line)

pub begins_init_list : (s : Setting) (local : _) (items : _) (line : _) (v : Datum) (k : List Pending) (c : CopyOf) (m : Memory) (w : World Byte) → take_for s (statement_of (TStmt.InitList local items line)) Begins v k c m w ≡ Lost
begins_init_list s local items line v k c m w = ap (λ t. take_for s t Begins v k c m w) (show_statement_init_list local items line)

pub begins_if : (s : Setting) (arms : Vec TArm Global) (otherwise : _) (line : _) (v : Datum) (k : List Pending) (c : CopyOf) (m : Memory) (w : World Byte) → take_for s (statement_of (TStmt.If arms otherwise line)) Begins v k c m w ≡ Lost
begins_if s arms otherwise line v k c m w = ap (λ t. take_for s t Begins v k c m w) (show_statement_if arms otherwise line)

pub begins_loop : (s : Setting) (shape : _) (begin : _) (condition : _) (step : _) (body : _) (line : _) (v : Datum) (k : List Pending) (c : CopyOf) (m : Memory) (w : World Byte) → take_for s (statement_of (TStmt.Loop shape begin condition step body line)) Begins v k c m w ≡ test (statement_of (TStmt.Loop shape begin condition step body line)) (option_map expression_of condition) (statement_of body.value) k c m w
begins_loop s shape begin condition step body line v k c m w = subst (λ t. take_for s t Begins v k c m w ≡ test t (option_map expression_of condition) (statement_of body.value) k c m w) (sym (show_statement_loop shape begin condition step body line)) refl

pub begins_switch : (s : Setting) (value : _) (cases : Vec TCase Global) (default : _) (statements : Vec TStmt Global) (line : _) (v : Datum) (k : List Pending) (c : CopyOf) (m : Memory) (w : World Byte) → take_for s (statement_of (TStmt.Switch value cases default statements line)) Begins v k c m w ≡ Lost
begins_switch s value cases default statements line v k c m w = ap (λ t. take_for s t Begins v k c m w) (show_statement_switch value cases default statements line)

pub begins_break : (s : Setting) (line : _) (v : Datum) (k : List Pending) (c : CopyOf) (m : Memory) (w : World Byte) → take_for s (statement_of (TStmt.Break line)) Begins v k c m w ≡ Lost
begins_break s line v k c m w = ap (λ t. take_for s t Begins v k c m w) (show_statement_break line)

pub begins_continue : (s : Setting) (line : _) (v : Datum) (k : List Pending) (c : CopyOf) (m : Memory) (w : World Byte) → take_for s (statement_of (TStmt.Continue line)) Begins v k c m w ≡ Lost
begins_continue s line v k c m w = ap (λ t. take_for s t Begins v k c m w) (show_statement_continue line)

pub begins_return : (s : Setting) (value : _) (line : _) (v : Datum) (k : List Pending) (c : CopyOf) (m : Memory) (w : World Byte) → take_for s (statement_of (TStmt.Return value line)) Begins v k c m w ≡ Lost
begins_return s value line v k c m w = ap (λ t. take_for s t Begins v k c m w) (show_statement_return value line)

pub steps_block : (s : Setting) (statements : Vec TStmt Global) (line : _) (v : Datum) (k : List Pending) (c : CopyOf) (m : Memory) (w : World Byte) → take_for s (statement_of (TStmt.Block statements line)) Steps v k c m w ≡ Lost
steps_block s statements line v k c m w = ap (λ t. take_for s t Steps v k c m w) (show_statement_block statements line)

pub steps_empty : (s : Setting) (line : _) (v : Datum) (k : List Pending) (c : CopyOf) (m : Memory) (w : World Byte) → take_for s (statement_of (TStmt.Empty line)) Steps v k c m w ≡ Lost
steps_empty s line v k c m w = ap (λ t. take_for s t Steps v k c m w) (show_statement_empty line)

pub steps_expr : (s : Setting) (value : _) (line : _) (v : Datum) (k : List Pending) (c : CopyOf) (m : Memory) (w : World Byte) → take_for s (statement_of (TStmt.Expr value line)) Steps v k c m w ≡ Lost
steps_expr s value line v k c m w = ap (λ t. take_for s t Steps v k c m w) (show_statement_expr value line)

pub steps_declare : (s : Setting) (local : _) (line : _) (v : Datum) (k : List Pending) (c : CopyOf) (m : Memory) (w : World Byte) → take_for s (statement_of (TStmt.Declare local line)) Steps v k c m w ≡ Lost
steps_declare s local line v k c m w = ap (λ t. take_for s t Steps v k c m w) (show_statement_declare local line)

pub steps_init_scalar : (s : Setting) (local : _) (value : _) (line : _) (v : Datum) (k : List Pending) (c : CopyOf) (m : Memory) (w : World Byte) → take_for s (statement_of (TStmt.InitScalar local value line)) Steps v k c m w ≡ Lost
steps_init_scalar s local value line v k c m w = ap (λ t. take_for s t Steps v k c m w) (show_statement_init_scalar local value line)

pub steps_init_list : (s : Setting) (local : _) (items : _) (line : _) (v : Datum) (k : List Pending) (c : CopyOf) (m : Memory) (w : World Byte) → take_for s (statement_of (TStmt.InitList local items line)) Steps v k c m w ≡ Lost
steps_init_list s local items line v k c m w = ap (λ t. take_for s t Steps v k c m w) (show_statement_init_list local items line)

pub steps_if : (s : Setting) (arms : Vec TArm Global) (otherwise : _) (line : _) (v : Datum) (k : List Pending) (c : CopyOf) (m : Memory) (w : World Byte) → take_for s (statement_of (TStmt.If arms otherwise line)) Steps v k c m w ≡ Lost
steps_if s arms otherwise line v k c m w = ap (λ t. take_for s t Steps v k c m w) (show_statement_if arms otherwise line)

pub steps_loop : (s : Setting) (shape : _) (begin : _) (condition : _) (step : _) (body : _) (line : _) (v : Datum) (k : List Pending) (c : CopyOf) (m : Memory) (w : World Byte) → take_for s (statement_of (TStmt.Loop shape begin condition step body line)) Steps v k c m w ≡ test (statement_of (TStmt.Loop shape begin condition step body line)) (option_map expression_of condition) (statement_of body.value) k c m w
steps_loop s shape begin condition step body line v k c m w = subst (λ t. take_for s t Steps v k c m w ≡ test t (option_map expression_of condition) (statement_of body.value) k c m w) (sym (show_statement_loop shape begin condition step body line)) refl

pub steps_switch : (s : Setting) (value : _) (cases : Vec TCase Global) (default : _) (statements : Vec TStmt Global) (line : _) (v : Datum) (k : List Pending) (c : CopyOf) (m : Memory) (w : World Byte) → take_for s (statement_of (TStmt.Switch value cases default statements line)) Steps v k c m w ≡ Lost
steps_switch s value cases default statements line v k c m w = ap (λ t. take_for s t Steps v k c m w) (show_statement_switch value cases default statements line)

pub steps_break : (s : Setting) (line : _) (v : Datum) (k : List Pending) (c : CopyOf) (m : Memory) (w : World Byte) → take_for s (statement_of (TStmt.Break line)) Steps v k c m w ≡ Lost
steps_break s line v k c m w = ap (λ t. take_for s t Steps v k c m w) (show_statement_break line)

pub steps_continue : (s : Setting) (line : _) (v : Datum) (k : List Pending) (c : CopyOf) (m : Memory) (w : World Byte) → take_for s (statement_of (TStmt.Continue line)) Steps v k c m w ≡ Lost
steps_continue s line v k c m w = ap (λ t. take_for s t Steps v k c m w) (show_statement_continue line)

pub steps_return : (s : Setting) (value : _) (line : _) (v : Datum) (k : List Pending) (c : CopyOf) (m : Memory) (w : World Byte) → take_for s (statement_of (TStmt.Return value line)) Steps v k c m w ≡ Lost
steps_return s value line v k c m w = ap (λ t. take_for s t Steps v k c m w) (show_statement_return value line)

pub item_taken_block : (s : Setting) (statements : Vec TStmt Global) (line : _) (at : ℕ) (v : Datum) (k : List Pending) (c : CopyOf) (m : Memory) (w : World Byte) → take_for s (statement_of (TStmt.Block statements line)) (stage_in (statement_of (TStmt.Block statements line)) (stages.AtItem at)) v k c m w ≡ Lost
item_taken_block s statements line zero v k c m w = ap (λ t. take_for s t (stage_in t (stages.AtItem zero)) v k c m w) (show_statement_block statements line)
item_taken_block s statements line (suc n) v k c m w = ap (λ t. take_for s t (stage_in t (stages.AtItem (suc n))) v k c m w) (show_statement_block statements line)

pub item_taken_empty : (s : Setting) (line : _) (at : ℕ) (v : Datum) (k : List Pending) (c : CopyOf) (m : Memory) (w : World Byte) → take_for s (statement_of (TStmt.Empty line)) (stage_in (statement_of (TStmt.Empty line)) (stages.AtItem at)) v k c m w ≡ Lost
item_taken_empty s line zero v k c m w = ap (λ t. take_for s t (stage_in t (stages.AtItem zero)) v k c m w) (show_statement_empty line)
item_taken_empty s line (suc n) v k c m w = ap (λ t. take_for s t (stage_in t (stages.AtItem (suc n))) v k c m w) (show_statement_empty line)

pub item_taken_expr : (s : Setting) (value : _) (line : _) (at : ℕ) (v : Datum) (k : List Pending) (c : CopyOf) (m : Memory) (w : World Byte) → take_for s (statement_of (TStmt.Expr value line)) (stage_in (statement_of (TStmt.Expr value line)) (stages.AtItem at)) v k c m w ≡ Lost
item_taken_expr s value line zero v k c m w = ap (λ t. take_for s t (stage_in t (stages.AtItem zero)) v k c m w) (show_statement_expr value line)
item_taken_expr s value line (suc n) v k c m w = ap (λ t. take_for s t (stage_in t (stages.AtItem (suc n))) v k c m w) (show_statement_expr value line)

pub item_taken_declare : (s : Setting) (local : _) (line : _) (at : ℕ) (v : Datum) (k : List Pending) (c : CopyOf) (m : Memory) (w : World Byte) → take_for s (statement_of (TStmt.Declare local line)) (stage_in (statement_of (TStmt.Declare local line)) (stages.AtItem at)) v k c m w ≡ Lost
item_taken_declare s local line zero v k c m w = ap (λ t. take_for s t (stage_in t (stages.AtItem zero)) v k c m w) (show_statement_declare local line)
item_taken_declare s local line (suc n) v k c m w = ap (λ t. take_for s t (stage_in t (stages.AtItem (suc n))) v k c m w) (show_statement_declare local line)

pub item_taken_init_scalar : (s : Setting) (local : _) (value : _) (line : _) (at : ℕ) (v : Datum) (k : List Pending) (c : CopyOf) (m : Memory) (w : World Byte) → take_for s (statement_of (TStmt.InitScalar local value line)) (stage_in (statement_of (TStmt.InitScalar local value line)) (stages.AtItem at)) v k c m w ≡ Lost
item_taken_init_scalar s local value line zero v k c m w = ap (λ t. take_for s t (stage_in t (stages.AtItem zero)) v k c m w) (show_statement_init_scalar local value line)
item_taken_init_scalar s local value line (suc n) v k c m w = ap (λ t. take_for s t (stage_in t (stages.AtItem (suc n))) v k c m w) (show_statement_init_scalar local value line)

pub item_taken_if : (s : Setting) (arms : Vec TArm Global) (otherwise : _) (line : _) (at : ℕ) (v : Datum) (k : List Pending) (c : CopyOf) (m : Memory) (w : World Byte) → take_for s (statement_of (TStmt.If arms otherwise line)) (stage_in (statement_of (TStmt.If arms otherwise line)) (stages.AtItem at)) v k c m w ≡ Lost
item_taken_if s arms otherwise line zero v k c m w = ap (λ t. take_for s t (stage_in t (stages.AtItem zero)) v k c m w) (show_statement_if arms otherwise line)
item_taken_if s arms otherwise line (suc n) v k c m w = ap (λ t. take_for s t (stage_in t (stages.AtItem (suc n))) v k c m w) (show_statement_if arms otherwise line)

pub item_taken_loop : (s : Setting) (shape : _) (begin : _) (condition : _) (step : _) (body : _) (line : _) (at : ℕ) (v : Datum) (k : List Pending) (c : CopyOf) (m : Memory) (w : World Byte) → take_for s (statement_of (TStmt.Loop shape begin condition step body line)) (stage_in (statement_of (TStmt.Loop shape begin condition step body line)) (stages.AtItem at)) v k c m w ≡ Lost
item_taken_loop s shape begin condition step body line zero v k c m w = ap (λ t. take_for s t (stage_in t (stages.AtItem zero)) v k c m w) (show_statement_loop shape begin condition step body line)
item_taken_loop s shape begin condition step body line (suc n) v k c m w = ap (λ t. take_for s t (stage_in t (stages.AtItem (suc n))) v k c m w) (show_statement_loop shape begin condition step body line)

pub item_taken_switch : (s : Setting) (value : _) (cases : Vec TCase Global) (default : _) (statements : Vec TStmt Global) (line : _) (at : ℕ) (v : Datum) (k : List Pending) (c : CopyOf) (m : Memory) (w : World Byte) → take_for s (statement_of (TStmt.Switch value cases default statements line)) (stage_in (statement_of (TStmt.Switch value cases default statements line)) (stages.AtItem at)) v k c m w ≡ Lost
item_taken_switch s value cases default statements line zero v k c m w = ap (λ t. take_for s t (stage_in t (stages.AtItem zero)) v k c m w) (show_statement_switch value cases default statements line)
item_taken_switch s value cases default statements line (suc n) v k c m w = ap (λ t. take_for s t (stage_in t (stages.AtItem (suc n))) v k c m w) (show_statement_switch value cases default statements line)

pub item_taken_break : (s : Setting) (line : _) (at : ℕ) (v : Datum) (k : List Pending) (c : CopyOf) (m : Memory) (w : World Byte) → take_for s (statement_of (TStmt.Break line)) (stage_in (statement_of (TStmt.Break line)) (stages.AtItem at)) v k c m w ≡ Lost
item_taken_break s line zero v k c m w = ap (λ t. take_for s t (stage_in t (stages.AtItem zero)) v k c m w) (show_statement_break line)
item_taken_break s line (suc n) v k c m w = ap (λ t. take_for s t (stage_in t (stages.AtItem (suc n))) v k c m w) (show_statement_break line)

pub item_taken_continue : (s : Setting) (line : _) (at : ℕ) (v : Datum) (k : List Pending) (c : CopyOf) (m : Memory) (w : World Byte) → take_for s (statement_of (TStmt.Continue line)) (stage_in (statement_of (TStmt.Continue line)) (stages.AtItem at)) v k c m w ≡ Lost
item_taken_continue s line zero v k c m w = ap (λ t. take_for s t (stage_in t (stages.AtItem zero)) v k c m w) (show_statement_continue line)
item_taken_continue s line (suc n) v k c m w = ap (λ t. take_for s t (stage_in t (stages.AtItem (suc n))) v k c m w) (show_statement_continue line)

pub item_taken_return : (s : Setting) (value : _) (line : _) (at : ℕ) (v : Datum) (k : List Pending) (c : CopyOf) (m : Memory) (w : World Byte) → take_for s (statement_of (TStmt.Return value line)) (stage_in (statement_of (TStmt.Return value line)) (stages.AtItem at)) v k c m w ≡ Lost
item_taken_return s value line zero v k c m w = ap (λ t. take_for s t (stage_in t (stages.AtItem zero)) v k c m w) (show_statement_return value line)
item_taken_return s value line (suc n) v k c m w = ap (λ t. take_for s t (stage_in t (stages.AtItem (suc n))) v k c m w) (show_statement_return value line)

pub arm_taken_block : (s : Setting) (statements : Vec TStmt Global) (line : _) (at : ℕ) (v : Datum) (k : List Pending) (c : CopyOf) (m : Memory) (w : World Byte) → take_for s (statement_of (TStmt.Block statements line)) (stage_in (statement_of (TStmt.Block statements line)) (stages.Picks at)) v k c m w ≡ Lost
arm_taken_block s statements line zero v k c m w = ap (λ t. take_for s t (stage_in t (stages.Picks zero)) v k c m w) (show_statement_block statements line)
arm_taken_block s statements line (suc n) v k c m w = ap (λ t. take_for s t (stage_in t (stages.Picks (suc n))) v k c m w) (show_statement_block statements line)

pub arm_taken_empty : (s : Setting) (line : _) (at : ℕ) (v : Datum) (k : List Pending) (c : CopyOf) (m : Memory) (w : World Byte) → take_for s (statement_of (TStmt.Empty line)) (stage_in (statement_of (TStmt.Empty line)) (stages.Picks at)) v k c m w ≡ Lost
arm_taken_empty s line zero v k c m w = ap (λ t. take_for s t (stage_in t (stages.Picks zero)) v k c m w) (show_statement_empty line)
arm_taken_empty s line (suc n) v k c m w = ap (λ t. take_for s t (stage_in t (stages.Picks (suc n))) v k c m w) (show_statement_empty line)

pub arm_taken_expr : (s : Setting) (value : _) (line : _) (at : ℕ) (v : Datum) (k : List Pending) (c : CopyOf) (m : Memory) (w : World Byte) → take_for s (statement_of (TStmt.Expr value line)) (stage_in (statement_of (TStmt.Expr value line)) (stages.Picks at)) v k c m w ≡ Lost
arm_taken_expr s value line zero v k c m w = ap (λ t. take_for s t (stage_in t (stages.Picks zero)) v k c m w) (show_statement_expr value line)
arm_taken_expr s value line (suc n) v k c m w = ap (λ t. take_for s t (stage_in t (stages.Picks (suc n))) v k c m w) (show_statement_expr value line)

pub arm_taken_declare : (s : Setting) (local : _) (line : _) (at : ℕ) (v : Datum) (k : List Pending) (c : CopyOf) (m : Memory) (w : World Byte) → take_for s (statement_of (TStmt.Declare local line)) (stage_in (statement_of (TStmt.Declare local line)) (stages.Picks at)) v k c m w ≡ Lost
arm_taken_declare s local line zero v k c m w = ap (λ t. take_for s t (stage_in t (stages.Picks zero)) v k c m w) (show_statement_declare local line)
arm_taken_declare s local line (suc n) v k c m w = ap (λ t. take_for s t (stage_in t (stages.Picks (suc n))) v k c m w) (show_statement_declare local line)

pub arm_taken_init_scalar : (s : Setting) (local : _) (value : _) (line : _) (at : ℕ) (v : Datum) (k : List Pending) (c : CopyOf) (m : Memory) (w : World Byte) → take_for s (statement_of (TStmt.InitScalar local value line)) (stage_in (statement_of (TStmt.InitScalar local value line)) (stages.Picks at)) v k c m w ≡ Lost
arm_taken_init_scalar s local value line zero v k c m w = ap (λ t. take_for s t (stage_in t (stages.Picks zero)) v k c m w) (show_statement_init_scalar local value line)
arm_taken_init_scalar s local value line (suc n) v k c m w = ap (λ t. take_for s t (stage_in t (stages.Picks (suc n))) v k c m w) (show_statement_init_scalar local value line)

pub arm_taken_init_list : (s : Setting) (local : _) (items : _) (line : _) (at : ℕ) (v : Datum) (k : List Pending) (c : CopyOf) (m : Memory) (w : World Byte) → take_for s (statement_of (TStmt.InitList local items line)) (stage_in (statement_of (TStmt.InitList local items line)) (stages.Picks at)) v k c m w ≡ Lost
arm_taken_init_list s local items line zero v k c m w = ap (λ t. take_for s t (stage_in t (stages.Picks zero)) v k c m w) (show_statement_init_list local items line)
arm_taken_init_list s local items line (suc n) v k c m w = ap (λ t. take_for s t (stage_in t (stages.Picks (suc n))) v k c m w) (show_statement_init_list local items line)

pub arm_taken_loop : (s : Setting) (shape : _) (begin : _) (condition : _) (step : _) (body : _) (line : _) (at : ℕ) (v : Datum) (k : List Pending) (c : CopyOf) (m : Memory) (w : World Byte) → take_for s (statement_of (TStmt.Loop shape begin condition step body line)) (stage_in (statement_of (TStmt.Loop shape begin condition step body line)) (stages.Picks at)) v k c m w ≡ Lost
arm_taken_loop s shape begin condition step body line zero v k c m w = ap (λ t. take_for s t (stage_in t (stages.Picks zero)) v k c m w) (show_statement_loop shape begin condition step body line)
arm_taken_loop s shape begin condition step body line (suc n) v k c m w = ap (λ t. take_for s t (stage_in t (stages.Picks (suc n))) v k c m w) (show_statement_loop shape begin condition step body line)

pub arm_taken_switch : (s : Setting) (value : _) (cases : Vec TCase Global) (default : _) (statements : Vec TStmt Global) (line : _) (at : ℕ) (v : Datum) (k : List Pending) (c : CopyOf) (m : Memory) (w : World Byte) → take_for s (statement_of (TStmt.Switch value cases default statements line)) (stage_in (statement_of (TStmt.Switch value cases default statements line)) (stages.Picks at)) v k c m w ≡ Lost
arm_taken_switch s value cases default statements line zero v k c m w = ap (λ t. take_for s t (stage_in t (stages.Picks zero)) v k c m w) (show_statement_switch value cases default statements line)
arm_taken_switch s value cases default statements line (suc n) v k c m w = ap (λ t. take_for s t (stage_in t (stages.Picks (suc n))) v k c m w) (show_statement_switch value cases default statements line)

pub arm_taken_break : (s : Setting) (line : _) (at : ℕ) (v : Datum) (k : List Pending) (c : CopyOf) (m : Memory) (w : World Byte) → take_for s (statement_of (TStmt.Break line)) (stage_in (statement_of (TStmt.Break line)) (stages.Picks at)) v k c m w ≡ Lost
arm_taken_break s line zero v k c m w = ap (λ t. take_for s t (stage_in t (stages.Picks zero)) v k c m w) (show_statement_break line)
arm_taken_break s line (suc n) v k c m w = ap (λ t. take_for s t (stage_in t (stages.Picks (suc n))) v k c m w) (show_statement_break line)

pub arm_taken_continue : (s : Setting) (line : _) (at : ℕ) (v : Datum) (k : List Pending) (c : CopyOf) (m : Memory) (w : World Byte) → take_for s (statement_of (TStmt.Continue line)) (stage_in (statement_of (TStmt.Continue line)) (stages.Picks at)) v k c m w ≡ Lost
arm_taken_continue s line zero v k c m w = ap (λ t. take_for s t (stage_in t (stages.Picks zero)) v k c m w) (show_statement_continue line)
arm_taken_continue s line (suc n) v k c m w = ap (λ t. take_for s t (stage_in t (stages.Picks (suc n))) v k c m w) (show_statement_continue line)

pub arm_taken_return : (s : Setting) (value : _) (line : _) (at : ℕ) (v : Datum) (k : List Pending) (c : CopyOf) (m : Memory) (w : World Byte) → take_for s (statement_of (TStmt.Return value line)) (stage_in (statement_of (TStmt.Return value line)) (stages.Picks at)) v k c m w ≡ Lost
arm_taken_return s value line zero v k c m w = ap (λ t. take_for s t (stage_in t (stages.Picks zero)) v k c m w) (show_statement_return value line)
arm_taken_return s value line (suc n) v k c m w = ap (λ t. take_for s t (stage_in t (stages.Picks (suc n))) v k c m w) (show_statement_return value line)

pub is_if : (t : Statement) (arms : Vec TArm Global) (otherwise : Option (Box TStmt)) (line : ℕ) → t ≡ statement_of (TStmt.If arms otherwise line) → IsIf t arms otherwise
is_if t arms otherwise line h =
    h ∙ show_statement_if arms otherwise line
    ∙ ap (tree.If (arms_of (map arm_of arms.items)) (last_arm_of otherwise)) (sym (ap statement_line (h ∙ show_statement_if arms otherwise line)))

no_item : (s : Setting) (local : ℕ) (all ys : List Item) (line : ℕ) (v : Datum) (k : List Pending) (c : CopyOf) (m : Memory) (w : World Byte) → ys ≡ [] → take_for s (tree.InitList local all line) (at_item_of (tree.InitList local all line) ys) v k c m w ≡ Lost
no_item s local all ys line v k c m w h = ap (λ zs. take_for s (tree.InitList local all line) (at_item_of (tree.InitList local all line) zs) v k c m w) h

pub item_taken_scalar : (s : Setting) (local : ℕ) (list : Vec TItem Global) (line : ℕ) (at : ℕ) (offset : _) (value : _) (v : Datum) (k : List Pending) (c : CopyOf) (m : Memory) (w : World Byte) → at < length list.items → items.Scalar offset value ≡ get_or list.items at (items.Scalar offset value) → take_for s (statement_of (TStmt.InitList local list line)) (stage_in (statement_of (TStmt.InitList local list line)) (stages.AtItem at)) v k c m w ≡ used v line (goes c (Write (behind (local_of s.program c local) offset) v 0) (Doing (statement_of (TStmt.InitList local list line)) (stage_in (statement_of (TStmt.InitList local list line)) (stages.Items at)) ∷ k) m w)
item_taken_scalar s local list line at offset value v k c m w h e =
    subst (λ t. take_for s t (stage_in t (stages.AtItem at)) v k c m w ≡ used v line (goes c (Write (behind (local_of s.program c local) offset) v 0) (Doing t (stage_in t (stages.Items at)) ∷ k) m w)) (sym (show_statement_init_list local list line))
    (subst (λ ys. take_for s (tree.InitList local (map item_of list.items) line) (at_item_of (tree.InitList local (map item_of list.items) line) ys) v k c m w ≡ used v line (goes c (Write (behind (local_of s.program c local) offset) v 0) (Doing (tree.InitList local (map item_of list.items) line) (items_of (tree.InitList local (map item_of list.items) line) ys) ∷ k) m w)) (sym (drop_some list.items at (items.Scalar offset value) h e)) refl)

pub item_taken_struct : (s : Setting) (local : ℕ) (list : Vec TItem Global) (line : ℕ) (at : ℕ) (offset : _) (from : _) (size : _) (v : Datum) (k : List Pending) (c : CopyOf) (m : Memory) (w : World Byte) → at < length list.items → items.Struct offset from size ≡ get_or list.items at (items.Struct offset from size) → take_for s (statement_of (TStmt.InitList local list line)) (stage_in (statement_of (TStmt.InitList local list line)) (stages.AtItem at)) v k c m w ≡ Lost
item_taken_struct s local list line at offset from size v k c m w h e =
    subst (λ t. take_for s t (stage_in t (stages.AtItem at)) v k c m w ≡ Lost) (sym (show_statement_init_list local list line))
    (subst (λ ys. take_for s (tree.InitList local (map item_of list.items) line) (at_item_of (tree.InitList local (map item_of list.items) line) ys) v k c m w ≡ Lost) (sym (drop_some list.items at (items.Struct offset from size) h e)) refl)

pub item_taken_text : (s : Setting) (local : ℕ) (list : Vec TItem Global) (line : ℕ) (at : ℕ) (offset : _) (text : _) (size : _) (v : Datum) (k : List Pending) (c : CopyOf) (m : Memory) (w : World Byte) → at < length list.items → items.Text offset text size ≡ get_or list.items at (items.Text offset text size) → take_for s (statement_of (TStmt.InitList local list line)) (stage_in (statement_of (TStmt.InitList local list line)) (stages.AtItem at)) v k c m w ≡ Lost
item_taken_text s local list line at offset text size v k c m w h e =
    subst (λ t. take_for s t (stage_in t (stages.AtItem at)) v k c m w ≡ Lost) (sym (show_statement_init_list local list line))
    (subst (λ ys. take_for s (tree.InitList local (map item_of list.items) line) (at_item_of (tree.InitList local (map item_of list.items) line) ys) v k c m w ≡ Lost) (sym (drop_some list.items at (items.Text offset text size) h e)) refl)

-- the same, by what is known of each part
pub scalar_taken : (s : Setting) (tc : TStmt) (local : ℕ) (list : Vec TItem Global) (line : ℕ) (at offset : ℕ) (value : TExpr) (x : TItem) (xs : List TItem) (v : Datum) (k : List Pending) (c : CopyOf) (m : Memory) (w : World Byte) (spot : Spot) (t : Statement) (object : Object)
    → tc ≡ TStmt.InitList local list line → xs ≡ list.items → at < length xs → x ≡ get_or xs at x → x ≡ items.Scalar offset value → t ≡ statement_of tc → object ≡ local_of s.program c local → spot ≡ behind object offset
    → used v line (goes c (Write spot v 0) (Doing t (stage_in t (stages.Items at)) ∷ k) m w) ≡ take_for s (statement_of tc) (stage_in (statement_of tc) (stages.AtItem at)) v k c m w
scalar_taken s tc local list line at offset value x xs v k c m w spot t object is listed below stands shape same placed found =
    let inside : at < length list.items = subst (λ ys. at < length ys) listed below in
    let shown : items.Scalar offset value ≡ get_or list.items at (items.Scalar offset value) = subst (λ ys. items.Scalar offset value ≡ get_or ys at (items.Scalar offset value)) listed (subst (λ y. y ≡ get_or xs at y) shape stands) in
    ap (λ u. used v line (goes c (Write spot v 0) (Doing u (stage_in u (stages.Items at)) ∷ k) m w)) (same ∙ ap statement_of is)
    ∙ ap (λ p. used v line (goes c (Write p v 0) (Doing (statement_of (TStmt.InitList local list line)) (stage_in (statement_of (TStmt.InitList local list line)) (stages.Items at)) ∷ k) m w)) (found ∙ ap (λ b. behind b offset) placed)
    ∙ sym (item_taken_scalar s local list line at offset value v k c m w inside shown)
    ∙ ap (λ u. take_for s (statement_of u) (stage_in (statement_of u) (stages.AtItem at)) v k c m w) (sym is)

pub item_taken_none : (s : Setting) (local : ℕ) (list : Vec TItem Global) (line : ℕ) (at : ℕ) (v : Datum) (k : List Pending) (c : CopyOf) (m : Memory) (w : World Byte) → length list.items ≤ at → take_for s (statement_of (TStmt.InitList local list line)) (stage_in (statement_of (TStmt.InitList local list line)) (stages.AtItem at)) v k c m w ≡ Lost
item_taken_none s local list line at v k c m w h = ap (λ t. take_for s t (stage_in t (stages.AtItem at)) v k c m w) (show_statement_init_list local list line) ∙ no_item s local (map item_of list.items) (drop at (map item_of list.items)) line v k c m w (drop_none list.items at h)

-- ---- where no value goes
no_value_items : (s : Setting) (local : ℕ) (all : List Item) (line : ℕ) (ys : List Item) (v : Datum) (k : List Pending) (c : CopyOf) (m : Memory) (w : World Byte) → take_for s (tree.InitList local all line) (items_of (tree.InitList local all line) ys) v k c m w ≡ Lost
no_value_items s local all line [] v k c m w = refl
no_value_items s local all line (y ∷ ys) v k c m w = refl

pub no_value_at_turns : (s : Setting) (v : Datum) (k : List Pending) (c : CopyOf) (m : Memory) (w : World Byte) (t : Statement) → take_for s t (stage_in t stages.Turns) v k c m w ≡ Lost
no_value_at_turns s v k c m w (tree.Block ss line) = refl
no_value_at_turns s v k c m w (tree.Empty line) = refl
no_value_at_turns s v k c m w (tree.Expr e line) = refl
no_value_at_turns s v k c m w (tree.Declare local line) = refl
no_value_at_turns s v k c m w (tree.InitScalar local e line) = refl
no_value_at_turns s v k c m w (tree.InitList local all line) = refl
no_value_at_turns s v k c m w (tree.If chain otherwise line) = refl
no_value_at_turns s v k c m w (tree.Loop shape first condition step body line) = refl
no_value_at_turns s v k c m w (tree.Switch e cases default ss line) = refl
no_value_at_turns s v k c m w (tree.Break line) = refl
no_value_at_turns s v k c m w (tree.Continue line) = refl
no_value_at_turns s v k c m w (tree.Return e line) = refl

pub no_value_at_in_arm : (s : Setting) (at : ℕ) (v : Datum) (k : List Pending) (c : CopyOf) (m : Memory) (w : World Byte) (t : Statement) → take_for s t (stage_in t (stages.InArm at)) v k c m w ≡ Lost
no_value_at_in_arm s zero v k c m w (tree.Block ss line) = refl
no_value_at_in_arm s (suc n) v k c m w (tree.Block ss line) = refl
no_value_at_in_arm s zero v k c m w (tree.Empty line) = refl
no_value_at_in_arm s (suc n) v k c m w (tree.Empty line) = refl
no_value_at_in_arm s zero v k c m w (tree.Expr e line) = refl
no_value_at_in_arm s (suc n) v k c m w (tree.Expr e line) = refl
no_value_at_in_arm s zero v k c m w (tree.Declare local line) = refl
no_value_at_in_arm s (suc n) v k c m w (tree.Declare local line) = refl
no_value_at_in_arm s zero v k c m w (tree.InitScalar local e line) = refl
no_value_at_in_arm s (suc n) v k c m w (tree.InitScalar local e line) = refl
no_value_at_in_arm s zero v k c m w (tree.InitList local all line) = refl
no_value_at_in_arm s (suc n) v k c m w (tree.InitList local all line) = refl
no_value_at_in_arm s zero v k c m w (tree.If chain otherwise line) = refl
no_value_at_in_arm s (suc n) v k c m w (tree.If chain otherwise line) = refl
no_value_at_in_arm s zero v k c m w (tree.Loop shape first condition step body line) = refl
no_value_at_in_arm s (suc n) v k c m w (tree.Loop shape first condition step body line) = refl
no_value_at_in_arm s zero v k c m w (tree.Switch e cases default ss line) = refl
no_value_at_in_arm s (suc n) v k c m w (tree.Switch e cases default ss line) = refl
no_value_at_in_arm s zero v k c m w (tree.Break line) = refl
no_value_at_in_arm s (suc n) v k c m w (tree.Break line) = refl
no_value_at_in_arm s zero v k c m w (tree.Continue line) = refl
no_value_at_in_arm s (suc n) v k c m w (tree.Continue line) = refl
no_value_at_in_arm s zero v k c m w (tree.Return e line) = refl
no_value_at_in_arm s (suc n) v k c m w (tree.Return e line) = refl

pub no_value_at_chooses : (s : Setting) (v : Datum) (k : List Pending) (c : CopyOf) (m : Memory) (w : World Byte) (t : Statement) → take_for s t (stage_in t stages.Chooses) v k c m w ≡ Lost
no_value_at_chooses s v k c m w (tree.Block ss line) = refl
no_value_at_chooses s v k c m w (tree.Empty line) = refl
no_value_at_chooses s v k c m w (tree.Expr e line) = refl
no_value_at_chooses s v k c m w (tree.Declare local line) = refl
no_value_at_chooses s v k c m w (tree.InitScalar local e line) = refl
no_value_at_chooses s v k c m w (tree.InitList local all line) = refl
no_value_at_chooses s v k c m w (tree.If chain otherwise line) = refl
no_value_at_chooses s v k c m w (tree.Loop shape first condition step body line) = refl
no_value_at_chooses s v k c m w (tree.Switch e cases default ss line) = refl
no_value_at_chooses s v k c m w (tree.Break line) = refl
no_value_at_chooses s v k c m w (tree.Continue line) = refl
no_value_at_chooses s v k c m w (tree.Return e line) = refl

pub no_value_at_fills : (s : Setting) (v : Datum) (k : List Pending) (c : CopyOf) (m : Memory) (w : World Byte) (t : Statement) → take_for s t (stage_in t stages.Fills) v k c m w ≡ Lost
no_value_at_fills s v k c m w (tree.Block ss line) = refl
no_value_at_fills s v k c m w (tree.Empty line) = refl
no_value_at_fills s v k c m w (tree.Expr e line) = refl
no_value_at_fills s v k c m w (tree.Declare local line) = refl
no_value_at_fills s v k c m w (tree.InitScalar local e line) = refl
no_value_at_fills s v k c m w (tree.InitList local all line) = refl
no_value_at_fills s v k c m w (tree.If chain otherwise line) = refl
no_value_at_fills s v k c m w (tree.Loop shape first condition step body line) = refl
no_value_at_fills s v k c m w (tree.Switch e cases default ss line) = refl
no_value_at_fills s v k c m w (tree.Break line) = refl
no_value_at_fills s v k c m w (tree.Continue line) = refl
no_value_at_fills s v k c m w (tree.Return e line) = refl

pub no_value_at_items : (s : Setting) (at : ℕ) (v : Datum) (k : List Pending) (c : CopyOf) (m : Memory) (w : World Byte) (t : Statement) → take_for s t (stage_in t (stages.Items at)) v k c m w ≡ Lost
no_value_at_items s zero v k c m w (tree.Block ss line) = refl
no_value_at_items s (suc n) v k c m w (tree.Block ss line) = refl
no_value_at_items s zero v k c m w (tree.Empty line) = refl
no_value_at_items s (suc n) v k c m w (tree.Empty line) = refl
no_value_at_items s zero v k c m w (tree.Expr e line) = refl
no_value_at_items s (suc n) v k c m w (tree.Expr e line) = refl
no_value_at_items s zero v k c m w (tree.Declare local line) = refl
no_value_at_items s (suc n) v k c m w (tree.Declare local line) = refl
no_value_at_items s zero v k c m w (tree.InitScalar local e line) = refl
no_value_at_items s (suc n) v k c m w (tree.InitScalar local e line) = refl
no_value_at_items s zero v k c m w (tree.InitList local all line) = no_value_items s local all line (drop zero all) v k c m w
no_value_at_items s (suc n) v k c m w (tree.InitList local all line) = no_value_items s local all line (drop (suc n) all) v k c m w
no_value_at_items s zero v k c m w (tree.If chain otherwise line) = refl
no_value_at_items s (suc n) v k c m w (tree.If chain otherwise line) = refl
no_value_at_items s zero v k c m w (tree.Loop shape first condition step body line) = refl
no_value_at_items s (suc n) v k c m w (tree.Loop shape first condition step body line) = refl
no_value_at_items s zero v k c m w (tree.Switch e cases default ss line) = refl
no_value_at_items s (suc n) v k c m w (tree.Switch e cases default ss line) = refl
no_value_at_items s zero v k c m w (tree.Break line) = refl
no_value_at_items s (suc n) v k c m w (tree.Break line) = refl
no_value_at_items s zero v k c m w (tree.Continue line) = refl
no_value_at_items s (suc n) v k c m w (tree.Continue line) = refl
no_value_at_items s zero v k c m w (tree.Return e line) = refl
no_value_at_items s (suc n) v k c m w (tree.Return e line) = refl

pub no_value_at_blanks : (s : Setting) (v : Datum) (k : List Pending) (c : CopyOf) (m : Memory) (w : World Byte) (t : Statement) → take_for s t (stage_in t stages.Blanks) v k c m w ≡ Lost
no_value_at_blanks s v k c m w (tree.Block ss line) = refl
no_value_at_blanks s v k c m w (tree.Empty line) = refl
no_value_at_blanks s v k c m w (tree.Expr e line) = refl
no_value_at_blanks s v k c m w (tree.Declare local line) = refl
no_value_at_blanks s v k c m w (tree.InitScalar local e line) = refl
no_value_at_blanks s v k c m w (tree.InitList local all line) = refl
no_value_at_blanks s v k c m w (tree.If chain otherwise line) = refl
no_value_at_blanks s v k c m w (tree.Loop shape first condition step body line) = refl
no_value_at_blanks s v k c m w (tree.Switch e cases default ss line) = refl
no_value_at_blanks s v k c m w (tree.Break line) = refl
no_value_at_blanks s v k c m w (tree.Continue line) = refl
no_value_at_blanks s v k c m w (tree.Return e line) = refl

-- ---- labels
pub no_label_tests : (v : Datum) (labels : List TCase) (k : List Pending) (c : CopyOf) (m : Memory) (w : World Byte) (t : Statement) → compares_for t (stage_in t stages.Tests) v labels k c m w ≡ Lost
no_label_tests v labels k c m w (tree.Block ss line) = refl
no_label_tests v labels k c m w (tree.Empty line) = refl
no_label_tests v labels k c m w (tree.Expr e line) = refl
no_label_tests v labels k c m w (tree.Declare local line) = refl
no_label_tests v labels k c m w (tree.InitScalar local e line) = refl
no_label_tests v labels k c m w (tree.InitList local all line) = refl
no_label_tests v labels k c m w (tree.If chain otherwise line) = refl
no_label_tests v labels k c m w (tree.Loop shape first condition step body line) = refl
no_label_tests v labels k c m w (tree.Switch e cases default ss line) = refl
no_label_tests v labels k c m w (tree.Break line) = refl
no_label_tests v labels k c m w (tree.Continue line) = refl
no_label_tests v labels k c m w (tree.Return e line) = refl

pub no_label_begins : (v : Datum) (labels : List TCase) (k : List Pending) (c : CopyOf) (m : Memory) (w : World Byte) (t : Statement) → compares_for t (stage_in t stages.Begins) v labels k c m w ≡ Lost
no_label_begins v labels k c m w (tree.Block ss line) = refl
no_label_begins v labels k c m w (tree.Empty line) = refl
no_label_begins v labels k c m w (tree.Expr e line) = refl
no_label_begins v labels k c m w (tree.Declare local line) = refl
no_label_begins v labels k c m w (tree.InitScalar local e line) = refl
no_label_begins v labels k c m w (tree.InitList local all line) = refl
no_label_begins v labels k c m w (tree.If chain otherwise line) = refl
no_label_begins v labels k c m w (tree.Loop shape first condition step body line) = refl
no_label_begins v labels k c m w (tree.Switch e cases default ss line) = refl
no_label_begins v labels k c m w (tree.Break line) = refl
no_label_begins v labels k c m w (tree.Continue line) = refl
no_label_begins v labels k c m w (tree.Return e line) = refl

pub no_label_steps : (v : Datum) (labels : List TCase) (k : List Pending) (c : CopyOf) (m : Memory) (w : World Byte) (t : Statement) → compares_for t (stage_in t stages.Steps) v labels k c m w ≡ Lost
no_label_steps v labels k c m w (tree.Block ss line) = refl
no_label_steps v labels k c m w (tree.Empty line) = refl
no_label_steps v labels k c m w (tree.Expr e line) = refl
no_label_steps v labels k c m w (tree.Declare local line) = refl
no_label_steps v labels k c m w (tree.InitScalar local e line) = refl
no_label_steps v labels k c m w (tree.InitList local all line) = refl
no_label_steps v labels k c m w (tree.If chain otherwise line) = refl
no_label_steps v labels k c m w (tree.Loop shape first condition step body line) = refl
no_label_steps v labels k c m w (tree.Switch e cases default ss line) = refl
no_label_steps v labels k c m w (tree.Break line) = refl
no_label_steps v labels k c m w (tree.Continue line) = refl
no_label_steps v labels k c m w (tree.Return e line) = refl

pub no_label_turns : (v : Datum) (labels : List TCase) (k : List Pending) (c : CopyOf) (m : Memory) (w : World Byte) (t : Statement) → compares_for t (stage_in t stages.Turns) v labels k c m w ≡ Lost
no_label_turns v labels k c m w (tree.Block ss line) = refl
no_label_turns v labels k c m w (tree.Empty line) = refl
no_label_turns v labels k c m w (tree.Expr e line) = refl
no_label_turns v labels k c m w (tree.Declare local line) = refl
no_label_turns v labels k c m w (tree.InitScalar local e line) = refl
no_label_turns v labels k c m w (tree.InitList local all line) = refl
no_label_turns v labels k c m w (tree.If chain otherwise line) = refl
no_label_turns v labels k c m w (tree.Loop shape first condition step body line) = refl
no_label_turns v labels k c m w (tree.Switch e cases default ss line) = refl
no_label_turns v labels k c m w (tree.Break line) = refl
no_label_turns v labels k c m w (tree.Continue line) = refl
no_label_turns v labels k c m w (tree.Return e line) = refl

pub no_label_picks : (at : ℕ) (v : Datum) (labels : List TCase) (k : List Pending) (c : CopyOf) (m : Memory) (w : World Byte) (t : Statement) → compares_for t (stage_in t (stages.Picks at)) v labels k c m w ≡ Lost
no_label_picks zero v labels k c m w (tree.Block ss line) = refl
no_label_picks (suc n) v labels k c m w (tree.Block ss line) = refl
no_label_picks zero v labels k c m w (tree.Empty line) = refl
no_label_picks (suc n) v labels k c m w (tree.Empty line) = refl
no_label_picks zero v labels k c m w (tree.Expr e line) = refl
no_label_picks (suc n) v labels k c m w (tree.Expr e line) = refl
no_label_picks zero v labels k c m w (tree.Declare local line) = refl
no_label_picks (suc n) v labels k c m w (tree.Declare local line) = refl
no_label_picks zero v labels k c m w (tree.InitScalar local e line) = refl
no_label_picks (suc n) v labels k c m w (tree.InitScalar local e line) = refl
no_label_picks zero v labels k c m w (tree.InitList local all line) = refl
no_label_picks (suc n) v labels k c m w (tree.InitList local all line) = refl
no_label_picks zero v labels k c m w (tree.If chain otherwise line) = refl
no_label_picks (suc n) v labels k c m w (tree.If chain otherwise line) = refl
no_label_picks zero v labels k c m w (tree.Loop shape first condition step body line) = refl
no_label_picks (suc n) v labels k c m w (tree.Loop shape first condition step body line) = refl
no_label_picks zero v labels k c m w (tree.Switch e cases default ss line) = refl
no_label_picks (suc n) v labels k c m w (tree.Switch e cases default ss line) = refl
no_label_picks zero v labels k c m w (tree.Break line) = refl
no_label_picks (suc n) v labels k c m w (tree.Break line) = refl
no_label_picks zero v labels k c m w (tree.Continue line) = refl
no_label_picks (suc n) v labels k c m w (tree.Continue line) = refl
no_label_picks zero v labels k c m w (tree.Return e line) = refl
no_label_picks (suc n) v labels k c m w (tree.Return e line) = refl

pub no_label_in_arm : (at : ℕ) (v : Datum) (labels : List TCase) (k : List Pending) (c : CopyOf) (m : Memory) (w : World Byte) (t : Statement) → compares_for t (stage_in t (stages.InArm at)) v labels k c m w ≡ Lost
no_label_in_arm zero v labels k c m w (tree.Block ss line) = refl
no_label_in_arm (suc n) v labels k c m w (tree.Block ss line) = refl
no_label_in_arm zero v labels k c m w (tree.Empty line) = refl
no_label_in_arm (suc n) v labels k c m w (tree.Empty line) = refl
no_label_in_arm zero v labels k c m w (tree.Expr e line) = refl
no_label_in_arm (suc n) v labels k c m w (tree.Expr e line) = refl
no_label_in_arm zero v labels k c m w (tree.Declare local line) = refl
no_label_in_arm (suc n) v labels k c m w (tree.Declare local line) = refl
no_label_in_arm zero v labels k c m w (tree.InitScalar local e line) = refl
no_label_in_arm (suc n) v labels k c m w (tree.InitScalar local e line) = refl
no_label_in_arm zero v labels k c m w (tree.InitList local all line) = refl
no_label_in_arm (suc n) v labels k c m w (tree.InitList local all line) = refl
no_label_in_arm zero v labels k c m w (tree.If chain otherwise line) = refl
no_label_in_arm (suc n) v labels k c m w (tree.If chain otherwise line) = refl
no_label_in_arm zero v labels k c m w (tree.Loop shape first condition step body line) = refl
no_label_in_arm (suc n) v labels k c m w (tree.Loop shape first condition step body line) = refl
no_label_in_arm zero v labels k c m w (tree.Switch e cases default ss line) = refl
no_label_in_arm (suc n) v labels k c m w (tree.Switch e cases default ss line) = refl
no_label_in_arm zero v labels k c m w (tree.Break line) = refl
no_label_in_arm (suc n) v labels k c m w (tree.Break line) = refl
no_label_in_arm zero v labels k c m w (tree.Continue line) = refl
no_label_in_arm (suc n) v labels k c m w (tree.Continue line) = refl
no_label_in_arm zero v labels k c m w (tree.Return e line) = refl
no_label_in_arm (suc n) v labels k c m w (tree.Return e line) = refl

pub no_label_fills : (v : Datum) (labels : List TCase) (k : List Pending) (c : CopyOf) (m : Memory) (w : World Byte) (t : Statement) → compares_for t (stage_in t stages.Fills) v labels k c m w ≡ Lost
no_label_fills v labels k c m w (tree.Block ss line) = refl
no_label_fills v labels k c m w (tree.Empty line) = refl
no_label_fills v labels k c m w (tree.Expr e line) = refl
no_label_fills v labels k c m w (tree.Declare local line) = refl
no_label_fills v labels k c m w (tree.InitScalar local e line) = refl
no_label_fills v labels k c m w (tree.InitList local all line) = refl
no_label_fills v labels k c m w (tree.If chain otherwise line) = refl
no_label_fills v labels k c m w (tree.Loop shape first condition step body line) = refl
no_label_fills v labels k c m w (tree.Switch e cases default ss line) = refl
no_label_fills v labels k c m w (tree.Break line) = refl
no_label_fills v labels k c m w (tree.Continue line) = refl
no_label_fills v labels k c m w (tree.Return e line) = refl

pub no_label_at_item : (at : ℕ) (v : Datum) (labels : List TCase) (k : List Pending) (c : CopyOf) (m : Memory) (w : World Byte) (t : Statement) → compares_for t (stage_in t (stages.AtItem at)) v labels k c m w ≡ Lost
no_label_at_item zero v labels k c m w (tree.Block ss line) = refl
no_label_at_item (suc n) v labels k c m w (tree.Block ss line) = refl
no_label_at_item zero v labels k c m w (tree.Empty line) = refl
no_label_at_item (suc n) v labels k c m w (tree.Empty line) = refl
no_label_at_item zero v labels k c m w (tree.Expr e line) = refl
no_label_at_item (suc n) v labels k c m w (tree.Expr e line) = refl
no_label_at_item zero v labels k c m w (tree.Declare local line) = refl
no_label_at_item (suc n) v labels k c m w (tree.Declare local line) = refl
no_label_at_item zero v labels k c m w (tree.InitScalar local e line) = refl
no_label_at_item (suc n) v labels k c m w (tree.InitScalar local e line) = refl
no_label_at_item zero v labels k c m w (tree.InitList local all line) = refl
no_label_at_item (suc n) v labels k c m w (tree.InitList local all line) = refl
no_label_at_item zero v labels k c m w (tree.If chain otherwise line) = refl
no_label_at_item (suc n) v labels k c m w (tree.If chain otherwise line) = refl
no_label_at_item zero v labels k c m w (tree.Loop shape first condition step body line) = refl
no_label_at_item (suc n) v labels k c m w (tree.Loop shape first condition step body line) = refl
no_label_at_item zero v labels k c m w (tree.Switch e cases default ss line) = refl
no_label_at_item (suc n) v labels k c m w (tree.Switch e cases default ss line) = refl
no_label_at_item zero v labels k c m w (tree.Break line) = refl
no_label_at_item (suc n) v labels k c m w (tree.Break line) = refl
no_label_at_item zero v labels k c m w (tree.Continue line) = refl
no_label_at_item (suc n) v labels k c m w (tree.Continue line) = refl
no_label_at_item zero v labels k c m w (tree.Return e line) = refl
no_label_at_item (suc n) v labels k c m w (tree.Return e line) = refl

pub no_label_items : (at : ℕ) (v : Datum) (labels : List TCase) (k : List Pending) (c : CopyOf) (m : Memory) (w : World Byte) (t : Statement) → compares_for t (stage_in t (stages.Items at)) v labels k c m w ≡ Lost
no_label_items zero v labels k c m w (tree.Block ss line) = refl
no_label_items (suc n) v labels k c m w (tree.Block ss line) = refl
no_label_items zero v labels k c m w (tree.Empty line) = refl
no_label_items (suc n) v labels k c m w (tree.Empty line) = refl
no_label_items zero v labels k c m w (tree.Expr e line) = refl
no_label_items (suc n) v labels k c m w (tree.Expr e line) = refl
no_label_items zero v labels k c m w (tree.Declare local line) = refl
no_label_items (suc n) v labels k c m w (tree.Declare local line) = refl
no_label_items zero v labels k c m w (tree.InitScalar local e line) = refl
no_label_items (suc n) v labels k c m w (tree.InitScalar local e line) = refl
no_label_items zero v labels k c m w (tree.InitList local all line) = refl
no_label_items (suc n) v labels k c m w (tree.InitList local all line) = refl
no_label_items zero v labels k c m w (tree.If chain otherwise line) = refl
no_label_items (suc n) v labels k c m w (tree.If chain otherwise line) = refl
no_label_items zero v labels k c m w (tree.Loop shape first condition step body line) = refl
no_label_items (suc n) v labels k c m w (tree.Loop shape first condition step body line) = refl
no_label_items zero v labels k c m w (tree.Switch e cases default ss line) = refl
no_label_items (suc n) v labels k c m w (tree.Switch e cases default ss line) = refl
no_label_items zero v labels k c m w (tree.Break line) = refl
no_label_items (suc n) v labels k c m w (tree.Break line) = refl
no_label_items zero v labels k c m w (tree.Continue line) = refl
no_label_items (suc n) v labels k c m w (tree.Continue line) = refl
no_label_items zero v labels k c m w (tree.Return e line) = refl
no_label_items (suc n) v labels k c m w (tree.Return e line) = refl

pub no_label_blanks : (v : Datum) (labels : List TCase) (k : List Pending) (c : CopyOf) (m : Memory) (w : World Byte) (t : Statement) → compares_for t (stage_in t stages.Blanks) v labels k c m w ≡ Lost
no_label_blanks v labels k c m w (tree.Block ss line) = refl
no_label_blanks v labels k c m w (tree.Empty line) = refl
no_label_blanks v labels k c m w (tree.Expr e line) = refl
no_label_blanks v labels k c m w (tree.Declare local line) = refl
no_label_blanks v labels k c m w (tree.InitScalar local e line) = refl
no_label_blanks v labels k c m w (tree.InitList local all line) = refl
no_label_blanks v labels k c m w (tree.If chain otherwise line) = refl
no_label_blanks v labels k c m w (tree.Loop shape first condition step body line) = refl
no_label_blanks v labels k c m w (tree.Switch e cases default ss line) = refl
no_label_blanks v labels k c m w (tree.Break line) = refl
no_label_blanks v labels k c m w (tree.Continue line) = refl
no_label_blanks v labels k c m w (tree.Return e line) = refl

pub labels_block : (statements : Vec TStmt Global) (line : _) (v : Datum) (labels : List TCase) (k : List Pending) (c : CopyOf) (m : Memory) (w : World Byte) → compares_for (statement_of (TStmt.Block statements line)) Chooses v labels k c m w ≡ Lost
labels_block statements line v labels k c m w = ap (λ t. compares_for t Chooses v labels k c m w) (show_statement_block statements line)

pub labels_empty : (line : _) (v : Datum) (labels : List TCase) (k : List Pending) (c : CopyOf) (m : Memory) (w : World Byte) → compares_for (statement_of (TStmt.Empty line)) Chooses v labels k c m w ≡ Lost
labels_empty line v labels k c m w = ap (λ t. compares_for t Chooses v labels k c m w) (show_statement_empty line)

pub labels_expr : (value : _) (line : _) (v : Datum) (labels : List TCase) (k : List Pending) (c : CopyOf) (m : Memory) (w : World Byte) → compares_for (statement_of (TStmt.Expr value line)) Chooses v labels k c m w ≡ Lost
labels_expr value line v labels k c m w = ap (λ t. compares_for t Chooses v labels k c m w) (show_statement_expr value line)

pub labels_declare : (local : _) (line : _) (v : Datum) (labels : List TCase) (k : List Pending) (c : CopyOf) (m : Memory) (w : World Byte) → compares_for (statement_of (TStmt.Declare local line)) Chooses v labels k c m w ≡ Lost
labels_declare local line v labels k c m w = ap (λ t. compares_for t Chooses v labels k c m w) (show_statement_declare local line)

pub labels_init_scalar : (local : _) (value : _) (line : _) (v : Datum) (labels : List TCase) (k : List Pending) (c : CopyOf) (m : Memory) (w : World Byte) → compares_for (statement_of (TStmt.InitScalar local value line)) Chooses v labels k c m w ≡ Lost
labels_init_scalar local value line v labels k c m w = ap (λ t. compares_for t Chooses v labels k c m w) (show_statement_init_scalar local value line)

pub labels_init_list : (local : _) (items : _) (line : _) (v : Datum) (labels : List TCase) (k : List Pending) (c : CopyOf) (m : Memory) (w : World Byte) → compares_for (statement_of (TStmt.InitList local items line)) Chooses v labels k c m w ≡ Lost
labels_init_list local items line v labels k c m w = ap (λ t. compares_for t Chooses v labels k c m w) (show_statement_init_list local items line)

pub labels_if : (arms : Vec TArm Global) (otherwise : _) (line : _) (v : Datum) (labels : List TCase) (k : List Pending) (c : CopyOf) (m : Memory) (w : World Byte) → compares_for (statement_of (TStmt.If arms otherwise line)) Chooses v labels k c m w ≡ Lost
labels_if arms otherwise line v labels k c m w = ap (λ t. compares_for t Chooses v labels k c m w) (show_statement_if arms otherwise line)

pub labels_loop : (shape : _) (begin : _) (condition : _) (step : _) (body : _) (line : _) (v : Datum) (labels : List TCase) (k : List Pending) (c : CopyOf) (m : Memory) (w : World Byte) → compares_for (statement_of (TStmt.Loop shape begin condition step body line)) Chooses v labels k c m w ≡ Lost
labels_loop shape begin condition step body line v labels k c m w = ap (λ t. compares_for t Chooses v labels k c m w) (show_statement_loop shape begin condition step body line)

pub labels_switch : (value : _) (cases : Vec TCase Global) (default : _) (statements : Vec TStmt Global) (line : _) (v : Datum) (labels : List TCase) (k : List Pending) (c : CopyOf) (m : Memory) (w : World Byte) → compares_for (statement_of (TStmt.Switch value cases default statements line)) Chooses v labels k c m w ≡ compares_in (statement_of (TStmt.Switch value cases default statements line)) (statements_of (map statement_of statements.items)) default v labels k c m w
labels_switch value cases default statements line v labels k c m w = subst (λ t. compares_for t Chooses v labels k c m w ≡ compares_in t (statements_of (map statement_of statements.items)) default v labels k c m w) (sym (show_statement_switch value cases default statements line)) refl

pub labels_break : (line : _) (v : Datum) (labels : List TCase) (k : List Pending) (c : CopyOf) (m : Memory) (w : World Byte) → compares_for (statement_of (TStmt.Break line)) Chooses v labels k c m w ≡ Lost
labels_break line v labels k c m w = ap (λ t. compares_for t Chooses v labels k c m w) (show_statement_break line)

pub labels_continue : (line : _) (v : Datum) (labels : List TCase) (k : List Pending) (c : CopyOf) (m : Memory) (w : World Byte) → compares_for (statement_of (TStmt.Continue line)) Chooses v labels k c m w ≡ Lost
labels_continue line v labels k c m w = ap (λ t. compares_for t Chooses v labels k c m w) (show_statement_continue line)

pub labels_return : (value : _) (line : _) (v : Datum) (labels : List TCase) (k : List Pending) (c : CopyOf) (m : Memory) (w : World Byte) → compares_for (statement_of (TStmt.Return value line)) Chooses v labels k c m w ≡ Lost
labels_return value line v labels k c m w = ap (λ t. compares_for t Chooses v labels k c m w) (show_statement_return value line)

label_behind : (labels : List TCase) (n : ℕ) (label : TCase) → n < length labels → label ≡ get_or labels n label → drop n labels ≡ label ∷ drop (suc n) labels
label_behind [] n label h e = absurd (omega arith)
label_behind (x ∷ xs) zero label h e = ap (λ y. y ∷ xs) (sym e)
label_behind (x ∷ xs) (suc n) label h e = label_behind xs n label (omega arith) e

one_more : (n : ℕ) → suc n ≡ n + 1
one_more n = omega arith

pub one_label : (labels : List TCase) (n : ℕ) (label : TCase) → n < length labels → label ≡ get_or labels n label → drop n labels ≡ label ∷ drop (n + 1) labels
one_label labels n label h e = label_behind labels n label h e ∙ ap (λ j. label ∷ drop j labels) (one_more n)

pub no_label : (labels : List TCase) (n : ℕ) → length labels ≤ n → drop n labels ≡ []
no_label [] zero h = refl
no_label [] (suc n) h = refl
no_label (x ∷ xs) zero h = absurd (omega arith)
no_label (x ∷ xs) (suc n) h = no_label xs n (omega arith)

-- the statements behind so many
pub all_behind : (ss : List TStmt) (n : ℕ) → statements_behind n (statements_of (map statement_of ss)) ≡ statements_of (map statement_of (drop n ss))
all_behind [] zero = refl
all_behind [] (suc n) = refl
all_behind (s ∷ ss) zero = refl
all_behind (s ∷ ss) (suc n) = all_behind ss n

pub ruleset tests = (tests_expr, tests_init_scalar, tests_loop, tests_switch, tests_return)

pub ruleset begins = (begins_loop)

pub ruleset steps = (steps_loop)

pub ruleset items_taken = (item_taken_scalar, item_taken_struct, item_taken_text, item_taken_none)

pub ruleset arms_taken = (is_if)

pub ruleset no_values = (no_value_at_turns, no_value_at_in_arm, no_value_at_chooses, no_value_at_fills, no_value_at_items, no_value_at_blanks)

pub ruleset no_labels = (no_label_tests, no_label_begins, no_label_steps, no_label_turns, no_label_picks, no_label_in_arm, no_label_fills, no_label_at_item, no_label_items, no_label_blanks)

pub ruleset labels = (labels_switch)

pub ruleset one_more_label = (one_label, no_label)
