-- How each statement begins, and what follows a part of it, of the trees that the code has.
use Rattle.std.proofs.Common.{◌≡◌, ℕ, true, false, List, ◌∷◌, map, Option, Some, None, option_map, refl, sym, subst, ap, ◌∙◌}
use Rattle.c_typed.proofs.Shapes.{show_statement_block, show_statement_empty, show_statement_expr, show_statement_declare, show_statement_init_scalar, show_statement_init_list, show_statement_if_alone, show_statement_if_else, show_statement_loop, show_statement_switch, show_statement_break, show_statement_continue, show_statement_return}
use Rattle.c_typed.specs.Trees as tree
use Rattle.c_typed.specs.Trees.{Expression, Statement, Arms}
use Rattle.c_typed.specs.Views.{expression_of, statement_of, statements_of, arm_of, arms_of, last_arm_of, item_of}
use Rattle.std.specs.Prelude.{Vec}
use Rattle.std.specs.Global.{Global}
use Rattle.c_typed.specs.declared.statement.TItem.{TItem}
use Rattle.c_typed.specs.declared.statement.TStmt.{TStmt}
use Rattle.c_typed.specs.declared.statement.TStmt.TheVariants as TStmt
use Rattle.pic_world.specs.World.{World}
use Rattle.src_machine.specs.Branches.{IsIf, HasItems, is_return, returned}
use Rattle.src_rules.specs.Accesses.{goes, items}
use Rattle.src_rules.specs.State.{Lost}
use Rattle.src_rules.specs.Statements.{begin, turned, next_of, loops, arms, break_at, continue_at}
use Rattle.src_values.specs.Control.{Eval, Past, Tests, Turns, InArm, Pending, Doing, Before, statement_line}
use Rattle.src_values.specs.Memory.{Setting, Memory, cleared}
use Rattle.src_values.specs.Objects.{local_of}
use Rattle.src_values.specs.Seen.{arms_from, arms_in, items_in}
use Rattle.src_values.specs.declared.objects.Byte.{Byte}
use Rattle.src_values.specs.declared.objects.CopyOf.{CopyOf}

pub starts_block : (s : Setting) (ss : _) (line : _) (k : List Pending) (c : CopyOf) (m : Memory) (w : World Byte) → begin s (statement_of (TStmt.Block ss line)) k c m w ≡ goes c Past (Before (statements_of (map statement_of ss.items)) ∷ k) m w
starts_block s ss line k c m w = ap (λ t. begin s t k c m w) (show_statement_block ss line)

pub turns_block : (ss : _) (line : _) (k : List Pending) (c : CopyOf) (m : Memory) (w : World Byte) → turned (statement_of (TStmt.Block ss line)) Turns k c m w ≡ Lost
turns_block ss line k c m w = ap (λ t. turned t Turns k c m w) (show_statement_block ss line)

pub arm_ends_block : (ss : _) (line : _) (others : Arms) (k : List Pending) (c : CopyOf) (m : Memory) (w : World Byte) → turned (statement_of (TStmt.Block ss line)) (InArm others) k c m w ≡ Lost
arm_ends_block ss line others k c m w = ap (λ t. turned t (InArm others) k c m w) (show_statement_block ss line)

pub is_return_block : (ss : _) (line : _) → is_return (statement_of (TStmt.Block ss line)) ≡ false
is_return_block ss line = ap is_return (show_statement_block ss line)

pub starts_empty : (s : Setting) (line : _) (k : List Pending) (c : CopyOf) (m : Memory) (w : World Byte) → begin s (statement_of (TStmt.Empty line)) k c m w ≡ goes c Past k m w
starts_empty s line k c m w = ap (λ t. begin s t k c m w) (show_statement_empty line)

pub turns_empty : (line : _) (k : List Pending) (c : CopyOf) (m : Memory) (w : World Byte) → turned (statement_of (TStmt.Empty line)) Turns k c m w ≡ Lost
turns_empty line k c m w = ap (λ t. turned t Turns k c m w) (show_statement_empty line)

pub arm_ends_empty : (line : _) (others : Arms) (k : List Pending) (c : CopyOf) (m : Memory) (w : World Byte) → turned (statement_of (TStmt.Empty line)) (InArm others) k c m w ≡ Lost
arm_ends_empty line others k c m w = ap (λ t. turned t (InArm others) k c m w) (show_statement_empty line)

pub is_return_empty : (line : _) → is_return (statement_of (TStmt.Empty line)) ≡ false
is_return_empty line = ap is_return (show_statement_empty line)

pub starts_expr : (s : Setting) (value : _) (line : _) (k : List Pending) (c : CopyOf) (m : Memory) (w : World Byte) → begin s (statement_of (TStmt.Expr value line)) k c m w ≡ goes c (Eval (expression_of value)) (Doing (statement_of (TStmt.Expr value line)) Tests ∷ k) m w
starts_expr s value line k c m w = subst (λ t. begin s t k c m w ≡ goes c (Eval (expression_of value)) (Doing t Tests ∷ k) m w) (sym (show_statement_expr value line)) refl

pub turns_expr : (value : _) (line : _) (k : List Pending) (c : CopyOf) (m : Memory) (w : World Byte) → turned (statement_of (TStmt.Expr value line)) Turns k c m w ≡ Lost
turns_expr value line k c m w = ap (λ t. turned t Turns k c m w) (show_statement_expr value line)

pub arm_ends_expr : (value : _) (line : _) (others : Arms) (k : List Pending) (c : CopyOf) (m : Memory) (w : World Byte) → turned (statement_of (TStmt.Expr value line)) (InArm others) k c m w ≡ Lost
arm_ends_expr value line others k c m w = ap (λ t. turned t (InArm others) k c m w) (show_statement_expr value line)

pub is_return_expr : (value : _) (line : _) → is_return (statement_of (TStmt.Expr value line)) ≡ false
is_return_expr value line = ap is_return (show_statement_expr value line)

pub starts_declare : (s : Setting) (local : _) (line : _) (k : List Pending) (c : CopyOf) (m : Memory) (w : World Byte) → begin s (statement_of (TStmt.Declare local line)) k c m w ≡ goes c Past k (cleared m (local_of s.program c local)) w
starts_declare s local line k c m w = ap (λ t. begin s t k c m w) (show_statement_declare local line)

pub turns_declare : (local : _) (line : _) (k : List Pending) (c : CopyOf) (m : Memory) (w : World Byte) → turned (statement_of (TStmt.Declare local line)) Turns k c m w ≡ Lost
turns_declare local line k c m w = ap (λ t. turned t Turns k c m w) (show_statement_declare local line)

pub arm_ends_declare : (local : _) (line : _) (others : Arms) (k : List Pending) (c : CopyOf) (m : Memory) (w : World Byte) → turned (statement_of (TStmt.Declare local line)) (InArm others) k c m w ≡ Lost
arm_ends_declare local line others k c m w = ap (λ t. turned t (InArm others) k c m w) (show_statement_declare local line)

pub is_return_declare : (local : _) (line : _) → is_return (statement_of (TStmt.Declare local line)) ≡ false
is_return_declare local line = ap is_return (show_statement_declare local line)

pub starts_init_scalar : (s : Setting) (local : _) (value : _) (line : _) (k : List Pending) (c : CopyOf) (m : Memory) (w : World Byte) → begin s (statement_of (TStmt.InitScalar local value line)) k c m w ≡ goes c (Eval (expression_of value)) (Doing (statement_of (TStmt.InitScalar local value line)) Tests ∷ k) (cleared m (local_of s.program c local)) w
starts_init_scalar s local value line k c m w = subst (λ t. begin s t k c m w ≡ goes c (Eval (expression_of value)) (Doing t Tests ∷ k) (cleared m (local_of s.program c local)) w) (sym (show_statement_init_scalar local value line)) refl

pub turns_init_scalar : (local : _) (value : _) (line : _) (k : List Pending) (c : CopyOf) (m : Memory) (w : World Byte) → turned (statement_of (TStmt.InitScalar local value line)) Turns k c m w ≡ Lost
turns_init_scalar local value line k c m w = ap (λ t. turned t Turns k c m w) (show_statement_init_scalar local value line)

pub arm_ends_init_scalar : (local : _) (value : _) (line : _) (others : Arms) (k : List Pending) (c : CopyOf) (m : Memory) (w : World Byte) → turned (statement_of (TStmt.InitScalar local value line)) (InArm others) k c m w ≡ Lost
arm_ends_init_scalar local value line others k c m w = ap (λ t. turned t (InArm others) k c m w) (show_statement_init_scalar local value line)

pub is_return_init_scalar : (local : _) (value : _) (line : _) → is_return (statement_of (TStmt.InitScalar local value line)) ≡ false
is_return_init_scalar local value line = ap is_return (show_statement_init_scalar local value line)

pub starts_init_list : (s : Setting) (local : _) (all : _) (line : _) (k : List Pending) (c : CopyOf) (m : Memory) (w : World Byte) → begin s (statement_of (TStmt.InitList local all line)) k c m w ≡ items s (statement_of (TStmt.InitList local all line)) (local_of s.program c local) (map item_of all.items) k c (cleared m (local_of s.program c local)) w
starts_init_list s local all line k c m w = subst (λ t. begin s t k c m w ≡ items s t (local_of s.program c local) (map item_of all.items) k c (cleared m (local_of s.program c local)) w) (sym (show_statement_init_list local all line)) refl

pub turns_init_list : (local : _) (all : _) (line : _) (k : List Pending) (c : CopyOf) (m : Memory) (w : World Byte) → turned (statement_of (TStmt.InitList local all line)) Turns k c m w ≡ Lost
turns_init_list local all line k c m w = ap (λ t. turned t Turns k c m w) (show_statement_init_list local all line)

pub arm_ends_init_list : (local : _) (all : _) (line : _) (others : Arms) (k : List Pending) (c : CopyOf) (m : Memory) (w : World Byte) → turned (statement_of (TStmt.InitList local all line)) (InArm others) k c m w ≡ Lost
arm_ends_init_list local all line others k c m w = ap (λ t. turned t (InArm others) k c m w) (show_statement_init_list local all line)

pub is_return_init_list : (local : _) (all : _) (line : _) → is_return (statement_of (TStmt.InitList local all line)) ≡ false
is_return_init_list local all line = ap is_return (show_statement_init_list local all line)

pub starts_if_alone : (s : Setting) (chain : _) (line : _) (k : List Pending) (c : CopyOf) (m : Memory) (w : World Byte) → begin s (statement_of (TStmt.If chain None line)) k c m w ≡ arms (statement_of (TStmt.If chain None line)) (arms_of (map arm_of chain.items)) tree.NoLast k c m w
starts_if_alone s chain line k c m w = subst (λ t. begin s t k c m w ≡ arms t (arms_of (map arm_of chain.items)) tree.NoLast k c m w) (sym (show_statement_if_alone chain line)) refl

pub turns_if_alone : (chain : _) (line : _) (k : List Pending) (c : CopyOf) (m : Memory) (w : World Byte) → turned (statement_of (TStmt.If chain None line)) Turns k c m w ≡ Lost
turns_if_alone chain line k c m w = ap (λ t. turned t Turns k c m w) (show_statement_if_alone chain line)

pub arm_ends_if_alone : (chain : _) (line : _) (others : Arms) (k : List Pending) (c : CopyOf) (m : Memory) (w : World Byte) → turned (statement_of (TStmt.If chain None line)) (InArm others) k c m w ≡ goes c Past k m w
arm_ends_if_alone chain line others k c m w = ap (λ t. turned t (InArm others) k c m w) (show_statement_if_alone chain line)

pub is_return_if_alone : (chain : _) (line : _) → is_return (statement_of (TStmt.If chain None line)) ≡ false
is_return_if_alone chain line = ap is_return (show_statement_if_alone chain line)

pub starts_if_else : (s : Setting) (chain : _) (last : _) (line : _) (k : List Pending) (c : CopyOf) (m : Memory) (w : World Byte) → begin s (statement_of (TStmt.If chain (Some last) line)) k c m w ≡ arms (statement_of (TStmt.If chain (Some last) line)) (arms_of (map arm_of chain.items)) (tree.Last (statement_of last.value)) k c m w
starts_if_else s chain last line k c m w = subst (λ t. begin s t k c m w ≡ arms t (arms_of (map arm_of chain.items)) (tree.Last (statement_of last.value)) k c m w) (sym (show_statement_if_else chain last line)) refl

pub turns_if_else : (chain : _) (last : _) (line : _) (k : List Pending) (c : CopyOf) (m : Memory) (w : World Byte) → turned (statement_of (TStmt.If chain (Some last) line)) Turns k c m w ≡ Lost
turns_if_else chain last line k c m w = ap (λ t. turned t Turns k c m w) (show_statement_if_else chain last line)

pub arm_ends_if_else : (chain : _) (last : _) (line : _) (others : Arms) (k : List Pending) (c : CopyOf) (m : Memory) (w : World Byte) → turned (statement_of (TStmt.If chain (Some last) line)) (InArm others) k c m w ≡ goes c Past k m w
arm_ends_if_else chain last line others k c m w = ap (λ t. turned t (InArm others) k c m w) (show_statement_if_else chain last line)

pub is_return_if_else : (chain : _) (last : _) (line : _) → is_return (statement_of (TStmt.If chain (Some last) line)) ≡ false
is_return_if_else chain last line = ap is_return (show_statement_if_else chain last line)

pub starts_loop : (s : Setting) (shape : _) (first : _) (condition : _) (step : _) (body : _) (line : _) (k : List Pending) (c : CopyOf) (m : Memory) (w : World Byte) → begin s (statement_of (TStmt.Loop shape first condition step body line)) k c m w ≡ loops shape (statement_of (TStmt.Loop shape first condition step body line)) (option_map expression_of first) (option_map expression_of condition) (statement_of body.value) k c m w
starts_loop s shape first condition step body line k c m w = subst (λ t. begin s t k c m w ≡ loops shape t (option_map expression_of first) (option_map expression_of condition) (statement_of body.value) k c m w) (sym (show_statement_loop shape first condition step body line)) refl

pub turns_loop : (shape : _) (first : _) (condition : _) (step : _) (body : _) (line : _) (k : List Pending) (c : CopyOf) (m : Memory) (w : World Byte) → turned (statement_of (TStmt.Loop shape first condition step body line)) Turns k c m w ≡ next_of (statement_of (TStmt.Loop shape first condition step body line)) (option_map expression_of step) (option_map expression_of condition) (statement_of body.value) k c m w
turns_loop shape first condition step body line k c m w = subst (λ t. turned t Turns k c m w ≡ next_of t (option_map expression_of step) (option_map expression_of condition) (statement_of body.value) k c m w) (sym (show_statement_loop shape first condition step body line)) refl

pub arm_ends_loop : (shape : _) (first : _) (condition : _) (step : _) (body : _) (line : _) (others : Arms) (k : List Pending) (c : CopyOf) (m : Memory) (w : World Byte) → turned (statement_of (TStmt.Loop shape first condition step body line)) (InArm others) k c m w ≡ Lost
arm_ends_loop shape first condition step body line others k c m w = ap (λ t. turned t (InArm others) k c m w) (show_statement_loop shape first condition step body line)

pub is_return_loop : (shape : _) (first : _) (condition : _) (step : _) (body : _) (line : _) → is_return (statement_of (TStmt.Loop shape first condition step body line)) ≡ false
is_return_loop shape first condition step body line = ap is_return (show_statement_loop shape first condition step body line)

pub starts_switch : (s : Setting) (value : _) (cases : _) (default : _) (ss : _) (line : _) (k : List Pending) (c : CopyOf) (m : Memory) (w : World Byte) → begin s (statement_of (TStmt.Switch value cases default ss line)) k c m w ≡ goes c (Eval (expression_of value)) (Doing (statement_of (TStmt.Switch value cases default ss line)) Tests ∷ k) m w
starts_switch s value cases default ss line k c m w = subst (λ t. begin s t k c m w ≡ goes c (Eval (expression_of value)) (Doing t Tests ∷ k) m w) (sym (show_statement_switch value cases default ss line)) refl

pub turns_switch : (value : _) (cases : _) (default : _) (ss : _) (line : _) (k : List Pending) (c : CopyOf) (m : Memory) (w : World Byte) → turned (statement_of (TStmt.Switch value cases default ss line)) Turns k c m w ≡ goes c Past k m w
turns_switch value cases default ss line k c m w = ap (λ t. turned t Turns k c m w) (show_statement_switch value cases default ss line)

pub arm_ends_switch : (value : _) (cases : _) (default : _) (ss : _) (line : _) (others : Arms) (k : List Pending) (c : CopyOf) (m : Memory) (w : World Byte) → turned (statement_of (TStmt.Switch value cases default ss line)) (InArm others) k c m w ≡ Lost
arm_ends_switch value cases default ss line others k c m w = ap (λ t. turned t (InArm others) k c m w) (show_statement_switch value cases default ss line)

pub is_return_switch : (value : _) (cases : _) (default : _) (ss : _) (line : _) → is_return (statement_of (TStmt.Switch value cases default ss line)) ≡ false
is_return_switch value cases default ss line = ap is_return (show_statement_switch value cases default ss line)

pub starts_break : (s : Setting) (line : _) (k : List Pending) (c : CopyOf) (m : Memory) (w : World Byte) → begin s (statement_of (TStmt.Break line)) k c m w ≡ break_at k c m w
starts_break s line k c m w = ap (λ t. begin s t k c m w) (show_statement_break line)

pub turns_break : (line : _) (k : List Pending) (c : CopyOf) (m : Memory) (w : World Byte) → turned (statement_of (TStmt.Break line)) Turns k c m w ≡ Lost
turns_break line k c m w = ap (λ t. turned t Turns k c m w) (show_statement_break line)

pub arm_ends_break : (line : _) (others : Arms) (k : List Pending) (c : CopyOf) (m : Memory) (w : World Byte) → turned (statement_of (TStmt.Break line)) (InArm others) k c m w ≡ Lost
arm_ends_break line others k c m w = ap (λ t. turned t (InArm others) k c m w) (show_statement_break line)

pub is_return_break : (line : _) → is_return (statement_of (TStmt.Break line)) ≡ false
is_return_break line = ap is_return (show_statement_break line)

pub starts_continue : (s : Setting) (line : _) (k : List Pending) (c : CopyOf) (m : Memory) (w : World Byte) → begin s (statement_of (TStmt.Continue line)) k c m w ≡ continue_at k c m w
starts_continue s line k c m w = ap (λ t. begin s t k c m w) (show_statement_continue line)

pub turns_continue : (line : _) (k : List Pending) (c : CopyOf) (m : Memory) (w : World Byte) → turned (statement_of (TStmt.Continue line)) Turns k c m w ≡ Lost
turns_continue line k c m w = ap (λ t. turned t Turns k c m w) (show_statement_continue line)

pub arm_ends_continue : (line : _) (others : Arms) (k : List Pending) (c : CopyOf) (m : Memory) (w : World Byte) → turned (statement_of (TStmt.Continue line)) (InArm others) k c m w ≡ Lost
arm_ends_continue line others k c m w = ap (λ t. turned t (InArm others) k c m w) (show_statement_continue line)

pub is_return_continue : (line : _) → is_return (statement_of (TStmt.Continue line)) ≡ false
is_return_continue line = ap is_return (show_statement_continue line)

starts_return_by : (s : Setting) (value : Option Expression) (line : ℕ) (k : List Pending) (c : CopyOf) (m : Memory) (w : World Byte) → begin s (tree.Return value line) k c m w ≡ returned (tree.Return value line) value k c m w
starts_return_by s None line k c m w = refl
starts_return_by s (Some e) line k c m w = refl

pub starts_return : (s : Setting) (value : _) (line : _) (k : List Pending) (c : CopyOf) (m : Memory) (w : World Byte) → begin s (statement_of (TStmt.Return value line)) k c m w ≡ returned (statement_of (TStmt.Return value line)) (option_map expression_of value) k c m w
starts_return s value line k c m w = subst (λ t. begin s t k c m w ≡ returned t (option_map expression_of value) k c m w) (sym (show_statement_return value line)) (starts_return_by s (option_map expression_of value) line k c m w)

pub turns_return : (value : _) (line : _) (k : List Pending) (c : CopyOf) (m : Memory) (w : World Byte) → turned (statement_of (TStmt.Return value line)) Turns k c m w ≡ Lost
turns_return value line k c m w = ap (λ t. turned t Turns k c m w) (show_statement_return value line)

pub arm_ends_return : (value : _) (line : _) (others : Arms) (k : List Pending) (c : CopyOf) (m : Memory) (w : World Byte) → turned (statement_of (TStmt.Return value line)) (InArm others) k c m w ≡ Lost
arm_ends_return value line others k c m w = ap (λ t. turned t (InArm others) k c m w) (show_statement_return value line)

pub is_return_return : (value : _) (line : _) → is_return (statement_of (TStmt.Return value line)) ≡ true
is_return_return value line = ap is_return (show_statement_return value line)

-- ---- an `if`, with an `else` or without one
pub starts_if : (s : Setting) (chain : _) (otherwise : _) (line : _) (k : List Pending) (c : CopyOf) (m : Memory) (w : World Byte) → begin s (statement_of (TStmt.If chain otherwise line)) k c m w ≡ arms (statement_of (TStmt.If chain otherwise line)) (arms_from 0 (arms_in (statement_of (TStmt.If chain otherwise line)))) (last_arm_of otherwise) k c m w
starts_if s chain None line k c m w = subst (λ t. begin s t k c m w ≡ arms t (arms_from 0 (arms_in t)) tree.NoLast k c m w) (sym (show_statement_if_alone chain line)) refl
starts_if s chain (Some last) line k c m w = subst (λ t. begin s t k c m w ≡ arms t (arms_from 0 (arms_in t)) (tree.Last (statement_of last.value)) k c m w) (sym (show_statement_if_else chain last line)) refl

is_if_alone : (t : Statement) (chain : Arms) (line : ℕ) → t ≡ tree.If chain tree.NoLast line → t ≡ tree.If chain tree.NoLast (statement_line t)
is_if_alone t chain line h = h ∙ ap (tree.If chain tree.NoLast) (sym (ap statement_line h))

is_if_else : (t : Statement) (chain : Arms) (last : Statement) (line : ℕ) → t ≡ tree.If chain (tree.Last last) line → t ≡ tree.If chain (tree.Last last) (statement_line t)
is_if_else t chain last line h = h ∙ ap (tree.If chain (tree.Last last)) (sym (ap statement_line h))

pub is_if : (chain : _) (otherwise : _) (line : _) → IsIf (statement_of (TStmt.If chain otherwise line)) chain otherwise
is_if chain None line = is_if_alone (statement_of (TStmt.If chain None line)) (arms_of (map arm_of chain.items)) line (show_statement_if_alone chain line)
is_if chain (Some last) line = is_if_else (statement_of (TStmt.If chain (Some last) line)) (arms_of (map arm_of chain.items)) (statement_of last.value) line (show_statement_if_else chain last line)

pub arm_ends : (chain : _) (otherwise : _) (line : _) (others : Arms) (k : List Pending) (c : CopyOf) (m : Memory) (w : World Byte) → turned (statement_of (TStmt.If chain otherwise line)) (InArm others) k c m w ≡ goes c Past k m w
arm_ends chain None line others k c m w = arm_ends_if_alone chain line others k c m w
arm_ends chain (Some last) line others k c m w = arm_ends_if_else chain last line others k c m w

pub turns_if : (chain : _) (otherwise : _) (line : _) (k : List Pending) (c : CopyOf) (m : Memory) (w : World Byte) → turned (statement_of (TStmt.If chain otherwise line)) Turns k c m w ≡ Lost
turns_if chain None line k c m w = turns_if_alone chain line k c m w
turns_if chain (Some last) line k c m w = turns_if_else chain last line k c m w

pub is_return_if : (chain : _) (otherwise : _) (line : _) → is_return (statement_of (TStmt.If chain otherwise line)) ≡ false
is_return_if chain None line = is_return_if_alone chain line
is_return_if chain (Some last) line = is_return_if_else chain last line

-- ---- a list
pub items_in_list : (local : _) (all : _) (line : _) → items_in (statement_of (TStmt.InitList local all line)) ≡ map item_of all.items
items_in_list local all line = ap items_in (show_statement_init_list local all line)

pub has_items : (t : Statement) (x : TStmt) (local : _) (all : Vec TItem Global) (line : _) → t ≡ statement_of x → x ≡ TStmt.InitList local all line → HasItems t all
has_items t x local all line h i = ap items_in (h ∙ ap statement_of i) ∙ items_in_list local all line

pub starts_list : (s : Setting) (t : Statement) (x : TStmt) (local : _) (all : Vec TItem Global) (line : _) (k : List Pending) (c : CopyOf) (m : Memory) (w : World Byte) → t ≡ statement_of x → x ≡ TStmt.InitList local all line
    → begin s t k c m w ≡ items s t (local_of s.program c local) (map item_of all.items) k c (cleared m (local_of s.program c local)) w
starts_list s t x local all line k c m w h i =
    ap (λ u. begin s u k c m w) (h ∙ ap statement_of i)
    ∙ starts_init_list s local all line k c m w
    ∙ ap (λ u. items s u (local_of s.program c local) (map item_of all.items) k c (cleared m (local_of s.program c local)) w) (sym (h ∙ ap statement_of i))

pub ruleset begins = (starts_block, starts_empty, starts_expr, starts_declare, starts_init_scalar, starts_init_list, starts_loop, starts_switch, starts_break, starts_continue, starts_if)

pub ruleset turns = (turns_loop, turns_switch)

pub ruleset arms_end = (arm_ends)

pub ruleset returns = (is_return_block, is_return_empty, is_return_expr, is_return_declare, is_return_init_scalar, is_return_init_list, is_return_loop, is_return_switch, is_return_break, is_return_continue, is_return_return, is_return_if)
