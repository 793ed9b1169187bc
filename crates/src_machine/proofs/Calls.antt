-- Calls and their ends, of the expressions that the code has.
use Rattle.std.proofs.Common.{◌≡◌, Bool, true, false, List, ◌∷◌, refl, sym, subst, ap, ◌∙◌}
use Rattle.c_typed.proofs.Shapes.{show_expression_constant, show_expression_read, show_expression_address, show_expression_convert, show_expression_cast, show_expression_unary, show_expression_binary, show_expression_offset, show_expression_difference, show_expression_logical, show_expression_conditional, show_expression_comma, show_expression_assign, show_expression_struct_assign, show_expression_update, show_expression_step, show_expression_call}
use Rattle.c_typed.specs.Trees as tree
use Rattle.c_typed.specs.Trees.{Expression, Program}
use Rattle.c_typed.specs.Views.{expression_of}
use Rattle.c_typed.specs.declared.expression.TExpr.{TExpr}
use Rattle.c_typed.specs.declared.expression.TExpr.TheVariants as TExpr
use Rattle.pic_world.specs.World.{World}
use Rattle.src_machine.specs.Passing.{called, FitFrom, FitCall}
use Rattle.src_rules.specs.Accesses.{goes}
use Rattle.src_rules.specs.State.{Outcome, Lost}
use Rattle.src_rules.specs.Statements.{handed}
use Rattle.src_rules.specs.Step.{call_in, copy_of}
use Rattle.src_values.specs.Control.{Holds, Nothing, Chosen, One, At, AtWith, Stores, Copies, Args, Passed, Called, Got, Pending, In}
use Rattle.src_values.specs.Data.{Datum}
use Rattle.src_values.specs.Memory.{Memory}
use Rattle.src_values.specs.Seen.{got_in, has_values}
use Rattle.src_values.specs.declared.control.Got.{Got as CodeGot}
use Rattle.src_values.specs.declared.control.Got.TheVariants as gots
use Rattle.src_values.specs.declared.objects.Byte.{Byte}
use Rattle.src_values.specs.declared.objects.CopyOf.{CopyOf}

abbrev pub is_called : Got → Bool
is_called Nothing = false
is_called Chosen = false
is_called (One u) = false
is_called (At spot) = false
is_called (AtWith spot u) = false
is_called (Stores spot u) = false
is_called Copies = false
is_called (Args before more) = false
is_called (Passed values) = false
is_called Called = true

abbrev pub called_by : CodeGot → Bool
called_by gots.Nothing = false
called_by gots.Chosen = false
called_by (gots.One u) = false
called_by (gots.At spot) = false
called_by (gots.AtWith spot u) = false
called_by (gots.Stores spot u) = false
called_by gots.Copies = false
called_by (gots.Args n) = false
called_by gots.Passed = false
called_by gots.Called = true

hands_nothing : (v : Datum) (d : CopyOf) (e : Expression) (got : Got) (k : List Pending) (m : Memory) (w : World Byte) → is_called got ≡ false → handed v d (In e got ∷ k) m w ≡ Lost
hands_nothing v d (tree.Constant q line) got k m w h = refl
hands_nothing v d (tree.Read place ty line) got k m w h = refl
hands_nothing v d (tree.Address place ty line) got k m w h = refl
hands_nothing v d (tree.Convert operand ty line) got k m w h = refl
hands_nothing v d (tree.Cast operand ty line) got k m w h = refl
hands_nothing v d (tree.Unary op operand ty line) got k m w h = refl
hands_nothing v d (tree.Binary op left right ty line) got k m w h = refl
hands_nothing v d (tree.Offset op left right size ty line) got k m w h = refl
hands_nothing v d (tree.Difference left right size line) got k m w h = refl
hands_nothing v d (tree.Logical op left right line) got k m w h = refl
hands_nothing v d (tree.Conditional condition chosen otherwise ty line) got k m w h = refl
hands_nothing v d (tree.Comma left right ty line) got k m w h = refl
hands_nothing v d (tree.Assign place value ty line) got k m w h = refl
hands_nothing v d (tree.StructAssign place from size line) got k m w h = refl
hands_nothing v d (tree.Update op place value operation size ty line) got k m w h = refl
hands_nothing v d (tree.Step op place operation size ty line) got k m w h = refl
hands_nothing v d (tree.Call function arguments ty line) Nothing k m w h = refl
hands_nothing v d (tree.Call function arguments ty line) Chosen k m w h = refl
hands_nothing v d (tree.Call function arguments ty line) (One u) k m w h = refl
hands_nothing v d (tree.Call function arguments ty line) (At spot) k m w h = refl
hands_nothing v d (tree.Call function arguments ty line) (AtWith spot u) k m w h = refl
hands_nothing v d (tree.Call function arguments ty line) (Stores spot u) k m w h = refl
hands_nothing v d (tree.Call function arguments ty line) Copies k m w h = refl
hands_nothing v d (tree.Call function arguments ty line) (Args before more) k m w h = refl
hands_nothing v d (tree.Call function arguments ty line) (Passed values) k m w h = refl
hands_nothing v d (tree.Call function arguments ty line) Called k m w h = absurd (cc)

hands_shown : (e : Expression) (got : CodeGot) (values : List Datum) → called_by got ≡ false → is_called (got_in e got values) ≡ false
hands_shown e gots.Nothing values h = refl
hands_shown e gots.Chosen values h = refl
hands_shown e (gots.One u) values h = refl
hands_shown e (gots.At spot) values h = refl
hands_shown e (gots.AtWith spot u) values h = refl
hands_shown e (gots.Stores spot u) values h = refl
hands_shown e gots.Copies values h = refl
hands_shown e (gots.Args n) values h = refl
hands_shown e gots.Passed values h = refl
hands_shown e gots.Called values h = absurd (cc)

pub hands_no_part : (v : Datum) (d : CopyOf) (e : Expression) (got : CodeGot) (values : List Datum) (k : List Pending) (m : Memory) (w : World Byte) → called_by got ≡ false → handed v d (In e (got_in e got values) ∷ k) m w ≡ Lost
hands_no_part v d e got values k m w h = hands_nothing v d e (got_in e got values) k m w (hands_shown e got values h)

pub hands_constant : (v : Datum) (d : CopyOf) (q : _) (line : _) (k : List Pending) (m : Memory) (w : World Byte) → handed v d (In (expression_of (TExpr.Constant q line)) Called ∷ k) m w ≡ Lost
hands_constant v d q line k m w = ap (λ e. handed v d (In e Called ∷ k) m w) (show_expression_constant q line)

pub hands_read : (v : Datum) (d : CopyOf) (place : _) (ty : _) (line : _) (k : List Pending) (m : Memory) (w : World Byte) → handed v d (In (expression_of (TExpr.Read place ty line)) Called ∷ k) m w ≡ Lost
hands_read v d place ty line k m w = ap (λ e. handed v d (In e Called ∷ k) m w) (show_expression_read place ty line)

pub hands_address : (v : Datum) (d : CopyOf) (place : _) (ty : _) (line : _) (k : List Pending) (m : Memory) (w : World Byte) → handed v d (In (expression_of (TExpr.Address place ty line)) Called ∷ k) m w ≡ Lost
hands_address v d place ty line k m w = ap (λ e. handed v d (In e Called ∷ k) m w) (show_expression_address place ty line)

pub hands_convert : (v : Datum) (d : CopyOf) (operand : _) (ty : _) (line : _) (k : List Pending) (m : Memory) (w : World Byte) → handed v d (In (expression_of (TExpr.Convert operand ty line)) Called ∷ k) m w ≡ Lost
hands_convert v d operand ty line k m w = ap (λ e. handed v d (In e Called ∷ k) m w) (show_expression_convert operand ty line)

pub hands_cast : (v : Datum) (d : CopyOf) (operand : _) (ty : _) (line : _) (k : List Pending) (m : Memory) (w : World Byte) → handed v d (In (expression_of (TExpr.Cast operand ty line)) Called ∷ k) m w ≡ Lost
hands_cast v d operand ty line k m w = ap (λ e. handed v d (In e Called ∷ k) m w) (show_expression_cast operand ty line)

pub hands_unary : (v : Datum) (d : CopyOf) (op : _) (operand : _) (ty : _) (line : _) (k : List Pending) (m : Memory) (w : World Byte) → handed v d (In (expression_of (TExpr.Unary op operand ty line)) Called ∷ k) m w ≡ Lost
hands_unary v d op operand ty line k m w = ap (λ e. handed v d (In e Called ∷ k) m w) (show_expression_unary op operand ty line)

pub hands_binary : (v : Datum) (d : CopyOf) (op : _) (left : _) (right : _) (ty : _) (line : _) (k : List Pending) (m : Memory) (w : World Byte) → handed v d (In (expression_of (TExpr.Binary op left right ty line)) Called ∷ k) m w ≡ Lost
hands_binary v d op left right ty line k m w = ap (λ e. handed v d (In e Called ∷ k) m w) (show_expression_binary op left right ty line)

pub hands_offset : (v : Datum) (d : CopyOf) (op : _) (left : _) (right : _) (size : _) (ty : _) (line : _) (k : List Pending) (m : Memory) (w : World Byte) → handed v d (In (expression_of (TExpr.Offset op left right size ty line)) Called ∷ k) m w ≡ Lost
hands_offset v d op left right size ty line k m w = ap (λ e. handed v d (In e Called ∷ k) m w) (show_expression_offset op left right size ty line)

pub hands_difference : (v : Datum) (d : CopyOf) (left : _) (right : _) (size : _) (line : _) (k : List Pending) (m : Memory) (w : World Byte) → handed v d (In (expression_of (TExpr.Difference left right size line)) Called ∷ k) m w ≡ Lost
hands_difference v d left right size line k m w = ap (λ e. handed v d (In e Called ∷ k) m w) (show_expression_difference left right size line)

pub hands_logical : (v : Datum) (d : CopyOf) (op : _) (left : _) (right : _) (line : _) (k : List Pending) (m : Memory) (w : World Byte) → handed v d (In (expression_of (TExpr.Logical op left right line)) Called ∷ k) m w ≡ Lost
hands_logical v d op left right line k m w = ap (λ e. handed v d (In e Called ∷ k) m w) (show_expression_logical op left right line)

pub hands_conditional : (v : Datum) (d : CopyOf) (condition : _) (chosen : _) (otherwise : _) (ty : _) (line : _) (k : List Pending) (m : Memory) (w : World Byte) → handed v d (In (expression_of (TExpr.Conditional condition chosen otherwise ty line)) Called ∷ k) m w ≡ Lost
hands_conditional v d condition chosen otherwise ty line k m w = ap (λ e. handed v d (In e Called ∷ k) m w) (show_expression_conditional condition chosen otherwise ty line)

pub hands_comma : (v : Datum) (d : CopyOf) (left : _) (right : _) (ty : _) (line : _) (k : List Pending) (m : Memory) (w : World Byte) → handed v d (In (expression_of (TExpr.Comma left right ty line)) Called ∷ k) m w ≡ Lost
hands_comma v d left right ty line k m w = ap (λ e. handed v d (In e Called ∷ k) m w) (show_expression_comma left right ty line)

pub hands_assign : (v : Datum) (d : CopyOf) (place : _) (value : _) (ty : _) (line : _) (k : List Pending) (m : Memory) (w : World Byte) → handed v d (In (expression_of (TExpr.Assign place value ty line)) Called ∷ k) m w ≡ Lost
hands_assign v d place value ty line k m w = ap (λ e. handed v d (In e Called ∷ k) m w) (show_expression_assign place value ty line)

pub hands_struct_assign : (v : Datum) (d : CopyOf) (place : _) (from : _) (size : _) (line : _) (k : List Pending) (m : Memory) (w : World Byte) → handed v d (In (expression_of (TExpr.StructAssign place from size line)) Called ∷ k) m w ≡ Lost
hands_struct_assign v d place from size line k m w = ap (λ e. handed v d (In e Called ∷ k) m w) (show_expression_struct_assign place from size line)

pub hands_update : (v : Datum) (d : CopyOf) (op : _) (place : _) (value : _) (operation : _) (size : _) (ty : _) (line : _) (k : List Pending) (m : Memory) (w : World Byte) → handed v d (In (expression_of (TExpr.Update op place value operation size ty line)) Called ∷ k) m w ≡ Lost
hands_update v d op place value operation size ty line k m w = ap (λ e. handed v d (In e Called ∷ k) m w) (show_expression_update op place value operation size ty line)

pub hands_step : (v : Datum) (d : CopyOf) (op : _) (place : _) (operation : _) (size : _) (ty : _) (line : _) (k : List Pending) (m : Memory) (w : World Byte) → handed v d (In (expression_of (TExpr.Step op place operation size ty line)) Called ∷ k) m w ≡ Lost
hands_step v d op place operation size ty line k m w = ap (λ e. handed v d (In e Called ∷ k) m w) (show_expression_step op place operation size ty line)

pub hands_call : (v : Datum) (d : CopyOf) (function : _) (given : _) (ty : _) (line : _) (k : List Pending) (m : Memory) (w : World Byte) → handed v d (In (expression_of (TExpr.Call function given ty line)) Called ∷ k) m w ≡ goes d (Holds v) k m w
hands_call v d function given ty line k m w = ap (λ e. handed v d (In e Called ∷ k) m w) (show_expression_call function given ty line)

pub ruleset hands = (hands_call)

abbrev pub is_passed : Got → Bool
is_passed Nothing = false
is_passed Chosen = false
is_passed (One u) = false
is_passed (At spot) = false
is_passed (AtWith spot u) = false
is_passed (Stores spot u) = false
is_passed Copies = false
is_passed (Args before more) = false
is_passed (Passed values) = true
is_passed Called = false

abbrev pub passed_by : CodeGot → Bool
passed_by gots.Nothing = false
passed_by gots.Chosen = false
passed_by (gots.One u) = false
passed_by (gots.At spot) = false
passed_by (gots.AtWith spot u) = false
passed_by (gots.Stores spot u) = false
passed_by gots.Copies = false
passed_by (gots.Args n) = false
passed_by gots.Passed = true
passed_by gots.Called = false

calls_nothing : (p : Program) (e : Expression) (got : Got) (k : List Pending) (c : CopyOf) (m : Memory) (w : World Byte) → is_passed got ≡ false → call_in p e got k c m w ≡ Lost
calls_nothing p (tree.Constant q line) got k c m w h = refl
calls_nothing p (tree.Read place ty line) got k c m w h = refl
calls_nothing p (tree.Address place ty line) got k c m w h = refl
calls_nothing p (tree.Convert operand ty line) got k c m w h = refl
calls_nothing p (tree.Cast operand ty line) got k c m w h = refl
calls_nothing p (tree.Unary op operand ty line) got k c m w h = refl
calls_nothing p (tree.Binary op left right ty line) got k c m w h = refl
calls_nothing p (tree.Offset op left right size ty line) got k c m w h = refl
calls_nothing p (tree.Difference left right size line) got k c m w h = refl
calls_nothing p (tree.Logical op left right line) got k c m w h = refl
calls_nothing p (tree.Conditional condition chosen otherwise ty line) got k c m w h = refl
calls_nothing p (tree.Comma left right ty line) got k c m w h = refl
calls_nothing p (tree.Assign place value ty line) got k c m w h = refl
calls_nothing p (tree.StructAssign place from size line) got k c m w h = refl
calls_nothing p (tree.Update op place value operation size ty line) got k c m w h = refl
calls_nothing p (tree.Step op place operation size ty line) got k c m w h = refl
calls_nothing p (tree.Call function arguments ty line) Nothing k c m w h = refl
calls_nothing p (tree.Call function arguments ty line) Chosen k c m w h = refl
calls_nothing p (tree.Call function arguments ty line) (One u) k c m w h = refl
calls_nothing p (tree.Call function arguments ty line) (At spot) k c m w h = refl
calls_nothing p (tree.Call function arguments ty line) (AtWith spot u) k c m w h = refl
calls_nothing p (tree.Call function arguments ty line) (Stores spot u) k c m w h = refl
calls_nothing p (tree.Call function arguments ty line) Copies k c m w h = refl
calls_nothing p (tree.Call function arguments ty line) (Args before more) k c m w h = refl
calls_nothing p (tree.Call function arguments ty line) (Passed values) k c m w h = absurd (cc)
calls_nothing p (tree.Call function arguments ty line) Called k c m w h = refl

calls_shown : (e : Expression) (got : CodeGot) (values : List Datum) → passed_by got ≡ false → is_passed (got_in e got values) ≡ false
calls_shown e gots.Nothing values h = refl
calls_shown e gots.Chosen values h = refl
calls_shown e (gots.One u) values h = refl
calls_shown e (gots.At spot) values h = refl
calls_shown e (gots.AtWith spot u) values h = refl
calls_shown e (gots.Stores spot u) values h = refl
calls_shown e gots.Copies values h = refl
calls_shown e (gots.Args n) values h = refl
calls_shown e gots.Passed values h = absurd (cc)
calls_shown e gots.Called values h = refl

pub calls_no_part : (p : Program) (e : Expression) (got : CodeGot) (values : List Datum) (k : List Pending) (c : CopyOf) (m : Memory) (w : World Byte) → passed_by got ≡ false → call_in p e (got_in e got values) k c m w ≡ Lost
calls_no_part p e got values k c m w h = calls_nothing p e (got_in e got values) k c m w (calls_shown e got values h)

pub calls_constant : (p : Program) (q : _) (line : _) (values : List Datum) (k : List Pending) (c : CopyOf) (m : Memory) (w : World Byte) → call_in p (expression_of (TExpr.Constant q line)) (Passed values) k c m w ≡ Lost
calls_constant p q line values k c m w = ap (λ e. call_in p e (Passed values) k c m w) (show_expression_constant q line)

pub calls_read : (p : Program) (place : _) (ty : _) (line : _) (values : List Datum) (k : List Pending) (c : CopyOf) (m : Memory) (w : World Byte) → call_in p (expression_of (TExpr.Read place ty line)) (Passed values) k c m w ≡ Lost
calls_read p place ty line values k c m w = ap (λ e. call_in p e (Passed values) k c m w) (show_expression_read place ty line)

pub calls_address : (p : Program) (place : _) (ty : _) (line : _) (values : List Datum) (k : List Pending) (c : CopyOf) (m : Memory) (w : World Byte) → call_in p (expression_of (TExpr.Address place ty line)) (Passed values) k c m w ≡ Lost
calls_address p place ty line values k c m w = ap (λ e. call_in p e (Passed values) k c m w) (show_expression_address place ty line)

pub calls_convert : (p : Program) (operand : _) (ty : _) (line : _) (values : List Datum) (k : List Pending) (c : CopyOf) (m : Memory) (w : World Byte) → call_in p (expression_of (TExpr.Convert operand ty line)) (Passed values) k c m w ≡ Lost
calls_convert p operand ty line values k c m w = ap (λ e. call_in p e (Passed values) k c m w) (show_expression_convert operand ty line)

pub calls_cast : (p : Program) (operand : _) (ty : _) (line : _) (values : List Datum) (k : List Pending) (c : CopyOf) (m : Memory) (w : World Byte) → call_in p (expression_of (TExpr.Cast operand ty line)) (Passed values) k c m w ≡ Lost
calls_cast p operand ty line values k c m w = ap (λ e. call_in p e (Passed values) k c m w) (show_expression_cast operand ty line)

pub calls_unary : (p : Program) (op : _) (operand : _) (ty : _) (line : _) (values : List Datum) (k : List Pending) (c : CopyOf) (m : Memory) (w : World Byte) → call_in p (expression_of (TExpr.Unary op operand ty line)) (Passed values) k c m w ≡ Lost
calls_unary p op operand ty line values k c m w = ap (λ e. call_in p e (Passed values) k c m w) (show_expression_unary op operand ty line)

pub calls_binary : (p : Program) (op : _) (left : _) (right : _) (ty : _) (line : _) (values : List Datum) (k : List Pending) (c : CopyOf) (m : Memory) (w : World Byte) → call_in p (expression_of (TExpr.Binary op left right ty line)) (Passed values) k c m w ≡ Lost
calls_binary p op left right ty line values k c m w = ap (λ e. call_in p e (Passed values) k c m w) (show_expression_binary op left right ty line)

pub calls_offset : (p : Program) (op : _) (left : _) (right : _) (size : _) (ty : _) (line : _) (values : List Datum) (k : List Pending) (c : CopyOf) (m : Memory) (w : World Byte) → call_in p (expression_of (TExpr.Offset op left right size ty line)) (Passed values) k c m w ≡ Lost
calls_offset p op left right size ty line values k c m w = ap (λ e. call_in p e (Passed values) k c m w) (show_expression_offset op left right size ty line)

pub calls_difference : (p : Program) (left : _) (right : _) (size : _) (line : _) (values : List Datum) (k : List Pending) (c : CopyOf) (m : Memory) (w : World Byte) → call_in p (expression_of (TExpr.Difference left right size line)) (Passed values) k c m w ≡ Lost
calls_difference p left right size line values k c m w = ap (λ e. call_in p e (Passed values) k c m w) (show_expression_difference left right size line)

pub calls_logical : (p : Program) (op : _) (left : _) (right : _) (line : _) (values : List Datum) (k : List Pending) (c : CopyOf) (m : Memory) (w : World Byte) → call_in p (expression_of (TExpr.Logical op left right line)) (Passed values) k c m w ≡ Lost
calls_logical p op left right line values k c m w = ap (λ e. call_in p e (Passed values) k c m w) (show_expression_logical op left right line)

pub calls_conditional : (p : Program) (condition : _) (chosen : _) (otherwise : _) (ty : _) (line : _) (values : List Datum) (k : List Pending) (c : CopyOf) (m : Memory) (w : World Byte) → call_in p (expression_of (TExpr.Conditional condition chosen otherwise ty line)) (Passed values) k c m w ≡ Lost
calls_conditional p condition chosen otherwise ty line values k c m w = ap (λ e. call_in p e (Passed values) k c m w) (show_expression_conditional condition chosen otherwise ty line)

pub calls_comma : (p : Program) (left : _) (right : _) (ty : _) (line : _) (values : List Datum) (k : List Pending) (c : CopyOf) (m : Memory) (w : World Byte) → call_in p (expression_of (TExpr.Comma left right ty line)) (Passed values) k c m w ≡ Lost
calls_comma p left right ty line values k c m w = ap (λ e. call_in p e (Passed values) k c m w) (show_expression_comma left right ty line)

pub calls_assign : (p : Program) (place : _) (value : _) (ty : _) (line : _) (values : List Datum) (k : List Pending) (c : CopyOf) (m : Memory) (w : World Byte) → call_in p (expression_of (TExpr.Assign place value ty line)) (Passed values) k c m w ≡ Lost
calls_assign p place value ty line values k c m w = ap (λ e. call_in p e (Passed values) k c m w) (show_expression_assign place value ty line)

pub calls_struct_assign : (p : Program) (place : _) (from : _) (size : _) (line : _) (values : List Datum) (k : List Pending) (c : CopyOf) (m : Memory) (w : World Byte) → call_in p (expression_of (TExpr.StructAssign place from size line)) (Passed values) k c m w ≡ Lost
calls_struct_assign p place from size line values k c m w = ap (λ e. call_in p e (Passed values) k c m w) (show_expression_struct_assign place from size line)

pub calls_update : (p : Program) (op : _) (place : _) (value : _) (operation : _) (size : _) (ty : _) (line : _) (values : List Datum) (k : List Pending) (c : CopyOf) (m : Memory) (w : World Byte) → call_in p (expression_of (TExpr.Update op place value operation size ty line)) (Passed values) k c m w ≡ Lost
calls_update p op place value operation size ty line values k c m w = ap (λ e. call_in p e (Passed values) k c m w) (show_expression_update op place value operation size ty line)

pub calls_step : (p : Program) (op : _) (place : _) (operation : _) (size : _) (ty : _) (line : _) (values : List Datum) (k : List Pending) (c : CopyOf) (m : Memory) (w : World Byte) → call_in p (expression_of (TExpr.Step op place operation size ty line)) (Passed values) k c m w ≡ Lost
calls_step p op place operation size ty line values k c m w = ap (λ e. call_in p e (Passed values) k c m w) (show_expression_step op place operation size ty line)

pub calls_call : (p : Program) (function : _) (given : _) (ty : _) (line : _) (values : List Datum) (k : List Pending) (c : CopyOf) (m : Memory) (w : World Byte) → call_in p (expression_of (TExpr.Call function given ty line)) (Passed values) k c m w ≡ called p (expression_of (TExpr.Call function given ty line)) function line values k c m w
calls_call p function given ty line values k c m w = subst (λ e. call_in p e (Passed values) k c m w ≡ called p e function line values k c m w) (sym (show_expression_call function given ty line)) refl

pub ruleset calls = (calls_call)

-- the parameters have room
pub fit_call : (p : Program) (c : CopyOf) (function : _) (given : _) (ty : _) (line : _) (values : List Datum) (k : List Pending) → FitCall p c (In (expression_of (TExpr.Call function given ty line)) (Passed values) ∷ k) → FitFrom p (copy_of c.root function) 0 values
fit_call p c function given ty line values k h = subst (λ e. FitCall p c (In e (Passed values) ∷ k)) (show_expression_call function given ty line) h

pub call_shown : (p : Program) (x : TExpr) (got : CodeGot) (function : _) (given : _) (ty : _) (line : _) (values : List Datum) (below : Bool → List Pending) (c : CopyOf) (m : Memory) (w : World Byte) (r : Outcome) → got ≡ gots.Passed → x ≡ TExpr.Call function given ty line
    → FitCall p c (In (expression_of x) (got_in (expression_of x) got values) ∷ below (has_values got))
    → (FitFrom p (copy_of c.root function) 0 values → r ≡ called p (expression_of x) function line values (below true) c m w)
    → r ≡ call_in p (expression_of x) (got_in (expression_of x) got values) (below (has_values got)) c m w
call_shown p x got function given ty line values below c m w r all is fit h =
    h (fit_call p c function given ty line values (below true) (subst (λ y. FitCall p c (In (expression_of y) (Passed values) ∷ below true)) is (subst (λ g. FitCall p c (In (expression_of x) (got_in (expression_of x) g values) ∷ below (has_values g))) all fit)))
    ∙ ap (λ y. called p (expression_of y) function line values (below true) c m w) is
    ∙ sym (calls_call p function given ty line values (below true) c m w)
    ∙ ap (λ y. call_in p (expression_of y) (Passed values) (below true) c m w) (sym is)
    ∙ ap (λ g. call_in p (expression_of x) (got_in (expression_of x) g values) (below (has_values g)) c m w) (sym all)
