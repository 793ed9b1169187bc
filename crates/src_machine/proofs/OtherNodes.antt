-- What a rule says of every expression but those that it is about.
use Rattle.c_typed.specs.Trees.{Expressions, Program}
use Rattle.c_typed.specs.Views.{expression_of}
use Rattle.c_typed.specs.declared.expression.TExpr.TheOpen.{TExpr-F}
use Rattle.c_typed.specs.declared.expression.TExpr.TheViews.{out-TExpr, roll-TExpr, roll-out-TExpr}
use Rattle.c_typed.specs.declared.expression.TExpr.{TExpr}
use Rattle.c_typed.specs.declared.expression.TPlace.{TPlace}
use Rattle.pic_world.specs.World.{World}
use Rattle.src_machine.proofs.Calls.{calls_address, calls_assign, calls_binary, calls_cast, calls_comma, calls_conditional, calls_constant, calls_convert, calls_difference, calls_logical, calls_offset, calls_read, calls_step, calls_struct_assign, calls_unary, calls_update, hands_address, hands_assign, hands_binary, hands_cast, hands_comma, hands_conditional, hands_constant, hands_convert, hands_difference, hands_logical, hands_offset, hands_read, hands_step, hands_struct_assign, hands_unary, hands_update}
use Rattle.src_machine.proofs.OnlyReads.{is_read_address, is_read_assign, is_read_binary, is_read_call, is_read_cast, is_read_comma, is_read_conditional, is_read_constant, is_read_convert, is_read_difference, is_read_logical, is_read_offset, is_read_step, is_read_struct_assign, is_read_unary, is_read_update}
use Rattle.src_machine.proofs.Places.{first_found_binary, first_found_call, first_found_cast, first_found_comma, first_found_conditional, first_found_constant, first_found_convert, first_found_difference, first_found_logical, first_found_offset, first_found_unary, second_found_address, second_found_assign, second_found_binary, second_found_call, second_found_cast, second_found_comma, second_found_conditional, second_found_constant, second_found_convert, second_found_difference, second_found_logical, second_found_offset, second_found_read, second_found_step, second_found_unary, second_found_update}
use Rattle.src_machine.proofs.Takes.{args_address, args_assign, args_binary, args_cast, args_comma, args_conditional, args_constant, args_convert, args_difference, args_logical, args_offset, args_read, args_step, args_struct_assign, args_unary, args_update, at_address, at_binary, at_call, at_cast, at_comma, at_conditional, at_constant, at_convert, at_difference, at_logical, at_offset, at_read, at_struct_assign, at_unary, chosen_address, chosen_assign, chosen_binary, chosen_call, chosen_cast, chosen_comma, chosen_constant, chosen_convert, chosen_difference, chosen_logical, chosen_offset, chosen_read, chosen_step, chosen_struct_assign, chosen_unary, chosen_update, first_address, first_assign, first_call, first_constant, first_read, first_step, first_struct_assign, first_update, old_address, old_assign, old_binary, old_call, old_cast, old_comma, old_conditional, old_constant, old_convert, old_difference, old_logical, old_offset, old_read, old_step, old_struct_assign, old_unary, right_address, right_assign, right_call, right_cast, right_comma, right_conditional, right_constant, right_convert, right_read, right_step, right_struct_assign, right_unary, right_update}
use Rattle.src_machine.specs.Seen.{is_read}
use Rattle.src_rules.specs.Expressions.{arguments, found_in}
use Rattle.src_rules.specs.Giving.{take_in}
use Rattle.src_rules.specs.State.{Lost}
use Rattle.src_rules.specs.Statements.{handed}
use Rattle.src_rules.specs.Step.{call_in}
use Rattle.src_values.specs.Control.{Args, At, AtWith, Called, Chosen, In, Nothing, One, Passed, Pending}
use Rattle.src_values.specs.Data.{Datum}
use Rattle.src_values.specs.Memory.{Memory, Setting}
use Rattle.src_values.specs.declared.objects.Byte.{Byte}
use Rattle.src_values.specs.declared.objects.CopyOf.{CopyOf}
use Rattle.src_values.specs.declared.objects.Spot.{Spot}
use Rattle.std.proofs.Common.{List, ap, false, sym, ◌∙◌, ◌∷◌, ◌≡◌}
use Rattle.c_typed.specs.declared.expression.TExpr.TheOpen as Open
use Rattle.c_typed.specs.declared.expression.TExpr.TheVariants as TExpr

first_lost_layer : (l : TExpr-F TExpr TPlace) (e : TExpr) → roll-TExpr l ≡ e → ((operand : _) (ty : _) (line : _) → e ≡ TExpr.Convert operand ty line → ⊥) → ((operand : _) (ty : _) (line : _) → e ≡ TExpr.Cast operand ty line → ⊥) → ((op : _) (operand : _) (ty : _) (line : _) → e ≡ TExpr.Unary op operand ty line → ⊥) → ((op : _) (left : _) (right : _) (ty : _) (line : _) → e ≡ TExpr.Binary op left right ty line → ⊥) → ((op : _) (left : _) (right : _) (size : _) (ty : _) (line : _) → e ≡ TExpr.Offset op left right size ty line → ⊥) → ((left : _) (right : _) (size : _) (line : _) → e ≡ TExpr.Difference left right size line → ⊥) → ((op : _) (left : _) (right : _) (line : _) → e ≡ TExpr.Logical op left right line → ⊥) → ((condition : _) (chosen : _) (otherwise : _) (ty : _) (line : _) → e ≡ TExpr.Conditional condition chosen otherwise ty line → ⊥) → ((left : _) (right : _) (ty : _) (line : _) → e ≡ TExpr.Comma left right ty line → ⊥) → (s : Setting) (v : Datum) (k : List Pending) (c : CopyOf) (m : Memory) (w : World Byte) → take_in s (expression_of e) Nothing v k c m w ≡ Lost
first_lost_layer (Open.Constant value line) e is no_convert no_cast no_unary no_binary no_offset no_difference no_logical no_conditional no_comma s v k c m w = ap (λ e. take_in s (expression_of e) Nothing v k c m w) (sym is ∙ TExpr.rolls-Constant value line) ∙ first_constant s value line v k c m w
first_lost_layer (Open.Read place ty line) e is no_convert no_cast no_unary no_binary no_offset no_difference no_logical no_conditional no_comma s v k c m w = ap (λ e. take_in s (expression_of e) Nothing v k c m w) (sym is ∙ TExpr.rolls-Read place ty line) ∙ first_read s place ty line v k c m w
first_lost_layer (Open.Address place ty line) e is no_convert no_cast no_unary no_binary no_offset no_difference no_logical no_conditional no_comma s v k c m w = ap (λ e. take_in s (expression_of e) Nothing v k c m w) (sym is ∙ TExpr.rolls-Address place ty line) ∙ first_address s place ty line v k c m w
first_lost_layer (Open.Convert x0 x1 x2) e is no_convert no_cast no_unary no_binary no_offset no_difference no_logical no_conditional no_comma s v k c m w = absurd (no_convert x0 x1 x2 (sym is ∙ TExpr.rolls-Convert x0 x1 x2))
first_lost_layer (Open.Cast x0 x1 x2) e is no_convert no_cast no_unary no_binary no_offset no_difference no_logical no_conditional no_comma s v k c m w = absurd (no_cast x0 x1 x2 (sym is ∙ TExpr.rolls-Cast x0 x1 x2))
first_lost_layer (Open.Unary x0 x1 x2 x3) e is no_convert no_cast no_unary no_binary no_offset no_difference no_logical no_conditional no_comma s v k c m w = absurd (no_unary x0 x1 x2 x3 (sym is ∙ TExpr.rolls-Unary x0 x1 x2 x3))
first_lost_layer (Open.Binary x0 x1 x2 x3 x4) e is no_convert no_cast no_unary no_binary no_offset no_difference no_logical no_conditional no_comma s v k c m w = absurd (no_binary x0 x1 x2 x3 x4 (sym is ∙ TExpr.rolls-Binary x0 x1 x2 x3 x4))
first_lost_layer (Open.Offset x0 x1 x2 x3 x4 x5) e is no_convert no_cast no_unary no_binary no_offset no_difference no_logical no_conditional no_comma s v k c m w = absurd (no_offset x0 x1 x2 x3 x4 x5 (sym is ∙ TExpr.rolls-Offset x0 x1 x2 x3 x4 x5))
first_lost_layer (Open.Difference x0 x1 x2 x3) e is no_convert no_cast no_unary no_binary no_offset no_difference no_logical no_conditional no_comma s v k c m w = absurd (no_difference x0 x1 x2 x3 (sym is ∙ TExpr.rolls-Difference x0 x1 x2 x3))
first_lost_layer (Open.Logical x0 x1 x2 x3) e is no_convert no_cast no_unary no_binary no_offset no_difference no_logical no_conditional no_comma s v k c m w = absurd (no_logical x0 x1 x2 x3 (sym is ∙ TExpr.rolls-Logical x0 x1 x2 x3))
first_lost_layer (Open.Conditional x0 x1 x2 x3 x4) e is no_convert no_cast no_unary no_binary no_offset no_difference no_logical no_conditional no_comma s v k c m w = absurd (no_conditional x0 x1 x2 x3 x4 (sym is ∙ TExpr.rolls-Conditional x0 x1 x2 x3 x4))
first_lost_layer (Open.Comma x0 x1 x2 x3) e is no_convert no_cast no_unary no_binary no_offset no_difference no_logical no_conditional no_comma s v k c m w = absurd (no_comma x0 x1 x2 x3 (sym is ∙ TExpr.rolls-Comma x0 x1 x2 x3))
first_lost_layer (Open.Assign place value ty line) e is no_convert no_cast no_unary no_binary no_offset no_difference no_logical no_conditional no_comma s v k c m w = ap (λ e. take_in s (expression_of e) Nothing v k c m w) (sym is ∙ TExpr.rolls-Assign place value ty line) ∙ first_assign s place value ty line v k c m w
first_lost_layer (Open.StructAssign place from size line) e is no_convert no_cast no_unary no_binary no_offset no_difference no_logical no_conditional no_comma s v k c m w = ap (λ e. take_in s (expression_of e) Nothing v k c m w) (sym is ∙ TExpr.rolls-StructAssign place from size line) ∙ first_struct_assign s place from size line v k c m w
first_lost_layer (Open.Update op place value operation size ty line) e is no_convert no_cast no_unary no_binary no_offset no_difference no_logical no_conditional no_comma s v k c m w = ap (λ e. take_in s (expression_of e) Nothing v k c m w) (sym is ∙ TExpr.rolls-Update op place value operation size ty line) ∙ first_update s op place value operation size ty line v k c m w
first_lost_layer (Open.Step op place operation size ty line) e is no_convert no_cast no_unary no_binary no_offset no_difference no_logical no_conditional no_comma s v k c m w = ap (λ e. take_in s (expression_of e) Nothing v k c m w) (sym is ∙ TExpr.rolls-Step op place operation size ty line) ∙ first_step s op place operation size ty line v k c m w
first_lost_layer (Open.Call function given ty line) e is no_convert no_cast no_unary no_binary no_offset no_difference no_logical no_conditional no_comma s v k c m w = ap (λ e. take_in s (expression_of e) Nothing v k c m w) (sym is ∙ TExpr.rolls-Call function given ty line) ∙ first_call s function given ty line v k c m w

pub first_lost : (e : TExpr) → ((operand : _) (ty : _) (line : _) → e ≡ TExpr.Convert operand ty line → ⊥) → ((operand : _) (ty : _) (line : _) → e ≡ TExpr.Cast operand ty line → ⊥) → ((op : _) (operand : _) (ty : _) (line : _) → e ≡ TExpr.Unary op operand ty line → ⊥) → ((op : _) (left : _) (right : _) (ty : _) (line : _) → e ≡ TExpr.Binary op left right ty line → ⊥) → ((op : _) (left : _) (right : _) (size : _) (ty : _) (line : _) → e ≡ TExpr.Offset op left right size ty line → ⊥) → ((left : _) (right : _) (size : _) (line : _) → e ≡ TExpr.Difference left right size line → ⊥) → ((op : _) (left : _) (right : _) (line : _) → e ≡ TExpr.Logical op left right line → ⊥) → ((condition : _) (chosen : _) (otherwise : _) (ty : _) (line : _) → e ≡ TExpr.Conditional condition chosen otherwise ty line → ⊥) → ((left : _) (right : _) (ty : _) (line : _) → e ≡ TExpr.Comma left right ty line → ⊥) → (s : Setting) (v : Datum) (k : List Pending) (c : CopyOf) (m : Memory) (w : World Byte) → take_in s (expression_of e) Nothing v k c m w ≡ Lost
first_lost e no_convert no_cast no_unary no_binary no_offset no_difference no_logical no_conditional no_comma s v k c m w = first_lost_layer (out-TExpr e) e (roll-out-TExpr e) no_convert no_cast no_unary no_binary no_offset no_difference no_logical no_conditional no_comma s v k c m w

chosen_lost_layer : (l : TExpr-F TExpr TPlace) (e : TExpr) → roll-TExpr l ≡ e → ((condition : _) (chosen : _) (otherwise : _) (ty : _) (line : _) → e ≡ TExpr.Conditional condition chosen otherwise ty line → ⊥) → (s : Setting) (v : Datum) (k : List Pending) (c : CopyOf) (m : Memory) (w : World Byte) → take_in s (expression_of e) Chosen v k c m w ≡ Lost
chosen_lost_layer (Open.Constant value line) e is no_conditional s v k c m w = ap (λ e. take_in s (expression_of e) Chosen v k c m w) (sym is ∙ TExpr.rolls-Constant value line) ∙ chosen_constant s value line v k c m w
chosen_lost_layer (Open.Read place ty line) e is no_conditional s v k c m w = ap (λ e. take_in s (expression_of e) Chosen v k c m w) (sym is ∙ TExpr.rolls-Read place ty line) ∙ chosen_read s place ty line v k c m w
chosen_lost_layer (Open.Address place ty line) e is no_conditional s v k c m w = ap (λ e. take_in s (expression_of e) Chosen v k c m w) (sym is ∙ TExpr.rolls-Address place ty line) ∙ chosen_address s place ty line v k c m w
chosen_lost_layer (Open.Convert operand ty line) e is no_conditional s v k c m w = ap (λ e. take_in s (expression_of e) Chosen v k c m w) (sym is ∙ TExpr.rolls-Convert operand ty line) ∙ chosen_convert s operand ty line v k c m w
chosen_lost_layer (Open.Cast operand ty line) e is no_conditional s v k c m w = ap (λ e. take_in s (expression_of e) Chosen v k c m w) (sym is ∙ TExpr.rolls-Cast operand ty line) ∙ chosen_cast s operand ty line v k c m w
chosen_lost_layer (Open.Unary op operand ty line) e is no_conditional s v k c m w = ap (λ e. take_in s (expression_of e) Chosen v k c m w) (sym is ∙ TExpr.rolls-Unary op operand ty line) ∙ chosen_unary s op operand ty line v k c m w
chosen_lost_layer (Open.Binary op left right ty line) e is no_conditional s v k c m w = ap (λ e. take_in s (expression_of e) Chosen v k c m w) (sym is ∙ TExpr.rolls-Binary op left right ty line) ∙ chosen_binary s op left right ty line v k c m w
chosen_lost_layer (Open.Offset op left right size ty line) e is no_conditional s v k c m w = ap (λ e. take_in s (expression_of e) Chosen v k c m w) (sym is ∙ TExpr.rolls-Offset op left right size ty line) ∙ chosen_offset s op left right size ty line v k c m w
chosen_lost_layer (Open.Difference left right size line) e is no_conditional s v k c m w = ap (λ e. take_in s (expression_of e) Chosen v k c m w) (sym is ∙ TExpr.rolls-Difference left right size line) ∙ chosen_difference s left right size line v k c m w
chosen_lost_layer (Open.Logical op left right line) e is no_conditional s v k c m w = ap (λ e. take_in s (expression_of e) Chosen v k c m w) (sym is ∙ TExpr.rolls-Logical op left right line) ∙ chosen_logical s op left right line v k c m w
chosen_lost_layer (Open.Conditional x0 x1 x2 x3 x4) e is no_conditional s v k c m w = absurd (no_conditional x0 x1 x2 x3 x4 (sym is ∙ TExpr.rolls-Conditional x0 x1 x2 x3 x4))
chosen_lost_layer (Open.Comma left right ty line) e is no_conditional s v k c m w = ap (λ e. take_in s (expression_of e) Chosen v k c m w) (sym is ∙ TExpr.rolls-Comma left right ty line) ∙ chosen_comma s left right ty line v k c m w
chosen_lost_layer (Open.Assign place value ty line) e is no_conditional s v k c m w = ap (λ e. take_in s (expression_of e) Chosen v k c m w) (sym is ∙ TExpr.rolls-Assign place value ty line) ∙ chosen_assign s place value ty line v k c m w
chosen_lost_layer (Open.StructAssign place from size line) e is no_conditional s v k c m w = ap (λ e. take_in s (expression_of e) Chosen v k c m w) (sym is ∙ TExpr.rolls-StructAssign place from size line) ∙ chosen_struct_assign s place from size line v k c m w
chosen_lost_layer (Open.Update op place value operation size ty line) e is no_conditional s v k c m w = ap (λ e. take_in s (expression_of e) Chosen v k c m w) (sym is ∙ TExpr.rolls-Update op place value operation size ty line) ∙ chosen_update s op place value operation size ty line v k c m w
chosen_lost_layer (Open.Step op place operation size ty line) e is no_conditional s v k c m w = ap (λ e. take_in s (expression_of e) Chosen v k c m w) (sym is ∙ TExpr.rolls-Step op place operation size ty line) ∙ chosen_step s op place operation size ty line v k c m w
chosen_lost_layer (Open.Call function given ty line) e is no_conditional s v k c m w = ap (λ e. take_in s (expression_of e) Chosen v k c m w) (sym is ∙ TExpr.rolls-Call function given ty line) ∙ chosen_call s function given ty line v k c m w

pub chosen_lost : (e : TExpr) → ((condition : _) (chosen : _) (otherwise : _) (ty : _) (line : _) → e ≡ TExpr.Conditional condition chosen otherwise ty line → ⊥) → (s : Setting) (v : Datum) (k : List Pending) (c : CopyOf) (m : Memory) (w : World Byte) → take_in s (expression_of e) Chosen v k c m w ≡ Lost
chosen_lost e no_conditional s v k c m w = chosen_lost_layer (out-TExpr e) e (roll-out-TExpr e) no_conditional s v k c m w

right_other_layer : (l : TExpr-F TExpr TPlace) (e : TExpr) → roll-TExpr l ≡ e → ((op : _) (left : _) (right : _) (ty : _) (line : _) → e ≡ TExpr.Binary op left right ty line → ⊥) → ((op : _) (left : _) (right : _) (size : _) (ty : _) (line : _) → e ≡ TExpr.Offset op left right size ty line → ⊥) → ((left : _) (right : _) (size : _) (line : _) → e ≡ TExpr.Difference left right size line → ⊥) → ((op : _) (left : _) (right : _) (line : _) → e ≡ TExpr.Logical op left right line → ⊥) → (s : Setting) (u : Datum) (v : Datum) (k : List Pending) (c : CopyOf) (m : Memory) (w : World Byte) → take_in s (expression_of e) (One u) v k c m w ≡ Lost
right_other_layer (Open.Constant value line) e is no_binary no_offset no_difference no_logical s u v k c m w = ap (λ e. take_in s (expression_of e) (One u) v k c m w) (sym is ∙ TExpr.rolls-Constant value line) ∙ right_constant s value line u v k c m w
right_other_layer (Open.Read place ty line) e is no_binary no_offset no_difference no_logical s u v k c m w = ap (λ e. take_in s (expression_of e) (One u) v k c m w) (sym is ∙ TExpr.rolls-Read place ty line) ∙ right_read s place ty line u v k c m w
right_other_layer (Open.Address place ty line) e is no_binary no_offset no_difference no_logical s u v k c m w = ap (λ e. take_in s (expression_of e) (One u) v k c m w) (sym is ∙ TExpr.rolls-Address place ty line) ∙ right_address s place ty line u v k c m w
right_other_layer (Open.Convert operand ty line) e is no_binary no_offset no_difference no_logical s u v k c m w = ap (λ e. take_in s (expression_of e) (One u) v k c m w) (sym is ∙ TExpr.rolls-Convert operand ty line) ∙ right_convert s operand ty line u v k c m w
right_other_layer (Open.Cast operand ty line) e is no_binary no_offset no_difference no_logical s u v k c m w = ap (λ e. take_in s (expression_of e) (One u) v k c m w) (sym is ∙ TExpr.rolls-Cast operand ty line) ∙ right_cast s operand ty line u v k c m w
right_other_layer (Open.Unary op operand ty line) e is no_binary no_offset no_difference no_logical s u v k c m w = ap (λ e. take_in s (expression_of e) (One u) v k c m w) (sym is ∙ TExpr.rolls-Unary op operand ty line) ∙ right_unary s op operand ty line u v k c m w
right_other_layer (Open.Binary x0 x1 x2 x3 x4) e is no_binary no_offset no_difference no_logical s u v k c m w = absurd (no_binary x0 x1 x2 x3 x4 (sym is ∙ TExpr.rolls-Binary x0 x1 x2 x3 x4))
right_other_layer (Open.Offset x0 x1 x2 x3 x4 x5) e is no_binary no_offset no_difference no_logical s u v k c m w = absurd (no_offset x0 x1 x2 x3 x4 x5 (sym is ∙ TExpr.rolls-Offset x0 x1 x2 x3 x4 x5))
right_other_layer (Open.Difference x0 x1 x2 x3) e is no_binary no_offset no_difference no_logical s u v k c m w = absurd (no_difference x0 x1 x2 x3 (sym is ∙ TExpr.rolls-Difference x0 x1 x2 x3))
right_other_layer (Open.Logical x0 x1 x2 x3) e is no_binary no_offset no_difference no_logical s u v k c m w = absurd (no_logical x0 x1 x2 x3 (sym is ∙ TExpr.rolls-Logical x0 x1 x2 x3))
right_other_layer (Open.Conditional condition chosen otherwise ty line) e is no_binary no_offset no_difference no_logical s u v k c m w = ap (λ e. take_in s (expression_of e) (One u) v k c m w) (sym is ∙ TExpr.rolls-Conditional condition chosen otherwise ty line) ∙ right_conditional s condition chosen otherwise ty line u v k c m w
right_other_layer (Open.Comma left right ty line) e is no_binary no_offset no_difference no_logical s u v k c m w = ap (λ e. take_in s (expression_of e) (One u) v k c m w) (sym is ∙ TExpr.rolls-Comma left right ty line) ∙ right_comma s left right ty line u v k c m w
right_other_layer (Open.Assign place value ty line) e is no_binary no_offset no_difference no_logical s u v k c m w = ap (λ e. take_in s (expression_of e) (One u) v k c m w) (sym is ∙ TExpr.rolls-Assign place value ty line) ∙ right_assign s place value ty line u v k c m w
right_other_layer (Open.StructAssign place from size line) e is no_binary no_offset no_difference no_logical s u v k c m w = ap (λ e. take_in s (expression_of e) (One u) v k c m w) (sym is ∙ TExpr.rolls-StructAssign place from size line) ∙ right_struct_assign s place from size line u v k c m w
right_other_layer (Open.Update op place value operation size ty line) e is no_binary no_offset no_difference no_logical s u v k c m w = ap (λ e. take_in s (expression_of e) (One u) v k c m w) (sym is ∙ TExpr.rolls-Update op place value operation size ty line) ∙ right_update s op place value operation size ty line u v k c m w
right_other_layer (Open.Step op place operation size ty line) e is no_binary no_offset no_difference no_logical s u v k c m w = ap (λ e. take_in s (expression_of e) (One u) v k c m w) (sym is ∙ TExpr.rolls-Step op place operation size ty line) ∙ right_step s op place operation size ty line u v k c m w
right_other_layer (Open.Call function given ty line) e is no_binary no_offset no_difference no_logical s u v k c m w = ap (λ e. take_in s (expression_of e) (One u) v k c m w) (sym is ∙ TExpr.rolls-Call function given ty line) ∙ right_call s function given ty line u v k c m w

pub right_other : (e : TExpr) → ((op : _) (left : _) (right : _) (ty : _) (line : _) → e ≡ TExpr.Binary op left right ty line → ⊥) → ((op : _) (left : _) (right : _) (size : _) (ty : _) (line : _) → e ≡ TExpr.Offset op left right size ty line → ⊥) → ((left : _) (right : _) (size : _) (line : _) → e ≡ TExpr.Difference left right size line → ⊥) → ((op : _) (left : _) (right : _) (line : _) → e ≡ TExpr.Logical op left right line → ⊥) → (s : Setting) (u : Datum) (v : Datum) (k : List Pending) (c : CopyOf) (m : Memory) (w : World Byte) → take_in s (expression_of e) (One u) v k c m w ≡ Lost
right_other e no_binary no_offset no_difference no_logical s u v k c m w = right_other_layer (out-TExpr e) e (roll-out-TExpr e) no_binary no_offset no_difference no_logical s u v k c m w

at_lost_layer : (l : TExpr-F TExpr TPlace) (e : TExpr) → roll-TExpr l ≡ e → ((place : _) (value : _) (ty : _) (line : _) → e ≡ TExpr.Assign place value ty line → ⊥) → ((op : _) (place : _) (value : _) (operation : _) (size : _) (ty : _) (line : _) → e ≡ TExpr.Update op place value operation size ty line → ⊥) → ((op : _) (place : _) (operation : _) (size : _) (ty : _) (line : _) → e ≡ TExpr.Step op place operation size ty line → ⊥) → (s : Setting) (spot : Spot) (v : Datum) (k : List Pending) (c : CopyOf) (m : Memory) (w : World Byte) → take_in s (expression_of e) (At spot) v k c m w ≡ Lost
at_lost_layer (Open.Constant value line) e is no_assign no_update no_step s spot v k c m w = ap (λ e. take_in s (expression_of e) (At spot) v k c m w) (sym is ∙ TExpr.rolls-Constant value line) ∙ at_constant s value line spot v k c m w
at_lost_layer (Open.Read place ty line) e is no_assign no_update no_step s spot v k c m w = ap (λ e. take_in s (expression_of e) (At spot) v k c m w) (sym is ∙ TExpr.rolls-Read place ty line) ∙ at_read s place ty line spot v k c m w
at_lost_layer (Open.Address place ty line) e is no_assign no_update no_step s spot v k c m w = ap (λ e. take_in s (expression_of e) (At spot) v k c m w) (sym is ∙ TExpr.rolls-Address place ty line) ∙ at_address s place ty line spot v k c m w
at_lost_layer (Open.Convert operand ty line) e is no_assign no_update no_step s spot v k c m w = ap (λ e. take_in s (expression_of e) (At spot) v k c m w) (sym is ∙ TExpr.rolls-Convert operand ty line) ∙ at_convert s operand ty line spot v k c m w
at_lost_layer (Open.Cast operand ty line) e is no_assign no_update no_step s spot v k c m w = ap (λ e. take_in s (expression_of e) (At spot) v k c m w) (sym is ∙ TExpr.rolls-Cast operand ty line) ∙ at_cast s operand ty line spot v k c m w
at_lost_layer (Open.Unary op operand ty line) e is no_assign no_update no_step s spot v k c m w = ap (λ e. take_in s (expression_of e) (At spot) v k c m w) (sym is ∙ TExpr.rolls-Unary op operand ty line) ∙ at_unary s op operand ty line spot v k c m w
at_lost_layer (Open.Binary op left right ty line) e is no_assign no_update no_step s spot v k c m w = ap (λ e. take_in s (expression_of e) (At spot) v k c m w) (sym is ∙ TExpr.rolls-Binary op left right ty line) ∙ at_binary s op left right ty line spot v k c m w
at_lost_layer (Open.Offset op left right size ty line) e is no_assign no_update no_step s spot v k c m w = ap (λ e. take_in s (expression_of e) (At spot) v k c m w) (sym is ∙ TExpr.rolls-Offset op left right size ty line) ∙ at_offset s op left right size ty line spot v k c m w
at_lost_layer (Open.Difference left right size line) e is no_assign no_update no_step s spot v k c m w = ap (λ e. take_in s (expression_of e) (At spot) v k c m w) (sym is ∙ TExpr.rolls-Difference left right size line) ∙ at_difference s left right size line spot v k c m w
at_lost_layer (Open.Logical op left right line) e is no_assign no_update no_step s spot v k c m w = ap (λ e. take_in s (expression_of e) (At spot) v k c m w) (sym is ∙ TExpr.rolls-Logical op left right line) ∙ at_logical s op left right line spot v k c m w
at_lost_layer (Open.Conditional condition chosen otherwise ty line) e is no_assign no_update no_step s spot v k c m w = ap (λ e. take_in s (expression_of e) (At spot) v k c m w) (sym is ∙ TExpr.rolls-Conditional condition chosen otherwise ty line) ∙ at_conditional s condition chosen otherwise ty line spot v k c m w
at_lost_layer (Open.Comma left right ty line) e is no_assign no_update no_step s spot v k c m w = ap (λ e. take_in s (expression_of e) (At spot) v k c m w) (sym is ∙ TExpr.rolls-Comma left right ty line) ∙ at_comma s left right ty line spot v k c m w
at_lost_layer (Open.Assign x0 x1 x2 x3) e is no_assign no_update no_step s spot v k c m w = absurd (no_assign x0 x1 x2 x3 (sym is ∙ TExpr.rolls-Assign x0 x1 x2 x3))
at_lost_layer (Open.StructAssign place from size line) e is no_assign no_update no_step s spot v k c m w = ap (λ e. take_in s (expression_of e) (At spot) v k c m w) (sym is ∙ TExpr.rolls-StructAssign place from size line) ∙ at_struct_assign s place from size line spot v k c m w
at_lost_layer (Open.Update x0 x1 x2 x3 x4 x5 x6) e is no_assign no_update no_step s spot v k c m w = absurd (no_update x0 x1 x2 x3 x4 x5 x6 (sym is ∙ TExpr.rolls-Update x0 x1 x2 x3 x4 x5 x6))
at_lost_layer (Open.Step x0 x1 x2 x3 x4 x5) e is no_assign no_update no_step s spot v k c m w = absurd (no_step x0 x1 x2 x3 x4 x5 (sym is ∙ TExpr.rolls-Step x0 x1 x2 x3 x4 x5))
at_lost_layer (Open.Call function given ty line) e is no_assign no_update no_step s spot v k c m w = ap (λ e. take_in s (expression_of e) (At spot) v k c m w) (sym is ∙ TExpr.rolls-Call function given ty line) ∙ at_call s function given ty line spot v k c m w

pub at_lost : (e : TExpr) → ((place : _) (value : _) (ty : _) (line : _) → e ≡ TExpr.Assign place value ty line → ⊥) → ((op : _) (place : _) (value : _) (operation : _) (size : _) (ty : _) (line : _) → e ≡ TExpr.Update op place value operation size ty line → ⊥) → ((op : _) (place : _) (operation : _) (size : _) (ty : _) (line : _) → e ≡ TExpr.Step op place operation size ty line → ⊥) → (s : Setting) (spot : Spot) (v : Datum) (k : List Pending) (c : CopyOf) (m : Memory) (w : World Byte) → take_in s (expression_of e) (At spot) v k c m w ≡ Lost
at_lost e no_assign no_update no_step s spot v k c m w = at_lost_layer (out-TExpr e) e (roll-out-TExpr e) no_assign no_update no_step s spot v k c m w

old_lost_layer : (l : TExpr-F TExpr TPlace) (e : TExpr) → roll-TExpr l ≡ e → ((op : _) (place : _) (value : _) (operation : _) (size : _) (ty : _) (line : _) → e ≡ TExpr.Update op place value operation size ty line → ⊥) → (s : Setting) (spot : Spot) (u : Datum) (v : Datum) (k : List Pending) (c : CopyOf) (m : Memory) (w : World Byte) → take_in s (expression_of e) (AtWith spot u) v k c m w ≡ Lost
old_lost_layer (Open.Constant value line) e is no_update s spot u v k c m w = ap (λ e. take_in s (expression_of e) (AtWith spot u) v k c m w) (sym is ∙ TExpr.rolls-Constant value line) ∙ old_constant s value line spot u v k c m w
old_lost_layer (Open.Read place ty line) e is no_update s spot u v k c m w = ap (λ e. take_in s (expression_of e) (AtWith spot u) v k c m w) (sym is ∙ TExpr.rolls-Read place ty line) ∙ old_read s place ty line spot u v k c m w
old_lost_layer (Open.Address place ty line) e is no_update s spot u v k c m w = ap (λ e. take_in s (expression_of e) (AtWith spot u) v k c m w) (sym is ∙ TExpr.rolls-Address place ty line) ∙ old_address s place ty line spot u v k c m w
old_lost_layer (Open.Convert operand ty line) e is no_update s spot u v k c m w = ap (λ e. take_in s (expression_of e) (AtWith spot u) v k c m w) (sym is ∙ TExpr.rolls-Convert operand ty line) ∙ old_convert s operand ty line spot u v k c m w
old_lost_layer (Open.Cast operand ty line) e is no_update s spot u v k c m w = ap (λ e. take_in s (expression_of e) (AtWith spot u) v k c m w) (sym is ∙ TExpr.rolls-Cast operand ty line) ∙ old_cast s operand ty line spot u v k c m w
old_lost_layer (Open.Unary op operand ty line) e is no_update s spot u v k c m w = ap (λ e. take_in s (expression_of e) (AtWith spot u) v k c m w) (sym is ∙ TExpr.rolls-Unary op operand ty line) ∙ old_unary s op operand ty line spot u v k c m w
old_lost_layer (Open.Binary op left right ty line) e is no_update s spot u v k c m w = ap (λ e. take_in s (expression_of e) (AtWith spot u) v k c m w) (sym is ∙ TExpr.rolls-Binary op left right ty line) ∙ old_binary s op left right ty line spot u v k c m w
old_lost_layer (Open.Offset op left right size ty line) e is no_update s spot u v k c m w = ap (λ e. take_in s (expression_of e) (AtWith spot u) v k c m w) (sym is ∙ TExpr.rolls-Offset op left right size ty line) ∙ old_offset s op left right size ty line spot u v k c m w
old_lost_layer (Open.Difference left right size line) e is no_update s spot u v k c m w = ap (λ e. take_in s (expression_of e) (AtWith spot u) v k c m w) (sym is ∙ TExpr.rolls-Difference left right size line) ∙ old_difference s left right size line spot u v k c m w
old_lost_layer (Open.Logical op left right line) e is no_update s spot u v k c m w = ap (λ e. take_in s (expression_of e) (AtWith spot u) v k c m w) (sym is ∙ TExpr.rolls-Logical op left right line) ∙ old_logical s op left right line spot u v k c m w
old_lost_layer (Open.Conditional condition chosen otherwise ty line) e is no_update s spot u v k c m w = ap (λ e. take_in s (expression_of e) (AtWith spot u) v k c m w) (sym is ∙ TExpr.rolls-Conditional condition chosen otherwise ty line) ∙ old_conditional s condition chosen otherwise ty line spot u v k c m w
old_lost_layer (Open.Comma left right ty line) e is no_update s spot u v k c m w = ap (λ e. take_in s (expression_of e) (AtWith spot u) v k c m w) (sym is ∙ TExpr.rolls-Comma left right ty line) ∙ old_comma s left right ty line spot u v k c m w
old_lost_layer (Open.Assign place value ty line) e is no_update s spot u v k c m w = ap (λ e. take_in s (expression_of e) (AtWith spot u) v k c m w) (sym is ∙ TExpr.rolls-Assign place value ty line) ∙ old_assign s place value ty line spot u v k c m w
old_lost_layer (Open.StructAssign place from size line) e is no_update s spot u v k c m w = ap (λ e. take_in s (expression_of e) (AtWith spot u) v k c m w) (sym is ∙ TExpr.rolls-StructAssign place from size line) ∙ old_struct_assign s place from size line spot u v k c m w
old_lost_layer (Open.Update x0 x1 x2 x3 x4 x5 x6) e is no_update s spot u v k c m w = absurd (no_update x0 x1 x2 x3 x4 x5 x6 (sym is ∙ TExpr.rolls-Update x0 x1 x2 x3 x4 x5 x6))
old_lost_layer (Open.Step op place operation size ty line) e is no_update s spot u v k c m w = ap (λ e. take_in s (expression_of e) (AtWith spot u) v k c m w) (sym is ∙ TExpr.rolls-Step op place operation size ty line) ∙ old_step s op place operation size ty line spot u v k c m w
old_lost_layer (Open.Call function given ty line) e is no_update s spot u v k c m w = ap (λ e. take_in s (expression_of e) (AtWith spot u) v k c m w) (sym is ∙ TExpr.rolls-Call function given ty line) ∙ old_call s function given ty line spot u v k c m w

pub old_lost : (e : TExpr) → ((op : _) (place : _) (value : _) (operation : _) (size : _) (ty : _) (line : _) → e ≡ TExpr.Update op place value operation size ty line → ⊥) → (s : Setting) (spot : Spot) (u : Datum) (v : Datum) (k : List Pending) (c : CopyOf) (m : Memory) (w : World Byte) → take_in s (expression_of e) (AtWith spot u) v k c m w ≡ Lost
old_lost e no_update s spot u v k c m w = old_lost_layer (out-TExpr e) e (roll-out-TExpr e) no_update s spot u v k c m w

args_other_layer : (l : TExpr-F TExpr TPlace) (e : TExpr) → roll-TExpr l ≡ e → ((function : _) (arguments : _) (ty : _) (line : _) → e ≡ TExpr.Call function arguments ty line → ⊥) → (s : Setting) (before : List Datum) (more : Expressions) (v : Datum) (k : List Pending) (c : CopyOf) (m : Memory) (w : World Byte) → take_in s (expression_of e) (Args before more) v k c m w ≡ Lost
args_other_layer (Open.Constant value line) e is no_call s before more v k c m w = ap (λ e. take_in s (expression_of e) (Args before more) v k c m w) (sym is ∙ TExpr.rolls-Constant value line) ∙ args_constant s value line before more v k c m w
args_other_layer (Open.Read place ty line) e is no_call s before more v k c m w = ap (λ e. take_in s (expression_of e) (Args before more) v k c m w) (sym is ∙ TExpr.rolls-Read place ty line) ∙ args_read s place ty line before more v k c m w
args_other_layer (Open.Address place ty line) e is no_call s before more v k c m w = ap (λ e. take_in s (expression_of e) (Args before more) v k c m w) (sym is ∙ TExpr.rolls-Address place ty line) ∙ args_address s place ty line before more v k c m w
args_other_layer (Open.Convert operand ty line) e is no_call s before more v k c m w = ap (λ e. take_in s (expression_of e) (Args before more) v k c m w) (sym is ∙ TExpr.rolls-Convert operand ty line) ∙ args_convert s operand ty line before more v k c m w
args_other_layer (Open.Cast operand ty line) e is no_call s before more v k c m w = ap (λ e. take_in s (expression_of e) (Args before more) v k c m w) (sym is ∙ TExpr.rolls-Cast operand ty line) ∙ args_cast s operand ty line before more v k c m w
args_other_layer (Open.Unary op operand ty line) e is no_call s before more v k c m w = ap (λ e. take_in s (expression_of e) (Args before more) v k c m w) (sym is ∙ TExpr.rolls-Unary op operand ty line) ∙ args_unary s op operand ty line before more v k c m w
args_other_layer (Open.Binary op left right ty line) e is no_call s before more v k c m w = ap (λ e. take_in s (expression_of e) (Args before more) v k c m w) (sym is ∙ TExpr.rolls-Binary op left right ty line) ∙ args_binary s op left right ty line before more v k c m w
args_other_layer (Open.Offset op left right size ty line) e is no_call s before more v k c m w = ap (λ e. take_in s (expression_of e) (Args before more) v k c m w) (sym is ∙ TExpr.rolls-Offset op left right size ty line) ∙ args_offset s op left right size ty line before more v k c m w
args_other_layer (Open.Difference left right size line) e is no_call s before more v k c m w = ap (λ e. take_in s (expression_of e) (Args before more) v k c m w) (sym is ∙ TExpr.rolls-Difference left right size line) ∙ args_difference s left right size line before more v k c m w
args_other_layer (Open.Logical op left right line) e is no_call s before more v k c m w = ap (λ e. take_in s (expression_of e) (Args before more) v k c m w) (sym is ∙ TExpr.rolls-Logical op left right line) ∙ args_logical s op left right line before more v k c m w
args_other_layer (Open.Conditional condition chosen otherwise ty line) e is no_call s before more v k c m w = ap (λ e. take_in s (expression_of e) (Args before more) v k c m w) (sym is ∙ TExpr.rolls-Conditional condition chosen otherwise ty line) ∙ args_conditional s condition chosen otherwise ty line before more v k c m w
args_other_layer (Open.Comma left right ty line) e is no_call s before more v k c m w = ap (λ e. take_in s (expression_of e) (Args before more) v k c m w) (sym is ∙ TExpr.rolls-Comma left right ty line) ∙ args_comma s left right ty line before more v k c m w
args_other_layer (Open.Assign place value ty line) e is no_call s before more v k c m w = ap (λ e. take_in s (expression_of e) (Args before more) v k c m w) (sym is ∙ TExpr.rolls-Assign place value ty line) ∙ args_assign s place value ty line before more v k c m w
args_other_layer (Open.StructAssign place from size line) e is no_call s before more v k c m w = ap (λ e. take_in s (expression_of e) (Args before more) v k c m w) (sym is ∙ TExpr.rolls-StructAssign place from size line) ∙ args_struct_assign s place from size line before more v k c m w
args_other_layer (Open.Update op place value operation size ty line) e is no_call s before more v k c m w = ap (λ e. take_in s (expression_of e) (Args before more) v k c m w) (sym is ∙ TExpr.rolls-Update op place value operation size ty line) ∙ args_update s op place value operation size ty line before more v k c m w
args_other_layer (Open.Step op place operation size ty line) e is no_call s before more v k c m w = ap (λ e. take_in s (expression_of e) (Args before more) v k c m w) (sym is ∙ TExpr.rolls-Step op place operation size ty line) ∙ args_step s op place operation size ty line before more v k c m w
args_other_layer (Open.Call x0 x1 x2 x3) e is no_call s before more v k c m w = absurd (no_call x0 x1 x2 x3 (sym is ∙ TExpr.rolls-Call x0 x1 x2 x3))

pub args_other : (e : TExpr) → ((function : _) (arguments : _) (ty : _) (line : _) → e ≡ TExpr.Call function arguments ty line → ⊥) → (s : Setting) (before : List Datum) (more : Expressions) (v : Datum) (k : List Pending) (c : CopyOf) (m : Memory) (w : World Byte) → take_in s (expression_of e) (Args before more) v k c m w ≡ Lost
args_other e no_call s before more v k c m w = args_other_layer (out-TExpr e) e (roll-out-TExpr e) no_call s before more v k c m w

first_found_lost_layer : (l : TExpr-F TExpr TPlace) (e : TExpr) → roll-TExpr l ≡ e → ((place : _) (ty : _) (line : _) → e ≡ TExpr.Address place ty line → ⊥) → ((place : _) (ty : _) (line : _) → e ≡ TExpr.Read place ty line → ⊥) → ((op : _) (place : _) (operation : _) (size : _) (ty : _) (line : _) → e ≡ TExpr.Step op place operation size ty line → ⊥) → ((place : _) (value : _) (ty : _) (line : _) → e ≡ TExpr.Assign place value ty line → ⊥) → ((op : _) (place : _) (value : _) (operation : _) (size : _) (ty : _) (line : _) → e ≡ TExpr.Update op place value operation size ty line → ⊥) → ((place : _) (from : _) (size : _) (line : _) → e ≡ TExpr.StructAssign place from size line → ⊥) → (s : Setting) (spot : Spot) (k : List Pending) (c : CopyOf) (m : Memory) (w : World Byte) → found_in s (expression_of e) Nothing spot k c m w ≡ Lost
first_found_lost_layer (Open.Constant value line) e is no_address no_read no_step no_assign no_update no_structassign s spot k c m w = ap (λ e. found_in s (expression_of e) Nothing spot k c m w) (sym is ∙ TExpr.rolls-Constant value line) ∙ first_found_constant s value line spot k c m w
first_found_lost_layer (Open.Read x0 x1 x2) e is no_address no_read no_step no_assign no_update no_structassign s spot k c m w = absurd (no_read x0 x1 x2 (sym is ∙ TExpr.rolls-Read x0 x1 x2))
first_found_lost_layer (Open.Address x0 x1 x2) e is no_address no_read no_step no_assign no_update no_structassign s spot k c m w = absurd (no_address x0 x1 x2 (sym is ∙ TExpr.rolls-Address x0 x1 x2))
first_found_lost_layer (Open.Convert operand ty line) e is no_address no_read no_step no_assign no_update no_structassign s spot k c m w = ap (λ e. found_in s (expression_of e) Nothing spot k c m w) (sym is ∙ TExpr.rolls-Convert operand ty line) ∙ first_found_convert s operand ty line spot k c m w
first_found_lost_layer (Open.Cast operand ty line) e is no_address no_read no_step no_assign no_update no_structassign s spot k c m w = ap (λ e. found_in s (expression_of e) Nothing spot k c m w) (sym is ∙ TExpr.rolls-Cast operand ty line) ∙ first_found_cast s operand ty line spot k c m w
first_found_lost_layer (Open.Unary op operand ty line) e is no_address no_read no_step no_assign no_update no_structassign s spot k c m w = ap (λ e. found_in s (expression_of e) Nothing spot k c m w) (sym is ∙ TExpr.rolls-Unary op operand ty line) ∙ first_found_unary s op operand ty line spot k c m w
first_found_lost_layer (Open.Binary op left right ty line) e is no_address no_read no_step no_assign no_update no_structassign s spot k c m w = ap (λ e. found_in s (expression_of e) Nothing spot k c m w) (sym is ∙ TExpr.rolls-Binary op left right ty line) ∙ first_found_binary s op left right ty line spot k c m w
first_found_lost_layer (Open.Offset op left right size ty line) e is no_address no_read no_step no_assign no_update no_structassign s spot k c m w = ap (λ e. found_in s (expression_of e) Nothing spot k c m w) (sym is ∙ TExpr.rolls-Offset op left right size ty line) ∙ first_found_offset s op left right size ty line spot k c m w
first_found_lost_layer (Open.Difference left right size line) e is no_address no_read no_step no_assign no_update no_structassign s spot k c m w = ap (λ e. found_in s (expression_of e) Nothing spot k c m w) (sym is ∙ TExpr.rolls-Difference left right size line) ∙ first_found_difference s left right size line spot k c m w
first_found_lost_layer (Open.Logical op left right line) e is no_address no_read no_step no_assign no_update no_structassign s spot k c m w = ap (λ e. found_in s (expression_of e) Nothing spot k c m w) (sym is ∙ TExpr.rolls-Logical op left right line) ∙ first_found_logical s op left right line spot k c m w
first_found_lost_layer (Open.Conditional condition chosen otherwise ty line) e is no_address no_read no_step no_assign no_update no_structassign s spot k c m w = ap (λ e. found_in s (expression_of e) Nothing spot k c m w) (sym is ∙ TExpr.rolls-Conditional condition chosen otherwise ty line) ∙ first_found_conditional s condition chosen otherwise ty line spot k c m w
first_found_lost_layer (Open.Comma left right ty line) e is no_address no_read no_step no_assign no_update no_structassign s spot k c m w = ap (λ e. found_in s (expression_of e) Nothing spot k c m w) (sym is ∙ TExpr.rolls-Comma left right ty line) ∙ first_found_comma s left right ty line spot k c m w
first_found_lost_layer (Open.Assign x0 x1 x2 x3) e is no_address no_read no_step no_assign no_update no_structassign s spot k c m w = absurd (no_assign x0 x1 x2 x3 (sym is ∙ TExpr.rolls-Assign x0 x1 x2 x3))
first_found_lost_layer (Open.StructAssign x0 x1 x2 x3) e is no_address no_read no_step no_assign no_update no_structassign s spot k c m w = absurd (no_structassign x0 x1 x2 x3 (sym is ∙ TExpr.rolls-StructAssign x0 x1 x2 x3))
first_found_lost_layer (Open.Update x0 x1 x2 x3 x4 x5 x6) e is no_address no_read no_step no_assign no_update no_structassign s spot k c m w = absurd (no_update x0 x1 x2 x3 x4 x5 x6 (sym is ∙ TExpr.rolls-Update x0 x1 x2 x3 x4 x5 x6))
first_found_lost_layer (Open.Step x0 x1 x2 x3 x4 x5) e is no_address no_read no_step no_assign no_update no_structassign s spot k c m w = absurd (no_step x0 x1 x2 x3 x4 x5 (sym is ∙ TExpr.rolls-Step x0 x1 x2 x3 x4 x5))
first_found_lost_layer (Open.Call function given ty line) e is no_address no_read no_step no_assign no_update no_structassign s spot k c m w = ap (λ e. found_in s (expression_of e) Nothing spot k c m w) (sym is ∙ TExpr.rolls-Call function given ty line) ∙ first_found_call s function given ty line spot k c m w

pub first_found_lost : (e : TExpr) → ((place : _) (ty : _) (line : _) → e ≡ TExpr.Address place ty line → ⊥) → ((place : _) (ty : _) (line : _) → e ≡ TExpr.Read place ty line → ⊥) → ((op : _) (place : _) (operation : _) (size : _) (ty : _) (line : _) → e ≡ TExpr.Step op place operation size ty line → ⊥) → ((place : _) (value : _) (ty : _) (line : _) → e ≡ TExpr.Assign place value ty line → ⊥) → ((op : _) (place : _) (value : _) (operation : _) (size : _) (ty : _) (line : _) → e ≡ TExpr.Update op place value operation size ty line → ⊥) → ((place : _) (from : _) (size : _) (line : _) → e ≡ TExpr.StructAssign place from size line → ⊥) → (s : Setting) (spot : Spot) (k : List Pending) (c : CopyOf) (m : Memory) (w : World Byte) → found_in s (expression_of e) Nothing spot k c m w ≡ Lost
first_found_lost e no_address no_read no_step no_assign no_update no_structassign s spot k c m w = first_found_lost_layer (out-TExpr e) e (roll-out-TExpr e) no_address no_read no_step no_assign no_update no_structassign s spot k c m w

second_found_lost_layer : (l : TExpr-F TExpr TPlace) (e : TExpr) → roll-TExpr l ≡ e → ((place : _) (from : _) (size : _) (line : _) → e ≡ TExpr.StructAssign place from size line → ⊥) → (s : Setting) (to : Spot) (spot : Spot) (k : List Pending) (c : CopyOf) (m : Memory) (w : World Byte) → found_in s (expression_of e) (At to) spot k c m w ≡ Lost
second_found_lost_layer (Open.Constant value line) e is no_structassign s to spot k c m w = ap (λ e. found_in s (expression_of e) (At to) spot k c m w) (sym is ∙ TExpr.rolls-Constant value line) ∙ second_found_constant s value line to spot k c m w
second_found_lost_layer (Open.Read place ty line) e is no_structassign s to spot k c m w = ap (λ e. found_in s (expression_of e) (At to) spot k c m w) (sym is ∙ TExpr.rolls-Read place ty line) ∙ second_found_read s place ty line to spot k c m w
second_found_lost_layer (Open.Address place ty line) e is no_structassign s to spot k c m w = ap (λ e. found_in s (expression_of e) (At to) spot k c m w) (sym is ∙ TExpr.rolls-Address place ty line) ∙ second_found_address s place ty line to spot k c m w
second_found_lost_layer (Open.Convert operand ty line) e is no_structassign s to spot k c m w = ap (λ e. found_in s (expression_of e) (At to) spot k c m w) (sym is ∙ TExpr.rolls-Convert operand ty line) ∙ second_found_convert s operand ty line to spot k c m w
second_found_lost_layer (Open.Cast operand ty line) e is no_structassign s to spot k c m w = ap (λ e. found_in s (expression_of e) (At to) spot k c m w) (sym is ∙ TExpr.rolls-Cast operand ty line) ∙ second_found_cast s operand ty line to spot k c m w
second_found_lost_layer (Open.Unary op operand ty line) e is no_structassign s to spot k c m w = ap (λ e. found_in s (expression_of e) (At to) spot k c m w) (sym is ∙ TExpr.rolls-Unary op operand ty line) ∙ second_found_unary s op operand ty line to spot k c m w
second_found_lost_layer (Open.Binary op left right ty line) e is no_structassign s to spot k c m w = ap (λ e. found_in s (expression_of e) (At to) spot k c m w) (sym is ∙ TExpr.rolls-Binary op left right ty line) ∙ second_found_binary s op left right ty line to spot k c m w
second_found_lost_layer (Open.Offset op left right size ty line) e is no_structassign s to spot k c m w = ap (λ e. found_in s (expression_of e) (At to) spot k c m w) (sym is ∙ TExpr.rolls-Offset op left right size ty line) ∙ second_found_offset s op left right size ty line to spot k c m w
second_found_lost_layer (Open.Difference left right size line) e is no_structassign s to spot k c m w = ap (λ e. found_in s (expression_of e) (At to) spot k c m w) (sym is ∙ TExpr.rolls-Difference left right size line) ∙ second_found_difference s left right size line to spot k c m w
second_found_lost_layer (Open.Logical op left right line) e is no_structassign s to spot k c m w = ap (λ e. found_in s (expression_of e) (At to) spot k c m w) (sym is ∙ TExpr.rolls-Logical op left right line) ∙ second_found_logical s op left right line to spot k c m w
second_found_lost_layer (Open.Conditional condition chosen otherwise ty line) e is no_structassign s to spot k c m w = ap (λ e. found_in s (expression_of e) (At to) spot k c m w) (sym is ∙ TExpr.rolls-Conditional condition chosen otherwise ty line) ∙ second_found_conditional s condition chosen otherwise ty line to spot k c m w
second_found_lost_layer (Open.Comma left right ty line) e is no_structassign s to spot k c m w = ap (λ e. found_in s (expression_of e) (At to) spot k c m w) (sym is ∙ TExpr.rolls-Comma left right ty line) ∙ second_found_comma s left right ty line to spot k c m w
second_found_lost_layer (Open.Assign place value ty line) e is no_structassign s to spot k c m w = ap (λ e. found_in s (expression_of e) (At to) spot k c m w) (sym is ∙ TExpr.rolls-Assign place value ty line) ∙ second_found_assign s place value ty line to spot k c m w
second_found_lost_layer (Open.StructAssign x0 x1 x2 x3) e is no_structassign s to spot k c m w = absurd (no_structassign x0 x1 x2 x3 (sym is ∙ TExpr.rolls-StructAssign x0 x1 x2 x3))
second_found_lost_layer (Open.Update op place value operation size ty line) e is no_structassign s to spot k c m w = ap (λ e. found_in s (expression_of e) (At to) spot k c m w) (sym is ∙ TExpr.rolls-Update op place value operation size ty line) ∙ second_found_update s op place value operation size ty line to spot k c m w
second_found_lost_layer (Open.Step op place operation size ty line) e is no_structassign s to spot k c m w = ap (λ e. found_in s (expression_of e) (At to) spot k c m w) (sym is ∙ TExpr.rolls-Step op place operation size ty line) ∙ second_found_step s op place operation size ty line to spot k c m w
second_found_lost_layer (Open.Call function given ty line) e is no_structassign s to spot k c m w = ap (λ e. found_in s (expression_of e) (At to) spot k c m w) (sym is ∙ TExpr.rolls-Call function given ty line) ∙ second_found_call s function given ty line to spot k c m w

pub second_found_lost : (e : TExpr) → ((place : _) (from : _) (size : _) (line : _) → e ≡ TExpr.StructAssign place from size line → ⊥) → (s : Setting) (to : Spot) (spot : Spot) (k : List Pending) (c : CopyOf) (m : Memory) (w : World Byte) → found_in s (expression_of e) (At to) spot k c m w ≡ Lost
second_found_lost e no_structassign s to spot k c m w = second_found_lost_layer (out-TExpr e) e (roll-out-TExpr e) no_structassign s to spot k c m w

hands_other_layer : (l : TExpr-F TExpr TPlace) (e : TExpr) → roll-TExpr l ≡ e → ((function : _) (arguments : _) (ty : _) (line : _) → e ≡ TExpr.Call function arguments ty line → ⊥) → (v : Datum) (d : CopyOf) (k : List Pending) (m : Memory) (w : World Byte) → handed v d (In (expression_of e) Called ∷ k) m w ≡ Lost
hands_other_layer (Open.Constant q line) e is no_call v d k m w = ap (λ e. handed v d (In (expression_of e) Called ∷ k) m w) (sym is ∙ TExpr.rolls-Constant q line) ∙ hands_constant v d q line k m w
hands_other_layer (Open.Read place ty line) e is no_call v d k m w = ap (λ e. handed v d (In (expression_of e) Called ∷ k) m w) (sym is ∙ TExpr.rolls-Read place ty line) ∙ hands_read v d place ty line k m w
hands_other_layer (Open.Address place ty line) e is no_call v d k m w = ap (λ e. handed v d (In (expression_of e) Called ∷ k) m w) (sym is ∙ TExpr.rolls-Address place ty line) ∙ hands_address v d place ty line k m w
hands_other_layer (Open.Convert operand ty line) e is no_call v d k m w = ap (λ e. handed v d (In (expression_of e) Called ∷ k) m w) (sym is ∙ TExpr.rolls-Convert operand ty line) ∙ hands_convert v d operand ty line k m w
hands_other_layer (Open.Cast operand ty line) e is no_call v d k m w = ap (λ e. handed v d (In (expression_of e) Called ∷ k) m w) (sym is ∙ TExpr.rolls-Cast operand ty line) ∙ hands_cast v d operand ty line k m w
hands_other_layer (Open.Unary op operand ty line) e is no_call v d k m w = ap (λ e. handed v d (In (expression_of e) Called ∷ k) m w) (sym is ∙ TExpr.rolls-Unary op operand ty line) ∙ hands_unary v d op operand ty line k m w
hands_other_layer (Open.Binary op left right ty line) e is no_call v d k m w = ap (λ e. handed v d (In (expression_of e) Called ∷ k) m w) (sym is ∙ TExpr.rolls-Binary op left right ty line) ∙ hands_binary v d op left right ty line k m w
hands_other_layer (Open.Offset op left right size ty line) e is no_call v d k m w = ap (λ e. handed v d (In (expression_of e) Called ∷ k) m w) (sym is ∙ TExpr.rolls-Offset op left right size ty line) ∙ hands_offset v d op left right size ty line k m w
hands_other_layer (Open.Difference left right size line) e is no_call v d k m w = ap (λ e. handed v d (In (expression_of e) Called ∷ k) m w) (sym is ∙ TExpr.rolls-Difference left right size line) ∙ hands_difference v d left right size line k m w
hands_other_layer (Open.Logical op left right line) e is no_call v d k m w = ap (λ e. handed v d (In (expression_of e) Called ∷ k) m w) (sym is ∙ TExpr.rolls-Logical op left right line) ∙ hands_logical v d op left right line k m w
hands_other_layer (Open.Conditional condition chosen otherwise ty line) e is no_call v d k m w = ap (λ e. handed v d (In (expression_of e) Called ∷ k) m w) (sym is ∙ TExpr.rolls-Conditional condition chosen otherwise ty line) ∙ hands_conditional v d condition chosen otherwise ty line k m w
hands_other_layer (Open.Comma left right ty line) e is no_call v d k m w = ap (λ e. handed v d (In (expression_of e) Called ∷ k) m w) (sym is ∙ TExpr.rolls-Comma left right ty line) ∙ hands_comma v d left right ty line k m w
hands_other_layer (Open.Assign place value ty line) e is no_call v d k m w = ap (λ e. handed v d (In (expression_of e) Called ∷ k) m w) (sym is ∙ TExpr.rolls-Assign place value ty line) ∙ hands_assign v d place value ty line k m w
hands_other_layer (Open.StructAssign place from size line) e is no_call v d k m w = ap (λ e. handed v d (In (expression_of e) Called ∷ k) m w) (sym is ∙ TExpr.rolls-StructAssign place from size line) ∙ hands_struct_assign v d place from size line k m w
hands_other_layer (Open.Update op place value operation size ty line) e is no_call v d k m w = ap (λ e. handed v d (In (expression_of e) Called ∷ k) m w) (sym is ∙ TExpr.rolls-Update op place value operation size ty line) ∙ hands_update v d op place value operation size ty line k m w
hands_other_layer (Open.Step op place operation size ty line) e is no_call v d k m w = ap (λ e. handed v d (In (expression_of e) Called ∷ k) m w) (sym is ∙ TExpr.rolls-Step op place operation size ty line) ∙ hands_step v d op place operation size ty line k m w
hands_other_layer (Open.Call x0 x1 x2 x3) e is no_call v d k m w = absurd (no_call x0 x1 x2 x3 (sym is ∙ TExpr.rolls-Call x0 x1 x2 x3))

pub hands_other : (e : TExpr) → ((function : _) (arguments : _) (ty : _) (line : _) → e ≡ TExpr.Call function arguments ty line → ⊥) → (v : Datum) (d : CopyOf) (k : List Pending) (m : Memory) (w : World Byte) → handed v d (In (expression_of e) Called ∷ k) m w ≡ Lost
hands_other e no_call v d k m w = hands_other_layer (out-TExpr e) e (roll-out-TExpr e) no_call v d k m w

is_read_other_layer : (l : TExpr-F TExpr TPlace) (e : TExpr) → roll-TExpr l ≡ e → ((place : _) (ty : _) (line : _) → e ≡ TExpr.Read place ty line → ⊥) → is_read (expression_of e) ≡ false
is_read_other_layer (Open.Constant value line) e is no_read = ap (λ e. is_read (expression_of e)) (sym is ∙ TExpr.rolls-Constant value line) ∙ is_read_constant value line
is_read_other_layer (Open.Read x0 x1 x2) e is no_read = absurd (no_read x0 x1 x2 (sym is ∙ TExpr.rolls-Read x0 x1 x2))
is_read_other_layer (Open.Address place ty line) e is no_read = ap (λ e. is_read (expression_of e)) (sym is ∙ TExpr.rolls-Address place ty line) ∙ is_read_address place ty line
is_read_other_layer (Open.Convert operand ty line) e is no_read = ap (λ e. is_read (expression_of e)) (sym is ∙ TExpr.rolls-Convert operand ty line) ∙ is_read_convert operand ty line
is_read_other_layer (Open.Cast operand ty line) e is no_read = ap (λ e. is_read (expression_of e)) (sym is ∙ TExpr.rolls-Cast operand ty line) ∙ is_read_cast operand ty line
is_read_other_layer (Open.Unary op operand ty line) e is no_read = ap (λ e. is_read (expression_of e)) (sym is ∙ TExpr.rolls-Unary op operand ty line) ∙ is_read_unary op operand ty line
is_read_other_layer (Open.Binary op left right ty line) e is no_read = ap (λ e. is_read (expression_of e)) (sym is ∙ TExpr.rolls-Binary op left right ty line) ∙ is_read_binary op left right ty line
is_read_other_layer (Open.Offset op left right size ty line) e is no_read = ap (λ e. is_read (expression_of e)) (sym is ∙ TExpr.rolls-Offset op left right size ty line) ∙ is_read_offset op left right size ty line
is_read_other_layer (Open.Difference left right size line) e is no_read = ap (λ e. is_read (expression_of e)) (sym is ∙ TExpr.rolls-Difference left right size line) ∙ is_read_difference left right size line
is_read_other_layer (Open.Logical op left right line) e is no_read = ap (λ e. is_read (expression_of e)) (sym is ∙ TExpr.rolls-Logical op left right line) ∙ is_read_logical op left right line
is_read_other_layer (Open.Conditional condition chosen otherwise ty line) e is no_read = ap (λ e. is_read (expression_of e)) (sym is ∙ TExpr.rolls-Conditional condition chosen otherwise ty line) ∙ is_read_conditional condition chosen otherwise ty line
is_read_other_layer (Open.Comma left right ty line) e is no_read = ap (λ e. is_read (expression_of e)) (sym is ∙ TExpr.rolls-Comma left right ty line) ∙ is_read_comma left right ty line
is_read_other_layer (Open.Assign place value ty line) e is no_read = ap (λ e. is_read (expression_of e)) (sym is ∙ TExpr.rolls-Assign place value ty line) ∙ is_read_assign place value ty line
is_read_other_layer (Open.StructAssign place from size line) e is no_read = ap (λ e. is_read (expression_of e)) (sym is ∙ TExpr.rolls-StructAssign place from size line) ∙ is_read_struct_assign place from size line
is_read_other_layer (Open.Update op place value operation size ty line) e is no_read = ap (λ e. is_read (expression_of e)) (sym is ∙ TExpr.rolls-Update op place value operation size ty line) ∙ is_read_update op place value operation size ty line
is_read_other_layer (Open.Step op place operation size ty line) e is no_read = ap (λ e. is_read (expression_of e)) (sym is ∙ TExpr.rolls-Step op place operation size ty line) ∙ is_read_step op place operation size ty line
is_read_other_layer (Open.Call function arguments ty line) e is no_read = ap (λ e. is_read (expression_of e)) (sym is ∙ TExpr.rolls-Call function arguments ty line) ∙ is_read_call function arguments ty line

pub is_read_other : (e : TExpr) → ((place : _) (ty : _) (line : _) → e ≡ TExpr.Read place ty line → ⊥) → is_read (expression_of e) ≡ false
is_read_other e no_read = is_read_other_layer (out-TExpr e) e (roll-out-TExpr e) no_read

calls_lost_layer : (l : TExpr-F TExpr TPlace) (e : TExpr) → roll-TExpr l ≡ e → ((function : _) (arguments : _) (ty : _) (line : _) → e ≡ TExpr.Call function arguments ty line → ⊥) → (p : Program) (values : List Datum) (k : List Pending) (c : CopyOf) (m : Memory) (w : World Byte) → call_in p (expression_of e) (Passed values) k c m w ≡ Lost
calls_lost_layer (Open.Constant value line) e is no_call p values k c m w = ap (λ e. call_in p (expression_of e) (Passed values) k c m w) (sym is ∙ TExpr.rolls-Constant value line) ∙ calls_constant p value line values k c m w
calls_lost_layer (Open.Read place ty line) e is no_call p values k c m w = ap (λ e. call_in p (expression_of e) (Passed values) k c m w) (sym is ∙ TExpr.rolls-Read place ty line) ∙ calls_read p place ty line values k c m w
calls_lost_layer (Open.Address place ty line) e is no_call p values k c m w = ap (λ e. call_in p (expression_of e) (Passed values) k c m w) (sym is ∙ TExpr.rolls-Address place ty line) ∙ calls_address p place ty line values k c m w
calls_lost_layer (Open.Convert operand ty line) e is no_call p values k c m w = ap (λ e. call_in p (expression_of e) (Passed values) k c m w) (sym is ∙ TExpr.rolls-Convert operand ty line) ∙ calls_convert p operand ty line values k c m w
calls_lost_layer (Open.Cast operand ty line) e is no_call p values k c m w = ap (λ e. call_in p (expression_of e) (Passed values) k c m w) (sym is ∙ TExpr.rolls-Cast operand ty line) ∙ calls_cast p operand ty line values k c m w
calls_lost_layer (Open.Unary op operand ty line) e is no_call p values k c m w = ap (λ e. call_in p (expression_of e) (Passed values) k c m w) (sym is ∙ TExpr.rolls-Unary op operand ty line) ∙ calls_unary p op operand ty line values k c m w
calls_lost_layer (Open.Binary op left right ty line) e is no_call p values k c m w = ap (λ e. call_in p (expression_of e) (Passed values) k c m w) (sym is ∙ TExpr.rolls-Binary op left right ty line) ∙ calls_binary p op left right ty line values k c m w
calls_lost_layer (Open.Offset op left right size ty line) e is no_call p values k c m w = ap (λ e. call_in p (expression_of e) (Passed values) k c m w) (sym is ∙ TExpr.rolls-Offset op left right size ty line) ∙ calls_offset p op left right size ty line values k c m w
calls_lost_layer (Open.Difference left right size line) e is no_call p values k c m w = ap (λ e. call_in p (expression_of e) (Passed values) k c m w) (sym is ∙ TExpr.rolls-Difference left right size line) ∙ calls_difference p left right size line values k c m w
calls_lost_layer (Open.Logical op left right line) e is no_call p values k c m w = ap (λ e. call_in p (expression_of e) (Passed values) k c m w) (sym is ∙ TExpr.rolls-Logical op left right line) ∙ calls_logical p op left right line values k c m w
calls_lost_layer (Open.Conditional condition chosen otherwise ty line) e is no_call p values k c m w = ap (λ e. call_in p (expression_of e) (Passed values) k c m w) (sym is ∙ TExpr.rolls-Conditional condition chosen otherwise ty line) ∙ calls_conditional p condition chosen otherwise ty line values k c m w
calls_lost_layer (Open.Comma left right ty line) e is no_call p values k c m w = ap (λ e. call_in p (expression_of e) (Passed values) k c m w) (sym is ∙ TExpr.rolls-Comma left right ty line) ∙ calls_comma p left right ty line values k c m w
calls_lost_layer (Open.Assign place value ty line) e is no_call p values k c m w = ap (λ e. call_in p (expression_of e) (Passed values) k c m w) (sym is ∙ TExpr.rolls-Assign place value ty line) ∙ calls_assign p place value ty line values k c m w
calls_lost_layer (Open.StructAssign place from size line) e is no_call p values k c m w = ap (λ e. call_in p (expression_of e) (Passed values) k c m w) (sym is ∙ TExpr.rolls-StructAssign place from size line) ∙ calls_struct_assign p place from size line values k c m w
calls_lost_layer (Open.Update op place value operation size ty line) e is no_call p values k c m w = ap (λ e. call_in p (expression_of e) (Passed values) k c m w) (sym is ∙ TExpr.rolls-Update op place value operation size ty line) ∙ calls_update p op place value operation size ty line values k c m w
calls_lost_layer (Open.Step op place operation size ty line) e is no_call p values k c m w = ap (λ e. call_in p (expression_of e) (Passed values) k c m w) (sym is ∙ TExpr.rolls-Step op place operation size ty line) ∙ calls_step p op place operation size ty line values k c m w
calls_lost_layer (Open.Call x0 x1 x2 x3) e is no_call p values k c m w = absurd (no_call x0 x1 x2 x3 (sym is ∙ TExpr.rolls-Call x0 x1 x2 x3))

pub calls_lost : (e : TExpr) → ((function : _) (arguments : _) (ty : _) (line : _) → e ≡ TExpr.Call function arguments ty line → ⊥) → (p : Program) (values : List Datum) (k : List Pending) (c : CopyOf) (m : Memory) (w : World Byte) → call_in p (expression_of e) (Passed values) k c m w ≡ Lost
calls_lost e no_call p values k c m w = calls_lost_layer (out-TExpr e) e (roll-out-TExpr e) no_call p values k c m w
