-- What places and expressions do with a place that was found, and places with the value of a pointer, of the trees that
-- the code has.
use Rattle.std.proofs.Common.{◌≡◌, List, ◌∷◌, refl, sym, subst, ap}
use Rattle.c_typed.proofs.Shapes.{show_expression_constant, show_expression_read, show_expression_address, show_expression_convert, show_expression_cast, show_expression_unary, show_expression_binary, show_expression_offset, show_expression_difference, show_expression_logical, show_expression_conditional, show_expression_comma, show_expression_assign, show_expression_struct_assign, show_expression_update, show_expression_step, show_expression_call, show_place_name, show_place_bit, show_place_member, show_place_deref}
use Rattle.c_typed.specs.Trees as tree
use Rattle.c_typed.specs.Trees.{Expression, Expressions}
use Rattle.c_typed.specs.Views.{expression_of, place_of}
use Rattle.c_typed.specs.declared.expression.TExpr.TheVariants as TExpr
use Rattle.c_typed.specs.declared.expression.TPlace.TheVariants as TPlace
use Rattle.pic_world.specs.World.{World}
use Rattle.src_rules.specs.Accesses.{goes, fetching}
use Rattle.src_rules.specs.Expressions.{find, found_in, found_to, takes, address, member_of}
use Rattle.src_rules.specs.Giving.{take_to, deref}
use Rattle.src_rules.specs.State.{Lost}
use Rattle.src_values.specs.Control.{Eval, Find, Found, CopyRead, Nothing, Chosen, One, At, AtWith, Stores, Copies, Args, Passed, Called, Pending, In, To}
use Rattle.src_values.specs.Data.{Datum}
use Rattle.src_values.specs.Memory.{Setting, Memory}
use Rattle.src_values.specs.Objects.{spot_of}
use Rattle.src_values.specs.declared.objects.Byte.{Byte}
use Rattle.src_values.specs.declared.objects.CopyOf.{CopyOf}
use Rattle.src_values.specs.declared.objects.Spot.{Spot}
use Rattle.src_values.specs.declared.objects.Spot.TheVariants as spots

pub first_found_constant : (s : Setting) (value : _) (line : _) (spot : Spot) (k : List Pending) (c : CopyOf) (m : Memory) (w : World Byte) → found_in s (expression_of (TExpr.Constant value line)) Nothing spot k c m w ≡ Lost
first_found_constant s value line spot k c m w = ap (λ e. found_in s e Nothing spot k c m w) (show_expression_constant value line)

pub first_found_read : (s : Setting) (place : _) (ty : _) (line : _) (spot : Spot) (k : List Pending) (c : CopyOf) (m : Memory) (w : World Byte) → found_in s (expression_of (TExpr.Read place ty line)) Nothing spot k c m w ≡ goes c (fetching spot ty s.program.sizes) (In (expression_of (TExpr.Read place ty line)) (At spot) ∷ k) m w
first_found_read s place ty line spot k c m w = subst (λ e. found_in s e Nothing spot k c m w ≡ goes c (fetching spot ty s.program.sizes) (In e (At spot) ∷ k) m w) (sym (show_expression_read place ty line)) refl

pub first_found_address : (s : Setting) (place : _) (ty : _) (line : _) (spot : Spot) (k : List Pending) (c : CopyOf) (m : Memory) (w : World Byte) → found_in s (expression_of (TExpr.Address place ty line)) Nothing spot k c m w ≡ takes (address spot) k c m w
first_found_address s place ty line spot k c m w = ap (λ e. found_in s e Nothing spot k c m w) (show_expression_address place ty line)

pub first_found_convert : (s : Setting) (operand : _) (ty : _) (line : _) (spot : Spot) (k : List Pending) (c : CopyOf) (m : Memory) (w : World Byte) → found_in s (expression_of (TExpr.Convert operand ty line)) Nothing spot k c m w ≡ Lost
first_found_convert s operand ty line spot k c m w = ap (λ e. found_in s e Nothing spot k c m w) (show_expression_convert operand ty line)

pub first_found_cast : (s : Setting) (operand : _) (ty : _) (line : _) (spot : Spot) (k : List Pending) (c : CopyOf) (m : Memory) (w : World Byte) → found_in s (expression_of (TExpr.Cast operand ty line)) Nothing spot k c m w ≡ Lost
first_found_cast s operand ty line spot k c m w = ap (λ e. found_in s e Nothing spot k c m w) (show_expression_cast operand ty line)

pub first_found_unary : (s : Setting) (op : _) (operand : _) (ty : _) (line : _) (spot : Spot) (k : List Pending) (c : CopyOf) (m : Memory) (w : World Byte) → found_in s (expression_of (TExpr.Unary op operand ty line)) Nothing spot k c m w ≡ Lost
first_found_unary s op operand ty line spot k c m w = ap (λ e. found_in s e Nothing spot k c m w) (show_expression_unary op operand ty line)

pub first_found_binary : (s : Setting) (op : _) (left : _) (right : _) (ty : _) (line : _) (spot : Spot) (k : List Pending) (c : CopyOf) (m : Memory) (w : World Byte) → found_in s (expression_of (TExpr.Binary op left right ty line)) Nothing spot k c m w ≡ Lost
first_found_binary s op left right ty line spot k c m w = ap (λ e. found_in s e Nothing spot k c m w) (show_expression_binary op left right ty line)

pub first_found_offset : (s : Setting) (op : _) (left : _) (right : _) (size : _) (ty : _) (line : _) (spot : Spot) (k : List Pending) (c : CopyOf) (m : Memory) (w : World Byte) → found_in s (expression_of (TExpr.Offset op left right size ty line)) Nothing spot k c m w ≡ Lost
first_found_offset s op left right size ty line spot k c m w = ap (λ e. found_in s e Nothing spot k c m w) (show_expression_offset op left right size ty line)

pub first_found_difference : (s : Setting) (left : _) (right : _) (size : _) (line : _) (spot : Spot) (k : List Pending) (c : CopyOf) (m : Memory) (w : World Byte) → found_in s (expression_of (TExpr.Difference left right size line)) Nothing spot k c m w ≡ Lost
first_found_difference s left right size line spot k c m w = ap (λ e. found_in s e Nothing spot k c m w) (show_expression_difference left right size line)

pub first_found_logical : (s : Setting) (op : _) (left : _) (right : _) (line : _) (spot : Spot) (k : List Pending) (c : CopyOf) (m : Memory) (w : World Byte) → found_in s (expression_of (TExpr.Logical op left right line)) Nothing spot k c m w ≡ Lost
first_found_logical s op left right line spot k c m w = ap (λ e. found_in s e Nothing spot k c m w) (show_expression_logical op left right line)

pub first_found_conditional : (s : Setting) (condition : _) (chosen : _) (otherwise : _) (ty : _) (line : _) (spot : Spot) (k : List Pending) (c : CopyOf) (m : Memory) (w : World Byte) → found_in s (expression_of (TExpr.Conditional condition chosen otherwise ty line)) Nothing spot k c m w ≡ Lost
first_found_conditional s condition chosen otherwise ty line spot k c m w = ap (λ e. found_in s e Nothing spot k c m w) (show_expression_conditional condition chosen otherwise ty line)

pub first_found_comma : (s : Setting) (left : _) (right : _) (ty : _) (line : _) (spot : Spot) (k : List Pending) (c : CopyOf) (m : Memory) (w : World Byte) → found_in s (expression_of (TExpr.Comma left right ty line)) Nothing spot k c m w ≡ Lost
first_found_comma s left right ty line spot k c m w = ap (λ e. found_in s e Nothing spot k c m w) (show_expression_comma left right ty line)

pub first_found_assign : (s : Setting) (place : _) (value : _) (ty : _) (line : _) (spot : Spot) (k : List Pending) (c : CopyOf) (m : Memory) (w : World Byte) → found_in s (expression_of (TExpr.Assign place value ty line)) Nothing spot k c m w ≡ goes c (Eval (expression_of value.value)) (In (expression_of (TExpr.Assign place value ty line)) (At spot) ∷ k) m w
first_found_assign s place value ty line spot k c m w = subst (λ e. found_in s e Nothing spot k c m w ≡ goes c (Eval (expression_of value.value)) (In e (At spot) ∷ k) m w) (sym (show_expression_assign place value ty line)) refl

pub first_found_struct_assign : (s : Setting) (place : _) (from : _) (size : _) (line : _) (spot : Spot) (k : List Pending) (c : CopyOf) (m : Memory) (w : World Byte) → found_in s (expression_of (TExpr.StructAssign place from size line)) Nothing spot k c m w ≡ goes c (Find (place_of from.value)) (In (expression_of (TExpr.StructAssign place from size line)) (At spot) ∷ k) m w
first_found_struct_assign s place from size line spot k c m w = subst (λ e. found_in s e Nothing spot k c m w ≡ goes c (Find (place_of from.value)) (In e (At spot) ∷ k) m w) (sym (show_expression_struct_assign place from size line)) refl

pub first_found_update : (s : Setting) (op : _) (place : _) (value : _) (operation : _) (size : _) (ty : _) (line : _) (spot : Spot) (k : List Pending) (c : CopyOf) (m : Memory) (w : World Byte) → found_in s (expression_of (TExpr.Update op place value operation size ty line)) Nothing spot k c m w ≡ goes c (Eval (expression_of value.value)) (In (expression_of (TExpr.Update op place value operation size ty line)) (At spot) ∷ k) m w
first_found_update s op place value operation size ty line spot k c m w = subst (λ e. found_in s e Nothing spot k c m w ≡ goes c (Eval (expression_of value.value)) (In e (At spot) ∷ k) m w) (sym (show_expression_update op place value operation size ty line)) refl

pub first_found_step : (s : Setting) (op : _) (place : _) (operation : _) (size : _) (ty : _) (line : _) (spot : Spot) (k : List Pending) (c : CopyOf) (m : Memory) (w : World Byte) → found_in s (expression_of (TExpr.Step op place operation size ty line)) Nothing spot k c m w ≡ goes c (fetching spot ty s.program.sizes) (In (expression_of (TExpr.Step op place operation size ty line)) (At spot) ∷ k) m w
first_found_step s op place operation size ty line spot k c m w = subst (λ e. found_in s e Nothing spot k c m w ≡ goes c (fetching spot ty s.program.sizes) (In e (At spot) ∷ k) m w) (sym (show_expression_step op place operation size ty line)) refl

pub first_found_call : (s : Setting) (function : _) (given : _) (ty : _) (line : _) (spot : Spot) (k : List Pending) (c : CopyOf) (m : Memory) (w : World Byte) → found_in s (expression_of (TExpr.Call function given ty line)) Nothing spot k c m w ≡ Lost
first_found_call s function given ty line spot k c m w = ap (λ e. found_in s e Nothing spot k c m w) (show_expression_call function given ty line)

pub second_found_constant : (s : Setting) (value : _) (line : _) (to : Spot) (spot : Spot) (k : List Pending) (c : CopyOf) (m : Memory) (w : World Byte) → found_in s (expression_of (TExpr.Constant value line)) (At to) spot k c m w ≡ Lost
second_found_constant s value line to spot k c m w = ap (λ e. found_in s e (At to) spot k c m w) (show_expression_constant value line)

pub second_found_read : (s : Setting) (place : _) (ty : _) (line : _) (to : Spot) (spot : Spot) (k : List Pending) (c : CopyOf) (m : Memory) (w : World Byte) → found_in s (expression_of (TExpr.Read place ty line)) (At to) spot k c m w ≡ Lost
second_found_read s place ty line to spot k c m w = ap (λ e. found_in s e (At to) spot k c m w) (show_expression_read place ty line)

pub second_found_address : (s : Setting) (place : _) (ty : _) (line : _) (to : Spot) (spot : Spot) (k : List Pending) (c : CopyOf) (m : Memory) (w : World Byte) → found_in s (expression_of (TExpr.Address place ty line)) (At to) spot k c m w ≡ Lost
second_found_address s place ty line to spot k c m w = ap (λ e. found_in s e (At to) spot k c m w) (show_expression_address place ty line)

pub second_found_convert : (s : Setting) (operand : _) (ty : _) (line : _) (to : Spot) (spot : Spot) (k : List Pending) (c : CopyOf) (m : Memory) (w : World Byte) → found_in s (expression_of (TExpr.Convert operand ty line)) (At to) spot k c m w ≡ Lost
second_found_convert s operand ty line to spot k c m w = ap (λ e. found_in s e (At to) spot k c m w) (show_expression_convert operand ty line)

pub second_found_cast : (s : Setting) (operand : _) (ty : _) (line : _) (to : Spot) (spot : Spot) (k : List Pending) (c : CopyOf) (m : Memory) (w : World Byte) → found_in s (expression_of (TExpr.Cast operand ty line)) (At to) spot k c m w ≡ Lost
second_found_cast s operand ty line to spot k c m w = ap (λ e. found_in s e (At to) spot k c m w) (show_expression_cast operand ty line)

pub second_found_unary : (s : Setting) (op : _) (operand : _) (ty : _) (line : _) (to : Spot) (spot : Spot) (k : List Pending) (c : CopyOf) (m : Memory) (w : World Byte) → found_in s (expression_of (TExpr.Unary op operand ty line)) (At to) spot k c m w ≡ Lost
second_found_unary s op operand ty line to spot k c m w = ap (λ e. found_in s e (At to) spot k c m w) (show_expression_unary op operand ty line)

pub second_found_binary : (s : Setting) (op : _) (left : _) (right : _) (ty : _) (line : _) (to : Spot) (spot : Spot) (k : List Pending) (c : CopyOf) (m : Memory) (w : World Byte) → found_in s (expression_of (TExpr.Binary op left right ty line)) (At to) spot k c m w ≡ Lost
second_found_binary s op left right ty line to spot k c m w = ap (λ e. found_in s e (At to) spot k c m w) (show_expression_binary op left right ty line)

pub second_found_offset : (s : Setting) (op : _) (left : _) (right : _) (size : _) (ty : _) (line : _) (to : Spot) (spot : Spot) (k : List Pending) (c : CopyOf) (m : Memory) (w : World Byte) → found_in s (expression_of (TExpr.Offset op left right size ty line)) (At to) spot k c m w ≡ Lost
second_found_offset s op left right size ty line to spot k c m w = ap (λ e. found_in s e (At to) spot k c m w) (show_expression_offset op left right size ty line)

pub second_found_difference : (s : Setting) (left : _) (right : _) (size : _) (line : _) (to : Spot) (spot : Spot) (k : List Pending) (c : CopyOf) (m : Memory) (w : World Byte) → found_in s (expression_of (TExpr.Difference left right size line)) (At to) spot k c m w ≡ Lost
second_found_difference s left right size line to spot k c m w = ap (λ e. found_in s e (At to) spot k c m w) (show_expression_difference left right size line)

pub second_found_logical : (s : Setting) (op : _) (left : _) (right : _) (line : _) (to : Spot) (spot : Spot) (k : List Pending) (c : CopyOf) (m : Memory) (w : World Byte) → found_in s (expression_of (TExpr.Logical op left right line)) (At to) spot k c m w ≡ Lost
second_found_logical s op left right line to spot k c m w = ap (λ e. found_in s e (At to) spot k c m w) (show_expression_logical op left right line)

pub second_found_conditional : (s : Setting) (condition : _) (chosen : _) (otherwise : _) (ty : _) (line : _) (to : Spot) (spot : Spot) (k : List Pending) (c : CopyOf) (m : Memory) (w : World Byte) → found_in s (expression_of (TExpr.Conditional condition chosen otherwise ty line)) (At to) spot k c m w ≡ Lost
second_found_conditional s condition chosen otherwise ty line to spot k c m w = ap (λ e. found_in s e (At to) spot k c m w) (show_expression_conditional condition chosen otherwise ty line)

pub second_found_comma : (s : Setting) (left : _) (right : _) (ty : _) (line : _) (to : Spot) (spot : Spot) (k : List Pending) (c : CopyOf) (m : Memory) (w : World Byte) → found_in s (expression_of (TExpr.Comma left right ty line)) (At to) spot k c m w ≡ Lost
second_found_comma s left right ty line to spot k c m w = ap (λ e. found_in s e (At to) spot k c m w) (show_expression_comma left right ty line)

pub second_found_assign : (s : Setting) (place : _) (value : _) (ty : _) (line : _) (to : Spot) (spot : Spot) (k : List Pending) (c : CopyOf) (m : Memory) (w : World Byte) → found_in s (expression_of (TExpr.Assign place value ty line)) (At to) spot k c m w ≡ Lost
second_found_assign s place value ty line to spot k c m w = ap (λ e. found_in s e (At to) spot k c m w) (show_expression_assign place value ty line)

pub second_found_struct_assign : (s : Setting) (place : _) (from : _) (size : _) (line : _) (to : Spot) (spot : Spot) (k : List Pending) (c : CopyOf) (m : Memory) (w : World Byte) → found_in s (expression_of (TExpr.StructAssign place from size line)) (At to) spot k c m w ≡ goes c (CopyRead to spot size) (In (expression_of (TExpr.StructAssign place from size line)) Copies ∷ k) m w
second_found_struct_assign s place from size line to spot k c m w = subst (λ e. found_in s e (At to) spot k c m w ≡ goes c (CopyRead to spot size) (In e Copies ∷ k) m w) (sym (show_expression_struct_assign place from size line)) refl

pub second_found_update : (s : Setting) (op : _) (place : _) (value : _) (operation : _) (size : _) (ty : _) (line : _) (to : Spot) (spot : Spot) (k : List Pending) (c : CopyOf) (m : Memory) (w : World Byte) → found_in s (expression_of (TExpr.Update op place value operation size ty line)) (At to) spot k c m w ≡ Lost
second_found_update s op place value operation size ty line to spot k c m w = ap (λ e. found_in s e (At to) spot k c m w) (show_expression_update op place value operation size ty line)

pub second_found_step : (s : Setting) (op : _) (place : _) (operation : _) (size : _) (ty : _) (line : _) (to : Spot) (spot : Spot) (k : List Pending) (c : CopyOf) (m : Memory) (w : World Byte) → found_in s (expression_of (TExpr.Step op place operation size ty line)) (At to) spot k c m w ≡ Lost
second_found_step s op place operation size ty line to spot k c m w = ap (λ e. found_in s e (At to) spot k c m w) (show_expression_step op place operation size ty line)

pub second_found_call : (s : Setting) (function : _) (given : _) (ty : _) (line : _) (to : Spot) (spot : Spot) (k : List Pending) (c : CopyOf) (m : Memory) (w : World Byte) → found_in s (expression_of (TExpr.Call function given ty line)) (At to) spot k c m w ≡ Lost
second_found_call s function given ty line to spot k c m w = ap (λ e. found_in s e (At to) spot k c m w) (show_expression_call function given ty line)

pub find_name : (s : Setting) (object : _) (ty : _) (line : _) (k : List Pending) (c : CopyOf) (m : Memory) (w : World Byte) → find s (place_of (TPlace.Name object ty line)) k c m w ≡ goes c (Found (spot_of s.program c object)) k m w
find_name s object ty line k c m w = ap (λ e. find s e k c m w) (show_place_name object ty line)

pub find_bit : (s : Setting) (register : _) (bit : _) (line : _) (k : List Pending) (c : CopyOf) (m : Memory) (w : World Byte) → find s (place_of (TPlace.Bit register bit line)) k c m w ≡ goes c (Found (spots.Bit register bit)) k m w
find_bit s register bit line k c m w = ap (λ e. find s e k c m w) (show_place_bit register bit line)

pub find_member : (s : Setting) (whole : _) (member : _) (offset : _) (ty : _) (line : _) (k : List Pending) (c : CopyOf) (m : Memory) (w : World Byte) → find s (place_of (TPlace.Member whole member offset ty line)) k c m w ≡ goes c (Find (place_of whole.value)) (To (place_of (TPlace.Member whole member offset ty line)) ∷ k) m w
find_member s whole member offset ty line k c m w = subst (λ e. find s e k c m w ≡ goes c (Find (place_of whole.value)) (To e ∷ k) m w) (sym (show_place_member whole member offset ty line)) refl

pub find_deref : (s : Setting) (pointer : _) (ty : _) (line : _) (k : List Pending) (c : CopyOf) (m : Memory) (w : World Byte) → find s (place_of (TPlace.Deref pointer ty line)) k c m w ≡ goes c (Eval (expression_of pointer.value)) (To (place_of (TPlace.Deref pointer ty line)) ∷ k) m w
find_deref s pointer ty line k c m w = subst (λ e. find s e k c m w ≡ goes c (Eval (expression_of pointer.value)) (To e ∷ k) m w) (sym (show_place_deref pointer ty line)) refl

pub member_name : (s : Setting) (object : _) (ty : _) (line : _) (spot : Spot) (k : List Pending) (c : CopyOf) (m : Memory) (w : World Byte) → found_to s (place_of (TPlace.Name object ty line)) spot k c m w ≡ Lost
member_name s object ty line spot k c m w = ap (λ e. found_to s e spot k c m w) (show_place_name object ty line)

pub member_bit : (s : Setting) (register : _) (bit : _) (line : _) (spot : Spot) (k : List Pending) (c : CopyOf) (m : Memory) (w : World Byte) → found_to s (place_of (TPlace.Bit register bit line)) spot k c m w ≡ Lost
member_bit s register bit line spot k c m w = ap (λ e. found_to s e spot k c m w) (show_place_bit register bit line)

pub member_member : (s : Setting) (whole : _) (member : _) (offset : _) (ty : _) (line : _) (spot : Spot) (k : List Pending) (c : CopyOf) (m : Memory) (w : World Byte) → found_to s (place_of (TPlace.Member whole member offset ty line)) spot k c m w ≡ member_of s (address spot) offset line k c m w
member_member s whole member offset ty line spot k c m w = ap (λ e. found_to s e spot k c m w) (show_place_member whole member offset ty line)

pub member_deref : (s : Setting) (pointer : _) (ty : _) (line : _) (spot : Spot) (k : List Pending) (c : CopyOf) (m : Memory) (w : World Byte) → found_to s (place_of (TPlace.Deref pointer ty line)) spot k c m w ≡ Lost
member_deref s pointer ty line spot k c m w = ap (λ e. found_to s e spot k c m w) (show_place_deref pointer ty line)

pub pointed_name : (object : _) (ty : _) (line : _) (v : Datum) (k : List Pending) (c : CopyOf) (m : Memory) (w : World Byte) → take_to (place_of (TPlace.Name object ty line)) v k c m w ≡ Lost
pointed_name object ty line v k c m w = ap (λ e. take_to e v k c m w) (show_place_name object ty line)

pub pointed_bit : (register : _) (bit : _) (line : _) (v : Datum) (k : List Pending) (c : CopyOf) (m : Memory) (w : World Byte) → take_to (place_of (TPlace.Bit register bit line)) v k c m w ≡ Lost
pointed_bit register bit line v k c m w = ap (λ e. take_to e v k c m w) (show_place_bit register bit line)

pub pointed_member : (whole : _) (member : _) (offset : _) (ty : _) (line : _) (v : Datum) (k : List Pending) (c : CopyOf) (m : Memory) (w : World Byte) → take_to (place_of (TPlace.Member whole member offset ty line)) v k c m w ≡ Lost
pointed_member whole member offset ty line v k c m w = ap (λ e. take_to e v k c m w) (show_place_member whole member offset ty line)

pub pointed_deref : (pointer : _) (ty : _) (line : _) (v : Datum) (k : List Pending) (c : CopyOf) (m : Memory) (w : World Byte) → take_to (place_of (TPlace.Deref pointer ty line)) v k c m w ≡ deref v line k c m w
pointed_deref pointer ty line v k c m w = ap (λ e. take_to e v k c m w) (show_place_deref pointer ty line)

-- ---- where no place goes
pub no_place_chosen : (s : Setting) (spot : Spot) (k : List Pending) (c : CopyOf) (m : Memory) (w : World Byte) (e : Expression) → found_in s e Chosen spot k c m w ≡ Lost
no_place_chosen s spot k c m w (tree.Constant value line) = refl
no_place_chosen s spot k c m w (tree.Read place ty line) = refl
no_place_chosen s spot k c m w (tree.Address place ty line) = refl
no_place_chosen s spot k c m w (tree.Convert operand ty line) = refl
no_place_chosen s spot k c m w (tree.Cast operand ty line) = refl
no_place_chosen s spot k c m w (tree.Unary op operand ty line) = refl
no_place_chosen s spot k c m w (tree.Binary op left right ty line) = refl
no_place_chosen s spot k c m w (tree.Offset op left right size ty line) = refl
no_place_chosen s spot k c m w (tree.Difference left right size line) = refl
no_place_chosen s spot k c m w (tree.Logical op left right line) = refl
no_place_chosen s spot k c m w (tree.Conditional condition chosen otherwise ty line) = refl
no_place_chosen s spot k c m w (tree.Comma left right ty line) = refl
no_place_chosen s spot k c m w (tree.Assign place value ty line) = refl
no_place_chosen s spot k c m w (tree.StructAssign place from size line) = refl
no_place_chosen s spot k c m w (tree.Update op place value operation size ty line) = refl
no_place_chosen s spot k c m w (tree.Step op place operation size ty line) = refl
no_place_chosen s spot k c m w (tree.Call function arguments ty line) = refl

pub no_place_one : (s : Setting) (u : Datum) (spot : Spot) (k : List Pending) (c : CopyOf) (m : Memory) (w : World Byte) (e : Expression) → found_in s e (One u) spot k c m w ≡ Lost
no_place_one s u spot k c m w (tree.Constant value line) = refl
no_place_one s u spot k c m w (tree.Read place ty line) = refl
no_place_one s u spot k c m w (tree.Address place ty line) = refl
no_place_one s u spot k c m w (tree.Convert operand ty line) = refl
no_place_one s u spot k c m w (tree.Cast operand ty line) = refl
no_place_one s u spot k c m w (tree.Unary op operand ty line) = refl
no_place_one s u spot k c m w (tree.Binary op left right ty line) = refl
no_place_one s u spot k c m w (tree.Offset op left right size ty line) = refl
no_place_one s u spot k c m w (tree.Difference left right size line) = refl
no_place_one s u spot k c m w (tree.Logical op left right line) = refl
no_place_one s u spot k c m w (tree.Conditional condition chosen otherwise ty line) = refl
no_place_one s u spot k c m w (tree.Comma left right ty line) = refl
no_place_one s u spot k c m w (tree.Assign place value ty line) = refl
no_place_one s u spot k c m w (tree.StructAssign place from size line) = refl
no_place_one s u spot k c m w (tree.Update op place value operation size ty line) = refl
no_place_one s u spot k c m w (tree.Step op place operation size ty line) = refl
no_place_one s u spot k c m w (tree.Call function arguments ty line) = refl

pub no_place_with : (s : Setting) (to : Spot) (u : Datum) (spot : Spot) (k : List Pending) (c : CopyOf) (m : Memory) (w : World Byte) (e : Expression) → found_in s e (AtWith to u) spot k c m w ≡ Lost
no_place_with s to u spot k c m w (tree.Constant value line) = refl
no_place_with s to u spot k c m w (tree.Read place ty line) = refl
no_place_with s to u spot k c m w (tree.Address place ty line) = refl
no_place_with s to u spot k c m w (tree.Convert operand ty line) = refl
no_place_with s to u spot k c m w (tree.Cast operand ty line) = refl
no_place_with s to u spot k c m w (tree.Unary op operand ty line) = refl
no_place_with s to u spot k c m w (tree.Binary op left right ty line) = refl
no_place_with s to u spot k c m w (tree.Offset op left right size ty line) = refl
no_place_with s to u spot k c m w (tree.Difference left right size line) = refl
no_place_with s to u spot k c m w (tree.Logical op left right line) = refl
no_place_with s to u spot k c m w (tree.Conditional condition chosen otherwise ty line) = refl
no_place_with s to u spot k c m w (tree.Comma left right ty line) = refl
no_place_with s to u spot k c m w (tree.Assign place value ty line) = refl
no_place_with s to u spot k c m w (tree.StructAssign place from size line) = refl
no_place_with s to u spot k c m w (tree.Update op place value operation size ty line) = refl
no_place_with s to u spot k c m w (tree.Step op place operation size ty line) = refl
no_place_with s to u spot k c m w (tree.Call function arguments ty line) = refl

pub no_place_stored : (s : Setting) (to : Spot) (u : Datum) (spot : Spot) (k : List Pending) (c : CopyOf) (m : Memory) (w : World Byte) (e : Expression) → found_in s e (Stores to u) spot k c m w ≡ Lost
no_place_stored s to u spot k c m w (tree.Constant value line) = refl
no_place_stored s to u spot k c m w (tree.Read place ty line) = refl
no_place_stored s to u spot k c m w (tree.Address place ty line) = refl
no_place_stored s to u spot k c m w (tree.Convert operand ty line) = refl
no_place_stored s to u spot k c m w (tree.Cast operand ty line) = refl
no_place_stored s to u spot k c m w (tree.Unary op operand ty line) = refl
no_place_stored s to u spot k c m w (tree.Binary op left right ty line) = refl
no_place_stored s to u spot k c m w (tree.Offset op left right size ty line) = refl
no_place_stored s to u spot k c m w (tree.Difference left right size line) = refl
no_place_stored s to u spot k c m w (tree.Logical op left right line) = refl
no_place_stored s to u spot k c m w (tree.Conditional condition chosen otherwise ty line) = refl
no_place_stored s to u spot k c m w (tree.Comma left right ty line) = refl
no_place_stored s to u spot k c m w (tree.Assign place value ty line) = refl
no_place_stored s to u spot k c m w (tree.StructAssign place from size line) = refl
no_place_stored s to u spot k c m w (tree.Update op place value operation size ty line) = refl
no_place_stored s to u spot k c m w (tree.Step op place operation size ty line) = refl
no_place_stored s to u spot k c m w (tree.Call function arguments ty line) = refl

pub no_place_copied : (s : Setting) (spot : Spot) (k : List Pending) (c : CopyOf) (m : Memory) (w : World Byte) (e : Expression) → found_in s e Copies spot k c m w ≡ Lost
no_place_copied s spot k c m w (tree.Constant value line) = refl
no_place_copied s spot k c m w (tree.Read place ty line) = refl
no_place_copied s spot k c m w (tree.Address place ty line) = refl
no_place_copied s spot k c m w (tree.Convert operand ty line) = refl
no_place_copied s spot k c m w (tree.Cast operand ty line) = refl
no_place_copied s spot k c m w (tree.Unary op operand ty line) = refl
no_place_copied s spot k c m w (tree.Binary op left right ty line) = refl
no_place_copied s spot k c m w (tree.Offset op left right size ty line) = refl
no_place_copied s spot k c m w (tree.Difference left right size line) = refl
no_place_copied s spot k c m w (tree.Logical op left right line) = refl
no_place_copied s spot k c m w (tree.Conditional condition chosen otherwise ty line) = refl
no_place_copied s spot k c m w (tree.Comma left right ty line) = refl
no_place_copied s spot k c m w (tree.Assign place value ty line) = refl
no_place_copied s spot k c m w (tree.StructAssign place from size line) = refl
no_place_copied s spot k c m w (tree.Update op place value operation size ty line) = refl
no_place_copied s spot k c m w (tree.Step op place operation size ty line) = refl
no_place_copied s spot k c m w (tree.Call function arguments ty line) = refl

pub no_place_args : (s : Setting) (before : List Datum) (more : Expressions) (spot : Spot) (k : List Pending) (c : CopyOf) (m : Memory) (w : World Byte) (e : Expression) → found_in s e (Args before more) spot k c m w ≡ Lost
no_place_args s before more spot k c m w (tree.Constant value line) = refl
no_place_args s before more spot k c m w (tree.Read place ty line) = refl
no_place_args s before more spot k c m w (tree.Address place ty line) = refl
no_place_args s before more spot k c m w (tree.Convert operand ty line) = refl
no_place_args s before more spot k c m w (tree.Cast operand ty line) = refl
no_place_args s before more spot k c m w (tree.Unary op operand ty line) = refl
no_place_args s before more spot k c m w (tree.Binary op left right ty line) = refl
no_place_args s before more spot k c m w (tree.Offset op left right size ty line) = refl
no_place_args s before more spot k c m w (tree.Difference left right size line) = refl
no_place_args s before more spot k c m w (tree.Logical op left right line) = refl
no_place_args s before more spot k c m w (tree.Conditional condition chosen otherwise ty line) = refl
no_place_args s before more spot k c m w (tree.Comma left right ty line) = refl
no_place_args s before more spot k c m w (tree.Assign place value ty line) = refl
no_place_args s before more spot k c m w (tree.StructAssign place from size line) = refl
no_place_args s before more spot k c m w (tree.Update op place value operation size ty line) = refl
no_place_args s before more spot k c m w (tree.Step op place operation size ty line) = refl
no_place_args s before more spot k c m w (tree.Call function arguments ty line) = refl

pub no_place_passed : (s : Setting) (values : List Datum) (spot : Spot) (k : List Pending) (c : CopyOf) (m : Memory) (w : World Byte) (e : Expression) → found_in s e (Passed values) spot k c m w ≡ Lost
no_place_passed s values spot k c m w (tree.Constant value line) = refl
no_place_passed s values spot k c m w (tree.Read place ty line) = refl
no_place_passed s values spot k c m w (tree.Address place ty line) = refl
no_place_passed s values spot k c m w (tree.Convert operand ty line) = refl
no_place_passed s values spot k c m w (tree.Cast operand ty line) = refl
no_place_passed s values spot k c m w (tree.Unary op operand ty line) = refl
no_place_passed s values spot k c m w (tree.Binary op left right ty line) = refl
no_place_passed s values spot k c m w (tree.Offset op left right size ty line) = refl
no_place_passed s values spot k c m w (tree.Difference left right size line) = refl
no_place_passed s values spot k c m w (tree.Logical op left right line) = refl
no_place_passed s values spot k c m w (tree.Conditional condition chosen otherwise ty line) = refl
no_place_passed s values spot k c m w (tree.Comma left right ty line) = refl
no_place_passed s values spot k c m w (tree.Assign place value ty line) = refl
no_place_passed s values spot k c m w (tree.StructAssign place from size line) = refl
no_place_passed s values spot k c m w (tree.Update op place value operation size ty line) = refl
no_place_passed s values spot k c m w (tree.Step op place operation size ty line) = refl
no_place_passed s values spot k c m w (tree.Call function arguments ty line) = refl

pub no_place_called : (s : Setting) (spot : Spot) (k : List Pending) (c : CopyOf) (m : Memory) (w : World Byte) (e : Expression) → found_in s e Called spot k c m w ≡ Lost
no_place_called s spot k c m w (tree.Constant value line) = refl
no_place_called s spot k c m w (tree.Read place ty line) = refl
no_place_called s spot k c m w (tree.Address place ty line) = refl
no_place_called s spot k c m w (tree.Convert operand ty line) = refl
no_place_called s spot k c m w (tree.Cast operand ty line) = refl
no_place_called s spot k c m w (tree.Unary op operand ty line) = refl
no_place_called s spot k c m w (tree.Binary op left right ty line) = refl
no_place_called s spot k c m w (tree.Offset op left right size ty line) = refl
no_place_called s spot k c m w (tree.Difference left right size line) = refl
no_place_called s spot k c m w (tree.Logical op left right line) = refl
no_place_called s spot k c m w (tree.Conditional condition chosen otherwise ty line) = refl
no_place_called s spot k c m w (tree.Comma left right ty line) = refl
no_place_called s spot k c m w (tree.Assign place value ty line) = refl
no_place_called s spot k c m w (tree.StructAssign place from size line) = refl
no_place_called s spot k c m w (tree.Update op place value operation size ty line) = refl
no_place_called s spot k c m w (tree.Step op place operation size ty line) = refl
no_place_called s spot k c m w (tree.Call function arguments ty line) = refl

pub ruleset first_places = (first_found_read, first_found_address, first_found_assign, first_found_struct_assign, first_found_update, first_found_step)

pub ruleset second_places = (second_found_struct_assign)

pub ruleset finds = (find_name, find_bit, find_member, find_deref)

pub ruleset members = (member_name, member_bit, member_member, member_deref)

pub ruleset pointed = (pointed_name, pointed_bit, pointed_member, pointed_deref)

pub ruleset no_places = (no_place_chosen, no_place_one, no_place_with, no_place_stored, no_place_copied, no_place_args, no_place_passed, no_place_called)
