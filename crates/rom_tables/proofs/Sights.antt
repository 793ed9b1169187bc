-- Each node of a tree once more, from its parts.
use Rattle.std.proofs.Common.{◌≡◌, ℕ, ◌+◌, ◌<◌, ◌≤◌, List, Option, Some, None, [], ◌∷◌, ◌++◌, length, map, take, get_or, refl, sym, ap, ◌∙◌}
use Rattle.std.proofs.lemmas.List.{map_more, map_push, take_all}
use Rattle.c_typed.proofs.Shapes.{show_expression_constant, show_expression_read, show_expression_address, show_expression_convert, show_expression_cast, show_expression_unary, show_expression_binary, show_expression_offset, show_expression_difference, show_expression_logical, show_expression_conditional, show_expression_comma, show_expression_assign, show_expression_struct_assign, show_expression_update, show_expression_step, show_expression_call, show_place_name, show_place_bit, show_place_member, show_place_deref}
use Rattle.c_typed.specs.Trees as tree
use Rattle.c_typed.specs.Trees.{Expression, Expressions, Place}
use Rattle.c_typed.specs.Views.{arguments_of, expression_of, place_of}
use Rattle.c_typed.specs.declared.expression.TExpr.{TExpr}
use Rattle.c_typed.specs.declared.expression.TExpr.TheOpen as Open
use Rattle.c_typed.specs.declared.expression.TExpr.TheVariants as TExpr
use Rattle.c_typed.specs.declared.expression.TExpr.TheViews.{out-TExpr, roll-TExpr, roll-out-TExpr}
use Rattle.c_typed.specs.declared.expression.TPlace.{TPlace}
use Rattle.c_typed.specs.declared.expression.TPlace.TheVariants as TPlace
use Rattle.c_typed.specs.declared.types.Qualified.{Qualified}
use Rattle.c_typed.specs.declared.types.Ty.{Ty}
use Rattle.rom_tables.specs.Outlined.{index_argument, outlined_arguments, outlined_expression, outlined_place, read_of, reader_call, to_unsigned}
use Rattle.rom_tables.specs.Tables.{place_table, start_table, table_on_left, table_on_right}

pub outlined_constant : (ts : List ℕ) (first : ℕ) (value : _) (line : _) → outlined_expression ts first (expression_of (TExpr.Constant value line)) ≡ tree.Constant value line
unfolding outlined_expression outlined_arguments outlined_place
outlined_constant ts first value line = ap (outlined_expression ts first) (show_expression_constant value line)

pub outlined_read : (ts : List ℕ) (first : ℕ) (place : _) (ty : _) (line : _) → outlined_expression ts first (expression_of (TExpr.Read place ty line)) ≡ outlined_expression ts first (tree.Read (place_of place.value) ty line)
unfolding outlined_expression outlined_arguments outlined_place
outlined_read ts first place ty line = ap (outlined_expression ts first) (show_expression_read place ty line)

pub outlined_address : (ts : List ℕ) (first : ℕ) (place : _) (ty : _) (line : _) → outlined_expression ts first (expression_of (TExpr.Address place ty line)) ≡ tree.Address (outlined_place ts first (place_of place.value)) ty line
unfolding outlined_expression outlined_arguments outlined_place
outlined_address ts first place ty line = ap (outlined_expression ts first) (show_expression_address place ty line)

pub outlined_convert : (ts : List ℕ) (first : ℕ) (operand : _) (ty : _) (line : _) → outlined_expression ts first (expression_of (TExpr.Convert operand ty line)) ≡ tree.Convert (outlined_expression ts first (expression_of operand.value)) ty line
unfolding outlined_expression outlined_arguments outlined_place
outlined_convert ts first operand ty line = ap (outlined_expression ts first) (show_expression_convert operand ty line)

pub outlined_cast : (ts : List ℕ) (first : ℕ) (operand : _) (ty : _) (line : _) → outlined_expression ts first (expression_of (TExpr.Cast operand ty line)) ≡ tree.Cast (outlined_expression ts first (expression_of operand.value)) ty line
unfolding outlined_expression outlined_arguments outlined_place
outlined_cast ts first operand ty line = ap (outlined_expression ts first) (show_expression_cast operand ty line)

pub outlined_unary : (ts : List ℕ) (first : ℕ) (op : _) (operand : _) (ty : _) (line : _) → outlined_expression ts first (expression_of (TExpr.Unary op operand ty line)) ≡ tree.Unary op (outlined_expression ts first (expression_of operand.value)) ty line
unfolding outlined_expression outlined_arguments outlined_place
outlined_unary ts first op operand ty line = ap (outlined_expression ts first) (show_expression_unary op operand ty line)

pub outlined_binary : (ts : List ℕ) (first : ℕ) (op : _) (left : _) (right : _) (ty : _) (line : _) → outlined_expression ts first (expression_of (TExpr.Binary op left right ty line)) ≡ tree.Binary op (outlined_expression ts first (expression_of left.value)) (outlined_expression ts first (expression_of right.value)) ty line
unfolding outlined_expression outlined_arguments outlined_place
outlined_binary ts first op left right ty line = ap (outlined_expression ts first) (show_expression_binary op left right ty line)

pub outlined_offset : (ts : List ℕ) (first : ℕ) (op : _) (left : _) (right : _) (size : _) (ty : _) (line : _) → outlined_expression ts first (expression_of (TExpr.Offset op left right size ty line)) ≡ tree.Offset op (outlined_expression ts first (expression_of left.value)) (outlined_expression ts first (expression_of right.value)) size ty line
unfolding outlined_expression outlined_arguments outlined_place
outlined_offset ts first op left right size ty line = ap (outlined_expression ts first) (show_expression_offset op left right size ty line)

pub outlined_difference : (ts : List ℕ) (first : ℕ) (left : _) (right : _) (size : _) (line : _) → outlined_expression ts first (expression_of (TExpr.Difference left right size line)) ≡ tree.Difference (outlined_expression ts first (expression_of left.value)) (outlined_expression ts first (expression_of right.value)) size line
unfolding outlined_expression outlined_arguments outlined_place
outlined_difference ts first left right size line = ap (outlined_expression ts first) (show_expression_difference left right size line)

pub outlined_logical : (ts : List ℕ) (first : ℕ) (op : _) (left : _) (right : _) (line : _) → outlined_expression ts first (expression_of (TExpr.Logical op left right line)) ≡ tree.Logical op (outlined_expression ts first (expression_of left.value)) (outlined_expression ts first (expression_of right.value)) line
unfolding outlined_expression outlined_arguments outlined_place
outlined_logical ts first op left right line = ap (outlined_expression ts first) (show_expression_logical op left right line)

pub outlined_conditional : (ts : List ℕ) (first : ℕ) (condition : _) (chosen : _) (otherwise : _) (ty : _) (line : _) → outlined_expression ts first (expression_of (TExpr.Conditional condition chosen otherwise ty line)) ≡ tree.Conditional (outlined_expression ts first (expression_of condition.value)) (outlined_expression ts first (expression_of chosen.value)) (outlined_expression ts first (expression_of otherwise.value)) ty line
unfolding outlined_expression outlined_arguments outlined_place
outlined_conditional ts first condition chosen otherwise ty line = ap (outlined_expression ts first) (show_expression_conditional condition chosen otherwise ty line)

pub outlined_comma : (ts : List ℕ) (first : ℕ) (left : _) (right : _) (ty : _) (line : _) → outlined_expression ts first (expression_of (TExpr.Comma left right ty line)) ≡ tree.Comma (outlined_expression ts first (expression_of left.value)) (outlined_expression ts first (expression_of right.value)) ty line
unfolding outlined_expression outlined_arguments outlined_place
outlined_comma ts first left right ty line = ap (outlined_expression ts first) (show_expression_comma left right ty line)

pub outlined_assign : (ts : List ℕ) (first : ℕ) (place : _) (value : _) (ty : _) (line : _) → outlined_expression ts first (expression_of (TExpr.Assign place value ty line)) ≡ tree.Assign (outlined_place ts first (place_of place.value)) (outlined_expression ts first (expression_of value.value)) ty line
unfolding outlined_expression outlined_arguments outlined_place
outlined_assign ts first place value ty line = ap (outlined_expression ts first) (show_expression_assign place value ty line)

pub outlined_struct_assign : (ts : List ℕ) (first : ℕ) (place : _) (from : _) (size : _) (line : _) → outlined_expression ts first (expression_of (TExpr.StructAssign place from size line)) ≡ tree.StructAssign (outlined_place ts first (place_of place.value)) (outlined_place ts first (place_of from.value)) size line
unfolding outlined_expression outlined_arguments outlined_place
outlined_struct_assign ts first place from size line = ap (outlined_expression ts first) (show_expression_struct_assign place from size line)

pub outlined_update : (ts : List ℕ) (first : ℕ) (op : _) (place : _) (value : _) (operation : _) (size : _) (ty : _) (line : _) → outlined_expression ts first (expression_of (TExpr.Update op place value operation size ty line)) ≡ tree.Update op (outlined_place ts first (place_of place.value)) (outlined_expression ts first (expression_of value.value)) operation size ty line
unfolding outlined_expression outlined_arguments outlined_place
outlined_update ts first op place value operation size ty line = ap (outlined_expression ts first) (show_expression_update op place value operation size ty line)

pub outlined_step : (ts : List ℕ) (first : ℕ) (op : _) (place : _) (operation : _) (size : _) (ty : _) (line : _) → outlined_expression ts first (expression_of (TExpr.Step op place operation size ty line)) ≡ tree.Step op (outlined_place ts first (place_of place.value)) operation size ty line
unfolding outlined_expression outlined_arguments outlined_place
outlined_step ts first op place operation size ty line = ap (outlined_expression ts first) (show_expression_step op place operation size ty line)

pub outlined_call : (ts : List ℕ) (first : ℕ) (function : _) (arguments : _) (ty : _) (line : _) → outlined_expression ts first (expression_of (TExpr.Call function arguments ty line)) ≡ tree.Call function (outlined_arguments ts first (arguments_of (map expression_of arguments.items))) ty line
unfolding outlined_expression outlined_arguments outlined_place
outlined_call ts first function arguments ty line = ap (outlined_expression ts first) (show_expression_call function arguments ty line)

pub outlined_name : (ts : List ℕ) (first : ℕ) (object : _) (ty : _) (line : _) → outlined_place ts first (place_of (TPlace.Name object ty line)) ≡ tree.Name object ty line
unfolding outlined_expression outlined_arguments outlined_place
outlined_name ts first object ty line = ap (outlined_place ts first) (show_place_name object ty line)

pub outlined_bit : (ts : List ℕ) (first : ℕ) (register : _) (bit : _) (line : _) → outlined_place ts first (place_of (TPlace.Bit register bit line)) ≡ tree.Bit register bit line
unfolding outlined_expression outlined_arguments outlined_place
outlined_bit ts first register bit line = ap (outlined_place ts first) (show_place_bit register bit line)

pub outlined_member : (ts : List ℕ) (first : ℕ) (whole : _) (member : _) (offset : _) (ty : _) (line : _) → outlined_place ts first (place_of (TPlace.Member whole member offset ty line)) ≡ tree.Member (outlined_place ts first (place_of whole.value)) member offset ty line
unfolding outlined_expression outlined_arguments outlined_place
outlined_member ts first whole member offset ty line = ap (outlined_place ts first) (show_place_member whole member offset ty line)

pub outlined_deref : (ts : List ℕ) (first : ℕ) (pointer : _) (ty : _) (line : _) → outlined_place ts first (place_of (TPlace.Deref pointer ty line)) ≡ tree.Deref (outlined_expression ts first (expression_of pointer.value)) ty line
unfolding outlined_expression outlined_arguments outlined_place
outlined_deref ts first pointer ty line = ap (outlined_place ts first) (show_place_deref pointer ty line)

pub ruleset expression_sights = (outlined_constant, outlined_read, outlined_address, outlined_convert, outlined_cast, outlined_unary, outlined_binary, outlined_offset, outlined_difference, outlined_logical, outlined_conditional, outlined_comma, outlined_assign, outlined_struct_assign, outlined_update, outlined_step, outlined_call)

pub ruleset place_sights = (outlined_name, outlined_bit, outlined_member, outlined_deref)

-- ---- the value of a place
pub read_name : (ts : List ℕ) (first : ℕ) (object : _) (ty : _) (line : _) (value : _) (above : ℕ) → outlined_expression ts first (tree.Read (place_of (TPlace.Name object ty line)) value above) ≡ tree.Read (outlined_place ts first (place_of (TPlace.Name object ty line))) value above
unfolding outlined_expression outlined_arguments outlined_place
read_name ts first object ty line value above = ap (λ p. outlined_expression ts first (tree.Read p value above)) (show_place_name object ty line) ∙ sym (ap (λ p. tree.Read (outlined_place ts first p) value above) (show_place_name object ty line))

pub read_bit : (ts : List ℕ) (first : ℕ) (register : _) (bit : _) (line : _) (value : _) (above : ℕ) → outlined_expression ts first (tree.Read (place_of (TPlace.Bit register bit line)) value above) ≡ tree.Read (outlined_place ts first (place_of (TPlace.Bit register bit line))) value above
unfolding outlined_expression outlined_arguments outlined_place
read_bit ts first register bit line value above = ap (λ p. outlined_expression ts first (tree.Read p value above)) (show_place_bit register bit line) ∙ sym (ap (λ p. tree.Read (outlined_place ts first p) value above) (show_place_bit register bit line))

pub read_member : (ts : List ℕ) (first : ℕ) (whole : _) (member : _) (offset : _) (ty : _) (line : _) (value : _) (above : ℕ) → outlined_expression ts first (tree.Read (place_of (TPlace.Member whole member offset ty line)) value above) ≡ tree.Read (outlined_place ts first (place_of (TPlace.Member whole member offset ty line))) value above
unfolding outlined_expression outlined_arguments outlined_place
read_member ts first whole member offset ty line value above = ap (λ p. outlined_expression ts first (tree.Read p value above)) (show_place_member whole member offset ty line) ∙ sym (ap (λ p. tree.Read (outlined_place ts first p) value above) (show_place_member whole member offset ty line))

pub read_deref : (ts : List ℕ) (first : ℕ) (pointer : _) (ty : _) (line : _) (value : _) (above : ℕ) → outlined_expression ts first (tree.Read (place_of (TPlace.Deref pointer ty line)) value above) ≡ outlined_expression ts first (tree.Read (tree.Deref (expression_of pointer.value) ty line) value above)
read_deref ts first pointer ty line value above = ap (λ p. outlined_expression ts first (tree.Read p value above)) (show_place_deref pointer ty line)

pub ruleset read_sights = (read_name, read_bit, read_member, read_deref)

-- ---- kinds of nodes that are told apart from all others
pub start_table_address : (ts : List ℕ) (place : _) (ty : _) (line : _) → start_table ts (expression_of (TExpr.Address place ty line)) ≡ place_table ts (place_of place.value)
start_table_address ts place ty line = ap (start_table ts) (show_expression_address place ty line)

still_read : (ts : List ℕ) (first : ℕ) (target : Qualified) (above : ℕ) (value : Ty) (at : ℕ) (e u : Expression) → e ≡ u → outlined_expression ts first (tree.Read (tree.Deref u target above) value at) ≡ tree.Read (tree.Deref (outlined_expression ts first u) target above) value at → outlined_expression ts first (tree.Read (tree.Deref e target above) value at) ≡ tree.Read (tree.Deref (outlined_expression ts first e) target above) value at
still_read ts first target above value at e u is h = ap (λ (x : Expression). outlined_expression ts first (tree.Read (tree.Deref x target above) value at)) is ∙ h ∙ sym (ap (λ (x : Expression). tree.Read (tree.Deref (outlined_expression ts first x) target above) value at) is)

same_argument : (ts : List ℕ) (first above : ℕ) (e u : Expression) → e ≡ u → index_argument (outlined_expression ts first u) above ≡ to_unsigned (outlined_expression ts first u) above → index_argument (outlined_expression ts first e) above ≡ to_unsigned (outlined_expression ts first e) above
same_argument ts first above e u is h = ap (λ (x : Expression). index_argument (outlined_expression ts first x) above) is ∙ h ∙ sym (ap (λ (x : Expression). to_unsigned (outlined_expression ts first x) above) is)

-- A read is a read or a call, and no conversion.
pub read_argument : (first above : ℕ) (left right : Option ℕ) (place : Place) (ty : Ty) (line : ℕ) → index_argument (read_of first left right place ty line) above ≡ to_unsigned (read_of first left right place ty line) above
read_argument first above (Some t) right place ty line = refl
read_argument first above None (Some t) place ty line = refl
read_argument first above None None place ty line = refl

no_start_layer : (ts : List ℕ) (l : Open.TExpr-F TExpr TPlace) (c : TExpr) → roll-TExpr l ≡ c → ((place : _) (ty : _) (line : _) → c ≡ TExpr.Address place ty line → ⊥) → start_table ts (expression_of c) ≡ None
no_start_layer ts (Open.Constant value line) c is other = ap (start_table ts) (ap expression_of (sym is ∙ TExpr.rolls-Constant value line) ∙ show_expression_constant value line)
no_start_layer ts (Open.Read place ty line) c is other = ap (start_table ts) (ap expression_of (sym is ∙ TExpr.rolls-Read place ty line) ∙ show_expression_read place ty line)
no_start_layer ts (Open.Address place ty line) c is other = absurd (other place ty line (sym is ∙ TExpr.rolls-Address place ty line))
no_start_layer ts (Open.Convert operand ty line) c is other = ap (start_table ts) (ap expression_of (sym is ∙ TExpr.rolls-Convert operand ty line) ∙ show_expression_convert operand ty line)
no_start_layer ts (Open.Cast operand ty line) c is other = ap (start_table ts) (ap expression_of (sym is ∙ TExpr.rolls-Cast operand ty line) ∙ show_expression_cast operand ty line)
no_start_layer ts (Open.Unary op operand ty line) c is other = ap (start_table ts) (ap expression_of (sym is ∙ TExpr.rolls-Unary op operand ty line) ∙ show_expression_unary op operand ty line)
no_start_layer ts (Open.Binary op left right ty line) c is other = ap (start_table ts) (ap expression_of (sym is ∙ TExpr.rolls-Binary op left right ty line) ∙ show_expression_binary op left right ty line)
no_start_layer ts (Open.Offset op left right size ty line) c is other = ap (start_table ts) (ap expression_of (sym is ∙ TExpr.rolls-Offset op left right size ty line) ∙ show_expression_offset op left right size ty line)
no_start_layer ts (Open.Difference left right size line) c is other = ap (start_table ts) (ap expression_of (sym is ∙ TExpr.rolls-Difference left right size line) ∙ show_expression_difference left right size line)
no_start_layer ts (Open.Logical op left right line) c is other = ap (start_table ts) (ap expression_of (sym is ∙ TExpr.rolls-Logical op left right line) ∙ show_expression_logical op left right line)
no_start_layer ts (Open.Conditional condition chosen otherwise ty line) c is other = ap (start_table ts) (ap expression_of (sym is ∙ TExpr.rolls-Conditional condition chosen otherwise ty line) ∙ show_expression_conditional condition chosen otherwise ty line)
no_start_layer ts (Open.Comma left right ty line) c is other = ap (start_table ts) (ap expression_of (sym is ∙ TExpr.rolls-Comma left right ty line) ∙ show_expression_comma left right ty line)
no_start_layer ts (Open.Assign place value ty line) c is other = ap (start_table ts) (ap expression_of (sym is ∙ TExpr.rolls-Assign place value ty line) ∙ show_expression_assign place value ty line)
no_start_layer ts (Open.StructAssign place from size line) c is other = ap (start_table ts) (ap expression_of (sym is ∙ TExpr.rolls-StructAssign place from size line) ∙ show_expression_struct_assign place from size line)
no_start_layer ts (Open.Update op place value operation size ty line) c is other = ap (start_table ts) (ap expression_of (sym is ∙ TExpr.rolls-Update op place value operation size ty line) ∙ show_expression_update op place value operation size ty line)
no_start_layer ts (Open.Step op place operation size ty line) c is other = ap (start_table ts) (ap expression_of (sym is ∙ TExpr.rolls-Step op place operation size ty line) ∙ show_expression_step op place operation size ty line)
no_start_layer ts (Open.Call function arguments ty line) c is other = ap (start_table ts) (ap expression_of (sym is ∙ TExpr.rolls-Call function arguments ty line) ∙ show_expression_call function arguments ty line)

pub no_start : (ts : List ℕ) (c : TExpr) → ((place : _) (ty : _) (line : _) → c ≡ TExpr.Address place ty line → ⊥) → start_table ts (expression_of c) ≡ None
no_start ts c other = no_start_layer ts (out-TExpr c) c (roll-out-TExpr c) other

no_sum_layer : (ts : List ℕ) (first : ℕ) (target : Qualified) (above : ℕ) (wanted : Ty) (at : ℕ) (l : Open.TExpr-F TExpr TPlace) (c : TExpr) → roll-TExpr l ≡ c → ((op : _) (left : _) (right : _) (size : _) (ty : _) (line : _) → c ≡ TExpr.Offset op left right size ty line → ⊥) → outlined_expression ts first (tree.Read (tree.Deref (expression_of c) target above) wanted at) ≡ tree.Read (tree.Deref (outlined_expression ts first (expression_of c)) target above) wanted at
unfolding outlined_expression outlined_arguments outlined_place
no_sum_layer ts first target above wanted at (Open.Constant value line) c is other = still_read ts first target above wanted at (expression_of c) _ (ap expression_of (sym is ∙ TExpr.rolls-Constant value line) ∙ show_expression_constant value line) refl
no_sum_layer ts first target above wanted at (Open.Read place ty line) c is other = still_read ts first target above wanted at (expression_of c) _ (ap expression_of (sym is ∙ TExpr.rolls-Read place ty line) ∙ show_expression_read place ty line) refl
no_sum_layer ts first target above wanted at (Open.Address place ty line) c is other = still_read ts first target above wanted at (expression_of c) _ (ap expression_of (sym is ∙ TExpr.rolls-Address place ty line) ∙ show_expression_address place ty line) refl
no_sum_layer ts first target above wanted at (Open.Convert operand ty line) c is other = still_read ts first target above wanted at (expression_of c) _ (ap expression_of (sym is ∙ TExpr.rolls-Convert operand ty line) ∙ show_expression_convert operand ty line) refl
no_sum_layer ts first target above wanted at (Open.Cast operand ty line) c is other = still_read ts first target above wanted at (expression_of c) _ (ap expression_of (sym is ∙ TExpr.rolls-Cast operand ty line) ∙ show_expression_cast operand ty line) refl
no_sum_layer ts first target above wanted at (Open.Unary op operand ty line) c is other = still_read ts first target above wanted at (expression_of c) _ (ap expression_of (sym is ∙ TExpr.rolls-Unary op operand ty line) ∙ show_expression_unary op operand ty line) refl
no_sum_layer ts first target above wanted at (Open.Binary op left right ty line) c is other = still_read ts first target above wanted at (expression_of c) _ (ap expression_of (sym is ∙ TExpr.rolls-Binary op left right ty line) ∙ show_expression_binary op left right ty line) refl
no_sum_layer ts first target above wanted at (Open.Offset op left right size ty line) c is other = absurd (other op left right size ty line (sym is ∙ TExpr.rolls-Offset op left right size ty line))
no_sum_layer ts first target above wanted at (Open.Difference left right size line) c is other = still_read ts first target above wanted at (expression_of c) _ (ap expression_of (sym is ∙ TExpr.rolls-Difference left right size line) ∙ show_expression_difference left right size line) refl
no_sum_layer ts first target above wanted at (Open.Logical op left right line) c is other = still_read ts first target above wanted at (expression_of c) _ (ap expression_of (sym is ∙ TExpr.rolls-Logical op left right line) ∙ show_expression_logical op left right line) refl
no_sum_layer ts first target above wanted at (Open.Conditional condition chosen otherwise ty line) c is other = still_read ts first target above wanted at (expression_of c) _ (ap expression_of (sym is ∙ TExpr.rolls-Conditional condition chosen otherwise ty line) ∙ show_expression_conditional condition chosen otherwise ty line) refl
no_sum_layer ts first target above wanted at (Open.Comma left right ty line) c is other = still_read ts first target above wanted at (expression_of c) _ (ap expression_of (sym is ∙ TExpr.rolls-Comma left right ty line) ∙ show_expression_comma left right ty line) refl
no_sum_layer ts first target above wanted at (Open.Assign place value ty line) c is other = still_read ts first target above wanted at (expression_of c) _ (ap expression_of (sym is ∙ TExpr.rolls-Assign place value ty line) ∙ show_expression_assign place value ty line) refl
no_sum_layer ts first target above wanted at (Open.StructAssign place from size line) c is other = still_read ts first target above wanted at (expression_of c) _ (ap expression_of (sym is ∙ TExpr.rolls-StructAssign place from size line) ∙ show_expression_struct_assign place from size line) refl
no_sum_layer ts first target above wanted at (Open.Update op place value operation size ty line) c is other = still_read ts first target above wanted at (expression_of c) _ (ap expression_of (sym is ∙ TExpr.rolls-Update op place value operation size ty line) ∙ show_expression_update op place value operation size ty line) refl
no_sum_layer ts first target above wanted at (Open.Step op place operation size ty line) c is other = still_read ts first target above wanted at (expression_of c) _ (ap expression_of (sym is ∙ TExpr.rolls-Step op place operation size ty line) ∙ show_expression_step op place operation size ty line) refl
no_sum_layer ts first target above wanted at (Open.Call function arguments ty line) c is other = still_read ts first target above wanted at (expression_of c) _ (ap expression_of (sym is ∙ TExpr.rolls-Call function arguments ty line) ∙ show_expression_call function arguments ty line) refl

pub no_sum : (ts : List ℕ) (first : ℕ) (target : Qualified) (above : ℕ) (wanted : Ty) (at : ℕ) (c : TExpr) → ((op : _) (left : _) (right : _) (size : _) (ty : _) (line : _) → c ≡ TExpr.Offset op left right size ty line → ⊥) → outlined_expression ts first (tree.Read (tree.Deref (expression_of c) target above) wanted at) ≡ tree.Read (tree.Deref (outlined_expression ts first (expression_of c)) target above) wanted at
no_sum ts first target above wanted at c other = no_sum_layer ts first target above wanted at (out-TExpr c) c (roll-out-TExpr c) other

no_conversion_layer : (ts : List ℕ) (first : ℕ) (above : ℕ) (l : Open.TExpr-F TExpr TPlace) (c : TExpr) → roll-TExpr l ≡ c → ((operand : _) (ty : _) (line : _) → c ≡ TExpr.Convert operand ty line → ⊥) → index_argument (outlined_expression ts first (expression_of c)) above ≡ to_unsigned (outlined_expression ts first (expression_of c)) above
unfolding outlined_expression outlined_arguments outlined_place
no_conversion_layer ts first above (Open.Constant value line) c is other = same_argument ts first above (expression_of c) _ (ap expression_of (sym is ∙ TExpr.rolls-Constant value line) ∙ show_expression_constant value line) refl
no_conversion_layer ts first above (Open.Read place ty line) c is other = same_argument ts first above (expression_of c) _ (ap expression_of (sym is ∙ TExpr.rolls-Read place ty line) ∙ show_expression_read place ty line) (read_argument first above (table_on_left ts (place_of place.value)) (table_on_right ts (place_of place.value)) (outlined_place ts first (place_of place.value)) ty line)
no_conversion_layer ts first above (Open.Address place ty line) c is other = same_argument ts first above (expression_of c) _ (ap expression_of (sym is ∙ TExpr.rolls-Address place ty line) ∙ show_expression_address place ty line) refl
no_conversion_layer ts first above (Open.Convert operand ty line) c is other = absurd (other operand ty line (sym is ∙ TExpr.rolls-Convert operand ty line))
no_conversion_layer ts first above (Open.Cast operand ty line) c is other = same_argument ts first above (expression_of c) _ (ap expression_of (sym is ∙ TExpr.rolls-Cast operand ty line) ∙ show_expression_cast operand ty line) refl
no_conversion_layer ts first above (Open.Unary op operand ty line) c is other = same_argument ts first above (expression_of c) _ (ap expression_of (sym is ∙ TExpr.rolls-Unary op operand ty line) ∙ show_expression_unary op operand ty line) refl
no_conversion_layer ts first above (Open.Binary op left right ty line) c is other = same_argument ts first above (expression_of c) _ (ap expression_of (sym is ∙ TExpr.rolls-Binary op left right ty line) ∙ show_expression_binary op left right ty line) refl
no_conversion_layer ts first above (Open.Offset op left right size ty line) c is other = same_argument ts first above (expression_of c) _ (ap expression_of (sym is ∙ TExpr.rolls-Offset op left right size ty line) ∙ show_expression_offset op left right size ty line) refl
no_conversion_layer ts first above (Open.Difference left right size line) c is other = same_argument ts first above (expression_of c) _ (ap expression_of (sym is ∙ TExpr.rolls-Difference left right size line) ∙ show_expression_difference left right size line) refl
no_conversion_layer ts first above (Open.Logical op left right line) c is other = same_argument ts first above (expression_of c) _ (ap expression_of (sym is ∙ TExpr.rolls-Logical op left right line) ∙ show_expression_logical op left right line) refl
no_conversion_layer ts first above (Open.Conditional condition chosen otherwise ty line) c is other = same_argument ts first above (expression_of c) _ (ap expression_of (sym is ∙ TExpr.rolls-Conditional condition chosen otherwise ty line) ∙ show_expression_conditional condition chosen otherwise ty line) refl
no_conversion_layer ts first above (Open.Comma left right ty line) c is other = same_argument ts first above (expression_of c) _ (ap expression_of (sym is ∙ TExpr.rolls-Comma left right ty line) ∙ show_expression_comma left right ty line) refl
no_conversion_layer ts first above (Open.Assign place value ty line) c is other = same_argument ts first above (expression_of c) _ (ap expression_of (sym is ∙ TExpr.rolls-Assign place value ty line) ∙ show_expression_assign place value ty line) refl
no_conversion_layer ts first above (Open.StructAssign place from size line) c is other = same_argument ts first above (expression_of c) _ (ap expression_of (sym is ∙ TExpr.rolls-StructAssign place from size line) ∙ show_expression_struct_assign place from size line) refl
no_conversion_layer ts first above (Open.Update op place value operation size ty line) c is other = same_argument ts first above (expression_of c) _ (ap expression_of (sym is ∙ TExpr.rolls-Update op place value operation size ty line) ∙ show_expression_update op place value operation size ty line) refl
no_conversion_layer ts first above (Open.Step op place operation size ty line) c is other = same_argument ts first above (expression_of c) _ (ap expression_of (sym is ∙ TExpr.rolls-Step op place operation size ty line) ∙ show_expression_step op place operation size ty line) refl
no_conversion_layer ts first above (Open.Call function arguments ty line) c is other = same_argument ts first above (expression_of c) _ (ap expression_of (sym is ∙ TExpr.rolls-Call function arguments ty line) ∙ show_expression_call function arguments ty line) refl

pub no_conversion : (ts : List ℕ) (first : ℕ) (above : ℕ) (c : TExpr) → ((operand : _) (ty : _) (line : _) → c ≡ TExpr.Convert operand ty line → ⊥) → index_argument (outlined_expression ts first (expression_of c)) above ≡ to_unsigned (outlined_expression ts first (expression_of c)) above
no_conversion ts first above c other = no_conversion_layer ts first above (out-TExpr c) c (roll-out-TExpr c) other

-- ---- an element of a table
-- the table's start stands on the left, or on the right where the left isn't one
pub element_right : (ts : List ℕ) (first t : ℕ) (pointer : TExpr) (op : _) (left right : _) (size : _) (pty : _) (pat : _) (target : Qualified) (above : ℕ) (ty : Ty) (line : ℕ) → pointer ≡ TExpr.Offset op left right size pty pat → start_table ts (expression_of left.value) ≡ Some t → reader_call (first + t) (outlined_expression ts first (expression_of right.value)) ty line ≡ outlined_expression ts first (tree.Read (tree.Deref (expression_of pointer) target above) ty line)
unfolding outlined_expression outlined_arguments outlined_place
element_right ts first t pointer op left right size pty pat target above ty line is found =
    sym (ap (λ (x : Expression). outlined_expression ts first (tree.Read (tree.Deref x target above) ty line)) (ap expression_of is ∙ show_expression_offset op left right size pty pat)
    ∙ ap (λ o. read_of first o (start_table ts (expression_of right.value)) (outlined_place ts first (tree.Deref (tree.Offset op (expression_of left.value) (expression_of right.value) size pty pat) target above)) ty line) found)

pub element_left : (ts : List ℕ) (first t : ℕ) (pointer : TExpr) (op : _) (left right : _) (size : _) (pty : _) (pat : _) (target : Qualified) (above : ℕ) (ty : Ty) (line : ℕ) → pointer ≡ TExpr.Offset op left right size pty pat → start_table ts (expression_of left.value) ≡ None → start_table ts (expression_of right.value) ≡ Some t → reader_call (first + t) (outlined_expression ts first (expression_of left.value)) ty line ≡ outlined_expression ts first (tree.Read (tree.Deref (expression_of pointer) target above) ty line)
unfolding outlined_expression outlined_arguments outlined_place
element_left ts first t pointer op left right size pty pat target above ty line is none found =
    sym (ap (λ (x : Expression). outlined_expression ts first (tree.Read (tree.Deref x target above) ty line)) (ap expression_of is ∙ show_expression_offset op left right size pty pat)
    ∙ ap (λ o. read_of first o (start_table ts (expression_of right.value)) (outlined_place ts first (tree.Deref (tree.Offset op (expression_of left.value) (expression_of right.value) size pty pat) target above)) ty line) none
    ∙ ap (λ o. read_of first None o (outlined_place ts first (tree.Deref (tree.Offset op (expression_of left.value) (expression_of right.value) size pty pat) target above)) ty line) found)

pub no_element : (ts : List ℕ) (first : ℕ) (pointer : TExpr) (op : _) (left right : _) (size : _) (pty : _) (pat : _) (target : Qualified) (above : ℕ) (ty : Ty) (line : ℕ) → pointer ≡ TExpr.Offset op left right size pty pat → start_table ts (expression_of left.value) ≡ None → start_table ts (expression_of right.value) ≡ None → tree.Read (tree.Deref (outlined_expression ts first (expression_of pointer)) target above) ty line ≡ outlined_expression ts first (tree.Read (tree.Deref (expression_of pointer) target above) ty line)
unfolding outlined_expression outlined_arguments outlined_place
no_element ts first pointer op left right size pty pat target above ty line is none neither =
    sym (still_read ts first target above ty line (expression_of pointer) (tree.Offset op (expression_of left.value) (expression_of right.value) size pty pat) (ap expression_of is ∙ show_expression_offset op left right size pty pat)
    (ap (λ o. read_of first o (start_table ts (expression_of right.value)) (outlined_place ts first (tree.Deref (tree.Offset op (expression_of left.value) (expression_of right.value) size pty pat) target above)) ty line) none
    ∙ ap (λ o. read_of first None o (outlined_place ts first (tree.Deref (tree.Offset op (expression_of left.value) (expression_of right.value) size pty pat) target above)) ty line) neither))

pub converted_argument : (ts : List ℕ) (first above : ℕ) (e : TExpr) (operand : _) (ty : _) (line : _) → e ≡ TExpr.Convert operand ty line → to_unsigned (outlined_expression ts first (expression_of operand.value)) line ≡ index_argument (outlined_expression ts first (expression_of e)) above
unfolding outlined_expression outlined_arguments outlined_place
converted_argument ts first above e operand ty line is = sym (ap (λ (x : Expression). index_argument (outlined_expression ts first x) above) (ap expression_of is ∙ show_expression_convert operand ty line))

-- ---- arguments
pub argument_more : (ts : List ℕ) (first : ℕ) (given made : List TExpr) (k : ℕ) (c n : TExpr) → k < length given → c ≡ get_or given k c → expression_of n ≡ outlined_expression ts first (expression_of c) → map expression_of made ≡ map (outlined_expression ts first) (map expression_of (take k given)) → map expression_of (made ++ n ∷ []) ≡ map (outlined_expression ts first) (map expression_of (take (k + 1) given))
argument_more ts first given made k c n below is one before =
    map_push expression_of made n
    ∙ ap (λ (l : List Expression). l ++ expression_of n ∷ []) before
    ∙ ap (λ (t : Expression). map (outlined_expression ts first) (map expression_of (take k given)) ++ t ∷ []) (one ∙ ap (λ (t : TExpr). outlined_expression ts first (expression_of t)) is)
    ∙ sym (ap (map (outlined_expression ts first)) (map_more expression_of given k c below) ∙ map_push (outlined_expression ts first) (map expression_of (take k given)) (expression_of (get_or given k c)))

each_argument : (ts : List ℕ) (first : ℕ) (es : List Expression) → arguments_of (map (outlined_expression ts first) es) ≡ outlined_arguments ts first (arguments_of es)
unfolding outlined_expression outlined_arguments outlined_place
each_argument ts first [] = refl
each_argument ts first (e ∷ es) = ap (λ (x : Expressions). tree.AndExpression (outlined_expression ts first e) x) (each_argument ts first es)

pub arguments_all : (ts : List ℕ) (first : ℕ) (given made : List TExpr) (k : ℕ) → length given ≤ k → map expression_of made ≡ map (outlined_expression ts first) (map expression_of (take k given)) → arguments_of (map expression_of made) ≡ outlined_arguments ts first (arguments_of (map expression_of given))
arguments_all ts first given made k past before =
    ap arguments_of (before ∙ ap (λ (l : List TExpr). map (outlined_expression ts first) (map expression_of l)) (take_all k given past)) ∙ each_argument ts first (map expression_of given)
