-- An operator on two operands: the term that it makes, by what its parts are.
use Rattle.std.proofs.Common.{◌≡◌, Option, Ok, sym, ap, ◌∙◌}
use Rattle.c_ints.specs.declared.operators.BinOp.{BinOp}
use Rattle.c_typed.specs.Trees.{Expression}
use Rattle.type_rules.specs.Conversions.{converted}
use Rattle.type_rules.specs.Known.{Known, given}
use Rattle.type_rules.specs.Operations.{Operation, Node, Plain, Moved, Difference}
use Rattle.type_rules.specs.Operators.{binary_value, binary_term, into_behind}
use Rattle.type_rules.specs.Terms.{Operand, Reach, first_into, value_term}
use Rattle.c_terms.specs.Terms.{reach_moved}

moved_into : (node : Node) (x y : Operand) (into reach : Option Reach) → into ≡ first_into x.into y.into → reach ≡ reach_moved node into → into_behind node x y ≡ reach
moved_into Plain x y into reach e h = sym h
moved_into Moved x y into reach e h = sym (h ∙ e)
moved_into Difference x y into reach e h = sym h

value_is : (op : BinOp) (x y : Operand) (found : Operation) (left right value : Expression) → left ≡ converted x found.left → right ≡ converted y found.right → value ≡ binary_value found.node op left right found x.start → binary_value found.node op (converted x found.left) (converted y found.right) found x.start ≡ value
value_is op x y found left right value l r v =
    sym (v ∙ (ap (λ e. binary_value found.node op e right found x.start) l ∙ ap (λ e. binary_value found.node op (converted x found.left) e found x.start) r))

pub operated_is : (known : Known) (op : BinOp) (x y : Operand) (found : Operation) (left right value : Expression) (into reach : Option Reach) → left ≡ converted x found.left → right ≡ converted y found.right → value ≡ binary_value found.node op left right found x.start → into ≡ first_into x.into y.into → reach ≡ reach_moved found.node into → given (binary_term op x y found) known ≡ Ok (record (value_term value x.start) { into = reach }, known)
operated_is known op x y found left right value into reach l r v i m =
    ap (λ e. Ok (record (value_term e x.start) { into = into_behind found.node x y }, known)) (value_is op x y found left right value l r v)
    ∙ ap (λ b. Ok (record (value_term value x.start) { into = b }, known)) (moved_into found.node x y into reach i m)
