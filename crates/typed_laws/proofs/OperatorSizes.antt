-- Operators on operands that have values.
use Rattle.std.proofs.Common.{◌≡◌, ℕ, ◌+◌, ◌≤◌, not, ◌&&◌, [], ◌∷◌, Option, Some, None, refl, arith}
use Rattle.c_ints.specs.declared.operators.BinOp.{BinOp}
use Rattle.c_ints.specs.declared.operators.UnOp.{UnOp}
use Rattle.c_ints.specs.declared.operators.UnOp.TheVariants as unop
use Rattle.c_token.specs.declared.token.Punct.TheVariants as marks
use Rattle.c_token.specs.declared.token.TokKind.{TokKind}
use Rattle.c_token.specs.declared.token.TokKind.TheVariants as kinds
use Rattle.c_typed.specs.Sameness.{is_int, is_scalar}
use Rattle.c_typed.specs.TreeNodes.{nodes_in, nodes_of_all, nodes_at}
use Rattle.c_typed.specs.Trees as typed
use Rattle.c_typed.specs.Trees.{Expression}
use Rattle.c_typed.specs.Types.{type_of}
use Rattle.c_typed.specs.declared.expression.LogicalOp.{LogicalOp}
use Rattle.c_typed.specs.declared.types.Ty.{Ty}
use Rattle.type_rules.specs.Conversions.{converted, may_be_cast}
use Rattle.type_rules.specs.Faults as kind
use Rattle.type_rules.specs.Known.{Known}
use Rattle.type_rules.specs.Operations.{Node, Plain, Moved, Difference, Operation, plain_int, operation_of, binary_of}
use Rattle.type_rules.specs.Operators.{binary_value, binary, logical, comma, between_by, between, choice_type, choice, cast, promoted_type, arithmetic, negation}
use Rattle.type_rules.specs.Terms.{Operand, side_of}
use Rattle.typed_laws.specs.Weights.{Met, held, operand_nodes, IsTerm}
use Rattle.typed_laws.proofs.StepSizes.{met_given, met_broken, met_tried, met_wanted}
use Rattle.typed_laws.proofs.ValueSizes.{value_is, converted_nodes}

node_value : (node : Node) (op : BinOp) (left right : Expression) (found : Operation) (line : ℕ) → nodes_in (binary_value node op left right found line) ≡ 1 + (nodes_in left + nodes_in right)
unfolding nodes_in nodes_of_all nodes_at
node_value Plain op left right found line = refl
node_value Moved op left right found line = refl
node_value Difference op left right found line = refl

module _ (h m n : ℕ) (x y : Operand) (known : Known) (left : operand_nodes x ≤ m) (right : operand_nodes y ≤ n) (within : held known ≤ h) where
  binary_met : (op : BinOp) → Met (IsTerm h (m + n + 3)) (binary op x y known)
  binary_met op = met_wanted _ kind.Operand x.start (operation_of known op (side_of x) (side_of y)) known _ (λ found is. met_given _ _ _ (record {
    form_light = omega (arith, node_value found.node op (converted x found.left) (converted y found.right) found x.start, converted_nodes x found.left, converted_nodes y found.right);
    listed_light = omega arith;
    within = within;
  }))

  logical_met : (op : LogicalOp) → Met (IsTerm h (m + n + 3)) (logical op x y known)
  unfolding nodes_in nodes_of_all nodes_at
  logical_met op = met_tried _ ((not (is_scalar (type_of x.value) && is_scalar (type_of y.value)), kind.Operand) ∷ []) x.start known _ (met_given _ _ _ (value_is h (m + n + 3) (typed.Logical op x.value y.value x.start) x.start known (omega arith) within))

  comma_met : Met (IsTerm h (m + n + 3)) (comma x y known)
  unfolding nodes_in nodes_of_all nodes_at
  comma_met = met_given _ _ _ (value_is h (m + n + 3) (typed.Comma x.value y.value (type_of y.value) x.start) x.start known (omega arith) within)

  between_by_met : (found : Option BinOp) → Met (IsTerm h (m + n + 3)) (between_by found x y known)
  between_by_met None = met_broken _ _
  between_by_met (Some op) = binary_met op

  pub between_met : (sign : TokKind) → Met (IsTerm h (m + n + 3)) (between sign x y known)
  between_met (kinds.Punct marks.And) = logical_met _
  between_met (kinds.Punct marks.Or) = logical_met _
  between_met (kinds.Punct marks.Comma) = comma_met
  between_met (kinds.Punct p) = between_by_met (binary_of p)
  between_met _ = met_broken _ _

  choice_nodes : (c : Operand) (ty : Ty) (line : ℕ) → nodes_in (typed.Conditional c.value (converted x ty) (converted y ty) ty line) ≤ 1 + (nodes_in c.value + (m + n))
  unfolding nodes_in nodes_of_all nodes_at
  choice_nodes c ty line = omega (arith, converted_nodes x ty, converted_nodes y ty)

  pub choice_met : (l : ℕ) (c : Operand) → operand_nodes c ≤ l → Met (IsTerm h (l + m + n + 3)) (choice c x y known)
  choice_met l c light = met_tried _ ((not (is_scalar (type_of c.value)), kind.Operand) ∷ []) c.start known _
      (met_wanted _ kind.Operand c.start (choice_type known (side_of x) (side_of y) (type_of x.value) (type_of y.value)) known _
      (λ ty is. met_given _ _ _ (value_is h (l + m + n + 3) (typed.Conditional c.value (converted x ty) (converted y ty) ty c.start) c.start known (omega (arith, choice_nodes c ty c.start)) within)))

module _ (h n : ℕ) (x : Operand) (known : Known) (light : operand_nodes x ≤ n) (within : held known ≤ h) where
  pub cast_met : (ty : Ty) (line : ℕ) → Met (IsTerm h (n + 2)) (cast ty x line known)
  unfolding nodes_in nodes_of_all nodes_at
  cast_met ty line = let form : nodes_in (typed.Cast x.value ty line) + 2 ≤ n + 2 = omega arith in
      met_tried _ ((not (may_be_cast (side_of x) ty), kind.Operand) ∷ []) line known _ (met_given _ _ _ (record { form_light = form; listed_light = omega arith; within = within }))

  unary_nodes : (op : UnOp) (ty : Ty) (line : ℕ) → nodes_in (typed.Unary op (converted x ty) ty line) ≤ 1 + n
  unfolding nodes_in nodes_of_all nodes_at
  unary_nodes op ty line = omega (arith, converted_nodes x ty)

  pub arithmetic_met : (op : UnOp) (line : ℕ) → Met (IsTerm h (n + 3)) (arithmetic op x line known)
  arithmetic_met op line = met_tried _ ((not (is_int (type_of x.value)), kind.Operand) ∷ []) line known _ (met_given _ _ _ (value_is h (n + 3) (typed.Unary op (converted x (promoted_type (type_of x.value))) (promoted_type (type_of x.value)) line) line known (omega (arith, unary_nodes op (promoted_type (type_of x.value)) line)) within))

  pub negation_met : (line : ℕ) → Met (IsTerm h (n + 3)) (negation x line known)
  unfolding nodes_in nodes_of_all nodes_at
  negation_met line = met_tried _ ((not (is_scalar (type_of x.value)), kind.Operand) ∷ []) line known _ (met_given _ _ _ (value_is h (n + 3) (typed.Unary unop.Bang x.value plain_int line) line known (omega arith) within))
