-- Operands within a constant have the types of their operator, as the typing rules say: so folding converts nothing.
use Rattle.c_ints.proofs.Cut.{same as unchanged}
use Rattle.c_ints.specs.Conversions.{promoted}
use Rattle.c_ints.specs.Operators.{compares, cut_to, outcome, shifts}
use Rattle.c_ints.specs.Quantity.{Quantity}
use Rattle.c_ints.specs.Range.{IsInRange}
use Rattle.c_ints.specs.declared.operators.BinOp.{BinOp}
use Rattle.c_ints.specs.declared.types.IntTy.{IntTy}
use Rattle.c_typed.specs.Folding.{applied, right_type}
use Rattle.c_typed.specs.Rules.{integers_fit}
use Rattle.c_typed.specs.Sameness.{is_plain_int, is_promoted, same_int, same_type}
use Rattle.c_typed.specs.declared.types.Ty.TheVariants as types
use Rattle.c_typed.specs.declared.types.Ty.{Ty}
use Rattle.lower_trace.proofs.Written.{and_left, and_right}
use Rattle.src_rules.proofs.Values.{same_int_is}
use Rattle.std.proofs.Common.{Bool, ap, false, if◌then◌else◌, refl, true, ◌&&◌, ◌∙◌, ◌≡◌}

cut_same : (u : Quantity) (t : IntTy) → t ≡ u.ty → IsInRange u.ty u.number → cut_to t u.number ≡ u
cut_same u t e r = ap (λ x. cut_to x u.number) e ∙ ap (λ i. record { ty = u.ty; number = i }) (unchanged u.ty u.number r)

fits_case : (shifted : Bool) (op : BinOp) (u q : Quantity) (rest first : Bool) → shifts op ≡ shifted → IsInRange u.ty u.number → IsInRange q.ty q.number
    → (if shifted then is_promoted (types.Int u.ty) && (is_promoted (types.Int q.ty) && rest) else is_promoted (types.Int u.ty) && (same_type (types.Int u.ty) (types.Int q.ty) && first)) ≡ true → applied op u q ≡ outcome op u q
fits_case true op u q rest first is ur qr h =
    let left = same_int_is (promoted u.ty) u.ty (and_left (same_int (promoted u.ty) u.ty) (same_int (promoted q.ty) q.ty && rest) h) in
    let right = same_int_is (promoted q.ty) q.ty (and_left (same_int (promoted q.ty) q.ty) rest (and_right (same_int (promoted u.ty) u.ty) (same_int (promoted q.ty) q.ty && rest) h)) in
    ap (λ x. outcome op x (cut_to (right_type (shifts op) u.ty q.ty) q.number)) (cut_same u (promoted u.ty) left ur)
    ∙ ap (λ b. outcome op u (cut_to (right_type b u.ty q.ty) q.number)) is
    ∙ ap (outcome op u) (cut_same q (promoted q.ty) right qr)
fits_case false op u q rest first is ur qr h =
    let left = same_int_is (promoted u.ty) u.ty (and_left (same_int (promoted u.ty) u.ty) (same_int u.ty q.ty && first) h) in
    let one = same_int_is u.ty q.ty (and_left (same_int u.ty q.ty) first (and_right (same_int (promoted u.ty) u.ty) (same_int u.ty q.ty && first) h)) in
    ap (λ x. outcome op x (cut_to (right_type (shifts op) u.ty q.ty) q.number)) (cut_same u (promoted u.ty) left ur)
    ∙ ap (λ b. outcome op u (cut_to (right_type b u.ty q.ty) q.number)) is
    ∙ ap (outcome op u) (cut_same q (promoted u.ty) (left ∙ one) qr)

-- the operands of an operator on integers, where its rule holds
pub operands_plain : (op : BinOp) (u q : Quantity) (ty : Ty) → integers_fit op (types.Int u.ty) (types.Int q.ty) ty ≡ true → IsInRange u.ty u.number → IsInRange q.ty q.number → applied op u q ≡ outcome op u q
operands_plain op u q ty h ur qr = fits_case (shifts op) op u q (same_type (types.Int u.ty) ty) (if compares op then is_plain_int ty else same_type (types.Int u.ty) ty) refl ur qr h
