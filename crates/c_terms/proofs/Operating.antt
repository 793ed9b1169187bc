-- What operators do with operands, by the tests that the code makes.
use Rattle.std.proofs.Common.{◌≡◌, ℕ, Bool, true, false, ◌&&◌, ◌||◌, if◌then◌else◌, Option, Some, None, Ok, ◌⊎◌, inl, inr, refl, sym, ap, ◌∙◌}
use Rattle.c_ints.specs.Operators.{compares}
use Rattle.c_ints.specs.declared.operators.BinOp.{BinOp}
use Rattle.c_ints.specs.declared.operators.BinOp.TheVariants as binop
use Rattle.c_typed.specs.declared.types.Ty.{Ty}
use Rattle.c_typed.specs.declared.types.Ty.TheVariants.{Pointer}
use Rattle.c_typed.specs.declared.types.Qualified.{Qualified}
use Rattle.type_rules.specs.Conversions as conversions
use Rattle.type_rules.specs.Known.{Known, given}
use Rattle.type_rules.specs.Operations as rule
use Rattle.type_rules.specs.Operations.{Operation, Node, Plain, Moved, Difference}
use Rattle.type_rules.specs.Faults as kind
use Rattle.type_rules.specs.Rows.{target_of}
use Rattle.type_rules.specs.Operators as operators
use Rattle.type_rules.specs.Terms.{Side, Operand, Reach, side_of, first_into, value_term}
use Rattle.c_typed.specs.Trees.{Expression}
use Rattle.c_terms.specs.Terms.{reach_moved}
use Rattle.c_tables.proofs.Steps.{then_wanted_some}

pub if_true : {A : Type 0} (b : Bool) (x y : A) → b ≡ true → (if b then x else y) ≡ x
if_true true x y h = refl
if_true false x y h = cc

pub if_false : {A : Type 0} (b : Bool) (x y : A) → b ≡ false → (if b then x else y) ≡ y
if_false true x y h = cc
if_false false x y h = refl

pub and_false : (a b : Bool) → a ≡ false → a && b ≡ false
and_false true b h = cc
and_false false b h = refl

pub moved_is : (known : Known) (row : ℕ) (left right : Ty) (size : ℕ) → rule.counts_in known row ≡ true → size ≡ rule.element_bytes known row → Some (record { node = Moved; left = left; right = right; ty = Pointer row; size = size }) ≡ rule.moved known row left right
moved_is known row left right size counts e =
    ap (λ n. Some (record { node = Moved; left = left; right = right; ty = Pointer row; size = n })) e ∙ sym (if_true (rule.counts_in known row) _ _ counts)

pub not_moved : (known : Known) (row : ℕ) (left right : Ty) → rule.counts_in known row ≡ false → None ≡ rule.moved known row left right
not_moved known row left right h = sym (if_false (rule.counts_in known row) _ _ h)

abbrev pub difference_of : ℕ → ℕ → ℕ → Operation
difference_of a b size = record { node = Difference; left = Pointer a; right = Pointer b; ty = rule.plain_int; size = size }

differs : (a b : ℕ) (alike counts : Bool) (size : ℕ) → alike ≡ true → counts ≡ true → Some (difference_of a b size) ≡ (if alike && counts then Some (difference_of a b size) else None)
differs a b true true size h k = refl
differs a b true false size h k = cc
differs a b false counts size h k = cc

pub difference_is : (known : Known) (a b size : ℕ) → rule.point_alike known a b ≡ true → rule.counts_in known a ≡ true → size ≡ rule.element_bytes known a → Some (difference_of a b size) ≡ rule.difference known a b
difference_is known a b size alike counts e =
    ap (λ n. Some (difference_of a b n)) e ∙ differs a b (rule.point_alike known a b) (rule.counts_in known a) (rule.element_bytes known a) alike counts

pub no_difference : (known : Known) (a b : ℕ) → rule.point_alike known a b && rule.counts_in known a ≡ false → None ≡ rule.difference known a b
no_difference known a b h = sym (if_false (rule.point_alike known a b && rule.counts_in known a) _ _ h)

pub and_false_right : (a b : Bool) → b ≡ false → a && b ≡ false
and_false_right true b h = h
and_false_right false b h = refl

pub compared : (op : BinOp) → (op ≡ binop.Lt) ⊎ ((op ≡ binop.Gt) ⊎ ((op ≡ binop.Le) ⊎ ((op ≡ binop.Ge) ⊎ ((op ≡ binop.Eq) ⊎ (op ≡ binop.Ne))))) → compares op ≡ true
compared op (inl e) = ap compares e
compared op (inr (inl e)) = ap compares e
compared op (inr (inr (inl e))) = ap compares e
compared op (inr (inr (inr (inl e)))) = ap compares e
compared op (inr (inr (inr (inr (inl e))))) = ap compares e
compared op (inr (inr (inr (inr (inr e))))) = ap compares e

-- a comparison of pointers
pub ordered_is : (known : Known) (op : BinOp) (a b : ℕ) → compares op ≡ true → rule.on_pointers known op a b ≡ (if rule.point_alike known a b then Some (rule.on_one (Pointer a) (Pointer b) rule.plain_int) else None)
ordered_is known binop.Lt a b h = refl
ordered_is known binop.Gt a b h = refl
ordered_is known binop.Le a b h = refl
ordered_is known binop.Ge a b h = refl
ordered_is known binop.Eq a b h = refl
ordered_is known binop.Ne a b h = refl
ordered_is known _ a b h = cc

pub operation_equal : (known : Known) (op : BinOp) (a_null b_null : Bool) (a b : ℕ) (ty : Ty) → ty ≡ Pointer b → rule.equates op ≡ true → rule.equality known a a_null b b_null ≡ rule.operation_on known op a_null b_null (Pointer a) ty
operation_equal known op a_null b_null a b ty e h =
    sym (if_true (rule.equates op) (rule.equality known a a_null b b_null) (rule.on_pointers known op a b) h) ∙ ap (rule.operation_on known op a_null b_null (Pointer a)) (sym e)

pub becomes_is : (known : Known) (from : Side) (row : ℕ) (ty : Ty) (to : Qualified) → ty ≡ Pointer row → from.null ≡ false → conversions.may_become (target_of known row) to ≡ conversions.becomes_pointer known from ty to
becomes_is known from row ty to e null =
    sym (ap (λ b. b || conversions.may_become (target_of known row) to) null) ∙ ap (λ t. conversions.becomes_pointer known from t to) (sym e)

-- ---- the term of an operator

moved_into : (node : Node) (x y : Operand) (into reach : Option Reach) → into ≡ first_into x.into y.into → reach ≡ reach_moved node into → operators.into_behind node x y ≡ reach
moved_into Plain x y into reach e h = sym h
moved_into Moved x y into reach e h = sym (h ∙ e)
moved_into Difference x y into reach e h = sym h

value_is : (op : BinOp) (x y : Operand) (found : Operation) (left right value : Expression) → left ≡ conversions.converted x found.left → right ≡ conversions.converted y found.right → value ≡ operators.binary_value found.node op left right found x.start → operators.binary_value found.node op (conversions.converted x found.left) (conversions.converted y found.right) found x.start ≡ value
value_is op x y found left right value l r v =
    sym (v ∙ (ap (λ e. operators.binary_value found.node op e right found x.start) l ∙ ap (λ e. operators.binary_value found.node op (conversions.converted x found.left) e found x.start) r))

pub binary_is : (known : Known) (op : BinOp) (x y : Operand) (found : Operation) (left right value : Expression) (into reach : Option Reach) → rule.operation_of known op (side_of x) (side_of y) ≡ Some found → left ≡ conversions.converted x found.left → right ≡ conversions.converted y found.right → value ≡ operators.binary_value found.node op left right found x.start → into ≡ first_into x.into y.into → reach ≡ reach_moved found.node into → operators.binary op x y known ≡ Ok (record (value_term value x.start) { into = reach }, known)
binary_is known op x y found left right value into reach asked l r v i m =
    then_wanted_some kind.Operand x.start (rule.operation_of known op (side_of x) (side_of y)) found (λ o. given (operators.binary_term op x y o)) known asked
    ∙ (ap (λ e. Ok (record (value_term e x.start) { into = operators.into_behind found.node x y }, known)) (value_is op x y found left right value l r v)
    ∙ ap (λ b. Ok (record (value_term value x.start) { into = b }, known)) (moved_into found.node x y into reach i m))
