-- Values that are assigned, and operators in place.
use Rattle.std.proofs.Common.{◌≡◌, ℕ, Bool, true, false, not, ◌&&◌, ◌||◌, if◌then◌else◌, List, Some, None, nat_eq, ◌⊎◌, inl, inr, refl, sym, ap, subst, true≢false}
use Rattle.std.specs.Prelude.{slice_get}
use Rattle.std.proofs.lemmas.Bool.{and_from, or_left, or_right, false≢true}
use Rattle.std.proofs.lemmas.Option.{same_Some}
use Rattle.c_ints.specs.Conversions.{promoted, common}
use Rattle.c_ints.specs.Operators.{compares}
use Rattle.c_ints.specs.declared.operators.BinOp.{BinOp}
use Rattle.c_ints.specs.declared.operators.BinOp.TheVariants as binop
use Rattle.c_ints.specs.declared.types.IntTy.{IntTy}
use Rattle.c_typed.specs.Fits.{is_null, Used}
use Rattle.c_typed.specs.Rules.{moves, moves_by, integer_update_fits}
use Rattle.c_typed.specs.Sameness.{same_int, same_type}
use Rattle.c_typed.specs.Trees.{Program}
use Rattle.c_typed.specs.Types.{type_of}
use Rattle.c_typed.specs.declared.types.Qualified.{Qualified}
use Rattle.c_typed.specs.declared.types.Ty.{Ty}
use Rattle.c_typed.specs.declared.types.Ty.TheVariants.{Int, Pointer}
use Rattle.type_rules.specs.Conversions.{may_be_assigned, assigned}
use Rattle.type_rules.specs.Faults as kind
use Rattle.type_rules.specs.Known.{Known}
use Rattle.type_rules.specs.Operations.{Difference, Operation, on_integers, index_type, element_bytes, equates, equality, on_pointers, point_alike, difference, on_one, plain_int, pointer_and_integer, integer_and_pointer, operation_on, counts_in}
use Rattle.type_rules.specs.Terms.{Operand, side_of}
use Rattle.type_rules.specs.Writes.{keeps_type}
use Rattle.typed_laws.specs.Going.{Goes}
use Rattle.typed_laws.specs.Tables.{at, Stands, Orderly, Begins}
use Rattle.typed_laws.specs.Terms.{IsAssigned, IsOperand}
use Rattle.typed_laws.proofs.Lists.{none_is}
use Rattle.typed_laws.proofs.Meeting.{assigned_becomes, becomes_fits, converted_type}
use Rattle.typed_laws.proofs.Operating.{chosen, moved_is, moves_rule, only_moves, only_adds, only_differs}
use Rattle.typed_laws.proofs.Operators.{not_false}
use Rattle.typed_laws.proofs.Same.{same_nat_refl, same_int_refl, promoted_again, common_again}
use Rattle.typed_laws.proofs.Steps.{goes_given, goes_test}

module _ (known : Known) (ts : List Qualified) (o : Orderly (at known ts)) where
  pub assigned_goes : (x : Operand) (ty : Ty) (line : ℕ) → IsOperand (at known ts) Used x → Stands (at known ts) ty → Goes known ts (λ us e. IsAssigned (at known us) ty e) (assigned x ty line (at known ts))
  assigned_goes x ty line hx stands = goes_test known _ ts (not (may_be_assigned (at known ts) (side_of x) ty)) kind.Convert line _
      (λ h. goes_given known _ _ ts o (record {
        type = converted_type x ty;
        fitting = λ p f l. becomes_fits p f x ty hx.plain
            (assigned_becomes (at known ts) p l.begins (type_of x.value) ty x.null (is_null x.value) hx.null hx.stands stands (not_false (may_be_assigned (at known ts) (side_of x) ty) h)) (hx.fitting p f l);
      }))

-- ---- an operator in place

unfoldable pub Updates : Program → BinOp → Ty → Operation → Type 0
Updates p op a found = ((nat_eq found.size 0 && integer_update_fits op a found.right found.left) || (moves_by op && (same_type found.left a && moves p a found.right found.size a))) ≡ true

shift_in : (p : Program) (a b : IntTy) (m : Bool) → ((same_int (promoted a) (promoted a) && same_int (promoted (promoted b)) (promoted b)) || m) ≡ true
shift_in p a b m = or_left (same_int (promoted a) (promoted a) && same_int (promoted (promoted b)) (promoted b)) m (and_from (same_int (promoted a) (promoted a)) (same_int (promoted (promoted b)) (promoted b)) (same_int_refl (promoted a)) (promoted_again b))

count_in : (p : Program) (a b : IntTy) (m : Bool) → ((same_int (common a b) (common a b) && same_int (common a b) (common a (common a b))) || m) ≡ true
count_in p a b m = or_left (same_int (common a b) (common a b) && same_int (common a b) (common a (common a b))) m (and_from (same_int (common a b) (common a b)) (same_int (common a b) (common a (common a b))) (same_int_refl (common a b)) (common_again a b))

ints_update : (p : Program) (op : BinOp) (a b : IntTy) → compares op ≡ false → Updates p op (Int a) (on_integers op a b)
unfolding Updates
ints_update p binop.Mul a b h = count_in p a b _
ints_update p binop.Div a b h = count_in p a b _
ints_update p binop.Rem a b h = count_in p a b _
ints_update p binop.Add a b h = count_in p a b _
ints_update p binop.Sub a b h = count_in p a b _
ints_update p binop.Shl a b h = shift_in p a b _
ints_update p binop.Shr a b h = shift_in p a b _
ints_update p binop.And a b h = count_in p a b _
ints_update p binop.Xor a b h = count_in p a b _
ints_update p binop.Or a b h = count_in p a b _
ints_update p binop.Lt a b h = absurd (true≢false h)
ints_update p binop.Gt a b h = absurd (true≢false h)
ints_update p binop.Le a b h = absurd (true≢false h)
ints_update p binop.Ge a b h = absurd (true≢false h)
ints_update p binop.Eq a b h = absurd (true≢false h)
ints_update p binop.Ne a b h = absurd (true≢false h)

equates_not : (op : BinOp) → compares op ≡ false → equates op ≡ false
equates_not binop.Eq h = absurd (true≢false h)
equates_not binop.Ne h = absurd (true≢false h)
equates_not binop.Mul h = refl
equates_not binop.Div h = refl
equates_not binop.Rem h = refl
equates_not binop.Add h = refl
equates_not binop.Sub h = refl
equates_not binop.Shl h = refl
equates_not binop.Shr h = refl
equates_not binop.Lt h = refl
equates_not binop.Gt h = refl
equates_not binop.Le h = refl
equates_not binop.Ge h = refl
equates_not binop.And h = refl
equates_not binop.Xor h = refl
equates_not binop.Or h = refl

otherwise : {A : Type 0} (c : Bool) (x y r : A) → c ≡ false → (if c then x else y) ≡ r → y ≡ r
otherwise true x y r e h = absurd (true≢false e)
otherwise false x y r e h = h

no_and : (c d : Bool) → c ≡ false → (c && d) ≡ false
no_and true d e = absurd (true≢false e)
no_and false d e = refl

module _ (known : Known) (p : Program) (o : Orderly known) (begins : Begins known p) where
  moves_updates : (op : BinOp) (row : ℕ) (q : Qualified) (b : IntTy) (found : Operation) → slice_get known.targets row ≡ Some q → pointer_and_integer known op row b ≡ Some found → Updates p op (Pointer row) found
  unfolding Updates
  moves_updates op row q b found there h =
      let only = only_moves known op row b found h in
      let is = moved_is known row (Pointer row) (index_type b) found only.0 in
      subst (λ z. ((nat_eq z.size 0 && integer_update_fits op (Pointer row) z.right z.left) || (moves_by op && (same_type z.left (Pointer row) && moves p (Pointer row) z.right z.size (Pointer row)))) ≡ true) is.1
      (or_right (nat_eq (element_bytes known row) 0 && false) (moves_by op && (nat_eq row row && moves p (Pointer row) (index_type b) (element_bytes known row) (Pointer row)))
      (and_from (moves_by op) (nat_eq row row && moves p (Pointer row) (index_type b) (element_bytes known row) (Pointer row)) (by_op op only.1)
      (and_from (nat_eq row row) (moves p (Pointer row) (index_type b) (element_bytes known row) (Pointer row)) (same_nat_refl row) (moves_rule known p o begins row q b there is.0))))
    where
      by_op : (op : BinOp) → (op ≡ binop.Add) ⊎ (op ≡ binop.Sub) → moves_by op ≡ true
      by_op op (inl e) = ap moves_by e
      by_op op (inr e) = ap moves_by e

  pub compound_fits : (op : BinOp) → compares op ≡ false → (zm : Bool) (a b : Ty) (found : Operation) → Stands known a → operation_on known op false zm a b ≡ Some found → keeps_type found.node a found.ty ≡ true → Updates p op a found
  unfolding Updates
  compound_fits op c zm (Int a) (Int b) found sa h k =
      subst (λ z. ((nat_eq z.size 0 && integer_update_fits op (Int a) z.right z.left) || (moves_by op && (same_type z.left (Int a) && moves p (Int a) z.right z.size (Int a)))) ≡ true) (same_Some (on_integers op a b) found h) (ints_update p op a b c)
  compound_fits op c zm (Int a) (Pointer b) found sa h k =
      let rest = otherwise (equates op && false) (Some (on_one (Pointer b) (Pointer b) plain_int)) (integer_and_pointer known op a b) (Some found) (no_and (equates op) false (equates_not op c)) h in
      let is = moved_is known b (index_type a) (Pointer b) found (only_adds known op b a found rest).0 in
      absurd (false≢true (subst (λ (z : Operation). keeps_type z.node (Int a) z.ty ≡ true) (sym is.1) k))
  compound_fits op c zm (Pointer a) (Int b) found sa h k =
      moves_updates op a sa.0 b found sa.1 (otherwise (equates op && zm) (Some (on_one (Pointer a) (Pointer a) plain_int)) (pointer_and_integer known op a b) (Some found) (no_and (equates op) zm (equates_not op c)) h)
  compound_fits op c zm (Pointer a) (Pointer b) found sa h k =
      by_cases (only_differs known op a b found (otherwise (equates op) (equality known a false b zm) (on_pointers known op a b) (Some found) (equates_not op c) h))
    where
      by_cases : (difference known a b ≡ Some found) ⊎ ((if compares op && point_alike known a b then Some (on_one (Pointer a) (Pointer b) plain_int) else None) ≡ Some found) → Updates p op (Pointer a) found
      by_cases (inl g) = no_difference (chosen (point_alike known a b && counts_in known a) (Some (record { node = Difference; left = Pointer a; right = Pointer b; ty = plain_int; size = element_bytes known a })) None (Some found) g)
        where
          no_difference : (((point_alike known a b && counts_in known a) ≡ true) × (Some (record { node = Difference; left = Pointer a; right = Pointer b; ty = plain_int; size = element_bytes known a }) ≡ Some found)) ⊎ (((point_alike known a b && counts_in known a) ≡ false) × (None ≡ Some found)) → Updates p op (Pointer a) found
          no_difference (inl g) = absurd (false≢true (subst (λ (z : Operation). keeps_type z.node (Pointer a) z.ty ≡ true) (sym (same_Some _ _ g.1)) k))
          no_difference (inr g) = absurd (none_is g.1)
      by_cases (inr g) = absurd (none_is (otherwise (compares op && point_alike known a b) (Some (on_one (Pointer a) (Pointer b) plain_int)) None (Some found) (no_and (compares op) (point_alike known a b) c) g))
  compound_fits op c zm _ _ found sa h k = absurd (none_is h)
