-- Operators: what the rules make of two operands fits in each program that begins with the tables.
use Rattle.std.proofs.Common.{◌≡◌, ℕ, Bool, true, false, not, ◌&&◌, ◌||◌, if◌then◌else◌, Option, Some, None, nat_eq, ◌⊎◌, inl, inr, refl, sym, ap, ap₂, ◌∙◌, subst}
use Rattle.std.specs.Prelude.{slice_get}
use Rattle.std.proofs.lemmas.Bool.{and_parts, and_from, or_left, or_right, false≢true}
use Rattle.std.proofs.lemmas.Option.{same_Some}
use Rattle.c_ints.specs.Conversions.{promoted, common}
use Rattle.c_ints.specs.Operators.{compares}
use Rattle.c_ints.specs.declared.operators.BinOp.{BinOp}
use Rattle.c_ints.specs.declared.operators.BinOp.TheVariants as binop
use Rattle.c_ints.specs.declared.types.IntTy.{IntTy}
use Rattle.c_ints.specs.declared.types.IntTy.TheVariants as int
use Rattle.c_typed.specs.Rules.{binary_fits, moves, offset_fits}
use Rattle.c_typed.specs.Rules.{point_alike as alike, counts_in as counts}
use Rattle.c_typed.specs.Sameness.{same_int, same_type, is_void, is_index}
use Rattle.c_typed.specs.Sameness.{is_complete as is_whole}
use Rattle.c_typed.specs.Trees.{Program}
use Rattle.c_typed.specs.Types.{type_bytes}
use Rattle.c_typed.specs.declared.types.Qualified.{Qualified}
use Rattle.c_typed.specs.declared.types.Ty.{Ty}
use Rattle.c_typed.specs.declared.types.Ty.TheVariants.{Int, Pointer}
use Rattle.type_rules.specs.Known.{Known}
use Rattle.type_rules.specs.Operations.{Moved, Difference, Operation, plain_int, on_one, on_integers, index_type, counts_in, element_bytes, moved, pointer_and_integer, integer_and_pointer, point_alike, difference, equates, points_to_void, equality, on_pointers, operation_on}
use Rattle.type_rules.specs.Rows.{target_of, bytes_of, is_complete}
use Rattle.typed_laws.specs.Meets.{Meets, Gives, Operates}
use Rattle.typed_laws.specs.Tables.{Stands, Orderly, Begins}
use Rattle.typed_laws.proofs.Lists.{none_is}
use Rattle.typed_laws.proofs.Meeting.{target_is, meets_as_null, meets_by, meets_itself, whole_in}
use Rattle.typed_laws.proofs.Same.{same_type_refl, same_nat_refl, same_int_refl, promoted_again, common_promoted, each_int}

-- a choice that was made
pub chosen : {A : Type 0} (c : Bool) (x y r : A) → (if c then x else y) ≡ r → ((c ≡ true) × (x ≡ r)) ⊎ ((c ≡ false) × (y ≡ r))
chosen true x y r h = inl (refl, h)
chosen false x y r h = inr (refl, h)

-- ---- on integers

shifted : (a b : IntTy) → (same_int (promoted (promoted a)) (promoted a) && (same_int (promoted (promoted b)) (promoted b) && same_int (promoted a) (promoted a))) ≡ true
shifted a b = rw (promoted_again a, promoted_again b, same_int_refl (promoted a)) refl

compared : (a b : IntTy) → (same_int (promoted (common a b)) (common a b) && (same_int (common a b) (common a b) && true)) ≡ true
compared a b = rw (common_promoted a b, same_int_refl (common a b)) refl

counted : (a b : IntTy) → (same_int (promoted (common a b)) (common a b) && (same_int (common a b) (common a b) && same_int (common a b) (common a b))) ≡ true
counted a b = rw (common_promoted a b, same_int_refl (common a b)) refl

on_ints : (p : Program) (n m : Bool) (a b : IntTy) (op : BinOp) → Operates p n m (Int a) (Int b) op (on_integers op a b)
on_ints p n m a b binop.Mul = record { left = refl; right = refl; rule = counted a b }
on_ints p n m a b binop.Div = record { left = refl; right = refl; rule = counted a b }
on_ints p n m a b binop.Rem = record { left = refl; right = refl; rule = counted a b }
on_ints p n m a b binop.Add = record { left = refl; right = refl; rule = counted a b }
on_ints p n m a b binop.Sub = record { left = refl; right = refl; rule = counted a b }
on_ints p n m a b binop.Shl = record { left = refl; right = refl; rule = shifted a b }
on_ints p n m a b binop.Shr = record { left = refl; right = refl; rule = shifted a b }
on_ints p n m a b binop.Lt = record { left = refl; right = refl; rule = compared a b }
on_ints p n m a b binop.Gt = record { left = refl; right = refl; rule = compared a b }
on_ints p n m a b binop.Le = record { left = refl; right = refl; rule = compared a b }
on_ints p n m a b binop.Ge = record { left = refl; right = refl; rule = compared a b }
on_ints p n m a b binop.Eq = record { left = refl; right = refl; rule = compared a b }
on_ints p n m a b binop.Ne = record { left = refl; right = refl; rule = compared a b }
on_ints p n m a b binop.And = record { left = refl; right = refl; rule = counted a b }
on_ints p n m a b binop.Xor = record { left = refl; right = refl; rule = counted a b }
on_ints p n m a b binop.Or = record { left = refl; right = refl; rule = counted a b }

gives_int : (known : Known) (a b : IntTy) (op : BinOp) → Gives known (on_integers op a b).node (Int a) (Int b) (on_integers op a b)
gives_int known a b binop.Mul = (common a b, refl)
gives_int known a b binop.Div = (common a b, refl)
gives_int known a b binop.Rem = (common a b, refl)
gives_int known a b binop.Add = (common a b, refl)
gives_int known a b binop.Sub = (common a b, refl)
gives_int known a b binop.Shl = (promoted a, refl)
gives_int known a b binop.Shr = (promoted a, refl)
gives_int known a b binop.Lt = (int.Int, refl)
gives_int known a b binop.Gt = (int.Int, refl)
gives_int known a b binop.Le = (int.Int, refl)
gives_int known a b binop.Ge = (int.Int, refl)
gives_int known a b binop.Eq = (int.Int, refl)
gives_int known a b binop.Ne = (int.Int, refl)
gives_int known a b binop.And = (common a b, refl)
gives_int known a b binop.Xor = (common a b, refl)
gives_int known a b binop.Or = (common a b, refl)

-- ---- an index

pub indexes : (b : IntTy) → is_index (index_type b) ≡ true
indexes = each_int (λ b. is_index (index_type b)) (refl, refl, refl, refl, refl, refl, refl, refl, refl)

equates_compares : (op : BinOp) → equates op ≡ true → compares op ≡ true
equates_compares binop.Mul h = absurd (false≢true h)
equates_compares binop.Div h = absurd (false≢true h)
equates_compares binop.Rem h = absurd (false≢true h)
equates_compares binop.Add h = absurd (false≢true h)
equates_compares binop.Sub h = absurd (false≢true h)
equates_compares binop.Shl h = absurd (false≢true h)
equates_compares binop.Shr h = absurd (false≢true h)
equates_compares binop.Lt h = refl
equates_compares binop.Gt h = refl
equates_compares binop.Le h = refl
equates_compares binop.Ge h = refl
equates_compares binop.Eq h = refl
equates_compares binop.Ne h = refl
equates_compares binop.And h = absurd (false≢true h)
equates_compares binop.Xor h = absurd (false≢true h)
equates_compares binop.Or h = absurd (false≢true h)

-- which operators move a pointer
pub only_moves : (known : Known) (op : BinOp) (row : ℕ) (b : IntTy) (found : Operation) → pointer_and_integer known op row b ≡ Some found
    → (moved known row (Pointer row) (index_type b) ≡ Some found) × ((op ≡ binop.Add) ⊎ (op ≡ binop.Sub))
only_moves known binop.Mul row b found h = absurd (none_is h)
only_moves known binop.Div row b found h = absurd (none_is h)
only_moves known binop.Rem row b found h = absurd (none_is h)
only_moves known binop.Add row b found h = (h, inl refl)
only_moves known binop.Sub row b found h = (h, inr refl)
only_moves known binop.Shl row b found h = absurd (none_is h)
only_moves known binop.Shr row b found h = absurd (none_is h)
only_moves known binop.Lt row b found h = absurd (none_is h)
only_moves known binop.Gt row b found h = absurd (none_is h)
only_moves known binop.Le row b found h = absurd (none_is h)
only_moves known binop.Ge row b found h = absurd (none_is h)
only_moves known binop.Eq row b found h = absurd (none_is h)
only_moves known binop.Ne row b found h = absurd (none_is h)
only_moves known binop.And row b found h = absurd (none_is h)
only_moves known binop.Xor row b found h = absurd (none_is h)
only_moves known binop.Or row b found h = absurd (none_is h)

pub only_adds : (known : Known) (op : BinOp) (row : ℕ) (a : IntTy) (found : Operation) → integer_and_pointer known op a row ≡ Some found
    → (moved known row (index_type a) (Pointer row) ≡ Some found) × (op ≡ binop.Add)
only_adds known binop.Mul row a found h = absurd (none_is h)
only_adds known binop.Div row a found h = absurd (none_is h)
only_adds known binop.Rem row a found h = absurd (none_is h)
only_adds known binop.Add row a found h = (h, refl)
only_adds known binop.Sub row a found h = absurd (none_is h)
only_adds known binop.Shl row a found h = absurd (none_is h)
only_adds known binop.Shr row a found h = absurd (none_is h)
only_adds known binop.Lt row a found h = absurd (none_is h)
only_adds known binop.Gt row a found h = absurd (none_is h)
only_adds known binop.Le row a found h = absurd (none_is h)
only_adds known binop.Ge row a found h = absurd (none_is h)
only_adds known binop.Eq row a found h = absurd (none_is h)
only_adds known binop.Ne row a found h = absurd (none_is h)
only_adds known binop.And row a found h = absurd (none_is h)
only_adds known binop.Xor row a found h = absurd (none_is h)
only_adds known binop.Or row a found h = absurd (none_is h)

pub only_differs : (known : Known) (op : BinOp) (a b : ℕ) (found : Operation) → on_pointers known op a b ≡ Some found
    → (difference known a b ≡ Some found) ⊎ ((if compares op && point_alike known a b then Some (on_one (Pointer a) (Pointer b) plain_int) else None) ≡ Some found)
only_differs known binop.Mul a b found h = inr h
only_differs known binop.Div a b found h = inr h
only_differs known binop.Rem a b found h = inr h
only_differs known binop.Add a b found h = inr h
only_differs known binop.Sub a b found h = inl h
only_differs known binop.Shl a b found h = inr h
only_differs known binop.Shr a b found h = inr h
only_differs known binop.Lt a b found h = inr h
only_differs known binop.Gt a b found h = inr h
only_differs known binop.Le a b found h = inr h
only_differs known binop.Ge a b found h = inr h
only_differs known binop.Eq a b found h = inr h
only_differs known binop.Ne a b found h = inr h
only_differs known binop.And a b found h = inr h
only_differs known binop.Xor a b found h = inr h
only_differs known binop.Or a b found h = inr h

-- the question that was answered, and what it gave
pub moved_is : (known : Known) (row : ℕ) (left right : Ty) (found : Operation) → moved known row left right ≡ Some found
    → (counts_in known row ≡ true) × (record { node = Moved; left = left; right = right; ty = Pointer row; size = element_bytes known row } ≡ found)
moved_is known row left right found h = by_cases (chosen (counts_in known row) (Some (record { node = Moved; left = left; right = right; ty = Pointer row; size = element_bytes known row })) None (Some found) h)
  where
    by_cases : ((counts_in known row ≡ true) × (Some (record { node = Moved; left = left; right = right; ty = Pointer row; size = element_bytes known row }) ≡ Some found)) ⊎ ((counts_in known row ≡ false) × (None ≡ Some found))
        → (counts_in known row ≡ true) × (record { node = Moved; left = left; right = right; ty = Pointer row; size = element_bytes known row } ≡ found)
    by_cases (inl g) = (g.0, same_Some _ _ g.1)
    by_cases (inr g) = absurd (none_is g.1)

-- ---- what an operator gives

plain_gives : (known : Known) (a b l r : Ty) (found : Operation) → Some (on_one l r plain_int) ≡ Some found → Gives known found.node a b found
plain_gives known a b l r found h = subst (λ z. Gives known z.node a b z) (same_Some (on_one l r plain_int) found h) (int.Int, refl)

plain_or : (known : Known) (a b l r : Ty) (found : Operation) (c : Bool) (rest : Option Operation) → (rest ≡ Some found → Gives known found.node a b found) → (if c then Some (on_one l r plain_int) else rest) ≡ Some found → Gives known found.node a b found
plain_or known a b l r found true rest others h = plain_gives known a b l r found h
plain_or known a b l r found false rest others h = others h

difference_gives : (known : Known) (a b : ℕ) (found : Operation) → difference known a b ≡ Some found → Gives known found.node (Pointer a) (Pointer b) found
difference_gives known a b found h = by_cases (chosen (point_alike known a b && counts_in known a) (Some (record { node = Difference; left = Pointer a; right = Pointer b; ty = plain_int; size = element_bytes known a })) None (Some found) h)
  where
    by_cases : (((point_alike known a b && counts_in known a) ≡ true) × (Some (record { node = Difference; left = Pointer a; right = Pointer b; ty = plain_int; size = element_bytes known a }) ≡ Some found)) ⊎ (((point_alike known a b && counts_in known a) ≡ false) × (None ≡ Some found)) → Gives known found.node (Pointer a) (Pointer b) found
    by_cases (inl g) = subst (λ z. Gives known z.node (Pointer a) (Pointer b) z) (same_Some _ _ g.1) refl
    by_cases (inr g) = absurd (none_is g.1)

pointers_give : (known : Known) (op : BinOp) (zn zm : Bool) (a b : ℕ) (found : Operation) → operation_on known op zn zm (Pointer a) (Pointer b) ≡ Some found → Gives known found.node (Pointer a) (Pointer b) found
pointers_give known op zn zm a b found h = by_cases (chosen (equates op) (equality known a zn b zm) (on_pointers known op a b) (Some found) h)
  where
    others : (difference known a b ≡ Some found) ⊎ ((if compares op && point_alike known a b then Some (on_one (Pointer a) (Pointer b) plain_int) else None) ≡ Some found) → Gives known found.node (Pointer a) (Pointer b) found
    others (inl g) = difference_gives known a b found g
    others (inr g) = plain_or known (Pointer a) (Pointer b) (Pointer a) (Pointer b) found (compares op && point_alike known a b) None (λ e. absurd (none_is e)) g

    by_cases : ((equates op ≡ true) × (equality known a zn b zm ≡ Some found)) ⊎ ((equates op ≡ false) × (on_pointers known op a b ≡ Some found)) → Gives known found.node (Pointer a) (Pointer b) found
    by_cases (inl g) = plain_or known (Pointer a) (Pointer b) (Pointer a) (Pointer b) found (point_alike known a b) _
        (plain_or known (Pointer a) (Pointer b) (Pointer a) (Pointer a) found (points_to_void known a || (zm && not (points_to_void known b))) _
        (plain_or known (Pointer a) (Pointer b) (Pointer b) (Pointer b) found (points_to_void known b || zn) None (λ e. absurd (none_is e)))) g.1
    by_cases (inr g) = others (only_differs known op a b found g.1)

pub gives : (known : Known) (op : BinOp) (zn zm : Bool) (a b : Ty) (found : Operation) → operation_on known op zn zm a b ≡ Some found → Gives known found.node a b found
gives known op zn zm (Int a) (Int b) found h = subst (λ x. Gives known x.node (Int a) (Int b) x) (same_Some (on_integers op a b) found h) (gives_int known a b op)
gives known op zn zm (Int a) (Pointer b) found h = plain_or known (Int a) (Pointer b) (Pointer b) (Pointer b) found (equates op && zn) (integer_and_pointer known op a b)
    (λ g. let is = moved_is known b (index_type a) (Pointer b) found (only_adds known op b a found g).0 in subst (λ z. Gives known z.node (Int a) (Pointer b) z) is.1 (inr (b, a, refl, refl, refl, refl, is.0))) h
gives known op zn zm (Pointer a) (Int b) found h = plain_or known (Pointer a) (Int b) (Pointer a) (Pointer a) found (equates op && zm) (pointer_and_integer known op a b)
    (λ g. let is = moved_is known a (Pointer a) (index_type b) found (only_moves known op a b found g).0 in subst (λ z. Gives known z.node (Pointer a) (Int b) z) is.1 (inl (a, b, refl, refl, refl, refl, is.0))) h
gives known op zn zm (Pointer a) (Pointer b) found h = pointers_give known op zn zm a b found h
gives known op zn zm _ _ found h = absurd (none_is h)

module _ (known : Known) (p : Program) (o : Orderly known) (begins : Begins known p) where
  -- a comparison of pointers to types that are alike
  compares_rule : (op : BinOp) (a b : ℕ) (q r : Qualified) → slice_get p.targets a ≡ Some q → slice_get p.targets b ≡ Some r → compares op ≡ true → same_type q.ty r.ty ≡ true
      → binary_fits p op (Pointer a) (Pointer b) plain_int ≡ true
  compares_rule op a b q r qa rb c h = and_from (compares op) (alike (slice_get p.targets a) (slice_get p.targets b) && true) c (and_from (alike (slice_get p.targets a) (slice_get p.targets b)) true (ap₂ alike qa rb ∙ h) refl)

  compares_itself : (op : BinOp) (a : ℕ) (q : Qualified) → slice_get p.targets a ≡ Some q → compares op ≡ true → binary_fits p op (Pointer a) (Pointer a) plain_int ≡ true
  compares_itself op a q qa c = compares_rule op a a q q qa qa c (same_type_refl q.ty)

  -- what is pointed to is counted in
  pub counts_rule : (row : ℕ) (q : Qualified) → slice_get known.targets row ≡ Some q → counts_in known row ≡ true → counts p (slice_get p.targets row) (element_bytes known row) ≡ true
  counts_rule row q there h =
      let target : target_of known row ≡ q = target_is known row q there in
      let both = whole_in known p begins o q.ty (o.rows row q there) (subst (λ z. is_complete known z.ty ≡ true) target h) in
      let bytes : nat_eq (element_bytes known row) (type_bytes p.sizes q.ty) ≡ true = ap (λ n. nat_eq n (type_bytes p.sizes q.ty)) (ap (λ z. bytes_of known z.ty) target ∙ sym both.1) ∙ same_nat_refl (type_bytes p.sizes q.ty) in
      ap (λ t. counts p t (element_bytes known row)) (begins.rows row q there) ∙ and_from (is_whole p q.ty) (nat_eq (element_bytes known row) (type_bytes p.sizes q.ty)) both.0 bytes

  pub moves_rule : (row : ℕ) (q : Qualified) (b : IntTy) → slice_get known.targets row ≡ Some q → counts_in known row ≡ true
      → moves p (Pointer row) (index_type b) (element_bytes known row) (Pointer row) ≡ true
  moves_rule row q b there h = and_from (is_index (index_type b)) (counts p (slice_get p.targets row) (element_bytes known row) && nat_eq row row) (indexes b)
      (and_from (counts p (slice_get p.targets row) (element_bytes known row)) (nat_eq row row) (counts_rule row q there h) (same_nat_refl row))

  -- a pointer and an integer
  with_integer : (n m : Bool) (op : BinOp) (row : ℕ) (q : Qualified) (b : IntTy) → slice_get known.targets row ≡ Some q → counts_in known row ≡ true → (op ≡ binop.Add) ⊎ (op ≡ binop.Sub)
      → Operates p n m (Pointer row) (Int b) op (record { node = Moved; left = Pointer row; right = index_type b; ty = Pointer row; size = element_bytes known row })
  with_integer n m op row q b there h which = record { left = meets_itself p n row q (begins.rows row q there); right = refl; rule = rule which }
    where
      rule : (op ≡ binop.Add) ⊎ (op ≡ binop.Sub) → offset_fits p op (Pointer row) (index_type b) (element_bytes known row) (Pointer row) ≡ true
      rule (inl add) = subst (λ x. offset_fits p x (Pointer row) (index_type b) (element_bytes known row) (Pointer row) ≡ true) (sym add)
          (or_left (moves p (Pointer row) (index_type b) (element_bytes known row) (Pointer row)) (moves p (index_type b) (Pointer row) (element_bytes known row) (Pointer row)) (moves_rule row q b there h))
      rule (inr sub) = subst (λ x. offset_fits p x (Pointer row) (index_type b) (element_bytes known row) (Pointer row) ≡ true) (sym sub) (moves_rule row q b there h)

  with_pointer : (n m : Bool) (op : BinOp) (row : ℕ) (q : Qualified) (a : IntTy) → slice_get known.targets row ≡ Some q → counts_in known row ≡ true → op ≡ binop.Add
      → Operates p n m (Int a) (Pointer row) op (record { node = Moved; left = index_type a; right = Pointer row; ty = Pointer row; size = element_bytes known row })
  with_pointer n m op row q a there h add = record {
    left = refl;
    right = meets_itself p m row q (begins.rows row q there);
    rule = subst (λ x. offset_fits p x (index_type a) (Pointer row) (element_bytes known row) (Pointer row) ≡ true) (sym add)
        (or_right (moves p (index_type a) (Pointer row) (element_bytes known row) (Pointer row)) (moves p (Pointer row) (index_type a) (element_bytes known row) (Pointer row)) (moves_rule row q a there h));
  }

  Both : Bool → Bool → Ty → Ty → BinOp → Operation → Type 0
  Both n m a b op found = Operates p n m a b op found

  -- a comparison in the type of one operand
  in_left : (n m : Bool) (op : BinOp) (a : ℕ) (q : Qualified) (b : Ty) → slice_get p.targets a ≡ Some q → compares op ≡ true → Meets p m b (Pointer a)
      → Both n m (Pointer a) b op (on_one (Pointer a) (Pointer a) plain_int)
  unfolding Both
  in_left n m op a q b there c meets = record { left = meets_itself p n a q there; right = meets; rule = compares_itself op a q there c }

  in_right : (n m : Bool) (op : BinOp) (a : Ty) (b : ℕ) (r : Qualified) → slice_get p.targets b ≡ Some r → compares op ≡ true → Meets p n a (Pointer b)
      → Both n m a (Pointer b) op (on_one (Pointer b) (Pointer b) plain_int)
  unfolding Both
  in_right n m op a b r there c meets = record { left = meets; right = meets_itself p m b r there; rule = compares_itself op b r there c }

  in_both : (n m : Bool) (op : BinOp) (a b : ℕ) (q r : Qualified) → slice_get p.targets a ≡ Some q → slice_get p.targets b ≡ Some r → compares op ≡ true → same_type q.ty r.ty ≡ true
      → Both n m (Pointer a) (Pointer b) op (on_one (Pointer a) (Pointer b) plain_int)
  unfolding Both
  in_both n m op a b q r qa rb c h = record { left = meets_itself p n a q qa; right = meets_itself p m b r rb; rule = compares_rule op a b q r qa rb c h }

  as_null : (zero null : Bool) → (zero ≡ true → null ≡ true) → (from : Ty) (row : ℕ) (q : Qualified) → slice_get p.targets row ≡ Some q → zero ≡ true → Meets p null from (Pointer row)
  as_null zero true zeros from row q there h = meets_as_null p from row q there
  as_null zero false zeros from row q there h = absurd (false≢true (zeros h))

  -- ---- each pair of types

  pointer_integer : (zn zm n m : Bool) → (zn ≡ true → n ≡ true) → (zm ≡ true → m ≡ true) → (op : BinOp) (a : ℕ) (b : IntTy) (found : Operation) → Stands known (Pointer a)
      → operation_on known op zn zm (Pointer a) (Int b) ≡ Some found → Both n m (Pointer a) (Int b) op found
  unfolding Both
  pointer_integer zn zm n m left_zero right_zero op a b found stands h = by_cases (chosen (equates op && zm) (Some (on_one (Pointer a) (Pointer a) plain_int)) (pointer_and_integer known op a b) (Some found) h)
    where
      by_cases : (((equates op && zm) ≡ true) × (Some (on_one (Pointer a) (Pointer a) plain_int) ≡ Some found)) ⊎ (((equates op && zm) ≡ false) × (pointer_and_integer known op a b ≡ Some found)) → Both n m (Pointer a) (Int b) op found
      by_cases (inl g) =
          let both = and_parts (equates op) zm g.0 in
          subst (Both n m (Pointer a) (Int b) op) (same_Some _ _ g.1)
          (in_left n m op a stands.0 (Int b) (begins.rows a stands.0 stands.1) (equates_compares op both.0) (as_null zm m right_zero (Int b) a stands.0 (begins.rows a stands.0 stands.1) both.1))
      by_cases (inr g) =
          let only = only_moves known op a b found g.1 in
          let is = moved_is known a (Pointer a) (index_type b) found only.0 in
          subst (Both n m (Pointer a) (Int b) op) is.1 (with_integer n m op a stands.0 b stands.1 is.0 only.1)

  integer_pointer : (zn zm n m : Bool) → (zn ≡ true → n ≡ true) → (zm ≡ true → m ≡ true) → (op : BinOp) (a : IntTy) (b : ℕ) (found : Operation) → Stands known (Pointer b)
      → operation_on known op zn zm (Int a) (Pointer b) ≡ Some found → Both n m (Int a) (Pointer b) op found
  unfolding Both
  integer_pointer zn zm n m left_zero right_zero op a b found stands h = by_cases (chosen (equates op && zn) (Some (on_one (Pointer b) (Pointer b) plain_int)) (integer_and_pointer known op a b) (Some found) h)
    where
      by_cases : (((equates op && zn) ≡ true) × (Some (on_one (Pointer b) (Pointer b) plain_int) ≡ Some found)) ⊎ (((equates op && zn) ≡ false) × (integer_and_pointer known op a b ≡ Some found)) → Both n m (Int a) (Pointer b) op found
      by_cases (inl g) =
          let both = and_parts (equates op) zn g.0 in
          subst (Both n m (Int a) (Pointer b) op) (same_Some _ _ g.1)
          (in_right n m op (Int a) b stands.0 (begins.rows b stands.0 stands.1) (equates_compares op both.0) (as_null zn n left_zero (Int a) b stands.0 (begins.rows b stands.0 stands.1) both.1))
      by_cases (inr g) =
          let only = only_adds known op b a found g.1 in
          let is = moved_is known b (index_type a) (Pointer b) found only.0 in
          subst (Both n m (Int a) (Pointer b) op) is.1 (with_pointer n m op b stands.0 a stands.1 is.0 only.1)

  -- pointers to types that are alike, in the tables and in the program
  alike_is : (a b : ℕ) (q r : Qualified) → slice_get known.targets a ≡ Some q → slice_get known.targets b ≡ Some r → point_alike known a b ≡ true → same_type q.ty r.ty ≡ true
  alike_is a b q r qa rb h = ap₂ (λ (x y : Qualified). same_type x.ty y.ty) (sym (target_is known a q qa)) (sym (target_is known b r rb)) ∙ h

  to_void : (null : Bool) (from to : ℕ) (q r : Qualified) → slice_get p.targets from ≡ Some q → slice_get p.targets to ≡ Some r → (is_void q.ty || is_void r.ty) ≡ true → Meets p null (Pointer from) (Pointer to)
  to_void null from to q r qa rb h = meets_by p null from to q r qa rb (or_right (same_type q.ty r.ty) (is_void q.ty || is_void r.ty) h)

  equal_pointers : (zn zm n m : Bool) → (zn ≡ true → n ≡ true) → (zm ≡ true → m ≡ true) → (op : BinOp) (a b : ℕ) (q r : Qualified) (found : Operation) → slice_get known.targets a ≡ Some q → slice_get known.targets b ≡ Some r
      → equates op ≡ true → equality known a zn b zm ≡ Some found → Both n m (Pointer a) (Pointer b) op found
  unfolding Both
  equal_pointers zn zm n m left_zero right_zero op a b q r found qa rb eq h =
      first (chosen (point_alike known a b) (Some (on_one (Pointer a) (Pointer b) plain_int)) (if points_to_void known a || (zm && not (points_to_void known b)) then Some (on_one (Pointer a) (Pointer a) plain_int) else if points_to_void known b || zn then Some (on_one (Pointer b) (Pointer b) plain_int) else None) (Some found) h)
    where
      pa : slice_get p.targets a ≡ Some q
      pa = begins.rows a q qa

      pb : slice_get p.targets b ≡ Some r
      pb = begins.rows b r rb

      void_a : points_to_void known a ≡ true → is_void q.ty ≡ true
      void_a v = ap (λ (z : Qualified). is_void z.ty) (sym (target_is known a q qa)) ∙ v

      void_b : points_to_void known b ≡ true → is_void r.ty ≡ true
      void_b v = ap (λ (z : Qualified). is_void z.ty) (sym (target_is known b r rb)) ∙ v

      left_meets : (v w : Bool) → points_to_void known a ≡ v → zm ≡ w → (v || (w && not (points_to_void known b))) ≡ true → Meets p m (Pointer b) (Pointer a)
      left_meets true w ev ew e = to_void m b a r q pb pa (or_right (is_void r.ty) (is_void q.ty) (void_a ev))
      left_meets false true ev ew e = as_null zm m right_zero (Pointer b) a q pa ew
      left_meets false false ev ew e = absurd (false≢true e)

      right_meets : (v w : Bool) → points_to_void known b ≡ v → zn ≡ w → (v || w) ≡ true → Meets p n (Pointer a) (Pointer b)
      right_meets true w ev ew e = to_void n a b q r pa pb (or_right (is_void q.ty) (is_void r.ty) (void_b ev))
      right_meets false true ev ew e = as_null zn n left_zero (Pointer a) b r pb ew
      right_meets false false ev ew e = absurd (false≢true e)

      third : (((points_to_void known b || zn) ≡ true) × (Some (on_one (Pointer b) (Pointer b) plain_int) ≡ Some found)) ⊎ (((points_to_void known b || zn) ≡ false) × (None ≡ Some found)) → Both n m (Pointer a) (Pointer b) op found
      third (inl g) = subst (Both n m (Pointer a) (Pointer b) op) (same_Some _ _ g.1) (in_right n m op (Pointer a) b r pb (equates_compares op eq) (right_meets (points_to_void known b) zn refl refl g.0))
      third (inr g) = absurd (none_is g.1)

      second : (((points_to_void known a || (zm && not (points_to_void known b))) ≡ true) × (Some (on_one (Pointer a) (Pointer a) plain_int) ≡ Some found)) ⊎ (((points_to_void known a || (zm && not (points_to_void known b))) ≡ false) × ((if points_to_void known b || zn then Some (on_one (Pointer b) (Pointer b) plain_int) else None) ≡ Some found)) → Both n m (Pointer a) (Pointer b) op found
      second (inl g) = subst (Both n m (Pointer a) (Pointer b) op) (same_Some _ _ g.1) (in_left n m op a q (Pointer b) pa (equates_compares op eq) (left_meets (points_to_void known a) zm refl refl g.0))
      second (inr g) = third (chosen (points_to_void known b || zn) (Some (on_one (Pointer b) (Pointer b) plain_int)) None (Some found) g.1)

      first : ((point_alike known a b ≡ true) × (Some (on_one (Pointer a) (Pointer b) plain_int) ≡ Some found)) ⊎ ((point_alike known a b ≡ false) × ((if points_to_void known a || (zm && not (points_to_void known b)) then Some (on_one (Pointer a) (Pointer a) plain_int) else if points_to_void known b || zn then Some (on_one (Pointer b) (Pointer b) plain_int) else None) ≡ Some found)) → Both n m (Pointer a) (Pointer b) op found
      first (inl g) = subst (Both n m (Pointer a) (Pointer b) op) (same_Some _ _ g.1) (in_both n m op a b q r pa pb (equates_compares op eq) (alike_is a b q r qa rb g.0))
      first (inr g) = second (chosen (points_to_void known a || (zm && not (points_to_void known b))) (Some (on_one (Pointer a) (Pointer a) plain_int)) (if points_to_void known b || zn then Some (on_one (Pointer b) (Pointer b) plain_int) else None) (Some found) g.1)

  difference_is : (n m : Bool) (op : BinOp) (a b : ℕ) (q r : Qualified) (found : Operation) → slice_get known.targets a ≡ Some q → slice_get known.targets b ≡ Some r → difference known a b ≡ Some found → Both n m (Pointer a) (Pointer b) op found
  unfolding Both
  difference_is n m op a b q r found qa rb h = by_cases (chosen (point_alike known a b && counts_in known a) (Some (record { node = Difference; left = Pointer a; right = Pointer b; ty = plain_int; size = element_bytes known a })) None (Some found) h)
    where
      by_cases : (((point_alike known a b && counts_in known a) ≡ true) × (Some (record { node = Difference; left = Pointer a; right = Pointer b; ty = plain_int; size = element_bytes known a }) ≡ Some found)) ⊎ (((point_alike known a b && counts_in known a) ≡ false) × (None ≡ Some found)) → Both n m (Pointer a) (Pointer b) op found
      by_cases (inr g) = absurd (none_is g.1)
      by_cases (inl g) =
          let both = and_parts (point_alike known a b) (counts_in known a) g.0 in
          subst (Both n m (Pointer a) (Pointer b) op) (same_Some _ _ g.1)
          (record {
            left = meets_itself p n a q (begins.rows a q qa);
            right = meets_itself p m b r (begins.rows b r rb);
            rule = and_from (alike (slice_get p.targets a) (slice_get p.targets b)) (counts p (slice_get p.targets a) (element_bytes known a)) (ap₂ alike (begins.rows a q qa) (begins.rows b r rb) ∙ alike_is a b q r qa rb both.0) (counts_rule a q qa both.1);
          })

  compared_is : (n m : Bool) (op : BinOp) (a b : ℕ) (q r : Qualified) (found : Operation) → slice_get known.targets a ≡ Some q → slice_get known.targets b ≡ Some r
      → (if compares op && point_alike known a b then Some (on_one (Pointer a) (Pointer b) plain_int) else None) ≡ Some found → Both n m (Pointer a) (Pointer b) op found
  unfolding Both
  compared_is n m op a b q r found qa rb h = by_cases (chosen (compares op && point_alike known a b) (Some (on_one (Pointer a) (Pointer b) plain_int)) None (Some found) h)
    where
      by_cases : (((compares op && point_alike known a b) ≡ true) × (Some (on_one (Pointer a) (Pointer b) plain_int) ≡ Some found)) ⊎ (((compares op && point_alike known a b) ≡ false) × (None ≡ Some found)) → Both n m (Pointer a) (Pointer b) op found
      by_cases (inr g) = absurd (none_is g.1)
      by_cases (inl g) =
          let both = and_parts (compares op) (point_alike known a b) g.0 in
          subst (Both n m (Pointer a) (Pointer b) op) (same_Some _ _ g.1) (in_both n m op a b q r (begins.rows a q qa) (begins.rows b r rb) both.0 (alike_is a b q r qa rb both.1))

  two_pointers : (zn zm n m : Bool) → (zn ≡ true → n ≡ true) → (zm ≡ true → m ≡ true) → (op : BinOp) (a b : ℕ) (found : Operation) → Stands known (Pointer a) → Stands known (Pointer b)
      → operation_on known op zn zm (Pointer a) (Pointer b) ≡ Some found → Both n m (Pointer a) (Pointer b) op found
  two_pointers zn zm n m left_zero right_zero op a b found sa sb h = by_cases (chosen (equates op) (equality known a zn b zm) (on_pointers known op a b) (Some found) h)
    where
      others : (difference known a b ≡ Some found) ⊎ ((if compares op && point_alike known a b then Some (on_one (Pointer a) (Pointer b) plain_int) else None) ≡ Some found) → Both n m (Pointer a) (Pointer b) op found
      others (inl g) = difference_is n m op a b sa.0 sb.0 found sa.1 sb.1 g
      others (inr g) = compared_is n m op a b sa.0 sb.0 found sa.1 sb.1 g

      by_cases : ((equates op ≡ true) × (equality known a zn b zm ≡ Some found)) ⊎ ((equates op ≡ false) × (on_pointers known op a b ≡ Some found)) → Both n m (Pointer a) (Pointer b) op found
      by_cases (inl g) = equal_pointers zn zm n m left_zero right_zero op a b sa.0 sb.0 found sa.1 sb.1 g.0 g.1
      by_cases (inr g) = others (only_differs known op a b found g.1)

  both_is : (n m : Bool) (a b : Ty) (op : BinOp) (found : Operation) → Both n m a b op found → Operates p n m a b op found
  unfolding Both
  both_is n m a b op found h = h

  -- What an operator makes of two operands fits.
  pub operates : (zn zm n m : Bool) → (zn ≡ true → n ≡ true) → (zm ≡ true → m ≡ true) → (op : BinOp) (a b : Ty) (found : Operation) → Stands known a → Stands known b
      → operation_on known op zn zm a b ≡ Some found → Operates p n m a b op found
  operates zn zm n m left_zero right_zero op (Int a) (Int b) found sa sb h =
      subst (Operates p n m (Int a) (Int b) op) (same_Some (on_integers op a b) found h) (on_ints p n m a b op)
  operates zn zm n m left_zero right_zero op (Int a) (Pointer b) found sa sb h = both_is n m (Int a) (Pointer b) op found (integer_pointer zn zm n m left_zero right_zero op a b found sb h)
  operates zn zm n m left_zero right_zero op (Pointer a) (Int b) found sa sb h = both_is n m (Pointer a) (Int b) op found (pointer_integer zn zm n m left_zero right_zero op a b found sa h)
  operates zn zm n m left_zero right_zero op (Pointer a) (Pointer b) found sa sb h = both_is n m (Pointer a) (Pointer b) op found (two_pointers zn zm n m left_zero right_zero op a b found sa sb h)
  operates zn zm n m left_zero right_zero op _ _ found sa sb h = absurd (none_is h)
