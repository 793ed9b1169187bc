-- Operators on operands that have values: what the rules give fits.
use Rattle.std.proofs.Common.{◌≡◌, ℕ, Bool, true, false, not, ◌&&◌, ◌||◌, if◌then◌else◌, List, Option, Some, None, is_some, ◌⊎◌, inl, inr, refl, sym, ap, ap₂, ◌∙◌, subst, subst₂, true≢false}
use Rattle.std.specs.Prelude.{slice_get}
use Rattle.std.proofs.lemmas.Bool.{and_parts, and_from, or_left, or_right, false≢true}
use Rattle.std.proofs.lemmas.Option.{same_Some}
use Rattle.c_ints.specs.Conversions.{promoted, common}
use Rattle.c_ints.specs.declared.operators.BinOp.{BinOp}
use Rattle.c_ints.specs.declared.operators.UnOp.{UnOp}
use Rattle.c_ints.specs.declared.operators.UnOp.TheVariants as unop
use Rattle.c_ints.specs.declared.types.IntTy.{IntTy}
use Rattle.c_token.specs.declared.token.Punct.TheVariants as marks
use Rattle.c_token.specs.declared.token.TokKind.{TokKind}
use Rattle.c_token.specs.declared.token.TokKind.TheVariants as kinds
use Rattle.c_typed.specs.Fits.{is_null, is_converted, source, source_of, is_side, reached_by, array_reach, fits, rule_holds, Used}
use Rattle.c_typed.specs.Rules.{unary_fits, cast_fits}
use Rattle.c_typed.specs.Sameness.{same_int, same_type, is_void, is_int, is_pointer, is_scalar, is_promoted}
use Rattle.c_typed.specs.Trees as tree
use Rattle.c_typed.specs.Trees.{Expression, FunctionTree, Program}
use Rattle.c_typed.specs.Types.{type_of}
use Rattle.c_typed.specs.declared.expression.LogicalOp.{LogicalOp}
use Rattle.c_typed.specs.declared.types.Qualified.{Qualified}
use Rattle.c_typed.specs.declared.types.Ty.{Ty}
use Rattle.c_typed.specs.declared.types.Ty.TheVariants.{Void, Int, Pointer, Array, Struct}
use Rattle.type_rules.specs.Conversions.{converted, may_be_assigned, may_be_cast}
use Rattle.type_rules.specs.Faults as kind
use Rattle.type_rules.specs.Known.{Known, given}
use Rattle.type_rules.specs.Operations.{Operation, operation_of, binary_of}
use Rattle.type_rules.specs.Operators.{binary_term, binary, logical, comma, between_by, between, if_pointer, pointer_choice, choice_type, choice, cast, promoted_type, arithmetic, negation}
use Rattle.type_rules.specs.Terms.{Operand, side_of}
use Rattle.typed_laws.specs.Going.{Goes}
use Rattle.typed_laws.specs.Meets.{Meets}
use Rattle.typed_laws.specs.Tables.{at, Stands, Orderly, Begins, Leads}
use Rattle.typed_laws.specs.Terms.{IsValue, IsOperand, IsTerm}
use Rattle.typed_laws.proofs.Lists.{none_is}
use Rattle.typed_laws.proofs.Making.{simple, value_is, node_value}
use Rattle.typed_laws.proofs.Meeting.{meets_as_null, source_none, converted_type, converted_fits}
use Rattle.typed_laws.proofs.Operating.{chosen, gives, operates}
use Rattle.typed_laws.proofs.Same.{same_type_is, same_type_refl, same_int_refl, promoted_again, common_promoted}
use Rattle.typed_laws.proofs.Steps.{goes_given, goes_broken, goes_test, goes_wanted}
use Rattle.c_ints.specs.declared.types.IntTy.TheVariants as int

pub not_false : (b : Bool) → not b ≡ false → b ≡ true
not_false true h = refl
not_false false h = absurd (true≢false h)

pub int_is : (ty : Ty) → is_int ty ≡ true → (i : IntTy) × (ty ≡ Int i)
int_is Void h = absurd (false≢true h)
int_is (Int i) h = (i, refl)
int_is (Pointer row) h = absurd (false≢true h)
int_is (Array row n x) h = absurd (false≢true h)
int_is (Struct number) h = absurd (false≢true h)

-- ---- nodes that fit where their parts do

logical_by : (p : Program) (f : FunctionTree) (op : LogicalOp) (l r : Expression) (line : ℕ) → (is_scalar (type_of l) && is_scalar (type_of r)) ≡ true → fits p f Used l ≡ true → fits p f Used r ≡ true → fits p f Used (tree.Logical op l r line) ≡ true
unfolding fits rule_holds
logical_by p f op l r line a b c = and_from (is_scalar (type_of l) && is_scalar (type_of r)) (fits p f Used l && fits p f Used r) a (and_from (fits p f Used l) (fits p f Used r) b c)

comma_by : (p : Program) (f : FunctionTree) (l r : Expression) (line : ℕ) → fits p f Used l ≡ true → fits p f Used r ≡ true → fits p f Used (tree.Comma l r (type_of r) line) ≡ true
unfolding fits rule_holds
comma_by p f l r line b c = and_from (same_type (type_of r) (type_of r)) (fits p f Used l && fits p f Used r) (same_type_refl (type_of r)) (and_from (fits p f Used l) (fits p f Used r) b c)

choice_joined : (a b c d e g h i j : Bool) → a ≡ true → b ≡ true → c ≡ true → d ≡ true → e ≡ true → g ≡ true → h ≡ true → i ≡ true → j ≡ true → ((a && ((b && (c && d)) && (e && g))) && (h && (i && j))) ≡ true
choice_joined a b c d e g h i j ea eb ec ed ee eg eh ei ej = rw (ea, eb, ec, ed, ee, eg, eh, ei, ej) refl

choice_by : (p : Program) (f : FunctionTree) (c x y : Expression) (ty : Ty) (line : ℕ) → is_scalar (type_of c) ≡ true → type_of x ≡ ty → type_of y ≡ ty → (is_promoted ty || (is_pointer ty || is_void ty)) ≡ true
    → is_side (source_of x) ty ≡ true → is_side (source_of y) ty ≡ true → fits p f Used c ≡ true → fits p f Used x ≡ true → fits p f Used y ≡ true → fits p f Used (tree.Conditional c x y ty line) ≡ true
unfolding fits rule_holds
choice_by p f c x y ty line scalar tx ty_is kind sx sy fc fx fy =
    choice_joined (is_scalar (type_of c)) (same_type (type_of x) ty) (same_type (type_of y) ty) (is_promoted ty || (is_pointer ty || is_void ty)) (is_side (source_of x) ty) (is_side (source_of y) ty) (fits p f Used c) (fits p f Used x) (fits p f Used y)
    scalar (ap (λ t. same_type t ty) tx ∙ same_type_refl ty) (ap (λ t. same_type t ty) ty_is ∙ same_type_refl ty) kind sx sy fc fx fy

cast_by : (p : Program) (f : FunctionTree) (x : Expression) (ty : Ty) (line : ℕ) → cast_fits p (is_null x) (type_of x) ty ≡ true → fits p f Used x ≡ true → fits p f Used (tree.Cast x ty line) ≡ true
unfolding fits rule_holds
cast_by p f x ty line a b = and_from (cast_fits p (is_null x) (type_of x) ty) (fits p f Used x) a b

unary_by : (p : Program) (f : FunctionTree) (op : UnOp) (x : Expression) (ty : Ty) (line : ℕ) → unary_fits op (type_of x) ty ≡ true → fits p f Used x ≡ true → fits p f Used (tree.Unary op x ty line) ≡ true
unfolding fits rule_holds
unary_by p f op x ty line a b = and_from (unary_fits op (type_of x) ty) (fits p f Used x) a b

-- ---- the sides of a choice

-- A side has the type already, or a null constant becomes a pointer, or an integer another one.
Sided : Program → Bool → Ty → Ty → Type 0
Sided p null from to = (same_type from to ≡ true) ⊎ (Meets p null from to × (is_side (source null from) to ≡ true))

side_int : (null : Bool) (from : Ty) (i : IntTy) → is_side (source null from) (Int i) ≡ true
side_int true from i = refl
side_int false from i = refl

sided_ints : (p : Program) (null : Bool) (a c : IntTy) → Sided p null (Int a) (Int c)
unfolding Sided
sided_ints p null a c = inr (refl, side_int null (Int a) c)

sided_null : (p : Program) (zero null : Bool) → (zero ≡ true → null ≡ true) → (from : Ty) (row : ℕ) (q : Qualified) → slice_get p.targets row ≡ Some q → zero ≡ true → Sided p null from (Pointer row)
unfolding Sided
sided_null p zero true zeros from row q there h = inr (meets_as_null p from row q there, refl)
sided_null p zero false zeros from row q there h = absurd (false≢true (zeros h))

sided_itself : (p : Program) (null : Bool) (ty : Ty) → Sided p null ty ty
unfolding Sided
sided_itself p null ty = inl (same_type_refl ty)

Sides : Program → Bool → Bool → Ty → Ty → Ty → Type 0
Sides p n m a b ty = Sided p n a ty × Sided p m b ty × ((is_promoted ty || (is_pointer ty || is_void ty)) ≡ true)

module _ (known : Known) where
  if_pointer_is : (b ty : Ty) → if_pointer b ≡ Some ty → (row : ℕ) × (b ≡ Pointer row) × (ty ≡ Pointer row)
  if_pointer_is Void ty h = absurd (none_is h)
  if_pointer_is (Int i) ty h = absurd (none_is h)
  if_pointer_is (Pointer row) ty h = (row, refl, sym (same_Some (Pointer row) ty h))
  if_pointer_is (Array row n x) ty h = absurd (none_is h)
  if_pointer_is (Struct number) ty h = absurd (none_is h)

  -- the three ways to choose where the first side is a pointer
  pointer_ways : (a : ℕ) (b ty : Ty) (zn zm : Bool) → pointer_choice known (Pointer a) (record { ty = Pointer a; null = zn }) (record { ty = b; null = zm }) ≡ Some ty
      → ((ty ≡ Pointer a) × (b ≡ Pointer a)) ⊎ (((ty ≡ Pointer a) × (zm ≡ true)) ⊎ ((zn ≡ true) × ((row : ℕ) × (b ≡ Pointer row) × (ty ≡ Pointer row))))
  pointer_ways a b ty zn zm h = first (chosen (same_type (Pointer a) b || (zm && may_be_assigned known (record { ty = b; null = zm }) (Pointer a))) (Some (Pointer a)) (if zn then if_pointer b else None) (Some ty) h)
    where
      Ways : Type 0
      Ways = ((ty ≡ Pointer a) × (b ≡ Pointer a)) ⊎ (((ty ≡ Pointer a) × (zm ≡ true)) ⊎ ((zn ≡ true) × ((row : ℕ) × (b ≡ Pointer row) × (ty ≡ Pointer row))))

      which : (s n : Bool) → same_type (Pointer a) b ≡ s → zm ≡ n → (s || (n && may_be_assigned known (record { ty = b; null = zm }) (Pointer a))) ≡ true → Some (Pointer a) ≡ Some ty
          → ((ty ≡ Pointer a) × (b ≡ Pointer a)) ⊎ (((ty ≡ Pointer a) × (zm ≡ true)) ⊎ ((zn ≡ true) × ((row : ℕ) × (b ≡ Pointer row) × (ty ≡ Pointer row))))
      which true n es en e is = inl (sym (same_Some (Pointer a) ty is), sym (same_type_is (Pointer a) b es))
      which false true es en e is = inr (inl (sym (same_Some (Pointer a) ty is), en))
      which false false es en e is = absurd (false≢true e)

      second : ((zn ≡ true) × (if_pointer b ≡ Some ty)) ⊎ ((zn ≡ false) × (None ≡ Some ty))
          → ((ty ≡ Pointer a) × (b ≡ Pointer a)) ⊎ (((ty ≡ Pointer a) × (zm ≡ true)) ⊎ ((zn ≡ true) × ((row : ℕ) × (b ≡ Pointer row) × (ty ≡ Pointer row))))
      second (inl g) = inr (inr (g.0, if_pointer_is b ty g.1))
      second (inr g) = absurd (none_is g.1)

      first : (((same_type (Pointer a) b || (zm && may_be_assigned known (record { ty = b; null = zm }) (Pointer a))) ≡ true) × (Some (Pointer a) ≡ Some ty)) ⊎ (((same_type (Pointer a) b || (zm && may_be_assigned known (record { ty = b; null = zm }) (Pointer a))) ≡ false) × ((if zn then if_pointer b else None) ≡ Some ty))
          → ((ty ≡ Pointer a) × (b ≡ Pointer a)) ⊎ (((ty ≡ Pointer a) × (zm ≡ true)) ⊎ ((zn ≡ true) × ((row : ℕ) × (b ≡ Pointer row) × (ty ≡ Pointer row))))
      first (inl g) = which (same_type (Pointer a) b) zm refl refl g.0 g.1
      first (inr g) = second (chosen zn (if_pointer b) None (Some ty) g.1)

  null_first : (b : ℕ) (ty : Ty) (zn : Bool) → (if zn then Some (Pointer b) else None) ≡ Some ty → (zn ≡ true) × (ty ≡ Pointer b)
  null_first b ty true h = (refl, sym (same_Some (Pointer b) ty h))
  null_first b ty false h = absurd (none_is h)

  -- the type of a choice is there
  choice_stands : (a b ty : Ty) (zn zm : Bool) → Stands known a → Stands known b → choice_type known (record { ty = a; null = zn }) (record { ty = b; null = zm }) a b ≡ Some ty → Stands known ty
  choice_stands (Int a) (Int b) ty zn zm sa sb h = subst (Stands known) (same_Some (Int (common a b)) ty h) tt
  choice_stands (Int a) (Pointer b) ty zn zm sa sb h = subst (Stands known) (sym (null_first b ty zn h).1) sb
  choice_stands (Pointer a) b ty zn zm sa sb h = by_cases (pointer_ways a b ty zn zm h)
    where
      by_cases : ((ty ≡ Pointer a) × (b ≡ Pointer a)) ⊎ (((ty ≡ Pointer a) × (zm ≡ true)) ⊎ ((zn ≡ true) × ((row : ℕ) × (b ≡ Pointer row) × (ty ≡ Pointer row)))) → Stands known ty
      by_cases (inl g) = subst (Stands known) (sym g.0) sa
      by_cases (inr (inl g)) = subst (Stands known) (sym g.0) sa
      by_cases (inr (inr g)) = subst (Stands known) ((g.1).1 ∙ sym (g.1).2) sb
  choice_stands Void Void ty zn zm sa sb h = subst (Stands known) (same_Some Void ty h) tt
  choice_stands _ _ ty zn zm sa sb h = absurd (none_is h)

  -- Both sides fit a choice of that type.
  choice_sides : (p : Program) → Begins known p → (a b ty : Ty) (zn zm n m : Bool) → (zn ≡ true → n ≡ true) → (zm ≡ true → m ≡ true) → Stands known a → Stands known b
      → choice_type known (record { ty = a; null = zn }) (record { ty = b; null = zm }) a b ≡ Some ty → Sides p n m a b ty
  unfolding Sides
  choice_sides p begins (Int a) (Int b) ty zn zm n m left_zero right_zero sa sb h =
      subst (λ t. Sided p n (Int a) t × Sided p m (Int b) t × ((is_promoted t || (is_pointer t || is_void t)) ≡ true)) (same_Some (Int (common a b)) ty h)
      (sided_ints p n a (common a b), sided_ints p m b (common a b), or_left (same_int (promoted (common a b)) (common a b)) false (common_promoted a b))
  choice_sides p begins (Int a) (Pointer b) ty zn zm n m left_zero right_zero sa sb h =
      let is = null_first b ty zn h in
      subst (λ t. Sided p n (Int a) t × Sided p m (Pointer b) t × ((is_promoted t || (is_pointer t || is_void t)) ≡ true)) (sym is.1)
      (sided_null p zn n left_zero (Int a) b sb.0 (begins.rows b sb.0 sb.1) is.0, sided_itself p m (Pointer b), refl)
  choice_sides p begins (Pointer a) b ty zn zm n m left_zero right_zero sa sb h = by_cases (pointer_ways a b ty zn zm h)
    where
      there : slice_get p.targets a ≡ Some sa.0
      there = begins.rows a sa.0 sa.1

      last : (row : ℕ) → b ≡ Pointer row → ty ≡ Pointer row → zn ≡ true → Sided p n (Pointer a) ty × Sided p m b ty × ((is_promoted ty || (is_pointer ty || is_void ty)) ≡ true)
      last row eb et zero =
          let found : (q : Qualified) × (slice_get known.targets row ≡ Some q) = subst (Stands known) eb sb in
          subst₂ (λ t c. Sided p n (Pointer a) t × Sided p m c t × ((is_promoted t || (is_pointer t || is_void t)) ≡ true)) (sym et) (sym eb)
          (sided_null p zn n left_zero (Pointer a) row found.0 (begins.rows row found.0 found.1) zero, sided_itself p m (Pointer row), refl)

      by_cases : ((ty ≡ Pointer a) × (b ≡ Pointer a)) ⊎ (((ty ≡ Pointer a) × (zm ≡ true)) ⊎ ((zn ≡ true) × ((row : ℕ) × (b ≡ Pointer row) × (ty ≡ Pointer row)))) → Sided p n (Pointer a) ty × Sided p m b ty × ((is_promoted ty || (is_pointer ty || is_void ty)) ≡ true)
      by_cases (inl g) = subst₂ (λ t c. Sided p n (Pointer a) t × Sided p m c t × ((is_promoted t || (is_pointer t || is_void t)) ≡ true)) (sym g.0) (sym g.1) (sided_itself p n (Pointer a), sided_itself p m (Pointer a), refl)
      by_cases (inr (inl g)) = subst (λ t. Sided p n (Pointer a) t × Sided p m b t × ((is_promoted t || (is_pointer t || is_void t)) ≡ true)) (sym g.0) (sided_itself p n (Pointer a), sided_null p zm m right_zero b a sa.0 there g.1, refl)
      by_cases (inr (inr g)) = last (g.1).0 (g.1).1 (g.1).2 g.0
  choice_sides p begins Void Void ty zn zm n m left_zero right_zero sa sb h =
      subst (λ t. Sided p n Void t × Sided p m Void t × ((is_promoted t || (is_pointer t || is_void t)) ≡ true)) (same_Some Void ty h) (sided_itself p n Void, sided_itself p m Void, refl)
  choice_sides p begins _ _ ty zn zm n m left_zero right_zero sa sb h = absurd (none_is h)

side_by : (b : Bool) (v : Expression) (ty : Ty) (line : ℕ) → same_type (type_of v) ty ≡ b → is_converted v ≡ false → is_side (source (is_null v) (type_of v)) ty ≡ true → is_side (source_of (if b then v else tree.Convert v ty line)) ty ≡ true
unfolding source_of
side_by true v ty line e plain h = ap (λ s. is_side s ty) (source_none v plain)
side_by false v ty line e plain h = h

side_same : (b : Bool) (v : Expression) (ty : Ty) (line : ℕ) → b ≡ true → is_converted v ≡ false → is_side (source_of (if b then v else tree.Convert v ty line)) ty ≡ true
side_same true v ty line e plain = ap (λ s. is_side s ty) (source_none v plain)
side_same false v ty line e plain = absurd (false≢true e)

fits_same : (p : Program) (f : FunctionTree) (b : Bool) (v : Expression) (ty : Ty) (line : ℕ) → b ≡ true → fits p f Used v ≡ true → fits p f Used (if b then v else tree.Convert v ty line) ≡ true
fits_same p f true v ty line e h = h
fits_same p f false v ty line e h = absurd (false≢true e)

side_fits : (p : Program) (f : FunctionTree) (x : Operand) (ty : Ty) → is_converted x.value ≡ false → fits p f Used x.value ≡ true → Sided p (is_null x.value) (type_of x.value) ty
    → (fits p f Used (converted x ty) ≡ true) × (is_side (source_of (converted x ty)) ty ≡ true)
unfolding Sided
side_fits p f x ty plain fitting (inl h) = (fits_same p f (same_type (type_of x.value) ty) x.value ty x.line h fitting, side_same (same_type (type_of x.value) ty) x.value ty x.line h plain)
side_fits p f x ty plain fitting (inr h) = (converted_fits p f x ty plain h.0 fitting, side_by (same_type (type_of x.value) ty) x.value ty x.line refl plain h.1)

-- ---- casts

cast_is : (known : Known) (p : Program) → Begins known p → (from to : Ty) (zero null : Bool) → (zero ≡ true → null ≡ true) → Stands known to → may_be_cast (record { ty = from; null = zero }) to ≡ true → cast_fits p null from to ≡ true
cast_is known p begins from Void zero null zeros stands h = refl
cast_is known p begins from (Int to) zero null zeros stands h = or_left (is_int from && true) false (and_from (is_int from) true h refl)
cast_is known p begins from (Pointer row) zero null zeros stands h =
    or_right (is_int from && false) (is_some (slice_get p.targets row) && (null || is_pointer from)) (and_from (is_some (slice_get p.targets row)) (null || is_pointer from) (ap is_some (begins.rows row stands.0 stands.1)) (either zero null zeros h))
  where
    either : (zero null : Bool) → (zero ≡ true → null ≡ true) → (zero || is_pointer from) ≡ true → (null || is_pointer from) ≡ true
    either true null zeros h = or_left null (is_pointer from) (zeros refl)
    either false null zeros h = or_right null (is_pointer from) h
cast_is known p begins from (Array row n x) zero null zeros stands h = absurd (false≢true h)
cast_is known p begins from (Struct number) zero null zeros stands h = absurd (false≢true h)

cast_null : (zero : Bool) (x : Expression) (ty : Ty) (line : ℕ) → (zero ≡ true → is_null x ≡ true) → (zero && is_pointer ty) ≡ true → is_null (tree.Cast x ty line) ≡ true
unfolding is_null
cast_null zero x ty line zeros h = let both = and_parts zero (is_pointer ty) h in and_from (is_pointer ty) (is_null x) both.1 (zeros both.0)

cast_value : (known : Known) (x : Operand) (ty : Ty) (line : ℕ) → Stands known ty → IsOperand known Used x → ((p : Program) (f : FunctionTree) → Leads known p f → cast_fits p (is_null x.value) (type_of x.value) ty ≡ true)
    → IsValue known Used (tree.Cast x.value ty line) (x.null && is_pointer ty) None
unfolding is_converted reached_by array_reach
cast_value known x ty line stands hx rule = record {
  stands = stands;
  plain = refl;
  null = cast_null x.null x.value ty line hx.null;
  via = λ row q is there through. inl (refl, refl);
  apart = λ h. (refl, refl);
  free = λ used n h. absurd (none_is h);
  fitting = λ p f l. cast_by p f x.value ty line (rule p f l) (hx.fitting p f l);
}

-- ---- the rules

module _ (known : Known) (ts : List Qualified) (o : Orderly (at known ts)) where
  module _ (x y : Operand) (hx : IsOperand (at known ts) Used x) (hy : IsOperand (at known ts) Used y) where
    binary_is : (op : BinOp) (found : Operation) → operation_of (at known ts) op (side_of x) (side_of y) ≡ Some found → IsTerm (at known ts) (binary_term op x y found)
    binary_is op found is = record {
      form = node_value (at known ts) op x y hx hy found x.start found.node (gives (at known ts) op x.null y.null (type_of x.value) (type_of y.value) found is)
          (λ p f l. let w = operates (at known ts) p o l.begins x.null y.null (is_null x.value) (is_null y.value) hx.null hy.null op (type_of x.value) (type_of y.value) found hx.stands hy.stands is in
          (w.rule, converted_fits p f x found.left hx.plain w.left (hx.fitting p f l), converted_fits p f y found.right hy.plain w.right (hy.fitting p f l)));
      list = tt;
    }

    pub binary_goes : (op : BinOp) → Goes known ts (λ us t. IsTerm (at known us) t) (binary op x y (at known ts))
    binary_goes op = goes_wanted known _ ts (operation_of (at known ts) op (side_of x) (side_of y)) kind.Operand x.start (λ found. given (binary_term op x y found)) (λ found is. goes_given known _ _ ts o (binary_is op found is))

    pub logical_goes : (op : LogicalOp) → Goes known ts (λ us t. IsTerm (at known us) t) (logical op x y (at known ts))
    unfolding is_converted reached_by array_reach
    logical_goes op = goes_test known _ ts (not (is_scalar (type_of x.value) && is_scalar (type_of y.value))) kind.Operand x.start _
        (λ h. goes_given known _ _ ts o (value_is (at known ts) _ x.start (simple (at known ts) (tree.Logical op x.value y.value x.start) tt refl refl refl refl
        (λ p f l. logical_by p f op x.value y.value x.start (not_false (is_scalar (type_of x.value) && is_scalar (type_of y.value)) h) (hx.fitting p f l) (hy.fitting p f l)))))

    pub comma_goes : Goes known ts (λ us t. IsTerm (at known us) t) (comma x y (at known ts))
    unfolding is_converted reached_by array_reach
    comma_goes = goes_given known _ _ ts o (value_is (at known ts) _ x.start (simple (at known ts) (tree.Comma x.value y.value (type_of y.value) x.start) hy.stands refl refl refl refl
        (λ p f l. comma_by p f x.value y.value x.start (hx.fitting p f l) (hy.fitting p f l))))

    between_by_goes : (found : Option BinOp) → Goes known ts (λ us t. IsTerm (at known us) t) (between_by found x y (at known ts))
    between_by_goes None = goes_broken known _ ts _
    between_by_goes (Some op) = binary_goes op

    pub between_goes : (sign : TokKind) → Goes known ts (λ us t. IsTerm (at known us) t) (between sign x y (at known ts))
    between_goes (kinds.Punct marks.And) = logical_goes _
    between_goes (kinds.Punct marks.Or) = logical_goes _
    between_goes (kinds.Punct marks.Comma) = comma_goes
    between_goes (kinds.Punct p) = between_by_goes (binary_of p)
    between_goes _ = goes_broken known _ ts _

    pub choice_goes : (c : Operand) → IsOperand (at known ts) Used c → Goes known ts (λ us t. IsTerm (at known us) t) (choice c x y (at known ts))
    unfolding is_converted reached_by array_reach Sides
    choice_goes c hc = goes_test known _ ts (not (is_scalar (type_of c.value))) kind.Operand c.start _
        (λ scalar. goes_wanted known _ ts (choice_type (at known ts) (side_of x) (side_of y) (type_of x.value) (type_of y.value)) kind.Operand c.start _
        (λ ty is. goes_given known _ _ ts o (value_is (at known ts) _ c.start (simple (at known ts) (tree.Conditional c.value (converted x ty) (converted y ty) ty c.start)
        (choice_stands (at known ts) (type_of x.value) (type_of y.value) ty x.null y.null hx.stands hy.stands is) refl refl refl refl
        (λ p f l.
        let sides = choice_sides (at known ts) p l.begins (type_of x.value) (type_of y.value) ty x.null y.null (is_null x.value) (is_null y.value) hx.null hy.null hx.stands hy.stands is in
        let left = side_fits p f x ty hx.plain (hx.fitting p f l) sides.0 in
        let right = side_fits p f y ty hy.plain (hy.fitting p f l) sides.1 in
        choice_by p f c.value (converted x ty) (converted y ty) ty c.start (not_false (is_scalar (type_of c.value)) scalar) (converted_type x ty) (converted_type y ty) sides.2 left.1 right.1 (hc.fitting p f l) left.0 right.0)))))

  module _ (x : Operand) (hx : IsOperand (at known ts) Used x) where
    pub cast_goes : (ty : Ty) (line : ℕ) → Stands (at known ts) ty → Goes known ts (λ us t. IsTerm (at known us) t) (cast ty x line (at known ts))
    cast_goes ty line stands = goes_test known _ ts (not (may_be_cast (side_of x) ty)) kind.Operand line _
        (λ h. goes_given known _ _ ts o (record {
          form = cast_value (at known ts) x ty line stands hx (λ p f l. cast_is (at known ts) p l.begins (type_of x.value) ty x.null (is_null x.value) hx.null stands (not_false (may_be_cast (side_of x) ty) h));
          list = tt;
        }))

    promoted_fits : (op : UnOp) → ((from ty : Ty) → unary_fits op from ty ≡ (is_promoted from && same_type from ty)) → (a c : Ty) → is_int a ≡ true → c ≡ promoted_type a → unary_fits op c (promoted_type a) ≡ true
    promoted_fits op like a c h is =
        let i = int_is a h in
        like c (promoted_type a) ∙ (ap₂ (λ s t. is_promoted s && same_type s t) (is ∙ ap promoted_type i.1) (ap promoted_type i.1)
        ∙ and_from (same_int (promoted (promoted i.0)) (promoted i.0)) (same_int (promoted i.0) (promoted i.0)) (promoted_again i.0) (same_int_refl (promoted i.0)))

    promoted_stands : (a : Ty) → Stands (at known ts) a → Stands (at known ts) (promoted_type a)
    promoted_stands Void h = h
    promoted_stands (Int i) h = tt
    promoted_stands (Pointer row) h = h
    promoted_stands (Array row n s) h = h
    promoted_stands (Struct number) h = h

    promoted_meets : (p : Program) (null : Bool) (a : Ty) → is_int a ≡ true → Meets p null a (promoted_type a)
    promoted_meets p null a h = let i = int_is a h in subst (λ t. Meets p null t (promoted_type t)) (sym i.1) refl

    pub arithmetic_goes : (op : UnOp) (line : ℕ) → ((from ty : Ty) → unary_fits op from ty ≡ (is_promoted from && same_type from ty)) → Goes known ts (λ us t. IsTerm (at known us) t) (arithmetic op x line (at known ts))
    unfolding is_converted reached_by array_reach
    arithmetic_goes op line like = goes_test known _ ts (not (is_int (type_of x.value))) kind.Operand line _
        (λ h. goes_given known _ _ ts o (value_is (at known ts) _ line (simple (at known ts) (tree.Unary op (converted x (promoted_type (type_of x.value))) (promoted_type (type_of x.value)) line)
        (promoted_stands (type_of x.value) hx.stands) refl refl refl refl
        (λ p f l.
        let whole = not_false (is_int (type_of x.value)) h in
        unary_by p f op (converted x (promoted_type (type_of x.value))) (promoted_type (type_of x.value)) line
        (promoted_fits op like (type_of x.value) (type_of (converted x (promoted_type (type_of x.value)))) whole (converted_type x (promoted_type (type_of x.value))))
        (converted_fits p f x (promoted_type (type_of x.value)) hx.plain (promoted_meets p (is_null x.value) (type_of x.value) whole) (hx.fitting p f l))))))

    pub negation_goes : (line : ℕ) → Goes known ts (λ us t. IsTerm (at known us) t) (negation x line (at known ts))
    unfolding is_converted reached_by array_reach
    negation_goes line = goes_test known _ ts (not (is_scalar (type_of x.value))) kind.Operand line _
        (λ h. goes_given known _ _ ts o (value_is (at known ts) _ line (simple (at known ts) (tree.Unary unop.Bang x.value (Int int.Int) line) tt refl refl refl refl
        (λ p f l. unary_by p f unop.Bang x.value (Int int.Int) line
        (and_from (is_scalar (type_of x.value)) true (not_false (is_scalar (type_of x.value)) h) refl) (hx.fitting p f l)))))
