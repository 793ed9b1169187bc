-- Values and terms that rules make of operands.
use Rattle.std.proofs.Common.{◌≡◌, ℕ, Bool, true, false, ◌&&◌, if◌then◌else◌, Option, Some, None, inl, inr, refl, sym, ap, ap₂, ◌∙◌, subst, subst₂, true≢false}
use Rattle.std.specs.Prelude.{slice_get}
use Rattle.std.proofs.lemmas.Bool.{and_from, false≢true}
use Rattle.c_ints.specs.declared.operators.BinOp.{BinOp}
use Rattle.c_ints.specs.declared.types.IntTy.{IntTy}
use Rattle.c_typed.specs.Fits.{is_converted, reached_by, array_reach, first_reach, fits, rule_holds, Standing, Used}
use Rattle.c_typed.specs.Rules.{binary_fits, offset_fits, difference_fits}
use Rattle.c_typed.specs.Sameness.{same_type, is_pointer}
use Rattle.c_typed.specs.Trees as tree
use Rattle.c_typed.specs.Trees.{Expression, FunctionTree, Program}
use Rattle.c_typed.specs.Types.{type_of}
use Rattle.c_typed.specs.declared.types.Qualified.{Qualified}
use Rattle.c_typed.specs.declared.types.Ty.{Ty}
use Rattle.c_typed.specs.declared.types.Ty.TheVariants.{Int, Pointer}
use Rattle.type_rules.specs.Conversions.{converted}
use Rattle.type_rules.specs.Known.{Known}
use Rattle.type_rules.specs.Operations.{Node, Plain, Moved, Difference, Operation}
use Rattle.type_rules.specs.Operators.{binary_value, into_behind}
use Rattle.type_rules.specs.Places.{reach_behind}
use Rattle.type_rules.specs.Slots.{static_address}
use Rattle.type_rules.specs.Terms.{Reach, Operand, value_term, first_into}
use Rattle.typed_laws.specs.Meets.{NodeFits, Gives}
use Rattle.typed_laws.specs.Tables.{Stands, Leads}
use Rattle.typed_laws.specs.Terms.{reach_of, Reaches, IsValue, IsOperand, IsTerm}
use Rattle.typed_laws.proofs.Lists.{none_is}
use Rattle.typed_laws.proofs.Meeting.{converted_type}
use Rattle.typed_laws.proofs.Same.{same_type_refl}

-- a value that is no address, and no null constant
pub simple : (known : Known) (e : Expression) → Stands known (type_of e) → is_converted e ≡ false → reached_by e ≡ true → array_reach e ≡ None → static_address e ≡ None
    → ((p : Program) (f : FunctionTree) → Leads known p f → fits p f Used e ≡ true) → IsValue known Used e false None
simple known e stands plain reached apart free fitting = record {
  stands = stands;
  plain = plain;
  null = λ h. absurd (false≢true h);
  via = λ row q is there through. inl (reached, ap reach_of apart);
  apart = λ h. (apart, refl);
  free = λ used n h. absurd (none_is (sym free ∙ h));
  fitting = fitting;
}

pub value_is : (known : Known) (e : Expression) (line : ℕ) → IsValue known Used e false None → IsTerm known (value_term e line)
value_is known e line h = record { form = h; list = tt }

-- ---- conversions that change nothing of how an array is reached

same_by : (b : Bool) (v : Expression) (ty : Ty) (line : ℕ) → b ≡ true → (if b then v else tree.Convert v ty line) ≡ v
same_by true v ty line h = refl
same_by false v ty line h = absurd (false≢true h)

pub converted_itself : (x : Operand) (ty : Ty) → ty ≡ type_of x.value → converted x ty ≡ x.value
converted_itself x ty is = same_by (same_type (type_of x.value) ty) x.value ty x.line (ap (same_type (type_of x.value)) is ∙ same_type_refl (type_of x.value))

apart_by : (b : Bool) (v : Expression) (ty : Ty) (line : ℕ) → array_reach v ≡ None → array_reach (if b then v else tree.Convert v ty line) ≡ None
unfolding array_reach
apart_by true v ty line h = h
apart_by false v ty line h = refl

pub converted_apart : (x : Operand) (ty : Ty) → array_reach x.value ≡ None → array_reach (converted x ty) ≡ None
converted_apart x ty h = apart_by (same_type (type_of x.value) ty) x.value ty x.line h

first_left : (o : Option Bool) → first_reach o None ≡ reach_of o
first_left None = refl
first_left (Some b) = refl

first_right : (o : Option Bool) → first_reach None o ≡ reach_of o
first_right None = refl
first_right (Some b) = refl

into_left : (o : Option Reach) → first_into o None ≡ o
into_left None = refl
into_left (Some r) = refl

pub not_pointer : (ty : Ty) (i : IntTy) → ty ≡ Int i → is_pointer ty ≡ false
not_pointer ty i h = ap is_pointer h

-- the offset node's own rules
offset_reached : (op : BinOp) (l r : Expression) (size : ℕ) (ty : Ty) (line : ℕ) → reached_by (tree.Offset op l r size ty line) ≡ first_reach (array_reach l) (array_reach r)
unfolding reached_by
offset_reached op l r size ty line = refl

offset_apart : (op : BinOp) (l r : Expression) (size : ℕ) (ty : Ty) (line : ℕ) → array_reach (tree.Offset op l r size ty line) ≡ None
unfolding array_reach
offset_apart op l r size ty line = refl

pub offset_plain : (op : BinOp) (l r : Expression) (size : ℕ) (ty : Ty) (line : ℕ) → is_converted (tree.Offset op l r size ty line) ≡ false
unfolding is_converted
offset_plain op l r size ty line = refl

offset_fits_by : (p : Program) (f : FunctionTree) (op : BinOp) (l r : Expression) (size : ℕ) (ty : Ty) (line : ℕ) → offset_fits p op (type_of l) (type_of r) size ty ≡ true → fits p f Used l ≡ true → fits p f Used r ≡ true
    → fits p f Used (tree.Offset op l r size ty line) ≡ true
unfolding fits rule_holds
offset_fits_by p f op l r size ty line a b c = and_from (offset_fits p op (type_of l) (type_of r) size ty) (fits p f Used l && fits p f Used r) a (and_from (fits p f Used l) (fits p f Used r) b c)

binary_fits_by : (p : Program) (f : FunctionTree) (op : BinOp) (l r : Expression) (ty : Ty) (line : ℕ) → binary_fits p op (type_of l) (type_of r) ty ≡ true → fits p f Used l ≡ true → fits p f Used r ≡ true
    → fits p f Used (tree.Binary op l r ty line) ≡ true
unfolding fits rule_holds
binary_fits_by p f op l r ty line a b c = and_from (binary_fits p op (type_of l) (type_of r) ty) (fits p f Used l && fits p f Used r) a (and_from (fits p f Used l) (fits p f Used r) b c)

difference_fits_by : (p : Program) (f : FunctionTree) (l r : Expression) (size : ℕ) (line : ℕ) → difference_fits p (type_of l) (type_of r) size ≡ true → fits p f Used l ≡ true → fits p f Used r ≡ true
    → fits p f Used (tree.Difference l r size line) ≡ true
unfolding fits rule_holds
difference_fits_by p f l r size line a b c = and_from (difference_fits p (type_of l) (type_of r) size) (fits p f Used l && fits p f Used r) a (and_from (fits p f Used l) (fits p f Used r) b c)

-- How a moved pointer reaches its array: as the operand that was moved.
pub reaches_left : (known : Known) (op : BinOp) (x y : Operand) (found : Operation) (line : ℕ) (i : IntTy) → (array_reach x.value ≡ array_reach (converted x found.left)) → array_reach (converted y found.right) ≡ None → y.into ≡ None
    → found.ty ≡ type_of x.value
    → ((row : ℕ) (q : Qualified) → type_of x.value ≡ Pointer row → slice_get known.targets row ≡ Some q → (reach_behind x.into).through ≡ true → Reaches x.value q.constant)
    → (row : ℕ) (q : Qualified) → found.ty ≡ Pointer row → slice_get known.targets row ≡ Some q → (reach_behind (first_into x.into y.into)).through ≡ true
    → Reaches (tree.Offset op (converted x found.left) (converted y found.right) found.size found.ty line) q.constant
reaches_left known op x y found line i same none into is via row q pointer there through =
    further (via row q (sym is ∙ pointer) there (sym (ap (λ o. (reach_behind (first_into x.into o)).through) into ∙ ap (λ o. (reach_behind o).through) (into_left x.into)) ∙ through))
  where
    e : Expression
    e = tree.Offset op (converted x found.left) (converted y found.right) found.size found.ty line

    further : Reaches x.value q.constant → Reaches (tree.Offset op (converted x found.left) (converted y found.right) found.size found.ty line) q.constant
    further (inl h) = inl (offset_reached op (converted x found.left) (converted y found.right) found.size found.ty line ∙ (ap₂ first_reach (sym same) none ∙ (first_left (array_reach x.value) ∙ h.1)), ap reach_of (offset_apart op (converted x found.left) (converted y found.right) found.size found.ty line))
    further (inr h) = inr h

pub reaches_right : (known : Known) (op : BinOp) (x y : Operand) (found : Operation) (line : ℕ) (i : IntTy) → (array_reach y.value ≡ array_reach (converted y found.right)) → array_reach (converted x found.left) ≡ None → x.into ≡ None
    → found.ty ≡ type_of y.value
    → ((row : ℕ) (q : Qualified) → type_of y.value ≡ Pointer row → slice_get known.targets row ≡ Some q → (reach_behind y.into).through ≡ true → Reaches y.value q.constant)
    → (row : ℕ) (q : Qualified) → found.ty ≡ Pointer row → slice_get known.targets row ≡ Some q → (reach_behind (first_into x.into y.into)).through ≡ true
    → Reaches (tree.Offset op (converted x found.left) (converted y found.right) found.size found.ty line) q.constant
reaches_right known op x y found line i same none into is via row q pointer there through =
    further (via row q (sym is ∙ pointer) there (sym (ap (λ o. (reach_behind (first_into o y.into)).through) into) ∙ through))
  where
    further : Reaches y.value q.constant → Reaches (tree.Offset op (converted x found.left) (converted y found.right) found.size found.ty line) q.constant
    further (inl h) = inl (offset_reached op (converted x found.left) (converted y found.right) found.size found.ty line ∙ (ap₂ first_reach none (sym same) ∙ (first_right (array_reach y.value) ∙ h.1)), ap reach_of (offset_apart op (converted x found.left) (converted y found.right) found.size found.ty line))
    further (inr h) = inr h

-- How a moved pointer reaches its array.
pub moved_via : (known : Known) (left right : Standing) (op : BinOp) (x y : Operand) → IsOperand known left x → IsOperand known right y → (found : Operation) (line : ℕ) → Gives known Moved (type_of x.value) (type_of y.value) found
    → (row : ℕ) (q : Qualified) → found.ty ≡ Pointer row → slice_get known.targets row ≡ Some q → (reach_behind (first_into x.into y.into)).through ≡ true
    → Reaches (tree.Offset op (converted x found.left) (converted y found.right) found.size found.ty line) q.constant
moved_via known left right op x y hx hy found line (inl g) = let none = hy.apart (not_pointer (type_of y.value) g.1 g.3) in
    reaches_left known op x y found line g.1 (ap array_reach (sym (converted_itself x found.left g.4))) (converted_apart y found.right none.0) none.1 g.5 hx.via
moved_via known left right op x y hx hy found line (inr g) = let none = hx.apart (not_pointer (type_of x.value) g.1 g.3) in
    reaches_right known op x y found line g.1 (ap array_reach (sym (converted_itself y found.right g.4))) (converted_apart x found.left none.0) none.1 g.5 hy.via

-- ---- the node that an operator becomes

module _ (known : Known) (op : BinOp) (x y : Operand) (hx : IsOperand known Used x) (hy : IsOperand known Used y) (found : Operation) (line : ℕ) where
  plain_value : Gives known Plain (type_of x.value) (type_of y.value) found
      → ((p : Program) (f : FunctionTree) → Leads known p f → NodeFits Plain p op found.left found.right found.size found.ty × (fits p f Used (converted x found.left) ≡ true) × (fits p f Used (converted y found.right) ≡ true))
      → IsValue known Used (tree.Binary op (converted x found.left) (converted y found.right) found.ty line) false None
  unfolding is_converted reached_by array_reach
  plain_value given fitting = simple known (tree.Binary op (converted x found.left) (converted y found.right) found.ty line) (subst (Stands known) (sym given.1) tt) refl refl refl refl
      (λ p f l. let h = fitting p f l in binary_fits_by p f op (converted x found.left) (converted y found.right) found.ty line
      (subst₂ (λ a b. binary_fits p op a b found.ty ≡ true) (sym (converted_type x found.left)) (sym (converted_type y found.right)) h.0) h.1 h.2)

  difference_value : ((p : Program) (f : FunctionTree) → Leads known p f → NodeFits Difference p op found.left found.right found.size found.ty × (fits p f Used (converted x found.left) ≡ true) × (fits p f Used (converted y found.right) ≡ true))
      → IsValue known Used (tree.Difference (converted x found.left) (converted y found.right) found.size line) false None
  unfolding is_converted reached_by array_reach
  difference_value fitting = simple known (tree.Difference (converted x found.left) (converted y found.right) found.size line) tt refl refl refl refl
      (λ p f l. let h = fitting p f l in difference_fits_by p f (converted x found.left) (converted y found.right) found.size line
      (subst₂ (λ a b. difference_fits p a b found.size ≡ true) (sym (converted_type x found.left)) (sym (converted_type y found.right)) h.0) h.1 h.2)

  moved_value : Gives known Moved (type_of x.value) (type_of y.value) found
      → ((p : Program) (f : FunctionTree) → Leads known p f → NodeFits Moved p op found.left found.right found.size found.ty × (fits p f Used (converted x found.left) ≡ true) × (fits p f Used (converted y found.right) ≡ true))
      → IsValue known Used (tree.Offset op (converted x found.left) (converted y found.right) found.size found.ty line) false (first_into x.into y.into)
  moved_value given fitting = record {
    stands = stands given;
    plain = offset_plain op (converted x found.left) (converted y found.right) found.size found.ty line;
    null = λ h. absurd (false≢true h);
    via = moved_via known Used Used op x y hx hy found line given;
    apart = λ h. absurd (true≢false (sym (pointer given) ∙ h));
    free = λ used n h. absurd (none_is h);
    fitting = λ p f l. let h = fitting p f l in offset_fits_by p f op (converted x found.left) (converted y found.right) found.size found.ty line
        (subst₂ (λ a b. offset_fits p op a b found.size found.ty ≡ true) (sym (converted_type x found.left)) (sym (converted_type y found.right)) h.0) h.1 h.2;
  }
    where
      stands : Gives known Moved (type_of x.value) (type_of y.value) found → Stands known found.ty
      stands (inl g) = subst (Stands known) (sym g.5) hx.stands
      stands (inr g) = subst (Stands known) (sym g.5) hy.stands

      pointer : Gives known Moved (type_of x.value) (type_of y.value) found → is_pointer found.ty ≡ true
      pointer (inl g) = ap is_pointer (g.5 ∙ g.2)
      pointer (inr g) = ap is_pointer (g.5 ∙ g.2)

  pub node_value : (node : Node) → Gives known node (type_of x.value) (type_of y.value) found
      → ((p : Program) (f : FunctionTree) → Leads known p f → NodeFits node p op found.left found.right found.size found.ty × (fits p f Used (converted x found.left) ≡ true) × (fits p f Used (converted y found.right) ≡ true))
      → IsValue known Used (binary_value node op (converted x found.left) (converted y found.right) found line) false (into_behind node x y)
  node_value Plain given fitting = plain_value given fitting
  node_value Moved given fitting = moved_value given fitting
  node_value Difference given fitting = difference_value fitting
