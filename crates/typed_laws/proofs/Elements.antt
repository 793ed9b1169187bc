-- `e[i]`: what the rules give fits, also where the array is const.
use Rattle.std.proofs.Common.{◌≡◌, ℕ, Bool, true, false, ◌&&◌, if◌then◌else◌, List, Some, inl, inr, refl, sym, ap, ◌∙◌, subst, subst₂}
use Rattle.std.specs.Prelude.{slice_get}
use Rattle.std.proofs.lemmas.Bool.{and_from}
use Rattle.std.proofs.lemmas.Option.{same_Some}
use Rattle.c_ints.specs.declared.operators.BinOp.TheVariants as binop
use Rattle.c_ints.specs.declared.types.IntTy.{IntTy}
use Rattle.c_typed.specs.Fits.{is_null, fits, rule_holds, Used, Pointed, Indexed}
use Rattle.c_typed.specs.Rules.{offset_fits}
use Rattle.c_typed.specs.Trees as tree
use Rattle.c_typed.specs.Trees.{Expression, FunctionTree, Program}
use Rattle.c_typed.specs.Types.{type_of}
use Rattle.c_typed.specs.declared.types.Qualified.{Qualified}
use Rattle.c_typed.specs.declared.types.Ty.{Ty}
use Rattle.c_typed.specs.declared.types.Ty.TheVariants.{Int, Pointer}
use Rattle.type_rules.specs.Conversions.{converted}
use Rattle.type_rules.specs.Faults as kind
use Rattle.type_rules.specs.Known.{Known, given, go_on}
use Rattle.type_rules.specs.Operations.{Node, Plain, Moved, Difference, Operation, operation_of, counts_in}
use Rattle.type_rules.specs.Places.{pointed_type, reach_behind, keeps_place, before_index, element_at, element}
use Rattle.type_rules.specs.Rows.{target_of, is_complete}
use Rattle.type_rules.specs.Terms.{Operand, Term, side_of, as_term, first_into, used}
use Rattle.typed_laws.specs.Going.{Goes}
use Rattle.typed_laws.specs.Meets.{Meets, NodeFits, Gives, Operates}
use Rattle.typed_laws.specs.Tables.{at, Stands, Orderly, Leads}
use Rattle.typed_laws.specs.Terms.{IsOperand, IsTerm}
use Rattle.typed_laws.proofs.Lists.{none_is}
use Rattle.typed_laws.proofs.Growing.{operand_more, term_more}
use Rattle.typed_laws.proofs.Making.{moved_via, converted_itself, not_pointer}
use Rattle.typed_laws.proofs.Meeting.{target_is, converted_type, converted_fits}
use Rattle.typed_laws.proofs.Operating.{gives, operates}
use Rattle.typed_laws.proofs.Places.{used_goes, indexed_goes, place_is, deref_place, first_of_reaches}
use Rattle.typed_laws.proofs.Standings.{fits_indexed, integer_used}
use Rattle.typed_laws.proofs.Steps.{goes_given, goes_on, goes_wanted}

offset_pointed_by : (p : Program) (f : FunctionTree) (l r : Expression) (size : ℕ) (ty : Ty) (line : ℕ) → offset_fits p binop.Add (type_of l) (type_of r) size ty ≡ true → fits p f Indexed l ≡ true → fits p f Indexed r ≡ true
    → fits p f Pointed (tree.Offset binop.Add l r size ty line) ≡ true
unfolding fits rule_holds
offset_pointed_by p f l r size ty line a b c = and_from (offset_fits p binop.Add (type_of l) (type_of r) size ty) (fits p f Indexed l && fits p f Indexed r) a (and_from (fits p f Indexed l) (fits p f Indexed r) b c)

-- an operand that stays as it is, and one that is converted
kept_side : (p : Program) (f : FunctionTree) (x : Operand) (ty : Ty) → ty ≡ type_of x.value → fits p f Indexed x.value ≡ true → fits p f Indexed (converted x ty) ≡ true
kept_side p f x ty is h = subst (λ e. fits p f Indexed e ≡ true) (sym (converted_itself x ty is)) h

turned_side : (p : Program) (f : FunctionTree) (known : Known) (x : Operand) (ty : Ty) (i : IntTy) → IsOperand known Indexed x → type_of x.value ≡ Int i → Meets p (is_null x.value) (type_of x.value) ty → fits p f Indexed x.value ≡ true → fits p f Indexed (converted x ty) ≡ true
turned_side p f known x ty i hx is meets h = fits_indexed p f (converted x ty) (converted_fits p f x ty hx.plain meets (integer_used p f x.value (not_pointer (type_of x.value) i is) h))

module _ (known : Known) (ts : List Qualified) (o : Orderly (at known ts)) (x y : Operand) (hx : IsOperand (at known ts) Indexed x) (hy : IsOperand (at known ts) Indexed y) (found : Operation) (line : ℕ) where
  sides : (p : Program) (f : FunctionTree) → Leads (at known ts) p f → Operates p (is_null x.value) (is_null y.value) (type_of x.value) (type_of y.value) binop.Add found → Gives (at known ts) Moved (type_of x.value) (type_of y.value) found
      → (fits p f Indexed (converted x found.left) ≡ true) × (fits p f Indexed (converted y found.right) ≡ true)
  sides p f l w (inl g) = (kept_side p f x found.left g.4 (hx.fitting p f l), turned_side p f (at known ts) y found.right g.1 hy g.3 w.right (hy.fitting p f l))
  sides p f l w (inr g) = (turned_side p f (at known ts) x found.left g.1 hx g.3 w.left (hx.fitting p f l), kept_side p f y found.right g.4 (hy.fitting p f l))

  row_of_moved : Gives (at known ts) Moved (type_of x.value) (type_of y.value) found → (row : ℕ) × (found.ty ≡ Pointer row) × Stands (at known ts) (Pointer row) × (counts_in (at known ts) row ≡ true)
  row_of_moved (inl g) = (g.0, g.5 ∙ g.2, subst (Stands (at known ts)) g.2 hx.stands, g.6)
  row_of_moved (inr g) = (g.0, g.5 ∙ g.2, subst (Stands (at known ts)) g.2 hy.stands, g.6)

  moved_element : (q : Qualified) → operation_of (at known ts) binop.Add (side_of x) (side_of y) ≡ Some found → found.node ≡ Moved → Gives (at known ts) Moved (type_of x.value) (type_of y.value) found → pointed_type (at known ts) found.ty ≡ Some q
      → IsTerm (at known ts) (element_at x y found q line)
  moved_element q is node g pointed =
      let w = row_of_moved g in
      let there : slice_get ts w.0 ≡ Some (w.2).0 = (w.2).1 in
      let target : target_of (at known ts) w.0 ≡ q = same_Some (target_of (at known ts) w.0) q (sym (ap (pointed_type (at known ts)) w.1) ∙ pointed) in
      let row : slice_get ts w.0 ≡ Some q = there ∙ ap Some (sym (target_is (at known ts) w.0 (w.2).0 there) ∙ target) in
      place_is known ts o _ (reach_behind (first_into x.into y.into)) line
      (deref_place known ts o (tree.Offset binop.Add (converted x found.left) (converted y found.right) found.size found.ty line) w.0 q (reach_behind (first_into x.into y.into)) line w.1 row
      (subst (λ (z : Qualified). is_complete (at known ts) z.ty ≡ true) target w.3)
      (λ t. first_of_reaches known ts o _ q.constant (moved_via (at known ts) Indexed Indexed binop.Add x y hx hy found line g w.0 q w.1 row t))
      (λ p f l.
      let rule = operates (at known ts) p o l.begins x.null y.null (is_null x.value) (is_null y.value) hx.null hy.null binop.Add (type_of x.value) (type_of y.value) found hx.stands hy.stands is in
      let both = sides p f l rule g in
      offset_pointed_by p f (converted x found.left) (converted y found.right) found.size found.ty line
      (subst₂ (λ a b. offset_fits p binop.Add a b found.size found.ty ≡ true) (sym (converted_type x found.left)) (sym (converted_type y found.right)) (subst (λ n. NodeFits n p binop.Add found.left found.right found.size found.ty) node rule.rule))
      both.0 both.1))

  element_by : (node : Node) (q : Qualified) → operation_of (at known ts) binop.Add (side_of x) (side_of y) ≡ Some found → found.node ≡ node → Gives (at known ts) node (type_of x.value) (type_of y.value) found → pointed_type (at known ts) found.ty ≡ Some q
      → IsTerm (at known ts) (element_at x y found q line)
  element_by Plain q is node g pointed = absurd (none_is (sym (ap (pointed_type (at known ts)) g.1) ∙ pointed))
  element_by Moved q is node g pointed = moved_element q is node g pointed
  element_by Difference q is node g pointed = absurd (none_is (sym (ap (pointed_type (at known ts)) g) ∙ pointed))

  pub element_is : (q : Qualified) → operation_of (at known ts) binop.Add (side_of x) (side_of y) ≡ Some found → pointed_type (at known ts) found.ty ≡ Some q → IsTerm (at known ts) (element_at x y found q line)
  element_is q is pointed = element_by found.node q is refl (gives (at known ts) binop.Add x.null y.null (type_of x.value) (type_of y.value) found is) pointed

module _ (known : Known) (ts : List Qualified) (o : Orderly (at known ts)) where
  as_term_is : (x : Operand) → IsOperand (at known ts) Used x → IsTerm (at known ts) (as_term x)
  as_term_is x h = record { form = h; list = tt }

  before_by : (b : Bool) (t : Term) → IsTerm (at known ts) t → Goes known ts (λ us t. IsTerm (at known us) t)
      ((if b then given t else (λ k. go_on (λ x. given (as_term x)) (used t k))) (at known ts))
  before_by true t h = goes_given known _ _ ts o h
  before_by false t h = goes_on known _ _ ts _ _ (used_goes known ts o t h) (λ x us adds ordered hx. goes_given known _ _ us ordered (record { form = hx; list = tt }))

  pub before_goes : (t : Term) → IsTerm (at known ts) t → Goes known ts (λ us t. IsTerm (at known us) t) (before_index t (at known ts))
  before_goes t h = before_by (keeps_place t.form) t h

module _ (known : Known) where
  pub element_goes : (ts : List Qualified) → Orderly (at known ts) → (whole index : Term) → IsTerm (at known ts) whole → IsTerm (at known ts) index → Goes known ts (λ us t. IsTerm (at known us) t) (element whole index (at known ts))
  element_goes ts o whole index hw hi = goes_on known _ _ ts _ _ (indexed_goes known ts o whole hw)
      (λ x us adds ordered hx. goes_on known _ _ us _ _ (indexed_goes known us ordered index (term_more known ts us adds index hi))
      (λ y vs adds2 ordered2 hy. goes_wanted known _ vs (operation_of (at known vs) binop.Add (side_of x) (side_of y)) kind.Operand whole.start _
      (λ found is. goes_wanted known _ vs (pointed_type (at known vs) found.ty) kind.Operand whole.start _
      (λ q pointed. goes_given known _ _ vs ordered2 (element_is known vs ordered2 x y (operand_more known us vs adds2 Indexed x hx) hy found whole.start q is pointed)))))
