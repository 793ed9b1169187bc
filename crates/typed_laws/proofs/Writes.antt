-- Assignments, `++` and `--`, and calls: what the rules give fits.
use Rattle.std.proofs.Common.{◌≡◌, ℕ, Bool, true, false, not, ◌&&◌, ◌||◌, if◌then◌else◌, List, [], ◌∷◌, map, length, Option, Some, None, nat_eq, ◌⊎◌, inl, inr, refl, sym, ap, ◌∙◌, subst, arith}
use Rattle.std.specs.Prelude.{slice_get}
use Rattle.std.proofs.lemmas.Bool.{and_parts, and_from, or_parts, or_left, or_right, false≢true}
use Rattle.std.proofs.lemmas.Option.{same_Some}
use Rattle.c_ints.specs.Conversions.{common}
use Rattle.c_ints.specs.Operators.{compares}
use Rattle.c_ints.specs.declared.operators.BinOp.{BinOp}
use Rattle.c_ints.specs.declared.types.IntTy.TheVariants as int
use Rattle.c_token.specs.declared.token.Punct.{Punct}
use Rattle.c_token.specs.declared.token.Punct.TheVariants as marks
use Rattle.c_token.specs.declared.token.TokKind.{TokKind}
use Rattle.c_token.specs.declared.token.TokKind.TheVariants as kinds
use Rattle.c_typed.specs.Fits.{is_converted, reached_by, array_reach, goes_to, source_of, returns_type, params_of, fits, place_fits, arguments_fit, rule_holds, is_null, Used}
use Rattle.c_typed.specs.Rules.{is_writable, assign_fits, copy_fits, update_fits, step_fits, integer_update_fits, integer_step_fits, moves, moves_by}
use Rattle.c_typed.specs.Rules.{counts_in as counts}
use Rattle.c_typed.specs.Sameness.{same_int, same_type, is_array, is_struct, pointed}
use Rattle.c_typed.specs.Sound.{value_fits}
use Rattle.c_typed.specs.Trees as tree
use Rattle.c_typed.specs.Trees.{Expression, Expressions, Place, VariableTree, FunctionTree, Program}
use Rattle.c_typed.specs.Types.{type_of, place_type, type_bytes}
use Rattle.c_typed.specs.declared.expression.StepOp.{StepOp}
use Rattle.c_typed.specs.declared.types.Qualified.{Qualified}
use Rattle.c_typed.specs.declared.types.Ty.{Ty}
use Rattle.c_typed.specs.declared.types.Ty.TheVariants.{Void, Int, Pointer, Array, Struct}
use Rattle.type_rules.specs.Conversions.{converted, assigned}
use Rattle.type_rules.specs.Faults as kind
use Rattle.type_rules.specs.Faults.{Kind}
use Rattle.type_rules.specs.Known.{Signature, Known, tried, given, go_on}
use Rattle.type_rules.specs.Operations.{operation_of, compound_of, counts_in, element_bytes}
use Rattle.type_rules.specs.Rows.{bytes_of, is_complete}
use Rattle.type_rules.specs.Terms.{Reach, Form, ValueForm, PlaceForm, FunctionForm, TypeForm, Operand, Term, side_of, value_term, is_written}
use Rattle.type_rules.specs.Writes.{written_place, structure_read, copy, simple_assignment, keeps_type, compound_assignment, assignment_by, sign_operator, assignment, counted, stepped, function_named, signature_in, called, passed, call}
use Rattle.typed_laws.specs.Going.{Goes}
use Rattle.typed_laws.specs.Tables.{at, Each, Stands, Orderly, Begins, type_in, Leads, Adds}
use Rattle.typed_laws.specs.Terms.{IsAssigned, IsPlace, IsForm, IsOperand, IsTerm}
use Rattle.typed_laws.proofs.Assigning.{Updates, assigned_goes, compound_fits}
use Rattle.typed_laws.proofs.Growing.{stands_more, operand_more, leads_back}
use Rattle.typed_laws.proofs.Lists.{none_is, all_more}
use Rattle.typed_laws.proofs.Making.{simple, value_is}
use Rattle.typed_laws.proofs.Meeting.{whole_in, converted_type, converted_fits}
use Rattle.typed_laws.proofs.Operating.{chosen, operates, counts_rule}
use Rattle.typed_laws.proofs.Operators.{not_false}
use Rattle.typed_laws.proofs.Places.{goes_no_table}
use Rattle.typed_laws.proofs.Same.{same_type_is, same_type_refl, same_nat, same_nat_refl, same_int_refl}
use Rattle.typed_laws.proofs.Steps.{goes_given, goes_broken, goes_on, goes_test, goes_wanted}

abbrev counted_as : Ty → ℕ → Ty × ℕ
counted_as ty size = (ty, size)

-- ---- places that are written

pub record IsWritten (known : Known) (place : Place) : Type 0 where
  pub reach : Reach
  pub found : IsPlace known place reach
  pub constant : (place_type place).constant ≡ false
  pub array : is_array (place_type place).ty ≡ false

written_by : (known : Known) (b : Bool) (form_place place : Place) (reach : Reach) → (not ((place_type form_place).constant || is_array (place_type form_place).ty)) ≡ b → IsPlace known form_place reach → (if b then Some form_place else None) ≡ Some place → IsWritten known place
written_by known false q place reach e h is = absurd (none_is is)
written_by known true q place reach e h is =
    let free = or_parts (place_type q).constant (is_array (place_type q).ty) (not_true ((place_type q).constant || is_array (place_type q).ty) e) in
    subst (IsWritten known) (same_Some q place is) (record { reach = reach; found = h; constant = free.0; array = free.1 })
  where
    not_true : (b : Bool) → not b ≡ true → b ≡ false
    not_true true h = absurd (false≢true h)
    not_true false h = refl

written_is : (known : Known) (form : Form) (zero : Bool) (into : Option Reach) (place : Place) → IsForm known form zero into → written_place form ≡ Some place → IsWritten known place
written_is known (ValueForm e) zero into place h is = absurd (none_is is)
written_is known (FunctionForm number bare) zero into place h is = absurd (none_is is)
written_is known TypeForm zero into place h is = absurd (none_is is)
written_is known (PlaceForm q reach) zero into place h is = written_by known (is_written (PlaceForm q reach)) q place reach refl h.0 is

assign_is : (known : Known) (place : Place) (ty : Ty) → IsWritten known place → (place_type place).ty ≡ ty → assign_fits (place_type place) ty ≡ true
assign_is known place ty w is = and_from (not (place_type place).constant && not (is_array (place_type place).ty)) (same_type (place_type place).ty ty)
    (and_from (not (place_type place).constant) (not (is_array (place_type place).ty)) (ap not w.constant) (ap not w.array)) (ap (λ t. same_type t ty) is ∙ same_type_refl ty)

-- ---- nodes that fit where their parts do

assign_by : (p : Program) (f : FunctionTree) (place : Place) (value : Expression) (ty : Ty) (line : ℕ) → assign_fits (place_type place) ty ≡ true → value_fits p f ty value ≡ true → place_fits p f place ≡ true → fits p f Used (tree.Assign place value ty line) ≡ true
unfolding fits rule_holds
assign_by p f place value ty line a v fitting =
    let both = and_parts (goes_to p (source_of value) (type_of value) ty) (fits p f Used value) v in
    and_from (assign_fits (place_type place) ty && goes_to p (source_of value) (type_of value) ty) (place_fits p f place && fits p f Used value)
    (and_from (assign_fits (place_type place) ty) (goes_to p (source_of value) (type_of value) ty) a both.0) (and_from (place_fits p f place) (fits p f Used value) fitting both.1)

copy_by : (p : Program) (f : FunctionTree) (place from : Place) (size line : ℕ) → copy_fits p false (place_type place) (place_type from) size ≡ true → place_fits p f place ≡ true → place_fits p f from ≡ true → fits p f Used (tree.StructAssign place from size line) ≡ true
unfolding fits rule_holds
copy_by p f place from size line a b c = and_from (copy_fits p false (place_type place) (place_type from) size) (place_fits p f place && place_fits p f from) a (and_from (place_fits p f place) (place_fits p f from) b c)

update_by : (p : Program) (f : FunctionTree) (op : BinOp) (place : Place) (value : Expression) (operation : Ty) (size : ℕ) (ty : Ty) (line : ℕ) → update_fits p op (place_type place) (type_of value) operation size ty ≡ true → place_fits p f place ≡ true → fits p f Used value ≡ true
    → fits p f Used (tree.Update op place value operation size ty line) ≡ true
unfolding fits rule_holds
update_by p f op place value operation size ty line a b c = and_from (update_fits p op (place_type place) (type_of value) operation size ty) (place_fits p f place && fits p f Used value) a (and_from (place_fits p f place) (fits p f Used value) b c)

step_by : (p : Program) (f : FunctionTree) (op : StepOp) (place : Place) (operation : Ty) (size : ℕ) (ty : Ty) (line : ℕ) → step_fits p (place_type place) operation size ty ≡ true → place_fits p f place ≡ true → fits p f Used (tree.Step op place operation size ty line) ≡ true
unfolding fits rule_holds
step_by p f op place operation size ty line a b = and_from (step_fits p (place_type place) operation size ty) (place_fits p f place) a b

call_by : (p : Program) (f : FunctionTree) (n : ℕ) (arguments : Expressions) (ty : Ty) (line : ℕ) (g : FunctionTree) → slice_get p.functions n ≡ Some g → g.result ≡ ty → arguments_fit p f arguments g.params ≡ true → fits p f Used (tree.Call n arguments ty line) ≡ true
unfolding fits rule_holds
call_by p f n arguments ty line g found result passing = and_from (returns_type (slice_get p.functions n) ty) (arguments_fit p f arguments (params_of (slice_get p.functions n)))
    (ap (λ o. returns_type o ty) found ∙ (ap (λ t. same_type t ty) result ∙ same_type_refl ty)) (ap (λ o. arguments_fit p f arguments (params_of o)) found ∙ passing)

read_place : (p : Program) (f : FunctionTree) (from : Place) (ty : Ty) (line : ℕ) → fits p f Used (tree.Read from ty line) ≡ true → ((place_type from).ty ≡ ty) × (place_fits p f from ≡ true)
unfolding fits rule_holds
read_place p f from ty line h =
    let both = and_parts (same_type (place_type from).ty ty && not (is_array ty)) (place_fits p f from) h in
    (same_type_is (place_type from).ty ty (and_parts (same_type (place_type from).ty ty) (not (is_array ty)) both.0).0, both.1)

pub read_is : (e : Expression) (from : Place) → structure_read e ≡ Some from → (ty : Ty) × (line : ℕ) × (e ≡ tree.Read from ty line)
read_is (tree.Read place ty line) from h = (ty, line, ap (λ q. tree.Read q ty line) (same_Some place from h))
read_is (tree.Constant value line) from h = absurd (none_is h)
read_is (tree.Address place ty line) from h = absurd (none_is h)
read_is (tree.Convert operand ty line) from h = absurd (none_is h)
read_is (tree.Cast operand ty line) from h = absurd (none_is h)
read_is (tree.Unary op operand ty line) from h = absurd (none_is h)
read_is (tree.Binary op left right ty line) from h = absurd (none_is h)
read_is (tree.Offset op left right size ty line) from h = absurd (none_is h)
read_is (tree.Difference left right size line) from h = absurd (none_is h)
read_is (tree.Logical op left right line) from h = absurd (none_is h)
read_is (tree.Conditional condition chosen otherwise ty line) from h = absurd (none_is h)
read_is (tree.Comma left right ty line) from h = absurd (none_is h)
read_is (tree.Assign place value ty line) from h = absurd (none_is h)
read_is (tree.StructAssign place q size line) from h = absurd (none_is h)
read_is (tree.Update op place value operation size ty line) from h = absurd (none_is h)
read_is (tree.Step op place operation size ty line) from h = absurd (none_is h)
read_is (tree.Call function arguments ty line) from h = absurd (none_is h)

-- A structure that is read is a place of its type.
pub read_from : (p : Program) (f : FunctionTree) (e : Expression) (from : Place) → structure_read e ≡ Some from → fits p f Used e ≡ true → ((place_type from).ty ≡ type_of e) × (place_fits p f from ≡ true)
read_from p f e from h fitting =
    let w = read_is e from h in
    let both = read_place p f from w.0 w.1 (subst (λ x. fits p f Used x ≡ true) w.2 fitting) in
    (both.0 ∙ sym (ap type_of w.2), both.1)

complete_or : (known : Known) (ty : Ty) → is_array ty ≡ false → (is_complete known ty || is_array ty) ≡ true → is_complete known ty ≡ true
complete_or known ty other h = either (is_complete known ty) (is_array ty) other h
  where
    either : (a b : Bool) → b ≡ false → (a || b) ≡ true → a ≡ true
    either true b e h = refl
    either false b e h = absurd (false≢true (sym e ∙ h))

module _ (known : Known) (ts : List Qualified) (o : Orderly (at known ts)) where
  -- ---- `=`

  copied : (place : Place) (from : Place) (x : Operand) (number : ℕ) (line : ℕ) → IsWritten (at known ts) place → IsOperand (at known ts) Used x → (place_type place).ty ≡ Struct number
      → same_type (type_of x.value) (place_type place).ty ≡ true → structure_read x.value ≡ Some from
      → (p : Program) (f : FunctionTree) → Leads (at known ts) p f → fits p f Used (tree.StructAssign place from (bytes_of (at known ts) (place_type place).ty) line) ≡ true
  copied place from x number line w hx is same read p f l =
      let source = read_from p f x.value from read (hx.fitting p f l) in
      let size = (whole_in (at known ts) p l.begins o (place_type place).ty (w.found).stands (complete_or (at known ts) (place_type place).ty w.array (w.found).whole)).1 in
      copy_by p f place from (bytes_of (at known ts) (place_type place).ty) line
      (and_from (is_writable (place_type place)) (is_struct (place_type place).ty && (same_type (place_type place).ty (place_type from).ty && nat_eq (bytes_of (at known ts) (place_type place).ty) (type_bytes p.sizes (place_type place).ty)))
      (and_from (not (place_type place).constant) (not (is_array (place_type place).ty)) (ap not w.constant) (ap not w.array))
      (and_from (is_struct (place_type place).ty) (same_type (place_type place).ty (place_type from).ty && nat_eq (bytes_of (at known ts) (place_type place).ty) (type_bytes p.sizes (place_type place).ty)) (ap is_struct is)
      (and_from (same_type (place_type place).ty (place_type from).ty) (nat_eq (bytes_of (at known ts) (place_type place).ty) (type_bytes p.sizes (place_type place).ty))
      (ap (same_type (place_type place).ty) (source.0 ∙ same_type_is (type_of x.value) (place_type place).ty same) ∙ same_type_refl (place_type place).ty)
      (ap (nat_eq (bytes_of (at known ts) (place_type place).ty)) size ∙ same_nat_refl (bytes_of (at known ts) (place_type place).ty)))))
      ((w.found).fitting p f l) source.1

  copy_goes : (place : Place) (x : Operand) (number line : ℕ) → IsWritten (at known ts) place → IsOperand (at known ts) Used x → (place_type place).ty ≡ Struct number → Goes known ts (λ us t. IsTerm (at known us) t) (copy place x line (at known ts))
  unfolding is_converted reached_by array_reach
  copy_goes place x number line w hx is = goes_test known _ ts (not (same_type (type_of x.value) (place_type place).ty)) kind.Convert line _
      (λ same. goes_wanted known _ ts (structure_read x.value) kind.Convert line _
      (λ from read. goes_given known _ _ ts o (value_is (at known ts) _ line (simple (at known ts) (tree.StructAssign place from (bytes_of (at known ts) (place_type place).ty) line) tt refl refl refl refl
      (copied place from x number line w hx is (not_false (same_type (type_of x.value) (place_type place).ty) same) read)))))

  value_assigned : (place : Place) (x : Operand) (ty : Ty) (line : ℕ) → IsWritten (at known ts) place → IsOperand (at known ts) Used x → (place_type place).ty ≡ ty
      → Goes known ts (λ us t. IsTerm (at known us) t) (go_on (λ value. given (value_term (tree.Assign place value ty line) line)) (assigned x ty line (at known ts)))
  unfolding is_converted reached_by array_reach
  value_assigned place x ty line w hx is = goes_on known _ _ ts _ _ (assigned_goes known ts o x ty line hx (subst (Stands (at known ts)) is (w.found).stands))
      (λ e us adds ordered he. goes_given known _ _ us ordered (value_is (at known us) _ line (simple (at known us) (tree.Assign place e ty line) (stands_more known ts us adds ty (subst (Stands (at known ts)) is (w.found).stands)) refl refl refl refl
      (λ p f l. assign_by p f place e ty line (assign_is (at known ts) place ty w is) (he.fitting p f l) ((w.found).fitting p f (leads_back known ts us adds p f l))))))

  simple_goes : (ty : Ty) (place : Place) (x : Operand) (line : ℕ) → IsWritten (at known ts) place → IsOperand (at known ts) Used x → (place_type place).ty ≡ ty → Goes known ts (λ us t. IsTerm (at known us) t) (simple_assignment ty place x line (at known ts))
  simple_goes (Struct number) place x line w hx is = copy_goes place x number line w hx is
  simple_goes Void place x line w hx is = value_assigned place x Void line w hx is
  simple_goes (Int i) place x line w hx is = value_assigned place x (Int i) line w hx is
  simple_goes (Pointer row) place x line w hx is = value_assigned place x (Pointer row) line w hx is
  simple_goes (Array row n s) place x line w hx is = value_assigned place x (Array row n s) line w hx is

  -- ---- `op=`

  compound_goes : (op : BinOp) (place : Place) (x : Operand) (line : ℕ) → compares op ≡ false → IsWritten (at known ts) place → IsOperand (at known ts) Used x → Goes known ts (λ us t. IsTerm (at known us) t) (compound_assignment op place x line (at known ts))
  unfolding is_converted reached_by array_reach Updates
  compound_goes op place x line plain w hx = goes_wanted known _ ts (operation_of (at known ts) op (record { ty = (place_type place).ty; null = false }) (side_of x)) kind.Operand line _
      (λ found is. goes_test known _ ts (not (keeps_type found.node (place_type place).ty found.ty)) kind.Convert line _
      (λ kept. goes_given known _ _ ts o (value_is (at known ts) _ line (simple (at known ts) (tree.Update op place (converted x found.right) found.left found.size (place_type place).ty line) (w.found).stands refl refl refl refl
      (λ p f l.
      let both = operates (at known ts) p o l.begins false x.null false (is_null x.value) (λ e. e) hx.null op (place_type place).ty (type_of x.value) found (w.found).stands hx.stands is in
      update_by p f op place (converted x found.right) found.left found.size (place_type place).ty line
      (and_from (assign_fits (place_type place) (place_type place).ty) ((nat_eq found.size 0 && integer_update_fits op (place_type place).ty (type_of (converted x found.right)) found.left) || (moves_by op && (same_type found.left (place_type place).ty && moves p (place_type place).ty (type_of (converted x found.right)) found.size (place_type place).ty)))
      (assign_is (at known ts) place (place_type place).ty w refl)
      (subst (λ t. ((nat_eq found.size 0 && integer_update_fits op (place_type place).ty t found.left) || (moves_by op && (same_type found.left (place_type place).ty && moves p (place_type place).ty t found.size (place_type place).ty))) ≡ true) (sym (converted_type x found.right))
      (compound_fits (at known ts) p o l.begins op plain x.null (place_type place).ty (type_of x.value) found (w.found).stands is (not_false (keeps_type found.node (place_type place).ty found.ty) kept))))
      ((w.found).fitting p f l) (converted_fits p f x found.right hx.plain both.right (hx.fitting p f l)))))))

  compound_plain : (m : Punct) (op : BinOp) → compound_of m ≡ Some op → compares op ≡ false
  compound_plain marks.StarAssign op h = ap compares (sym (same_Some _ _ h))
  compound_plain marks.SlashAssign op h = ap compares (sym (same_Some _ _ h))
  compound_plain marks.PercentAssign op h = ap compares (sym (same_Some _ _ h))
  compound_plain marks.PlusAssign op h = ap compares (sym (same_Some _ _ h))
  compound_plain marks.MinusAssign op h = ap compares (sym (same_Some _ _ h))
  compound_plain marks.ShiftLeftAssign op h = ap compares (sym (same_Some _ _ h))
  compound_plain marks.ShiftRightAssign op h = ap compares (sym (same_Some _ _ h))
  compound_plain marks.AmpersandAssign op h = ap compares (sym (same_Some _ _ h))
  compound_plain marks.CaretAssign op h = ap compares (sym (same_Some _ _ h))
  compound_plain marks.BarAssign op h = ap compares (sym (same_Some _ _ h))
  compound_plain _ op h = absurd (none_is h)

  sign_plain : (sign : TokKind) (op : BinOp) → sign_operator sign ≡ Some op → compares op ≡ false
  sign_plain (kinds.Punct m) op h = compound_plain m op h
  sign_plain _ op h = absurd (none_is h)

  assignment_by_goes : (found : Option BinOp) (place : Place) (x : Operand) (line : ℕ) → ((op : BinOp) → found ≡ Some op → compares op ≡ false) → IsWritten (at known ts) place → IsOperand (at known ts) Used x → Goes known ts (λ us t. IsTerm (at known us) t) (assignment_by found place x line (at known ts))
  assignment_by_goes None place x line plain w hx = simple_goes (place_type place).ty place x line w hx refl
  assignment_by_goes (Some op) place x line plain w hx = compound_goes op place x line (plain op refl) w hx

  pub assignment_goes : (sign : TokKind) (target : Term) (x : Operand) → IsTerm (at known ts) target → IsOperand (at known ts) Used x → Goes known ts (λ us t. IsTerm (at known us) t) (assignment sign target x (at known ts))
  assignment_goes sign target x h hx = goes_wanted known _ ts (written_place target.form) kind.Assign target.start _
      (λ place is. assignment_by_goes (sign_operator sign) place x target.start (sign_plain sign) (written_is (at known ts) target.form target.null target.into place h.form is) hx)

  -- ---- `++` and `--`

  counted_fits : (p : Program) → Begins (at known ts) p → (ty : Ty) (found : Ty × ℕ) → Stands (at known ts) ty → counted (at known ts) ty ≡ Some found
      → ((nat_eq found.1 0 && integer_step_fits ty found.0) || (same_type found.0 ty && counts p (pointed p ty) found.1)) ≡ true
  counted_fits p begins Void found stands h = absurd (none_is h)
  counted_fits p begins (Array row n s) found stands h = absurd (none_is h)
  counted_fits p begins (Struct number) found stands h = absurd (none_is h)
  counted_fits p begins (Int i) found stands h = subst (λ (z : Ty × ℕ). ((nat_eq z.1 0 && integer_step_fits (Int i) z.0) || (same_type z.0 (Int i) && counts p None z.1)) ≡ true) (same_Some (counted_as (Int (common i int.Int)) 0) found h)
      (or_left (same_int (common i int.Int) (common i int.Int)) (same_int (common i int.Int) i && false) (same_int_refl (common i int.Int)))
  counted_fits p begins (Pointer row) found stands h = by_cases (chosen (counts_in (at known ts) row) (Some (counted_as (Pointer row) (element_bytes (at known ts) row))) None (Some found) h)
    where
      by_cases : ((counts_in (at known ts) row ≡ true) × (Some (counted_as (Pointer row) (element_bytes (at known ts) row)) ≡ Some found)) ⊎ ((counts_in (at known ts) row ≡ false) × (None ≡ Some found))
          → ((nat_eq found.1 0 && integer_step_fits (Pointer row) found.0) || (same_type found.0 (Pointer row) && counts p (slice_get p.targets row) found.1)) ≡ true
      by_cases (inl g) = subst (λ (z : Ty × ℕ). ((nat_eq z.1 0 && integer_step_fits (Pointer row) z.0) || (same_type z.0 (Pointer row) && counts p (slice_get p.targets row) z.1)) ≡ true) (same_Some _ _ g.1)
          (or_right (nat_eq (element_bytes (at known ts) row) 0 && false) (nat_eq row row && counts p (slice_get p.targets row) (element_bytes (at known ts) row))
          (and_from (nat_eq row row) (counts p (slice_get p.targets row) (element_bytes (at known ts) row)) (same_nat_refl row) (counts_rule (at known ts) p o begins row stands.0 stands.1 g.0)))
      by_cases (inr g) = absurd (none_is g.1)

  pub stepped_goes : (op : StepOp) (t : Term) (line : ℕ) → IsTerm (at known ts) t → Goes known ts (λ us t. IsTerm (at known us) t) (stepped op t line (at known ts))
  unfolding is_converted reached_by array_reach
  stepped_goes op t line h = goes_no_table known _ ts t.form t.line _
      (λ free. goes_wanted known _ ts (written_place t.form) kind.Assign line _
      (λ place written. goes_wanted known _ ts (counted (at known ts) (place_type place).ty) kind.Operand line _
      (λ found is.
      let w = written_is (at known ts) t.form t.null t.into place h.form written in
      goes_given known _ _ ts o (value_is (at known ts) _ line (simple (at known ts) (tree.Step op place found.0 found.1 (place_type place).ty line) (w.found).stands refl refl refl refl
      (λ p f l. step_by p f op place found.0 found.1 (place_type place).ty line
      (and_from (assign_fits (place_type place) (place_type place).ty) ((nat_eq found.1 0 && integer_step_fits (place_type place).ty found.0) || (same_type found.0 (place_type place).ty && counts p (pointed p (place_type place).ty) found.1))
      (assign_is (at known ts) place (place_type place).ty w refl) (counted_fits p l.begins (place_type place).ty found (w.found).stands is))
      ((w.found).fitting p f l)))))))

  -- ---- calls

  tested : (b : Bool) (k : Kind) (line : ℕ) → Goes known ts (λ us x. Unit {0}) (tried ((b, k) ∷ []) line (at known ts))
  tested true k line = goes_broken known _ ts _
  tested false k line = goes_given known _ _ ts o tt

  pub called_goes : (t : Term) → Goes known ts (λ us x. Unit {0}) (called t (at known ts))
  called_goes t = goes_no_table known _ ts t.form t.line _ (λ free. tested _ kind.Name t.line)

  signature_is : (found : Option ℕ) (s : Signature) → signature_in (at known ts) found ≡ Some s → (n : ℕ) × (slice_get known.signatures n ≡ Some s)
  signature_is None s h = absurd (none_is h)
  signature_is (Some n) s h = (n, h)

Passes : Known → List Ty → Expressions → Type 0
Passes known types es = (p : Program) (f : FunctionTree) → Leads known p f → (vs : List VariableTree) → map type_in vs ≡ types → arguments_fit p f es vs ≡ true

none_passed : (p : Program) (f : FunctionTree) (vs : List VariableTree) → map type_in vs ≡ [] → arguments_fit p f tree.NoExpression vs ≡ true
unfolding arguments_fit
none_passed p f [] is = refl
none_passed p f (v ∷ vs) is = absurd (cc is)

one_passed : (p : Program) (f : FunctionTree) (e : Expression) (es : Expressions) (ty : Ty) (types : List Ty) → value_fits p f ty e ≡ true → ((vs : List VariableTree) → map type_in vs ≡ types → arguments_fit p f es vs ≡ true)
    → (vs : List VariableTree) → map type_in vs ≡ ty ∷ types → arguments_fit p f (tree.AndExpression e es) vs ≡ true
unfolding arguments_fit
one_passed p f e es ty types value rest [] is = absurd (cc is)
one_passed p f e es ty types value rest (v ∷ vs) is =
    let head : type_in v ≡ ty = cc is in
    let tail : map type_in vs ≡ types = cc is in
    let both = and_parts (goes_to p (source_of e) (type_of e) ty) (fits p f Used e) value in
    and_from (goes_to p (source_of e) (type_of e) (type_in v)) (fits p f Used e && arguments_fit p f es vs) (ap (goes_to p (source_of e) (type_of e)) head ∙ both.0) (and_from (fits p f Used e) (arguments_fit p f es vs) both.1 (rest vs tail))

passes_none : (known : Known) → Passes known [] tree.NoExpression
unfolding Passes
passes_none known p f l vs is = none_passed p f vs is

passes_more : (known : Known) (ts us : List Qualified) → Adds ts us → (e : Expression) (es : Expressions) (ty : Ty) (types : List Ty) → IsAssigned (at known ts) ty e → Passes (at known us) types es → Passes (at known us) (ty ∷ types) (tree.AndExpression e es)
unfolding Passes
passes_more known ts us adds e es ty types he hes p f l vs is = one_passed p f e es ty types (he.fitting p f (leads_back known ts us adds p f l)) (hes p f l) vs is

passes_fit : (known : Known) (types : List Ty) (es : Expressions) → Passes known types es → (p : Program) (f : FunctionTree) → Leads known p f → (vs : List VariableTree) → map type_in vs ≡ types → arguments_fit p f es vs ≡ true
unfolding Passes
passes_fit known types es h = h

module _ (known : Known) where
  passed_goes : (xs : List Operand) (types : List Ty) (line : ℕ) (ts : List Qualified) → Orderly (at known ts) → Each (IsOperand (at known ts) Used) xs → Each (Stands (at known ts)) types → length types ≡ length xs
      → Goes known ts (λ us es. Passes (at known us) types es) (passed xs types line (at known ts))
  passed_goes [] [] line ts o hxs stands many = goes_given known _ _ ts o (passes_none (at known ts))
  passed_goes [] (ty ∷ types) line ts o hxs stands many = absurd (omega (arith, many))
  passed_goes (x ∷ xs) [] line ts o hxs stands many = absurd (omega (arith, many))
  passed_goes (x ∷ xs) (ty ∷ types) line ts o hxs stands many = goes_on known _ _ ts _ _ (assigned_goes known ts o x ty line hxs.0 stands.0)
      (λ e us adds ordered he. goes_on known _ _ us _ _ (passed_goes xs types line us ordered (all_more xs (operand_more known ts us adds Used) hxs.1) (all_more types (stands_more known ts us adds) stands.1) (omega (arith, many)))
      (λ es vs adds2 ordered2 hes. goes_given known _ _ vs ordered2 (passes_more known us vs adds2 e es ty types he hes)))

module _ (known : Known) (ts : List Qualified) (o : Orderly (at known ts)) where
  call_with : (t : Term) (arguments : List Operand) (s : Signature) (d : ℕ) → Each (IsOperand (at known ts) Used) arguments → signature_in (at known ts) (function_named t.form) ≡ Some s → s.definition ≡ Some d → length s.params ≡ length arguments
      → Goes known ts (λ us t. IsTerm (at known us) t) (go_on (λ values. given (value_term (tree.Call d values (s.result).ty t.start) t.start)) (passed arguments s.params t.start (at known ts)))
  unfolding is_converted reached_by array_reach
  call_with t arguments s d hs is defined many =
      let w = signature_is known ts o (function_named t.form) s is in
      let stands = o.results w.0 s w.1 in
      goes_on known _ _ ts _ _ (passed_goes known arguments s.params t.start ts o hs stands.1 many)
      (λ es us adds ordered hes. goes_given known _ _ us ordered (value_is (at known us) _ t.start (simple (at known us) (tree.Call d es (s.result).ty t.start) (stands_more known ts us adds (s.result).ty stands.0) refl refl refl refl
      (λ p f l. let g = (l.begins).functions w.0 d s w.1 defined in
      call_by p f d es (s.result).ty t.start g.0 g.1 g.2 (passes_fit (at known us) s.params es hes p f l (g.0).params g.3)))))

  pub call_goes : (t : Term) (arguments : List Operand) → Each (IsOperand (at known ts) Used) arguments → Goes known ts (λ us t. IsTerm (at known us) t) (call t arguments (at known ts))
  call_goes t arguments hs = goes_wanted known _ ts (signature_in (at known ts) (function_named t.form)) kind.Call t.start _
      (λ s is. goes_wanted known _ ts s.definition kind.Name t.start _
      (λ d defined. goes_test known _ ts (not (nat_eq (length s.params) (length arguments))) kind.Call t.start _
      (λ many. call_with t arguments s d hs is defined (same_nat (length s.params) (length arguments) (not_false (nat_eq (length s.params) (length arguments)) many)))))
