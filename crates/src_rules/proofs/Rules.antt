-- What the typing rules say, as equations of types.
use Rattle.std.proofs.Common.{◌≡◌, ℕ, ◌⊎◌, inl, inr, Bool, true, false, ◌&&◌, ◌||◌, nat_eq, length, Option, Some, None, is_some, refl, sym, ap, ◌∙◌, subst, ⊎_elim}
use Rattle.std.proofs.lemmas.Bool.{and_parts, or_cases, false≢true, not-true}
use Rattle.c_ints.specs.declared.operators.BinOp.{BinOp}
use Rattle.c_ints.specs.declared.operators.UnOp.{UnOp}
use Rattle.c_typed.specs.Fits.{is_null, rule_holds, is_memory, is_reached, is_indexed}
use Rattle.c_typed.specs.Rules.{address_fits, start_fits, is_start, may_meet, convert_fits, cast_fits, unary_fits, binary_fits, counts_in, point_alike, moves, offset_fits, integer_update_fits, integer_step_fits, moves_by}
use Rattle.c_typed.specs.Sameness.{same_type, is_void, is_int, is_pointer, is_array, is_index, pointed, element_of, is_the}
use Rattle.c_typed.specs.Trees as tree
use Rattle.c_typed.specs.Trees.{Expression, Place, Program}
use Rattle.c_typed.specs.Types.{type_of, place_type}
use Rattle.c_typed.specs.declared.expression.StepOp.{StepOp}
use Rattle.c_typed.specs.declared.types.Qualified.{Qualified}
use Rattle.c_typed.specs.declared.types.Ty.{Ty}
use Rattle.c_typed.specs.declared.types.Ty.TheVariants as types
use Rattle.src_rules.proofs.Values.{same_type_is}
use Rattle.src_rules.specs.Parts.{Obeys}

-- ---- reads and addresses
pub read_rule : (p : Program) (place : Place) (ty : Ty) (line : ℕ) → Obeys p (tree.Read place ty line) → ((place_type place).ty ≡ ty) × (is_array ty ≡ false)
unfolding rule_holds
read_rule p place ty line h = let g = and_parts _ _ h.1 in (same_type_is _ _ g.0, not-true _ g.1)

pub the_pointer : (p : Program) (ty : Ty) (q : Qualified) → is_the (pointed p ty) q ≡ true → is_pointer ty ≡ true
the_pointer p types.Void q e = absurd (false≢true e)
the_pointer p (types.Int a) q e = absurd (false≢true e)
the_pointer p (types.Pointer row) q e = refl
the_pointer p (types.Array a m x) q e = absurd (false≢true e)
the_pointer p (types.Struct n) q e = absurd (false≢true e)

start_array : (p : Program) (whole : Qualified) (from ty : Ty) → is_start p whole ty (element_of p whole from) ≡ true → is_array from ≡ true
start_array p whole types.Void ty e = absurd (false≢true e)
start_array p whole (types.Int a) ty e = absurd (false≢true e)
start_array p whole (types.Pointer row) ty e = absurd (false≢true e)
start_array p whole (types.Array a m x) ty e = refl
start_array p whole (types.Struct n) ty e = absurd (false≢true e)

start_pointer : (p : Program) (whole : Qualified) (ty : Ty) (o : Option Qualified) → is_start p whole ty o ≡ true → is_pointer ty ≡ true
start_pointer p whole ty None e = absurd (false≢true e)
start_pointer p whole ty (Some q) e = the_pointer p ty q e

-- an address is that of a place in memory
abbrev pub IsAddressed : Place → Ty → Type 0
IsAddressed place ty = (is_pointer ty ≡ true) × ((is_memory place ≡ true) ⊎ (is_array (place_type place).ty ≡ true))

by_place : (p : Program) (memory reached : Bool) (place : Place) (ty : Ty) → memory ≡ is_memory place → address_fits p memory reached (place_type place) ty ≡ true → IsAddressed place ty
by_place p memory reached place ty is e = let g = and_parts _ _ e in (the_pointer p ty (place_type place) g.0, inl (sym is ∙ (and_parts _ _ g.1).0))

by_start : (p : Program) (indexed reached : Bool) (place : Place) (ty : Ty) → start_fits p indexed reached (place_type place) ty ≡ true → IsAddressed place ty
by_start p indexed reached place ty e = let g = and_parts _ _ e in (start_pointer p (place_type place) ty _ g.0, inr (start_array p (place_type place) (place_type place).ty ty g.0))

pub address_rule : (p : Program) (place : Place) (ty : Ty) (line : ℕ) → Obeys p (tree.Address place ty line) → IsAddressed place ty
unfolding rule_holds
address_rule p place ty line h =
    ⊎_elim (by_place p (is_memory place) (is_reached place) place ty refl) (by_start p (is_indexed h.0) (is_reached place) place ty)
    (or_cases (address_fits p (is_memory place) (is_reached place) (place_type place) ty) (start_fits p (is_indexed h.0) (is_reached place) (place_type place) ty) h.1)

-- ---- conversions
-- a value of the one type can be converted to the other
abbrev pub Converts : Ty → Ty → Type 0
Converts from types.Void = Unit {0}
Converts from (types.Int ty) = is_pointer from ≡ false
Converts from (types.Pointer row) = Unit {0}
Converts from (types.Array element length size) = ⊥
Converts from (types.Struct number) = ⊥

meets_none : (a : Option Qualified) → may_meet a None ≡ true → ⊥
meets_none None e = false≢true e
meets_none (Some a) e = false≢true e

int_apart : (from : Ty) → is_int from ≡ true → is_pointer from ≡ false
int_apart types.Void e = refl
int_apart (types.Int a) e = refl
int_apart (types.Pointer row) e = absurd (false≢true e)
int_apart (types.Array a m x) e = refl
int_apart (types.Struct n) e = refl

-- where the target is no pointer, only an integer is converted
only_ints : (p : Program) (null : Bool) (from to : Ty) → pointed p to ≡ None → ((is_int from && is_int to) || ((null && is_some (pointed p to)) || may_meet (pointed p from) (pointed p to))) ≡ true → (is_int from ≡ true) × (is_int to ≡ true)
only_ints p null from to none h =
    ⊎_elim
    (λ e. and_parts _ _ e)
    (λ e. absurd (⊎_elim (λ d. false≢true (ap is_some (sym none) ∙ (and_parts null _ d).1)) (λ d. meets_none (pointed p from) (subst (λ o. may_meet (pointed p from) o ≡ true) none d)) (or_cases _ _ e)))
    (or_cases _ _ h)

convert_to : (p : Program) (null : Bool) (from to : Ty) → convert_fits p null from to ≡ true → Converts from to
convert_to p null from types.Void h = tt
convert_to p null from (types.Int ty) h = int_apart from (only_ints p null from (types.Int ty) refl (and_parts _ _ h).1).0
convert_to p null from (types.Pointer row) h = tt
convert_to p null from (types.Array a m x) h = absurd (false≢true (only_ints p null from (types.Array a m x) refl (and_parts _ _ h).1).1)
convert_to p null from (types.Struct n) h = absurd (false≢true (only_ints p null from (types.Struct n) refl (and_parts _ _ h).1).1)

pub convert_rule : (p : Program) (operand : Expression) (ty : Ty) (line : ℕ) → Obeys p (tree.Convert operand ty line) → Converts (type_of operand) ty
unfolding rule_holds
convert_rule p operand ty line h = convert_to p (is_null operand) (type_of operand) ty (and_parts _ _ h.1).1

cast_ints : (p : Program) (null : Bool) (from to : Ty) → pointed p to ≡ None → is_void to ≡ false → cast_fits p null from to ≡ true → (is_int from ≡ true) × (is_int to ≡ true)
cast_ints p null from to none void h =
    ⊎_elim
    (λ e. absurd (false≢true (sym void ∙ e)))
    (λ e. ⊎_elim (λ d. and_parts _ _ d) (λ d. absurd (false≢true (ap is_some (sym none) ∙ (and_parts _ _ d).0))) (or_cases _ _ e))
    (or_cases _ _ h)

cast_to : (p : Program) (null : Bool) (from to : Ty) → cast_fits p null from to ≡ true → Converts from to
cast_to p null from types.Void h = tt
cast_to p null from (types.Int ty) h = int_apart from (cast_ints p null from (types.Int ty) refl refl h).0
cast_to p null from (types.Pointer row) h = tt
cast_to p null from (types.Array a m x) h = absurd (false≢true (cast_ints p null from (types.Array a m x) refl refl h).1)
cast_to p null from (types.Struct n) h = absurd (false≢true (cast_ints p null from (types.Struct n) refl refl h).1)

pub cast_rule : (p : Program) (operand : Expression) (ty : Ty) (line : ℕ) → Obeys p (tree.Cast operand ty line) → Converts (type_of operand) ty
unfolding rule_holds
cast_rule p operand ty line h = cast_to p (is_null operand) (type_of operand) ty h.1

-- ---- operators
pub unary_rule : (p : Program) (op : UnOp) (operand : Expression) (ty : Ty) (line : ℕ) → Obeys p (tree.Unary op operand ty line) → unary_fits op (type_of operand) ty ≡ true
unfolding rule_holds
unary_rule p op operand ty line h = h.1

pub binary_rule : (p : Program) (op : BinOp) (left right : Expression) (ty : Ty) (line : ℕ) → Obeys p (tree.Binary op left right ty line) → binary_fits p op (type_of left) (type_of right) ty ≡ true
unfolding rule_holds
binary_rule p op left right ty line h = h.1

pub offset_rule : (p : Program) (op : BinOp) (left right : Expression) (size : ℕ) (ty : Ty) (line : ℕ) → Obeys p (tree.Offset op left right size ty line) → offset_fits p op (type_of left) (type_of right) size ty ≡ true
unfolding rule_holds
offset_rule p op left right size ty line h = h.1

pointed_pointer : (p : Program) (ty : Ty) (b : Option Qualified) → point_alike (pointed p ty) b ≡ true → is_pointer ty ≡ true
pointed_pointer p types.Void b e = absurd (false≢true e)
pointed_pointer p (types.Int a) b e = absurd (false≢true e)
pointed_pointer p (types.Pointer row) b e = refl
pointed_pointer p (types.Array a m x) b e = absurd (false≢true e)
pointed_pointer p (types.Struct n) b e = absurd (false≢true e)

alike_second : (p : Program) (a : Option Qualified) (ty : Ty) → point_alike a (pointed p ty) ≡ true → is_pointer ty ≡ true
alike_second p None ty e = absurd (false≢true e)
alike_second p (Some a) types.Void e = absurd (false≢true e)
alike_second p (Some a) (types.Int b) e = absurd (false≢true e)
alike_second p (Some a) (types.Pointer row) e = refl
alike_second p (Some a) (types.Array b m x) e = absurd (false≢true e)
alike_second p (Some a) (types.Struct n) e = absurd (false≢true e)

pub alike_pointers : (p : Program) (left right : Ty) → point_alike (pointed p left) (pointed p right) ≡ true → (is_pointer left ≡ true) × (is_pointer right ≡ true)
alike_pointers p left right e = (pointed_pointer p left _ e, alike_second p (pointed p left) right e)

pub difference_rule : (p : Program) (left right : Expression) (size line : ℕ) → Obeys p (tree.Difference left right size line) → (is_pointer (type_of left) ≡ true) × (is_pointer (type_of right) ≡ true)
unfolding rule_holds
difference_rule p left right size line h = alike_pointers p (type_of left) (type_of right) (and_parts _ _ h.1).0

pub choice_rule : (p : Program) (condition chosen otherwise : Expression) (ty : Ty) (line : ℕ) → Obeys p (tree.Conditional condition chosen otherwise ty line) → (type_of chosen ≡ ty) × (type_of otherwise ≡ ty)
unfolding rule_holds
choice_rule p condition chosen otherwise ty line h =
    let g = and_parts _ _ (and_parts _ _ (and_parts _ _ h.1).1).0 in
    (same_type_is _ _ g.0, same_type_is _ _ (and_parts _ _ g.1).0)

pub comma_rule : (p : Program) (left right : Expression) (ty : Ty) (line : ℕ) → Obeys p (tree.Comma left right ty line) → type_of right ≡ ty
unfolding rule_holds
comma_rule p left right ty line h = same_type_is _ _ h.1

-- ---- assignments
pub assign_rule : (p : Program) (place : Place) (value : Expression) (ty : Ty) (line : ℕ) → Obeys p (tree.Assign place value ty line) → ((place_type place).ty ≡ ty) × (type_of value ≡ ty)
unfolding rule_holds
assign_rule p place value ty line h =
    let g = and_parts _ _ h.1 in
    (same_type_is _ _ (and_parts _ _ g.0).1, same_type_is _ _ (and_parts _ _ (and_parts _ _ g.1).1).0)

-- an update of an integer, or of a pointer
abbrev pub IsUpdate : Program → BinOp → Ty → Ty → ℕ → Ty → Type 0
IsUpdate p op value operation size ty = (integer_update_fits op ty value operation ≡ true) ⊎ ((operation ≡ ty) × (moves p ty value size ty ≡ true))

update_int : (p : Program) (op : BinOp) (value operation : Ty) (size : ℕ) (ty : Ty) → (nat_eq size 0 && integer_update_fits op ty value operation) ≡ true → IsUpdate p op value operation size ty
update_int p op value operation size ty e = inl (and_parts _ _ e).1

update_pointer : (p : Program) (op : BinOp) (value operation : Ty) (size : ℕ) (ty : Ty) → (moves_by op && (same_type operation ty && moves p ty value size ty)) ≡ true → IsUpdate p op value operation size ty
update_pointer p op value operation size ty e = let d = and_parts _ _ (and_parts _ _ e).1 in inr (same_type_is _ _ d.0, d.1)

pub update_rule : (p : Program) (op : BinOp) (place : Place) (value : Expression) (operation : Ty) (size : ℕ) (ty : Ty) (line : ℕ) → Obeys p (tree.Update op place value operation size ty line)
    → ((place_type place).ty ≡ ty) × IsUpdate p op (type_of value) operation size ty
unfolding rule_holds
update_rule p op place value operation size ty line h =
    let g = and_parts _ _ h.1 in (
      same_type_is _ _ (and_parts _ _ g.0).1,
      ⊎_elim (update_int p op (type_of value) operation size ty) (update_pointer p op (type_of value) operation size ty)
          (or_cases (nat_eq size 0 && integer_update_fits op ty (type_of value) operation) (moves_by op && (same_type operation ty && moves p ty (type_of value) size ty)) g.1),
    )

-- a step of an integer, or of a pointer
abbrev pub IsStep : Program → Ty → Ty → Type 0
IsStep p operation ty = (integer_step_fits ty operation ≡ true) ⊎ ((operation ≡ ty) × (is_pointer ty ≡ true))

step_int : (p : Program) (operation : Ty) (size : ℕ) (ty : Ty) → (nat_eq size 0 && integer_step_fits ty operation) ≡ true → IsStep p operation ty
step_int p operation size ty e = inl (and_parts _ _ e).1

counted_pointer : (p : Program) (ty : Ty) (size : ℕ) → counts_in p (pointed p ty) size ≡ true → is_pointer ty ≡ true
counted_pointer p types.Void size e = absurd (false≢true e)
counted_pointer p (types.Int a) size e = absurd (false≢true e)
counted_pointer p (types.Pointer row) size e = refl
counted_pointer p (types.Array a m x) size e = absurd (false≢true e)
counted_pointer p (types.Struct n) size e = absurd (false≢true e)

step_pointer : (p : Program) (operation : Ty) (size : ℕ) (ty : Ty) → (same_type operation ty && counts_in p (pointed p ty) size) ≡ true → IsStep p operation ty
step_pointer p operation size ty e = let d = and_parts _ _ e in inr (same_type_is _ _ d.0, counted_pointer p ty size d.1)

pub step_rule : (p : Program) (op : StepOp) (place : Place) (operation : Ty) (size : ℕ) (ty : Ty) (line : ℕ) → Obeys p (tree.Step op place operation size ty line)
    → ((place_type place).ty ≡ ty) × IsStep p operation ty
unfolding rule_holds
step_rule p op place operation size ty line h =
    let g = and_parts _ _ h.1 in (
      same_type_is _ _ (and_parts _ _ g.0).1,
      ⊎_elim (step_int p operation size ty) (step_pointer p operation size ty)
          (or_cases (nat_eq size 0 && integer_step_fits ty operation) (same_type operation ty && counts_in p (pointed p ty) size) g.1),
    )

-- an index moves a pointer, and what comes of it has the pointer's type
pub moves_rule : (p : Program) (pointer index : Ty) (size : ℕ) (ty : Ty) → moves p pointer index size ty ≡ true → (is_pointer pointer ≡ true) × (is_pointer index ≡ false) × (pointer ≡ ty)
moves_rule p pointer index size ty e =
    let g = and_parts _ _ e in
    let d = and_parts _ _ g.1 in
    (counted_pointer p pointer size d.0, index_apart index g.0, same_type_is _ _ d.1)
  where
    index_apart : (t : Ty) → is_index t ≡ true → is_pointer t ≡ false
    index_apart types.Void e = refl
    index_apart (types.Int a) e = refl
    index_apart (types.Pointer row) e = absurd (false≢true e)
    index_apart (types.Array a m x) e = refl
    index_apart (types.Struct n) e = refl
