-- The typing rules hold in a program with more rows of types and more functions, whatever stands in the functions' bodies.
use Rattle.std.proofs.Common.{◌≡◌, ℕ, Bool, true, false, not, cond, ◌&&◌, ◌||◌, nat_eq, List, Option, Some, None, refl, sym, ap, ◌∙◌, is_some, slice_get}
use Rattle.std.proofs.lemmas.Bool.{and_parts, and_from, or_left, or_right, false≢true}
use Rattle.std.proofs.lemmas.Option.{none-some}
use Rattle.c_ints.specs.declared.operators.BinOp.{BinOp}
use Rattle.c_ints.specs.declared.operators.BinOp.TheVariants as binop
use Rattle.c_ints.specs.Operators.{compares}
use Rattle.c_typed.specs.Fits.{Standing, keeps_from, goes_to, assigned_fits, leads_fits, is_indexed, member_at}
use Rattle.c_typed.specs.Rules.{address_fits, is_start, start_fits, may_meet, point_alike, keeps, convert_fits, cast_fits, pointers_fit, integers_fit, counts_in, moves, offset_fits, difference_fits, assign_fits, moves_by, integer_update_fits, update_fits, integer_step_fits, step_fits, deref_fits}
use Rattle.c_typed.specs.Sameness.{same_type, is_void, is_int, is_pointer, is_scalar, is_index, is_plain_int, pointed, part_of, element_of, is_the, is_complete}
use Rattle.c_typed.specs.Trees.{FunctionTree, Program}
use Rattle.c_typed.specs.Types.{type_bytes}
use Rattle.c_typed.specs.declared.types.Qualified.{Qualified}
use Rattle.c_typed.specs.declared.types.Ty.{Ty}
use Rattle.c_typed.specs.declared.types.Ty.TheVariants.{Void, Int, Pointer, Array, Struct}

-- ---- tests that hold more often
pub both_hold : (a b c d : Bool) → (a ≡ true → c ≡ true) → (b ≡ true → d ≡ true) → (a && b) ≡ true → (c && d) ≡ true
both_hold a b c d f g h = let k = and_parts a b h in and_from c d (f k.0) (g k.1)

pub second_holds : (a b d : Bool) → (b ≡ true → d ≡ true) → (a && b) ≡ true → (a && d) ≡ true
second_holds a b d g h = let k = and_parts a b h in and_from a d k.0 (g k.1)

pub first_holds : (a b c : Bool) → (a ≡ true → c ≡ true) → (a && b) ≡ true → (c && b) ≡ true
first_holds a b c f h = let k = and_parts a b h in and_from c b (f k.0) k.1

pub one_holds : (a b c d : Bool) → (a ≡ true → c ≡ true) → (b ≡ true → d ≡ true) → (a || b) ≡ true → (c || d) ≡ true
one_holds true b c d f g h = or_left c d (f refl)
one_holds false b c d f g h = or_right c d (g h)

-- what is found stays found
abbrev pub Stays : {A : Type 0} → Option A → Option A → Type 0
Stays {A} a b = (x : A) → a ≡ Some x → b ≡ Some x

pub found_holds : {A : Type 0} (test : Option A → Bool) → test None ≡ false → (a b : Option A) → Stays a b → test a ≡ true → test b ≡ true
found_holds test none None b stays h = absurd (false≢true (sym none ∙ h))
found_holds test none (Some x) b stays h = ap test (stays x refl) ∙ h

pair_holds : (test : Option Qualified → Option Qualified → Bool) → ((d : Option Qualified) → test None d ≡ false) → ((x : Qualified) → test (Some x) None ≡ false) → (a b c d : Option Qualified) → Stays a b → Stays c d → test a c ≡ true → test b d ≡ true
pair_holds test none neither None b c d first second h = absurd (false≢true (sym (none c) ∙ h))
pair_holds test none neither (Some x) b c d first second h = ap (λ o. test o d) (first x refl) ∙ found_holds (test (Some x)) (neither x) c d second h

-- A program with the same objects and structures, more rows and more functions.
abbrev pub wider : Program → List Qualified → List FunctionTree → Program
wider p rows functions = record { targets = rows; structures = p.structures; sizes = p.sizes; statics = p.statics; functions = functions }

module _ (p : Program) (rows : List Qualified) (functions : List FunctionTree) (more : (n : ℕ) → Stays (slice_get p.targets n) (slice_get rows n)) where
  pub pointed_stays : (ty : Ty) → Stays (pointed p ty) (pointed (wider p rows functions) ty)
  pointed_stays (Pointer row) x is = more row x is
  pointed_stays Void x is = absurd (none-some x is)
  pointed_stays (Int ty) x is = absurd (none-some x is)
  pointed_stays (Array element count size) x is = absurd (none-some x is)
  pointed_stays (Struct number) x is = absurd (none-some x is)

  part_stays : (whole : Qualified) (a b : Option Qualified) → Stays a b → Stays (part_of whole a) (part_of whole b)
  part_stays whole None b stays x is = absurd (none-some x is)
  part_stays whole (Some y) b stays x is = ap (part_of whole) (stays y refl) ∙ is

  element_stays : (whole : Qualified) (ty : Ty) → Stays (element_of p whole ty) (element_of (wider p rows functions) whole ty)
  element_stays whole (Array element count size) x is = part_stays whole (slice_get p.targets element) (slice_get rows element) (more element) x is
  element_stays whole Void x is = absurd (none-some x is)
  element_stays whole (Int ty) x is = absurd (none-some x is)
  element_stays whole (Pointer row) x is = absurd (none-some x is)
  element_stays whole (Struct number) x is = absurd (none-some x is)

  pub complete_same : (ty : Ty) → is_complete (wider p rows functions) ty ≡ is_complete p ty
  complete_same Void = refl
  complete_same (Int ty) = refl
  complete_same (Pointer row) = refl
  complete_same (Array element count size) = refl
  complete_same (Struct number) = refl

  pub member_same : (ty : Ty) (number : ℕ) → member_at (wider p rows functions) ty number ≡ member_at p ty number
  member_same Void number = refl
  member_same (Int ty) number = refl
  member_same (Pointer row) number = refl
  member_same (Array element count size) number = refl
  member_same (Struct n) number = refl

  -- what a pointer leads to
  the_holds : (ty : Ty) (q : Qualified) → is_the (pointed p ty) q ≡ true → is_the (pointed (wider p rows functions) ty) q ≡ true
  the_holds ty q = found_holds (λ o. is_the o q) refl (pointed p ty) (pointed (wider p rows functions) ty) (pointed_stays ty)

  there_holds : (ty : Ty) → is_some (pointed p ty) ≡ true → is_some (pointed (wider p rows functions) ty) ≡ true
  there_holds ty = found_holds (λ o. is_some o) refl (pointed p ty) (pointed (wider p rows functions) ty) (pointed_stays ty)

  -- ---- rules
  address_holds : (memory reached : Bool) (place : Qualified) (ty : Ty) → address_fits p memory reached place ty ≡ true → address_fits (wider p rows functions) memory reached place ty ≡ true
  address_holds memory reached place ty = first_holds (is_the (pointed p ty) place) (memory && (reached || not place.constant)) (is_the (pointed (wider p rows functions) ty) place) (the_holds ty place)

  start_of : (place : Qualified) (ty : Ty) (element : Option Qualified) → is_start p place ty element ≡ true → is_start (wider p rows functions) place ty element ≡ true
  start_of place ty None h = absurd (false≢true h)
  start_of place ty (Some element) h = the_holds ty element h

  start_holds : (indexed reached : Bool) (place : Qualified) (ty : Ty) → start_fits p indexed reached place ty ≡ true → start_fits (wider p rows functions) indexed reached place ty ≡ true
  start_holds indexed reached place ty = first_holds (is_start p place ty (element_of p place place.ty)) (indexed || (reached || not place.constant)) (is_start (wider p rows functions) place ty (element_of (wider p rows functions) place place.ty))
      (λ h. found_holds (is_start (wider p rows functions) place ty) refl (element_of p place place.ty) (element_of (wider p rows functions) place place.ty) (element_stays place place.ty) (start_of place ty (element_of p place place.ty) h))

  pub leads_holds : (standing : Standing) (memory reached : Bool) (place : Qualified) (ty : Ty) → leads_fits p standing memory reached place ty ≡ true → leads_fits (wider p rows functions) standing memory reached place ty ≡ true
  leads_holds standing memory reached place ty = one_holds (address_fits p memory reached place ty) (start_fits p (is_indexed standing) reached place ty) (address_fits (wider p rows functions) memory reached place ty) (start_fits (wider p rows functions) (is_indexed standing) reached place ty) (address_holds memory reached place ty) (start_holds (is_indexed standing) reached place ty)

  meet_holds : (from to : Ty) → may_meet (pointed p from) (pointed p to) ≡ true → may_meet (pointed (wider p rows functions) from) (pointed (wider p rows functions) to) ≡ true
  meet_holds from to = pair_holds may_meet (λ d. refl) (λ x. refl) (pointed p from) (pointed (wider p rows functions) from) (pointed p to) (pointed (wider p rows functions) to) (pointed_stays from) (pointed_stays to)

  alike_holds : (from to : Ty) → point_alike (pointed p from) (pointed p to) ≡ true → point_alike (pointed (wider p rows functions) from) (pointed (wider p rows functions) to) ≡ true
  alike_holds from to = pair_holds point_alike (λ d. refl) (λ x. refl) (pointed p from) (pointed (wider p rows functions) from) (pointed p to) (pointed (wider p rows functions) to) (pointed_stays from) (pointed_stays to)

  keeps_holds : (from to : Ty) → keeps (pointed p from) (pointed p to) ≡ true → keeps (pointed (wider p rows functions) from) (pointed (wider p rows functions) to) ≡ true
  keeps_holds from to = pair_holds keeps (λ d. refl) (λ x. refl) (pointed p from) (pointed (wider p rows functions) from) (pointed p to) (pointed (wider p rows functions) to) (pointed_stays from) (pointed_stays to)

  keeps_from_holds : (from : Option Ty) (to : Ty) → keeps_from p from to ≡ true → keeps_from (wider p rows functions) from to ≡ true
  keeps_from_holds None to h = h
  keeps_from_holds (Some from) to h = one_holds (not (is_pointer to)) (keeps (pointed p from) (pointed p to)) (not (is_pointer to)) (keeps (pointed (wider p rows functions) from) (pointed (wider p rows functions) to)) (λ e. e) (keeps_holds from to) h

  pub goes_to_holds : (from : Option Ty) (value to : Ty) → goes_to p from value to ≡ true → goes_to (wider p rows functions) from value to ≡ true
  goes_to_holds from value to = second_holds (is_scalar to) (same_type value to && keeps_from p from to) (same_type value to && keeps_from (wider p rows functions) from to) (second_holds (same_type value to) (keeps_from p from to) (keeps_from (wider p rows functions) from to) (keeps_from_holds from to))

  pub assigned_holds : (place : Qualified) (from : Option Ty) (value ty : Ty) → assigned_fits p place from value ty ≡ true → assigned_fits (wider p rows functions) place from value ty ≡ true
  assigned_holds place from value ty = second_holds (assign_fits place ty) (goes_to p from value ty) (goes_to (wider p rows functions) from value ty) (goes_to_holds from value ty)

  pub convert_holds : (null : Bool) (from to : Ty) → convert_fits p null from to ≡ true → convert_fits (wider p rows functions) null from to ≡ true
  convert_holds null from to = second_holds (not (same_type from to)) ((is_int from && is_int to) || ((null && is_some (pointed p to)) || may_meet (pointed p from) (pointed p to))) ((is_int from && is_int to) || ((null && is_some (pointed (wider p rows functions) to)) || may_meet (pointed (wider p rows functions) from) (pointed (wider p rows functions) to)))
      (one_holds (is_int from && is_int to) ((null && is_some (pointed p to)) || may_meet (pointed p from) (pointed p to)) (is_int from && is_int to) ((null && is_some (pointed (wider p rows functions) to)) || may_meet (pointed (wider p rows functions) from) (pointed (wider p rows functions) to)) (λ e. e)
      (one_holds (null && is_some (pointed p to)) (may_meet (pointed p from) (pointed p to)) (null && is_some (pointed (wider p rows functions) to)) (may_meet (pointed (wider p rows functions) from) (pointed (wider p rows functions) to))
      (second_holds null (is_some (pointed p to)) (is_some (pointed (wider p rows functions) to)) (there_holds to)) (meet_holds from to)))

  pub cast_holds : (null : Bool) (from to : Ty) → cast_fits p null from to ≡ true → cast_fits (wider p rows functions) null from to ≡ true
  cast_holds null from to = one_holds (is_void to) ((is_int from && is_int to) || (is_some (pointed p to) && (null || is_pointer from))) (is_void to) ((is_int from && is_int to) || (is_some (pointed (wider p rows functions) to) && (null || is_pointer from))) (λ e. e)
      (one_holds (is_int from && is_int to) (is_some (pointed p to) && (null || is_pointer from)) (is_int from && is_int to) (is_some (pointed (wider p rows functions) to) && (null || is_pointer from)) (λ e. e)
      (first_holds (is_some (pointed p to)) (null || is_pointer from) (is_some (pointed (wider p rows functions) to)) (there_holds to)))

  pointers_hold : (op : BinOp) (left right ty : Ty) → pointers_fit p op left right ty ≡ true → pointers_fit (wider p rows functions) op left right ty ≡ true
  pointers_hold op left right ty = second_holds (compares op) (point_alike (pointed p left) (pointed p right) && is_plain_int ty) (point_alike (pointed (wider p rows functions) left) (pointed (wider p rows functions) right) && is_plain_int ty)
      (first_holds (point_alike (pointed p left) (pointed p right)) (is_plain_int ty) (point_alike (pointed (wider p rows functions) left) (pointed (wider p rows functions) right)) (alike_holds left right))

  pub binary_by : (integer : Bool) (op : BinOp) (left right ty : Ty) → cond integer (integers_fit op left right ty) (pointers_fit p op left right ty) ≡ true → cond integer (integers_fit op left right ty) (pointers_fit (wider p rows functions) op left right ty) ≡ true
  binary_by true op left right ty h = h
  binary_by false op left right ty h = pointers_hold op left right ty h

  counts_of : (a : Option Qualified) (size : ℕ) → counts_in p a size ≡ true → counts_in (wider p rows functions) a size ≡ true
  counts_of None size h = h
  counts_of (Some t) size h = ap (λ b. b && nat_eq size (type_bytes p.sizes t.ty)) (complete_same t.ty) ∙ h

  counts_hold : (ty : Ty) (size : ℕ) → counts_in p (pointed p ty) size ≡ true → counts_in (wider p rows functions) (pointed (wider p rows functions) ty) size ≡ true
  counts_hold ty size h = found_holds (λ o. counts_in (wider p rows functions) o size) refl (pointed p ty) (pointed (wider p rows functions) ty) (pointed_stays ty) (counts_of (pointed p ty) size h)

  moves_hold : (pointer index : Ty) (size : ℕ) (ty : Ty) → moves p pointer index size ty ≡ true → moves (wider p rows functions) pointer index size ty ≡ true
  moves_hold pointer index size ty = second_holds (is_index index) (counts_in p (pointed p pointer) size && same_type pointer ty) (counts_in (wider p rows functions) (pointed (wider p rows functions) pointer) size && same_type pointer ty)
      (first_holds (counts_in p (pointed p pointer) size) (same_type pointer ty) (counts_in (wider p rows functions) (pointed (wider p rows functions) pointer) size) (counts_hold pointer size))

  pub offset_holds : (op : BinOp) (left right : Ty) (size : ℕ) (ty : Ty) → offset_fits p op left right size ty ≡ true → offset_fits (wider p rows functions) op left right size ty ≡ true
  offset_holds binop.Add left right size ty h = one_holds (moves p left right size ty) (moves p right left size ty) (moves (wider p rows functions) left right size ty) (moves (wider p rows functions) right left size ty) (moves_hold left right size ty) (moves_hold right left size ty) h
  offset_holds binop.Sub left right size ty h = moves_hold left right size ty h
  offset_holds _ left right size ty h = absurd (false≢true h)

  pub difference_holds : (left right : Ty) (size : ℕ) → difference_fits p left right size ≡ true → difference_fits (wider p rows functions) left right size ≡ true
  difference_holds left right size = both_hold (point_alike (pointed p left) (pointed p right)) (counts_in p (pointed p left) size) (point_alike (pointed (wider p rows functions) left) (pointed (wider p rows functions) right)) (counts_in (wider p rows functions) (pointed (wider p rows functions) left) size) (alike_holds left right) (counts_hold left size)

  pub update_holds : (op : BinOp) (place : Qualified) (value operation : Ty) (size : ℕ) (ty : Ty) → update_fits p op place value operation size ty ≡ true → update_fits (wider p rows functions) op place value operation size ty ≡ true
  update_holds op place value operation size ty = second_holds (assign_fits place ty) ((nat_eq size 0 && integer_update_fits op ty value operation) || (moves_by op && (same_type operation ty && moves p ty value size ty))) ((nat_eq size 0 && integer_update_fits op ty value operation) || (moves_by op && (same_type operation ty && moves (wider p rows functions) ty value size ty)))
      (one_holds (nat_eq size 0 && integer_update_fits op ty value operation) (moves_by op && (same_type operation ty && moves p ty value size ty)) (nat_eq size 0 && integer_update_fits op ty value operation) (moves_by op && (same_type operation ty && moves (wider p rows functions) ty value size ty)) (λ e. e)
      (second_holds (moves_by op) (same_type operation ty && moves p ty value size ty) (same_type operation ty && moves (wider p rows functions) ty value size ty)
      (second_holds (same_type operation ty) (moves p ty value size ty) (moves (wider p rows functions) ty value size ty) (moves_hold ty value size ty))))

  pub step_holds : (place : Qualified) (operation : Ty) (size : ℕ) (ty : Ty) → step_fits p place operation size ty ≡ true → step_fits (wider p rows functions) place operation size ty ≡ true
  step_holds place operation size ty = second_holds (assign_fits place ty) ((nat_eq size 0 && integer_step_fits ty operation) || (same_type operation ty && counts_in p (pointed p ty) size)) ((nat_eq size 0 && integer_step_fits ty operation) || (same_type operation ty && counts_in (wider p rows functions) (pointed (wider p rows functions) ty) size))
      (one_holds (nat_eq size 0 && integer_step_fits ty operation) (same_type operation ty && counts_in p (pointed p ty) size) (nat_eq size 0 && integer_step_fits ty operation) (same_type operation ty && counts_in (wider p rows functions) (pointed (wider p rows functions) ty) size) (λ e. e)
      (second_holds (same_type operation ty) (counts_in p (pointed p ty) size) (counts_in (wider p rows functions) (pointed (wider p rows functions) ty) size) (counts_hold ty size)))

  pub deref_holds : (pointer : Ty) (ty : Qualified) → deref_fits p pointer ty ≡ true → deref_fits (wider p rows functions) pointer ty ≡ true
  deref_holds pointer ty = both_hold (is_the (pointed p pointer) ty) (is_complete p ty.ty) (is_the (pointed (wider p rows functions) pointer) ty) (is_complete (wider p rows functions) ty.ty) (the_holds pointer ty) (λ h. complete_same ty.ty ∙ h)
