-- What operators and conversions give has the type that the typing rules say, and each has a rule.
use Rattle.std.proofs.Common.{◌≡◌, ℕ, ◌≤◌, Bool, true, false, not, ◌&&◌, ◌||◌, nat_eq, List, [], ◌∷◌, Option, Some, None, refl, sym, ap, ◌∙◌, subst, arith, ⊎_elim, ℤ, pos, negsuc, ◌+ℤ◌, ◌-ℤ◌}
use Rattle.std.proofs.lemmas.Bool.{and_parts, or_cases, false≢true, not-true}
use Rattle.std.proofs.lemmas.Grind.{common_steps}
use Rattle.std.proofs.lemmas.Int.{ints}
use Rattle.std.specs.Prelude.{if◌then◌else◌, int_lt, int_div, unsigned_abs}
use Rattle.c_ints.specs.Conversions.{promoted, common}
use Rattle.c_ints.specs.Operators.{cut_to, truth, compares, shifts, comparison, has_no_value, value_of, outcome, unary_type, exact_unary}
use Rattle.c_ints.specs.Operators as ints_of
use Rattle.c_ints.specs.Quantity.{Quantity}
use Rattle.c_ints.specs.declared.operators.BinOp.{BinOp}
use Rattle.c_ints.specs.declared.operators.BinOp.TheVariants as binop
use Rattle.c_ints.specs.declared.operators.UnOp.{UnOp}
use Rattle.c_ints.specs.declared.operators.UnOp.TheVariants as unop
use Rattle.c_ints.specs.declared.types.IntTy.{IntTy}
use Rattle.c_ints.specs.declared.types.IntTy.TheVariants as int
use Rattle.c_typed.specs.Rules.{unary_fits, integers_fit, pointers_fit, binary_fits, moves, offset_fits, integer_update_fits, integer_step_fits}
use Rattle.c_typed.specs.Sameness.{same_int, same_type, is_int, is_pointer, is_plain_int, is_promoted}
use Rattle.c_typed.specs.Trees.{Program}
use Rattle.c_typed.specs.Words.{step_operator}
use Rattle.c_typed.specs.declared.expression.StepOp.{StepOp}
use Rattle.c_typed.specs.declared.expression.StepOp.TheVariants.{PreIncrement, PreDecrement, PostIncrement, PostDecrement}
use Rattle.c_typed.specs.declared.types.Ty.{Ty}
use Rattle.c_typed.specs.declared.types.Ty.TheVariants as types
use Rattle.src_rules.proofs.Rules.{Converts, IsUpdate, IsStep, moves_rule, alike_pointers}
use Rattle.src_rules.proofs.Values.{same_int_is, same_type_is, in_range}
use Rattle.src_rules.specs.Standing.{IsPointer, IsByte, IsThere, HasType, AreRead}
use Rattle.src_values.specs.Data.{Datum, Number, Pointer, Missing}
use Rattle.src_values.specs.Objects.{same_object, object_bytes, moved}
use Rattle.src_values.specs.Values.{Answer, Gives, Fails, Strays, truth_value, joined, null_if, pointer_held, pointer_from, value_from, number_from, converted, is_null, unary_answer, number_or_overflow, unless_undefined, apart, equality, order, on_pointers, on_values, bad_right, unless_bad, binary_answer, pointer_or_outside, distance, offset_answer, difference_answer, then_converted, change_answer, one_in}
use Rattle.src_values.specs.declared.objects.Byte.{Byte}
use Rattle.src_values.specs.declared.objects.Byte.TheVariants as bytes
use Rattle.src_values.specs.declared.objects.CopyOf.{CopyOf}
use Rattle.src_values.specs.declared.objects.Object.{Object}
use Rattle.src_values.specs.declared.objects.Pointer.{Pointer as Place}
use Rattle.src_values.specs.declared.objects.Pointer.TheVariants.{Null, Into}
use Rattle.src_values.specs.declared.objects.Undef.{Undef}
use Rattle.src_values.specs.declared.objects.Undef.TheVariants.{Order}

abbrev pub AnswerStands : Program → Ty → Answer → Type 0
AnswerStands p ty (Gives v) = HasType p ty v
AnswerStands p ty (Fails kind) = Unit {0}
AnswerStands p ty Strays = ⊥

abbrev pub IsNoPointer : Datum → Type 0
IsNoPointer (Number q) = Unit {0}
IsNoPointer (Pointer x) = ⊥
IsNoPointer Missing = Unit {0}

pub no_pointer : (p : Program) (ty : Ty) (v : Datum) → HasType p ty v → is_pointer ty ≡ false → IsNoPointer v
no_pointer p ty (Number q) h e = tt
no_pointer p ty (Pointer x) h e = false≢true (sym e ∙ h.0)
no_pointer p ty Missing h e = tt

pub of_int : (p : Program) (ty : IntTy) (z : ℤ) → HasType p (types.Int ty) (Number (cut_to ty z))
of_int p ty z = (refl, in_range ty z)

pub truth_stands : (p : Program) (b : Bool) → HasType p (types.Int int.Int) (truth_value b)
truth_stands p b = of_int p int.Int (truth b)

-- ---- conversions
pub converted_stands : (p : Program) (from to : Ty) (v : Datum) → HasType p from v → Converts from to → AnswerStands p to (converted to v)
unfolding converted
converted_stands p from types.Void v h e = tt
converted_stands p from (types.Int ty) (Number q) h e = of_int p ty q.number
converted_stands p from (types.Int ty) (Pointer x) h e = false≢true (sym e ∙ h.0)
converted_stands p from (types.Int ty) Missing h e = tt
converted_stands p from (types.Pointer row) (Number q) h e = (refl, tt)
converted_stands p from (types.Pointer row) (Pointer x) h e = (refl, h.1)
converted_stands p from (types.Pointer row) Missing h e = tt
converted_stands p from (types.Array a m x) v h e = absurd e
converted_stands p from (types.Struct n) v h e = absurd e

-- ---- unary operators
promoted_is : (ty : IntTy) → is_promoted (types.Int ty) ≡ true → promoted ty ≡ ty
promoted_is ty e = same_int_is _ _ e

promoted_int : (ty : Ty) → is_promoted ty ≡ true → is_pointer ty ≡ false
promoted_int types.Void e = absurd (false≢true e)
promoted_int (types.Int a) e = refl
promoted_int (types.Pointer row) e = absurd (false≢true e)
promoted_int (types.Array a m x) e = absurd (false≢true e)
promoted_int (types.Struct n) e = absurd (false≢true e)

-- a sign or `~`
kept_type : (from ty : Ty) (q : IntTy) → from ≡ types.Int q → (is_promoted from && same_type from ty) ≡ true → ty ≡ types.Int (promoted q)
kept_type from ty q is e =
    let g = and_parts _ _ e in
    sym (same_type_is _ _ g.1) ∙ (is ∙ ap types.Int (sym (promoted_is q (subst (λ t. is_promoted t ≡ true) is g.0))))

unary_type_is : (op : UnOp) (from ty : Ty) (q : IntTy) → from ≡ types.Int q → unary_fits op from ty ≡ true → ty ≡ types.Int (unary_type op q)
unary_type_is unop.Plus from ty q is e = kept_type from ty q is e
unary_type_is unop.Minus from ty q is e = kept_type from ty q is e
unary_type_is unop.Not from ty q is e = kept_type from ty q is e
unary_type_is unop.Bang from ty q is e = same_type_is _ _ (and_parts _ _ e).1

kept_pointer : (from ty : Ty) → is_pointer from ≡ true → (is_promoted from && same_type from ty) ≡ true → ⊥
kept_pointer from ty is e = false≢true (sym (promoted_int from (and_parts _ _ e).0) ∙ is)

unary_pointer : (op : UnOp) (from ty : Ty) → is_pointer from ≡ true → unary_fits op from ty ≡ true → ty ≡ types.Int int.Int
unary_pointer unop.Plus from ty is e = absurd (kept_pointer from ty is e)
unary_pointer unop.Minus from ty is e = absurd (kept_pointer from ty is e)
unary_pointer unop.Not from ty is e = absurd (kept_pointer from ty is e)
unary_pointer unop.Bang from ty is e = same_type_is _ _ (and_parts _ _ e).1

pub unary_stands : (p : Program) (op : UnOp) (from ty : Ty) (v : Datum) → HasType p from v → unary_fits op from ty ≡ true → AnswerStands p ty (unary_answer op v)
unfolding unary_answer
unary_stands p op from ty (Number q) h e = (unary_type_is op from ty q.ty h.0 e, in_range (unary_type op q.ty) (exact_unary op q.number))
unary_stands p op from ty (Pointer x) h e = rw (unary_pointer op from ty h.0 e) (truth_stands p (is_null x))
unary_stands p op from ty Missing h e = tt

-- ---- binary operators
pub unless_stands : (p : Program) (ty : Ty) (o : Option Undef) (a : Answer) → AnswerStands p ty a → AnswerStands p ty (unless_bad o a)
unless_stands p ty None a h = h
unless_stands p ty (Some kind) a h = tt

overflow_stands : (p : Program) (ty : Ty) (q : Quantity) (b : Bool) → HasType p ty (Number q) → AnswerStands p ty (number_or_overflow (if b then None else Some q))
overflow_stands p ty q true h = tt
overflow_stands p ty q false h = h

pub number_stands : (p : Program) (op : BinOp) (a b : Quantity) (ty : Ty) → ty ≡ types.Int (ints_of.type_of op a.ty) → AnswerStands p ty (number_or_overflow (outcome op a b))
number_stands p op a b ty e = overflow_stands p ty (value_of op a b) (has_no_value op a.ty a.number b.number) (e, in_range (ints_of.type_of op a.ty) _)

shift_compares_not : (op : BinOp) → shifts op ≡ true → compares op ≡ false
shift_compares_not binop.Shl e = refl
shift_compares_not binop.Shr e = refl
shift_compares_not _ e = absurd (false≢true e)

pub plain_type : (op : BinOp) (ty : IntTy) → compares op ≡ false → ints_of.type_of op ty ≡ ty
plain_type op ty e = ap (λ b. if b then int.Int else ty) e

compared_type : (op : BinOp) (ty : IntTy) → compares op ≡ true → ints_of.type_of op ty ≡ int.Int
compared_type op ty e = ap (λ b. if b then int.Int else ty) e

result_by : (op : BinOp) (a : IntTy) (right ty : Ty) (s c : Bool) → shifts op ≡ s → compares op ≡ c
    → (if s then is_promoted (types.Int a) && (is_promoted right && same_type (types.Int a) ty) else is_promoted (types.Int a) && (same_type (types.Int a) right && (if c then is_plain_int ty else same_type (types.Int a) ty))) ≡ true
    → ty ≡ types.Int (ints_of.type_of op a)
result_by op a right ty true c es ec e = sym (same_type_is _ _ (and_parts _ _ (and_parts _ _ e).1).1) ∙ ap types.Int (sym (plain_type op a (shift_compares_not op es)))
result_by op a right ty false true es ec e = same_type_is _ _ (and_parts _ _ (and_parts _ _ e).1).1 ∙ ap types.Int (sym (compared_type op a ec))
result_by op a right ty false false es ec e = sym (same_type_is _ _ (and_parts _ _ (and_parts _ _ e).1).1) ∙ ap types.Int (sym (plain_type op a ec))

same_right : (a : IntTy) (right : Ty) (more : Bool) → (same_type (types.Int a) right && more) ≡ true → is_pointer right ≡ false
same_right a right more e = rw (← same_type_is (types.Int a) right (and_parts (same_type (types.Int a) right) more e).0) refl

right_by : (a : IntTy) (right ty : Ty) (s c : Bool)
    → (if s then is_promoted (types.Int a) && (is_promoted right && same_type (types.Int a) ty) else is_promoted (types.Int a) && (same_type (types.Int a) right && (if c then is_plain_int ty else same_type (types.Int a) ty))) ≡ true
    → is_pointer right ≡ false
right_by a right ty true c e = promoted_int right (and_parts _ _ (and_parts _ _ e).1).0
right_by a right ty false c e = same_right a right (if c then is_plain_int ty else same_type (types.Int a) ty) (and_parts _ _ e).1

integers_result : (op : BinOp) (a : IntTy) (right ty : Ty) → integers_fit op (types.Int a) right ty ≡ true → ty ≡ types.Int (ints_of.type_of op a)
integers_result op a right ty e = result_by op a right ty (shifts op) (compares op) refl refl e

integers_right : (op : BinOp) (a : IntTy) (right ty : Ty) → integers_fit op (types.Int a) right ty ≡ true → is_pointer right ≡ false
integers_right op a right ty e = right_by a right ty (shifts op) (compares op) e

undefined_stands : (p : Program) (o : Option Undef) (b : Bool) → AnswerStands p (types.Int int.Int) (unless_undefined o b)
undefined_stands p None b = truth_stands p b
undefined_stands p (Some kind) b = tt

equal_stands : (p : Program) (active : List CopyOf) (turned : Bool) (a b : Object) (f g : ℕ) (same : Bool) (value : Bool)
    → AnswerStands p (types.Int int.Int) (if same then Gives (truth_value value) else unless_undefined (apart p active a f b g) turned)
equal_stands p active turned a b f g true value = truth_stands p value
equal_stands p active turned a b f g false value = undefined_stands p (apart p active a f b g) turned

equality_stands : (p : Program) (active : List CopyOf) (turned : Bool) (x y : Place) → AnswerStands p (types.Int int.Int) (equality p active turned x y)
equality_stands p active turned Null Null = truth_stands p (not turned)
equality_stands p active turned Null (Into b g) = truth_stands p turned
equality_stands p active turned (Into a f) Null = truth_stands p turned
equality_stands p active turned (Into a f) (Into b g) = equal_stands p active turned a b f g (same_object a b) (if nat_eq f g then not turned else turned)

ordered_stands : (p : Program) (same value : Bool) (kind : Undef) → AnswerStands p (types.Int int.Int) (if same then Gives (truth_value value) else Fails kind)
ordered_stands p true value kind = truth_stands p value
ordered_stands p false value kind = tt

order_stands : (p : Program) (op : BinOp) (x y : Place) → AnswerStands p (types.Int int.Int) (order op x y)
order_stands p op Null Null = tt
order_stands p op Null (Into b g) = tt
order_stands p op (Into a f) Null = tt
order_stands p op (Into a f) (Into b g) = ordered_stands p (same_object a b) (comparison op (pos f) (pos g)) _

pointers_stand : (p : Program) (active : List CopyOf) (op : BinOp) (x y : Place) → AnswerStands p (types.Int int.Int) (on_pointers p active op x y)
pointers_stand p active binop.Eq x y = equality_stands p active false x y
pointers_stand p active binop.Ne x y = equality_stands p active true x y
pointers_stand p active binop.Mul x y = order_stands p binop.Mul x y
pointers_stand p active binop.Div x y = order_stands p binop.Div x y
pointers_stand p active binop.Rem x y = order_stands p binop.Rem x y
pointers_stand p active binop.Add x y = order_stands p binop.Add x y
pointers_stand p active binop.Sub x y = order_stands p binop.Sub x y
pointers_stand p active binop.Shl x y = order_stands p binop.Shl x y
pointers_stand p active binop.Shr x y = order_stands p binop.Shr x y
pointers_stand p active binop.Lt x y = order_stands p binop.Lt x y
pointers_stand p active binop.Gt x y = order_stands p binop.Gt x y
pointers_stand p active binop.Le x y = order_stands p binop.Le x y
pointers_stand p active binop.Ge x y = order_stands p binop.Ge x y
pointers_stand p active binop.And x y = order_stands p binop.And x y
pointers_stand p active binop.Xor x y = order_stands p binop.Xor x y
pointers_stand p active binop.Or x y = order_stands p binop.Or x y

pointer_no_int : (ty : Ty) → is_pointer ty ≡ true → is_int ty ≡ false
pointer_no_int types.Void e = refl
pointer_no_int (types.Int a) e = absurd (false≢true e)
pointer_no_int (types.Pointer row) e = refl
pointer_no_int (types.Array a m x) e = refl
pointer_no_int (types.Struct n) e = refl

-- the rule of two pointers, where the left one is a pointer
pointer_rule : (p : Program) (op : BinOp) (left right ty : Ty) → is_pointer left ≡ true → binary_fits p op left right ty ≡ true → pointers_fit p op left right ty ≡ true
pointer_rule p op left right ty is e = sym (ap (λ b. if b then integers_fit op left right ty else pointers_fit p op left right ty) (pointer_no_int left is)) ∙ e

pointers_plain : (p : Program) (op : BinOp) (left right ty : Ty) → pointers_fit p op left right ty ≡ true → ty ≡ types.Int int.Int
pointers_plain p op left right ty e = same_type_is ty (types.Int int.Int) (and_parts _ _ (and_parts _ _ e).1).1

pointers_right : (p : Program) (op : BinOp) (left right ty : Ty) → pointers_fit p op left right ty ≡ true → is_pointer right ≡ true
pointers_right p op left right ty e = (alike_pointers p left right (and_parts _ _ (and_parts _ _ e).1).0).1

int_rule : (p : Program) (op : BinOp) (left right ty : Ty) (a : IntTy) → left ≡ types.Int a → binary_fits p op left right ty ≡ true → integers_fit op (types.Int a) right ty ≡ true
int_rule p op left right ty a is e = subst (λ t. binary_fits p op t right ty ≡ true) is e

values_stand : (p : Program) (active : List CopyOf) (op : BinOp) (left right ty : Ty) (v u : Datum) → HasType p left v → HasType p right u → binary_fits p op left right ty ≡ true → AnswerStands p ty (on_values p active op v u)
values_stand p active op left right ty (Number a) (Number b) h g e = number_stands p op a b ty (integers_result op a.ty right ty (int_rule p op left right ty a.ty h.0 e))
values_stand p active op left right ty (Number a) (Pointer y) h g e = false≢true (sym (integers_right op a.ty right ty (int_rule p op left right ty a.ty h.0 e)) ∙ g.0)
values_stand p active op left right ty (Number a) Missing h g e = tt
values_stand p active op left right ty (Pointer x) (Number b) h g e =
    false≢true (sym (ap is_pointer g.0) ∙ pointers_right p op left right ty (pointer_rule p op left right ty h.0 e))
values_stand p active op left right ty (Pointer x) (Pointer y) h g e =
    rw (pointers_plain p op left right ty (pointer_rule p op left right ty h.0 e)) (pointers_stand p active op x y)
values_stand p active op left right ty (Pointer x) Missing h g e = tt
values_stand p active op left right ty Missing u h g e = tt

pub binary_stands : (p : Program) (active : List CopyOf) (op : BinOp) (left right ty : Ty) (v u : Datum) → HasType p left v → HasType p right u → binary_fits p op left right ty ≡ true → AnswerStands p ty (binary_answer p active op ty v u)
unfolding binary_answer
binary_stands p active op left right ty v u h g e = unless_stands p ty (bad_right op ty u) _ (values_stand p active op left right ty v u h g e)

-- ---- pointers and integers
abbrev pub AnyIsPointer : Program → Option Place → Type 0
AnyIsPointer p None = Unit {0}
AnyIsPointer p (Some x) = IsPointer p x

size_of : (size : ℕ) (z : ℤ) → int_lt z (pos 0) ≡ false → int_lt (pos size) z ≡ false → unsigned_abs z ≤ size
size_of size (pos a) h g = grind (arith, ints, common_steps)
size_of size (negsuc a) h g = absurd (false≢true (sym h))

within_stands : (p : Program) (object : Object) (z : ℤ) (b c : Bool) → IsThere p object → int_lt z (pos 0) ≡ b → int_lt (pos (object_bytes p object)) z ≡ c → AnyIsPointer p (if b || c then None else Some (Into object (unsigned_abs z)))
within_stands p object z true c h e g = tt
within_stands p object z false true h e g = tt
within_stands p object z false false h e g = (h, size_of (object_bytes p object) z e g)

null_moves : (p : Program) (b : Bool) → AnyIsPointer p (if b then Some Null else None)
null_moves p true = tt
null_moves p false = tt

pub moved_stands : (p : Program) (x : Place) (z : ℤ) → IsPointer p x → AnyIsPointer p (moved p x z)
unfolding moved
moved_stands p Null z h = null_moves p _
moved_stands p (Into object offset) z h = within_stands p object (pos offset +ℤ z) (int_lt (pos offset +ℤ z) (pos 0)) (int_lt (pos (object_bytes p object)) (pos offset +ℤ z)) h.0 refl refl

held_stands : (p : Program) (ty : Ty) (o : Option Place) → is_pointer ty ≡ true → AnyIsPointer p o → AnswerStands p ty (pointer_or_outside o)
held_stands p ty None e h = tt
held_stands p ty (Some x) e h = (e, h)

pub offset_first : (p : Program) (op : BinOp) (size : ℕ) (left ty : Ty) (v u : Datum) → is_pointer ty ≡ true → is_pointer left ≡ true → HasType p left v → IsNoPointer u → AnswerStands p ty (offset_answer p op size v u)
unfolding offset_answer
offset_first p op size left ty (Number q) u e l h g = absurd (false≢true (sym (ap is_pointer h.0) ∙ l))
offset_first p op size left ty (Pointer x) (Number q) e l h g = held_stands p ty _ e (moved_stands p x (distance op size q.number) h.1)
offset_first p op size left ty (Pointer x) (Pointer y) e l h g = absurd g
offset_first p op size left ty (Pointer x) Missing e l h g = tt
offset_first p op size left ty Missing u e l h g = tt

offset_second : (p : Program) (op : BinOp) (size : ℕ) (right ty : Ty) (v u : Datum) → is_pointer ty ≡ true → is_pointer right ≡ true → IsNoPointer v → HasType p right u → AnswerStands p ty (offset_answer p op size v u)
unfolding offset_answer
offset_second p op size right ty (Number q) (Number r) e l h g = absurd (false≢true (sym (ap is_pointer g.0) ∙ l))
offset_second p op size right ty (Number q) (Pointer x) e l h g = held_stands p ty _ e (moved_stands p x (distance op size q.number) g.1)
offset_second p op size right ty (Number q) Missing e l h g = tt
offset_second p op size right ty (Pointer x) u e l h g = absurd h
offset_second p op size right ty Missing u e l h g = tt

moves_first : (p : Program) (op : BinOp) (left right : Ty) (size : ℕ) (ty : Ty) (v u : Datum) → HasType p left v → HasType p right u → moves p left right size ty ≡ true → AnswerStands p ty (offset_answer p op size v u)
moves_first p op left right size ty v u h g e = let r = moves_rule p left right size ty e in offset_first p op size left ty v u (sym (ap is_pointer r.2) ∙ r.0) r.0 h (no_pointer p right u g r.1)

moves_second : (p : Program) (op : BinOp) (left right : Ty) (size : ℕ) (ty : Ty) (v u : Datum) → HasType p left v → HasType p right u → moves p right left size ty ≡ true → AnswerStands p ty (offset_answer p op size v u)
moves_second p op left right size ty v u h g e = let r = moves_rule p right left size ty e in offset_second p op size right ty v u (sym (ap is_pointer r.2) ∙ r.0) r.0 (no_pointer p left v h r.1) g

pub offset_stands : (p : Program) (op : BinOp) (left right : Ty) (size : ℕ) (ty : Ty) (v u : Datum) → HasType p left v → HasType p right u → offset_fits p op left right size ty ≡ true → AnswerStands p ty (offset_answer p op size v u)
offset_stands p binop.Add left right size ty v u h g e =
    ⊎_elim (moves_first p binop.Add left right size ty v u h g) (moves_second p binop.Add left right size ty v u h g) (or_cases (moves p left right size ty) (moves p right left size ty) e)
offset_stands p binop.Sub left right size ty v u h g e = moves_first p binop.Sub left right size ty v u h g e
offset_stands p _ left right size ty v u h g e = absurd (false≢true e)

apart_stands : (p : Program) (same : Bool) (z : ℤ) (kind : Undef) → AnswerStands p (types.Int int.Int) (if same then Gives (Number (cut_to int.Int z)) else Fails kind)
apart_stands p true z kind = of_int p int.Int z
apart_stands p false z kind = tt

pub difference_stands : (p : Program) (size : ℕ) (left right : Ty) (v u : Datum) → HasType p left v → HasType p right u → (is_pointer left ≡ true) × (is_pointer right ≡ true) → AnswerStands p (types.Int int.Int) (difference_answer size v u)
unfolding difference_answer
difference_stands p size left right (Number q) u h g e = absurd (false≢true (sym (ap is_pointer h.0) ∙ e.0))
difference_stands p size left right (Pointer x) (Number r) h g e = absurd (false≢true (sym (ap is_pointer g.0) ∙ e.1))
difference_stands p size left right (Pointer Null) (Pointer y) h g e = tt
difference_stands p size left right (Pointer (Into a f)) (Pointer Null) h g e = tt
difference_stands p size left right (Pointer (Into a f)) (Pointer (Into b k)) h g e = apart_stands p (same_object a b) (int_div (pos f -ℤ pos k) (pos size)) Order
difference_stands p size left right (Pointer Null) Missing h g e = tt
difference_stands p size left right (Pointer (Into a f)) Missing h g e = tt
difference_stands p size left right Missing u h g e = tt

-- ---- compound assignments
then_stands : (p : Program) (from to : Ty) (a : Answer) → AnswerStands p from a → Converts from to → AnswerStands p to (then_converted to a)
then_stands p from to (Gives v) h e = converted_stands p from to v h e
then_stands p from to (Fails kind) h e = tt
then_stands p from to Strays h e = absurd h

plain_stands : (p : Program) (active : List CopyOf) (op : BinOp) (o : IntTy) (q : Quantity) (u : Datum) → q.ty ≡ o → compares op ≡ false → IsNoPointer u → AnswerStands p (types.Int o) (binary_answer p active op (types.Int o) (Number q) u)
unfolding binary_answer
plain_stands p active op o q (Number r) is e h = unless_stands p (types.Int o) (bad_right op (types.Int o) (Number r)) _ (number_stands p op q r (types.Int o) (ap types.Int (sym is ∙ sym (plain_type op q.ty e))))
plain_stands p active op o q (Pointer x) is e h = absurd h
plain_stands p active op o q Missing is e h = unless_stands p (types.Int o) (bad_right op (types.Int o) Missing) _ tt

pub change_int : (p : Program) (active : List CopyOf) (op : BinOp) (o : IntTy) (size : ℕ) (t : IntTy) (old u : Datum) → HasType p (types.Int t) old → IsNoPointer u → compares op ≡ false → AnswerStands p (types.Int t) (change_answer p active op (types.Int o) size (types.Int t) old u)
unfolding change_answer converted
change_int p active op o size t (Number q) u h g e = then_stands p (types.Int o) (types.Int t) _ (plain_stands p active op o (cut_to o q.number) u refl e g) refl
change_int p active op o size t (Pointer x) u h g e = absurd (false≢true h.0)
change_int p active op o size t Missing u h g e = tt

pub change_pointer : (p : Program) (active : List CopyOf) (op : BinOp) (row size : ℕ) (old u : Datum) → HasType p (types.Pointer row) old → IsNoPointer u → AnswerStands p (types.Pointer row) (change_answer p active op (types.Pointer row) size (types.Pointer row) old u)
unfolding change_answer
change_pointer p active op row size old u h g = then_stands p (types.Pointer row) (types.Pointer row) _ (offset_first p op size (types.Pointer row) (types.Pointer row) old u refl refl h g) tt

-- an operand of an update of an integer
operand_apart : (op : BinOp) (t : IntTy) (value : Ty) (o : IntTy) (b : Bool) → shifts op ≡ b
    → (if b then same_int o (promoted t) && is_promoted value else not (compares op) && (same_type value (types.Int o) && same_int o (common t o))) ≡ true
    → (compares op ≡ false) × (is_pointer value ≡ false)
operand_apart op t value o true eb e = (shift_compares_not op eb, promoted_int value (and_parts _ _ e).1)
operand_apart op t value o false eb e = let g = and_parts _ _ e in (not-true _ g.0, left_apart value o (same_int o (common t o)) g.1)
  where
    left_apart : (value : Ty) (o : IntTy) (more : Bool) → (same_type value (types.Int o) && more) ≡ true → is_pointer value ≡ false
    left_apart value o more e = rw (same_type_is value (types.Int o) (and_parts (same_type value (types.Int o)) more e).0) refl

update_int : (p : Program) (active : List CopyOf) (op : BinOp) (value operation : Ty) (size : ℕ) (ty : Ty) (old u : Datum) → HasType p ty old → HasType p value u → integer_update_fits op ty value operation ≡ true → AnswerStands p ty (change_answer p active op operation size ty old u)
update_int p active op value (types.Int o) size (types.Int t) old u h g e =
    let d = operand_apart op t value o (shifts op) refl e in change_int p active op o size t old u h (no_pointer p value u g d.1) d.0
update_int p active op value types.Void size (types.Int t) old u h g e = absurd (false≢true e)
update_int p active op value (types.Pointer row) size (types.Int t) old u h g e = absurd (false≢true e)
update_int p active op value (types.Array a m x) size (types.Int t) old u h g e = absurd (false≢true e)
update_int p active op value (types.Struct n) size (types.Int t) old u h g e = absurd (false≢true e)
update_int p active op value operation size types.Void old u h g e = absurd (false≢true e)
update_int p active op value operation size (types.Pointer row) old u h g e = absurd (false≢true e)
update_int p active op value operation size (types.Array a m x) old u h g e = absurd (false≢true e)
update_int p active op value operation size (types.Struct n) old u h g e = absurd (false≢true e)

pointer_form : (ty : Ty) → is_pointer ty ≡ true → (row : ℕ) × (ty ≡ types.Pointer row)
pointer_form types.Void e = absurd (false≢true e)
pointer_form (types.Int a) e = absurd (false≢true e)
pointer_form (types.Pointer row) e = (row, refl)
pointer_form (types.Array a m x) e = absurd (false≢true e)
pointer_form (types.Struct n) e = absurd (false≢true e)

change_moved : (p : Program) (active : List CopyOf) (op : BinOp) (operation : Ty) (size : ℕ) (ty : Ty) (old u : Datum) → HasType p ty old → IsNoPointer u → operation ≡ ty → is_pointer ty ≡ true → AnswerStands p ty (change_answer p active op operation size ty old u)
change_moved p active op operation size ty old u h g same e =
    let f = pointer_form ty e in
    rw same (subst (λ t. HasType p t old → AnswerStands p t (change_answer p active op t size t old u)) (sym f.1) (λ h. change_pointer p active op f.0 size old u h g) h)

update_moved : (p : Program) (active : List CopyOf) (op : BinOp) (value operation : Ty) (size : ℕ) (ty : Ty) (old u : Datum) → HasType p ty old → HasType p value u → (operation ≡ ty) × (moves p ty value size ty ≡ true) → AnswerStands p ty (change_answer p active op operation size ty old u)
update_moved p active op value operation size ty old u h g e =
    let r = moves_rule p ty value size ty e.1 in change_moved p active op operation size ty old u h (no_pointer p value u g r.1) e.0 r.0

pub update_stands : (p : Program) (active : List CopyOf) (op : BinOp) (value operation : Ty) (size : ℕ) (ty : Ty) (old u : Datum) → HasType p ty old → HasType p value u → IsUpdate p op value operation size ty → AnswerStands p ty (change_answer p active op operation size ty old u)
update_stands p active op value operation size ty old u h g e = ⊎_elim (update_int p active op value operation size ty old u h g) (update_moved p active op value operation size ty old u h g) e

step_plain : (op : StepOp) → compares (step_operator op) ≡ false
step_plain PreIncrement = refl
step_plain PreDecrement = refl
step_plain PostIncrement = refl
step_plain PostDecrement = refl

one_no_pointer : (ty : Ty) → IsNoPointer (one_in ty)
one_no_pointer types.Void = tt
one_no_pointer (types.Int a) = tt
one_no_pointer (types.Pointer row) = tt
one_no_pointer (types.Array a m x) = tt
one_no_pointer (types.Struct n) = tt

step_int : (p : Program) (active : List CopyOf) (op : StepOp) (operation : Ty) (size : ℕ) (ty : Ty) (old : Datum) → HasType p ty old → integer_step_fits ty operation ≡ true → AnswerStands p ty (change_answer p active (step_operator op) operation size ty old (one_in operation))
step_int p active op (types.Int o) size (types.Int t) old h e = change_int p active (step_operator op) o size t old (one_in (types.Int o)) h tt (step_plain op)
step_int p active op types.Void size (types.Int t) old h e = absurd (false≢true e)
step_int p active op (types.Pointer row) size (types.Int t) old h e = absurd (false≢true e)
step_int p active op (types.Array a m x) size (types.Int t) old h e = absurd (false≢true e)
step_int p active op (types.Struct n) size (types.Int t) old h e = absurd (false≢true e)
step_int p active op operation size types.Void old h e = absurd (false≢true e)
step_int p active op operation size (types.Pointer row) old h e = absurd (false≢true e)
step_int p active op operation size (types.Array a m x) old h e = absurd (false≢true e)
step_int p active op operation size (types.Struct n) old h e = absurd (false≢true e)

pub step_stands : (p : Program) (active : List CopyOf) (op : StepOp) (operation : Ty) (size : ℕ) (ty : Ty) (old : Datum) → HasType p ty old → IsStep p operation ty → AnswerStands p ty (change_answer p active (step_operator op) operation size ty old (one_in operation))
step_stands p active op operation size ty old h e =
    ⊎_elim (step_int p active op operation size ty old h) (λ g. change_moved p active (step_operator op) operation size ty old (one_in operation) h (one_no_pointer operation) g.0 g.1) e

-- ---- the values that bytes make
null_held : (p : Program) (ty : Ty) (b : Bool) → is_pointer ty ≡ true → HasType p ty (pointer_held (null_if b))
null_held p ty true e = (e, tt)
null_held p ty false e = tt

part_held : (p : Program) (ty : Ty) (a : Object) (f : ℕ) (b : Bool) → is_pointer ty ≡ true → IsPointer p (Into a f) → HasType p ty (pointer_held (if b then Some (Into a f) else None))
part_held p ty a f true e h = (e, h)
part_held p ty a f false e h = tt

joined_stands : (p : Program) (ty : Ty) (low high : Byte) → is_pointer ty ≡ true → IsByte p low → HasType p ty (pointer_held (joined low high))
joined_stands p ty bytes.Unset high e h = tt
joined_stands p ty (bytes.Number a) bytes.Unset e h = tt
joined_stands p ty (bytes.Number a) (bytes.Number b) e h = null_held p ty (nat_eq a 0 && nat_eq b 0) e
joined_stands p ty (bytes.Number a) (bytes.Part o f x) e h = tt
joined_stands p ty (bytes.Part a f true) high e h = tt
joined_stands p ty (bytes.Part a f false) bytes.Unset e h = tt
joined_stands p ty (bytes.Part a f false) (bytes.Number b) e h = tt
joined_stands p ty (bytes.Part a f false) (bytes.Part b g true) e h = part_held p ty a f (same_object a b && nat_eq f g) e h
joined_stands p ty (bytes.Part a f false) (bytes.Part b g false) e h = tt

pointer_stands : (p : Program) (ty : Ty) (read : List Byte) → is_pointer ty ≡ true → AreRead p ty [] read → HasType p ty (pointer_from read)
pointer_stands p ty [] e h = tt
pointer_stands p ty (low ∷ []) e h = tt
pointer_stands p ty (low ∷ high ∷ []) e h = joined_stands p ty low high e h.0
pointer_stands p ty (low ∷ high ∷ more ∷ rest) e h = tt

pub read_stands : (p : Program) (ty : Ty) (read : List Byte) → AreRead p ty [] read → HasType p ty (value_from ty read)
unfolding value_from
read_stands p types.Void read h = tt
read_stands p (types.Int ty) read h = of_int p ty (pos (number_from read))
read_stands p (types.Pointer row) read h = pointer_stands p (types.Pointer row) read refl h
read_stands p (types.Array a m x) read h = tt
read_stands p (types.Struct n) read h = tt
