-- What operators give of pointers, by the addresses that their bytes make.
use Rattle.std.proofs.Common.{◌≡◌, ◌≢◌, ℕ, ◌+◌, ◌-◌, ◌*◌, ◌%◌, ◌<◌, ◌≤◌, Bool, true, false, Some, None, refl, sym, ap, ◌∙◌, subst, arith, ℤ, pos, negsuc, ◌+ℤ◌, ◌-ℤ◌}
use Rattle.std.specs.Prelude.{nat_eq, nat_le, not, int_lt, int_le, if◌then◌else◌}
use Rattle.std.specs.Ordering.{int_eq}
use Rattle.std.proofs.lemmas.Int.{ints}
use Rattle.std.proofs.lemmas.Bool.Decides.{nat_tests}
use Rattle.c_ints.specs.Operators.{cut_to, outcome, truth}
use Rattle.c_ints.specs.Quantity.{Quantity}
use Rattle.c_ints.specs.Range.{bytes_of, span, cut, pattern}
use Rattle.c_ints.specs.declared.operators.BinOp.{BinOp}
use Rattle.c_ints.specs.declared.operators.BinOp.TheVariants.{Add, Sub, Lt, Gt, Le, Ge, Eq, Ne}
use Rattle.c_ints.specs.declared.types.IntTy.{IntTy}
use Rattle.c_ints.specs.declared.types.IntTy.TheVariants.{UInt, Int}
use Rattle.core_code.specs.Bytes.{Part, Object, Fixed, FrameOf, Place, byte_in}
use Rattle.core_code.specs.Machine.{object_bytes}
use Rattle.core_code.specs.Values.{Value, Number, Pointer, Extent, byte_count, byte_of, right_type, moved, truth_value}
use Rattle.math_helpers.specs.Wanted.{byte_at}
use Rattle.sym_code.specs.Layout.{address_of, object, frame}
use Rattle.select_trace.proofs.Sites.{Site, layout}
use Rattle.select_trace.proofs.Memory.{Shown, InPlace, IsObject}
use Rattle.select_trace.proofs.Tests.{pointer_address}
use Rattle.select_trace.proofs.Ints.{Stands, Plain, Negative, stands, pattern_of, mod_shift}
use Rattle.select_trace.proofs.OperatorValues.{offset, add_value, sub_value}
use Rattle.select_trace.proofs.Held.{Aims, target, shows_number, shows_pointer}
use Rattle.select_trace.proofs.Unaries.{two_span}

some_is : {A : Type 0} {x y : A} → Some x ≡ Some y → x ≡ y
some_is e = cc

-- what the code gives of the numbers that the operands' bytes make shows what byte code holds
pub record Answered (s : Site) (op : BinOp) (ty : IntTy) (n k : ℕ) (v : Value) : Type 0 where
  pub value : Quantity
  pub is : outcome op (cut_to ty (pos n)) (cut_to (right_type op ty) (pos k)) ≡ Some value
  pub count : byte_count v ≡ bytes_of value.ty
  pub shows : (j : ℕ) → j < bytes_of value.ty → Shown s (byte_of v j) (byte_at (pattern value.ty value.number) j)

-- ---- addresses
-- where an object begins
abbrev pub base : Site → Object → ℕ
base s (Fixed n) = (object (layout s) n).address
base s (FrameOf c) = (frame (layout s) c).address

pub target_is : (s : Site) (p : Place) → target s p ≡ base s p.object + p.offset
unfolding address_of
target_is s p = by p.object
  where
    by : (o : Object) → address_of (layout s) (byte_in o p.offset) ≡ base s o + p.offset
    by (Fixed n) = refl
    by (FrameOf c) = refl

-- a small number is itself
pub small_cut : (ty : IntTy) (n : ℕ) → bytes_of ty ≡ 2 → n < 512 → cut ty (pos n) ≡ pos n
small_cut ty n two lt = by (stands ty n (let z = two_span ty two in omega (arith, z, lt)))
  where
    by : Stands ty n (cut ty (pos n)) → cut ty (pos n) ≡ pos n
    by (Plain e l) = e
    by (Negative g l e) = absurd (let z = two_span ty two in omega (arith, z, l, lt))

-- ---- sums and differences
plus_int : (c : ℤ) (o n k : ℕ) → c +ℤ pos k ≡ pos n → pos o +ℤ c +ℤ pos k ≡ pos (o + n)
plus_int c o n k e = omega (arith, ints, e)

minus_int : (c : ℤ) (o n k : ℕ) → n < 65536 → c +ℤ pos k ≡ pos n → pos o -ℤ c +ℤ pos (1 * 65536) ≡ pos (o + (65536 - n) + k)
minus_int c o n k lt e = omega (arith, ints, e, lt)

-- the offset of a sum, and of a difference
sum_offset : (ty : IntTy) (o n : ℕ) → bytes_of ty ≡ 2 → n < 65536 → pattern UInt (pos o +ℤ cut ty (pos n)) ≡ (o + n) % 65536
sum_offset ty o n two lt =
    let z : span ty ≡ 65536 = two_span ty two in
    let e = offset ty n (omega (arith, z, lt)) in
    let f : cut ty (pos n) +ℤ pos (e.0 * 65536) ≡ pos n = ap (λ x. cut ty (pos n) +ℤ pos (e.0 * x)) (sym z) ∙ e.1 in
    pattern_of UInt (pos o +ℤ cut ty (pos n)) e.0 (o + n) (plus_int (cut ty (pos n)) o n (e.0 * 65536) f)

difference_offset : (ty : IntTy) (o n : ℕ) → bytes_of ty ≡ 2 → n < 65536 → pattern UInt (pos o -ℤ cut ty (pos n)) ≡ (o + (65536 - n)) % 65536
difference_offset ty o n two lt =
    let z : span ty ≡ 65536 = two_span ty two in
    let e = offset ty n (omega (arith, z, lt)) in
    let f : cut ty (pos n) +ℤ pos (e.0 * 65536) ≡ pos n = ap (λ x. cut ty (pos n) +ℤ pos (e.0 * x)) (sym z) ∙ e.1 in
    pattern_of UInt (pos o -ℤ cut ty (pos n)) 1 (o + (65536 - n) + e.0 * 65536) (minus_int (cut ty (pos n)) o n (e.0 * 65536) lt f)
    ∙ mod_shift (o + (65536 - n)) e.0 65536 (omega arith)

-- a pointer within its object, or just past it
moves : (s : Site) (e : Extent) (o : Object) (z : ℤ) (v : Value) → ((x : Object) → e.size x ≡ object_bytes s.q x) → moved e o z ≡ Some v → (v ≡ Pointer (record { object = o; offset = pattern UInt z })) × (pattern UInt z ≤ object_bytes s.q o)
moves s e o z v same h = by (nat_le (pattern UInt z) (e.size o)) refl h
  where
    by : (b : Bool) → nat_le (pattern UInt z) (e.size o) ≡ b → (if b then Some (Pointer (record { object = o; offset = pattern UInt z })) else None) ≡ Some v → (v ≡ Pointer (record { object = o; offset = pattern UInt z })) × (pattern UInt z ≤ object_bytes s.q o)
    by false q h = absurd (cc)
    by true q h = (sym (some_is h), subst (λ k. pattern UInt z ≤ k) (same o) (le (pattern UInt z) (e.size o) q))
      where
        le : (a b : ℕ) → nat_le a b ≡ true → a ≤ b
        le a b e = grind (arith, nat_tests)

-- where such a pointer is what the code gives
pub points : (s : Site) (op : BinOp) (ty : IntTy) (n k : ℕ) (o : Object) (z : ℤ) (v : Value) (q : Quantity) → bytes_of ty ≡ 2 → q.ty ≡ ty → outcome op (cut_to ty (pos n)) (cut_to (right_type op ty) (pos k)) ≡ Some q → IsObject s o →
    v ≡ Pointer (record { object = o; offset = pattern UInt z }) → pattern UInt z ≤ object_bytes s.q o → (base s o + pattern UInt z < 512 → pattern q.ty q.number ≡ base s o + pattern UInt z) → Answered s op ty n k v
points s op ty n k o z v q two qt e io is le a =
    let p : Place = record { object = o; offset = pattern UInt z } in
    let place : InPlace s (Part o (pattern UInt z) false) = (io, le) in
    let below : target s p < 512 = (pointer_address s o (pattern UInt z) false place).1 in
    let t : target s p ≡ base s o + pattern UInt z = target_is s p in
    let w : bytes_of q.ty ≡ 2 = ap bytes_of qt ∙ two in
    record {
      value = q;
      is = e;
      count = ap byte_count is ∙ sym w;
      shows = λ j lt. subst (λ (x : Value). Shown s (byte_of x j) (byte_at (pattern q.ty q.number) j)) (sym is)
          (shows_pointer s p (pattern q.ty q.number) (a (omega (arith, t, below)) ∙ sym t) place j (omega (arith, lt, w)));
    }

wrapped : (b o n : ℕ) → b + (o + n) % 65536 < 512 → (b + o + n) % 65536 ≡ b + (o + n) % 65536
wrapped b o n lt = omega arith

pub add_moves : (s : Site) (ty : IntTy) (n k : ℕ) (p : Place) (e : Extent) (v : Value) → ((x : Object) → e.size x ≡ object_bytes s.q x) → bytes_of ty ≡ 2 → k < 65536 → Aims s p n → moved e p.object (pos p.offset +ℤ cut ty (pos k)) ≡ Some v → Answered s Add ty n k v
add_moves s ty n k p e v same two lt aim h =
    let m = moves s e p.object (pos p.offset +ℤ cut ty (pos k)) v same h in
    let z : span ty ≡ 65536 = two_span ty two in
    let below = aim.below in
    let is = aim.is in
    let nk : n < 65536 = omega (arith, is, below) in
    let t : n ≡ base s p.object + p.offset = is ∙ target_is s p in
    let f : pattern UInt (pos p.offset +ℤ cut ty (pos k)) ≡ (p.offset + k) % 65536 = sum_offset ty p.offset k two lt in
    points s Add ty n k p.object (pos p.offset +ℤ cut ty (pos k)) v (cut_to ty (cut ty (pos n) +ℤ cut ty (pos k))) two refl refl aim.place.0 m.0 m.1
    (λ small. sym (add_value ty n k ((n + k) % span ty) (omega (arith, z, nk)) (omega (arith, z, lt)) refl) ∙ ap (λ x. (n + k) % x) z ∙ ap (λ x. (x + k) % 65536) t
    ∙ wrapped (base s p.object) p.offset k (subst (λ x. base s p.object + x < 512) f small) ∙ ap (λ x. base s p.object + x) (sym f))

-- the pointer may stand on the right
pub add_moves_right : (s : Site) (ty : IntTy) (n k : ℕ) (p : Place) (e : Extent) (v : Value) → ((x : Object) → e.size x ≡ object_bytes s.q x) → bytes_of ty ≡ 2 → n < 65536 → Aims s p k → moved e p.object (pos p.offset +ℤ cut ty (pos n)) ≡ Some v → Answered s Add ty n k v
add_moves_right s ty n k p e v same two lt aim h =
    let m = moves s e p.object (pos p.offset +ℤ cut ty (pos n)) v same h in
    let z : span ty ≡ 65536 = two_span ty two in
    let below = aim.below in
    let is = aim.is in
    let nk : k < 65536 = omega (arith, is, below) in
    let t : k ≡ base s p.object + p.offset = is ∙ target_is s p in
    let f : pattern UInt (pos p.offset +ℤ cut ty (pos n)) ≡ (p.offset + n) % 65536 = sum_offset ty p.offset n two lt in
    points s Add ty n k p.object (pos p.offset +ℤ cut ty (pos n)) v (cut_to ty (cut ty (pos n) +ℤ cut ty (pos k))) two refl refl aim.place.0 m.0 m.1
    (λ small. sym (add_value ty n k ((n + k) % span ty) (omega (arith, z, lt)) (omega (arith, z, nk)) refl) ∙ ap (λ x. (n + k) % x) z ∙ ap (λ x. x % 65536) (turned n k (base s p.object) p.offset t)
    ∙ wrapped (base s p.object) p.offset n (subst (λ x. base s p.object + x < 512) f small) ∙ ap (λ x. base s p.object + x) (sym f))
  where
    turned : (n k b o : ℕ) → k ≡ b + o → n + k ≡ b + o + n
    turned n k b o e = omega (arith, e)

pub sub_moves : (s : Site) (ty : IntTy) (n k : ℕ) (p : Place) (e : Extent) (v : Value) → ((x : Object) → e.size x ≡ object_bytes s.q x) → bytes_of ty ≡ 2 → k < 65536 → Aims s p n → moved e p.object (pos p.offset -ℤ cut ty (pos k)) ≡ Some v → Answered s Sub ty n k v
sub_moves s ty n k p e v same two lt aim h =
    let m = moves s e p.object (pos p.offset -ℤ cut ty (pos k)) v same h in
    let z : span ty ≡ 65536 = two_span ty two in
    let below = aim.below in
    let is = aim.is in
    let nk : n < 65536 = omega (arith, is, below) in
    let t : n ≡ base s p.object + p.offset = is ∙ target_is s p in
    let f : pattern UInt (pos p.offset -ℤ cut ty (pos k)) ≡ (p.offset + (65536 - k)) % 65536 = difference_offset ty p.offset k two lt in
    points s Sub ty n k p.object (pos p.offset -ℤ cut ty (pos k)) v (cut_to ty (cut ty (pos n) -ℤ cut ty (pos k))) two refl refl aim.place.0 m.0 m.1
    (λ small. sym (sub_value ty n k ((n + span ty - k) % span ty) (omega (arith, z, nk)) (omega (arith, z, lt)) refl) ∙ ap (λ x. (n + x - k) % x) z ∙ ap (λ x. x % 65536) (turned n k (base s p.object) p.offset t lt)
    ∙ wrapped (base s p.object) p.offset (65536 - k) (subst (λ x. base s p.object + x < 512) f small) ∙ ap (λ x. base s p.object + x) (sym f))
  where
    turned : (n k b o : ℕ) → n ≡ b + o → k < 65536 → n + 65536 - k ≡ b + o + (65536 - k)
    turned n k b o e lt = omega (arith, e, lt)

-- ---- comparisons
compared : (s : Site) (op : BinOp) (ty : IntTy) (n k : ℕ) (v : Value) (b c : Bool) → outcome op (cut_to ty (pos n)) (cut_to (right_type op ty) (pos k)) ≡ Some (cut_to Int (truth c)) → c ≡ b → truth_value b ≡ v → Answered s op ty n k v
compared s op ty n k v b c e f is = record {
  value = cut_to Int (truth c);
  is = e;
  count = ap byte_count (sym is);
  shows = λ j lt. subst (λ (x : Value). Shown s (byte_of x j) (byte_at (pattern Int (cut Int (truth c))) j)) is (shows_number s (cut_to Int (truth b)) (pattern Int (cut Int (truth c))) (ap (λ d. pattern Int (cut Int (truth d))) f) j);
}

-- a number that is null
never_null : (ty : IntTy) (n k : ℕ) (x y : ℤ) → 0 < n → x ≡ pos n → Stands ty k y → int_eq y (pos 0) ≡ true → int_eq x y ≡ false
never_null ty n k x y lt e (Plain f l) z = ap (λ w. int_eq w y) e ∙ ap (int_eq (pos n)) f ∙ other n k lt (ap (λ w. int_eq w (pos 0)) (sym f) ∙ z)
  where
    other : (n k : ℕ) → 0 < n → int_eq (pos k) (pos 0) ≡ true → int_eq (pos n) (pos k) ≡ false
    other n k lt h = grind (arith, nat_tests)
never_null ty n k x y lt e (Negative g l f) z = absurd (let h : false ≡ true = sym (negative (span ty - 1 - k)) ∙ ap (λ w. int_eq w (pos 0)) (sym f) ∙ z in cc)
  where
    negative : (j : ℕ) → int_eq (negsuc j) (pos 0) ≡ false
    negative j = refl

turned_eq : (x y : ℤ) (b : Bool) → int_eq x y ≡ b → int_eq y x ≡ b
turned_eq x y b e = grind (arith, nat_tests, e)

nulls : (s : Site) (ty : IntTy) (n k : ℕ) (p : Place) → bytes_of ty ≡ 2 → k < 65536 → Aims s p n → int_eq (cut ty (pos k)) (pos 0) ≡ true → int_eq (cut ty (pos n)) (cut ty (pos k)) ≡ false
nulls s ty n k p two lt aim z =
    let is = aim.is in
    let a = aim.above in
    let b = aim.below in
    never_null ty n k (cut ty (pos n)) (cut ty (pos k)) (omega (arith, is, a)) (small_cut ty n two (omega (arith, is, b))) (stands ty k (let w = two_span ty two in omega (arith, w, lt))) z

pub eq_null : (s : Site) (ty : IntTy) (n k : ℕ) (p : Place) (v : Value) → bytes_of ty ≡ 2 → k < 65536 → Aims s p n → int_eq (cut ty (pos k)) (pos 0) ≡ true → truth_value false ≡ v → Answered s Eq ty n k v
eq_null s ty n k p v two lt aim z is = compared s Eq ty n k v false (int_eq (cut ty (pos n)) (cut ty (pos k))) refl (nulls s ty n k p two lt aim z) is

pub ne_null : (s : Site) (ty : IntTy) (n k : ℕ) (p : Place) (v : Value) → bytes_of ty ≡ 2 → k < 65536 → Aims s p n → int_eq (cut ty (pos k)) (pos 0) ≡ true → truth_value true ≡ v → Answered s Ne ty n k v
ne_null s ty n k p v two lt aim z is = compared s Ne ty n k v true (not (int_eq (cut ty (pos n)) (cut ty (pos k)))) refl (ap not (nulls s ty n k p two lt aim z)) is

pub null_eq : (s : Site) (ty : IntTy) (n k : ℕ) (p : Place) (v : Value) → bytes_of ty ≡ 2 → n < 65536 → Aims s p k → int_eq (cut ty (pos n)) (pos 0) ≡ true → truth_value false ≡ v → Answered s Eq ty n k v
null_eq s ty n k p v two lt aim z is = compared s Eq ty n k v false (int_eq (cut ty (pos n)) (cut ty (pos k))) refl (turned_eq (cut ty (pos k)) (cut ty (pos n)) false (nulls s ty k n p two lt aim z)) is

pub null_ne : (s : Site) (ty : IntTy) (n k : ℕ) (p : Place) (v : Value) → bytes_of ty ≡ 2 → n < 65536 → Aims s p k → int_eq (cut ty (pos n)) (pos 0) ≡ true → truth_value true ≡ v → Answered s Ne ty n k v
null_ne s ty n k p v two lt aim z is = compared s Ne ty n k v true (not (int_eq (cut ty (pos n)) (cut ty (pos k)))) refl (ap not (turned_eq (cut ty (pos k)) (cut ty (pos n)) false (nulls s ty k n p two lt aim z))) is

-- two pointers into one object
pub record Both (s : Site) (p r : Place) (n k : ℕ) : Type 0 where
  pub base : ℕ
  pub first : n ≡ base + p.offset
  pub second : k ≡ base + r.offset
  pub small : (n < 512) × (k < 512)

pub one_object : (s : Site) (p r : Place) (n k : ℕ) → p.object ≡ r.object → Aims s p n → Aims s r k → Both s p r n k
one_object s p r n k e a b = record {
  base = base s p.object;
  first = a.is ∙ target_is s p;
  second = b.is ∙ target_is s r ∙ ap (λ o. base s o + r.offset) (sym e);
  small = (let i = a.is in let l = a.below in omega (arith, i, l), let i = b.is in let l = b.below in omega (arith, i, l));
}

cuts : (ty : IntTy) (n k : ℕ) (f : ℤ → ℤ → Bool) → bytes_of ty ≡ 2 → n < 512 → k < 512 → f (cut ty (pos n)) (cut ty (pos k)) ≡ f (pos n) (pos k)
cuts ty n k f two ln lk = ap (λ x. f x (cut ty (pos k))) (small_cut ty n two ln) ∙ ap (f (pos n)) (small_cut ty k two lk)

pub eq_same : (s : Site) (ty : IntTy) (n k : ℕ) (p r : Place) (v : Value) → bytes_of ty ≡ 2 → Both s p r n k → truth_value (nat_eq p.offset r.offset) ≡ v → Answered s Eq ty n k v
eq_same s ty n k p r v two b is = compared s Eq ty n k v (nat_eq p.offset r.offset) (int_eq (cut ty (pos n)) (cut ty (pos k))) refl (cuts ty n k int_eq two b.small.0 b.small.1 ∙ at n k b.base p.offset r.offset b.first b.second) is
  where
    at : (n k b o q : ℕ) → n ≡ b + o → k ≡ b + q → int_eq (pos n) (pos k) ≡ nat_eq o q
    at n k b o q e f = grind (arith, nat_tests)

pub ne_same : (s : Site) (ty : IntTy) (n k : ℕ) (p r : Place) (v : Value) → bytes_of ty ≡ 2 → Both s p r n k → truth_value (not (nat_eq p.offset r.offset)) ≡ v → Answered s Ne ty n k v
ne_same s ty n k p r v two b is = compared s Ne ty n k v (not (nat_eq p.offset r.offset)) (not (int_eq (cut ty (pos n)) (cut ty (pos k)))) refl (ap not (cuts ty n k int_eq two b.small.0 b.small.1 ∙ at n k b.base p.offset r.offset b.first b.second)) is
  where
    at : (n k b o q : ℕ) → n ≡ b + o → k ≡ b + q → int_eq (pos n) (pos k) ≡ nat_eq o q
    at n k b o q e f = grind (arith, nat_tests)

below_is : (n k b o q : ℕ) → n ≡ b + o → k ≡ b + q → int_lt (pos n) (pos k) ≡ int_lt (pos o) (pos q)
below_is n k b o q e f = grind (arith, nat_tests)

upto_is : (n k b o q : ℕ) → n ≡ b + o → k ≡ b + q → int_le (pos n) (pos k) ≡ int_le (pos o) (pos q)
upto_is n k b o q e f = grind (arith, nat_tests)

pub lt_same : (s : Site) (ty : IntTy) (n k : ℕ) (p r : Place) (v : Value) → bytes_of ty ≡ 2 → Both s p r n k → truth_value (int_lt (pos p.offset) (pos r.offset)) ≡ v → Answered s Lt ty n k v
lt_same s ty n k p r v two b is = compared s Lt ty n k v (int_lt (pos p.offset) (pos r.offset)) (int_lt (cut ty (pos n)) (cut ty (pos k))) refl (cuts ty n k int_lt two b.small.0 b.small.1 ∙ below_is n k b.base p.offset r.offset b.first b.second) is

pub gt_same : (s : Site) (ty : IntTy) (n k : ℕ) (p r : Place) (v : Value) → bytes_of ty ≡ 2 → Both s p r n k → truth_value (int_lt (pos r.offset) (pos p.offset)) ≡ v → Answered s Gt ty n k v
gt_same s ty n k p r v two b is = compared s Gt ty n k v (int_lt (pos r.offset) (pos p.offset)) (int_lt (cut ty (pos k)) (cut ty (pos n))) refl (cuts ty k n int_lt two b.small.1 b.small.0 ∙ below_is k n b.base r.offset p.offset b.second b.first) is

pub le_same : (s : Site) (ty : IntTy) (n k : ℕ) (p r : Place) (v : Value) → bytes_of ty ≡ 2 → Both s p r n k → truth_value (int_le (pos p.offset) (pos r.offset)) ≡ v → Answered s Le ty n k v
le_same s ty n k p r v two b is = compared s Le ty n k v (int_le (pos p.offset) (pos r.offset)) (int_le (cut ty (pos n)) (cut ty (pos k))) refl (cuts ty n k int_le two b.small.0 b.small.1 ∙ upto_is n k b.base p.offset r.offset b.first b.second) is

pub ge_same : (s : Site) (ty : IntTy) (n k : ℕ) (p r : Place) (v : Value) → bytes_of ty ≡ 2 → Both s p r n k → truth_value (int_le (pos r.offset) (pos p.offset)) ≡ v → Answered s Ge ty n k v
ge_same s ty n k p r v two b is = compared s Ge ty n k v (int_le (pos r.offset) (pos p.offset)) (int_le (cut ty (pos k)) (cut ty (pos n))) refl (cuts ty k n int_le two b.small.1 b.small.0 ∙ upto_is k n b.base r.offset p.offset b.second b.first) is

pub sub_same : (s : Site) (ty : IntTy) (n k : ℕ) (p r : Place) (v : Value) → bytes_of ty ≡ 2 → Both s p r n k → Number (cut_to ty (pos p.offset -ℤ pos r.offset)) ≡ v → Answered s Sub ty n k v
sub_same s ty n k p r v two b is =
    let e : cut ty (pos n) -ℤ cut ty (pos k) ≡ pos p.offset -ℤ pos r.offset = ap (λ x. x -ℤ cut ty (pos k)) (small_cut ty n two b.small.0) ∙ ap (λ x. pos n -ℤ x) (small_cut ty k two b.small.1) ∙ at n k b.base p.offset r.offset b.first b.second in
    record {
      value = cut_to ty (cut ty (pos n) -ℤ cut ty (pos k));
      is = refl;
      count = ap byte_count (sym is);
      shows = λ j lt. subst (λ (x : Value). Shown s (byte_of x j) (byte_at (pattern ty (cut ty (cut ty (pos n) -ℤ cut ty (pos k)))) j)) is
          (shows_number s (cut_to ty (pos p.offset -ℤ pos r.offset)) (pattern ty (cut ty (cut ty (pos n) -ℤ cut ty (pos k)))) (ap (λ z. pattern ty (cut ty z)) e) j);
    }
  where
    at : (n k b o q : ℕ) → n ≡ b + o → k ≡ b + q → pos n -ℤ pos k ≡ pos o -ℤ pos q
    at n k b o q e f = omega (arith, ints, e, f)

-- two pointers that have two addresses
pub eq_other : (s : Site) (ty : IntTy) (n k : ℕ) (v : Value) → bytes_of ty ≡ 2 → n < 512 → k < 512 → n ≢ k → truth_value false ≡ v → Answered s Eq ty n k v
eq_other s ty n k v two ln lk ne is = compared s Eq ty n k v false (int_eq (cut ty (pos n)) (cut ty (pos k))) refl (cuts ty n k int_eq two ln lk ∙ at n k ne) is
  where
    at : (n k : ℕ) → n ≢ k → int_eq (pos n) (pos k) ≡ false
    at n k ne = grind (arith, nat_tests)

pub ne_other : (s : Site) (ty : IntTy) (n k : ℕ) (v : Value) → bytes_of ty ≡ 2 → n < 512 → k < 512 → n ≢ k → truth_value true ≡ v → Answered s Ne ty n k v
ne_other s ty n k v two ln lk ne is = compared s Ne ty n k v true (not (int_eq (cut ty (pos n)) (cut ty (pos k)))) refl (ap not (cuts ty n k int_eq two ln lk ∙ at n k ne)) is
  where
    at : (n k : ℕ) → n ≢ k → int_eq (pos n) (pos k) ≡ false
    at n k ne = grind (arith, nat_tests)
