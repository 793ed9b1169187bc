-- Code in the same places, and the bytes that it uses.
use Rattle.std.proofs.Common.{◌≡◌, ℕ, zero, suc, ◌≤◌, inl, inr, Bool, true, false, ◌||◌, refl, sym, ap, ◌∙◌, subst, ⊎_elim, arith}
use Rattle.std.proofs.lemmas.Bool.{cases_lt}
use Rattle.c_ints.specs.Operators.{type_of}
use Rattle.c_ints.specs.Range.{bytes_of}
use Rattle.c_ints.specs.declared.operators.BinOp.{BinOp}
use Rattle.c_ints.specs.declared.operators.BinOp.TheVariants as ops
use Rattle.c_ints.specs.declared.types.IntTy.{IntTy}
use Rattle.c_ints.specs.declared.types.IntTy.TheVariants.{UChar}
use Rattle.core_code.specs.Bytes.{same_byte, behind}
use Rattle.core_code.specs.Cost.{least_of}
use Rattle.core_code.specs.Tree as tree
use Rattle.core_code.specs.Tree.{Tree, Trees, NoTree, AndTree}
use Rattle.core_code.specs.Values.{right_type}
use Rattle.core_code.specs.declared.code.Byte.{Byte}
use Rattle.narrow_code.specs.InStep.{transfer_in}
use Rattle.narrow_code.specs.Places.{AtEachPlace, AtAllPlaces, IsRetyped, HasTransfer, IsFreeOnlyWith, is_in_run, uses, all_use, UsesOnly}
use Rattle.narrow_code.specs.Plans as plans
use Rattle.narrow_code.specs.Plans.{low_op, low_size, Plan, Plans, NoPlan, AndPlan, given, made, all_given, all_made}
use Rattle.narrow_code.proofs.Memory.{never}
use Rattle.narrow_code.proofs.Costs.{width_positive}

-- ---- what holds at each place
module _ (R S : Tree → Tree → Type 0) (weaker : (t u : Tree) → R t u → S t u) where
  mutual
    pub each_weaker : (t u : Tree) → AtEachPlace R t u → AtEachPlace S t u
    each_weaker (tree.Many ts) u h = (h.0, h.1, all_weaker ts h.0 h.2)
    each_weaker (tree.If test size first second) u h = (h.0, h.1, h.2, each_weaker first h.0 h.3, each_weaker second h.1 h.4)
    each_weaker (tree.Loop body) u h = (h.0, h.1, each_weaker body h.0 h.2)
    each_weaker t u h = weaker t u h

    pub all_weaker : (ts us : Trees) → AtAllPlaces R ts us → AtAllPlaces S ts us
    all_weaker NoTree us h = h
    all_weaker (AndTree t ts) us h = (h.0, h.1, h.2, each_weaker t h.0 h.3, all_weaker ts h.1 h.4)

module _ (R : Tree → Tree → Type 0) (itself : (t : Tree) → R t t) where
  mutual
    pub each_itself : (t : Tree) → AtEachPlace R t t
    each_itself (tree.Many ts) = (ts, refl, all_itself ts)
    each_itself (tree.If test size first second) = (first, second, refl, each_itself first, each_itself second)
    each_itself (tree.Loop body) = (body, refl, each_itself body)
    each_itself t = itself t

    pub all_itself : (ts : Trees) → AtAllPlaces R ts ts
    all_itself NoTree = refl
    all_itself (AndTree t ts) = (t, ts, refl, each_itself t, all_itself ts)

retyped_transfer : (t u : Tree) → IsRetyped t u → HasTransfer t u
retyped_transfer t u (inl same) = ap (λ (v : Tree). transfer_in v) same
retyped_transfer (tree.Binary op ty to left right) u (inr low) = ap (λ (v : Tree). transfer_in v) low.2
retyped_transfer t u (inr low) = absurd low

pub retyped_free : (t u : Tree) → IsRetyped t u → IsFreeOnlyWith t u
retyped_free t u (inl same) q s e = sym (ap (λ (v : Tree). least_of q v s) same) ∙ e
retyped_free (tree.Binary op ty to left right) u (inr low) q s e = refl
retyped_free t u (inr low) q s e = absurd low

-- ---- bytes
or_left : (a b : Bool) → a ≡ true → (a || b) ≡ true
or_left true b e = refl
or_left false b e = never e

or_right : (a b : Bool) → b ≡ true → (a || b) ≡ true
or_right true b e = refl
or_right false b e = e

-- of either, by what each leads to
or_by : (a b c : Bool) → (a ≡ true → c ≡ true) → (b ≡ true → c ≡ true) → (a || b) ≡ true → c ≡ true
or_by true b c f g e = f refl
or_by false b c f g e = g e

or_on : (a b c d : Bool) → (a ≡ true → c ≡ true) → (b ≡ true → d ≡ true) → (a || b) ≡ true → (c || d) ≡ true
or_on a b c d f g = or_by a b (c || d) (λ e. or_left c d (f e)) (λ e. or_right c d (g e))

-- a byte that is among some is among more
among : (byte start : Byte) (n m : ℕ) → n ≤ m → is_in_run byte start n ≡ true → is_in_run byte start m ≡ true
among byte start n zero le e = let is : n ≡ 0 = omega arith in subst (λ (j : ℕ). is_in_run byte start j ≡ true) is e
among byte start n (suc m) le e =
    ⊎_elim
    (λ lt. or_right (same_byte byte (behind start m)) (is_in_run byte start m) (among byte start n m (omega arith) e))
    (λ ge. let is : n ≡ suc m = omega arith in subst (λ (j : ℕ). is_in_run byte start j ≡ true) is e)
    (cases_lt n (suc m))

-- what is written by an operator on low bytes, and what is read on its right
written_less : (op : BinOp) (ty : IntTy) → bytes_of (type_of (low_op op) UChar) ≤ bytes_of (type_of op ty)
written_less ops.Eq ty = omega arith
written_less ops.Ne ty = omega arith
written_less ops.Lt ty = omega arith
written_less ops.Gt ty = omega arith
written_less ops.Le ty = omega arith
written_less ops.Ge ty = omega arith
written_less _ ty = width_positive ty

right_less : (op : BinOp) (ty : IntTy) → bytes_of (right_type (low_op op) UChar) ≤ bytes_of (right_type op ty)
right_less ops.Shl ty = omega arith
right_less ops.Shr ty = omega arith
right_less _ ty = width_positive ty

low_less : (size : ℕ) → low_size size ≤ size
low_less zero = omega arith
low_less (suc k) = omega arith

module _ (byte : Byte) where
  mutual
    made_uses : (t : Plan) → uses byte (made t) ≡ true → uses byte (given t) ≡ true
    made_uses (plans.Stays t) e = e
    made_uses (plans.Narrowed op ty to left right) e =
        or_on (is_in_run byte to (bytes_of (type_of (low_op op) UChar))) (is_in_run byte left (bytes_of UChar) || is_in_run byte right (bytes_of (right_type (low_op op) UChar)))
        (is_in_run byte to (bytes_of (type_of op ty))) (is_in_run byte left (bytes_of ty) || is_in_run byte right (bytes_of (right_type op ty)))
        (among byte to (bytes_of (type_of (low_op op) UChar)) (bytes_of (type_of op ty)) (written_less op ty))
        (or_on (is_in_run byte left (bytes_of UChar)) (is_in_run byte right (bytes_of (right_type (low_op op) UChar))) (is_in_run byte left (bytes_of ty)) (is_in_run byte right (bytes_of (right_type op ty)))
        (among byte left (bytes_of UChar) (bytes_of ty) (width_positive ty)) (among byte right (bytes_of (right_type (low_op op) UChar)) (bytes_of (right_type op ty)) (right_less op ty)))
        e
    made_uses (plans.Several ts) e = all_made_use ts e
    made_uses (plans.Choice test size plans.Whole first second) e =
        or_on (is_in_run byte test size) (uses byte (made first) || uses byte (made second)) (is_in_run byte test size) (uses byte (given first) || uses byte (given second)) (λ h. h)
        (or_on (uses byte (made first)) (uses byte (made second)) (uses byte (given first)) (uses byte (given second)) (made_uses first) (made_uses second)) e
    made_uses (plans.Choice test size plans.Low first second) e =
        or_on (is_in_run byte test (low_size size)) (uses byte (made first) || uses byte (made second)) (is_in_run byte test size) (uses byte (given first) || uses byte (given second)) (among byte test (low_size size) size (low_less size))
        (or_on (uses byte (made first)) (uses byte (made second)) (uses byte (given first)) (uses byte (given second)) (made_uses first) (made_uses second)) e
    made_uses (plans.Choice test size plans.Turned first second) e =
        or_on (is_in_run byte test (low_size size)) (uses byte (made second) || uses byte (made first)) (is_in_run byte test size) (uses byte (given first) || uses byte (given second)) (among byte test (low_size size) size (low_less size))
        (or_by (uses byte (made second)) (uses byte (made first)) (uses byte (given first) || uses byte (given second)) (λ h. or_right (uses byte (given first)) (uses byte (given second)) (made_uses second h))
        (λ h. or_left (uses byte (given first)) (uses byte (given second)) (made_uses first h))) e
    made_uses (plans.Repeat front behind body) e = made_uses body e

    pub all_made_use : (ts : Plans) → all_use byte (all_made ts) ≡ true → all_use byte (all_given ts) ≡ true
    all_made_use NoPlan e = e
    all_made_use (AndPlan t ts) e = or_on (uses byte (made t)) (all_use byte (all_made ts)) (uses byte (given t)) (all_use byte (all_given ts)) (made_uses t) (all_made_use ts) e

pub plans_use_only : (ts : Plans) → UsesOnly (all_given ts) (all_made ts)
plans_use_only ts byte e = all_made_use byte ts e
