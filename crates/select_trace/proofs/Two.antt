-- Operators on two values that call no routine, as selection asks.
use Rattle.std.proofs.Common.{◌≡◌, ◌≢◌, ℕ, ◌+◌, ◌<◌, Bool, true, false, not, List, Option, Some, None, option_map, length, refl, sym, ap, ◌∙◌, subst, arith, ℤ, pos}
use Rattle.std.specs.Prelude.{nat_eq, ◌&&◌, if◌then◌else◌}
use Rattle.std.specs.Ordering.{int_eq}
use Rattle.c_ints.specs.Operators.{cut_to, outcome}
use Rattle.c_ints.specs.Quantity.{Quantity}
use Rattle.c_ints.specs.Range.{bytes_of, cut, pattern}
use Rattle.c_ints.specs.declared.operators.BinOp.{BinOp}
use Rattle.c_ints.specs.declared.operators.BinOp.TheVariants.{Mul, Div, Rem, Add, Sub, Shl, Shr, Lt, Gt, Le, Ge, Eq, Ne, And, Xor, Or}
use Rattle.c_ints.specs.declared.types.IntTy.{IntTy}
use Rattle.pic_world.specs.World.{World}
use Rattle.core_code.specs.Bytes as bytes
use Rattle.core_code.specs.Bytes.{Object, Fixed, FrameOf, Place, behind, same_object, with_bytes}
use Rattle.core_code.specs.Cost.{binary_cost}
use Rattle.core_code.specs.Machine.{Waiting, is_own, extent, object_bytes}
use Rattle.core_code.specs.Operands.{number_left, is_helped, fits_together}
use Rattle.core_code.specs.Tree.{Tree}
use Rattle.core_code.specs.Values.{Value, Number, Pointer, byte_count, byte_of, value_in, binary_value, right_type, pointer_number, number_pointer, on_pointers, with_null, in_one_object, equal_pointers, may_touch, truth_value}
use Rattle.core_code.specs.declared.code.Byte.{Byte}
use Rattle.select_wide.specs.Selection.{binary_code}
use Rattle.sym_code.specs.Effect.{Memory}
use Rattle.sym_code.specs.Machine.{Machine}
use Rattle.sym_code.specs.Programs.{Position}
use Rattle.sym_code.specs.Registers.{Registers}
use Rattle.sym_code.specs.Registers as registers
use Rattle.select_trace.proofs.Truths.{same_nat}
use Rattle.select_trace.proofs.Standing.{Has}
use Rattle.select_trace.proofs.Placed.{slot}
use Rattle.select_trace.proofs.Sites.{Site, layout}
use Rattle.select_trace.proofs.Live.{is_live, below}
use Rattle.select_trace.proofs.Memory.{Shown}
use Rattle.select_trace.proofs.Blocks.{block}
use Rattle.select_trace.proofs.Steps.{Fit}
use Rattle.math_helpers.specs.Wanted.{byte_at}
use Rattle.select_trace.proofs.Tests as tests
use Rattle.select_trace.proofs.Tests.{behind_none}
use Rattle.select_trace.proofs.Values.{Arrives}
use Rattle.select_trace.specs.Operators.{number_from, IsCount}
use Rattle.select_trace.specs.Silent.{number_at}
use Rattle.select_trace.proofs.Vals.{val_below}
use Rattle.select_trace.proofs.Binaries as binaries
use Rattle.select_trace.proofs.Held.{Kind, Counts, Points, kind, IsPointer, Aims, shows_number}
use Rattle.select_trace.proofs.Objects.{other_address}
use Rattle.select_trace.proofs.Pointers as pointers
use Rattle.select_trace.proofs.Pointers.{Answered, Both, one_object}
use Rattle.select_trace.proofs.Setup.{slot_is}
use Rattle.select_trace.proofs.Unaries as unaries

some_is : {A : Type 0} {x y : A} → Some x ≡ Some y → x ≡ y
some_is e = cc

mapped : (o : Option Quantity) (v : Value) → option_map Number o ≡ Some v → (q : Quantity) × (o ≡ Some q) × (Number q ≡ v)
mapped None v e = absurd (cc)
mapped (Some q) v e = (q, refl, some_is e)

same_objects : (a b : Object) → same_object a b ≡ true → a ≡ b
same_objects a b e = by a b e
  where
    by : (a b : Object) → same_object a b ≡ true → a ≡ b
    by (Fixed n) (Fixed m) e = ap Fixed (same_nat n m e)
    by (FrameOf n) (FrameOf m) e = ap FrameOf (same_nat n m e)
    by (Fixed n) (FrameOf m) e = absurd (cc)
    by (FrameOf n) (Fixed m) e = absurd (cc)

when_null : (z : ℤ) (b : Bool) (v : Value) → with_null z b ≡ Some v → (int_eq z (pos 0) ≡ true) × (truth_value b ≡ v)
when_null z b v e = by (int_eq z (pos 0)) refl e
  where
    by : (c : Bool) → int_eq z (pos 0) ≡ c → (if c then Some (truth_value b) else None) ≡ Some v → (int_eq z (pos 0) ≡ true) × (truth_value b ≡ v)
    by true q e = (q, some_is e)
    by false q e = absurd (cc)

when_one : (x y : Place) (w v : Value) → in_one_object x y w ≡ Some v → (same_object x.object y.object ≡ true) × (w ≡ v)
when_one x y w v e = by (same_object x.object y.object) refl e
  where
    by : (c : Bool) → same_object x.object y.object ≡ c → (if c then Some w else None) ≡ Some v → (same_object x.object y.object ≡ true) × (w ≡ v)
    by true q e = (q, some_is e)
    by false q e = absurd (cc)

module _ (s : Site) (t : Machine) (wc : World bytes.Held) (f : ℕ) (pr : Option ℕ) (st : List Waiting) (loops : List ℕ) (ps : List Position) (cm : bytes.Memory) (m : Memory) (fit : Fit s t wc f pr st loops ps cm m) (r : Registers) (fits : registers.Fits r) where
  abbrev num : Byte → ℕ → ℕ
  num x w = number_from (layout s) m x w

  sizes : (x : Object) → (extent s.q f st).size x ≡ object_bytes s.q x
  unfolding extent
  sizes x = refl

  small : (x : Byte) (w : ℕ) → w ≡ 2 → num x w < 65536
  small x w e = subst (λ k. num x k < 65536) (sym e) (val_below (λ k. m (number_at (layout s) (behind x k))) 2 (λ j l. fit.bytes (number_at (layout s) (behind x j))))

  -- a pointer and a number
  left : (op : BinOp) (ty : IntTy) (p : Place) (n k : ℕ) (v : Value) → bytes_of ty ≡ 2 → k < 65536 → Aims s p n → pointer_number (extent s.q f st) op p (cut ty (pos k)) ≡ Some v → Answered s op ty n k v
  left Add ty p n k v two lt a e = pointers.add_moves s ty n k p (extent s.q f st) v sizes two lt a e
  left Sub ty p n k v two lt a e = pointers.sub_moves s ty n k p (extent s.q f st) v sizes two lt a e
  left Eq ty p n k v two lt a e = let z = when_null (cut ty (pos k)) false v e in pointers.eq_null s ty n k p v two lt a z.0 z.1
  left Ne ty p n k v two lt a e = let z = when_null (cut ty (pos k)) true v e in pointers.ne_null s ty n k p v two lt a z.0 z.1
  left Mul ty p n k v two lt a e = absurd (cc)
  left Div ty p n k v two lt a e = absurd (cc)
  left Rem ty p n k v two lt a e = absurd (cc)
  left Shl ty p n k v two lt a e = absurd (cc)
  left Shr ty p n k v two lt a e = absurd (cc)
  left Lt ty p n k v two lt a e = absurd (cc)
  left Gt ty p n k v two lt a e = absurd (cc)
  left Le ty p n k v two lt a e = absurd (cc)
  left Ge ty p n k v two lt a e = absurd (cc)
  left And ty p n k v two lt a e = absurd (cc)
  left Xor ty p n k v two lt a e = absurd (cc)
  left Or ty p n k v two lt a e = absurd (cc)

  -- a number and a pointer
  right : (op : BinOp) (ty : IntTy) (p : Place) (n k : ℕ) (v : Value) → bytes_of ty ≡ 2 → n < 65536 → Aims s p k → number_pointer (extent s.q f st) op (cut ty (pos n)) p ≡ Some v → Answered s op ty n k v
  right Add ty p n k v two lt a e = pointers.add_moves_right s ty n k p (extent s.q f st) v sizes two lt a e
  right Eq ty p n k v two lt a e = let z = when_null (cut ty (pos n)) false v e in pointers.null_eq s ty n k p v two lt a z.0 z.1
  right Ne ty p n k v two lt a e = let z = when_null (cut ty (pos n)) true v e in pointers.null_ne s ty n k p v two lt a z.0 z.1
  right Sub ty p n k v two lt a e = absurd (cc)
  right Mul ty p n k v two lt a e = absurd (cc)
  right Div ty p n k v two lt a e = absurd (cc)
  right Rem ty p n k v two lt a e = absurd (cc)
  right Shl ty p n k v two lt a e = absurd (cc)
  right Shr ty p n k v two lt a e = absurd (cc)
  right Lt ty p n k v two lt a e = absurd (cc)
  right Gt ty p n k v two lt a e = absurd (cc)
  right Le ty p n k v two lt a e = absurd (cc)
  right Ge ty p n k v two lt a e = absurd (cc)
  right And ty p n k v two lt a e = absurd (cc)
  right Xor ty p n k v two lt a e = absurd (cc)
  right Or ty p n k v two lt a e = absurd (cc)

  -- two pointers
  below_512 : (p : Place) (n : ℕ) → Aims s p n → n < 512
  below_512 p n a = let i = a.is in let b = a.below in omega (arith, i, b)

  equal : (b : Bool) (ty : IntTy) (p q : Place) (n k : ℕ) (v : Value) → (same_object p.object q.object ≡ true → truth_value (if b then not (nat_eq p.offset q.offset) else nat_eq p.offset q.offset) ≡ v → Answered s (if b then Ne else Eq) ty n k v) → (n ≢ k → truth_value b ≡ v → Answered s (if b then Ne else Eq) ty n k v) → Aims s p n → Aims s q k →
      option_map (λ same. truth_value (if b then not same else same)) (equal_pointers (extent s.q f st) p q) ≡ Some v → Answered s (if b then Ne else Eq) ty n k v
  equal b ty p q n k v one other ap1 aq e = by (same_object p.object q.object) refl e
    where
      flipped : (b : Bool) → truth_value (if b then not false else false) ≡ truth_value b
      flipped true = refl
      flipped false = refl

      apart : (c : Bool) → ((extent s.q f st).lives p.object && (extent s.q f st).lives q.object && not (may_touch (extent s.q f st) p q)) ≡ c → same_object p.object q.object ≡ false → option_map (λ same. truth_value (if b then not same else same)) (if c then Some false else None) ≡ Some v → Answered s (if b then Ne else Eq) ty n k v
      apart true z d e = other (other_address s f pr st fit.passing fit.chain p q n k ap1 aq d z) (sym (flipped b) ∙ some_is e)
      apart false z d e = absurd (cc)

      by : (c : Bool) → same_object p.object q.object ≡ c →
          option_map (λ same. truth_value (if b then not same else same)) (if c then Some (nat_eq p.offset q.offset) else (if (extent s.q f st).lives p.object && (extent s.q f st).lives q.object && not (may_touch (extent s.q f st) p q) then Some false else None)) ≡ Some v → Answered s (if b then Ne else Eq) ty n k v
      by true d e = one d (some_is e)
      by false d e = apart ((extent s.q f st).lives p.object && (extent s.q f st).lives q.object && not (may_touch (extent s.q f st) p q)) refl d e

  within : (p q : Place) (n k : ℕ) → Aims s p n → Aims s q k → same_object p.object q.object ≡ true → Both s p q n k
  within p q n k a b d = one_object s p q n k (same_objects p.object q.object d) a b

  pair : (op : BinOp) (ty : IntTy) (p q : Place) (n k : ℕ) (v : Value) → bytes_of ty ≡ 2 → Aims s p n → Aims s q k → on_pointers (extent s.q f st) op ty p q ≡ Some v → Answered s op ty n k v
  pair Eq ty p q n k v two a b e = equal false ty p q n k v (λ d is. pointers.eq_same s ty n k p q v two (within p q n k a b d) is) (λ ne is. pointers.eq_other s ty n k v two (below_512 p n a) (below_512 q k b) ne is) a b e
  pair Ne ty p q n k v two a b e = equal true ty p q n k v (λ d is. pointers.ne_same s ty n k p q v two (within p q n k a b d) is) (λ ne is. pointers.ne_other s ty n k v two (below_512 p n a) (below_512 q k b) ne is) a b e
  pair Sub ty p q n k v two a b e = let z = when_one p q _ v e in pointers.sub_same s ty n k p q v two (within p q n k a b z.0) z.1
  pair Lt ty p q n k v two a b e = let z = when_one p q _ v e in pointers.lt_same s ty n k p q v two (within p q n k a b z.0) z.1
  pair Gt ty p q n k v two a b e = let z = when_one p q _ v e in pointers.gt_same s ty n k p q v two (within p q n k a b z.0) z.1
  pair Le ty p q n k v two a b e = let z = when_one p q _ v e in pointers.le_same s ty n k p q v two (within p q n k a b z.0) z.1
  pair Ge ty p q n k v two a b e = let z = when_one p q _ v e in pointers.ge_same s ty n k p q v two (within p q n k a b z.0) z.1
  pair Add ty p q n k v two a b e = absurd (cc)
  pair Mul ty p q n k v two a b e = absurd (cc)
  pair Div ty p q n k v two a b e = absurd (cc)
  pair Rem ty p q n k v two a b e = absurd (cc)
  pair Shl ty p q n k v two a b e = absurd (cc)
  pair Shr ty p q n k v two a b e = absurd (cc)
  pair And ty p q n k v two a b e = absurd (cc)
  pair Xor ty p q n k v two a b e = absurd (cc)
  pair Or ty p q n k v two a b e = absurd (cc)

  -- the operands, of either kind
  answered : (op : BinOp) (ty : IntTy) (x y : Byte) (a b v : Value) → is_own s.q f x (bytes_of ty) ≡ true → is_own s.q f y (bytes_of (right_type op ty)) ≡ true → Kind ty cm x a → Kind (right_type op ty) cm y b → binary_value (extent s.q f st) op ty a b ≡ Some v →
      Answered s op ty (num x (bytes_of ty)) (num y (bytes_of (right_type op ty))) v
  unfolding binary_value
  answered op ty x y a b v ox oy (Counts k c is) (Counts l d js) e =
      let k1 : k ≡ num x (bytes_of ty) = unaries.counted s t wc f pr st loops ps cm m fit r fits ty x k ox c in
      let l1 : l ≡ num y (bytes_of (right_type op ty)) = unaries.counted s t wc f pr st loops ps cm m fit r fits (right_type op ty) y l oy d in
      let z = mapped (outcome op (cut_to ty (pos k)) (cut_to (right_type op ty) (pos l))) v (ap (λ u. binary_value (extent s.q f st) op ty u (Number (cut_to (right_type op ty) (pos l)))) (sym is) ∙ ap (binary_value (extent s.q f st) op ty a) (sym js) ∙ e) in
      record {
        value = z.0;
        is = ap (λ u. outcome op (cut_to ty (pos u)) (cut_to (right_type op ty) (pos (num y (bytes_of (right_type op ty)))))) (sym k1) ∙ ap (λ u. outcome op (cut_to ty (pos k)) (cut_to (right_type op ty) (pos u))) (sym l1) ∙ z.1;
        count = ap byte_count (sym z.2);
        shows = λ j lt. subst (λ (u : Value). Shown s (byte_of u j) (byte_at (pattern z.0.ty z.0.number) j)) z.2 (shows_number s z.0 (pattern z.0.ty z.0.number) refl j);
      }
  answered op ty x y a b v ox oy (Points p two h is) (Counts l d js) e =
      let l1 : l ≡ num y (bytes_of (right_type op ty)) = unaries.counted s t wc f pr st loops ps cm m fit r fits (right_type op ty) y l oy d in
      let u : pointer_number (extent s.q f st) op p (cut (right_type op ty) (pos (num y (bytes_of (right_type op ty))))) ≡ Some v =
      ap (λ z. pointer_number (extent s.q f st) op p (cut (right_type op ty) (pos z))) (sym l1) ∙ ap (λ z. binary_value (extent s.q f st) op ty z (Number (cut_to (right_type op ty) (pos l)))) (sym is) ∙ ap (binary_value (extent s.q f st) op ty a) (sym js) ∙ e in
      first op ty x y p v two oy (unaries.aimed s t wc f pr st loops ps cm m fit r fits ty x p ox two h) u
    where
      first : (op : BinOp) (ty : IntTy) (x y : Byte) (p : Place) (v : Value) → bytes_of ty ≡ 2 → is_own s.q f y (bytes_of (right_type op ty)) ≡ true → Aims s p (num x (bytes_of ty)) → pointer_number (extent s.q f st) op p (cut (right_type op ty) (pos (num y (bytes_of (right_type op ty))))) ≡ Some v →
          Answered s op ty (num x (bytes_of ty)) (num y (bytes_of (right_type op ty))) v
      first Add ty x y p v two oy a u = left Add ty p (num x (bytes_of ty)) (num y (bytes_of ty)) v two (small y (bytes_of ty) two) a u
      first Sub ty x y p v two oy a u = left Sub ty p (num x (bytes_of ty)) (num y (bytes_of ty)) v two (small y (bytes_of ty) two) a u
      first Eq ty x y p v two oy a u = left Eq ty p (num x (bytes_of ty)) (num y (bytes_of ty)) v two (small y (bytes_of ty) two) a u
      first Ne ty x y p v two oy a u = left Ne ty p (num x (bytes_of ty)) (num y (bytes_of ty)) v two (small y (bytes_of ty) two) a u
      first Mul ty x y p v two oy a u = absurd (cc)
      first Div ty x y p v two oy a u = absurd (cc)
      first Rem ty x y p v two oy a u = absurd (cc)
      first Shl ty x y p v two oy a u = absurd (cc)
      first Shr ty x y p v two oy a u = absurd (cc)
      first Lt ty x y p v two oy a u = absurd (cc)
      first Gt ty x y p v two oy a u = absurd (cc)
      first Le ty x y p v two oy a u = absurd (cc)
      first Ge ty x y p v two oy a u = absurd (cc)
      first And ty x y p v two oy a u = absurd (cc)
      first Xor ty x y p v two oy a u = absurd (cc)
      first Or ty x y p v two oy a u = absurd (cc)
  answered op ty x y a b v ox oy (Counts k c is) (Points p two h js) e =
      let k1 : k ≡ num x (bytes_of ty) = unaries.counted s t wc f pr st loops ps cm m fit r fits ty x k ox c in
      let u : number_pointer (extent s.q f st) op (cut ty (pos (num x (bytes_of ty)))) p ≡ Some v =
      ap (λ z. number_pointer (extent s.q f st) op (cut ty (pos z)) p) (sym k1) ∙ ap (λ z. binary_value (extent s.q f st) op ty z (Pointer p)) (sym is) ∙ ap (binary_value (extent s.q f st) op ty a) (sym js) ∙ e in
      second op ty x y p v two oy h u
    where
      second : (op : BinOp) (ty : IntTy) (x y : Byte) (p : Place) (v : Value) → bytes_of (right_type op ty) ≡ 2 → is_own s.q f y (bytes_of (right_type op ty)) ≡ true → IsPointer cm y p → number_pointer (extent s.q f st) op (cut ty (pos (num x (bytes_of ty)))) p ≡ Some v →
          Answered s op ty (num x (bytes_of ty)) (num y (bytes_of (right_type op ty))) v
      second Add ty x y p v two oy h u = right Add ty p (num x (bytes_of ty)) (num y (bytes_of ty)) v two (small x (bytes_of ty) two) (unaries.aimed s t wc f pr st loops ps cm m fit r fits ty y p oy two h) u
      second Eq ty x y p v two oy h u = right Eq ty p (num x (bytes_of ty)) (num y (bytes_of ty)) v two (small x (bytes_of ty) two) (unaries.aimed s t wc f pr st loops ps cm m fit r fits ty y p oy two h) u
      second Ne ty x y p v two oy h u = right Ne ty p (num x (bytes_of ty)) (num y (bytes_of ty)) v two (small x (bytes_of ty) two) (unaries.aimed s t wc f pr st loops ps cm m fit r fits ty y p oy two h) u
      second Sub ty x y p v two oy h u = absurd (cc)
      second Mul ty x y p v two oy h u = absurd (cc)
      second Div ty x y p v two oy h u = absurd (cc)
      second Rem ty x y p v two oy h u = absurd (cc)
      second Shl ty x y p v two oy h u = absurd (cc)
      second Shr ty x y p v two oy h u = absurd (cc)
      second Lt ty x y p v two oy h u = absurd (cc)
      second Gt ty x y p v two oy h u = absurd (cc)
      second Le ty x y p v two oy h u = absurd (cc)
      second Ge ty x y p v two oy h u = absurd (cc)
      second And ty x y p v two oy h u = absurd (cc)
      second Xor ty x y p v two oy h u = absurd (cc)
      second Or ty x y p v two oy h u = absurd (cc)
  answered op ty x y a b v ox oy (Points p two h is) (Points q two2 h2 js) e =
      third op ty x y p q v two two2 ox oy h h2 (ap (λ z. binary_value (extent s.q f st) op ty z (Pointer q)) (sym is) ∙ ap (binary_value (extent s.q f st) op ty a) (sym js) ∙ e)
    where
      third : (op : BinOp) (ty : IntTy) (x y : Byte) (p q : Place) (v : Value) → bytes_of ty ≡ 2 → bytes_of (right_type op ty) ≡ 2 → is_own s.q f x (bytes_of ty) ≡ true → is_own s.q f y (bytes_of (right_type op ty)) ≡ true → IsPointer cm x p → IsPointer cm y q → on_pointers (extent s.q f st) op ty p q ≡ Some v →
          Answered s op ty (num x (bytes_of ty)) (num y (bytes_of (right_type op ty))) v
      third Eq ty x y p q v two two2 ox oy h h2 u = pair Eq ty p q (num x (bytes_of ty)) (num y (bytes_of ty)) v two (unaries.aimed s t wc f pr st loops ps cm m fit r fits ty x p ox two h) (unaries.aimed s t wc f pr st loops ps cm m fit r fits ty y q oy two2 h2) u
      third Ne ty x y p q v two two2 ox oy h h2 u = pair Ne ty p q (num x (bytes_of ty)) (num y (bytes_of ty)) v two (unaries.aimed s t wc f pr st loops ps cm m fit r fits ty x p ox two h) (unaries.aimed s t wc f pr st loops ps cm m fit r fits ty y q oy two2 h2) u
      third Sub ty x y p q v two two2 ox oy h h2 u = pair Sub ty p q (num x (bytes_of ty)) (num y (bytes_of ty)) v two (unaries.aimed s t wc f pr st loops ps cm m fit r fits ty x p ox two h) (unaries.aimed s t wc f pr st loops ps cm m fit r fits ty y q oy two2 h2) u
      third Lt ty x y p q v two two2 ox oy h h2 u = pair Lt ty p q (num x (bytes_of ty)) (num y (bytes_of ty)) v two (unaries.aimed s t wc f pr st loops ps cm m fit r fits ty x p ox two h) (unaries.aimed s t wc f pr st loops ps cm m fit r fits ty y q oy two2 h2) u
      third Gt ty x y p q v two two2 ox oy h h2 u = pair Gt ty p q (num x (bytes_of ty)) (num y (bytes_of ty)) v two (unaries.aimed s t wc f pr st loops ps cm m fit r fits ty x p ox two h) (unaries.aimed s t wc f pr st loops ps cm m fit r fits ty y q oy two2 h2) u
      third Le ty x y p q v two two2 ox oy h h2 u = pair Le ty p q (num x (bytes_of ty)) (num y (bytes_of ty)) v two (unaries.aimed s t wc f pr st loops ps cm m fit r fits ty x p ox two h) (unaries.aimed s t wc f pr st loops ps cm m fit r fits ty y q oy two2 h2) u
      third Ge ty x y p q v two two2 ox oy h h2 u = pair Ge ty p q (num x (bytes_of ty)) (num y (bytes_of ty)) v two (unaries.aimed s t wc f pr st loops ps cm m fit r fits ty x p ox two h) (unaries.aimed s t wc f pr st loops ps cm m fit r fits ty y q oy two2 h2) u
      third Add ty x y p q v two two2 ox oy h h2 u = absurd (cc)
      third Mul ty x y p q v two two2 ox oy h h2 u = absurd (cc)
      third Div ty x y p q v two two2 ox oy h h2 u = absurd (cc)
      third Rem ty x y p q v two two2 ox oy h h2 u = absurd (cc)
      third Shl ty x y p q v two two2 ox oy h h2 u = absurd (cc)
      third Shr ty x y p q v two two2 ox oy h h2 u = absurd (cc)
      third And ty x y p q v two two2 ox oy h h2 u = absurd (cc)
      third Xor ty x y p q v two two2 ox oy h h2 u = absurd (cc)
      third Or ty x y p q v two two2 ox oy h h2 u = absurd (cc)

  -- what is known of the count
  known_count : (o : Option ℕ) (y : Byte) → is_own s.q f y 1 ≡ true → ((c : ℕ) → o ≡ Some c → cm y ≡ bytes.Number c) → IsCount o (m (number_at (layout s) y))
  known_count None y oy k = tt
  known_count (Some c) y oy k =
      let sh : Shown s (cm (behind y 0)) (m (slot (layout s) (behind y 0))) = unaries.shown s t wc f pr st loops ps cm m fit r fits y 1 oy 0 (omega arith) in
      let z : Shown s (bytes.Number c) (m (slot (layout s) y)) = subst (λ h. Shown s h (m (slot (layout s) y))) (k c refl) (subst (λ b. Shown s (cm b) (m (slot (layout s) b))) (behind_none y) sh) in
      ap m (sym (slot_is (layout s) y)) ∙ z

  one_own : (op : BinOp) (ty : IntTy) (y : Byte) → is_own s.q f y (bytes_of (right_type op ty)) ≡ true → is_own s.q f y 1 ≡ true
  one_own op ty y oy = subst (λ b. is_own s.q f b 1 ≡ true) (behind_none y) (tests.own_part s f (bytes_of (right_type op ty)) 0 y oy (wide (right_type op ty)))
    where
      wide : (ty : IntTy) → 0 < bytes_of ty
      wide ty = grind arith

  -- an operator that calls no routine, whose count, where it is known, is the one that memory holds
  pub binary_go : (before : List Tree) (op : BinOp) (ty : IntTy) (to x y : Byte) (n : ℕ) (a b v : Value) → Has (block s f) n (binary_code s.copies (s.q.root f) before op ty to x y) → is_helped op (number_left before y) ≡ false → fits_together op ty (number_left before y) to x y ≡ true →
      is_own s.q f x (bytes_of ty) ≡ true → is_own s.q f y (bytes_of (right_type op ty)) ≡ true → ((c : ℕ) → number_left before y ≡ Some c → cm y ≡ bytes.Number c) →
      value_in ty cm x ≡ Some a → value_in (right_type op ty) cm y ≡ Some b → binary_value (extent s.q f st) op ty a b ≡ Some v → is_own s.q f to (byte_count v) ≡ true →
      Arrives s wc.inside (is_live f pr (below st)) f ps n r m (n + length (binary_code s.copies (s.q.root f) before op ty to x y)) (with_bytes cm to (byte_count v) (byte_of v)) (binary_cost op (number_left before y) (bytes_of ty))
  binary_go before op ty to x y n a b v h help fit2 ox oy known ea eb e oto =
      let z : Answered s op ty (num x (bytes_of ty)) (num y (bytes_of (right_type op ty))) v = answered op ty x y a b v ox oy (kind ty cm x a ea) (kind (right_type op ty) cm y b eb) e in
      binaries.each s t wc f pr st loops ps cm m fit r fits op before ty to x y n z.value v h help fit2 ox oy oto z.count (known_count (number_left before y) y (one_own op ty y oy) known) z.is z.shows
