-- Operators that a routine computes, as selection asks.
use Rattle.std.proofs.Common.{◌≡◌, ℕ, ◌+◌, ◌*◌, ◌%◌, ◌^◌, ◌<◌, ◌≤◌, Bool, true, false, not, nat_lt, if◌then◌else◌, List, ◌++◌, length, Option, Some, None, option_map, refl, sym, ap, ◌∙◌, subst, arith, pos, ℤ}
use Rattle.c_ints.specs.Operators.{cut_to, outcome, type_of}
use Rattle.c_ints.specs.Operators as operators
use Rattle.c_ints.specs.Quantity.{Quantity}
use Rattle.c_ints.specs.Range.{bytes_of, cut}
use Rattle.c_ints.specs.declared.operators.BinOp.{BinOp}
use Rattle.c_ints.specs.declared.operators.BinOp.TheVariants.{Mul, Div, Rem, Add, Sub, Shl, Shr, Lt, Gt, Le, Ge, Eq, Ne, And, Xor, Or}
use Rattle.c_ints.specs.declared.types.IntTy.{IntTy}
use Rattle.c_ints.specs.declared.types.IntTy.TheVariants.{Char, SChar, UChar, Short, UShort, Int, UInt, Long, ULong}
use Rattle.c_typed.specs.Calls.{int_helper, by_type}
use Rattle.c_typed.specs.declared.calls.Helper.{Helper}
use Rattle.c_typed.specs.declared.calls.Helper.TheVariants.{Mul2, Mul4, Divu2, Divs2, Remu2, Rems2, Divu4, Divs4, Remu4, Rems4, Shl2, Shru2, Shrs2, Shl4, Shru4, Shrs4}
use Rattle.call_graph.specs.Numbers.{copy_of}
use Rattle.call_graph.specs.declared.types.FnCopy.{FnCopy}
use Rattle.pic_world.specs.World.{World}
use Rattle.pic_world.specs.declared.Root.{Root}
use Rattle.core_code.specs.Bytes as bytes
use Rattle.core_code.specs.Bytes.{Held, behind, with_bytes, without_results}
use Rattle.core_code.specs.Cost.{helper_cost, binary_cost}
use Rattle.core_code.specs.Machine.{Waiting, is_own, extent, fits_call, after_helper}
use Rattle.core_code.specs.Operands.{number_left, is_helped, is_frames, fits_together, fits_helper}
use Rattle.core_code.specs.Tree.{Tree}
use Rattle.core_code.specs.Values.{Value, Number, Pointer, Extent, byte_count, byte_of, value_in, binary_value, right_type}
use Rattle.core_code.specs.declared.code.Byte.{Byte}
use Rattle.core_code.specs.declared.code.Byte.TheVariants.{Frame, Result}
use Rattle.math_helpers.specs.Shape.{right_bytes}
use Rattle.math_helpers.specs.Wanted.{right_operand}
use Rattle.select_wide.specs.Calls.{helped_code, any_call_code, copy_call_code, enter_code}
use Rattle.select_wide.specs.Moves.{copies_code}
use Rattle.select_wide.specs.Selection.{binary_code, shifted_code}
use Rattle.sym_code.specs.Effect.{Memory}
use Rattle.sym_code.specs.Machine.{Machine}
use Rattle.sym_code.specs.Programs.{Position}
use Rattle.sym_code.specs.Registers.{Registers, Fits}
use Rattle.sym_code.specs.declared.code.Sym.{Sym}
use Rattle.select_trace.proofs.Truths.{and_left, and_right}
use Rattle.select_trace.proofs.Standing.{Has}
use Rattle.select_trace.proofs.Placed.{slot}
use Rattle.select_trace.proofs.Sites.{Site, layout}
use Rattle.select_trace.proofs.Live.{is_live, below}
use Rattle.select_trace.proofs.Memory.{Shown, agrees_shown}
use Rattle.select_trace.proofs.Blocks.{block}
use Rattle.select_trace.proofs.Steps.{Fit}
use Rattle.select_trace.proofs.Access.{own_valid}
use Rattle.select_trace.proofs.Tests.{own_part}
use Rattle.select_trace.proofs.Values.{Arrives}
use Rattle.select_trace.specs.Values.{val}
use Rattle.select_trace.proofs.Ints.{Stands, stands, Plain, Negative}
use Rattle.select_trace.proofs.Vals.{val_below}
use Rattle.select_trace.proofs.Callee.{callee_there}
use Rattle.select_trace.proofs.Held.{Kind, kind, Counts, Points, number_is}
use Rattle.select_trace.proofs.Helped.{left_bytes, parts_code, room, frame_front, helped_goes}

-- ---- the routine of an operator and a type
typed : (s2 u2 s4 u4 : Helper) (ty : IntTy) (P : Helper → ℕ → Type 0) → nat_lt 1 (bytes_of ty) ≡ true → P s2 2 → P u2 2 → P s4 4 → P u4 4 → (h : Helper) × (by_type s2 u2 s4 u4 ty ≡ Some h) × P h (bytes_of ty)
typed s2 u2 s4 u4 Char P lt a b c d = absurd (cc)
typed s2 u2 s4 u4 SChar P lt a b c d = absurd (cc)
typed s2 u2 s4 u4 UChar P lt a b c d = absurd (cc)
typed s2 u2 s4 u4 Short P lt a b c d = (s2, refl, a)
typed s2 u2 s4 u4 UShort P lt a b c d = (u2, refl, b)
typed s2 u2 s4 u4 Int P lt a b c d = (s2, refl, a)
typed s2 u2 s4 u4 UInt P lt a b c d = (u2, refl, b)
typed s2 u2 s4 u4 Long P lt a b c d = (s4, refl, c)
typed s2 u2 s4 u4 ULong P lt a b c d = (u4, refl, d)

abbrev Sized : ℕ → Helper → ℕ → Type 0
Sized v h w = (left_bytes h ≡ w) × (right_bytes h ≡ v)

-- What holds of an operator that a routine computes.
record Uses (op : BinOp) (ty : IntTy) (count : Option ℕ) (to : Byte) : Type 0 where
  helper : Helper
  is : int_helper op false ty ≡ Some helper
  left : left_bytes helper ≡ bytes_of ty
  right : right_bytes helper ≡ bytes_of (right_type op ty)
  frames : is_frames to ≡ true
  kept : type_of op ty ≡ ty
  code : (list : List FnCopy) (root : Root) (before : List Tree) (x y : Byte) → number_left before y ≡ count → binary_code list root before op ty to x y ≡ helped_code list root op ty to x y (bytes_of ty) (bytes_of (right_type op ty))
  cost : 12 * bytes_of ty + 6 * bytes_of (right_type op ty) + 3 + helper_cost ≤ binary_cost op count (bytes_of ty)
  numbers : (e : Extent) (a b v : Value) → binary_value e op ty a b ≡ Some v → (p : Quantity) × (q : Quantity) × (z : Quantity) × (a ≡ Number p) × (b ≡ Number q) × (outcome op p q ≡ Some z) × (Number z ≡ v)
  same : (a : Quantity) (n : ℕ) → n < 256 ^ bytes_of (right_type op ty) → outcome op a (cut_to (right_type op ty) (pos n)) ≡ outcome op a (right_operand op ty n)

mapped : (o : Option Quantity) (v : Value) → option_map Number o ≡ Some v → (z : Quantity) × (o ≡ Some z) × (Number z ≡ v)
mapped None v e = absurd (cc)
mapped (Some z) v e = (z, refl, let q : Number z ≡ v = cc in q)

-- one unsigned byte is the number that it holds
byte_cut : (n : ℕ) → n < 256 → cut UChar (pos n) ≡ pos (n % 256)
byte_cut n lt = by (stands UChar n lt) ∙ ap pos (let f : n ≡ n % 256 = omega arith in f)
  where
    by : Stands UChar n (cut UChar (pos n)) → cut UChar (pos n) ≡ pos n
    by (Plain e l) = e
    by (Negative s l e) = absurd (cc)

dear_full : (ty : IntTy) → 12 * bytes_of ty + 6 * bytes_of ty + 3 + helper_cost ≤ 20 * bytes_of ty + 10 + helper_cost
dear_full ty = put (bytes_of ty) helper_cost
  where
    put : (w c : ℕ) → 12 * w + 6 * w + 3 + c ≤ 20 * w + 10 + c
    put w c = omega arith

dear_shift : (ty : IntTy) → 12 * bytes_of ty + 6 * 1 + 3 + helper_cost ≤ 14 * bytes_of ty + 14 + helper_cost
dear_shift ty = put (bytes_of ty) helper_cost
  where
    put : (w c : ℕ) → 12 * w + 6 * 1 + 3 + c ≤ 14 * w + 14 + c
    put w c = omega arith

uses_mul : (ty : IntTy) (count : Option ℕ) (to : Byte) → fits_helper (bytes_of ty) to ≡ true → Uses Mul ty count to
unfolding binary_value
uses_mul ty count to fit =
    let h = typed Mul2 Mul2 Mul4 Mul4 ty (λ h w. Sized w h w) (and_left _ _ fit) (refl, refl) (refl, refl) (refl, refl) (refl, refl) in
    record {
      helper = h.0;
      is = h.1;
      left = h.2.0;
      right = h.2.1;
      frames = and_right (nat_lt 1 (bytes_of ty)) _ fit;
      kept = refl;
      code = λ list root before x y e. refl;
      cost = dear_full ty;
      numbers = numbers;
      same = λ a n lt. refl;
    }
  where
    numbers : (e : Extent) (a b v : Value) → binary_value e Mul ty a b ≡ Some v → (p : Quantity) × (q : Quantity) × (z : Quantity) × (a ≡ Number p) × (b ≡ Number q) × (outcome Mul p q ≡ Some z) × (Number z ≡ v)
    numbers e (Number p) (Number q) v g = let z = mapped (outcome Mul p q) v g in (p, q, z.0, refl, refl, z.1, z.2)
    numbers e (Pointer p) (Number q) v g = absurd (cc)
    numbers e (Number p) (Pointer q) v g = absurd (cc)
    numbers e (Pointer p) (Pointer q) v g = absurd (cc)

uses_div : (ty : IntTy) (count : Option ℕ) (to : Byte) → fits_helper (bytes_of ty) to ≡ true → Uses Div ty count to
unfolding binary_value
uses_div ty count to fit =
    let h = typed Divs2 Divu2 Divs4 Divu4 ty (λ h w. Sized w h w) (and_left _ _ fit) (refl, refl) (refl, refl) (refl, refl) (refl, refl) in
    record {
      helper = h.0;
      is = h.1;
      left = h.2.0;
      right = h.2.1;
      frames = and_right (nat_lt 1 (bytes_of ty)) _ fit;
      kept = refl;
      code = λ list root before x y e. refl;
      cost = dear_full ty;
      numbers = numbers;
      same = λ a n lt. refl;
    }
  where
    numbers : (e : Extent) (a b v : Value) → binary_value e Div ty a b ≡ Some v → (p : Quantity) × (q : Quantity) × (z : Quantity) × (a ≡ Number p) × (b ≡ Number q) × (outcome Div p q ≡ Some z) × (Number z ≡ v)
    numbers e (Number p) (Number q) v g = let z = mapped (outcome Div p q) v g in (p, q, z.0, refl, refl, z.1, z.2)
    numbers e (Pointer p) (Number q) v g = absurd (cc)
    numbers e (Number p) (Pointer q) v g = absurd (cc)
    numbers e (Pointer p) (Pointer q) v g = absurd (cc)

uses_rem : (ty : IntTy) (count : Option ℕ) (to : Byte) → fits_helper (bytes_of ty) to ≡ true → Uses Rem ty count to
unfolding binary_value
uses_rem ty count to fit =
    let h = typed Rems2 Remu2 Rems4 Remu4 ty (λ h w. Sized w h w) (and_left _ _ fit) (refl, refl) (refl, refl) (refl, refl) (refl, refl) in
    record {
      helper = h.0;
      is = h.1;
      left = h.2.0;
      right = h.2.1;
      frames = and_right (nat_lt 1 (bytes_of ty)) _ fit;
      kept = refl;
      code = λ list root before x y e. refl;
      cost = dear_full ty;
      numbers = numbers;
      same = λ a n lt. refl;
    }
  where
    numbers : (e : Extent) (a b v : Value) → binary_value e Rem ty a b ≡ Some v → (p : Quantity) × (q : Quantity) × (z : Quantity) × (a ≡ Number p) × (b ≡ Number q) × (outcome Rem p q ≡ Some z) × (Number z ≡ v)
    numbers e (Number p) (Number q) v g = let z = mapped (outcome Rem p q) v g in (p, q, z.0, refl, refl, z.1, z.2)
    numbers e (Pointer p) (Number q) v g = absurd (cc)
    numbers e (Number p) (Pointer q) v g = absurd (cc)
    numbers e (Pointer p) (Pointer q) v g = absurd (cc)

uses_shl : (ty : IntTy) (to : Byte) → fits_helper (bytes_of ty) to ≡ true → Uses Shl ty None to
unfolding binary_value
uses_shl ty to fit =
    let h = typed Shl2 Shl2 Shl4 Shl4 ty (λ h w. Sized 1 h w) (and_left _ _ fit) (refl, refl) (refl, refl) (refl, refl) (refl, refl) in
    record {
      helper = h.0;
      is = h.1;
      left = h.2.0;
      right = h.2.1;
      frames = and_right (nat_lt 1 (bytes_of ty)) _ fit;
      kept = refl;
      code = λ list root before x y e. ap (λ (o : Option ℕ). shifted_code o list root Shl ty to x y) e;
      cost = dear_shift ty;
      numbers = numbers;
      same = λ a n lt. ap (λ (z : ℤ). outcome Shl a (record { ty = ty; number = z })) (byte_cut n lt);
    }
  where
    numbers : (e : Extent) (a b v : Value) → binary_value e Shl ty a b ≡ Some v → (p : Quantity) × (q : Quantity) × (z : Quantity) × (a ≡ Number p) × (b ≡ Number q) × (outcome Shl p q ≡ Some z) × (Number z ≡ v)
    numbers e (Number p) (Number q) v g = let z = mapped (outcome Shl p q) v g in (p, q, z.0, refl, refl, z.1, z.2)
    numbers e (Pointer p) (Number q) v g = absurd (cc)
    numbers e (Number p) (Pointer q) v g = absurd (cc)
    numbers e (Pointer p) (Pointer q) v g = absurd (cc)

uses_shr : (ty : IntTy) (to : Byte) → fits_helper (bytes_of ty) to ≡ true → Uses Shr ty None to
unfolding binary_value
uses_shr ty to fit =
    let h = typed Shrs2 Shru2 Shrs4 Shru4 ty (λ h w. Sized 1 h w) (and_left _ _ fit) (refl, refl) (refl, refl) (refl, refl) (refl, refl) in
    record {
      helper = h.0;
      is = h.1;
      left = h.2.0;
      right = h.2.1;
      frames = and_right (nat_lt 1 (bytes_of ty)) _ fit;
      kept = refl;
      code = λ list root before x y e. ap (λ (o : Option ℕ). shifted_code o list root Shr ty to x y) e;
      cost = dear_shift ty;
      numbers = numbers;
      same = λ a n lt. ap (λ (z : ℤ). outcome Shr a (record { ty = ty; number = z })) (byte_cut n lt);
    }
  where
    numbers : (e : Extent) (a b v : Value) → binary_value e Shr ty a b ≡ Some v → (p : Quantity) × (q : Quantity) × (z : Quantity) × (a ≡ Number p) × (b ≡ Number q) × (outcome Shr p q ≡ Some z) × (Number z ≡ v)
    numbers e (Number p) (Number q) v g = let z = mapped (outcome Shr p q) v g in (p, q, z.0, refl, refl, z.1, z.2)
    numbers e (Pointer p) (Number q) v g = absurd (cc)
    numbers e (Number p) (Pointer q) v g = absurd (cc)
    numbers e (Pointer p) (Pointer q) v g = absurd (cc)

-- by the operator
uses : (op : BinOp) (ty : IntTy) (count : Option ℕ) (to x y : Byte) → is_helped op count ≡ true → fits_together op ty count to x y ≡ true → Uses op ty count to
unfolding fits_together
uses Mul ty count to x y h fit = uses_mul ty count to fit
uses Div ty count to x y h fit = uses_div ty count to fit
uses Rem ty count to x y h fit = uses_rem ty count to fit
uses Shl ty None to x y h fit = uses_shl ty to fit
uses Shl ty (Some c) to x y h fit = absurd (cc)
uses Shr ty None to x y h fit = uses_shr ty to fit
uses Shr ty (Some c) to x y h fit = absurd (cc)
uses Add ty count to x y h fit = absurd (cc)
uses Sub ty count to x y h fit = absurd (cc)
uses Lt ty count to x y h fit = absurd (cc)
uses Gt ty count to x y h fit = absurd (cc)
uses Le ty count to x y h fit = absurd (cc)
uses Ge ty count to x y h fit = absurd (cc)
uses Eq ty count to x y h fit = absurd (cc)
uses Ne ty count to x y h fit = absurd (cc)
uses And ty count to x y h fit = absurd (cc)
uses Xor ty count to x y h fit = absurd (cc)
uses Or ty count to x y h fit = absurd (cc)

-- ---- where it stands
some_is : {A : Type 0} {x y : A} → Some x ≡ Some y → x ≡ y
some_is e = cc

typed_as : (op : BinOp) (a b z : Quantity) → outcome op a b ≡ Some z → z.ty ≡ type_of op a.ty
typed_as op a b z e = by (operators.has_no_value op a.ty a.number b.number) e
  where
    by : (c : Bool) → (if c then None else Some (operators.value_of op a b)) ≡ Some z → z.ty ≡ type_of op a.ty
    by true e = absurd (cc)
    by false e = ap (λ (q : Quantity). q.ty) (sym (some_is e))

-- the code with the routine's copy
code_there : (op : BinOp) (ty : IntTy) (h : Helper) (list : List FnCopy) (root : Root) (d : ℕ) (to x y : Byte) (w v : ℕ) → int_helper op false ty ≡ Some h → copy_of list root h ≡ Some d → w < 512 → helped_code list root op ty to x y w v ≡ parts_code d root to x y w v
code_there op ty h list root d to x y w v ih at lt =
    ap (λ (o : Option Helper). any_call_code o list root to x y w v) ih
    ∙ ap (λ (o : Option ℕ). copy_call_code o root to x y w v) at
    ∙ ap (λ (b : Byte). copies_code (Frame d 0) x w ++ copies_code b y v ++ enter_code d ++ copies_code to (Result root 0) w) (frame_front d w lt)

module _ (s : Site) (t : Machine) (wc : World Held) (f : ℕ) (st : List Waiting) (loops : List ℕ) (ps : List Position) (cm : bytes.Memory) (m : Memory) (fit : Fit s t wc f None st loops ps cm m) (r : Registers) (fits : Fits r) where
  shown : (x : Byte) (n : ℕ) → is_own s.q f x n ≡ true → (j : ℕ) → j < n → Shown s (cm (behind x j)) (m (slot (layout s) (behind x j)))
  shown x n o j lt =
      let b = behind x j in
      agrees_shown s b (cm b) (m (slot (layout s) b)) (fit.agree b (own_valid s f None (below st) b (own_part s f n j x o lt)))

  counted : (ty : IntTy) (x : Byte) (a : Value) (p : Quantity) → is_own s.q f x (bytes_of ty) ≡ true → value_in ty cm x ≡ Some a → a ≡ Number p → p ≡ cut_to ty (pos (val (λ k. m (slot (layout s) (behind x k))) (bytes_of ty)))
  counted ty x a p o e q = by (kind ty cm x a e)
    where
      number : (x y : Quantity) → Number x ≡ Number y → x ≡ y
      number x y e = cc

      no : (p : bytes.Place) (q : Quantity) → Pointer p ≡ Number q → ⊥
      no p q e = absurd (cc)

      by : Kind ty cm x a → p ≡ cut_to ty (pos (val (λ k. m (slot (layout s) (behind x k))) (bytes_of ty)))
      by (Counts n c g) = number p (cut_to ty (pos n)) (sym q ∙ g) ∙ ap (λ k. cut_to ty (pos k)) (number_is s cm x (bytes_of ty) n (λ k. m (slot (layout s) (behind x k))) (λ j lt. shown x (bytes_of ty) o j lt) c)
      by (Points z two h g) = absurd (no z p (sym g ∙ q))

  helped_by : (before : List Tree) (op : BinOp) (ty : IntTy) (to x y : Byte) (n : ℕ) (a b v : Value) → (count : Option ℕ) → number_left before y ≡ count → Uses op ty count to → s.q.helped f op ty ≡ true
      → Has (block s f) n (binary_code s.copies (s.q.root f) before op ty to x y)
      → is_own s.q f x (bytes_of ty) ≡ true → is_own s.q f y (bytes_of (right_type op ty)) ≡ true
      → value_in ty cm x ≡ Some a → value_in (right_type op ty) cm y ≡ Some b → binary_value (extent s.q f st) op ty a b ≡ Some v → is_own s.q f to (byte_count v) ≡ true
      → Arrives s wc.inside (is_live f None (below st)) f ps n r m (n + length (binary_code s.copies (s.q.root f) before op ty to x y)) (with_bytes (without_results (s.q.root f) cm) to (byte_count v) (byte_of v)) (binary_cost op count (bytes_of ty))
  helped_by before op ty to x y n a b v count known routine helped has ox oy ea eb ev ot =
      let h = routine.helper in
      let root = s.q.root f in
      let found = callee_there s f op ty h helped routine.is in
      let d = found.0 in
      let w4 = (room h).left_most in
      let w = left_bytes h in
      let k = right_bytes h in
      let code : List Sym = binary_code s.copies root before op ty to x y in
      let is : code ≡ parts_code d root to x y w k =
      routine.code s.copies root before x y known
      ∙ ap (λ z. helped_code s.copies root op ty to x y z (bytes_of (right_type op ty))) (sym routine.left)
      ∙ ap (λ z. helped_code s.copies root op ty to x y w z) (sym routine.right)
      ∙ code_there op ty h s.copies root d to x y w k routine.is found.1 (omega (arith, w4)) in
      let num = routine.numbers (extent s.q f st) a b v ev in
      let p = num.0 in
      let q = num.1 in
      let z = num.2 in
      let ep : p ≡ cut_to ty (pos (val (λ j. m (slot (layout s) (behind x j))) (bytes_of ty))) = counted ty x a p ox ea num.3 in
      let eq : q ≡ cut_to (right_type op ty) (pos (val (λ j. m (slot (layout s) (behind y j))) (bytes_of (right_type op ty)))) = counted (right_type op ty) y b q oy eb num.4 in
      let right : ℕ = val (λ j. m (slot (layout s) (behind y j))) (bytes_of (right_type op ty)) in
      let left : ℕ = val (λ j. m (slot (layout s) (behind x j))) (bytes_of ty) in
      let out : outcome op (cut_to ty (pos left)) (right_operand op ty right) ≡ Some z =
      sym (routine.same (cut_to ty (pos left)) right (val_below (λ j. m (slot (layout s) (behind y j))) (bytes_of (right_type op ty)) (λ j lt. fit.bytes (slot (layout s) (behind y j)))))
      ∙ ap (λ (c : Quantity). outcome op (cut_to ty (pos left)) c) (sym eq) ∙ ap (λ (c : Quantity). outcome op c q) (sym ep) ∙ num.5 in
      let out' : outcome op (cut_to ty (pos (val (λ j. m (slot (layout s) (behind x j))) w))) (right_operand op ty (val (λ j. m (slot (layout s) (behind y j))) k)) ≡ Some z =
      subst (λ i. outcome op (cut_to ty (pos (val (λ j. m (slot (layout s) (behind x j))) i))) (right_operand op ty (val (λ j. m (slot (layout s) (behind y j))) k)) ≡ Some z) (sym routine.left)
      (subst (λ i. outcome op (cut_to ty (pos left)) (right_operand op ty (val (λ j. m (slot (layout s) (behind y j))) i)) ≡ Some z) (sym routine.right) out) in
      let zt : z.ty ≡ ty = typed_as op p q z num.5 ∙ ap (λ (c : Quantity). type_of op c.ty) ep ∙ routine.kept in
      let zw : bytes_of z.ty ≡ w = ap bytes_of zt ∙ sym routine.left in
      let ot' : is_own s.q f to w ≡ true = subst (λ i. is_own s.q f to i ≡ true) zw (subst (λ (c : Value). is_own s.q f to (byte_count c) ≡ true) (sym num.6) ot) in
      let cost : 12 * w + 6 * k + 3 + helper_cost ≤ binary_cost op count (bytes_of ty) =
      subst (λ i. 12 * i + 6 * k + 3 + helper_cost ≤ binary_cost op count (bytes_of ty)) (sym routine.left) (subst (λ i. 12 * bytes_of ty + 6 * i + 3 + helper_cost ≤ binary_cost op count (bytes_of ty)) (sym routine.right) routine.cost) in
      let went : Arrives s wc.inside (is_live f None (below st)) f ps n r m (n + length (parts_code d root to x y w k)) (with_bytes (without_results root cm) to w (byte_of (Number z))) (binary_cost op count (bytes_of ty)) =
      helped_goes s t wc f st loops ps cm m fit r fits op ty h d found.2 routine.is to x y n (subst (Has (block s f) n) is has)
      (subst (λ i. is_own s.q f x i ≡ true) (sym routine.left) ox) (subst (λ i. is_own s.q f y i ≡ true) (sym routine.right) oy) ot' routine.frames z out' (binary_cost op count (bytes_of ty)) cost in
      subst (λ (c : Value). Arrives s wc.inside (is_live f None (below st)) f ps n r m (n + length code) (with_bytes (without_results root cm) to (byte_count c) (byte_of c)) (binary_cost op count (bytes_of ty))) num.6
      (subst (λ i. Arrives s wc.inside (is_live f None (below st)) f ps n r m (n + length code) (with_bytes (without_results root cm) to i (byte_of (Number z))) (binary_cost op count (bytes_of ty))) (sym zw)
      (subst (λ (c : List Sym). Arrives s wc.inside (is_live f None (below st)) f ps n r m (n + length c) (with_bytes (without_results root cm) to w (byte_of (Number z))) (binary_cost op count (bytes_of ty))) (sym is) went))

-- as selection asks
pub helped_binary : (s : Site) (t : Machine) (wc : World Held) (f : ℕ) (pr : Option ℕ) (st : List Waiting) (loops : List ℕ) (ps : List Position) (cm : bytes.Memory) (m : Memory) → Fit s t wc f pr st loops ps cm m → (r : Registers) → Fits r
    → (before : List Tree) (op : BinOp) (ty : IntTy) (to x y : Byte) (n : ℕ) (a b v : Value) → is_helped op (number_left before y) ≡ true → Has (block s f) n (binary_code s.copies (s.q.root f) before op ty to x y)
    → fits_together op ty (number_left before y) to x y ≡ true → is_own s.q f x (bytes_of ty) ≡ true → is_own s.q f y (bytes_of (right_type op ty)) ≡ true → fits_call pr (is_helped op (number_left before y)) ≡ true
    → s.q.helped f op ty ≡ true
    → value_in ty cm x ≡ Some a → value_in (right_type op ty) cm y ≡ Some b → binary_value (extent s.q f st) op ty a b ≡ Some v → is_own s.q f to (byte_count v) ≡ true
    → Arrives s wc.inside (is_live f pr (below st)) f ps n r m (n + length (binary_code s.copies (s.q.root f) before op ty to x y)) (with_bytes (after_helper s.q f (is_helped op (number_left before y)) cm) to (byte_count v) (byte_of v)) (binary_cost op (number_left before y) (bytes_of ty))
helped_binary s t wc f None st loops ps cm m fit r fits before op ty to x y n a b v h has ft ox oy fc helped ea eb ev ot =
    subst (λ c. Arrives s wc.inside (is_live f None (below st)) f ps n r m (n + length (binary_code s.copies (s.q.root f) before op ty to x y)) (with_bytes (after_helper s.q f c cm) to (byte_count v) (byte_of v)) (binary_cost op (number_left before y) (bytes_of ty))) (sym h)
    (helped_by s t wc f st loops ps cm m fit r fits before op ty to x y n a b v (number_left before y) refl (uses op ty (number_left before y) to x y h ft) helped has ox oy ea eb ev ot)
helped_binary s t wc f (Some o) st loops ps cm m fit r fits before op ty to x y n a b v h has ft ox oy fc helped ea eb ev ot = absurd (no (is_helped op (number_left before y)) h fc)
  where
    no : (c : Bool) → c ≡ true → not c ≡ true → ⊥
    no true e g = absurd (cc)
    no false e g = absurd (cc)
