-- The operators that call no routine, in the very form that selection asks for.
use Rattle.std.proofs.Common.{◌≡◌, ℕ, ◌+◌, ◌-◌, ◌<◌, ◌≤◌, Bool, true, false, nat_eq, if◌then◌else◌, List, length, Option, Some, None, refl, sym, ap, ◌∙◌, subst, arith}
use Rattle.c_ints.specs.Range.{bytes_of}
use Rattle.c_ints.specs.declared.operators.BinOp.{BinOp}
use Rattle.c_ints.specs.declared.operators.UnOp.{UnOp}
use Rattle.c_ints.specs.declared.types.IntTy.{IntTy}
use Rattle.pic_world.specs.Roots.{same_root}
use Rattle.pic_world.specs.World.{World}
use Rattle.core_code.specs.Bytes as bytes
use Rattle.core_code.specs.Bytes.{Held, with_bytes}
use Rattle.core_code.specs.Cost.{unary_cost, binary_cost, widening_cost}
use Rattle.core_code.specs.Machine.{Waiting, is_own, extent, after_helper}
use Rattle.core_code.specs.Operands.{number_left, is_helped, fits_unary, fits_together}
use Rattle.core_code.specs.Tree.{Tree}
use Rattle.core_code.specs.Values.{Value, Number, Pointer, byte_count, byte_of, value_in, converted, unary_value, binary_value, right_type}
use Rattle.core_code.specs.declared.code.Byte.{Byte}
use Rattle.core_code.specs.declared.code.Byte.TheVariants.{Static, Frame, Result, Device}
use Rattle.sym_code.specs.Effect.{Memory}
use Rattle.sym_code.specs.Programs.{Position}
use Rattle.sym_code.specs.Registers.{Registers}
use Rattle.select_wide.specs.Selection.{binary_code}
use Rattle.select_wide.specs.Single.{unary_code, widening_code}
use Rattle.select_trace.proofs.Truths.{same_nat, and_left, and_right, both, le_of, of_le}
use Rattle.select_trace.proofs.Standing.{Has}
use Rattle.select_trace.proofs.Sites.{Site}
use Rattle.select_trace.proofs.Live.{is_live, below}
use Rattle.select_trace.proofs.Memory.{Agree}
use Rattle.select_trace.proofs.Blocks.{block}
use Rattle.select_trace.proofs.Values.{Arrives, Ready, Knows}
use Rattle.select_trace.proofs.Two as two
use Rattle.select_trace.proofs.Unaries as unaries
use Rattle.select_trace.proofs.Widenings as widenings

own_fewer : (s : Site) (f n m : ℕ) (x : Byte) → m ≤ n → is_own s.q f x n ≡ true → is_own s.q f x m ≡ true
unfolding is_own
own_fewer s f n m (Frame c k) le o = let l = le_of (k + n) (s.q.frame_bytes c) (and_right (nat_eq c f) _ o) in both _ _ (and_left _ _ o) (of_le (k + m) (s.q.frame_bytes c) (omega arith))
own_fewer s f n m (Result r k) le o = let l = le_of (k + n) 4 (and_right (same_root r (s.q.root f)) _ o) in both _ _ (and_left _ _ o) (of_le (k + m) 4 (omega arith))
own_fewer s f n m (Static c k) le o = absurd (cc)
own_fewer s f n m (Device a) le o = absurd (cc)

some_value : {a b : Value} → Some a ≡ Some b → a ≡ b
some_value e = cc

-- a converted value has the bytes of its type
converted_bytes : (to : IntTy) (x v : Value) → converted to x ≡ Some v → byte_count v ≡ bytes_of to
unfolding converted
converted_bytes to (Number q) v e = ap byte_count (sym (some_value e))
converted_bytes to (Pointer p) v e = by (nat_eq (bytes_of to) 2) refl e
  where
    by : (c : Bool) → nat_eq (bytes_of to) 2 ≡ c → (if c then Some (Pointer p) else None) ≡ Some v → byte_count v ≡ bytes_of to
    by true q e = ap byte_count (sym (some_value e)) ∙ sym (same_nat (bytes_of to) 2 q)
    by false q e = absurd (cc)

module _ (s : Site) where
  pub cut_holds : (f : ℕ) (pr : Option ℕ) (b : ℕ → Bool) (cm : bytes.Memory) (m : Memory) → Agree s (is_live f pr b) cm m → ((k : ℕ) → m k < 256)
      → (from to : IntTy) (at : Byte) (x v : Value) → bytes_of to ≤ bytes_of from → is_own s.q f at (bytes_of from) ≡ true → value_in from cm at ≡ Some x → converted to x ≡ Some v
      → Agree s (is_live f pr b) (with_bytes cm at (byte_count v) (byte_of v)) m
  cut_holds f pr b cm m agree ok from to at x v le o e u =
      widenings.cut_go s f pr b cm m agree ok from to at x v le o e u
      (own_fewer s f (bytes_of from) (byte_count v) at (subst (λ k. k ≤ bytes_of from) (sym (converted_bytes to x v u)) le) o)

  pub unary_holds : (wc : World Held) (f : ℕ) (pr : Option ℕ) (st : List Waiting) (ps : List Position) (cm : bytes.Memory) (m : Memory) (r : Registers) → Ready s wc f pr st ps cm m r
      → (op : UnOp) (ty : IntTy) (to : Byte) (n : ℕ) (x v : Value) → Has (block s f) n (unary_code op ty to) → fits_unary op ty ≡ true → is_own s.q f to (bytes_of ty) ≡ true → value_in ty cm to ≡ Some x → unary_value op x ≡ Some v → is_own s.q f to (byte_count v) ≡ true
      → Arrives s wc.inside (is_live f pr (below st)) f ps n r m (n + length (unary_code op ty to)) (with_bytes cm to (byte_count v) (byte_of v)) (unary_cost op (bytes_of ty))
  unary_holds wc f pr st ps cm m r ready op ty to n x v h fu o e u o2 =
      let any = ready.any in unaries.unary_go s any.0 wc f pr st any.1 ps cm m any.2 r ready.fits op ty to n x v h fu o e u o2

  pub widening_holds : (wc : World Held) (f : ℕ) (pr : Option ℕ) (st : List Waiting) (ps : List Position) (cm : bytes.Memory) (m : Memory) (r : Registers) → Ready s wc f pr st ps cm m r
      → (from to : IntTy) (at : Byte) (n : ℕ) (x v : Value) → bytes_of from < bytes_of to → Has (block s f) n (widening_code from to at) → is_own s.q f at (bytes_of from) ≡ true → value_in from cm at ≡ Some x → converted to x ≡ Some v → is_own s.q f at (byte_count v) ≡ true
      → Arrives s wc.inside (is_live f pr (below st)) f ps n r m (n + length (widening_code from to at)) (with_bytes cm at (byte_count v) (byte_of v)) (widening_cost (bytes_of to - bytes_of from))
  widening_holds wc f pr st ps cm m r ready from to at n x v lt h o e u o2 =
      let any = ready.any in widenings.widening_go s any.0 wc f pr st any.1 ps cm m any.2 r ready.fits from to at n x v lt h o e u o2

  wide : (ty : IntTy) → 1 ≤ bytes_of ty
  wide ty = grind arith

  -- an operator that calls no routine
  pub plain_binary : (wc : World Held) (f : ℕ) (pr : Option ℕ) (st : List Waiting) (ps : List Position) (cm : bytes.Memory) (m : Memory) (r : Registers) → Ready s wc f pr st ps cm m r
      → (before : List Tree) (op : BinOp) (ty : IntTy) (to x y : Byte) (n : ℕ) (a b v : Value) → Knows s f cm before → Has (block s f) n (binary_code s.copies (s.q.root f) before op ty to x y)
      → is_helped op (number_left before y) ≡ false
      → fits_together op ty (number_left before y) to x y ≡ true → is_own s.q f x (bytes_of ty) ≡ true → is_own s.q f y (bytes_of (right_type op ty)) ≡ true
      → value_in ty cm x ≡ Some a → value_in (right_type op ty) cm y ≡ Some b → binary_value (extent s.q f st) op ty a b ≡ Some v → is_own s.q f to (byte_count v) ≡ true
      → Arrives s wc.inside (is_live f pr (below st)) f ps n r m (n + length (binary_code s.copies (s.q.root f) before op ty to x y)) (with_bytes (after_helper s.q f (is_helped op (number_left before y)) cm) to (byte_count v) (byte_of v)) (binary_cost op (number_left before y) (bytes_of ty))
  plain_binary wc f pr st ps cm m r ready before op ty to x y n a b v known h help fit ox oy ea eb e o =
      let any = ready.any in
      subst (λ (w : Bool). Arrives s wc.inside (is_live f pr (below st)) f ps n r m (n + length (binary_code s.copies (s.q.root f) before op ty to x y)) (with_bytes (after_helper s.q f w cm) to (byte_count v) (byte_of v)) (binary_cost op (number_left before y) (bytes_of ty))) (sym help)
      (two.binary_go s any.0 wc f pr st any.1 ps cm m any.2 r ready.fits before op ty to x y n a b v h help fit ox oy
      (λ c k. known y c (own_fewer s f (bytes_of (right_type op ty)) 1 y (wide (right_type op ty)) oy) k) ea eb e o)
