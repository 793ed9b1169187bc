-- Each operator that calls no routine, where its code stands.
use Rattle.std.proofs.Common.{◌≡◌, ℕ, ◌%◌, ◌<◌, Bool, true, false, List, Option, Some, None, refl, ap, sym, ◌∙◌, subst, arith, pos, ℤ}
use Rattle.std.specs.Prelude.{not, ◌&&◌, ◌||◌, IfSome, int_lt, int_le, if◌then◌else◌, is_some}
use Rattle.std.proofs.lemmas.Bool.Decides.{nat_tests}
use Rattle.c_ints.specs.Operators.{cut_to, outcome, type_of, shifts_badly}
use Rattle.c_ints.specs.Quantity.{Quantity}
use Rattle.c_ints.specs.Range.{bytes_of, span, width, cut, pattern}
use Rattle.c_ints.specs.declared.operators.BinOp.{BinOp}
use Rattle.c_ints.specs.declared.operators.BinOp.TheVariants.{Mul, Div, Rem, Add, Sub, Shl, Shr, Lt, Gt, Le, Ge, Eq, Ne, And, Xor, Or}
use Rattle.c_ints.specs.declared.types.IntTy.{IntTy}
use Rattle.c_ints.specs.declared.types.IntTy.TheVariants.{UChar}
use Rattle.call_graph.specs.declared.types.FnCopy.{FnCopy}
use Rattle.core_code.specs.Bytes.{behind}
use Rattle.core_code.specs.Operands.{number_left, is_helped, fits_bytes, fits_together}
use Rattle.core_code.specs.Tree.{Tree}
use Rattle.core_code.specs.Values.{right_type}
use Rattle.core_code.specs.declared.code.Byte.{Byte}
use Rattle.math_helpers.specs.Wanted.{right_operand}
use Rattle.pic_world.specs.declared.Root.{Root}
use Rattle.select_wide.specs.Selection.{binary_code, shifted_code}
use Rattle.select_wide.specs.Shifts.{shift_code}
use Rattle.select_wide.specs.Single.{is_signed}
use Rattle.select_wide.specs.declared.operands.Way.TheVariants.{Left, Right, SignedRight}
use Rattle.sym_code.specs.Effect.{Setting}
use Rattle.sym_code.specs.Quiet.{Scene}
use Rattle.sym_code.specs.declared.code.BlockName.{BlockName}
use Rattle.sym_code.specs.declared.code.Sym as code
use Rattle.select_trace.specs.Operators.{number_from, Computes, IsCount, BinaryRuns}
use Rattle.select_trace.specs.Silent.{number_at, OwnsBytes, Begins}
use Rattle.select_trace.proofs.Binary as binary
use Rattle.select_trace.proofs.Bitwise.{Both, Either, Differs, and_value, or_value, xor_value}
use Rattle.select_trace.proofs.Compared as compared
use Rattle.select_trace.proofs.Ints.{Stands, Plain, Negative, stands}
use Rattle.select_trace.proofs.Operators.{bound}
use Rattle.select_trace.proofs.Shifted as shifted
use Rattle.select_trace.proofs.OwnByteSites as sites
use Rattle.select_trace.proofs.Vals.{val_below}

-- what is said of a value that there is
told : {A : Type 0} (o : Option A) (P : A → Type 0) (v : A) → IfSome o P → o ≡ Some v → P v
told o P v h e = subst (λ x. IfSome x P) e h

some_is : {A : Type 0} {x y : A} → Some x ≡ Some y → x ≡ y
some_is e = cc

wide : (ty : IntTy) → 0 < bytes_of ty
wide ty = grind arith

-- a count that gives a value is below the width
small_count : (m n : ℕ) → (int_lt (pos n) (pos 0) || int_le (pos m) (pos n)) ≡ false → n < m
small_count m n e = grind (arith, nat_tests)

not_bad : {A : Type 0} (b : Bool) (x v : A) → (if b then None else Some x) ≡ Some v → b ≡ false
not_bad true x v e = absurd (cc)
not_bad false x v e = refl

-- one unsigned byte is the number that it holds
byte_cut : (n : ℕ) → n < 256 → cut UChar (pos n) ≡ pos n
byte_cut n lt = by (stands UChar n lt)
  where
    by : Stands UChar n (cut UChar (pos n)) → cut UChar (pos n) ≡ pos n
    by (Plain e l) = e
    by (Negative s l e) = absurd (cc)

module _ (g : Setting) (inside : Bool) (copy size : ℕ) (own : OwnsBytes g inside copy size) (price : BlockName → ℕ → ℕ) (block : BlockName) (i : ℕ) (s : Scene) where
  abbrev In : Byte → ℕ → Type 0
  In = sites.In g inside copy size own

  abbrev num : Byte → ℕ → ℕ
  num byte w = number_from g.program.layout s.memory byte w

  abbrev Valued : List code.Sym → Byte → ℕ → BinOp → IntTy → ℕ → ℕ → Type 0
  Valued = binary.Valued g inside copy size own price block i s

  -- where the value is known
  finish : (list : List code.Sym) (to : Byte) (w : ℕ) (op : BinOp) (ty : IntTy) (l r : ℕ) (value : Quantity) → Valued list to w op ty l r → outcome op (cut_to ty (pos l)) (right_operand op ty r) ≡ Some value → bytes_of value.ty ≡ w →
      Computes g price inside block i list to (bytes_of value.ty) (pattern value.ty value.number) s
  finish list to w op ty l r value h e f =
      let a : h.answer ≡ pattern value.ty value.number = told (outcome op (cut_to ty (pos l)) (right_operand op ty r)) (λ v. h.answer ≡ pattern v.ty v.number) value h.value e in
      subst (λ (n : ℕ). Computes g price inside block i list to n (pattern value.ty value.number) s) (sym f) (subst (λ (n : ℕ). Computes g price inside block i list to w n s) a h.computes)

  below : (ty : IntTy) → ((k : ℕ) → s.memory k < 256) → (byte : Byte) → num byte (bytes_of ty) < span ty
  below ty ok byte = subst (λ (x : ℕ). num byte (bytes_of ty) < x) (bound ty (bytes_of ty) refl) (val_below (λ j. s.memory (sites.spot g inside copy size own byte j)) (bytes_of ty) (λ j l. ok (sites.spot g inside copy size own byte j)))

  -- the lowest byte of the right operand
  one_byte : (right : Byte) (count : ℕ) → In right 1 → s.memory (number_at g.program.layout right) ≡ count → num right 1 ≡ count
  one_byte right count h e =
      let z : number_at g.program.layout right ≡ number_at g.program.layout (behind right 0) = (sites.lies g inside copy size own right 1 (omega arith) h).zero in
      let f : s.memory (number_at g.program.layout (behind right 0)) ≡ count = ap s.memory (sym z) ∙ e in
      omega (arith, f)

  -- ---- shifts
  right_of : (b : Bool) (w : ℕ) → (w_less : Bool) → (w_less && b) ≡ true → b ≡ true
  right_of b w true e = e
  right_of b w false e = absurd (cc)

  -- the right operand is the count
  abbrev by_count : BinOp → IntTy → ℕ → ℤ → Option Quantity
  by_count op ty l z = outcome op (cut_to ty (pos l)) (record { ty = ty; number = z })

  count_cut : (right : Byte) (count : ℕ) → In right 1 → s.memory (number_at g.program.layout right) ≡ count → count < 256 → cut UChar (pos (num right 1)) ≡ pos (count % 256)
  count_cut right count h e lt =
      let n : num right 1 ≡ count = one_byte right count h e in
      ap (λ x. cut UChar (pos x)) n ∙ byte_cut count lt ∙ ap (λ x. pos x) (let f : count ≡ count % 256 = omega arith in f)

  abbrev Shifts : BinOp → Option ℕ → Type 0
  Shifts op o =
      (list : List FnCopy) (root : Root) (ty : IntTy) (to left right : Byte) (value : Quantity) → not (is_some o) ≡ false → fits_bytes op (bytes_of ty) o to left right ≡ true →
      In to (bytes_of ty) → In left (bytes_of ty) → In right 1 → IsCount o (s.memory (number_at g.program.layout right)) → Begins g block i (shifted_code o list root op ty to left right) s →
      outcome op (cut_to ty (pos (num left (bytes_of ty)))) (cut_to UChar (pos (num right 1))) ≡ Some value →
      Computes g price inside block i (shifted_code o list root op ty to left right) to (bytes_of value.ty) (pattern value.ty value.number) s

  value_is : (b : Bool) (x v : Quantity) → (if b then None else Some x) ≡ Some v → x ≡ v
  value_is true x v e = absurd (cc)
  value_is false x v e = some_is e

  shl_at : (o : Option ℕ) → Shifts Shl o
  shl_at None list root ty to left right value helped fits ht hl hr known b e = absurd (cc)
  shl_at (Some count) list root ty to left right value helped fits ht hl hr known b e =
      let small : count < 256 = subst (λ n. n < 256) known (b.bytes (number_at g.program.layout right)) in
      let e2 : by_count Shl ty (num left (bytes_of ty)) (pos (count % 256)) ≡ Some value = ap (by_count Shl ty (num left (bytes_of ty))) (sym (count_cut right count hr known small)) ∙ e in
      let lt : count % 256 < width ty = small_count (width ty) (count % 256) (not_bad (shifts_badly ty (pos (count % 256))) _ value e2) in
      finish (shift_code Left to left (bytes_of ty) count) to (bytes_of ty) Shl ty (num left (bytes_of ty)) count value
      (shifted.shl_runs g inside copy size own price block i s ty to left (bytes_of ty) count refl small (omega (arith, lt)) ht hl (right_of _ (bytes_of ty) _ fits) b) e2
      (ap (λ (q : Quantity). bytes_of q.ty) (sym (value_is (shifts_badly ty (pos (count % 256))) _ value e2)))

  shr_at : (o : Option ℕ) → Shifts Shr o
  shr_at None list root ty to left right value helped fits ht hl hr known b e = absurd (cc)
  shr_at (Some count) list root ty to left right value helped fits ht hl hr known b e = by (is_signed ty) refl
    where
      small : count < 256
      small = subst (λ n. n < 256) known (b.bytes (number_at g.program.layout right))

      e2 : by_count Shr ty (num left (bytes_of ty)) (pos (count % 256)) ≡ Some value
      e2 = ap (by_count Shr ty (num left (bytes_of ty))) (sym (count_cut right count hr known small)) ∙ e

      lt : count % 256 < width ty
      lt = small_count (width ty) (count % 256) (not_bad (shifts_badly ty (pos (count % 256))) _ value e2)

      f : bytes_of value.ty ≡ bytes_of ty
      f = ap (λ (q : Quantity). bytes_of q.ty) (sym (value_is (shifts_badly ty (pos (count % 256))) _ value e2))

      as_code : (c : Bool) → is_signed ty ≡ c → shift_code (if is_signed ty then SignedRight else Right) to left (bytes_of ty) count ≡ shift_code (if c then SignedRight else Right) to left (bytes_of ty) count
      as_code c x = ap (λ d. shift_code (if d then SignedRight else Right) to left (bytes_of ty) count) x

      begins : (list2 : List code.Sym) → shift_code (if is_signed ty then SignedRight else Right) to left (bytes_of ty) count ≡ list2 → Begins g block i list2 s
      begins list2 x = subst (λ (z : List code.Sym). Begins g block i z s) x b

      back : (list2 : List code.Sym) → shift_code (if is_signed ty then SignedRight else Right) to left (bytes_of ty) count ≡ list2 → Computes g price inside block i list2 to (bytes_of value.ty) (pattern value.ty value.number) s →
          Computes g price inside block i (shift_code (if is_signed ty then SignedRight else Right) to left (bytes_of ty) count) to (bytes_of value.ty) (pattern value.ty value.number) s
      back list2 x h = subst (λ (z : List code.Sym). Computes g price inside block i z to (bytes_of value.ty) (pattern value.ty value.number) s) (sym x) h

      by : (c : Bool) → is_signed ty ≡ c → Computes g price inside block i (shift_code (if is_signed ty then SignedRight else Right) to left (bytes_of ty) count) to (bytes_of value.ty) (pattern value.ty value.number) s
      by true x = back (shift_code SignedRight to left (bytes_of ty) count) (as_code true x)
          (finish (shift_code SignedRight to left (bytes_of ty) count) to (bytes_of ty) Shr ty (num left (bytes_of ty)) count value
          (shifted.shr_signed_runs g inside copy size own price block i s ty to left (bytes_of ty) count x refl small (let l : count % 256 < width ty = lt in let k : count < 256 = small in omega arith) ht hl (right_of _ (bytes_of ty) _ fits) (begins (shift_code SignedRight to left (bytes_of ty) count) (as_code true x))) e2 f)
      by false x = back (shift_code Right to left (bytes_of ty) count) (as_code false x)
          (finish (shift_code Right to left (bytes_of ty) count) to (bytes_of ty) Shr ty (num left (bytes_of ty)) count value
          (shifted.shr_runs g inside copy size own price block i s ty to left (bytes_of ty) count x refl small (let l : count % 256 < width ty = lt in let k : count < 256 = small in omega arith) ht hl (right_of _ (bytes_of ty) _ fits) (begins (shift_code Right to left (bytes_of ty) count) (as_code false x))) e2 f)

  -- ---- each operator
  abbrev Runs : BinOp → Type 0
  Runs op =
      (list : List FnCopy) (root : Root) (before : List Tree) (ty : IntTy) (to left right : Byte) (value : Quantity) →
      is_helped op (number_left before right) ≡ false → fits_bytes op (bytes_of ty) (number_left before right) to left right ≡ true →
      In to (bytes_of (type_of op ty)) → In left (bytes_of ty) → In right (bytes_of (right_type op ty)) → IsCount (number_left before right) (s.memory (number_at g.program.layout right)) →
      Begins g block i (binary_code list root before op ty to left right) s →
      outcome op (cut_to ty (pos (num left (bytes_of ty)))) (cut_to (right_type op ty) (pos (num right (bytes_of (right_type op ty))))) ≡ Some value →
      Computes g price inside block i (binary_code list root before op ty to left right) to (bytes_of value.ty) (pattern value.ty value.number) s

  ty_of : (x v : Quantity) → Some x ≡ Some v → bytes_of v.ty ≡ bytes_of x.ty
  ty_of x v e = ap (λ (q : Quantity). bytes_of q.ty) (sym (some_is e))

  each : (op : BinOp) → Runs op
  each Mul list root before ty to left right value helped fits ht hl hr count b e = absurd (cc)
  each Div list root before ty to left right value helped fits ht hl hr count b e = absurd (cc)
  each Rem list root before ty to left right value helped fits ht hl hr count b e = absurd (cc)
  each Add list root before ty to left right value helped fits ht hl hr count b e =
      finish _ to (bytes_of ty) Add ty (num left (bytes_of ty)) (num right (bytes_of ty)) value (binary.sum g inside copy size own price block i s ty to left right (bytes_of ty) refl ht hl hr fits b) e (ty_of _ value e)
  each Sub list root before ty to left right value helped fits ht hl hr count b e =
      finish _ to (bytes_of ty) Sub ty (num left (bytes_of ty)) (num right (bytes_of ty)) value (binary.difference g inside copy size own price block i s ty to left right (bytes_of ty) refl ht hl hr fits b) e (ty_of _ value e)
  each Shl list root before ty to left right value helped fits ht hl hr count b e = shl_at (number_left before right) list root ty to left right value helped fits ht hl hr count b e
  each Shr list root before ty to left right value helped fits ht hl hr count b e = shr_at (number_left before right) list root ty to left right value helped fits ht hl hr count b e
  each Lt list root before ty to left right value helped fits ht hl hr count b e =
      finish _ to 2 Lt ty (num left (bytes_of ty)) (num right (bytes_of ty)) value (compared.lt_runs g inside copy size own price block i s ty to left right (bytes_of ty) refl ht hl hr b) e (ty_of _ value e)
  each Gt list root before ty to left right value helped fits ht hl hr count b e =
      finish _ to 2 Gt ty (num left (bytes_of ty)) (num right (bytes_of ty)) value (compared.gt_runs g inside copy size own price block i s ty to left right (bytes_of ty) refl ht hl hr b) e (ty_of _ value e)
  each Le list root before ty to left right value helped fits ht hl hr count b e =
      finish _ to 2 Le ty (num left (bytes_of ty)) (num right (bytes_of ty)) value (compared.le_runs g inside copy size own price block i s ty to left right (bytes_of ty) refl ht hl hr b) e (ty_of _ value e)
  each Ge list root before ty to left right value helped fits ht hl hr count b e =
      finish _ to 2 Ge ty (num left (bytes_of ty)) (num right (bytes_of ty)) value (compared.ge_runs g inside copy size own price block i s ty to left right (bytes_of ty) refl ht hl hr b) e (ty_of _ value e)
  each Eq list root before ty to left right value helped fits ht hl hr count b e =
      finish _ to 2 Eq ty (num left (bytes_of ty)) (num right (bytes_of ty)) value (compared.eq_runs g inside copy size own price block i s ty to left right (bytes_of ty) refl ht hl hr fits b) e (ty_of _ value e)
  each Ne list root before ty to left right value helped fits ht hl hr count b e =
      finish _ to 2 Ne ty (num left (bytes_of ty)) (num right (bytes_of ty)) value (compared.ne_runs g inside copy size own price block i s ty to left right (bytes_of ty) refl ht hl hr fits b) e (ty_of _ value e)
  each And list root before ty to left right value helped fits ht hl hr count b e =
      let h = binary.bits g inside copy size own price block i s Both to left right (bytes_of ty) (wide ty) ht hl hr fits b in
      finish _ to (bytes_of ty) And ty (num left (bytes_of ty)) (num right (bytes_of ty)) value
      (record { answer = h.answer; computes = h.computes; value = and_value ty (num left (bytes_of ty)) (num right (bytes_of ty)) h.answer (below ty b.bytes left) (below ty b.bytes right) h.is }) e (ty_of _ value e)
  each Xor list root before ty to left right value helped fits ht hl hr count b e =
      let h = binary.bits g inside copy size own price block i s Differs to left right (bytes_of ty) (wide ty) ht hl hr fits b in
      finish _ to (bytes_of ty) Xor ty (num left (bytes_of ty)) (num right (bytes_of ty)) value
      (record { answer = h.answer; computes = h.computes; value = xor_value ty (num left (bytes_of ty)) (num right (bytes_of ty)) h.answer (below ty b.bytes left) (below ty b.bytes right) h.is }) e (ty_of _ value e)
  each Or list root before ty to left right value helped fits ht hl hr count b e =
      let h = binary.bits g inside copy size own price block i s Either to left right (bytes_of ty) (wide ty) ht hl hr fits b in
      finish _ to (bytes_of ty) Or ty (num left (bytes_of ty)) (num right (bytes_of ty)) value
      (record { answer = h.answer; computes = h.computes; value = or_value ty (num left (bytes_of ty)) (num right (bytes_of ty)) h.answer (below ty b.bytes left) (below ty b.bytes right) h.is }) e (ty_of _ value e)

pub binary_runs : BinaryRuns
unfolding fits_together
binary_runs g price inside copy size block i s list root before op ty to left right value own helped fits ht hl hr count b e =
    each g inside copy size own price block i s op list root before ty to left right value helped fits ht hl hr count b e
