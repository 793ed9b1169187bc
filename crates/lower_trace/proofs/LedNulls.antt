-- The laws of null constants that become pointers: a number that is converted to a pointer is the constant 0.
use Rattle.std.proofs.Common.{◌≡◌, ◌<◌, ℕ, ℤ, pos, negsuc, Bool, true, false, List, ◌∷◌, refl, sym, ap, ◌∙◌, arith}
use Rattle.std.proofs.lemmas.Bool.{and_parts, false≢true}
use Rattle.std.proofs.lemmas.Grind.{common_steps}
use Rattle.std.proofs.lemmas.Int.{ints}
use Rattle.std.specs.List.{All}
use Rattle.std.specs.Prelude.{int_le}
use Rattle.c_ints.specs.Quantity.{Quantity}
use Rattle.c_ints.specs.declared.types.IntTy.{IntTy}
use Rattle.c_typed.specs.Fits.{is_null, rule_holds}
use Rattle.c_typed.specs.Rules.{cast_fits, convert_fits, is_zero}
use Rattle.c_typed.specs.Sameness.{is_pointer}
use Rattle.c_typed.specs.Trees as tree
use Rattle.c_typed.specs.Trees.{Expression, Program}
use Rattle.c_typed.specs.Types.{type_of}
use Rattle.c_typed.specs.declared.types.Ty.{Ty}
use Rattle.c_typed.specs.declared.types.Ty.TheVariants as types
use Rattle.src_rules.specs.Parts.{Obeys}
use Rattle.src_values.specs.Control.{Holds, Nothing, Pending, In}
use Rattle.src_values.specs.Data as datum
use Rattle.src_values.specs.Data.{Datum}
use Rattle.lower_trace.specs.Lowering.{IsLowerable}
use Rattle.lower_trace.proofs.CodeLeft.{Scene}
use Rattle.lower_trace.proofs.Leads.{Law}
use Rattle.lower_trace.proofs.LedConverts.{IsNullMade, casts, converts}
use Rattle.lower_trace.proofs.Sure.{IsValueOf, constant_of}

-- ---- a null constant of an integer type is the constant 0
low_is : (n : ℕ) → int_le (pos n) (pos 0) ≡ true → n ≡ 0
low_is n e = grind (ints, arith, common_steps)

zero_is : (n : ℤ) → is_zero n ≡ true → n ≡ pos 0
zero_is (pos n) e = ap pos (low_is n (and_parts _ _ e).0)
zero_is (negsuc n) e = absurd (let h = (and_parts (int_le (negsuc n) (pos 0)) (int_le (pos 0) (negsuc n)) e).1 in cc)

number_same : (q r : Quantity) → datum.Number q ≡ datum.Number r → q ≡ r
number_same q r e = cc

int_apart : (ty : Ty) (t : IntTy) → ty ≡ types.Int t → is_pointer ty ≡ true → ⊥
int_apart ty t e h = let q : is_pointer ty ≡ false = ap is_pointer e in false≢true (sym q ∙ h)

null_is_zero : (operand : Expression) (q : Quantity) → is_null operand ≡ true → type_of operand ≡ types.Int q.ty → IsValueOf (constant_of operand) (datum.Number q) → q.number ≡ pos 0
unfolding is_null
null_is_zero (tree.Constant value line) q n t h = ap (λ x. x.number) (number_same q value h) ∙ zero_is value.number n
null_is_zero (tree.Cast operand ty line) q n t h = absurd (int_apart ty q.ty t (and_parts _ _ n).0)
null_is_zero (tree.Read place ty line) q n t h = absurd (false≢true n)
null_is_zero (tree.Address place ty line) q n t h = absurd (false≢true n)
null_is_zero (tree.Convert operand ty line) q n t h = absurd (false≢true n)
null_is_zero (tree.Unary op operand ty line) q n t h = absurd (false≢true n)
null_is_zero (tree.Binary op left right ty line) q n t h = absurd (false≢true n)
null_is_zero (tree.Offset op left right size ty line) q n t h = absurd (false≢true n)
null_is_zero (tree.Difference left right size line) q n t h = absurd (false≢true n)
null_is_zero (tree.Logical op left right line) q n t h = absurd (false≢true n)
null_is_zero (tree.Conditional condition chosen otherwise ty line) q n t h = absurd (false≢true n)
null_is_zero (tree.Comma left right ty line) q n t h = absurd (false≢true n)
null_is_zero (tree.Assign place value ty line) q n t h = absurd (false≢true n)
null_is_zero (tree.StructAssign place from size line) q n t h = absurd (false≢true n)
null_is_zero (tree.Update op place value operation size ty line) q n t h = absurd (false≢true n)
null_is_zero (tree.Step op place operation size ty line) q n t h = absurd (false≢true n)
null_is_zero (tree.Call function arguments ty line) q n t h = absurd (false≢true n)

-- ---- what the typing rules say
converted_null : (p : Program) (null : Bool) (from : Ty) (t : IntTy) (row : ℕ) → from ≡ types.Int t → convert_fits p null from (types.Pointer row) ≡ true → null ≡ true
converted_null p true from t row is e = refl
converted_null p false from t row is e = absurd (let q : convert_fits p false from (types.Pointer row) ≡ false = ap (λ y. convert_fits p false y (types.Pointer row)) is in false≢true (sym q ∙ e))

cast_null : (p : Program) (null : Bool) (from : Ty) (t : IntTy) (row : ℕ) → from ≡ types.Int t → cast_fits p null from (types.Pointer row) ≡ true → null ≡ true
cast_null p true from t row is e = refl
cast_null p false from t row is e =
    let q : cast_fits p false (types.Int t) (types.Pointer row) ≡ true = sym (ap (λ y. cast_fits p false y (types.Pointer row)) is) ∙ e in
    absurd (false≢true (and_parts _ false q).1)

convert_null : (p : Program) (operand : Expression) (row line : ℕ) (t : IntTy) → type_of operand ≡ types.Int t → Obeys p (tree.Convert operand (types.Pointer row) line) → is_null operand ≡ true
unfolding rule_holds
convert_null p operand row line t is h = converted_null p (is_null operand) (type_of operand) t row is (and_parts _ _ h.1).1

cast_is_null : (p : Program) (operand : Expression) (row line : ℕ) (t : IntTy) → type_of operand ≡ types.Int t → Obeys p (tree.Cast operand (types.Pointer row) line) → is_null operand ≡ true
unfolding rule_holds
cast_is_null p operand row line t is h = cast_null p (is_null operand) (type_of operand) t row is h.1

module _ (z : Scene) (given : IsLowerable z.program z.copies) (input : All (λ byte. byte < 256) z.outside.input) where
  -- A null constant becomes a pointer.
  pub null_converts : (operand : Expression) (ty : Ty) (line : ℕ) (v : Datum) (k : List Pending) → IsNullMade ty v → Law z (Holds v) (In (tree.Convert operand ty line) Nothing ∷ k)
  null_converts operand (types.Pointer row) line (datum.Number q) k made cp l w c known due h =
      let s = known.stands in
      let is : type_of operand ≡ types.Int q.ty = sym s.focus.1 ∙ s.focus.2.0 in
      converts z given input operand (types.Pointer row) line (datum.Number q) k (null_is_zero operand q (convert_null z.program operand row line q.ty is s.stack.0.0) is known.sure.focus) cp l w c known due h
  null_converts operand (types.Pointer row) line (datum.Pointer x) k made cp l w c known due h = absurd made
  null_converts operand (types.Pointer row) line datum.Missing k made cp l w c known due h = absurd made
  null_converts operand types.Void line v k made cp l w c known due h = absurd made
  null_converts operand (types.Int ty) line v k made cp l w c known due h = absurd made
  null_converts operand (types.Array element length bytes) line v k made cp l w c known due h = absurd made
  null_converts operand (types.Struct number) line v k made cp l w c known due h = absurd made

  pub null_casts : (operand : Expression) (ty : Ty) (line : ℕ) (v : Datum) (k : List Pending) → IsNullMade ty v → Law z (Holds v) (In (tree.Cast operand ty line) Nothing ∷ k)
  null_casts operand (types.Pointer row) line (datum.Number q) k made cp l w c known due h =
      let s = known.stands in
      let is : type_of operand ≡ types.Int q.ty = sym s.focus.1 ∙ s.focus.2.0 in
      casts z given input operand (types.Pointer row) line (datum.Number q) k (null_is_zero operand q (cast_is_null z.program operand row line q.ty is s.stack.0.0) is known.sure.focus) cp l w c known due h
  null_casts operand (types.Pointer row) line (datum.Pointer x) k made cp l w c known due h = absurd made
  null_casts operand (types.Pointer row) line datum.Missing k made cp l w c known due h = absurd made
  null_casts operand types.Void line v k made cp l w c known due h = absurd made
  null_casts operand (types.Int ty) line v k made cp l w c known due h = absurd made
  null_casts operand (types.Array element length bytes) line v k made cp l w c known due h = absurd made
  null_casts operand (types.Struct number) line v k made cp l w c known due h = absurd made
