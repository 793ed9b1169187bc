-- And, or, exclusive or.
use Rattle.std.proofs.Common.{◌≡◌, ℕ, zero, suc, ◌+◌, ◌*◌, ◌^◌, ◌<◌, ◌≤◌, List, ◌++◌, refl, ap, sym, ◌∙◌, subst, arith, inl, inr, Bool, true, false, bit_and, bit_or, bit_xor, pos}
use Rattle.std.specs.Prelude.{if◌then◌else◌}
use Rattle.std.proofs.lemmas.Nat.{and_block, or_block, xor_block, and_le_l, or_lt, xor_lt, and_comm, or_comm, xor_comm}
use Rattle.std.proofs.lemmas.Bool.{cases_eq}
use Rattle.std.proofs.lemmas.Bool.Decides.{nat_tests}
use Rattle.sym_code.specs.Registers.{Registers}
use Rattle.sym_code.specs.declared.code.FileOperation.{FileOperation}
use Rattle.sym_code.specs.declared.code.FileOperation.TheVariants.{Andwf, Iorwf, Xorwf}
use Rattle.sym_code.specs.Effect.{Memory}
use Rattle.select_trace.specs.Run.{Machine, Sym, going, run, Going}
use Rattle.sym_code.specs.declared.code.Into.TheVariants.{W, File}
use Rattle.select_trace.specs.Code.{Operand, pair_code, store_code, bits_code}
use Rattle.select_trace.specs.Links.{AreBytes, Fine, Apart}
use Rattle.select_trace.specs.Values.{val}
use Rattle.c_ints.specs.declared.types.IntTy.{IntTy}
use Rattle.c_ints.specs.declared.operators.BinOp.TheVariants.{And, Or, Xor}
use Rattle.c_ints.specs.Range.{width, span, cut, pattern}
use Rattle.select_trace.specs.Ints.{IsValue}
use Rattle.select_trace.proofs.Vals.{run_append, going_is, val_same, val_below}
use Rattle.select_trace.proofs.Division.{span as span_is}
use Rattle.select_trace.proofs.Ints.{pattern_cut}
use Rattle.select_trace.proofs.OperatorValues.{small_mod}

pub data Bitwise : Type 0 where
  Both : Bitwise
  Either : Bitwise
  Differs : Bitwise

abbrev pub row_of : Bitwise → FileOperation
row_of Both = Andwf
row_of Either = Iorwf
row_of Differs = Xorwf

abbrev pub made_by : Bitwise → ℕ → ℕ → ℕ
made_by Both = bit_and
made_by Either = bit_or
made_by Differs = bit_xor

block : (op : Bitwise) (k a b r s : ℕ) → r < 2 ^ k → s < 2 ^ k → made_by op (a * 2 ^ k + r) (b * 2 ^ k + s) ≡ made_by op a b * 2 ^ k + made_by op r s
block Both k a b r s p q = and_block k a b r s p q
block Either k a b r s p q = or_block k a b r s p q
block Differs k a b r s p q = xor_block k a b r s p q

pub made_below : (op : Bitwise) (k a b : ℕ) → a < 2 ^ k → b < 2 ^ k → made_by op a b < 2 ^ k
made_below Both k a b p q = let h : bit_and a b ≤ a = and_le_l a b in omega arith
made_below Either k a b p q = or_lt k a b p q
made_below Differs k a b p q = xor_lt k a b p q

pub made_comm : (op : Bitwise) (a b : ℕ) → made_by op a b ≡ made_by op b a
made_comm Both a b = and_comm a b
made_comm Either a b = or_comm a b
made_comm Differs a b = xor_comm a b

none : (op : Bitwise) → made_by op 0 0 ≡ 0
none Both = refl
none Either = refl
none Differs = refl

record One (m : Memory) (t : Machine) (to x : ℕ) : Type 0 where
  going : t.mode ≡ Going
  carry : t.registers.c < 2
  zero : t.registers.z < 2
  here : t.memory to ≡ x
  others : (b : ℕ) → (b ≡ to → ⊥) → t.memory b ≡ m b

one_at : (op : Bitwise) (in_place : Bool) (to left right : ℕ) (r : Registers) (m : Memory) → r.c < 2 → (in_place ≡ true → to ≡ left) → One m (run (if in_place then pair_code (row_of op) left right File else pair_code (row_of op) left right W ++ store_code to) (going r m)) to (made_by op (m right) (m left))
one_at Both true to left right r m c e = let s : to ≡ left = e refl in record { going = grind (arith, nat_tests); carry = grind (arith, nat_tests); zero = grind (arith, nat_tests); here = grind (arith, nat_tests); others = λ b ne. grind (arith, nat_tests) }
one_at Either true to left right r m c e = let s : to ≡ left = e refl in record { going = grind (arith, nat_tests); carry = grind (arith, nat_tests); zero = grind (arith, nat_tests); here = grind (arith, nat_tests); others = λ b ne. grind (arith, nat_tests) }
one_at Differs true to left right r m c e = let s : to ≡ left = e refl in record { going = grind (arith, nat_tests); carry = grind (arith, nat_tests); zero = grind (arith, nat_tests); here = grind (arith, nat_tests); others = λ b ne. grind (arith, nat_tests) }
one_at Both false to left right r m c e = record { going = grind (arith, nat_tests); carry = grind (arith, nat_tests); zero = grind (arith, nat_tests); here = grind (arith, nat_tests); others = λ b ne. grind (arith, nat_tests) }
one_at Either false to left right r m c e = record { going = grind (arith, nat_tests); carry = grind (arith, nat_tests); zero = grind (arith, nat_tests); here = grind (arith, nat_tests); others = λ b ne. grind (arith, nat_tests) }
one_at Differs false to left right r m c e = record { going = grind (arith, nat_tests); carry = grind (arith, nat_tests); zero = grind (arith, nat_tests); here = grind (arith, nat_tests); others = λ b ne. grind (arith, nat_tests) }

abbrev byte_code : Bitwise → Bool → Operand → Operand → Operand → ℕ → List Sym
byte_code op in_place to left right k = if in_place then pair_code (row_of op) (left k) (right k) File else pair_code (row_of op) (left k) (right k) W ++ store_code (to k)

one : (op : Bitwise) (in_place : Bool) (to left right : Operand) (k : ℕ) → (in_place ≡ true → to k ≡ left k) → (u : Machine) → Fine u → One u.memory (run (byte_code op in_place to left right k) u) (to k) (made_by op (u.memory (right k)) (u.memory (left k)))
one op in_place to left right k e u ok = subst (λ (v : Machine). One u.memory (run (byte_code op in_place to left right k) v) (to k) (made_by op (u.memory (right k)) (u.memory (left k)))) (going_is u ok.going) (one_at op in_place (to k) (left k) (right k) u.registers u.memory ok.carry e)

pub record Made (op : Bitwise) (m : Memory) (t : Machine) (to left right : Operand) (k : ℕ) : Type 0 where
  pub fine : Fine t
  pub is : val (λ j. t.memory (to j)) k ≡ made_by op (val (λ j. m (left j)) k) (val (λ j. m (right j)) k)
  pub others : (a : ℕ) → ((j : ℕ) → j < k → a ≡ to j → ⊥) → t.memory a ≡ m a

-- A write spoils no later byte that is read or written.
pub made : (op : Bitwise) (in_place : Bool) (to left right : Operand) (w : ℕ) → ((k : ℕ) → in_place ≡ true → to k ≡ left k) → Apart w to to → Apart w to left → Apart w to right → (t : Machine) → Fine t → (k : ℕ) → k ≤ w → Made op t.memory (run (bits_code (row_of op) in_place to left right k) t) to left right k
made op in_place to left right w same at al ar t ok zero le = record { fine = ok; is = sym (none op); others = λ a no. refl }
made op in_place to left right w same at al ar t ok (suc k) le =
    subst (λ (v : Machine). Made op t.memory v to left right (suc k)) (sym (run_append (bits_code (row_of op) in_place to left right k) (byte_code op in_place to left right k) t))
    (more op (byte_code op in_place to left right k) to left right w at al ar t.memory ok.bytes k le (run (bits_code (row_of op) in_place to left right k) t) (made op in_place to left right w same at al ar t ok k (omega arith)) (one op in_place to left right k (same k)))
  where
    more : (op : Bitwise) (xs : List Sym) (to left right : Operand) (w : ℕ) → Apart w to to → Apart w to left → Apart w to right → (m : Memory) → AreBytes m → (k : ℕ) → suc k ≤ w → (u : Machine) → Made op m u to left right k →
        ((u : Machine) → Fine u → One u.memory (run xs u) (to k) (made_by op (u.memory (right k)) (u.memory (left k)))) → Made op m (run xs u) to left right (suc k)
    more op xs to left right w at al ar m bytes k le u before step =
        let v : Machine = run xs u in
        let o : One u.memory v (to k) (made_by op (u.memory (right k)) (u.memory (left k))) = step u before.fine in
        let l : u.memory (left k) ≡ m (left k) = before.others (left k) (λ j lt e. al j k lt le (sym e)) in
        let r : u.memory (right k) ≡ m (right k) = before.others (right k) (λ j lt e. ar j k lt le (sym e)) in
        let kept : val (λ j. v.memory (to j)) k ≡ val (λ j. u.memory (to j)) k = val_same _ _ k (λ j lt. o.others (to j) (at j k lt le)) in
        let x : v.memory (to k) ≡ made_by op (m (left k)) (m (right k)) = o.here ∙ made_comm op (u.memory (right k)) (u.memory (left k)) ∙ ap (λ n. made_by op n (u.memory (right k))) l ∙ ap (made_by op (m (left k))) r in
        let small : made_by op (m (left k)) (m (right k)) < 2 ^ 8 = made_below op 8 (m (left k)) (m (right k)) (bytes (left k)) (bytes (right k)) in
        record {
          fine = record { going = o.going; carry = o.carry; zero = o.zero; bytes = λ a. elim (cases_eq a (to k)) [ inl e ↦ rw (e, x) small | inr ne ↦ rw (o.others a ne) (before.fine.bytes a) ] };
          is = joined op k (val (λ j. v.memory (to j)) k) (v.memory (to k)) (val (λ j. m (left j)) k) (val (λ j. m (right j)) k) (m (left k)) (m (right k)) (val_below (λ j. m (left j)) k (λ j lt. bytes (left j))) (val_below (λ j. m (right j)) k (λ j lt. bytes (right j))) (kept ∙ before.is) x;
          others = λ a no. o.others a (no k (omega arith)) ∙ before.others a (λ j lt. no j (omega arith));
        }
      where
        joined : (op : Bitwise) (k v x a b y z : ℕ) → a < 256 ^ k → b < 256 ^ k → v ≡ made_by op a b → x ≡ made_by op y z → v + 256 ^ k * x ≡ made_by op (a + 256 ^ k * y) (b + 256 ^ k * z)
        joined op k v x a b y z la lb e f =
            let p : 256 ^ k ≡ 2 ^ (8 * k) = span_is k in
            let h = block op (8 * k) y z a b (subst (λ (n : ℕ). a < n) p la) (subst (λ (n : ℕ). b < n) p lb) in
            ap (λ n. n + 256 ^ k * x) e ∙ ap (λ n. made_by op a b + 256 ^ k * n) f ∙ turned (256 ^ k) (2 ^ (8 * k)) (made_by op a b) (made_by op y z) p ∙ sym h
            ∙ ap (λ n. made_by op n (z * 2 ^ (8 * k) + b)) (sym (turned (256 ^ k) (2 ^ (8 * k)) a y p)) ∙ ap (made_by op (a + 256 ^ k * y)) (sym (turned (256 ^ k) (2 ^ (8 * k)) b z p))
          where
            turned : (p q v x : ℕ) → p ≡ q → v + p * x ≡ x * q + v
            turned p q v x e = let f : p * x ≡ q * x = ap (λ n. n * x) e in omega (arith, f)

-- ---- values
pub bits_back : (ty : IntTy) (n : ℕ) → n < span ty → pattern ty (cut ty (pos n)) ≡ n
bits_back ty n lt = pattern_cut ty (pos n) ∙ small_mod n (span ty) lt

pub and_value : (ty : IntTy) (l r a : ℕ) → l < span ty → r < span ty → a ≡ bit_and l r → IsValue And ty l r a
and_value ty l r a ll rl e = e ∙ sym (bits_back ty (bit_and l r) (made_below Both (width ty) l r ll rl)) ∙ ap (λ n. pattern ty (cut ty (pos n))) (sym (ap (λ n. bit_and n (pattern ty (cut ty (pos r)))) (bits_back ty l ll) ∙ ap (bit_and l) (bits_back ty r rl)))

pub or_value : (ty : IntTy) (l r a : ℕ) → l < span ty → r < span ty → a ≡ bit_or l r → IsValue Or ty l r a
or_value ty l r a ll rl e = e ∙ sym (bits_back ty (bit_or l r) (made_below Either (width ty) l r ll rl)) ∙ ap (λ n. pattern ty (cut ty (pos n))) (sym (ap (λ n. bit_or n (pattern ty (cut ty (pos r)))) (bits_back ty l ll) ∙ ap (bit_or l) (bits_back ty r rl)))

pub xor_value : (ty : IntTy) (l r a : ℕ) → l < span ty → r < span ty → a ≡ bit_xor l r → IsValue Xor ty l r a
xor_value ty l r a ll rl e = e ∙ sym (bits_back ty (bit_xor l r) (made_below Differs (width ty) l r ll rl)) ∙ ap (λ n. pattern ty (cut ty (pos n))) (sym (ap (λ n. bit_xor n (pattern ty (cut ty (pos r)))) (bits_back ty l ll) ∙ ap (bit_xor l) (bits_back ty r rl)))
