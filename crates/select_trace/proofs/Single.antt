-- Operators on one value, and tests, where their code stands.
use Rattle.std.proofs.Common.{◌≡◌, ℕ, zero, suc, ◌-◌, ◌%◌, ◌<◌, Bool, true, List, [], ◌∷◌, ◌++◌, refl, ap, sym, ◌∙◌, subst, arith, ℤ, pos}
use Rattle.std.specs.Prelude.{nat_eq, nat_lt, if◌then◌else◌}
use Rattle.std.specs.Ordering.{int_eq}
use Rattle.std.proofs.lemmas.Bool.Decides.{nat_tests}
use Rattle.c_ints.specs.Conversions.{promoted}
use Rattle.c_ints.specs.Operators.{truth, exact_unary}
use Rattle.c_ints.specs.Range.{bytes_of, span, cut, pattern}
use Rattle.c_ints.specs.declared.operators.UnOp.TheVariants.{Plus, Minus, Not, Bang}
use Rattle.c_ints.specs.declared.types.IntTy.{IntTy}
use Rattle.c_ints.specs.declared.types.IntTy.TheVariants.{Char, SChar, UChar, Short, UShort, Int, UInt, Long, ULong}
use Rattle.core_code.specs.declared.code.Byte.{Byte}
use Rattle.select_code.specs.Pieces.{test_code}
use Rattle.select_wide.specs.Single as single
use Rattle.select_wide.specs.Single.{unary_code}
use Rattle.sym_code.specs.Effect.{Setting, Memory}
use Rattle.sym_code.specs.Quiet.{Scene}
use Rattle.sym_code.specs.Registers.{Registers}
use Rattle.sym_code.specs.declared.code.BlockName.{BlockName}
use Rattle.sym_code.specs.declared.code.Sym as code
use Rattle.select_trace.specs.Code as model
use Rattle.select_trace.specs.Comparisons.{Truth}
use Rattle.select_trace.specs.Links.{AreBytes}
use Rattle.select_trace.specs.Operators.{number_from, Computes, UnaryRuns, Tests, TestRuns}
use Rattle.select_trace.specs.Run as run
use Rattle.select_trace.specs.Run.{Sym, Machine, going}
use Rattle.select_trace.specs.Silent.{OwnsBytes, Begins}
use Rattle.select_trace.specs.Values.{val}
use Rattle.select_trace.proofs.Bitwise.{bits_back}
use Rattle.select_trace.proofs.Ints.{pattern_cut}
use Rattle.select_trace.proofs.Means as means
use Rattle.select_trace.proofs.Means.{Means, Lies}
use Rattle.select_trace.proofs.Meanings as meanings
use Rattle.select_trace.proofs.Operators.{bound}
use Rattle.select_trace.proofs.Passed.{Along}
use Rattle.select_trace.proofs.OwnByteSites as sites
use Rattle.select_trace.proofs.ComparisonValues.{eq_value}
use Rattle.select_trace.proofs.Unary.{complement, minus, bang, minus_value, not_value, Tested, tested}
use Rattle.select_trace.proofs.Vals.{val_below}

-- ---- values
-- a promoted type of two bytes or more has the same bits
same_bits : (ty : IntTy) (z : ℤ) → nat_lt 1 (bytes_of ty) ≡ true → pattern (promoted ty) (cut (promoted ty) z) ≡ pattern ty z
same_bits Char z e = absurd (cc)
same_bits SChar z e = absurd (cc)
same_bits UChar z e = absurd (cc)
same_bits Short z e = pattern_cut Int z
same_bits UShort z e = pattern_cut UInt z
same_bits Int z e = pattern_cut Int z
same_bits UInt z e = pattern_cut UInt z
same_bits Long z e = pattern_cut Long z
same_bits ULong z e = pattern_cut ULong z

same_bytes : (ty : IntTy) → nat_lt 1 (bytes_of ty) ≡ true → bytes_of (promoted ty) ≡ bytes_of ty
same_bytes Char e = absurd (cc)
same_bytes SChar e = absurd (cc)
same_bytes UChar e = absurd (cc)
same_bytes Short e = refl
same_bytes UShort e = refl
same_bytes Int e = refl
same_bytes UInt e = refl
same_bytes Long e = refl
same_bytes ULong e = refl

zero_cut : (ty : IntTy) → cut ty (pos 0) ≡ pos 0
zero_cut Char = refl
zero_cut SChar = refl
zero_cut UChar = refl
zero_cut Short = refl
zero_cut UShort = refl
zero_cut Int = refl
zero_cut UInt = refl
zero_cut Long = refl
zero_cut ULong = refl

-- whether a number is 0
bang_value : (ty : IntTy) (n : ℕ) → n < span ty → (if nat_eq n 0 then 1 else 0) ≡ pattern Int (cut Int (truth (int_eq (cut ty (pos n)) (pos 0))))
bang_value ty n lt =
    eq_value ty n 0 (if nat_eq n 0 then 1 else 0) lt (pow_pos_span ty) refl ∙ ap (λ z. pattern Int (cut Int (truth (int_eq (cut ty (pos n)) z)))) (zero_cut ty)
  where
    pow_pos_span : (ty : IntTy) → 0 < span ty
    pow_pos_span Char = omega arith
    pow_pos_span SChar = omega arith
    pow_pos_span UChar = omega arith
    pow_pos_span Short = omega arith
    pow_pos_span UShort = omega arith
    pow_pos_span Int = omega arith
    pow_pos_span UInt = omega arith
    pow_pos_span Long = omega arith
    pow_pos_span ULong = omega arith

two_bytes : (m : Memory) (f : ℕ → ℕ) → m (f 1) ≡ 0 → val (λ j. m (f j)) 2 ≡ m (f 0)
two_bytes m f e = let z : m (f 1) ≡ 0 = e in omega arith

wide : (ty : IntTy) → 0 < bytes_of ty
wide ty = grind arith

module _ (g : Setting) (price : BlockName → ℕ → ℕ) (inside : Bool) (copy size : ℕ) (own : OwnsBytes g inside copy size) (block : BlockName) (i : ℕ) (s : Scene) where
  abbrev P : Byte → Type 0
  P = sites.Own g inside copy size own

  abbrev at : Byte → ℕ
  at = sites.at g inside copy size own

  abbrev In : Byte → ℕ → Type 0
  In = sites.In g inside copy size own

  abbrev spot : Byte → ℕ → ℕ
  spot = sites.spot g inside copy size own

  abbrev begin : Machine
  begin = sites.begin g inside copy size own price block i s

  abbrev num : Byte → ℕ → ℕ
  num byte w = number_from g.program.layout s.memory byte w

  small : (ty : IntTy) (m : Memory) → AreBytes m → (byte : Byte) → val (λ j. m (spot byte j)) (bytes_of ty) < span ty
  small ty m ok byte = subst (λ (x : ℕ). val (λ j. m (spot byte j)) (bytes_of ty) < x) (bound ty (bytes_of ty) refl) (val_below (λ j. m (spot byte j)) (bytes_of ty) (λ j l. ok (spot byte j)))

  -- the answer's bytes are those of the promoted type
  promote : (list : List code.Sym) (ty : IntTy) (byte : Byte) (z : ℤ) → nat_lt 1 (bytes_of ty) ≡ true → Computes g price inside block i list byte (bytes_of ty) (pattern ty z) s → Computes g price inside block i list byte (bytes_of (promoted ty)) (pattern (promoted ty) (cut (promoted ty) z)) s
  promote list ty byte z e h =
      subst (λ (w : ℕ). Computes g price inside block i list byte w (pattern (promoted ty) (cut (promoted ty) z)) s) (sym (same_bytes ty e))
      (subst (λ (a : ℕ). Computes g price inside block i list byte (bytes_of ty) a s) (sym (same_bits ty z e)) h)

  plus_runs : (ty : IntTy) (byte : Byte) → In byte (bytes_of ty) → nat_lt 1 (bytes_of ty) ≡ true → Begins g block i [] s → Computes g price inside block i [] byte (bytes_of (promoted ty)) (pattern (promoted ty) (cut (promoted ty) (cut ty (pos (num byte (bytes_of ty)))))) s
  plus_runs ty byte h e b =
      promote [] ty byte (cut ty (pos (num byte (bytes_of ty)))) e
      (sites.computes g inside copy size own price block i s [] [] byte (bytes_of ty) _ b (means.none P at) (sites.fine g inside copy size own price block i s [] b) (sym (bits_back ty (num byte (bytes_of ty)) (small ty s.memory b.bytes byte))) (λ a no. refl))

  not_runs : (ty : IntTy) (byte : Byte) → In byte (bytes_of ty) → nat_lt 1 (bytes_of ty) ≡ true → Begins g block i (single.complement_code byte (bytes_of ty)) s →
      Computes g price inside block i (single.complement_code byte (bytes_of ty)) byte (bytes_of (promoted ty)) (pattern (promoted ty) (cut (promoted ty) (exact_unary Not (cut ty (pos (num byte (bytes_of ty))))))) s
  not_runs ty byte h e b =
      let w : ℕ = bytes_of ty in
      let z : ℤ = exact_unary Not (cut ty (pos (num byte (bytes_of ty)))) in
      let ys : List Sym = model.complement_code (spot byte) (bytes_of ty) in
      let k = complement (spot byte) (bytes_of ty) (sites.distinct g inside copy size own byte (bytes_of ty) h) begin (sites.fine g inside copy size own price block i s (single.complement_code byte (bytes_of ty)) b) in
      promote (single.complement_code byte (bytes_of ty)) ty byte z e
      (sites.computes g inside copy size own price block i s (single.complement_code byte (bytes_of ty)) ys byte (bytes_of ty) _ b (meanings.complement P at byte (bytes_of ty) (sites.lies g inside copy size own byte (bytes_of ty) (wide ty) h)) k.1.fine
      (not_value ty (num byte (bytes_of ty)) _ (small ty s.memory b.bytes byte) (k.0 ∙ bound ty (bytes_of ty) refl) ∙ pattern_cut ty z) k.1.others)

  minus_runs : (ty : IntTy) (byte : Byte) → In byte (bytes_of ty) → nat_lt 1 (bytes_of ty) ≡ true → Begins g block i (single.complement_code byte (bytes_of ty) ++ single.increment_code byte (bytes_of ty)) s →
      Computes g price inside block i (single.complement_code byte (bytes_of ty) ++ single.increment_code byte (bytes_of ty)) byte (bytes_of (promoted ty)) (pattern (promoted ty) (cut (promoted ty) (exact_unary Minus (cut ty (pos (num byte (bytes_of ty))))))) s
  minus_runs ty byte h e b =
      let z : ℤ = exact_unary Minus (cut ty (pos (num byte (bytes_of ty)))) in
      let list : List code.Sym = single.complement_code byte (bytes_of ty) ++ single.increment_code byte (bytes_of ty) in
      let ys : List Sym = model.complement_code (spot byte) (bytes_of ty) ++ model.increment_code (spot byte) (bytes_of ty) in
      let l : Lies P at byte (bytes_of ty) = sites.lies g inside copy size own byte (bytes_of ty) (wide ty) h in
      let k = minus (spot byte) (bytes_of ty) (sites.distinct g inside copy size own byte (bytes_of ty) h) (wide ty) begin (sites.fine g inside copy size own price block i s list b) in
      promote list ty byte z e
      (sites.computes g inside copy size own price block i s list ys byte (bytes_of ty) _ b
      (means.joined P at _ _ _ _ (meanings.complement P at byte (bytes_of ty) l) (meanings.increment P at byte (bytes_of ty) l)) k.1.fine
      (minus_value ty (num byte (bytes_of ty)) _ (small ty s.memory b.bytes byte) (k.0 ∙ ap (λ x. (x - num byte (bytes_of ty)) % x) (bound ty (bytes_of ty) refl)) ∙ pattern_cut ty z) k.1.others)

  bang_runs : (ty : IntTy) (byte : Byte) → In byte (bytes_of ty) → In byte 2 → Begins g block i (single.bang_code byte (bytes_of ty)) s →
      Computes g price inside block i (single.bang_code byte (bytes_of ty)) byte 2 (pattern Int (cut Int (exact_unary Bang (cut ty (pos (num byte (bytes_of ty))))))) s
  bang_runs ty byte h h2 b =
      let list : List code.Sym = single.bang_code byte (bytes_of ty) in
      let ys : List Sym = model.bang_code true (spot byte) (bytes_of ty) in
      let k : Truth s.memory (run.run ys begin) (spot byte) (if nat_eq (num byte (bytes_of ty)) 0 then 1 else 0) =
      bang true (spot byte) (bytes_of ty) (wide ty) (λ x. sites.distinct g inside copy size own byte 2 h2 0 1 (omega arith) (omega arith) x) begin (sites.fine g inside copy size own price block i s list b) in
      sites.computes g inside copy size own price block i s list ys byte 2 _ b
      (meanings.bang P at byte (bytes_of ty) (sites.lies g inside copy size own byte (bytes_of ty) (wide ty) h) (sites.lies g inside copy size own byte 2 (omega arith) h2)) k.fine
      (two_bytes (run.run ys begin).memory (spot byte) k.high ∙ k.low ∙ bang_value ty (num byte (bytes_of ty)) (small ty s.memory b.bytes byte)) (λ a no. k.others a (no 0 (omega arith)) (no 1 (omega arith)))

  test_runs_at : (byte : Byte) (w : ℕ) → In byte w → Begins g block i (test_code byte w) s → Tests g price inside block i byte w s
  test_runs_at byte zero h b =
      let a : Along g price inside block i (test_code byte 0) s (run.run (run.Clrw ∷ []) begin) = sites.runs g inside copy size own price block i s (test_code byte 0) (run.Clrw ∷ []) b (record { same = refl; straight = (tt, tt) }) refl in
      record { passes = a.passes; zero = ap (λ (r : Registers). r.z) a.registers; same = λ n. ap (λ (m : Memory). m n) a.memory }
  test_runs_at byte (suc w) h b =
      let ys : List Sym = model.test_code (spot byte) (suc w) in
      let t : Tested begin (run.run ys begin) (num byte (suc w)) = tested (spot byte) w begin (sites.fine g inside copy size own price block i s (test_code byte (suc w)) b) in
      let a : Along g price inside block i (test_code byte (suc w)) s (run.run ys begin) =
      sites.runs g inside copy size own price block i s (test_code byte (suc w)) ys b (meanings.test P at byte (suc w) (sites.lies g inside copy size own byte (suc w) (omega arith) h)) t.fine.going in
      record {
        passes = a.passes;
        zero = ap (λ (r : Registers). r.z) a.registers ∙ t.zero ∙ same_zero (run.run ys begin).registers.w (num byte (suc w)) t.none t.some;
        same = λ n. ap (λ (m : Memory). m n) a.memory ∙ t.same n;
      }
    where
      same_zero : (w n : ℕ) → (w ≡ 0 → n ≡ 0) → (n ≡ 0 → w ≡ 0) → ◌≡◌ {A = ℕ} (if nat_eq w 0 then 1 else 0) (if nat_eq n 0 then 1 else 0)
      same_zero w n f g = grind (arith, nat_tests)

pub unary_runs : UnaryRuns
unary_runs g price inside copy size block i s Plus ty byte own fits h k b = plus_runs g price inside copy size own block i s ty byte h fits b
unary_runs g price inside copy size block i s Minus ty byte own fits h k b = minus_runs g price inside copy size own block i s ty byte h fits b
unary_runs g price inside copy size block i s Not ty byte own fits h k b = not_runs g price inside copy size own block i s ty byte h fits b
unary_runs g price inside copy size block i s Bang ty byte own fits h k b = bang_runs g price inside copy size own block i s ty byte h k b

pub test_runs : TestRuns
test_runs g price inside copy size block i s test width own h b = test_runs_at g price inside copy size own block i s test width h b
