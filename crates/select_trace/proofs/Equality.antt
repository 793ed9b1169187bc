-- Equality, and whether all bytes are 0.
use Rattle.std.proofs.Common.{◌≡◌, ℕ, zero, suc, ◌+◌, ◌-◌, ◌*◌, ◌%◌, ◌^◌, ◌<◌, ◌≤◌, List, ◌++◌, refl, ap, sym, ◌∙◌, subst, arith, Bool, bit_xor, bit_or}
use Rattle.std.specs.Prelude.{nat_eq, if◌then◌else◌}
use Rattle.std.proofs.lemmas.Nat.{xor_lt, or_lt, le_or_l, le_or_r, same_from_place}
use Rattle.std.proofs.lemmas.Nat.Bits.{bit_at_xor, bit_at-lt, bit_at-zero, same_from_bits}
use Rattle.std.specs.Int.{bit_at}
use Rattle.std.proofs.lemmas.Bool.Decides.{nat_tests}
use Rattle.sym_code.specs.Effect.{Memory}
use Rattle.select_trace.specs.Run.{Machine, Sym, going, run}
use Rattle.sym_code.specs.declared.code.BitOperation.TheVariants.{Btfsc}
use Rattle.sym_code.specs.declared.code.Into.TheVariants.{W, File}
use Rattle.sym_code.specs.Registers.{Registers}
use Rattle.sym_code.specs.declared.code.FileOperation.TheVariants.{Xorwf, Iorwf}
use Rattle.select_trace.specs.Code.{Operand, pair_code, store_code, file_code, choice_code, truth_code, difference_bits_code, differences_code, equality_code}
use Rattle.select_trace.specs.Links.{AreBytes, Fine}
use Rattle.select_trace.specs.Values.{val}
use Rattle.select_trace.specs.Comparisons.{Truth, Compared}
use Rattle.select_trace.proofs.Vals.{run_append, going_is, val_below}
use Rattle.select_trace.proofs.Links.{nonzero}
use Rattle.select_trace.proofs.Comparisons.{OnlyW, by_zero, fine_w, truth_is}

-- ---- bits
xor_same : (a : ℕ) → bit_xor a a ≡ 0
xor_same a = same_from_bits (bit_xor a a) 0 (λ i. bit_at_xor a a i ∙ even (bit_at a i) ∙ sym (bit_at-zero i))
  where
    even : (x : ℕ) → (x + x) % 2 ≡ 0
    even x = omega arith

xor_zero : (a b : ℕ) → bit_xor a b ≡ 0 → a ≡ b
xor_zero a b e = same_from_bits a b (λ i. equal (bit_at a i) (bit_at b i) (bit_at-lt a i) (bit_at-lt b i) (sym (bit_at_xor a b i) ∙ ap (λ n. bit_at n i) e ∙ bit_at-zero i))
  where
    equal : (x y : ℕ) → x < 2 → y < 2 → (x + y) % 2 ≡ 0 → x ≡ y
    equal x y a b e = omega arith

-- ---- one byte
record Differs (t u : Machine) (at x : ℕ) : Type 0 where
  fine : Fine u
  byte : u.memory at ≡ x
  zero : u.registers.z ≡ (if nat_eq x 0 then 1 else 0)
  others : (a : ℕ) → (a ≡ at → ⊥) → u.memory a ≡ t.memory a

first_at : (x y to : ℕ) (r : Registers) (m : Memory) → Fine (going r m) → Differs (going r m) (run (pair_code Xorwf x y W ++ store_code to) (going r m)) to (bit_xor (m y) (m x))
first_at x y to r m ok =
    let lt : bit_xor (m y) (m x) < 256 = xor_lt 8 (m y) (m x) (ok.bytes y) (ok.bytes x) in
    record {
      fine = record { going = refl; carry = ok.carry; zero = grind (arith, nat_tests); bytes = λ a. grind (arith, nat_tests, ok.bytes a, lt) };
      byte = grind (arith, nat_tests);
      zero = grind (arith, nat_tests);
      others = λ a ne. grind (arith, nat_tests);
    }

further_at : (x y to : ℕ) (r : Registers) (m : Memory) → Fine (going r m) → Differs (going r m) (run (pair_code Xorwf x y W ++ file_code Iorwf to File) (going r m)) to (bit_or (bit_xor (m y) (m x)) (m to))
further_at x y to r m ok =
    let lt : bit_xor (m y) (m x) < 256 = xor_lt 8 (m y) (m x) (ok.bytes y) (ok.bytes x) in
    let lt2 : bit_or (bit_xor (m y) (m x)) (m to) < 256 = or_lt 8 (bit_xor (m y) (m x)) (m to) lt (ok.bytes to) in
    record {
      fine = record { going = refl; carry = ok.carry; zero = grind (arith, nat_tests); bytes = λ a. grind (arith, nat_tests, ok.bytes a, lt2) };
      byte = grind (arith, nat_tests);
      zero = grind (arith, nat_tests);
      others = λ a ne. grind (arith, nat_tests);
    }

first : (x y to : ℕ) (t : Machine) → Fine t → Differs t (run (pair_code Xorwf x y W ++ store_code to) t) to (bit_xor (t.memory y) (t.memory x))
first x y to t ok = subst (λ (v : Machine). Fine v → Differs v (run (pair_code Xorwf x y W ++ store_code to) v) to (bit_xor (v.memory y) (v.memory x))) (going_is t ok.going) (first_at x y to t.registers t.memory) ok

further : (x y to : ℕ) (t : Machine) → Fine t → Differs t (run (pair_code Xorwf x y W ++ file_code Iorwf to File) t) to (bit_or (bit_xor (t.memory y) (t.memory x)) (t.memory to))
further x y to t ok = subst (λ (v : Machine). Fine v → Differs v (run (pair_code Xorwf x y W ++ file_code Iorwf to File) v) to (bit_or (bit_xor (v.memory y) (v.memory x)) (v.memory to))) (going_is t ok.going) (further_at x y to t.registers t.memory) ok

further_code_is : (to left right : Operand) (k : ℕ) → pair_code Xorwf (left (suc k)) (right (suc k)) W ++ file_code Iorwf (to 0) File ≡ difference_bits_code to left right (suc k)
further_code_is to left right k = ap (λ b. pair_code Xorwf (left (suc k)) (right (suc k)) W ++ (if b then store_code (to 0) else file_code Iorwf (to 0) File)) (sym (nonzero k))

-- ---- all bytes
compared : (to left right : Operand) (w : ℕ) → ((k : ℕ) → 0 < k → k < w → (to 0 ≡ left k → ⊥) × (to 0 ≡ right k → ⊥)) → (t : Machine) → Fine t → (k : ℕ) → suc k ≤ w → Compared t.memory (run (differences_code to left right (suc k)) t) to left right (suc k)
compared to left right w apart t ok zero le =
    let u : Machine = run (differences_code to left right 1) t in
    let h : Differs t u (to 0) (bit_xor (t.memory (right 0)) (t.memory (left 0))) = first (left 0) (right 0) (to 0) t ok in
    record {
      fine = h.fine;
      same = λ e. let z : t.memory (right 0) ≡ t.memory (left 0) = xor_zero (t.memory (right 0)) (t.memory (left 0)) (sym h.byte ∙ e) in omega arith;
      differs = λ e. let z : t.memory (right 0) ≡ t.memory (left 0) = omega arith in h.byte ∙ ap (λ x. bit_xor x (t.memory (left 0))) z ∙ xor_same (t.memory (left 0));
      zero = h.zero ∙ ap (λ x. if nat_eq x 0 then 1 else 0) (sym h.byte);
      others = h.others;
    }
compared to left right w apart t ok (suc k) le =
    subst (λ (v : Machine). Compared t.memory v to left right (suc (suc k))) (sym (run_append (differences_code to left right (suc k)) (difference_bits_code to left right (suc k)) t))
    (more to left right k (apart (suc k) (omega arith) le) t.memory ok.bytes (run (differences_code to left right (suc k)) t) (compared to left right w apart t ok k (omega arith)))
  where
    both_zero : (x y : ℕ) → bit_or x y ≡ 0 → (x ≡ 0) × (y ≡ 0)
    both_zero x y e = (omega (arith, le_or_l x y), omega (arith, le_or_r x y))

    parts : (p v x w y : ℕ) → v < p → w < p → v + p * x ≡ w + p * y → (x ≡ y) × (v ≡ w)
    parts p v x w y a b e = same_from_place x v y w p a b (omega (arith, e))

    more : (to left right : Operand) (k : ℕ) → (to 0 ≡ left (suc k) → ⊥) × (to 0 ≡ right (suc k) → ⊥) → (m : Memory) → AreBytes m → (u : Machine) → Compared m u to left right (suc k) → Compared m (run (difference_bits_code to left right (suc k)) u) to left right (suc (suc k))
    more to left right k apart m bytes u h =
        let v : Machine = run (difference_bits_code to left right (suc k)) u in
        let l : u.memory (left (suc k)) ≡ m (left (suc k)) = h.others (left (suc k)) (λ e. apart.0 (sym e)) in
        let r : u.memory (right (suc k)) ≡ m (right (suc k)) = h.others (right (suc k)) (λ e. apart.1 (sym e)) in
        let o : Differs u v (to 0) (bit_or (bit_xor (u.memory (right (suc k))) (u.memory (left (suc k)))) (u.memory (to 0))) =
        subst (λ (xs : List Sym). Differs u (run xs u) (to 0) (bit_or (bit_xor (u.memory (right (suc k))) (u.memory (left (suc k)))) (u.memory (to 0)))) (further_code_is to left right k) (further (left (suc k)) (right (suc k)) (to 0) u h.fine) in
        record {
          fine = o.fine;
          same = λ e.
              let z = both_zero (bit_xor (u.memory (right (suc k))) (u.memory (left (suc k)))) (u.memory (to 0)) (sym o.byte ∙ e) in
              let x : u.memory (right (suc k)) ≡ u.memory (left (suc k)) = xor_zero _ _ z.0 in
              let y : val (λ j. m (left j)) (suc k) ≡ val (λ j. m (right j)) (suc k) = h.same z.1 in
              let x2 : m (left (suc k)) ≡ m (right (suc k)) = sym l ∙ sym x ∙ r in
              ap (λ n. n + 256 ^ suc k * m (left (suc k))) y ∙ ap (λ n. val (λ j. m (right j)) (suc k) + 256 ^ suc k * n) x2;
          differs = λ e.
              let p = parts (256 ^ suc k) (val (λ j. m (left j)) (suc k)) (m (left (suc k))) (val (λ j. m (right j)) (suc k)) (m (right (suc k))) (val_below (λ j. m (left j)) (suc k) (λ j lt. bytes (left j))) (val_below (λ j. m (right j)) (suc k) (λ j lt. bytes (right j))) e in
              let x : u.memory (right (suc k)) ≡ u.memory (left (suc k)) = r ∙ sym p.0 ∙ sym l in
              o.byte ∙ ap (λ n. bit_or (bit_xor n (u.memory (left (suc k)))) (u.memory (to 0))) x ∙ ap (λ n. bit_or n (u.memory (to 0))) (xor_same (u.memory (left (suc k)))) ∙ ap (λ n. bit_or 0 n) (h.differs p.1);
          zero = o.zero ∙ ap (λ x. if nat_eq x 0 then 1 else 0) (sym o.byte);
          others = λ a ne. o.others a ne ∙ h.others a ne;
        }

-- 1 - usual where they are equal
abbrev pub equality_answer : ℕ → ℕ → ℕ → ℕ
equality_answer usual l r = if nat_eq l r then 1 - usual else usual

pub equality : (clearable : Bool) (usual : ℕ) (to left right : Operand) (w : ℕ) → usual < 2 → 0 < w → (to 0 ≡ to 1 → ⊥) → ((k : ℕ) → 0 < k → k < w → (to 0 ≡ left k → ⊥) × (to 0 ≡ right k → ⊥)) → (t : Machine) → Fine t →
    Truth t.memory (run (equality_code clearable usual to left right w) t) to (equality_answer usual (val (λ j. t.memory (left j)) w) (val (λ j. t.memory (right j)) w))
equality clearable usual to left right zero us wide apart2 apart t ok = absurd (omega arith)
equality clearable usual to left right (suc k) us wide apart2 apart t ok =
    let u : Machine = run (differences_code to left right (suc k)) t in
    let h : Compared t.memory u to left right (suc k) = compared to left right (suc k) apart t ok k (omega arith) in
    let v : Machine = run (choice_code usual Btfsc 2 (1 - usual)) u in
    let c : OnlyW u v (if nat_eq u.registers.z 0 then usual else 1 - usual) = by_zero usual u h.fine in
    let l : ℕ = val (λ j. t.memory (left j)) (suc k) in
    let r : ℕ = val (λ j. t.memory (right j)) (suc k) in
    let is : v.registers.w ≡ equality_answer usual l r = c.w ∙ answer_is usual u.registers.z (u.memory (to 0)) l r h.zero h.same h.differs in
    let e : run (equality_code clearable usual to left right (suc k)) t ≡ run (truth_code clearable to) v = run3 (differences_code to left right (suc k)) (choice_code usual Btfsc 2 (1 - usual)) (truth_code clearable to) t in
    subst (λ (x : Machine). Truth t.memory x to (equality_answer usual l r)) (sym e) (last t.memory u v (run (truth_code clearable to) v) (λ a ne. c.same a ∙ h.others a ne) (truth_is clearable to v (equality_answer usual l r) apart2 (small usual l r us) is (fine_w u v _ h.fine c)))
  where
    small : (usual l r : ℕ) → usual < 2 → equality_answer usual l r < 2
    small usual l r lt = grind (arith, nat_tests)

    answer_is : (usual z b l r : ℕ) → z ≡ (if nat_eq b 0 then 1 else 0) → (b ≡ 0 → l ≡ r) → (l ≡ r → b ≡ 0) → (if nat_eq z 0 then usual else 1 - usual) ≡ equality_answer usual l r
    answer_is usual z b l r e f g = grind (arith, nat_tests)

    run3 : (xs ys zs : List Sym) (t : Machine) → run ((xs ++ ys) ++ zs) t ≡ run zs (run ys (run xs t))
    run3 xs ys zs t = run_append (xs ++ ys) zs t ∙ ap (run zs) (run_append xs ys t)

    last : (m : Memory) (u v x : Machine) → ((a : ℕ) → (a ≡ to 0 → ⊥) → v.memory a ≡ m a) → Truth v.memory x to (equality_answer usual (val (λ j. t.memory (left j)) (suc k)) (val (λ j. t.memory (right j)) (suc k))) → Truth m x to (equality_answer usual (val (λ j. t.memory (left j)) (suc k)) (val (λ j. t.memory (right j)) (suc k)))
    last m u v x same h = record { fine = h.fine; low = h.low; high = h.high; others = λ a n0 n1. h.others a n0 n1 ∙ same a n0 }
