-- Comparisons.
use Rattle.std.proofs.Common.{◌≡◌, ℕ, zero, suc, ◌+◌, ◌-◌, ◌*◌, ◌/◌, ◌%◌, ◌^◌, ◌<◌, ◌≤◌, List, [], ◌++◌, refl, ap, sym, ◌∙◌, subst, arith, inl, inr, Bool, true, false, bit_xor}
use Rattle.std.specs.Prelude.{nat_eq, nat_lt, if◌then◌else◌}
use Rattle.std.proofs.lemmas.Bool.{cases_lt}
use Rattle.std.proofs.lemmas.Bool.Decides.{nat_tests}
use Rattle.sym_code.specs.Effect.{Memory}
use Rattle.select_trace.specs.Run.{Machine, Sym, going, run, Going}
use Rattle.sym_code.specs.declared.code.BitOperation.TheVariants.{Btfsc, Btfss}
use Rattle.sym_code.specs.Registers.{Registers}
use Rattle.select_trace.specs.Code.{Operand, Difference, choice_code, truth_code, turn_code, links_code, order_code}
use Rattle.select_trace.specs.Links.{Fine, Told, carried}
use Rattle.select_trace.specs.Values.{val}
use Rattle.select_trace.specs.Comparisons.{Truth}
use Rattle.select_trace.proofs.Vals.{run_append, going_is}
use Rattle.select_trace.proofs.Chains.{told}

-- ---- the pieces
pub record OnlyW (t u : Machine) (x : ℕ) : Type 0 where
  pub going : u.mode ≡ Going
  pub carry : u.registers.c ≡ t.registers.c
  pub zero : u.registers.z < 2
  pub w : u.registers.w ≡ x
  pub same : (a : ℕ) → u.memory a ≡ t.memory a

by_carry_at : (usual : ℕ) (r : Registers) (m : Memory) → r.c < 2 → r.z < 2 → OnlyW (going r m) (run (choice_code usual Btfss 0 (1 - usual)) (going r m)) (if nat_eq r.c 1 then usual else 1 - usual)
by_carry_at usual r m c z = record {
  going = grind (arith, nat_tests);
  carry = grind (arith, nat_tests);
  zero = grind (arith, nat_tests);
  w = grind (arith, nat_tests);
  same = λ a. grind (arith, nat_tests);
}

by_zero_at : (usual : ℕ) (r : Registers) (m : Memory) → r.c < 2 → r.z < 2 → OnlyW (going r m) (run (choice_code usual Btfsc 2 (1 - usual)) (going r m)) (if nat_eq r.z 0 then usual else 1 - usual)
by_zero_at usual r m c z = record {
  going = grind (arith, nat_tests);
  carry = grind (arith, nat_tests);
  zero = grind (arith, nat_tests);
  w = grind (arith, nat_tests);
  same = λ a. grind (arith, nat_tests);
}

turn_at : (top : ℕ) (r : Registers) (m : Memory) → m top < 256 → r.w < 2 → r.z < 2 → OnlyW (going r m) (run (turn_code top) (going r m)) ((r.w + m top / 128) % 2)
turn_at top r m t w z = elim (cases_lt r.w 1) [
  | inl l ↦ zero_at top r m t (omega arith) z
  | inr g ↦ one_at top r m t (omega arith) z
]
  where
    zero_at : (top : ℕ) (r : Registers) (m : Memory) → m top < 256 → r.w ≡ 0 → r.z < 2 → OnlyW (going r m) (run (turn_code top) (going r m)) ((r.w + m top / 128) % 2)
    zero_at top r m t w z =
        let e : bit_xor 1 r.w ≡ 1 = ap (λ x. bit_xor 1 x) w in
        record {
          going = grind (arith, nat_tests);
          carry = grind (arith, nat_tests);
          zero = grind (arith, nat_tests);
          w = grind (arith, nat_tests);
          same = λ a. grind (arith, nat_tests);
        }

    one_at : (top : ℕ) (r : Registers) (m : Memory) → m top < 256 → r.w ≡ 1 → r.z < 2 → OnlyW (going r m) (run (turn_code top) (going r m)) ((r.w + m top / 128) % 2)
    one_at top r m t w z =
        let e : bit_xor 1 r.w ≡ 0 = ap (λ x. bit_xor 1 x) w in
        record {
          going = grind (arith, nat_tests);
          carry = grind (arith, nat_tests);
          zero = grind (arith, nat_tests);
          w = grind (arith, nat_tests);
          same = λ a. grind (arith, nat_tests);
        }

truth_at : (clearable : Bool) (to : Operand) (r : Registers) (m : Memory) → (to 0 ≡ to 1 → ⊥) → r.w < 2 → Fine (going r m) → Truth m (run (truth_code clearable to) (going r m)) to r.w
truth_at true to r m apart w ok = record {
  fine = record { going = refl; carry = ok.carry; zero = grind (arith, nat_tests); bytes = λ a. grind (arith, nat_tests, ok.bytes a) };
  low = grind (arith, nat_tests);
  high = grind (arith, nat_tests);
  others = λ a n0 n1. grind (arith, nat_tests);
}
truth_at false to r m apart w ok = record {
  fine = record { going = refl; carry = ok.carry; zero = ok.zero; bytes = λ a. grind (arith, nat_tests, ok.bytes a) };
  low = grind (arith, nat_tests);
  high = grind (arith, nat_tests);
  others = λ a n0 n1. grind (arith, nat_tests);
}

pub by_carry : (usual : ℕ) (t : Machine) → Fine t → OnlyW t (run (choice_code usual Btfss 0 (1 - usual)) t) (if nat_eq t.registers.c 1 then usual else 1 - usual)
by_carry usual t ok = subst (λ (v : Machine). OnlyW v (run (choice_code usual Btfss 0 (1 - usual)) v) (if nat_eq v.registers.c 1 then usual else 1 - usual)) (going_is t ok.going) (by_carry_at usual t.registers t.memory ok.carry ok.zero)

pub by_zero : (usual : ℕ) (t : Machine) → Fine t → OnlyW t (run (choice_code usual Btfsc 2 (1 - usual)) t) (if nat_eq t.registers.z 0 then usual else 1 - usual)
by_zero usual t ok = subst (λ (v : Machine). OnlyW v (run (choice_code usual Btfsc 2 (1 - usual)) v) (if nat_eq v.registers.z 0 then usual else 1 - usual)) (going_is t ok.going) (by_zero_at usual t.registers t.memory ok.carry ok.zero)

turn : (top : ℕ) (t : Machine) → Fine t → t.registers.w < 2 → OnlyW t (run (turn_code top) t) ((t.registers.w + t.memory top / 128) % 2)
turn top t ok w = subst (λ (v : Machine). OnlyW v (run (turn_code top) v) ((v.registers.w + v.memory top / 128) % 2)) (going_is t ok.going) (turn_at top t.registers t.memory (ok.bytes top) w ok.zero)

pub fine_w : (t u : Machine) (x : ℕ) → Fine t → OnlyW t u x → Fine u
fine_w t u x ok h = record { going = h.going; carry = subst (λ (c : ℕ). c < 2) (sym h.carry) ok.carry; zero = h.zero; bytes = λ a. subst (λ (b : ℕ). b < 256) (sym (h.same a)) (ok.bytes a) }

pub truth_is : (clearable : Bool) (to : Operand) (t : Machine) (x : ℕ) → (to 0 ≡ to 1 → ⊥) → x < 2 → t.registers.w ≡ x → Fine t → Truth t.memory (run (truth_code clearable to) t) to x
truth_is clearable to t x apart lt w ok =
    subst (λ (n : ℕ). Truth t.memory (run (truth_code clearable to) t) to n) w
    (subst (λ (v : Machine). Fine v → Truth t.memory (run (truth_code clearable to) v) to t.registers.w) (going_is t ok.going)
    (λ k. truth_at clearable to t.registers t.memory apart (subst (λ (n : ℕ). n < 2) (sym w) lt) k) ok)

-- the bytes from before a step that changes only W
pub truth_from : (m : Memory) (t u : Machine) (to : Operand) (x : ℕ) → ((a : ℕ) → t.memory a ≡ m a) → Truth t.memory u to x → Truth m u to x
truth_from m t u to x same h = record { fine = h.fine; low = h.low; high = h.high; others = λ a n0 n1. h.others a n0 n1 ∙ same a }

-- ---- order
-- 1 - usual where the left number is below, and turned round by each sign that counts
abbrev pub order_answer : ℕ → ℕ → ℕ → ℕ → ℕ
order_answer usual l r turns = ((if nat_lt l r then 1 - usual else usual) + turns) % 2

abbrev pub turns_of : Bool → ℕ → ℕ → ℕ
turns_of signed x y = if signed then x / 128 + y / 128 else 0

carry_tells : (p n l r c usual : ℕ) → n < p → n + r + p * c + 1 ≡ l + 1 + p → c < 2 → (if nat_eq c 1 then usual else 1 - usual) ≡ (if nat_lt l r then 1 - usual else usual)
carry_tells p n l r c usual lt e cs = elim (cases_lt c 1) [
  | inl x ↦ let z : c ≡ 0 = omega arith in let e2 : n + r + p * 0 + 1 ≡ l + 1 + p = subst (λ (y : ℕ). n + r + p * y + 1 ≡ l + 1 + p) z e in let below : l < r = omega (arith, e2) in grind (arith, nat_tests, below, z)
  | inr x ↦ let z : c ≡ 1 = omega arith in let e2 : n + r + p * 1 + 1 ≡ l + 1 + p = subst (λ (y : ℕ). n + r + p * y + 1 ≡ l + 1 + p) z e in let above : r ≤ l = omega (arith, e2) in grind (arith, nat_tests, above, z)
]

choice_small : (usual l r : ℕ) → usual < 2 → (if nat_lt l r then 1 - usual else usual) < 2
choice_small usual l r lt = grind (arith, nat_tests)

pub run4 : (ws xs ys zs : List Sym) (t : Machine) → run (((ws ++ xs) ++ ys) ++ zs) t ≡ run zs (run ys (run xs (run ws t)))
run4 ws xs ys zs t = run_append ((ws ++ xs) ++ ys) zs t ∙ ap (run zs) (run_append (ws ++ xs) ys t ∙ ap (run ys) (run_append ws xs t))

pub order : (clearable signed : Bool) (usual : ℕ) (to left right : Operand) (w : ℕ) → usual < 2 → 0 < w → (to 0 ≡ to 1 → ⊥) → (t : Machine) → Fine t →
    Truth t.memory (run (order_code clearable signed usual to left right w) t) to
    (order_answer usual (val (λ j. t.memory (left j)) w) (val (λ j. t.memory (right j)) w) (turns_of signed (t.memory (left (w - 1))) (t.memory (right (w - 1)))))
order clearable signed usual to left right w us wide apart t ok = by_sign signed
  where
    t1 : Machine
    t1 = run (links_code left right w) t

    h1 : Told t.memory t1 left right w
    h1 = told left right t ok w

    t2 : Machine
    t2 = run (choice_code usual Btfss 0 (1 - usual)) t1

    h2 : OnlyW t1 t2 (if nat_eq t1.registers.c 1 then usual else 1 - usual)
    h2 = by_carry usual t1 h1.fine

    f2 : Fine t2
    f2 = fine_w t1 t2 (if nat_eq t1.registers.c 1 then usual else 1 - usual) h1.fine h2

    l : ℕ
    l = val (λ j. t.memory (left j)) w

    r : ℕ
    r = val (λ j. t.memory (right j)) w

    carried_at : (k c : ℕ) → 0 < k → carried Difference k c ≡ c
    carried_at zero c lt = absurd (omega arith)
    carried_at (suc k) c lt = refl

    first : t2.registers.w ≡ (if nat_lt l r then 1 - usual else usual)
    first = h2.w ∙ carry_tells (256 ^ w) h1.number l r t1.registers.c usual h1.small (subst (λ (c : ℕ). h1.number + r + 256 ^ w * c + 1 ≡ l + 1 + 256 ^ w) (carried_at w t1.registers.c wide) h1.adds) h1.fine.carry

    small : (if nat_lt l r then 1 - usual else usual) < 2
    small = choice_small usual l r us

    same2 : (a : ℕ) → t2.memory a ≡ t.memory a
    same2 a = h2.same a ∙ h1.same a

    by_sign : (signed : Bool) → Truth t.memory (run (order_code clearable signed usual to left right w) t) to (order_answer usual l r (turns_of signed (t.memory (left (w - 1))) (t.memory (right (w - 1)))))
    by_sign false =
        let e : run (order_code clearable false usual to left right w) t ≡ run (truth_code clearable to) t2 =
        run4 (links_code left right w) (choice_code usual Btfss 0 (1 - usual)) [] (truth_code clearable to) t in
        subst (λ (v : Machine). Truth t.memory v to (order_answer usual l r 0)) (sym e)
        (truth_from t.memory t2 _ to _ same2 (truth_is clearable to t2 (order_answer usual l r 0) apart (omega arith) (first ∙ same_mod _ small) f2))
      where
        same_mod : (x : ℕ) → x < 2 → x ≡ (x + 0) % 2
        same_mod x lt = omega arith
    by_sign true =
        let t3 : Machine = run (turn_code (left (w - 1))) t2 in
        let h3 : OnlyW t2 t3 ((t2.registers.w + t2.memory (left (w - 1)) / 128) % 2) = turn (left (w - 1)) t2 f2 (subst (λ (n : ℕ). n < 2) (sym first) small) in
        let f3 : Fine t3 = fine_w t2 t3 _ f2 h3 in
        let t4 : Machine = run (turn_code (right (w - 1))) t3 in
        let h4 : OnlyW t3 t4 ((t3.registers.w + t3.memory (right (w - 1)) / 128) % 2) = turn (right (w - 1)) t3 f3 (subst (λ (n : ℕ). n < 2) (sym h3.w) (omega arith)) in
        let f4 : Fine t4 = fine_w t3 t4 _ f3 h4 in
        let e : run (order_code clearable true usual to left right w) t ≡ run (truth_code clearable to) t4 =
        run4 (links_code left right w) (choice_code usual Btfss 0 (1 - usual)) (turn_code (left (w - 1)) ++ turn_code (right (w - 1))) (truth_code clearable to) t
        ∙ ap (run (truth_code clearable to)) (run_append (turn_code (left (w - 1))) (turn_code (right (w - 1))) t2) in
        let is : t4.registers.w ≡ order_answer usual l r (t.memory (left (w - 1)) / 128 + t.memory (right (w - 1)) / 128) =
        twice _ _ _ _ _ _ _ _ first (same2 (left (w - 1))) (h3.same (right (w - 1)) ∙ same2 (right (w - 1))) h3.w h4.w in
        subst (λ (v : Machine). Truth t.memory v to (order_answer usual l r (t.memory (left (w - 1)) / 128 + t.memory (right (w - 1)) / 128))) (sym e)
        (truth_from t.memory t4 _ to _ (λ a. h4.same a ∙ h3.same a ∙ same2 a) (truth_is clearable to t4 _ apart (omega arith) is f4))
      where
        twice : (w2 w3 w4 x y a b c : ℕ) → w2 ≡ c → a ≡ x → b ≡ y → w3 ≡ (w2 + a / 128) % 2 → w4 ≡ (w3 + b / 128) % 2 → w4 ≡ (c + (x / 128 + y / 128)) % 2
        twice w2 w3 w4 x y a b c e f g h k = omega arith
