-- Division of numbers with and without sign.
use Rattle.std.proofs.Common.{◌≡◌, ℕ, ◌+◌, ◌-◌, ◌*◌, ◌/◌, ◌%◌, ◌^◌, ◌<◌, ◌≤◌, [], ◌∷◌, ◌++◌, refl, ap, sym, ◌∙◌, subst, arith, ◌⊎◌, inl, inr, bit_xor}
use Rattle.std.proofs.lemmas.Nat.{mod-mul-add, xor_lt}
use Rattle.std.proofs.lemmas.Nat.Bits.{bit_at_xor}
use Rattle.std.proofs.lemmas.Bool.{cases_lt}
use Rattle.std.proofs.lemmas.Bool.Decides.{nat_tests}
use Rattle.sym_code.specs.Effect.{Memory}
use Rattle.select_trace.specs.Run.{Machine, Row, Movwf, going, run}
use Rattle.sym_code.specs.declared.code.Into.TheVariants.{W}
use Rattle.sym_code.specs.Registers.{Registers}
use Rattle.sym_code.specs.declared.code.FileOperation.TheVariants.{Movf, Xorwf}
use Rattle.select_trace.specs.Links.{Fine}
use Rattle.select_trace.specs.Helpers.{Layout, Value, Left, Right, Remainder, Spare, Answer, Answers, each, AreApart, negate_if_code, Part, Quotient, Rest, part_value, sign_code, magnitudes_code}
use Rattle.select_trace.specs.Steps.{number_of, Steps}
use Rattle.select_trace.specs.Shifts.{IsTop}
use Rattle.select_trace.specs.Division.{DivideRuns}
use Rattle.select_trace.specs.SignedDivision.{HasSign, IsMagnitude, answer_sign, part_of, DivisionRuns, SignedDivisionRuns}
use Rattle.select_trace.proofs.Vals.{run_append, going_is, val_same}
use Rattle.select_trace.proofs.Stays.{number_below}
use Rattle.select_trace.proofs.Division.{divide, keeps}
use Rattle.select_trace.proofs.ShiftRight.{top_bit}
use Rattle.select_trace.proofs.Shift.{answer_is}
use Rattle.select_trace.proofs.Negate.{NegatesIf, negate_if}

answer≢part : (part : Part) → Answer ≡ part_value part → ⊥
answer≢part Quotient e = cc
answer≢part Rest e = cc

right≢left : Right ≡ Left → ⊥
right≢left e = cc

left≢right : Left ≡ Right → ⊥
left≢right e = cc

left≢spare : Left ≡ Spare → ⊥
left≢spare e = cc

right≢spare : Right ≡ Spare → ⊥
right≢spare e = cc

spare≢left : Spare ≡ Left → ⊥
spare≢left e = cc

spare≢right : Spare ≡ Right → ⊥
spare≢right e = cc

spare≢remainder : Spare ≡ Remainder → ⊥
spare≢remainder e = cc

part_is : (l : Layout) (part : Part) (t u : Machine) → DivideRuns l t u → 0 < number_of l t Right → number_of l u (part_value part) ≡ part_of part (number_of l t Left) (number_of l t Right)
part_is l Quotient t u h pos = h.quotient pos
part_is l Rest t u h pos = h.remainder pos

pub division : (l : Layout) → AreApart l → 0 < l.width → 8 * l.width < 256 → (part : Part) (t : Machine) → Fine t → (v : Machine) × DivisionRuns l part t v
division l apart wide narrow part t ok =
    let d = divide l apart wide narrow t ok in
    let a = answer_is l apart (part_value part) (answer≢part part) d.0 d.1.fine in (
      run (each l (Answers (part_value part))) d.0,
      record {
        inner = d.0;
        divides = d.1;
        ends = refl;
        fine = a.1.fine;
        answer = λ pos. a.0 ∙ part_is l part t d.0 d.1 pos;
      },
    )

-- ---- the sign
pub record Signs (s : ℕ) (t u : Machine) (n : ℕ) : Type 0 where
  pub fine : Fine u
  pub others : (a : ℕ) → (a ≡ s → ⊥) → u.memory a ≡ t.memory a
  pub bit : u.memory s / 128 % 2 ≡ n

abbrev bit7 : ℕ → ℕ
bit7 x = x / 128 % 2

abbrev signs_of : Layout → Part → Memory → ℕ
signs_of l part m = answer_sign part (bit7 (m (l.at Left (l.width - 1)))) (bit7 (m (l.at Right (l.width - 1))))

xor_bits : (a b : ℕ) → bit_xor a b / 128 % 2 ≡ (a / 128 % 2 + b / 128 % 2) % 2
xor_bits a b = bit_at_xor a b 7

sign_at : (l : Layout) (part : Part) (r : Registers) (m : Memory) → Fine (going r m) → Signs (l.at Spare 1) (going r m) (run (sign_code l part) (going r m)) (signs_of l part m)
sign_at l Quotient r m ok =
    quotient r m (l.at Left (l.width - 1)) (l.at Right (l.width - 1)) (l.at Spare 1) ok
  where
    quotient : (r : Registers) (m : Memory) (p q s : ℕ) → Fine (going r m) → Signs s (going r m) (run (Row Movf p W ∷ Row Xorwf q W ∷ Movwf s ∷ []) (going r m)) ((bit7 (m p) + bit7 (m q)) % 2)
    quotient r m p q s ok =
        let lt : bit_xor (m p) (m q) < 256 = xor_lt 8 (m p) (m q) (ok.bytes p) (ok.bytes q) in
        record {
          fine = record { going = refl; carry = ok.carry; zero = grind (arith, nat_tests); bytes = λ a. grind (arith, nat_tests, ok.bytes a, lt) };
          others = λ a ne. grind (arith, nat_tests);
          bit = grind (arith, nat_tests, xor_bits (m p) (m q));
        }
sign_at l Rest r m ok = rest r m (l.at Left (l.width - 1)) (l.at Spare 1) ok
  where
    rest : (r : Registers) (m : Memory) (p s : ℕ) → Fine (going r m) → Signs s (going r m) (run (Row Movf p W ∷ Movwf s ∷ []) (going r m)) (bit7 (m p))
    rest r m p s ok =
        record {
          fine = record { going = refl; carry = ok.carry; zero = grind (arith, nat_tests); bytes = λ a. grind (arith, nat_tests, ok.bytes a, ok.bytes p) };
          others = λ a ne. grind (arith, nat_tests);
          bit = grind (arith, nat_tests);
        }

pub signs : (l : Layout) (part : Part) (t : Machine) → Fine t → Signs (l.at Spare 1) t (run (sign_code l part) t) (signs_of l part t.memory)
signs l part t ok = subst (λ (v : Machine). Fine v → Signs (l.at Spare 1) v (run (sign_code l part) v) (signs_of l part v.memory)) (going_is t ok.going) (λ k. sign_at l part t.registers t.memory k) ok

-- the highest bit is the sign
top_is : (x b n s : ℕ) → ((128 ≤ x) × (b ≤ 2 * n)) ⊎ ((x < 128) × (2 * n < b)) → x < 256 → IsTop b n s → bit7 x ≡ s
top_is x b n s h lt t = elim h [
  | inl hi ↦ elim t [ inl one ↦ (omega (arith, hi.0)) ∙ sym one.0 | inr none ↦ absurd (omega (arith, hi.1, none.1)) ]
  | inr lo ↦ elim t [ inl one ↦ absurd (omega (arith, lo.1, one.1)) | inr none ↦ (omega (arith, lo.0)) ∙ sym none.0 ]
]

-- where the byte's highest bit says so, the magnitude is the other number
magnitude : (x b n m : ℕ) → ((128 ≤ x) × (b ≤ 2 * n)) ⊎ ((x < 128) × (2 * n < b)) → n < b → 0 < b → (x < 128 → m ≡ n) → (128 ≤ x → m ≡ (b - n) % b) → IsMagnitude b n m
magnitude x b n m h lt pos stays turns = elim h [
  | inl hi ↦ let e : b - n ≡ 0 * b + (b - n) = omega arith in
      let small : b - n < b = omega (arith, hi.1) in
      let is : m ≡ b - n = turns hi.0 ∙ ap (λ z. z % b) e ∙ mod-mul-add 0 b (b - n) small in
      inr (hi.1, omega arith)
  | inr lo ↦ inl (lo.1, stays lo.0)
]

has_sign : (x b s m a : ℕ) → x < 256 → bit7 x ≡ s → (x < 128 → a ≡ m) → (128 ≤ x → a ≡ (b - m) % b) → HasSign b s m a
has_sign x b s m a lt e stays turns = elim (cases_lt x 128) [
  | inl l ↦ inl (sym e ∙ omega arith, stays l)
  | inr g ↦ inr (sym e ∙ omega arith, turns g)
]

positive : (b n m : ℕ) → IsMagnitude b n m → 0 < n → n < b → 0 < m
positive b n m h pos lt = elim h [ inl x ↦ omega (arith, x.1) | inr x ↦ omega (arith, x.1) ]

-- what was tested stands in a byte of its own
record Middle (l : Layout) (part : Part) (t u : Machine) : Type 0 where
  fine : Fine u
  sign : u.memory (l.at Spare 1) / 128 % 2 ≡ signs_of l part t.memory
  left : IsMagnitude (256 ^ l.width) (number_of l t Left) (number_of l u Left)
  right : IsMagnitude (256 ^ l.width) (number_of l t Right) (number_of l u Right)

middle_of : (l : Layout) → AreApart l → 1 < l.width → (part : Part) (t : Machine) → Fine t → Middle l part t (run (sign_code l part ++ magnitudes_code l) t)
middle_of l apart wide part t ok =
    subst (λ (u : Machine). Middle l part t u) (sym (run_append (sign_code l part) (magnitudes_code l) t ∙ run_append (negate_if_code l (l.at Left (l.width - 1)) Left 3) (negate_if_code l (l.at Right (l.width - 1)) Right 4) t1)) (record {
      fine = h3.steps.fine;
      sign = ap bit7 (spare l apart wide t2 t3 Right spare≢right h3.steps ∙ spare l apart wide t1 t2 Left spare≢left h2.steps) ∙ h1.bit;
      left = rw (keeps l apart t2 t3 Right h3.steps Left left≢right) (rw (same1 Left left≢spare) at
          (magnitude (t1.memory (l.at Left (l.width - 1))) (256 ^ l.width) (number_of l t1 Left) (number_of l t2 Left) (top_bit (λ j. t1.memory (l.at Left j)) l.width (omega arith) (λ j lt. h1.fine.bytes (l.at Left j))) (number_below l t1 h1.fine Left) (omega (arith, number_below l t1 h1.fine Left)) h2.stays h2.turns));
      right = rw (same1 Right right≢spare) at (rw (keeps l apart t1 t2 Left h2.steps Right right≢left) at
          (magnitude (t2.memory (l.at Right (l.width - 1))) (256 ^ l.width) (number_of l t2 Right) (number_of l t3 Right) (top_bit (λ j. t2.memory (l.at Right j)) l.width (omega arith) (λ j lt. h2.steps.fine.bytes (l.at Right j))) (number_below l t2 h2.steps.fine Right) (omega (arith, number_below l t2 h2.steps.fine Right)) h3.stays h3.turns));
    })
  where
    t1 : Machine
    t1 = run (sign_code l part) t

    h1 : Signs (l.at Spare 1) t t1 (signs_of l part t.memory)
    h1 = signs l part t ok

    t2 : Machine
    t2 = run (negate_if_code l (l.at Left (l.width - 1)) Left 3) t1

    h2 : NegatesIf l (t1.memory (l.at Left (l.width - 1))) t1 t2 Left
    h2 = negate_if l apart (omega arith) (l.at Left (l.width - 1)) 3 Left t1 h1.fine

    t3 : Machine
    t3 = run (negate_if_code l (l.at Right (l.width - 1)) Right 4) t2

    h3 : NegatesIf l (t2.memory (l.at Right (l.width - 1))) t2 t3 Right
    h3 = negate_if l apart (omega arith) (l.at Right (l.width - 1)) 4 Right t2 h2.steps.fine

    same1 : (v : Value) → (v ≡ Spare → ⊥) → number_of l t1 v ≡ number_of l t v
    same1 v ne = val_same _ _ l.width (λ j lt. h1.others (l.at v j) (λ e. apart.between v Spare ne j 1 lt wide e))

    spare : (l : Layout) → AreApart l → 1 < l.width → (t u : Machine) (v : Value) → (Spare ≡ v → ⊥) → Steps l t u v → u.memory (l.at Spare 1) ≡ t.memory (l.at Spare 1)
    spare l apart wide t u v ne h = h.others (l.at Spare 1) (λ j lt e. apart.between Spare v ne 1 j wide lt e)

pub signed_division : (l : Layout) → AreApart l → 1 < l.width → 8 * l.width < 256 → (part : Part) (t : Machine) → Fine t → (v : Machine) × SignedDivisionRuns l part t v
signed_division l apart wide narrow part t ok = (
  v,
  record {
    middle = u;
    begins = refl;
    inner = d.0;
    divides = d.1;
    ends = refl;
    fine = subst (λ (x : Machine). Fine x) (sym joined) a.1.fine;
    left = number_of l u Left;
    right = number_of l u Right;
    left_is = m.left;
    right_is = m.right;
    answer = λ s r left right pos.
        let more : 0 < number_of l u Right = positive _ _ _ m.right pos (number_below l t ok Right) in
        let spare : d.0.memory (l.at Spare 1) ≡ u.memory (l.at Spare 1) = d.1.spares (l.at Spare 1) (λ j lt e. apart.between Spare Left spare≢left 1 j wide lt e) (λ j lt e. apart.between Spare Remainder spare≢remainder 1 j wide lt e) (λ e. apart.within Spare 0 1 (omega arith) wide (sym e)) in
        let sign : bit7 (d.0.memory (l.at Spare 1)) ≡ answer_sign part s r =
        ap bit7 spare ∙ m.sign ∙ signs_are part _ _ s r (top_is _ _ _ s (tops Left) (ok.bytes (l.at Left (l.width - 1))) left) (top_is _ _ _ r (tops Right) (ok.bytes (l.at Right (l.width - 1))) right) in
        let h : HasSign (256 ^ l.width) (answer_sign part s r) (number_of l d.0 (part_value part)) (number_of l w (part_value part)) = has_sign (d.0.memory (l.at Spare 1)) _ _ _ _ (d.1.fine.bytes (l.at Spare 1)) sign n.stays n.turns in
        subst (λ (x : Machine). HasSign (256 ^ l.width) (answer_sign part s r) (part_of part (number_of l u Left) (number_of l u Right)) (number_of l x Answer)) (sym joined)
        (rw (a.0) (rw (part_is l part u d.0 d.1 more) at h));
  },
)
  where
    u : Machine
    u = run (sign_code l part ++ magnitudes_code l) t

    m : Middle l part t u
    m = middle_of l apart wide part t ok

    d : (v : Machine) × DivideRuns l u v
    d = divide l apart (omega arith) narrow u m.fine

    w : Machine
    w = run (negate_if_code l (l.at Spare 1) (part_value part) 5) d.0

    n : NegatesIf l (d.0.memory (l.at Spare 1)) d.0 w (part_value part)
    n = negate_if l apart (omega arith) (l.at Spare 1) 5 (part_value part) d.0 d.1.fine

    a : (number_of l (run (each l (Answers (part_value part))) w) Answer ≡ number_of l w (part_value part)) × (Steps l w (run (each l (Answers (part_value part))) w) Answer)
    a = answer_is l apart (part_value part) (answer≢part part) w n.steps.fine

    v : Machine
    v = run (negate_if_code l (l.at Spare 1) (part_value part) 5 ++ each l (Answers (part_value part))) d.0

    joined : v ≡ run (each l (Answers (part_value part))) w
    joined = run_append (negate_if_code l (l.at Spare 1) (part_value part) 5) (each l (Answers (part_value part))) d.0

    tops : (x : Value) → ((128 ≤ t.memory (l.at x (l.width - 1))) × (256 ^ l.width ≤ 2 * number_of l t x)) ⊎ ((t.memory (l.at x (l.width - 1)) < 128) × (2 * number_of l t x < 256 ^ l.width))
    tops x = top_bit (λ j. t.memory (l.at x j)) l.width (omega arith) (λ j lt. ok.bytes (l.at x j))

    signs_are : (part : Part) (x y s r : ℕ) → x ≡ s → y ≡ r → answer_sign part x y ≡ answer_sign part s r
    signs_are part x y s r a b = rw (a, b) refl
