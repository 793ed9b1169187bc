-- Products bit by bit.
use Rattle.std.proofs.Common.{◌≡◌, ℕ, zero, suc, ◌+◌, ◌-◌, ◌*◌, ◌%◌, ◌^◌, ◌<◌, ◌≤◌, List, [], ◌∷◌, ◌++◌, append_assoc, refl, ap, sym, ◌∙◌, subst, arith, ◌⊎◌, inl, inr}
use Rattle.std.proofs.Math.Nat.{pow-succ'}
use Rattle.std.proofs.lemmas.Nat.{mod-mul-add, mul-le, same_from_place}
use Rattle.std.proofs.lemmas.Bool.{cases_lt}
use Rattle.sym_code.specs.Effect.{Memory}
use Rattle.select_trace.specs.Run.{Machine, Sym, Flag, Goto, Label, going, run, Going}
use Rattle.sym_code.specs.declared.code.BitOperation.TheVariants.{Bcf, Btfss}
use Rattle.sym_code.specs.Registers.{Registers}
use Rattle.select_trace.specs.Links.{Fine}
use Rattle.select_trace.specs.Loops.{Loops}
use Rattle.select_trace.specs.Helpers.{Layout, Value, Left, Right, Answer, Spare, Clear, ShiftLeft, Add, each, AreApart, product_round, rounds_code, round_end_code}
use Rattle.select_trace.specs.Steps.{number_of, Steps, Stays}
use Rattle.select_trace.specs.Products.{Multiplies, Multiplied, SparesLeft, ProductRuns}
use Rattle.select_trace.proofs.Vals.{run_append, going_is, val_same}
use Rattle.select_trace.proofs.RoutineSteps.{shift_left, clear, add}
use Rattle.select_trace.proofs.Stays.{stays_of, stays_then, kept_byte, number_below, seeking, past}
use Rattle.select_trace.proofs.CountedLoops.{Counts, looped}
use Rattle.select_trace.proofs.Division.{span, Started, started, keeps}

-- ---- numbers
out : (b p s low bit m x c : ℕ) → p * (2 * s) ≡ b → low < s → m < 2 * p → x + b * c ≡ (bit * s + low) * (2 * p) + m → x < b → (c ≡ bit) × (x ≡ low * (2 * p) + m)
out b p s low bit m x c scale small ms e xs =
    let top : suc low * (2 * p) ≤ s * (2 * p) = mul-le (suc low) (2 * p) s (2 * p) small (omega arith) in
    let below : low * (2 * p) + m < b = omega (arith, top, scale) in
    let bs : bit * (p * (2 * s)) ≡ bit * b = ap (λ z. bit * z) scale in
    let is : c * b + x ≡ bit * b + (low * (2 * p) + m) = omega (arith, bs, e) in
    same_from_place c x bit (low * (2 * p) + m) b xs below is

finish : (n d b p s low high below over bit left1 ca a1 c1 a2 a : ℕ) → p * (2 * s) ≡ b → low < s → below < p → ca < 2 → n ≡ high * (2 * s) + (bit * s + low) → left1 ≡ low * (2 * p) + (2 * below + ca) →
    a + b * over ≡ high * d → a1 + b * ca ≡ 2 * a → a2 + b * c1 ≡ a1 + bit * d → Multiplies n d b (2 * p) s left1 a2
finish n d b p s low high below over bit left1 ca a1 c1 a2 a scale small bs cs split left product doubled added = record {
  low = low;
  high = 2 * high + bit;
  below = 2 * below + ca;
  over = c1 + ca + 2 * over;
  scale = omega (arith, scale);
  low_small = small;
  below_small = omega arith;
  split = omega (arith, split);
  left_is = left;
  product = omega (arith, product, doubled, added);
}

round : (n d b p s left a left1 cl a1 ca a2 c2 : ℕ) → Multiplies n d b p (2 * s) left a → ca < 2 → a1 + b * ca ≡ 2 * a → left1 + b * cl ≡ 2 * left + ca → left1 < b → a2 + b * c2 ≡ a1 + cl * d → Multiplies n d b (2 * p) s left1 a2
round n d b p s left a left1 cl a1 ca a2 c2 h cs doubled shift small added = elim (cases_lt h.low s) [
  | inl lt ↦
      let e : left1 + b * cl ≡ (0 * s + h.low) * (2 * p) + (2 * h.below + ca) = omega (arith, shift, h.left_is) in
      let o = out b p s h.low 0 (2 * h.below + ca) left1 cl h.scale lt (omega (arith, h.below_small, cs)) e small in
      finish n d b p s h.low h.high h.below h.over 0 left1 ca a1 c2 a2 a h.scale lt h.below_small cs (h.split ∙ ap (λ z. h.high * (2 * s) + z) (omega arith)) o.1 h.product doubled (added ∙ ap (λ z. a1 + z * d) o.0)
  | inr ge ↦
      let low : ℕ = h.low - s in
      let is : h.low ≡ 1 * s + low = omega arith in
      let lt : low < s = omega (arith, h.low_small) in
      let l2 : left ≡ (1 * s + low) * p + h.below = h.left_is ∙ ap (λ z. z * p + h.below) is in
      let e : left1 + b * cl ≡ (1 * s + low) * (2 * p) + (2 * h.below + ca) = omega (arith, shift, l2) in
      let o = out b p s low 1 (2 * h.below + ca) left1 cl h.scale lt (omega (arith, h.below_small, cs)) e small in
      finish n d b p s low h.high h.below h.over 1 left1 ca a1 c2 a2 a h.scale lt h.below_small cs (h.split ∙ ap (λ z. h.high * (2 * s) + z) is) o.1 h.product doubled (added ∙ ap (λ z. a1 + z * d) o.0)
]

ended : (n d b p left a : ℕ) → Multiplies n d b p 1 left a → a < b → a ≡ (n * d) % b
ended n d b p left a h small =
    let zero : h.low ≡ 0 = omega (arith, h.low_small) in
    let high : n ≡ h.high = omega (arith, h.split, zero) in
    let is : n * d ≡ h.over * b + a = ap (λ z. z * d) high ∙ sym h.product ∙ omega arith in
    sym (ap (λ z. z % b) is ∙ mod-mul-add h.over b a small)

-- ---- the code of a round
abbrev Two : Value → Type 0
Two v = (v ≡ Left) ⊎ (v ≡ Answer)

right≢left : Right ≡ Left → ⊥
right≢left e = cc

right≢answer : Right ≡ Answer → ⊥
right≢answer e = cc

right≢spare : Right ≡ Spare → ⊥
right≢spare e = cc

spare≢left : Spare ≡ Left → ⊥
spare≢left e = cc

spare≢answer : Spare ≡ Answer → ⊥
spare≢answer e = cc

left≢answer : Left ≡ Answer → ⊥
left≢answer e = cc

left≢spare : Left ≡ Spare → ⊥
left≢spare e = cc

answer≢left : Answer ≡ Left → ⊥
answer≢left e = cc

answer≢spare : Answer ≡ Spare → ⊥
answer≢spare e = cc

-- the right operand is added where the carry is 1
record Adds (l : Layout) (t u : Machine) : Type 0 where
  steps : Steps l t u Answer
  over : ℕ
  added : number_of l u Answer + 256 ^ l.width * over ≡ number_of l t Answer + t.registers.c * number_of l t Right

abbrev add_if : Layout → List Sym
add_if l = (Flag Btfss 0 ∷ Goto 1 ∷ []) ++ (each l Add ++ (Label 1 ∷ []))

add_if_at : (l : Layout) → AreApart l → 0 < l.width → (r : Registers) (m : Memory) → Fine (going r m) → Adds l (going r m) (run (add_if l) (going r m))
add_if_at l apart wide r m ok = elim (cases_lt r.c 1) [
  | inl lt ↦
      let c : r.c ≡ 0 = omega arith in
      subst (λ (v : Machine). Adds l (going r m) v) (sym (misses l r m c)) (record {
        steps = record { fine = ok; others = λ a no. refl };
        over = 0;
        added = none _ _ _ _ c;
      })
  | inr ge ↦
      let c : r.c ≡ 1 = omega (arith, ok.carry) in
      let h = add l apart wide (going r m) ok in
      subst (λ (v : Machine). Adds l (going r m) v) (sym (hits l r m c h.1.fine)) (record {
        steps = h.1;
        over = (run (each l Add) (going r m)).registers.c;
        added = one _ _ _ _ _ _ c h.0;
      })
]
  where
    none : (a b d c : ℕ) → c ≡ 0 → a + b * 0 ≡ a + c * d
    none a b d c e = rw e (omega arith)

    one : (x b y a d c : ℕ) → c ≡ 1 → x + b * y ≡ a + d → x + b * y ≡ a + c * d
    one x b y a d c e h = rw e (omega (arith, h))

    misses : (l : Layout) (r : Registers) (m : Memory) → r.c ≡ 0 → run (add_if l) (going r m) ≡ going r m
    misses l r m c =
        let begin : run (Flag Btfss 0 ∷ Goto 1 ∷ []) (going r m) ≡ seeking 1 r m = rw c refl in
        run_append (Flag Btfss 0 ∷ Goto 1 ∷ []) (each l Add ++ (Label 1 ∷ [])) (going r m) ∙ ap (run (each l Add ++ (Label 1 ∷ []))) begin
        ∙ run_append (each l Add) (Label 1 ∷ []) (seeking 1 r m) ∙ ap (run (Label 1 ∷ [])) (past l Add l.width 1 r m)

    label : (n : ℕ) (u : Machine) → u.mode ≡ Going → run (Label n ∷ []) u ≡ u
    label n u is = subst (λ (v : Machine). run (Label n ∷ []) v ≡ v) (going_is u is) refl

    hits : (l : Layout) (r : Registers) (m : Memory) → r.c ≡ 1 → Fine (run (each l Add) (going r m)) → run (add_if l) (going r m) ≡ run (each l Add) (going r m)
    hits l r m c ok =
        let begin : run (Flag Btfss 0 ∷ Goto 1 ∷ []) (going r m) ≡ going r m = rw c refl in
        run_append (Flag Btfss 0 ∷ Goto 1 ∷ []) (each l Add ++ (Label 1 ∷ [])) (going r m) ∙ ap (run (each l Add ++ (Label 1 ∷ []))) begin
        ∙ run_append (each l Add) (Label 1 ∷ []) (going r m) ∙ label 1 (run (each l Add) (going r m)) ok.going

adds_if : (l : Layout) → AreApart l → 0 < l.width → (t : Machine) → Fine t → Adds l t (run (add_if l) t)
adds_if l apart wide t ok = subst (λ (v : Machine). Fine v → Adds l v (run (add_if l) v)) (going_is t ok.going) (λ k. add_if_at l apart wide t.registers t.memory k) ok

bracketed : (l : Layout) → product_round l ≡ (Flag Bcf 0 ∷ []) ++ (each l (ShiftLeft Answer) ++ (each l (ShiftLeft Left) ++ add_if l))
bracketed l = simp append_assoc

run4 : (ws xs ys zs : List Sym) (t : Machine) → run (ws ++ (xs ++ (ys ++ zs))) t ≡ run zs (run ys (run xs (run ws t)))
run4 ws xs ys zs t = run_append ws (xs ++ (ys ++ zs)) t ∙ run_append xs (ys ++ zs) (run ws t) ∙ run_append ys zs (run xs (run ws t))

abbrev pub cleared : Machine → Machine
cleared t = record t { registers = record t.registers { c = 0 } }

pub clears_carry : (t : Machine) → t.mode ≡ Going → run (Flag Bcf 0 ∷ []) t ≡ cleared t
clears_carry t is = subst (λ (v : Machine). run (Flag Bcf 0 ∷ []) v ≡ cleared v) (going_is t is) refl

record Rounds (l : Layout) (t u : Machine) : Type 0 where
  stays : Stays l t u Two
  left : ℕ
  cl : ℕ
  a1 : ℕ
  ca : ℕ
  c2 : ℕ
  left_is : number_of l u Left ≡ left
  small : ca < 2
  doubled : a1 + 256 ^ l.width * ca ≡ 2 * number_of l t Answer
  shift : left + 256 ^ l.width * cl ≡ 2 * number_of l t Left + ca
  added : number_of l u Answer + 256 ^ l.width * c2 ≡ a1 + cl * number_of l t Right

rounds : (l : Layout) → AreApart l → 0 < l.width → (t : Machine) → Fine t → Rounds l t (run (product_round l) t)
rounds l apart wide t ok =
    let t0 : Machine = cleared t in
    let f0 : Fine t0 = record { going = ok.going; carry = omega arith; zero = ok.zero; bytes = ok.bytes } in
    let t1 : Machine = run (each l (ShiftLeft Answer)) t0 in
    let h1 = shift_left l apart Answer t0 f0 in
    let t2 : Machine = run (each l (ShiftLeft Left)) t1 in
    let h2 = shift_left l apart Left t1 h1.1.fine in
    let t3 : Machine = run (add_if l) t2 in
    let h3 : Adds l t2 t3 = adds_if l apart wide t2 h2.1.fine in
    let is : run (product_round l) t ≡ t3 =
    ap (λ xs. run xs t) (bracketed l) ∙ run4 (Flag Bcf 0 ∷ []) (each l (ShiftLeft Answer)) (each l (ShiftLeft Left)) (add_if l) t
    ∙ ap (λ v. run (add_if l) (run (each l (ShiftLeft Left)) (run (each l (ShiftLeft Answer)) v))) (clears_carry t ok.going) in
    let r2 : number_of l t2 Right ≡ number_of l t Right = keeps l apart t1 t2 Left h2.1 Right right≢left ∙ keeps l apart t0 t1 Answer h1.1 Right right≢answer in
    let a2 : number_of l t2 Answer ≡ number_of l t1 Answer = keeps l apart t1 t2 Left h2.1 Answer answer≢left in
    let l1 : number_of l t1 Left ≡ number_of l t Left = keeps l apart t0 t1 Answer h1.1 Left left≢answer in
    let l3 : number_of l t3 Left ≡ number_of l t2 Left = keeps l apart t2 t3 Answer h3.steps Left left≢answer in
    subst (λ (u : Machine). Rounds l t u) (sym is) (record {
      stays = stays_then l t t2 t3 (stays_then l t t1 t2 (record { fine = h1.1.fine; others = λ a no. h1.1.others a (λ j lt e. no Answer (inr refl) j lt e) }) (stays_of l t1 t2 Left (inl refl) h2.1)) (stays_of l t2 t3 Answer (inr refl) h3.steps);
      left = number_of l t2 Left;
      cl = t2.registers.c;
      a1 = number_of l t1 Answer;
      ca = t1.registers.c;
      c2 = h3.over;
      left_is = l3;
      small = h1.1.fine.carry;
      doubled = h1.0 ∙ omega arith;
      shift = h2.0 ∙ ap (λ x. 2 * x + t1.registers.c) l1;
      added = h3.added ∙ ap (λ x. x + t2.registers.c * number_of l t2 Right) a2 ∙ ap (λ x. number_of l t1 Answer + t2.registers.c * x) r2;
    })

right_kept : (l : Layout) → AreApart l → 0 < l.width → (t u : Machine) → SparesLeft l t u → number_of l u Right ≡ number_of l t Right
right_kept l apart wide t u h = val_same _ _ l.width (λ j lt. h (l.at Right j) (λ i lti e. apart.between Right Left right≢left j i lt lti e) (λ i lti e. apart.between Right Answer right≢answer j i lt lti e) (λ e. apart.between Right Spare right≢spare j 0 lt wide e))

multiplied_more : (l : Layout) → AreApart l → 0 < l.width → (t0 : Machine) (i : ℕ) (t : Machine) → i < 8 * l.width → Fine t → Multiplied l t0 i t →
    (fine : Fine (run (product_round l) t)) × (Multiplied l t0 (suc i) (run (product_round l) t)) × ((run (product_round l) t).memory (l.at Spare 0) ≡ t.memory (l.at Spare 0))
multiplied_more l apart wide t0 i t lt ok h = go h.rounds h.all refl
  where
    to_next : (n d b p s left a left1 cl a1 ca a2 c2 ps ss left2 : ℕ) → ps ≡ 2 * p → ss ≡ 2 * s → left2 ≡ left1 → Multiplies n d b p ss left a → ca < 2 → a1 + b * ca ≡ 2 * a → left1 + b * cl ≡ 2 * left + ca → left2 < b → a2 + b * c2 ≡ a1 + cl * d → Multiplies n d b ps s left2 a2
    to_next n d b p s left a left1 cl a1 ca a2 c2 ps ss left2 ep es el h cs doubled shift small added =
        let r = round n d b p s left a left1 cl a1 ca a2 c2 (subst (λ (x : ℕ). Multiplies n d b p x left a) es h) cs doubled shift (rw el at small) added in
        rw (ep, el) r

    not_two : (v : Value) → Two v → Spare ≡ v → ⊥
    not_two v m e = elim m [ inl a ↦ spare≢left (e ∙ a) | inr b ↦ spare≢answer (e ∙ b) ]

    go : (n : ℕ) → i + n ≡ 8 * l.width → n ≡ h.rounds →
        (fine : Fine (run (product_round l) t)) × (Multiplied l t0 (suc i) (run (product_round l) t)) × ((run (product_round l) t).memory (l.at Spare 0) ≡ t.memory (l.at Spare 0))
    go zero all is = absurd (omega arith)
    go (suc n) all is =
        let u : Machine = run (product_round l) t in
        let r : Rounds l t u = rounds l apart wide t ok in
        let d : number_of l t Right ≡ number_of l t0 Right = right_kept l apart wide t0 t h.spares in (
          r.stays.fine,
          record {
            spares = λ a nl nr ns. r.stays.others a (λ v m j ltj e. elim m [ inl x ↦ nl j ltj (e ∙ ap (λ y. l.at y j) x) | inr x ↦ nr j ltj (e ∙ ap (λ y. l.at y j) x) ]) ∙ h.spares a nl nr ns;
            rounds = n;
            all = omega arith;
            multiplies = to_next (number_of l t0 Left) (number_of l t0 Right) (256 ^ l.width) (2 ^ i) (2 ^ n) (number_of l t Left) (number_of l t Answer) r.left r.cl r.a1 r.ca (number_of l u Answer) r.c2 (2 ^ suc i) (2 ^ h.rounds) (number_of l u Left)
                (pow-succ' 2 i) (ap (λ k. 2 ^ k) (sym is) ∙ pow-succ' 2 n) r.left_is h.multiplies r.small r.doubled r.shift (number_below l u r.stays.fine Left) (r.added ∙ ap (λ x. r.a1 + r.cl * x) d);
          },
          kept_byte l apart t u r.stays Spare not_two 0 wide,
        )

multiplied_stable : (l : Layout) → AreApart l → 0 < l.width → (t0 : Machine) (i : ℕ) (t u : Machine) → Multiplied l t0 i t → Counts t u (l.at Spare 0) → Multiplied l t0 i u
multiplied_stable l apart wide t0 i t u h c =
    let left : number_of l u Left ≡ number_of l t Left = val_same _ _ l.width (λ j lt. c.others (l.at Left j) (λ e. apart.between Left Spare left≢spare j 0 lt wide e)) in
    let answer : number_of l u Answer ≡ number_of l t Answer = val_same _ _ l.width (λ j lt. c.others (l.at Answer j) (λ e. apart.between Answer Spare answer≢spare j 0 lt wide e)) in
    record {
      spares = λ a nl nr ns. c.others a ns ∙ h.spares a nl nr ns;
      rounds = h.rounds;
      all = h.all;
      multiplies = same _ _ _ _ _ _ _ _ _ left answer h.multiplies;
    }
  where
    same : (n d b p s left a left1 a1 : ℕ) → left1 ≡ left → a1 ≡ a → Multiplies n d b p s left a → Multiplies n d b p s left1 a1
    same n d b p s left a left1 a1 e1 e2 h = rw (e1, e2) h

pub multiply : (l : Layout) → AreApart l → 0 < l.width → 8 * l.width < 256 → (t : Machine) → Fine t → (v : Machine) × ProductRuns l t v
multiply l apart wide narrow t ok = (
  v,
  record {
    rounds = n;
    as_bits = is;
    begins = ap (λ (x : Machine). x.mode) joined ∙ second.fine.going;
    loops = subst (λ (x : Machine). Loops 0 (product_round l ++ round_end_code l Spare 0) n x v) (sym joined) all.1;
    fine = all.2;
    spares = all.3.spares;
    answer = whole;
  },
)
  where
    n : ℕ
    n = 8 * l.width - 1

    is : suc n ≡ 8 * l.width
    is = omega arith

    first : (number_of l (run (each l (Clear Answer)) t) Answer ≡ 0) × (Steps l t (run (each l (Clear Answer)) t) Answer)
    first = clear l apart Answer t ok

    t1 : Machine
    t1 = run (each l (Clear Answer)) t

    t2 : Machine
    t2 = run (rounds_code l) t1

    joined : run (each l (Clear Answer) ++ rounds_code l) t ≡ t2
    joined = run_append (each l (Clear Answer)) (rounds_code l) t

    second : Started t1 t2 (l.at Spare 0) (8 * l.width)
    second = started l t1 first.1.fine narrow

    left : number_of l t2 Left ≡ number_of l t Left
    left = val_same _ _ l.width (λ j lt. second.others (l.at Left j) (λ e. apart.between Left Spare left≢spare j 0 lt wide e)) ∙ keeps l apart t t1 Answer first.1 Left left≢answer

    none : number_of l t2 Answer ≡ 0
    none = val_same _ _ l.width (λ j lt. second.others (l.at Answer j) (λ e. apart.between Answer Spare answer≢spare j 0 lt wide e)) ∙ first.0

    begin : (x d b s y a : ℕ) → y ≡ x → a ≡ 0 → b ≡ s → x < b → Multiplies x d b 1 s y a
    begin x d b s y a ey ea eb lt = record { low = x; high = 0; below = 0; over = 0; scale = omega arith; low_small = omega arith; below_small = omega arith; split = omega arith; left_is = omega arith; product = omega arith }

    start : Multiplied l t 0 t2
    start = record {
      spares = λ a nl nr ns. second.others a ns ∙ first.1.others a nr;
      rounds = 8 * l.width;
      all = omega arith;
      multiplies = begin _ _ _ _ _ _ left none (span l.width) (number_below l t ok Left);
    }

    all : (u : Machine) × Loops 0 (product_round l ++ round_end_code l Spare 0) n t2 u × Fine u × Multiplied l t (8 * l.width) u
    all = looped 0 (l.at Spare 0) (product_round l) (Multiplied l t) (8 * l.width) (multiplied_more l apart wide t) (multiplied_stable l apart wide t) n 0 t2 (omega (arith, is)) (omega (arith, is)) second.fine (second.count ∙ sym is) start

    v : Machine
    v = all.0

    whole : number_of l v Answer ≡ (number_of l t Left * number_of l t Right) % 256 ^ l.width
    whole =
        let nothing : all.3.rounds ≡ 0 = omega (arith, all.3.all) in
        ended _ _ _ _ _ _ (subst (λ (k : ℕ). Multiplies (number_of l t Left) (number_of l t Right) (256 ^ l.width) (2 ^ (8 * l.width)) (2 ^ k) (number_of l v Left) (number_of l v Answer)) nothing all.3.multiplies) (number_below l v all.2 Answer)
