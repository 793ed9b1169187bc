-- Division bit by bit.
use Rattle.std.proofs.Common.{◌≡◌, ℕ, zero, suc, ◌+◌, ◌-◌, ◌*◌, ◌/◌, ◌%◌, ◌^◌, ◌<◌, List, ◌++◌, refl, ap, sym, ◌∙◌, subst, arith, ◌⊎◌, inl, inr}
use Rattle.std.proofs.Math.Nat.{pow-suc, pow-succ'}
use Rattle.std.proofs.lemmas.Nat.{pow-add, div-mul-add, mod-mul-add}
use Rattle.std.proofs.lemmas.Bool.Decides.{nat_tests}
use Rattle.sym_code.specs.Effect.{Memory}
use Rattle.select_trace.specs.Run.{Machine, Sym, going, run}
use Rattle.sym_code.specs.Registers.{Registers}
use Rattle.select_trace.specs.Links.{AreBytes, Fine}
use Rattle.select_trace.specs.Loops.{Loops}
use Rattle.select_trace.specs.Helpers.{Layout, Value, Left, Right, Remainder, Spare, Clear, ShiftLeft, each, AreApart, divide_round, take_off_code, rounds_code, round_end_code}
use Rattle.select_trace.specs.Steps.{number_of, Steps, Stays}
use Rattle.select_trace.specs.Division.{Divides, Divided, Spares, DivideRuns}
use Rattle.select_trace.proofs.Vals.{run_append, going_is, val_same}
use Rattle.select_trace.proofs.RoutineSteps.{shift_left, clear}
use Rattle.select_trace.proofs.Stays.{stays_of, stays_then, kept, kept_byte, number_below}
use Rattle.select_trace.proofs.TakeOff.{TakesOff, takes_off}
use Rattle.select_trace.proofs.CountedLoops.{Counts, looped}
use Rattle.select_trace.proofs.Quotients.{round, ended}

pub span : (w : ℕ) → 256 ^ w ≡ 2 ^ (8 * w)
span zero = refl
span (suc w) = pow-suc 256 w ∙ ap (λ x. x * 256) (span w) ∙ sym (pow-add 2 (8 * w) 8) ∙ ap (λ k. 2 ^ k) (omega arith)

pub abbrev_run3 : (xs ys zs : List Sym) (t : Machine) → run ((xs ++ ys) ++ zs) t ≡ run zs (run ys (run xs t))
abbrev_run3 xs ys zs t = run_append (xs ++ ys) zs t ∙ ap (run zs) (run_append xs ys t)

abbrev Round : Value → Type 0
Round v = (v ≡ Left) ⊎ (v ≡ Remainder)

not_round : (x : Value) → (x ≡ Left → ⊥) → (x ≡ Remainder → ⊥) → (v : Value) → Round v → x ≡ v → ⊥
not_round x nl nr v m e = elim m [ inl a ↦ nl (e ∙ a) | inr b ↦ nr (e ∙ b) ]

right≢left : Right ≡ Left → ⊥
right≢left e = cc

right≢remainder : Right ≡ Remainder → ⊥
right≢remainder e = cc

spare≢left : Spare ≡ Left → ⊥
spare≢left e = cc

spare≢remainder : Spare ≡ Remainder → ⊥
spare≢remainder e = cc

remainder≢left : Remainder ≡ Left → ⊥
remainder≢left e = cc

left≢remainder : Left ≡ Remainder → ⊥
left≢remainder e = cc

right≢spare : Right ≡ Spare → ⊥
right≢spare e = cc

left≢spare : Left ≡ Spare → ⊥
left≢spare e = cc

remainder≢spare : Remainder ≡ Spare → ⊥
remainder≢spare e = cc

abbrev Just : Value → Value → Type 0
Just u v = v ≡ u

not_just : (x u : Value) → (x ≡ u → ⊥) → (v : Value) → Just u v → x ≡ v → ⊥
not_just x u ne v m e = ne (e ∙ m)

-- a number that the steps of one value keep
pub keeps : (l : Layout) → AreApart l → (t u : Machine) (v : Value) → Steps l t u v → (x : Value) → (x ≡ v → ⊥) → number_of l u x ≡ number_of l t x
keeps l apart t u v h x ne = kept l apart t u (stays_of {may = Just v} l t u v refl h) x (not_just x v ne)

-- what one round does, in numbers
record Rounds (l : Layout) (t u : Machine) : Type 0 where
  stays : Stays l t u Round
  left : ℕ
  c1 : ℕ
  rest : ℕ
  c2 : ℕ
  left_is : number_of l u Left ≡ left
  shift : left + 256 ^ l.width * c1 ≡ 2 * number_of l t Left + t.registers.c
  shifts : rest + 256 ^ l.width * c2 ≡ 2 * number_of l t Remainder + c1
  small : c1 < 2
  off : rest + 256 ^ l.width * c2 < 2 * number_of l t Right → (rest + 256 ^ l.width * c2 ≡ u.registers.c * number_of l t Right + number_of l u Remainder) × (number_of l u Remainder < number_of l t Right)

rounds : (l : Layout) → AreApart l → 0 < l.width → (t : Machine) → Fine t → Rounds l t (run (divide_round l) t)
rounds l apart wide t ok =
    let t1 : Machine = run (each l (ShiftLeft Left)) t in
    let h1 = shift_left l apart Left t ok in
    let t2 : Machine = run (each l (ShiftLeft Remainder)) t1 in
    let h2 = shift_left l apart Remainder t1 h1.1.fine in
    let t3 : Machine = run (take_off_code l) t2 in
    let h3 : TakesOff l t2 t3 = takes_off l apart wide t2 h2.1.fine in
    let is : run (divide_round l) t ≡ t3 = abbrev_run3 (each l (ShiftLeft Left)) (each l (ShiftLeft Remainder)) (take_off_code l) t in
    let r1 : number_of l t1 Right ≡ number_of l t Right = keeps l apart t t1 Left h1.1 Right right≢left in
    let r2 : number_of l t2 Right ≡ number_of l t Right = keeps l apart t1 t2 Remainder h2.1 Right right≢remainder ∙ r1 in
    let m1 : number_of l t1 Remainder ≡ number_of l t Remainder = keeps l apart t t1 Left h1.1 Remainder remainder≢left in
    let l2 : number_of l t2 Left ≡ number_of l t1 Left = keeps l apart t1 t2 Remainder h2.1 Left left≢remainder in
    let l3 : number_of l t3 Left ≡ number_of l t1 Left = keeps l apart t2 t3 Remainder h3.steps Left left≢remainder ∙ l2 in
    subst (λ (u : Machine). Rounds l t u) (sym is) (record {
      stays = stays_then l t t2 t3 (stays_then l t t1 t2 (stays_of l t t1 Left (inl refl) h1.1) (stays_of l t1 t2 Remainder (inr refl) h2.1)) (stays_of l t2 t3 Remainder (inr refl) h3.steps);
      left = number_of l t1 Left;
      c1 = t1.registers.c;
      rest = number_of l t2 Remainder;
      c2 = t2.registers.c;
      left_is = l3;
      shift = h1.0;
      shifts = h2.0 ∙ ap (λ x. 2 * x + t1.registers.c) m1;
      small = h1.1.fine.carry;
      off = off_at (number_of l t2 Remainder + 256 ^ l.width * t2.registers.c) (number_of l t2 Right) (number_of l t Right) t3.registers.c (number_of l t3 Remainder) r2 h3.divides;
    })
  where
    off_at : (x d e c r : ℕ) → d ≡ e → (x < 2 * d → (x ≡ c * d + r) × (r < d)) → x < 2 * e → (x ≡ c * e + r) × (r < e)
    off_at x d e c r is h = subst (λ (z : ℕ). x < 2 * z → (x ≡ c * z + r) × (r < z)) is h

-- the right operand is as it was at the beginning
right_kept : (l : Layout) → AreApart l → 0 < l.width → (t u : Machine) → Spares l t u → number_of l u Right ≡ number_of l t Right
right_kept l apart wide t u h = val_same _ _ l.width (λ j lt. h (l.at Right j) (λ i lti e. apart.between Right Left right≢left j i lt lti e) (λ i lti e. apart.between Right Remainder right≢remainder j i lt lti e) (λ e. apart.between Right Spare right≢spare j 0 lt wide e))

divided_more : (l : Layout) → AreApart l → 0 < l.width → (t0 : Machine) (g : ℕ) → g < 2 → (i : ℕ) (t : Machine) → i < 8 * l.width → Fine t → Divided l t0 g i t →
    (fine : Fine (run (divide_round l) t)) × (Divided l t0 g (suc i) (run (divide_round l) t)) × ((run (divide_round l) t).memory (l.at Spare 0) ≡ t.memory (l.at Spare 0))
divided_more l apart wide t0 g gs i t lt ok h = go h.rounds h.all refl
  where
    to_next : (n d g b p s left r c left1 c1 r1 c2 c3 r3 ps ss : ℕ) → ps ≡ 2 * p → ss ≡ 2 * s → Divides n d g b p ss left r c → g < 2 → left1 + b * c1 ≡ 2 * left + c → left1 < b → c1 < 2 → r1 + b * c2 ≡ 2 * r + c1 →
        (r1 + b * c2 < 2 * d → (r1 + b * c2 ≡ c3 * d + r3) × (r3 < d)) → c3 < 2 → Divides n d g b ps s left1 r3 c3
    to_next n d g b p s left r c left1 c1 r1 c2 c3 r3 ps ss ep es h gs shift small cs rr off lt3 =
        let rest : r < d = h.rest in
        let o = off (omega (arith, rr, rest, cs)) in
        subst (λ (x : ℕ). Divides n d g b x s left1 r3 c3) (sym ep) (round n d g b p s left r c left1 c1 r1 c2 c3 r3 (subst (λ (x : ℕ). Divides n d g b p x left r c) es h) gs shift small rr o.0 o.1 lt3)

    go : (n : ℕ) → i + n ≡ 8 * l.width → n ≡ h.rounds →
        (fine : Fine (run (divide_round l) t)) × (Divided l t0 g (suc i) (run (divide_round l) t)) × ((run (divide_round l) t).memory (l.at Spare 0) ≡ t.memory (l.at Spare 0))
    go zero all is = absurd (omega arith)
    go (suc n) all is =
        let u : Machine = run (divide_round l) t in
        let r : Rounds l t u = rounds l apart wide t ok in
        let d : number_of l t Right ≡ number_of l t0 Right = right_kept l apart wide t0 t h.spares in (
          r.stays.fine,
          record {
            spares = λ a nl nr ns. r.stays.others a (λ v m j ltj e. elim m [ inl x ↦ nl j ltj (e ∙ ap (λ y. l.at y j) x) | inr x ↦ nr j ltj (e ∙ ap (λ y. l.at y j) x) ]) ∙ h.spares a nl nr ns;
            rounds = n;
            all = omega arith;
            divides = λ pos.
                subst (λ (x : ℕ). Divides (number_of l t0 Left) (number_of l t0 Right) g (256 ^ l.width) (2 ^ suc i) (2 ^ n) x (number_of l u Remainder) u.registers.c) (sym r.left_is)
                (to_next (number_of l t0 Left) (number_of l t0 Right) g (256 ^ l.width) (2 ^ i) (2 ^ n) (number_of l t Left) (number_of l t Remainder) t.registers.c r.left r.c1 r.rest r.c2 u.registers.c (number_of l u Remainder) (2 ^ suc i) (2 ^ h.rounds)
                (pow-succ' 2 i) (ap (λ k. 2 ^ k) (sym is) ∙ pow-succ' 2 n) (h.divides pos) gs r.shift (subst (λ (x : ℕ). x < 256 ^ l.width) r.left_is (number_below l u r.stays.fine Left)) r.small r.shifts
                (subst (λ (x : ℕ). r.rest + 256 ^ l.width * r.c2 < 2 * x → (r.rest + 256 ^ l.width * r.c2 ≡ u.registers.c * x + number_of l u Remainder) × (number_of l u Remainder < x)) d r.off) r.stays.fine.carry);
          },
          kept_byte l apart t u r.stays Spare (not_round Spare spare≢left spare≢remainder) 0 wide,
        )

-- the counter changes
divided_stable : (l : Layout) → AreApart l → 0 < l.width → (t0 : Machine) (g i : ℕ) (t u : Machine) → Divided l t0 g i t → Counts t u (l.at Spare 0) → Divided l t0 g i u
divided_stable l apart wide t0 g i t u h c =
    let left : number_of l u Left ≡ number_of l t Left = val_same _ _ l.width (λ j lt. c.others (l.at Left j) (λ e. apart.between Left Spare left≢spare j 0 lt wide e)) in
    let rest : number_of l u Remainder ≡ number_of l t Remainder = val_same _ _ l.width (λ j lt. c.others (l.at Remainder j) (λ e. apart.between Remainder Spare remainder≢spare j 0 lt wide e)) in
    record {
      spares = λ a nl nr ns. c.others a ns ∙ h.spares a nl nr ns;
      rounds = h.rounds;
      all = h.all;
      divides = λ pos. same _ _ _ _ _ _ _ _ _ _ _ _ left rest (ap (λ (r : Registers). r.c) c.registers) (h.divides pos);
    }
  where
    same : (n d g b p s left r c left1 r1 c1 : ℕ) → left1 ≡ left → r1 ≡ r → c1 ≡ c → Divides n d g b p s left r c → Divides n d g b p s left1 r1 c1
    same n d g b p s left r c left1 r1 c1 e1 e2 e3 h = rw (e1, e2, e3) h

-- ---- the start
pub record Started (t u : Machine) (a n : ℕ) : Type 0 where
  pub fine : Fine u
  pub count : u.memory a ≡ n
  pub others : (b : ℕ) → (b ≡ a → ⊥) → u.memory b ≡ t.memory b
  pub carry : u.registers.c ≡ t.registers.c

pub started : (l : Layout) (t : Machine) → Fine t → 8 * l.width < 256 → Started t (run (rounds_code l) t) (l.at Spare 0) (8 * l.width)
started l t ok small = subst (λ (v : Machine). Started v (run (rounds_code l) v) (l.at Spare 0) (8 * l.width)) (going_is t ok.going) (at l t.registers t.memory small ok.carry ok.zero ok.bytes)
  where
    at : (l : Layout) (r : Registers) (m : Memory) → 8 * l.width < 256 → r.c < 2 → r.z < 2 → AreBytes m → Started (going r m) (run (rounds_code l) (going r m)) (l.at Spare 0) (8 * l.width)
    at l r m small c z bytes = record {
      fine = record { going = refl; carry = c; zero = z; bytes = λ a. grind (arith, nat_tests, bytes a) };
      count = grind (arith, nat_tests);
      others = λ b ne. grind (arith, nat_tests);
      carry = refl;
    }

-- ---- all of it
pub divide : (l : Layout) → AreApart l → 0 < l.width → 8 * l.width < 256 → (t : Machine) → Fine t → (v : Machine) × DivideRuns l t v
divide l apart wide narrow t ok = (
  v,
  record {
    rounds = n;
    as_bits = is;
    begins = ap (λ (x : Machine). x.mode) joined ∙ second.fine.going;
    out = u;
    out_goes = all.2.going;
    loops = subst (λ (x : Machine). Loops 0 (divide_round l ++ round_end_code l Spare 0) n x u) (sym joined) all.1;
    ends = refl;
    fine = last.1.fine;
    spares = λ a nl nr ns. last.1.others a (λ j lt e. nl j lt e) ∙ all.3.spares a nl nr ns;
    quotient = λ pos. (whole pos).0;
    remainder = λ pos. (whole pos).1;
  },
)
  where
    n : ℕ
    n = 8 * l.width - 1

    is : suc n ≡ 8 * l.width
    is = omega arith

    first : (number_of l (run (each l (Clear Remainder)) t) Remainder ≡ 0) × (Steps l t (run (each l (Clear Remainder)) t) Remainder)
    first = clear l apart Remainder t ok

    t1 : Machine
    t1 = run (each l (Clear Remainder)) t

    t2 : Machine
    t2 = run (rounds_code l) t1

    joined : run (each l (Clear Remainder) ++ rounds_code l) t ≡ t2
    joined = run_append (each l (Clear Remainder)) (rounds_code l) t

    second : Started t1 t2 (l.at Spare 0) (8 * l.width)
    second = started l t1 first.1.fine narrow

    left : number_of l t2 Left ≡ number_of l t Left
    left = val_same _ _ l.width (λ j lt. second.others (l.at Left j) (λ e. apart.between Left Spare left≢spare j 0 lt wide e)) ∙ keeps l apart t t1 Remainder first.1 Left left≢remainder

    rest : number_of l t2 Remainder ≡ 0
    rest = val_same _ _ l.width (λ j lt. second.others (l.at Remainder j) (λ e. apart.between Remainder Spare remainder≢spare j 0 lt wide e)) ∙ first.0

    begin : (n d b s left r c : ℕ) → left ≡ n → r ≡ 0 → b ≡ s → n < b → 0 < d → Divides n d c b 1 s left r c
    begin n d b s left r c el er eb lt pos = record { low = n; quotient = 0; scale = omega arith; low_small = omega arith; quotient_small = omega arith; split = rw er (omega arith); rest = omega arith; left_is = omega arith }

    start : Divided l t t2.registers.c 0 t2
    start = record {
      spares = λ a nl nr ns. second.others a ns ∙ first.1.others a nr;
      rounds = 8 * l.width;
      all = omega arith;
      divides = λ pos. begin _ _ _ _ _ _ _ left rest (span l.width) (number_below l t ok Left) pos;
    }

    all : (u : Machine) × Loops 0 (divide_round l ++ round_end_code l Spare 0) n t2 u × Fine u × Divided l t t2.registers.c (8 * l.width) u
    all = looped 0 (l.at Spare 0) (divide_round l) (Divided l t t2.registers.c) (8 * l.width) (divided_more l apart wide t t2.registers.c second.fine.carry) (divided_stable l apart wide t t2.registers.c) n 0 t2 (omega (arith, is)) (omega (arith, is)) second.fine (second.count ∙ sym is) start

    u : Machine
    u = all.0

    v : Machine
    v = run (each l (ShiftLeft Left)) u

    last : (number_of l v Left + 256 ^ l.width * v.registers.c ≡ 2 * number_of l u Left + u.registers.c) × (Steps l u v Left)
    last = shift_left l apart Left u all.2

    ends : (n d g b p s left r c x e y : ℕ) → s ≡ 1 → y ≡ r → Divides n d g b p s left r c → x + b * e ≡ 2 * left + c → x < b → (x ≡ n / d) × (y ≡ n % d)
    ends n d g b p s left r c x e y one yr h shift small =
        let f = ended n d g b p left r c x e (subst (λ (z : ℕ). Divides n d g b p z left r c) one h) shift small in
        (sym (ap (λ z. z / d) f.0 ∙ div-mul-add x d r f.1), yr ∙ sym (ap (λ z. z % d) f.0 ∙ mod-mul-add x d r f.1))

    whole : 0 < number_of l t Right → (number_of l v Left ≡ number_of l t Left / number_of l t Right) × (number_of l v Remainder ≡ number_of l t Left % number_of l t Right)
    whole pos =
        let none : all.3.rounds ≡ 0 = omega (arith, all.3.all) in
        ends _ _ _ _ _ _ _ _ _ _ _ _ (ap (λ k. 2 ^ k) none) (keeps l apart u v Left last.1 Remainder remainder≢left) (all.3.divides pos) last.0 (number_below l v last.1.fine Left)
