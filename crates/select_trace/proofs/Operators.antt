-- The code of each operator gives the operator's value.
use Rattle.std.proofs.Common.{◌≡◌, ℕ, zero, suc, ◌+◌, ◌-◌, ◌*◌, ◌/◌, ◌%◌, ◌^◌, ◌<◌, refl, ap, sym, ◌∙◌, subst, arith, ◌⊎◌, inl, inr, true, false, Bool}
use Rattle.std.proofs.lemmas.Nat.{mod-mul-add, div-mul-add}
use Rattle.std.specs.Prelude.{if◌then◌else◌}
use Rattle.std.proofs.lemmas.Bool.{cases_lt}
use Rattle.sym_code.specs.Effect.{Memory}
use Rattle.select_trace.specs.Run.{Machine, run}
use Rattle.sym_code.specs.declared.code.Into.TheVariants.{File}
use Rattle.select_trace.specs.Code.{Operand, Chain, Sum, Difference, rising, link_code, apart_code, order_code, equality_code}
use Rattle.select_trace.specs.Links.{AreBytes, Fine, Apart, Chained}
use Rattle.select_trace.specs.Values.{val}
use Rattle.select_trace.specs.Comparisons.{Truth}
use Rattle.select_trace.specs.Helpers.{Layout, Value, Left, Right, Answer, AreApart, Part, Direction, Leftward, Rightward, SignedRightward}
use Rattle.select_trace.specs.Steps.{number_of}
use Rattle.select_trace.specs.SignedDivision.{DivisionRuns, SignedDivisionRuns, IsMagnitude, HasSign, answer_sign, part_of}
use Rattle.select_trace.specs.Products.{ProductRuns}
use Rattle.select_trace.specs.Shifts.{IsTop, Gone, GoneLeft, GoneRight, ReturnsAtOnce, GoesRound}
use Rattle.c_ints.specs.declared.types.IntTy.{IntTy}
use Rattle.c_ints.specs.declared.operators.BinOp.TheVariants.{Mul, Add, Sub, Shl, Shr, Lt, Ge, Eq, Ne}
use Rattle.c_ints.specs.Range.{bytes_of, span}
use Rattle.select_trace.specs.Ints.{IsValue}
use Rattle.select_wide.specs.Single.{is_signed}
use Rattle.select_trace.proofs.Vals.{val_below}
use Rattle.select_trace.proofs.Links.{in_place, apart}
use Rattle.select_trace.proofs.Chains.{chained}
use Rattle.select_trace.proofs.Division.{span as span_is}
use Rattle.select_trace.proofs.ShiftRight.{top_bit, val_front}
use Rattle.select_trace.proofs.Shift.{shift, gone_none}
use Rattle.select_trace.proofs.Stays.{number_below}
use Rattle.select_trace.proofs.OperatorValues.{op_of, add_value, sub_value, mul_value, unsigned_value, signed_value, shl_value, shr_unsigned_value, shr_signed_value}
use Rattle.select_trace.proofs.Comparisons.{order}
use Rattle.select_trace.proofs.Equality.{equality}
use Rattle.select_trace.proofs.ComparisonValues.{lt_value, ge_value, eq_value, ne_value}

-- as many bytes as the type has
abbrev pub Fits : IntTy → ℕ → Type 0
Fits ty w = w ≡ bytes_of ty

pub bound : (ty : IntTy) (w : ℕ) → Fits ty w → 256 ^ w ≡ span ty
bound ty w e = ap (λ k. 256 ^ k) e ∙ span_is (bytes_of ty)

wide : (ty : IntTy) (w : ℕ) → Fits ty w → 0 < w
wide ty w e = subst (λ (x : ℕ). 0 < x) (sym e) (at ty)
  where
    at : (ty : IntTy) → 0 < bytes_of ty
    at ty = grind arith

narrow : (ty : IntTy) (w : ℕ) → Fits ty w → 8 * w < 256
narrow ty w e = subst (λ (x : ℕ). 8 * x < 256) (sym e) (at ty)
  where
    at : (ty : IntTy) → 8 * bytes_of ty < 256
    at ty = grind arith

-- ---- sums and differences
pub sum_is : (m : Memory) (t : Machine) (to left right : Operand) (k : ℕ) → 0 < k → Chained Sum m t to left right k →
    (val (λ j. t.memory (to j)) k ≡ (val (λ j. m (left j)) k + val (λ j. m (right j)) k) % 256 ^ k) × (t.registers.c ≡ (val (λ j. m (left j)) k + val (λ j. m (right j)) k) / 256 ^ k)
sum_is m t to left right zero lt h = absurd (omega arith)
sum_is m t to left right (suc k) lt h = at (256 ^ suc k) _ _ _ _ (val_below (λ j. t.memory (to j)) (suc k) (λ j l. h.fine.bytes (to j))) h.adds
  where
    at : (p v l r c : ℕ) → v < p → v + p * c ≡ l + r + 0 → (v ≡ (l + r) % p) × (c ≡ (l + r) / p)
    at p v l r c lt e =
        let f : l + r ≡ c * p + v = omega (arith, e) in
        (sym (ap (λ x. x % p) f ∙ mod-mul-add c p v lt), sym (ap (λ x. x / p) f ∙ div-mul-add c p v lt))

pub difference_is : (m : Memory) (t : Machine) (to left right : Operand) (k : ℕ) → 0 < k → AreBytes m → Chained Difference m t to left right k →
    (val (λ j. t.memory (to j)) k ≡ (val (λ j. m (left j)) k + 256 ^ k - val (λ j. m (right j)) k) % 256 ^ k) × (t.registers.c ≡ (val (λ j. m (left j)) k + 256 ^ k - val (λ j. m (right j)) k) / 256 ^ k)
difference_is m t to left right zero lt b h = absurd (omega arith)
difference_is m t to left right (suc k) lt b h = at (256 ^ suc k) _ _ _ _ (val_below (λ j. t.memory (to j)) (suc k) (λ j l. h.fine.bytes (to j))) (val_below (λ j. m (right j)) (suc k) (λ j l. b (right j))) h.adds
  where
    at : (p v l r c : ℕ) → v < p → r < p → v + r + p * c + 1 ≡ l + 1 + p → (v ≡ (l + p - r) % p) × (c ≡ (l + p - r) / p)
    at p v l r c lt rl e =
        let f : l + p - r ≡ c * p + v = omega (arith, e) in
        (sym (ap (λ x. x % p) f ∙ mod-mul-add c p v lt), sym (ap (λ x. x / p) f ∙ div-mul-add c p v lt))

-- a chain in the left operand's place
pub in_place_chained : (chain : Chain) (left right : Operand) (w : ℕ) → Apart w left left → Apart w left right → (t : Machine) → Fine t → Chained chain t.memory (run (rising (link_code chain left right File) w) t) left left right w
in_place_chained chain left right w al ar t ok = chained chain (link_code chain left right File) left left right w (in_place chain left right w) al al ar t ok w (omega arith)

-- a chain in another place
pub apart_chained : (chain : Chain) (to left right : Operand) (w : ℕ) → Apart w to to → Apart w to left → Apart w to right → ((k : ℕ) → k < w → 0 < k → to k ≡ right k → ⊥) → (t : Machine) → Fine t →
    Chained chain t.memory (run (rising (apart_code chain to left right) w) t) to left right w
apart_chained chain to left right w at al ar miss t ok = chained chain (apart_code chain to left right) to left right w (apart chain to left right w miss) at al ar t ok w (omega arith)

pub sum_value : (ty : IntTy) (m : Memory) (t : Machine) (to left right : Operand) (w : ℕ) → Fits ty w → AreBytes m → Chained Sum m t to left right w →
    IsValue Add ty (val (λ j. m (left j)) w) (val (λ j. m (right j)) w) (val (λ j. t.memory (to j)) w)
sum_value ty m t to left right w e b h =
    let s : 256 ^ w ≡ span ty = bound ty w e in
    add_value ty _ _ _ (subst (λ (x : ℕ). val (λ j. m (left j)) w < x) s (val_below (λ j. m (left j)) w (λ j l. b (left j)))) (subst (λ (x : ℕ). val (λ j. m (right j)) w < x) s (val_below (λ j. m (right j)) w (λ j l. b (right j))))
    ((sum_is m t to left right w (wide ty w e) h).0 ∙ ap (λ x. (val (λ j. m (left j)) w + val (λ j. m (right j)) w) % x) s)

pub difference_value : (ty : IntTy) (m : Memory) (t : Machine) (to left right : Operand) (w : ℕ) → Fits ty w → AreBytes m → Chained Difference m t to left right w →
    IsValue Sub ty (val (λ j. m (left j)) w) (val (λ j. m (right j)) w) (val (λ j. t.memory (to j)) w)
difference_value ty m t to left right w e b h =
    let s : 256 ^ w ≡ span ty = bound ty w e in
    sub_value ty _ _ _ (subst (λ (x : ℕ). val (λ j. m (left j)) w < x) s (val_below (λ j. m (left j)) w (λ j l. b (left j)))) (subst (λ (x : ℕ). val (λ j. m (right j)) w < x) s (val_below (λ j. m (right j)) w (λ j l. b (right j))))
    ((difference_is m t to left right w (wide ty w e) b h).0 ∙ ap (λ x. (val (λ j. m (left j)) w + x - val (λ j. m (right j)) w) % x) s)

-- ---- the helpers' routines
below_span : (ty : IntTy) (l : Layout) → Fits ty l.width → (t : Machine) → Fine t → (v : Value) → number_of l t v < span ty
below_span ty l e t ok v = subst (λ (x : ℕ). number_of l t v < x) (bound ty l.width e) (number_below l t ok v)

pub product_answer : (ty : IntTy) (l : Layout) → Fits ty l.width → (t v : Machine) → Fine t → ProductRuns l t v → IsValue Mul ty (number_of l t Left) (number_of l t Right) (number_of l v Answer)
product_answer ty l e t v ok r = mul_value ty _ _ _ (below_span ty l e t ok Left) (below_span ty l e t ok Right) (r.answer ∙ ap (λ x. (number_of l t Left * number_of l t Right) % x) (bound ty l.width e))

pub unsigned_answer : (part : Part) (ty : IntTy) (l : Layout) → is_signed ty ≡ false → Fits ty l.width → (t v : Machine) → Fine t → DivisionRuns l part t v → IsValue (op_of part) ty (number_of l t Left) (number_of l t Right) (number_of l v Answer)
unsigned_answer part ty l u e t v ok r = unsigned_value part ty _ _ _ u (below_span ty l e t ok Left) (below_span ty l e t ok Right) r.answer

pub signed_answer : (part : Part) (ty : IntTy) (l : Layout) → is_signed ty ≡ true → Fits ty l.width → (t v : Machine) → Fine t → SignedDivisionRuns l part t v → IsValue (op_of part) ty (number_of l t Left) (number_of l t Right) (number_of l v Answer)
signed_answer part ty l s e t v ok r = put part ty (256 ^ l.width) _ _ _ _ _ s (bound ty l.width e) (below_span ty l e t ok Left) (below_span ty l e t ok Right) r.left_is r.right_is r.answer
  where
    put : (part : Part) (ty : IntTy) (b l r a m d : ℕ) → is_signed ty ≡ true → b ≡ span ty → l < span ty → r < span ty → IsMagnitude b l m → IsMagnitude b r d →
        ((s t : ℕ) → IsTop b l s → IsTop b r t → 0 < r → HasSign b (answer_sign part s t) (part_of part m d) a) → IsValue (op_of part) ty l r a
    put part ty b l r a m d s e ll rl ml mr h =
        signed_value part ty l r a m d s ll rl (subst (λ (x : ℕ). IsMagnitude x l m) e ml) (subst (λ (x : ℕ). IsMagnitude x r d) e mr)
        (subst (λ (x : ℕ). (s t : ℕ) → IsTop x l s → IsTop x r t → 0 < r → HasSign x (answer_sign part s t) (part_of part m d) a) e h)

-- the count is the lowest byte of the right operand
pub count_is : (l : Layout) (t : Machine) → Fine t → 0 < l.width → t.memory (l.at Right 0) ≡ number_of l t Right % 256
count_is l t ok lt = at (λ j. t.memory (l.at Right j)) l.width lt (ok.bytes (l.at Right 0))
  where
    at : (f : ℕ → ℕ) (w : ℕ) → 0 < w → f 0 < 256 → f 0 ≡ val f w % 256
    at f zero lt b = absurd (omega arith)
    at f (suc w) lt b = sym (ap (λ x. x % 256) (val_front f w ∙ omega arith) ∙ mod-mul-add (val (λ j. f (suc j)) w) 256 (f 0) b)

-- what a shift comes to, whether it goes round or not
pub record ShiftRuns (l : Layout) (direction : Direction) (s : ℕ) (t : Machine) (a : ℕ) : Type 0 where
  pub way : ((none : ReturnsAtOnce l t) × (a ≡ number_of l t Left)) ⊎ ((goes : GoesRound l direction s t) × (a ≡ number_of l goes.out Answer))
  pub small : a < 256 ^ l.width
  pub gone : Gone direction (256 ^ l.width) s (number_of l t Left) (number_of l t Right % 256) a

pub shift_runs : (l : Layout) (direction : Direction) (s : ℕ) → 0 < l.width → AreApart l → (t : Machine) → Fine t → IsTop (256 ^ l.width) (number_of l t Left) s → (a : ℕ) × ShiftRuns l direction s t a
shift_runs l direction s lt apart t ok top = elim (shift l apart lt direction s t ok top) [
  | inl none ↦ (
    number_of l t Left,
    record {
      way = inl (none, refl);
      small = number_below l t ok Left;
      gone = subst (λ (x : ℕ). Gone direction (256 ^ l.width) s (number_of l t Left) x (number_of l t Left)) (sym none.none ∙ count_is l t ok lt) (gone_none direction (256 ^ l.width) s (number_of l t Left) top);
    },
  )
  | inr goes ↦ (
    number_of l goes.out Answer,
    record {
      way = inr (goes, refl);
      small = number_below l goes.out goes.fine Answer;
      gone = subst (λ (x : ℕ). Gone direction (256 ^ l.width) s (number_of l t Left) x (number_of l goes.out Answer)) (sym goes.as_bits ∙ count_is l t ok lt) goes.gone;
    },
  )
]

pub top_of : (l : Layout) (t : Machine) → Fine t → 0 < l.width → (v : Value) → (s : ℕ) × IsTop (256 ^ l.width) (number_of l t v) s
top_of l t ok lt v = elim (cases_lt (2 * number_of l t v) (256 ^ l.width)) [ inl x ↦ (0, inr (refl, x)) | inr x ↦ (1, inl (refl, x)) ]

abbrev pub direction_of : IntTy → Direction
direction_of ty = if is_signed ty then SignedRightward else Rightward

pub shl_answer : (ty : IntTy) (l : Layout) → Fits ty l.width → (t : Machine) → Fine t → (s a : ℕ) → ShiftRuns l Leftward s t a → IsValue Shl ty (number_of l t Left) (number_of l t Right) a
shl_answer ty l e t ok s a h =
    let b : 256 ^ l.width ≡ span ty = bound ty l.width e in
    shl_value ty _ _ _ (below_span ty l e t ok Left) (subst (λ (x : ℕ). a < x) b h.small) (subst (λ (x : ℕ). GoneLeft x (number_of l t Left) (number_of l t Right % 256) a) b h.gone)

pub shr_unsigned_answer : (ty : IntTy) (l : Layout) → is_signed ty ≡ false → Fits ty l.width → (t : Machine) → Fine t → (s a : ℕ) → ShiftRuns l Rightward s t a → IsValue Shr ty (number_of l t Left) (number_of l t Right) a
shr_unsigned_answer ty l u e t ok s a h =
    shr_unsigned_value ty _ _ _ u (below_span ty l e t ok Left) (subst (λ (x : ℕ). GoneRight x 0 (number_of l t Left) (number_of l t Right % 256) a) (bound ty l.width e) h.gone)

pub shr_signed_answer : (ty : IntTy) (l : Layout) → is_signed ty ≡ true → Fits ty l.width → (t : Machine) → Fine t → (s a : ℕ) → IsTop (256 ^ l.width) (number_of l t Left) s → ShiftRuns l SignedRightward s t a → IsValue Shr ty (number_of l t Left) (number_of l t Right) a
shr_signed_answer ty l g e t ok s a is h =
    let b : 256 ^ l.width ≡ span ty = bound ty l.width e in
    shr_signed_value ty _ _ _ g (below_span ty l e t ok Left) (subst (λ (x : ℕ). a < x) b h.small)
    (λ x top. subst (λ (y : ℕ). GoneRight (span ty) y (number_of l t Left) (number_of l t Right % 256) a) (one_top (span ty) (number_of l t Left) s x (subst (λ (y : ℕ). IsTop y (number_of l t Left) s) b is) top)
    (subst (λ (y : ℕ). GoneRight y s (number_of l t Left) (number_of l t Right % 256) a) b h.gone.0))
  where
    one_top : (b n s t : ℕ) → IsTop b n s → IsTop b n t → s ≡ t
    one_top b n s t h k = elim h [
      | inl x ↦ elim k [ inl y ↦ x.0 ∙ sym y.0 | inr y ↦ absurd (omega (arith, x.1, y.1)) ]
      | inr x ↦ elim k [ inl y ↦ absurd (omega (arith, x.1, y.1)) | inr y ↦ x.0 ∙ sym y.0 ]
    ]

-- ---- comparisons
pub tops : (f : ℕ → ℕ) (w : ℕ) → 0 < w → ((j : ℕ) → j < w → f j < 256) → IsTop (256 ^ w) (val f w) (f (w - 1) / 128)
tops f w lt b = elim (top_bit f w lt b) [
  | inl h ↦ let s : f (w - 1) < 256 = b (w - 1) (omega arith) in inl (omega (arith, h.0), h.1)
  | inr h ↦ inr (omega (arith, h.0), h.1)
]

pub order_value : (ty : IntTy) (clearable : Bool) (to left right : Operand) (w : ℕ) → Fits ty w → (to 0 ≡ to 1 → ⊥) → (t : Machine) → Fine t →
    (low : (Truth t.memory (run (order_code clearable (is_signed ty) 0 to left right w) t) to ((run (order_code clearable (is_signed ty) 0 to left right w) t).memory (to 0))) × IsValue Lt ty (val (λ j. t.memory (left j)) w) (val (λ j. t.memory (right j)) w) ((run (order_code clearable (is_signed ty) 0 to left right w) t).memory (to 0)))
    × (Truth t.memory (run (order_code clearable (is_signed ty) 1 to left right w) t) to ((run (order_code clearable (is_signed ty) 1 to left right w) t).memory (to 0))) × IsValue Ge ty (val (λ j. t.memory (left j)) w) (val (λ j. t.memory (right j)) w) ((run (order_code clearable (is_signed ty) 1 to left right w) t).memory (to 0))
order_value ty clearable to left right w e apart t ok =
    let b : 256 ^ w ≡ span ty = bound ty w e in
    let lt : 0 < w = wide ty w e in
    let h0 = order clearable (is_signed ty) 0 to left right w (omega arith) lt apart t ok in
    let h1 = order clearable (is_signed ty) 1 to left right w (omega arith) lt apart t ok in
    let ll : val (λ j. t.memory (left j)) w < span ty = subst (λ (x : ℕ). val (λ j. t.memory (left j)) w < x) b (val_below (λ j. t.memory (left j)) w (λ j l. ok.bytes (left j))) in
    let rl : val (λ j. t.memory (right j)) w < span ty = subst (λ (x : ℕ). val (λ j. t.memory (right j)) w < x) b (val_below (λ j. t.memory (right j)) w (λ j l. ok.bytes (right j))) in
    let tl = subst (λ (x : ℕ). IsTop x (val (λ j. t.memory (left j)) w) (t.memory (left (w - 1)) / 128)) b (tops (λ j. t.memory (left j)) w lt (λ j l. ok.bytes (left j))) in
    let tr = subst (λ (x : ℕ). IsTop x (val (λ j. t.memory (right j)) w) (t.memory (right (w - 1)) / 128)) b (tops (λ j. t.memory (right j)) w lt (λ j l. ok.bytes (right j))) in
    ((itself t.memory _ to _ h0, lt_value ty _ _ _ _ _ ll rl tl tr h0.low), itself t.memory _ to _ h1, ge_value ty _ _ _ _ _ ll rl tl tr h1.low)
  where
    itself : (m : Memory) (u : Machine) (to : Operand) (x : ℕ) → Truth m u to x → Truth m u to (u.memory (to 0))
    itself m u to x h = record { fine = h.fine; low = refl; high = h.high; others = h.others }

pub equality_value : (ty : IntTy) (clearable : Bool) (to left right : Operand) (w : ℕ) → Fits ty w → (to 0 ≡ to 1 → ⊥) → ((k : ℕ) → 0 < k → k < w → (to 0 ≡ left k → ⊥) × (to 0 ≡ right k → ⊥)) → (t : Machine) → Fine t →
    IsValue Eq ty (val (λ j. t.memory (left j)) w) (val (λ j. t.memory (right j)) w) ((run (equality_code clearable 0 to left right w) t).memory (to 0))
    × IsValue Ne ty (val (λ j. t.memory (left j)) w) (val (λ j. t.memory (right j)) w) ((run (equality_code clearable 1 to left right w) t).memory (to 0))
equality_value ty clearable to left right w e apart2 apart t ok =
    let b : 256 ^ w ≡ span ty = bound ty w e in
    let ll : val (λ j. t.memory (left j)) w < span ty = subst (λ (x : ℕ). val (λ j. t.memory (left j)) w < x) b (val_below (λ j. t.memory (left j)) w (λ j l. ok.bytes (left j))) in
    let rl : val (λ j. t.memory (right j)) w < span ty = subst (λ (x : ℕ). val (λ j. t.memory (right j)) w < x) b (val_below (λ j. t.memory (right j)) w (λ j l. ok.bytes (right j))) in (
      eq_value ty _ _ _ ll rl (equality clearable 0 to left right w (omega arith) (wide ty w e) apart2 apart t ok).low,
      ne_value ty _ _ _ ll rl (equality clearable 1 to left right w (omega arith) (wide ty w e) apart2 apart t ok).low,
    )
