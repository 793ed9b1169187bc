-- Some straight instructions of the given code, and those that are made of them: what these cost is carried back to those.
use Rattle.std.proofs.Common.{◌≡◌, ℕ, zero, suc, ◌+◌, ◌≤◌, true, if◌then◌else◌, List, [], ◌∷◌, ◌++◌, length, take, drop, take-append-drop, Option, Some, None, slice_get, refl, sym, ap, ◌∙◌, subst, arith}
use Rattle.std.proofs.Math.Seq.{take-append_seam}
use Rattle.sym_code.specs.Words as words
use Rattle.sym_code.specs.declared.code.Literal.TheVariants.{Number}
use Rattle.sym_code.specs.declared.code.Sym.{Sym}
use Rattle.sym_code.specs.declared.code.Sym.TheVariants as syms
use Rattle.math_helpers.specs.Shape.{most_words, is_straight, sum_from}
use Rattle.select_wide.specs.Links.{AreNear}
use Rattle.lean_code.specs.Rows.{Keeps, Drops, Puts, Narrows, narrowed, Clears, cleared, Reads, reads_before, Tests, tests_flag, Row, At, olds, put_by, in_front, puts, is_none, place_in}
use Rattle.lean_code.specs.Links.{price_at}
use Rattle.lean_code.specs.Steady.{is_steady}
use Rattle.bank_trace.specs.LeanPrices.{carried_by}
use Rattle.bank_trace.proofs.LeanRows.{never, olds_take, puts_on, fewer, straight_first, straight_later, steady_later, straight_made, near_made}
use Rattle.bank_trace.proofs.LeanWords.{most_fewer, routine_fewer}

-- what is made of some instructions from an index on
pub record Stretch (carry price : ℕ → ℕ) (list : List Sym) (n : ℕ) (part : List Sym) : Type 0 where
  pub at : ℕ
  pub made : List Sym
  pub taken : take (length made) (drop at list) ≡ made
  pub sum : sum_from carry n part ≡ sum_from price at made
  pub straight : is_straight made ≡ true
  pub most : words.most_words made ≤ words.most_words part
  pub routine : most_words made ≤ most_words part
  pub few : length made ≤ length part
  pub near : (c size : ℕ) → AreNear c size part → AreNear c size made

-- ---- sums
sum_same : (p q : ℕ → ℕ) → ((k : ℕ) → p k ≡ q k) → (n : ℕ) (part : List Sym) → sum_from p n part ≡ sum_from q n part
sum_same p q same n [] = refl
sum_same p q same n (s ∷ part) = ap (λ m. m + sum_from p (n + 1) part) (same n) ∙ ap (λ m. q n + m) (sum_same p q same (n + 1) part)

sum_shift : (p : ℕ → ℕ) (n : ℕ) (part : List Sym) → sum_from p (suc n) part ≡ sum_from (λ k. p (suc k)) n part
sum_shift p n [] = refl
sum_shift p n (s ∷ part) =
    let e : suc n + 1 ≡ suc (n + 1) = omega arith in
    ap (λ m. p (suc n) + sum_from p m part) e ∙ ap (λ m. p (suc n) + m) (sum_shift p (n + 1) part)

sum_stays : (carry price later : ℕ → ℕ) (s t : Sym) (old made : List Sym) → carry 0 ≡ price 0 → ((k : ℕ) → carry (suc k) ≡ later k)
    → sum_from later 0 old ≡ sum_from (λ k. price (suc k)) 0 made → sum_from carry 0 (s ∷ old) ≡ sum_from price 0 (t ∷ made)
sum_stays carry price later s t old made first same before =
    let a = sum_shift carry 0 old ∙ sum_same (λ k. carry (suc k)) later same 0 old in
    let b = sum_shift price 0 made in
    omega arith

sum_goes : (carry price later : ℕ → ℕ) (s : Sym) (old made : List Sym) → carry 0 ≡ 0 → ((k : ℕ) → carry (suc k) ≡ later k)
    → sum_from later 0 old ≡ sum_from price 0 made → sum_from carry 0 (s ∷ old) ≡ sum_from price 0 made
sum_goes carry price later s old made first same before =
    let a = sum_shift carry 0 old ∙ sum_same (λ k. carry (suc k)) later same 0 old in
    omega arith

-- ---- from the front on
front_sum : (price : ℕ → ℕ) (ys zs : List Row) → is_straight (olds ys) ≡ true → sum_from (carried_by (ys ++ zs) price) 0 (olds ys) ≡ sum_from price 0 (puts ys)
front_sum price [] zs e = refl
front_sum price (At (syms.Label label) act said ∷ ys) zs e = never (sym (straight_first (syms.Label label) (olds ys) e))
front_sum price (At s Keeps said ∷ ys) zs e =
    sum_stays (carried_by (At s Keeps said ∷ ys ++ zs) price) price (carried_by (ys ++ zs) (λ k. price (suc k))) s s (olds ys) (puts ys) refl (λ k. refl)
    (front_sum (λ k. price (suc k)) ys zs (straight_later s (olds ys) e))
front_sum price (At s Drops said ∷ ys) zs e =
    sum_goes (carried_by (At s Drops said ∷ ys ++ zs) price) price (carried_by (ys ++ zs) price) s (olds ys) (puts ys) refl (λ k. refl)
    (front_sum price ys zs (straight_later s (olds ys) e))
front_sum price (At s (Puts op n) said ∷ ys) zs e =
    sum_stays (carried_by (At s (Puts op n) said ∷ ys ++ zs) price) price (carried_by (ys ++ zs) (λ k. price (suc k))) s (syms.Literal op (Number n)) (olds ys) (puts ys) refl (λ k. refl)
    (front_sum (λ k. price (suc k)) ys zs (straight_later s (olds ys) e))
front_sum price (At s Narrows said ∷ ys) zs e =
    sum_stays (carried_by (At s Narrows said ∷ ys ++ zs) price) price (carried_by (ys ++ zs) (λ k. price (suc k))) s (narrowed s) (olds ys) (puts ys) refl (λ k. refl)
    (front_sum (λ k. price (suc k)) ys zs (straight_later s (olds ys) e))
front_sum price (At s Clears said ∷ ys) zs e =
    sum_stays (carried_by (At s Clears said ∷ ys ++ zs) price) price (carried_by (ys ++ zs) (λ k. price (suc k))) s (cleared s) (olds ys) (puts ys) refl (λ k. refl)
    (front_sum (λ k. price (suc k)) ys zs (straight_later s (olds ys) e))
front_sum price (At s (Reads n) said ∷ ys) zs e =
    sum_stays (carried_by (At s (Reads n) said ∷ ys ++ zs) price) price (carried_by (ys ++ zs) (λ k. price (suc k))) s (reads_before n s) (olds ys) (puts ys) refl (λ k. refl)
    (front_sum (λ k. price (suc k)) ys zs (straight_later s (olds ys) e))
front_sum price (At s (Tests flag turned) said ∷ ys) zs e =
    sum_stays (carried_by (At s (Tests flag turned) said ∷ ys ++ zs) price) price (carried_by (ys ++ zs) (λ k. price (suc k))) s (tests_flag flag turned s) (olds ys) (puts ys) refl (λ k. refl)
    (front_sum (λ k. price (suc k)) ys zs (straight_later s (olds ys) e))

front : (price : ℕ → ℕ) (ys zs : List Row) → is_straight (olds ys) ≡ true → is_steady (ys ++ zs) ≡ true → Stretch (carried_by (ys ++ zs) price) price (puts (ys ++ zs)) 0 (olds ys)
front price ys zs straight steady = record {
  at = 0;
  made = puts ys;
  taken = ap (take (length (puts ys))) (puts_on ys zs) ∙ take-append_seam (puts ys) (puts zs);
  sum = front_sum price ys zs straight;
  straight = straight_made ys zs straight steady;
  most = most_fewer ys;
  routine = routine_fewer ys;
  few = fewer ys;
  near = λ c size h. near_made c size ys zs steady h;
}

first : (price : ℕ → ℕ) (rows : List Row) (part : List Sym) → is_steady rows ≡ true → take (length part) (olds rows) ≡ part → is_straight part ≡ true → Stretch (carried_by rows price) price (puts rows) 0 part
first price rows part steady is straight =
    let k = length part in
    let ys : List Row = take k rows in
    let zs : List Row = drop k rows in
    let whole : ys ++ zs ≡ rows = take-append-drop k rows in
    let same : olds ys ≡ part = olds_take k rows ∙ is in
    let P : List Row → Type 0 = λ l. is_steady l ≡ true → Stretch (carried_by l price) price (puts l) 0 (olds ys) in
    let here = subst P whole (λ e. front price ys zs (ap is_straight same ∙ straight) e) steady in
    subst (λ (l : List Sym). Stretch (carried_by rows price) price (puts rows) 0 l) same here

-- ---- from any index on
nothing : (carry price : ℕ → ℕ) (list : List Sym) (n : ℕ) (part : List Sym) → [] ≡ part → Stretch carry price list n part
nothing carry price list n [] e = record { at = 0; made = []; taken = refl; sum = refl; straight = refl; most = omega arith; routine = omega arith; few = omega arith; near = λ c size h. h }
nothing carry price list n (s ∷ part) e = absurd (cc)

none_taken : (k : ℕ) (list : List Sym) → list ≡ [] → take k list ≡ []
none_taken zero list e = refl
none_taken (suc k) [] e = refl
none_taken (suc k) (s ∷ list) e = absurd (cc)

-- behind a first row
behind : (o : Option Sym) (price : ℕ → ℕ) (rows : List Row) (n : ℕ) (part : List Sym)
    → ((price : ℕ → ℕ) → Stretch (carried_by rows price) price (puts rows) n part)
    → Stretch (λ k. price_at (slice_get rows k) (price (if is_none o then place_in rows k else suc (place_in rows k)))) price (in_front o (puts rows)) n part
behind None price rows n part later = later price
behind (Some s) price rows n part later =
    let h = later (λ k. price (suc k)) in
    record { at = suc h.at; made = h.made; taken = h.taken; sum = h.sum ∙ sym (sum_shift price h.at h.made); straight = h.straight; most = h.most; routine = h.routine; few = h.few; near = h.near }

shifted : (carry price : ℕ → ℕ) (list : List Sym) (n : ℕ) (part : List Sym) → Stretch (λ k. carry (suc k)) price list n part → Stretch carry price list (suc n) part
shifted carry price list n part h = record { at = h.at; made = h.made; taken = h.taken; sum = sum_shift carry n part ∙ h.sum; straight = h.straight; most = h.most; routine = h.routine; few = h.few; near = h.near }

pub stretch : (n : ℕ) (price : ℕ → ℕ) (rows : List Row) (part : List Sym) → is_steady rows ≡ true → take (length part) (drop n (olds rows)) ≡ part → is_straight part ≡ true
    → Stretch (carried_by rows price) price (puts rows) n part
stretch zero price rows part steady is straight = first price rows part steady is straight
stretch (suc n) price [] part steady is straight = nothing (carried_by [] price) price [] (suc n) part (sym (none_taken (length part) [] refl) ∙ is)
stretch (suc n) price (At s act said ∷ rows) part steady is straight =
    shifted (carried_by (At s act said ∷ rows) price) price (puts (At s act said ∷ rows)) n part
    (behind (put_by (At s act said)) price rows n part (λ p. stretch n p rows part (steady_later s act said rows steady) is straight))
