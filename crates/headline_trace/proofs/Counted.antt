-- The real words of a routine are the prices of its instructions, and these are summed between its labels.
use Rattle.std.proofs.Common.{◌≡◌, ℕ, zero, suc, ◌+◌, ◌≤◌, Bool, true, false, not, ◌&&◌, ◌||◌, if◌then◌else◌, List, [], ◌∷◌, ◌++◌, length, refl, sym, ap, ◌∙◌, subst, arith}
use Rattle.std.specs.Prelude.{take, drop}
use Rattle.std.proofs.lemmas.Bool.{and_parts}
use Rattle.std.proofs.lemmas.List.{length-append}
use Rattle.std.proofs.lemmas.List.Sums.{sum_by-cons}
use Rattle.sym_code.specs.Selects.{is_select, bare}
use Rattle.sym_code.specs.Words.{words_of_one, words_in}
use Rattle.sym_code.specs.declared.code.Sym.{Sym}
use Rattle.sym_code.specs.declared.code.Sym.TheVariants as syms
use Rattle.sym_code.specs.Cost.{time_of}
use Rattle.math_helpers.specs.Shape.{select_words, accesses_frame, jumps, words_from, most_words, is_straight, sum_from, ArePriced}
use Rattle.bank_page.specs.Kinds.{is_label}
use Rattle.bank_page.specs.Links.{price_from}

-- ---- what instructions cost together, labels left out
price_of : Bool → ℕ → ℕ
price_of true n = 0
price_of false n = n

unfoldable pub counted : (ℕ → ℕ) → ℕ → List Sym → ℕ
unfolding price_of
counted price n [] = 0
counted price n (s ∷ list) = price_of (is_label s) (price n) + counted price (n + 1) list

counted_same : (p q : ℕ → ℕ) → ((k : ℕ) → p k ≡ q k) → (n : ℕ) (list : List Sym) → counted p n list ≡ counted q n list
unfolding counted
counted_same p q same n [] = refl
counted_same p q same n (s ∷ list) = ap (λ m. price_of (is_label s) m + counted p (n + 1) list) (same n) ∙ ap (λ m. price_of (is_label s) (q n) + m) (counted_same p q same (n + 1) list)

counted_shift : (p : ℕ → ℕ) (n : ℕ) (list : List Sym) → counted p (suc n) list ≡ counted (λ k. p (suc k)) n list
unfolding counted
counted_shift p n [] = refl
counted_shift p n (s ∷ list) =
    let e : suc n + 1 ≡ suc (n + 1) = omega arith in
    ap (λ m. price_of (is_label s) (p (suc n)) + counted p m list) e ∙ ap (λ m. price_of (is_label s) (p (suc n)) + m) (counted_shift p (n + 1) list)

-- ---- words of code with its selects
price_select : (n : ℕ) (s : Sym) (list : List Sym) → is_select s ≡ true → (k : ℕ) → price_from n (s ∷ list) k ≡ price_from (n + 1) list k
price_select n s list is zero = ap (λ (b : Bool). if b then price_from (n + 1) list zero else (if is_label s then 1 else time_of s + n)) is
price_select n s list is (suc k) = ap (λ (b : Bool). if b then price_from (n + 1) list (suc k) else price_from (if is_label s then n else 0) list k) is

-- an instruction takes one of the chip at least
some_time : (s : Sym) → 1 ≤ time_of s
some_time (syms.Table table root) = omega arith
some_time s = omega arith

price_here : (n : ℕ) (s : Sym) (list : List Sym) → is_select s ≡ false → is_label s ≡ false → 1 + n ≤ price_from n (s ∷ list) zero
price_here n s list e l =
    let time = some_time s in
    let price : price_from n (s ∷ list) zero ≡ time_of s + n =
    ap (λ (b : Bool). if b then price_from (n + 1) list zero else (if is_label s then 1 else time_of s + n)) e ∙ ap (λ (b : Bool). if b then 1 else time_of s + n) l in
    omega (arith, time, price)

price_later : (n : ℕ) (s : Sym) (list : List Sym) → is_select s ≡ false → (k : ℕ) → price_from n (s ∷ list) (suc k) ≡ price_from (if is_label s then n else 0) list k
price_later n s list e k = ap (λ (b : Bool). if b then price_from (n + 1) list (suc k) else price_from (if is_label s then n else 0) list k) e

label_words : (s : Sym) → is_label s ≡ true → words_of_one s ≡ 0
label_words (syms.Label label) e = refl
label_words s e = absurd (cc)

other_words : (s : Sym) → is_label s ≡ false → words_of_one s ≡ 1
other_words (syms.Label label) e = absurd (cc)
other_words s e = refl

select_no_label : (s : Sym) → is_select s ≡ true → is_label s ≡ false
select_no_label (syms.Label label) e = absurd (cc)
select_no_label s e = refl

-- one element more in front
words_more : (s : Sym) (more : List Sym) → ((n : ℕ) → n + words_in more ≤ counted (price_from n more) 0 (bare more)) → (n : ℕ) → n + words_in (s ∷ more) ≤ counted (price_from n (s ∷ more)) 0 (bare (s ∷ more))
unfolding counted
words_more s more below n = by (is_select s) (is_label s) refl refl where
  sum : words_in (s ∷ more) ≡ words_of_one s + words_in more
  sum = sum_by-cons words_of_one s more

  put : is_select s ≡ false → counted (price_from n (s ∷ more)) 0 (bare (s ∷ more)) ≡ price_of (is_label s) (price_from n (s ∷ more) 0) + counted (price_from (if is_label s then n else 0) more) 0 (bare more)
  put f =
      ap (λ (b : Bool). counted (price_from n (s ∷ more)) 0 (if not b then s ∷ bare more else bare more)) f
      ∙ ap (λ m. price_of (is_label s) (price_from n (s ∷ more) 0) + m)
      (counted_shift (price_from n (s ∷ more)) 0 (bare more)
      ∙ counted_same (λ k. price_from n (s ∷ more) (suc k)) (price_from (if is_label s then n else 0) more) (price_later n s more f) 0 (bare more))

  by : (a b : Bool) → is_select s ≡ a → is_label s ≡ b → n + words_in (s ∷ more) ≤ counted (price_from n (s ∷ more)) 0 (bare (s ∷ more))
  by true b f g =
      let rest = below (n + 1) in
      let one = other_words s (select_no_label s f) in
      let out : counted (price_from n (s ∷ more)) 0 (bare (s ∷ more)) ≡ counted (price_from (n + 1) more) 0 (bare more) =
      ap (λ (b : Bool). counted (price_from n (s ∷ more)) 0 (if not b then s ∷ bare more else bare more)) f
      ∙ counted_same (price_from n (s ∷ more)) (price_from (n + 1) more) (price_select n s more f) 0 (bare more) in
      omega (arith, rest, one, out, sum)
  by false true f g =
      let rest = below n in
      let none = label_words s g in
      let out = put f in
      let cost = ap (λ (b : Bool). price_of b (price_from n (s ∷ more) 0) + counted (price_from (if b then n else 0) more) 0 (bare more)) g in
      omega (arith, rest, none, out, cost, sum)
  by false false f g =
      let rest = below 0 in
      let one = other_words s g in
      let out = put f in
      let cost = ap (λ (b : Bool). price_of b (price_from n (s ∷ more) 0) + counted (price_from (if b then n else 0) more) 0 (bare more)) g in
      let price = price_here n s more f g in
      omega (arith, rest, one, out, cost, price, sum)

-- the last instruction
words_last : (last : Sym) → is_select last ≡ false → is_label last ≡ false → (n : ℕ) → n + words_in (last ∷ []) ≤ counted (price_from n (last ∷ [])) 0 (bare (last ∷ []))
unfolding counted
words_last last e l n =
    let one = other_words last l in
    let sum = sum_by-cons words_of_one last [] in
    let price = price_here n last [] e l in
    let cost = ap (λ (b : Bool). price_of b (price_from n (last ∷ []) 0)) l in
    let rest : counted (price_from n (last ∷ [])) 0 (bare (last ∷ [])) ≡ price_of (is_label last) (price_from n (last ∷ []) 0) + 0 =
    ap (λ (b : Bool). counted (price_from n (last ∷ [])) 0 (if not b then last ∷ [] else [])) e in
    omega (arith, one, sum, price, cost, rest)

-- Of code that ends with an instruction, so many selects before it and its words are no more than what its instructions cost.
pub words_are : (list : List Sym) (last : Sym) → is_select last ≡ false → is_label last ≡ false → (n : ℕ) → n + words_in (list ++ last ∷ []) ≤ counted (price_from n (list ++ last ∷ [])) 0 (bare (list ++ last ∷ []))
words_are [] last e l n = words_last last e l n
words_are (s ∷ list) last e l n = words_more s (list ++ last ∷ []) (λ k. words_are list last e l k) n

-- ---- the end
-- the last of a list is an instruction
abbrev pub ends_well : List Sym → Bool
ends_well [] = false
ends_well (s ∷ []) = not (is_select s) && not (is_label s)
ends_well (s ∷ t ∷ rest) = ends_well (t ∷ rest)

pub well_behind : (xs ys : List Sym) → ends_well ys ≡ true → ends_well (xs ++ ys) ≡ true
well_behind [] ys e = e
well_behind (x ∷ []) [] e = absurd (cc)
well_behind (x ∷ []) (y ∷ ys) e = e
well_behind (x ∷ z ∷ xs) ys e = well_behind (z ∷ xs) ys e

pub record HasLast (list : List Sym) : Type 0 where
  pub front : List Sym
  pub last : Sym
  pub is : list ≡ front ++ last ∷ []
  pub no_select : is_select last ≡ false
  pub no_label : is_label last ≡ false

not_true : (b : Bool) → not b ≡ true → b ≡ false
not_true true e = absurd (cc)
not_true false e = refl

has_last : (list : List Sym) → ends_well list ≡ true → HasLast list
has_last [] e = absurd (cc)
has_last (s ∷ []) e =
    let parts = and_parts (not (is_select s)) (not (is_label s)) e in
    record { front = []; last = s; is = refl; no_select = not_true (is_select s) parts.0; no_label = not_true (is_label s) parts.1 }
has_last (s ∷ t ∷ rest) e =
    let more = has_last (t ∷ rest) e in
    record { front = s ∷ more.front; last = more.last; is = ap (λ l. s ∷ l) more.is; no_select = more.no_select; no_label = more.no_label }

-- so its words are no more than what its instructions cost
pub words_counted : (list : List Sym) → ends_well list ≡ true → words_in list ≤ counted (price_from 0 list) 0 (bare list)
words_counted list e =
    let x = has_last list e in
    let P : List Sym → Type 0 = λ l. words_in l ≤ counted (price_from 0 l) 0 (bare l) in
    let few = words_are x.front x.last x.no_select x.no_label 0 in
    subst P (sym x.is) (omega (arith, few))

-- ---- stretches between labels
-- instructions behind others, up to a label or the end, don't end with a skip
unfoldable pub segments : List Sym → List Sym → Bool
segments part [] = is_straight part
segments part (s ∷ rest) = if is_label s then is_straight part && segments [] rest else segments (part ++ s ∷ []) rest

pub no_label : List Sym → Bool
no_label [] = true
no_label (s ∷ list) = not (is_label s) && no_label list

words_step : (bank page : Bool) (s : Sym) (rest : List Sym) → is_label s ≡ false
    → words_from bank page (s ∷ rest) ≡ 1 + select_words bank (accesses_frame s) + select_words page (jumps s) + words_from (bank || accesses_frame s) (page || jumps s) rest
words_step bank page (syms.Label label) rest e = absurd (cc)
words_step bank page s rest e = refl

words_label : (bank page : Bool) (s : Sym) (rest : List Sym) → is_label s ≡ true → words_from bank page (s ∷ rest) ≡ words_from false false rest
words_label bank page (syms.Label label) rest e = refl
words_label bank page s rest e = absurd (cc)

behind_none : (n : ℕ) → n ≡ 0 + n
behind_none n = omega arith

-- at a label nothing is known
words_split : (bank page : Bool) (part : List Sym) (s : Sym) (rest : List Sym) → no_label part ≡ true → is_label s ≡ true → words_from bank page (part ++ s ∷ rest) ≡ words_from bank page part + words_from false false rest
unfolding no_label
words_split bank page [] s rest none e = words_label bank page s rest e ∙ behind_none (words_from false false rest)
words_split bank page (x ∷ part) s rest none e =
    let parts = and_parts (not (is_label x)) (no_label part) none in
    let below = words_split (bank || accesses_frame x) (page || jumps x) part s rest parts.1 e in
    let one = words_step bank page x (part ++ s ∷ rest) (not_true (is_label x) parts.0) in
    let two = words_step bank page x part (not_true (is_label x) parts.0) in
    omega (arith, below, one, two)

none_then : (part : List Sym) (s : Sym) → no_label part ≡ true → is_label s ≡ false → no_label (part ++ s ∷ []) ≡ true
unfolding no_label
none_then [] s none e = ap (λ (b : Bool). not b && true) e
none_then (x ∷ part) s none e =
    let parts = and_parts (not (is_label x)) (no_label part) none in
    ap (λ (b : Bool). b && no_label (part ++ s ∷ [])) parts.0 ∙ none_then part s parts.1 e

sum_then : (price : ℕ → ℕ) (n : ℕ) (part : List Sym) (s : Sym) → sum_from price n (part ++ s ∷ []) ≡ sum_from price n part + price (n + length part)
sum_then price n [] s = let z : n + 0 ≡ n = omega arith in let e = ap price z in omega (arith, e)
sum_then price n (x ∷ part) s =
    let below = sum_then price (n + 1) part s in
    let z : n + 1 + length part ≡ n + suc (length part) = omega arith in
    let e = ap price z in
    omega (arith, below, e)

-- lists by their fronts
append_joined : (xs ys zs : List Sym) → xs ++ (ys ++ zs) ≡ (xs ++ ys) ++ zs
append_joined [] ys zs = refl
append_joined (x ∷ xs) ys zs = ap (λ l. x ∷ l) (append_joined xs ys zs)

append_none : (xs : List Sym) → xs ++ [] ≡ xs
append_none [] = refl
append_none (x ∷ xs) = ap (λ l. x ∷ l) (append_none xs)

taken_front : (part rest : List Sym) → take (length part) (part ++ rest) ≡ part
taken_front [] rest = refl
taken_front (x ∷ part) rest = ap (λ l. x ∷ l) (taken_front part rest)

tail : List Sym → List Sym
tail [] = []
tail (x ∷ xs) = xs

dropped_front : (part list : List Sym) (s : Sym) (rest : List Sym) (k : ℕ) → list ≡ part ++ s ∷ rest → k ≡ length part → drop (suc k) list ≡ rest
unfolding tail
dropped_front [] [] s rest k e is = absurd (cc)
dropped_front [] (z ∷ zs) s rest k e is = ap (λ j. drop j zs) is ∙ ap tail e
dropped_front (x ∷ part) [] s rest k e is = absurd (cc)
dropped_front (x ∷ part) (z ∷ zs) s rest zero e is = absurd (omega arith)
dropped_front (x ∷ part) (z ∷ zs) s rest (suc k) e is = dropped_front part zs s rest k (ap tail e) (omega arith)

dropped_behind : (n : ℕ) (list part : List Sym) (s : Sym) (rest : List Sym) (k : ℕ) → drop n list ≡ part ++ s ∷ rest → k ≡ n + length part → drop (suc k) list ≡ rest
dropped_behind zero list part s rest k e is = dropped_front part list s rest k e (omega arith)
dropped_behind (suc n) [] [] s rest k e is = absurd (cc)
dropped_behind (suc n) [] (x ∷ part) s rest k e is = absurd (cc)
dropped_behind (suc n) (y ∷ list) part s rest zero e is = absurd (omega arith)
dropped_behind (suc n) (y ∷ list) part s rest (suc k) e is = dropped_behind n list part s rest k e (omega arith)

-- Where stretches cost no more than their words, so do all instructions together.
module _ (price : ℕ → ℕ) (list : List Sym) (priced : ArePriced price list) where
  stretch : (n : ℕ) (part rest : List Sym) → drop n list ≡ part ++ rest → is_straight part ≡ true → sum_from price n part ≤ most_words part
  stretch n part rest is straight = priced n part (ap (take (length part)) is ∙ taken_front part rest) straight

  pub counted_few : (n : ℕ) (part rest : List Sym) → drop n list ≡ part ++ rest → no_label part ≡ true → segments part rest ≡ true
      → sum_from price n part + counted price (n + length part) rest ≤ most_words (part ++ rest)
  unfolding counted segments no_label
  counted_few n part [] is none good =
      let few = stretch n part [] is good in
      let same = ap most_words (append_none part) in
      omega (arith, few, same)
  counted_few n part (s ∷ rest) is none good =
      by (is_label s) refl good (counted_few (suc (n + length part)) [] rest (dropped_behind n list part s rest (n + length part) is refl) refl)
      (λ e g. counted_few n (part ++ s ∷ []) rest (is ∙ append_joined part (s ∷ []) rest) (none_then part s none e) g)
    where
      by : (b : Bool) → is_label s ≡ b → (if b then is_straight part && segments [] rest else segments (part ++ s ∷ []) rest) ≡ true
          → (segments [] rest ≡ true → sum_from price (suc (n + length part)) [] + counted price (suc (n + length part) + 0) rest ≤ most_words rest)
          → (is_label s ≡ false → segments (part ++ s ∷ []) rest ≡ true → sum_from price n (part ++ s ∷ []) + counted price (n + length (part ++ s ∷ [])) rest ≤ most_words ((part ++ s ∷ []) ++ rest))
          → sum_from price n part + counted price (n + length part) (s ∷ rest) ≤ most_words (part ++ s ∷ rest)
      by true e g later further =
          let parts = and_parts (is_straight part) (segments [] rest) g in
          let few = stretch n part (s ∷ rest) is parts.0 in
          let below = later parts.1 in
          let z : suc (n + length part) + 0 ≡ n + length part + 1 = omega arith in
          let same = ap (λ k. counted price k rest) z in
          let words = words_split false false part s rest none e in
          let cost = ap (λ (b : Bool). price_of b (price (n + length part)) + counted price (n + length part + 1) rest) e in
          omega (arith, few, below, same, words, cost)
      by false e g later further =
          let below = further e g in
          let sum = sum_then price n part s in
          let long = length-append part (s ∷ []) in
          let z : n + length (part ++ s ∷ []) ≡ n + length part + 1 = omega (arith, long) in
          let same = ap (λ k. counted price k rest) z in
          let whole = ap most_words (append_joined part (s ∷ []) rest) in
          let cost = ap (λ (b : Bool). price_of b (price (n + length part)) + counted price (n + length part + 1) rest) e in
          omega (arith, below, sum, same, whole, cost)

  -- all of them together
  pub all_few : segments [] list ≡ true → counted price 0 list ≤ most_words list
  unfolding no_label
  all_few good =
      let few = counted_few 0 [] list refl refl good in
      omega (arith, few)
