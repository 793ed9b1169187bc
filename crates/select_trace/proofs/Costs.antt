-- What part of a routine's code costs, by the words that it can become.
use Rattle.std.proofs.Common.{◌≡◌, ℕ, suc, ◌+◌, ◌≤◌, Bool, true, false, List, [], ◌∷◌, ◌++◌, append_assoc, append-nil, refl, ap, sym, ◌∙◌, subst, arith, drop, take, length, Some}
use Rattle.std.specs.Prelude.{not, ◌&&◌, ◌||◌}
use Rattle.std.proofs.lemmas.List.{length-append}
use Rattle.core_code.specs.declared.code.Byte.{Byte}
use Rattle.pic_world.specs.declared.Root.{Root}
use Rattle.sym_code.specs.declared.code.Label.{Label}
use Rattle.sym_code.specs.declared.code.Sym.{Sym}
use Rattle.sym_code.specs.declared.code.Sym.TheVariants as sym
use Rattle.math_helpers.specs.Shape.{accesses_frame, jumps, select_words, words_from, most_words, is_skip, breaks, is_straight, sum_from, ArePriced}
use Rattle.select_trace.specs.Positions.{dues}
use Rattle.select_trace.specs.Silent.{plain, plain_code, IsStraight}
use Rattle.select_trace.proofs.QuietSteps.{head_of}
use Rattle.select_trace.proofs.Straight as straights
use Rattle.select_trace.proofs.Walked.{Kind, Named, Jumps, Turns, Straight, kind, AreSilent, due_word}

-- so many instructions from a place on, where labels cost nothing
abbrev pub paid_from : (ℕ → ℕ) → ℕ → List Sym → ℕ
paid_from price i [] = 0
paid_from price i (sym.Label label ∷ rest) = paid_from price (i + 1) rest
paid_from price i (x ∷ rest) = price i + paid_from price (i + 1) rest

-- before each label, and at the end, stands no skip; so too before the code; and no table is read
abbrev pub fit : Bool → List Sym → Bool
fit skip [] = not skip
fit skip (sym.Label label ∷ rest) = not skip && fit false rest
fit skip (sym.Table table root ∷ rest) = false
fit skip (x ∷ rest) = fit (is_skip x) rest

-- a label, a read of a table, or another word
pub data Sort (x : Sym) : Type 0 where
  Marks : (l : Label) → x ≡ sym.Label l → Sort x
  Reads : (table : ℕ) (root : Root) → x ≡ sym.Table table root → Sort x
  Word : breaks x ≡ false → Sort x

sort : (x : Sym) → Sort x
sort (sym.Label l) = Marks l refl
sort (sym.Table table root) = Reads table root refl
sort (sym.File op file into) = Word refl
sort (sym.Movwf file) = Word refl
sort (sym.Clrf file) = Word refl
sort (sym.Bit op file n) = Word refl
sort (sym.Literal op value) = Word refl
sort (sym.Plain op) = Word refl
sort (sym.Call target) = Word refl
sort (sym.Goto target) = Word refl
sort (sym.SelectBank which to) = Word refl
sort (sym.SelectPage which target) = Word refl

-- what the definitions say of a word
record OfWord (x : Sym) : Type 0 where
  paid : (price : ℕ → ℕ) (i : ℕ) (rest : List Sym) → paid_from price i (x ∷ rest) ≡ price i + paid_from price (i + 1) rest
  fits : (skip : Bool) (rest : List Sym) → fit skip (x ∷ rest) ≡ fit (is_skip x) rest
  last : is_straight (x ∷ []) ≡ not (is_skip x)
  more : (y : Sym) (ys : List Sym) → is_straight (x ∷ y ∷ ys) ≡ is_straight (y ∷ ys)
  words : (bank page : Bool) (rest : List Sym) → words_from bank page (x ∷ rest) ≡ 1 + select_words bank (accesses_frame x) + select_words page (jumps x) + words_from (bank || accesses_frame x) (page || jumps x) rest

of_word : (x : Sym) → breaks x ≡ false → OfWord x
of_word (sym.Label l) h = absurd (cc)
of_word (sym.Table table root) h = absurd (cc)
of_word (sym.File op file into) h = record { paid = λ price i rest. refl; fits = λ skip rest. refl; last = refl; more = λ y ys. refl; words = λ bank page rest. refl }
of_word (sym.Movwf file) h = record { paid = λ price i rest. refl; fits = λ skip rest. refl; last = refl; more = λ y ys. refl; words = λ bank page rest. refl }
of_word (sym.Clrf file) h = record { paid = λ price i rest. refl; fits = λ skip rest. refl; last = refl; more = λ y ys. refl; words = λ bank page rest. refl }
of_word (sym.Bit op file n) h = record { paid = λ price i rest. refl; fits = λ skip rest. refl; last = refl; more = λ y ys. refl; words = λ bank page rest. refl }
of_word (sym.Literal op value) h = record { paid = λ price i rest. refl; fits = λ skip rest. refl; last = refl; more = λ y ys. refl; words = λ bank page rest. refl }
of_word (sym.Plain op) h = record { paid = λ price i rest. refl; fits = λ skip rest. refl; last = refl; more = λ y ys. refl; words = λ bank page rest. refl }
of_word (sym.Call target) h = record { paid = λ price i rest. refl; fits = λ skip rest. refl; last = refl; more = λ y ys. refl; words = λ bank page rest. refl }
of_word (sym.Goto target) h = record { paid = λ price i rest. refl; fits = λ skip rest. refl; last = refl; more = λ y ys. refl; words = λ bank page rest. refl }
of_word (sym.SelectBank which to) h = record { paid = λ price i rest. refl; fits = λ skip rest. refl; last = refl; more = λ y ys. refl; words = λ bank page rest. refl }
of_word (sym.SelectPage which target) h = record { paid = λ price i rest. refl; fits = λ skip rest. refl; last = refl; more = λ y ys. refl; words = λ bank page rest. refl }

-- nothing is known behind a label
words_split : (bank page : Bool) (xs : List Sym) (l : Label) (rest : List Sym) → words_from bank page (xs ++ (sym.Label l ∷ rest)) ≡ words_from bank page xs + words_from false false rest
words_split bank page [] l rest = omega arith
words_split bank page (x ∷ xs) l rest = by (λ b p. words_split b p xs l rest) (sort x)
  where
    by : ((b p : Bool) → words_from b p (xs ++ (sym.Label l ∷ rest)) ≡ words_from b p xs + words_from false false rest) → Sort x → words_from bank page (x ∷ (xs ++ (sym.Label l ∷ rest))) ≡ words_from bank page (x ∷ xs) + words_from false false rest
    by more (Marks k e) = subst (λ (y : Sym). words_from bank page (y ∷ (xs ++ (sym.Label l ∷ rest))) ≡ words_from bank page (y ∷ xs) + words_from false false rest) (sym e) (more false false)
    by more (Reads table root e) =
        subst (λ (y : Sym). words_from bank page (y ∷ (xs ++ (sym.Label l ∷ rest))) ≡ words_from bank page (y ∷ xs) + words_from false false rest) (sym e)
        (let h = more (bank || false) (page || false) in omega arith)
    by more (Word h) =
        let w = of_word x h in
        put _ _ _ _ _ _ (w.words bank page (xs ++ (sym.Label l ∷ rest))) (w.words bank page xs) (more (bank || accesses_frame x) (page || jumps x))
      where
        put : (a b c d e f : ℕ) → a ≡ c + d → b ≡ c + e → d ≡ e + f → a ≡ b + f
        put a b c d e f p q r = omega arith

abbrev has_no_labels : List Sym → Bool
has_no_labels [] = true
has_no_labels (x ∷ xs) = not (breaks x) && has_no_labels xs

both : (a b : Bool) → (a && b) ≡ true → (a ≡ true) × (b ≡ true)
both true b e = (refl, e)
both false b e = absurd (cc)

and_true : (a b : Bool) → a ≡ true → b ≡ true → (a && b) ≡ true
and_true a b e f = ap (λ c. c && b) e ∙ f

no_skip : (skip : Bool) → not skip ≡ true → skip ≡ false
no_skip true e = absurd (cc)
no_skip false e = refl

no_labels_more : (xs : List Sym) (x : Sym) → has_no_labels xs ≡ true → breaks x ≡ false → has_no_labels (xs ++ (x ∷ [])) ≡ true
no_labels_more [] x h w = and_true (not (breaks x)) true (ap not w) refl
no_labels_more (y ∷ ys) x h w = let k = both (not (breaks y)) (has_no_labels ys) h in and_true (not (breaks y)) (has_no_labels (ys ++ (x ∷ []))) k.0 (no_labels_more ys x k.1 w)

straight_end : (xs : List Sym) (x : Sym) → has_no_labels xs ≡ true → breaks x ≡ false → is_skip x ≡ false → is_straight (xs ++ (x ∷ [])) ≡ true
straight_end [] x h w s = (of_word x w).last ∙ ap not s
straight_end (y ∷ []) x h w s = let k = both (not (breaks y)) true h in (of_word y (no_skip (breaks y) k.0)).more x [] ∙ straight_end [] x refl w s
straight_end (y ∷ z ∷ zs) x h w s =
    let k = both (not (breaks y)) (has_no_labels (z ∷ zs)) h in
    (of_word y (no_skip (breaks y) k.0)).more z (zs ++ (x ∷ [])) ∙ straight_end (z ∷ zs) x k.1 w s

sum_more : (price : ℕ → ℕ) (j : ℕ) (xs : List Sym) (x : Sym) → sum_from price j (xs ++ (x ∷ [])) ≡ sum_from price j xs + price (j + length xs)
sum_more price j [] x = ap (λ k. price k + 0) (let f : j ≡ j + 0 = omega arith in f) ∙ (omega arith)
sum_more price j (y ∷ ys) x =
    let h : sum_from price (j + 1) (ys ++ (x ∷ [])) ≡ sum_from price (j + 1) ys + price (j + 1 + length ys) = sum_more price (j + 1) ys x in
    let f : price (j + 1 + length ys) ≡ price (j + suc (length ys)) = ap price (let f : j + 1 + length ys ≡ j + suc (length ys) = omega arith in f) in
    put _ _ _ _ _ h f
  where
    put : (a b c d e : ℕ) → b ≡ c + d → d ≡ e → a + b ≡ a + c + e
    put a b c d e p q = omega arith

take_front : (xs ys : List Sym) → take (length xs) (xs ++ ys) ≡ xs
take_front [] ys = refl
take_front (x ∷ xs) ys = ap (λ (zs : List Sym). x ∷ zs) (take_front xs ys)

-- Behind instructions that stand in front of the code, without a label among them.
record Front (price : ℕ → ℕ) (code post : List Sym) (j : ℕ) (seg xs : List Sym) (skip : Bool) : Type 0 where
  there : drop j code ≡ seg ++ (xs ++ post)
  bound : skip ≡ false → sum_from price j seg ≤ most_words seg
  plain : has_no_labels seg ≡ true

abbrev Bounded : (ℕ → ℕ) → ℕ → List Sym → List Sym → Type 0
Bounded price j seg xs = sum_from price j seg + paid_from price (j + length seg) xs ≤ most_words (seg ++ xs)

bounded : (price : ℕ → ℕ) (code post : List Sym) → ArePriced price code → (xs seg : List Sym) (j : ℕ) (skip : Bool) → Front price code post j seg xs skip → fit skip xs ≡ true → Bounded price j seg xs
bounded price code post priced [] seg j skip f fits =
    let h : sum_from price j seg ≤ most_words seg = f.bound (no_skip skip fits) in
    let e : most_words (seg ++ []) ≡ most_words seg = ap most_words (append-nil seg) in
    omega arith
bounded price code post priced (x ∷ xs) seg j skip f fits = by (λ s i b. bounded price code post priced xs s i b) (sort x)
  where
    by : ((s : List Sym) (i : ℕ) (b : Bool) → Front price code post i s xs b → fit b xs ≡ true → Bounded price i s xs) → Sort x → Bounded price j seg (x ∷ xs)
    by rest (Marks l e) = subst (λ (y : Sym). Bounded price j seg (y ∷ xs)) (sym e) marked
      where
        fit2 : (not skip ≡ true) × (fit false xs ≡ true)
        fit2 = both (not skip) (fit false xs) (ap (λ (y : Sym). fit skip (y ∷ xs)) (sym e) ∙ fits)

        behind : drop (j + length seg + 1) code ≡ xs ++ post
        behind = (head_of code (j + length seg) x (xs ++ post) (drop_past code j seg (x ∷ (xs ++ post)) f.there)).1
          where
            drop_past : (code : List Sym) (i : ℕ) (xs ys : List Sym) → drop i code ≡ xs ++ ys → drop (i + length xs) code ≡ ys
            drop_past code i [] ys e = ap (λ k. drop k code) (let f : i + 0 ≡ i = omega arith in f) ∙ e
            drop_past code i (x ∷ xs) ys e = ap (λ k. drop k code) (let f : i + suc (length xs) ≡ i + 1 + length xs = omega arith in f) ∙ drop_past code (i + 1) xs ys (head_of code i x (xs ++ ys) e).1

        marked : Bounded price j seg (sym.Label l ∷ xs)
        marked =
            let h : sum_from price j seg ≤ most_words seg = f.bound (no_skip skip fit2.0) in
            let k : 0 + paid_from price (j + length seg + 1 + 0) xs ≤ most_words xs = rest [] (j + length seg + 1) false (record { there = behind; bound = λ e. let z : 0 ≤ 0 = omega arith in z; plain = refl }) fit2.1 in
            let n : paid_from price (j + length seg + 1 + 0) xs ≡ paid_from price (j + length seg + 1) xs = ap (λ i. paid_from price i xs) (let g : j + length seg + 1 + 0 ≡ j + length seg + 1 = omega arith in g) in
            let w : most_words (seg ++ (sym.Label l ∷ xs)) ≡ most_words seg + most_words xs = words_split false false seg l xs in
            put _ _ _ _ _ _ h k n w
          where
            put : (a b c d e f : ℕ) → a ≤ b → 0 + c ≤ d → c ≡ e → f ≡ b + d → a + e ≤ f
            put a b c d e f p q r s = omega arith
    by rest (Reads table root e) = let z : false ≡ true = ap (λ (y : Sym). fit skip (y ∷ xs)) (sym e) ∙ fits in absurd (cc)
    by rest (Word w) =
        let o = of_word x w in
        let moved : (seg ++ (x ∷ [])) ++ (xs ++ post) ≡ seg ++ (x ∷ (xs ++ post)) = append_assoc seg (x ∷ []) (xs ++ post) in
        let there : drop j code ≡ (seg ++ (x ∷ [])) ++ (xs ++ post) = f.there ∙ sym moved in
        let word_of : has_no_labels (seg ++ (x ∷ [])) ≡ true = no_labels_more seg x f.plain w in
        let k : Bounded price j (seg ++ (x ∷ [])) xs = rest (seg ++ (x ∷ [])) j (is_skip x) (record {
          there = there;
          bound = λ s. priced j (seg ++ (x ∷ [])) (ap (take (length (seg ++ (x ∷ [])))) there ∙ take_front (seg ++ (x ∷ [])) (xs ++ post)) (straight_end seg x f.plain w s);
          plain = word_of;
        }) (sym (o.fits skip xs) ∙ fits) in
        let a : sum_from price j (seg ++ (x ∷ [])) ≡ sum_from price j seg + price (j + length seg) = sum_more price j seg x in
        let b : paid_from price (j + length (seg ++ (x ∷ []))) xs ≡ paid_from price (j + length seg + 1) xs = ap (λ i. paid_from price i xs) (let n : length (seg ++ (x ∷ [])) ≡ length seg + 1 = length-append seg (x ∷ []) in omega arith) in
        let c : most_words ((seg ++ (x ∷ [])) ++ xs) ≡ most_words (seg ++ (x ∷ xs)) = ap most_words (append_assoc seg (x ∷ []) xs) in
        put _ _ _ _ _ _ _ _ k a b c (o.paid price (j + length seg) xs)
      where
        put : (t u v s p q w y : ℕ) → t + u ≤ v → t ≡ s + p → u ≡ q → v ≡ w → y ≡ p + q → s + y ≤ w
        put t u v s p q w y h a b c d = omega arith

-- part of the code, before whose labels and at whose end stands no skip
pub part_bounded : (price : ℕ → ℕ) (code xs post : List Sym) (i : ℕ) → ArePriced price code → drop i code ≡ xs ++ post → fit false xs ≡ true → paid_from price i xs ≤ most_words xs
part_bounded price code xs post i priced there fits =
    let h : 0 + paid_from price (i + 0) xs ≤ most_words xs = bounded price code post priced xs [] i false (record { there = there; bound = λ e. let z : 0 ≤ 0 = omega arith in z; plain = refl }) fits in
    let n : paid_from price (i + 0) xs ≡ paid_from price i xs = ap (λ k. paid_from price k xs) (let g : i + 0 ≡ i = omega arith in g) in
    omega arith

-- instructions that go on read no table
unbroken : (P : Byte → Type 0) (x : Sym) → IsStraight P x → breaks x ≡ false
unbroken P (sym.Label l) h = absurd h
unbroken P (sym.Table table root) h = absurd h
unbroken P x h = refl

-- the same over bytes by number
pub dues_paid : (P : Byte → Type 0) (at : Byte → ℕ) (price : ℕ → ℕ) (i : ℕ) (xs : List Sym) → AreSilent P xs → dues price i (plain_code at xs) ≡ paid_from price i xs
dues_paid P at price i [] all = refl
dues_paid P at price i (x ∷ xs) all = by (dues_paid P at price (i + 1) xs all.1) (kind P x all.0)
  where
    by : dues price (i + 1) (plain_code at xs) ≡ paid_from price (i + 1) xs → Kind P x → dues price i (plain at x ∷ plain_code at xs) ≡ paid_from price i (x ∷ xs)
    by h (Named l e) = subst (λ (y : Sym). dues price i (plain at y ∷ plain_code at xs) ≡ paid_from price i (y ∷ xs)) (sym e) (let k : dues price (i + 1) (plain_code at xs) ≡ paid_from price (i + 1) xs = h in omega arith)
    by h (Jumps l e) = subst (λ (y : Sym). dues price i (plain at y ∷ plain_code at xs) ≡ paid_from price i (y ∷ xs)) (sym e) (ap (λ n. price i + n) h)
    by h (Turns e) = subst (λ (y : Sym). dues price i (plain at y ∷ plain_code at xs) ≡ paid_from price i (y ∷ xs)) (sym e) (ap (λ n. price i + n) h)
    by h (Straight k) =
        ap (λ n. n + dues price (i + 1) (plain_code at xs)) (due_word price i (plain at x) (straights.passed P at x k)) ∙ ap (λ n. price i + n) h ∙ sym ((of_word x (unbroken P x k)).paid price i xs)
