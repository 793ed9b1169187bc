-- It makes no difference whether selects are counted where they are first needed or before the skips in front of that.
use Rattle.std.proofs.Common.{◌≡◌, ℕ, ◌+◌, Bool, true, false, ◌||◌, if◌then◌else◌, List, [], ◌∷◌, refl, ap, ◌∙◌, arith}
use Rattle.pic_map.specs.declared.Placed.{Placed}
use Rattle.sym_code.specs.declared.code.BlockName.{BlockName}
use Rattle.sym_code.specs.declared.code.Sym.{Sym}
use Rattle.math_helpers.specs.Shape.{accesses_frame, jumps, select_words, words_from, is_straight}
use Rattle.bank_page.specs.Kinds.{is_label, is_skip}
use Rattle.bank_trace.proofs.Puts.{never}
use Rattle.bank_trace.proofs.Straight.{straight_first, straight_later}
use Rattle.bank_trace.proofs.Owned.{IsTame, AllTame}
use Rattle.bank_trace.proofs.Chained.{acc, jmp, words_step}

-- ---- of one thing that is selected or not, and needed or not
paid_one : (sel need : Bool) → (need ≡ true → sel ≡ true) → (select_words sel need ≡ 0) × ((sel || need) ≡ sel)
paid_one true true h = (refl, refl)
paid_one true false h = (refl, refl)
paid_one false true h = never (h refl)
paid_one false false h = (refl, refl)

-- what is selected already costs nothing more
pub paid_step : (words : Bool → Bool → ℕ) (bank page a j : Bool) → (a ≡ true → bank ≡ true) → (j ≡ true → page ≡ true) → 1 + select_words bank a + select_words page j + words (bank || a) (page || j) ≡ 1 + words bank page
paid_step words bank page a j h k =
    let p = paid_one bank a h in
    let q = paid_one page j k in
    let first = p.0 in
    let second = q.0 in
    let same = ap (λ b. words b (page || j)) p.1 ∙ ap (words bank) q.1 in
    omega arith

twice : (sel need : Bool) → (select_words (sel || need) need ≡ 0) × (((sel || need) || need) ≡ (sel || need))
twice true true = (refl, refl)
twice true false = (refl, refl)
twice false true = (refl, refl)
twice false false = (refl, refl)

record Merged (sel a c : Bool) : Type 0 where
  words : select_words sel a + select_words (sel || a) c ≡ select_words sel (a || c)
  both : ((sel || a) || c) ≡ (sel || (a || c))
  none : select_words (sel || (a || c)) a ≡ 0
  again : ((sel || (a || c)) || a) ≡ (sel || (a || c))

merged : (sel a c : Bool) → Merged sel a c
merged true true true = record { words = refl; both = refl; none = refl; again = refl }
merged true true false = record { words = refl; both = refl; none = refl; again = refl }
merged true false true = record { words = refl; both = refl; none = refl; again = refl }
merged true false false = record { words = refl; both = refl; none = refl; again = refl }
merged false true true = record { words = refl; both = refl; none = refl; again = refl }
merged false true false = record { words = refl; both = refl; none = refl; again = refl }
merged false false true = record { words = refl; both = refl; none = refl; again = refl }
merged false false false = record { words = refl; both = refl; none = refl; again = refl }

no_need : (sel : Bool) → (sel || false) ≡ sel
no_need true = refl
no_need false = refl

-- ---- of straight instructions
module _ (words : Bool → Bool → ℕ) (bank page : Bool) where
  plain_early : (a j : Bool)
      → 1 + select_words bank a + select_words page j + words (bank || a) (page || j)
      ≡ select_words bank a + select_words page j + (1 + select_words (bank || a) a + select_words (page || j) j + words ((bank || a) || a) ((page || j) || j))
  plain_early a j =
      let p = twice bank a in
      let q = twice page j in
      let first = p.0 in
      let second = q.0 in
      let same = ap (λ b. words b ((page || j) || j)) p.1 ∙ ap (words (bank || a)) q.1 in
      omega arith

  skip_early : (a c i : Bool) → words (bank || a) (page || false) ≡ select_words (bank || a) c + select_words (page || false) i + words ((bank || a) || c) ((page || false) || i)
      → 1 + select_words bank a + select_words page false + words (bank || a) (page || false)
      ≡ select_words bank (a || c) + select_words page i + (1 + select_words (bank || (a || c)) a + select_words (page || i) false + words ((bank || (a || c)) || a) ((page || i) || false))
  skip_early a c i later =
      let m = merged bank a c in
      let sum = m.words in
      let none = m.none in
      let page_words = ap (λ p. select_words p i) (no_need page) in
      let left = ap (λ b. words b ((page || false) || i)) m.both ∙ ap (λ p. words (bank || (a || c)) (p || i)) (no_need page) in
      let right = ap (λ b. words b ((page || i) || false)) m.again ∙ ap (words (bank || (a || c))) (no_need (page || i)) in
      omega arith

module _ (placed : Placed) (own : BlockName) (n : ℕ) where
  abbrev Early : Sym → List Sym → Bool → Bool → Bool → Bool → Type 0
  Early s rest bank page a j = words_from bank page (s ∷ rest) ≡ select_words bank a + select_words page j + words_from (bank || a) (page || j) (s ∷ rest)

  early_by : (s : Sym) (rest : List Sym) (bank page : Bool) → IsTame placed own n s → is_label s ≡ false
      → ((b p : Bool) → words_from b p rest ≡ select_words b (acc rest) + select_words p (jmp rest) + words_from (b || acc rest) (p || jmp rest) rest)
      → (c : Bool) → is_skip s ≡ c → Early s rest bank page (if c then accesses_frame s || acc rest else accesses_frame s) (if c then jmp rest else jumps s)
  early_by s rest bank page tame label later true k =
      let a = accesses_frame s in
      let w : Bool → Bool → ℕ = λ b p. words_from b p rest in
      let here = skip_early w bank page a (acc rest) (jmp rest) (later (bank || a) (page || false)) in
      let step = words_step bank page s rest label ∙ ap (λ j. 1 + select_words bank a + select_words page j + w (bank || a) (page || j)) (tame.skip k).1 in
      let paid = words_step (bank || (a || acc rest)) (page || jmp rest) s rest label ∙ ap (λ j. 1 + select_words (bank || (a || acc rest)) a + select_words (page || jmp rest) j + w ((bank || (a || acc rest)) || a) ((page || jmp rest) || j)) (tame.skip k).1 in
      omega arith
  early_by s rest bank page tame label later false k =
      let a = accesses_frame s in
      let j = jumps s in
      let w : Bool → Bool → ℕ = λ b p. words_from b p rest in
      let here = plain_early w bank page a j in
      let step = words_step bank page s rest label in
      let paid = words_step (bank || a) (page || j) s rest label in
      omega arith

  pub early : (list : List Sym) → AllTame placed own n list → is_straight list ≡ true → (bank page : Bool) → words_from bank page list ≡ select_words bank (acc list) + select_words page (jmp list) + words_from (bank || acc list) (page || jmp list) list
  early [] tame e bank page = refl
  early (s ∷ rest) tame e bank page = early_by s rest bank page tame.0 (straight_first s rest e) (early rest tame.1 (straight_later s rest e)) (is_skip s) refl
