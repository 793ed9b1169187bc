-- Blocks at their addresses: where positions and labels stand.
use Rattle.std.proofs.Common.{◌≡◌, ℕ, zero, suc, ◌+◌, ◌-◌, ◌<◌, ◌≤◌, ◌⊎◌, inl, inr, Bool, true, false, List, [], ◌∷◌, ◌++◌, length, take, drop, Option, Some, None, refl, sym, ap, ◌∙◌, subst, ⊎_elim, arith}
use Rattle.std.specs.Prelude.{if◌then◌else◌, ◌&&◌, slice_get}
use Rattle.std.specs.Option.{option_or}
use Rattle.std.proofs.lemmas.Bool.{eqb-true, cases_lt}
use Rattle.std.proofs.lemmas.List.Sums.{sum_by-cons, sum_by-append}
use Rattle.sym_code.specs.Programs.{Program, Position, position, same_name, same_label, block_in, fetched, is_word, lands, stand, behind, labels_in_front, label_from}
use Rattle.sym_code.specs.Words.{words_of_one, words_in}
use Rattle.sym_code.specs.declared.code.BlockName.{BlockName}
use Rattle.sym_code.specs.declared.code.BlockName.TheVariants.{Start, Copy}
use Rattle.sym_code.specs.declared.code.Label.{Label}
use Rattle.sym_code.specs.declared.code.Sym.{Sym}
use Rattle.sym_code.specs.declared.code.Sym.TheVariants as syms
use Rattle.sym_code.specs.declared.code.SymBlock.{SymBlock}
use Rattle.code_place.specs.Places.{at_if, label_of, is_label, label_at, block_place}
use Rattle.chip_trace.proofs.Sound.{both, left_of, right_of}
use Rattle.code_place.specs.Sizes.{Fit, Stands, HasRoom, IsBefore}

no_some : {A : Type 0} (x : A) → None ≡ Some x → ⊥
no_some x e = cc

pub some_eq : {A : Type 0} (x y : A) → Some x ≡ Some y → x ≡ y
some_eq x y e = ap (λ o. elim o [ None ↦ x | Some z ↦ z ]) e

-- ---- words of a list
pub words_cons : (s : Sym) (xs : List Sym) → words_in (s ∷ xs) ≡ words_of_one s + words_in xs
words_cons s xs = sum_by-cons words_of_one s xs

pub words_append : (xs ys : List Sym) → words_in (xs ++ ys) ≡ words_in xs + words_in ys
words_append xs ys = sum_by-append words_of_one xs ys

pub words_more : (xs : List Sym) (i : ℕ) (s : Sym) → slice_get xs i ≡ Some s → words_in (take (i + 1) xs) ≡ words_in (take i xs) + words_of_one s
words_more [] i s e = absurd (no_some s e)
words_more (x ∷ xs) zero s e = let a = words_cons x [] in let f : words_of_one x ≡ words_of_one s = ap words_of_one (some_eq x s e) in omega arith
words_more (x ∷ xs) (suc i) s e =
    let n : suc i + 1 ≡ suc (i + 1) = omega arith in
    let a = words_cons x (take (i + 1) xs) in let b = words_cons x (take i xs) in let c = words_more xs i s e in
    ap (λ k. words_in (take k (x ∷ xs))) n ∙ (omega arith)

pub words_below : (xs : List Sym) (i : ℕ) → words_in (take i xs) ≤ words_in xs
words_below [] zero = omega arith
words_below [] (suc i) = omega arith
words_below (x ∷ xs) zero = omega arith
words_below (x ∷ xs) (suc i) = let a = words_cons x (take i xs) in let b = words_cons x xs in let c = words_below xs i in omega arith

is_one : (s : Sym) → is_word (Some s) ≡ true → words_of_one s ≡ 1
is_one (syms.Label label) e = absurd (cc)
is_one (syms.SelectBank a b) e = refl
is_one (syms.SelectPage a b) e = refl
is_one (syms.File a b c) e = refl
is_one (syms.Movwf a) e = refl
is_one (syms.Clrf a) e = refl
is_one (syms.Bit a b c) e = refl
is_one (syms.Literal a b) e = refl
is_one (syms.Plain a) e = refl
is_one (syms.Call a) e = refl
is_one (syms.Goto a) e = refl
is_one (syms.Table table root) e = refl

-- behind an instruction
pub word_on : (xs : List Sym) (i : ℕ) (s : Sym) → slice_get xs i ≡ Some s → is_word (Some s) ≡ true → words_in (take (i + 1) xs) ≡ words_in (take i xs) + 1
word_on xs i s e w = let a = words_more xs i s e in let b = is_one s w in omega arith

pub word_below : (xs : List Sym) (i : ℕ) (s : Sym) → slice_get xs i ≡ Some s → is_word (Some s) ≡ true → words_in (take i xs) < words_in xs
word_below xs i s e w = let a = word_on xs i s e w in let b = words_below xs (i + 1) in omega arith

-- labels take no word
front_words : (xs : List Sym) → words_in (take (labels_in_front xs) xs) ≡ 0
front_words [] = refl
front_words (syms.Label l ∷ xs) = let a = words_cons (syms.Label l) (take (labels_in_front xs) xs) in let b = front_words xs in omega arith
front_words (syms.SelectBank a b ∷ xs) = refl
front_words (syms.SelectPage a b ∷ xs) = refl
front_words (syms.File a b c ∷ xs) = refl
front_words (syms.Movwf a ∷ xs) = refl
front_words (syms.Clrf a ∷ xs) = refl
front_words (syms.Bit a b c ∷ xs) = refl
front_words (syms.Literal a b ∷ xs) = refl
front_words (syms.Plain a ∷ xs) = refl
front_words (syms.Call a ∷ xs) = refl
front_words (syms.Goto a ∷ xs) = refl
front_words (syms.Table table root ∷ xs) = refl

pub labels_words : (xs : List Sym) (i : ℕ) → words_in (take (i + labels_in_front (drop i xs)) xs) ≡ words_in (take i xs)
labels_words [] zero = refl
labels_words [] (suc i) = let n : suc i + 0 ≡ suc i = omega arith in ap (λ k. words_in (take k [])) n
labels_words (x ∷ xs) zero = let n : 0 + labels_in_front (x ∷ xs) ≡ labels_in_front (x ∷ xs) = omega arith in ap (λ k. words_in (take k (x ∷ xs))) n ∙ front_words (x ∷ xs)
labels_words (x ∷ xs) (suc i) =
    let n : suc i + labels_in_front (drop i xs) ≡ suc (i + labels_in_front (drop i xs)) = omega arith in
    let a = words_cons x (take (i + labels_in_front (drop i xs)) xs) in let b = words_cons x (take i xs) in let c = labels_words xs i in
    ap (λ k. words_in (take k (x ∷ xs))) n ∙ (omega arith)

-- behind labels there is a word, or the end
front_end : (xs : List Sym) → (is_word (slice_get xs (labels_in_front xs)) ≡ true) ⊎ (slice_get xs (labels_in_front xs) ≡ None)
front_end [] = inr refl
front_end (syms.Label l ∷ xs) = front_end xs
front_end (syms.SelectBank a b ∷ xs) = inl refl
front_end (syms.SelectPage a b ∷ xs) = inl refl
front_end (syms.File a b c ∷ xs) = inl refl
front_end (syms.Movwf a ∷ xs) = inl refl
front_end (syms.Clrf a ∷ xs) = inl refl
front_end (syms.Bit a b c ∷ xs) = inl refl
front_end (syms.Literal a b ∷ xs) = inl refl
front_end (syms.Plain a ∷ xs) = inl refl
front_end (syms.Call a ∷ xs) = inl refl
front_end (syms.Goto a ∷ xs) = inl refl
front_end (syms.Table table root ∷ xs) = inl refl

labels_end : (xs : List Sym) (i : ℕ) → (is_word (slice_get xs (i + labels_in_front (drop i xs))) ≡ true) ⊎ (slice_get xs (i + labels_in_front (drop i xs)) ≡ None)
labels_end [] zero = inr refl
labels_end [] (suc i) = inr refl
labels_end (x ∷ xs) zero =
    let n : 0 + labels_in_front (x ∷ xs) ≡ labels_in_front (x ∷ xs) = omega arith in
    subst (λ k. (is_word (slice_get (x ∷ xs) k) ≡ true) ⊎ (slice_get (x ∷ xs) k ≡ None)) (sym n) (front_end (x ∷ xs))
labels_end (x ∷ xs) (suc i) =
    let n : suc i + labels_in_front (drop i xs) ≡ suc (i + labels_in_front (drop i xs)) = omega arith in
    subst (λ k. (is_word (slice_get (x ∷ xs) k) ≡ true) ⊎ (slice_get (x ∷ xs) k ≡ None)) (sym n) (labels_end xs i)

past_end : (xs : List Sym) (i j : ℕ) → slice_get xs i ≡ None → i ≤ j → slice_get xs j ≡ None
past_end [] i j e le = refl
past_end (x ∷ xs) zero j e le = absurd (no_some x (sym e))
past_end (x ∷ xs) (suc i) zero e le = absurd (omega arith)
past_end (x ∷ xs) (suc i) (suc j) e le = past_end xs i j e (omega arith)

-- ---- positions of a program
module _ (q : Program) where
  abbrev pub words_to : Position → ℕ
  words_to p = words_in (take p.index (q.block p.block))

  pub stand_words : (p : Position) → words_to (stand q p) ≡ words_to p
  unfolding stand
  stand_words p = labels_words (q.block p.block) p.index

  some_word : (o : Option Sym) → is_word o ≡ true → (s : Sym) × (o ≡ Some s)
  some_word None e = absurd (cc)
  some_word (Some s) e = (s, refl)

  pub behind_words : (p : Position) → lands q p ≡ true → words_to (behind q p) ≡ words_to p + 1
  behind_words p ok =
      let s = some_word (fetched q p) ok in
      stand_words (position p.block (p.index + 1)) ∙ word_on (q.block p.block) p.index s.0 s.1 (ap is_word (sym s.1) ∙ ok)

  -- where nothing stands behind an instruction, nothing stands further on
  behind_end : (p : Position) → (lands q (behind q p) ≡ true) ⊎ (fetched q (behind q p) ≡ None)
  unfolding stand
  behind_end p = labels_end (q.block p.block) (p.index + 1)

  further_end : (p : Position) → fetched q p ≡ None → fetched q (behind q p) ≡ None
  unfolding stand
  further_end p e = past_end (q.block p.block) p.index _ e (omega arith)

  pub two_words : (p : Position) → lands q p ≡ true → lands q (behind q (behind q p)) ≡ true → words_to (behind q (behind q p)) ≡ words_to p + 2
  two_words p ok ok2 = by (behind_end p) where
    by : (lands q (behind q p) ≡ true) ⊎ (fetched q (behind q p) ≡ None) → words_to (behind q (behind q p)) ≡ words_to p + 2
    by (inl l) = let a = behind_words p ok in let b = behind_words (behind q p) l in omega arith
    by (inr n) = let f = sym ok2 ∙ ap is_word (further_end (behind q p) n) in absurd (cc)

-- ---- names
pub names_same : (a b : BlockName) → same_name a b ≡ true → a ≡ b
names_same Start Start e = refl
names_same (Copy c) (Copy d) e = ap Copy (eqb-true c d e)
names_same Start (Copy d) e = absurd (cc)
names_same (Copy c) Start e = absurd (cc)

-- ---- the block of a name
pub record Found (blocks : List SymBlock) (at : List ℕ) (name : BlockName) : Type 0 where
  pub number : ℕ
  pub block : SymBlock
  pub start : ℕ
  pub in_blocks : slice_get blocks number ≡ Some block
  pub in_at : slice_get at number ≡ Some start
  pub list : block.list.items ≡ block_in blocks name
  pub place : block_place blocks at name ≡ Some start
  pub named : block.name ≡ name

abbrev pub HaveAddress : List SymBlock → List ℕ → Type 0
HaveAddress blocks at = (k : ℕ) (block : SymBlock) → slice_get blocks k ≡ Some block → (start : ℕ) × (slice_get at k ≡ Some start)

found_on : (b : SymBlock) (a : ℕ) (bs : List SymBlock) (as' : List ℕ) (name : BlockName) (i : ℕ) (s : Sym) → (slice_get (block_in bs name) i ≡ Some s → Found bs as' name) → slice_get (block_in (b ∷ bs) name) i ≡ Some s
    → (v : Bool) → same_name b.name name ≡ v → Found (b ∷ bs) (a ∷ as') name
found_on b a bs as' name i s rest e true f = record {
  number = 0;
  block = b;
  start = a;
  in_blocks = refl;
  in_at = refl;
  list = sym (ap (λ z. if z then b.list.items else block_in bs name) f);
  place = ap (λ z. option_or (at_if z a) (block_place bs as' name)) f;
  named = names_same b.name name f;
}
found_on b a bs as' name i s rest e false f =
    let skip : block_in (b ∷ bs) name ≡ block_in bs name = ap (λ z. if z then b.list.items else block_in bs name) f in
    let x = rest (ap (λ (z : List Sym). slice_get z i) (sym skip) ∙ e) in
    record {
      number = suc x.number;
      block = x.block;
      start = x.start;
      in_blocks = x.in_blocks;
      in_at = x.in_at;
      list = x.list ∙ sym skip;
      place = ap (λ z. option_or (at_if z a) (block_place bs as' name)) f ∙ x.place;
      named = x.named;
    }

pub found : (blocks : List SymBlock) (at : List ℕ) (name : BlockName) (i : ℕ) (s : Sym) → HaveAddress blocks at → slice_get (block_in blocks name) i ≡ Some s → Found blocks at name
found [] at name i s all e = absurd (no_some s e)
found (b ∷ bs) [] name i s all e = absurd (no_some _ (all 0 b refl).1)
found (b ∷ bs) (a ∷ as') name i s all e = found_on b a bs as' name i s (λ f. found bs as' name i s (λ k block g. all (suc k) block g) f) e (same_name b.name name) refl

-- ---- room
stands_some : (block : SymBlock) (o next : Option ℕ) → Stands block o next → (start : ℕ) × (o ≡ Some start) × HasRoom start (words_in block.list.items) next
stands_some block None next s = absurd s
stands_some block (Some start) next s = (start, refl, s)

module _ (blocks : List SymBlock) (at : List ℕ) (fit : Fit blocks at) where
  pub have_address : HaveAddress blocks at
  have_address k block e = let s = stands_some block (slice_get at k) (slice_get at (k + 1)) (fit k block e) in (s.0, s.1)

  pub room : (k : ℕ) (block : SymBlock) (start : ℕ) → slice_get blocks k ≡ Some block → slice_get at k ≡ Some start → HasRoom start (words_in block.list.items) (slice_get at (k + 1))
  room k block start e f =
      let s = stands_some block (slice_get at k) (slice_get at (k + 1)) (fit k block e) in
      subst (λ z. HasRoom z (words_in block.list.items) (slice_get at (k + 1))) (some_eq s.0 start (sym s.1 ∙ f)) s.2

  before_some : (end : ℕ) (o : Option ℕ) (start : ℕ) → o ≡ Some start → IsBefore end o → end ≤ start
  before_some end None start e b = absurd (no_some start e)
  before_some end (Some z) start e b = let f = some_eq z start e in omega arith

  earlier_some : (k : ℕ) (block : SymBlock) → slice_get blocks (suc k) ≡ Some block → (b : SymBlock) × (slice_get blocks k ≡ Some b)
  earlier_some k block e = by blocks k e where
    by : (bs : List SymBlock) (k : ℕ) → slice_get bs (suc k) ≡ Some block → (b : SymBlock) × (slice_get bs k ≡ Some b)
    by [] k e = absurd (no_some block e)
    by (b ∷ bs) zero e = (b, refl)
    by (b ∷ bs) (suc k) e = by bs k e

  -- blocks behind the first one stand behind it
  pub behind_first : (k : ℕ) (block b0 : SymBlock) (start start0 : ℕ) → slice_get blocks 0 ≡ Some b0 → slice_get at 0 ≡ Some start0 → slice_get blocks (suc k) ≡ Some block → slice_get at (suc k) ≡ Some start → start0 + words_in b0.list.items ≤ start
  behind_first zero block b0 start start0 e0 a0 e a = let r = room 0 b0 start0 e0 a0 in before_some (start0 + words_in b0.list.items) (slice_get at 1) start a r.2
  behind_first (suc k) block b0 start start0 e0 a0 e a =
      let b = earlier_some (suc k) block e in
      let s = have_address (suc k) b.0 b.1 in
      let r = room (suc k) b.0 s.0 b.1 s.1 in
      let n : suc k + 1 ≡ suc (suc k) = omega arith in
      let le = before_some (s.0 + words_in b.0.list.items) (slice_get at (suc k + 1)) start (ap (slice_get at) n ∙ a) r.2 in
      let ih = behind_first k b.0 b0 s.0 start0 e0 a0 b.1 s.1 in omega arith

-- ---- labels
-- a label that is found stands behind so many words
abbrev LabelPlace : List Sym → Label → ℕ → ℕ → ℕ → Type 0
LabelPlace xs label n start k = (n ≤ k) × (label_at label start xs ≡ Some (start + words_in (take (k - n) xs)))

on_rest : (s : Sym) (xs : List Sym) (label : Label) (n start k : ℕ) → LabelPlace xs label (n + 1) (start + words_of_one s) k → is_label label (label_of s) ≡ false → LabelPlace (s ∷ xs) label n start k
on_rest s xs label n start k r f =
    let le = r.0 in
    let z : k - n ≡ suc (k - (n + 1)) = omega arith in
    let wc = words_cons s (take (k - (n + 1)) xs) in
    let w : start + words_of_one s + words_in (take (k - (n + 1)) xs) ≡ start + words_in (take (suc (k - (n + 1))) (s ∷ xs)) = omega arith in
    (omega arith, ap (λ b. option_or (at_if b start) (label_at label (start + words_of_one s) xs)) f ∙ r.1 ∙ ap Some w ∙ ap (λ j. Some (start + words_in (take j (s ∷ xs)))) (sym z))

on_label : (l : Label) (xs : List Sym) (label : Label) (n start k : ℕ) → (label_from xs label (n + 1) ≡ Some k → LabelPlace xs label (n + 1) (start + 0) k) → (b : Bool) → same_label l label ≡ b → label_from (syms.Label l ∷ xs) label n ≡ Some k → LabelPlace (syms.Label l ∷ xs) label n start k
on_label l xs label n start k rest true f e =
    let is : n ≡ k = some_eq n k (sym (ap (λ z. if z then Some n else label_from xs label (n + 1)) f) ∙ e) in
    let z : k - n ≡ 0 = omega arith in
    let s : start ≡ start + 0 = omega arith in
    (omega arith, ap (λ z. option_or (at_if z start) (label_at label (start + 0) xs)) f ∙ ap Some s ∙ ap (λ j. Some (start + words_in (take j (syms.Label l ∷ xs)))) (sym z))
on_label l xs label n start k rest false f e =
    on_rest (syms.Label l) xs label n start k (rest (sym (ap (λ z. if z then Some n else label_from xs label (n + 1)) f) ∙ e)) f

pub label_stands : (xs : List Sym) (label : Label) (n start k : ℕ) → label_from xs label n ≡ Some k → LabelPlace xs label n start k
label_stands [] label n start k e = absurd (no_some k e)
label_stands (syms.Label l ∷ xs) label n start k e = on_label l xs label n start k (λ f. label_stands xs label (n + 1) (start + 0) k f) (same_label l label) refl e
label_stands (syms.SelectBank a b ∷ xs) label n start k e = on_rest (syms.SelectBank a b) xs label n start k (label_stands xs label (n + 1) (start + 1) k e) refl
label_stands (syms.SelectPage a b ∷ xs) label n start k e = on_rest (syms.SelectPage a b) xs label n start k (label_stands xs label (n + 1) (start + 1) k e) refl
label_stands (syms.File a b c ∷ xs) label n start k e = on_rest (syms.File a b c) xs label n start k (label_stands xs label (n + 1) (start + 1) k e) refl
label_stands (syms.Movwf a ∷ xs) label n start k e = on_rest (syms.Movwf a) xs label n start k (label_stands xs label (n + 1) (start + 1) k e) refl
label_stands (syms.Clrf a ∷ xs) label n start k e = on_rest (syms.Clrf a) xs label n start k (label_stands xs label (n + 1) (start + 1) k e) refl
label_stands (syms.Bit a b c ∷ xs) label n start k e = on_rest (syms.Bit a b c) xs label n start k (label_stands xs label (n + 1) (start + 1) k e) refl
label_stands (syms.Literal a b ∷ xs) label n start k e = on_rest (syms.Literal a b) xs label n start k (label_stands xs label (n + 1) (start + 1) k e) refl
label_stands (syms.Plain a ∷ xs) label n start k e = on_rest (syms.Plain a) xs label n start k (label_stands xs label (n + 1) (start + 1) k e) refl
label_stands (syms.Call a ∷ xs) label n start k e = on_rest (syms.Call a) xs label n start k (label_stands xs label (n + 1) (start + 1) k e) refl
label_stands (syms.Goto a ∷ xs) label n start k e = on_rest (syms.Goto a) xs label n start k (label_stands xs label (n + 1) (start + 1) k e) refl
label_stands (syms.Table table root ∷ xs) label n start k e = on_rest (syms.Table table root) xs label n start k (label_stands xs label (n + 1) (start + 1) k e) refl

-- ---- lists in parts
pub get_behind : (xs ys : List Sym) (i : ℕ) → slice_get (xs ++ ys) (length xs + i) ≡ slice_get ys i
get_behind [] ys i = let n : 0 + i ≡ i = omega arith in ap (slice_get ys) n
get_behind (x ∷ xs) ys i = let n : length (x ∷ xs) + i ≡ suc (length xs + i) = omega arith in ap (slice_get (x ∷ (xs ++ ys))) n ∙ get_behind xs ys i

pub get_front : (xs ys : List Sym) (i : ℕ) (s : Sym) → slice_get xs i ≡ Some s → slice_get (xs ++ ys) i ≡ Some s
get_front [] ys i s e = absurd (no_some s e)
get_front (x ∷ xs) ys zero s e = e
get_front (x ∷ xs) ys (suc i) s e = get_front xs ys i s e

pub words_behind : (xs ys : List Sym) (i : ℕ) → words_in (take (length xs + i) (xs ++ ys)) ≡ words_in xs + words_in (take i ys)
words_behind [] ys i = let n : 0 + i ≡ i = omega arith in let a : words_in [] ≡ 0 = refl in ap (λ k. words_in (take k ys)) n ∙ (omega arith)
words_behind (x ∷ xs) ys i =
    let n : length (x ∷ xs) + i ≡ suc (length xs + i) = omega arith in
    let a = words_cons x (take (length xs + i) (xs ++ ys)) in let b = words_cons x xs in let c = words_behind xs ys i in
    ap (λ k. words_in (take k (x ∷ (xs ++ ys)))) n ∙ (omega arith)

pub label_behind : (xs ys : List Sym) (label : Label) (n : ℕ) → label_from xs label n ≡ None → label_from (xs ++ ys) label n ≡ label_from ys label (n + length xs)
label_behind [] ys label n e = let m : n ≡ n + 0 = omega arith in ap (label_from ys label) m
label_behind (syms.Label l ∷ xs) ys label n e = behind_label (same_label l label) refl (label_behind xs ys label (n + 1)) where
  behind_label : (b : Bool) → same_label l label ≡ b → (label_from xs label (n + 1) ≡ None → label_from (xs ++ ys) label (n + 1) ≡ label_from ys label (n + 1 + length xs)) → label_from (syms.Label l ∷ (xs ++ ys)) label n ≡ label_from ys label (n + length (syms.Label l ∷ xs))
  behind_label true f r = absurd (no_some n (sym e ∙ ap (λ z. if z then Some n else label_from xs label (n + 1)) f))
  behind_label false f r =
      let m : n + 1 + length xs ≡ n + length (syms.Label l ∷ xs) = omega arith in
      ap (λ z. if z then Some n else label_from (xs ++ ys) label (n + 1)) f ∙ r (sym (ap (λ z. if z then Some n else label_from xs label (n + 1)) f) ∙ e) ∙ ap (label_from ys label) m
label_behind (syms.SelectBank a b ∷ xs) ys label n e = let m : n + 1 + length xs ≡ n + suc (length xs) = omega arith in label_behind xs ys label (n + 1) e ∙ ap (label_from ys label) m
label_behind (syms.SelectPage a b ∷ xs) ys label n e = let m : n + 1 + length xs ≡ n + suc (length xs) = omega arith in label_behind xs ys label (n + 1) e ∙ ap (label_from ys label) m
label_behind (syms.File a b c ∷ xs) ys label n e = let m : n + 1 + length xs ≡ n + suc (length xs) = omega arith in label_behind xs ys label (n + 1) e ∙ ap (label_from ys label) m
label_behind (syms.Movwf a ∷ xs) ys label n e = let m : n + 1 + length xs ≡ n + suc (length xs) = omega arith in label_behind xs ys label (n + 1) e ∙ ap (label_from ys label) m
label_behind (syms.Clrf a ∷ xs) ys label n e = let m : n + 1 + length xs ≡ n + suc (length xs) = omega arith in label_behind xs ys label (n + 1) e ∙ ap (label_from ys label) m
label_behind (syms.Bit a b c ∷ xs) ys label n e = let m : n + 1 + length xs ≡ n + suc (length xs) = omega arith in label_behind xs ys label (n + 1) e ∙ ap (label_from ys label) m
label_behind (syms.Literal a b ∷ xs) ys label n e = let m : n + 1 + length xs ≡ n + suc (length xs) = omega arith in label_behind xs ys label (n + 1) e ∙ ap (label_from ys label) m
label_behind (syms.Plain a ∷ xs) ys label n e = let m : n + 1 + length xs ≡ n + suc (length xs) = omega arith in label_behind xs ys label (n + 1) e ∙ ap (label_from ys label) m
label_behind (syms.Call a ∷ xs) ys label n e = let m : n + 1 + length xs ≡ n + suc (length xs) = omega arith in label_behind xs ys label (n + 1) e ∙ ap (label_from ys label) m
label_behind (syms.Goto a ∷ xs) ys label n e = let m : n + 1 + length xs ≡ n + suc (length xs) = omega arith in label_behind xs ys label (n + 1) e ∙ ap (label_from ys label) m
label_behind (syms.Table table root ∷ xs) ys label n e = let m : n + 1 + length xs ≡ n + suc (length xs) = omega arith in label_behind xs ys label (n + 1) e ∙ ap (label_from ys label) m

-- ---- lists of words alone
abbrev pub are_words : List Sym → Bool
are_words [] = true
are_words (x ∷ xs) = is_word (Some x) && are_words xs

pub both_words : (xs ys : List Sym) → are_words xs ≡ true → are_words ys ≡ true → are_words (xs ++ ys) ≡ true
both_words [] ys a b = b
both_words (x ∷ xs) ys a b = both (is_word (Some x)) (are_words (xs ++ ys)) (left_of (is_word (Some x)) (are_words xs) a) (both_words xs ys (right_of (is_word (Some x)) (are_words xs) a) b)

pub words_all : (xs : List Sym) → are_words xs ≡ true → words_in xs ≡ length xs
words_all [] a = refl
words_all (x ∷ xs) a = let b = words_cons x xs in let c = is_one x (left_of (is_word (Some x)) (are_words xs) a) in let d = words_all xs (right_of (is_word (Some x)) (are_words xs) a) in omega arith

pub words_take : (xs ys : List Sym) (k : ℕ) → are_words xs ≡ true → k ≤ length xs → words_in (take k (xs ++ ys)) ≡ k
words_take xs ys zero a le = refl
words_take [] ys (suc k) a le = absurd (omega arith)
words_take (x ∷ xs) ys (suc k) a le =
    let b = words_cons x (take k (xs ++ ys)) in let c = is_one x (left_of (is_word (Some x)) (are_words xs) a) in let d = words_take xs ys k (right_of (is_word (Some x)) (are_words xs) a) (omega arith) in omega arith

pub word_at : (xs : List Sym) (k : ℕ) (s : Sym) → are_words xs ≡ true → slice_get xs k ≡ Some s → is_word (Some s) ≡ true
word_at [] k s a e = absurd (no_some s e)
word_at (x ∷ xs) zero s a e = ap is_word (sym e) ∙ left_of (is_word (Some x)) (are_words xs) a
word_at (x ∷ xs) (suc k) s a e = word_at xs k s (right_of (is_word (Some x)) (are_words xs) a) e

pub no_label : (xs : List Sym) (label : Label) (n : ℕ) → are_words xs ≡ true → label_from xs label n ≡ None
no_label [] label n a = refl
no_label (syms.Label l ∷ xs) label n a = absurd (cc)
no_label (syms.SelectBank b d ∷ xs) label n a = no_label xs label (n + 1) a
no_label (syms.SelectPage b d ∷ xs) label n a = no_label xs label (n + 1) a
no_label (syms.File b d f ∷ xs) label n a = no_label xs label (n + 1) a
no_label (syms.Movwf b ∷ xs) label n a = no_label xs label (n + 1) a
no_label (syms.Clrf b ∷ xs) label n a = no_label xs label (n + 1) a
no_label (syms.Bit b d f ∷ xs) label n a = no_label xs label (n + 1) a
no_label (syms.Literal b d ∷ xs) label n a = no_label xs label (n + 1) a
no_label (syms.Plain b ∷ xs) label n a = no_label xs label (n + 1) a
no_label (syms.Call b ∷ xs) label n a = no_label xs label (n + 1) a
no_label (syms.Goto b ∷ xs) label n a = no_label xs label (n + 1) a
no_label (syms.Table table root ∷ xs) label n a = no_label xs label (n + 1) a

-- two words at one place are one
take_more_words : (xs : List Sym) (i d j : ℕ) → j ≡ d + i → words_in (take i xs) ≤ words_in (take j xs)
take_more_words [] zero d zero e = omega arith
take_more_words [] zero d (suc j) e = omega arith
take_more_words [] (suc i) d zero e = absurd (omega arith)
take_more_words [] (suc i) d (suc j) e = omega arith
take_more_words (x ∷ xs) zero d j e = let z : words_in [] ≡ 0 = refl in omega arith
take_more_words (x ∷ xs) (suc i) d zero e = absurd (omega arith)
take_more_words (x ∷ xs) (suc i) d (suc j) e = let a = words_cons x (take i xs) in let b = words_cons x (take j xs) in let c = take_more_words xs i d j (omega arith) in omega arith

pub word_once : (xs : List Sym) (i j : ℕ) (s s' : Sym) → slice_get xs i ≡ Some s → slice_get xs j ≡ Some s' → is_word (Some s) ≡ true → is_word (Some s') ≡ true → words_in (take i xs) ≡ words_in (take j xs) → i ≡ j
word_once xs i j s s' e f w w' same =
    ⊎_elim
    (λ lt. let a = word_on xs i s e w in let b = take_more_words xs (i + 1) (j - (i + 1)) j (omega arith) in absurd (omega arith))
    (λ ge. ⊎_elim
    (λ lt. let a = word_on xs j s' f w' in let b = take_more_words xs (j + 1) (i - (j + 1)) i (omega arith) in absurd (omega arith))
    (λ ge2. omega arith)
    (cases_lt j i))
    (cases_lt i j)
