-- Code that stands at a place of a block, and where a block goes on.
use Rattle.std.proofs.Common.{◌≡◌, ℕ, zero, suc, ◌+◌, ◌<◌, ◌≤◌, ◌⊎◌, inl, inr, Bool, true, false, List, [], ◌∷◌, ◌++◌, length, drop, Some, slice_get, refl, sym, ap, ◌∙◌, subst, arith}
use Rattle.sym_code.specs.Programs.{Program, position, is_word, lands, stand, labels_in_front}
use Rattle.sym_code.specs.declared.code.BlockName.{BlockName}
use Rattle.sym_code.specs.declared.code.Label.{Label}
use Rattle.sym_code.specs.declared.code.Sym.{Sym}
use Rattle.sym_code.specs.declared.code.Sym.TheVariants as syms

-- from n on the block has these instructions
abbrev pub Has : List Sym → ℕ → List Sym → Type 0
Has b n [] = Unit {0}
Has b n (x ∷ xs) = (slice_get b n ≡ Some x) × Has b (suc n) xs

pub moved : (b : List Sym) (n m : ℕ) (x : List Sym) → n ≡ m → Has b n x → Has b m x
moved b n m x e h = subst (λ k. Has b k x) e h

pub has_front : (b : List Sym) (n : ℕ) (x y : List Sym) → Has b n (x ++ y) → Has b n x
has_front b n [] y h = tt
has_front b n (a ∷ x) y h = (h.0, has_front b (suc n) x y h.1)

pub has_back : (b : List Sym) (n : ℕ) (x y : List Sym) → Has b n (x ++ y) → Has b (n + length x) y
has_back b n [] y h = moved b n (n + 0) y (omega arith) h
has_back b n (a ∷ x) y h = moved b (suc n + length x) (n + suc (length x)) y (omega arith) (has_back b (suc n) x y h.1)

pub has_join : (b : List Sym) (n : ℕ) (x y : List Sym) → Has b n x → Has b (n + length x) y → Has b n (x ++ y)
has_join b n [] y h k = moved b (n + 0) n y (omega arith) k
has_join b n (a ∷ x) y h k = (h.0, has_join b (suc n) x y h.1 (moved b (n + suc (length x)) (suc n + length x) y (omega arith) k))

has_more : (a : Sym) (b : List Sym) (n : ℕ) (x : List Sym) → Has b n x → Has (a ∷ b) (suc n) x
has_more a b n [] h = tt
has_more a b n (y ∷ x) h = (h.0, has_more a b (suc n) x h.1)

pub has_less : (c : Sym) (b : List Sym) (n : ℕ) (x : List Sym) → Has (c ∷ b) (suc n) x → Has b n x
has_less c b n [] h = tt
has_less c b n (y ∷ x) h = (h.0, has_less c b (suc n) x h.1)

pub has_self : (x : List Sym) → Has x 0 x
has_self [] = tt
has_self (a ∷ x) = (refl, has_more a x 0 x (has_self x))

pub none_get : (n : ℕ) (x : Sym) → slice_get {X = Sym} [] n ≡ Some x → ⊥
none_get zero x e = absurd (cc)
none_get (suc n) x e = absurd (cc)

-- ---- labels are no places
front_word : (b : List Sym) (x : Sym) → slice_get b 0 ≡ Some x → is_word (Some x) ≡ true → labels_in_front b ≡ 0
front_word [] x e w = absurd (cc)
front_word (syms.Label l ∷ b) x e w = absurd (let q : is_word (Some (syms.Label l)) ≡ true = ap is_word e ∙ w in cc)
front_word (syms.File a c d ∷ b) x e w = refl
front_word (syms.Movwf a ∷ b) x e w = refl
front_word (syms.Clrf a ∷ b) x e w = refl
front_word (syms.Bit a c d ∷ b) x e w = refl
front_word (syms.Literal a c ∷ b) x e w = refl
front_word (syms.Plain a ∷ b) x e w = refl
front_word (syms.Call a ∷ b) x e w = refl
front_word (syms.Goto a ∷ b) x e w = refl
front_word (syms.SelectBank a c ∷ b) x e w = refl
front_word (syms.SelectPage a c ∷ b) x e w = refl
front_word (syms.Table a c ∷ b) x e w = refl

pub ahead_word : (b : List Sym) (n : ℕ) (x : Sym) → slice_get b n ≡ Some x → is_word (Some x) ≡ true → labels_in_front (drop n b) ≡ 0
ahead_word b zero x e w = front_word b x e w
ahead_word [] (suc n) x e w = absurd (cc)
ahead_word (a ∷ b) (suc n) x e w = ahead_word b n x e w

pub ahead_label : (b : List Sym) (n : ℕ) (l : Label) → slice_get b n ≡ Some (syms.Label l) → labels_in_front (drop n b) ≡ suc (labels_in_front (drop (suc n) b))
ahead_label [] zero l e = absurd (cc)
ahead_label (a ∷ b) zero l e = ap (λ x. labels_in_front (x ∷ b)) (some_same a (syms.Label l) e)
  where
    some_same : (a x : Sym) → Some a ≡ Some x → a ≡ x
    some_same a x e = cc
ahead_label [] (suc n) l e = absurd (cc)
ahead_label (a ∷ b) (suc n) l e = ahead_label b n l e

pub stand_word : (q : Program) (name : BlockName) (n : ℕ) (x : Sym) → slice_get (q.block name) n ≡ Some x → is_word (Some x) ≡ true → stand q (position name n) ≡ position name n
unfolding stand
stand_word q name n x e w = ap (λ k. position name (n + k)) (ahead_word (q.block name) n x e w) ∙ ap (position name) (omega arith)

pub stand_label : (q : Program) (name : BlockName) (n : ℕ) (l : Label) → slice_get (q.block name) n ≡ Some (syms.Label l) → stand q (position name n) ≡ stand q (position name (suc n))
unfolding stand
stand_label q name n l e = ap (λ k. position name (n + k)) (ahead_label (q.block name) n l e) ∙ ap (position name) (omega arith)

-- ---- where an instruction stands at last
front_lands : (xs : List Sym) (last : Sym) → is_word (Some last) ≡ true → is_word (slice_get (xs ++ last ∷ []) (labels_in_front (xs ++ last ∷ []))) ≡ true
front_lands [] last w = ap (λ k. is_word (slice_get (last ∷ []) k)) (front_word (last ∷ []) last refl w) ∙ w
front_lands (syms.Label l ∷ xs) last w = front_lands xs last w
front_lands (syms.File a c d ∷ b) x w = refl
front_lands (syms.Movwf a ∷ b) x w = refl
front_lands (syms.Clrf a ∷ b) x w = refl
front_lands (syms.Bit a c d ∷ b) x w = refl
front_lands (syms.Literal a c ∷ b) x w = refl
front_lands (syms.Plain a ∷ b) x w = refl
front_lands (syms.Call a ∷ b) x w = refl
front_lands (syms.Goto a ∷ b) x w = refl
front_lands (syms.SelectBank a c ∷ b) x w = refl
front_lands (syms.SelectPage a c ∷ b) x w = refl
front_lands (syms.Table a c ∷ b) x w = refl

list_lands : (xs : List Sym) (last : Sym) (n : ℕ) → is_word (Some last) ≡ true → n ≤ length xs → is_word (slice_get (xs ++ last ∷ []) (n + labels_in_front (drop n (xs ++ last ∷ [])))) ≡ true
list_lands xs last zero w le = ap (λ k. is_word (slice_get (xs ++ last ∷ []) k)) (let q : 0 + labels_in_front (xs ++ last ∷ []) ≡ labels_in_front (xs ++ last ∷ []) = omega arith in q) ∙ front_lands xs last w
list_lands [] last (suc n) w le = absurd (omega arith)
list_lands (a ∷ xs) last (suc n) w le =
    ap (λ k. is_word (slice_get (a ∷ xs ++ last ∷ []) k)) (let q : suc n + labels_in_front (drop n (xs ++ last ∷ [])) ≡ suc (n + labels_in_front (drop n (xs ++ last ∷ []))) = omega arith in q)
    ∙ list_lands xs last n w (omega arith)

-- A block whose last instruction is this one.
pub record Closes (b : List Sym) (last : Sym) : Type 0 where
  pub front : List Sym
  pub whole : b ≡ front ++ last ∷ []
  pub word : is_word (Some last) ≡ true

pub stand_lands : (q : Program) (name : BlockName) (n : ℕ) (last : Sym) (c : Closes (q.block name) last) → n ≤ length c.front → lands q (stand q (position name n)) ≡ true
unfolding stand
stand_lands q name n last c le = subst (λ b. is_word (slice_get b (n + labels_in_front (drop n b))) ≡ true) (sym c.whole) (list_lands c.front last n c.word le)

last_get : (xs : List Sym) (last x : Sym) (n : ℕ) → slice_get (xs ++ last ∷ []) n ≡ Some x → (n < length xs) ⊎ (x ≡ last)
last_get [] last x zero e = inr (cc)
last_get [] last x (suc n) e = absurd (none_get n x e)
last_get (a ∷ xs) last x zero e = inl (omega arith)
last_get (a ∷ xs) last x (suc n) e = elim (last_get xs last x n e) [
  | inl h ↦ inl (omega arith)
  | inr h ↦ inr h
]

-- What isn't the last instruction has one behind it.
pub before_last : (b : List Sym) (last x : Sym) (c : Closes b last) (n : ℕ) (test : Sym → Bool) → test last ≡ true → test x ≡ false → slice_get b n ≡ Some x → suc n ≤ length c.front
before_last b last x c n test tl tx e = elim (last_get c.front last x n (subst (λ l. slice_get l n ≡ Some x) c.whole e)) [
  | inl h ↦ omega (arith, h)
  | inr h ↦ absurd (let q : true ≡ false = sym tl ∙ ap test (sym h) ∙ tx in cc)
]
