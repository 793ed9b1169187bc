-- The names that stand while tokens are marked: those that were put, and no others.
use Rattle.std.proofs.Common.{◌≡◌, ℕ, Bool, true, false, if◌then◌else◌, ◌⊎◌, inl, inr, ⊎_elim, List, [], ◌∷◌, ◌++◌, map, refl, sym, subst, bytes_eq}
use Rattle.std.proofs.lemmas.Bool.{or_cases, or_left, or_right}
use Rattle.std.proofs.lemmas.Slice.Eq.{bytes_eq-Decides}
use Rattle.c_token.specs.declared.token.Tok.{Tok}
use Rattle.c_pre.specs.Words.{word_of}
use Rattle.c_parse.specs.Marks.{is_among, with_name, with_names}

pub among_last : (name other : List ℕ) (names : List (List ℕ)) → is_among name (names ++ other ∷ []) ≡ true → (is_among name names ≡ true) ⊎ (bytes_eq name other ≡ true)
among_last name other [] h = inr (⊎_elim (λ e. e) (λ e. absurd (cc e)) (or_cases (bytes_eq name other) false h))
among_last name other (x ∷ xs) h =
    ⊎_elim (λ e. inl (or_left (bytes_eq name x) (is_among name xs) e))
    (λ e. ⊎_elim (λ f. inl (or_right (bytes_eq name x) (is_among name xs) f)) (λ f. inr f) (among_last name other xs e))
    (or_cases (bytes_eq name x) (is_among name (xs ++ other ∷ [])) h)

pub last_among : (name other : List ℕ) (names : List (List ℕ)) → bytes_eq name other ≡ true → is_among name (names ++ other ∷ []) ≡ true
last_among name other [] e = or_left (bytes_eq name other) false e
last_among name other (x ∷ xs) e = or_right (bytes_eq name x) (is_among name (xs ++ other ∷ [])) (last_among name other xs e)

pub first_among : (name other : List ℕ) (names : List (List ℕ)) → is_among name names ≡ true → is_among name (names ++ other ∷ []) ≡ true
first_among name other [] h = absurd (cc h)
first_among name other (x ∷ xs) h =
    ⊎_elim (λ e. or_left (bytes_eq name x) (is_among name (xs ++ other ∷ [])) e)
    (λ e. or_right (bytes_eq name x) (is_among name (xs ++ other ∷ [])) (first_among name other xs e))
    (or_cases (bytes_eq name x) (is_among name xs) h)

-- ---- a name is put
put_by : (b : Bool) (name other : List ℕ) (names : List (List ℕ)) → is_among name (if b then names else names ++ other ∷ []) ≡ true → (is_among name names ≡ true) ⊎ (bytes_eq name other ≡ true)
put_by true name other names h = inl h
put_by false name other names h = among_last name other names h

keeps_by : (b : Bool) (name other : List ℕ) (names : List (List ℕ)) → is_among name names ≡ true → is_among name (if b then names else names ++ other ∷ []) ≡ true
keeps_by true name other names h = h
keeps_by false name other names h = first_among name other names h

puts_by : (b : Bool) (name other : List ℕ) (names : List (List ℕ)) → is_among other names ≡ b → bytes_eq name other ≡ true → is_among name (if b then names else names ++ other ∷ []) ≡ true
puts_by true name other names has e = subst (λ n. is_among n names ≡ true) (sym ((bytes_eq-Decides name other).0 e)) has
puts_by false name other names has e = last_among name other names e

-- ---- the names of tokens are put
pub put_are : (text : List ℕ) (coming : List Tok) (known : List (List ℕ)) (name : List ℕ) → is_among name (with_names text coming known) ≡ true → (is_among name known ≡ true) ⊎ (is_among name (map (word_of text) coming) ≡ true)
put_are text [] known name h = inl h
put_are text (t ∷ ts) known name h =
    ⊎_elim
    (λ e. ⊎_elim (λ f. inl f) (λ f. inr (or_left (bytes_eq name (word_of text t)) (is_among name (map (word_of text) ts)) f)) (put_by (is_among (word_of text t) known) name (word_of text t) known e))
    (λ e. inr (or_right (bytes_eq name (word_of text t)) (is_among name (map (word_of text) ts)) e))
    (put_are text ts (with_name (word_of text t) known) name h)

pub put_keeps : (text : List ℕ) (coming : List Tok) (known : List (List ℕ)) (name : List ℕ) → is_among name known ≡ true → is_among name (with_names text coming known) ≡ true
put_keeps text [] known name h = h
put_keeps text (t ∷ ts) known name h = put_keeps text ts (with_name (word_of text t) known) name (keeps_by (is_among (word_of text t) known) name (word_of text t) known h)

pub put_all : (text : List ℕ) (coming : List Tok) (known : List (List ℕ)) (name : List ℕ) → is_among name (map (word_of text) coming) ≡ true → is_among name (with_names text coming known) ≡ true
put_all text [] known name h = absurd (cc h)
put_all text (t ∷ ts) known name h =
    ⊎_elim
    (λ e. put_keeps text ts (with_name (word_of text t) known) name (puts_by (is_among (word_of text t) known) name (word_of text t) known refl e))
    (λ e. put_all text ts (with_name (word_of text t) known) name e)
    (or_cases (bytes_eq name (word_of text t)) (is_among name (map (word_of text) ts)) h)

-- ---- those of tokens, with one token more
pub word_last : (text : List ℕ) (ts : List Tok) (t : Tok) (name : List ℕ) → is_among name (map (word_of text) (ts ++ t ∷ [])) ≡ true → (is_among name (map (word_of text) ts) ≡ true) ⊎ (bytes_eq name (word_of text t) ≡ true)
word_last text [] t name h = inr (⊎_elim (λ e. e) (λ e. absurd (cc e)) (or_cases (bytes_eq name (word_of text t)) false h))
word_last text (x ∷ xs) t name h =
    ⊎_elim (λ e. inl (or_left (bytes_eq name (word_of text x)) (is_among name (map (word_of text) xs)) e))
    (λ e. ⊎_elim (λ f. inl (or_right (bytes_eq name (word_of text x)) (is_among name (map (word_of text) xs)) f)) (λ f. inr f) (word_last text xs t name e))
    (or_cases (bytes_eq name (word_of text x)) (is_among name (map (word_of text) (xs ++ t ∷ []))) h)

pub last_word : (text : List ℕ) (ts : List Tok) (t : Tok) (name : List ℕ) → bytes_eq name (word_of text t) ≡ true → is_among name (map (word_of text) (ts ++ t ∷ [])) ≡ true
last_word text [] t name e = or_left (bytes_eq name (word_of text t)) false e
last_word text (x ∷ xs) t name e = or_right (bytes_eq name (word_of text x)) (is_among name (map (word_of text) (xs ++ t ∷ []))) (last_word text xs t name e)

pub first_words : (text : List ℕ) (ts : List Tok) (t : Tok) (name : List ℕ) → is_among name (map (word_of text) ts) ≡ true → is_among name (map (word_of text) (ts ++ t ∷ [])) ≡ true
first_words text [] t name h = absurd (cc h)
first_words text (x ∷ xs) t name h =
    ⊎_elim (λ e. or_left (bytes_eq name (word_of text x)) (is_among name (map (word_of text) (xs ++ t ∷ []))) e)
    (λ e. or_right (bytes_eq name (word_of text x)) (is_among name (map (word_of text) (xs ++ t ∷ []))) (first_words text xs t name e))
    (or_cases (bytes_eq name (word_of text x)) (is_among name (map (word_of text) xs)) h)
