-- The loop that compares two lists of tokens.
use Rattle.std.proofs.Common.{ℕ, suc, ◌+◌, ◌<◌, ◌≤◌, ◌≡◌, Bool, true, false, List, [], ◌∷◌, length, drop, get_or, arith, ap, ap₂, sym, ◌∙◌, refl, drop-cons, add-one}
use Rattle.std.specs.Prelude.{◌&&◌}
use Rattle.std.specs.Str.{bytes_eq}
use Rattle.std.proofs.lemmas.List.{drop_all}
use Rattle.c_token.specs.declared.token.Tok.{Tok}
use Rattle.c_pre.specs.Words.{word_of, same_words}

unfolded : (text : List ℕ) (ts us : List Tok) (i : ℕ) (d : Tok) → i < length ts → length ts ≡ length us → same_words text (drop i ts) (drop i us) ≡ (bytes_eq (word_of text (get_or ts i d)) (word_of text (get_or us i d)) && same_words text (drop (i + 1) ts) (drop (i + 1) us))
unfolded text ts us i d h e =
    ap₂ (same_words text) (drop-cons ts i d h) (drop-cons us i d (omega arith))
    ∙ ap (λ k. bytes_eq (word_of text (get_or ts i d)) (word_of text (get_or us i d)) && same_words text (drop k ts) (drop k us)) (sym (add-one i))

pub same_so_far : (text : List ℕ) (ts us : List Tok) (i : ℕ) (d : Tok) → i < length ts → length ts ≡ length us → same_words text ts us ≡ same_words text (drop i ts) (drop i us) → bytes_eq (word_of text (get_or ts i d)) (word_of text (get_or us i d)) ≡ true → same_words text ts us ≡ same_words text (drop (i + 1) ts) (drop (i + 1) us)
same_so_far text ts us i d h e s b = s ∙ unfolded text ts us i d h e ∙ ap (λ t. t && same_words text (drop (i + 1) ts) (drop (i + 1) us)) b

pub differs : (text : List ℕ) (ts us : List Tok) (i : ℕ) (d : Tok) → i < length ts → length ts ≡ length us → same_words text ts us ≡ same_words text (drop i ts) (drop i us) → bytes_eq (word_of text (get_or ts i d)) (word_of text (get_or us i d)) ≡ false → false ≡ same_words text ts us
differs text ts us i d h e s b = sym (s ∙ unfolded text ts us i d h e ∙ ap (λ t. t && same_words text (drop (i + 1) ts) (drop (i + 1) us)) b)

pub same_all : (text : List ℕ) (ts us : List Tok) (i : ℕ) → length ts ≤ i → length ts ≡ length us → same_words text ts us ≡ same_words text (drop i ts) (drop i us) → true ≡ same_words text ts us
same_all text ts us i h e s = sym (s ∙ ap₂ (same_words text) (drop_all i ts h) (drop_all i us (omega arith)))

and_false : (b : Bool) → (b && false) ≡ false
and_false true = refl
and_false false = refl

pub other_length : (text : List ℕ) (ts us : List Tok) → (length ts ≡ length us → ⊥) → false ≡ same_words text ts us
other_length text [] [] h = absurd (h refl)
other_length text [] (u ∷ us) h = refl
other_length text (t ∷ ts) [] h = refl
other_length text (t ∷ ts) (u ∷ us) h = sym (ap (λ b. bytes_eq (word_of text t) (word_of text u) && b) (sym (other_length text ts us (λ e. h (ap suc e)))) ∙ and_false (bytes_eq (word_of text t) (word_of text u)))
