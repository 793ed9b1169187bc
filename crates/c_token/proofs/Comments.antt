-- The loop that looks for the end of a comment.
use Rattle.std.proofs.Common.{ℕ, ◌+◌, ◌-◌, ◌<◌, ◌≤◌, ◌≡◌, Bool, true, false, cond, Option, Some, None, List, [], ◌∷◌, length, drop, take, arith, ap, sym, ◌∙◌, refl, length-drop}
use Rattle.std.specs.Prelude.{nat_eq, codes}
use Rattle.std.specs.List.{starts_with}
use Rattle.std.proofs.lemmas.List.{drop_all, drop-drop}
use Rattle.c_token.specs.Constant.{◌>>=◌}
use Rattle.c_token.specs.Token.{comment_end}
use Rattle.c_token.proofs.Strings.{further, further_further, tail_whole}

-- `i` bytes of the text have no end of a comment
abbrev pub Open : List ℕ → ℕ → Type 0
Open text i = comment_end text ≡ further i (comment_end (drop i text))

at_end : (rest : List ℕ) → 0 < length rest → starts_with nat_eq rest (codes "*/") ≡ true → comment_end rest ≡ Some 2
unfolding comment_end
at_end [] h e = absurd (omega arith)
at_end (b ∷ rest) h e = ap (λ t. cond t (Some 2) (comment_end rest >>= λ n. Some (n + 1))) e

one_more : (x : Option ℕ) → (x >>= λ n. Some (n + 1)) ≡ further 1 x
one_more None = refl
one_more (Some n) = refl

not_yet : (rest : List ℕ) → 0 < length rest → starts_with nat_eq rest (codes "*/") ≡ false → comment_end rest ≡ further 1 (comment_end (drop 1 rest))
unfolding comment_end
not_yet [] h e = absurd (omega arith)
not_yet (b ∷ rest) h e = ap (λ t. cond t (Some 2) (comment_end rest >>= λ n. Some (n + 1))) e ∙ one_more (comment_end rest)

tested : (text : List ℕ) (i : ℕ) (b : Bool) → b ≡ starts_with nat_eq (take (length text - i) (drop i text)) (codes "*/") → starts_with nat_eq (drop i text) (codes "*/") ≡ b
tested text i b e = ap (λ xs. starts_with nat_eq xs (codes "*/")) (sym (tail_whole i text)) ∙ sym e

pub comment_closes : (text : List ℕ) (i : ℕ) → Open text i → i < length text → true ≡ starts_with nat_eq (take (length text - i) (drop i text)) (codes "*/") → Some (i + 2) ≡ comment_end text
comment_closes text i o h e = sym (o ∙ ap (further i) (at_end (drop i text) (omega (arith, length-drop i text)) (tested text i true e)) ∙ ap Some (omega arith))

pub comment_more : (text : List ℕ) (i : ℕ) → Open text i → i < length text → false ≡ starts_with nat_eq (take (length text - i) (drop i text)) (codes "*/") → Open text (i + 1)
comment_more text i o h e =
    o ∙ ap (further i) (not_yet (drop i text) (omega (arith, length-drop i text)) (tested text i false e))
    ∙ further_further i 1 (comment_end (drop 1 (drop i text)))
    ∙ ap (λ k. further k (comment_end (drop 1 (drop i text)))) (omega arith)
    ∙ ap (λ xs. further (i + 1) (comment_end xs)) (drop-drop 1 i text)

pub comment_never : (text : List ℕ) (i : ℕ) → Open text i → length text ≤ i → None ≡ comment_end text
unfolding comment_end
comment_never text i o h = sym (o ∙ ap (λ xs. further i (comment_end xs)) (drop_all i text h))
