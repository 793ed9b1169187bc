-- An image after the words of one more block.
use Rattle.std.proofs.Common.{◌≡◌, ℕ, zero, suc, ◌+◌, ◌<◌, ◌≤◌, ◌⊎◌, inl, inr, List, [], ◌∷◌, length, slice_index, slice_set, refl, ap, ◌∙◌, arith}
use Rattle.std.proofs.lemmas.List.{length-set, get_or-set_same, get_or-set_other}
use Rattle.code_place.specs.Image.{written, Holds}

pub written_length : (image : List ℕ) (at : ℕ) (ws : List ℕ) → length (written image at ws) ≡ length image
written_length image at [] = refl
written_length image at (w ∷ ws) = written_length (slice_set image at w) (at + 1) ws ∙ length-set image at w

read_before : (image : List ℕ) (at : ℕ) (ws : List ℕ) (p : ℕ) → p < at → slice_index (written image at ws) p ≡ slice_index image p
read_before image at [] p less = refl
read_before image at (w ∷ ws) p less =
    read_before (slice_set image at w) (at + 1) ws p (omega (arith, less)) ∙ get_or-set_other image at p w 0 (λ e. omega (arith, less, e))

read_behind : (image : List ℕ) (at : ℕ) (ws : List ℕ) (p : ℕ) → at + length ws ≤ p → slice_index (written image at ws) p ≡ slice_index image p
read_behind image at [] p more = refl
read_behind image at (w ∷ ws) p more =
    read_behind (slice_set image at w) (at + 1) ws p (omega (arith, more)) ∙ get_or-set_other image at p w 0 (λ e. omega (arith, more, e))

-- words elsewhere stay
pub read_other : (image : List ℕ) (at : ℕ) (ws : List ℕ) (p : ℕ) → (p < at) ⊎ (at + length ws ≤ p) → slice_index (written image at ws) p ≡ slice_index image p
read_other image at ws p (inl less) = read_before image at ws p less
read_other image at ws p (inr more) = read_behind image at ws p more

-- the words that are put are there
pub read_put : (image : List ℕ) (at : ℕ) (ws : List ℕ) → at + length ws ≤ length image → Holds (written image at ws) at ws
read_put image at [] fits k below = absurd (omega (arith, below))
read_put image at (w ∷ ws) fits zero below =
    let e : at + 0 ≡ at = omega arith in
    ap (λ n. slice_index (written (slice_set image at w) (at + 1) ws) n) e
    ∙ (read_before (slice_set image at w) (at + 1) ws at (omega arith) ∙ get_or-set_same image at w 0 (omega (arith, fits)))
read_put image at (w ∷ ws) fits (suc k) below =
    let e : at + suc k ≡ at + 1 + k = omega arith in
    let long = length-set image at w in
    ap (λ n. slice_index (written (slice_set image at w) (at + 1) ws) n) e
    ∙ read_put (slice_set image at w) (at + 1) ws (omega (arith, fits, long)) k (omega (arith, below))
