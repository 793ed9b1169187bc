-- Five tokens in a row.
use Rattle.std.proofs.Common.{ℕ, ◌<◌, ◌≤◌, ◌≡◌, List, [], ◌∷◌, length, get_or, arith, refl}
use Rattle.c_token.specs.declared.token.Tok.{Tok}
use Rattle.c_pre.specs.Words.{word_of}
use Rattle.c_pre.specs.Directive.{is_header, names_header}

pub header_is : (text : List ℕ) (ts : List Tok) (d e : Tok) → 5 ≤ length ts → length ts < 6 → names_header (word_of text (record (get_or ts 0 d) { end = (get_or ts 4 e).end })) ≡ is_header text ts
unfolding is_header
header_is text [] d e l u = absurd (omega arith)
header_is text (_ ∷ []) d e l u = absurd (omega arith)
header_is text (_ ∷ _ ∷ []) d e l u = absurd (omega arith)
header_is text (_ ∷ _ ∷ _ ∷ []) d e l u = absurd (omega arith)
header_is text (_ ∷ _ ∷ _ ∷ _ ∷ []) d e l u = absurd (omega arith)
header_is text (a ∷ b ∷ c ∷ x ∷ y ∷ []) d e l u = refl
header_is text (_ ∷ _ ∷ _ ∷ _ ∷ _ ∷ _ ∷ _) d e l u = absurd (omega arith)
