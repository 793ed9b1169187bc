-- What stands behind a word, and that it stands there.
use Rattle.std.proofs.Common.{◌≡◌, ℕ, Option, Some, List, ◌++◌, length, take, drop, refl, sym, ap, ◌∙◌, nat_eq}
use Rattle.std.specs.Cmp.Lexicographic.{pointwise}
use Rattle.std.proofs.lemmas.List.{take-append-drop, take_at, drop_at}
use Rattle.std.proofs.lemmas.Option.{cond_some}
use Rattle.std.proofs.lemmas.Slice.Eq.{bytes_eq-Decides}
use Rattle.text_lines.specs.Front.{after}

pub after_is : (word line rest : List ℕ) → after word line ≡ Some rest → line ≡ word ++ rest
unfolding after
after_is word line rest h =
    let parts = cond_some (pointwise nat_eq (take (length word) line) word) (drop (length word) line) rest h in
    let front : take (length word) line ≡ word = (bytes_eq-Decides (take (length word) line) word).0 parts.0 in
    sym (take-append-drop (length word) line) ∙ ap (λ t. t ++ drop (length word) line) front ∙ ap (λ t. word ++ t) parts.1

pub after_again : (word rest : List ℕ) → after word (word ++ rest) ≡ Some rest
unfolding after
after_again word rest =
    let front : take (length word) (word ++ rest) ≡ word = take_at word rest (length word) refl in
    let behind : drop (length word) (word ++ rest) ≡ rest = drop_at word rest (length word) refl in
    rw ((bytes_eq-Decides (take (length word) (word ++ rest)) word).1 front, behind) refl
