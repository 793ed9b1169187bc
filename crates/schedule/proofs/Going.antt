-- Reading from one line to the next.
use Rattle.std.proofs.Common.{◌≡◌, ℕ, Bool, true, false, ◌+◌, Option, Some, None, Ok, Err, List, [], ◌∷◌, refl, ap, ◌∙◌}
use Rattle.schedule.specs.Answers.{Goes}
use Rattle.schedule.specs.ScriptFile.{ScriptContent}
use Rattle.schedule.specs.Reading.{after_line, go_on, read_on}

pub step_good : (k : ℕ) (m n : ScriptContent) (lines : List (List ℕ)) (line : List ℕ) (rest : List (List ℕ))
    → lines ≡ line ∷ rest → after_line m line ≡ Some n → read_on k m lines ≡ read_on (k + 1) n rest
unfolding read_on
step_good k m n lines line rest e h = ap (read_on k m) e ∙ ap (λ o. go_on o k (λ c. read_on (k + 1) c rest)) h

pub step_bad : (k : ℕ) (m : ScriptContent) (lines : List (List ℕ)) (line : List ℕ) (rest : List (List ℕ))
    → lines ≡ line ∷ rest → after_line m line ≡ None → read_on k m lines ≡ Err k
unfolding read_on
step_bad k m lines line rest e h = ap (read_on k m) e ∙ ap (λ o. go_on o k (λ c. read_on (k + 1) c rest)) h

pub at_the_end : (k : ℕ) (m : ScriptContent) → read_on k m [] ≡ Ok m
unfolding read_on
at_the_end k m = refl

pub not_good : (good : Bool) (next : Option ScriptContent) (new : ScriptContent) → good ≡ false → Goes good next new → next ≡ None
not_good true next new e h = absurd (cc e)
not_good false next new e h = h
