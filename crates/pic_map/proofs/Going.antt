-- Reading from one line to the next.
use Rattle.std.proofs.Common.{◌≡◌, ◌≢◌, ℕ, ◌+◌, ◌≤◌, ◌&&◌, Bool, true, false, Option, Some, None, Ok, Err, List, [], ◌∷◌, length, refl, sym, ap, ◌∙◌, arith, nat_eq}
use Rattle.std.specs.Prelude.{if◌then◌else◌}
use Rattle.text_lines.specs.Front.{after}
use Rattle.pic_map.specs.MapContent.{MapContent}
use Rattle.pic_map.specs.declared.read.Stage.{Stage}
use Rattle.pic_map.specs.declared.read.Stage.TheVariants.{Heading, MainPoint, HaltPoint, Objects, Frames, Ended}
use Rattle.pic_map.specs.Reading.{after_line, go_on, read_on, point_of, object_of, frame_of}

pub step_some : (k : ℕ) (s next : Stage) (m n : MapContent) (lines : List (List ℕ)) (line : List ℕ) (rest : List (List ℕ))
    → lines ≡ line ∷ rest → after_line s m line ≡ Some (next, n) → read_on k s m lines ≡ read_on (k + 1) next n rest
unfolding read_on
step_some k s next m n lines line rest e h = ap (read_on k s m) e ∙ ap (λ o. go_on o k (λ t c. read_on (k + 1) t c rest)) h

pub step_none : (k : ℕ) (s : Stage) (m : MapContent) (lines : List (List ℕ)) (line : List ℕ) (rest : List (List ℕ))
    → lines ≡ line ∷ rest → after_line s m line ≡ None → read_on k s m lines ≡ Err k
unfolding read_on
step_none k s m lines line rest e h = ap (read_on k s m) e ∙ ap (λ o. go_on o k (λ t c. read_on (k + 1) t c rest)) h

pub not_ended : (k : ℕ) (s : Stage) (m : MapContent) → s ≢ Ended → read_on k s m [] ≡ Err k
unfolding read_on
not_ended k Heading m h = refl
not_ended k MainPoint m h = refl
not_ended k HaltPoint m h = refl
not_ended k Objects m h = refl
not_ended k Frames m h = refl
not_ended k Ended m h = absurd (h refl)

pub at_the_end : (k : ℕ) (m : MapContent) → read_on k Ended m [] ≡ Ok m
unfolding read_on
at_the_end k m = refl

-- ---- how long lines are
-- the heading has more than one byte, and each line has one
abbrev pub slack : Stage → ℕ
slack Heading = 0
slack _ = 1

slack_most : (s : Stage) → slack s ≤ 1
slack_most Heading = omega arith
slack_most MainPoint = omega arith
slack_most HaltPoint = omega arith
slack_most Objects = omega arith
slack_most Frames = omega arith
slack_most Ended = omega arith

some_none : {A : Type 0} (x : A) → Some x ≡ None → ⊥
some_none x e = cc e

long_heading : (m n : MapContent) (line : List ℕ) (next : Stage) → after_line Heading m line ≡ Some (next, n) → 2 ≤ length line
unfolding after_line
long_heading m n [] next h = absurd (some_none (next, n) (sym h))
long_heading m n (c ∷ []) next h = absurd (by_test (nat_eq c 112) h)
  where
    by_test : (b : Bool) → if◌then◌else◌ {A = Option (Stage × MapContent)} (b && false) (Some (MainPoint, m)) None ≡ Some (next, n) → ⊥
    by_test true e = some_none (next, n) (sym e)
    by_test false e = some_none (next, n) (sym e)
long_heading m n (c ∷ d ∷ line) next h = omega arith

no_empty : (s : Stage) (m : MapContent) → after_line s m [] ≡ None
unfolding after_line point_of object_of frame_of after
no_empty Heading m = refl
no_empty MainPoint m = refl
no_empty HaltPoint m = refl
no_empty Objects m = refl
no_empty Frames m = refl
no_empty Ended m = refl

long_line : (s next : Stage) (m n : MapContent) (line : List ℕ) → after_line s m line ≡ Some (next, n) → 1 ≤ length line
long_line s next m n [] h = absurd (some_none (next, n) (sym h ∙ no_empty s m))
long_line s next m n (c ∷ line) h = omega arith

pub counted : (s next : Stage) (m n : MapContent) (line : List ℕ) → after_line s m line ≡ Some (next, n) → (2 ≤ slack s + length line) × (slack next ≤ 1)
counted Heading next m n line h = (let a = long_heading m n line next h in omega (arith, a), slack_most next)
counted MainPoint next m n line h = (let a = long_line MainPoint next m n line h in omega (arith, a), slack_most next)
counted HaltPoint next m n line h = (let a = long_line HaltPoint next m n line h in omega (arith, a), slack_most next)
counted Objects next m n line h = (let a = long_line Objects next m n line h in omega (arith, a), slack_most next)
counted Frames next m n line h = (let a = long_line Frames next m n line h in omega (arith, a), slack_most next)
counted Ended next m n line h = (let a = long_line Ended next m n line h in omega (arith, a), slack_most next)
