-- What all routines come to in one pass over the rows.
use Rattle.std.proofs.Common.{◌≡◌, ℕ, ◌<◌, ◌≤◌, Bool, true, false, List, length, drop, replicate, refl, sym, ap, ◌∙◌}
use Rattle.std.specs.Prelude.{◌||◌, slice_index_or}
use Rattle.std.proofs.lemmas.List.{drop_all}
use Rattle.depth_check.specs.declared.Row.{Row}
use Rattle.depth_check.specs.Certificate.{Certificate}
use Rattle.depth_check.specs.Valid.{returns_in, height}
use Rattle.depth_check.specs.Marks.{TellsReturns, TellsHeights}
use Rattle.depth_check.proofs.Spots.{index_none}

-- what was seen so far, and what the rows that are left add, is what all rows come to
abbrev pub ReturnsSoFar : List ℕ → List Row → List Row → List Bool → Type 0
ReturnsSoFar image rows rest marks = (n : ℕ) → n < 8192 → (slice_index_or marks n false || returns_in image rest n) ≡ returns_in image rows n

abbrev pub HeightsSoFar : List ℕ → Certificate → List Row → List ℕ → Type 0
HeightsSoFar image c rest heights = (n : ℕ) → n < 8192 → height image c n (slice_index_or heights n 0) rest ≡ height image c n 0 c.rows

pub none_noted : (image : List ℕ) (rows : List Row) → ReturnsSoFar image rows rows (replicate 8192 false)
none_noted image rows n lt = ap (λ z. z || returns_in image rows n) (index_none false 8192 n)

pub none_raised : (image : List ℕ) (c : Certificate) → HeightsSoFar image c c.rows (replicate 8192 0)
none_raised image c n lt = ap (λ z. height image c n z c.rows) (index_none {X = ℕ} 0 8192 n)

pub all_noted : (image : List ℕ) (rows : List Row) (k : ℕ) (marks : List Bool) → length rows ≤ k → ReturnsSoFar image rows (drop k rows) marks → TellsReturns image rows marks
all_noted image rows k marks le e n lt = sym (or_none (slice_index_or marks n false)) ∙ ap (λ z. slice_index_or marks n false || returns_in image z n) (sym (drop_all k rows le)) ∙ e n lt where
  or_none : (b : Bool) → (b || false) ≡ b
  or_none true = refl
  or_none false = refl

pub all_raised : (image : List ℕ) (c : Certificate) (k : ℕ) (heights : List ℕ) → length c.rows ≤ k → HeightsSoFar image c (drop k c.rows) heights → TellsHeights image c heights
all_raised image c k heights le e n lt = ap (height image c n (slice_index_or heights n 0)) (sym (drop_all k c.rows le)) ∙ e n lt
