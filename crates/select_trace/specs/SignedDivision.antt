-- What signed division does.
use Rattle.std.specs.Prelude.{◌≡◌, ℕ, ◌+◌, ◌-◌, ◌*◌, ◌/◌, ◌%◌, ◌^◌, ◌<◌, ◌≤◌, ◌⊎◌, ◌++◌}
use Rattle.select_trace.specs.Run.{Machine, run}
use Rattle.select_trace.specs.Links.{Fine}
use Rattle.select_trace.specs.Helpers.{Layout, Left, Right, Spare, Answer, Answers, each, negate_if_code, Part, Quotient, Rest, part_value, sign_code, magnitudes_code}
use Rattle.select_trace.specs.Steps.{number_of}
use Rattle.select_trace.specs.Shifts.{IsTop}
use Rattle.select_trace.specs.Division.{DivideRuns}

-- a stands for m, or where s is 1, for -m
abbrev pub HasSign : ℕ → ℕ → ℕ → ℕ → Type 0
HasSign b s m a = ((s ≡ 0) × (a ≡ m)) ⊎ ((s ≡ 1) × (a ≡ (b - m) % b))

-- m is the absolute value of what n stands for
abbrev pub IsMagnitude : ℕ → ℕ → ℕ → Type 0
IsMagnitude b n m = ((2 * n < b) × (m ≡ n)) ⊎ ((b ≤ 2 * n) × (m + n ≡ b))

-- the sign of the answer, by those of the operands
abbrev pub answer_sign : Part → ℕ → ℕ → ℕ
answer_sign Quotient s r = (s + r) % 2
answer_sign Rest s r = s

abbrev pub part_of : Part → ℕ → ℕ → ℕ
part_of Quotient m d = m / d
part_of Rest m d = m % d

pub record DivisionRuns (l : Layout) (part : Part) (t v : Machine) : Type 0 where
  pub inner : Machine
  pub divides : DivideRuns l t inner
  pub ends : v ≡ run (each l (Answers (part_value part))) inner
  pub fine : Fine v
  pub answer : 0 < number_of l t Right → number_of l v Answer ≡ part_of part (number_of l t Left) (number_of l t Right)

pub record SignedDivisionRuns (l : Layout) (part : Part) (t v : Machine) : Type 0 where
  pub middle : Machine
  pub begins : middle ≡ run (sign_code l part ++ magnitudes_code l) t
  pub inner : Machine
  pub divides : DivideRuns l middle inner
  pub ends : v ≡ run (negate_if_code l (l.at Spare 1) (part_value part) 5 ++ each l (Answers (part_value part))) inner
  pub fine : Fine v
  pub left : ℕ
  pub right : ℕ
  pub left_is : IsMagnitude (256 ^ l.width) (number_of l t Left) left
  pub right_is : IsMagnitude (256 ^ l.width) (number_of l t Right) right
  pub answer : (s r : ℕ) → IsTop (256 ^ l.width) (number_of l t Left) s → IsTop (256 ^ l.width) (number_of l t Right) r → 0 < number_of l t Right →
      HasSign (256 ^ l.width) (answer_sign part s r) (part_of part left right) (number_of l v Answer)
