-- Words within a stated count, which is kept up to the largest number of the machine's size.
use Rattle.std.proofs.Common.{ℕ, ◌-◌, ◌^◌, ◌<◌, ◌≤◌, inl, inr, min, arith}
use Rattle.std.proofs.Math.Nat.{min-eq_left, min-eq_right, min-le_left}
use Rattle.std.proofs.lemmas.Bool.{cases_lt}
use Rattle.c_typed.specs.Nodes.{capped}

pub within : (words most : ℕ) → words ≤ capped most → words ≤ most
within words most le = let least = min-le_left most (2 ^ 64 - 1) in omega (arith, le, least)

pub kept : (words most : ℕ) → words < 2 ^ 64 → words ≤ most → words ≤ capped most
kept words most few le = by words most (2 ^ 64 - 1) (omega (arith, few)) le
  where
    by : (words most limit : ℕ) → words ≤ limit → words ≤ most → words ≤ min most limit
    by words most limit few le = elim (cases_lt limit most) [
      | inl over ↦ (let e = min-eq_right {n = limit} {m = most} (omega (arith, over)) in omega (arith, e, few))
      | inr under ↦ (let e = min-eq_left {n = most} {m = limit} under in omega (arith, e, le))
    ]
