-- Costs of a micro-step that either goes on with one byte more, or finds all bytes done.
use Rattle.std.proofs.Common.{ℕ, zero, suc, ◌+◌, ◌*◌, ◌≤◌, Bool, true, false}

abbrev pub either : Bool → ℕ → ℕ → ℕ
either true more done = more
either false more done = done

pub either_within : (b : Bool) (more done most : ℕ) → more ≤ most → done ≤ most → either b more done ≤ most
either_within true more done most a b = a
either_within false more done most a b = b

-- a byte of a structure that is read where a pointer leads, or what follows the last one
abbrev pub skimmed_cost : ℕ → ℕ → ℕ
skimmed_cost size zero = 20 + 6 * size
skimmed_cost size (suc left) = 30
