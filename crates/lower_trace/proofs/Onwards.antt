-- What has to be known of a run that byte code follows where the steps of the source that don't count are paid for by the steps that count.
use Rattle.std.proofs.Common.{◌≡◌, ℕ, zero, suc, ◌+◌, ◌-◌, ◌*◌, ◌<◌, ◌≤◌, ◌⊎◌, inl, inr, Bool, true, false, if◌then◌else◌, map, refl, sym, ap, ◌∙◌, subst, ⊎_elim, arith}
use Rattle.std.proofs.lemmas.Bool.{cases_lt, false≢true}
use Rattle.std.proofs.lemmas.Grind.{common_steps}
use Rattle.std.specs.Prelude.{nat_le}
use Rattle.pic_world.specs.World.{Happening}
use Rattle.run_links.specs.Runs.{Run, Goes, Follows, IsWithin}
use Rattle.core_code.specs.Bytes.{Held}
use Rattle.core_code.specs.Machine.{Setting, Machine, core_step, core_run, core_moment, goes_on, is_still}
use Rattle.core_code.specs.Runs.{most_by, least_by, goes_at, run_of}
use Rattle.src_rules.specs.Runs.{one_if}
use Rattle.lower_trace.proofs.Walks.{most_from, least_from, Walk, run_on, most_on, least_on, most_moment, least_moment}

-- What one step of the source gives, where byte code stands at c.
pub record Onward {E : Type 0} (a : Run E) (g : Setting) (counted : ℕ → Bool) (owed left : ℕ → ℕ) (room gain grain nodes : ℕ) (Stands : ℕ → Machine → Type 0) (n : ℕ) (c : Machine) : Type 0 where
  pub count : ℕ
  pub place : Machine
  pub most : ℕ
  pub least : ℕ
  pub walk : Walk g count c place most least
  pub stands : Stands (suc n) place
  -- one that doesn't count costs no more than is owed no longer behind it, and little
  pub paid : counted n ≡ false → most + owed (suc n) ≤ owed n
  pub little : counted n ≡ false → most ≤ grain
  -- one that counts may make so much more owed
  pub bought : counted n ≡ true → most ≤ room
  pub bounded : counted n ≡ true → most + owed (suc n) ≤ owed n + gain
  pub pace : (left (suc n) + one_if (counted n) ≤ left n + least * nodes) ⊎ (a.rests (suc n) ≡ true)
  pub quiet : counted n ≡ false → a.trace (suc n) ≡ a.trace n
  pub sleeps : a.rests (suc n) ≡ true → (counted n ≡ true) ⊎ ((count ≡ 0) × (a.rests n ≡ true))

-- What has to be known of the two runs, and of the relation between a moment of the one and a machine.
pub record ChainLaws {E : Type 0} (show : E → Happening Held) (a : Run E) (g : Setting) (steps : ℕ → ℕ) (counted : ℕ → Bool) (owed left : ℕ → ℕ) (price room gain grain floor top shift nodes : ℕ) (Stands : ℕ → Machine → Type 0) : Type 0 where
  pub none : steps 0 ≡ 0
  pub more : (n : ℕ) → steps (suc n) ≡ steps n + one_if (counted n)
  pub costs : (n : ℕ) → a.most n ≡ price * steps n
  pub before : room + shift ≤ price + floor
  pub behind : room + top + grain ≤ price + shift
  pub between : gain + grain ≤ price
  pub cheap : room ≤ price
  pub first : owed 0 ≤ shift
  pub high : (n : ℕ) (c : Machine) → Stands n c → owed n ≤ top
  pub low : (n : ℕ) (c : Machine) → Stands n c → counted n ≡ true → floor ≤ owed n
  pub traces : (n : ℕ) (c : Machine) → Stands n c → c.world.trace ≡ map show (a.trace n)
  pub starts : Stands 0 (core_moment g 0)
  pub idle : (n : ℕ) (c : Machine) → Stands n c → a.rests n ≡ true → is_still (core_step g c) ≡ true
  pub few : left 0 < nodes
  pub lasts : (n : ℕ) → a.rests n ≡ true → a.rests (suc n) ≡ true
  pub onward : (n : ℕ) → a.goes n ≡ true → (c : Machine) → Stands n c → Onward a g counted owed left room gain grain nodes Stands n c
