-- What a run of the source keeps where reads of tables become calls: the outlined program follows the given one.
use Rattle.std.specs.Prelude.{ℕ, suc, ◌+◌, ◌*◌, ◌≡◌, ◌<◌, ◌≤◌, true, is_none}
use Rattle.c_typed.specs.Trees.{Program}
use Rattle.pic_world.specs.World.{Outside, arrived}
use Rattle.rom_tables.specs.Outlined.{outlined}
use Rattle.src_rules.specs.Laws.{IsProper, IsOfBytes}
use Rattle.src_rules.specs.Runs.{moment, steps_by, fault_of, is_idle}
use Rattle.src_rules.specs.Step.{step}
use Rattle.src_values.specs.Memory.{Setting}

abbrev pub setting : Program → Outside → Setting
setting p o = record { program = p; outside = o }

-- none of the first n micro-steps is undefined
abbrev pub IsDefined : Setting → ℕ → Type 0
IsDefined s n = (i : ℕ) → i < n → is_none (fault_of (step s (moment s i))) ≡ true

-- The first n micro-steps of the program are followed by those of the outlined one. To each moment of it belongs one of the outlined
-- program; these rise, by at most 18 micro-steps. The traces are the same there, and so are the worlds once the flags have arrived
-- that arrive at that length. No micro-step of the outlined program before is undefined. Between two neighbours each step of the given program stands for at least one step and at most four.
-- Where the given program rests, the outlined one does.
pub record IsFollowed (p : Program) (o : Outside) (n : ℕ) : Type 0 where
  pub at : ℕ → ℕ
  pub starts : at 0 ≡ 0
  pub rises : (i : ℕ) → i < n → (at i ≤ at (suc i)) × (at (suc i) ≤ at i + 18)
  pub trace : (i : ℕ) → i ≤ n → (moment (setting (outlined p) o) (at i)).world.trace ≡ (moment (setting p o) i).world.trace
  pub world : (i : ℕ) → i ≤ n → arrived o (moment (setting (outlined p) o) (at i)).world ≡ arrived o (moment (setting p o) i).world
  pub goes : IsDefined (setting (outlined p) o) (at n)
  pub least : (i : ℕ) → i < n → steps_by (setting p o) (suc i) + steps_by (setting (outlined p) o) (at i) ≤ steps_by (setting (outlined p) o) (at (suc i)) + steps_by (setting p o) i
  pub most : (i : ℕ) → i < n → steps_by (setting (outlined p) o) (at (suc i)) + 4 * steps_by (setting p o) i ≤ steps_by (setting (outlined p) o) (at i) + 4 * steps_by (setting p o) (suc i)
  pub rests : is_idle (step (setting p o) (moment (setting p o) n)) ≡ true → is_idle (step (setting (outlined p) o) (moment (setting (outlined p) o) (at n))) ≡ true

-- the law of outlining: of each proper program, under every schedule and from any input of bytes
abbrev pub OutlineKeeps : Type 0
OutlineKeeps = (p : Program) → IsProper p → (o : Outside) → IsOfBytes o → (n : ℕ) → IsDefined (setting p o) n → IsFollowed p o n
