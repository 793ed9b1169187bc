-- What code that was made smaller keeps, where of each instruction is given how much of it surely stays.
use Rattle.std.specs.Prelude.{◌≡◌, ℕ, ◌≤◌, true, Some, slice_get}
use Rattle.pic_world.specs.World.{Outside}
use Rattle.run_links.specs.Runs.{Goes, Follows, IsSlow}
use Rattle.sym_code.specs.Effect.{Memory}
use Rattle.sym_code.specs.Machine.{Entry, sym_start}
use Rattle.sym_code.specs.Registers.{Registers}
use Rattle.sym_code.specs.Runs.{run_of, weighed_of}
use Rattle.sym_code.specs.declared.code.BlockName.{BlockName}
use Rattle.lean_code.specs.Links.{IsOpen, counts, IsCheaper}
use Rattle.lean_code.specs.Right.{IsSound}
use Rattle.lean_code.specs.Rows.{Row, is_reached, Lean, old_program, new_program, old_setting, new_setting}

-- What surely stays of an instruction to which something comes is no more than what stays of it.
abbrev pub IsSure : Lean → (BlockName → ℕ → ℕ) → Type 0
IsSure x sure = (name : BlockName) (j : ℕ) (row : Row) → slice_get (x.rows name) j ≡ Some row → is_reached row ≡ true → sure name j ≤ counts (Some row)

-- So the given code, of which only what surely stays counts, is followed like the one of which all that stays does.
abbrev pub LeanWeighed : Type 0
LeanWeighed =
    (x : Lean) → IsSound x → (old new sure : BlockName → ℕ → ℕ) → IsCheaper x old new → IsSure x sure
    → (o : Outside) (e : Entry) (r : Registers) (m : Memory) (n : ℕ)
    → Goes (weighed_of (old_setting x) old sure e o (sym_start (old_program x) r m)) n
    → IsOpen x e o (sym_start (old_program x) r m) n
    → (link : Follows (λ event. event) (weighed_of (old_setting x) old sure e o (sym_start (old_program x) r m)) (run_of (new_setting x) new e o (sym_start (new_program x) r m)) n)
    × IsSlow (λ event. event) (weighed_of (old_setting x) old sure e o (sym_start (old_program x) r m)) (run_of (new_setting x) new e o (sym_start (new_program x) r m)) n link
