-- The stated words of the start block, where some static objects are left out.
use Rattle.std.specs.Prelude.{ℕ, ◌+◌, ◌*◌, if◌then◌else◌, List}
use Rattle.c_typed.specs.Trees.{StaticTree, Program}
use Rattle.c_typed.specs.Types.{type_bytes}
use Rattle.c_typed.specs.Words.{statics_bytes}
use Rattle.ram_place.specs.Placement.{is_left_out, kept}

-- the bytes of a static object of this number, if it isn't left out
abbrev pub bytes_kept : List ℕ → List ℕ → ℕ → StaticTree → ℕ
bytes_kept sizes without n s = if is_left_out without n then 0 else type_bytes sizes s.ty.ty

-- static objects that are left out get no first bytes
abbrev pub start_size_but : Program → List ℕ → ℕ
start_size_but p without = 100 + 4 * statics_bytes p.sizes (kept p without)
