-- What is known of a text's program before its code is made.
use Rattle.std.specs.Prelude.{ℕ, ◌≡◌, ◌≤◌, true, List, length, None}
use Rattle.c_typed.specs.Roots.{broken_root}
use Rattle.c_typed.specs.Sound.{is_sound}
use Rattle.c_typed.specs.Views.{program_of}
use Rattle.c_typed.specs.declared.program.Typed.{Typed}
use Rattle.call_graph.specs.declared.types.FnCopy.{FnCopy}
use Rattle.pic_map.specs.declared.Placed.{Placed}
use Rattle.program_code.specs.Stated.{IsPaged}
use Rattle.program_code.specs.Translated.{HasCalls, IsSpread}
use Rattle.src_rules.specs.Numbers.{ProgramHasNumbers}

-- It keeps its typing rules, and no rule on main and the handler is broken; these are its copies, whose calls fit the return stack; objects and
-- frames have their places, and blocks their addresses; it has few static objects.
pub record IsFounded (typed : Typed) (copies : List FnCopy) (placed : Placed) (at : List ℕ) : Type 0 where
  pub sound : is_sound (program_of typed) ≡ true
  pub roots : broken_root (program_of typed) ≡ None
  pub numbers : ProgramHasNumbers (program_of typed)
  pub calls : HasCalls (program_of typed) copies
  pub spread : IsSpread (program_of typed) copies placed
  pub paged : IsPaged (program_of typed) copies at
  pub few : length typed.statics.items ≤ 352
