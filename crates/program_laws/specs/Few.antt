-- How many static objects a program has, and how many bytes these have, where each object has its place.
use Rattle.std.specs.Prelude.{◌≡◌, ◌≤◌, true, List, length}
use Rattle.c_typed.specs.Nodes.{capped}
use Rattle.c_typed.specs.Sound.{is_sound}
use Rattle.c_typed.specs.Trees.{Program}
use Rattle.c_typed.specs.Views.{program_of}
use Rattle.c_typed.specs.Words.{start_size}
use Rattle.c_typed.specs.declared.program.Typed.{Typed}
use Rattle.pic_map.specs.MapContent.{ObjectLine}
use Rattle.ram_place.specs.Placement.{AreObjects, ObjectsAreDisjoint}

-- Each object of a sound program has a byte at least, and the regions of data memory have 352.
abbrev pub ObjectsAreFew : Type 0
ObjectsAreFew =
    (typed : Typed) (lines : List ObjectLine) → is_sound (program_of typed) ≡ true → AreObjects (program_of typed) lines → length lines ≡ length (program_of typed).statics → ObjectsAreDisjoint lines
    → length typed.statics.items ≤ 352

-- What gives them their first values isn't over a page.
abbrev pub StartsFit : Type 0
StartsFit = (p : Program) (lines : List ObjectLine) → AreObjects p lines → length lines ≡ length p.statics → ObjectsAreDisjoint lines → capped (start_size p) ≤ 2048
