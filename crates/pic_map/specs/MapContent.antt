-- What a map file tells: where main begins and ends, and where the static objects and the frames of the
-- function copies stand.
use Rattle.std.specs.Prelude.{ℕ, Bool, List, map}
use Rattle.pic_world.specs.declared.Root.{Root}
use Rattle.pic_chip.specs.Run.{Range, Watch}

-- a static object; `constant` for one that is const
pub record ObjectLine : Type 0 where
  pub constant : Bool
  pub name : List ℕ
  pub address : ℕ
  pub size : ℕ

-- the frame of a function copy
pub record FrameLine : Type 0 where
  pub root : Root
  pub name : List ℕ
  pub address : ℕ
  pub size : ℕ

pub record MapContent : Type 0 where
  pub main : ℕ
  pub halt : ℕ
  pub objects : List ObjectLine
  pub frames : List FrameLine

abbrev pub range_of : ObjectLine → Range
range_of line = record { constant = line.constant; address = line.address; size = line.size }

-- what is watched of a run by this map
abbrev pub watch_of : MapContent → Watch
watch_of content = record { main = content.main; halt = content.halt; ranges = map range_of content.objects }
