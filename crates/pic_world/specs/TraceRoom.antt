-- A trace as its callers see it.
use Rattle.std.specs.Prelude.{ℕ, List}
use Rattle.pic_world.specs.declared.Event.{Event}

-- the events so far, and how many more may be appended without memory
pub record Recorded : Type 0 where
  pub events : List Event
  pub room : ℕ
