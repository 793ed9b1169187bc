-- How a run of the chip is watched moment by moment: what is remembered of the moments so far, and the events
-- that a moment and an access add to the trace.
use Rattle.std.specs.Prelude.{ℕ, Bool, true, not, ◌&&◌, nat_eq, if◌then◌else◌, Option, Some, None, List, [], ◌∷◌}
use Rattle.pic_world.specs.declared.Event.{Event}
use Rattle.pic_world.specs.declared.Event.TheVariants.{End}
use Rattle.pic_chip.specs.Run.{Watch, cell_at, event_at}
use Rattle.pic_map.specs.MapContent.{watch_of}
use Rattle.pic_map.specs.MapView.{content_of}
use Rattle.pic_map.specs.declared.tracer.Tracer.{Tracer}

pub record Tracing : Type 0 where
  pub watch : Watch
  -- the program counter has stood at main's address
  pub met : Bool
  -- it has stood at the halt address at a later moment
  pub ended : Bool

abbrev pub tracing_of : Tracer → Tracing
tracing_of t = record { watch = watch_of (content_of t.map.now); met = t.met; ended = t.ended }

-- at this program counter main ends, for the first time
abbrev pub ends_at : ℕ → Tracing → Bool
ends_at pc t = nat_eq pc t.watch.halt && not t.ended

-- what is remembered after a moment at this program counter
abbrev pub looked : ℕ → Tracing → Tracing
looked pc t =
    if t.met then
    (if ends_at pc t then record t { ended = true } else t)
    else record t { met = nat_eq pc t.watch.main }

-- the events that the moment itself adds
abbrev pub told : ℕ → Tracing → List Event
told pc t = if t.met then (if ends_at pc t then End ∷ [] else []) else []

-- the events that an access adds
abbrev pub shown : Bool → ℕ → ℕ → Tracing → List Event
shown write byte address t = if t.met then event_at write byte (cell_at t.watch.ranges address) else []

abbrev pub list_of : Option Event → List Event
list_of None = []
list_of (Some e) = e ∷ []
