-- A run of the chip as it is watched: what is known of it at one of its moments, and what it still has to count.
use Rattle.std.specs.Prelude.{ℕ, ◌≡◌, Bool, false, if◌then◌else◌, List, [], ◌∷◌, length, replicate}
use Rattle.pic_world.specs.declared.Event.{Event}
use Rattle.pic_world.specs.declared.script.Script.{Script}
use Rattle.pic_world.specs.Registers.{lowest}
use Rattle.pic_chip.specs.declared.Start.{Start}
use Rattle.pic_chip.specs.Act.{Made}
use Rattle.pic_chip.specs.Machine.{Machine}
use Rattle.pic_chip.specs.Run.{Watch, Setting, moment, events_of}
use Rattle.pic_map.specs.declared.Map.{Map}
use Rattle.pic_map.specs.declared.tracer.Tracer.{Tracer}
use Rattle.pic_map.specs.MapContent.{watch_of}
use Rattle.pic_map.specs.MapView.{content_of}
use Rattle.pic_map.specs.Tracing.{Tracing, tracing_of}
use Rattle.schedule.specs.Off.{runs_begun}

-- ---- the run
-- all that is unknown after power-on is 0
abbrev pub zeros : Start
zeros = record { w = 0; fsr = 0; flags = 0; ram = replicate 368 0 }

-- the run of an image by a script, watched so
abbrev pub watched_run : List ℕ → Watch → Script → Setting
watched_run image watch script = record { image = image; watch = watch; start = zeros; inputs = script.input.items; arrivals = script.arrivals.items }

-- the same, seen by a map
abbrev pub run_of : List ℕ → Map → Script → Setting
run_of image map script = watched_run image (watch_of (content_of map)) script

abbrev pub traces : Setting → ℕ → List Event
traces g k = (moment g k).trace

-- ---- at a moment
-- The chip stands at moment k of the run, which hasn't ended. `inside` says that an interrupt was taken, and no RETFIE has run since.
pub record IsRunAt (g : Setting) (k : ℕ) (chip : Machine) (inside : Bool) : Type 0 where
  pub state : chip.state ≡ (moment g k).state
  pub index : chip.index ≡ k
  pub handling : inside ≡ (moment g k).handling
  pub going : (moment g k).stopped ≡ false

-- the same, with what is remembered of the moments so far, the events of the trace and the runs of the handler
pub record IsWatchedAt (g : Setting) (k : ℕ) (chip : Machine) (inside : Bool) (tracing : Tracing) (events runs : ℕ) : Type 0 where
  pub run : IsRunAt g k chip inside
  pub watch : tracing.watch ≡ g.watch
  pub met : tracing.met ≡ (moment g k).met
  pub ended : tracing.ended ≡ (moment g k).ended
  pub count : events ≡ length (moment g k).trace
  pub begun : runs ≡ runs_begun g k

-- ---- events
-- each access is named by the lowest address of its register
abbrev pub AreLowest : List Made → Type 0
AreLowest [] = Unit {0}
AreLowest (x ∷ xs) = (lowest x.address ≡ x.address) × AreLowest xs

-- the events of accesses
abbrev pub shown_all : List Made → Tracing → List Event
shown_all made t = if t.met then events_of t.watch.ranges made else []

-- the events ahead that are no access: that main ends, once
abbrev pub ahead : Tracer → ℕ
ahead tracer = if (tracing_of tracer).ended then 0 else 1
