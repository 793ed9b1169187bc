-- The headline on the PIC16F877A.
use Rattle.std.specs.Prelude.{ℕ, List}
use Rattle.pic_world.specs.declared.Arrival.{Arrival}
use Rattle.pic_world.specs.declared.Event.{Event}
use Rattle.pic_world.specs.Arrivals.{arriving}
use Rattle.pic_chip.specs.declared.Start.{Start}
use Rattle.pic_chip.specs.Address.{byte_at}
use Rattle.pic_chip.specs.Run.{IsStart, Setting, moment, is_handling}
use Rattle.pic_map.specs.MapContent.{MapContent, watch_of}
use Rattle.headline.specs.Chips.{ChipRun, Chip}
use Rattle.headline.specs.Headline as any
use Rattle.headline.specs.Headline.{Source, SourceRun, IsFaithfulOn}

abbrev pub run_of : Setting → ChipRun
run_of g = record {
  trace = λ n. (moment g n).trace;
  met = λ n. (moment g n).met;
  byte = λ n address. byte_at (moment g n).state address;
  pushes = λ n. (moment g n).state.pushes;
  pops = λ n. (moment g n).state.pops;
  handling = λ n. is_handling (arriving g.arrivals n) (moment g n);
  early = λ n. (moment g n).early;
}

abbrev pub setting_of : MapContent → List ℕ → Start → List ℕ → List Arrival → Setting
setting_of content image start inputs arrivals =
    record { image = image; watch = watch_of content; start = start; inputs = inputs; arrivals = arrivals }

abbrev pub pic16f877a : Chip
pic16f877a = record {
  Start = Start;
  IsStart = IsStart;
  words = 8192;
  run = λ content image start inputs arrivals. run_of (setting_of content image start inputs arrivals);
}

-- ---- one run
module _ (source : Source) (content : MapContent) (g : Setting) where
  abbrev pub trace_at : ℕ → List Event
  trace_at n = (moment g n).trace

  abbrev pub run_at : ℕ → SourceRun
  run_at = any.run_at source content g.inputs g.arrivals (run_of g)

  abbrev pub IsClean : ℕ → Type 0
  IsClean = any.IsClean source content g.inputs g.arrivals (run_of g)

  abbrev pub Follows : Type 0
  Follows = any.Follows source content g.inputs g.arrivals (run_of g)

-- ---- all runs
abbrev pub IsFaithful : Source → MapContent → List ℕ → Type 0
IsFaithful = IsFaithfulOn pic16f877a
