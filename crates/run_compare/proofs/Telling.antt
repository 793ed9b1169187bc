-- What is told of a run on the chip, from what was found of its source.
use Rattle.std.proofs.Common.{◌≡◌, ◌≤◌, ◌<◌, ℕ, zero, suc, Option, Some, None, List, length, replicate, slice_index, refl, subst, arith}
use Rattle.std.proofs.lemmas.List.{length-map}
use Rattle.std.specs.List.{All}
use Rattle.c_typed.specs.Chains.{graph_of}
use Rattle.c_typed.specs.Roots.{broken_root}
use Rattle.c_typed.specs.Trees.{Program}
use Rattle.c_typed.specs.Views.{program_of}
use Rattle.c_typed.specs.declared.program.Typed.{Typed}
use Rattle.call_graph.specs.Levels.{IsAcyclic}
use Rattle.call_graph.specs.declared.types.FnCopy.{FnCopy}
use Rattle.headline.specs.OnChip.{setting_of}
use Rattle.headline.specs.SourceOf.{IsFaithfulTo}
use Rattle.pic_chip.specs.Run.{IsStart, Setting}
use Rattle.pic_map.specs.MapContent.{MapContent}
use Rattle.pic_map.specs.MapView.{content_of, object_of}
use Rattle.pic_map.specs.declared.Map.{Map}
use Rattle.pic_world.specs.declared.Arrival.{Arrival}
use Rattle.pic_world.specs.declared.script.Script.{Script}
use Rattle.run_compare.specs.Agreement.{Tells}
use Rattle.run_compare.specs.Searching.{Answers, IsOffOf}
use Rattle.run_compare.specs.declared.comparing.Agreed.{Agreed}
use Rattle.run_compare.specs.declared.comparing.Agreed.TheVariants.{Same, Undefined}
use Rattle.run_compare.specs.declared.source_run.Fault.{Fault}
use Rattle.schedule.specs.Off.{lengths_before, read_off, runs_begun}
use Rattle.schedule.specs.Watching.{run_of, traces, zeros}
use Rattle.schedule.specs.declared.off.Off.{Off}
use Rattle.src_rules.specs.Numbers.{ProgramHasNumbers}

-- ---- the start
all_zero : (n k : ℕ) → slice_index (replicate n 0) k ≡ 0
all_zero zero k = refl
all_zero (suc n) zero = refl
all_zero (suc n) (suc k) = all_zero n k

is_start : IsStart zeros
is_start = record { w = omega arith; fsr = omega arith; flags = omega arith; count = refl; bytes = λ k. let e = all_zero 368 k in omega (arith, e) }

-- ---- of the runs of a program's image
module _ (p : Program) (content : MapContent) (image : List ℕ) (faithful : IsFaithfulTo p content image) where
  pub few_statics : length content.objects ≤ 65536 → length p.statics ≤ 65536
  few_statics few = let e = faithful.faithful.mapped.placing.each_object in omega (arith, few, e)

  module _ (copies : List FnCopy) (inputs : List ℕ) (arrivals : List Arrival) (bytes : (k : ℕ) → slice_index inputs k < 256) (n : ℕ) where
    pub tells_same : (events : ℕ) → events ≡ length (traces (setting_of content image zeros inputs arrivals) n) → Answers p copies content (setting_of content image zeros inputs arrivals) n None
        → Tells p copies content (setting_of content image zeros inputs arrivals) n (Same events)
    tells_same events is found = (found.0, found.1, is, (faithful.faithful.runs zeros inputs arrivals is_start bytes).prefix n found.0)

    pub tells_fault : (fault : Fault) → Answers p copies content (setting_of content image zeros inputs arrivals) n (Some fault)
        → Tells p copies content (setting_of content image zeros inputs arrivals) n (Undefined fault.kind fault.line)
    tells_fault fault found = found

-- ---- as the code has it
-- what is read off the run of a program's image
pub read_is : (typed : Typed) (image : List ℕ) (code : Map) (script : Script) (off : Off) → broken_root (program_of typed) ≡ None → IsAcyclic (graph_of (program_of typed)) → ProgramHasNumbers (program_of typed)
    → IsFaithfulTo (program_of typed) (content_of code) image → length code.objects.items ≤ 65536 → All (λ byte. byte < 256) script.input.items
    → off.events ≡ length (traces (run_of image code script) off.moment) → off.runs ≡ runs_begun (run_of image code script) off.moment
    → off.before.items ≡ lengths_before (traces (run_of image code script)) off.moment script.arrivals.items
    → off.by_length.arrivals.items ≡ read_off (traces (run_of image code script)) off.moment script.arrivals.items → off.by_length.input.items ≡ script.input.items
    → IsOffOf (program_of typed) (run_of image code script) off
read_is typed image code script off roots acyclic numbers faithful few bytes events runs before lengths input = record {
  proper = record { sound = typed.sound; roots = roots; numbers = numbers };
  acyclic = acyclic;
  statics = few_statics (program_of typed) (content_of code) image faithful (let e = length-map code.objects.items object_of in omega (arith, e, few));
  bytes = bytes;
  rising = script.rising;
  lengths = lengths;
  before = before;
  input = input;
  events = events;
  runs = runs;
}

abbrev pub agreed_of : Option Fault → ℕ → Agreed
agreed_of None events = Same events
agreed_of (Some fault) events = Undefined fault.kind fault.line

module _ (p : Program) (image : List ℕ) (code : Map) (script : Script) (off : Off) (faithful : IsFaithfulTo p (content_of code) image) (bytes : (k : ℕ) → slice_index script.input.items k < 256) (given : IsOffOf p (run_of image code script) off) where
  exact_at : (copies : List FnCopy) (found : Option Fault) → Answers p copies (content_of code) (run_of image code script) off.moment found → Tells p copies (content_of code) (run_of image code script) off.moment (agreed_of found off.events)
  exact_at copies None found = tells_same p (content_of code) image faithful copies script.input.items script.arrivals.items bytes off.moment off.events given.events found
  exact_at copies (Some fault) found = tells_fault p (content_of code) image faithful copies script.input.items script.arrivals.items bytes off.moment fault found

  pub exact : (last : ℕ) (found : Option Fault) → off.moment ≡ last
      → ((copies : List FnCopy) (g : Setting) → g.arrivals ≡ script.arrivals.items → IsOffOf p g off → Answers p copies (content_of code) g off.moment found)
      → (copies : List FnCopy) → Tells p copies (content_of code) (run_of image code script) last (agreed_of found off.events)
  exact last found is answers copies =
      subst (λ m. Tells p copies (content_of code) (run_of image code script) m (agreed_of found off.events)) is (exact_at copies found (answers copies (run_of image code script) refl given))
