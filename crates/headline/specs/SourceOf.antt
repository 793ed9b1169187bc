-- The source of a typed program, as the headline needs it: its runs and its initial bytes with values as a map shows them, and
-- what its map has to be. Nothing of it is taken from the map but the addresses by which values are shown.
use Rattle.std.specs.Prelude.{ℕ, zero, suc, ◌+◌, ◌≡◌, Bool, true, false, not, List, [], ◌∷◌, length, map, Some, slice_get}
use Rattle.c_typed.specs.Chains.{graph_of}
use Rattle.c_typed.specs.TreeNodes.{nodes_of}
use Rattle.c_typed.specs.Trees.{Program, StaticTree}
use Rattle.c_typed.specs.Types.{type_bytes}
use Rattle.call_graph.specs.Copies.{AreCopies}
use Rattle.call_graph.specs.declared.types.FnCopy.{FnCopy}
use Rattle.pic_world.specs.World.{Outside}
use Rattle.pic_map.specs.MapContent.{ObjectLine, FrameLine, MapContent}
use Rattle.live_frames.specs.Together.{MayBeLive}
use Rattle.ram_place.specs.Placement.{IsPlacing}
use Rattle.src_rules.specs.State.{Outcome, Undefined}
use Rattle.src_rules.specs.Runs.{moment, steps_by}
use Rattle.src_rules.specs.Step.{step}
use Rattle.src_values.specs.Memory.{Setting, first_memory}
use Rattle.src_memory.specs.Shown.{address_of, shown, shown_byte}
use Rattle.src_values.specs.declared.objects.Object.TheVariants.{Fixed}
use Rattle.headline.specs.Chips.{Chip}
use Rattle.headline.specs.Headline.{Source, SourceRun, IsFaithfulOn}
use Rattle.headline.specs.OnChip.{pic16f877a}

-- ---- runs
abbrev pub setting_of : Program → Outside → Setting
setting_of p outside = record { program = p; outside = outside }

-- an undefined step; one for which there is no rule is none
abbrev pub is_undefined : Outcome → Bool
is_undefined (Undefined kind line) = true
is_undefined _ = false

abbrev pub run_of : Program → MapContent → Outside → SourceRun
run_of p content outside =
    let s = setting_of p outside in
    record {
      trace = λ i. map (shown (address_of p content)) (moment s i).world.trace;
      is_defined = λ i. not (is_undefined (step s (moment s i)));
      steps = steps_by s;
    }

-- ---- initial bytes
-- so many bytes of the static object of this number, from this offset on
abbrev pub bytes_from : Program → MapContent → ℕ → ℕ → ℕ → List ℕ
bytes_from p content object at zero = []
bytes_from p content object at (suc left) = shown_byte (address_of p content) (first_memory p (Fixed object) at) ∷ bytes_from p content object (at + 1) left

-- the bytes of the static objects from this number on
abbrev pub initial_from : Program → MapContent → ℕ → List StaticTree → List (List ℕ)
initial_from p content object [] = []
initial_from p content object (s ∷ statics) = bytes_from p content object 0 (type_bytes p.sizes s.ty.ty) ∷ initial_from p content (object + 1) statics

-- ---- the map
-- The list has exactly the program's copies, in the order of placing, and the lines are exactly those of its objects and of the
-- frames of these copies, where they are to stand.
pub record IsMapOf (p : Program) (copies : List FnCopy) (objects : List ObjectLine) (frames : List FrameLine) : Type 0 where
  pub known : AreCopies p copies
  pub placing : IsPlacing p copies objects frames

-- the copies of these two numbers may be live together
pub record MayBothBeLive (p : Program) (copies : List FnCopy) (i j : ℕ) : Type 0 where
  pub one : FnCopy
  pub other : FnCopy
  pub at_one : slice_get copies i ≡ Some one
  pub at_other : slice_get copies j ≡ Some other
  pub live : MayBeLive (graph_of p) (length p.functions) one other

-- ---- the whole
abbrev pub source_of : Program → List FnCopy → MapContent → Source
source_of p copies content = record {
  IsMapped = IsMapOf p copies;
  live_together = MayBothBeLive p copies;
  initial = initial_from p content 0 p.statics;
  nodes = nodes_of p;
  run = run_of p content;
}

-- What the image does on a chip, seen by the map, is a run of this source of the program, with some copies.
pub record IsFaithfulAs (chip : Chip) (source : Program → List FnCopy → MapContent → Source) (p : Program) (content : MapContent) (image : List ℕ) : Type 0 where
  pub copies : List FnCopy
  pub faithful : IsFaithfulOn chip (source p copies content) content image

-- What the image does on the chip, seen by the map, is what the program says: the headline of a typed program.
abbrev pub IsFaithfulTo : Program → MapContent → List ℕ → Type 0
IsFaithfulTo = IsFaithfulAs pic16f877a source_of
