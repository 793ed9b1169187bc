-- The first memory has the objects of the program, and is the first one of the definitions.
use Rattle.std.proofs.Common.{◌≡◌, ℕ, ◌+◌, ◌%◌, take, ap, ◌∙◌, arith}
use Rattle.std.specs.Prelude.{slice_get}
use Rattle.c_typed.specs.Room.{variables_bytes}
use Rattle.c_typed.specs.Trees.{Program}
use Rattle.pic_map.specs.MapContent.{MapContent}
use Rattle.pic_world.specs.declared.Root.{Root}
use Rattle.pic_world.specs.declared.Root.TheVariants.{Main, Isr}
use Rattle.src_memory.specs.Cells.{Cell, byte_at, cell_in, cells_seen, frames_in, memory_in, size_of}
use Rattle.src_memory.specs.Shape.{AreSmall, IsShaped, IsThere}
use Rattle.src_memory.specs.Shown.{address_of, frame_address, object_address}
use Rattle.src_memory.specs.Start.{address_behind, all_frames, seen_frames, static_cells}
use Rattle.src_memory.specs.declared.memory.Memory.{Memory}
use Rattle.src_memory.proofs.Changes.{same_memory}
use Rattle.src_memory.proofs.Starts.{behind_by, static_address, static_byte_of, static_found, static_or, static_size, static_watched, variable_address, variable_byte, variable_found, variable_or, variable_size, variable_watched}
use Rattle.src_values.specs.Memory.{first_memory}
use Rattle.src_values.specs.Objects.{function_at, is_watched, object_bytes, variables_of}
use Rattle.src_values.specs.declared.objects.CopyOf.{CopyOf}
use Rattle.src_values.specs.declared.objects.Object.{Object}
use Rattle.src_values.specs.declared.objects.Object.TheVariants.{Fixed, Variable}

-- what was made of a program and a map
pub record IsFirst (p : Program) (map : MapContent) (m : Memory) : Type 0 where
  pub statics : cells_seen m.fixed.items ≡ static_cells p.sizes map.objects 0 p.statics
  pub frames : (root : Root) → seen_frames (frames_in m root) ≡ all_frames p.sizes map.frames root p.functions

pub first_of : (p : Program) (map : MapContent) (m : Memory) → cells_seen m.fixed.items ≡ static_cells p.sizes map.objects 0 p.statics →
    seen_frames m.main.items ≡ all_frames p.sizes map.frames Main p.functions → seen_frames m.handler.items ≡ all_frames p.sizes map.frames Isr p.functions → IsFirst p map m
first_of p map m s f g = record { statics = s; frames = both }
  where
    both : (root : Root) → seen_frames (frames_in m root) ≡ all_frames p.sizes map.frames root p.functions
    both Main = f
    both Isr = g

module _ (p : Program) (map : MapContent) (m : Memory) (h : IsFirst p map m) where
  static_in : (n : ℕ) → cell_in m (Fixed n) ≡ static_or p.sizes (object_address (slice_get map.objects n)) (slice_get p.statics n)
  static_in n = static_found p.sizes map.objects p.statics m.fixed.items n h.statics

  abbrev start_of : CopyOf → ℕ
  start_of c = frame_address map.frames c.root (function_at p c.function).name

  variable_in : (c : CopyOf) (n : ℕ) → cell_in m (Variable c n) ≡ variable_or p.sizes (address_behind p.sizes (start_of c % 512) (take n (variables_of (function_at p c.function)))) (slice_get (variables_of (function_at p c.function)) n)
  variable_in c n = variable_found p.sizes map.frames c.root p.functions (frames_in m c.root) c.function n (h.frames c.root)

  pub first_is : memory_in m ≡ first_memory p
  unfolding memory_in
  first_is = same_memory (memory_in m) (first_memory p) same
    where
      same : (o : Object) (at : ℕ) → memory_in m o at ≡ first_memory p o at
      same (Fixed n) at = ap (λ c. byte_at c at) (static_in n) ∙ static_byte_of p.sizes (object_address (slice_get map.objects n)) (slice_get p.statics n) at
      same (Variable c n) at = ap (λ x. byte_at x at) (variable_in c n) ∙ variable_byte p.sizes (address_behind p.sizes (start_of c % 512) (take n (variables_of (function_at p c.function)))) (slice_get (variables_of (function_at p c.function)) n) at

  has_size : (o : Object) → size_of (cell_in m o) ≡ object_bytes p o
  unfolding object_bytes
  has_size (Fixed n) = ap size_of (static_in n) ∙ static_size p.sizes (object_address (slice_get map.objects n)) (slice_get p.statics n)
  has_size (Variable c n) = ap size_of (variable_in c n) ∙ variable_size p.sizes (address_behind p.sizes (start_of c % 512) (take n (variables_of (function_at p c.function)))) (slice_get (variables_of (function_at p c.function)) n)

  is_seen : (o : Object) → IsThere p o → (cell_in m o).watched ≡ is_watched p o
  unfolding is_watched
  is_seen (Fixed n) t = ap (λ (c : Cell). c.watched) (static_in n) ∙ static_watched p.sizes (object_address (slice_get map.objects n)) p.statics n t
  is_seen (Variable c n) t = ap (λ (x : Cell). x.watched) (variable_in c n) ∙ variable_watched p.sizes (address_behind p.sizes (start_of c % 512) (take n (variables_of (function_at p c.function)))) (slice_get (variables_of (function_at p c.function)) n)

  has_address : (o : Object) → IsThere p o → (cell_in m o).address % 512 ≡ address_of p map o % 512
  unfolding address_of
  has_address (Fixed n) t = ap (λ (c : Cell). c.address % 512) (static_in n) ∙ ap (λ a. a % 512) (static_address p.sizes (object_address (slice_get map.objects n)) p.statics n t)
  has_address (Variable c n) t =
      let vs = variables_of (function_at p c.function) in
      let a = address_behind p.sizes (start_of c % 512) (take n vs) in
      ap (λ (x : Cell). x.address % 512) (variable_in c n) ∙ ap (λ k. k % 512) (variable_address p.sizes a vs n t) ∙
      behind_by p.sizes (take n vs) (start_of c % 512) ∙ sums (start_of c) (variables_bytes p.sizes (take n vs))
    where
      sums : (a s : ℕ) → (a % 512 + s) % 512 ≡ (a + s) % 512
      sums a s = omega arith

  pub first_shaped : AreSmall p → IsShaped p map m
  first_shaped small = record { small = small; size = has_size; watched = is_seen; address = has_address }
