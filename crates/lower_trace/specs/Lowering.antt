-- What lowering keeps: byte code follows the source.
use Rattle.std.specs.Prelude.{ℕ, ◌+◌, ◌*◌, ◌≡◌, ◌<◌, ◌≤◌, Bool, true, false, ◌&&◌, nat_eq, List, None, is_none, unwrap_or, length}
use Rattle.std.specs.List.{All, position, sum_by}
use Rattle.pic_world.specs.Roots.{same_root}
use Rattle.pic_world.specs.World.{Outside, Happening, event_as}
use Rattle.pic_world.specs.declared.Root.{Root}
use Rattle.run_links.specs.Runs.{Run, Goes, Follows, IsWithin}
use Rattle.c_typed.specs.Roots.{broken_root}
use Rattle.c_typed.specs.Chains.{graph_of}
use Rattle.c_typed.specs.Sound.{is_sound}
use Rattle.c_typed.specs.TreeNodes.{nodes_of}
use Rattle.c_typed.specs.Trees.{Program, StaticTree}
use Rattle.c_typed.specs.Types.{type_bytes}
use Rattle.c_typed.specs.Views.{program_of}
use Rattle.c_typed.specs.declared.Typed.{Typed}
use Rattle.c_typed.specs.declared.calls.FnId.{FnId}
use Rattle.c_typed.specs.declared.calls.FnId.TheVariants as callees
use Rattle.call_graph.specs.Copies.{AreCopies, HasDepth}
use Rattle.call_graph.specs.Levels.{IsAcyclic}
use Rattle.call_graph.specs.declared.types.FnCopy.{FnCopy}
use Rattle.ram_place.specs.Sizes.{frame_bytes, block_words}
use Rattle.src_values.specs.Memory.{Setting}
use Rattle.src_values.specs.Objects.{variable_offset}
use Rattle.src_values.specs.declared.objects.Byte.{Byte}
use Rattle.src_values.specs.declared.objects.Byte.TheVariants as bytes
use Rattle.src_values.specs.declared.objects.Object as source
use Rattle.src_values.specs.declared.objects.Object.TheVariants as objects
use Rattle.src_rules.specs.Numbers.{ProgramHasNumbers}
use Rattle.src_rules.specs.Runs.{moment, steps_by, fault_of, is_idle}
use Rattle.src_rules.specs.Step.{step}
use Rattle.core_code.specs.Bytes.{Object, Fixed, FrameOf, Held, Unset, Number, Part}
use Rattle.core_code.specs.Runs as core
use Rattle.lower_stmt.specs.Programs.{core_of}

-- ---- the source as a run
-- the most instructions of the chip that a step of the language may take
abbrev pub step_price : ℕ
step_price = 8000

-- Its moments are those between micro-steps. A step of the language may take no instruction at all.
abbrev pub source_run : Setting → Run (Happening Byte)
source_run s = record {
  trace = λ n. (moment s n).world.trace;
  goes = λ n. is_none (fault_of (step s (moment s n)));
  rests = λ n. is_idle (step s (moment s n));
  most = λ n. step_price * steps_by s n;
  least = λ n. 0;
}

-- ---- bytes of the source as byte code has them
abbrev pub is_of : ℕ → FnId → Bool
is_of function (callees.User other) = nat_eq other function
is_of function (callees.Helper helper) = false

-- the number of the copy of a function under a root
abbrev pub copy_number : List FnCopy → Root → ℕ → ℕ
copy_number copies root function = unwrap_or (position (λ copy. same_root copy.root root && is_of function copy.function) copies) 0

abbrev pub object_as : List FnCopy → source.Object → Object
object_as copies (objects.Fixed n) = Fixed n
object_as copies (objects.Variable c n) = FrameOf (copy_number copies c.root c.function)

-- how far behind the front of its frame an object stands
abbrev pub offset_as : Program → source.Object → ℕ
offset_as p (objects.Fixed n) = 0
offset_as p (objects.Variable c n) = variable_offset p c.function n

abbrev pub held_as : Program → List FnCopy → Byte → Held
held_as p copies bytes.Unset = Unset
held_as p copies (bytes.Number n) = Number n
held_as p copies (bytes.Part object offset high) = Part (object_as copies object) (offset_as p object + offset) high

-- ---- what is given
-- how far apart two pointers into an object are is an int
abbrev pub IsSmallStatic : Program → StaticTree → Type 0
IsSmallStatic p s = type_bytes p.sizes s.ty.ty ≤ 32767

pub record IsSmallCopy (p : Program) (copy : FnCopy) : Type 0 where
  pub frame : frame_bytes p copy.function ≤ 96
  pub block : block_words p copy.function ≤ 2048

-- the words of all blocks together
abbrev pub all_words : Program → List FnCopy → ℕ
all_words p copies = sum_by (λ (copy : FnCopy). block_words p copy.function) copies

-- A typed program with its copies, whose constants, labels, first bytes and characters are numbers of their types, whose calls fit the
-- return stack, whose objects and frames fit a region of memory each, and whose blocks fit a page each and program memory together. Each
-- program of which all passes answered is one.
pub record IsLowerable (p : Program) (copies : List FnCopy) : Type 0 where
  pub typed : Typed
  pub same : p ≡ program_of typed
  pub sound : is_sound p ≡ true
  pub numbers : ProgramHasNumbers p
  pub roots : broken_root p ≡ None
  pub acyclic : IsAcyclic (graph_of p)
  pub depth : ℕ
  pub exact : HasDepth p depth
  pub shallow : depth ≤ 8
  pub known : AreCopies p copies
  pub few_statics : length p.statics ≤ 65535
  pub small_statics : All (IsSmallStatic p) p.statics
  pub small_copies : All (IsSmallCopy p) copies
  pub few_words : all_words p copies ≤ 8192

-- ---- what is kept
-- byte code follows the first n micro-steps; and code without cost stands for no more steps than the program has nodes
pub record IsLowered (p : Program) (copies : List FnCopy) (o : Outside) (n : ℕ) : Type 0 where
  pub link : Follows (event_as (held_as p copies)) (source_run (record { program = p; outside = o })) (core.run_of (record { program = core_of p copies; outside = o })) n
  pub lag : IsWithin (core.run_of (record { program = core_of p copies; outside = o })) (nodes_of p) (steps_by (record { program = p; outside = o }) n) (link.at n)

-- what lowering promises: under every schedule, as long as no step of the source is undefined
abbrev pub Lowers : Type 0
Lowers =
    (p : Program) (copies : List FnCopy) → IsLowerable p copies → (o : Outside) → All (λ byte. byte < 256) o.input
    → (n : ℕ) → Goes (source_run (record { program = p; outside = o })) n → IsLowered p copies o n
