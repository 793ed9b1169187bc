-- What follows of what the passes answer for one program.
use Rattle.std.specs.Prelude.{ℕ, ◌≡◌, Bool, true, List, length, map, Some, slice_get}
use Rattle.c_typed.specs.Chains.{graph_of, number_of, Reaches}
use Rattle.c_typed.specs.Trees.{Program}
use Rattle.c_typed.specs.declared.calls.FnId.{FnId}
use Rattle.c_typed.specs.declared.calls.FnId.TheVariants as callees
use Rattle.call_graph.specs.Numbers.{handler_at}
use Rattle.call_graph.specs.declared.types.FnCopy.{FnCopy}
use Rattle.core_code.specs.declared.code.Body.{Body}
use Rattle.core_code.specs.declared.code.CoreProgram.{CoreProgram}
use Rattle.lower_stmt.specs.Programs.{core_of}
use Rattle.math_helpers.specs.Routines.{helper_code}
use Rattle.pic_map.specs.MapView.{object_of, frame_of}
use Rattle.pic_map.specs.declared.Placed.{Placed}
use Rattle.pic_world.specs.declared.Root.{Root}
use Rattle.program_code.specs.Passed.{IsPassed}
use Rattle.ram_place.specs.Placement.{IsPlacing, LiveFramesAreDisjoint, FramesAreClear, ObjectsAreDisjoint}
use Rattle.select_wide.specs.Blocks.{is_user, body_at, code_by}
use Rattle.select_wide.specs.Links.{IsBody}
use Rattle.sym_code.specs.Layout.{IsOf, IsLaidOut}
use Rattle.sym_code.specs.Programs.{block_in}
use Rattle.sym_code.specs.declared.code.BlockName.TheVariants.{Start}
use Rattle.sym_code.specs.declared.code.Sym.{Sym}
use Rattle.sym_code.specs.declared.code.SymBlock.{SymBlock}
use Rattle.bank_page.specs.Near.{KeepNear}
use Rattle.flow_facts.specs.Links.{HasFlow}
use Rattle.chip_trace.specs.Arriving.{HasVectorFor, HasHalt}
use Rattle.code_place.specs.Layouts.{layout_of}
use Rattle.headline_trace.specs.Linked.{program_with, bare_setting, full_setting}

-- the code of the copy of a number: that of its body, or a helper's routine
abbrev pub code_of : List Body → List FnCopy → ℕ → Root → FnId → List Sym
code_of bodies copies c root (callees.User function) = code_by copies c (body_at bodies c)
code_of bodies copies c root (callees.Helper h) = helper_code h root c

-- The clauses give what the link of selects asks for, where no select sets RP1 if objects and frames end below 100h.
abbrev pub SelectsAreHad : Type 0
SelectsAreHad =
    (p : Program) (copies : List FnCopy) (core : CoreProgram) (given made : List SymBlock) (placed : Placed) (at : List ℕ) (limit : Bool → ℕ)
    (passed : IsPassed p copies core given made placed at) → KeepNear placed passed.whole
    → HasFlow passed.lean made (handler_at copies) placed at passed.thinned.facts (bare_setting passed.lean made (handler_at copies) placed at limit) (full_setting made (handler_at copies) placed at limit)

-- Each copy of a function has its body.
abbrev pub BodiesAreHad : Type 0
BodiesAreHad =
    (p : Program) (copies : List FnCopy) (core : CoreProgram) (given made : List SymBlock) (placed : Placed) (at : List ℕ) → IsPassed p copies core given made placed at
    → (c : ℕ) (copy : FnCopy) → slice_get copies c ≡ Some copy → is_user copy.function ≡ true → IsBody (program_with p copies core.bodies.items) core.bodies.items c

-- The start block is the first and has its vector, and its end.
abbrev pub StartIsHad : Type 0
StartIsHad =
    (p : Program) (copies : List FnCopy) (core : CoreProgram) (given made : List SymBlock) (placed : Placed) (at : List ℕ) → IsPassed p copies core given made placed at
    → ((block : SymBlock) × (slice_get made 0 ≡ Some block) × (block.name ≡ Start)) × HasVectorFor (block_in made Start) (handler_at copies) × HasHalt (block_in made Start)

-- The layout of the placing is one of the program's objects and copies, and what may be live together in it is apart.
abbrev pub LayoutIsHad : Type 0
LayoutIsHad =
    (p : Program) (copies : List FnCopy) (placed : Placed) → IsPlacing p copies (map object_of placed.objects.items) (map frame_of placed.frames.items)
    → IsOf (core_of p copies).first (core_of p copies).is_watched (length copies) (core_of p copies).frame_bytes (core_of p copies).root (layout_of placed)

abbrev pub LayoutServes : Type 0
LayoutServes =
    (p : Program) (copies : List FnCopy) (placed : Placed) → IsPlacing p copies (map object_of placed.objects.items) (map frame_of placed.frames.items)
    → ObjectsAreDisjoint (map object_of placed.objects.items) → FramesAreClear (map object_of placed.objects.items) (map frame_of placed.frames.items)
    → LiveFramesAreDisjoint p copies (map frame_of placed.frames.items)
    → (reaches : ℕ → ℕ → Bool)
    → ((c d : ℕ) (a b : FnCopy) → slice_get copies c ≡ Some a → slice_get copies d ≡ Some b → reaches c d ≡ true → Reaches (graph_of p) (number_of (length p.functions) a.function) (number_of (length p.functions) b.function))
    → IsLaidOut reaches (layout_of placed)
