-- A program with its code in every language of the compiler, and what all links together say of it.
use Rattle.std.specs.Prelude.{ℕ, ◌≡◌, ◌<◌, Bool, true, false, List, [], Option, Some, None, map}
use Rattle.std.specs.Global.{Global}
use Rattle.std.specs.List.{All}
use Rattle.std.specs.declared.vec.Vec.{Vec}
use Rattle.c_typed.specs.Trees.{Program}
use Rattle.call_graph.specs.declared.types.FnCopy.{FnCopy}
use Rattle.pic_chip.specs.Run.{IsStart}
use Rattle.pic_chip.specs.declared.Start.{Start}
use Rattle.pic_map.specs.MapContent.{MapContent, range_of, watch_of}
use Rattle.pic_map.specs.declared.Placed.{Placed}
use Rattle.pic_world.specs.World.{Outside, is_due}
use Rattle.pic_world.specs.declared.Arrival.{Arrival}
use Rattle.run_links.specs.Runs as runs
use Rattle.run_links.specs.Runs.{Goes, IsSlow}
use Rattle.core_code.specs.Bytes.{Object}
use Rattle.core_code.specs.Machine as byte_code
use Rattle.core_code.specs.Runs as byte_runs
use Rattle.core_code.specs.Tree.{Tree}
use Rattle.core_code.specs.View.{trees_in}
use Rattle.core_code.specs.declared.code.Body.{Body}
use Rattle.core_code.specs.declared.code.FirstByte.{FirstByte}
use Rattle.sym_code.specs.Effect.{Setting, Memory}
use Rattle.sym_code.specs.Layout.{DataLayout, frame}
use Rattle.sym_code.specs.Machine.{Entry, running, settled, sym_run, sym_start}
use Rattle.sym_code.specs.Programs.{block_in}
use Rattle.sym_code.specs.Registers.{Registers, no_leaves}
use Rattle.sym_code.specs.Runs.{run_of, weighed_of}
use Rattle.sym_code.specs.declared.code.BlockName.{BlockName}
use Rattle.sym_code.specs.declared.code.SymBlock.{SymBlock}
use Rattle.code_place.specs.Layouts.{program_of, page_of, layout_of}
use Rattle.src_memory.specs.Shown.{frame_address}
use Rattle.src_rules.specs.Standing.{IsReached}
use Rattle.src_values.specs.Objects.{function_at}
use Rattle.src_values.specs.declared.objects.CopyOf.{CopyOf}
use Rattle.lower_stmt.specs.Programs.{core_of}
use Rattle.lower_trace.specs.Lowering.{IsLowerable, copy_number}
use Rattle.select_wide.specs.Blocks.{body_at}
use Rattle.select_wide.specs.Links.{IsSelected}
use Rattle.bank_page.specs.Links.{price_in}
use Rattle.flow_facts.specs.Facts.{Facts}
use Rattle.lean_code.specs.Clear.{IsClear}
use Rattle.lean_code.specs.Links.{is_open}
use Rattle.narrow_code.specs.Links.{reaches_lent}
use Rattle.flow_facts.specs.Links.{HasFlow}
use Rattle.chip_trace.specs.Arriving.{IsAssembled}
use Rattle.chip_trace.specs.Starting.{IsBeginning, held_in}
use Rattle.headline.specs.OnChip.{Follows, setting_of}
use Rattle.headline.specs.SourceOf.{source_of}
use Rattle.headline_trace.specs.Carried.{frame_of}

-- By the names of the map the frames of copies are found where the code has them.
pub record IsNamed (p : Program) (copies : List FnCopy) (content : MapContent) (l : DataLayout) : Type 0 where
  pub frames : (c : CopyOf) → IsReached p c → frame_address content.frames c.root (function_at p c.function).name ≡ (frame l (copy_number copies c.root c.function)).address

-- ---- byte code
-- the code of a body that is there
abbrev pub code_at : Option Body → List Tree
code_at None = []
code_at (Some body) = trees_in body.code.items

-- the program of byte code, with these bodies in place of those that were lowered
abbrev pub program_with : Program → List FnCopy → List Body → byte_code.Program
program_with p copies bodies = record (core_of p copies) { body = λ c. code_at (body_at bodies c) }

-- One program of byte code is followed by another: under every schedule, as long as it isn't stuck, and costs between two moments are no
-- more at most and no less at least.
abbrev pub CodeFollows : byte_code.Program → byte_code.Program → Type 0
CodeFollows q r =
    (o : Outside) (n : ℕ) → Goes (byte_runs.run_of (record { program = q; outside = o })) n
    → (link : runs.Follows (λ event. event) (byte_runs.run_of (record { program = q; outside = o })) (byte_runs.run_of (record { program = r; outside = o })) n)
    × IsSlow (λ event. event) (byte_runs.run_of (record { program = q; outside = o })) (byte_runs.run_of (record { program = r; outside = o })) n link

-- At no moment the program accesses an object by a pointer but those that are lent.
abbrev pub LeadsTo : (Object → Bool) → byte_code.Program → Type 0
LeadsTo lent q = (o : Outside) (i : ℕ) → reaches_lent lent (byte_code.core_moment (record { program = q; outside = o }) i).code ≡ true

-- ---- symbolic code
-- symbolic code as it was selected, or leaner, without selects, on the pages of what is made of it; and with them
abbrev pub bare_setting : List SymBlock → List SymBlock → Option ℕ → Placed → List ℕ → (Bool → ℕ) → Setting
bare_setting given made handler placed at limit = record { program = program_of given handler placed; banked = false; page_of = page_of made at; limit = limit; leaves = no_leaves }

abbrev pub full_setting : List SymBlock → Option ℕ → Placed → List ℕ → (Bool → ℕ) → Setting
full_setting made handler placed at limit = record { program = program_of made handler placed; banked = true; page_of = page_of made at; limit = limit; leaves = no_leaves }

-- At each of its first n steps that carries out an instruction the code accesses no hidden byte through FSR.
abbrev pub StaysOpen : (ℕ → Bool) → Setting → Outside → Entry → Registers → Memory → ℕ → Type 0
StaysOpen hidden g o e r m n =
    (i : ℕ) → i < n → is_due (settled o (sym_run g e o i (sym_start g.program r m))).world ≡ false → is_open hidden g.program (running (settled o (sym_run g e o i (sym_start g.program r m)))) ≡ true

-- As long as it accesses no hidden byte through FSR, the code of one setting is followed by that of another: at most at these prices, and at
-- least by what surely stays of it.
abbrev pub LeanFollows : (ℕ → Bool) → Setting → Setting → (BlockName → ℕ → ℕ) → (BlockName → ℕ → ℕ) → (BlockName → ℕ → ℕ) → Type 0
LeanFollows hidden g h price sure new =
    (o : Outside) (e : Entry) (r : Registers) (m : Memory) (n : ℕ) → Goes (weighed_of g price sure e o (sym_start g.program r m)) n → StaysOpen hidden g o e r m n
    → (link : runs.Follows (λ event. event) (weighed_of g price sure e o (sym_start g.program r m)) (run_of h new e o (sym_start h.program r m)) n)
    × IsSlow (λ event. event) (weighed_of g price sure e o (sym_start g.program r m)) (run_of h new e o (sym_start h.program r m)) n link

-- A typed program with its copies, the bodies of its byte code, symbolic code as it was selected, leaner, and with selects, the words of its image,
-- and its map.
pub record IsLinked (p : Program) (copies : List FnCopy) (bodies : List Body) (statics : List (Vec FirstByte Global)) (reaches : ℕ → ℕ → Bool) (given lean made : List SymBlock)
    (handler : Option ℕ) (placed : Placed) (at : List ℕ) (limit : Bool → ℕ) (image : List ℕ) (content : MapContent) : Type 0 where
  pub lowerable : IsLowerable p copies
  -- what the instructions that were selected cost, and how much of each surely stays
  pub price : BlockName → ℕ → ℕ
  pub sure : BlockName → ℕ → ℕ
  -- of byte code as it is lowered, or that follows it
  pub narrowed : CodeFollows (core_of p copies) (program_with p copies bodies)
  pub selected : IsSelected (program_with p copies bodies) copies bodies reaches (bare_setting given made handler placed at limit) price sure
  -- the objects to which pointers may lead, and the bytes that the leaner code takes for hidden from accesses through FSR
  pub lent : Object → Bool
  pub leads : LeadsTo lent (program_with p copies bodies)
  pub hidden : ℕ → Bool
  pub clear : IsClear hidden (layout_of placed) lent
  pub leaner : LeanFollows hidden (bare_setting given made handler placed at limit) (bare_setting lean made handler placed at limit) price sure (price_in (block_in made))
  -- what is known of the selected bits
  pub facts : Facts
  pub selects : HasFlow lean made handler placed at facts (bare_setting lean made handler placed at limit) (full_setting made handler placed at limit)
  pub assembled : IsAssembled made at placed handler image (watch_of content) (full_setting made handler placed at limit)
  pub beginning : IsBeginning made placed handler statics (full_setting made handler placed at limit)
  pub statics_are : held_in statics ≡ (core_of p copies).first
  -- the map has the lines of the placing
  pub objects : map range_of content.objects ≡ (layout_of placed).objects
  pub frames : map frame_of content.frames ≡ (layout_of placed).frames
  pub named : IsNamed p copies content (layout_of placed)

-- The image does on the chip what the program says: from anything that power-on leaves, over any input list and any arrivals.
abbrev pub MakesHeadline : Type 0
MakesHeadline =
    (p : Program) (copies : List FnCopy) (bodies : List Body) (statics : List (Vec FirstByte Global)) (reaches : ℕ → ℕ → Bool) (given lean made : List SymBlock)
    (handler : Option ℕ) (placed : Placed) (at : List ℕ) (limit : Bool → ℕ) (image : List ℕ) (content : MapContent)
    → IsLinked p copies bodies statics reaches given lean made handler placed at limit image content
    → (start : Start) (inputs : List ℕ) (arrivals : List Arrival) → IsStart start → All (λ byte. byte < 256) inputs
    → Follows (source_of p copies content) content (setting_of content image start inputs arrivals)
