-- All links together, and what they make of a program: the headline.
use Rattle.std.proofs.Common.{◌≡◌, ℕ, ◌<◌, Bool, List, length, Option, refl, sym, subst}
use Rattle.std.specs.Prelude.{slice_index}
use Rattle.std.specs.Global.{Global}
use Rattle.std.specs.List.{All}
use Rattle.std.specs.declared.vec.Vec.{Vec}
use Rattle.c_typed.specs.TreeNodes.{nodes_of}
use Rattle.c_typed.specs.Trees.{Program}
use Rattle.call_graph.specs.declared.types.FnCopy.{FnCopy}
use Rattle.pic_chip.specs.Run as chip
use Rattle.pic_chip.specs.Run.{IsStart, moment}
use Rattle.pic_chip.specs.declared.Start.{Start}
use Rattle.pic_map.specs.MapContent.{MapContent}
use Rattle.pic_map.specs.declared.Placed.{Placed}
use Rattle.pic_world.specs.World.{Outside, Happening, event_as}
use Rattle.pic_world.specs.declared.Arrival.{Arrival}
use Rattle.run_links.specs.Runs as runs
use Rattle.run_links.specs.Runs.{Run, Goes, IsSlow}
use Rattle.run_links.proofs.Links.{slow_from_start}
use Rattle.core_code.specs.Bytes.{Held}
use Rattle.core_code.specs.Machine as core
use Rattle.core_code.specs.Runs as core_runs
use Rattle.core_code.specs.declared.code.Body.{Body}
use Rattle.core_code.specs.declared.code.FirstByte.{FirstByte}
use Rattle.sym_code.specs.Cost.{cost_by, times_in}
use Rattle.sym_code.specs.Correct.{AreEntries, IsBegun}
use Rattle.sym_code.specs.Effect.{Setting, Memory}
use Rattle.sym_code.specs.Layout.{DataLayout, shown}
use Rattle.sym_code.specs.Machine.{Entry, sym_start}
use Rattle.sym_code.specs.Programs.{block_in}
use Rattle.sym_code.specs.Registers.{Registers, Fits}
use Rattle.sym_code.specs.Runs.{run_of, weighed_of}
use Rattle.sym_code.specs.declared.code.SymBlock.{SymBlock}
use Rattle.code_place.specs.Layouts.{layout_of}
use Rattle.src_rules.specs.Laws.{IsProper, IsOfBytes}
use Rattle.src_rules.specs.Runs.{steps_by}
use Rattle.src_values.specs.declared.objects.Byte.{Byte}
use Rattle.lower_stmt.specs.Programs.{core_of}
use Rattle.lower_trace.specs.Lowering.{source_run, held_as}
use Rattle.lower_trace.proofs.Lowered.{lowers}
use Rattle.bank_page.specs.Links.{price_in}
use Rattle.bank_trace.proofs.Chosen.{flows_keep}
use Rattle.chip_trace.specs.Arriving.{IsRunning, IsStarted, Arrives}
use Rattle.chip_trace.specs.Entries as finds
use Rattle.chip_trace.proofs.Final.{arriving, fitting}
use Rattle.chip_trace.proofs.StartFinal.{starting}
use Rattle.headline.specs.Headline.{Source}
use Rattle.headline.specs.OnChip.{IsClean, Follows, setting_of}
use Rattle.headline.specs.SourceOf as sources
use Rattle.headline.specs.SourceOf.{source_of}
use Rattle.headline_trace.specs.Carried.{IsLed, IsSeen, IsTold}
use Rattle.headline_trace.specs.Linked.{IsLinked, MakesHeadline, StaysOpen, program_with, bare_setting, full_setting}
use Rattle.headline_trace.proofs.Beginning.{begins as begins_alike}
use Rattle.headline_trace.proofs.Chains.{through, led_on}
use Rattle.headline_trace.proofs.Ends.{end_state, frames}
use Rattle.headline_trace.proofs.Opened.{selection_opens}
use Rattle.headline_trace.proofs.Joining.{running, prefix, pace, no_underflow, no_overflow, start_up}
use Rattle.headline_trace.proofs.Showing.{seen}

module _ (p : Program) (copies : List FnCopy) (bodies : List Body) (statics : List (Vec FirstByte Global)) (reaches : ℕ → ℕ → Bool) (given lean made : List SymBlock)
    (handler : Option ℕ) (placed : Placed) (at : List ℕ) (limit : Bool → ℕ) (image : List ℕ) (content : MapContent)
    (linked : IsLinked p copies bodies statics reaches given lean made handler placed at limit image content)
    (start : Start) (inputs : List ℕ) (arrivals : List Arrival) (is_start : IsStart start) (small : All (λ byte. byte < 256) inputs) where
  abbrev q : core.Program
  q = core_of p copies

  -- the program of which blocks are selected
  abbrev r : core.Program
  r = program_with p copies bodies

  abbrev plain : Setting
  plain = bare_setting given made handler placed at limit

  abbrev bare : Setting
  bare = bare_setting lean made handler placed at limit

  abbrev full : Setting
  full = full_setting made handler placed at limit

  abbrev c : chip.Setting
  c = setting_of content image start inputs arrivals

  abbrev l : DataLayout
  l = layout_of placed

  abbrev source : Source
  source = source_of p copies content

  abbrev above : Outside → Run (Happening Byte)
  above o = source_run (sources.setting_of p o)

  abbrev show : Happening Byte → Happening ℕ
  show e = event_as (shown l) (event_as (held_as p copies) e)

  -- ---- the start
  pub started : IsStarted full q.first c
  started = subst (λ f. IsStarted full f c) linked.statics_are (starting made at placed handler statics full c linked.assembled linked.beginning is_start small)

  abbrev begins : Registers
  begins = finds.begins c started.at

  abbrev m : Memory
  m = slice_index (moment c started.at).state.ram

  fits : Fits begins
  fits = (fitting full c started.at).0

  abbrev arrived : (n : ℕ) → (entry : Entry) × AreEntries entry × Arrives full c entry begins m n
  arrived n = (finds.handler_finds full c started.at n, (fitting full c started.at).1 n, arriving made at placed handler q.first full c linked.assembled is_start small started n)

  begun : IsBegun q.first l begins m
  begun = started.begun begins fits

  -- ---- the source
  proper : IsProper p
  proper = record { sound = linked.lowerable.sound; roots = linked.lowerable.roots; numbers = linked.lowerable.numbers }

  bytes_in : (o : Outside) → o.input ≡ c.inputs → IsOfBytes o
  bytes_in o is = subst (All (λ byte. byte < 256)) (sym is) small

  is_seen : (o : Outside) → o.input ≡ c.inputs → IsSeen show (above o) (source.run o)
  is_seen o is = seen p copies content l linked.objects linked.named o proper (bytes_in o is)

  is_told : IsTold content c.watch l q.first source.initial
  unfolding core_of
  is_told = record { watched = refl; objects = linked.objects; frames = linked.frames; begins = begins_alike p content l linked.objects linked.lowerable.sound }

  -- ---- from the source to symbolic code with its selects
  module _ (e : Entry) (entries : AreEntries e) (o : Outside) (is : o.input ≡ c.inputs) where
    abbrev byte_run : Run (Happening Held)
    byte_run = core_runs.run_of (record { program = q; outside = o })

    abbrev narrow_run : Run (Happening Held)
    narrow_run = core_runs.run_of (record { program = r; outside = o })

    abbrev plain_run : Run (Happening ℕ)
    plain_run = weighed_of plain linked.price linked.sure e o (sym_start plain.program begins m)

    abbrev bare_run : Run (Happening ℕ)
    bare_run = run_of bare (price_in (block_in made)) e o (sym_start bare.program begins m)

    abbrev full_run : Run (Happening ℕ)
    full_run = run_of full (times_in full.program.block) e o (sym_start full.program begins m)

    -- byte code, by the law of lowering
    led_byte : IsLed (event_as (held_as p copies)) (above o) (steps_by (sources.setting_of p o)) (nodes_of p) byte_run
    led_byte = record {
      followed = λ n d. (lowers p copies linked.lowerable o (bytes_in o is) n d).link;
      lag = λ n d. (lowers p copies linked.lowerable o (bytes_in o is) n d).lag;
    }

    byte_free : byte_run.least 0 ≡ 0
    unfolding core_runs.least_by
    byte_free = refl

    narrow_free : narrow_run.least 0 ≡ 0
    unfolding core_runs.least_by
    narrow_free = refl

    bare_free : bare_run.least 0 ≡ 0
    unfolding cost_by
    bare_free = refl

    -- with operators on low bytes
    led_narrow : IsLed (event_as (held_as p copies)) (above o) (steps_by (sources.setting_of p o)) (nodes_of p) narrow_run
    led_narrow =
        led_on (event_as (held_as p copies)) (λ event. event) (above o) byte_run narrow_run (steps_by (sources.setting_of p o)) (nodes_of p) led_byte
        (λ n d.
        let k = (led_byte.followed n d).at n in
        slow_from_start (λ event. event) byte_run narrow_run k byte_free (linked.narrowed o k (led_byte.followed n d).goes))

    -- symbolic code, by that of selection, leaner, and with its selects
    opens : (k : ℕ) → Goes narrow_run k
        → (link : runs.Follows (event_as (shown l)) narrow_run plain_run k) × IsSlow (event_as (shown l)) narrow_run plain_run k link × StaysOpen linked.hidden plain o e begins m (link.at k)
    opens k d =
        selection_opens r copies bodies reaches plain linked.price linked.sure linked.selected linked.hidden linked.lent linked.clear o (bytes_in o is) e begins m entries begun k d (λ i below. linked.leads o i)

    leaner : (k : ℕ) → Goes narrow_run k → (link : runs.Follows (event_as (shown l)) narrow_run bare_run k) × IsSlow (event_as (shown l)) narrow_run bare_run k link
    leaner k d = through (event_as (shown l)) (λ event. event) narrow_run plain_run bare_run k (StaysOpen linked.hidden plain o e begins m) (opens k d) (λ j goes open_there. linked.leaner o e begins m j goes open_there)

    led_bare : IsLed show (above o) (steps_by (sources.setting_of p o)) (nodes_of p) bare_run
    led_bare =
        led_on (event_as (held_as p copies)) (event_as (shown l)) (above o) narrow_run bare_run (steps_by (sources.setting_of p o)) (nodes_of p) led_narrow
        (λ n d.
        let k = (led_narrow.followed n d).at n in
        slow_from_start (event_as (shown l)) narrow_run bare_run k narrow_free (leaner k (led_narrow.followed n d).goes))

    led : IsLed show (above o) (steps_by (sources.setting_of p o)) (nodes_of p) full_run
    led =
        led_on show (λ event. event) (above o) bare_run full_run (steps_by (sources.setting_of p o)) (nodes_of p) led_bare
        (λ n d.
        let k = (led_bare.followed n d).at n in
        slow_from_start (λ event. event) bare_run full_run k bare_free
        (flows_keep lean made handler placed at linked.facts bare full linked.selects o e begins m entries fits k (led_bare.followed n d).goes))

  -- while no step of the source is undefined, none of the early run is stuck
  pub goes_on : (n : ℕ) → IsClean source content c n → IsRunning full c (finds.handler_finds full c started.at n) begins m n
  goes_on = running show above source content full c q.first started begins arrived is_seen led

  pub headline : Follows source content c
  headline = record {
    prefix = prefix show above source content full c q.first started begins arrived is_seen led;
    pace = λ n t k clean le quiet rich. pace show above source content full c q.first started begins arrived is_seen led n clean t k le quiet rich;
    end_state = λ n i k line clean met there free within.
        end_state show above source content full c q (length copies) reaches linked.selected.layout linked.selected.laid_out started is_told linked.assembled.outside begins fits arrived is_seen led n i k line clean met there free within;
    no_underflow = no_underflow show above source content full c q.first started begins arrived is_seen led;
    no_overflow = no_overflow show above source content full c q.first started begins arrived is_seen led;
    frames = frames show above source content full c q (length copies) reaches linked.selected.layout linked.selected.laid_out started is_told linked.assembled.outside begins fits arrived is_seen led;
    start_up = start_up show above source content full c q.first started begins arrived is_seen led;
    no_early_access = started.no_early_access;
  }

pub makes_headline : MakesHeadline
makes_headline p copies bodies statics reaches given lean made handler placed at limit image content linked start inputs arrivals is_start small =
    headline p copies bodies statics reaches given lean made handler placed at limit image content linked start inputs arrivals is_start small
