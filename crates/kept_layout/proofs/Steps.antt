-- One step over both layouts.
use Rattle.std.proofs.Common.{◌≡◌, ℕ, ◌+◌, Bool, true, false, if◌then◌else◌, List, [], ◌∷◌, ◌++◌, length, Option, Some, None, refl, sym, ap, ◌∙◌, append-nil}
use Rattle.std.proofs.lemmas.List.Elements.{filter-append}
use Rattle.pic_world.specs.Control.{is_stored, with_stored, raised_by}
use Rattle.pic_world.specs.World.{Outside, Schedule, World, Happening, ReadOf, WriteOf, Ended, arrived, entered, left, noted, device_value, input_used, value_kept, after_device_read, after_device_write, sets_gie}
use Rattle.pic_world.specs.declared.Cell.TheVariants as cells
use Rattle.kept_trace.specs.Kept.{is_kept_cell, is_kept, kept_events, kept_length, with_schedule}
use Rattle.sym_code.specs.Effect.{Setting, Memory, Port, Shared, Effect, Stuck, Quiet, Reads, Writes, Leaves, Ends, Rests}
use Rattle.sym_code.specs.Machine as next
use Rattle.sym_code.specs.Machine.{Machine, Entry, Next, Stops, Still, itself, value_by, read_by, write_by, wrote_by, is_forbidden, Made, made_write, made, checked, lands_at, running, moved, acted, act, at_front, with_entry, enter, settled, sym_step_at, sym_step}
use Rattle.sym_code.specs.Programs.{front, lands, stand}
use Rattle.sym_code.specs.declared.code.BlockName.TheVariants.{Copy}
use Rattle.kept_layout.specs.KeptLayout.{kept_setting, seen}
use Rattle.kept_layout.proofs.Effects.{reads_seen, writes_seen, seen_effect}

-- ---- worlds
module _ (kept : List Bool) where
  abbrev pub seen_world : World ℕ → World ℕ
  seen_world w = record w { trace = kept_events kept w.trace }

  one_more : (es : List (Happening ℕ)) (e : Happening ℕ) → kept_events kept (es ++ e ∷ []) ≡ kept_events kept es ++ (if is_kept kept e then e ∷ [] else [])
  one_more es e = filter-append (is_kept kept) es (e ∷ [])

  noted_if : (e : Happening ℕ) (w : World ℕ) (b : Bool) → is_kept kept e ≡ b → seen_world (noted e w) ≡ (if b then noted e (seen_world w) else seen_world w)
  noted_if e w true eb = ap (λ (t : List (Happening ℕ)). record w { trace = t }) (one_more w.trace e ∙ ap (λ (b : Bool). kept_events kept w.trace ++ (if b then e ∷ [] else [])) eb)
  noted_if e w false eb = ap (λ (t : List (Happening ℕ)). record w { trace = t }) (one_more w.trace e ∙ ap (λ (b : Bool). kept_events kept w.trace ++ (if b then e ∷ [] else [])) eb ∙ none_behind (kept_events kept w.trace))
    where
      none_behind : (es : List (Happening ℕ)) → es ++ [] ≡ es
      none_behind es = append-nil es

  used_seen : (address : ℕ) (w : World ℕ) → input_used address (seen_world w) ≡ seen_world (input_used address w)
  used_seen address w = by (is_stored address)
    where
      by : (b : Bool) → (if b then seen_world w else record (seen_world w) { taken = w.taken + 1 }) ≡ seen_world (if b then w else record w { taken = w.taken + 1 })
      by true = refl
      by false = refl

  value_seen : (address v : ℕ) (w : World ℕ) → value_kept address v (seen_world w) ≡ seen_world (value_kept address v w)
  value_seen address v w = by (is_stored address)
    where
      by : (b : Bool) → (if b then record (seen_world w) { control = with_stored address v w.control } else seen_world w) ≡ seen_world (if b then record w { control = with_stored address v w.control } else w)
      by true = refl
      by false = refl

  module _ (o : Outside) (schedule : Schedule) (m : Memory) where
    abbrev u : Outside
    u = with_schedule o schedule

    port_read : (address : ℕ) (w : World ℕ) → read_by o m (seen_world w) (Port address) ≡ seen_world (read_by u m w (Port address))
    unfolding after_device_read device_value
    port_read address w = ap (noted (ReadOf (cells.Device address) (device_value o address w))) (used_seen address w) ∙ sym (noted_if (ReadOf (cells.Device address) (device_value o address w)) (input_used address w) true refl)

    port_wrote : (address v : ℕ) (w : World ℕ) → wrote_by (seen_world w) (Port address) v ≡ seen_world (wrote_by w (Port address) v)
    unfolding after_device_write
    port_wrote address v w = ap (noted (WriteOf (cells.Device address) v)) (value_seen address v w) ∙ sym (noted_if (WriteOf (cells.Device address) v) (value_kept address v w) true refl)

    -- ---- what an effect makes
    abbrev pub seen_made : Option Made → Option Made
    seen_made None = None
    seen_made (Some x) = Some (record x { world = seen_world x.world })

    made_seen : (w : World ℕ) (e : Effect) → made o m (seen_world w) (seen_effect kept m e) ≡ seen_made (made u m w e)
    unfolding device_value sets_gie
    made_seen w Stuck = refl
    made_seen w (Quiet th x) = refl
    made_seen w (Reads (Port address) next) = ap (λ (v : World ℕ). Some (record { thread = next (device_value u address w); write = None; world = v })) (port_read address w)
    made_seen w (Reads (Shared k cell) next) = by (is_kept_cell kept cell) refl
      where
        by : (b : Bool) → is_kept_cell kept cell ≡ b → made o m (seen_world w) (if b then Reads (Shared k cell) next else Quiet (next (m k)) None) ≡ Some (record { thread = next (m k); write = None; world = seen_world (noted (ReadOf cell (m k)) w) })
        by true eb = ap (λ (v : World ℕ). Some (record { thread = next (m k); write = None; world = v })) (sym (noted_if (ReadOf cell (m k)) w true eb))
        by false eb = ap (λ (v : World ℕ). Some (record { thread = next (m k); write = None; world = v })) (sym (noted_if (ReadOf cell (m k)) w false eb))
    made_seen w (Writes (Port address) v th) = by (sets_gie address v w)
      where
        by : (b : Bool) → (if b then None else Some (record { thread = th; write = write_by (Port address) v; world = wrote_by (seen_world w) (Port address) v })) ≡ seen_made (if b then None else Some (record { thread = th; write = write_by (Port address) v; world = wrote_by w (Port address) v }))
        by true = refl
        by false = ap (λ (x : World ℕ). Some (record { thread = th; write = write_by (Port address) v; world = x })) (port_wrote address v w)
    made_seen w (Writes (Shared k cell) v th) = by (is_kept_cell kept cell) refl
      where
        by : (b : Bool) → is_kept_cell kept cell ≡ b → made o m (seen_world w) (if b then Writes (Shared k cell) v th else Quiet th (Some (record { number = k; byte = v }))) ≡ Some (record { thread = th; write = Some (record { number = k; byte = v }); world = seen_world (noted (WriteOf cell v) w) })
        by true eb = ap (λ (x : World ℕ). Some (record { thread = th; write = Some (record { number = k; byte = v }); world = x })) (sym (noted_if (WriteOf cell v) w true eb))
        by false eb = ap (λ (x : World ℕ). Some (record { thread = th; write = Some (record { number = k; byte = v }); world = x })) (sym (noted_if (WriteOf cell v) w false eb))
    made_seen w Leaves = refl
    made_seen w (Ends th) = refl
    made_seen w Rests = refl

  -- ---- what a step comes to
  abbrev pub seen_next : Next → Next
  seen_next (next.Goes t) = next.Goes (seen kept t)
  seen_next Stops = Stops
  seen_next Still = Still

  module _ (g : Setting) (o : Outside) (schedule : Schedule) where
    abbrev h : Setting
    h = kept_setting kept g

    checked_seen : (t : Machine) (x : Option Made) → moved (seen kept t) (checked h.program (seen_made o schedule t.memory x)) ≡ seen_next (moved t (checked g.program x))
    checked_seen t None = refl
    checked_seen t (Some x) = by (lands_at g.program x.thread.at)
      where
        by : (b : Bool) → moved (seen kept t) (if b then Some (record x { world = seen_world x.world }) else None) ≡ seen_next (moved t (if b then Some x else None))
        by true = refl
        by false = refl

    moved_seen : (t : Machine) (e : Effect) → moved (seen kept t) (checked h.program (made o t.memory (seen_world t.world) (seen_effect kept t.memory e))) ≡ seen_next (moved t (checked g.program (made (with_schedule o schedule) t.memory t.world e)))
    moved_seen t e = ap (λ (x : Option Made). moved (seen kept t) (checked h.program x)) (made_seen o schedule t.memory t.world e) ∙ checked_seen t (made (with_schedule o schedule) t.memory t.world e)

    pub acted_seen : (t : Machine) (e : Effect) → acted h o (seen kept t) (seen_effect kept t.memory e) ≡ seen_next (acted g (with_schedule o schedule) t e)
    unfolding acted left
    acted_seen t Stuck = moved_seen t Stuck
    acted_seen t (Quiet th x) = moved_seen t (Quiet th x)
    acted_seen t (Reads (Port address) next) = moved_seen t (Reads (Port address) next)
    acted_seen t (Reads (Shared k cell) next) = by (is_kept_cell kept cell) (moved_seen t (Reads (Shared k cell) next))
      where
        by : (b : Bool) → moved (seen kept t) (checked h.program (made o t.memory (seen_world t.world) (reads_seen t.memory (Shared k cell) next b))) ≡ seen_next (moved t (checked g.program (made (with_schedule o schedule) t.memory t.world (Reads (Shared k cell) next))))
            → acted h o (seen kept t) (reads_seen t.memory (Shared k cell) next b) ≡ seen_next (moved t (checked g.program (made (with_schedule o schedule) t.memory t.world (Reads (Shared k cell) next))))
        by true e = e
        by false e = e
    acted_seen t (Writes (Port address) v th) = moved_seen t (Writes (Port address) v th)
    acted_seen t (Writes (Shared k cell) v th) = by (is_kept_cell kept cell) (moved_seen t (Writes (Shared k cell) v th))
      where
        by : (b : Bool) → moved (seen kept t) (checked h.program (made o t.memory (seen_world t.world) (writes_seen (Shared k cell) v th b))) ≡ seen_next (moved t (checked g.program (made (with_schedule o schedule) t.memory t.world (Writes (Shared k cell) v th))))
            → acted h o (seen kept t) (writes_seen (Shared k cell) v th b) ≡ seen_next (moved t (checked g.program (made (with_schedule o schedule) t.memory t.world (Writes (Shared k cell) v th))))
        by true e = e
        by false e = e
    acted_seen t Leaves = refl
    acted_seen t (Ends th) = ap (λ (w : World ℕ). next.Goes (record t { main = th; world = w })) (sym (noted_if Ended t.world true refl))
    acted_seen t Rests = refl

    pub enter_seen : (e : Entry) (handler : Option ℕ) (t : Machine) → enter h e handler (seen kept t) ≡ seen_next (enter g e handler t)
    unfolding entered stand
    enter_seen e None t = refl
    enter_seen e (Some c) t = by (lands g.program (front g.program (Copy c)))
      where
        by : (b : Bool) → (if b then next.Goes (with_entry (at_front h.program c (e t.entries)) (seen kept t)) else Stops) ≡ seen_next (if b then next.Goes (with_entry (at_front g.program c (e t.entries)) t) else Stops)
        by true = refl
        by false = refl

    pub settled_seen : (t : Machine) → schedule (length t.world.trace) ≡ o.schedule (kept_length kept t.world) → settled o (seen kept t) ≡ seen kept (settled (with_schedule o schedule) t)
    unfolding arrived
    settled_seen t e = ap (λ (mask : ℕ). record t { world = record (seen_world t.world) { control = raised_by mask t.world.control } }) (sym e)
