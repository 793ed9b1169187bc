-- The machine with two threads, and its steps by what the thread that runs does.
use Rattle.std.proofs.Common.{◌≡◌, ℕ, ◌+◌, Bool, true, false, if◌then◌else◌, Option, Some, None, refl, sym, ap, ◌∙◌, subst}
use Rattle.pic_world.specs.World.{World, ReadOf, WriteOf, Ended, arrived, is_due, left, noted, device_value, after_device_read, after_device_write, sets_gie, world_as}
use Rattle.pic_world.proofs.WorldLaws.{arrived_as, due_as, left_as, noted_as, value_as, gie_as, read_as, write_as}
use Rattle.pic_world.specs.Control.{is_stored, with_stored}
use Rattle.pic_world.specs.declared.Cell.{Cell}
use Rattle.core_code.specs.Bytes.{Held, Number}
use Rattle.sym_code.specs.Cost.{Prices, thread_cost, step_cost, step_cost_at}
use Rattle.sym_code.specs.Effect.{Thread, Memory, Write, written, with_byte, Loud, Port, Shared, Quiet, Reads, Writes, Leaves, Ends, Rests, effect}
use Rattle.sym_code.specs.Layout.{shown}
use Rattle.sym_code.specs.Machine.{Machine, Goes, Still, running, moved, checked, is_forbidden, lands_at, acted, act, enter, settled, sym_step, sym_step_at, value_by, read_by, write_by, wrote_by}
use Rattle.select_trace.proofs.Truths.{if_true, if_false}
use Rattle.select_trace.proofs.Sites.{Site, layout, show}

-- the machine with this thread running, this memory, and the world that byte code has
abbrev pub at : Site → Machine → Thread → Memory → World Held → Machine
at s t th m wc = record t { main = if wc.inside then t.main else th; isr = if wc.inside then th else t.isr; memory = m; world = show s wc }

-- main's thread, where the handler runs
abbrev pub lower : Machine → Option Thread
lower t = if t.world.inside then Some t.main else None

-- nothing is due, and what has arrived is in
pub record Calm (s : Site) (wc : World Held) : Type 0 where
  pub is_settled : arrived s.o wc ≡ wc
  pub quiet : is_due wc ≡ false

if_first : {A : Type 0} (i : Bool) (a b c : A) → (if i then (if i then a else b) else c) ≡ (if i then a else c)
if_first true a b c = refl
if_first false a b c = refl

if_last : {A : Type 0} (i : Bool) (a b c : A) → (if i then a else (if i then b else c)) ≡ (if i then a else c)
if_last true a b c = refl
if_last false a b c = refl

if_running : {A : Type 0} (i : Bool) (a b c : A) → (if i then (if i then a else b) else (if i then c else a)) ≡ a
if_running true a b c = refl
if_running false a b c = refl

if_same : {A : Type 0} (i : Bool) (a b : A) → ((if i then a else (if i then b else a)) ≡ a) × ((if i then (if i then b else a) else b) ≡ b)
if_same true a b = (refl, refl)
if_same false a b = (refl, refl)

if_lower : {A : Type 0} (i : Bool) (a b : A) → (if i then Some (if i then a else b) else None) ≡ (if i then Some a else None)
if_lower true a b = refl
if_lower false a b = refl

pub inside_as : (s : Site) (w : World Held) → (show s w).inside ≡ w.inside
unfolding world_as
inside_as s w = refl

pub running_at : (s : Site) (t : Machine) (th : Thread) (m : Memory) (wc : World Held) → running (at s t th m wc) ≡ th
unfolding world_as
running_at s t th m wc = if_running wc.inside th t.isr t.main

pub lower_at : (s : Site) (t : Machine) (th : Thread) (m : Memory) (wc : World Held) → wc.inside ≡ t.world.inside → lower (at s t th m wc) ≡ lower t
unfolding world_as
lower_at s t th m wc e = if_lower wc.inside t.main th ∙ ap (λ b. if b then Some t.main else None) e

-- only the thread that runs, memory and the world count
pub at_at : (s : Site) (t : Machine) (th th' : Thread) (m m' : Memory) (wc wd : World Held) → wd.inside ≡ wc.inside → at s (at s t th m wc) th' m' wd ≡ at s t th' m' wd
at_at s t th th' m m' wc wd e =
    subst (λ i. record (at s t th m wc) { main = if i then (if wc.inside then t.main else th) else th'; isr = if i then th' else (if wc.inside then th else t.isr); memory = m'; world = show s wd } ≡ record t { main = if i then t.main else th'; isr = if i then th' else t.isr; memory = m'; world = show s wd })
    (sym e)
    (λ k. record t { main = if_first wc.inside t.main th th' k; isr = if_last wc.inside th' th t.isr k; memory = m'; world = show s wd })

-- a machine is one with its own thread
pub at_running : (s : Site) (t : Machine) (wc : World Held) → wc.inside ≡ t.world.inside → at s t (running t) t.memory wc ≡ record t { world = show s wc }
at_running s t wc e =
    subst (λ i. record t { main = if i then t.main else running t; isr = if i then running t else t.isr; world = show s wc } ≡ record t { world = show s wc }) (sym e)
    (λ k. record t { main = (if_same t.world.inside t.main t.isr).0 k; isr = (if_same t.world.inside t.main t.isr).1 k; world = show s wc })

-- what an effect makes is the machine with the thread that it leaves
moved_at : (s : Site) (t : Machine) (th : Thread) (m : Memory) (wc wd : World Held) (th' : Thread) (x : Option Write) → wd.inside ≡ wc.inside
    → moved (at s t th m wc) (Some (record { thread = th'; write = x; world = show s wd })) ≡ Goes (at s t th' (written x m) wd)
unfolding world_as
moved_at s t th m wc wd th' x e =
    ap Goes (subst (λ i. record t { main = if wc.inside then (if wc.inside then t.main else th) else th'; isr = if wc.inside then th' else (if wc.inside then th else t.isr); memory = written x m; world = show s wd }
    ≡ record t { main = if i then t.main else th'; isr = if i then th' else t.isr; memory = written x m; world = show s wd }) (sym e)
    (λ k. record t { main = if_first wc.inside t.main th th' k; isr = if_last wc.inside th' th t.isr k; memory = written x m; world = show s wd }))

module _ (s : Site) (t : Machine) (wc : World Held) (calm : Calm s wc) (th : Thread) (m : Memory) where
  settles : settled s.o (at s t th m wc) ≡ at s t th m wc
  settles = ap (λ w. record (at s t th m wc) { world = w }) (arrived_as (shown (layout s)) s.o wc ∙ ap (show s) calm.is_settled)

  calm_due : is_due (show s wc) ≡ false
  calm_due = due_as (shown (layout s)) wc ∙ calm.quiet

  -- where no handler is due, a step is what the thread's effect makes
  pub step_at : sym_step s.g s.e s.o (at s t th m wc) ≡ acted s.g s.o (at s t th m wc) (effect s.g wc.inside th m)
  unfolding sym_step
  step_at =
      ap (sym_step_at s.g s.e s.o) settles
      ∙ if_false (is_due (show s wc)) (enter s.g s.e s.g.program.handler (at s t th m wc)) (act s.g s.o (at s t th m wc)) calm_due
      ∙ ap (λ i. acted s.g s.o (at s t th m wc) (effect s.g i (running (at s t th m wc)) m)) (inside_as s wc)
      ∙ ap (λ (x : Thread). acted s.g s.o (at s t th m wc) (effect s.g wc.inside x m)) (running_at s t th m wc)

  pub cost_at : (c : Prices) → step_cost s.g c s.o (at s t th m wc) ≡ thread_cost s.g c wc.inside th m th.rest
  unfolding step_cost
  cost_at c =
      ap (step_cost_at s.g c) settles
      ∙ if_false (is_due (show s wc)) c.enter (thread_cost s.g c (show s wc).inside (running (at s t th m wc)) m (running (at s t th m wc)).rest) calm_due
      ∙ ap (λ i. thread_cost s.g c i (running (at s t th m wc)) m (running (at s t th m wc)).rest) (inside_as s wc)
      ∙ ap (λ (x : Thread). thread_cost s.g c wc.inside x m x.rest) (running_at s t th m wc)

  -- ---- by effects
  pub quiet_goes : (th' : Thread) (x : Option Write) → effect s.g wc.inside th m ≡ Quiet th' x → lands_at s.g.program th'.at ≡ true → sym_step s.g s.e s.o (at s t th m wc) ≡ Goes (at s t th' (written x m) wc)
  unfolding acted
  quiet_goes th' x q l =
      step_at ∙ ap (acted s.g s.o (at s t th m wc)) q
      ∙ ap (moved (at s t th m wc)) (if_true (lands_at s.g.program th'.at) (Some (record { thread = th'; write = x; world = show s wc })) None l)
      ∙ moved_at s t th m wc wc th' x refl

  reads_goes : (b : Loud) (next : ℕ → Thread) (v : ℕ) (wd : World Held) → effect s.g wc.inside th m ≡ Reads b next → value_by s.o m (show s wc) b ≡ v → read_by s.o m (show s wc) b ≡ show s wd → wd.inside ≡ wc.inside
      → lands_at s.g.program (next v).at ≡ true → sym_step s.g s.e s.o (at s t th m wc) ≡ Goes (at s t (next v) m wd)
  unfolding acted
  reads_goes b next v wd q a r i l =
      step_at ∙ ap (acted s.g s.o (at s t th m wc)) q
      ∙ ap (λ w. moved (at s t th m wc) (checked s.g.program (Some (record { thread = next (value_by s.o m (show s wc) b); write = None; world = w })))) r
      ∙ ap (λ x. moved (at s t th m wc) (checked s.g.program (Some (record { thread = next x; write = None; world = show s wd })))) a
      ∙ ap (moved (at s t th m wc)) (if_true (lands_at s.g.program (next v).at) (Some (record { thread = next v; write = None; world = show s wd })) None l)
      ∙ moved_at s t th m wc wd (next v) None i

  writes_goes : (b : Loud) (v : ℕ) (th' : Thread) (wd : World Held) → effect s.g wc.inside th m ≡ Writes b v th' → is_forbidden (show s wc) b v ≡ false → wrote_by (show s wc) b v ≡ show s wd → wd.inside ≡ wc.inside
      → lands_at s.g.program th'.at ≡ true → sym_step s.g s.e s.o (at s t th m wc) ≡ Goes (at s t th' (written (write_by b v) m) wd)
  unfolding acted
  writes_goes b v th' wd q f r i l =
      step_at ∙ ap (acted s.g s.o (at s t th m wc)) q
      ∙ ap (λ x. moved (at s t th m wc) (checked s.g.program x)) (if_false (is_forbidden (show s wc) b v) None (Some (record { thread = th'; write = write_by b v; world = wrote_by (show s wc) b v })) f)
      ∙ ap (λ w. moved (at s t th m wc) (checked s.g.program (Some (record { thread = th'; write = write_by b v; world = w })))) r
      ∙ ap (moved (at s t th m wc)) (if_true (lands_at s.g.program th'.at) (Some (record { thread = th'; write = write_by b v; world = show s wd })) None l)
      ∙ moved_at s t th m wc wd th' (write_by b v) i

  kept_inside : (b : Bool) (a v : ℕ) → (if b then record wc { control = with_stored a v wc.control } else wc).inside ≡ wc.inside
  kept_inside true a v = refl
  kept_inside false a v = refl

  used_inside : (b : Bool) → (if b then wc else record wc { taken = wc.taken + 1 }).inside ≡ wc.inside
  used_inside true = refl
  used_inside false = refl

  pub read_inside : (a : ℕ) → (after_device_read Number s.o a wc).inside ≡ wc.inside
  unfolding after_device_read
  read_inside a = used_inside (is_stored a)

  pub write_inside : (a v : ℕ) → (after_device_write Number a v wc).inside ≡ wc.inside
  unfolding after_device_write
  write_inside a v = kept_inside (is_stored a) a v

  port_value : (a : ℕ) → value_by s.o m (show s wc) (Port a) ≡ device_value s.o a wc
  port_value a = value_as (shown (layout s)) s.o a wc

  port_read : (a : ℕ) → read_by s.o m (show s wc) (Port a) ≡ show s (after_device_read Number s.o a wc)
  unfolding shown
  port_read a = read_as (shown (layout s)) Number s.o a wc

  port_wrote : (a v : ℕ) → wrote_by (show s wc) (Port a) v ≡ show s (after_device_write Number a v wc)
  unfolding shown
  port_wrote a v = write_as (shown (layout s)) Number a v wc

  pub read_port : (a : ℕ) (next : ℕ → Thread) → effect s.g wc.inside th m ≡ Reads (Port a) next → lands_at s.g.program (next (device_value s.o a wc)).at ≡ true
      → sym_step s.g s.e s.o (at s t th m wc) ≡ Goes (at s t (next (device_value s.o a wc)) m (after_device_read Number s.o a wc))
  read_port a next q l = reads_goes (Port a) next (device_value s.o a wc) (after_device_read Number s.o a wc) q (port_value a) (port_read a) (read_inside a) l

  pub read_shared : (k : ℕ) (cell : Cell) (held : Held) (next : ℕ → Thread) → effect s.g wc.inside th m ≡ Reads (Shared k cell) next → m k ≡ shown (layout s) held → lands_at s.g.program (next (m k)).at ≡ true
      → sym_step s.g s.e s.o (at s t th m wc) ≡ Goes (at s t (next (m k)) m (noted (ReadOf cell held) wc))
  read_shared k cell held next q a l =
      reads_goes (Shared k cell) next (m k) (noted (ReadOf cell held) wc) q refl (ap (λ v. noted (ReadOf cell v) (show s wc)) a ∙ noted_as (shown (layout s)) (ReadOf cell held) wc) refl l

  pub write_port : (a v : ℕ) (th' : Thread) → effect s.g wc.inside th m ≡ Writes (Port a) v th' → sets_gie a v wc ≡ false → lands_at s.g.program th'.at ≡ true
      → sym_step s.g s.e s.o (at s t th m wc) ≡ Goes (at s t th' m (after_device_write Number a v wc))
  write_port a v th' q f l = writes_goes (Port a) v th' (after_device_write Number a v wc) q (gie_as (shown (layout s)) a v wc ∙ f) (port_wrote a v) (write_inside a v) l

  pub write_shared : (k : ℕ) (cell : Cell) (v : ℕ) (held : Held) (th' : Thread) → effect s.g wc.inside th m ≡ Writes (Shared k cell) v th' → v ≡ shown (layout s) held → lands_at s.g.program th'.at ≡ true
      → sym_step s.g s.e s.o (at s t th m wc) ≡ Goes (at s t th' (with_byte m k v) (noted (WriteOf cell held) wc))
  write_shared k cell v held th' q a l =
      writes_goes (Shared k cell) v th' (noted (WriteOf cell held) wc) q refl (ap (λ x. noted (WriteOf cell x) (show s wc)) a ∙ noted_as (shown (layout s)) (WriteOf cell held) wc) refl l

  pub ends_goes : (th' : Thread) → effect s.g wc.inside th m ≡ Ends th' → wc.inside ≡ false → sym_step s.g s.e s.o (at s t th m wc) ≡ Goes (at s t th' m (noted Ended wc))
  unfolding acted
  ends_goes th' q i =
      step_at ∙ ap (acted s.g s.o (at s t th m wc)) q
      ∙ ap (λ w. Goes (record (at s t th m wc) { main = th'; world = w })) (noted_as (shown (layout s)) Ended wc)
      ∙ ap Goes (outer wc.inside i)
    where
      outer : (b : Bool) → b ≡ false
          → record t { main = th'; isr = if b then th else t.isr; memory = m; world = show s (noted Ended wc) } ≡ record t { main = if b then t.main else th'; isr = if b then th' else t.isr; memory = m; world = show s (noted Ended wc) }
      outer b e = subst (λ b. record t { main = th'; isr = if b then th else t.isr; memory = m; world = show s (noted Ended wc) } ≡ record t { main = if b then t.main else th'; isr = if b then th' else t.isr; memory = m; world = show s (noted Ended wc) }) (sym e) refl

  pub leaves_goes : effect s.g wc.inside th m ≡ Leaves → sym_step s.g s.e s.o (at s t th m wc) ≡ Goes (record (at s t th m wc) { world = show s (left wc) })
  unfolding acted
  leaves_goes q = step_at ∙ ap (acted s.g s.o (at s t th m wc)) q ∙ ap (λ w. Goes (record (at s t th m wc) { world = w })) (left_as (shown (layout s)) wc)

  pub rests_still : effect s.g wc.inside th m ≡ Rests → sym_step s.g s.e s.o (at s t th m wc) ≡ Still
  unfolding acted
  rests_still q = step_at ∙ ap (acted s.g s.o (at s t th m wc)) q
