-- Runs over both layouts, moment by moment.
use Rattle.std.proofs.Common.{◌≡◌, ℕ, zero, suc, Bool, true, false, if◌then◌else◌, List, [], ◌∷◌, length, Option, Some, None, slice_get, refl, sym, ap, ◌∙◌, subst}
use Rattle.std.specs.List.{list_all}
use Rattle.pic_world.specs.World.{Outside, Schedule, World, is_due}
use Rattle.kept_trace.specs.Kept.{is_kept_cell, kept_length, with_schedule}
use Rattle.select_wide.specs.Direct.{clears, clears_next, next_of, is_open}
use Rattle.sym_code.specs.Cost.{Prices, instruction_cost, thread_cost, step_cost_at, step_cost}
use Rattle.sym_code.specs.Effect.{Setting, Thread, Memory, Rest, Loud, Port, Shared, Effect, Stuck, Quiet, Reads, Writes, Leaves, Ends, Rests, effect_if, effect_at, effect_rest, effect}
use Rattle.sym_code.specs.Layout.{IsLaidOut}
use Rattle.sym_code.specs.Machine as next
use Rattle.sym_code.specs.Machine.{Machine, Entry, Next, Stops, Still, Made, made_write, made, is_forbidden, value_by, write_by, wrote_by, checked, lands_at, running, moved, acted, act, at_front, with_entry, enter, settled, sym_step_at, sym_step, gone, sym_run, sym_start}
use Rattle.sym_code.specs.Programs.{Program, Position, fetched, front, lands, stand}
use Rattle.sym_code.specs.Registers.{Registers}
use Rattle.sym_code.specs.declared.code.BlockName.{BlockName}
use Rattle.sym_code.specs.declared.code.BlockName.TheVariants.{Copy}
use Rattle.sym_code.specs.declared.code.Sym.{Sym}
use Rattle.kept_layout.specs.KeptLayout.{kept_setting, is_private_byte, seen}
use Rattle.kept_layout.specs.OpenCode.{sym_opens, IsOpenCode}
use Rattle.kept_layout.proofs.Owners.{left_of, right_of}
use Rattle.kept_layout.proofs.Accesses.{is_kept_loud}
use Rattle.kept_layout.proofs.Effects.{reads_seen, writes_seen, seen_effect, one_seen}
use Rattle.kept_layout.proofs.Threads.{rest_kept, is_home, at_home, Fits, Fine, one_fine}
use Rattle.kept_layout.proofs.Steps.{seen_next, acted_seen, enter_seen, settled_seen}

passes : {A : Type 0} → (A → Bool) → Option A → Bool
passes f None = true
passes f (Some x) = f x

pub all_at : {A : Type 0} (f : A → Bool) (xs : List A) (n : ℕ) (x : A) → slice_get xs n ≡ Some x → list_all f xs ≡ true → f x ≡ true
unfolding passes
all_at f [] n x e h = sym (ap (passes f) e)
all_at f (y ∷ xs) zero x e h = sym (ap (passes f) e) ∙ left_of (f y) (list_all f xs) h
all_at f (y ∷ xs) (suc n) x e h = all_at f xs n x e (right_of (f y) (list_all f xs) h)

module _ (kept : List Bool) (reaches : ℕ → ℕ → Bool) (g : Setting) (laid : IsLaidOut reaches g.program.layout) (handlers : BlockName → Bool)
    (code : IsOpenCode handlers (is_private_byte kept g.program.layout) g.program) where
  abbrev q : Program
  q = g.program

  abbrev h : Setting
  h = kept_setting kept g

  abbrev hidden : ℕ → Bool
  hidden = is_private_byte kept q.layout

  found : (p : Position) (s : Sym) → fetched q p ≡ Some s → sym_opens handlers hidden q.layout p.block s ≡ true
  found p s e = all_at (sym_opens handlers hidden q.layout p.block) (q.block p.block) p.index s e (code.blocks p.block)

  -- ---- the next effect of a thread
  module _ (inside : Bool) (th : Thread) (m : Memory) (fits : Fits kept handlers inside th) where
    if_seen : (p : Position) → is_home kept handlers inside p ≡ true → (s : Option Sym) → fetched q p ≡ s → clears hidden th.registers s ≡ true → effect_if h inside p th m s ≡ seen_effect kept m (effect_if g inside p th m s)
    if_seen p home None e c = refl
    if_seen p home (Some s) e c = one_seen kept reaches g laid handlers inside p th m home s (found p s e) c

    if_fine : (p : Position) → is_home kept handlers inside p ≡ true → (s : Option Sym) → fetched q p ≡ s → clears hidden th.registers s ≡ true → Fine kept handlers inside (effect_if g inside p th m s)
    if_fine p home None e c = tt
    if_fine p home (Some s) e c = one_fine kept reaches g laid handlers inside p th m fits home s (found p s e) c

  at_seen : (inside : Bool) (th : Thread) (m : Memory) → Fits kept handlers inside th → (at : Option Position) → at_home kept handlers inside at ≡ true → clears hidden th.registers (next_of q at) ≡ true
      → effect_at h inside th m at ≡ seen_effect kept m (effect_at g inside th m at)
  at_seen true th m fits None home c = refl
  at_seen false th m fits None home c = refl
  at_seen true th m fits (Some p) home c = if_seen true th m fits p home (fetched q p) refl c
  at_seen false th m fits (Some p) home c = if_seen false th m fits p home (fetched q p) refl c

  at_fine : (inside : Bool) (th : Thread) (m : Memory) → Fits kept handlers inside th → (at : Option Position) → at_home kept handlers inside at ≡ true → clears hidden th.registers (next_of q at) ≡ true → Fine kept handlers inside (effect_at g inside th m at)
  at_fine true th m fits None home c = tt
  at_fine false th m fits None home c = tt
  at_fine true th m fits (Some p) home c = if_fine true th m fits p home (fetched q p) refl c
  at_fine false th m fits (Some p) home c = if_fine false th m fits p home (fetched q p) refl c

  writes_kept : (b : Loud) (v : ℕ) (th : Thread) → is_kept_loud kept b ≡ true → Writes b v th ≡ writes_seen b v th (is_kept_loud kept b)
  writes_kept b v th e = subst (λ (k : Bool). Writes b v th ≡ writes_seen b v th k) (sym e) (by b)
    where
      by : (b : Loud) → Writes b v th ≡ writes_seen b v th true
      by (Port address) = refl
      by (Shared k cell) = refl

  rest_seen : (inside : Bool) (th : Thread) (m : Memory) → Fits kept handlers inside th → (w : Option Rest) → rest_kept kept w ≡ true → clears_next hidden q th w ≡ true
      → effect_rest h inside th m w ≡ seen_effect kept m (effect_rest g inside th m w)
  rest_seen inside th m fits None k c = at_seen inside th m fits th.at fits.at c
  rest_seen inside th m fits (Some x) k c = writes_kept x.to x.byte (record th { rest = None }) k

  rest_fine : (inside : Bool) (th : Thread) (m : Memory) → Fits kept handlers inside th → (w : Option Rest) → clears_next hidden q th w ≡ true → Fine kept handlers inside (effect_rest g inside th m w)
  rest_fine inside th m fits None c = at_fine inside th m fits th.at fits.at c
  rest_fine inside th m fits (Some x) c = record { rest = refl; at = fits.at; stack = fits.stack }

  effect_seen : (inside : Bool) (th : Thread) (m : Memory) → Fits kept handlers inside th → is_open hidden q th ≡ true → effect h inside th m ≡ seen_effect kept m (effect g inside th m)
  unfolding effect
  effect_seen inside th m fits c = rest_seen inside th m fits th.rest fits.rest c

  effect_fine : (inside : Bool) (th : Thread) (m : Memory) → Fits kept handlers inside th → is_open hidden q th ≡ true → Fine kept handlers inside (effect g inside th m)
  unfolding effect
  effect_fine inside th m fits c = rest_fine inside th m fits th.rest c

  -- ---- both threads
  pub record Holds (t : Machine) : Type 0 where
    pub main : Fits kept handlers false t.main
    pub isr : Fits kept handlers true t.isr

  abbrev pub HoldsNext : Next → Type 0
  HoldsNext (next.Goes t) = Holds t
  HoldsNext Stops = Unit {0}
  HoldsNext Still = Unit {0}

  running_fits : (t : Machine) → Holds t → Fits kept handlers t.world.inside (running t)
  running_fits t holds = by t.world.inside
    where
      by : (i : Bool) → Fits kept handlers i (if i then t.isr else t.main)
      by true = holds.isr
      by false = holds.main

  abbrev FitsMade : Bool → Option Made → Type 0
  FitsMade inside None = Unit {0}
  FitsMade inside (Some x) = Fits kept handlers inside x.thread

  made_fits : (inside : Bool) (u : Outside) (m : Memory) (w : World ℕ) (e : Effect) → Fine kept handlers inside e → FitsMade inside (made u m w e)
  made_fits inside u m w Stuck f = tt
  made_fits inside u m w (Quiet th x) f = f
  made_fits inside u m w (Reads b next) f = f (value_by u m w b)
  made_fits inside u m w (Writes b v th) f = by (is_forbidden w b v)
    where
      by : (c : Bool) → FitsMade inside (if c then None else Some (record { thread = th; write = write_by b v; world = wrote_by w b v }))
      by true = tt
      by false = f
  made_fits inside u m w Leaves f = tt
  made_fits inside u m w (Ends th) f = tt
  made_fits inside u m w Rests f = tt

  moved_holds : (t : Machine) → Holds t → (x : Option Made) → FitsMade t.world.inside x → HoldsNext (moved t (checked q x))
  moved_holds t holds None f = tt
  moved_holds t holds (Some x) f = by (lands_at q x.thread.at)
    where
      main_fits : (i : Bool) → Fits kept handlers i x.thread → Fits kept handlers false (if i then t.main else x.thread)
      main_fits true f = holds.main
      main_fits false f = f

      isr_fits : (i : Bool) → Fits kept handlers i x.thread → Fits kept handlers true (if i then x.thread else t.isr)
      isr_fits true f = f
      isr_fits false f = holds.isr

      by : (b : Bool) → HoldsNext (moved t (if b then Some x else None))
      by true = record { main = main_fits t.world.inside f; isr = isr_fits t.world.inside f }
      by false = tt

  all_home : (stack : List Position) → list_all (is_home kept handlers false) stack ≡ true
  all_home [] = refl
  all_home (p ∷ stack) = all_home stack

  main_at : (at : Option Position) → at_home kept handlers false at ≡ true
  main_at None = refl
  main_at (Some p) = refl

  fits_main : (inside : Bool) (th : Thread) → Fits kept handlers inside th → Fits kept handlers false th
  fits_main inside th f = record { rest = f.rest; at = main_at th.at; stack = all_home th.stack }

  acted_holds : (u : Outside) (t : Machine) → Holds t → (e : Effect) → Fine kept handlers t.world.inside e → HoldsNext (acted g u t e)
  unfolding acted
  acted_holds u t holds Stuck f = tt
  acted_holds u t holds (Quiet th x) f = moved_holds t holds (made u t.memory t.world (Quiet th x)) (made_fits t.world.inside u t.memory t.world (Quiet th x) f)
  acted_holds u t holds (Reads b next) f = moved_holds t holds (made u t.memory t.world (Reads b next)) (made_fits t.world.inside u t.memory t.world (Reads b next) f)
  acted_holds u t holds (Writes b v th) f = moved_holds t holds (made u t.memory t.world (Writes b v th)) (made_fits t.world.inside u t.memory t.world (Writes b v th) f)
  acted_holds u t holds Leaves f = record { main = holds.main; isr = holds.isr }
  acted_holds u t holds (Ends th) f = record { main = fits_main t.world.inside th f; isr = holds.isr }
  acted_holds u t holds Rests f = tt

  front_fits : (c : ℕ) (r : Registers) → q.handler ≡ Some c → Fits kept handlers true (at_front q c r)
  unfolding stand
  front_fits c r e = record { rest = refl; at = code.handler c e; stack = refl }

  enter_holds : (e : Entry) (handler : Option ℕ) (t : Machine) → q.handler ≡ handler → Holds t → HoldsNext (enter g e handler t)
  enter_holds e None t is holds = tt
  enter_holds e (Some c) t is holds = by (lands q (front q (Copy c)))
    where
      by : (b : Bool) → HoldsNext (if b then next.Goes (with_entry (at_front q c (e t.entries)) t) else Stops)
      by true = record { main = holds.main; isr = front_fits c (e t.entries) is }
      by false = tt

  -- ---- one step
  module _ (e : Entry) (o : Outside) (schedule : Schedule) where
    abbrev u : Outside
    u = with_schedule o schedule

    abbrev pub Open : Machine → Type 0
    Open s = is_due s.world ≡ false → is_open hidden q (running s) ≡ true

    act_seen : (s : Machine) → Holds s → is_open hidden q (running s) ≡ true → act h o (seen kept s) ≡ seen_next kept (act g u s)
    act_seen s holds is = ap (acted h o (seen kept s)) (effect_seen s.world.inside (running s) s.memory (running_fits s holds) is) ∙ acted_seen kept g o schedule s (effect g s.world.inside (running s) s.memory)

    due_seen : (s : Machine) → is_due (seen kept s).world ≡ is_due s.world
    unfolding is_due
    due_seen s = refl

    step_at_seen : (s : Machine) → Holds s → Open s → sym_step_at h e o (seen kept s) ≡ seen_next kept (sym_step_at g e u s)
    step_at_seen s holds open_there = ap (λ (b : Bool). if b then enter h e q.handler (seen kept s) else act h o (seen kept s)) (due_seen s) ∙ by (is_due s.world) refl
      where
        by : (b : Bool) → is_due s.world ≡ b → (if b then enter h e q.handler (seen kept s) else act h o (seen kept s)) ≡ seen_next kept (if b then enter g e q.handler s else act g u s)
        by true is = enter_seen kept g o schedule e q.handler s
        by false is = act_seen s holds (open_there is)

    step_at_holds : (s : Machine) → Holds s → Open s → HoldsNext (sym_step_at g e u s)
    step_at_holds s holds open_there = by (is_due s.world) refl
      where
        by : (b : Bool) → is_due s.world ≡ b → HoldsNext (if b then enter g e q.handler s else act g u s)
        by true is = enter_holds e q.handler s refl holds
        by false is = acted_holds u s holds (effect g s.world.inside (running s) s.memory) (effect_fine s.world.inside (running s) s.memory (running_fits s holds) (open_there is))

    module _ (t : Machine) (holds : Holds t) (lengths : schedule (length t.world.trace) ≡ o.schedule (kept_length kept t.world)) where
      settled_holds : Holds (settled u t)
      settled_holds = record { main = holds.main; isr = holds.isr }

      pub step_seen : Open (settled u t) → sym_step h e o (seen kept t) ≡ seen_next kept (sym_step g e u t)
      unfolding sym_step
      step_seen open_there = ap (sym_step_at h e o) (settled_seen kept g o schedule t lengths) ∙ step_at_seen (settled u t) settled_holds open_there

      pub step_holds : Open (settled u t) → HoldsNext (sym_step g e u t)
      unfolding sym_step
      step_holds open_there = step_at_holds (settled u t) settled_holds open_there

    -- ---- costs
    module _ (c : Prices) where
      price_seen : (at : Option Position) (m : Memory) (f : Effect) → instruction_cost c at (seen_effect kept m f) ≡ instruction_cost c at f
      price_seen None m f = refl
      price_seen (Some p) m Stuck = refl
      price_seen (Some p) m (Quiet th x) = refl
      price_seen (Some p) m (Reads (Port address) next) = refl
      price_seen (Some p) m (Reads (Shared k cell) next) = by (is_kept_cell kept cell)
        where
          by : (b : Bool) → instruction_cost c (Some p) (reads_seen m (Shared k cell) next b) ≡ c.word p.block p.index
          by true = refl
          by false = refl
      price_seen (Some p) m (Writes (Port address) v th) = refl
      price_seen (Some p) m (Writes (Shared k cell) v th) = by (is_kept_cell kept cell)
        where
          by : (b : Bool) → instruction_cost c (Some p) (writes_seen (Shared k cell) v th b) ≡ c.word p.block p.index
          by true = refl
          by false = refl
      price_seen (Some p) m Leaves = refl
      price_seen (Some p) m (Ends th) = refl
      price_seen (Some p) m Rests = refl

      thread_seen : (inside : Bool) (th : Thread) (m : Memory) → Fits kept handlers inside th → is_open hidden q th ≡ true → (w : Option Rest) → thread_cost h c inside th m w ≡ thread_cost g c inside th m w
      thread_seen inside th m fits is None = ap (instruction_cost c th.at) (effect_seen inside th m fits is) ∙ price_seen th.at m (effect g inside th m)
      thread_seen inside th m fits is (Some x) = refl

      cost_at_seen : (s : Machine) → Holds s → Open s → step_cost_at h c (seen kept s) ≡ step_cost_at g c s
      cost_at_seen s holds open_there = ap (λ (b : Bool). if b then c.enter else thread_cost h c s.world.inside (running s) s.memory (running s).rest) (due_seen s) ∙ by (is_due s.world) refl
        where
          by : (b : Bool) → is_due s.world ≡ b → (if b then c.enter else thread_cost h c s.world.inside (running s) s.memory (running s).rest) ≡ (if b then c.enter else thread_cost g c s.world.inside (running s) s.memory (running s).rest)
          by true is = refl
          by false is = thread_seen s.world.inside (running s) s.memory (running_fits s holds) (open_there is) (running s).rest

      pub cost_seen : (t : Machine) → Holds t → schedule (length t.world.trace) ≡ o.schedule (kept_length kept t.world) → Open (settled u t) → step_cost h c o (seen kept t) ≡ step_cost g c u t
      unfolding step_cost
      cost_seen t holds lengths open_there = ap (step_cost_at h c) (settled_seen kept g o schedule t lengths) ∙ cost_at_seen (settled u t) (settled_holds t holds lengths) open_there
