-- A watched byte is the last one that the trace wrote there, or the first one: it changes by its events alone.
use Rattle.std.proofs.Common.{◌≡◌, ℕ, zero, suc, Bool, true, false, List, [], ◌∷◌, ◌++◌, map, Option, Some, None, refl, sym, ap, ◌∙◌, subst, ⊎_elim, arith}
use Rattle.std.specs.Prelude.{if◌then◌else◌, nat_eq, ◌&&◌, slice_get}
use Rattle.std.proofs.lemmas.Bool.{cases_eq, eq-eqb, ne_eqb}
use Rattle.pic_world.specs.World.{Outside, World, Happening, ReadOf, WriteOf, Ended, arrived, entered, left, is_due, event_of, after_device_read, after_device_write, device_value}
use Rattle.pic_world.specs.declared.Cell.{Cell}
use Rattle.pic_world.specs.declared.Cell.TheVariants as cells
use Rattle.pic_world.specs.declared.Event.{Event}
use Rattle.sym_code.specs.Effect.{Setting, Thread, Memory, Write, written, Effect, Stuck, Quiet, Reads, Writes, Leaves, Ends, Rests, Loud, Port, Shared, effect}
use Rattle.sym_code.specs.Layout.{DataLayout, owner, Watched}
use Rattle.sym_code.specs.Machine.{Machine, Entry, Next, Goes, Stops, Still, Made, sym_step, sym_step_at, sym_run, gone, settled, acted, act, moved, checked, made_write, read_by, wrote_by, write_by, is_forbidden, lands_at, itself, enter, running, with_entry, at_front, sym_start}
use Rattle.sym_code.specs.Programs.{front, lands, position}
use Rattle.sym_code.specs.Registers.{Registers}
use Rattle.sym_code.specs.declared.code.BlockName.TheVariants.{Copy}
use Rattle.sym_code.specs.declared.code.Sym.{Sym}
use Rattle.chip_trace.specs.Arriving.{keeps_out}
use Rattle.chip_trace.proofs.Effects.{writes_silently}
use Rattle.chip_trace.proofs.Sound.{IsGoodBy, IsLoud, IsOwn, IsSoundBy, is_copy, stand_block, sound_by}
use Rattle.headline.specs.Headline.{writes, written_by, last_written}
use Rattle.headline_trace.proofs.Events.{input_same, kept_same}
use Rattle.headline_trace.proofs.Owners.{owner_back, watched_back}

-- ---- the last byte written
last_on : (i k v : ℕ) (es : List Event) (e : Event) → last_written i k v (es ++ e ∷ []) ≡ (if writes i k e then written_by e else last_written i k v es)
last_on i k v [] e = refl
last_on i k v (x ∷ es) e = last_on i k (if writes i k x then written_by x else v) es e

map_on : (es : List (Happening ℕ)) (e : Happening ℕ) → map event_of (es ++ e ∷ []) ≡ map event_of es ++ event_of e ∷ []
map_on [] e = refl
map_on (x ∷ es) e = ap (λ xs. event_of x ∷ xs) (map_on es e)

if_false : {A : Type 0} (b : Bool) (x y : A) → b ≡ false → (if b then x else y) ≡ y
if_false b x y e = ap (λ c. if c then x else y) e

module _ (g : Setting) (first : Memory) where
  abbrev l : DataLayout
  l = g.program.layout

  -- each watched byte is what the trace says of it
  abbrev pub Holds : Memory → List (Happening ℕ) → Type 0
  Holds m trace = (k i offset : ℕ) → owner l k ≡ Watched (cells.Static i offset) → m k ≡ last_written i offset (first k) (map event_of trace)

  holds_first : Holds first []
  holds_first k i offset w = refl

  -- an event that writes no byte of an object
  silent_event : (m : Memory) (trace : List (Happening ℕ)) (e : Happening ℕ) → ((i k : ℕ) → writes i k (event_of e) ≡ false) → Holds m trace → Holds m (trace ++ e ∷ [])
  silent_event m trace e none holds k i offset w =
      holds k i offset w
      ∙ sym (ap (last_written i offset (first k)) (map_on trace e) ∙ last_on i offset (first k) (map event_of trace) (event_of e) ∙ if_false _ _ _ (none i offset))

  -- a byte that is written without an event isn't watched
  own_write : (i : Bool) (x : Option Write) (m : Memory) (trace : List (Happening ℕ)) → IsOwn g i x → Holds m trace → Holds (written x m) trace
  own_write i None m trace own holds k j offset w = holds k j offset w
  own_write i (Some x) m trace own holds k j offset w =
      ⊎_elim
      (λ same. absurd (let f = sym own ∙ ap (λ z. writes_silently i (owner l z)) (sym same) ∙ ap (writes_silently i) w in differ f))
      (λ other. if_false _ _ _ (ne_eqb k x.number other) ∙ holds k j offset w)
      (cases_eq k x.number) where
        differ : true ≡ false → ⊥
        differ f = absurd (cc)

  -- one that is written with its event holds that value
  writes_own : (i k : ℕ) (v : ℕ) → writes i k (event_of (WriteOf (cells.Static i k) v)) ≡ true
  writes_own i k v = ap (λ b. b && nat_eq k k) (eq-eqb i i refl) ∙ eq-eqb k k refl

  loud_write : (number : ℕ) (cell : Cell) (v : ℕ) (m : Memory) (trace : List (Happening ℕ)) → owner l number ≡ Watched cell → Holds m trace
      → Holds (written (write_by (Shared number cell) v) m) (trace ++ WriteOf cell v ∷ [])
  loud_write number cell v m trace own holds k i offset w =
      let e = WriteOf cell v in
      let told = ap (last_written i offset (first k)) (map_on trace e) ∙ last_on i offset (first k) (map event_of trace) (event_of e) in
      ⊎_elim
      (λ same.
      let c : cell ≡ cells.Static i offset = watched_back cell (cells.Static i offset) (sym own ∙ ap (owner l) (sym same) ∙ w) in
      let b : writes i offset (event_of e) ≡ true = ap (λ z. writes i offset (event_of (WriteOf z v))) c ∙ writes_own i offset v in
      ap (λ z. if z then v else m k) (eq-eqb k number same) ∙ sym (told ∙ ap (λ z. if z then v else last_written i offset (first k) (map event_of trace)) b))
      (λ other.
      let b : writes i offset (event_of e) ≡ false = other_cell cell (λ c. other (owner_back l k number cell (w ∙ ap Watched (sym c)) own)) in
      if_false _ _ _ (ne_eqb k number other) ∙ holds k i offset w ∙ sym (told ∙ if_false _ _ _ b))
      (cases_eq k number) where
        other_cell : (c : Cell) → (c ≡ cells.Static i offset → ⊥) → writes i offset (event_of (WriteOf c v)) ≡ false
        other_cell (cells.Device a) d = refl
        other_cell (cells.Static j at) d =
            ⊎_elim
            (λ a. ⊎_elim (λ b. absurd (d (ap (λ z. cells.Static z at) a ∙ ap (cells.Static i) b))) (λ b. ap (λ z. z && nat_eq at offset) (eq-eqb j i a) ∙ ne_eqb at offset b) (cases_eq at offset))
            (λ a. ap (λ z. z && nat_eq at offset) (ne_eqb j i a))
            (cases_eq j i)

  -- ---- a step
  module _ (outside : (copy n : ℕ) (s : Sym) → slice_get (g.program.block (Copy copy)) n ≡ Some s → keeps_out s ≡ true) where
    -- the threads are good ones, and each watched byte is what the trace says of it
    pub record IsTold (t : Machine) : Type 0 where
      pub main : IsGoodBy g false false t.main
      pub isr : IsGoodBy g true false t.isr
      pub bytes : Holds t.memory t.world.trace

    told_in : (t : Machine) (w : World ℕ) → w.trace ≡ t.world.trace → IsTold t → IsTold (record t { world = w })
    told_in t w same x = record { main = x.main; isr = x.isr; bytes = subst (Holds t.memory) (sym same) x.bytes }

    -- what is made of a step of the thread that runs, by whether the handler does
    abbrev made_of : Bool → Machine → Made → Machine
    made_of b t x = record t {
      main = if b then t.main else x.thread;
      isr = if b then x.thread else t.isr;
      memory = written x.write t.memory;
      world = x.world;
    }

    told_made : (b : Bool) (t : Machine) (x : Made) → IsTold t → IsGoodBy g b false x.thread → Holds (written x.write t.memory) x.world.trace → IsTold (made_of b t x)
    told_made true t x told good bytes = record { main = told.main; isr = good; bytes = bytes }
    told_made false t x told good bytes = record { main = good; isr = told.isr; bytes = bytes }

    abbrev IsRight : Bool → Machine → Option Made → Type 0
    IsRight b t None = Unit {0}
    IsRight b t (Some x) = IsGoodBy g b false x.thread × Holds (written x.write t.memory) x.world.trace

    told_moved : (t : Machine) (x : Option Made) → IsTold t → IsRight t.world.inside t x → IsTold (gone t (moved t (checked g.program x)))
    told_moved t None told right = told
    told_moved t (Some x) told right = by (lands_at g.program x.thread.at) where
      by : (b : Bool) → IsTold (gone t (moved t (if b then Some x else None)))
      by true = told_made t.world.inside t x told right.0 right.1
      by false = told

    right_read : (o : Outside) (i : Bool) (t : Machine) (b : Loud) (next : ℕ → Thread) → IsTold t → ((v : ℕ) → IsGoodBy g i false (next v)) → (v : ℕ)
        → IsRight i t (Some (record { thread = next v; write = None; world = read_by o t.memory t.world b }))
    unfolding after_device_read
    right_read o i t (Port address) next told good v =
        (good v, subst (λ z. Holds t.memory (z ++ ReadOf (cells.Device address) (itself (device_value o address t.world)) ∷ [])) (sym (input_same address t.world)) (silent_event t.memory t.world.trace _ (λ j k. refl) told.bytes))
    right_read o i t (Shared number cell) next told good v = (good v, silent_event t.memory t.world.trace _ (λ j k. refl) told.bytes)

    right_write : (i : Bool) (t : Machine) (b : Loud) (v : ℕ) (th : Thread) → IsTold t → IsLoud l b → IsGoodBy g i false th → IsRight i t (made_write t.world b v th)
    unfolding after_device_write
    right_write i t b v th told loud good = by (is_forbidden t.world b v) where
      written_loud : (b' : Loud) → IsLoud l b' → Holds (written (write_by b' v) t.memory) (wrote_by t.world b' v).trace
      written_loud (Port address) own =
          subst (λ z. Holds t.memory (z ++ WriteOf (cells.Device address) (itself v) ∷ [])) (sym (kept_same address v t.world)) (silent_event t.memory t.world.trace _ (λ j k. refl) told.bytes)
      written_loud (Shared number cell) own = loud_write number cell v t.memory t.world.trace own told.bytes

      by : (f : Bool) → IsRight i t (if f then None else Some (record { thread = th; write = write_by b v; world = wrote_by t.world b v }))
      by true = tt
      by false = (good, written_loud b loud)

    told_acted : (o : Outside) (t : Machine) (x : Effect) → IsTold t → IsSoundBy g t.world.inside false (running t) x → IsTold (gone t (acted g o t x))
    unfolding acted left
    told_acted o t Stuck told s = told
    told_acted o t (Quiet th x) told s = told_moved t (Some (record { thread = th; write = x; world = t.world })) told (s.1, own_write t.world.inside x t.memory t.world.trace s.0 told.bytes)
    told_acted o t (Reads b next) told s = told_moved t (Some _) told (right_read o t.world.inside t b next told s.1 _)
    told_acted o t (Writes b v th) told s = told_moved t (made_write t.world b v th) told (right_write t.world.inside t b v th told s.0 s.1)
    told_acted o t Leaves told s = record { main = told.main; isr = told.isr; bytes = told.bytes }
    told_acted o t (Ends th) told s = record { main = ended s.0 s.2; isr = told.isr; bytes = silent_event t.memory t.world.trace Ended (λ j k. refl) told.bytes } where
      ended : t.world.inside ≡ false → th ≡ record (running t) { at = None } → IsGoodBy g false false th
      ended out is = subst (IsGoodBy g false false) (sym (is ∙ ap (λ b. record (if b then t.isr else t.main) { at = None }) out)) (record { deep = told.main.deep; at = refl; stack = told.main.stack; left = told.main.left; low = told.main.low })
    told_acted o t Rests told s = told

    running_good : (t : Machine) → IsTold t → IsGoodBy g t.world.inside false (running t)
    running_good t told = by t.world.inside where
      by : (b : Bool) → IsGoodBy g b false (if b then t.isr else t.main)
      by true = told.isr
      by false = told.main

    good_front : (i : Bool) (copy : ℕ) (r : Registers) → IsGoodBy g i false (at_front g.program copy r)
    good_front i copy r = record { deep = omega arith; at = ap is_copy (stand_block g.program (position (Copy copy) 0)); stack = refl; left = tt; low = λ e. absurd (cc) }

    told_entered : (e : Entry) (h : Option ℕ) (t : Machine) → IsTold t → IsTold (gone t (enter g e h t))
    unfolding entered
    told_entered e None t told = told
    told_entered e (Some h) t told = by (lands g.program (front g.program (Copy h))) where
      by : (b : Bool) → IsTold (gone t (if b then Goes (with_entry (at_front g.program h (e t.entries)) t) else Stops))
      by true = record { main = told.main; isr = good_front true h (e t.entries); bytes = told.bytes }
      by false = told

    told_gone : (o : Outside) (t : Machine) (x : Next) → IsTold t → IsTold (gone (settled o t) x) → IsTold (gone t x)
    told_gone o t (Goes u) told after = after
    told_gone o t Stops told after = told
    told_gone o t Still told after = told

    told_step : (e : Entry) (o : Outside) (t : Machine) → IsTold t → IsTold (gone t (sym_step g e o t))
    unfolding sym_step arrived
    told_step e o t told = told_gone o t (sym_step_at g e o (settled o t)) told (by (is_due (settled o t).world)) where
      u : Machine
      u = settled o t

      told_u : IsTold u
      told_u = told_in t (arrived o t.world) refl told

      by : (b : Bool) → IsTold (gone u (if b then enter g e g.program.handler u else act g o u))
      by true = told_entered e g.program.handler u told_u
      by false = told_acted o u (effect g u.world.inside (running u) u.memory) told_u (sound_by g u.world.inside false (λ e. absurd (cc)) outside (running u) u.memory (running_good u told_u))

    -- ---- a run
    pub told_run : (e : Entry) (o : Outside) (n : ℕ) (t : Machine) → IsTold t → IsTold (sym_run g e o n t)
    unfolding sym_run
    told_run e o zero t told = told
    told_run e o (suc n) t told = told_step e o (sym_run g e o n t) (told_run e o n t told)

    told_start : (r : Registers) → IsTold (sym_start g.program r first)
    told_start r = record { main = good_front false 0 r; isr = record { deep = omega arith; at = refl; stack = refl; left = tt; low = λ e. absurd (cc) }; bytes = holds_first }

    -- each watched byte of a run from the front of main is the first one there, or the last one that the trace wrote
    pub watched_bytes : (e : Entry) (o : Outside) (r : Registers) (n k i offset : ℕ) → owner l k ≡ Watched (cells.Static i offset)
        → (sym_run g e o n (sym_start g.program r first)).memory k ≡ last_written i offset (first k) (map event_of (sym_run g e o n (sym_start g.program r first)).world.trace)
    watched_bytes e o r n k i offset w = (told_run e o n (sym_start g.program r first) (told_start r)).bytes k i offset w
