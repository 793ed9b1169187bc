-- One step of both machines.
use Rattle.std.proofs.lemmas.Option.{none-some}
use Rattle.std.proofs.Common.{◌≡◌, ℕ, ◌+◌, ◌≤◌, ◌⊎◌, inl, inr, Bool, true, false, not, ◌&&◌, if◌then◌else◌, List, [], Option, Some, None, refl, sym, ap, ◌∙◌, subst, arith}
use Rattle.pic_world.specs.World.{Outside, World, Ended, is_due, entered, left, noted, after_device_read, after_device_write}
use Rattle.pic_world.specs.Control as control
use Rattle.pic_world.specs.Control.{is_stored, with_stored}
use Rattle.core_code.specs.Cost.{context_cost}
use Rattle.sym_code.specs.Cost.{Prices, least_prices, most_prices, instruction_cost, thread_cost, step_cost_at}
use Rattle.sym_code.specs.Effect.{Setting, Loud, Port, Shared, Rest, Thread, Memory, Write, written, Effect, Stuck, Quiet, Reads, Writes, Leaves, Ends, Rests, effect}
use Rattle.sym_code.specs.Layout.{owner}
use Rattle.sym_code.specs.Machine as next
use Rattle.sym_code.specs.Machine.{Machine, Entry, Next, Stops, Still, value_by, read_by, write_by, wrote_by, is_forbidden, Made, made, checked, lands_at, running, moved, acted, act, at_front, with_entry, enter, sym_step_at}
use Rattle.sym_code.specs.Programs.{Position, front, lands}
use Rattle.sym_code.specs.Registers.{Registers}
use Rattle.sym_code.specs.declared.code.BlockName.{BlockName}
use Rattle.sym_code.specs.declared.code.BlockName.TheVariants.{Copy}
use Rattle.lean_code.specs.Rows.{Apart, Note, nothing_known, Row, old_of, is_label, is_dropped, place_in, note_ahead, Lean, old_program, new_program, old_setting, new_setting}
use Rattle.lean_code.specs.Changes.{is_own}
use Rattle.lean_code.specs.Right.{Expects, Begins, BeginsAt, IsSound}
use Rattle.lean_code.specs.Links.{is_open, counts, staying, IsCheaper}
use Rattle.lean_code.proofs.Lists.{never, dropped_at, stands_at}
use Rattle.lean_code.proofs.Places.{row_at, to_front, under_front}
use Rattle.lean_code.proofs.Facts.{elsewhere}
use Rattle.lean_code.proofs.Accesses.{IsLoud}
use Rattle.lean_code.proofs.Relation as only
use Rattle.lean_code.proofs.Relation.{Frame, apart_of, IsAt, Tied, Ready, apart_own, Goes, IsFar, SameLoud, Match, arrive}
use Rattle.lean_code.proofs.Kept.{far_from}
use Rattle.lean_code.proofs.Steps.{Either, Lost, Matched, Lone, thread_step}

-- ---- the thread that runs, and the other one
abbrev pub runs : Bool → Machine → Thread
runs c u = if c then u.isr else u.main

abbrev pub waits_in : Bool → Machine → Thread
waits_in c u = if c then u.main else u.isr

abbrev pub machine : Bool → Thread → Thread → ℕ → Memory → World ℕ → Machine
machine c th a n m w = record { main = if c then a else th; isr = if c then th else a; entries = n; memory = m; world = w }

pub machine_is : (c : Bool) (u : Machine) → machine c (runs c u) (waits_in c u) u.entries u.memory u.world ≡ u
machine_is true u = refl
machine_is false u = refl

pub runs_is : (c : Bool) (th a : Thread) (n : ℕ) (m : Memory) (w : World ℕ) → runs c (machine c th a n m w) ≡ th
runs_is true th a n m w = refl
runs_is false th a n m w = refl

pub waits_is : (c : Bool) (th a : Thread) (n : ℕ) (m : Memory) (w : World ℕ) → waits_in c (machine c th a n m w) ≡ a
waits_is true th a n m w = refl
waits_is false th a n m w = refl

running_is : (c : Bool) (th a : Thread) (n : ℕ) (m : Memory) (w : World ℕ) → w.inside ≡ c → running (machine c th a n m w) ≡ th
running_is c th a n m w is = ap (λ (i : Bool). if i then (machine c th a n m w).isr else (machine c th a n m w).main) is ∙ runs_is c th a n m w

moved_is : (c : Bool) (th a : Thread) (n : ℕ) (m : Memory) (w : World ℕ) → w.inside ≡ c → (y : Made) → moved (machine c th a n m w) (Some y) ≡ next.Goes (machine c y.thread a n (written y.write m) y.world)
moved_is c th a n m w is y =
    ap (λ (i : Bool). next.Goes (record { main = if i then (machine c th a n m w).main else y.thread; isr = if i then y.thread else (machine c th a n m w).isr; entries = n; memory = written y.write m; world = y.world })) is ∙ by_case c
  where
    by_case : (c : Bool) → next.Goes (record { main = if c then (machine c th a n m w).main else y.thread; isr = if c then y.thread else (machine c th a n m w).isr; entries = n; memory = written y.write m; world = y.world }) ≡ next.Goes (machine c y.thread a n (written y.write m) y.world)
    by_case true = refl
    by_case false = refl

-- ---- the world
read_inside : (o : Outside) (m : Memory) (w : World ℕ) (b : Loud) → (read_by o m w b).inside ≡ w.inside
unfolding after_device_read
read_inside o m w (Port address) = by_case (is_stored address)
  where
    by_case : (c : Bool) → (if c then w else record w { taken = w.taken + 1 }).inside ≡ w.inside
    by_case true = refl
    by_case false = refl
read_inside o m w (Shared j cell) = refl

wrote_inside : (w : World ℕ) (b : Loud) (v : ℕ) → (wrote_by w b v).inside ≡ w.inside
unfolding after_device_write
wrote_inside w (Port address) v = by_case (is_stored address)
  where
    by_case : (c : Bool) → (if c then record w { control = with_stored address v w.control } else w).inside ≡ w.inside
    by_case true = refl
    by_case false = refl
wrote_inside w (Shared j cell) v = refl

left_inside : (w : World ℕ) → (left w).inside ≡ false
unfolding left
left_inside w = refl

entered_inside : (w : World ℕ) → (entered w).inside ≡ true
unfolding entered
entered_inside w = refl

due_outside : (w : World ℕ) → is_due w ≡ true → w.inside ≡ false
unfolding is_due
due_outside w e = by_case w.inside (control.is_due w.control) e
  where
    by_case : (c b : Bool) → (not c && b) ≡ true → c ≡ false
    by_case true b e = never e
    by_case false b e = refl

module _ (x : Lean) where
  value_same : (o : Outside) (m k : Memory) (w : World ℕ) (b : Loud) → SameLoud x m k b → value_by o m w b ≡ value_by o k w b
  value_same o m k w (Port address) e = refl
  value_same o m k w (Shared j cell) e = e

  world_same : (o : Outside) (m k : Memory) (w : World ℕ) (b : Loud) → SameLoud x m k b → read_by o m w b ≡ read_by o k w b
  world_same o m k w (Port address) e = refl
  world_same o m k w (Shared j cell) e = ap (λ (v : ℕ). read_by o (λ z. v) w (Shared j cell)) e

  -- a thread of main's while the handler runs, and what it has apart
  pub record WaitsIn (a b : Thread) (m : Memory) (rest : ℕ → Bool) : Type 0 where
    pub home : BlockName
    pub note : Note
    pub frames : List Frame
    pub tied : Tied x false home note frames a b m
    pub rest_is : (j : ℕ) → rest j ≡ apart_of note frames j

  -- What is known of the thread that doesn't run, and what it may have apart.
  abbrev pub Other : Bool → Thread → Thread → Memory → (ℕ → Bool) → Type 0
  Other false a b m rest = (j : ℕ) → rest j ≡ x.rest j
  Other true a b m rest = WaitsIn a b m rest

  pub record Together (u v : Machine) : Type 0 where
    pub inside : Bool
    pub is : u.world.inside ≡ inside
    pub entries : u.entries ≡ v.entries
    pub world : u.world ≡ v.world
    pub rest : ℕ → Bool
    pub other : Other inside (waits_in inside u) (waits_in inside v) u.memory rest
    pub ready : Ready x inside rest (runs inside u) (runs inside v) u.memory v.memory

  tied_write : (home : BlockName) (n : Note) (ks : List Frame) (a b : Thread) (m : Memory) (w : Option Write) → IsFar x true w → Tied x false home n ks a b m → Tied x false home n ks a b (written w m)
  tied_write home n ks a b m None far t = t
  tied_write home n ks a b m (Some w) far t = record {
    same_root = t.same_root;
    rest = t.rest;
    loud = t.loud;
    at = t.at;
    olds = t.olds;
    news = t.news;
    waits = t.waits;
    alike = t.alike;
    holds = elsewhere n.facts a.registers m t.holds w.number w.byte (λ j e. far_from x false j w.number (t.note.held j e) far) (λ j i e. far_from x false j w.number (t.note.known j i e) far)
        (λ j i e. (far_from x false j w.number (t.note.twin j i e).0 far, far_from x false i w.number (t.note.twin j i e).1 far));
    note = t.note;
    ties = record { carry = λ j h. ap (λ (c : Bool). if c then w.byte else m j) (far_from x false j w.number (t.note.carry j h) far) ∙ t.ties.carry j h; shown = t.ties.shown };
  }

  other_write : (c : Bool) (a b : Thread) (m : Memory) (rest : ℕ → Bool) (w : Option Write) → IsFar x c w → Other c a b m rest → Other c a b (written w m) rest
  other_write false a b m rest w far e = e
  other_write true a b m rest w far e = record { home = e.home; note = e.note; frames = e.frames; tied = tied_write e.home e.note e.frames a b m w far e.tied; rest_is = e.rest_is }

  -- an event is of no byte of which something is said
  loud_far : (c : Bool) (b : Loud) (v : ℕ) → IsLoud x b → IsFar x c (write_by b v)
  loud_far c (Port address) v l = tt
  loud_far c (Shared j cell) v l = (l (not c)).0

  other_far : IsSound x → (c : Bool) (a b : Thread) (m : Memory) (rest : ℕ → Bool) → Other c a b m rest → (j : ℕ) → is_own (not c) (owner x.layout j) ≡ false → rest j ≡ false
  other_far sound false a b m rest e j own = e j ∙ sound.rest j own
  other_far sound true a b m rest e j own = e.rest_is j ∙ apart_own x false e.home e.note e.frames a b m e.tied j own

  -- ---- costs
  abbrev price_of : ℕ → ℕ → Effect → ℕ
  price_of word leave Leaves = word + leave
  price_of word leave e = word

  abbrev base : Prices → Option Rest → Option Position → ℕ
  base c (Some w) at = 0
  base c None None = 0
  base c None (Some p) = c.word p.block p.index

  some_price : (c : Prices) (p : Position) (e : Effect) → instruction_cost c (Some p) e ≡ price_of (c.word p.block p.index) c.leave e
  some_price c p Stuck = refl
  some_price c p (Quiet th w) = refl
  some_price c p (Reads b next) = refl
  some_price c p (Writes b v th) = refl
  some_price c p Leaves = refl
  some_price c p (Ends th) = refl
  some_price c p Rests = refl

  cost_is : (g : Setting) (c : Prices) (inside : Bool) (th : Thread) (m : Memory) → thread_cost g c inside th m th.rest ≡ price_of (base c th.rest th.at) c.leave (effect g inside th m)
  unfolding effect
  cost_is g c inside th m = by_parts inside th.rest th.at th.stack th.registers
    where
      by_parts : (inside : Bool) (w : Option Rest) (at : Option Position) (stack : List Position) (r : Registers)
          → thread_cost g c inside (record { rest = w; at = at; stack = stack; registers = r }) m w ≡ price_of (base c w at) c.leave (effect g inside (record { rest = w; at = at; stack = stack; registers = r }) m)
      by_parts inside (Some w) at stack r = refl
      by_parts true None None stack r = refl
      by_parts false None None stack r = refl
      by_parts true None (Some p) stack r = some_price c p (effect g true (record { rest = None; at = Some p; stack = stack; registers = r }) m)
      by_parts false None (Some p) stack r = some_price c p (effect g false (record { rest = None; at = Some p; stack = stack; registers = r }) m)

  -- ---- what a step comes to
  -- The given code stops; or both rest, or both go on, at such costs.
  pub data Outcome (v : Machine) (f g : Next) (most new_most least new_least : ℕ) : Type 0 where
    Halted : f ≡ Stops → Outcome v f g most new_most least new_least
    Rested : f ≡ Still → g ≡ Still → new_most ≤ most → least ≤ new_least → Outcome v f g most new_most least new_least
    Moved : (u z : Machine) → f ≡ next.Goes u → g ≡ next.Goes z → Together u z → new_most ≤ most → least ≤ new_least → Outcome v f g most new_most least new_least

  -- how many steps of the code that is made belong to the next step of the given code
  abbrev pub pace_at : Option Rest → Option Position → ℕ
  pace_at (Some w) at = 1
  pace_at None None = 1
  pace_at None (Some p) = counts (row_at x p)

  abbrev pub pace_of : Machine → ℕ
  pace_of u = if is_due u.world then 1 else pace_at (running u).rest (running u).at

  -- The given code stops; or both make a step; or only the given code does, which doesn't count.
  pub data Stepped (v : Machine) (f g : Next) (pace most new_most least new_least : ℕ) : Type 0 where
    Halts : f ≡ Stops → Stepped v f g pace most new_most least new_least
    Joint : pace ≡ 1 → Outcome v f g most new_most least new_least → Stepped v f g pace most new_most least new_least
    Alone : pace ≡ 0 → (u : Machine) → f ≡ next.Goes u → Together u v → least ≡ 0 → Stepped v f g pace most new_most least new_least

  module _ (sound : IsSound x) (o : Outside) (c : Bool) (th tv a b : Thread) (n : ℕ) (m k : Memory) (w : World ℕ) (is : w.inside ≡ c) (rest : ℕ → Bool) (other : Other c a b m rest) (r : Ready x c rest th tv m k) where
    abbrev um : Machine
    um = machine c th a n m w

    abbrev vm : Machine
    vm = machine c tv b n k w

    together : (p q : Thread) (y z : Option Write) (v : World ℕ) → v.inside ≡ c → IsFar x c y → Ready x c rest p q (written y m) (written z k) → Together (machine c p a n (written y m) v) (machine c q b n (written z k) v)
    together p q y z v in_c far ready = record {
      inside = c;
      is = in_c;
      entries = refl;
      world = refl;
      rest = rest;
      other =
          subst (λ (i : Thread). Other c i (waits_in c (machine c q b n (written z k) v)) (written y m) rest) (sym (waits_is c p a n (written y m) v))
          (subst (λ (i : Thread). Other c a i (written y m) rest) (sym (waits_is c q b n (written z k) v)) (other_write c a b m rest y far other));
      ready =
          subst (λ (i : Thread). Ready x c rest i (runs c (machine c q b n (written z k) v)) (written y m) (written z k)) (sym (runs_is c p a n (written y m) v))
          (subst (λ (i : Thread). Ready x c rest p i (written y m) (written z k)) (sym (runs_is c q b n (written z k) v)) ready);
    }

    module _ (most new_most least new_least : ℕ) (cheap : new_most ≤ most) (dear : least ≤ new_least) where
      abbrev Comes : Next → Next → Type 0
      Comes f g = Outcome vm f g most new_most least new_least

      -- both threads go on
      went : (p q : Thread) (y z : Option Write) (v : World ℕ) → v.inside ≡ c → IsFar x c y → Goes x c rest p q (written y m) (written z k)
          → Comes (moved um (checked (old_program x) (Some (record { thread = p; write = y; world = v })))) (moved vm (checked (new_program x) (Some (record { thread = q; write = z; world = v }))))
      went p q y z v in_c far go = by_land (lands_at (old_program x) p.at) refl
        where
          by_land : (i : Bool) → lands_at (old_program x) p.at ≡ i
              → Comes (moved um (if i then Some (record { thread = p; write = y; world = v }) else None)) (moved vm (checked (new_program x) (Some (record { thread = q; write = z; world = v }))))
          by_land false e = Halted refl
          by_land true e =
              let g = go e in
              subst (λ (i : Bool). Comes (moved um (Some (record { thread = p; write = y; world = v }))) (moved vm (if i then Some (record { thread = q; write = z; world = v }) else None))) (sym g.1)
              (Moved (machine c p a n (written y m) v) (machine c q b n (written z k) v) (moved_is c th a n m w is (record { thread = p; write = y; world = v })) (moved_is c tv b n k w is (record { thread = q; write = z; world = v }))
              (together p q y z v in_c far g.0) cheap dear)

      went_if : (i : Bool) (p q : Thread) (y : Option Write) (v : World ℕ) → v.inside ≡ c → IsFar x c y → Goes x c rest p q (written y m) (written y k)
          → Comes (moved um (checked (old_program x) (if i then None else Some (record { thread = p; write = y; world = v })))) (moved vm (checked (new_program x) (if i then None else Some (record { thread = q; write = y; world = v }))))
      went_if true p q y v in_c far go = Halted refl
      went_if false p q y v in_c far go = went p q y y v in_c far go

      went_read : (d : Loud) (f g : ℕ → Thread) → SameLoud x m k d → ((v : ℕ) → Goes x c rest (f v) (g v) m k) → Comes (acted (old_setting x) o um (Reads d f)) (acted (new_setting x) o vm (Reads d g))
      unfolding acted
      went_read d f g same go =
          subst (λ (v : ℕ). Comes (moved um (checked (old_program x) (Some (record { thread = f (value_by o m w d); write = None; world = read_by o m w d })))) (moved vm (checked (new_program x) (Some (record { thread = g v; write = None; world = read_by o k w d }))))) (value_same o m k w d same)
          (subst (λ (v : World ℕ). Comes (moved um (checked (old_program x) (Some (record { thread = f (value_by o m w d); write = None; world = read_by o m w d })))) (moved vm (checked (new_program x) (Some (record { thread = g (value_by o m w d); write = None; world = v }))))) (world_same o m k w d same)
          (went (f (value_by o m w d)) (g (value_by o m w d)) None None (read_by o m w d) (read_inside o m w d ∙ is) tt (go (value_by o m w d))))

      went_write : (d : Loud) (v : ℕ) (p q : Thread) → IsLoud x d → Goes x c rest p q (written (write_by d v) m) (written (write_by d v) k) → Comes (acted (old_setting x) o um (Writes d v p)) (acted (new_setting x) o vm (Writes d v q))
      unfolding acted
      went_write d v p q loud go = went_if (is_forbidden w d v) p q (write_by d v) (wrote_by w d v) (wrote_inside w d v ∙ is) (loud_far c d v loud) go

      -- the handler ends
      left_to : (c : Bool) → c ≡ true → (th tv a b : Thread) (rest : ℕ → Bool) → Other c a b m rest → (apart : ℕ → Bool) → ((j : ℕ) → x.rest j ≡ false → apart j ≡ false) → ((j : ℕ) → apart j ≡ false → rest j ≡ false → m j ≡ k j)
          → Together (record (machine c th a n m w) { world = left w }) (record (machine c tv b n k w) { world = left w })
      left_to false e th tv a b rest other apart left_apart same = never e
      left_to true e th tv a b rest other apart left_apart same = record {
        inside = false;
        is = left_inside w;
        entries = refl;
        world = refl;
        rest = x.rest;
        other = λ j. refl;
        ready = record { home = other.home; note = other.note; frames = other.frames; tied = other.tied; same = λ j u v. same j (left_apart j v) (other.rest_is j ∙ u) };
      }

      -- main ends
      ended_to : (c : Bool) → c ≡ false → w.inside ≡ c → (th tv a b p q : Thread) (rest : ℕ → Bool) → Other c a b m rest → Ready x c rest p q m k
          → Together (record (machine c th a n m w) { main = p; world = noted Ended w }) (record (machine c tv b n k w) { main = q; world = noted Ended w })
      ended_to true e in_c th tv a b p q rest other ready = never (sym e)
      ended_to false e in_c th tv a b p q rest other ready = record { inside = false; is = in_c; entries = refl; world = refl; rest = rest; other = other; ready = ready }

    -- ---- what both do
    module _ (apart : ℕ → Bool) (same : (j : ℕ) → apart j ≡ false → rest j ≡ false → m j ≡ k j) (word new_word leave least_word new_least_word : ℕ) (cheap : new_word ≤ word) (dear : least_word ≤ new_least_word) where
      abbrev Acts : Effect → Effect → Type 0
      Acts e f = Outcome vm (acted (old_setting x) o um e) (acted (new_setting x) o vm f) (price_of word leave e) (price_of new_word leave f) (price_of least_word 0 e) (price_of new_least_word 0 f)

      both_acted : (e f : Effect) → Match x c rest apart m k e f → Acts e f
      unfolding acted
      both_acted Stuck f h = Halted refl
      both_acted (Quiet p y) (Quiet q z) h = went word new_word least_word new_least_word cheap dear p q y z w is h.1 h.0
      both_acted (Reads d f) (Reads g h) e =
          subst (λ (i : Loud). Acts (Reads d f) (Reads i h)) e.0 (went_read word new_word least_word new_least_word cheap dear d f h e.1 e.2)
      both_acted (Writes d v p) (Writes g z q) e =
          subst (λ (i : Loud). Acts (Writes d v p) (Writes i z q)) e.0 (subst (λ (i : ℕ). Acts (Writes d v p) (Writes d i q)) e.1 (went_write word new_word least_word new_least_word cheap dear d v p q e.2 e.3))
      both_acted Leaves Leaves e =
          Moved (record um { world = left w }) (record vm { world = left w }) refl refl
          (left_to word new_word least_word new_least_word cheap dear c e.0 th tv a b rest other apart e.1 same) (let z = cheap in omega arith) (let z = dear in omega arith)
      both_acted (Ends p) (Ends q) e =
          Moved (record um { main = p; world = noted Ended w }) (record vm { main = q; world = noted Ended w }) refl refl
          (ended_to word new_word least_word new_least_word cheap dear c e.0 is th tv a b p q rest other e.1) cheap dear
      both_acted Rests Rests e = Rested refl refl cheap dear
      both_acted e f h = absurd h

    -- ---- what the given code does alone
    alone_acted : (e : Effect) → only.Alone x c rest tv m k e → (acted (old_setting x) o um e ≡ Stops) ⊎ ((u : Machine) × (acted (old_setting x) o um e ≡ next.Goes u) × Together u vm)
    unfolding acted
    alone_acted Stuck h = inl refl
    alone_acted (Quiet p y) h = by_land (lands_at (old_program x) p.at) refl
      where
        by_land : (i : Bool) → lands_at (old_program x) p.at ≡ i
            → (moved um (if i then Some (record { thread = p; write = y; world = w }) else None) ≡ Stops) ⊎ ((u : Machine) × (moved um (if i then Some (record { thread = p; write = y; world = w }) else None) ≡ next.Goes u) × Together u vm)
        by_land false e = inl refl
        by_land true e = inr (machine c p a n (written y m) w, moved_is c th a n m w is (record { thread = p; write = y; world = w }), together p tv y None w is h.1 (h.0 e).0)
    alone_acted e h = absurd h

    -- ---- prices
    stands_row : (q : Option Row) → stands_at q ≡ true → (row : Row) × (q ≡ Some row) × (is_dropped row ≡ false)
    stands_row None e = never e
    stands_row (Some row) e = (row, refl, by_label (is_label (old_of row)) (is_dropped row) e)
      where
        by_label : (l d : Bool) → (if l then false else not d) ≡ true → d ≡ false
        by_label true d e = never e
        by_label false true e = never e
        by_label false false e = refl

    stands_count : (q : Option Row) → stands_at q ≡ true → counts q ≡ 1
    stands_count q e =
        let row = stands_row q e in
        ap counts row.1 ∙ ap (λ (d : Bool). if d then 0 else 1) row.2

    dropped_count : (q : Option Row) → dropped_at q ≡ true → counts q ≡ 0
    dropped_count None e = never e
    dropped_count (Some row) e = by_label (is_label (old_of row)) (is_dropped row) e
      where
        by_label : (l d : Bool) → (if l then false else d) ≡ true → ◌≡◌ {A = ℕ} (if d then 0 else 1) 0
        by_label true d e = never e
        by_label false true e = refl
        by_label false false e = never e

    module _ (old new : BlockName → ℕ → ℕ) (cheaper : IsCheaper x old new) where
      -- an instruction that is made costs no more than before, and counts
      word_cheap : (p : Position) → stands_at (row_at x p) ≡ true → (new p.block (place_in (x.rows p.block) p.index) ≤ old p.block p.index) × (counts (row_at x p) ≤ 1)
      word_cheap p e =
          let row = stands_row (row_at x p) e in
          (cheaper p.block p.index row.0 row.1 row.2, by_case (row_at x p))
        where
          small : (i : Bool) → (if i then 0 else 1) ≤ 1
          small true = omega arith
          small false = omega arith

          by_case : (q : Option Row) → counts q ≤ 1
          by_case None = omega arith
          by_case (Some row) = small (is_dropped row)

      abbrev new_base : Prices → Thread → ℕ
      new_base y i = base y i.rest i.at

      -- the two threads are at one another's places
      bases : (home : BlockName) (note : Note) (ks : List Frame) (p q : Thread) → Tied x c home note ks p q m → ((v : Position) → p.rest ≡ None → p.at ≡ Some v → stands_at (row_at x v) ≡ true)
          → (new_base (most_prices new) q ≤ new_base (most_prices old) p) × (new_base (staying x) p ≤ new_base least_prices q)
      bases home note ks p q t pays = by_parts p.rest q.rest p.at q.at t.rest t.at pays
        where
          by_parts : (y z : Option Rest) (i j : Option Position) → y ≡ z → IsAt x home note i j → ((v : Position) → y ≡ None → i ≡ Some v → stands_at (row_at x v) ≡ true)
              → (base (most_prices new) z j ≤ base (most_prices old) y i) × (base (staying x) y i ≤ base least_prices z j)
          by_parts (Some y) (Some z) i j e at pays = (omega arith, omega arith)
          by_parts (Some y) None i j e at pays = absurd (cc)
          by_parts None (Some z) i j e at pays = absurd (cc)
          by_parts None None None j e at pays = subst (λ (v : Option Position). (base (most_prices new) None v ≤ 0) × (0 ≤ base least_prices None v)) (sym at) (omega arith, omega arith)
          by_parts None None (Some v) j e at pays =
              subst (λ (h : Option Position). (base (most_prices new) None h ≤ old v.block v.index) × (counts (row_at x v) ≤ base least_prices None h)) (sym at.1) (word_cheap v (pays v refl refl))

      -- the pace of a thread at an instruction that is made
      pace_one : (p : Thread) → ((v : Position) → p.rest ≡ None → p.at ≡ Some v → stands_at (row_at x v) ≡ true) → pace_at p.rest p.at ≡ 1
      pace_one p pays = by_parts p.rest p.at pays
        where
          by_parts : (y : Option Rest) (i : Option Position) → ((v : Position) → y ≡ None → i ≡ Some v → stands_at (row_at x v) ≡ true) → pace_at y i ≡ 1
          by_parts (Some y) i pays = refl
          by_parts None None pays = refl
          by_parts None (Some v) pays = stands_count (row_at x v) (pays v refl refl)

      -- ---- the next instruction of the thread that runs
      abbrev ActsAt : Bool → Thread → Thread → Type 0
      ActsAt i p q =
          Stepped vm (acted (old_setting x) o um (effect (old_setting x) i p m)) (acted (new_setting x) o vm (effect (new_setting x) i q k)) (pace_at p.rest p.at)
          (thread_cost (old_setting x) (most_prices old) i p m p.rest) (thread_cost (new_setting x) (most_prices new) i q k q.rest)
          (thread_cost (old_setting x) (staying x) i p m p.rest) (thread_cost (new_setting x) least_prices i q k q.rest)

      abbrev old_effect : Effect
      old_effect = effect (old_setting x) c th m

      abbrev new_effect : Effect
      new_effect = effect (new_setting x) c tv k

      abbrev by_prices : ℕ → ℕ → ℕ → ℕ → Type 0
      by_prices = Outcome vm (acted (old_setting x) o um old_effect) (acted (new_setting x) o vm new_effect)

      priced : by_prices (price_of (new_base (most_prices old) th) context_cost old_effect) (price_of (new_base (most_prices new) tv) context_cost new_effect) (price_of (new_base (staying x) th) 0 old_effect) (price_of (new_base least_prices tv) 0 new_effect)
          → by_prices (thread_cost (old_setting x) (most_prices old) c th m th.rest) (thread_cost (new_setting x) (most_prices new) c tv k tv.rest) (thread_cost (old_setting x) (staying x) c th m th.rest) (thread_cost (new_setting x) least_prices c tv k tv.rest)
      priced h =
          subst (λ (z : ℕ). by_prices z (thread_cost (new_setting x) (most_prices new) c tv k tv.rest) (thread_cost (old_setting x) (staying x) c th m th.rest) (thread_cost (new_setting x) least_prices c tv k tv.rest)) (sym (cost_is (old_setting x) (most_prices old) c th m))
          (subst (λ (z : ℕ). by_prices (price_of (new_base (most_prices old) th) context_cost old_effect) z (thread_cost (old_setting x) (staying x) c th m th.rest) (thread_cost (new_setting x) least_prices c tv k tv.rest)) (sym (cost_is (new_setting x) (most_prices new) c tv k))
          (subst (λ (z : ℕ). by_prices (price_of (new_base (most_prices old) th) context_cost old_effect) (price_of (new_base (most_prices new) tv) context_cost new_effect) z (thread_cost (new_setting x) least_prices c tv k tv.rest)) (sym (cost_is (old_setting x) (staying x) c th m))
          (subst (λ (z : ℕ). by_prices (price_of (new_base (most_prices old) th) context_cost old_effect) (price_of (new_base (most_prices new) tv) context_cost new_effect) (price_of (new_base (staying x) th) 0 old_effect) z) (sym (cost_is (new_setting x) least_prices c tv k)) h)))

      stuck_stops : (e : Effect) → e ≡ Stuck → acted (old_setting x) o um e ≡ Stops
      unfolding acted
      stuck_stops e is = ap (acted (old_setting x) o um) is

      by_either : Either x sound c rest (other_far sound c a b m rest other) r.home r.note r.frames m k r.same th tv old_effect new_effect → ActsAt c th tv
      by_either (Lost stuck) = Halts (stuck_stops old_effect stuck)
      by_either (Matched h pays) =
          let y = bases r.home r.note r.frames th tv r.tied pays in
          Joint (pace_one th pays) (priced (both_acted (apart_of r.note r.frames) r.same (new_base (most_prices old) th) (new_base (most_prices new) tv) context_cost (new_base (staying x) th) (new_base least_prices tv) y.0 y.1 old_effect new_effect h))
      by_either (Lone h skips) = by_alone (alone_acted old_effect h)
        where
          base_none : base (staying x) th.rest th.at ≡ 0
          base_none = ap (λ (z : Option Rest). base (staying x) z th.at) skips.none_left ∙ ap (λ (z : Option Position). base (staying x) None z) skips.stands ∙ dropped_count (row_at x skips.place) skips.dropped

          pace_none : pace_at th.rest th.at ≡ 0
          pace_none = ap (λ (z : Option Rest). pace_at z th.at) skips.none_left ∙ ap (λ (z : Option Position). pace_at None z) skips.stands ∙ dropped_count (row_at x skips.place) skips.dropped

          none_is : (e : Effect) → only.Alone x c rest tv m k e → price_of (new_base (staying x) th) 0 e ≡ 0
          none_is Stuck h = base_none
          none_is (Quiet p y) h = base_none
          none_is e h = absurd h

          by_alone : (acted (old_setting x) o um old_effect ≡ Stops) ⊎ ((u : Machine) × (acted (old_setting x) o um old_effect ≡ next.Goes u) × Together u vm) → ActsAt c th tv
          by_alone (inl e) = Halts e
          by_alone (inr y) = Alone pace_none y.0 y.1 y.2 (cost_is (old_setting x) (staying x) c th m ∙ none_is old_effect h)

      acts : is_open x.hidden (old_program x) th ≡ true → ActsAt c th tv
      acts open_at = by_either (thread_step x sound c rest (other_far sound c a b m rest other) r.home r.note r.frames m k r.same th tv r.tied open_at)

      -- ---- entries
      module _ (e : Entry) where
        begin_expects : (f : ℕ → Bool) (q : Option (Option Note)) → Begins f q → Expects q nothing_known (record { w = false; z = false; dc = false; c = false; bytes = f })
        begin_expects f None h = tt
        begin_expects f (Some None) h = h
        begin_expects f (Some (Some i)) h = (h.0, record { flags = record { w = λ z. refl; z = λ z. refl; dc = λ z. refl; c = λ z. refl }; bytes = h.2 }, h.1)

        -- main is interrupted: the handler begins
        enter_to : (c : Bool) → c ≡ false → (th tv a b : Thread) (rest : ℕ → Bool) → Other c a b m rest → Ready x c rest th tv m k → (copy : ℕ) → BeginsAt x (Some copy) → lands (old_program x) (front (old_program x) (Copy copy)) ≡ true
            → Together (with_entry (at_front (old_program x) copy (e n)) (machine c th a n m w)) (with_entry (at_front (new_program x) copy (e n)) (machine c tv b n k w)) × (lands (new_program x) (front (new_program x) (Copy copy)) ≡ true)
        enter_to true z th tv a b rest other ready copy begins stands = never (sym z)
        enter_to false z th tv a b rest other ready copy begins stands =
            let apart = apart_of ready.note ready.frames in
            let d : Apart = record { w = false; z = false; dc = false; c = false; bytes = x.rest } in
            let y = arrive x sound true apart (Copy copy) (front (old_program x) (Copy copy)) (note_ahead (x.rows (Copy copy))) nothing_known d (to_front x (Copy copy)) begins.0 (begin_expects x.rest (note_ahead (x.rows (Copy copy))) begins.1) [] tt
            (at_front (old_program x) copy (e n)) (at_front (new_program x) copy (e n)) m k refl (ap (λ (q : Position). Some q) (under_front x (Copy copy))) refl tt refl refl
            (record { w = λ h. refl; z = λ h. refl; dc = λ h. refl; c = λ h. refl; fsr = refl; irp = refl })
            (record { number = λ i h. absurd (none-some i h); held = λ i h. never h; zero = λ h. never h; known = λ i j h. absurd (none-some j h); twin = λ i j h. never h; carry_bit = λ h. never h; zero_bit = λ h. never h })
            (λ j h i l. ready.same j l (other j ∙ h)) stands in (
              record {
                inside = true;
                is = entered_inside w;
                entries = refl;
                world = refl;
                rest = apart;
                other = record { home = ready.home; note = ready.note; frames = ready.frames; tied = ready.tied; rest_is = λ j. refl };
                ready = y.0;
              },
              y.1,
            )

        enter_by : (h : Option ℕ) → BeginsAt x h → c ≡ false → Outcome vm (enter (old_setting x) e h um) (enter (new_setting x) e h vm) context_cost context_cost 1 1
        enter_by None begins z = Halted refl
        enter_by (Some copy) begins z = by_land (lands (old_program x) (front (old_program x) (Copy copy))) refl
          where
            by_land : (i : Bool) → lands (old_program x) (front (old_program x) (Copy copy)) ≡ i
                → Outcome vm (if i then next.Goes (with_entry (at_front (old_program x) copy (e n)) um) else Stops) (enter (new_setting x) e (Some copy) vm) context_cost context_cost 1 1
            by_land false l = Halted refl
            by_land true l =
                let y = enter_to c z th tv a b rest other r copy begins l in
                subst (λ (i : Bool). Outcome vm (next.Goes (with_entry (at_front (old_program x) copy (e n)) um)) (if i then next.Goes (with_entry (at_front (new_program x) copy (e n)) vm) else Stops) context_cost context_cost 1 1) (sym y.1)
                (Moved (with_entry (at_front (old_program x) copy (e n)) um) (with_entry (at_front (new_program x) copy (e n)) vm) refl refl y.0 (omega arith) (omega arith))

        -- ---- the whole step
        abbrev StepsAt : Bool → Type 0
        StepsAt i =
            Stepped vm (if i then enter (old_setting x) e x.handler um else act (old_setting x) o um) (if i then enter (new_setting x) e x.handler vm else act (new_setting x) o vm) (if i then 1 else pace_at (running um).rest (running um).at)
            (if i then context_cost else thread_cost (old_setting x) (most_prices old) w.inside (running um) m (running um).rest) (if i then context_cost else thread_cost (new_setting x) (most_prices new) w.inside (running vm) k (running vm).rest)
            (if i then 1 else thread_cost (old_setting x) (staying x) w.inside (running um) m (running um).rest) (if i then 1 else thread_cost (new_setting x) least_prices w.inside (running vm) k (running vm).rest)

        acts_running : is_open x.hidden (old_program x) (running um) ≡ true → ActsAt w.inside (running um) (running vm)
        acts_running open_at =
            subst (λ (i : Bool). ActsAt i (running um) (running vm)) (sym is)
            (subst (λ (p : Thread). ActsAt c p (running vm)) (sym (running_is c th a n m w is))
            (subst (λ (p : Thread). ActsAt c th p) (sym (running_is c tv b n k w is))
            (acts (subst (λ (p : Thread). is_open x.hidden (old_program x) p ≡ true) (running_is c th a n m w is) open_at))))

        by_due : (i : Bool) → is_due w ≡ i → (is_due w ≡ false → is_open x.hidden (old_program x) (running um) ≡ true) → StepsAt i
        by_due true due open_at = Joint refl (enter_by x.handler sound.handler (sym is ∙ due_outside w due))
        by_due false due open_at = acts_running (open_at due)

        pub machines_step : (is_due w ≡ false → is_open x.hidden (old_program x) (running um) ≡ true) → StepsAt (is_due w)
        machines_step open_at = by_due (is_due w) refl open_at

  -- ---- of any two machines
  module _ (sound : IsSound x) (o : Outside) (e : Entry) (old new : BlockName → ℕ → ℕ) (cheaper : IsCheaper x old new) where
    abbrev pub StepOf : Machine → Machine → Type 0
    StepOf u v =
        Stepped v (sym_step_at (old_setting x) e o u) (sym_step_at (new_setting x) e o v) (pace_of u)
        (step_cost_at (old_setting x) (most_prices old) u) (step_cost_at (new_setting x) (most_prices new) v) (step_cost_at (old_setting x) (staying x) u) (step_cost_at (new_setting x) least_prices v)

    pub both_step : (u v : Machine) → Together u v → (is_due u.world ≡ false → is_open x.hidden (old_program x) (running u) ≡ true) → StepOf u v
    both_step u v t open_at =
        let c = t.inside in
        let u_is = machine_is c u in
        let v_is : machine c (runs c v) (waits_in c v) u.entries v.memory u.world ≡ v =
        ap (λ (i : ℕ). machine c (runs c v) (waits_in c v) i v.memory u.world) t.entries ∙ ap (λ (i : World ℕ). machine c (runs c v) (waits_in c v) v.entries v.memory i) t.world ∙ machine_is c v in
        subst (λ (i : Machine). StepOf u i) v_is
        (subst (λ (i : Machine). StepOf i (machine c (runs c v) (waits_in c v) u.entries v.memory u.world)) u_is
        (machines_step sound o c (runs c u) (runs c v) (waits_in c u) (waits_in c v) u.entries u.memory v.memory u.world t.is t.rest t.other t.ready old new cheaper e
        (subst (λ (i : Machine). is_due i.world ≡ false → is_open x.hidden (old_program x) (running i) ≡ true) (sym u_is) open_at)))
