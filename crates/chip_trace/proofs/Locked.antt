-- What it means that an instruction of the chip is an effect of symbolic code, and that accesses are.
use Rattle.std.proofs.Common.{◌≡◌, ℕ, ◌+◌, ◌/◌, ◌%◌, Bool, true, false, List, [], ◌++◌, length, map, Option, Some, None, refl, sym, ap, ◌∙◌, subst, arith, append-nil, append_assoc}
use Rattle.std.specs.Prelude.{if◌then◌else◌, slice_set}
use Rattle.pic_chip.specs.State.{State}
use Rattle.pic_chip.specs.Interrupts.{control_of}
use Rattle.pic_chip.specs.Run.{event_at}
use Rattle.pic_world.specs.World.{World, Outside, event_of}
use Rattle.pic_world.specs.declared.Event.{Event as Shown}
use Rattle.sym_code.specs.Effect.{Setting, Thread, Memory, Write, Rest, Loud, Port, Shared, Event, Effect, Stuck, Quiet, Reads, Writes, Leaves, Ends, Rests, goes}
use Rattle.sym_code.specs.Machine.{Made, made_write, lands_at, value_by, read_by, wrote_by, is_forbidden}
use Rattle.sym_code.specs.Programs.{Program, Position, lands, behind, onward}
use Rattle.sym_code.specs.Registers.{Registers, page}
use Rattle.chip_trace.proofs.Accesses.{cell_for, cell_by, taken_after, control_after, state_stored, read_taken, read_trace, wrote_taken, wrote_control, wrote_trace}
use Rattle.chip_trace.proofs.Past.{read_control}
use Rattle.pic_chip.proofs.Stack.{IsOn}
use Rattle.chip_trace.proofs.Relations.{Sees, put_in, Ground, words, IsAt, IsPlaced}

module _ (g : Setting) (h : Ground) (o : Outside) where
  -- t: the chip's state s after the instruction; w: the world before it; ev: its events
  pub record Locked (below : List ℕ) (s t : State) (w : World ℕ) (ev : List Shown) (r : Made) : Type 0 where
    pub at : IsAt g h r.thread below t
    -- the low three bits of PCLATH, which no thread's registers have
    pub low : t.pclath % 8 ≡ s.pclath % 8
    pub ram : t.ram ≡ put_in r.write s.ram
    pub control : control_of t ≡ r.world.control
    pub taken : t.taken ≡ r.world.taken
    pub trace : map event_of r.world.trace ≡ map event_of w.trace ++ ev

  abbrev pub LockedIf : List ℕ → State → State → World ℕ → List Shown → Option Made → Type 0
  LockedIf below s t w ev None = Unit {0}
  LockedIf below s t w ev (Some r) = lands_at g.program r.thread.at ≡ true → Locked below s t w ev r

  -- a read, and where the instruction writes too, both
  abbrev pub LockedRead : Memory → List ℕ → State → State → World ℕ → List Shown → Loud → Thread → Option Rest → Type 0
  LockedRead m below s t w ev b u None = LockedIf below s t w ev (Some (record { thread = u; write = None; world = read_by o m w b }))
  LockedRead m below s t w ev b u (Some x) = (length ev ≡ 2) × LockedIf below s t w ev (made_write (read_by o m w b) x.to x.byte (record u { rest = None }))

  abbrev pub LockedBy : Memory → List ℕ → State → State → World ℕ → List Shown → Effect → Type 0
  LockedBy m below s t w ev Stuck = Unit {0}
  LockedBy m below s t w ev (Quiet u x) = LockedIf below s t w ev (Some (record { thread = u; write = x; world = w }))
  LockedBy m below s t w ev (Reads b k) = let u = k (value_by o m w b) in LockedRead m below s t w ev b u u.rest
  LockedBy m below s t w ev (Writes b v u) = LockedIf below s t w ev (made_write w b v u)
  LockedBy m below s t w ev Leaves = (t ≡ record s { pc = h.restore }) × (ev ≡ [])
  LockedBy m below s t w ev (Ends u) = (t ≡ record s { pc = h.halt }) × (ev ≡ []) × (page u.registers ≡ h.halt / 2048)
  LockedBy m below s t w ev Rests = Unit {0}

  pub moved_to : (m : Memory) (below : List ℕ) (s t t' : State) (w : World ℕ) (ev ev' : List Shown) (y : Effect) → t ≡ t' → ev ≡ ev' → LockedBy m below s t' w ev' y → LockedBy m below s t w ev y
  moved_to m below s t t' w ev ev' y e f k = subst (λ z. LockedBy m below s z w ev y) (sym e) (subst (λ z. LockedBy m below s t' w z y) (sym f) k)

  wrote_if : (below : List ℕ) (s t : State) (w : World ℕ) (ev : List Shown) (b : Bool) (r : Made) → (lands_at g.program r.thread.at ≡ true → Locked below s t w ev r) → LockedIf below s t w ev (if b then None else Some r)
  wrote_if below s t w ev true r k = tt
  wrote_if below s t w ev false r k = k

  cell_is : (b : Loud) → cell_for (Event b) ≡ Some (cell_by b)
  cell_is (Port a) = refl
  cell_is (Shared k cell) = refl

  module _ (image : List ℕ) (placed : IsPlaced g h image) (th : Thread) (p : Position) (m : Memory) (below : List ℕ) (s : State) (w : World ℕ)
      (here : lands g.program p ≡ true) (is : th.at ≡ Some p) (none : th.rest ≡ None) (at : IsAt g h th below s)
      (same : control_of s ≡ w.control) (taken : s.taken ≡ w.taken) where
    abbrev q : Program
    q = g.program

    pc_is : s.pc ≡ h.place p
    pc_is = at.pc ∙ ap (λ (x : Option Position). elim x [ None ↦ h.rests | Some z ↦ h.place z ]) is

    pub next_pc : lands q (behind q p) ≡ true → (s.pc + 1) % 8192 ≡ h.place (behind q p)
    next_pc ok = let a = placed.next p here in let b = placed.below (behind q p) ok in let c = pc_is in omega arith

    pub on_pc : (b c : Bool) → b ≡ c → lands q (onward q p c) ≡ true → (s.pc + (if b then 2 else 1)) % 8192 ≡ h.place (onward q p c)
    on_pc b c e ok = ap (λ z. (s.pc + (if z then 2 else 1)) % 8192) e ∙ by c ok where
      by : (c : Bool) → lands q (onward q p c) ≡ true → (s.pc + (if c then 2 else 1)) % 8192 ≡ h.place (onward q p c)
      by true ok = let a = placed.two p here ok in let b = placed.below (behind q (behind q p)) ok in let d = pc_is in omega arith
      by false ok = next_pc ok

    pub at_of : (t : State) (p' : Position) (r : Registers) → t.pc ≡ h.place p' → Sees t r → t.stack ≡ s.stack → t.pushes ≡ s.pushes → t.pops ≡ s.pops → IsAt g h (goes th p' r) below t
    at_of t p' r e x es eu eo = record {
      pc = e;
      sees = x;
      stack = subst (λ z. IsOn z 0 (words g h th.stack below)) (sym es) at.stack;
      depth = eu ∙ at.depth ∙ ap (λ z. z + length (words g h th.stack below)) (sym eo);
    }

    -- registers alone
    pub sees_like : (t t' : State) (r : Registers) → t.w ≡ t'.w → t.z ≡ t'.z → t.dc ≡ t'.dc → t.c ≡ t'.c → t.fsr ≡ t'.fsr → t.bank ≡ t'.bank → t.pclath ≡ t'.pclath → Sees t' r → Sees t r
    sees_like t t' r a b c d e f k x = record {
      w = a ∙ x.w;
      z = b ∙ x.z;
      dc = c ∙ x.dc;
      c = d ∙ x.c;
      fsr = e ∙ x.fsr;
      bank = f ∙ x.bank;
      page = ap (λ z. z / 8) k ∙ x.page;
      banks = x.banks;
      pages = x.pages;
    }

    -- what has no event
    pub silent : (t : State) (p' : Position) (r : Registers) (x : Option Write) → (lands q p' ≡ true → t.pc ≡ h.place p') → Sees t r → t.pclath % 8 ≡ s.pclath % 8 → t.stack ≡ s.stack → t.pushes ≡ s.pushes → t.pops ≡ s.pops → t.ram ≡ put_in x s.ram
        → control_of t ≡ control_of s → t.taken ≡ s.taken → LockedBy m below s t w [] (Quiet (goes th p' r) x)
    silent t p' r x e y el es eu eo em ec et ok = record {
      at = at_of t p' r (e ok) y es eu eo;
      low = el;
      ram = em;
      control = ec ∙ same;
      taken = et ∙ taken;
      trace = sym (append-nil (map event_of w.trace));
    }

    none_event : (b c : Bool) (x y : ℕ) → event_at b x None ++ event_at c y None ≡ []
    none_event true true x y = refl
    none_event true false x y = refl
    none_event false true x y = refl
    none_event false false x y = refl

    one_none : (b : Bool) (x : ℕ) → event_at b x None ≡ []
    one_none true x = refl
    one_none false x = refl

    -- ---- a read, and what is made of it goes to registers
    pub read_event : (b : Loud) (n xv w' z' d' c' : ℕ) (p' : Position) (r : Registers) → xv ≡ value_by o m w b → (lands q p' ≡ true → n ≡ h.place p') → Sees (record s { w = w'; z = z'; dc = d'; c = c' }) r
        → LockedRead m below s (record s { pc = n; taken = taken_after (Event b) s.taken; w = w'; z = z'; dc = d'; c = c' }) w (event_at false xv (cell_for (Event b))) b (goes th p' r) th.rest
    read_event b n xv w' z' d' c' p' r ex e y =
        let t : State = record s { pc = n; taken = taken_after (Event b) s.taken; w = w'; z = z'; dc = d'; c = c' } in
        subst (LockedRead m below s t w (event_at false xv (cell_for (Event b))) b (goes th p' r)) (sym none) (λ ok. record {
          at = at_of t p' r (e ok) (sees_like t (record s { w = w'; z = z'; dc = d'; c = c' }) r refl refl refl refl refl refl refl y) refl refl refl;
          low = refl;
          ram = refl;
          control = same ∙ sym (read_control o m w b);
          taken = ap (taken_after (Event b)) taken ∙ sym (read_taken o m w b);
          trace = read_trace o m w b ∙ ap (λ v. map event_of w.trace ++ event_at false v (Some (cell_by b))) (sym ex) ∙ ap (λ c. map event_of w.trace ++ event_at false xv c) (sym (cell_is b));
        })

    -- ---- a read and a write
    both_trace : (b : Loud) (xv v vh : ℕ) → xv ≡ value_by o m w b → v ≡ vh
        → map event_of (wrote_by (read_by o m w b) b vh).trace ≡ map event_of w.trace ++ (event_at false xv (cell_for (Event b)) ++ event_at true v (cell_for (Event b)))
    both_trace b xv v vh ex ev =
        wrote_trace (read_by o m w b) b vh ∙ ap (λ z. z ++ event_at true vh (Some (cell_by b))) (read_trace o m w b)
        ∙ append_assoc (map event_of w.trace) (event_at false (value_by o m w b) (Some (cell_by b))) (event_at true vh (Some (cell_by b)))
        ∙ ap (λ z. map event_of w.trace ++ (event_at false z (Some (cell_by b)) ++ event_at true vh (Some (cell_by b)))) (sym ex)
        ∙ ap (λ z. map event_of w.trace ++ (event_at false xv (Some (cell_by b)) ++ event_at true z (Some (cell_by b)))) (sym ev)
        ∙ ap (λ c. map event_of w.trace ++ (event_at false xv c ++ event_at true v c)) (sym (cell_is b))

    both_control : (b : Loud) (v vh : ℕ) → v ≡ vh → control_after b v (control_of s) ≡ (wrote_by (read_by o m w b) b vh).control
    both_control b v vh ev =
        ap (λ z. control_after b z (control_of s)) ev ∙ ap (control_after b vh) (same ∙ sym (read_control o m w b)) ∙ sym (wrote_control (read_by o m w b) b vh)

    both_taken : (b : Loud) (vh : ℕ) → taken_after (Event b) s.taken ≡ (wrote_by (read_by o m w b) b vh).taken
    both_taken b vh = ap (taken_after (Event b)) taken ∙ sym (read_taken o m w b) ∙ sym (wrote_taken (read_by o m w b) b vh)

    pub modify_event : (b : Loud) (n xv v vh z' d' c' : ℕ) (p' : Position) (r : Registers) → xv ≡ value_by o m w b → v ≡ vh → (lands q p' ≡ true → n ≡ h.place p') → Sees (record s { z = z'; dc = d'; c = c' }) r
        → LockedRead m below s (record (state_stored (Event b) v (record s { pc = n; taken = taken_after (Event b) s.taken })) { z = z'; dc = d'; c = c' }) w
        (event_at false xv (cell_for (Event b)) ++ event_at true v (cell_for (Event b))) b (record (goes th p' r) { rest = Some (record { to = b; byte = vh }) }) (Some (record { to = b; byte = vh }))
    modify_event (Port a) n xv v vh z' d' c' p' r ex ev e y =
        let t : State = record (state_stored (Event (Port a)) v (record s { pc = n; taken = taken_after (Event (Port a)) s.taken })) { z = z'; dc = d'; c = c' } in (
          refl,
          wrote_if below s t w _ (is_forbidden (read_by o m w (Port a)) (Port a) vh) _ (λ ok.
              let there = at_of t p' r (e ok) (sees_like t (record s { z = z'; dc = d'; c = c' }) r refl refl refl refl refl refl refl y) refl refl refl in record {
                at = record { pc = there.pc; sees = there.sees; stack = there.stack; depth = there.depth };
                low = refl;
                ram = refl;
                control = both_control (Port a) v vh ev;
                taken = both_taken (Port a) vh;
                trace = both_trace (Port a) xv v vh ex ev;
              }),
        )
    modify_event (Shared k cell) n xv v vh z' d' c' p' r ex ev e y =
        let t : State = record (state_stored (Event (Shared k cell)) v (record s { pc = n; taken = taken_after (Event (Shared k cell)) s.taken })) { z = z'; dc = d'; c = c' } in (
          refl,
          wrote_if below s t w _ (is_forbidden (read_by o m w (Shared k cell)) (Shared k cell) vh) _ (λ ok.
              let there = at_of t p' r (e ok) (sees_like t (record s { z = z'; dc = d'; c = c' }) r refl refl refl refl refl refl refl y) refl refl refl in record {
                at = record { pc = there.pc; sees = there.sees; stack = there.stack; depth = there.depth };
                low = refl;
                ram = ap (slice_set s.ram k) ev;
                control = both_control (Shared k cell) v vh ev;
                taken = both_taken (Shared k cell) vh;
                trace = both_trace (Shared k cell) xv v vh ex ev;
              }),
        )

    -- ---- a write
    write_trace : (b : Loud) (v vh : ℕ) → v ≡ vh → map event_of (wrote_by w b vh).trace ≡ map event_of w.trace ++ event_at true v (cell_for (Event b))
    write_trace b v vh ev =
        wrote_trace w b vh ∙ ap (λ z. map event_of w.trace ++ event_at true z (Some (cell_by b))) (sym ev) ∙ ap (λ c. map event_of w.trace ++ event_at true v c) (sym (cell_is b))

    write_control : (b : Loud) (v vh : ℕ) → v ≡ vh → control_after b v (control_of s) ≡ (wrote_by w b vh).control
    write_control b v vh ev = ap (λ z. control_after b z (control_of s)) ev ∙ ap (control_after b vh) same ∙ sym (wrote_control w b vh)

    pub write_event : (b : Loud) (n v vh z' d' c' : ℕ) (p' : Position) (r : Registers) → v ≡ vh → (lands q p' ≡ true → n ≡ h.place p') → Sees (record s { z = z'; dc = d'; c = c' }) r
        → LockedIf below s (record (state_stored (Event b) v (record s { pc = n })) { z = z'; dc = d'; c = c' }) w (event_at true v (cell_for (Event b))) (made_write w b vh (goes th p' r))
    write_event (Port a) n v vh z' d' c' p' r ev e y =
        let t : State = record (state_stored (Event (Port a)) v (record s { pc = n })) { z = z'; dc = d'; c = c' } in
        wrote_if below s t w _ (is_forbidden w (Port a) vh) _ (λ ok. record {
          at = at_of t p' r (e ok) (sees_like t (record s { z = z'; dc = d'; c = c' }) r refl refl refl refl refl refl refl y) refl refl refl;
          low = refl;
          ram = refl;
          control = write_control (Port a) v vh ev;
          taken = taken ∙ sym (wrote_taken w (Port a) vh);
          trace = write_trace (Port a) v vh ev;
        })
    write_event (Shared k cell) n v vh z' d' c' p' r ev e y =
        let t : State = record (state_stored (Event (Shared k cell)) v (record s { pc = n })) { z = z'; dc = d'; c = c' } in
        wrote_if below s t w _ (is_forbidden w (Shared k cell) vh) _ (λ ok. record {
          at = at_of t p' r (e ok) (sees_like t (record s { z = z'; dc = d'; c = c' }) r refl refl refl refl refl refl refl y) refl refl refl;
          low = refl;
          ram = ap (slice_set s.ram k) ev;
          control = write_control (Shared k cell) v vh ev;
          taken = taken ∙ sym (wrote_taken w (Shared k cell) vh);
          trace = write_trace (Shared k cell) v vh ev;
        })
