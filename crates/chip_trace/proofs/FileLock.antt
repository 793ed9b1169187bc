-- One instruction of the chip with a file register is one effect of symbolic code.
use Rattle.std.proofs.Common.{◌≡◌, ℕ, ◌+◌, ◌%◌, Bool, true, false, List, [], ◌∷◌, ◌++◌, Option, Some, None, refl, sym, ap, ◌∙◌, subst, append-nil, append_assoc}
use Rattle.std.specs.Prelude.{if◌then◌else◌, slice_index, slice_set, nat_eq}
use Rattle.pic_isa.specs.declared.Ins.{Ins}
use Rattle.pic_isa.specs.declared.Ins.TheVariants as isa
use Rattle.pic_chip.specs.declared.processor.Flags.{Flags}
use Rattle.pic_chip.specs.declared.processor.Flags.TheVariants.{OnlyZ}
use Rattle.pic_chip.specs.State.{State, AtW}
use Rattle.pic_chip.specs.Act.{Derived, Made as Access', Act, effect, perform, accesses, made, value_in}
use Rattle.pic_chip.specs.Address.{Place, operand}
use Rattle.pic_chip.specs.Changes.{stored, flagged, keeps_flags}
use Rattle.pic_chip.specs.Instructions.{row, contents, note, bit_row, test_row, of, part, number}
use Rattle.pic_chip.specs.Operations.{result_of}
use Rattle.pic_chip.specs.Interrupts.{control_of}
use Rattle.pic_chip.specs.Run.{Range, event_at, events_of, cell_at}
use Rattle.pic_chip.proofs.Done.{made-append}
use Rattle.pic_world.specs.Bits.{bit}
use Rattle.pic_world.specs.World.{World, Outside}
use Rattle.pic_world.specs.declared.Cell.{Cell}
use Rattle.pic_world.specs.declared.Event.{Event as Shown}
use Rattle.code_place.specs.Instructions.{file_row}
use Rattle.sym_code.specs.Effect.{Setting, Thread, Memory, Write, write, Loud, Port, Shared, Access, Pointer, Event, Silent, Denied, access_of, Effect, Quiet, goes, file_to_w, file_to_file, store, change, test}
use Rattle.sym_code.specs.Layout.{DataLayout, Watched, owner, IsLaidOut}
use Rattle.sym_code.specs.Machine.{value_by}
use Rattle.sym_code.specs.Programs.{Program, Position, lands, behind, onward}
use Rattle.sym_code.specs.Registers.{Registers, operation_of, result_with, flags_with, skips_with}
use Rattle.sym_code.specs.declared.code.FileOperation.{FileOperation}
use Rattle.sym_code.specs.declared.code.Operand.{Operand}
use Rattle.chip_trace.proofs.Accesses.{cell_for, taken_after, state_stored, value_here, reading, storing, shown_note, same_value}
use Rattle.chip_trace.proofs.Effects.{IsAccess, access_sound, reads_silently}
use Rattle.chip_trace.proofs.Locked.{LockedBy, LockedRead, moved_to, next_pc, on_pc, silent, read_event, modify_event, write_event}
use Rattle.chip_trace.proofs.Operands.{place_for, is_allowed, leads_to}
use Rattle.chip_trace.proofs.Relations.{Sees, put_in, Ground, IsAt, IsPlaced, low_of}
use Rattle.chip_trace.proofs.Rows.{result_is, res, flg, skp, fz, fd, fc, with_flags, file_done, file_notes, change_done, change_notes, test_done, tested, movwf_done, movwf_notes, clrf_done, clrf_notes, result_same, skip_same, flags_same}

pub events_append : (ranges : List Range) (xs ys : List Access') → events_of ranges (xs ++ ys) ≡ events_of ranges xs ++ events_of ranges ys
events_append ranges [] ys = refl
events_append ranges (x ∷ xs) ys =
    ap (λ z. event_at x.write x.byte (cell_at ranges x.address) ++ z) (events_append ranges xs ys) ∙ sym (append_assoc (event_at x.write x.byte (cell_at ranges x.address)) (events_of ranges xs) (events_of ranges ys))

module _ (reaches : ℕ → ℕ → Bool) (g : Setting) (h : Ground) (o : Outside) (image : List ℕ) (placed : IsPlaced g h image) (banked : g.banked ≡ true) (laid : IsLaidOut reaches g.program.layout)
    (i : Bool) (th : Thread) (p : Position) (m : Memory) (below : List ℕ) (s : State) (w : World ℕ)
    (here : lands g.program p ≡ true) (is : th.at ≡ Some p) (none : th.rest ≡ None) (at : IsAt g h th below s)
    (same : control_of s ≡ w.control) (taken : s.taken ≡ w.taken)
    (own : (k : ℕ) → reads_silently i (owner g.program.layout k) ≡ true → slice_index s.ram k ≡ m k)
    (static : (k : ℕ) (cell : Cell) → owner g.program.layout k ≡ Watched cell → slice_index s.ram k ≡ m k) where
  abbrev q : Program
  q = g.program

  abbrev l : DataLayout
  l = g.program.layout

  abbrev r : Registers
  r = th.registers

  abbrev By : State → List Shown → Effect → Type 0
  By t ev y = LockedBy g h o m below s t w ev y

  -- ---- registers behind a row
  module _ (op : FileOperation) (xv xh : ℕ) (ex : xv ≡ xh) where
    v_eq : res op s.w s.c xv ≡ result_with r op xh
    v_eq = ap (λ a. res op a s.c xv) at.sees.w ∙ ap (λ a. res op r.w a xv) at.sees.c ∙ ap (res op r.w r.c) ex ∙ sym (result_same r xh op)

    s_eq : skp op xv ≡ skips_with r op xh
    s_eq = ap (skp op) ex ∙ sym (skip_same r xh op)

    z_eq : fz (flg op s.w xv) (res op s.w s.c xv) s.z ≡ fz (flg op r.w xh) (res op r.w r.c xh) r.z
    z_eq =
        ap (λ a. fz (flg op a xv) (res op a s.c xv) s.z) at.sees.w ∙ ap (λ a. fz (flg op r.w xv) (res op r.w a xv) s.z) at.sees.c
        ∙ ap (λ a. fz (flg op r.w a) (res op r.w r.c a) s.z) ex ∙ ap (fz (flg op r.w xh) (res op r.w r.c xh)) at.sees.z

    d_eq : fd (flg op s.w xv) s.dc ≡ fd (flg op r.w xh) r.dc
    d_eq = ap (λ a. fd (flg op a xv) s.dc) at.sees.w ∙ ap (λ a. fd (flg op r.w a) s.dc) ex ∙ ap (fd (flg op r.w xh)) at.sees.dc

    c_eq : fc (flg op s.w xv) s.c ≡ fc (flg op r.w xh) r.c
    c_eq = ap (λ a. fc (flg op a xv) s.c) at.sees.w ∙ ap (λ a. fc (flg op r.w a) s.c) ex ∙ ap (fc (flg op r.w xh)) at.sees.c

    abbrev z' : ℕ
    z' = fz (flg op s.w xv) (res op s.w s.c xv) s.z

    abbrev d' : ℕ
    d' = fd (flg op s.w xv) s.dc

    abbrev c' : ℕ
    c' = fc (flg op s.w xv) s.c

    sees_w : Sees (record s { w = res op s.w s.c xv; z = z'; dc = d'; c = c' }) (record (flags_with r op xh) { w = result_with r op xh })
    sees_w = subst (λ (R : Registers). Sees (record s { w = res op s.w s.c xv; z = z'; dc = d'; c = c' }) (record R { w = result_with r op xh })) (sym (flags_same r xh op)) (record {
      w = v_eq;
      z = z_eq;
      dc = d_eq;
      c = c_eq;
      fsr = at.sees.fsr;
      bank = at.sees.bank;
      page = at.sees.page;
      banks = at.sees.banks;
      pages = at.sees.pages;
    })

    sees_f : Sees (record s { z = z'; dc = d'; c = c' }) (flags_with r op xh)
    sees_f = subst (Sees (record s { z = z'; dc = d'; c = c' })) (sym (flags_same r xh op)) (record {
      w = at.sees.w;
      z = z_eq;
      dc = d_eq;
      c = c_eq;
      fsr = at.sees.fsr;
      bank = at.sees.bank;
      page = at.sees.page;
      banks = at.sees.banks;
      pages = at.sees.pages;
    })

    sees_p : Sees (record s { fsr = res op s.w s.c xv; z = z'; dc = d'; c = c' }) (record (flags_with r op xh) { fsr = result_with r op xh })
    sees_p = subst (λ (R : Registers). Sees (record s { fsr = res op s.w s.c xv; z = z'; dc = d'; c = c' }) (record R { fsr = result_with r op xh })) (sym (flags_same r xh op)) (record {
      w = at.sees.w;
      z = z_eq;
      dc = d_eq;
      c = c_eq;
      fsr = v_eq;
      bank = at.sees.bank;
      page = at.sees.page;
      banks = at.sees.banks;
      pages = at.sees.pages;
    })

  -- ---- an operand that is accessed
  module _ (writes : Bool) (x : Operand) (y : Access) (acc : access_of g i writes r x ≡ y) (al : is_allowed y ≡ true) (sound : IsAccess l i writes y) where
    abbrev f : ℕ
    f = low_of l x

    abbrev pl : Place
    pl = place_for y

    leads : (next : Place → Act) → effect (operand f next) s ≡ effect (next pl) s
    leads = leads_to g banked s r at.sees i writes x y acc al

    abbrev X : Derived
    X = contents o.input s.pc pl

    abbrev xv : ℕ
    xv = value_in s X

    xe : xv ≡ value_here o m w r y
    xe = same_value reaches l laid i writes o m w s r at.sees same taken own static s.pc y al sound

    shown : (wr : Bool) (v : Derived) → events_of l.objects (made (note wr pl v) s) ≡ event_at wr (value_in s v) (cell_for y)
    shown wr v = shown_note reaches l laid i writes s v wr y al sound

    shown_both : (v : Derived) → events_of l.objects (made (note false pl X ++ note true pl v) s) ≡ event_at false xv (cell_for y) ++ event_at true (value_in s v) (cell_for y)
    shown_both v =
        ap (events_of l.objects) (made-append (note false pl X) (note true pl v) s) ∙ events_append l.objects (made (note false pl X) s) (made (note true pl v) s)
        ∙ ap (λ z. z ++ events_of l.objects (made (note true pl v) s)) (shown false X) ∙ ap (λ z. event_at false xv (cell_for y) ++ z) (shown true v)

    -- states
    w_state : (op : FileOperation) → perform (row o.input s.pc (file_row op f false)) s
        ≡ record s { pc = (s.pc + (if skp op xv then 2 else 1)) % 8192; taken = taken_after y s.taken; w = res op s.w s.c xv; z = fz (flg op s.w xv) (res op s.w s.c xv) s.z; dc = fd (flg op s.w xv) s.dc; c = fc (flg op s.w xv) s.c }
    w_state op =
        let n = (s.pc + (if skp op xv then 2 else 1)) % 8192 in
        file_done o.input s f pl leads op false
        ∙ ap (λ (u : State). flagged (flg op s.w xv) (res op s.w s.c xv) (record u { w = res op s.w s.c xv })) (reading (record s { pc = n }) y)
        ∙ with_flags (flg op s.w xv) (res op s.w s.c xv) (record s { pc = n; taken = taken_after y s.taken; w = res op s.w s.c xv })

    w_events : (op : FileOperation) → events_of l.objects (accesses (row o.input s.pc (file_row op f false)) s) ≡ event_at false xv (cell_for y)
    w_events op =
        ap (events_of l.objects) (file_notes o.input s f pl leads op false) ∙ ap (λ ns. events_of l.objects (made ns s)) (append-nil (note false pl X)) ∙ shown false X

    abbrev U : ℕ → State
    U n = record s { pc = n; taken = taken_after y s.taken }

    f_state : (op : FileOperation) → perform (row o.input s.pc (file_row op f true)) s
        ≡ (let t = state_stored y (res op s.w s.c xv) (U ((s.pc + (if skp op xv then 2 else 1)) % 8192)) in record t { z = fz (flg op s.w xv) (res op s.w s.c xv) t.z; dc = fd (flg op s.w xv) t.dc; c = fc (flg op s.w xv) t.c })
    f_state op =
        let n = (s.pc + (if skp op xv then 2 else 1)) % 8192 in
        let v = res op s.w s.c xv in
        file_done o.input s f pl leads op true
        ∙ ap (λ (u : State). flagged (flg op s.w xv) v (stored (keeps_flags (flg op s.w xv)) pl v u)) (reading (record s { pc = n }) y)
        ∙ ap (flagged (flg op s.w xv) v) (storing (U n) (keeps_flags (flg op s.w xv)) y v)
        ∙ with_flags (flg op s.w xv) v (state_stored y v (U n))

    f_events : (op : FileOperation) → events_of l.objects (accesses (row o.input s.pc (file_row op f true)) s) ≡ event_at false xv (cell_for y) ++ event_at true (value_in s (result_of (operation_of op) X)) (cell_for y)
    f_events op = ap (events_of l.objects) (file_notes o.input s f pl leads op true) ∙ shown_both (result_of (operation_of op) X)

    c_state : (change : ℕ → ℕ) → perform (bit_row o.input s.pc f change) s ≡ state_stored y (change xv) (U ((s.pc + 1) % 8192))
    c_state change =
        change_done o.input s f pl leads change ∙ ap (λ (u : State). stored true pl (change xv) u) (reading (record s { pc = (s.pc + 1) % 8192 }) y) ∙ storing (U ((s.pc + 1) % 8192)) true y (change xv)

    c_events : (change : ℕ → ℕ) → events_of l.objects (accesses (bit_row o.input s.pc f change) s) ≡ event_at false xv (cell_for y) ++ event_at true (change xv) (cell_for y)
    c_events change = ap (events_of l.objects) (change_notes o.input s f pl leads change) ∙ shown_both (of change X)

    t_state : (b v : ℕ) → perform (test_row o.input s.pc f b v) s ≡ U ((s.pc + (if nat_eq (bit xv b) v then 2 else 1)) % 8192)
    t_state b v = test_done o.input s f pl leads b v ∙ reading (record s { pc = (s.pc + (if nat_eq (bit xv b) v then 2 else 1)) % 8192 }) y

    t_events : (b v : ℕ) → events_of l.objects (accesses (test_row o.input s.pc f b v) s) ≡ event_at false xv (cell_for y)
    t_events b v = ap (events_of l.objects) (tested o.input s f pl leads b v) ∙ shown false X

    m_state : perform (row o.input s.pc (isa.Movwf f)) s ≡ state_stored y s.w (record s { pc = (s.pc + 1) % 8192 })
    m_state = movwf_done o.input s f pl leads ∙ storing (record s { pc = (s.pc + 1) % 8192 }) true y s.w

    m_events : events_of l.objects (accesses (row o.input s.pc (isa.Movwf f)) s) ≡ event_at true s.w (cell_for y)
    m_events = ap (events_of l.objects) (movwf_notes o.input s f pl leads) ∙ shown true (part AtW)

    z_state : perform (row o.input s.pc (isa.Clrf f)) s ≡ record (state_stored y 0 (record s { pc = (s.pc + 1) % 8192 })) { z = 1 }
    z_state = clrf_done o.input s f pl leads ∙ ap (flagged OnlyZ 0) (storing (record s { pc = (s.pc + 1) % 8192 }) false y 0)

    z_events : events_of l.objects (accesses (row o.input s.pc (isa.Clrf f)) s) ≡ event_at true 0 (cell_for y)
    z_events = ap (events_of l.objects) (clrf_notes o.input s f pl leads) ∙ shown true (number 0)

  -- ---- the forms
  abbrev Row : Ins → Effect → Type 0
  Row n y = By (perform (row o.input s.pc n) s) (events_of l.objects (accesses (row o.input s.pc n) s)) y

  moved : (n : Ins) (t' : State) (ev' : List Shown) (y : Effect) → perform (row o.input s.pc n) s ≡ t' → events_of l.objects (accesses (row o.input s.pc n) s) ≡ ev' → By t' ev' y → Row n y
  moved n t' ev' y a b k = moved_to g h o m below s (perform (row o.input s.pc n) s) t' w (events_of l.objects (accesses (row o.input s.pc n) s)) ev' y a b k

  quiet_by : (t : State) (p' : Position) (r' : Registers) (x : Option Write) → (lands q p' ≡ true → t.pc ≡ h.place p') → Sees t r' → t.pclath % 8 ≡ s.pclath % 8 → t.stack ≡ s.stack → t.pushes ≡ s.pushes → t.pops ≡ s.pops → t.ram ≡ put_in x s.ram
      → control_of t ≡ control_of s → t.taken ≡ s.taken → By t [] (Quiet (goes th p' r') x)
  quiet_by = silent g h o image placed th p m below s w here is none at same taken

  on_by : (b c : Bool) → b ≡ c → lands q (onward q p c) ≡ true → (s.pc + (if b then 2 else 1)) % 8192 ≡ h.place (onward q p c)
  on_by = on_pc g h o image placed th p m below s w here is none at same taken

  next_by : lands q (behind q p) ≡ true → (s.pc + 1) % 8192 ≡ h.place (behind q p)
  next_by = next_pc g h o image placed th p m below s w here is none at same taken

  read_by_event : (b : Loud) (n xv w' z' d' c' : ℕ) (p' : Position) (r' : Registers) → xv ≡ value_by o m w b → (lands q p' ≡ true → n ≡ h.place p') → Sees (record s { w = w'; z = z'; dc = d'; c = c' }) r'
      → LockedRead g h o m below s (record s { pc = n; taken = taken_after (Event b) s.taken; w = w'; z = z'; dc = d'; c = c' }) w (event_at false xv (cell_for (Event b))) b (goes th p' r') th.rest
  read_by_event = read_event g h o image placed th p m below s w here is none at same taken

  modify_by : (b : Loud) (n xv v vh z' d' c' : ℕ) (p' : Position) (r' : Registers) → xv ≡ value_by o m w b → v ≡ vh → (lands q p' ≡ true → n ≡ h.place p') → Sees (record s { z = z'; dc = d'; c = c' }) r'
      → LockedRead g h o m below s (record (state_stored (Event b) v (record s { pc = n; taken = taken_after (Event b) s.taken })) { z = z'; dc = d'; c = c' }) w
      (event_at false xv (cell_for (Event b)) ++ event_at true v (cell_for (Event b))) b (record (goes th p' r') { rest = Some (record { to = b; byte = vh }) }) (Some (record { to = b; byte = vh }))
  modify_by = modify_event g h o image placed th p m below s w here is none at same taken

  pub w_locked : (op : FileOperation) (x : Operand) (y : Access) → access_of g i false r x ≡ y → IsAccess l i false y → Row (file_row op (low_of l x) false) (file_to_w q p th m op y)
  w_locked op x Denied e a = tt
  w_locked op x Pointer e a =
      let xh = r.fsr in
      let ex = xe false x Pointer e refl a in
      let v = xv false x Pointer e refl a in
      let sw = sees_w op v xh ex in
      moved (file_row op (low_of l x) false) _ [] (file_to_w q p th m op Pointer) (w_state false x Pointer e refl a op) (w_events false x Pointer e refl a op)
      (quiet_by _ (onward q p (skips_with r op xh)) _ None (on_by (skp op v) (skips_with r op xh) (s_eq op v xh ex))
      (record { w = sw.w; z = sw.z; dc = sw.dc; c = sw.c; fsr = sw.fsr; bank = sw.bank; page = sw.page; banks = sw.banks; pages = sw.pages }) refl refl refl refl refl refl refl)
  w_locked op x (Silent k) e a =
      let xh = m k in
      let ex = xe false x (Silent k) e refl a in
      let v = xv false x (Silent k) e refl a in
      let sw = sees_w op v xh ex in
      moved (file_row op (low_of l x) false) _ [] (file_to_w q p th m op (Silent k)) (w_state false x (Silent k) e refl a op) (w_events false x (Silent k) e refl a op)
      (quiet_by _ (onward q p (skips_with r op xh)) _ None (on_by (skp op v) (skips_with r op xh) (s_eq op v xh ex))
      (record { w = sw.w; z = sw.z; dc = sw.dc; c = sw.c; fsr = sw.fsr; bank = sw.bank; page = sw.page; banks = sw.banks; pages = sw.pages }) refl refl refl refl refl refl refl)
  w_locked op x (Event b) e a =
      let xh = value_by o m w b in
      let ex = xe false x (Event b) e refl a in
      let v = xv false x (Event b) e refl a in
      moved (file_row op (low_of l x) false) _ (event_at false v (cell_for (Event b))) (file_to_w q p th m op (Event b)) (w_state false x (Event b) e refl a op) (w_events false x (Event b) e refl a op)
      (read_by_event b _ v _ _ _ _ (onward q p (skips_with r op xh)) (record (flags_with r op xh) { w = result_with r op xh }) ex (on_by (skp op v) (skips_with r op xh) (s_eq op v xh ex)) (sees_w op v xh ex))

  value_is : (op : FileOperation) (v : Derived) → value_in s (result_of (operation_of op) v) ≡ res op s.w s.c (value_in s v)
  value_is op v = result_is s v op

  pub f_locked : (op : FileOperation) (x : Operand) (y : Access) → access_of g i true r x ≡ y → IsAccess l i true y → Row (file_row op (low_of l x) true) (file_to_file q p th m op y)
  f_locked op x Denied e a = tt
  f_locked op x Pointer e a =
      let xh = r.fsr in
      let ex = xe true x Pointer e refl a in
      let v = xv true x Pointer e refl a in
      let sw = sees_p op v xh ex in
      moved (file_row op (low_of l x) true) _ [] (file_to_file q p th m op Pointer) (f_state true x Pointer e refl a op) (f_events true x Pointer e refl a op)
      (quiet_by _ (onward q p (skips_with r op xh)) _ None (on_by (skp op v) (skips_with r op xh) (s_eq op v xh ex))
      (record { w = sw.w; z = sw.z; dc = sw.dc; c = sw.c; fsr = sw.fsr; bank = sw.bank; page = sw.page; banks = sw.banks; pages = sw.pages }) refl refl refl refl refl refl refl)
  f_locked op x (Silent k) e a =
      let xh = m k in
      let ex = xe true x (Silent k) e refl a in
      let v = xv true x (Silent k) e refl a in
      let sw = sees_f op v xh ex in
      moved (file_row op (low_of l x) true) _ [] (file_to_file q p th m op (Silent k)) (f_state true x (Silent k) e refl a op) (f_events true x (Silent k) e refl a op)
      (quiet_by _ (onward q p (skips_with r op xh)) _ (write k (result_with r op xh)) (on_by (skp op v) (skips_with r op xh) (s_eq op v xh ex))
      (record { w = sw.w; z = sw.z; dc = sw.dc; c = sw.c; fsr = sw.fsr; bank = sw.bank; page = sw.page; banks = sw.banks; pages = sw.pages }) refl refl refl refl (ap (slice_set s.ram k) (v_eq op v xh ex)) refl refl)
  f_locked op x (Event b) e a =
      let xh = value_by o m w b in
      let ex = xe true x (Event b) e refl a in
      let v = xv true x (Event b) e refl a in
      moved (file_row op (low_of l x) true) _ (event_at false v (cell_for (Event b)) ++ event_at true (res op s.w s.c v) (cell_for (Event b))) (file_to_file q p th m op (Event b))
      (f_state true x (Event b) e refl a op ∙ stored_fields b (res op s.w s.c v) (flg op s.w v) _)
      (f_events true x (Event b) e refl a op ∙ ap (λ z. event_at false v (cell_for (Event b)) ++ event_at true z (cell_for (Event b))) (value_is op (X true x (Event b) e refl a)))
      (modify_by b _ v (res op s.w s.c v) (result_with r op xh) _ _ _ (onward q p (skips_with r op xh)) (flags_with r op xh) ex (v_eq op v xh ex) (on_by (skp op v) (skips_with r op xh) (s_eq op v xh ex)) (sees_f op v xh ex)) where
        -- a device register or a watched byte that is written leaves the flags
        stored_fields : (b : Loud) (v : ℕ) (fl : Flags) (t : State) → (let u = state_stored (Event b) v t in record u { z = fz fl v u.z; dc = fd fl u.dc; c = fc fl u.c }) ≡ record (state_stored (Event b) v t) { z = fz fl v t.z; dc = fd fl t.dc; c = fc fl t.c }
        stored_fields (Port a) v fl t = refl
        stored_fields (Shared k cell) v fl t = refl

  pub change_locked : (change' : ℕ → ℕ) (n : Ins) (x : Operand) (y : Access) → row o.input s.pc n ≡ bit_row o.input s.pc (low_of l x) change' → access_of g i true r x ≡ y → IsAccess l i true y → Row n (change q p th m change' y)
  change_locked ch n x Denied is' e a = tt
  change_locked ch n x Pointer is' e a =
      let ex = xe true x Pointer e refl a in
      let v = xv true x Pointer e refl a in
      moved n _ [] (change q p th m ch Pointer) (ap (λ z. perform z s) is' ∙ c_state true x Pointer e refl a ch) (ap (λ z. events_of l.objects (accesses z s)) is' ∙ c_events true x Pointer e refl a ch)
      (quiet_by _ (behind q p) _ None next_by
      (record { w = at.sees.w; z = at.sees.z; dc = at.sees.dc; c = at.sees.c; fsr = ap ch ex; bank = at.sees.bank; page = at.sees.page; banks = at.sees.banks; pages = at.sees.pages }) refl refl refl refl refl refl refl)
  change_locked ch n x (Silent k) is' e a =
      let ex = xe true x (Silent k) e refl a in
      let v = xv true x (Silent k) e refl a in
      moved n _ [] (change q p th m ch (Silent k)) (ap (λ z. perform z s) is' ∙ c_state true x (Silent k) e refl a ch) (ap (λ z. events_of l.objects (accesses z s)) is' ∙ c_events true x (Silent k) e refl a ch)
      (quiet_by _ (behind q p) _ (write k (ch (m k))) next_by
      (record { w = at.sees.w; z = at.sees.z; dc = at.sees.dc; c = at.sees.c; fsr = at.sees.fsr; bank = at.sees.bank; page = at.sees.page; banks = at.sees.banks; pages = at.sees.pages }) refl refl refl refl (ap (λ z. slice_set s.ram k (ch z)) ex) refl refl)
  change_locked ch n x (Event b) is' e a =
      let xh = value_by o m w b in
      let ex = xe true x (Event b) e refl a in
      let v = xv true x (Event b) e refl a in
      moved n _ (event_at false v (cell_for (Event b)) ++ event_at true (ch v) (cell_for (Event b))) (change q p th m ch (Event b))
      (ap (λ z. perform z s) is' ∙ c_state true x (Event b) e refl a ch ∙ kept_fields b (ch v) _) (ap (λ z. events_of l.objects (accesses z s)) is' ∙ c_events true x (Event b) e refl a ch)
      (modify_by b _ v (ch v) (ch xh) s.z s.dc s.c (behind q p) r ex (ap ch ex) next_by
      (record { w = at.sees.w; z = at.sees.z; dc = at.sees.dc; c = at.sees.c; fsr = at.sees.fsr; bank = at.sees.bank; page = at.sees.page; banks = at.sees.banks; pages = at.sees.pages })) where
        kept_fields : (b : Loud) (v : ℕ) (t : State) → state_stored (Event b) v t ≡ record (state_stored (Event b) v t) { z = t.z; dc = t.dc; c = t.c }
        kept_fields (Port a) v t = refl
        kept_fields (Shared k cell) v t = refl

  pub test_locked : (b v : ℕ) (n : Ins) (x : Operand) (y : Access) → row o.input s.pc n ≡ test_row o.input s.pc (low_of l x) b v → access_of g i false r x ≡ y → IsAccess l i false y → Row n (test q p th m (λ z. nat_eq (bit z b) v) y)
  test_locked b v n x Denied is' e a = tt
  test_locked b v n x Pointer is' e a =
      let ex = xe false x Pointer e refl a in
      moved n _ [] (test q p th m (λ z. nat_eq (bit z b) v) Pointer) (ap (λ z. perform z s) is' ∙ t_state false x Pointer e refl a b v) (ap (λ z. events_of l.objects (accesses z s)) is' ∙ t_events false x Pointer e refl a b v)
      (quiet_by _ (onward q p (nat_eq (bit r.fsr b) v)) _ None (on_by _ (nat_eq (bit r.fsr b) v) (ap (λ z. nat_eq (bit z b) v) ex))
      (record { w = at.sees.w; z = at.sees.z; dc = at.sees.dc; c = at.sees.c; fsr = at.sees.fsr; bank = at.sees.bank; page = at.sees.page; banks = at.sees.banks; pages = at.sees.pages }) refl refl refl refl refl refl refl)
  test_locked b v n x (Silent k) is' e a =
      let ex = xe false x (Silent k) e refl a in
      moved n _ [] (test q p th m (λ z. nat_eq (bit z b) v) (Silent k)) (ap (λ z. perform z s) is' ∙ t_state false x (Silent k) e refl a b v) (ap (λ z. events_of l.objects (accesses z s)) is' ∙ t_events false x (Silent k) e refl a b v)
      (quiet_by _ (onward q p (nat_eq (bit (m k) b) v)) _ None (on_by _ (nat_eq (bit (m k) b) v) (ap (λ z. nat_eq (bit z b) v) ex))
      (record { w = at.sees.w; z = at.sees.z; dc = at.sees.dc; c = at.sees.c; fsr = at.sees.fsr; bank = at.sees.bank; page = at.sees.page; banks = at.sees.banks; pages = at.sees.pages }) refl refl refl refl refl refl refl)
  test_locked b v n x (Event c) is' e a =
      let xh = value_by o m w c in
      let ex = xe false x (Event c) e refl a in
      let y' = xv false x (Event c) e refl a in
      moved n _ (event_at false y' (cell_for (Event c))) (test q p th m (λ z. nat_eq (bit z b) v) (Event c)) (ap (λ z. perform z s) is' ∙ t_state false x (Event c) e refl a b v) (ap (λ z. events_of l.objects (accesses z s)) is' ∙ t_events false x (Event c) e refl a b v)
      (read_by_event c _ y' s.w s.z s.dc s.c (onward q p (nat_eq (bit xh b) v)) r ex (on_by _ (nat_eq (bit xh b) v) (ap (λ z. nat_eq (bit z b) v) ex))
      (record { w = at.sees.w; z = at.sees.z; dc = at.sees.dc; c = at.sees.c; fsr = at.sees.fsr; bank = at.sees.bank; page = at.sees.page; banks = at.sees.banks; pages = at.sees.pages }))

  -- MOVWF and CLRF: the flag Z behind it, and the registers
  pub store_locked : (n : Ins) (v vh zz : ℕ) (r' : Registers) (x : Operand) (y : Access) → access_of g i true r x ≡ y → IsAccess l i true y → v ≡ vh → Sees (record s { z = zz }) r'
      → ((al : is_allowed y ≡ true) → perform (row o.input s.pc n) s ≡ record (state_stored y v (record s { pc = (s.pc + 1) % 8192 })) { z = zz })
      → ((al : is_allowed y ≡ true) → events_of l.objects (accesses (row o.input s.pc n) s) ≡ event_at true v (cell_for y))
      → Row n (store q p th r' vh y)
  store_locked n v vh zz r' x Denied e a ev y ps es = tt
  store_locked n v vh zz r' x Pointer e a ev y ps es =
      moved n _ [] (store q p th r' vh Pointer) (ps refl) (es refl)
      (quiet_by _ (behind q p) _ None next_by (record { w = y.w; z = y.z; dc = y.dc; c = y.c; fsr = ev; bank = y.bank; page = y.page; banks = y.banks; pages = y.pages }) refl refl refl refl refl refl refl)
  store_locked n v vh zz r' x (Silent k) e a ev y ps es =
      moved n _ [] (store q p th r' vh (Silent k)) (ps refl) (es refl)
      (quiet_by _ (behind q p) _ (write k vh) next_by (record { w = y.w; z = y.z; dc = y.dc; c = y.c; fsr = y.fsr; bank = y.bank; page = y.page; banks = y.banks; pages = y.pages }) refl refl refl refl (ap (slice_set s.ram k) ev) refl refl)
  store_locked n v vh zz r' x (Event b) e a ev y ps es =
      moved n _ (event_at true v (cell_for (Event b))) (store q p th r' vh (Event b)) (ps refl ∙ kept_fields b v zz _) (es refl)
      (write_event g h o image placed th p m below s w here is none at same taken b ((s.pc + 1) % 8192) v vh zz s.dc s.c (behind q p) r' ev next_by
      (record { w = y.w; z = y.z; dc = y.dc; c = y.c; fsr = y.fsr; bank = y.bank; page = y.page; banks = y.banks; pages = y.pages })) where
        kept_fields : (b : Loud) (v z : ℕ) (t : State) → record (state_stored (Event b) v t) { z = z } ≡ record (state_stored (Event b) v t) { z = z; dc = t.dc; c = t.c }
        kept_fields (Port a) v z t = refl
        kept_fields (Shared k cell) v z t = refl

  pub movwf_locked : (x : Operand) → Row (isa.Movwf (low_of l x)) (store q p th r r.w (access_of g i true r x))
  movwf_locked x =
      let y = access_of g i true r x in
      store_locked (isa.Movwf (low_of l x)) s.w r.w s.z r x y refl (access_sound g i true r x) at.sees.w
      (record { w = at.sees.w; z = at.sees.z; dc = at.sees.dc; c = at.sees.c; fsr = at.sees.fsr; bank = at.sees.bank; page = at.sees.page; banks = at.sees.banks; pages = at.sees.pages })
      (λ al. m_state true x y refl al (access_sound g i true r x) ∙ kept y s.w (record s { pc = (s.pc + 1) % 8192 })) (λ al. m_events true x y refl al (access_sound g i true r x)) where
        kept : (y : Access) (v : ℕ) (t : State) → state_stored y v t ≡ record (state_stored y v t) { z = t.z }
        kept Pointer v t = refl
        kept (Event (Port a)) v t = refl
        kept (Event (Shared k cell)) v t = refl
        kept (Silent k) v t = refl
        kept Denied v t = refl

  pub clrf_locked : (x : Operand) → Row (isa.Clrf (low_of l x)) (store q p th (record r { z = 1 }) 0 (access_of g i true r x))
  clrf_locked x =
      let y = access_of g i true r x in
      store_locked (isa.Clrf (low_of l x)) 0 0 1 (record r { z = 1 }) x y refl (access_sound g i true r x) refl
      (record { w = at.sees.w; z = refl; dc = at.sees.dc; c = at.sees.c; fsr = at.sees.fsr; bank = at.sees.bank; page = at.sees.page; banks = at.sees.banks; pages = at.sees.pages })
      (λ al. z_state true x y refl al (access_sound g i true r x)) (λ al. z_events true x y refl al (access_sound g i true r x))
