-- One instruction of the chip is one effect of symbolic code.
use Rattle.std.proofs.Common.{◌≡◌, ℕ, ◌+◌, ◌*◌, ◌/◌, ◌%◌, ◌<◌, ◌≤◌, Bool, true, false, List, [], ◌∷◌, ◌++◌, length, Option, Some, None, refl, sym, ap, ◌∙◌, subst, arith, append-nil, inr}
use Rattle.std.specs.Prelude.{if◌then◌else◌, not, ◌&&◌, ◌||◌, slice_index, nat_eq, nat_lt, nat_le, bit_and, bit_or, bit_xor}
use Rattle.std.proofs.lemmas.Bool.{eqb-true, eqb-false, ltb-true}
use Rattle.pic_isa.specs.declared.Ins.{Ins}
use Rattle.pic_isa.specs.declared.Ins.TheVariants as isa
use Rattle.pic_chip.specs.Act.{perform, accesses}
use Rattle.pic_chip.specs.Address.{Status, Pclath}
use Rattle.pic_chip.specs.Changes.{pushed, popped}
use Rattle.pic_chip.specs.Instructions.{row, bit_row, test_row, sum, difference}
use Rattle.pic_chip.specs.Interrupts.{control_of}
use Rattle.pic_chip.specs.Run.{event_at, events_of, cell_at, object_at}
use Rattle.pic_chip.specs.State.{State}
use Rattle.pic_chip.proofs.Done.{call_done, pop_done}
use Rattle.pic_world.specs.Bits.{bit, set_bit, clear_bit, truth}
use Rattle.pic_world.specs.World.{World, Outside}
use Rattle.pic_world.specs.Registers.{is_register}
use Rattle.pic_world.specs.declared.Cell.{Cell}
use Rattle.pic_world.specs.declared.Cell.TheVariants as cells
use Rattle.pic_world.specs.declared.Event.{Event as Shown}
use Rattle.code_place.specs.Instructions.{bit_set, bank_row, literal_row as chip_literal, plain_row, bit_row as chip_bit}
use Rattle.sym_code.specs.Effect.{Setting, Thread, Memory, Write, access_of, Effect, Stuck, Quiet, goes, quiet, put_flag, test_flag, flag, bits, file_bit, is_in_page, jump_to, halt, restore, goto, call, back, literal_value, literal, plain, is_far, select, page_bit, effect_of}
use Rattle.sym_code.specs.Layout.{all_near, DataLayout, Watched, owner, IsLaidOut}
use Rattle.sym_code.specs.Programs.{Program, Position, block_of, is_word, lands, behind, onward, place_of}
use Rattle.sym_code.specs.Registers.{Registers, bank, page, with_bank_bit, with_page_bit, after_row, literal_row, status_bit, with_status_bit}
use Rattle.sym_code.specs.declared.code.BankBit.{BankBit}
use Rattle.sym_code.specs.declared.code.BankBit.TheVariants.{Rp0, Rp1, Irp}
use Rattle.sym_code.specs.declared.code.BitOperation.{BitOperation}
use Rattle.sym_code.specs.declared.code.BitOperation.TheVariants.{Bcf, Bsf, Btfsc, Btfss}
use Rattle.sym_code.specs.declared.code.Into.TheVariants as into
use Rattle.sym_code.specs.declared.code.Label.TheVariants.{Inner, Halt, Restore}
use Rattle.sym_code.specs.declared.code.LiteralOperation.{LiteralOperation}
use Rattle.sym_code.specs.declared.code.LiteralOperation.TheVariants.{Addlw, Andlw, Iorlw, Movlw, Retlw, Sublw, Xorlw}
use Rattle.sym_code.specs.declared.code.Operand.{Operand}
use Rattle.sym_code.specs.declared.code.Operand.TheVariants as operands
use Rattle.sym_code.specs.declared.code.PageBit.{PageBit}
use Rattle.sym_code.specs.declared.code.PageBit.TheVariants.{Low, High}
use Rattle.sym_code.specs.declared.code.PlainOperation.{PlainOperation}
use Rattle.sym_code.specs.declared.code.PlainOperation.TheVariants.{Clrw, Nop, Retfie, Return}
use Rattle.sym_code.specs.declared.code.Register.TheVariants as registers
use Rattle.sym_code.specs.declared.code.Sym.{Sym}
use Rattle.sym_code.specs.declared.code.Sym.TheVariants as syms
use Rattle.sym_code.specs.declared.code.Target.{Target}
use Rattle.sym_code.specs.declared.code.Target.TheVariants as targets
use Rattle.chip_trace.proofs.Addresses.{clear_cell}
use Rattle.chip_trace.proofs.Effects.{access_sound, reads_silently}
use Rattle.chip_trace.proofs.FileLock as files
use Rattle.chip_trace.proofs.Locked.{LockedBy, moved_to, next_pc, on_pc, silent}
use Rattle.pic_chip.proofs.Ranges.{IsRanged}
use Rattle.chip_trace.proofs.Relations.{Sees, put_in, Ground, Reaches, Means, page_row, words, spot, IsAt, IsPlaced, low_of}
use Rattle.chip_trace.proofs.Rows.{change_done, change_notes, test_done, tested}
use Rattle.pic_chip.proofs.Stack.{IsOn, on_push, on_pop, after_pop}
use Rattle.chip_trace.proofs.StatusBits.{Parts, packed, unpack, set_0, clear_0, set_1, clear_1, set_2, clear_2, set_5, clear_5, set_6, clear_6, set_7, clear_7, low_set, low_clear, high_set, high_clear}

module _ (reaches : ℕ → ℕ → Bool) (g : Setting) (h : Ground) (o : Outside) (image : List ℕ) (placed : IsPlaced g h image) (banked : g.banked ≡ true) (laid : IsLaidOut reaches g.program.layout)
    (i : Bool) (th : Thread) (p : Position) (m : Memory) (below : List ℕ) (s : State) (w : World ℕ)
    (here : lands g.program p ≡ true) (is : th.at ≡ Some p) (none : th.rest ≡ None) (at : IsAt g h th below s)
    (same : control_of s ≡ w.control) (taken : s.taken ≡ w.taken)
    (own : (k : ℕ) → reads_silently i (owner g.program.layout k) ≡ true → slice_index s.ram k ≡ m k)
    (static : (k : ℕ) (cell : Cell) → owner g.program.layout k ≡ Watched cell → slice_index s.ram k ≡ m k)
    (x : IsRanged s) (deep : length (words g h th.stack below) ≤ 8) (room : length th.stack < g.limit i → length (words g h th.stack below) ≤ 7) where
  abbrev q : Program
  q = g.program

  abbrev l : DataLayout
  l = g.program.layout

  abbrev r : Registers
  r = th.registers

  abbrev By : State → List Shown → Effect → Type 0
  By t ev y = LockedBy g h o m below s t w ev y

  abbrev pub Row : Ins → Effect → Type 0
  Row n y = By (perform (row o.input s.pc n) s) (events_of l.objects (accesses (row o.input s.pc n) s)) y

  moved : (n : Ins) (t' : State) (ev' : List Shown) (y : Effect) → perform (row o.input s.pc n) s ≡ t' → events_of l.objects (accesses (row o.input s.pc n) s) ≡ ev' → By t' ev' y → Row n y
  moved n t' ev' y a b k = moved_to g h o m below s (perform (row o.input s.pc n) s) t' w (events_of l.objects (accesses (row o.input s.pc n) s)) ev' y a b k

  quiet_by : (t : State) (p' : Position) (r' : Registers) (x : Option Write) → (lands q p' ≡ true → t.pc ≡ h.place p') → Sees t r' → t.pclath % 8 ≡ s.pclath % 8 → t.stack ≡ s.stack → t.pushes ≡ s.pushes → t.pops ≡ s.pops → t.ram ≡ put_in x s.ram
      → control_of t ≡ control_of s → t.taken ≡ s.taken → By t [] (Quiet (goes th p' r') x)
  quiet_by = silent g h o image placed th p m below s w here is none at same taken

  on_by : (b c : Bool) → b ≡ c → lands q (onward q p c) ≡ true → (s.pc + (if b then 2 else 1)) % 8192 ≡ h.place (onward q p c)
  on_by = on_pc g h o image placed th p m below s w here is none at same taken

  next_by : lands q (behind q p) ≡ true → (s.pc + 1) % 8192 ≡ h.place (behind q p)
  next_by = next_pc g h o image placed th p m below s w here is none at same taken

  -- ---- STATUS
  abbrev S : ℕ
  S = packed s.bank s.z s.dc s.c

  -- a bit of STATUS that is changed
  status_row : (n : Ins) (change' : ℕ → ℕ) (bank' z' dc' c' : ℕ) (r' : Registers) → row o.input s.pc n ≡ bit_row o.input s.pc 3 change' → events_of l.objects (accesses (bit_row o.input s.pc 3 change') s) ≡ []
      → Parts (change' S) bank' z' dc' c' → Sees (record s { bank = bank'; z = z'; dc = dc'; c = c' }) r' → Row n (quiet (goes th (behind q p) r'))
  status_row n ch bank' z' dc' c' r' e ev ps y =
      moved n (record s { pc = (s.pc + 1) % 8192; bank = bank'; z = z'; dc = dc'; c = c' }) [] (quiet (goes th (behind q p) r'))
      (ap (λ a. perform a s) e ∙ change_done o.input s 3 Status (λ next. refl) ch ∙ (λ j. record s { pc = (s.pc + 1) % 8192; bank = ps.bank j; z = ps.z j; dc = ps.dc j; c = ps.c j }))
      (ap (λ a. events_of l.objects (accesses a s)) e ∙ ev)
      (quiet_by (record s { pc = (s.pc + 1) % 8192; bank = bank'; z = z'; dc = dc'; c = c' }) (behind q p) r' None next_by
      (record { w = y.w; z = y.z; dc = y.dc; c = y.c; fsr = y.fsr; bank = y.bank; page = y.page; banks = y.banks; pages = y.pages }) refl refl refl refl refl refl refl)

  status_test : (n : Ins) (b v x' : ℕ) → row o.input s.pc n ≡ test_row o.input s.pc 3 b v → events_of l.objects (accesses (test_row o.input s.pc 3 b v) s) ≡ [] → bit S b ≡ x' → Row n (quiet (goes th (onward q p (nat_eq x' v)) r))
  status_test n b v x' e ev is' =
      moved n (record s { pc = (s.pc + (if nat_eq (bit S b) v then 2 else 1)) % 8192 }) [] (quiet (goes th (onward q p (nat_eq x' v)) r))
      (ap (λ a. perform a s) e ∙ test_done o.input s 3 Status (λ next. refl) b v) (ap (λ a. events_of l.objects (accesses a s)) e ∙ ev)
      (quiet_by (record s { pc = (s.pc + (if nat_eq (bit S b) v then 2 else 1)) % 8192 }) (onward q p (nat_eq x' v)) r None (on_by (nat_eq (bit S b) v) (nat_eq x' v) (ap (λ z. nat_eq z v) is'))
      (record { w = at.sees.w; z = at.sees.z; dc = at.sees.dc; c = at.sees.c; fsr = at.sees.fsr; bank = at.sees.bank; page = at.sees.page; banks = at.sees.banks; pages = at.sees.pages }) refl refl refl refl refl refl refl)

  -- core registers of the chip are no events
  core_cell : (a : ℕ) → a < 0x20 → is_register a ≡ false → cell_at l.objects a ≡ None
  core_cell a lt e = ap (λ b. if b then Some (cells.Device a) else object_at l.objects 0 a) e ∙ clear_cell reaches l a laid (inr (inr lt))

  no_event : (wr : Bool) (v a : ℕ) → cell_at l.objects a ≡ None → event_at wr v (cell_at l.objects a) ≡ []
  no_event true v a e = ap (event_at true v) e
  no_event false v a e = ap (event_at false v) e

  status_silent : (change' : ℕ → ℕ) → events_of l.objects (accesses (bit_row o.input s.pc 3 change') s) ≡ []
  status_silent ch =
      ap (events_of l.objects) (change_notes o.input s 3 Status (λ next. refl) ch)
      ∙ ap (λ z. z ++ (event_at true (ch S) (cell_at l.objects 3) ++ [])) (no_event false S 3 (core_cell 3 (omega arith) refl))
      ∙ ap (λ z. z ++ []) (no_event true (ch S) 3 (core_cell 3 (omega arith) refl))

  pclath_silent : (change' : ℕ → ℕ) → events_of l.objects (accesses (bit_row o.input s.pc 10 change') s) ≡ []
  pclath_silent ch =
      ap (events_of l.objects) (change_notes o.input s 10 Pclath (λ next. refl) ch)
      ∙ ap (λ z. z ++ (event_at true (ch s.pclath) (cell_at l.objects 10) ++ [])) (no_event false s.pclath 10 (core_cell 10 (omega arith) refl))
      ∙ ap (λ z. z ++ []) (no_event true (ch s.pclath) 10 (core_cell 10 (omega arith) refl))

  tests_silent : (b v : ℕ) → events_of l.objects (accesses (test_row o.input s.pc 3 b v) s) ≡ []
  tests_silent b v = ap (events_of l.objects) (tested o.input s 3 Status (λ next. refl) b v) ∙ ap (λ z. z ++ []) (no_event false S 3 (core_cell 3 (omega arith) refl))

  -- registers with other parts of STATUS
  with_parts : (bank' z' dc' c' : ℕ) (r' : Registers) → r'.w ≡ r.w → r'.fsr ≡ r.fsr → r'.page_low ≡ r.page_low → r'.page_high ≡ r.page_high → z' ≡ r'.z → dc' ≡ r'.dc → c' ≡ r'.c → bank' ≡ 4 * r'.irp + bank r'
      → (r'.rp0 < 2) × (r'.rp1 < 2) × (r'.irp < 2) → Sees (record s { bank = bank'; z = z'; dc = dc'; c = c' }) r'
  with_parts bank' z' dc' c' r' a b c d e f k t u = record {
    w = at.sees.w ∙ sym a;
    z = e;
    dc = f;
    c = k;
    fsr = at.sees.fsr ∙ sym b;
    bank = t;
    page = at.sees.page ∙ sym (ap (λ z. 2 * z + r'.page_low) d ∙ ap (λ z. 2 * r.page_high + z) c);
    banks = u;
    pages = (let y = at.sees.pages.0 in omega arith, let y = at.sees.pages.1 in omega arith);
  }

  abbrev bk : ℕ
  bk = s.bank

  set_case : (b : ℕ) (p0 p1 p2 p7 : Bool) → nat_eq b 0 ≡ p0 → nat_eq b 1 ≡ p1 → nat_eq b 2 ≡ p2 → nat_eq b 7 ≡ p7 → Row (isa.Bsf 3 b) (put_flag q p th (with_status_bit r b 1))
  set_case b true p1 p2 p7 e0 e1 e2 e7 = subst (λ k. Row (isa.Bsf 3 k) (put_flag q p th (with_status_bit r k 1))) (sym (eqb-true b 0 e0))
      (status_row (isa.Bsf 3 0) (set_bit 0) s.bank s.z s.dc 1 (record r { c = 1 }) refl (status_silent (set_bit 0)) (set_0 0 0 s.z s.dc s.c x.z x.dc x.c s.bank) (with_parts s.bank s.z s.dc 1 (record r { c = 1 }) refl refl refl refl at.sees.z at.sees.dc refl at.sees.bank at.sees.banks))
  set_case b false true p2 p7 e0 e1 e2 e7 = subst (λ k. Row (isa.Bsf 3 k) (put_flag q p th (with_status_bit r k 1))) (sym (eqb-true b 1 e1))
      (status_row (isa.Bsf 3 1) (set_bit 1) s.bank s.z 1 s.c (record r { dc = 1 }) refl (status_silent (set_bit 1)) (set_1 0 0 s.z s.dc s.c x.z x.dc x.c s.bank) (with_parts s.bank s.z 1 s.c (record r { dc = 1 }) refl refl refl refl at.sees.z refl at.sees.c at.sees.bank at.sees.banks))
  set_case b false false true p7 e0 e1 e2 e7 = subst (λ k. Row (isa.Bsf 3 k) (put_flag q p th (with_status_bit r k 1))) (sym (eqb-true b 2 e2))
      (status_row (isa.Bsf 3 2) (set_bit 2) s.bank 1 s.dc s.c (record r { z = 1 }) refl (status_silent (set_bit 2)) (set_2 0 0 s.z s.dc s.c x.z x.dc x.c s.bank) (with_parts s.bank 1 s.dc s.c (record r { z = 1 }) refl refl refl refl refl at.sees.dc at.sees.c at.sees.bank at.sees.banks))
  set_case b false false false true e0 e1 e2 e7 = subst (λ k. Row (isa.Bsf 3 k) (put_flag q p th (with_status_bit r k 1))) (sym (eqb-true b 7 e7))
      (status_row (isa.Bsf 3 7) (set_bit 7) (4 * 1 + bank r) s.z s.dc s.c (record r { irp = 1 }) refl (status_silent (set_bit 7)) (set_7 r.rp1 r.rp0 s.z s.dc s.c x.z x.dc x.c s.bank r.irp at.sees.banks.1 at.sees.banks.0 at.sees.banks.2 at.sees.bank)
      (with_parts (4 * 1 + bank r) s.z s.dc s.c (record r { irp = 1 }) refl refl refl refl at.sees.z at.sees.dc at.sees.c refl (at.sees.banks.0, at.sees.banks.1, omega arith)))
  set_case b false false false false e0 e1 e2 e7 =
      let none' : with_status_bit r b 1 ≡ None = rw (e0, e1, e2, e7) refl in
      subst (λ z. Row (isa.Bsf 3 b) (put_flag q p th z)) (sym none') tt

  clear_case : (b : ℕ) (p0 p1 p2 p7 : Bool) → nat_eq b 0 ≡ p0 → nat_eq b 1 ≡ p1 → nat_eq b 2 ≡ p2 → nat_eq b 7 ≡ p7 → Row (isa.Bcf 3 b) (put_flag q p th (with_status_bit r b 0))
  clear_case b true p1 p2 p7 e0 e1 e2 e7 = subst (λ k. Row (isa.Bcf 3 k) (put_flag q p th (with_status_bit r k 0))) (sym (eqb-true b 0 e0))
      (status_row (isa.Bcf 3 0) (clear_bit 0) s.bank s.z s.dc 0 (record r { c = 0 }) refl (status_silent (clear_bit 0)) (clear_0 0 0 s.z s.dc s.c x.z x.dc x.c s.bank) (with_parts s.bank s.z s.dc 0 (record r { c = 0 }) refl refl refl refl at.sees.z at.sees.dc refl at.sees.bank at.sees.banks))
  clear_case b false true p2 p7 e0 e1 e2 e7 = subst (λ k. Row (isa.Bcf 3 k) (put_flag q p th (with_status_bit r k 0))) (sym (eqb-true b 1 e1))
      (status_row (isa.Bcf 3 1) (clear_bit 1) s.bank s.z 0 s.c (record r { dc = 0 }) refl (status_silent (clear_bit 1)) (clear_1 0 0 s.z s.dc s.c x.z x.dc x.c s.bank) (with_parts s.bank s.z 0 s.c (record r { dc = 0 }) refl refl refl refl at.sees.z refl at.sees.c at.sees.bank at.sees.banks))
  clear_case b false false true p7 e0 e1 e2 e7 = subst (λ k. Row (isa.Bcf 3 k) (put_flag q p th (with_status_bit r k 0))) (sym (eqb-true b 2 e2))
      (status_row (isa.Bcf 3 2) (clear_bit 2) s.bank 0 s.dc s.c (record r { z = 0 }) refl (status_silent (clear_bit 2)) (clear_2 0 0 s.z s.dc s.c x.z x.dc x.c s.bank) (with_parts s.bank 0 s.dc s.c (record r { z = 0 }) refl refl refl refl refl at.sees.dc at.sees.c at.sees.bank at.sees.banks))
  clear_case b false false false true e0 e1 e2 e7 = subst (λ k. Row (isa.Bcf 3 k) (put_flag q p th (with_status_bit r k 0))) (sym (eqb-true b 7 e7))
      (status_row (isa.Bcf 3 7) (clear_bit 7) (4 * 0 + bank r) s.z s.dc s.c (record r { irp = 0 }) refl (status_silent (clear_bit 7)) (clear_7 r.rp1 r.rp0 s.z s.dc s.c x.z x.dc x.c s.bank r.irp at.sees.banks.1 at.sees.banks.0 at.sees.banks.2 at.sees.bank)
      (with_parts (4 * 0 + bank r) s.z s.dc s.c (record r { irp = 0 }) refl refl refl refl at.sees.z at.sees.dc at.sees.c refl (at.sees.banks.0, at.sees.banks.1, omega arith)))
  clear_case b false false false false e0 e1 e2 e7 =
      let none' : with_status_bit r b 0 ≡ None = rw (e0, e1, e2, e7) refl in
      subst (λ z. Row (isa.Bcf 3 b) (put_flag q p th z)) (sym none') tt

  abbrev parts : Parts S s.bank s.z s.dc s.c
  parts = unpack 0 0 s.z s.dc s.c x.z x.dc x.c s.bank

  irp_bit : bit S 7 ≡ r.irp
  irp_bit = let a = at.sees.bank in let b = at.sees.banks.0 in let c = at.sees.banks.1 in let d = at.sees.banks.2 in let e = x.z in let f = x.dc in let k = x.c in omega arith

  test_case : (n : ℕ → Ins) (b v : ℕ) (p0 p1 p2 p7 : Bool) → ((k : ℕ) → row o.input s.pc (n k) ≡ test_row o.input s.pc 3 k v) → nat_eq b 0 ≡ p0 → nat_eq b 1 ≡ p1 → nat_eq b 2 ≡ p2 → nat_eq b 7 ≡ p7 → Row (n b) (test_flag q p th v (status_bit r b))
  test_case n b v true p1 p2 p7 e e0 e1 e2 e7 = subst (λ k. Row (n k) (test_flag q p th v (status_bit r k))) (sym (eqb-true b 0 e0)) (status_test (n 0) 0 v r.c (e 0) (tests_silent 0 v) (parts.c ∙ at.sees.c))
  test_case n b v false true p2 p7 e e0 e1 e2 e7 = subst (λ k. Row (n k) (test_flag q p th v (status_bit r k))) (sym (eqb-true b 1 e1)) (status_test (n 1) 1 v r.dc (e 1) (tests_silent 1 v) (parts.dc ∙ at.sees.dc))
  test_case n b v false false true p7 e e0 e1 e2 e7 = subst (λ k. Row (n k) (test_flag q p th v (status_bit r k))) (sym (eqb-true b 2 e2)) (status_test (n 2) 2 v r.z (e 2) (tests_silent 2 v) (parts.z ∙ at.sees.z))
  test_case n b v false false false true e e0 e1 e2 e7 = subst (λ k. Row (n k) (test_flag q p th v (status_bit r k))) (sym (eqb-true b 7 e7)) (status_test (n 7) 7 v r.irp (e 7) (tests_silent 7 v) irp_bit)
  test_case n b v false false false false e e0 e1 e2 e7 =
      let none' : status_bit r b ≡ None = rw (e0, e1, e2, e7) refl in
      subst (λ z. Row (n b) (test_flag q p th v z)) (sym none') tt

  -- what is stuck asks nothing
  unless : (b : Bool) (n : Ins) (y : Effect) → Row n y → Row n (if b then Stuck else y)
  unless true n y h = tt
  unless false n y h = h

  flag_locked : (op : BitOperation) (b : ℕ) → Row (chip_bit op 3 b) (flag q p th op b)
  flag_locked Bcf b = clear_case b (nat_eq b 0) (nat_eq b 1) (nat_eq b 2) (nat_eq b 7) refl refl refl refl
  flag_locked Bsf b = unless (nat_eq b 7 && all_near q.layout) (isa.Bsf 3 b) (put_flag q p th (with_status_bit r b 1)) (set_case b (nat_eq b 0) (nat_eq b 1) (nat_eq b 2) (nat_eq b 7) refl refl refl refl)
  flag_locked Btfsc b = test_case (isa.Btfsc 3) b 0 (nat_eq b 0) (nat_eq b 1) (nat_eq b 2) (nat_eq b 7) (λ k. refl) refl refl refl refl
  flag_locked Btfss b = test_case (isa.Btfss 3) b 1 (nat_eq b 0) (nat_eq b 1) (nat_eq b 2) (nat_eq b 7) (λ k. refl) refl refl refl refl

  -- ---- selects
  bank_locked : (which : BankBit) (on : Bool) → Row (bank_row which on) (quiet (goes th (behind q p) (with_bank_bit r which (truth on))))
  bank_locked Rp0 true =
      status_row (isa.Bsf 3 5) (set_bit 5) (4 * r.irp + (2 * r.rp1 + 1)) s.z s.dc s.c (record r { rp0 = 1 }) refl (status_silent (set_bit 5)) (set_5 r.irp r.rp1 s.z s.dc s.c x.z x.dc x.c s.bank r.rp0 at.sees.banks.0 at.sees.bank)
      (with_parts (4 * r.irp + (2 * r.rp1 + 1)) s.z s.dc s.c (record r { rp0 = 1 }) refl refl refl refl at.sees.z at.sees.dc at.sees.c refl (omega arith, at.sees.banks.1, at.sees.banks.2))
  bank_locked Rp0 false =
      status_row (isa.Bcf 3 5) (clear_bit 5) (4 * r.irp + (2 * r.rp1 + 0)) s.z s.dc s.c (record r { rp0 = 0 }) refl (status_silent (clear_bit 5)) (clear_5 r.irp r.rp1 s.z s.dc s.c x.z x.dc x.c s.bank r.rp0 at.sees.banks.0 at.sees.bank)
      (with_parts (4 * r.irp + (2 * r.rp1 + 0)) s.z s.dc s.c (record r { rp0 = 0 }) refl refl refl refl at.sees.z at.sees.dc at.sees.c refl (omega arith, at.sees.banks.1, at.sees.banks.2))
  bank_locked Rp1 true =
      status_row (isa.Bsf 3 6) (set_bit 6) (4 * r.irp + (2 * 1 + r.rp0)) s.z s.dc s.c (record r { rp1 = 1 }) refl (status_silent (set_bit 6)) (set_6 r.irp r.rp0 s.z s.dc s.c x.z x.dc x.c s.bank r.rp1 at.sees.banks.0 at.sees.banks.1 at.sees.bank)
      (with_parts (4 * r.irp + (2 * 1 + r.rp0)) s.z s.dc s.c (record r { rp1 = 1 }) refl refl refl refl at.sees.z at.sees.dc at.sees.c refl (at.sees.banks.0, omega arith, at.sees.banks.2))
  bank_locked Rp1 false =
      status_row (isa.Bcf 3 6) (clear_bit 6) (4 * r.irp + (2 * 0 + r.rp0)) s.z s.dc s.c (record r { rp1 = 0 }) refl (status_silent (clear_bit 6)) (clear_6 r.irp r.rp0 s.z s.dc s.c x.z x.dc x.c s.bank r.rp1 at.sees.banks.0 at.sees.banks.1 at.sees.bank)
      (with_parts (4 * r.irp + (2 * 0 + r.rp0)) s.z s.dc s.c (record r { rp1 = 0 }) refl refl refl refl at.sees.z at.sees.dc at.sees.c refl (at.sees.banks.0, omega arith, at.sees.banks.2))
  bank_locked Irp true =
      status_row (isa.Bsf 3 7) (set_bit 7) (4 * 1 + bank r) s.z s.dc s.c (record r { irp = 1 }) refl (status_silent (set_bit 7)) (set_7 r.rp1 r.rp0 s.z s.dc s.c x.z x.dc x.c s.bank r.irp at.sees.banks.1 at.sees.banks.0 at.sees.banks.2 at.sees.bank)
      (with_parts (4 * 1 + bank r) s.z s.dc s.c (record r { irp = 1 }) refl refl refl refl at.sees.z at.sees.dc at.sees.c refl (at.sees.banks.0, at.sees.banks.1, omega arith))
  bank_locked Irp false =
      status_row (isa.Bcf 3 7) (clear_bit 7) (4 * 0 + bank r) s.z s.dc s.c (record r { irp = 0 }) refl (status_silent (clear_bit 7)) (clear_7 r.rp1 r.rp0 s.z s.dc s.c x.z x.dc x.c s.bank r.irp at.sees.banks.1 at.sees.banks.0 at.sees.banks.2 at.sees.bank)
      (with_parts (4 * 0 + bank r) s.z s.dc s.c (record r { irp = 0 }) refl refl refl refl at.sees.z at.sees.dc at.sees.c refl (at.sees.banks.0, at.sees.banks.1, omega arith))

  -- a bit of PCLATH that is changed
  page_changed : (n : Ins) (change' : ℕ → ℕ) (r' : Registers) → row o.input s.pc n ≡ bit_row o.input s.pc 10 change' → Sees (record s { pclath = change' s.pclath % 32 }) r' → change' s.pclath % 32 % 8 ≡ s.pclath % 8 → Row n (quiet (goes th (behind q p) r'))
  page_changed n ch r' e y low =
      moved n (record s { pc = (s.pc + 1) % 8192; pclath = ch s.pclath % 32 }) [] (quiet (goes th (behind q p) r'))
      (ap (λ a. perform a s) e ∙ change_done o.input s 10 Pclath (λ next. refl) ch) (ap (λ a. events_of l.objects (accesses a s)) e ∙ pclath_silent ch)
      (quiet_by (record s { pc = (s.pc + 1) % 8192; pclath = ch s.pclath % 32 }) (behind q p) r' None next_by
      (record { w = y.w; z = y.z; dc = y.dc; c = y.c; fsr = y.fsr; bank = y.bank; page = y.page; banks = y.banks; pages = y.pages }) low refl refl refl refl refl refl)

  with_page : (v : ℕ) (r' : Registers) → r'.w ≡ r.w → r'.z ≡ r.z → r'.dc ≡ r.dc → r'.c ≡ r.c → r'.fsr ≡ r.fsr → 4 * r'.irp + bank r' ≡ 4 * r.irp + bank r → (r'.rp0 < 2) × (r'.rp1 < 2) × (r'.irp < 2)
      → v / 8 ≡ page r' → (r'.page_low < 2) × (r'.page_high < 2) → Sees (record s { pclath = v }) r'
  with_page v r' a b c d e f u k t = record {
    w = at.sees.w ∙ sym a;
    z = at.sees.z ∙ sym b;
    dc = at.sees.dc ∙ sym c;
    c = at.sees.c ∙ sym d;
    fsr = at.sees.fsr ∙ sym e;
    bank = at.sees.bank ∙ sym f;
    page = k;
    banks = u;
    pages = t;
  }

  zero_of : (n : ℕ) → n < 2 → nat_eq n 1 ≡ false → 0 ≡ n
  zero_of n lt e = let ne = eqb-false n 1 e in omega (arith, ne, lt)

  low_case : (v : ℕ) (b : Bool) → v < 2 → nat_eq v 1 ≡ b → Row (bit_set 0x0a 3 b) (quiet (goes th (behind q p) (record r { page_low = v })))
  low_case v true lt e = subst (λ k. Row (isa.Bsf 10 3) (quiet (goes th (behind q p) (record r { page_low = k })))) (sym (eqb-true v 1 e))
      (page_changed (isa.Bsf 10 3) (set_bit 3) (record r { page_low = 1 }) refl (with_page (set_bit 3 s.pclath % 32) (record r { page_low = 1 }) refl refl refl refl refl refl at.sees.banks (low_set s.pclath r.page_high r.page_low x.pclath at.sees.pages.0 at.sees.page) (omega arith, at.sees.pages.1)) (let f = x.pclath in omega arith))
  low_case v false lt e = subst (λ k. Row (isa.Bcf 10 3) (quiet (goes th (behind q p) (record r { page_low = k })))) (zero_of v lt e)
      (page_changed (isa.Bcf 10 3) (clear_bit 3) (record r { page_low = 0 }) refl (with_page (clear_bit 3 s.pclath % 32) (record r { page_low = 0 }) refl refl refl refl refl refl at.sees.banks (low_clear s.pclath r.page_high r.page_low x.pclath at.sees.pages.0 at.sees.page) (omega arith, at.sees.pages.1)) (let f = x.pclath in omega arith))

  high_case : (v : ℕ) (b : Bool) → v < 2 → nat_eq v 1 ≡ b → Row (bit_set 0x0a 4 b) (quiet (goes th (behind q p) (record r { page_high = v })))
  high_case v true lt e = subst (λ k. Row (isa.Bsf 10 4) (quiet (goes th (behind q p) (record r { page_high = k })))) (sym (eqb-true v 1 e))
      (page_changed (isa.Bsf 10 4) (set_bit 4) (record r { page_high = 1 }) refl (with_page (set_bit 4 s.pclath % 32) (record r { page_high = 1 }) refl refl refl refl refl refl at.sees.banks (high_set s.pclath r.page_high r.page_low x.pclath at.sees.pages.0 at.sees.pages.1 at.sees.page) (at.sees.pages.0, omega arith)) (let f = x.pclath in omega arith))
  high_case v false lt e = subst (λ k. Row (isa.Bcf 10 4) (quiet (goes th (behind q p) (record r { page_high = k })))) (zero_of v lt e)
      (page_changed (isa.Bcf 10 4) (clear_bit 4) (record r { page_high = 0 }) refl (with_page (clear_bit 4 s.pclath % 32) (record r { page_high = 0 }) refl refl refl refl refl refl at.sees.banks (high_clear s.pclath r.page_high r.page_low x.pclath at.sees.pages.0 at.sees.pages.1 at.sees.page) (at.sees.pages.0, omega arith)) (let f = x.pclath in omega arith))

  page_locked : (which : PageBit) (pg : ℕ) → Row (page_row which pg) (quiet (goes th (behind q p) (with_page_bit r which (page_bit which pg))))
  page_locked Low pg = low_case (pg % 2) (nat_eq (pg % 2) 1) (omega arith) refl
  page_locked High pg = high_case (pg / 2 % 2) (nat_eq (pg / 2 % 2) 1) (omega arith) refl

  -- ---- the return stack
  back_locked : (t : State) (r' : Registers) → t.pc ≡ slice_index s.stack 0 → t.stack ≡ after_pop s.stack → t.pushes ≡ s.pushes → t.pops ≡ s.pops + 1 → Sees t r' → t.pclath % 8 ≡ s.pclath % 8 → t.ram ≡ s.ram → control_of t ≡ control_of s → t.taken ≡ s.taken
      → (st : List Position) → th.stack ≡ st → By t [] (back (record th { registers = r' }) st)
  back_locked t r' ep es eu eo y el em ec et [] e = tt
  back_locked t r' ep es eu eo y el em ec et (p' ∷ st) e = λ ok.
      let on : IsOn s.stack 0 (h.place p' % 8192 ∷ words g h st below) = subst (λ z. IsOn s.stack 0 (words g h z below)) e at.stack in
      let few : length (h.place p' % 8192 ∷ words g h st below) ≤ 8 = subst (λ z. length (words g h z below) ≤ 8) e deep in
      let dep : s.pushes ≡ s.pops + length (h.place p' % 8192 ∷ words g h st below) = subst (λ z. s.pushes ≡ s.pops + length (words g h z below)) e at.depth in
      let b = placed.below p' ok in
      record {
        at = record {
          pc = let z = on.0 in omega arith;
          sees = y;
          stack = subst (λ z. IsOn z 0 (words g h st below)) (sym es) (on_pop s.stack (h.place p' % 8192) (words g h st below) (omega arith) on);
          depth = omega arith;
        };
        low = el;
        ram = em;
        control = ec ∙ same;
        taken = et ∙ taken;
        trace = sym (append-nil _);
      }

  return_locked : Row isa.Return (back th th.stack)
  return_locked =
      moved isa.Return (popped s) [] (back th th.stack) (sym (pop_done s s.w s.intcon x.stack)) refl
      (back_locked (popped s) r refl refl refl refl (record { w = at.sees.w; z = at.sees.z; dc = at.sees.dc; c = at.sees.c; fsr = at.sees.fsr; bank = at.sees.bank; page = at.sees.page; banks = at.sees.banks; pages = at.sees.pages }) refl refl refl refl th.stack refl)

  -- ---- literals
  abbrev n1 : ℕ
  n1 = (s.pc + 1) % 8192

  literal_locked : (op : LiteralOperation) (k : ℕ) → Row (chip_literal op k) (literal q p th op (after_row (literal_row op k) r))
  unfolding after_row
  literal_locked Addlw k =
      moved (isa.Addlw k) (record s { pc = n1; w = sum s.w k; c = truth (nat_le 256 (k + s.w)); dc = truth (nat_le 16 (k % 16 + s.w % 16)); z = truth (nat_eq (sum s.w k) 0) }) [] (quiet (goes th (behind q p) (after_row (isa.Addlw k) r))) refl refl
      (quiet_by _ (behind q p) (after_row (isa.Addlw k) r) None next_by
      (record { w = ap (λ a. sum a k) at.sees.w; z = ap (λ a. truth (nat_eq (sum a k) 0)) at.sees.w; dc = ap (λ a. truth (nat_le 16 (k % 16 + a % 16))) at.sees.w; c = ap (λ a. truth (nat_le 256 (k + a))) at.sees.w; fsr = at.sees.fsr; bank = at.sees.bank; page = at.sees.page; banks = at.sees.banks; pages = at.sees.pages }) refl refl refl refl refl refl refl)
  literal_locked Andlw k =
      moved (isa.Andlw k) (record s { pc = n1; w = bit_and k s.w; z = truth (nat_eq (bit_and k s.w) 0) }) [] (quiet (goes th (behind q p) (after_row (isa.Andlw k) r))) refl refl
      (quiet_by _ (behind q p) (after_row (isa.Andlw k) r) None next_by
      (record { w = ap (bit_and k) at.sees.w; z = ap (λ a. truth (nat_eq (bit_and k a) 0)) at.sees.w; dc = at.sees.dc; c = at.sees.c; fsr = at.sees.fsr; bank = at.sees.bank; page = at.sees.page; banks = at.sees.banks; pages = at.sees.pages }) refl refl refl refl refl refl refl)
  literal_locked Iorlw k =
      moved (isa.Iorlw k) (record s { pc = n1; w = bit_or k s.w; z = truth (nat_eq (bit_or k s.w) 0) }) [] (quiet (goes th (behind q p) (after_row (isa.Iorlw k) r))) refl refl
      (quiet_by _ (behind q p) (after_row (isa.Iorlw k) r) None next_by
      (record { w = ap (bit_or k) at.sees.w; z = ap (λ a. truth (nat_eq (bit_or k a) 0)) at.sees.w; dc = at.sees.dc; c = at.sees.c; fsr = at.sees.fsr; bank = at.sees.bank; page = at.sees.page; banks = at.sees.banks; pages = at.sees.pages }) refl refl refl refl refl refl refl)
  literal_locked Xorlw k =
      moved (isa.Xorlw k) (record s { pc = n1; w = bit_xor k s.w; z = truth (nat_eq (bit_xor k s.w) 0) }) [] (quiet (goes th (behind q p) (after_row (isa.Xorlw k) r))) refl refl
      (quiet_by _ (behind q p) (after_row (isa.Xorlw k) r) None next_by
      (record { w = ap (bit_xor k) at.sees.w; z = ap (λ a. truth (nat_eq (bit_xor k a) 0)) at.sees.w; dc = at.sees.dc; c = at.sees.c; fsr = at.sees.fsr; bank = at.sees.bank; page = at.sees.page; banks = at.sees.banks; pages = at.sees.pages }) refl refl refl refl refl refl refl)
  literal_locked Movlw k =
      moved (isa.Movlw k) (record s { pc = n1; w = k }) [] (quiet (goes th (behind q p) (after_row (isa.Movlw k) r))) refl refl
      (quiet_by _ (behind q p) (after_row (isa.Movlw k) r) None next_by
      (record { w = refl; z = at.sees.z; dc = at.sees.dc; c = at.sees.c; fsr = at.sees.fsr; bank = at.sees.bank; page = at.sees.page; banks = at.sees.banks; pages = at.sees.pages }) refl refl refl refl refl refl refl)
  literal_locked Sublw k =
      moved (isa.Sublw k) (record s { pc = n1; w = difference s.w k; c = truth (nat_le s.w k); dc = truth (nat_le (s.w % 16) (k % 16)); z = truth (nat_eq (difference s.w k) 0) }) [] (quiet (goes th (behind q p) (after_row (isa.Sublw k) r))) refl refl
      (quiet_by _ (behind q p) (after_row (isa.Sublw k) r) None next_by
      (record { w = ap (λ a. difference a k) at.sees.w; z = ap (λ a. truth (nat_eq (difference a k) 0)) at.sees.w; dc = ap (λ a. truth (nat_le (a % 16) (k % 16))) at.sees.w; c = ap (λ a. truth (nat_le a k)) at.sees.w; fsr = at.sees.fsr; bank = at.sees.bank; page = at.sees.page; banks = at.sees.banks; pages = at.sees.pages }) refl refl refl refl refl refl refl)
  literal_locked Retlw k =
      moved (isa.Retlw k) (popped (record s { w = k })) [] (back (record th { registers = record r { w = k } }) th.stack) (sym (pop_done s k s.intcon x.stack)) refl
      (back_locked (popped (record s { w = k })) (record r { w = k }) refl refl refl refl (record { w = refl; z = at.sees.z; dc = at.sees.dc; c = at.sees.c; fsr = at.sees.fsr; bank = at.sees.bank; page = at.sees.page; banks = at.sees.banks; pages = at.sees.pages }) refl refl refl refl th.stack refl)

  plain_locked : (op : PlainOperation) → Row (plain_row op) (plain q p th op)
  unfolding after_row
  plain_locked Clrw =
      moved isa.Clrw (record s { pc = n1; w = 0; z = 1 }) [] (quiet (goes th (behind q p) (after_row isa.Clrw r))) refl refl
      (quiet_by _ (behind q p) (after_row isa.Clrw r) None next_by
      (record { w = refl; z = refl; dc = at.sees.dc; c = at.sees.c; fsr = at.sees.fsr; bank = at.sees.bank; page = at.sees.page; banks = at.sees.banks; pages = at.sees.pages }) refl refl refl refl refl refl refl)
  plain_locked Nop =
      moved isa.Nop (record s { pc = n1 }) [] (quiet (goes th (behind q p) r)) refl refl
      (quiet_by _ (behind q p) r None next_by
      (record { w = at.sees.w; z = at.sees.z; dc = at.sees.dc; c = at.sees.c; fsr = at.sees.fsr; bank = at.sees.bank; page = at.sees.page; banks = at.sees.banks; pages = at.sees.pages }) refl refl refl refl refl refl refl)
  plain_locked Retfie = tt
  plain_locked Return = return_locked

  -- ---- jumps and calls
  abbrev there : ℕ → ℕ
  there k = s.pclath / 8 % 4 * 2048 + k

  paged : (t : Target) → is_in_page g p r t ≡ true → (k : ℕ) → there k ≡ g.page_of (block_of p.block t) * 2048 + k
  paged t e k =
      let a : page r ≡ g.page_of (block_of p.block t) = eqb-true (page r) (g.page_of (block_of p.block t)) (ap (λ b. not b || nat_eq (page r) (g.page_of (block_of p.block t))) (sym banked) ∙ e) in
      let b = at.sees.page in let c = x.pclath in
      let d : s.pclath / 8 % 4 ≡ g.page_of (block_of p.block t) = omega arith in
      ap (λ z. z * 2048 + k) d

  jump_locked : (k : ℕ) (o' : Option Position) → ((p' : Position) → o' ≡ Some p' → lands q p' ≡ true → there k ≡ h.place p') → By (record s { pc = there k }) [] (jump_to th o')
  jump_locked k None e = tt
  jump_locked k (Some p') e =
      quiet_by (record s { pc = there k }) p' r None (e p' refl)
      (record { w = at.sees.w; z = at.sees.z; dc = at.sees.dc; c = at.sees.c; fsr = at.sees.fsr; bank = at.sees.bank; page = at.sees.page; banks = at.sees.banks; pages = at.sees.pages }) refl refl refl refl refl refl refl

  halt_locked : (k : ℕ) (b : Bool) (st : List Position) → k < 2048 → there k ≡ h.halt → By (record s { pc = there k }) [] (halt b th st)
  halt_locked k false [] lt e = (ap (λ z. record s { pc = z }) e, refl, (let a = at.sees.page in let b = x.pclath in omega arith))
  halt_locked k false (y ∷ st) lt e = tt
  halt_locked k true st lt e = tt

  restore_locked : (k : ℕ) (b : Bool) (st : List Position) → there k ≡ h.restore → By (record s { pc = there k }) [] (restore b st)
  restore_locked k true [] e = (ap (λ z. record s { pc = z }) e, refl)
  restore_locked k true (y ∷ st) e = tt
  restore_locked k false st e = tt

  goto_by : (t : Target) (k : ℕ) → Reaches g h p t k → is_in_page g p r t ≡ true → By (record s { pc = there k }) [] (goto g i p th t)
  goto_by (targets.Label Halt) k e pg = halt_locked k i th.stack e.0 (paged (targets.Label Halt) pg k ∙ e.1)
  goto_by (targets.Label Restore) k e pg = restore_locked k i th.stack (paged (targets.Label Restore) pg k ∙ e.1)
  goto_by (targets.Label (Inner n)) k e pg = jump_locked k (place_of q p (targets.Label (Inner n))) (λ p' is' ok. paged (targets.Label (Inner n)) pg k ∙ e.1 p' is' ok)
  goto_by (targets.Block name) k e pg = jump_locked k (place_of q p (targets.Block name)) (λ p' is' ok. paged (targets.Block name) pg k ∙ e.1 p' is' ok)

  goto_locked : (t : Target) (k : ℕ) → Reaches g h p t k → (b : Bool) → is_in_page g p r t ≡ b → Row (isa.Goto k) (if b then goto g i p th t else Stuck)
  goto_locked t k e true pg = moved (isa.Goto k) (record s { pc = there k }) [] (goto g i p th t) refl refl (goto_by t k e pg)
  goto_locked t k e false pg = tt

  behind_word : n1 ≡ h.place (behind q p) % 8192
  behind_word = let a = placed.next p here in let b : s.pc ≡ h.place p = at.pc ∙ ap (spot g h) is in omega arith

  pushed_locked : (k : ℕ) (o' : Option Position) → length th.stack < g.limit i → ((p' : Position) → o' ≡ Some p' → lands q p' ≡ true → there k ≡ h.place p') → By (pushed n1 (record s { pc = there k })) [] (jump_to (record th { stack = behind q p ∷ th.stack }) o')
  pushed_locked k None lt e = tt
  pushed_locked k (Some p') lt e = λ ok.
      let few = room lt in
      let on = on_push n1 s.stack (words g h th.stack below) few at.stack in
      record {
        at = record {
          pc = e p' refl ok;
          sees = record { w = at.sees.w; z = at.sees.z; dc = at.sees.dc; c = at.sees.c; fsr = at.sees.fsr; bank = at.sees.bank; page = at.sees.page; banks = at.sees.banks; pages = at.sees.pages };
          stack = (behind_word, on.1);
          depth = let a = at.depth in omega arith;
        };
        low = refl;
        ram = refl;
        control = same;
        taken = taken;
        trace = sym (append-nil _);
      }

  places : (t : Target) (k : ℕ) → Reaches g h p t k → is_in_page g p r t ≡ true → (p' : Position) → place_of q p t ≡ Some p' → lands q p' ≡ true → there k ≡ h.place p'
  places (targets.Label Halt) k e pg p' is' ok = absurd (cc)
  places (targets.Label Restore) k e pg p' is' ok = absurd (cc)
  places (targets.Label (Inner n)) k e pg p' is' ok = paged (targets.Label (Inner n)) pg k ∙ e.1 p' is' ok
  places (targets.Block name) k e pg p' is' ok = paged (targets.Block name) pg k ∙ e.1 p' is' ok

  call_by : (t : Target) (k : ℕ) → Reaches g h p t k → is_in_page g p r t ≡ true → (b : Bool) → nat_lt (length th.stack) (g.limit i) ≡ b
      → By (pushed n1 (record s { pc = there k })) [] (if b then jump_to (record th { stack = behind g.program p ∷ th.stack }) (place_of g.program p t) else Stuck)
  call_by t k e pg true lt = pushed_locked k (place_of q p t) (ltb-true (length th.stack) (g.limit i) lt) (places t k e pg)
  call_by t k e pg false lt = tt

  call_locked : (t : Target) (k : ℕ) → Reaches g h p t k → (b : Bool) → is_in_page g p r t ≡ b → Row (isa.Call k) (if b then call g i p th t else Stuck)
  call_locked t k e true pg =
      moved (isa.Call k) (pushed n1 (record s { pc = there k })) [] (call g i p th t) (sym (call_done s n1 (there k) s.intcon x.stack)) refl (call_by t k e pg (nat_lt (length th.stack) (g.limit i)) refl)
  call_locked t k e false pg = tt

  -- ---- all
  bit_locked : (op : BitOperation) (y : Operand) (b : ℕ) → Row (chip_bit op (low_of l y) b) (file_bit g i p th m op b y)
  bit_locked Bcf y b = files.change_locked reaches g h o image placed banked laid i th p m below s w here is none at same taken own static (clear_bit b) (isa.Bcf (low_of l y) b) y (access_of g i true r y) refl refl (access_sound g i true r y)
  bit_locked Bsf y b = files.change_locked reaches g h o image placed banked laid i th p m below s w here is none at same taken own static (set_bit b) (isa.Bsf (low_of l y) b) y (access_of g i true r y) refl refl (access_sound g i true r y)
  bit_locked Btfsc y b = files.test_locked reaches g h o image placed banked laid i th p m below s w here is none at same taken own static b 0 (isa.Btfsc (low_of l y) b) y (access_of g i false r y) refl refl (access_sound g i false r y)
  bit_locked Btfss y b = files.test_locked reaches g h o image placed banked laid i th p m below s w here is none at same taken own static b 1 (isa.Btfss (low_of l y) b) y (access_of g i false r y) refl refl (access_sound g i false r y)

  bits_locked : (op : BitOperation) (y : Operand) (b : ℕ) → Row (chip_bit op (low_of l y) b) (bits g i p th m op b y)
  bits_locked op (operands.Byte y) b = bit_locked op (operands.Byte y) b
  bits_locked op (operands.Register registers.Indf) b = bit_locked op (operands.Register registers.Indf) b
  bits_locked op (operands.Register registers.Fsr) b = bit_locked op (operands.Register registers.Fsr) b
  bits_locked op (operands.Register registers.Status) b = flag_locked op b
  bits_locked op (operands.Register registers.Pclath) b = bit_locked op (operands.Register registers.Pclath) b
  bits_locked op (operands.Saved y) b = bit_locked op (operands.Saved y) b

  pub sym_locked : (y : Sym) (n : Ins) → is_word (Some y) ≡ true → Means g h p y n → Row n (effect_of g i p th m y)
  unfolding effect_of
  sym_locked (syms.Label label) n wd e = absurd (cc)
  sym_locked (syms.SelectBank which on) n wd e = subst (λ k. Row k (select q p th which on)) (sym e) (unless (is_far which on && all_near q.layout) (bank_row which on) (quiet (goes th (behind q p) (with_bank_bit r which (truth on)))) (bank_locked which on))
  sym_locked (syms.SelectPage which t) n wd e = subst (λ k. Row k (quiet (goes th (behind q p) (with_page_bit r which (page_bit which (g.page_of (block_of p.block t))))))) (sym e) (page_locked which (g.page_of (block_of p.block t)))
  sym_locked (syms.File op y into.W) n wd e = subst (λ k. Row k (effect_of g i p th m (syms.File op y into.W))) (sym e) (files.w_locked reaches g h o image placed banked laid i th p m below s w here is none at same taken own static op y (access_of g i false r y) refl (access_sound g i false r y))
  sym_locked (syms.File op y into.File) n wd e = subst (λ k. Row k (effect_of g i p th m (syms.File op y into.File))) (sym e) (files.f_locked reaches g h o image placed banked laid i th p m below s w here is none at same taken own static op y (access_of g i true r y) refl (access_sound g i true r y))
  sym_locked (syms.Movwf y) n wd e = subst (λ k. Row k (effect_of g i p th m (syms.Movwf y))) (sym e) (files.movwf_locked reaches g h o image placed banked laid i th p m below s w here is none at same taken own static y)
  sym_locked (syms.Clrf y) n wd e = subst (λ k. Row k (effect_of g i p th m (syms.Clrf y))) (sym e) (files.clrf_locked reaches g h o image placed banked laid i th p m below s w here is none at same taken own static y)
  sym_locked (syms.Bit op y b) n wd e = subst (λ k. Row k (bits g i p th m op b y)) (sym e.0) (bits_locked op y b)
  sym_locked (syms.Literal op v) n wd e = subst (λ k. Row k (literal q p th op (after_row (literal_row op (literal_value l v)) r))) (sym e) (literal_locked op (literal_value l v))
  sym_locked (syms.Plain op) n wd e = subst (λ k. Row k (plain q p th op)) (sym e) (plain_locked op)
  sym_locked (syms.Call t) n wd e = subst (λ k. Row k (if is_in_page g p r t then call g i p th t else Stuck)) (sym e.1) (call_locked t e.0 e.2 (is_in_page g p r t) refl)
  sym_locked (syms.Goto t) n wd e = subst (λ k. Row k (if is_in_page g p r t then goto g i p th t else Stuck)) (sym e.1) (goto_locked t e.0 e.2 (is_in_page g p r t) refl)
  sym_locked (syms.Table table root) n wd e = absurd e
