-- No input is taken where no device register is accessed.
use Rattle.std.proofs.Common.{◌≡◌, ℕ, zero, suc, ◌+◌, ◌*◌, ◌/◌, ◌%◌, ◌<◌, ◌≤◌, Bool, true, false, List, [], ◌∷◌, ◌++◌, Option, Some, None, refl, sym, ap, ◌∙◌, subst, ⊎_elim, arith, append-nil}
use Rattle.std.specs.Prelude.{if◌then◌else◌, not, ◌&&◌, ◌||◌, nat_eq, nat_lt, nat_le, slice_index, bit_and, bit_or, bit_xor, is_some}
use Rattle.std.proofs.lemmas.Bool.{agree_below_at, cases_lt, ne_eqb, ltb-true}
use Rattle.pic_isa.specs.Lookup.{row_of}
use Rattle.pic_isa.specs.declared.Ins.{Ins}
use Rattle.pic_isa.specs.declared.Ins.TheVariants.{Addwf, Andwf, Clrf, Clrw, Comf, Decf, Decfsz, Incf, Incfsz, Iorwf, Movf, Movwf, Nop, Rlf, Rrf, Subwf, Swapf, Xorwf, Bcf, Bsf, Btfsc, Btfss, Addlw, Andlw, Call, Clrwdt, Goto, Iorlw, Movlw, Retfie, Retlw, Return, Sleep, Sublw, Xorlw}
use Rattle.pic_world.specs.Bits.{bit, set_bit, clear_bit}
use Rattle.pic_world.specs.Registers.{Register, registers, register_at, is_among, is_register, lowest}
use Rattle.pic_chip.specs.State.{State, Part, AtW, AtPc, AtBank, AtZ, AtDc, AtC, AtFsr, AtPclath, AtIntcon, AtPir1, AtPie1, AtPushes, AtPops, AtTaken, Ram, Level, put, reset}
use Rattle.pic_chip.specs.Act.{Derived, Write, Note, Made, Act, Do, value_in, apply, effect, perform, made, accesses, Effect}
use Rattle.pic_chip.specs.Address.{Place, Pcl, Status, Fsr, Pclath, Intcon, Pir1, Pie1, General, Device, Nothing, place, indirect, operand, in_every_bank}
use Rattle.pic_chip.specs.Instructions.{contents, after_read, store, result_to, byte_row, test_row, write_row, is_empty, to, number, part, of, with_part, note, write_note, skipping, following, row, act_of, execute, sum, sum_flags, difference, difference_flags, complement, increment, decrement, swap, z_of, is_zero}
use Rattle.pic_chip.specs.Run.{registers_of, Moment, Setting, moment, next_moment, stepped, observed, ends_at}
use Rattle.pic_chip.specs.Interrupts.{control_of, raised, begun, enter}
use Rattle.pic_world.specs.Control.{is_due}
use Rattle.pic_world.specs.Arrivals.{arriving}
use Rattle.chip_trace.proofs.Moments.{observed_keeps, unmet}

-- ---- writes that leave the count of inputs
abbrev is_count : Part → Bool
is_count AtTaken = true
is_count _ = false

abbrev leaves_count : List Write → Bool
leaves_count [] = true
leaves_count (x ∷ xs) = not (is_count x.to) && leaves_count xs

put_count : (s : State) (p : Part) (v : ℕ) → is_count p ≡ false → (put s p v).taken ≡ s.taken
put_count s AtTaken v e = absurd (cc)
put_count s AtW v e = refl
put_count s AtPc v e = refl
put_count s AtBank v e = refl
put_count s AtZ v e = refl
put_count s AtDc v e = refl
put_count s AtC v e = refl
put_count s AtFsr v e = refl
put_count s AtPclath v e = refl
put_count s AtIntcon v e = refl
put_count s AtPir1 v e = refl
put_count s AtPie1 v e = refl
put_count s AtPushes v e = refl
put_count s AtPops v e = refl
put_count s (Ram k) v e = refl
put_count s (Level k) v e = refl

negated : (b : Bool) (c : Bool) → (not b && c) ≡ true → (b ≡ false) × (c ≡ true)
negated true c e = absurd (cc)
negated false c e = (refl, e)

apply_count : (ws : List Write) (b s : State) → leaves_count ws ≡ true → (apply ws b s).taken ≡ s.taken
apply_count [] b s e = refl
apply_count (x ∷ xs) b s e = let q = negated (is_count x.to) (leaves_count xs) e in apply_count xs b (put s x.to (value_in b x.value)) q.1 ∙ put_count s x.to (value_in b x.value) q.0

both_leave : (xs ys : List Write) → leaves_count xs ≡ true → leaves_count ys ≡ true → leaves_count (xs ++ ys) ≡ true
both_leave [] ys a b = b
both_leave (x ∷ xs) ys a b =
    let q = negated (is_count x.to) (leaves_count xs) a in
    ap (λ v. not v && leaves_count (xs ++ ys)) q.0 ∙ both_leave xs ys q.1 b

store_leaves : (plain : Bool) (p : Place) (v : Derived) → leaves_count (store plain p v) ≡ true
store_leaves plain Pcl v = refl
store_leaves true Status v = refl
store_leaves false Status v = refl
store_leaves plain Fsr v = refl
store_leaves plain Pclath v = refl
store_leaves plain Intcon v = refl
store_leaves plain Pir1 v = refl
store_leaves plain Pie1 v = refl
store_leaves plain (General k) v = refl
store_leaves plain (Device a) v = refl
store_leaves plain Nothing v = refl

result_leaves : (d : Bool) (p : Place) (v : Derived) (flags : List Write) → leaves_count flags ≡ true → leaves_count (result_to d p v flags) ≡ true
result_leaves true p v flags a = both_leave (store (is_empty flags) p v) flags (store_leaves (is_empty flags) p v) a
result_leaves false p v flags a = a

-- ---- device registers
abbrev all_below : List ℕ → Bool
all_below [] = true
all_below (a ∷ more) = nat_lt a 512 && all_below more

abbrev table_below : List Register → Bool
table_below [] = true
table_below (r ∷ rs) = (nat_lt r.1 512 && all_below r.2) && table_below rs

and_parts : (a b : Bool) → (a && b) ≡ true → (a ≡ true) × (b ≡ true)
and_parts true b e = (refl, e)
and_parts false b e = absurd (cc)

not_among : (xs : List ℕ) (n : ℕ) → all_below xs ≡ true → 512 ≤ n → is_among xs n ≡ false
not_among [] n a le = refl
not_among (x ∷ xs) n a le =
    let q = and_parts (nat_lt x 512) (all_below xs) a in
    let l = ltb-true x 512 q.0 in
    ap (λ b. b || is_among xs n) (ne_eqb x n (λ e. absurd (omega (arith, e, l, le)))) ∙ not_among xs n q.1 le

no_register : (rs : List Register) (n : ℕ) → table_below rs ≡ true → 512 ≤ n → register_at rs n ≡ None
no_register [] n a le = refl
no_register (r ∷ rs) n a le =
    let q = and_parts (nat_lt r.1 512 && all_below r.2) (table_below rs) a in
    let p = and_parts (nat_lt r.1 512) (all_below r.2) q.0 in
    let l = ltb-true r.1 512 p.0 in
    ap (λ b. if b || is_among r.2 n then Some r.1 else register_at rs n) (ne_eqb r.1 n (λ e. absurd (omega (arith, e, l, le))))
    ∙ ap (λ b. if b then Some r.1 else register_at rs n) (not_among r.2 n p.1 le) ∙ no_register rs n q.1 le

implied : (x y : Bool) → (not x || y) ≡ true → x ≡ true → y ≡ true
implied true y h e = h
implied false y h e = absurd (cc)

differs : (b : Bool) → b ≡ true → b ≡ false → ⊥
differs true e f = cc
differs false e f = cc

lowest_register : (n : ℕ) → is_register n ≡ true → is_register (lowest n) ≡ true
lowest_register n r =
    ⊎_elim
    (λ lt. implied (is_register n) (is_register (lowest n)) (agree_below_at (λ k. not (is_register k) || is_register (lowest k)) (λ k. true) 512 n refl lt) r)
    (λ ge. absurd (differs (is_register n) r (ap is_some (no_register registers n refl ge))))
    (cases_lt n 512)

-- where a place is a device, a register is found at its address
abbrev IsReal : Place → Type 0
IsReal (Device a) = is_register a ≡ true
IsReal _ = Unit {0}

choose_real : (b : Bool) (p q : Place) → (b ≡ true → IsReal p) → (b ≡ false → IsReal q) → IsReal (if b then p else q)
choose_real true p q x y = x refl
choose_real false p q x y = y refl

place_real : (b low : ℕ) → IsReal (place b low)
place_real b low =
    choose_real (nat_eq low 2) _ _ (λ e. tt) (λ e. choose_real (nat_eq low 3) _ _ (λ e. tt) (λ e. choose_real (nat_eq low 4) _ _ (λ e. tt) (λ e. choose_real (nat_eq low 10) _ _ (λ e. tt) (λ e.
    choose_real (nat_eq low 11) _ _ (λ e. tt) (λ e. choose_real (nat_eq low 12 && nat_lt b 2) _ _ (λ e. choose_real (nat_eq b 0) _ _ (λ e. tt) (λ e. tt)) (λ e.
    choose_real (nat_le 0x70 low) _ _ (λ e. tt) (λ e. choose_real (nat_le (if nat_lt b 2 then 0x20 else 0x10) low) _ _ (λ e. tt) (λ e.
    choose_real (is_register (0x80 * b + low)) _ _ (λ e. lowest_register (0x80 * b + low) e) (λ e. tt)))))))))

indirect_real : (a : ℕ) → IsReal (indirect a)
indirect_real a = choose_real (nat_eq (a % 128) 0) Nothing (place (a / 128) (a % 128)) (λ e. tt) (λ e. place_real (a / 128) (a % 128))

-- where an operand leads
record LeadsTo (s : State) (f : ℕ) : Type 0 where
  pub to : Place
  pub real : IsReal to
  pub same : (next : Place → Act) → effect (operand f next) s ≡ effect (next to) s

leads : (s : State) (f : ℕ) → LeadsTo s f
leads s f = by (in_every_bank f) (nat_eq f 0) refl refl where
  by : (a b : Bool) → in_every_bank f ≡ a → nat_eq f 0 ≡ b → LeadsTo s f
  by true b e1 e2 = record { to = place 0 f; real = place_real 0 f; same = λ next. rw e1 refl }
  by false true e1 e2 = record { to = indirect (256 * (s.bank / 4) + s.fsr); real = indirect_real (256 * (s.bank / 4) + s.fsr); same = λ next. rw (e1, e2) refl }
  by false false e1 e2 = record { to = place (s.bank % 4) f; real = place_real (s.bank % 4) f; same = λ next. rw (e1, e2) refl }

-- ---- rows
module _ (inputs : List ℕ) (s : State) (pc : ℕ) where
  -- where no register was accessed, no input was taken
  abbrev Counts : Act → Type 0
  Counts a = registers_of (accesses a s) ≡ [] → (perform a s).taken ≡ s.taken

  some_access : (a : ℕ) (m : Made) (rest : List Made) → is_register m.address ≡ true → registers_of (m ∷ rest) ≡ [] → ⊥
  some_access a m rest r e = let f : m ∷ registers_of rest ≡ [] = sym (ap (λ b. if b then m ∷ registers_of rest else registers_of rest) r) ∙ e in absurd (cc)

  quiet : (ws : List Write) (ns : List Note) → leaves_count ws ≡ true → registers_of (made ns s) ≡ [] → (apply ws s s).taken ≡ s.taken
  quiet ws ns l e = apply_count ws s s l

  read_case : (p : Place) → IsReal p → (x : Derived) (rest : List Write) (more : List Note) (n : Write) → is_count n.to ≡ false → leaves_count rest ≡ true
      → registers_of (made (note false p x ++ more) s) ≡ [] → (apply (n ∷ (after_read p ++ rest)) s s).taken ≡ s.taken
  read_case (Device a) r x rest more n c l e = absurd (some_access a (record { write = false; address = a; byte = value_in s x }) (made more s) r e)
  read_case Pcl r x rest more n c l e = apply_count rest s _ l ∙ put_count s n.to (value_in s n.value) c
  read_case Status r x rest more n c l e = apply_count rest s _ l ∙ put_count s n.to (value_in s n.value) c
  read_case Fsr r x rest more n c l e = apply_count rest s _ l ∙ put_count s n.to (value_in s n.value) c
  read_case Pclath r x rest more n c l e = apply_count rest s _ l ∙ put_count s n.to (value_in s n.value) c
  read_case Intcon r x rest more n c l e = apply_count rest s _ l ∙ put_count s n.to (value_in s n.value) c
  read_case Pir1 r x rest more n c l e = apply_count rest s _ l ∙ put_count s n.to (value_in s n.value) c
  read_case Pie1 r x rest more n c l e = apply_count rest s _ l ∙ put_count s n.to (value_in s n.value) c
  read_case (General k) r x rest more n c l e = apply_count rest s _ l ∙ put_count s n.to (value_in s n.value) c
  read_case Nothing r x rest more n c l e = apply_count rest s _ l ∙ put_count s n.to (value_in s n.value) c

  byte_counts : (f : ℕ) (d : Bool) (result : Derived → Derived) (flags : Derived → List Write) (next : Derived → Derived) → ((v : Derived) → leaves_count (flags v) ≡ true) → Counts (byte_row inputs pc f d result flags next)
  byte_counts f d result flags next hf =
      let l = leads s f in
      let x = contents inputs pc l.to in
      subst (λ (e : Effect). registers_of (made e.notes s) ≡ [] → (apply e.writes s s).taken ≡ s.taken) (sym (l.same (λ p. let y = contents inputs pc p in Do (record {
        writes = to AtPc (next y) ∷ (after_read p ++ result_to d p (result y) (flags y));
        notes = note false p y ++ write_note d p (result y);
      }))))
      (read_case l.to l.real x (result_to d l.to (result x) (flags x)) (write_note d l.to (result x)) (to AtPc (next x)) refl (result_leaves d l.to (result x) (flags x) (hf x)))

  write_counts : (f : ℕ) (v : Derived) (flags : List Write) → leaves_count flags ≡ true → Counts (write_row pc f v flags)
  write_counts f v flags h =
      let l = leads s f in
      subst (λ (e : Effect). registers_of (made e.notes s) ≡ [] → (apply e.writes s s).taken ≡ s.taken) (sym (l.same (λ p. Do (record { writes = to AtPc (following pc) ∷ (store (is_empty flags) p v ++ flags); notes = note true p v }))))
      (λ e. apply_count (to AtPc (following pc) ∷ (store (is_empty flags) l.to v ++ flags)) s s (both_leave (store (is_empty flags) l.to v) flags (store_leaves (is_empty flags) l.to v) h))

  test_counts : (f b v : ℕ) → Counts (test_row inputs pc f b v)
  test_counts f b v =
      let l = leads s f in
      let x = contents inputs pc l.to in
      subst (λ (e : Effect). registers_of (made e.notes s) ≡ [] → (apply e.writes s s).taken ≡ s.taken) (sym (l.same (λ p. let y = contents inputs pc p in Do (record {
        writes = to AtPc (skipping pc (λ z. nat_eq (bit z b) v) y) ∷ after_read p;
        notes = note false p y;
      }))))
      (λ e. ap (λ ws. (apply (to AtPc (skipping pc (λ z. nat_eq (bit z b) v) x) ∷ ws) s s).taken) (sym (append-nil (after_read l.to)))
      ∙ read_case l.to l.real x [] [] (to AtPc (skipping pc (λ z. nat_eq (bit z b) v) x)) refl refl (ap (λ ns. registers_of (made ns s)) (append-nil (note false l.to x)) ∙ e))

  abbrev none : Derived → List Write
  none v = []

  abbrev on : Derived → Derived
  on v = following pc

  row_counts : (i : Ins) → Counts (row inputs pc i)
  row_counts (Addwf f d) = byte_counts f d (with_part AtW sum) sum_flags on (λ v. refl)
  row_counts (Andwf f d) = byte_counts f d (with_part AtW bit_and) (λ v. z_of (with_part AtW bit_and v)) on (λ v. refl)
  row_counts (Clrf f) = write_counts f (number 0) (to AtZ (number 1) ∷ []) refl
  row_counts Clrw = λ e. refl
  row_counts (Comf f d) = byte_counts f d (of complement) (λ v. z_of (of complement v)) on (λ v. refl)
  row_counts (Decf f d) = byte_counts f d (of decrement) (λ v. z_of (of decrement v)) on (λ v. refl)
  row_counts (Decfsz f d) = byte_counts f d (of decrement) none (λ v. skipping pc is_zero (of decrement v)) (λ v. refl)
  row_counts (Incf f d) = byte_counts f d (of increment) (λ v. z_of (of increment v)) on (λ v. refl)
  row_counts (Incfsz f d) = byte_counts f d (of increment) none (λ v. skipping pc is_zero (of increment v)) (λ v. refl)
  row_counts (Iorwf f d) = byte_counts f d (with_part AtW bit_or) (λ v. z_of (with_part AtW bit_or v)) on (λ v. refl)
  row_counts (Movf f d) = byte_counts f d (λ v. v) z_of on (λ v. refl)
  row_counts (Movwf f) = write_counts f (part AtW) [] refl
  row_counts Nop = λ e. refl
  row_counts (Rlf f d) = byte_counts f d (with_part AtC (λ c v. (2 * v + c) % 256)) (λ v. to AtC (of (λ y. y / 128 % 2) v) ∷ []) on (λ v. refl)
  row_counts (Rrf f d) = byte_counts f d (with_part AtC (λ c v. 128 * c + v / 2)) (λ v. to AtC (of (λ y. y % 2) v) ∷ []) on (λ v. refl)
  row_counts (Subwf f d) = byte_counts f d (with_part AtW difference) difference_flags on (λ v. refl)
  row_counts (Swapf f d) = byte_counts f d (of swap) none on (λ v. refl)
  row_counts (Xorwf f d) = byte_counts f d (with_part AtW bit_xor) (λ v. z_of (with_part AtW bit_xor v)) on (λ v. refl)
  row_counts (Bcf f b) = byte_counts f true (of (clear_bit b)) none on (λ v. refl)
  row_counts (Bsf f b) = byte_counts f true (of (set_bit b)) none on (λ v. refl)
  row_counts (Btfsc f b) = test_counts f b 0
  row_counts (Btfss f b) = test_counts f b 1
  row_counts (Addlw k) = λ e. refl
  row_counts (Andlw k) = λ e. refl
  row_counts (Call k) = λ e. refl
  row_counts Clrwdt = λ e. refl
  row_counts (Goto k) = λ e. refl
  row_counts (Iorlw k) = λ e. refl
  row_counts (Movlw k) = λ e. refl
  row_counts Retfie = λ e. refl
  row_counts (Retlw k) = λ e. refl
  row_counts Return = λ e. refl
  row_counts Sleep = λ e. refl
  row_counts (Sublw k) = λ e. refl
  row_counts (Xorlw k) = λ e. refl

  act_counts : (i : Option Ins) → Counts (act_of inputs pc i)
  act_counts None = λ e. refl
  act_counts (Some i) = row_counts i

-- ---- a run, before main is met
module _ (c : Setting) where
  begun_taken : (mask : ℕ) (s : State) → (begun mask s).taken ≡ s.taken
  begun_taken mask s = by (is_due (control_of (raised mask s))) where
    by : (b : Bool) → (if b then perform enter (raised mask s) else raised mask s).taken ≡ s.taken
    by true = refl
    by false = refl

  rest_none : (xs ys : List Made) → xs ≡ [] → xs ++ ys ≡ [] → ys ≡ []
  rest_none xs ys e f = ap (λ z. z ++ ys) (sym e) ∙ f

  next_taken : (mask : ℕ) (m : Moment) → m.met ≡ false → m.early ≡ [] → (next_moment c.image c.inputs c.watch mask m).early ≡ [] → (next_moment c.image c.inputs c.watch mask m).state.taken ≡ m.state.taken
  next_taken mask m e none = by (ends_at c.image mask m) where
    by : (b : Bool) → (if b then record m { stopped = true } else observed c.watch (stepped c.image c.inputs c.watch.ranges mask m)).early ≡ [] → (if b then record m { stopped = true } else observed c.watch (stepped c.image c.inputs c.watch.ranges mask m)).state.taken ≡ m.state.taken
    by true f = refl
    by false f =
        let n = stepped c.image c.inputs c.watch.ranges mask m in
        let u = unmet c.watch n e in
        let g : m.early ++ registers_of (accesses (execute c.image c.inputs) (begun mask m.state)) ≡ [] =
        sym (ap (λ b. if b then m.early else m.early ++ registers_of (accesses (execute c.image c.inputs) (begun mask m.state))) e) ∙ sym (ap (λ (z : Moment). z.early) u) ∙ f in
        ap (λ (z : Moment). z.state.taken) u
        ∙ act_counts c.inputs (begun mask m.state) (begun mask m.state).pc (row_of (slice_index c.image (begun mask m.state).pc)) (rest_none m.early (registers_of (accesses (execute c.image c.inputs) (begun mask m.state))) none g)
        ∙ begun_taken mask m.state

  pub none_taken : (n : ℕ) → ((k : ℕ) → k < n → (moment c k).met ≡ false) → ((k : ℕ) → (moment c k).early ≡ []) → (moment c n).state.taken ≡ 0
  unfolding moment
  none_taken zero unmet' none = ap (λ (s : State). s.taken) (observed_keeps c.watch (record { state = reset c.start; stopped = false; handling = false; met = false; ended = false; early = []; trace = [] })).0
  none_taken (suc n) unmet' none = next_taken (arriving c.arrivals n) (moment c n) (unmet' n (omega arith)) (none n) (none (suc n)) ∙ none_taken n (λ k lt. unmet' k (omega arith)) none
