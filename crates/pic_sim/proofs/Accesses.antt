-- What the accesses of an instruction are, on each chip of this family: which of them take an input byte, and by which addresses they are told.
use Rattle.std.proofs.Common.{◌≡◌, ℕ, zero, suc, ◌+◌, ◌*◌, ◌/◌, ◌%◌, ◌<◌, Bool, true, false, not, List, [], ◌∷◌, ◌++◌, refl, sym, ap, ◌∙◌, subst, add-zero, append-nil, length, arith, slice_index, Option, Some, None, nat_eq, nat_lt}
use Rattle.std.specs.Prelude.{if◌then◌else◌, ◌&&◌, slice_index_or, bit_and, bit_or, bit_xor}
use Rattle.pic_isa.specs.declared.Ins.{Ins}
use Rattle.pic_isa.specs.declared.Ins.TheVariants.{Addwf, Andwf, Clrf, Clrw, Comf, Decf, Decfsz, Incf, Incfsz, Iorwf, Movf, Movwf, Nop, Rlf, Rrf, Subwf, Swapf, Xorwf, Bcf, Bsf, Btfsc, Btfss, Addlw, Andlw, Call, Clrwdt, Goto, Iorlw, Movlw, Retfie, Retlw, Return, Sleep, Sublw, Xorlw}
use Rattle.pic_isa.specs.Lookup.{row_of, no_row, groups, byte_rows, bit_rows, jump_rows, literal_rows, control_row, clear_row, dest_bit}
use Rattle.pic_world.specs.Bits.{bit, set_bit, clear_bit}
use Rattle.pic_chip.specs.Act.{Derived, Write, Note, Effect, Made, made, accesses, Act, Do, value_in, apply, effect}
use Rattle.pic_chip.specs.Address.{Place, Pcl, Status, Fsr, Pclath, Intcon, Pir1, Pie1, General, Device, Nothing}
use Rattle.pic_chip.specs.Instructions.{Rule, contents, after_read, store, result_to, byte_row_by, test_row_by, write_row_by, plain_row, is_empty, to, of, part, with_part, number, access, note_by, write_note_by, following, skipping, z_of, sum, sum_flags, difference, difference_flags, complement, increment, decrement, swap, is_zero, page, push, pop, row_by, act_by, is_modelled}
use Rattle.pic_chip.specs.Machine.{wanted_by, takes_input_by}
use Rattle.pic_chip.specs.State.{State, AtW, AtPc, AtZ, AtC, AtIntcon, put}
use Rattle.pic_sim.specs.declared.board.Exchange.{Exchange}
use Rattle.pic_sim.specs.Going.{reads_by}
use Rattle.pic_sim.specs.Kind.{Kind, is_outside_by}
use Rattle.pic_sim.specs.Laws.{IsChip, IsPlain}
use Rattle.pic_sim.specs.Step.{given_of, IsWanted, AreTold}

-- ---- the fields of the rows
-- the operand of a row has seven bits
abbrev pub HasFile : Ins → Type 0
HasFile (Addwf f d) = f < 128
HasFile (Andwf f d) = f < 128
HasFile (Clrf f) = f < 128
HasFile (Comf f d) = f < 128
HasFile (Decf f d) = f < 128
HasFile (Decfsz f d) = f < 128
HasFile (Incf f d) = f < 128
HasFile (Incfsz f d) = f < 128
HasFile (Iorwf f d) = f < 128
HasFile (Movf f d) = f < 128
HasFile (Movwf f) = f < 128
HasFile (Rlf f d) = f < 128
HasFile (Rrf f d) = f < 128
HasFile (Subwf f d) = f < 128
HasFile (Swapf f d) = f < 128
HasFile (Xorwf f d) = f < 128
HasFile (Bcf f b) = f < 128
HasFile (Bsf f b) = f < 128
HasFile (Btfsc f b) = f < 128
HasFile (Btfss f b) = f < 128
HasFile _ = Unit {0}

abbrev pub FitsRow : Option Ins → Type 0
FitsRow None = Unit {0}
FitsRow (Some i) = HasFile i

abbrev AllFit : ℕ → List (ℕ → Option Ins) → Type 0
AllFit word [] = Unit {0}
AllFit word (g ∷ gs) = FitsRow (g word) × AllFit word gs

fit_at : (word : ℕ) (gs : List (ℕ → Option Ins)) → AllFit word gs → (n : ℕ) → FitsRow (slice_index_or gs n no_row word)
fit_at word [] h n = tt
fit_at word (g ∷ gs) h zero = h.0
fit_at word (g ∷ gs) h (suc n) = fit_at word gs h.1 n

control_fits : (word : ℕ) → word % 128 < 128 → FitsRow (control_row word)
control_fits word h = by_tests (nat_lt 127 word) (nat_eq word 0x08) (nat_eq word 0x09) (nat_eq word 0x63) (nat_eq word 0x64) (nat_eq (word % 32) 0)
  where
    by_tests : (a b c d e f : Bool) → FitsRow (if a then Some (Movwf (word % 128)) else if b then Some Return else if c then Some Retfie else if d then Some Sleep else if e then Some Clrwdt else if f then Some Nop else None)
    by_tests true b c d e f = h
    by_tests false true c d e f = tt
    by_tests false false true d e f = tt
    by_tests false false false true e f = tt
    by_tests false false false false true f = tt
    by_tests false false false false false true = tt
    by_tests false false false false false false = tt

clear_fits : (word : ℕ) → word % 128 < 128 → FitsRow (clear_row word)
clear_fits word h = by_test (dest_bit word)
  where
    by_test : (b : Bool) → FitsRow (if b then Some (Clrf (word % 128)) else Some Clrw)
    by_test true = h
    by_test false = tt

pub row_fits : (word : ℕ) → FitsRow (row_of word)
row_fits word =
    let h : word % 128 < 128 = omega arith in
    let bytes : AllFit word byte_rows = (control_fits word h, (clear_fits word h, (h, (h, (h, (h, (h, (h, (h, (h, (h, (h, (h, (h, (h, (h, tt)))))))))))))))) in
    let bits : AllFit word bit_rows = (h, (h, (h, (h, tt)))) in
    let jumps : AllFit word jump_rows = (tt, (tt, tt)) in
    let literals : AllFit word literal_rows = (tt, (tt, (tt, (tt, (tt, (tt, (tt, (tt, (tt, (tt, (tt, (tt, (tt, (tt, (tt, (tt, tt)))))))))))))))) in
    let all : AllFit word groups =
    (fit_at word byte_rows bytes (word / 256), (fit_at word bit_rows bits (word / 1024 % 4), (fit_at word jump_rows jumps (word / 2048 % 2), (fit_at word literal_rows literals (word / 256 % 16), tt)))) in
    fit_at word groups all (word / 4096)

-- ---- writes that leave the count of input bytes
abbrev KeepsCount : List Write → Type 0
KeepsCount ws = (before t : State) → (apply ws before t).taken ≡ t.taken

apply-append : (xs ys : List Write) (before t : State) → apply (xs ++ ys) before t ≡ apply ys before (apply xs before t)
apply-append [] ys before t = refl
apply-append (x ∷ xs) ys before t = apply-append xs ys before (put t x.to (value_in before x.value))

append_keeps : (xs ys : List Write) → KeepsCount xs → KeepsCount ys → KeepsCount (xs ++ ys)
append_keeps xs ys hx hy before t = ap (λ u. u.taken) (apply-append xs ys before t) ∙ hy before (apply xs before t) ∙ hx before t

store_keeps : (plain : Bool) (p : Place) (v : Derived) → KeepsCount (store plain p v)
store_keeps plain Pcl v before t = refl
store_keeps true Status v before t = refl
store_keeps false Status v before t = refl
store_keeps plain Fsr v before t = refl
store_keeps plain Pclath v before t = refl
store_keeps plain Intcon v before t = refl
store_keeps plain Pir1 v before t = refl
store_keeps plain Pie1 v before t = refl
store_keeps plain (General k) v before t = refl
store_keeps plain (Device a) v before t = refl
store_keeps plain Nothing v before t = refl

result_keeps : (d : Bool) (p : Place) (v : Derived) (flags : List Write) → KeepsCount flags → KeepsCount (result_to d p v flags)
result_keeps true p v flags h = append_keeps (store (is_empty flags) p v) flags (store_keeps (is_empty flags) p v) h
result_keeps false p v flags h = λ before t. h before (put t AtW (value_in before v))

-- ---- an instruction's effect
-- the accesses alone, so many of which are reads of such registers
record Reads (kind : Kind) (inputs : List ℕ) (s : State) (notes : List Note) (count : ℕ) : Type 0 where
  reads : reads_by kind.rule (made notes s) ≡ given_of (wanted_by kind.rule (made notes s)) (slice_index inputs s.taken)
  counted : length (reads_by kind.rule (made notes s)) ≡ count
  told : AreTold kind (made notes s)

abbrev count_of : Place → ℕ
count_of (Device a) = 1
count_of _ = 0

-- what a place's accesses are told by
abbrev pub IsQuiet : Kind → ℕ → Type 0
IsQuiet kind address = (is_outside_by kind.rule address ≡ false) × (kind.is_told address ≡ true)

abbrev pub IsFit : Kind → Place → Type 0
IsFit kind Pcl = IsQuiet kind 2
IsFit kind Status = IsQuiet kind 3
IsFit kind Fsr = IsQuiet kind 4
IsFit kind Pclath = IsQuiet kind 10
IsFit kind Intcon = IsQuiet kind 11
IsFit kind Pir1 = IsQuiet kind 12
IsFit kind Pie1 = IsQuiet kind 0x8c
IsFit kind (General k) = IsQuiet kind (kind.rule.lowest k)
IsFit kind (Device address) = (is_outside_by kind.rule address ≡ true) × (kind.is_told address ≡ true)
IsFit kind Nothing = Unit {0}

-- an operand leads to such a place
abbrev pub LeadsToFit : Kind → Type 1
LeadsToFit kind = (s : State) (f : ℕ) → f < 128 → (next : Place → Act) (P : Effect → Type 0) → ((p : Place) → IsFit kind p → P (effect (next p) s)) → P (effect (kind.rule.find f next) s)

module _ (kind : Kind) (leads : LeadsToFit kind) (inputs : List ℕ) (s : State) where
  abbrev c : Rule
  c = kind.rule

  no_reads : (address byte : ℕ) (t : Bool) → t ≡ false → (if t then (let one : List Exchange = (record { register = address; value = byte }) ∷ [] in one) else []) ≡ given_of (if t then Some address else None) (slice_index inputs s.taken)
  no_reads address byte true h = absurd (cc)
  no_reads address byte false h = refl

  none_counted : (one : Exchange) (t : Bool) → t ≡ false → length (if t then one ∷ [] else []) ≡ 0
  none_counted one true h = absurd (cc)
  none_counted one false h = refl

  quiet_read : (address : ℕ) → IsQuiet kind address → (v : Derived) → Reads kind inputs s (access false address v) 0
  quiet_read address h v = record {
    reads = no_reads address (value_in s v) (is_outside_by c address) h.0;
    counted = none_counted (record { register = address; value = value_in s v }) (is_outside_by c address) h.0;
    told = (h.1, tt);
  }

  quiet_both : (address : ℕ) → IsQuiet kind address → (v r : Derived) → Reads kind inputs s (access false address v ++ access true address r) 0
  quiet_both address h v r = record {
    reads = no_reads address (value_in s v) (is_outside_by c address) h.0;
    counted = none_counted (record { register = address; value = value_in s v }) (is_outside_by c address) h.0;
    told = (h.1, (h.1, tt));
  }

  one_read : (address byte : ℕ) (t : Bool) → t ≡ true → byte ≡ slice_index inputs s.taken → (if t then (let one : List Exchange = (record { register = address; value = byte }) ∷ [] in one) else []) ≡ given_of (if t then Some address else None) (slice_index inputs s.taken)
  one_read address byte true h e = ap (λ (x : ℕ). let one : List Exchange = (record { register = address; value = x }) ∷ [] in one) e
  one_read address byte false h e = absurd (cc)

  one_counted : (one : Exchange) (t : Bool) → t ≡ true → length (if t then one ∷ [] else []) ≡ 1
  one_counted one true h = refl
  one_counted one false h = absurd (cc)

  read_notes : (p : Place) → IsFit kind p → (d : Bool) (r : Derived) → Reads kind inputs s (note_by c.lowest false p (contents inputs s.pc p) ++ write_note_by c.lowest d p r) (count_of p)
  read_notes Pcl h true r = quiet_both 2 h (contents inputs s.pc Pcl) r
  read_notes Pcl h false r = quiet_read 2 h (contents inputs s.pc Pcl)
  read_notes Status h true r = quiet_both 3 h (contents inputs s.pc Status) r
  read_notes Status h false r = quiet_read 3 h (contents inputs s.pc Status)
  read_notes Fsr h true r = quiet_both 4 h (contents inputs s.pc Fsr) r
  read_notes Fsr h false r = quiet_read 4 h (contents inputs s.pc Fsr)
  read_notes Pclath h true r = quiet_both 10 h (contents inputs s.pc Pclath) r
  read_notes Pclath h false r = quiet_read 10 h (contents inputs s.pc Pclath)
  read_notes Intcon h true r = quiet_both 11 h (contents inputs s.pc Intcon) r
  read_notes Intcon h false r = quiet_read 11 h (contents inputs s.pc Intcon)
  read_notes Pir1 h true r = quiet_both 12 h (contents inputs s.pc Pir1) r
  read_notes Pir1 h false r = quiet_read 12 h (contents inputs s.pc Pir1)
  read_notes Pie1 h true r = quiet_both 0x8c h (contents inputs s.pc Pie1) r
  read_notes Pie1 h false r = quiet_read 0x8c h (contents inputs s.pc Pie1)
  read_notes (General k) h true r = quiet_both (c.lowest k) h (contents inputs s.pc (General k)) r
  read_notes (General k) h false r = quiet_read (c.lowest k) h (contents inputs s.pc (General k))
  read_notes (Device a) h true r = record {
    reads = one_read a (slice_index inputs s.taken) (is_outside_by c a) h.0 refl;
    counted = one_counted (record { register = a; value = slice_index inputs s.taken }) (is_outside_by c a) h.0;
    told = (h.1, (h.1, tt));
  }
  read_notes (Device a) h false r = record {
    reads = one_read a (slice_index inputs s.taken) (is_outside_by c a) h.0 refl;
    counted = one_counted (record { register = a; value = slice_index inputs s.taken }) (is_outside_by c a) h.0;
    told = (h.1, tt);
  }
  read_notes Nothing h true r = record { reads = refl; counted = refl; told = tt }
  read_notes Nothing h false r = record { reads = refl; counted = refl; told = tt }

  read_counts : (p : Place) (n : Derived) (ws : List Write) → KeepsCount ws → (apply (to AtPc n ∷ (after_read p ++ ws)) s s).taken ≡ s.taken + count_of p
  read_counts (Device a) n ws h = h s (record s { pc = value_in s n; taken = s.taken + 1 })
  read_counts _ n ws h = h s (record s { pc = value_in s n }) ∙ sym (add-zero s.taken)

  of_reads : (p : Place) (notes : List Note) (writes : List Write) → Reads kind inputs s notes (count_of p) → (apply writes s s).taken ≡ s.taken + count_of p → IsPlain kind inputs s (record { writes = writes; notes = notes })
  of_reads p notes writes h c = record {
    reads = h.reads;
    counted = c ∙ ap (λ k. s.taken + k) (sym h.counted);
    told = h.told;
  }

  at_operand : (f : ℕ) → f < 128 → (next : Place → Act) → ((p : Place) → IsFit kind p → IsPlain kind inputs s (effect (next p) s)) → IsPlain kind inputs s (effect (c.find f next) s)
  at_operand f hf next h = leads s f hf next (IsPlain kind inputs s) h

  byte_plain : (f : ℕ) → f < 128 → (d : Bool) (result : Derived → Derived) (flags : Derived → List Write) (next : Derived → Derived) → ((x : Derived) → KeepsCount (flags x)) → IsPlain kind inputs s (effect (byte_row_by c inputs s.pc f d result flags next) s)
  byte_plain f hf d result flags next keeps =
      at_operand f hf (λ p. let x = contents inputs s.pc p in Do (record {
        writes = to AtPc (next x) ∷ (after_read p ++ result_to d p (result x) (flags x));
        notes = note_by c.lowest false p x ++ write_note_by c.lowest d p (result x);
      })) (λ p fits. let x = contents inputs s.pc p in
      of_reads p (note_by c.lowest false p x ++ write_note_by c.lowest d p (result x)) (to AtPc (next x) ∷ (after_read p ++ result_to d p (result x) (flags x)))
      (read_notes p fits d (result x)) (read_counts p (next x) (result_to d p (result x) (flags x)) (result_keeps d p (result x) (flags x) (keeps x))))

  test_plain : (f : ℕ) → f < 128 → (b v : ℕ) → IsPlain kind inputs s (effect (test_row_by c inputs s.pc f b v) s)
  test_plain f hf b v =
      at_operand f hf (λ p. let x = contents inputs s.pc p in Do (record {
        writes = to AtPc (skipping s.pc (λ y. nat_eq (bit y b) v) x) ∷ after_read p;
        notes = note_by c.lowest false p x;
      })) (λ p fits. let x = contents inputs s.pc p in let next = skipping s.pc (λ y. nat_eq (bit y b) v) x in
      of_reads p (note_by c.lowest false p x) (to AtPc next ∷ after_read p)
      (subst (λ (ns : List Note). Reads kind inputs s ns (count_of p)) (append-nil (note_by c.lowest false p x)) (read_notes p fits false x))
      (ap (λ (ws : List Write). (apply (to AtPc next ∷ ws) s s).taken) (sym (append-nil (after_read p))) ∙ read_counts p next [] (λ before t. refl)))

  write_notes : (p : Place) → IsFit kind p → (v : Derived) → Reads kind inputs s (note_by c.lowest true p v) 0
  write_notes Pcl h v = record { reads = refl; counted = refl; told = (h.1, tt) }
  write_notes Status h v = record { reads = refl; counted = refl; told = (h.1, tt) }
  write_notes Fsr h v = record { reads = refl; counted = refl; told = (h.1, tt) }
  write_notes Pclath h v = record { reads = refl; counted = refl; told = (h.1, tt) }
  write_notes Intcon h v = record { reads = refl; counted = refl; told = (h.1, tt) }
  write_notes Pir1 h v = record { reads = refl; counted = refl; told = (h.1, tt) }
  write_notes Pie1 h v = record { reads = refl; counted = refl; told = (h.1, tt) }
  write_notes (General k) h v = record { reads = refl; counted = refl; told = (h.1, tt) }
  write_notes (Device a) h v = record { reads = refl; counted = refl; told = (h.1, tt) }
  write_notes Nothing h v = record { reads = refl; counted = refl; told = tt }

  write_plain : (f : ℕ) → f < 128 → (v : Derived) (flags : List Write) → KeepsCount flags → IsPlain kind inputs s (effect (write_row_by c s.pc f v flags) s)
  write_plain f hf v flags keeps =
      at_operand f hf (λ p. Do (record { writes = to AtPc (following s.pc) ∷ (store (is_empty flags) p v ++ flags); notes = note_by c.lowest true p v }))
      (λ p fits. of_reads Nothing (note_by c.lowest true p v) (to AtPc (following s.pc) ∷ (store (is_empty flags) p v ++ flags)) (write_notes p fits v)
      (append_keeps (store (is_empty flags) p v) flags (store_keeps (is_empty flags) p v) keeps s (record s { pc = (s.pc + 1) % 8192 }) ∙ sym (add-zero s.taken)))

  no_access : (writes : List Write) → (apply writes s s).taken ≡ s.taken → IsPlain kind inputs s (effect (plain_row writes) s)
  no_access writes h = record { reads = refl; counted = h ∙ sym (add-zero s.taken); told = tt }

  abbrev on : Derived → Derived
  on x = following s.pc

  abbrev no_flags : Derived → List Write
  no_flags x = []

  row_plain : (i : Ins) → HasFile i → IsPlain kind inputs s (effect (row_by c inputs s.pc i) s)
  row_plain (Addwf f d) h = byte_plain f h d (with_part AtW sum) sum_flags on (λ x before t. refl)
  row_plain (Andwf f d) h = byte_plain f h d (with_part AtW bit_and) (λ x. z_of (with_part AtW bit_and x)) on (λ x before t. refl)
  row_plain (Clrf f) h = write_plain f h (number 0) (to AtZ (number 1) ∷ []) (λ before t. refl)
  row_plain Clrw h = no_access (to AtPc (following s.pc) ∷ to AtW (number 0) ∷ to AtZ (number 1) ∷ []) refl
  row_plain (Comf f d) h = byte_plain f h d (of complement) (λ x. z_of (of complement x)) on (λ x before t. refl)
  row_plain (Decf f d) h = byte_plain f h d (of decrement) (λ x. z_of (of decrement x)) on (λ x before t. refl)
  row_plain (Decfsz f d) h = byte_plain f h d (of decrement) no_flags (λ x. skipping s.pc is_zero (of decrement x)) (λ x before t. refl)
  row_plain (Incf f d) h = byte_plain f h d (of increment) (λ x. z_of (of increment x)) on (λ x before t. refl)
  row_plain (Incfsz f d) h = byte_plain f h d (of increment) no_flags (λ x. skipping s.pc is_zero (of increment x)) (λ x before t. refl)
  row_plain (Iorwf f d) h = byte_plain f h d (with_part AtW bit_or) (λ x. z_of (with_part AtW bit_or x)) on (λ x before t. refl)
  row_plain (Movf f d) h = byte_plain f h d (λ x. x) z_of on (λ x before t. refl)
  row_plain (Movwf f) h = write_plain f h (part AtW) [] (λ before t. refl)
  row_plain Nop h = no_access (to AtPc (following s.pc) ∷ []) refl
  row_plain (Rlf f d) h = byte_plain f h d (with_part AtC (λ c x. (2 * x + c) % 256)) (λ x. to AtC (of (λ y. y / 128 % 2) x) ∷ []) on (λ x before t. refl)
  row_plain (Rrf f d) h = byte_plain f h d (with_part AtC (λ c x. 128 * c + x / 2)) (λ x. to AtC (of (λ y. y % 2) x) ∷ []) on (λ x before t. refl)
  row_plain (Subwf f d) h = byte_plain f h d (with_part AtW difference) difference_flags on (λ x before t. refl)
  row_plain (Swapf f d) h = byte_plain f h d (of swap) no_flags on (λ x before t. refl)
  row_plain (Xorwf f d) h = byte_plain f h d (with_part AtW bit_xor) (λ x. z_of (with_part AtW bit_xor x)) on (λ x before t. refl)
  row_plain (Bcf f b) h = byte_plain f h true (of (clear_bit b)) no_flags on (λ x before t. refl)
  row_plain (Bsf f b) h = byte_plain f h true (of (set_bit b)) no_flags on (λ x before t. refl)
  row_plain (Btfsc f b) h = test_plain f h b 0
  row_plain (Btfss f b) h = test_plain f h b 1
  row_plain (Addlw k) h = no_access (to AtPc (following s.pc) ∷ to AtW (of (λ w. sum w k) (part AtW)) ∷ sum_flags (number k)) refl
  row_plain (Andlw k) h = no_access (to AtPc (following s.pc) ∷ to AtW (of (bit_and k) (part AtW)) ∷ z_of (of (bit_and k) (part AtW))) refl
  row_plain (Call k) h = no_access (to AtPc (page k) ∷ push (following s.pc)) refl
  row_plain Clrwdt h = no_access (to AtPc (following s.pc) ∷ []) refl
  row_plain (Goto k) h = no_access (to AtPc (page k) ∷ []) refl
  row_plain (Iorlw k) h = no_access (to AtPc (following s.pc) ∷ to AtW (of (bit_or k) (part AtW)) ∷ z_of (of (bit_or k) (part AtW))) refl
  row_plain (Movlw k) h = no_access (to AtPc (following s.pc) ∷ to AtW (number k) ∷ []) refl
  row_plain Retfie h = no_access (to AtIntcon (of (set_bit 7) (part AtIntcon)) ∷ pop) refl
  row_plain (Retlw k) h = no_access (to AtW (number k) ∷ pop) refl
  row_plain Return h = no_access pop refl
  row_plain Sleep h = no_access [] refl
  row_plain (Sublw k) h = no_access (to AtPc (following s.pc) ∷ to AtW (of (λ w. difference w k) (part AtW)) ∷ difference_flags (number k)) refl
  row_plain (Xorlw k) h = no_access (to AtPc (following s.pc) ∷ to AtW (of (bit_xor k) (part AtW)) ∷ z_of (of (bit_xor k) (part AtW))) refl

  pub act_plain : (o : Option Ins) → FitsRow o → IsPlain kind inputs s (effect (act_by c inputs s.pc o) s)
  act_plain None h = no_access [] refl
  act_plain (Some i) h = row_plain i h

  -- where the model goes no further there is no access
  pub no_accesses : (o : Option Ins) → is_modelled o ≡ false → accesses (act_by c inputs s.pc o) s ≡ []
  no_accesses None h = refl
  no_accesses (Some Sleep) h = refl
  no_accesses (Some _) h = absurd (cc)

-- ---- what is wanted
only_reads : (w r i : Bool) → (not w && r && i) ≡ true → (r && i) ≡ true
only_reads true r i h = absurd (cc)
only_reads false r i h = h

pub wants_outside : (kind : Kind) → IsChip kind → (xs : List Made) → IsWanted (wanted_by kind.rule xs)
wants_outside kind is [] = tt
wants_outside kind is (x ∷ xs) = by_test (takes_input_by kind.rule x) refl (wants_outside kind is xs)
  where
    by_test : (b : Bool) → takes_input_by kind.rule x ≡ b → IsWanted (wanted_by kind.rule xs) → IsWanted (if b then Some x.address else wanted_by kind.rule xs)
    by_test true e later = is.outside x.address (only_reads x.write (kind.rule.is_register x.address) (not (kind.rule.is_stored x.address)) e)
    by_test false e later = later
