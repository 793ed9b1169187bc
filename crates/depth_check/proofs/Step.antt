-- What an instruction that is no jump leaves of what facts speak of.
use Rattle.std.proofs.Common.{inl, inr, ◌≡◌, ℕ, ◌+◌, ◌-◌, ◌*◌, ◌/◌, ◌%◌, ◌<◌, ◌≤◌, Bool, true, false, List, [], ◌∷◌, ◌++◌, Some, None, refl, sym, ap, ◌∙◌, subst}
use Rattle.std.specs.Prelude.{if◌then◌else◌, not, nat_eq, slice_index, ◌⊎◌, bit_and, bit_or, bit_xor}
use Rattle.std.proofs.lemmas.Bool.{or_from, eqb-false, both_ways}
use Rattle.pic_isa.specs.declared.Ins.{Ins}
use Rattle.pic_isa.specs.declared.Ins.TheVariants.{Addwf, Andwf, Clrf, Clrw, Comf, Decf, Decfsz, Incf, Incfsz, Iorwf, Movf, Movwf, Nop, Rlf, Rrf, Subwf, Swapf, Xorwf, Bcf, Bsf, Btfsc, Btfss, Addlw, Andlw, Call, Clrwdt, Goto, Iorlw, Movlw, Retfie, Retlw, Return, Sleep, Sublw, Xorlw}
use Rattle.pic_world.specs.Bits.{bit, set_bit, clear_bit}
use Rattle.pic_chip.specs.State.{State, Part, AtW, AtPc, AtZ, AtC, AtPclath, AtIntcon, AtPushes, AtPops, AtTaken, Ram, Level, get, put, same}
use Rattle.pic_chip.specs.Act.{Derived, Write, Effect, Do, value_in, apply, perform}
use Rattle.pic_chip.specs.Address.{Place, place}
use Rattle.pic_chip.specs.Instructions.{contents, after_read, store, result_to, byte_row, test_row, write_row, is_empty, to, number, part, of, with_part, note, write_note, skipping, following, row, sum, sum_flags, difference, difference_flags, complement, increment, decrement, swap, z_of, is_zero}
use Rattle.depth_check.specs.Facts.{written, is_at, writes, writes_w, may_skip}
use Rattle.pic_chip.proofs.Ranges.{leads}
use Rattle.depth_check.proofs.Parts.{Stays, stays_w, stays_pc, stays_pclath, stays_intcon, stays_pushes, stays_pops, stays_ram, stays_level, touches, keeps, touches_both, is_flag, OnlyFlags, flags_apart, read_apart, meets, store_apart}
use Rattle.depth_check.proofs.Places.{no_w, no_pushes, no_pops, no_level, not_pc, not_pclath, not_intcon, not_cell, direct}

-- the next instruction, or the one behind it where the instruction may skip
abbrev pub GoesTo : Bool → ℕ → ℕ → Type 0
GoesTo false pc new = new ≡ (pc + 1) % 8192
GoesTo true pc new = (new ≡ (pc + 1) % 8192) ⊎ (new ≡ (pc + 2) % 8192)

pub skip_goes : (pc : ℕ) (b : Bool) → GoesTo true pc ((pc + (if b then 2 else 1)) % 8192)
skip_goes pc true = inr refl
skip_goes pc false = inl refl

-- no jump, no return, no SLEEP
abbrev pub is_straight : Ins → Bool
is_straight (Call k) = false
is_straight (Goto k) = false
is_straight Retfie = false
is_straight (Retlw k) = false
is_straight Return = false
is_straight Sleep = false
is_straight _ = true

module _ (cell : ℕ) (lo : 0x70 ≤ cell) (hi : cell < 0x80) (s : State) where
  -- the part of the state that stays unless the instruction writes it
  pub record Moved (i : Ins) (pc : ℕ) (t : State) : Type 0 where
    pub place : GoesTo (may_skip i) pc t.pc
    pub w : writes_w i ≡ false → t.w ≡ s.w
    pub pclath : writes 10 i ≡ false → t.pclath ≡ s.pclath
    pub intcon : writes 11 i ≡ false → t.intcon ≡ s.intcon
    pub byte : writes cell i ≡ false → slice_index t.ram (cell - 0x20) ≡ slice_index s.ram (cell - 0x20)
    pub pushes : t.pushes ≡ s.pushes
    pub pops : t.pops ≡ s.pops
    pub level : (k : ℕ) → slice_index t.stack k ≡ slice_index s.stack k

  -- the writes behind that of the program counter
  first : (p : Part) → Stays p → same AtPc p ≡ false → (v : Derived) (ws : List Write) → touches p ws ≡ false → get (apply (to AtPc v ∷ ws) s s) p ≡ get s p
  first p h e v ws o = keeps p h (to AtPc v ∷ ws) s s (or_from (same AtPc p) (touches p ws) e o)

  goes : (v : Derived) (ws : List Write) → touches AtPc ws ≡ false → (apply (to AtPc v ∷ ws) s s).pc ≡ value_in s v
  goes v ws o = keeps AtPc stays_pc ws s (put s AtPc (value_in s v)) o

  -- ---- a write to a place
  -- ne says that the operand isn't the one that leads to the part
  stored : (pl : Place) (plain : Bool) (v : Derived) (flags : List Write) (p : Part) → is_flag p ≡ false → OnlyFlags flags → meets pl p ≡ false → touches p (store plain pl v ++ flags) ≡ false
  stored pl plain v flags p np o e = touches_both p (store plain pl v) flags (store_apart plain pl v p e) (flags_apart p flags np o)

  absent : (i : Ins) (f low : ℕ) → written i ≡ Some f → writes low i ≡ false → nat_eq f low ≡ false
  absent i f low e h = sym (ap (is_at low) e) ∙ h

  module _ (i : Ins) (pc f : ℕ) (is : written i ≡ Some f) (no_pcl : writes 2 i ≡ false) (bank : ℕ) (reads : List Write) (quiet : (p : Part) → same AtTaken p ≡ false → touches p reads ≡ false)
      (plain : Bool) (v next : Derived) (flags : List Write) (o : OnlyFlags flags) where
    abbrev pl : Place
    pl = place bank f

    abbrev ws : List Write
    ws = reads ++ (store plain pl v ++ flags)

    apart : (p : Part) → same AtTaken p ≡ false → is_flag p ≡ false → meets pl p ≡ false → touches p ws ≡ false
    apart p a b m = touches_both p reads (store plain pl v ++ flags) (quiet p a) (stored pl plain v flags p b o m)

    pub file_moved : GoesTo (may_skip i) pc (value_in s next) → Moved i pc (apply (to AtPc next ∷ ws) s s)
    file_moved g = record {
      place = subst (GoesTo (may_skip i) pc) (sym (goes next ws (apart AtPc refl refl (not_pc bank f (absent i f 2 is no_pcl))))) g;
      w = λ e. first AtW stays_w refl next ws (apart AtW refl refl (no_w pl));
      pclath = λ e. first AtPclath stays_pclath refl next ws (apart AtPclath refl refl (not_pclath bank f (absent i f 10 is e)));
      intcon = λ e. first AtIntcon stays_intcon refl next ws (apart AtIntcon refl refl (not_intcon bank f (absent i f 11 is e)));
      byte = λ e. first (Ram (cell - 0x20)) (stays_ram (cell - 0x20)) refl next ws (apart (Ram (cell - 0x20)) refl refl (not_cell cell lo hi bank f (absent i f cell is e) (eqb-false f cell (absent i f cell is e))));
      pushes = first AtPushes stays_pushes refl next ws (apart AtPushes refl refl (no_pushes pl));
      pops = first AtPops stays_pops refl next ws (apart AtPops refl refl (no_pops pl));
      level = λ k. first (Level k) (stays_level k) refl next ws (apart (Level k) refl refl (no_level k pl));
    }

  -- ---- writes that reach no place
  module _ (i : Ins) (pc : ℕ) (next : Derived) (ws : List Write) (quiet : (p : Part) → same AtTaken p ≡ false → is_flag p ≡ false → same AtW p ≡ false → touches p ws ≡ false) where
    pub plain_moved : GoesTo (may_skip i) pc (value_in s next) → (writes_w i ≡ false → touches AtW ws ≡ false) → Moved i pc (apply (to AtPc next ∷ ws) s s)
    plain_moved g nw = record {
      place = subst (GoesTo (may_skip i) pc) (sym (goes next ws (quiet AtPc refl refl refl))) g;
      w = λ e. first AtW stays_w refl next ws (nw e);
      pclath = λ e. first AtPclath stays_pclath refl next ws (quiet AtPclath refl refl refl);
      intcon = λ e. first AtIntcon stays_intcon refl next ws (quiet AtIntcon refl refl refl);
      byte = λ e. first (Ram (cell - 0x20)) (stays_ram (cell - 0x20)) refl next ws (quiet (Ram (cell - 0x20)) refl refl refl);
      pushes = first AtPushes stays_pushes refl next ws (quiet AtPushes refl refl refl);
      pops = first AtPops stays_pops refl next ws (quiet AtPops refl refl refl);
      level = λ k. first (Level k) (stays_level k) refl next ws (quiet (Level k) refl refl refl);
    }

  -- ---- the forms of a row
  module _ (i : Ins) (inputs : List ℕ) (pc f : ℕ) where
    quiet_w : (reads : List Write) → ((p : Part) → same AtTaken p ≡ false → touches p reads ≡ false) → (v : Derived) (flags : List Write) → OnlyFlags flags
        → (p : Part) → same AtTaken p ≡ false → is_flag p ≡ false → same AtW p ≡ false → touches p (reads ++ (to AtW v ∷ flags)) ≡ false
    quiet_w reads q v flags o p a b c = touches_both p reads (to AtW v ∷ flags) (q p a) (or_from (same AtW p) (touches p flags) c (flags_apart p flags b o))

    pub byte_moved : (d : Bool) (result : Derived → Derived) (flags : Derived → List Write) (next : Derived → Derived)
        → written i ≡ (if d then Some f else None) → writes_w i ≡ not d → ((v : Derived) → OnlyFlags (flags v)) → ((v : Derived) → GoesTo (may_skip i) pc (value_in s (next v)))
        → writes 2 i ≡ false → writes 0 i ≡ false → Moved i pc (perform (byte_row inputs pc f d result flags next) s)
    byte_moved true result flags next is iw o g n2 n0 =
        let l = direct s f (absent i f 0 is n0) in
        let v = contents inputs pc (place l.bank f) in
        subst (λ (e : Effect). Moved i pc (apply e.writes s s)) (sym (l.same (λ p. let y = contents inputs pc p in Do (record {
          writes = to AtPc (next y) ∷ (after_read p ++ result_to true p (result y) (flags y));
          notes = note false p y ++ write_note true p (result y);
        }))))
        (file_moved i pc f is n2 l.bank (after_read (place l.bank f)) (read_apart (place l.bank f)) (is_empty (flags v)) (result v) (next v) (flags v) (o v) (g v))
    byte_moved false result flags next is iw o g n2 n0 =
        let l = leads s f in
        let v = contents inputs pc l.to in
        subst (λ (e : Effect). Moved i pc (apply e.writes s s)) (sym (l.same (λ p. let y = contents inputs pc p in Do (record {
          writes = to AtPc (next y) ∷ (after_read p ++ result_to false p (result y) (flags y));
          notes = note false p y ++ write_note false p (result y);
        }))))
        (plain_moved i pc (next v) (after_read l.to ++ (to AtW (result v) ∷ flags v)) (quiet_w (after_read l.to) (read_apart l.to) (result v) (flags v) (o v)) (g v) (λ e. absurd (both_ways (writes_w i) e iw)))

    pub write_moved : (v : Derived) (flags : List Write) → written i ≡ Some f → OnlyFlags flags → may_skip i ≡ false → writes 2 i ≡ false → writes 0 i ≡ false → Moved i pc (perform (write_row pc f v flags) s)
    write_moved v flags is o ns n2 n0 =
        let l = direct s f (absent i f 0 is n0) in
        subst (λ (e : Effect). Moved i pc (apply e.writes s s)) (sym (l.same (λ p. Do (record { writes = to AtPc (following pc) ∷ (store (is_empty flags) p v ++ flags); notes = note true p v }))))
        (file_moved i pc f is n2 l.bank [] (λ p e. refl) (is_empty flags) v (following pc) flags o (subst (λ b. GoesTo b pc ((pc + 1) % 8192)) (sym ns) refl))

    pub test_moved : (b v : ℕ) → may_skip i ≡ true → Moved i pc (perform (test_row inputs pc f b v) s)
    test_moved b v sk =
        let l = leads s f in
        let y = contents inputs pc l.to in
        subst (λ (e : Effect). Moved i pc (apply e.writes s s)) (sym (l.same (λ p. let y = contents inputs pc p in Do (record {
          writes = to AtPc (skipping pc (λ z. nat_eq (bit z b) v) y) ∷ after_read p;
          notes = note false p y;
        }))))
        (plain_moved i pc (skipping pc (λ z. nat_eq (bit z b) v) y) (after_read l.to) (λ p a b c. read_apart l.to p a)
        (subst (λ t. GoesTo t pc (value_in s (skipping pc (λ z. nat_eq (bit z b) v) y))) (sym sk) (skip_goes pc _)) (λ e. read_apart l.to AtW refl))

  -- ---- the rows
  abbrev none : Derived → List Write
  none v = []

  abbrev no_flag : (v : Derived) → OnlyFlags (none v)
  no_flag v = tt

  abbrev one_flag : (g : Derived → Derived) (v : Derived) → OnlyFlags (z_of (g v))
  one_flag g v = (refl, tt)

  on : (pc : ℕ) (v : Derived) → (pc + 1) % 8192 ≡ (pc + 1) % 8192
  on pc v = refl

  pub row_moved : (inputs : List ℕ) (pc : ℕ) (i : Ins) → is_straight i ≡ true → writes 2 i ≡ false → writes 0 i ≡ false → Moved i pc (perform (row inputs pc i) s)
  row_moved inputs pc (Addwf f d) h a b = byte_moved (Addwf f d) inputs pc f d (with_part AtW sum) sum_flags (λ v. following pc) refl refl (λ v. (refl, (refl, (refl, tt)))) (on pc) a b
  row_moved inputs pc (Andwf f d) h a b = byte_moved (Andwf f d) inputs pc f d (with_part AtW bit_and) (λ v. z_of (with_part AtW bit_and v)) (λ v. following pc) refl refl (λ v. (refl, tt)) (on pc) a b
  row_moved inputs pc (Clrf f) h a b = write_moved (Clrf f) inputs pc f (number 0) (to AtZ (number 1) ∷ []) refl (refl, tt) refl a b
  row_moved inputs pc Clrw h a b = plain_moved Clrw pc (following pc) (to AtW (number 0) ∷ to AtZ (number 1) ∷ []) (λ p x y z. or_from _ _ z (flags_apart p (to AtZ (number 1) ∷ []) y (refl, tt))) refl (λ e. absurd (cc))
  row_moved inputs pc (Comf f d) h a b = byte_moved (Comf f d) inputs pc f d (of complement) (λ v. z_of (of complement v)) (λ v. following pc) refl refl (λ v. (refl, tt)) (on pc) a b
  row_moved inputs pc (Decf f d) h a b = byte_moved (Decf f d) inputs pc f d (of decrement) (λ v. z_of (of decrement v)) (λ v. following pc) refl refl (λ v. (refl, tt)) (on pc) a b
  row_moved inputs pc (Decfsz f d) h a b = byte_moved (Decfsz f d) inputs pc f d (of decrement) none (λ v. skipping pc is_zero (of decrement v)) refl refl no_flag (λ v. skip_goes pc _) a b
  row_moved inputs pc (Incf f d) h a b = byte_moved (Incf f d) inputs pc f d (of increment) (λ v. z_of (of increment v)) (λ v. following pc) refl refl (λ v. (refl, tt)) (on pc) a b
  row_moved inputs pc (Incfsz f d) h a b = byte_moved (Incfsz f d) inputs pc f d (of increment) none (λ v. skipping pc is_zero (of increment v)) refl refl no_flag (λ v. skip_goes pc _) a b
  row_moved inputs pc (Iorwf f d) h a b = byte_moved (Iorwf f d) inputs pc f d (with_part AtW bit_or) (λ v. z_of (with_part AtW bit_or v)) (λ v. following pc) refl refl (λ v. (refl, tt)) (on pc) a b
  row_moved inputs pc (Movf f d) h a b = byte_moved (Movf f d) inputs pc f d (λ v. v) z_of (λ v. following pc) refl refl (λ v. (refl, tt)) (on pc) a b
  row_moved inputs pc (Movwf f) h a b = write_moved (Movwf f) inputs pc f (part AtW) [] refl tt refl a b
  row_moved inputs pc Nop h a b = plain_moved Nop pc (following pc) [] (λ p x y z. refl) refl (λ e. refl)
  row_moved inputs pc (Rlf f d) h a b = byte_moved (Rlf f d) inputs pc f d (with_part AtC (λ c v. (2 * v + c) % 256)) (λ v. to AtC (of (λ y. y / 128 % 2) v) ∷ []) (λ v. following pc) refl refl (λ v. (refl, tt)) (on pc) a b
  row_moved inputs pc (Rrf f d) h a b = byte_moved (Rrf f d) inputs pc f d (with_part AtC (λ c v. 128 * c + v / 2)) (λ v. to AtC (of (λ y. y % 2) v) ∷ []) (λ v. following pc) refl refl (λ v. (refl, tt)) (on pc) a b
  row_moved inputs pc (Subwf f d) h a b = byte_moved (Subwf f d) inputs pc f d (with_part AtW difference) difference_flags (λ v. following pc) refl refl (λ v. (refl, (refl, (refl, tt)))) (on pc) a b
  row_moved inputs pc (Swapf f d) h a b = byte_moved (Swapf f d) inputs pc f d (of swap) none (λ v. following pc) refl refl no_flag (on pc) a b
  row_moved inputs pc (Xorwf f d) h a b = byte_moved (Xorwf f d) inputs pc f d (with_part AtW bit_xor) (λ v. z_of (with_part AtW bit_xor v)) (λ v. following pc) refl refl (λ v. (refl, tt)) (on pc) a b
  row_moved inputs pc (Bcf f b) h a c = byte_moved (Bcf f b) inputs pc f true (of (clear_bit b)) none (λ v. following pc) refl refl no_flag (on pc) a c
  row_moved inputs pc (Bsf f b) h a c = byte_moved (Bsf f b) inputs pc f true (of (set_bit b)) none (λ v. following pc) refl refl no_flag (on pc) a c
  row_moved inputs pc (Btfsc f b) h a c = test_moved (Btfsc f b) inputs pc f b 0 refl
  row_moved inputs pc (Btfss f b) h a c = test_moved (Btfss f b) inputs pc f b 1 refl
  row_moved inputs pc (Addlw k) h a b = plain_moved (Addlw k) pc (following pc) (to AtW (of (λ w. sum w k) (part AtW)) ∷ sum_flags (number k)) (λ p x y z. or_from _ _ z (flags_apart p (sum_flags (number k)) y (refl, (refl, (refl, tt))))) refl (λ e. absurd (cc))
  row_moved inputs pc (Andlw k) h a b = plain_moved (Andlw k) pc (following pc) (to AtW (of (bit_and k) (part AtW)) ∷ z_of (of (bit_and k) (part AtW))) (λ p x y z. or_from _ _ z (flags_apart p (z_of (of (bit_and k) (part AtW))) y (refl, tt))) refl (λ e. absurd (cc))
  row_moved inputs pc Clrwdt h a b = plain_moved Clrwdt pc (following pc) [] (λ p x y z. refl) refl (λ e. refl)
  row_moved inputs pc (Iorlw k) h a b = plain_moved (Iorlw k) pc (following pc) (to AtW (of (bit_or k) (part AtW)) ∷ z_of (of (bit_or k) (part AtW))) (λ p x y z. or_from _ _ z (flags_apart p (z_of (of (bit_or k) (part AtW))) y (refl, tt))) refl (λ e. absurd (cc))
  row_moved inputs pc (Movlw k) h a b = plain_moved (Movlw k) pc (following pc) (to AtW (number k) ∷ []) (λ p x y z. or_from _ _ z refl) refl (λ e. absurd (cc))
  row_moved inputs pc (Sublw k) h a b = plain_moved (Sublw k) pc (following pc) (to AtW (of (λ w. difference w k) (part AtW)) ∷ difference_flags (number k)) (λ p x y z. or_from _ _ z (flags_apart p (difference_flags (number k)) y (refl, (refl, (refl, tt))))) refl (λ e. absurd (cc))
  row_moved inputs pc (Xorlw k) h a b = plain_moved (Xorlw k) pc (following pc) (to AtW (of (bit_xor k) (part AtW)) ∷ z_of (of (bit_xor k) (part AtW))) (λ p x y z. or_from _ _ z (flags_apart p (z_of (of (bit_xor k) (part AtW))) y (refl, tt))) refl (λ e. absurd (cc))
  row_moved inputs pc (Call k) h a b = absurd (cc)
  row_moved inputs pc (Goto k) h a b = absurd (cc)
  row_moved inputs pc Retfie h a b = absurd (cc)
  row_moved inputs pc (Retlw k) h a b = absurd (cc)
  row_moved inputs pc Return h a b = absurd (cc)
  row_moved inputs pc Sleep h a b = absurd (cc)
