-- A row of the table, on numbers.
use Rattle.std.proofs.Common.{◌≡◌, ℕ, ◌+◌, ◌-◌, ◌*◌, ◌/◌, ◌%◌, ◌≤◌, ◌<◌, Bool, true, false, List, [], ◌∷◌, ◌++◌, refl, sym, ap, ◌∙◌, length, slice_index, slice_set, arith}
use Rattle.std.specs.Prelude.{if◌then◌else◌, nat_eq}
use Rattle.pic_chip.specs.declared.processor.Flags.{Flags}
use Rattle.pic_chip.specs.declared.processor.Flags.TheVariants.{Keep, OnlyZ, OnlyC, Sums}
use Rattle.pic_chip.specs.State.{State, AtPc, AtIntcon, get, put}
use Rattle.pic_chip.specs.Act.{Derived, Write, Note, Made, made, accesses, Act, Do, value_in, apply, effect, perform}
use Rattle.pic_chip.specs.Address.{Place, Pcl, Status, Fsr, Pclath, Intcon, General, Device, Nothing}
use Rattle.pic_world.specs.Bits.{bit, clear_bit}
use Rattle.pic_chip.specs.Instructions.{contents, after_read, store, result_to, Rule, byte_row_by, test_row_by, write_row_by, is_empty, to, number, note_by, write_note_by, push, pop, plain_row, of, skipping, following}
use Rattle.pic_chip.specs.Interrupts.{enter}
use Rattle.pic_chip.specs.Changes.{Grows, stored, after_reading, flagged, keeps_flags, finished, row_done, pushed, popped}

-- ---- writes in a row
apply-append : (xs ys : List Write) (before s : State) → apply (xs ++ ys) before s ≡ apply ys before (apply xs before s)
apply-append [] ys before s = refl
apply-append (x ∷ xs) ys before s = apply-append xs ys before (put s x.to (value_in before x.value))

reads : (p : Place) (s : State) (n : ℕ) → apply (after_read p) s (record s { pc = n }) ≡ after_reading p (record s { pc = n })
reads (Device a) s n = refl
reads _ s n = refl

-- the place of the next instruction and the input are all that a read changes
stores : (plain : Bool) (p q : Place) (v : Derived) (s : State) (n : ℕ) → apply (store plain q v) s (after_reading p (record s { pc = n })) ≡ stored plain q (value_in s v) (after_reading p (record s { pc = n }))
stores plain (Device a) Pcl v s n = refl
stores true (Device a) Status v s n = refl
stores false (Device a) Status v s n = refl
stores plain (Device a) _ v s n = refl
stores plain _ Pcl v s n = refl
stores true _ Status v s n = refl
stores false _ Status v s n = refl
stores plain _ _ v s n = refl

stores_plain : (plain : Bool) (p : Place) (v : Derived) (s : State) (n : ℕ) → apply (store plain p v) s (record s { pc = n }) ≡ stored plain p (value_in s v) (record s { pc = n })
stores_plain true Status v s n = refl
stores_plain false Status v s n = refl
stores_plain plain _ v s n = refl

ends : (d : Bool) (p : Place) (v : Derived) (ws : List Write) (fl : Flags) (s : State) (n : ℕ) → ((t : State) → apply ws s t ≡ flagged fl (value_in s v) t) → is_empty ws ≡ keeps_flags fl → apply (result_to d p v ws) s (after_reading p (record s { pc = n })) ≡ finished p d (value_in s v) fl (after_reading p (record s { pc = n }))
ends true p v ws fl s n ef ek =
    apply-append (store (is_empty ws) p v) ws s (after_reading p (record s { pc = n }))
    ∙ ap (λ u. apply ws s u) (stores (is_empty ws) p p v s n)
    ∙ ef (stored (is_empty ws) p (value_in s v) (after_reading p (record s { pc = n })))
    ∙ ap (λ b. flagged fl (value_in s v) (stored b p (value_in s v) (after_reading p (record s { pc = n })))) ek
ends false p v ws fl s n ef ek = ef (record (after_reading p (record s { pc = n })) { w = value_in s v })

pub made-append : (xs ys : List Note) (s : State) → made (xs ++ ys) s ≡ made xs s ++ made ys s
made-append [] ys s = refl
made-append (n ∷ ns) ys s = ap (λ es. record { write = n.write; address = n.address; byte = value_in s n.value } ∷ es) (made-append ns ys s)

-- ---- rows with an operand
module _ (c : Rule) (inputs : List ℕ) (s : State) (f : ℕ) (p : Place) (leads : (next : Place → Act) → effect (c.find f next) s ≡ effect (next p) s) where
  -- by what the row does with the number that f holds
  pub row_runs : (d : Bool) (result : Derived → Derived) (flags : Derived → List Write) (next : Derived → Derived) (r n : ℕ) (fl : Flags) → value_in s (result (contents inputs s.pc p)) ≡ r → value_in s (next (contents inputs s.pc p)) ≡ n → ((t : State) → apply (flags (contents inputs s.pc p)) s t ≡ flagged fl r t) → is_empty (flags (contents inputs s.pc p)) ≡ keeps_flags fl → row_done n p d r fl s ≡ perform (byte_row_by c inputs s.pc f d result flags next) s
  row_runs d result flags next r n fl er en ef ek =
      let X = contents inputs s.pc p in
      let at = ap (λ l. apply l.writes s s) (leads (λ q. let y = contents inputs s.pc q in Do (record {
        writes = to AtPc (next y) ∷ (after_read q ++ result_to d q (result y) (flags y));
        notes = note_by c.lowest false q y ++ write_note_by c.lowest d q (result y);
      }))) in
      let t : State = record s { pc = value_in s (next X) } in
      let split = apply-append (after_read p) (result_to d p (result X) (flags X)) s t in
      let read = ap (λ u. apply (result_to d p (result X) (flags X)) s u) (reads p s (value_in s (next X))) in
      sym (at ∙ split ∙ read ∙ ends d p (result X) (flags X) fl s (value_in s (next X)) (λ t. ef t ∙ ap (λ v. flagged fl v t) (sym er)) ek ∙ ap (λ v. row_done (value_in s (next X)) p d v fl s) er ∙ ap (λ v. row_done v p d r fl s) en)

  pub row_notes : (d : Bool) (result : Derived → Derived) (flags : Derived → List Write) (next : Derived → Derived) → made (note_by c.lowest false p (contents inputs s.pc p) ++ write_note_by c.lowest d p (result (contents inputs s.pc p))) s ≡ accesses (byte_row_by c inputs s.pc f d result flags next) s
  row_notes d result flags next =
      sym (ap (λ l. made l.notes s) (leads (λ q. let y = contents inputs s.pc q in Do (record {
        writes = to AtPc (next y) ∷ (after_read q ++ result_to d q (result y) (flags y));
        notes = note_by c.lowest false q y ++ write_note_by c.lowest d q (result y);
      }))))

-- ---- the return stack
push_list : (xs : List ℕ) (v : ℕ) → length xs ≡ 8 →
    slice_set (slice_set (slice_set (slice_set (slice_set (slice_set (slice_set (slice_set xs 0 v) 1 (slice_index xs 0)) 2 (slice_index xs 1)) 3 (slice_index xs 2)) 4 (slice_index xs 3)) 5 (slice_index xs 4)) 6 (slice_index xs 5)) 7 (slice_index xs 6)
    ≡ v ∷ slice_index xs 0 ∷ slice_index xs 1 ∷ slice_index xs 2 ∷ slice_index xs 3 ∷ slice_index xs 4 ∷ slice_index xs 5 ∷ slice_index xs 6 ∷ []
push_list (a ∷ b ∷ c ∷ d ∷ e ∷ f ∷ g ∷ h ∷ []) v l = refl
push_list _ v l = absurd (omega arith)

pop_list : (xs : List ℕ) → length xs ≡ 8 →
    slice_set (slice_set (slice_set (slice_set (slice_set (slice_set (slice_set (slice_set xs 0 (slice_index xs 1)) 1 (slice_index xs 2)) 2 (slice_index xs 3)) 3 (slice_index xs 4)) 4 (slice_index xs 5)) 5 (slice_index xs 6)) 6 (slice_index xs 7)) 7 (slice_index xs 0)
    ≡ slice_index xs 1 ∷ slice_index xs 2 ∷ slice_index xs 3 ∷ slice_index xs 4 ∷ slice_index xs 5 ∷ slice_index xs 6 ∷ slice_index xs 7 ∷ slice_index xs 0 ∷ []
pop_list (a ∷ b ∷ c ∷ d ∷ e ∷ f ∷ g ∷ h ∷ []) l = refl
pop_list _ l = absurd (omega arith)

-- a push behind a jump
pub call_done : (s : State) (n pc intcon : ℕ) → length s.stack ≡ 8 → pushed n (record s { pc = pc; intcon = intcon }) ≡ apply (push (number n)) s (record s { pc = pc; intcon = intcon })
call_done s n pc intcon l = ap (λ xs. record s { pc = pc; intcon = intcon; pushes = s.pushes + 1; stack = xs }) (sym (push_list s.stack n l))

pub pop_done : (s : State) (w intcon : ℕ) → length s.stack ≡ 8 → popped (record s { w = w; intcon = intcon }) ≡ apply pop s (record s { w = w; intcon = intcon })
pop_done s w intcon l = ap (λ xs. record s { w = w; intcon = intcon; pc = slice_index s.stack 0; pops = s.pops + 1; stack = xs }) (sym (pop_list s.stack l))

pub enter_done : (s : State) → length s.stack ≡ 8 → pushed s.pc (record s { pc = 4; intcon = clear_bit 7 s.intcon }) ≡ perform enter s
enter_done s l = ap (λ xs. record s { pc = 4; intcon = clear_bit 7 s.intcon; pushes = s.pushes + 1; stack = xs }) (sym (push_list s.stack s.pc l))

-- ---- the other rows with an operand
module _ (c : Rule) (inputs : List ℕ) (s : State) (f : ℕ) (p : Place) (leads : (next : Place → Act) → effect (c.find f next) s ≡ effect (next p) s) where
  pub test_runs : (b v n : ℕ) → value_in s (skipping s.pc (λ y. nat_eq (bit y b) v) (contents inputs s.pc p)) ≡ n → after_reading p (record s { pc = n }) ≡ perform (test_row_by c inputs s.pc f b v) s
  test_runs b v n en =
      let next = λ (q : Place). value_in s (skipping s.pc (λ y. nat_eq (bit y b) v) (contents inputs s.pc q)) in
      sym (ap (λ l. apply l.writes s s) (leads (λ q. let x = contents inputs s.pc q in Do (record {
        writes = to AtPc (skipping s.pc (λ y. nat_eq (bit y b) v) x) ∷ after_read q;
        notes = note_by c.lowest false q x;
      })))
      ∙ reads p s (next p) ∙ ap (λ m. after_reading p (record s { pc = m })) en)

  pub test_notes : (b v : ℕ) → made (note_by c.lowest false p (contents inputs s.pc p)) s ≡ accesses (test_row_by c inputs s.pc f b v) s
  test_notes b v =
      sym (ap (λ l. made l.notes s) (leads (λ q. let x = contents inputs s.pc q in Do (record {
        writes = to AtPc (skipping s.pc (λ y. nat_eq (bit y b) v) x) ∷ after_read q;
        notes = note_by c.lowest false q x;
      }))))

  pub write_runs : (v : Derived) (ws : List Write) (r : ℕ) (fl : Flags) → value_in s v ≡ r → ((t : State) → apply ws s t ≡ flagged fl r t) → is_empty ws ≡ keeps_flags fl → finished p true r fl (record s { pc = (s.pc + 1) % 8192 }) ≡ perform (write_row_by c s.pc f v ws) s
  write_runs v ws r fl er ef ek =
      let t : State = record s { pc = (s.pc + 1) % 8192 } in
      sym (ap (λ l. apply l.writes s s) (leads (λ q. Do (record { writes = to AtPc (following s.pc) ∷ (store (is_empty ws) q v ++ ws); notes = note_by c.lowest true q v })))
      ∙ apply-append (store (is_empty ws) p v) ws s t
      ∙ ap (λ u. apply ws s u) (stores_plain (is_empty ws) p v s ((s.pc + 1) % 8192))
      ∙ ef (stored (is_empty ws) p (value_in s v) t)
      ∙ ap (λ b. flagged fl r (stored b p (value_in s v) t)) ek
      ∙ ap (λ x. flagged fl r (stored (keeps_flags fl) p x t)) er)

  pub write_notes : (v : Derived) (ws : List Write) → made (note_by c.lowest true p v) s ≡ accesses (write_row_by c s.pc f v ws) s
  write_notes v ws =
      sym (ap (λ l. made l.notes s) (leads (λ q. Do (record { writes = to AtPc (following s.pc) ∷ (store (is_empty ws) q v ++ ws); notes = note_by c.lowest true q v }))))
