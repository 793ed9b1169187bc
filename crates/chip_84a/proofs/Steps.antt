-- One instruction of each row on both chips.
use Rattle.std.proofs.Common.{◌≡◌, ℕ, ◌+◌, ◌%◌, ◌<◌, Bool, true, false, List, [], ◌∷◌, ◌++◌, Some, refl, sym, ap, ◌∙◌, subst}
use Rattle.std.specs.Prelude.{if◌then◌else◌, nat_eq, not}
use Rattle.pic_isa.specs.declared.Ins.{Ins}
use Rattle.pic_isa.specs.declared.Ins.TheVariants as isa
use Rattle.pic_chip.specs.declared.operation.Operation.{Operation}
use Rattle.pic_chip.specs.declared.operation.Operation.TheVariants as does
use Rattle.pic_chip.specs.declared.processor.Flags.{Flags}
use Rattle.pic_chip.specs.declared.processor.Flags.TheVariants.{Keep, OnlyZ}
use Rattle.pic_world.specs.Bits.{bit}
use Rattle.pic_chip.specs.Act.{Act, Made, value_in, effect, perform, accesses}
use Rattle.pic_chip.specs.Address.{Place, address_of}
use Rattle.pic_chip.specs.Changes.{after_reading, finished, row_done}
use Rattle.pic_chip.specs.Instructions.{Rule, contents, row_by, test_row_by, write_row_by, big, number, part, to}
use Rattle.pic_chip.specs.Operations.{result_of, operation_row_by}
use Rattle.pic_chip.specs.Run.{Range}
use Rattle.pic_chip.specs.State.{State, AtW, AtZ}
use Rattle.chip_84a.specs.Family.{Member, Fits, ShareBytes, has, rule_by, twin_by, twin_place}
use Rattle.chip_84a.specs.Lockstep.{place_of}
use Rattle.chip_84a.specs.Port.{ported_by, file_operand}
use Rattle.pic_chip.proofs.Done.{test_runs, test_notes, write_runs, write_notes}
use Rattle.chip_84a.proofs.Operating.{op_done, op_notes, outcome, flags_by, skips, result_is}
use Rattle.chip_84a.proofs.Places.{leads_first, leads_member, places_twin}
use Rattle.chip_84a.proofs.Shown.{IsClear, Shows, shows_alone, shows_both, shows_nothing}
use Rattle.chip_84a.proofs.Twins.{put_if, contents_twin, row_twin, reading_twin, finished_twin, finished_keeps, reading_keeps, made_is, both_made, made_at, made_if}

-- both chips behind an instruction
pub record Beside (m : Member) (fits : Fits m) (ranges : List Range) (u u' : State) (ms ms' : List Made) : Type 0 where
  pub ram : List ℕ
  pub bytes : ShareBytes m u.ram ram
  pub quiet : m.peripherals ≡ false → u.pie1 ≡ 0
  pub same : u' ≡ twin_by m.peripherals u ram
  pub shows : Shows m fits ranges ms' ms

-- the same by equal states and accesses
beside_by : (m : Member) (fits : Fits m) (ranges : List Range) (u v u' v' : State) (ms ns ms' ns' : List Made) → u ≡ v → u' ≡ v' → ms ≡ ns → ms' ≡ ns' → Beside m fits ranges v v' ns ns' → Beside m fits ranges u u' ms ms'
beside_by m fits ranges u v u' v' ms ns ms' ns' a b c d x =
    subst (λ z. Beside m fits ranges z u' ms ms') (sym a) (subst (λ z. Beside m fits ranges v z ms ms') (sym b) (subst (λ z. Beside m fits ranges v v' z ms') (sym c) (subst (λ z. Beside m fits ranges v v' ns z) (sym d) x)))

module _ (m : Member) (fits : Fits m) (inputs : List ℕ) (ranges : List Range) (clear : IsClear m fits ranges) (s : State) (ram : List ℕ) (bytes : ShareBytes m s.ram ram) (quiet : m.peripherals ≡ false → s.pie1 ≡ 0) where
  abbrev t : State
  t = twin_by m.peripherals s ram

  -- the rows of the member
  abbrev member : Rule
  member = rule_by m

  abbrev pub Steps : Act → Act → Type 0
  Steps a a' = Beside m fits ranges (perform a s) (perform a' t) (accesses a s) (accesses a' t)

  module _ (f : ℕ) (bank : s.bank < 2) (fsr : s.fsr < 256) (small_f : f < 128) (shared : has m (not (nat_eq f 0)) (place_of s f) ≡ true) where
    abbrev direct : Bool
    direct = not (nat_eq f 0)

    abbrev p : Place
    p = place_of s f

    abbrev p' : Place
    p' = twin_place m p

    leads : (next : Place → Act) → effect (big.find f next) s ≡ effect (next p) s
    leads next = leads_first s f next

    leads' : (next : Place → Act) → effect (member.find (m.operand f) next) t ≡ effect (next p') t
    leads' next = leads_member m t (m.operand f) next ∙ ap (λ q. effect (next q) t) (places_twin m fits s f bank fsr small_f shared)

    abbrev x : ℕ
    x = value_in s (contents inputs s.pc p)

    same_held : value_in t (contents inputs s.pc p') ≡ x
    same_held = contents_twin m fits direct p shared inputs s ram bytes

    -- a row with f and d, and one that changes a bit
    pub op_steps : (op : Operation) (d : Bool) → Steps (operation_row_by big inputs s.pc op f d) (operation_row_by member inputs s.pc op (m.operand f) d)
    op_steps op d =
        let n = (s.pc + (if skips op x then 2 else 1)) % 8192 in
        let v = outcome op s.w s.c x in
        let fl = flags_by op s.w x in
        let x' = value_in t (contents inputs s.pc p') in
        let done' : perform (operation_row_by member inputs s.pc op (m.operand f) d) t ≡ row_done n p' d v fl t =
        op_done member inputs t (m.operand f) p' leads' op d ∙ ap (λ y. row_done ((s.pc + (if skips op y then 2 else 1)) % 8192) p' d (outcome op s.w s.c y) (flags_by op s.w y) t) same_held in
        let notes : accesses (operation_row_by big inputs s.pc op f d) s ≡ made_at address_of false p x ++ made_if address_of d p v =
        op_notes big inputs s f p leads op d ∙ both_made address_of d p (contents inputs s.pc p) (result_of op (contents inputs s.pc p)) s ∙ ap (λ y. made_at address_of false p x ++ made_if address_of d p y) (result_is s (contents inputs s.pc p) op) in
        let notes' : accesses (operation_row_by member inputs s.pc op (m.operand f) d) t ≡ made_at m.lowest false p' x ++ made_if m.lowest d p' v =
        op_notes member inputs t (m.operand f) p' leads' op d ∙ both_made m.lowest d p' (contents inputs s.pc p') (result_of op (contents inputs s.pc p')) t
        ∙ ap (λ y. made_at m.lowest false p' x' ++ made_if m.lowest d p' y) (result_is t (contents inputs s.pc p') op)
        ∙ ap (λ y. made_at m.lowest false p' y ++ made_if m.lowest d p' (outcome op s.w s.c y)) same_held in
        let r = reading_keeps m fits p (record s { pc = n }) in
        let k = finished_keeps m fits direct p shared d v fl (after_reading p (record s { pc = n })) ram (subst (λ z. ShareBytes m z ram) (sym r.0) bytes) in
        beside_by m fits ranges _ (row_done n p d v fl s) _ (row_done n p' d v fl t) _ (made_at address_of false p x ++ made_if address_of d p v) _ (made_at m.lowest false p' x ++ made_if m.lowest d p' v)
        (op_done big inputs s f p leads op d) done' notes notes' (record {
          ram = put_if m fits d p v ram;
          bytes = k.0;
          quiet = λ off. k.1 off ∙ r.1 ∙ quiet off;
          same = row_twin m fits direct p shared n d v fl s ram;
          shows = shows_both m fits ranges clear direct p shared d x v;
        })

    -- BTFSC and BTFSS
    pub test_steps : (b v : ℕ) → Steps (test_row_by big inputs s.pc f b v) (test_row_by member inputs s.pc (m.operand f) b v)
    test_steps b v =
        let n = (s.pc + (if nat_eq (bit x b) v then 2 else 1)) % 8192 in
        let r = reading_keeps m fits p (record s { pc = n }) in
        beside_by m fits ranges _ (after_reading p (record s { pc = n })) _ (after_reading p' (record t { pc = n })) _ (made_at address_of false p x) _ (made_at m.lowest false p' x)
        (sym (test_runs big inputs s f p leads b v n refl))
        (sym (test_runs member inputs t (m.operand f) p' leads' b v n (ap (λ y. (s.pc + (if nat_eq (bit y b) v then 2 else 1)) % 8192) same_held)))
        (sym (test_notes big inputs s f p leads b v) ∙ made_is address_of false p (contents inputs s.pc p) s)
        (sym (test_notes member inputs t (m.operand f) p' leads' b v) ∙ made_is m.lowest false p' (contents inputs s.pc p') t ∙ ap (made_at m.lowest false p') same_held) (record {
          ram = ram;
          bytes = subst (λ z. ShareBytes m z ram) (sym r.0) bytes;
          quiet = λ off. r.1 ∙ quiet off;
          same = reading_twin m fits p n s ram;
          shows = shows_alone m fits ranges clear direct p shared false x;
        })

    abbrev next : State
    next = record s { pc = (s.pc + 1) % 8192 }

    stores : (v : ℕ) (fl : Flags) → Beside m fits ranges (finished p true v fl next) (finished p' true v fl (twin_by m.peripherals next ram)) (made_at address_of true p v) (made_at m.lowest true p' v)
    stores v fl =
        let k = finished_keeps m fits direct p shared true v fl next ram bytes in
        record {
          ram = put_if m fits true p v ram;
          bytes = k.0;
          quiet = λ off. k.1 off ∙ quiet off;
          same = finished_twin m fits direct p shared true v fl next ram;
          shows = shows_alone m fits ranges clear direct p shared true v;
        }

    pub movwf_steps : Steps (write_row_by big s.pc f (part AtW) []) (write_row_by member s.pc (m.operand f) (part AtW) [])
    movwf_steps =
        beside_by m fits ranges _ (finished p true s.w Keep next) _ (finished p' true s.w Keep (twin_by m.peripherals next ram)) _ (made_at address_of true p s.w) _ (made_at m.lowest true p' s.w)
        (sym (write_runs big inputs s f p leads (part AtW) [] s.w Keep refl (λ u. refl) refl)) (sym (write_runs member inputs t (m.operand f) p' leads' (part AtW) [] s.w Keep refl (λ u. refl) refl))
        (sym (write_notes big inputs s f p leads (part AtW) []) ∙ made_is address_of true p (part AtW) s) (sym (write_notes member inputs t (m.operand f) p' leads' (part AtW) []) ∙ made_is m.lowest true p' (part AtW) t)
        (stores s.w Keep)

    pub clrf_steps : Steps (write_row_by big s.pc f (number 0) (to AtZ (number 1) ∷ [])) (write_row_by member s.pc (m.operand f) (number 0) (to AtZ (number 1) ∷ []))
    clrf_steps =
        let zs = to AtZ (number 1) ∷ [] in
        beside_by m fits ranges _ (finished p true 0 OnlyZ next) _ (finished p' true 0 OnlyZ (twin_by m.peripherals next ram)) _ (made_at address_of true p 0) _ (made_at m.lowest true p' 0)
        (sym (write_runs big inputs s f p leads (number 0) zs 0 OnlyZ refl (λ u. refl) refl)) (sym (write_runs member inputs t (m.operand f) p' leads' (number 0) zs 0 OnlyZ refl (λ u. refl) refl))
        (sym (write_notes big inputs s f p leads (number 0) zs) ∙ made_is address_of true p (number 0) s) (sym (write_notes member inputs t (m.operand f) p' leads' (number 0) zs) ∙ made_is m.lowest true p' (number 0) t)
        (stores 0 OnlyZ)

  -- a row without an operand
  plain_steps : (a : Act) → (perform a s).ram ≡ s.ram → (perform a s).pie1 ≡ s.pie1 → perform a t ≡ twin_by m.peripherals (perform a s) ram → accesses a s ≡ [] → accesses a t ≡ [] → Steps a a
  plain_steps a r q e n n' = record {
    ram = ram;
    bytes = subst (λ z. ShareBytes m z ram) (sym r) bytes;
    quiet = λ off. q ∙ quiet off;
    same = e;
    shows = subst (λ z. Shows m fits ranges (accesses a t) z) (sym n) (subst (λ z. Shows m fits ranges z []) (sym n') (shows_nothing m fits ranges));
  }

  -- what an instruction may touch
  abbrev pub Fine : Ins → Type 0
  Fine i = (f : ℕ) → file_operand (Some i) ≡ Some f → (f < 128) × (has m (not (nat_eq f 0)) (place_of s f) ≡ true)

  pub ins_steps : (bank : s.bank < 2) (fsr : s.fsr < 256) (i : Ins) → Fine i → Steps (row_by big inputs s.pc i) (row_by member inputs s.pc (ported_by m.operand i))
  ins_steps bank fsr (isa.Addwf f d) h = let q = h f refl in op_steps f bank fsr q.0 q.1 does.Add d
  ins_steps bank fsr (isa.Andwf f d) h = let q = h f refl in op_steps f bank fsr q.0 q.1 does.And d
  ins_steps bank fsr (isa.Clrf f) h = let q = h f refl in clrf_steps f bank fsr q.0 q.1
  ins_steps bank fsr isa.Clrw h = plain_steps (row_by big inputs s.pc isa.Clrw) refl refl refl refl refl
  ins_steps bank fsr (isa.Comf f d) h = let q = h f refl in op_steps f bank fsr q.0 q.1 does.Complement d
  ins_steps bank fsr (isa.Decf f d) h = let q = h f refl in op_steps f bank fsr q.0 q.1 does.Decrement d
  ins_steps bank fsr (isa.Decfsz f d) h = let q = h f refl in op_steps f bank fsr q.0 q.1 does.DecrementSkip d
  ins_steps bank fsr (isa.Incf f d) h = let q = h f refl in op_steps f bank fsr q.0 q.1 does.Increment d
  ins_steps bank fsr (isa.Incfsz f d) h = let q = h f refl in op_steps f bank fsr q.0 q.1 does.IncrementSkip d
  ins_steps bank fsr (isa.Iorwf f d) h = let q = h f refl in op_steps f bank fsr q.0 q.1 does.Or d
  ins_steps bank fsr (isa.Movf f d) h = let q = h f refl in op_steps f bank fsr q.0 q.1 does.Move d
  ins_steps bank fsr (isa.Movwf f) h = let q = h f refl in movwf_steps f bank fsr q.0 q.1
  ins_steps bank fsr isa.Nop h = plain_steps (row_by big inputs s.pc isa.Nop) refl refl refl refl refl
  ins_steps bank fsr (isa.Rlf f d) h = let q = h f refl in op_steps f bank fsr q.0 q.1 does.RotateLeft d
  ins_steps bank fsr (isa.Rrf f d) h = let q = h f refl in op_steps f bank fsr q.0 q.1 does.RotateRight d
  ins_steps bank fsr (isa.Subwf f d) h = let q = h f refl in op_steps f bank fsr q.0 q.1 does.Subtract d
  ins_steps bank fsr (isa.Swapf f d) h = let q = h f refl in op_steps f bank fsr q.0 q.1 does.Swap d
  ins_steps bank fsr (isa.Xorwf f d) h = let q = h f refl in op_steps f bank fsr q.0 q.1 does.Xor d
  ins_steps bank fsr (isa.Bcf f b) h = let q = h f refl in op_steps f bank fsr q.0 q.1 (does.Clear b) true
  ins_steps bank fsr (isa.Bsf f b) h = let q = h f refl in op_steps f bank fsr q.0 q.1 (does.Set b) true
  ins_steps bank fsr (isa.Btfsc f b) h = let q = h f refl in test_steps f bank fsr q.0 q.1 b 0
  ins_steps bank fsr (isa.Btfss f b) h = let q = h f refl in test_steps f bank fsr q.0 q.1 b 1
  ins_steps bank fsr (isa.Addlw k) h = plain_steps (row_by big inputs s.pc (isa.Addlw k)) refl refl refl refl refl
  ins_steps bank fsr (isa.Andlw k) h = plain_steps (row_by big inputs s.pc (isa.Andlw k)) refl refl refl refl refl
  ins_steps bank fsr (isa.Call k) h = plain_steps (row_by big inputs s.pc (isa.Call k)) refl refl refl refl refl
  ins_steps bank fsr isa.Clrwdt h = plain_steps (row_by big inputs s.pc isa.Clrwdt) refl refl refl refl refl
  ins_steps bank fsr (isa.Goto k) h = plain_steps (row_by big inputs s.pc (isa.Goto k)) refl refl refl refl refl
  ins_steps bank fsr (isa.Iorlw k) h = plain_steps (row_by big inputs s.pc (isa.Iorlw k)) refl refl refl refl refl
  ins_steps bank fsr (isa.Movlw k) h = plain_steps (row_by big inputs s.pc (isa.Movlw k)) refl refl refl refl refl
  ins_steps bank fsr isa.Retfie h = plain_steps (row_by big inputs s.pc isa.Retfie) refl refl refl refl refl
  ins_steps bank fsr (isa.Retlw k) h = plain_steps (row_by big inputs s.pc (isa.Retlw k)) refl refl refl refl refl
  ins_steps bank fsr isa.Return h = plain_steps (row_by big inputs s.pc isa.Return) refl refl refl refl refl
  ins_steps bank fsr isa.Sleep h = plain_steps (row_by big inputs s.pc isa.Sleep) refl refl refl refl refl
  ins_steps bank fsr (isa.Sublw k) h = plain_steps (row_by big inputs s.pc (isa.Sublw k)) refl refl refl refl refl
  ins_steps bank fsr (isa.Xorlw k) h = plain_steps (row_by big inputs s.pc (isa.Xorlw k)) refl refl refl refl refl
