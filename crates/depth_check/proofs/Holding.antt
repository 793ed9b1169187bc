-- What facts say of a state, and that they hold behind an instruction.
use Rattle.std.proofs.Common.{◌≡◌, ℕ, ◌-◌, ◌%◌, ◌<◌, ◌≤◌, Bool, true, false, List, [], ◌∷◌, ◌++◌, Option, Some, None, refl, sym, ap, ◌∙◌, subst, ⊎_elim, arith}
use Rattle.std.specs.Prelude.{if◌then◌else◌, not, ◌&&◌, ◌||◌, nat_eq, slice_index, slice_set}
use Rattle.std.proofs.lemmas.Bool.{cond_both, and_parts, or_cases, eqb-true, not-true}
use Rattle.pic_isa.specs.declared.Ins.{Ins}
use Rattle.pic_isa.specs.declared.Ins.TheVariants.{Clrf, Movf, Movwf, Bcf, Bsf}
use Rattle.pic_world.specs.Bits.{bit, set_bit, clear_bit, truth}
use Rattle.pic_chip.proofs.BitCases.{at_each}
use Rattle.pic_chip.specs.State.{State, AtPc, AtW}
use Rattle.pic_chip.specs.Act.{Act, Do, perform}
use Rattle.pic_chip.specs.Instructions.{row, contents, after_read, result_to, following, to, part, z_of, note, write_note, store}
use Rattle.depth_check.specs.declared.Facts.{Facts}
use Rattle.depth_check.specs.Facts.{writes, writes_w, is_movwf, bit_written, loads, after, is_known, known_in, implies, fits}
use Rattle.depth_check.specs.Valid.{spares_gie}
use Rattle.pic_chip.proofs.Ranges.{IsRanged, IsSmall}
use Rattle.depth_check.proofs.Parts.{set_here}
use Rattle.depth_check.proofs.Places.{cell_place}
use Rattle.depth_check.proofs.Step.{Moved}

-- ---- what is known of a bit
abbrev pub Knows : Option Bool → ℕ → Type 0
Knows None v = Unit {0}
Knows (Some b) v = v ≡ truth b

same_known : (b c : Bool) (v : ℕ) → is_known b (Some c) ≡ true → v ≡ truth c → v ≡ truth b
same_known true true v e h = h
same_known true false v e h = absurd (cc)
same_known false true v e h = absurd (cc)
same_known false false v e h = h

pub knows_less : (row here : Option Bool) (v : ℕ) → known_in row here ≡ true → Knows here v → Knows row v
knows_less None here v e h = tt
knows_less (Some b) None v e h = absurd (cc)
knows_less (Some b) (Some c) v e h = same_known b c v e h

pub implied : (a b : Bool) → implies a b ≡ true → a ≡ true → b ≡ true
implied true b e h = e
implied false b e h = absurd (cc)

module _ (cell : ℕ) (lo : 0x70 ≤ cell) (hi : cell < 0x80) where
  -- o is the PCLATH of what was interrupted
  pub record Holds (x : Facts) (o : ℕ) (s : State) : Type 0 where
    pub p3 : Knows x.p3 (bit s.pclath 3)
    pub p4 : Knows x.p4 (bit s.pclath 4)
    pub orig : x.orig ≡ true → s.pclath ≡ o
    pub w_orig : x.w_orig ≡ true → s.w ≡ o
    pub saved : x.saved ≡ true → slice_index s.ram (cell - 0x20) ≡ o

  pub weaker : (x y : Facts) (o : ℕ) (s : State) → fits x y ≡ true → Holds x o s → Holds y o s
  weaker x y o s e h =
      let a = and_parts _ (implies y.saved x.saved) e in
      let b = and_parts _ (implies y.w_orig x.w_orig) a.0 in
      let c = and_parts _ (implies y.orig x.orig) b.0 in
      let d = and_parts (known_in y.p3 x.p3) (known_in y.p4 x.p4) c.0 in
      record {
        p3 = knows_less y.p3 x.p3 (bit s.pclath 3) d.0 h.p3;
        p4 = knows_less y.p4 x.p4 (bit s.pclath 4) d.1 h.p4;
        orig = λ q. h.orig (implied y.orig x.orig c.1 q);
        w_orig = λ q. h.w_orig (implied y.w_orig x.w_orig b.1 q);
        saved = λ q. h.saved (implied y.saved x.saved a.1 q);
      }

  module _ (inputs : List ℕ) (pc : ℕ) (s : State) (r : IsRanged s) where
    abbrev pub done : Ins → State
    done i = perform (row inputs pc i) s

    -- ---- PCLATH
    module _ (n : ℕ) (cleared : (b x : ℕ) → b < 8 → x < 256 → bit (clear_bit b x % 32) n ≡ (if nat_eq b n then 0 else bit x n))
        (set : (b x : ℕ) → b < 8 → x < 256 → bit (set_bit b x % 32) n ≡ (if nat_eq b n then 1 else bit x n)) (none : bit 0 n ≡ 0) where
      chosen : (c v : Bool) (known : Option Bool) (x : ℕ) → Knows known x → Knows (if c then Some v else known) (if c then truth v else x)
      chosen true v known x h = refl
      chosen false v known x h = h

      bit_known : (i : Ins) (known : Option Bool) → writes 10 i ≡ true → IsSmall i → Knows known (bit s.pclath n) → Knows (bit_written n i known) (bit (done i).pclath n)
      bit_known (Bcf f b) known e small h =
          let small' : b < 8 = small in
          let p = r.pclath in
          subst (λ g. Knows (bit_written n (Bcf f b) known) (bit (done (Bcf g b)).pclath n)) (sym (eqb-true f 10 e))
          (subst (Knows (bit_written n (Bcf f b) known)) (sym (cleared b s.pclath small' (omega arith))) (chosen (nat_eq b n) false known (bit s.pclath n) h))
      bit_known (Bsf f b) known e small h =
          let small' : b < 8 = small in
          let p = r.pclath in
          subst (λ g. Knows (bit_written n (Bsf f b) known) (bit (done (Bsf g b)).pclath n)) (sym (eqb-true f 10 e))
          (subst (Knows (bit_written n (Bsf f b) known)) (sym (set b s.pclath small' (omega arith))) (chosen (nat_eq b n) true known (bit s.pclath n) h))
      bit_known (Clrf f) known e small h = subst (λ g. bit (done (Clrf g)).pclath n ≡ 0) (sym (eqb-true f 10 e)) none
      bit_known _ known e small h = tt

      pub bit_after : (i : Ins) (known : Option Bool) → IsSmall i → (writes 10 i ≡ false → (done i).pclath ≡ s.pclath) → Knows known (bit s.pclath n)
          → Knows (if writes 10 i then bit_written n i known else known) (bit (done i).pclath n)
      bit_after i known small same h = cond_both (writes 10 i) (bit_written n i known) known (λ k. Knows k (bit (done i).pclath n))
          (λ e. bit_known i known e small h) (λ e. subst (λ p. Knows known (bit p n)) (sym (same e)) h)

    third : (i : Ins) (known : Option Bool) → IsSmall i → (writes 10 i ≡ false → (done i).pclath ≡ s.pclath) → Knows known (bit s.pclath 3) → Knows (if writes 10 i then bit_written 3 i known else known) (bit (done i).pclath 3)
    third = bit_after 3 (at_each (λ b x. bit (clear_bit b x % 32) 3) (λ b x. if nat_eq b 3 then 0 else bit x 3) refl) (at_each (λ b x. bit (set_bit b x % 32) 3) (λ b x. if nat_eq b 3 then 1 else bit x 3) refl) refl

    fourth : (i : Ins) (known : Option Bool) → IsSmall i → (writes 10 i ≡ false → (done i).pclath ≡ s.pclath) → Knows known (bit s.pclath 4) → Knows (if writes 10 i then bit_written 4 i known else known) (bit (done i).pclath 4)
    fourth = bit_after 4 (at_each (λ b x. bit (clear_bit b x % 32) 4) (λ b x. if nat_eq b 4 then 0 else bit x 4) refl) (at_each (λ b x. bit (set_bit b x % 32) 4) (λ b x. if nat_eq b 4 then 1 else bit x 4) refl) refl

    -- ---- what was interrupted
    module _ (o : ℕ) (small_o : o < 32) (x : Facts) (h : Holds x o s) where
      restored : (i : Ins) → writes 10 i ≡ true → (is_movwf i && x.w_orig) ≡ true → (done i).pclath ≡ o
      restored (Movwf f) e g =
          let q : s.w ≡ o = h.w_orig g in
          subst (λ n. (done (Movwf n)).pclath ≡ o) (sym (eqb-true f 10 e)) (small q) where
            small : s.w ≡ o → s.w % 32 ≡ o
            small q = omega arith
      restored _ e g = absurd (cc)

      read_cell : (f : ℕ) → f ≡ cell → (done (Movf f false)).w ≡ slice_index s.ram (cell - 0x20)
      read_cell f e = subst (λ n. (done (Movf n false)).w ≡ slice_index s.ram (cell - 0x20)) (sym e) (ap (λ (a : Act). (perform a s).w) (cell_place cell lo (λ p. let y = contents inputs pc p in Do (record {
        writes = to AtPc (following pc) ∷ (after_read p ++ result_to false p y (z_of y));
        notes = note false p y ++ write_note false p y;
      }))))

      loaded : (i : Ins) → writes_w i ≡ true → loads cell i x ≡ true → (done i).w ≡ o
      loaded (Movf f true) e g = absurd (cc)
      loaded (Movf f false) e g = ⊎_elim
          (λ a. let p = and_parts (nat_eq f 10) x.orig a in subst (λ n. (done (Movf n false)).w ≡ o) (sym (eqb-true f 10 p.0)) (h.orig p.1))
          (λ a. let p = and_parts (nat_eq f cell) x.saved a in read_cell f (eqb-true f cell p.0) ∙ h.saved p.1)
          (or_cases (nat_eq f 10 && x.orig) (nat_eq f cell && x.saved) g)
      loaded _ e g = absurd (cc)

      kept : (i : Ins) → writes cell i ≡ true → (is_movwf i && x.w_orig) ≡ true → slice_index (done i).ram (cell - 0x20) ≡ o
      kept (Movwf f) e g =
          let here : slice_index (slice_set s.ram (cell - 0x20) s.w) (cell - 0x20) ≡ s.w = set_here s.ram (cell - 0x20) s.w (let c = r.count in omega arith) in
          subst (λ n. slice_index (done (Movwf n)).ram (cell - 0x20) ≡ o) (sym (eqb-true f cell e))
          (ap (λ (a : Act). slice_index (perform a s).ram (cell - 0x20)) (cell_place cell lo (λ p. Do (record { writes = to AtPc (following pc) ∷ (store true p (part AtW) ++ []); notes = note true p (part AtW) }))) ∙ here ∙ h.w_orig g)
      kept _ e g = absurd (cc)

      pub holds_after : (i : Ins) → IsSmall i → Moved cell lo hi s i pc (done i) → Holds (after cell i x) o (done i)
      holds_after i small m = record {
        p3 = third i x.p3 small m.pclath h.p3;
        p4 = fourth i x.p4 small m.pclath h.p4;
        orig = cond_both (writes 10 i) (is_movwf i && x.w_orig) x.orig (λ b. b ≡ true → (done i).pclath ≡ o) (restored i) (λ e q. m.pclath e ∙ h.orig q);
        w_orig = cond_both (writes_w i) (loads cell i x) x.w_orig (λ b. b ≡ true → (done i).w ≡ o) (loaded i) (λ e q. m.w e ∙ h.w_orig q);
        saved = cond_both (writes cell i) (is_movwf i && x.w_orig) x.saved (λ b. b ≡ true → slice_index (done i).ram (cell - 0x20) ≡ o) (kept i) (λ e q. m.byte e ∙ h.saved q);
      }

    -- ---- GIE
    gie_cleared : (b v : ℕ) → b < 8 → v < 256 → bit v 7 ≡ 0 → bit (clear_bit b v) 7 ≡ 0
    gie_cleared b v hb hv e = at_each (λ b x. bit (clear_bit b x) 7) (λ b x. if nat_eq b 7 then 0 else bit x 7) refl b v hb hv ∙ either (nat_eq b 7) where
      either : (c : Bool) → (if c then 0 else bit v 7) ≡ 0
      either true = refl
      either false = e

    gie_left : (b v : ℕ) → b < 8 → v < 256 → nat_eq b 7 ≡ false → bit v 7 ≡ 0 → bit (set_bit b v) 7 ≡ 0
    gie_left b v hb hv ne e = at_each (λ b x. bit (set_bit b x) 7) (λ b x. if nat_eq b 7 then 1 else bit x 7) refl b v hb hv ∙ ap (λ c. if c then 1 else bit v 7) ne ∙ e

    spared : (i : Ins) → writes 11 i ≡ true → spares_gie i ≡ true → IsSmall i → bit s.intcon 7 ≡ 0 → bit (done i).intcon 7 ≡ 0
    spared (Bcf f b) e g small h = subst (λ n. bit (done (Bcf n b)).intcon 7 ≡ 0) (sym (eqb-true f 11 e)) (gie_cleared b s.intcon small r.intcon h)
    spared (Bsf f b) e g small h = subst (λ n. bit (done (Bsf n b)).intcon 7 ≡ 0) (sym (eqb-true f 11 e)) (gie_left b s.intcon small r.intcon (not-true (nat_eq b 7) g) h)
    spared _ e g small h = absurd (cc)

    by_write : (i : Ins) (b : Bool) → writes 11 i ≡ b → (not b || spares_gie i) ≡ true → IsSmall i → (writes 11 i ≡ false → (done i).intcon ≡ s.intcon) → bit s.intcon 7 ≡ 0 → bit (done i).intcon 7 ≡ 0
    by_write i true e g small same h = spared i e g small h
    by_write i false e g small same h = ap (λ v. bit v 7) (same e) ∙ h

    pub gie_stays : (i : Ins) → (not (writes 11 i) || spares_gie i) ≡ true → IsSmall i → (writes 11 i ≡ false → (done i).intcon ≡ s.intcon) → bit s.intcon 7 ≡ 0 → bit (done i).intcon 7 ≡ 0
    gie_stays i = by_write i (writes 11 i) refl
