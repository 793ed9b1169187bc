-- One instruction of the start block behind its first jump, on the chip and on what its stores leave.
use Rattle.std.proofs.Common.{◌≡◌, ℕ, ◌+◌, ◌/◌, ◌%◌, ◌<◌, inl, Bool, true, false, List, Option, Some, None, refl, sym, ap, ◌∙◌, true≢false, arith}
use Rattle.std.specs.Prelude.{nat_eq, option_map}
use Rattle.std.proofs.lemmas.Bool.{eqb-true, eqb-false}
use Rattle.core_code.specs.declared.code.Byte.TheVariants.{Static}
use Rattle.pic_isa.specs.declared.Ins.{Ins}
use Rattle.pic_isa.specs.declared.Ins.TheVariants as isa
use Rattle.pic_chip.specs.Act.{Act, effect}
use Rattle.pic_chip.specs.Address as chip
use Rattle.pic_chip.specs.Address.{Place, General, place, operand}
use Rattle.pic_chip.specs.Interrupts.{control_of}
use Rattle.pic_chip.specs.State.{State}
use Rattle.pic_map.specs.declared.Placed.{Placed}
use Rattle.pic_world.specs.Bits.{set_bit, clear_bit, truth}
use Rattle.sym_code.specs.Effect.{literal_value}
use Rattle.sym_code.specs.Layout as layouts
use Rattle.sym_code.specs.Layout.{DataLayout, object, is_covered, IsLaidOut}
use Rattle.sym_code.specs.Programs.{Program, block_of}
use Rattle.sym_code.specs.declared.code.BankBit.TheVariants.{Rp0, Rp1}
use Rattle.sym_code.specs.declared.code.BlockName.{BlockName}
use Rattle.sym_code.specs.declared.code.BlockName.TheVariants.{Start}
use Rattle.sym_code.specs.declared.code.Literal.{Literal}
use Rattle.sym_code.specs.declared.code.LiteralOperation.TheVariants.{Movlw}
use Rattle.sym_code.specs.declared.code.Operand.TheVariants as operands
use Rattle.sym_code.specs.declared.code.PageBit.{PageBit}
use Rattle.sym_code.specs.declared.code.PageBit.TheVariants.{Low, High}
use Rattle.sym_code.specs.declared.code.Sym.{Sym}
use Rattle.sym_code.specs.declared.code.Sym.TheVariants as syms
use Rattle.sym_code.specs.declared.code.Target.{Target}
use Rattle.code_place.specs.Addresses.{address_of}
use Rattle.code_place.specs.Instructions.{bank_row, bit_set}
use Rattle.code_place.specs.Layouts.{layout_of}
use Rattle.code_place.proofs.Layouts.{by_layout}
use Rattle.bank_page.specs.Known.{is_bit, seen_after}
use Rattle.bank_page.specs.Near.{sets_rp1}
use Rattle.bank_page.specs.Selected.{is_right, has_bank, reaches_byte}
use Rattle.bank_page.specs.Step.{rp0_of, rp1_of}
use Rattle.bank_page.specs.declared.known.Known.{Known}
use Rattle.pic_chip.proofs.Ranges.{IsRanged}
use Rattle.chip_trace.specs.Keeping.{file_of, Touches}
use Rattle.chip_trace.proofs.Relations.{page_row}
use Rattle.chip_trace.proofs.Sound.{left_of, right_of}
use Rattle.chip_trace.proofs.StartKnows as selects
use Rattle.chip_trace.specs.Context.{Knows}
use Rattle.chip_trace.proofs.StartNumbers.{IsGeneral, number_at, byte_general, number_is, small}
use Rattle.chip_trace.proofs.StartRows.{Goes, S, with_status, with_pclath, movlw_goes, movwf_goes, clrf_goes, bsf_status, bcf_status, bsf_pclath, bcf_pclath}
use Rattle.chip_trace.proofs.Touched.{at_place, bank_touches, select_touches, object_covered}
use Rattle.chip_trace.proofs.StartStores.{number_of, w_after, ram_after}

pub data Kind : Type 0 where
  OfRp0 : Bool → Kind
  OfRp1 : Bool → Kind
  OfPage : PageBit → Target → Kind
  Load : Literal → Kind
  Store : ℕ → ℕ → Kind
  Clear : ℕ → ℕ → Kind

abbrev pub sym_of : Kind → Sym
sym_of (OfRp0 on) = syms.SelectBank Rp0 on
sym_of (OfRp1 on) = syms.SelectBank Rp1 on
sym_of (OfPage which target) = syms.SelectPage which target
sym_of (Load v) = syms.Literal Movlw v
sym_of (Store n o) = syms.Movwf (operands.Byte (Static n o))
sym_of (Clear n o) = syms.Clrf (operands.Byte (Static n o))

abbrev pub InSize : DataLayout → Kind → Type 0
InSize l (Store n o) = o < (object l n).size
InSize l (Clear n o) = o < (object l n).size
InSize l _ = Unit {0}

truth_of : (n : ℕ) → n < 2 → truth (nat_eq n 1) ≡ n
truth_of n h = by (nat_eq n 1) refl where
  by : (b : Bool) → nat_eq n 1 ≡ b → truth b ≡ n
  by true e = sym (eqb-true n 1 e)
  by false e = let ne = eqb-false n 1 e in omega (arith, ne, h)

zero_of : (n : ℕ) → n < 2 → nat_eq n 1 ≡ false → 0 ≡ n
zero_of n lt e = let ne = eqb-false n 1 e in omega (arith, ne, lt)

bit_is : (o : Option Bool) (on : Bool) → is_bit o on ≡ true → o ≡ Some on
bit_is None on e = absurd (cc)
bit_is (Some true) true e = refl
bit_is (Some false) false e = refl
bit_is (Some true) false e = absurd (cc)
bit_is (Some false) true e = absurd (cc)

module _ (reaches : ℕ → ℕ → Bool) (placed : Placed) (laid : IsLaidOut reaches (layout_of placed)) (pages : BlockName → ℕ) (inputs : List ℕ) where
  abbrev pub l : DataLayout
  l = layout_of placed

  abbrev pub ins_of : Kind → Ins
  ins_of (OfRp0 on) = bank_row Rp0 on
  ins_of (OfRp1 on) = bank_row Rp1 on
  ins_of (OfPage which target) = page_row which (pages (block_of Start target))
  ins_of (Load v) = isa.Movlw (literal_value l v)
  ins_of (Store n o) = isa.Movwf (layouts.address_of l (Static n o) % 128)
  ins_of (Clear n o) = isa.Clrf (layouts.address_of l (Static n o) % 128)

  pub record Stepped (s : State) (x : Sym) (k : Known) (n : Ins) : Type 0 where
    pub t : State
    pub goes : Goes inputs s n t
    pub pc : t.pc ≡ (s.pc + 1) % 8192
    pub knows : Knows pages k t
    pub w : t.w ≡ w_after l x s.w
    pub ram : t.ram ≡ ram_after l x s.w s.ram
    pub control : control_of t ≡ control_of s
    pub pushes : t.pushes ≡ s.pushes
    pub pops : t.pops ≡ s.pops
    -- RP1 and IRP stay 0 where the instruction doesn't set RP1
    pub low : sets_rp1 x ≡ false → s.bank < 2 → t.bank < 2

  module _ (k : Known) (behind : Bool) (s : State) (x : IsRanged s) (knows : Knows pages k s) where
    abbrev Step : Kind → Ins → Type 0
    Step kind n = Stepped s (sym_of kind) (seen_after Start k (sym_of kind) behind) n

    by_status : (kind : Kind) (n : Ins) (v : ℕ) → (sets_rp1 (sym_of kind) ≡ false → s.bank < 2 → v / 32 < 2) → Goes inputs s n (with_status inputs s v) → Knows pages (seen_after Start k (sym_of kind) behind) (with_status inputs s v) → s.w ≡ w_after l (sym_of kind) s.w → s.ram ≡ ram_after l (sym_of kind) s.w s.ram → Step kind n
    by_status kind n v l y z w ram = record { t = with_status inputs s v; goes = y; pc = refl; knows = z; w = w; ram = ram; control = refl; pushes = refl; pops = refl; low = l }

    by_pclath : (kind : Kind) (n : Ins) (v : ℕ) → Goes inputs s n (with_pclath inputs s v) → Knows pages (seen_after Start k (sym_of kind) behind) (with_pclath inputs s v) → s.w ≡ w_after l (sym_of kind) s.w → s.ram ≡ ram_after l (sym_of kind) s.w s.ram → Step kind n
    by_pclath kind n v y z w ram = record { t = with_pclath inputs s v; goes = y; pc = refl; knows = z; w = w; ram = ram; control = refl; pushes = refl; pops = refl; low = λ e lt. lt }

    rp0 : (on : Bool) → Step (OfRp0 on) (bank_row Rp0 on)
    rp0 true =
        let v = set_bit 5 (S inputs s) in let q = selects.rp0_set inputs s x in
        by_status (OfRp0 true) (isa.Bsf 3 5) v (λ e lt. (selects.rp0_low inputs s x lt).0) (bsf_status inputs s 5) (selects.learned_rp0 pages k s (with_status inputs s v) knows true q.0 q.1 refl) refl refl
    rp0 false =
        let v = clear_bit 5 (S inputs s) in let q = selects.rp0_clear inputs s x in
        by_status (OfRp0 false) (isa.Bcf 3 5) v (λ e lt. (selects.rp0_low inputs s x lt).1) (bcf_status inputs s 5) (selects.learned_rp0 pages k s (with_status inputs s v) knows false q.0 q.1 refl) refl refl

    rp1 : (on : Bool) → Step (OfRp1 on) (bank_row Rp1 on)
    rp1 true =
        let v = set_bit 6 (S inputs s) in let q = selects.rp1_set inputs s x in
        by_status (OfRp1 true) (isa.Bsf 3 6) v (λ e lt. absurd (true≢false e)) (bsf_status inputs s 6) (selects.learned_rp1 pages k s (with_status inputs s v) knows true q.0 q.1 refl) refl refl
    rp1 false =
        let v = clear_bit 6 (S inputs s) in let q = selects.rp1_clear inputs s x in
        by_status (OfRp1 false) (isa.Bcf 3 6) v (λ e lt. selects.rp1_low inputs s x lt) (bcf_status inputs s 6) (selects.learned_rp1 pages k s (with_status inputs s v) knows false q.0 q.1 refl) refl refl

    page_low : (target : Target) (b : Bool) → nat_eq (pages (block_of Start target) % 2) 1 ≡ b → Step (OfPage Low target) (bit_set 0x0a 3 b)
    page_low target true e =
        let v = set_bit 3 s.pclath in let q = selects.page_low_set inputs s x in
        by_pclath (OfPage Low target) (isa.Bsf 10 3) v (bsf_pclath inputs s 3)
        (selects.learned_low pages k s (with_pclath inputs s v) knows (block_of Start target) (q.0 ∙ sym (eqb-true (pages (block_of Start target) % 2) 1 e)) q.1 refl) refl refl
    page_low target false e =
        let v = clear_bit 3 s.pclath in let q = selects.page_low_clear inputs s x in
        by_pclath (OfPage Low target) (isa.Bcf 10 3) v (bcf_pclath inputs s 3)
        (selects.learned_low pages k s (with_pclath inputs s v) knows (block_of Start target) (q.0 ∙ zero_of (pages (block_of Start target) % 2) (omega arith) e) q.1 refl) refl refl

    page_high : (target : Target) (b : Bool) → nat_eq (pages (block_of Start target) / 2 % 2) 1 ≡ b → Step (OfPage High target) (bit_set 0x0a 4 b)
    page_high target true e =
        let v = set_bit 4 s.pclath in let q = selects.page_high_set inputs s x in
        by_pclath (OfPage High target) (isa.Bsf 10 4) v (bsf_pclath inputs s 4)
        (selects.learned_high pages k s (with_pclath inputs s v) knows (block_of Start target) (q.0 ∙ sym (eqb-true (pages (block_of Start target) / 2 % 2) 1 e)) q.1 refl) refl refl
    page_high target false e =
        let v = clear_bit 4 s.pclath in let q = selects.page_high_clear inputs s x in
        by_pclath (OfPage High target) (isa.Bcf 10 4) v (bcf_pclath inputs s 4)
        (selects.learned_high pages k s (with_pclath inputs s v) knows (block_of Start target) (q.0 ∙ zero_of (pages (block_of Start target) / 2 % 2) (omega arith) e) q.1 refl) refl refl

    load : (v : Literal) → Step (Load v) (isa.Movlw (literal_value l v))
    load v =
        let y = selects.kept pages k s (record s { pc = (s.pc + 1) % 8192; w = literal_value l v }) knows refl refl in
        record {
          t = record s { pc = (s.pc + 1) % 8192; w = literal_value l v };
          goes = movlw_goes inputs s (literal_value l v);
          pc = refl;
          knows = record { rp0 = y.rp0; rp1 = y.rp1; low = y.low; high = y.high };
          w = refl;
          ram = refl;
          control = refl;
          pushes = refl;
          pops = refl;
          low = λ e lt. lt;
        }

    -- ---- a byte whose bank is selected
    module _ (n o : ℕ) (fits : o < (object l n).size) (right : reaches_byte placed k (Some (Static n o)) ≡ true) where
      abbrev A : ℕ
      A = (object l n).address + o

      abbrev f : ℕ
      f = layouts.address_of l (Static n o) % 128

      address_is : layouts.address_of l (Static n o) ≡ A
      unfolding layouts.address_of
      address_is = refl

      bank_bits : (a : Option ℕ) → address_of placed (Static n o) ≡ a → has_bank k (option_map (λ at. at / 128) a) ≡ true → (is_bit k.rp1 (rp1_of (A / 128)) ≡ true) × (is_bit k.rp0 (rp0_of (A / 128)) ≡ true)
      bank_bits None e h = absurd (cc)
      bank_bits (Some a) e h =
          let q : a ≡ A = sym (by_layout placed (Static n o) a e) ∙ address_is in
          let b = a / 128 in (
            ap (λ z. is_bit k.rp1 (rp1_of (z / 128))) (sym q) ∙ left_of (is_bit k.rp1 (rp1_of b)) (is_bit k.rp0 (rp0_of b)) h,
            ap (λ z. is_bit k.rp0 (rp0_of (z / 128))) (sym q) ∙ right_of (is_bit k.rp1 (rp1_of b)) (is_bit k.rp0 (rp0_of b)) h,
          )

      general : IsGeneral A
      general = byte_general reaches l laid n o fits

      selected : s.bank % 4 ≡ A / 128
      selected =
          let q = bank_bits (address_of placed (Static n o)) refl right in
          let p1 = knows.rp1 (rp1_of (A / 128)) (bit_is k.rp1 (rp1_of (A / 128)) q.0) ∙ truth_of (A / 128 / 2 % 2) (omega arith) in
          let p0 = knows.rp0 (rp0_of (A / 128)) (bit_is k.rp0 (rp0_of (A / 128)) q.1) ∙ truth_of (A / 128 % 2) (omega arith) in
          let b = general.below in
          omega arith

      leads_at : (go : Place → Act) → effect (operand (A % 128) go) s ≡ effect (go (General (number_at A))) s
      leads_at go = let b = general.banked in let z = general.named in rw (b, z) (ap (λ v. effect (go (place v (A % 128))) s) selected ∙ ap (λ p. effect (go p) s) general.place_is)

      leads : (go : Place → Act) → effect (operand f go) s ≡ effect (go (General (number_of l (Static n o)))) s
      leads go = ap (λ z. effect (operand (z % 128) go) s) address_is ∙ leads_at go ∙ ap (λ z. effect (go (General z)) s) (sym (number_is reaches l laid n o))

      -- it is one of an object's
      touched : (q : Program) → q.layout ≡ l → (e : ℕ) → Some f ≡ Some e → Touches q e s
      touched q is e same =
          at_place q s f (General (number_of l (Static n o))) leads
          (inl (ap (λ z. is_covered z (chip.address_of (number_of l (Static n o)))) is ∙ ap (λ z. is_covered l (chip.address_of z)) (number_is reaches l laid n o) ∙ ap (is_covered l) general.back ∙ object_covered l n o fits))
          e same

      store : Step (Store n o) (isa.Movwf f)
      store =
          let t : State = record s { pc = (s.pc + 1) % 8192; ram = ram_after l (sym_of (Store n o)) s.w s.ram } in
          let y = selects.kept pages k s t knows refl refl in
          record {
            t = t;
            goes = movwf_goes inputs s f (number_of l (Static n o)) (small reaches l laid n o fits) leads;
            pc = refl;
            knows = record { rp0 = y.rp0; rp1 = y.rp1; low = y.low; high = y.high };
            w = refl;
            ram = refl;
            control = refl;
            pushes = refl;
            pops = refl;
            low = λ e lt. lt;
          }

      clear : Step (Clear n o) (isa.Clrf f)
      clear =
          let t : State = record s { pc = (s.pc + 1) % 8192; ram = ram_after l (sym_of (Clear n o)) s.w s.ram; z = 1 } in
          let y = selects.kept pages k s t knows refl refl in
          record {
            t = t;
            goes = clrf_goes inputs s f (number_of l (Static n o)) (small reaches l laid n o fits) leads;
            pc = refl;
            knows = record { rp0 = y.rp0; rp1 = y.rp1; low = y.low; high = y.high };
            w = refl;
            ram = refl;
            control = refl;
            pushes = refl;
            pops = refl;
            low = λ e lt. lt;
          }

    pub step : (kind : Kind) → InSize l kind → is_right placed Start k (sym_of kind) ≡ true → Step kind (ins_of kind)
    step (OfRp0 on) fits right = rp0 on
    step (OfRp1 on) fits right = rp1 on
    step (OfPage Low target) fits right = page_low target (nat_eq (pages (block_of Start target) % 2) 1) refl
    step (OfPage High target) fits right = page_high target (nat_eq (pages (block_of Start target) / 2 % 2) 1) refl
    step (Load v) fits right = load v
    step (Store n o) fits right = store n o fits (left_of (reaches_byte placed k (Some (Static n o))) true right)
    step (Clear n o) fits right = clear n o fits (left_of (reaches_byte placed k (Some (Static n o))) true right)

    -- it touches STATUS, PCLATH, or a byte of an object
    pub touches : (q : Program) → q.layout ≡ l → (kind : Kind) → InSize l kind → is_right placed Start k (sym_of kind) ≡ true → (f : ℕ) → file_of (ins_of kind) ≡ Some f → Touches q f s
    touches q is (OfRp0 on) fits right f e = bank_touches q s 5 on f e
    touches q is (OfRp1 on) fits right f e = bank_touches q s 6 on f e
    touches q is (OfPage which target) fits right f e = select_touches q s which (pages (block_of Start target)) f e
    touches q is (Load v) fits right f e = absurd (cc)
    touches q is (Store n o) fits right f e = touched n o fits (left_of (reaches_byte placed k (Some (Static n o))) true right) q is f e
    touches q is (Clear n o) fits right f e = touched n o fits (left_of (reaches_byte placed k (Some (Static n o))) true right) q is f e
