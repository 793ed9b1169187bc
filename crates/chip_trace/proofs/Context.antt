-- The words that save main's context and give it back.
use Rattle.std.proofs.Common.{◌≡◌, ◌≢◌, ℕ, zero, suc, ◌+◌, ◌/◌, ◌%◌, ◌<◌, ◌≤◌, Bool, true, false, List, [], ◌++◌, length, Some, None, refl, sym, ap, ◌∙◌, arith, ◌⊎◌, inl, inr}
use Rattle.std.specs.Prelude.{if◌then◌else◌, nat_eq, slice_index, slice_set}
use Rattle.std.proofs.lemmas.Bool.{eqb-true, eqb-false}
use Rattle.std.proofs.lemmas.List.{get_or-set_same, get_or-set_other}
use Rattle.pic_isa.specs.declared.Ins.TheVariants as isa
use Rattle.pic_chip.specs.Act.{perform, accesses}
use Rattle.pic_chip.specs.Address.{Pclath}
use Rattle.pic_chip.specs.Instructions.{row, bit_row, swap}
use Rattle.pic_chip.specs.Interrupts.{control_of}
use Rattle.pic_chip.specs.Run.{event_at, events_of, cell_at, object_at}
use Rattle.pic_chip.specs.State.{State}
use Rattle.pic_world.specs.Bits.{set_bit, clear_bit}
use Rattle.pic_world.specs.Control.{Control}
use Rattle.pic_world.specs.Registers.{is_register}
use Rattle.pic_world.specs.declared.Cell.TheVariants as cells
use Rattle.code_place.specs.Instructions.{bit_set}
use Rattle.sym_code.specs.Layout.{DataLayout, IsLaidOut}
use Rattle.sym_code.specs.declared.code.PageBit.{PageBit}
use Rattle.sym_code.specs.declared.code.PageBit.TheVariants.{Low, High}
use Rattle.chip_trace.proofs.Addresses.{clear_cell}
use Rattle.chip_trace.proofs.Relations.{page_row}
use Rattle.chip_trace.proofs.Rows.{change_done, change_notes}
use Rattle.chip_trace.proofs.Stands.{saving_ins, restoring_ins, saved, given, like, cell, status}

-- a state that is like another one but for the interrupt registers
pub relike : (t a s : State) → t ≡ like a s → t ≡ like a t
relike t a s e =
    let f : control_of t ≡ control_of s = ap control_of e in
    e ∙ ap (λ (x : Control). record a { intcon = x.intcon; pir1 = x.pir1; pie1 = x.pie1 }) (sym f)

module _ (inputs : List ℕ) where
  -- ---- saving
  save_case : (k : ℕ) (a s : State) → k < 7 → perform (row inputs (4 + k) (saving_ins k)) (like (saved k a) s) ≡ like (saved (suc k) a) s
  save_case zero a s lt = refl
  save_case (suc zero) a s lt = refl
  save_case (suc (suc zero)) a s lt = refl
  save_case (suc (suc (suc zero))) a s lt = refl
  save_case (suc (suc (suc (suc zero)))) a s lt = refl
  save_case (suc (suc (suc (suc (suc zero))))) a s lt = refl
  save_case (suc (suc (suc (suc (suc (suc zero)))))) a s lt = refl
  save_case (suc (suc (suc (suc (suc (suc (suc k))))))) a s lt = absurd (omega arith)

  -- ---- restoring, but for RETFIE
  give_case : (r k : ℕ) (a s : State) → k < 8 → perform (row inputs (given r k a).pc (restoring_ins k)) (like (given r k a) s) ≡ record (like (given r (suc k) a) s) { pc = ((given r k a).pc + 1) % 8192 }
  give_case r zero a s lt = refl
  give_case r (suc zero) a s lt = refl
  give_case r (suc (suc zero)) a s lt = refl
  give_case r (suc (suc (suc zero))) a s lt = refl
  give_case r (suc (suc (suc (suc zero)))) a s lt = refl
  give_case r (suc (suc (suc (suc (suc zero))))) a s lt = refl
  give_case r (suc (suc (suc (suc (suc (suc zero)))))) a s lt = refl
  give_case r (suc (suc (suc (suc (suc (suc (suc zero))))))) a s lt = refl
  give_case r (suc (suc (suc (suc (suc (suc (suc (suc k)))))))) a s lt = absurd (omega arith)

  next_word : (r k : ℕ) (a : State) → k < 8 → r + 9 ≤ 8192 → ((given r k a).pc + 1) % 8192 ≡ (given r (suc k) a).pc
  next_word r zero a lt le = omega arith
  next_word r (suc zero) a lt le = omega arith
  next_word r (suc (suc zero)) a lt le = omega arith
  next_word r (suc (suc (suc zero))) a lt le = omega arith
  next_word r (suc (suc (suc (suc zero)))) a lt le = omega arith
  next_word r (suc (suc (suc (suc (suc zero))))) a lt le = omega arith
  next_word r (suc (suc (suc (suc (suc (suc zero)))))) a lt le = omega arith
  next_word r (suc (suc (suc (suc (suc (suc (suc zero))))))) a lt le = omega arith
  next_word r (suc (suc (suc (suc (suc (suc (suc (suc k)))))))) a lt le = absurd (omega arith)

  pub given_pc : (r k : ℕ) (a : State) → k ≤ 8 → (given r k a).pc ≡ r + k
  given_pc r zero a le = omega arith
  given_pc r (suc zero) a le = omega arith
  given_pc r (suc (suc zero)) a le = omega arith
  given_pc r (suc (suc (suc zero))) a le = omega arith
  given_pc r (suc (suc (suc (suc zero)))) a le = omega arith
  given_pc r (suc (suc (suc (suc (suc zero))))) a le = omega arith
  given_pc r (suc (suc (suc (suc (suc (suc zero)))))) a le = omega arith
  given_pc r (suc (suc (suc (suc (suc (suc (suc zero))))))) a le = omega arith
  given_pc r (suc (suc (suc (suc (suc (suc (suc (suc zero)))))))) a le = omega arith
  given_pc r (suc (suc (suc (suc (suc (suc (suc (suc (suc k))))))))) a le = absurd (omega arith)

  pub saved_pc : (k : ℕ) (a : State) → k ≤ 7 → (saved k a).pc ≡ 4 + k
  saved_pc zero a le = refl
  saved_pc (suc zero) a le = refl
  saved_pc (suc (suc zero)) a le = refl
  saved_pc (suc (suc (suc zero))) a le = refl
  saved_pc (suc (suc (suc (suc zero)))) a le = refl
  saved_pc (suc (suc (suc (suc (suc zero))))) a le = refl
  saved_pc (suc (suc (suc (suc (suc (suc zero)))))) a le = refl
  saved_pc (suc (suc (suc (suc (suc (suc (suc zero))))))) a le = refl
  saved_pc (suc (suc (suc (suc (suc (suc (suc (suc k)))))))) a le = absurd (omega arith)

  pub saves_on : (k : ℕ) (a s : State) → k < 7 → s ≡ like (saved k a) s → perform (row inputs s.pc (saving_ins k)) s ≡ like (saved (suc k) a) (perform (row inputs s.pc (saving_ins k)) s)
  saves_on k a s lt e =
      let pc : s.pc ≡ 4 + k = ap (λ (x : State). x.pc) e ∙ saved_pc k a (omega arith) in
      relike (perform (row inputs s.pc (saving_ins k)) s) (saved (suc k) a) s (ap (λ z. perform (row inputs z (saving_ins k)) s) pc ∙ ap (perform (row inputs (4 + k) (saving_ins k))) e ∙ save_case k a s lt)

  pub saves_control : (k : ℕ) (a s : State) → k < 7 → s ≡ like (saved k a) s → control_of (perform (row inputs s.pc (saving_ins k)) s) ≡ control_of s
  saves_control k a s lt e =
      let pc : s.pc ≡ 4 + k = ap (λ (x : State). x.pc) e ∙ saved_pc k a (omega arith) in
      ap control_of (ap (λ z. perform (row inputs z (saving_ins k)) s) pc ∙ ap (perform (row inputs (4 + k) (saving_ins k))) e ∙ save_case k a s lt)

  give_is : (r k : ℕ) (a s : State) → k < 8 → r + 9 ≤ 8192 → s ≡ like (given r k a) s → perform (row inputs s.pc (restoring_ins k)) s ≡ like (given r (suc k) a) s
  give_is r k a s lt le e =
      ap (λ (x : State). perform (row inputs x.pc (restoring_ins k)) x) e ∙ give_case r k a s lt
      ∙ ap (λ z. record (like (given r (suc k) a) s) { pc = z }) (next_word r k a lt le)

  pub gives_on : (r k : ℕ) (a s : State) → k < 8 → r + 9 ≤ 8192 → s ≡ like (given r k a) s → perform (row inputs s.pc (restoring_ins k)) s ≡ like (given r (suc k) a) (perform (row inputs s.pc (restoring_ins k)) s)
  gives_on r k a s lt le e = relike (perform (row inputs s.pc (restoring_ins k)) s) (given r (suc k) a) s (give_is r k a s lt le e)

  pub gives_control : (r k : ℕ) (a s : State) → k < 8 → r + 9 ≤ 8192 → s ≡ like (given r k a) s → control_of (perform (row inputs s.pc (restoring_ins k)) s) ≡ control_of s
  gives_control r k a s lt le e = ap control_of (give_is r k a s lt le e)

  -- ---- nothing of it is an event
  module _ (reaches : ℕ → ℕ → Bool) (l : DataLayout) (laid : IsLaidOut reaches l) where
    none_cell : (a : ℕ) → ((0x78 ≤ a) × (a < 0x80)) ⊎ ((0x1f0 ≤ a) ⊎ (a < 0x20)) → is_register a ≡ false → cell_at l.objects a ≡ None
    none_cell a clear e = ap (λ b. if b then Some (cells.Device a) else object_at l.objects 0 a) e ∙ clear_cell reaches l a laid clear

    one : (wr : Bool) (v a : ℕ) → cell_at l.objects a ≡ None → event_at wr v (cell_at l.objects a) ++ [] ≡ []
    one true v a e = ap (λ c. event_at true v c ++ []) e
    one false v a e = ap (λ c. event_at false v c ++ []) e

    two : (v x a : ℕ) → cell_at l.objects a ≡ None → event_at false v (cell_at l.objects a) ++ (event_at true x (cell_at l.objects a) ++ []) ≡ []
    two v x a e = ap (λ c. event_at false v c ++ (event_at true x c ++ [])) e

    high : (k : ℕ) → k < 8 → ((0x78 ≤ 0x78 + k) × (0x78 + k < 0x80)) ⊎ ((0x1f0 ≤ 0x78 + k) ⊎ (0x78 + k < 0x20))
    high k lt = inl (omega arith, omega arith)

    pub saving_silent : (k pc : ℕ) (s : State) → k < 7 → events_of l.objects (accesses (row inputs pc (saving_ins k)) s) ≡ []
    saving_silent zero pc s lt = one true s.w 0x78 (none_cell 0x78 (inl (omega arith, omega arith)) refl)
    saving_silent (suc zero) pc s lt = one false (status s) 3 (none_cell 3 (inr (inr (omega arith))) refl)
    saving_silent (suc (suc zero)) pc s lt = one true s.w 0x79 (none_cell 0x79 (inl (omega arith, omega arith)) refl)
    saving_silent (suc (suc (suc zero))) pc s lt = one false s.fsr 4 (none_cell 4 (inr (inr (omega arith))) refl)
    saving_silent (suc (suc (suc (suc zero)))) pc s lt = one true s.w 0x7a (none_cell 0x7a (inl (omega arith, omega arith)) refl)
    saving_silent (suc (suc (suc (suc (suc zero))))) pc s lt = one false s.pclath 10 (none_cell 10 (inr (inr (omega arith))) refl)
    saving_silent (suc (suc (suc (suc (suc (suc zero)))))) pc s lt = one true s.w 0x7b (none_cell 0x7b (inl (omega arith, omega arith)) refl)
    saving_silent (suc (suc (suc (suc (suc (suc (suc k))))))) pc s lt = absurd (omega arith)

    pub restoring_silent : (k pc : ℕ) (s : State) → k < 9 → events_of l.objects (accesses (row inputs pc (restoring_ins k)) s) ≡ []
    restoring_silent zero pc s lt = one false (cell s 91) 0x7b (none_cell 0x7b (inl (omega arith, omega arith)) refl)
    restoring_silent (suc zero) pc s lt = one true s.w 10 (none_cell 10 (inr (inr (omega arith))) refl)
    restoring_silent (suc (suc zero)) pc s lt = one false (cell s 90) 0x7a (none_cell 0x7a (inl (omega arith, omega arith)) refl)
    restoring_silent (suc (suc (suc zero))) pc s lt = one true s.w 4 (none_cell 4 (inr (inr (omega arith))) refl)
    restoring_silent (suc (suc (suc (suc zero)))) pc s lt = one false (cell s 89) 0x79 (none_cell 0x79 (inl (omega arith, omega arith)) refl)
    restoring_silent (suc (suc (suc (suc (suc zero))))) pc s lt = one true s.w 3 (none_cell 3 (inr (inr (omega arith))) refl)
    restoring_silent (suc (suc (suc (suc (suc (suc zero)))))) pc s lt = two (cell s 88) (swap (cell s 88)) 0x78 (none_cell 0x78 (inl (omega arith, omega arith)) refl)
    restoring_silent (suc (suc (suc (suc (suc (suc (suc zero))))))) pc s lt = one false (cell s 88) 0x78 (none_cell 0x78 (inl (omega arith, omega arith)) refl)
    restoring_silent (suc (suc (suc (suc (suc (suc (suc (suc k)))))))) pc s lt = refl

    pclath_silent : (s : State) (change : ℕ → ℕ) → events_of l.objects (accesses (bit_row inputs s.pc 10 change) s) ≡ []
    pclath_silent s ch =
        ap (events_of l.objects) (change_notes inputs s 10 Pclath (λ next. refl) ch) ∙ two s.pclath (ch s.pclath) 10 (none_cell 10 (inr (inr (omega arith))) refl)

    bit_silent : (n : ℕ) (b : Bool) (s : State) → events_of l.objects (accesses (row inputs s.pc (bit_set 10 n b)) s) ≡ []
    bit_silent n true s = pclath_silent s (set_bit n)
    bit_silent n false s = pclath_silent s (clear_bit n)

    pub select_silent : (b : PageBit) (pg : ℕ) (s : State) → events_of l.objects (accesses (row inputs s.pc (page_row b pg)) s) ≡ []
    select_silent Low pg s = bit_silent 3 (nat_eq (pg % 2) 1) s
    select_silent High pg s = bit_silent 4 (nat_eq (pg / 2 % 2) 1) s

    pub goto_silent : (k : ℕ) (s : State) → events_of l.objects (accesses (row inputs s.pc (isa.Goto k)) s) ≡ []
    goto_silent k s = refl

  -- ---- selects
  -- what PCLATH holds behind a select of the handler's page
  abbrev pub changed : ℕ → Bool → ℕ → ℕ
  changed n b v = (if b then set_bit n v else clear_bit n v) % 32

  abbrev pub selected : PageBit → ℕ → ℕ → ℕ
  selected Low pg v = changed 3 (nat_eq (pg % 2) 1) v
  selected High pg v = changed 4 (nat_eq (pg / 2 % 2) 1) v

  bit_done : (n : ℕ) (b : Bool) (s : State) → perform (row inputs s.pc (bit_set 10 n b)) s ≡ record s { pc = (s.pc + 1) % 8192; pclath = changed n b s.pclath }
  bit_done n true s = change_done inputs s 10 Pclath (λ next. refl) (set_bit n)
  bit_done n false s = change_done inputs s 10 Pclath (λ next. refl) (clear_bit n)

  pub select_done : (b : PageBit) (pg : ℕ) (s : State) → perform (row inputs s.pc (page_row b pg)) s ≡ record s { pc = (s.pc + 1) % 8192; pclath = selected b pg s.pclath }
  select_done Low pg s = bit_done 3 (nat_eq (pg % 2) 1) s
  select_done High pg s = bit_done 4 (nat_eq (pg / 2 % 2) 1) s

-- the bits that a select puts and leaves
low_put : (v x : ℕ) (b : Bool) → v < 32 → x < 2 → nat_eq x 1 ≡ b → ((if b then set_bit 3 v else clear_bit 3 v) % 32 / 8 % 2 ≡ x) × ((if b then set_bit 3 v else clear_bit 3 v) % 32 / 16 % 2 ≡ v / 16 % 2)
low_put v x true h hx e = let f = eqb-true x 1 e in (omega arith, omega arith)
low_put v x false h hx e = let f = eqb-false x 1 e in (omega (arith, f), omega arith)

high_put : (v x : ℕ) (b : Bool) → v < 32 → x < 2 → nat_eq x 1 ≡ b → ((if b then set_bit 4 v else clear_bit 4 v) % 32 / 16 % 2 ≡ x) × ((if b then set_bit 4 v else clear_bit 4 v) % 32 / 8 % 2 ≡ v / 8 % 2)
high_put v x true h hx e = let f = eqb-true x 1 e in (omega arith, omega arith)
high_put v x false h hx e = let f = eqb-false x 1 e in (omega (arith, f), omega arith)

pub low_selected : (pg v : ℕ) → v < 32 → (selected [] Low pg v / 8 % 2 ≡ pg % 2) × (selected [] Low pg v / 16 % 2 ≡ v / 16 % 2)
low_selected pg v h = low_put v (pg % 2) (nat_eq (pg % 2) 1) h (omega arith) refl

pub high_selected : (pg v : ℕ) → v < 32 → (selected [] High pg v / 16 % 2 ≡ pg / 2 % 2) × (selected [] High pg v / 8 % 2 ≡ v / 8 % 2)
high_selected pg v h = high_put v (pg / 2 % 2) (nat_eq (pg / 2 % 2) 1) h (omega arith) refl

pub swap_twice : (v : ℕ) → v < 256 → swap (swap v) ≡ v
swap_twice v h = omega arith

pub set_here : (xs : List ℕ) (k v : ℕ) → k < length xs → slice_index (slice_set xs k v) k ≡ v
set_here xs k v lt = get_or-set_same xs k v 0 lt

pub set_there : (xs : List ℕ) (k v j : ℕ) → j ≢ k → slice_index (slice_set xs k v) j ≡ slice_index xs j
set_there xs k v j ne = get_or-set_other xs k j v 0 ne
