-- What each instruction of the start block does on the chip: it accesses no device register.
use Rattle.std.proofs.Common.{◌≡◌, ℕ, ◌+◌, ◌*◌, ◌/◌, ◌%◌, ◌<◌, Bool, true, false, List, [], ◌∷◌, Some, refl, ap, ◌∙◌}
use Rattle.std.specs.Prelude.{if◌then◌else◌, slice_set}
use Rattle.pic_isa.specs.declared.Ins.{Ins}
use Rattle.pic_isa.specs.declared.Ins.TheVariants as isa
use Rattle.pic_chip.specs.Act.{Act, perform, accesses, effect}
use Rattle.pic_chip.specs.Address as chip
use Rattle.pic_chip.specs.Address.{Place, Status, Pclath, General, operand}
use Rattle.pic_chip.specs.Instructions.{row, bit_row, is_modelled, is_return_from_interrupt}
use Rattle.pic_chip.specs.Run.{registers_of}
use Rattle.pic_chip.specs.State.{State}
use Rattle.pic_world.specs.Bits.{bit, set_bit, clear_bit}
use Rattle.chip_trace.proofs.Addresses.{general_plain}
use Rattle.chip_trace.proofs.Rows.{change_done, change_notes, movwf_done, movwf_notes, clrf_done, clrf_notes}
use Rattle.chip_trace.proofs.StatusBits.{packed}

-- the instruction leads from one state to another, and accesses no device register
pub record Goes (inputs : List ℕ) (s : State) (n : Ins) (t : State) : Type 0 where
  pub done : perform (row inputs s.pc n) s ≡ t
  pub silent : registers_of (accesses (row inputs s.pc n) s) ≡ []
  pub modelled : is_modelled (Some n) ≡ true
  pub ordinary : is_return_from_interrupt (Some n) ≡ false

module _ (inputs : List ℕ) (s : State) where
  abbrev pub next : ℕ
  next = (s.pc + 1) % 8192

  pub movlw_goes : (k : ℕ) → Goes inputs s (isa.Movlw k) (record s { pc = next; w = k })
  movlw_goes k = record { done = refl; silent = refl; modelled = refl; ordinary = refl }

  pub goto_goes : (k : ℕ) → Goes inputs s (isa.Goto k) (record s { pc = s.pclath / 8 % 4 * 2048 + k })
  goto_goes k = record { done = refl; silent = refl; modelled = refl; ordinary = refl }

  -- a byte that an operand leads to
  module _ (f k : ℕ) (small : k < 368) (leads : (go : Place → Act) → effect (operand f go) s ≡ effect (go (General k)) s) where
    no_register : (v : ℕ) (write : Bool) → registers_of (record { write = write; address = chip.address_of k; byte = v } ∷ []) ≡ []
    no_register v write = ap (λ b. if b then record { write = write; address = chip.address_of k; byte = v } ∷ [] else []) (general_plain k small)

    pub movwf_goes : Goes inputs s (isa.Movwf f) (record s { pc = next; ram = slice_set s.ram k s.w })
    movwf_goes = record {
      done = movwf_done inputs s f (General k) leads;
      silent = ap registers_of (movwf_notes inputs s f (General k) leads) ∙ no_register s.w true;
      modelled = refl;
      ordinary = refl;
    }

    pub clrf_goes : Goes inputs s (isa.Clrf f) (record s { pc = next; ram = slice_set s.ram k 0; z = 1 })
    clrf_goes = record {
      done = clrf_done inputs s f (General k) leads;
      silent = ap registers_of (clrf_notes inputs s f (General k) leads) ∙ no_register 0 true;
      modelled = refl;
      ordinary = refl;
    }

  -- a bit of STATUS, and one of PCLATH
  abbrev pub S : ℕ
  S = packed s.bank s.z s.dc s.c

  abbrev pub with_status : ℕ → State
  with_status v = record s { pc = next; bank = v / 32; z = bit v 2; dc = bit v 1; c = bit v 0 }

  abbrev pub with_pclath : ℕ → State
  with_pclath v = record s { pc = next; pclath = v % 32 }

  status_goes : (n : Ins) (change : ℕ → ℕ) → row inputs s.pc n ≡ bit_row inputs s.pc 3 change → is_modelled (Some n) ≡ true → is_return_from_interrupt (Some n) ≡ false → Goes inputs s n (with_status (change S))
  status_goes n ch e m o = record {
    done = ap (λ a. perform a s) e ∙ change_done inputs s 3 Status (λ go. refl) ch;
    silent = ap (λ a. registers_of (accesses a s)) e ∙ ap registers_of (change_notes inputs s 3 Status (λ go. refl) ch);
    modelled = m;
    ordinary = o;
  }

  pclath_goes : (n : Ins) (change : ℕ → ℕ) → row inputs s.pc n ≡ bit_row inputs s.pc 10 change → is_modelled (Some n) ≡ true → is_return_from_interrupt (Some n) ≡ false → Goes inputs s n (with_pclath (change s.pclath))
  pclath_goes n ch e m o = record {
    done = ap (λ a. perform a s) e ∙ change_done inputs s 10 Pclath (λ go. refl) ch;
    silent = ap (λ a. registers_of (accesses a s)) e ∙ ap registers_of (change_notes inputs s 10 Pclath (λ go. refl) ch);
    modelled = m;
    ordinary = o;
  }

  pub bsf_status : (b : ℕ) → Goes inputs s (isa.Bsf 3 b) (with_status (set_bit b S))
  bsf_status b = status_goes (isa.Bsf 3 b) (set_bit b) refl refl refl

  pub bcf_status : (b : ℕ) → Goes inputs s (isa.Bcf 3 b) (with_status (clear_bit b S))
  bcf_status b = status_goes (isa.Bcf 3 b) (clear_bit b) refl refl refl

  pub bsf_pclath : (b : ℕ) → Goes inputs s (isa.Bsf 10 b) (with_pclath (set_bit b s.pclath))
  bsf_pclath b = pclath_goes (isa.Bsf 10 b) (set_bit b) refl refl refl

  pub bcf_pclath : (b : ℕ) → Goes inputs s (isa.Bcf 10 b) (with_pclath (clear_bit b s.pclath))
  bcf_pclath b = pclath_goes (isa.Bcf 10 b) (clear_bit b) refl refl refl
