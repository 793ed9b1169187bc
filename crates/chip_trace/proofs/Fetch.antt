-- The instruction of the chip at a thread's position, and its effect.
use Rattle.std.proofs.Common.{◌≡◌, ◌≢◌, ℕ, ◌/◌, ◌%◌, ◌<◌, ◌≤◌, ◌⊎◌, inl, inr, Bool, true, false, List, length, Option, Some, None, refl, sym, ap, ◌∙◌, subst}
use Rattle.std.specs.Prelude.{slice_index, nat_eq}
use Rattle.pic_isa.specs.declared.Ins.{Ins}
use Rattle.pic_isa.specs.Lookup.{row_of}
use Rattle.pic_chip.specs.Act.{perform, accesses}
use Rattle.pic_chip.specs.Instructions.{row, act_of, execute, is_modelled, is_return_from_interrupt}
use Rattle.pic_chip.specs.Interrupts.{control_of}
use Rattle.pic_chip.specs.Run.{events_of}
use Rattle.pic_chip.specs.State.{State}
use Rattle.pic_world.specs.World.{World, Outside}
use Rattle.pic_world.specs.declared.Cell.{Cell}
use Rattle.code_place.specs.Instructions.{file_row, bit_row, literal_row, plain_row, bank_row, bit_set}
use Rattle.sym_code.specs.Effect.{Setting, Thread, Memory, Stuck, effect, effect_of, effect_if, effect_at, effect_rest}
use Rattle.sym_code.specs.Layout.{Watched, owner, IsLaidOut}
use Rattle.sym_code.specs.Programs.{Position, fetched, is_word, lands}
use Rattle.sym_code.specs.Touching.{is_file}
use Rattle.sym_code.specs.declared.code.BankBit.{BankBit}
use Rattle.sym_code.specs.declared.code.BankBit.TheVariants.{Rp0, Rp1, Irp}
use Rattle.sym_code.specs.declared.code.BitOperation.{BitOperation}
use Rattle.sym_code.specs.declared.code.BitOperation.TheVariants.{Bcf, Bsf, Btfsc, Btfss}
use Rattle.sym_code.specs.declared.code.FileOperation.{FileOperation}
use Rattle.sym_code.specs.declared.code.FileOperation.TheVariants.{Addwf, Andwf, Comf, Decf, Decfsz, Incf, Incfsz, Iorwf, Movf, Rlf, Rrf, Subwf, Swapf, Xorwf}
use Rattle.sym_code.specs.declared.code.LiteralOperation.{LiteralOperation}
use Rattle.sym_code.specs.declared.code.LiteralOperation.TheVariants.{Addlw, Andlw, Iorlw, Movlw, Retlw, Sublw, Xorlw}
use Rattle.sym_code.specs.declared.code.PageBit.{PageBit}
use Rattle.sym_code.specs.declared.code.PageBit.TheVariants.{Low, High}
use Rattle.sym_code.specs.declared.code.PlainOperation.{PlainOperation}
use Rattle.sym_code.specs.declared.code.PlainOperation.TheVariants.{Clrw, Nop, Retfie, Return}
use Rattle.sym_code.specs.declared.code.Sym.{Sym}
use Rattle.sym_code.specs.declared.code.Sym.TheVariants as syms
use Rattle.chip_trace.proofs.Effects.{reads_silently}
use Rattle.chip_trace.proofs.Lock.{sym_locked}
use Rattle.chip_trace.proofs.Locked.{LockedBy}
use Rattle.pic_chip.proofs.Ranges.{IsRanged}
use Rattle.chip_trace.proofs.Touched.{sym_touched}
use Rattle.chip_trace.specs.Keeping.{file_of, Touches}
use Rattle.chip_trace.proofs.Relations.{Ground, Means, IsAt, IsPlaced, words, spot, page_row}

-- the model has the instruction, and it is no return from an interrupt
abbrev pub Ordinary : Ins → Type 0
Ordinary n = (is_modelled (Some n) ≡ true) × (is_return_from_interrupt (Some n) ≡ false)

file_ordinary : (op : FileOperation) (f : ℕ) (d : Bool) → Ordinary (file_row op f d)
file_ordinary Addwf f d = (refl, refl)
file_ordinary Andwf f d = (refl, refl)
file_ordinary Comf f d = (refl, refl)
file_ordinary Decf f d = (refl, refl)
file_ordinary Decfsz f d = (refl, refl)
file_ordinary Incf f d = (refl, refl)
file_ordinary Incfsz f d = (refl, refl)
file_ordinary Iorwf f d = (refl, refl)
file_ordinary Movf f d = (refl, refl)
file_ordinary Rlf f d = (refl, refl)
file_ordinary Rrf f d = (refl, refl)
file_ordinary Subwf f d = (refl, refl)
file_ordinary Swapf f d = (refl, refl)
file_ordinary Xorwf f d = (refl, refl)

bit_ordinary : (op : BitOperation) (f b : ℕ) → Ordinary (bit_row op f b)
bit_ordinary Bcf f b = (refl, refl)
bit_ordinary Bsf f b = (refl, refl)
bit_ordinary Btfsc f b = (refl, refl)
bit_ordinary Btfss f b = (refl, refl)

literal_ordinary : (op : LiteralOperation) (k : ℕ) → Ordinary (literal_row op k)
literal_ordinary Addlw k = (refl, refl)
literal_ordinary Andlw k = (refl, refl)
literal_ordinary Iorlw k = (refl, refl)
literal_ordinary Movlw k = (refl, refl)
literal_ordinary Retlw k = (refl, refl)
literal_ordinary Sublw k = (refl, refl)
literal_ordinary Xorlw k = (refl, refl)

set_ordinary : (f b : ℕ) (on : Bool) → Ordinary (bit_set f b on)
set_ordinary f b true = (refl, refl)
set_ordinary f b false = (refl, refl)

bank_ordinary : (which : BankBit) (on : Bool) → Ordinary (bank_row which on)
bank_ordinary Rp0 on = set_ordinary 3 5 on
bank_ordinary Rp1 on = set_ordinary 3 6 on
bank_ordinary Irp on = set_ordinary 3 7 on

pub page_ordinary : (which : PageBit) (pg : ℕ) → Ordinary (page_row which pg)
page_ordinary Low pg = set_ordinary 10 3 (nat_eq (pg % 2) 1)
page_ordinary High pg = set_ordinary 10 4 (nat_eq (pg / 2 % 2) 1)

module _ (g : Setting) (h : Ground) (i : Bool) (th : Thread) (m : Memory) (p : Position) where
  plain_ordinary : (op : PlainOperation) (n : Ins) → n ≡ plain_row op → (effect_of g i p th m (syms.Plain op) ≡ Stuck) ⊎ Ordinary n
  unfolding effect_of
  plain_ordinary Clrw n e = inr (subst Ordinary (sym e) (refl, refl))
  plain_ordinary Nop n e = inr (subst Ordinary (sym e) (refl, refl))
  plain_ordinary Retfie n e = inl refl
  plain_ordinary Return n e = inr (subst Ordinary (sym e) (refl, refl))

  ordinary : (y : Sym) (n : Ins) → is_word (Some y) ≡ true → Means g h p y n → (effect_of g i p th m y ≡ Stuck) ⊎ Ordinary n
  ordinary (syms.Label label) n wd e = absurd (cc)
  ordinary (syms.SelectBank which on) n wd e = inr (subst Ordinary (sym e) (bank_ordinary which on))
  ordinary (syms.SelectPage which t) n wd e = inr (subst Ordinary (sym e) (page_ordinary which _))
  ordinary (syms.File op y into) n wd e = inr (subst Ordinary (sym e) (file_ordinary op _ (is_file into)))
  ordinary (syms.Movwf y) n wd e = inr (subst Ordinary (sym e) (refl, refl))
  ordinary (syms.Clrf y) n wd e = inr (subst Ordinary (sym e) (refl, refl))
  ordinary (syms.Bit op y b) n wd e = inr (subst Ordinary (sym e.0) (bit_ordinary op _ b))
  ordinary (syms.Literal op v) n wd e = inr (subst Ordinary (sym e) (literal_ordinary op _))
  ordinary (syms.Plain op) n wd e = plain_ordinary op n e
  ordinary (syms.Call t) n wd e = inr (subst Ordinary (sym e.1) (refl, refl))
  ordinary (syms.Goto t) n wd e = inr (subst Ordinary (sym e.1) (refl, refl))
  ordinary (syms.Table table root) n wd e = absurd e

  effect_is : (y : Sym) → th.rest ≡ None → th.at ≡ Some p → fetched g.program p ≡ Some y → effect g i th m ≡ effect_of g i p th m y
  unfolding effect
  effect_is y r a f =
      ap (effect_rest g i th m) r ∙ ap (effect_at g i th m) a ∙ by i ∙ ap (effect_if g i p th m) f where
        by : (b : Bool) → effect_at g b th m (Some p) ≡ effect_if g b p th m (fetched g.program p)
        by true = refl
        by false = refl

-- one instruction of the image
module _ (image input : List ℕ) (s : State) where
  pub performs : (n : Ins) → row_of (slice_index image s.pc) ≡ Some n → perform (execute image input) s ≡ perform (row input s.pc n) s
  performs n e = ap (λ x. perform (act_of input s.pc x) s) e

  pub accesses_are : (n : Ins) → row_of (slice_index image s.pc) ≡ Some n → accesses (execute image input) s ≡ accesses (row input s.pc n) s
  accesses_are n e = ap (λ x. accesses (act_of input s.pc x) s) e

module _ (reaches : ℕ → ℕ → Bool) (g : Setting) (h : Ground) (o : Outside) (image : List ℕ) (placed : IsPlaced g h image) (banked : g.banked ≡ true) (laid : IsLaidOut reaches g.program.layout)
    (i : Bool) (th : Thread) (m : Memory) (below : List ℕ) (s : State) (w : World ℕ) where
  pub record LockedAt : Type 0 where
    pub ins : Ins
    pub decoded : row_of (slice_index image s.pc) ≡ Some ins
    pub ordinary : (effect g i th m ≡ Stuck) ⊎ Ordinary ins
    pub touched : (effect g i th m ≢ Stuck) → (f : ℕ) → file_of ins ≡ Some f → Touches g.program f s
    pub locked : LockedBy g h o m below s (perform (execute image o.input) s) w (events_of g.program.layout.objects (accesses (execute image o.input) s)) (effect g i th m)

  is_some_word : (x : Option Sym) → is_word x ≡ true → (y : Sym) × (x ≡ Some y)
  is_some_word None e = absurd (cc)
  is_some_word (Some y) e = (y, refl)

  pub locked_at : (p : Position) → lands g.program p ≡ true → th.at ≡ Some p → th.rest ≡ None → IsAt g h th below s
      → control_of s ≡ w.control → s.taken ≡ w.taken
      → ((k : ℕ) → reads_silently i (owner g.program.layout k) ≡ true → slice_index s.ram k ≡ m k)
      → ((k : ℕ) (cell : Cell) → owner g.program.layout k ≡ Watched cell → slice_index s.ram k ≡ m k)
      → IsRanged s → length (words g h th.stack below) ≤ 8 → (length th.stack < g.limit i → length (words g h th.stack below) ≤ 7) → LockedAt
  locked_at p here is none at same taken own static x deep room =
      let f = is_some_word (fetched g.program p) here in
      let y = f.0 in
      let wd : is_word (Some y) ≡ true = ap is_word (sym f.1) ∙ here in
      let c = placed.code p y f.1 wd in
      let pc : s.pc ≡ h.place p = at.pc ∙ ap (spot g h) is in
      let dec : row_of (slice_index image s.pc) ≡ Some c.0 = ap (λ z. row_of (slice_index image z)) pc ∙ c.1 in
      let eff : effect g i th m ≡ effect_of g i p th m y = effect_is g h i th m p y none is f.1 in
      let k = sym_locked reaches g h o image placed banked laid i th p m below s w here is none at same taken own static x deep room y c.0 wd c.2 in
      record {
        ins = c.0;
        decoded = dec;
        ordinary = subst (λ z. (z ≡ Stuck) ⊎ Ordinary c.0) (sym eff) (ordinary g h i th m p y c.0 wd c.2);
        touched = λ ne j q. sym_touched reaches g h banked laid i th p m s at.sees y f.1 wd (λ k. ne (eff ∙ k)) c.0 c.2 j q;
        locked = subst (LockedBy g h o m below s (perform (execute image o.input) s) w (events_of g.program.layout.objects (accesses (execute image o.input) s))) (sym eff)
            (subst (λ a. LockedBy g h o m below s (perform (execute image o.input) s) w (events_of g.program.layout.objects a) (effect_of g i p th m y)) (sym (accesses_are image o.input s c.0 dec))
            (subst (λ a. LockedBy g h o m below s a w (events_of g.program.layout.objects (accesses (row o.input s.pc c.0) s)) (effect_of g i p th m y)) (sym (performs image o.input s c.0 dec)) k));
      }
