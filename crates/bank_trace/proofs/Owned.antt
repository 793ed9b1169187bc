-- What the instructions of a routine need and change: the bank of its frame and its own page, and no bit that selects.
use Rattle.std.proofs.Common.{◌≡◌, ℕ, suc, ◌/◌, ◌<◌, ◌≤◌, Bool, true, false, ◌&&◌, ◌||◌, nat_eq, if◌then◌else◌, List, [], ◌∷◌, All, Option, Some, None, refl, sym, ap, ◌∙◌, subst, ne_eqb, arith}
use Rattle.core_code.specs.declared.code.Byte.TheVariants as bytes
use Rattle.pic_world.specs.declared.Root.{Root}
use Rattle.std.proofs.lemmas.Option.{none-some}
use Rattle.pic_map.specs.declared.Placed.{Placed}
use Rattle.sym_code.specs.Programs.{block_of}
use Rattle.sym_code.specs.Touching.{touches, is_file, is_bit_write}
use Rattle.sym_code.specs.declared.code.BitOperation.{BitOperation}
use Rattle.sym_code.specs.declared.code.BitOperation.TheVariants.{Btfsc, Btfss}
use Rattle.sym_code.specs.declared.code.BlockName.{BlockName}
use Rattle.sym_code.specs.declared.code.Label.TheVariants as labels
use Rattle.sym_code.specs.declared.code.Literal.TheVariants as literals
use Rattle.sym_code.specs.declared.code.Operand.{Operand}
use Rattle.sym_code.specs.declared.code.Operand.TheVariants as operands
use Rattle.sym_code.specs.declared.code.Register.{Register}
use Rattle.sym_code.specs.declared.code.Register.TheVariants.{Status}
use Rattle.sym_code.specs.declared.code.Sym.{Sym}
use Rattle.sym_code.specs.declared.code.Sym.TheVariants as syms
use Rattle.sym_code.specs.declared.code.Target.{Target}
use Rattle.sym_code.specs.declared.code.Target.TheVariants as targets
use Rattle.code_place.specs.Addresses.{address_of}
use Rattle.math_helpers.specs.Shape.{is_in_frame, accesses_frame, jumps, IsOwn, IsOwnOperand}
use Rattle.bank_page.specs.Kinds.{is_label, is_skip, byte_named, byte_touched, byte_of, target_of}
use Rattle.bank_page.specs.Known.{is_status, is_pclath, writes, writes_status, writes_pclath, is_of_bit, forgets, reads_table, names_pclath}
use Rattle.bank_page.specs.Needs.{banked_at, banked}
use Rattle.bank_trace.proofs.Puts.{never}

-- a target is in this block exactly where one is needed
abbrev pub FitsPage : BlockName → Bool → Option Target → Type 0
FitsPage own jumps None = jumps ≡ false
FitsPage own jumps (Some target) = (jumps ≡ true) × (block_of own target ≡ own)

pub record IsTame (placed : Placed) (own : BlockName) (bank : ℕ) (s : Sym) : Type 0 where
  pub needs : banked placed (byte_of s) ≡ Some (if accesses_frame s then Some bank else None)
  pub page : FitsPage own (jumps s) (target_of s)
  pub rp0 : (writes_status s && is_of_bit s 5) ≡ false
  pub rp1 : (writes_status s && is_of_bit s 6) ≡ false
  pub pages : writes_pclath s ≡ false
  pub skip : is_skip s ≡ true → ((writes_status s || writes_pclath s) ≡ false) × (jumps s ≡ false)
  pub keeps : is_label s ≡ false → forgets s ≡ false

abbrev pub AllTame : Placed → BlockName → ℕ → List Sym → Type 0
AllTame placed own bank [] = Unit {0}
AllTame placed own bank (s ∷ list) = IsTame placed own bank s × AllTame placed own bank list

pub and_none : (a b : Bool) → b ≡ false → (a && b) ≡ false
and_none true b e = e
and_none false b e = refl

pub none_and : (a b : Bool) → a ≡ false → (a && b) ≡ false
none_and true b e = never (sym e)
none_and false b e = refl

pub neither : (a b : Bool) → a ≡ false → b ≡ false → (a || b) ≡ false
neither true b e f = never (sym e)
neither false b e f = f

below_three : (k n : ℕ) → k < 3 → 3 ≤ n → nat_eq k n ≡ false
below_three k n l m = ne_eqb k n (λ e. absurd (omega arith))

-- what names a file operand reads no table
reads_none : (s : Sym) (touched : Operand × Bool) → touches s ≡ Some touched → reads_table s ≡ false
reads_none (syms.Table table root) touched e = absurd (none-some touched e)
reads_none s touched e = refl

-- an instruction on a file operand that is in the frame or in every bank, and no register that selects
module _ (placed : Placed) (own : BlockName) (bank : ℕ) where
  pub tame_of : (s : Sym) (file : Operand) (w : Bool) → touches s ≡ Some (file, w) → accesses_frame s ≡ is_in_frame file → target_of s ≡ None → jumps s ≡ false → forgets s ≡ false
      → banked placed (byte_named file) ≡ Some (if is_in_frame file then Some bank else None) → is_status file ≡ false → is_pclath file ≡ false → IsTame placed own bank s
  tame_of s file w is frame no_target no_jump no_forget named no_status no_pclath =
      let status : writes_status s ≡ false = ap (writes is_status) is ∙ and_none w (is_status file) no_status in
      let pclath : writes_pclath s ≡ false =
      neither (reads_table s) (names_pclath s) (reads_none s (file, w) is) (ap (writes is_pclath) is ∙ and_none w (is_pclath file) no_pclath) in
      record {
        needs = ap (λ (o : Option (Operand × Bool)). banked placed (byte_touched o)) is ∙ named ∙ ap (λ (b : Bool). Some (if b then Some bank else None)) (sym frame);
        page = subst (λ (o : Option Target). FitsPage own (jumps s) o) (sym no_target) no_jump;
        rp0 = none_and (writes_status s) (is_of_bit s 5) status;
        rp1 = none_and (writes_status s) (is_of_bit s 6) status;
        pages = pclath;
        skip = λ e. (neither (writes_status s) (writes_pclath s) status pclath, no_jump);
        keeps = λ e. no_forget;
      }

module _ (placed : Placed) (root : Root) (copy size bank : ℕ) (own : BlockName) (frame_bank : (offset : ℕ) → offset < size → (at : ℕ) × (address_of placed (bytes.Frame copy offset) ≡ Some at) × (at / 128 ≡ bank)) where
  frame_needs : (c offset : ℕ) → c ≡ copy → offset < size → banked placed (Some (bytes.Frame c offset)) ≡ Some (Some bank)
  frame_needs c offset is l =
      let h = frame_bank offset l in
      ap (λ n. banked_at (address_of placed (bytes.Frame n offset))) is ∙ ap banked_at h.1 ∙ ap (λ n. Some (Some n)) h.2

  operand_needs : (file : Operand) → IsOwnOperand root copy size file → banked placed (byte_named file) ≡ Some (if is_in_frame file then Some bank else None)
  operand_needs (operands.Byte (bytes.Frame c offset)) h = frame_needs c offset h.0 h.1
  operand_needs (operands.Byte (bytes.Result r k)) h = refl
  operand_needs (operands.Byte byte) h = absurd h
  operand_needs (operands.Register register) h = absurd h
  operand_needs (operands.Saved cell) h = absurd h

  operand_status : (file : Operand) → IsOwnOperand root copy size file → is_status file ≡ false
  operand_status (operands.Byte (bytes.Frame c offset)) h = refl
  operand_status (operands.Byte (bytes.Result r k)) h = refl
  operand_status (operands.Byte byte) h = absurd h
  operand_status (operands.Register register) h = absurd h
  operand_status (operands.Saved cell) h = absurd h

  operand_pclath : (file : Operand) → IsOwnOperand root copy size file → is_pclath file ≡ false
  operand_pclath (operands.Byte (bytes.Frame c offset)) h = refl
  operand_pclath (operands.Byte (bytes.Result r k)) h = refl
  operand_pclath (operands.Byte byte) h = absurd h
  operand_pclath (operands.Register register) h = absurd h
  operand_pclath (operands.Saved cell) h = absurd h

  abbrev Tame : Sym → Type 0
  Tame s = IsTame placed own bank s

  -- an instruction on a file operand of the routine
  tame_by : (s : Sym) (file : Operand) (w : Bool) → touches s ≡ Some (file, w) → accesses_frame s ≡ is_in_frame file → target_of s ≡ None → jumps s ≡ false → forgets s ≡ false → IsOwnOperand root copy size file → Tame s
  tame_by s file w is frame no_target no_jump no_forget h = tame_of placed own bank s file w is frame no_target no_jump no_forget (operand_needs file h) (operand_status file h) (operand_pclath file h)

  flag_pclath : (op : BitOperation) (register : Register) (k : ℕ) → register ≡ Status → writes_pclath (syms.Bit op (operands.Register register) k) ≡ false
  flag_pclath op register k is = and_none (is_bit_write op) (is_pclath (operands.Register register)) (ap (λ (r : Register). is_pclath (operands.Register r)) is)

  flag_skip : (op : BitOperation) (register : Register) (k : ℕ) → is_skip (syms.Bit op (operands.Register register) k) ≡ true → (writes_status (syms.Bit op (operands.Register register) k) || writes_pclath (syms.Bit op (operands.Register register) k)) ≡ false
  flag_skip Btfsc register k e = refl
  flag_skip Btfss register k e = refl
  flag_skip op register k e = never e

  pub tame : (s : Sym) → IsOwn root copy size s → Tame s
  tame (syms.File op file into) h = tame_by (syms.File op file into) file (is_file into) refl refl refl refl refl h
  tame (syms.Movwf file) h = tame_by (syms.Movwf file) file true refl refl refl refl refl h
  tame (syms.Clrf file) h = tame_by (syms.Clrf file) file true refl refl refl refl refl h
  tame (syms.Bit op (operands.Register register) k) h = record {
    needs = refl;
    page = refl;
    rp0 = and_none (writes_status (syms.Bit op (operands.Register register) k)) (nat_eq k 5) (below_three k 5 h.1 (omega arith));
    rp1 = and_none (writes_status (syms.Bit op (operands.Register register) k)) (nat_eq k 6) (below_three k 6 h.1 (omega arith));
    pages = flag_pclath op register k h.0;
    skip = λ e. (flag_skip op register k e, refl);
    keeps = λ e. refl;
  }
  tame (syms.Bit op file k) h = tame_by (syms.Bit op file k) file (is_bit_write op) refl refl refl refl refl h
  tame (syms.Literal op (literals.Number n)) h = record { needs = refl; page = refl; rp0 = refl; rp1 = refl; pages = refl; skip = λ e. never e; keeps = λ e. refl }
  tame (syms.Plain op) h = record { needs = refl; page = refl; rp0 = refl; rp1 = refl; pages = refl; skip = λ e. never e; keeps = λ e. refl }
  tame (syms.Goto (targets.Label (labels.Inner n))) h = record { needs = refl; page = (refl, refl); rp0 = refl; rp1 = refl; pages = refl; skip = λ e. never e; keeps = λ e. refl }
  tame (syms.Label label) h = record { needs = refl; page = refl; rp0 = refl; rp1 = refl; pages = refl; skip = λ e. never e; keeps = λ e. never (sym e) }
  tame s h = absurd h

  pub all_tame : (list : List Sym) → All (IsOwn root copy size) list → AllTame placed own bank list
  all_tame [] h = tt
  all_tame (s ∷ list) h = (tame s (h 0 s (omega arith)), all_tame list (λ k d l. h (suc k) d (omega arith)))
