-- What operations make of registers that are alike, on both machines or on one.
use Rattle.std.proofs.Common.{◌≡◌, ℕ, true, false, Some, refl, sym, ap, ◌∙◌, arith}
use Rattle.std.specs.Prelude.{nat_eq, bit_and, bit_or}
use Rattle.std.proofs.lemmas.Nat.{and_comm, or_comm, xor_comm, and_le_r, or_disjoint}
use Rattle.pic_isa.specs.declared.Ins.TheVariants as ins
use Rattle.pic_world.specs.Bits.{truth}
use Rattle.sym_code.specs.Registers.{Registers, result_with, flags_with, skips_with, literal_row, after_row}
use Rattle.sym_code.specs.declared.code.FileOperation.{FileOperation}
use Rattle.sym_code.specs.declared.code.FileOperation.TheVariants as files
use Rattle.sym_code.specs.declared.code.LiteralOperation.{LiteralOperation}
use Rattle.sym_code.specs.declared.code.LiteralOperation.TheVariants as literals
use Rattle.lean_code.specs.Rows.{Apart}
use Rattle.lean_code.specs.Changes.{Alike, flags_in, uses_w, uses_c, may_skip, literal_flags, literal_uses, is_retlw, literal_for, both_set, one_sets, same_w, other_w}
use Rattle.lean_code.proofs.Lists.{never}

-- ---- operations on a byte
module _ (d : Apart) (r s : Registers) (a : Alike d r s) where
  pub result_same : (op : FileOperation) (v y : ℕ) → (uses_w op ≡ true → d.w ≡ false) → (uses_c op ≡ true → d.c ≡ false) → v ≡ y → result_with r op v ≡ result_with s op y
  unfolding result_with
  result_same files.Addwf v y w c e = ap (λ (n : ℕ). result_with r files.Addwf n) e ∙ ap (λ (n : ℕ). result_with (record s { w = n }) files.Addwf y) (a.w (w refl))
  result_same files.Subwf v y w c e = ap (λ (n : ℕ). result_with r files.Subwf n) e ∙ ap (λ (n : ℕ). result_with (record s { w = n }) files.Subwf y) (a.w (w refl))
  result_same files.Andwf v y w c e = ap (λ (n : ℕ). result_with r files.Andwf n) e ∙ ap (λ (n : ℕ). result_with (record s { w = n }) files.Andwf y) (a.w (w refl))
  result_same files.Iorwf v y w c e = ap (λ (n : ℕ). result_with r files.Iorwf n) e ∙ ap (λ (n : ℕ). result_with (record s { w = n }) files.Iorwf y) (a.w (w refl))
  result_same files.Xorwf v y w c e = ap (λ (n : ℕ). result_with r files.Xorwf n) e ∙ ap (λ (n : ℕ). result_with (record s { w = n }) files.Xorwf y) (a.w (w refl))
  result_same files.Comf v y w c e = ap (λ (n : ℕ). result_with s files.Comf n) e
  result_same files.Decf v y w c e = ap (λ (n : ℕ). result_with s files.Decf n) e
  result_same files.Incf v y w c e = ap (λ (n : ℕ). result_with s files.Incf n) e
  result_same files.Movf v y w c e = ap (λ (n : ℕ). result_with s files.Movf n) e
  result_same files.Rlf v y w c e = ap (λ (n : ℕ). result_with r files.Rlf n) e ∙ ap (λ (n : ℕ). result_with (record s { c = n }) files.Rlf y) (a.c (c refl))
  result_same files.Rrf v y w c e = ap (λ (n : ℕ). result_with r files.Rrf n) e ∙ ap (λ (n : ℕ). result_with (record s { c = n }) files.Rrf y) (a.c (c refl))
  result_same files.Decfsz v y w c e = ap (λ (n : ℕ). result_with s files.Decfsz n) e
  result_same files.Incfsz v y w c e = ap (λ (n : ℕ). result_with s files.Incfsz n) e
  result_same files.Swapf v y w c e = ap (λ (n : ℕ). result_with s files.Swapf n) e

  pub skips_same : (op : FileOperation) (v y : ℕ) → v ≡ y → skips_with r op v ≡ skips_with s op y
  unfolding skips_with
  skips_same files.Decfsz v y e = ap (λ (n : ℕ). skips_with s files.Decfsz n) e
  skips_same files.Incfsz v y e = ap (λ (n : ℕ). skips_with s files.Incfsz n) e
  skips_same op v y e = refl

  pub flags_same : (op : FileOperation) (v y : ℕ) → (uses_w op ≡ true → d.w ≡ false) → (uses_c op ≡ true → d.c ≡ false) → v ≡ y → Alike (both_set (flags_in op) d) (flags_with r op v) (flags_with s op y)
  unfolding flags_with
  flags_same files.Addwf v y w c e = record { w = a.w; z = λ k. ap (λ (n : ℕ). (flags_with r files.Addwf n).z) e ∙ ap (λ (n : ℕ). (flags_with (record s { w = n }) files.Addwf y).z) (a.w (w refl)); dc = λ k. ap (λ (n : ℕ). (flags_with r files.Addwf n).dc) e ∙ ap (λ (n : ℕ). (flags_with (record s { w = n }) files.Addwf y).dc) (a.w (w refl)); c = λ k. ap (λ (n : ℕ). (flags_with r files.Addwf n).c) e ∙ ap (λ (n : ℕ). (flags_with (record s { w = n }) files.Addwf y).c) (a.w (w refl)); fsr = a.fsr; irp = a.irp }
  flags_same files.Subwf v y w c e = record { w = a.w; z = λ k. ap (λ (n : ℕ). (flags_with r files.Subwf n).z) e ∙ ap (λ (n : ℕ). (flags_with (record s { w = n }) files.Subwf y).z) (a.w (w refl)); dc = λ k. ap (λ (n : ℕ). (flags_with r files.Subwf n).dc) e ∙ ap (λ (n : ℕ). (flags_with (record s { w = n }) files.Subwf y).dc) (a.w (w refl)); c = λ k. ap (λ (n : ℕ). (flags_with r files.Subwf n).c) e ∙ ap (λ (n : ℕ). (flags_with (record s { w = n }) files.Subwf y).c) (a.w (w refl)); fsr = a.fsr; irp = a.irp }
  flags_same files.Andwf v y w c e = record { w = a.w; z = λ k. ap (λ (n : ℕ). (flags_with r files.Andwf n).z) e ∙ ap (λ (n : ℕ). (flags_with (record s { w = n }) files.Andwf y).z) (a.w (w refl)); dc = a.dc; c = a.c; fsr = a.fsr; irp = a.irp }
  flags_same files.Iorwf v y w c e = record { w = a.w; z = λ k. ap (λ (n : ℕ). (flags_with r files.Iorwf n).z) e ∙ ap (λ (n : ℕ). (flags_with (record s { w = n }) files.Iorwf y).z) (a.w (w refl)); dc = a.dc; c = a.c; fsr = a.fsr; irp = a.irp }
  flags_same files.Xorwf v y w c e = record { w = a.w; z = λ k. ap (λ (n : ℕ). (flags_with r files.Xorwf n).z) e ∙ ap (λ (n : ℕ). (flags_with (record s { w = n }) files.Xorwf y).z) (a.w (w refl)); dc = a.dc; c = a.c; fsr = a.fsr; irp = a.irp }
  flags_same files.Comf v y w c e = record { w = a.w; z = λ k. ap (λ (n : ℕ). (flags_with s files.Comf n).z) e; dc = a.dc; c = a.c; fsr = a.fsr; irp = a.irp }
  flags_same files.Decf v y w c e = record { w = a.w; z = λ k. ap (λ (n : ℕ). (flags_with s files.Decf n).z) e; dc = a.dc; c = a.c; fsr = a.fsr; irp = a.irp }
  flags_same files.Incf v y w c e = record { w = a.w; z = λ k. ap (λ (n : ℕ). (flags_with s files.Incf n).z) e; dc = a.dc; c = a.c; fsr = a.fsr; irp = a.irp }
  flags_same files.Movf v y w c e = record { w = a.w; z = λ k. ap (λ (n : ℕ). (flags_with s files.Movf n).z) e; dc = a.dc; c = a.c; fsr = a.fsr; irp = a.irp }
  flags_same files.Rlf v y w c e = record { w = a.w; z = a.z; dc = a.dc; c = λ k. ap (λ (n : ℕ). (flags_with s files.Rlf n).c) e; fsr = a.fsr; irp = a.irp }
  flags_same files.Rrf v y w c e = record { w = a.w; z = a.z; dc = a.dc; c = λ k. ap (λ (n : ℕ). (flags_with s files.Rrf n).c) e; fsr = a.fsr; irp = a.irp }
  flags_same files.Decfsz v y w c e = record { w = a.w; z = a.z; dc = a.dc; c = a.c; fsr = a.fsr; irp = a.irp }
  flags_same files.Incfsz v y w c e = record { w = a.w; z = a.z; dc = a.dc; c = a.c; fsr = a.fsr; irp = a.irp }
  flags_same files.Swapf v y w c e = record { w = a.w; z = a.z; dc = a.dc; c = a.c; fsr = a.fsr; irp = a.irp }

  -- only the first one
  pub flags_alone : (op : FileOperation) (v : ℕ) → Alike (one_sets (flags_in op) d) (flags_with r op v) s
  unfolding flags_with
  flags_alone files.Addwf v = record { w = a.w; z = λ k. never (sym k); dc = λ k. never (sym k); c = λ k. never (sym k); fsr = a.fsr; irp = a.irp }
  flags_alone files.Subwf v = record { w = a.w; z = λ k. never (sym k); dc = λ k. never (sym k); c = λ k. never (sym k); fsr = a.fsr; irp = a.irp }
  flags_alone files.Andwf v = record { w = a.w; z = λ k. never (sym k); dc = a.dc; c = a.c; fsr = a.fsr; irp = a.irp }
  flags_alone files.Iorwf v = record { w = a.w; z = λ k. never (sym k); dc = a.dc; c = a.c; fsr = a.fsr; irp = a.irp }
  flags_alone files.Xorwf v = record { w = a.w; z = λ k. never (sym k); dc = a.dc; c = a.c; fsr = a.fsr; irp = a.irp }
  flags_alone files.Comf v = record { w = a.w; z = λ k. never (sym k); dc = a.dc; c = a.c; fsr = a.fsr; irp = a.irp }
  flags_alone files.Decf v = record { w = a.w; z = λ k. never (sym k); dc = a.dc; c = a.c; fsr = a.fsr; irp = a.irp }
  flags_alone files.Incf v = record { w = a.w; z = λ k. never (sym k); dc = a.dc; c = a.c; fsr = a.fsr; irp = a.irp }
  flags_alone files.Movf v = record { w = a.w; z = λ k. never (sym k); dc = a.dc; c = a.c; fsr = a.fsr; irp = a.irp }
  flags_alone files.Rlf v = record { w = a.w; z = a.z; dc = a.dc; c = λ k. never (sym k); fsr = a.fsr; irp = a.irp }
  flags_alone files.Rrf v = record { w = a.w; z = a.z; dc = a.dc; c = λ k. never (sym k); fsr = a.fsr; irp = a.irp }
  flags_alone files.Decfsz v = record { w = a.w; z = a.z; dc = a.dc; c = a.c; fsr = a.fsr; irp = a.irp }
  flags_alone files.Incfsz v = record { w = a.w; z = a.z; dc = a.dc; c = a.c; fsr = a.fsr; irp = a.irp }
  flags_alone files.Swapf v = record { w = a.w; z = a.z; dc = a.dc; c = a.c; fsr = a.fsr; irp = a.irp }

  -- ---- operations on a number
  pub literal_same : (op : LiteralOperation) (k : ℕ) → is_retlw op ≡ false → (literal_uses op ≡ true → d.w ≡ false) → Alike (same_w (both_set (literal_flags op) d)) (after_row (literal_row op k) r) (after_row (literal_row op k) s)
  unfolding after_row
  literal_same literals.Addlw k plain w = record { w = λ e. ap (λ (n : ℕ). (after_row (ins.Addlw k) (record s { w = n })).w) (a.w (w refl)); z = λ e. ap (λ (n : ℕ). (after_row (ins.Addlw k) (record s { w = n })).z) (a.w (w refl)); dc = λ e. ap (λ (n : ℕ). (after_row (ins.Addlw k) (record s { w = n })).dc) (a.w (w refl)); c = λ e. ap (λ (n : ℕ). (after_row (ins.Addlw k) (record s { w = n })).c) (a.w (w refl)); fsr = a.fsr; irp = a.irp }
  literal_same literals.Sublw k plain w = record { w = λ e. ap (λ (n : ℕ). (after_row (ins.Sublw k) (record s { w = n })).w) (a.w (w refl)); z = λ e. ap (λ (n : ℕ). (after_row (ins.Sublw k) (record s { w = n })).z) (a.w (w refl)); dc = λ e. ap (λ (n : ℕ). (after_row (ins.Sublw k) (record s { w = n })).dc) (a.w (w refl)); c = λ e. ap (λ (n : ℕ). (after_row (ins.Sublw k) (record s { w = n })).c) (a.w (w refl)); fsr = a.fsr; irp = a.irp }
  literal_same literals.Andlw k plain w = record { w = λ e. ap (λ (n : ℕ). (after_row (ins.Andlw k) (record s { w = n })).w) (a.w (w refl)); z = λ e. ap (λ (n : ℕ). (after_row (ins.Andlw k) (record s { w = n })).z) (a.w (w refl)); dc = a.dc; c = a.c; fsr = a.fsr; irp = a.irp }
  literal_same literals.Iorlw k plain w = record { w = λ e. ap (λ (n : ℕ). (after_row (ins.Iorlw k) (record s { w = n })).w) (a.w (w refl)); z = λ e. ap (λ (n : ℕ). (after_row (ins.Iorlw k) (record s { w = n })).z) (a.w (w refl)); dc = a.dc; c = a.c; fsr = a.fsr; irp = a.irp }
  literal_same literals.Xorlw k plain w = record { w = λ e. ap (λ (n : ℕ). (after_row (ins.Xorlw k) (record s { w = n })).w) (a.w (w refl)); z = λ e. ap (λ (n : ℕ). (after_row (ins.Xorlw k) (record s { w = n })).z) (a.w (w refl)); dc = a.dc; c = a.c; fsr = a.fsr; irp = a.irp }
  literal_same literals.Movlw k plain w = record { w = λ e. refl; z = a.z; dc = a.dc; c = a.c; fsr = a.fsr; irp = a.irp }
  literal_same literals.Retlw k plain w = never (sym plain)

  pub literal_alone : (op : LiteralOperation) (k : ℕ) → is_retlw op ≡ false → Alike (other_w (one_sets (literal_flags op) d)) (after_row (literal_row op k) r) s
  unfolding after_row
  literal_alone literals.Addlw k plain = record { w = λ e. never (sym e); z = λ e. never (sym e); dc = λ e. never (sym e); c = λ e. never (sym e); fsr = a.fsr; irp = a.irp }
  literal_alone literals.Sublw k plain = record { w = λ e. never (sym e); z = λ e. never (sym e); dc = λ e. never (sym e); c = λ e. never (sym e); fsr = a.fsr; irp = a.irp }
  literal_alone literals.Andlw k plain = record { w = λ e. never (sym e); z = λ e. never (sym e); dc = a.dc; c = a.c; fsr = a.fsr; irp = a.irp }
  literal_alone literals.Iorlw k plain = record { w = λ e. never (sym e); z = λ e. never (sym e); dc = a.dc; c = a.c; fsr = a.fsr; irp = a.irp }
  literal_alone literals.Xorlw k plain = record { w = λ e. never (sym e); z = λ e. never (sym e); dc = a.dc; c = a.c; fsr = a.fsr; irp = a.irp }
  literal_alone literals.Movlw k plain = record { w = λ e. never (sym e); z = a.z; dc = a.dc; c = a.c; fsr = a.fsr; irp = a.irp }
  literal_alone literals.Retlw k plain = never (sym plain)

  -- CLRW
  pub clear_same : Alike (record d { w = false; z = false }) (after_row ins.Clrw r) (after_row ins.Clrw s)
  unfolding after_row
  clear_same = record { w = λ e. refl; z = λ e. refl; dc = a.dc; c = a.c; fsr = a.fsr; irp = a.irp }

  pub clear_alone : Alike (record d { w = true; z = true }) (after_row ins.Clrw r) s
  unfolding after_row
  clear_alone = record { w = λ e. never (sym e); z = λ e. never (sym e); dc = a.dc; c = a.c; fsr = a.fsr; irp = a.irp }

-- ---- the same operation on a byte that holds a number, and on the number
pub literal_is : (op : FileOperation) (new : LiteralOperation) (r : Registers) (k : ℕ) → literal_for op ≡ Some new → (new ≡ literals.Movlw → ⊥) → record (flags_with r op k) { w = result_with r op k } ≡ after_row (literal_row new k) r
unfolding flags_with result_with after_row
literal_is files.Addwf literals.Addlw r k is no_move = refl
literal_is files.Addwf literals.Andlw r k is no_move = absurd (cc)
literal_is files.Addwf literals.Iorlw r k is no_move = absurd (cc)
literal_is files.Addwf literals.Movlw r k is no_move = absurd (cc)
literal_is files.Addwf literals.Retlw r k is no_move = absurd (cc)
literal_is files.Addwf literals.Sublw r k is no_move = absurd (cc)
literal_is files.Addwf literals.Xorlw r k is no_move = absurd (cc)
literal_is files.Andwf literals.Addlw r k is no_move = absurd (cc)
literal_is files.Andwf literals.Andlw r k is no_move = ap (λ (v : ℕ). record r { w = v; z = truth (nat_eq v 0) }) (and_comm r.w k)
literal_is files.Andwf literals.Iorlw r k is no_move = absurd (cc)
literal_is files.Andwf literals.Movlw r k is no_move = absurd (cc)
literal_is files.Andwf literals.Retlw r k is no_move = absurd (cc)
literal_is files.Andwf literals.Sublw r k is no_move = absurd (cc)
literal_is files.Andwf literals.Xorlw r k is no_move = absurd (cc)
literal_is files.Iorwf literals.Addlw r k is no_move = absurd (cc)
literal_is files.Iorwf literals.Andlw r k is no_move = absurd (cc)
literal_is files.Iorwf literals.Iorlw r k is no_move = ap (λ (v : ℕ). record r { w = v; z = truth (nat_eq v 0) }) (or_comm r.w k)
literal_is files.Iorwf literals.Movlw r k is no_move = absurd (cc)
literal_is files.Iorwf literals.Retlw r k is no_move = absurd (cc)
literal_is files.Iorwf literals.Sublw r k is no_move = absurd (cc)
literal_is files.Iorwf literals.Xorlw r k is no_move = absurd (cc)
literal_is files.Subwf literals.Addlw r k is no_move = absurd (cc)
literal_is files.Subwf literals.Andlw r k is no_move = absurd (cc)
literal_is files.Subwf literals.Iorlw r k is no_move = absurd (cc)
literal_is files.Subwf literals.Movlw r k is no_move = absurd (cc)
literal_is files.Subwf literals.Retlw r k is no_move = absurd (cc)
literal_is files.Subwf literals.Sublw r k is no_move = refl
literal_is files.Subwf literals.Xorlw r k is no_move = absurd (cc)
literal_is files.Xorwf literals.Addlw r k is no_move = absurd (cc)
literal_is files.Xorwf literals.Andlw r k is no_move = absurd (cc)
literal_is files.Xorwf literals.Iorlw r k is no_move = absurd (cc)
literal_is files.Xorwf literals.Movlw r k is no_move = absurd (cc)
literal_is files.Xorwf literals.Retlw r k is no_move = absurd (cc)
literal_is files.Xorwf literals.Sublw r k is no_move = absurd (cc)
literal_is files.Xorwf literals.Xorlw r k is no_move = ap (λ (v : ℕ). record r { w = v; z = truth (nat_eq v 0) }) (xor_comm r.w k)
literal_is files.Movf literals.Movlw r k is no_move = absurd (no_move refl)
literal_is op new r k is no_move = absurd (cc)

-- W and Z behind a byte that is read
pub move_is : (r : Registers) (v : ℕ) → record (flags_with r files.Movf v) { w = result_with r files.Movf v } ≡ record r { w = v; z = truth (nat_eq v 0) }
unfolding flags_with result_with
move_is r v = refl

-- W stays as it is in the flags
pub flags_w : (r : Registers) (op : FileOperation) (v : ℕ) → (flags_with r op v).w ≡ r.w
unfolding flags_with
flags_w r files.Addwf v = refl
flags_w r files.Subwf v = refl
flags_w r files.Andwf v = refl
flags_w r files.Iorwf v = refl
flags_w r files.Xorwf v = refl
flags_w r files.Comf v = refl
flags_w r files.Decf v = refl
flags_w r files.Incf v = refl
flags_w r files.Movf v = refl
flags_w r files.Rlf v = refl
flags_w r files.Rrf v = refl
flags_w r files.Decfsz v = refl
flags_w r files.Incfsz v = refl
flags_w r files.Swapf v = refl

pub or_none : (a : ℕ) → bit_or a 0 ≡ a
or_none a = let l = and_le_r a 0 in let z : bit_and a 0 ≡ 0 = omega arith in let e = or_disjoint a 0 z in omega arith

-- OR of W and 0 leaves W, and sets Z by it
pub or_nothing : (r : Registers) (v : ℕ) → v ≡ 0 → after_row (literal_row literals.Iorlw v) r ≡ record r { w = r.w; z = truth (nat_eq r.w 0) }
unfolding after_row
or_nothing r v zero = ap (λ (k : ℕ). after_row (literal_row literals.Iorlw k) r) zero ∙ ap (λ (k : ℕ). record r { w = k; z = truth (nat_eq k 0) }) (or_comm 0 r.w ∙ or_none r.w)

pub no_skip : (r : Registers) (op : FileOperation) (v : ℕ) → may_skip op ≡ false → skips_with r op v ≡ false
unfolding skips_with
no_skip r files.Decfsz v e = never (sym e)
no_skip r files.Incfsz v e = never (sym e)
no_skip r op v e = refl

-- MOVLW leaves its number
pub moved_w : (r : Registers) (k : ℕ) → after_row (literal_row literals.Movlw k) r ≡ record r { w = k }
unfolding after_row
moved_w r k = refl

pub cleared_w : (r : Registers) → after_row ins.Clrw r ≡ record r { w = 0; z = 1 }
unfolding after_row
cleared_w r = refl
