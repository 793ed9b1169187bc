-- Each instruction keeps W, the flags and all bytes within their ranges, and changes no other register.
use Rattle.std.proofs.Common.{◌≡◌, ℕ, zero, suc, ◌<◌, ◌≤◌, Bool, true, false, refl, ap, ◌∙◌, arith, bit_and, bit_xor}
use Rattle.std.specs.Prelude.{nat_eq, if◌then◌else◌}
use Rattle.std.proofs.lemmas.Nat.{or_lt, xor_lt, and_le_l}
use Rattle.pic_world.specs.Bits.{truth}
use Rattle.math_helpers.specs.Wanted.{with_flags}
use Rattle.sym_code.specs.Effect.{Memory, with_byte}
use Rattle.sym_code.specs.Registers.{Registers, Fits}
use Rattle.sym_code.specs.declared.code.BitOperation.TheVariants.{Bcf, Bsf, Btfsc, Btfss}
use Rattle.sym_code.specs.declared.code.FileOperation.{FileOperation}
use Rattle.sym_code.specs.declared.code.FileOperation.TheVariants.{Addwf, Andwf, Comf, Decf, Decfsz, Incf, Incfsz, Iorwf, Movf, Rlf, Rrf, Subwf, Swapf, Xorwf}
use Rattle.sym_code.specs.declared.code.Into.TheVariants.{W, File}
use Rattle.sym_code.specs.declared.code.Literal.TheVariants as literals
use Rattle.sym_code.specs.declared.code.LiteralOperation.TheVariants.{Addlw, Movlw, Xorlw}
use Rattle.sym_code.specs.declared.code.Operand.TheVariants as operands
use Rattle.sym_code.specs.declared.code.PlainOperation.TheVariants as plains
use Rattle.sym_code.specs.declared.code.Register.TheVariants.{Status}
use Rattle.sym_code.specs.declared.code.Sym as code
use Rattle.sym_code.specs.declared.code.Sym.TheVariants as sym
use Rattle.core_code.specs.declared.code.Byte.{Byte}
use Rattle.select_trace.specs.Links.{AreBytes}
use Rattle.select_trace.specs.Rows.{result_with, flags_with, with_status_bit}
use Rattle.select_trace.specs.Run as run
use Rattle.select_trace.specs.Run.{Sym, Row, Test, Flag, Clrw, Return, Goto, Label, execute}
use Rattle.select_trace.specs.Silent.{IsStraight, plain}

-- the numbers in an instruction fit into it, and it changes no bit of STATUS but the flags
abbrev pub IsWithin : Sym → Type 0
IsWithin (run.Movlw n) = n < 256
IsWithin (run.Addlw n) = n < 256
IsWithin (run.Xorlw n) = n < 256
IsWithin (Flag op n) = n < 3
IsWithin _ = Unit {0}

pub record Keeps (r q : Registers) (n : Memory) : Type 0 where
  pub fits : Fits q
  pub same : q ≡ with_flags r q
  pub bytes : AreBytes n

truth_small : (b : Bool) → truth b < 2
truth_small true = omega arith
truth_small false = omega arith

result_small : (op : FileOperation) (r : Registers) (x : ℕ) → Fits r → x < 256 → result_with r op x < 256
result_small Addwf r x f lt = omega arith
result_small Andwf r x f lt = let h : bit_and r.w x ≤ r.w = and_le_l r.w x in let w : r.w < 256 = f.w in omega arith
result_small Comf r x f lt = omega arith
result_small Decf r x f lt = omega arith
result_small Decfsz r x f lt = omega arith
result_small Incf r x f lt = omega arith
result_small Incfsz r x f lt = omega arith
result_small Iorwf r x f lt = or_lt 8 r.w x f.w lt
result_small Movf r x f lt = lt
result_small Rlf r x f lt = omega arith
result_small Rrf r x f lt = let c : r.c < 2 = f.flags.2 in omega arith
result_small Subwf r x f lt = omega arith
result_small Swapf r x f lt = omega arith
result_small Xorwf r x f lt = xor_lt 8 r.w x f.w lt

with_z : (r : Registers) (b : Bool) → Fits r → Fits (record r { z = truth b })
with_z r b f = record { w = f.w; flags = (truth_small b, f.flags.1, f.flags.2); pointer = f.pointer; banks = f.banks; pages = f.pages }

with_c : (r : Registers) (c : ℕ) → c < 2 → Fits r → Fits (record r { c = c })
with_c r c lt f = record { w = f.w; flags = (f.flags.0, f.flags.1, lt); pointer = f.pointer; banks = f.banks; pages = f.pages }

with_all : (r : Registers) (a b d : Bool) → Fits r → Fits (record r { z = truth a; dc = truth b; c = truth d })
with_all r a b d f = record { w = f.w; flags = (truth_small a, truth_small b, truth_small d); pointer = f.pointer; banks = f.banks; pages = f.pages }

with_w : (r : Registers) (w : ℕ) → w < 256 → Fits r → Fits (record r { w = w })
with_w r w lt f = record { w = lt; flags = f.flags; pointer = f.pointer; banks = f.banks; pages = f.pages }

flags_fit : (op : FileOperation) (r : Registers) (x : ℕ) → Fits r → Fits (flags_with r op x)
flags_fit Addwf r x f = with_all r _ _ _ f
flags_fit Andwf r x f = with_z r _ f
flags_fit Comf r x f = with_z r _ f
flags_fit Decf r x f = with_z r _ f
flags_fit Decfsz r x f = f
flags_fit Incf r x f = with_z r _ f
flags_fit Incfsz r x f = f
flags_fit Iorwf r x f = with_z r _ f
flags_fit Movf r x f = with_z r _ f
flags_fit Rlf r x f = with_c r _ (omega arith) f
flags_fit Rrf r x f = with_c r _ (omega arith) f
flags_fit Subwf r x f = with_all r _ _ _ f
flags_fit Swapf r x f = f
flags_fit Xorwf r x f = with_z r _ f

flags_same : (op : FileOperation) (r : Registers) (x : ℕ) → flags_with r op x ≡ with_flags r (flags_with r op x)
flags_same Addwf r x = refl
flags_same Andwf r x = refl
flags_same Comf r x = refl
flags_same Decf r x = refl
flags_same Decfsz r x = refl
flags_same Incf r x = refl
flags_same Incfsz r x = refl
flags_same Iorwf r x = refl
flags_same Movf r x = refl
flags_same Rlf r x = refl
flags_same Rrf r x = refl
flags_same Subwf r x = refl
flags_same Swapf r x = refl
flags_same Xorwf r x = refl

w_same : (r q : Registers) (w : ℕ) → q ≡ with_flags r q → record q { w = w } ≡ with_flags r (record q { w = w })
w_same r q w e = ap (λ (x : Registers). record x { w = w }) e

one_byte : (m : Memory) (a v : ℕ) → AreBytes m → v < 256 → AreBytes (with_byte m a v)
one_byte m a v ok lt b = by (nat_eq b a)
  where
    by : (c : Bool) → (if c then v else m b) < 256
    by true = lt
    by false = ok b

flag_keeps : (r : Registers) (n v : ℕ) → n < 3 → v < 2 → Fits r → Fits (with_status_bit r n v) × (with_status_bit r n v ≡ with_flags r (with_status_bit r n v))
flag_keeps r zero v lt vl f = (record { w = f.w; flags = (f.flags.0, f.flags.1, vl); pointer = f.pointer; banks = f.banks; pages = f.pages }, refl)
flag_keeps r (suc zero) v lt vl f = (record { w = f.w; flags = (f.flags.0, vl, f.flags.2); pointer = f.pointer; banks = f.banks; pages = f.pages }, refl)
flag_keeps r (suc (suc zero)) v lt vl f = (record { w = f.w; flags = (vl, f.flags.1, f.flags.2); pointer = f.pointer; banks = f.banks; pages = f.pages }, refl)
flag_keeps r (suc (suc (suc n))) v lt vl f = absurd (omega arith)

pub still : (r : Registers) (m : Memory) → Fits r → AreBytes m → Keeps r r m
still r m f ok = record { fits = f; same = refl; bytes = ok }

pub keeps : (x : Sym) (r : Registers) (m : Memory) → IsWithin x → Fits r → AreBytes m → Keeps r (execute x r m).registers (execute x r m).memory
keeps (Row op a W) r m h f ok = record {
  fits = with_w (flags_with r op (m a)) _ (result_small op r (m a) f (ok a)) (flags_fit op r (m a) f);
  same = w_same r (flags_with r op (m a)) _ (flags_same op r (m a));
  bytes = ok;
}
keeps (Row op a File) r m h f ok = record { fits = flags_fit op r (m a) f; same = flags_same op r (m a); bytes = one_byte m a _ ok (result_small op r (m a) f (ok a)) }
keeps (run.Movwf a) r m h f ok = record { fits = f; same = refl; bytes = one_byte m a r.w ok f.w }
keeps (run.Clrf a) r m h f ok = record { fits = with_z r true f; same = refl; bytes = one_byte m a 0 ok (omega arith) }
keeps (Test Bcf a b) r m h f ok = still r m f ok
keeps (Test Bsf a b) r m h f ok = still r m f ok
keeps (Test Btfsc a b) r m h f ok = still r m f ok
keeps (Test Btfss a b) r m h f ok = still r m f ok
keeps (Flag Bcf b) r m h f ok = let k = flag_keeps r b 0 h (omega arith) f in record { fits = k.0; same = k.1; bytes = ok }
keeps (Flag Bsf b) r m h f ok = let k = flag_keeps r b 1 h (omega arith) f in record { fits = k.0; same = k.1; bytes = ok }
keeps (Flag Btfsc b) r m h f ok = still r m f ok
keeps (Flag Btfss b) r m h f ok = still r m f ok
keeps (run.Movlw n) r m h f ok = record { fits = with_w r n h f; same = refl; bytes = ok }
keeps (run.Addlw n) r m h f ok = record { fits = with_w (flags_with r Addwf n) _ (result_small Addwf r n f h) (flags_fit Addwf r n f); same = w_same r (flags_with r Addwf n) _ (flags_same Addwf r n); bytes = ok }
keeps (run.Xorlw n) r m h f ok = record { fits = with_w (record r { z = truth (nat_eq (bit_xor n r.w) 0) }) (bit_xor n r.w) (xor_lt 8 n r.w h f.w) (with_z r (nat_eq (bit_xor n r.w) 0) f); same = refl; bytes = ok }
keeps Clrw r m h f ok = record { fits = with_w (record r { z = 1 }) 0 (omega arith) (with_z r true f); same = refl; bytes = ok }
keeps Return r m h f ok = still r m f ok
keeps (Goto n) r m h f ok = still r m f ok
keeps (Label n) r m h f ok = still r m f ok

pub keeps_then : (r q s : Registers) (m n : Memory) → Keeps r q m → Keeps q s n → Keeps r s n
keeps_then r q s m n a b = record { fits = b.fits; same = b.same ∙ ap (λ (x : Registers). with_flags x s) a.same; bytes = b.bytes }

pub within_of : (P : Byte → Type 0) (at : Byte → ℕ) (x : code.Sym) → IsStraight P x → IsWithin (plain at x)
within_of P at (sym.File op (operands.Byte byte) into) h = tt
within_of P at (sym.Movwf (operands.Byte byte)) h = tt
within_of P at (sym.Clrf (operands.Byte byte)) h = tt
within_of P at (sym.Bit Btfsc (operands.Byte byte) n) h = tt
within_of P at (sym.Bit Btfss (operands.Byte byte) n) h = tt
within_of P at (sym.Bit op (operands.Register Status) n) h = h
within_of P at (sym.Literal Movlw (literals.Number n)) h = h
within_of P at (sym.Literal Addlw (literals.Number n)) h = h
within_of P at (sym.Literal Xorlw (literals.Number n)) h = h
within_of P at (sym.Plain plains.Clrw) h = tt
within_of P at x h = absurd h
