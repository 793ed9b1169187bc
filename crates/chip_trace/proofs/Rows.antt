-- What a row with a file register makes of the byte that it reads, in the chip's table and in symbolic code.
use Rattle.std.proofs.Common.{◌≡◌, ℕ, ◌+◌, ◌*◌, ◌/◌, ◌%◌, ◌<◌, Bool, true, false, List, [], ◌∷◌, ◌++◌, refl, sym, ap, ◌∙◌, arith}
use Rattle.std.specs.Prelude.{nat_eq, nat_le, if◌then◌else◌, bit_and, bit_or, bit_xor}
use Rattle.std.proofs.lemmas.Bool.{eqb-true, eqb-false}
use Rattle.pic_chip.specs.declared.processor.Flags.{Flags}
use Rattle.pic_chip.specs.declared.processor.Flags.TheVariants.{Keep, OnlyZ, OnlyC, Sums}
use Rattle.pic_chip.specs.Changes.{after_reading, flagged, keeps_flags, finished, row_done}
use Rattle.pic_chip.specs.State.{State, AtW, AtZ}
use Rattle.pic_chip.specs.Act.{Derived, Act, value_in, apply, effect, perform, accesses, made}
use Rattle.pic_chip.specs.Address.{Place, operand}
use Rattle.pic_chip.specs.Instructions.{contents, big, row, byte_row, test_row, bit_row, sum, difference, complement, increment, decrement, swap, is_zero, is_empty, note, write_note, number, part, of, following, to}
use Rattle.pic_chip.specs.Operations.{result_of, flags_of, next_of}
use Rattle.pic_chip.proofs.Done.{row_runs, row_notes, test_runs, test_notes, write_runs, write_notes}
use Rattle.pic_isa.specs.declared.Ins.TheVariants as isa
use Rattle.pic_world.specs.Bits.{bit, truth}
use Rattle.code_place.specs.Instructions.{file_row}
use Rattle.sym_code.specs.Registers.{Registers, operation_of, result_with, flags_with, skips_with}
use Rattle.sym_code.specs.declared.code.FileOperation.{FileOperation}
use Rattle.sym_code.specs.declared.code.FileOperation.TheVariants.{Addwf, Andwf, Comf, Decf, Decfsz, Incf, Incfsz, Iorwf, Movf, Rlf, Rrf, Subwf, Swapf, Xorwf}

-- ---- results, flags and skips
abbrev pub res : FileOperation → ℕ → ℕ → ℕ → ℕ
res Addwf w c x = sum w x
res Andwf w c x = bit_and w x
res Comf w c x = complement x
res Decf w c x = decrement x
res Decfsz w c x = decrement x
res Incf w c x = increment x
res Incfsz w c x = increment x
res Iorwf w c x = bit_or w x
res Movf w c x = x
res Rlf w c x = (2 * x + c) % 256
res Rrf w c x = 128 * c + x / 2
res Subwf w c x = difference w x
res Swapf w c x = swap x
res Xorwf w c x = bit_xor w x

abbrev pub flg : FileOperation → ℕ → ℕ → Flags
flg Addwf w x = Sums (nat_le 256 (x + w)) (nat_le 16 (x % 16 + w % 16))
flg Subwf w x = Sums (nat_le w x) (nat_le (w % 16) (x % 16))
flg Rlf w x = OnlyC (nat_eq (x / 128 % 2) 1)
flg Rrf w x = OnlyC (nat_eq (x % 2) 1)
flg Decfsz w x = Keep
flg Incfsz w x = Keep
flg Swapf w x = Keep
flg Andwf w x = OnlyZ
flg Comf w x = OnlyZ
flg Decf w x = OnlyZ
flg Incf w x = OnlyZ
flg Iorwf w x = OnlyZ
flg Movf w x = OnlyZ
flg Xorwf w x = OnlyZ

abbrev pub skp : FileOperation → ℕ → Bool
skp Decfsz x = is_zero (decrement x)
skp Incfsz x = is_zero (increment x)
skp _ x = false

abbrev pub fz : Flags → ℕ → ℕ → ℕ
fz Keep v z = z
fz OnlyZ v z = truth (nat_eq v 0)
fz (OnlyC c) v z = z
fz (Sums c d) v z = truth (nat_eq v 0)

abbrev pub fd : Flags → ℕ → ℕ
fd Keep d = d
fd OnlyZ d = d
fd (OnlyC c) d = d
fd (Sums c dc) d = truth dc

abbrev pub fc : Flags → ℕ → ℕ
fc Keep c = c
fc OnlyZ c = c
fc (OnlyC b) c = truth b
fc (Sums b dc) c = truth b

pub with_flags : (fl : Flags) (v : ℕ) (t : State) → flagged fl v t ≡ record t { z = fz fl v t.z; dc = fd fl t.dc; c = fc fl t.c }
with_flags Keep v t = refl
with_flags OnlyZ v t = refl
with_flags (OnlyC c) v t = refl
with_flags (Sums c d) v t = refl

truth_of : (n : ℕ) → n < 2 → truth (nat_eq n 1) ≡ n
truth_of n h = by (nat_eq n 1) refl where
  by : (b : Bool) → nat_eq n 1 ≡ b → truth b ≡ n
  by true e = sym (eqb-true n 1 e)
  by false e = let ne = eqb-false n 1 e in omega (arith, ne, h)

-- ---- the chip's table
module _ (s : State) (v : Derived) where
  pub result_is : (op : FileOperation) → value_in s (result_of (operation_of op) v) ≡ res op s.w s.c (value_in s v)
  result_is Addwf = refl
  result_is Andwf = refl
  result_is Comf = refl
  result_is Decf = refl
  result_is Decfsz = refl
  result_is Incf = refl
  result_is Incfsz = refl
  result_is Iorwf = refl
  result_is Movf = refl
  result_is Rlf = refl
  result_is Rrf = refl
  result_is Subwf = refl
  result_is Swapf = refl
  result_is Xorwf = refl

  next_is : (pc : ℕ) (op : FileOperation) → value_in s (next_of pc (operation_of op) v) ≡ (pc + (if skp op (value_in s v) then 2 else 1)) % 8192
  next_is pc Addwf = refl
  next_is pc Andwf = refl
  next_is pc Comf = refl
  next_is pc Decf = refl
  next_is pc Decfsz = refl
  next_is pc Incf = refl
  next_is pc Incfsz = refl
  next_is pc Iorwf = refl
  next_is pc Movf = refl
  next_is pc Rlf = refl
  next_is pc Rrf = refl
  next_is pc Subwf = refl
  next_is pc Swapf = refl
  next_is pc Xorwf = refl

  flags_are : (op : FileOperation) (t : State) → apply (flags_of (operation_of op) v) s t ≡ flagged (flg op s.w (value_in s v)) (res op s.w s.c (value_in s v)) t
  flags_are Addwf t = refl
  flags_are Andwf t = refl
  flags_are Comf t = refl
  flags_are Decf t = refl
  flags_are Decfsz t = refl
  flags_are Incf t = refl
  flags_are Incfsz t = refl
  flags_are Iorwf t = refl
  flags_are Movf t = refl
  flags_are Rlf t = ap (λ c. record t { c = c }) (sym (truth_of (value_in s v / 128 % 2) (omega arith)))
  flags_are Rrf t = ap (λ c. record t { c = c }) (sym (truth_of (value_in s v % 2) (omega arith)))
  flags_are Subwf t = refl
  flags_are Swapf t = refl
  flags_are Xorwf t = refl

  empty_is : (op : FileOperation) → is_empty (flags_of (operation_of op) v) ≡ keeps_flags (flg op s.w (value_in s v))
  empty_is Addwf = refl
  empty_is Andwf = refl
  empty_is Comf = refl
  empty_is Decf = refl
  empty_is Decfsz = refl
  empty_is Incf = refl
  empty_is Incfsz = refl
  empty_is Iorwf = refl
  empty_is Movf = refl
  empty_is Rlf = refl
  empty_is Rrf = refl
  empty_is Subwf = refl
  empty_is Swapf = refl
  empty_is Xorwf = refl

row_is : (inputs : List ℕ) (pc : ℕ) (op : FileOperation) (f : ℕ) (d : Bool) → row inputs pc (file_row op f d) ≡ byte_row inputs pc f d (result_of (operation_of op)) (flags_of (operation_of op)) (next_of pc (operation_of op))
row_is inputs pc Addwf f d = refl
row_is inputs pc Andwf f d = refl
row_is inputs pc Comf f d = refl
row_is inputs pc Decf f d = refl
row_is inputs pc Decfsz f d = refl
row_is inputs pc Incf f d = refl
row_is inputs pc Incfsz f d = refl
row_is inputs pc Iorwf f d = refl
row_is inputs pc Movf f d = refl
row_is inputs pc Rlf f d = refl
row_is inputs pc Rrf f d = refl
row_is inputs pc Subwf f d = refl
row_is inputs pc Swapf f d = refl
row_is inputs pc Xorwf f d = refl

-- a row on numbers, where its operand leads to a place
module _ (inputs : List ℕ) (s : State) (f : ℕ) (p : Place) (leads : (next : Place → Act) → effect (operand f next) s ≡ effect (next p) s) where
  abbrev pub read_value : ℕ
  read_value = value_in s (contents inputs s.pc p)

  pub file_done : (op : FileOperation) (d : Bool) → perform (row inputs s.pc (file_row op f d)) s
      ≡ row_done ((s.pc + (if skp op read_value then 2 else 1)) % 8192) p d (res op s.w s.c read_value) (flg op s.w read_value) s
  file_done op d =
      let v = contents inputs s.pc p in
      ap (λ a. perform a s) (row_is inputs s.pc op f d)
      ∙ sym (row_runs big inputs s f p leads d (result_of (operation_of op)) (flags_of (operation_of op)) (next_of s.pc (operation_of op)) (res op s.w s.c read_value) _ (flg op s.w read_value)
      (result_is s v op) (next_is s v s.pc op) (flags_are s v op) (empty_is s v op))

  pub file_notes : (op : FileOperation) (d : Bool) → accesses (row inputs s.pc (file_row op f d)) s
      ≡ made (note false p (contents inputs s.pc p) ++ write_note d p (result_of (operation_of op) (contents inputs s.pc p))) s
  file_notes op d = ap (λ a. accesses a s) (row_is inputs s.pc op f d) ∙ sym (row_notes big inputs s f p leads d (result_of (operation_of op)) (flags_of (operation_of op)) (next_of s.pc (operation_of op)))

  -- BCF and BSF
  pub change_done : (change : ℕ → ℕ) → perform (bit_row inputs s.pc f change) s ≡ row_done ((s.pc + 1) % 8192) p true (change read_value) Keep s
  change_done change = sym (row_runs big inputs s f p leads true (of change) (λ x. []) (λ x. following s.pc) (change read_value) ((s.pc + 1) % 8192) Keep refl refl (λ t. refl) refl)

  pub change_notes : (change : ℕ → ℕ) → accesses (bit_row inputs s.pc f change) s ≡ made (note false p (contents inputs s.pc p) ++ write_note true p (of change (contents inputs s.pc p))) s
  change_notes change = sym (row_notes big inputs s f p leads true (of change) (λ x. []) (λ x. following s.pc))

  -- BTFSC and BTFSS
  pub test_done : (b v : ℕ) → perform (test_row inputs s.pc f b v) s ≡ after_reading p (record s { pc = (s.pc + (if nat_eq (bit read_value b) v then 2 else 1)) % 8192 })
  test_done b v = sym (test_runs big inputs s f p leads b v _ refl)

  pub tested : (b v : ℕ) → accesses (test_row inputs s.pc f b v) s ≡ made (note false p (contents inputs s.pc p)) s
  tested b v = sym (test_notes big inputs s f p leads b v)

  -- MOVWF and CLRF
  pub movwf_done : perform (row inputs s.pc (isa.Movwf f)) s ≡ finished p true s.w Keep (record s { pc = (s.pc + 1) % 8192 })
  movwf_done = sym (write_runs big inputs s f p leads (part AtW) [] s.w Keep refl (λ t. refl) refl)

  pub movwf_notes : accesses (row inputs s.pc (isa.Movwf f)) s ≡ made (note true p (part AtW)) s
  movwf_notes = sym (write_notes big inputs s f p leads (part AtW) [])

  pub clrf_done : perform (row inputs s.pc (isa.Clrf f)) s ≡ finished p true 0 OnlyZ (record s { pc = (s.pc + 1) % 8192 })
  clrf_done = sym (write_runs big inputs s f p leads (number 0) (to AtZ (number 1) ∷ []) 0 OnlyZ refl (λ t. refl) refl)

  pub clrf_notes : accesses (row inputs s.pc (isa.Clrf f)) s ≡ made (note true p (number 0)) s
  clrf_notes = sym (write_notes big inputs s f p leads (number 0) (to AtZ (number 1) ∷ []))

-- ---- symbolic code
module _ (r : Registers) (x : ℕ) where
  pub result_same : (op : FileOperation) → result_with r op x ≡ res op r.w r.c x
  unfolding result_with
  result_same Addwf = refl
  result_same Andwf = refl
  result_same Comf = refl
  result_same Decf = refl
  result_same Decfsz = refl
  result_same Incf = refl
  result_same Incfsz = refl
  result_same Iorwf = refl
  result_same Movf = refl
  result_same Rlf = refl
  result_same Rrf = refl
  result_same Subwf = refl
  result_same Swapf = refl
  result_same Xorwf = refl

  two_or_one : (b : Bool) → nat_eq ((0 + (if b then 2 else 1)) % 8192) 2 ≡ b
  two_or_one true = refl
  two_or_one false = refl

  pub skip_same : (op : FileOperation) → skips_with r op x ≡ skp op x
  unfolding skips_with
  skip_same Addwf = refl
  skip_same Andwf = refl
  skip_same Comf = refl
  skip_same Decf = refl
  skip_same Decfsz = two_or_one (is_zero (decrement x))
  skip_same Incf = refl
  skip_same Incfsz = two_or_one (is_zero (increment x))
  skip_same Iorwf = refl
  skip_same Movf = refl
  skip_same Rlf = refl
  skip_same Rrf = refl
  skip_same Subwf = refl
  skip_same Swapf = refl
  skip_same Xorwf = refl

  abbrev pub flagged_registers : Flags → ℕ → Registers
  flagged_registers fl v = record r { z = fz fl v r.z; dc = fd fl r.dc; c = fc fl r.c }

  pub flags_same : (op : FileOperation) → flags_with r op x ≡ flagged_registers (flg op r.w x) (res op r.w r.c x)
  unfolding flags_with
  flags_same Addwf = refl
  flags_same Andwf = refl
  flags_same Comf = refl
  flags_same Decf = refl
  flags_same Decfsz = refl
  flags_same Incf = refl
  flags_same Incfsz = refl
  flags_same Iorwf = refl
  flags_same Movf = refl
  flags_same Rlf = ap (λ c. record r { c = c }) (sym (truth_of (x / 128 % 2) (omega arith)))
  flags_same Rrf = ap (λ c. record r { c = c }) (sym (truth_of (x % 2) (omega arith)))
  flags_same Subwf = refl
  flags_same Swapf = refl
  flags_same Xorwf = refl
