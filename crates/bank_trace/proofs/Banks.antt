-- Registers with other bits selected: no instruction but a select reads or writes these.
use Rattle.std.proofs.Common.{◌≡◌, ℕ, Bool, true, false, nat_eq, if◌then◌else◌, List, [], ◌∷◌, map, Some, None, option_map, refl, ap, ◌∙◌}
use Rattle.pic_isa.specs.declared.Ins.{Ins}
use Rattle.pic_chip.specs.Act.{Derived, Write}
use Rattle.pic_chip.specs.Instructions.{number, row}
use Rattle.pic_chip.specs.Operations.{result_of, flags_of, next_of}
use Rattle.pic_chip.specs.State.{Part, AtW, AtZ, AtDc, AtC, AtFsr}
use Rattle.sym_code.specs.Registers.{Registers, part_of, with_part, value_of, written, operation_of, result_with, flags_with, skips_with, writes_in, after_row, status_bit, with_status_bit}
use Rattle.sym_code.specs.declared.code.FileOperation.{FileOperation}
use Rattle.bank_trace.proofs.Holding.{Bits}

abbrev pub over : Bits → Registers → Registers
over b r = record r { rp0 = b.rp0; rp1 = b.rp1; page_low = b.low; page_high = b.high }

abbrev pub bits_of : Registers → Bits
bits_of r = record { rp0 = r.rp0; rp1 = r.rp1; low = r.page_low; high = r.page_high }

module _ (b : Bits) where
  part_over : (r : Registers) (part : Part) → part_of (over b r) part ≡ part_of r part
  part_over r AtW = refl
  part_over r AtZ = refl
  part_over r AtDc = refl
  part_over r AtC = refl
  part_over r AtFsr = refl
  part_over r part = refl

  parts_over : (r : Registers) (parts : List Part) → map (part_of (over b r)) parts ≡ map (part_of r) parts
  parts_over r [] = refl
  parts_over r (part ∷ parts) = ap (λ n. n ∷ map (part_of (over b r)) parts) (part_over r part) ∙ ap (λ ns. part_of r part ∷ ns) (parts_over r parts)

  value_over : (r : Registers) (v : Derived) → value_of (over b r) v ≡ value_of r v
  value_over r v = ap v.by (parts_over r v.from)

  with_over : (r : Registers) (part : Part) (n : ℕ) → with_part (over b r) part n ≡ over b (with_part r part n)
  with_over r AtW n = refl
  with_over r AtZ n = refl
  with_over r AtDc n = refl
  with_over r AtC n = refl
  with_over r AtFsr n = refl
  with_over r part n = refl

  written_over : (xs : List Write) (before r : Registers) → written xs (over b before) (over b r) ≡ over b (written xs before r)
  written_over [] before r = refl
  written_over (x ∷ xs) before r =
      ap (λ n. written xs (over b before) (with_part (over b r) x.to n)) (value_over before x.value)
      ∙ ap (written xs (over b before)) (with_over r x.to (value_of before x.value))
      ∙ written_over xs before (with_part r x.to (value_of before x.value))

  pub result_over : (r : Registers) (op : FileOperation) (x : ℕ) → result_with (over b r) op x ≡ result_with r op x
  unfolding result_with
  result_over r op x = value_over r (result_of (operation_of op) (number x))

  pub flags_over : (r : Registers) (op : FileOperation) (x : ℕ) → flags_with (over b r) op x ≡ over b (flags_with r op x)
  unfolding flags_with
  flags_over r op x = written_over (flags_of (operation_of op) (number x)) r r

  pub skips_over : (r : Registers) (op : FileOperation) (x : ℕ) → skips_with (over b r) op x ≡ skips_with r op x
  unfolding skips_with
  skips_over r op x = ap (λ n. nat_eq n 2) (value_over r (next_of 0 (operation_of op) (number x)))

  pub row_over : (i : Ins) (r : Registers) → after_row i (over b r) ≡ over b (after_row i r)
  unfolding after_row
  row_over i r = written_over (writes_in (row [] 0 i)) r r

  pub status_over : (r : Registers) (bit : ℕ) → status_bit (over b r) bit ≡ status_bit r bit
  status_over r bit = refl

  pub with_status_over : (r : Registers) (bit v : ℕ) → with_status_bit (over b r) bit v ≡ option_map (over b) (with_status_bit r bit v)
  with_status_over r bit v = by_bit (nat_eq bit 0) (nat_eq bit 1) (nat_eq bit 2) (nat_eq bit 7)
    where
      by_bit : (c dc z irp : Bool)
          → (if c then Some (record (over b r) { c = v }) else if dc then Some (record (over b r) { dc = v }) else if z then Some (record (over b r) { z = v }) else if irp then Some (record (over b r) { irp = v }) else None)
          ≡ option_map (over b) (if c then Some (record r { c = v }) else if dc then Some (record r { dc = v }) else if z then Some (record r { z = v }) else if irp then Some (record r { irp = v }) else None)
      by_bit true dc z irp = refl
      by_bit false true z irp = refl
      by_bit false false true irp = refl
      by_bit false false false true = refl
      by_bit false false false false = refl
