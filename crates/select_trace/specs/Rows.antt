-- W and the flags, and what instructions make of them: the same as sym_code has it, in a form that computes.
use Rattle.std.specs.Prelude.{ℕ, Bool, nat_eq, if◌then◌else◌}
use Rattle.pic_chip.specs.Instructions.{number}
use Rattle.pic_chip.specs.Operations.{result_of, flags_of, next_of}
use Rattle.sym_code.specs.Registers.{Registers, value_of, written, operation_of}
use Rattle.sym_code.specs.declared.code.FileOperation.{FileOperation}

abbrev pub result_with : Registers → FileOperation → ℕ → ℕ
result_with r op x = value_of r (result_of (operation_of op) (number x))

abbrev pub flags_with : Registers → FileOperation → ℕ → Registers
flags_with r op x = written (flags_of (operation_of op) (number x)) r r

abbrev pub skips_with : Registers → FileOperation → ℕ → Bool
skips_with r op x = nat_eq (value_of r (next_of 0 (operation_of op) (number x))) 2

-- ---- bits of STATUS
abbrev pub status_bit : Registers → ℕ → ℕ
status_bit r bit =
    if nat_eq bit 0 then r.c else
    if nat_eq bit 1 then r.dc else
    if nat_eq bit 2 then r.z else r.irp

abbrev pub with_status_bit : Registers → ℕ → ℕ → Registers
with_status_bit r bit v =
    if nat_eq bit 0 then record r { c = v } else
    if nat_eq bit 1 then record r { dc = v } else
    if nat_eq bit 2 then record r { z = v } else record r { irp = v }
