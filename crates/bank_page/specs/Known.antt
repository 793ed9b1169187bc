-- What is known, behind an instruction, of the four bits that selects set: RP1 and RP0, bits 6 and 5 of STATUS, and bits 4 and 3
-- of PCLATH (Microchip data sheet DS39582, STATUS, PCL and PCLATH).
use Rattle.std.specs.Prelude.{ℕ, nat_eq, Bool, true, false, not, ◌&&◌, ◌||◌, Option, Some, None, if◌then◌else◌}
use Rattle.core_code.specs.declared.code.Byte.TheVariants as bytes
use Rattle.sym_code.specs.Programs.{same_name, block_of}
use Rattle.sym_code.specs.Touching.{touches}
use Rattle.sym_code.specs.declared.code.BankBit.TheVariants as bank_bits
use Rattle.sym_code.specs.declared.code.BlockName.{BlockName}
use Rattle.sym_code.specs.declared.code.LiteralOperation.{LiteralOperation}
use Rattle.sym_code.specs.declared.code.LiteralOperation.TheVariants as literal_ops
use Rattle.sym_code.specs.declared.code.Operand.{Operand}
use Rattle.sym_code.specs.declared.code.Operand.TheVariants as operands
use Rattle.sym_code.specs.declared.code.PageBit.TheVariants as page_bits
use Rattle.sym_code.specs.declared.code.PlainOperation.{PlainOperation}
use Rattle.sym_code.specs.declared.code.PlainOperation.TheVariants as plain_ops
use Rattle.sym_code.specs.declared.code.Register.TheVariants as registers
use Rattle.sym_code.specs.declared.code.Sym.{Sym}
use Rattle.sym_code.specs.declared.code.Sym.TheVariants as syms
use Rattle.sym_code.specs.Selects.{is_select}
use Rattle.bank_page.specs.declared.known.Known.{Known}

abbrev pub nothing : Known
nothing = record { rp0 = None; rp1 = None; low = None; high = None }

-- ---- instructions that change a bit
abbrev pub is_status : Operand → Bool
is_status (operands.Register registers.Status) = true
is_status (operands.Byte (bytes.Device address)) = nat_eq address 0x03
is_status _ = false

abbrev pub is_pclath : Operand → Bool
is_pclath (operands.Register registers.Pclath) = true
is_pclath (operands.Byte (bytes.Device address)) = nat_eq address 0x0a
is_pclath _ = false

abbrev pub writes : (Operand → Bool) → Option (Operand × Bool) → Bool
writes is_that None = false
writes is_that (Some touched) = touched.1 && is_that touched.0

abbrev pub writes_status : Sym → Bool
writes_status s = writes is_status (touches s)

abbrev pub reads_table : Sym → Bool
reads_table (syms.Table table root) = true
reads_table _ = false

abbrev pub names_pclath : Sym → Bool
names_pclath s = writes is_pclath (touches s)

-- the words that read a table write it as well
abbrev pub writes_pclath : Sym → Bool
writes_pclath s = reads_table s || names_pclath s

-- the instruction may change this bit of the register that it writes
abbrev pub is_of_bit : Sym → ℕ → Bool
is_of_bit (syms.Bit op file number) bit = nat_eq number bit
is_of_bit _ bit = true

-- ---- instructions behind which nothing is known
abbrev pub is_return : PlainOperation → Bool
is_return plain_ops.Return = true
is_return plain_ops.Retfie = true
is_return _ = false

abbrev pub is_retlw : LiteralOperation → Bool
is_retlw literal_ops.Retlw = true
is_retlw _ = false

-- nothing runs behind the instruction but what is reached by a label
abbrev pub ends : Sym → Bool
ends (syms.Goto target) = true
ends (syms.Plain op) = is_return op
ends (syms.Literal op value) = is_retlw op
ends _ = false

-- anything may be selected behind it: a label is reached from elsewhere, and a call comes back with what it left
abbrev pub forgets : Sym → Bool
forgets (syms.Label label) = true
forgets (syms.Call target) = true
forgets _ = false

abbrev pub kept : {A : Type 0} → Bool → Option A → Option A
kept changed known = if changed then None else known

-- what is left of what was known before an instruction that writes these registers
abbrev pub left : Known → Sym → Bool → Bool → Known
left known s status pclath = record { rp0 = kept (status && is_of_bit s 5) known.rp0; rp1 = kept (status && is_of_bit s 6) known.rp1; low = kept (pclath && is_of_bit s 3) known.low; high = kept (pclath && is_of_bit s 4) known.high }

-- What is known behind an instruction; behind one that may be skipped, also what was known before it holds.
abbrev pub after : Known → Sym → Bool → Known
after known s may_be_skipped = if forgets s || (ends s && not may_be_skipped) then nothing else left known s (writes_status s) (writes_pclath s)

-- ---- selects
abbrev pub same_bit : Bool → Bool → Bool
same_bit a b = if b then a else not a

abbrev pub is_bit : Option Bool → Bool → Bool
is_bit None on = false
is_bit (Some known) on = same_bit known on

abbrev pub is_page : Option BlockName → BlockName → Bool
is_page None block = false
is_page (Some known) block = same_name known block

-- what a select in a block sets is known to be so already
abbrev pub knows : BlockName → Known → Sym → Bool
knows own known (syms.SelectBank bank_bits.Rp0 on) = is_bit known.rp0 on
knows own known (syms.SelectBank bank_bits.Rp1 on) = is_bit known.rp1 on
knows own known (syms.SelectPage page_bits.Low target) = is_page known.low (block_of own target)
knows own known (syms.SelectPage page_bits.High target) = is_page known.high (block_of own target)
knows own known _ = false

-- what is known behind a select in a block
abbrev pub learned : BlockName → Known → Sym → Known
learned own known (syms.SelectBank bank_bits.Rp0 on) = record known { rp0 = Some on }
learned own known (syms.SelectBank bank_bits.Rp1 on) = record known { rp1 = Some on }
learned own known (syms.SelectPage page_bits.Low target) = record known { low = Some (block_of own target) }
learned own known (syms.SelectPage page_bits.High target) = record known { high = Some (block_of own target) }
learned own known _ = known

-- what is known behind an instruction or a select
abbrev pub seen_after : BlockName → Known → Sym → Bool → Known
seen_after own known s behind = if is_select s then learned own known s else after known s behind
