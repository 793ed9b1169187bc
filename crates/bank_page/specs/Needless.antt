-- No select is needless: between two that set the same to the same value stands something by which another value may come. What a select
-- sets is RP0, RP1 or IRP, or one of the bits of PCLATH that name the page of a block (Microchip data sheet DS39582, STATUS, PCL and
-- PCLATH).
use Rattle.std.specs.Prelude.{◌≡◌, Bool, true, false, not, ◌&&◌, ◌||◌, List, [], ◌∷◌, ◌++◌}
use Rattle.std.specs.List.{filter}
use Rattle.sym_code.specs.Programs.{same_name, block_of}
use Rattle.sym_code.specs.Selects.{is_select}
use Rattle.sym_code.specs.declared.code.BankBit.{BankBit}
use Rattle.sym_code.specs.declared.code.BankBit.TheVariants as bank_bits
use Rattle.sym_code.specs.declared.code.BlockName.{BlockName}
use Rattle.sym_code.specs.declared.code.PageBit.{PageBit}
use Rattle.sym_code.specs.declared.code.PageBit.TheVariants as page_bits
use Rattle.sym_code.specs.declared.code.Sym.{Sym}
use Rattle.sym_code.specs.declared.code.Sym.TheVariants as syms
use Rattle.sym_code.specs.declared.code.SymBlock.{SymBlock}
use Rattle.bank_page.specs.Kinds.{is_label, is_skip}
use Rattle.bank_page.specs.Known.{ends, forgets, is_of_bit, same_bit, writes_status, writes_pclath}

-- ---- what a select sets
abbrev pub same_bank_bit : BankBit → BankBit → Bool
same_bank_bit bank_bits.Rp0 bank_bits.Rp0 = true
same_bank_bit bank_bits.Rp1 bank_bits.Rp1 = true
same_bank_bit bank_bits.Irp bank_bits.Irp = true
same_bank_bit _ _ = false

abbrev pub same_page_bit : PageBit → PageBit → Bool
same_page_bit page_bits.Low page_bits.Low = true
same_page_bit page_bits.High page_bits.High = true
same_page_bit _ _ = false

-- both set one thing
abbrev pub set_one : Sym → Sym → Bool
set_one (syms.SelectBank a on) (syms.SelectBank b off) = same_bank_bit a b
set_one (syms.SelectPage a target) (syms.SelectPage b other) = same_page_bit a b
set_one _ _ = false

-- .. to one value: of a page, it is that of one block
abbrev pub one_value : BlockName → Sym → Sym → Bool
one_value own (syms.SelectBank a on) (syms.SelectBank b off) = same_bit on off
one_value own (syms.SelectPage a target) (syms.SelectPage b other) = same_name (block_of own target) (block_of own other)
one_value own _ _ = false

abbrev pub are_same : BlockName → Sym → Sym → Bool
are_same own a b = set_one a b && one_value own a b

-- ---- what may change it
-- an instruction that isn't a select may change what a select sets
abbrev pub can_change : Sym → Sym → Bool
can_change (syms.SelectBank bank_bits.Rp0 on) s = writes_status s && is_of_bit s 5
can_change (syms.SelectBank bank_bits.Rp1 on) s = writes_status s && is_of_bit s 6
can_change (syms.SelectBank bank_bits.Irp on) s = writes_status s && is_of_bit s 7
can_change (syms.SelectPage page_bits.Low target) s = writes_pclath s && is_of_bit s 3
can_change (syms.SelectPage page_bits.High target) s = writes_pclath s && is_of_bit s 4
can_change _ s = false

-- Behind a label, a call, or a return or jump that doesn't stand behind a skip, another value than that of a select may be there; so behind
-- a select of the same to another value, and another instruction that may change it.
abbrev pub may_renew : BlockName → Sym → Bool → Sym → Bool
may_renew own select behind s = (forgets s || (ends s && not behind)) || ((set_one select s && not (one_value own select s)) || can_change select s)

-- one of a list does; `behind` says that the list stands behind a skip
abbrev pub is_renewed : BlockName → Sym → Bool → List Sym → Bool
is_renewed own select behind [] = false
is_renewed own select behind (s ∷ list) = may_renew own select behind s || is_renewed own select (is_skip s) list

-- Between two selects of a block that are the same stands such an instruction. Of the selects of IRP `KeepsOthers` speaks.
pub record NoneIsNeedless (block : SymBlock) : Type 0 where
  pub between : (before list behind : List Sym) (first second : Sym) → block.list.items ≡ before ++ first ∷ list ++ second ∷ behind
      → is_select first ≡ true → are_same block.name first second ≡ true → is_renewed block.name first false list ≡ true

-- ---- what isn't selected
abbrev pub writes_selected : Sym → Bool
writes_selected s = writes_status s || writes_pclath s

abbrev pub selects_pointed : Sym → Bool
selects_pointed (syms.SelectBank bank_bits.Irp on) = true
selects_pointed _ = false

-- Beside selects of RP0, RP1 and the bits of the page a block has what the given one has: its labels, the instructions that write STATUS or
-- PCLATH, and the selects of IRP. So none of IRP is put; compiled code has none at all, since it writes IRP by BCF and BSF.
pub record KeepsOthers (given made : SymBlock) : Type 0 where
  pub labels : filter is_label made.list.items ≡ filter is_label given.list.items
  pub written : filter writes_selected made.list.items ≡ filter writes_selected given.list.items
  pub pointed : filter selects_pointed made.list.items ≡ filter selects_pointed given.list.items
