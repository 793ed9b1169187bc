-- Selects among symbolic code.
use Rattle.std.specs.Prelude.{Bool, true, false, not, List}
use Rattle.std.specs.List.{filter}
use Rattle.sym_code.specs.declared.code.BankBit.{BankBit}
use Rattle.sym_code.specs.declared.code.BankBit.TheVariants as bank_bits
use Rattle.sym_code.specs.declared.code.Sym.{Sym}
use Rattle.sym_code.specs.declared.code.Sym.TheVariants as syms

abbrev pub is_rp : BankBit → Bool
is_rp bank_bits.Rp0 = true
is_rp bank_bits.Rp1 = true
is_rp bank_bits.Irp = false

-- A select of RP0, RP1 or a bit of the page. One of IRP is an instruction like any other: no access by name needs it.
abbrev pub is_select : Sym → Bool
is_select (syms.SelectBank bit on) = is_rp bit
is_select (syms.SelectPage bit target) = true
is_select _ = false

-- the list with its selects taken out
abbrev pub bare : List Sym → List Sym
bare list = filter (λ s. not (is_select s)) list
