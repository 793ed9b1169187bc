-- That code is named within a layout from what selection says of it: which objects it names, and that each byte that it names is there.
use Rattle.std.specs.Prelude.{◌≡◌, ℕ, Bool, true, not, ◌||◌, List}
use Rattle.std.specs.List.{list_all}
use Rattle.sym_code.specs.Layout.{DataLayout, object}
use Rattle.sym_code.specs.declared.code.BlockName.{BlockName}
use Rattle.sym_code.specs.declared.code.Operand.{Operand}
use Rattle.sym_code.specs.declared.code.Operand.TheVariants as operands
use Rattle.sym_code.specs.declared.code.Sym.{Sym}
use Rattle.kept_layout.specs.KeptLayout.{is_private}
use Rattle.kept_layout.specs.NamedCode.{byte_named, operand_named}
use Rattle.kept_layout.specs.OpenCode.{sym_by}
use Rattle.kept_layout.specs.Selection.{sym_keeps}

abbrev pub any_object : ℕ → Bool
any_object n = true

-- the byte of an operand is there
abbrev pub operand_within : DataLayout → Bool → Operand → Bool
operand_within l free (operands.Byte byte) = byte_named l any_object byte
operand_within l free operand = true

-- So it is of a block whose code names, of the objects, such as pass a test, where in a block of the handler's root none of these is private.
abbrev pub KeepsIsNamed : Type 0
KeepsIsNamed =
    (kept : List Bool) (handlers : BlockName → Bool) (l : DataLayout) (own : BlockName) (named : ℕ → Bool) (list : List Sym)
    → ((n : ℕ) → named n ≡ true → (not (handlers own) || not (is_private kept n (object l n))) ≡ true)
    → list_all (sym_keeps named) list ≡ true → list_all (sym_by (operand_within l) handlers l own) list ≡ true
    → list_all (sym_by (operand_named kept l) handlers l own) list ≡ true
