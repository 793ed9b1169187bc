-- The instruction that a symbolic one stands for, which a label hasn't.
use Rattle.std.specs.Prelude.{List, [], ◌∷◌, Option, Some, None}
use Rattle.pic_isa.specs.Table.{IsWellFormed}
use Rattle.pic_isa.specs.declared.Ins.{Ins}

abbrev pub list_of : Option Ins → List Ins
list_of None = []
list_of (Some row) = row ∷ []

abbrev pub MayBeWellFormed : Option Ins → Type 0
MayBeWellFormed None = Unit {0}
MayBeWellFormed (Some row) = IsWellFormed row
