-- What the check of a unit answers: the typed program that the rules give it, or the first rule that it breaks.
use Rattle.std.specs.Prelude.{◌≡◌, Result, Ok, Err}
use Rattle.c_typed.specs.Trees.{Program}
use Rattle.c_typed.specs.Views.{program_of}
use Rattle.c_typed.specs.declared.program.Typed.{Typed}
use Rattle.c_tables.specs.Answers.{Refuses}
use Rattle.c_tables.specs.declared.error.CheckError.{CheckError}
use Rattle.type_rules.specs.Faults.{Fault}

abbrev pub Checks : Result Typed CheckError → Result Program Fault → Type 0
Checks (Ok typed) said = said ≡ Ok (program_of typed)
Checks (Err e) said = Refuses e said
