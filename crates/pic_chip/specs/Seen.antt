-- The accesses that the program answers, as the definitions have them.
use Rattle.std.specs.Prelude.{ℕ, Bool, true, false, List, [], ◌∷◌, ◌++◌, Option, Some, None}
use Rattle.pic_chip.specs.declared.access.Access.{Access}
use Rattle.pic_chip.specs.declared.access.Accesses.{Accesses}
use Rattle.pic_chip.specs.declared.access.StepEnd.{StepEnd}
use Rattle.pic_chip.specs.declared.access.StepEnd.TheVariants.{Done, Unmodelled}
use Rattle.pic_chip.specs.Act.{Made}

abbrev pub made_by : Bool → Option Access → List Made
made_by write None = []
made_by write (Some a) = record { write = write; address = a.address; byte = a.value } ∷ []

-- a read stands before the write
abbrev pub seen : Accesses → List Made
seen a = made_by false a.read ++ made_by true a.write

-- the accesses of a step; one that wasn't done has none
abbrev pub accesses_in : StepEnd → List Made
accesses_in (Done a) = seen a
accesses_in (Unmodelled pc) = []

-- where the model goes no further, if the step wasn't done
abbrev pub stopped_at : StepEnd → Option ℕ
stopped_at (Done a) = None
stopped_at (Unmodelled pc) = Some pc
