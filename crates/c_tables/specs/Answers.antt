-- What a call of the checker answers, and what the rules say of the same place: the same, unless memory runs out.
use Rattle.std.specs.Prelude.{◌≡◌, ℕ, Result, Ok, Err, ⊤}
use Rattle.type_rules.specs.Faults as rule
use Rattle.type_rules.specs.Faults.{Fault}
use Rattle.type_rules.specs.Known.{Known}
use Rattle.c_tables.specs.declared.error.CheckError.{CheckError}
use Rattle.c_tables.specs.declared.error.CheckError.TheVariants as errors
use Rattle.c_tables.specs.declared.error.Kind.{Kind}
use Rattle.c_tables.specs.declared.error.Kind.TheVariants as kinds

abbrev pub kind_of : Kind → rule.Kind
kind_of kinds.Name = rule.Name
kind_of kinds.Again = rule.Again
kind_of kinds.Declare = rule.Declare
kind_of kinds.Size = rule.Size
kind_of kinds.Incomplete = rule.Incomplete
kind_of kinds.Constant = rule.Constant
kind_of kinds.Initializer = rule.Initializer
kind_of kinds.Member = rule.Member
kind_of kinds.Call = rule.Call
kind_of kinds.Address = rule.Address
kind_of kinds.Assign = rule.Assign
kind_of kinds.Operand = rule.Operand
kind_of kinds.Convert = rule.Convert
kind_of kinds.Return = rule.Return
kind_of kinds.Jump = rule.Jump

abbrev pub fault_of : Kind → ℕ → Fault
fault_of kind line = record { kind = kind_of kind; line = line }

-- The call is refused where the rule is broken, with its kind and line.
abbrev pub Refuses : {B : Type 0} → CheckError → Result B Fault → Type 0
Refuses errors.NoMemory said = ⊤
Refuses (errors.Kind kind line) said = said ≡ Err (fault_of kind line)

-- The call answers what the rule says, seen by `view`; what is known behind it is `after`.
abbrev pub Answers : {A B : Type 0} → (A → B) → Result A CheckError → Known → Result (B × Known) Fault → Type 0
Answers view (Ok x) after said = said ≡ Ok (view x, after)
Answers view (Err e) after said = Refuses e said

-- The same of a call that answers nothing: the rule says what is known behind it.
abbrev pub Learns : Result Unit CheckError → Known → Result (Known × Known) Fault → Type 0
Learns (Ok x) after said = said ≡ Ok (after, after)
Learns (Err e) after said = Refuses e said
