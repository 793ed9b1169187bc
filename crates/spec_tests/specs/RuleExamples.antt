-- What small units are: worked out by hand.
use Rattle.std.specs.Prelude.{◌≡◌, ℕ, pos, true, false, List, [], ◌∷◌, Some, Result, Ok, Err, codes}
use Rattle.c_ints.specs.declared.types.IntTy.TheVariants as int
use Rattle.c_typed.specs.Trees as typed
use Rattle.c_typed.specs.Trees.{Statements, VariableTree, StaticTree, FunctionTree, Program}
use Rattle.c_typed.specs.declared.expression.Object.TheVariants as objects
use Rattle.c_typed.specs.declared.program.Initial.{Initial}
use Rattle.c_typed.specs.declared.program.InitialByte.TheVariants as initial
use Rattle.c_typed.specs.declared.types.Qualified.{Qualified}
use Rattle.c_typed.specs.declared.types.Ty.{Ty}
use Rattle.c_typed.specs.declared.types.Ty.TheVariants as types
use Rattle.type_rules.specs.Faults as kind
use Rattle.type_rules.specs.Faults.{Kind, Fault}
use Rattle.type_rules.specs.Units.{judged_unit}
use Rattle.spec_tests.specs.Units as units

abbrev pub breaks : Kind → ℕ → Result Program Fault
breaks kind line = Err (record { kind = kind; line = line })

abbrev pub plain : Ty → Qualified
plain ty = record { ty = ty; constant = false; volatile = false }

abbrev pub byte_at : ℕ → ℕ → Initial
byte_at offset n = record { offset = offset; byte = initial.Number n }

-- two ints as four bytes, the lowest of each first
abbrev pub two_ints : Program
two_ints = record {
  targets = plain (types.Int int.Int) ∷ [];
  structures = [];
  sizes = [];
  statics = record {
    name = codes "a";
    ty = plain (types.Array 0 2 4);
    initial = byte_at 0 1 ∷ byte_at 1 0 ∷ byte_at 2 2 ∷ byte_at 3 0 ∷ [];
    line = 1;
  } ∷ [];
  functions = [];
}

-- The number is converted to the type of the register.
abbrev pub port : Qualified
port = record { ty = types.Int int.UChar; constant = false; volatile = true }

abbrev pub writes_port : Statements
writes_port = typed.AndStatement (typed.Expr (typed.Assign (typed.Name (objects.Register 6) port 1) (typed.Convert (typed.Constant (record { ty = int.Int; number = pos 5 }) 1) (types.Int int.UChar) 1) (types.Int int.UChar) 1) 1) typed.NoStatement

abbrev pub main_of : Statements → FunctionTree
main_of body = record { name = codes "main"; result = types.Void; params = []; locals = []; body = body; interrupt = false; line = 1 }

abbrev pub five_to_port : Program
five_to_port = record { targets = []; structures = []; sizes = []; statics = []; functions = main_of writes_port ∷ [] }

-- a program of static objects alone
abbrev pub of_objects : List Qualified → List StaticTree → Program
of_objects targets statics = record { targets = targets; structures = []; sizes = []; statics = statics; functions = [] }

abbrev pub unset : List ℕ → Qualified → StaticTree
unset name ty = record { name = name; ty = ty; initial = []; line = 1 }

-- A qualifier beside the name of a pointer's type qualifies the pointer.
abbrev pub constant_pointer : Program
constant_pointer = of_objects (plain (types.Int int.Char) ∷ []) (unset (codes "x") (record { ty = types.Pointer 0; constant = true; volatile = false }) ∷ [])

-- An enumeration is an int, and the next enumerator is 1 more.
abbrev pub six_and_none : Program
six_and_none = of_objects [] (record { name = codes "x"; ty = plain (types.Int int.Int); initial = byte_at 0 6 ∷ byte_at 1 0 ∷ []; line = 1 } ∷ unset (codes "y") (plain (types.Int int.Int)) ∷ [])

abbrev pub param : List ℕ → Ty → VariableTree
param name ty = record { name = name; ty = plain ty; line = 1 }

-- A parameter that is an array by the name of its type is a pointer to the element.
abbrev pub takes_pointer : Program
takes_pointer = record {
  targets = plain (types.Int int.Char) ∷ [];
  structures = [];
  sizes = [];
  statics = [];
  functions = record { name = codes "f"; result = types.Void; params = param (codes "x") (types.Pointer 0) ∷ []; locals = []; body = typed.NoStatement; interrupt = false; line = 1 } ∷ [];
}

-- Two structures of one byte: their array is made where its name is used.
abbrev pub two_structures : Program
two_structures = record {
  targets = plain (types.Struct 0) ∷ [];
  structures = record { members = record { ty = plain (types.Int int.Char); offset = 0 } ∷ []; size = 1 } ∷ [];
  sizes = 1 ∷ [];
  statics = unset (codes "x") (plain (types.Array 0 2 2)) ∷ [];
  functions = [];
}

-- The structure has no body, and what points to it needs none.
abbrev pub takes_open : Program
takes_open = record {
  targets = plain (types.Struct 0) ∷ [];
  structures = record { members = []; size = 0 } ∷ [];
  sizes = 0 ∷ [];
  statics = [];
  functions = record { name = codes "f"; result = types.Void; params = param (codes "x") (types.Pointer 0) ∷ []; locals = []; body = typed.NoStatement; interrupt = false; line = 1 } ∷ [];
}

abbrev pub gives_five : Statements
gives_five = typed.AndStatement (typed.Return (Some (typed.Constant (record { ty = int.Int; number = pos 5 }) 1)) 1) typed.NoStatement

abbrev pub five_from_list : Program
five_from_list = record {
  targets = [];
  structures = [];
  sizes = [];
  statics = [];
  functions = record { name = codes "f"; result = types.Int int.Int; params = param (codes "a") (types.Int int.Int) ∷ []; locals = []; body = gives_five; interrupt = false; line = 1 } ∷ [];
}

pub record WorkedRules : Type 0 where
  pub twice : judged_unit units.twice ≡ breaks kind.Again 2
  pub unknown : judged_unit units.unknown ≡ breaks kind.Name 1
  pub writes_const : judged_unit units.writes_const ≡ breaks kind.Assign 1
  -- A parameter is in scope in later parameters. The array is a pointer to char, which gets the first row.
  pub measures_param : judged_unit units.measures_param ≡ Ok (record { targets = plain (types.Int int.Char) ∷ []; structures = []; sizes = []; statics = []; functions = [] })
  -- A function that gives a function has another type than the one before, and that comes first.
  pub gives_function : judged_unit units.gives_function ≡ breaks kind.Again 1
  pub leaves_nothing : judged_unit units.leaves_nothing ≡ breaks kind.Jump 1
  pub divides : judged_unit units.divides ≡ breaks kind.Constant 1
  pub too_many : judged_unit units.too_many ≡ breaks kind.Initializer 1
  pub register_element : judged_unit units.register_element ≡ breaks kind.Address 1
  pub calls_in_brackets : judged_unit units.calls_in_brackets ≡ breaks kind.Call 1
  pub equal_labels : judged_unit units.equal_labels ≡ breaks kind.Jump 1
  pub takes_length : judged_unit units.takes_length ≡ Ok two_ints
  pub to_port : judged_unit units.to_port ≡ Ok five_to_port
  pub has_named_type : judged_unit units.has_named_type ≡ Ok (of_objects [] (unset (codes "x") (plain (types.Int int.Int)) ∷ []))
  pub qualifies_pointer : judged_unit units.qualifies_pointer ≡ Ok constant_pointer
  pub qualifies_twice : judged_unit units.qualifies_twice ≡ breaks kind.Declare 1
  pub takes_named_array : judged_unit units.takes_named_array ≡ Ok takes_pointer
  pub named_before_body : judged_unit units.named_before_body ≡ Ok two_structures
  pub used_before_body : judged_unit units.used_before_body ≡ breaks kind.Incomplete 1
  pub takes_open_array : judged_unit units.takes_open_array ≡ Ok takes_open
  pub takes_array_of_void : judged_unit units.takes_array_of_void ≡ breaks kind.Declare 1
  pub names_twice : judged_unit units.names_twice ≡ breaks kind.Again 1
  pub names_function : judged_unit units.names_function ≡ breaks kind.Declare 1
  pub names_value : judged_unit units.names_value ≡ breaks kind.Declare 1
  pub names_nothing : judged_unit units.names_nothing ≡ breaks kind.Declare 1
  pub measures_type : judged_unit units.measures_type ≡ breaks kind.Operand 1
  pub names_in_block : judged_unit units.names_in_block ≡ breaks kind.Declare 1
  pub defines_type : judged_unit units.defines_type ≡ breaks kind.Declare 1
  pub counts_by_name : judged_unit units.counts_by_name ≡ Ok two_ints
  pub counts_on : judged_unit units.counts_on ≡ Ok six_and_none
  pub returns_enumerator : judged_unit units.returns_enumerator ≡ Ok five_from_list
  pub counts_too_far : judged_unit units.counts_too_far ≡ breaks kind.Constant 1
  pub equal_enumerators : judged_unit units.equal_enumerators ≡ breaks kind.Again 1
  pub other_tag : judged_unit units.other_tag ≡ breaks kind.Again 1
  pub unknown_tag : judged_unit units.unknown_tag ≡ breaks kind.Name 1
