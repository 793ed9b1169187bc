-- The bytes of lists of variables and of static objects, one element after the other.
use Rattle.std.proofs.Common.{◌≡◌, ℕ, ◌+◌, List, [], ◌∷◌, map, refl}
use Rattle.c_typed.specs.declared.program.Static.{Static}
use Rattle.c_typed.specs.declared.program.Variable.{Variable}
use Rattle.c_typed.specs.Room.{variables_bytes}
use Rattle.c_typed.specs.Types.{type_bytes}
use Rattle.c_typed.specs.Views.{variable_of, static_of}
use Rattle.c_typed.specs.Words.{statics_bytes}

abbrev pub variables_bytes_in : List ℕ → List Variable → ℕ
variables_bytes_in sizes vs = variables_bytes sizes (map variable_of vs)

abbrev pub variable_bytes_in : List ℕ → Variable → ℕ
variable_bytes_in sizes v = type_bytes sizes v.ty.ty

pub variables_bytes_none : (sizes : List ℕ) → variables_bytes_in sizes [] ≡ 0
variables_bytes_none sizes = refl

pub variables_bytes_more : (sizes : List ℕ) (v : Variable) (vs : List Variable) → variables_bytes_in sizes (v ∷ vs) ≡ variable_bytes_in sizes v + variables_bytes_in sizes vs
variables_bytes_more sizes v vs = refl

abbrev pub statics_bytes_in : List ℕ → List Static → ℕ
statics_bytes_in sizes ss = statics_bytes sizes (map static_of ss)

abbrev pub static_bytes_in : List ℕ → Static → ℕ
static_bytes_in sizes s = type_bytes sizes s.ty.ty

pub statics_bytes_none : (sizes : List ℕ) → statics_bytes_in sizes [] ≡ 0
statics_bytes_none sizes = refl

pub statics_bytes_more : (sizes : List ℕ) (s : Static) (ss : List Static) → statics_bytes_in sizes (s ∷ ss) ≡ static_bytes_in sizes s + statics_bytes_in sizes ss
statics_bytes_more sizes s ss = refl
