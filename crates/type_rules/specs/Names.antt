-- Names and scopes (ISO/IEC 9899:1990, 6.1.2.1).
use Rattle.std.specs.Prelude.{ℕ, ◌+◌, ◌-◌, Bool, true, false, if◌then◌else◌, nat_le, List, [], ◌∷◌, length, Option, Some, None, is_some, Ok}
use Rattle.std.specs.Str.{bytes_eq}
use Rattle.c_ints.specs.declared.types.IntTy.TheVariants.{UChar}
use Rattle.c_typed.specs.declared.expression.Object.TheVariants as object
use Rattle.c_typed.specs.declared.types.Ty.TheVariants.{Int}
use Rattle.pic_world.specs.Registers.{register_named, bit_named}
use Rattle.type_rules.specs.Faults as kind
use Rattle.type_rules.specs.Known.{Binding, ObjectName, BitName, Scope, Known, Rule, learn, tried}

-- what a list has under a name
abbrev pub entry_of : {A : Type 0} → List (List ℕ × A) → List ℕ → Option A
entry_of [] name = None
entry_of (e ∷ es) name = if bytes_eq e.0 name then Some e.1 else entry_of es name

-- The list with this under a name, in the place of what it had there.
abbrev pub with_entry : {A : Type 0} → List (List ℕ × A) → List ℕ → A → List (List ℕ × A)
with_entry [] name x = (name, x) ∷ []
with_entry (e ∷ es) name x = if bytes_eq e.0 name then (name, x) ∷ es else e ∷ with_entry es name x

abbrev pub or_else : {A : Type 0} → Option A → Option A → Option A
or_else (Some x) other = Some x
or_else None other = other

-- The names of the device's registers and bits stand in a scope round the file's.
abbrev pub bit_binding : Option (ℕ × ℕ) → Option Binding
bit_binding None = None
bit_binding (Some b) = Some (BitName b.0 b.1)

abbrev pub device_binding : Option ℕ → Option (ℕ × ℕ) → Option Binding
device_binding (Some address) bit = Some (ObjectName (object.Register address) (record { ty = Int UChar; constant = false; volatile = true }) true)
device_binding None bit = bit_binding bit

-- what a name stands for: the innermost scope that has it decides
abbrev pub found_in : List Scope → List ℕ → Option Binding
found_in [] name = device_binding (register_named name) (bit_named name)
found_in (scope ∷ scopes) name = or_else (entry_of scope name) (found_in scopes name)

abbrev pub meaning_of : Known → List ℕ → Option Binding
meaning_of known name = found_in known.scopes name

-- what a name is declared as in the innermost scope
abbrev pub innermost_in : List Scope → List ℕ → Option Binding
innermost_in [] name = None
innermost_in (scope ∷ scopes) name = entry_of scope name

abbrev pub is_declared : Known → List ℕ → Bool
is_declared known name = is_some (innermost_in known.scopes name)

abbrev pub bound_in : List Scope → List ℕ → Binding → List Scope
bound_in [] name binding = []
bound_in (scope ∷ scopes) name binding = with_entry scope name binding ∷ scopes

-- A name stands for this in the innermost scope.
abbrev pub bind : List ℕ → Binding → Rule Known
bind name binding = learn (λ known. record known { scopes = bound_in known.scopes name binding })

abbrev pub without_first : List Scope → List Scope
without_first [] = []
without_first (scope ∷ scopes) = scopes

abbrev pub enter : Rule Known
enter = learn (λ known. record known { scopes = [] ∷ known.scopes })

abbrev pub leave : Rule Known
leave = learn (λ known. record known { scopes = without_first known.scopes })

-- the scope of a list of parameters
abbrev pub enter_list : Rule Known
enter_list = learn (λ known. record known { scopes = [] ∷ known.scopes; lists = known.lists + 1 })

abbrev pub first_scope : List Scope → Scope
first_scope [] = []
first_scope (scope ∷ scopes) = scope

-- What a list of parameters declares goes on in the body of its function.
abbrev pub leave_list : Rule Scope
leave_list = λ known. Ok (first_scope known.scopes, record known { scopes = without_first known.scopes; lists = known.lists - 1 })

abbrev pub enter_with : Scope → Rule Known
enter_with scope = learn (λ known. record known { scopes = scope ∷ known.scopes })

-- No block is open.
abbrev pub in_file : Known → Bool
in_file known = nat_le (length known.scopes) (known.lists + 1)

-- A name is declared once in a scope.
abbrev pub tests_of_new : Known → List ℕ → ℕ → Rule Known
tests_of_new known name line = tried ((is_declared known name, kind.Again) ∷ []) line
