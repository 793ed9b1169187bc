-- Which static objects are kept in the trace of an optimised build: those that are volatile or have a volatile member or element at any
-- depth (ISO/IEC 9899:1990, 5.1.2.3 and 6.5.3), those that a function under the handler's root names, and those whose address is used
-- anywhere. All others are touched by main's functions alone, each by its name.
use Rattle.std.specs.Prelude.{ℕ, zero, suc, ◌+◌, nat_eq, Bool, true, false, ◌||◌, if◌then◌else◌, List, [], ◌∷◌, ◌++◌, length, get_or, slice_get, Option, Some, None}
use Rattle.std.specs.List.{list_any}
use Rattle.c_typed.specs.Chains.{graph_of}
use Rattle.c_typed.specs.Trees.{MemberTree, StructureTree, StaticTree, FunctionTree, Program}
use Rattle.c_typed.specs.declared.program.Initial.{Initial}
use Rattle.c_typed.specs.declared.program.InitialByte.{InitialByte}
use Rattle.c_typed.specs.declared.program.InitialByte.TheVariants as initial
use Rattle.c_typed.specs.declared.types.Qualified.{Qualified}
use Rattle.c_typed.specs.declared.types.Ty.{Ty}
use Rattle.c_typed.specs.declared.types.Ty.TheVariants.{Void, Int, Pointer, Array, Struct}
use Rattle.call_graph.specs.Copies.{root_of}
use Rattle.pic_world.specs.declared.Root.TheVariants.{Isr}
use Rattle.vol_opt.specs.Uses.{statements_uses}

-- ---- volatile objects
-- some member of a structure passes a test
abbrev pub has_member : (Qualified → Bool) → StructureTree → Bool
has_member test s = list_any (λ (m : MemberTree). test m.ty) s.members

abbrev pub passes : {A : Type 0} → (A → Bool) → Option A → Bool
passes test None = false
passes test (Some x) = test x

-- An element of an array, or a member of a structure, passes a test. What a pointer leads to is no part of it.
abbrev pub has_part : Program → (Qualified → Bool) → Ty → Bool
has_part p test Void = false
has_part p test (Int ty) = false
has_part p test (Pointer target) = false
has_part p test (Array element count size) = passes test (slice_get p.targets element)
has_part p test (Struct number) = passes (has_member test) (slice_get p.structures number)

-- An object of the type is volatile, or a part of it is, in the first so many levels: its own is the first. An array has the qualifiers of
-- its elements.
unfoldable pub is_volatile_within : Program → ℕ → Qualified → Bool
is_volatile_within p zero q = false
is_volatile_within p (suc n) q = q.volatile || has_part p (is_volatile_within p n) q.ty

-- types that are parts of other ones
abbrev pub part_count : Program → ℕ
part_count p = length p.targets + length p.structures

-- at any depth: one level for each type that can be a part, and one for the object itself
abbrev pub is_volatile : Program → Qualified → Bool
is_volatile p q = is_volatile_within p (suc (part_count p)) q

-- ---- the handler's root
-- a chain of at most so many calls leads from f to g
unfoldable pub reaches_within : List (List ℕ) → ℕ → ℕ → ℕ → Bool
reaches_within graph zero f g = nat_eq f g
reaches_within graph (suc n) f g = nat_eq f g || list_any (λ (h : ℕ). reaches_within graph n h g) (get_or graph f [])

abbrev pub is_under : List (List ℕ) → Option ℕ → ℕ → Bool
is_under graph None g = false
is_under graph (Some root) g = reaches_within graph (length graph) root g

-- a chain of calls leads from the handler to the function of this number, or it is the handler
abbrev pub is_handlers : Program → ℕ → Bool
is_handlers p number = is_under (graph_of p) (root_of p Isr) number

-- ---- uses
abbrev pub is_among : List ℕ → ℕ → Bool
is_among [] n = false
is_among (x ∷ xs) n = nat_eq x n || is_among xs n

-- what the functions under the handler's root name, of those from this number on
abbrev pub handlers_names : Program → ℕ → List FunctionTree → List ℕ
handlers_names p number [] = []
handlers_names p number (f ∷ fs) = (if is_handlers p number then statements_uses true f.body else []) ++ handlers_names p (number + 1) fs

-- the addresses that functions take, whether they are called or not
abbrev pub addresses_in : List FunctionTree → List ℕ
addresses_in [] = []
addresses_in (f ∷ fs) = statements_uses false f.body ++ addresses_in fs

-- the addresses that static objects begin with
abbrev pub byte_address : InitialByte → List ℕ
byte_address (initial.Number number) = []
byte_address (initial.Address object byte) = object ∷ []

abbrev pub first_addresses : List Initial → List ℕ
first_addresses [] = []
first_addresses (i ∷ is) = byte_address i.byte ++ first_addresses is

abbrev pub initial_addresses : List StaticTree → List ℕ
initial_addresses [] = []
initial_addresses (s ∷ ss) = first_addresses s.initial ++ initial_addresses ss

-- the static object of this number is named by a function under the handler's root
abbrev pub is_named_by_handler : Program → ℕ → Bool
is_named_by_handler p number = is_among (handlers_names p 0 p.functions) number

-- its address is used anywhere
abbrev pub is_address_used : Program → ℕ → Bool
is_address_used p number = is_among (addresses_in p.functions) number || is_among (initial_addresses p.statics) number

-- ---- what is kept
abbrev pub is_kept : Program → ℕ → StaticTree → Bool
is_kept p number s = is_volatile p s.ty || (is_named_by_handler p number || is_address_used p number)

abbrev pub kept_from : Program → ℕ → List StaticTree → List Bool
kept_from p number [] = []
kept_from p number (s ∷ ss) = is_kept p number s ∷ kept_from p (number + 1) ss

-- of each static object of a program whether it is kept
abbrev pub kept_of : Program → List Bool
kept_of p = kept_from p 0 p.statics
