-- Objects, how many bytes they have, which of them are active, and where pointers move.
use Rattle.std.specs.Prelude.{ℕ, ◌+◌, Bool, true, false, not, ◌&&◌, ◌||◌, nat_eq, if◌then◌else◌, ℤ, pos, ◌+ℤ◌, int_lt, unsigned_abs, List, [], ◌∷◌, ◌++◌, length, Option, Some, None, slice_get, take}
use Rattle.std.specs.Ordering.{int_eq}
use Rattle.c_typed.specs.Room.{variables_bytes}
use Rattle.c_typed.specs.Roots.{is_main, is_handler, first_from}
use Rattle.c_typed.specs.Trees as tree
use Rattle.c_typed.specs.Trees.{FunctionTree, Program, StaticTree, VariableTree}
use Rattle.c_typed.specs.Types.{type_bytes}
use Rattle.c_typed.specs.declared.expression.Object.{Object as Name}
use Rattle.c_typed.specs.declared.expression.Object.TheVariants as names
use Rattle.c_typed.specs.declared.types.Ty.{Ty}
use Rattle.pic_world.specs.Roots.{same_root}
use Rattle.pic_world.specs.declared.Root.{Root}
use Rattle.pic_world.specs.declared.Root.TheVariants as roots
use Rattle.src_values.specs.declared.objects.CopyOf.{CopyOf}
use Rattle.src_values.specs.declared.objects.Object.{Object}
use Rattle.src_values.specs.declared.objects.Object.TheVariants.{Fixed, Variable}
use Rattle.src_values.specs.declared.objects.Pointer.{Pointer}
use Rattle.src_values.specs.declared.objects.Pointer.TheVariants.{Null, Into}
use Rattle.src_values.specs.declared.objects.Spot.{Spot}
use Rattle.src_values.specs.declared.objects.Spot.TheVariants as spots

-- ---- the parts of a program by their numbers
abbrev pub no_function : FunctionTree
no_function = record { name = []; result = Ty.Void; params = []; locals = []; body = tree.NoStatement; interrupt = false; line = 0 }

abbrev pub or_no_function : Option FunctionTree → FunctionTree
or_no_function None = no_function
or_no_function (Some f) = f

abbrev pub function_at : Program → ℕ → FunctionTree
function_at p f = or_no_function (slice_get p.functions f)

abbrev pub main_in : Program → Option ℕ
main_in p = first_from is_main p.functions 0

abbrev pub handler_in : Program → Option ℕ
handler_in p = first_from is_handler p.functions 0

abbrev pub or_first : Option ℕ → ℕ
or_first None = 0
or_first (Some n) = n

-- main's number
abbrev pub main_of : Program → ℕ
main_of p = or_first (main_in p)

-- the variables of a function: its parameters, then its locals
abbrev pub variables_of : FunctionTree → List VariableTree
variables_of f = f.params ++ f.locals

-- ---- objects
abbrev pub same_copy : CopyOf → CopyOf → Bool
same_copy a b = same_root a.root b.root && nat_eq a.function b.function

abbrev pub same_object : Object → Object → Bool
same_object (Fixed n) (Fixed m) = nat_eq n m
same_object (Fixed n) (Variable b m) = false
same_object (Variable a n) (Fixed m) = false
same_object (Variable a n) (Variable b m) = same_copy a b && nat_eq n m

abbrev pub bytes_of_variable : List ℕ → Option VariableTree → ℕ
bytes_of_variable sizes None = 0
bytes_of_variable sizes (Some v) = type_bytes sizes v.ty.ty

abbrev pub bytes_of_static : List ℕ → Option StaticTree → ℕ
bytes_of_static sizes None = 0
bytes_of_static sizes (Some s) = type_bytes sizes s.ty.ty

-- how many bytes an object has
unfoldable pub object_bytes : Program → Object → ℕ
object_bytes p (Fixed n) = bytes_of_static p.sizes (slice_get p.statics n)
object_bytes p (Variable c n) = bytes_of_variable p.sizes (slice_get (variables_of (function_at p c.function)) n)

abbrev pub is_constant_static : Option StaticTree → Bool
is_constant_static None = false
is_constant_static (Some s) = s.ty.constant

-- an access to it is an event: it is a static object that isn't const
unfoldable pub is_watched : Program → Object → Bool
is_watched p (Fixed n) = not (is_constant_static (slice_get p.statics n))
is_watched p (Variable c n) = false

-- what a name stands for in a function copy
abbrev pub spot_of : Program → CopyOf → Name → Spot
spot_of p c (names.Static n) = spots.Memory (Into (Fixed n) 0)
spot_of p c (names.Param n) = spots.Memory (Into (Variable c n) 0)
spot_of p c (names.Local n) = spots.Memory (Into (Variable c (length (function_at p c.function).params + n)) 0)
spot_of p c (names.Register address) = spots.Device address

-- the local of this number of a function copy
abbrev pub local_of : Program → CopyOf → ℕ → Object
local_of p c n = Variable c (length (function_at p c.function).params + n)

-- ---- active copies
abbrev pub is_among : List CopyOf → CopyOf → Bool
is_among [] c = false
is_among (d ∷ ds) c = same_copy d c || is_among ds c

-- A static object lives all the time, a variable while its copy is active.
unfoldable pub is_alive : List CopyOf → Object → Bool
is_alive active (Fixed n) = true
is_alive active (Variable c n) = is_among active c

-- the handler, or a function that it calls, reaches a variable of main's root
unfoldable pub breaks_isolation : Root → Object → Bool
breaks_isolation root (Fixed n) = false
breaks_isolation root (Variable c n) = same_root root roots.Isr && same_root c.root roots.Main

-- ---- pointers
abbrev pub in_range : Object → ℕ → ℤ → Option Pointer
in_range object size z = if int_lt z (pos 0) || int_lt (pos size) z then None else Some (Into object (unsigned_abs z))

-- A pointer moved by so many bytes; none where it comes out of its object and isn't the byte just past the end. Null
-- moves by 0 alone.
unfoldable pub moved : Program → Pointer → ℤ → Option Pointer
moved p Null by = if int_eq by (pos 0) then Some Null else None
moved p (Into object offset) by = in_range object (object_bytes p object) (pos offset +ℤ by)

-- the byte so many behind the start of an object
abbrev pub behind : Object → ℕ → Spot
behind object offset = spots.Memory (Into object offset)

-- the following byte, which need not be there
abbrev pub next_byte : Spot → Spot
next_byte (spots.Memory (Into object offset)) = spots.Memory (Into object (offset + 1))
next_byte spot = spot

-- how many bytes of the frame stand before a variable: parameters first, then locals
abbrev pub variable_offset : Program → ℕ → ℕ → ℕ
variable_offset p f n = variables_bytes p.sizes (take n (variables_of (function_at p f)))
