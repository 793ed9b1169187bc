-- Objects (ISO/IEC 9899:1990, 6.1.2.4, 6.5.7 and 6.7.2): static ones and locals, with what they begin as.
use Rattle.std.specs.Prelude.{ℕ, ◌+◌, Bool, true, false, not, ◌&&◌, ◌||◌, if◌then◌else◌, nat_eq, nat_le, nat_lt, List, [], ◌∷◌, ◌++◌, length, Option, Some, None, Ok}
use Rattle.std.specs.Fmt.{decimal}
use Rattle.c_nodes.specs.Programs.{InitTree}
use Rattle.c_nodes.specs.Programs as tree
use Rattle.c_typed.specs.Sameness.{is_array, is_scalar}
use Rattle.c_typed.specs.Trees as typed
use Rattle.c_typed.specs.Trees.{Statement, Item, StaticTree, VariableTree}
use Rattle.c_typed.specs.declared.expression.Object.TheVariants as object
use Rattle.c_typed.specs.declared.program.Initial.{Initial}
use Rattle.c_typed.specs.declared.types.Qualified.{Qualified}
use Rattle.c_typed.specs.declared.types.Ty.{Ty}
use Rattle.c_typed.specs.declared.types.Ty.TheVariants.{Array}
use Rattle.type_rules.specs.Faults as kind
use Rattle.type_rules.specs.Faults.{Tests}
use Rattle.type_rules.specs.Known.{is_waiting, ObjectName, Known, Rule, given, broken, known_here, learn, tried, wanted, ◌>>=◌}
use Rattle.type_rules.specs.Names.{bind}
use Rattle.type_rules.specs.Rows.{like, target_of, array_of, bytes_of, is_complete, changed_at}
use Rattle.type_rules.specs.Specifiers.{Specified}
use Rattle.type_rules.specs.Outlines.{Outline, is_function, object_type}
use Rattle.type_rules.specs.Slots.{Slot, nothing_begun}
use Rattle.type_rules.specs.Initializers.{begins}

-- The rules of an object's declarator: `interrupt` is for functions, an object has at most 65,535 bytes and a complete type, where an initializer may
-- give the length of an array.
abbrev pub object_tests : Known → Specified → Outline → Bool → Tests
object_tests known said o begun =
    (o.bad || (is_function o.declared || said.interrupt), kind.Declare) ∷
    (nat_lt 65535 (bytes_of known (object_type o.declared).ty), kind.Size) ∷
    (is_waiting o.waiting || not ((begun && is_array (object_type o.declared).ty) || is_complete known (object_type o.declared).ty), kind.Incomplete) ∷ []

abbrev pub object_rule : Specified → Outline → Bool → ℕ → Rule Qualified
object_rule said o begun line = do
  known ← known_here
  _ ← tried (object_tests known said o begun) line
  given (object_type o.declared)

-- An array without a length takes it from its initializer.
abbrev pub sized : Known → Qualified → ℕ → Bool
sized known whole count = nat_le count 65535 && nat_le (bytes_of known whole.ty) 65535

abbrev pub closed_array : Qualified → ℕ → Option ℕ → ℕ → Rule Qualified
closed_array ty row count line = do
  n ← wanted kind.Initializer line count
  known ← known_here
  whole ← array_of (like ty (target_of known row).ty) n
  after ← known_here
  _ ← tried ((not (sized after whole n), kind.Size) ∷ []) line
  given whole

abbrev pub closed_by : Ty → Qualified → Option ℕ → ℕ → Rule Qualified
closed_by (Array row n size) ty count line = if nat_eq n 0 then closed_array ty row count line else given ty
closed_by _ ty count line = given ty

abbrev pub closed : Qualified → Option ℕ → ℕ → Rule Qualified
closed ty count line = closed_by ty.ty ty count line

abbrev pub whole_slot : Qualified → Slot
whole_slot ty = record { ty = ty; offset = 0 }

-- ---- static objects

abbrev pub add_static : List ℕ → Qualified → ℕ → Rule ℕ
add_static name ty line = λ known. Ok (length known.statics, record known { statics = known.statics ++ record { name = name; ty = ty; initial = []; line = line } ∷ [] })

abbrev pub complete_static : ℕ → Qualified → List Initial → Rule Known
complete_static number ty initial = learn (λ known. record known { statics = changed_at known.statics number (λ s. record s { ty = ty; initial = initial }) })

-- An object is in scope in its own initializer.
abbrev pub static_begun : Option InitTree → ℕ → List ℕ → Qualified → ℕ → Rule Known
static_begun None number name ty line = known_here
static_begun (Some init) number name ty line = do
  b ← begins init (Some (whole_slot ty)) false (nothing_begun true line)
  whole ← closed ty b.count line
  _ ← bind name (ObjectName (object.Static number) whole false)
  complete_static number whole b.initial

-- a static object: its name in the map, its name in the text
abbrev pub static_rule : Option InitTree → List ℕ → List ℕ → Qualified → ℕ → Rule Known
static_rule init map_name name ty line = do
  number ← add_static map_name ty line
  _ ← bind name (ObjectName (object.Static number) ty false)
  static_begun init number name ty line

-- A static object of a block has the name FUNCTION.K.NAME in the map, K being the number of its declarator in the function's body.
abbrev pub block_name : List ℕ → ℕ → List ℕ → List ℕ
block_name function k name = function ++ 46 ∷ decimal k ++ 46 ∷ name

abbrev pub next_declarator : Rule ℕ
next_declarator = λ known. Ok ((known.body).declarators, record known { body = record known.body { declarators = (known.body).declarators + 1 } })

-- ---- locals

abbrev pub add_local : List ℕ → Qualified → ℕ → Rule ℕ
add_local name ty line = λ known. Ok (length (known.body).locals, record known { body = record known.body { locals = (known.body).locals ++ record { name = name; ty = ty; line = line } ∷ [] } })

abbrev pub complete_local : ℕ → Qualified → Rule Known
complete_local number ty = learn (λ known. record known { body = record known.body { locals = changed_at (known.body).locals number (λ v. record v { ty = ty }) } })

abbrev pub is_expression : InitTree → Bool
is_expression (tree.Value e) = true
is_expression _ = false

-- A local that begins as one value: a scalar, or a structure, which is assigned once the local is there.
abbrev pub begun_as_one : ℕ → Qualified → List Item → ℕ → Rule (List Statement)
begun_as_one local ty (typed.Scalar offset value ∷ []) line = given (typed.InitScalar local value line ∷ [])
begun_as_one local ty (typed.Struct offset from size ∷ []) line = given (typed.Declare local line ∷ typed.Expr (typed.StructAssign (typed.Name (object.Local local) ty line) from size line) line ∷ [])
begun_as_one local ty _ line = broken kind.Initializer line

abbrev pub local_statements : InitTree → ℕ → Qualified → List Item → ℕ → Rule (List Statement)
local_statements init local ty items line =
    if is_expression init || is_scalar ty.ty then begun_as_one local ty items line
    else given (typed.InitList local items line ∷ [])

abbrev pub local_begun : Option InitTree → ℕ → List ℕ → Qualified → Bool → ℕ → Rule (List Statement)
local_begun None local name ty fixed line = given (typed.Declare local line ∷ [])
local_begun (Some init) local name ty fixed line = do
  b ← begins init (Some (whole_slot ty)) false (nothing_begun false line)
  whole ← closed ty b.count line
  _ ← bind name (ObjectName (object.Local local) whole fixed)
  _ ← complete_local local whole
  local_statements init local whole b.items line

abbrev pub local_rule : Option InitTree → List ℕ → Qualified → Bool → ℕ → Rule (List Statement)
local_rule init name ty fixed line = do
  local ← add_local name ty line
  _ ← bind name (ObjectName (object.Local local) ty fixed)
  local_begun init local name ty fixed line
