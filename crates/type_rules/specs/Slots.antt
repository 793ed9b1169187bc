-- What an initializer gives to the parts of an object (ISO/IEC 9899:1990, 6.5.7): the parts in order, and the rule of a value and of a string
-- for one part.
use Rattle.std.specs.Prelude.{ℕ, zero, suc, ◌+◌, ◌-◌, ◌*◌, ◌/◌, ◌%◌, Bool, not, ◌&&◌, ◌||◌, ◌==◌, if◌then◌else◌, nat_eq, nat_le, nat_lt, List, [], ◌∷◌, ◌++◌, length, Option, Some, None, slice_get}
use Rattle.c_ints.specs.Quantity.{Quantity}
use Rattle.c_ints.specs.Range as range
use Rattle.c_ints.specs.declared.types.IntTy.{IntTy}
use Rattle.c_ints.specs.declared.types.IntTy.TheVariants as int
use Rattle.c_token.specs.Constant.{element_at}
use Rattle.c_nodes.specs.Words.{Symbol}
use Rattle.c_typed.specs.Sameness.{same_type, is_scalar}
use Rattle.c_typed.specs.Trees as typed
use Rattle.c_typed.specs.Trees.{Expression, Place, Item}
use Rattle.c_typed.specs.Types.{type_of, kept}
use Rattle.c_typed.specs.declared.expression.Object.{Object}
use Rattle.c_typed.specs.declared.expression.Object.TheVariants as object
use Rattle.c_typed.specs.declared.program.Initial.{Initial}
use Rattle.c_typed.specs.declared.program.InitialByte.TheVariants as initial
use Rattle.c_typed.specs.declared.types.Qualified.{Qualified}
use Rattle.c_typed.specs.declared.types.Ty.{Ty}
use Rattle.c_typed.specs.declared.types.Ty.TheVariants.{Int, Pointer, Array, Struct}
use Rattle.type_rules.specs.Faults as kind
use Rattle.type_rules.specs.Known.{Field, Known, Rule, given, broken, known_here, tried, wanted, ◌>>=◌}
use Rattle.type_rules.specs.Rows.{like, target_of, bytes_of, fields_of}
use Rattle.type_rules.specs.Terms.{Operand, side_of}
use Rattle.type_rules.specs.Conversions.{may_be_assigned, assigned}
use Rattle.type_rules.specs.Writes.{structure_read}
use Rattle.type_rules.specs.Constants.{number_of}

-- A part of an object, and how many bytes of the object stand before it, counted as sizes are: exactly where an object may be as long.
pub record Slot : Type 0 where
  pub ty : Qualified
  pub offset : ℕ

-- What an initializer has given so far: the first bytes of a static object, or the items of a local; the length of an array that had none; and the
-- line of the declarator.
pub record Begun : Type 0 where
  pub static_object : Bool
  pub initial : List Initial
  pub items : List Item
  pub count : Option ℕ
  pub line : ℕ

abbrev pub nothing_begun : Bool → ℕ → Begun
nothing_begun static_object line = record { static_object = static_object; initial = []; items = []; count = None; line = line }

-- ---- the parts of an object in order

abbrev pub member_slot : ℕ → Option (List ℕ × Field) → Option Slot
member_slot offset None = None
member_slot offset (Some m) = Some (record { ty = (m.1).ty; offset = kept (offset + (m.1).offset) })

abbrev pub element_slot : Known → Slot → Qualified → ℕ → Slot
element_slot known slot ty n = record { ty = ty; offset = kept (slot.offset + bytes_of known ty.ty * n) }

-- Part n: an element, of an array without a length any; a member; and of a scalar the scalar itself.
abbrev pub part_by : Known → Slot → Ty → ℕ → Option Slot
part_by known slot (Array row count size) n =
    if not (nat_eq count 0) && nat_le count n then None
    else Some (element_slot known slot (like slot.ty (target_of known row).ty) n)
part_by known slot (Struct number) n = member_slot slot.offset (slice_get (fields_of known number) n)
part_by known slot ty n = if nat_eq n 0 then Some slot else None

abbrev pub part : Known → Option Slot → ℕ → Option Slot
part known None n = None
part known (Some slot) n = part_by known slot slot.ty.ty n

-- ---- first bytes of static objects

abbrev pub bytes_at : ℕ → List ℕ → List Initial
bytes_at offset [] = []
bytes_at offset (b ∷ bs) = record { offset = offset; byte = initial.Number b } ∷ bytes_at (offset + 1) bs

-- the lowest bytes of a number, the lowest first
abbrev pub low_bytes : ℕ → ℕ → List ℕ
low_bytes zero n = []
low_bytes (suc k) n = n % 256 ∷ low_bytes k (n / 256)

abbrev pub number_bytes : IntTy → Quantity → List ℕ
number_bytes ty v = low_bytes (range.bytes_of ty) (range.pattern ty v.number)

abbrev pub with_initial : List Initial → Begun → Begun
with_initial bytes b = record b { initial = b.initial ++ bytes }

abbrev pub address_bytes : ℕ → ℕ → List Initial
address_bytes offset number = record { offset = offset; byte = initial.Address number 0 } ∷ record { offset = offset + 1; byte = initial.Address number 1 } ∷ []

-- `&` of a static object's name, or the name of a static array
abbrev pub static_number : Object → Option ℕ
static_number (object.Static number) = Some number
static_number _ = None

abbrev pub static_name : Place → Option ℕ
static_name (typed.Name named ty line) = static_number named
static_name _ = None

abbrev pub static_address : Expression → Option ℕ
static_address (typed.Address place ty line) = static_name place
static_address _ = None

-- A static pointer begins as null or as the address of a static object.
abbrev pub begin_pointer : Slot → Operand → ℕ → Begun → Rule Begun
begin_pointer slot x line b =
    if x.null then given b
    else (do
      number ← wanted kind.Initializer x.line (static_address x.value)
      known ← known_here
      _ ← tried ((not (may_be_assigned known (side_of x) slot.ty.ty), kind.Convert) ∷ []) line
      given (with_initial (address_bytes slot.offset number) b))

abbrev pub begin_static : Ty → Slot → Operand → ℕ → Begun → Rule Begun
begin_static (Int ty) slot x line b = do
  v ← number_of x
  given (with_initial (bytes_at slot.offset (number_bytes ty v)) b)
begin_static (Pointer row) slot x line b = begin_pointer slot x line b
begin_static _ slot x line b = broken kind.Initializer x.line

-- ---- items of locals

abbrev pub with_item : Item → Begun → Begun
with_item item b = record b { items = b.items ++ item ∷ [] }

-- A structure begins as one of the same type.
abbrev pub begin_structure : Slot → Operand → Begun → Rule Begun
begin_structure slot x b = do
  known ← known_here
  _ ← tried ((not (same_type (type_of x.value) slot.ty.ty), kind.Initializer) ∷ []) x.line
  from ← wanted kind.Initializer x.line (structure_read x.value)
  given (with_item (typed.Struct slot.offset from (bytes_of known slot.ty.ty)) b)

abbrev pub begin_local : Ty → Slot → Operand → ℕ → Begun → Rule Begun
begin_local (Struct number) slot x line b = begin_structure slot x b
begin_local (Array row count size) slot x line b = broken kind.Initializer x.line
begin_local ty slot x line b = do
  value ← assigned x ty line
  given (with_item (typed.Scalar slot.offset value) b)

-- The value of an expression for a part. Its conversion is told at the declarator, or at the item of a list.
abbrev pub value_line : Bool → ℕ → Begun → ℕ
value_line inside line b = if inside then line else b.line

abbrev pub begin_value : Slot → Bool → Operand → Begun → Rule Begun
begin_value slot inside x b =
    if b.static_object then begin_static slot.ty.ty slot x (value_line inside x.line b) b
    else begin_local slot.ty.ty slot x (value_line inside x.line b) b

-- ---- strings (6.1.4): the characters between the quotes. The first `passed` bytes belong to one that was read already.

abbrev pub or_nothing : Option (ℕ × ℕ) → ℕ × ℕ
or_nothing None = (0, 1)
or_nothing (Some e) = e

unfoldable pub characters : ℕ → List ℕ → List ℕ
characters passed [] = []
characters (suc passed) (b ∷ rest) = characters passed rest
characters zero (b ∷ rest) =
    if b == 34 then []
    else (or_nothing (element_at 34 (b ∷ rest))).0 ∷ characters ((or_nothing (element_at 34 (b ∷ rest))).1 - 1) rest

abbrev pub behind_quote : List ℕ → List ℕ
behind_quote [] = []
behind_quote (q ∷ bytes) = bytes

abbrev pub text_of : List ℕ → List ℕ
text_of literal = characters 0 (behind_quote literal)

-- the length of an array of chars, 0 where it isn't known
abbrev pub is_char : Ty → Bool
is_char ty = same_type ty (Int int.Char) || (same_type ty (Int int.SChar) || same_type ty (Int int.UChar))

abbrev pub char_array : Known → Ty → Option ℕ
char_array known (Array row count size) = if is_char (target_of known row).ty then Some count else None
char_array known _ = None

-- A string may leave out its end 0; an array without a length has it.
abbrev pub text_size : ℕ → ℕ → ℕ
text_size count characters = if nat_eq count 0 then characters + 1 else count

abbrev pub with_count : ℕ → ℕ → Begun → Begun
with_count count characters b = if nat_eq count 0 then record b { count = Some (characters + 1) } else b

abbrev pub with_text : Slot → ℕ → List ℕ → Begun → Begun
with_text slot count text b =
    if b.static_object then with_initial (bytes_at slot.offset text) (with_count count (length text) b)
    else with_item (typed.Text slot.offset text (text_size count (length text))) (with_count count (length text) b)

abbrev pub begin_characters : Slot → ℕ → List ℕ → ℕ → Begun → Rule Begun
begin_characters slot count text line b = do
  _ ← tried ((not (nat_eq count 0) && nat_lt count (length text), kind.Initializer) ∷ []) line
  given (with_text slot count text b)

-- why a string can't begin what is no array of chars
abbrev pub static_text : Ty → ℕ → Rule Begun
static_text (Int ty) line = broken kind.Constant line
static_text _ line = broken kind.Initializer line

abbrev pub refused_text : Slot → Bool → ℕ → Begun → Rule Begun
refused_text slot inside line b =
    if not (is_scalar slot.ty.ty) then broken kind.Initializer line
    else if b.static_object then static_text slot.ty.ty line
    else broken kind.Convert (value_line inside line b)

abbrev pub begin_text_by : Option ℕ → Slot → Bool → Symbol → Begun → Rule Begun
begin_text_by (Some count) slot inside s b = begin_characters slot count (text_of s.bytes) s.line b
begin_text_by None slot inside s b = refused_text slot inside s.line b

abbrev pub begin_text : Slot → Bool → Symbol → Begun → Rule Begun
begin_text slot inside s b = do
  known ← known_here
  begin_text_by (char_array known slot.ty.ty) slot inside s b
