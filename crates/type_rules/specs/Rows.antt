-- Types: the rows of what is pointed to and of what arrays are made of, structures and their tags (ISO/IEC 9899:1990, 6.1.2.5, 6.5.2).
use Rattle.std.specs.Prelude.{ℕ, ◌+◌, ◌*◌, zero, suc, Bool, true, false, not, if◌then◌else◌, nat_eq, List, [], ◌∷◌, ◌++◌, length, map, Option, Some, None, Ok, slice_get}
use Rattle.c_typed.specs.Sameness.{same_qualified}
use Rattle.c_typed.specs.Types.{type_bytes, kept}
use Rattle.c_typed.specs.declared.types.Qualified.{Qualified}
use Rattle.c_typed.specs.declared.types.Ty.{Ty}
use Rattle.c_typed.specs.declared.types.Ty.TheVariants.{Void, Int, Pointer, Array, Struct}
use Rattle.type_rules.specs.Known.{Tag, StructTag, EnumTag, Field, Progress, Absent, Closed, Shape, Known, Rule, given, known_here, learn, ◌>>=◌}
use Rattle.type_rules.specs.Names.{entry_of, with_entry}

abbrev pub plain : Ty → Qualified
plain ty = record { ty = ty; constant = false; volatile = false }

-- this type with the qualifiers of another one
abbrev pub like : Qualified → Ty → Qualified
like whole ty = record whole { ty = ty }

-- The place of a row; a type that has none gets the next one.
abbrev pub place_of_row : List Qualified → Qualified → ℕ
place_of_row [] ty = 0
place_of_row (t ∷ ts) ty = if same_qualified t ty then 0 else 1 + place_of_row ts ty

abbrev pub with_row : List Qualified → Qualified → List Qualified
with_row [] ty = ty ∷ []
with_row (t ∷ ts) ty = if same_qualified t ty then t ∷ ts else t ∷ with_row ts ty

abbrev pub row_of : Qualified → Rule ℕ
row_of ty = λ known. Ok (place_of_row known.targets ty, record known { targets = with_row known.targets ty })

abbrev pub or_void : Option Qualified → Qualified
or_void None = plain Void
or_void (Some ty) = ty

abbrev pub target_of : Known → ℕ → Qualified
target_of known row = or_void (slice_get known.targets row)

abbrev pub pointer_to : Qualified → Rule Ty
pointer_to ty = do
  row ← row_of ty
  given (Pointer row)

-- how many bytes a value or an object of the type has so far
abbrev pub bytes_of : Known → Ty → ℕ
bytes_of known ty = type_bytes (map (λ s. s.size) known.shapes) ty

-- The array of so many elements, or of a number that isn't known yet, which is 0. Its qualifiers are those of its elements (6.5.3).
abbrev pub array_of : Qualified → ℕ → Rule Qualified
array_of element count = do
  known ← known_here
  row ← row_of (plain element.ty)
  given (like element (Array row count (kept (count * bytes_of known element.ty))))

-- ---- structures

abbrev pub is_closed : Progress → Bool
is_closed Closed = true
is_closed _ = false

abbrev pub is_absent : Progress → Bool
is_absent Absent = true
is_absent _ = false

abbrev pub progress_in : Option Shape → Progress
progress_in None = Absent
progress_in (Some s) = s.body

abbrev pub progress_of : Known → ℕ → Progress
progress_of known number = progress_in (slice_get known.shapes number)

-- An object can have the type: it is no void, no structure without a whole body so far, and no array without a length (6.1.2.5).
abbrev pub is_complete : Known → Ty → Bool
is_complete known Void = false
is_complete known (Int ty) = true
is_complete known (Pointer row) = true
is_complete known (Array element count size) = not (nat_eq count 0)
is_complete known (Struct number) = is_closed (progress_of known number)

-- a list with one of its elements changed
abbrev pub changed_at : {A : Type 0} → List A → ℕ → (A → A) → List A
changed_at [] n change = []
changed_at (x ∷ xs) zero change = change x ∷ xs
changed_at (x ∷ xs) (suc n) change = x ∷ changed_at xs n change

abbrev pub change_shape : ℕ → (Shape → Shape) → Rule Known
change_shape number change = learn (λ known. record known { shapes = changed_at known.shapes number change })

abbrev pub set_progress : ℕ → Progress → Rule Known
set_progress number body = change_shape number (λ s. record s { body = body })

abbrev pub no_members : Shape
no_members = record { fields = []; size = 0; body = Absent }

-- the structure of a tag that isn't declared yet
abbrev pub new_tag : List ℕ → Rule ℕ
new_tag tag = λ known. Ok (length known.shapes, record known { shapes = known.shapes ++ no_members ∷ []; tags = with_entry known.tags tag (StructTag (length known.shapes)) })

-- a structure without a tag
abbrev pub new_structure : Rule ℕ
new_structure = λ known. Ok (length known.shapes, record known { shapes = known.shapes ++ no_members ∷ [] })

-- The tag of an enumeration is declared.
abbrev pub new_enum_tag : List ℕ → Rule Known
new_enum_tag tag = learn (λ known. record known { tags = with_entry known.tags tag EnumTag })

abbrev pub tagged : Known → List ℕ → Option Tag
tagged known tag = entry_of known.tags tag

-- the members of a structure
abbrev pub fields_in : Option Shape → List (List ℕ × Field)
fields_in None = []
fields_in (Some s) = s.fields

abbrev pub fields_of : Known → ℕ → List (List ℕ × Field)
fields_of known number = fields_in (slice_get known.shapes number)

-- Members stand one behind the other, without padding.
abbrev pub with_member : List ℕ → Qualified → ℕ → Shape → Shape
with_member name ty bytes s = record s { fields = with_entry s.fields name (record { ty = ty; offset = s.size }); size = kept (s.size + bytes) }

abbrev pub add_member : ℕ → List ℕ → Qualified → Rule Known
add_member number name ty = do
  known ← known_here
  change_shape number (with_member name ty (bytes_of known ty.ty))
