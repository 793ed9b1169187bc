-- Tables of a unit that is read so far that are in order, and how the tables of the whole program stand to them.
use Rattle.std.specs.Prelude.{◌≡◌, ℕ, ◌+◌, ◌*◌, ◌<◌, nat_lt, Bool, true, false, ◌&&◌, ◌||◌, List, [], ◌∷◌, map, Option, Some, is_some, slice_get, slice_index}
use Rattle.c_typed.specs.Fits.{declared_type, is_named, is_device, is_no_register, names_local}
use Rattle.c_typed.specs.Sameness.{is_array}
use Rattle.c_typed.specs.Types.{kept}
use Rattle.c_typed.specs.Trees.{StaticTree, VariableTree, FunctionTree, Program}
use Rattle.c_typed.specs.declared.expression.Object.{Object}
use Rattle.c_typed.specs.declared.types.Qualified.{Qualified}
use Rattle.c_typed.specs.declared.types.Ty.{Ty}
use Rattle.c_typed.specs.declared.types.Ty.TheVariants.{Void, Int, Pointer, Array, Struct}
use Rattle.type_rules.specs.Known.{Binding, ObjectName, BitName, FunctionName, TypeNamed, EnumeratorName, Scope, Tag, StructTag, EnumTag, Field, Shape, Signature, Known}
use Rattle.type_rules.specs.Names.{found_in}
use Rattle.type_rules.specs.Rows.{place_of_row, bytes_of, is_closed, is_complete}
use Rattle.type_rules.specs.Slots.{static_number}
use Rattle.type_rules.specs.Specifiers.{Base, StructBase, EnumBase, NamedBase}
use Rattle.type_rules.specs.Units.{structure_tree}

-- the same tables with these rows of types
abbrev pub at : Known → List Qualified → Known
at known rows = record known { targets = rows }

-- Rows are only added.
abbrev pub Adds : List Qualified → List Qualified → Type 0
Adds before after = (row : ℕ) (q : Qualified) → slice_get before row ≡ Some q → slice_get after row ≡ Some q

-- each element of a list
abbrev pub Each : {A : Type 0} → (A → Type 0) → List A → Type 0
Each P [] = Unit {0}
Each P (x ∷ xs) = P x × Each P xs

-- ---- types

-- An array's elements have a row without qualifiers, are complete and have a byte at least.
pub record IsElement (known : Known) (q : Qualified) (count size : ℕ) : Type 0 where
  pub constant : q.constant ≡ false
  pub volatile : q.volatile ≡ false
  pub stands : is_complete known q.ty ≡ true
  pub some : 0 < bytes_of known q.ty
  pub whole : size ≡ kept (count * bytes_of known q.ty)

-- What a type is made of is there.
abbrev pub Stands : Known → Ty → Type 0
Stands known Void = Unit {0}
Stands known (Int ty) = Unit {0}
Stands known (Pointer row) = (q : Qualified) × (slice_get known.targets row ≡ Some q)
Stands known (Array row count size) = (q : Qualified) × (slice_get known.targets row ≡ Some q) × IsElement known q count size
Stands known (Struct number) = (s : Shape) × (slice_get known.shapes number ≡ Some s)

-- the type that specifiers and pointers name
abbrev pub IsBase : Known → Qualified → Type 0
IsBase known q = Stands known q.ty

-- Members stand one behind the other; each is complete and not const.
pub record IsMember (known : Known) (m : Field) (before : ℕ) : Type 0 where
  pub offset : m.offset ≡ before
  pub stands : Stands known (m.ty).ty
  pub whole : is_complete known (m.ty).ty ≡ true
  pub some : 0 < bytes_of known (m.ty).ty
  pub constant : (m.ty).constant ≡ false

abbrev pub AreMembers : Known → ℕ → List (List ℕ × Field) → ℕ → Type 0
AreMembers known before [] size = before ≡ size
AreMembers known before (m ∷ ms) size = IsMember known m.1 before × AreMembers known (kept (before + bytes_of known ((m.1).ty).ty)) ms size

-- A structure with a whole body has members and bytes.
abbrev pub HasSome : List (List ℕ × Field) → ℕ → Type 0
HasSome [] size = ⊥
HasSome (m ∷ ms) size = 0 < size

pub record IsShape (known : Known) (s : Shape) : Type 0 where
  pub members : AreMembers known 0 s.fields s.size
  pub some : is_closed s.body ≡ true → HasSome s.fields s.size

-- ---- names

-- An object's type is there, and complete, or that of an array without a length; no address is taken of a register; a static object is const as its name is.
pub record IsObject (known : Known) (object : Object) (q : Qualified) (fixed : Bool) : Type 0 where
  pub stands : Stands known q.ty
  pub whole : (is_complete known q.ty || is_array q.ty) ≡ true
  pub register : is_no_register object ≡ false → fixed ≡ true
  pub static : (n : ℕ) → static_number object ≡ Some n → (s : StaticTree) × (slice_get known.statics n ≡ Some s) × ((s.ty).constant ≡ q.constant)

abbrev pub IsBound : Known → Binding → Type 0
IsBound known (ObjectName object q fixed) = IsObject known object q fixed
IsBound known (BitName register bit) = Unit {0}
IsBound known (FunctionName number) = Unit {0}
IsBound known (TypeNamed q waiting) = Stands known q.ty
IsBound known (EnumeratorName n) = Unit {0}

abbrev pub AreBound : Known → Scope → Type 0
AreBound known scope = Each (λ e. IsBound known e.1) scope

-- a structure that is there
abbrev pub IsThere : Known → ℕ → Type 0
IsThere known number = (s : Shape) × (slice_get known.shapes number ≡ Some s)

-- what a tag is that of
abbrev pub IsTag : Known → Tag → Type 0
IsTag known (StructTag number) = IsThere known number
IsTag known EnumTag = Unit {0}

-- What names a type without a word names one that is there.
abbrev pub IsNamedBase : Known → Base → Type 0
IsNamedBase known (StructBase number) = IsThere known number
IsNamedBase known EnumBase = Unit {0}
IsNamedBase known (NamedBase q waiting) = Stands known q.ty

-- ---- tables in order

pub record Orderly (known : Known) : Type 0 where
  pub rows : (row : ℕ) (q : Qualified) → slice_get known.targets row ≡ Some q → Stands known q.ty
  pub distinct : (row : ℕ) (q : Qualified) → slice_get known.targets row ≡ Some q → place_of_row known.targets q ≡ row
  pub shapes : (n : ℕ) (s : Shape) → slice_get known.shapes n ≡ Some s → IsShape known s
  pub scopes : Each (AreBound known) known.scopes
  pub tags : Each (λ e. IsTag known e.1) known.tags
  pub results : (n : ℕ) (s : Signature) → slice_get known.signatures n ≡ Some s → Stands known (s.result).ty × Each (Stands known) s.params

-- ---- the tables of the whole program

-- the function of a signature
abbrev pub type_in : VariableTree → Ty
type_in v = (v.ty).ty

abbrev pub IsAs : Option FunctionTree → Signature → Type 0
IsAs found s = (g : FunctionTree) × (found ≡ Some g) × (g.result ≡ (s.result).ty) × (map type_in g.params ≡ s.params)

-- All rows, whole structures and functions that are defined are those of the program.
pub record Begins (known : Known) (p : Program) : Type 0 where
  pub rows : Adds known.targets p.targets
  pub structures : (n : ℕ) (s : Shape) → slice_get known.shapes n ≡ Some s → is_some (slice_get p.structures n) ≡ true
  pub closed : (n : ℕ) (s : Shape) → slice_get known.shapes n ≡ Some s → is_closed s.body ≡ true → (slice_get p.structures n ≡ Some (structure_tree s)) × (slice_index p.sizes n ≡ s.size)
  pub functions : (n d : ℕ) (s : Signature) → slice_get known.signatures n ≡ Some s → s.definition ≡ Some d → IsAs (slice_get p.functions d) s

-- A name has the type that it is declared with in the program and its function.
abbrev pub BindingFits : Program → FunctionTree → Binding → Type 0
BindingFits p f (ObjectName object q fixed) = is_named (names_local object) (declared_type p f object) q ≡ true
BindingFits p f (BitName register bit) = (is_device register && nat_lt bit 8) ≡ true
BindingFits p f (FunctionName number) = Unit {0}
BindingFits p f (TypeNamed q waiting) = Unit {0}
BindingFits p f (EnumeratorName n) = Unit {0}

pub record Leads (known : Known) (p : Program) (f : FunctionTree) : Type 0 where
  pub begins : Begins known p
  pub names : (name : List ℕ) (b : Binding) → found_in known.scopes name ≡ Some b → BindingFits p f b
