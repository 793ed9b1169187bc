-- What an initializer gives to a part of an object: items or first bytes that stand in order within it.
use Rattle.std.specs.Prelude.{◌≡◌, ℕ, zero, suc, ◌+◌, ◌*◌, ◌^◌, ◌<◌, ◌≤◌, nat_lt, Bool, true, false, List, [], ◌∷◌, ◌++◌, Option, Some, None, slice_get}
use Rattle.c_typed.specs.Sameness.{is_array, is_scalar}
use Rattle.c_typed.specs.Sound.{item_fits, is_changeable}
use Rattle.c_typed.specs.Trees as tree
use Rattle.c_typed.specs.Trees.{Expression, Item, FunctionTree, Program}
use Rattle.c_typed.specs.Types.{type_of, item_start, kept}
use Rattle.c_typed.specs.Words.{item_bytes}
use Rattle.c_typed.specs.declared.program.Initial.{Initial}
use Rattle.c_typed.specs.declared.program.InitialByte.{InitialByte}
use Rattle.c_typed.specs.declared.program.InitialByte.TheVariants as initial
use Rattle.c_typed.specs.declared.types.Ty.{Ty}
use Rattle.c_typed.specs.declared.types.Ty.TheVariants.{Array, Struct}
use Rattle.type_rules.specs.Initializers.{is_unsized}
use Rattle.type_rules.specs.Known.{Field, Known}
use Rattle.type_rules.specs.Rows.{target_of, bytes_of, is_complete, fields_of}
use Rattle.type_rules.specs.Slots.{Slot, Begun}
use Rattle.typed_laws.specs.Tables.{Each, Stands, Leads}
use Rattle.std.specs.Prelude.{◌||◌}

-- how many bytes an item gives a value
abbrev pub item_size : Known → Item → ℕ
item_size known (tree.Scalar offset value) = bytes_of known (type_of value)
item_size known (tree.Struct offset from size) = size
item_size known (tree.Text offset bytes size) = size

pub record IsItem (known : Known) (item : Item) : Type 0 where
  pub fitting : (p : Program) (f : FunctionTree) → Leads known p f → item_fits p f item ≡ true
  pub bytes : (p : Program) (f : FunctionTree) → Leads known p f → item_bytes p.sizes item ≡ item_size known item

-- items in order from one byte up to another one
abbrev pub ItemsIn : Known → ℕ → ℕ → List Item → Type 0
ItemsIn known low high [] = low ≤ high
ItemsIn known low high (item ∷ items) = (low ≤ item_start item) × IsItem known item × ItemsIn known (item_start item + item_size known item) high items

-- a number, or a byte of the address of a static object that isn't const
abbrev pub IsByte : Known → InitialByte → Type 0
IsByte known (initial.Number number) = Unit {0}
IsByte known (initial.Address object byte) = (is_changeable (slice_get known.statics object) ≡ true) × (nat_lt byte 2 ≡ true)

-- first bytes in order
abbrev pub InitialsIn : Known → ℕ → ℕ → List Initial → Type 0
InitialsIn known low high [] = low ≤ high
InitialsIn known low high (i ∷ is) = (low ≤ i.offset) × IsByte known i.byte × InitialsIn known (i.offset + 1) high is

-- To an integer or a pointer goes one value of its type.
abbrev pub IsScalarOf : Ty → Item → Type 0
IsScalarOf ty (tree.Scalar offset value) = type_of value ≡ ty
IsScalarOf ty (tree.Struct offset from size) = ⊥
IsScalarOf ty (tree.Text offset bytes size) = ⊥

abbrev pub IsOf : Ty → Item → Type 0
IsOf ty item = is_scalar ty ≡ true → IsScalarOf ty item

-- What is begun with more, for a part of a type, from one byte up to another one.
pub record Extends (known : Known) (ty : Ty) (low high : ℕ) (b c : Begun) : Type 0 where
  pub initial : List Initial
  pub initial_is : c.initial ≡ b.initial ++ initial
  pub initial_in : InitialsIn known low high initial
  pub items : List Item
  pub items_are : c.items ≡ b.items ++ items
  pub items_in : ItemsIn known low high items
  pub types : Each (IsOf ty) items

-- A part has a type that is there, and is complete or an array whose length is not known yet.
pub record IsSlot (known : Known) (slot : Slot) : Type 0 where
  pub stands : Stands known (slot.ty).ty
  pub whole : (is_complete known (slot.ty).ty || is_array (slot.ty).ty) ≡ true

-- the bytes of an array's element
abbrev pub element_size : Known → Ty → ℕ
element_size known (Array row count size) = bytes_of known (target_of known row).ty
element_size known _ = 0

-- The part, or an element of an array without a length, has at most 65,535 bytes.
abbrev pub small_by : Bool → Known → Slot → Type 0
small_by true known slot = element_size known (slot.ty).ty ≤ 65535
small_by false known slot = bytes_of known (slot.ty).ty ≤ 65535

abbrev pub IsSmall : Known → Slot → Type 0
IsSmall known slot = small_by (is_unsized (slot.ty).ty) known slot

-- a number of bytes that is counted exactly
abbrev pub IsNear : ℕ → Type 0
IsNear bytes = bytes < 2 ^ 40

-- An array without a length gets one; another part is begun within its bytes, where these are counted exactly.
abbrev pub gave_by : Bool → Known → Known → Slot → Begun → Begun → Type 0
gave_by true known after slot b c = (n : ℕ) × (c.count ≡ Some n) × (0 < n) × (IsNear (slot.offset + element_size known (slot.ty).ty * n) → Extends after (slot.ty).ty slot.offset (slot.offset + element_size known (slot.ty).ty * n) b c)
gave_by false known after slot b c = (c.count ≡ b.count) × (IsNear (slot.offset + bytes_of known (slot.ty).ty) → Extends after (slot.ty).ty slot.offset (slot.offset + bytes_of known (slot.ty).ty) b c)

-- what stays
pub record IsLike (b c : Begun) : Type 0 where
  pub static_object : c.static_object ≡ b.static_object
  pub line : c.line ≡ b.line

-- What an initializer gives for a part; where none is, nothing.
abbrev pub Begins : Known → Known → Option Slot → Begun → Begun → Type 0
Begins known after None b c = c ≡ b
Begins known after (Some slot) b c = IsLike b c × (is_unsized (slot.ty).ty ≡ true → (n : ℕ) × (c.count ≡ Some n) × (0 < n)) × (IsSmall known slot → gave_by (is_unsized (slot.ty).ty) known after slot b c)

-- where the n-th member begins, counted from a byte on
abbrev pub begin_of : Known → ℕ → List (List ℕ × Field) → ℕ → ℕ
begin_of known before [] n = before
begin_of known before (m ∷ ms) zero = before
begin_of known before (m ∷ ms) (suc n) = begin_of known (kept (before + bytes_of known ((m.1).ty).ty)) ms n

-- how many bytes the first parts have together
abbrev pub scalar_upto : ℕ → ℕ → ℕ
scalar_upto bytes zero = 0
scalar_upto bytes (suc n) = bytes

abbrev pub upto : Known → Ty → ℕ → ℕ
upto known (Array row count size) n = bytes_of known (target_of known row).ty * n
upto known (Struct number) n = begin_of known 0 (fields_of known number) n
upto known ty n = scalar_upto (bytes_of known ty) n
