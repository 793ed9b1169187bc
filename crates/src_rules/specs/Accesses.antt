-- How values are read and written, byte by byte: each byte is a step. The node that a value belongs to waits below, until all
-- bytes are done.
use Rattle.std.specs.Prelude.{ℕ, zero, suc, ◌+◌, ◌-◌, Bool, true, nat_lt, if◌then◌else◌, List, [], ◌∷◌, ◌++◌, length, Option, Some, None}
use Rattle.c_typed.specs.Trees as tree
use Rattle.c_typed.specs.Trees.{Expression, Item, Statement}
use Rattle.c_typed.specs.Types.{type_bytes}
use Rattle.c_typed.specs.declared.types.Ty.{Ty}
use Rattle.c_typed.specs.declared.types.Ty.TheVariants as types
use Rattle.pic_world.specs.World.{World, device_value}
use Rattle.src_rules.specs.State.{Outcome, Went, Undefined, Lost, state}
use Rattle.src_values.specs.Accesses.{Taking, Takes, Breaks, Putting, Puts, Refuses, take_byte, put_byte, device_taken, device_put, with_bit}
use Rattle.src_values.specs.Memory.{Setting, Memory}
use Rattle.src_values.specs.Control.{Focus, Eval, Find, Holds, Past, Fetch, Skim, Write, PutBit, CopyRead, CopyWrite, Spell, Blank, Got, At, Stores, Copies, Stage, Fills, AtItem, Items, Blanks, Pending, In, Doing, line_at, active, read_type}
use Rattle.src_values.specs.Data.{Datum}
use Rattle.src_values.specs.Data.{Missing}
use Rattle.src_values.specs.Lists.{covered_from}
use Rattle.src_values.specs.Objects.{object_bytes, local_of, next_byte, behind}
use Rattle.src_values.specs.Values.{byte_of, number_in, value_from, fits_behind, lowest_bit, answer_of, written_bytes}
use Rattle.src_values.specs.declared.objects.Byte.{Byte}
use Rattle.src_values.specs.declared.objects.Byte.TheVariants as bytes
use Rattle.src_values.specs.declared.objects.CopyOf.{CopyOf}
use Rattle.src_values.specs.declared.objects.Object.{Object}
use Rattle.src_values.specs.declared.objects.Spot.{Spot}
use Rattle.src_values.specs.declared.objects.Spot.TheVariants as spots

-- how a micro-step goes on from a state
abbrev pub goes : CopyOf → Focus → List Pending → Memory → World Byte → Outcome
goes c x k m w = Went (state c x k m w) None

abbrev pub after_taking : Taking → (Byte → Focus) → CopyOf → List Pending → Memory → ℕ → Outcome
after_taking (Takes byte w event) next c k m line = Went (state c (next byte) k m w) event
after_taking (Breaks kind) next c k m line = Undefined kind line

abbrev pub after_putting : Putting → Focus → CopyOf → List Pending → ℕ → Outcome
after_putting (Puts m w event) next c k line = Went (state c next k m w) event
after_putting (Refuses kind) next c k line = Undefined kind line

-- ---- reads
-- the read of a place as a type begins
abbrev pub fetching : Spot → Ty → List ℕ → Focus
fetching spot (types.Int ty) sizes = Fetch spot []
fetching spot (types.Pointer target) sizes = Fetch spot []
fetching spot types.Void sizes = Skim spot 0 None
fetching spot (types.Array element length size) sizes = Skim spot 0 None
fetching spot (types.Struct number) sizes = Skim spot (type_bytes sizes (types.Struct number)) None

-- A value was read. It is that of a node that only reads; others go on with it.
abbrev pub fetched : Datum → List Pending → CopyOf → Memory → World Byte → Outcome
fetched v (In (tree.Read place ty line) (At spot) ∷ k) c m w = goes c (Holds v) k m w
fetched v k c m w = goes c (Holds v) k m w

abbrev pub fetch_as : Ty → Setting → Spot → List Byte → List Pending → CopyOf → Memory → World Byte → Outcome
fetch_as ty s spot read k c m w =
    if nat_lt (length read) (type_bytes s.program.sizes ty) then
    after_taking (take_byte s (active c (Fetch spot read) k) c.root (fits_behind ty read) spot m w) (λ byte. Fetch (next_byte spot) (read ++ byte ∷ [])) c k m (line_at k)
    else fetched (value_from ty read) k c m w

abbrev pub fetch : Setting → Spot → List Byte → List Pending → CopyOf → Memory → World Byte → Outcome
fetch s spot read k c m w = fetch_as (read_type k) s spot read k c m w

abbrev pub is_any : Byte → Bool
is_any byte = true

abbrev pub skim : Setting → Spot → ℕ → Option Byte → List Pending → CopyOf → Memory → World Byte → Outcome
skim s spot zero byte k c m w = fetched Missing k c m w
skim s spot (suc left) byte k c m w =
    after_taking (take_byte s (active c (Skim spot (suc left) byte) k) c.root is_any spot m w) (λ next. Skim (next_byte spot) left (Some next)) c k m (line_at k)

-- ---- lists of locals
-- The items of a local's list from here on, in order, and then the bytes without an item.
abbrev pub items : Setting → Statement → Object → List Item → List Pending → CopyOf → Memory → World Byte → Outcome
items s t object [] k c m w = goes c (Blank 0 (object_bytes s.program object)) (Doing t Blanks ∷ k) m w
items s t object (tree.Scalar offset value ∷ rest) k c m w = goes c (Eval value) (Doing t (AtItem (tree.Scalar offset value) rest) ∷ k) m w
items s t object (tree.Struct offset from size ∷ rest) k c m w = goes c (Find from) (Doing t (AtItem (tree.Struct offset from size) rest) ∷ k) m w
items s t object (tree.Text offset text size ∷ rest) k c m w = goes c (Spell (behind object offset) text size) (Doing t (Items (tree.Text offset text size) rest) ∷ k) m w

-- ---- what follows a write
abbrev pub stored_in : Expression → Got → List Pending → CopyOf → Memory → World Byte → Outcome
stored_in e (Stores spot v) k c m w = goes c (Holds (answer_of e spot v)) k m w
stored_in e Copies k c m w = goes c (Holds Missing) k m w
stored_in e _ k c m w = Lost

abbrev pub stored_for : Setting → Statement → Stage → List Pending → CopyOf → Memory → World Byte → Outcome
stored_for s (tree.InitScalar local e line) Fills k c m w = goes c Past k m w
stored_for s (tree.InitList local all line) (Items item rest) k c m w = items s (tree.InitList local all line) (local_of s.program c local) rest k c m w
stored_for s (tree.InitList local all line) Blanks k c m w = goes c Past k m w
stored_for s _ _ k c m w = Lost

-- All bytes stand in their places: the node that waits goes on.
abbrev pub stored : Setting → List Pending → CopyOf → Memory → World Byte → Outcome
stored s (In e got ∷ k) c m w = stored_in e got k c m w
stored s (Doing t stage ∷ k) c m w = stored_for s t stage k c m w
stored s _ c m w = Lost

-- ---- writes
-- a bit's register is read, and then written
abbrev pub read_bit : Setting → ℕ → ℕ → Datum → List Pending → CopyOf → Memory → World Byte → Outcome
read_bit s register number v k c m w =
    after_taking (device_taken s register (device_value s.outside register w) w) (λ byte. PutBit register number v (number_in byte)) c k m (line_at k)

abbrev pub put_bit : Setting → ℕ → ℕ → Datum → ℕ → List Pending → CopyOf → Memory → World Byte → Outcome
put_bit s register number v old k c m w =
    after_putting (device_put register (with_bit number (lowest_bit v) old) m w) (Write (spots.Bit register number) v 1) c k (line_at k)

abbrev pub write_at : Setting → Spot → Datum → ℕ → List Pending → CopyOf → Memory → World Byte → Outcome
write_at s (spots.Bit register number) v at k c m w = read_bit s register number v k c m w
write_at s spot v at k c m w =
    after_putting (put_byte s (active c (Write spot v at) k) c.root spot (byte_of v at) m w) (Write (next_byte spot) v (at + 1)) c k (line_at k)

abbrev pub write : Setting → Spot → Datum → ℕ → List Pending → CopyOf → Memory → World Byte → Outcome
write s spot v at k c m w = if nat_lt at (written_bytes spot v) then write_at s spot v at k c m w else stored s k c m w

-- ---- structures and strings
abbrev pub copy_read : Setting → Spot → Spot → ℕ → List Pending → CopyOf → Memory → World Byte → Outcome
copy_read s to from zero k c m w = stored s k c m w
copy_read s to from (suc left) k c m w =
    after_taking (take_byte s (active c (CopyRead to from (suc left)) k) c.root is_any from m w) (λ byte. CopyWrite to from byte left) c k m (line_at k)

abbrev pub copy_write : Setting → Spot → Spot → Byte → ℕ → List Pending → CopyOf → Memory → World Byte → Outcome
copy_write s to from byte left k c m w =
    after_putting (put_byte s (active c (CopyWrite to from byte left) k) c.root to byte m w) (CopyRead (next_byte to) (next_byte from) left) c k (line_at k)

abbrev pub first_or_zero : List ℕ → ℕ
first_or_zero [] = 0
first_or_zero (x ∷ xs) = x

abbrev pub behind_first : List ℕ → List ℕ
behind_first [] = []
behind_first (x ∷ xs) = xs

abbrev pub spell : Setting → Spot → List ℕ → ℕ → List Pending → CopyOf → Memory → World Byte → Outcome
spell s spot text zero k c m w = stored s k c m w
spell s spot text (suc left) k c m w =
    after_putting (put_byte s (active c (Spell spot text (suc left)) k) c.root spot (bytes.Number (first_or_zero text)) m w) (Spell (next_byte spot) (behind_first text) left) c k (line_at k)

-- ---- the bytes without an item
abbrev pub blank_at : Setting → Object → ℕ → ℕ → List Pending → CopyOf → Memory → World Byte → Outcome
blank_at s object at zero k c m w = stored s k c m w
blank_at s object at (suc left) k c m w =
    after_putting (put_byte s (active c (Blank at (suc left)) k) c.root (behind object at) (bytes.Number 0) m w) (Blank (at + 1) left) c k (line_at k)

abbrev pub blank_for : Setting → Statement → ℕ → ℕ → List Pending → CopyOf → Memory → World Byte → Outcome
blank_for s (tree.InitList local all line) at left k c m w =
    let covered = covered_from s.program.sizes all at left in blank_at s (local_of s.program c local) (at + covered) (left - covered) k c m w
blank_for s _ at left k c m w = Lost

-- the next byte without an item becomes 0
abbrev pub blank : Setting → ℕ → ℕ → List Pending → CopyOf → Memory → World Byte → Outcome
blank s at left (Doing t stage ∷ k) c m w = blank_for s t at left (Doing t stage ∷ k) c m w
blank s at left _ c m w = Lost
