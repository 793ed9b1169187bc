-- Which machine of byte code stands for a state of the source: where its code stands, which values its temporary bytes hold,
-- and that objects of active copies agree.
use Rattle.std.specs.Prelude.{◌≡◌, ℕ, zero, suc, ◌+◌, ◌-◌, ◌<◌, Bool, true, false, ◌&&◌, if◌then◌else◌, pos, List, [], ◌∷◌, length, Option, Some, None, slice_index_or}
use Rattle.c_ints.specs.Operators.{cut_to}
use Rattle.c_ints.specs.Range.{pattern}
use Rattle.c_ints.specs.declared.types.IntTy.TheVariants as IntTy
use Rattle.c_typed.specs.Folding.{constant_bits}
use Rattle.c_typed.specs.Trees as tree
use Rattle.c_typed.specs.Trees.{Expression, Expressions, Place, Statement}
use Rattle.core_code.specs.Bytes.{Held, Number, Memory, byte_in, is_private}
use Rattle.core_code.specs.Machine.{Machine}
use Rattle.core_code.specs.declared.code.Byte.{Byte}
use Rattle.core_code.specs.declared.code.Byte.TheVariants.{Frame, Result, Device}
use Rattle.core_puts.specs.Bytes.{behind, beyond, operation_type}
use Rattle.lower_expr.specs.Layout.{Layout, width, value_width}
use Rattle.lower_expr.specs.Lowering.{behind_pointer, shifts_by_constant}
use Rattle.lower_expr.specs.Rows.{step_number, keeps_old}
use Rattle.lower_expr.specs.Spots.{spot_of, pointer_bytes}
use Rattle.lower_expr.specs.declared.places.Spot as place
use Rattle.lower_expr.specs.declared.places.Spot.TheVariants.{Fixed, Bit, Computed}
use Rattle.lower_stmt.specs.Ground.{Ground, local_byte}
use Rattle.pic_world.specs.World.{arrived, world_as}
use Rattle.pic_world.specs.declared.Root.{Root}
use Rattle.src_rules.specs.Standing.{IsThere, WaitsForPlace, stepped}
use Rattle.src_rules.specs.State.{State}
use Rattle.src_values.specs.Accesses.{is_unset}
use Rattle.src_values.specs.Control.{Focus, Holds as Value, Found, Fetch, Skim, Write, PutBit, CopyRead, CopyWrite, Leaves, Compares, Items, Got, One, At, AtWith, Stores, Args, Passed, Pending, In, To, Doing, Before, Returns, Resumes, active}
use Rattle.src_values.specs.Data as datum
use Rattle.src_values.specs.Data.{Datum}
use Rattle.src_values.specs.Memory as source
use Rattle.src_values.specs.Objects.{object_bytes, is_alive}
use Rattle.src_values.specs.Values.{byte_count, byte_of, number_of, lowest_bit}
use Rattle.src_values.specs.declared.objects.Byte as value
use Rattle.src_values.specs.declared.objects.Byte.TheVariants as values
use Rattle.src_values.specs.declared.objects.CopyOf.{CopyOf}
use Rattle.src_values.specs.declared.objects.Object as object
use Rattle.src_values.specs.declared.objects.Object.TheVariants as objects
use Rattle.src_values.specs.declared.objects.Pointer.{Pointer}
use Rattle.src_values.specs.declared.objects.Pointer.TheVariants.{Null, Into}
use Rattle.src_values.specs.declared.objects.Spot as spot
use Rattle.src_values.specs.declared.objects.Spot.TheVariants as spots
use Rattle.lower_trace.specs.Lowering.{object_as, offset_as}
use Rattle.lower_trace.proofs.CodeLeft.{Scene, held, number, ground_in, plain, plain_behind, wanted, base, above, stored, stored_at, is_seen, skim_count, code_at, stack_at, copy_at}

-- ---- objects
abbrev pub core_byte : Scene → object.Object → ℕ → Byte
core_byte z object at = byte_in (object_as z.copies object) (offset_as z.program object + at)

-- unset agrees with anything
abbrev pub Agree : Scene → value.Byte → Held → Type 0
Agree z values.Unset h = Unit {0}
Agree z (values.Number n) h = h ≡ held z (values.Number n)
Agree z (values.Part object offset high) h = h ≡ held z (values.Part object offset high)

abbrev pub Agrees : Scene → List CopyOf → source.Memory → Memory → Type 0
Agrees z live l m = (object : object.Object) (at : ℕ) → IsThere z.program object → is_alive live object ≡ true → at < object_bytes z.program object → Agree z (l object at) (m (core_byte z object at))

-- ---- values in temporary bytes
abbrev pub HasDatum : Scene → ℕ → ℕ → Datum → Memory → Type 0
HasDatum z n b v m = (i : ℕ) → i < byte_count v → m (Frame n (b + i)) ≡ held z (byte_of v i)

abbrev pub at_byte : Scene → spot.Spot → Option Byte
at_byte z (spots.Memory (Into object offset)) = Some (core_byte z object offset)
at_byte z (spots.Memory Null) = None
at_byte z (spots.Device address) = Some (Device address)
at_byte z (spots.Bit register bit) = None

-- A place was found there: it is fixed, or a bit, or its address stands at b.
abbrev pub IsAt : Scene → ℕ → ℕ → place.Spot → spot.Spot → Memory → Type 0
IsAt z n b (Fixed byte) at m = at_byte z at ≡ Some byte
IsAt z n b (Bit register bit) at m = at ≡ spots.Bit register bit
IsAt z n b Computed at m = (x : Pointer) × (at ≡ spots.Memory x) × HasDatum z n b (datum.Pointer x) m

abbrev pub HasArguments : Scene → Layout → ℕ → ℕ → ℕ → Expressions → List Datum → Memory → Type 0
HasArguments z l n b before es [] m = Unit {0}
HasArguments z l n b before tree.NoExpression (v ∷ vs) m = ⊥
HasArguments z l n b before (tree.AndExpression e es) (v ∷ vs) m = HasDatum z n (beyond b before) v m × HasArguments z l n b (beyond before (value_width l e)) es vs m

-- The count of a shift that is a constant has its bits. While it is under way byte code waits.
abbrev pub HasBits : Expression → Datum → Type 0
HasBits count (datum.Number q) = pattern q.ty q.number ≡ constant_bits count
HasBits count v = Unit {0}

-- what an expression that waits has, its value being due at b, where it is wanted or not
abbrev pub Waits : Scene → Ground → ℕ → Bool → Expression → Got → Memory → Type 0
Waits z g b w (tree.Binary op left right ty line) (One u) m = HasDatum z g.copy b u m × (shifts_by_constant op right ≡ false)
Waits z g b w (tree.Offset op left right size ty line) (One u) m = HasDatum z g.copy b u m
Waits z g b w (tree.Difference left right size line) (One u) m = HasDatum z g.copy b u m
Waits z g b w (tree.Read place ty line) (At at) m = IsAt z g.copy b (spot_of g.layout g.copy place) at m
Waits z g b w (tree.Assign place value ty line) (At at) m = IsAt z g.copy b (spot_of g.layout g.copy place) at m
Waits z g b w (tree.Assign place value ty line) (Stores at v) m = IsAt z g.copy b (spot_of g.layout g.copy place) at m
Waits z g b w (tree.StructAssign place from size line) (At at) m = IsAt z g.copy b (spot_of g.layout g.copy place) at m
Waits z g b w (tree.Update op place value operation size ty line) (At at) m = IsAt z g.copy b (spot_of g.layout g.copy place) at m × (shifts_by_constant op value ≡ false)
Waits z g b w (tree.Update op place value operation size ty line) (AtWith at u) m =
    IsAt z g.copy b (spot_of g.layout g.copy place) at m × (shifts_by_constant op value ≡ false → HasDatum z g.copy (behind_pointer g.layout g.copy b place) u m) × (shifts_by_constant op value ≡ true → HasBits value u)
Waits z g b w (tree.Update op place value operation size ty line) (Stores at v) m = IsAt z g.copy b (spot_of g.layout g.copy place) at m
Waits z g b w (tree.Step op place operation size ty line) (At at) m =
    IsAt z g.copy b (spot_of g.layout g.copy place) at m
    × HasDatum z g.copy (behind_pointer g.layout g.copy b place) (datum.Number (cut_to (operation_type operation) (pos (step_number operation size)))) m
Waits z g b w (tree.Step op place operation size ty line) (Stores at v) m =
    IsAt z g.copy b (spot_of g.layout g.copy place) at m
    × ((w && keeps_old op) ≡ true → HasDatum z g.copy (beyond (stored g b (tree.Step op place operation size ty line)) (width g.layout operation)) v m)
Waits z g b w (tree.Call function arguments ty line) (Args before more) m = HasArguments z g.layout g.copy b 0 arguments before m
Waits z g b w (tree.Call function arguments ty line) (Passed values) m = HasArguments z g.layout g.copy b 0 arguments values m
Waits z g b w _ _ m = Unit {0}

-- how many of the bytes that were read stand in their places: a byte whose read may be an event is written by the next step
abbrev pub in_place : place.Spot → spot.Spot → ℕ → ℕ
in_place (Fixed from) at k = if is_private from then k else k - 1
in_place (Bit register bit) at k = 0
in_place Computed (spots.Memory (Into (objects.Fixed n) offset)) k = k - 1
in_place Computed at k = k

abbrev pub HasRead : Scene → ℕ → ℕ → List value.Byte → ℕ → Memory → Type 0
HasRead z n b read k m = (i : ℕ) → i < k → m (Frame n (b + i)) ≡ held z (slice_index_or read i values.Unset)

abbrev pub HasReadIn : Scene → Ground → ℕ → Expression → Got → spot.Spot → List value.Byte → Memory → Type 0
HasReadIn z g b (tree.Read place ty line) got at read m = HasRead z g.copy (above g b (tree.Read place ty line) got) read (in_place (spot_of g.layout g.copy place) at (length read)) m
HasReadIn z g b (tree.Update op place value operation size ty line) got at read m =
    HasRead z g.copy (above g b (tree.Update op place value operation size ty line) got) read (in_place (spot_of g.layout g.copy place) at (length read)) m
HasReadIn z g b (tree.Step op place operation size ty line) got at read m =
    HasRead z g.copy (above g b (tree.Step op place operation size ty line) got) read (in_place (spot_of g.layout g.copy place) at (length read)) m
HasReadIn z g b _ got at read m = Unit {0}

abbrev pub HasReadAt : Scene → Ground → List Pending → spot.Spot → List value.Byte → Memory → Type 0
HasReadAt z g (In e got ∷ k) at read m = HasReadIn z g (base g k) e got at read m
HasReadAt z g k at read m = Unit {0}

abbrev pub last_of : List value.Byte → Option value.Byte
last_of [] = None
last_of (byte ∷ []) = Some byte
last_of (byte ∷ next ∷ more) = last_of (next ∷ more)

-- bytes were read to be dropped, this one last, and so many are left
abbrev pub HasSkimmed : Scene → Ground → List Pending → spot.Spot → ℕ → Option value.Byte → Memory → Type 0
HasSkimmed z g k at left byte m = (read : List value.Byte) × (length read + left ≡ skim_count g k) × (last_of read ≡ byte) × HasReadAt z g k at read m

-- the value that the focus speaks of
abbrev pub HasIf : Bool → Scene → ℕ → ℕ → Datum → Memory → Type 0
HasIf true z n b v m = HasDatum z n b v m
HasIf false z n b v m = Unit {0}

-- what stands there of a value that is written: once the byte of a bit is done, the bit alone
abbrev pub standing : spot.Spot → ℕ → Datum → Datum
standing (spots.Bit register bit) zero v = v
standing (spots.Bit register bit) (suc done) v = number_of IntTy.UChar (lowest_bit v)
standing _ done v = v

-- a pointer that goes on leads somewhere
abbrev pub MayGo : ℕ → Pointer → Type 0
MayGo zero x = Unit {0}
MayGo (suc lag) Null = ⊥
MayGo (suc lag) (Into object offset) = Unit {0}

-- A side of a structure that is copied, of which so many bytes are done. A pointer goes on only with the next byte, so it may lag.
abbrev pub Trails : Scene → ℕ → ℕ → place.Spot → spot.Spot → ℕ → ℕ → Memory → Type 0
Trails z n b (Fixed byte) at done lag m = at_byte z at ≡ Some (behind byte done)
Trails z n b (Bit register bit) at done lag m = ⊥
Trails z n b Computed at done lag m = (x : Pointer) × (at ≡ stepped lag (spots.Memory x)) × HasDatum z n b (datum.Pointer x) m × MayGo lag x

-- the number 1 stands in the results, by which pointers go on
abbrev pub HasOne : Bool → Root → Memory → Type 0
HasOne true root m = (m (Result root 0) ≡ Number 1) × (m (Result root 1) ≡ Number 0)
HasOne false root m = Unit {0}

-- both sides, the pointers to them standing from b on
abbrev pub Trail : Scene → Root → ℕ → ℕ → place.Spot → place.Spot → spot.Spot → spot.Spot → ℕ → ℕ → Bool → Memory → Type 0
Trail z root n b (Fixed byte) (Fixed from_byte) to from done lag one m = (at_byte z to ≡ Some (behind byte done)) × (at_byte z from ≡ Some (behind from_byte done))
Trail z root n b p q to from done lag one m = Trails z n b p to done lag m × Trails z n (beyond b (pointer_bytes p)) q from done lag m × HasOne one root m

-- the byte that was read stands on its way
abbrev pub Carries : Scene → ℕ → ℕ → place.Spot → place.Spot → spot.Spot → value.Byte → Memory → Type 0
Carries z n b (Fixed byte) (Fixed from_byte) from read m = Unit {0}
Carries z n b p q from read m = is_seen q from ≡ false → m (Frame n (beyond (beyond b (pointer_bytes p)) (pointer_bytes q))) ≡ held z read

-- something was read there
abbrev pub LeadsTo : spot.Spot → Type 0
LeadsTo (spots.Memory Null) = ⊥
LeadsTo _ = Unit {0}

abbrev pub lag_of : ℕ → ℕ
lag_of zero = 0
lag_of (suc done) = 1

abbrev pub is_begun : ℕ → Bool
is_begun zero = false
is_begun (suc done) = true

abbrev pub HasCopied : Scene → Root → ℕ → ℕ → place.Spot → place.Spot → spot.Spot → spot.Spot → ℕ → Memory → Type 0
HasCopied z root n b p q to from done m = Trail z root n b p q to from done (lag_of done) (is_begun done) m

abbrev pub HasCarried : Scene → Root → ℕ → ℕ → place.Spot → place.Spot → spot.Spot → spot.Spot → value.Byte → ℕ → Memory → Type 0
HasCarried z root n b p q to from byte done m = Trail z root n b p q to from done 0 true m × Carries z n b p q from byte m × (is_unset byte ≡ false) × LeadsTo from

abbrev pub HasCopiedAt : Scene → Ground → List Pending → spot.Spot → spot.Spot → ℕ → Memory → Type 0
HasCopiedAt z g (In (tree.StructAssign place other size line) got ∷ k) to from left m = HasCopied z g.layout.root g.copy (base g k) (spot_of g.layout g.copy place) (spot_of g.layout g.copy other) to from (size - left) m
HasCopiedAt z g (Doing (tree.InitList local all line) (Items (tree.Struct offset other size) rest) ∷ k) to from left m =
    HasCopied z g.layout.root g.copy g.base (Fixed (behind (local_byte g local) offset)) (spot_of g.layout g.copy other) to from (size - left) m
HasCopiedAt z g k to from left m = Unit {0}

abbrev pub HasCarriedAt : Scene → Ground → List Pending → spot.Spot → spot.Spot → value.Byte → ℕ → Memory → Type 0
HasCarriedAt z g (In (tree.StructAssign place other size line) got ∷ k) to from byte left m =
    HasCarried z g.layout.root g.copy (base g k) (spot_of g.layout g.copy place) (spot_of g.layout g.copy other) to from byte (size - suc left) m
HasCarriedAt z g (Doing (tree.InitList local all line) (Items (tree.Struct offset other size) rest) ∷ k) to from byte left m =
    HasCarried z g.layout.root g.copy g.base (Fixed (behind (local_byte g local) offset)) (spot_of g.layout g.copy other) to from byte (size - suc left) m
HasCarriedAt z g k to from byte left m = Unit {0}

abbrev pub HasValue : Scene → Ground → Focus → List Pending → Memory → Type 0
HasValue z g (Value v) k m = HasIf (wanted k) z g.copy (base g k) v m
HasValue z g (Found at) k m = (place : Place) → WaitsForPlace k place → IsAt z g.copy (base g k) (spot_of g.layout g.copy place) at m
HasValue z g (Fetch at read) k m = HasReadAt z g k at read m
HasValue z g (Skim at left byte) k m = HasSkimmed z g k at left byte m
HasValue z g (Write at v done) k m = HasDatum z g.copy (stored_at g k) (standing at done v) m
HasValue z g (PutBit register bit v old) k m = HasDatum z g.copy (stored_at g k) (number_of IntTy.UChar (lowest_bit v)) m
HasValue z g (CopyRead to from left) k m = HasCopiedAt z g k to from left m
HasValue z g (CopyWrite to from byte left) k m = HasCarriedAt z g k to from byte left m
HasValue z g (Leaves v) k m = (i : ℕ) → i < byte_count v → m (Result g.layout.root i) ≡ held z (byte_of v i)
HasValue z g (Compares v labels) k m = (0 < byte_count v) × HasDatum z g.copy g.base v m
HasValue z g _ k m = Unit {0}

-- ---- all that waits
abbrev pub Holds : Scene → Ground → List Pending → Memory → Type 0
Holds z g [] m = Unit {0}
Holds z g (In e got ∷ k) m = Waits z g (base g k) (wanted k) e got m × Holds z g k m
Holds z g (To place ∷ k) m = Holds z g k m
Holds z g (Doing t stage ∷ k) m = Holds z g k m
Holds z g (Before ss ∷ k) m = Holds z g k m
Holds z g (Returns d ∷ k) m = Holds z (ground_in z d) k m
Holds z g (Resumes d x ∷ k) m = HasValue z (ground_in z d) x k m × Holds z (ground_in z d) k m

-- ---- the whole
pub record Mirrors (z : Scene) (t : State) (c : Machine) : Type 0 where
  pub copy : c.copy ≡ number z (copy_at t.copy t.focus t.stack)
  pub passing : c.passing ≡ None
  pub code : plain c.code ≡ code_at z (ground_in z t.copy) t.focus t.stack
  pub stack : plain_behind c.stack ≡ stack_at z (ground_in z t.copy) t.focus t.stack
  pub agrees : Agrees z (active t.copy t.focus t.stack) t.memory c.memory
  pub holds : Holds z (ground_in z t.copy) t.stack c.memory
  pub value : HasValue z (ground_in z t.copy) t.focus t.stack c.memory
  pub world : arrived z.outside c.world ≡ world_as (held z) (arrived z.outside t.world)
