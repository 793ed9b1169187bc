-- What writes to temporary bytes keep.
use Rattle.std.proofs.Common.{◌≡◌, ℕ, suc, ◌+◌, ◌-◌, ◌<◌, ◌≤◌, Bool, true, false, ◌&&◌, nat_eq, List, [], ◌∷◌, ◌++◌, length, Some, pos, refl, sym, ◌∙◌, subst, arith}
use Rattle.std.proofs.lemmas.Grind.{common_steps}
use Rattle.c_ints.specs.Operators.{cut_to}
use Rattle.c_ints.specs.Range.{bytes_of}
use Rattle.c_ints.specs.declared.types.IntTy.{IntTy}
use Rattle.c_ints.specs.declared.types.IntTy.TheVariants as int
use Rattle.c_typed.specs.Trees as tree
use Rattle.c_typed.specs.Trees.{Expression, Expressions, Place, Item, Statement}
use Rattle.core_code.specs.Bytes.{Memory, same_byte}
use Rattle.core_code.specs.Cost.{is_kept}
use Rattle.core_code.specs.Machine.{static_bytes, object_bytes as core_bytes}
use Rattle.core_code.specs.declared.code.Byte.TheVariants.{Frame, Result}
use Rattle.core_puts.specs.Bytes.{behind, beyond, operation_type}
use Rattle.lower_expr.specs.Rows.{step_number}
use Rattle.lower_expr.specs.Layout.{object_byte, width, value_width}
use Rattle.lower_expr.specs.Lowering.{behind_pointer}
use Rattle.lower_expr.specs.Spots.{spot_of, pointer_bytes}
use Rattle.lower_expr.specs.declared.places.Spot as place
use Rattle.lower_expr.specs.declared.places.Spot.TheVariants.{Fixed, Bit, Computed}
use Rattle.lower_stmt.specs.Ground.{Ground, local_byte}
use Rattle.c_typed.specs.declared.expression.Object.{Object as Name}
use Rattle.c_typed.specs.declared.types.Qualified.{Qualified}
use Rattle.src_rules.specs.Parts.{IsPlaceOf}
use Rattle.src_rules.specs.Standing.{IsReached, IsThere, WaitsForEnd}
use Rattle.src_rules.specs.Step.{copy_of}
use Rattle.core_code.specs.Tree as code
use Rattle.lower_stmt.specs.Jumps.{outside}
use Rattle.lower_stmt.specs.Statements.{stmts_code}
use Rattle.src_values.specs.Control.{Focus, Eval, Find, Holds as Value, Found, Run, Past, Fetch, Skim, Write, PutBit, CopyRead, CopyWrite, Spell, Blank, Calls, Leaves, Compares, Over, Got, One, At, AtWith, Stores, Args, Passed, Stage, Items, Pending, In, To, Doing, Before, Returns, Resumes}
use Rattle.src_values.specs.Data as datum
use Rattle.src_values.specs.Data.{Datum}
use Rattle.src_values.specs.Objects as objects_of
use Rattle.src_values.specs.Objects.{object_bytes, is_alive, is_watched, same_object, variables_of, function_at, handler_in, variable_offset}
use Rattle.src_values.specs.Values.{byte_count, number_of, lowest_bit}
use Rattle.src_values.specs.declared.objects.Byte as value
use Rattle.src_values.specs.declared.objects.CopyOf.{CopyOf}
use Rattle.src_values.specs.declared.objects.Object as object
use Rattle.src_values.specs.declared.objects.Object.TheVariants as objects
use Rattle.src_values.specs.declared.objects.Spot as spot
use Rattle.pic_world.specs.declared.Root.{Root}
use Rattle.pic_world.specs.declared.Root.TheVariants.{Main, Isr}
use Rattle.lower_trace.specs.Lowering.{object_as, offset_as}
use Rattle.lower_trace.proofs.CodeLeft.{Scene, number, ground_in, core_in, wanted, base, above, stored, stored_at}
use Rattle.lower_trace.proofs.Mirrors.{standing, core_byte, HasDatum, at_byte, IsAt, HasArguments, Waits, HasReadIn, HasReadAt, HasIf, Trails, HasOne, Trail, Carries, HasCopiedAt, HasCarriedAt, lag_of, is_begun, HasValue, Holds}

-- ---- what is known of a program and its copies
pub record SceneLaws (z : Scene) : Type 0 where
  -- each copy has a number of its own
  pub apart : (c d : CopyOf) → IsReached z.program c → IsReached z.program d → number z c ≡ number z d → c ≡ d
  -- variables stand below the temporary bytes
  pub below : (c : CopyOf) (i at : ℕ) → IsReached z.program c → i < length (variables_of (function_at z.program c.function)) → at < object_bytes z.program (objects.Variable c i)
      → variable_offset z.program c.function i + at < (ground_in z c).base
  -- and each byte of an object is one that the source has
  pub kept : (object : object.Object) (at : ℕ) → IsThere z.program object → at < object_bytes z.program object → is_kept (core_in z).program.variable_bytes (core_byte z object at) ≡ true
  -- two bytes of objects are one byte in byte code where they are one byte in the source
  pub spots : (a : object.Object) (i : ℕ) (b : object.Object) (j : ℕ) → IsThere z.program a → i < object_bytes z.program a → IsThere z.program b → j < object_bytes z.program b
      → same_byte (core_byte z a i) (core_byte z b j) ≡ (same_object a b && nat_eq i j)
  -- a static object has as many bytes in byte code, and its accesses are events there where they are events here
  pub statics : (n : ℕ) → n < length z.program.statics → static_bytes (core_in z).program n ≡ object_bytes z.program (objects.Fixed n)
  pub watched : (n : ℕ) → n < length z.program.statics → (core_in z).program.is_watched n ≡ is_watched z.program (objects.Fixed n)
  -- what a name stands for lies in byte code where it lies in the source
  pub names : (c : CopyOf) (object : Name) (ty : Qualified) (line : ℕ) → IsReached z.program c → IsPlaceOf z.program c.function (tree.Name object ty line)
      → at_byte z (objects_of.spot_of z.program c object) ≡ Some (object_byte (ground_in z c).layout (number z c) object)
  -- the code of a copy, its root, and the handler's copy
  pub bodies : (c : CopyOf) → IsReached z.program c → (core_in z).program.body (number z c) ≡ stmts_code (ground_in z c) outside (function_at z.program c.function).body ++ code.Leave ∷ []
  pub roots : (c : CopyOf) → IsReached z.program c → (core_in z).program.root (number z c) ≡ c.root
  pub handles : (h : ℕ) → handler_in z.program ≡ Some h → IsReached z.program (copy_of Isr h) × ((core_in z).program.handler ≡ Some (number z (copy_of Isr h)))
  -- an object lies within the one that it is a part of in byte code, and offsets there have 16 bits
  pub fits : (object : object.Object) → IsThere z.program object → offset_as z.program object + object_bytes z.program object ≤ core_bytes (core_in z).program (object_as z.copies object)
  pub reach : (object : object.Object) → IsThere z.program object → core_bytes (core_in z).program (object_as z.copies object) ≤ 65535
  -- frames are small
  pub small : (n : ℕ) → (core_in z).program.frame_bytes n ≤ 96

pub own_copy : (z : Scene) (c : CopyOf) → (ground_in z c).copy ≡ number z c
unfolding ground_in
own_copy z c = refl

pub own_root : (z : Scene) (c : CopyOf) → (ground_in z c).layout.root ≡ c.root
unfolding ground_in
own_root z c = refl

-- The handler interrupts main's root alone.
abbrev pub MainsWait : List Pending → Type 0
MainsWait [] = Unit {0}
MainsWait (In e got ∷ k) = MainsWait k
MainsWait (To place ∷ k) = MainsWait k
MainsWait (Doing t stage ∷ k) = MainsWait k
MainsWait (Before ss ∷ k) = MainsWait k
MainsWait (Returns d ∷ k) = MainsWait k
MainsWait (Resumes d x ∷ k) = (d.root ≡ Main) × MainsWait k

-- ---- where data that wait end
abbrev pub ArgumentsBelow : Ground → ℕ → ℕ → Expressions → List Datum → ℕ → Type 0
ArgumentsBelow g b before es [] top = Unit {0}
ArgumentsBelow g b before tree.NoExpression (v ∷ vs) top = Unit {0}
ArgumentsBelow g b before (tree.AndExpression e es) (v ∷ vs) top = (beyond b before + byte_count v ≤ top) × ArgumentsBelow g b (beyond before (value_width g.layout e)) es vs top

-- they lie below the next part's value
abbrev pub Below : Ground → ℕ → Expression → Got → Type 0
Below g b (tree.Binary op left right ty line) (One u) = b + byte_count u ≤ above g b (tree.Binary op left right ty line) (One u)
Below g b (tree.Offset op left right size ty line) (One u) = b + byte_count u ≤ above g b (tree.Offset op left right size ty line) (One u)
Below g b (tree.Difference left right size line) (One u) = b + byte_count u ≤ above g b (tree.Difference left right size line) (One u)
Below g b (tree.Read place ty line) (At at) = b + pointer_bytes (spot_of g.layout g.copy place) ≤ above g b (tree.Read place ty line) (At at)
Below g b (tree.Assign place value ty line) (At at) = b + pointer_bytes (spot_of g.layout g.copy place) ≤ above g b (tree.Assign place value ty line) (At at)
Below g b (tree.Assign place value ty line) (Stores at v) = b + pointer_bytes (spot_of g.layout g.copy place) ≤ above g b (tree.Assign place value ty line) (Stores at v)
Below g b (tree.StructAssign place from size line) (At at) = b + pointer_bytes (spot_of g.layout g.copy place) ≤ above g b (tree.StructAssign place from size line) (At at)
Below g b (tree.Update op place value operation size ty line) (At at) = b + pointer_bytes (spot_of g.layout g.copy place) ≤ above g b (tree.Update op place value operation size ty line) (At at)
Below g b (tree.Update op place value operation size ty line) (AtWith at u) =
    (b + pointer_bytes (spot_of g.layout g.copy place) ≤ above g b (tree.Update op place value operation size ty line) (AtWith at u))
    × (behind_pointer g.layout g.copy b place + byte_count u ≤ above g b (tree.Update op place value operation size ty line) (AtWith at u))
Below g b (tree.Update op place value operation size ty line) (Stores at v) = b + pointer_bytes (spot_of g.layout g.copy place) ≤ above g b (tree.Update op place value operation size ty line) (Stores at v)
Below g b (tree.Step op place operation size ty line) (At at) =
    (b + pointer_bytes (spot_of g.layout g.copy place) ≤ above g b (tree.Step op place operation size ty line) (At at))
    × (behind_pointer g.layout g.copy b place + bytes_of (operation_type operation) ≤ above g b (tree.Step op place operation size ty line) (At at))
Below g b (tree.Step op place operation size ty line) (Stores at v) =
    (b + pointer_bytes (spot_of g.layout g.copy place) ≤ above g b (tree.Step op place operation size ty line) (Stores at v))
    × (beyond (stored g b (tree.Step op place operation size ty line)) (width g.layout operation) + byte_count v ≤ above g b (tree.Step op place operation size ty line) (Stores at v))
Below g b (tree.Call function arguments ty line) (Args before more) = ArgumentsBelow g b 0 arguments before (above g b (tree.Call function arguments ty line) (Args before more))
Below g b (tree.Call function arguments ty line) (Passed values) = ArgumentsBelow g b 0 arguments values (above g b (tree.Call function arguments ty line) (Passed values))
Below g b _ _ = Unit {0}

-- Only frames of other copies are below.
abbrev pub Apart : Scene → ℕ → List Pending → Type 0
Apart z n [] = Unit {0}
Apart z n (In e got ∷ k) = Apart z n k
Apart z n (To place ∷ k) = Apart z n k
Apart z n (Doing t stage ∷ k) = Apart z n k
Apart z n (Before ss ∷ k) = Apart z n k
Apart z n (Returns d ∷ k) = (number z d ≡ n → ⊥) × Apart z n k
Apart z n (Resumes d x ∷ k) = (number z d ≡ n → ⊥) × Apart z n k

-- The frames of a copy, down to where it was called: data that wait lie one above the other.
abbrev pub Piled : Ground → List Pending → Type 0
Piled g [] = Unit {0}
Piled g (In e got ∷ k) = Below g (base g k) e got × (base g k ≤ above g (base g k) e got) × Piled g k
Piled g (To place ∷ k) = Piled g k
Piled g (Doing t stage ∷ k) = WaitsForEnd k × Piled g k
Piled g (Before ss ∷ k) = WaitsForEnd k × Piled g k
Piled g (Returns d ∷ k) = Unit {0}
Piled g (Resumes d x ∷ k) = Unit {0}

-- ---- data
pub datum_same : (z : Scene) (n b : ℕ) (v : Datum) (m m' : Memory) → ((y : ℕ) → b ≤ y → y < b + byte_count v → m' (Frame n y) ≡ m (Frame n y)) → HasDatum z n b v m → HasDatum z n b v m'
datum_same z n b v m m' s h i lt = s (b + i) (omega arith) (omega arith) ∙ h i lt

pub at_same : (z : Scene) (n b : ℕ) (p : place.Spot) (at : spot.Spot) (m m' : Memory) → ((y : ℕ) → b ≤ y → y < b + pointer_bytes p → m' (Frame n y) ≡ m (Frame n y)) → IsAt z n b p at m → IsAt z n b p at m'
at_same z n b (Fixed byte) at m m' s h = h
at_same z n b (Bit register bit) at m m' s h = h
at_same z n b Computed at m m' s h = (h.0, h.1, datum_same z n b (datum.Pointer h.0) m m' s h.2)

arguments_same : (z : Scene) (g : Ground) (b before : ℕ) (es : Expressions) (vs : List Datum) (top : ℕ) (m m' : Memory) → ((y : ℕ) → y < top → m' (Frame g.copy y) ≡ m (Frame g.copy y)) → ArgumentsBelow g b before es vs top → HasArguments z g.layout g.copy b before es vs m → HasArguments z g.layout g.copy b before es vs m'
arguments_same z g b before es [] top m m' s k h = tt
arguments_same z g b before tree.NoExpression (v ∷ vs) top m m' s k h = h
arguments_same z g b before (tree.AndExpression e es) (v ∷ vs) top m m' s k h =
    (datum_same z g.copy (beyond b before) v m m' (λ y le lt. s y (let q = k.0 in omega arith)) h.0, arguments_same z g b (beyond before (value_width g.layout e)) es vs top m m' s k.1 h.1)

pub bytes_small : (ty : IntTy) → bytes_of ty ≤ 4
bytes_small int.Char = omega arith
bytes_small int.SChar = omega arith
bytes_small int.UChar = omega arith
bytes_small int.Short = omega arith
bytes_small int.UShort = omega arith
bytes_small int.Int = omega arith
bytes_small int.UInt = omega arith
bytes_small int.Long = omega arith
bytes_small int.ULong = omega arith

arguments_far : (z : Scene) (g : Ground) (b before : ℕ) (es : Expressions) (vs : List Datum) (m m' : Memory) → ((y : ℕ) → m' (Frame g.copy y) ≡ m (Frame g.copy y)) → HasArguments z g.layout g.copy b before es vs m → HasArguments z g.layout g.copy b before es vs m'
arguments_far z g b before es [] m m' s h = tt
arguments_far z g b before tree.NoExpression (v ∷ vs) m m' s h = h
arguments_far z g b before (tree.AndExpression e es) (v ∷ vs) m m' s h =
    (datum_same z g.copy (beyond b before) v m m' (λ y le lt. s y) h.0, arguments_far z g b (beyond before (value_width g.layout e)) es vs m m' s h.1)

pub if_far : (z : Scene) (n b : ℕ) (want : Bool) (v : Datum) (m m' : Memory) → ((y : ℕ) → m' (Frame n y) ≡ m (Frame n y)) → HasIf want z n b v m → HasIf want z n b v m'
if_far z n b true v m m' s h = datum_same z n b v m m' (λ y le lt. s y) h
if_far z n b false v m m' s h = tt

read_in_far : (z : Scene) (g : Ground) (b : ℕ) (e : Expression) (got : Got) (at : spot.Spot) (read : List value.Byte) (m m' : Memory) → ((y : ℕ) → m' (Frame g.copy y) ≡ m (Frame g.copy y)) → HasReadIn z g b e got at read m → HasReadIn z g b e got at read m'
read_in_far z g b (tree.Read place ty line) got at read m m' s h = λ i lt. s (above g b (tree.Read place ty line) got + i) ∙ h i lt
read_in_far z g b (tree.Update op place value operation size ty line) got at read m m' s h = λ i lt. s (above g b (tree.Update op place value operation size ty line) got + i) ∙ h i lt
read_in_far z g b (tree.Step op place operation size ty line) got at read m m' s h = λ i lt. s (above g b (tree.Step op place operation size ty line) got + i) ∙ h i lt
read_in_far z g b _ got at read m m' s h = tt

pub read_far : (z : Scene) (g : Ground) (k : List Pending) (at : spot.Spot) (read : List value.Byte) (m m' : Memory) → ((y : ℕ) → m' (Frame g.copy y) ≡ m (Frame g.copy y)) → HasReadAt z g k at read m → HasReadAt z g k at read m'
read_far z g [] at read m m' s h = tt
read_far z g (In e got ∷ k) at read m m' s h = read_in_far z g (base g k) e got at read m m' s h
read_far z g (To place ∷ k) at read m m' s h = tt
read_far z g (Doing t stage ∷ k) at read m m' s h = tt
read_far z g (Before ss ∷ k) at read m m' s h = tt
read_far z g (Returns d ∷ k) at read m m' s h = tt
read_far z g (Resumes d x ∷ k) at read m m' s h = tt

-- what waits in a frame is the same, if the bytes below the next part's value are
pub waits_same : (z : Scene) (g : Ground) (b : ℕ) (w : Bool) (e : Expression) (got : Got) (m m' : Memory) → ((y : ℕ) → y < above g b e got → m' (Frame g.copy y) ≡ m (Frame g.copy y)) → Below g b e got → Waits z g b w e got m → Waits z g b w e got m'
waits_same z g b w (tree.Binary op left right ty line) (One u) m m' s k h = (datum_same z g.copy b u m m' (λ y le lt. s y (omega arith)) h.0, h.1)
waits_same z g b w (tree.Offset op left right size ty line) (One u) m m' s k h = datum_same z g.copy b u m m' (λ y le lt. s y (omega arith)) h
waits_same z g b w (tree.Difference left right size line) (One u) m m' s k h = datum_same z g.copy b u m m' (λ y le lt. s y (omega arith)) h
waits_same z g b w (tree.Read place ty line) (At at) m m' s k h = at_same z g.copy b (spot_of g.layout g.copy place) at m m' (λ y le lt. s y (omega arith)) h
waits_same z g b w (tree.Assign place value ty line) (At at) m m' s k h = at_same z g.copy b (spot_of g.layout g.copy place) at m m' (λ y le lt. s y (omega arith)) h
waits_same z g b w (tree.Assign place value ty line) (Stores at v) m m' s k h = at_same z g.copy b (spot_of g.layout g.copy place) at m m' (λ y le lt. s y (omega arith)) h
waits_same z g b w (tree.StructAssign place from size line) (At at) m m' s k h = at_same z g.copy b (spot_of g.layout g.copy place) at m m' (λ y le lt. s y (omega arith)) h
waits_same z g b w (tree.Update op place value operation size ty line) (At at) m m' s k h = (at_same z g.copy b (spot_of g.layout g.copy place) at m m' (λ y le lt. s y (omega arith)) h.0, h.1)
waits_same z g b w (tree.Update op place value operation size ty line) (AtWith at u) m m' s k h =
    let k0 = k.0 in
    let k1 = k.1 in
    (at_same z g.copy b (spot_of g.layout g.copy place) at m m' (λ y le lt. s y (omega arith)) h.0, λ e. datum_same z g.copy (behind_pointer g.layout g.copy b place) u m m' (λ y le lt. s y (omega arith)) (h.1 e), h.2)
waits_same z g b w (tree.Update op place value operation size ty line) (Stores at v) m m' s k h = at_same z g.copy b (spot_of g.layout g.copy place) at m m' (λ y le lt. s y (omega arith)) h
waits_same z g b w (tree.Call function arguments ty line) (Args before more) m m' s k h = arguments_same z g b 0 arguments before (above g b (tree.Call function arguments ty line) (Args before more)) m m' s k h
waits_same z g b w (tree.Call function arguments ty line) (Passed values) m m' s k h = arguments_same z g b 0 arguments values (above g b (tree.Call function arguments ty line) (Passed values)) m m' s k h
waits_same z g b w (tree.Step op place operation size ty line) (At at) m m' s k h =
    let k0 = k.0 in
    let k1 = k.1 in (
      at_same z g.copy b (spot_of g.layout g.copy place) at m m' (λ y le lt. s y (omega arith)) h.0,
      datum_same z g.copy (behind_pointer g.layout g.copy b place) (datum.Number (cut_to (operation_type operation) (pos (step_number operation size)))) m m' (λ y le lt. s y (omega arith)) h.1,
    )
waits_same z g b w (tree.Step op place operation size ty line) (Stores at v) m m' s k h =
    let k0 = k.0 in
    let k1 = k.1 in (
      at_same z g.copy b (spot_of g.layout g.copy place) at m m' (λ y le lt. s y (omega arith)) h.0,
      λ keeps. datum_same z g.copy (beyond (stored g b (tree.Step op place operation size ty line)) (width g.layout operation)) v m m' (λ y le lt. s y (omega arith)) (h.1 keeps),
    )
waits_same z g b w _ _ m m' s k h = tt

-- ---- stacks
pub base_end : (g : Ground) (k : List Pending) → WaitsForEnd k → base g k ≡ g.base
base_end g [] h = refl
base_end g (In e got ∷ k) h = absurd h
base_end g (To place ∷ k) h = absurd h
base_end g (Doing t stage ∷ k) h = refl
base_end g (Before ss ∷ k) h = refl
base_end g (Returns d ∷ k) h = refl
base_end g (Resumes d x ∷ k) h = refl

-- All bytes of the frame of a copy are the same.
abbrev pub SameFrame : ℕ → Memory → Memory → Type 0
SameFrame n m m' = (y : ℕ) → m' (Frame n y) ≡ m (Frame n y)

pub waits_far : (z : Scene) (g : Ground) (b : ℕ) (w : Bool) (e : Expression) (got : Got) (m m' : Memory) → SameFrame g.copy m m' → Waits z g b w e got m → Waits z g b w e got m'
waits_far z g b w (tree.Binary op left right ty line) (One u) m m' s h = (datum_same z g.copy b u m m' (λ y le lt. s y) h.0, h.1)
waits_far z g b w (tree.Offset op left right size ty line) (One u) m m' s h = datum_same z g.copy b u m m' (λ y le lt. s y) h
waits_far z g b w (tree.Difference left right size line) (One u) m m' s h = datum_same z g.copy b u m m' (λ y le lt. s y) h
waits_far z g b w (tree.Read place ty line) (At at) m m' s h = at_same z g.copy b (spot_of g.layout g.copy place) at m m' (λ y le lt. s y) h
waits_far z g b w (tree.Assign place value ty line) (At at) m m' s h = at_same z g.copy b (spot_of g.layout g.copy place) at m m' (λ y le lt. s y) h
waits_far z g b w (tree.Assign place value ty line) (Stores at v) m m' s h = at_same z g.copy b (spot_of g.layout g.copy place) at m m' (λ y le lt. s y) h
waits_far z g b w (tree.StructAssign place from size line) (At at) m m' s h = at_same z g.copy b (spot_of g.layout g.copy place) at m m' (λ y le lt. s y) h
waits_far z g b w (tree.Update op place value operation size ty line) (At at) m m' s h = (at_same z g.copy b (spot_of g.layout g.copy place) at m m' (λ y le lt. s y) h.0, h.1)
waits_far z g b w (tree.Update op place value operation size ty line) (AtWith at u) m m' s h =
    (at_same z g.copy b (spot_of g.layout g.copy place) at m m' (λ y le lt. s y) h.0, λ e. datum_same z g.copy (behind_pointer g.layout g.copy b place) u m m' (λ y le lt. s y) (h.1 e), h.2)
waits_far z g b w (tree.Update op place value operation size ty line) (Stores at v) m m' s h = at_same z g.copy b (spot_of g.layout g.copy place) at m m' (λ y le lt. s y) h
waits_far z g b w (tree.Step op place operation size ty line) (At at) m m' s h = (
  at_same z g.copy b (spot_of g.layout g.copy place) at m m' (λ y le lt. s y) h.0,
  datum_same z g.copy (behind_pointer g.layout g.copy b place) (datum.Number (cut_to (operation_type operation) (pos (step_number operation size)))) m m' (λ y le lt. s y) h.1,
)
waits_far z g b w (tree.Step op place operation size ty line) (Stores at v) m m' s h = (
  at_same z g.copy b (spot_of g.layout g.copy place) at m m' (λ y le lt. s y) h.0,
  λ keeps. datum_same z g.copy (beyond (stored g b (tree.Step op place operation size ty line)) (width g.layout operation)) v m m' (λ y le lt. s y) (h.1 keeps),
)
waits_far z g b w (tree.Call function arguments ty line) (Args before more) m m' s h = arguments_far z g b 0 arguments before m m' s h
waits_far z g b w (tree.Call function arguments ty line) (Passed values) m m' s h = arguments_far z g b 0 arguments values m m' s h
waits_far z g b w _ _ m m' s h = tt

-- ---- structures that are copied
-- What a copy has is the same, if the bytes from `low` on are and the results of its root.
trails_same : (z : Scene) (n b low : ℕ) (p : place.Spot) (at : spot.Spot) (done lag : ℕ) (m m' : Memory) → low ≤ b → ((y : ℕ) → low ≤ y → m' (Frame n y) ≡ m (Frame n y)) → Trails z n b p at done lag m → Trails z n b p at done lag m'
trails_same z n b low (Fixed byte) at done lag m m' le s h = h
trails_same z n b low (Bit register bit) at done lag m m' le s h = h
trails_same z n b low Computed at done lag m m' le s h = (h.0, h.1, datum_same z n b (datum.Pointer h.0) m m' (λ y ge lt. s y (omega arith)) h.2, h.3)

one_same : (one : Bool) (root : Root) (m m' : Memory) → ((i : ℕ) → m' (Result root i) ≡ m (Result root i)) → HasOne one root m → HasOne one root m'
one_same true root m m' r h = (r 0 ∙ h.0, r 1 ∙ h.1)
one_same false root m m' r h = tt

module _ (z : Scene) (root : Root) (n b low : ℕ) (m m' : Memory) (front : low ≤ b) (second : (i : ℕ) → low ≤ beyond b i) (third : (i j : ℕ) → low ≤ beyond (beyond b i) j) (s : (y : ℕ) → low ≤ y → m' (Frame n y) ≡ m (Frame n y)) where
  trail_same : (p q : place.Spot) (to from : spot.Spot) (done lag : ℕ) (one : Bool) → ((i : ℕ) → m' (Result root i) ≡ m (Result root i)) → Trail z root n b p q to from done lag one m → Trail z root n b p q to from done lag one m'
  trail_same (Fixed byte) (Fixed other) to from done lag one r h = h
  trail_same (Fixed byte) (Bit register bit) to from done lag one r h = absurd h.1
  trail_same (Fixed byte) Computed to from done lag one r h = (h.0, trails_same z n (beyond b 0) low Computed from done lag m m' (second 0) s h.1, one_same one root m m' r h.2)
  trail_same (Bit register bit) q to from done lag one r h = absurd h.0
  trail_same Computed q to from done lag one r h = (trails_same z n b low Computed to done lag m m' front s h.0, trails_same z n (beyond b 2) low q from done lag m m' (second 2) s h.1, one_same one root m m' r h.2)

  carries_same : (p q : place.Spot) (from : spot.Spot) (byte : value.Byte) → Carries z n b p q from byte m → Carries z n b p q from byte m'
  carries_same (Fixed x) (Fixed other) from byte h = h
  carries_same (Fixed x) (Bit register bit) from byte h = λ e. s (beyond (beyond b 0) 0) (third 0 0) ∙ h e
  carries_same (Fixed x) Computed from byte h = λ e. s (beyond (beyond b 0) 2) (third 0 2) ∙ h e
  carries_same (Bit register bit) q from byte h = λ e. s (beyond (beyond b 0) (pointer_bytes q)) (third 0 (pointer_bytes q)) ∙ h e
  carries_same Computed q from byte h = λ e. s (beyond (beyond b 2) (pointer_bytes q)) (third 2 (pointer_bytes q)) ∙ h e

-- so do nodes that copy
pub record SameCopies (g : Ground) (b low : ℕ) (m m' : Memory) : Type 0 where
  pub front : low ≤ b
  pub second : (i : ℕ) → low ≤ beyond b i
  pub third : (i j : ℕ) → low ≤ beyond (beyond b i) j
  pub frame : (y : ℕ) → low ≤ y → m' (Frame g.copy y) ≡ m (Frame g.copy y)

copied_in : (z : Scene) (g : Ground) (e : Expression) (got : Got) (k : List Pending) (to from : spot.Spot) (left low : ℕ) (m m' : Memory) → SameCopies g (base g k) low m m' → ((i : ℕ) → m' (Result g.layout.root i) ≡ m (Result g.layout.root i)) → HasCopiedAt z g (In e got ∷ k) to from left m → HasCopiedAt z g (In e got ∷ k) to from left m'
copied_in z g (tree.StructAssign place other size line) got k to from left low m m' s r h =
    trail_same z g.layout.root g.copy (base g k) low m m' s.front s.second s.third s.frame (spot_of g.layout g.copy place) (spot_of g.layout g.copy other) to from (size - left) (lag_of (size - left)) (is_begun (size - left)) r h
copied_in z g _ got k to from left low m m' s r h = tt

copied_for : (z : Scene) (g : Ground) (t : Statement) (stage : Stage) (k : List Pending) (to from : spot.Spot) (left low : ℕ) (m m' : Memory) → SameCopies g g.base low m m' → ((i : ℕ) → m' (Result g.layout.root i) ≡ m (Result g.layout.root i)) → HasCopiedAt z g (Doing t stage ∷ k) to from left m → HasCopiedAt z g (Doing t stage ∷ k) to from left m'
copied_for z g (tree.InitList local all line) (Items (tree.Struct offset other size) rest) k to from left low m m' s r h =
    trail_same z g.layout.root g.copy g.base low m m' s.front s.second s.third s.frame (Fixed (behind (local_byte g local) offset)) (spot_of g.layout g.copy other) to from (size - left) (lag_of (size - left)) (is_begun (size - left)) r h
copied_for z g _ _ k to from left low m m' s r h = tt

carried_in : (z : Scene) (g : Ground) (e : Expression) (got : Got) (k : List Pending) (to from : spot.Spot) (byte : value.Byte) (left low : ℕ) (m m' : Memory) → SameCopies g (base g k) low m m' → ((i : ℕ) → m' (Result g.layout.root i) ≡ m (Result g.layout.root i)) → HasCarriedAt z g (In e got ∷ k) to from byte left m → HasCarriedAt z g (In e got ∷ k) to from byte left m'
carried_in z g (tree.StructAssign place other size line) got k to from byte left low m m' s r h = (
  trail_same z g.layout.root g.copy (base g k) low m m' s.front s.second s.third s.frame (spot_of g.layout g.copy place) (spot_of g.layout g.copy other) to from (size - suc left) 0 true r h.0,
  carries_same z g.layout.root g.copy (base g k) low m m' s.front s.second s.third s.frame (spot_of g.layout g.copy place) (spot_of g.layout g.copy other) from byte h.1,
  h.2,
  h.3,
)
carried_in z g _ got k to from byte left low m m' s r h = tt

carried_for : (z : Scene) (g : Ground) (t : Statement) (stage : Stage) (k : List Pending) (to from : spot.Spot) (byte : value.Byte) (left low : ℕ) (m m' : Memory) → SameCopies g g.base low m m' → ((i : ℕ) → m' (Result g.layout.root i) ≡ m (Result g.layout.root i)) → HasCarriedAt z g (Doing t stage ∷ k) to from byte left m → HasCarriedAt z g (Doing t stage ∷ k) to from byte left m'
carried_for z g (tree.InitList local all line) (Items (tree.Struct offset other size) rest) k to from byte left low m m' s r h = (
  trail_same z g.layout.root g.copy g.base low m m' s.front s.second s.third s.frame (Fixed (behind (local_byte g local) offset)) (spot_of g.layout g.copy other) to from (size - suc left) 0 true r h.0,
  carries_same z g.layout.root g.copy g.base low m m' s.front s.second s.third s.frame (Fixed (behind (local_byte g local) offset)) (spot_of g.layout g.copy other) from byte h.1,
  h.2,
  h.3,
)
carried_for z g _ _ k to from byte left low m m' s r h = tt

-- where the first byte of a copying node's pointers stands
abbrev pub copied_base : Ground → List Pending → ℕ
copied_base g (In e got ∷ k) = base g k
copied_base g k = g.base

pub copied_same : (z : Scene) (g : Ground) (k : List Pending) (to from : spot.Spot) (left low : ℕ) (m m' : Memory) → SameCopies g (copied_base g k) low m m' → ((i : ℕ) → m' (Result g.layout.root i) ≡ m (Result g.layout.root i)) → HasCopiedAt z g k to from left m → HasCopiedAt z g k to from left m'
copied_same z g [] to from left low m m' s r h = tt
copied_same z g (In e got ∷ k) to from left low m m' s r h = copied_in z g e got k to from left low m m' s r h
copied_same z g (To place ∷ k) to from left low m m' s r h = tt
copied_same z g (Doing t stage ∷ k) to from left low m m' s r h = copied_for z g t stage k to from left low m m' s r h
copied_same z g (Before ss ∷ k) to from left low m m' s r h = tt
copied_same z g (Returns d ∷ k) to from left low m m' s r h = tt
copied_same z g (Resumes d x ∷ k) to from left low m m' s r h = tt

pub carried_same : (z : Scene) (g : Ground) (k : List Pending) (to from : spot.Spot) (byte : value.Byte) (left low : ℕ) (m m' : Memory) → SameCopies g (copied_base g k) low m m' → ((i : ℕ) → m' (Result g.layout.root i) ≡ m (Result g.layout.root i)) → HasCarriedAt z g k to from byte left m → HasCarriedAt z g k to from byte left m'
carried_same z g [] to from byte left low m m' s r h = tt
carried_same z g (In e got ∷ k) to from byte left low m m' s r h = carried_in z g e got k to from byte left low m m' s r h
carried_same z g (To place ∷ k) to from byte left low m m' s r h = tt
carried_same z g (Doing t stage ∷ k) to from byte left low m m' s r h = carried_for z g t stage k to from byte left low m m' s r h
carried_same z g (Before ss ∷ k) to from byte left low m m' s r h = tt
carried_same z g (Returns d ∷ k) to from byte left low m m' s r h = tt
carried_same z g (Resumes d x ∷ k) to from byte left low m m' s r h = tt

-- all bytes of the frame are the same
pub copies_far : (g : Ground) (b : ℕ) (m m' : Memory) → SameFrame g.copy m m' → SameCopies g b 0 m m'
copies_far g b m m' s = record { front = omega arith; second = λ i. omega arith; third = λ i j. omega arith; frame = λ y le. s y }

pub value_far : (z : Scene) (g : Ground) (x : Focus) (k : List Pending) (m m' : Memory) → SameFrame g.copy m m' → ((i : ℕ) → m' (Result g.layout.root i) ≡ m (Result g.layout.root i)) → HasValue z g x k m → HasValue z g x k m'
value_far z g (Eval e) k m m' s r h = tt
value_far z g (Find place) k m m' s r h = tt
value_far z g (Value v) k m m' s r h = if_far z g.copy (base g k) (wanted k) v m m' s h
value_far z g (Found at) k m m' s r h = λ place is. at_same z g.copy (base g k) (spot_of g.layout g.copy place) at m m' (λ y le lt. s y) (h place is)
value_far z g (Run t) k m m' s r h = tt
value_far z g Past k m m' s r h = tt
value_far z g (Fetch at read) k m m' s r h = read_far z g k at read m m' s h
value_far z g (Skim at left byte) k m m' s r h = (h.0, h.1, h.2, read_far z g k at h.0 m m' s h.3)
value_far z g (Write at v done) k m m' s r h = datum_same z g.copy (stored_at g k) (standing at done v) m m' (λ y le lt. s y) h
value_far z g (PutBit register bit v old) k m m' s r h = datum_same z g.copy (stored_at g k) (number_of int.UChar (lowest_bit v)) m m' (λ y le lt. s y) h
value_far z g (CopyRead to from left) k m m' s r h = copied_same z g k to from left 0 m m' (copies_far g (copied_base g k) m m' s) r h
value_far z g (CopyWrite to from byte left) k m m' s r h = carried_same z g k to from byte left 0 m m' (copies_far g (copied_base g k) m m' s) r h
value_far z g (Spell at text left) k m m' s r h = tt
value_far z g (Blank at left) k m m' s r h = tt
value_far z g Calls k m m' s r h = tt
value_far z g (Leaves v) k m m' s r h = λ i lt. r i ∙ h i lt
value_far z g (Compares v labels) k m m' s r h = (h.0, datum_same z g.copy g.base v m m' (λ y le lt. s y) h.1)
value_far z g Over k m m' s r h = tt

-- Below a copy that is called or entered only frames of other copies wait, and results of main's root where the handler runs.
pub holds_far : (z : Scene) (n : ℕ) (d : CopyOf) (k : List Pending) (m m' : Memory) → ((i : ℕ) → (i ≡ n → ⊥) → SameFrame i m m') → ((i : ℕ) → m' (Result Main i) ≡ m (Result Main i)) → (number z d ≡ n → ⊥) → Apart z n k → MainsWait k → Holds z (ground_in z d) k m → Holds z (ground_in z d) k m'
holds_far z n d [] m m' s r far a w h = tt
holds_far z n d (In e got ∷ k) m m' s r far a w h =
    (waits_far z (ground_in z d) (base (ground_in z d) k) (wanted k) e got m m' (subst (λ i. SameFrame i m m') (sym (own_copy z d)) (s (number z d) far)) h.0, holds_far z n d k m m' s r far a w h.1)
holds_far z n d (To place ∷ k) m m' s r far a w h = holds_far z n d k m m' s r far a w h
holds_far z n d (Doing t stage ∷ k) m m' s r far a w h = holds_far z n d k m m' s r far a w h
holds_far z n d (Before ss ∷ k) m m' s r far a w h = holds_far z n d k m m' s r far a w h
holds_far z n d (Returns c ∷ k) m m' s r far a w h = holds_far z n c k m m' s r a.0 a.1 w h
holds_far z n d (Resumes c x ∷ k) m m' s r far a w h = (
  value_far z (ground_in z c) x k m m' (subst (λ i. SameFrame i m m') (sym (own_copy z c)) (s (number z c) a.0)) (λ i. subst (λ q. m' (Result q i) ≡ m (Result q i)) (sym (own_root z c ∙ w.0)) (r i)) h.0,
  holds_far z n c k m m' s r a.0 a.1 w.1 h.1,
)

-- in the frames of the copy itself
pub holds_near : (z : Scene) (c : CopyOf) (k : List Pending) (m m' : Memory) → ((y : ℕ) → y < base (ground_in z c) k → m' (Frame (number z c) y) ≡ m (Frame (number z c) y)) → ((i : ℕ) → (i ≡ number z c → ⊥) → SameFrame i m m') → ((i : ℕ) → m' (Result Main i) ≡ m (Result Main i)) → Apart z (number z c) k → MainsWait k → Piled (ground_in z c) k → Holds z (ground_in z c) k m → Holds z (ground_in z c) k m'
holds_near z c [] m m' s o r a w p h = tt
holds_near z c (In e got ∷ k) m m' s o r a w p h =
    let le = p.1 in (
      waits_same z (ground_in z c) (base (ground_in z c) k) (wanted k) e got m m' (λ y lt. subst (λ i. m' (Frame i y) ≡ m (Frame i y)) (sym (own_copy z c)) (s y lt)) p.0 h.0,
      holds_near z c k m m' (λ y lt. s y (omega arith)) o r a w p.2 h.1,
    )
holds_near z c (To place ∷ k) m m' s o r a w p h = holds_near z c k m m' s o r a w p h
holds_near z c (Doing t stage ∷ k) m m' s o r a w p h = holds_near z c k m m' (λ y lt. s y (let e = base_end (ground_in z c) k p.0 in omega arith)) o r a w p.1 h
holds_near z c (Before ss ∷ k) m m' s o r a w p h = holds_near z c k m m' (λ y lt. s y (let e = base_end (ground_in z c) k p.0 in omega arith)) o r a w p.1 h
holds_near z c (Returns d ∷ k) m m' s o r a w p h = holds_far z (number z c) d k m m' o r a.0 a.1 w h
holds_near z c (Resumes d x ∷ k) m m' s o r a w p h = (
  value_far z (ground_in z d) x k m m' (subst (λ i. SameFrame i m m') (sym (own_copy z d)) (o (number z d) a.0)) (λ i. subst (λ q. m' (Result q i) ≡ m (Result q i)) (sym (own_root z d ∙ w.0)) (r i)) h.0,
  holds_far z (number z c) d k m m' o r a.0 a.1 w.1 h.1,
)

-- ---- writes to objects
-- All temporary bytes of a copy are the same.
abbrev pub SameTemps : Scene → CopyOf → Memory → Memory → Type 0
SameTemps z c m m' = (y : ℕ) → (ground_in z c).base ≤ y → m' (Frame (number z c) y) ≡ m (Frame (number z c) y)

-- Each copy below is one that a root reaches, and its values lie where offsets have 16 bits.
abbrev pub Reached : Scene → Ground → List Pending → Type 0
Reached z g [] = Unit {0}
Reached z g (In e got ∷ k) = (base g k ≤ 96) × Reached z g k
Reached z g (To place ∷ k) = Reached z g k
Reached z g (Doing t stage ∷ k) = Reached z g k
Reached z g (Before ss ∷ k) = Reached z g k
Reached z g (Returns d ∷ k) = IsReached z.program d × Piled (ground_in z d) k × Reached z (ground_in z d) k
Reached z g (Resumes d x ∷ k) = IsReached z.program d × (base (ground_in z d) k ≤ 96) × Piled (ground_in z d) k × Reached z (ground_in z d) k

pub beyond_high : (b n : ℕ) → b ≤ 65535 → b ≤ beyond b n
unfolding beyond
beyond_high b n le = grind (arith, common_steps)

pub base_above : (g : Ground) (k : List Pending) → Piled g k → g.base ≤ base g k
base_above g [] p = omega arith
base_above g (In e got ∷ k) p = let q = base_above g k p.2 in let r = p.1 in omega arith
base_above g (To place ∷ k) p = base_above g k p
base_above g (Doing t stage ∷ k) p = omega arith
base_above g (Before ss ∷ k) p = omega arith
base_above g (Returns d ∷ k) p = omega arith
base_above g (Resumes d x ∷ k) p = omega arith
