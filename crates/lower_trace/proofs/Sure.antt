-- What is sure of values under way: a constant that is converted has its own value, a structure is never read as a number, and a
-- value that is written has bytes and is the one that its node stores.
use Rattle.std.proofs.Common.{◌≡◌, ℕ, ◌+◌, ◌<◌, ◌≤◌, true, false, List, [], ◌∷◌, Option, Some, None, refl, sym, ap, subst, arith}
use Rattle.c_ints.specs.Quantity.{Quantity}
use Rattle.c_ints.specs.Range.{bytes_of}
use Rattle.c_ints.specs.declared.types.IntTy.{IntTy}
use Rattle.c_ints.specs.declared.types.IntTy.TheVariants as int
use Rattle.c_typed.specs.Room.{item_room}
use Rattle.c_typed.specs.Sameness.{is_scalar}
use Rattle.c_typed.specs.Trees as tree
use Rattle.c_typed.specs.Trees.{Expression}
use Rattle.c_typed.specs.declared.types.Ty.{Ty}
use Rattle.c_typed.specs.declared.types.Ty.TheVariants as types
use Rattle.src_rules.specs.Accesses.{fetching}
use Rattle.src_rules.specs.State.{Outcome, Went, Undefined, Idle, Lost}
use Rattle.src_values.specs.Control.{Focus, Eval, Holds, Fetch, Skim, Write, PutBit, Got, Nothing, Stores, Stage, AtItem, Items, Pending, In, To, Doing, Before, Returns, Resumes, read_type}
use Rattle.src_values.specs.Data as datum
use Rattle.src_values.specs.Data.{Datum}
use Rattle.src_values.specs.Values as answers
use Rattle.src_values.specs.Values.{Answer, byte_count, change_answer, changed_by, converted, is_postfix, then_converted}
use Rattle.src_values.specs.declared.objects.CopyOf.{CopyOf}
use Rattle.src_values.specs.declared.objects.Spot.{Spot}
use Rattle.lower_trace.proofs.CodeLeft.{Scene, ground_in}
use Rattle.lower_trace.proofs.Fitting.{frame_of}

-- ---- constants that are converted
abbrev pub constant_of : Expression → Option Quantity
constant_of (tree.Constant value line) = Some value
constant_of _ = None

abbrev pub constant_in : Expression → Got → Option Quantity
constant_in (tree.Convert operand ty line) Nothing = constant_of operand
constant_in (tree.Cast operand ty line) Nothing = constant_of operand
constant_in _ _ = None

-- the constant whose value the frame on top converts
abbrev pub constant_for : List Pending → Option Quantity
constant_for (In e got ∷ k) = constant_in e got
constant_for _ = None

abbrev pub IsConstantOf : Option Quantity → Expression → Type 0
IsConstantOf None e = Unit {0}
IsConstantOf (Some q) (tree.Constant value line) = value ≡ q
IsConstantOf (Some q) _ = ⊥

abbrev pub IsValueOf : Option Quantity → Datum → Type 0
IsValueOf None v = Unit {0}
IsValueOf (Some q) v = v ≡ datum.Number q

-- ---- values that are written
-- the value that stays with a node, and the one that it writes: a postfix form keeps the old one
abbrev pub IsKept : Expression → Datum → Datum → Type 0
IsKept (tree.Step op place operation size ty line) u v = is_postfix op ≡ false → u ≡ v
IsKept _ u v = u ≡ v

abbrev pub IsStored : List Pending → Datum → Type 0
IsStored (In e (Stores start u) ∷ k) v = IsKept e u v
IsStored _ v = Unit {0}

-- ---- the state
abbrev pub FocusSure : Focus → List Pending → Type 0
FocusSure (Eval e) k = IsConstantOf (constant_for k) e
FocusSure (Holds v) k = IsValueOf (constant_for k) v
FocusSure (Fetch spot read) k = (is_scalar (read_type k) ≡ true) × (constant_for k ≡ None)
FocusSure (Skim spot left byte) k = (is_scalar (read_type k) ≡ false) × (constant_for k ≡ None)
FocusSure (Write spot v at) k = (0 < byte_count v) × IsStored k v
FocusSure (PutBit register number v old) k = (0 < byte_count v) × IsStored k v
FocusSure _ k = Unit {0}

-- there is room for an item that is under way
abbrev pub StageSure : Scene → CopyOf → Stage → Type 0
StageSure z c (AtItem item rest) = (ground_in z c).base + item_room z.program.sizes item ≤ frame_of z c
StageSure z c (Items item rest) = (ground_in z c).base + item_room z.program.sizes item ≤ frame_of z c
StageSure z c _ = Unit {0}

abbrev pub StackSure : Scene → CopyOf → List Pending → Type 0
StackSure z c [] = Unit {0}
StackSure z c (In e got ∷ k) = (constant_for k ≡ None) × StackSure z c k
StackSure z c (To place ∷ k) = StackSure z c k
StackSure z c (Doing t stage ∷ k) = StageSure z c stage × StackSure z c k
StackSure z c (Before ss ∷ k) = StackSure z c k
StackSure z c (Returns d ∷ k) = StackSure z d k
StackSure z c (Resumes d x ∷ k) = FocusSure x k × StackSure z d k

abbrev pub KeepsSure : Scene → Outcome → Type 0
KeepsSure z (Went u event) = FocusSure u.focus u.stack × StackSure z u.copy u.stack
KeepsSure z (Undefined kind line) = Unit {0}
KeepsSure z Idle = Unit {0}
KeepsSure z Lost = Unit {0}

-- ---- no constant is waited for
pub any_value : (o : Option Quantity) (v : Datum) → o ≡ None → IsValueOf o v
any_value o v e = subst (λ x. IsValueOf x v) (sym e) tt

pub any_expression : (o : Option Quantity) (e : Expression) → o ≡ None → IsConstantOf o e
any_expression o e n = subst (λ x. IsConstantOf x e) (sym n) tt

some_none : {A : Type 0} {x : A} → Some x ≡ None → ⊥
some_none e = cc

-- an expression that is no constant is none that is waited for
pub apart : (o : Option Quantity) (e : Expression) → constant_of e ≡ None → IsConstantOf o e → o ≡ None
apart None e n h = refl
apart (Some q) (tree.Constant value line) n h = absurd (some_none n)
apart (Some q) _ n h = absurd h

-- an operand is the one that its node waits for
pub own_constant : (e : Expression) → IsConstantOf (constant_of e) e
own_constant (tree.Constant value line) = refl
own_constant _ = tt

pub constant_value : (o : Option Quantity) (value : Quantity) (line : ℕ) → IsConstantOf o (tree.Constant value line) → IsValueOf o (datum.Number value)
constant_value None value line h = tt
constant_value (Some q) value line h = ap datum.Number h

-- ---- a place is read as its type says
pub fetching_sure : (spot : Spot) (ty : Ty) (sizes : List ℕ) (k : List Pending) → read_type k ≡ ty → constant_for k ≡ None → FocusSure (fetching spot ty sizes) k
fetching_sure spot types.Void sizes k e n = (ap is_scalar e, n)
fetching_sure spot (types.Int ty) sizes k e n = (ap is_scalar e, n)
fetching_sure spot (types.Pointer row) sizes k e n = (ap is_scalar e, n)
fetching_sure spot (types.Array element length size) sizes k e n = (ap is_scalar e, n)
fetching_sure spot (types.Struct number) sizes k e n = (ap is_scalar e, n)

-- ---- values have bytes
abbrev pub IsThereValue : Datum → Type 0
IsThereValue datum.Missing = ⊥
IsThereValue v = Unit {0}

abbrev pub HasBytes : Answer → Type 0
HasBytes (answers.Gives v) = 0 < byte_count v
HasBytes (answers.Fails kind) = Unit {0}
HasBytes answers.Strays = Unit {0}

integer_some : (ty : IntTy) → 0 < bytes_of ty
integer_some int.Char = omega arith
integer_some int.SChar = omega arith
integer_some int.UChar = omega arith
integer_some int.Short = omega arith
integer_some int.UShort = omega arith
integer_some int.Int = omega arith
integer_some int.UInt = omega arith
integer_some int.Long = omega arith
integer_some int.ULong = omega arith

pub some_bytes : (v : Datum) → IsThereValue v → 0 < byte_count v
some_bytes (datum.Number q) h = integer_some q.ty
some_bytes (datum.Pointer x) h = omega arith
some_bytes datum.Missing h = absurd h

integer_bytes : (ty : IntTy) (v : Datum) → HasBytes (answers.as_integer ty v)
integer_bytes ty (datum.Number q) = integer_some ty
integer_bytes ty (datum.Pointer x) = tt
integer_bytes ty datum.Missing = tt

pointer_bytes : (v : Datum) → HasBytes (answers.as_pointer v)
pointer_bytes (datum.Number q) = omega arith
pointer_bytes (datum.Pointer x) = omega arith
pointer_bytes datum.Missing = tt

converted_bytes : (ty : Ty) (v : Datum) → is_scalar ty ≡ true → HasBytes (converted ty v)
unfolding converted
converted_bytes types.Void v e = absurd (cc)
converted_bytes (types.Int ty) v e = integer_bytes ty v
converted_bytes (types.Pointer row) v e = pointer_bytes v
converted_bytes (types.Array element length size) v e = tt
converted_bytes (types.Struct number) v e = tt

then_bytes : (ty : Ty) (a : Answer) → is_scalar ty ≡ true → HasBytes (then_converted ty a)
then_bytes ty (answers.Gives v) e = converted_bytes ty v e
then_bytes ty (answers.Fails kind) e = tt
then_bytes ty answers.Strays e = tt

-- the new value of a place
pub change_bytes : (p : _) (live : List CopyOf) (op : _) (operation : Ty) (size : ℕ) (ty : Ty) (old u : Datum) → is_scalar ty ≡ true → HasBytes (change_answer p live op operation size ty old u)
unfolding change_answer
change_bytes p live op operation size ty old u e = then_bytes ty (changed_by p live op size operation old u) e
