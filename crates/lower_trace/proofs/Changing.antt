-- What byte code does to a value in place: it is widened, kept for later, and changed by an operator. Only bytes from there on change.
use Rattle.c_ints.proofs.Cut.{same as unchanged}
use Rattle.c_ints.specs.Operators as numbers
use Rattle.c_ints.specs.Operators.{cut_to, value_of}
use Rattle.c_ints.specs.Quantity.{Quantity}
use Rattle.c_ints.specs.Range.{IsInRange, bytes_of, cut, pattern}
use Rattle.c_ints.specs.declared.operators.BinOp.TheVariants as ops
use Rattle.c_ints.specs.declared.operators.BinOp.{BinOp}
use Rattle.c_ints.specs.declared.types.IntTy.{IntTy}
use Rattle.core_code.specs.Bytes.{Held, Memory, is_same_or_misses, misses, same_byte, with_bytes}
use Rattle.core_code.specs.Machine.{Machine, Setting, Task, Do as Todo, Waiting, is_own}
use Rattle.core_code.specs.Operands.{fits_bytes, fits_together, number_left}
use Rattle.core_code.specs.Tree as code
use Rattle.core_code.specs.Tree.{many}
use Rattle.core_code.specs.Values as core
use Rattle.core_code.specs.Values.{binary_value, right_type, value_in}
use Rattle.core_code.specs.declared.code.Byte.TheVariants.{Device, Frame, Result, Static}
use Rattle.core_code.specs.declared.code.Byte.{Byte}
use Rattle.core_puts.specs.Puts.{copies_if}
use Rattle.lower_expr.specs.Rows.{wider}
use Rattle.lower_trace.proofs.CodeLeft.{Scene, base, ground_in, held, number, todo}
use Rattle.lower_trace.proofs.Converting.{not_less}
use Rattle.lower_trace.proofs.FixedWrites.{move_then}
use Rattle.lower_trace.proofs.Giving.{Around, agrees_same}
use Rattle.lower_trace.proofs.Kept.{SceneLaws, holds_near}
use Rattle.lower_trace.proofs.Mirrors.{Agrees, HasDatum, Holds, core_byte}
use Rattle.lower_trace.proofs.Moving.{binary_any_then}
use Rattle.lower_trace.proofs.Narrowing.{narrow_bytes, pattern_cut}
use Rattle.lower_trace.proofs.Operating.{IsPlain, convert_then, itself, plain_alone, plain_cost, plain_gives, plain_right, value_number}
use Rattle.lower_trace.proofs.Operations.{Comes, comes_within, le_true, own_frame, or_second}
use Rattle.lower_trace.proofs.Passing.{apart_of}
use Rattle.lower_trace.proofs.Placed.{Placed}
use Rattle.lower_trace.proofs.Written.{IsClear, both, bytes_clear, bytes_there}
use Rattle.pic_world.specs.World.{World, arrived, is_due}
use Rattle.pic_world.specs.declared.Root.TheVariants.{Main}
use Rattle.src_rules.proofs.Values.{in_range}
use Rattle.src_rules.specs.Standing.{IsReached, IsThere}
use Rattle.src_values.specs.Control.{Pending}
use Rattle.src_values.specs.Data as datum
use Rattle.src_values.specs.Data.{Datum}
use Rattle.src_values.specs.Memory as source
use Rattle.src_values.specs.Objects.{object_bytes}
use Rattle.src_values.specs.Values.{byte_count, byte_of}
use Rattle.src_values.specs.declared.objects.Byte.TheVariants as values
use Rattle.src_values.specs.declared.objects.CopyOf.{CopyOf}
use Rattle.src_values.specs.declared.objects.Object as object
use Rattle.src_values.specs.declared.objects.Object.TheVariants as objects
use Rattle.std.proofs.Common.{Bool, List, None, Option, Some, [], ap, arith, false, if◌then◌else◌, inl, inr, nat_eq, nat_le, nat_lt, not, option_map, refl, subst, sym, true, ℕ, ⊎_elim, ◌%◌, ◌&&◌, ◌*◌, ◌+◌, ◌/◌, ◌<◌, ◌^◌, ◌∙◌, ◌∷◌, ◌≡◌, ◌≤◌, ◌⊎◌}
use Rattle.std.proofs.lemmas.Bool.{cases_lt}

-- ---- memories that differ from a byte of a frame on
abbrev pub IsBelow : ℕ → ℕ → Byte → Type 0
IsBelow n low (Frame d y) = ((d < n) ⊎ (n < d)) ⊎ (y < low)
IsBelow n low _ = Unit {0}

abbrev pub OnlyAbove : ℕ → ℕ → Memory → Memory → Type 0
OnlyAbove n low m m' = (x : Byte) → IsBelow n low x → m' x ≡ m x

pub above_same : (n low : ℕ) (m : Memory) → OnlyAbove n low m m
above_same n low m x b = refl

pub above_then : (n low : ℕ) (m m' m'' : Memory) → OnlyAbove n low m m' → OnlyAbove n low m' m'' → OnlyAbove n low m m''
above_then n low m m' m'' a b x i = b x i ∙ a x i

below_clear : (n low b k : ℕ) (x : Byte) → low ≤ b → IsBelow n low x → IsClear n b k x
below_clear n low b k (Static i j) le h = tt
below_clear n low b k (Frame d y) le (inl h) = inl h
below_clear n low b k (Frame d y) le (inr h) = inr (inl (omega arith))
below_clear n low b k (Result r j) le h = tt
below_clear n low b k (Device a) le h = tt

pub above_written : (n low b k : ℕ) (m : Memory) (h : ℕ → Held) → low ≤ b → OnlyAbove n low m (with_bytes m (Frame n b) k h)
above_written n low b k m h le x i = bytes_clear m n b k h x (below_clear n low b k x le i)

object_below : (z : Scene) (laws : SceneLaws z) (c : CopyOf) (low : ℕ) (o : object.Object) (at : ℕ) → IsReached z.program c → (ground_in z c).base ≤ low → IsThere z.program o → at < object_bytes z.program o → IsBelow (number z c) low (core_byte z o at)
object_below z laws c low (objects.Fixed i) at r le there lt = tt
object_below z laws c low (objects.Variable d i) at r le there lt =
    ⊎_elim (λ l. inl (inl l))
    (λ ge.
    ⊎_elim (λ l. inl (inr l))
    (λ ge2.
    let same_copy_is : d ≡ c = laws.apart d c there.0 r (omega arith) in
    let under = laws.below d i at there.0 there.1 lt in
    let q = ap (λ x. (ground_in z x).base) same_copy_is in
    inr (omega arith))
    (cases_lt (number z c) (number z d)))
    (cases_lt (number z d) (number z c))

pub agrees_above : (z : Scene) (laws : SceneLaws z) (c : CopyOf) (live : List CopyOf) (l : source.Memory) (m m' : Memory) (low : ℕ) → IsReached z.program c → (ground_in z c).base ≤ low → OnlyAbove (number z c) low m m' → Agrees z live l m → Agrees z live l m'
agrees_above z laws c live l m m' low r le s a = agrees_same z live l m m' (λ o at there lt. s (core_byte z o at) (object_below z laws c low o at r le there lt)) a

pub holds_above : (z : Scene) (c : CopyOf) (k : List Pending) (m m' : Memory) (low : ℕ) → Around z c k → base (ground_in z c) k ≤ low → OnlyAbove (number z c) low m m' → Holds z (ground_in z c) k m → Holds z (ground_in z c) k m'
holds_above z c k m m' low around le s h =
    holds_near z c k m m'
    (λ y lt. s (Frame (number z c) y) (inr (omega arith)))
    (λ i far y. s (Frame i y) (inl (apart_of i (number z c) far)))
    (λ i. s (Result Main i) tt)
    around.apart around.mains around.piled h

pub datum_above : (z : Scene) (n b low : ℕ) (v : Datum) (m m' : Memory) → b + byte_count v ≤ low → OnlyAbove n low m m' → HasDatum z n b v m → HasDatum z n b v m'
datum_above z n b low v m m' le s h i lt = s (Frame n (b + i)) (inr (omega arith)) ∙ h i lt

-- ---- operations
module _ (z : Scene) (g : Setting) (T : Machine → Type 0) (n : ℕ) (s : List Waiting) (w : World Held) (due : is_due w ≡ false) (now : arrived g.outside w ≡ w) (small : g.program.frame_bytes n ≤ 96) where
  -- a number is brought to a type with no fewer bytes
  widen_case : (more : Bool) (to : IntTy) (x : Quantity) (b : ℕ) (r : List Task) (m : Memory) (c : Machine) (q l : ℕ) → nat_lt (bytes_of x.ty) (bytes_of to) ≡ more → IsInRange x.ty x.number → bytes_of x.ty ≤ bytes_of to → b + bytes_of to ≤ g.program.frame_bytes n → HasDatum z n b (datum.Number x) m
      → Placed g n None (todo (wider x.ty to (Frame n b)) r) s m w c
      → ((d : Machine) (m' : Memory) → OnlyAbove n b m m' → HasDatum z n b (datum.Number (cut_to to x.number)) m' → Placed g n None r s m' w d → Comes g T q l d) → Comes g T (24 + q) l c
  widen_case true to x b r m c q l e xr le room hx p next =
      let m' = with_bytes m (Frame n b) (bytes_of to) (core.byte_of (core.Number (cut_to to x.number))) in
      convert_then z g T n s w due now to x b r m c q l xr e (omega arith) room hx (subst (λ y. Placed g n None y s m w c) (ap (λ f. todo (if f then code.Convert x.ty to (Frame n b) ∷ [] else []) r) e) p)
      (λ d pd. next d m' (above_written n b b (bytes_of to) m (core.byte_of (core.Number (cut_to to x.number))) (omega arith)) (λ i lt. bytes_there m n b (bytes_of to) (core.byte_of (core.Number (cut_to to x.number))) i lt) pd)
  widen_case false to x b r m c q l e xr le room hx p next =
      let ge = not_less (bytes_of x.ty) (bytes_of to) e in
      comes_within g T q l (24 + q) l c
      (next c m (above_same n b m)
      (λ i lt. hx i (omega arith) ∙ ap (λ y. held z (values.Number y)) (sym (narrow_bytes x.ty to x.number i ge lt)))
      (subst (λ y. Placed g n None y s m w c) (ap (λ f. todo (if f then code.Convert x.ty to (Frame n b) ∷ [] else []) r) e) p))
      (omega arith) (omega arith)

  pub widen_then : (to : IntTy) (x : Quantity) (b : ℕ) (r : List Task) (m : Memory) (c : Machine) (q l : ℕ) → IsInRange x.ty x.number → bytes_of x.ty ≤ bytes_of to → b + bytes_of to ≤ g.program.frame_bytes n → HasDatum z n b (datum.Number x) m
      → Placed g n None (todo (wider x.ty to (Frame n b)) r) s m w c
      → ((d : Machine) (m' : Memory) → OnlyAbove n b m m' → HasDatum z n b (datum.Number (cut_to to x.number)) m' → Placed g n None r s m' w d → Comes g T q l d) → Comes g T (24 + q) l c
  widen_then to x b r m c q l xr le room hx p next = widen_case (nat_lt (bytes_of x.ty) (bytes_of to)) to x b r m c q l refl xr le room hx p next

  -- so many bytes are kept behind, if they are wanted
  pub keep_then : (keeps : Bool) (b y i : ℕ) (r : List Task) (m : Memory) (c : Machine) (q l : ℕ) → i ≤ 4 → y + i ≤ b → b + i ≤ g.program.frame_bytes n → y + i ≤ g.program.frame_bytes n → Placed g n None (todo (copies_if keeps (Frame n b) (Frame n y) i) r) s m w c
      → ((d : Machine) (m' : Memory) → OnlyAbove n b m m' → (keeps ≡ true → (j : ℕ) → j < i → m' (Frame n (b + j)) ≡ m (Frame n (y + j))) → Placed g n None r s m' w d → Comes g T q l d) → Comes g T (24 + q) l c
  keep_then true b y i r m c q l few apart room from p next =
      let m' = with_bytes m (Frame n b) i (λ j. m (Frame n (y + j))) in
      comes_within g T (6 * i + q) l (24 + q) l c
      (move_then g T n None s w due now small b y i r m c q l (inr apart) room from p
      (λ d pd. next d m' (above_written n b b i m (λ j. m (Frame n (y + j))) (omega arith)) (λ e j lt. bytes_there m n b i (λ j. m (Frame n (y + j))) j lt) pd))
      (omega arith) (omega arith)
  keep_then false b y i r m c q l few apart room from p next = comes_within g T q l (24 + q) l c (next c m (above_same n b m) (λ e. absurd (cc)) p) (omega arith) (omega arith)

misses_low : (n b y w : ℕ) → y + w ≤ b → misses (Frame n b) w (Frame n y) w ≡ true
misses_low n b y w le = or_second (not (nat_eq n n)) _ (or_second (nat_le (b + w) y) (nat_le (y + w) b) (le_true (y + w) b le))

-- an operator on two numbers, of which the right one lies lower
abbrev pub IsSum : BinOp → Type 0
IsSum ops.Add = Unit {0}
IsSum ops.Sub = Unit {0}
IsSum ops.And = Unit {0}
IsSum ops.Or = Unit {0}
IsSum ops.Xor = Unit {0}
IsSum _ = ⊥

pub sum_plain : (op : BinOp) → IsSum op → IsPlain op
sum_plain ops.Add p = tt
sum_plain ops.Sub p = tt
sum_plain ops.And p = tt
sum_plain ops.Or p = tt
sum_plain ops.Xor p = tt
sum_plain ops.Mul p = absurd p
sum_plain ops.Div p = absurd p
sum_plain ops.Rem p = absurd p
sum_plain ops.Shl p = absurd p
sum_plain ops.Shr p = absurd p
sum_plain ops.Lt p = absurd p
sum_plain ops.Gt p = absurd p
sum_plain ops.Le p = absurd p
sum_plain ops.Ge p = absurd p
sum_plain ops.Eq p = absurd p
sum_plain ops.Ne p = absurd p

pub sum_type : (op : BinOp) (ty : IntTy) → IsSum op → numbers.type_of op ty ≡ ty
sum_type ops.Add ty p = refl
sum_type ops.Sub ty p = refl
sum_type ops.And ty p = refl
sum_type ops.Or ty p = refl
sum_type ops.Xor ty p = refl
sum_type ops.Mul ty p = absurd p
sum_type ops.Div ty p = absurd p
sum_type ops.Rem ty p = absurd p
sum_type ops.Shl ty p = absurd p
sum_type ops.Shr ty p = absurd p
sum_type ops.Lt ty p = absurd p
sum_type ops.Gt ty p = absurd p
sum_type ops.Le ty p = absurd p
sum_type ops.Ge ty p = absurd p
sum_type ops.Eq ty p = absurd p
sum_type ops.Ne ty p = absurd p

sum_low : (n b y w : ℕ) → y + w ≤ b → (is_same_or_misses w (Frame n b) (Frame n b) && is_same_or_misses w (Frame n b) (Frame n y)) ≡ true
sum_low n b y w le = both _ _ (itself n b w) (or_second (same_byte (Frame n b) (Frame n y)) _ (misses_low n b y w le))

sum_fits_low : (op : BinOp) (w : ℕ) (count : Option ℕ) (n b y : ℕ) → IsSum op → y + w ≤ b → fits_bytes op w count (Frame n b) (Frame n b) (Frame n y) ≡ true
sum_fits_low ops.Add w count n b y p le = sum_low n b y w le
sum_fits_low ops.And w count n b y p le = sum_low n b y w le
sum_fits_low ops.Or w count n b y p le = sum_low n b y w le
sum_fits_low ops.Xor w count n b y p le = sum_low n b y w le
sum_fits_low ops.Sub w count n b y p le = both _ _ (itself n b w) (let e = misses_low n b y w le in rw e refl)
sum_fits_low ops.Mul w count n b y p le = absurd p
sum_fits_low ops.Div w count n b y p le = absurd p
sum_fits_low ops.Rem w count n b y p le = absurd p
sum_fits_low ops.Shl w count n b y p le = absurd p
sum_fits_low ops.Shr w count n b y p le = absurd p
sum_fits_low ops.Lt w count n b y p le = absurd p
sum_fits_low ops.Gt w count n b y p le = absurd p
sum_fits_low ops.Le w count n b y p le = absurd p
sum_fits_low ops.Ge w count n b y p le = absurd p
sum_fits_low ops.Eq w count n b y p le = absurd p
sum_fits_low ops.Ne w count n b y p le = absurd p

pub sum_then : (z : Scene) (g : Setting) (T : Machine → Type 0) (n : ℕ) (s : List Waiting) (w : World Held) (due : is_due w ≡ false) (now : arrived g.outside w ≡ w) (op : BinOp) (x y : Quantity) (b at : ℕ) (r : List Task) (m : Memory) (c : Machine) (q l : ℕ) → IsSum op → IsInRange x.ty x.number → IsInRange y.ty y.number → y.ty ≡ x.ty
    → at + bytes_of x.ty ≤ b → b + bytes_of x.ty ≤ g.program.frame_bytes n → HasDatum z n b (datum.Number x) m → HasDatum z n at (datum.Number y) m
    → Placed g n None (Todo [] (code.Binary op x.ty (Frame n b) (Frame n b) (Frame n at)) ∷ r) s m w c
    → ((d : Machine) (m' : Memory) → OnlyAbove n b m m' → ((t : ℕ) → b + bytes_of x.ty ≤ t → m' (Frame n t) ≡ m (Frame n t)) → HasDatum z n b (datum.Number (value_of op x y)) m' → Placed g n None r s m' w d → Comes g T q l d) → Comes g T (10 * bytes_of x.ty + 30 + q) l c
unfolding fits_together binary_value
sum_then z g T n s w due now op x y b at r m c q l sum xr yr same_ty low room hx hy p next =
    let plain = sum_plain op sum in
    let v = value_of op x y in
    let i = bytes_of x.ty in
    let right = plain_right op x.ty plain in
    let count : bytes_of v.ty ≡ i = ap bytes_of (sum_type op x.ty sum) in
    let vy : value_in (right_type op x.ty) m (Frame n at) ≡ Some (core.Number y) = ap (λ t. value_in t m (Frame n at)) (right ∙ sym same_ty) ∙ value_number z n at y m yr hy in
    let m' = with_bytes m (Frame n b) (bytes_of v.ty) (core.byte_of (core.Number v)) in
    binary_any_then g T n s w due now op x.ty (Frame n b) (Frame n b) (Frame n at) (core.Number x) (core.Number y) (core.Number v) r m c q l (10 * i + 30)
    (λ before. sum_fits_low op i (number_left before (Frame n at)) n b at sum low) (λ count. plain_alone op count plain)
    (own_frame g.program n b i room) (ap (λ t. is_own g.program n (Frame n at) (bytes_of t)) right ∙ own_frame g.program n at i (omega arith))
    (value_number z n b x m xr hx) vy
    (λ s' e. ap (λ o. option_map core.Number o) (plain_gives op x y plain))
    (own_frame g.program n b (bytes_of v.ty) (omega arith))
    (λ count. plain_cost op count i plain) p
    (λ d pd. next d m' (above_written n b b (bytes_of v.ty) m (core.byte_of (core.Number v)) (omega arith)) (λ t le. bytes_clear m n b (bytes_of v.ty) (core.byte_of (core.Number v)) (Frame n t) (inr (inr (omega arith)))) (λ j lt. bytes_there m n b (bytes_of v.ty) (core.byte_of (core.Number v)) j lt) pd)

raise_below : (n b kept : ℕ) (x : Byte) → b ≤ kept → IsBelow n b x → IsBelow n kept x
raise_below n b kept (Static i j) le h = tt
raise_below n b kept (Frame d y) le (inl h) = inl h
raise_below n b kept (Frame d y) le (inr h) = inr (omega arith)
raise_below n b kept (Result r j) le h = tt
raise_below n b kept (Device a) le h = tt

pub lower_above : (n b kept : ℕ) (m m' : Memory) → b ≤ kept → OnlyAbove n kept m m' → OnlyAbove n b m m'
lower_above n b kept m m' le s x i = s x (raise_below n b kept x le i)

-- a number that is widened keeps its low bytes
widened_byte : (to : IntTy) (x : Quantity) (j : ℕ) → bytes_of x.ty ≤ bytes_of to → j < bytes_of x.ty → IsInRange x.ty x.number → pattern to (cut to x.number) / 256 ^ j % 256 ≡ pattern x.ty x.number / 256 ^ j % 256
widened_byte to x j le lt r =
    ap (λ t. t / 256 ^ j % 256) (pattern_cut to x.number) ∙ sym (narrow_bytes to x.ty x.number j le lt) ∙ ap (λ t. pattern x.ty t / 256 ^ j % 256) (unchanged x.ty x.number r)

-- a number at b is widened, kept at `kept` if it is wanted later, and changed by the number at `at`
pub change_then : (z : Scene) (g : Setting) (T : Machine → Type 0) (n : ℕ) (s : List Waiting) (w : World Held) (due : is_due w ≡ false) (now : arrived g.outside w ≡ w) (op : BinOp) (to : IntTy) (x y : Quantity) (keeps : Bool) (b at kept i : ℕ) (r : List Task) (m : Memory) (c : Machine) (q l : ℕ) → g.program.frame_bytes n ≤ 96 → IsSum op → IsInRange x.ty x.number → IsInRange y.ty y.number → y.ty ≡ to → bytes_of x.ty ≤ bytes_of to
    → at + bytes_of to ≤ b → i ≤ 4 → i ≤ bytes_of x.ty → b + i ≤ kept → b + bytes_of to ≤ kept → b + bytes_of to ≤ g.program.frame_bytes n → kept + i ≤ g.program.frame_bytes n → HasDatum z n b (datum.Number x) m → HasDatum z n at (datum.Number y) m
    → Placed g n None (todo (wider x.ty to (Frame n b)) (todo (copies_if keeps (Frame n kept) (Frame n b) i) (Todo [] (code.Binary op to (Frame n b) (Frame n b) (Frame n at)) ∷ r))) s m w c
    → ((d : Machine) (m' : Memory) → OnlyAbove n b m m' → HasDatum z n b (datum.Number (value_of op (cut_to to x.number) y)) m' → (keeps ≡ true → (j : ℕ) → j < i → m' (Frame n (kept + j)) ≡ held z (byte_of (datum.Number x) j)) → Placed g n None r s m' w d → Comes g T q l d)
    → Comes g T (24 + (24 + (10 * bytes_of to + 30 + q))) l c
change_then z g T n s w due now op to x y keeps b at kept i r m c q l small sum xr yr same_ty le low few part above_b above_to room kept_room hx hy p next =
    let v = cut_to to x.number in
    let vr : IsInRange to v.number = in_range to x.number in
    widen_then z g T n s w due now small to x b (todo (copies_if keeps (Frame n kept) (Frame n b) i) (Todo [] (code.Binary op to (Frame n b) (Frame n b) (Frame n at)) ∷ r)) m c (24 + (10 * bytes_of to + 30 + q)) l xr le room hx p
    (λ d1 m1 above1 h1 p1.
    keep_then z g T n s w due now small keeps kept b i (Todo [] (code.Binary op to (Frame n b) (Frame n b) (Frame n at)) ∷ r) m1 d1 (10 * bytes_of to + 30 + q) l few above_b kept_room (omega arith) p1
    (λ d2 m2 above2 h2 p2.
    sum_then z g T n s w due now op v y b at r m2 d2 q l sum vr yr same_ty low room
    (datum_above z n b kept (datum.Number v) m1 m2 above_to above2 h1)
    (datum_above z n at b (datum.Number y) m m2 (let e = ap bytes_of same_ty in omega arith) (above_then n b m m1 m2 above1 (lower_above n b kept m1 m2 (omega arith) above2)) hy)
    p2
    (λ d3 m3 above3 behind3 h3 p3.
    next d3 m3
    (above_then n b m m1 m3 above1 (above_then n b m1 m2 m3 (lower_above n b kept m1 m2 (omega arith) above2) above3))
    h3
    (λ e j lt. behind3 (kept + j) (omega arith) ∙ h2 e j lt ∙ h1 j (omega arith) ∙ ap (λ t. held z (values.Number t)) (widened_byte to x j le (omega arith) xr))
    p3)))
