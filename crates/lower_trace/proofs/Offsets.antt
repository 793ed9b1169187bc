-- A pointer and a number of elements: the number is scaled, if an element has more than one byte, and the pointer moved.
use Rattle.c_ints.specs.Quantity.{Quantity}
use Rattle.c_ints.specs.Range.{IsInRange, bytes_of, pattern}
use Rattle.c_ints.specs.declared.types.IntTy.TheVariants as int
use Rattle.c_ints.specs.declared.types.IntTy.{IntTy}
use Rattle.c_typed.specs.Sameness.{is_pointer}
use Rattle.c_typed.specs.Trees as tree
use Rattle.c_typed.specs.Trees.{Expression}
use Rattle.c_typed.specs.Types.{type_of}
use Rattle.c_typed.specs.declared.types.Ty.{Ty}
use Rattle.core_code.specs.Bytes.{Held, Memory, misses}
use Rattle.core_code.specs.Machine.{Machine, Task, Do as Todo, Waiting}
use Rattle.core_code.specs.Tree as code
use Rattle.core_code.specs.declared.code.Byte.TheVariants.{Frame}
use Rattle.core_puts.specs.Bytes as lower
use Rattle.core_puts.specs.Bytes.{beyond}
use Rattle.core_puts.specs.Puts.{operator}
use Rattle.lower_expr.specs.Rows.{offset_row, scaled}
use Rattle.lower_trace.proofs.Beginnings.{Follow}
use Rattle.lower_trace.proofs.Changing.{OnlyAbove, above_then, agrees_above, datum_above, holds_above, lower_above}
use Rattle.lower_trace.proofs.CodeLeft.{Scene, base, code_after, core_in, ground_in, held, number, source_in, stack_after, todo, wanted}
use Rattle.lower_trace.proofs.Constants.{again_below, due_below}
use Rattle.lower_trace.proofs.Flow.{arrive}
use Rattle.lower_trace.proofs.Giving.{Around, placed_of, value_high}
use Rattle.lower_trace.proofs.Kept.{SceneLaws, own_copy}
use Rattle.lower_trace.proofs.Members.{if_datum}
use Rattle.lower_trace.proofs.Mirrors.{HasDatum, Mirrors}
use Rattle.lower_trace.proofs.Operating.{apart_operands}
use Rattle.lower_trace.proofs.Operations.{Comes, beyond_is, comes_within, le_true, or_second}
use Rattle.lower_trace.proofs.Placed.{Placed, todo_join}
use Rattle.lower_trace.proofs.PointerSums.{PointsThere, SameMove, mover, pointer_sum_then, signed}
use Rattle.lower_trace.proofs.Scaling.{scaled_then, uint}
use Rattle.pic_world.specs.World.{World, arrived, is_due, world_as}
use Rattle.src_rules.specs.Giving.{answered, take_in}
use Rattle.src_rules.specs.State.{state}
use Rattle.src_values.specs.Control.{In, One, Pending, Holds as Value, active}
use Rattle.src_values.specs.Data as datum
use Rattle.src_values.specs.Memory as source
use Rattle.src_values.specs.Objects.{moved}
use Rattle.src_values.specs.Values.{byte_count, distance, offset_answer, pointer_or_outside}
use Rattle.src_values.specs.declared.objects.Byte as value
use Rattle.src_values.specs.declared.objects.Byte.TheVariants as values
use Rattle.src_values.specs.declared.objects.CopyOf.{CopyOf}
use Rattle.src_values.specs.declared.objects.Pointer.{Pointer}
use Rattle.std.proofs.Common.{Bool, List, None, Option, Some, [], ap, arith, false, if◌then◌else◌, nat_eq, negsuc, not, pos, refl, subst, suc, sym, true, zero, ℕ, ℤ, ◌%◌, ◌*◌, ◌++◌, ◌+ℤ◌, ◌+◌, ◌/◌, ◌<◌, ◌^◌, ◌∙◌, ◌∷◌, ◌≡◌, ◌≤◌}
use Rattle.std.proofs.Math.Nat.{suc-mul}
use Rattle.std.proofs.lemmas.Grind.{common_steps}
use Rattle.std.proofs.lemmas.Int.{ints}
use Rattle.std.proofs.Common.{neg_ℤ, ◌*ℤ◌}
use Rattle.std.proofs.Math.IntN.{pos-*ℤ-pos, negsuc-*ℤ-pos}

-- ---- the distance
pub moved_by : Bool → ℕ → ℤ → ℤ
moved_by true size n = neg_ℤ (n *ℤ pos size)
moved_by false size n = n *ℤ pos size

pub distance_is : (minus : Bool) (size : ℕ) (n : ℤ) → distance (mover minus) size n ≡ moved_by minus size n
unfolding moved_by
distance_is true size n = refl
distance_is false size n = refl

one_times : (size : ℕ) → pos 1 *ℤ pos size ≡ pos size
one_times size = let e : 1 * size ≡ size = omega arith in pos-*ℤ-pos 1 size ∙ ap pos e

-- the distance of one element
pub one_element : (minus : Bool) (size : ℕ) → moved_by minus size (pos 1) ≡ signed minus size
unfolding moved_by
one_element true size = ap neg_ℤ (one_times size)
one_element false size = one_times size

wide_pattern : (ty : IntTy) (a : ℕ) → bytes_of ty ≡ 2 → IsInRange ty (pos a) → (pattern ty (pos a) ≡ a) × (a < 65536)
wide_pattern int.Short a e r = (omega (arith, ints), omega (arith, ints))
wide_pattern int.UShort a e r = (omega (arith, ints), omega (arith, ints))
wide_pattern int.Int a e r = (omega (arith, ints), omega (arith, ints))
wide_pattern int.UInt a e r = (omega (arith, ints), omega (arith, ints))
wide_pattern int.Char a e r = absurd (omega arith)
wide_pattern int.SChar a e r = absurd (omega arith)
wide_pattern int.UChar a e r = absurd (omega arith)
wide_pattern int.Long a e r = absurd (omega arith)
wide_pattern int.ULong a e r = absurd (omega arith)

less_pattern : (ty : IntTy) (a : ℕ) → bytes_of ty ≡ 2 → IsInRange ty (negsuc a) → pattern ty (negsuc a) + suc a ≡ 65536
less_pattern int.Short a e r = omega (arith, ints)
less_pattern int.UShort a e r = absurd (omega (arith, ints))
less_pattern int.Int a e r = omega (arith, ints)
less_pattern int.UInt a e r = absurd (omega (arith, ints))
less_pattern int.Char a e r = absurd (omega arith)
less_pattern int.SChar a e r = absurd (omega arith)
less_pattern int.UChar a e r = absurd (omega arith)
less_pattern int.Long a e r = absurd (omega arith)
less_pattern int.ULong a e r = absurd (omega arith)

pub few_pattern : (ty : IntTy) (n : ℤ) → bytes_of ty ≡ 2 → IsInRange ty n → pattern ty n < 65536
few_pattern ty (pos a) e r = let h = wide_pattern ty a e r in let p = h.0 in let q = h.1 in omega arith
few_pattern ty (negsuc a) e r = let h = less_pattern ty a e r in omega arith

sum_times : (a b c : ℕ) → (a + b) * c ≡ a * c + b * c
sum_times zero b c = let e : (zero + b) * c ≡ b * c = ap (λ t. t * c) (omega arith) in let f : zero * c ≡ 0 = omega arith in omega arith
sum_times (suc a) b c =
    let e : (suc a + b) * c ≡ suc (a + b) * c = ap (λ t. t * c) (omega arith) in
    let f = suc-mul (a + b) c in
    let g = suc-mul a c in
    let i = sum_times a b c in
    omega arith

ahead : (p : ℕ) → pos (p % 65536) +ℤ pos (p / 65536 * 65536) ≡ pos p +ℤ pos (0 * 65536)
ahead p = omega (arith, ints)

back : (p : ℕ) → neg_ℤ (pos (p % 65536)) +ℤ pos (0 * 65536) ≡ neg_ℤ (pos p) +ℤ pos (p / 65536 * 65536)
back p = omega (arith, ints)

ahead_less : (p n size : ℕ) → p + n ≡ 65536 * size → pos (p % 65536) +ℤ pos (p / 65536 * 65536) ≡ neg_ℤ (pos n) +ℤ pos (size * 65536)
ahead_less p n size e = omega (arith, ints)

back_less : (p n size : ℕ) → p + n ≡ 65536 * size → neg_ℤ (pos (p % 65536)) +ℤ pos (size * 65536) ≡ neg_ℤ (neg_ℤ (pos n)) +ℤ pos (p / 65536 * 65536)
back_less p n size e = omega (arith, ints)

-- a number's bits times the size are its distance, modulo 65,536
pub same_distance : (minus : Bool) (ty : IntTy) (n : ℤ) (size : ℕ) → bytes_of ty ≡ 2 → IsInRange ty n → SameMove minus (pattern ty n * size % 65536) (moved_by minus size n)
unfolding moved_by
same_distance true ty (pos a) size e r =
    let p = pattern ty (pos a) * size in
    let is : p ≡ a * size = ap (λ t. t * size) (wide_pattern ty a e r).0 in
    record { j = 0; i = p / 65536; same = back p ∙ ap (λ t. neg_ℤ t +ℤ pos (p / 65536 * 65536)) (ap pos is ∙ sym (pos-*ℤ-pos a size)) }
same_distance false ty (pos a) size e r =
    let p = pattern ty (pos a) * size in
    let is : p ≡ a * size = ap (λ t. t * size) (wide_pattern ty a e r).0 in
    record { j = p / 65536; i = 0; same = ahead p ∙ ap (λ t. t +ℤ pos (0 * 65536)) (ap pos is ∙ sym (pos-*ℤ-pos a size)) }
same_distance true ty (negsuc a) size e r =
    let p = pattern ty (negsuc a) * size in
    let all : p + suc a * size ≡ 65536 * size = sym (sum_times (pattern ty (negsuc a)) (suc a) size) ∙ ap (λ t. t * size) (less_pattern ty a e r) in
    record { j = size; i = p / 65536; same = back_less p (suc a * size) size all ∙ ap (λ t. neg_ℤ t +ℤ pos (p / 65536 * 65536)) (sym (negsuc-*ℤ-pos a size)) }
same_distance false ty (negsuc a) size e r =
    let p = pattern ty (negsuc a) * size in
    let all : p + suc a * size ≡ 65536 * size = sym (sum_times (pattern ty (negsuc a)) (suc a) size) ∙ ap (λ t. t * size) (less_pattern ty a e r) in
    record { j = p / 65536; i = size; same = ahead_less p (suc a * size) size all ∙ ap (λ t. t +ℤ pos (size * 65536)) (sym (negsuc-*ℤ-pos a size)) }

-- ---- the number's bytes
uint_pattern : (n : ℕ) → n < 65536 → pattern int.UInt (pos n) ≡ n
uint_pattern n lt = omega (arith, ints)

pub bits_there : (z : Scene) (n at : ℕ) (q : Quantity) (m : Memory) → bytes_of q.ty ≡ 2 → IsInRange q.ty q.number → HasDatum z n at (datum.Number q) m → HasDatum z n at (datum.Number (uint (pattern q.ty q.number))) m
bits_there z n at q m e r h i lt = h i (omega arith) ∙ ap (λ t. held z (values.Number (t / 256 ^ i % 256))) (sym (uint_pattern (pattern q.ty q.number) (few_pattern q.ty q.number e r)))

pub one_size : (x size : ℕ) → nat_eq size 1 ≡ true → x < 65536 → x ≡ x * size % 65536
one_size x size e lt = let is : size ≡ 1 = grind (arith, common_steps) in let q : x * size ≡ x * 1 = ap (λ t. x * t) is in let o : x * 1 ≡ x = omega arith in omega arith

misses_high : (n b y : ℕ) → b + 2 ≤ y → misses (Frame n b) 2 (Frame n y) 2 ≡ true
misses_high n b y le = let e = le_true (b + 2) y le in or_second (not (nat_eq n n)) _ (rw e refl)

module _ (z : Scene) (laws : SceneLaws z) where
  -- the pointer at b is moved by the number at `index`, which is scaled at `scaled_at`, if an element has more than one byte
  pub elements_then : (one : Bool) (minus : Bool) (size : ℕ) (x y : Pointer) (q : Quantity) (n b index scaled_at : ℕ) (T : Machine → Type 0) (s : List Waiting) (w : World Held) (due : is_due w ≡ false) (now : arrived (core_in z).outside w ≡ w) (r : List Task) (m : Memory) (c : Machine) → nat_eq size 1 ≡ one → bytes_of q.ty ≡ 2 → IsInRange q.ty q.number → 1 ≤ size → size < 2199023255552 → PointsThere z.program x
      → moved z.program x (moved_by minus size q.number) ≡ Some y → index + 2 ≤ scaled_at → b + 2 ≤ scaled_at → misses (Frame n b) 2 (Frame n index) 2 ≡ true → b + 2 ≤ (core_in z).program.frame_bytes n → index + 2 ≤ (core_in z).program.frame_bytes n → (one ≡ false → scaled_at + 2 ≤ (core_in z).program.frame_bytes n) → HasDatum z n b (datum.Pointer x) m → HasDatum z n index (datum.Number q) m
      → Placed (core_in z) n None (todo (if one then operator (mover minus) int.UInt (Frame n b) (Frame n index) ∷ [] else (scaled (Frame n scaled_at) (Frame n index) size ++ operator (mover minus) int.UInt (Frame n b) (Frame n scaled_at) ∷ [])) r) s m w c
      → ((d : Machine) (m' : Memory) → OnlyAbove n b m m' → HasDatum z n b (datum.Pointer y) m' → Placed (core_in z) n None r s m' w d → Comes (core_in z) T 0 0 d) → Comes (core_in z) T 1632 0 c
  elements_then true minus size x y q n b index scaled_at T s w due now r m c one two range some few there is low front_is apart room from far_room hx hq p next =
      let num = pattern q.ty q.number in
      let lt = few_pattern q.ty q.number two range in
      let hn : HasDatum z n index (datum.Number (uint (num * size % 65536))) m = subst (λ t. HasDatum z n index (datum.Number (uint t)) m) (one_size num size one lt) (bits_there z n index q m two range hq) in
      comes_within (core_in z) T (20 + 0) 0 1632 0 c
      (pointer_sum_then z laws minus x y (moved_by minus size q.number) (num * size % 65536) n b index T s w due now r m c 0 0 there is (omega arith) (same_distance minus q.ty q.number size two range) apart room from hx hn p
      (λ d m' far above h pd. next d m' above h pd))
      (omega arith) (omega arith)
  elements_then false minus size x y q n b index scaled_at T s w due now r m c one two range some few there is low front_is apart room from far_room hx hq p next =
      let num = pattern q.ty q.number in
      let lt = few_pattern q.ty q.number two range in
      let hn = bits_there z n index q m two range hq in
      let far_in = far_room refl in
      comes_within (core_in z) T (1612 + (20 + 0)) 0 1632 0 c
      (scaled_then z (core_in z) T n s w due now (laws.small n) size num scaled_at index (Todo [] (code.Binary (mover minus) int.UInt (Frame n b) (Frame n b) (Frame n scaled_at)) ∷ r) m c (20 + 0) 0 some few lt low far_in hn
      (subst (λ t. Placed (core_in z) n None t s m w c) (todo_join (scaled (Frame n scaled_at) (Frame n index) size) (operator (mover minus) int.UInt (Frame n b) (Frame n scaled_at) ∷ []) r) p)
      (λ d1 m1 above1 h1 p1.
      pointer_sum_then z laws minus x y (moved_by minus size q.number) (num * size % 65536) n b scaled_at T s w due now r m1 d1 0 0 there is (omega arith) (same_distance minus q.ty q.number size two range) (misses_high n b scaled_at front_is) room far_in
      (datum_above z n b scaled_at (datum.Pointer x) m m1 (pointer_few x) above1 hx) h1 p1
      (λ d m' far above h pd. next d m' (above_then n b m m1 m' (lower_above n b scaled_at m m1 (omega arith) above1) above) h pd)))
      (omega arith) (omega arith)
    where
      pointer_few : (x : Pointer) → b + byte_count (datum.Pointer x) ≤ scaled_at
      pointer_few x = front_is

  offset_case : (o : Option Pointer) (minus : Bool) (left right : Expression) (size : ℕ) (ty : Ty) (line : ℕ) (x : Pointer) (q : Quantity) (k : List Pending) (cp : CopyOf) (l : source.Memory) (w : World value.Byte) (c : Machine) → moved z.program x (moved_by minus size q.number) ≡ o → Around z cp k → is_pointer (type_of left) ≡ true → bytes_of q.ty ≡ 2 → IsInRange q.ty q.number → 1 ≤ size → size < 2199023255552 → PointsThere z.program x
      → base (ground_in z cp) k + (if nat_eq size 1 then 4 else 6) ≤ (core_in z).program.frame_bytes (number z cp) → is_due (arrived z.outside w) ≡ false
      → Mirrors z (state cp (Value (datum.Number q)) (In (tree.Offset (mover minus) left right size ty line) (One (datum.Pointer x)) ∷ k) l w) c
      → Follow z 1632 0 c (answered (pointer_or_outside o) line k cp l (arrived z.outside w))
  unfolding active
  offset_case None minus left right size ty line x q k cp l w c is around points two range some few there room due h = tt
  offset_case (Some y) minus left right size ty line x q k cp l w c is around points two range some few there room due h =
      let e = tree.Offset (mover minus) left right size ty line in
      let g = ground_in z cp in
      let n = number z cp in
      let b = base g k in
      let small = laws.small n in
      let within : b + 4 ≤ 96 = least_room (nat_eq size 1) b ((core_in z).program.frame_bytes n) room small in
      let W = world_as (held z) (arrived z.outside w) in
      let T = Mirrors z (state cp (Value (datum.Pointer y)) k l (arrived z.outside w)) in
      let second : beyond b 2 ≡ b + 2 = beyond_is b 2 (omega arith) in
      let third : beyond b 4 ≡ b + 4 = beyond_is b 4 (omega arith) in
      let op = mover minus in
      let one = nat_eq size 1 in
      let now : todo (offset_row op (Frame g.copy b) (is_pointer (type_of left)) size) (code_after g k) ≡ todo (if one then operator op int.UInt (Frame n b) (Frame n (b + 2)) ∷ [] else (scaled (Frame n (b + 4)) (Frame n (b + 2)) size ++ operator op int.UInt (Frame n b) (Frame n (b + 4)) ∷ [])) (code_after g k) =
      ap (λ t. todo (offset_row op (Frame g.copy b) t size) (code_after g k)) points
      ∙ ap (λ t. todo (if one then operator op int.UInt (Frame g.copy b) (Frame g.copy t) ∷ [] else (scaled (lower.behind (Frame g.copy b) 4) (Frame g.copy t) size ++ operator op int.UInt (Frame g.copy b) (lower.behind (Frame g.copy b) 4) ∷ [])) (code_after g k)) second
      ∙ ap (λ t. todo (if one then operator op int.UInt (Frame g.copy b) (Frame g.copy (b + 2)) ∷ [] else (scaled (Frame g.copy t) (Frame g.copy (b + 2)) size ++ operator op int.UInt (Frame g.copy b) (Frame g.copy t) ∷ [])) (code_after g k)) third
      ∙ ap (λ t. todo (if one then operator op int.UInt (Frame t b) (Frame t (b + 2)) ∷ [] else (scaled (Frame t (b + 4)) (Frame t (b + 2)) size ++ operator op int.UInt (Frame t b) (Frame t (b + 4)) ∷ [])) (code_after g k)) (own_copy z cp) in
      let hx : HasDatum z n b (datum.Pointer x) c.memory = subst (λ t. HasDatum z t b (datum.Pointer x) c.memory) (own_copy z cp) h.holds.0 in
      let hq : HasDatum z n (b + 2) (datum.Number q) c.memory = subst (λ t. HasDatum z n t (datum.Number q) c.memory) second (subst (λ t. HasDatum z t (beyond b 2) (datum.Number q) c.memory) (own_copy z cp) h.value) in
      let in_four = four_in one b ((core_in z).program.frame_bytes n) room in
      elements_then one minus size x y q n b (b + 2) (b + 4) T (stack_after z g k) W (due_below z (arrived z.outside w) due) (again_below z w) (code_after g k) c.memory c refl two range some few there is (omega arith) (omega arith) (apart_operands n b 2) (omega arith) (omega arith) (six_in one b ((core_in z).program.frame_bytes n) room) hx hq
      (subst (λ t. Placed (core_in z) n None t (stack_after z g k) c.memory W c) now (placed_of z (state cp (Value (datum.Number q)) (In e (One (datum.Pointer x)) ∷ k) l w) c h))
      (λ d m' above hy pd.
      arrive z cp (Value (datum.Pointer y)) k l w m' d pd
      (agrees_above z laws cp (active cp (Value (datum.Pointer y)) k) l c.memory m' b around.reached (value_high z cp k around) above h.agrees)
      (holds_above z cp k c.memory m' b around (omega arith) above h.holds.1)
      (if_datum z (wanted k) g.copy b (datum.Pointer y) m' (subst (λ t. HasDatum z t b (datum.Pointer y) m') (sym (own_copy z cp)) hy)))
    where
      four_in : (one : Bool) (b frame : ℕ) → b + (if one then 4 else 6) ≤ frame → b + 4 ≤ frame
      four_in true b frame le = omega arith
      four_in false b frame le = omega arith

      six_in : (one : Bool) (b frame : ℕ) → b + (if one then 4 else 6) ≤ frame → one ≡ false → b + 4 + 2 ≤ frame
      six_in true b frame le e = absurd (cc)
      six_in false b frame le e = omega arith

      least_room : (one : Bool) (b frame : ℕ) → b + (if one then 4 else 6) ≤ frame → frame ≤ 96 → b + 4 ≤ 96
      least_room true b frame le small = omega arith
      least_room false b frame le small = omega arith

  pub offset_given : (minus : Bool) (left right : Expression) (size : ℕ) (ty : Ty) (line : ℕ) (x : Pointer) (q : Quantity) (k : List Pending) (cp : CopyOf) (l : source.Memory) (w : World value.Byte) (c : Machine) → Around z cp k → is_pointer (type_of left) ≡ true → bytes_of q.ty ≡ 2 → IsInRange q.ty q.number → 1 ≤ size → size < 2199023255552 → PointsThere z.program x
      → base (ground_in z cp) k + (if nat_eq size 1 then 4 else 6) ≤ (core_in z).program.frame_bytes (number z cp) → is_due (arrived z.outside w) ≡ false
      → Mirrors z (state cp (Value (datum.Number q)) (In (tree.Offset (mover minus) left right size ty line) (One (datum.Pointer x)) ∷ k) l w) c
      → Follow z 1632 0 c (take_in (source_in z) (tree.Offset (mover minus) left right size ty line) (One (datum.Pointer x)) (datum.Number q) k cp l (arrived z.outside w))
  unfolding offset_answer
  offset_given minus left right size ty line x q k cp l w c around points two range some few there room due h =
      offset_case (moved z.program x (distance (mover minus) size q.number)) minus left right size ty line x q k cp l w c (ap (λ t. moved z.program x t) (sym (distance_is minus size q.number))) around points two range some few there room due h
