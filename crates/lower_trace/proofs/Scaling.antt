-- A number times the size of an element: doubled for each binary digit of the size, and added where the digit is 1.
use Rattle.c_ints.specs.Operators.{value_of}
use Rattle.c_ints.specs.Quantity.{Quantity}
use Rattle.c_ints.specs.Range.{IsInRange, cut}
use Rattle.c_ints.specs.declared.operators.BinOp.TheVariants as ops
use Rattle.c_ints.specs.declared.types.IntTy.TheVariants as int
use Rattle.core_code.specs.Bytes.{Held, Memory, same_byte, with_bytes}
use Rattle.core_code.specs.Machine.{Machine, Setting, Task, Do as Todo, Waiting}
use Rattle.core_code.specs.Operands.{fits_together}
use Rattle.core_code.specs.Values as core
use Rattle.core_code.specs.Values.{binary_value}
use Rattle.core_code.specs.declared.code.Byte.TheVariants.{Frame}
use Rattle.core_puts.specs.Puts.{copies, operator}
use Rattle.lower_expr.specs.Rows.{multiples, odd_part, scaled}
use Rattle.lower_trace.proofs.Changing.{OnlyAbove, above_same, above_then, above_written, datum_above}
use Rattle.lower_trace.proofs.CodeLeft.{Scene, todo}
use Rattle.lower_trace.proofs.FixedWrites.{move_then}
use Rattle.lower_trace.proofs.Mirrors.{HasDatum}
use Rattle.lower_trace.proofs.Moving.{binary_any_then}
use Rattle.lower_trace.proofs.Operating.{itself, value_number}
use Rattle.lower_trace.proofs.Operations.{Comes, comes_within, le_true, own_frame, or_second}
use Rattle.lower_trace.proofs.Placed.{Placed, todo_join}
use Rattle.lower_trace.proofs.Written.{both, bytes_there}
use Rattle.pic_world.specs.World.{World, arrived, is_due}
use Rattle.src_values.specs.Data as datum
use Rattle.std.proofs.Common.{Bool, List, None, [], ap, arith, false, if◌then◌else◌, inr, nat_eq, nat_le, nat_lt, not, pos, refl, subst, suc, true, zero, ℕ, ◌%◌, ◌*◌, ◌++◌, ◌+ℤ◌, ◌+◌, ◌/◌, ◌<◌, ◌∙◌, ◌∷◌, ◌≡◌, ◌≤◌}
use Rattle.std.proofs.Math.Nat.{suc-mul}
use Rattle.std.proofs.lemmas.Grind.{common_steps}
use Rattle.std.proofs.lemmas.Int.{ints}

-- a number below 65,536 as an unsigned int
abbrev pub uint : ℕ → Quantity
uint n = record { ty = int.UInt; number = pos n }

pub uint_range : (n : ℕ) → n < 65536 → IsInRange (uint n).ty (uint n).number
uint_range n lt = (omega (arith, ints), omega (arith, ints))

cut_sum : (x y : ℕ) → cut int.UInt (pos x +ℤ pos y) ≡ pos ((x + y) % 65536)
cut_sum x y = omega (arith, ints)

pub uint_sum : (x y : ℕ) → value_of ops.Add (uint x) (uint y) ≡ uint ((x + y) % 65536)
uint_sum x y = ap (λ t. record { ty = int.UInt; number = t }) (cut_sum x y)

two_parts : (x h r : ℕ) → x * (2 * h + r) ≡ 2 * (x * h) + x * r
two_parts zero h r = omega arith
two_parts (suc x) h r = let e = two_parts x h r in
    let f = suc-mul x (2 * h + r) in
    let g = suc-mul x h in
    let i = suc-mul x r in
    omega arith

-- one more than the digits that a size may have
abbrev pub two_to : ℕ → ℕ
two_to zero = 2
two_to (suc d) = 2 * two_to d

module _ (z : Scene) (g : Setting) (T : Machine → Type 0) (n : ℕ) (s : List Waiting) (w : World Held) (due : is_due w ≡ false) (now : arrived g.outside w ≡ w) (small : g.program.frame_bytes n ≤ 96) where
  -- a number is doubled where it stands
  double_then : (x b : ℕ) (r : List Task) (m : Memory) (c : Machine) (q l : ℕ) → x < 65536 → b + 2 ≤ g.program.frame_bytes n → HasDatum z n b (datum.Number (uint x)) m
      → Placed g n None (Todo [] (operator ops.Add int.UInt (Frame n b) (Frame n b)) ∷ r) s m w c
      → ((d : Machine) (m' : Memory) → OnlyAbove n b m m' → HasDatum z n b (datum.Number (uint ((x + x) % 65536))) m' → Placed g n None r s m' w d → Comes g T q l d) → Comes g T (20 + q) l c
  unfolding fits_together binary_value
  double_then x b r m c q l lt room hx p next =
      let v = value_of ops.Add (uint x) (uint x) in
      let m' = with_bytes m (Frame n b) 2 (core.byte_of (core.Number v)) in
      let vx = value_number z n b (uint x) m (uint_range x lt) hx in
      let own = own_frame g.program n b 2 room in
      binary_any_then g T n s w due now ops.Add int.UInt (Frame n b) (Frame n b) (Frame n b) (core.Number (uint x)) (core.Number (uint x)) (core.Number v) r m c q l 20
      (λ before. both _ _ (itself n b 2) (itself n b 2)) (λ count. refl) own own vx vx (λ s' e. refl) own (λ count. omega arith) p
      (λ d pd. next d m' (above_written n b b 2 m (core.byte_of (core.Number v)) (omega arith))
      (subst (λ t. HasDatum z n b (datum.Number t) m') (uint_sum x x) (λ j few. bytes_there m n b 2 (core.byte_of (core.Number v)) j few)) pd)

  -- the number itself is added, if the digit is 1
  odd_then : (odd : Bool) (size x v b y : ℕ) (r : List Task) (m : Memory) (c : Machine) (q l : ℕ) → nat_eq (size % 2) 1 ≡ odd → x < 65536 → v < 65536 → y + 2 ≤ b → b + 2 ≤ g.program.frame_bytes n → HasDatum z n b (datum.Number (uint v)) m → HasDatum z n y (datum.Number (uint x)) m
      → Placed g n None (todo (odd_part (Frame n b) (Frame n y) size) r) s m w c
      → ((d : Machine) (m' : Memory) → OnlyAbove n b m m' → HasDatum z n b (datum.Number (uint ((v + (if odd then x else 0)) % 65536))) m' → Placed g n None r s m' w d → Comes g T q l d) → Comes g T (20 + q) l c
  unfolding fits_together binary_value
  odd_then true size x v b y r m c q l odd lt vl low room hv hx p next =
      let sum = value_of ops.Add (uint v) (uint x) in
      let m' = with_bytes m (Frame n b) 2 (core.byte_of (core.Number sum)) in
      let vv = value_number z n b (uint v) m (uint_range v vl) hv in
      let vx = value_number z n y (uint x) m (uint_range x lt) hx in
      let own = own_frame g.program n b 2 room in
      binary_any_then g T n s w due now ops.Add int.UInt (Frame n b) (Frame n b) (Frame n y) (core.Number (uint v)) (core.Number (uint x)) (core.Number sum) r m c q l 20
      (λ before. both _ _ (itself n b 2) (or_second (same_byte (Frame n b) (Frame n y)) _ (or_second (not (nat_eq n n)) _ (or_second (nat_le (b + 2) y) (nat_le (y + 2) b) (le_true (y + 2) b low))))) (λ count. refl)
      own (own_frame g.program n y 2 (omega arith)) vv vx (λ s' e. refl) own (λ count. omega arith)
      (subst (λ t. Placed g n None t s m w c) (ap (λ t. todo (if t then operator ops.Add int.UInt (Frame n b) (Frame n y) ∷ [] else []) r) odd) p)
      (λ d pd. next d m' (above_written n b b 2 m (core.byte_of (core.Number sum)) (omega arith))
      (subst (λ t. HasDatum z n b (datum.Number t) m') (uint_sum v x) (λ j few. bytes_there m n b 2 (core.byte_of (core.Number sum)) j few)) pd)
  odd_then false size x v b y r m c q l odd lt vl low room hv hx p next =
      comes_within g T q l (20 + q) l c
      (next c m (above_same n b m) (subst (λ t. HasDatum z n b (datum.Number (uint t)) m) (let e : v ≡ (v + 0) % 65536 = omega arith in e) hv)
      (subst (λ t. Placed g n None t s m w c) (ap (λ t. todo (if t then operator ops.Add int.UInt (Frame n b) (Frame n y) ∷ [] else []) r) odd) p))
      (omega arith) (omega arith)

  digit_is : (odd : Bool) (x size : ℕ) → nat_eq (size % 2) 1 ≡ odd → ((x * (size / 2) % 65536 + x * (size / 2) % 65536) % 65536 + (if odd then x else 0)) % 65536 ≡ x * size % 65536
  digit_is true x size e =
      let one : size % 2 ≡ 1 = grind (arith, common_steps) in
      let parts = two_parts x (size / 2) 1 in
      let whole : size ≡ 2 * (size / 2) + 1 = omega arith in
      let q : x * size ≡ x * (2 * (size / 2) + 1) = ap (λ t. x * t) whole in
      let o : x * 1 ≡ x = omega arith in
      sums_one x (x * (size / 2)) (x * size) (omega arith)
    where
      sums_one : (x p a : ℕ) → a ≡ 2 * p + x → ((p % 65536 + p % 65536) % 65536 + x) % 65536 ≡ a % 65536
      sums_one x p a e = omega arith
  digit_is false x size e =
      let none : size % 2 ≡ 0 = grind (arith, common_steps) in
      let parts = two_parts x (size / 2) 0 in
      let whole : size ≡ 2 * (size / 2) + 0 = omega arith in
      let q : x * size ≡ x * (2 * (size / 2) + 0) = ap (λ t. x * t) whole in
      let o : x * 0 ≡ 0 = omega arith in
      sums_none (x * (size / 2)) (x * size) (omega arith)
    where
      sums_none : (p a : ℕ) → a ≡ 2 * p → ((p % 65536 + p % 65536) % 65536 + 0) % 65536 ≡ a % 65536
      sums_none p a e = omega arith

  once : (x size : ℕ) → size ≡ 1 → x < 65536 → x ≡ x * size % 65536
  once x size e lt = let q : x * size ≡ x * 1 = ap (λ t. x * t) e in let o : x * 1 ≡ x = omega arith in omega arith

  abbrev Multiplies : ℕ → Type 0
  Multiplies digits = (e size x b y : ℕ) (r : List Task) (m : Memory) (c : Machine) (q l : ℕ) → 1 ≤ size → size < two_to e → e ≤ digits → x < 65536 → y + 2 ≤ b → b + 2 ≤ g.program.frame_bytes n → HasDatum z n b (datum.Number (uint x)) m → HasDatum z n y (datum.Number (uint x)) m
      → Placed g n None (todo (multiples (Frame n b) (Frame n y) size digits) r) s m w c
      → ((d : Machine) (m' : Memory) → OnlyAbove n b m m' → HasDatum z n b (datum.Number (uint (x * size % 65536))) m' → Placed g n None r s m' w d → Comes g T q l d) → Comes g T (40 * e + q) l c

  multiples_case : (few : Bool) (e digits size x b y : ℕ) (r : List Task) (m : Memory) (c : Machine) (q l : ℕ) → Multiplies digits → nat_lt size 2 ≡ few → 1 ≤ size → size < two_to e → e ≤ suc digits → x < 65536 → y + 2 ≤ b → b + 2 ≤ g.program.frame_bytes n → HasDatum z n b (datum.Number (uint x)) m → HasDatum z n y (datum.Number (uint x)) m
      → Placed g n None (todo (if few then [] else ((multiples (Frame n b) (Frame n y) (size / 2) digits ++ (operator ops.Add int.UInt (Frame n b) (Frame n b) ∷ [])) ++ odd_part (Frame n b) (Frame n y) size)) r) s m w c
      → ((d : Machine) (m' : Memory) → OnlyAbove n b m m' → HasDatum z n b (datum.Number (uint (x * size % 65536))) m' → Placed g n None r s m' w d → Comes g T q l d) → Comes g T (40 * e + q) l c
  multiples_case true e digits size x b y r m c q l more few some lt deep xl low room hb hy p next =
      let one : size ≡ 1 = grind (arith, common_steps) in
      comes_within g T q l (40 * e + q) l c
      (next c m (above_same n b m) (subst (λ t. HasDatum z n b (datum.Number (uint t)) m) (once x size one xl) hb) p)
      (omega arith) (omega arith)
  multiples_case false zero digits size x b y r m c q l more few some lt deep xl low room hb hy p next = absurd (grind (arith, common_steps))
  multiples_case false (suc e) digits size x b y r m c q l more few some lt deep xl low room hb hy p next =
      let two : 2 ≤ size = grind (arith, common_steps) in
      let half = size / 2 in
      let v = x * half % 65536 in
      let R = todo (odd_part (Frame n b) (Frame n y) size) r in
      comes_within g T (40 * e + (20 + (20 + q))) l (40 * suc e + q) l c
      (more e half x b y (Todo [] (operator ops.Add int.UInt (Frame n b) (Frame n b)) ∷ R) m c (20 + (20 + q)) l (omega arith) (omega arith) (omega arith) xl low room hb hy
      (subst (λ t. Placed g n None t s m w c) (todo_join (multiples (Frame n b) (Frame n y) half digits ++ (operator ops.Add int.UInt (Frame n b) (Frame n b) ∷ [])) (odd_part (Frame n b) (Frame n y) size) r ∙ todo_join (multiples (Frame n b) (Frame n y) half digits) (operator ops.Add int.UInt (Frame n b) (Frame n b) ∷ []) R) p)
      (λ d1 m1 above1 h1 p1.
      double_then v b R m1 d1 (20 + q) l (omega arith) room h1 p1
      (λ d2 m2 above2 h2 p2.
      odd_then (nat_eq (size % 2) 1) size x ((v + v) % 65536) b y r m2 d2 q l refl xl (omega arith) low room h2 (datum_above z n y b (datum.Number (uint x)) m m2 low (above_then n b m m1 m2 above1 above2) hy) p2
      (λ d3 m3 above3 h3 p3.
      next d3 m3 (above_then n b m m2 m3 (above_then n b m m1 m2 above1 above2) above3)
      (subst (λ t. HasDatum z n b (datum.Number (uint t)) m3) (digit_is (nat_eq (size % 2) 1) x size refl) h3) p3))))
      (omega arith) (omega arith)

  multiples_then : (digits : ℕ) → Multiplies digits
  unfolding multiples
  multiples_then zero zero size x b y r m c q l some lt deep xl low room hb hy p next =
      comes_within g T q l (40 * 0 + q) l c
      (next c m (above_same n b m) (subst (λ t. HasDatum z n b (datum.Number (uint t)) m) (once x size (omega arith) xl) hb) p)
      (omega arith) (omega arith)
  multiples_then zero (suc e) size x b y r m c q l some lt deep xl low room hb hy p next = absurd (omega arith)
  multiples_then (suc digits) e size x b y r m c q l some lt deep xl low room hb hy p next = multiples_case (nat_lt size 2) e digits size x b y r m c q l (multiples_then digits) refl some lt deep xl low room hb hy p next

  -- the number at y times the size, which has 41 binary digits at most, at b
  pub scaled_then : (size x b y : ℕ) (r : List Task) (m : Memory) (c : Machine) (q l : ℕ) → 1 ≤ size → size < 2199023255552 → x < 65536 → y + 2 ≤ b → b + 2 ≤ g.program.frame_bytes n → HasDatum z n y (datum.Number (uint x)) m
      → Placed g n None (todo (scaled (Frame n b) (Frame n y) size) r) s m w c
      → ((d : Machine) (m' : Memory) → OnlyAbove n b m m' → HasDatum z n b (datum.Number (uint (x * size % 65536))) m' → Placed g n None r s m' w d → Comes g T q l d) → Comes g T (1612 + q) l c
  scaled_then size x b y r m c q l some lt xl low room hy p next =
      let m1 = with_bytes m (Frame n b) 2 (λ j. m (Frame n (y + j))) in
      let above1 = above_written n b b 2 m (λ j. m (Frame n (y + j))) (omega arith) in
      comes_within g T (6 * 2 + (40 * 40 + q)) l (1612 + q) l c
      (move_then g T n None s w due now small b y 2 (todo (multiples (Frame n b) (Frame n y) size 64) r) m c (40 * 40 + q) l (inr low) room (omega arith)
      (subst (λ t. Placed g n None t s m w c) (todo_join (copies (Frame n b) (Frame n y) 2) (multiples (Frame n b) (Frame n y) size 64) r) p)
      (λ d1 p1.
      multiples_then 64 40 size x b y r m1 d1 q l some lt (omega arith) xl low room
      (λ j few. bytes_there m n b 2 (λ j. m (Frame n (y + j))) j few ∙ hy j few)
      (datum_above z n y b (datum.Number (uint x)) m m1 low above1 hy) p1
      (λ d2 m2 above2 h2 p2. next d2 m2 (above_then n b m m1 m2 above1 above2) h2 p2)))
      (omega arith) (omega arith)
