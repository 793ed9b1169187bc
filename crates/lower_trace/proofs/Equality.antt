-- Two numbers are compared for equality, and the answer goes to a place of its own.
use Rattle.std.proofs.Common.{◌≡◌, ℕ, ◌+◌, ◌-◌, ◌*◌, ◌<◌, ◌≤◌, Bool, true, false, not, nat_eq, nat_le, List, ◌∷◌, [], Some, None, refl, sym, ap, ◌∙◌, arith}
use Rattle.std.specs.Ordering.{int_eq}
use Rattle.c_ints.proofs.Cut.{cut_in_range}
use Rattle.c_ints.specs.Operators.{truth, value_of}
use Rattle.c_ints.specs.Quantity.{Quantity}
use Rattle.c_ints.specs.Range.{bytes_of, cut, IsInRange}
use Rattle.c_ints.specs.declared.operators.BinOp.TheVariants as ops
use Rattle.c_ints.specs.declared.types.IntTy.{IntTy}
use Rattle.c_ints.specs.declared.types.IntTy.TheVariants as int
use Rattle.c_typed.specs.declared.types.Ty.TheVariants as types
use Rattle.core_code.specs.Bytes.{Held, Memory, with_bytes, misses}
use Rattle.core_code.specs.Bytes as bytes
use Rattle.core_code.specs.Cost.{cost_of}
use Rattle.core_code.specs.Machine.{Setting, Machine, Task, Waiting, Do as Todo, operate}
use Rattle.core_code.specs.Operands.{fits_equality, fits_together}
use Rattle.core_code.specs.Tree as code
use Rattle.core_code.specs.Values as core
use Rattle.core_code.specs.Values.{value_in, binary_value, truth_in}
use Rattle.core_code.specs.declared.code.Byte.TheVariants.{Frame}
use Rattle.pic_world.specs.World.{World, arrived, is_due}
use Rattle.src_values.specs.Data as datum
use Rattle.src_values.specs.Values as source
use Rattle.lower_trace.proofs.CodeLeft.{Scene}
use Rattle.lower_trace.proofs.Mirrors.{HasDatum}
use Rattle.lower_trace.proofs.NumberBytes.{truth_is}
use Rattle.lower_trace.proofs.Operating.{value_number}
use Rattle.lower_trace.proofs.Operations.{Comes, first_free, le_true, or_second, own_frame}
use Rattle.lower_trace.proofs.Placed.{Placed}
use Rattle.lower_trace.proofs.Written.{both, bytes_there}

pub some_bytes : (ty : IntTy) → 0 < bytes_of ty
some_bytes int.Char = omega arith
some_bytes int.SChar = omega arith
some_bytes int.UChar = omega arith
some_bytes int.Short = omega arith
some_bytes int.UShort = omega arith
some_bytes int.Int = omega arith
some_bytes int.UInt = omega arith
some_bytes int.Long = omega arith
some_bytes int.ULong = omega arith

low_misses : (n b w y : ℕ) → 0 < w → b + w ≤ y → misses (Frame n y) 1 (bytes.behind (Frame n b) 1) (w - 1) ≡ true
low_misses n b w y lt le = or_second (not (nat_eq n n)) _ (or_second (nat_le (y + 1) (b + 1)) _ (le_true (b + 1 + (w - 1)) y (omega arith)))

equality_fits : (n b w : ℕ) → 0 < w → fits_equality w (Frame n (b + 2 * w)) (Frame n b) (Frame n (b + w)) ≡ true
equality_fits n b w lt = both _ _ (low_misses n b w (b + 2 * w) lt (omega arith)) (low_misses n (b + w) w (b + 2 * w) lt (omega arith))

pub equal_then : (z : Scene) (g : Setting) (T : Machine → Type 0) (n : ℕ) (s : List Waiting) (w : World Held) (due : is_due w ≡ false) (again : arrived g.outside w ≡ w) (x y : Quantity) (b : ℕ) (r : List Task) (m : Memory) (c : Machine) (q l : ℕ) → IsInRange x.ty x.number → IsInRange y.ty y.number → y.ty ≡ x.ty
    → b + 2 * bytes_of x.ty + 2 ≤ g.program.frame_bytes n → HasDatum z n b (datum.Number x) m → HasDatum z n (b + bytes_of x.ty) (datum.Number y) m
    → Placed g n None (Todo [] (code.Binary ops.Eq x.ty (Frame n (b + 2 * bytes_of x.ty)) (Frame n b) (Frame n (b + bytes_of x.ty))) ∷ r) s m w c
    → ((d : Machine) → Placed g n None r s (with_bytes m (Frame n (b + 2 * bytes_of x.ty)) 2 (core.byte_of (core.Number (value_of ops.Eq x y)))) w d → Comes g T q l d)
    → Comes g T (10 * bytes_of x.ty + 20 + q) l c
unfolding operate cost_of fits_together binary_value
equal_then z g T n s w due again x y b r m c q l xr yr same room hx hy p next =
    let k = bytes_of x.ty in
    let A = Frame n (b + 2 * k) in
    let X = Frame n b in
    let Y = Frame n (b + k) in
    let vx = value_number z n b x m xr hx in
    let vy : value_in x.ty m Y ≡ Some (core.Number y) = ap (λ t. value_in t m Y) (sym same) ∙ value_number z n (b + k) y m yr hy in
    let ox = own_frame g.program n b k (omega arith) in
    let oy = own_frame g.program n (b + k) k (omega arith) in
    let og = own_frame g.program n (b + 2 * k) 2 room in
    let fits = equality_fits n b k (some_bytes x.ty) in
    first_free g T n None s w due again (code.Binary ops.Eq x.ty A X Y) r m (with_bytes m A 2 (core.byte_of (core.Number (value_of ops.Eq x y)))) c q l (10 * k + 20) p
    (λ before rest s'. rw (fits, ox, oy, vx, vy, og) refl)
    (λ before s'. omega arith)
    next

truth_kept : (b : Bool) → source.truth_of (datum.Number (record { ty = int.Int; number = cut int.Int (truth b) })) ≡ Some b
unfolding source.truth_of
truth_kept true = refl
truth_kept false = refl

truth_range : (b : Bool) → IsInRange int.Int (cut int.Int (truth b))
truth_range true = cut_in_range int.Int 1
truth_range false = cut_in_range int.Int 0

-- the answer as a condition
pub equal_truth : (z : Scene) (n y : ℕ) (a b : Quantity) (m : Memory) → truth_in (with_bytes m (Frame n y) 2 (core.byte_of (core.Number (value_of ops.Eq a b)))) (Frame n y) 2 ≡ Some (int_eq a.number b.number)
equal_truth z n y a b m =
    truth_is z n y (datum.Number (value_of ops.Eq a b)) (types.Int int.Int) (with_bytes m (Frame n y) 2 (core.byte_of (core.Number (value_of ops.Eq a b)))) (refl, truth_range (int_eq a.number b.number))
    (λ i lt. bytes_there m n y 2 (core.byte_of (core.Number (value_of ops.Eq a b))) i lt) (omega arith)
    ∙ truth_kept (int_eq a.number b.number)
