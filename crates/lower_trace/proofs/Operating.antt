-- Operators on numbers.
use Rattle.std.proofs.Common.{◌≡◌, ℕ, zero, suc, ◌+◌, ◌-◌, ◌*◌, ◌≤◌, true, false, not, ◌&&◌, nat_eq, nat_le, nat_lt, pos, List, [], ◌∷◌, Option, Some, None, option_map, refl, sym, ap, ◌∙◌, arith}
use Rattle.std.proofs.lemmas.Grind.{common_steps}
use Rattle.c_ints.proofs.Cut.{again}
use Rattle.c_ints.specs.Operators.{cut_to, outcome, value_of, type_of as result_type, unary_type, exact_unary}
use Rattle.c_ints.specs.Quantity.{Quantity}
use Rattle.c_ints.specs.Range.{bytes_of, IsInRange}
use Rattle.c_ints.specs.declared.operators.BinOp.{BinOp}
use Rattle.c_ints.specs.declared.operators.BinOp.TheVariants as ops
use Rattle.c_ints.specs.declared.operators.UnOp.{UnOp}
use Rattle.c_ints.specs.declared.operators.UnOp.TheVariants as unary
use Rattle.c_ints.specs.declared.types.IntTy.{IntTy}
use Rattle.core_code.specs.Bytes as bytes
use Rattle.core_code.specs.Bytes.{Held, Memory, with_bytes, misses, is_same_or_misses, same_byte}
use Rattle.core_code.specs.Cost.{cost_of, binary_cost, unary_cost, widening_cost}
use Rattle.core_code.specs.Machine.{Setting, Machine, Task, Waiting, Do as Todo, operate}
use Rattle.core_code.specs.Operands.{number_left, is_helped, fits_bytes, fits_unary, fits_together}
use Rattle.core_code.specs.Tree as code
use Rattle.core_code.specs.Tree.{Tree}
use Rattle.core_code.specs.Values as core
use Rattle.core_code.specs.Values.{value_in, number_in, or_number, right_type, binary_value, Value}
use Rattle.core_code.specs.declared.code.Byte.TheVariants.{Frame}
use Rattle.pic_world.specs.World.{World, arrived, is_due}
use Rattle.src_values.specs.Data as datum
use Rattle.lower_trace.proofs.CodeLeft.{Scene}
use Rattle.lower_trace.proofs.Kept.{bytes_small}
use Rattle.lower_trace.proofs.Mirrors.{HasDatum}
use Rattle.lower_trace.proofs.NumberBytes.{number_is_none, number_back}
use Rattle.lower_trace.proofs.Operations.{Comes, comes_within, first_free, le_true, or_second, own_frame}
use Rattle.lower_trace.proofs.Placed.{Placed}
use Rattle.lower_trace.proofs.Written.{both, byte_same}

-- the value that bytes of a number are, as its type
pub value_number : (z : Scene) (n b : ℕ) (q : Quantity) (m : Memory) → IsInRange q.ty q.number → HasDatum z n b (datum.Number q) m → value_in q.ty m (Frame n b) ≡ Some (core.Number q)
unfolding value_in
value_number z n b q m r h =
    ap (λ x. or_number x (option_map (λ i. core.Number (cut_to q.ty (pos i))) (number_in m (Frame n b) (bytes_of q.ty)))) (number_is_none z n b q (nat_eq (bytes_of q.ty) 2) m h)
    ∙ ap (λ x. option_map (λ i. core.Number (cut_to q.ty (pos i))) x) (number_back z n b q m h)
    ∙ ap (λ x. Some (core.Number (record { ty = q.ty; number = x }))) (again q.ty q.number r)

-- ---- operators that no helper computes, and that aren't shifts
abbrev pub IsPlain : BinOp → Type 0
IsPlain ops.Add = Unit {0}
IsPlain ops.Sub = Unit {0}
IsPlain ops.And = Unit {0}
IsPlain ops.Or = Unit {0}
IsPlain ops.Xor = Unit {0}
IsPlain ops.Lt = Unit {0}
IsPlain ops.Gt = Unit {0}
IsPlain ops.Le = Unit {0}
IsPlain ops.Ge = Unit {0}
IsPlain ops.Eq = Unit {0}
IsPlain ops.Ne = Unit {0}
IsPlain _ = ⊥

pub apart_operands : (n b w : ℕ) → misses (Frame n b) w (Frame n (b + w)) w ≡ true
apart_operands n b w = grind (arith, common_steps)

pub itself : (n b w : ℕ) → is_same_or_misses w (Frame n b) (Frame n b) ≡ true
itself n b w = rw (byte_same (Frame n b)) refl

low_apart : (n b w : ℕ) → misses (Frame n b) 1 (bytes.behind (Frame n b) 1) (w - 1) ≡ true
low_apart n b w = or_second (not (nat_eq n n)) _ (let e : nat_le (b + 1) (b + 1) ≡ true = le_true (b + 1) (b + 1) (omega arith) in rw e refl)

high_apart : (n b w : ℕ) → misses (Frame n b) 1 (bytes.behind (Frame n (b + w)) 1) (w - 1) ≡ true
high_apart n b w = or_second (not (nat_eq n n)) _ (let e : nat_le (b + 1) (b + w + 1) ≡ true = le_true (b + 1) (b + w + 1) (omega arith) in rw e refl)

sum_fits : (n b w : ℕ) → (is_same_or_misses w (Frame n b) (Frame n b) && is_same_or_misses w (Frame n b) (Frame n (b + w))) ≡ true
sum_fits n b w = both _ _ (itself n b w) (or_second (same_byte (Frame n b) (Frame n (b + w))) _ (apart_operands n b w))

pub plain_fits : (op : BinOp) (w : ℕ) (count : Option ℕ) (n b : ℕ) → IsPlain op → fits_bytes op w count (Frame n b) (Frame n b) (Frame n (b + w)) ≡ true
plain_fits ops.Add w count n b p = sum_fits n b w
plain_fits ops.And w count n b p = sum_fits n b w
plain_fits ops.Or w count n b p = sum_fits n b w
plain_fits ops.Xor w count n b p = sum_fits n b w
plain_fits ops.Sub w count n b p = both _ _ (itself n b w) (let e = apart_operands n b w in rw e refl)
plain_fits ops.Eq w count n b p = both _ _ (low_apart n b w) (high_apart n b w)
plain_fits ops.Ne w count n b p = both _ _ (low_apart n b w) (high_apart n b w)
plain_fits ops.Lt w count n b p = refl
plain_fits ops.Gt w count n b p = refl
plain_fits ops.Le w count n b p = refl
plain_fits ops.Ge w count n b p = refl
plain_fits ops.Mul w count n b p = absurd p
plain_fits ops.Div w count n b p = absurd p
plain_fits ops.Rem w count n b p = absurd p
plain_fits ops.Shl w count n b p = absurd p
plain_fits ops.Shr w count n b p = absurd p

pub plain_alone : (op : BinOp) (count : Option ℕ) → IsPlain op → is_helped op count ≡ false
plain_alone ops.Add count p = refl
plain_alone ops.And count p = refl
plain_alone ops.Or count p = refl
plain_alone ops.Xor count p = refl
plain_alone ops.Sub count p = refl
plain_alone ops.Eq count p = refl
plain_alone ops.Ne count p = refl
plain_alone ops.Lt count p = refl
plain_alone ops.Gt count p = refl
plain_alone ops.Le count p = refl
plain_alone ops.Ge count p = refl
plain_alone ops.Mul count p = absurd p
plain_alone ops.Div count p = absurd p
plain_alone ops.Rem count p = absurd p
plain_alone ops.Shl count p = absurd p
plain_alone ops.Shr count p = absurd p

pub plain_right : (op : BinOp) (ty : IntTy) → IsPlain op → right_type op ty ≡ ty
plain_right ops.Add ty p = refl
plain_right ops.And ty p = refl
plain_right ops.Or ty p = refl
plain_right ops.Xor ty p = refl
plain_right ops.Sub ty p = refl
plain_right ops.Eq ty p = refl
plain_right ops.Ne ty p = refl
plain_right ops.Lt ty p = refl
plain_right ops.Gt ty p = refl
plain_right ops.Le ty p = refl
plain_right ops.Ge ty p = refl
plain_right ops.Mul ty p = absurd p
plain_right ops.Div ty p = absurd p
plain_right ops.Rem ty p = absurd p
plain_right ops.Shl ty p = absurd p
plain_right ops.Shr ty p = absurd p

pub plain_gives : (op : BinOp) (a b : Quantity) → IsPlain op → outcome op a b ≡ Some (value_of op a b)
plain_gives ops.Add a b p = refl
plain_gives ops.And a b p = refl
plain_gives ops.Or a b p = refl
plain_gives ops.Xor a b p = refl
plain_gives ops.Sub a b p = refl
plain_gives ops.Eq a b p = refl
plain_gives ops.Ne a b p = refl
plain_gives ops.Lt a b p = refl
plain_gives ops.Gt a b p = refl
plain_gives ops.Le a b p = refl
plain_gives ops.Ge a b p = refl
plain_gives ops.Mul a b p = absurd p
plain_gives ops.Div a b p = absurd p
plain_gives ops.Rem a b p = absurd p
plain_gives ops.Shl a b p = absurd p
plain_gives ops.Shr a b p = absurd p

pub plain_cost : (op : BinOp) (count : Option ℕ) (w : ℕ) → IsPlain op → binary_cost op count w ≤ 10 * w + 30
plain_cost ops.Add count w p = omega arith
plain_cost ops.And count w p = omega arith
plain_cost ops.Or count w p = omega arith
plain_cost ops.Xor count w p = omega arith
plain_cost ops.Sub count w p = omega arith
plain_cost ops.Eq count w p = omega arith
plain_cost ops.Ne count w p = omega arith
plain_cost ops.Lt count w p = omega arith
plain_cost ops.Gt count w p = omega arith
plain_cost ops.Le count w p = omega arith
plain_cost ops.Ge count w p = omega arith
plain_cost ops.Mul count w p = absurd p
plain_cost ops.Div count w p = absurd p
plain_cost ops.Rem count w p = absurd p
plain_cost ops.Shl count w p = absurd p
plain_cost ops.Shr count w p = absurd p

-- ---- one operation on two numbers
pub binary_then : (z : Scene) (g : Setting) (T : Machine → Type 0) (n : ℕ) (s : List Waiting) (w : World Held) (due : is_due w ≡ false) (again : arrived g.outside w ≡ w) (op : BinOp) (x y : Quantity) (b : ℕ) (r : List Task) (m : Memory) (c : Machine) (q l : ℕ) → IsPlain op → IsInRange x.ty x.number → IsInRange y.ty y.number → y.ty ≡ x.ty
    → b + bytes_of x.ty + bytes_of x.ty ≤ g.program.frame_bytes n → b + bytes_of (result_type op x.ty) ≤ g.program.frame_bytes n
    → HasDatum z n b (datum.Number x) m → HasDatum z n (b + bytes_of x.ty) (datum.Number y) m
    → Placed g n None (Todo [] (code.Binary op x.ty (Frame n b) (Frame n b) (Frame n (b + bytes_of x.ty))) ∷ r) s m w c
    → ((d : Machine) → Placed g n None r s (with_bytes m (Frame n b) (bytes_of (result_type op x.ty)) (core.byte_of (core.Number (value_of op x y)))) w d → Comes g T q l d)
    → Comes g T (10 * bytes_of x.ty + 30 + q) l c
unfolding operate cost_of fits_together binary_value
binary_then z g T n s w due again op x y b r m c q l plain xr yr same room out hx hy p next =
    let k = bytes_of x.ty in
    let X = Frame n b in
    let Y = Frame n (b + k) in
    let vx = value_number z n b x m xr hx in
    let vy : value_in x.ty m Y ≡ Some (core.Number y) = ap (λ t. value_in t m Y) (sym same) ∙ value_number z n (b + k) y m yr hy in
    let right = plain_right op x.ty plain in
    let ox = own_frame g.program n b k (omega arith) in
    let oy = own_frame g.program n (b + k) k (omega arith) in
    let og = own_frame g.program n b (bytes_of (result_type op x.ty)) out in
    let gives = plain_gives op x y plain in
    first_free g T n None s w due again (code.Binary op x.ty X X Y) r m (with_bytes m X (bytes_of (result_type op x.ty)) (core.byte_of (core.Number (value_of op x y)))) c q l (10 * k + 30) p
    (λ before rest s'.
    let fits = plain_fits op k (number_left before Y) n b plain in
    let alone = plain_alone op (number_left before Y) plain in
    rw (fits, alone, right, ox, oy, vx, vy, gives, og) refl)
    (λ before s'. let e = plain_cost op (number_left before Y) k plain in omega arith)
    next

-- ---- one operation on one number
abbrev pub IsSigned : UnOp → Type 0
IsSigned unary.Minus = Unit {0}
IsSigned unary.Not = Unit {0}
IsSigned _ = ⊥

signed_fits : (op : UnOp) (ty : IntTy) → IsSigned op → nat_lt 1 (bytes_of ty) ≡ true → fits_unary op ty ≡ true
signed_fits unary.Plus ty s e = absurd s
signed_fits unary.Minus ty s e = e
signed_fits unary.Not ty s e = e
signed_fits unary.Bang ty s e = absurd s

signed_cost : (op : UnOp) (w : ℕ) → IsSigned op → unary_cost op w ≤ 10 * w
signed_cost unary.Plus w s = absurd s
signed_cost unary.Minus w s = omega arith
signed_cost unary.Not w s = omega arith
signed_cost unary.Bang w s = absurd s

pub unary_then : (z : Scene) (g : Setting) (T : Machine → Type 0) (n : ℕ) (s : List Waiting) (w : World Held) (due : is_due w ≡ false) (again : arrived g.outside w ≡ w) (op : UnOp) (x : Quantity) (b : ℕ) (r : List Task) (m : Memory) (c : Machine) (q l : ℕ) → IsSigned op → nat_lt 1 (bytes_of x.ty) ≡ true → IsInRange x.ty x.number
    → b + bytes_of x.ty ≤ g.program.frame_bytes n → b + bytes_of (unary_type op x.ty) ≤ g.program.frame_bytes n → HasDatum z n b (datum.Number x) m
    → Placed g n None (Todo [] (code.Unary op x.ty (Frame n b)) ∷ r) s m w c
    → ((d : Machine) → Placed g n None r s (with_bytes m (Frame n b) (bytes_of (unary_type op x.ty)) (core.byte_of (core.Number (cut_to (unary_type op x.ty) (exact_unary op x.number))))) w d → Comes g T q l d)
    → Comes g T (10 * bytes_of x.ty + q) l c
unfolding operate cost_of core.unary_value
unary_then z g T n s w due again op x b r m c q l signed two xr room out hx p next =
    let k = bytes_of x.ty in
    let X = Frame n b in
    let vx = value_number z n b x m xr hx in
    let ox = own_frame g.program n b k room in
    let og = own_frame g.program n b (bytes_of (unary_type op x.ty)) out in
    let fits = signed_fits op x.ty signed two in
    first_free g T n None s w due again (code.Unary op x.ty X) r m (with_bytes m X (bytes_of (unary_type op x.ty)) (core.byte_of (core.Number (cut_to (unary_type op x.ty) (exact_unary op x.number))))) c q l (10 * k) p
    (λ before rest s'. rw (fits, ox, vx, og) refl)
    (λ before s'. let e = signed_cost op k signed in omega arith)
    next

widening_most : (k : ℕ) → widening_cost k ≤ 8 + 4 * k
widening_most zero = omega arith
widening_most (suc k) = omega arith

pub convert_words_then : (z : Scene) (g : Setting) (T : Machine → Type 0) (n : ℕ) (s : List Waiting) (w : World Held) (due : is_due w ≡ false) (again : arrived g.outside w ≡ w) (to : IntTy) (x : Quantity) (b : ℕ) (r : List Task) (m : Memory) (c : Machine) (q l : ℕ) → IsInRange x.ty x.number → nat_lt (bytes_of x.ty) (bytes_of to) ≡ true
    → b + bytes_of x.ty ≤ g.program.frame_bytes n → b + bytes_of to ≤ g.program.frame_bytes n → HasDatum z n b (datum.Number x) m
    → Placed g n None (Todo [] (code.Convert x.ty to (Frame n b)) ∷ r) s m w c
    → ((d : Machine) → Placed g n None r s (with_bytes m (Frame n b) (bytes_of to) (core.byte_of (core.Number (cut_to to x.number)))) w d → Comes g T q l d)
    → Comes g T (8 + 4 * (bytes_of to - bytes_of x.ty) + q) l c
unfolding operate cost_of core.converted
convert_words_then z g T n s w due again to x b r m c q l xr wider room out hx p next =
    let X = Frame n b in
    let vx = value_number z n b x m xr hx in
    let ox = own_frame g.program n b (bytes_of x.ty) room in
    let og = own_frame g.program n b (bytes_of to) out in
    let cost = widening_most (bytes_of to - bytes_of x.ty) in
    first_free g T n None s w due again (code.Convert x.ty to X) r m (with_bytes m X (bytes_of to) (core.byte_of (core.Number (cut_to to x.number)))) c q l (8 + 4 * (bytes_of to - bytes_of x.ty)) p
    (λ before rest s'. rw (ox, vx, og) refl)
    (λ before s'. omega arith)
    next

-- a conversion to more bytes costs at most 24, since no type has more bytes than four
pub convert_then : (z : Scene) (g : Setting) (T : Machine → Type 0) (n : ℕ) (s : List Waiting) (w : World Held) (due : is_due w ≡ false) (again : arrived g.outside w ≡ w) (to : IntTy) (x : Quantity) (b : ℕ) (r : List Task) (m : Memory) (c : Machine) (q l : ℕ) → IsInRange x.ty x.number → nat_lt (bytes_of x.ty) (bytes_of to) ≡ true
    → b + bytes_of x.ty ≤ g.program.frame_bytes n → b + bytes_of to ≤ g.program.frame_bytes n → HasDatum z n b (datum.Number x) m
    → Placed g n None (Todo [] (code.Convert x.ty to (Frame n b)) ∷ r) s m w c
    → ((d : Machine) → Placed g n None r s (with_bytes m (Frame n b) (bytes_of to) (core.byte_of (core.Number (cut_to to x.number)))) w d → Comes g T q l d)
    → Comes g T (24 + q) l c
convert_then z g T n s w due again to x b r m c q l xr wider room out hx p next =
    let few = bytes_small to in
    comes_within g T (8 + 4 * (bytes_of to - bytes_of x.ty) + q) l (24 + q) l c
    (convert_words_then z g T n s w due again to x b r m c q l xr wider room out hx p next)
    (omega arith) (omega arith)
