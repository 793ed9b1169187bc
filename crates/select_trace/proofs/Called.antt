-- A call of a routine is answered.
use Rattle.std.proofs.Common.{◌≡◌, ◌≢◌, ℕ, zero, suc, ◌+◌, ◌*◌, ◌/◌, ◌%◌, ◌^◌, ◌<◌, ◌≤◌, Bool, true, false, List, [], ◌∷◌, Option, Some, None, append-nil, refl, ap, sym, ◌∙◌, subst, arith, drop, take, pos}
use Rattle.std.specs.Prelude.{IfSome, if◌then◌else◌, ◌||◌, int_lt, int_le}
use Rattle.std.proofs.lemmas.Bool.Decides.{nat_tests}
use Rattle.c_ints.specs.Operators.{cut_to, outcome, shifts, shifts_badly}
use Rattle.c_ints.specs.Quantity.{Quantity}
use Rattle.c_ints.specs.Range.{bytes_of, width, pattern}
use Rattle.c_ints.specs.declared.operators.BinOp.{BinOp}
use Rattle.c_ints.specs.declared.operators.BinOp.TheVariants.{Shl, Shr}
use Rattle.c_ints.specs.declared.types.IntTy.{IntTy}
use Rattle.c_typed.specs.declared.calls.Helper.{Helper}
use Rattle.c_typed.specs.declared.calls.Helper.TheVariants.{Mul2, Mul4, Divu2, Divs2, Remu2, Rems2, Divu4, Divs4, Remu4, Rems4, Shl2, Shru2, Shrs2, Shl4, Shru4, Shrs4}
use Rattle.core_code.specs.declared.code.Byte.{Byte}
use Rattle.core_code.specs.declared.code.Byte.TheVariants.{Frame, Result}
use Rattle.pic_world.specs.declared.Root.{Root}
use Rattle.math_helpers.specs.Layouts as layouts
use Rattle.math_helpers.specs.Routines as routines
use Rattle.math_helpers.specs.Routines.{helper_code}
use Rattle.math_helpers.specs.Shape.{frame_size, right_bytes, most_words, ArePriced}
use Rattle.math_helpers.specs.Wanted as wanted
use Rattle.math_helpers.specs.Wanted.{byte_at, Holds, with_flags, right_operand, IsCalled}
use Rattle.sym_code.specs.Effect.{Setting, root_of}
use Rattle.sym_code.specs.Layout.{address_of, general_at}
use Rattle.sym_code.specs.Programs.{Position}
use Rattle.sym_code.specs.Quiet.{Scene, quiet_cost}
use Rattle.sym_code.specs.declared.code.BlockName.{BlockName}
use Rattle.sym_code.specs.declared.code.BlockName.TheVariants.{Copy}
use Rattle.sym_code.specs.declared.code.Sym as code
use Rattle.select_wide.specs.Direct.{direct_run}
use Rattle.select_wide.proofs.Direct.{run_quiet}
use Rattle.select_trace.specs.Helpers.{Layout, Value, Left, Right, Remainder, Spare, Answer}
use Rattle.select_trace.specs.Ints.{IsValue}
use Rattle.select_trace.specs.Links.{Fine}
use Rattle.select_trace.specs.Positions.{place, Path, Returns}
use Rattle.select_trace.specs.Promises.{HelpersAnswer, routine_most}
use Rattle.select_trace.specs.Run.{Sym, Machine, going}
use Rattle.select_trace.specs.Silent.{number_at, OwnsBytes, AreQuiet, IsIn, plain_code}
use Rattle.select_trace.specs.Steps.{number_of}
use Rattle.select_trace.specs.Wanted.{width_of, task_of, task_code}
use Rattle.select_trace.proofs.Answers.{Wanted, wanted as wanted_of, most_of, Done, done, wide_of}
use Rattle.select_trace.proofs.RoutineBytes.{silent_code, two_values, four_values, four_results, apart}
use Rattle.select_trace.proofs.Costs.{paid_from, part_bounded, dues_paid}
use Rattle.select_trace.proofs.Kept.{within_all, path_kept}
use Rattle.select_trace.proofs.Names.{IsOwnOne, own_stands, own_quiet}
use Rattle.select_trace.proofs.Numbers.{byte_back, from_bytes}
use Rattle.select_trace.proofs.Operators.{count_is}
use Rattle.select_trace.proofs.RoutineParts.{is_shift, byte_number, layout, start_length, body_length, rounds, most_rounds, all_rounds, start_of, body_of, end_of, code_is, most_is, Parts, parts}
use Rattle.select_trace.proofs.Ranges.{Keeps}
use Rattle.select_trace.proofs.OperatorValues.{if_some}
use Rattle.select_trace.proofs.Walked.{AreSilent, at_place, returned, Through, through}
use Rattle.select_trace.proofs.Writes.{Foreign, own_bytes}

-- ---- costs
take_silent : (P : Byte → Type 0) (n : ℕ) (xs : List code.Sym) → AreSilent P xs → AreSilent P (take n xs)
take_silent P zero xs all = tt
take_silent P (suc n) [] all = tt
take_silent P (suc n) (x ∷ xs) all = (all.0, take_silent P n xs all.1)

drop_silent : (P : Byte → Type 0) (n : ℕ) (xs : List code.Sym) → AreSilent P xs → AreSilent P (drop n xs)
drop_silent P zero xs all = all
drop_silent P (suc n) [] all = tt
drop_silent P (suc n) (x ∷ xs) all = drop_silent P n xs all.1

-- a routine of so many rounds at most costs no more than its words allow
most_within : (h : Helper) (root : Root) (copy any count : ℕ) (at : Byte → ℕ) (price : ℕ → ℕ) → ArePriced price (helper_code h root copy) → (most limit : ℕ) → rounds h count ≤ most →
    most_words (start_of h root copy) + most * most_words (body_of h root copy) + most_words (end_of h root copy) ≤ limit →
    most_of price (layout at root copy any h) (task_of h) count ≤ limit
most_within h root copy any count at price priced most limit few small =
    let k : Parts h root copy = parts h root copy in
    let all = silent_code h root copy in
    let P : Byte → Type 0 = λ byte. IsIn root copy (frame_size h) byte 1 in
    let a : paid_from price 0 (start_of h root copy) ≤ most_words (start_of h root copy) = part_bounded price (helper_code h root copy) (start_of h root copy) (drop (start_length h) (helper_code h root copy)) 0 priced k.start_there k.start_fits in
    let b : paid_from price (start_length h + 1) (body_of h root copy) ≤ most_words (body_of h root copy) = part_bounded price (helper_code h root copy) (body_of h root copy) (end_of h root copy) (start_length h + 1) priced k.body_there k.body_fits in
    let c : paid_from price (start_length h + 1 + body_length h) (end_of h root copy) ≤ most_words (end_of h root copy) = part_bounded price (helper_code h root copy) (end_of h root copy) [] (start_length h + 1 + body_length h) priced (sym (append-nil (end_of h root copy))) k.end_fits in
    let d = dues_paid P at price 0 (start_of h root copy) (take_silent P (start_length h) (helper_code h root copy) all) in
    let e = dues_paid P at price (start_length h + 1) (body_of h root copy) (take_silent P (body_length h) (drop (start_length h + 1) (helper_code h root copy)) (drop_silent P (start_length h + 1) (helper_code h root copy) all)) in
    let f = dues_paid P at price (start_length h + 1 + body_length h) (end_of h root copy) (drop_silent P (start_length h + 1 + body_length h) (helper_code h root copy) all) in
    put _ _ _ _ _ _ _ _ _ _ _ most limit (most_is price at root copy any count h) d e f a b c few small
  where
    put : (m x y z n p q r u v w l t : ℕ) → m ≡ x + n * y + z → x ≡ p → y ≡ q → z ≡ r → p ≤ u → q ≤ v → r ≤ w → n ≤ l → u + l * v + w ≤ t → m ≤ t
    put m x y z n p q r u v w l top e a b c f g h i j =
        let s : n * y ≤ n * v = mul-le n y v (let t : y ≤ v = omega arith in t) in
        let t : n * v ≤ l * v = mul-le-left n l v i in
        omega arith
      where
        mul-le : (n y v : ℕ) → y ≤ v → n * y ≤ n * v
        mul-le n y v h = grind arith

        mul-le-left : (n l v : ℕ) → n ≤ l → n * v ≤ l * v
        mul-le-left n l v h = grind arith

-- ---- what is known of each routine
width_is : (h : Helper) → layouts.bytes_of (routines.width_of h) ≡ width_of h
width_is Mul2 = refl
width_is Mul4 = refl
width_is Divu2 = refl
width_is Divs2 = refl
width_is Remu2 = refl
width_is Rems2 = refl
width_is Divu4 = refl
width_is Divs4 = refl
width_is Remu4 = refl
width_is Rems4 = refl
width_is Shl2 = refl
width_is Shru2 = refl
width_is Shrs2 = refl
width_is Shl4 = refl
width_is Shru4 = refl
width_is Shrs4 = refl

right_is : (h : Helper) → is_shift h ≡ false → right_bytes h ≡ width_of h
right_is Mul2 e = refl
right_is Mul4 e = refl
right_is Divu2 e = refl
right_is Divs2 e = refl
right_is Remu2 e = refl
right_is Rems2 e = refl
right_is Divu4 e = refl
right_is Divs4 e = refl
right_is Remu4 e = refl
right_is Rems4 e = refl
right_is Shl2 e = absurd (cc)
right_is Shru2 e = absurd (cc)
right_is Shrs2 e = absurd (cc)
right_is Shl4 e = absurd (cc)
right_is Shru4 e = absurd (cc)
right_is Shrs4 e = absurd (cc)

one_byte : (h : Helper) → is_shift h ≡ true → right_bytes h ≡ 1
one_byte Mul2 e = absurd (cc)
one_byte Mul4 e = absurd (cc)
one_byte Divu2 e = absurd (cc)
one_byte Divs2 e = absurd (cc)
one_byte Remu2 e = absurd (cc)
one_byte Rems2 e = absurd (cc)
one_byte Divu4 e = absurd (cc)
one_byte Divs4 e = absurd (cc)
one_byte Remu4 e = absurd (cc)
one_byte Rems4 e = absurd (cc)
one_byte Shl2 e = refl
one_byte Shru2 e = refl
one_byte Shrs2 e = refl
one_byte Shl4 e = refl
one_byte Shru4 e = refl
one_byte Shrs4 e = refl

few : (h : Helper) (count : ℕ) → (is_shift h ≡ true → count < 8 * width_of h) → rounds h count ≤ most_rounds h
few Mul2 count f = omega arith
few Mul4 count f = omega arith
few Divu2 count f = omega arith
few Divs2 count f = omega arith
few Remu2 count f = omega arith
few Rems2 count f = omega arith
few Divu4 count f = omega arith
few Divs4 count f = omega arith
few Remu4 count f = omega arith
few Rems4 count f = omega arith
few Shl2 count f = let a : count < 16 = f refl in omega arith
few Shru2 count f = let a : count < 16 = f refl in omega arith
few Shrs2 count f = let a : count < 16 = f refl in omega arith
few Shl4 count f = let a : count < 32 = f refl in omega arith
few Shru4 count f = let a : count < 32 = f refl in omega arith
few Shrs4 count f = let a : count < 32 = f refl in omega arith

few_always : (h : Helper) (count : ℕ) → count < 256 → rounds h count ≤ all_rounds h
few_always Mul2 count lt = omega (arith, lt)
few_always Mul4 count lt = omega (arith, lt)
few_always Divu2 count lt = omega (arith, lt)
few_always Divs2 count lt = omega (arith, lt)
few_always Remu2 count lt = omega (arith, lt)
few_always Rems2 count lt = omega (arith, lt)
few_always Divu4 count lt = omega (arith, lt)
few_always Divs4 count lt = omega (arith, lt)
few_always Remu4 count lt = omega (arith, lt)
few_always Rems4 count lt = omega (arith, lt)
few_always Shl2 count lt = omega (arith, lt)
few_always Shru2 count lt = omega (arith, lt)
few_always Shrs2 count lt = omega (arith, lt)
few_always Shl4 count lt = omega (arith, lt)
few_always Shru4 count lt = omega (arith, lt)
few_always Shrs4 count lt = omega (arith, lt)

-- where the operator of a shift has a value, its count is below the width
small_count : (m n : ℕ) → (int_lt (pos n) (pos 0) || int_le (pos m) (pos n)) ≡ false → n < m
small_count m n e = grind (arith, nat_tests)

by_left : (ty : IntTy) (l r : ℕ) (P : Type 0) → (r % 256 < width ty → P) → IfSome (outcome Shl (cut_to ty (pos l)) (right_operand Shl ty r)) (λ value. P)
by_left ty l r P f = if_some (shifts_badly ty (pos (r % 256))) _ _ (λ e. f (small_count (width ty) (r % 256) e))

by_right : (ty : IntTy) (l r : ℕ) (P : Type 0) → (r % 256 < width ty → P) → IfSome (outcome Shr (cut_to ty (pos l)) (right_operand Shr ty r)) (λ value. P)
by_right ty l r P f = if_some (shifts_badly ty (pos (r % 256))) _ _ (λ e. f (small_count (width ty) (r % 256) e))

either_way : (o : Option Quantity) (P : Type 0) → P → IfSome o (λ value. P)
either_way None P p = tt
either_way (Some v) P p = p

shifted_left : (op : BinOp) (ty : IntTy) (l r w : ℕ) (P : Type 0) → op ≡ Shl → w ≡ bytes_of ty → (r % 256 < 8 * w → P) → IfSome (outcome op (cut_to ty (pos l)) (right_operand op ty r)) (λ value. P)
shifted_left op ty l r w P e f h = subst (λ (x : BinOp). IfSome (outcome x (cut_to ty (pos l)) (right_operand x ty r)) (λ value. P)) (sym e) (by_left ty l r P (λ lt. h (omega (arith, f, lt))))

shifted_right : (op : BinOp) (ty : IntTy) (l r w : ℕ) (P : Type 0) → op ≡ Shr → w ≡ bytes_of ty → (r % 256 < 8 * w → P) → IfSome (outcome op (cut_to ty (pos l)) (right_operand op ty r)) (λ value. P)
shifted_right op ty l r w P e f h = subst (λ (x : BinOp). IfSome (outcome x (cut_to ty (pos l)) (right_operand x ty r)) (λ value. P)) (sym e) (by_right ty l r P (λ lt. h (omega (arith, f, lt))))

-- what holds where a shift's count is below its width holds where there is a value
where_valued : (h : Helper) (op : BinOp) (ty : IntTy) (l r : ℕ) (P : Type 0) → Wanted op ty h → ((is_shift h ≡ true → r % 256 < 8 * width_of h) → P) → IfSome (outcome op (cut_to ty (pos l)) (right_operand op ty r)) (λ value. P)
where_valued Mul2 op ty l r P w f = either_way (outcome op (cut_to ty (pos l)) (right_operand op ty r)) P (f (λ e. absurd (cc)))
where_valued Mul4 op ty l r P w f = either_way (outcome op (cut_to ty (pos l)) (right_operand op ty r)) P (f (λ e. absurd (cc)))
where_valued Divu2 op ty l r P w f = either_way (outcome op (cut_to ty (pos l)) (right_operand op ty r)) P (f (λ e. absurd (cc)))
where_valued Divs2 op ty l r P w f = either_way (outcome op (cut_to ty (pos l)) (right_operand op ty r)) P (f (λ e. absurd (cc)))
where_valued Remu2 op ty l r P w f = either_way (outcome op (cut_to ty (pos l)) (right_operand op ty r)) P (f (λ e. absurd (cc)))
where_valued Rems2 op ty l r P w f = either_way (outcome op (cut_to ty (pos l)) (right_operand op ty r)) P (f (λ e. absurd (cc)))
where_valued Divu4 op ty l r P w f = either_way (outcome op (cut_to ty (pos l)) (right_operand op ty r)) P (f (λ e. absurd (cc)))
where_valued Divs4 op ty l r P w f = either_way (outcome op (cut_to ty (pos l)) (right_operand op ty r)) P (f (λ e. absurd (cc)))
where_valued Remu4 op ty l r P w f = either_way (outcome op (cut_to ty (pos l)) (right_operand op ty r)) P (f (λ e. absurd (cc)))
where_valued Rems4 op ty l r P w f = either_way (outcome op (cut_to ty (pos l)) (right_operand op ty r)) P (f (λ e. absurd (cc)))
where_valued Shl2 op ty l r P w f = shifted_left op ty l r 2 P w.task w.fits (λ lt. f (λ e. lt))
where_valued Shru2 op ty l r P w f = shifted_right op ty l r 2 P w.task.0 w.fits (λ lt. f (λ e. lt))
where_valued Shrs2 op ty l r P w f = shifted_right op ty l r 2 P w.task.0 w.fits (λ lt. f (λ e. lt))
where_valued Shl4 op ty l r P w f = shifted_left op ty l r 4 P w.task w.fits (λ lt. f (λ e. lt))
where_valued Shru4 op ty l r P w f = shifted_right op ty l r 4 P w.task.0 w.fits (λ lt. f (λ e. lt))
where_valued Shrs4 op ty l r P w f = shifted_right op ty l r 4 P w.task.0 w.fits (λ lt. f (λ e. lt))

-- of a shift's count the lowest byte counts
same_count : (op : BinOp) (ty : IntTy) (a b : ℕ) → shifts op ≡ true → a % 256 ≡ b % 256 → right_operand op ty a ≡ right_operand op ty b
same_count op ty a b e f =
    ap (λ c. if c then record { ty = ty; number = pos (a % 256) } else cut_to ty (pos a)) e
    ∙ ap (λ n. record { ty = ty; number = pos n }) f
    ∙ ap (λ c. if c then record { ty = ty; number = pos (b % 256) } else cut_to ty (pos b)) (sym e)

shift_op : (h : Helper) (op : BinOp) (ty : IntTy) → Wanted op ty h → is_shift h ≡ true → shifts op ≡ true
shift_op Mul2 op ty w e = absurd (cc)
shift_op Mul4 op ty w e = absurd (cc)
shift_op Divu2 op ty w e = absurd (cc)
shift_op Divs2 op ty w e = absurd (cc)
shift_op Remu2 op ty w e = absurd (cc)
shift_op Rems2 op ty w e = absurd (cc)
shift_op Divu4 op ty w e = absurd (cc)
shift_op Divs4 op ty w e = absurd (cc)
shift_op Remu4 op ty w e = absurd (cc)
shift_op Rems4 op ty w e = absurd (cc)
shift_op Shl2 op ty w e = ap shifts w.task
shift_op Shru2 op ty w e = ap shifts w.task.0
shift_op Shrs2 op ty w e = ap shifts w.task.0
shift_op Shl4 op ty w e = ap shifts w.task
shift_op Shru4 op ty w e = ap shifts w.task.0
shift_op Shrs4 op ty w e = ap shifts w.task.0

-- ---- the call
module _ (h : Helper) (copy : ℕ) (g : Setting) (price : BlockName → ℕ → ℕ) (inside : Bool) (next : Position) (stack : List Position) (left right : ℕ) (s : Scene)
    (left_small : left < 256 ^ layouts.bytes_of (routines.width_of h)) (right_small : right < 256 ^ right_bytes h) (idle : s.thread.rest ≡ None)
    (called : IsCalled h copy g inside next stack left right s) (priced : ArePriced (price (Copy copy)) (helper_code h (root_of inside) copy)) where
  abbrev root : Root
  root = root_of inside

  abbrev at : Byte → ℕ
  at = number_at g.program.layout

  abbrev lay : ℕ → Layout
  lay any = layout at root copy any h

  abbrev begin : Machine
  begin = going s.thread.registers s.memory

  own : OwnsBytes g inside copy (frame_size h)
  own = record { banks = called.banks; whole = called.whole; own = called.own; results = called.results }

  quiet : AreQuiet g inside (IsOwnOne inside copy (frame_size h))
  quiet = own_quiet g inside copy (frame_size h) own

  all : AreSilent (IsOwnOne inside copy (frame_size h)) (g.program.block (Copy copy))
  all = subst (λ (xs : List code.Sym). AreSilent (IsOwnOne inside copy (frame_size h)) xs) (sym called.code) (silent_code h root copy)

  fine : Fine begin
  fine = record { going = refl; carry = called.registers.flags.2; zero = called.registers.flags.0; bytes = called.bytes }

  -- what an own byte holds
  holds : (byte : Byte) (v : ℕ) → IsOwnOne inside copy (frame_size h) byte → Holds g.program.layout s.memory byte v → s.memory (at byte) ≡ v
  holds byte v o k = k (at byte) (own_stands g inside copy (frame_size h) own byte o).is

  left_is : number_of (lay 512) begin Left ≡ left
  left_is = from_bytes (λ j. s.memory (at (Frame copy j))) left (width_of h) (subst (λ n. left < 256 ^ n) (width_is h) left_small)
      (λ j lt. holds (Frame copy j) (byte_at left j) (refl, let a : 2 * width_of h ≤ frame_size h = two_values h in omega (arith, a, lt)) (called.has_left j (subst (λ n. j < n) (sym (width_is h)) lt)))

  right_byte : (j : ℕ) → j < right_bytes h → j < width_of h → s.memory (at (Frame copy (width_of h + j))) ≡ byte_at right j
  right_byte j lt low = holds (Frame copy (width_of h + j)) (byte_at right j) (refl, let a : 2 * width_of h ≤ frame_size h = two_values h in omega (arith, a, low))
      (subst (λ n. Holds g.program.layout s.memory (Frame copy (n + j)) (byte_at right j)) (width_is h) (called.has_right j lt))

  whole_right : is_shift h ≡ false → number_of (lay 512) begin Right ≡ right
  whole_right e = from_bytes (λ j. s.memory (at (Frame copy (width_of h + j)))) right (width_of h) (subst (λ n. right < 256 ^ n) (right_is h e) right_small)
      (λ j lt. right_byte j (subst (λ n. j < n) (sym (right_is h e)) lt) lt)

  wide : 1 < width_of h
  wide = (wide_of h).0

  abbrev count : ℕ
  count = s.memory (at (Frame copy (width_of h + 0)))

  count_right : is_shift h ≡ true → count ≡ right % 256
  count_right e =
      right_byte 0 (subst (λ n. 0 < n) (sym (one_byte h e)) (let z : 0 < 1 = omega arith in z)) (let z : 1 < width_of h = wide in omega arith)
      ∙ (let z : right / 256 ^ 0 ≡ right = div_one right in ap (λ n. n % 256) z)
    where
      div_one : (n : ℕ) → n / 256 ^ 0 ≡ n
      div_one n = omega arith

  right_operand_is : (op : BinOp) (ty : IntTy) → Wanted op ty h → right_operand op ty (number_of (lay 512) begin Right) ≡ right_operand op ty right
  right_operand_is op ty w = by (is_shift h) refl
    where
      by : (b : Bool) → is_shift h ≡ b → right_operand op ty (number_of (lay 512) begin Right) ≡ right_operand op ty right
      by false e = ap (right_operand op ty) (whole_right e)
      by true e = same_count op ty (number_of (lay 512) begin Right) right (shift_op h op ty w e) (sym (count_is (lay 512) begin fine (let z : 1 < width_of h = wide in omega arith)) ∙ count_right e)

  -- what the routine does over bytes by number
  result : Done (price (Copy copy)) (task_of h) (lay 512) begin
  result = done (price (Copy copy)) (task_of h) (lay 512) (apart h g inside copy own) wide (wide_of h).1 begin fine

  code_at : (any : ℕ) → task_code (lay any) (task_of h) ≡ plain_code at (g.program.block (Copy copy))
  code_at any = sym (code_is at root copy any h) ∙ ap (plain_code at) (sym called.code)

  gone : Returns (price (Copy copy)) (plain_code at (g.program.block (Copy copy))) (place 0 begin) (most_of (price (Copy copy)) (lay 512) (task_of h) count) (place result.at result.out)
  gone = subst (λ (xs : List Sym). Returns (price (Copy copy)) xs (place 0 begin) (most_of (price (Copy copy)) (lay 512) (task_of h) count) (place result.at result.out)) (code_at 512) result.returns

  kept : Keeps s.thread.registers result.out.registers result.out.memory
  kept = path_kept (price (Copy copy)) (plain_code at (g.program.block (Copy copy))) (within_all (IsOwnOne inside copy (frame_size h)) at (g.program.block (Copy copy)) all) gone.steps gone.cost (place 0 begin) (place result.at result.out) gone.path called.registers called.bytes

  run : Through g inside (IsOwnOne inside copy (frame_size h)) quiet price (Copy copy) all s.thread idle (place 0 begin) (place result.at result.out) gone.cost next stack
  run = through g inside (IsOwnOne inside copy (frame_size h)) quiet price (Copy copy) all s.thread idle gone.steps gone.cost (place 0 begin) (place result.at result.out) next stack gone.path gone.back called.returns called.lands

  from : s ≡ at_place g.program (Copy copy) s.thread (place 0 begin)
  from = ap (λ (o : Option Position). record { thread = record s.thread { at = o }; memory = s.memory }) called.at

  -- bytes that aren't its own
  foreign : (k : ℕ) → ((offset : ℕ) → offset < frame_size h → general_at (address_of g.program.layout (Frame copy offset)) ≢ Some k) → ((n : ℕ) → n < 4 → general_at (address_of g.program.layout (Result root n)) ≢ Some k) → Foreign (lay (k + 1)) k
  foreign k f r = λ v j lt e. by (is_shift h) refl v j lt e
    where
      frame : (offset : ℕ) → offset < frame_size h → k ≡ at (Frame copy offset) → ⊥
      frame offset lt e = f offset lt ((own_stands g inside copy (frame_size h) own (Frame copy offset) (refl, omega (arith, lt))).is ∙ ap (λ (n : ℕ). Some n) (sym e))

      by : (b : Bool) → is_shift h ≡ b → (v : Value) (j : ℕ) → j < width_of h → k ≡ byte_number at root copy (width_of h) (k + 1) b v j → ⊥
      by b i Left j lt e = frame j (let a : 2 * width_of h ≤ frame_size h = two_values h in omega (arith, a, lt)) e
      by b i Right j lt e = frame (width_of h + j) (let a : 2 * width_of h ≤ frame_size h = two_values h in omega (arith, a, lt)) e
      by false i Remainder j lt e = frame (2 * width_of h + j) (let a : 4 * width_of h ≤ frame_size h = four_values h i in omega (arith, a, lt)) e
      by false i Spare j lt e = frame (3 * width_of h + j) (let a : 4 * width_of h ≤ frame_size h = four_values h i in omega (arith, a, lt)) e
      by true i Remainder j lt e = omega (arith, e)
      by true i Spare j lt e = omega (arith, e)
      by b i Answer j lt e =
          let four : width_of h ≤ 4 = four_results h in
          r j (omega (arith, four, lt)) ((own_stands g inside copy (frame_size h) own (Result root j) (refl, omega (arith, four, lt))).is ∙ ap (λ (n : ℕ). Some n) (sym e))

  others : (k : ℕ) → ((offset : ℕ) → offset < frame_size h → general_at (address_of g.program.layout (Frame copy offset)) ≢ Some k) → ((n : ℕ) → n < 4 → general_at (address_of g.program.layout (Result root n)) ≢ Some k) → result.out.memory k ≡ s.memory k
  others k f r =
      own_bytes (price (Copy copy)) (task_of h) (lay (k + 1)) wide gone.steps gone.cost (place 0 begin) (place result.at result.out)
      (subst (λ (xs : List Sym). Path (price (Copy copy)) xs gone.steps gone.cost (place 0 begin) (place result.at result.out)) (sym (code_at (k + 1))) gone.path) k (foreign k f r)

  -- the results have the answer
  results_are : (k : ℕ) → k < layouts.bytes_of (routines.width_of h) → Holds g.program.layout result.out.memory (Result root k) (byte_at (number_of (lay 512) result.out Answer) k)
  results_are k lt n e =
      let low : k < width_of h = subst (λ m. k < m) (width_is h) lt in
      let four : width_of h ≤ 4 = four_results h in
      let same : at (Result root k) ≡ n = inside_some (sym (own_stands g inside copy (frame_size h) own (Result root k) (refl, omega (arith, four, low))).is ∙ e) in
      ap result.out.memory (sym same) ∙ sym (byte_back (λ j. result.out.memory (at (Result root j))) (width_of h) k low (λ j l. kept.bytes (at (Result root j))))
    where
      inside_some : {a b : ℕ} → Some a ≡ Some b → a ≡ b
      inside_some e = cc

  value : wanted.IsAnswer h left right (number_of (lay 512) result.out Answer)
  value op ty e =
      let w : Wanted op ty h = wanted_of op ty h e in
      let v : IsValue op ty (number_of (lay 512) begin Left) (number_of (lay 512) begin Right) (number_of (lay 512) result.out Answer) = result.answer op ty w.fits w.task in
      subst (λ (q : Quantity). IfSome (outcome op (cut_to ty (pos left)) q) (λ value. number_of (lay 512) result.out Answer ≡ pattern value.ty value.number)) (right_operand_is op ty w)
      (subst (λ (n : ℕ). IfSome (outcome op (cut_to ty (pos n)) (right_operand op ty (number_of (lay 512) begin Right))) (λ value. number_of (lay 512) result.out Answer ≡ pattern value.ty value.number)) left_is v)

  costs : (limit : ℕ) → most_of (price (Copy copy)) (lay 512) (task_of h) count ≤ limit → quiet_cost g price inside run.count s ≤ limit
  costs limit a =
      let b : gone.cost + price (Copy copy) result.at ≤ most_of (price (Copy copy)) (lay 512) (task_of h) count = gone.few in
      let c : quiet_cost g price inside run.count s ≡ gone.cost + price (Copy copy) result.at = ap (quiet_cost g price inside run.count) from ∙ run.cost in
      omega arith

  cheap : (is_shift h ≡ true → right % 256 < 8 * width_of h) → quiet_cost g price inside run.count s ≤ 2048
  cheap f =
      costs 2048 (most_within h root copy 512 count at (price (Copy copy)) priced (most_rounds h) 2048
      (few h count (λ e. subst (λ n. n < 8 * width_of h) (sym (count_right e)) (f e))) (parts h root copy).small)

  always : quiet_cost g price inside run.count s ≤ routine_most
  always =
      costs routine_most (most_within h root copy 512 count at (price (Copy copy)) priced (all_rounds h) routine_most
      (few_always h count (called.bytes (at (Frame copy (width_of h + 0))))) (parts h root copy).always)

  went : direct_run g inside run.count s ≡ Some (returned g inside (IsOwnOne inside copy (frame_size h)) quiet price (Copy copy) all s.thread idle next stack (place result.at result.out))
  went = ap (direct_run g inside run.count) from ∙ run.run

  pub answered : (end : wanted.Answers h copy g price inside next stack left right s) × (end.end.thread.rest ≡ None) × (direct_run g inside end.count s ≡ Some end.end) × (quiet_cost g price inside end.count s ≤ routine_most)
  answered = (
    record {
      count = run.count;
      end = returned g inside (IsOwnOne inside copy (frame_size h)) quiet price (Copy copy) all s.thread idle next stack (place result.at result.out);
      answer = number_of (lay 512) result.out Answer;
      run = run_quiet g inside run.count s (returned g inside (IsOwnOne inside copy (frame_size h)) quiet price (Copy copy) all s.thread idle next stack (place result.at result.out)) went;
      at = refl;
      returns = refl;
      fits = kept.fits;
      registers = kept.same;
      bytes = kept.bytes;
      others = others;
      results = results_are;
      value = value;
      cost = λ op ty e. where_valued h op ty left right (quiet_cost g price inside run.count s ≤ 2048) (wanted_of op ty h e) cheap;
    },
    idle,
    went,
    always,
  )

-- each routine answers
pub helpers_answer : HelpersAnswer
helpers_answer h copy g price inside next stack left right s ls rs idle called priced = answered h copy g price inside next stack left right s ls rs idle called priced
