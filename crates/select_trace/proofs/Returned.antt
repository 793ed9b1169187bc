-- Each routine returns, with the value of its operator.
use Rattle.std.proofs.Common.{◌≡◌, ℕ, suc, ◌+◌, ◌≤◌, List, [], ◌∷◌, ◌++◌, append_assoc, refl, ap, sym, ◌∙◌, subst, arith, inl, inr, length, Some, slice_get}
use Rattle.std.specs.Prelude.{nat_eq, if◌then◌else◌}
use Rattle.std.proofs.lemmas.Bool.Decides.{nat_tests}
use Rattle.select_trace.specs.Run.{Sym, Return, Label, Mode, Machine, run}
use Rattle.sym_code.specs.Effect.{Memory}
use Rattle.select_trace.specs.Links.{Fine}
use Rattle.sym_code.specs.Registers.{Registers}
use Rattle.select_trace.specs.Helpers.{Layout, Left, Right, Remainder, Spare, Answer, Clear, Answers, ShiftLeft, each, product_round, divide_round, take_off_code, rounds_code, round_end_code, negate_if_code, sign_code, magnitudes_code, Part, Quotient, Rest, part_value, Direction, Leftward, Rightward, SignedRightward, one_bit_code}
use Rattle.select_trace.specs.Steps.{number_of}
use Rattle.select_trace.specs.Positions.{Place, dues, owed, place, times, jumps, IsSound, Returns, Stands, GoesAlong, AtPlace, acts, Path}
use Rattle.select_trace.specs.Division.{DivideRuns}
use Rattle.select_trace.specs.Products.{ProductRuns}
use Rattle.select_trace.specs.SignedDivision.{DivisionRuns, SignedDivisionRuns}
use Rattle.select_trace.specs.Shifts.{shift_start, GoesRound}
use Rattle.select_trace.specs.Routines.{product_code, division_code, signed_division_code, shift_code}
use Rattle.select_trace.proofs.Vals.{run_append}
use Rattle.select_trace.proofs.Positions.{times_append, along, past_some}
use Rattle.select_trace.proofs.Routines.{whole_most, walks_whole, each_times, each_jumps, jumps_append, sound_from}
use Rattle.select_trace.proofs.Operators.{ShiftRuns}

abbrev is : ℕ → ℕ → ℕ
is k n = if nat_eq k n then 1 else 0

-- ---- products
abbrev pub product_start : Layout → List Sym
product_start l = each l (Clear Answer) ++ rounds_code l

abbrev pub product_body : Layout → List Sym
product_body l = product_round l ++ round_end_code l Spare 0

abbrev product_whole : Layout → List Sym
product_whole l = product_start l ++ (Label 0 ∷ (product_body l ++ ([] ++ (Return ∷ []))))

product_same : (l : Layout) → product_whole l ≡ product_code l
product_same l = simp append_assoc

product_times : (l : Layout) (n : ℕ) → times n (product_whole l) ≡ is 0 n + is 1 n
product_times l n = simp (times_append, each_times) (grind (arith, nat_tests))

product_jumps : (l : Layout) (n : ℕ) → jumps n (product_whole l) ≡ is 0 n + is 1 n
product_jumps l n = simp (jumps_append, each_jumps) (grind (arith, nat_tests))

-- these labels stand once, and jumps go to no others
two : (t j n : ℕ) → t ≡ is 0 n + is 1 n → t ≤ 1
two t j n e = grind (arith, nat_tests)

product_sound : (l : Layout) → IsSound (product_whole l)
product_sound l = sound_from (product_whole l) (λ n. two (times n (product_whole l)) 0 n (product_times l n)) (λ n h. let a = product_times l n in let b = product_jumps l n in omega (arith, a, b))

abbrev pub product_most : (ℕ → ℕ) → Layout → ℕ → ℕ
product_most price l rounds = whole_most price (product_start l) (product_body l) [] rounds

pub product_path : (price : ℕ → ℕ) (l : Layout) (t v : Machine) → Fine t → (r : ProductRuns l t v) → (q : ℕ) × Returns price (product_code l) (place 0 t) (product_most price l (suc r.rounds)) (place q v)
product_path price l t v ok r =
    let w : Returns price (product_whole l) (place 0 t) (product_most price l (suc r.rounds)) (place (length (product_start l) + 1 + length (product_body l) + 0) v) =
    walks_whole price (product_start l) (product_body l) [] 0 (product_sound l) r.rounds t (run (product_start l) t) v v ok.going refl r.begins r.loops r.fine.going refl r.fine.going in
    (length (product_start l) + 1 + length (product_body l) + 0, rw (product_same l) at w)

-- ---- divisions without sign
abbrev pub divide_start : Layout → List Sym
divide_start l = each l (Clear Remainder) ++ rounds_code l

abbrev pub divide_body : Layout → List Sym
divide_body l = divide_round l ++ round_end_code l Spare 0

abbrev pub division_end : Layout → Part → List Sym
division_end l part = each l (ShiftLeft Left) ++ each l (Answers (part_value part))

abbrev division_whole : Layout → Part → List Sym
division_whole l part = divide_start l ++ (Label 0 ∷ (divide_body l ++ (division_end l part ++ (Return ∷ []))))

division_same : (l : Layout) (part : Part) → division_whole l part ≡ division_code l part
division_same l part = simp append_assoc

division_times : (l : Layout) (part : Part) (n : ℕ) → times n (division_whole l part) ≡ is 0 n + is 1 n + is 2 n
division_times l part n = simp (times_append, each_times) (grind (arith, nat_tests))

division_jumps : (l : Layout) (part : Part) (n : ℕ) → jumps n (division_whole l part) ≡ is 0 n + is 1 n + is 2 n
division_jumps l part n = simp (jumps_append, each_jumps) (grind (arith, nat_tests))

three : (t n : ℕ) → t ≡ is 0 n + is 1 n + is 2 n → t ≤ 1
three t n e = grind (arith, nat_tests)

division_sound : (l : Layout) (part : Part) → IsSound (division_whole l part)
division_sound l part = sound_from (division_whole l part) (λ n. three (times n (division_whole l part)) n (division_times l part n)) (λ n h. let a = division_times l part n in let b = division_jumps l part n in omega (arith, a, b))

abbrev pub division_most : (ℕ → ℕ) → Layout → Part → ℕ → ℕ
division_most price l part rounds = whole_most price (divide_start l) (divide_body l) (division_end l part) rounds

pub division_path : (price : ℕ → ℕ) (part : Part) (l : Layout) (t v : Machine) → Fine t → (r : DivisionRuns l part t v) → (q : ℕ) × Returns price (division_code l part) (place 0 t) (division_most price l part (suc r.divides.rounds)) (place q v)
division_path price part l t v ok r =
    let d : DivideRuns l t r.inner = r.divides in
    let ends : run (division_end l part) d.out ≡ v = run_append (each l (ShiftLeft Left)) (each l (Answers (part_value part))) d.out ∙ ap (run (each l (Answers (part_value part)))) (sym d.ends) ∙ sym r.ends in
    let w : Returns price (division_whole l part) (place 0 t) (division_most price l part (suc d.rounds)) (place (length (divide_start l) + 1 + length (divide_body l) + length (division_end l part)) v) =
    walks_whole price (divide_start l) (divide_body l) (division_end l part) 0 (division_sound l part) d.rounds t (run (divide_start l) t) d.out v ok.going refl d.begins d.loops d.out_goes ends r.fine.going in
    (length (divide_start l) + 1 + length (divide_body l) + length (division_end l part), rw (division_same l part) at w)

-- ---- divisions with sign
abbrev pub signed_start : Layout → Part → List Sym
signed_start l part = (sign_code l part ++ magnitudes_code l) ++ divide_start l

abbrev pub signed_end : Layout → Part → List Sym
signed_end l part = each l (ShiftLeft Left) ++ (negate_if_code l (l.at Spare 1) (part_value part) 5 ++ each l (Answers (part_value part)))

abbrev signed_whole : Layout → Part → List Sym
signed_whole l part = signed_start l part ++ (Label 0 ∷ (divide_body l ++ (signed_end l part ++ (Return ∷ []))))

signed_same : (l : Layout) (part : Part) → signed_whole l part ≡ signed_division_code l part
signed_same l part = sym (brackets (sign_code l part) (magnitudes_code l) (each l (Clear Remainder)) (rounds_code l) (each l (ShiftLeft Left)) (each l (ShiftLeft Remainder)) (take_off_code l) (round_end_code l Spare 0) (each l (ShiftLeft Left)) (negate_if_code l (l.at Spare 1) (part_value part) 5) (each l (Answers (part_value part))) (Return ∷ []))
  where
    brackets : (s m c r x y k e z n a f : List Sym) → s ++ m ++ (c ++ r ++ (Label 0 ∷ []) ++ x ++ y ++ k ++ e ++ z) ++ n ++ a ++ f ≡ ((s ++ m) ++ (c ++ r)) ++ (Label 0 ∷ (((x ++ y ++ k) ++ e) ++ ((z ++ (n ++ a)) ++ f)))
    brackets s m c r x y k e z n a f = simp append_assoc

signed_times : (l : Layout) (part : Part) (n : ℕ) → times n (signed_whole l part) ≡ is 0 n + is 1 n + is 2 n + is 3 n + is 4 n + is 5 n
signed_times l Quotient n = simp (times_append, each_times) (grind (arith, nat_tests))
signed_times l Rest n = simp (times_append, each_times) (grind (arith, nat_tests))

signed_jumps : (l : Layout) (part : Part) (n : ℕ) → jumps n (signed_whole l part) ≡ is 0 n + is 1 n + is 2 n + is 3 n + is 4 n + is 5 n
signed_jumps l Quotient n = simp (jumps_append, each_jumps) (grind (arith, nat_tests))
signed_jumps l Rest n = simp (jumps_append, each_jumps) (grind (arith, nat_tests))

six : (t n : ℕ) → t ≡ is 0 n + is 1 n + is 2 n + is 3 n + is 4 n + is 5 n → t ≤ 1
six t n e = grind (arith, nat_tests)

signed_sound : (l : Layout) (part : Part) → IsSound (signed_whole l part)
signed_sound l part = sound_from (signed_whole l part) (λ n. six (times n (signed_whole l part)) n (signed_times l part n)) (λ n h. let a = signed_times l part n in let b = signed_jumps l part n in omega (arith, a, b))

abbrev pub signed_most : (ℕ → ℕ) → Layout → Part → ℕ → ℕ
signed_most price l part rounds = whole_most price (signed_start l part) (divide_body l) (signed_end l part) rounds

pub signed_division_path : (price : ℕ → ℕ) (part : Part) (l : Layout) (t v : Machine) → Fine t → (r : SignedDivisionRuns l part t v) → (q : ℕ) × Returns price (signed_division_code l part) (place 0 t) (signed_most price l part (suc r.divides.rounds)) (place q v)
signed_division_path price part l t v ok r =
    let d : DivideRuns l r.middle r.inner = r.divides in
    let starts : run (signed_start l part) t ≡ run (divide_start l) r.middle = run_append (sign_code l part ++ magnitudes_code l) (divide_start l) t ∙ ap (run (divide_start l)) (sym r.begins) in
    let ends : run (signed_end l part) d.out ≡ v = run_append (each l (ShiftLeft Left)) (negate_if_code l (l.at Spare 1) (part_value part) 5 ++ each l (Answers (part_value part))) d.out ∙ ap (run (negate_if_code l (l.at Spare 1) (part_value part) 5 ++ each l (Answers (part_value part)))) (sym d.ends) ∙ sym r.ends in
    let w : Returns price (signed_whole l part) (place 0 t) (signed_most price l part (suc d.rounds)) (place (length (signed_start l part) + 1 + length (divide_body l) + length (signed_end l part)) v) =
    walks_whole price (signed_start l part) (divide_body l) (signed_end l part) 0 (signed_sound l part) d.rounds t (run (divide_start l) r.middle) d.out v ok.going starts d.begins d.loops d.out_goes ends r.fine.going in
    (length (signed_start l part) + 1 + length (divide_body l) + length (signed_end l part), rw (signed_same l part) at w)

-- ---- shifts
abbrev pub shift_body : Layout → Direction → List Sym
shift_body l direction = one_bit_code l direction ++ round_end_code l Right 0

abbrev shift_whole : Layout → Direction → List Sym
shift_whole l direction = shift_start l ++ (Label 0 ∷ (shift_body l direction ++ ([] ++ (Return ∷ []))))

shift_same : (l : Layout) (direction : Direction) → shift_whole l direction ≡ shift_code l direction
shift_same l Leftward = simp append_assoc
shift_same l Rightward = simp append_assoc
shift_same l SignedRightward = simp append_assoc

shift_times : (l : Layout) (direction : Direction) (n : ℕ) → times n (shift_whole l direction) ≡ is 0 n
shift_times l Leftward n = simp (times_append, each_times) (grind (arith, nat_tests))
shift_times l Rightward n = simp (times_append, each_times) (grind (arith, nat_tests))
shift_times l SignedRightward n = simp (times_append, each_times) (grind (arith, nat_tests))

shift_jumps : (l : Layout) (direction : Direction) (n : ℕ) → jumps n (shift_whole l direction) ≡ is 0 n
shift_jumps l Leftward n = simp (jumps_append, each_jumps) (grind (arith, nat_tests))
shift_jumps l Rightward n = simp (jumps_append, each_jumps) (grind (arith, nat_tests))
shift_jumps l SignedRightward n = simp (jumps_append, each_jumps) (grind (arith, nat_tests))

one_label : (t n : ℕ) → t ≡ is 0 n → t ≤ 1
one_label t n e = grind (arith, nat_tests)

shift_sound : (l : Layout) (direction : Direction) → IsSound (shift_whole l direction)
shift_sound l direction = sound_from (shift_whole l direction) (λ n. one_label (times n (shift_whole l direction)) n (shift_times l direction n)) (λ n h. let a = shift_times l direction n in let b = shift_jumps l direction n in omega (arith, a, b))

-- a round for each bit, and none where there is no bit
abbrev pub shift_most : (ℕ → ℕ) → Layout → Direction → ℕ → ℕ
shift_most price l direction count = whole_most price (shift_start l) (shift_body l direction) [] count

pub shift_returns : (price : ℕ → ℕ) (l : Layout) (direction : Direction) (s : ℕ) (t : Machine) → Fine t → (a : ℕ) → ShiftRuns l direction s t a →
    (v : Machine) × (q : ℕ) × Returns price (shift_code l direction) (place 0 t) (shift_most price l direction (t.memory (l.at Right 0))) (place q v) × (number_of l v Answer ≡ a)
shift_returns price l direction s t ok a h = elim h.way [
  | inl none ↦
      let code : List Sym = shift_whole l direction in
      let v : Machine = run (shift_start l) t in
      let post : List Sym = Label 0 ∷ (shift_body l direction ++ ([] ++ (Return ∷ []))) in
      let start : Stands code 0 (shift_start l ++ post) t (place 0 t) = record { registers = refl; memory = refl; at = subst (λ (m : Mode). AtPlace code m 0 (shift_start l ++ post) (place 0 t)) (sym ok.going) refl } in
      let g : GoesAlong price code (place 0 t) (owed price 0 t.mode + dues price 0 (shift_start l)) (0 + length (shift_start l)) post v =
      along price code post (shift_sound l direction).once (past_some (Label 0 ∷ shift_body l direction) (Return ∷ []) (1, refl)) (shift_start l) 0 t (place 0 t) refl (shift_sound l direction).leads start in
      let at : slice_get code g.out.at ≡ Some Return = subst (λ (m : Mode). AtPlace code m (0 + length (shift_start l)) post g.out) none.0.mode g.stands.at in
      let same : g.out ≡ place g.out.at v = ap (λ (x : Registers). record { at = g.out.at; registers = x; memory = g.out.memory }) g.stands.registers ∙ ap (λ (x : Memory). record { at = g.out.at; registers = v.registers; memory = x }) g.stands.memory in
      let few : g.cost + owed price g.out.at v.mode ≤ owed price 0 t.mode + dues price 0 (shift_start l) = g.few in
      let first : owed price 0 t.mode ≡ 0 = ap (owed price 0) ok.going in
      let last : owed price g.out.at v.mode ≡ price g.out.at = ap (owed price g.out.at) none.0.mode in
      let w : Returns price code (place 0 t) (shift_most price l direction (t.memory (l.at Right 0))) (place g.out.at v) =
      record { steps = g.steps; cost = g.cost; few = enough _ _ _ _ _ _ _ few first last; path = subst (λ (x : Place). Path price code g.steps g.cost (place 0 t) x) same g.path; back = ap (acts code (place g.out.at v)) at } in
      (v, g.out.at, subst (λ (c : List Sym). Returns price c (place 0 t) (shift_most price l direction (t.memory (l.at Right 0))) (place g.out.at v)) (shift_same l direction) w, none.0.answer ∙ sym none.1)
  | inr some ↦
      let r : GoesRound l direction s t = some.0 in
      let w : Returns price (shift_whole l direction) (place 0 t) (shift_most price l direction (suc r.rounds)) (place (length (shift_start l) + 1 + length (shift_body l direction) + 0) r.out) =
      walks_whole price (shift_start l) (shift_body l direction) [] 0 (shift_sound l direction) r.rounds t (run (shift_start l) t) r.out r.out ok.going refl r.begins r.loops r.fine.going refl r.fine.going in
      (r.out, length (shift_start l) + 1 + length (shift_body l direction) + 0, subst (λ (n : ℕ). Returns price (shift_code l direction) (place 0 t) (shift_most price l direction n) (place (length (shift_start l) + 1 + length (shift_body l direction) + 0) r.out)) (sym r.as_bits) (rw (shift_same l direction) at w), sym some.1)
]
  where
    enough : (c o f d r b q : ℕ) → c + o ≤ f + d → f ≡ 0 → o ≡ q → c + q ≤ d + r + b
    enough c o f d r b q h e g = omega (arith, h, e, g)
