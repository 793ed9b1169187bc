-- Lists of marks, as the code keeps them.
use Rattle.std.proofs.Common.{◌≡◌, ◌≢◌, ℕ, zero, suc, ◌+◌, ◌<◌, ◌≤◌, Bool, true, false, if◌then◌else◌, List, [], ◌∷◌, ◌++◌, length, take, replicate, set, get_or, slice_get, refl, sym, ap, ◌∙◌, subst, arith}
use Rattle.std.proofs.lemmas.Bool.{and_parts, and_from, lt-ltb}
use Rattle.std.proofs.lemmas.List.{map-set, set_past, map_more, get_or-map, length-map, length-take-le}
use Rattle.narrow_code.specs.Checked.{all_below, both_say, met, nowhere}
use Rattle.narrow_code.specs.Marks.{Mark, Zero, Numbers, Same, Differs, is_below}
use Rattle.narrow_code.specs.Right.{set_mark}
use Rattle.narrow_pass.specs.Ways.{mark_of, marks_of, entry_mark, entry_flag, set_bytes}
use Rattle.narrow_pass.specs.declared.marks.Mark as kept
use Rattle.narrow_pass.specs.declared.marks.Mark.TheVariants as kept_marks

-- ---- entries
pub mark_entry : (l : List kept.Mark) (at : ℕ) → entry_mark (slice_get l at) ≡ get_or (marks_of l) at Differs
mark_entry [] zero = refl
mark_entry [] (suc at) = refl
mark_entry (m ∷ l) zero = refl
mark_entry (m ∷ l) (suc at) = mark_entry l at

pub flag_entry : (l : List Bool) (at : ℕ) → entry_flag (slice_get l at) ≡ get_or l at false
flag_entry [] zero = refl
flag_entry [] (suc at) = refl
flag_entry (b ∷ l) zero = refl
flag_entry (b ∷ l) (suc at) = flag_entry l at

pub set_marks : (l : List kept.Mark) (at : ℕ) (m : kept.Mark) → marks_of (set l at m) ≡ set (marks_of l) at (mark_of m)
set_marks l at m = map-set mark_of l at m

pub set_beyond : (l : List kept.Mark) (at : ℕ) (m : kept.Mark) → length l ≤ at → marks_of l ≡ set (marks_of l) at (mark_of m)
set_beyond l at m h = sym (set_past (marks_of l) at (mark_of m) (omega (arith, h, length-map l mark_of)))

-- ---- a number that is set
pub set_zero : (n : ℕ) → n ≡ 0 → Zero ≡ set_mark n
set_zero n e = sym (ap set_mark e)

pub set_positive : (n : ℕ) → n ≢ 0 → n < 256 → Numbers ≡ set_mark n
set_positive zero d h = absurd (d refl)
set_positive (suc n) d h = sym (ap (λ (t : Bool). if t then Numbers else Same) (lt-ltb (suc n) 256 h))

-- ---- no way leads here
passed_on : (x : Mark) (l : List Mark) (n : ℕ) → set_bytes (x ∷ l) 0 (suc n) (λ k. Zero) ≡ Zero ∷ set_bytes l 0 n (λ k. Zero)
passed_on x l zero = refl
passed_on x l (suc n) =
    ap (λ (r : List Mark). set r (0 + suc n) Zero) (passed_on x l n)
    ∙ ap (λ (i : ℕ). set (Zero ∷ set_bytes l 0 n (λ k. Zero)) i Zero) (number n)
  where
    number : (n : ℕ) → 0 + suc n ≡ suc (0 + n)
    number n = omega arith

passed_whole : (l : List Mark) → set_bytes l 0 (length l) (λ k. Zero) ≡ replicate (length l) Zero
passed_whole [] = refl
passed_whole (x ∷ l) = passed_on x l (length l) ∙ ap (λ (r : List Mark). Zero ∷ r) (passed_whole l)

pub none_passed : (marks : List Mark) → marks ≡ set_bytes marks 0 0 (λ k. Zero)
none_passed marks = refl

pub one_passed : (marks now after : List Mark) (k : ℕ) → now ≡ set_bytes marks 0 k (λ i. Zero) → after ≡ set now k Zero → after ≡ set_bytes marks 0 (k + 1) (λ i. Zero)
one_passed marks now after k e h =
    let more : suc k ≡ k + 1 = omega arith in
    let place : k ≡ 0 + k = omega arith in
    subst (λ (n : ℕ). after ≡ set_bytes marks 0 n (λ i. Zero)) more
    (h ∙ ap (λ (r : List Mark). set r k Zero) e ∙ ap (λ (i : ℕ). set (set_bytes marks 0 k (λ j. Zero)) i Zero) place)

pub all_passed : (old : List kept.Mark) (marks after : List Mark) (n : ℕ) → marks ≡ marks_of old → n ≡ length old → after ≡ set_bytes marks 0 n (λ k. Zero) → after ≡ nowhere marks
all_passed old marks after n e h f =
    f ∙ ap (λ (i : ℕ). set_bytes marks 0 i (λ k. Zero)) (h ∙ sym (ap (λ (l : List Mark). length l) e ∙ length-map old mark_of)) ∙ passed_whole marks

-- ---- what says no more
below_snoc : (xs : List Mark) (m : Mark) (ys : List Mark) → all_below xs ys ≡ true → is_below m (get_or ys (length xs) Differs) ≡ true → all_below (xs ++ m ∷ []) ys ≡ true
below_snoc [] m [] h e = and_from (is_below m Differs) true e refl
below_snoc [] m (y ∷ ys) h e = and_from (is_below m y) true e refl
below_snoc (x ∷ xs) m [] h e =
    let p = and_parts (is_below x Differs) (all_below xs []) h in
    and_from (is_below x Differs) (all_below (xs ++ m ∷ []) []) p.0 (below_snoc xs m [] p.1 e)
below_snoc (x ∷ xs) m (y ∷ ys) h e =
    let p = and_parts (is_below x y) (all_below xs ys) h in
    and_from (is_below x y) (all_below (xs ++ m ∷ []) ys) p.0 (below_snoc xs m ys p.1 e)

-- the marks of one more
more_marks : (l : List kept.Mark) (k : ℕ) → k < length l → marks_of (take (k + 1) l) ≡ marks_of (take k l) ++ get_or (marks_of l) k Differs ∷ []
more_marks l k h = map_more mark_of l k kept_marks.Differs h ∙ ap (λ (m : Mark). marks_of (take k l) ++ m ∷ []) (sym (get_or-map mark_of l k kept_marks.Differs Differs h))

marks_long : (l : List kept.Mark) (k : ℕ) → k < length l → length (marks_of (take k l)) ≡ k
marks_long l k h = length-map (take k l) mark_of ∙ length-take-le k l (omega (arith, h))

pub none_below : (known : List kept.Mark) → all_below [] (marks_of known) ≡ true
none_below known = refl

pub one_below : (said known : List kept.Mark) (k : ℕ) → k < length said → is_below (get_or (marks_of said) k Differs) (get_or (marks_of known) k Differs) ≡ true → all_below (marks_of (take k said)) (marks_of known) ≡ true
    → all_below (marks_of (take (k + 1) said)) (marks_of known) ≡ true
one_below said known k h e inv =
    subst (λ (l : List Mark). all_below l (marks_of known) ≡ true) (sym (more_marks said k h))
    (below_snoc (marks_of (take k said)) (get_or (marks_of said) k Differs) (marks_of known) inv
    (subst (λ (i : ℕ). is_below (get_or (marks_of said) k Differs) (get_or (marks_of known) i Differs) ≡ true) (sym (marks_long said k h)) e))

-- ---- what both say
met_snoc : (xs ys : List Mark) (m : Mark) → length xs < length ys → met (xs ++ m ∷ []) ys ≡ met xs ys ++ both_say m (get_or ys (length xs) Differs) ∷ []
met_snoc [] [] m h = absurd (omega (arith, h))
met_snoc [] (y ∷ ys) m h = refl
met_snoc (x ∷ xs) [] m h = absurd (omega (arith, h))
met_snoc (x ∷ xs) (y ∷ ys) m h = ap (λ (l : List Mark). both_say x y ∷ l) (met_snoc xs ys m (omega (arith, h)))

map_snoc : (l : List kept.Mark) (m : kept.Mark) → marks_of (l ++ m ∷ []) ≡ marks_of l ++ mark_of m ∷ []
map_snoc [] m = refl
map_snoc (x ∷ l) m = ap (λ (r : List Mark). mark_of x ∷ r) (map_snoc l m)

pub one_met : (said known made : List kept.Mark) (k : ℕ) (m : kept.Mark) → k < length said → length said ≤ length known
    → mark_of m ≡ both_say (get_or (marks_of said) k Differs) (get_or (marks_of known) k Differs)
    → marks_of made ≡ met (marks_of (take k said)) (marks_of known) → marks_of (made ++ m ∷ []) ≡ met (marks_of (take (k + 1) said)) (marks_of known)
one_met said known made k m h w e inv =
    let long = marks_long said k h in
    map_snoc made m
    ∙ ap (λ (n : Mark). marks_of made ++ n ∷ []) (e ∙ ap (λ (i : ℕ). both_say (get_or (marks_of said) k Differs) (get_or (marks_of known) i Differs)) (sym long))
    ∙ ap (λ (l : List Mark). l ++ both_say (get_or (marks_of said) k Differs) (get_or (marks_of known) (length (marks_of (take k said))) Differs) ∷ []) inv
    ∙ sym (met_snoc (marks_of (take k said)) (marks_of known) (get_or (marks_of said) k Differs) (omega (arith, long, h, w, length-map known mark_of)))
    ∙ ap (λ (l : List Mark). met l (marks_of known)) (sym (more_marks said k h))
