-- A draft that passes the test makes a plan that fits.
use Rattle.std.proofs.Common.{◌≡◌, ℕ, zero, suc, Bool, true, false, ◌&&◌, ◌||◌, nat_eq, nat_lt, if◌then◌else◌, List, [], ◌∷◌, get_or, set, map, replicate, Option, Some, None, refl, sym, ap, ◌∙◌, subst}
use Rattle.std.proofs.lemmas.Bool.{true≢false, and_parts, eqb-true, eqb-false, ne_eqb}
use Rattle.std.proofs.lemmas.List.{get_or-set_other}
use Rattle.std.proofs.lemmas.Option.{none-some, cond_some}
use Rattle.c_ints.specs.Operators.{type_of, unary_type, compares}
use Rattle.c_ints.specs.Range.{bytes_of}
use Rattle.c_ints.specs.declared.operators.BinOp.{BinOp}
use Rattle.c_ints.specs.declared.types.IntTy.{IntTy}
use Rattle.core_code.specs.Bytes.{behind}
use Rattle.core_code.specs.Tree as tree
use Rattle.core_code.specs.Tree.{Tree, Trees, NoTree, AndTree}
use Rattle.core_code.specs.Values.{right_type}
use Rattle.core_code.specs.declared.code.Byte.{Byte}
use Rattle.core_code.specs.declared.code.Byte.TheVariants.{Static, Frame, Result, Device}
use Rattle.narrow_code.specs.Checked.{Turn, all_below, both_say, met, put, put_bytes, put_on, nowhere, allowed, walked_on, joined, comes_back, may_exit, may_repeat, same_at, number_at, same_from, small_at, may_cut, walk_binary, walk_leaf, walk, walk_all, TestIsRight}
use Rattle.narrow_code.specs.Drafts.{Draft, Drafts, cuts, parts_of, way_of, first_of, second_of, front_of, behind_of, body_of, head_of, tail_of, marks_in, planned, all_planned, PlansAreOfCode}
use Rattle.narrow_code.specs.Marks.{Mark, Numbers, Same, Differs, Marks, IsBelow, is_below, marked, marked_bytes, marked_on, own_mark, may_differ, Below}
use Rattle.narrow_code.specs.Plans as plans
use Rattle.narrow_code.specs.Plans.{Plan, Plans, NoPlan, AndPlan, given, all_given}
use Rattle.narrow_code.specs.Right.{Ends, Exits, Repeats, is_low, set_mark, narrow_mark, are_low_alone, behind_binary, behind_convert, fits_way, FitsLeaf, FitsNarrowed, Fits, AllFit}
use Rattle.narrow_code.proofs.Memory.{never, below_refl, lower, lower_refl, marked_below, on_below}

-- ---- the plan is one of the code
mutual
  given_again : (t : Tree) (d : Draft) → given (planned t d) ≡ t
  given_again (tree.Binary op ty to a b) d = by_cut (cuts d)
    where
      by_cut : (t : Bool) → given (if t then plans.Narrowed op ty to a b else plans.Stays (tree.Binary op ty to a b)) ≡ tree.Binary op ty to a b
      by_cut true = refl
      by_cut false = refl
  given_again (tree.Many ts) d = ap tree.Many (all_given_again ts (parts_of d))
  given_again (tree.If test size first second) d = ap (λ (t : Tree). tree.If test size t (given (planned second (second_of d)))) (given_again first (first_of d)) ∙ ap (tree.If test size first) (given_again second (second_of d))
  given_again (tree.Loop body) d = ap tree.Loop (given_again body (body_of d))
  given_again (tree.Set to value) d = refl
  given_again (tree.Address to place) d = refl
  given_again (tree.Copy to from) d = refl
  given_again (tree.Load to pointer count) d = refl
  given_again (tree.Store pointer from count) d = refl
  given_again (tree.Unary op ty at) d = refl
  given_again (tree.Convert from to at) d = refl
  given_again (tree.BitRead to register number) d = refl
  given_again (tree.BitWrite register number from) d = refl
  given_again (tree.Call copy) d = refl
  given_again tree.Leave d = refl
  given_again (tree.Exit n) d = refl
  given_again (tree.Again n) d = refl

  all_given_again : (ts : Trees) (ds : Drafts) → all_given (all_planned ts ds) ≡ ts
  all_given_again NoTree ds = refl
  all_given_again (AndTree t ts) ds = ap (λ (u : Tree). AndTree u (all_given (all_planned ts (tail_of ds)))) (given_again t (head_of ds)) ∙ ap (AndTree t) (all_given_again ts (tail_of ds))

pub plans_are_of_code : PlansAreOfCode
plans_are_of_code ts ds = all_given_again ts ds

-- ---- lists of marks
below_at : (said known : List Mark) (i : ℕ) → all_below said known ≡ true → IsBelow (get_or said i Differs) (get_or known i Differs)
below_at [] known i e = refl
below_at (k ∷ said) [] zero e = (and_parts (is_below k Differs) (all_below said []) e).0
below_at (k ∷ said) [] (suc i) e = below_at said [] i (and_parts (is_below k Differs) (all_below said []) e).1
below_at (k ∷ said) (j ∷ known) zero e = (and_parts (is_below k j) (all_below said known) e).0
below_at (k ∷ said) (j ∷ known) (suc i) e = below_at said known i (and_parts (is_below k j) (all_below said known) e).1

all_below_is : (p : ℕ) (said known : List Mark) → all_below said known ≡ true → Below p (marks_in said) (marks_in known)
all_below_is p said known e c i f = below_at said known i e

both_first : (k j : Mark) → IsBelow (both_say k j) k
both_first k j = by_first (is_below k j)
  where
    by_second : (t : Bool) → is_below j k ≡ t → IsBelow (if t then j else Differs) k
    by_second true e = e
    by_second false e = refl

    by_first : (t : Bool) → IsBelow (if t then k else if is_below j k then j else Differs) k
    by_first true = below_refl k
    by_first false = by_second (is_below j k) refl

both_second : (k j : Mark) → IsBelow (both_say k j) j
both_second k j = by_first (is_below k j) refl
  where
    by_second : (t : Bool) → IsBelow (if t then j else Differs) j
    by_second true = below_refl j
    by_second false = refl

    by_first : (t : Bool) → is_below k j ≡ t → IsBelow (if t then k else if is_below j k then j else Differs) j
    by_first true e = e
    by_first false e = by_second (is_below j k)

met_first : (said known : List Mark) (i : ℕ) → IsBelow (get_or (met said known) i Differs) (get_or said i Differs)
met_first [] known i = refl
met_first (k ∷ said) [] i = refl
met_first (k ∷ said) (j ∷ known) zero = both_first k j
met_first (k ∷ said) (j ∷ known) (suc i) = met_first said known i

met_second : (said known : List Mark) (i : ℕ) → IsBelow (get_or (met said known) i Differs) (get_or known i Differs)
met_second [] known i = refl
met_second (k ∷ said) [] i = refl
met_second (k ∷ said) (j ∷ known) zero = both_second k j
met_second (k ∷ said) (j ∷ known) (suc i) = met_second said known i

set_at : (marks : List Mark) (i : ℕ) (k : Mark) → IsBelow (get_or (set marks i k) i Differs) k
set_at [] i k = refl
set_at (j ∷ marks) zero k = below_refl k
set_at (j ∷ marks) (suc i) k = set_at marks i k

-- ---- writes
put_if : (marks : List Mark) (i j : ℕ) (k : Mark) (s t : Bool) → (nat_eq j i ≡ t) → s ≡ true → IsBelow (get_or (set marks i k) j Differs) (if s && t then k else get_or marks j Differs)
put_if marks i j k true true e f = subst (λ (z : ℕ). IsBelow (get_or (set marks i k) z Differs) k) (sym (eqb-true j i e)) (set_at marks i k)
put_if marks i j k true false e f = subst (λ (m : Mark). IsBelow m (get_or marks j Differs)) (sym (get_or-set_other marks i j k Differs (λ g. eqb-false j i e g))) (below_refl (get_or marks j Differs))
put_if marks i j k false t e f = never f

same_copy : (c d p : ℕ) → nat_eq c p ≡ true → nat_eq d p ≡ true → nat_eq c d ≡ true
same_copy c d p e f = subst (λ (z : ℕ). nat_eq c z ≡ true) (sym (eqb-true d p f)) e

other_copy : (c d p : ℕ) → nat_eq c p ≡ true → nat_eq d p ≡ false → nat_eq c d ≡ false
other_copy c d p e f = ne_eqb c d (λ g. absurd (true≢false (sym (subst (λ (z : ℕ). nat_eq z p ≡ true) g e) ∙ f)))

put_below : (p : ℕ) (marks : List Mark) (to : Byte) (k : Mark) → Below p (marks_in (put p marks to k)) (marked (marks_in marks) to k)
put_below p marks (Static d i) k c j e = below_refl (get_or marks j Differs)
put_below p marks (Result d i) k c j e = below_refl (get_or marks j Differs)
put_below p marks (Device d) k c j e = below_refl (get_or marks j Differs)
put_below p marks (Frame d i) k c j e = by_copy (nat_eq d p) refl
  where
    by_copy : (t : Bool) → nat_eq d p ≡ t → IsBelow (get_or (if t then set marks i k else marks) j Differs) (if nat_eq c d && nat_eq j i then k else get_or marks j Differs)
    by_copy true f = put_if marks i j k (nat_eq c d) (nat_eq j i) refl (same_copy c d p e f)
    by_copy false f = subst (λ (t : Bool). IsBelow (get_or marks j Differs) (if t && nat_eq j i then k else get_or marks j Differs)) (sym (other_copy c d p e f)) (below_refl (get_or marks j Differs))

bytes_put : (p : ℕ) (marks : List Mark) (to : Byte) (n : ℕ) (k : ℕ → Mark) → Below p (marks_in (put_bytes p marks to n k)) (marked_bytes (marks_in marks) to n k)
bytes_put p marks to zero k = lower_refl p (marks_in marks)
bytes_put p marks to (suc n) k =
    lower p (marks_in (put p (put_bytes p marks to n k) (behind to n) (k n))) (marked (marks_in (put_bytes p marks to n k)) (behind to n) (k n)) (marked (marked_bytes (marks_in marks) to n k) (behind to n) (k n))
    (put_below p (put_bytes p marks to n k) (behind to n) (k n)) (marked_below p (marks_in (put_bytes p marks to n k)) (marked_bytes (marks_in marks) to n k) (behind to n) (k n) (bytes_put p marks to n k))

on_put : (p : ℕ) (marks : List Mark) (to : Byte) (n : ℕ) → Below p (marks_in (put_on p marks to n)) (marked_on (marks_in marks) to n)
on_put p marks to zero = lower_refl p (marks_in marks)
on_put p marks to (suc n) =
    lower p (marks_in (put_on p (put p marks to Same) (behind to 1) n)) (marked_on (marks_in (put p marks to Same)) (behind to 1) n) (marked_on (marked (marks_in marks) to Same) (behind to 1) n)
    (on_put p (put p marks to Same) (behind to 1) n) (on_below p (marks_in (put p marks to Same)) (marked (marks_in marks) to Same) (behind to 1) n (put_below p marks to Same))

-- ---- the walk
exits : (p : ℕ) (turns : List Turn) (n : ℕ) (here : List Mark) → may_exit turns n here ≡ true → Exits p (map (λ (turn : Turn). record { front = marks_in turn.front; behind = marks_in turn.behind }) turns) n (marks_in here)
exits p [] n here e = tt
exits p (turn ∷ turns) zero here e = all_below_is p turn.behind here e
exits p (turn ∷ turns) (suc n) here e = exits p turns n here e

repeats : (p : ℕ) (turns : List Turn) (n : ℕ) (here : List Mark) → may_repeat turns n here ≡ true → Repeats p (map (λ (turn : Turn). record { front = marks_in turn.front; behind = marks_in turn.behind }) turns) n (marks_in here)
repeats p [] n here e = tt
repeats p (turn ∷ turns) zero here e = all_below_is p turn.front here e
repeats p (turn ∷ turns) (suc n) here e = repeats p turns n here e

allowed_is : (t : Bool) (marks after : List Mark) → allowed t marks ≡ Some after → (t ≡ true) × (marks ≡ after)
allowed_is t marks after e = cond_some t marks after e

some_is : (marks after : List Mark) → Some marks ≡ Some after → marks ≡ after
some_is marks after e = (cond_some true marks after e).1

on_parts : (way : Option (List Mark)) (f : List Mark → Option (List Mark)) (after : List Mark) → walked_on way f ≡ Some after → (mid : List Mark) × (way ≡ Some mid) × (f mid ≡ Some after)
on_parts None f after e = absurd (none-some after e)
on_parts (Some mid) f after e = (mid, refl, e)

joined_parts : (way other : Option (List Mark)) (after : List Mark) → joined way other ≡ Some after → (a : List Mark) × (b : List Mark) × (way ≡ Some a) × (other ≡ Some b) × (met a b ≡ after)
joined_parts None other after e = absurd (none-some after e)
joined_parts (Some a) None after e = absurd (none-some after e)
joined_parts (Some a) (Some b) after e = (a, b, refl, refl, some_is (met a b) after e)

back_parts : (way : Option (List Mark)) (front : List Mark) → comes_back way front ≡ true → (a : List Mark) × (way ≡ Some a) × (all_below front a ≡ true)
back_parts None front e = never e
back_parts (Some a) front e = (a, refl, e)

if_parts : (t : Bool) (way : Option (List Mark)) (after : List Mark) → (if t then way else None) ≡ Some after → (t ≡ true) × (way ≡ Some after)
if_parts true way after e = (refl, e)
if_parts false way after e = absurd (none-some after e)

module _ (lent : ℕ → Bool) (p : ℕ) where
  -- less may be said behind
  leaf_weak : (loops : List Ends) (here mid after : Marks) (t : Tree) → Below p after mid → FitsLeaf lent p loops here t mid → FitsLeaf lent p loops here t after
  leaf_weak loops here mid after (tree.Set to value) h f = lower p after mid (marked here to (set_mark value)) h f
  leaf_weak loops here mid after (tree.Address to place) h f = lower p after mid (marked_bytes here to 2 (λ k. Same)) h f
  leaf_weak loops here mid after (tree.Copy to from) h f = (f.0, lower p after mid (marked here to (own_mark lent p here from)) h f.1)
  leaf_weak loops here mid after (tree.Load to pointer count) h f = (f.0, lower p after mid (marked_on here to count) h f.1)
  leaf_weak loops here mid after (tree.Store pointer from count) h f = (f.0, f.1, lower p after mid here h f.2)
  leaf_weak loops here mid after (tree.Unary op ty at) h f = (f.0, lower p after mid (marked_bytes here at (bytes_of (unary_type op ty)) (λ k. Numbers)) h f.1)
  leaf_weak loops here mid after (tree.Binary op ty to a b) h f =
      (f.0, f.1, lower p after mid (marked_bytes here to (bytes_of (type_of op ty)) (behind_binary lent p here op ty a b)) h f.2)
  leaf_weak loops here mid after (tree.Convert from to at) h f = (f.0, lower p after mid (marked_bytes here at (bytes_of to) (behind_convert lent p here from at)) h f.1)
  leaf_weak loops here mid after (tree.BitRead to register number) h f = lower p after mid (marked here to Numbers) h f
  leaf_weak loops here mid after (tree.BitWrite register number from) h f = (f.0, lower p after mid here h f.1)
  leaf_weak loops here mid after (tree.Call copy) h f = lower p after mid here h f
  leaf_weak loops here mid after tree.Leave h f = tt
  leaf_weak loops here mid after (tree.Exit n) h f = f
  leaf_weak loops here mid after (tree.Again n) h f = f
  leaf_weak loops here mid after (tree.Many ts) h f = f
  leaf_weak loops here mid after (tree.If test size first second) h f = f
  leaf_weak loops here mid after (tree.Loop body) h f = f

  mutual
    fits_weak : (loops : List Ends) (here mid after : Marks) (t : Plan) → Below p after mid → Fits lent p loops here t mid → Fits lent p loops here t after
    fits_weak loops here mid after (plans.Stays t) h f = leaf_weak loops here mid after t h f
    fits_weak loops here mid after (plans.Narrowed op ty to a b) h f =
        record { able = f.able; wide = f.wide; left_is = f.left_is; right_is = f.right_is; to_is = f.to_is; behind_is = lower p after mid (marked_bytes here to (bytes_of (type_of op ty)) (narrow_mark op (are_low_alone lent p here ty a b))) h f.behind_is }
    fits_weak loops here mid after (plans.Several ts) h f = all_fit_weak loops here mid after ts h f
    fits_weak loops here mid after (plans.Choice test size way first second) h f = (f.0, fits_weak loops here mid after first h f.1, fits_weak loops here mid after second h f.2)
    fits_weak loops here mid after (plans.Repeat front behind body) h f = (f.0, f.1, lower p after mid behind h f.2)

    all_fit_weak : (loops : List Ends) (here mid after : Marks) (ts : Plans) → Below p after mid → AllFit lent p loops here ts mid → AllFit lent p loops here ts after
    all_fit_weak loops here mid after NoPlan h f = lower p after mid here h f
    all_fit_weak loops here mid after (AndPlan t ts) h f = (f.0, f.1, all_fit_weak loops f.0 mid after ts h f.2)

  abbrev turns_ends : List Turn → List Ends
  turns_ends turns = map (λ (turn : Turn). record { front = marks_in turn.front; behind = marks_in turn.behind }) turns

  to_after : (F : Marks → Type 0) (marks after : List Mark) → marks ≡ after → F (marks_in marks) → F (marks_in after)
  to_after F marks after e f = subst (λ (m : List Mark). F (marks_in m)) e f

  leaf_fits : (turns : List Turn) (here after : List Mark) (t : Tree) → walk_leaf lent p turns here t ≡ Some after → FitsLeaf lent p (turns_ends turns) (marks_in here) t (marks_in after)
  leaf_fits turns here after (tree.Set to value) e = to_after (FitsLeaf lent p (turns_ends turns) (marks_in here) (tree.Set to value)) (put p here to (set_mark value)) after (some_is (put p here to (set_mark value)) after e) (put_below p here to (set_mark value))
  leaf_fits turns here after (tree.Address to place) e = to_after (FitsLeaf lent p (turns_ends turns) (marks_in here) (tree.Address to place)) (put_bytes p here to 2 (λ k. Same)) after (some_is (put_bytes p here to 2 (λ k. Same)) after e) (bytes_put p here to 2 (λ k. Same))
  leaf_fits turns here after (tree.Copy to from) e =
      let k = own_mark lent p (marks_in here) from in
      let h = allowed_is (same_at lent p here from) (put p here to k) after e in
      to_after (FitsLeaf lent p (turns_ends turns) (marks_in here) (tree.Copy to from)) (put p here to k) after h.1 (h.0, put_below p here to k)
  leaf_fits turns here after (tree.Load to pointer count) e =
      let h = allowed_is (same_from lent p here pointer 2) (put_on p here to count) after e in
      to_after (FitsLeaf lent p (turns_ends turns) (marks_in here) (tree.Load to pointer count)) (put_on p here to count) after h.1 (h.0, on_put p here to count)
  leaf_fits turns here after (tree.Store pointer from count) e =
      let h = allowed_is (same_from lent p here pointer 2 && same_from lent p here from count) here after e in
      let reads = and_parts (same_from lent p here pointer 2) (same_from lent p here from count) h.0 in
      to_after (FitsLeaf lent p (turns_ends turns) (marks_in here) (tree.Store pointer from count)) here after h.1 (reads.0, reads.1, lower_refl p (marks_in here))
  leaf_fits turns here after (tree.Unary op ty at) e =
      let marks = put_bytes p here at (bytes_of (unary_type op ty)) (λ k. Numbers) in
      let h = allowed_is (same_from lent p here at (bytes_of ty)) marks after e in
      to_after (FitsLeaf lent p (turns_ends turns) (marks_in here) (tree.Unary op ty at)) marks after h.1 (h.0, bytes_put p here at (bytes_of (unary_type op ty)) (λ k. Numbers))
  leaf_fits turns here after (tree.Binary op ty to a b) e =
      let marks = put_bytes p here to (bytes_of (type_of op ty)) (behind_binary lent p (marks_in here) op ty a b) in
      let h = allowed_is (same_from lent p here a (bytes_of ty) && same_from lent p here b (bytes_of (right_type op ty))) marks after e in
      let reads = and_parts (same_from lent p here a (bytes_of ty)) (same_from lent p here b (bytes_of (right_type op ty))) h.0 in
      to_after (FitsLeaf lent p (turns_ends turns) (marks_in here) (tree.Binary op ty to a b)) marks after h.1 (reads.0, reads.1, bytes_put p here to (bytes_of (type_of op ty)) (behind_binary lent p (marks_in here) op ty a b))
  leaf_fits turns here after (tree.Convert from to at) e =
      let marks = put_bytes p here at (bytes_of to) (behind_convert lent p (marks_in here) from at) in
      let h = allowed_is (same_from lent p here at (bytes_of from)) marks after e in
      to_after (FitsLeaf lent p (turns_ends turns) (marks_in here) (tree.Convert from to at)) marks after h.1 (h.0, bytes_put p here at (bytes_of to) (behind_convert lent p (marks_in here) from at))
  leaf_fits turns here after (tree.BitRead to register number) e = to_after (FitsLeaf lent p (turns_ends turns) (marks_in here) (tree.BitRead to register number)) (put p here to Numbers) after (some_is (put p here to Numbers) after e) (put_below p here to Numbers)
  leaf_fits turns here after (tree.BitWrite register number from) e =
      let h = allowed_is (same_at lent p here from) here after e in
      to_after (FitsLeaf lent p (turns_ends turns) (marks_in here) (tree.BitWrite register number from)) here after h.1 (h.0, lower_refl p (marks_in here))
  leaf_fits turns here after (tree.Call copy) e = to_after (FitsLeaf lent p (turns_ends turns) (marks_in here) (tree.Call copy)) here after (some_is here after e) (lower_refl p (marks_in here))
  leaf_fits turns here after tree.Leave e = tt
  leaf_fits turns here after (tree.Exit n) e = exits p turns n here (allowed_is (may_exit turns n here) (nowhere here) after e).0
  leaf_fits turns here after (tree.Again n) e = repeats p turns n here (allowed_is (may_repeat turns n here) (nowhere here) after e).0
  leaf_fits turns here after (tree.Many ts) e = absurd (none-some after e)
  leaf_fits turns here after (tree.If test size first second) e = absurd (none-some after e)
  leaf_fits turns here after (tree.Loop body) e = absurd (none-some after e)

  cut_fits : (turns : List Turn) (here after : List Mark) (op : BinOp) (ty : IntTy) (to a b : Byte) → walk_binary lent p true here op ty to a b ≡ Some after → FitsNarrowed lent p (marks_in here) op ty to a b (marks_in after)
  cut_fits turns here after op ty to a b e =
      let mark = narrow_mark op (small_at lent p here ty a b) in
      let marks = put_bytes p here to (bytes_of (type_of op ty)) mark in
      let able : Bool = is_low op || (compares op && small_at lent p here ty a b) in
      let h = allowed_is (may_cut lent p here op ty to a b) marks after e in
      let last = and_parts (able && nat_lt 1 (bytes_of ty) && number_at lent p here a && number_at lent p here b) (may_differ lent p to) h.0 in
      let fourth = and_parts (able && nat_lt 1 (bytes_of ty) && number_at lent p here a) (number_at lent p here b) last.0 in
      let third = and_parts (able && nat_lt 1 (bytes_of ty)) (number_at lent p here a) fourth.0 in
      let second = and_parts able (nat_lt 1 (bytes_of ty)) third.0 in
      to_after (FitsNarrowed lent p (marks_in here) op ty to a b) marks after h.1
      (record { able = second.0; wide = second.1; left_is = third.1; right_is = fourth.1; to_is = last.1; behind_is = bytes_put p here to (bytes_of (type_of op ty)) mark })

  binary_fits : (turns : List Turn) (here after : List Mark) (op : BinOp) (ty : IntTy) (to a b : Byte) (t : Bool) → walk_binary lent p t here op ty to a b ≡ Some after
      → Fits lent p (turns_ends turns) (marks_in here) (if t then plans.Narrowed op ty to a b else plans.Stays (tree.Binary op ty to a b)) (marks_in after)
  binary_fits turns here after op ty to a b true e = cut_fits turns here after op ty to a b e
  binary_fits turns here after op ty to a b false e = leaf_fits turns here after (tree.Binary op ty to a b) e

  mutual
    walk_fits : (turns : List Turn) (here after : List Mark) (t : Tree) (d : Draft) → walk lent p turns here t d ≡ Some after → Fits lent p (turns_ends turns) (marks_in here) (planned t d) (marks_in after)
    walk_fits turns here after (tree.Binary op ty to a b) d e = binary_fits turns here after op ty to a b (cuts d) e
    walk_fits turns here after (tree.Many ts) d e = walks_fit turns here after ts (parts_of d) e
    walk_fits turns here after (tree.If test size first second) d e =
        let h = if_parts (fits_way lent p (marks_in here) test size (way_of d)) (joined (walk lent p turns here first (first_of d)) (walk lent p turns here second (second_of d))) after e in
        let ways = joined_parts (walk lent p turns here first (first_of d)) (walk lent p turns here second (second_of d)) after h.1 in
        let one = walk_fits turns here ways.0 first (first_of d) ways.2 in
        let other = walk_fits turns here ways.1 second (second_of d) ways.3 in
        to_after (Fits lent p (turns_ends turns) (marks_in here) (planned (tree.If test size first second) d)) (met ways.0 ways.1) after ways.4 (
          h.0,
          fits_weak (turns_ends turns) (marks_in here) (marks_in ways.0) (marks_in (met ways.0 ways.1)) (planned first (first_of d)) (λ c i f. met_first ways.0 ways.1 i) one,
          fits_weak (turns_ends turns) (marks_in here) (marks_in ways.1) (marks_in (met ways.0 ways.1)) (planned second (second_of d)) (λ c i f. met_second ways.0 ways.1 i) other,
        )
    walk_fits turns here after (tree.Loop body) d e =
        let turn : Turn = record { front = front_of d; behind = behind_of d } in
        let h = allowed_is (all_below (front_of d) here && comes_back (walk lent p (turn ∷ turns) (front_of d) body (body_of d)) (front_of d)) (behind_of d) after e in
        let tests = and_parts (all_below (front_of d) here) (comes_back (walk lent p (turn ∷ turns) (front_of d) body (body_of d)) (front_of d)) h.0 in
        let back = back_parts (walk lent p (turn ∷ turns) (front_of d) body (body_of d)) (front_of d) tests.1 in
        let round = walk_fits (turn ∷ turns) (front_of d) back.0 body (body_of d) back.1 in
        to_after (Fits lent p (turns_ends turns) (marks_in here) (planned (tree.Loop body) d)) (behind_of d) after h.1 (
          all_below_is p (front_of d) here tests.0,
          fits_weak (turns_ends (turn ∷ turns)) (marks_in (front_of d)) (marks_in back.0) (marks_in (front_of d)) (planned body (body_of d)) (all_below_is p (front_of d) back.0 back.2) round,
          lower_refl p (marks_in (behind_of d)),
        )
    walk_fits turns here after (tree.Set to value) d e = leaf_fits turns here after (tree.Set to value) e
    walk_fits turns here after (tree.Address to place) d e = leaf_fits turns here after (tree.Address to place) e
    walk_fits turns here after (tree.Copy to from) d e = leaf_fits turns here after (tree.Copy to from) e
    walk_fits turns here after (tree.Load to pointer count) d e = leaf_fits turns here after (tree.Load to pointer count) e
    walk_fits turns here after (tree.Store pointer from count) d e = leaf_fits turns here after (tree.Store pointer from count) e
    walk_fits turns here after (tree.Unary op ty at) d e = leaf_fits turns here after (tree.Unary op ty at) e
    walk_fits turns here after (tree.Convert from to at) d e = leaf_fits turns here after (tree.Convert from to at) e
    walk_fits turns here after (tree.BitRead to register number) d e = leaf_fits turns here after (tree.BitRead to register number) e
    walk_fits turns here after (tree.BitWrite register number from) d e = leaf_fits turns here after (tree.BitWrite register number from) e
    walk_fits turns here after (tree.Call copy) d e = leaf_fits turns here after (tree.Call copy) e
    walk_fits turns here after tree.Leave d e = leaf_fits turns here after tree.Leave e
    walk_fits turns here after (tree.Exit n) d e = leaf_fits turns here after (tree.Exit n) e
    walk_fits turns here after (tree.Again n) d e = leaf_fits turns here after (tree.Again n) e

    walks_fit : (turns : List Turn) (here after : List Mark) (ts : Trees) (ds : Drafts) → walk_all lent p turns here ts ds ≡ Some after → AllFit lent p (turns_ends turns) (marks_in here) (all_planned ts ds) (marks_in after)
    walks_fit turns here after NoTree ds e = to_after (λ m. Below p m (marks_in here)) here after (some_is here after e) (lower_refl p (marks_in here))
    walks_fit turns here after (AndTree t ts) ds e =
        let h = on_parts (walk lent p turns here t (head_of ds)) (λ mid. walk_all lent p turns mid ts (tail_of ds)) after e in
        (marks_in h.0, walk_fits turns here h.0 t (head_of ds) h.1, walks_fit turns h.0 after ts (tail_of ds) h.2)

same_start : (size i : ℕ) → IsBelow (get_or (replicate size Same) i Differs) Same
same_start zero i = refl
same_start (suc size) zero = refl
same_start (suc size) (suc i) = same_start size i

pub test_is_right : TestIsRight
test_is_right lent p size ts ds after e = (λ c i f. same_start size i, walks_fit lent p [] (replicate size Same) after ts ds e)
