-- The segments of a switch: how many have begun before a statement of its body, and which code is that of which segment.
use Rattle.std.proofs.Common.{◌≡◌, ℕ, zero, suc, ◌+◌, ◌-◌, ◌≤◌, Bool, true, false, not, ◌&&◌, ◌||◌, if◌then◌else◌, nat_eq, nat_lt, List, [], ◌∷◌, ◌++◌, length, drop, Some, refl, sym, ap, ◌∙◌, arith}
use Rattle.std.proofs.lemmas.Grind.{common_steps}
use Rattle.std.specs.Prelude.{slice_get, unwrap_or}
use Rattle.c_typed.specs.Sound.{count_of}
use Rattle.c_typed.specs.Trees as tree
use Rattle.c_typed.specs.Trees.{Statements}
use Rattle.core_code.specs.Tree as code
use Rattle.core_code.specs.Tree.{Tree, many}
use Rattle.lower_stmt.specs.Ground.{Ground}
use Rattle.lower_stmt.specs.Jumps.{in_segment}
use Rattle.lower_stmt.specs.Labels.{has, segments_before}
use Rattle.lower_stmt.specs.Statements.{stmt_code, segments_code}
use Rattle.lower_stmt.specs.Switches.{Segments, begun_with, no_segments, cut, joined}
use Rattle.src_rules.specs.Giving.{statements_behind}
use Rattle.lower_trace.proofs.CodeLeft.{Jumps, Looped, Switched, todo, segment_body, nested, labels_in, segment_count, segments, compared, loops_in}
use Rattle.lower_trace.proofs.Written.{same_nat}

-- ---- labels before a statement
less_none : (label : ℕ) → nat_lt label 0 ≡ false
less_none label = grind (arith, common_steps)

pub none_begun : (labels : List ℕ) → segments_before 0 labels ≡ 0
none_begun [] = refl
none_begun (label ∷ labels) = let d = less_none label in let e = none_begun labels in rw (d, e) refl

less_next : (label i : ℕ) → nat_lt label (i + 1) ≡ (nat_eq label i || nat_lt label i)
less_next label i = grind (arith, common_steps)

same_not_less : (label i : ℕ) → nat_eq label i ≡ true → nat_lt label i ≡ false
same_not_less label i e = grind (arith, common_steps)

next_case : (same less next mine others : Bool) (n n' : ℕ) → next ≡ (same || less) → (same ≡ true → less ≡ false) → (same ≡ true → mine ≡ others) → begun_with others n ≡ n' → begun_with (same || others) ((if less && not mine then 1 else 0) + n) ≡ (if next && not mine then 1 else 0) + n'
next_case true less next mine true n n' e a b h = let p = a refl in let q = b refl in rw (e, p, q) (omega arith)
next_case true less next mine false n n' e a b h = let p = a refl in let q = b refl in rw (e, p, q) (omega arith)
next_case false less next mine true n n' e a b h = rw e (omega arith)
next_case false less next mine false n n' e a b h = rw e (omega arith)

-- one statement more
pub begun_next : (labels : List ℕ) (i : ℕ) → begun_with (has labels i) (segments_before i labels) ≡ segments_before (i + 1) labels
begun_next [] i = refl
begun_next (label ∷ labels) i =
    next_case (nat_eq label i) (nat_lt label i) (nat_lt label (i + 1)) (has labels label) (has labels i) (segments_before i labels) (segments_before (i + 1) labels) (less_next label i) (same_not_less label i) (λ e. ap (has labels) (same_nat label i e)) (begun_next labels i)

abbrev pub one_if : Bool → ℕ
one_if true = 1
one_if false = 0

begun_is : (b : Bool) (n : ℕ) → begun_with b n ≡ n + one_if b
begun_is true n = refl
begun_is false n = omega arith

pub begun_step : (labels : List ℕ) (i : ℕ) → segments_before (i + 1) labels ≡ segments_before i labels + one_if (has labels i)
begun_step labels i = sym (begun_next labels i) ∙ begun_is (has labels i) (segments_before i labels)

-- ---- lists
drop_none : {X : Type 0} (a : ℕ) → drop {A = X} a [] ≡ []
drop_none zero = refl
drop_none (suc a) = refl

pub drop_twice : {X : Type 0} (a b : ℕ) (xs : List X) → drop a (drop b xs) ≡ drop (a + b) xs
drop_twice a zero xs = let e : a ≡ a + 0 = omega arith in ap (λ n. drop n xs) e
drop_twice a (suc b) [] = drop_none a ∙ sym (drop_none (a + suc b))
drop_twice a (suc b) (x ∷ xs) = let e : suc (a + b) ≡ a + suc b = omega arith in drop_twice a b xs ∙ ap (λ n. drop n (x ∷ xs)) e

pub get_drop : {X : Type 0} (d : ℕ) (xs : List X) → slice_get xs d ≡ slice_get (drop d xs) 0
get_drop zero xs = refl
get_drop (suc d) [] = refl
get_drop (suc d) (x ∷ xs) = get_drop d xs

-- the element that stands in front of what is left
pub get_front : {X : Type 0} (d : ℕ) (xs : List X) (y : X) (ys : List X) → drop d xs ≡ y ∷ ys → slice_get xs d ≡ Some y
get_front d xs y ys e = get_drop d xs ∙ ap (λ l. slice_get l 0) e

-- ---- statements that are left
count_fewer : (m : ℕ) (ss : Statements) → count_of (statements_behind m ss) ≤ count_of ss
count_fewer zero ss = omega arith
count_fewer (suc m) tree.NoStatement = omega arith
count_fewer (suc m) (tree.AndStatement s ss) = let e = count_fewer m ss in omega arith

pub count_left : (m : ℕ) (ss : Statements) → m ≤ count_of ss → count_of ss - count_of (statements_behind m ss) ≡ m
count_left zero ss le = omega arith
count_left (suc m) tree.NoStatement le = absurd (omega arith)
count_left (suc m) (tree.AndStatement s ss) le = let e = count_left m ss (omega arith) in let f = count_fewer m ss in omega arith

-- ---- code of segments
-- what the statements from some place of the body on give, behind the label there
abbrev pub opened_code : Ground → Jumps → List ℕ → ℕ → ℕ → ℕ → Statements → Segments
opened_code g j labels n i begun tree.NoStatement = no_segments
opened_code g j labels n i begun (tree.AndStatement s ss) = joined (stmt_code g (in_segment j (n - begun)) s) (segments_code g j labels n (i + 1) begun ss)

cut_is : (g : Ground) (j : Jumps) (labels : List ℕ) (n i begun : ℕ) (ss : Statements) → segments_code g j labels n i begun ss ≡ cut (has labels i) (opened_code g j labels n i (begun_with (has labels i) begun) ss)
unfolding segments_code
cut_is g j labels n i begun tree.NoStatement = refl
cut_is g j labels n i begun (tree.AndStatement s ss) = refl

pub cut_opened : (g : Ground) (j : Jumps) (labels : List ℕ) (n i : ℕ) (ss : Statements) → segments_code g j labels n i (segments_before i labels) ss ≡ cut (has labels i) (opened_code g j labels n i (segments_before (i + 1) labels) ss)
cut_opened g j labels n i ss = cut_is g j labels n i (segments_before i labels) ss ∙ ap (λ y. cut (has labels i) (opened_code g j labels n i y ss)) (begun_next labels i)

pub at_label : (g : Ground) (j : Jumps) (labels : List ℕ) (n i : ℕ) (ss : Statements) → has labels i ≡ true → segments_code g j labels n i (segments_before i labels) ss ≡ cut true (opened_code g j labels n i (segments_before (i + 1) labels) ss)
at_label g j labels n i ss e = cut_opened g j labels n i ss ∙ ap (λ b. cut b (opened_code g j labels n i (segments_before (i + 1) labels) ss)) e

pub at_none : (g : Ground) (j : Jumps) (labels : List ℕ) (n i : ℕ) (ss : Statements) → has labels i ≡ false → segments_code g j labels n i (segments_before i labels) ss ≡ opened_code g j labels n i (segments_before (i + 1) labels) ss
at_none g j labels n i ss e = cut_opened g j labels n i ss ∙ ap (λ b. cut b (opened_code g j labels n i (segments_before (i + 1) labels) ss)) e

cut_length : (b : Bool) (s : Segments) (n : ℕ) → length (cut b s).later + n ≡ length s.later + (n + one_if b)
cut_length true s n = omega arith
cut_length false s n = omega arith

cut_later : (b : Bool) (s : Segments) → s.later ≡ drop (one_if b) (cut b s).later
cut_later true s = refl
cut_later false s = refl

-- so many segments begin at these statements and behind them
pub later_length : (g : Ground) (j : Jumps) (labels : List ℕ) (n i : ℕ) (ss : Statements) → length (segments_code g j labels n i (segments_before i labels) ss).later + segments_before i labels ≡ segments_before (i + count_of ss + 1) labels
later_length g j labels n i tree.NoStatement =
    let a = ap (λ s. length s.later) (cut_opened g j labels n i tree.NoStatement) in
    let b = cut_length (has labels i) no_segments (segments_before i labels) in
    let c = begun_step labels i in
    let e : i + 1 ≡ i + 0 + 1 = omega arith in
    let f = ap (λ y. segments_before y labels) e in
    omega arith
later_length g j labels n i (tree.AndStatement s ss) =
    let whole = opened_code g j labels n i (segments_before (i + 1) labels) (tree.AndStatement s ss) in
    let a = ap (λ t. length t.later) (cut_opened g j labels n i (tree.AndStatement s ss)) in
    let b = cut_length (has labels i) whole (segments_before i labels) in
    let c = begun_step labels i in
    let d = later_length g j labels n (i + 1) ss in
    let e : i + 1 + count_of ss + 1 ≡ i + suc (count_of ss) + 1 = omega arith in
    let f = ap (λ y. segments_before y labels) e in
    omega arith

-- the segments from a later statement on are the last ones
pub record Later (labels : List ℕ) (i m : ℕ) (all part : List (List Tree)) : Type 0 where
  pub before : ℕ
  pub counted : before + segments_before i labels ≡ segments_before (i + m) labels
  pub is : part ≡ drop before all

pub later_at : (g : Ground) (j : Jumps) (labels : List ℕ) (n i m : ℕ) (ss : Statements) → m ≤ count_of ss
    → Later labels i m (segments_code g j labels n i (segments_before i labels) ss).later (segments_code g j labels n (i + m) (segments_before (i + m) labels) (statements_behind m ss)).later
later_at g j labels n i zero ss le =
    let e : i ≡ i + 0 = omega arith in
    let f = ap (λ y. segments_before y labels) e in
    record { before = 0; counted = omega arith; is = ap (λ y. (segments_code g j labels n y (segments_before y labels) ss).later) (sym e) }
later_at g j labels n i (suc m) tree.NoStatement le = absurd (omega arith)
later_at g j labels n i (suc m) (tree.AndStatement s ss) le =
    let whole = opened_code g j labels n i (segments_before (i + 1) labels) (tree.AndStatement s ss) in
    let t = later_at g j labels n (i + 1) m ss (omega arith) in
    let q = t.counted in
    let c = begun_step labels i in
    let e : i + 1 + m ≡ i + suc m = omega arith in
    let f = ap (λ y. segments_before y labels) e in
    let first : (segments_code g j labels n (i + 1) (segments_before (i + 1) labels) ss).later ≡ drop (one_if (has labels i)) (segments_code g j labels n i (segments_before i labels) (tree.AndStatement s ss)).later =
    cut_later (has labels i) whole ∙ ap (λ y. drop (one_if (has labels i)) y.later) (sym (cut_opened g j labels n i (tree.AndStatement s ss))) in
    record {
      before = t.before + one_if (has labels i);
      counted = omega arith;
      is = ap (λ y. (segments_code g j labels n y (segments_before y labels) (statements_behind m ss)).later) (sym e) ∙ t.is ∙ ap (drop t.before) first ∙ drop_twice t.before (one_if (has labels i)) (segments_code g j labels n i (segments_before i labels) (tree.AndStatement s ss)).later;
    }

-- ---- loops of segments
pub nested_length : (body : Tree) (segments : List (List Tree)) → length (nested body segments) ≡ length segments
nested_length body [] = refl
nested_length body (segment ∷ segments) = ap suc (nested_length (segment_body body segment) segments)

-- behind the loop that leads to a segment stands its code
pub nested_at : (body : Tree) (segments : List (List Tree)) (d : ℕ) (segment : List Tree) → slice_get segments d ≡ Some segment
    → (x : Looped) × (slice_get (nested body segments) d ≡ Some x) × (x.code ≡ todo (segment ++ code.Exit 0 ∷ []) [])
nested_at body [] d segment e = absurd (cc)
nested_at body (s ∷ segments) zero segment e = (record { body = body; code = todo (s ++ code.Exit 0 ∷ []) [] }, refl, ap (λ y. todo (y ++ code.Exit 0 ∷ []) []) (ap (λ o. unwrap_or o s) e))
nested_at body (s ∷ segments) (suc d) segment e = nested_at (segment_body body s) segments d segment e

-- the segment that begins at a label of the body
pub segment_there : (g : Ground) (j : Jumps) (x : Switched) (m : ℕ) (ss : Statements) → m ≤ count_of x.body → statements_behind m x.body ≡ ss → has (labels_in x) m ≡ true
    → slice_get (segments g j x) (segments_before m (labels_in x)) ≡ Some (opened_code g j (labels_in x) (segment_count x) m (segments_before (m + 1) (labels_in x)) ss).running
segment_there g j x m ss le is here =
    let labels = labels_in x in
    let n = segment_count x in
    let t = later_at g j labels n 0 m x.body le in
    let q = t.counted in
    let none = none_begun labels in
    let zero_more : 0 + m ≡ m = omega arith in
    let there = ap (λ y. segments_before y labels) zero_more in
    let before : t.before ≡ segments_before m labels = omega arith in
    let opened = opened_code g j labels n m (segments_before (m + 1) labels) ss in
    let part : (segments_code g j labels n (0 + m) (segments_before (0 + m) labels) (statements_behind m x.body)).later ≡ opened.running ∷ opened.later =
    ap (λ y. (segments_code g j labels n y (segments_before y labels) (statements_behind m x.body)).later) zero_more
    ∙ ap (λ y. (segments_code g j labels n m (segments_before m labels) y).later) is
    ∙ ap (λ y. y.later) (at_label g j labels n m ss here) in
    let whole : (segments_code g j labels n 0 (segments_before 0 labels) x.body).later ≡ segments g j x = ap (λ y. (segments_code g j labels n 0 y x.body).later) none in
    get_front (segments_before m labels) (segments g j x) opened.running opened.later
    (ap (λ y. drop (segments_before m labels) y) (sym whole) ∙ ap (λ y. drop y (segments_code g j labels n 0 (segments_before 0 labels) x.body).later) (sym before) ∙ sym t.is ∙ part)

pub loops_length : (g : Ground) (j : Jumps) (x : Switched) → length (loops_in g j x) ≡ segment_count x
loops_length g j x =
    let labels = labels_in x in
    let none = none_begun labels in
    let a = nested_length (many (compared g x)) (segments g j x) in
    let b = later_length g j labels (segment_count x) 0 x.body in
    let c = ap (λ y. length (segments_code g j labels (segment_count x) 0 y x.body).later) none in
    let e : 0 + count_of x.body + 1 ≡ count_of x.body + 1 = omega arith in
    let d = ap (λ y. segments_before y labels) e in
    omega arith
