-- Runs over a board, instruction by instruction.
use Rattle.std.proofs.Common.{◌≡◌, ℕ, suc, ◌+◌, ◌%◌, ◌<◌, ◌≤◌, Bool, true, false, List, [], ◌∷◌, ◌++◌, refl, sym, ap, ◌∙◌, subst, add-zero, append-nil, append_assoc, length-append, length, arith, None, Some, not, nat_eq}
use Rattle.std.specs.Prelude.{if◌then◌else◌, ◌&&◌, ◌||◌}
use Rattle.std.proofs.lemmas.Bool.{eqb-true, eqb-false}
use Rattle.pic_world.specs.Arrivals.{arriving}
use Rattle.pic_chip.specs.Act.{Made, accesses}
use Rattle.pic_chip.specs.Instructions.{Rule, is_modelled}
use Rattle.pic_chip.specs.Machine.{takes_input_by}
use Rattle.pic_chip.specs.Run.{Moment, observed}
use Rattle.pic_map.specs.Tracing.{Tracing}
use Rattle.pic_sim.specs.declared.board.Exchange.{Exchange}
use Rattle.pic_sim.specs.Going.{Around, Point, IsAt, LeadsBy, RanBy, after_by, made_in_by, begun_by, HasBytes, HasMasksBy, reads_by, writes_by}
use Rattle.pic_sim.specs.Kind.{Kind, is_outside_by, stop_at_by, stepped_by, next_moment_by}
use Rattle.pic_sim.specs.Step.{StepsBy, FollowsBy, slack}

-- ---- lists
pub reads-append : (c : Rule) (xs ys : List Made) → reads_by c (xs ++ ys) ≡ reads_by c xs ++ reads_by c ys
reads-append c [] ys = refl
reads-append c (x ∷ xs) ys = by_test (takes_input_by c x) (reads-append c xs ys)
  where
    by_test : (b : Bool) → reads_by c (xs ++ ys) ≡ reads_by c xs ++ reads_by c ys
        → (if b then (record { register = x.address; value = x.byte }) ∷ reads_by c (xs ++ ys) else reads_by c (xs ++ ys)) ≡ (if b then (record { register = x.address; value = x.byte }) ∷ reads_by c xs else reads_by c xs) ++ reads_by c ys
    by_test true e = ap (λ (r : List Exchange). (record { register = x.address; value = x.byte }) ∷ r) e
    by_test false e = e

pub writes-append : (c : Rule) (xs ys : List Made) → writes_by c (xs ++ ys) ≡ writes_by c xs ++ writes_by c ys
writes-append c [] ys = refl
writes-append c (x ∷ xs) ys = by_test (x.write && is_outside_by c x.address) (writes-append c xs ys)
  where
    by_test : (b : Bool) → writes_by c (xs ++ ys) ≡ writes_by c xs ++ writes_by c ys
        → (if b then (record { register = x.address; value = x.byte }) ∷ writes_by c (xs ++ ys) else writes_by c (xs ++ ys)) ≡ (if b then (record { register = x.address; value = x.byte }) ∷ writes_by c xs else writes_by c xs) ++ writes_by c ys
    by_test true e = ap (λ (r : List Exchange). (record { register = x.address; value = x.byte }) ∷ r) e
    by_test false e = e

-- bytes of a longer list are those of both parts
bytes_split : (inputs : List ℕ) (place : ℕ) (xs ys : List Exchange) → HasBytes inputs place (xs ++ ys) → HasBytes inputs place xs × HasBytes inputs (place + length xs) ys
bytes_split inputs place [] ys h = (tt, subst (λ (n : ℕ). HasBytes inputs n ys) (sym (add-zero place)) h)
bytes_split inputs place (x ∷ xs) ys h =
    let rest = bytes_split inputs (place + 1) xs ys h.1 in
    let e : place + 1 + length xs ≡ place + length (x ∷ xs) = omega arith in
    ((h.0, rest.0), subst (λ (n : ℕ). HasBytes inputs n ys) e rest.1)

bytes_join : (inputs : List ℕ) (place : ℕ) (xs ys : List Exchange) → HasBytes inputs place xs → HasBytes inputs (place + length xs) ys → HasBytes inputs place (xs ++ ys)
bytes_join inputs place [] ys hx hy = subst (λ (n : ℕ). HasBytes inputs n ys) (add-zero place) hy
bytes_join inputs place (x ∷ xs) ys hx hy =
    let e : place + length (x ∷ xs) ≡ place + 1 + length xs = omega arith in
    (hx.0, bytes_join inputs (place + 1) xs ys hx.1 (subst (λ (n : ℕ). HasBytes inputs n ys) e hy))

masks_split : (count : ℕ) (masks : ℕ → ℕ) (index : ℕ) (xs : List ℕ) (y : ℕ) → HasMasksBy count masks index (xs ++ y ∷ []) → HasMasksBy count masks index xs × (masks (index + length xs) % count ≡ y % count)
masks_split count masks index [] y h = (tt, ap (λ (n : ℕ). masks n % count) (add-zero index) ∙ h.0)
masks_split count masks index (x ∷ xs) y h =
    let rest = masks_split count masks (index + 1) xs y h.1 in
    let e : index + length (x ∷ xs) ≡ index + 1 + length xs = omega arith in
    ((h.0, rest.0), ap (λ (n : ℕ). masks n % count) e ∙ rest.1)

masks_join : (count : ℕ) (masks : ℕ → ℕ) (index : ℕ) (xs : List ℕ) (y : ℕ) → HasMasksBy count masks index xs → masks (index + length xs) % count ≡ y % count → HasMasksBy count masks index (xs ++ y ∷ [])
masks_join count masks index [] y hx hy = (ap (λ (n : ℕ). masks n % count) (sym (add-zero index)) ∙ hy, tt)
masks_join count masks index (x ∷ xs) y hx hy =
    let e : index + 1 + length xs ≡ index + length (x ∷ xs) = omega arith in
    (hx.0, masks_join count masks (index + 1) xs y hx.1 (ap (λ (n : ℕ). masks n % count) e ∙ hy))

-- ---- from instruction to instruction
no_steps : (kind : Kind) (image : List ℕ) (a : Around) (m : Moment) (p : Point) → IsAt a m p → LeadsBy kind image a m 0 [] p p
unfolding after_by made_in_by
no_steps kind image a m p at = record {
  at = at;
  reads = refl;
  writes = sym (append-nil p.board.lists.taken);
  place = sym (add-zero p.chip.state.taken);
  modelled = λ j below. absurd (omega (arith, below));
}

pub ran_none : (kind : Kind) (image : List ℕ) (p : Point) → RanBy kind image 0 p p
ran_none kind image p = record {
  given = [];
  raised = [];
  given_now = sym (append-nil p.board.lists.given);
  raised_now = sym (append-nil p.board.lists.raised);
  count = refl;
  index = sym (add-zero p.chip.index);
  run = λ a m bytes masks at. no_steps kind image a m p at;
  follows = refl;
  by_script = λ script e. (tt, tt);
}

smaller : (j k : ℕ) → j < suc k → (j ≡ k → ⊥) → j < k
smaller j k below other = omega (arith, below, other)

-- a run that hasn't ended goes on at a word of the model
goes_on : (stopped b : Bool) (pc : ℕ) → stopped ≡ false → (if b then None else Some pc) ≡ None → (stopped || not b) ≡ false
goes_on false true pc h e = refl
goes_on false false pc h e = absurd (cc)
goes_on true b pc h e = absurd (cc)

-- what one more instruction adds, where it has this index
one_more : (kind : Kind) (image : List ℕ) (a : Around) (m : Moment) (k : ℕ) (xs ys : List Exchange) (p q r : Point) → q.chip.index ≡ p.chip.index + k → LeadsBy kind image a m k xs p q → FollowsBy kind image a (after_by kind image a p.chip.index m k) ys q r → LeadsBy kind image a m (suc k) (xs ++ ys) p r
unfolding after_by made_in_by
one_more kind image a m k xs ys p q r place done next =
    let before = after_by kind image a p.chip.index m k in
    let made = accesses (kind.execute image a.inputs) (begun_by kind a (p.chip.index + k) before) in
    let same = ap (λ (i : ℕ). accesses (kind.execute image a.inputs) (begun_by kind a i before)) place in
    record {
      at = subst (λ (i : ℕ). IsAt a (next_moment_by kind image a.inputs a.watch (a.masks i) before) r) place
          (subst (λ (b : Bool). IsAt a (if b then record before { stopped = true } else observed a.watch (stepped_by kind image a.inputs a.watch.ranges (a.masks q.chip.index) before)) r)
          (sym (goes_on before.stopped (is_modelled (kind.fetched image (begun_by kind a q.chip.index before))) (begun_by kind a q.chip.index before).pc done.at.going next.modelled)) next.at);
      reads = ap (λ (zs : List Exchange). zs ++ ys) done.reads ∙ ap (λ (zs : List Exchange). reads_by kind.rule (made_in_by kind image a p.chip.index m k) ++ zs) (next.reads ∙ ap (reads_by kind.rule) same)
          ∙ sym (reads-append kind.rule (made_in_by kind image a p.chip.index m k) made);
      writes = next.writes ∙ ap (λ (zs : List Exchange). zs ++ writes_by kind.rule (accesses (kind.execute image a.inputs) (begun_by kind a q.chip.index before))) done.writes
          ∙ append_assoc p.board.lists.taken (writes_by kind.rule (made_in_by kind image a p.chip.index m k)) (writes_by kind.rule (accesses (kind.execute image a.inputs) (begun_by kind a q.chip.index before)))
          ∙ ap (λ (zs : List Made). p.board.lists.taken ++ (writes_by kind.rule (made_in_by kind image a p.chip.index m k) ++ writes_by kind.rule zs)) same
          ∙ ap (λ (zs : List Exchange). p.board.lists.taken ++ zs) (sym (writes-append kind.rule (made_in_by kind image a p.chip.index m k) made));
      place = next.place ∙ ap (λ (n : ℕ). n + length ys) done.place ∙ add_length p.chip.state.taken xs ys;
      modelled = λ j below. by_test j below (nat_eq j k) refl;
    }
  where
    add_length : (n : ℕ) (xs ys : List Exchange) → n + length xs + length ys ≡ n + length (xs ++ ys)
    add_length n xs ys = let e = length-append xs ys in omega (arith, e)

    by_test : (j : ℕ) → j < suc k → (b : Bool) → nat_eq j k ≡ b → stop_at_by kind image (begun_by kind a (p.chip.index + j) (after_by kind image a p.chip.index m j)) ≡ None
    by_test j below true e =
        let same_j : k ≡ j = sym (eqb-true j k e) in
        subst (λ (i : ℕ). stop_at_by kind image (begun_by kind a (p.chip.index + i) (after_by kind image a p.chip.index m i)) ≡ None) same_j
        (subst (λ (i : ℕ). stop_at_by kind image (begun_by kind a i (after_by kind image a p.chip.index m k)) ≡ None) place next.modelled)
    by_test j below false e = let other = eqb-false j k e in done.modelled j (smaller j k below other)

ran_on : (kind : Kind) (image : List ℕ) (k : ℕ) (p q r : Point) → RanBy kind image k p q → StepsBy kind image q r → RanBy kind image (suc k) p r
ran_on kind image k p q r done next = record {
  given = done.given ++ next.given;
  raised = done.raised ++ next.mask ∷ [];
  given_now = next.given_now ∙ ap (λ (zs : List Exchange). zs ++ next.given) done.given_now ∙ append_assoc p.board.lists.given done.given next.given;
  raised_now = next.raised_now ∙ ap (λ (zs : List ℕ). zs ++ next.mask ∷ []) done.raised_now ∙ append_assoc p.board.lists.raised done.raised (next.mask ∷ []);
  count = let e = length-append done.raised (next.mask ∷ []) in let c = done.count in omega (arith, e, c);
  index = let e = next.index in let c = done.index in omega (arith, e, c);
  run = λ a m bytes masks at.
      let b = bytes_split a.inputs p.chip.state.taken done.given next.given bytes in
      let f = masks_split kind.masks a.masks p.chip.index done.raised next.mask masks in
      let first = done.run a m b.0 f.0 at in
      let place : p.chip.index + length done.raised ≡ q.chip.index = ap (λ (n : ℕ). p.chip.index + n) done.count ∙ sym done.index in
      one_more kind image a m k done.given next.given p q r done.index first
      (next.run a (after_by kind image a p.chip.index m k) (subst (λ (n : ℕ). HasBytes a.inputs n next.given) (sym first.place) b.1)
      (subst (λ (n : ℕ). a.masks n % kind.masks ≡ next.mask % kind.masks) place f.1) first.at);
  follows = next.follows ∙ done.follows;
  by_script = λ script e.
      let before = done.by_script script e in
      let now = next.by_script script (done.follows ∙ e) in
      let places : length q.board.lists.given ≡ length p.board.lists.given + length done.given = ap length done.given_now ∙ length-append p.board.lists.given done.given in
      let index : q.chip.index ≡ p.chip.index + length done.raised = done.index ∙ ap (λ (n : ℕ). p.chip.index + n) (sym done.count) in (
        bytes_join script.input (length p.board.lists.given) done.given next.given before.0 (subst (λ (n : ℕ). HasBytes script.input n next.given) places now.1),
        masks_join kind.masks (arriving script.arrivals) p.chip.index done.raised next.mask before.1 (ap (λ (n : ℕ). n % kind.masks) (sym (now.0 ∙ ap (arriving script.arrivals) index))),
      );
}

pub ran_next : (kind : Kind) (image : List ℕ) (k : ℕ) (p q r : Point) → RanBy kind image k p q → StepsBy kind image q r → RanBy kind image (k + 1) p r
ran_next kind image k p q r done next =
    let e : suc k ≡ k + 1 = omega arith in
    subst (λ (n : ℕ). RanBy kind image n p r) e (ran_on kind image k p q r done next)

-- ---- room for events
pub slack_few : (t : Tracing) → slack t ≤ 1
slack_few t = by_test t.ended
  where
    by_test : (b : Bool) → (if b then 0 else 1) ≤ 1
    by_test true = omega arith
    by_test false = omega arith
