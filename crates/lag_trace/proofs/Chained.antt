-- A run that byte code follows where the steps of the source that don't count are paid for by the steps that count before and behind them, as
-- lowering has it, with the marks that it has by then. Between two steps that count all moments have one place in byte code: so far on that the
-- step behind can be paid, and no further than the one before it pays for.
use Rattle.std.proofs.Common.{◌≡◌, ℕ, zero, suc, ◌+◌, ◌-◌, ◌*◌, ◌<◌, ◌≤◌, ◌⊎◌, inl, inr, Bool, true, false, if◌then◌else◌, map, refl, sym, ap, ◌∙◌, subst, ⊎_elim, arith}
use Rattle.std.proofs.lemmas.Bool.{cases_lt, false≢true}
use Rattle.std.proofs.lemmas.Grind.{common_steps}
use Rattle.std.specs.Prelude.{nat_le}
use Rattle.pic_world.specs.World.{Happening}
use Rattle.run_links.specs.Runs.{Run, Goes, Follows, IsWithin}
use Rattle.core_code.specs.Bytes.{Held}
use Rattle.core_code.specs.Machine.{Setting, Machine, core_step, core_run, core_moment, goes_on, is_still}
use Rattle.core_code.specs.Runs.{most_by, goes_at}
use Rattle.src_rules.specs.Runs.{one_if}
use Rattle.lower_trace.proofs.Walks.{most_from, Walk, run_on, most_on, most_moment}
use Rattle.lag_trace.specs.Marks.{marks_by, marked_run}
use Rattle.lag_trace.proofs.MarkedWalks.{marks_from, marks_on, marks_moment}

-- What one step of the source gives, where byte code stands at c.
pub record Onward {E : Type 0} (a : Run E) (g : Setting) (counted : ℕ → Bool) (owed left : ℕ → ℕ) (room gain grain nodes : ℕ) (Stands : ℕ → Machine → Type 0) (n : ℕ) (c : Machine) : Type 0 where
  pub count : ℕ
  pub place : Machine
  pub most : ℕ
  pub least : ℕ
  pub walk : Walk g count c place most least
  pub stands : Stands (suc n) place
  -- one that doesn't count costs no more than is owed no longer behind it, and little
  pub paid : counted n ≡ false → most + owed (suc n) ≤ owed n
  pub little : counted n ≡ false → most ≤ grain
  -- one that counts may make so much more owed
  pub bought : counted n ≡ true → most ≤ room
  pub bounded : counted n ≡ true → most + owed (suc n) ≤ owed n + gain
  pub pace : left (suc n) + one_if (counted n) ≤ left n + marks_from g count c * nodes
  pub quiet : counted n ≡ false → a.trace (suc n) ≡ a.trace n
  pub sleeps : a.rests (suc n) ≡ true → (counted n ≡ true) ⊎ ((count ≡ 0) × (a.rests n ≡ true))

-- What has to be known of the two runs, and of the relation between a moment of the one and a machine.
pub record ChainLaws {E : Type 0} (show : E → Happening Held) (a : Run E) (g : Setting) (steps : ℕ → ℕ) (counted : ℕ → Bool) (owed left : ℕ → ℕ) (price room gain grain floor top shift nodes : ℕ) (Stands : ℕ → Machine → Type 0) : Type 0 where
  pub none : steps 0 ≡ 0
  pub more : (n : ℕ) → steps (suc n) ≡ steps n + one_if (counted n)
  pub costs : (n : ℕ) → a.most n ≡ price * steps n
  pub before : room + shift ≤ price + floor
  pub behind : room + top + grain ≤ price + shift
  pub between : gain + grain ≤ price
  pub cheap : room ≤ price
  pub first : owed 0 ≤ shift
  pub high : (n : ℕ) (c : Machine) → Stands n c → owed n ≤ top
  pub low : (n : ℕ) (c : Machine) → Stands n c → counted n ≡ true → floor ≤ owed n
  pub traces : (n : ℕ) (c : Machine) → Stands n c → c.world.trace ≡ map show (a.trace n)
  pub starts : Stands 0 (core_moment g 0)
  pub idle : (n : ℕ) (c : Machine) → Stands n c → a.rests n ≡ true → is_still (core_step g c) ≡ true
  pub few : left 0 + 1 ≤ nodes
  pub onward : (n : ℕ) → a.goes n ≡ true → (c : Machine) → Stands n c → Onward a g counted owed left room gain grain nodes Stands n c

module _ {E : Type 0} (show : E → Happening Held) (a : Run E) (g : Setting) (steps : ℕ → ℕ) (counted : ℕ → Bool) (owed left : ℕ → ℕ) (price room gain grain floor top shift nodes : ℕ) (Stands : ℕ → Machine → Type 0) (laws : ChainLaws show a g steps counted owed left price room gain grain floor top shift nodes Stands) (n : ℕ) (d : Goes a n) where
  -- where byte code stands for moment i
  record Found (i : ℕ) : Type 0 where
    count : ℕ
    stands : i ≤ n → Stands i (core_moment g count)

  record Next (i : ℕ) (f : Found i) : Type 0 where
    found : Found (suc i)
    spent : ℕ
    rise : f.count ≤ found.count
    cost : i < n → most_by g found.count ≡ most_by g f.count + spent
    paid : i < n → counted i ≡ false → spent + owed (suc i) ≤ owed i
    little : i < n → counted i ≡ false → spent ≤ grain
    bought : i < n → counted i ≡ true → spent ≤ room
    bounded : i < n → counted i ≡ true → spent + owed (suc i) ≤ owed i + gain
    quiet : i < n → counted i ≡ false → a.trace (suc i) ≡ a.trace i
    sleeps : i < n → a.rests (suc i) ≡ true → (counted i ≡ true) ⊎ ((found.count ≡ f.count) × (a.rests i ≡ true))
    gained : ℕ
    won : i < n → marks_by g found.count ≡ marks_by g f.count + gained
    pace : i < n → left (suc i) + one_if (counted i) ≤ left i + gained * nodes
    goes : (k : ℕ) → f.count ≤ k → k < found.count → goes_at g k ≡ true

  went : (i : ℕ) (f : Found i) → Onward a g counted owed left room gain grain nodes Stands i (core_moment g f.count) → Next i f
  unfolding most_from core_run
  went i f x =
      let here : core_moment g (f.count + x.count) ≡ x.place = run_on g f.count x.count (core_moment g 0) ∙ x.walk.comes in
      let m1 = most_moment g (f.count + x.count) in
      let m2 = most_moment g f.count in
      let m3 = most_on g f.count x.count (core_moment g 0) in
      let wm = x.walk.most in
      record {
        found = record { count = f.count + x.count; stands = λ le. subst (λ c. Stands (suc i) c) (sym here) x.stands };
        spent = most_from g x.count (core_moment g f.count);
        rise = omega arith;
        cost = λ lt. omega arith;
        paid = λ lt e. let p = x.paid e in omega arith;
        little = λ lt e. let p = x.little e in omega arith;
        bought = λ lt e. let p = x.bought e in omega arith;
        bounded = λ lt e. let p = x.bounded e in omega arith;
        quiet = λ lt e. x.quiet e;
        sleeps = λ lt r. ⊎_elim (λ one. inl one) (λ z. inr ((let q = z.0 in omega arith), z.1)) (x.sleeps r);
        gained = marks_from g x.count (core_moment g f.count);
        won = λ lt. let l1 = marks_moment g (f.count + x.count) in let l2 = marks_moment g f.count in let l3 = marks_on g f.count x.count (core_moment g 0) in omega arith;
        pace = λ lt. x.pace;
        goes = λ k le lt.
            let q : k ≡ f.count + (k - f.count) = omega arith in
            ap (λ z. goes_at g z) q ∙ ap (λ c. goes_on (core_step g c)) (run_on g f.count (k - f.count) (core_moment g 0)) ∙ x.walk.goes (k - f.count) (omega arith);
      }

  ended : (i : ℕ) (f : Found i) → n ≤ i → Next i f
  ended i f ge = record {
    found = record { count = f.count; stands = λ le. absurd (omega arith) };
    spent = 0;
    rise = omega arith;
    cost = λ lt. omega arith;
    paid = λ lt e. absurd (omega arith);
    little = λ lt e. absurd (omega arith);
    bought = λ lt e. absurd (omega arith);
    bounded = λ lt e. absurd (omega arith);
    quiet = λ lt e. absurd (omega arith);
    sleeps = λ lt r. absurd (omega arith);
    gained = 0;
    won = λ lt. omega arith;
    pace = λ lt. absurd (omega arith);
    goes = λ k le lt. absurd (omega arith);
  }

  next : (i : ℕ) (f : Found i) → Next i f
  next i f = ⊎_elim (λ lt. went i f (laws.onward i (d i lt) (core_moment g f.count) (f.stands (omega arith)))) (λ ge. ended i f ge) (cases_lt i n)

  unfoldable found : (i : ℕ) → Found i
  found zero = record { count = 0; stands = λ le. laws.starts }
  found (suc i) = (next i (found i)).found

  abbrev spot : ℕ → ℕ
  spot i = (found i).count

  -- what byte code has cost by then
  unfoldable cost : ℕ → ℕ
  cost i = most_by g (spot i)

  abbrev step : (i : ℕ) → Next i (found i)
  step i = next i (found i)

  spot_rises : (i j : ℕ) → i ≤ j → spot i ≤ spot j
  unfolding found
  spot_rises i zero le = let q : i ≡ 0 = omega arith in let e = ap spot q in omega arith
  spot_rises i (suc j) le =
      ⊎_elim (λ lt. let p = spot_rises i j (omega arith) in let r = (step j).rise in omega arith)
      (λ ge. let q : i ≡ suc j = omega arith in let e = ap spot q in omega arith)
      (cases_lt i (suc j))

  goes_below : (i k : ℕ) → k < spot i → goes_at g k ≡ true
  unfolding found
  goes_below zero k lt = absurd (omega arith)
  goes_below (suc i) k lt = ⊎_elim (λ l. goes_below i k l) (λ ge. (step i).goes k ge lt) (cases_lt k (spot i))

  cost_step : (i : ℕ) → i < n → cost (suc i) ≡ cost i + (step i).spent
  unfolding found cost
  cost_step i lt = (step i).cost lt

  -- ---- the chain of a moment: from behind the last step that counted to the next one, or to the end
  unfoldable start : ℕ → ℕ
  start zero = zero
  start (suc i) = if counted i then suc i else start i

  unfoldable ends : ℕ → ℕ → ℕ
  ends zero i = i
  ends (suc k) i = if counted i then i else ends k (suc i)

  abbrev end : ℕ → ℕ
  end i = ends (n - i) i

  bool_cases : (b : Bool) → (b ≡ true) ⊎ (b ≡ false)
  bool_cases true = inl refl
  bool_cases false = inr refl

  end_more : (i : ℕ) → i < n → end i ≡ (if counted i then i else end (suc i))
  unfolding ends
  end_more i lt = let e : n - i ≡ suc (n - suc i) = omega arith in ap (λ k. ends k i) e

  end_counted : (i : ℕ) → i < n → counted i ≡ true → end i ≡ i
  end_counted i lt e = end_more i lt ∙ ap (λ b. if b then i else end (suc i)) e

  end_on : (i : ℕ) → i < n → counted i ≡ false → end i ≡ end (suc i)
  end_on i lt e = end_more i lt ∙ ap (λ b. if b then i else end (suc i)) e

  start_counted : (i : ℕ) → counted i ≡ true → start (suc i) ≡ suc i
  unfolding start
  start_counted i e = ap (λ b. if b then suc i else start i) e

  start_on : (i : ℕ) → counted i ≡ false → start (suc i) ≡ start i
  unfolding start
  start_on i e = ap (λ b. if b then suc i else start i) e

  start_few : (i : ℕ) → start i ≤ i
  unfolding start
  start_few zero = omega arith
  start_few (suc i) =
      ⊎_elim (λ e. let q = start_counted i e in omega arith)
      (λ e. let q = start_on i e in let r = start_few i in omega arith)
      (bool_cases (counted i))

  -- what is known of the end, by what is left up to it
  record Ending (i e : ℕ) : Type 0 where
    behind : i ≤ e
    within : e ≤ n
    owes : cost e + owed e ≤ cost i + owed i
    free : (j : ℕ) → i ≤ j → j < e → counted j ≡ false

  ending_by : (k i : ℕ) → i + k ≡ n → Ending i (ends k i)
  unfolding ends
  ending_by zero i q = record { behind = omega arith; within = omega arith; owes = omega arith; free = λ j ge lt. absurd (omega arith) }
  ending_by (suc k) i q =
      ⊎_elim
      (λ e. subst (Ending i) (sym (ap (λ b. if b then i else ends k (suc i)) e)) (record { behind = omega arith; within = omega arith; owes = omega arith; free = λ j ge lt. absurd (omega arith) }))
      (λ e.
      let r = ending_by k (suc i) (omega arith) in
      let rb = r.behind in
      let ro = r.owes in
      let rw = r.within in
      let c = cost_step i (omega arith) in
      let p = (step i).paid (omega arith) e in
      subst (Ending i) (sym (ap (λ b. if b then i else ends k (suc i)) e))
      (record {
        behind = omega arith;
        within = omega arith;
        owes = omega arith;
        free = λ j ge lt. ⊎_elim (λ l. r.free j (omega arith) lt) (λ l. let s : j ≡ i = omega arith in ap counted s ∙ e) (cases_lt i j);
      }))
      (bool_cases (counted i))

  ending : (i : ℕ) → i ≤ n → Ending i (end i)
  ending i le = ending_by (n - i) i (omega arith)

  -- none counts from the start of a chain up to a moment of it
  free_before : (i j : ℕ) → start i ≤ j → j < i → counted j ≡ false
  unfolding start
  free_before zero j ge lt = absurd (omega arith)
  free_before (suc i) j ge lt =
      ⊎_elim
      (λ e. let q = start_counted i e in absurd (omega arith))
      (λ e. let q = start_on i e in ⊎_elim (λ l. free_before i j (omega arith) l) (λ l. let s : j ≡ i = omega arith in ap counted s ∙ e) (cases_lt j i))
      (bool_cases (counted i))

  -- all moments of a chain have one trace
  level : (i k : ℕ) → i + k ≤ n → ((j : ℕ) → i ≤ j → j < i + k → counted j ≡ false) → a.trace (i + k) ≡ a.trace i
  level i zero le free = let e : i + 0 ≡ i = omega arith in ap a.trace e
  level i (suc k) le free =
      let e : i + suc k ≡ suc (i + k) = omega arith in
      ap a.trace e ∙ (step (i + k)).quiet (omega arith) (free (i + k) (omega arith) (omega arith)) ∙ level i k (omega arith) (λ j ge lt. free j ge (omega arith))

  -- ---- the moment whose place all moments of the chain have
  unfoldable seek : ℕ → ℕ → ℕ → ℕ
  seek zero m t = m
  seek (suc k) m t = if nat_le t (cost m + shift) then m else seek k (suc m) t

  abbrev target : ℕ → ℕ
  target i = cost (end i) + owed (end i)

  record Sought (m e t r : ℕ) : Type 0 where
    from : m ≤ r
    within : r ≤ e
    enough : (t ≤ cost r + shift) ⊎ (r ≡ e)
    near : (r ≡ m) ⊎ (cost r + shift < t + grain)

  le_of : (t u : ℕ) → nat_le t u ≡ true → t ≤ u
  le_of t u e = grind (arith, common_steps)

  lt_of : (t u : ℕ) → nat_le t u ≡ false → u < t
  lt_of t u e = grind (arith, common_steps)

  sought_by : (k m t : ℕ) → m + k ≤ n → ((j : ℕ) → m ≤ j → j < m + k → counted j ≡ false) → Sought m (m + k) t (seek k m t)
  unfolding seek
  sought_by zero m t le free = record { from = omega arith; within = omega arith; enough = inr (omega arith); near = inl refl }
  sought_by (suc k) m t le free =
      ⊎_elim
      (λ e. subst (Sought m (m + suc k) t) (sym (ap (λ b. if b then m else seek k (suc m) t) e)) (record { from = omega arith; within = omega arith; enough = inl (le_of t (cost m + shift) e); near = inl refl }))
      (λ e.
      let r = sought_by k (suc m) t (omega arith) (λ j ge lt. free j (omega arith) (omega arith)) in
      let rf = r.from in
      let rw = r.within in
      let l = lt_of t (cost m + shift) e in
      let c = cost_step m (omega arith) in
      let small = (step m).little (omega arith) (free m (omega arith) (omega arith)) in
      let same : suc m + k ≡ m + suc k = omega arith in
      subst (Sought m (m + suc k) t) (sym (ap (λ b. if b then m else seek k (suc m) t) e))
      (record {
        from = omega arith;
        within = omega arith;
        enough = ⊎_elim (λ x. inl x) (λ x. inr (x ∙ same)) r.enough;
        near = ⊎_elim (λ x. inr (let y = ap cost x in omega arith)) (λ x. inr x) r.near;
      }))
      (bool_cases (nat_le t (cost m + shift)))

  unfoldable place : ℕ → ℕ
  place i = seek (end i - start i) (start i) (target i)

  -- the whole chain
  free_all : (i : ℕ) → i ≤ n → (j : ℕ) → start i ≤ j → j < end i → counted j ≡ false
  free_all i le j ge lt = ⊎_elim (λ l. free_before i j ge l) (λ l. (ending i le).free j l lt) (cases_lt j i)

  sought : (i : ℕ) → i ≤ n → Sought (start i) (end i) (target i) (place i)
  unfolding place
  sought i le =
      let s = start_few i in
      let e = ending i le in
      let eb = e.behind in
      let ew = e.within in
      let q : start i + (end i - start i) ≡ end i = omega arith in
      subst (λ y. Sought (start i) y (target i) (seek (end i - start i) (start i) (target i))) q
      (sought_by (end i - start i) (start i) (target i) (omega arith) (λ j ge lt. free_all i le j ge (omega arith)))

  -- ---- from one moment to the next
  place_on : (i : ℕ) → i < n → counted i ≡ false → place (suc i) ≡ place i
  unfolding place
  place_on i lt e = let s = start_on i e in let q = sym (end_on i lt e) in ap (λ x. seek (x - start (suc i)) (start (suc i)) (cost x + owed x)) q ∙ ap (λ y. seek (end i - y) y (target i)) s

  cost_on : (i : ℕ) → i < n → counted i ≡ true → cost (place (suc i)) ≤ cost (place i) + price
  cost_on i lt e =
      let x = (step i).spent in
      let c = cost_step i lt in
      let b = (step i).bought lt e in
      let bd = (step i).bounded lt e in
      let o = (ending (suc i) (omega arith)).owes in
      let here = end_counted i lt e in
      let h1 = ap cost here in
      let h2 = ap owed here in
      let st = start_counted i e in
      let p = sought i (omega arith) in
      let q = sought (suc i) (omega arith) in
      let lb = laws.before in
      let lh = laws.behind in
      let lt2 = laws.between in
      let lc = laws.cheap in
      let fl = laws.low i (core_moment g (spot i)) ((found i).stands (omega arith)) e in
      let hi = laws.high (suc i) (core_moment g (spot (suc i))) ((found (suc i)).stands (omega arith)) in
      ⊎_elim
      (λ enough.
      ⊎_elim (λ a. let y = ap cost (a ∙ st) in omega arith) (λ near. omega arith) q.near)
      (λ last.
      let z = ap cost (last ∙ here) in
      ⊎_elim (λ a. let y = ap cost (a ∙ st) in omega arith) (λ near. omega arith) q.near)
      p.enough

  steps_on : (i : ℕ) → counted i ≡ false → steps (suc i) ≡ steps i
  steps_on i e = let m = laws.more i in let o = ap one_if e in omega arith

  steps_one : (i : ℕ) → counted i ≡ true → steps (suc i) ≡ steps i + 1
  steps_one i e = let m = laws.more i in let o = ap one_if e in omega arith

  fast : (i j : ℕ) → i ≤ j → j ≤ n → cost (place j) + price * steps i ≤ cost (place i) + price * steps j
  fast i zero le lt = let q : i ≡ 0 = omega arith in let e = ap (λ z. cost (place z)) q in let f = ap (λ z. price * steps z) q in omega arith
  fast i (suc j) le lt =
      ⊎_elim
      (λ l.
      let p = fast i j (omega arith) (omega arith) in
      ⊎_elim
      (λ e. let c = cost_on j (omega arith) e in let s = ap (λ k. price * k) (steps_one j e) in omega arith)
      (λ e. let c = ap cost (place_on j (omega arith) e) in let s = ap (λ k. price * k) (steps_on j e) in omega arith)
      (bool_cases (counted j)))
      (λ ge. let q : i ≡ suc j = omega arith in let e = ap (λ z. cost (place z)) q in let f = ap (λ z. price * steps z) q in omega arith)
      (cases_lt i (suc j))

  place_rises : (i j : ℕ) → i ≤ j → j ≤ n → place i ≤ place j
  place_rises i zero le lt = let q : i ≡ 0 = omega arith in let e = ap place q in omega arith
  place_rises i (suc j) le lt =
      ⊎_elim
      (λ l.
      let p = place_rises i j (omega arith) (omega arith) in
      ⊎_elim
      (λ e. let a = sought j (omega arith) in let b = sought (suc j) (omega arith) in let aw = a.within in let bf = b.from in let x = end_counted j (omega arith) e in let y = start_counted j e in omega arith)
      (λ e. let c = place_on j (omega arith) e in omega arith)
      (bool_cases (counted j)))
      (λ ge. let q : i ≡ suc j = omega arith in let e = ap place q in omega arith)
      (cases_lt i (suc j))

  place_within : (i : ℕ) → i ≤ n → place i ≤ n
  place_within i le = let a = (sought i le).within in let b = (ending i le).within in omega arith

  true_le : (t u : ℕ) → t ≤ u → nat_le t u ≡ true
  true_le t u h = grind (arith, common_steps)

  seek_here : (k m t : ℕ) → t ≤ cost m + shift → seek k m t ≡ m
  unfolding seek
  seek_here zero m t h = refl
  seek_here (suc k) m t h = ap (λ b. if b then m else seek k (suc m) t) (true_le t (cost m + shift) h)

  place_first : place 0 ≡ 0
  unfolding place start cost found most_by
  place_first = let o = (ending 0 (omega arith)).owes in let f = laws.first in seek_here (end 0 - 0) 0 (target 0) (omega arith)

  level_to : (i m : ℕ) → i ≤ n → start i ≤ m → m ≤ end i → a.trace m ≡ a.trace (start i)
  level_to i m le ge lt =
      let w = (ending i le).within in
      let q : start i + (m - start i) ≡ m = omega arith in
      ap a.trace (sym q) ∙ level (start i) (m - start i) (omega arith) (λ j g1 l1. free_all i le j g1 (omega arith))

  steady : (i k : ℕ) → ((j : ℕ) → i ≤ j → j < i + k → counted j ≡ false) → steps (i + k) ≡ steps i
  steady i zero free = let e : i + 0 ≡ i = omega arith in ap steps e
  steady i (suc k) free =
      let e : i + suc k ≡ suc (i + k) = omega arith in
      ap steps e ∙ steps_on (i + k) (free (i + k) (omega arith) (omega arith)) ∙ steady i k (λ j ge lt. free j ge (omega arith))

  steady_to : (i m : ℕ) → i ≤ n → start i ≤ m → m ≤ end i → steps m ≡ steps (start i)
  steady_to i m le ge lt = let q : start i + (m - start i) ≡ m = omega arith in ap steps (sym q) ∙ steady (start i) (m - start i) (λ j g1 l1. free_all i le j g1 (omega arith))

  -- where the source rests byte code has come to its place
  rest_spot : (i : ℕ) → i ≤ n → a.rests i ≡ true → spot (start i) ≡ spot i
  unfolding start found
  rest_spot zero le r = refl
  rest_spot (suc i) le r =
      ⊎_elim
      (λ e. ap spot (start_counted i e))
      (λ e.
      ap spot (start_on i e)
      ∙ ⊎_elim (λ one. absurd (false≢true (sym e ∙ one))) (λ z. rest_spot i (omega arith) z.1 ∙ sym z.0) ((step i).sleeps (omega arith) r))
      (bool_cases (counted i))

  end_last : end n ≡ n
  unfolding ends
  end_last = let e : n - n ≡ 0 = omega arith in ap (λ k. ends k n) e

  rest_place : a.rests n ≡ true → spot (place n) ≡ spot n
  rest_place r =
      let p = sought n (omega arith) in
      let x = rest_spot n (omega arith) r in
      let y = spot_rises (start n) (place n) p.from in
      let w = p.within in
      let e = end_last in
      let z = spot_rises (place n) n (omega arith) in
      omega arith

  first_spot : spot 0 ≡ 0
  unfolding found
  first_spot = refl

  spot_first : (m : ℕ) → m ≡ 0 → spot m ≡ 0
  spot_first m e = ap spot e ∙ first_spot

  pub chain_follows : Follows show a (marked_run g) n
  unfolding cost
  chain_follows = record {
    at = λ i. spot (place i);
    starts = spot_first (place 0) place_first;
    rises = λ i j le lt. spot_rises (place i) (place j) (place_rises i j le lt);
    goes = λ k lt. goes_below (place n) k lt;
    same = λ i le.
        let p = sought i le in
        let e = ending i le in
        let s = start_few i in
        laws.traces (place i) (core_moment g (spot (place i))) ((found (place i)).stands (place_within i le)) ∙ ap (map show) (level_to i (place i) le p.from p.within ∙ sym (level_to i i le s e.behind));
    fast = λ i j le lt. let p = laws.costs i in let q = laws.costs j in let f = fast i j le lt in omega arith;
    rests = λ r. subst (λ k. is_still (core_step g (core_moment g k)) ≡ true) (sym (rest_place r)) (laws.idle n (core_moment g (spot n)) ((found n).stands (omega arith)) r);
  }

  -- ---- code without a mark
  ahead : (i : ℕ) → i ≤ n → steps i + left i + 1 ≤ (marks_by g (spot i) + 1) * nodes
  unfolding found marks_by
  ahead zero le = let f = laws.few in let z = laws.none in omega arith
  ahead (suc i) le =
      let h = ahead i (omega arith) in
      let p = (step i).pace (omega arith) in
      let m = laws.more i in
      let w = ap (λ k. (k + 1) * nodes) ((step i).won (omega arith)) in
      omega arith

  pub chain_lags : IsWithin (marked_run g) nodes (steps n) (chain_follows.at n)
  unfolding chain_follows
  chain_lags =
      let p = sought n (omega arith) in
      let e = ending n (omega arith) in
      let s = start_few n in
      let x = steady_to n (place n) (omega arith) p.from p.within in
      let y = steady_to n n (omega arith) s e.behind in
      let h = ahead (place n) (place_within n (omega arith)) in
      inl (omega arith)
