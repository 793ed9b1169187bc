-- A run that byte code follows with some steps behind. Code whose steps are not paid for yet waits, until a step of the
-- source comes that counts: so the bounds hold between any two moments.
use Rattle.std.proofs.Common.{◌≡◌, ℕ, zero, suc, ◌+◌, ◌-◌, ◌*◌, ◌<◌, ◌≤◌, ◌⊎◌, inl, true, map, refl, sym, ap, ◌∙◌, subst, ⊎_elim, arith}
use Rattle.std.proofs.lemmas.Bool.{cases_lt}
use Rattle.pic_world.specs.World.{Happening}
use Rattle.run_links.specs.Runs.{Run, Goes, Follows, IsWithin}
use Rattle.core_code.specs.Bytes.{Held}
use Rattle.core_code.specs.Machine.{Setting, Machine, core_step, core_run, core_moment, goes_on, is_still}
use Rattle.core_code.specs.Runs.{most_by, least_by, goes_at, run_of}
use Rattle.lower_trace.proofs.Walks.{most_from, least_from, Walk, run_on, most_on, least_on, walk_on, stay, most_moment, least_moment}

-- What one step of the source gives, where byte code stands at c. Where it doesn't count, the walk is paid for by words that
-- were bought before; where it counts it may cost `room` more.
pub record Advances {E : Type 0} (a : Run E) (g : Setting) (counted words left : ℕ → ℕ) (room nodes : ℕ) (Stands : ℕ → Machine → Type 0) (n : ℕ) (c : Machine) : Type 0 where
  pub count : ℕ
  pub place : Machine
  pub most : ℕ
  pub least : ℕ
  pub walk : Walk g count c place most least
  pub stands : Stands (suc n) place
  pub paid : counted n ≡ 0 → most + words (suc n) ≤ words n
  pub bought : counted n ≡ 1 → most ≤ words n + room
  pub pace : left (suc n) + counted n ≤ left n + least * nodes
  pub quiet : counted n ≡ 0 → a.trace (suc n) ≡ a.trace n
  pub sleeps : a.rests (suc n) ≡ true → (counted n ≡ 1) ⊎ ((count ≡ 0) × (a.rests n ≡ true))

-- What has to be known of the two runs, and of the relation between a moment of the one and a machine.
pub record Laws {E : Type 0} (show : E → Happening Held) (a : Run E) (g : Setting) (steps counted words left : ℕ → ℕ) (reserve room price nodes : ℕ) (Stands : ℕ → Machine → Type 0) : Type 0 where
  pub none : steps 0 ≡ 0
  pub more : (n : ℕ) → steps (suc n) ≡ steps n + counted n
  pub counts : (n : ℕ) → (counted n ≡ 0) ⊎ (counted n ≡ 1)
  pub costs : (n : ℕ) → a.most n ≡ price * steps n
  pub enough : reserve + room ≤ price
  pub bounded : (n : ℕ) (c : Machine) → Stands n c → words n ≤ reserve
  pub traces : (n : ℕ) (c : Machine) → Stands n c → c.world.trace ≡ map show (a.trace n)
  pub starts : Stands 0 (core_moment g 0)
  pub few : left 0 < nodes
  pub idle : (n : ℕ) (c : Machine) → Stands n c → a.rests n ≡ true → is_still (core_step g c) ≡ true
  pub advances : (n : ℕ) → a.goes n ≡ true → (c : Machine) → Stands n c → Advances a g counted words left room nodes Stands n c

module _ {E : Type 0} (show : E → Happening Held) (a : Run E) (g : Setting) (steps counted words left : ℕ → ℕ) (reserve room price nodes : ℕ) (Stands : ℕ → Machine → Type 0) (laws : Laws show a g steps counted words left reserve room price nodes Stands) where
  -- where byte code is after i of its steps, at moment n of the source
  record Facts (n i : ℕ) : Type 0 where
    lag : ℕ
    place : Machine
    most : ℕ
    least : ℕ
    walk : Walk g lag (core_moment g i) place most least
    stands : Stands n place
    same : (core_moment g i).world.trace ≡ map show (a.trace n)
    early : most + words n ≤ reserve
    ahead : steps n + left n < (least_by g i + least + 1) * nodes
    within : steps n < (least_by g i + 1) * nodes
    still : a.rests n ≡ true → lag ≡ 0

  record Next (n i : ℕ) : Type 0 where
    count : ℕ
    facts : Facts (suc n) count
    rise : i ≤ count
    cost : most_by g count + price * steps n ≤ most_by g i + price * steps (suc n)
    goes : (k : ℕ) → i ≤ k → k < count → goes_at g k ≡ true

  begun : Facts 0 0
  unfolding least_by
  begun =
      let f = laws.few in
      let b = laws.bounded 0 (core_moment g 0) laws.starts in
      let z = laws.none in
      record {
        lag = 0;
        place = core_moment g 0;
        most = 0;
        least = 0;
        walk = stay g (core_moment g 0);
        stands = laws.starts;
        same = laws.traces 0 (core_moment g 0) laws.starts;
        early = omega arith;
        ahead = omega arith;
        within = omega arith;
        still = λ r. refl;
      }

  -- the step doesn't count: byte code stays where it is
  waits : (n i : ℕ) (f : Facts n i) → counted n ≡ 0 → Advances a g counted words left room nodes Stands n f.place → Next n i
  waits n i f e x =
      let s : steps (suc n) ≡ steps n = let m = laws.more n in omega arith in
      let fe = f.early in
      let xc = x.paid e in
      let xp = x.pace in
      let fa = f.ahead in
      record {
        count = i;
        facts = record {
          lag = f.lag + x.count;
          place = x.place;
          most = f.most + x.most;
          least = f.least + x.least;
          walk = walk_on g f.lag x.count (core_moment g i) f.place x.place f.most f.least x.most x.least f.walk x.walk;
          stands = x.stands;
          same = f.same ∙ ap (map show) (sym (x.quiet e));
          early = omega arith;
          ahead = omega arith;
          within = let w = f.within in omega arith;
          still = λ r.
              ⊎_elim (λ one. absurd (omega arith))
              (λ z. let p = f.still z.1 in let q = z.0 in omega arith)
              (x.sleeps r);
        };
        rise = omega arith;
        cost = let t = ap (λ k. price * k) s in omega arith;
        goes = λ k le lt. absurd (omega arith);
      }

  -- the step counts: byte code makes up for all that waits
  makes_up : (n i : ℕ) (f : Facts n i) → counted n ≡ 1 → Advances a g counted words left room nodes Stands n f.place → Next n i
  unfolding most_from least_from core_run
  makes_up n i f e x =
      let j = f.lag + x.count in
      let w = walk_on g f.lag x.count (core_moment g i) f.place x.place f.most f.least x.most x.least f.walk x.walk in
      let here : core_moment g (i + j) ≡ x.place = run_on g i j (core_moment g 0) ∙ w.comes in
      let s : steps (suc n) ≡ steps n + 1 = let m = laws.more n in omega arith in
      let fe = f.early in
      let xc = x.bought e in
      let xp = x.pace in
      let fa = f.ahead in
      let en = laws.enough in
      let wm = w.most in
      let wl = w.least in
      let m1 = most_moment g (i + j) in
      let m2 = most_moment g i in
      let m3 = most_on g i j (core_moment g 0) in
      let l1 = least_moment g (i + j) in
      let l2 = least_moment g i in
      let l3 = least_on g i j (core_moment g 0) in
      let more_least : (d : ℕ) → least_by g (i + j) ≡ least_by g i + (f.least + x.least) + d → steps (suc n) + left (suc n) < (least_by g (i + j) + 0 + 1) * nodes = λ d q. let t = ap (λ k. (k + 0 + 1) * nodes) q in omega arith in
      let ahead : steps (suc n) + left (suc n) < (least_by g (i + j) + 0 + 1) * nodes = more_least (least_by g (i + j) - (least_by g i + (f.least + x.least))) (omega arith) in
      record {
        count = i + j;
        facts = record {
          lag = 0;
          place = x.place;
          most = 0;
          least = 0;
          walk = subst (λ c. Walk g 0 c x.place 0 0) (sym here) (stay g x.place);
          stands = x.stands;
          same = ap (λ c. c.world.trace) here ∙ laws.traces (suc n) x.place x.stands;
          early = let b = laws.bounded (suc n) x.place x.stands in omega arith;
          ahead = ahead;
          within = let t : least_by g (i + j) + 0 + 1 ≡ least_by g (i + j) + 1 = omega arith in let u = ap (λ k. k * nodes) t in omega arith;
          still = λ r. refl;
        };
        rise = omega arith;
        cost = let t : price * steps (suc n) ≡ price * steps n + price = ap (λ k. price * k) s ∙ (omega arith) in omega arith;
        goes = λ k le lt.
            let q : k ≡ i + (k - i) = omega arith in
            ap (λ z. goes_at g z) q ∙ ap (λ c. goes_on (core_step g c)) (run_on g i (k - i) (core_moment g 0)) ∙ w.goes (k - i) (omega arith);
      }

  next : (n i : ℕ) → a.goes n ≡ true → Facts n i → Next n i
  next n i d f =
      ⊎_elim (λ z. waits n i f z (laws.advances n d f.place f.stands))
      (λ o. makes_up n i f o (laws.advances n d f.place f.stands))
      (laws.counts n)

  module _ (n : ℕ) (d : Goes a n) where
    record Reached (i : ℕ) : Type 0 where
      count : ℕ
      facts : i ≤ n → Facts i count

    record Onward (i : ℕ) (r : Reached i) : Type 0 where
      reached : Reached (suc i)
      rise : r.count ≤ reached.count
      cost : i < n → most_by g reached.count + price * steps i ≤ most_by g r.count + price * steps (suc i)
      goes : (k : ℕ) → r.count ≤ k → k < reached.count → goes_at g k ≡ true

    went : (i : ℕ) (r : Reached i) → Next i r.count → Onward i r
    went i r x = record { reached = record { count = x.count; facts = λ le. x.facts }; rise = x.rise; cost = λ lt. x.cost; goes = x.goes }

    ended : (i : ℕ) (r : Reached i) → n ≤ i → Onward i r
    ended i r ge = record { reached = record { count = r.count; facts = λ le. absurd (omega arith) }; rise = omega arith; cost = λ lt. absurd (omega arith); goes = λ k le lt. absurd (omega arith) }

    onward : (i : ℕ) (r : Reached i) → Onward i r
    onward i r = ⊎_elim (λ lt. went i r (next i r.count (d i lt) (r.facts (omega arith)))) (λ ge. ended i r ge) (cases_lt i n)

    reached : (i : ℕ) → Reached i
    reached zero = record { count = 0; facts = λ le. begun }
    reached (suc i) = (onward i (reached i)).reached

    abbrev at : ℕ → ℕ
    at i = (reached i).count

    rises : (i j : ℕ) → i ≤ j → at i ≤ at j
    unfolding reached
    rises i zero le = let q : i ≡ 0 = omega arith in let e = ap at q in omega arith
    rises i (suc j) le =
        ⊎_elim (λ lt. let p = rises i j (omega arith) in let r = (onward j (reached j)).rise in omega arith)
        (λ ge. let q : i ≡ suc j = omega arith in let e = ap at q in omega arith)
        (cases_lt i (suc j))

    fast : (i j : ℕ) → i ≤ j → j ≤ n → most_by g (at j) + price * steps i ≤ most_by g (at i) + price * steps j
    unfolding reached
    fast i zero le lt = let q : i ≡ 0 = omega arith in let e = ap (λ z. most_by g (at z)) q in let f = ap (λ z. price * steps z) q in omega arith
    fast i (suc j) le lt =
        ⊎_elim (λ l. let p = fast i j (omega arith) (omega arith) in let r = (onward j (reached j)).cost (omega arith) in omega arith)
        (λ ge. let q : i ≡ suc j = omega arith in let e = ap (λ z. most_by g (at z)) q in let f = ap (λ z. price * steps z) q in omega arith)
        (cases_lt i (suc j))

    goes_below : (i k : ℕ) → k < at i → goes_at g k ≡ true
    unfolding reached
    goes_below zero k lt = absurd (omega arith)
    goes_below (suc i) k lt = ⊎_elim (λ l. goes_below i k l) (λ ge. (onward i (reached i)).goes k ge lt) (cases_lt k (at i))

    rests_there : (f : Facts n (at n)) → a.rests n ≡ true → is_still (core_step g (core_moment g (at n))) ≡ true
    unfolding core_run
    rests_there f r = let e : core_moment g (at n) ≡ f.place = ap (λ k. core_run g k (core_moment g (at n))) (sym (f.still r)) ∙ f.walk.comes in ap (λ c. is_still (core_step g c)) e ∙ laws.idle n f.place f.stands r

    pub follows : Follows show a (run_of g) n
    unfolding reached
    follows = record {
      at = at;
      starts = refl;
      rises = λ i j le lt. rises i j le;
      goes = λ k lt. goes_below n k lt;
      same = λ i le. ((reached i).facts le).same;
      fast = λ i j le lt. let p = laws.costs i in let q = laws.costs j in let f = fast i j le lt in omega arith;
      rests = λ r. rests_there ((reached n).facts (omega arith)) r;
    }

    pub lags : IsWithin (run_of g) nodes (steps n) (follows.at n)
    unfolding follows
    lags = inl ((reached n).facts (omega arith)).within
