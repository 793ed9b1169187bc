-- Whole runs.
use Rattle.std.proofs.Common.{◌≡◌, ℕ, zero, suc, ◌+◌, ◌-◌, ◌*◌, ◌<◌, ◌≤◌, Bool, true, false, ◌&&◌, List, [], ◌∷◌, Option, refl, sym, ap, ◌∙◌, subst, ⊎_elim, arith}
use Rattle.std.proofs.lemmas.Bool.{cases_lt, false≢true}
use Rattle.std.specs.Prelude.{is_none}
use Rattle.c_typed.specs.Trees.{FunctionTree, Program}
use Rattle.c_typed.specs.declared.types.Qualified.{Qualified}
use Rattle.pic_world.proofs.WorldLaws.{arrived_trace}
use Rattle.pic_world.specs.World.{Outside, World, Happening, arrived, world_at_start}
use Rattle.pic_world.specs.declared.Root.TheVariants.{Main}
use Rattle.rom_source.proofs.Following.{led}
use Rattle.rom_source.proofs.Links.{TableRead, Plain, given, made, with_parts, IsMade, AreLinks, Agree}
use Rattle.rom_source.proofs.Resting.{rests_too}
use Rattle.rom_source.proofs.Standing.{Place, Common, Finding, Summing, Starting, Naming, Spotting, Pointing, Converting, Holding, StartingBehind, NamingBehind, SpottingBehind, PointingBehind, Summed, Reached, Fetching, Fetched, made_at, IsBefore, Holds, Stand, Walk, Stop, Then, Way, Same, Walks, Calls, Sums}
use Rattle.rom_source.specs.Outlining.{setting, IsDefined}
use Rattle.src_rules.proofs.Moments.{moments}
use Rattle.src_rules.proofs.Starts.{sound_runs}
use Rattle.src_rules.specs.Laws.{IsProper, IsOfBytes}
use Rattle.src_rules.specs.Runs.{gone, run, moment, is_taken, one_if, steps_by, fault_of, is_idle}
use Rattle.src_rules.specs.Standing.{Stands, Keeps}
use Rattle.src_rules.specs.State.{State, state, Outcome, Went, Undefined, Idle, Lost}
use Rattle.src_rules.specs.Step.{copy_of, step, counts, start}
use Rattle.src_values.specs.Control as control
use Rattle.src_values.specs.Control.{Before, Pending}
use Rattle.src_values.specs.Memory.{Setting, Memory, first_memory}
use Rattle.src_values.specs.Objects.{function_at, main_of}
use Rattle.src_values.specs.declared.objects.Byte.{Byte}
use Rattle.src_values.specs.declared.objects.CopyOf.{CopyOf}
use Rattle.src_values.specs.declared.objects.Object.TheVariants.{Fixed, Variable}

-- ---- walks as parts of runs
module _ (g : Setting) where
  record Walked (a n m : ℕ) (v : State) : Type 0 where
    comes : moment g (a + n) ≡ v
    counted : steps_by g (a + n) ≡ steps_by g a + m
    goes : (k : ℕ) → k < n → is_none (fault_of (step g (moment g (a + k)))) ≡ true

  and_true : (b : Bool) → (b && true) ≡ b
  and_true true = refl
  and_true false = refl

  -- none of them is undefined
  goes_from : (a i : ℕ) (u : State) (event : Option (Happening Byte)) (k : ℕ) → k < suc i → step g (moment g a) ≡ Went u event → ((k : ℕ) → k < i → is_none (fault_of (step g (moment g (suc a + k)))) ≡ true) → is_none (fault_of (step g (moment g (a + k)))) ≡ true
  goes_from a i u event zero lt e h = let f : a + 0 ≡ a = omega arith in ap (λ n. is_none (fault_of (step g (moment g n)))) f ∙ ap (λ o. is_none (fault_of o)) e
  goes_from a i u event (suc k) lt e h = let f : a + suc k ≡ suc a + k = omega arith in ap (λ n. is_none (fault_of (step g (moment g n)))) f ∙ h k (omega arith)

  walked : (p : Program) (a n m : ℕ) (t v : State) → moment g a ≡ t → Walk p g n m t v → Walked a n m v
  unfolding run steps_by
  walked p a n m t v is (Stop t') =
      let e : a + 0 ≡ a = omega arith in
      record { comes = ap (moment g) e ∙ is; counted = (let f = ap (steps_by g) e in omega arith); goes = λ k lt. absurd (omega arith) }
  walked p a n m t v is (Then i j t' u v' event brief none e rest) =
      let goes_here : step g (moment g a) ≡ Went u event = ap (step g) is ∙ e in
      let next : moment g (suc a) ≡ u = ap (gone (moment g a)) goes_here in
      let r = walked p (suc a) i j u v' next rest in
      let f : a + suc i ≡ suc a + i = omega arith in
      let one : steps_by g (suc a) ≡ steps_by g a + one_if (counts g t') =
      ap (λ o. steps_by g a + one_if (counts g (moment g a) && is_taken o)) goes_here ∙ ap (λ b. steps_by g a + one_if b) (and_true (counts g (moment g a))) ∙ ap (λ x. steps_by g a + one_if (counts g x)) is in
      record {
        comes = ap (moment g) f ∙ r.comes;
        counted = (let h = r.counted in let k = ap (steps_by g) f in omega arith);
        goes = λ k lt. goes_from a i u event k lt goes_here r.goes;
      }

  same_walked : (a : ℕ) (t v : State) (event : Option (Happening Byte)) → moment g a ≡ t → step g t ≡ Went v event → Walked a 1 (one_if (counts g t)) v
  unfolding run steps_by
  same_walked a t v event is e =
      let goes_here : step g (moment g a) ≡ Went v event = ap (step g) is ∙ e in
      let f : a + 1 ≡ suc a = omega arith in
      record {
        comes = ap (moment g) f ∙ ap (gone (moment g a)) goes_here;
        counted = ap (steps_by g) f ∙ ap (λ o. steps_by g a + one_if (counts g (moment g a) && is_taken o)) goes_here ∙ ap (λ b. steps_by g a + one_if b) (and_true (counts g (moment g a))) ∙ ap (λ x. steps_by g a + one_if (counts g x)) is;
        goes = λ k lt. goes_from a 0 v event k lt goes_here (λ k lt. absurd (omega arith));
      }

  abbrev defined_at : ℕ → Type 0
  defined_at k = is_none (fault_of (step g (moment g k))) ≡ true

  parts : (a i j k : ℕ) → k < i + suc j → ((k : ℕ) → k < i → defined_at (a + k)) → ((k : ℕ) → k < 1 → defined_at (a + i + k)) → ((k : ℕ) → k < j → defined_at (a + i + 1 + k)) → defined_at (a + k)
  parts a i j k lt x y z =
      ⊎_elim (λ l. x k l)
      (λ ge.
      ⊎_elim
      (λ l. let e : a + k ≡ a + i + 0 = omega arith in subst defined_at (sym e) (y 0 (omega arith)))
      (λ m. let e : a + k ≡ a + i + 1 + (k - (i + 1)) = omega arith in subst defined_at (sym e) (z (k - (i + 1)) (omega arith)))
      (cases_lt k (i + 1)))
      (cases_lt k i)

  way_walked : (p : Program) (a n m : ℕ) (t v : State) → moment g a ≡ t → Way p g n m t v → Walked a n m v
  way_walked p a n m t v is (Same t' u event e) = same_walked a t' u event is e
  way_walked p a n m t v is (Walks i j t' u w) = walked p a i j t' u is w
  way_walked p a n m t v is (Sums t' u event adds none e) = same_walked a t' u event is e
  way_walked p a n m t v is (Calls i j h t' x b u event before entry r known is_reader none e behind) =
      let first = walked p a i 0 t' x is before in
      let call = same_walked (a + i) x b event first.comes e in
      let last = walked p (a + i + 1) j h b u call.comes behind in
      let c1 = first.counted in
      let c2 = call.counted in
      let c3 = last.counted in
      let f : a + (i + suc j) ≡ a + i + 1 + j = omega arith in
      record {
        comes = ap (moment g) f ∙ last.comes;
        counted = (let k = ap (steps_by g) f in omega arith);
        goes = λ k lt. parts a i j k lt first.goes call.goes last.goes;
      }

module _ (p : Program) (rows : List Qualified) (fs : List FunctionTree) (mk : IsMade p rows fs) (sound : IsProper p) (o : Outside) (bytes : IsOfBytes o) where
  abbrev q : Program
  q = with_parts p rows fs

  abbrev s : Setting
  s = setting p o

  abbrev g : Setting
  g = setting q o

  -- ---- worlds
  before_same : (r : TableRead) (w v : World Byte) → IsBefore p o r w v → arrived o v ≡ arrived o w
  before_same r w v b = b.still ∙ sym b.quiet.again

  world_same : (P : Place) (w v : World Byte) → Holds p o P w v → arrived o v ≡ arrived o w
  world_same (Common x) w v h = ap (arrived o) h
  world_same (Finding side r) w v h = before_same r w v h
  world_same (Summing side r) w v h = before_same r w v h
  world_same (Starting r) w v h = before_same r w v h
  world_same (Naming r) w v h = before_same r w v h
  world_same (Spotting r) w v h = before_same r w v h
  world_same (Pointing r) w v h = before_same r w v h
  world_same (Converting side r e ty at) w v h = before_same r w v h.0
  world_same (Holding side r x a) w v h = before_same r w v h.before
  world_same (StartingBehind r x a) w v h = before_same r w v h.before
  world_same (NamingBehind r x a) w v h = before_same r w v h.before
  world_same (SpottingBehind r x a) w v h = before_same r w v h.before
  world_same (PointingBehind r x a) w v h = before_same r w v h.before
  world_same (Summed side r t j) w v h = ap (arrived o) h.same
  world_same (Reached side r t j) w v h = ap (arrived o) h.same
  world_same (Fetching side r t j) w v h = ap (arrived o) h.same
  world_same (Fetched side r j byte) w v h = ap (arrived o) h.1

  world_at : (P : Place) (c : CopyOf) (k : List Pending) (n : Memory) (v : World Byte) → (made_at p P c k n v).world ≡ v
  world_at (Common x) c k n v = refl
  world_at (Finding side r) c k n v = refl
  world_at (Summing side r) c k n v = refl
  world_at (Starting r) c k n v = refl
  world_at (Naming r) c k n v = refl
  world_at (Spotting r) c k n v = refl
  world_at (Pointing r) c k n v = refl
  world_at (Converting side r e ty at) c k n v = refl
  world_at (Holding side r x a) c k n v = refl
  world_at (StartingBehind r x a) c k n v = refl
  world_at (NamingBehind r x a) c k n v = refl
  world_at (SpottingBehind r x a) c k n v = refl
  world_at (PointingBehind r x a) c k n v = refl
  world_at (Summed side r t j) c k n v = refl
  world_at (Reached side r t j) c k n v = refl
  world_at (Fetching side r t j) c k n v = refl
  world_at (Fetched side r j byte) c k n v = refl

  worlds : (t v : State) → Stand p o t v → arrived o v.world ≡ arrived o t.world
  worlds t v d = ap (λ (y : State). arrived o y.world) d.is ∙ ap (arrived o) (world_at d.place t.copy _ d.memory d.world) ∙ world_same d.place t.world d.world d.holds

  -- ---- the start
  same_memory : Agree p (first_memory p) (first_memory q)
  same_memory (Fixed n) at own = refl
  same_memory (Variable c n) at own = refl

  first_stands : Stand p o (start s) (start g)
  unfolding start given made AreLinks
  first_stands =
      let there = (sound_runs p sound.sound sound.roots sound.numbers).main_there in
      record {
        place = Common control.Past;
        links = Plain (Before (function_at p (main_of p)).body) ∷ [];
        memory = first_memory q;
        world = world_at_start;
        focus = refl;
        stack = refl;
        is = ap (λ f. state (copy_of Main f) control.Past (Before (function_at q f).body ∷ []) (first_memory q) world_at_start) mk.main
            ∙ ap (λ (f : FunctionTree). state (copy_of Main (main_of p)) control.Past (Before f.body ∷ []) (first_memory q) world_at_start) (mk.functions (main_of p) there);
        small = there;
        agree = same_memory;
        proper = (tt, tt);
        holds = refl;
      }

  stands_at : (n : ℕ) → Stands p (moment s n)
  stands_at n = (moments s sound bytes n).0

  module _ (n : ℕ) (defined : IsDefined s n) where
    record Found (i : ℕ) : Type 0 where
      count : ℕ
      stands : i ≤ n → Stand p o (moment s i) (moment g count)

    record Next (i : ℕ) (f : Found i) : Type 0 where
      found : Found (suc i)
      rise : (f.count ≤ found.count) × (found.count ≤ f.count + 18)
      goes : (k : ℕ) → f.count ≤ k → k < found.count → is_none (fault_of (step g (moment g k))) ≡ true
      least : i < n → steps_by s (suc i) + steps_by g f.count ≤ steps_by g found.count + steps_by s i
      most : i < n → steps_by g found.count + 4 * steps_by s i ≤ steps_by g f.count + 4 * steps_by s (suc i)

    goes_next : (i : ℕ) (f : Found i) → i < n → (u : State) (event : Option (Happening Byte)) → step s (moment s i) ≡ Went u event → Next i f
    unfolding run steps_by
    goes_next i f lt u event e =
        let l = led p rows fs mk o sound (moment s i) u (moment g f.count) event (f.stands (omega arith)) (stands_at i) e in
        let few = l.few in
        let w = way_walked g p f.count l.count l.counted (moment g f.count) l.place refl l.way in
        let own = w.counted in
        let b = by (counts s (moment s i)) refl l.counted l.some l.none in
        let here : steps_by s (suc i) ≡ steps_by s i + one_if (counts s (moment s i)) = ap (λ o. steps_by s i + one_if (counts s (moment s i) && is_taken o)) e ∙ ap (λ b. steps_by s i + one_if b) (and_true s (counts s (moment s i))) in
        record {
          found = record { count = f.count + l.count; stands = λ le. subst (λ y. Stand p o y (moment g (f.count + l.count))) (sym (ap (gone (moment s i)) e)) (subst (Stand p o u) (sym w.comes) l.stands) };
          rise = (omega arith, omega arith);
          goes = λ k ge lt. let z : k ≡ f.count + (k - f.count) = omega arith in ap (λ j. is_none (fault_of (step g (moment g j)))) z ∙ w.goes (k - f.count) (omega arith);
          least = λ lt. let x = b.0 in omega arith;
          most = λ lt. let x = b.1 in omega arith;
        }
      where
        by : (b : Bool) → counts s (moment s i) ≡ b → (m : ℕ) → (counts s (moment s i) ≡ true → (1 ≤ m) × (m ≤ 4)) → (counts s (moment s i) ≡ false → m ≡ 0) → (one_if (counts s (moment s i)) ≤ m) × (m ≤ 4 * one_if (counts s (moment s i)))
        by true h m x y = let a = x h in let b = a.0 in let c = a.1 in let d = ap one_if h in (omega arith, omega arith)
        by false h m x y = let a = y h in let d = ap one_if h in (omega arith, omega arith)

    -- it stays as it is
    stays_next : (i : ℕ) (f : Found i) → (i < n → moment s (suc i) ≡ moment s i) → (i < n → steps_by s (suc i) ≡ steps_by s i) → Next i f
    stays_next i f same none = record {
      found = record { count = f.count; stands = λ le. subst (λ y. Stand p o y (moment g f.count)) (sym (same (omega arith))) (f.stands (omega arith)) };
      rise = (omega arith, omega arith);
      goes = λ k ge lt. absurd (omega arith);
      least = λ lt. let e = none lt in omega arith;
      most = λ lt. let e = none lt in omega arith;
    }

    and_false : (b : Bool) → (b && false) ≡ false
    and_false true = refl
    and_false false = refl

    next_by : (i : ℕ) (f : Found i) → i < n → (x : Outcome) → step s (moment s i) ≡ x → is_none (fault_of x) ≡ true → Next i f
    unfolding run steps_by
    next_by i f lt (Went u event) e d = goes_next i f lt u event e
    next_by i f lt (Undefined kind line) e d = absurd (false≢true d)
    next_by i f lt Idle e d =
        stays_next i f (λ l. ap (gone (moment s i)) e)
        (λ l. ap (λ o. steps_by s i + one_if (counts s (moment s i) && is_taken o)) e ∙ ap (λ b. steps_by s i + one_if b) (and_false (counts s (moment s i))) ∙ (let z : steps_by s i + 0 ≡ steps_by s i = omega arith in z))
    next_by i f lt Lost e d = absurd (subst (Keeps p) e (moments s sound bytes i).1)

    next : (i : ℕ) (f : Found i) → Next i f
    next i f = ⊎_elim (λ lt. next_by i f lt (step s (moment s i)) refl (defined i lt)) (λ ge. stays_next i f (λ lt. absurd (omega arith)) (λ lt. absurd (omega arith))) (cases_lt i n)

    unfoldable found : (i : ℕ) → Found i
    unfolding run
    found zero = record { count = 0; stands = λ le. first_stands }
    found (suc i) = (next i (found i)).found

    goes_below : (i k : ℕ) → k < (found i).count → is_none (fault_of (step g (moment g k))) ≡ true
    unfolding found
    goes_below zero k lt = absurd (omega arith)
    goes_below (suc i) k lt = ⊎_elim (λ l. goes_below i k l) (λ ge. (next i (found i)).goes k ge lt) (cases_lt k (found i).count)

    idle_is : (x : Outcome) → is_idle x ≡ true → x ≡ Idle
    idle_is (Went u event) e = absurd (false≢true e)
    idle_is (Undefined kind line) e = absurd (false≢true e)
    idle_is Idle e = refl
    idle_is Lost e = absurd (false≢true e)

    -- the same of any program that is made so
    pub record Followed : Type 0 where
      pub at : ℕ → ℕ
      pub starts : at 0 ≡ 0
      pub rises : (i : ℕ) → i < n → (at i ≤ at (suc i)) × (at (suc i) ≤ at i + 18)
      pub stands : (i : ℕ) → i ≤ n → Stand p o (moment s i) (moment g (at i))
      pub trace : (i : ℕ) → i ≤ n → (moment g (at i)).world.trace ≡ (moment s i).world.trace
      pub world : (i : ℕ) → i ≤ n → arrived o (moment g (at i)).world ≡ arrived o (moment s i).world
      pub goes : IsDefined g (at n)
      pub least : (i : ℕ) → i < n → steps_by s (suc i) + steps_by g (at i) ≤ steps_by g (at (suc i)) + steps_by s i
      pub most : (i : ℕ) → i < n → steps_by g (at (suc i)) + 4 * steps_by s i ≤ steps_by g (at i) + 4 * steps_by s (suc i)
      pub rests : is_idle (step s (moment s n)) ≡ true → is_idle (step g (moment g (at n))) ≡ true

    pub followed : Followed
    unfolding found
    followed = record {
      at = λ i. (found i).count;
      starts = refl;
      rises = λ i lt. (next i (found i)).rise;
      stands = λ i le. (found i).stands le;
      trace = λ i le. let e = worlds (moment s i) (moment g (found i).count) ((found i).stands le) in sym (arrived_trace o (moment g (found i).count).world) ∙ ap (λ (w : World Byte). w.trace) e ∙ arrived_trace o (moment s i).world;
      world = λ i le. worlds (moment s i) (moment g (found i).count) ((found i).stands le);
      goes = λ k lt. goes_below n k lt;
      least = λ i lt. (next i (found i)).least lt;
      most = λ i lt. (next i (found i)).most lt;
      rests = λ e. ap is_idle (rests_too p rows fs mk o sound (moment s n) (moment g (found n).count) ((found n).stands (omega arith)) (stands_at n) (idle_is (step s (moment s n)) e));
    }
