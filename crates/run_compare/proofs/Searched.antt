-- The search, one arrival after the other, and its answer.
use Rattle.std.proofs.Common.{◌≡◌, ◌≤◌, ◌<◌, inl, inr, ⊎_elim, ℕ, suc, ◌+◌, ◌-◌, ◌*◌, Bool, true, false, nat_lt, Option, Some, None, IfNone, IfOk, Result, Ok, Err, is_some, List, [], ◌∷◌, ◌++◌, length, take, slice_index, slice_index_or, refl, sym, ap, ◌∙◌, subst, arith}
use Rattle.std.proofs.lemmas.Bool.{cases_lt}
use Rattle.std.proofs.lemmas.List.{get_or_default, take_more}
use Rattle.std.specs.Prelude.{if◌then◌else◌}
use Rattle.c_typed.specs.TreeNodes.{nodes_of}
use Rattle.c_typed.specs.Trees.{Program}
use Rattle.call_graph.specs.declared.types.FnCopy.{FnCopy}
use Rattle.headline.specs.SourceOf.{setting_of}
use Rattle.pic_chip.specs.Run.{Setting}
use Rattle.pic_map.specs.MapContent.{MapContent}
use Rattle.pic_world.specs.Arrivals.{IsRising, arriving}
use Rattle.pic_world.specs.World.{Outside, outside_of}
use Rattle.pic_world.specs.declared.Arrival.{Arrival}
use Rattle.pic_world.specs.declared.Flag.TheVariants.{Rbif}
use Rattle.pic_world.specs.declared.script.Script.{Script}
use Rattle.run_compare.proofs.Arrived.{before_at, before_next, off_count, off_few, rising_take, same_schedule, upto_more, upto_past, upto_short}
use Rattle.run_compare.proofs.Segments.{Told, clean, is_given, told, under_taken}
use Rattle.run_compare.specs.Agreement.{IsEnd, Meets, run_under}
use Rattle.run_compare.specs.Looking.{IsEndOf, IsRun, Looked, MeetsFault, Met, fault_in}
use Rattle.run_compare.specs.Searching.{Answers, Found, IsArrivalAt, IsDefinedTo, IsOffOf, IsRunBy, IsSearched, MayBeRunBy, Ran, RanBy, upto}
use Rattle.run_compare.specs.declared.searching.Search.{Search}
use Rattle.run_compare.specs.declared.source_run.Fault.{Fault}
use Rattle.run_compare.specs.declared.source_run.SourceRun.{SourceRun}
use Rattle.schedule.specs.Off.{lengths_before, read_off}
use Rattle.schedule.specs.Watching.{traces}
use Rattle.schedule.specs.declared.off.Off.{Off}
use Rattle.src_machine.specs.Steps.{IsGiven}
use Rattle.src_memory.specs.Seen.{outside_by}
use Rattle.src_rules.specs.Runs.{Fault as Faults}
use Rattle.src_values.specs.Memory.{Setting as SourceSetting}

any : Arrival
any = record { t = 0; flag = Rbif }

back_one : (n : ℕ) → 0 < n → suc (n - 1) ≡ n
back_one n l = omega (arith, l)

same_outside : (xs zs : List ℕ) (ys us : List Arrival) → xs ≡ zs → ys ≡ us → outside_of xs ys ≡ outside_of zs us
same_outside xs zs ys us e d = ap (λ x. outside_of x ys) e ∙ ap (outside_of zs) d

module _ (p : Program) (copies : List FnCopy) (content : MapContent) (g : Setting) (off : Off) (given : IsOffOf p g off) where
  abbrev lengths : List Arrival
  lengths = off.by_length.arrivals.items

  abbrev most : ℕ
  most = (off.moment + 1) * nodes_of p

  pub begins : (search : Search) → search.earlier.arrivals.items ≡ [] → search.earlier.input.items ≡ off.by_length.input.items → search.known ≡ None → search.seen ≡ 0 → search.moments ≡ 0
      → IsSearched p copies content g off 0 search
  begins search earlier input known seen moments = record {
    earlier = earlier;
    input = input;
    known = subst (MayBeRunBy p content (outside_by search.earlier)) (sym known) tt;
    within = omega (arith, seen);
    seen = omega arith;
    moments = moments;
    clean = λ m l. absurd (omega (arith, l, seen));
  }

  -- ---- an arrival that is taken
  all_count : upto off.moment g.arrivals ≡ length lengths
  all_count = sym (off_count (traces g) off.moment g.arrivals) ∙ ap length (sym given.lengths)

  is_there : (taken : ℕ) → taken < length lengths → taken < length g.arrivals
  is_there taken l = let a = off_few (traces g) off.moment g.arrivals in let b = ap length given.lengths in omega (arith, a, b, l)

  comes_within : (taken moment : ℕ) → taken < length lengths → IsArrivalAt g taken moment → moment ≤ off.moment
  comes_within taken moment l is =
      let t = is any (is_there taken l) in
      ⊎_elim (λ late. let u = upto_short off.moment 0 g.arrivals taken any given.rising (is_there taken l) (omega (arith, late, t)) in let c = all_count in absurd (omega (arith, u, c, l))) (λ h. h)
      (cases_lt off.moment moment)

  module _ (taken moment : ℕ) (l : taken < length lengths) (is : IsArrivalAt g taken moment) where
    abbrev time : ℕ
    time = (slice_index_or g.arrivals taken any).t

    time_is : time ≡ moment
    time_is = is any (is_there taken l)

    pub took : (old new : Search) (a : Arrival) (b : Bool) → IsSearched p copies content g off taken old → moment ≤ old.seen → a ≡ slice_index_or lengths taken a → b ≡ nat_lt 0 moment
        → new.earlier.arrivals.items ≡ old.earlier.arrivals.items ++ a ∷ [] → new.earlier.input ≡ old.earlier.input
        → (MayBeRunBy p content (outside_by old.earlier) old.known → MayBeRunBy p content (outside_by new.earlier) new.known)
        → new.seen ≡ old.seen → new.moments ≡ old.moments + (if b then 1 else 0) → IsSearched p copies content g off (taken + 1) new
    took old new a b h met value behind earlier input known seen moments =
        let z : taken + 1 ≡ suc taken = omega arith in
        let w = comes_within taken moment l is in
        let t = time_is in record {
          earlier = earlier ∙ (ap (λ xs. xs ++ a ∷ []) h.earlier ∙ (ap (λ x. take taken lengths ++ x ∷ []) value ∙ sym (take_more lengths taken a l)));
          input = ap (λ v. v.items) input ∙ h.input;
          known = known h.known;
          within = let i = h.within in omega (arith, i, seen);
          seen = let u = upto_past new.seen 0 g.arrivals taken any given.rising (is_there taken l) (omega (arith, t, met, seen)) in omega (arith, u);
          moments =
              moments ∙ (ap (λ n. n + (if b then 1 else 0)) h.moments
              ∙ (ap (λ c. length (lengths_before (traces g) off.moment (take taken g.arrivals)) + (if c then 1 else 0)) (behind ∙ ap (nat_lt 0) (sym time_is))
              ∙ (sym (before_next (traces g) off.moment taken g.arrivals any (is_there taken l) (omega (arith, t, w))) ∙ ap (λ n. length (lengths_before (traces g) off.moment (take n g.arrivals))) (sym z))));
          clean = λ m k. h.clean m (omega (arith, k, seen));
        }

    -- ---- the moments before an arrival
    module _ (old new : Search) (run : SourceRun) (events : ℕ) (h : IsSearched p copies content g off taken old) (earlier : new.earlier ≡ old.earlier) (stored : new.known ≡ Some run) (seen : new.seen ≡ moment) (moments : new.moments ≡ old.moments)
        (later : old.seen < moment) (value : events ≡ slice_index off.before.items old.moments) where
      abbrev last : ℕ
      last = moment - 1

      abbrev here : SourceSetting
      here = setting_of p (outside_of g.inputs (take taken lengths))

      counts : (m : ℕ) → old.seen ≤ m → m ≤ last → upto m g.arrivals ≡ taken
      counts m from to =
          let t = time_is in
          let a = upto_more old.seen m g.arrivals from in
          let b = h.seen in
          let c = upto_short m 0 g.arrivals taken any given.rising (is_there taken l) (omega (arith, t, to, later)) in
          omega (arith, a, b, c)

      last_within : last ≤ off.moment
      last_within = let w = comes_within taken moment l is in omega (arith, w)

      here_outside : outside_of g.inputs (take taken lengths) ≡ outside_by old.earlier
      here_outside = same_outside g.inputs old.earlier.input.items (take taken lengths) old.earlier.arrivals.items (sym (h.input ∙ given.input)) (sym h.earlier)

      events_are : events ≡ length (traces g last)
      events_are =
          let t = time_is in
          let w = comes_within taken moment l is in
          value ∙ (ap (λ n. slice_index off.before.items n) h.moments ∙ (ap (λ xs. slice_index xs (length (lengths_before (traces g) off.moment (take taken g.arrivals)))) given.before
          ∙ (before_at (traces g) off.moment taken g.arrivals any (is_there taken l) (omega (arith, t, later)) (omega (arith, t, w)) ∙ ap (λ k. length (traces g (k - 1))) t)))

      by_found : (found : Option Fault) → (found ≡ None → IsRunBy p content (outside_by old.earlier) run) → Told p copies content g off given last found → Found p copies content g off taken found new
      by_found None run_is all = record {
        earlier = ap (λ (e : Script). e.arrivals.items) earlier ∙ h.earlier;
        input = ap (λ (e : Script). e.input.items) earlier ∙ h.input;
        known = subst (MayBeRunBy p content (outside_by new.earlier)) (sym stored) (subst (λ e. IsRunBy p content (outside_by e) run) (sym earlier) (run_is refl));
        within = let w = comes_within taken moment l is in omega (arith, w, seen);
        seen = let a = upto_more old.seen new.seen g.arrivals (omega (arith, later, seen)) in let b = h.seen in omega (arith, a, b);
        moments = moments ∙ h.moments;
        clean = λ m k. all m (let e = back_one moment (omega (arith, later)) in omega (arith, k, seen, e));
      }
      by_found (Some fault) run_is first = first

      pub looked : (found : Option Fault) → (found ≡ None → IsRunBy p content (outside_by old.earlier) run)
          → ((s : SourceSetting) → s.program ≡ p → s.outside ≡ outside_by old.earlier → IsGiven s → length s.program.statics ≤ 65536 → Looked s ((last + 1) * nodes_of p) events found)
          → Found p copies content g off taken found new
      looked found run_is looked_is =
          by_found found run_is
          (told p copies content g off given here old.seen last (λ m from to. under_taken p copies content g off given m taken (omega (arith, to, last_within)) (counts m from to)) last_within h.clean found (omega (arith, later))
          (subst (λ n. Looked here ((last + 1) * nodes_of p) n found) events_are
          (looked_is here refl here_outside (is_given p copies content g off given (outside_of g.inputs (take taken lengths)) refl) given.statics)))

      -- as the code has it
      pub looked_by : (first : SourceRun) (found : Option Fault) (steps : ℕ) → steps ≡ (last + 1) * nodes_of p → IsRunBy p content (outside_by old.earlier) first
          → ((s : SourceSetting) (map : MapContent) → s.outside ≡ outside_by old.earlier → IsRun s map first → Looked s steps events found)
          → IfNone found ((s : SourceSetting) (map : MapContent) → s.outside ≡ outside_by old.earlier → IsRun s map first → IsRun s map run)
          → Found p copies content g off taken found new
      looked_by first found steps steps_are starts looks goes =
          looked found
          (λ none. λ s program outside is_given few. subst (λ o. IfNone o ((s : SourceSetting) (map : MapContent) → s.outside ≡ outside_by old.earlier → IsRun s map first → IsRun s map run)) none goes s content outside (starts s program outside is_given few))
          (λ s program outside is_given few. subst (λ n. Looked s n events found) steps_are (looks s content outside (starts s program outside is_given few)))

  -- ---- all arrivals are taken
  module _ (search : Search) (h : IsSearched p copies content g off (length lengths) search) where
    abbrev whole : SourceSetting
    whole = run_under p copies content g off.moment

    all_counts : (m : ℕ) → search.seen ≤ m → m ≤ off.moment → upto m g.arrivals ≡ length lengths
    all_counts m from to =
        let a = upto_more search.seen m g.arrivals from in
        let b = upto_more m off.moment g.arrivals to in
        let c = all_count in
        let d = h.seen in
        omega (arith, a, b, c, d)

    all_under : (m : ℕ) → search.seen ≤ m → m ≤ off.moment → run_under p copies content g m ≡ whole
    all_under m from to =
        under_taken p copies content g off given m (length lengths) to (all_counts m from to)
        ∙ sym (under_taken p copies content g off given off.moment (length lengths) (omega arith) all_count)

    -- what is told of the run under all arrivals
    ran_here : (found : Option Fault) → RanBy p (outside_by off.by_length) most off.events off.runs found → Ran whole most off.events off.runs found
    ran_here found ran =
        ran whole refl (same_outside g.inputs off.by_length.input.items (read_off (traces g) off.moment g.arrivals) lengths (sym given.input) (sym given.lengths))
        (is_given p copies content g off given (outside_of g.inputs (read_off (traces g) off.moment g.arrivals)) refl) given.statics

    told_here : (found : Option Fault) → Looked whole most off.events found → Told p copies content g off given off.moment found
    told_here found is = told p copies content g off given whole search.seen off.moment all_under (omega arith) h.clean found h.within (subst (λ n. Looked whole most n found) given.events is)

    is_clean : Looked whole most off.events None → (n : ℕ) → n ≤ off.moment → (m : ℕ) → m ≤ n → IsDefinedTo p copies content g m
    is_clean is n to m le = told_here None is m (omega (arith, le, to))

    end_is : (k : ℕ) → IsEnd p copies content g off.moment k → IsEndOf whole most off.runs k
    end_is k e = subst (λ r. IsEndOf whole most r k) (sym given.runs) e

    end_of : (k : ℕ) → IsEndOf whole most off.runs k → IsEnd p copies content g off.moment k
    end_of k e = subst (λ r. IsEndOf whole most r k) given.runs e

    meets : (fault : Faults) → MeetsFault whole most off.runs fault → Meets p copies content g off.moment fault
    meets fault m = record { step = m.step; going = λ k le e. m.going k le (end_is k e); is = m.is }

    met : (fault : Faults) → Meets p copies content g off.moment fault → MeetsFault whole most off.runs fault
    met fault m = record { step = m.step; going = λ k le e. m.going k le (end_of k e); is = m.is }

    answer_for : (found : Option Fault) → Ran whole most off.events off.runs found → Answers p copies content g off.moment found
    answer_for None ran = (clean p copies content g off given off.moment (is_clean ran.0 off.moment (omega arith)), λ fault m. ran.1 fault (met fault m))
    answer_for (Some fault) ran =
        ⊎_elim (λ first. inl (told_here (Some fault) first))
        (λ later. inr (clean p copies content g off given off.moment (is_clean later.0 off.moment (omega arith)), meets (fault_in fault) later.1)) ran

    pub answers : (found : Option Fault) → RanBy p (outside_by off.by_length) most off.events off.runs found → Answers p copies content g off.moment found
    answers found ran = answer_for found (ran_here found ran)

-- ---- the run, where an arrival changes nothing
pub kept_run : (p : Program) (content : MapContent) (old new : Script) (known : Option SourceRun) (changes : Bool) → new.input ≡ old.input
    → (changes ≡ false → (t : ℕ) → arriving new.arrivals.items t ≡ arriving old.arrivals.items t)
    → MayBeRunBy p content (outside_by old) known → MayBeRunBy p content (outside_by new) (if changes then None else known)
kept_run p content old new known true input same is = tt
kept_run p content old new known false input same is = subst (λ o. MayBeRunBy p content o known) (sym (same_schedule old new input (same refl))) is

-- ---- as the code has it
module _ (p : Program) (copies : List FnCopy) (content : MapContent) (g : Setting) (off : Off) where
  pub found_answers : (taken : ℕ) (found : Option Fault) (search : Search) → is_some found ≡ true → Found p copies content g off taken found search → Answers p copies content g off.moment found
  found_answers taken None search some is = absurd (cc)
  found_answers taken (Some fault) search some is = inl is

pub all_answers : (p : Program) (content : MapContent) (arrivals : List Arrival) (off : Off) (search : Search) (taken : ℕ) {E : Type 0} (result : Result (Option Fault) E)
    → ((copies : List FnCopy) (g : Setting) → g.arrivals ≡ arrivals → IsOffOf p g off → IsSearched p copies content g off taken search)
    → taken ≡ length off.by_length.arrivals.items → IfOk result (λ found. RanBy p (outside_by off.by_length) ((off.moment + 1) * nodes_of p) off.events off.runs found)
    → IfOk result (λ found. (copies : List FnCopy) (g : Setting) → g.arrivals ≡ arrivals → IsOffOf p g off → Answers p copies content g off.moment found)
all_answers p content arrivals off search taken (Ok found) searched all ran = λ copies g same given.
    answers p copies content g off given search (subst (λ n. IsSearched p copies content g off n search) all (searched copies g same given)) found ran
all_answers p content arrivals off search taken (Err x) searched all ran = tt

-- what is met of a run that went on without an undefined step
pub ran_rest : (p : Program) (content : MapContent) (outside : Outside) (few_steps longest runs : ℕ) (found : Option Fault) (first next : SourceRun) → IsRunBy p content outside first
    → ((s : SourceSetting) (map : MapContent) → s.outside ≡ outside → IsRun s map first → Looked s few_steps longest None)
    → ((s : SourceSetting) (map : MapContent) → s.outside ≡ outside → IsRun s map first → IsRun s map next)
    → ((s : SourceSetting) (map : MapContent) → s.outside ≡ outside → IsRun s map next → Met s few_steps runs found)
    → RanBy p outside few_steps longest runs found
ran_rest p content outside few_steps longest runs None first next starts looks goes ends = λ s program is given few.
    let h = starts s program is given few in (looks s content is h, ends s content is (goes s content is h))
ran_rest p content outside few_steps longest runs (Some fault) first next starts looks goes ends = λ s program is given few.
    let h = starts s program is given few in inr (looks s content is h, ends s content is (goes s content is h))

pub ran_fault : (p : Program) (content : MapContent) (outside : Outside) (few_steps longest runs : ℕ) (fault : Fault) (first : SourceRun) → IsRunBy p content outside first
    → ((s : SourceSetting) (map : MapContent) → s.outside ≡ outside → IsRun s map first → Looked s few_steps longest (Some fault)) → RanBy p outside few_steps longest runs (Some fault)
ran_fault p content outside few_steps longest runs fault first starts looks = λ s program is given few. inl (looks s content is (starts s program is given few))

-- ---- the arrival of a number
pub arrival_at : (g : Setting) (xs : List Arrival) (number : ℕ) (a : Arrival) → g.arrivals ≡ xs → a ≡ slice_index_or xs number a → IsArrivalAt g number a.t
arrival_at g xs number a same value = λ b l.
    ap (λ x. x.t) (get_or_default g.arrivals number b a l ∙ (ap (λ ys. slice_index_or ys number a) same ∙ sym value))

pub none_found : (p : Program) (copies : List FnCopy) (content : MapContent) (g : Setting) (off : Off) (taken : ℕ) (found : Option Fault) (search : Search) → is_some found ≡ false
    → Found p copies content g off taken found search → IsSearched p copies content g off taken search
none_found p copies content g off taken None search none is = is
none_found p copies content g off taken (Some fault) search none is = absurd (cc)

-- ---- the next arrival, as the code has it
pub taken_more : (lengths : List Arrival) (number : ℕ) (a : Arrival) (mid old : Script) → mid ≡ old → old.arrivals.items ≡ take number lengths → a ≡ slice_index_or lengths number a → number < length lengths
    → mid.arrivals.items ++ a ∷ [] ≡ take (number + 1) lengths
taken_more lengths number a mid old same taken value l =
    ap (λ (e : Script). e.arrivals.items ++ a ∷ []) same
    ∙ (ap (λ xs. xs ++ a ∷ []) taken ∙ (ap (λ x. take number lengths ++ x ∷ []) value ∙ sym (take_more lengths number a l)))

pub rising_more : (lengths : List Arrival) (number : ℕ) (a : Arrival) (mid old : Script) → mid ≡ old → old.arrivals.items ≡ take number lengths → a ≡ slice_index_or lengths number a → number < length lengths
    → IsRising 0 lengths → IsRising 0 (mid.arrivals.items ++ a ∷ [])
rising_more lengths number a mid old same taken value l rising = subst (IsRising 0) (sym (taken_more lengths number a mid old same taken value l)) (rising_take 0 (number + 1) lengths rising)

pub few_more : (b : Bool) (n m k : ℕ) → n ≡ m + (if b then 1 else 0) → m ≤ k → n ≤ k + 1
few_more true n m k e l = omega (arith, e, l)
few_more false n m k e l = omega (arith, e, l)

module _ (p : Program) (content : MapContent) (arrivals : List Arrival) (off : Off) (number : ℕ) (l : number < length off.by_length.arrivals.items) (a : Arrival) (value : a ≡ slice_index_or arrivals number a) (old mid : Search) (found : Option Fault)
    (searched : (copies : List FnCopy) (g : Setting) → g.arrivals ≡ arrivals → IsOffOf p g off → IsSearched p copies content g off number old)
    (found_is : (copies : List FnCopy) (g : Setting) (taken : ℕ) → IsOffOf p g off → taken < length off.by_length.arrivals.items → IsArrivalAt g taken a.t → IsSearched p copies content g off taken old → Found p copies content g off taken found mid) where
  found_here : (copies : List FnCopy) (g : Setting) → g.arrivals ≡ arrivals → IsOffOf p g off → Found p copies content g off number found mid
  found_here copies g same given = found_is copies g number given l (arrival_at g arrivals number a same value) (searched copies g same given)

  pub answered : is_some found ≡ true → (copies : List FnCopy) (g : Setting) → g.arrivals ≡ arrivals → IsOffOf p g off → Answers p copies content g off.moment found
  answered some copies g same given = found_answers p copies content g off number found mid some (found_here copies g same given)

  pub goes_on : (new : Search) (next : Arrival) (b : Bool) → is_some found ≡ false → a.t ≤ mid.seen → next ≡ slice_index_or off.by_length.arrivals.items number next → b ≡ nat_lt 0 a.t
      → new.earlier.arrivals.items ≡ mid.earlier.arrivals.items ++ next ∷ [] → new.earlier.input ≡ mid.earlier.input
      → ((q : Program) (c : MapContent) → MayBeRunBy q c (outside_by mid.earlier) mid.known → MayBeRunBy q c (outside_by new.earlier) new.known)
      → new.seen ≡ mid.seen → new.moments ≡ mid.moments + (if b then 1 else 0)
      → (copies : List FnCopy) (g : Setting) → g.arrivals ≡ arrivals → IsOffOf p g off → IsSearched p copies content g off (number + 1) new
  goes_on new next b none met next_is behind earlier input known seen moments copies g same given =
      took p copies content g off given number a.t l (arrival_at g arrivals number a same value) mid new next b
      (none_found p copies content g off number found mid none (found_here copies g same given)) met next_is behind earlier input (known p content) seen moments
