-- Byte code with operators on low bytes keeps runs, and uses no other bytes.
use Rattle.std.proofs.Common.{◌≡◌, ℕ, ◌<◌, ◌≤◌, inl, inr, Bool, true, false, nat_eq, if◌then◌else◌, List, [], ◌∷◌, map, refl, sym, ap, ◌∙◌, subst, arith}
use Rattle.std.specs.Prelude.{slice_get}
use Rattle.std.specs.List.{AllZip}
use Rattle.std.proofs.lemmas.Bool.{eqb-true}
use Rattle.std.proofs.lemmas.List.{map-id}
use mathlib.Core.Path.{fun_ext}
use Rattle.pic_world.specs.World.{Outside}
use Rattle.run_links.specs.Runs.{Goes}
use Rattle.core_code.proofs.Views.{list_again}
use Rattle.core_code.specs.Bytes as bytes
use Rattle.core_code.specs.Bytes.{Held, Fixed, FrameOf}
use Rattle.core_code.specs.Machine.{Program, Setting, static_byte}
use Rattle.core_code.specs.Runs.{run_of}
use Rattle.core_code.specs.Tree as tree
use Rattle.core_code.specs.Tree.{Tree, Trees, NoTree, AndTree, list_of, trees_of}
use Rattle.core_code.specs.View.{trees_in}
use Rattle.core_code.specs.declared.code.Body.{Body}
use Rattle.core_code.specs.declared.code.CoreProgram.{CoreProgram}
use Rattle.narrow_code.proofs.Checking.{plans_are_of_code, test_is_right}
use Rattle.narrow_code.proofs.Lending.{always_open}
use Rattle.narrow_code.proofs.Places.{all_weaker, plans_use_only, retyped_free}
use Rattle.narrow_code.proofs.Whole.{narrowing_in_step, narrowing_keeps}
use Rattle.narrow_code.specs.Drafts.{all_planned}
use Rattle.narrow_code.specs.InStep.{transfer_in}
use Rattle.narrow_code.specs.Lending.{IsLending, all_lend, leads_lent}
use Rattle.narrow_code.specs.Links.{is_lent}
use Rattle.narrow_code.specs.Marks.{Marks, Same, Below}
use Rattle.narrow_code.specs.Places.{IsRetyped, HasTransfer, IsFreeOnlyWith, UsesOnly}
use Rattle.narrow_code.specs.Plans.{Plans, NoPlan, all_given, all_made, Narrowing}
use Rattle.narrow_code.specs.Right.{AllFit, IsSound}
use Rattle.narrow_pass.specs.Kept.{trees_for, code_of, with_bodies, setting_with, IsOrdered, KeepsRun, KeepsRuns, IsInPlace, InSamePlaces, IsSparing, UsesNoOther, IsAnswer}
use Rattle.narrow_pass.specs.Narrowed.{IsNarrowedBody, IsSameBody, AreNarrowed, ByPlans, Unchanged, IsNarrowed, lent_by}

-- ---- the plans of bodies
module _ (lent : ℕ → Bool) where
  plan_in : (given made : List Body) → AllZip (IsNarrowedBody lent) given made → ℕ → Plans
  plan_in [] made z c = NoPlan
  plan_in (g ∷ given) [] z c = NoPlan
  plan_in (g ∷ given) (m ∷ made) z c = if nat_eq g.copy c then all_planned (trees_for g) z.0.drafts else plan_in given made z.1 c

  given_is : (given made : List Body) (z : AllZip (IsNarrowedBody lent) given made) (c : ℕ) → list_of (all_given (plan_in given made z c)) ≡ code_of given c
  unfolding plan_in
  given_is [] made z c = refl
  given_is (g ∷ given) [] z c = absurd z
  given_is (g ∷ given) (m ∷ made) z c = by (nat_eq g.copy c) (given_is given made z.1 c) where
    by : (t : Bool) → list_of (all_given (plan_in given made z.1 c)) ≡ code_of given c
        → list_of (all_given (if t then all_planned (trees_for g) z.0.drafts else plan_in given made z.1 c)) ≡ (if t then trees_in g.code.items else code_of given c)
    by true below = ap list_of (plans_are_of_code (trees_for g) z.0.drafts) ∙ list_again (trees_in g.code.items)
    by false below = below

  made_is : (given made : List Body) (z : AllZip (IsNarrowedBody lent) given made) (c : ℕ) → list_of (all_made (plan_in given made z c)) ≡ code_of made c
  unfolding plan_in
  made_is [] [] z c = refl
  made_is [] (m ∷ made) z c = absurd z
  made_is (g ∷ given) [] z c = absurd z
  made_is (g ∷ given) (m ∷ made) z c = by (nat_eq g.copy c) (nat_eq m.copy c) (ap (λ (n : ℕ). nat_eq n c) z.0.copy) (made_is given made z.1 c) where
    by : (s t : Bool) → t ≡ s → list_of (all_made (plan_in given made z.1 c)) ≡ code_of made c
        → list_of (all_made (if s then all_planned (trees_for g) z.0.drafts else plan_in given made z.1 c)) ≡ (if t then trees_in m.code.items else code_of made c)
    by true true e below = sym z.0.code
    by false false e below = below
    by true false e below = absurd (cc)
    by false true e below = absurd (cc)

  -- each is right,
  abbrev IsRight : ℕ → Plans → Type 0
  IsRight c plan = (front : Marks) × (after : Marks) × Below c front (λ byte. Same) × AllFit lent c [] front plan after

  none_right : (c : ℕ) → IsRight c NoPlan
  none_right c = ((λ byte. Same), (λ byte. Same), (λ copy offset e. refl), (λ copy offset e. refl))

  body_right : (g m : Body) (is : IsNarrowedBody lent g m) → IsRight g.copy (all_planned (trees_for g) is.drafts)
  body_right g m is = let fits = test_is_right lent g.copy is.size (trees_for g) is.drafts is.after is.passes in (_, _, fits.0, fits.1)

  all_right : (given made : List Body) (z : AllZip (IsNarrowedBody lent) given made) (c : ℕ) → IsRight c (plan_in given made z c)
  unfolding plan_in
  all_right [] made z c = none_right c
  all_right (g ∷ given) [] z c = absurd z
  all_right (g ∷ given) (m ∷ made) z c = by (nat_eq g.copy c) refl (all_right given made z.1 c) where
    by : (t : Bool) → nat_eq g.copy c ≡ t → IsRight c (plan_in given made z.1 c) → IsRight c (if t then all_planned (trees_for g) z.0.drafts else plan_in given made z.1 c)
    by true e below = subst (λ n. IsRight n (all_planned (trees_for g) z.0.drafts)) (eqb-true g.copy c e) (body_right g m z.0)
    by false e below = below

  -- and takes addresses of static objects and such frames alone
  all_lending : (given made : List Body) (z : AllZip (IsNarrowedBody lent) given made) (c : ℕ) → all_lend (is_lent lent) (all_given (plan_in given made z c)) ≡ true
  unfolding plan_in
  all_lending [] made z c = refl
  all_lending (g ∷ given) [] z c = absurd z
  all_lending (g ∷ given) (m ∷ made) z c = by (nat_eq g.copy c) (all_lending given made z.1 c) where
    by : (t : Bool) → all_lend (is_lent lent) (all_given (plan_in given made z.1 c)) ≡ true → all_lend (is_lent lent) (all_given (if t then all_planned (trees_for g) z.0.drafts else plan_in given made z.1 c)) ≡ true
    by true below = ap (all_lend (is_lent lent)) (plans_are_of_code (trees_for g) z.0.drafts) ∙ z.0.lends
    by false below = below

-- what leads to no frame leads to none but those that are lent
leads_less : (lent : ℕ → Bool) (h : Held) → leads_lent (is_lent (λ c. false)) h ≡ true → leads_lent (is_lent lent) h ≡ true
leads_less lent bytes.Unset e = refl
leads_less lent (bytes.Number n) e = refl
leads_less lent (bytes.Part (Fixed n) offset high) e = refl
leads_less lent (bytes.Part (FrameOf c) offset high) e = absurd (cc)

-- ---- runs
-- a program keeps its own runs
itself : (g : Setting) (n : ℕ) → Goes (run_of g) n → KeepsRun g g n
itself g n goes = record {
  link = record { at = λ i. i; starts = refl; rises = λ i j l m. l; goes = λ k l. goes k l; same = λ i l. sym (map-id _); fast = λ i j l m. omega arith; rests = λ rests. rests };
  slow = λ i j l m. omega arith;
  in_step = λ i l. record { world = refl; copy = refl; transfer = refl; goes = λ e. e; rests = λ e. e; most = omega arith; least = refl };
}

abbrev Keeps : Program → Program → Type 0
Keeps q r = (o : Outside) (n : ℕ) → Goes (run_of (record { program = q; outside = o })) n → KeepsRun (record { program = q; outside = o }) (record { program = r; outside = o }) n

module _ (q : Program) (ordered : IsOrdered q) where
  with_code : (ℕ → List Tree) → Program
  with_code code = record q { body = code }

  module _ (flags : List Bool) (given made : List Body) (z : AllZip (IsNarrowedBody (lent_by flags)) given made) where
    abbrev x : Narrowing
    x = record { plan = plan_in (lent_by flags) given made z; rest = q; lent = lent_by flags; rank = ordered.rank }

    x_sound : IsSound x
    x_sound = record { fits = all_right (lent_by flags) given made z; rises = ordered.rises; apart = ordered.apart }

    x_lending : IsLending x
    x_lending = record { bodies = all_lending (lent_by flags) given made z; first = λ n offset. leads_less (lent_by flags) (static_byte (slice_get q.first n) offset) (ordered.first n offset) }

    given_same : with_code (λ c. list_of (all_given (x.plan c))) ≡ with_bodies q given
    unfolding with_code
    given_same = ap with_code (fun_ext (given_is (lent_by flags) given made z))

    made_same : with_code (λ c. list_of (all_made (x.plan c))) ≡ with_bodies q made
    unfolding with_code
    made_same = ap with_code (fun_ext (made_is (lent_by flags) given made z))

    plans_keep : Keeps (with_code (λ c. list_of (all_given (x.plan c)))) (with_code (λ c. list_of (all_made (x.plan c))))
    unfolding with_code
    plans_keep o n goes =
        let open_all = always_open x x_lending o n in
        let both = narrowing_keeps x x_sound o n goes open_all in
        record { link = both.0; slow = both.1; in_step = narrowing_in_step x x_sound o n goes open_all }

    bodies_keep : Keeps (with_bodies q given) (with_bodies q made)
    bodies_keep =
        subst (λ (r : Program). Keeps r (with_bodies q made)) given_same
        (subst (λ (r : Program). Keeps (with_code (λ c. list_of (all_given (x.plan c)))) r) made_same plans_keep)

  same_code : (given made : List Body) → AllZip IsSameBody given made → (c : ℕ) → code_of given c ≡ code_of made c
  same_code [] [] z c = refl
  same_code [] (m ∷ made) z c = absurd z
  same_code (g ∷ given) [] z c = absurd z
  same_code (g ∷ given) (m ∷ made) z c = by (nat_eq g.copy c) (nat_eq m.copy c) (ap (λ (n : ℕ). nat_eq n c) z.0.copy) (same_code given made z.1 c) where
    by : (s t : Bool) → t ≡ s → code_of given c ≡ code_of made c → (if s then trees_in g.code.items else code_of given c) ≡ (if t then trees_in m.code.items else code_of made c)
    by true true e below = sym z.0.code
    by false false e below = below
    by true false e below = absurd (cc)
    by false true e below = absurd (cc)

  same_keep : (given made : List Body) → AllZip IsSameBody given made → Keeps (with_bodies q given) (with_bodies q made)
  same_keep given made z =
      subst (λ (code : ℕ → List Tree). Keeps (with_bodies q given) (record q { body = code })) (fun_ext (same_code given made z)) (λ o n goes. itself (setting_with q given o) n goes)

  all_keep : (given made : List Body) → AreNarrowed given made → Keeps (with_bodies q given) (with_bodies q made)
  all_keep given made (ByPlans flags z) = bodies_keep flags given made z
  all_keep given made (Unchanged z) = same_keep given made z

pub narrowed_keeps : (given made : CoreProgram) → IsNarrowed given made → KeepsRuns given made
narrowed_keeps given made is q ordered o n goes = all_keep q ordered given.bodies.items made.bodies.items is.bodies o n goes

-- ---- code
module _ (R S : Tree → Tree → Type 0) (weaker : (t u : Tree) → R t u → S t u) where
  places_weaker : (given made : List Body) → AllZip (IsInPlace R) given made → AllZip (IsInPlace S) given made
  places_weaker [] [] z = tt
  places_weaker [] (m ∷ made) z = absurd z
  places_weaker (g ∷ given) [] z = absurd z
  places_weaker (g ∷ given) (m ∷ made) z = (record { copy = z.0.copy; root = z.0.root; code = all_weaker R S weaker (trees_for g) (trees_for m) z.0.code }, places_weaker given made z.1)

retyped_transfer : (t u : Tree) → IsRetyped t u → HasTransfer t u
retyped_transfer t u (inl same) = ap (λ (v : Tree). transfer_in v) same
retyped_transfer (tree.Binary op ty to left right) u (inr low) = ap (λ (v : Tree). transfer_in v) low.2
retyped_transfer t u (inr low) = absurd low

trees_again : (ts : Trees) → trees_of (list_of ts) ≡ ts
trees_again NoTree = refl
trees_again (AndTree t ts) = ap (λ (us : Trees). AndTree t us) (trees_again ts)

body_sparing : (lent : ℕ → Bool) (g m : Body) → IsNarrowedBody lent g m → IsSparing g m
body_sparing lent g m is = record {
  copy = is.copy;
  bytes =
      let plan = all_planned (trees_for g) is.drafts in
      let after : all_made plan ≡ trees_for m = sym (ap trees_of is.code ∙ trees_again (all_made plan)) in
      subst (λ (ts : Trees). UsesOnly ts (trees_for m)) (plans_are_of_code (trees_for g) is.drafts) (subst (λ (ts : Trees). UsesOnly (all_given plan) ts) after (plans_use_only plan));
}

all_sparing : (lent : ℕ → Bool) (given made : List Body) → AllZip (IsNarrowedBody lent) given made → AllZip IsSparing given made
all_sparing lent [] [] z = tt
all_sparing lent [] (m ∷ made) z = absurd z
all_sparing lent (g ∷ given) [] z = absurd z
all_sparing lent (g ∷ given) (m ∷ made) z = (body_sparing lent g m z.0, all_sparing lent given made z.1)

same_sparing : (g m : Body) → IsSameBody g m → IsSparing g m
same_sparing g m is = record { copy = is.copy; bytes = subst (λ (l : List Tree). UsesOnly (trees_for g) (trees_of l)) (sym is.code) (λ byte e. e) }

all_same_sparing : (given made : List Body) → AllZip IsSameBody given made → AllZip IsSparing given made
all_same_sparing [] [] z = tt
all_same_sparing [] (m ∷ made) z = absurd z
all_same_sparing (g ∷ given) [] z = absurd z
all_same_sparing (g ∷ given) (m ∷ made) z = (same_sparing g m z.0, all_same_sparing given made z.1)

bodies_sparing : (given made : List Body) → AreNarrowed given made → AllZip IsSparing given made
bodies_sparing given made (ByPlans flags z) = all_sparing (lent_by flags) given made z
bodies_sparing given made (Unchanged z) = all_same_sparing given made z

-- ---- what the calls answer
pub answer_keeps : (alone : Bool) (given made : CoreProgram) → IsAnswer alone given made → KeepsRuns given made
answer_keeps alone given made is = narrowed_keeps given made is.narrowed

pub answer_places : (given made : CoreProgram) → IsAnswer true given made → InSamePlaces IsRetyped given made
answer_places given made is = is.places refl

pub answer_transfers : (given made : CoreProgram) → IsAnswer true given made → InSamePlaces HasTransfer given made
answer_transfers given made is = places_weaker IsRetyped HasTransfer retyped_transfer given.bodies.items made.bodies.items (is.places refl)

pub answer_free : (given made : CoreProgram) → IsAnswer true given made → InSamePlaces IsFreeOnlyWith given made
answer_free given made is = places_weaker IsRetyped IsFreeOnlyWith retyped_free given.bodies.items made.bodies.items (is.places refl)

pub answer_bytes : (alone : Bool) (given made : CoreProgram) → IsAnswer alone given made → UsesNoOther given made
answer_bytes alone given made is = bodies_sparing given.bodies.items made.bodies.items is.narrowed.bodies

pub answer_narrowed : (alone : Bool) (given made : CoreProgram) → IsAnswer alone given made → IsNarrowed given made
answer_narrowed alone given made is = is.narrowed
