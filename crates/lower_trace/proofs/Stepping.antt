-- From the law of one micro-step of the source to its runs.
use Rattle.std.proofs.Common.{◌≡◌, ℕ, suc, ◌+◌, ◌*◌, ◌<◌, ◌≤◌, ◌⊎◌, inl, inr, Bool, true, false, ◌&&◌, map, Option, is_none, refl, sym, ap, ◌∙◌, subst, ⊎_elim, arith}
use Rattle.pic_world.specs.World.{Happening}
use Rattle.run_links.specs.Runs.{Run, Goes, Follows, IsWithin}
use Rattle.core_code.specs.Bytes.{Held}
use Rattle.core_code.specs.Machine.{Setting, Machine, core_step, core_moment, is_still}
use Rattle.core_code.specs.Runs.{run_of}
use Rattle.src_values.specs.Memory as source
use Rattle.src_values.specs.Control.{Focus, Over}
use Rattle.src_values.specs.declared.objects.Byte.{Byte}
use Rattle.src_rules.specs.Runs.{run, moment, steps_by, fault_of, is_idle, is_taken, one_if, gone}
use Rattle.src_rules.specs.State.{State, Outcome, Went, Undefined, Idle, Lost}
use Rattle.src_rules.specs.Step.{step, counts, start}
use Rattle.lower_trace.proofs.Walks.{Walk, stay}
use Rattle.lower_trace.proofs.Behind.{Advances, Laws, follows, lags}

abbrev pub is_over : Focus → Bool
is_over Over = true
is_over _ = false

-- the source as a run, with the price of a step that counts
abbrev pub run_at : ℕ → source.Setting → Run (Happening Byte)
run_at price s = record {
  trace = λ n. (moment s n).world.trace;
  goes = λ n. is_none (fault_of (step s (moment s n)));
  rests = λ n. is_idle (step s (moment s n));
  most = λ n. price * steps_by s n;
  least = λ n. 0;
}

-- Byte code goes from where it stands for one state to where it stands for the next one.
pub record Moves (s : source.Setting) (g : Setting) (Stands : State → Machine → Type 0) (words left : State → ℕ) (room nodes : ℕ) (t u : State) (c : Machine) : Type 0 where
  pub count : ℕ
  pub place : Machine
  pub most : ℕ
  pub least : ℕ
  pub walk : Walk g count c place most least
  pub stands : Stands u place
  pub paid : counts s t ≡ false → most + words u ≤ words t
  pub bought : counts s t ≡ true → most ≤ words t + room
  pub pace : left u + one_if (counts s t) ≤ left t + least * nodes
  pub quiet : counts s t ≡ false → u.world.trace ≡ t.world.trace
  pub wakes : counts s t ≡ false → is_over u.focus ≡ false

-- what byte code does where the source ends a micro-step so
abbrev pub After : source.Setting → Setting → (State → Machine → Type 0) → (State → ℕ) → (State → ℕ) → ℕ → ℕ → State → Machine → Outcome → Type 0
After s g Stands words left room nodes t c (Went u event) = Moves s g Stands words left room nodes t u c
After s g Stands words left room nodes t c (Undefined kind line) = Unit {0}
After s g Stands words left room nodes t c Idle = (is_still (core_step g c) ≡ true) × (is_over t.focus ≡ true)
After s g Stands words left room nodes t c Lost = Unit {0}

-- What has to be known of a relation between states of the source and machines.
pub record Keeps (as_event : Happening Byte → Happening Held) (s : source.Setting) (g : Setting) (Stands : State → Machine → Type 0) (words left : State → ℕ) (reserve room nodes : ℕ) : Type 0 where
  pub bounded : (t : State) (c : Machine) → Stands t c → words t ≤ reserve
  pub traces : (t : State) (c : Machine) → Stands t c → c.world.trace ≡ map as_event t.world.trace
  pub starts : Stands (start s) (core_moment g 0)
  pub few : left (start s) < nodes
  pub moves : (t : State) (c : Machine) → Stands t c → After s g Stands words left room nodes t c (step s t)

module _ (as_event : Happening Byte → Happening Held) (s : source.Setting) (g : Setting) (Stands : State → Machine → Type 0) (words left : State → ℕ) (reserve room price nodes : ℕ) (enough : reserve + room ≤ price) (keeps : Keeps as_event s g Stands words left reserve room nodes) where
  abbrev counted : ℕ → ℕ
  counted n = let t = moment s n in one_if (counts s t && is_taken (step s t))

  abbrev there : ℕ → Machine → Type 0
  there n c = Stands (moment s n) c

  abbrev words_at : ℕ → ℕ
  words_at n = words (moment s n)

  abbrev left_at : ℕ → ℕ
  left_at n = left (moment s n)

  one_or_none : (b : Bool) → (one_if b ≡ 0) ⊎ (one_if b ≡ 1)
  one_or_none true = inr refl
  one_or_none false = inl refl

  and_true : (b c : Bool) → c ≡ true → (b && c) ≡ b
  and_true true c e = e
  and_true false c e = refl

  and_no : (b c : Bool) → c ≡ false → (b && c) ≡ false
  and_no true c e = e
  and_no false c e = refl

  none_of : (b : Bool) → one_if b ≡ 0 → b ≡ false
  none_of true e = absurd (omega arith)
  none_of false e = refl

  some_of : (b : Bool) → one_if b ≡ 1 → b ≡ true
  some_of true e = refl
  some_of false e = absurd (omega arith)

  -- the source stays where it is
  stays : (n : ℕ) (c : Machine) → there n c → (o : Outcome) → step s (moment s n) ≡ o → is_taken o ≡ false → ((t : State) → gone t o ≡ t) → Advances (run_at price s) g counted words_at left_at room nodes there n c
  unfolding run
  stays n c h o e d keep =
      let same : moment s (suc n) ≡ moment s n = ap (gone (moment s n)) e ∙ keep (moment s n) in
      let zero_counted : counted n ≡ 0 = ap one_if (and_no (counts s (moment s n)) (is_taken (step s (moment s n))) (ap is_taken e ∙ d)) in
      let w = ap words same in
      let l = ap left same in
      record {
        count = 0;
        place = c;
        most = 0;
        least = 0;
        walk = stay g c;
        stands = subst (λ t. Stands t c) (sym same) h;
        paid = λ q. omega arith;
        bought = λ q. absurd (omega arith);
        pace = omega arith;
        quiet = λ q. ap (λ t. t.world.trace) same;
        sleeps = λ r. inr (refl, sym (ap (λ t. is_idle (step s t)) same) ∙ r);
      }

  -- it can't rest behind a step that doesn't count
  asleep : (u : State) (c : Machine) (o : Outcome) → is_idle o ≡ true → After s g Stands words left room nodes u c o → is_over u.focus ≡ false → ⊥
  asleep u c (Went v event) e a f = cc
  asleep u c (Undefined kind line) e a f = cc
  asleep u c Idle e a f = let q = a.1 in cc
  asleep u c Lost e a f = cc

  went : (n : ℕ) (c : Machine) → there n c → (u : State) (event : Option (Happening Byte)) → step s (moment s n) ≡ Went u event → Moves s g Stands words left room nodes (moment s n) u c → Advances (run_at price s) g counted words_at left_at room nodes there n c
  unfolding run
  went n c h u event e x =
      let same : moment s (suc n) ≡ u = ap (gone (moment s n)) e in
      let is : (counts s (moment s n) && is_taken (step s (moment s n))) ≡ counts s (moment s n) = and_true (counts s (moment s n)) (is_taken (step s (moment s n))) (ap is_taken e) in
      let k : counted n ≡ one_if (counts s (moment s n)) = ap one_if is in
      let w = ap words same in
      let l = ap left same in
      let xp = x.pace in
      record {
        count = x.count;
        place = x.place;
        most = x.most;
        least = x.least;
        walk = x.walk;
        stands = subst (λ t. Stands t x.place) (sym same) x.stands;
        paid = λ q. let y = x.paid (none_of (counts s (moment s n)) (sym k ∙ q)) in omega arith;
        bought = λ q. x.bought (some_of (counts s (moment s n)) (sym k ∙ q));
        pace = omega arith;
        quiet = λ q. ap (λ t. t.world.trace) same ∙ x.quiet (none_of (counts s (moment s n)) (sym k ∙ q));
        sleeps = λ r.
            ⊎_elim (λ zero_counted. absurd (asleep u x.place (step s u) (sym (ap (λ t. is_idle (step s t)) same) ∙ r) (keeps.moves u x.place x.stands) (x.wakes (none_of (counts s (moment s n)) (sym k ∙ zero_counted)))))
            (λ one. inl one)
            (one_or_none (counts s (moment s n) && is_taken (step s (moment s n))));
      }

  advance : (n : ℕ) (c : Machine) → there n c → (o : Outcome) → step s (moment s n) ≡ o → is_none (fault_of o) ≡ true → After s g Stands words left room nodes (moment s n) c o → Advances (run_at price s) g counted words_at left_at room nodes there n c
  advance n c h (Went u event) e d a = went n c h u event e a
  advance n c h (Undefined kind line) e d a = absurd (cc)
  advance n c h Idle e d a = stays n c h Idle e refl (λ t. refl)
  advance n c h Lost e d a = stays n c h Lost e refl (λ t. refl)

  idles : (t : State) (c : Machine) (o : Outcome) → is_idle o ≡ true → After s g Stands words left room nodes t c o → is_still (core_step g c) ≡ true
  idles t c (Went u event) e a = absurd (cc)
  idles t c (Undefined kind line) e a = absurd (cc)
  idles t c Idle e a = a.0
  idles t c Lost e a = absurd (cc)

  pub laws : Laws as_event (run_at price s) g (steps_by s) counted words_at left_at reserve room price nodes there
  unfolding steps_by run
  laws = record {
    none = refl;
    more = λ n. refl;
    counts = λ n. let t = moment s n in one_or_none (counts s t && is_taken (step s t));
    costs = λ n. refl;
    enough = enough;
    bounded = λ n c h. keeps.bounded (moment s n) c h;
    traces = λ n c h. keeps.traces (moment s n) c h;
    starts = keeps.starts;
    few = keeps.few;
    idle = λ n c h r. idles (moment s n) c (step s (moment s n)) r (keeps.moves (moment s n) c h);
    advances = λ n d c h. advance n c h (step s (moment s n)) refl d (keeps.moves (moment s n) c h);
  }

  pub following : (n : ℕ) → Goes (run_at price s) n → (link : Follows as_event (run_at price s) (run_of g) n) × IsWithin (run_of g) nodes (steps_by s n) (link.at n)
  following n d = (
    follows as_event (run_at price s) g (steps_by s) counted words_at left_at reserve room price nodes there laws n d,
    lags as_event (run_at price s) g (steps_by s) counted words_at left_at reserve room price nodes there laws n d,
  )
