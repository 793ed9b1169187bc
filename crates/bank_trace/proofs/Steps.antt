-- One step of both machines, where no select is ahead; and what it costs.
use Rattle.std.proofs.Common.{◌≡◌, ℕ, ◌+◌, ◌≤◌, Bool, true, false, if◌then◌else◌, List, Option, Some, None, slice_get, refl, sym, ap, ◌∙◌, subst, arith}
use Rattle.pic_world.specs.World.{Outside, is_due}
use Rattle.core_code.specs.Cost.{context_cost}
use Rattle.sym_code.specs.Cost.{times_in, Prices, least_prices, most_prices, instruction_cost, thread_cost, step_cost_at}
use Rattle.sym_code.specs.Effect.{Setting, Thread, Memory, Rest, Effect, Stuck, effect_of, effect_if, effect_at, effect}
use Rattle.sym_code.specs.Machine.{Machine, Entry, Next, Goes, Stops, Still, running, acted, act, enter, sym_step_at}
use Rattle.sym_code.specs.Programs.{Position, fetched, is_word, lands}
use Rattle.sym_code.specs.Registers.{Registers}
use Rattle.sym_code.specs.declared.code.Sym.{Sym}
use Rattle.sym_code.specs.declared.code.Sym.TheVariants as syms
use Rattle.bank_page.specs.Links.{price_in}
use Rattle.bank_trace.proofs.Lists.{plain_at, calm_plain, never, mark_fetches}
use Rattle.bank_trace.proofs.Prices.{selects_before, selects_ahead, price_is, ahead_none}
use Rattle.bank_trace.proofs.Holding.{Bits, live}
use Rattle.bank_trace.proofs.Sites.{Site, IsSound, without, with, plain_setting, banked_setting}
use Rattle.bank_trace.proofs.Places.{under, fact_at, IsFine, AreBack, under_lands}
use Rattle.bank_trace.proofs.Twins.{Twin, plain_thread, banked_thread, IsFineTwin, Deed, Quietly, Reading, Writing, Leaving, Ending, Resting, plain_effect, banked_effect, Does, GetsStuck, Done}
use Rattle.bank_trace.proofs.Instructions.{row_does}
use Rattle.bank_trace.proofs.Joints.{Joint, plain_machine, banked_machine, IsFineJoint, running_twin, running_by, fine_running, Both, Stopped, Went, both_acted, both_enter}

-- how many selects stand before the next instruction of a thread, from where it is and in all
abbrev pub ahead_of : Site → Option Rest → Option Position → ℕ
ahead_of x (Some rest) at = 0
ahead_of x None None = 0
ahead_of x None (Some q) = selects_ahead (x.made q.block) q.index

abbrev pub before_of : Site → Option Rest → Option Position → ℕ
before_of x (Some rest) at = 0
before_of x None None = 0
before_of x None (Some q) = selects_before 0 (x.made q.block) q.index

abbrev pub plain_prices : Site → Prices
plain_prices x = most_prices (price_in x.made)

abbrev pub banked_prices : Site → Prices
banked_prices x = most_prices (times_in x.made)

-- The code without selects stops; or both rest, or both go on. With its selects, and those that were passed, the step costs no
-- more at most, and no less at least. Where both rest, no select was passed.
pub data Outcome (x : Site) (f g : Next) (most banked_most least banked_least before : ℕ) : Type 0 where
  Halted : f ≡ Stops → Outcome x f g most banked_most least banked_least before
  Rested : before ≡ 0 → f ≡ Still → g ≡ Still → banked_most + before ≤ most → least ≤ banked_least → Outcome x f g most banked_most least banked_least before
  Moved : (j : Joint) → IsFineJoint x j → f ≡ Goes (plain_machine x j) → g ≡ Goes (banked_machine j) → banked_most + before ≤ most → least ≤ banked_least → Outcome x f g most banked_most least banked_least before

outcome_of : (x : Site) (f g : Next) (most banked_most least banked_least before : ℕ) → banked_most + before ≤ most → least ≤ banked_least → Both x f g → Outcome x f g most banked_most least banked_least before
outcome_of x f g most banked_most least banked_least before p q (Stopped e) = Halted e
outcome_of x f g most banked_most least banked_least before p q (Went j h e k) = Moved j h e k p q

-- ---- costs
abbrev extra : ℕ → Deed → ℕ
extra leave Leaving = leave
extra leave d = 0

plain_cost : (x : Site) (c : Prices) (p : Position) (d : Deed) → instruction_cost c (Some p) (plain_effect x d) ≡ c.word p.block p.index + extra c.leave d
plain_cost x c p Leaving = refl
plain_cost x c p (Quietly t w) = omega arith
plain_cost x c p (Reading b next) = omega arith
plain_cost x c p (Writing b v t) = omega arith
plain_cost x c p (Ending t) = omega arith
plain_cost x c p Resting = omega arith

banked_cost : (c : Prices) (p : Position) (d : Deed) → instruction_cost c (Some p) (banked_effect d) ≡ c.word p.block p.index + extra c.leave d
banked_cost c p Leaving = refl
banked_cost c p (Quietly t w) = omega arith
banked_cost c p (Reading b next) = omega arith
banked_cost c p (Writing b v t) = omega arith
banked_cost c p (Ending t) = omega arith
banked_cost c p Resting = omega arith

-- ---- the next instruction
pub effect_some : (g : Setting) (inside : Bool) (th : Thread) (m : Memory) (p : Position) → effect_at g inside th m (Some p) ≡ effect_if g inside p th m (fetched g.program p)
effect_some g false th m p = refl
effect_some g true th m p = refl

no_word : (g : Setting) (inside : Bool) (p : Position) (th : Thread) (m : Memory) (s : Option Sym) → is_word s ≡ false → effect_if g inside p th m s ≡ Stuck
unfolding effect_of
no_word g inside p th m None e = refl
no_word g inside p th m (Some (syms.Label label)) e = refl
no_word g inside p th m (Some s) e = never (sym e)

pub stuck_stops : (g : Setting) (o : Outside) (t : Machine) (e : Effect) → e ≡ Stuck → acted g o t e ≡ Stops
unfolding acted
stuck_stops g o t e is = ap (acted g o t) is

module _ (x : Site) (sound : IsSound x) (o : Outside) (j : Joint) (fine : IsFineJoint x j) where
  -- the outcome by two effects
  abbrev ByEffects : Position → Position → ℕ → Effect → Effect → Type 0
  ByEffects p q before e f =
      Outcome x (acted (plain_setting x) o (plain_machine x j) e) (acted (banked_setting x) o (banked_machine j) f)
      (instruction_cost (plain_prices x) (Some p) e) (instruction_cost (banked_prices x) (Some q) f)
      (instruction_cost least_prices (Some p) e) (instruction_cost least_prices (Some q) f) before

  by_effects : (q : Position) → plain_at (slice_get (x.made q.block) q.index) ≡ true → (e f : Effect) → Does x e f → ByEffects (under x q) q (selects_before 0 (x.made q.block) q.index) e f
  by_effects q p e f (GetsStuck k) = Halted (stuck_stops (plain_setting x) o (plain_machine x j) e k)
  by_effects q p e f (Done d h k l n) =
      let before = selects_before 0 (x.made q.block) q.index in
      let price = price_is 0 (x.made q.block) q.index p in
      let a = plain_cost x (plain_prices x) (under x q) d in
      let b = banked_cost (banked_prices x) q d in
      let c = plain_cost x least_prices (under x q) d in
      let z = banked_cost least_prices q d in
      subst (λ (y : Effect). ByEffects (under x q) q before y f) (sym k)
      (subst (λ (y : Effect). ByEffects (under x q) q before (plain_effect x d) y) (sym l)
      (outcome_of x (acted (plain_setting x) o (plain_machine x j) (plain_effect x d)) (acted (banked_setting x) o (banked_machine j) (banked_effect d))
      (instruction_cost (plain_prices x) (Some (under x q)) (plain_effect x d)) (instruction_cost (banked_prices x) (Some q) (banked_effect d))
      (instruction_cost least_prices (Some (under x q)) (plain_effect x d)) (instruction_cost least_prices (Some q) (banked_effect d)) before
      (omega arith) (omega arith) (both_acted x o j fine d h n)))

  module _ (inside : Bool) (m : Memory) where
    -- the outcome by the threads
    abbrev ByThreads : Option Rest → ℕ → Thread → Thread → Type 0
    ByThreads rest before th tv =
        Outcome x (acted (plain_setting x) o (plain_machine x j) (effect (plain_setting x) inside th m)) (acted (banked_setting x) o (banked_machine j) (effect (banked_setting x) inside tv m))
        (thread_cost (plain_setting x) (plain_prices x) inside th m rest) (thread_cost (banked_setting x) (banked_prices x) inside tv m rest)
        (thread_cost (plain_setting x) least_prices inside th m rest) (thread_cost (banked_setting x) least_prices inside tv m rest) before

    abbrev twin : Option Rest → Option Position → List Position → Registers → Bits → Twin
    twin rest at stack r b = record { rest = rest; at = at; stack = stack; registers = r; bits = b }

    module _ (q : Position) (stack : List Position) (r : Registers) (b : Bits) (here : IsFine x q b) (open_stack : AreBack x q.block stack) where
      abbrev one : Thread
      one = plain_thread x (twin None (Some q) stack r b)

      abbrev other : Thread
      other = banked_thread (twin None (Some q) stack r b)

      effect_one : effect (plain_setting x) inside one m ≡ effect_if (plain_setting x) inside (under x q) one m (fetched (without x) (under x q))
      unfolding effect
      effect_one = effect_some (plain_setting x) inside one m (under x q)

      effect_other : effect (banked_setting x) inside other m ≡ effect_if (banked_setting x) inside q other m (fetched (with x) q)
      unfolding effect
      effect_other = effect_some (banked_setting x) inside other m q

      -- it stops where nothing stands
      pub nowhere : lands (without x) (under x q) ≡ false → effect (plain_setting x) inside one m ≡ Stuck
      nowhere e = effect_one ∙ no_word (plain_setting x) inside (under x q) one m (fetched (without x) (under x q)) e

      row_at : (s : Option Sym) → slice_get (x.made q.block) q.index ≡ s → plain_at s ≡ true → Does x (effect_if (plain_setting x) inside (under x q) one m s) (effect_if (banked_setting x) inside q other m s)
      row_at None e p = never p
      row_at (Some s) e p = let l = live x.pages (fact_at x q) b here.holds in row_does x sound q stack r b open_stack m inside l.known l.is l.holds s e p

      at_does : plain_at (slice_get (x.made q.block) q.index) ≡ true → Does x (effect (plain_setting x) inside one m) (effect (banked_setting x) inside other m)
      at_does p =
          subst (λ (e : Effect). Does x e (effect (banked_setting x) inside other m)) (sym (effect_one ∙ ap (effect_if (plain_setting x) inside (under x q) one m) (mark_fetches (x.made q.block) q.index (calm_plain (slice_get (x.made q.block) q.index) p))))
          (subst (λ (f : Effect). Does x (effect_if (plain_setting x) inside (under x q) one m (slice_get (x.made q.block) q.index)) f) (sym effect_other)
          (row_at (slice_get (x.made q.block) q.index) refl p))

      at_outcome : (c : Bool) → lands (without x) (under x q) ≡ c → selects_ahead (x.made q.block) q.index ≡ 0 → ByThreads None (selects_before 0 (x.made q.block) q.index) one other
      at_outcome false e ahead = Halted (stuck_stops (plain_setting x) o (plain_machine x j) (effect (plain_setting x) inside one m) (nowhere e))
      at_outcome true e ahead =
          let p = ahead_none (x.made q.block) q.index (under_lands x q here.settled e) ahead in
          by_effects q p (effect (plain_setting x) inside one m) (effect (banked_setting x) inside other m) (at_does p)

    -- main has ended
    ended : (th tv : Thread) (i : Bool) → Outcome x (acted (plain_setting x) o (plain_machine x j) (effect_at (plain_setting x) i th m None)) (acted (banked_setting x) o (banked_machine j) (effect_at (banked_setting x) i tv m None)) 0 0 0 0 0
    unfolding acted
    ended th tv false = Rested refl refl refl (omega arith) (omega arith)
    ended th tv true = Halted refl

    act_outcome : (rest : Option Rest) (at : Option Position) (stack : List Position) (r : Registers) (b : Bits) → IsFineTwin x (twin rest at stack r b) → ahead_of x rest at ≡ 0
        → ByThreads rest (before_of x rest at) (plain_thread x (twin rest at stack r b)) (banked_thread (twin rest at stack r b))
    unfolding effect
    act_outcome (Some w) at stack r b h ahead =
        outcome_of x _ _ 0 0 0 0 0 (omega arith) (omega arith) (both_acted x o j fine (Writing w.to w.byte (twin None at stack r b)) (record { at = h.at; stack = h.stack }) refl)
    act_outcome None None stack r b h ahead = ended (plain_thread x (twin None None stack r b)) (banked_thread (twin None None stack r b)) inside
    act_outcome None (Some q) stack r b h ahead = at_outcome q stack r b h.at h.stack (lands (without x) (under x q)) refl ahead

  -- ---- the whole step
  abbrev pub before_in : ℕ
  before_in = if is_due j.world then 0 else before_of x (running_twin j).rest (running_twin j).at

  -- the outcome by what the threads are
  abbrev ByRunning : Thread → Thread → Type 0
  ByRunning th tv =
      Outcome x (acted (plain_setting x) o (plain_machine x j) (effect (plain_setting x) j.world.inside th j.memory)) (acted (banked_setting x) o (banked_machine j) (effect (banked_setting x) j.world.inside tv j.memory))
      (thread_cost (plain_setting x) (plain_prices x) j.world.inside th j.memory th.rest) (thread_cost (banked_setting x) (banked_prices x) j.world.inside tv j.memory tv.rest)
      (thread_cost (plain_setting x) least_prices j.world.inside th j.memory th.rest) (thread_cost (banked_setting x) least_prices j.world.inside tv j.memory tv.rest)
      (before_of x (running_twin j).rest (running_twin j).at)

  running_outcome : ahead_of x (running_twin j).rest (running_twin j).at ≡ 0 → ByRunning (running (plain_machine x j)) (running (banked_machine j))
  running_outcome ahead =
      let t = running_twin j in
      subst (λ (th : Thread). ByRunning th (running (banked_machine j))) (sym (running_by (plain_thread x) j))
      (subst (λ (tv : Thread). ByRunning (plain_thread x (running_twin j)) tv) (sym (running_by banked_thread j))
      (act_outcome j.world.inside j.memory t.rest t.at t.stack t.registers t.bits (fine_running x j fine) ahead))

  pub step_outcome : (e : Entry) → (is_due j.world ≡ false → ahead_of x (running_twin j).rest (running_twin j).at ≡ 0)
      → Outcome x (sym_step_at (plain_setting x) e o (plain_machine x j)) (sym_step_at (banked_setting x) e o (banked_machine j))
      (step_cost_at (plain_setting x) (plain_prices x) (plain_machine x j)) (step_cost_at (banked_setting x) (banked_prices x) (banked_machine j))
      (step_cost_at (plain_setting x) least_prices (plain_machine x j)) (step_cost_at (banked_setting x) least_prices (banked_machine j)) before_in
  step_outcome e ready = by_due (is_due j.world) ready
    where
      by_due : (c : Bool) → (c ≡ false → ahead_of x (running_twin j).rest (running_twin j).at ≡ 0)
          → Outcome x
          (if c then enter (plain_setting x) e x.handler (plain_machine x j) else act (plain_setting x) o (plain_machine x j))
          (if c then enter (banked_setting x) e x.handler (banked_machine j) else act (banked_setting x) o (banked_machine j))
          (if c then context_cost else thread_cost (plain_setting x) (plain_prices x) j.world.inside (running (plain_machine x j)) j.memory (running (plain_machine x j)).rest)
          (if c then context_cost else thread_cost (banked_setting x) (banked_prices x) j.world.inside (running (banked_machine j)) j.memory (running (banked_machine j)).rest)
          (if c then 1 else thread_cost (plain_setting x) least_prices j.world.inside (running (plain_machine x j)) j.memory (running (plain_machine x j)).rest)
          (if c then 1 else thread_cost (banked_setting x) least_prices j.world.inside (running (banked_machine j)) j.memory (running (banked_machine j)).rest)
          (if c then 0 else before_of x (running_twin j).rest (running_twin j).at)
      by_due true ready = outcome_of x _ _ context_cost context_cost 1 1 0 (omega arith) (omega arith) (both_enter x o j fine e sound x.handler sound.entry)
      by_due false ready = running_outcome (ready refl)
