-- Steps that copy a byte, and those through pointers and on bits of device registers.
use Rattle.std.proofs.Common.{◌≡◌, ℕ, zero, suc, ◌+◌, ◌<◌, ◌%◌, Bool, true, false, ◌&&◌, nat_eq, nat_lt, if◌then◌else◌, List, [], ◌∷◌, Option, Some, None, refl, sym, ap, ◌∙◌, subst, arith}
use Rattle.std.proofs.lemmas.Bool.{true≢false, and_parts, eqb-true}
use Rattle.pic_world.specs.Bits.{bit}
use Rattle.pic_world.specs.World.{Outside, World, ReadOf, device_value}
use Rattle.pic_world.specs.declared.Cell.TheVariants as cells
use Rattle.core_code.specs.Bytes.{Held, Unset, Object, Fixed, FrameOf, Place, Memory, byte_in, behind, same_byte, is_private, with_byte}
use Rattle.core_code.specs.Bytes as bytes
use Rattle.core_code.specs.Machine as task
use Rattle.core_code.specs.Machine.{Task, Waiting, Next, Stuck, Program, goes, when, is_over, running, callers, waiting, lives_in, is_own, is_valid, is_reached, held_at, after_read, after_write, memory_with, written, put, copy, loading, storing, load, store, load_from, store_to, with_bit, has_bit, bit_read, bit_write, may_hold}
use Rattle.core_code.specs.Values.{pointer_in}
use Rattle.core_code.specs.declared.code.Byte.{Byte}
use Rattle.core_code.specs.declared.code.Byte.TheVariants.{Static, Frame, Result, Device}
use Rattle.narrow_code.specs.Marks.{Mark, Numbers, Same, Marks, Holds, is_same, marked, marked_on, own_mark, agree, Below}
use Rattle.narrow_code.specs.Plans.{Narrowing, given_program, made_program, given_setting, made_setting}
use Rattle.narrow_code.specs.Right.{IsSound}
use Rattle.narrow_code.specs.Links.{is_lent}
use Rattle.narrow_code.proofs.Memory.{Alike, off_refl, lower, lower_refl, own_holds, read_same, pointer_same}
use Rattle.narrow_code.proofs.Relation as relation
use Rattle.narrow_code.proofs.Relation.{Job, ToPut, ToPutBit, ToPutBack, ToJoin, ToLoad, ToStore, Hold, HoldLoop, HoldCall, HoldHandler, one, other, ones, others, one_stack, other_stack, loops_of, Runs, Weak, Outcome, Halts, when_same, when_both}
use Rattle.narrow_code.proofs.Steps.{own_same, valid_same, Scene, q, r, loops, go_on, go_same, write_step, put_step}

bit_small : (x b : ℕ) → bit x b < 256
bit_small x b = omega arith

-- ---- what both programs have
module _ (x : Narrowing) where
  -- reads of a byte that is the same
  pub held_same : (o : Outside) (b : Byte) (m l : Memory) (w : World Held) → m b ≡ l b → held_at (given_setting x o) b m w ≡ held_at (made_setting x o) b l w
  unfolding held_at
  held_same o (Static n i) m l w e = e
  held_same o (Frame c i) m l w e = e
  held_same o (Result k i) m l w e = e
  held_same o (Device a) m l w e = refl

  pub world_same : (o : Outside) (b : Byte) (m l : Memory) (w : World Held) → m b ≡ l b → after_read (given_setting x o) b m w ≡ after_read (made_setting x o) b l w
  unfolding after_read
  world_same o (Static n i) m l w e = ap (λ (h : Held). task.noting_if (x.rest.is_watched n) (ReadOf (cells.Static n i) h) w) e
  world_same o (Frame c i) m l w e = refl
  world_same o (Result k i) m l w e = refl
  world_same o (Device a) m l w e = refl

  over_same : (js : List Job) → is_over (ones js) ≡ is_over (others js)
  over_same [] = refl
  over_same (relation.ToDo before with t ∷ js) = refl
  over_same (ToPut to held ∷ js) = refl
  over_same (ToPutBit to value ∷ js) = refl
  over_same (ToPutBack register value ∷ js) = refl
  over_same (ToJoin ∷ js) = refl
  over_same (ToLoad to object offset n ∷ js) = refl
  over_same (ToStore object offset from n ∷ js) = refl
  over_same (relation.ToRead bytes ∷ js) = refl
  over_same (relation.ToEnd ∷ js) = refl

  pub callers_same : (s : List Hold) → callers (one_stack s) ≡ callers (other_stack s)
  callers_same [] = refl
  callers_same (HoldLoop front behind body js ∷ s) = callers_same s
  callers_same (HoldCall p js ∷ s) = ap (λ (c : List ℕ). p ∷ c) (callers_same s)
  callers_same (HoldHandler p a js ∷ s) = refl

  pub waiting_same : (s : List Hold) → waiting (one_stack s) ≡ waiting (other_stack s)
  waiting_same [] = refl
  waiting_same (HoldLoop front behind body js ∷ s) = waiting_same s
  waiting_same (HoldCall p js ∷ s) = ap (λ (c : List ℕ). p ∷ c) (waiting_same s)
  waiting_same (HoldHandler p a js ∷ s) = ap (λ (t : Bool). if t then waiting (one_stack s) else p ∷ waiting (one_stack s)) (over_same js) ∙ ap (running p (others js)) (waiting_same s)

  pub reached_same : (p : ℕ) (s : List Hold) (object : Object) (offset : ℕ) → is_reached (given_program x) p (one_stack s) object offset ≡ is_reached (made_program x) p (other_stack s) object offset
  unfolding is_reached
  reached_same p s (Fixed n) offset = refl
  reached_same p s (FrameOf c) offset = ap (λ (z : List ℕ). lives_in (p ∷ z) (FrameOf c) && nat_lt offset (x.rest.frame_bytes c)) (callers_same s)

abbrev pub load_jobs : Byte → Object → ℕ → ℕ → List Job → List Job
load_jobs to object offset zero js = js
load_jobs to object offset (suc n) js = ToLoad to object offset (suc n) ∷ js

loads_one : (to : Byte) (object : Object) (offset n : ℕ) (js : List Job) → loading to object offset n (ones js) ≡ ones (load_jobs to object offset n js)
loads_one to object offset zero js = refl
loads_one to object offset (suc n) js = refl

loads_other : (to : Byte) (object : Object) (offset n : ℕ) (js : List Job) → loading to object offset n (others js) ≡ others (load_jobs to object offset n js)
loads_other to object offset zero js = refl
loads_other to object offset (suc n) js = refl

loads_run : (lent : ℕ → Bool) (p : ℕ) (s : List Hold) (here after : Marks) (to : Byte) (object : Object) (offset n : ℕ) (js : List Job)
    → Below p after (marked_on here to n) → Weak lent p (loops_of s) after js → Weak lent p (loops_of s) here (load_jobs to object offset n js)
loads_run lent p s here after to object offset zero js below runs = (runs.0, lower p runs.0 after here runs.1 below, runs.2)
loads_run lent p s here after to object offset (suc n) js below runs = (here, lower_refl p here, (runs.0, lower p runs.0 after (marked_on here to (suc n)) runs.1 below, runs.2))

lent_if : (s t : Bool) (k : Mark) (h a b : Held) → (t ≡ true → s ≡ true) → Holds (if s then Same else k) a b → Holds (if s then Same else k) (if t then h else a) (if t then h else b)
lent_if true true k h a b e q = refl
lent_if true false k h a b e q = q
lent_if false true k h a b e q = absurd (true≢false (sym (e refl)))
lent_if false false k h a b e q = q

-- the same is written to a frame to which pointers may lead
set_lent : (lent : ℕ → Bool) (known : Marks) (m l : Memory) (d j : ℕ) (h : Held) → lent d ≡ true → Alike lent known m l → Alike lent known (with_byte m (Frame d j) h) (with_byte l (Frame d j) h)
set_lent lent known m l d j h e r (Static n i) = r (Static n i)
set_lent lent known m l d j h e r (Frame c i) = lent_if (lent c) (same_byte (Frame c i) (Frame d j)) (known (Frame c i)) h (m (Frame c i)) (l (Frame c i)) (λ t. subst (λ (z : ℕ). lent z ≡ true) (sym (eqb-true c d (and_parts (nat_eq c d) (nat_eq i j) t).0)) e) (r (Frame c i))
set_lent lent known m l d j h e r (Result n i) = r (Result n i)
set_lent lent known m l d j h e r (Device a) = r (Device a)

module _ (x : Narrowing) (sound : IsSound x) (o : Outside) (sc : Scene x) where
  abbrev one_by : List Job → Memory → World Held → Next
  one_by js m w = goes (ones js) sc.p sc.a (one_stack sc.s) m w

  abbrev other_by : List Job → Memory → World Held → Next
  other_by js m w = goes (others js) sc.p sc.a (other_stack sc.s) m w

  -- ---- a copy
  module _ (k : Mark) (after low : Marks) (js : List Job) (runs : Runs x.lent sc.p (loops x sound sc) low js) where
    -- what is read is written at once
    copy_put : (to from : Byte) → sc.m from ≡ sc.l from → Holds k (sc.m from) (sc.l from) → Below sc.p low (marked sc.here to k)
        → Outcome x (put (given_program x) to (sc.m from) (ones js) sc.p sc.a (one_stack sc.s) sc.m sc.w) (put (made_program x) to (sc.l from) (others js) sc.p sc.a (other_stack sc.s) sc.l sc.w)
    copy_put to from e holds below =
        subst (λ (h : Held). Outcome x (put (given_program x) to (sc.m from) (ones js) sc.p sc.a (one_stack sc.s) sc.m sc.w) (put (made_program x) to h (others js) sc.p sc.a (other_stack sc.s) sc.l sc.w)) e
        (put_step x sound sc k (sc.m from) (subst (λ (h : Held). Holds k (sc.m from) h) (sym e) holds) low js runs to below)

    -- or later
    copy_later : (to from : Byte) → sc.m from ≡ sc.l from → ((h : Held) → Holds k h h) → Below sc.p low (marked sc.here to k)
        → Outcome x (goes (task.Put to (held_at (given_setting x o) from sc.m sc.w) ∷ ones js) sc.p sc.a (one_stack sc.s) sc.m (after_read (given_setting x o) from sc.m sc.w))
        (goes (task.Put to (held_at (made_setting x o) from sc.l sc.w) ∷ others js) sc.p sc.a (other_stack sc.s) sc.l (after_read (made_setting x o) from sc.l sc.w))
    copy_later to from e holds below =
        subst (λ (h : Held). Outcome x (one_by (ToPut to (held_at (given_setting x o) from sc.m sc.w) ∷ js) sc.m (after_read (given_setting x o) from sc.m sc.w)) (goes (task.Put to h ∷ others js) sc.p sc.a (other_stack sc.s) sc.l (after_read (made_setting x o) from sc.l sc.w)))
        (held_same x o from sc.m sc.l sc.w e)
        (subst (λ (v : World Held). Outcome x (one_by (ToPut to (held_at (given_setting x o) from sc.m sc.w) ∷ js) sc.m (after_read (given_setting x o) from sc.m sc.w)) (other_by (ToPut to (held_at (given_setting x o) from sc.m sc.w) ∷ js) sc.l v))
        (world_same x o from sc.m sc.l sc.w e)
        (go_same x sound sc sc.here (after_read (given_setting x o) from sc.m sc.w) (ToPut to (held_at (given_setting x o) from sc.m sc.w) ∷ js) (lower_refl sc.p sc.here) (k, low, holds (held_at (given_setting x o) from sc.m sc.w), below, runs)))

  copy_by : (to from : Byte) (low : Marks) (js : List Job) → is_same (own_mark x.lent sc.p sc.here from) ≡ true → Below sc.p low (marked sc.here to (own_mark x.lent sc.p sc.here from)) → Runs x.lent sc.p (loops x sound sc) low js
      → Outcome x (copy (given_setting x o) to from (ones js) sc.p sc.a (one_stack sc.s) sc.m sc.w) (copy (made_setting x o) to from (others js) sc.p sc.a (other_stack sc.s) sc.l sc.w)
  copy_by to (Static n i) low js e below runs = copy_later Same low low js runs to (Static n i) (sc.alike (Static n i)) (λ h. refl) below
  copy_by to (Frame c i) low js e below runs =
      copy_put (own_mark x.lent sc.p sc.here (Frame c i)) low low js runs to (Frame c i) (read_same x.lent sc.p sc.here sc.known sc.m sc.l sc.alike sc.link (Frame c i) e)
      (own_holds x.lent sc.p sc.here sc.known sc.m sc.l sc.alike sc.link (Frame c i)) below
  copy_by to (Result n i) low js e below runs = copy_put Same low low js runs to (Result n i) (sc.alike (Result n i)) (sc.alike (Result n i)) below
  copy_by to (Device a) low js e below runs = copy_later Same low low js runs to (Device a) (sc.alike (Device a)) (λ h. refl) below

  pub copy_step : (to from : Byte) (after : Marks) (js : List Job) → is_same (own_mark x.lent sc.p sc.here from) ≡ true → Below sc.p after (marked sc.here to (own_mark x.lent sc.p sc.here from)) → Weak x.lent sc.p (loops x sound sc) after js
      → Outcome x (when (is_valid (given_program x) sc.p from) (copy (given_setting x o) to from (ones js) sc.p sc.a (one_stack sc.s) sc.m sc.w)) (when (is_valid (made_program x) sc.p from) (copy (made_setting x o) to from (others js) sc.p sc.a (other_stack sc.s) sc.l sc.w))
  copy_step to from after js e below runs =
      when_both x (is_valid (given_program x) sc.p from) (is_valid (made_program x) sc.p from) _ _ (λ v. (
        sym (valid_same x sc.p from) ∙ v,
        copy_by to from runs.0 js e (lower sc.p runs.0 after (marked sc.here to (own_mark x.lent sc.p sc.here from)) runs.1 below) runs.2,
      ))

  -- ---- loads
  go_loads : (here after : Marks) (to : Byte) (object : Object) (offset n : ℕ) (js : List Job) → Below sc.p here sc.here → Below sc.p after (marked_on here to n) → Weak x.lent sc.p (loops x sound sc) after js
      → Outcome x (goes (loading to object offset n (ones js)) sc.p sc.a (one_stack sc.s) sc.m sc.w) (goes (loading to object offset n (others js)) sc.p sc.a (other_stack sc.s) sc.l sc.w)
  go_loads here after to object offset n js link below runs =
      let w = loads_run x.lent sc.p sc.s here after to object offset n js below runs in
      subst (λ (c : List Task). Outcome x (goes c sc.p sc.a (one_stack sc.s) sc.m sc.w) (goes (loading to object offset n (others js)) sc.p sc.a (other_stack sc.s) sc.l sc.w)) (sym (loads_one to object offset n js))
      (subst (λ (c : List Task). Outcome x (one_by (load_jobs to object offset n js) sc.m sc.w) (goes c sc.p sc.a (other_stack sc.s) sc.l sc.w)) (sym (loads_other to object offset n js))
      (go_same x sound sc w.0 sc.w (load_jobs to object offset n js) (lower sc.p w.0 here sc.here w.1 link) w.2))

  pub load_step : (to pointer : Byte) (count : ℕ) (after : Marks) (js : List Job) → agree x.lent sc.p sc.here pointer 2 ≡ true → Below sc.p after (marked_on sc.here to count) → Weak x.lent sc.p (loops x sound sc) after js
      → Outcome x (when (is_own (given_program x) sc.p pointer 2) (load to (pointer_in sc.m pointer) count (ones js) sc.p sc.a (one_stack sc.s) sc.m sc.w))
      (when (is_own (made_program x) sc.p pointer 2) (load to (pointer_in sc.l pointer) count (others js) sc.p sc.a (other_stack sc.s) sc.l sc.w))
  load_step to pointer count after js e below runs =
      when_both x (is_own (given_program x) sc.p pointer 2) (is_own (made_program x) sc.p pointer 2) _ _ (λ own. (
        sym (own_same x sc.p pointer 2) ∙ own,
        subst (λ (t : Option Place). Outcome x (load to (pointer_in sc.m pointer) count (ones js) sc.p sc.a (one_stack sc.s) sc.m sc.w) (load to t count (others js) sc.p sc.a (other_stack sc.s) sc.l sc.w))
            (pointer_same x.lent sc.p sc.here sc.known sc.m sc.l sc.alike sc.link pointer e) (by_place (pointer_in sc.m pointer)),
      ))
    where
      by_place : (t : Option Place) → Outcome x (load to t count (ones js) sc.p sc.a (one_stack sc.s) sc.m sc.w) (load to t count (others js) sc.p sc.a (other_stack sc.s) sc.l sc.w)
      by_place None = Halts refl
      by_place (Some y) = go_loads sc.here after to y.object y.offset count js (lower_refl sc.p sc.here) below runs

  load_jobs_copy : (to : Byte) (object : Object) (offset n : ℕ) (after : Marks) (js : List Job) (b : Byte) → b ≡ byte_in object offset → sc.m b ≡ sc.l b → ((h : Held) → Holds Same h h)
      → Below sc.p after (marked_on (marked sc.here to Same) (behind to 1) n) → Weak x.lent sc.p (loops x sound sc) after js
      → Outcome x (copy (given_setting x o) to b (loading (behind to 1) object (offset + 1) n (ones js)) sc.p sc.a (one_stack sc.s) sc.m sc.w)
      (copy (made_setting x o) to b (loading (behind to 1) object (offset + 1) n (others js)) sc.p sc.a (other_stack sc.s) sc.l sc.w)
  load_jobs_copy to object offset n after js b is same holds below runs =
      let w = loads_run x.lent sc.p sc.s (marked sc.here to Same) after (behind to 1) object (offset + 1) n js below runs in
      subst (λ (c : List Task). Outcome x (copy (given_setting x o) to b c sc.p sc.a (one_stack sc.s) sc.m sc.w) (copy (made_setting x o) to b (loading (behind to 1) object (offset + 1) n (others js)) sc.p sc.a (other_stack sc.s) sc.l sc.w)) (sym (loads_one (behind to 1) object (offset + 1) n js))
      (subst (λ (c : List Task). Outcome x (copy (given_setting x o) to b (ones (load_jobs (behind to 1) object (offset + 1) n js)) sc.p sc.a (one_stack sc.s) sc.m sc.w) (copy (made_setting x o) to b c sc.p sc.a (other_stack sc.s) sc.l sc.w)) (sym (loads_other (behind to 1) object (offset + 1) n js))
      (by_byte b same w.0 w.1 w.2))
    where
      by_byte : (b : Byte) → sc.m b ≡ sc.l b → (low : Marks) → Below sc.p low (marked sc.here to Same) → Runs x.lent sc.p (loops x sound sc) low (load_jobs (behind to 1) object (offset + 1) n js)
          → Outcome x (copy (given_setting x o) to b (ones (load_jobs (behind to 1) object (offset + 1) n js)) sc.p sc.a (one_stack sc.s) sc.m sc.w) (copy (made_setting x o) to b (others (load_jobs (behind to 1) object (offset + 1) n js)) sc.p sc.a (other_stack sc.s) sc.l sc.w)
      by_byte (Static d i) e low link runs = copy_later Same low low (load_jobs (behind to 1) object (offset + 1) n js) runs to (Static d i) e (λ h. refl) link
      by_byte (Frame d i) e low link runs = copy_put Same low low (load_jobs (behind to 1) object (offset + 1) n js) runs to (Frame d i) e e link
      by_byte (Result d i) e low link runs = copy_put Same low low (load_jobs (behind to 1) object (offset + 1) n js) runs to (Result d i) e e link
      by_byte (Device d) e low link runs = copy_later Same low low (load_jobs (behind to 1) object (offset + 1) n js) runs to (Device d) e (λ h. refl) link

  lent_same : (object : Object) (offset : ℕ) → is_lent x.lent object ≡ true → sc.m (byte_in object offset) ≡ sc.l (byte_in object offset)
  lent_same (Fixed n) offset e = sc.alike (Static n offset)
  lent_same (FrameOf c) offset e = subst (λ (t : Bool). Holds (if t then Same else sc.known (Frame c offset)) (sc.m (Frame c offset)) (sc.l (Frame c offset))) e (sc.alike (Frame c offset))

  pub load_from_step : (to : Byte) (object : Object) (offset n : ℕ) (js : List Job) → is_lent x.lent object ≡ true → Runs x.lent sc.p (loops x sound sc) sc.here (ToLoad to object offset n ∷ js)
      → Outcome x (load_from (given_setting x o) to object offset n (ones js) sc.p sc.a (one_stack sc.s) sc.m sc.w) (load_from (made_setting x o) to object offset n (others js) sc.p sc.a (other_stack sc.s) sc.l sc.w)
  load_from_step to object offset zero js e runs = go_same x sound sc runs.0 sc.w js runs.1 runs.2
  load_from_step to object offset (suc n) js e runs =
      when_both x (is_own (given_program x) sc.p to 1 && is_reached (given_program x) sc.p (one_stack sc.s) object offset) (is_own (made_program x) sc.p to 1 && is_reached (made_program x) sc.p (other_stack sc.s) object offset) _ _ (λ own. (
        sym (ap (λ (t : Bool). t && is_reached (given_program x) sc.p (one_stack sc.s) object offset) (own_same x sc.p to 1) ∙ ap (λ (t : Bool). is_own (made_program x) sc.p to 1 && t) (reached_same x sc.p sc.s object offset)) ∙ own,
        load_jobs_copy to object offset n runs.0 js (byte_in object offset) refl (lent_same object offset e) (λ h. refl) runs.1 (runs.0, lower_refl sc.p runs.0, runs.2),
      ))

  -- ---- stores
  go_stores : (object : Object) (offset : ℕ) (from : Byte) (n : ℕ) (after : Marks) (js : List Job) → agree x.lent sc.p sc.here from n ≡ true → Below sc.p after sc.here → Weak x.lent sc.p (loops x sound sc) after js
      → Outcome x (goes (storing object offset from n (ones js)) sc.p sc.a (one_stack sc.s) sc.m sc.w) (goes (storing object offset from n (others js)) sc.p sc.a (other_stack sc.s) sc.l sc.w)
  go_stores object offset from zero after js e below runs = go_same x sound sc runs.0 sc.w js (lower sc.p runs.0 after sc.here runs.1 below) runs.2
  go_stores object offset from (suc n) after js e below runs = go_same x sound sc sc.here sc.w (ToStore object offset from (suc n) ∷ js) (lower_refl sc.p sc.here) (e, runs.0, lower sc.p runs.0 after sc.here runs.1 below, runs.2)

  pub store_step : (pointer from : Byte) (count : ℕ) (after : Marks) (js : List Job) → agree x.lent sc.p sc.here pointer 2 ≡ true → agree x.lent sc.p sc.here from count ≡ true → Below sc.p after sc.here → Weak x.lent sc.p (loops x sound sc) after js
      → Outcome x (when (is_own (given_program x) sc.p pointer 2) (store (pointer_in sc.m pointer) from count (ones js) sc.p sc.a (one_stack sc.s) sc.m sc.w))
      (when (is_own (made_program x) sc.p pointer 2) (store (pointer_in sc.l pointer) from count (others js) sc.p sc.a (other_stack sc.s) sc.l sc.w))
  store_step pointer from count after js e f below runs =
      when_both x (is_own (given_program x) sc.p pointer 2) (is_own (made_program x) sc.p pointer 2) _ _ (λ own. (
        sym (own_same x sc.p pointer 2) ∙ own,
        subst (λ (t : Option Place). Outcome x (store (pointer_in sc.m pointer) from count (ones js) sc.p sc.a (one_stack sc.s) sc.m sc.w) (store t from count (others js) sc.p sc.a (other_stack sc.s) sc.l sc.w))
            (pointer_same x.lent sc.p sc.here sc.known sc.m sc.l sc.alike sc.link pointer e) (by_place (pointer_in sc.m pointer)),
      ))
    where
      by_place : (t : Option Place) → Outcome x (store t from count (ones js) sc.p sc.a (one_stack sc.s) sc.m sc.w) (store t from count (others js) sc.p sc.a (other_stack sc.s) sc.l sc.w)
      by_place None = Halts refl
      by_place (Some y) = go_stores y.object y.offset from count after js f below runs

  -- what is left of a store
  module _ (from : Byte) (h : Held) (js : List Job) (low : Marks) (link : Below sc.p low sc.here) (runs : Runs x.lent sc.p (loops x sound sc) low js) where
    store_byte : (object : Object) (offset : ℕ) → is_lent x.lent object ≡ true
        → Outcome x (written (given_program x) (byte_in object offset) h (ones js) sc.p sc.a (one_stack sc.s) sc.m sc.w) (written (made_program x) (byte_in object offset) h (others js) sc.p sc.a (other_stack sc.s) sc.l sc.w)
    unfolding memory_with after_write
    store_byte (Fixed n) offset e = write_step x sound sc Same h refl low js runs (Static n offset) refl link
    store_byte (FrameOf c) offset e = go_on x sound sc sc.known low (with_byte sc.m (Frame c offset) h) (with_byte sc.l (Frame c offset) h) sc.w js (set_lent x.lent sc.known sc.m sc.l c offset h e sc.alike) (off_refl sc.p sc.known) (lower sc.p low sc.here sc.known link sc.link) runs

  pub store_to_step : (object : Object) (offset : ℕ) (from : Byte) (n : ℕ) (js : List Job) → is_lent x.lent object ≡ true → Runs x.lent sc.p (loops x sound sc) sc.here (ToStore object offset from n ∷ js)
      → Outcome x (store_to (given_setting x o) object offset from n (ones js) sc.p sc.a (one_stack sc.s) sc.m sc.w) (store_to (made_setting x o) object offset from n (others js) sc.p sc.a (other_stack sc.s) sc.l sc.w)
  store_to_step object offset from zero js e runs = go_same x sound sc runs.1 sc.w js runs.2 runs.3
  store_to_step object offset from (suc n) js e runs =
      let agrees = and_parts (is_same (own_mark x.lent sc.p sc.here from)) (agree x.lent sc.p sc.here (behind from 1) n) runs.0 in
      when_both x (is_own (given_program x) sc.p from 1 && is_reached (given_program x) sc.p (one_stack sc.s) object offset) (is_own (made_program x) sc.p from 1 && is_reached (made_program x) sc.p (other_stack sc.s) object offset) _ _ (λ own. (
        sym (ap (λ (t : Bool). t && is_reached (given_program x) sc.p (one_stack sc.s) object offset) (own_same x sc.p from 1) ∙ ap (λ (t : Bool). is_own (made_program x) sc.p from 1 && t) (reached_same x sc.p sc.s object offset)) ∙ own,
        subst (λ (h : Held). Outcome x (written (given_program x) (byte_in object offset) (sc.m from) (storing object (offset + 1) (behind from 1) n (ones js)) sc.p sc.a (one_stack sc.s) sc.m sc.w) (written (made_program x) (byte_in object offset) h (storing object (offset + 1) (behind from 1) n (others js)) sc.p sc.a (other_stack sc.s) sc.l sc.w))
            (read_same x.lent sc.p sc.here sc.known sc.m sc.l sc.alike sc.link from agrees.0) (on_rest n agrees.1),
      ))
    where
      on_rest : (n : ℕ) → agree x.lent sc.p sc.here (behind from 1) n ≡ true
          → Outcome x (written (given_program x) (byte_in object offset) (sc.m from) (storing object (offset + 1) (behind from 1) n (ones js)) sc.p sc.a (one_stack sc.s) sc.m sc.w) (written (made_program x) (byte_in object offset) (sc.m from) (storing object (offset + 1) (behind from 1) n (others js)) sc.p sc.a (other_stack sc.s) sc.l sc.w)
      on_rest zero f = store_byte from (sc.m from) js runs.1 runs.2 runs.3 object offset e
      on_rest (suc k) f = store_byte from (sc.m from) (ToStore object (offset + 1) (behind from 1) (suc k) ∷ js) sc.here (lower_refl sc.p sc.here) (f, runs.1, runs.2, runs.3) object offset e

  -- ---- bits
  has_bit_same : (register number : ℕ) → has_bit (given_program x) sc.p register number ≡ has_bit (made_program x) sc.p register number
  has_bit_same register number = ap (λ (t : Bool). t && nat_lt number 8) (valid_same x sc.p (Device register))

  go_read : (register : ℕ) (low : Marks) (js : List Job) → Below sc.p low sc.here → Runs x.lent sc.p (loops x sound sc) low js
      → Outcome x (one_by js sc.m (after_read (given_setting x o) (Device register) sc.m sc.w)) (other_by js sc.l (after_read (made_setting x o) (Device register) sc.l sc.w))
  go_read register low js link runs =
      subst (λ (v : World Held). Outcome x (one_by js sc.m (after_read (given_setting x o) (Device register) sc.m sc.w)) (other_by js sc.l v)) (world_same x o (Device register) sc.m sc.l sc.w (sc.alike (Device register)))
      (go_same x sound sc low (after_read (given_setting x o) (Device register) sc.m sc.w) js link runs)

  pub bit_read_step : (to : Byte) (register number : ℕ) (after : Marks) (js : List Job) → Below sc.p after (marked sc.here to Numbers) → Weak x.lent sc.p (loops x sound sc) after js
      → Outcome x (bit_read (given_setting x o) to register number (ones js) sc.p sc.a (one_stack sc.s) sc.m sc.w) (bit_read (made_setting x o) to register number (others js) sc.p sc.a (other_stack sc.s) sc.l sc.w)
  bit_read_step to register number after js below runs =
      when_both x (has_bit (given_program x) sc.p register number) (has_bit (made_program x) sc.p register number) _ _ (λ e. (
        sym (has_bit_same register number) ∙ e,
        go_read register sc.here (ToPutBit to (bit (device_value o register sc.w) number) ∷ js) (lower_refl sc.p sc.here) (bit_small (device_value o register sc.w) number, runs.0, lower sc.p runs.0 after (marked sc.here to Numbers) runs.1 below, runs.2),
      ))

  bit_write_by : (register number : ℕ) (h : Held) (after : Marks) (js : List Job) → Below sc.p after sc.here → Weak x.lent sc.p (loops x sound sc) after js
      → Outcome x (bit_write (given_setting x o) register number h (ones js) sc.p sc.a (one_stack sc.s) sc.m sc.w) (bit_write (made_setting x o) register number h (others js) sc.p sc.a (other_stack sc.s) sc.l sc.w)
  bit_write_by register number Unset after js below runs = Halts refl
  bit_write_by register number (bytes.Part object k high) after js below runs = Halts refl
  bit_write_by register number (bytes.Number n) after js below runs =
      when_both x (has_bit (given_program x) sc.p register number) (has_bit (made_program x) sc.p register number) _ _ (λ e. (
        sym (has_bit_same register number) ∙ e,
        go_read register runs.0 (ToPutBack register (with_bit number (n % 2) (device_value o register sc.w)) ∷ ToJoin ∷ js) (lower sc.p runs.0 after sc.here runs.1 below) runs.2,
      ))

  pub bit_write_step : (register number : ℕ) (from : Byte) (after : Marks) (js : List Job) → is_same (own_mark x.lent sc.p sc.here from) ≡ true → Below sc.p after sc.here → Weak x.lent sc.p (loops x sound sc) after js
      → Outcome x (when (is_own (given_program x) sc.p from 1) (bit_write (given_setting x o) register number (sc.m from) (ones js) sc.p sc.a (one_stack sc.s) sc.m sc.w))
      (when (is_own (made_program x) sc.p from 1) (bit_write (made_setting x o) register number (sc.l from) (others js) sc.p sc.a (other_stack sc.s) sc.l sc.w))
  bit_write_step register number from after js e below runs =
      when_both x (is_own (given_program x) sc.p from 1) (is_own (made_program x) sc.p from 1) _ _ (λ own. (
        sym (own_same x sc.p from 1) ∙ own,
        subst (λ (h : Held). Outcome x (bit_write (given_setting x o) register number (sc.m from) (ones js) sc.p sc.a (one_stack sc.s) sc.m sc.w) (bit_write (made_setting x o) register number h (others js) sc.p sc.a (other_stack sc.s) sc.l sc.w))
            (read_same x.lent sc.p sc.here sc.known sc.m sc.l sc.alike sc.link from e) (bit_write_by register number (sc.m from) after js below runs),
      ))
