-- Steps that write a byte by its name, and those of control.
use Rattle.std.proofs.Common.{◌≡◌, ℕ, zero, suc, ◌+◌, ◌<◌, ◌≤◌, Bool, true, false, not, ◌&&◌, nat_eq, nat_lt, nat_le, if◌then◌else◌, List, Option, Some, None, refl, sym, ap, ◌∙◌, subst, arith}
use Rattle.std.proofs.lemmas.Bool.{true≢false, and_parts, and_from, ne_eqb, eqb-true, eq-eqb, ltb-true, leb-true, le-leb}
use Rattle.pic_world.specs.Roots.{same_root}
use Rattle.pic_world.specs.World.{World}
use Rattle.pic_world.specs.declared.Root.{Root}
use Rattle.core_code.specs.Bytes.{Held, Unset, Object, Memory, same_byte, behind, with_byte, is_in_frame, without_frame}
use Rattle.core_code.specs.Bytes as bytes
use Rattle.core_code.specs.Machine.{Program, goes, when, is_own, is_valid, may_hold, memory_with, after_write, written, may_call, can_pass, is_entry, opened, pass, passed, put, looked_up, has_read}
use Rattle.core_code.specs.Values.{number_in}
use Rattle.core_code.specs.declared.code.Byte.{Byte}
use Rattle.core_code.specs.declared.code.Byte.TheVariants.{Static, Frame, Result, Device}
use Rattle.narrow_code.specs.Marks.{Mark, Numbers, Same, Marks, Holds, IsBelow, is_same, marked, Below}
use Rattle.narrow_code.specs.Plans.{Narrowing, given_program, made_program}
use Rattle.narrow_code.specs.Right.{Ends, set_mark, IsSound}
use Rattle.narrow_code.proofs.Memory.{never, holds_same, Alike, Off, off_refl, is_mine, below_trans, lower, marked_below, marked_off, set_same, if_same, if_held, number_same}
use Rattle.narrow_code.proofs.Relation.{Job, Hold, other, ones, others, one_stack, other_stack, loops_of, Runs, Passes, Stands, Outcome, Halts, Moves, when_same, when_both, stands_kept}

-- ---- fewer bytes
pub less : (j n k : ℕ) → 1 ≤ n → nat_le (j + n) k ≡ true → nat_le (j + 1) k ≡ true
less j n k h e = let l = leb-true (j + n) k e in le-leb (j + 1) k (omega arith)

pub own_less : (x : Narrowing) (p : ℕ) (b : Byte) (n : ℕ) → 1 ≤ n → is_own (given_program x) p b n ≡ true → is_own (made_program x) p b 1 ≡ true
unfolding is_own
own_less x p (Static i offset) n h e = never e
own_less x p (Frame c offset) n h e =
    let parts = and_parts (nat_eq c p) (nat_le (offset + n) (x.rest.frame_bytes c)) e in
    and_from (nat_eq c p) (nat_le (offset + 1) (x.rest.frame_bytes c)) parts.0 (less offset n (x.rest.frame_bytes c) h parts.1)
own_less x p (Result r k) n h e =
    let parts = and_parts (same_root r (x.rest.root p)) (nat_le (k + n) 4) e in
    and_from (same_root r (x.rest.root p)) (nat_le (k + 1) 4) parts.0 (less k n 4 h parts.1)
own_less x p (Device a) n h e = never e

-- ---- what both programs have
module _ (x : Narrowing) where
  pub own_same : (p : ℕ) (b : Byte) (n : ℕ) → is_own (given_program x) p b n ≡ is_own (made_program x) p b n
  unfolding is_own
  own_same p (Static i offset) n = refl
  own_same p (Frame c offset) n = refl
  own_same p (Result r k) n = refl
  own_same p (Device a) n = refl

  pub valid_same : (p : ℕ) (b : Byte) → is_valid (given_program x) p b ≡ is_valid (made_program x) p b
  unfolding is_valid
  valid_same p (Static i offset) = refl
  valid_same p (Frame c offset) = own_same p (Frame c offset) 1
  valid_same p (Result r k) = own_same p (Result r k) 1
  valid_same p (Device a) = refl

  pub hold_same : (b : Byte) (h : Held) (w : World Held) → may_hold (given_program x) b h w ≡ may_hold (made_program x) b h w
  hold_same (Static i offset) Unset w = refl
  hold_same (Static i offset) (bytes.Number n) w = refl
  hold_same (Static i offset) (bytes.Part o k high) w = refl
  hold_same (Frame c offset) h w = refl
  hold_same (Result r k) h w = refl
  hold_same (Device a) Unset w = refl
  hold_same (Device a) (bytes.Number n) w = refl
  hold_same (Device a) (bytes.Part o k high) w = refl

  pub own_mine : (p : ℕ) (b : Byte) (n : ℕ) → is_own (given_program x) p b n ≡ true → is_mine p b ≡ true
  unfolding is_own
  own_mine p (Static i offset) n e = refl
  own_mine p (Frame c offset) n e = (and_parts (nat_eq c p) (nat_le (offset + n) (x.rest.frame_bytes c)) e).0
  own_mine p (Result r k) n e = refl
  own_mine p (Device a) n e = refl

  -- what a call tells
  pub calls_parts : (p : ℕ) (a : Option ℕ) (d : ℕ) → may_call (given_program x) p a d ≡ true → (x.rest.calls p d ≡ true) × (same_root (x.rest.root p) (x.rest.root d) ≡ true) × (can_pass a d ≡ true)
  calls_parts p a d e =
      let last = and_parts (x.rest.calls p d && same_root (x.rest.root p) (x.rest.root d) && not (is_entry (given_program x) d)) (can_pass a d) e in
      let third = and_parts (x.rest.calls p d && same_root (x.rest.root p) (x.rest.root d)) (not (is_entry (given_program x) d)) last.0 in
      let second = and_parts (x.rest.calls p d) (same_root (x.rest.root p) (x.rest.root d)) third.0 in
      (second.0, second.1, last.1)

  below_same_at : (t : Bool) (k : Mark) → IsBelow Same k → IsBelow Same (if t then Same else k)
  below_same_at true k h = refl
  below_same_at false k h = h

-- what a number that is set is known as
pub set_holds : (value : ℕ) → Holds (set_mark value) (bytes.Number value) (bytes.Number value)
set_holds zero = (refl, refl)
set_holds (suc n) = by_size (nat_lt (suc n) 256) refl
  where
    by_size : (t : Bool) → nat_lt (suc n) 256 ≡ t → Holds (if t then Numbers else Same) (bytes.Number (suc n)) (bytes.Number (suc n))
    by_size true e = (suc n, ltb-true (suc n) 256 e, refl, refl)
    by_size false e = refl

-- ---- a moment, without the jobs
pub record Scene (x : Narrowing) : Type 0 where
  pub p : ℕ
  pub a : Option ℕ
  pub s : List Hold
  pub m : Memory
  pub l : Memory
  pub w : World Held
  pub here : Marks
  pub known : Marks
  pub alike : Alike x.lent known m l
  pub link : Below p here known
  pub stands : Stands x p known s
  pub passes : Passes x p known a

-- what is known of a frame that no copy has touched
abbrev pub fresh : ℕ → Marks → Marks
fresh callee known b = if is_in_frame callee b then Same else known b

abbrev pub known_open : Option ℕ → ℕ → Marks → Marks
known_open None callee known = fresh callee known
known_open (Some other) callee known = known

pub fresh_alike : (lent : ℕ → Bool) (d : ℕ) (known : Marks) (m l : Memory) → Alike lent known m l → Alike lent (fresh d known) (without_frame d m) (without_frame d l)
fresh_alike lent d known m l r (Static n i) = r (Static n i)
fresh_alike lent d known m l r (Frame c i) = if_held lent (lent c) (nat_eq c d) Same (known (Frame c i)) Unset Unset (m (Frame c i)) (l (Frame c i)) (λ s t. refl) refl (r (Frame c i))
fresh_alike lent d known m l r (Result n i) = r (Result n i)
fresh_alike lent d known m l r (Device a) = r (Device a)

pub open_alike : (lent : ℕ → Bool) (a : Option ℕ) (d : ℕ) (known : Marks) (m l : Memory) → Alike lent known m l → Alike lent (known_open a d known) (opened a d m) (opened a d l)
open_alike lent None d known m l r = fresh_alike lent d known m l r
open_alike lent (Some o) d known m l r = r

-- a parameter of a copy is the same
pub parameter_same : (lent : ℕ → Bool) (d : ℕ) (known : Marks) (m l : Memory) → Alike lent known m l → Below d (λ byte. Same) known → (i : ℕ) → m (Frame d i) ≡ l (Frame d i)
parameter_same lent d known m l r below i =
    holds_same (if lent d then Same else known (Frame d i)) (m (Frame d i)) (l (Frame d i)) (same_if (lent d) (known (Frame d i)) (below d i (eq-eqb d d refl))) (r (Frame d i))
  where
    same_if : (t : Bool) (k : Mark) → is_same k ≡ true → is_same (if t then Same else k) ≡ true
    same_if true k e = refl
    same_if false k e = e

-- the same is written to a result
pub result_alike : (lent : ℕ → Bool) (known : Marks) (m l : Memory) (root : Root) (k : ℕ) (h g : Held) → h ≡ g → Alike lent known m l → Alike lent known (with_byte m (Result root k) h) (with_byte l (Result root k) g)
result_alike lent known m l root k h g e r (Static n i) = r (Static n i)
result_alike lent known m l root k h g e r (Frame c i) = r (Frame c i)
result_alike lent known m l root k h g e r (Result n i) = if_same lent (same_byte (Result n i) (Result root k)) h g (m (Result n i)) (l (Result n i)) e (r (Result n i))
result_alike lent known m l root k h g e r (Device a) = r (Device a)

pub fresh_off : (d : ℕ) (known : Marks) → Off d known (fresh d known)
fresh_off d known c i e = ap (λ (t : Bool). if t then Same else known (Frame c i)) e

pub open_off : (a : Option ℕ) (d : ℕ) (known : Marks) → Off d known (known_open a d known)
open_off None d known = fresh_off d known
open_off (Some o) d known = off_refl d known

module _ (x : Narrowing) (sound : IsSound x) where
  pub differs : (c p : ℕ) → x.rank c < x.rank p → nat_eq c p ≡ false
  differs c p h = ne_eqb c p (λ e. let same : x.rank c ≡ x.rank p = ap x.rank e in absurd (omega arith))

  pub fresh_below : (a : Option ℕ) (p d : ℕ) (known : Marks) → Passes x p known a → can_pass a d ≡ true → Below d (λ byte. Same) (known_open a d known)
  fresh_below None p d known h e c i f = subst (λ (t : Bool). IsBelow Same (if t then Same else known (Frame c i))) (sym f) refl
  fresh_below (Some o) p d known h e c i f = h.2 c i (subst (λ (z : ℕ). nat_eq c z ≡ true) (sym (eqb-true o d e)) f)

  module _ (sc : Scene x) where
    abbrev pub q : Program
    q = given_program x

    abbrev pub r : Program
    r = made_program x

    abbrev pub loops : List Ends
    loops = loops_of sc.s

    -- ---- the next task
    passes_on : (next : Marks) (a : Option ℕ) → Off sc.p sc.known next → Passes x sc.p sc.known a → Passes x sc.p next a
    passes_on next None off h = tt
    passes_on next (Some callee) off h =
        (h.0, h.1, λ c i e. subst (λ (k : Mark). IsBelow Same k) (sym (off c i (subst (λ (z : ℕ). nat_eq z sc.p ≡ false) (sym (eqb-true c callee e)) (ne_eqb callee sc.p (λ f. let rises = h.0 in let same : x.rank callee ≡ x.rank sc.p = ap x.rank f in absurd (omega arith)))))) (h.2 c i e))

    pub stands_on : (next : Marks) → Off sc.p sc.known next → Stands x sc.p next sc.s
    stands_on next off = stands_kept x (x.rank sc.p) sc.p sc.known next sc.s (λ c i h. off c i (differs c sc.p h)) (omega arith) sc.stands

    pub go_on : (next low : Marks) (m l : Memory) (w : World Held) (js : List Job) → Alike x.lent next m l → Off sc.p sc.known next → Below sc.p low next → Runs x.lent sc.p loops low js
        → Outcome x (goes (ones js) sc.p sc.a (one_stack sc.s) m w) (goes (others js) sc.p sc.a (other_stack sc.s) l w)
    go_on next low m l w js alike off link runs =
        Moves (record { copy = sc.p; passing = sc.a; jobs = js; holds = sc.s; memory = m; second = l; world = w; here = low; known = next })
        (record { alike = alike; link = link; stands = stands_on next off; passes = passes_on next sc.a off sc.passes; runs = runs }) refl refl

    -- memory stays
    pub go_same : (low : Marks) (w : World Held) (js : List Job) → Below sc.p low sc.here → Runs x.lent sc.p loops low js
        → Outcome x (goes (ones js) sc.p sc.a (one_stack sc.s) sc.m w) (goes (others js) sc.p sc.a (other_stack sc.s) sc.l w)
    go_same low w js link runs = go_on sc.known low sc.m sc.l w js sc.alike (off_refl sc.p sc.known) (lower sc.p low sc.here sc.known link sc.link) runs

    -- ---- a table's byte is read
    has_read_step : (o : Option ℕ) (js : List Job) → Runs x.lent sc.p loops sc.here js
        → Outcome x (has_read q o (ones js) sc.p sc.a (one_stack sc.s) sc.m sc.w) (has_read r o (others js) sc.p sc.a (other_stack sc.s) sc.l sc.w)
    has_read_step None js runs = Halts refl
    has_read_step (Some n) js runs =
        let to : Byte = Result (x.rest.root sc.p) 0 in
        go_on sc.known sc.here (with_byte sc.m to (bytes.Number n)) (with_byte sc.l to (bytes.Number n)) sc.w js
        (result_alike x.lent sc.known sc.m sc.l (x.rest.root sc.p) 0 (bytes.Number n) (bytes.Number n) refl sc.alike) (off_refl sc.p sc.known) sc.link runs

    -- the results that hold its index are the same
    pub read_step : (table : List ℕ) (js : List Job) → Runs x.lent sc.p loops sc.here js
        → Outcome x (has_read q (looked_up table (number_in sc.m (Result (x.rest.root sc.p) 0) 2)) (ones js) sc.p sc.a (one_stack sc.s) sc.m sc.w)
        (has_read r (looked_up table (number_in sc.l (Result (x.rest.root sc.p) 0) 2)) (others js) sc.p sc.a (other_stack sc.s) sc.l sc.w)
    read_step table js runs =
        subst (λ (n : Option ℕ). Outcome x (has_read q (looked_up table (number_in sc.m (Result (x.rest.root sc.p) 0) 2)) (ones js) sc.p sc.a (one_stack sc.s) sc.m sc.w) (has_read r (looked_up table n) (others js) sc.p sc.a (other_stack sc.s) sc.l sc.w))
        (number_same x.lent sc.p sc.here sc.known sc.m sc.l sc.alike sc.link 2 (Result (x.rest.root sc.p) 0) refl)
        (has_read_step (looked_up table (number_in sc.m (Result (x.rest.root sc.p) 0) 2)) js runs)

    -- ---- a byte is written by its name
    module _ (k : Mark) (h : Held) (holds : Holds k h h) (low : Marks) (js : List Job) (runs : Runs x.lent sc.p loops low js) where
      wrote : (to : Byte) → is_mine sc.p to ≡ true → Below sc.p low (marked sc.here to k)
          → Outcome x (goes (ones js) sc.p sc.a (one_stack sc.s) (with_byte sc.m to h) (after_write to h sc.w)) (goes (others js) sc.p sc.a (other_stack sc.s) (with_byte sc.l to h) (after_write to h sc.w))
      wrote to mine link =
          go_on (marked sc.known to k) low (with_byte sc.m to h) (with_byte sc.l to h) (after_write to h sc.w) js
          (set_same x.lent sc.known sc.m sc.l to k h h refl holds sc.alike) (marked_off sc.p sc.known to k mine)
          (lower sc.p low (marked sc.here to k) (marked sc.known to k) link (marked_below sc.p sc.here sc.known to k sc.link)) runs

      wrote_by : (to : Byte) → is_mine sc.p to ≡ true → Below sc.p low (marked sc.here to k)
          → Outcome x (goes (ones js) sc.p sc.a (one_stack sc.s) (memory_with to h sc.m) (after_write to h sc.w)) (goes (others js) sc.p sc.a (other_stack sc.s) (memory_with to h sc.l) (after_write to h sc.w))
      unfolding memory_with
      wrote_by (Static n i) mine link = wrote (Static n i) mine link
      wrote_by (Frame c i) mine link = wrote (Frame c i) mine link
      wrote_by (Result n i) mine link = wrote (Result n i) mine link
      wrote_by (Device a) mine link = go_same low (after_write (Device a) h sc.w) js link runs

      pub write_step : (to : Byte) → is_mine sc.p to ≡ true → Below sc.p low (marked sc.here to k)
          → Outcome x (written q to h (ones js) sc.p sc.a (one_stack sc.s) sc.m sc.w) (written r to h (others js) sc.p sc.a (other_stack sc.s) sc.l sc.w)
      write_step to mine link = when_both x (may_hold q to h sc.w) (may_hold r to h sc.w) _ _ (λ e. (sym (hold_same x to h sc.w) ∙ e, wrote_by to mine link))

      -- a parameter
      pass_link : (d i : ℕ) → nat_eq d sc.p ≡ false → (next : Marks) → Off d sc.known next → Below sc.p low (marked sc.here (Frame d i) k) → Below sc.p low next
      pass_link d i far next off link c j e =
          let apart : nat_eq c d ≡ false = ne_eqb c d (λ f. absurd (true≢false (sym (subst (λ (z : ℕ). nat_eq z sc.p ≡ true) f e) ∙ far))) in
          subst (λ (z : Mark). IsBelow (low (Frame c j)) z) (sym (off c j apart))
          (below_trans (low (Frame c j)) (sc.here (Frame c j)) (sc.known (Frame c j))
          (subst (λ (t : Bool). IsBelow (low (Frame c j)) (if t && nat_eq j i then k else sc.here (Frame c j))) apart (link c j e)) (sc.link c j e))

      pass_step : (d i : ℕ) → nat_eq d sc.p ≡ false → Below sc.p low (marked sc.here (Frame d i) k)
          → Outcome x (pass q d i h (ones js) sc.p sc.a (one_stack sc.s) sc.m sc.w) (pass r d i h (others js) sc.p sc.a (other_stack sc.s) sc.l sc.w)
      pass_step d i far link =
          when_same x (may_call q sc.p sc.a d && nat_lt i (x.rest.parameter_bytes d) && nat_lt i (x.rest.frame_bytes d)) _ _ (λ e. passes_by e)
        where
          off : Off d sc.known (marked (known_open sc.a d sc.known) (Frame d i) Same)
          off c j f = ap (λ (t : Bool). if t && nat_eq j i then Same else known_open sc.a d sc.known (Frame c j)) f ∙ open_off sc.a d sc.known c j f

          passes_by : (may_call q sc.p sc.a d && nat_lt i (x.rest.parameter_bytes d) && nat_lt i (x.rest.frame_bytes d)) ≡ true
              → Outcome x (goes (ones js) sc.p (Some d) (one_stack sc.s) (with_byte (opened sc.a d sc.m) (Frame d i) h) sc.w) (goes (others js) sc.p (Some d) (other_stack sc.s) (with_byte (opened sc.a d sc.l) (Frame d i) h) sc.w)
          passes_by e =
              let called = calls_parts x sc.p sc.a d (and_parts (may_call q sc.p sc.a d) (nat_lt i (x.rest.parameter_bytes d)) (and_parts (may_call q sc.p sc.a d && nat_lt i (x.rest.parameter_bytes d)) (nat_lt i (x.rest.frame_bytes d)) e).0).0 in
              let rises = sound.rises sc.p d called.0 in
              Moves (record { copy = sc.p; passing = Some d; jobs = js; holds = sc.s; memory = with_byte (opened sc.a d sc.m) (Frame d i) h; second = with_byte (opened sc.a d sc.l) (Frame d i) h; world = sc.w; here = low; known = marked (known_open sc.a d sc.known) (Frame d i) Same })
              (record {
                alike = set_same x.lent (known_open sc.a d sc.known) (opened sc.a d sc.m) (opened sc.a d sc.l) (Frame d i) Same h h refl refl (open_alike x.lent sc.a d sc.known sc.m sc.l sc.alike);
                link = pass_link d i far (marked (known_open sc.a d sc.known) (Frame d i) Same) off link;
                stands = stands_kept x (x.rank d) sc.p sc.known (marked (known_open sc.a d sc.known) (Frame d i) Same) sc.s (λ c j f. off c j (differs c d f)) (omega arith) sc.stands;
                passes = (rises, called.1, λ c j f. below_same_at x (same_byte (Frame c j) (Frame d i)) (known_open sc.a d sc.known (Frame c j)) (fresh_below sc.a sc.p d sc.known sc.passes called.2 c j f));
                runs = runs;
              }) refl refl

      pub put_step : (to : Byte) → Below sc.p low (marked sc.here to k)
          → Outcome x (put q to h (ones js) sc.p sc.a (one_stack sc.s) sc.m sc.w) (put r to h (others js) sc.p sc.a (other_stack sc.s) sc.l sc.w)
      unfolding put
      put_step (Static n i) link = when_both x (is_valid q sc.p (Static n i)) (is_valid r sc.p (Static n i)) _ _ (λ e. (sym (valid_same x sc.p (Static n i)) ∙ e, write_step (Static n i) refl link))
      put_step (Frame d i) link = by_copy (nat_eq d sc.p) refl
        where
          by_copy : (t : Bool) → nat_eq d sc.p ≡ t
              → Outcome x (if not t then passed q (Frame d i) h (ones js) sc.p sc.a (one_stack sc.s) sc.m sc.w else when (is_valid q sc.p (Frame d i)) (written q (Frame d i) h (ones js) sc.p sc.a (one_stack sc.s) sc.m sc.w))
              (if not t then passed r (Frame d i) h (others js) sc.p sc.a (other_stack sc.s) sc.l sc.w else when (is_valid r sc.p (Frame d i)) (written r (Frame d i) h (others js) sc.p sc.a (other_stack sc.s) sc.l sc.w))
          by_copy true is = when_both x (is_valid q sc.p (Frame d i)) (is_valid r sc.p (Frame d i)) _ _ (λ e. (sym (valid_same x sc.p (Frame d i)) ∙ e, write_step (Frame d i) is link))
          by_copy false is = pass_step d i is link
      put_step (Result n i) link = when_both x (is_valid q sc.p (Result n i)) (is_valid r sc.p (Result n i)) _ _ (λ e. (sym (valid_same x sc.p (Result n i)) ∙ e, write_step (Result n i) refl link))
      put_step (Device n) link = when_both x (is_valid q sc.p (Device n)) (is_valid r sc.p (Device n)) _ _ (λ e. (sym (valid_same x sc.p (Device n)) ∙ e, write_step (Device n) refl link))
