-- Instructions one behind the other, each with its price.
use Rattle.std.proofs.Common.{◌≡◌, ℕ, zero, suc, ◌+◌, ◌%◌, ◌<◌, ◌≤◌, Bool, true, false, not, nat_eq, if◌then◌else◌, List, [], ◌∷◌, length, take, drop, Option, Some, None, option_map, slice_get, refl, sym, ap, ◌∙◌, subst, arith}
use Rattle.pic_world.specs.World.{World}
use Rattle.pic_world.proofs.WorldLaws.{arrived_as}
use Rattle.core_code.specs.Bytes as bytes
use Rattle.core_code.specs.Bytes.{Held}
use Rattle.core_code.specs.Cost.{one_if, is_kept}
use Rattle.core_code.specs.Machine as core
use Rattle.core_code.specs.Machine.{Task, Waiting}
use Rattle.core_code.specs.declared.code.Byte.{Byte}
use Rattle.math_helpers.specs.Shape.{is_straight, sum_from}
use Rattle.sym_code.specs.Cost.{Prices, sure_prices, most_prices, instruction_cost, thread_cost}
use Rattle.sym_code.specs.Effect.{Setting, Thread, Memory, Write, written, Effect, Stuck, Quiet, effect, effect_of, effect_at, effect_if, root_of, is_in_page, goto, jump_to}
use Rattle.sym_code.specs.Layout.{shown}
use Rattle.sym_code.specs.Machine as sym_machine
use Rattle.sym_code.specs.Machine.{Machine, sym_step}
use Rattle.sym_code.specs.Marks.{is_marked}
use Rattle.sym_code.specs.Programs.{Position, position, fetched, is_word, lands, stand, onward, label_from}
use Rattle.sym_code.specs.Registers.{Registers, Fits}
use Rattle.sym_code.specs.declared.code.BlockName.TheVariants as names
use Rattle.sym_code.specs.declared.code.Label.TheVariants.{Inner}
use Rattle.sym_code.specs.declared.code.Sym.{Sym}
use Rattle.sym_code.specs.declared.code.Sym.TheVariants as syms
use Rattle.sym_code.specs.declared.code.Target.TheVariants as targets
use Rattle.select_wide.specs.Direct.{clears, is_open}
use Rattle.select_trace.proofs.Truths.{if_true, or_left}
use Rattle.select_trace.proofs.Standing.{Has, stand_word, stand_label}
use Rattle.select_trace.proofs.Sites.{Site, layout}
use Rattle.select_trace.proofs.Machines.{at, lower, Calm, inside_as, running_at, lower_at, quiet_goes, cost_at}
use Rattle.select_trace.proofs.Live.{IsUser, is_live, below, Passing, Chain}
use Rattle.select_trace.proofs.Memory.{Agree}
use Rattle.select_trace.proofs.Blocks.{block, is_leaver, next_lands, here_lands}
use Rattle.select_trace.proofs.Relation.{place, Here, Frames, AreBytes, Stands, Opens, least_at, most_at, stop, further, Went, weaken}
use Rattle.select_trace.proofs.Prices.{dear_words, most_is}

abbrev pub thread : Site → ℕ → ℕ → List Position → Registers → Thread
thread s f n ps r = record { rest = None; at = Some (place s f n); stack = ps; registers = r }

abbrev pub machine : ℕ → Option ℕ → List Task → List Waiting → bytes.Memory → World Held → core.Machine
machine f pr c st cm w = record { copy = f; passing = pr; code = c; stack = st; memory = cm; world = w }

-- what holds of both machines beside the code
pub record Fit (s : Site) (t : Machine) (wd : World Held) (f : ℕ) (pr : Option ℕ) (st : List Waiting) (loops : List ℕ) (ps : List Position) (cm : bytes.Memory) (m : Memory) : Type 0 where
  pub inside : wd.inside ≡ t.world.inside
  pub control : AreBytes wd.control
  pub agree : Agree s (is_live f pr (below st)) cm m
  pub bytes : (k : ℕ) → m k < 256
  pub passing : Passing s f pr
  pub chain : Chain s f st
  pub root : s.q.root f ≡ root_of wd.inside
  pub level : length ps ≤ s.chosen.level f
  pub frames : Frames s f st loops ps (lower t)

pub stands_at : (s : Site) (t : Machine) (wd : World Held) (f : ℕ) (pr : Option ℕ) (c : List Task) (st : List Waiting) (loops : List ℕ) (cm : bytes.Memory) (m : Memory) (th : Thread)
    → Fit s t wd f pr st loops th.stack cm m → Fits th.registers → Here s f loops th c → Stands s (machine f pr c st cm wd) (at s t th m wd)
stands_at s t wd f pr c st loops cm m th fit fits here =
    let q = sym (running_at s t th m wd) in
    record {
      loops = loops;
      world = arrived_as (shown (layout s)) s.o wd;
      inside = inside_as s wd;
      control = fit.control;
      agree = fit.agree;
      bytes = fit.bytes;
      passing = fit.passing;
      chain = fit.chain;
      root = fit.root;
      level = subst (λ (x : Thread). length x.stack ≤ s.chosen.level f) q fit.level;
      registers = subst (λ (x : Thread). Fits x.registers) q fits;
      here = subst (λ (x : Thread). Here s f loops x c) q here;
      frames = subst (λ (x : Thread). Frames s f st loops x.stack (lower (at s t th m wd))) q (subst (λ l. Frames s f st loops th.stack l) (sym (lower_at s t th m wd fit.inside)) fit.frames);
    }

pub stays : (s : Site) (t : Machine) (d : core.Machine) → Stands s d t → Went s t d 0 0
stays s t d st = record { k = 0; u = t; path = stop t 0 0 (omega arith); stands = st }

-- ---- what instructions cost
-- the prices of some instructions from n on
abbrev pub total : Site → ℕ → ℕ → List Sym → ℕ
total s f n [] = 0
total s f n (x ∷ xs) = s.price (names.Copy f) n + total s f (suc n) xs

total_is : (s : Site) (f n : ℕ) (x : List Sym) → total s f n x ≡ sum_from (s.price (names.Copy f)) n x
total_is s f n [] = refl
total_is s f n (a ∷ x) = ap (λ k. s.price (names.Copy f) n + k) (total_is s f (suc n) x ∙ ap (λ k. sum_from (s.price (names.Copy f)) k x) (omega arith))

cons_same : (a c : Sym) (b x : List Sym) → Some a ≡ Some c → b ≡ x → a ∷ b ≡ c ∷ x
cons_same a c b x e q = let h : a ≡ c = cc in rw (h, q) refl

taken : (b : List Sym) (n : ℕ) (x : List Sym) → Has b n x → take (length x) (drop n b) ≡ x
taken b n [] h = refl
taken [] zero (a ∷ x) h = absurd (none 0 a h.0)
  where
    none : (n : ℕ) (x : Sym) → slice_get {X = Sym} [] n ≡ Some x → ⊥
    none zero x e = absurd (cc)
    none (suc n) x e = absurd (cc)
taken [] (suc n) (a ∷ x) h = absurd (none (suc n) a h.0)
  where
    none : (n : ℕ) (x : Sym) → slice_get {X = Sym} [] n ≡ Some x → ⊥
    none zero x e = absurd (cc)
    none (suc n) x e = absurd (cc)
taken (c ∷ b) zero (a ∷ x) h = cons_same c a (take (length x) b) x h.0 (taken b 0 x (less c b 0 x h.1))
  where
    less : (c : Sym) (b : List Sym) (n : ℕ) (x : List Sym) → Has (c ∷ b) (suc n) x → Has b n x
    less c b n [] h = tt
    less c b n (y ∷ x) h = (h.0, less c b (suc n) x h.1)
taken (c ∷ b) (suc n) (a ∷ x) h = taken b n (a ∷ x) (h.0, less c b (suc n) x h.1)
  where
    less : (c : Sym) (b : List Sym) (n : ℕ) (x : List Sym) → Has (c ∷ b) (suc n) x → Has b n x
    less c b n [] h = tt
    less c b n (y ∷ x) h = (h.0, less c b (suc n) x h.1)

pub dear : (s : Site) (f : ℕ) → IsUser s f → (n hi : ℕ) (x : List Sym) → Has (block s f) n x → is_straight x ≡ true → dear_words x ≤ hi → total s f n x ≤ hi
dear s f u n hi x h q le =
    let a = (s.chosen.prices f u.copy u.there u.user).each n x (taken (block s f) n x h) q in
    let all = most_is x in
    let e = total_is s f n x in
    omega (arith, a, all, e, le)

pub priced : (s : Site) (v : Machine) (d : core.Machine) (f : ℕ) → IsUser s f → (n lo lo' hi : ℕ) (x : List Sym) → Has (block s f) n x → is_straight x ≡ true → dear_words x ≤ hi → lo' ≤ lo → Went s v d lo (total s f n x) → Went s v d lo' hi
priced s v d f u n lo lo' hi x h q le ll r = weaken s v d lo (total s f n x) lo' hi ll (dear s f u n hi x h q le) r

-- An instruction that no pass leaves out counts one, and any other one may count nothing.
abbrev pub counted : Site → Sym → ℕ
counted s x = one_if (is_marked s.q.variable_bytes x)

-- what a write of a byte counts, and a read of it
abbrev pub of_byte : Site → Byte → ℕ
of_byte s b = one_if (is_kept s.q.variable_bytes b)

pub is_counted : (s : Site) (f : ℕ) → IsUser s f → (n : ℕ) (x : Sym) → slice_get (block s f) n ≡ Some x → counted s x ≤ s.sure (names.Copy f) n
is_counted s f u n x h = by (is_marked s.q.variable_bytes x) refl
  where
    by : (b : Bool) → is_marked s.q.variable_bytes x ≡ b → one_if b ≤ s.sure (names.Copy f) n
    by true e = s.chosen.sures f u.copy u.there u.user n x h e
    by false e = omega arith

-- ---- the instruction that stands at n
effect_some : (g : Setting) (i : Bool) (th : Thread) (m : Memory) (p : Position) → effect_at g i th m (Some p) ≡ effect_if g i p th m (slice_get (g.program.block p.block) p.index)
effect_some g true th m p = refl
effect_some g false th m p = refl

pub effect_word : (s : Site) (i : Bool) (f n : ℕ) (ps : List Position) (r : Registers) (m : Memory) (x : Sym) → slice_get (block s f) n ≡ Some x → is_word (Some x) ≡ true
    → effect s.g i (thread s f n ps r) m ≡ effect_of s.g i (position (names.Copy f) n) (thread s f n ps r) m x
unfolding effect
effect_word s i f n ps r m x h w =
    let th = thread s f n ps r in
    ap (λ p. effect_at s.g i th m (Some p)) (stand_word s.g.program (names.Copy f) n x h w)
    ∙ effect_some s.g i th m (position (names.Copy f) n)
    ∙ ap (effect_if s.g i (position (names.Copy f) n) th m) h

-- a thread that accesses no hidden byte through FSR next
pub opens_at : (s : Site) (t : Machine) (th : Thread) (m : Memory) (wc : World Held) → is_open s.hidden s.g.program th ≡ true → Opens s (at s t th m wc)
opens_at s t th m wc clear due = subst (λ (x : Thread). is_open s.hidden s.g.program x ≡ true) (sym (running_at s t th m wc)) clear

pub open_word : (s : Site) (f n : ℕ) (ps : List Position) (r : Registers) (x : Sym) → slice_get (block s f) n ≡ Some x → is_word (Some x) ≡ true → clears s.hidden r (Some x) ≡ true → is_open s.hidden s.g.program (thread s f n ps r) ≡ true
open_word s f n ps r x h w clear = ap (λ (p : Position). clears s.hidden r (fetched s.g.program p)) (stand_word s.g.program (names.Copy f) n x h w) ∙ ap (clears s.hidden r) h ∙ clear

-- what an effect that isn't the handler's end costs
abbrev pub IsPlain : Effect → Type 0
IsPlain y = (c : Prices) (p : Position) → instruction_cost c (Some p) y ≡ c.word p.block p.index

module _ (s : Site) (t : Machine) (wc : World Held) (calm : Calm s wc) (f : ℕ) (ps : List Position) where
  word_cost : (c : Prices) (n : ℕ) (r : Registers) (m : Memory) (x : Sym) (y : Effect) → slice_get (block s f) n ≡ Some x → is_word (Some x) ≡ true → effect_of s.g wc.inside (position (names.Copy f) n) (thread s f n ps r) m x ≡ y → IsPlain y
      → thread_cost s.g c wc.inside (thread s f n ps r) m None ≡ c.word (names.Copy f) n
  word_cost c n r m x y h w q plain =
      ap (instruction_cost c (Some (place s f n))) (effect_word s wc.inside f n ps r m x h w ∙ q)
      ∙ plain c (place s f n)
      ∙ ap (λ (p : Position). c.word p.block p.index) (stand_word s.g.program (names.Copy f) n x h w)

  -- an instruction that goes to v, and then what follows
  pub word_to : (u : IsUser s f) (v : Machine) (n : ℕ) (r : Registers) (m : Memory) (x : Sym) (y : Effect) (d : core.Machine) (lo hi : ℕ) → slice_get (block s f) n ≡ Some x → is_word (Some x) ≡ true → clears s.hidden r (Some x) ≡ true → effect_of s.g wc.inside (position (names.Copy f) n) (thread s f n ps r) m x ≡ y → IsPlain y
      → sym_step s.g s.e s.o (at s t (thread s f n ps r) m wc) ≡ sym_machine.Goes v → Went s v d lo hi → Went s (at s t (thread s f n ps r) m wc) d (counted s x + lo) (s.price (names.Copy f) n + hi)
  word_to u v n r m x y d lo hi h w clear q plain step went =
      let th = thread s f n ps r in
      let a : least_at s (at s t th m wc) ≡ s.sure (names.Copy f) n = cost_at s t wc calm th m (sure_prices s.sure) ∙ word_cost (sure_prices s.sure) n r m x y h w q plain in
      let b : most_at s (at s t th m wc) ≡ s.price (names.Copy f) n = cost_at s t wc calm th m (most_prices s.price) ∙ word_cost (most_prices s.price) n r m x y h w q plain in
      let counts = is_counted s f u n x h in
      record {
        k = suc went.k;
        u = went.u;
        path = further (at s t th m wc) v went.u went.k lo hi (counted s x + lo) (s.price (names.Copy f) n + hi) (opens_at s t th m wc (open_word s f n ps r x h w clear)) step (omega (arith, a, counts)) (omega (arith, b)) went.path;
        stands = went.stands;
      }

  -- an instruction without an event
  pub word_quiet : (u : IsUser s f) (n : ℕ) (r : Registers) (m : Memory) (x : Sym) (th' : Thread) (wr : Option Write) (d : core.Machine) (lo hi : ℕ) → slice_get (block s f) n ≡ Some x → is_word (Some x) ≡ true → clears s.hidden r (Some x) ≡ true
      → effect_of s.g wc.inside (position (names.Copy f) n) (thread s f n ps r) m x ≡ Quiet th' wr → sym_machine.lands_at s.g.program th'.at ≡ true
      → Went s (at s t th' (written wr m) wc) d lo hi → Went s (at s t (thread s f n ps r) m wc) d (counted s x + lo) (s.price (names.Copy f) n + hi)
  word_quiet u n r m x th' wr d lo hi h w clear q l went =
      word_to u (at s t th' (written wr m) wc) n r m x (Quiet th' wr) d lo hi h w clear q (λ c p. refl)
      (quiet_goes s t wc calm (thread s f n ps r) m th' wr (effect_word s wc.inside f n ps r m x h w ∙ q) l) went

  -- that goes on behind it
  pub word_counted : (u : IsUser s f) (n : ℕ) (r : Registers) (m : Memory) (x : Sym) (r' : Registers) (wr : Option Write) (d : core.Machine) (lo hi : ℕ) → slice_get (block s f) n ≡ Some x → is_word (Some x) ≡ true → clears s.hidden r (Some x) ≡ true → is_leaver x ≡ false
      → effect_of s.g wc.inside (position (names.Copy f) n) (thread s f n ps r) m x ≡ Quiet (thread s f (n + 1) ps r') wr
      → Went s (at s t (thread s f (suc n) ps r') (written wr m) wc) d lo hi → Went s (at s t (thread s f n ps r) m wc) d (counted s x + lo) (s.price (names.Copy f) n + hi)
  word_counted u n r m x r' wr d lo hi h w clear l q went =
      word_quiet u n r m x (thread s f (suc n) ps r') wr d lo hi h w clear (q ∙ ap (λ k. Quiet (thread s f k ps r') wr) (omega arith)) (next_lands s f u n x h l) went

  -- the same, where it isn't asked whether the instruction counts
  pub word : (u : IsUser s f) (n : ℕ) (r : Registers) (m : Memory) (x : Sym) (r' : Registers) (wr : Option Write) (d : core.Machine) (lo hi : ℕ) → slice_get (block s f) n ≡ Some x → is_word (Some x) ≡ true → clears s.hidden r (Some x) ≡ true → is_leaver x ≡ false
      → effect_of s.g wc.inside (position (names.Copy f) n) (thread s f n ps r) m x ≡ Quiet (thread s f (n + 1) ps r') wr
      → Went s (at s t (thread s f (suc n) ps r') (written wr m) wc) d lo hi → Went s (at s t (thread s f n ps r) m wc) d lo (s.price (names.Copy f) n + hi)
  word u n r m x r' wr d lo hi h w clear l q went =
      weaken s (at s t (thread s f n ps r) m wc) d (counted s x + lo) (s.price (names.Copy f) n + hi) lo (s.price (names.Copy f) n + hi) (omega arith) (omega arith)
      (word_counted u n r m x r' wr d lo hi h w clear l q went)

  pub onward_is : (n : ℕ) (y : Sym) (b : Bool) → slice_get (block s f) (suc n) ≡ Some y → is_word (Some y) ≡ true → onward s.g.program (position (names.Copy f) n) b ≡ place s f (if b then suc (suc n) else suc n)
  onward_is n y false h w = ap (λ k. stand s.g.program (position (names.Copy f) k)) (omega arith)
  onward_is n y true h w =
      ap (λ k. stand s.g.program (position (stand s.g.program (position (names.Copy f) k)).block ((stand s.g.program (position (names.Copy f) k)).index + 1))) (let e : n + 1 ≡ suc n = omega arith in e)
      ∙ ap (λ (p : Position). stand s.g.program (position p.block (p.index + 1))) (stand_word s.g.program (names.Copy f) (suc n) y h w)
      ∙ ap (λ k. stand s.g.program (position (names.Copy f) k)) (omega arith)

  pub skip_lands : (u : IsUser s f) (n : ℕ) (x y : Sym) (b : Bool) → slice_get (block s f) n ≡ Some x → is_leaver x ≡ false → slice_get (block s f) (suc n) ≡ Some y → is_leaver y ≡ false → lands s.g.program (place s f (if b then suc (suc n) else suc n)) ≡ true
  skip_lands u n x y false h l k j = next_lands s f u n x h l
  skip_lands u n x y true h l k j = next_lands s f u (suc n) y k j

  -- a skip over the instruction y
  pub skip_counted : (u : IsUser s f) (n : ℕ) (r : Registers) (m : Memory) (x y : Sym) (b : Bool) (r' : Registers) (d : core.Machine) (lo hi : ℕ) → slice_get (block s f) n ≡ Some x → is_word (Some x) ≡ true → clears s.hidden r (Some x) ≡ true → is_leaver x ≡ false
      → slice_get (block s f) (suc n) ≡ Some y → is_word (Some y) ≡ true → is_leaver y ≡ false
      → effect_of s.g wc.inside (position (names.Copy f) n) (thread s f n ps r) m x ≡ Quiet (record { rest = None; at = Some (onward s.g.program (position (names.Copy f) n) b); stack = ps; registers = r' }) None
      → Went s (at s t (thread s f (if b then suc (suc n) else suc n) ps r') m wc) d lo hi → Went s (at s t (thread s f n ps r) m wc) d (counted s x + lo) (s.price (names.Copy f) n + hi)
  skip_counted u n r m x y b r' d lo hi h w clear l k v j q went =
      word_quiet u n r m x (thread s f (if b then suc (suc n) else suc n) ps r') None d lo hi h w clear
      (q ∙ ap (λ p. Quiet (record { rest = None; at = Some p; stack = ps; registers = r' }) None) (onward_is n y b k v))
      (skip_lands u n x y b h l k j) went

  pub skip : (u : IsUser s f) (n : ℕ) (r : Registers) (m : Memory) (x y : Sym) (b : Bool) (r' : Registers) (d : core.Machine) (lo hi : ℕ) → slice_get (block s f) n ≡ Some x → is_word (Some x) ≡ true → clears s.hidden r (Some x) ≡ true → is_leaver x ≡ false
      → slice_get (block s f) (suc n) ≡ Some y → is_word (Some y) ≡ true → is_leaver y ≡ false
      → effect_of s.g wc.inside (position (names.Copy f) n) (thread s f n ps r) m x ≡ Quiet (record { rest = None; at = Some (onward s.g.program (position (names.Copy f) n) b); stack = ps; registers = r' }) None
      → Went s (at s t (thread s f (if b then suc (suc n) else suc n) ps r') m wc) d lo hi → Went s (at s t (thread s f n ps r) m wc) d lo (s.price (names.Copy f) n + hi)
  skip u n r m x y b r' d lo hi h w clear l k v j q went =
      weaken s (at s t (thread s f n ps r) m wc) d (counted s x + lo) (s.price (names.Copy f) n + hi) lo (s.price (names.Copy f) n + hi) (omega arith) (omega arith)
      (skip_counted u n r m x y b r' d lo hi h w clear l k v j q went)

  pub goto_is : (i : Bool) (n : ℕ) (r : Registers) (m : Memory) (k j : ℕ) → label_from (block s f) (Inner k) 0 ≡ Some j
      → effect_of s.g i (position (names.Copy f) n) (thread s f n ps r) m (syms.Goto (targets.Label (Inner k))) ≡ Quiet (thread s f j ps r) None
  unfolding effect_of
  goto_is i n r m k j e =
      if_true (is_in_page s.g (position (names.Copy f) n) r (targets.Label (Inner k))) (goto s.g i (position (names.Copy f) n) (thread s f n ps r) (targets.Label (Inner k))) Stuck (or_left _ _ (ap not s.chosen.no_selects))
      ∙ ap (λ o. jump_to (thread s f n ps r) (option_map (λ z. stand s.g.program (position (names.Copy f) z)) o)) e

  -- what a jump to a label counts
  abbrev of_jump : ℕ → ℕ
  of_jump k = counted s (syms.Goto (targets.Label (Inner k)))

  jump_priced : (u : IsUser s f) (n : ℕ) (r : Registers) (m : Memory) (k j : ℕ) (d : core.Machine) (lo hi : ℕ) → slice_get (block s f) n ≡ Some (syms.Goto (targets.Label (Inner k))) → label_from (block s f) (Inner k) 0 ≡ Some j → slice_get (block s f) j ≡ Some (syms.Label (Inner k))
      → Went s (at s t (thread s f j ps r) m wc) d lo hi → Went s (at s t (thread s f n ps r) m wc) d (of_jump k + lo) (s.price (names.Copy f) n + hi)
  jump_priced u n r m k j d lo hi h e l went =
      word_quiet u n r m (syms.Goto (targets.Label (Inner k))) (thread s f j ps r) None d lo hi h refl refl (goto_is wc.inside n r m k j e) (here_lands s f u j (syms.Label (Inner k)) l) went

  -- a jump to a label, where it isn't asked whether it counts
  pub jump : (u : IsUser s f) (n : ℕ) (r : Registers) (m : Memory) (k j : ℕ) (d : core.Machine) (lo hi : ℕ) → slice_get (block s f) n ≡ Some (syms.Goto (targets.Label (Inner k))) → label_from (block s f) (Inner k) 0 ≡ Some j → slice_get (block s f) j ≡ Some (syms.Label (Inner k))
      → Went s (at s t (thread s f j ps r) m wc) d lo hi → Went s (at s t (thread s f n ps r) m wc) d lo (s.price (names.Copy f) n + hi)
  jump u n r m k j d lo hi h e l went =
      weaken s (at s t (thread s f n ps r) m wc) d (of_jump k + lo) (s.price (names.Copy f) n + hi) lo (s.price (names.Copy f) n + hi) (omega arith) (omega arith)
      (jump_priced u n r m k j d lo hi h e l went)

  -- one to a label with an even number counts
  pub jump_counted : (u : IsUser s f) (n : ℕ) (r : Registers) (m : Memory) (k j : ℕ) (d : core.Machine) (lo hi : ℕ) → k % 2 ≡ 0 → slice_get (block s f) n ≡ Some (syms.Goto (targets.Label (Inner k))) → label_from (block s f) (Inner k) 0 ≡ Some j → slice_get (block s f) j ≡ Some (syms.Label (Inner k))
      → Went s (at s t (thread s f j ps r) m wc) d lo hi → Went s (at s t (thread s f n ps r) m wc) d (1 + lo) (s.price (names.Copy f) n + hi)
  jump_counted u n r m k j d lo hi even h e l went =
      subst (λ c. Went s (at s t (thread s f n ps r) m wc) d (c + lo) (s.price (names.Copy f) n + hi)) (ap (λ z. one_if (nat_eq z 0)) even)
      (jump_priced u n r m k j d lo hi h e l went)

  -- where a label stands the code goes on behind it
  pub past : (n : ℕ) (r : Registers) (m : Memory) (k : ℕ) (d : core.Machine) (lo hi : ℕ) → slice_get (block s f) n ≡ Some (syms.Label (Inner k))
      → Went s (at s t (thread s f (suc n) ps r) m wc) d lo hi → Went s (at s t (thread s f n ps r) m wc) d lo hi
  past n r m k d lo hi h went =
      subst (λ (p : Position). Went s (at s t (record { rest = None; at = Some p; stack = ps; registers = r }) m wc) d lo hi) (sym (stand_label s.g.program (names.Copy f) n (Inner k) h)) went
