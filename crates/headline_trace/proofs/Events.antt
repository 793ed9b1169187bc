-- Runs of symbolic code: a step makes one event at most, and a run is one in the sense of links.
use Rattle.std.proofs.Common.{◌≡◌, ℕ, zero, suc, ◌+◌, ◌-◌, ◌≤◌, ◌⊎◌, inl, inr, Bool, true, false, List, [], ◌∷◌, ◌++◌, length, take, Option, Some, None, refl, sym, ap, ◌∙◌, subst, arith}
use Rattle.std.proofs.lemmas.List.{take-append-le, length-take}
use Rattle.std.proofs.Math.Seq.{take-length, take-append_seam}
use Rattle.std.specs.Prelude.{if◌then◌else◌}
use Rattle.pic_world.specs.Control.{is_stored, with_stored}
use Rattle.pic_world.specs.World.{Outside, World, Happening, Ended, arrived, entered, left, noted, is_due, after_device_read, after_device_write, input_used, value_kept}
use Rattle.run_links.specs.Runs.{Run, IsRun, IsFrontOf}
use Rattle.sym_code.specs.Cost.{Prices, cost_by, step_cost, least_prices, most_prices}
use Rattle.sym_code.specs.Effect.{Setting, Thread, Memory, Effect, Stuck, Quiet, Reads, Writes, Leaves, Ends, Rests, Loud, Port, Shared, effect}
use Rattle.sym_code.specs.Machine.{Machine, Entry, Next, Goes, Stops, Still, Made, sym_step, sym_step_at, sym_run, gone, settled, acted, act, moved, checked, made_write, read_by, wrote_by, is_forbidden, lands_at, enter, running, with_entry, at_front, write_by}
use Rattle.sym_code.specs.Programs.{front, lands}
use Rattle.sym_code.specs.Runs.{run_of, is_still, goes_on}
use Rattle.sym_code.specs.declared.code.BlockName.{BlockName}
use Rattle.sym_code.specs.declared.code.BlockName.TheVariants.{Copy}

-- ---- one event at most
abbrev pub Longer : List (Happening ℕ) → List (Happening ℕ) → Type 0
Longer xs ys = (ys ≡ xs) ⊎ ((e : Happening ℕ) × (ys ≡ xs ++ e ∷ []))

pub front_of_same : {E : Type 0} (xs : List E) → IsFrontOf xs xs
front_of_same xs = take-length xs

pub front_length : {E : Type 0} (xs ys : List E) → IsFrontOf xs ys → length xs ≤ length ys
front_length xs ys f = let q : length (take (length xs) ys) ≡ length xs = ap length f in let l = length-take (length xs) ys in omega arith

pub front_on : {E : Type 0} (xs ys zs : List E) → IsFrontOf xs ys → IsFrontOf xs (ys ++ zs)
front_on xs ys zs f = take-append-le (length xs) ys zs (front_length xs ys f) ∙ f

pub front_of_more : {E : Type 0} (xs ys : List E) → IsFrontOf xs (xs ++ ys)
front_of_more xs ys = take-append_seam xs ys

-- the world behind an event has one event more
noted_longer : (e : Happening ℕ) (w v : World ℕ) → v.trace ≡ w.trace → Longer w.trace (noted e v).trace
noted_longer e w v same = inr (e, ap (λ xs. xs ++ e ∷ []) same)

pub input_same : (address : ℕ) (w : World ℕ) → (input_used address w).trace ≡ w.trace
input_same address w = by (is_stored address) where
  by : (b : Bool) → (if b then w else record w { taken = w.taken + 1 }).trace ≡ w.trace
  by true = refl
  by false = refl

pub kept_same : (address value : ℕ) (w : World ℕ) → (value_kept address value w).trace ≡ w.trace
kept_same address value w = by (is_stored address) where
  by : (b : Bool) → (if b then record w { control = with_stored address value w.control } else w).trace ≡ w.trace
  by true = refl
  by false = refl

pub read_longer : (o : Outside) (m : Memory) (w : World ℕ) (b : Loud) → Longer w.trace (read_by o m w b).trace
unfolding after_device_read
read_longer o m w (Port address) = noted_longer _ w (input_used address w) (input_same address w)
read_longer o m w (Shared k cell) = inr (_, refl)

wrote_longer : (w : World ℕ) (b : Loud) (v : ℕ) → Longer w.trace (wrote_by w b v).trace
unfolding after_device_write
wrote_longer w (Port address) v = noted_longer _ w (value_kept address v w) (kept_same address v w)
wrote_longer w (Shared k cell) v = inr (_, refl)

abbrev MadeLonger : Machine → Option Made → Type 0
MadeLonger t None = Unit {0}
MadeLonger t (Some x) = Longer t.world.trace x.world.trace

moved_longer : (g : Setting) (t : Machine) (x : Option Made) → MadeLonger t x → Longer t.world.trace (gone t (moved t (checked g.program x))).world.trace
moved_longer g t None l = inl refl
moved_longer g t (Some x) l = by (lands_at g.program x.thread.at) where
  by : (b : Bool) → Longer t.world.trace (gone t (moved t (if b then Some x else None))).world.trace
  by true = l
  by false = inl refl

write_longer : (t : Machine) (b : Loud) (v : ℕ) (th : Thread) → MadeLonger t (made_write t.world b v th)
write_longer t b v th = by (is_forbidden t.world b v) where
  by : (f : Bool) → MadeLonger t (if f then None else Some (record { thread = th; write = write_by b v; world = wrote_by t.world b v }))
  by true = tt
  by false = wrote_longer t.world b v

acted_longer : (g : Setting) (o : Outside) (t : Machine) (x : Effect) → Longer t.world.trace (gone t (acted g o t x)).world.trace
unfolding acted left
acted_longer g o t Stuck = inl refl
acted_longer g o t (Quiet th x) = moved_longer g t (Some (record { thread = th; write = x; world = t.world })) (inl refl)
acted_longer g o t (Reads b next) = moved_longer g t (Some _) (read_longer o t.memory t.world b)
acted_longer g o t (Writes b v th) = moved_longer g t (made_write t.world b v th) (write_longer t b v th)
acted_longer g o t Leaves = inl refl
acted_longer g o t (Ends th) = inr (Ended, refl)
acted_longer g o t Rests = inl refl

entered_longer : (g : Setting) (e : Entry) (h : Option ℕ) (t : Machine) → Longer t.world.trace (gone t (enter g e h t)).world.trace
unfolding entered
entered_longer g e None t = inl refl
entered_longer g e (Some h) t = by (lands g.program (front g.program (Copy h))) where
  by : (b : Bool) → Longer t.world.trace (gone t (if b then Goes (with_entry (at_front g.program h (e t.entries)) t) else Stops)).world.trace
  by true = inl refl
  by false = inl refl

gone_settled : (o : Outside) (t : Machine) (x : Next) → Longer t.world.trace (gone (settled o t) x).world.trace → Longer t.world.trace (gone t x).world.trace
unfolding arrived
gone_settled o t (Goes u) l = l
gone_settled o t Stops l = inl refl
gone_settled o t Still l = inl refl

-- a step makes one event at most
pub step_longer : (g : Setting) (e : Entry) (o : Outside) (t : Machine) → Longer t.world.trace (gone t (sym_step g e o t)).world.trace
unfolding sym_step arrived
step_longer g e o t = gone_settled o t (sym_step_at g e o (settled o t)) (by (is_due (settled o t).world)) where
  u : Machine
  u = settled o t

  by : (b : Bool) → Longer t.world.trace (gone u (if b then enter g e g.program.handler u else act g o u)).world.trace
  by true = entered_longer g e g.program.handler u
  by false = acted_longer g o u (effect g u.world.inside (running u) u.memory)

module _ (g : Setting) (price : BlockName → ℕ → ℕ) (e : Entry) (o : Outside) (t : Machine) where
  abbrev r : Run (Happening ℕ)
  r = run_of g price e o t

  pub next_longer : (n : ℕ) → Longer (r.trace n) (r.trace (suc n))
  unfolding sym_run
  next_longer n = step_longer g e o (sym_run g e o n t)

  longer_front : (xs ys zs : List (Happening ℕ)) → IsFrontOf xs ys → Longer ys zs → IsFrontOf xs zs
  longer_front xs ys zs f (inl same) = subst (IsFrontOf xs) (sym same) f
  longer_front xs ys zs f (inr more) = subst (IsFrontOf xs) (sym more.1) (front_on xs ys (more.0 ∷ []) f)

  grows_by : (d i : ℕ) → IsFrontOf (r.trace i) (r.trace (d + i))
  grows_by zero i = let z : zero + i ≡ i = omega arith in subst (λ k. IsFrontOf (r.trace i) (r.trace k)) (sym z) (front_of_same (r.trace i))
  grows_by (suc d) i = let z : suc d + i ≡ suc (d + i) = omega arith in
      subst (λ k. IsFrontOf (r.trace i) (r.trace k)) (sym z) (longer_front (r.trace i) (r.trace (d + i)) (r.trace (suc (d + i))) (grows_by d i) (next_longer (d + i)))

  still_stays : (d i : ℕ) → r.rests i ≡ true → sym_run g e o (d + i) t ≡ sym_run g e o i t
  unfolding sym_run
  still_stays zero i rest = let z : zero + i ≡ i = omega arith in ap (λ k. sym_run g e o k t) z
  still_stays (suc d) i rest =
      let z : suc d + i ≡ suc (d + i) = omega arith in
      ap (λ k. sym_run g e o k t) z ∙ ap (λ u. gone u (sym_step g e o u)) (still_stays d i rest) ∙ still (sym_step g e o (sym_run g e o i t)) rest where
        still : (x : Next) → is_still x ≡ true → gone (sym_run g e o i t) x ≡ sym_run g e o i t
        still (Goes u) is = absurd (cc)
        still Stops is = refl
        still Still is = refl

  still_goes : (x : Next) → is_still x ≡ true → goes_on x ≡ true
  still_goes (Goes u) is = refl
  still_goes Stops is = absurd (cc)
  still_goes Still is = refl

  costs_by : (p : Prices) (d i : ℕ) → cost_by g p e o i t ≤ cost_by g p e o (d + i) t
  unfolding cost_by
  costs_by p zero i = let z : zero + i ≡ i = omega arith in let c : cost_by g p e o (zero + i) t ≡ cost_by g p e o i t = ap (λ k. cost_by g p e o k t) z in omega arith
  costs_by p (suc d) i =
      let z : suc d + i ≡ suc (d + i) = omega arith in
      let c : cost_by g p e o (suc d + i) t ≡ cost_by g p e o (d + i) t + step_cost g p o (sym_run g e o (d + i) t) = ap (λ k. cost_by g p e o k t) z in
      let l = costs_by p d i in omega arith

  -- a run of symbolic code is a run
  pub is_run : IsRun r
  is_run = record {
    grows = λ i j le. let z : (j - i) + i ≡ j = omega arith in subst (λ k. IsFrontOf (r.trace i) (r.trace k)) z (grows_by (j - i) i);
    dearer = λ i j le. let z : (j - i) + i ≡ j = omega arith in subst (λ k. r.most i ≤ r.most k) z (costs_by (most_prices price) (j - i) i);
    longer = λ i j le. let z : (j - i) + i ≡ j = omega arith in subst (λ k. r.least i ≤ r.least k) z (costs_by least_prices (j - i) i);
    stays = λ i j le rest. let z : (j - i) + i ≡ j = omega arith in subst (λ k. r.trace k ≡ r.trace i) z (ap (λ (u : Machine). u.world.trace) (still_stays (j - i) i rest));
    waits = λ i j le rest. let z : (j - i) + i ≡ j = omega arith in
        subst (λ k. r.goes k ≡ true) z (ap (λ u. goes_on (sym_step g e o u)) (still_stays (j - i) i rest) ∙ still_goes (sym_step g e o (sym_run g e o i t)) rest);
  }
