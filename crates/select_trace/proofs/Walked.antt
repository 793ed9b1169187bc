-- A path over bytes by number is a run of the symbolic machine, in a block all of whose instructions name own bytes.
use Rattle.std.proofs.Common.{◌≡◌, ℕ, zero, suc, ◌+◌, Bool, true, false, List, [], ◌∷◌, Option, Some, None, refl, ap, sym, ◌∙◌, subst, arith, drop, slice_get, option_map, get_or}
use Rattle.std.specs.Prelude.{not, ◌||◌, nat_eq, if◌then◌else◌}
use Rattle.std.proofs.lemmas.List.{drop-map}
use Rattle.std.proofs.lemmas.Option.{slice_get-map, slice_get_within, slice_get-get_or}
use Rattle.std.proofs.Math.Seq.{drop-cons}
use Rattle.core_code.specs.declared.code.Byte.{Byte}
use Rattle.sym_code.specs.Effect.{Setting, Thread, Memory, Effect, effect_of, jump_to, goto, back}
use Rattle.sym_code.specs.Effect as effect
use Rattle.sym_code.specs.Programs as real
use Rattle.sym_code.specs.Programs.{Program, Position, position, stand, behind, fetched, lands, is_word, labels_in_front}
use Rattle.sym_code.specs.Quiet.{Scene, quiet_by, quiet_run, quiet_cost, price_at}
use Rattle.sym_code.specs.Registers as registers
use Rattle.sym_code.specs.Registers.{Registers}
use Rattle.sym_code.specs.declared.code.BlockName.{BlockName}
use Rattle.sym_code.specs.declared.code.Label.TheVariants.{Inner, Halt, Restore}
use Rattle.sym_code.specs.declared.code.PlainOperation.TheVariants as plains
use Rattle.sym_code.specs.declared.code.Sym.{Sym}
use Rattle.sym_code.specs.declared.code.Sym.TheVariants as sym
use Rattle.sym_code.specs.declared.code.Target.TheVariants as targets
use Rattle.select_wide.specs.Direct.{is_indirect, direct_step, direct_run}
use Rattle.select_trace.specs.Run as run
use Rattle.select_trace.specs.Run.{Mode, Going, Skipping, Seeking, Returned, Machine, execute}
use Rattle.select_trace.specs.Positions.{Place, Goes, Back, Stuck, past_word, label_from, place, goes_if, leads, acts, step_at, due, Path}
use Rattle.select_trace.specs.Silent.{number_at, AreQuiet, IsStraight, IsSilent, plain, plain_code}
use Rattle.select_trace.proofs.Effects as effects
use Rattle.select_trace.proofs.Effects.{next, scene, does}
use Rattle.select_trace.proofs.QuietSteps.{runs_then, costs_then, step_is, stand_at}
use Rattle.select_trace.proofs.Straight as straights
use Rattle.select_trace.proofs.Straight.{IsOn, on, word_of, front_of}

-- ---- kinds of instructions
pub data Kind (P : Byte → Type 0) (x : Sym) : Type 0 where
  Named : (l : ℕ) → x ≡ sym.Label (Inner l) → Kind P x
  Jumps : (l : ℕ) → x ≡ sym.Goto (targets.Label (Inner l)) → Kind P x
  Turns : x ≡ sym.Plain plains.Return → Kind P x
  Straight : IsStraight P x → Kind P x

pub kind : (P : Byte → Type 0) (x : Sym) → IsSilent P x → Kind P x
kind P (sym.Goto (targets.Label (Inner n))) h = Jumps n refl
kind P (sym.Goto (targets.Label Halt)) h = absurd h
kind P (sym.Goto (targets.Label Restore)) h = absurd h
kind P (sym.Goto (targets.Block name)) h = absurd h
kind P (sym.Label (Inner n)) h = Named n refl
kind P (sym.Label Halt) h = absurd h
kind P (sym.Label Restore) h = absurd h
kind P (sym.Plain plains.Return) h = Turns refl
kind P (sym.Plain plains.Clrw) h = Straight h
kind P (sym.Plain plains.Nop) h = absurd h
kind P (sym.Plain plains.Retfie) h = absurd h
kind P (sym.File op file into) h = Straight h
kind P (sym.Movwf file) h = Straight h
kind P (sym.Clrf file) h = Straight h
kind P (sym.Bit op file n) h = Straight h
kind P (sym.Literal op value) h = Straight h
kind P (sym.Call target) h = absurd h
kind P (sym.SelectBank which to) h = absurd h
kind P (sym.SelectPage which target) h = absurd h
kind P (sym.Table table root) h = absurd h

abbrev pub AreSilent : (Byte → Type 0) → List Sym → Type 0
AreSilent P [] = Unit {0}
AreSilent P (x ∷ xs) = IsSilent P x × AreSilent P xs

pub silent_at : (P : Byte → Type 0) (xs : List Sym) (i : ℕ) (x : Sym) → AreSilent P xs → slice_get xs i ≡ Some x → IsSilent P x
silent_at P [] i x all e = absurd (cc)
silent_at P (y ∷ ys) zero x all e = subst (λ (z : Sym). IsSilent P z) (inside e) all.0
  where
    inside : {a b : Sym} → Some a ≡ Some b → a ≡ b
    inside e = cc
silent_at P (y ∷ ys) (suc i) x all e = silent_at P ys i x all.1 e

-- ---- places
real_word : (P : Byte → Type 0) (y : Sym) (xs : List Sym) (l n : ℕ) → IsStraight P y → real.label_from (y ∷ xs) (Inner l) n ≡ real.label_from xs (Inner l) (n + 1)
real_word P (sym.Label label) xs l n h = absurd h
real_word P (sym.File op file into) xs l n h = refl
real_word P (sym.Movwf file) xs l n h = refl
real_word P (sym.Clrf file) xs l n h = refl
real_word P (sym.Bit op file m) xs l n h = refl
real_word P (sym.Literal op value) xs l n h = refl
real_word P (sym.Plain op) xs l n h = refl
real_word P (sym.Call target) xs l n h = refl
real_word P (sym.Goto target) xs l n h = refl
real_word P (sym.SelectBank which to) xs l n h = refl
real_word P (sym.SelectPage which target) xs l n h = refl
real_word P (sym.Table table root) xs l n h = refl

plain_word : (z : run.Sym) (zs : List run.Sym) (l n : ℕ) → run.skipped z ≡ Going → label_from (z ∷ zs) l n ≡ label_from zs l (n + 1)
plain_word (run.Label m) zs l n f = absurd (cc)
plain_word (run.Row op a into) zs l n f = refl
plain_word (run.Movwf a) zs l n f = refl
plain_word (run.Clrf a) zs l n f = refl
plain_word (run.Test op a b) zs l n f = refl
plain_word (run.Flag op b) zs l n f = refl
plain_word (run.Movlw m) zs l n f = refl
plain_word (run.Addlw m) zs l n f = refl
plain_word (run.Xorlw m) zs l n f = refl
plain_word run.Clrw zs l n f = refl
plain_word run.Return zs l n f = refl
plain_word (run.Goto m) zs l n f = refl

abbrev SameLabel : (Byte → ℕ) → List Sym → ℕ → ℕ → Sym → Type 0
SameLabel at xs l n y = real.label_from (y ∷ xs) (Inner l) n ≡ label_from (plain at y ∷ plain_code at xs) l n

-- a label is found where it stands
label_is : (P : Byte → Type 0) (at : Byte → ℕ) (xs : List Sym) (l n : ℕ) → AreSilent P xs → real.label_from xs (Inner l) n ≡ label_from (plain_code at xs) l n
label_is P at [] l n all = refl
label_is P at (x ∷ xs) l n all = by (label_is P at xs l (n + 1) all.1) (kind P x all.0)
  where
    by : real.label_from xs (Inner l) (n + 1) ≡ label_from (plain_code at xs) l (n + 1) → Kind P x → SameLabel at xs l n x
    by rest (Named m e) = subst (λ (y : Sym). SameLabel at xs l n y) (sym e) (ap (λ o. if nat_eq m l then Some n else o) rest)
    by rest (Jumps m e) = subst (λ (y : Sym). SameLabel at xs l n y) (sym e) rest
    by rest (Turns e) = subst (λ (y : Sym). SameLabel at xs l n y) (sym e) rest
    by rest (Straight h) = real_word P x xs l n h ∙ rest ∙ sym (plain_word (plain at x) (plain_code at xs) l n (straights.passed P at x h))

-- past the labels and the next word
past_is : (P : Byte → Type 0) (at : Byte → ℕ) (xs : List Sym) (n : ℕ) → AreSilent P xs → past_word (plain_code at xs) ≡ Some n → n ≡ labels_in_front xs + 1
past_is P at [] n all e = absurd (cc)
past_is P at (x ∷ xs) n all e = by (λ k. past_is P at xs k all.1) (kind P x all.0)
  where
    same_some : {a b : ℕ} → Some a ≡ Some b → a ≡ b
    same_some e = cc

    abbreviate : (o : Option ℕ) → option_map (λ k. k + 1) o ≡ Some n → (k : ℕ) × (o ≡ Some k) × (n ≡ k + 1)
    abbreviate None f = absurd (cc)
    abbreviate (Some k) f = (k, refl, sym (same_some f))

    one : (z : run.Sym) (zs : List run.Sym) → run.skipped z ≡ Going → past_word (z ∷ zs) ≡ Some 1
    one (run.Label m) zs f = absurd (cc)
    one (run.Row op a into) zs f = refl
    one (run.Movwf a) zs f = refl
    one (run.Clrf a) zs f = refl
    one (run.Test op a b) zs f = refl
    one (run.Flag op b) zs f = refl
    one (run.Movlw m) zs f = refl
    one (run.Addlw m) zs f = refl
    one (run.Xorlw m) zs f = refl
    one run.Clrw zs f = refl
    one run.Return zs f = refl
    one (run.Goto m) zs f = refl

    named : ((k : ℕ) → past_word (plain_code at xs) ≡ Some k → k ≡ labels_in_front xs + 1) → (m : ℕ) → past_word (run.Label m ∷ plain_code at xs) ≡ Some n → n ≡ suc (labels_in_front xs) + 1
    named rest m f = let k = abbreviate (past_word (plain_code at xs)) f in let h : k.0 ≡ labels_in_front xs + 1 = rest k.0 k.1 in let g : n ≡ k.0 + 1 = k.2 in omega arith

    word : (z : run.Sym) → run.skipped z ≡ Going → past_word (z ∷ plain_code at xs) ≡ Some n → labels_in_front (x ∷ xs) ≡ 0 → n ≡ labels_in_front (x ∷ xs) + 1
    word z f g none = let h : 1 ≡ n = same_some (sym (one z (plain_code at xs) f) ∙ g) in omega (arith, none, h)

    by : ((k : ℕ) → past_word (plain_code at xs) ≡ Some k → k ≡ labels_in_front xs + 1) → Kind P x → n ≡ labels_in_front (x ∷ xs) + 1
    by rest (Named m f) =
        let h : n ≡ suc (labels_in_front xs) + 1 = named rest m (ap (λ (y : Sym). past_word (plain at y ∷ plain_code at xs)) (sym f) ∙ e) in
        h ∙ ap (λ (y : Sym). labels_in_front (y ∷ xs) + 1) (sym f)
    by rest (Jumps m f) = word (run.Goto m) refl (ap (λ (y : Sym). past_word (plain at y ∷ plain_code at xs)) (sym f) ∙ e) (ap (λ (y : Sym). labels_in_front (y ∷ xs)) f)
    by rest (Turns f) = word run.Return refl (ap (λ (y : Sym). past_word (plain at y ∷ plain_code at xs)) (sym f) ∙ e) (ap (λ (y : Sym). labels_in_front (y ∷ xs)) f)
    by rest (Straight h) = word (plain at x) (straights.passed P at x h) e (front_of P x xs h)

tail_silent : (P : Byte → Type 0) (xs : List Sym) (i : ℕ) → AreSilent P xs → AreSilent P (drop i xs)
tail_silent P xs zero all = all
tail_silent P [] (suc i) all = tt
tail_silent P (x ∷ xs) (suc i) all = tail_silent P xs i all.1

-- ---- one step
abbrev pub at_place : Program → BlockName → Thread → Place → Scene
at_place q block th p = record { thread = record th { at = Some (stand q (position block p.at)); registers = p.registers }; memory = p.memory }

-- from a place to another one, for so much
pub record Moves (g : Setting) (price : BlockName → ℕ → ℕ) (inside : Bool) (block : BlockName) (th : Thread) (p s : Place) (paid : ℕ) : Type 0 where
  pub count : ℕ
  pub run : direct_run g inside count (at_place g.program block th p) ≡ Some (at_place g.program block th s)
  pub cost : quiet_cost g price inside count (at_place g.program block th p) ≡ paid

goes_same : {p s : Place} → Goes p ≡ Goes s → p ≡ s
goes_same e = cc

if_some : (o : Option ℕ) (t : Machine) (s : Place) → goes_if o t ≡ Goes s → (n : ℕ) × (o ≡ Some n) × (place n t ≡ s)
if_some None t s e = absurd (cc)
if_some (Some n) t s e = (n, refl, goes_same e)

inside_map : (f : ℕ → ℕ) (o : Option ℕ) (n : ℕ) → option_map f o ≡ Some n → (k : ℕ) × (o ≡ Some k) × (f k ≡ n)
inside_map f None n e = absurd (cc)
inside_map f (Some k) n e = (k, refl, same_some e)
  where
    same_some : {a b : ℕ} → Some a ≡ Some b → a ≡ b
    same_some e = cc

heads_at : (xs : List Sym) (i : ℕ) (x : Sym) → slice_get xs i ≡ Some x → drop i xs ≡ x ∷ drop (i + 1) xs
heads_at xs i x e =
    let lt = slice_get_within xs i x e in
    let is : get_or xs i x ≡ x = inside (sym (slice_get-get_or xs i x lt) ∙ e) in
    drop-cons xs i x lt ∙ ap (λ y. y ∷ drop (suc i) xs) is ∙ ap (λ k. x ∷ drop k xs) (let f : suc i ≡ i + 1 = omega arith in f)
  where
    inside : {y z : Sym} → Some y ≡ Some z → y ≡ z
    inside e = cc

-- where a label stands the code goes on behind it
stand_label : (q : Program) (block : BlockName) (i l : ℕ) → slice_get (q.block block) i ≡ Some (sym.Label (Inner l)) → stand q (position block i) ≡ stand q (position block (i + 1))
unfolding stand
stand_label q block i l e = ap (position block) (by (heads_at (q.block block) i (sym.Label (Inner l)) e))
  where
    by : drop i (q.block block) ≡ sym.Label (Inner l) ∷ drop (i + 1) (q.block block) → i + labels_in_front (drop i (q.block block)) ≡ i + 1 + labels_in_front (drop (i + 1) (q.block block))
    by f = let h : labels_in_front (drop i (q.block block)) ≡ suc (labels_in_front (drop (i + 1) (q.block block))) = ap labels_in_front f in omega arith

-- past the labels, and past the next word
stand_past : (q : Program) (block : BlockName) (i n : ℕ) → n ≡ labels_in_front (drop i (q.block block)) + 1 → behind q (stand q (position block i)) ≡ stand q (position block (i + n))
unfolding stand
stand_past q block i n e = ap (λ k. stand q (position block k)) (let f : i + labels_in_front (drop i (q.block block)) + 1 ≡ i + n = omega arith in f)

pub due_word : (price : ℕ → ℕ) (i : ℕ) (z : run.Sym) → run.skipped z ≡ Going → due price i (Some z) ≡ price i
due_word price i (run.Label m) f = absurd (cc)
due_word price i (run.Row op a into) f = refl
due_word price i (run.Movwf a) f = refl
due_word price i (run.Clrf a) f = refl
due_word price i (run.Test op a b) f = refl
due_word price i (run.Flag op b) f = refl
due_word price i (run.Movlw m) f = refl
due_word price i (run.Addlw m) f = refl
due_word price i (run.Xorlw m) f = refl
due_word price i run.Clrw f = refl
due_word price i run.Return f = refl
due_word price i (run.Goto m) f = refl

module _ (g : Setting) (inside : Bool) (P : Byte → Type 0) (quiet : AreQuiet g inside P) (price : BlockName → ℕ → ℕ) (block : BlockName)
    (all : AreSilent P (g.program.block block)) (th : Thread) (idle : th.rest ≡ None) where
  abbrev at : Byte → ℕ
  at = number_at g.program.layout

  abbrev code : List Sym
  code = g.program.block block

  abbrev plains_of : List run.Sym
  plains_of = plain_code at code

  abbrev here : Place → Scene
  here p = at_place g.program block th p

  at_word : (i : ℕ) (x : Sym) → slice_get code i ≡ Some x → labels_in_front (x ∷ drop (i + 1) code) ≡ 0 → stand g.program (position block i) ≡ position block i
  at_word i x e f = stand_at g.program block i (ap labels_in_front (heads_at code i x e) ∙ f)

  one_step : (p s : Place) (x : Sym) → slice_get code p.at ≡ Some x → labels_in_front (x ∷ drop (p.at + 1) code) ≡ 0 → due (price block) p.at (Some (plain at x)) ≡ price block p.at →
      direct_step g inside (here p) ≡ Some (here s) → Moves g price inside block th p s (due (price block) p.at (Some (plain at x)))
  unfolding direct_run quiet_run quiet_cost
  one_step p s x e f d h = record {
    count = 1;
    run = h;
    cost = let k : price_at price (here p).thread.at ≡ price block p.at = ap (λ (y : Position). price y.block y.index) (at_word p.at x e f) in omega arith;
  }

  stands_at : (p : Place) (x : Sym) → slice_get code p.at ≡ Some x → labels_in_front (x ∷ drop (p.at + 1) code) ≡ 0 → is_indirect (Some x) ≡ false →
      direct_step g inside (here p) ≡ quiet_by g.program p.memory (effect_of g inside (position block p.at) (here p).thread p.memory x)
  stands_at p x e f direct = step_is g inside (here p) (position block p.at) x idle (ap (λ (k : Position). Some k) (at_word p.at x e f)) e direct

  straight : (p : Place) (x : Sym) → slice_get code p.at ≡ Some x → IsStraight P x → (n : ℕ) →
      next g.program (position block p.at) (execute (plain at x) p.registers p.memory).mode ≡ stand g.program (position block n) → lands g.program (stand g.program (position block n)) ≡ true →
      Moves g price inside block th p (place n (execute (plain at x) p.registers p.memory)) (due (price block) p.at (Some (plain at x)))
  straight p x e h n to there =
      let u : Machine = execute (plain at x) p.registers p.memory in
      let f = front_of P x (drop (p.at + 1) code) h in
      one_step p (place n u) x e f (due_word (price block) p.at (plain at x) (straights.passed P at x h))
      (stands_at p x e f (straights.direct_of P x h)
      ∙ does g inside P quiet (position block p.at) (here p).thread p.memory x h
      ∙ ap (λ (k : Position). effects.goes_if g.program (scene (here p).thread k u)) to
      ∙ ap (λ b. if b then Some (here (place n u)) else None) there)

  jump_lands : (p : Place) (l n : ℕ) → label_from plains_of l 0 ≡ Some n → lands g.program (stand g.program (position block n)) ≡ true →
      quiet_by g.program p.memory (effect_of g inside (position block p.at) (here p).thread p.memory (sym.Goto (targets.Label (Inner l)))) ≡ Some (at_place g.program block th (record { at = n; registers = p.registers; memory = p.memory }))
  unfolding effect_of
  jump_lands p l n e there =
      ap (λ b. quiet_by g.program p.memory (if not b || nat_eq (registers.page p.registers) (g.page_of block) then goto g inside (position block p.at) (here p).thread (targets.Label (Inner l)) else effect.Stuck)) quiet.banks
      ∙ ap (λ o. quiet_by g.program p.memory (jump_to (here p).thread (option_map (λ k. stand g.program (position block k)) o))) (label_is P at code l 0 all ∙ e)
      ∙ ap (λ b. if b then Some (at_place g.program block th (record { at = n; registers = p.registers; memory = p.memory })) else None) there

  -- a step over bytes by number
  move : (p s : Place) → step_at plains_of p ≡ Goes s → lands g.program (stand g.program (position block s.at)) ≡ true → Moves g price inside block th p s (due (price block) p.at (slice_get plains_of p.at))
  unfolding direct_run quiet_run quiet_cost
  move p s e there = by (slice_get code p.at) refl
    where
      fetch : slice_get plains_of p.at ≡ option_map (plain at) (slice_get code p.at)
      fetch = slice_get-map (plain at) code p.at

      placed : (x : Sym) → slice_get code p.at ≡ Some x → slice_get plains_of p.at ≡ Some (plain at x)
      placed x f = fetch ∙ ap (option_map (plain at)) f

      to : (x : Sym) → slice_get code p.at ≡ Some x → Moves g price inside block th p s (due (price block) p.at (Some (plain at x))) → Moves g price inside block th p s (due (price block) p.at (slice_get plains_of p.at))
      to x f h = subst (λ o. Moves g price inside block th p s (due (price block) p.at o)) (sym (placed x f)) h

      moved : (n : ℕ) (u : Machine) (d : ℕ) → place n u ≡ s → (lands g.program (stand g.program (position block n)) ≡ true → Moves g price inside block th p (place n u) d) → Moves g price inside block th p s d
      moved n u d f h = subst (λ (y : Place). Moves g price inside block th p y d) f (h (ap (λ (y : Place). lands g.program (stand g.program (position block y.at))) f ∙ there))

      by_mode : (x : Sym) → slice_get code p.at ≡ Some x → (h : IsStraight P x) → (k : Mode) → IsOn k → (execute (plain at x) p.registers p.memory).mode ≡ k → leads plains_of p.at k (execute (plain at x) p.registers p.memory) ≡ Goes s →
          Moves g price inside block th p s (due (price block) p.at (Some (plain at x)))
      by_mode x f h Going o m g' = moved (p.at + 1) (execute (plain at x) p.registers p.memory) _ (goes_same g') (straight p x f h (p.at + 1) (ap (next g.program (position block p.at)) m))
      by_mode x f h Skipping o m g' =
          let u : Machine = execute (plain at x) p.registers p.memory in
          let a = if_some (option_map (λ n. p.at + 1 + n) (past_word (drop (p.at + 1) plains_of))) u s g' in
          let b = inside_map (λ n. p.at + 1 + n) (past_word (drop (p.at + 1) plains_of)) a.0 a.1 in
          let c : past_word (plain_code at (drop (p.at + 1) code)) ≡ Some b.0 = ap past_word (sym (drop-map (plain at) (p.at + 1) code)) ∙ b.1 in
          let n : b.0 ≡ labels_in_front (drop (p.at + 1) code) + 1 = past_is P at (drop (p.at + 1) code) b.0 (tail_silent P code (p.at + 1) all) c in
          moved a.0 u _ a.2 (straight p x f h a.0 (ap (next g.program (position block p.at)) m ∙ stand_past g.program block (p.at + 1) b.0 n ∙ ap (λ (k : ℕ). stand g.program (position block k)) b.2))
      by_mode x f h (Seeking l) o m g' = absurd o
      by_mode x f h Returned o m g' = absurd o

      of_kind : (x : Sym) → slice_get code p.at ≡ Some x → leads plains_of p.at (execute (plain at x) p.registers p.memory).mode (execute (plain at x) p.registers p.memory) ≡ Goes s → Kind P x →
          Moves g price inside block th p s (due (price block) p.at (Some (plain at x)))
      of_kind x f g' (Straight h) = by_mode x f h (execute (plain at x) p.registers p.memory).mode (on P at p.registers p.memory x h) refl g'
      of_kind x f g' (Named l is) =
          let e1 : slice_get code p.at ≡ Some (sym.Label (Inner l)) = f ∙ ap (λ (y : Sym). Some y) is in
          let e2 : place (p.at + 1) (execute (run.Label l) p.registers p.memory) ≡ s = goes_same (ap (λ (y : Sym). leads plains_of p.at (execute (plain at y) p.registers p.memory).mode (execute (plain at y) p.registers p.memory)) (sym is) ∙ g') in
          subst (λ (y : Sym). Moves g price inside block th p s (due (price block) p.at (Some (plain at y)))) (sym is)
          (record { count = 0; run = ap (λ (k : Position). Some (record { thread = record th { at = Some k; registers = p.registers }; memory = p.memory })) (stand_label g.program block p.at l e1) ∙ ap (λ (y : Place). Some (here y)) e2; cost = refl })
      of_kind x f g' (Turns is) = let h : Back ≡ Goes s = ap (λ (y : Sym). leads plains_of p.at (execute (plain at y) p.registers p.memory).mode (execute (plain at y) p.registers p.memory)) (sym is) ∙ g' in absurd (cc)
      of_kind x f g' (Jumps l is) =
          let e1 : slice_get code p.at ≡ Some (sym.Goto (targets.Label (Inner l))) = f ∙ ap (λ (y : Sym). Some y) is in
          let e2 : goes_if (label_from plains_of l 0) (execute (run.Goto l) p.registers p.memory) ≡ Goes s = ap (λ (y : Sym). leads plains_of p.at (execute (plain at y) p.registers p.memory).mode (execute (plain at y) p.registers p.memory)) (sym is) ∙ g' in
          let a = if_some (label_from plains_of l 0) (execute (run.Goto l) p.registers p.memory) s e2 in
          subst (λ (y : Sym). Moves g price inside block th p s (due (price block) p.at (Some (plain at y)))) (sym is)
          (moved a.0 (execute (run.Goto l) p.registers p.memory) _ a.2
          (λ l'. one_step p (place a.0 (execute (run.Goto l) p.registers p.memory)) (sym.Goto (targets.Label (Inner l))) e1 refl refl (stands_at p (sym.Goto (targets.Label (Inner l))) e1 refl refl ∙ jump_lands p l a.0 a.1 l')))

      by : (o : Option Sym) → slice_get code p.at ≡ o → Moves g price inside block th p s (due (price block) p.at (slice_get plains_of p.at))
      by None f = let h : Stuck ≡ Goes s = ap (acts plains_of p) (sym (fetch ∙ ap (option_map (plain at)) f)) ∙ e in absurd (cc)
      by (Some x) f = to x f (of_kind x f (ap (acts plains_of p) (sym (placed x f)) ∙ e) (kind P x (silent_at P code p.at x all f)))

  never_back : (p : Place) (k : Mode) (u : Machine) → IsOn k → leads plains_of p.at k u ≡ Back → ⊥
  never_back p Going u o e = cc
  never_back p Skipping u o e = by (option_map (λ n. p.at + 1 + n) (past_word (drop (p.at + 1) plains_of))) e
    where
      by : (x : Option ℕ) → goes_if x u ≡ Back → ⊥
      by None e = cc
      by (Some n) e = cc
  never_back p (Seeking l) u o e = absurd o
  never_back p Returned u o e = absurd o

  -- where it goes no further stands a return
  turns : (q : Place) → step_at plains_of q ≡ Back → slice_get code q.at ≡ Some (sym.Plain plains.Return)
  turns q e = by (slice_get code q.at) refl
    where
      fetch : slice_get plains_of q.at ≡ option_map (plain at) (slice_get code q.at)
      fetch = slice_get-map (plain at) code q.at

      of_kind : (x : Sym) → slice_get code q.at ≡ Some x → leads plains_of q.at (execute (plain at x) q.registers q.memory).mode (execute (plain at x) q.registers q.memory) ≡ Back → Kind P x → slice_get code q.at ≡ Some (sym.Plain plains.Return)
      of_kind x f g' (Straight h) = absurd (never_back q (execute (plain at x) q.registers q.memory).mode (execute (plain at x) q.registers q.memory) (on P at q.registers q.memory x h) g')
      of_kind x f g' (Named l is) = let h : leads plains_of q.at Going (execute (run.Label l) q.registers q.memory) ≡ Back = ap (λ (y : Sym). leads plains_of q.at (execute (plain at y) q.registers q.memory).mode (execute (plain at y) q.registers q.memory)) (sym is) ∙ g' in absurd (cc)
      of_kind x f g' (Turns is) = f ∙ ap (λ (y : Sym). Some y) is
      of_kind x f g' (Jumps l is) = absurd (none (label_from plains_of l 0) (ap (λ (y : Sym). leads plains_of q.at (execute (plain at y) q.registers q.memory).mode (execute (plain at y) q.registers q.memory)) (sym is) ∙ g'))
        where
          none : (o : Option ℕ) → goes_if o (execute (run.Goto l) q.registers q.memory) ≡ Back → ⊥
          none None e = cc
          none (Some n) e = cc

      by : (o : Option Sym) → slice_get code q.at ≡ o → slice_get code q.at ≡ Some (sym.Plain plains.Return)
      by None f = let h : Stuck ≡ Back = ap (acts plains_of q) (sym (fetch ∙ ap (option_map (plain at)) f)) ∙ e in absurd (cc)
      by (Some x) f = of_kind x f (ap (acts plains_of q) (sym (fetch ∙ ap (option_map (plain at)) f)) ∙ e) (kind P x (silent_at P code q.at x all f))

  word_lands : (i : ℕ) (x : Sym) → slice_get code i ≡ Some x → labels_in_front (x ∷ drop (i + 1) code) ≡ 0 → is_word (Some x) ≡ true → lands g.program (stand g.program (position block i)) ≡ true
  word_lands i x e f w = ap (lands g.program) (at_word i x e f) ∙ ap is_word e ∙ w

  -- on the way to a return there is an instruction at each place
  path_lands : (n c : ℕ) (p q : Place) → Path (price block) plains_of n c p q → step_at plains_of q ≡ Back → lands g.program (stand g.program (position block p.at)) ≡ true
  path_lands zero c p q h e = ap (λ (y : Place). lands g.program (stand g.program (position block y.at))) h.1 ∙ word_lands q.at (sym.Plain plains.Return) (turns q e) refl refl
  path_lands (suc n) c p q h e = by (path_lands n h.1 h.0 q h.4 e) (slice_get code p.at) refl
    where
      fetch : slice_get plains_of p.at ≡ option_map (plain at) (slice_get code p.at)
      fetch = slice_get-map (plain at) code p.at

      of_kind : lands g.program (stand g.program (position block h.0.at)) ≡ true → (x : Sym) → slice_get code p.at ≡ Some x → leads plains_of p.at (execute (plain at x) p.registers p.memory).mode (execute (plain at x) p.registers p.memory) ≡ Goes h.0 → Kind P x →
          lands g.program (stand g.program (position block p.at)) ≡ true
      of_kind rest x f g' (Straight k) = word_lands p.at x f (front_of P x (drop (p.at + 1) code) k) (word_of P x k)
      of_kind rest x f g' (Turns is) = word_lands p.at (sym.Plain plains.Return) (f ∙ ap (λ (y : Sym). Some y) is) refl refl
      of_kind rest x f g' (Jumps l is) = word_lands p.at (sym.Goto (targets.Label (Inner l))) (f ∙ ap (λ (y : Sym). Some y) is) refl refl
      of_kind rest x f g' (Named l is) =
          let e2 : place (p.at + 1) (execute (run.Label l) p.registers p.memory) ≡ h.0 = goes_same (ap (λ (y : Sym). leads plains_of p.at (execute (plain at y) p.registers p.memory).mode (execute (plain at y) p.registers p.memory)) (sym is) ∙ g') in
          ap (lands g.program) (stand_label g.program block p.at l (f ∙ ap (λ (y : Sym). Some y) is)) ∙ ap (λ (y : Place). lands g.program (stand g.program (position block y.at))) e2 ∙ rest

      by : lands g.program (stand g.program (position block h.0.at)) ≡ true → (o : Option Sym) → slice_get code p.at ≡ o → lands g.program (stand g.program (position block p.at)) ≡ true
      by rest None f = let k : Stuck ≡ Goes h.0 = ap (acts plains_of p) (sym (fetch ∙ ap (option_map (plain at)) f)) ∙ h.2 in absurd (cc)
      by rest (Some x) f = of_kind rest x f (ap (acts plains_of p) (sym (fetch ∙ ap (option_map (plain at)) f)) ∙ h.2) (kind P x (silent_at P code p.at x all f))

  -- a path to a return
  pub path_runs : (n c : ℕ) (p q : Place) → Path (price block) plains_of n c p q → step_at plains_of q ≡ Back → Moves g price inside block th p q c
  unfolding direct_run quiet_run quiet_cost
  path_runs zero c p q h e = record { count = 0; run = ap (λ (y : Place). Some (here y)) h.1; cost = sym h.0 }
  path_runs (suc n) c p q h e =
      let one : Moves g price inside block th p h.0 (due (price block) p.at (slice_get plains_of p.at)) = move p h.0 h.2 (path_lands n h.1 h.0 q h.4 e) in
      let rest : Moves g price inside block th h.0 q h.1 = path_runs n h.1 h.0 q h.4 e in
      let a : quiet_cost g price inside one.count (here p) ≡ due (price block) p.at (slice_get plains_of p.at) = one.cost in
      let b : quiet_cost g price inside rest.count (here h.0) ≡ h.1 = rest.cost in
      let d : quiet_cost g price inside (one.count + rest.count) (here p) ≡ quiet_cost g price inside one.count (here p) + quiet_cost g price inside rest.count (here h.0) = costs_then g price inside one.count rest.count (here p) (here h.0) one.run in
      let f : c ≡ due (price block) p.at (slice_get plains_of p.at) + h.1 = h.3 in
      record { count = one.count + rest.count; run = runs_then g inside one.count rest.count (here p) (here h.0) one.run ∙ rest.run; cost = put _ _ _ _ _ _ d a b f }
    where
      put : (a b c d e f : ℕ) → a ≡ b + c → b ≡ d → c ≡ e → f ≡ d + e → a ≡ f
      put a b c d e f p q r s = omega arith

  -- behind a return
  abbrev pub returned : Position → List Position → Place → Scene
  returned to stack q = record { thread = record th { at = Some to; stack = stack; registers = q.registers }; memory = q.memory }

  returns : (q : Place) (to : Position) (stack : List Position) → step_at plains_of q ≡ Back → th.stack ≡ to ∷ stack → lands g.program to ≡ true → direct_step g inside (here q) ≡ Some (returned to stack q)
  unfolding effect_of
  returns q to stack e waits there =
      let r : slice_get code q.at ≡ Some (sym.Plain plains.Return) = turns q e in
      stands_at q (sym.Plain plains.Return) r refl refl
      ∙ ap (λ (s : List Position). quiet_by g.program q.memory (back (here q).thread s)) waits
      ∙ ap (λ b. if b then Some (returned to stack q) else None) there

  -- all of it
  pub record Through (p q : Place) (c : ℕ) (to : Position) (stack : List Position) : Type 0 where
    pub count : ℕ
    pub run : direct_run g inside count (here p) ≡ Some (returned to stack q)
    pub cost : quiet_cost g price inside count (here p) ≡ c + price block q.at

  pub through : (n c : ℕ) (p q : Place) (to : Position) (stack : List Position) → Path (price block) plains_of n c p q → step_at plains_of q ≡ Back → th.stack ≡ to ∷ stack → lands g.program to ≡ true → Through p q c to stack
  unfolding direct_run quiet_run quiet_cost
  through n c p q to stack h e waits there =
      let m : Moves g price inside block th p q c = path_runs n c p q h e in
      let one : direct_run g inside 1 (here q) ≡ Some (returned to stack q) = returns q to stack e waits there in
      let k : price_at price (here q).thread.at ≡ price block q.at = ap (λ (y : Position). price y.block y.index) (at_word q.at (sym.Plain plains.Return) (turns q e) refl) in
      let d : quiet_cost g price inside (m.count + 1) (here p) ≡ quiet_cost g price inside m.count (here p) + quiet_cost g price inside 1 (here q) = costs_then g price inside m.count 1 (here p) (here q) m.run in
      let f : quiet_cost g price inside m.count (here p) ≡ c = m.cost in
      record { count = m.count + 1; run = runs_then g inside m.count 1 (here p) (here q) m.run ∙ one; cost = put _ _ _ _ _ d f k }
    where
      put : (a b c d e : ℕ) → a ≡ b + (0 + d) → b ≡ c → d ≡ e → a ≡ c + e
      put a b c d e p q r = omega arith
