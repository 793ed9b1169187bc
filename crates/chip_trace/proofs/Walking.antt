-- What main's acts without an event make of a state of the chip, with no interrupt between them.
use Rattle.std.proofs.Common.{◌≡◌, ◌≢◌, ℕ, zero, suc, ◌%◌, ◌<◌, ◌≤◌, true, false, List, [], length, Option, Some, None, refl, sym, ap, ◌∙◌, subst, ⊎_elim, arith}
use Rattle.std.specs.Prelude.{slice_index}
use Rattle.std.proofs.lemmas.Bool.{cases_lt}
use Rattle.pic_chip.specs.Act.{perform, accesses}
use Rattle.pic_chip.specs.Instructions.{execute}
use Rattle.pic_chip.specs.Interrupts.{control_of}
use Rattle.pic_chip.specs.Run as chip
use Rattle.pic_chip.specs.Run.{events_of}
use Rattle.pic_chip.specs.State.{State}
use Rattle.pic_world.specs.World.{World, Outside}
use Rattle.pic_world.specs.declared.Event.{Event}
use Rattle.pic_world.specs.declared.Root.TheVariants.{Main, Isr}
use Rattle.sym_code.specs.Effect.{Setting, Thread, Memory, Write, written, Quiet, effect}
use Rattle.sym_code.specs.Layout.{Owner, Watched, Constant, Of, Nobody, owner}
use Rattle.sym_code.specs.Machine.{lands_at}
use Rattle.sym_code.specs.Programs.{Position, lands}
use Rattle.pic_chip.proofs.Ranges.{IsRanged, executed_ranged}
use Rattle.chip_trace.specs.Context.{executed}
use Rattle.chip_trace.proofs.Effects.{writes_silently}
use Rattle.chip_trace.proofs.Fetch.{LockedAt, locked_at}
use Rattle.chip_trace.proofs.Image.{IsImage, Same, put_written, put_apart, words_length}
use Rattle.chip_trace.proofs.Locked.{Locked, LockedBy, LockedIf}
use Rattle.chip_trace.proofs.Past.{ahead_good, apart_main, quiet_sound, silent_somebody, watched_somebody}
use Rattle.chip_trace.proofs.Relations.{Ground, IsAt, words}
use Rattle.chip_trace.proofs.Runs.{Ahead, over}
use Rattle.chip_trace.proofs.Sound.{IsGood}

pub not_mains : (o : Owner) → o ≢ Of Main → writes_silently false o ≡ false
not_mains (Watched cell) ne = refl
not_mains Constant ne = refl
not_mains (Of Main) ne = absurd (ne refl)
not_mains (Of Isr) ne = refl
not_mains Nobody ne = refl

module _ (g : Setting) (h : Ground) (c : chip.Setting) (hd : ℕ) (x : IsImage g h c.image c.inputs hd) where
  abbrev o : Outside
  o = over c.inputs (λ l. 0)

  abbrev next : State → State
  next s = perform (execute c.image c.inputs) s

  abbrev pub shown : State → List Event
  shown s = events_of g.program.layout.objects (accesses (execute c.image c.inputs) s)

  abbrev pub SameAs : List ℕ → Memory → Type 0
  SameAs = Same g h c.image c.inputs hd x

  pub record Walked (j : ℕ) (s : State) (u : Thread) (k : Memory) : Type 0 where
    pub at : IsAt g h u [] (executed c j s)
    pub low : (executed c j s).pclath % 8 ≡ s.pclath % 8
    pub bytes : SameAs (executed c j s).ram k
    pub others : (b : ℕ) → owner g.program.layout b ≢ Of Main → slice_index (executed c j s).ram b ≡ slice_index s.ram b
    pub control : control_of (executed c j s) ≡ control_of s
    pub taken : (executed c j s).taken ≡ s.taken
    pub ranged : IsRanged (executed c j s)
    pub silent : (i : ℕ) → i < j → shown (executed c i s) ≡ []

  -- ---- one act
  module _ (v u : Thread) (n : Memory) (w : Option Write) (eff : effect g false v n ≡ Quiet u w) (good : IsGood g false v) (p : Position) (at : v.at ≡ Some p) (here : lands g.program p ≡ true) (rest : v.rest ≡ None)
      (ok : lands_at g.program u.at ≡ true) (s : State) (stands : IsAt g h v [] s) (bytes : SameAs s.ram n) (ranged : IsRanged s) where
    abbrev world : World ℕ
    world = record { control = control_of s; inside = false; taken = s.taken; trace = [] }

    deep : length (words g h v.stack []) ≤ 8
    deep = let l = words_length g h c.image c.inputs hd x v.stack [] in let k = good.deep in let z = x.main_depth in omega arith

    room : length v.stack < g.limit false → length (words g h v.stack []) ≤ 7
    room lt = let l = words_length g h c.image c.inputs hd x v.stack [] in let z = x.main_depth in omega arith

    lock : LockedAt x.reaches g h o c.image x.placed x.banked x.laid false v n [] s world
    lock = locked_at x.reaches g h o c.image x.placed x.banked x.laid false v n [] s world p here at rest stands refl refl
        (λ k q. bytes k (silent_somebody false (owner g.program.layout k) q)) (λ k cell q. bytes k (watched_somebody cell (owner g.program.layout k) q)) ranged deep room

    locked_if : LockedIf g h o [] s (next s) world (shown s) (Some (record { thread = u; write = w; world = world }))
    locked_if = subst (LockedBy g h o n [] s (next s) world (shown s)) eff lock.locked

    locked : Locked g h o [] s (next s) world (shown s) (record { thread = u; write = w; world = world })
    locked = locked_if ok

  -- ---- all of them
  ahead_lands : (j : ℕ) (th : Thread) (m : Memory) (u : Thread) (k : Memory) → lands_at g.program th.at ≡ true → Ahead g j th m u k → lands_at g.program u.at ≡ true
  ahead_lands zero th m u k ok a = ap (λ (z : Thread). lands_at g.program z.at) a.0 ∙ ok
  ahead_lands (suc j) th m u k ok a = a.6

  pub walks : (j : ℕ) (th : Thread) (m : Memory) (u : Thread) (k : Memory) (s : State) → IsGood g false th → lands_at g.program th.at ≡ true → IsAt g h th [] s → SameAs s.ram m → IsRanged s
      → Ahead g j th m u k → Walked j s u k
  unfolding executed
  walks zero th m u k s good ok stands bytes ranged a = record {
    at = subst (λ z. IsAt g h z [] s) (sym a.0) stands;
    low = refl;
    bytes = λ b q. bytes b q ∙ ap (λ (z : Memory). z b) (sym a.1);
    others = λ b q. refl;
    control = refl;
    taken = refl;
    ranged = ranged;
    silent = λ i lt. absurd (omega arith);
  }
  walks (suc j) th m u k s good ok stands bytes ranged a =
      let v = a.0 in let n = a.1 in let w = a.2 in let p = a.8 in
      let y = walks j th m v n s good ok stands bytes ranged a.3 in
      let gv = ahead_good g x.outside j th m v n good a.3 in
      let here : lands g.program p ≡ true = sym (ap (lands_at g.program) a.9) ∙ ahead_lands j th m v n ok a.3 in
      let s1 : State = executed c j s in
      let l = locked v u n w a.4 gv p a.9 here a.7 a.6 s1 y.at y.bytes y.ranged in
      let own = (quiet_sound g x.outside v u n w gv a.4).0 in
      record {
        at = l.at;
        low = l.low ∙ y.low;
        bytes = subst (SameAs (next s1).ram) (sym a.5) (subst (λ (r : List ℕ). SameAs r (written w n)) (sym l.ram) (put_written g h c.image c.inputs hd x w s1.ram n y.ranged.count y.bytes));
        others = λ b q. ap (λ (r : List ℕ). slice_index r b) l.ram ∙ put_apart w s1.ram b (apart_main g w b own (not_mains (owner g.program.layout b) q)) ∙ y.others b q;
        control = l.control ∙ y.control;
        taken = l.taken ∙ y.taken;
        ranged = executed_ranged c.inputs x.small s1 y.ranged c.image;
        silent = λ i lt. ⊎_elim (λ earlier. y.silent i earlier) (λ ge. let e : i ≡ j = omega arith in ap (λ z. shown (executed c z s)) e ∙ sym l.trace) (cases_lt i j);
      }
