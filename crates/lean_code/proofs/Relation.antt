-- A thread of both machines, and what it does on both.
use Rattle.std.proofs.Common.{◌≡◌, ℕ, Bool, true, false, not, ◌||◌, List, [], ◌∷◌, Option, Some, None, refl, sym, ap, ◌∙◌, subst}
use Rattle.std.proofs.lemmas.Option.{none-some}
use Rattle.sym_code.specs.Effect.{Loud, Port, Shared, Rest, Thread, Memory, Write, written, Effect, Stuck, Quiet, Reads, Writes, Leaves, Ends, Rests}
use Rattle.sym_code.specs.Layout.{owner}
use Rattle.sym_code.specs.Machine.{write_by, lands_at}
use Rattle.sym_code.specs.Programs.{Position, behind, lands}
use Rattle.sym_code.specs.declared.code.BlockName.{BlockName}
use Rattle.lean_code.specs.Rows.{Facts, Apart, Note, At, Lean, old_program, new_program}
use Rattle.lean_code.specs.Changes.{Ties, no_ties, Holds, Alike, is_own, is_near}
use Rattle.lean_code.specs.Right.{Expects, ExpectsBy, Comes, IsNote, IsSound}
use Rattle.lean_code.proofs.Lists.{never, stood, place_lands}
use Rattle.lean_code.proofs.Places.{under, note_at, To}
use Rattle.lean_code.proofs.Facts.{weaker_holds, covers_alike}
use Rattle.lean_code.proofs.Accesses.{IsLoud}
use Rattle.lean_code.proofs.Shown.{AreTied, none_tied, claims_tied}

-- a call that waits: where it stands, and what is known there
pub record Frame : Type 0 where
  pub at : Position
  pub note : Note

abbrev pub ties_of : Note → Ties
ties_of n = record { carry = n.carry; shown = n.shown }

abbrev pub held : List Frame → ℕ → Bool
held [] a = false
held (k ∷ ks) a = k.note.apart.bytes a || held ks a

abbrev pub apart_of : Note → List Frame → ℕ → Bool
apart_of n ks a = n.apart.bytes a || held ks a

pub some_in : (a b : Option Note) → Some a ≡ Some b → a ≡ b
some_in a b e = cc

pub or_left : (a b : Bool) → (a || b) ≡ false → a ≡ false
or_left true b e = e
or_left false b e = refl

pub or_right : (a b : Bool) → (a || b) ≡ false → b ≡ false
or_right true b e = never (sym e)
or_right false b e = e

pub or_both : (a b : Bool) → a ≡ false → b ≡ false → (a || b) ≡ false
or_both true b e k = e
or_both false b e k = k

module _ (x : Lean) where
  abbrev pub old_back : Frame → Position
  old_back k = behind (old_program x) k.at

  abbrev pub olds_of : List Frame → List Position
  olds_of [] = []
  olds_of (k ∷ ks) = old_back k ∷ olds_of ks

  abbrev pub news_of : List Frame → List Position
  news_of [] = []
  news_of (k ∷ ks) = under x (old_back k) ∷ news_of ks

  -- the call may come back from the function that runs
  pub record WaitsFor (inside : Bool) (home : BlockName) (k : Frame) : Type 0 where
    pub same_root : x.inside k.at.block ≡ inside
    pub comes : Comes (note_at x (old_back k)) (x.ends home) k.note.apart.bytes
    pub outer : (a : ℕ) → x.outer home a ≡ false → (k.note.apart.bytes a ≡ false) × (x.outer k.at.block a ≡ false)
    pub own : (a : ℕ) → is_own inside (owner x.layout a) ≡ false → k.note.apart.bytes a ≡ false

  abbrev pub Waits : Bool → BlockName → List Frame → Type 0
  Waits inside home [] = Unit {0}
  Waits inside home (k ∷ ks) = WaitsFor inside home k × Waits inside k.at.block ks

  pub held_outer : (inside : Bool) (home : BlockName) (ks : List Frame) → Waits inside home ks → (a : ℕ) → x.outer home a ≡ false → held ks a ≡ false
  held_outer inside home [] w a e = refl
  held_outer inside home (k ∷ ks) w a e = or_both (k.note.apart.bytes a) (held ks a) (w.0.outer a e).0 (held_outer inside k.at.block ks w.1 a (w.0.outer a e).1)

  pub held_own : (inside : Bool) (home : BlockName) (ks : List Frame) → Waits inside home ks → (a : ℕ) → is_own inside (owner x.layout a) ≡ false → held ks a ≡ false
  held_own inside home [] w a e = refl
  held_own inside home (k ∷ ks) w a e = or_both (k.note.apart.bytes a) (held ks a) (w.0.own a e) (held_own inside k.at.block ks w.1 a e)

  -- ---- where a thread stands
  abbrev pub IsAt : BlockName → Note → Option Position → Option Position → Type 0
  IsAt home n None at = at ≡ None
  IsAt home n (Some p) at = To x home (Some (Some n)) p × (at ≡ Some (under x p))

  -- what is left of an instruction
  abbrev pub RestIsLoud : Option Rest → Type 0
  RestIsLoud None = Unit {0}
  RestIsLoud (Some rest) = IsLoud x rest.to

  pub record Tied (inside : Bool) (home : BlockName) (n : Note) (ks : List Frame) (th tv : Thread) (m : Memory) : Type 0 where
    pub same_root : x.inside home ≡ inside
    pub rest : th.rest ≡ tv.rest
    pub loud : RestIsLoud th.rest
    pub at : IsAt home n th.at tv.at
    pub olds : th.stack ≡ olds_of ks
    pub news : tv.stack ≡ news_of ks
    pub waits : Waits inside home ks
    pub alike : Alike n.apart th.registers tv.registers
    pub holds : Holds n.facts th.registers m
    pub note : IsNote x inside n
    pub ties : AreTied (ties_of n) th.registers tv.registers m

  -- the thread that runs; `rest` says what the other one may have apart
  pub record Ready (inside : Bool) (rest : ℕ → Bool) (th tv : Thread) (m k : Memory) : Type 0 where
    pub home : BlockName
    pub note : Note
    pub frames : List Frame
    pub tied : Tied inside home note frames th tv m
    pub same : (a : ℕ) → apart_of note frames a ≡ false → rest a ≡ false → m a ≡ k a

  pub apart_own : (inside : Bool) (home : BlockName) (n : Note) (ks : List Frame) (th tv : Thread) (m : Memory) → Tied inside home n ks th tv m → (a : ℕ) → is_own inside (owner x.layout a) ≡ false → apart_of n ks a ≡ false
  apart_own inside home n ks th tv m t a e = or_both (n.apart.bytes a) (held ks a) (t.note.bytes a e) (held_own inside home ks t.waits a e)

  -- ---- what a thread does on both machines
  -- it goes on, where something stands there
  abbrev pub Goes : Bool → (ℕ → Bool) → Thread → Thread → Memory → Memory → Type 0
  Goes inside rest th tv m k = lands_at (old_program x) th.at ≡ true → Ready inside rest th tv m k × (lands_at (new_program x) tv.at ≡ true)

  -- what is written is no byte of the other thread's
  abbrev pub IsFar : Bool → Option Write → Type 0
  IsFar inside None = Unit {0}
  IsFar inside (Some w) = is_near (not inside) (owner x.layout w.number) ≡ false

  abbrev pub SameLoud : Memory → Memory → Loud → Type 0
  SameLoud m k (Port address) = Unit {0}
  SameLoud m k (Shared j cell) = m j ≡ k j

  -- what the handler leaves apart
  abbrev pub IsLeft : Bool → (ℕ → Bool) → Type 0
  IsLeft inside apart = (inside ≡ true) × ((a : ℕ) → x.rest a ≡ false → apart a ≡ false)

  abbrev pub Match : Bool → (ℕ → Bool) → (ℕ → Bool) → Memory → Memory → Effect → Effect → Type 0
  Match inside rest apart m k Stuck e = Unit {0}
  Match inside rest apart m k (Quiet th w) (Quiet tv v) = Goes inside rest th tv (written w m) (written v k) × IsFar inside w
  Match inside rest apart m k (Reads b f) (Reads c g) = (b ≡ c) × SameLoud m k b × ((v : ℕ) → Goes inside rest (f v) (g v) m k)
  Match inside rest apart m k (Writes b v th) (Writes c w tv) = (b ≡ c) × (v ≡ w) × IsLoud x b × Goes inside rest th tv (written (write_by b v) m) (written (write_by b v) k)
  Match inside rest apart m k Leaves Leaves = IsLeft inside apart
  Match inside rest apart m k (Ends th) (Ends tv) = (inside ≡ false) × Ready inside rest th tv m k
  Match inside rest apart m k Rests Rests = Unit {0}
  Match inside rest apart m k e f = ⊥

  -- the given code alone
  abbrev pub Alone : Bool → (ℕ → Bool) → Thread → Memory → Memory → Effect → Type 0
  Alone inside rest tv m k Stuck = Unit {0}
  Alone inside rest tv m k (Quiet th w) = Goes inside rest th tv (written w m) k × IsFar inside w
  Alone inside rest tv m k e = ⊥

  -- ---- arriving
  module _ (sound : IsSound x) where
    pub lands_new : (p : Position) (n : Note) → note_at x p ≡ Some (Some n) → lands (old_program x) p ≡ true → lands (new_program x) (under x p) ≡ true
    lands_new p n is e =
        let here = stood (x.rows p.block) p.index e in
        let same : here.note ≡ Some n = some_in here.note (Some n) (sym here.ahead ∙ is) in
        let r = sound.right p.block p.index here.s here.act n (here.row ∙ ap (λ (o : Option Note). Some (At here.s here.act o)) same) in
        place_lands (x.rows p.block) p.index r.goes

    module _ (inside : Bool) (rest : ℕ → Bool) where
      -- A thread of both comes to a place with facts and apart that are expected there.
      pub arrive_by : (c : Ties) (home : BlockName) (q : Position) (o : Option (Option Note)) (f : Facts) (d : Apart) → To x home o q → x.inside home ≡ inside → ExpectsBy c o f d → (ks : List Frame) → Waits inside home ks
          → (th tv : Thread) (m k : Memory) → th.at ≡ Some q → tv.at ≡ Some (under x q) → th.rest ≡ tv.rest → RestIsLoud th.rest → th.stack ≡ olds_of ks → tv.stack ≡ news_of ks
          → Alike d th.registers tv.registers → Holds f th.registers m → ((a : ℕ) → d.bytes a ≡ false → held ks a ≡ false → rest a ≡ false → m a ≡ k a) → AreTied c th.registers tv.registers m
          → Goes inside rest th tv m k
      arrive_by c home q o f d to home_inside expects ks waits th tv m k at new_at same_rest loud olds news alike holds same tied there =
          by_note o to expects
        where
          stands : lands (old_program x) q ≡ true
          stands = subst (λ (p : Option Position). lands_at (old_program x) p ≡ true) at there

          note_of_it : (n : Note) → To x home (Some (Some n)) q → IsNote x inside n
          note_of_it n to =
              let here = stood (x.rows q.block) q.index stands in
              let same_note : here.note ≡ Some n = some_in here.note (Some n) (sym here.ahead ∙ to.note) in
              let r = sound.right q.block q.index here.s here.act n (here.row ∙ ap (λ (o : Option Note). Some (At here.s here.act o)) same_note) in
              subst (λ (i : Bool). IsNote x i n) (ap x.inside to.block ∙ home_inside) r.note

          by_note : (o : Option (Option Note)) → To x home o q → ExpectsBy c o f d → Ready inside rest th tv m k × (lands_at (new_program x) tv.at ≡ true)
          by_note None to e = absurd (none-some _ (sym to.note ∙ (stood (x.rows q.block) q.index stands).ahead))
          by_note (Some None) to e = absurd e
          by_note (Some (Some n)) to e = (
            record {
              home = home;
              note = n;
              frames = ks;
              tied = record {
                same_root = home_inside;
                rest = same_rest;
                loud = loud;
                at = subst (λ (p : Option Position). IsAt home n p tv.at) (sym at) (to, new_at);
                olds = olds;
                news = news;
                waits = waits;
                alike = covers_alike n.apart d th.registers tv.registers e.1.flags alike;
                holds = weaker_holds n.facts f th.registers m e.0 holds;
                note = note_of_it n to;
                ties = claims_tied n f.number c th.registers tv.registers m holds.number e.2 tied;
              };
              same = λ a u v. same a (e.1.bytes a (or_left (n.apart.bytes a) (held ks a) u)) (or_right (n.apart.bytes a) (held ks a) u) v;
            },
            subst (λ (p : Option Position). lands_at (new_program x) p ≡ true) (sym new_at) (lands_new q n to.note stands),
          )

      -- nothing is tied
      pub arrive : (home : BlockName) (q : Position) (o : Option (Option Note)) (f : Facts) (d : Apart) → To x home o q → x.inside home ≡ inside → Expects o f d → (ks : List Frame) → Waits inside home ks
          → (th tv : Thread) (m k : Memory) → th.at ≡ Some q → tv.at ≡ Some (under x q) → th.rest ≡ tv.rest → RestIsLoud th.rest → th.stack ≡ olds_of ks → tv.stack ≡ news_of ks
          → Alike d th.registers tv.registers → Holds f th.registers m → ((a : ℕ) → d.bytes a ≡ false → held ks a ≡ false → rest a ≡ false → m a ≡ k a)
          → Goes inside rest th tv m k
      arrive home q o f d to home_inside expects ks waits th tv m k at new_at same_rest loud olds news alike holds same =
          arrive_by no_ties home q o f d to home_inside expects ks waits th tv m k at new_at same_rest loud olds news alike holds same (none_tied th.registers tv.registers m)
