-- What a thread does next, on both machines.
use Rattle.std.proofs.Common.{◌≡◌, ℕ, suc, Bool, true, false, not, List, drop, Option, Some, None, refl, sym, ap, ◌∙◌, subst}
use Rattle.sym_code.specs.Effect.{Setting, Rest, Thread, Memory, Effect, Stuck, effect_of, effect_if, effect_at, effect}
use Rattle.sym_code.specs.Layout.{owner}
use Rattle.sym_code.specs.Machine.{lands_at}
use Rattle.sym_code.specs.Programs.{Position, is_word, fetched}
use Rattle.sym_code.specs.Registers.{Registers}
use Rattle.sym_code.specs.Touching.{touches}
use Rattle.sym_code.specs.declared.code.BlockName.{BlockName}
use Rattle.sym_code.specs.declared.code.Literal.TheVariants.{Number}
use Rattle.sym_code.specs.declared.code.LiteralOperation.{LiteralOperation}
use Rattle.sym_code.specs.declared.code.Sym.{Sym}
use Rattle.sym_code.specs.declared.code.Sym.TheVariants as syms
use Rattle.lean_code.specs.Rows.{Note, Act, Keeps, Drops, Puts, Narrows, narrowed, Clears, cleared, Reads, reads_before, Tests, FlagName, tests_flag, Row, At, put_of, is_label, place_in, Lean, old_program, new_program, old_setting, new_setting}
use Rattle.lean_code.specs.Changes.{is_own}
use Rattle.lean_code.specs.Right.{IsRight, IsSound}
use Rattle.lean_code.specs.Links.{clears, clears_if, is_open}
use Rattle.lean_code.proofs.Lists.{never, dropped_at, stands_at, put_at, place_fetches, Stood, stood}
use Rattle.lean_code.proofs.Places.{under, row_at, To}
use Rattle.lean_code.proofs.Relation.{Frame, held, apart_of, or_both, some_in, Waits, IsAt, Tied, Match, Alone, lands_new}
use Rattle.lean_code.proofs.Kept.{event_elsewhere, event_holds, event_same, Scene}
use Rattle.lean_code.proofs.KeptRows.{kept_both}
use Rattle.lean_code.proofs.Dropped.{dropped_alone}
use Rattle.lean_code.proofs.Cleared.{cleared_both}
use Rattle.lean_code.proofs.Narrow.{narrow_both}
use Rattle.lean_code.proofs.Put.{put_both}
use Rattle.lean_code.proofs.Reading.{read_both}
use Rattle.lean_code.proofs.Testing.{tested_both}

-- ---- rows
put_keeps : (s : Sym) → put_of s Keeps ≡ Some s
put_keeps (syms.Label label) = refl
put_keeps s = refl

put_puts : (s : Sym) (op : LiteralOperation) (v : ℕ) → is_label s ≡ false → put_of s (Puts op v) ≡ Some (syms.Literal op (Number v))
put_puts (syms.Label label) op v e = never (sym e)
put_puts s op v e = refl

stands_keeps : (s : Sym) (said : Option Note) → is_label s ≡ false → stands_at (Some (At s Keeps said)) ≡ true
stands_keeps (syms.Label label) said e = never (sym e)
stands_keeps s said e = refl

stands_puts : (s : Sym) (op : LiteralOperation) (v : ℕ) (said : Option Note) → is_label s ≡ false → stands_at (Some (At s (Puts op v) said)) ≡ true
stands_puts (syms.Label label) op v said e = never (sym e)
stands_puts s op v said e = refl

put_narrows : (s : Sym) → is_label s ≡ false → put_of s Narrows ≡ Some (narrowed s)
put_narrows (syms.Label label) e = never (sym e)
put_narrows s e = refl

stands_narrows : (s : Sym) (said : Option Note) → is_label s ≡ false → stands_at (Some (At s Narrows said)) ≡ true
stands_narrows (syms.Label label) said e = never (sym e)
stands_narrows s said e = refl

put_clears : (s : Sym) → is_label s ≡ false → put_of s Clears ≡ Some (cleared s)
put_clears (syms.Label label) e = never (sym e)
put_clears s e = refl

stands_clears : (s : Sym) (said : Option Note) → is_label s ≡ false → stands_at (Some (At s Clears said)) ≡ true
stands_clears (syms.Label label) said e = never (sym e)
stands_clears s said e = refl

put_reads : (s : Sym) (i : ℕ) → is_label s ≡ false → put_of s (Reads i) ≡ Some (reads_before i s)
put_reads (syms.Label label) i e = never (sym e)
put_reads s i e = refl

stands_reads : (s : Sym) (i : ℕ) (said : Option Note) → is_label s ≡ false → stands_at (Some (At s (Reads i) said)) ≡ true
stands_reads (syms.Label label) i said e = never (sym e)
stands_reads s i said e = refl

put_tests : (s : Sym) (flag : FlagName) (turned : Bool) → is_label s ≡ false → put_of s (Tests flag turned) ≡ Some (tests_flag flag turned s)
put_tests (syms.Label label) flag turned e = never (sym e)
put_tests s flag turned e = refl

stands_tests : (s : Sym) (flag : FlagName) (turned : Bool) (said : Option Note) → is_label s ≡ false → stands_at (Some (At s (Tests flag turned) said)) ≡ true
stands_tests (syms.Label label) flag turned said e = never (sym e)
stands_tests s flag turned said e = refl

drops_drops : (s : Sym) (said : Option Note) → is_label s ≡ false → dropped_at (Some (At s Drops said)) ≡ true
drops_drops (syms.Label label) said e = never (sym e)
drops_drops s said e = refl

-- ---- the next instruction
effect_some : (g : Setting) (inside : Bool) (th : Thread) (m : Memory) (p : Position) → effect_at g inside th m (Some p) ≡ effect_if g inside p th m (fetched g.program p)
effect_some g false th m p = refl
effect_some g true th m p = refl

no_word : (g : Setting) (inside : Bool) (p : Position) (th : Thread) (m : Memory) (s : Option Sym) → is_word s ≡ false → effect_if g inside p th m s ≡ Stuck
unfolding effect_of
no_word g inside p th m None e = refl
no_word g inside p th m (Some (syms.Label label)) e = refl
no_word g inside p th m (Some s) e = never (sym e)

module _ (x : Lean) (sound : IsSound x) (inside : Bool) (rest : ℕ → Bool) (far : (a : ℕ) → is_own (not inside) (owner x.layout a) ≡ false → rest a ≡ false)
    (home : BlockName) (n : Note) (ks : List Frame) (m k : Memory) (same : (a : ℕ) → apart_of n ks a ≡ false → rest a ≡ false → m a ≡ k a) where
  abbrev thread : Option Rest → Option Position → List Position → Registers → Thread
  thread w at stack r = record { rest = w; at = at; stack = stack; registers = r }

  -- an instruction that is made, if one is next; or one that is left out
  abbrev pub Pays : Thread → Type 0
  Pays th = (p : Position) → th.rest ≡ None → th.at ≡ Some p → stands_at (row_at x p) ≡ true

  pub record Skips (th : Thread) : Type 0 where
    pub place : Position
    pub none_left : th.rest ≡ None
    pub stands : th.at ≡ Some place
    pub dropped : dropped_at (row_at x place) ≡ true

  pub data Either (th tv : Thread) (e f : Effect) : Type 0 where
    Lost : e ≡ Stuck → Either th tv e f
    Matched : Match x inside rest (apart_of n ks) m k e f → Pays th → Either th tv e f
    Lone : Alone x inside rest tv m k e → Skips th → Either th tv e f

  abbrev TiedTo : Thread → Thread → Type 0
  TiedTo th tv = Tied x inside home n ks th tv m

  new_lands : (at new_at : Option Position) → IsAt x home n at new_at → lands_at (old_program x) at ≡ true → lands_at (new_program x) new_at ≡ true
  new_lands None new_at e l = never l
  new_lands (Some p) new_at e l = subst (λ (o : Option Position). lands_at (new_program x) o ≡ true) (sym e.1) (lands_new x sound p n e.0.note l)

  -- what is left of an instruction
  module _ (at new_at : Option Position) (stack new_stack : List Position) (r s : Registers) where
    put_rest : (w : Rest) → TiedTo (thread (Some w) at stack r) (thread (Some w) new_at new_stack s)
        → Either (thread (Some w) at stack r) (thread (Some w) new_at new_stack s) (effect (old_setting x) inside (thread (Some w) at stack r) m) (effect (new_setting x) inside (thread (Some w) new_at new_stack s) k)
    unfolding effect
    put_rest w t = Matched (
      refl,
      refl,
      t.loud,
      λ l. (
        record {
          home = home;
          note = n;
          frames = ks;
          tied = record {
            same_root = t.same_root;
            rest = refl;
            loud = tt;
            at = t.at;
            olds = t.olds;
            news = t.news;
            waits = t.waits;
            alike = t.alike;
            holds = event_holds x inside n.facts r m w.to w.byte (record { held = t.note.held; known = t.note.known; twin = t.note.twin }) t.loud t.holds;
            note = t.note;
            ties = record { carry = λ j h. event_elsewhere x inside w.to w.byte m j (t.note.carry j h) t.loud ∙ t.ties.carry j h; shown = t.ties.shown };
          };
          same = λ a u v. event_same w.to w.byte m k a (same a u v);
        },
        new_lands at new_at t.at l,
      ),
    ) (λ p e z. absurd (cc))

    -- main has ended
    put_ended : (i : Bool) → new_at ≡ None → Either (thread None None stack r) (thread None new_at new_stack s) (effect_at (old_setting x) i (thread None None stack r) m None) (effect_at (new_setting x) i (thread None new_at new_stack s) k new_at)
    put_ended false e =
        subst (λ (o : Option Position). Either (thread None None stack r) (thread None new_at new_stack s) (effect_at (old_setting x) false (thread None None stack r) m None) (effect_at (new_setting x) false (thread None new_at new_stack s) k o)) (sym e)
        (Matched tt (λ p z q. absurd (cc)))
    put_ended true e = Lost refl

  -- an instruction
  module _ (p : Position) (stack new_stack : List Position) (r s : Registers) (t : TiedTo (thread None (Some p) stack r) (thread None (Some (under x p)) new_stack s)) where
    abbrev first : Thread
    first = thread None (Some p) stack r

    abbrev second : Thread
    second = thread None (Some (under x p)) new_stack s

    abbrev to : To x home (Some (Some n)) p
    to = t.at.0

    scene : Scene x inside rest
    scene = record {
      p = p;
      stack = stack;
      new_stack = new_stack;
      r = r;
      s = s;
      ks = ks;
      n = n;
      m = m;
      k = k;
      inside_is = ap x.inside to.block ∙ t.same_root;
      olds = t.olds;
      news = t.news;
      waits = subst (λ (name : BlockName). Waits x inside name ks) (sym to.block) t.waits;
      alike = t.alike;
      holds = t.holds;
      note = t.note;
      ties = t.ties;
      still = λ a u v w. same a (or_both (n.apart.bytes a) (held ks a) u v) w;
      far = far;
    }

    abbrev ByRow : Option Sym → Option Sym → Type 0
    ByRow o q = Either first second (effect_if (old_setting x) inside p first m o) (effect_if (new_setting x) inside (under x p) second k q)

    -- the row of the place
    pays : stands_at (row_at x p) ≡ true → Pays first
    pays e q z w = subst (λ (v : Position). stands_at (row_at x v) ≡ true) (place_is p q w) e
      where
        place_is : (p q : Position) → Some p ≡ Some q → p ≡ q
        place_is p q e = cc

    -- what stands there in the code that is made
    made_at : stands_at (row_at x p) ≡ true → (o : Option Sym) → put_at (row_at x p) ≡ o → fetched (new_program x) (under x p) ≡ o
    made_at stands o e = place_fetches (x.rows p.block) p.index stands ∙ e

    module _ (i : Sym) (clear : clears x.hidden r (touches i) ≡ true) (word : is_label i ≡ false) where
      by_act : (act : Act) → row_at x p ≡ Some (At i act (Some n)) → IsRight x p.block inside n (place_in (x.rows p.block) p.index) (drop (suc p.index) (x.rows p.block)) act i → ByRow (Some i) (fetched (new_program x) (under x p))
      unfolding scene
      by_act Keeps row right =
          let stands : stands_at (row_at x p) ≡ true = subst (λ (o : Option Row). stands_at o ≡ true) (sym row) (stands_keeps i (Some n) word) in
          subst (λ (o : Option Sym). ByRow (Some i) o) (sym (made_at stands (Some i) (ap put_at row ∙ put_keeps i))) (Matched (kept_both x sound inside rest scene stands i clear right) (pays stands))
      by_act Drops row right =
          let drops : dropped_at (row_at x p) ≡ true = subst (λ (o : Option Row). dropped_at o ≡ true) (sym row) (drops_drops i (Some n) word) in
          Lone (dropped_alone x sound inside rest scene drops i clear right) (record { place = p; none_left = refl; stands = refl; dropped = drops })
      by_act (Puts op v) row right =
          let stands : stands_at (row_at x p) ≡ true = subst (λ (o : Option Row). stands_at o ≡ true) (sym row) (stands_puts i op v (Some n) word) in
          subst (λ (o : Option Sym). ByRow (Some i) o) (sym (made_at stands (Some (syms.Literal op (Number v))) (ap put_at row ∙ put_puts i op v word))) (Matched (put_both x sound inside rest scene stands op v i clear right) (pays stands))
      by_act Narrows row right =
          let stands : stands_at (row_at x p) ≡ true = subst (λ (o : Option Row). stands_at o ≡ true) (sym row) (stands_narrows i (Some n) word) in
          subst (λ (o : Option Sym). ByRow (Some i) o) (sym (made_at stands (Some (narrowed i)) (ap put_at row ∙ put_narrows i word))) (Matched (narrow_both x sound inside rest scene stands i clear right) (pays stands))
      by_act Clears row right =
          let stands : stands_at (row_at x p) ≡ true = subst (λ (o : Option Row). stands_at o ≡ true) (sym row) (stands_clears i (Some n) word) in
          subst (λ (o : Option Sym). ByRow (Some i) o) (sym (made_at stands (Some (cleared i)) (ap put_at row ∙ put_clears i word))) (Matched (cleared_both x sound inside rest scene stands i clear right) (pays stands))
      by_act (Reads before) row right =
          let stands : stands_at (row_at x p) ≡ true = subst (λ (o : Option Row). stands_at o ≡ true) (sym row) (stands_reads i before (Some n) word) in
          subst (λ (o : Option Sym). ByRow (Some i) o) (sym (made_at stands (Some (reads_before before i)) (ap put_at row ∙ put_reads i before word))) (Matched (read_both x sound inside rest scene stands before i clear right) (pays stands))
      by_act (Tests flag turned) row right =
          let stands : stands_at (row_at x p) ≡ true = subst (λ (o : Option Row). stands_at o ≡ true) (sym row) (stands_tests i flag turned (Some n) word) in
          subst (λ (o : Option Sym). ByRow (Some i) o) (sym (made_at stands (Some (tests_flag flag turned i)) (ap put_at row ∙ put_tests i flag turned word))) (Matched (tested_both x sound inside rest scene stands flag turned i right) (pays stands))

    by_stood : (y : Stood (x.rows p.block) p.index) → clears_if x.hidden r (fetched (old_program x) p) ≡ true → ByRow (fetched (old_program x) p) (fetched (new_program x) (under x p))
    by_stood y open_at =
        let said : y.note ≡ Some n = some_in y.note (Some n) (sym y.ahead ∙ to.note) in
        let row : row_at x p ≡ Some (At y.s y.act (Some n)) = y.row ∙ ap (λ (o : Option Note). Some (At y.s y.act o)) said in
        let right = sound.right p.block p.index y.s y.act n row in
        subst (λ (o : Option Sym). ByRow o (fetched (new_program x) (under x p))) (sym y.here)
        (by_act y.s (subst (λ (o : Option Sym). clears_if x.hidden r o ≡ true) y.here open_at) y.word y.act row
        (subst (λ (i : Bool). IsRight x p.block i n (place_in (x.rows p.block) p.index) (drop (suc p.index) (x.rows p.block)) y.act y.s) (ap x.inside to.block ∙ t.same_root) right.right))

    by_word : (c : Bool) → is_word (fetched (old_program x) p) ≡ c → clears_if x.hidden r (fetched (old_program x) p) ≡ true → ByRow (fetched (old_program x) p) (fetched (new_program x) (under x p))
    by_word true e open_at = by_stood (stood (x.rows p.block) p.index e) open_at
    by_word false e open_at = Lost (no_word (old_setting x) inside p first m (fetched (old_program x) p) e)

    put_some : is_open x.hidden (old_program x) first ≡ true → Either first second (effect_at (old_setting x) inside first m (Some p)) (effect_at (new_setting x) inside second k (Some (under x p)))
    put_some open_at =
        subst (λ (z : Effect). Either first second z (effect_at (new_setting x) inside second k (Some (under x p)))) (sym (effect_some (old_setting x) inside first m p))
        (subst (λ (z : Effect). Either first second (effect_if (old_setting x) inside p first m (fetched (old_program x) p)) z) (sym (effect_some (new_setting x) inside second k (under x p)))
        (by_word (is_word (fetched (old_program x) p)) refl open_at))

  -- the thread
  put_at_place : (at new_at : Option Position) (stack new_stack : List Position) (r s : Registers) → TiedTo (thread None at stack r) (thread None new_at new_stack s) → is_open x.hidden (old_program x) (thread None at stack r) ≡ true
      → Either (thread None at stack r) (thread None new_at new_stack s) (effect_at (old_setting x) inside (thread None at stack r) m at) (effect_at (new_setting x) inside (thread None new_at new_stack s) k new_at)
  put_at_place None new_at stack new_stack r s t open_at = put_ended None new_at stack new_stack r s inside t.at
  put_at_place (Some p) new_at stack new_stack r s t open_at =
      by_new new_at t.at.1 t
    where
      by_new : (new_at : Option Position) → new_at ≡ Some (under x p) → TiedTo (thread None (Some p) stack r) (thread None new_at new_stack s)
          → Either (thread None (Some p) stack r) (thread None new_at new_stack s) (effect_at (old_setting x) inside (thread None (Some p) stack r) m (Some p)) (effect_at (new_setting x) inside (thread None new_at new_stack s) k new_at)
      by_new new_at e t =
          subst (λ (o : Option Position). Either (thread None (Some p) stack r) (thread None o new_stack s) (effect_at (old_setting x) inside (thread None (Some p) stack r) m (Some p)) (effect_at (new_setting x) inside (thread None o new_stack s) k o)) (sym e)
          (put_some p stack new_stack r s (subst (λ (o : Option Position). TiedTo (thread None (Some p) stack r) (thread None o new_stack s)) e t) open_at)

  by_rest : (w y : Option Rest) (at new_at : Option Position) (stack new_stack : List Position) (r s : Registers) → w ≡ y → TiedTo (thread w at stack r) (thread y new_at new_stack s) → is_open x.hidden (old_program x) (thread w at stack r) ≡ true
      → Either (thread w at stack r) (thread y new_at new_stack s) (effect (old_setting x) inside (thread w at stack r) m) (effect (new_setting x) inside (thread y new_at new_stack s) k)
  unfolding effect
  by_rest None None at new_at stack new_stack r s e t open_at = put_at_place at new_at stack new_stack r s t open_at
  by_rest (Some w) (Some y) at new_at stack new_stack r s e t open_at =
      subst (λ (z : Rest). Either (thread (Some w) at stack r) (thread (Some z) new_at new_stack s) (effect (old_setting x) inside (thread (Some w) at stack r) m) (effect (new_setting x) inside (thread (Some z) new_at new_stack s) k)) (rest_is w y e)
      (put_rest at new_at stack new_stack r s w (subst (λ (z : Rest). TiedTo (thread (Some w) at stack r) (thread (Some z) new_at new_stack s)) (sym (rest_is w y e)) t))
    where
      rest_is : (w y : Rest) → Some w ≡ Some y → w ≡ y
      rest_is w y e = cc
  by_rest None (Some y) at new_at stack new_stack r s e t open_at = absurd (cc)
  by_rest (Some w) None at new_at stack new_stack r s e t open_at = absurd (cc)

  pub thread_step : (th tv : Thread) → TiedTo th tv → is_open x.hidden (old_program x) th ≡ true → Either th tv (effect (old_setting x) inside th m) (effect (new_setting x) inside tv k)
  thread_step th tv t open_at = by_rest th.rest tv.rest th.at tv.at th.stack tv.stack th.registers tv.registers t.rest t open_at
