-- An instruction that both machines execute.
use Rattle.std.proofs.Common.{◌≡◌, ℕ, suc, Bool, true, false, not, if◌then◌else◌, List, drop, Option, Some, None, refl, sym, ap, ◌∙◌, subst}
use Rattle.std.specs.Prelude.{nat_eq, ◌<◌}
use Rattle.std.proofs.lemmas.Bool.{eqb-true}
use Rattle.std.proofs.lemmas.Option.{none-some}
use Rattle.sym_code.specs.Effect.{Loud, Port, Shared, Rest, Thread, Memory, with_byte, written, Access, Pointer, Event, Silent, Denied, Effect, file_to_w, file_to_file, store, change, test}
use Rattle.sym_code.specs.Layout.{owner}
use Rattle.sym_code.specs.Machine.{write_by}
use Rattle.sym_code.specs.Programs.{Position, behind, onward}
use Rattle.sym_code.specs.Registers.{Registers, result_with, flags_with, skips_with}
use Rattle.sym_code.specs.declared.code.FileOperation.{FileOperation}
use Rattle.lean_code.specs.Computed.{computed, way_of}
use Rattle.lean_code.specs.Rows.{Facts, Apart, Note, Row, note_ahead, past, keeps_first, Lean, old_program, new_program}
use Rattle.lean_code.specs.Changes.{Ties, Holds, Alike, Aim, ToFsr, ToEvent, ToByte, Through, is_own, is_near, Weaker, lost, without_zero, number_at, learned, after_to_w, after_to_file, flags_in, uses_w, uses_c, both_set, same_w, same_byte}
use Rattle.lean_code.specs.Right.{Expects, ExpectsBy, Leads, Same, IsNote, IsSound}
use Rattle.lean_code.proofs.Lists.{never, stands_at}
use Rattle.lean_code.proofs.Places.{under, row_at, To, to_behind, to_past, under_behind, keeps_behind}
use Rattle.lean_code.proofs.Alike.{result_same, skips_same, flags_same}
use Rattle.lean_code.proofs.Computing.{Says, computed_is, way_is}
use Rattle.lean_code.proofs.Bits.{carry_set, zero_set}
use Rattle.lean_code.proofs.Shown.{AreTied}
use Rattle.lean_code.proofs.Facts.{bits_hold, weaker_holds, near_other, own_near, own_other, keep_all, number_says, to_w_holds, flags_hold, lost_byte, learned_says, lost_through, lost_weaker, elsewhere}
use Rattle.lean_code.proofs.Accesses.{IsLoud, Told, Aims}
use Rattle.lean_code.proofs.Relation.{Frame, ties_of, held, olds_of, news_of, Waits, held_outer, held_own, RestIsLoud, Goes, SameLoud, Match, arrive_by, arrive}

pub nothing_said : (v : ℕ) → Says None v
nothing_said v i e = absurd (none-some i e)

-- facts are of bytes that the other thread can't change
pub record AreNear (x : Lean) (inside : Bool) (f : Facts) : Type 0 where
  pub held : (a : ℕ) → f.held a ≡ true → is_near inside (owner x.layout a) ≡ true
  pub known : (a n : ℕ) → f.known a ≡ Some n → is_near inside (owner x.layout a) ≡ true
  pub twin : (a b : ℕ) → f.twin a b ≡ true → (is_near inside (owner x.layout a) ≡ true) × (is_near inside (owner x.layout b) ≡ true)

pub far_from : (x : Lean) (inside : Bool) (a j : ℕ) → is_near inside (owner x.layout a) ≡ true → is_near inside (owner x.layout j) ≡ false → nat_eq a j ≡ false
far_from x inside a j near far = by_case (nat_eq a j) refl
  where
    by_case : (c : Bool) → nat_eq a j ≡ c → nat_eq a j ≡ false
    by_case true is = never (sym far ∙ ap (λ (k : ℕ). is_near inside (owner x.layout k)) (sym (eqb-true a j is)) ∙ near)
    by_case false is = is

-- an event changes no byte of which something is said
pub event_holds : (x : Lean) (inside : Bool) (f : Facts) (r : Registers) (m : Memory) (b : Loud) (v : ℕ) → AreNear x inside f → IsLoud x b → Holds f r m → Holds f r (written (write_by b v) m)
event_holds x inside f r m (Port address) v near loud h = h
event_holds x inside f r m (Shared j cell) v near loud h =
    elsewhere f r m h j v (λ a e. far_from x inside a j (near.held a e) (loud inside).0) (λ a n e. far_from x inside a j (near.known a n e) (loud inside).0)
    (λ a b e. (far_from x inside a j (near.twin a b e).0 (loud inside).0, far_from x inside b j (near.twin a b e).1 (loud inside).0))

pub event_same : (b : Loud) (v : ℕ) (m k : Memory) (a : ℕ) → m a ≡ k a → written (write_by b v) m a ≡ written (write_by b v) k a
event_same (Port address) v m k a e = e
event_same (Shared j cell) v m k a e = by_case (nat_eq a j)
  where
    by_case : (c : Bool) → (if c then v else m a) ≡ (if c then v else k a)
    by_case true = refl
    by_case false = e

pub lost_near : (x : Lean) (inside : Bool) (a : Aim) (f : Facts) → AreNear x inside f → AreNear x inside (lost x.hidden a f)
lost_near x inside a f near = let w = lost_weaker x.hidden a f in record { held = λ b e. near.held b (w.held b e); known = λ b n e. near.known b n (w.known b n e); twin = λ b c e. near.twin b c (w.twin b c e) }

pub event_elsewhere : (x : Lean) (inside : Bool) (b : Loud) (v : ℕ) (m : Memory) (j : ℕ) → is_near inside (owner x.layout j) ≡ true → IsLoud x b → written (write_by b v) m j ≡ m j
event_elsewhere x inside (Port address) v m j near loud = refl
event_elsewhere x inside (Shared i cell) v m j near loud = ap (λ (c : Bool). if c then v else m j) (far_from x inside j i near (loud inside).0)

-- a byte that is written alike
pub byte_same : (c d : Bool) (v y a b : ℕ) → v ≡ y → (d ≡ false → a ≡ b) → (if c then false else d) ≡ false → (if c then v else a) ≡ (if c then y else b)
byte_same true d v y a b e s k = e
byte_same false d v y a b e s k = s k

pub byte_both : (c : Bool) (v y a b : ℕ) → v ≡ y → a ≡ b → (if c then v else a) ≡ (if c then y else b)
byte_both true v y a b e s = e
byte_both false v y a b e s = s

-- Both machines before an instruction.
pub record Scene (x : Lean) (inside : Bool) (rest : ℕ → Bool) : Type 0 where
  pub p : Position
  pub stack : List Position
  pub new_stack : List Position
  pub r : Registers
  pub s : Registers
  pub ks : List Frame
  pub n : Note
  pub m : Memory
  pub k : Memory
  pub inside_is : x.inside p.block ≡ inside
  pub olds : stack ≡ olds_of x ks
  pub news : new_stack ≡ news_of x ks
  pub waits : Waits x inside p.block ks
  pub alike : Alike n.apart r s
  pub holds : Holds n.facts r m
  pub note : IsNote x inside n
  pub still : (a : ℕ) → n.apart.bytes a ≡ false → held ks a ≡ false → rest a ≡ false → m a ≡ k a
  pub ties : AreTied (ties_of n) r s m
  -- what the other thread has apart is its own
  pub far : (a : ℕ) → is_own (not inside) (owner x.layout a) ≡ false → rest a ≡ false

module _ (x : Lean) (sound : IsSound x) (inside : Bool) (rest : ℕ → Bool) (scene : Scene x inside rest) where
  abbrev p : Position
  p = scene.p

  abbrev stack : List Position
  stack = scene.stack

  abbrev new_stack : List Position
  new_stack = scene.new_stack

  abbrev r : Registers
  r = scene.r

  abbrev s : Registers
  s = scene.s

  abbrev ks : List Frame
  ks = scene.ks

  abbrev n : Note
  n = scene.n

  abbrev m : Memory
  m = scene.m

  abbrev k : Memory
  k = scene.k

  abbrev alike : Alike n.apart r s
  alike = scene.alike

  abbrev holds : Holds n.facts r m
  holds = scene.holds

  abbrev note : IsNote x inside n
  note = scene.note

  abbrev waits : Waits x inside p.block ks
  waits = scene.waits

  abbrev far : (a : ℕ) → is_own (not inside) (owner x.layout a) ≡ false → rest a ≡ false
  far = scene.far

  abbrev still : (a : ℕ) → n.apart.bytes a ≡ false → held ks a ≡ false → rest a ≡ false → m a ≡ k a
  still = scene.still

  abbrev pub one : Thread
  one = record { rest = None; at = Some p; stack = stack; registers = r }

  abbrev pub other : Thread
  other = record { rest = None; at = Some (under x p); stack = new_stack; registers = s }

  abbrev pub rows : List Row
  rows = drop (suc p.index) (x.rows p.block)

  abbrev pub near : AreNear x inside n.facts
  near = record { held = note.held; known = note.known; twin = note.twin }

  -- ---- where the two go
  abbrev pub at_one : Option Rest → Position → Registers → Thread
  at_one w q t = record { rest = w; at = Some q; stack = stack; registers = t }

  abbrev pub at_other : Option Rest → Position → Registers → Thread
  at_other w q t = record { rest = w; at = Some q; stack = new_stack; registers = t }

  pub go_by : (c : Ties) (o : Option (Option Note)) (f : Facts) (d : Apart) (q v : Position) → To x p.block o q → v ≡ under x q → ExpectsBy c o f d → (w y : Option Rest) → w ≡ y → RestIsLoud x w → (t u : Registers) (a b : Memory)
      → Alike d t u → Holds f t a → ((j : ℕ) → d.bytes j ≡ false → held ks j ≡ false → rest j ≡ false → a j ≡ b j) → AreTied c t u a → Goes x inside rest (at_one w q t) (at_other y v u) a b
  go_by c o f d q v to is expects w y same_rest loud t u a b al h same tied =
      arrive_by x sound inside rest c p.block q o f d to scene.inside_is expects ks waits (at_one w q t) (at_other y v u) a b refl (ap (λ (z : Position). Some z) is) same_rest loud scene.olds scene.news al h same tied

  pub go : (o : Option (Option Note)) (f : Facts) (d : Apart) (q v : Position) → To x p.block o q → v ≡ under x q → Expects o f d → (w y : Option Rest) → w ≡ y → RestIsLoud x w → (t u : Registers) (a b : Memory)
      → Alike d t u → Holds f t a → ((j : ℕ) → d.bytes j ≡ false → held ks j ≡ false → rest j ≡ false → a j ≡ b j) → Goes x inside rest (at_one w q t) (at_other y v u) a b
  go o f d q v to is expects w y same_rest loud t u a b al h same =
      arrive x sound inside rest p.block q o f d to scene.inside_is expects ks waits (at_one w q t) (at_other y v u) a b refl (ap (λ (z : Position). Some z) is) same_rest loud scene.olds scene.news al h same

  -- behind an instruction that both execute
  module _ (stands : stands_at (row_at x p) ≡ true) where
    abbrev OnBoth : Option Rest → Option Rest → Bool → Registers → Registers → Memory → Memory → Type 0
    OnBoth w y c t u a b = Goes x inside rest (at_one w (onward (old_program x) p c) t) (at_other y (onward (new_program x) (under x p) c) u) a b

    skip : (f : Facts) (d : Apart) → Expects (note_ahead (past rows)) f d → keeps_first rows ≡ true → (w y : Option Rest) → w ≡ y → RestIsLoud x w → (t u : Registers) (a b : Memory)
        → Alike d t u → Holds f t a → ((j : ℕ) → d.bytes j ≡ false → held ks j ≡ false → rest j ≡ false → a j ≡ b j) → OnBoth w y true t u a b
    skip f d l keeps =
        go (note_ahead (past rows)) f d (behind (old_program x) (behind (old_program x) p)) (behind (new_program x) (behind (new_program x) (under x p))) (to_past x p)
        (ap (behind (new_program x)) (under_behind x p stands) ∙ under_behind x (behind (old_program x) p) (keeps_behind x p keeps)) l

    run : (f : Facts) (d : Apart) → Expects (note_ahead rows) f d → (w y : Option Rest) → w ≡ y → RestIsLoud x w → (t u : Registers) (a b : Memory)
        → Alike d t u → Holds f t a → ((j : ℕ) → d.bytes j ≡ false → held ks j ≡ false → rest j ≡ false → a j ≡ b j) → OnBoth w y false t u a b
    run f d l = go (note_ahead rows) f d (behind (old_program x) p) (behind (new_program x) (under x p)) (to_behind x p) (under_behind x p stands) l

    pub lead : (way : Option Bool) (c : Bool) → ((b : Bool) → way ≡ Some b → c ≡ b) → (f : Facts) (d : Apart) → Leads rows way f d → (w y : Option Rest) → w ≡ y → RestIsLoud x w → (t u : Registers) (a b : Memory)
        → Alike d t u → Holds f t a → ((j : ℕ) → d.bytes j ≡ false → held ks j ≡ false → rest j ≡ false → a j ≡ b j)
        → OnBoth w y c t u a b
    lead None false ok f d l = run f d l.runs
    lead None true ok f d l = skip f d l.skips l.keeps
    lead (Some false) false ok f d l = run f d l
    lead (Some false) true ok f d l = never (sym (ok false refl))
    lead (Some true) true ok f d l = skip f d l.0 l.1
    lead (Some true) false ok f d l = never (ok true refl)

    -- it doesn't skip
    pub next : (f : Facts) (d : Apart) → Expects (note_ahead rows) f d → (w y : Option Rest) → w ≡ y → RestIsLoud x w → (t u : Registers) (a b : Memory)
        → Alike d t u → Holds f t a → ((j : ℕ) → d.bytes j ≡ false → held ks j ≡ false → rest j ≡ false → a j ≡ b j)
        → Goes x inside rest (at_one w (behind (old_program x) p) t) (at_other y (behind (new_program x) (under x p)) u) a b
    next f d l = run f d l

  -- ---- bytes that are the same
  pub plain : (j : ℕ) → ((i : Bool) → is_own i (owner x.layout j) ≡ false) → m j ≡ k j
  plain j own = still j (note.bytes j (own inside)) (held_own x inside p.block ks waits j (own inside)) (far j (own (not inside)))

  pub loud_same : (b : Loud) → IsLoud x b → SameLoud x m k b
  loud_same (Port address) l = tt
  loud_same (Shared j cell) l = plain j (λ i. (l i).1)

  pub near_same : (j : ℕ) → is_near inside (owner x.layout j) ≡ true → n.apart.bytes j ≡ false → x.outer p.block j ≡ false → m j ≡ k j
  near_same j e d o = still j d (held_outer x inside p.block ks waits j o) (far j (near_other inside (owner x.layout j) e))

  -- what is read without an event
  pub read_same : (a : Aim) (i : ℕ) → Aims x a (Silent i) → is_near inside (owner x.layout i) ≡ true → Same x.hidden a n.apart (x.outer p.block) → m i ≡ k i
  read_same (ToByte j) i is e q = subst (λ (z : ℕ). m z ≡ k z) is (near_same j (subst (λ (z : ℕ). is_near inside (owner x.layout z) ≡ true) (sym is) e) q.0 q.1)
  read_same Through i is e q = near_same i e (q i is).0 (q i is).1
  read_same a i is e q = absurd is

  pub byte_known : (a : Aim) (i : ℕ) → Aims x a (Silent i) → (j : ℕ) → a ≡ ToByte j → m i ≡ m j
  byte_known (ToByte h) i is j e = ap m (sym is ∙ same_aim h j e)
    where
      same_aim : (a b : ℕ) → ToByte a ≡ ToByte b → a ≡ b
      same_aim a b e = cc
  byte_known a i is j e = absurd (cc)

  module _ (stands : stands_at (row_at x p) ≡ true) (ap_bytes : ℕ → Bool) where
    abbrev pub Both : Effect → Effect → Type 0
    Both = Match x inside rest ap_bytes m k

    -- ---- an operation on a byte, to W
    module _ (op : FileOperation) (use_w : uses_w op ≡ true → n.apart.w ≡ false) (use_c : uses_c op ≡ true → n.apart.c ≡ false) where
      abbrev d_flags : Apart
      d_flags = both_set (flags_in op) n.apart

      flags_alike : (v y : ℕ) → v ≡ y → Alike d_flags (flags_with r op v) (flags_with s op y)
      flags_alike v y e = flags_same n.apart r s alike op v y use_w use_c e

      pub to_w : (a : Aim) → Leads rows (way_of op (number_at a n.facts)) (after_to_w op a n.facts) (same_w d_flags) → (v y : ℕ) → v ≡ y → ((j : ℕ) → a ≡ ToByte j → v ≡ m j)
          → Goes x inside rest (at_one None (onward (old_program x) p (skips_with r op v)) (record (flags_with r op v) { w = result_with r op v }))
          (at_other None (onward (new_program x) (under x p) (skips_with s op y)) (record (flags_with s op y) { w = result_with s op y })) m k
      to_w a l v y e known =
          let al = flags_alike v y e in
          let t = record (flags_with r op v) { w = result_with r op v } in
          let u = record (flags_with s op y) { w = result_with s op y } in
          subst (λ (c : Bool). Goes x inside rest (at_one None (onward (old_program x) p (skips_with r op v)) t) (at_other None (onward (new_program x) (under x p) c) u) m k)
          (skips_same n.apart r s alike op v y e)
          (lead stands (way_of op (number_at a n.facts)) (skips_with r op v) (λ b h. way_is op r v (number_at a n.facts) b (number_says n.facts r m holds a v known) h) (after_to_w op a n.facts) (same_w d_flags) l None None refl tt t u m k
          (record { w = λ z. result_same n.apart r s alike op v y use_w use_c e; z = al.z; dc = al.dc; c = al.c; fsr = al.fsr; irp = al.irp })
          (to_w_holds n.facts r m holds op a v known) still)

      pub file_to_w_both : (a : Aim) (c : Access) → Aims x a c → Told x inside false c → Same x.hidden a n.apart (x.outer p.block)
          → Leads rows (way_of op (number_at a n.facts)) (after_to_w op a n.facts) (same_w d_flags)
          → Both (file_to_w (old_program x) p one m op c) (file_to_w (new_program x) (under x p) other k op c)
      file_to_w_both ToFsr Pointer is t q l = (to_w ToFsr l r.fsr s.fsr alike.fsr (λ j e. absurd (cc)), tt)
      file_to_w_both ToEvent (Event b) is t q l = (refl, loud_same b t, λ v. to_w ToEvent l v v refl (λ j e. absurd (cc)))
      file_to_w_both Through (Event b) is t q l = (refl, loud_same b t, λ v. to_w Through l v v refl (λ j e. absurd (cc)))
      file_to_w_both (ToByte j) (Silent i) is t q l = (to_w (ToByte j) l (m i) (k i) (read_same (ToByte j) i is t q) (byte_known (ToByte j) i is), tt)
      file_to_w_both Through (Silent i) is t q l = (to_w Through l (m i) (k i) (read_same Through i is t q) (byte_known Through i is), tt)
      file_to_w_both a Denied is t q l = tt
      file_to_w_both a c is t q l = absurd is

      -- ---- to the byte
      abbrev after_file_facts : Aim → Facts
      after_file_facts a = after_to_file x.hidden op a n.facts

      zero_lost : (v : ℕ) → Holds (without_zero n.facts) (flags_with r op v) m
      zero_lost v = flags_hold n.facts r m holds op v

      abbrev learned_facts : Aim → Facts
      learned_facts a = learned x.hidden a (computed op n.facts.number (number_at a n.facts)) (without_zero n.facts)

      to_file : (a : Aim) → Leads rows (way_of op (number_at a n.facts)) (after_file_facts a) (same_byte a d_flags) → (v y : ℕ) → v ≡ y → ((j : ℕ) → a ≡ ToByte j → v ≡ m j) → (t u : Registers) (w z : Option Rest) → w ≡ z → RestIsLoud x w → (b c : Memory)
          → t.c ≡ (flags_with r op v).c → t.z ≡ (flags_with r op v).z → Alike (same_byte a d_flags) t u → Holds (learned_facts a) t b → ((j : ℕ) → (same_byte a d_flags).bytes j ≡ false → held ks j ≡ false → rest j ≡ false → b j ≡ c j)
          → Goes x inside rest (at_one w (onward (old_program x) p (skips_with r op v)) t) (at_other z (onward (new_program x) (under x p) (skips_with s op y)) u) b c
      to_file a l v y e known t u w z same_rest loud b c carry zero al h same =
          subst (λ (i : Bool). Goes x inside rest (at_one w (onward (old_program x) p (skips_with r op v)) t) (at_other z (onward (new_program x) (under x p) i) u) b c)
          (skips_same n.apart r s alike op v y e)
          (lead stands (way_of op (number_at a n.facts)) (skips_with r op v) (λ i h. way_is op r v (number_at a n.facts) i (number_says n.facts r m holds a v known) h) (after_file_facts a) (same_byte a d_flags) l w z same_rest loud t u b c al
          (bits_hold (flags_in op) (learned_facts a) t b (λ i. subst (λ (i : ℕ). i < 2) (sym carry) (carry_set op r v i)) (λ i. subst (λ (i : ℕ). i < 2) (sym zero) (zero_set op r v i)) h) same)

      event_to_file : (a : Aim) (b : Loud) → IsLoud x b → (same_byte a d_flags ≡ d_flags) → Weaker (learned_facts a) (without_zero n.facts) → ((j : ℕ) → a ≡ ToByte j → ⊥) → Leads rows (way_of op (number_at a n.facts)) (after_file_facts a) (same_byte a d_flags) → (v : ℕ)
          → Goes x inside rest (at_one (Some (record { to = b; byte = result_with r op v })) (onward (old_program x) p (skips_with r op v)) (flags_with r op v))
          (at_other (Some (record { to = b; byte = result_with s op v })) (onward (new_program x) (under x p) (skips_with s op v)) (flags_with s op v)) m k
      event_to_file a b loud is weaker none l v =
          to_file a l v v refl (λ j h. absurd (none j h)) (flags_with r op v) (flags_with s op v) (Some (record { to = b; byte = result_with r op v })) (Some (record { to = b; byte = result_with s op v }))
          (ap (λ (z : ℕ). Some (record { to = b; byte = z })) (result_same n.apart r s alike op v v use_w use_c refl)) loud m k refl refl
          (subst (λ (d : Apart). Alike d (flags_with r op v) (flags_with s op v)) (sym is) (flags_alike v v refl))
          (weaker_holds (learned_facts a) (without_zero n.facts) (flags_with r op v) m weaker (zero_lost v))
          (subst (λ (d : Apart). (j : ℕ) → d.bytes j ≡ false → held ks j ≡ false → rest j ≡ false → m j ≡ k j) (sym is) still)

      pub file_to_file_both : (a : Aim) (c : Access) → Aims x a c → Told x inside true c → Same x.hidden a n.apart (x.outer p.block)
          → Leads rows (way_of op (number_at a n.facts)) (after_file_facts a) (same_byte a d_flags)
          → Both (file_to_file (old_program x) p one m op c) (file_to_file (new_program x) (under x p) other k op c)
      file_to_file_both ToFsr Pointer is t q l =
          let al = flags_alike r.fsr s.fsr alike.fsr in
          let res = result_same n.apart r s alike op r.fsr s.fsr use_w use_c alike.fsr in
          let t = record (flags_with r op r.fsr) { fsr = result_with r op r.fsr } in
          let u = record (flags_with s op s.fsr) { fsr = result_with s op s.fsr } in (
            to_file ToFsr l r.fsr s.fsr alike.fsr (λ j h. absurd (cc)) t u None None refl tt m k refl refl (record { w = al.w; z = al.z; dc = al.dc; c = al.c; fsr = res; irp = al.irp })
                (keep_all (without_zero n.facts) (flags_with r op r.fsr) m (zero_lost r.fsr) t refl refl refl) still,
            tt,
          )
      file_to_file_both ToEvent (Event b) is t q l = (refl, loud_same b t, event_to_file ToEvent b t refl (lost_weaker x.hidden ToEvent (without_zero n.facts)) (λ j h. cc) l)
      file_to_file_both Through (Event b) is t q l = (refl, loud_same b t, event_to_file Through b t refl (lost_weaker x.hidden Through (without_zero n.facts)) (λ j h. cc) l)
      file_to_file_both (ToByte j) (Silent i) is t q l =
          let e = read_same (ToByte j) i is (own_near inside (owner x.layout i) t) q in
          let al = flags_alike (m i) (k i) e in
          let res = result_same n.apart r s alike op (m i) (k i) use_w use_c e in
          let a = with_byte m i (result_with r op (m i)) in
          let b = with_byte k i (result_with s op (k i)) in (
            to_file (ToByte j) l (m i) (k i) e (byte_known (ToByte j) i is) (flags_with r op (m i)) (flags_with s op (k i)) None None refl tt a b refl refl (record { w = al.w; z = al.z; dc = al.dc; c = al.c; fsr = al.fsr; irp = al.irp })
                (subst (λ (z : ℕ). Holds (learned_facts (ToByte z)) (flags_with r op (m i)) a) (sym is)
                (learned_says x.hidden (without_zero n.facts) (flags_with r op (m i)) m i (result_with r op (m i)) (computed op n.facts.number (n.facts.known i)) (λ v h. computed_is op r (m i) v n.facts.number (n.facts.known i) holds.number (holds.known i) h) (zero_lost (m i))))
                (λ z u v w. byte_same (nat_eq z i) (n.apart.bytes z) (result_with r op (m i)) (result_with s op (k i)) (m z) (k z) res (λ o. still z o v w) (subst (λ (h : ℕ). (if nat_eq z h then false else n.apart.bytes z) ≡ false) is u)),
            own_other inside (owner x.layout i) t,
          )
      file_to_file_both Through (Silent i) is t q l =
          let e = read_same Through i is (own_near inside (owner x.layout i) t) q in
          let al = flags_alike (m i) (k i) e in
          let res = result_same n.apart r s alike op (m i) (k i) use_w use_c e in
          let a = with_byte m i (result_with r op (m i)) in
          let b = with_byte k i (result_with s op (k i)) in (
            to_file Through l (m i) (k i) e (byte_known Through i is) (flags_with r op (m i)) (flags_with s op (k i)) None None refl tt a b refl refl al
                (lost_through x.hidden (without_zero n.facts) (flags_with r op (m i)) m i (result_with r op (m i)) is (zero_lost (m i)))
                (λ z u v w. byte_both (nat_eq z i) (result_with r op (m i)) (result_with s op (k i)) (m z) (k z) res (still z u v w)),
            own_other inside (owner x.layout i) t,
          )
      file_to_file_both a Denied is t q l = tt
      file_to_file_both a c is t q l = absurd is

    -- ---- a bit of a byte is changed
    changed_event : (a : Aim) (b : Loud) → IsLoud x b → (f : ℕ → ℕ) → Expects (note_ahead rows) (lost x.hidden a n.facts) n.apart → (v : ℕ)
        → Goes x inside rest (at_one (Some (record { to = b; byte = f v })) (behind (old_program x) p) r) (at_other (Some (record { to = b; byte = f v })) (behind (new_program x) (under x p)) s) m k
    changed_event a b loud f l v =
        next stands (lost x.hidden a n.facts) n.apart l (Some (record { to = b; byte = f v })) (Some (record { to = b; byte = f v })) refl loud r s m k alike
        (weaker_holds (lost x.hidden a n.facts) n.facts r m (lost_weaker x.hidden a n.facts) holds) still

    pub change_both : (f : ℕ → ℕ) (a : Aim) (c : Access) → Aims x a c → Told x inside true c → Same x.hidden a n.apart (x.outer p.block) → Expects (note_ahead rows) (lost x.hidden a n.facts) n.apart
        → Both (change (old_program x) p one m f c) (change (new_program x) (under x p) other k f c)
    change_both f ToFsr Pointer is t q l = (
      next stands n.facts n.apart l None None refl tt (record r { fsr = f r.fsr }) (record s { fsr = f s.fsr }) m k
          (record { w = alike.w; z = alike.z; dc = alike.dc; c = alike.c; fsr = ap f alike.fsr; irp = alike.irp }) (keep_all n.facts r m holds (record r { fsr = f r.fsr }) refl refl refl) still,
      tt,
    )
    change_both f ToEvent (Event b) is t q l = (refl, loud_same b t, changed_event ToEvent b t f l)
    change_both f Through (Event b) is t q l = (refl, loud_same b t, changed_event Through b t f l)
    change_both f (ToByte j) (Silent i) is t q l =
        let e = read_same (ToByte j) i is (own_near inside (owner x.layout i) t) q in (
          next stands (lost x.hidden (ToByte j) n.facts) n.apart l None None refl tt r s (with_byte m i (f (m i))) (with_byte k i (f (k i))) alike
              (subst (λ (z : ℕ). Holds (lost x.hidden (ToByte z) n.facts) r (with_byte m i (f (m i)))) (sym is) (lost_byte n.facts r m holds x.hidden i (f (m i))))
              (λ z u v w. byte_both (nat_eq z i) (f (m i)) (f (k i)) (m z) (k z) (ap f e) (still z u v w)),
          own_other inside (owner x.layout i) t,
        )
    change_both f Through (Silent i) is t q l =
        let e = read_same Through i is (own_near inside (owner x.layout i) t) q in (
          next stands (lost x.hidden Through n.facts) n.apart l None None refl tt r s (with_byte m i (f (m i))) (with_byte k i (f (k i))) alike
              (lost_through x.hidden n.facts r m i (f (m i)) is holds)
              (λ z u v w. byte_both (nat_eq z i) (f (m i)) (f (k i)) (m z) (k z) (ap f e) (still z u v w)),
          own_other inside (owner x.layout i) t,
        )
    change_both f a Denied is t q l = tt
    change_both f a c is t q l = absurd is

    -- ---- a bit of a byte is tested
    pub tested : (says : ℕ → Bool) (way : Option Bool) → Leads rows way n.facts n.apart → (v y : ℕ) → v ≡ y → ((b : Bool) → way ≡ Some b → says v ≡ b)
        → Goes x inside rest (at_one None (onward (old_program x) p (says v)) r) (at_other None (onward (new_program x) (under x p) (says y)) s) m k
    tested says way l v y e ok =
        subst (λ (z : ℕ). Goes x inside rest (at_one None (onward (old_program x) p (says v)) r) (at_other None (onward (new_program x) (under x p) (says z)) s) m k) e
        (lead stands way (says v) ok n.facts n.apart l None None refl tt r s m k alike holds still)

    -- what the test says of a byte, as far as that is known
    abbrev pub IsWay : (ℕ → Bool) → (Option ℕ → Option Bool) → Type 0
    IsWay says way = (byte : Option ℕ) (v : ℕ) (b : Bool) → Says byte v → way byte ≡ Some b → says v ≡ b

    pub test_both : (says : ℕ → Bool) (way : Option ℕ → Option Bool) → IsWay says way → (a : Aim) (c : Access) → Aims x a c → Told x inside false c → Same x.hidden a n.apart (x.outer p.block) → Leads rows (way (number_at a n.facts)) n.facts n.apart
        → Both (test (old_program x) p one m says c) (test (new_program x) (under x p) other k says c)
    test_both says way ok ToFsr Pointer is t q l = (tested says (way None) l r.fsr s.fsr alike.fsr (λ b h. ok None r.fsr b (nothing_said r.fsr) h), tt)
    test_both says way ok ToEvent (Event b) is t q l = (refl, loud_same b t, λ v. tested says (way None) l v v refl (λ b h. ok None v b (nothing_said v) h))
    test_both says way ok Through (Event b) is t q l = (refl, loud_same b t, λ v. tested says (way None) l v v refl (λ b h. ok None v b (nothing_said v) h))
    test_both says way ok (ToByte j) (Silent i) is t q l =
        (tested says (way (n.facts.known j)) l (m i) (k i) (read_same (ToByte j) i is t q) (λ b h. ok (n.facts.known j) (m i) b (λ v e. ap m (sym is) ∙ holds.known j v e) h), tt)
    test_both says way ok Through (Silent i) is t q l = (tested says (way None) l (m i) (k i) (read_same Through i is t q) (λ b h. ok None (m i) b (nothing_said (m i)) h), tt)
    test_both says way ok a Denied is t q l = tt
    test_both says way ok a c is t q l = absurd is

    -- ---- W or 0 is stored: d and the facts f are those behind the registers, g says what is known by where the operand leads
    module _ (d : Apart) (t u : Registers) (v y : ℕ) (vy : v ≡ y) (al : Alike d t u) (same_d : (j : ℕ) → d.bytes j ≡ n.apart.bytes j) (g : Aim → Facts)
        (fsr_holds : Holds (g ToFsr) (record t { fsr = v }) m) (event_near : AreNear x inside (g ToEvent)) (event_h : Holds (g ToEvent) t m) (through_near : AreNear x inside (g Through)) (through_h : Holds (g Through) t m)
        (through_byte : (i : ℕ) → x.hidden i ≡ false → Holds (g Through) t (with_byte m i v)) (byte_h : (i : ℕ) → Holds (g (ToByte i)) t (with_byte m i v)) where
      still_d : (j : ℕ) → d.bytes j ≡ false → held ks j ≡ false → rest j ≡ false → m j ≡ k j
      still_d j e = still j (sym (same_d j) ∙ e)

      stored_event : (a : Aim) (b : Loud) → IsLoud x b → AreNear x inside (g a) → Holds (g a) t m → Expects (note_ahead rows) (g a) d
          → Goes x inside rest (at_one None (behind (old_program x) p) t) (at_other None (behind (new_program x) (under x p)) u) (written (write_by b v) m) (written (write_by b v) k)
      stored_event a b loud near_g h l =
          next stands (g a) d l None None refl tt t u (written (write_by b v) m) (written (write_by b v) k) al (event_holds x inside (g a) t m b v near_g loud h)
          (λ j e o w. event_same b v m k j (still_d j e o w))

      pub store_both : (a : Aim) (c : Access) → Aims x a c → Told x inside true c → Expects (note_ahead rows) (g a) (same_byte a d)
          → Both (store (old_program x) p one t v c) (store (new_program x) (under x p) other u y c)
      store_both ToFsr Pointer is told l =
          (next stands (g ToFsr) d l None None refl tt (record t { fsr = v }) (record u { fsr = y }) m k (record { w = al.w; z = al.z; dc = al.dc; c = al.c; fsr = vy; irp = al.irp }) fsr_holds still_d, tt)
      store_both ToEvent (Event b) is told l = (refl, vy, told, stored_event ToEvent b told event_near event_h l)
      store_both Through (Event b) is told l = (refl, vy, told, stored_event Through b told through_near through_h l)
      store_both (ToByte j) (Silent i) is told l = (
        next stands (g (ToByte j)) (same_byte (ToByte j) d) l None None refl tt t u (with_byte m i v) (with_byte k i y) (record { w = al.w; z = al.z; dc = al.dc; c = al.c; fsr = al.fsr; irp = al.irp })
            (subst (λ (z : ℕ). Holds (g (ToByte z)) t (with_byte m i v)) (sym is) (byte_h i))
            (λ z e o w. byte_same (nat_eq z i) (d.bytes z) v y (m z) (k z) vy (λ h. still_d z h o w) (subst (λ (h : ℕ). (if nat_eq z h then false else d.bytes z) ≡ false) is e)),
        own_other inside (owner x.layout i) told,
      )
      store_both Through (Silent i) is told l = (
        next stands (g Through) d l None None refl tt t u (with_byte m i v) (with_byte k i y) al (through_byte i is)
            (λ z e o w. byte_both (nat_eq z i) v y (m z) (k z) vy (still_d z e o w)),
        own_other inside (owner x.layout i) told,
      )
      store_both a Denied is told l = tt
      store_both a c is told l = absurd is
