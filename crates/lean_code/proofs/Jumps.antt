-- Jumps, calls and returns on both machines.
use Rattle.std.proofs.Common.{◌≡◌, ℕ, suc, Bool, true, false, if◌then◌else◌, List, [], ◌∷◌, drop, length, Option, Some, None, option_map, refl, sym, ap, ◌∙◌, subst}
use Rattle.std.specs.Prelude.{nat_lt, ◌||◌}
use Rattle.sym_code.specs.Effect.{Thread, Effect, Stuck, jump_to, halt, restore, goto, call, back}
use Rattle.sym_code.specs.Programs.{Position, position, behind, front, stand, label_from, place_of}
use Rattle.sym_code.specs.declared.code.BlockName.{BlockName}
use Rattle.sym_code.specs.declared.code.Label.TheVariants.{Inner, Halt, Restore}
use Rattle.sym_code.specs.declared.code.Target.{Target}
use Rattle.sym_code.specs.declared.code.Target.TheVariants as targets
use Rattle.lean_code.specs.Rows.{Apart, Note, olds, note_ahead, Lean, old_program, new_program, old_setting, new_setting}
use Rattle.lean_code.specs.Changes.{Weaker, Covers}
use Rattle.lean_code.specs.Right.{Expects, Comes, Enters, noted, KeepsGoto, KeepsCall, IsSound}
use Rattle.lean_code.proofs.Shown.{untied}
use Rattle.lean_code.proofs.Lists.{never, stands_at}
use Rattle.lean_code.proofs.Places.{under, note_at, row_at, to_behind, to_front, to_label, under_behind, under_front, under_label}
use Rattle.lean_code.proofs.Relation.{Frame, held, apart_of, or_left, or_right, or_both, old_back, olds_of, news_of, WaitsFor, Waits, Ready, Goes, IsLeft, Match, arrive}
use Rattle.lean_code.proofs.Kept.{Scene, one, other, rows, go}

pub as_long : (x : Lean) (ks : List Frame) → length (olds_of x ks) ≡ length (news_of x ks)
as_long x [] = refl
as_long x (k ∷ ks) = ap suc (as_long x ks)

enters_expects : (o : Option (Option Note)) (n : Note) → Enters o n → Expects o n.facts (record n.apart { bytes = λ a. false })
enters_expects None n e = tt
enters_expects (Some None) n e = e
enters_expects (Some (Some k)) n e = (e.0, record { flags = record { w = e.1.w; z = e.1.z; dc = e.1.dc; c = e.1.c }; bytes = λ a z. refl }, untied k n.facts.number e.2)

-- what a call leaves, and the caller's own bytes
abbrev back_apart : Apart → (ℕ → Bool) → Apart
back_apart d across = record d { bytes = λ a. d.bytes a || across a }

comes_expects : (o : Option (Option Note)) (k n : Note) (across : ℕ → Bool) → Comes o k across → Weaker k.facts n.facts → Covers k.apart n.apart → Expects o n.facts (back_apart n.apart across)
comes_expects None k n across e w c = tt
comes_expects (Some None) k n across e w c = e
comes_expects (Some (Some b)) k n across e w c = (
  record { number = λ i z. w.number i (e.0.number i z); held = λ a z. w.held a (e.0.held a z); zero = λ z. w.zero (e.0.zero z); known = λ a i z. w.known a i (e.0.known a i z); twin = λ a b z. w.twin a b (e.0.twin a b z); carry_bit = λ z. w.carry_bit (e.0.carry_bit z); zero_bit = λ z. w.zero_bit (e.0.zero_bit z) },
  record {
    flags = record { w = λ z. c.flags.w (e.1.w z); z = λ z. c.flags.z (e.1.z z); dc = λ z. c.flags.dc (e.1.dc z); c = λ z. c.flags.c (e.1.c z) };
    bytes = λ a z. or_both (n.apart.bytes a) (across a) (c.bytes a (e.3 a z).0) (e.3 a z).1;
  },
  untied b n.facts.number e.2,
)

module _ (x : Lean) (sound : IsSound x) (inside : Bool) (rest : ℕ → Bool) (scene : Scene x inside rest) where
  abbrev p : Position
  p = scene.p

  abbrev n : Note
  n = scene.n

  abbrev ks : List Frame
  ks = scene.ks

  abbrev Both : Effect → Effect → Type 0
  Both = Match x inside rest (apart_of n ks) scene.m scene.k

  same_length : (s t : List Position) → s ≡ olds_of x ks → t ≡ news_of x ks → length s ≡ length t
  same_length s t a b = ap length a ∙ as_long x ks ∙ sym (ap length b)

  abbrev one_of : List Position → Thread
  one_of s = record { rest = None; at = Some p; stack = s; registers = scene.r }

  abbrev other_of : List Position → Thread
  other_of s = record { rest = None; at = Some (under x p); stack = s; registers = scene.s }

  -- main ends
  ended : (s t : List Position) → s ≡ olds_of x ks → t ≡ news_of x ks → Ready x inside rest (record (one_of s) { at = None }) (record (other_of t) { at = None }) scene.m scene.k
  ended s t a b = record {
    home = p.block;
    note = n;
    frames = ks;
    tied = record { same_root = scene.inside_is; rest = refl; loud = tt; at = refl; olds = a; news = b; waits = scene.waits; alike = scene.alike; holds = scene.holds; note = scene.note; ties = scene.ties };
    same = λ c u v. scene.still c (or_left (n.apart.bytes c) (held ks c) u) (or_right (n.apart.bytes c) (held ks c) u) v;
  }

  no_news : (ks : List Frame) → [] ≡ olds_of x ks → (q : Position) (t : List Position) → q ∷ t ≡ news_of x ks → ⊥
  no_news [] a q t b = absurd (cc)
  no_news (k ∷ ks) a q t b = absurd (cc)

  halt_both : (i : Bool) → inside ≡ i → (s t : List Position) → s ≡ olds_of x ks → t ≡ news_of x ks → Both (halt i (one_of s) s) (halt i (other_of t) t)
  halt_both true e s t a b = tt
  halt_both false e (q ∷ s) t a b = tt
  halt_both false e [] [] a b = (e, ended [] [] a b)
  halt_both false e [] (q ∷ t) a b = absurd (no_news ks a q t b)

  left_over : (ks : List Frame) → [] ≡ olds_of x ks → (a : ℕ) → n.apart.bytes a ≡ false → apart_of n ks a ≡ false
  left_over [] e a d = or_both (n.apart.bytes a) false d refl
  left_over (k ∷ ks) e a d = absurd (cc)

  restore_both : (i : Bool) (s t : List Position) → s ≡ olds_of x ks → t ≡ news_of x ks → IsLeft x inside (n.apart.bytes) → Both (restore i s) (restore i t)
  restore_both false s t a b e = tt
  restore_both true (q ∷ s) t a b e = tt
  restore_both true [] [] a b e = (e.0, λ c z. left_over ks a c (e.1 c z))
  restore_both true [] (q ∷ t) a b e = absurd (no_news ks a q t b)

  jump_both : (o : Option ℕ) → Expects (noted (x.rows p.block) o) n.facts n.apart
      → Both (jump_to (one x sound inside rest scene) (option_map (λ k. stand (old_program x) (position p.block k)) o)) (jump_to (other x sound inside rest scene) (option_map (under x) (option_map (λ k. stand (old_program x) (position p.block k)) o)))
  jump_both None e = tt
  jump_both (Some k) e = (
    go x sound inside rest scene (note_ahead (drop k (x.rows p.block))) n.facts n.apart (stand (old_program x) (position p.block k)) (under x (stand (old_program x) (position p.block k))) (to_label x p.block k) refl e None None refl tt
        scene.r scene.s scene.m scene.k scene.alike scene.holds scene.still,
    tt,
  )

  pub goto_both : (target : Target) → KeepsGoto x p.block inside n target → Both (goto (old_setting x) inside p (one x sound inside rest scene) target) (goto (new_setting x) inside (under x p) (other x sound inside rest scene) target)
  goto_both (targets.Label Halt) e = halt_both inside refl scene.stack scene.new_stack scene.olds scene.news
  goto_both (targets.Label Restore) e = restore_both inside scene.stack scene.new_stack scene.olds scene.news e
  goto_both (targets.Label (Inner l)) e =
      subst (λ (o : Option Position). Both (jump_to (one x sound inside rest scene) (place_of (old_program x) p (targets.Label (Inner l)))) (jump_to (other x sound inside rest scene) o)) (sym (under_label x p l))
      (jump_both (label_from (olds (x.rows p.block)) (Inner l) 0) e)
  goto_both (targets.Block name) e = absurd e

  call_if : (c d : Bool) → c ≡ d → (e f : Effect) → Both e f → Both (if c then e else Stuck) (if d then f else Stuck)
  call_if true true is e f h = h
  call_if false d is e f h = tt
  call_if true false is e f h = never (sym is)

  abbrev frame : Frame
  frame = record { at = p; note = n }

  waits_for : (name : BlockName) → KeepsCall x p.block inside n (rows x sound inside rest scene) (targets.Block name) → WaitsFor x inside name frame
  waits_for name e = record {
    same_root = scene.inside_is;
    comes = subst (λ (o : Option (Option Note)). Comes o (x.ends name) n.apart.bytes) (sym (to_behind x p).note) e.2;
    outer = e.3;
    own = scene.note.bytes;
  }

  call_goes : stands_at (row_at x p) ≡ true → (name : BlockName) → KeepsCall x p.block inside n (rows x sound inside rest scene) (targets.Block name)
      → Goes x inside rest (record { rest = None; at = Some (front (old_program x) name); stack = behind (old_program x) p ∷ scene.stack; registers = scene.r })
      (record { rest = None; at = Some (front (new_program x) name); stack = behind (new_program x) (under x p) ∷ scene.new_stack; registers = scene.s }) scene.m scene.k
  call_goes stands name e =
      arrive x sound inside rest name (front (old_program x) name) (note_ahead (x.rows name)) n.facts (record n.apart { bytes = λ a. false }) (to_front x name) e.0 (enters_expects (note_ahead (x.rows name)) n e.1)
      (frame ∷ ks) (waits_for name e, scene.waits)
      (record { rest = None; at = Some (front (old_program x) name); stack = behind (old_program x) p ∷ scene.stack; registers = scene.r })
      (record { rest = None; at = Some (front (new_program x) name); stack = behind (new_program x) (under x p) ∷ scene.new_stack; registers = scene.s })
      scene.m scene.k refl (ap (λ (z : Position). Some z) (under_front x name)) refl tt
      (ap (λ (z : List Position). behind (old_program x) p ∷ z) scene.olds)
      (ap (λ (z : List Position). behind (new_program x) (under x p) ∷ z) scene.news ∙ ap (λ (z : Position). z ∷ news_of x ks) (under_behind x p stands))
      (record { w = scene.alike.w; z = scene.alike.z; dc = scene.alike.dc; c = scene.alike.c; fsr = scene.alike.fsr; irp = scene.alike.irp }) scene.holds
      (λ a d h w. scene.still a (or_left (n.apart.bytes a) (held ks a) h) (or_right (n.apart.bytes a) (held ks a) h) w)

  pub call_both : stands_at (row_at x p) ≡ true → (target : Target) → KeepsCall x p.block inside n (rows x sound inside rest scene) target
      → Both (call (old_setting x) inside p (one x sound inside rest scene) target) (call (new_setting x) inside (under x p) (other x sound inside rest scene) target)
  call_both stands (targets.Label label) e = absurd e
  call_both stands (targets.Block name) e =
      call_if (nat_lt (length scene.stack) (x.limit inside)) (nat_lt (length scene.new_stack) (x.limit inside)) (ap (λ (z : ℕ). nat_lt z (x.limit inside)) (same_length scene.stack scene.new_stack scene.olds scene.news))
      (jump_to (record (one x sound inside rest scene) { stack = behind (old_program x) p ∷ scene.stack }) (Some (front (old_program x) name)))
      (jump_to (record (other x sound inside rest scene) { stack = behind (new_program x) (under x p) ∷ scene.new_stack }) (Some (front (new_program x) name)))
      (call_goes stands name e, tt)

  -- a return
  back_goes : (k : Frame) (ks : List Frame) → Waits x inside p.block (k ∷ ks) → ((a : ℕ) → n.apart.bytes a ≡ false → held (k ∷ ks) a ≡ false → rest a ≡ false → scene.m a ≡ scene.k a)
      → Weaker (x.ends p.block).facts n.facts → Covers (x.ends p.block).apart n.apart
      → Goes x inside rest (record { rest = None; at = Some (old_back x k); stack = olds_of x ks; registers = scene.r }) (record { rest = None; at = Some (under x (old_back x k)); stack = news_of x ks; registers = scene.s }) scene.m scene.k
  back_goes k ks w still f c =
      let to = to_behind x k.at in
      arrive x sound inside rest k.at.block (old_back x k) (note_at x (old_back x k)) n.facts (back_apart n.apart k.note.apart.bytes) (record { settled = to.settled; note = refl; block = to.block }) w.0.same_root
      (comes_expects (note_at x (old_back x k)) (x.ends p.block) n k.note.apart.bytes w.0.comes f c)
      ks w.1
      (record { rest = None; at = Some (old_back x k); stack = olds_of x ks; registers = scene.r }) (record { rest = None; at = Some (under x (old_back x k)); stack = news_of x ks; registers = scene.s })
      scene.m scene.k refl refl refl tt refl refl
      (record { w = scene.alike.w; z = scene.alike.z; dc = scene.alike.dc; c = scene.alike.c; fsr = scene.alike.fsr; irp = scene.alike.irp }) scene.holds
      (λ a d h v. still a (or_left (n.apart.bytes a) (k.note.apart.bytes a) d) (or_both (k.note.apart.bytes a) (held ks a) (or_right (n.apart.bytes a) (k.note.apart.bytes a) d) h) v)

  back_by : (ks : List Frame) → Waits x inside p.block ks → ((a : ℕ) → n.apart.bytes a ≡ false → held ks a ≡ false → rest a ≡ false → scene.m a ≡ scene.k a)
      → Weaker (x.ends p.block).facts n.facts → Covers (x.ends p.block).apart n.apart → Both (back (one x sound inside rest scene) (olds_of x ks)) (back (other x sound inside rest scene) (news_of x ks))
  back_by [] w still f c = tt
  back_by (k ∷ ks) w still f c = (back_goes k ks w still f c, tt)

  pub back_both : Weaker (x.ends p.block).facts n.facts → Covers (x.ends p.block).apart n.apart → Both (back (one x sound inside rest scene) scene.stack) (back (other x sound inside rest scene) scene.new_stack)
  back_both f c =
      subst (λ (z : List Position). Both (back (one x sound inside rest scene) z) (back (other x sound inside rest scene) scene.new_stack)) (sym scene.olds)
      (subst (λ (z : List Position). Both (back (one x sound inside rest scene) (olds_of x ks)) (back (other x sound inside rest scene) z)) (sym scene.news)
      (back_by ks scene.waits scene.still f c))
