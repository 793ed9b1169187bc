-- An operation on W and a number in place of one on W and a byte.
use Rattle.std.proofs.Common.{◌≡◌, ℕ, Bool, true, false, if◌then◌else◌, List, Some, None, refl, sym, ap, ◌∙◌, subst}
use Rattle.std.specs.Prelude.{nat_eq, ◌&&◌}
use Rattle.pic_world.specs.Bits.{truth}
use Rattle.sym_code.specs.Effect.{Thread, Memory, Access, Silent, Denied, Effect, access_of, goes, quiet, file_to_w, effect_of}
use Rattle.sym_code.specs.Programs.{Position, behind, onward}
use Rattle.sym_code.specs.Registers.{Registers, result_with, flags_with, literal_row, after_row}
use Rattle.sym_code.specs.Touching.{touches}
use Rattle.sym_code.specs.declared.code.FileOperation.{FileOperation}
use Rattle.sym_code.specs.declared.code.FileOperation.TheVariants as files
use Rattle.sym_code.specs.declared.code.Into.TheVariants as into
use Rattle.sym_code.specs.declared.code.Literal.TheVariants.{Number}
use Rattle.sym_code.specs.declared.code.LiteralOperation.{LiteralOperation}
use Rattle.sym_code.specs.declared.code.LiteralOperation.TheVariants as literals
use Rattle.sym_code.specs.declared.code.Sym.{Sym}
use Rattle.sym_code.specs.declared.code.Sym.TheVariants as syms
use Rattle.lean_code.specs.Rows.{Facts, Apart, Note, Row, Lean, old_program, new_program, old_setting, new_setting}
use Rattle.lean_code.specs.Changes.{Alike, Aim, ToByte, aim, moved, after_to_w, flags_in, uses_w, may_skip, literal_flags, literal_uses, is_retlw, literal_for, both_set, one_sets, same_w}
use Rattle.lean_code.specs.Right.{literal_apart, PutsSame, PutsNumber, PutsSelf, PutsByte, PutsFor, IsPut, IsSound}
use Rattle.lean_code.specs.Links.{clears}
use Rattle.lean_code.proofs.Lists.{never, stands_at}
use Rattle.lean_code.proofs.Places.{under, row_at}
use Rattle.lean_code.proofs.Computing.{Says, computed_is, way_is}
use Rattle.lean_code.proofs.Alike.{flags_alone, literal_is, literal_same, move_is, moved_w, or_nothing, no_skip}
use Rattle.lean_code.proofs.Facts.{to_w_holds}
use Rattle.lean_code.proofs.Accesses.{Aims, access_aims}
use Rattle.lean_code.proofs.Relation.{apart_of, Goes, Match}
use Rattle.lean_code.proofs.Kept.{Scene, one, other, rows, next}
use Rattle.lean_code.proofs.KeptRows.{literal_quiet}

-- what such an operation is like
pub record IsLike (op : FileOperation) (new : LiteralOperation) : Type 0 where
  pub plain : is_retlw new ≡ false
  pub steps : may_skip op ≡ false

like_by : (op : FileOperation) (a new : LiteralOperation) → Some a ≡ Some new → is_retlw a ≡ false → may_skip op ≡ false → IsLike op new
like_by op a new e p s = record { plain = subst (λ (l : LiteralOperation). is_retlw l ≡ false) (inner a new e) p; steps = s }
  where
    inner : (a b : LiteralOperation) → Some a ≡ Some b → a ≡ b
    inner a b e = cc

like : (op : FileOperation) (new : LiteralOperation) → literal_for op ≡ Some new → IsLike op new
like files.Addwf new e = like_by files.Addwf literals.Addlw new e refl refl
like files.Andwf new e = like_by files.Andwf literals.Andlw new e refl refl
like files.Iorwf new e = like_by files.Iorwf literals.Iorlw new e refl refl
like files.Movf new e = like_by files.Movf literals.Movlw new e refl refl
like files.Subwf new e = like_by files.Subwf literals.Sublw new e refl refl
like files.Xorwf new e = like_by files.Xorwf literals.Xorlw new e refl refl
like op new e = absurd (cc)

module _ (x : Lean) (sound : IsSound x) (inside : Bool) (rest : ℕ → Bool) (scene : Scene x inside rest) (stands : stands_at (row_at x scene.p) ≡ true) where
  abbrev p : Position
  p = scene.p

  abbrev n : Note
  n = scene.n

  abbrev d : Apart
  d = scene.n.apart

  abbrev f : Facts
  f = scene.n.facts

  abbrev r : Registers
  r = scene.r

  abbrev s : Registers
  s = scene.s

  abbrev m : Memory
  m = scene.m

  abbrev first : Thread
  first = one x sound inside rest scene

  abbrev second : Thread
  second = other x sound inside rest scene

  abbrev list : List Row
  list = rows x sound inside rest scene

  abbrev Both : Effect → Effect → Type 0
  Both = Match x inside rest (apart_of n scene.ks) m scene.k

  z_if : (c g b : Bool) (v : ℕ) → (c ≡ true → r.w ≡ v) → (g ≡ true → r.z ≡ truth (nat_eq r.w 0)) → (b ≡ false → r.z ≡ s.z) → (if c && g then b else true) ≡ false → truth (nat_eq v 0) ≡ s.z
  z_if true true b v same zero l e = ap (λ (i : ℕ). truth (nat_eq i 0)) (sym (same refl)) ∙ sym (zero refl) ∙ l e
  z_if true false b v same zero l e = never (sym e)
  z_if false g b v same zero l e = never (sym e)

  -- the registers behind it
  move_alike : (j i v : ℕ) → j ≡ i → m i ≡ v → Alike (literal_apart f d files.Movf j) (record (flags_with r files.Movf (m i)) { w = result_with r files.Movf (m i) }) (after_row (literal_row literals.Movlw v) s)
  move_alike j i v is e =
      subst (λ (t : Registers). Alike (literal_apart f d files.Movf j) t (after_row (literal_row literals.Movlw v) s)) (sym (move_is r (m i)))
      (subst (λ (u : Registers). Alike (literal_apart f d files.Movf j) (record r { w = m i; z = truth (nat_eq (m i) 0) }) u) (sym (moved_w s v))
      (record {
        w = λ z. e;
        z = λ z. z_if (f.held j) f.zero d.z (m i) (λ h. scene.holds.held j h ∙ ap m is) scene.holds.zero scene.alike.z z;
        dc = scene.alike.dc;
        c = scene.alike.c;
        fsr = scene.alike.fsr;
        irp = scene.alike.irp;
      }))

  -- W is on both what is read
  self_alike : (i v : ℕ) → v ≡ 0 → m i ≡ s.w → Alike (record d { w = false; z = false }) (record (flags_with r files.Movf (m i)) { w = result_with r files.Movf (m i) }) (after_row (literal_row literals.Iorlw v) s)
  self_alike i v zero same =
      subst (λ (t : Registers). Alike (record d { w = false; z = false }) t (after_row (literal_row literals.Iorlw v) s)) (sym (move_is r (m i)))
      (subst (λ (u : Registers). Alike (record d { w = false; z = false }) (record r { w = m i; z = truth (nat_eq (m i) 0) }) u) (sym (or_nothing s v zero))
      (record { w = λ e. same; z = λ e. ap (λ (k : ℕ). truth (nat_eq k 0)) same; dc = scene.alike.dc; c = scene.alike.c; fsr = scene.alike.fsr; irp = scene.alike.irp }))

  other_alike : (op : FileOperation) (new : LiteralOperation) (i v : ℕ) → literal_for op ≡ Some new → (new ≡ literals.Movlw → ⊥) → is_retlw new ≡ false → literal_flags new ≡ flags_in op → (literal_uses new ≡ true → d.w ≡ false) → m i ≡ v
      → Alike (same_w (both_set (flags_in op) d)) (record (flags_with r op (m i)) { w = result_with r op (m i) }) (after_row (literal_row new v) s)
  other_alike op new i v is no_move plain same_flags uses e =
      subst (λ (w : ℕ). Alike (same_w (both_set (flags_in op) d)) (record (flags_with r op w) { w = result_with r op w }) (after_row (literal_row new v) s)) (sym e)
      (subst (λ (t : Registers). Alike (same_w (both_set (flags_in op) d)) t (after_row (literal_row new v) s)) (sym (literal_is op new r v is no_move))
      (subst (λ g. Alike (same_w (both_set g d)) (after_row (literal_row new v) r) (after_row (literal_row new v) s)) same_flags (literal_same d r s scene.alike new v plain uses)))

  inner : (a b : LiteralOperation) → Some a ≡ Some b → a ≡ b
  inner a b e = cc

  abbrev PutAlike : FileOperation → ℕ → ℕ → ℕ → LiteralOperation → Type 0
  PutAlike op j i v new = Alike (literal_apart f d op j) (record (flags_with r op (m i)) { w = result_with r op (m i) }) (after_row (literal_row new v) s)

  put_alike : (op : FileOperation) (new : LiteralOperation) (j i v : ℕ) → literal_for op ≡ Some new → (uses_w op ≡ true → d.w ≡ false) → j ≡ i → m i ≡ v → PutAlike op j i v new
  put_alike files.Movf new j i v e uses is same = subst (PutAlike files.Movf j i v) (inner literals.Movlw new e) (move_alike j i v is same)
  put_alike files.Addwf new j i v e uses is same = subst (PutAlike files.Addwf j i v) (inner literals.Addlw new e) (other_alike files.Addwf literals.Addlw i v refl (λ z. absurd (cc)) refl refl uses same)
  put_alike files.Andwf new j i v e uses is same = subst (PutAlike files.Andwf j i v) (inner literals.Andlw new e) (other_alike files.Andwf literals.Andlw i v refl (λ z. absurd (cc)) refl refl uses same)
  put_alike files.Iorwf new j i v e uses is same = subst (PutAlike files.Iorwf j i v) (inner literals.Iorlw new e) (other_alike files.Iorwf literals.Iorlw i v refl (λ z. absurd (cc)) refl refl uses same)
  put_alike files.Subwf new j i v e uses is same = subst (PutAlike files.Subwf j i v) (inner literals.Sublw new e) (other_alike files.Subwf literals.Sublw i v refl (λ z. absurd (cc)) refl refl uses same)
  put_alike files.Xorwf new j i v e uses is same = subst (PutAlike files.Xorwf j i v) (inner literals.Xorlw new e) (other_alike files.Xorwf literals.Xorlw i v refl (λ z. absurd (cc)) refl refl uses same)
  put_alike op new j i v e uses is same = absurd (cc)

  -- the new instruction's effect
  abbrev new_effect : LiteralOperation → ℕ → Effect
  new_effect new v = quiet (goes second (behind (new_program x) (under x p)) (after_row (literal_row new v) s))

  put_quiet : (op : FileOperation) (new : LiteralOperation) (v j i : ℕ) → j ≡ i → PutsSame x p.block inside n list op j new v → Both (file_to_w (old_program x) p first m op (Silent i)) (new_effect new v)
  put_quiet op new v j i is e =
      let t = record (flags_with r op (m i)) { w = result_with r op (m i) } in
      let same : m i ≡ v = ap m (sym is) ∙ scene.holds.known j v e.1 in (
        subst (λ (c : Bool). Goes x inside rest (goes first (onward (old_program x) p c) t) (goes second (behind (new_program x) (under x p)) (after_row (literal_row new v) s)) m scene.k) (sym (no_skip r op (m i) (like op new e.0).steps))
            (next x sound inside rest scene stands (after_to_w op (ToByte j) f) (literal_apart f d op j) e.3 None None refl tt t (after_row (literal_row new v) s) m scene.k
            (put_alike op new j i v e.0 e.2 is same) (to_w_holds f r m scene.holds op (ToByte j) (m i) (λ h z. ap m (sym is ∙ aim_eq j h z))) (λ a z o w. scene.still a (sym (apart_bytes op j a) ∙ z) o w)),
        tt,
      )
    where
      aim_eq : (j h : ℕ) → ToByte j ≡ ToByte h → j ≡ h
      aim_eq j h e = cc

      apart_bytes : (op : FileOperation) (j a : ℕ) → (literal_apart f d op j).bytes a ≡ d.bytes a
      apart_bytes files.Movf j a = refl
      apart_bytes op j a = refl

  -- a test of W in place of a read of what it holds
  put_self : (v j i : ℕ) → j ≡ i → PutsSelf x p.block inside n list j v → Both (file_to_w (old_program x) p first m files.Movf (Silent i)) (new_effect literals.Iorlw v)
  put_self v j i is e =
      let t = record (flags_with r files.Movf (m i)) { w = result_with r files.Movf (m i) } in
      let same : m i ≡ s.w = sym (scene.holds.held j e.1 ∙ ap m is) ∙ scene.alike.w e.2 in (
        subst (λ (c : Bool). Goes x inside rest (goes first (onward (old_program x) p c) t) (goes second (behind (new_program x) (under x p)) (after_row (literal_row literals.Iorlw v) s)) m scene.k) (sym (no_skip r files.Movf (m i) refl))
            (next x sound inside rest scene stands (moved (ToByte j) f) (record d { w = false; z = false }) e.3 None None refl tt t (after_row (literal_row literals.Iorlw v) s) m scene.k
            (self_alike i v e.0 same) (to_w_holds f r m scene.holds files.Movf (ToByte j) (m i) (λ h z. ap m (sym is ∙ aim_eq j h z))) scene.still),
        tt,
      )
    where
      aim_eq : (j h : ℕ) → ToByte j ≡ ToByte h → j ≡ h
      aim_eq j h e = cc

  -- the number that the operation makes
  put_number : (op : FileOperation) (v j i : ℕ) → j ≡ i → PutsNumber x p.block inside n list op j v → Both (file_to_w (old_program x) p first m op (Silent i)) (new_effect literals.Movlw v)
  put_number op v j i is e =
      let t = record (flags_with r op (m i)) { w = result_with r op (m i) } in
      let says : Says (f.known j) (m i) = λ h z. ap m (sym is) ∙ scene.holds.known j h z in
      let al = flags_alone d r s scene.alike op (m i) in
      let made = computed_is op r (m i) v f.number (f.known j) scene.holds.number says e.1 in (
        subst (λ (c : Bool). Goes x inside rest (goes first (onward (old_program x) p c) t) (goes second (behind (new_program x) (under x p)) (after_row (literal_row literals.Movlw v) s)) m scene.k)
            (sym (way_is op r (m i) (f.known j) false says e.0))
            (next x sound inside rest scene stands (after_to_w op (ToByte j) f) (same_w (one_sets (flags_in op) d)) e.2 None None refl tt t (after_row (literal_row literals.Movlw v) s) m scene.k
            (subst (λ (u : Registers). Alike (same_w (one_sets (flags_in op) d)) t u) (sym (moved_w s v)) (record { w = λ z. made; z = al.z; dc = al.dc; c = al.c; fsr = al.fsr; irp = al.irp }))
            (to_w_holds f r m scene.holds op (ToByte j) (m i) (λ h z. ap m (sym is ∙ aim_eq j h z))) scene.still),
        tt,
      )
    where
      aim_eq : (j h : ℕ) → ToByte j ≡ ToByte h → j ≡ h
      aim_eq j h e = cc

  put_byte : (op : FileOperation) (new : LiteralOperation) (v j i : ℕ) → j ≡ i → PutsByte x p.block inside n list op j new v → Both (file_to_w (old_program x) p first m op (Silent i)) (new_effect new v)
  put_byte files.Movf literals.Iorlw v j i is e = put_self v j i is e
  put_byte files.Movf new v j i is e = put_quiet files.Movf new v j i is e
  put_byte op literals.Movlw v j i is e = put_number op v j i is e
  put_byte op new v j i is e = put_quiet op new v j i is e

  plain_byte : (op : FileOperation) (j : ℕ) (new : LiteralOperation) (v : ℕ) → PutsByte x p.block inside n list op j new v → is_retlw new ≡ false
  plain_byte files.Movf j literals.Iorlw v e = refl
  plain_byte files.Movf j new v e = (like files.Movf new e.0).plain
  plain_byte op j literals.Movlw v e = refl
  plain_byte op j new v e = (like op new e.0).plain

  put_by : (op : FileOperation) (a : Aim) (c : Access) (new : LiteralOperation) (v : ℕ) → Aims x a c → PutsFor x p.block inside n list op a new v → Both (file_to_w (old_program x) p first m op c) (new_effect new v)
  put_by op (ToByte j) (Silent i) new v is e = put_byte op new v j i is e
  put_by op (ToByte j) Denied new v is e = tt
  put_by op (ToByte j) c new v is e = absurd is
  put_by op a c new v is e = absurd e

  put_plain : (op : FileOperation) (a : Aim) (new : LiteralOperation) (v : ℕ) → PutsFor x p.block inside n list op a new v → is_retlw new ≡ false
  put_plain op (ToByte j) new v e = plain_byte op j new v e
  put_plain op a new v e = absurd e

  pub put_both : (new : LiteralOperation) (v : ℕ) (i : Sym) → clears x.hidden r (touches i) ≡ true → IsPut x p.block inside n list new v i
      → Both (effect_of (old_setting x) inside p first m i) (effect_of (new_setting x) inside (under x p) second scene.k (syms.Literal new (Number v)))
  unfolding effect_of
  put_both new v (syms.File op operand into.W) clear e =
      subst (λ (z : Effect). Both (file_to_w (old_program x) p first m op (access_of (old_setting x) inside false r operand)) z) (sym (literal_quiet (new_program x) (under x p) second new (after_row (literal_row new v) s) (put_plain op (aim x.layout inside false operand) new v e)))
      (put_by op (aim x.layout inside false operand) (access_of (old_setting x) inside false r operand) new v (access_aims x inside false r operand clear) e)
  put_both new v (syms.Label label) clear e = tt
  put_both new v i clear e = absurd e
