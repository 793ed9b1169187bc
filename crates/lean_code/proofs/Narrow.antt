-- An operation on a byte whose result goes to W in place of the byte.
use Rattle.std.proofs.Common.{◌≡◌, ℕ, Bool, true, false, if◌then◌else◌, List, None, refl, sym, ap, ◌∙◌, subst}
use Rattle.std.specs.Prelude.{nat_eq}
use Rattle.std.proofs.Common.{eq-eqb}
use Rattle.sym_code.specs.Effect.{Thread, Memory, with_byte, Access, Silent, Effect, access_of, goes, file_to_w, file_to_file, effect_of}
use Rattle.sym_code.specs.Layout.{owner}
use Rattle.sym_code.specs.Programs.{Position, behind, onward}
use Rattle.sym_code.specs.Registers.{Registers, result_with, flags_with, skips_with}
use Rattle.sym_code.specs.Touching.{touches}
use Rattle.sym_code.specs.declared.code.FileOperation.{FileOperation}
use Rattle.sym_code.specs.declared.code.Into.TheVariants as into
use Rattle.sym_code.specs.declared.code.Sym.{Sym}
use Rattle.sym_code.specs.declared.code.Sym.TheVariants as syms
use Rattle.lean_code.specs.Rows.{Facts, Apart, Note, Row, narrowed, note_ahead, Lean, old_program, new_program, old_setting, new_setting}
use Rattle.lean_code.specs.Changes.{carries, with_bits, Holds, Aim, ToByte, aim, is_own, lost, without_zero, flags_in, may_skip, both_set, other_w, other_byte}
use Rattle.lean_code.specs.Right.{ExpectsBy, Uses, NarrowsFor, IsNarrowed, IsSound}
use Rattle.lean_code.specs.Links.{clears}
use Rattle.lean_code.proofs.Shown.{reported}
use Rattle.lean_code.proofs.Lists.{never, stands_at}
use Rattle.lean_code.proofs.Places.{under, row_at, to_behind, under_behind}
use Rattle.lean_code.proofs.Alike.{result_same, flags_same, no_skip}
use Rattle.lean_code.proofs.Bits.{carry_set, zero_set}
use Rattle.lean_code.proofs.Facts.{bits_hold, own_near, own_other, flags_hold, lost_byte, some_is}
use Rattle.lean_code.proofs.Accesses.{Told, Aims, access_told, access_aims, access_same}
use Rattle.lean_code.proofs.Relation.{apart_of, Goes, Match}
use Rattle.lean_code.proofs.Kept.{Scene, one, other, rows, read_same, go_by}
use Rattle.lean_code.proofs.Dropped.{byte_one}

module _ (x : Lean) (sound : IsSound x) (inside : Bool) (rest : ℕ → Bool) (scene : Scene x inside rest) (stands : stands_at (row_at x scene.p) ≡ true) where
  abbrev p : Position
  p = scene.p

  abbrev n : Note
  n = scene.n

  abbrev d : Apart
  d = scene.n.apart

  abbrev f : Facts
  f = scene.n.facts

  abbrev r : Registers
  r = scene.r

  abbrev s : Registers
  s = scene.s

  abbrev m : Memory
  m = scene.m

  abbrev k : Memory
  k = scene.k

  abbrev first : Thread
  first = one x sound inside rest scene

  abbrev second : Thread
  second = other x sound inside rest scene

  abbrev list : List Row
  list = rows x sound inside rest scene

  abbrev Both : Effect → Effect → Type 0
  Both = Match x inside rest (apart_of n scene.ks) m k

  abbrev pub IsBehind : FileOperation → ℕ → Type 0
  IsBehind op j = ExpectsBy (carries op j) (note_ahead list) (with_bits (flags_in op) (lost x.hidden (ToByte j) (without_zero f))) (other_w (other_byte j (both_set (flags_in op) d)))

  pub narrow_goes : (op : FileOperation) (j i : ℕ) → j ≡ i → is_own inside (owner x.layout i) ≡ true → Uses x p.block inside n op → may_skip op ≡ false → IsBehind op j → (y : ℕ) → m i ≡ y
      → Goes x inside rest (goes first (onward (old_program x) p (skips_with r op (m i))) (flags_with r op (m i)))
      (goes second (onward (new_program x) (under x p) (skips_with s op y)) (record (flags_with s op y) { w = result_with s op y })) (with_byte m i (result_with r op (m i))) k
  narrow_goes op j i is own uses plain behind_it y same =
      let al = flags_same d r s scene.alike op (m i) y uses.0 uses.1 same in
      let res = result_same d r s scene.alike op (m i) y uses.0 uses.1 same in
      let t = flags_with r op (m i) in
      let u = record (flags_with s op y) { w = result_with s op y } in
      let a = with_byte m i (result_with r op (m i)) in
      let g = lost x.hidden (ToByte j) (without_zero f) in
      let h = other_w (other_byte j (both_set (flags_in op) d)) in
      subst (λ (c : Bool). Goes x inside rest (goes first (onward (old_program x) p c) t) (goes second (onward (new_program x) (under x p) (skips_with s op y)) u) a k) (sym (no_skip r op (m i) plain))
      (subst (λ (c : Bool). Goes x inside rest (goes first (behind (old_program x) p) t) (goes second (onward (new_program x) (under x p) c) u) a k) (sym (no_skip s op y plain))
      (go_by x sound inside rest scene (carries op j) (note_ahead list) (with_bits (flags_in op) g) h (behind (old_program x) p) (behind (new_program x) (under x p)) (to_behind x p) (under_behind x p stands) behind_it None None refl tt t u a k
      (record { w = λ z. never (sym z); z = al.z; dc = al.dc; c = al.c; fsr = al.fsr; irp = al.irp })
      (bits_hold (flags_in op) g t a (λ z. carry_set op r (m i) z) (λ z. zero_set op r (m i) z) (subst (λ (z : ℕ). Holds (lost x.hidden (ToByte z) (without_zero f)) t a) (sym is) (lost_byte (without_zero f) t m (flags_hold f r m scene.holds op (m i)) x.hidden i (result_with r op (m i)))))
      (λ z o w q. byte_one (nat_eq z i) (d.bytes z) (result_with r op (m i)) (m z) (k z) (λ b. scene.still z b w q) (subst (λ (b : ℕ). (if nat_eq z b then true else d.bytes z) ≡ false) is o))
      (record { carry = λ z c. carried z (sym (some_is j z c) ∙ is) ∙ res; shown = reported op t.w y s })))
    where
      carried : (z : ℕ) → z ≡ i → with_byte m i (result_with r op (m i)) z ≡ result_with r op (m i)
      carried z e = ap (λ (c : Bool). if c then result_with r op (m i) else m z) (eq-eqb z i e)

  narrow_by : (op : FileOperation) (a b : Aim) (c e : Access) → Aims x a c → Aims x b e → Told x inside true c → NarrowsFor x p.block inside n list op a b
      → Both (file_to_file (old_program x) p first m op c) (file_to_w (new_program x) (under x p) second k op e)
  narrow_by op (ToByte j) (ToByte v) (Silent i) (Silent z) is to t l =
      (narrow_goes op j i is t l.0 l.2 l.4 (k z) (read_same x sound inside rest scene (ToByte j) i is (own_near inside (owner x.layout i) t) l.1 ∙ ap k (sym is ∙ sym l.3 ∙ to)), own_other inside (owner x.layout i) t)
  narrow_by op (ToByte j) (ToByte v) (Silent i) c is to t l = absurd to
  narrow_by op (ToByte j) (ToByte v) c e is to t l = absurd is
  narrow_by op a b c e is to t l = absurd l

  pub narrow_both : (i : Sym) → clears x.hidden r (touches i) ≡ true → IsNarrowed x p.block inside n list i → Both (effect_of (old_setting x) inside p first m i) (effect_of (new_setting x) inside (under x p) second k (narrowed i))
  unfolding effect_of
  narrow_both (syms.File op operand into.File) clear e =
      subst (λ (c : Access). Both (file_to_file (old_program x) p first m op (access_of (old_setting x) inside true r operand)) (file_to_w (new_program x) (under x p) second k op c))
      (sym (access_same x inside false r s operand scene.alike.fsr scene.alike.irp))
      (narrow_by op (aim x.layout inside true operand) (aim x.layout inside false operand) (access_of (old_setting x) inside true r operand) (access_of (old_setting x) inside false r operand)
      (access_aims x inside true r operand clear) (access_aims x inside false r operand clear) (access_told x inside true r operand) e)
  narrow_both (syms.Label label) clear e = tt
  narrow_both i clear e = absurd e
