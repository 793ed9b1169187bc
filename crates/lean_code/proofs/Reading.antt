-- Another byte that is read, of which the operand's is a copy.
use Rattle.std.proofs.Common.{◌≡◌, ℕ, Bool, true, false, List, Some, refl, sym, ap, ◌∙◌, subst}
use Rattle.std.specs.Prelude.{nat_eq}
use Rattle.pic_world.specs.Bits.{bit}
use Rattle.sym_code.specs.Effect.{Thread, Memory, Access, Silent, Effect, access_of, file_to_w, file_to_file, test, effect_of}
use Rattle.sym_code.specs.Layout.{owner}
use Rattle.sym_code.specs.Programs.{Position}
use Rattle.sym_code.specs.Registers.{Registers}
use Rattle.sym_code.specs.Touching.{touches}
use Rattle.sym_code.specs.declared.code.BitOperation.{BitOperation}
use Rattle.sym_code.specs.declared.code.BitOperation.TheVariants.{Bcf, Bsf, Btfsc, Btfss}
use Rattle.sym_code.specs.declared.code.FileOperation.{FileOperation}
use Rattle.sym_code.specs.declared.code.Into.TheVariants as into
use Rattle.sym_code.specs.declared.code.Operand.{Operand}
use Rattle.sym_code.specs.declared.code.Operand.TheVariants as operands
use Rattle.sym_code.specs.declared.code.Register.TheVariants.{Indf, Status, Fsr, Pclath}
use Rattle.sym_code.specs.declared.code.Sym.{Sym}
use Rattle.sym_code.specs.declared.code.Sym.TheVariants as syms
use Rattle.lean_code.specs.Computed.{way_of_bit}
use Rattle.lean_code.specs.Rows.{Facts, Apart, Note, Row, operand_before, reads_before, Lean, old_program, new_program, old_setting, new_setting}
use Rattle.lean_code.specs.Changes.{Aim, ToByte, aim}
use Rattle.lean_code.specs.Right.{Same, ReadsFor, ReadsTo, TestsFor, IsRead, IsSound}
use Rattle.lean_code.specs.Links.{clears}
use Rattle.lean_code.proofs.Lists.{stands_at}
use Rattle.lean_code.proofs.Places.{under, row_at}
use Rattle.lean_code.proofs.Facts.{own_other}
use Rattle.lean_code.proofs.Accesses.{Told, Aims, access_told, access_aims, access_same}
use Rattle.lean_code.proofs.Relation.{apart_of, Match}
use Rattle.lean_code.proofs.Kept.{Scene, one, other, rows, read_same, to_w, tested, IsWay}
use Rattle.lean_code.proofs.Computing.{bit_way_is}
use Rattle.lean_code.proofs.Narrow.{narrow_goes}

module _ (x : Lean) (sound : IsSound x) (inside : Bool) (rest : ℕ → Bool) (scene : Scene x inside rest) (stands : stands_at (row_at x scene.p) ≡ true) where
  abbrev p : Position
  p = scene.p

  abbrev n : Note
  n = scene.n

  abbrev d : Apart
  d = scene.n.apart

  abbrev f : Facts
  f = scene.n.facts

  abbrev r : Registers
  r = scene.r

  abbrev s : Registers
  s = scene.s

  abbrev m : Memory
  m = scene.m

  abbrev k : Memory
  k = scene.k

  abbrev first : Thread
  first = one x sound inside rest scene

  abbrev second : Thread
  second = other x sound inside rest scene

  abbrev list : List Row
  list = rows x sound inside rest scene

  abbrev apb : ℕ → Bool
  apb = apart_of n scene.ks

  abbrev Both : Effect → Effect → Type 0
  Both = Match x inside rest apb m k

  -- what the other machine reads is what is read from the copy
  same_read : (j i v z : ℕ) → j ≡ i → v ≡ z → f.twin j v ≡ true → Told x inside false (Silent z) → Same x.hidden (ToByte v) d (x.outer p.block) → m i ≡ k z
  same_read j i v z is to twin told same = ap m (sym is) ∙ scene.holds.twin j v twin ∙ ap m to ∙ read_same x sound inside rest scene (ToByte v) z to told same

  read_by : (op : FileOperation) (a b : Aim) (c e : Access) → Aims x a c → Aims x b e → Told x inside false e → ReadsFor x p.block inside n list op a b
      → Both (file_to_w (old_program x) p first m op c) (file_to_w (new_program x) (under x p) second k op e)
  read_by op (ToByte j) (ToByte v) (Silent i) (Silent z) is to told l =
      (to_w x sound inside rest scene stands apb op l.0.0 l.0.1 (ToByte j) l.3 (m i) (k z) (same_read j i v z is to l.1 told l.2) (λ h e. ap m (sym is ∙ aim_eq j h e)), tt)
    where
      aim_eq : (j h : ℕ) → ToByte j ≡ ToByte h → j ≡ h
      aim_eq j h e = cc
  read_by op (ToByte j) (ToByte v) (Silent i) c is to told l = absurd to
  read_by op (ToByte j) (ToByte v) c e is to told l = absurd is
  read_by op a b c e is to told l = absurd l

  read_to : (op : FileOperation) (a b c : Aim) (e g : Access) → Aims x a e → Aims x c g → Told x inside true e → Told x inside false g → ReadsTo x p.block inside n list op a b c
      → Both (file_to_file (old_program x) p first m op e) (file_to_w (new_program x) (under x p) second k op g)
  read_to op (ToByte j) (ToByte h) (ToByte v) (Silent i) (Silent z) is to own told l =
      (narrow_goes x sound inside rest scene stands op j i is own l.0 l.3 l.5 (k z) (same_read j i v z is to l.1 told l.2), own_other inside (owner x.layout i) own)
  read_to op (ToByte j) (ToByte h) (ToByte v) (Silent i) e is to own told l = absurd to
  read_to op (ToByte j) (ToByte h) (ToByte v) c e is to own told l = absurd is
  read_to op a b c e g is to own told l = absurd l

  test_by : (says : ℕ → Bool) (op : BitOperation) (b : ℕ) → IsWay x sound inside rest scene stands apb says (λ o. way_of_bit op o b) → (a h : Aim) (c e : Access) → Aims x a c → Aims x h e → Told x inside false e → TestsFor x p.block inside n list op b a h
      → Both (test (old_program x) p first m says c) (test (new_program x) (under x p) second k says e)
  test_by says op b ok (ToByte j) (ToByte v) (Silent i) (Silent z) is to told l =
      (tested x sound inside rest scene stands apb says (way_of_bit op (f.known j) b) l.2 (m i) (k z) (same_read j i v z is to l.0 told l.1) (λ c h. ok (f.known j) (m i) c (λ u e. ap m (sym is) ∙ scene.holds.known j u e) h), tt)
  test_by says op b ok (ToByte j) (ToByte v) (Silent i) c is to told l = absurd to
  test_by says op b ok (ToByte j) (ToByte v) c e is to told l = absurd is
  test_by says op b ok a h c e is to told l = absurd l

  -- ---- where the operands lead
  abbrev at : ℕ → Operand → Operand
  at before operand = operand_before before operand

  clear_before : (before : ℕ) (operand : Operand) (writes : Bool) → clears x.hidden r (Some (operand, writes)) ≡ true → clears x.hidden r (Some (at before operand, false)) ≡ true
  clear_before before (operands.Byte byte) writes e = refl
  clear_before before (operands.Register Indf) writes e = e
  clear_before before (operands.Register Status) writes e = refl
  clear_before before (operands.Register Fsr) writes e = refl
  clear_before before (operands.Register Pclath) writes e = refl
  clear_before before (operands.Saved cell) writes e = refl

  new_access : (operand : Operand) (e : Effect) (g : Access → Effect) → Both e (g (access_of (old_setting x) inside false r operand)) → Both e (g (access_of (new_setting x) inside false s operand))
  new_access operand e g does = subst (λ (c : Access). Both e (g c)) (sym (access_same x inside false r s operand scene.alike.fsr scene.alike.irp)) does

  test_at : (before : ℕ) (operand : Operand) (says : ℕ → Bool) (op : BitOperation) (b : ℕ) → IsWay x sound inside rest scene stands apb says (λ o. way_of_bit op o b) → clears x.hidden r (Some (operand, false)) ≡ true → TestsFor x p.block inside n list op b (aim x.layout inside false operand) (aim x.layout inside false (at before operand))
      → Both (test (old_program x) p first m says (access_of (old_setting x) inside false r operand)) (test (new_program x) (under x p) second k says (access_of (new_setting x) inside false s (at before operand)))
  test_at before operand says op b ok clear l =
      new_access (at before operand) (test (old_program x) p first m says (access_of (old_setting x) inside false r operand)) (test (new_program x) (under x p) second k says)
      (test_by says op b ok (aim x.layout inside false operand) (aim x.layout inside false (at before operand)) (access_of (old_setting x) inside false r operand) (access_of (old_setting x) inside false r (at before operand))
      (access_aims x inside false r operand clear) (access_aims x inside false r (at before operand) (clear_before before operand false clear)) (access_told x inside false r (at before operand)) l)

  pub read_both : (before : ℕ) (i : Sym) → clears x.hidden r (touches i) ≡ true → IsRead x p.block inside n list before i
      → Both (effect_of (old_setting x) inside p first m i) (effect_of (new_setting x) inside (under x p) second k (reads_before before i))
  unfolding effect_of aim
  read_both before (syms.File op operand into.W) clear e =
      new_access (at before operand) (file_to_w (old_program x) p first m op (access_of (old_setting x) inside false r operand)) (file_to_w (new_program x) (under x p) second k op)
      (read_by op (aim x.layout inside false operand) (aim x.layout inside false (at before operand)) (access_of (old_setting x) inside false r operand) (access_of (old_setting x) inside false r (at before operand))
      (access_aims x inside false r operand clear) (access_aims x inside false r (at before operand) (clear_before before operand false clear)) (access_told x inside false r (at before operand)) e)
  read_both before (syms.File op operand into.File) clear e =
      new_access (at before operand) (file_to_file (old_program x) p first m op (access_of (old_setting x) inside true r operand)) (file_to_w (new_program x) (under x p) second k op)
      (read_to op (aim x.layout inside true operand) (aim x.layout inside false operand) (aim x.layout inside false (at before operand)) (access_of (old_setting x) inside true r operand) (access_of (old_setting x) inside false r (at before operand))
      (access_aims x inside true r operand clear) (access_aims x inside false r (at before operand) (clear_before before operand true clear)) (access_told x inside true r operand) (access_told x inside false r (at before operand)) e)
  read_both before (syms.Bit Btfsc (operands.Byte byte) b) clear e = test_at before (operands.Byte byte) (λ y. nat_eq (bit y b) 0) Btfsc b (λ o v c k h. bit_way_is v b o 0 c k h) clear e
  read_both before (syms.Bit Btfss (operands.Byte byte) b) clear e = test_at before (operands.Byte byte) (λ y. nat_eq (bit y b) 1) Btfss b (λ o v c k h. bit_way_is v b o 1 c k h) clear e
  read_both before (syms.Bit Btfsc (operands.Register Indf) b) clear e = absurd e
  read_both before (syms.Bit Btfss (operands.Register Indf) b) clear e = absurd e
  read_both before (syms.Bit Btfsc (operands.Register Status) b) clear e = absurd e
  read_both before (syms.Bit Btfss (operands.Register Status) b) clear e = absurd e
  read_both before (syms.Bit Btfsc (operands.Register Fsr) b) clear e = absurd e
  read_both before (syms.Bit Btfss (operands.Register Fsr) b) clear e = absurd e
  read_both before (syms.Bit Btfsc (operands.Register Pclath) b) clear e = absurd e
  read_both before (syms.Bit Btfss (operands.Register Pclath) b) clear e = absurd e
  read_both before (syms.Bit Btfsc (operands.Saved cell) b) clear e = absurd e
  read_both before (syms.Bit Btfss (operands.Saved cell) b) clear e = absurd e
  read_both before (syms.Bit Bcf operand b) clear e = absurd e
  read_both before (syms.Bit Bsf operand b) clear e = absurd e
  read_both before (syms.Label label) clear e = tt
  read_both before i clear e = absurd e
