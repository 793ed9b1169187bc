-- Each instruction that both machines execute.
use Rattle.std.proofs.Common.{◌≡◌, ℕ, Bool, true, false, if◌then◌else◌, List, Option, Some, None, refl, sym, ◌∙◌, subst}
use Rattle.std.specs.Prelude.{◌&&◌, nat_eq, ◌<◌}
use Rattle.pic_isa.specs.declared.Ins.TheVariants as ins
use Rattle.pic_world.specs.Bits.{bit, set_bit, clear_bit, truth}
use Rattle.sym_code.specs.Layout as layouts
use Rattle.sym_code.specs.Effect.{is_far, Thread, Memory, with_byte, Access, Effect, Stuck, access_of, goes, quiet, file_to_w, file_to_file, store, change, test, put_flag, test_flag, flag, literal, literal_value, plain, effect_of}
use Rattle.sym_code.specs.Programs.{Program, Position, behind, onward}
use Rattle.sym_code.specs.Registers.{Registers, with_bank_bit, with_page_bit, literal_row, after_row, status_bit, with_status_bit}
use Rattle.sym_code.specs.Touching.{touches}
use Rattle.sym_code.specs.declared.code.BankBit.{BankBit}
use Rattle.sym_code.specs.declared.code.BankBit.TheVariants.{Rp0, Rp1, Irp}
use Rattle.sym_code.specs.declared.code.BitOperation.{BitOperation}
use Rattle.sym_code.specs.declared.code.BitOperation.TheVariants.{Bcf, Bsf, Btfsc, Btfss}
use Rattle.sym_code.specs.declared.code.FileOperation.{FileOperation}
use Rattle.sym_code.specs.declared.code.Into.TheVariants as into
use Rattle.sym_code.specs.declared.code.Literal.{Literal}
use Rattle.sym_code.specs.declared.code.Literal.TheVariants.{Number}
use Rattle.sym_code.specs.declared.code.LiteralOperation.{LiteralOperation}
use Rattle.sym_code.specs.declared.code.LiteralOperation.TheVariants as literals
use Rattle.sym_code.specs.declared.code.Operand.{Operand}
use Rattle.sym_code.specs.declared.code.Operand.TheVariants as operands
use Rattle.sym_code.specs.declared.code.PageBit.{PageBit}
use Rattle.sym_code.specs.declared.code.PageBit.TheVariants as page_bits
use Rattle.sym_code.specs.declared.code.PlainOperation.{PlainOperation}
use Rattle.sym_code.specs.declared.code.PlainOperation.TheVariants.{Clrw, Nop, Retfie, Return}
use Rattle.sym_code.specs.declared.code.Register.TheVariants.{Status}
use Rattle.sym_code.specs.declared.code.Sym.{Sym}
use Rattle.sym_code.specs.declared.code.Sym.TheVariants as syms
use Rattle.lean_code.specs.Computed.{file_for, way_of_bit}
use Rattle.lean_code.specs.Rows.{Facts, Apart, Note, Row, note_ahead, Lean, old_program, new_program, old_setting, new_setting}
use Rattle.lean_code.specs.Changes.{is_number, Holds, Alike, Aim, ToFsr, ToEvent, ToByte, Through, aim, lost, without_zero, number_at, worked, learned, stored, literal_flags, literal_uses, is_retlw, both_set, same_w, same_byte}
use Rattle.lean_code.specs.Right.{Expects, Leads, Same, with_flag, after_number, after_literal, KeepsBit, KeepsPlain, IsKept, IsSound}
use Rattle.lean_code.specs.Links.{clears}
use Rattle.lean_code.proofs.Lists.{never, stands_at}
use Rattle.lean_code.proofs.Places.{under, row_at}
use Rattle.lean_code.proofs.Alike.{literal_same, literal_is, clear_same, moved_w, cleared_w}
use Rattle.lean_code.proofs.Computing.{bit_way_is, file_is, no_move}
use Rattle.lean_code.proofs.Bits.{truth_small, literal_carry, literal_zero, status_carry, status_zero}
use Rattle.lean_code.proofs.Facts.{AreBits, number_of, weaker_holds, lose_zero, lose_w, keep_all, lost_weaker, lost_through, learned_byte, stored_byte, some_is, worked_holds}
use Rattle.lean_code.proofs.Flags.{SameFlag, bit_same, set_same}
use Rattle.lean_code.proofs.Accesses.{access_told, access_aims, access_same}
use Rattle.lean_code.proofs.Relation.{held, apart_of, Goes, Match}
use Rattle.lean_code.proofs.Kept.{Scene, AreNear, lost_near, one, other, rows, near, lead, next, IsWay, file_to_w_both, file_to_file_both, change_both, test_both, store_both}
use Rattle.lean_code.proofs.Jumps.{goto_both, call_both, back_both}

pub flag_bytes : (b : ℕ) (v : Bool) (d : Apart) (a : ℕ) → (with_flag b v d).bytes a ≡ d.bytes a
flag_bytes b v d a = by_bit (nat_eq b 0) (nat_eq b 1) (nat_eq b 2)
  where
    by_bit : (c dc z : Bool) → (if c then record d { c = v } else if dc then record d { dc = v } else if z then record d { z = v } else d).bytes a ≡ d.bytes a
    by_bit true dc z = refl
    by_bit false true z = refl
    by_bit false false true = refl
    by_bit false false false = refl

pub literal_quiet : (q : Program) (at : Position) (th : Thread) (op : LiteralOperation) (t : Registers) → is_retlw op ≡ false → literal q at th op t ≡ quiet (goes th (behind q at) t)
literal_quiet q at th literals.Retlw t e = never (sym e)
literal_quiet q at th op t e = refl

module _ (x : Lean) (sound : IsSound x) (inside : Bool) (rest : ℕ → Bool) (scene : Scene x inside rest) where
  literal_bits : (op : LiteralOperation) (k : ℕ) → AreBits scene.n.facts (after_row (literal_row op k) scene.r)
  literal_bits op k = (λ e. literal_carry op scene.r k (scene.holds.carry_bit e), λ e. literal_zero op scene.r k (scene.holds.zero_bit e))

  number_holds : (new : LiteralOperation) (i : ℕ) (o : Option FileOperation) → file_for new ≡ o → Holds (after_number scene.n.facts o i) (after_row (literal_row new i) scene.r) scene.m
  number_holds new i None e = lose_w scene.n.facts scene.r scene.m scene.holds (after_row (literal_row new i) scene.r) (literal_bits new i)
  number_holds new i (Some op) e =
      subst (λ (t : Registers). Holds (worked op (Some i) scene.n.facts) t scene.m) (literal_is op new scene.r i (file_is new op e) (no_move new op e))
      (worked_holds scene.n.facts scene.r scene.m scene.holds op (Some i) i (λ j h. some_is i j h))

  pub literal_holds : (op : LiteralOperation) (value : Literal) → Holds (after_literal scene.n.facts op value) (after_row (literal_row op (literal_value x.layout value)) scene.r) scene.m
  literal_holds literals.Movlw (Number i) =
      subst (λ (t : Registers). Holds (record scene.n.facts { number = Some i; held = λ a. is_number (scene.n.facts.known a) i; zero = false }) t scene.m) (sym (moved_w scene.r i)) (record { number = λ j e. some_is i j e; held = λ a e. sym (scene.holds.known a i (number_of (scene.n.facts.known a) i e)); zero = λ e. never e; known = scene.holds.known; twin = scene.holds.twin; carry_bit = scene.holds.carry_bit; zero_bit = scene.holds.zero_bit })
  literal_holds op (Number i) = number_holds op i (file_for op) refl
  literal_holds op value = lose_w scene.n.facts scene.r scene.m scene.holds (after_row (literal_row op (literal_value x.layout value)) scene.r) (literal_bits op (literal_value x.layout value))

  pub cleared_holds : Holds (record scene.n.facts { number = Some 0; held = λ a. false; zero = true }) (after_row ins.Clrw scene.r) scene.m
  cleared_holds =
      subst (λ (t : Registers). Holds (record scene.n.facts { number = Some 0; held = λ a. false; zero = true }) t scene.m) (sym (cleared_w scene.r)) (record { number = λ j e. some_is 0 j e; held = λ a e. never e; zero = λ e. refl; known = scene.holds.known; twin = scene.holds.twin; carry_bit = scene.holds.carry_bit; zero_bit = λ e. truth_small true })

module _ (x : Lean) (sound : IsSound x) (inside : Bool) (rest : ℕ → Bool) (scene : Scene x inside rest) (stands : stands_at (row_at x scene.p) ≡ true) where
  abbrev p : Position
  p = scene.p

  abbrev n : Note
  n = scene.n

  abbrev d : Apart
  d = scene.n.apart

  abbrev f : Facts
  f = scene.n.facts

  abbrev r : Registers
  r = scene.r

  abbrev s : Registers
  s = scene.s

  abbrev m : Memory
  m = scene.m

  abbrev k : Memory
  k = scene.k

  abbrev first : Thread
  first = one x sound inside rest scene

  abbrev second : Thread
  second = other x sound inside rest scene

  abbrev list : List Row
  list = rows x sound inside rest scene

  abbrev apb : ℕ → Bool
  apb = apart_of n scene.ks

  abbrev Both : Effect → Effect → Type 0
  Both = Match x inside rest apb m k

  -- registers change, and no byte does
  goes_both : (g : Facts) (e : Apart) → Expects (note_ahead list) g e → (t u : Registers) → Alike e t u → Holds g t m → ((j : ℕ) → e.bytes j ≡ false → held scene.ks j ≡ false → rest j ≡ false → m j ≡ k j)
      → Both (quiet (goes first (behind (old_program x) p) t)) (quiet (goes second (behind (new_program x) (under x p)) u))
  goes_both g e l t u al h same = (next x sound inside rest scene stands g e l None None refl tt t u m k al h same, tt)

  -- both make the same access
  access_both : (operand : Operand) (writes : Bool) (e g : Access → Effect) → Both (e (access_of (old_setting x) inside writes r operand)) (g (access_of (old_setting x) inside writes r operand))
      → Both (e (access_of (old_setting x) inside writes r operand)) (g (access_of (new_setting x) inside writes s operand))
  access_both operand writes e g does =
      subst (λ (c : Access). Both (e (access_of (old_setting x) inside writes r operand)) (g c)) (sym (access_same x inside writes r s operand scene.alike.fsr scene.alike.irp)) does

  -- ---- flags
  put_both : (b v : ℕ) → v < 2 → Expects (note_ahead list) (without_zero f) (with_flag b false d) → (o : Option Registers) → with_status_bit r b v ≡ o
      → Both (put_flag (old_program x) p first o) (put_flag (new_program x) (under x p) second (with_status_bit s b v))
  put_both b v small l None is = tt
  put_both b v small l (Some t) is =
      let z = set_same d r s scene.alike b v t is in
      subst (λ (o : Option Registers). Both (put_flag (old_program x) p first (Some t)) (put_flag (new_program x) (under x p) second o)) (sym z.1)
      (goes_both (without_zero f) (with_flag b false d) l t z.0 z.2 (lose_zero f r m scene.holds t z.3 (λ e. status_carry r b v t small is (scene.holds.carry_bit e), λ e. status_zero r b v t small is (scene.holds.zero_bit e)))
      (λ j e o w. scene.still j (sym (flag_bytes b false d j) ∙ e) o w))

  test_flag_both : (v : ℕ) → Leads list None f d → (o q : Option ℕ) → SameFlag o q → Both (test_flag (old_program x) p first v o) (test_flag (new_program x) (under x p) second v q)
  test_flag_both v l None q e = tt
  test_flag_both v l (Some i) None e = absurd e
  test_flag_both v l (Some i) (Some j) e = (
    subst (λ (c : ℕ). Goes x inside rest (goes first (onward (old_program x) p (nat_eq i v)) r) (goes second (onward (new_program x) (under x p) (nat_eq c v)) s) m k) e
        (lead x sound inside rest scene stands None (nat_eq i v) (λ b h. absurd (cc)) f d l None None refl tt r s m k scene.alike scene.holds scene.still),
    tt,
  )

  stuck_both : (c : Bool) (e e' : Effect) → Both e e' → Both (if c then Stuck else e) (if c then Stuck else e')
  stuck_both true e e' z = tt
  stuck_both false e e' z = z

  flag_both : (op : BitOperation) (b : ℕ) → KeepsBit x p.block inside n list op (operands.Register Status) b → Both (flag (old_program x) p first op b) (flag (new_program x) (under x p) second op b)
  flag_both Bcf b e = put_both b 0 (truth_small false) e (with_status_bit r b 0) refl
  flag_both Bsf b e = stuck_both (nat_eq b 7 && layouts.all_near x.layout) (put_flag (old_program x) p first (with_status_bit r b 1)) (put_flag (new_program x) (under x p) second (with_status_bit s b 1)) (put_both b 1 (truth_small true) e (with_status_bit r b 1) refl)
  flag_both Btfsc b e = test_flag_both 0 e.1 (status_bit r b) (status_bit s b) (bit_same d r s scene.alike b e.0)
  flag_both Btfss b e = test_flag_both 1 e.1 (status_bit r b) (status_bit s b) (bit_same d r s scene.alike b e.0)

  -- ---- bits of bytes
  abbrev pub Clear : Operand → Bool → Type 0
  Clear operand writes = clears x.hidden r (Some (operand, writes)) ≡ true

  abbrev SameAt : Bool → Operand → Type 0
  SameAt writes operand = Same x.hidden (aim x.layout inside writes operand) d (x.outer p.block)

  change_bit : (operand : Operand) (g : ℕ → ℕ) → Clear operand true → SameAt true operand → Expects (note_ahead list) (lost x.hidden (aim x.layout inside true operand) f) d
      → Both (change (old_program x) p first m g (access_of (old_setting x) inside true r operand)) (change (new_program x) (under x p) second k g (access_of (new_setting x) inside true s operand))
  change_bit operand g clear same l =
      access_both operand true (change (old_program x) p first m g) (change (new_program x) (under x p) second k g)
      (change_both x sound inside rest scene stands apb g (aim x.layout inside true operand) (access_of (old_setting x) inside true r operand) (access_aims x inside true r operand clear) (access_told x inside true r operand) same l)

  test_bit : (operand : Operand) (g : ℕ → Bool) (way : Option ℕ → Option Bool) → IsWay x sound inside rest scene stands apb g way → Clear operand false → SameAt false operand → Leads list (way (number_at (aim x.layout inside false operand) f)) f d
      → Both (test (old_program x) p first m g (access_of (old_setting x) inside false r operand)) (test (new_program x) (under x p) second k g (access_of (new_setting x) inside false s operand))
  test_bit operand g way ok clear same l =
      access_both operand false (test (old_program x) p first m g) (test (new_program x) (under x p) second k g)
      (test_both x sound inside rest scene stands apb g way ok (aim x.layout inside false operand) (access_of (old_setting x) inside false r operand) (access_aims x inside false r operand clear) (access_told x inside false r operand) same l)

  -- ---- stores
  pub stores : (e : Apart) (t u : Registers) (v y : ℕ) → v ≡ y → Alike e t u → ((j : ℕ) → e.bytes j ≡ d.bytes j) → (g : Aim → Facts) → Holds (g ToFsr) (record t { fsr = v }) m → AreNear x inside (g ToEvent) → Holds (g ToEvent) t m
      → AreNear x inside (g Through) → Holds (g Through) t m → ((i : ℕ) → x.hidden i ≡ false → Holds (g Through) t (with_byte m i v)) → ((i : ℕ) → Holds (g (ToByte i)) t (with_byte m i v))
      → (operand : Operand) → Clear operand true → Expects (note_ahead list) (g (aim x.layout inside true operand)) (same_byte (aim x.layout inside true operand) e)
      → Both (store (old_program x) p first t v (access_of (old_setting x) inside true r operand)) (store (new_program x) (under x p) second u y (access_of (new_setting x) inside true s operand))
  stores e t u v y vy al same_d g a b c h i j w operand clear l =
      access_both operand true (store (old_program x) p first t v) (store (new_program x) (under x p) second u y)
      (store_both x sound inside rest scene stands apb e t u v y vy al same_d g a b c h i j w (aim x.layout inside true operand) (access_of (old_setting x) inside true r operand) (access_aims x inside true r operand clear) (access_told x inside true r operand) l)

  abbrev pub all_near : AreNear x inside f
  all_near = near x sound inside rest scene

  pub lost_holds : (g : Facts) (t : Registers) → Holds g t m → Holds (lost x.hidden Through g) t m
  lost_holds g t h = weaker_holds (lost x.hidden Through g) g t m (lost_weaker x.hidden Through g) h

  store_w : (operand : Operand) → Clear operand true → d.w ≡ false → Expects (note_ahead list) (stored x.hidden (aim x.layout inside true operand) f) (same_byte (aim x.layout inside true operand) d)
      → Both (store (old_program x) p first r r.w (access_of (old_setting x) inside true r operand)) (store (new_program x) (under x p) second s s.w (access_of (new_setting x) inside true s operand))
  store_w operand clear same l =
      stores d r s r.w s.w (scene.alike.w same) scene.alike (λ j. refl) (λ a. stored x.hidden a f) (keep_all f r m scene.holds (record r { fsr = r.w }) refl refl refl) all_near scene.holds
      (lost_near x inside Through f all_near) (lost_holds f r scene.holds) (λ i e. lost_through x.hidden f r m i r.w e scene.holds) (λ i. stored_byte x.hidden f r m i scene.holds) operand clear l

  abbrev cleared : Apart
  cleared = record d { z = false }

  clear_alike : Alike cleared (record r { z = 1 }) (record s { z = 1 })
  clear_alike = record { w = scene.alike.w; z = λ e. refl; dc = scene.alike.dc; c = scene.alike.c; fsr = scene.alike.fsr; irp = scene.alike.irp }

  zero_near : AreNear x inside (without_zero f)
  zero_near = record { held = all_near.held; known = all_near.known; twin = all_near.twin }

  store_zero : (operand : Operand) → Clear operand true → Expects (note_ahead list) (learned x.hidden (aim x.layout inside true operand) (Some 0) (without_zero f)) (same_byte (aim x.layout inside true operand) cleared)
      → Both (store (old_program x) p first (record r { z = 1 }) 0 (access_of (old_setting x) inside true r operand)) (store (new_program x) (under x p) second (record s { z = 1 }) 0 (access_of (new_setting x) inside true s operand))
  store_zero operand clear l =
      let bits : AreBits f (record r { z = 1 }) = (scene.holds.carry_bit, λ e. truth_small true) in
      let h = lose_zero f r m scene.holds (record r { z = 1 }) refl bits in
      stores cleared (record r { z = 1 }) (record s { z = 1 }) 0 0 refl clear_alike (λ j. refl) (λ a. learned x.hidden a (Some 0) (without_zero f)) (lose_zero f r m scene.holds (record r { z = 1; fsr = 0 }) refl bits) zero_near h
      (lost_near x inside Through (without_zero f) zero_near) (lost_holds (without_zero f) (record r { z = 1 }) h) (λ i e. lost_through x.hidden (without_zero f) (record r { z = 1 }) m i 0 e h)
      (λ i. learned_byte x.hidden (without_zero f) (record r { z = 1 }) m i 0 h) operand clear l

  -- ---- literals and others
  literal_both : (op : LiteralOperation) (value : Literal) → is_retlw op ≡ false → (literal_uses op ≡ true → d.w ≡ false) → Expects (note_ahead list) (after_literal f op value) (same_w (both_set (literal_flags op) d))
      → Both (literal (old_program x) p first op (after_row (literal_row op (literal_value x.layout value)) r)) (literal (new_program x) (under x p) second op (after_row (literal_row op (literal_value x.layout value)) s))
  literal_both op value plain_op uses l =
      let t = after_row (literal_row op (literal_value x.layout value)) r in
      let u = after_row (literal_row op (literal_value x.layout value)) s in
      subst (λ (e : Effect). Both e (literal (new_program x) (under x p) second op u)) (sym (literal_quiet (old_program x) p first op t plain_op))
      (subst (λ (e : Effect). Both (quiet (goes first (behind (old_program x) p) t)) e) (sym (literal_quiet (new_program x) (under x p) second op u plain_op))
      (goes_both (after_literal f op value) (same_w (both_set (literal_flags op) d)) l t u (literal_same d r s scene.alike op (literal_value x.layout value) plain_op uses) (literal_holds x sound inside rest scene op value) scene.still))

  plain_both : (op : PlainOperation) → KeepsPlain x p.block inside n list op → Both (plain (old_program x) p first op) (plain (new_program x) (under x p) second op)
  plain_both Clrw e = goes_both (record f { number = Some 0; held = λ a. false; zero = true }) (record d { w = false; z = false }) e (after_row ins.Clrw r) (after_row ins.Clrw s) (clear_same d r s scene.alike) (cleared_holds x sound inside rest scene) scene.still
  plain_both Nop e = goes_both f d e r s scene.alike scene.holds scene.still
  plain_both Retfie e = tt
  plain_both Return e = back_both x sound inside rest scene e.0 e.1

  bank_alike : (which : BankBit) (v : ℕ) → Alike d (with_bank_bit r which v) (with_bank_bit s which v)
  bank_alike Rp0 v = record { w = scene.alike.w; z = scene.alike.z; dc = scene.alike.dc; c = scene.alike.c; fsr = scene.alike.fsr; irp = scene.alike.irp }
  bank_alike Rp1 v = record { w = scene.alike.w; z = scene.alike.z; dc = scene.alike.dc; c = scene.alike.c; fsr = scene.alike.fsr; irp = scene.alike.irp }
  bank_alike Irp v = record { w = scene.alike.w; z = scene.alike.z; dc = scene.alike.dc; c = scene.alike.c; fsr = scene.alike.fsr; irp = refl }

  bank_holds : (which : BankBit) (v : ℕ) → Holds f (with_bank_bit r which v) m
  bank_holds Rp0 v = keep_all f r m scene.holds (record r { rp0 = v }) refl refl refl
  bank_holds Rp1 v = keep_all f r m scene.holds (record r { rp1 = v }) refl refl refl
  bank_holds Irp v = keep_all f r m scene.holds (record r { irp = v }) refl refl refl

  page_alike : (which : PageBit) (v y : ℕ) → Alike d (with_page_bit r which v) (with_page_bit s which y)
  page_alike page_bits.Low v y = record { w = scene.alike.w; z = scene.alike.z; dc = scene.alike.dc; c = scene.alike.c; fsr = scene.alike.fsr; irp = scene.alike.irp }
  page_alike page_bits.High v y = record { w = scene.alike.w; z = scene.alike.z; dc = scene.alike.dc; c = scene.alike.c; fsr = scene.alike.fsr; irp = scene.alike.irp }

  page_holds : (which : PageBit) (v : ℕ) → Holds f (with_page_bit r which v) m
  page_holds page_bits.Low v = keep_all f r m scene.holds (record r { page_low = v }) refl refl refl
  page_holds page_bits.High v = keep_all f r m scene.holds (record r { page_high = v }) refl refl refl

  pub kept_both : (i : Sym) → clears x.hidden r (touches i) ≡ true → IsKept x p.block inside n list i
      → Both (effect_of (old_setting x) inside p first m i) (effect_of (new_setting x) inside (under x p) second k i)
  unfolding effect_of
  kept_both (syms.File op operand into.W) clear e =
      access_both operand false (file_to_w (old_program x) p first m op) (file_to_w (new_program x) (under x p) second k op)
      (file_to_w_both x sound inside rest scene stands apb op e.0.0 e.0.1 (aim x.layout inside false operand) (access_of (old_setting x) inside false r operand) (access_aims x inside false r operand clear) (access_told x inside false r operand) e.1 e.2)
  kept_both (syms.File op operand into.File) clear e =
      access_both operand true (file_to_file (old_program x) p first m op) (file_to_file (new_program x) (under x p) second k op)
      (file_to_file_both x sound inside rest scene stands apb op e.0.0 e.0.1 (aim x.layout inside true operand) (access_of (old_setting x) inside true r operand) (access_aims x inside true r operand clear) (access_told x inside true r operand) e.1 e.2)
  kept_both (syms.Movwf operand) clear e = store_w operand clear e.0 e.1
  kept_both (syms.Clrf operand) clear e = store_zero operand clear e
  kept_both (syms.Bit op (operands.Register Status) b) clear e = flag_both op b e
  kept_both (syms.Bit Bcf operand b) clear e = change_bit operand (clear_bit b) clear e.0 e.1
  kept_both (syms.Bit Bsf operand b) clear e = change_bit operand (set_bit b) clear e.0 e.1
  kept_both (syms.Bit Btfsc operand b) clear e = test_bit operand (λ v. nat_eq (bit v b) 0) (λ o. way_of_bit Btfsc o b) (λ o v c k h. bit_way_is v b o 0 c k h) clear e.0 e.1
  kept_both (syms.Bit Btfss operand b) clear e = test_bit operand (λ v. nat_eq (bit v b) 1) (λ o. way_of_bit Btfss o b) (λ o v c k h. bit_way_is v b o 1 c k h) clear e.0 e.1
  kept_both (syms.Literal op value) clear e = literal_both op value e.0 e.1 e.2
  kept_both (syms.Plain op) clear e = plain_both op e
  kept_both (syms.Call target) clear e = call_both x sound inside rest scene stands target e
  kept_both (syms.Goto target) clear e = goto_both x sound inside rest scene target e
  kept_both (syms.Label label) clear e = tt
  kept_both (syms.SelectBank which on) clear e =
      stuck_both (is_far which on && layouts.all_near x.layout) (quiet (goes first (behind (old_program x) p) (with_bank_bit r which (truth on)))) (quiet (goes second (behind (new_program x) (under x p)) (with_bank_bit s which (truth on))))
      (goes_both f d e (with_bank_bit r which (truth on)) (with_bank_bit s which (truth on)) (bank_alike which (truth on)) (bank_holds which (truth on)) scene.still)
  kept_both (syms.SelectPage which target) clear e = goes_both f d e (with_page_bit r which _) (with_page_bit s which _) (page_alike which _ _) (page_holds which _) scene.still
  kept_both (syms.Table table root) clear e = absurd e
