-- An instruction that is left out: the machine that runs the given code executes it alone.
use Rattle.std.proofs.Common.{◌≡◌, ℕ, Bool, true, false, if◌then◌else◌, List, drop, Option, Some, None, option_map, refl, sym, ap, ◌∙◌, subst}
use Rattle.std.specs.Prelude.{◌<◌, nat_eq, nat_lt, not, ◌&&◌, ◌||◌}
use Rattle.std.proofs.lemmas.Bool.{eqb-true}
use Rattle.std.proofs.lemmas.Option.{none-some}
use Rattle.pic_isa.specs.declared.Ins.TheVariants as ins
use Rattle.pic_world.specs.Bits.{bit, set_bit, clear_bit, truth}
use Rattle.sym_code.specs.Effect.{Thread, Memory, with_byte, Access, Silent, Denied, Effect, Stuck, access_of, goes, file_to_w, file_to_file, store, change, test, put_flag, test_flag, flag, literal, literal_value, plain, jump_to, goto, effect_of}
use Rattle.sym_code.specs.Layout.{all_near, owner}
use Rattle.sym_code.specs.Programs.{Position, position, behind, onward, stand, label_from}
use Rattle.sym_code.specs.Registers.{Registers, result_with, flags_with, skips_with, literal_row, after_row, status_bit, with_status_bit}
use Rattle.sym_code.specs.Touching.{touches}
use Rattle.sym_code.specs.declared.code.BitOperation.{BitOperation}
use Rattle.sym_code.specs.declared.code.BitOperation.TheVariants.{Bcf, Bsf, Btfsc, Btfss}
use Rattle.sym_code.specs.declared.code.FileOperation.{FileOperation}
use Rattle.sym_code.specs.declared.code.FileOperation.TheVariants as files
use Rattle.sym_code.specs.declared.code.Into.TheVariants as into
use Rattle.sym_code.specs.declared.code.Label.TheVariants.{Inner}
use Rattle.sym_code.specs.declared.code.Literal.{Literal}
use Rattle.sym_code.specs.declared.code.Literal.TheVariants.{Number}
use Rattle.sym_code.specs.declared.code.LiteralOperation.{LiteralOperation}
use Rattle.sym_code.specs.declared.code.LiteralOperation.TheVariants as literals
use Rattle.sym_code.specs.declared.code.Operand.TheVariants as operands
use Rattle.sym_code.specs.declared.code.PlainOperation.{PlainOperation}
use Rattle.sym_code.specs.declared.code.PlainOperation.TheVariants.{Clrw, Nop, Retfie, Return}
use Rattle.sym_code.specs.declared.code.Register.TheVariants.{Status}
use Rattle.sym_code.specs.declared.code.Sym.{Sym}
use Rattle.sym_code.specs.declared.code.Sym.TheVariants as syms
use Rattle.sym_code.specs.declared.code.Target.{Target}
use Rattle.sym_code.specs.declared.code.Target.TheVariants as targets
use Rattle.lean_code.specs.Computed.{computed, file_for, way_of, way_of_bit}
use Rattle.lean_code.specs.Rows.{Carry, Zero, Sees, Facts, Apart, Note, Row, olds, place_in, note_ahead, past, drops_first, Lean, old_program, old_setting}
use Rattle.lean_code.specs.Changes.{Ties, IsShown, reports, sees, leaves_carry, same_carry, is_number, same_known, leaves_w, is_in_w, stays, one_works, one_writes, one_clears, Holds, Alike, Aim, ToByte, aim, lost, without_zero, moved, after_to_w, after_to_file, learned, stored, flags_in, is_retlw, one_sets, other_w, other_byte, one_moves, one_stores}
use Rattle.lean_code.specs.Right.{Passes, noted, with_flag, after_literal, dropped_number, dropped_literal, ExpectsBy, PassesBoth, carry_but, ties, ties_but, ties_left, ties_seen, DropsCarried, DropsMove, DropsToW, DropsToFile, DropsStore, DropsClear, DropsChange, DropsTest, DropsBit, DropsPlain, DropsGoto, IsDropped, IsSound}
use Rattle.lean_code.specs.Links.{clears}
use Rattle.lean_code.proofs.Lists.{never, dropped_at}
use Rattle.lean_code.proofs.Places.{under, row_at, to_behind, to_past, to_label, under_dropped, under_stand, drops_behind}
use Rattle.lean_code.proofs.Alike.{flags_alone, literal_alone, literal_is, clear_alone, move_is, moved_w, flags_w}
use Rattle.lean_code.proofs.Computing.{Says, computed_is, left_is, zero_is, zero_stays, same_known_is, way_is, bit_way_is, file_is, no_move}
use Rattle.lean_code.proofs.Bits.{truth_small, carry_set, zero_set, status_carry, status_zero}
use Rattle.lean_code.proofs.Shown.{AreTied, carry_alike, reports_is, left_shown, same_shown, is_off, is_on, not_off, not_on}
use Rattle.lean_code.proofs.Facts.{bits_hold, some_is, number_of, own_other, lose_zero, to_w_holds, flags_hold, lost_byte, learned_byte, learned_says, stored_byte}
use Rattle.lean_code.proofs.Flags.{set_alone}
use Rattle.lean_code.proofs.Accesses.{Told, Aims, access_told, access_aims}
use Rattle.lean_code.proofs.Relation.{held, Goes, Alone}
use Rattle.lean_code.proofs.Kept.{Scene, one, other, rows, go_by}
use Rattle.lean_code.proofs.KeptRows.{flag_bytes, literal_quiet, literal_holds, cleared_holds}

-- a byte that one machine writes
pub byte_one : (c d : Bool) (v a b : ℕ) → (d ≡ false → a ≡ b) → (if c then true else d) ≡ false → (if c then v else a) ≡ b
byte_one true d v a b s e = never (sym e)
byte_one false d v a b s e = s e

-- one that held this already
byte_still : (c : Bool) (v a : ℕ) → (c ≡ true → v ≡ a) → (if c then v else a) ≡ a
byte_still true v a s = s refl
byte_still false v a s = refl

module _ (x : Lean) (sound : IsSound x) (inside : Bool) (rest : ℕ → Bool) (scene : Scene x inside rest) (dropped : dropped_at (row_at x scene.p) ≡ true) where
  abbrev p : Position
  p = scene.p

  abbrev n : Note
  n = scene.n

  abbrev d : Apart
  d = scene.n.apart

  abbrev f : Facts
  f = scene.n.facts

  abbrev r : Registers
  r = scene.r

  abbrev s : Registers
  s = scene.s

  abbrev m : Memory
  m = scene.m

  abbrev k : Memory
  k = scene.k

  abbrev first : Thread
  first = one x sound inside rest scene

  abbrev second : Thread
  second = other x sound inside rest scene

  abbrev list : List Row
  list = rows x sound inside rest scene

  abbrev Lone : Effect → Type 0
  Lone = Alone x inside rest second m k

  -- the machine that was given the code goes on, and the other one stands
  pass_on : (c : Ties) (g : Facts) (e : Apart) → ExpectsBy c (note_ahead list) g e → (t : Registers) (b : Memory) → Alike e t s → Holds g t b
      → ((j : ℕ) → e.bytes j ≡ false → held scene.ks j ≡ false → rest j ≡ false → b j ≡ k j) → AreTied c t s b → Goes x inside rest (goes first (behind (old_program x) p) t) second b k
  pass_on c g e l t b al h same tied =
      go_by x sound inside rest scene c (note_ahead list) g e (behind (old_program x) p) (under x p) (to_behind x p) (sym (under_dropped x p dropped)) l None None refl tt t s b k al h same tied

  pass_over : (c : Ties) (g : Facts) (e : Apart) → ExpectsBy c (note_ahead (past list)) g e → drops_first list ≡ true → (t : Registers) (b : Memory) → Alike e t s → Holds g t b
      → ((j : ℕ) → e.bytes j ≡ false → held scene.ks j ≡ false → rest j ≡ false → b j ≡ k j) → AreTied c t s b → Goes x inside rest (goes first (onward (old_program x) p true) t) second b k
  pass_over c g e l drops t b al h same tied =
      go_by x sound inside rest scene c (note_ahead (past list)) g e (behind (old_program x) (behind (old_program x) p)) (under x p) (to_past x p)
      (sym (under_dropped x (behind (old_program x) p) (drops_behind x p drops) ∙ under_dropped x p dropped)) l None None refl tt t s b k al h same tied

  pass : (said : Ties) (way : Option Bool) (c : Bool) → ((b : Bool) → way ≡ Some b → c ≡ b) → (g : Facts) (e : Apart) → Passes said list way g e → (t : Registers) (b : Memory) → Alike e t s → Holds g t b
      → ((j : ℕ) → e.bytes j ≡ false → held scene.ks j ≡ false → rest j ≡ false → b j ≡ k j) → AreTied said t s b → Goes x inside rest (goes first (onward (old_program x) p c) t) second b k
  pass said None false ok g e l = pass_on said g e l.runs
  pass said None true ok g e l = pass_over said g e l.skips l.drops
  pass said (Some false) false ok g e l = pass_on said g e l
  pass said (Some false) true ok g e l = never (sym (ok false refl))
  pass said (Some true) true ok g e l = pass_over said g e l.0 l.1
  pass said (Some true) false ok g e l = never (ok true refl)

  moves : (c : Ties) (g : Facts) (e : Apart) → ExpectsBy c (note_ahead list) g e → (t : Registers) (b : Memory) → Alike e t s → Holds g t b
      → ((j : ℕ) → e.bytes j ≡ false → held scene.ks j ≡ false → rest j ≡ false → b j ≡ k j) → AreTied c t s b → Goes x inside rest (goes first (behind (old_program x) p) t) second b k
  moves c g e l = pass_on c g e l

  differs : (c h j i : ℕ) → nat_eq c j ≡ false → c ≡ h → j ≡ i → nat_eq h i ≡ false
  differs c h j i e a b = ap (λ (z : ℕ). nat_eq z i) (sym a) ∙ ap (λ (z : ℕ). nat_eq c z) (sym b) ∙ e

  carried_eq : (j i v : ℕ) → j ≡ i → (h c : ℕ) → n.carry ≡ Some c → (q : Bool) → nat_eq c j ≡ q → (if q then None else Some c) ≡ Some h → with_byte m i v h ≡ s.w
  carried_eq j i v is h c carried true q e = absurd (none-some h e)
  carried_eq j i v is h c carried false q e = ap (λ (z : Bool). if z then v else m h) (differs c h j i q (some_is c h e) is) ∙ scene.ties.carry h (carried ∙ e)

  carried_by : (j i v : ℕ) → j ≡ i → (h : ℕ) (o : Option ℕ) → n.carry ≡ o → carry_but j o ≡ Some h → with_byte m i v h ≡ s.w
  carried_by j i v is h None carried e = absurd (none-some h e)
  carried_by j i v is h (Some c) carried e = carried_eq j i v is h c carried (nat_eq c j) refl e

  -- what is carried stays where another byte is written
  carried_but : (j i v : ℕ) → j ≡ i → (h : ℕ) → carry_but j n.carry ≡ Some h → with_byte m i v h ≡ s.w
  carried_but j i v is h e = carried_by j i v is h n.carry refl e

  -- what is tied stays so where W of the one machine stays, or not
  tied_left : (carry : Option ℕ) (kept : Bool) (t : Registers) (b : Memory) → ((j : ℕ) → carry ≡ Some j → b j ≡ s.w) → (kept ≡ true → t.w ≡ r.w) → AreTied (ties_left x p.block inside n carry kept) t s b
  tied_left carry kept t b carries same = record { carry = carries; shown = left_shown kept n.shown r.w t.w s same scene.ties.shown }

  tied_but : (j i v : ℕ) → j ≡ i → (t : Registers) → t.w ≡ r.w → AreTied (ties_but x p.block inside n j) t s (with_byte m i v)
  tied_but j i v is t same = record { carry = carried_but j i v is; shown = same_shown n.shown r.w t.w s same scene.ties.shown }

  tied_same : (t : Registers) → t.w ≡ r.w → AreTied (ties x p.block inside n) t s m
  tied_same t same = record { carry = scene.ties.carry; shown = same_shown n.shown r.w t.w s same scene.ties.shown }

  none_carried : (b : Memory) (j : ℕ) → None ≡ Some j → b j ≡ s.w
  none_carried b j h = absurd (none-some j h)

  -- a flag that is seen
  seen : (b : ℕ) (u : Bool) → ((i : ℕ) → status_bit r b ≡ Some i → i < 2 → i ≡ truth u) → IsShown (sees f d b u n.shown) r.w s
  seen b u is = by_bit (nat_eq b 0) (nat_eq b 2) (λ e. is r.c (ap (status_bit r) (eqb-true b 0 e))) (λ e. is r.z (ap (status_bit r) (eqb-true b 2 e)))
    where
      carry_case : (c e : Bool) → (c ≡ true → r.c < 2) → (e ≡ false → r.c ≡ s.c) → (r.c < 2 → r.c ≡ truth u) → IsShown (if c && not e then Sees Carry u else n.shown) r.w s
      carry_case true false small same is = sym (same refl) ∙ is (small refl)
      carry_case true true small same is = scene.ties.shown
      carry_case false e small same is = scene.ties.shown

      zero_case : (c e : Bool) → (c ≡ true → r.z < 2) → (e ≡ false → r.z ≡ s.z) → (r.z < 2 → r.z ≡ truth u) → IsShown (if c && not e then Sees Zero u else n.shown) r.w s
      zero_case true false small same is = sym (same refl) ∙ is (small refl)
      zero_case true true small same is = scene.ties.shown
      zero_case false e small same is = scene.ties.shown

      by_bit : (c z : Bool) → (c ≡ true → r.c < 2 → r.c ≡ truth u) → (z ≡ true → r.z < 2 → r.z ≡ truth u)
          → IsShown (if c then (if f.carry_bit && not d.c then Sees Carry u else n.shown) else (if z then (if f.zero_bit && not d.z then Sees Zero u else n.shown) else n.shown)) r.w s
      by_bit true z carry zero_is_u = carry_case f.carry_bit d.c scene.holds.carry_bit scene.alike.c (carry refl)
      by_bit false true carry zero_is_u = zero_case f.zero_bit d.z scene.holds.zero_bit scene.alike.z (zero_is_u refl)
      by_bit false false carry zero_is_u = scene.ties.shown

  tied_seen : (b : ℕ) (u : Bool) → ((i : ℕ) → status_bit r b ≡ Some i → i < 2 → i ≡ truth u) → AreTied (ties_seen x p.block inside n b u) r s m
  tied_seen b u is = record { carry = scene.ties.carry; shown = seen b u is }

  aim_eq : (j h : ℕ) → ToByte j ≡ ToByte h → j ≡ h
  aim_eq j h e = cc

  -- ---- to W
  -- where W stays, Z may say of it what it said
  kept_zero : (op : FileOperation) (v : ℕ) → result_with r op v ≡ r.w → ((flags_in op).z && not f.zero || d.z) ≡ false → (flags_with r op v).z ≡ s.z
  kept_zero op v is e = by_case (flags_in op).z f.zero d.z refl scene.holds.zero scene.alike.z e
    where
      by_case : (c g b : Bool) → (flags_in op).z ≡ c → (g ≡ true → r.z ≡ truth (nat_eq r.w 0)) → (b ≡ false → r.z ≡ s.z) → (c && not g || b) ≡ false → (flags_with r op v).z ≡ s.z
      by_case true true b set says l e = zero_is op r v set ∙ ap (λ (i : ℕ). truth (nat_eq i 0)) is ∙ sym (says refl) ∙ l e
      by_case true false b set says l e = never (sym e)
      by_case false g b set says l e = zero_stays op r v set ∙ l e

  stays_is : (op : FileOperation) (byte : Option ℕ) (v : ℕ) → Says byte v → stays op byte f ≡ true → result_with r op v ≡ r.w
  stays_is op byte v says e = by_case (leaves_w op byte) refl e
    where
      by_case : (c : Bool) → leaves_w op byte ≡ c → (c || same_known (computed op f.number byte) f.number) ≡ true → result_with r op v ≡ r.w
      by_case true is e = left_is op r v byte says is
      by_case false is e = same_known_is (computed op f.number byte) f.number (result_with r op v) r.w (λ i h. computed_is op r v i f.number byte scene.holds.number says h) scene.holds.number e

  pub works_regs : (op : FileOperation) (byte : Option ℕ) (v : ℕ) → Says byte v → Alike (one_works op byte f d) (record (flags_with r op v) { w = result_with r op v }) s
  works_regs op byte v says = by_case (stays op byte f) refl
    where
      al : Alike (one_sets (flags_in op) d) (flags_with r op v) s
      al = flags_alone d r s scene.alike op v

      by_case : (c : Bool) → stays op byte f ≡ c
          → Alike (if c then record (one_sets (flags_in op) d) { z = (flags_in op).z && not f.zero || d.z } else other_w (one_sets (flags_in op) d)) (record (flags_with r op v) { w = result_with r op v }) s
      by_case true e = let is = stays_is op byte v says e in record { w = λ h. is ∙ scene.alike.w h; z = kept_zero op v is; dc = al.dc; c = al.c; fsr = al.fsr; irp = al.irp }
      by_case false e = record { w = λ h. never (sym h); z = al.z; dc = al.dc; c = al.c; fsr = al.fsr; irp = al.irp }

  works_bytes : (op : FileOperation) (byte : Option ℕ) (a : ℕ) → (one_works op byte f d).bytes a ≡ d.bytes a
  works_bytes op byte a = by_case (stays op byte f)
    where
      by_case : (c : Bool) → (if c then record (one_sets (flags_in op) d) { z = (flags_in op).z && not f.zero || d.z } else other_w (one_sets (flags_in op) d)).bytes a ≡ d.bytes a
      by_case true = refl
      by_case false = refl

  -- C may be what it was on the other machine
  carry_regs : (op : FileOperation) (byte : Option ℕ) (v : ℕ) → Says byte v → Alike (same_carry (leaves_carry op byte n.shown) (one_works op byte f d)) (record (flags_with r op v) { w = result_with r op v }) s
  carry_regs op byte v says = by_case (leaves_carry op byte n.shown) refl
    where
      by_case : (c : Bool) → leaves_carry op byte n.shown ≡ c → Alike (same_carry c (one_works op byte f d)) (record (flags_with r op v) { w = result_with r op v }) s
      by_case true e = let al = works_regs op byte v says in record { w = al.w; z = al.z; dc = al.dc; c = λ h. carry_alike op byte n.shown r s v says e scene.ties.shown; fsr = al.fsr; irp = al.irp }
      by_case false e = works_regs op byte v says

  carry_bytes : (c : Bool) (op : FileOperation) (byte : Option ℕ) (a : ℕ) → (same_carry c (one_works op byte f d)).bytes a ≡ d.bytes a
  carry_bytes true op byte a = works_bytes op byte a
  carry_bytes false op byte a = works_bytes op byte a

  known_says : (j i : ℕ) → j ≡ i → Says (f.known j) (m i)
  known_says j i is v e = ap m (sym is) ∙ scene.holds.known j v e

  to_w_alone : (op : FileOperation) (j i : ℕ) → j ≡ i → Passes (ties_left x p.block inside n n.carry (stays op (f.known j) f)) list (way_of op (f.known j)) (after_to_w op (ToByte j) f) (same_carry (leaves_carry op (f.known j) n.shown) (one_works op (f.known j) f d))
      → Lone (file_to_w (old_program x) p first m op (Silent i))
  to_w_alone op j i is l = (
    pass (ties_left x p.block inside n n.carry (stays op (f.known j) f)) (way_of op (f.known j)) (skips_with r op (m i)) (λ b h. way_is op r (m i) (f.known j) b (known_says j i is) h) (after_to_w op (ToByte j) f) (same_carry (leaves_carry op (f.known j) n.shown) (one_works op (f.known j) f d)) l
        (record (flags_with r op (m i)) { w = result_with r op (m i) }) m (carry_regs op (f.known j) (m i) (known_says j i is))
        (to_w_holds f r m scene.holds op (ToByte j) (m i) (λ h e. ap m (sym is ∙ aim_eq j h e))) (λ a z o w. scene.still a (sym (carry_bytes (leaves_carry op (f.known j) n.shown) op (f.known j) a) ∙ z) o w)
        (tied_left n.carry (stays op (f.known j) f) (record (flags_with r op (m i)) { w = result_with r op (m i) }) m scene.ties.carry (stays_is op (f.known j) (m i) (known_says j i is))),
    tt,
  )

  w_if : (c b : Bool) (v y : ℕ) → (c ≡ true → y ≡ v) → (b ≡ false → y ≡ s.w) → (if c then b else true) ≡ false → v ≡ s.w
  w_if true b v y same l e = sym (same refl) ∙ l e
  w_if false b v y same l e = never (sym e)

  z_if : (c g b : Bool) (v : ℕ) → (c ≡ true → r.w ≡ v) → (g ≡ true → r.z ≡ truth (nat_eq r.w 0)) → (b ≡ false → r.z ≡ s.z) → (if c && g then b else true) ≡ false → truth (nat_eq v 0) ≡ s.z
  z_if true true b v same zero l e = ap (λ (i : ℕ). truth (nat_eq i 0)) (sym (same refl)) ∙ sym (zero refl) ∙ l e
  z_if true false b v same zero l e = never (sym e)
  z_if false g b v same zero l e = never (sym e)

  -- W is what is read
  in_w : (j i : ℕ) → j ≡ i → is_in_w f j ≡ true → r.w ≡ m i
  in_w j i is e = by_case (f.held j) refl e
    where
      by_case : (c : Bool) → f.held j ≡ c → (c || same_known f.number (f.known j)) ≡ true → r.w ≡ m i
      by_case true h e = scene.holds.held j h ∙ ap m is
      by_case false h e = same_known_is f.number (f.known j) r.w (m i) scene.holds.number (known_says j i is) e

  move_alone : (j i : ℕ) → j ≡ i → ExpectsBy (ties_left x p.block inside n None (f.held j)) (note_ahead list) (moved (ToByte j) f) (one_moves f j d) → Lone (file_to_w (old_program x) p first m files.Movf (Silent i))
  unfolding skips_with result_with
  move_alone j i is l =
      let same : f.held j ≡ true → r.w ≡ m i = λ e. scene.holds.held j e ∙ ap m is in (
        moves (ties_left x p.block inside n None (f.held j)) (moved (ToByte j) f) (one_moves f j d) l (record (flags_with r files.Movf (m i)) { w = result_with r files.Movf (m i) }) m
            (subst (λ (t : Registers). Alike (one_moves f j d) t s) (sym (move_is r (m i)))
            (record { w = λ e. w_if (is_in_w f j) d.w (m i) r.w (in_w j i is) scene.alike.w e; z = λ e. z_if (is_in_w f j) f.zero d.z (m i) (in_w j i is) scene.holds.zero scene.alike.z e; dc = scene.alike.dc; c = scene.alike.c; fsr = scene.alike.fsr; irp = scene.alike.irp }))
            (to_w_holds f r m scene.holds files.Movf (ToByte j) (m i) (λ h e. ap m (sym is ∙ aim_eq j h e))) scene.still (tied_left None (f.held j) (record (flags_with r files.Movf (m i)) { w = result_with r files.Movf (m i) }) m (none_carried m) (λ e. sym (same e))),
        tt,
      )

  bound : (v : ℕ) (b : Bool) → not b ≡ false → (b ≡ true → v ≡ s.z) → v ≡ s.z
  bound v true e f = f refl
  bound v false e f = never (sym e)

  -- W of the other machine is what is read
  carry_alone : (j i c : ℕ) → j ≡ i → n.carry ≡ Some c → (q : Bool) → nat_eq c j ≡ q → DropsCarried x p.block inside n list j c q → Lone (file_to_w (old_program x) p first m files.Movf (Silent i))
  unfolding skips_with result_with
  carry_alone j i c is carried true q l = (
    moves (ties_left x p.block inside n None (f.held j)) (moved (ToByte j) f) (record d { w = false; z = not (reports n.shown) }) l (record (flags_with r files.Movf (m i)) { w = result_with r files.Movf (m i) }) m
        (subst (λ (t : Registers). Alike (record d { w = false; z = not (reports n.shown) }) t s) (sym (move_is r (m i)))
        (record { w = λ e. ap m (sym (eqb-true c j q ∙ is)) ∙ scene.ties.carry c carried; z = λ e. bound (truth (nat_eq (m i) 0)) (reports n.shown) e (λ h. ap (λ (v : ℕ). truth (nat_eq v 0)) (ap m (sym (eqb-true c j q ∙ is)) ∙ scene.ties.carry c carried) ∙ sym (reports_is n.shown r.w s h scene.ties.shown)); dc = scene.alike.dc; c = scene.alike.c; fsr = scene.alike.fsr; irp = scene.alike.irp }))
        (to_w_holds f r m scene.holds files.Movf (ToByte j) (m i) (λ h e. ap m (sym is ∙ aim_eq j h e))) scene.still
        (tied_left None (f.held j) (record (flags_with r files.Movf (m i)) { w = result_with r files.Movf (m i) }) m (none_carried m) (λ e. sym (scene.holds.held j e ∙ ap m is))),
    tt,
  )
  carry_alone j i c is carried false q l =
      let same : f.held j ≡ true → r.w ≡ m i = λ e. scene.holds.held j e ∙ ap m is in (
        moves (ties_left x p.block inside n (Some c) (f.held j)) (moved (ToByte j) f) (one_moves f j d) l (record (flags_with r files.Movf (m i)) { w = result_with r files.Movf (m i) }) m
            (subst (λ (t : Registers). Alike (one_moves f j d) t s) (sym (move_is r (m i)))
            (record { w = λ e. w_if (is_in_w f j) d.w (m i) r.w (in_w j i is) scene.alike.w e; z = λ e. z_if (is_in_w f j) f.zero d.z (m i) (in_w j i is) scene.holds.zero scene.alike.z e; dc = scene.alike.dc; c = scene.alike.c; fsr = scene.alike.fsr; irp = scene.alike.irp }))
            (to_w_holds f r m scene.holds files.Movf (ToByte j) (m i) (λ h e. ap m (sym is ∙ aim_eq j h e))) scene.still
            (tied_left (Some c) (f.held j) (record (flags_with r files.Movf (m i)) { w = result_with r files.Movf (m i) }) m (λ h e. scene.ties.carry h (carried ∙ e)) (λ e. sym (same e))),
        tt,
      )

  move_by : (o : Option ℕ) → n.carry ≡ o → (j i : ℕ) → j ≡ i → DropsMove x p.block inside n list j o → Lone (file_to_w (old_program x) p first m files.Movf (Silent i))
  move_by None e j i is l = move_alone j i is l
  move_by (Some c) e j i is l = carry_alone j i c is e (nat_eq c j) refl l

  file_to_w_alone : (op : FileOperation) (a : Aim) (c : Access) → Aims x a c → DropsToW x p.block inside n list op a → Lone (file_to_w (old_program x) p first m op c)
  file_to_w_alone files.Movf (ToByte j) (Silent i) is l = move_by n.carry refl j i is l
  file_to_w_alone op (ToByte j) (Silent i) is l = to_w_alone op j i is l
  file_to_w_alone op (ToByte j) Denied is l = tt
  file_to_w_alone op (ToByte j) c is l = absurd is
  file_to_w_alone op a c is l = absurd l

  -- ---- to the byte
  written_alone : (e : Apart) (j i v : ℕ) → j ≡ i → ((a : ℕ) → e.bytes a ≡ d.bytes a) → (a : ℕ) → (other_byte j e).bytes a ≡ false → held scene.ks a ≡ false → rest a ≡ false → with_byte m i v a ≡ k a
  written_alone e j i v is same a z o w =
      byte_one (nat_eq a i) (e.bytes a) v (m a) (k a) (λ h. scene.still a (sym (same a) ∙ h) o w) (subst (λ (h : ℕ). (if nat_eq a h then true else e.bytes a) ≡ false) is z)

  writes_regs : (op : FileOperation) (j v : ℕ) → Alike (one_writes op j f d) (flags_with r op v) s
  writes_regs op j v = by_case (same_known (computed op f.number (f.known j)) (f.known j))
    where
      al : Alike (one_sets (flags_in op) d) (flags_with r op v) s
      al = flags_alone d r s scene.alike op v

      by_case : (c : Bool) → Alike (if c then one_sets (flags_in op) d else other_byte j (one_sets (flags_in op) d)) (flags_with r op v) s
      by_case true = al
      by_case false = record { w = al.w; z = al.z; dc = al.dc; c = al.c; fsr = al.fsr; irp = al.irp }

  -- the byte may hold the result already
  written_same : (op : FileOperation) (j i v : ℕ) → j ≡ i → (same_known (computed op f.number (f.known j)) (f.known j) ≡ true → v ≡ m i)
      → (a : ℕ) → (one_writes op j f d).bytes a ≡ false → held scene.ks a ≡ false → rest a ≡ false → with_byte m i v a ≡ k a
  written_same op j i v is same = by_case (same_known (computed op f.number (f.known j)) (f.known j)) same
    where
      by_case : (c : Bool) → (c ≡ true → v ≡ m i) → (a : ℕ) → (if c then one_sets (flags_in op) d else other_byte j (one_sets (flags_in op) d)).bytes a ≡ false → held scene.ks a ≡ false → rest a ≡ false → with_byte m i v a ≡ k a
      by_case true same a z o w = byte_still (nat_eq a i) v (m a) (λ e. same refl ∙ ap m (sym (eqb-true a i e))) ∙ scene.still a z o w
      by_case false same a z o w = written_alone (one_sets (flags_in op) d) j i v is (λ b. refl) a z o w

  file_to_file_alone : (op : FileOperation) (a : Aim) (c : Access) → Aims x a c → Told x inside true c → DropsToFile x p.block inside n list op a → Lone (file_to_file (old_program x) p first m op c)
  file_to_file_alone op (ToByte j) (Silent i) is t l =
      let says = known_says j i is in
      let v = result_with r op (m i) in
      let made : Says (computed op f.number (f.known j)) v = λ h e. computed_is op r (m i) h f.number (f.known j) scene.holds.number says e in (
        pass (ties_but x p.block inside n j) (way_of op (f.known j)) (skips_with r op (m i)) (λ b h. way_is op r (m i) (f.known j) b says h) (after_to_file x.hidden op (ToByte j) f) (one_writes op j f d) l
            (flags_with r op (m i)) (with_byte m i v) (writes_regs op j (m i))
            (bits_hold (flags_in op) (learned x.hidden (ToByte j) (computed op f.number (f.known j)) (without_zero f)) (flags_with r op (m i)) (with_byte m i v) (λ z. carry_set op r (m i) z) (λ z. zero_set op r (m i) z)
            (subst (λ (h : ℕ). Holds (learned x.hidden (ToByte h) (computed op f.number (f.known j)) (without_zero f)) (flags_with r op (m i)) (with_byte m i v)) (sym is)
            (learned_says x.hidden (without_zero f) (flags_with r op (m i)) m i v (computed op f.number (f.known j)) made (flags_hold f r m scene.holds op (m i)))))
            (written_same op j i v is (λ e. same_known_is (computed op f.number (f.known j)) (f.known j) v (m i) made says e)) (tied_but j i v is (flags_with r op (m i)) (flags_w r op (m i))),
        own_other inside (owner x.layout i) t,
      )
  file_to_file_alone op (ToByte j) Denied is t l = tt
  file_to_file_alone op (ToByte j) c is t l = absurd is
  file_to_file_alone op a c is t l = absurd l

  -- ---- stores
  store_byte : (c : Bool) (j i : ℕ) → j ≡ i → (c ≡ true → r.w ≡ m i) → (a : ℕ) → (if c then d else other_byte j d).bytes a ≡ false → held scene.ks a ≡ false → rest a ≡ false → with_byte m i r.w a ≡ k a
  store_byte true j i is same a z o w = byte_still (nat_eq a i) r.w (m a) (λ e. same refl ∙ ap m (sym (eqb-true a i e))) ∙ scene.still a z o w
  store_byte false j i is same a z o w = written_alone d j i r.w is (λ b. refl) a z o w

  store_regs : (c : Bool) (j : ℕ) → Alike (if c then d else other_byte j d) r s
  store_regs true j = scene.alike
  store_regs false j = record { w = scene.alike.w; z = scene.alike.z; dc = scene.alike.dc; c = scene.alike.c; fsr = scene.alike.fsr; irp = scene.alike.irp }

  store_alone : (a : Aim) (c : Access) → Aims x a c → Told x inside true c → DropsStore x p.block inside n list a → Lone (store (old_program x) p first r r.w c)
  store_alone (ToByte j) (Silent i) is t l = (
    moves (ties_but x p.block inside n j) (stored x.hidden (ToByte j) f) (one_stores f j d) l r (with_byte m i r.w) (store_regs (f.held j) j)
        (subst (λ (h : ℕ). Holds (stored x.hidden (ToByte h) f) r (with_byte m i r.w)) (sym is) (stored_byte x.hidden f r m i scene.holds))
        (store_byte (f.held j) j i is (λ e. scene.holds.held j e ∙ ap m is)) (tied_but j i r.w is r refl),
    own_other inside (owner x.layout i) t,
  )
  store_alone (ToByte j) Denied is t l = tt
  store_alone (ToByte j) c is t l = absurd is
  store_alone a c is t l = absurd l

  clear_regs : (c : Bool) (j : ℕ) → Alike (if c then record d { z = true } else other_byte j (record d { z = true })) (record r { z = 1 }) s
  clear_regs true j = record { w = scene.alike.w; z = λ e. never (sym e); dc = scene.alike.dc; c = scene.alike.c; fsr = scene.alike.fsr; irp = scene.alike.irp }
  clear_regs false j = record { w = scene.alike.w; z = λ e. never (sym e); dc = scene.alike.dc; c = scene.alike.c; fsr = scene.alike.fsr; irp = scene.alike.irp }

  clear_bytes : (c : Bool) (j i : ℕ) → j ≡ i → (c ≡ true → m i ≡ 0) → (a : ℕ) → (if c then record d { z = true } else other_byte j (record d { z = true })).bytes a ≡ false → held scene.ks a ≡ false → rest a ≡ false → with_byte m i 0 a ≡ k a
  clear_bytes true j i is none a z o w = byte_still (nat_eq a i) 0 (m a) (λ e. sym (none refl) ∙ ap m (sym (eqb-true a i e))) ∙ scene.still a z o w
  clear_bytes false j i is none a z o w = written_alone (record d { z = true }) j i 0 is (λ b. refl) a z o w

  clear_byte_alone : (a : Aim) (c : Access) → Aims x a c → Told x inside true c → DropsClear x p.block inside n list a → Lone (store (old_program x) p first (record r { z = 1 }) 0 c)
  clear_byte_alone (ToByte j) (Silent i) is t l = (
    moves (ties_but x p.block inside n j) (learned x.hidden (ToByte j) (Some 0) (without_zero f)) (one_clears f j d) l (record r { z = 1 }) (with_byte m i 0) (clear_regs (is_number (f.known j) 0) j)
        (subst (λ (h : ℕ). Holds (learned x.hidden (ToByte h) (Some 0) (without_zero f)) (record r { z = 1 }) (with_byte m i 0)) (sym is)
        (learned_byte x.hidden (without_zero f) (record r { z = 1 }) m i 0 (lose_zero f r m scene.holds (record r { z = 1 }) refl (scene.holds.carry_bit, λ e. truth_small true))))
        (clear_bytes (is_number (f.known j) 0) j i is (λ e. ap m (sym is) ∙ scene.holds.known j 0 (number_of (f.known j) 0 e))) (tied_but j i 0 is (record r { z = 1 }) refl),
    own_other inside (owner x.layout i) t,
  )
  clear_byte_alone (ToByte j) Denied is t l = tt
  clear_byte_alone (ToByte j) c is t l = absurd is
  clear_byte_alone a c is t l = absurd l

  -- ---- bits of bytes
  change_alone : (g : ℕ → ℕ) (a : Aim) (c : Access) → Aims x a c → Told x inside true c → DropsChange x p.block inside n list a → Lone (change (old_program x) p first m g c)
  change_alone g (ToByte j) (Silent i) is t l = (
    moves (ties_but x p.block inside n j) (lost x.hidden (ToByte j) f) (other_byte j d) l r (with_byte m i (g (m i)))
        (record { w = scene.alike.w; z = scene.alike.z; dc = scene.alike.dc; c = scene.alike.c; fsr = scene.alike.fsr; irp = scene.alike.irp })
        (subst (λ (h : ℕ). Holds (lost x.hidden (ToByte h) f) r (with_byte m i (g (m i)))) (sym is) (lost_byte f r m scene.holds x.hidden i (g (m i))))
        (written_alone d j i (g (m i)) is (λ b. refl)) (tied_but j i (g (m i)) is r refl),
    own_other inside (owner x.layout i) t,
  )
  change_alone g (ToByte j) Denied is t l = tt
  change_alone g (ToByte j) c is t l = absurd is
  change_alone g a c is t l = absurd l

  test_alone : (op : BitOperation) (b : ℕ) (says : ℕ → Bool) → ((byte : Option ℕ) (v : ℕ) (c : Bool) → Says byte v → way_of_bit op byte b ≡ Some c → says v ≡ c) → (a : Aim) (c : Access) → Aims x a c → DropsTest x p.block inside n list op a b → Lone (test (old_program x) p first m says c)
  test_alone op b says ok (ToByte j) (Silent i) is l = (pass (ties x p.block inside n) (way_of_bit op (f.known j) b) (says (m i)) (λ c h. ok (f.known j) (m i) c (known_says j i is) h) f d l r m scene.alike scene.holds scene.still (tied_same r refl), tt)
  test_alone op b says ok (ToByte j) Denied is l = tt
  test_alone op b says ok (ToByte j) c is l = absurd is
  test_alone op b says ok a c is l = absurd l

  -- ---- flags
  put_alone : (b v : ℕ) → v < 2 → nat_lt b 3 ≡ true → ExpectsBy (ties x p.block inside n) (note_ahead list) (without_zero f) (with_flag b true d) → (o : Option Registers) → with_status_bit r b v ≡ o → Lone (put_flag (old_program x) p first o)
  put_alone b v small low l None is = tt
  put_alone b v small low l (Some t) is =
      let z = set_alone d r s scene.alike b v t low is in (
        moves (ties x p.block inside n) (without_zero f) (with_flag b true d) l t m z.0
            (lose_zero f r m scene.holds t z.1 (λ e. status_carry r b v t small is (scene.holds.carry_bit e), λ e. status_zero r b v t small is (scene.holds.zero_bit e)))
            (λ j e o w. scene.still j (sym (flag_bytes b true d j) ∙ e) o w) (tied_same t z.1),
        tt,
      )

  test_flag_alone : (v b : ℕ) (k : Bool) → ((i : ℕ) → nat_eq i v ≡ false → i < 2 → i ≡ truth (not k)) → ((i : ℕ) → nat_eq i v ≡ true → i ≡ truth k) → PassesBoth (ties_seen x p.block inside n b (not k)) (ties_seen x p.block inside n b k) list f d
      → (o : Option ℕ) → status_bit r b ≡ o → Lone (test_flag (old_program x) p first v o)
  test_flag_alone v b k off on l None is = tt
  test_flag_alone v b k off on l (Some i) is = (by_way (nat_eq i v) refl, tt)
    where
      same_bit : (j : ℕ) → status_bit r b ≡ Some j → i ≡ j
      same_bit j e = some_is i j (sym is ∙ e)

      by_way : (c : Bool) → nat_eq i v ≡ c → Goes x inside rest (goes first (onward (old_program x) p c) r) second m scene.k
      by_way false e =
          pass_on (ties_seen x p.block inside n b (not k)) f d l.runs r m scene.alike scene.holds scene.still (tied_seen b (not k) (λ j h small. off j (ap (λ (z : ℕ). nat_eq z v) (sym (same_bit j h)) ∙ e) small))
      by_way true e =
          pass_over (ties_seen x p.block inside n b k) f d l.skips l.drops r m scene.alike scene.holds scene.still (tied_seen b k (λ j h small. on j (ap (λ (z : ℕ). nat_eq z v) (sym (same_bit j h)) ∙ e)))

  stuck_alone : (c : Bool) (e : Effect) → Lone e → Lone (if c then Stuck else e)
  stuck_alone true e z = tt
  stuck_alone false e z = z

  flag_alone : (op : BitOperation) (b : ℕ) → DropsBit x p.block inside n list op (operands.Register Status) b → Lone (flag (old_program x) p first op b)
  flag_alone Bcf b e = put_alone b 0 (truth_small false) e.0 e.1 (with_status_bit r b 0) refl
  flag_alone Bsf b e = stuck_alone (nat_eq b 7 && all_near x.layout) (put_flag (old_program x) p first (with_status_bit r b 1)) (put_alone b 1 (truth_small true) e.0 e.1 (with_status_bit r b 1) refl)
  flag_alone Btfsc b e = test_flag_alone 0 b false not_off is_off e (status_bit r b) refl
  flag_alone Btfss b e = test_flag_alone 1 b true not_on is_on e (status_bit r b) refl

  -- ---- others
  number_regs : (v : ℕ) (c : Bool) → is_number f.number v ≡ c → Alike (if c then d else other_w d) (record r { w = v }) s
  number_regs v true e =
      record { w = λ h. sym (scene.holds.number v (number_of f.number v e)) ∙ scene.alike.w h; z = scene.alike.z; dc = scene.alike.dc; c = scene.alike.c; fsr = scene.alike.fsr; irp = scene.alike.irp }
  number_regs v false e = record { w = λ h. never (sym h); z = scene.alike.z; dc = scene.alike.dc; c = scene.alike.c; fsr = scene.alike.fsr; irp = scene.alike.irp }

  number_literal : (op : LiteralOperation) (v : ℕ) → is_retlw op ≡ false → (o : Option FileOperation) → file_for op ≡ o → Alike (dropped_number f d op o v) (after_row (literal_row op v) r) s
  number_literal op v plain_op None e = literal_alone d r s scene.alike op v plain_op
  number_literal op v plain_op (Some file) e =
      subst (λ (t : Registers). Alike (one_works file (Some v) f d) t s) (literal_is file op r v (file_is op file e) (no_move op file e)) (works_regs file (Some v) v (λ i h. some_is v i h))

  literal_regs : (op : LiteralOperation) (value : Literal) → is_retlw op ≡ false → Alike (dropped_literal f d op value) (after_row (literal_row op (literal_value x.layout value)) r) s
  literal_regs literals.Movlw (Number v) plain_op = subst (λ (t : Registers). Alike (dropped_literal f d literals.Movlw (Number v)) t s) (sym (moved_w r v)) (number_regs v (is_number f.number v) refl)
  literal_regs op (Number v) plain_op = number_literal op v plain_op (file_for op) refl
  literal_regs op value plain_op = literal_alone d r s scene.alike op (literal_value x.layout value) plain_op

  number_bytes : (c : Bool) (a : ℕ) → (if c then d else other_w d).bytes a ≡ d.bytes a
  number_bytes true a = refl
  number_bytes false a = refl

  number_literal_bytes : (op : LiteralOperation) (v : ℕ) (o : Option FileOperation) (a : ℕ) → (dropped_number f d op o v).bytes a ≡ d.bytes a
  number_literal_bytes op v None a = refl
  number_literal_bytes op v (Some file) a = works_bytes file (Some v) a

  pub literal_bytes : (op : LiteralOperation) (value : Literal) (a : ℕ) → (dropped_literal f d op value).bytes a ≡ d.bytes a
  literal_bytes literals.Movlw (Number v) a = number_bytes (is_number f.number v) a
  literal_bytes op (Number v) a = number_literal_bytes op v (file_for op) a
  literal_bytes op value a = refl

  literal_lone : (op : LiteralOperation) (value : Literal) → is_retlw op ≡ false → ExpectsBy (ties_left x p.block inside n n.carry false) (note_ahead list) (after_literal f op value) (dropped_literal f d op value)
      → Lone (literal (old_program x) p first op (after_row (literal_row op (literal_value x.layout value)) r))
  literal_lone op value plain_op l =
      let t = after_row (literal_row op (literal_value x.layout value)) r in
      subst Lone (sym (literal_quiet (old_program x) p first op t plain_op)) (
        moves (ties_left x p.block inside n n.carry false) (after_literal f op value) (dropped_literal f d op value) l t m (literal_regs op value plain_op) (literal_holds x sound inside rest scene op value)
            (λ a z o w. scene.still a (sym (literal_bytes op value a) ∙ z) o w) (tied_left n.carry false t m scene.ties.carry (λ e. never e)),
        tt,
      )

  plain_alone : (op : PlainOperation) → DropsPlain x p.block inside n list op → Lone (plain (old_program x) p first op)
  plain_alone Clrw e = (moves (ties_left x p.block inside n n.carry false) (record f { number = Some 0; held = λ a. false; zero = true }) (record d { w = true; z = true }) e (after_row ins.Clrw r) m (clear_alone d r s scene.alike) (cleared_holds x sound inside rest scene) scene.still (tied_left n.carry false (after_row ins.Clrw r) m scene.ties.carry (λ e. never e)), tt)
  plain_alone Nop e = (moves (ties x p.block inside n) f d e r m scene.alike scene.holds scene.still (tied_same r refl), tt)
  plain_alone Retfie e = absurd e
  plain_alone Return e = absurd e

  jump_alone : (o : Option ℕ) → ((i : ℕ) → o ≡ Some i → place_in (x.rows p.block) i ≡ place_in (x.rows p.block) p.index) → ExpectsBy (ties x p.block inside n) (noted (x.rows p.block) o) f d
      → Lone (jump_to first (option_map (λ i. stand (old_program x) (position p.block i)) o))
  jump_alone None there e = tt
  jump_alone (Some i) there e = (
    go_by x sound inside rest scene (ties x p.block inside n) (note_ahead (drop i (x.rows p.block))) f d (stand (old_program x) (position p.block i)) (under x p) (to_label x p.block i)
        (sym (under_stand x p.block i ∙ ap (position p.block) (there i refl))) e None None refl tt r s m k scene.alike scene.holds scene.still (tied_same r refl),
    tt,
  )

  goto_alone : (target : Target) → DropsGoto x p.block inside n (place_in (x.rows p.block) p.index) target → Lone (goto (old_setting x) inside p first target)
  goto_alone (targets.Label (Inner l)) e = jump_alone (label_from (olds (x.rows p.block)) (Inner l) 0) e.1 e.0
  goto_alone target e = absurd e

  pub dropped_alone : (i : Sym) → clears x.hidden r (touches i) ≡ true → IsDropped x p.block inside n (place_in (x.rows p.block) p.index) list i → Lone (effect_of (old_setting x) inside p first m i)
  unfolding effect_of
  dropped_alone (syms.File op operand into.W) clear e = file_to_w_alone op (aim x.layout inside false operand) (access_of (old_setting x) inside false r operand) (access_aims x inside false r operand clear) e
  dropped_alone (syms.File op operand into.File) clear e =
      file_to_file_alone op (aim x.layout inside true operand) (access_of (old_setting x) inside true r operand) (access_aims x inside true r operand clear) (access_told x inside true r operand) e
  dropped_alone (syms.Movwf operand) clear e = store_alone (aim x.layout inside true operand) (access_of (old_setting x) inside true r operand) (access_aims x inside true r operand clear) (access_told x inside true r operand) e
  dropped_alone (syms.Clrf operand) clear e = clear_byte_alone (aim x.layout inside true operand) (access_of (old_setting x) inside true r operand) (access_aims x inside true r operand clear) (access_told x inside true r operand) e
  dropped_alone (syms.Bit op (operands.Register Status) b) clear e = flag_alone op b e
  dropped_alone (syms.Bit Bcf operand b) clear e = change_alone (clear_bit b) (aim x.layout inside true operand) (access_of (old_setting x) inside true r operand) (access_aims x inside true r operand clear) (access_told x inside true r operand) e
  dropped_alone (syms.Bit Bsf operand b) clear e = change_alone (set_bit b) (aim x.layout inside true operand) (access_of (old_setting x) inside true r operand) (access_aims x inside true r operand clear) (access_told x inside true r operand) e
  dropped_alone (syms.Bit Btfsc operand b) clear e = test_alone Btfsc b (λ v. nat_eq (bit v b) 0) (λ o v c k h. bit_way_is v b o 0 c k h) (aim x.layout inside false operand) (access_of (old_setting x) inside false r operand) (access_aims x inside false r operand clear) e
  dropped_alone (syms.Bit Btfss operand b) clear e = test_alone Btfss b (λ v. nat_eq (bit v b) 1) (λ o v c k h. bit_way_is v b o 1 c k h) (aim x.layout inside false operand) (access_of (old_setting x) inside false r operand) (access_aims x inside false r operand clear) e
  dropped_alone (syms.Literal op value) clear e = literal_lone op value e.0 e.1
  dropped_alone (syms.Plain op) clear e = plain_alone op e
  dropped_alone (syms.Goto target) clear e = goto_alone target e
  dropped_alone i clear e = absurd e
