-- A flag that is tested in the place of Z.
use Rattle.std.proofs.Common.{◌≡◌, ℕ, Bool, true, false, not, ◌&&◌, if◌then◌else◌, List, None, Some, refl, sym, ap, ◌∙◌, subst}
use Rattle.std.specs.Prelude.{nat_eq}
use Rattle.std.proofs.lemmas.Bool.{eqb-true}
use Rattle.pic_world.specs.Bits.{truth}
use Rattle.sym_code.specs.Effect.{Thread, Memory, Effect, goes, test_flag, flag, effect_of}
use Rattle.sym_code.specs.Programs.{Position, onward}
use Rattle.sym_code.specs.Registers.{Registers, status_bit}
use Rattle.sym_code.specs.declared.code.BitOperation.TheVariants.{Btfsc, Btfss}
use Rattle.sym_code.specs.declared.code.Operand.TheVariants as operands
use Rattle.sym_code.specs.declared.code.Register.TheVariants.{Status}
use Rattle.sym_code.specs.declared.code.Sym.{Sym}
use Rattle.sym_code.specs.declared.code.Sym.TheVariants as syms
use Rattle.lean_code.specs.Rows.{FlagName, Carry, Zero, Shown, Unshown, Sees, Reports, Chooses, bit_of, Facts, Apart, Note, Row, tests_flag, Lean, old_program, new_program, old_setting, new_setting}
use Rattle.lean_code.specs.Changes.{flag_of, same_flag, IsShown, shows_zero}
use Rattle.lean_code.specs.Right.{Leads, TestsZero, IsTested, IsSound}
use Rattle.lean_code.proofs.Lists.{never, stands_at}
use Rattle.lean_code.proofs.Places.{under, row_at}
use Rattle.lean_code.proofs.Relation.{apart_of, Goes, Match}
use Rattle.lean_code.proofs.Kept.{Scene, one, other, rows, lead}
use Rattle.lean_code.proofs.Shown.{flag_is}

and_l : (a b : Bool) → (a && b) ≡ true → a ≡ true
and_l true b e = refl
and_l false b e = e

and_r : (a b : Bool) → (a && b) ≡ true → b ≡ true
and_r true b e = e
and_r false b e = never e

is_not : (a : Bool) → not a ≡ true → a ≡ false
is_not true e = never e
is_not false e = refl

-- the value of Z, by that of the flag
abbrev pub opposite : Bool → Bool → Bool
opposite true u = not u
opposite false u = u

-- whether a number is 0 that a flag chose
chosen : (turned u : Bool) (a b w : ℕ) → w ≡ (if u then a else b) → (if turned then not (nat_eq a 0) && nat_eq b 0 else nat_eq a 0 && not (nat_eq b 0)) ≡ true → nat_eq w 0 ≡ opposite turned u
chosen true true a b w e k = ap (λ (z : ℕ). nat_eq z 0) e ∙ is_not (nat_eq a 0) (and_l (not (nat_eq a 0)) (nat_eq b 0) k)
chosen true false a b w e k = ap (λ (z : ℕ). nat_eq z 0) e ∙ and_r (not (nat_eq a 0)) (nat_eq b 0) k
chosen false true a b w e k = ap (λ (z : ℕ). nat_eq z 0) e ∙ and_l (nat_eq a 0) (not (nat_eq b 0)) k
chosen false false a b w e k = ap (λ (z : ℕ). nat_eq z 0) e ∙ is_not (nat_eq b 0) (and_r (nat_eq a 0) (not (nat_eq b 0)) k)

-- what Z is, and the flag
zero_by : (shown : Shown) (flag : FlagName) (turned : Bool) (w z : ℕ) (s : Registers) → z ≡ truth (nat_eq w 0) → shows_zero shown flag turned ≡ true → IsShown shown w s → (u : Bool) × (flag_of flag s ≡ truth u) × (z ≡ truth (opposite turned u))
zero_by Unshown flag turned w z s is e x = never e
zero_by (Sees g v) flag turned w z s is e x = never e
zero_by Reports flag turned w z s is e x = never e
zero_by (Chooses g a b) flag turned w z s is e x =
    let by = if turned then not (nat_eq a 0) && nat_eq b 0 else nat_eq a 0 && not (nat_eq b 0) in
    (x.0, ap (λ (h : FlagName). flag_of h s) (sym (flag_is g flag (and_l (same_flag g flag) by e))) ∙ x.1, is ∙ ap truth (chosen turned x.0 a b w x.2 (and_r (same_flag g flag) by e)))

-- the tests skip alike
alike_off : (turned u : Bool) (i j : ℕ) → j ≡ truth u → i ≡ truth (opposite turned u) → nat_eq i 0 ≡ nat_eq j (if turned then 1 else 0)
alike_off true true i j p q = ap (λ (z : ℕ). nat_eq z 0) q ∙ sym (ap (λ (z : ℕ). nat_eq z 1) p)
alike_off true false i j p q = ap (λ (z : ℕ). nat_eq z 0) q ∙ sym (ap (λ (z : ℕ). nat_eq z 1) p)
alike_off false true i j p q = ap (λ (z : ℕ). nat_eq z 0) q ∙ sym (ap (λ (z : ℕ). nat_eq z 0) p)
alike_off false false i j p q = ap (λ (z : ℕ). nat_eq z 0) q ∙ sym (ap (λ (z : ℕ). nat_eq z 0) p)

alike_on : (turned u : Bool) (i j : ℕ) → j ≡ truth u → i ≡ truth (opposite turned u) → nat_eq i 1 ≡ nat_eq j (if turned then 0 else 1)
alike_on true true i j p q = ap (λ (z : ℕ). nat_eq z 1) q ∙ sym (ap (λ (z : ℕ). nat_eq z 0) p)
alike_on true false i j p q = ap (λ (z : ℕ). nat_eq z 1) q ∙ sym (ap (λ (z : ℕ). nat_eq z 0) p)
alike_on false true i j p q = ap (λ (z : ℕ). nat_eq z 1) q ∙ sym (ap (λ (z : ℕ). nat_eq z 1) p)
alike_on false false i j p q = ap (λ (z : ℕ). nat_eq z 1) q ∙ sym (ap (λ (z : ℕ). nat_eq z 1) p)

module _ (x : Lean) (sound : IsSound x) (inside : Bool) (rest : ℕ → Bool) (scene : Scene x inside rest) (stands : stands_at (row_at x scene.p) ≡ true) where
  abbrev p : Position
  p = scene.p

  abbrev n : Note
  n = scene.n

  abbrev d : Apart
  d = scene.n.apart

  abbrev f : Facts
  f = scene.n.facts

  abbrev r : Registers
  r = scene.r

  abbrev s : Registers
  s = scene.s

  abbrev m : Memory
  m = scene.m

  abbrev k : Memory
  k = scene.k

  abbrev first : Thread
  first = one x sound inside rest scene

  abbrev second : Thread
  second = other x sound inside rest scene

  abbrev list : List Row
  list = rows x sound inside rest scene

  abbrev Both : Effect → Effect → Type 0
  Both = Match x inside rest (apart_of n scene.ks) m k

  -- a test of Z, and one of the flag
  tests : (v y : ℕ) (name : FlagName) → nat_eq r.z v ≡ nat_eq (flag_of name s) y → Leads list None f d → (b : ℕ) → nat_eq b 2 ≡ true
      → Both (test_flag (old_program x) p first v (status_bit r b)) (test_flag (new_program x) (under x p) second y (status_bit s (bit_of name)))
  tests v y name same l b is =
      subst (λ (c : ℕ). Both (test_flag (old_program x) p first v (status_bit r c)) (test_flag (new_program x) (under x p) second y (status_bit s (bit_of name)))) (sym (eqb-true b 2 is)) (by_name name same)
    where
      by_way : (c : Bool) → nat_eq r.z v ≡ c → Goes x inside rest (goes first (onward (old_program x) p (nat_eq r.z v)) r) (goes second (onward (new_program x) (under x p) c) s) m k
      by_way c e =
          subst (λ (c : Bool). Goes x inside rest (goes first (onward (old_program x) p (nat_eq r.z v)) r) (goes second (onward (new_program x) (under x p) c) s) m k) e
          (lead x sound inside rest scene stands None (nat_eq r.z v) (λ b h. absurd (cc)) f d l None None refl tt r s m k scene.alike scene.holds scene.still)

      by_name : (name : FlagName) → nat_eq r.z v ≡ nat_eq (flag_of name s) y → Both (test_flag (old_program x) p first v (Some r.z)) (test_flag (new_program x) (under x p) second y (status_bit s (bit_of name)))
      by_name Carry e = (by_way (nat_eq s.c y) e, tt)
      by_name Zero e = (by_way (nat_eq s.z y) e, tt)

  off_both : (name : FlagName) (turned : Bool) (b : ℕ) → TestsZero x p.block inside n list name turned b
      → Both (effect_of (old_setting x) inside p first m (syms.Bit Btfsc (operands.Register Status) b)) (effect_of (new_setting x) inside (under x p) second k (tests_flag name turned (syms.Bit Btfsc (operands.Register Status) b)))
  unfolding effect_of
  off_both name true b e = let y = zero_by n.shown name true r.w r.z s (scene.holds.zero e.1) e.2 scene.ties.shown in tests 0 1 name (alike_off true y.0 r.z (flag_of name s) y.1 y.2) e.3 b e.0
  off_both name false b e = let y = zero_by n.shown name false r.w r.z s (scene.holds.zero e.1) e.2 scene.ties.shown in tests 0 0 name (alike_off false y.0 r.z (flag_of name s) y.1 y.2) e.3 b e.0

  on_both : (name : FlagName) (turned : Bool) (b : ℕ) → TestsZero x p.block inside n list name turned b
      → Both (effect_of (old_setting x) inside p first m (syms.Bit Btfss (operands.Register Status) b)) (effect_of (new_setting x) inside (under x p) second k (tests_flag name turned (syms.Bit Btfss (operands.Register Status) b)))
  unfolding effect_of
  on_both name true b e = let y = zero_by n.shown name true r.w r.z s (scene.holds.zero e.1) e.2 scene.ties.shown in tests 1 0 name (alike_on true y.0 r.z (flag_of name s) y.1 y.2) e.3 b e.0
  on_both name false b e = let y = zero_by n.shown name false r.w r.z s (scene.holds.zero e.1) e.2 scene.ties.shown in tests 1 1 name (alike_on false y.0 r.z (flag_of name s) y.1 y.2) e.3 b e.0

  pub tested_both : (name : FlagName) (turned : Bool) (i : Sym) → IsTested x p.block inside n list name turned i → Both (effect_of (old_setting x) inside p first m i) (effect_of (new_setting x) inside (under x p) second k (tests_flag name turned i))
  unfolding effect_of
  tested_both name turned (syms.Bit Btfsc (operands.Register Status) b) e = off_both name turned b e
  tested_both name turned (syms.Bit Btfss (operands.Register Status) b) e = on_both name turned b e
  tested_both name turned (syms.Label label) e = tt
  tested_both name turned i e = absurd e
