-- Where an operand of the chip leads that symbolic code may access.
use Rattle.std.proofs.Common.{◌≡◌, ℕ, ◌+◌, ◌*◌, ◌/◌, ◌%◌, Bool, true, false, Option, Some, None, refl, sym, ap, ◌∙◌, subst, arith}
use Rattle.std.specs.Prelude.{not, ◌&&◌, ◌||◌, nat_eq, nat_lt, nat_le, if◌then◌else◌}
use Rattle.std.proofs.lemmas.Bool.{agree_below_at, eqb-true, ne_eqb, leb-true}
use Rattle.core_code.specs.declared.code.Byte.TheVariants as bytes
use Rattle.pic_chip.specs.Act.{Act, effect}
use Rattle.pic_chip.specs.Address.{Place, Pcl, Status, Fsr, Pclath, Intcon, Pir1, Pie1, General, Device, Nothing, place, indirect, in_every_bank, operand}
use Rattle.pic_chip.specs.State.{State}
use Rattle.pic_world.specs.Registers.{is_register, lowest}
use Rattle.sym_code.specs.Effect.{Setting, Port, Shared, Access, Pointer, Event, Silent, Denied, access_by, general_access, is_selected, access_of}
use Rattle.sym_code.specs.Layout.{is_covered, address_of, general_at, general_in, Owner, Watched, Constant, Of, Nobody, owner}
use Rattle.sym_code.specs.Registers.{Registers, bank, pointer}
use Rattle.sym_code.specs.declared.code.Operand.{Operand}
use Rattle.sym_code.specs.declared.code.Operand.TheVariants as operands
use Rattle.sym_code.specs.declared.code.Register.TheVariants as registers
use Rattle.pic_world.specs.declared.Root.TheVariants.{Main, Isr}
use Rattle.chip_trace.proofs.Relations.{Sees, low_of}
use Rattle.chip_trace.proofs.Addresses.{port, register_place, register_low}

-- the place of what is accessed
abbrev pub place_for : Access → Place
place_for Pointer = Fsr
place_for (Event (Port a)) = port a
place_for (Event (Shared k cell)) = General k
place_for (Silent k) = General k
place_for Denied = Nothing

abbrev pub is_allowed : Access → Bool
is_allowed Denied = false
is_allowed _ = true

general_is : (p : Place) (k : ℕ) → general_in p ≡ Some k → p ≡ General k
general_is (General j) k e = ap General (same j k e) where
  same : (a b : ℕ) → Some a ≡ Some b → a ≡ b
  same a b e = cc
general_is Pcl k e = absurd (cc)
general_is Status k e = absurd (cc)
general_is Fsr k e = absurd (cc)
general_is Pclath k e = absurd (cc)
general_is Intcon k e = absurd (cc)
general_is Pir1 k e = absurd (cc)
general_is Pie1 k e = absurd (cc)
general_is (Device a) k e = absurd (cc)
general_is Nothing k e = absurd (cc)

-- INDF's own address is no general byte
no_indf : (b : ℕ) → general_in (place b 0) ≡ None
no_indf b = by (nat_lt b 2) refl where
  last : (x : Bool) (a : ℕ) → general_in (if x then Device a else Nothing) ≡ None
  last true a = refl
  last false a = refl

  by : (x : Bool) → nat_lt b 2 ≡ x → general_in (place b 0) ≡ None
  by true e = rw e (last (is_register (0x80 * b + 0)) (lowest (0x80 * b + 0)))
  by false e = rw e (last (is_register (0x80 * b + 0)) (lowest (0x80 * b + 0)))

sixth : (p q r s t u : Bool) → p ≡ false → q ≡ false → r ≡ false → s ≡ false → t ≡ false → (p || q || r || s || t || u) ≡ true → u ≡ true
sixth true q r s t u a b c d e h = absurd (cc)
sixth false true r s t u a b c d e h = absurd (cc)
sixth false false true s t u a b c d e h = absurd (cc)
sixth false false false true t u a b c d e h = absurd (cc)
sixth false false false false true u a b c d e h = absurd (cc)
sixth false false false false false u a b c d e h = h

-- these low seven bits are the same place in each bank
every_bank : (b c low : ℕ) → in_every_bank low ≡ true → place b low ≡ place c low
every_bank b c low e = by (nat_eq low 2) (nat_eq low 3) (nat_eq low 4) (nat_eq low 10) (nat_eq low 11) refl refl refl refl refl where
  by : (p q r s t : Bool) → nat_eq low 2 ≡ p → nat_eq low 3 ≡ q → nat_eq low 4 ≡ r → nat_eq low 10 ≡ s → nat_eq low 11 ≡ t → place b low ≡ place c low
  by true q r s t a1 a2 a3 a4 a5 = rw a1 refl
  by false true r s t a1 a2 a3 a4 a5 = rw (a1, a2) refl
  by false false true s t a1 a2 a3 a4 a5 = rw (a1, a2, a3) refl
  by false false false true t a1 a2 a3 a4 a5 = rw (a1, a2, a3, a4) refl
  by false false false false true a1 a2 a3 a4 a5 = rw (a1, a2, a3, a4, a5) refl
  by false false false false false a1 a2 a3 a4 a5 =
      let high : nat_le 0x70 low ≡ true = sixth (nat_eq low 2) (nat_eq low 3) (nat_eq low 4) (nat_eq low 10) (nat_eq low 11) (nat_le 0x70 low) a1 a2 a3 a4 a5 e in
      let twelve : nat_eq low 12 ≡ false = not_twelve low high in
      rw (a1, a2, a3, a4, a5, twelve, high) refl where
        not_twelve : (n : ℕ) → nat_le 0x70 n ≡ true → nat_eq n 12 ≡ false
        not_twelve n h = ne_eqb n 12 (λ q. let a = leb-true 0x70 n h in omega arith)

differs : (b : Bool) → b ≡ true → b ≡ false → ⊥
differs true e f = cc
differs false e f = cc

none_some : (o : Option ℕ) (k : ℕ) → o ≡ Some k → o ≡ None → ⊥
none_some o k e f = let x : Some k ≡ None = sym e ∙ f in absurd (cc)

module _ (g : Setting) (banked : g.banked ≡ true) (s : State) (r : Registers) (sees : Sees s r) where
  same_bank : s.bank % 4 ≡ bank r
  same_bank = let a = sees.bank in let b = sees.banks.0 in let c = sees.banks.1 in omega arith

  same_pointer : 256 * (s.bank / 4) + s.fsr ≡ pointer r
  same_pointer = let a = sees.bank in let b = sees.banks.0 in let c = sees.banks.1 in let d = sees.fsr in omega arith

  abbrev LeadsTo : ℕ → Place → Type 0
  LeadsTo f p = (next : Place → Act) → effect (operand f next) s ≡ effect (next p) s

  -- by name: the bank is selected where that counts
  selected : (a : ℕ) (b : Bool) → is_selected g r a ≡ true → in_every_bank (a % 128) ≡ b → (nat_eq (a % 128) 0 ≡ false) → LeadsTo (a % 128) (place (a / 128) (a % 128))
  selected a true e f nz next = rw f (ap (λ p. effect (next p) s) (every_bank 0 (a / 128) (a % 128) f))
  selected a false e f nz next =
      let here : bank r ≡ a / 128 = eqb-true (bank r) (a / 128) (ap (λ b. not b || (false || nat_eq (bank r) (a / 128))) (sym banked) ∙ ap (λ b. not g.banked || (b || nat_eq (bank r) (a / 128))) (sym f) ∙ e) in
      rw (f, nz) (ap (λ b. effect (next (place b (a % 128))) s) (same_bank ∙ here))

  by_name : (a k : ℕ) → is_selected g r a ≡ true → general_at a ≡ Some k → LeadsTo (a % 128) (General k)
  unfolding general_at
  by_name a k e at next =
      let is : place (a / 128) (a % 128) ≡ General k = general_is (place (a / 128) (a % 128)) k at in
      let nz : nat_eq (a % 128) 0 ≡ false = ne_eqb (a % 128) 0 (λ z. none_some (general_in (place (a / 128) 0)) k (ap (λ v. general_in (place (a / 128) v)) (sym z) ∙ at) (no_indf (a / 128))) in
      selected a (in_every_bank (a % 128)) e refl nz next ∙ ap (λ p. effect (next p) s) is

  by_pointer : (k : ℕ) → general_at (pointer r) ≡ Some k → LeadsTo 0 (General k)
  unfolding general_at
  by_pointer k at next =
      let a = pointer r in
      let is : place (a / 128) (a % 128) ≡ General k = general_is (place (a / 128) (a % 128)) k at in
      let nz : nat_eq (a % 128) 0 ≡ false = ne_eqb (a % 128) 0 (λ z. none_some (general_in (place (a / 128) 0)) k (ap (λ v. general_in (place (a / 128) v)) (sym z) ∙ at) (no_indf (a / 128))) in
      ap (λ p. effect (next (indirect p)) s) same_pointer ∙ ap (λ b. effect (next (if b then Nothing else place (a / 128) (a % 128))) s) nz ∙ ap (λ p. effect (next p) s) is

  by_register : (a : ℕ) → is_selected g r a ≡ true → is_register a ≡ true → lowest a ≡ a → LeadsTo (a % 128) (port a)
  by_register a e reg low next =
      selected a (in_every_bank (a % 128)) e refl (not_indf a reg low) next ∙ ap (λ p. effect (next p) s) (register_place a reg low) where
        implied : (x y : Bool) → (not x || not y) ≡ true → x ≡ true → y ≡ false
        implied true true h e = absurd (cc)
        implied true false h e = refl
        implied false y h e = absurd (cc)

        not_indf : (a : ℕ) → is_register a ≡ true → lowest a ≡ a → nat_eq (a % 128) 0 ≡ false
        not_indf a reg low = implied (is_register a) (nat_eq (a % 128) 0) (agree_below_at (λ n. not (is_register n) || not (nat_eq (n % 128) 0)) (λ n. true) 256 a refl (register_low a reg low)) reg

  -- ---- what is accessed
  owner_case : (i w : Bool) (k : ℕ) (o : Owner) (x : Access) → access_by i w k o ≡ x → is_allowed x ≡ true → place_for x ≡ General k
  owner_case i w k (Watched cell) x e a = ap place_for (sym e)
  owner_case i false k Constant x e a = ap place_for (sym e)
  owner_case i true k Constant x e a = absurd (differs (is_allowed x) a (ap is_allowed (sym e)))
  owner_case false w k (Of Main) x e a = ap place_for (sym e)
  owner_case true w k (Of Main) x e a = absurd (differs (is_allowed x) a (ap is_allowed (sym e)))
  owner_case false w k (Of Isr) x e a = absurd (differs (is_allowed x) a (ap is_allowed (sym e)))
  owner_case true w k (Of Isr) x e a = ap place_for (sym e)
  owner_case i w k Nobody x e a = absurd (differs (is_allowed x) a (ap is_allowed (sym e)))

  general_case : (i w : Bool) (f : ℕ) (o : Option ℕ) (x : Access) → ((k : ℕ) → o ≡ Some k → LeadsTo f (General k)) → general_access g.program.layout i w o ≡ x → is_allowed x ≡ true → LeadsTo f (place_for x)
  general_case i w f None x to e a = absurd (differs (is_allowed x) a (ap is_allowed (sym e)))
  general_case i w f (Some k) x to e a = subst (LeadsTo f) (sym (owner_case i w k (owner g.program.layout k) x e a)) (to k refl)

  named_case : (i w : Bool) (a : ℕ) (b : Bool) (x : Access) → is_selected g r a ≡ b → (if b then general_access g.program.layout i w (general_at a) else Denied) ≡ x → is_allowed x ≡ true → LeadsTo (a % 128) (place_for x)
  named_case i w a true x sel e al = general_case i w (a % 128) (general_at a) x (λ k at. by_name a k sel at) e al
  named_case i w a false x sel e al = absurd (differs (is_allowed x) al (ap is_allowed (sym e)))

  pointed_case : (i w b : Bool) (x : Access) → (if b then general_access g.program.layout i w (general_at (pointer r)) else Denied) ≡ x → is_allowed x ≡ true → LeadsTo 0 (place_for x)
  pointed_case i w true x e al = general_case i w 0 (general_at (pointer r)) x (λ k at. by_pointer k at) e al
  pointed_case i w false x e al = absurd (differs (is_allowed x) al (ap is_allowed (sym e)))

  device_case : (a : ℕ) (p q v : Bool) (x : Access) → is_register a ≡ p → nat_eq (lowest a) a ≡ q → is_selected g r a ≡ v → (if p && q && v then Event (Port a) else Denied) ≡ x → is_allowed x ≡ true → LeadsTo (a % 128) (place_for x)
  device_case a true true true x e f h is al = subst (λ y. LeadsTo (a % 128) (place_for y)) is (by_register a h e (eqb-true (lowest a) a f))
  device_case a true true false x e f h is al = absurd (differs (is_allowed x) al (ap is_allowed (sym is)))
  device_case a true false v x e f h is al = absurd (differs (is_allowed x) al (ap is_allowed (sym is)))
  device_case a false q v x e f h is al = absurd (differs (is_allowed x) al (ap is_allowed (sym is)))

  pub leads_to : (i w : Bool) (x : Operand) (y : Access) → access_of g i w r x ≡ y → is_allowed y ≡ true → (next : Place → Act) → effect (operand (low_of g.program.layout x) next) s ≡ effect (next (place_for y)) s
  unfolding access_of address_of
  leads_to i w (operands.Byte (bytes.Device a)) y e al = device_case a (is_register a) (nat_eq (lowest a) a) (is_selected g r a) y refl refl refl e al
  leads_to i w (operands.Byte (bytes.Static n o)) y e al = named_case i w (address_of g.program.layout (bytes.Static n o)) _ y refl e al
  leads_to i w (operands.Byte (bytes.Frame n o)) y e al = named_case i w (address_of g.program.layout (bytes.Frame n o)) _ y refl e al
  leads_to i w (operands.Byte (bytes.Result n o)) y e al = named_case i w (address_of g.program.layout (bytes.Result n o)) _ y refl e al
  leads_to i w (operands.Register registers.Indf) y e al = pointed_case i w (is_covered g.program.layout (pointer r)) y e al
  leads_to i w (operands.Register registers.Fsr) y e al = λ next. ap (λ p. effect (next (place_for p)) s) e
  leads_to i w (operands.Register registers.Status) y e al = absurd (differs (is_allowed y) al (ap is_allowed (sym e)))
  leads_to i w (operands.Register registers.Pclath) y e al = absurd (differs (is_allowed y) al (ap is_allowed (sym e)))
  leads_to i w (operands.Saved cell) y e al = absurd (differs (is_allowed y) al (ap is_allowed (sym e)))
