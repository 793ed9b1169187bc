-- Accesses of the given code, and where they lead.
use Rattle.std.proofs.Common.{◌≡◌, ℕ, Bool, true, false, not, if◌then◌else◌, Option, Some, None, refl, sym, ap, ◌∙◌}
use Rattle.pic_world.specs.declared.Root.TheVariants.{Main, Isr}
use Rattle.core_code.specs.declared.code.Byte.TheVariants as bytes
use Rattle.sym_code.specs.Effect.{Loud, Port, Shared, Access, Pointer, Event, Silent, Denied, access_by, general_access, pointed_access, access_of}
use Rattle.sym_code.specs.Layout.{Owner, Watched, Constant, Of, Nobody, owner, address_of, general_at, is_covered}
use Rattle.sym_code.specs.Registers.{Registers, pointer}
use Rattle.sym_code.specs.declared.code.Operand.{Operand}
use Rattle.sym_code.specs.declared.code.Operand.TheVariants as operands
use Rattle.sym_code.specs.declared.code.Register.TheVariants.{Indf, Status, Fsr, Pclath}
use Rattle.lean_code.specs.Rows.{Lean, old_setting, new_setting}
use Rattle.lean_code.specs.Changes.{Aim, ToFsr, ToEvent, ToByte, Through, aim_of, aim, is_own, is_near}
use Rattle.lean_code.specs.Links.{is_clear, clears}
use Rattle.lean_code.proofs.Lists.{never}

module _ (x : Lean) where
  -- a byte of which nothing is said
  abbrev pub IsLoud : Loud → Type 0
  IsLoud (Port address) = Unit {0}
  IsLoud (Shared j cell) = (i : Bool) → (is_near i (owner x.layout j) ≡ false) × (is_own i (owner x.layout j) ≡ false)

  -- what an access tells of its byte
  abbrev pub Told : Bool → Bool → Access → Type 0
  Told inside writes Pointer = Unit {0}
  Told inside writes (Event b) = IsLoud b
  Told inside false (Silent k) = is_near inside (owner x.layout k) ≡ true
  Told inside true (Silent k) = is_own inside (owner x.layout k) ≡ true
  Told inside writes Denied = Unit {0}

  told_by : (inside writes : Bool) (k : ℕ) (o : Owner) → owner x.layout k ≡ o → Told inside writes (access_by inside writes k o)
  told_by inside writes k (Watched cell) e = λ i. (ap (is_near i) e, ap (is_own i) e)
  told_by inside false k Constant e = ap (is_near inside) e
  told_by inside true k Constant e = tt
  told_by false false k (Of Main) e = ap (is_near false) e
  told_by false true k (Of Main) e = ap (is_own false) e
  told_by true writes k (Of Main) e = tt
  told_by false writes k (Of Isr) e = tt
  told_by true false k (Of Isr) e = ap (is_near true) e
  told_by true true k (Of Isr) e = ap (is_own true) e
  told_by inside writes k Nobody e = tt

  told_general : (inside writes : Bool) (o : Option ℕ) → Told inside writes (general_access x.layout inside writes o)
  told_general inside writes None = tt
  told_general inside writes (Some k) = told_by inside writes k (owner x.layout k) refl

  told_pointed : (inside writes c : Bool) (o : Option ℕ) → Told inside writes (if c then general_access x.layout inside writes o else Denied)
  told_pointed inside writes true o = told_general inside writes o
  told_pointed inside writes false o = tt

  told_port : (inside writes c : Bool) (address : ℕ) → Told inside writes (if c then Event (Port address) else Denied)
  told_port inside writes true address = tt
  told_port inside writes false address = tt

  pub access_told : (inside writes : Bool) (r : Registers) (operand : Operand) → Told inside writes (access_of (old_setting x) inside writes r operand)
  unfolding access_of
  access_told inside writes r (operands.Byte (bytes.Device address)) = told_port inside writes _ address
  access_told inside writes r (operands.Byte (bytes.Static object offset)) = told_general inside writes (general_at (address_of x.layout (bytes.Static object offset)))
  access_told inside writes r (operands.Byte (bytes.Frame copy offset)) = told_general inside writes (general_at (address_of x.layout (bytes.Frame copy offset)))
  access_told inside writes r (operands.Byte (bytes.Result root k)) = told_general inside writes (general_at (address_of x.layout (bytes.Result root k)))
  access_told inside writes r (operands.Register Indf) = told_pointed inside writes (is_covered x.layout (pointer r)) (general_at (pointer r))
  access_told inside writes r (operands.Register Fsr) = tt
  access_told inside writes r (operands.Register Status) = tt
  access_told inside writes r (operands.Register Pclath) = tt
  access_told inside writes r (operands.Saved cell) = tt

  -- ---- the access is where the operand leads
  abbrev pub Aims : Aim → Access → Type 0
  Aims ToFsr Pointer = Unit {0}
  Aims ToEvent (Event b) = Unit {0}
  Aims Through (Event b) = Unit {0}
  Aims (ToByte k) (Silent j) = k ≡ j
  Aims Through (Silent j) = x.hidden j ≡ false
  Aims (ToByte k) Denied = ⊥
  Aims a Denied = Unit {0}
  Aims a c = ⊥

  aims_self : (c : Access) → Aims (aim_of c) c
  aims_self Pointer = tt
  aims_self (Event b) = tt
  aims_self (Silent k) = refl
  aims_self Denied = tt

  aims_owner : (inside writes : Bool) (k : ℕ) (o : Owner) → x.hidden k ≡ false → Aims Through (access_by inside writes k o)
  aims_owner inside writes k (Watched cell) e = tt
  aims_owner inside false k Constant e = e
  aims_owner inside true k Constant e = tt
  aims_owner false writes k (Of Main) e = e
  aims_owner true writes k (Of Main) e = tt
  aims_owner false writes k (Of Isr) e = tt
  aims_owner true writes k (Of Isr) e = e
  aims_owner inside writes k Nobody e = tt

  not_true : (c : Bool) → not c ≡ true → c ≡ false
  not_true true e = never e
  not_true false e = refl

  aims_through : (inside writes : Bool) (o : Option ℕ) → is_clear x.hidden o ≡ true → Aims Through (general_access x.layout inside writes o)
  aims_through inside writes None e = tt
  aims_through inside writes (Some k) e = aims_owner inside writes k (owner x.layout k) (not_true (x.hidden k) e)

  aims_pointed : (inside writes c : Bool) (o : Option ℕ) → is_clear x.hidden o ≡ true → Aims Through (if c then general_access x.layout inside writes o else Denied)
  aims_pointed inside writes true o e = aims_through inside writes o e
  aims_pointed inside writes false o e = tt

  aims_port : (c : Bool) (address : ℕ) → Aims ToEvent (if c then Event (Port address) else Denied)
  aims_port true address = tt
  aims_port false address = tt

  pub access_aims : (inside writes : Bool) (r : Registers) (operand : Operand) → clears x.hidden r (Some (operand, writes)) ≡ true → Aims (aim x.layout inside writes operand) (access_of (old_setting x) inside writes r operand)
  unfolding access_of aim
  access_aims inside writes r (operands.Byte (bytes.Device address)) e = aims_port _ address
  access_aims inside writes r (operands.Byte (bytes.Static object offset)) e = aims_self (general_access x.layout inside writes (general_at (address_of x.layout (bytes.Static object offset))))
  access_aims inside writes r (operands.Byte (bytes.Frame copy offset)) e = aims_self (general_access x.layout inside writes (general_at (address_of x.layout (bytes.Frame copy offset))))
  access_aims inside writes r (operands.Byte (bytes.Result root k)) e = aims_self (general_access x.layout inside writes (general_at (address_of x.layout (bytes.Result root k))))
  access_aims inside writes r (operands.Register Indf) e = aims_pointed inside writes (is_covered x.layout (pointer r)) (general_at (pointer r)) e
  access_aims inside writes r (operands.Register Fsr) e = tt
  access_aims inside writes r (operands.Register Status) e = tt
  access_aims inside writes r (operands.Register Pclath) e = tt
  access_aims inside writes r (operands.Saved cell) e = tt

  -- both machines make the same access, where FSR and IRP are the same
  pub access_same : (inside writes : Bool) (r s : Registers) (operand : Operand) → r.fsr ≡ s.fsr → r.irp ≡ s.irp → access_of (new_setting x) inside writes s operand ≡ access_of (old_setting x) inside writes r operand
  unfolding access_of
  access_same inside writes r s (operands.Byte (bytes.Device address)) f i = refl
  access_same inside writes r s (operands.Byte (bytes.Static object offset)) f i = refl
  access_same inside writes r s (operands.Byte (bytes.Frame copy offset)) f i = refl
  access_same inside writes r s (operands.Byte (bytes.Result root k)) f i = refl
  access_same inside writes r s (operands.Register Indf) f i =
      ap (λ (n : ℕ). pointed_access x.layout inside writes (pointer (record s { fsr = n }))) (sym f)
      ∙ ap (λ (n : ℕ). pointed_access x.layout inside writes (pointer (record r { irp = n }))) (sym i)
  access_same inside writes r s (operands.Register Fsr) f i = refl
  access_same inside writes r s (operands.Register Status) f i = refl
  access_same inside writes r s (operands.Register Pclath) f i = refl
  access_same inside writes r s (operands.Saved cell) f i = refl
