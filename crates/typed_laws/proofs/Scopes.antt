-- Names in scopes: what a name stands for is bound, also where it was bound anew.
use Rattle.std.proofs.Common.{◌≡◌, ℕ, Bool, true, false, if◌then◌else◌, List, [], ◌∷◌, Option, Some, None, refl, subst}
use Rattle.std.specs.Str.{bytes_eq}
use Rattle.std.proofs.lemmas.Option.{same_Some}
use Rattle.c_typed.specs.declared.types.Qualified.{Qualified}
use Rattle.pic_world.specs.Registers.{register_named, bit_named}
use Rattle.type_rules.specs.Known.{Binding, BitName, Scope, Known}
use Rattle.type_rules.specs.Names.{entry_of, with_entry, or_else, bit_binding, device_binding, found_in, bound_in, without_first}
use Rattle.typed_laws.specs.Tables.{at, Each, IsBound, Orderly}
use Rattle.typed_laws.proofs.Lists.{none_is}

module _ {A : Type 0} (P : A → Type 0) where
  -- what a scope has under a name
  entry_by : (b : Bool) (x : A) (rest : Option A) (y : A) → P x → (rest ≡ Some y → P y) → (if b then Some x else rest) ≡ Some y → P y
  entry_by true x rest y h more is = subst P (same_Some x y is) h
  entry_by false x rest y h more is = more is

  pub entry_holds : (es : List (List ℕ × A)) (name : List ℕ) (y : A) → Each (λ e. P e.1) es → entry_of es name ≡ Some y → P y
  entry_holds [] name y all is = absurd (none_is is)
  entry_holds (e ∷ es) name y all is = entry_by (bytes_eq e.0 name) e.1 (entry_of es name) y all.0 (entry_holds es name y all.1) is

module _ (P : Binding → Type 0) where
  found_by : (o rest : Option Binding) (y : Binding) → (o ≡ Some y → P y) → (rest ≡ Some y → P y) → or_else o rest ≡ Some y → P y
  found_by None rest y f g is = g is
  found_by (Some x) rest y f g is = f is

  -- what a name stands for, in scopes all of whose names hold, and those of the device
  pub found_holds : (scopes : List Scope) (name : List ℕ) (y : Binding) → Each (λ scope. Each (λ e. P e.1) scope) scopes → (device_binding (register_named name) (bit_named name) ≡ Some y → P y) → found_in scopes name ≡ Some y → P y
  found_holds [] name y all device is = device is
  found_holds (scope ∷ scopes) name y all device is = found_by (entry_of scope name) (found_in scopes name) y (entry_holds P scope name y all.0) (found_holds scopes name y all.1 device) is

module _ {A : Type 0} (P : A → Type 0) where
  -- a name that is bound anew
  put_by : (b : Bool) (name : List ℕ) (x : A) (e : List ℕ × A) (es rest : List (List ℕ × A)) → P x → P e.1 → Each (λ e. P e.1) es → Each (λ e. P e.1) rest → Each (λ e. P e.1) (if b then (name, x) ∷ es else e ∷ rest)
  put_by true name x e es rest hx he hes hrest = (hx, hes)
  put_by false name x e es rest hx he hes hrest = (he, hrest)

  pub put_holds : (es : List (List ℕ × A)) (name : List ℕ) (x : A) → P x → Each (λ e. P e.1) es → Each (λ e. P e.1) (with_entry es name x)
  put_holds [] name x hx all = (hx, tt)
  put_holds (e ∷ es) name x hx all = put_by (bytes_eq e.0 name) name x e es (with_entry es name x) hx all.0 all.1 (put_holds es name x hx all.1)

module _ (P : Binding → Type 0) where
  pub bound_holds : (scopes : List Scope) (name : List ℕ) (x : Binding) → P x → Each (λ scope. Each (λ e. P e.1) scope) scopes → Each (λ scope. Each (λ e. P e.1) scope) (bound_in scopes name x)
  bound_holds [] name x hx all = tt
  bound_holds (scope ∷ scopes) name x hx all = (put_holds P scope name x hx all.0, all.1)

  pub inner_left : (scopes : List Scope) → Each (λ scope. Each (λ e. P e.1) scope) scopes → Each (λ scope. Each (λ e. P e.1) scope) (without_first scopes)
  inner_left [] all = tt
  inner_left (scope ∷ scopes) all = all.1

-- Binding a name changes the innermost scope alone.
pub bound_outside : (scopes : List Scope) (name : List ℕ) (x : Binding) → without_first (bound_in scopes name x) ≡ without_first scopes
bound_outside [] name x = refl
bound_outside (scope ∷ scopes) name x = refl

module _ (known : Known) (ts : List Qualified) (o : Orderly (at known ts)) where
  bit_bound : (found : Option (ℕ × ℕ)) (b : Binding) → bit_binding found ≡ Some b → IsBound (at known ts) b
  bit_bound None b is = absurd (none_is is)
  bit_bound (Some x) b is = subst (IsBound (at known ts)) (same_Some (BitName x.0 x.1) b is) tt

  device_bound : (address : Option ℕ) (bit : Option (ℕ × ℕ)) (b : Binding) → device_binding address bit ≡ Some b → IsBound (at known ts) b
  device_bound None bit b is = bit_bound bit b is
  device_bound (Some a) bit b is = subst (IsBound (at known ts)) (same_Some _ b is) (record { stands = tt; whole = refl; register = λ e. refl; static = λ n e. absurd (none_is e) })

  -- What a name stands for is bound.
  pub bound_name : (name : List ℕ) (b : Binding) → found_in known.scopes name ≡ Some b → IsBound (at known ts) b
  bound_name name b is = found_holds (IsBound (at known ts)) known.scopes name b o.scopes (device_bound (register_named name) (bit_named name) b) is
