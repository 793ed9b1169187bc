-- Objects, pointers and operators are the same in both programs, and so are the copies that wait.
use Rattle.std.proofs.Common.{◌≡◌, ℕ, ◌+◌, ◌<◌, ◌⊎◌, inl, inr, Bool, true, false, List, [], ◌∷◌, length, refl, ap, ◌∙◌, ⊎_elim}
use Rattle.std.proofs.lemmas.Bool.{cases_lt}
use Rattle.std.proofs.lemmas.Option.{slice_get_past}
use Rattle.std.specs.Prelude.{ℤ, pos, ◌+ℤ◌, slice_get}
use Rattle.c_ints.specs.declared.operators.BinOp.{BinOp}
use Rattle.c_ints.specs.declared.operators.BinOp.TheVariants as ops
use Rattle.c_typed.specs.Trees.{Expression, Program, FunctionTree}
use Rattle.c_typed.specs.declared.types.Qualified.{Qualified}
use Rattle.c_typed.specs.declared.types.Ty.{Ty}
use Rattle.c_typed.specs.declared.types.Ty.TheVariants as types
use Rattle.rom_source.proofs.Links.{Link, Plain, Index, Converted, given, added_focus, asking, made, with_parts, IsMade, IsOwn}
use Rattle.rom_tables.specs.Tables.{tables_of}
use Rattle.src_rules.specs.Standing.{IsThere, IsPointer, HasType}
use Rattle.src_values.specs.Control as control
use Rattle.src_values.specs.Control.{Focus, Pending, In, To, Doing, Before, Returns, Resumes, running, callers, active, line_at, read_type}
use Rattle.src_values.specs.Data as datum
use Rattle.src_values.specs.Data.{Datum}
use Rattle.src_values.specs.Objects.{or_no_function, bytes_of_variable, variables_of, object_bytes, moved, in_range, local_of}
use Rattle.src_values.specs.Values.{equality, on_pointers, on_values, bad_right, unless_bad, binary_answer, pointer_or_outside, offset_answer, then_converted, operated, changed_by, change_answer, converted}
use Rattle.src_values.specs.declared.objects.CopyOf.{CopyOf}
use Rattle.src_values.specs.declared.objects.Object.{Object}
use Rattle.src_values.specs.declared.objects.Object.TheVariants.{Fixed, Variable}
use Rattle.src_values.specs.declared.objects.Pointer.{Pointer}
use Rattle.src_values.specs.declared.objects.Pointer.TheVariants.{Null, Into}

module _ (p : Program) (rows : List Qualified) (fs : List FunctionTree) (mk : IsMade p rows fs) where
  abbrev q : Program
  q = with_parts p rows fs

  abbrev ts : List ℕ
  ts = tables_of p

  abbrev first : ℕ
  first = length p.functions

  -- ---- objects
  pub own_bytes : (object : Object) → IsOwn p object → object_bytes q object ≡ object_bytes p object
  unfolding object_bytes
  own_bytes (Fixed n) own = refl
  own_bytes (Variable c n) own = ap (λ (f : FunctionTree). bytes_of_variable p.sizes (slice_get (variables_of f) n)) (mk.functions c.function own)

  -- an object of no function of the given program has no bytes there
  pub own_or_none : (object : Object) → IsOwn p object ⊎ (object_bytes p object ≡ 0)
  unfolding object_bytes
  own_or_none (Fixed n) = inl tt
  own_or_none (Variable c n) =
      ⊎_elim (λ l. inl l)
      (λ ge. inr (ap (λ (f : FunctionTree). bytes_of_variable p.sizes (slice_get (variables_of f) n)) (ap or_no_function (slice_get_past p.functions c.function ge))))
      (cases_lt c.function (length p.functions))

  pub there_own : (object : Object) → IsThere p object → IsOwn p object
  there_own (Fixed n) h = tt
  there_own (Variable c n) h = h.0.there

  pub there_bytes : (object : Object) → IsThere p object → object_bytes q object ≡ object_bytes p object
  there_bytes object h = own_bytes object (there_own object h)

  pub same_local : (c : CopyOf) (n : ℕ) → c.function < length p.functions → local_of q c n ≡ local_of p c n
  same_local c n l = ap (λ (f : FunctionTree). Variable c (length f.params + n)) (mk.functions c.function l)

  -- ---- pointers
  pub same_moved : (x : Pointer) (z : ℤ) → IsPointer p x → moved q x z ≡ moved p x z
  unfolding moved
  same_moved Null z h = refl
  same_moved (Into object offset) z h = ap (λ n. in_range object n (pos offset +ℤ z)) (there_bytes object h.0)

  pub same_equality : (live : List CopyOf) (turned : Bool) (x y : Pointer) → IsPointer p x → IsPointer p y → equality q live turned x y ≡ equality p live turned x y
  same_equality live turned Null Null h g = refl
  same_equality live turned Null (Into b j) h g = refl
  same_equality live turned (Into a i) Null h g = refl
  same_equality live turned (Into a i) (Into b j) h g = rw (there_bytes a h.0, there_bytes b g.0) refl

  same_on_pointers : (live : List CopyOf) (op : BinOp) (x y : Pointer) → IsPointer p x → IsPointer p y → on_pointers q live op x y ≡ on_pointers p live op x y
  same_on_pointers live ops.Eq x y h g = same_equality live false x y h g
  same_on_pointers live ops.Ne x y h g = same_equality live true x y h g
  same_on_pointers live op x y h g = refl

  -- ---- operators
  abbrev pub IsValue : Datum → Type 0
  IsValue (datum.Pointer x) = IsPointer p x
  IsValue _ = Unit {0}

  pub is_value : (ty : Ty) (v : Datum) → HasType p ty v → IsValue v
  is_value ty (datum.Number n) h = tt
  is_value ty (datum.Pointer x) h = h.1
  is_value ty datum.Missing h = tt

  same_on_values : (live : List CopyOf) (op : BinOp) (v u : Datum) → IsValue v → IsValue u → on_values q live op v u ≡ on_values p live op v u
  same_on_values live op (datum.Number a) (datum.Number b) h g = refl
  same_on_values live op (datum.Number a) (datum.Pointer y) h g = refl
  same_on_values live op (datum.Number a) datum.Missing h g = refl
  same_on_values live op (datum.Pointer x) (datum.Number b) h g = refl
  same_on_values live op (datum.Pointer x) (datum.Pointer y) h g = same_on_pointers live op x y h g
  same_on_values live op (datum.Pointer x) datum.Missing h g = refl
  same_on_values live op datum.Missing u h g = refl

  pub same_binary : (live : List CopyOf) (op : BinOp) (ty : Ty) (v u : Datum) → IsValue v → IsValue u → binary_answer q live op ty v u ≡ binary_answer p live op ty v u
  unfolding binary_answer
  same_binary live op ty v u h g = ap (unless_bad (bad_right op ty u)) (same_on_values live op v u h g)

  pub same_offset : (op : BinOp) (size : ℕ) (v u : Datum) → IsValue v → IsValue u → offset_answer q op size v u ≡ offset_answer p op size v u
  unfolding offset_answer
  same_offset op size (datum.Pointer x) (datum.Number n) h g = ap pointer_or_outside (same_moved x _ h)
  same_offset op size (datum.Number n) (datum.Pointer x) h g = ap pointer_or_outside (same_moved x _ g)
  same_offset op size (datum.Number n) (datum.Number m) h g = refl
  same_offset op size (datum.Number n) datum.Missing h g = refl
  same_offset op size (datum.Pointer x) (datum.Pointer y) h g = refl
  same_offset op size (datum.Pointer x) datum.Missing h g = refl
  same_offset op size datum.Missing u h g = refl

  same_operated : (live : List CopyOf) (op : BinOp) (ty to : Ty) (old u : Datum) → IsValue old → IsValue u → operated q live op ty (converted to old) u ≡ operated p live op ty (converted to old) u
  unfolding converted
  same_operated live op ty types.Void old u h g = same_binary live op ty datum.Missing u tt g
  same_operated live op ty (types.Int t) (datum.Number n) u h g = same_binary live op ty _ u tt g
  same_operated live op ty (types.Int t) (datum.Pointer x) u h g = refl
  same_operated live op ty (types.Int t) datum.Missing u h g = refl
  same_operated live op ty (types.Pointer row) (datum.Number n) u h g = same_binary live op ty _ u tt g
  same_operated live op ty (types.Pointer row) (datum.Pointer x) u h g = same_binary live op ty _ u h g
  same_operated live op ty (types.Pointer row) datum.Missing u h g = refl
  same_operated live op ty (types.Array a b c) old u h g = refl
  same_operated live op ty (types.Struct n) old u h g = refl

  same_changed : (live : List CopyOf) (op : BinOp) (operation : Ty) (size : ℕ) (old u : Datum) → IsValue old → IsValue u → changed_by q live op size operation old u ≡ changed_by p live op size operation old u
  same_changed live op (types.Pointer row) size old u h g = same_offset op size old u h g
  same_changed live op types.Void size old u h g = same_operated live op types.Void types.Void old u h g
  same_changed live op (types.Int t) size old u h g = same_operated live op (types.Int t) (types.Int t) old u h g
  same_changed live op (types.Array a b c) size old u h g = same_operated live op (types.Array a b c) (types.Array a b c) old u h g
  same_changed live op (types.Struct n) size old u h g = same_operated live op (types.Struct n) (types.Struct n) old u h g

  pub same_change : (live : List CopyOf) (op : BinOp) (operation : Ty) (size : ℕ) (ty : Ty) (old u : Datum) → IsValue old → IsValue u → change_answer q live op operation size ty old u ≡ change_answer p live op operation size ty old u
  unfolding change_answer
  same_change live op operation size ty old u h g = ap (then_converted ty) (same_changed live op operation size old u h g)

-- ---- what waits
module _ (ts : List ℕ) (first : ℕ) where
  same_running : (c : CopyOf) (x : Focus) (more : List CopyOf) → running c (added_focus ts first x) more ≡ running c x more
  same_running c control.Over more = refl
  same_running c x more = refl

  asking_callers : (b : Bool) (e : Expression) (line : ℕ) (call : Expression) (k : List Pending) → callers (asking ts first b e line call k) ≡ callers k
  asking_callers true e line call k = refl
  asking_callers false e line call k = refl

  pub same_callers : (ls : List Link) → callers (made ts first ls) ≡ callers (given ls)
  unfolding given made
  same_callers [] = refl
  same_callers (Plain (In e got) ∷ ls) = same_callers ls
  same_callers (Plain (To place) ∷ ls) = same_callers ls
  same_callers (Plain (Doing t stage) ∷ ls) = same_callers ls
  same_callers (Plain (Before ss) ∷ ls) = same_callers ls
  same_callers (Plain (Returns c) ∷ ls) = ap (λ l. c ∷ l) (same_callers ls)
  same_callers (Plain (Resumes c x) ∷ ls) = same_running c x _ ∙ ap (running c x) (same_callers ls)
  same_callers (Index side r ∷ ls) = asking_callers _ _ _ _ (made ts first ls) ∙ same_callers ls
  same_callers (Converted side r e ty at ∷ ls) = asking_callers _ _ _ _ (made ts first ls) ∙ same_callers ls

  pub same_active : (c : CopyOf) (x y : Focus) (ls : List Link) → y ≡ added_focus ts first x → active c y (made ts first ls) ≡ active c x (given ls)
  unfolding active
  same_active c x y ls is = ap (λ z. running c z (callers (made ts first ls))) is ∙ same_running c x _ ∙ ap (running c x) (same_callers ls)
