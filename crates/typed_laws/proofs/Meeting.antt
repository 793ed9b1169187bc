-- What may be assigned, and complete types, in each program that begins with the tables.
use Rattle.std.proofs.Common.{◌≡◌, ℕ, Bool, true, false, not, ◌&&◌, ◌||◌, if◌then◌else◌, List, [], ◌∷◌, map, Some, None, is_some, refl, sym, ap, ap₂, ◌∙◌, true≢false}
use Rattle.std.specs.Prelude.{slice_get}
use Rattle.std.proofs.lemmas.Bool.{and_parts, or_left, or_right, false≢true}
use Rattle.c_typed.specs.Fits.{source, keeps_from, source_of, is_converted, is_null, fits, rule_holds, Used}
use Rattle.c_typed.specs.Rules.{may_meet, keeps}
use Rattle.c_typed.specs.Sameness.{same_type, is_void, is_int, is_pointer, is_scalar, pointed, is_some_member, members_in}
use Rattle.c_typed.specs.Sameness.{is_complete as is_whole}
use Rattle.c_typed.specs.Sound.{value_fits}
use Rattle.c_typed.specs.Trees as tree
use Rattle.c_typed.specs.Trees.{Expression, FunctionTree, Program, StructureTree}
use Rattle.c_typed.specs.Types.{type_of, type_bytes}
use Rattle.c_typed.specs.declared.types.Qualified.{Qualified}
use Rattle.c_typed.specs.declared.types.Ty.{Ty}
use Rattle.c_typed.specs.declared.types.Ty.TheVariants.{Void, Int, Pointer, Array, Struct}
use Rattle.type_rules.specs.Conversions.{converted, may_become, may_be_assigned}
use Rattle.type_rules.specs.Known.{Field, Shape, Known}
use Rattle.type_rules.specs.Rows.{or_void, target_of, bytes_of, is_complete, progress_in, is_closed}
use Rattle.type_rules.specs.Terms.{Operand}
use Rattle.type_rules.specs.Units.{member_tree}
use Rattle.typed_laws.specs.Meets.{Meets, Becomes}
use Rattle.typed_laws.specs.Tables.{Stands, HasSome, Orderly, Begins}
use Rattle.typed_laws.proofs.Lists.{numbered_at}
use Rattle.typed_laws.proofs.Same.{same_type_is, same_type_refl}

pub or_second : (a b c : Bool) → b ≡ true → (a || (b || c)) ≡ true
or_second a b c h = or_right a (b || c) (or_left b c h)

pub or_third : (a b c : Bool) → c ≡ true → (a || (b || c)) ≡ true
or_third a b c h = or_right a (b || c) (or_right b c h)

-- a row that is there
pub target_is : (known : Known) (row : ℕ) (q : Qualified) → slice_get known.targets row ≡ Some q → target_of known row ≡ q
target_is known row q h = ap or_void h

module _ (p : Program) where
  pub meets_as_null : (from : Ty) (row : ℕ) (q : Qualified) → slice_get p.targets row ≡ Some q → Meets p true from (Pointer row)
  meets_as_null from row q there = or_second (is_int from && false) (is_some (slice_get p.targets row)) (may_meet (pointed p from) (slice_get p.targets row)) (ap is_some there)

  pub meets_by : (null : Bool) (row0 row : ℕ) (q0 q : Qualified) → slice_get p.targets row0 ≡ Some q0 → slice_get p.targets row ≡ Some q
      → (same_type q0.ty q.ty || (is_void q0.ty || is_void q.ty)) ≡ true → Meets p null (Pointer row0) (Pointer row)
  meets_by null row0 row q0 q a b h = or_right (null && is_some (slice_get p.targets row)) (may_meet (slice_get p.targets row0) (slice_get p.targets row)) (ap₂ may_meet a b ∙ h)

  pub meets_itself : (null : Bool) (row : ℕ) (q : Qualified) → slice_get p.targets row ≡ Some q → Meets p null (Pointer row) (Pointer row)
  meets_itself null row q there = meets_by null row row q q there there (or_left (same_type q.ty q.ty) (is_void q.ty || is_void q.ty) (same_type_refl q.ty))

  becomes_null : (from : Ty) (row : ℕ) (q : Qualified) → slice_get p.targets row ≡ Some q → Becomes p true from (Pointer row)
  becomes_null from row q there = record { meets = meets_as_null from row q there; scalar = refl; keeps = refl }

  keeps_both : (null : Bool) (row0 row : ℕ) (q0 q : Qualified) → slice_get p.targets row0 ≡ Some q0 → slice_get p.targets row ≡ Some q
      → keeps (Some q0) (Some q) ≡ true → keeps_from p (source null (Pointer row0)) (Pointer row) ≡ true
  keeps_both true row0 row q0 q a b h = refl
  keeps_both false row0 row q0 q a b h = ap₂ keeps a b ∙ h

  becomes_like : (null : Bool) (row0 row : ℕ) (q0 q : Qualified) → slice_get p.targets row0 ≡ Some q0 → slice_get p.targets row ≡ Some q
      → may_become q0 q ≡ true → Becomes p null (Pointer row0) (Pointer row)
  becomes_like null row0 row q0 q a b e =
      let h = and_parts (same_type q0.ty q.ty || (is_void q0.ty || is_void q.ty)) ((not q0.constant || q.constant) && (not q0.volatile || q.volatile)) e in
      record { meets = meets_by null row0 row q0 q a b h.0; scalar = refl; keeps = keeps_both null row0 row q0 q a b h.1 }

  keeps_int : (null : Bool) (from to : Ty) → is_pointer to ≡ false → keeps_from p (source null from) to ≡ true
  keeps_int true from to e = refl
  keeps_int false from to e = rw e refl

module _ (known : Known) (p : Program) (begins : Begins known p) where
  to_pointer : (zero null : Bool) → (zero ≡ true → null ≡ true) → (row0 row : ℕ) (q0 q : Qualified) → slice_get known.targets row0 ≡ Some q0 → slice_get known.targets row ≡ Some q
      → (zero || may_become (target_of known row0) (target_of known row)) ≡ true → Becomes p null (Pointer row0) (Pointer row)
  to_pointer true true zeros row0 row q0 q a b h = becomes_null p (Pointer row0) row q (begins.rows row q b)
  to_pointer true false zeros row0 row q0 q a b h = absurd (false≢true (zeros refl))
  to_pointer false null zeros row0 row q0 q a b h =
      becomes_like p null row0 row q0 q (begins.rows row0 q0 a) (begins.rows row q b) (ap₂ may_become (sym (target_is known row0 q0 a)) (sym (target_is known row q b)) ∙ h)

  from_null : (zero null : Bool) → (zero ≡ true → null ≡ true) → (from : Ty) (row : ℕ) (q : Qualified) → slice_get known.targets row ≡ Some q → zero ≡ true → Becomes p null from (Pointer row)
  from_null zero true zeros from row q b h = becomes_null p from row q (begins.rows row q b)
  from_null zero false zeros from row q b h = absurd (false≢true (zeros h))

  -- What the rules let be assigned may be.
  pub assigned_becomes : (from to : Ty) (zero null : Bool) → (zero ≡ true → null ≡ true) → Stands known from → Stands known to
      → may_be_assigned known (record { ty = from; null = zero }) to ≡ true → Becomes p null from to
  assigned_becomes from Void zero null zeros a b h = absurd (false≢true h)
  assigned_becomes Void (Int ty) zero null zeros a b h = absurd (false≢true h)
  assigned_becomes (Int from) (Int ty) zero null zeros a b h = record { meets = refl; scalar = refl; keeps = keeps_int p null (Int from) (Int ty) refl }
  assigned_becomes (Pointer from) (Int ty) zero null zeros a b h = absurd (false≢true h)
  assigned_becomes (Array from m x) (Int ty) zero null zeros a b h = absurd (false≢true h)
  assigned_becomes (Struct from) (Int ty) zero null zeros a b h = absurd (false≢true h)
  assigned_becomes Void (Pointer row) zero null zeros a b h = from_null zero null zeros Void row b.0 b.1 h
  assigned_becomes (Int from) (Pointer row) zero null zeros a b h = from_null zero null zeros (Int from) row b.0 b.1 h
  assigned_becomes (Pointer from) (Pointer row) zero null zeros a b h = to_pointer zero null zeros from row a.0 b.0 a.1 b.1 h
  assigned_becomes (Array from m x) (Pointer row) zero null zeros a b h = from_null zero null zeros (Array from m x) row b.0 b.1 h
  assigned_becomes (Struct from) (Pointer row) zero null zeros a b h = from_null zero null zeros (Struct from) row b.0 b.1 h
  assigned_becomes from (Array row count size) zero null zeros a b h = absurd (false≢true h)
  assigned_becomes from (Struct number) zero null zeros a b h = absurd (false≢true h)

  -- ---- complete types

  has_member : (fields : List (List ℕ × Field)) (size : ℕ) → HasSome fields size → is_some_member (map member_tree fields) ≡ true
  has_member [] size h = absurd h
  has_member (m ∷ ms) size h = refl

  pub whole_in : Orderly known → (ty : Ty) → Stands known ty → is_complete known ty ≡ true → (is_whole p ty ≡ true) × (type_bytes p.sizes ty ≡ bytes_of known ty)
  whole_in o Void stands h = absurd (false≢true h)
  whole_in o (Int ty) stands h = (refl, refl)
  whole_in o (Pointer row) stands h = (refl, refl)
  whole_in o (Array row count size) stands h = (h, refl)
  whole_in o (Struct number) stands h =
      let s : Shape = stands.0 in
      let ended = ap (λ x. is_closed (progress_in x)) (sym stands.1) ∙ h in
      let both = begins.closed number s stands.1 ended in
      (ap (λ x. is_some_member (members_in x)) both.0 ∙ has_member s.fields s.size ((o.shapes number s stands.1).some ended), both.1 ∙ sym (numbered_at (λ x. x.size) known.shapes number s stands.1))

-- ---- a value in another type

pub source_none : (e : Expression) → is_converted e ≡ false → source_of e ≡ None
unfolding is_converted source_of
source_none (tree.Constant value line) h = refl
source_none (tree.Read place ty line) h = refl
source_none (tree.Address place ty line) h = refl
source_none (tree.Convert operand ty line) h = absurd (true≢false h)
source_none (tree.Cast operand ty line) h = refl
source_none (tree.Unary op operand ty line) h = refl
source_none (tree.Binary op left right ty line) h = refl
source_none (tree.Offset op left right size ty line) h = refl
source_none (tree.Difference left right size line) h = refl
source_none (tree.Logical op left right line) h = refl
source_none (tree.Conditional condition chosen otherwise ty line) h = refl
source_none (tree.Comma left right ty line) h = refl
source_none (tree.Assign place value ty line) h = refl
source_none (tree.StructAssign place from size line) h = refl
source_none (tree.Update op place value operation size ty line) h = refl
source_none (tree.Step op place operation size ty line) h = refl
source_none (tree.Call function arguments ty line) h = refl

type_by : (b : Bool) (v : Expression) (ty : Ty) (line : ℕ) → same_type (type_of v) ty ≡ b → type_of (if b then v else tree.Convert v ty line) ≡ ty
type_by true v ty line e = same_type_is (type_of v) ty e
type_by false v ty line e = refl

pub converted_type : (x : Operand) (ty : Ty) → type_of (converted x ty) ≡ ty
converted_type x ty = type_by (same_type (type_of x.value) ty) x.value ty x.line refl

convert_joined : (a b c d : Bool) → a ≡ false → b ≡ false → c ≡ true → d ≡ true → ((not a && (not b && c)) && d) ≡ true
convert_joined a b c d ea eb ec ed = rw (ea, eb, ec, ed) refl

module _ (p : Program) (f : FunctionTree) where
  fits_by : (b : Bool) (v : Expression) (ty : Ty) (line : ℕ) → same_type (type_of v) ty ≡ b → is_converted v ≡ false → Meets p (is_null v) (type_of v) ty → fits p f Used v ≡ true
      → fits p f Used (if b then v else tree.Convert v ty line) ≡ true
  unfolding fits rule_holds
  fits_by true v ty line e plain meets fitting = fitting
  fits_by false v ty line e plain meets fitting =
      convert_joined (is_converted v) (same_type (type_of v) ty) ((is_int (type_of v) && is_int ty) || ((is_null v && is_some (pointed p ty)) || may_meet (pointed p (type_of v)) (pointed p ty))) (fits p f Used v) plain e meets fitting

  pub converted_fits : (x : Operand) (ty : Ty) → is_converted x.value ≡ false → Meets p (is_null x.value) (type_of x.value) ty → fits p f Used x.value ≡ true → fits p f Used (converted x ty) ≡ true
  converted_fits x ty plain meets fitting = fits_by (same_type (type_of x.value) ty) x.value ty x.line refl plain meets fitting

  keeps_by : (b : Bool) (v : Expression) (ty : Ty) (line : ℕ) → is_converted v ≡ false → keeps_from p (source (is_null v) (type_of v)) ty ≡ true → keeps_from p (source_of (if b then v else tree.Convert v ty line)) ty ≡ true
  unfolding source_of
  keeps_by true v ty line plain kept = ap (λ s. keeps_from p s ty) (source_none v plain)
  keeps_by false v ty line plain kept = kept

  value_joined : (a b c d : Bool) → a ≡ true → b ≡ true → c ≡ true → d ≡ true → ((a && (b && c)) && d) ≡ true
  value_joined a b c d ea eb ec ed = rw (ea, eb, ec, ed) refl

  pub value_goes : (e : Expression) (ty : Ty) → type_of e ≡ ty → is_scalar ty ≡ true → keeps_from p (source_of e) ty ≡ true → fits p f Used e ≡ true → value_fits p f ty e ≡ true
  value_goes e ty is scalar kept fitting = value_joined (is_scalar ty) (same_type (type_of e) ty) (keeps_from p (source_of e) ty) (fits p f Used e) scalar (ap (λ t. same_type t ty) is ∙ same_type_refl ty) kept fitting

  pub becomes_fits : (x : Operand) (ty : Ty) → is_converted x.value ≡ false → Becomes p (is_null x.value) (type_of x.value) ty → fits p f Used x.value ≡ true → value_fits p f ty (converted x ty) ≡ true
  becomes_fits x ty plain b fitting =
      value_goes (converted x ty) ty (converted_type x ty) b.scalar (keeps_by (same_type (type_of x.value) ty) x.value ty x.line plain b.keeps) (converted_fits x ty plain b.meets fitting)
