-- The arguments of a call have the bytes that the callee's parameters have, and stand where these stand.
use Rattle.std.proofs.Common.{◌≡◌, ℕ, zero, suc, ◌+◌, ◌<◌, ◌≤◌, List, [], ◌∷◌, length, take, sym, ap, ◌∙◌, subst, arith}
use Rattle.c_typed.specs.Room.{arguments_bytes, arguments_room, room, variables_bytes}
use Rattle.c_typed.specs.Trees as tree
use Rattle.c_typed.specs.Trees.{Expression, Expressions, FunctionTree, VariableTree, Program}
use Rattle.c_typed.specs.Types.{type_bytes, type_of}
use Rattle.c_typed.specs.declared.types.Ty.{Ty}
use Rattle.core_code.specs.Bytes.{Memory}
use Rattle.core_code.specs.declared.code.Byte.TheVariants.{Frame}
use Rattle.core_puts.specs.Bytes.{beyond}
use Rattle.lower_expr.specs.Layout.{value_width}
use Rattle.lower_expr.specs.Lowering.{arguments_width}
use Rattle.src_rules.specs.Parts.{AreArgumentsOf}
use Rattle.src_rules.specs.Standing.{HaveTypes}
use Rattle.src_values.specs.Data.{Datum}
use Rattle.src_values.specs.Objects.{function_at, variables_of, variable_offset}
use Rattle.src_values.specs.declared.objects.CopyOf.{CopyOf}
use Rattle.lower_trace.proofs.Calling.{HasParameters}
use Rattle.lower_trace.proofs.CodeLeft.{Scene, ground_in, number}
use Rattle.lower_trace.proofs.Fitting.{typed_bytes, width_is}
use Rattle.lower_trace.proofs.Mirrors.{HasArguments}
use Rattle.lower_trace.proofs.Operations.{beyond_is}
use Rattle.lower_trace.proofs.Rooms.{three_parts}
use Rattle.lower_trace.proofs.Variables.{take_left}

-- ---- how many bytes
pub arguments_are : (p : Program) (f : ℕ) (es : Expressions) (params : List VariableTree) → AreArgumentsOf p f es params → arguments_bytes p.sizes es ≡ variables_bytes p.sizes params
arguments_are p f tree.NoExpression params a = sym (ap (variables_bytes p.sizes) a)
arguments_are p f (tree.AndExpression e es) [] a = absurd a
arguments_are p f (tree.AndExpression e es) (x ∷ params) a =
    let q = ap (type_bytes p.sizes) a.0.0 in
    let r = arguments_are p f es params a.2 in
    omega (arith, q, r)

pub call_bytes : (sizes : List ℕ) (g : ℕ) (arguments : Expressions) (ty : Ty) (line : ℕ) → arguments_bytes sizes arguments ≤ room sizes (tree.Call g arguments ty line)
unfolding room
call_bytes sizes g arguments ty line = (three_parts (arguments_room sizes 0 arguments) (arguments_bytes sizes arguments) (type_bytes sizes ty)).1

module _ (z : Scene) (c : CopyOf) where
  -- where the next argument stands
  next_argument : (e : Expression) (ty : Ty) (before : ℕ) → type_of e ≡ ty → before + type_bytes z.program.sizes ty ≤ 96 → beyond before (value_width (ground_in z c).layout e) ≡ before + type_bytes z.program.sizes ty
  next_argument e ty before is le =
      let q = ap (type_bytes z.program.sizes) is in
      let w = width_is z c (type_of e) (omega (arith, q, le)) in
      ap (beyond before) (w ∙ q) ∙ beyond_is before (type_bytes z.program.sizes ty) (omega (arith, le))

  pub arguments_wide : (f : ℕ) (es : Expressions) (params : List VariableTree) (before : ℕ) → AreArgumentsOf z.program f es params → before + variables_bytes z.program.sizes params ≤ 96
      → arguments_width (ground_in z c).layout before es ≡ before + variables_bytes z.program.sizes params
  arguments_wide f tree.NoExpression params before a le = let q : variables_bytes z.program.sizes params ≡ 0 = ap (variables_bytes z.program.sizes) a in omega (arith, q)
  arguments_wide f (tree.AndExpression e es) [] before a le = absurd a
  arguments_wide f (tree.AndExpression e es) (x ∷ params) before a le =
      let here = next_argument e x.ty.ty before a.0.0 (omega (arith, le)) in
      let r = arguments_wide f es params (before + type_bytes z.program.sizes x.ty.ty) a.2 (omega (arith, le)) in
      ap (λ n. arguments_width (ground_in z c).layout n es) here ∙ r ∙ (omega arith)

-- ---- where they stand
-- Variables from this number on have these offsets.
abbrev pub HaveOffsets : List ℕ → List VariableTree → ℕ → ℕ → List VariableTree → Type 0
HaveOffsets sizes all n before rest = (j : ℕ) → j < length rest → variables_bytes sizes (take (n + j) all) ≡ before + variables_bytes sizes (take j rest)

pub parameters_first : (sizes : List ℕ) (f : FunctionTree) → HaveOffsets sizes (variables_of f) 0 0 f.params
parameters_first sizes f j lt =
    let e : 0 + j ≡ j = omega arith in
    ap (λ i. variables_bytes sizes (take i (variables_of f))) e ∙ take_left sizes f.params f.locals j lt ∙ (omega arith)

offset_here : (sizes : List ℕ) (all : List VariableTree) (n before : ℕ) (x : VariableTree) (rest : List VariableTree) → HaveOffsets sizes all n before (x ∷ rest) → variables_bytes sizes (take n all) ≡ before
offset_here sizes all n before x rest h =
    let e : n ≡ n + zero = omega arith in
    ap (λ i. variables_bytes sizes (take i all)) e ∙ h zero (omega arith) ∙ (omega arith)

offsets_next : (sizes : List ℕ) (all : List VariableTree) (n before : ℕ) (x : VariableTree) (rest : List VariableTree) → HaveOffsets sizes all n before (x ∷ rest) → HaveOffsets sizes all (n + 1) (before + type_bytes sizes x.ty.ty) rest
offsets_next sizes all n before x rest h j lt =
    let e : n + 1 + j ≡ n + suc j = omega arith in
    ap (λ i. variables_bytes sizes (take i all)) e ∙ h (suc j) (omega (arith, lt)) ∙ (omega arith)

-- Where the bytes of the arguments were copied to the front of the callee's frame, each parameter has its value.
module _ (z : Scene) (c other : CopyOf) (m m' : Memory) (b count : ℕ) (room : b + count ≤ 96) (moved : (y : ℕ) → y < count → m' (Frame (number z other) y) ≡ m (Frame (ground_in z c).copy (b + y))) where
  pub parameters_have : (f : ℕ) (es : Expressions) (params : List VariableTree) (vs : List Datum) (n before : ℕ) → AreArgumentsOf z.program f es params → HaveTypes z.program es vs
      → HaveOffsets z.program.sizes (variables_of (function_at z.program other.function)) n before params → before + variables_bytes z.program.sizes params ≤ count
      → HasArguments z (ground_in z c).layout (ground_in z c).copy b before es vs m → HasParameters z other n vs m'
  parameters_have f tree.NoExpression params [] n before a t o le h = tt
  parameters_have f tree.NoExpression params (v ∷ vs) n before a t o le h = absurd t
  parameters_have f (tree.AndExpression e es) params [] n before a t o le h = absurd t
  parameters_have f (tree.AndExpression e es) [] (v ∷ vs) n before a t o le h = absurd a
  parameters_have f (tree.AndExpression e es) (x ∷ params) (v ∷ vs) n before a t o le h =
      let sizes = z.program.sizes in
      let all = variables_of (function_at z.program other.function) in
      let q = ap (type_bytes sizes) a.0.0 in
      let few = typed_bytes z.program (type_of e) v t.0 in
      let at : variable_offset z.program other.function n ≡ before = offset_here sizes all n before x params o in
      let next = next_argument z c e x.ty.ty before a.0.0 (omega (arith, le, room)) in
      let front = beyond_is b before (omega (arith, le, room)) in (
        λ i lt.
            let from : b + (before + i) ≡ beyond b before + i = omega (arith, front) in
            ap (λ y. m' (Frame (number z other) (y + i))) at ∙ moved (before + i) (omega (arith, le, lt, few, q)) ∙ ap (λ y. m (Frame (ground_in z c).copy y)) from ∙ h.0 i lt,
        parameters_have f es params vs (n + 1) (before + type_bytes sizes x.ty.ty) a.2 t.1 (offsets_next sizes all n before x params o) (omega (arith, le))
            (subst (λ y. HasArguments z (ground_in z c).layout (ground_in z c).copy b y es vs m) next h.1),
      )
