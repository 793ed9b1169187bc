-- What a node owes is at most one and a half times its stated words, and an integer has at least four words for each byte.
use Rattle.std.proofs.Common.{◌≡◌, ℕ, ◌*◌, ◌≤◌, ⊎_elim, Bool, true, false, List, [], ◌∷◌, ap, arith}
use Rattle.std.proofs.lemmas.Bool.{false≢true}
use Rattle.std.specs.Prelude.{if◌then◌else◌, nat_eq}
use Rattle.c_ints.specs.Range.{bytes_of}
use Rattle.c_ints.specs.declared.types.IntTy.{IntTy}
use Rattle.c_ints.specs.declared.types.IntTy.TheVariants as ints
use Rattle.c_typed.specs.Rules.{integer_step_fits}
use Rattle.c_typed.specs.Sameness.{is_pointer}
use Rattle.c_typed.specs.Trees as tree
use Rattle.c_typed.specs.Trees.{Expression, Expressions, Place, VariableTree, Program}
use Rattle.c_typed.specs.Types.{type_bytes, form_of}
use Rattle.c_typed.specs.Words.{words, place_words, arguments_words, read_words, computed_words}
use Rattle.c_typed.specs.declared.expression.PlaceForm.{PlaceForm}
use Rattle.c_typed.specs.declared.expression.PlaceForm.TheVariants as forms
use Rattle.c_typed.specs.declared.types.Ty.{Ty}
use Rattle.c_typed.specs.declared.types.Ty.TheVariants as types
use Rattle.src_rules.proofs.Rules.{IsStep, step_rule}
use Rattle.src_rules.specs.Parts.{IsExpressionOf, AreArgumentsOf, IsPlaceOf}
use Rattle.src_values.specs.Objects.{function_at}
use Rattle.lower_trace.proofs.Burdens.{burden, place_burden, arguments_burden}

pub int_bytes : (i : IntTy) → (1 ≤ bytes_of i) × (bytes_of i ≤ 4)
int_bytes ints.Char = (omega arith, omega arith)
int_bytes ints.SChar = (omega arith, omega arith)
int_bytes ints.UChar = (omega arith, omega arith)
int_bytes ints.Short = (omega arith, omega arith)
int_bytes ints.UShort = (omega arith, omega arith)
int_bytes ints.Int = (omega arith, omega arith)
int_bytes ints.UInt = (omega arith, omega arith)
int_bytes ints.Long = (omega arith, omega arith)
int_bytes ints.ULong = (omega arith, omega arith)

-- a step has bytes
stepped_int : (sizes : List ℕ) (ty operation : Ty) → integer_step_fits ty operation ≡ true → 1 ≤ type_bytes sizes operation
stepped_int sizes types.Void operation e = absurd (false≢true e)
stepped_int sizes (types.Int i) types.Void e = absurd (false≢true e)
stepped_int sizes (types.Int i) (types.Int j) e = (int_bytes j).0
stepped_int sizes (types.Int i) (types.Pointer row) e = absurd (false≢true e)
stepped_int sizes (types.Int i) (types.Array a m x) e = absurd (false≢true e)
stepped_int sizes (types.Int i) (types.Struct n) e = absurd (false≢true e)
stepped_int sizes (types.Pointer row) operation e = absurd (false≢true e)
stepped_int sizes (types.Array a m x) operation e = absurd (false≢true e)
stepped_int sizes (types.Struct n) operation e = absurd (false≢true e)

pointer_bytes : (sizes : List ℕ) (ty : Ty) → is_pointer ty ≡ true → 1 ≤ type_bytes sizes ty
pointer_bytes sizes types.Void e = absurd (false≢true e)
pointer_bytes sizes (types.Int i) e = absurd (false≢true e)
pointer_bytes sizes (types.Pointer row) e = omega arith
pointer_bytes sizes (types.Array a m x) e = absurd (false≢true e)
pointer_bytes sizes (types.Struct n) e = absurd (false≢true e)

step_bytes : (p : Program) (operation ty : Ty) → IsStep p operation ty → 1 ≤ type_bytes p.sizes operation
step_bytes p operation ty h = ⊎_elim (λ i. stepped_int p.sizes ty operation i) (λ q. let e = ap (type_bytes p.sizes) q.0 in let d = pointer_bytes p.sizes ty q.1 in omega arith) h

-- a read of no bytes
pub empty_by : (b : Bool) (form : PlaceForm) (n : ℕ) → (if b then computed_words form else 0) ≤ read_words form n
empty_by true forms.Fixed n = omega arith
empty_by true forms.Bit n = omega arith
empty_by true forms.Computed n = omega arith
empty_by false form n = omega arith

module _ (p : Program) (f : ℕ) where
  mutual
    unfolding burden words

    pub burden_few : (e : Expression) → IsExpressionOf p f e → 2 * burden p.sizes e ≤ 3 * words p.sizes e
    burden_few (tree.Constant value line) h = omega arith
    burden_few (tree.Read place ty line) h = let d = place_few place h.1 in let e = empty_by (nat_eq (type_bytes p.sizes ty) 0) (form_of place) (type_bytes p.sizes ty) in omega arith
    burden_few (tree.Address place ty line) h = let d = place_few place h.1 in omega arith
    burden_few (tree.Convert operand ty line) h = let d = burden_few operand h.1 in omega arith
    burden_few (tree.Cast operand ty line) h = let d = burden_few operand h.1 in omega arith
    burden_few (tree.Unary op operand ty line) h = let d = burden_few operand h.1 in omega arith
    burden_few (tree.Binary op left right ty line) h = let d = burden_few left h.1 in let e = burden_few right h.2 in omega arith
    burden_few (tree.Offset op left right size ty line) h = let d = burden_few left h.1 in let e = burden_few right h.2 in omega arith
    burden_few (tree.Difference left right size line) h = let d = burden_few left h.1 in let e = burden_few right h.2 in omega arith
    burden_few (tree.Logical op left right line) h = let d = burden_few left h.1 in let e = burden_few right h.2 in omega arith
    burden_few (tree.Conditional condition chosen otherwise ty line) h = let d = burden_few condition h.1 in omega arith
    burden_few (tree.Comma left right ty line) h = let d = burden_few left h.1 in omega arith
    burden_few (tree.Assign place value ty line) h = let d = place_few place h.1 in let e = burden_few value h.2 in omega arith
    burden_few (tree.StructAssign place from size line) h = let d = place_few place h.1 in let e = place_few from h.2 in omega arith
    burden_few (tree.Update op place value operation size ty line) h = let d = place_few place h.1 in let e = burden_few value h.2 in omega arith
    burden_few (tree.Step op place operation size ty line) h = let d = place_few place h.1 in let e = step_bytes p operation ty (step_rule p op place operation size ty line h.0).1 in omega arith
    burden_few (tree.Call g arguments ty line) h = let d = arguments_few arguments (function_at p g).params h.3 in omega arith

    pub arguments_few : (es : Expressions) (vs : List VariableTree) → AreArgumentsOf p f es vs → 2 * arguments_burden p.sizes es ≤ 3 * arguments_words p.sizes es
    arguments_few tree.NoExpression vs h = omega arith
    arguments_few (tree.AndExpression e es) [] h = absurd h
    arguments_few (tree.AndExpression e es) (v ∷ vs) h = let d = burden_few e h.1 in let i = arguments_few es vs h.2 in omega arith

    pub place_few : (place : Place) → IsPlaceOf p f place → 2 * place_burden p.sizes place ≤ 3 * place_words p.sizes place
    place_few (tree.Name object ty line) h = omega arith
    place_few (tree.Bit register number line) h = omega arith
    place_few (tree.Member whole member offset ty line) h = let d = place_few whole h.1 in omega arith
    place_few (tree.Deref pointer ty line) h = burden_few pointer h.1
