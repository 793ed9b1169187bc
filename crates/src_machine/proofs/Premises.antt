-- What micro-steps of the code need, of a state that stands.
use Rattle.std.proofs.Common.{◌≡◌, ℕ, ◌+◌, ◌-◌, ◌<◌, ◌≤◌, ◌^◌, Bool, true, false, List, [], ◌∷◌, refl, sym, ap, ◌∙◌, arith}
use Rattle.std.proofs.lemmas.Bool.{false≢true}
use Rattle.c_typed.specs.Trees as tree
use Rattle.c_typed.specs.Trees.{Expressions, Program, VariableTree}
use Rattle.c_typed.specs.Types.{type_bytes, type_of}
use Rattle.c_typed.specs.declared.types.Ty.{Ty}
use Rattle.pic_world.specs.Roots.{same_root}
use Rattle.pic_world.specs.declared.Root.TheVariants.{Isr}
use Rattle.src_machine.specs.Passing.{FitFrom, FitCall}
use Rattle.src_machine.specs.Telling.{is_interrupted}
use Rattle.src_memory.specs.Accessed.{byte_met}
use Rattle.src_memory.specs.Shape.{IsKnown}
use Rattle.src_memory.specs.Shape as shape
use Rattle.src_rules.proofs.Memories.{byte_of_at, byte_of_stands}
use Rattle.src_rules.proofs.Stepping.{BeginWith, typed_bytes, begin_next, params_begin, first_bytes}
use Rattle.src_rules.specs.Parts.{AreArgumentsOf}
use Rattle.src_rules.specs.Standing.{IsThere, IsByte, MemoryStands, HasType, HaveTypes, WaitsForValue, CallsOf, StackStands}
use Rattle.src_rules.specs.Step.{copy_of}
use Rattle.src_values.specs.Control as control
use Rattle.src_values.specs.Control.{Focus, Passed, In}
use Rattle.src_values.specs.Data.{Datum}
use Rattle.src_values.specs.Memory.{Memory}
use Rattle.src_values.specs.Objects.{function_at, variables_of}
use Rattle.src_values.specs.Seen.{values_on, frames_behind, frames_in, unless_of_call, has_values}
use Rattle.src_values.specs.Values.{byte_of}
use Rattle.src_values.specs.declared.control.Pending.{Pending}
use Rattle.src_values.specs.declared.control.Pending.TheVariants as frames
use Rattle.src_values.specs.declared.objects.Byte.{Byte}
use Rattle.src_values.specs.declared.objects.Byte.TheVariants as bytes
use Rattle.src_values.specs.declared.objects.CopyOf.{CopyOf}
use Rattle.src_values.specs.declared.objects.Object.{Object}
use Rattle.src_values.specs.declared.objects.Object.TheVariants.{Fixed, Variable}
use Rattle.src_values.specs.declared.objects.Pointer.TheVariants.{Null, Into}
use Rattle.src_values.specs.declared.objects.Spot.{Spot}
use Rattle.src_values.specs.declared.objects.Spot.TheVariants as spots

-- ---- bytes are of objects of the program
object_there : (p : Program) (object : Object) → IsThere p object → shape.IsThere p object
object_there p (Fixed n) h = h
object_there p (Variable c n) h = h.1

pub byte_known : (p : Program) (byte : Byte) → IsByte p byte → IsKnown p byte
byte_known p bytes.Unset h = tt
byte_known p (bytes.Number n) h = tt
byte_known p (bytes.Part object offset high) h = object_there p object h.0

pub met_known : (p : Program) (m : Memory) (spot : Spot) → MemoryStands p m → IsKnown p (byte_met spot m)
met_known p m (spots.Device address) h = tt
met_known p m (spots.Bit register number) h = tt
met_known p m (spots.Memory Null) h = tt
met_known p m (spots.Memory (Into object offset)) h = byte_known p (m object offset) (byte_of_at p object offset (m object offset) (h object offset))

pub value_known : (p : Program) (ty : Ty) (v : Datum) (k : ℕ) → HasType p ty v → IsKnown p (byte_of v k)
value_known p ty v k h = byte_known p (byte_of v k) (byte_of_stands p ty v k h)

-- ---- where an expression begins, no value of an argument stands on top
pub no_value : (x : Focus) (k : List Pending) (ty : Ty) → WaitsForValue (frames_in x k) ty → values_on k ≡ []
no_value x [] ty h = refl
no_value x (frames.In e got ∷ k) ty h = refl
no_value x (frames.Value v ∷ k) ty h = absurd h
no_value x (frames.To place ∷ k) ty h = refl
no_value x (frames.Doing code stage ∷ k) ty h = refl
no_value x (frames.Before ss at ∷ k) ty h = refl
no_value x (frames.Ended ∷ k) ty h = refl
no_value x (frames.Returns copy ∷ k) ty h = refl
no_value x (frames.Resumes copy ∷ k) ty h = refl

-- ---- main's functions run above no handler
below_value : (p : Program) (c : CopyOf) (b : Bool) (k : List control.Pending) → StackStands p c (unless_of_call b k) → StackStands p c k
below_value p c true k h = h
below_value p c false k h = h.2

pub not_interrupted : (p : Program) (x : Focus) (c : CopyOf) (b : Bool) (k : List Pending) → same_root c.root Isr ≡ false → StackStands p c (frames_behind x b k) → is_interrupted k ≡ false
not_interrupted p x c b [] r h = refl
not_interrupted p x c b (frames.In e got ∷ k) r h = not_interrupted p x c (has_values got) k r h.3
not_interrupted p x c b (frames.Value v ∷ k) r h = not_interrupted p x c b k r (below_value p c b (frames_behind x b k) h)
not_interrupted p x c b (frames.To place ∷ k) r h = not_interrupted p x c false k r h.2
not_interrupted p x c b (frames.Doing code stage ∷ k) r h = not_interrupted p x c false k r h.3
not_interrupted p x c b (frames.Before ss at ∷ k) r h = not_interrupted p x c false k r h.2
not_interrupted p x c b (frames.Ended ∷ k) r h = not_interrupted p x c false k r h.2
not_interrupted p x c b (frames.Returns copy ∷ k) r h = not_interrupted p x copy false k (ap (λ q. same_root q Isr) (sym h.1) ∙ r) h.3
not_interrupted p x c b (frames.Resumes copy ∷ k) r h = absurd (false≢true (sym r ∙ ap (λ q. same_root q.root Isr) h.2.2))

-- ---- parameters have room for the values of arguments
values_fit : (p : Program) (f : ℕ) (c : CopyOf) (n : ℕ) (es : Expressions) (vs : List VariableTree) (values : List Datum) → AreArgumentsOf p f es vs → HaveTypes p es values → BeginWith (variables_of (function_at p c.function)) n vs → FitFrom p c n values
values_fit p f c n tree.NoExpression vs [] a t b = tt
values_fit p f c n tree.NoExpression vs (v ∷ values) a t b = absurd t
values_fit p f c n (tree.AndExpression e es) [] values a t b = absurd a
values_fit p f c n (tree.AndExpression e es) (q ∷ qs) [] a t b = absurd t
values_fit p f c n (tree.AndExpression e es) (q ∷ qs) (v ∷ values) a t b =
    let g = first_bytes p c n q qs b in (
      rw (g.0 ∙ ap (type_bytes p.sizes) (sym a.0.0)) (typed_bytes p (type_of e) v t.0),
      values_fit p f c (n + 1) es qs values a.2 t.1 (begin_next _ n q qs b),
    )

pub call_fits : (p : Program) (c : CopyOf) (k : List control.Pending) → StackStands p c k → CallsOf k → FitCall p c k
call_fits p c (In (tree.Call g all ty line) (Passed values) ∷ k) st n =
    let f = function_at p g in values_fit p c.function (copy_of c.root g) 0 all f.params values st.0.3 st.2 (params_begin f.params f.locals)
call_fits p c _ st n = absurd n

-- ---- the last byte of a local
pub end_small : (at end size : ℕ) → at + (end - at) ≡ size → size ≤ 65535 → end < 2 ^ 64 - 1
end_small at end size e l = omega arith
