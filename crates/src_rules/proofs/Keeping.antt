-- What it takes that a step comes to a state that stands; and how expressions and places begin.
use Rattle.std.proofs.Common.{◌≡◌, ℕ, Bool, true, false, List, [], ◌∷◌, ◌++◌, refl, sym, ap, subst}
use Rattle.std.proofs.lemmas.Bool.{false≢true}
use Rattle.c_typed.specs.Trees as tree
use Rattle.c_typed.specs.Trees.{Expression, Expressions, Place, Program, VariableTree}
use Rattle.c_typed.specs.Types.{type_of}
use Rattle.c_typed.specs.declared.types.Ty.{Ty}
use Rattle.c_typed.specs.declared.types.Ty.TheVariants as types
use Rattle.pic_world.specs.Roots.{same_root}
use Rattle.pic_world.specs.World.{World}
use Rattle.pic_world.specs.declared.Root.TheVariants.{Isr}
use Rattle.src_rules.specs.Expressions.{eval, find, arguments}
use Rattle.src_rules.specs.Parts.{IsExpressionOf, IsPlaceOf, AreArgumentsOf}
use Rattle.src_rules.specs.Standing.{IsReached, MemoryStands, HasType, WaitsForValue, WaitsForPlace, IsSplit, IsArgumentType, HaveTypes, FocusStands, StackStands, ControlStands, Stands}
pub use Rattle.src_rules.specs.Standing.{Keeps}
use Rattle.src_rules.specs.State.{state}
use Rattle.src_values.specs.Memory.{Setting, Memory}
use Rattle.src_values.specs.Control.{Focus, Pending}
use Rattle.src_values.specs.Data.{Datum}
use Rattle.src_values.specs.Objects.{function_at}
use Rattle.src_values.specs.declared.objects.Byte.{Byte}
use Rattle.src_values.specs.declared.objects.CopyOf.{CopyOf}

-- what a state has beside its focus and its stack
pub record Around (p : Program) (c : CopyOf) (m : Memory) (w : World Byte) : Type 0 where
  pub reached : IsReached p c
  pub memory : MemoryStands p m
  pub control : ControlStands w.control
  pub inside : w.inside ≡ same_root c.root Isr

pub on : {p : Program} {c : CopyOf} {x : Focus} {k : List Pending} {m : Memory} {w : World Byte} → Around p c m w → FocusStands p c x k → StackStands p c k → Stands p (state c x k m w)
on a f s = record { reached = a.reached; focus = f; stack = s; memory = a.memory; control = a.control; inside = a.inside }

-- ---- arguments
-- these values are those of the first arguments, and then come those that are left
abbrev pub AreBehind : Program → Expressions → List Datum → Expressions → Type 0
AreBehind p tree.NoExpression [] more = more ≡ tree.NoExpression
AreBehind p tree.NoExpression (v ∷ vs) more = ⊥
AreBehind p (tree.AndExpression e es) [] more = more ≡ tree.AndExpression e es
AreBehind p (tree.AndExpression e es) (v ∷ vs) more = HasType p (type_of e) v × AreBehind p es vs more

behind_none : (p : Program) (all : Expressions) → AreBehind p all [] all
behind_none p tree.NoExpression = refl
behind_none p (tree.AndExpression e es) = refl

abbrev is_none_left : Expressions → Bool
is_none_left tree.NoExpression = true
is_none_left (tree.AndExpression e es) = false

abbrev head_of : Expression → Expressions → Expression
head_of other tree.NoExpression = other
head_of other (tree.AndExpression e es) = e

abbrev tail_of : Expressions → Expressions
tail_of tree.NoExpression = tree.NoExpression
tail_of (tree.AndExpression e es) = es

behind_all : (p : Program) (all : Expressions) (values : List Datum) → AreBehind p all values tree.NoExpression → HaveTypes p all values
behind_all p tree.NoExpression [] h = tt
behind_all p tree.NoExpression (v ∷ vs) h = absurd h
behind_all p (tree.AndExpression e es) [] h = absurd (false≢true (sym (ap is_none_left h)))
behind_all p (tree.AndExpression e es) (v ∷ vs) h = (h.0, behind_all p es vs h.1)

behind_next : (p : Program) (all : Expressions) (values : List Datum) (e : Expression) (more : Expressions) → AreBehind p all values (tree.AndExpression e more) → IsSplit p all values more × IsArgumentType all values (type_of e)
behind_next p tree.NoExpression [] e more h = absurd (false≢true (ap is_none_left h))
behind_next p tree.NoExpression (v ∷ vs) e more h = absurd h
behind_next p (tree.AndExpression a rest) [] e more h = (sym (ap tail_of h), ap type_of (ap (head_of e) h))
behind_next p (tree.AndExpression a rest) (v ∷ vs) e more h = let i = behind_next p rest vs e more h.1 in ((h.0, i.0), i.1)

behind_part : (p : Program) (f : ℕ) (all : Expressions) (params : List VariableTree) (values : List Datum) (e : Expression) (more : Expressions) → AreArgumentsOf p f all params → AreBehind p all values (tree.AndExpression e more) → IsExpressionOf p f e
behind_part p f tree.NoExpression params [] e more g h = absurd (false≢true (ap is_none_left h))
behind_part p f tree.NoExpression params (v ∷ vs) e more g h = absurd h
behind_part p f (tree.AndExpression a rest) [] values e more g h = absurd g
behind_part p f (tree.AndExpression a rest) (q ∷ qs) [] e more g h = subst (IsExpressionOf p f) (sym (ap (head_of e) h)) g.1
behind_part p f (tree.AndExpression a rest) (q ∷ qs) (v ∷ vs) e more g h = behind_part p f rest qs vs e more g.2 h.1

-- the argument that was under way has its value
pub split_behind : (p : Program) (all : Expressions) (before : List Datum) (v : Datum) (ty : Ty) (more : Expressions) → IsSplit p all before more → IsArgumentType all before ty → HasType p ty v → AreBehind p all (before ++ v ∷ []) more
split_behind p tree.NoExpression before v ty more s t h = absurd s
split_behind p (tree.AndExpression e es) [] v ty more s t h = (subst (λ ty. HasType p ty v) t h, subst (λ z. AreBehind p es [] z) s (behind_none p es))
split_behind p (tree.AndExpression e es) (u ∷ us) v ty more s t h = (s.0, split_behind p es us v ty more s.1 t h)

pub arguments_keep : (p : Program) (g : ℕ) (all : Expressions) (ty : Ty) (line : ℕ) (values : List Datum) (more : Expressions) (k : List Pending) (c : CopyOf) (m : Memory) (w : World Byte)
    → Around p c m w → IsExpressionOf p c.function (tree.Call g all ty line) → WaitsForValue k ty → StackStands p c k → AreBehind p all values more
    → Keeps p (arguments (tree.Call g all ty line) values more k c m w)
arguments_keep p g all ty line values tree.NoExpression k c m w a e h st r = on a tt (e, h, behind_all p all values r, st)
arguments_keep p g all ty line values (tree.AndExpression x more) k c m w a e h st r =
    let n = behind_next p all values x more r in on a (behind_part p c.function all (function_at p g).params values x more e.3 r, n.1) (e, h, n.0, st)

-- ---- expressions and places begin
module _ (p : Program) where
  pub eval_keeps : (e : Expression) (k : List Pending) (c : CopyOf) (m : Memory) (w : World Byte) → Around p c m w → IsExpressionOf p c.function e → WaitsForValue k (type_of e) → StackStands p c k → Keeps p (eval e k c m w)
  eval_keeps (tree.Constant value line) k c m w a e h st = on a (types.Int value.ty, h, (refl, e)) st
  eval_keeps (tree.Read place ty line) k c m w a e h st = on a (e.1, refl) (e, h, tt, st)
  eval_keeps (tree.Address place ty line) k c m w a e h st = on a (e.1, refl) (e, h, tt, st)
  eval_keeps (tree.Convert operand ty line) k c m w a e h st = on a (e.1, refl) (e, h, tt, st)
  eval_keeps (tree.Cast operand ty line) k c m w a e h st = on a (e.1, refl) (e, h, tt, st)
  eval_keeps (tree.Unary op operand ty line) k c m w a e h st = on a (e.1, refl) (e, h, tt, st)
  eval_keeps (tree.Binary op left right ty line) k c m w a e h st = on a (e.1, refl) (e, h, tt, st)
  eval_keeps (tree.Offset op left right size ty line) k c m w a e h st = on a (e.1, refl) (e, h, tt, st)
  eval_keeps (tree.Difference left right size line) k c m w a e h st = on a (e.1, refl) (e, h, tt, st)
  eval_keeps (tree.Logical op left right line) k c m w a e h st = on a (e.1, refl) (e, h, tt, st)
  eval_keeps (tree.Conditional condition chosen otherwise ty line) k c m w a e h st = on a (e.1, refl) (e, h, tt, st)
  eval_keeps (tree.Comma left right ty line) k c m w a e h st = on a (e.1, refl) (e, h, tt, st)
  eval_keeps (tree.Assign place value ty line) k c m w a e h st = on a (e.1, refl) (e, h, tt, st)
  eval_keeps (tree.StructAssign place from size line) k c m w a e h st = on a (e.1, refl) (e, h, tt, st)
  eval_keeps (tree.Update op place value operation size ty line) k c m w a e h st = on a (e.1, refl) (e, h, tt, st)
  eval_keeps (tree.Step op place operation size ty line) k c m w a e h st = on a (e.1, refl) (e, h, tt, st)
  eval_keeps (tree.Call g all ty line) k c m w a e h st = arguments_keep p g all ty line [] all k c m w a e h st (behind_none p all)

pub find_keeps : (s : Setting) (place : Place) (k : List Pending) (c : CopyOf) (m : Memory) (w : World Byte) → Around s.program c m w → IsPlaceOf s.program c.function place → WaitsForPlace k place → StackStands s.program c k → Keeps s.program (find s place k c m w)
find_keeps s (tree.Name object ty line) k c m w a e h st = on a (tree.Name object ty line, h, refl) st
find_keeps s (tree.Bit register number line) k c m w a e h st = on a (tree.Bit register number line, h, refl) st
find_keeps s (tree.Member whole member offset ty line) k c m w a e h st = on a (e.1, refl) (e, h, st)
find_keeps s (tree.Deref pointer ty line) k c m w a e h st = on a (e.1, refl) (e, h, st)
