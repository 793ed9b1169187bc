-- What a step of each program costs.
use Rattle.std.proofs.Common.{◌≡◌, ℕ, zero, suc, ◌+◌, ◌≤◌, Bool, true, false, ◌&&◌, ◌||◌, if◌then◌else◌, List, [], ◌∷◌, Option, refl, sym, ap, arith}
use Rattle.c_ints.specs.Operators.{compares}
use Rattle.c_ints.specs.Range.{bytes_of}
use Rattle.c_ints.specs.declared.operators.BinOp.{BinOp}
use Rattle.c_ints.specs.declared.operators.BinOp.TheVariants as ops
use Rattle.c_ints.specs.declared.types.IntTy.{IntTy}
use Rattle.pic_world.specs.World.{Outside, arrived, is_due}
use Rattle.core_code.specs.Cost.{load_cost, binary_cost, cost_of, restoring, leaving, task_most, step_most, least_leave, least_of, least_task, step_least, context_cost}
use Rattle.core_code.specs.Operands.{number_left}
use Rattle.core_code.specs.Tree as tree
use Rattle.core_code.specs.Tree.{Tree}
use Rattle.narrow_code.specs.Marks.{Marks}
use Rattle.narrow_code.specs.Plans as plans
use Rattle.narrow_code.specs.Plans.{Plan, low_op, given, made, Narrowing, given_program, made_program, given_setting, made_setting}
use Rattle.narrow_code.specs.Right.{is_low, are_low_alone, Ends, Fits}
use Rattle.narrow_code.proofs.Memory.{never}
use Rattle.narrow_code.proofs.Relation.{Job, ToDo, ToPut, ToPutBit, ToPutBack, ToJoin, ToLoad, ToStore, ToRead, ToEnd, Hold, HoldLoop, HoldCall, HoldHandler, ones, others, one_stack, other_stack, loops_of, SameCounts, Runs, State, first_machine, second_machine, Stays}
use Rattle.narrow_code.proofs.Values.{width_suc}

-- an operation that stays
cost_same : (before with : List Tree) (t : Tree) → SameCounts before with → cost_of with t ≡ cost_of before t
unfolding cost_of
cost_same before with (tree.Binary op ty to a b) same = ap (λ (n : Option ℕ). binary_cost op n (bytes_of ty)) (sym (same b))
cost_same before with (tree.Set to value) same = refl
cost_same before with (tree.Address to place) same = refl
cost_same before with (tree.Copy to from) same = refl
cost_same before with (tree.Load to pointer count) same = refl
cost_same before with (tree.Store pointer from count) same = refl
cost_same before with (tree.Unary op ty at) same = refl
cost_same before with (tree.Convert from to at) same = refl
cost_same before with (tree.BitRead to register number) same = refl
cost_same before with (tree.BitWrite register number from) same = refl
cost_same before with (tree.Call d) same = refl
cost_same before with tree.Leave same = refl
cost_same before with (tree.Many ts) same = refl
cost_same before with (tree.If test size first second) same = refl
cost_same before with (tree.Loop body) same = refl
cost_same before with (tree.Exit n) same = refl
cost_same before with (tree.Again n) same = refl

restoring_same : (s : List Hold) → restoring (other_stack s) ≡ restoring (one_stack s)
restoring_same [] = refl
restoring_same (HoldLoop front behind body js ∷ s) = restoring_same s
restoring_same (HoldCall p js ∷ s) = refl
restoring_same (HoldHandler p a js ∷ s) = refl

leave_same : (s : List Hold) → least_leave (other_stack s) ≡ least_leave (one_stack s)
leave_same [] = refl
leave_same (HoldLoop front behind body js ∷ s) = leave_same s
leave_same (HoldCall p js ∷ s) = refl
leave_same (HoldHandler p a js ∷ s) = refl

leaving_same : (t : Tree) (s : List Hold) → leaving t (other_stack s) ≡ leaving t (one_stack s)
leaving_same tree.Leave s = restoring_same s
leaving_same _ s = refl

-- one that is narrowed
narrow_less : (op : BinOp) (one other : Option ℕ) (w : ℕ) (small : Bool) → (is_low op || (compares op && small)) ≡ true → 1 ≤ w → binary_cost (low_op op) other 1 ≤ binary_cost op one w
narrow_less ops.Add one other w small e h = omega arith
narrow_less ops.Sub one other w small e h = omega arith
narrow_less ops.And one other w small e h = omega arith
narrow_less ops.Or one other w small e h = omega arith
narrow_less ops.Xor one other w small e h = omega arith
narrow_less ops.Eq one other w small e h = omega arith
narrow_less ops.Ne one other w small e h = omega arith
narrow_less ops.Lt one other w small e h = omega arith
narrow_less ops.Gt one other w small e h = omega arith
narrow_less ops.Le one other w small e h = omega arith
narrow_less ops.Ge one other w small e h = omega arith
narrow_less _ one other w small e h = never e

pub width_positive : (ty : IntTy) → 1 ≤ bytes_of ty
width_positive ty = let w = width_suc ty in let is = w.1 in omega arith

stays_most : (before with : List Tree) (t : Tree) (s : List Hold) → SameCounts before with → cost_of with t + leaving t (other_stack s) ≤ cost_of before t + leaving t (one_stack s)
stays_most before with t s same = let e = cost_same before with t same in let f = leaving_same t s in omega (arith, e, f)

module _ (x : Narrowing) where
  least_same : (t : Tree) (s : List Hold) → least_of (made_program x) t (other_stack s) ≡ least_of (given_program x) t (one_stack s)
  least_same tree.Leave s = leave_same s
  least_same (tree.Binary op ty to a b) s = refl
  least_same (tree.Set to value) s = refl
  least_same (tree.Address to place) s = refl
  least_same (tree.Copy to from) s = refl
  least_same (tree.Load to pointer count) s = refl
  least_same (tree.Store pointer from count) s = refl
  least_same (tree.Unary op ty at) s = refl
  least_same (tree.Convert from to at) s = refl
  least_same (tree.BitRead to register number) s = refl
  least_same (tree.BitWrite register number from) s = refl
  least_same (tree.Call d) s = refl
  least_same (tree.Many ts) s = refl
  least_same (tree.If test size first second) s = refl
  least_same (tree.Loop body) s = refl
  least_same (tree.Exit n) s = refl
  least_same (tree.Again n) s = refl

  plan_least : (t : Plan) (s : List Hold) → least_of (made_program x) (made t) (other_stack s) ≡ least_of (given_program x) (given t) (one_stack s)
  plan_least (plans.Stays t) s = least_same t s
  plan_least (plans.Narrowed op ty to a b) s = refl
  plan_least (plans.Several ts) s = refl
  plan_least (plans.Choice test size plans.Whole first second) s = refl
  plan_least (plans.Choice test size plans.Low first second) s = refl
  plan_least (plans.Choice test size plans.Turned first second) s = refl
  plan_least (plans.Repeat front behind body) s = refl

  plan_most : (p : ℕ) (loops : List Ends) (here after : Marks) (before with : List Tree) (t : Plan) (s : List Hold) → SameCounts before with → Fits x.lent p loops here t after
      → cost_of with (made t) + leaving (made t) (other_stack s) ≤ cost_of before (given t) + leaving (given t) (one_stack s)
  unfolding cost_of
  plan_most p loops here after before with (plans.Narrowed op ty to a b) s same fits =
      let less = narrow_less op (number_left before b) (number_left with b) (bytes_of ty) (are_low_alone x.lent p here ty a b) fits.able (width_positive ty) in omega (arith, less)
  plan_most p loops here after before with (plans.Several ts) s same fits = omega arith
  plan_most p loops here after before with (plans.Choice test size plans.Whole first second) s same fits = omega arith
  plan_most p loops here after before with (plans.Choice test zero plans.Low first second) s same fits = omega arith
  plan_most p loops here after before with (plans.Choice test (suc k) plans.Low first second) s same fits = omega arith
  plan_most p loops here after before with (plans.Choice test zero plans.Turned first second) s same fits = omega arith
  plan_most p loops here after before with (plans.Choice test (suc k) plans.Turned first second) s same fits = omega arith
  plan_most p loops here after before with (plans.Repeat front behind body) s same fits = omega arith
  plan_most p loops here after before with (plans.Stays t) s same fits = stays_most before with t s same

  task_most_less : (p : ℕ) (loops : List Ends) (here : Marks) (js : List Job) (s : List Hold) → Runs x.lent p loops here js → task_most (others js) (other_stack s) ≤ task_most (ones js) (one_stack s)
  task_most_less p loops here [] s runs = omega arith
  task_most_less p loops here (ToDo before with t ∷ js) s runs = plan_most p loops here runs.1 before with t s runs.0 runs.2
  task_most_less p loops here (ToPut to held ∷ js) s runs = omega arith
  task_most_less p loops here (ToPutBit to value ∷ js) s runs = omega arith
  task_most_less p loops here (ToPutBack register value ∷ js) s runs = omega arith
  task_most_less p loops here (ToJoin ∷ js) s runs = omega arith
  task_most_less p loops here (ToLoad to object offset n ∷ js) s runs = at_most
    where
      at_most : load_cost object ≤ load_cost object
      at_most = omega arith
  task_most_less p loops here (ToStore object offset from n ∷ js) s runs = omega arith
  task_most_less p loops here (ToRead bytes ∷ js) s runs = omega arith
  task_most_less p loops here (ToEnd ∷ js) s runs = omega arith

  task_least_same : (js : List Job) (s : List Hold) → least_task (made_program x) (others js) (other_stack s) ≡ least_task (given_program x) (ones js) (one_stack s)
  task_least_same [] s = refl
  task_least_same (ToDo before with t ∷ js) s = plan_least t s
  task_least_same (ToPut to held ∷ js) s = refl
  task_least_same (ToPutBit to value ∷ js) s = refl
  task_least_same (ToPutBack register value ∷ js) s = refl
  task_least_same (ToJoin ∷ js) s = refl
  task_least_same (ToLoad to object offset n ∷ js) s = refl
  task_least_same (ToStore object offset from n ∷ js) s = refl
  task_least_same (ToRead bytes ∷ js) s = refl
  task_least_same (ToEnd ∷ js) s = refl

  if_less : (t : Bool) (a b : ℕ) → a ≤ b → (if t then context_cost else a) ≤ (if t then context_cost else b)
  if_less true a b h = omega arith
  if_less false a b h = h

  pub most_less : (o : Outside) (t : State x) → Stays x t → step_most (made_setting x o) (second_machine x t) ≤ step_most (given_setting x o) (first_machine x t)
  unfolding step_most
  most_less o t h = if_less (is_due (arrived o t.world)) (task_most (others t.jobs) (other_stack t.holds)) (task_most (ones t.jobs) (one_stack t.holds)) (task_most_less t.copy (loops_of t.holds) t.here t.jobs t.holds h.runs)

  pub least_is : (o : Outside) (t : State x) → step_least (made_setting x o) (second_machine x t) ≡ step_least (given_setting x o) (first_machine x t)
  unfolding step_least
  least_is o t = ap (λ (n : ℕ). if is_due (arrived o t.world) then 1 else n) (task_least_same t.jobs t.holds)
