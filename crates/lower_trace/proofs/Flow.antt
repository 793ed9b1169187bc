-- Statements that begin and statements that end.
use Rattle.std.proofs.Common.{◌≡◌, ℕ, suc, ◌-◌, Bool, true, false, if◌then◌else◌, List, [], ◌∷◌, Option, Some, None, refl, sym, ap, ◌∙◌, subst, arith}
use Rattle.c_typed.specs.Trees as tree
use Rattle.c_typed.specs.Trees.{Expression, Expressions, Place, Statement, Statements, Arms, Arm, LastArm}
use Rattle.c_typed.specs.declared.statement.LoopForm.{LoopForm}
use Rattle.core_code.specs.Bytes.{Held, Memory}
use Rattle.core_code.specs.Machine.{Machine, Task, InLoop}
use Rattle.core_code.specs.Tree as code
use Rattle.core_code.specs.Tree.{Tree, many}
use Rattle.lower_stmt.specs.Statements.{stmt_code, last_code}
use Rattle.pic_world.specs.World.{World, arrived, is_due, world_as}
use Rattle.src_rules.specs.State.{state}
use Rattle.src_rules.specs.Statements.{begin, last}
use Rattle.src_values.specs.Control.{Focus, Eval, Run, Past, Tests, Picks, InArm, Pending, Doing, Before, active}
use Rattle.src_values.specs.Memory as source
use Rattle.src_values.specs.Memory.{cleared}
use Rattle.src_values.specs.Objects.{same_object, local_of}
use Rattle.src_values.specs.declared.objects.Byte as value
use Rattle.src_values.specs.declared.objects.Byte.TheVariants as values
use Rattle.src_values.specs.declared.objects.CopyOf.{CopyOf}
use Rattle.src_values.specs.declared.objects.Object as object
use Rattle.lower_trace.proofs.Beginnings.{Follow, rests}
use Rattle.lower_trace.proofs.CodeLeft.{Scene, held, number, ground_in, core_in, source_in, todo, arm_count, joins, stacked, switch_on, code_before, inner_loops, code_after, code_at, stack_after, stack_at, copy_at, jumps}
use Rattle.lower_trace.proofs.Constants.{due_below, again_below, same_below}
use Rattle.lower_trace.proofs.Giving.{mirrors}
use Rattle.lower_trace.proofs.Jumping.{many_then, loop_then}
use Rattle.lower_trace.proofs.Mirrors.{Mirrors, Agree, Agrees, Holds, HasValue, core_byte}
use Rattle.lower_trace.proofs.Operations.{Comes, comes_here}
use Rattle.lower_trace.proofs.Placed.{Placed, todo_join}

-- ---- objects that have no value any more
unset_agrees : (z : Scene) (b : Bool) (v : value.Byte) (h : Held) → Agree z v h → Agree z (if b then values.Unset else v) h
unset_agrees z true v h a = tt
unset_agrees z false v h a = a

pub cleared_agrees : (z : Scene) (live : List CopyOf) (l : source.Memory) (m : Memory) (object : object.Object) → Agrees z live l m → Agrees z live (cleared l object) m
cleared_agrees z live l m object a = λ other at there alive lt. unset_agrees z (same_object other object) (l other at) (m (core_byte z other at)) (a other at there alive lt)

module _ (z : Scene) where
  -- the code is where the next state has it
  pub arrive : (cp : CopyOf) (x : Focus) (k : List Pending) (l : source.Memory) (w : World value.Byte) (m : Memory) (d : Machine)
      → Placed (core_in z) (number z (copy_at cp x k)) None (code_at z (ground_in z cp) x k) (stack_at z (ground_in z cp) x k) m (world_as (held z) (arrived z.outside w)) d
      → Agrees z (active cp x k) l m → Holds z (ground_in z cp) k m → HasValue z (ground_in z cp) x k m → Comes (core_in z) (Mirrors z (state cp x k l (arrived z.outside w))) 0 0 d
  arrive cp x k l w m d p a h v =
      comes_here (core_in z) (Mirrors z (state cp x k l (arrived z.outside w))) d
      (mirrors z cp x k l (arrived z.outside w) m d
      (subst (λ y. Placed (core_in z) (number z (copy_at cp x k)) None (code_at z (ground_in z cp) x k) (stack_at z (ground_in z cp) x k) m y d) (same_below z w) p)
      a h v)

  -- ---- arms
  no_joins : (i : ℕ) (r : List Task) → joins (i - i) r ≡ r
  no_joins i r = let e : i - i ≡ 0 = omega arith in ap (λ n. joins n r) e

  last_goes : (chain : Arms) (otherwise chosen : LastArm) (line : ℕ) (k : List Pending) (cp : CopyOf) (l : source.Memory) (w : World value.Byte) (c : Machine) → arm_count chain ≡ 0
      → Mirrors z (state cp (Run (tree.If chain otherwise line)) k l w) c
      → code_at z (ground_in z cp) (Run (tree.If chain otherwise line)) k ≡ todo (last_code (ground_in z cp) (jumps k) chosen) (code_after (ground_in z cp) k)
      → Follow z 0 0 c (last (tree.If chain otherwise line) chosen k cp l (arrived z.outside w))
  unfolding active stmt_code
  last_goes chain otherwise tree.NoLast line k cp l w c none h e = rests z cp (Run (tree.If chain otherwise line)) Past k k l l w c h refl e refl h.agrees h.holds tt
  last_goes chain otherwise (tree.Last t) line k cp l w c none h e =
      rests z cp (Run (tree.If chain otherwise line)) (Run t) k (Doing (tree.If chain otherwise line) (InArm tree.NoArm) ∷ k) l l w c h refl
      (e ∙ ap (λ n. todo (stmt_code (ground_in z cp) (jumps k) t) (joins n (code_after (ground_in z cp) k))) (let q : 0 ≡ arm_count chain - 0 = omega arith in q))
      refl h.agrees h.holds tt

  -- ---- loops
  -- the condition comes next
  into_loop : (shape : LoopForm) (begin condition step : Option Expression) (body : Statement) (line : ℕ) (k : List Pending) (cp : CopyOf) (l : source.Memory) (w : World value.Byte) (m : Memory) (c : Machine) (r : List Tree) (x : Focus) (k' : List Pending) → is_due (arrived z.outside w) ≡ false
      → Placed (core_in z) (number z cp) None (todo (code.Loop (many r) ∷ []) (code_after (ground_in z cp) k)) (stack_after z (ground_in z cp) k) m (world_as (held z) (arrived z.outside w)) c
      → ((d : Machine) → Placed (core_in z) (number z cp) None (todo r []) (InLoop (many r) (code_after (ground_in z cp) k) ∷ stack_after z (ground_in z cp) k) m (world_as (held z) (arrived z.outside w)) d → Comes (core_in z) (Mirrors z (state cp x k' l (arrived z.outside w))) 0 0 d)
      → Comes (core_in z) (Mirrors z (state cp x k' l (arrived z.outside w))) 0 0 c
  into_loop shape begin condition step body line k cp l w m c r x k' due p next =
      let T = Mirrors z (state cp x k' l (arrived z.outside w)) in
      let W = world_as (held z) (arrived z.outside w) in
      let no = due_below z (arrived z.outside w) due in
      let ag = again_below z w in
      loop_then (core_in z) T (number z cp) None W no ag (many r) (code_after (ground_in z cp) k) (stack_after z (ground_in z cp) k) m c 0 0 p
      (λ d pd. many_then (core_in z) T (number z cp) None W no ag r [] (InLoop (many r) (code_after (ground_in z cp) k) ∷ stack_after z (ground_in z cp) k) m d 0 0 pd next)

  -- ---- statements
  pub begin_block : (ss : Statements) (line : ℕ) (k : List Pending) (cp : CopyOf) (l : source.Memory) (w : World value.Byte) (c : Machine) → switch_on k ≡ None
      → Mirrors z (state cp (Run (tree.Block ss line)) k l w) c → Follow z 0 0 c (begin (source_in z) (tree.Block ss line) k cp l (arrived z.outside w))
  unfolding active stmt_code
  begin_block ss line k cp l w c none h =
      let g = ground_in z cp in
      rests z cp (Run (tree.Block ss line)) Past k (Before ss ∷ k) l l w c h refl
      (sym (ap (λ o. code_before g o ss (jumps k) (code_after g k)) none)) (sym (ap (λ o. stacked (inner_loops g (jumps k) o ss) (stack_after z g k)) none)) h.agrees h.holds tt

  pub begin_empty : (line : ℕ) (k : List Pending) (cp : CopyOf) (l : source.Memory) (w : World value.Byte) (c : Machine) → Mirrors z (state cp (Run (tree.Empty line)) k l w) c → Follow z 0 0 c (begin (source_in z) (tree.Empty line) k cp l (arrived z.outside w))
  unfolding active stmt_code
  begin_empty line k cp l w c h = rests z cp (Run (tree.Empty line)) Past k k l l w c h refl refl refl h.agrees h.holds tt

  pub begin_expression : (e : Expression) (line : ℕ) (k : List Pending) (cp : CopyOf) (l : source.Memory) (w : World value.Byte) (c : Machine) → Mirrors z (state cp (Run (tree.Expr e line)) k l w) c → Follow z 0 0 c (begin (source_in z) (tree.Expr e line) k cp l (arrived z.outside w))
  unfolding active stmt_code
  begin_expression e line k cp l w c h = rests z cp (Run (tree.Expr e line)) (Eval e) k (Doing (tree.Expr e line) Tests ∷ k) l l w c h refl refl refl h.agrees h.holds tt

  pub begin_declare : (local line : ℕ) (k : List Pending) (cp : CopyOf) (l : source.Memory) (w : World value.Byte) (c : Machine) → Mirrors z (state cp (Run (tree.Declare local line)) k l w) c → Follow z 0 0 c (begin (source_in z) (tree.Declare local line) k cp l (arrived z.outside w))
  unfolding active stmt_code
  begin_declare local line k cp l w c h =
      rests z cp (Run (tree.Declare local line)) Past k k l (cleared l (local_of z.program cp local)) w c h refl refl refl (cleared_agrees z (active cp Past k) l c.memory (local_of z.program cp local) h.agrees) h.holds tt

  pub begin_scalar : (local : ℕ) (e : Expression) (line : ℕ) (k : List Pending) (cp : CopyOf) (l : source.Memory) (w : World value.Byte) (c : Machine) → Mirrors z (state cp (Run (tree.InitScalar local e line)) k l w) c → Follow z 0 0 c (begin (source_in z) (tree.InitScalar local e line) k cp l (arrived z.outside w))
  unfolding active stmt_code
  begin_scalar local e line k cp l w c h =
      rests z cp (Run (tree.InitScalar local e line)) (Eval e) k (Doing (tree.InitScalar local e line) Tests ∷ k) l (cleared l (local_of z.program cp local)) w c h refl (simp todo_join) refl
      (cleared_agrees z (active cp (Eval e) (Doing (tree.InitScalar local e line) Tests ∷ k)) l c.memory (local_of z.program cp local) h.agrees) h.holds tt

  pub begin_return : (e : Expression) (line : ℕ) (k : List Pending) (cp : CopyOf) (l : source.Memory) (w : World value.Byte) (c : Machine) → Mirrors z (state cp (Run (tree.Return (Some e) line)) k l w) c → Follow z 0 0 c (begin (source_in z) (tree.Return (Some e) line) k cp l (arrived z.outside w))
  unfolding active stmt_code
  begin_return e line k cp l w c h = rests z cp (Run (tree.Return (Some e) line)) (Eval e) k (Doing (tree.Return (Some e) line) Tests ∷ k) l l w c h refl (simp todo_join) refl h.agrees h.holds tt

  pub begin_if : (chain : Arms) (otherwise : LastArm) (line : ℕ) (k : List Pending) (cp : CopyOf) (l : source.Memory) (w : World value.Byte) (c : Machine) → Mirrors z (state cp (Run (tree.If chain otherwise line)) k l w) c → Follow z 0 0 c (begin (source_in z) (tree.If chain otherwise line) k cp l (arrived z.outside w))
  unfolding active stmt_code
  begin_if tree.NoArm otherwise line k cp l w c h = last_goes tree.NoArm otherwise otherwise line k cp l w c refl h refl
  begin_if (tree.AndArm (tree.OneArm condition chosen at) more) otherwise line k cp l w c h =
      let t = tree.If (tree.AndArm (tree.OneArm condition chosen at) more) otherwise line in
      let r = code_after (ground_in z cp) k in
      rests z cp (Run t) (Eval condition) k (Doing t (Picks (tree.OneArm condition chosen at) more) ∷ k) l l w c h refl
      (ap (λ y. todo (stmt_code (ground_in z cp) (jumps k) t) y) (sym (no_joins (suc (arm_count more)) r)) ∙ simp todo_join)
      refl h.agrees h.holds tt
