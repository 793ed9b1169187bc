-- What follows a statement of a block, and of the body of a switch: there a segment may end, and the next one begins.
use Rattle.std.proofs.Common.{◌≡◌, ℕ, zero, suc, ◌+◌, ◌-◌, ◌≤◌, Bool, true, false, if◌then◌else◌, List, [], ◌∷◌, drop, Option, Some, None, refl, sym, ap, ◌∙◌, subst, arith}
use Rattle.std.proofs.lemmas.List.{drop_all}
use Rattle.std.specs.Prelude.{slice_get}
use Rattle.c_typed.specs.Sound.{count_of}
use Rattle.c_typed.specs.Trees as tree
use Rattle.c_typed.specs.Trees.{Statement, Statements}
use Rattle.core_code.specs.Bytes.{Memory}
use Rattle.core_code.specs.Machine.{Machine, Task, Do as Todo}
use Rattle.core_code.specs.Tree as code
use Rattle.core_code.specs.Tree.{many}
use Rattle.lower_stmt.specs.Ground.{Ground}
use Rattle.lower_stmt.specs.Jumps.{in_segment}
use Rattle.lower_stmt.specs.Labels.{has, segments_before}
use Rattle.lower_stmt.specs.Statements.{stmt_code, stmts_code, segments_code}
use Rattle.lower_stmt.specs.Switches.{Segments}
use Rattle.pic_world.specs.World.{World, arrived, is_due, world_as}
use Rattle.src_rules.specs.Giving.{statements_behind}
use Rattle.src_rules.specs.State.{state, Outcome, Went, Undefined, Idle, Lost}
use Rattle.src_rules.specs.Statements.{proceed}
use Rattle.src_values.specs.Control.{Run, Past, Turns, Pending, Doing, Before, active}
use Rattle.src_values.specs.Memory as source
use Rattle.src_values.specs.declared.objects.Byte as value
use Rattle.src_values.specs.declared.objects.CopyOf.{CopyOf}
use Rattle.lower_trace.proofs.Beginnings.{Follow}
use Rattle.lower_trace.proofs.CodeLeft.{Scene, held, number, ground_in, core_in, Jumps, Looped, Switched, todo, stacked, labels_in, segment_count, segments, compared, loops_in, index_in, switch_on, jumps, jumps_before, code_before, inner_loops, code_after, stack_after}
use Rattle.lower_trace.proofs.Constants.{due_below, again_below}
use Rattle.lower_trace.proofs.Exits.{Exits, exit_at, exits_then}
use Rattle.lower_trace.proofs.Flow.{arrive}
use Rattle.lower_trace.proofs.Giving.{placed_of}
use Rattle.lower_trace.proofs.Mirrors.{Mirrors, Agrees, Holds}
use Rattle.lower_trace.proofs.Operations.{Comes}
use Rattle.lower_trace.proofs.Placed.{Placed, todo_join}
use Rattle.lower_trace.proofs.Segments.{opened_code, at_label, at_none, begun_step, one_if, count_left, drop_twice, get_drop, nested_at, segment_there, loops_length}

-- These statements are the last ones of the body of the switch.
pub record IsPart (x : Switched) (ss : Statements) : Type 0 where
  pub index : ℕ
  pub few : index ≤ count_of x.body
  pub is : statements_behind index x.body ≡ ss

-- what it takes to come from one statement to the next: the segment before a label ends by a jump
abbrev pub falling : Option Switched → Statements → ℕ
falling None ss = 0
falling (Some x) ss = if has (labels_in x) (index_in x ss) then 4 else 0

abbrev pub IsPartOf : Option Switched → Statements → Type 0
IsPartOf None ss = Unit {0}
IsPartOf (Some x) ss = IsPart x ss

pub index_is : (x : Switched) (ss : Statements) (part : IsPart x ss) → index_in x ss ≡ part.index
index_is x ss part = ap (λ y. count_of x.body - count_of y) (sym part.is) ∙ count_left part.index x.body part.few

part_small : (m : ℕ) (ss : Statements) → count_of (statements_behind m ss) ≤ count_of ss
part_small zero ss = omega arith
part_small (suc m) tree.NoStatement = omega arith
part_small (suc m) (tree.AndStatement s ss) = let e = part_small m ss in omega arith

part_few : (x : Switched) (ss : Statements) → IsPart x ss → count_of ss ≤ count_of x.body
part_few x ss part = let e = part_small part.index x.body in let f = ap count_of part.is in omega arith

-- The code of a segment that begins with these statements, and the loops of the segments behind it.
abbrev pub segment_left : Ground → Jumps → Switched → Statements → Segments
segment_left g j x ss = opened_code g j (labels_in x) (segment_count x) (index_in x ss) (segments_before (index_in x ss + 1) (labels_in x)) ss

abbrev pub loops_left : Ground → Jumps → Switched → Statements → List Looped
loops_left g j x ss = drop (segments_before (index_in x ss + 1) (labels_in x)) (loops_in g j x)

-- Byte code stands behind the label that a switch led to. Where the segment before the label ends instead, it stands before the jump
-- that leaves that segment.
pub record Led (z : Scene) (cp : CopyOf) (ss : Statements) (k : List Pending) (l : source.Memory) (w : World value.Byte) (c : Machine) : Type 0 where
  pub switch : Switched
  pub on : switch_on k ≡ Some switch
  pub placed : Placed (core_in z) (number z cp) None (todo (segment_left (ground_in z cp) (jumps k) switch ss).running (code_after (ground_in z cp) k)) (stacked (loops_left (ground_in z cp) (jumps k) switch ss) (stack_after z (ground_in z cp) k)) c.memory (world_as (held z) (arrived z.outside w)) c
  pub agrees : Agrees z (active cp Past k) l c.memory
  pub holds : Holds z (ground_in z cp) k c.memory

-- other operations come before what follows
pub then_follows : (z : Scene) (q l x y : ℕ) (c : Machine) (P : Machine → Type 0) (o : Outcome) → ((T : Machine → Type 0) → ((d : Machine) → P d → Comes (core_in z) T q l d) → Comes (core_in z) T x y c) → ((d : Machine) → P d → Follow z q l d o) → Follow z x y c o
then_follows z q l x y c P (Went u event) before next = before (Mirrors z u) next
then_follows z q l x y c P (Undefined kind line) before next = tt
then_follows z q l x y c P Idle before next = tt
then_follows z q l x y c P Lost before next = tt

-- a segment ends by leaving its loop
switch_code : (g : Ground) (k : List Pending) (x : Switched) → switch_on k ≡ Some x → code_after g k ≡ Todo [] (code.Exit 0) ∷ []
switch_code g (Doing (tree.Switch value cases default ss line) Turns ∷ k) x e = refl
switch_code g _ x e = absurd (cc)

abbrev then_code : Ground → Option Switched → Statement → Statements → Jumps → List Task → List Task
then_code g o t ts j c = todo (stmt_code g (jumps_before o ts j) t) (code_before g o ts j c)

module _ (z : Scene) (k : List Pending) (cp : CopyOf) (l : source.Memory) (w : World value.Byte) (m : Memory) (due : is_due (arrived z.outside w) ≡ false) (agrees : Agrees z (active cp Past k) l m) (holds : Holds z (ground_in z cp) k m) where
  -- the statements of a segment behind its label
  opened_goes : (x : Switched) (ss : Statements) (c : Machine) → switch_on k ≡ Some x → count_of ss ≤ count_of x.body
      → Placed (core_in z) (number z cp) None (todo (segment_left (ground_in z cp) (jumps k) x ss).running (code_after (ground_in z cp) k)) (stacked (loops_left (ground_in z cp) (jumps k) x ss) (stack_after z (ground_in z cp) k)) m (world_as (held z) (arrived z.outside w)) c
      → Follow z 0 0 c (proceed (Before ss ∷ k) cp l (arrived z.outside w))
  unfolding active
  opened_goes x tree.NoStatement c on few p =
      let g = ground_in z cp in
      let W = world_as (held z) (arrived z.outside w) in
      let length_is = loops_length g (jumps k) x in
      let e : index_in x tree.NoStatement + 1 ≡ count_of x.body + 1 = omega arith in
      let all = ap (λ y. segments_before y (labels_in x)) e in
      let none : loops_left g (jumps k) x tree.NoStatement ≡ [] = drop_all (segments_before (index_in x tree.NoStatement + 1) (labels_in x)) (loops_in g (jumps k) x) (omega arith) in
      arrive z cp Past k l w m c (subst (λ y. Placed (core_in z) (number z cp) None (code_after g k) (stacked y (stack_after z g k)) m W c) none p) agrees holds tt
  opened_goes x (tree.AndStatement t ts) c on few p =
      let g = ground_in z cp in
      let j = jumps k in
      let labels = labels_in x in
      let n = segment_count x in
      let W = world_as (held z) (arrived z.outside w) in
      let i = index_in x (tree.AndStatement t ts) in
      let next : i + 1 ≡ index_in x ts = omega arith in
      let code_is : todo (segment_left g j x (tree.AndStatement t ts)).running (code_after g k) ≡ then_code g (switch_on k) t ts j (code_after g k) =
      todo_join (stmt_code g (in_segment j (n - segments_before (i + 1) labels)) t) (segments_code g j labels n (i + 1) (segments_before (i + 1) labels) ts).running (code_after g k)
      ∙ ap (λ y. todo (stmt_code g (in_segment j (n - segments_before y labels)) t) (todo (segments_code g j labels n y (segments_before y labels) ts).running (code_after g k))) next
      ∙ ap (λ o. then_code g o t ts j (code_after g k)) (sym on) in
      let loops_are : loops_left g j x (tree.AndStatement t ts) ≡ inner_loops g j (switch_on k) ts =
      ap (λ y. drop (segments_before y labels) (loops_in g j x)) next ∙ ap (λ o. inner_loops g j o ts) (sym on) in
      arrive z cp (Run t) (Before ts ∷ k) l w m c
      (subst (λ y. Placed (core_in z) (number z cp) None y (stacked (inner_loops g j (switch_on k) ts) (stack_after z g k)) m W c) code_is
      (subst (λ y. Placed (core_in z) (number z cp) None (todo (segment_left g j x (tree.AndStatement t ts)).running (code_after g k)) (stacked y (stack_after z g k)) m W c) loops_are p))
      agrees holds tt

  -- a label stands there, and the segment before it ends
  falls : (x : Switched) (ss : Statements) (c : Machine) → switch_on k ≡ Some x → IsPart x ss → has (labels_in x) (index_in x ss) ≡ true
      → Placed (core_in z) (number z cp) None (code_before (ground_in z cp) (Some x) ss (jumps k) (code_after (ground_in z cp) k)) (stacked (inner_loops (ground_in z cp) (jumps k) (Some x) ss) (stack_after z (ground_in z cp) k)) m (world_as (held z) (arrived z.outside w)) c
      → Follow z 4 0 c (proceed (Before ss ∷ k) cp l (arrived z.outside w))
  falls x ss c on part here p =
      let g = ground_in z cp in
      let n = number z cp in
      let j = jumps k in
      let labels = labels_in x in
      let i = index_in x ss in
      let b = segments_before i labels in
      let W = world_as (held z) (arrived z.outside w) in
      let S = stack_after z g k in
      let mine = opened_code g j labels (segment_count x) i (segments_before (i + 1) labels) ss in
      let index = index_is x ss part in
      let there : slice_get (segments g j x) b ≡ Some mine.running =
      segment_there g j x i ss (let q = part.few in omega arith) (ap (λ y. statements_behind y x.body) index ∙ part.is) here in
      let y = nested_at (many (compared g x)) (segments g j x) b mine.running there in
      let ends : code_before g (Some x) ss j (code_after g k) ≡ Todo [] (code.Exit 0) ∷ [] =
      ap (λ t. todo t.running (code_after g k)) (at_label g j labels (segment_count x) i ss here) ∙ switch_code g k x on in
      let left : y.0.code ≡ todo mine.running (code_after g k) = y.2 ∙ todo_join mine.running (code.Exit 0 ∷ []) [] ∙ ap (todo mine.running) (sym (switch_code g k x on)) in
      let more = begun_step labels i in
      let count = ap one_if here in
      let sum : 1 + b ≡ segments_before (i + 1) labels = omega arith in
      let loops_are : drop 1 (drop b (loops_in g j x)) ≡ loops_left g j x ss = drop_twice 1 b (loops_in g j x) ∙ ap (λ t. drop t (loops_in g j x)) sum in
      let first : slice_get (drop b (loops_in g j x)) 0 ≡ Some y.0 = sym (get_drop b (loops_in g j x)) ∙ y.1 in
      let out : Exits 0 y.0.code (stacked (drop 1 (drop b (loops_in g j x))) S) c.stack = exit_at (drop b (loops_in g j x)) 0 y.0 S c.stack first p.stack in
      then_follows z 0 0 4 0 c (λ d. Placed (core_in z) n None (todo mine.running (code_after g k)) (stacked (loops_left g j x ss) S) m W d) (proceed (Before ss ∷ k) cp l (arrived z.outside w))
      (λ T next. exits_then (core_in z) T n None W (due_below z (arrived z.outside w) due) (again_below z w) 0 [] y.0.code (stacked (inner_loops g j (Some x) ss) S) (stacked (drop 1 (drop b (loops_in g j x))) S) m c 0 0
      (subst (λ t. Placed (core_in z) n None t (stacked (inner_loops g j (Some x) ss) S) m W c) ends p) out
      (λ d pd. next d (subst (λ t. Placed (core_in z) n None t (stacked (loops_left g j x ss) S) m W d) left
      (subst (λ t. Placed (core_in z) n None y.0.code (stacked t S) m W d) loops_are pd))))
      (λ d pd. opened_goes x ss d on (part_few x ss part) pd)

  label_case : (here : Bool) (x : Switched) (ss : Statements) (c : Machine) → has (labels_in x) (index_in x ss) ≡ here → switch_on k ≡ Some x → IsPart x ss
      → Placed (core_in z) (number z cp) None (code_before (ground_in z cp) (Some x) ss (jumps k) (code_after (ground_in z cp) k)) (stacked (inner_loops (ground_in z cp) (jumps k) (Some x) ss) (stack_after z (ground_in z cp) k)) m (world_as (held z) (arrived z.outside w)) c
      → Follow z (if here then 4 else 0) 0 c (proceed (Before ss ∷ k) cp l (arrived z.outside w))
  label_case true x ss c here on part p = falls x ss c on part here p
  label_case false x ss c here on part p =
      let g = ground_in z cp in
      let n = number z cp in
      let j = jumps k in
      let labels = labels_in x in
      let i = index_in x ss in
      let W = world_as (held z) (arrived z.outside w) in
      let S = stack_after z g k in
      let more = begun_step labels i in
      let count = ap one_if here in
      let same : segments_before i labels ≡ segments_before (i + 1) labels = omega arith in
      opened_goes x ss c on (part_few x ss part)
      (subst (λ t. Placed (core_in z) n None t (stacked (loops_left g j x ss) S) m W c) (ap (λ t. todo t.running (code_after g k)) (at_none g j labels (segment_count x) i ss here))
      (subst (λ t. Placed (core_in z) n None (code_before g (Some x) ss j (code_after g k)) (stacked (drop t (loops_in g j x)) S) m W c) same p))

  before_case : (o : Option Switched) (ss : Statements) (c : Machine) → switch_on k ≡ o → IsPartOf o ss
      → Placed (core_in z) (number z cp) None (code_before (ground_in z cp) o ss (jumps k) (code_after (ground_in z cp) k)) (stacked (inner_loops (ground_in z cp) (jumps k) o ss) (stack_after z (ground_in z cp) k)) m (world_as (held z) (arrived z.outside w)) c
      → Follow z (falling o ss) 0 c (proceed (Before ss ∷ k) cp l (arrived z.outside w))
  unfolding active stmts_code
  before_case None tree.NoStatement c e part p = arrive z cp Past k l w m c p agrees holds tt
  before_case None (tree.AndStatement t ts) c e part p =
      let g = ground_in z cp in
      let n = number z cp in
      let j = jumps k in
      let W = world_as (held z) (arrived z.outside w) in
      let S = stack_after z g k in
      arrive z cp (Run t) (Before ts ∷ k) l w m c
      (subst (λ y. Placed (core_in z) n None y (stacked (inner_loops g j (switch_on k) ts) S) m W c) (todo_join (stmt_code g j t) (stmts_code g j ts) (code_after g k) ∙ ap (λ o. then_code g o t ts j (code_after g k)) (sym e))
      (subst (λ y. Placed (core_in z) n None (todo (stmts_code g j (tree.AndStatement t ts)) (code_after g k)) (stacked y S) m W c) (ap (λ o. inner_loops g j o ts) (sym e)) p))
      agrees holds tt
  before_case (Some x) ss c e part p = label_case (has (labels_in x) (index_in x ss)) x ss c refl e part p

-- A statement of a block, or of the body of a switch, comes next, or what follows all of them.
pub before_goes : (z : Scene) (ss : Statements) (k : List Pending) (cp : CopyOf) (l : source.Memory) (w : World value.Byte) (c : Machine) → IsPartOf (switch_on k) ss → is_due (arrived z.outside w) ≡ false
    → Mirrors z (state cp Past (Before ss ∷ k) l w) c → Follow z (falling (switch_on k) ss) 0 c (proceed (Before ss ∷ k) cp l (arrived z.outside w))
unfolding active
before_goes z ss k cp l w c part due h = before_case z k cp l w c.memory due h.agrees h.holds (switch_on k) ss c refl part (placed_of z (state cp Past (Before ss ∷ k) l w) c h)

-- the same behind a label that a switch led to
pub led_goes : (z : Scene) (ss : Statements) (k : List Pending) (cp : CopyOf) (l : source.Memory) (w : World value.Byte) (c : Machine) → IsPartOf (switch_on k) ss → is_due (arrived z.outside w) ≡ false
    → Led z cp ss k l w c → Follow z 0 0 c (proceed (Before ss ∷ k) cp l (arrived z.outside w))
led_goes z ss k cp l w c part due h =
    opened_goes z k cp l w c.memory due h.agrees h.holds h.switch ss c h.on (part_few h.switch ss (subst (λ o. IsPartOf o ss) h.on part)) h.placed
