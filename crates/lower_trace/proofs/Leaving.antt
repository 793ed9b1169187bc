-- Functions are left, main ends, and the handler goes back to what it interrupted.
use Rattle.std.proofs.Common.{◌≡◌, ℕ, ◌+◌, ◌≤◌, Bool, true, false, ◌||◌, List, [], ◌∷◌, None, refl, sym, ap, ◌∙◌, arith}
use Rattle.c_typed.specs.Trees as tree
use Rattle.c_typed.specs.Trees.{Expression, Statement}
use Rattle.c_typed.specs.declared.statement.LoopForm.TheVariants.{While, Do, For}
use Rattle.core_code.specs.Bytes.{Held, Memory}
use Rattle.core_code.specs.Cost.{cost_of, restoring, least_leave}
use Rattle.core_code.specs.Machine as core
use Rattle.core_code.specs.Machine.{Machine, Task, Waiting, Do as Todo, InLoop, InCall, InHandler, Goes, goes, leave, operate}
use Rattle.core_code.specs.Tree as code
use Rattle.core_code.specs.Tree.{Tree, many}
use Rattle.lower_stmt.specs.Ground.{Ground}
use Rattle.pic_world.specs.World.{World, Ended, arrived, is_due, left, noted, world_as}
use Rattle.pic_world.proofs.WorldLaws.{arrived_as, noted_as, left_as}
use Rattle.src_rules.specs.State.{state}
use Rattle.src_rules.specs.Standing.{WaitsForEnd, IsBody}
use Rattle.src_rules.specs.Statements.{begin, proceed, unwound}
use Rattle.src_values.specs.Control.{Focus, Past, Leaves, Over, Stage, Tests, Begins, Steps, Turns, Picks, InArm, Chooses, Fills, AtItem, Items, Blanks, Pending, In, To, Doing, Before, Returns, Resumes, active}
use Rattle.src_values.specs.Data as datum
use Rattle.src_values.specs.Data.{Datum}
use Rattle.src_values.specs.Memory as source
use Rattle.src_values.specs.Objects.{is_alive, is_among, same_copy}
use Rattle.src_values.specs.declared.objects.Byte as value
use Rattle.src_values.specs.declared.objects.CopyOf.{CopyOf}
use Rattle.src_values.specs.declared.objects.Object as object
use Rattle.src_values.specs.declared.objects.Object.TheVariants as objects
use Rattle.lower_trace.proofs.Beginnings.{Follow}
use Rattle.lower_trace.proofs.CodeLeft.{Scene, held, number, ground_in, core_in, plain_behind, Jumps, Looped, stacked, switch_on, inner_loops, stack_doing, jumps, code_after, code_at, stack_after, stack_at, copy_at}
use Rattle.lower_trace.proofs.Constants.{due_below}
use Rattle.lower_trace.proofs.Giving.{mirrors}
use Rattle.lower_trace.proofs.Jumping.{call_on, handler_on, none_on, loop_on}
use Rattle.lower_trace.proofs.Kept.{Piled}
use Rattle.lower_trace.proofs.Mirrors.{Mirrors, Agrees, Holds, HasValue}
use Rattle.lower_trace.proofs.Operations.{Comes, comes_here, comes_first, comes_within}
use Rattle.lower_trace.proofs.Placed.{Placed, front, operates, most_operates, least_operates}

-- ---- what lies below the statements of a body
abbrev pub IsBottom : List Pending → Type 0
IsBottom [] = Unit {0}
IsBottom (In e got ∷ k) = ⊥
IsBottom (To place ∷ k) = ⊥
IsBottom (Doing t stage ∷ k) = ⊥
IsBottom (Before ss ∷ k) = ⊥
IsBottom (Returns d ∷ k) = Unit {0}
IsBottom (Resumes d x ∷ k) = Unit {0}

abbrev IsTurn : Stage → Type 0
IsTurn Turns = Unit {0}
IsTurn (InArm more) = Unit {0}
IsTurn _ = ⊥

body_turn : (t : Statement) (stage : Stage) → IsBody t stage → IsTurn stage
body_turn (tree.Loop shape first condition step body line) Turns h = tt
body_turn (tree.Switch e cases default ss line) Turns h = tt
body_turn (tree.If chain otherwise line) (InArm more) h = tt
body_turn _ _ h = absurd h

pub bottom_of : (g : Ground) (k : List Pending) → WaitsForEnd k → Piled g k → IsBottom (unwound k)
bottom_of g [] h p = tt
bottom_of g (In e got ∷ k) h p = absurd h
bottom_of g (To place ∷ k) h p = absurd h
bottom_of g (Doing t Turns ∷ k) h p = bottom_of g k p.0 p.1
bottom_of g (Doing t (InArm more) ∷ k) h p = bottom_of g k p.0 p.1
bottom_of g (Doing t Tests ∷ k) h p = absurd (body_turn t Tests h)
bottom_of g (Doing t Begins ∷ k) h p = absurd (body_turn t Begins h)
bottom_of g (Doing t Steps ∷ k) h p = absurd (body_turn t Steps h)
bottom_of g (Doing t (Picks arm more) ∷ k) h p = absurd (body_turn t (Picks arm more) h)
bottom_of g (Doing t Chooses ∷ k) h p = absurd (body_turn t Chooses h)
bottom_of g (Doing t Fills ∷ k) h p = absurd (body_turn t Fills h)
bottom_of g (Doing t (AtItem item rest) ∷ k) h p = absurd (body_turn t (AtItem item rest) h)
bottom_of g (Doing t (Items item rest) ∷ k) h p = absurd (body_turn t (Items item rest) h)
bottom_of g (Doing t Blanks ∷ k) h p = absurd (body_turn t Blanks h)
bottom_of g (Before ss ∷ k) h p = bottom_of g k p.0 p.1
bottom_of g (Returns d ∷ k) h p = tt
bottom_of g (Resumes d x ∷ k) h p = tt

-- ---- loops that are left with the function
-- Leaving from here is leaving from below the loops.
pub record Through (n : ℕ) (s : List Waiting) (k : List Waiting) : Type 0 where
  pub below : List Waiting
  pub is : plain_behind below ≡ k
  pub same : (m : Memory) (w : World Held) → leave n s m w ≡ leave n below m w
  pub cost : restoring s ≡ restoring below
  pub least : least_leave s ≡ least_leave below

pub through_none : (n : ℕ) (s k : List Waiting) → plain_behind s ≡ k → Through n s k
through_none n s k e = record { below = s; is = e; same = λ m w. refl; cost = refl; least = refl }

through_loop : (n : ℕ) (s : List Waiting) (body : Tree) (r : List Task) (k b : List Waiting) → plain_behind s ≡ InLoop body r ∷ k → ((s' : List Waiting) → plain_behind s' ≡ k → Through n s' b) → Through n s b
through_loop n s body r k b e next =
    let o = loop_on s body r k e in
    let t = next o.rest o.below in
    record {
      below = t.below;
      is = t.is;
      same = λ m w. ap (λ x. leave n x m w) o.is ∙ t.same m w;
      cost = ap restoring o.is ∙ t.cost;
      least = ap least_leave o.is ∙ t.least;
    }

arm_stack : (g : Ground) (j : Jumps) (t : Statement) (more : tree.Arms) (c : List Task) (s : List Waiting) → stack_doing g j t (InArm more) c s ≡ s
arm_stack g j (tree.Loop shape begin condition step body line) more c s = refl
arm_stack g j (tree.Switch value cases default ss line) more c s = refl
arm_stack g j _ more c s = refl

turns_through : (g : Ground) (j : Jumps) (n : ℕ) (t : Statement) (c : List Task) (k b s : List Waiting) → plain_behind s ≡ stack_doing g j t Turns c k → ((s' : List Waiting) → plain_behind s' ≡ k → Through n s' b) → Through n s b
turns_through g j n (tree.Loop While begin condition step body line) c k b s e next = through_loop n s _ c k b e next
turns_through g j n (tree.Loop Do begin condition step body line) c k b s e next = through_loop n s _ _ _ b e (λ s' e'. through_loop n s' _ c k b e' next)
turns_through g j n (tree.Loop For begin condition step body line) c k b s e next = through_loop n s _ _ _ b e (λ s' e'. through_loop n s' _ c k b e' next)
turns_through g j n (tree.Switch value cases default ss line) c k b s e next = through_loop n s _ c k b e next
turns_through g j n _ c k b s e next = next s e

loops_through : (n : ℕ) (xs : List Looped) (k b s : List Waiting) → plain_behind s ≡ stacked xs k → ((s' : List Waiting) → plain_behind s' ≡ k → Through n s' b) → Through n s b
loops_through n [] k b s e next = next s e
loops_through n (x ∷ xs) k b s e next = through_loop n s x.body x.code (stacked xs k) b e (λ s' e'. loops_through n xs k b s' e' next)

pub through : (z : Scene) (g : Ground) (n : ℕ) (k : List Pending) (s : List Waiting) → plain_behind s ≡ stack_after z g k → Through n s (stack_after z g (unwound k))
through z g n [] s e = through_none n s [] e
through z g n (In x got ∷ k) s e = through_none n s (stack_after z g k) e
through z g n (To place ∷ k) s e = through_none n s (stack_after z g k) e
through z g n (Before ss ∷ k) s e = loops_through n (inner_loops g (jumps k) (switch_on k) ss) (stack_after z g k) (stack_after z g (unwound k)) s e (λ s' e'. through z g n k s' e')
through z g n (Doing t Turns ∷ k) s e = turns_through g (jumps k) n t (code_after g k) (stack_after z g k) (stack_after z g (unwound k)) s e (λ s' e'. through z g n k s' e')
through z g n (Doing t (InArm more) ∷ k) s e = through z g n k s (e ∙ arm_stack g (jumps k) t more (code_after g k) (stack_after z g k))
through z g n (Doing t Tests ∷ k) s e = through_none n s (stack_after z g (Doing t Tests ∷ k)) e
through z g n (Doing t Begins ∷ k) s e = through_none n s (stack_after z g (Doing t Begins ∷ k)) e
through z g n (Doing t Steps ∷ k) s e = through_none n s (stack_after z g (Doing t Steps ∷ k)) e
through z g n (Doing t (Picks arm more) ∷ k) s e = through_none n s (stack_after z g (Doing t (Picks arm more) ∷ k)) e
through z g n (Doing t Chooses ∷ k) s e = through_none n s (stack_after z g (Doing t Chooses ∷ k)) e
through z g n (Doing t Fills ∷ k) s e = through_none n s (stack_after z g (Doing t Fills ∷ k)) e
through z g n (Doing t (AtItem item rest) ∷ k) s e = through_none n s (stack_after z g (Doing t (AtItem item rest) ∷ k)) e
through z g n (Doing t (Items item rest) ∷ k) s e = through_none n s (stack_after z g (Doing t (Items item rest) ∷ k)) e
through z g n (Doing t Blanks ∷ k) s e = through_none n s (stack_after z g (Doing t Blanks ∷ k)) e
through z g n (Returns d ∷ k) s e = through_none n s (stack_after z g (Returns d ∷ k)) e
through z g n (Resumes d x ∷ k) s e = through_none n s (stack_after z g (Resumes d x ∷ k)) e

-- ---- copies that are no longer active
or_right : (a b : Bool) → b ≡ true → (a || b) ≡ true
or_right true b e = refl
or_right false b e = e

fewer_alive : (c : CopyOf) (live : List CopyOf) (object : object.Object) → is_alive live object ≡ true → is_alive (c ∷ live) object ≡ true
unfolding is_alive
fewer_alive c live (objects.Fixed n) e = refl
fewer_alive c live (objects.Variable d n) e = or_right (same_copy c d) (is_among live d) e

pub agrees_fewer : (z : Scene) (c : CopyOf) (live : List CopyOf) (l : source.Memory) (m : Memory) → Agrees z (c ∷ live) l m → Agrees z live l m
agrees_fewer z c live l m a object at there alive lt = a object at there (fewer_alive c live object alive) lt

-- what the handler interrupts isn't the end of a function
abbrev pub IsResumable : Focus → Type 0
IsResumable (Leaves v) = ⊥
IsResumable _ = Unit {0}

pub resumed_copy : (d : CopyOf) (x : Focus) (k : List Pending) → IsResumable x → copy_at d x k ≡ d
resumed_copy d (Leaves v) k h = absurd h
resumed_copy d _ k h = refl

pub resumed_stack : (z : Scene) (g : Ground) (x : Focus) (k : List Pending) → IsResumable x → stack_at z g x k ≡ stack_after z g k
resumed_stack z g (Leaves v) k h = absurd h
resumed_stack z g _ k h = refl

-- ---- a body's end
abbrev pub Lasts : List Pending → Type 0
Lasts (Resumes d x ∷ k) = IsResumable x
Lasts _ = Unit {0}

abbrev pub end_least : List Pending → ℕ
end_least (Returns d ∷ k) = 1
end_least (Resumes d x ∷ k) = 1
end_least _ = 0

restoring_few : (s : List Waiting) → restoring s ≤ 100
restoring_few [] = omega arith
restoring_few (InLoop body c ∷ s) = restoring_few s
restoring_few (InCall p c ∷ s) = omega arith
restoring_few (InHandler p a c ∷ s) = omega arith

module _ (z : Scene) (cp : CopyOf) (l : source.Memory) (w : World value.Byte) (due : is_due (arrived z.outside w) ≡ false) (r : List Task) (s : List Waiting) (m : Memory) (c : Machine) (p : Placed (core_in z) (number z cp) None (Todo [] code.Leave ∷ r) s m (world_as (held z) (arrived z.outside w)) c) where
  abbrev W : World Held
  W = world_as (held z) (arrived z.outside w)

  -- the step by which byte code leaves, where it comes so
  left_by : (T : Machine → Type 0) (k : List Waiting) (t : Through (number z cp) c.stack k) (most y : ℕ) (d : Machine) → 4 + restoring t.below ≤ most → leave (number z cp) t.below m W ≡ Goes d → y ≤ least_leave t.below → T d → Comes (core_in z) T most y c
  unfolding operate cost_of
  left_by T k t most y d few e least is =
      let f = front c.code code.Leave r p.code in
      let em = most_operates (core_in z) (number z cp) None (Todo [] code.Leave ∷ r) s m W c p code.Leave r f (due_below z (arrived z.outside w) due) in
      let el = least_operates (core_in z) (number z cp) None (Todo [] code.Leave ∷ r) s m W c p code.Leave r f (due_below z (arrived z.outside w) due) in
      let tc = t.cost in
      let tl = t.least in
      comes_within (core_in z) T (most + 0) (y + 0) most y c
      (comes_first (core_in z) T 0 0 most y c d
      (operates (core_in z) (number z cp) None (Todo [] code.Leave ∷ r) s m W c p code.Leave r f (due_below z (arrived z.outside w) due) ∙ t.same m W ∙ e)
      (omega arith) (omega arith)
      (comes_here (core_in z) T d is))
      (omega arith) (omega arith)

  ended_world : arrived z.outside (noted Ended W) ≡ world_as (held z) (arrived z.outside (noted Ended (arrived z.outside w)))
  ended_world = ap (arrived z.outside) (noted_as (held z) Ended (arrived z.outside w)) ∙ arrived_as (held z) z.outside (noted Ended (arrived z.outside w))

  left_world : arrived z.outside (left W) ≡ world_as (held z) (arrived z.outside (left (arrived z.outside w)))
  left_world = ap (arrived z.outside) (left_as (held z) (arrived z.outside w)) ∙ arrived_as (held z) z.outside (left (arrived z.outside w))

  -- a function is left with a value, whose bytes are the results of its root
  pub function_left : (v : Datum) (d : CopyOf) (k : List Pending) (t : Through (number z cp) c.stack (stack_after z (ground_in z cp) (Returns d ∷ k))) → Agrees z (active cp Past (Returns d ∷ k)) l m → Holds z (ground_in z d) k m → HasValue z (ground_in z cp) (Leaves v) (Returns d ∷ k) m
      → Comes (core_in z) (Mirrors z (state cp (Leaves v) (Returns d ∷ k) l (arrived z.outside w))) 4 1 c
  unfolding active
  function_left v d k t agrees holds value =
      let o = call_on t.below (number z d) (code_after (ground_in z d) k) (stack_after z (ground_in z d) k) t.is in
      let e : Machine = record { copy = number z d; passing = None; code = o.code; stack = o.rest; memory = m; world = W } in
      let least : 1 ≤ least_leave t.below = let q = ap least_leave o.is in omega arith in
      left_by (Mirrors z (state cp (Leaves v) (Returns d ∷ k) l (arrived z.outside w))) (stack_after z (ground_in z cp) (Returns d ∷ k)) t 4 1 e (let q = ap restoring o.is in omega arith)
      (ap (λ x. leave (number z cp) x m W) o.is)
      least
      (mirrors z cp (Leaves v) (Returns d ∷ k) l (arrived z.outside w) m e (record { copy = refl; passing = refl; code = o.behind; stack = o.below; memory = refl; world = arrived_as (held z) z.outside (arrived z.outside w) }) agrees holds value)

  main_ends : (t : Through (number z cp) c.stack []) → Agrees z (active cp Past []) l m → Comes (core_in z) (Mirrors z (state cp Over [] l (noted Ended (arrived z.outside w)))) 104 0 c
  unfolding active
  main_ends t agrees =
      let none = none_on t.below t.is in
      let e : Machine = record { copy = number z cp; passing = None; code = core.Over ∷ []; stack = []; memory = m; world = noted Ended W } in
      left_by (Mirrors z (state cp Over [] l (noted Ended (arrived z.outside w)))) [] t 104 0 e (let q = restoring_few t.below in omega arith)
      (ap (λ x. leave (number z cp) x m W) none)
      (omega arith)
      (mirrors z cp Over [] l (noted Ended (arrived z.outside w)) m e (record { copy = refl; passing = refl; code = refl; stack = refl; memory = refl; world = ended_world }) (agrees_fewer z cp [] l m agrees) tt tt)

  handler_ends : (d : CopyOf) (x : Focus) (k : List Pending) (t : Through (number z cp) c.stack (stack_after z (ground_in z cp) (Resumes d x ∷ k))) → IsResumable x → Agrees z (active cp Past (Resumes d x ∷ k)) l m → HasValue z (ground_in z d) x k m → Holds z (ground_in z d) k m
      → Comes (core_in z) (Mirrors z (state d x k l (left (arrived z.outside w)))) 104 1 c
  unfolding active
  handler_ends d x k t resumable agrees value holds =
      let o = handler_on t.below (number z d) None (code_at z (ground_in z d) x k) (stack_after z (ground_in z d) k) t.is in
      let e : Machine = record { copy = number z d; passing = None; code = o.code; stack = o.rest; memory = m; world = left W } in
      let least : 1 ≤ least_leave t.below = let q = ap least_leave o.is in omega arith in
      left_by (Mirrors z (state d x k l (left (arrived z.outside w)))) (stack_after z (ground_in z cp) (Resumes d x ∷ k)) t 104 1 e (let q = restoring_few t.below in omega arith)
      (ap (λ y. leave (number z cp) y m W) o.is)
      least
      (mirrors z d x k l (left (arrived z.outside w)) m e
      (record { copy = ap (number z) (sym (resumed_copy d x k resumable)); passing = refl; code = o.behind; stack = o.below ∙ sym (resumed_stack z (ground_in z d) x k resumable); memory = refl; world = left_world })
      (agrees_fewer z cp (active d x k) l m agrees) holds value)

  -- whatever lies below the body
  pub body_ends : (k : List Pending) → IsBottom k → Lasts k → Through (number z cp) c.stack (stack_after z (ground_in z cp) k) → Agrees z (active cp Past k) l m → Holds z (ground_in z cp) k m → Follow z 104 (end_least k) c (proceed k cp l (arrived z.outside w))
  body_ends [] b last t a h = main_ends t a
  body_ends (In e got ∷ k) b last t a h = absurd b
  body_ends (To place ∷ k) b last t a h = absurd b
  body_ends (Doing x stage ∷ k) b last t a h = absurd b
  body_ends (Before ss ∷ k) b last t a h = absurd b
  body_ends (Returns d ∷ k) b last t a h =
      comes_within (core_in z) (Mirrors z (state cp (Leaves datum.Missing) (Returns d ∷ k) l (arrived z.outside w))) 4 1 104 1 c (function_left datum.Missing d k t a h (λ i lt. absurd (omega arith))) (omega arith) (omega arith)
  body_ends (Resumes d x ∷ k) b last t a h = handler_ends d x k t last a h.0 h.1
