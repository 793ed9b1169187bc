-- Laws of the machine of the source, as they are read.
use Rattle.std.specs.Prelude.{◌≡◌, ℕ, ◌+◌, ◌*◌, ◌<◌, ◌≤◌, true, false, Bool, List, [], ◌∷◌, ◌++◌, length, Option, Some, None}
use Rattle.std.specs.List.{All}
use Rattle.call_graph.specs.Levels.{IsAcyclic}
use Rattle.c_typed.specs.Chains.{graph_of}
use Rattle.c_typed.specs.Roots.{broken_root}
use Rattle.c_typed.specs.Sound.{is_sound}
use Rattle.c_typed.specs.TreeNodes.{nodes_of}
use Rattle.c_typed.specs.Trees as tree
use Rattle.c_typed.specs.Trees.{Expressions, Program}
use Rattle.c_typed.specs.declared.types.Ty.{Ty}
use Rattle.pic_world.specs.World.{Happening, Outside, arrived, entered, left}
use Rattle.pic_world.specs.declared.Root.TheVariants.{Isr}
use Rattle.src_rules.specs.Numbers.{ProgramHasNumbers}
use Rattle.src_rules.specs.Runs.{run, moment, is_taken, is_ready, ready, after}
use Rattle.src_rules.specs.Standing.{IsThere, Keeps, Stands}
use Rattle.src_rules.specs.State.{State, Outcome, Went, Undefined, Idle, Lost, state}
use Rattle.src_rules.specs.Statements.{unwound}
use Rattle.src_rules.specs.Step.{copy_of, start, step, counts, enters}
use Rattle.src_rules.specs.Weights.{weight}
use Rattle.src_values.specs.Control.{Focus, Run, Past, Got, Args, Passed, callers, Pending, In, To, Doing, Before, Returns, Resumes}
use Rattle.src_values.specs.Data.{Datum}
use Rattle.src_values.specs.Memory.{Setting}
use Rattle.src_values.specs.Objects.{is_among, object_bytes}
use Rattle.src_values.specs.declared.objects.Byte.{Byte}
use Rattle.src_values.specs.declared.objects.CopyOf.{CopyOf}
use Rattle.src_values.specs.declared.objects.Object.{Object}

-- ---- what is given
-- A typed program whose roots are main and at most one handler.
pub record IsProper (p : Program) : Type 0 where
  pub sound : is_sound p ≡ true
  pub roots : broken_root p ≡ None
  pub numbers : ProgramHasNumbers p

-- what comes from outside are bytes
abbrev pub IsOfBytes : Outside → Type 0
IsOfBytes o = All (λ byte. byte < 256) o.input

-- ---- states that stand
-- A run begins in a state that stands.
abbrev pub StartStands : Type 0
StartStands = (s : Setting) → IsProper s.program → Stands s.program (start s)

-- From a state that stands each micro-step goes on to one that stands, or it is undefined, or there is none to take: a rule
-- is there for it.
abbrev pub StepsKeep : Type 0
StepsKeep = (s : Setting) → IsProper s.program → IsOfBytes s.outside → (t : State) → Stands s.program t → Keeps s.program (step s t)

-- So each moment of a run stands, and a rule is there for its step.
abbrev pub MomentsStand : Type 0
MomentsStand = (s : Setting) → IsProper s.program → IsOfBytes s.outside → (n : ℕ) → Stands s.program (moment s n) × Keeps s.program (step s (moment s n))

-- ---- micro-steps that don't count
-- The weight falls in each.
abbrev pub WeightFalls : Type 0
WeightFalls =
    (s : Setting) (t : State) → Stands s.program t → counts s t ≡ false → (u : State) (event : Option (Happening Byte)) → step s t ≡ Went u event
    → weight s u < weight s t

-- A state comes behind another one, after micro-steps that don't count, and there the next one counts, or there is none.
pub record IsReadyBehind (s : Setting) (t u : State) : Type 0 where
  pub count : ℕ
  pub at : u ≡ run s count t
  pub few : count ≤ weight s t
  pub ready : is_ready s u ≡ true
  pub before : (n : ℕ) → n < count → (counts s (run s n t) ≡ false) × (is_taken (step s (run s n t)) ≡ true)

-- So the next step is found within the weight.
abbrev pub ReadyComes : Type 0
ReadyComes = (s : Setting) → IsProper s.program → IsOfBytes s.outside → (t : State) → Stands s.program t → IsReadyBehind s t (ready s t) × Stands s.program (ready s t)

-- ---- runs
-- so many micro-steps, and then so many more
abbrev pub RunsCompose : Type 0
RunsCompose = (s : Setting) (m n : ℕ) (t : State) → run s (m + n) t ≡ run s n (run s m t)

-- ---- what a micro-step changes
-- what the handler interrupted, and all that waits below it
abbrev pub below : List Pending → List Pending
below [] = []
below (In e got ∷ k) = below k
below (To place ∷ k) = below k
below (Doing t stage ∷ k) = below k
below (Before ss ∷ k) = below k
below (Returns c ∷ k) = below k
below (Resumes c x ∷ k) = Resumes c x ∷ k

-- a micro-step makes at most one event, and this is what it adds to the trace
abbrev pub Adds : List (Happening Byte) → Option (Happening Byte) → List (Happening Byte) → Type 0
Adds before None after = after ≡ before
Adds before (Some e) after = after ≡ before ++ e ∷ []

abbrev pub TraceGrows : Type 0
TraceGrows = (s : Setting) (t u : State) (event : Option (Happening Byte)) → step s t ≡ Went u event → Adds t.world.trace event u.world.trace

-- One that doesn't count makes no event, and changes nothing of the world but for what has arrived.
abbrev pub EventsCount : Type 0
EventsCount =
    (s : Setting) (t u : State) (event : Option (Happening Byte)) → step s t ≡ Went u event → counts s t ≡ false
    → (event ≡ None) × (u.world ≡ arrived s.outside t.world)

-- ---- the handler
-- what is left of the stack where a function ends: behind its last statement, or by a `return` without a value
abbrev pub ending : Focus → List Pending → List Pending
ending Past k = k
ending (Run (tree.Return None line)) k = unwound k
ending _ k = []

abbrev pub resumes : List Pending → Bool
resumes (Resumes c x ∷ k) = true
resumes _ = false

-- the handler ends, and what it interrupted goes on
abbrev pub leaves_handler : State → Bool
leaves_handler t = resumes (ending t.focus t.stack)

-- By the micro-step that enters it what it interrupts waits below it.
abbrev pub EntryKeepsBelow : Type 0
EntryKeepsBelow =
    (s : Setting) (t u : State) (event : Option (Happening Byte)) → step s t ≡ Went u event → enters s t ≡ true
    → (event ≡ None) × (u.world ≡ entered (arrived s.outside t.world)) × (below u.stack ≡ Resumes t.copy t.focus ∷ t.stack)

-- It stays until the handler is left ..
abbrev pub BelowStays : Type 0
BelowStays =
    (s : Setting) (t u : State) (event : Option (Happening Byte)) → step s t ≡ Went u event → enters s t ≡ false → leaves_handler t ≡ false
    → below u.stack ≡ below t.stack

-- .. and then it goes on as it was.
abbrev pub LeaveGoesOn : Type 0
LeaveGoesOn =
    (s : Setting) (t u : State) (event : Option (Happening Byte)) (c : CopyOf) (x : Focus) (k : List Pending) → step s t ≡ Went u event → enters s t ≡ false
    → ending t.focus t.stack ≡ Resumes c x ∷ k
    → (event ≡ None) × (u ≡ state c x k t.memory (left (arrived s.outside t.world)))

-- The handler is entered only directly behind an event, or behind the end of an earlier run of it.
abbrev pub EntryIsBehind : Type 0
EntryIsBehind =
    (s : Setting) (t u : State) (event : Option (Happening Byte)) → step s t ≡ Went u event → event ≡ None → leaves_handler t ≡ false
    → enters s u ≡ false

-- Nor is it entered at the start.
abbrev pub StartIsMains : Type 0
StartIsMains = (s : Setting) → enters s (start s) ≡ false

-- ---- arrivals
-- Flags that have arrived arrive again without an effect: a micro-step is the same behind them.
abbrev pub ArrivalsAreOnce : Type 0
ArrivalsAreOnce = (s : Setting) (t : State) → step s (state t.copy t.focus t.stack t.memory (arrived s.outside t.world)) ≡ step s t

-- ---- steps
-- The state behind so many steps is that of a moment of the run, and stands.
abbrev pub StepsAreMoments : Type 0
StepsAreMoments = (s : Setting) → IsProper s.program → IsOfBytes s.outside → (n : ℕ) → ((m : ℕ) × (after s n ≡ moment s m)) × Stands s.program (after s n)

-- ---- copies
abbrev pub AreDistinct : List CopyOf → Type 0
AreDistinct [] = Unit {0}
AreDistinct (c ∷ cs) = (is_among cs c ≡ false) × AreDistinct cs

-- Where no function reaches itself, no copy runs or waits twice.
abbrev pub CopiesAreDistinct : Type 0
CopiesAreDistinct = (p : Program) → IsAcyclic (graph_of p) → (t : State) → Stands p t → AreDistinct (t.copy ∷ callers t.stack)

-- So the copy whose variables a call makes anew is no copy that runs or waits ..
abbrev pub CalledIsNew : Type 0
CalledIsNew =
    (p : Program) → IsAcyclic (graph_of p) → (t : State) → Stands p t → (g : ℕ) (arguments : Expressions) (ty : Ty) (line : ℕ) (values : List Datum) (k : List Pending)
    → t.stack ≡ In (tree.Call g arguments ty line) (Passed values) ∷ k → is_among (t.copy ∷ callers t.stack) (copy_of t.copy.root g) ≡ false

-- .. nor is the handler's, where it doesn't run.
abbrev pub HandlerIsNew : Type 0
HandlerIsNew = (p : Program) (t : State) → Stands p t → t.world.inside ≡ false → (h : ℕ) → is_among (t.copy ∷ callers t.stack) (copy_of Isr h) ≡ false

-- ---- objects
-- An object that is there has at most 65,535 bytes, and so does a pointer that stands lie at most so far behind its start.
abbrev pub ObjectsAreSmall : Type 0
ObjectsAreSmall = (p : Program) → IsProper p → (object : Object) → IsThere p object → object_bytes p object ≤ 65535

-- ---- what lies below
-- another stack in place of what waits below the handler
abbrev pub onto : List Pending → List Pending → List Pending
onto new [] = []
onto new (In e got ∷ k) = In e got ∷ onto new k
onto new (To place ∷ k) = To place ∷ onto new k
onto new (Doing t stage ∷ k) = Doing t stage ∷ onto new k
onto new (Before ss ∷ k) = Before ss ∷ onto new k
onto new (Returns c ∷ k) = Returns c ∷ onto new k
onto new (Resumes c x ∷ k) = new

abbrev pub goes_onto : List Pending → Outcome → Outcome
goes_onto new (Went u event) = Went (state u.copy u.focus (onto new u.stack) u.memory u.world) event
goes_onto new (Undefined kind line) = Undefined kind line
goes_onto new Idle = Idle
goes_onto new Lost = Lost

-- The handler's micro-steps go on the same above whatever it interrupted, as long as the same copies are live there.
abbrev pub SameAbove : Type 0
SameAbove =
    (s : Setting) (t : State) (new : List Pending) → resumes new ≡ true → callers (onto new t.stack) ≡ callers t.stack → enters s t ≡ false → leaves_handler t ≡ false
    → step s (state t.copy t.focus (onto new t.stack) t.memory t.world) ≡ goes_onto new (step s t)

-- ---- how much waits
abbrev pub values_in : Got → ℕ
values_in (Args values more) = length values
values_in (Passed values) = length values
values_in _ = 0

-- The entries of a stack: each frame, and each argument that has its value.
abbrev pub entries : List Pending → ℕ
entries [] = 0
entries (In e got ∷ k) = 1 + values_in got + entries k
entries (To place ∷ k) = 1 + entries k
entries (Doing t stage ∷ k) = 1 + entries k
entries (Before ss ∷ k) = 1 + entries k
entries (Returns c ∷ k) = 1 + entries k
entries (Resumes c x ∷ k) = 1 + entries k

-- At each moment of a program in which no function reaches itself they are at most so many: for each root an entry for each node, and
-- one more for each function.
abbrev pub StackIsShort : Type 0
StackIsShort =
    (s : Setting) → IsProper s.program → IsOfBytes s.outside → IsAcyclic (graph_of s.program) → (n : ℕ)
    → entries (moment s n).stack ≤ 2 * (nodes_of s.program + length s.program.functions)
