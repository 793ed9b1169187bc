-- A moment of both machines as one datum: what is left to do by plans, and what is known there.
use Rattle.std.proofs.Common.{◌≡◌, ℕ, ◌<◌, ◌≤◌, Bool, true, false, if◌then◌else◌, List, [], ◌∷◌, ◌++◌, Option, Some, None, refl, sym, ap, ◌∙◌, subst, arith}
use Rattle.std.proofs.lemmas.Bool.{eqb-true}
use Rattle.pic_world.specs.Roots.{same_root}
use Rattle.pic_world.specs.World.{World}
use Rattle.core_code.specs.Bytes.{Held, Object, Memory, behind}
use Rattle.core_code.specs.Machine as task
use Rattle.core_code.specs.Machine.{Machine, Task, Waiting, Next, Goes, Stuck, Still, goes, when}
use Rattle.core_code.specs.Operands.{number_behind, number_from, number_left}
use Rattle.core_code.specs.Tree.{Tree, list_of}
use Rattle.core_code.specs.declared.code.Byte.{Byte}
use Rattle.core_code.specs.declared.code.Byte.TheVariants.{Frame}
use Rattle.narrow_code.specs.Marks.{Mark, Numbers, Same, Marks, Holds, IsBelow, marked, marked_on, agree, Below}
use Rattle.narrow_code.specs.Plans as plans
use Rattle.narrow_code.specs.Plans.{Plan, Plans, NoPlan, AndPlan, given, made, all_given, all_made, Narrowing, given_program, made_program}
use Rattle.narrow_code.specs.Right.{Ends, Fits, AllFit}
use Rattle.narrow_code.proofs.Memory.{Alike, lower, lower_refl}

-- ---- what is left
pub data Job : Type 0 where
  -- a plan, with what stands before it in both programs
  ToDo : List Tree → List Tree → Plan → Job
  ToPut : Byte → Held → Job
  ToPutBit : Byte → ℕ → Job
  ToPutBack : ℕ → ℕ → Job
  ToJoin : Job
  ToLoad : Byte → Object → ℕ → ℕ → Job
  ToStore : Object → ℕ → Byte → ℕ → Job
  ToRead : List ℕ → Job
  ToEnd : Job

pub data Hold : Type 0 where
  HoldLoop : Marks → Marks → Plan → List Job → Hold
  HoldCall : ℕ → List Job → Hold
  HoldHandler : ℕ → Option ℕ → List Job → Hold

abbrev pub one : Job → Task
one (ToDo before with t) = task.Do before (given t)
one (ToPut to held) = task.Put to held
one (ToPutBit to value) = task.PutBit to value
one (ToPutBack register value) = task.PutBack register value
one ToJoin = task.Join
one (ToLoad to object offset n) = task.LoadFrom to object offset n
one (ToStore object offset from n) = task.StoreTo object offset from n
one (ToRead bytes) = task.Reading bytes
one ToEnd = task.Over

abbrev pub other : Job → Task
other (ToDo before with t) = task.Do with (made t)
other (ToPut to held) = task.Put to held
other (ToPutBit to value) = task.PutBit to value
other (ToPutBack register value) = task.PutBack register value
other ToJoin = task.Join
other (ToLoad to object offset n) = task.LoadFrom to object offset n
other (ToStore object offset from n) = task.StoreTo object offset from n
other (ToRead bytes) = task.Reading bytes
other ToEnd = task.Over

abbrev pub ones : List Job → List Task
ones [] = []
ones (j ∷ js) = one j ∷ ones js

abbrev pub others : List Job → List Task
others [] = []
others (j ∷ js) = other j ∷ others js

abbrev pub one_waits : Hold → Waiting
one_waits (HoldLoop front behind body js) = task.InLoop (given body) (ones js)
one_waits (HoldCall p js) = task.InCall p (ones js)
one_waits (HoldHandler p a js) = task.InHandler p a (ones js)

abbrev pub other_waits : Hold → Waiting
other_waits (HoldLoop front behind body js) = task.InLoop (made body) (others js)
other_waits (HoldCall p js) = task.InCall p (others js)
other_waits (HoldHandler p a js) = task.InHandler p a (others js)

abbrev pub one_stack : List Hold → List Waiting
one_stack [] = []
one_stack (h ∷ s) = one_waits h ∷ one_stack s

abbrev pub other_stack : List Hold → List Waiting
other_stack [] = []
other_stack (h ∷ s) = other_waits h ∷ other_stack s

-- the loops of the body that runs
abbrev pub loops_of : List Hold → List Ends
loops_of [] = []
loops_of (HoldLoop front behind body js ∷ s) = record { front = front; behind = behind } ∷ loops_of s
loops_of (HoldCall p js ∷ s) = []
loops_of (HoldHandler p a js ∷ s) = []

-- ---- the code that is left is right, from what is known
-- what stands before an operation leaves the same numbers
abbrev pub SameCounts : List Tree → List Tree → Type 0
SameCounts before with = (y : Byte) → number_left before y ≡ number_left with y

abbrev pub AtEnd : ℕ → List Ends → Marks → Type 0
AtEnd p [] here = Unit {0}
AtEnd p (e ∷ es) here = Below p e.front here

module _ (lent : ℕ → Bool) (p : ℕ) (loops : List Ends) where
  abbrev pub Runs : Marks → List Job → Type 0
  Runs here [] = AtEnd p loops here
  Runs here (ToDo before with t ∷ js) = SameCounts before with × (mid : Marks) × Fits lent p loops here t mid × (low : Marks) × Below p low mid × Runs low js
  Runs here (ToPut to held ∷ js) = (k : Mark) × (mid : Marks) × Holds k held held × Below p mid (marked here to k) × Runs mid js
  Runs here (ToPutBit to value ∷ js) = (value < 256) × (mid : Marks) × Below p mid (marked here to Numbers) × Runs mid js
  Runs here (ToPutBack register value ∷ js) = Runs here js
  Runs here (ToJoin ∷ js) = Runs here js
  Runs here (ToLoad to object offset n ∷ js) = (mid : Marks) × Below p mid (marked_on here to n) × Runs mid js
  Runs here (ToStore object offset from n ∷ js) = (agree lent p here from n ≡ true) × (low : Marks) × Below p low here × Runs low js
  Runs here (ToRead bytes ∷ js) = Runs here js
  Runs here (ToEnd ∷ js) = Unit {0}

  -- from less than what is known
  abbrev pub Weak : Marks → List Job → Type 0
  Weak here js = (low : Marks) × Below p low here × Runs low js

module _ (x : Narrowing) where
  -- parameters that a copy has got
  abbrev pub Passes : ℕ → Marks → Option ℕ → Type 0
  Passes p known None = Unit {0}
  Passes p known (Some callee) = (x.rank p < x.rank callee) × (same_root (x.rest.root p) (x.rest.root callee) ≡ true) × Below callee (λ byte. Same) known

  -- these wait below a copy of the handler
  abbrev pub Interrupts : ℕ → Marks → Option ℕ → ℕ → Type 0
  Interrupts q known None p = Unit {0}
  Interrupts q known (Some callee) p = (x.rank callee < x.rank p) × Passes q known (Some callee)

  -- what waits
  abbrev pub Stands : ℕ → Marks → List Hold → Type 0
  Stands p known [] = Unit {0}
  Stands p known (HoldLoop front behind body js ∷ s) =
      Fits x.lent p (record { front = front; behind = behind } ∷ loops_of s) front body front × Weak x.lent p (loops_of s) behind js × Stands p known s
  Stands p known (HoldCall q js ∷ s) = (x.rank q < x.rank p) × ((mid : Marks) × Below q mid known × Runs x.lent q (loops_of s) mid js) × Stands q known s
  Stands p known (HoldHandler q a js ∷ s) =
      (x.rank q < x.rank p) × Interrupts q known a p × ((mid : Marks) × Below q mid known × Runs x.lent q (loops_of s) mid js) × Stands q known s

  -- ---- a moment
  pub record State : Type 0 where
    pub copy : ℕ
    pub passing : Option ℕ
    pub jobs : List Job
    pub holds : List Hold
    pub memory : Memory
    pub second : Memory
    pub world : World Held
    pub here : Marks
    pub known : Marks

  abbrev pub first_machine : State → Machine
  first_machine t = record { copy = t.copy; passing = t.passing; code = ones t.jobs; stack = one_stack t.holds; memory = t.memory; world = t.world }

  abbrev pub second_machine : State → Machine
  second_machine t = record { copy = t.copy; passing = t.passing; code = others t.jobs; stack = other_stack t.holds; memory = t.second; world = t.world }

  pub record Stays (t : State) : Type 0 where
    pub alike : Alike x.lent t.known t.memory t.second
    pub link : Below t.copy t.here t.known
    pub stands : Stands t.copy t.known t.holds
    pub passes : Passes t.copy t.known t.passing
    pub runs : Runs x.lent t.copy (loops_of t.holds) t.here t.jobs

  -- ---- what a step of both comes to
  pub data Outcome (a b : Next) : Type 0 where
    Halts : a ≡ Stuck → Outcome a b
    Rests : a ≡ Still → b ≡ Still → Outcome a b
    Moves : (t : State) → Stays t → a ≡ Goes (first_machine t) → b ≡ Goes (second_machine t) → Outcome a b

  pub when_same : (t : Bool) (a b : Next) → (t ≡ true → Outcome a b) → Outcome (when t a) (when t b)
  when_same true a b h = h refl
  when_same false a b h = Halts refl

  pub when_both : (t r : Bool) (a b : Next) → (t ≡ true → (r ≡ true) × Outcome a b) → Outcome (when t a) (when r b)
  when_both true r a b h = let p = h refl in subst (λ (z : Bool). Outcome a (when z b)) (sym p.0) p.1
  when_both false r a b h = Halts refl

  pub if_both : (t : Bool) (a b c d : Next) → (t ≡ true → Outcome a b) → (t ≡ false → Outcome c d) → Outcome (if t then a else c) (if t then b else d)
  if_both true a b c d h k = h refl
  if_both false a b c d h k = k refl

  -- ---- what waits is kept where what is known changes above it
  pub below_kept : (r q : ℕ) (mid known next : Marks) → ((c offset : ℕ) → x.rank c < r → next (Frame c offset) ≡ known (Frame c offset)) → x.rank q < r → Below q mid known → Below q mid next
  below_kept r q mid known next same low h c offset e =
      subst (λ (k : Mark). IsBelow (mid (Frame c offset)) k) (sym (same c offset (subst (λ (z : ℕ). x.rank z < r) (sym (eqb-true c q e)) low))) (h c offset e)

  pub stands_kept : (r p : ℕ) (known next : Marks) (s : List Hold) → ((c offset : ℕ) → x.rank c < r → next (Frame c offset) ≡ known (Frame c offset)) → x.rank p ≤ r
      → Stands p known s → Stands p next s
  stands_kept r p known next [] same low h = tt
  stands_kept r p known next (HoldLoop front behind body js ∷ s) same low h = (h.0, h.1, stands_kept r p known next s same low h.2)
  stands_kept r p known next (HoldCall q js ∷ s) same low h =
      let rises = h.0 in
      (h.0, (h.1.0, below_kept r q h.1.0 known next same (omega arith) h.1.1, h.1.2), stands_kept r q known next s same (omega arith) h.2)
  stands_kept r p known next (HoldHandler q None js ∷ s) same low h =
      let rises = h.0 in
      (h.0, tt, (h.2.0, below_kept r q h.2.0 known next same (omega arith) h.2.1, h.2.2), stands_kept r q known next s same (omega arith) h.3)
  stands_kept r p known next (HoldHandler q (Some callee) js ∷ s) same low h =
      let rises = h.0 in let up = h.1.0 in
      (h.0, (h.1.0, (h.1.1.0, h.1.1.1, below_kept r callee (λ byte. Same) known next same (omega arith) h.1.1.2)), (h.2.0, below_kept r q h.2.0 known next same (omega arith) h.2.1, h.2.2), stands_kept r q known next s same (omega arith) h.3)

-- ---- what waits for nothing
-- the jobs of several plans, in front of what is left
abbrev pub jobs : List Tree → List Tree → Plans → List Job → List Job
jobs before with NoPlan js = js
jobs before with (AndPlan t ts) js = ToDo before with t ∷ jobs (before ++ given t ∷ []) (with ++ made t ∷ []) ts js

pub jobs_first : (before with : List Tree) (ts : Plans) (js : List Job) → task.tasks before (list_of (all_given ts)) (ones js) ≡ ones (jobs before with ts js)
jobs_first before with NoPlan js = refl
jobs_first before with (AndPlan t ts) js = ap (λ (c : List Task). task.Do before (given t) ∷ c) (jobs_first (before ++ given t ∷ []) (with ++ made t ∷ []) ts js)

pub jobs_second : (before with : List Tree) (ts : Plans) (js : List Job) → task.tasks with (list_of (all_made ts)) (others js) ≡ others (jobs before with ts js)
jobs_second before with NoPlan js = refl
jobs_second before with (AndPlan t ts) js = ap (λ (c : List Task). task.Do with (made t) ∷ c) (jobs_second (before ++ given t ∷ []) (with ++ made t ∷ []) ts js)

number_behind_last : (y : Byte) (left : Option ℕ) (ts : List Tree) (t : Tree) → number_from y left (ts ++ t ∷ []) ≡ number_behind y (number_from y left ts) t
number_behind_last y left [] t = refl
number_behind_last y left (u ∷ ts) t = number_behind_last y (number_behind y left u) ts t

number_same : (y : Byte) (left : Option ℕ) (t : Plan) → number_behind y left (given t) ≡ number_behind y left (made t)
number_same y left (plans.Stays t) = refl
number_same y left (plans.Narrowed op ty to a b) = refl
number_same y left (plans.Choice test size plans.Whole first second) = refl
number_same y left (plans.Choice test size plans.Low first second) = refl
number_same y left (plans.Choice test size plans.Turned first second) = refl
number_same y left (plans.Several ts) = refl
number_same y left (plans.Repeat front behind body) = refl

counts_on : (before with : List Tree) (t : Plan) → SameCounts before with → SameCounts (before ++ given t ∷ []) (with ++ made t ∷ [])
counts_on before with t same y =
    number_behind_last y None before (given t) ∙ ap (λ (n : Option ℕ). number_behind y n (given t)) (same y) ∙ number_same y (number_left with y) t ∙ sym (number_behind_last y None with (made t))

pub jobs_run : (lent : ℕ → Bool) (p : ℕ) (loops : List Ends) (here after : Marks) (before with : List Tree) (ts : Plans) (js : List Job)
    → SameCounts before with → AllFit lent p loops here ts after → Weak lent p loops after js → Weak lent p loops here (jobs before with ts js)
jobs_run lent p loops here after before with NoPlan js same fits runs = (runs.0, lower p runs.0 after here runs.1 fits, runs.2)
jobs_run lent p loops here after before with (AndPlan t ts) js same fits runs =
    let rest = jobs_run lent p loops fits.0 after (before ++ given t ∷ []) (with ++ made t ∷ []) ts js (counts_on before with t same) fits.2 runs in
    (here, lower_refl p here, (same, fits.0, fits.1, rest.0, rest.1, rest.2))
