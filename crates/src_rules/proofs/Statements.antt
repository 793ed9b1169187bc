-- Statements begin and end, and jumps, keep what stands.
use Rattle.std.proofs.Common.{◌≡◌, ℕ, Bool, true, false, List, [], ◌∷◌, Option, Some, None, refl, sym, ap, ◌∙◌, subst}
use Rattle.std.proofs.lemmas.Bool.{false≢true}
use Rattle.c_typed.specs.Sameness.{is_scalar}
use Rattle.c_typed.specs.Trees as tree
use Rattle.c_typed.specs.Trees.{Expression, Statement, Statements, Arm, Arms, LastArm, Program}
use Rattle.c_typed.specs.declared.statement.LoopForm.{LoopForm}
use Rattle.c_typed.specs.declared.statement.LoopForm.TheVariants.{While, Do, For}
use Rattle.pic_world.specs.Roots.{same_root}
use Rattle.pic_world.specs.World.{World}
use Rattle.pic_world.specs.declared.Root.{Root}
use Rattle.pic_world.specs.declared.Root.TheVariants.{Main, Isr}
use Rattle.src_rules.proofs.Keeping.{Keeps, Around, on}
use Rattle.src_rules.proofs.Memories.{cleared_stands}
use Rattle.src_rules.proofs.Worlds.{left_stands, left_inside}
use Rattle.src_rules.proofs.Writing.{items_keep}
use Rattle.src_rules.specs.Parts.{GoesTo, IsStatementOf, AreStatementsOf, AreArmsOf, IsRunnable}
use Rattle.src_rules.specs.Standing.{HasType, WaitsForEnd, IsBody, listed, leaves, repeats, IsCalled, ReturnsOf, StackStands}
use Rattle.src_rules.specs.Statements.{turn, test, first_of, next_of, loops, last, arms, break_at, continue_at, unwound, turned, proceed, handed, leave, begin}
use Rattle.src_values.specs.Control.{Called, Stage, Turns, InArm, Pending, In, To, Doing, Before, Returns, Resumes}
use Rattle.src_values.specs.Data.{Datum}
use Rattle.src_values.specs.Memory.{Setting, Memory, cleared}
use Rattle.src_values.specs.Objects.{function_at, local_of}
use Rattle.src_values.specs.declared.objects.Byte.{Byte}
use Rattle.src_values.specs.declared.objects.CopyOf.{CopyOf}

-- a declarator may stand in a list: what needs no list stands there too
pub listed_too : (p : Program) (f : ℕ) (d l r : Bool) (t : Statement) → IsStatementOf p f false l r t → IsStatementOf p f d l r t
listed_too p f true l r (tree.Block ss line) h = h
listed_too p f true l r (tree.Empty line) h = h
listed_too p f true l r (tree.Expr e line) h = h
listed_too p f true l r (tree.Declare local line) h = absurd (false≢true h.0)
listed_too p f true l r (tree.InitScalar local e line) h = absurd (false≢true h.0)
listed_too p f true l r (tree.InitList local all line) h = absurd (false≢true h.0)
listed_too p f true l r (tree.If chain otherwise line) h = h
listed_too p f true l r (tree.Loop shape first condition step body line) h = h
listed_too p f true l r (tree.Switch e cases default ss line) h = h
listed_too p f true l r (tree.Break line) h = h
listed_too p f true l r (tree.Continue line) h = h
listed_too p f true l r (tree.Return value line) h = h
listed_too p f false l r t h = h

pub all_listed : (p : Program) (f : ℕ) (l r : Bool) (ss : Statements) → AreStatementsOf p f false l r ss → AreStatementsOf p f true l r ss
all_listed p f l r tree.NoStatement h = tt
all_listed p f l r (tree.AndStatement t ts) h = (listed_too p f true l r t h.0, all_listed p f l r ts h.1)

-- a statement that is under way, above a stack
abbrev pub StandsOn : Program → CopyOf → List Pending → Statement → Type 0
StandsOn p c k t = IsStatementOf p c.function (listed k) (leaves k) (repeats k) t × WaitsForEnd k × StackStands p c k

-- what stands at the end of a function's statements
abbrev pub IsBottom : List Pending → Type 0
IsBottom [] = Unit {0}
IsBottom (In e got ∷ k) = ⊥
IsBottom (To place ∷ k) = ⊥
IsBottom (Doing t stage ∷ k) = ⊥
IsBottom (Before ss ∷ k) = ⊥
IsBottom (Returns d ∷ k) = Unit {0}
IsBottom (Resumes d x ∷ k) = Unit {0}

module _ (p : Program) where
  -- ---- loops
  pub turn_keeps : (shape : LoopForm) (first condition step : Option Expression) (body : Statement) (line : ℕ) (k : List Pending) (c : CopyOf) (m : Memory) (w : World Byte) → Around p c m w → StandsOn p c k (tree.Loop shape first condition step body line) → Keeps p (turn (tree.Loop shape first condition step body line) body k c m w)
  turn_keeps shape first condition step body line k c m w a h = on a (h.0.3, tt) (h.0, h.1, tt, h.2)

  pub test_keeps : (shape : LoopForm) (first condition step : Option Expression) (body : Statement) (line : ℕ) (k : List Pending) (c : CopyOf) (m : Memory) (w : World Byte) → Around p c m w → StandsOn p c k (tree.Loop shape first condition step body line) → Keeps p (test (tree.Loop shape first condition step body line) condition body k c m w)
  test_keeps shape first None step body line k c m w a h = turn_keeps shape first None step body line k c m w a h
  test_keeps shape first (Some e) step body line k c m w a h = on a (h.0.1.1, refl) (h.0, h.1, tt, h.2)

  first_keeps : (shape : LoopForm) (first condition step : Option Expression) (body : Statement) (line : ℕ) (k : List Pending) (c : CopyOf) (m : Memory) (w : World Byte) → Around p c m w → StandsOn p c k (tree.Loop shape first condition step body line) → Keeps p (first_of (tree.Loop shape first condition step body line) first condition body k c m w)
  first_keeps shape None condition step body line k c m w a h = test_keeps shape None condition step body line k c m w a h
  first_keeps shape (Some e) condition step body line k c m w a h = on a (h.0.0, refl) (h.0, h.1, tt, h.2)

  next_keeps : (shape : LoopForm) (first condition step : Option Expression) (body : Statement) (line : ℕ) (k : List Pending) (c : CopyOf) (m : Memory) (w : World Byte) → Around p c m w → StandsOn p c k (tree.Loop shape first condition step body line) → Keeps p (next_of (tree.Loop shape first condition step body line) step condition body k c m w)
  next_keeps shape first condition None body line k c m w a h = test_keeps shape first condition None body line k c m w a h
  next_keeps shape first condition (Some e) body line k c m w a h = on a (h.0.2, refl) (h.0, h.1, tt, h.2)

  loops_keep : (shape : LoopForm) (first condition step : Option Expression) (body : Statement) (line : ℕ) (k : List Pending) (c : CopyOf) (m : Memory) (w : World Byte) → Around p c m w → StandsOn p c k (tree.Loop shape first condition step body line) → Keeps p (loops shape (tree.Loop shape first condition step body line) first condition body k c m w)
  loops_keep While first condition step body line k c m w a h = first_keeps While first condition step body line k c m w a h
  loops_keep For first condition step body line k c m w a h = first_keeps For first condition step body line k c m w a h
  loops_keep Do first condition step body line k c m w a h = turn_keeps Do first condition step body line k c m w a h

  -- ---- if
  last_keeps : (chain : Arms) (otherwise : LastArm) (line : ℕ) (k : List Pending) (c : CopyOf) (m : Memory) (w : World Byte) → Around p c m w → StandsOn p c k (tree.If chain otherwise line) → Keeps p (last (tree.If chain otherwise line) otherwise k c m w)
  last_keeps chain tree.NoLast line k c m w a h = on a h.1 h.2
  last_keeps chain (tree.Last chosen) line k c m w a h = on a (h.0.2, tt) (h.0, h.1, tt, h.2)

  pub arms_keep : (chain more : Arms) (otherwise : LastArm) (line : ℕ) (k : List Pending) (c : CopyOf) (m : Memory) (w : World Byte) → Around p c m w → StandsOn p c k (tree.If chain otherwise line) → AreArmsOf p c.function (leaves k) (repeats k) more → Keeps p (arms (tree.If chain otherwise line) more otherwise k c m w)
  arms_keep chain tree.NoArm otherwise line k c m w a h r = last_keeps chain otherwise line k c m w a h
  arms_keep chain (tree.AndArm (tree.OneArm condition chosen at) more) otherwise line k c m w a h r = on a (r.0.0.1, refl) (h.0, h.1, r, h.2)

  -- ---- jumps
  break_keeps : (k : List Pending) (c : CopyOf) (m : Memory) (w : World Byte) → Around p c m w → WaitsForEnd k → StackStands p c k → leaves k ≡ true → Keeps p (break_at k c m w)
  break_keeps [] c m w a h st e = absurd (false≢true e)
  break_keeps (In x got ∷ k) c m w a h st e = absurd h
  break_keeps (To place ∷ k) c m w a h st e = absurd h
  break_keeps (Doing (tree.Loop shape first condition step body line) Turns ∷ k) c m w a h st e = on a st.1 st.3
  break_keeps (Doing (tree.Switch x cases default ss line) Turns ∷ k) c m w a h st e = on a st.1 st.3
  break_keeps (Doing (tree.If chain otherwise line) (InArm more) ∷ k) c m w a h st e = break_keeps k c m w a st.1 st.3 e
  break_keeps (Doing _ _ ∷ k) c m w a h st e = absurd h
  break_keeps (Before ss ∷ k) c m w a h st e = break_keeps k c m w a st.1 st.2 e
  break_keeps (Returns d ∷ k) c m w a h st e = absurd (false≢true e)
  break_keeps (Resumes d x ∷ k) c m w a h st e = absurd (false≢true e)

  continue_keeps : (k : List Pending) (c : CopyOf) (m : Memory) (w : World Byte) → Around p c m w → WaitsForEnd k → StackStands p c k → repeats k ≡ true → Keeps p (continue_at k c m w)
  continue_keeps [] c m w a h st e = absurd (false≢true e)
  continue_keeps (In x got ∷ k) c m w a h st e = absurd h
  continue_keeps (To place ∷ k) c m w a h st e = absurd h
  continue_keeps (Doing (tree.Loop shape first condition step body line) Turns ∷ k) c m w a h st e = on a tt st
  continue_keeps (Doing (tree.Switch x cases default ss line) Turns ∷ k) c m w a h st e = continue_keeps k c m w a st.1 st.3 e
  continue_keeps (Doing (tree.If chain otherwise line) (InArm more) ∷ k) c m w a h st e = continue_keeps k c m w a st.1 st.3 e
  continue_keeps (Doing _ _ ∷ k) c m w a h st e = absurd h
  continue_keeps (Before ss ∷ k) c m w a h st e = continue_keeps k c m w a st.1 st.2 e
  continue_keeps (Returns d ∷ k) c m w a h st e = absurd (false≢true e)
  continue_keeps (Resumes d x ∷ k) c m w a h st e = absurd (false≢true e)

  pub unwound_stands : (k : List Pending) (c : CopyOf) → WaitsForEnd k → StackStands p c k → IsBottom (unwound k) × StackStands p c (unwound k)
  unwound_stands [] c h st = (tt, st)
  unwound_stands (In x got ∷ k) c h st = absurd h
  unwound_stands (To place ∷ k) c h st = absurd h
  unwound_stands (Doing (tree.Loop shape first condition step body line) Turns ∷ k) c h st = unwound_stands k c st.1 st.3
  unwound_stands (Doing (tree.Switch x cases default ss line) Turns ∷ k) c h st = unwound_stands k c st.1 st.3
  unwound_stands (Doing (tree.If chain otherwise line) (InArm more) ∷ k) c h st = unwound_stands k c st.1 st.3
  unwound_stands (Doing _ _ ∷ k) c h st = absurd h
  unwound_stands (Before ss ∷ k) c h st = unwound_stands k c st.1 st.2
  unwound_stands (Returns d ∷ k) c h st = (tt, st)
  unwound_stands (Resumes d x ∷ k) c h st = (tt, st)

  -- ---- the end of a statement
  turned_keeps : (t : Statement) (stage : Stage) (k : List Pending) (c : CopyOf) (m : Memory) (w : World Byte) → Around p c m w → IsBody t stage → StackStands p c (Doing t stage ∷ k) → Keeps p (turned t stage k c m w)
  turned_keeps (tree.Loop shape first condition step body line) Turns k c m w a h st = next_keeps shape first condition step body line k c m w a (st.0, st.1, st.3)
  turned_keeps (tree.Switch x cases default ss line) Turns k c m w a h st = on a st.1 st.3
  turned_keeps (tree.If chain otherwise line) (InArm more) k c m w a h st = on a st.1 st.3
  turned_keeps _ _ k c m w a h st = absurd h

  main_outside : (r : Root) → r ≡ Main → same_root r Isr ≡ false
  main_outside r e = rw e refl

  pub proceed_keeps : (k : List Pending) (c : CopyOf) (m : Memory) (w : World Byte) → Around p c m w → WaitsForEnd k → StackStands p c k → Keeps p (proceed k c m w)
  proceed_keeps [] c m w a h st = record { reached = a.reached; focus = refl; stack = st; memory = a.memory; control = a.control; inside = a.inside }
  proceed_keeps (In x got ∷ k) c m w a h st = absurd h
  proceed_keeps (To place ∷ k) c m w a h st = absurd h
  proceed_keeps (Doing t stage ∷ k) c m w a h st = turned_keeps t stage k c m w a h st
  proceed_keeps (Before tree.NoStatement ∷ k) c m w a h st = on a st.1 st.2
  proceed_keeps (Before (tree.AndStatement t ts) ∷ k) c m w a h st = on a (st.0.0, tt) (st.0.1, st.1, st.2)
  proceed_keeps (Returns d ∷ k) c m w a h st = on a (tt, tt) st
  proceed_keeps (Resumes d x ∷ k) c m w a h st =
      record { reached = st.0; focus = st.3; stack = st.4; memory = a.memory; control = left_stands w a.control; inside = left_inside w ∙ sym (main_outside d.root st.1) }

  -- ---- the beginning of a statement
  bottom_proceeds : (k : List Pending) → IsBottom k → WaitsForEnd k
  bottom_proceeds [] h = tt
  bottom_proceeds (In e got ∷ k) h = absurd h
  bottom_proceeds (To place ∷ k) h = absurd h
  bottom_proceeds (Doing t stage ∷ k) h = absurd h
  bottom_proceeds (Before ss ∷ k) h = absurd h
  bottom_proceeds (Returns d ∷ k) h = tt
  bottom_proceeds (Resumes d x ∷ k) h = tt

cleared_around : (p : Program) (c : CopyOf) (m : Memory) (w : World Byte) (object : _) → Around p c m w → Around p c (cleared m object) w
cleared_around p c m w object a = record { reached = a.reached; memory = cleared_stands p m object a.memory; control = a.control; inside = a.inside }

pub begin_keeps : (s : Setting) (t : Statement) (k : List Pending) (c : CopyOf) (m : Memory) (w : World Byte) → Around s.program c m w → StandsOn s.program c k t → Keeps s.program (begin s t k c m w)
begin_keeps s (tree.Block ss line) k c m w a h = on a tt (h.0, h.1, h.2)
begin_keeps s (tree.Empty line) k c m w a h = on a h.1 h.2
begin_keeps s (tree.Expr e line) k c m w a h = on a (h.0, refl) (h.0, h.1, tt, h.2)
begin_keeps s (tree.Declare local line) k c m w a h = on (cleared_around s.program c m w (local_of s.program c local) a) h.1 h.2
begin_keeps s (tree.InitScalar local e line) k c m w a h = on (cleared_around s.program c m w (local_of s.program c local) a) (h.0.1.value, refl) (h.0, h.1, tt, h.2)
begin_keeps s (tree.InitList local all line) k c m w a h = items_keep s local all line 0 all k c (cleared m (local_of s.program c local)) w (cleared_around s.program c m w (local_of s.program c local) a) h.0 h.1 h.2 h.0.1.fit
begin_keeps s (tree.If chain otherwise line) k c m w a h = arms_keep s.program chain chain otherwise line k c m w a h h.0.1
begin_keeps s (tree.Loop shape first condition step body line) k c m w a h = loops_keep s.program shape first condition step body line k c m w a h
begin_keeps s (tree.Switch e cases default ss line) k c m w a h = on a (h.0.3, refl) (h.0, h.1, tt, h.2)
begin_keeps s (tree.Break line) k c m w a h = break_keeps s.program k c m w a h.1 h.2 h.0
begin_keeps s (tree.Continue line) k c m w a h = continue_keeps s.program k c m w a h.1 h.2 h.0
begin_keeps s (tree.Return None line) k c m w a h = let u = unwound_stands s.program k c h.1 h.2 in proceed_keeps s.program (unwound k) c m w a (bottom_proceeds s.program (unwound k) u.0) u.1
begin_keeps s (tree.Return (Some e) line) k c m w a h = on a (h.0.1, refl) (h.0, h.1, tt, h.2)

-- ---- a function is left
handed_keeps : (p : Program) (v : Datum) (f : ℕ) (d : CopyOf) (k : List Pending) (m : Memory) (w : World Byte) → Around p d m w → IsCalled f k → StackStands p d k → HasType p (function_at p f).result v → Keeps p (handed v d k m w)
handed_keeps p v f d (In (tree.Call g arguments ty line) Called ∷ k) m w a n st h = on a (ty, st.1, subst (λ t. HasType p t v) (ap (λ x. (function_at p x).result) (sym n) ∙ st.0.2) h) st.3
handed_keeps p v f d _ m w a n st h = absurd n

pub leave_keeps : (p : Program) (v : Datum) (k : List Pending) (c : CopyOf) (m : Memory) (w : World Byte) → Around p c m w → ReturnsOf k → StackStands p c k → HasType p (function_at p c.function).result v → Keeps p (leave v k m w)
leave_keeps p v (Returns d ∷ k) c m w a n st h =
    handed_keeps p v c.function d k m w (record { reached = st.0; memory = a.memory; control = a.control; inside = a.inside ∙ ap (λ r. same_root r Isr) st.1 }) st.2 st.3 h
leave_keeps p v _ c m w a n st h = absurd n

-- a function that gives a value was called
pub gives_to_call : (p : Program) (ok : IsRunnable p) (e : Expression) (k : List Pending) (c : CopyOf) → IsBottom k → StackStands p c k → GoesTo e (function_at p c.function).result → ReturnsOf k
gives_to_call p ok e [] c b st g = absurd (false≢true (ap is_scalar (sym (ap (λ x. (function_at p x.function).result) st ∙ ok.main_plain)) ∙ g.1))
gives_to_call p ok e (In x got ∷ k) c b st g = absurd b
gives_to_call p ok e (To place ∷ k) c b st g = absurd b
gives_to_call p ok e (Doing t stage ∷ k) c b st g = absurd b
gives_to_call p ok e (Before ss ∷ k) c b st g = absurd b
gives_to_call p ok e (Returns d ∷ k) c b st g = tt
gives_to_call p ok e (Resumes d x ∷ k) c b st g = absurd (false≢true (ap is_scalar (sym (ap (λ x. (function_at p x.function).result) st.2.2 ∙ ok.handler_plain st.2.0 st.2.1)) ∙ g.1))
