-- What is known of the statements of a sound program beside their parts: only a `for` has expressions before and behind its body, and the
-- labels of a switch are numbers of their types.
use Rattle.std.proofs.Common.{◌≡◌, ℕ, zero, suc, Bool, true, false, not, ◌&&◌, Option, Some, None, slice_get, refl}
use Rattle.std.proofs.lemmas.Bool.{and_parts}
use Rattle.std.specs.Prelude.{is_some}
use Rattle.c_typed.proofs.Facts.{body_of_sound}
use Rattle.c_typed.specs.Sound.{any_fits, any_condition_fits, switch_rule, cases_fit, default_fits, count_of, statement_fits, statements_fit, arm_fits, arms_fit, last_fits, loop_fits, is_sound}
use Rattle.c_typed.specs.Trees as tree
use Rattle.c_typed.specs.Trees.{Expression, Statement, Statements, Arm, Arms, LastArm, FunctionTree, Program}
use Rattle.c_typed.specs.Types.{type_of}
use Rattle.c_typed.specs.declared.statement.LoopForm.{LoopForm}
use Rattle.c_typed.specs.declared.statement.LoopForm.TheVariants.{While, Do, For}
use Rattle.src_rules.specs.Giving.{statements_behind}
use Rattle.src_rules.specs.Numbers.{CasesHaveNumbers, StatementHasNumbers, StatementsHaveNumbers, ArmHasNumbers, ArmsHaveNumbers, LastHasNumbers, ProgramHasNumbers}
use Rattle.src_values.specs.Objects.{function_at, or_no_function}
use Rattle.lower_trace.proofs.CaseLabels.{AreInRange, ranges_of}
use Rattle.lower_trace.proofs.Rounds.{IsLoop}

-- Loops but `for` have a condition.
abbrev pub HasTest : LoopForm → Option Expression → Type 0
HasTest While None = ⊥
HasTest Do None = ⊥
HasTest For None = Unit {0}
HasTest shape (Some e) = Unit {0}

abbrev mutual
  pub Shaped : Statement → Type 0
  Shaped (tree.Block ss line) = AreShaped ss
  Shaped (tree.Empty line) = Unit {0}
  Shaped (tree.Expr e line) = Unit {0}
  Shaped (tree.Declare local line) = Unit {0}
  Shaped (tree.InitScalar local e line) = Unit {0}
  Shaped (tree.InitList local items line) = Unit {0}
  Shaped (tree.If chain otherwise line) = ArmsShaped chain × LastShaped otherwise
  Shaped (tree.Loop shape begin condition step body line) = IsLoop shape begin step × Shaped body × HasTest shape condition
  Shaped (tree.Switch e cases default ss line) = AreInRange cases × AreShaped ss
  Shaped (tree.Break line) = Unit {0}
  Shaped (tree.Continue line) = Unit {0}
  Shaped (tree.Return value line) = Unit {0}

  pub AreShaped : Statements → Type 0
  AreShaped tree.NoStatement = Unit {0}
  AreShaped (tree.AndStatement t ts) = Shaped t × AreShaped ts

  pub ArmShaped : Arm → Type 0
  ArmShaped (tree.OneArm condition chosen line) = Shaped chosen

  pub ArmsShaped : Arms → Type 0
  ArmsShaped tree.NoArm = Unit {0}
  ArmsShaped (tree.AndArm arm more) = ArmShaped arm × ArmsShaped more

  pub LastShaped : LastArm → Type 0
  LastShaped tree.NoLast = Unit {0}
  LastShaped (tree.Last t) = Shaped t

pub behind_shaped : (n : ℕ) (ss : Statements) → AreShaped ss → AreShaped (statements_behind n ss)
behind_shaped zero ss h = h
behind_shaped (suc n) tree.NoStatement h = tt
behind_shaped (suc n) (tree.AndStatement t ts) h = behind_shaped n ts h.1

-- ---- of sound programs
left_out : (o : Option Expression) → not (is_some o) ≡ true → o ≡ None
left_out None e = refl
left_out (Some x) e = absurd (cc)

loop_shaped : (shape : LoopForm) (begin condition step : Option Expression) → loop_fits shape (is_some begin) (is_some condition) (is_some step) ≡ true → IsLoop shape begin step
loop_shaped While begin condition step e = let p = and_parts _ _ (and_parts _ _ e).1 in (left_out begin p.0, left_out step p.1)
loop_shaped Do begin condition step e = let p = and_parts _ _ (and_parts _ _ e).1 in (left_out begin p.0, left_out step p.1)
loop_shaped For begin condition step e = tt

loop_tested : (shape : LoopForm) (begin condition step : Option Expression) → loop_fits shape (is_some begin) (is_some condition) (is_some step) ≡ true → HasTest shape condition
loop_tested While begin None step e = absurd (cc)
loop_tested Do begin None step e = absurd (cc)
loop_tested For begin None step e = tt
loop_tested shape begin (Some x) step e = tt

module _ (p : Program) (f : FunctionTree) where
  mutual
    unfolding statement_fits

    shaped : (d l r : Bool) (t : Statement) → statement_fits p f d l r t ≡ true → StatementHasNumbers t → Shaped t
    shaped d l r (tree.Block ss line) e h = are_shaped true l r ss e h
    shaped d l r (tree.Empty line) e h = tt
    shaped d l r (tree.Expr x line) e h = tt
    shaped d l r (tree.Declare local line) e h = tt
    shaped d l r (tree.InitScalar local x line) e h = tt
    shaped d l r (tree.InitList local items line) e h = tt
    shaped d l r (tree.If chain otherwise line) e h = let q = and_parts _ _ (and_parts _ _ e).1 in (arms_shaped l r chain q.0 h.0, last_shaped l r otherwise q.1 h.1)
    shaped d l r (tree.Loop shape begin condition step body line) e h =
        let q = and_parts _ _ e in
        let b = statement_fits p f false true true body in
        let q1 = and_parts (any_fits p f begin) (any_condition_fits p f condition && (any_fits p f step && b)) q.1 in
        let q2 = and_parts (any_condition_fits p f condition) (any_fits p f step && b) q1.1 in
        let q3 = and_parts (any_fits p f step) b q2.1 in
        (loop_shaped shape begin condition step q.0, shaped false true true body q3.1 h.3, loop_tested shape begin condition step q.0)
    shaped d l r (tree.Switch x cases default ss line) e h =
        let b = statements_fit p f false true r ss in
        let q1 = and_parts (switch_rule p f x) (cases_fit (type_of x) (count_of ss) cases && (default_fits (count_of ss) default && b)) e in
        let q2 = and_parts (cases_fit (type_of x) (count_of ss) cases) (default_fits (count_of ss) default && b) q1.1 in
        let q3 = and_parts (default_fits (count_of ss) default) b q2.1 in
        (ranges_of CasesHaveNumbers cases (λ c cs both. both) h.1, are_shaped false true r ss q3.1 h.2)
    shaped d l r (tree.Break line) e h = tt
    shaped d l r (tree.Continue line) e h = tt
    shaped d l r (tree.Return value line) e h = tt

    pub are_shaped : (d l r : Bool) (ss : Statements) → statements_fit p f d l r ss ≡ true → StatementsHaveNumbers ss → AreShaped ss
    are_shaped d l r tree.NoStatement e h = tt
    are_shaped d l r (tree.AndStatement t ts) e h = let q = and_parts _ _ e in (shaped d l r t q.0 h.0, are_shaped d l r ts q.1 h.1)

    arm_shaped : (l r : Bool) (arm : Arm) → arm_fits p f l r arm ≡ true → ArmHasNumbers arm → ArmShaped arm
    arm_shaped l r (tree.OneArm condition chosen line) e h = shaped false l r chosen (and_parts _ _ e).1 h.1

    arms_shaped : (l r : Bool) (arms : Arms) → arms_fit p f l r arms ≡ true → ArmsHaveNumbers arms → ArmsShaped arms
    arms_shaped l r tree.NoArm e h = tt
    arms_shaped l r (tree.AndArm arm more) e h = let q = and_parts _ _ e in (arm_shaped l r arm q.0 h.0, arms_shaped l r more q.1 h.1)

    last_shaped : (l r : Bool) (otherwise : LastArm) → last_fits p f l r otherwise ≡ true → LastHasNumbers otherwise → LastShaped otherwise
    last_shaped l r tree.NoLast e h = tt
    last_shaped l r (tree.Last t) e h = shaped false l r t e h

pub body_shaped : (p : Program) → is_sound p ≡ true → ProgramHasNumbers p → (f : ℕ) → AreShaped (function_at p f).body
body_shaped p sound numbers f = by (slice_get p.functions f) refl
  where
    by : (o : Option FunctionTree) → slice_get p.functions f ≡ o → AreShaped (or_no_function o).body
    by None e = tt
    by (Some function) e = are_shaped p function true false false function.body (body_of_sound p f function sound e) (numbers.bodies f function e)
