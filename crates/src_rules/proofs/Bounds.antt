-- A stack has at most as many entries as the functions' bodies measure, and one for each function, once for each root: by any measure that counts the entries.
use Rattle.std.proofs.Common.{◌≡◌, ℕ, zero, suc, ◌+◌, ◌*◌, ◌<◌, ◌≤◌, false, ◌&&◌, nat_eq, List, [], ◌∷◌, length, refl, ap, ◌∙◌, arith}
use Rattle.std.specs.Prelude.{slice_get}
use Rattle.c_typed.specs.Chains.{graph_of}
use Rattle.c_typed.specs.Trees.{Expression, Place, Statement, Statements, FunctionTree, Program}
use Rattle.call_graph.specs.Levels.{IsAcyclic}
use Rattle.pic_world.specs.Roots.{same_root}
use Rattle.pic_world.specs.declared.Root.{Root}
use Rattle.pic_world.specs.declared.Root.TheVariants.{Main, Isr}
use Rattle.src_rules.proofs.Holding.{step_fits, rests_freely}
use Rattle.src_rules.proofs.Measures.{Sizes, Measure, Laws, GotFits, StageFits, room, FocusFits, Fits, KeepsFit}
use Rattle.src_rules.proofs.Moments.{moments}
use Rattle.src_rules.proofs.Starts.{or_false}
use Rattle.src_rules.proofs.Totals.{total, without, without_other, total_out}
use Rattle.src_rules.proofs.Waiting.{waiting, waiting_apart, waiting_distinct, AreReached, waiting_reached}
use Rattle.src_rules.specs.Laws.{IsProper, IsOfBytes, AreDistinct, values_in, entries}
use Rattle.src_rules.specs.Runs.{gone, run, moment}
use Rattle.src_rules.specs.Standing.{Stands}
use Rattle.src_rules.specs.State.{State, Outcome, Went, Undefined, Idle, Lost}
use Rattle.src_rules.specs.Step.{start, step}
use Rattle.src_values.specs.Control.{Got, Stage, Pending, In, To, Doing, Before, Returns, Resumes}
use Rattle.src_values.specs.Memory.{Setting}
use Rattle.src_values.specs.Objects.{or_no_function, function_at, same_copy, is_among}
use Rattle.src_values.specs.declared.objects.CopyOf.{CopyOf}

-- ---- a measure that counts the entries of a stack
pub record Counting (m : Measure) : Type 0 where
  pub in_counts : (e : Expression) (got : Got) → GotFits m e got → values_in got + 1 + m.in_room e got ≤ m.sizes.expression e
  pub to_counts : (place : Place) → 1 + m.to_room place ≤ m.sizes.place place
  pub for_counts : (t : Statement) (stage : Stage) → StageFits m t stage → 1 + m.for_room t stage ≤ m.sizes.statement t
  pub behind_counts : (n : ℕ) (ss : Statements) → m.sizes.list ss ≤ n → 1 + m.behind n ss ≤ n

-- the entries that the copies which run and wait may have together
unfoldable pub budget : Program → Sizes → CopyOf → List Pending → ℕ
budget p m c [] = m.list (function_at p c.function).body
budget p m c (In e got ∷ k) = budget p m c k
budget p m c (To place ∷ k) = budget p m c k
budget p m c (Doing t stage ∷ k) = budget p m c k
budget p m c (Before ss ∷ k) = budget p m c k
budget p m c (Returns d ∷ k) = 1 + m.list (function_at p c.function).body + budget p m d k
budget p m c (Resumes d x ∷ k) = 1 + m.list (function_at p c.function).body + budget p m d k

module _ (p : Program) (m : Measure) (counts : Counting m) where
  pub within : (k : List Pending) (c : CopyOf) → Fits p (λ d. m) c k → entries k + room p (λ d. m) c k ≤ budget p m.sizes c k
  unfolding budget
  within [] c z = omega arith
  within (In e got ∷ k) c z = let i = within k c z.2 in let a = z.0 in let d = counts.in_counts e got z.1 in omega arith
  within (To place ∷ k) c z = let i = within k c z.1 in let a = z.0 in let d = counts.to_counts place in omega arith
  within (Doing t stage ∷ k) c z = let i = within k c z.2 in let a = z.0 in let d = counts.for_counts t stage z.1 in omega arith
  within (Before ss ∷ k) c z = let i = within k c z.1 in let d = counts.behind_counts (room p (λ d. m) c k) ss z.0 in omega arith
  within (Returns d ∷ k) c z = let i = within k d z in omega arith
  within (Resumes d x ∷ k) c z = let i = within k d z.1 in omega arith

-- ---- sums over copies
sum_of : (Root → ℕ → ℕ) → List CopyOf → ℕ
sum_of g [] = 0
sum_of g (c ∷ cs) = g c.root c.function + sum_of g cs

budget_sum : (p : Program) (m : Sizes) (k : List Pending) (c : CopyOf) → budget p m c k ≤ sum_of (λ r f. 1 + m.list (function_at p f).body) (c ∷ waiting k)
unfolding budget waiting sum_of
budget_sum p m [] c = omega arith
budget_sum p m (In e got ∷ k) c = budget_sum p m k c
budget_sum p m (To place ∷ k) c = budget_sum p m k c
budget_sum p m (Doing t stage ∷ k) c = budget_sum p m k c
budget_sum p m (Before ss ∷ k) c = budget_sum p m k c
budget_sum p m (Returns d ∷ k) c = let i = budget_sum p m k d in omega arith
budget_sum p m (Resumes d x ∷ k) c = let i = budget_sum p m k d in omega arith

-- the sizes of functions, once those of a copy are taken away
abbrev less_at : Root → ℕ → (Root → ℕ → ℕ) → Root → ℕ → ℕ
less_at Main x g Main = without x (g Main)
less_at Main x g Isr = g Isr
less_at Isr x g Main = g Main
less_at Isr x g Isr = without x (g Isr)

kept_at : (r q : Root) (x f : ℕ) (g : Root → ℕ → ℕ) → (same_root q r && nat_eq f x) ≡ false → less_at r x g q f ≡ g q f
kept_at Main Main x f g e = without_other x f (g Main) e
kept_at Main Isr x f g e = refl
kept_at Isr Main x f g e = refl
kept_at Isr Isr x f g e = without_other x f (g Isr) e

out_by : (r : Root) (x n : ℕ) (g : Root → ℕ → ℕ) → x < n → g r x + (total (less_at r x g Main) 0 n + total (less_at r x g Isr) 0 n) ≤ total (g Main) 0 n + total (g Isr) 0 n
out_by Main x n g l = let i = total_out x (g Main) 0 n (omega arith) (omega arith) in omega arith
out_by Isr x n g l = let i = total_out x (g Isr) 0 n (omega arith) (omega arith) in omega arith

sum_same : (cs : List CopyOf) (c : CopyOf) (g : Root → ℕ → ℕ) → is_among cs c ≡ false → sum_of (less_at c.root c.function g) cs ≡ sum_of g cs
unfolding sum_of
sum_same [] c g h = refl
sum_same (d ∷ ds) c g h =
    let o = or_false (same_copy d c) (is_among ds c) h in
    let i = sum_same ds c g o.1 in
    let e = kept_at c.root d.root c.function d.function g o.0 in
    omega arith

sum_bound : (p : Program) (cs : List CopyOf) (g : Root → ℕ → ℕ) → AreDistinct cs → AreReached p cs → sum_of g cs ≤ total (g Main) 0 (length p.functions) + total (g Isr) 0 (length p.functions)
unfolding sum_of
sum_bound p [] g h l = omega arith
sum_bound p (c ∷ cs) g h l =
    let i = sum_bound p cs (less_at c.root c.function g) h.1 l.1 in
    let e = sum_same cs c g h.0 in
    let o = out_by c.root c.function (length p.functions) g l.0.there in
    omega arith

-- ---- all functions
abbrev pub whole : Sizes → List FunctionTree → ℕ
whole m [] = 0
whole m (f ∷ fs) = 1 + m.list f.body + whole m fs

all_lists : (p : Program) (m : Sizes) (fs : List FunctionTree) (a : ℕ) → ((j : ℕ) → j < length fs → slice_get p.functions (a + j) ≡ slice_get fs j) → total (λ f. 1 + m.list (function_at p f).body) a (length fs) ≡ whole m fs
unfolding total
all_lists p m [] a h = refl
all_lists p m (f ∷ fs) a h =
    let e : a ≡ a + 0 = omega arith in
    let is : function_at p a ≡ f = ap or_no_function (ap (slice_get p.functions) e ∙ h 0 (omega arith)) in
    let d : m.list (function_at p a).body ≡ m.list f.body = ap (λ x. m.list x.body) is in
    let i = all_lists p m fs (suc a) (λ j l. let q : suc a + j ≡ a + suc j = omega arith in ap (slice_get p.functions) q ∙ h (suc j) (omega arith)) in
    omega arith

pub stack_bound : (p : Program) (m : Measure) → Counting m → IsAcyclic (graph_of p) → (t : State) → Stands p t → Fits p (λ c. m) t.copy t.stack → entries t.stack ≤ 2 * whole m.sizes p.functions
stack_bound p m counts acyclic t h z =
    let a = within p m counts t.stack t.copy z in
    let b = budget_sum p m.sizes t.stack t.copy in
    let g : Root → ℕ → ℕ = λ r f. 1 + m.sizes.list (function_at p f).body in
    let c = sum_bound p (t.copy ∷ waiting t.stack) g (waiting_apart p acyclic t.stack t.copy h.stack, waiting_distinct p acyclic t.stack t.copy h.stack) (h.reached, waiting_reached p t.stack t.copy h.stack) in
    let d = all_lists p m.sizes p.functions 0 (λ j l. let e : 0 + j ≡ j = omega arith in ap (slice_get p.functions) e) in
    omega arith

-- ---- each moment
abbrev AllFits : Program → (CopyOf → Measure) → State → Type 0
AllFits p m t = FocusFits p m t.copy t.focus t.stack × Fits p m t.copy t.stack

gone_fits : (p : Program) (m : CopyOf → Measure) (t : State) (out : Outcome) → AllFits p m t → KeepsFit p m (Unit {0}) out → AllFits p m (gone t out)
gone_fits p m t (Went u event) h k = k
gone_fits p m t (Undefined kind line) h k = h
gone_fits p m t Idle h k = h
gone_fits p m t Lost h k = h

start_fits : (s : Setting) (m : CopyOf → Measure) → AllFits s.program m (start s)
unfolding start
start_fits s m = (tt, (omega arith, tt))

pub moment_fits : (s : Setting) (m : CopyOf → Measure) → ((c : CopyOf) → Laws (m c)) → IsProper s.program → IsOfBytes s.outside → (n : ℕ) → FocusFits s.program m (moment s n).copy (moment s n).focus (moment s n).stack × Fits s.program m (moment s n).copy (moment s n).stack
unfolding run
moment_fits s m laws h o zero = start_fits s m
moment_fits s m laws h o (suc n) =
    let i = moment_fits s m laws h o n in
    gone_fits s.program m (moment s n) (step s (moment s n)) i (step_fits s m (Unit {0}) laws (moment s n) (moments s h o n).0 i.0 i.1 (rests_freely (moment s n).focus))
