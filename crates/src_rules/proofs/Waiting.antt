-- The copies that wait, main's too where the handler interrupted it behind its end: none waits twice, none waits that runs, and a root reaches each.
use Rattle.std.proofs.Common.{◌≡◌, ⊎_elim, true, false, List, [], ◌∷◌, refl, sym, ap, ◌∙◌, subst}
use Rattle.std.proofs.lemmas.Bool.{false≢true}
use Rattle.c_typed.specs.Chains.{graph_of, Calls}
use Rattle.c_typed.specs.Trees.{Program}
use Rattle.call_graph.specs.Levels.{IsAcyclic}
use Rattle.pic_world.specs.declared.Root.TheVariants.{Main}
use Rattle.src_rules.proofs.Distinct.{Leads, leads_on, caller_calls, among_cases, main_is_no_handler, isr_no_main, never}
use Rattle.src_rules.specs.Laws.{AreDistinct}
use Rattle.src_rules.specs.Standing.{IsReached, StackStands}
use Rattle.src_values.specs.Control.{Pending, In, To, Doing, Before, Returns, Resumes}
use Rattle.src_values.specs.Objects.{same_copy, is_among}
use Rattle.src_values.specs.declared.objects.CopyOf.{CopyOf}

unfoldable pub waiting : List Pending → List CopyOf
waiting [] = []
waiting (In e got ∷ k) = waiting k
waiting (To place ∷ k) = waiting k
waiting (Doing t stage ∷ k) = waiting k
waiting (Before ss ∷ k) = waiting k
waiting (Returns d ∷ k) = d ∷ waiting k
waiting (Resumes d x ∷ k) = d ∷ waiting k

mains_wait : (p : Program) (k : List Pending) (c d : CopyOf) → StackStands p c k → c.root ≡ Main → is_among (waiting k) d ≡ true → d.root ≡ Main
unfolding waiting
mains_wait p [] c d st m h = absurd (false≢true h)
mains_wait p (In e got ∷ k) c d st m h = mains_wait p k c d st.3 m h
mains_wait p (To place ∷ k) c d st m h = mains_wait p k c d st.2 m h
mains_wait p (Doing t stage ∷ k) c d st m h = mains_wait p k c d st.3 m h
mains_wait p (Before ss ∷ k) c d st m h = mains_wait p k c d st.2 m h
mains_wait p (Returns e ∷ k) c d st m h =
    let r : e.root ≡ Main = sym st.1 ∙ m in
    ⊎_elim (λ i. ap (λ x. x.root) (sym i) ∙ r) (λ i. mains_wait p k e d st.3 r i) (among_cases e d (waiting k) (same_copy e d) refl h)
mains_wait p (Resumes e x ∷ k) c d st m h = absurd (main_is_no_handler p c st.2.0 m st.2.2)

waiting_lead : (p : Program) (k : List Pending) (c d : CopyOf) → StackStands p c k → is_among (waiting k) d ≡ true → c.root ≡ d.root → Leads p d.function c.function
unfolding waiting
waiting_lead p [] c d st h r = absurd (false≢true h)
waiting_lead p (In e got ∷ k) c d st h r = waiting_lead p k c d st.3 h r
waiting_lead p (To place ∷ k) c d st h r = waiting_lead p k c d st.2 h r
waiting_lead p (Doing t stage ∷ k) c d st h r = waiting_lead p k c d st.3 h r
waiting_lead p (Before ss ∷ k) c d st h r = waiting_lead p k c d st.2 h r
waiting_lead p (Returns e ∷ k) c d st h r =
    let call = caller_calls p e c.function k st.2 st.3 in
    ⊎_elim (λ i. (c.function, [], (subst (λ x. Calls (graph_of p) x.function c.function) i call, refl)))
    (λ i. leads_on p d.function e.function c.function (waiting_lead p k e d st.3 i (sym st.1 ∙ r)) call)
    (among_cases e d (waiting k) (same_copy e d) refl h)
waiting_lead p (Resumes e x ∷ k) c d st h r =
    let main : d.root ≡ Main = ⊎_elim (λ i. ap (λ q. q.root) (sym i) ∙ st.1) (λ i. mains_wait p k e d st.4 st.1 i) (among_cases e d (waiting k) (same_copy e d) refl h) in
    absurd (isr_no_main c.root (ap (λ q. q.root) st.2.2) d.root main r)

pub waiting_apart : (p : Program) → IsAcyclic (graph_of p) → (k : List Pending) (c : CopyOf) → StackStands p c k → is_among (waiting k) c ≡ false
waiting_apart p acyclic k c st = never (is_among (waiting k) c) (λ h. acyclic c.function (waiting_lead p k c c st h refl))

pub waiting_distinct : (p : Program) → IsAcyclic (graph_of p) → (k : List Pending) (c : CopyOf) → StackStands p c k → AreDistinct (waiting k)
unfolding waiting
waiting_distinct p acyclic [] c st = tt
waiting_distinct p acyclic (In e got ∷ k) c st = waiting_distinct p acyclic k c st.3
waiting_distinct p acyclic (To place ∷ k) c st = waiting_distinct p acyclic k c st.2
waiting_distinct p acyclic (Doing t stage ∷ k) c st = waiting_distinct p acyclic k c st.3
waiting_distinct p acyclic (Before ss ∷ k) c st = waiting_distinct p acyclic k c st.2
waiting_distinct p acyclic (Returns e ∷ k) c st = (waiting_apart p acyclic k e st.3, waiting_distinct p acyclic k e st.3)
waiting_distinct p acyclic (Resumes e x ∷ k) c st = (waiting_apart p acyclic k e st.4, waiting_distinct p acyclic k e st.4)

abbrev pub AreReached : Program → List CopyOf → Type 0
AreReached p [] = Unit {0}
AreReached p (c ∷ cs) = IsReached p c × AreReached p cs

pub waiting_reached : (p : Program) (k : List Pending) (c : CopyOf) → StackStands p c k → AreReached p (waiting k)
unfolding waiting
waiting_reached p [] c st = tt
waiting_reached p (In e got ∷ k) c st = waiting_reached p k c st.3
waiting_reached p (To place ∷ k) c st = waiting_reached p k c st.2
waiting_reached p (Doing t stage ∷ k) c st = waiting_reached p k c st.3
waiting_reached p (Before ss ∷ k) c st = waiting_reached p k c st.2
waiting_reached p (Returns e ∷ k) c st = (st.0, waiting_reached p k e st.3)
waiting_reached p (Resumes e x ∷ k) c st = (st.0, waiting_reached p k e st.4)
