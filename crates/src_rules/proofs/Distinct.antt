-- No copy runs or waits twice.
use Rattle.std.proofs.Common.{◌≡◌, ℕ, ◌⊎◌, inl, inr, ⊎_elim, Bool, true, false, ◌||◌, List, [], ◌∷◌, ◌++◌, refl, sym, ap, ◌∙◌, subst}
use Rattle.std.proofs.lemmas.Bool.{false≢true}
use Rattle.c_typed.specs.Chains.{graph_of, Calls, IsChain}
use Rattle.c_typed.specs.Trees as tree
use Rattle.c_typed.specs.Trees.{Expressions, Program}
use Rattle.c_typed.specs.declared.types.Ty.{Ty}
use Rattle.call_graph.specs.Levels.{IsAcyclic}
use Rattle.pic_world.specs.Roots.{same_root}
use Rattle.pic_world.specs.declared.Root.{Root}
use Rattle.pic_world.specs.declared.Root.TheVariants.{Main, Isr}
use Rattle.src_rules.proofs.Memories.{same_copy_is}
use Rattle.src_rules.specs.Laws.{AreDistinct, CopiesAreDistinct, CalledIsNew, HandlerIsNew}
use Rattle.src_rules.specs.Standing.{IsCalled, StackStands}
use Rattle.src_rules.specs.Step.{copy_of}
use Rattle.src_values.specs.Control as control
use Rattle.src_values.specs.Control.{Focus, Got, Called, Passed, Pending, In, To, Doing, Before, Returns, Resumes, running, callers}
use Rattle.src_values.specs.Data.{Datum}
use Rattle.src_values.specs.Objects.{same_copy, is_among}
use Rattle.src_values.specs.declared.objects.CopyOf.{CopyOf}

-- a chain of one call or more
abbrev pub Leads : Program → ℕ → ℕ → Type 0
Leads p f g = (h : ℕ) × (hs : List ℕ) × IsChain (graph_of p) f (h ∷ hs) g

chain_on : (graph : List (List ℕ)) (root : ℕ) (hs : List ℕ) (f g : ℕ) → IsChain graph root hs f → Calls graph f g → IsChain graph root (hs ++ g ∷ []) g
chain_on graph root [] f g h c = (subst (λ x. Calls graph x g) (sym h) c, refl)
chain_on graph root (x ∷ xs) f g h c = (h.0, chain_on graph x xs f g h.1 c)

pub leads_on : (p : Program) (f g h : ℕ) → Leads p f g → Calls (graph_of p) g h → Leads p f h
leads_on p f g h l c = (l.0, l.1 ++ h ∷ [], (l.2.0, chain_on (graph_of p) l.0 l.1 g h l.2.1 c))

pub caller_calls : (p : Program) (e : CopyOf) (f : ℕ) (k : List Pending) → IsCalled f k → StackStands p e k → Calls (graph_of p) e.function f
caller_calls p e f (In (tree.Call g arguments ty line) Called ∷ k) n st = subst (Calls (graph_of p) e.function) n st.0.0
caller_calls p e f _ n st = absurd n

-- ---- below main's copies wait main's alone
abbrev is_mains : Root → Bool
is_mains Main = true
is_mains Isr = false

roots_apart : Main ≡ Isr → ⊥
roots_apart e = false≢true (sym (ap is_mains e))

pub among_cases : (c d : CopyOf) (cs : List CopyOf) (b : Bool) → same_copy c d ≡ b → (b || is_among cs d) ≡ true → ((c ≡ d) ⊎ (is_among cs d ≡ true))
among_cases c d cs true e h = inl (same_copy_is c d e)
among_cases c d cs false e h = inr h

running_among : (c d : CopyOf) (x : Focus) (cs : List CopyOf) → is_among (running c x cs) d ≡ true → ((c ≡ d) ⊎ (is_among cs d ≡ true))
running_among c d control.Over cs h = inr h
running_among c d _ cs h = among_cases c d cs (same_copy c d) refl h

pub main_is_no_handler : (p : Program) (c : CopyOf) (h : ℕ) → c.root ≡ Main → c ≡ copy_of Isr h → ⊥
main_is_no_handler p c h m e = roots_apart (sym m ∙ ap (λ x. x.root) e)

mains_below : (p : Program) (k : List Pending) (c d : CopyOf) → StackStands p c k → c.root ≡ Main → is_among (callers k) d ≡ true → d.root ≡ Main
mains_below p [] c d st m h = absurd (false≢true h)
mains_below p (In e got ∷ k) c d st m h = mains_below p k c d st.3 m h
mains_below p (To place ∷ k) c d st m h = mains_below p k c d st.2 m h
mains_below p (Doing t stage ∷ k) c d st m h = mains_below p k c d st.3 m h
mains_below p (Before ss ∷ k) c d st m h = mains_below p k c d st.2 m h
mains_below p (Returns e ∷ k) c d st m h =
    let r : e.root ≡ Main = sym st.1 ∙ m in
    ⊎_elim (λ i. ap (λ x. x.root) (sym i) ∙ r) (λ i. mains_below p k e d st.3 r i) (among_cases e d (callers k) (same_copy e d) refl h)
mains_below p (Resumes e x ∷ k) c d st m h = absurd (main_is_no_handler p c st.2.0 m st.2.2)

-- ---- who waits with the same root leads to who runs
pub isr_no_main : (r : Root) → r ≡ Isr → (q : Root) → q ≡ Main → r ≡ q → ⊥
isr_no_main r e q f g = roots_apart (sym f ∙ (sym g ∙ e))

callers_lead : (p : Program) (k : List Pending) (c d : CopyOf) → StackStands p c k → is_among (callers k) d ≡ true → c.root ≡ d.root → Leads p d.function c.function
callers_lead p [] c d st h r = absurd (false≢true h)
callers_lead p (In e got ∷ k) c d st h r = callers_lead p k c d st.3 h r
callers_lead p (To place ∷ k) c d st h r = callers_lead p k c d st.2 h r
callers_lead p (Doing t stage ∷ k) c d st h r = callers_lead p k c d st.3 h r
callers_lead p (Before ss ∷ k) c d st h r = callers_lead p k c d st.2 h r
callers_lead p (Returns e ∷ k) c d st h r =
    let call = caller_calls p e c.function k st.2 st.3 in
    ⊎_elim (λ i. (c.function, [], (subst (λ x. Calls (graph_of p) x.function c.function) i call, refl)))
    (λ i. leads_on p d.function e.function c.function (callers_lead p k e d st.3 i (sym st.1 ∙ r)) call)
    (among_cases e d (callers k) (same_copy e d) refl h)
callers_lead p (Resumes e x ∷ k) c d st h r =
    let main : d.root ≡ Main = ⊎_elim (λ i. ap (λ q. q.root) (sym i) ∙ st.1) (λ i. mains_below p k e d st.4 st.1 i) (running_among e d x (callers k) h) in
    absurd (isr_no_main c.root (ap (λ q. q.root) st.2.2) d.root main r)

pub never : (b : Bool) → (b ≡ true → ⊥) → b ≡ false
never true h = absurd (h refl)
never false h = refl

running_apart : (p : Program) → IsAcyclic (graph_of p) → (k : List Pending) (c : CopyOf) → StackStands p c k → is_among (callers k) c ≡ false
running_apart p acyclic k c st = never (is_among (callers k) c) (λ h. acyclic c.function (callers_lead p k c c st h refl))

running_distinct : (c : CopyOf) (x : Focus) (cs : List CopyOf) → is_among cs c ≡ false → AreDistinct cs → AreDistinct (running c x cs)
running_distinct c control.Over cs h g = g
running_distinct c _ cs h g = (h, g)

callers_distinct : (p : Program) → IsAcyclic (graph_of p) → (k : List Pending) (c : CopyOf) → StackStands p c k → AreDistinct (callers k)
callers_distinct p acyclic [] c st = tt
callers_distinct p acyclic (In e got ∷ k) c st = callers_distinct p acyclic k c st.3
callers_distinct p acyclic (To place ∷ k) c st = callers_distinct p acyclic k c st.2
callers_distinct p acyclic (Doing t stage ∷ k) c st = callers_distinct p acyclic k c st.3
callers_distinct p acyclic (Before ss ∷ k) c st = callers_distinct p acyclic k c st.2
callers_distinct p acyclic (Returns e ∷ k) c st = (running_apart p acyclic k e st.3, callers_distinct p acyclic k e st.3)
callers_distinct p acyclic (Resumes e x ∷ k) c st = running_distinct e x (callers k) (running_apart p acyclic k e st.4) (callers_distinct p acyclic k e st.4)

pub distinct : CopiesAreDistinct
distinct p acyclic t h = (running_apart p acyclic t.stack t.copy h.stack, callers_distinct p acyclic t.stack t.copy h.stack)

-- ---- a copy that begins
new_by : (p : Program) → IsAcyclic (graph_of p) → (c : CopyOf) (g : ℕ) (arguments : Expressions) (ty : Ty) (line : ℕ) (values : List Datum) (k : List Pending) → StackStands p c (In (tree.Call g arguments ty line) (Passed values) ∷ k) → is_among (c ∷ callers k) (copy_of c.root g) ≡ false
new_by p acyclic c g arguments ty line values k st =
    let call : Calls (graph_of p) c.function g = st.0.0 in
    never (is_among (c ∷ callers k) (copy_of c.root g))
    (λ h. ⊎_elim
    (λ i. acyclic g (g, [], (subst (λ x. Calls (graph_of p) x.function g) i call, refl)))
    (λ i. acyclic g (leads_on p g c.function g (callers_lead p k c (copy_of c.root g) st.3 i refl) call))
    (among_cases c (copy_of c.root g) (callers k) (same_copy c (copy_of c.root g)) refl h))

pub called_new : CalledIsNew
called_new p acyclic t h g arguments ty line values k is =
    rw is (new_by p acyclic t.copy g arguments ty line values k (subst (StackStands p t.copy) is h.stack))

outside_main : (r : Root) → same_root r Isr ≡ false → r ≡ Main
outside_main Main e = refl
outside_main Isr e = absurd (false≢true (sym e))

pub handler_new : HandlerIsNew
handler_new p t h i n =
    let main = outside_main t.copy.root (sym h.inside ∙ i) in
    never (is_among (t.copy ∷ callers t.stack) (copy_of Isr n))
    (λ a. ⊎_elim
    (λ e. main_is_no_handler p t.copy n main e)
    (λ e. main_is_no_handler p (copy_of Isr n) n (mains_below p t.stack t.copy (copy_of Isr n) h.stack main e) refl)
    (among_cases t.copy (copy_of Isr n) (callers t.stack) (same_copy t.copy (copy_of Isr n)) refl a))
