-- What a state of the source that stands tells of its stack: which copies wait there, and which of their variables a pointer reaches.
use Rattle.std.proofs.Common.{◌≡◌, ℕ, ◌+◌, ◌<◌, ◌≤◌, Bool, true, false, ◌&&◌, ◌||◌, nat_eq, nat_lt, List, [], ◌∷◌, Some, refl, sym, ap, ◌∙◌, subst, ⊎_elim, ◌⊎◌, inl, inr, arith}
use Rattle.std.proofs.lemmas.Grind.{common_steps}
use Rattle.c_typed.specs.Chains.{graph_of}
use Rattle.c_typed.specs.Trees as tree
use Rattle.c_typed.specs.Trees.{Program, Statement}
use Rattle.call_graph.specs.Levels.{IsAcyclic}
use Rattle.core_code.specs.Machine as core
use Rattle.core_code.specs.Machine.{Task, Waiting, InLoop, InCall, InHandler, is_reached}
use Rattle.core_code.specs.Bytes as core_bytes
use Rattle.core_code.specs.Tree.{Tree}
use Rattle.lower_stmt.specs.Ground.{Ground}
use Rattle.lower_stmt.specs.Labels.{labels_of}
use Rattle.c_typed.specs.declared.statement.LoopForm.{LoopForm}
use Rattle.c_typed.specs.declared.statement.LoopForm.TheVariants.{While, Do, For}
use Rattle.pic_world.specs.Roots.{same_root}
use Rattle.pic_world.specs.declared.Root.{Root}
use Rattle.pic_world.specs.declared.Root.TheVariants.{Main, Isr}
use Rattle.src_rules.specs.Standing.{IsReached, IsThere, StackStands}
use Rattle.src_rules.specs.Step.{copy_of}
use Rattle.src_values.specs.Control.{Focus, Over, Stage, Tests, Begins, Steps, Turns, Chooses, Pending, In, To, Doing, Before, Returns, Resumes, callers, running}
use Rattle.src_values.specs.Objects.{is_alive, is_among, same_copy, breaks_isolation, object_bytes}
use Rattle.src_values.specs.declared.objects.CopyOf.{CopyOf}
use Rattle.src_values.specs.declared.objects.Object as object
use Rattle.src_values.specs.declared.objects.Object.TheVariants as objects
use Rattle.lower_trace.specs.Lowering.{object_as, offset_as}
use Rattle.lower_trace.proofs.CodeLeft.{Scene, number, ground_in, core_in, plain_behind, Jumps, Looped, Switched, stacked, loops_in, whole_loop, if_labelled, switch_on, inner_loops, jumps, code_after, stack_after, stack_doing, turn_behind}
use Rattle.lower_trace.proofs.Entering.{copy_is, copy_self, bool_cases}
use Rattle.lower_trace.proofs.Kept.{SceneLaws, Apart, MainsWait}
use Rattle.lower_trace.proofs.Loading.{ReachesAll}
use Rattle.lower_trace.proofs.Written.{nat_same, both, root_same}

or_or : (a b : Bool) → (a || b) ≡ false → (a ≡ false) × (b ≡ false)
or_or true b e = absurd (cc)
or_or false b e = (refl, e)

or_true : (a b : Bool) → (a || b) ≡ true → (a ≡ true) ⊎ (b ≡ true)
or_true true b e = inl refl
or_true false b e = inr e

or_second : (a b : Bool) → b ≡ true → (a || b) ≡ true
or_second true b e = refl
or_second false b e = e

not_both : (b : Bool) → b ≡ true → b ≡ false → ⊥
not_both true e f = cc
not_both false e f = cc

-- ---- copies that wait
-- the handler interrupts main's root alone
pub mains_wait : (p : Program) (c : CopyOf) (k : List Pending) → StackStands p c k → MainsWait k
mains_wait p c [] h = tt
mains_wait p c (In e got ∷ k) h = mains_wait p c k h.3
mains_wait p c (To place ∷ k) h = mains_wait p c k h.2
mains_wait p c (Doing t stage ∷ k) h = mains_wait p c k h.3
mains_wait p c (Before ss ∷ k) h = mains_wait p c k h.2
mains_wait p c (Returns d ∷ k) h = mains_wait p d k h.3
mains_wait p c (Resumes d x ∷ k) h = (h.1, mains_wait p d k h.4)

module _ (z : Scene) (laws : SceneLaws z) where
  roots_differ : (c d : CopyOf) → c.root ≡ Isr → d.root ≡ Main → IsReached z.program c → IsReached z.program d → number z d ≡ number z c → ⊥
  roots_differ c d i m rc rd same = let e = laws.apart d c rd rc same in let q : Main ≡ Isr = sym m ∙ ap (λ x. x.root) e ∙ i in cc

  -- below the handler main's copies wait
  pub mains_apart : (c d : CopyOf) (k : List Pending) → c.root ≡ Isr → d.root ≡ Main → IsReached z.program c → StackStands z.program d k → Apart z (number z c) k
  mains_apart c d [] i m r h = tt
  mains_apart c d (In e got ∷ k) i m r h = mains_apart c d k i m r h.3
  mains_apart c d (To place ∷ k) i m r h = mains_apart c d k i m r h.2
  mains_apart c d (Doing t stage ∷ k) i m r h = mains_apart c d k i m r h.3
  mains_apart c d (Before ss ∷ k) i m r h = mains_apart c d k i m r h.2
  mains_apart c d (Returns f ∷ k) i m r h = let n = sym h.1 ∙ m in (roots_differ c f i n r h.0, mains_apart c f k i n r h.3)
  mains_apart c d (Resumes f x ∷ k) i m r h = let q : Main ≡ Isr = sym m ∙ ap (λ y. y.root) h.2.2 in absurd (cc)

  -- A copy that isn't among those that wait has a number that none of them has.
  pub others_wait : (c d : CopyOf) (k : List Pending) → c.root ≡ d.root → IsReached z.program c → StackStands z.program d k → is_among (callers k) c ≡ false → Apart z (number z c) k
  others_wait c d [] root r h free = tt
  others_wait c d (In e got ∷ k) root r h free = others_wait c d k root r h.3 free
  others_wait c d (To place ∷ k) root r h free = others_wait c d k root r h.2 free
  others_wait c d (Doing t stage ∷ k) root r h free = others_wait c d k root r h.3 free
  others_wait c d (Before ss ∷ k) root r h free = others_wait c d k root r h.2 free
  others_wait c d (Returns f ∷ k) root r h free =
      let parts = or_or (same_copy f c) (is_among (callers k) c) free in (
        λ same. let e = laws.apart f c h.0 r same in not_both (same_copy f c) (ap (λ x. same_copy x c) e ∙ copy_self c) parts.0,
        others_wait c f k (root ∙ h.1) r h.3 parts.1,
      )
  others_wait c d (Resumes f x ∷ k) root r h free =
      let i : c.root ≡ Isr = root ∙ ap (λ y. y.root) h.2.2 in
      (roots_differ c f i h.1 r h.0, mains_apart c f k i h.1 r h.4)

-- ---- what a pointer reaches
core_callers : (s : List Waiting) → core.callers (plain_behind s) ≡ core.callers s
core_callers [] = refl
core_callers (InLoop body c ∷ s) = core_callers s
core_callers (InCall p c ∷ s) = ap (λ x. p ∷ x) (core_callers s)
core_callers (InHandler p a c ∷ s) = refl

-- the copies of the own root that wait
abbrev own_callers : Scene → List Pending → List ℕ
own_callers z [] = []
own_callers z (In e got ∷ k) = own_callers z k
own_callers z (To place ∷ k) = own_callers z k
own_callers z (Doing t stage ∷ k) = own_callers z k
own_callers z (Before ss ∷ k) = own_callers z k
own_callers z (Returns d ∷ k) = number z d ∷ own_callers z k
own_callers z (Resumes d x ∷ k) = []

callers_turn : (g : Ground) (shape : LoopForm) (condition step : _) (body : _) (s : List Waiting) → core.callers (turn_behind g shape condition step body s) ≡ core.callers s
callers_turn g While condition step body s = refl
callers_turn g Do condition step body s = refl
callers_turn g For condition step body s = refl

callers_stacked : (xs : List Looped) (s : List Waiting) → core.callers (stacked xs s) ≡ core.callers s
callers_stacked [] s = refl
callers_stacked (x ∷ xs) s = callers_stacked xs s

callers_labelled : (labels : List ℕ) (xs : List Looped) (body : Tree) (c : List Task) (s : List Waiting) → core.callers (if_labelled labels (stacked xs (InLoop body c ∷ s)) s) ≡ core.callers s
callers_labelled [] xs body c s = refl
callers_labelled (label ∷ labels) xs body c s = callers_stacked xs (InLoop body c ∷ s)

callers_doing : (g : Ground) (j : Jumps) (t : Statement) (stage : Stage) (c : List Task) (s : List Waiting) → core.callers (stack_doing g j t stage c s) ≡ core.callers s
callers_doing g j (tree.Loop shape begin condition step body line) Tests c s = refl
callers_doing g j (tree.Loop shape begin condition step body line) Steps c s = refl
callers_doing g j (tree.Loop shape begin condition step body line) Turns c s = callers_turn g shape condition step _ (InLoop _ c ∷ s)
callers_doing g j (tree.Switch value cases default ss line) Chooses c s =
    let x : Switched = record { value = value; cases = cases; default = default; body = ss } in
    callers_labelled (labels_of cases default) (loops_in g j x) (whole_loop g j x) c s
callers_doing g j (tree.Switch value cases default ss line) Turns c s = refl
callers_doing g j _ _ c s = refl

callers_after : (z : Scene) (g : Ground) (k : List Pending) → core.callers (stack_after z g k) ≡ own_callers z k
callers_after z g [] = refl
callers_after z g (In e got ∷ k) = callers_after z g k
callers_after z g (To place ∷ k) = callers_after z g k
callers_after z g (Doing t stage ∷ k) = callers_doing g (jumps k) t stage (code_after g k) (stack_after z g k) ∙ callers_after z g k
callers_after z g (Before ss ∷ k) = callers_stacked (inner_loops g (jumps k) (switch_on k) ss) (stack_after z g k) ∙ callers_after z g k
callers_after z g (Returns d ∷ k) = ap (λ x. number z d ∷ x) (callers_after z (ground_in z d) k)
callers_after z g (Resumes d x ∷ k) = refl

-- where the handler runs, main's variables are none that a defined access reaches
isolated_main : (a b : Root) → a ≡ Isr → b ≡ Main → (same_root a Isr && same_root b Main) ≡ false → ⊥
isolated_main Main b i m e = cc
isolated_main Isr Main i m e = cc
isolated_main Isr Isr i m e = cc

main_below : (p : Program) (k : List Pending) (c d : CopyOf) → StackStands p c k → c.root ≡ Main → is_among (callers k) d ≡ true → d.root ≡ Main
main_below p [] c d st m h = absurd (cc)
main_below p (In e got ∷ k) c d st m h = main_below p k c d st.3 m h
main_below p (To place ∷ k) c d st m h = main_below p k c d st.2 m h
main_below p (Doing t stage ∷ k) c d st m h = main_below p k c d st.3 m h
main_below p (Before ss ∷ k) c d st m h = main_below p k c d st.2 m h
main_below p (Returns f ∷ k) c d st m h =
    ⊎_elim (λ here. ap (λ x. x.root) (sym (copy_is f d here)) ∙ sym st.1 ∙ m)
    (λ rest. main_below p k f d st.3 (sym st.1 ∙ m) rest)
    (or_true (same_copy f d) (is_among (callers k) d) h)
main_below p (Resumes f x ∷ k) c d st m h = let q : Main ≡ Isr = sym m ∙ ap (λ y. y.root) st.2.2 in absurd (cc)

running_mains : (p : Program) (k : List Pending) (f d : CopyOf) (x : Focus) → StackStands p f k → f.root ≡ Main → is_among (running f x (callers k)) d ≡ true → d.root ≡ Main
running_mains p k f d Over st m h = main_below p k f d st m h
running_mains p k f d _ st m h =
    ⊎_elim (λ here. ap (λ x. x.root) (sym (copy_is f d here)) ∙ m) (λ rest. main_below p k f d st m rest) (or_true (same_copy f d) (is_among (callers k) d) h)

-- a copy of the own root that waits has its number among those of byte code
own_among : (z : Scene) (k : List Pending) (c d : CopyOf) → StackStands z.program c k → (same_root c.root Isr && same_root d.root Main) ≡ false → is_among (callers k) d ≡ true → core.is_among (own_callers z k) (number z d) ≡ true
own_among z [] c d st free h = absurd (cc)
own_among z (In e got ∷ k) c d st free h = own_among z k c d st.3 free h
own_among z (To place ∷ k) c d st free h = own_among z k c d st.2 free h
own_among z (Doing t stage ∷ k) c d st free h = own_among z k c d st.3 free h
own_among z (Before ss ∷ k) c d st free h = own_among z k c d st.2 free h
own_among z (Returns f ∷ k) c d st free h =
    ⊎_elim
    (λ here. ap (λ t. t || core.is_among (own_callers z k) (number z d)) (ap (λ x. nat_eq (number z x) (number z d)) (copy_is f d here) ∙ nat_same (number z d)))
    (λ rest. or_second (nat_eq (number z f) (number z d)) _ (own_among z k f d st.3 (subst (λ r. (same_root r Isr && same_root d.root Main) ≡ false) st.1 free) rest))
    (or_true (same_copy f d) (is_among (callers k) d) h)
own_among z (Resumes f x ∷ k) c d st free h = absurd (isolated_main c.root d.root (ap (λ y. y.root) st.2.2) (running_mains z.program k f d x st.4 st.1 h) free)

among_here : (z : Scene) (k : List Pending) (c d : CopyOf) → StackStands z.program c k → (same_root c.root Isr && same_root d.root Main) ≡ false → is_among (c ∷ callers k) d ≡ true → core.is_among (number z c ∷ own_callers z k) (number z d) ≡ true
among_here z k c d st free h =
    ⊎_elim
    (λ here. ap (λ t. t || core.is_among (own_callers z k) (number z d)) (ap (λ x. nat_eq (number z x) (number z d)) (copy_is c d here) ∙ nat_same (number z d)))
    (λ rest. or_second (nat_eq (number z c) (number z d)) _ (own_among z k c d st free rest))
    (or_true (same_copy c d) (is_among (callers k) d) h)

within_true : (a b : ℕ) → a < b → nat_lt a b ≡ true
within_true a b lt = grind (arith, common_steps)

-- What a defined access leads to is reached in byte code.
pub reaches_all : (z : Scene) (laws : SceneLaws z) (c : CopyOf) (k : List Pending) → StackStands z.program c k → ReachesAll z c k
unfolding is_alive breaks_isolation is_reached
reaches_all z laws c k st (objects.Fixed n) f s alive free there lt is =
    let l = laws.fits (objects.Fixed n) there in
    within_true (0 + f) _ (omega arith)
reaches_all z laws c k st (objects.Variable d i) f s alive free there lt is =
    let l = laws.fits (objects.Variable d i) there in
    let callers_is : core.callers s ≡ own_callers z k = sym (core_callers s) ∙ ap core.callers is ∙ callers_after z (ground_in z c) k in
    both (core.is_among (number z c ∷ core.callers s) (number z d)) _
    (ap (λ x. core.is_among (number z c ∷ x) (number z d)) callers_is ∙ among_here z k c d st free alive)
    (within_true _ _ (omega arith))
