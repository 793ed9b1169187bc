-- The handler is entered.
use Rattle.std.proofs.Common.{◌≡◌, ℕ, ◌+◌, ◌⊎◌, inl, inr, Bool, true, false, ◌||◌, if◌then◌else◌, nat_eq, List, [], ◌∷◌, Some, None, refl, sym, ap, ◌∙◌, subst, ⊎_elim, arith}
use Rattle.std.proofs.lemmas.Bool.{cases_lt}
use Rattle.core_code.specs.Bytes.{Held, Memory, without_frame, is_in_frame}
use Rattle.core_code.specs.Bytes as bytes
use Rattle.core_code.specs.Machine.{Machine, InHandler, tasks, begins, enter, may_interrupt, when}
use Rattle.core_code.specs.Tree as code
use Rattle.core_code.specs.Tree.{Tree}
use Rattle.core_code.specs.declared.code.Byte.TheVariants.{Frame}
use Rattle.lower_stmt.specs.Jumps.{outside}
use Rattle.lower_stmt.specs.Statements.{stmts_code}
use Rattle.pic_world.specs.Roots.{same_root}
use Rattle.pic_world.specs.World.{World, arrived, is_due, entered, world_as}
use Rattle.pic_world.specs.declared.Root.{Root}
use Rattle.pic_world.specs.declared.Root.TheVariants.{Main, Isr}
use Rattle.pic_world.proofs.WorldLaws.{arrived_as, entered_as, due_as}
use Rattle.src_rules.specs.State.{state}
use Rattle.src_rules.specs.Standing.{IsReached}
use Rattle.src_rules.specs.Step.{copy_of, enter as enters_source}
use Rattle.src_values.specs.Control.{Focus, Past, Pending, Before, Resumes, active}
use Rattle.src_values.specs.Memory as source
use Rattle.src_values.specs.Memory.{fresh, is_of}
use Rattle.src_values.specs.Objects.{function_at, handler_in, is_alive, is_among, same_copy}
use Rattle.src_values.specs.declared.objects.Byte as value
use Rattle.src_values.specs.declared.objects.Byte.TheVariants as values
use Rattle.src_values.specs.declared.objects.CopyOf.{CopyOf}
use Rattle.src_values.specs.declared.objects.Object.TheVariants as objects
use Rattle.lower_trace.proofs.Beginnings.{Follow}
use Rattle.lower_trace.proofs.CodeLeft.{Scene, held, number, ground_in, core_in, todo, plain, plain_behind, code_at, stack_at, copy_at}
use Rattle.lower_trace.proofs.Giving.{agree_moved, placed_of, mirrors}
use Rattle.lower_trace.proofs.Kept.{SceneLaws, Apart, MainsWait, own_copy, value_far, holds_far}
use Rattle.lower_trace.proofs.Leaving.{IsResumable, resumed_copy, resumed_stack}
use Rattle.lower_trace.proofs.Mirrors.{Mirrors, Agree, Agrees, core_byte}
use Rattle.lower_trace.proofs.Operations.{comes_here, comes_first, comes_within}
use Rattle.lower_trace.proofs.Placed.{enters, most_due, least_due, plain_tasks, todo_join}
use Rattle.lower_trace.proofs.Written.{nat_same, same_nat, nat_apart, and_left, and_right, both, root_same, off}

-- ---- copies
root_is : (a b : Root) → same_root a b ≡ true → a ≡ b
root_is Main Main e = refl
root_is Main Isr e = absurd (cc)
root_is Isr Main e = absurd (cc)
root_is Isr Isr e = refl

pub copy_is : (a b : CopyOf) → same_copy a b ≡ true → a ≡ b
copy_is a b e =
    let r = root_is a.root b.root (and_left (same_root a.root b.root) (nat_eq a.function b.function) e) in
    let f = same_nat a.function b.function (and_right (same_root a.root b.root) (nat_eq a.function b.function) e) in
    ap (λ x. record { root = x; function = a.function }) r ∙ ap (λ x. record { root = b.root; function = x }) f

pub copy_self : (a : CopyOf) → same_copy a a ≡ true
copy_self a = both (same_root a.root a.root) (nat_eq a.function a.function) (root_same a.root) (nat_same a.function)

-- ---- frames that are opened
pub frame_kept : (h i y : ℕ) (m : Memory) → (i ≡ h → ⊥) → without_frame h m (Frame i y) ≡ m (Frame i y)
frame_kept h i y m far = off (nat_eq i h) bytes.Unset (m (Frame i y)) (nat_apart i h (⊎_elim (λ l. inl l) (λ ge. ⊎_elim (λ l. inr l) (λ ge2. absurd (far (omega arith))) (cases_lt h i)) (cases_lt i h)))

pub bool_cases : (b : Bool) → (b ≡ true) ⊎ (b ≡ false)
bool_cases true = inl refl
bool_cases false = inr refl

or_left_false : (a b : Bool) → a ≡ false → (a || b) ≡ true → b ≡ true
or_left_false true b e h = absurd (cc)
or_left_false false b e h = h

-- A copy that is opened has no values, in the source and in byte code; all others agree as before.
pub opened_agrees : (z : Scene) (laws : SceneLaws z) (c : CopyOf) (live : List CopyOf) (l : source.Memory) (m : Memory) → IsReached z.program c → Agrees z live l m → Agrees z (c ∷ live) (fresh l c) (without_frame (number z c) m)
unfolding is_alive
opened_agrees z laws c live l m r a (objects.Fixed n) at there alive lt = a (objects.Fixed n) at there refl lt
opened_agrees z laws c live l m r a (objects.Variable d n) at there alive lt =
    ⊎_elim
    (λ same. subst (λ b. Agree z (if b then values.Unset else l (objects.Variable d n) at) (without_frame (number z c) m (core_byte z (objects.Variable d n) at))) (sym same) tt)
    (λ other.
    let far : number z d ≡ number z c → ⊥ = λ e. let q = ap (λ x. same_copy x c) (laws.apart d c there.0 r e) ∙ copy_self c in let p : true ≡ false = sym q ∙ other in cc in
    let not_c : same_copy c d ≡ false = ⊎_elim (λ t. absurd (let q = ap (λ x. same_copy d x) (copy_is c d t) ∙ copy_self d in let p : true ≡ false = sym q ∙ other in cc)) (λ f. f) (bool_cases (same_copy c d)) in
    subst (λ b. Agree z (if b then values.Unset else l (objects.Variable d n) at) (without_frame (number z c) m (core_byte z (objects.Variable d n) at))) (sym other)
    (agree_moved z (l (objects.Variable d n) at) (m (core_byte z (objects.Variable d n) at)) (without_frame (number z c) m (core_byte z (objects.Variable d n) at)) (frame_kept (number z c) (number z d) _ m far)
    (a (objects.Variable d n) at there (or_left_false (same_copy c d) (is_among live d) not_c alive) lt)))
    (bool_cases (same_copy d c))

pub enters_goes : (z : Scene) (laws : SceneLaws z) (h : ℕ) (cp : CopyOf) (x : Focus) (k : List Pending) (l : source.Memory) (w : World value.Byte) (c : Machine) → handler_in z.program ≡ Some h → IsReached z.program cp → cp.root ≡ Main → IsResumable x
    → Apart z (number z (copy_of Isr h)) k → MainsWait k → is_due (arrived z.outside w) ≡ true
    → Mirrors z (state cp x k l w) c → Follow z 100 1 c (enters_source z.program h x k cp l (arrived z.outside w))
unfolding active
enters_goes z laws h cp x k l w c is reached main resumable apart mains due hm =
    let hc = copy_of Isr h in
    let n = number z hc in
    let W = world_as (held z) (arrived z.outside w) in
    let own = (laws.handles h is).0 in
    let there = (laws.handles h is).1 in
    let p = placed_of z (state cp x k l w) c hm in
    let due' : is_due W ≡ true = due_as (held z) (arrived z.outside w) ∙ due in
    let same : number z (copy_at cp x k) ≡ number z cp = ap (number z) (resumed_copy cp x k resumable) in
    let far : number z cp ≡ n → ⊥ = λ e. let q : Main ≡ Isr = sym main ∙ ap (λ y. y.root) (laws.apart cp hc reached own e) in cc in
    let m' = without_frame n c.memory in
    let code_is = laws.bodies hc own in
    let body = (function_at z.program h).body in
    let T = Mirrors z (state hc Past (Before body ∷ Resumes cp x ∷ k) (fresh l hc) (entered (arrived z.outside w))) in
    let d : Machine = record { copy = n; passing = None; code = tasks [] ((core_in z).program.body n) []; stack = InHandler (number z (copy_at cp x k)) None c.code ∷ c.stack; memory = m'; world = entered W } in
    let may : may_interrupt (core_in z).program n (number z (copy_at cp x k)) ≡ true =
    both (same_root ((core_in z).program.root n) Isr) (same_root ((core_in z).program.root (number z (copy_at cp x k))) Main) (ap (λ r. same_root r Isr) (laws.roots hc own)) (ap (λ i. same_root ((core_in z).program.root i) Main) same ∙ ap (λ r. same_root r Main) (laws.roots cp reached ∙ main)) in
    let em = most_due (core_in z) (number z (copy_at cp x k)) None (code_at z (ground_in z cp) x k) (stack_at z (ground_in z cp) x k) c.memory W c p due' in
    let el = least_due (core_in z) (number z (copy_at cp x k)) None (code_at z (ground_in z cp) x k) (stack_at z (ground_in z cp) x k) c.memory W c p due' in
    comes_within (core_in z) T (100 + 0) (1 + 0) 100 1 c
    (comes_first (core_in z) T 0 0 100 1 c d
    (enters (core_in z) (number z (copy_at cp x k)) None (code_at z (ground_in z cp) x k) (stack_at z (ground_in z cp) x k) c.memory W c p due'
    ∙ ap (λ y. enter (core_in z).program y c.code (number z (copy_at cp x k)) None c.stack c.memory W) there
    ∙ ap (λ y. when y (begins (core_in z).program n (InHandler (number z (copy_at cp x k)) None c.code ∷ c.stack) m' (entered W))) may)
    (omega arith) (omega arith)
    (comes_here (core_in z) T d
    (mirrors z hc Past (Before body ∷ Resumes cp x ∷ k) (fresh l hc) (entered (arrived z.outside w)) m' d
    (record {
      copy = refl;
      passing = refl;
      code = plain_tasks [] ((core_in z).program.body n) [] ∙ ap (λ y. todo y []) code_is ∙ todo_join (stmts_code (ground_in z hc) outside body) (code.Leave ∷ []) [];
      stack = ap (λ i. InHandler i None (plain c.code) ∷ plain_behind c.stack) same ∙ ap (λ y. InHandler (number z cp) None y ∷ plain_behind c.stack) hm.code ∙ ap (λ y. InHandler (number z cp) None (code_at z (ground_in z cp) x k) ∷ y) (hm.stack ∙ resumed_stack z (ground_in z cp) x k resumable);
      memory = refl;
      world = ap (arrived z.outside) (entered_as (held z) (arrived z.outside w)) ∙ arrived_as (held z) z.outside (entered (arrived z.outside w));
    })
    (opened_agrees z laws hc (active cp x k) l c.memory own hm.agrees) (
      value_far z (ground_in z cp) x k c.memory m' (λ y. frame_kept n (ground_in z cp).copy y c.memory (λ e. far (sym (own_copy z cp) ∙ e))) (λ i. refl) hm.value,
      holds_far z n cp k c.memory m' (λ i f y. frame_kept n i y c.memory f) (λ i. refl) far apart mains hm.holds,
    )
    tt)))
    (omega arith) (omega arith)
