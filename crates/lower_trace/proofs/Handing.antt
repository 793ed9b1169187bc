-- Values of functions: they go to the results of the root, and from there to the call.
use Rattle.std.proofs.Common.{◌≡◌, ℕ, zero, suc, ◌+◌, ◌*◌, ◌<◌, ◌≤◌, inl, Bool, true, false, nat_eq, nat_le, List, [], ◌∷◌, ◌++◌, Option, None, refl, sym, ap, ◌∙◌, subst, ⊎_elim, arith}
use Rattle.std.proofs.lemmas.Bool.{cases_lt}
use Rattle.std.proofs.lemmas.Grind.{common_steps}
use Rattle.c_typed.specs.Trees as tree
use Rattle.c_typed.specs.Trees.{Expression, Expressions}
use Rattle.c_typed.specs.declared.types.Ty.{Ty}
use Rattle.core_code.specs.Bytes.{Held, Memory, same_byte, with_byte, with_bytes}
use Rattle.core_code.specs.Machine.{Setting, Machine, Task, Waiting, Do as Todo, is_valid, is_own}
use Rattle.core_code.specs.Tree as code
use Rattle.core_code.specs.Tree.{Tree}
use Rattle.core_code.specs.declared.code.Byte.TheVariants.{Static, Frame, Result}
use Rattle.core_puts.specs.Bytes.{little_beyond, behind}
use Rattle.lower_expr.specs.Layout.{width}
use Rattle.core_puts.specs.Puts.{copies, copies_if}
use Rattle.pic_world.specs.Roots.{same_root}
use Rattle.pic_world.specs.World.{World, arrived, is_due, world_as}
use Rattle.pic_world.specs.declared.Root.{Root}
use Rattle.src_rules.specs.State.{state}
use Rattle.src_rules.specs.Standing.{IsReached}
use Rattle.src_rules.specs.Statements.{leave}
use Rattle.src_values.specs.Control.{Holds as Value, Leaves, Called, Pending, In, Returns, active}
use Rattle.src_values.specs.Data.{Datum}
use Rattle.src_values.specs.Memory as source
use Rattle.src_values.specs.Values.{byte_count, byte_of}
use Rattle.src_values.specs.declared.objects.Byte as value
use Rattle.src_values.specs.declared.objects.CopyOf.{CopyOf}
use Rattle.src_values.specs.declared.objects.Object as object
use Rattle.src_values.specs.declared.objects.Object.TheVariants as objects
use Rattle.lower_trace.proofs.Beginnings.{Follow}
use Rattle.lower_trace.proofs.CodeLeft.{Scene, held, number, ground_in, core_in, todo, wanted, base, code_after, stack_after}
use Rattle.lower_trace.proofs.Constants.{due_below, again_below, same_below}
use Rattle.lower_trace.proofs.Flow.{arrive}
use Rattle.lower_trace.proofs.Leaving.{agrees_fewer}
use Rattle.lower_trace.proofs.Giving.{Around, placed_of, gives}
use Rattle.lower_trace.proofs.Kept.{SceneLaws, own_copy, own_root}
use Rattle.lower_trace.proofs.Mirrors.{Mirrors, Agrees, Holds, HasIf, core_byte}
use Rattle.lower_trace.proofs.Operations.{Comes, comes_here, comes_within, beyond_is, own_frame, copy_then}
use Rattle.lower_trace.proofs.Placed.{Placed, todo_join}
use Rattle.lower_trace.proofs.Written.{root_same, nat_same, nat_apart, both, off, on, and_false, bytes_clear}

pub little_is : (n : ℕ) → n ≤ 255 → little_beyond 0 n ≡ n
unfolding little_beyond
little_is n le = grind (arith, common_steps)

pub own_result : (g : Setting) (n k : ℕ) (r : Root) → g.program.root n ≡ r → k < 4 → is_own g.program n (Result r k) 1 ≡ true
unfolding is_own
own_result g n k r e lt = both (same_root r (g.program.root n)) (nat_le (k + 1) 4) (ap (same_root r) e ∙ root_same r) (grind (arith, common_steps))

pub valid_result : (g : Setting) (n k : ℕ) (r : Root) → g.program.root n ≡ r → k < 4 → is_valid g.program n (Result r k) ≡ true
unfolding is_valid
valid_result g n k r e lt = own_result g n k r e lt

pub valid_frame : (g : Setting) (n k : ℕ) → k < g.program.frame_bytes n → is_valid g.program n (Frame n k) ≡ true
unfolding is_valid
valid_frame g n k lt = own_frame g.program n k 1 (omega arith)

-- ---- results behind a write to them
pub result_there : (m : Memory) (r : Root) (k : ℕ) (h : ℕ → Held) (i : ℕ) → i < k → with_bytes m (Result r 0) k h (Result r i) ≡ h i
result_there m r zero h i lt = absurd (omega arith)
result_there m r (suc k) h i lt =
    let z : 0 + k ≡ k = omega arith in
    ⊎_elim
    (λ l. off (same_byte (Result r i) (Result r (0 + k))) (h k) (with_bytes m (Result r 0) k h (Result r i)) (and_false (same_root r r) (nat_eq i (0 + k)) (nat_apart i (0 + k) (inl (omega arith)))) ∙ result_there m r k h i l)
    (λ ge.
    let q : i ≡ k = omega arith in
    let e : i ≡ 0 + k = omega arith in
    on (same_byte (Result r i) (Result r (0 + k))) (h k) (with_bytes m (Result r 0) k h (Result r i)) (both (same_root r r) (nat_eq i (0 + k)) (root_same r) (ap (λ x. nat_eq x (0 + k)) e ∙ nat_same (0 + k))) ∙ ap h (sym q))
    (cases_lt i k)

pub frame_there : (m : Memory) (r : Root) (k : ℕ) (h : ℕ → Held) (c y : ℕ) → with_bytes m (Result r 0) k h (Frame c y) ≡ m (Frame c y)
frame_there m r zero h c y = refl
frame_there m r (suc k) h c y = frame_there m r k h c y

static_there : (m : Memory) (r : Root) (k : ℕ) (h : ℕ → Held) (c y : ℕ) → with_bytes m (Result r 0) k h (Static c y) ≡ m (Static c y)
static_there m r zero h c y = refl
static_there m r (suc k) h c y = static_there m r k h c y

pub object_there : (z : Scene) (m : Memory) (r : Root) (k : ℕ) (h : ℕ → Held) (object : object.Object) (at : ℕ) → with_bytes m (Result r 0) k h (core_byte z object at) ≡ m (core_byte z object at)
object_there z m r k h (objects.Fixed n) at = static_there m r k h n (0 + at)
object_there z m r k h (objects.Variable c n) at = frame_there m r k h _ _

module _ (g : Setting) (T : Machine → Type 0) (n : ℕ) (a : Option ℕ) (s : List Waiting) (w : World Held) (due : is_due w ≡ false) (again : arrived g.outside w ≡ w) (root : Root) (is_root : g.program.root n ≡ root) (small : g.program.frame_bytes n ≤ 96) where
  -- own bytes become results
  pub results_then : (k b : ℕ) (r : List Task) (m : Memory) (c : Machine) (q l : ℕ) → k ≤ 4 → b + k ≤ g.program.frame_bytes n → Placed g n a (todo (copies (Result root 0) (Frame n b) k) r) s m w c
      → ((d : Machine) → Placed g n a r s (with_bytes m (Result root 0) k (λ i. m (Frame n (b + i)))) w d → Comes g T q l d) → Comes g T (6 * k + q) l c
  unfolding copies
  results_then zero b r m c q l few room p next = comes_within g T q l (6 * 0 + q) l c (next c p) (omega arith) (omega arith)
  results_then (suc k) b r m c q l few room p next =
      let to : behind (Result root 0) k ≡ Result root (0 + k) = ap (Result root) (little_is k (omega arith)) ∙ (let e : k ≡ 0 + k = omega arith in ap (Result root) e) in
      let from : behind (Frame n b) k ≡ Frame n (b + k) = ap (Frame n) (beyond_is b k (omega arith)) in
      let m' = with_bytes m (Result root 0) k (λ i. m (Frame n (b + i))) in
      let split : todo (copies (Result root 0) (Frame n b) k ++ code.Copy (behind (Result root 0) k) (behind (Frame n b) k) ∷ []) r ≡ todo (copies (Result root 0) (Frame n b) k) (Todo [] (code.Copy (Result root (0 + k)) (Frame n (b + k))) ∷ r) =
      todo_join (copies (Result root 0) (Frame n b) k) (code.Copy (behind (Result root 0) k) (behind (Frame n b) k) ∷ []) r
      ∙ ap (λ x. todo (copies (Result root 0) (Frame n b) k) (Todo [] (code.Copy x (behind (Frame n b) k)) ∷ r)) to
      ∙ ap (λ x. todo (copies (Result root 0) (Frame n b) k) (Todo [] (code.Copy (Result root (0 + k)) x) ∷ r)) from in
      comes_within g T (6 * k + (6 + q)) (0 + l) (6 * suc k + q) l c
      (results_then k b (Todo [] (code.Copy (Result root (0 + k)) (Frame n (b + k))) ∷ r) m c (6 + q) (0 + l) (omega arith) (omega arith) (subst (λ x. Placed g n a x s m w c) split p)
      (λ d pd. copy_then g T n a s w due again (Result root (0 + k)) (Frame n (b + k)) r m' d q l 0 (omega arith) refl (valid_frame g n (b + k) (omega arith)) (own_result g n (0 + k) root is_root (omega arith)) pd
      (λ e pe. next e (subst (λ x. Placed g n a r s (with_byte m' (Result root (0 + k)) x) w e) (frame_there m root k (λ i. m (Frame n (b + i))) n (b + k)) pe))))
      (omega arith) (omega arith)

  -- results become own bytes
  pub taken_then : (k b : ℕ) (r : List Task) (m : Memory) (c : Machine) (q l : ℕ) → k ≤ 4 → b + k ≤ g.program.frame_bytes n → Placed g n a (todo (copies (Frame n b) (Result root 0) k) r) s m w c
      → ((d : Machine) → Placed g n a r s (with_bytes m (Frame n b) k (λ i. m (Result root i))) w d → Comes g T q l d) → Comes g T (6 * k + q) l c
  unfolding copies
  taken_then zero b r m c q l few room p next = comes_within g T q l (6 * 0 + q) l c (next c p) (omega arith) (omega arith)
  taken_then (suc k) b r m c q l few room p next =
      let from : behind (Result root 0) k ≡ Result root k = ap (Result root) (little_is k (omega arith)) in
      let to : behind (Frame n b) k ≡ Frame n (b + k) = ap (Frame n) (beyond_is b k (omega arith)) in
      let m' = with_bytes m (Frame n b) k (λ i. m (Result root i)) in
      let split : todo (copies (Frame n b) (Result root 0) k ++ code.Copy (behind (Frame n b) k) (behind (Result root 0) k) ∷ []) r ≡ todo (copies (Frame n b) (Result root 0) k) (Todo [] (code.Copy (Frame n (b + k)) (Result root k)) ∷ r) =
      todo_join (copies (Frame n b) (Result root 0) k) (code.Copy (behind (Frame n b) k) (behind (Result root 0) k) ∷ []) r
      ∙ ap (λ x. todo (copies (Frame n b) (Result root 0) k) (Todo [] (code.Copy x (behind (Result root 0) k)) ∷ r)) to
      ∙ ap (λ x. todo (copies (Frame n b) (Result root 0) k) (Todo [] (code.Copy (Frame n (b + k)) x) ∷ r)) from in
      comes_within g T (6 * k + (6 + q)) (0 + l) (6 * suc k + q) l c
      (taken_then k b (Todo [] (code.Copy (Frame n (b + k)) (Result root k)) ∷ r) m c (6 + q) (0 + l) (omega arith) (omega arith) (subst (λ x. Placed g n a x s m w c) split p)
      (λ d pd. copy_then g T n a s w due again (Frame n (b + k)) (Result root k) r m' d q l 0 (omega arith) refl (valid_result g n k root is_root (omega arith)) (own_frame g.program n (b + k) 1 (omega arith)) pd
      (λ e pe. next e (subst (λ x. Placed g n a r s (with_byte m' (Frame n (b + k)) x) w e) (bytes_clear m n b k (λ i. m (Result root i)) (Result root k) tt) pe))))
      (omega arith) (omega arith)

-- ---- a call has its value
handed_case : (z : Scene) (laws : SceneLaws z) (want : Bool) (ty : Ty) (v : Datum) (d : CopyOf) (k : List Pending) (l : source.Memory) (w : World value.Byte) (c : Machine) → wanted k ≡ want → Around z d k → IsReached z.program d → base (ground_in z d) k + width (ground_in z d).layout ty ≤ (core_in z).program.frame_bytes (number z d)
    → width (ground_in z d).layout ty ≤ 4 → byte_count v ≤ width (ground_in z d).layout ty → is_due (arrived z.outside w) ≡ false
    → Agrees z (active d (Value v) k) l c.memory → Holds z (ground_in z d) k c.memory → ((i : ℕ) → i < byte_count v → c.memory (Result d.root i) ≡ held z (byte_of v i))
    → Placed (core_in z) (number z d) None (todo (copies_if want (Frame (number z d) (base (ground_in z d) k)) (Result d.root 0) (width (ground_in z d).layout ty)) (code_after (ground_in z d) k)) (stack_after z (ground_in z d) k) c.memory (world_as (held z) (arrived z.outside w)) c
    → Comes (core_in z) (Mirrors z (state d (Value v) k l (arrived z.outside w))) (6 * width (ground_in z d).layout ty) 0 c
handed_case z laws true ty v d k l w c is around reached room few count due agrees holds there p =
    let n = number z d in
    let g = ground_in z d in
    let b = base g k in
    let x = width g.layout ty in
    let T = Mirrors z (state d (Value v) k l (arrived z.outside w)) in
    let W = world_as (held z) (arrived z.outside w) in
    comes_within (core_in z) T (6 * x + 0) 0 (6 * x) 0 c
    (taken_then (core_in z) T n None (stack_after z g k) W (due_below z (arrived z.outside w) due) (again_below z w) d.root (laws.roots d reached) (laws.small n) x b (code_after g k) c.memory c 0 0 few room p
    (λ e pe. comes_here (core_in z) T e
    (gives z laws d k l (arrived z.outside w) c.memory x (λ i. c.memory (Result d.root i)) v e around count there
    (subst (λ y. Placed (core_in z) n None (code_after g k) (stack_after z g k) (with_bytes c.memory (Frame n b) x (λ i. c.memory (Result d.root i))) y e) (same_below z w) pe)
    agrees holds)))
    (omega arith) (omega arith)
handed_case z laws false ty v d k l w c is around reached room few count due agrees holds there p =
    let T = Mirrors z (state d (Value v) k l (arrived z.outside w)) in
    comes_within (core_in z) T 0 0 (6 * width (ground_in z d).layout ty) 0 c
    (arrive z d (Value v) k l w c.memory c p agrees holds (subst (λ b. HasIf b z (ground_in z d).copy (base (ground_in z d) k) v c.memory) (sym is) tt))
    (omega arith) (omega arith)

pub call_handed : (z : Scene) (laws : SceneLaws z) (function : ℕ) (arguments : Expressions) (ty : Ty) (line : ℕ) (v : Datum) (d cp : CopyOf) (k : List Pending) (l : source.Memory) (w : World value.Byte) (c : Machine) → Around z d k → IsReached z.program d → base (ground_in z d) k + width (ground_in z d).layout ty ≤ (core_in z).program.frame_bytes (number z d)
    → width (ground_in z d).layout ty ≤ 4 → byte_count v ≤ width (ground_in z d).layout ty → cp.root ≡ d.root → is_due (arrived z.outside w) ≡ false
    → Mirrors z (state cp (Leaves v) (Returns d ∷ In (tree.Call function arguments ty line) Called ∷ k) l w) c
    → Follow z (6 * width (ground_in z d).layout ty) 0 c (leave v (Returns d ∷ In (tree.Call function arguments ty line) Called ∷ k) l (arrived z.outside w))
unfolding active
call_handed z laws function arguments ty line v d cp k l w c around reached room few count roots due h =
    let n = number z d in
    let g = ground_in z d in
    let x = width g.layout ty in
    let e = tree.Call function arguments ty line in
    handed_case z laws (wanted k) ty v d k l w c refl around reached room few count due (agrees_fewer z cp (active d (Value v) k) l c.memory h.agrees) h.holds.1
    (λ i lt. ap (λ q. c.memory (Result q i)) (sym (own_root z cp ∙ roots)) ∙ h.value i lt)
    (subst (λ q. Placed (core_in z) n None (todo (copies_if (wanted k) (Frame n (base g k)) (Result q 0) x) (code_after g k)) (stack_after z g k) c.memory (world_as (held z) (arrived z.outside w)) c) (own_root z d)
    (subst (λ i. Placed (core_in z) n None (todo (copies_if (wanted k) (Frame i (base g k)) (Result g.layout.root 0) x) (code_after g k)) (stack_after z g k) c.memory (world_as (held z) (arrived z.outside w)) c) (own_copy z d)
    (placed_of z (state cp (Leaves v) (Returns d ∷ In e Called ∷ k) l w) c h)))
