-- A function returns a value.
use Rattle.std.proofs.Common.{◌≡◌, ℕ, zero, suc, ◌+◌, ◌*◌, ◌<◌, ◌≤◌, false, ◌&&◌, nat_eq, List, [], ◌∷◌, ◌++◌, Some, None, refl, sym, ap, ◌∙◌, subst, arith}
use Rattle.c_ints.specs.declared.types.IntTy.TheVariants as int
use Rattle.c_typed.specs.Trees as tree
use Rattle.c_typed.specs.Trees.{Expression}
use Rattle.core_code.specs.Bytes.{Held, Memory, same_byte, with_byte, with_bytes}
use Rattle.core_code.specs.Machine.{Machine, Do as Todo}
use Rattle.core_code.specs.Tree as code
use Rattle.core_code.specs.declared.code.Byte.TheVariants.{Frame, Result}
use Rattle.core_puts.specs.Puts.{copies}
use Rattle.lower_expr.specs.Spots.{spot_of}
use Rattle.lower_stmt.specs.Ground.{Ground, first, result_byte}
use Rattle.lower_stmt.specs.Ground as ground
use Rattle.pic_world.specs.Roots.{same_root}
use Rattle.pic_world.specs.World.{World, arrived, is_due, world_as}
use Rattle.pic_world.specs.declared.Root.{Root}
use Rattle.src_rules.specs.Giving.{take_for}
use Rattle.src_rules.specs.State.{state}
use Rattle.src_rules.specs.Standing.{IsReached}
use Rattle.src_rules.specs.Statements.{unwound}
use Rattle.src_values.specs.Control.{Focus, Eval, Find, Holds as Value, Found, Run, Past, Fetch, Skim, Write, PutBit, CopyRead, CopyWrite, Spell, Blank, Calls, Leaves, Compares, Over, Tests, Pending, In, To, Doing, Before, Returns, Resumes, active}
use Rattle.src_values.specs.Data as datum
use Rattle.src_values.specs.Data.{Datum}
use Rattle.src_values.specs.Memory as source
use Rattle.src_values.specs.Values.{byte_count, byte_of, number_of, lowest_bit}
use Rattle.src_values.specs.declared.objects.Byte as value
use Rattle.src_values.specs.declared.objects.CopyOf.{CopyOf}
use Rattle.lower_trace.proofs.Beginnings.{Follow}
use Rattle.lower_trace.proofs.CodeLeft.{Scene, held, number, ground_in, core_in, source_in, todo, wanted, base, stored_at, code_after, stack_after}
use Rattle.lower_trace.proofs.Constants.{due_below, again_below}
use Rattle.lower_trace.proofs.Ends.{agrees_unwound, holds_unwound}
use Rattle.lower_trace.proofs.Giving.{placed_of, agrees_same}
use Rattle.lower_trace.proofs.Handing.{results_then, result_there, frame_there, object_there}
use Rattle.lower_trace.proofs.Kept.{SceneLaws, SameFrame, own_copy, own_root, waits_far, if_far, read_far, datum_same, at_same, copied_base, copied_same, carried_same, copies_far}
use Rattle.lower_trace.proofs.Leaving.{IsResumable, Through, through, function_left}
use Rattle.lower_trace.proofs.Mirrors.{standing, Mirrors, Agrees, Holds, HasValue}
use Rattle.lower_trace.proofs.Operations.{Comes, comes_within}
use Rattle.lower_trace.proofs.Placed.{Placed, todo_join}
use Rattle.lower_trace.proofs.Written.{off}

-- ---- results change, and nothing else
value_frames : (z : Scene) (g : Ground) (x : Focus) (k : List Pending) (m m' : Memory) → IsResumable x → SameFrame g.copy m m' → ((i : ℕ) → m' (Result g.layout.root i) ≡ m (Result g.layout.root i)) → HasValue z g x k m → HasValue z g x k m'
value_frames z g (Eval e) k m m' x s o h = tt
value_frames z g (Find place) k m m' x s o h = tt
value_frames z g (Value v) k m m' x s o h = if_far z g.copy (base g k) (wanted k) v m m' s h
value_frames z g (Found at) k m m' x s o h = λ place is. at_same z g.copy (base g k) (spot_of g.layout g.copy place) at m m' (λ y le lt. s y) (h place is)
value_frames z g (Run t) k m m' x s o h = tt
value_frames z g Past k m m' x s o h = tt
value_frames z g (Fetch at read) k m m' x s o h = read_far z g k at read m m' s h
value_frames z g (Skim at left byte) k m m' x s o h = (h.0, h.1, h.2, read_far z g k at h.0 m m' s h.3)
value_frames z g (Write at v done) k m m' x s o h = datum_same z g.copy (stored_at g k) (standing at done v) m m' (λ y le lt. s y) h
value_frames z g (PutBit register bit v old) k m m' x s o h = datum_same z g.copy (stored_at g k) (number_of int.UChar (lowest_bit v)) m m' (λ y le lt. s y) h
value_frames z g (CopyRead to from left) k m m' x s o h = copied_same z g k to from left 0 m m' (copies_far g (copied_base g k) m m' s) o h
value_frames z g (CopyWrite to from byte left) k m m' x s o h = carried_same z g k to from byte left 0 m m' (copies_far g (copied_base g k) m m' s) o h
value_frames z g (Spell at text left) k m m' x s o h = tt
value_frames z g (Blank at left) k m m' x s o h = tt
value_frames z g Calls k m m' x s o h = tt
value_frames z g (Leaves v) k m m' x s o h = absurd x
value_frames z g (Compares v labels) k m m' x s o h = (h.0, datum_same z g.copy g.base v m m' (λ y le lt. s y) h.1)
value_frames z g Over k m m' x s o h = tt

-- What the handler interrupted isn't the end of a function, and has results of its own: it has another root.
abbrev pub Resumables : Root → List Pending → Type 0
Resumables q [] = Unit {0}
Resumables q (In e got ∷ k) = Resumables q k
Resumables q (To place ∷ k) = Resumables q k
Resumables q (Doing t stage ∷ k) = Resumables q k
Resumables q (Before ss ∷ k) = Resumables q k
Resumables q (Returns d ∷ k) = Resumables q k
Resumables q (Resumes d x ∷ k) = IsResumable x × (same_root d.root q ≡ false) × Resumables q k

-- only results of a root are others
abbrev pub SameOthers : Root → Memory → Memory → Type 0
SameOthers q m m' = (r : Root) (i : ℕ) → same_root r q ≡ false → m' (Result r i) ≡ m (Result r i)

pub set_others : (q : Root) (i : ℕ) (h : Held) (m : Memory) → SameOthers q m (with_byte m (Result q i) h)
set_others q i h m r j e = off (same_byte (Result r j) (Result q i)) h (m (Result r j)) (ap (λ b. b && nat_eq j i) e)

pub others_then : (q : Root) (m m' m'' : Memory) → SameOthers q m m' → SameOthers q m' m'' → SameOthers q m m''
others_then q m m' m'' a b r i e = b r i e ∙ a r i e

results_others : (q : Root) (n : ℕ) (h : ℕ → Held) (m : Memory) → SameOthers q m (with_bytes m (Result q 0) n h)
results_others q zero h m r i e = refl
results_others q (suc n) h m r i e = set_others q (0 + n) (h n) (with_bytes m (Result q 0) n h) r i e ∙ results_others q n h m r i e

pub holds_frames : (z : Scene) (q : Root) (c : CopyOf) (k : List Pending) (m m' : Memory) → Resumables q k → ((i : ℕ) → SameFrame i m m') → SameOthers q m m' → Holds z (ground_in z c) k m → Holds z (ground_in z c) k m'
holds_frames z q c [] m m' r s o h = tt
holds_frames z q c (In e got ∷ k) m m' r s o h = (waits_far z (ground_in z c) (base (ground_in z c) k) (wanted k) e got m m' (s (ground_in z c).copy) h.0, holds_frames z q c k m m' r s o h.1)
holds_frames z q c (To place ∷ k) m m' r s o h = holds_frames z q c k m m' r s o h
holds_frames z q c (Doing t stage ∷ k) m m' r s o h = holds_frames z q c k m m' r s o h
holds_frames z q c (Before ss ∷ k) m m' r s o h = holds_frames z q c k m m' r s o h
holds_frames z q c (Returns d ∷ k) m m' r s o h = holds_frames z q d k m m' r s o h
holds_frames z q c (Resumes d x ∷ k) m m' r s o h =
    (value_frames z (ground_in z d) x k m m' r.0 (s (ground_in z d).copy) (λ i. subst (λ y. m' (Result y i) ≡ m (Result y i)) (sym (own_root z d)) (o d.root i r.1)) h.0, holds_frames z q d k m m' r.2 s o h.1)

-- ---- the value goes to the results, and the function is left
return_case : (z : Scene) (laws : SceneLaws z) (e : Expression) (line : ℕ) (v : Datum) (d : CopyOf) (k k' : List Pending) (cp : CopyOf) (l : source.Memory) (w : World value.Byte) (c : Machine) → unwound k ≡ Returns d ∷ k' → Resumables cp.root k' → IsReached z.program cp → ground.width (ground_in z cp) e ≤ 4 → byte_count v ≤ ground.width (ground_in z cp) e → (ground_in z cp).base + ground.width (ground_in z cp) e ≤ (core_in z).program.frame_bytes (number z cp) → is_due (arrived z.outside w) ≡ false
    → Mirrors z (state cp (Value v) (Doing (tree.Return (Some e) line) Tests ∷ k) l w) c → Comes (core_in z) (Mirrors z (state cp (Leaves v) (unwound k) l (arrived z.outside w))) (6 * ground.width (ground_in z cp) e + 4) 1 c
unfolding active
return_case z laws e line v d k k' cp l w c is resumables reached few count room due h =
    let n = number z cp in
    let g = ground_in z cp in
    let b = g.base in
    let x = ground.width g e in
    let T = Mirrors z (state cp (Leaves v) (Returns d ∷ k') l (arrived z.outside w)) in
    let W = world_as (held z) (arrived z.outside w) in
    let m = c.memory in
    let m' = with_bytes m (Result cp.root 0) x (λ i. m (Frame n (b + i))) in
    let s = stack_after z g k in
    let r = Todo [] code.Leave ∷ code_after g k in
    let start = placed_of z (state cp (Value v) (Doing (tree.Return (Some e) line) Tests ∷ k) l w) c h in
    let split : todo (copies (result_byte g) (first g) x ++ code.Leave ∷ []) (code_after g k) ≡ todo (copies (Result cp.root 0) (Frame n b) x) r =
    todo_join (copies (result_byte g) (first g) x) (code.Leave ∷ []) (code_after g k)
    ∙ ap (λ q. todo (copies (Result q 0) (first g) x) r) (own_root z cp) ∙ ap (λ i. todo (copies (Result cp.root 0) (Frame i b) x) r) (own_copy z cp) in
    let agrees : Agrees z (active cp Past (Returns d ∷ k')) l m' =
    agrees_same z (active cp Past (Returns d ∷ k')) l m m' (λ object at there lt. object_there z m cp.root x (λ i. m (Frame n (b + i))) object at)
    (subst (λ y. Agrees z (active cp Past y) l m) is (agrees_unwound z cp k l m h.agrees)) in
    let holds : Holds z (ground_in z d) k' m' =
    holds_frames z cp.root d k' m m' resumables (λ i y. frame_there m cp.root x (λ j. m (Frame n (b + j))) i y) (results_others cp.root x (λ j. m (Frame n (b + j))) m) (subst (λ y. Holds z g y m) is (holds_unwound z g k m h.holds)) in
    let values : (i : ℕ) → i < byte_count v → m' (Result g.layout.root i) ≡ held z (byte_of v i) =
    λ i lt. ap (λ q. m' (Result q i)) (own_root z cp) ∙ result_there m cp.root x (λ j. m (Frame n (b + j))) i (omega arith) ∙ ap (λ j. m (Frame j (b + i))) (sym (own_copy z cp)) ∙ h.value i lt in
    subst (λ y. Comes (core_in z) (Mirrors z (state cp (Leaves v) y l (arrived z.outside w))) (6 * x + 4) 1 c) (sym is)
    (comes_within (core_in z) T (6 * x + 4) 1 (6 * x + 4) 1 c
    (results_then (core_in z) T n None s W (due_below z (arrived z.outside w) due) (again_below z w) cp.root (laws.roots cp reached) (laws.small n) x b r m c 4 1 few room (subst (λ y. Placed (core_in z) n None y s m W c) split start)
    (λ e' pe. function_left z cp l w due (code_after g k) s m' e' pe v d k' (subst (λ y. Through n e'.stack (stack_after z g y)) is (through z g n k e'.stack pe.stack)) agrees holds values))
    (omega arith) (omega arith))

pub return_given : (z : Scene) (laws : SceneLaws z) (e : Expression) (line : ℕ) (v : Datum) (d : CopyOf) (k k' : List Pending) (cp : CopyOf) (l : source.Memory) (w : World value.Byte) (c : Machine) → unwound k ≡ Returns d ∷ k' → Resumables cp.root k' → IsReached z.program cp → ground.width (ground_in z cp) e ≤ 4 → byte_count v ≤ ground.width (ground_in z cp) e → (ground_in z cp).base + ground.width (ground_in z cp) e ≤ (core_in z).program.frame_bytes (number z cp) → is_due (arrived z.outside w) ≡ false
    → Mirrors z (state cp (Value v) (Doing (tree.Return (Some e) line) Tests ∷ k) l w) c → Follow z (6 * ground.width (ground_in z cp) e + 4) 1 c (take_for (source_in z) (tree.Return (Some e) line) Tests v k cp l (arrived z.outside w))
return_given z laws e line datum.Missing d k k' cp l w c is resumables reached few count room due h = tt
return_given z laws e line (datum.Number q) d k k' cp l w c is resumables reached few count room due h = return_case z laws e line (datum.Number q) d k k' cp l w c is resumables reached few count room due h
return_given z laws e line (datum.Pointer x) d k k' cp l w c is resumables reached few count room due h = return_case z laws e line (datum.Pointer x) d k k' cp l w c is resumables reached few count room due h
