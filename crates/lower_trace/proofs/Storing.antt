-- Fixed places are written, byte by byte: what a write to an object keeps, and the step itself.
use Rattle.std.proofs.Common.{◌≡◌, ℕ, ◌+◌, ◌-◌, ◌<◌, ◌≤◌, inl, inr, ⊎_elim, Bool, true, false, ◌&&◌, nat_eq, if◌then◌else◌, pos, List, [], ◌∷◌, None, refl, sym, ap, ◌∙◌, subst, arith}
use Rattle.std.proofs.lemmas.Bool.{cases_lt}
use Rattle.std.proofs.lemmas.Grind.{common_steps}
use Rattle.c_ints.specs.Operators.{cut_to}
use Rattle.c_ints.specs.declared.types.IntTy.TheVariants as int
use Rattle.c_typed.specs.Trees as tree
use Rattle.c_typed.specs.Trees.{Expression, Expressions, Place}
use Rattle.core_code.specs.Bytes.{Held, Memory, same_byte, with_byte}
use Rattle.core_code.specs.Machine.{Machine, Task, Do as Todo, is_valid, is_others, may_hold, memory_with, after_write}
use Rattle.core_code.specs.Tree as code
use Rattle.core_code.specs.Tree.{Tree}
use Rattle.core_code.specs.declared.code.Byte.{Byte}
use Rattle.core_code.specs.declared.code.Byte.TheVariants.{Frame, Result}
use Rattle.core_puts.specs.Bytes.{beyond, behind, operation_type}
use Rattle.lower_expr.specs.Layout.{width, value_width}
use Rattle.lower_expr.specs.Lowering.{behind_pointer}
use Rattle.lower_expr.specs.Rows.{step_number}
use Rattle.lower_expr.specs.Spots.{spot_of, pointer_bytes}
use Rattle.lower_stmt.specs.Ground.{Ground}
use Rattle.pic_world.specs.World.{World, arrived, is_due, world_as}
use Rattle.pic_world.specs.declared.Root.{Root}
use Rattle.src_rules.specs.State.{state}
use Rattle.src_rules.specs.Standing.{IsReached, IsThere}
use Rattle.src_values.specs.Control.{Focus, Eval, Find, Holds as Value, Found, Run, Past, Fetch, Skim, Write, PutBit, CopyRead, CopyWrite, Spell, Blank, Calls, Leaves, Compares, Over, Got, One, At, AtWith, Stores, Args, Passed, Pending, In, To, Doing, Before, Returns, Resumes, active}
use Rattle.src_values.specs.Data as datum
use Rattle.src_values.specs.Data.{Datum}
use Rattle.src_values.specs.Memory as source
use Rattle.src_values.specs.Memory.{with_byte as with_source}
use Rattle.src_values.specs.Objects.{object_bytes, same_object, variable_offset}
use Rattle.src_values.specs.Values.{byte_count, byte_of, number_of, lowest_bit}
use Rattle.src_values.specs.declared.objects.Byte as value
use Rattle.src_values.specs.declared.objects.Byte.TheVariants as values
use Rattle.src_values.specs.declared.objects.CopyOf.{CopyOf}
use Rattle.src_values.specs.declared.objects.Object as object
use Rattle.src_values.specs.declared.objects.Object.TheVariants as objects
use Rattle.src_values.specs.declared.objects.Spot as spot
use Rattle.lower_trace.proofs.CodeLeft.{Scene, held, number, ground_in, core_in, todo, wanted, base, above, stored, stored_at, copies_from, writing_at, stack_after}
use Rattle.lower_trace.proofs.Constants.{due_below, again_below}
use Rattle.lower_trace.proofs.Fetching.{copies_step}
use Rattle.lower_trace.proofs.Giving.{Around, placed_of, mirrors}
use Rattle.lower_trace.proofs.Kept.{SceneLaws, SameTemps, Reached, Piled, SameCopies, own_copy, base_above, beyond_high, copied_base, copied_same, carried_same, datum_same, at_same}
use Rattle.lower_trace.proofs.Mirrors.{HasDatum, standing, Mirrors, Agree, Agrees, Holds, HasValue, HasIf, HasReadIn, HasReadAt, HasArguments, Waits, core_byte}
use Rattle.lower_trace.proofs.Operations.{Comes, beyond_is, own_frame, write_then}
use Rattle.lower_trace.proofs.Placed.{Placed}
use Rattle.lower_trace.proofs.Written.{off, nat_apart, and_false}

beyond_twice : (x n b : ℕ) → b ≤ x → b ≤ 65535 → b ≤ beyond (beyond x n) n
unfolding beyond
beyond_twice x n b le small = grind (arith, common_steps)

-- ---- what waits lies high
arguments_high : (z : Scene) (g : Ground) (b before : ℕ) (es : Expressions) (vs : List Datum) (m m' : Memory) → b ≤ 65535 → ((y : ℕ) → b ≤ y → m' (Frame g.copy y) ≡ m (Frame g.copy y)) → HasArguments z g.layout g.copy b before es vs m → HasArguments z g.layout g.copy b before es vs m'
arguments_high z g b before es [] m m' small s h = tt
arguments_high z g b before tree.NoExpression (v ∷ vs) m m' small s h = h
arguments_high z g b before (tree.AndExpression e es) (v ∷ vs) m m' small s h =
    let q = beyond_high b before small in
    (datum_same z g.copy (beyond b before) v m m' (λ y le lt. s y (omega arith)) h.0, arguments_high z g b (beyond before (value_width g.layout e)) es vs m m' small s h.1)

waits_high : (z : Scene) (g : Ground) (b : ℕ) (w : Bool) (e : Expression) (got : Got) (m m' : Memory) → b ≤ 65535 → ((y : ℕ) → b ≤ y → m' (Frame g.copy y) ≡ m (Frame g.copy y)) → Waits z g b w e got m → Waits z g b w e got m'
waits_high z g b w (tree.Binary op left right ty line) (One u) m m' small s h = (datum_same z g.copy b u m m' (λ y le lt. s y le) h.0, h.1)
waits_high z g b w (tree.Offset op left right size ty line) (One u) m m' small s h = datum_same z g.copy b u m m' (λ y le lt. s y le) h
waits_high z g b w (tree.Difference left right size line) (One u) m m' small s h = datum_same z g.copy b u m m' (λ y le lt. s y le) h
waits_high z g b w (tree.Read place ty line) (At at) m m' small s h = at_same z g.copy b (spot_of g.layout g.copy place) at m m' (λ y le lt. s y le) h
waits_high z g b w (tree.Assign place value ty line) (At at) m m' small s h = at_same z g.copy b (spot_of g.layout g.copy place) at m m' (λ y le lt. s y le) h
waits_high z g b w (tree.Assign place value ty line) (Stores at v) m m' small s h = at_same z g.copy b (spot_of g.layout g.copy place) at m m' (λ y le lt. s y le) h
waits_high z g b w (tree.StructAssign place from size line) (At at) m m' small s h = at_same z g.copy b (spot_of g.layout g.copy place) at m m' (λ y le lt. s y le) h
waits_high z g b w (tree.Update op place value operation size ty line) (At at) m m' small s h = (at_same z g.copy b (spot_of g.layout g.copy place) at m m' (λ y le lt. s y le) h.0, h.1)
waits_high z g b w (tree.Update op place value operation size ty line) (AtWith at u) m m' small s h =
    let q = beyond_high b (pointer_bytes (spot_of g.layout g.copy place)) small in
    (at_same z g.copy b (spot_of g.layout g.copy place) at m m' (λ y le lt. s y le) h.0, λ e. datum_same z g.copy (behind_pointer g.layout g.copy b place) u m m' (λ y le lt. s y (omega arith)) (h.1 e), h.2)
waits_high z g b w (tree.Update op place value operation size ty line) (Stores at v) m m' small s h = at_same z g.copy b (spot_of g.layout g.copy place) at m m' (λ y le lt. s y le) h
waits_high z g b w (tree.Step op place operation size ty line) (At at) m m' small s h =
    let q = beyond_high b (pointer_bytes (spot_of g.layout g.copy place)) small in (
      at_same z g.copy b (spot_of g.layout g.copy place) at m m' (λ y le lt. s y le) h.0,
      datum_same z g.copy (behind_pointer g.layout g.copy b place) (datum.Number (cut_to (operation_type operation) (pos (step_number operation size)))) m m' (λ y le lt. s y (omega arith)) h.1,
    )
waits_high z g b w (tree.Step op place operation size ty line) (Stores at v) m m' small s h =
    let q = beyond_high b (pointer_bytes (spot_of g.layout g.copy place)) small in
    let r = beyond_twice (behind_pointer g.layout g.copy b place) (width g.layout operation) b q small in (
      at_same z g.copy b (spot_of g.layout g.copy place) at m m' (λ y le lt. s y le) h.0,
      λ keeps. datum_same z g.copy (beyond (stored g b (tree.Step op place operation size ty line)) (width g.layout operation)) v m m' (λ y le lt. s y (omega arith)) (h.1 keeps),
    )
waits_high z g b w (tree.Call function arguments ty line) (Args before more) m m' small s h = arguments_high z g b 0 arguments before m m' small s h
waits_high z g b w (tree.Call function arguments ty line) (Passed values) m m' small s h = arguments_high z g b 0 arguments values m m' small s h
waits_high z g b w _ _ m m' small s h = tt

same_object_clear : (z : Scene) (laws : SceneLaws z) (c : CopyOf) (object : object.Object) (offset y : ℕ) (m : Memory) (h : Held) → IsReached z.program c → (ground_in z c).base ≤ y → IsThere z.program object → offset < object_bytes z.program object → with_byte m (core_byte z object offset) h (Frame (number z c) y) ≡ m (Frame (number z c) y)
same_object_clear z laws c (objects.Fixed i) offset y m h r le there lt = refl
same_object_clear z laws c (objects.Variable d i) offset y m h r le there lt =
    let b = variable_offset z.program d.function i + offset in
    off (nat_eq (number z c) (number z d) && nat_eq y b) h (m (Frame (number z c) y))
    (⊎_elim (λ l. let e : nat_eq (number z c) (number z d) ≡ false = nat_apart (number z c) (number z d) (inr l) in rw e refl)
    (λ ge.
    ⊎_elim (λ l. let e : nat_eq (number z c) (number z d) ≡ false = nat_apart (number z c) (number z d) (inl l) in rw e refl)
    (λ ge2.
    let same : d ≡ c = laws.apart d c there.0 r (omega arith) in
    let low = laws.below d i offset there.0 there.1 lt in
    let q = ap (λ x. (ground_in z x).base) same in
    and_false (nat_eq (number z c) (number z d)) (nat_eq y b) (nat_apart y b (inr (omega arith))))
    (cases_lt (number z c) (number z d)))
    (cases_lt (number z d) (number z c)))

pub agree_self : (z : Scene) (b : value.Byte) (h : Held) → h ≡ held z b → Agree z b h
agree_self z values.Unset h e = tt
agree_self z (values.Number n) h e = e
agree_self z (values.Part object offset high) h e = e

stored_agree : (z : Scene) (here same : Bool) (byte old : value.Byte) (h old_held : Held) → here ≡ same → h ≡ held z byte → Agree z old old_held → Agree z (if same then byte else old) (if here then h else old_held)
stored_agree z true true byte old h old_held e is a = agree_self z byte h is
stored_agree z false false byte old h old_held e is a = a
stored_agree z true false byte old h old_held e is a = absurd (cc)
stored_agree z false true byte old h old_held e is a = absurd (cc)

-- A write to a byte of an object keeps what waits, in all copies.
module _ (z : Scene) (laws : SceneLaws z) (object : object.Object) (offset : ℕ) (there : IsThere z.program object) (inside : offset < object_bytes z.program object) (m : Memory) (h : Held) where
  abbrev written : Memory
  written = with_byte m (core_byte z object offset) h

  pub temps_kept : (c : CopyOf) → IsReached z.program c → SameTemps z c m written
  temps_kept c r y le = same_object_clear z laws c object offset y m h r le there inside

  -- objects agree again, with the byte in the source
  pub store_agrees : (live : List CopyOf) (l : source.Memory) (byte : value.Byte) → h ≡ held z byte → Agrees z live l m → Agrees z live (with_source l object offset byte) written
  store_agrees live l byte is a other at t alive lt = stored_agree z (same_byte (core_byte z other at) (core_byte z object offset)) (same_object other object && nat_eq at offset) byte (l other at) h (m (core_byte z other at)) (laws.spots other at object offset t lt there inside) is (a other at t alive lt)

-- ---- the focus, and all stacks
if_high : (z : Scene) (n b : ℕ) (want : Bool) (v : Datum) (m m' : Memory) → ((y : ℕ) → b ≤ y → m' (Frame n y) ≡ m (Frame n y)) → HasIf want z n b v m → HasIf want z n b v m'
if_high z n b true v m m' s h = datum_same z n b v m m' (λ y le lt. s y le) h
if_high z n b false v m m' s h = tt

beyond_two : (x n k b : ℕ) → b ≤ x → b ≤ 65535 → b ≤ beyond (beyond x n) k
unfolding beyond
beyond_two x n k b le small = grind (arith, common_steps)

stored_high : (g : Ground) (b : ℕ) (e : Expression) → b ≤ 65535 → b ≤ stored g b e
stored_high g b (tree.Assign place value ty line) small = beyond_high b (pointer_bytes (spot_of g.layout g.copy place)) small
stored_high g b (tree.Update op place value operation size ty line) small = beyond_two b (pointer_bytes (spot_of g.layout g.copy place)) (value_width g.layout value) b (omega arith) small
stored_high g b (tree.Step op place operation size ty line) small = beyond_two b (pointer_bytes (spot_of g.layout g.copy place)) (width g.layout operation) b (omega arith) small
stored_high g b _ small = omega arith

read_in_high : (z : Scene) (g : Ground) (b : ℕ) (e : Expression) (got : Got) (at : spot.Spot) (read : List value.Byte) (m m' : Memory) → ((y : ℕ) → above g b e got ≤ y → m' (Frame g.copy y) ≡ m (Frame g.copy y)) → HasReadIn z g b e got at read m → HasReadIn z g b e got at read m'
read_in_high z g b (tree.Read place ty line) got at read m m' s h = λ i lt. s (above g b (tree.Read place ty line) got + i) (omega arith) ∙ h i lt
read_in_high z g b (tree.Update op place value operation size ty line) got at read m m' s h = λ i lt. s (above g b (tree.Update op place value operation size ty line) got + i) (omega arith) ∙ h i lt
read_in_high z g b (tree.Step op place operation size ty line) got at read m m' s h = λ i lt. s (above g b (tree.Step op place operation size ty line) got + i) (omega arith) ∙ h i lt
read_in_high z g b _ got at read m m' s h = tt

read_high : (z : Scene) (g : Ground) (k : List Pending) (at : spot.Spot) (read : List value.Byte) (m m' : Memory) → ((y : ℕ) → base g k ≤ y → m' (Frame g.copy y) ≡ m (Frame g.copy y)) → HasReadAt z g k at read m → HasReadAt z g k at read m'
read_high z g [] at read m m' s h = tt
read_high z g (In e got ∷ k) at read m m' s h = read_in_high z g (base g k) e got at read m m' s h
read_high z g (To place ∷ k) at read m m' s h = tt
read_high z g (Doing t stage ∷ k) at read m m' s h = tt
read_high z g (Before ss ∷ k) at read m m' s h = tt
read_high z g (Returns d ∷ k) at read m m' s h = tt
read_high z g (Resumes d x ∷ k) at read m m' s h = tt

stored_at_high : (g : Ground) (k : List Pending) → Piled g k → base g k ≤ 96 → g.base ≤ stored_at g k
stored_at_high g [] p small = omega arith
stored_at_high g (In e got ∷ k) p small = let a = base_above g k p.2 in let b = p.1 in let c = stored_high g (base g k) e (omega arith) in omega arith
stored_at_high g (To place ∷ k) p small = omega arith
stored_at_high g (Doing t stage ∷ k) p small = omega arith
stored_at_high g (Before ss ∷ k) p small = omega arith
stored_at_high g (Returns d ∷ k) p small = omega arith
stored_at_high g (Resumes d x ∷ k) p small = omega arith

-- the temporary bytes alone are the same
copied_high : (g : Ground) (k : List Pending) → Piled g k → base g k ≤ 96 → (g.base ≤ copied_base g k) × (copied_base g k ≤ 96)
copied_high g [] p small = (omega arith, small)
copied_high g (In e got ∷ k) p small = let a = base_above g k p.2 in let b = p.1 in (a, omega arith)
copied_high g (To place ∷ k) p small = let a = base_above g k p in (omega arith, omega arith)
copied_high g (Doing t stage ∷ k) p small = (omega arith, small)
copied_high g (Before ss ∷ k) p small = (omega arith, small)
copied_high g (Returns d ∷ k) p small = (omega arith, small)
copied_high g (Resumes d x ∷ k) p small = (omega arith, small)

copies_temps : (g : Ground) (k : List Pending) (m m' : Memory) → Piled g k → base g k ≤ 96 → ((y : ℕ) → g.base ≤ y → m' (Frame g.copy y) ≡ m (Frame g.copy y)) → SameCopies g (copied_base g k) g.base m m'
copies_temps g k m m' p small s =
    let b = copied_base g k in
    let h = copied_high g k p small in
    let high = h.0 in
    let few = h.1 in
    record {
      front = high;
      second = λ i. let q = beyond_high b i (omega arith) in omega arith;
      third = λ i j. let q = beyond_two b i j b (omega arith) (omega arith) in omega arith;
      frame = s;
    }

pub value_temps : (z : Scene) (g : Ground) (x : Focus) (k : List Pending) (m m' : Memory) → Piled g k → base g k ≤ 96 → ((y : ℕ) → g.base ≤ y → m' (Frame g.copy y) ≡ m (Frame g.copy y)) → ((i : ℕ) → m' (Result g.layout.root i) ≡ m (Result g.layout.root i)) → HasValue z g x k m → HasValue z g x k m'
value_temps z g (Eval e) k m m' p small s r h = tt
value_temps z g (Find place) k m m' p small s r h = tt
value_temps z g (Value v) k m m' p small s r h = let a = base_above g k p in if_high z g.copy (base g k) (wanted k) v m m' (λ y le. s y (omega arith)) h
value_temps z g (Found at) k m m' p small s r h = let a = base_above g k p in λ place is. at_same z g.copy (base g k) (spot_of g.layout g.copy place) at m m' (λ y le lt. s y (omega arith)) (h place is)
value_temps z g (Run t) k m m' p small s r h = tt
value_temps z g Past k m m' p small s r h = tt
value_temps z g (Fetch at read) k m m' p small s r h = let a = base_above g k p in read_high z g k at read m m' (λ y le. s y (omega arith)) h
value_temps z g (Skim at left byte) k m m' p small s r h = let a = base_above g k p in (h.0, h.1, h.2, read_high z g k at h.0 m m' (λ y le. s y (omega arith)) h.3)
value_temps z g (Write at v done) k m m' p small s r h = let a = stored_at_high g k p small in datum_same z g.copy (stored_at g k) (standing at done v) m m' (λ y le lt. s y (omega arith)) h
value_temps z g (PutBit register bit v old) k m m' p small s r h = let a = stored_at_high g k p small in datum_same z g.copy (stored_at g k) (number_of int.UChar (lowest_bit v)) m m' (λ y le lt. s y (omega arith)) h
value_temps z g (CopyRead to from left) k m m' p small s r h = copied_same z g k to from left g.base m m' (copies_temps g k m m' p small s) r h
value_temps z g (CopyWrite to from byte left) k m m' p small s r h = carried_same z g k to from byte left g.base m m' (copies_temps g k m m' p small s) r h
value_temps z g (Spell at text left) k m m' p small s r h = tt
value_temps z g (Blank at left) k m m' p small s r h = tt
value_temps z g Calls k m m' p small s r h = tt
value_temps z g (Leaves v) k m m' p small s r h = λ i lt. r i ∙ h i lt
value_temps z g (Compares v labels) k m m' p small s r h = (h.0, datum_same z g.copy g.base v m m' (λ y le lt. s y le) h.1)
value_temps z g Over k m m' p small s r h = tt

pub own_temps : (z : Scene) (c : CopyOf) (m m' : Memory) → SameTemps z c m m' → (y : ℕ) → (ground_in z c).base ≤ y → m' (Frame (ground_in z c).copy y) ≡ m (Frame (ground_in z c).copy y)
own_temps z c m m' s y le = subst (λ i. m' (Frame i y) ≡ m (Frame i y)) (sym (own_copy z c)) (s y le)

pub holds_temps : (z : Scene) (c : CopyOf) (k : List Pending) (m m' : Memory) → ((d : CopyOf) → IsReached z.program d → SameTemps z d m m') → ((q : Root) (i : ℕ) → m' (Result q i) ≡ m (Result q i)) → IsReached z.program c → Piled (ground_in z c) k → Reached z (ground_in z c) k → Holds z (ground_in z c) k m → Holds z (ground_in z c) k m'
holds_temps z c [] m m' s r there p reach h = tt
holds_temps z c (In e got ∷ k) m m' s r there p reach h =
    let a = base_above (ground_in z c) k p.2 in
    let small = reach.0 in
    (waits_high z (ground_in z c) (base (ground_in z c) k) (wanted k) e got m m' (omega arith) (λ y le. own_temps z c m m' (s c there) y (omega arith)) h.0, holds_temps z c k m m' s r there p.2 reach.1 h.1)
holds_temps z c (To place ∷ k) m m' s r there p reach h = holds_temps z c k m m' s r there p reach h
holds_temps z c (Doing t stage ∷ k) m m' s r there p reach h = holds_temps z c k m m' s r there p.1 reach h
holds_temps z c (Before ss ∷ k) m m' s r there p reach h = holds_temps z c k m m' s r there p.1 reach h
holds_temps z c (Returns d ∷ k) m m' s r there p reach h = holds_temps z d k m m' s r reach.0 reach.1 reach.2 h
holds_temps z c (Resumes d x ∷ k) m m' s r there p reach h =
    (value_temps z (ground_in z d) x k m m' reach.2 reach.1 (own_temps z d m m' (s d reach.0)) (λ i. r (ground_in z d).layout.root i) h.0, holds_temps z d k m m' s r reach.0 reach.2 reach.3 h.1)

-- ---- the step
pub memory_object : (z : Scene) (object : object.Object) (offset : ℕ) (h : Held) (m : Memory) → memory_with (core_byte z object offset) h m ≡ with_byte m (core_byte z object offset) h
unfolding memory_with
memory_object z (objects.Fixed n) offset h m = refl
memory_object z (objects.Variable c n) offset h m = refl

pub results_kept : (z : Scene) (object : object.Object) (offset : ℕ) (h : Held) (m : Memory) (q : Root) (i : ℕ) → with_byte m (core_byte z object offset) h (Result q i) ≡ m (Result q i)
results_kept z (objects.Fixed n) offset h m q i = refl
results_kept z (objects.Variable c n) offset h m q i = refl

module _ (z : Scene) (laws : SceneLaws z) (cp : CopyOf) (k : List Pending) (l : source.Memory) (around : Around z cp k) (reach : Reached z (ground_in z cp) k) (low : base (ground_in z cp) k ≤ 96) where
  -- The next byte of a value goes to a byte of an object: to a variable of the own frame, or to a static object, which is an event.
  pub store_goes : (object : object.Object) (offset : ℕ) (at next : spot.Spot) (v : Datum) (done count from : ℕ) (X : Byte) (r : List Task) (w w' : World value.Byte) (c : Machine) → ((y : Datum) (i : ℕ) → standing at i y ≡ y) → ((y : Datum) (i : ℕ) → standing next i y ≡ y) → IsThere z.program object → offset < object_bytes z.program object → done < count → done < byte_count v
      → ((a : spot.Spot) (i : ℕ) → writing_at z (ground_in z cp) k a i ≡ todo (copies_from X (Frame (ground_in z cp).copy from) i (count - i)) r) → stored_at (ground_in z cp) k ≡ from
      → behind X done ≡ core_byte z object offset → from + count ≤ (core_in z).program.frame_bytes (number z cp)
      → is_others (number z cp) (core_byte z object offset) ≡ false → is_valid (core_in z).program (number z cp) (core_byte z object offset) ≡ true
      → may_hold (core_in z).program (core_byte z object offset) (held z (byte_of v done)) (world_as (held z) (arrived z.outside w)) ≡ true
      → arrived z.outside (after_write (core_byte z object offset) (held z (byte_of v done)) (world_as (held z) (arrived z.outside w))) ≡ world_as (held z) (arrived z.outside w')
      → is_due (arrived z.outside w) ≡ false
      → Mirrors z (state cp (Write at v done) k l w) c → Comes (core_in z) (Mirrors z (state cp (Write next v (done + 1)) k (with_source l object offset (byte_of v done)) w')) 6 1 c
  unfolding active is_valid
  store_goes object offset at next v done count from X r w w' c plain_at plain_next there inside lt part code_is from_is target room own valid may world due h =
      let n = number z cp in
      let g = ground_in z cp in
      let W = world_as (held z) (arrived z.outside w) in
      let x = core_byte z object offset in
      let byte = byte_of v done in
      let T = Mirrors z (state cp (Write next v (done + 1)) k (with_source l object offset byte) w') in
      let small = laws.small n in
      let source_is : behind (Frame g.copy from) done ≡ Frame n (from + done) = ap (λ i. Frame i (beyond from done)) (own_copy z cp) ∙ ap (Frame n) (beyond_is from done (omega arith)) in
      let R = todo (copies_from X (Frame g.copy from) (done + 1) (count - (done + 1))) r in
      let now : writing_at z g k at done ≡ Todo [] (code.Copy x (Frame n (from + done))) ∷ R =
      code_is at done ∙ ap (λ ts. todo ts r) (copies_step X (Frame g.copy from) done count lt) ∙ ap (λ y. Todo [] (code.Copy y (behind (Frame g.copy from) done)) ∷ R) target ∙ ap (λ y. Todo [] (code.Copy x y) ∷ R) source_is in
      let has : HasDatum z g.copy (stored_at g k) v c.memory = subst (λ y. HasDatum z g.copy (stored_at g k) y c.memory) (plain_at v done) h.value in
      let holds_byte : c.memory (Frame n (from + done)) ≡ held z byte = ap (λ i. c.memory (Frame i (from + done))) (sym (own_copy z cp)) ∙ ap (λ i. c.memory (Frame g.copy (i + done))) (sym from_is) ∙ has done part in
      let m' = with_byte c.memory x (held z byte) in
      let kept : (d : CopyOf) → IsReached z.program d → SameTemps z d c.memory m' = temps_kept z laws object offset there inside c.memory (held z byte) in
      write_then (core_in z) T n None (stack_after z g k) W (due_below z (arrived z.outside w) due) (again_below z w) x (Frame n (from + done)) R c.memory c (laws.kept object offset there inside) refl (own_frame (core_in z).program n (from + done) 1 (omega arith)) own valid
      (ap (λ y. may_hold (core_in z).program x y W) holds_byte ∙ may)
      (subst (λ y. Placed (core_in z) n None y (stack_after z g k) c.memory W c) now (placed_of z (state cp (Write at v done) k l w) c h))
      (λ d pd.
      mirrors z cp (Write next v (done + 1)) k (with_source l object offset byte) w' m' d
      (subst (λ y. Placed (core_in z) n None y (stack_after z g k) m' (world_as (held z) (arrived z.outside w')) d) (sym (code_is next (done + 1)))
      (subst (λ y. Placed (core_in z) n None R (stack_after z g k) m' y d) (ap (λ y. arrived z.outside (after_write x y W)) holds_byte ∙ world)
      (subst (λ y. Placed (core_in z) n None R (stack_after z g k) y (arrived z.outside (after_write x (c.memory (Frame n (from + done))) W)) d) (ap (λ y. memory_with x y c.memory) holds_byte ∙ memory_object z object offset (held z byte) c.memory) pd)))
      (store_agrees z laws object offset there inside c.memory (held z byte) (active cp (Write next v (done + 1)) k) l byte refl h.agrees)
      (holds_temps z cp k c.memory m' kept (results_kept z object offset (held z byte) c.memory) around.reached around.piled reach h.holds)
      (value_temps z g (Write next v (done + 1)) k c.memory m' around.piled low (own_temps z cp c.memory m' (kept cp around.reached)) (results_kept z object offset (held z byte) c.memory g.layout.root) (subst (λ y. HasDatum z g.copy (stored_at g k) y c.memory) (sym (plain_next v (done + 1))) has)))
