-- What lives in the source lives in byte code: the same copies wait there, but for a main that has ended.
use Rattle.c_typed.specs.Trees as tree
use Rattle.c_typed.specs.Trees.{Expression, Place, Statement, Statements}
use Rattle.c_typed.specs.declared.statement.LoopForm.{LoopForm}
use Rattle.c_typed.specs.declared.statement.LoopForm.TheVariants.{Do as DoLoop, For, While}
use Rattle.c_typed.specs.declared.statement.TCase.{TCase}
use Rattle.core_code.specs.Machine as core
use Rattle.core_code.specs.Machine.{Do as Todo, InCall, InHandler, InLoop, Join, LoadFrom, Over as Ended, Put, PutBack, PutBit, Reading, StoreTo, Task, Waiting, is_over, loading, storing, waiting}
use Rattle.core_code.specs.Bytes as core_bytes
use Rattle.core_code.specs.Bytes.{is_private}
use Rattle.core_code.specs.Tree.{Tree}
use Rattle.core_code.specs.declared.code.Byte.{Byte}
use Rattle.core_puts.specs.Bytes.{behind}
use Rattle.lower_expr.specs.Rows.{bit_row}
use Rattle.lower_expr.specs.Spots.{spot_of}
use Rattle.lower_expr.specs.declared.places.Spot as place
use Rattle.lower_expr.specs.declared.places.Spot.TheVariants.{Bit, Computed, Fixed}
use Rattle.lower_stmt.specs.Ground.{Ground, first, local_byte}
use Rattle.lower_stmt.specs.Labels.{labels_of}
use Rattle.lower_trace.proofs.CodeLeft.{Jumps, Looped, Scene, Switched, blanking_at, carrying, carrying_at, code_after, code_at, code_before, code_doing, code_left, comparing_at, copies_from, copying_at, ground_in, if_labelled, inner_loops, is_seen, joining, joins, jumps, loading_from, loops_in, number, plain, plain_behind, putting, putting_if, reading, reading_at, reading_in, spelling_at, stack_after, stack_doing, stacked, storing_to, switch_on, todo, turn_behind, turn_rest, writing, writing_at, writing_in}
use Rattle.lower_trace.proofs.Entering.{copy_is}
use Rattle.lower_trace.proofs.PointerTests.{LivesAll}
use Rattle.lower_trace.proofs.Written.{nat_same}
use Rattle.pic_world.specs.declared.Root.{Root}
use Rattle.src_values.specs.Control.{AtItem, Before, Begins, Blank, Blanks, Chooses, Chosen, Compares, CopyRead, CopyWrite, Doing, Eval, Fetch, Find, Focus, Got, In, InArm, Items, Leaves, One, Over, Pending, Picks, PutBit as BitPut, Resumes, Returns, Run, Skim, Spell, Stage, Steps, Tests, To, Turns, Write, callers, running}
use Rattle.src_values.specs.Objects.{is_alive, is_among, same_copy}
use Rattle.src_values.specs.declared.objects.Byte as value
use Rattle.src_values.specs.declared.objects.CopyOf.{CopyOf}
use Rattle.src_values.specs.declared.objects.Object.TheVariants as objects
use Rattle.src_values.specs.declared.objects.Pointer.TheVariants.{Into}
use Rattle.src_values.specs.declared.objects.Spot as spot
use Rattle.src_values.specs.declared.objects.Spot.TheVariants as spots
use Rattle.std.proofs.Common.{Bool, List, None, Option, Some, [], ap, false, if◌then◌else◌, inl, inr, length, nat_eq, refl, suc, sym, true, zero, ℕ, ⊎_elim, ◌-◌, ◌∙◌, ◌∷◌, ◌≡◌, ◌||◌, ◌⊎◌}

-- ---- code that isn't the end of main
todo_on : (ts : List Tree) (c : List Task) → is_over c ≡ false → is_over (todo ts c) ≡ false
todo_on [] c h = h
todo_on (t ∷ ts) c h = refl

joining_on : (e : Expression) (got : Got) (c : List Task) → is_over c ≡ false → is_over (joining e got c) ≡ false
joining_on (tree.Logical op left right line) (One u) c h = refl
joining_on (tree.Conditional condition held failed ty line) Chosen c h = refl
joining_on _ _ c h = h

joins_on : (n : ℕ) (c : List Task) → is_over c ≡ false → is_over (joins n c) ≡ false
joins_on zero c h = h
joins_on (suc n) c h = refl

turn_on : (shape : LoopForm) → is_over (turn_rest shape) ≡ false
turn_on While = refl
turn_on DoLoop = refl
turn_on For = refl

doing_on : (g : Ground) (j : Jumps) (t : Statement) (stage : Stage) (c : List Task) → is_over c ≡ false → is_over (code_doing g j t stage c) ≡ false
doing_on g j (tree.InitScalar local e line) Tests c h = todo_on _ c h
doing_on g j (tree.If chain otherwise line) (Picks (tree.OneArm condition chosen at) more) c h = refl
doing_on g j (tree.If chain otherwise line) (InArm more) c h = joins_on _ c h
doing_on g j (tree.Loop shape begin condition step body line) Begins c h = refl
doing_on g j (tree.Loop shape begin condition step body line) Tests c h = todo_on _ [] refl
doing_on g j (tree.Loop shape begin condition step body line) Turns c h = turn_on shape
doing_on g j (tree.Loop shape begin condition step body line) Steps c h = refl
doing_on g j (tree.Switch value cases default ss line) Tests c h = todo_on _ c h
doing_on g j (tree.Switch value cases default ss line) Turns c h = refl
doing_on g j (tree.InitList local all line) (AtItem item rest) c h = todo_on _ c h
doing_on g j (tree.InitList local all line) (Items item rest) c h = todo_on _ c h
doing_on g j (tree.Return (Some e) line) Tests c h = todo_on _ c h
doing_on g j _ _ c h = h

before_on : (g : Ground) (o : Option Switched) (ss : Statements) (j : Jumps) (c : List Task) → is_over c ≡ false → is_over (code_before g o ss j c) ≡ false
before_on g None ss j c h = todo_on _ c h
before_on g (Some x) ss j c h = todo_on _ c h

after_on : (g : Ground) (k : List Pending) → is_over (code_after g k) ≡ false
after_on g [] = refl
after_on g (In e got ∷ k) = todo_on _ _ (joining_on e got _ (after_on g k))
after_on g (To sought ∷ k) = todo_on _ _ (after_on g k)
after_on g (Doing t stage ∷ k) = doing_on g (jumps k) t stage _ (after_on g k)
after_on g (Before ss ∷ k) = before_on g (switch_on k) ss (jumps k) _ (after_on g k)
after_on g (Returns d ∷ k) = refl
after_on g (Resumes d x ∷ k) = refl

putting_on : (z : Scene) (to : Byte) (read : List value.Byte) (c : List Task) → is_over c ≡ false → is_over (putting z to read c) ≡ false
putting_on z to [] c h = h
putting_on z to (byte ∷ []) c h = refl
putting_on z to (byte ∷ next ∷ more) c h = putting_on z (core_bytes.behind to 1) (next ∷ more) c h

putting_if_on : (seen : Bool) (z : Scene) (to : Byte) (read : List value.Byte) (c : List Task) → is_over c ≡ false → is_over (putting_if seen z to read c) ≡ false
putting_if_on true z to read c h = putting_on z to read c h
putting_if_on false z to read c h = h

loading_on : (to : Byte) (o : core_bytes.Object) (offset left : ℕ) (c : List Task) → is_over c ≡ false → is_over (loading to o offset left c) ≡ false
loading_on to o offset zero c h = h
loading_on to o offset (suc left) c h = refl

storing_on : (o : core_bytes.Object) (offset : ℕ) (from : Byte) (left : ℕ) (c : List Task) → is_over c ≡ false → is_over (storing o offset from left c) ≡ false
storing_on o offset from zero c h = h
storing_on o offset from (suc left) c h = refl

loading_from_on : (z : Scene) (at : spot.Spot) (to : Byte) (left : ℕ) (read : List value.Byte) (c : List Task) → is_over c ≡ false → is_over (loading_from z at to left read c) ≡ false
loading_from_on z (spots.Memory (Into object offset)) to left read c h = putting_if_on _ z to read _ (loading_on _ _ _ left c h)
loading_from_on z _ to left read c h = h

storing_to_on : (z : Scene) (at : spot.Spot) (from : Byte) (left : ℕ) (c : List Task) → is_over c ≡ false → is_over (storing_to z at from left c) ≡ false
storing_to_on z (spots.Memory (Into object offset)) from left c h = storing_on _ _ from left c h
storing_to_on z _ from left c h = h

reading_on : (z : Scene) (p : place.Spot) (at : spot.Spot) (pointer to : Byte) (count : ℕ) (read : List value.Byte) (c : List Task) → is_over c ≡ false → is_over (reading z p at pointer to count read c) ≡ false
reading_on z (Fixed from) at pointer to count read c h = let ts = copies_from to from (length read) (count - length read) in putting_if_on (if is_private from then false else true) z to read (todo ts c) (todo_on ts c h)
reading_on z (Bit register bit) at pointer to count [] c h = refl
reading_on z (Bit register bit) at pointer to count (byte ∷ more) c h = refl
reading_on z Computed at pointer to count [] c h = refl
reading_on z Computed at pointer to count (byte ∷ more) c h = loading_from_on z at to _ (byte ∷ more) c h

reading_in_on : (z : Scene) (g : Ground) (b : ℕ) (e : Expression) (got : Got) (at : spot.Spot) (read : List value.Byte) (c : List Task) → is_over c ≡ false → is_over (reading_in z g b e got at read c) ≡ false
reading_in_on z g b (tree.Read sought ty line) got at read c h = reading_on z (spot_of g.layout g.copy sought) at _ _ _ read c h
reading_in_on z g b (tree.Update op sought value operation size ty line) got at read c h = reading_on z (spot_of g.layout g.copy sought) at _ _ _ read c h
reading_in_on z g b (tree.Step op sought operation size ty line) got at read c h = reading_on z (spot_of g.layout g.copy sought) at _ _ _ read c h
reading_in_on z g b _ got at read c h = h

reading_at_on : (z : Scene) (g : Ground) (k : List Pending) (at : spot.Spot) (read : List value.Byte) → is_over (reading_at z g k at read) ≡ false
reading_at_on z g (In e got ∷ k) at read = reading_in_on z g _ e got at read _ (after_on g (In e got ∷ k))
reading_at_on z g k at read = after_on g k

writing_on : (z : Scene) (root : Root) (p : place.Spot) (at : spot.Spot) (pointer from : Byte) (count done : ℕ) (c : List Task) → is_over c ≡ false → is_over (writing z root p at pointer from count done c) ≡ false
writing_on z root (Fixed to) at pointer from count done c h = todo_on _ c h
writing_on z root (Bit register bit) at pointer from count zero c h = todo_on (bit_row root register bit from) c h
writing_on z root (Bit register bit) at pointer from count (suc done) c h = refl
writing_on z root Computed at pointer from count zero c h = refl
writing_on z root Computed at pointer from count (suc done) c h = storing_to_on z at _ _ c h

writing_in_on : (z : Scene) (g : Ground) (b : ℕ) (e : Expression) (got : Got) (at : spot.Spot) (done : ℕ) (c : List Task) → is_over c ≡ false → is_over (writing_in z g b e got at done c) ≡ false
writing_in_on z g b (tree.Assign sought value ty line) got at done c h = writing_on z _ (spot_of g.layout g.copy sought) at _ _ _ done c h
writing_in_on z g b (tree.Update op sought value operation size ty line) got at done c h = writing_on z _ (spot_of g.layout g.copy sought) at _ _ _ done c h
writing_in_on z g b (tree.Step op sought operation size ty line) got at done c h = writing_on z _ (spot_of g.layout g.copy sought) at _ _ _ done c h
writing_in_on z g b _ got at done c h = h

writing_at_on : (z : Scene) (g : Ground) (k : List Pending) (at : spot.Spot) (done : ℕ) → is_over (writing_at z g k at done) ≡ false
writing_at_on z g (In e got ∷ k) at done = writing_in_on z g _ e got at done _ (after_on g (In e got ∷ k))
writing_at_on z g (Doing (tree.InitScalar local e line) stage ∷ k) at done = todo_on _ _ (after_on g k)
writing_at_on z g (Doing (tree.InitList local all line) (Items (tree.Scalar offset e) rest) ∷ k) at done = todo_on _ _ (after_on g (Doing (tree.InitList local all line) (Items (tree.Scalar offset e) rest) ∷ k))
writing_at_on z g k at done = after_on g k

spelling_at_on : (g : Ground) (k : List Pending) (left : ℕ) (c : List Task) → is_over c ≡ false → is_over (spelling_at g k left c) ≡ false
spelling_at_on g (Doing (tree.InitList local all line) (Items (tree.Text offset bytes size) rest) ∷ k) left c h = todo_on _ c h
spelling_at_on g k left c h = h

blanking_at_on : (g : Ground) (k : List Pending) (at left : ℕ) (c : List Task) → is_over c ≡ false → is_over (blanking_at g k at left c) ≡ false
blanking_at_on g (Doing (tree.InitList local all line) Blanks ∷ k) at left c h = todo_on _ c h
blanking_at_on g k at left c h = h

labelled_on : (labels : List ℕ) (a b : List Task) → is_over a ≡ false → is_over b ≡ false → is_over (if_labelled labels a b) ≡ false
labelled_on [] a b h i = i
labelled_on (label ∷ labels) a b h i = h

comparing_at_on : (g : Ground) (k : List Pending) (labels : List TCase) (c : List Task) → is_over c ≡ false → is_over (comparing_at g k labels c) ≡ false
comparing_at_on g (Doing (tree.Switch value cases default ss line) Chooses ∷ k) labels c h = labelled_on (labels_of cases default) _ c (todo_on _ [] refl) h
comparing_at_on g k labels c h = h

carrying_on : (z : Scene) (root : Root) (p q : place.Spot) (at : Byte) (size : ℕ) (from : spot.Spot) (byte : value.Byte) (i : ℕ) (c : List Task) → is_over (carrying z root p q at size from byte i c) ≡ false
carrying_on z root (Fixed x) (Fixed y) at size from byte i c = refl
carrying_on z root (Fixed x) (Bit register bit) at size from byte i c = refl
carrying_on z root (Fixed x) Computed at size from byte i c = putting_if_on (is_seen Computed from) z _ _ _ refl
carrying_on z root (Bit register bit) q at size from byte i c = putting_if_on (is_seen q from) z _ _ _ refl
carrying_on z root Computed q at size from byte i c = putting_if_on (is_seen q from) z _ _ _ refl

copying_at_on : (g : Ground) (k : List Pending) (left : ℕ) → is_over (copying_at g k left) ≡ false
copying_at_on g (In (tree.StructAssign sought other size line) got ∷ k) left = todo_on _ _ (after_on g (In (tree.StructAssign sought other size line) got ∷ k))
copying_at_on g (Doing (tree.InitList local all line) (Items (tree.Struct offset other size) rest) ∷ k) left = todo_on _ _ (after_on g (Doing (tree.InitList local all line) (Items (tree.Struct offset other size) rest) ∷ k))
copying_at_on g k left = after_on g k

carrying_at_on : (z : Scene) (g : Ground) (k : List Pending) (from : spot.Spot) (byte : value.Byte) (left : ℕ) → is_over (carrying_at z g k from byte left) ≡ false
carrying_at_on z g (In (tree.StructAssign sought other size line) got ∷ k) from byte left = carrying_on z _ (spot_of g.layout g.copy sought) (spot_of g.layout g.copy other) _ size from byte _ _
carrying_at_on z g (Doing (tree.InitList local all line) (Items (tree.Struct offset other size) rest) ∷ k) from byte left = carrying_on z g.layout.root (Fixed (behind (local_byte g local) offset)) (spot_of g.layout g.copy other) (first g) size from byte (size - suc left) (code_after g (Doing (tree.InitList local all line) (Items (tree.Struct offset other size) rest) ∷ k))
carrying_at_on z g k from byte left = after_on g k

left_on : (z : Scene) (k : List Pending) → is_over (code_left z k) ≡ false
left_on z (Returns d ∷ k) = after_on (ground_in z d) k
left_on z [] = refl
left_on z (In e got ∷ k) = refl
left_on z (To sought ∷ k) = refl
left_on z (Doing t stage ∷ k) = refl
left_on z (Before ss ∷ k) = refl
left_on z (Resumes d x ∷ k) = refl

-- ---- copies that are active
abbrev numbers : Scene → List CopyOf → List ℕ
numbers z [] = []
numbers z (d ∷ ds) = number z d ∷ numbers z ds

goes_on : (p : ℕ) (c : List Task) (more : List ℕ) → is_over c ≡ false → core.running p c more ≡ p ∷ more
goes_on p c more h = ap (λ b. if b then more else p ∷ more) h

runs : (z : Scene) (d : CopyOf) (x : Focus) (k : List Pending) (ds : List CopyOf) → core.running (number z d) (code_at z (ground_in z d) x k) (numbers z ds) ≡ numbers z (running d x ds)
runs z d Over k ds = refl
runs z d (Eval e) k ds = goes_on (number z d) _ (numbers z ds) (todo_on _ _ (after_on (ground_in z d) k))
runs z d (Find sought) k ds = goes_on (number z d) _ (numbers z ds) (todo_on _ _ (after_on (ground_in z d) k))
runs z d (Run t) k ds = goes_on (number z d) _ (numbers z ds) (todo_on _ _ (after_on (ground_in z d) k))
runs z d (Fetch at read) k ds = goes_on (number z d) _ (numbers z ds) (reading_at_on z (ground_in z d) k at read)
runs z d (Skim at left byte) k ds = goes_on (number z d) _ (numbers z ds) (reading_at_on z (ground_in z d) k at _)
runs z d (Write at v done) k ds = goes_on (number z d) _ (numbers z ds) (writing_at_on z (ground_in z d) k at done)
runs z d (BitPut register bit v old) k ds = refl
runs z d (CopyRead to from left) k ds = goes_on (number z d) _ (numbers z ds) (copying_at_on (ground_in z d) k left)
runs z d (CopyWrite to from byte left) k ds = goes_on (number z d) _ (numbers z ds) (carrying_at_on z (ground_in z d) k from byte left)
runs z d (Spell at text left) k ds = goes_on (number z d) _ (numbers z ds) (spelling_at_on (ground_in z d) k left _ (after_on (ground_in z d) k))
runs z d (Blank at left) k ds = goes_on (number z d) _ (numbers z ds) (blanking_at_on (ground_in z d) k at left _ (after_on (ground_in z d) k))
runs z d (Compares v labels) k ds = goes_on (number z d) _ (numbers z ds) (comparing_at_on (ground_in z d) k labels _ (after_on (ground_in z d) k))
runs z d (Leaves v) k ds = goes_on (number z d) _ (numbers z ds) (left_on z k)
runs z d _ k ds = goes_on (number z d) _ (numbers z ds) (after_on (ground_in z d) k)

plain_over : (c : List Task) → is_over (plain c) ≡ is_over c
plain_over [] = refl
plain_over (Todo before t ∷ c) = refl
plain_over (Put to held ∷ c) = refl
plain_over (PutBit to v ∷ c) = refl
plain_over (PutBack register v ∷ c) = refl
plain_over (Join ∷ c) = refl
plain_over (LoadFrom to o offset n ∷ c) = refl
plain_over (StoreTo o offset from n ∷ c) = refl
plain_over (Reading bytes ∷ c) = refl
plain_over (Ended ∷ c) = refl

waiting_plain : (s : List Waiting) → waiting (plain_behind s) ≡ waiting s
waiting_plain [] = refl
waiting_plain (InLoop body c ∷ s) = waiting_plain s
waiting_plain (InCall p c ∷ s) = ap (λ x. p ∷ x) (waiting_plain s)
waiting_plain (InHandler p a c ∷ s) = ap (λ b. if b then waiting (plain_behind s) else p ∷ waiting (plain_behind s)) (plain_over c) ∙ ap (core.running p c) (waiting_plain s)

waiting_turn : (g : Ground) (shape : LoopForm) (condition step : _) (body : _) (s : List Waiting) → waiting (turn_behind g shape condition step body s) ≡ waiting s
waiting_turn g While condition step body s = refl
waiting_turn g DoLoop condition step body s = refl
waiting_turn g For condition step body s = refl

waiting_stacked : (xs : List Looped) (s : List Waiting) → waiting (stacked xs s) ≡ waiting s
waiting_stacked [] s = refl
waiting_stacked (x ∷ xs) s = waiting_stacked xs s

waiting_labelled : (labels : List ℕ) (a b : List Waiting) → waiting a ≡ waiting b → waiting (if_labelled labels a b) ≡ waiting b
waiting_labelled [] a b h = refl
waiting_labelled (label ∷ labels) a b h = h

waiting_doing : (g : Ground) (j : Jumps) (t : Statement) (stage : Stage) (c : List Task) (s : List Waiting) → waiting (stack_doing g j t stage c s) ≡ waiting s
waiting_doing g j (tree.Loop shape begin condition step body line) Tests c s = refl
waiting_doing g j (tree.Loop shape begin condition step body line) Steps c s = refl
waiting_doing g j (tree.Loop shape begin condition step body line) Turns c s = waiting_turn g shape condition step _ (InLoop _ c ∷ s)
waiting_doing g j (tree.Switch value cases default ss line) Chooses c s = waiting_labelled (labels_of cases default) _ s (waiting_stacked (loops_in g j (record { value = value; cases = cases; default = default; body = ss })) _)
waiting_doing g j (tree.Switch value cases default ss line) Turns c s = refl
waiting_doing g j _ _ c s = refl

waiting_after : (z : Scene) (g : Ground) (k : List Pending) → waiting (stack_after z g k) ≡ numbers z (callers k)
waiting_after z g [] = refl
waiting_after z g (In e got ∷ k) = waiting_after z g k
waiting_after z g (To sought ∷ k) = waiting_after z g k
waiting_after z g (Doing t stage ∷ k) = waiting_doing g (jumps k) t stage (code_after g k) (stack_after z g k) ∙ waiting_after z g k
waiting_after z g (Before ss ∷ k) = waiting_stacked (inner_loops g (jumps k) (switch_on k) ss) (stack_after z g k) ∙ waiting_after z g k
waiting_after z g (Returns d ∷ k) = ap (λ x. number z d ∷ x) (waiting_after z (ground_in z d) k)
waiting_after z g (Resumes d x ∷ k) = ap (core.running (number z d) (code_at z (ground_in z d) x k)) (waiting_after z (ground_in z d) k) ∙ runs z d x k (callers k)

or_true : (a b : Bool) → (a || b) ≡ true → (a ≡ true) ⊎ (b ≡ true)
or_true true b e = inl refl
or_true false b e = inr e

or_second : (a b : Bool) → b ≡ true → (a || b) ≡ true
or_second true b e = refl
or_second false b e = e

among : (z : Scene) (ds : List CopyOf) (d : CopyOf) → is_among ds d ≡ true → core.is_among (numbers z ds) (number z d) ≡ true
among z [] d h = absurd (cc)
among z (f ∷ ds) d h =
    ⊎_elim
    (λ here. ap (λ t. t || core.is_among (numbers z ds) (number z d)) (ap (λ x. nat_eq (number z x) (number z d)) (copy_is f d here) ∙ nat_same (number z d)))
    (λ rest. or_second (nat_eq (number z f) (number z d)) _ (among z ds d rest))
    (or_true (same_copy f d) (is_among ds d) h)

-- what lives in the source lives in byte code, where this waits
pub lives_all : (z : Scene) (cp : CopyOf) (k : List Pending) → LivesAll z cp k
unfolding is_alive
lives_all z cp k (objects.Fixed n) s there alive is = refl
lives_all z cp k (objects.Variable d i) s there alive is =
    ap (λ x. core.is_among (number z cp ∷ x) (number z d)) (sym (waiting_plain s) ∙ ap waiting is ∙ waiting_after z (ground_in z cp) k) ∙ among z (cp ∷ callers k) d alive
