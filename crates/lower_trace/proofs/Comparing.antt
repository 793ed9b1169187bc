-- A switch begins, its value is compared with its labels, and it leads to a segment or behind all of them.
use Rattle.std.proofs.Common.{◌≡◌, ℕ, suc, ◌+◌, ◌*◌, ◌<◌, ◌≤◌, ◌⊎◌, inl, inr, Bool, true, false, if◌then◌else◌, List, [], ◌∷◌, ◌++◌, drop, Option, Some, None, refl, sym, ap, ◌∙◌, subst, arith}
use Rattle.std.specs.Ordering.{int_eq}
use Rattle.pic_world.specs.World.{World, arrived, is_due, world_as}
use Rattle.c_ints.specs.Operators.{value_of}
use Rattle.c_ints.specs.Quantity.{Quantity}
use Rattle.c_ints.specs.Range.{bytes_of, pattern, IsInRange}
use Rattle.c_ints.specs.declared.operators.BinOp.TheVariants as ops
use Rattle.c_ints.specs.declared.types.IntTy.{IntTy}
use Rattle.c_typed.specs.Sameness.{is_pointer}
use Rattle.c_typed.specs.Sound.{count_of}
use Rattle.c_typed.specs.Trees as tree
use Rattle.c_typed.specs.Trees.{Expression, Statement, Statements}
use Rattle.c_typed.specs.Types.{type_of, type_bytes}
use Rattle.c_typed.specs.declared.statement.TCase.{TCase}
use Rattle.c_typed.specs.declared.types.Ty.TheVariants as types
use Rattle.core_code.specs.Bytes as bytes
use Rattle.core_code.specs.Bytes.{Held, Memory, with_bytes}
use Rattle.core_code.specs.Machine.{Setting, Machine, Task, Waiting, Do as Todo, Join, InLoop}
use Rattle.core_code.specs.Tree as code
use Rattle.core_code.specs.Tree.{Tree, many}
use Rattle.core_code.specs.Values as core
use Rattle.core_code.specs.declared.code.Byte.{Byte}
use Rattle.core_code.specs.declared.code.Byte.TheVariants.{Frame}
use Rattle.core_puts.specs.Bytes.{beyond, byte_at, operation_type}
use Rattle.core_puts.specs.Puts.{sets, test_size}
use Rattle.lower_stmt.specs.Ground.{Ground, first, temporary, value_code}
use Rattle.lower_stmt.specs.Ground as ground
use Rattle.lower_stmt.specs.Labels.{has, labels_of, segments_before}
use Rattle.lower_stmt.specs.Statements.{stmt_code, segments_code, segments_in}
use Rattle.lower_stmt.specs.Switches.{comparison, leading, case_code, cases_code, otherwise_segment, nest, around, for_labels}
use Rattle.src_rules.specs.Giving.{take_for, compares, jump, jump_if_any, statements_behind}
use Rattle.src_rules.specs.Standing.{HasType}
use Rattle.src_rules.specs.State.{state, Went}
use Rattle.src_rules.specs.Statements.{begin}
use Rattle.src_values.specs.Control.{Eval, Holds as Value, Run, Past, Compares, Tests, Turns, Chooses, Pending, Doing, Before, active}
use Rattle.src_values.specs.Data as datum
use Rattle.src_values.specs.Data.{Datum}
use Rattle.src_values.specs.Memory as source
use Rattle.src_values.specs.Values.{byte_count}
use Rattle.src_values.specs.declared.objects.Byte as value
use Rattle.src_values.specs.declared.objects.CopyOf.{CopyOf}
use Rattle.lower_trace.proofs.Beginnings.{Follow, rests, todo_three}
use Rattle.lower_trace.proofs.CaseLabels.{IsLabel, HasDefault}
use Rattle.lower_trace.proofs.CodeLeft.{Scene, held, number, ground_in, core_in, source_in, Looped, Switched, todo, stacked, segment_body, nested, outermost, labels_in, segment_count, segments, compared, loops_in, whole_loop, index_in, comparing, if_labelled, jumps, code_after, stack_after}
use Rattle.lower_trace.proofs.Constants.{due_below, again_below, same_below, byte_is}
use Rattle.lower_trace.proofs.Ends.{Again, FollowOn}
use Rattle.lower_trace.proofs.Equality.{some_bytes, equal_then, equal_truth}
use Rattle.lower_trace.proofs.Exits.{Exits, exit_at, exit_past, exits_then}
use Rattle.lower_trace.proofs.Falling.{IsPart, Led, segment_left, loops_left, index_is}
use Rattle.lower_trace.proofs.Flow.{arrive}
use Rattle.lower_trace.proofs.Giving.{Around, placed_of, agrees_written, holds_written}
use Rattle.lower_trace.proofs.Jumping.{picked, many_then, loop_then, if_then, join_then}
use Rattle.lower_trace.proofs.Kept.{SceneLaws, own_copy, bytes_small}
use Rattle.lower_trace.proofs.Mirrors.{Mirrors, Agrees, Holds, HasDatum}
use Rattle.lower_trace.proofs.Operations.{Comes, comes_here, comes_within, beyond_is, own_frame, sets_then}
use Rattle.lower_trace.proofs.Placed.{Placed, todo_join}
use Rattle.lower_trace.proofs.Segments.{opened_code, begun_step, one_if, nested_at, segment_there, loops_length}
use Rattle.lower_trace.proofs.Written.{bytes_clear, bytes_there}

-- ---- loops round the comparisons
nest_is : (body : Tree) (segments : List (List Tree)) → nest (code.Loop body ∷ []) segments ≡ code.Loop (outermost body segments) ∷ []
nest_is body [] = refl
nest_is body (segment ∷ segments) = nest_is (segment_body body segment) segments

-- all loops are entered
nested_then : (g : Setting) (T : Machine → Type 0) (n : ℕ) (w : World Held) (due : is_due w ≡ false) (again : arrived g.outside w ≡ w) (segments : List (List Tree)) (body : Tree) (r : List Task) (s : List Waiting) (m : Memory) (c : Machine) (q l : ℕ)
    → Placed g n None (Todo [] (code.Loop (outermost body segments)) ∷ r) s m w c
    → ((d : Machine) → Placed g n None (Todo [] body ∷ []) (stacked (nested body segments) (InLoop (outermost body segments) r ∷ s)) m w d → Comes g T q l d) → Comes g T q l c
nested_then g T n w due again [] body r s m c q l p next = loop_then g T n None w due again body r s m c q l p next
nested_then g T n w due again (segment ∷ segments) body r s m c q l p next =
    let S = stacked (nested (segment_body body segment) segments) (InLoop (outermost (segment_body body segment) segments) r ∷ s) in
    nested_then g T n w due again segments (segment_body body segment) r s m c q l p
    (λ d pd. many_then g T n None w due again ((code.Loop body ∷ []) ++ segment ++ code.Exit 0 ∷ []) [] S m d q l pd
    (λ e pe. loop_then g T n None w due again body (todo (segment ++ code.Exit 0 ∷ []) []) S m e q l pe next))

-- ---- switches without labels have no loops
labelled : {A : Type 0} (labels : List ℕ) (n : ℕ) (a b : A) → has labels n ≡ true → if_labelled labels a b ≡ a
labelled [] n a b e = absurd (cc)
labelled (label ∷ labels) n a b e = refl

module _ (z : Scene) (e : Expression) (cases : List TCase) (default : Option ℕ) (ss : Statements) (line : ℕ) (k : List Pending) (cp : CopyOf) (l : source.Memory) where
  abbrev t : Statement
  t = tree.Switch e cases default ss line

  abbrev x : Switched
  x = record { value = e; cases = cases; default = default; body = ss }

  abbrev g : Ground
  g = ground_in z cp

  abbrev n : ℕ
  n = number z cp

  abbrev inner : List Looped
  inner = loops_in g (jumps k) x

  abbrev below : List Waiting
  below = InLoop (whole_loop g (jumps k) x) (code_after g k) ∷ stack_after z g k

  -- ---- a switch begins
  pub begin_switch : (w : World value.Byte) (c : Machine) → Mirrors z (state cp (Run (tree.Switch e cases default ss line)) k l w) c → Follow z 0 0 c (begin (source_in z) (tree.Switch e cases default ss line) k cp l (arrived z.outside w))
  unfolding active stmt_code
  begin_switch w c h =
      rests z cp (Run t) (Eval e) k (Doing t Tests ∷ k) l l w c h refl
      (todo_join (value_code g e) (for_labels (labels_of cases default) (around (compared g x) (segments_code g (jumps k) (labels_of cases default) (segments_in ss (labels_of cases default)) 0 0 ss))) (code_after g k))
      refl h.agrees h.holds tt

  module _ (w : World value.Byte) (m : Memory) (due : is_due (arrived z.outside w) ≡ false) (agrees : Agrees z (active cp Past k) l m) (holds : Holds z (ground_in z cp) k m) where
    abbrev W : World Held
    W = world_as (held z) (arrived z.outside w)

    -- the value is to be compared with these labels
    into : (v : Datum) (labels : List TCase) (c : Machine) → 0 < byte_count v → HasDatum z g.copy g.base v m
        → Placed (core_in z) n None (if_labelled (labels_of cases default) (todo (comparing g x labels) []) (code_after g k)) (if_labelled (labels_of cases default) (stacked inner below) (stack_after z g k)) m W c
        → Comes (core_in z) (Mirrors z (state cp (Compares v labels) (Doing t Chooses ∷ k) l (arrived z.outside w))) 0 0 c
    unfolding active
    into v labels c some hv p = arrive z cp (Compares v labels) (Doing t Chooses ∷ k) l w m c p agrees holds (some, hv)

    first_case : (v : Datum) (all : List ℕ) (c : Machine) → labels_of cases default ≡ all → 0 < byte_count v → HasDatum z g.copy g.base v m
        → Placed (core_in z) n None (todo (for_labels (labels_of cases default) (around (compared g x) (segments_code g (jumps k) (labels_of cases default) (segments_in ss (labels_of cases default)) 0 0 ss))) (code_after g k)) (stack_after z g k) m W c
        → Comes (core_in z) (Mirrors z (state cp (Compares v cases) (Doing t Chooses ∷ k) l (arrived z.outside w))) 0 0 c
    first_case v [] c is some hv p =
        let A = around (compared g x) (segments_code g (jumps k) (labels_of cases default) (segments_in ss (labels_of cases default)) 0 0 ss) in
        into v cases c some hv
        (subst (λ y. Placed (core_in z) n None y (if_labelled (labels_of cases default) (stacked inner below) (stack_after z g k)) m W c) (ap (λ y. todo (for_labels y A) (code_after g k)) is ∙ sym (ap (λ y. if_labelled y (todo (comparing g x cases) []) (code_after g k)) is))
        (subst (λ y. Placed (core_in z) n None (todo (for_labels (labels_of cases default) A) (code_after g k)) y m W c) (sym (ap (λ y. if_labelled y (stacked inner below) (stack_after z g k)) is)) p))
    first_case v (label ∷ all) c is some hv p =
        let A = around (compared g x) (segments_code g (jumps k) (labels_of cases default) (segments_in ss (labels_of cases default)) 0 0 ss) in
        let T = Mirrors z (state cp (Compares v cases) (Doing t Chooses ∷ k) l (arrived z.outside w)) in
        let no = due_below z (arrived z.outside w) due in
        let ag = again_below z w in
        let now : todo (for_labels (labels_of cases default) A) (code_after g k) ≡ Todo [] (code.Loop (whole_loop g (jumps k) x)) ∷ code_after g k =
        ap (λ y. todo (for_labels y A) (code_after g k)) is ∙ ap (λ y. todo y (code_after g k)) (nest_is (many (compared g x)) (segments g (jumps k) x)) in
        nested_then (core_in z) T n W no ag (segments g (jumps k) x) (many (compared g x)) (code_after g k) (stack_after z g k) m c 0 0
        (subst (λ y. Placed (core_in z) n None y (stack_after z g k) m W c) now p)
        (λ d pd. many_then (core_in z) T n None W no ag (compared g x) [] (stacked inner below) m d 0 0 pd
        (λ f pf. into v cases f some hv
        (subst (λ y. Placed (core_in z) n None y (if_labelled (labels_of cases default) (stacked inner below) (stack_after z g k)) m W f) (sym (ap (λ y. if_labelled y (todo (comparing g x cases) []) (code_after g k)) is))
        (subst (λ y. Placed (core_in z) n None (todo (comparing g x cases) []) y m W f) (sym (ap (λ y. if_labelled y (stacked inner below) (stack_after z g k)) is)) pf))))

    -- ---- jumps
    -- the segment of a label is reached
    led_then : (target : ℕ) (r : List Task) (c : Machine) → target ≤ count_of ss → has (labels_in x) target ≡ true
        → Placed (core_in z) n None (Todo [] (code.Exit (segments_before target (labels_in x))) ∷ r) (stacked inner below) m W c
        → FollowOn z 4 0 c (jump t target ss k cp l (arrived z.outside w))
    unfolding active
    led_then target r c few here p =
        let j = jumps k in
        let labels = labels_in x in
        let b = segments_before target labels in
        let last = statements_behind target ss in
        let part : IsPart x last = record { index = target; few = few; is = refl } in
        let index : index_in x last ≡ target = index_is x last part in
        let mine = opened_code g j labels (segment_count x) target (segments_before (target + 1) labels) last in
        let y = nested_at (many (compared g x)) (segments g j x) b mine.running (segment_there g j x target last few refl here) in
        let more = begun_step labels target in
        let count = ap one_if here in
        let sum : suc b ≡ segments_before (target + 1) labels = omega arith in
        let T : Machine → Type 0 = λ d. Mirrors z (state cp Past (Before last ∷ Doing t Turns ∷ k) l (arrived z.outside w)) d ⊎ Led z cp last (Doing t Turns ∷ k) l (arrived z.outside w) d in
        let code_is : y.0.code ≡ todo (segment_left g j x last).running (Todo [] (code.Exit 0) ∷ []) =
        y.2 ∙ todo_join mine.running (code.Exit 0 ∷ []) [] ∙ ap (λ i. todo (opened_code g j labels (segment_count x) i (segments_before (i + 1) labels) last).running (Todo [] (code.Exit 0) ∷ [])) (sym index) in
        let loops_are : drop (suc b) inner ≡ loops_left g j x last = ap (λ i. drop i inner) sum ∙ ap (λ i. drop (segments_before (i + 1) labels) inner) (sym index) in
        exits_then (core_in z) T n None W (due_below z (arrived z.outside w) due) (again_below z w) b r y.0.code (stacked inner below) (stacked (drop (suc b) inner) below) m c 0 0 p
        (exit_at inner b y.0 below c.stack y.1 p.stack)
        (λ d pd. comes_here (core_in z) T d
        (inr (led_of d last
        (subst (λ q. Placed (core_in z) n None q (stacked (loops_left g j x last) below) m W d) code_is
        (subst (λ q. Placed (core_in z) n None y.0.code (stacked q below) m W d) loops_are pd)))))
      where
        led_of : (d : Machine) (last : Statements) → Placed (core_in z) n None (todo (segment_left g (jumps k) x last).running (Todo [] (code.Exit 0) ∷ [])) (stacked (loops_left g (jumps k) x last) below) m W d → Led z cp last (Doing t Turns ∷ k) l (arrived z.outside w) d
        led_of d last p = record {
          switch = x;
          on = refl;
          placed = record { copy = p.copy; passing = p.passing; code = p.code; stack = p.stack; memory = refl; world = p.world ∙ same_below z w };
          agrees = subst (λ q. Agrees z (active cp Past (Doing t Turns ∷ k)) l q) (sym p.memory) agrees;
          holds = subst (λ q. Holds z (ground_in z cp) (Doing t Turns ∷ k) q) (sym p.memory) holds;
        }

    beside : (S : Machine → Type 0) (T : Machine → Type 0) (q r : ℕ) (c : Machine) → Comes (core_in z) T q r c → Comes (core_in z) (λ d. T d ⊎ S d) q r c
    beside S T q r c h = record { count = h.count; place = h.place; walk = h.walk; is = inl h.is }

    -- behind all segments
    past_here : (c : Machine) → Placed (core_in z) n None (code_after g k) (stack_after z g k) m W c → Comes (core_in z) (λ d. Mirrors z (state cp Past k l (arrived z.outside w)) d ⊎ Again z cp Past k l (arrived z.outside w) d) 0 0 c
    past_here c p = beside (Again z cp Past k l (arrived z.outside w)) (Mirrors z (state cp Past k l (arrived z.outside w))) 0 0 c (arrive z cp Past k l w m c p agrees holds tt)

    default_then : (o : Option ℕ) (c : Machine) → default ≡ o → HasDefault x o → Placed (core_in z) n None (Todo [] (code.Exit (otherwise_segment (labels_in x) (segment_count x) default)) ∷ []) (stacked inner below) m W c
        → FollowOn z 4 0 c (jump_if_any t o ss k cp l (arrived z.outside w))
    default_then None c is has_one p =
        exits_then (core_in z) (λ d. Mirrors z (state cp Past k l (arrived z.outside w)) d ⊎ Again z cp Past k l (arrived z.outside w) d) n None W (due_below z (arrived z.outside w) due) (again_below z w) (segment_count x) [] (code_after g k) (stacked inner below) (stack_after z g k) m c 0 0
        (subst (λ y. Placed (core_in z) n None (Todo [] (code.Exit (otherwise_segment (labels_in x) (segment_count x) y)) ∷ []) (stacked inner below) m W c) is p)
        (subst (λ y. Exits y (code_after g k) (stack_after z g k) c.stack) (loops_length g (jumps k) x) (exit_past inner (whole_loop g (jumps k) x) (code_after g k) (stack_after z g k) c.stack p.stack))
        past_here
    default_then (Some target) c is has_one p =
        led_then target [] c has_one.0 has_one.1 (subst (λ y. Placed (core_in z) n None (Todo [] (code.Exit (otherwise_segment (labels_in x) (segment_count x) y)) ∷ []) (stacked inner below) m W c) is p)

    -- no label is left to compare with
    none_left : (o : Option ℕ) (all : List ℕ) (c : Machine) → default ≡ o → labels_of cases default ≡ all → HasDefault x o
        → Placed (core_in z) n None (if_labelled all (todo (comparing g x []) []) (code_after g k)) (if_labelled all (stacked inner below) (stack_after z g k)) m W c
        → FollowOn z 4 0 c (jump_if_any t o ss k cp l (arrived z.outside w))
    none_left None [] c is empty has_one p = comes_within (core_in z) (λ d. Mirrors z (state cp Past k l (arrived z.outside w)) d ⊎ Again z cp Past k l (arrived z.outside w) d) 0 0 4 0 c (past_here c p) (omega arith) (omega arith)
    none_left (Some target) [] c is empty has_one p = let q : has [] target ≡ true = subst (λ y. has y target ≡ true) empty has_one.1 in absurd (cc)
    none_left o (label ∷ all) c is empty has_one p = default_then o c is has_one p

  -- ---- a value is given to a switch
  pub switch_given : (v : Datum) (w : World value.Byte) (c : Machine) → is_due (arrived z.outside w) ≡ false
      → Mirrors z (state cp (Value v) (Doing (tree.Switch e cases default ss line) Tests ∷ k) l w) c
      → Follow z 0 0 c (take_for (source_in z) (tree.Switch e cases default ss line) Tests v k cp l (arrived z.outside w))
  unfolding active
  switch_given datum.Missing w c due h = tt
  switch_given (datum.Number q) w c due h =
      first_case w c.memory due h.agrees h.holds (datum.Number q) (labels_of cases default) c refl (some_bytes q.ty) h.value (placed_of z (state cp (Value (datum.Number q)) (Doing t Tests ∷ k) l w) c h)
  switch_given (datum.Pointer y) w c due h =
      first_case w c.memory due h.agrees h.holds (datum.Pointer y) (labels_of cases default) c refl (omega arith) h.value (placed_of z (state cp (Value (datum.Pointer y)) (Doing t Tests ∷ k) l w) c h)

  -- ---- no label has the value
  pub compares_none : (v : Datum) (w : World value.Byte) (c : Machine) → HasDefault (record { value = e; cases = cases; default = default; body = ss }) default → is_due (arrived z.outside w) ≡ false
      → Mirrors z (state cp (Compares v []) (Doing (tree.Switch e cases default ss line) Chooses ∷ k) l w) c
      → FollowOn z 4 0 c (compares v [] (Doing (tree.Switch e cases default ss line) Chooses ∷ k) cp l (arrived z.outside w))
  unfolding active
  compares_none v w c has_one due h =
      none_left w c.memory due h.agrees h.holds default (labels_of cases default) c refl refl has_one (placed_of z (state cp (Compares v []) (Doing t Chooses ∷ k) l w) c h)

two_bytes : test_size 2 ≡ 2
unfolding test_size
two_bytes = refl

-- ---- one comparison
module _ (z : Scene) (laws : SceneLaws z) (e : Expression) (cases : List TCase) (default : Option ℕ) (ss : Statements) (line : ℕ) (k : List Pending) (cp : CopyOf) (l : source.Memory) where
  abbrev switch : Statement
  switch = tree.Switch e cases default ss line

  abbrev parts : Switched
  parts = record { value = e; cases = cases; default = default; body = ss }

  abbrev G : Ground
  G = ground_in z cp

  abbrev N : ℕ
  N = number z cp

  abbrev loops : List Waiting
  loops = stacked (loops_in G (jumps k) parts) (InLoop (whole_loop G (jumps k) parts) (code_after G k) ∷ stack_after z G k)

  -- the code of one comparison, in front of the others
  abbrev one_test : TCase → List TCase → IntTy → ℕ → Byte → Byte → Byte → ℕ → List Task
  one_test label rest ty bytes left right to size =
      todo (sets right (pattern label.value.ty label.value.number) bytes)
      (Todo [] (code.Binary ops.Eq ty to left right) ∷ Todo [] (code.If to size (code.Exit (segments_before label.target (labels_in parts))) (many [])) ∷ todo (comparing G parts rest) [])

  test_is : (q : Quantity) (label : TCase) (rest : List TCase) → type_of e ≡ types.Int q.ty → G.base + 2 * bytes_of q.ty + 2 ≤ 96
      → todo (comparing G parts (label ∷ rest)) [] ≡ one_test label rest q.ty (bytes_of q.ty) (Frame N G.base) (Frame N (G.base + bytes_of q.ty)) (Frame N (G.base + 2 * bytes_of q.ty)) 2
  test_is q label rest type room =
      let b = G.base in
      let i = bytes_of q.ty in
      let size = ground.width G e in
      let ty = operation_type (type_of e) in
      let segment = segments_before label.target (labels_in parts) in
      let last = code.Exit (otherwise_segment (labels_in parts) (segment_count parts) default) ∷ [] in
      let others = cases_code G ty size (labels_in parts) rest in
      let R = todo (comparing G parts rest) [] in
      let wide : size ≡ i = ap (λ y. beyond 0 (type_bytes G.layout.sizes y)) type ∙ beyond_is 0 i (omega arith) ∙ (omega arith) in
      let next : temporary G i ≡ Frame N (b + i) = ap (λ f. Frame f (beyond b i)) (own_copy z cp) ∙ ap (Frame N) (beyond_is b i (omega arith)) in
      let answer : temporary G (2 * i) ≡ Frame N (b + 2 * i) = ap (λ f. Frame f (beyond b (2 * i))) (own_copy z cp) ∙ ap (Frame N) (beyond_is b (2 * i) (omega arith)) in
      todo_three (case_code G ty size label segment) others last []
      ∙ ap (todo (case_code G ty size label segment)) (todo_join others last [])
      ∙ ap (λ y. todo (case_code G ty size label segment) y) (sym (todo_join others last []))
      ∙ todo_three (sets (temporary G size) (pattern label.value.ty label.value.number) size) (comparison ty (temporary G (2 * size)) (first G) (temporary G size)) (leading (temporary G (2 * size)) segment) R
      ∙ ap (λ y. one_test label rest (operation_type y) size (first G) (temporary G size) (temporary G (2 * size)) (test_size 2)) type
      ∙ ap (λ y. one_test label rest q.ty y (first G) (temporary G y) (temporary G (2 * y)) (test_size 2)) wide
      ∙ ap (λ y. one_test label rest q.ty i (Frame y b) (temporary G i) (temporary G (2 * i)) (test_size 2)) (own_copy z cp)
      ∙ ap (λ y. one_test label rest q.ty i (Frame N b) y (temporary G (2 * i)) (test_size 2)) next
      ∙ ap (λ y. one_test label rest q.ty i (Frame N b) (Frame N (b + i)) y (test_size 2)) answer
      ∙ ap (λ y. one_test label rest q.ty i (Frame N b) (Frame N (b + i)) (Frame N (b + 2 * i)) y) two_bytes

  -- memory behind the comparison
  abbrev with_label : Quantity → TCase → Memory → Memory
  with_label q label m = with_bytes m (Frame N (G.base + bytes_of q.ty)) (bytes_of q.ty) (λ i. bytes.Number (byte_at (pattern label.value.ty label.value.number) i))

  abbrev with_answer : Quantity → TCase → Memory → Memory
  with_answer q label m = with_bytes (with_label q label m) (Frame N (G.base + 2 * bytes_of q.ty)) 2 (core.byte_of (core.Number (value_of ops.Eq q label.value)))

  module _ (q : Quantity) (label : TCase) (rest : List TCase) (w : World value.Byte) (m : Memory) (c : Machine) (due : is_due (arrived z.outside w) ≡ false) (type : type_of e ≡ types.Int q.ty) (range : IsInRange q.ty q.number) (is : IsLabel q.ty parts label) (around : Around z cp (Doing switch Chooses ∷ k)) (room : G.base + 2 * bytes_of q.ty + 2 ≤ (core_in z).program.frame_bytes N) (has_value : HasDatum z G.copy G.base (datum.Number q) m) (agrees : Agrees z (active cp Past k) l m) (holds : Holds z G k m)
      (p : Placed (core_in z) N None (if_labelled (labels_in parts) (todo (comparing G parts (label ∷ rest)) []) (code_after G k)) (if_labelled (labels_in parts) loops (stack_after z G k)) m (world_as (held z) (arrived z.outside w)) c) where
    abbrev V : World Held
    V = world_as (held z) (arrived z.outside w)

    agrees_behind : Agrees z (active cp Past k) l (with_answer q label m)
    agrees_behind =
        agrees_written z laws cp (active cp Past k) l (with_label q label m) (G.base + 2 * bytes_of q.ty) 2 (core.byte_of (core.Number (value_of ops.Eq q label.value))) around.reached (omega arith)
        (agrees_written z laws cp (active cp Past k) l m (G.base + bytes_of q.ty) (bytes_of q.ty) (λ i. bytes.Number (byte_at (pattern label.value.ty label.value.number) i)) around.reached (omega arith) agrees)

    holds_behind : Holds z G k (with_answer q label m)
    holds_behind =
        holds_written z cp (Doing switch Chooses ∷ k) (with_label q label m) (G.base + 2 * bytes_of q.ty) 2 (core.byte_of (core.Number (value_of ops.Eq q label.value))) around (omega arith)
        (holds_written z cp (Doing switch Chooses ∷ k) m (G.base + bytes_of q.ty) (bytes_of q.ty) (λ i. bytes.Number (byte_at (pattern label.value.ty label.value.number) i)) around (omega arith) holds)

    value_here : HasDatum z N G.base (datum.Number q) m
    value_here = subst (λ i. HasDatum z i G.base (datum.Number q) m) (own_copy z cp) has_value

    value_kept : HasDatum z N G.base (datum.Number q) (with_label q label m)
    value_kept i lt = bytes_clear m N (G.base + bytes_of q.ty) (bytes_of q.ty) (λ j. bytes.Number (byte_at (pattern label.value.ty label.value.number) j)) (Frame N (G.base + i)) (inr (inl (omega arith))) ∙ value_here i lt

    value_behind : HasDatum z G.copy G.base (datum.Number q) (with_answer q label m)
    value_behind =
        subst (λ i. HasDatum z i G.base (datum.Number q) (with_answer q label m)) (sym (own_copy z cp))
        (λ i lt. bytes_clear (with_label q label m) N (G.base + 2 * bytes_of q.ty) 2 (core.byte_of (core.Number (value_of ops.Eq q label.value))) (Frame N (G.base + i)) (inr (inl (omega arith))) ∙ value_kept i lt)

    label_there : HasDatum z N (G.base + bytes_of q.ty) (datum.Number label.value) (with_label q label m)
    label_there i lt =
        let few = bytes_small q.ty in
        let same = ap bytes_of is.same in
        bytes_there m N (G.base + bytes_of q.ty) (bytes_of q.ty) (λ j. bytes.Number (byte_at (pattern label.value.ty label.value.number) j)) i (omega arith)
        ∙ ap bytes.Number (byte_is (pattern label.value.ty label.value.number) i (omega arith))

    -- up to the choice
    tested : (T : Machine → Type 0) (x y : ℕ) (equal : Bool) → int_eq q.number label.value.number ≡ equal
        → ((d : Machine) → Placed (core_in z) N None (Todo [] (picked equal (code.Exit (segments_before label.target (labels_in parts))) (many [])) ∷ Join ∷ todo (comparing G parts rest) []) loops (with_answer q label m) V d → Comes (core_in z) T x y d)
        → Comes (core_in z) T (14 * bytes_of q.ty + 44 + x) (1 + y) c
    tested T x y equal is_equal next =
        let i = bytes_of q.ty in
        let b = G.base in
        let no = due_below z (arrived z.outside w) due in
        let ag = again_below z w in
        let small = laws.small N in
        let segment = segments_before label.target (labels_in parts) in
        let R = todo (comparing G parts rest) [] in
        let chooses = Todo [] (code.If (Frame N (b + 2 * i)) 2 (code.Exit segment) (many [])) ∷ R in
        let start : Placed (core_in z) N None (one_test label rest q.ty i (Frame N b) (Frame N (b + i)) (Frame N (b + 2 * i)) 2) loops m V c =
        subst (λ f. Placed (core_in z) N None f loops m V c) (labelled (labels_in parts) label.target (todo (comparing G parts (label ∷ rest)) []) (code_after G k) is.there ∙ test_is q label rest type (omega arith))
        (subst (λ f. Placed (core_in z) N None (if_labelled (labels_in parts) (todo (comparing G parts (label ∷ rest)) []) (code_after G k)) f m V c) (labelled (labels_in parts) label.target loops (stack_after z G k) is.there) p) in
        comes_within (core_in z) T (4 * i + (10 * i + 20 + (4 * 2 + 16 + x))) (1 + y) (14 * i + 44 + x) (1 + y) c
        (sets_then (core_in z) T N None loops V no ag i (b + i) (pattern label.value.ty label.value.number) (Todo [] (code.Binary ops.Eq q.ty (Frame N (b + 2 * i)) (Frame N b) (Frame N (b + i))) ∷ chooses) m c (10 * i + 20 + (4 * 2 + 16 + x)) (1 + y) (omega arith) (omega arith) start
        (λ d pd. equal_then z (core_in z) T N loops V no ag q label.value b chooses (with_label q label m) d (4 * 2 + 16 + x) (1 + y) range is.range is.same room value_kept label_there pd
        (λ f pf. if_then (core_in z) T N None V no ag (Frame N (b + 2 * i)) 2 equal (code.Exit segment) (many []) R loops (with_answer q label m) f x y
        (own_frame (core_in z).program N (b + 2 * i) 2 room)
        (equal_truth z N (b + 2 * i) q label.value (with_label q label m) ∙ ap Some is_equal)
        pf next)))
        (omega arith) (omega arith)

    label_case : (equal : Bool) → int_eq q.number label.value.number ≡ equal
        → FollowOn z (14 * bytes_of q.ty + 48) 1 c (if equal then jump switch label.target ss k cp l (arrived z.outside w) else Went (state cp (Compares (datum.Number q) rest) (Doing switch Chooses ∷ k) l (arrived z.outside w)) None)
    unfolding active
    label_case true is_equal =
        let last = statements_behind label.target ss in
        let T : Machine → Type 0 = λ d. Mirrors z (state cp Past (Before last ∷ Doing switch Turns ∷ k) l (arrived z.outside w)) d ⊎ Led z cp last (Doing switch Turns ∷ k) l (arrived z.outside w) d in
        comes_within (core_in z) T (14 * bytes_of q.ty + 44 + 4) (1 + 0) (14 * bytes_of q.ty + 48) 1 c
        (tested T 4 0 true is_equal
        (λ d pd. led_then z e cases default ss line k cp l w (with_answer q label m) due agrees_behind holds_behind label.target (Join ∷ todo (comparing G parts rest) []) d is.few is.there pd))
        (omega arith) (omega arith)
    label_case false is_equal =
        let X = state cp (Compares (datum.Number q) rest) (Doing switch Chooses ∷ k) l (arrived z.outside w) in
        let T : Machine → Type 0 = λ d. Mirrors z X d ⊎ ⊥ in
        let no = due_below z (arrived z.outside w) due in
        let ag = again_below z w in
        let R = todo (comparing G parts rest) [] in
        let m' = with_answer q label m in
        comes_within (core_in z) T (14 * bytes_of q.ty + 44 + 4) (1 + 0) (14 * bytes_of q.ty + 48) 1 c
        (tested T (4 + 0) 0 false is_equal
        (λ d pd. many_then (core_in z) T N None V no ag [] (Join ∷ R) loops m' d (4 + 0) 0 pd
        (λ f pf. join_then (core_in z) T N None V no ag R loops m' f 0 0 pf
        (λ i pi. beside z e cases default ss line k cp l w m' due agrees_behind holds_behind (λ y. ⊥) (Mirrors z X) 0 0 i
        (into z e cases default ss line k cp l w m' due agrees_behind holds_behind (datum.Number q) rest i (some_bytes q.ty) value_behind
        (subst (λ y. Placed (core_in z) N None y (if_labelled (labels_in parts) loops (stack_after z G k)) m' V i) (sym (labelled (labels_in parts) label.target R (code_after G k) is.there))
        (subst (λ y. Placed (core_in z) N None R y m' V i) (sym (labelled (labels_in parts) label.target loops (stack_after z G k) is.there)) pi)))))))
        (omega arith) (omega arith)

  -- The value is compared with the next label.
  pub compares_label : (v : Datum) (ty : IntTy) (label : TCase) (rest : List TCase) (w : World value.Byte) (c : Machine) → type_of e ≡ types.Int ty → HasType z.program (type_of e) v → IsLabel ty (record { value = e; cases = cases; default = default; body = ss }) label → Around z cp (Doing (tree.Switch e cases default ss line) Chooses ∷ k)
      → (ground_in z cp).base + 2 * bytes_of ty + 2 ≤ (core_in z).program.frame_bytes (number z cp) → is_due (arrived z.outside w) ≡ false
      → Mirrors z (state cp (Compares v (label ∷ rest)) (Doing (tree.Switch e cases default ss line) Chooses ∷ k) l w) c
      → FollowOn z (14 * bytes_of ty + 48) 1 c (compares v (label ∷ rest) (Doing (tree.Switch e cases default ss line) Chooses ∷ k) cp l (arrived z.outside w))
  unfolding active
  compares_label datum.Missing ty label rest w c type t is around room due h = let q = h.value.0 in absurd (omega arith)
  compares_label (datum.Pointer y) ty label rest w c type t is around room due h = let q : is_pointer (types.Int ty) ≡ true = ap is_pointer (sym type) ∙ t.0 in absurd (cc)
  compares_label (datum.Number q) ty label rest w c type t is around room due h =
      let same : q.ty ≡ ty = ap operation_type (sym t.0 ∙ type) in
      subst (λ y. FollowOn z (14 * bytes_of y + 48) 1 c (compares (datum.Number q) (label ∷ rest) (Doing switch Chooses ∷ k) cp l (arrived z.outside w))) same
      (label_case q label rest w c.memory c due t.0 t.1 (subst (λ y. IsLabel y parts label) (sym same) is) around (subst (λ y. G.base + 2 * bytes_of y + 2 ≤ (core_in z).program.frame_bytes N) (sym same) room) h.value.1 h.agrees h.holds (placed_of z (state cp (Compares (datum.Number q) (label ∷ rest)) (Doing switch Chooses ∷ k) l w) c h)
      (int_eq q.number label.value.number) refl)
