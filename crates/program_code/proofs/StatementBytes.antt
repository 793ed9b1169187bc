-- The code of a statement names bytes alone that are there, where its copy's frame has its room.
use Rattle.std.proofs.Common.{◌≡◌, ℕ, zero, suc, ◌+◌, ◌-◌, ◌*◌, ◌≤◌, Bool, true, false, ◌&&◌, nat_eq, nat_le, max, if◌then◌else◌, List, [], ◌∷◌, ◌++◌, map, Option, Some, None, is_some, slice_get, slice_index, refl, ap, ◌∙◌, eqb-true, leb-true, arith}
use Rattle.c_ints.specs.Range.{bytes_of, pattern}
use Rattle.c_typed.specs.Calls.{calls, any_calls, item_calls, items_calls, statement_calls, statements_calls, arm_calls, arms_calls, last_calls}
use Rattle.c_typed.specs.Fits.{source_of, goes_to, keeps_from, fits, place_fits, Used, Alone}
use Rattle.c_typed.specs.Room.{room, any_room, local_room, item_room, items_room, switch_room, statement_room, statements_room, arm_room, arms_room, last_room}
use Rattle.c_typed.specs.Sameness.{same_type, is_scalar, is_promoted, is_struct}
use Rattle.c_typed.specs.Sound.{any_fits, condition_fits, any_condition_fits, first_value_fits, item_fits, lies_within, has_parts, items_fit, list_fits, loop_fits, cases_fit, default_fits, count_of, return_fits, switch_rule, is_some_arm, statement_fits, statements_fit, arm_fits, arms_fit, last_fits}
use Rattle.c_typed.specs.Trees as tree
use Rattle.c_typed.specs.Trees.{Expression, Item, Statement, Statements, Arm, Arms, LastArm, VariableTree, FunctionTree, Program}
use Rattle.c_typed.specs.Types.{type_bytes, value_bytes, type_of, place_type, item_start}
use Rattle.c_typed.specs.Words.{item_bytes, variable_bytes}
use Rattle.c_typed.specs.declared.statement.LoopForm.{LoopForm}
use Rattle.c_typed.specs.declared.statement.LoopForm.TheVariants.{While, Do, For}
use Rattle.c_typed.specs.declared.statement.TCase.{TCase}
use Rattle.core_code.specs.Tree as core
use Rattle.core_code.specs.Tree.{Tree, many}
use Rattle.core_code.specs.declared.code.Byte.{Byte}
use Rattle.core_puts.specs.Bytes.{behind, operation_type}
use Rattle.lower_expr.specs.Layout.{copy_of}
use Rattle.lower_expr.specs.Lowering.{pointer_code, address_code}
use Rattle.core_puts.specs.Puts.{copies, sets, test_size}
use Rattle.lower_expr.specs.Rows.{struct_row}
use Rattle.lower_expr.specs.Spots.{spot_of, pointer_bytes}
use Rattle.lower_expr.specs.declared.places.Spot.TheVariants.{Fixed}
use Rattle.lower_stmt.specs.Declarators.{scalar_code, text_code, item_code, items_code, is_covered, rest_code, list_code}
use Rattle.lower_stmt.specs.Ground.{Ground, first, temporary, local_byte, local_bytes, result_byte, value_code}
use Rattle.lower_stmt.specs.Ground as ground
use Rattle.lower_stmt.specs.Jumps.{in_segment}
use Rattle.lower_stmt.specs.Labels.{labels_of, has, segments_before}
use Rattle.lower_stmt.specs.Statements.{any_code, condition_code, once, jumps_in, loop_code, return_code, segments_in, stmt_code, stmts_code, arms_code, arm_code, last_code, segments_code}
use Rattle.lower_stmt.specs.Switches.{comparison, leading, case_code, cases_code, otherwise_segment, comparisons, begun_with, Segments, no_segments, joined, cut, nest, around, for_labels}
use Rattle.named_registers.specs.Registers.{registers, any_registers, item_registers, items_registers, statement_registers, statements_registers, arm_registers, arms_registers, last_registers}
use Rattle.program_code.specs.Naming.{Memory, Lies}
use Rattle.program_code.proofs.Chain.{never}
use Rattle.program_code.proofs.Typing.{and_first, and_last, promoted_number}
use Rattle.program_code.proofs.Nodes.{width_within}
use Rattle.program_code.proofs.Rooms.{same_type_bytes, room_holds}
use Rattle.program_code.proofs.Standing.{Stand, scalar_few, pointer_same, at_base, PartFits, part_first, part_last, spot_lies, pointer_lies}
use Rattle.program_code.proofs.Within.{choice_within}
use Rattle.program_code.proofs.Inside.{expr_lies, address_lies}
use Rattle.program_code.proofs.Lying.{size_within, AllLie, lie_on, trees_lie, of_result, less, past, sets_lie, copies_lie, struct_lie}
use Rattle.program_code.proofs.Statements.{Jumps, local_is}

module _ (size : ℕ) (memory : Memory) (p : Program) (f : FunctionTree) (g : Ground) (has_all : Stand g.copy size memory g.layout p f) (same_bytes : g.bytes ≡ map (variable_bytes g.layout.sizes) f.locals) where
  abbrev Lie : List Tree → Type 0
  Lie ts = AllLie memory ts

  at_first : (n : ℕ) → g.base + n ≤ size → Lies memory n (first g)
  at_first n b = at_base g.copy size memory g.layout p f has_all n g.base b

  value_lies : (e : Expression) → fits p f Used e ≡ true → PartFits p memory (copy_of g.layout) (calls e) (registers e) → g.base + room g.layout.sizes e ≤ size → Lie (value_code g e)
  value_lies e h o b = expr_lies g.copy size memory g.layout p f has_all true g.base Used e h o b

  -- ---- locals
  scalar_lies : (to : Byte) (e : Expression) → fits p f Used e ≡ true → PartFits p memory (copy_of g.layout) (calls e) (registers e) → g.base + local_room (room g.layout.sizes e) (value_bytes g.layout.sizes e) ≤ size → Lies memory (value_bytes g.layout.sizes e) to → Lie (scalar_code g to e)
  scalar_lies to e h o b there =
      let w = width_within g.layout (type_of e) in
      lie_on memory (value_code g e) (copies to (first g) (ground.width g e)) (value_lies e h o (omega (arith, b)))
      (copies_lie memory to (first g) (ground.width g e) (less memory (value_bytes g.layout.sizes e) (ground.width g e) to w there) (at_first (ground.width g e) (omega (arith, b, w))))

  local_there : (local : ℕ) (v : VariableTree) → slice_get f.locals local ≡ Some v → Lies memory (type_bytes g.layout.sizes v.ty.ty) (local_byte g local)
  local_there local v e =
      let at = has_all.locals local v e in
      let same = ap (λ (s : List ℕ). type_bytes s v.ty.ty) has_all.sizes in
      at_base g.copy size memory g.layout p f has_all (type_bytes g.layout.sizes v.ty.ty) (slice_index g.layout.locals local) (omega (arith, at, same))

  first_value_lies : (local : ℕ) (o : Option VariableTree) (e : Expression) → slice_get f.locals local ≡ o → first_value_fits p f o e ≡ true → PartFits p memory (copy_of g.layout) (calls e) (registers e) → g.base + local_room (room g.layout.sizes e) (value_bytes g.layout.sizes e) ≤ size
      → Lie (scalar_code g (local_byte g local) e)
  first_value_lies local None e there h o b = never h
  first_value_lies local (Some v) e there h o b =
      let goes = goes_to p (source_of e) (type_of e) v.ty.ty in
      let same = same_type_bytes g.layout.sizes (type_of e) v.ty.ty (and_first (same_type (type_of e) v.ty.ty) (keeps_from p (source_of e) v.ty.ty) (and_last (is_scalar v.ty.ty) (same_type (type_of e) v.ty.ty && keeps_from p (source_of e) v.ty.ty) (and_first goes (fits p f Used e) h))) in
      scalar_lies (local_byte g local) e (and_last goes (fits p f Used e) h) o b (less memory (type_bytes g.layout.sizes v.ty.ty) (value_bytes g.layout.sizes e) (local_byte g local) (omega (arith, same)) (local_there local v there))

  text_lies : (to : Byte) (text : List ℕ) (n : ℕ) → Lies memory n to → Lie (text_code to text n)
  unfolding text_code
  text_lies to text zero h = tt
  text_lies to text (suc k) h =
      lie_on memory (text_code to text k) (core.Set (behind to k) (slice_index text k) ∷ []) (text_lies to text k (less memory (suc k) k to (omega arith) h)) (past memory (suc k) 1 k to (omega arith) h, tt)

  rest_lies : (to : Byte) (items : List Item) (n : ℕ) → Lies memory n to → Lie (rest_code g to items n)
  unfolding rest_code
  rest_lies to items zero h = tt
  rest_lies to items (suc k) h = lie_on memory (rest_code g to items k) (if is_covered g items k then [] else core.Set (behind to k) 0 ∷ []) (rest_lies to items k (less memory (suc k) k to (omega arith) h)) (by_covered (is_covered g items k))
    where
      by_covered : (b : Bool) → Lie (if b then [] else core.Set (behind to k) 0 ∷ [])
      by_covered true = tt
      by_covered false = (past memory (suc k) 1 k to (omega arith) h, tt)

  item_lies : (to : Byte) (item : Item) → item_fits p f item ≡ true → PartFits p memory (copy_of g.layout) (item_calls item) (item_registers item) → g.base + item_room g.layout.sizes item ≤ size → Lies memory (item_bytes g.layout.sizes item) (behind to (item_start item)) → Lie (item_code g to item)
  item_lies to (tree.Scalar offset e) h o b there = scalar_lies (behind to offset) e (and_last (goes_to p (source_of e) (type_of e) (type_of e)) (fits p f Used e) h) o b there
  item_lies to (tree.Struct offset from n) h o b there =
      let l = g.layout in
      let rest = and_last (is_struct (place_type from).ty) (nat_eq n (type_bytes p.sizes (place_type from).ty) && place_fits p f from) h in
      let fit = and_last (nat_eq n (type_bytes p.sizes (place_type from).ty)) (place_fits p f from) rest in
      let is = eqb-true n (type_bytes p.sizes (place_type from).ty) (and_first (nat_eq n (type_bytes p.sizes (place_type from).ty)) (place_fits p f from) rest) in
      let same = ap (λ (s : List ℕ). type_bytes s (place_type from).ty) has_all.sizes in
      let pointer = pointer_same l g.copy from in
      let address = pointer_code (spot_of l g.copy from) (address_code l g.copy g.base from) in
      lie_on memory address (struct_row l.root (Fixed (behind to offset)) (spot_of l g.copy from) (first g) n)
      (pointer_lies g.copy size memory l p f has_all (spot_of l g.copy from) (address_code l g.copy g.base from) (λ e. address_lies g.copy size memory l p f has_all g.base from fit o e (omega (arith, b))))
      (struct_lie memory l.root (Fixed (behind to offset)) (spot_of l g.copy from) (first g) n there (spot_lies g.copy size memory l p f has_all from n fit o.1 (omega (arith, is, same)))
      (at_first (0 + pointer_bytes (spot_of l g.copy from) + 2) (omega (arith, b, pointer))))
  item_lies to (tree.Text offset text n) h o b there = text_lies (behind to offset) text n there

  items_lie : (to : Byte) (whole before : ℕ) (items : List Item) → items_fit p f whole before items ≡ true → PartFits p memory (copy_of g.layout) (items_calls items) (items_registers items) → g.base + items_room g.layout.sizes items ≤ size → Lies memory whole to → Lie (items_code g to items)
  items_lie to whole before [] h o b there = tt
  items_lie to whole before (item ∷ items) h o b there =
      let lies = lies_within whole before (item_start item) (item_bytes p.sizes item) in
      let next = item_start item + item_bytes p.sizes item in
      let rest = and_last lies (item_fits p f item && items_fit p f whole next items) h in
      let bounds = and_last (nat_le before (item_start item)) (nat_le (item_start item) whole && nat_le (item_bytes p.sizes item) (whole - item_start item)) (and_first lies (item_fits p f item && items_fit p f whole next items) h) in
      let low = leb-true (item_start item) whole (and_first (nat_le (item_start item) whole) (nat_le (item_bytes p.sizes item) (whole - item_start item)) bounds) in
      let high = leb-true (item_bytes p.sizes item) (whole - item_start item) (and_last (nat_le (item_start item) whole) (nat_le (item_bytes p.sizes item) (whole - item_start item)) bounds) in
      let same = ap (λ (s : List ℕ). item_bytes s item) has_all.sizes in
      lie_on memory (item_code g to item) (items_code g to items)
      (item_lies to item (and_first (item_fits p f item) (items_fit p f whole next items) rest) (part_first p memory (copy_of g.layout) (item_calls item) (items_calls items) (item_registers item) (items_registers items) o) (omega (arith, b)) (past memory whole (item_bytes g.layout.sizes item) (item_start item) to (omega (arith, low, high, same)) there))
      (items_lie to whole next items (and_last (item_fits p f item) (items_fit p f whole next items) rest) (part_last p memory (copy_of g.layout) (item_calls item) (items_calls items) (item_registers item) (items_registers items) o) (omega (arith, b)) there)

  list_lies : (local : ℕ) (o : Option VariableTree) (items : List Item) → slice_get f.locals local ≡ o → list_fits p f o items ≡ true → PartFits p memory (copy_of g.layout) (items_calls items) (items_registers items) → g.base + items_room g.layout.sizes items ≤ size → Lie (list_code g local items)
  list_lies local None items there h o b = never h
  list_lies local (Some v) items there h o b =
      let to = local_byte g local in
      let at = local_there local v there in
      let same = ap (λ (s : List ℕ). type_bytes s v.ty.ty) has_all.sizes in
      let n = ap (λ (x : List ℕ). slice_index x local) same_bytes ∙ local_is g.layout.sizes f.locals local v there in
      lie_on memory (items_code g to items) (rest_code g to items (local_bytes g local))
      (items_lie to (type_bytes p.sizes v.ty.ty) 0 items (and_last (has_parts v.ty.ty) (items_fit p f (type_bytes p.sizes v.ty.ty) 0 items) h) o b (less memory (type_bytes g.layout.sizes v.ty.ty) (type_bytes p.sizes v.ty.ty) to (omega (arith, same)) at))
      (rest_lies to items (local_bytes g local) (less memory (type_bytes g.layout.sizes v.ty.ty) (local_bytes g local) to (omega (arith, n)) at))

  -- ---- conditions and loops
  condition_lies : (o : Option Expression) → any_condition_fits p f o ≡ true → PartFits p memory (copy_of g.layout) (any_calls o) (any_registers o) → g.base + any_room g.layout.sizes o ≤ size → Lie (condition_code g o)
  condition_lies None h o b = tt
  condition_lies (Some e) h o b =
      let fit = and_last (is_scalar (type_of e)) (fits p f Used e) h in
      let held = room_holds g.layout.sizes p f Used e fit in
      let w = width_within g.layout (type_of e) in
      let test = size_within (ground.width g e) in
      lie_on memory (value_code g e) (core.If (first g) (test_size (ground.width g e)) (many []) (core.Exit 0) ∷ []) (value_lies e fit o b)
      ((at_first (test_size (ground.width g e)) (omega (arith, b, held, w, test)), tt, tt), tt)

  any_lies : (o : Option Expression) → any_fits p f o ≡ true → PartFits p memory (copy_of g.layout) (any_calls o) (any_registers o) → g.base + any_room g.layout.sizes o ≤ size → Lie (any_code g o)
  any_lies None h o b = tt
  any_lies (Some e) h o b = expr_lies g.copy size memory g.layout p f has_all false g.base Used e h o b

  turn_lies : (body : List Tree) → Lie body → Lie (core.Loop (many body) ∷ [])
  turn_lies body h = (trees_lie memory body h, tt)

  once_lies : (body : List Tree) → Lie body → Lie (once body)
  once_lies body h = turn_lies (body ++ core.Exit 0 ∷ []) (lie_on memory body (core.Exit 0 ∷ []) h (tt, tt))

  loop_lies : (shape : LoopForm) (begin condition step : Option Expression) (body : List Tree) → any_fits p f begin ≡ true → any_condition_fits p f condition ≡ true → any_fits p f step ≡ true
      → PartFits p memory (copy_of g.layout) (any_calls begin) (any_registers begin) → PartFits p memory (copy_of g.layout) (any_calls condition) (any_registers condition) → PartFits p memory (copy_of g.layout) (any_calls step) (any_registers step)
      → g.base + max (any_room g.layout.sizes begin) (max (any_room g.layout.sizes condition) (any_room g.layout.sizes step)) ≤ size → Lie body → Lie (loop_code g shape begin condition step body)
  loop_lies While begin condition step body a b d x y z m h = turn_lies (condition_code g condition ++ body) (lie_on memory (condition_code g condition) body (condition_lies condition b y (omega (arith, m))) h)
  loop_lies Do begin condition step body a b d x y z m h = turn_lies (once body ++ condition_code g condition) (lie_on memory (once body) (condition_code g condition) (once_lies body h) (condition_lies condition b y (omega (arith, m))))
  loop_lies For begin condition step body a b d x y z m h =
      lie_on memory (any_code g begin) (core.Loop (many (condition_code g condition ++ once body ++ any_code g step)) ∷ []) (any_lies begin a x (omega (arith, m)))
      (turn_lies (condition_code g condition ++ once body ++ any_code g step)
      (lie_on memory (condition_code g condition ++ once body) (any_code g step) (lie_on memory (condition_code g condition) (once body) (condition_lies condition b y (omega (arith, m))) (once_lies body h)) (any_lies step d z (omega (arith, m)))))

  return_lies : (o : Option Expression) → return_fits p f o ≡ true → PartFits p memory (copy_of g.layout) (any_calls o) (any_registers o) → g.base + any_room g.layout.sizes o ≤ size → Lie (return_code g o)
  return_lies None h o b = (tt, tt)
  return_lies (Some e) h o b =
      let goes = goes_to p (source_of e) (type_of e) f.result in
      let keeps = same_type (type_of e) f.result && keeps_from p (source_of e) f.result in
      let to = and_first goes (fits p f Used e) h in
      let same = same_type_bytes g.layout.sizes (type_of e) f.result (and_first (same_type (type_of e) f.result) (keeps_from p (source_of e) f.result) (and_last (is_scalar f.result) keeps to)) in
      let few = scalar_few g.layout.sizes f.result (and_first (is_scalar f.result) keeps to) in
      let fit = and_last goes (fits p f Used e) h in
      let held = room_holds g.layout.sizes p f Used e fit in
      let w = width_within g.layout (type_of e) in
      lie_on memory (value_code g e ++ copies (result_byte g) (first g) (ground.width g e)) (core.Leave ∷ [])
      (lie_on memory (value_code g e) (copies (result_byte g) (first g) (ground.width g e)) (value_lies e fit o b)
      (copies_lie memory (result_byte g) (first g) (ground.width g e) (of_result memory g.layout.root (ground.width g e) (omega (arith, w, same, few))) (at_first (ground.width g e) (omega (arith, b, held, w))))) (tt, tt)

  continue_lies : (again : Bool) (k : ℕ) → Lie ((if again then core.Again k else core.Exit k) ∷ [])
  continue_lies true k = (tt, tt)
  continue_lies false k = (tt, tt)

  -- ---- switches
  two_within : test_size 2 ≤ 2
  two_within = size_within 2

  case_lies : (value : Expression) (case : TCase) (segment : ℕ) → is_promoted (type_of value) ≡ true → g.base + (2 * value_bytes g.layout.sizes value + 2) ≤ size → Lie (case_code g (operation_type (type_of value)) (ground.width g value) case segment)
  case_lies value case segment h b =
      let ty = operation_type (type_of value) in
      let w = ground.width g value in
      let v = width_within g.layout (type_of value) in
      let number = promoted_number g.layout.sizes (type_of value) h in
      let n = 2 * value_bytes g.layout.sizes value + 2 in
      let all = at_first n b in
      let two = two_within in
      let right = past memory n (value_bytes g.layout.sizes value) w (first g) (omega (arith, v)) all in
      let answer = past memory n 2 (2 * w) (first g) (omega (arith, v)) all in
      lie_on memory (sets (temporary g w) (pattern case.value.ty case.value.number) w ++ comparison ty (temporary g (2 * w)) (first g) (temporary g w)) (leading (temporary g (2 * w)) segment)
      (lie_on memory (sets (temporary g w) (pattern case.value.ty case.value.number) w) (comparison ty (temporary g (2 * w)) (first g) (temporary g w))
      (sets_lie memory (temporary g w) (pattern case.value.ty case.value.number) w (less memory (value_bytes g.layout.sizes value) w (temporary g w) v right))
      ((answer, less memory n (bytes_of ty) (first g) (omega (arith, number)) all, less memory (value_bytes g.layout.sizes value) (bytes_of ty) (temporary g w) (omega (arith, number)) right), tt))
      ((less memory 2 (test_size 2) (temporary g (2 * w)) two answer, tt, tt), tt)

  cases_lie : (value : Expression) (labels : List ℕ) (cases : List TCase) → is_promoted (type_of value) ≡ true → g.base + (2 * value_bytes g.layout.sizes value + 2) ≤ size → Lie (cases_code g (operation_type (type_of value)) (ground.width g value) labels cases)
  cases_lie value labels [] h b = tt
  cases_lie value labels (case ∷ cases) h b =
      lie_on memory (case_code g (operation_type (type_of value)) (ground.width g value) case (segments_before case.target labels)) (cases_code g (operation_type (type_of value)) (ground.width g value) labels cases) (case_lies value case (segments_before case.target labels) h b) (cases_lie value labels cases h b)

  abbrev AllSegments : List (List Tree) → Type 0
  AllSegments [] = Unit {0}
  AllSegments (s ∷ ss) = Lie s × AllSegments ss

  abbrev SegmentsLie : Segments → Type 0
  SegmentsLie s = Lie s.running × AllSegments s.later

  cut_lies : (begins : Bool) (s : Segments) → SegmentsLie s → SegmentsLie (cut begins s)
  cut_lies true s h = (tt, (h.0, h.1))
  cut_lies false s h = h

  joined_lies : (code : List Tree) (s : Segments) → Lie code → SegmentsLie s → SegmentsLie (joined code s)
  joined_lies code s h t = (lie_on memory code s.running h t.0, t.1)

  nest_lies : (inner : List Tree) (segments : List (List Tree)) → Lie inner → AllSegments segments → Lie (nest inner segments)
  nest_lies inner [] h t = h
  nest_lies inner (s ∷ ss) h t = nest_lies (core.Loop (many (inner ++ s ++ core.Exit 0 ∷ [])) ∷ []) ss (turn_lies (inner ++ s ++ core.Exit 0 ∷ []) (lie_on memory (inner ++ s) (core.Exit 0 ∷ []) (lie_on memory inner s h t.0) (tt, tt))) t.1

  labels_lie : (labels : List ℕ) (code : List Tree) → Lie code → Lie (for_labels labels code)
  labels_lie [] code h = tt
  labels_lie (one ∷ labels) code h = h

  switch_lies : (value : Expression) (cases : List TCase) (default : Option ℕ) (labels : List ℕ) (count : ℕ) (s : Segments) → switch_rule p f value ≡ true → PartFits p memory (copy_of g.layout) (calls value) (registers value)
      → g.base + switch_room (room g.layout.sizes value) (value_bytes g.layout.sizes value) ≤ size → SegmentsLie s → Lie (value_code g value ++ for_labels labels (around (comparisons g value cases default labels count) s))
  switch_lies value cases default labels count s h o b t =
      let promoted = and_first (is_promoted (type_of value)) (fits p f Used value) h in
      let all = comparisons g value cases default labels count in
      lie_on memory (value_code g value) (for_labels labels (around all s)) (value_lies value (and_last (is_promoted (type_of value)) (fits p f Used value) h) o (omega (arith, b)))
      (labels_lie labels (around all s)
      (nest_lies (core.Loop (many all) ∷ []) s.later
      (turn_lies all (lie_on memory (cases_code g (operation_type (type_of value)) (ground.width g value) labels cases) (core.Exit (otherwise_segment labels count default) ∷ []) (cases_lie value labels cases promoted (omega (arith, b))) (tt, tt))) t.1))

  -- ---- all statements
  mutual
    unfolding stmt_code statement_fits statement_room statement_calls statement_registers

    pub statement_lies : (j : Jumps) (declares leaves repeats : Bool) (s : Statement) → statement_fits p f declares leaves repeats s ≡ true → PartFits p memory (copy_of g.layout) (statement_calls s) (statement_registers s) → g.base + statement_room g.layout.sizes s ≤ size → AllLie memory (stmt_code g j s)
    statement_lies j declares leaves repeats (tree.Block statements line) h o b = statements_lie j true leaves repeats statements h o b
    statement_lies j declares leaves repeats (tree.Empty line) h o b = tt
    statement_lies j declares leaves repeats (tree.Expr value line) h o b = expr_lies g.copy size memory g.layout p f has_all false g.base Alone value h o b
    statement_lies j declares leaves repeats (tree.Declare local line) h o b = tt
    statement_lies j declares leaves repeats (tree.InitScalar local value line) h o b = first_value_lies local (slice_get f.locals local) value refl (and_last declares (first_value_fits p f (slice_get f.locals local) value) h) o b
    statement_lies j declares leaves repeats (tree.InitList local items line) h o b = list_lies local (slice_get f.locals local) items refl (and_last declares (list_fits p f (slice_get f.locals local) items) h) o b
    statement_lies j declares leaves repeats (tree.If arms otherwise line) h o b =
        let parts = and_last (is_some_arm arms) (arms_fit p f leaves repeats arms && last_fits p f leaves repeats otherwise) h in
        arms_lie j leaves repeats (last_code g j otherwise) arms (and_first (arms_fit p f leaves repeats arms) (last_fits p f leaves repeats otherwise) parts) (part_first p memory (copy_of g.layout) (arms_calls arms) (last_calls otherwise) (arms_registers arms) (last_registers otherwise) o) (omega (arith, b))
        (last_lies j leaves repeats otherwise (and_last (arms_fit p f leaves repeats arms) (last_fits p f leaves repeats otherwise) parts) (part_last p memory (copy_of g.layout) (arms_calls arms) (last_calls otherwise) (arms_registers arms) (last_registers otherwise) o) (omega (arith, b)))
    statement_lies j declares leaves repeats (tree.Loop shape begin condition step body line) h o b =
        let inner = statement_fits p f false true true body in
        let parts = and_last (loop_fits shape (is_some begin) (is_some condition) (is_some step)) (any_fits p f begin && (any_condition_fits p f condition && (any_fits p f step && inner))) h in
        let later = and_last (any_fits p f begin) (any_condition_fits p f condition && (any_fits p f step && inner)) parts in
        let last = and_last (any_condition_fits p f condition) (any_fits p f step && inner) later in
        let three = part_first p memory (copy_of g.layout) (any_calls begin ++ any_calls condition ++ any_calls step) (statement_calls body) (any_registers begin ++ any_registers condition ++ any_registers step) (statement_registers body) o in
        let two = part_first p memory (copy_of g.layout) (any_calls begin ++ any_calls condition) (any_calls step) (any_registers begin ++ any_registers condition) (any_registers step) three in
        loop_lies shape begin condition step (stmt_code g (jumps_in shape) body) (and_first (any_fits p f begin) (any_condition_fits p f condition && (any_fits p f step && inner)) parts) (and_first (any_condition_fits p f condition) (any_fits p f step && inner) later) (and_first (any_fits p f step) inner last)
        (part_first p memory (copy_of g.layout) (any_calls begin) (any_calls condition) (any_registers begin) (any_registers condition) two) (part_last p memory (copy_of g.layout) (any_calls begin) (any_calls condition) (any_registers begin) (any_registers condition) two) (part_last p memory (copy_of g.layout) (any_calls begin ++ any_calls condition) (any_calls step) (any_registers begin ++ any_registers condition) (any_registers step) three) (omega (arith, b))
        (statement_lies (jumps_in shape) false true true body (and_last (any_fits p f step) inner last) (part_last p memory (copy_of g.layout) (any_calls begin ++ any_calls condition ++ any_calls step) (statement_calls body) (any_registers begin ++ any_registers condition ++ any_registers step) (statement_registers body) o) (omega (arith, b)))
    statement_lies j declares leaves repeats (tree.Switch value cases default statements line) h o b =
        let labels = labels_of cases default in
        let count = segments_in statements labels in
        let inner = statements_fit p f false true repeats statements in
        let parts = and_last (switch_rule p f value) (cases_fit (type_of value) (count_of statements) cases && (default_fits (count_of statements) default && inner)) h in
        let later = and_last (cases_fit (type_of value) (count_of statements) cases) (default_fits (count_of statements) default && inner) parts in
        switch_lies value cases default labels count (segments_code g j labels count 0 0 statements) (and_first (switch_rule p f value) (cases_fit (type_of value) (count_of statements) cases && (default_fits (count_of statements) default && inner)) h)
        (part_first p memory (copy_of g.layout) (calls value) (statements_calls statements) (registers value) (statements_registers statements) o) (omega (arith, b))
        (segments_lie j labels count 0 0 repeats statements (and_last (default_fits (count_of statements) default) inner later) (part_last p memory (copy_of g.layout) (calls value) (statements_calls statements) (registers value) (statements_registers statements) o) (omega (arith, b)))
    statement_lies j declares leaves repeats (tree.Break line) h o b = (tt, tt)
    statement_lies j declares leaves repeats (tree.Continue line) h o b = continue_lies j.again j.turn
    statement_lies j declares leaves repeats (tree.Return value line) h o b = return_lies value h o b

    pub statements_lie : (j : Jumps) (declares leaves repeats : Bool) (ss : Statements) → statements_fit p f declares leaves repeats ss ≡ true → PartFits p memory (copy_of g.layout) (statements_calls ss) (statements_registers ss) → g.base + statements_room g.layout.sizes ss ≤ size → AllLie memory (stmts_code g j ss)
    statements_lie j declares leaves repeats tree.NoStatement h o b = tt
    statements_lie j declares leaves repeats (tree.AndStatement s ss) h o b =
        let one = statement_fits p f declares leaves repeats s in
        let more = statements_fit p f declares leaves repeats ss in
        lie_on memory (stmt_code g j s) (stmts_code g j ss) (statement_lies j declares leaves repeats s (and_first one more h) (part_first p memory (copy_of g.layout) (statement_calls s) (statements_calls ss) (statement_registers s) (statements_registers ss) o) (omega (arith, b)))
        (statements_lie j declares leaves repeats ss (and_last one more h) (part_last p memory (copy_of g.layout) (statement_calls s) (statements_calls ss) (statement_registers s) (statements_registers ss) o) (omega (arith, b)))

    arms_lie : (j : Jumps) (leaves repeats : Bool) (otherwise : List Tree) (arms : Arms) → arms_fit p f leaves repeats arms ≡ true → PartFits p memory (copy_of g.layout) (arms_calls arms) (arms_registers arms) → g.base + arms_room g.layout.sizes arms ≤ size → AllLie memory otherwise → AllLie memory (arms_code g j otherwise arms)
    arms_lie j leaves repeats otherwise tree.NoArm h o b q = q
    arms_lie j leaves repeats otherwise (tree.AndArm arm arms) h o b q =
        let one = arm_fits p f leaves repeats arm in
        let more = arms_fit p f leaves repeats arms in
        arm_lies j leaves repeats (arms_code g j otherwise arms) arm (and_first one more h) (part_first p memory (copy_of g.layout) (arm_calls arm) (arms_calls arms) (arm_registers arm) (arms_registers arms) o) (omega (arith, b))
        (arms_lie j leaves repeats otherwise arms (and_last one more h) (part_last p memory (copy_of g.layout) (arm_calls arm) (arms_calls arms) (arm_registers arm) (arms_registers arms) o) (omega (arith, b)) q)

    arm_lies : (j : Jumps) (leaves repeats : Bool) (otherwise : List Tree) (arm : Arm) → arm_fits p f leaves repeats arm ≡ true → PartFits p memory (copy_of g.layout) (arm_calls arm) (arm_registers arm) → g.base + arm_room g.layout.sizes arm ≤ size → AllLie memory otherwise → AllLie memory (arm_code g j arm otherwise)
    arm_lies j leaves repeats otherwise (tree.OneArm condition chosen line) h o b q =
        let inner = statement_fits p f false leaves repeats chosen in
        let fit = and_last (is_scalar (type_of condition)) (fits p f Used condition) (and_first (condition_fits p f condition) inner h) in
        choice_within g.copy size memory g.layout p f has_all g.base (room g.layout.sizes condition) (type_of condition) (value_code g condition) (stmt_code g j chosen) otherwise (room_holds g.layout.sizes p f Used condition fit) (omega (arith, b))
        (value_lies condition fit (part_first p memory (copy_of g.layout) (calls condition) (statement_calls chosen) (registers condition) (statement_registers chosen) o) (omega (arith, b)))
        (statement_lies j false leaves repeats chosen (and_last (condition_fits p f condition) inner h) (part_last p memory (copy_of g.layout) (calls condition) (statement_calls chosen) (registers condition) (statement_registers chosen) o) (omega (arith, b))) q

    last_lies : (j : Jumps) (leaves repeats : Bool) (last : LastArm) → last_fits p f leaves repeats last ≡ true → PartFits p memory (copy_of g.layout) (last_calls last) (last_registers last) → g.base + last_room g.layout.sizes last ≤ size → AllLie memory (last_code g j last)
    last_lies j leaves repeats tree.NoLast h o b = tt
    last_lies j leaves repeats (tree.Last s) h o b = statement_lies j false leaves repeats s h o b

    segments_lie : (j : Jumps) (labels : List ℕ) (count i begun : ℕ) (repeats : Bool) (ss : Statements) → statements_fit p f false true repeats ss ≡ true → PartFits p memory (copy_of g.layout) (statements_calls ss) (statements_registers ss) → g.base + statements_room g.layout.sizes ss ≤ size → SegmentsLie (segments_code g j labels count i begun ss)
    segments_lie j labels count i begun repeats tree.NoStatement h o b = cut_lies (has labels i) no_segments (tt, tt)
    segments_lie j labels count i begun repeats (tree.AndStatement s ss) h o b =
        let one = statement_fits p f false true repeats s in
        let more = statements_fit p f false true repeats ss in
        let now = begun_with (has labels i) begun in
        let here = in_segment j (count - now) in
        let rest = segments_code g j labels count (i + 1) now ss in
        cut_lies (has labels i) (joined (stmt_code g here s) rest)
        (joined_lies (stmt_code g here s) rest (statement_lies here false true repeats s (and_first one more h) (part_first p memory (copy_of g.layout) (statement_calls s) (statements_calls ss) (statement_registers s) (statements_registers ss) o) (omega (arith, b)))
        (segments_lie j labels count (i + 1) now repeats ss (and_last one more h) (part_last p memory (copy_of g.layout) (statement_calls s) (statements_calls ss) (statement_registers s) (statements_registers ss) o) (omega (arith, b))))
