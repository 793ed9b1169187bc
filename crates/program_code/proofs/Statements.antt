-- The code of a statement takes at most its stated words.
use Rattle.std.proofs.Common.{◌≡◌, ℕ, zero, suc, ◌+◌, ◌-◌, ◌*◌, Bool, true, false, ◌&&◌, if◌then◌else◌, List, [], ◌∷◌, ◌++◌, map, Option, Some, None, is_some, slice_get, slice_index, refl, sym, ap, ◌∙◌, arith}
use Rattle.std.proofs.lemmas.Option.{none-some, same_Some}
use Rattle.c_typed.specs.Fits.{fits, goes_to, source_of, Used, Alone}
use Rattle.c_typed.specs.Sameness.{is_promoted, is_scalar}
use Rattle.c_typed.specs.Sound.{any_fits, condition_fits, any_condition_fits, first_value_fits, has_parts, items_fit, list_fits, loop_fits, cases_fit, default_fits, count_of, return_fits, switch_rule, is_some_arm, statement_fits, statements_fit, arm_fits, arms_fit, last_fits}
use Rattle.c_typed.specs.Trees as tree
use Rattle.c_typed.specs.Trees.{Expression, Item, Statement, Statements, Arm, Arms, LastArm, VariableTree, FunctionTree, Program}
use Rattle.c_typed.specs.Types.{type_bytes, type_of, value_bytes}
use Rattle.c_typed.specs.Words.{words, any_words, any_bytes, condition_words, items_words, items_bytes, cases_words, variable_bytes, statement_words, statements_words, arm_words, arms_words, last_words}
use Rattle.c_typed.specs.declared.statement.TCase.{TCase}
use Rattle.c_typed.specs.declared.statement.LoopForm.{LoopForm}
use Rattle.c_typed.specs.declared.statement.LoopForm.TheVariants.{While, Do, For}
use Rattle.call_graph.specs.declared.types.FnCopy.{FnCopy}
use Rattle.core_code.specs.Tree as core
use Rattle.core_code.specs.Tree.{Tree, many}
use Rattle.core_puts.specs.Puts.{copies}
use Rattle.lower_stmt.specs.Declarators.{scalar_code, list_code}
use Rattle.lower_stmt.specs.Ground.{Ground, first, result_byte, local_byte, local_bytes, value_code, effect_code}
use Rattle.lower_stmt.specs.Ground as ground
use Rattle.lower_stmt.specs.Jumps.{outside, in_segment}
use Rattle.lower_stmt.specs.Labels.{labels_of, has}
use Rattle.lower_stmt.specs.Statements.{any_code, condition_code, once, jumps_in, loop_code, break_code, continue_code, return_code, arm_choice, segments_in, stmt_code, stmts_code, arms_code, arm_code, last_code, segments_code}
use Rattle.lower_stmt.specs.Switches.{comparisons, begun_with, Segments, no_segments, joined, around, for_labels}
use Rattle.pic_world.specs.declared.Root.{Root}
use Rattle.select_code.specs.declared.control.Ending.{Ending}
use Rattle.program_code.proofs.Chain.{never}
use Rattle.program_code.proofs.Lowered.{Takes, takes_on, takes_more, takes_none, takes_one, once_one, loop_one}
use Rattle.program_code.proofs.Puts.{copies_takes}
use Rattle.program_code.proofs.Typing.{and_first, and_last}
use Rattle.program_code.proofs.Nodes.{width_within, choice_node}
use Rattle.program_code.proofs.Expressions.{expr_takes}
use Rattle.program_code.proofs.Declared.{scalar_takes, list_takes}
use Rattle.program_code.proofs.Segments.{condition_most, condition_enough, exit_takes, again_takes, leave_takes, value_takes, condition_takes, any_takes, comparisons_take, SegmentsTake, no_segments_take, joined_take, cut_take, around_takes, labels_take}

abbrev TypeOf : {A : Type 0} → A → Type 0
TypeOf {A = A} x = A

-- where `break` and `continue` lead to
abbrev pub Jumps : Type 0
Jumps = TypeOf outside

-- a local's bytes
pub local_is : (sizes : List ℕ) (locals : List VariableTree) (local : ℕ) (v : VariableTree) → slice_get locals local ≡ Some v → slice_index (map (variable_bytes sizes) locals) local ≡ type_bytes sizes v.ty.ty
local_is sizes [] local v e = absurd (none-some v e)
local_is sizes (w ∷ ws) zero v e = ap (variable_bytes sizes) (same_Some w v e)
local_is sizes (w ∷ ws) (suc k) v e = local_is sizes ws k v e

module _ (list : List FnCopy) (root : Root) (end : Ending) (p : Program) (f : FunctionTree) (g : Ground) (same : p.sizes ≡ g.layout.sizes) (bytes : g.bytes ≡ map (variable_bytes g.layout.sizes) f.locals) where
  -- ---- locals
  first_value_takes : (local : ℕ) (o : Option VariableTree) (e : Expression) → first_value_fits p f o e ≡ true → Takes list root end g.copy (6 * value_bytes g.layout.sizes e + words g.layout.sizes e) (scalar_code g (local_byte g local) e)
  first_value_takes local None e h = never h
  first_value_takes local (Some v) e h = scalar_takes list root end p f g same (local_byte g local) e (and_last (goes_to p (source_of e) (type_of e) v.ty.ty) (fits p f Used e) h)

  list_by : (local : ℕ) (o : Option VariableTree) (items : List Item) → slice_get f.locals local ≡ o → list_fits p f o items ≡ true
      → Takes list root end g.copy (items_words g.layout.sizes items + 4 * (slice_index g.bytes local - items_bytes g.layout.sizes items)) (list_code g local items)
  list_by local None items e h = never h
  list_by local (Some v) items e h =
      let size = ap (λ (b : List ℕ). slice_index b local) bytes ∙ local_is g.layout.sizes f.locals local v e ∙ ap (λ (s : List ℕ). type_bytes s v.ty.ty) (sym same) in
      list_takes list root end p f g same local (type_bytes p.sizes v.ty.ty) items size (and_last (has_parts v.ty.ty) (items_fit p f (type_bytes p.sizes v.ty.ty) 0 items) h)

  -- ---- loops
  once_takes : (n : ℕ) (body : List Tree) → Takes list root end g.copy n body → Takes list root end g.copy n (once body)
  once_takes n body h = takes_one list root end g.copy n (core.Loop (many (body ++ core.Exit 0 ∷ []))) (once_one list root end g.copy n body h)

  turn_takes : (n : ℕ) (body : List Tree) → Takes list root end g.copy n body → Takes list root end g.copy (n + 3) (core.Loop (many body) ∷ [])
  turn_takes n body h = takes_one list root end g.copy (n + 3) (core.Loop (many body)) (loop_one list root end g.copy n body h)

  loop_takes : (shape : LoopForm) (begin condition step : Option Expression) (n : ℕ) (body : List Tree) → any_fits p f begin ≡ true → any_condition_fits p f condition ≡ true → any_fits p f step ≡ true → Takes list root end g.copy n body
      → Takes list root end g.copy (condition_words g.layout.sizes condition + (any_words g.layout.sizes begin + (any_words g.layout.sizes step + n))) (loop_code g shape begin condition step body)
  loop_takes While begin condition step n body a b d h =
      let enough = condition_enough g.layout.sizes condition in
      let c = condition_most g.layout.sizes condition in
      takes_more list root end g.copy (c + n + 3) (condition_words g.layout.sizes condition + (any_words g.layout.sizes begin + (any_words g.layout.sizes step + n))) (loop_code g While begin condition step body) (omega (arith, enough))
      (turn_takes (c + n) (condition_code g condition ++ body) (takes_on list root end g.copy c n (condition_code g condition) body (condition_takes list root end p f g condition b) h))
  loop_takes Do begin condition step n body a b d h =
      let enough = condition_enough g.layout.sizes condition in
      let c = condition_most g.layout.sizes condition in
      takes_more list root end g.copy (n + c + 3) (condition_words g.layout.sizes condition + (any_words g.layout.sizes begin + (any_words g.layout.sizes step + n))) (loop_code g Do begin condition step body) (omega (arith, enough))
      (turn_takes (n + c) (once body ++ condition_code g condition) (takes_on list root end g.copy n c (once body) (condition_code g condition) (once_takes n body h) (condition_takes list root end p f g condition b)))
  loop_takes For begin condition step n body a b d h =
      let enough = condition_enough g.layout.sizes condition in
      let c = condition_most g.layout.sizes condition in
      let s = any_words g.layout.sizes step in
      let whole = condition_code g condition ++ once body ++ any_code g step in
      takes_more list root end g.copy (any_words g.layout.sizes begin + (c + n + s + 3)) (condition_words g.layout.sizes condition + (any_words g.layout.sizes begin + (any_words g.layout.sizes step + n))) (loop_code g For begin condition step body) (omega (arith, enough))
      (takes_on list root end g.copy (any_words g.layout.sizes begin) (c + n + s + 3) (any_code g begin) (core.Loop (many whole) ∷ []) (any_takes list root end p f g begin a)
      (turn_takes (c + n + s) whole
      (takes_on list root end g.copy (c + n) s (condition_code g condition ++ once body) (any_code g step) (takes_on list root end g.copy c n (condition_code g condition) (once body) (condition_takes list root end p f g condition b) (once_takes n body h)) (any_takes list root end p f g step d))))

  -- ---- jumps
  continue_takes : (again : Bool) (k : ℕ) → Takes list root end g.copy 3 ((if again then core.Again k else core.Exit k) ∷ [])
  continue_takes true k = again_takes list root end p f g k
  continue_takes false k = exit_takes list root end p f g k

  return_takes : (o : Option Expression) → return_fits p f o ≡ true → Takes list root end g.copy (6 * any_bytes g.layout.sizes o + 6 + any_words g.layout.sizes o) (return_code g o)
  return_takes None h = takes_more list root end g.copy 3 (6 * 0 + 6 + 0) (core.Leave ∷ []) (omega arith) (leave_takes list root end p f g)
  return_takes (Some e) h =
      let w = width_within g.layout (type_of e) in
      let n = words g.layout.sizes e in
      takes_more list root end g.copy (n + 6 * ground.width g e + 3) (6 * value_bytes g.layout.sizes e + 6 + n) (return_code g (Some e)) (omega (arith, w))
      (takes_on list root end g.copy (n + 6 * ground.width g e) 3 (value_code g e ++ copies (result_byte g) (first g) (ground.width g e)) (core.Leave ∷ [])
      (takes_on list root end g.copy n (6 * ground.width g e) (value_code g e) (copies (result_byte g) (first g) (ground.width g e)) (value_takes list root end p f g e (and_last (goes_to p (source_of e) (type_of e) f.result) (fits p f Used e) h)) (copies_takes list root end g.copy (result_byte g) (first g) (ground.width g e)))
      (leave_takes list root end p f g))

  -- ---- switches
  switch_takes : (value : Expression) (cases : List TCase) (default : Option ℕ) (labels : List ℕ) (count n : ℕ) (s : Segments) → switch_rule p f value ≡ true → SegmentsTake list root end p f g n s
      → Takes list root end g.copy (10 + cases_words (value_bytes g.layout.sizes value) cases + (words g.layout.sizes value + n)) (value_code g value ++ for_labels labels (around (comparisons g value cases default labels count) s))
  switch_takes value cases default labels count n s h t =
      let v = words g.layout.sizes value in
      let k = cases_words (value_bytes g.layout.sizes value) cases in
      let loops = around (comparisons g value cases default labels count) s in
      takes_more list root end g.copy (v + (k + 3 + 3 + n)) (10 + k + (v + n)) (value_code g value ++ for_labels labels loops) (omega arith)
      (takes_on list root end g.copy v (k + 3 + 3 + n) (value_code g value) (for_labels labels loops) (value_takes list root end p f g value (and_last (is_promoted (type_of value)) (fits p f Used value) h))
      (labels_take list root end p f g (k + 3 + 3 + n) labels loops
      (around_takes list root end p f g (k + 3) n (comparisons g value cases default labels count) s (comparisons_take list root end p f g value cases default labels count (and_first (is_promoted (type_of value)) (fits p f Used value) h)) t)))

  -- ---- all statements
  mutual
    unfolding stmt_code statement_words statement_fits

    pub statement_takes : (j : Jumps) (declares leaves repeats : Bool) (s : Statement) → statement_fits p f declares leaves repeats s ≡ true → Takes list root end g.copy (statement_words g.layout.sizes g.bytes s) (stmt_code g j s)
    statement_takes j declares leaves repeats (tree.Block statements line) h = statements_take j true leaves repeats statements h
    statement_takes j declares leaves repeats (tree.Empty line) h = takes_none list root end g.copy
    statement_takes j declares leaves repeats (tree.Expr value line) h = expr_takes list root end g.layout g.copy p f false g.base Alone value h
    statement_takes j declares leaves repeats (tree.Declare local line) h = takes_none list root end g.copy
    statement_takes j declares leaves repeats (tree.InitScalar local value line) h = first_value_takes local (slice_get f.locals local) value (and_last declares (first_value_fits p f (slice_get f.locals local) value) h)
    statement_takes j declares leaves repeats (tree.InitList local items line) h = list_by local (slice_get f.locals local) items refl (and_last declares (list_fits p f (slice_get f.locals local) items) h)
    statement_takes j declares leaves repeats (tree.If arms otherwise line) h =
        let parts = and_last (is_some_arm arms) (arms_fit p f leaves repeats arms && last_fits p f leaves repeats otherwise) h in
        arms_take j leaves repeats (last_words g.layout.sizes g.bytes otherwise) (last_code g j otherwise) arms (and_first (arms_fit p f leaves repeats arms) (last_fits p f leaves repeats otherwise) parts)
        (last_takes j leaves repeats otherwise (and_last (arms_fit p f leaves repeats arms) (last_fits p f leaves repeats otherwise) parts))
    statement_takes j declares leaves repeats (tree.Loop shape begin condition step body line) h =
        let inner = statement_fits p f false true true body in
        let parts = and_last (loop_fits shape (is_some begin) (is_some condition) (is_some step)) (any_fits p f begin && (any_condition_fits p f condition && (any_fits p f step && inner))) h in
        let later = and_last (any_fits p f begin) (any_condition_fits p f condition && (any_fits p f step && inner)) parts in
        let last = and_last (any_condition_fits p f condition) (any_fits p f step && inner) later in
        loop_takes shape begin condition step (statement_words g.layout.sizes g.bytes body) (stmt_code g (jumps_in shape) body) (and_first (any_fits p f begin) (any_condition_fits p f condition && (any_fits p f step && inner)) parts)
        (and_first (any_condition_fits p f condition) (any_fits p f step && inner) later) (and_first (any_fits p f step) inner last)
        (statement_takes (jumps_in shape) false true true body (and_last (any_fits p f step) inner last))
    statement_takes j declares leaves repeats (tree.Switch value cases default statements line) h =
        let labels = labels_of cases default in
        let count = segments_in statements labels in
        let inner = statements_fit p f false true repeats statements in
        let parts = and_last (switch_rule p f value) (cases_fit (type_of value) (count_of statements) cases && (default_fits (count_of statements) default && inner)) h in
        let later = and_last (cases_fit (type_of value) (count_of statements) cases) (default_fits (count_of statements) default && inner) parts in
        switch_takes value cases default labels count (statements_words g.layout.sizes g.bytes statements) (segments_code g j labels count 0 0 statements)
        (and_first (switch_rule p f value) (cases_fit (type_of value) (count_of statements) cases && (default_fits (count_of statements) default && inner)) h)
        (segments_take j labels count 0 0 repeats statements (and_last (default_fits (count_of statements) default) inner later))
    statement_takes j declares leaves repeats (tree.Break line) h = takes_more list root end g.copy 3 4 (break_code j) (omega arith) (exit_takes list root end p f g j.leave)
    statement_takes j declares leaves repeats (tree.Continue line) h = takes_more list root end g.copy 3 4 (continue_code j) (omega arith) (continue_takes j.again j.turn)
    statement_takes j declares leaves repeats (tree.Return value line) h = return_takes value h

    pub statements_take : (j : Jumps) (declares leaves repeats : Bool) (ss : Statements) → statements_fit p f declares leaves repeats ss ≡ true → Takes list root end g.copy (statements_words g.layout.sizes g.bytes ss) (stmts_code g j ss)
    statements_take j declares leaves repeats tree.NoStatement h = takes_none list root end g.copy
    statements_take j declares leaves repeats (tree.AndStatement s ss) h =
        let one = statement_fits p f declares leaves repeats s in
        let more = statements_fit p f declares leaves repeats ss in
        takes_on list root end g.copy (statement_words g.layout.sizes g.bytes s) (statements_words g.layout.sizes g.bytes ss) (stmt_code g j s) (stmts_code g j ss) (statement_takes j declares leaves repeats s (and_first one more h)) (statements_take j declares leaves repeats ss (and_last one more h))

    arms_take : (j : Jumps) (leaves repeats : Bool) (n : ℕ) (otherwise : List Tree) (arms : Arms) → arms_fit p f leaves repeats arms ≡ true → Takes list root end g.copy n otherwise → Takes list root end g.copy (arms_words g.layout.sizes g.bytes arms + n) (arms_code g j otherwise arms)
    arms_take j leaves repeats n otherwise tree.NoArm h q = takes_more list root end g.copy n (0 + n) otherwise (omega arith) q
    arms_take j leaves repeats n otherwise (tree.AndArm arm arms) h q =
        let one = arm_fits p f leaves repeats arm in
        let more = arms_fit p f leaves repeats arms in
        let k = arms_words g.layout.sizes g.bytes arms + n in
        takes_more list root end g.copy (arm_words g.layout.sizes g.bytes arm + k) (arm_words g.layout.sizes g.bytes arm + arms_words g.layout.sizes g.bytes arms + n) (arm_code g j arm (arms_code g j otherwise arms)) (omega arith)
        (arm_takes j leaves repeats k (arms_code g j otherwise arms) arm (and_first one more h) (arms_take j leaves repeats n otherwise arms (and_last one more h) q))

    arm_takes : (j : Jumps) (leaves repeats : Bool) (n : ℕ) (otherwise : List Tree) (arm : Arm) → arm_fits p f leaves repeats arm ≡ true → Takes list root end g.copy n otherwise → Takes list root end g.copy (arm_words g.layout.sizes g.bytes arm + n) (arm_code g j arm otherwise)
    arm_takes j leaves repeats n otherwise (tree.OneArm condition chosen line) h q =
        let v = words g.layout.sizes condition in
        let s = statement_words g.layout.sizes g.bytes chosen in
        let inner = statement_fits p f false leaves repeats chosen in
        takes_more list root end g.copy (4 * value_bytes g.layout.sizes condition + 20 + (v + (s + n))) (4 * value_bytes g.layout.sizes condition + 20 + (v + s) + n) (arm_choice g condition (stmt_code g j chosen) otherwise) (omega arith)
        (choice_node list root end g.layout g.copy g.base (type_of condition) v s n (value_code g condition) (stmt_code g j chosen) otherwise
        (value_takes list root end p f g condition (and_last (is_scalar (type_of condition)) (fits p f Used condition) (and_first (condition_fits p f condition) inner h)))
        (statement_takes j false leaves repeats chosen (and_last (condition_fits p f condition) inner h)) q)

    last_takes : (j : Jumps) (leaves repeats : Bool) (last : LastArm) → last_fits p f leaves repeats last ≡ true → Takes list root end g.copy (last_words g.layout.sizes g.bytes last) (last_code g j last)
    last_takes j leaves repeats tree.NoLast h = takes_none list root end g.copy
    last_takes j leaves repeats (tree.Last s) h = statement_takes j false leaves repeats s h

    segments_take : (j : Jumps) (labels : List ℕ) (count i begun : ℕ) (repeats : Bool) (ss : Statements) → statements_fit p f false true repeats ss ≡ true → SegmentsTake list root end p f g (statements_words g.layout.sizes g.bytes ss) (segments_code g j labels count i begun ss)
    segments_take j labels count i begun repeats tree.NoStatement h = cut_take list root end p f g 0 (has labels i) no_segments (no_segments_take list root end p f g)
    segments_take j labels count i begun repeats (tree.AndStatement s ss) h =
        let one = statement_fits p f false true repeats s in
        let more = statements_fit p f false true repeats ss in
        let now = begun_with (has labels i) begun in
        let here = in_segment j (count - now) in
        let code = stmt_code g here s in
        let rest = segments_code g j labels count (i + 1) now ss in
        let m = statement_words g.layout.sizes g.bytes s in
        let k = statements_words g.layout.sizes g.bytes ss in
        cut_take list root end p f g (m + k) (has labels i) (joined code rest)
        (joined_take list root end p f g m k code rest (statement_takes here false true repeats s (and_first one more h)) (segments_take j labels count (i + 1) now repeats ss (and_last one more h)))
