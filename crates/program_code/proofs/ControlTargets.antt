-- In the code of control each jump goes to a label of its own construct, or of a loop round it.
use Rattle.std.proofs.Common.{◌≡◌, ℕ, zero, suc, ◌+◌, Bool, true, false, nat_lt, List, [], ◌∷◌, ◌++◌, length, Option, Some, None, IsSome}
use Rattle.std.specs.Prelude.{cond, option_map, slice_get}
use Rattle.core_code.specs.Tree as code
use Rattle.core_code.specs.Tree.{Tree, Trees, list_of, trees_of}
use Rattle.core_code.specs.declared.code.Byte.{Byte}
use Rattle.select_code.specs.Pieces.{first_label, second_label, label_code, goto_code, jump_code, unless_code, test_code, set_code, bit_write_code}
use Rattle.select_code.specs.Selected.{Given, IfForm, Jumps, Leaps, Half, Other, Whole, leave_code, goes_to, jump_target, only_of, short_jump, is_nothing, form_by, if_form, if_code, turned, loop_code, short_turn, code_of, first_code, parts_code, body_code}
use Rattle.select_code.specs.Sized.{is_cut}
use Rattle.select_code.specs.declared.control.Ending.{Ending}
use Rattle.sym_code.specs.declared.code.BlockName.TheVariants as names
use Rattle.sym_code.specs.declared.code.Label.{Label}
use Rattle.sym_code.specs.declared.code.Sym.{Sym}
use Rattle.sym_code.specs.declared.code.Target.{Target}
use Rattle.sym_code.specs.declared.code.Target.TheVariants as targets
use Rattle.program_code.specs.Calling.{calls_below, all_below}
use Rattle.program_code.specs.Targets.{HaveTargets}
use Rattle.program_code.proofs.NamedTargets.{and_both, LabelsFound, left_found, right_found, both_targets, named_below}
use Rattle.program_code.proofs.OperationTargets.{set_calls, test_calls}

module _ (target : Target → Option ℕ) where
  abbrev Found : Label → Type 0
  Found label = IsSome (target (targets.Label label))

  abbrev Have : List Sym → Type 0
  Have list = HaveTargets target list

  abbrev Stand : List Sym → Type 0
  Stand list = LabelsFound target list

  -- the labels of the loops round an operation
  abbrev pub LoopsFound : List ℕ → Type 0
  LoopsFound [] = Unit {0}
  LoopsFound (at ∷ loops) = Found (first_label at) × Found (second_label at) × LoopsFound loops

  abbrev AnyFound : Option Label → Type 0
  AnyFound None = Unit {0}
  AnyFound (Some label) = Found label

  exit_found : (loops : List ℕ) (count : ℕ) → LoopsFound loops → AnyFound (option_map second_label (slice_get loops count))
  exit_found [] count h = tt
  exit_found (at ∷ loops) zero h = h.1
  exit_found (at ∷ loops) (suc count) h = exit_found loops count h.2

  again_found : (loops : List ℕ) (count : ℕ) → LoopsFound loops → AnyFound (option_map first_label (slice_get loops count))
  again_found [] count h = tt
  again_found (at ∷ loops) zero h = h.0
  again_found (at ∷ loops) (suc count) h = again_found loops count h.2

  jump_found : (loops : List ℕ) (t : Tree) → LoopsFound loops → AnyFound (jump_target loops t)
  jump_found loops (code.Exit count) h = exit_found loops count h
  jump_found loops (code.Again count) h = again_found loops count h
  jump_found loops (code.Set to value) h = tt
  jump_found loops (code.Address to place) h = tt
  jump_found loops (code.Copy to from) h = tt
  jump_found loops (code.Load to pointer count) h = tt
  jump_found loops (code.Store pointer from count) h = tt
  jump_found loops (code.Unary op ty to) h = tt
  jump_found loops (code.Binary op ty to left right) h = tt
  jump_found loops (code.Convert from to place) h = tt
  jump_found loops (code.BitRead to register bit) h = tt
  jump_found loops (code.BitWrite register bit from) h = tt
  jump_found loops (code.Call copy) h = tt
  jump_found loops code.Leave h = tt
  jump_found loops (code.Many parts) h = tt
  jump_found loops (code.If test size holds fails) h = tt
  jump_found loops (code.Loop body) h = tt

  goes_have : (o : Option Label) → AnyFound o → Have (goes_to o)
  goes_have None h = tt
  goes_have (Some label) h = (h, tt)

  -- ---- conditions
  abbrev FormFound : IfForm → Type 0
  FormFound (Jumps to) = Found to
  FormFound (Leaps to) = Found to
  FormFound Half = Unit {0}
  FormFound Other = Unit {0}
  FormFound Whole = Unit {0}

  form_found : (o p : Option Label) (nothing bare : Bool) → AnyFound o → AnyFound p → FormFound (form_by o p nothing bare)
  form_found (Some to) p nothing bare h k = h
  form_found None (Some to) nothing bare h k = k
  form_found None None true bare h k = tt
  form_found None None false true h k = tt
  form_found None None false false h k = tt

  short_found : (b : Bool) (o : Option Label) → AnyFound o → AnyFound (cond b o None)
  short_found true o h = h
  short_found false o h = tt

  if_found : (loops : List ℕ) (holds fails : Tree) → LoopsFound loops → FormFound (if_form loops holds fails)
  if_found loops holds fails h =
      form_found (short_jump loops holds fails) (short_jump loops fails holds) (is_nothing fails) (is_nothing holds)
      (short_found (is_nothing holds) (jump_target loops (only_of fails)) (jump_found loops (only_of fails) h)) (short_found (is_nothing fails) (jump_target loops (only_of holds)) (jump_found loops (only_of holds) h))

  jump_have : (label : Label) → Found label → Have (jump_code label)
  jump_have label h = (tt, (h, tt))

  unless_have : (label : Label) → Found label → Have (unless_code label)
  unless_have label h = (tt, (h, tt))

  if_have : (form : IfForm) (at : ℕ) (test : List Sym) (holds fails : ℕ → List Sym) → FormFound form → Have test → ((n : ℕ) → Stand (holds n) → Have (holds n)) → ((n : ℕ) → Stand (fails n) → Have (fails n))
      → Stand (if_code form at test holds fails) → Have (if_code form at test holds fails)
  if_have (Jumps to) at test holds fails f t h e s = both_targets target test (jump_code to) t (jump_have to f)
  if_have (Leaps to) at test holds fails f t h e s = both_targets target test (unless_code to) t (unless_have to f)
  if_have Half at test holds fails f t h e s =
      let head = test ++ jump_code (second_label at) in
      let body = holds (at + length head) in
      let last : Found (second_label at) = (right_found target (head ++ body) (label_code (second_label at)) s).0 in
      let front = left_found target (head ++ body) (label_code (second_label at)) s in
      both_targets target (head ++ body) (label_code (second_label at))
      (both_targets target head body (both_targets target test (jump_code (second_label at)) t (jump_have (second_label at) last)) (h (at + length head) (right_found target head body front)))
      (tt, tt)
  if_have Other at test holds fails f t h e s =
      let head = test ++ unless_code (second_label at) in
      let body = fails (at + length head) in
      let last : Found (second_label at) = (right_found target (head ++ body) (label_code (second_label at)) s).0 in
      let front = left_found target (head ++ body) (label_code (second_label at)) s in
      both_targets target (head ++ body) (label_code (second_label at))
      (both_targets target head body (both_targets target test (unless_code (second_label at)) t (unless_have (second_label at) last)) (e (at + length head) (right_found target head body front)))
      (tt, tt)
  if_have Whole at test holds fails f t h e s =
      let head = test ++ jump_code (first_label at) in
      let body = holds (at + length head) in
      let middle = head ++ body ++ goto_code (second_label at) ++ label_code (first_label at) in
      let other = fails (at + length middle) in
      let last : Found (second_label at) = (right_found target (middle ++ other) (label_code (second_label at)) s).0 in
      let front = left_found target (middle ++ other) (label_code (second_label at)) s in
      let before = left_found target middle other front in
      let first : Found (first_label at) = (right_found target (head ++ body ++ goto_code (second_label at)) (label_code (first_label at)) before).0 in
      let began = left_found target (head ++ body) (goto_code (second_label at)) (left_found target (head ++ body ++ goto_code (second_label at)) (label_code (first_label at)) before) in
      both_targets target (middle ++ other) (label_code (second_label at))
      (both_targets target middle other
      (both_targets target (head ++ body ++ goto_code (second_label at)) (label_code (first_label at))
      (both_targets target (head ++ body) (goto_code (second_label at))
      (both_targets target head body (both_targets target test (jump_code (first_label at)) t (jump_have (first_label at) first)) (h (at + length head) (right_found target head body began)))
      (last, tt))
      (tt, tt))
      (e (at + length middle) (right_found target middle other front)))
      (tt, tt)

  -- ---- loops
  turned_have : (o : Option ℕ) (short : ℕ → List Sym) (whole : List Sym) (top : Label) → Found top → ((n : ℕ) → Stand (short n) → Have (short n)) → (Stand whole → Have whole)
      → Stand (turned (option_map short o) whole top) → Have (turned (option_map short o) whole top)
  turned_have None short whole top f s w h = both_targets target whole (goto_code top) (w (left_found target whole (goto_code top) h)) (f, tt)
  turned_have (Some count) short whole top f s w h = s count h

  loop_have : (at : ℕ) (turn : List Sym) → (Found (first_label at) → Found (second_label at) → Stand turn → Have turn) → Stand (loop_code at turn) → Have (loop_code at turn)
  loop_have at turn t s =
      let last : Found (second_label at) = (right_found target (label_code (first_label at) ++ turn) (label_code (second_label at)) s).0 in
      both_targets target (label_code (first_label at) ++ turn) (label_code (second_label at))
      (both_targets target (label_code (first_label at)) turn (tt, tt) (t s.0 last (right_found target (label_code (first_label at)) turn (left_found target (label_code (first_label at) ++ turn) (label_code (second_label at)) s))))
      (tt, tt)

  write_have : (at register bit : ℕ) (from : Byte) → Stand (bit_write_code at register bit from) → Have (bit_write_code at register bit from)
  write_have at register bit from s =
      let clear : Found (second_label at) = s.1.1.1.1.0 in
      let end : Found (first_label at) = s.1.1.1.1.1.1.0 in
      (tt, (clear, (tt, (end, (tt, (tt, (tt, tt)))))))

  cut_have : (b : Bool) (xs : List Sym) → Have xs → Have (cond b [] xs)
  cut_have true xs h = tt
  cut_have false xs h = h

  module _ (limit : ℕ) (there : (copy : ℕ) → nat_lt copy limit ≡ true → IsSome (target (targets.Block (names.Copy copy)))) (wide : Given) (wide_have : (at : ℕ) (before : List Tree) (t : Tree) → Have (wide at before t)) (end : Ending) (ends : Have (leave_code end)) where
    mutual
      code_have : (loops : List ℕ) (at : ℕ) (before : List Tree) (t : Tree) → LoopsFound loops → calls_below limit t ≡ true → Stand (code_of wide end loops at before t) → Have (code_of wide end loops at before t)
      code_have loops at before (code.Many parts) l c s = parts_have loops at [] parts (length (list_of parts)) l c s
      code_have loops at before (code.If test size holds fails) l c s =
          let g = and_both (calls_below limit holds) (calls_below limit fails) c in
          if_have (if_form loops holds fails) at (test_code test size) (λ n. code_of wide end loops n [] holds) (λ n. code_of wide end loops n [] fails) (if_found loops holds fails l)
          (named_below target limit there (test_code test size) (test_calls limit test size))
          (λ n h. code_have loops n [] holds l g.0 h) (λ n h. code_have loops n [] fails l g.1 h) s
      code_have loops at before (code.Loop body) l c s =
          loop_have at (turned (option_map (λ count. first_code wide end (at ∷ loops) (at + 1) count body) (short_turn body)) (code_of wide end (at ∷ loops) (at + 1) [] body) (first_label at))
          (λ first second stand.
          turned_have (short_turn body) (λ count. first_code wide end (at ∷ loops) (at + 1) count body) (code_of wide end (at ∷ loops) (at + 1) [] body) (first_label at) first
          (λ count h. first_have (at ∷ loops) (at + 1) count body (first, second, l) c h) (λ h. code_have (at ∷ loops) (at + 1) [] body (first, second, l) c h) stand) s
      code_have loops at before (code.Set to value) l c s = named_below target limit there (set_code to value) (set_calls limit to value)
      code_have loops at before (code.Address to place) l c s = wide_have at before (code.Address to place)
      code_have loops at before (code.Copy to from) l c s = (tt, (tt, tt))
      code_have loops at before (code.Load to pointer count) l c s = wide_have at before (code.Load to pointer count)
      code_have loops at before (code.Store pointer from count) l c s = wide_have at before (code.Store pointer from count)
      code_have loops at before (code.Unary op ty to) l c s = wide_have at before (code.Unary op ty to)
      code_have loops at before (code.Binary op ty to left right) l c s = wide_have at before (code.Binary op ty to left right)
      code_have loops at before (code.Convert from to place) l c s = cut_have (is_cut from to) (wide at before (code.Convert from to place)) (wide_have at before (code.Convert from to place))
      code_have loops at before (code.BitRead to register bit) l c s = (tt, (tt, (tt, (tt, tt))))
      code_have loops at before (code.BitWrite register bit from) l c s = write_have at register bit from s
      code_have loops at before (code.Call copy) l c s = (there copy c, tt)
      code_have loops at before code.Leave l c s = ends
      code_have loops at before (code.Exit count) l c s = goes_have (jump_target loops (code.Exit count)) (jump_found loops (code.Exit count) l)
      code_have loops at before (code.Again count) l c s = goes_have (jump_target loops (code.Again count)) (jump_found loops (code.Again count) l)

      first_have : (loops : List ℕ) (at count : ℕ) (t : Tree) → LoopsFound loops → calls_below limit t ≡ true → Stand (first_code wide end loops at count t) → Have (first_code wide end loops at count t)
      first_have loops at count (code.Many parts) l c s = parts_have loops at [] parts count l c s
      first_have loops at count (code.If test size holds fails) l c s = tt
      first_have loops at count (code.Loop body) l c s = tt
      first_have loops at count (code.Set to value) l c s = tt
      first_have loops at count (code.Address to place) l c s = tt
      first_have loops at count (code.Copy to from) l c s = tt
      first_have loops at count (code.Load to pointer n) l c s = tt
      first_have loops at count (code.Store pointer from n) l c s = tt
      first_have loops at count (code.Unary op ty to) l c s = tt
      first_have loops at count (code.Binary op ty to left right) l c s = tt
      first_have loops at count (code.Convert from to place) l c s = tt
      first_have loops at count (code.BitRead to register bit) l c s = tt
      first_have loops at count (code.BitWrite register bit from) l c s = tt
      first_have loops at count (code.Call copy) l c s = tt
      first_have loops at count code.Leave l c s = tt
      first_have loops at count (code.Exit n) l c s = tt
      first_have loops at count (code.Again n) l c s = tt

      parts_have : (loops : List ℕ) (at : ℕ) (before : List Tree) (ts : Trees) (count : ℕ) → LoopsFound loops → all_below limit ts ≡ true → Stand (parts_code wide end loops at before ts count) → Have (parts_code wide end loops at before ts count)
      parts_have loops at before code.NoTree count l c s = tt
      parts_have loops at before (code.AndTree part parts) zero l c s = tt
      parts_have loops at before (code.AndTree part parts) (suc count) l c s =
          let g = and_both (calls_below limit part) (all_below limit parts) c in
          let one = code_of wide end loops at before part in
          let rest = parts_code wide end loops (at + length one) (before ++ part ∷ []) parts count in
          both_targets target one rest (code_have loops at before part l g.0 (left_found target one rest s))
          (parts_have loops (at + length one) (before ++ part ∷ []) parts count l g.1 (right_found target one rest s))

    -- In the code of a body each target is there where its labels, its ending and the copies that it calls are.
    pub body_have : (at : ℕ) (parts : List Tree) → all_below limit (trees_of parts) ≡ true → Stand (body_code wide end at parts) → Have (body_code wide end at parts)
    body_have at parts c s = parts_have [] at [] (trees_of parts) (length parts) tt c s
