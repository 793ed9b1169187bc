-- What the instructions of a program's blocks name has an address: block by block, and whatever selects stand among them.
use Rattle.std.proofs.Common.{◌≡◌, ℕ, zero, suc, ◌+◌, ◌-◌, ◌<◌, ◌≤◌, Bool, true, false, not, if◌then◌else◌, List, [], ◌∷◌, map, length, get_or, Option, Some, None, refl, sym, ap, ◌∙◌, subst, true≢false, arith}
use Rattle.std.specs.List.{AllZip}
use Rattle.std.specs.Prelude.{nat_lt, slice_get, IsSome}
use Rattle.std.proofs.lemmas.Option.{slice_get_within, slice_get-get_or}
use Rattle.c_typed.specs.Roots.{broken_root}
use Rattle.c_typed.specs.Sound.{is_sound}
use Rattle.c_typed.specs.Trees.{Program}
use Rattle.c_typed.specs.Views.{program_of}
use Rattle.c_typed.specs.declared.calls.FnId.{FnId}
use Rattle.c_typed.specs.declared.calls.FnId.TheVariants as callees
use Rattle.c_typed.specs.declared.calls.Helper.{Helper}
use Rattle.c_typed.specs.declared.program.Typed.{Typed}
use Rattle.call_graph.specs.Copies.{IsOne}
use Rattle.call_graph.specs.Numbers.{handler_at}
use Rattle.call_graph.specs.declared.types.FnCopy.{FnCopy}
use Rattle.core_code.specs.View.{trees_in}
use Rattle.core_code.specs.declared.code.Byte.TheVariants as bytes
use Rattle.core_code.specs.declared.code.CoreProgram.{CoreProgram}
use Rattle.code_place.specs.Addresses.{frame_byte, file_address}
use Rattle.code_place.specs.Layouts.{layout_of}
use Rattle.isr_save.specs.Start.{start_code}
use Rattle.program_code.specs.Leaner.{IsLeaner}
use Rattle.program_code.proofs.LeanerBlocks.{blocks_are_leaner}
use Rattle.lean_code.specs.Rows.{Keeps, Drops, Puts, Narrows, narrowed, Clears, cleared, Reads, Tests, FlagName, tests_flag, operand_before, reads_before, Row, At, olds, puts}
use Rattle.lower_stmt.specs.Bodies.{body_code, code_of as lowered_of, body_of, bodies_of, first_bytes}
use Rattle.lower_stmt.specs.FirstBytes.{items_of}
use Rattle.lower_stmt.specs.Frames.{ground_for}
use Rattle.lower_stmt.specs.Programs.{body_for, body_in, core_of}
use Rattle.pic_map.specs.MapView.{object_of, frame_of}
use Rattle.pic_map.specs.declared.FrameLine.{FrameLine}
use Rattle.pic_map.specs.declared.Placed.{Placed}
use Rattle.pic_world.specs.declared.Root.{Root}
use Rattle.program_code.proofs.Bodies.{becomes}
use Rattle.program_code.specs.Joined.{IsJoined}
use Rattle.program_code.specs.Passed.{IsByteCode}
use Rattle.program_code.specs.Translated.{HasCalls}
use Rattle.ram_place.specs.Placement.{IsPlacing}
use Rattle.select_wide.specs.Blocks.{is_user, block_code, code_by}
use Rattle.select_wide.specs.Links.{IsBody}
use Rattle.src_rules.proofs.Starts.{sound_runs}
use Rattle.src_rules.specs.Numbers.{ProgramHasNumbers}
use Rattle.sym_code.specs.Selects.{is_select, bare}
use Rattle.sym_code.specs.declared.code.BlockName.{BlockName}
use Rattle.sym_code.specs.declared.code.Operand.{Operand}
use Rattle.sym_code.specs.declared.code.Operand.TheVariants as operands
use Rattle.sym_code.specs.declared.code.Sym.{Sym}
use Rattle.sym_code.specs.declared.code.Sym.TheVariants as syms
use Rattle.sym_code.specs.declared.code.SymBlock.{SymBlock}
use Rattle.bank_page.specs.Selected.{bare_lists}
use Rattle.flow_facts.proofs.Kept.{thinning_keeps}
use Rattle.program_code.proofs.Placed.{programs_keep_sizes}
use Rattle.program_code.proofs.Routines.{routines_keep_there}
use Rattle.program_code.proofs.Starting.{start_keeps_there}
use Rattle.program_code.proofs.There.{placed_have_addresses, placed_stand_inside}
use Rattle.program_code.proofs.StatedWords.{others_keep_there}
use Rattle.program_code.specs.Bounds.{IsCodeOf}
use Rattle.program_code.specs.Naming.{TreesLie, SymsLie}
use Rattle.program_code.specs.There.{memory_of, HasOperand, HaveOperands}
use Rattle.headline_trace.specs.Addressed.{BlocksHaveOperands, BlocksStandInside, LeanKeepsOperands, OperandsHaveAddresses, SelectsKeepOperands, MadeHaveOperands}
use Rattle.headline_trace.specs.Passed.{code_of}
use Rattle.headline_trace.proofs.Blocks.{is_of}
use Rattle.headline_trace.proofs.Bounded.{has_at}
use Rattle.headline_trace.proofs.Chosen.{root_is}
use Rattle.headline_trace.proofs.Entered.{at_is}
use Rattle.headline_trace.proofs.Laid.{is_there}
use Rattle.headline_trace.proofs.Lowered.{body_there}
use Rattle.headline_trace.proofs.Narrower.{all_lie_alike}
use Rattle.headline_trace.proofs.Statics.{some_is}

-- ---- selects
-- a select names no byte
select_has : (placed : Placed) (s : Sym) → is_select s ≡ true → HasOperand placed s
select_has placed (syms.SelectBank bit on) e = tt
select_has placed (syms.SelectPage bit to) e = tt
select_has placed (syms.Table table root) e = tt
select_has placed (syms.Label label) e = tt
select_has placed (syms.File op file into) e = absurd (cc)
select_has placed (syms.Movwf file) e = absurd (cc)
select_has placed (syms.Clrf file) e = absurd (cc)
select_has placed (syms.Bit op file bit) e = absurd (cc)
select_has placed (syms.Literal op value) e = absurd (cc)
select_has placed (syms.Plain op) e = tt
select_has placed (syms.Call to) e = tt
select_has placed (syms.Goto to) e = tt

module _ (placed : Placed) where
  bare_has : (list : List Sym) → HaveOperands placed list → HaveOperands placed (bare list)
  bare_has [] h = tt
  bare_has (s ∷ list) h = by_select (not (is_select s)) (bare_has list h.1)
    where
      by_select : (b : Bool) → HaveOperands placed (bare list) → HaveOperands placed (if b then s ∷ bare list else bare list)
      by_select true t = (h.0, t)
      by_select false t = t

  whole_has : (list : List Sym) → HaveOperands placed (bare list) → HaveOperands placed list
  whole_has [] h = tt
  whole_has (s ∷ list) h = by_select (is_select s) refl (λ t. whole_has list t) h
    where
      by_select : (b : Bool) → is_select s ≡ b → (HaveOperands placed (bare list) → HaveOperands placed list) → HaveOperands placed (if not b then s ∷ bare list else bare list) → HaveOperands placed (s ∷ list)
      by_select true e behind t = (select_has placed s e, behind t)
      by_select false e behind t = (t.0, behind t.1)

  abbrev first_list : List (List Sym) → List Sym
  first_list [] = []
  first_list (x ∷ xs) = x

  abbrev rest_lists : List (List Sym) → List (List Sym)
  rest_lists [] = []
  rest_lists (x ∷ xs) = xs

  keep : (given made : List SymBlock) → bare_lists made ≡ bare_lists given → BlocksHaveOperands placed given → BlocksHaveOperands placed made
  keep given [] same all k block is = absurd (cc)
  keep [] (m ∷ made) same all k block is = absurd (cc)
  keep (g ∷ given) (m ∷ made) same all zero block is =
      let one : bare m.list.items ≡ bare g.list.items = ap first_list same in
      subst (λ (b : SymBlock). HaveOperands placed b.list.items) (some_is m block is) (whole_has m.list.items (subst (HaveOperands placed) (sym one) (bare_has g.list.items (all 0 g refl))))
  keep (g ∷ given) (m ∷ made) same all (suc k) block is = keep given made (ap rest_lists same) (λ j b there. all (suc j) b there) k block is

pub selects_keep_operands : SelectsKeepOperands
selects_keep_operands placed given made same all = keep placed given made same all

-- ---- leaner blocks
module _ (placed : Placed) where
  narrowed_has : (s : Sym) → HasOperand placed s → HasOperand placed (narrowed s)
  narrowed_has (syms.File op file into) h = h
  narrowed_has (syms.Movwf file) h = h
  narrowed_has (syms.Clrf file) h = h
  narrowed_has (syms.Bit op file bit) h = h
  narrowed_has (syms.Literal op value) h = h
  narrowed_has (syms.Plain op) h = h
  narrowed_has (syms.Call target) h = h
  narrowed_has (syms.Goto target) h = h
  narrowed_has (syms.Label label) h = h
  narrowed_has (syms.SelectBank bit on) h = h
  narrowed_has (syms.SelectPage bit target) h = h
  narrowed_has (syms.Table table root) h = h

  cleared_has : (s : Sym) → HasOperand placed s → HasOperand placed (cleared s)
  cleared_has (syms.File op file into) h = h
  cleared_has (syms.Movwf file) h = h
  cleared_has (syms.Clrf file) h = h
  cleared_has (syms.Bit op file bit) h = h
  cleared_has (syms.Literal op value) h = h
  cleared_has (syms.Plain op) h = h
  cleared_has (syms.Call target) h = h
  cleared_has (syms.Goto target) h = h
  cleared_has (syms.Label label) h = h
  cleared_has (syms.SelectBank bit on) h = h
  cleared_has (syms.SelectPage bit target) h = h
  cleared_has (syms.Table table root) h = h

  -- a byte before one of a frame that has an address has one, too
  within : (b c : Bool) (x y : ℕ) → (b ≡ true → c ≡ true) → IsSome (if b then Some x else None) → IsSome (if c then Some y else None)
  within true true x y e h = refl
  within true false x y e h = absurd (true≢false (sym (e refl)))
  within false c x y e h = absurd (true≢false (sym h))

  lower : (a o n : ℕ) → nat_lt (a + o) 512 ≡ true → nat_lt (a + (o - n)) 512 ≡ true
  lower a o n e = grind arith

  frame_has : (line : Option FrameLine) (o n : ℕ) → IsSome (frame_byte line o) → IsSome (frame_byte line (o - n))
  frame_has None o n h = h
  frame_has (Some line) o n h = within (nat_lt (line.address + o) 512) (nat_lt (line.address + (o - n)) 512) (line.address + o) (line.address + (o - n)) (lower line.address o n) h

  operand_has : (n : ℕ) (operand : Operand) → IsSome (file_address placed operand) → IsSome (file_address placed (operand_before n operand))
  operand_has n (operands.Byte (bytes.Frame copy offset)) h = frame_has (slice_get placed.frames.items copy) offset n h
  operand_has n (operands.Byte (bytes.Static object offset)) h = h
  operand_has n (operands.Byte (bytes.Result root k)) h = h
  operand_has n (operands.Byte (bytes.Device address)) h = h
  operand_has n (operands.Register register) h = h
  operand_has n (operands.Saved cell) h = h

  read_has : (n : ℕ) (s : Sym) → HasOperand placed s → HasOperand placed (reads_before n s)
  read_has n (syms.File op file into) h = operand_has n file h
  read_has n (syms.Movwf file) h = h
  read_has n (syms.Clrf file) h = h
  read_has n (syms.Bit op file bit) h = operand_has n file h
  read_has n (syms.Literal op value) h = h
  read_has n (syms.Plain op) h = h
  read_has n (syms.Call target) h = h
  read_has n (syms.Goto target) h = h
  read_has n (syms.Label label) h = h
  read_has n (syms.SelectBank bit on) h = h
  read_has n (syms.SelectPage bit target) h = h
  read_has n (syms.Table table root) h = h

  test_has : (flag : FlagName) (turned : Bool) (s : Sym) → HasOperand placed s → HasOperand placed (tests_flag flag turned s)
  test_has flag turned (syms.File op file into) h = h
  test_has flag turned (syms.Movwf file) h = h
  test_has flag turned (syms.Clrf file) h = h
  test_has flag turned (syms.Bit op file bit) h = refl
  test_has flag turned (syms.Literal op value) h = h
  test_has flag turned (syms.Plain op) h = h
  test_has flag turned (syms.Call target) h = h
  test_has flag turned (syms.Goto target) h = h
  test_has flag turned (syms.Label label) h = h
  test_has flag turned (syms.SelectBank bit on) h = h
  test_has flag turned (syms.SelectPage bit target) h = h
  test_has flag turned (syms.Table table root) h = h

  rows_have : (rows : List Row) → HaveOperands placed (olds rows) → HaveOperands placed (puts rows)
  rows_have [] h = tt
  rows_have (At (syms.Label label) act said ∷ rows) h = (tt, rows_have rows h.1)
  rows_have (At s Keeps said ∷ rows) h = (h.0, rows_have rows h.1)
  rows_have (At s Drops said ∷ rows) h = rows_have rows h.1
  rows_have (At s (Puts op n) said ∷ rows) h = (tt, rows_have rows h.1)
  rows_have (At s Narrows said ∷ rows) h = (narrowed_has s h.0, rows_have rows h.1)
  rows_have (At s Clears said ∷ rows) h = (cleared_has s h.0, rows_have rows h.1)
  rows_have (At s (Reads n) said ∷ rows) h = (read_has n s h.0, rows_have rows h.1)
  rows_have (At s (Tests flag turned) said ∷ rows) h = (test_has flag turned s h.0, rows_have rows h.1)

  lean_have : (given lean : List SymBlock) → AllZip IsLeaner given lean → BlocksHaveOperands placed given → BlocksHaveOperands placed lean
  lean_have [] [] z all k block is = absurd (cc)
  lean_have [] (b ∷ lean) z all k block is = absurd z
  lean_have (g ∷ given) [] z all k block is = absurd z
  lean_have (g ∷ given) (b ∷ lean) z all zero block is =
      let before : HaveOperands placed (olds z.0.rows) = subst (HaveOperands placed) z.0.before (all 0 g refl) in
      subst (λ (x : SymBlock). HaveOperands placed x.list.items) (some_is b block is) (subst (HaveOperands placed) (sym z.0.after) (rows_have z.0.rows before))
  lean_have (g ∷ given) (b ∷ lean) z all (suc k) block is = lean_have given lean z.1 (λ j x there. all (suc j) x there) k block is

pub lean_keeps_operands : LeanKeepsOperands
lean_keeps_operands placed given lean z all = lean_have placed given lean z all

-- ---- the blocks of a program
module _ (typed : Typed) (copies : List FnCopy) (lowered core : CoreProgram) (given : List SymBlock) (placed : Placed) (sound : is_sound (program_of typed) ≡ true) (roots : broken_root (program_of typed) ≡ None) (numbers : ProgramHasNumbers (program_of typed))
    (bodies : map body_of lowered.bodies.items ≡ bodies_of (program_of typed) copies) (byte_code : IsByteCode lowered core) (joined : IsJoined core copies given) (has : HasCalls (program_of typed) copies)
    (placing : IsPlacing (program_of typed) copies (map object_of placed.objects.items) (map frame_of placed.frames.items)) (statics : map items_of core.statics.items ≡ first_bytes (program_of typed)) (few : length (program_of typed).statics ≤ 65535) where
  abbrev p : Program
  p = program_of typed

  start_there : (g : SymBlock) → slice_get given 0 ≡ Some g → SymsLie (memory_of p copies) g.list.items
  start_there g is =
      let same : joined.start ≡ g = some_is joined.start g (sym (ap (λ (l : List SymBlock). slice_get l 0) joined.whole) ∙ is) in
      let code : g.list.items ≡ start_code (handler_at copies) core.statics.items = ap (λ (x : SymBlock). x.list.items) (sym same) ∙ joined.exact in
      subst (SymsLie (memory_of p copies)) (sym code) (start_keeps_there p copies (handler_at copies) core.statics.items (programs_keep_sizes typed sound) statics)

  -- ---- the copy of a number
  module _ (c : ℕ) (copy : FnCopy) (there : slice_get copies c ≡ Some copy) (g : SymBlock) (code : g.list.items ≡ code_of core.bodies.items copies c copy.root copy.function) where
    user_there : (f : ℕ) → copy.function ≡ callees.User f → SymsLie (memory_of p copies) g.list.items
    unfolding core_of
    user_there f is =
        let known = (has.known.exact copy).0 (c, slice_get_within copies c copy there, at_is copies c copy copy there) in
        let below : f < length p.functions = subst (IsOne (length p.functions)) is known.one in
        let function = is_there p.functions f below in
        let body : IsBody (core_of p copies) lowered.bodies.items c = body_there p copies (sound_runs p sound roots numbers) lowered.bodies.items bodies c copy there (ap is_user is) in
        let under : body.body.root ≡ copy.root = sym body.root ∙ root_is p copies c copy there in
        let lowered_is : trees_in body.body.code.items ≡ body_code (ground_for p copies c body.body.root function.0) function.0 =
        sym body.code ∙ ap (body_in p copies c) there ∙ ap (body_for p copies c copy.root) is ∙ ap (lowered_of p copies c copy.root) function.1
        ∙ ap (λ (r : Root). body_code (ground_for p copies c r function.0) function.0) (sym under) in
        let become = becomes (TreesLie (memory_of p copies)) (all_lie_alike (memory_of p copies)) lowered core byte_code c body.body body.there in
        let selected : g.list.items ≡ block_code copies c become.body = code ∙ ap (code_of core.bodies.items copies c copy.root) is ∙ ap (code_by copies c) become.there in
        let block : IsCodeOf p copies c function.0 (block_code copies c body.body) = record {
          copy = copy;
          there = there;
          function = f;
          is_function = is;
          found = function.1;
          body = body.body;
          under = under;
          lowered = lowered_is;
          selected = refl;
          known = has.known;
          depth = has.depth;
          deep = has.exact;
        } in
        subst (SymsLie (memory_of p copies)) (sym selected)
        (others_keep_there p copies c function.0 (block_code copies c body.body) (programs_keep_sizes typed sound) few block become.body become.root become.keeps)

    helper_there : (h : Helper) → copy.function ≡ callees.Helper h → SymsLie (memory_of p copies) g.list.items
    helper_there h is =
        let routine = code ∙ ap (code_of core.bodies.items copies c copy.root) is in
        subst (SymsLie (memory_of p copies)) (sym routine) (routines_keep_there p copies c copy h copy.root there is)

    copy_there : (f : FnId) → copy.function ≡ f → SymsLie (memory_of p copies) g.list.items
    copy_there (callees.User f) is = user_there f is
    copy_there (callees.Helper h) is = helper_there h is

  pub block_there : (k : ℕ) (g : SymBlock) → slice_get given k ≡ Some g → SymsLie (memory_of p copies) g.list.items
  block_there zero g is = start_there g is
  block_there (suc k) g is =
      let o = is_of core copies given joined g (has_at joined.order k g (sym (ap (λ (l : List SymBlock). slice_get l (suc k)) joined.whole) ∙ is)) in
      let z : 0 + o.place ≡ o.place = omega arith in
      copy_there (0 + o.place) o.copy (ap (slice_get copies) z ∙ o.there) g (ap (λ (v : BlockName × List Sym). v.1) o.is) o.copy.function refl

  block_inside : BlocksStandInside placed given
  block_inside k d l =
      let g = get_or given k d in
      placed_stand_inside p copies placed g.list.items placing (block_there k g (slice_get-get_or given k d l))

  all_addressed : BlocksHaveOperands placed given × BlocksStandInside placed given
  all_addressed = (λ k g is. placed_have_addresses p copies placed g.list.items placing (block_there k g is), block_inside)

pub operands_have_addresses : OperandsHaveAddresses
operands_have_addresses typed copies lowered core given placed sound roots numbers bodies code joined has placing statics few = all_addressed typed copies lowered core given placed sound roots numbers bodies code joined has placing statics few

pub made_have_operands : MadeHaveOperands
made_have_operands typed copies core given lean whole made placed at blocks thinned has placing statics few =
    let kept = thinning_keeps placed (handler_at copies) at whole made thinned blocks.apart blocks.reaches in
    let all = operands_have_addresses typed copies blocks.lowered core given placed blocks.sound blocks.roots blocks.numbers blocks.bodies blocks.code blocks.joined has placing statics few in
    let leaner = blocks_are_leaner (layout_of placed) (handler_at copies) (core_of (program_of typed) copies).variable_bytes blocks.lent given lean blocks.leaner in
    selects_keep_operands placed lean made (kept.lists ∙ blocks.bare) (lean_keeps_operands placed given lean leaner all.0)
