-- Each device register that an instruction of a program's blocks names is one that the program names: in the blocks that are joined, in
-- leaner ones, and in what is left of them with their selects.
use Rattle.std.proofs.Common.{◌≡◌, ℕ, zero, suc, ◌≤◌, Bool, true, false, not, if◌then◌else◌, List, [], ◌∷◌, length, map, Some, slice_get, refl, sym, ap, ◌∙◌, subst, arith}
use Rattle.std.specs.List.{AllZip}
use Rattle.std.proofs.lemmas.Option.{same_Some}
use Rattle.c_typed.specs.Trees.{Program}
use Rattle.c_typed.specs.Views.{program_of}
use Rattle.call_graph.specs.Numbers.{handler_at}
use Rattle.call_graph.specs.declared.types.FnCopy.{FnCopy}
use Rattle.chip_trace.specs.Keeping.{device_in}
use Rattle.code_place.specs.Layouts.{layout_of}
use Rattle.core_code.specs.declared.code.Byte.TheVariants as bytes
use Rattle.core_code.specs.declared.code.CoreProgram.{CoreProgram}
use Rattle.flow_facts.proofs.Kept.{thinning_keeps}
use Rattle.bank_page.specs.Selected.{bare_lists}
use Rattle.lean_code.specs.Rows.{Keeps, Drops, Puts, Narrows, narrowed, Clears, cleared, Reads, Tests, FlagName, tests_flag, operand_before, reads_before, Row, At, olds, puts}
use Rattle.lower_stmt.specs.Bodies.{first_bytes}
use Rattle.lower_stmt.specs.FirstBytes.{items_of}
use Rattle.lower_stmt.specs.Programs.{core_of}
use Rattle.named_registers.specs.Registers.{names_register}
use Rattle.pic_map.specs.MapContent.{MapContent}
use Rattle.pic_map.specs.MapView.{object_of, frame_of}
use Rattle.pic_map.specs.declared.Placed.{Placed}
use Rattle.program_code.proofs.LeanerBlocks.{blocks_are_leaner}
use Rattle.program_code.specs.Leaner.{IsLeaner}
use Rattle.program_code.specs.Naming.{Memory, OperandLies, SymLies, SymsLie}
use Rattle.program_code.specs.Passed.{AreBlocks}
use Rattle.program_code.specs.There.{memory_of}
use Rattle.program_code.specs.Translated.{HasCalls, IsTranslation, IsTranslated}
use Rattle.ram_place.specs.Placement.{IsPlacing}
use Rattle.sym_code.specs.Programs.{same_name, block_in}
use Rattle.sym_code.specs.Selects.{is_select, bare}
use Rattle.sym_code.specs.declared.code.BlockName.{BlockName}
use Rattle.sym_code.specs.declared.code.Operand.{Operand}
use Rattle.sym_code.specs.declared.code.Operand.TheVariants as operands
use Rattle.sym_code.specs.declared.code.Sym.{Sym}
use Rattle.sym_code.specs.declared.code.Sym.TheVariants as syms
use Rattle.sym_code.specs.declared.code.SymBlock.{SymBlock}
use Rattle.headline_trace.specs.Registered.{NamesOnly, BlocksNameOnly, MadeNameRegisters, CodeNamesRegisters}
use Rattle.headline_trace.proofs.Addressed.{block_there}
use Rattle.headline_trace.proofs.Statics.{some_is}

-- ---- one instruction
module _ (memory : Memory) where
  operand_named : (x : Operand) → OperandLies memory x → (address : ℕ) → device_in x ≡ Some address → memory.devices address ≡ true
  operand_named (operands.Byte (bytes.Device a)) h address e = subst (λ (n : ℕ). memory.devices n ≡ true) (same_Some a address e) (h.2 (omega arith))
  operand_named (operands.Byte (bytes.Frame copy k)) h address e = absurd (cc)
  operand_named (operands.Byte (bytes.Static object k)) h address e = absurd (cc)
  operand_named (operands.Byte (bytes.Result r k)) h address e = absurd (cc)
  operand_named (operands.Register register) h address e = absurd (cc)
  operand_named (operands.Saved cell) h address e = absurd (cc)

  sym_named : (s : Sym) → SymLies memory s → NamesOnly memory.devices s
  sym_named (syms.File op file into) h address e = operand_named file h address e
  sym_named (syms.Movwf file) h address e = operand_named file h address e
  sym_named (syms.Clrf file) h address e = operand_named file h address e
  sym_named (syms.Bit op file bit) h address e = operand_named file h address e
  sym_named (syms.Label label) h address e = absurd (cc)
  sym_named (syms.SelectBank bit on) h address e = absurd (cc)
  sym_named (syms.SelectPage bit to) h address e = absurd (cc)
  sym_named (syms.Table table root) h address e = absurd (cc)
  sym_named (syms.Literal op value) h address e = absurd (cc)
  sym_named (syms.Plain op) h address e = absurd (cc)
  sym_named (syms.Call to) h address e = absurd (cc)
  sym_named (syms.Goto to) h address e = absurd (cc)

module _ (named : ℕ → Bool) where
  abbrev AllName : List Sym → Type 0
  AllName [] = Unit {0}
  AllName (s ∷ list) = NamesOnly named s × AllName list

  at_index : (list : List Sym) → AllName list → (i : ℕ) (s : Sym) → slice_get list i ≡ Some s → NamesOnly named s
  at_index [] h i s is = absurd (cc)
  at_index (x ∷ list) h zero s is = subst (NamesOnly named) (same_Some x s is) h.0
  at_index (x ∷ list) h (suc i) s is = at_index list h.1 i s is

  -- ---- selects
  select_names : (s : Sym) → is_select s ≡ true → NamesOnly named s
  select_names (syms.SelectBank bit on) e address q = absurd (cc)
  select_names (syms.SelectPage bit to) e address q = absurd (cc)
  select_names (syms.Table table root) e address q = absurd (cc)
  select_names (syms.Label label) e address q = absurd (cc)
  select_names (syms.File op file into) e address q = absurd (cc)
  select_names (syms.Movwf file) e address q = absurd (cc)
  select_names (syms.Clrf file) e address q = absurd (cc)
  select_names (syms.Bit op file bit) e address q = absurd (cc)
  select_names (syms.Literal op value) e address q = absurd (cc)
  select_names (syms.Plain op) e address q = absurd (cc)
  select_names (syms.Call to) e address q = absurd (cc)
  select_names (syms.Goto to) e address q = absurd (cc)

  bare_names : (list : List Sym) → AllName list → AllName (bare list)
  bare_names [] h = tt
  bare_names (s ∷ list) h = by_select (not (is_select s)) (bare_names list h.1)
    where
      by_select : (b : Bool) → AllName (bare list) → AllName (if b then s ∷ bare list else bare list)
      by_select true t = (h.0, t)
      by_select false t = t

  whole_names : (list : List Sym) → AllName (bare list) → AllName list
  whole_names [] h = tt
  whole_names (s ∷ list) h = by_select (is_select s) refl (λ t. whole_names list t) h
    where
      by_select : (b : Bool) → is_select s ≡ b → (AllName (bare list) → AllName list) → AllName (if not b then s ∷ bare list else bare list) → AllName (s ∷ list)
      by_select true e behind t = (select_names s e, behind t)
      by_select false e behind t = (t.0, behind t.1)

  -- ---- leaner code
  before_names : (n : ℕ) (x : Operand) → device_in (operand_before n x) ≡ device_in x
  before_names n (operands.Byte (bytes.Frame copy offset)) = refl
  before_names n (operands.Byte (bytes.Static object offset)) = refl
  before_names n (operands.Byte (bytes.Result root k)) = refl
  before_names n (operands.Byte (bytes.Device address)) = refl
  before_names n (operands.Register register) = refl
  before_names n (operands.Saved cell) = refl

  narrowed_names : (s : Sym) → NamesOnly named s → NamesOnly named (narrowed s)
  narrowed_names (syms.File op file into) h = h
  narrowed_names (syms.Movwf file) h = h
  narrowed_names (syms.Clrf file) h = h
  narrowed_names (syms.Bit op file bit) h = h
  narrowed_names (syms.Literal op value) h = h
  narrowed_names (syms.Plain op) h = h
  narrowed_names (syms.Call target) h = h
  narrowed_names (syms.Goto target) h = h
  narrowed_names (syms.Label label) h = h
  narrowed_names (syms.SelectBank bit on) h = h
  narrowed_names (syms.SelectPage bit target) h = h
  narrowed_names (syms.Table table root) h = h

  cleared_names : (s : Sym) → NamesOnly named s → NamesOnly named (cleared s)
  cleared_names (syms.File op file into) h = h
  cleared_names (syms.Movwf file) h = h
  cleared_names (syms.Clrf file) h = h
  cleared_names (syms.Bit op file bit) h = h
  cleared_names (syms.Literal op value) h = h
  cleared_names (syms.Plain op) h = h
  cleared_names (syms.Call target) h = h
  cleared_names (syms.Goto target) h = h
  cleared_names (syms.Label label) h = h
  cleared_names (syms.SelectBank bit on) h = h
  cleared_names (syms.SelectPage bit target) h = h
  cleared_names (syms.Table table root) h = h

  read_names : (n : ℕ) (s : Sym) → NamesOnly named s → NamesOnly named (reads_before n s)
  read_names n (syms.File op file into) h address e = h address (sym (before_names n file) ∙ e)
  read_names n (syms.Movwf file) h address e = h address e
  read_names n (syms.Clrf file) h address e = h address e
  read_names n (syms.Bit op file bit) h address e = h address (sym (before_names n file) ∙ e)
  read_names n (syms.Literal op value) h address e = h address e
  read_names n (syms.Plain op) h address e = h address e
  read_names n (syms.Call target) h address e = h address e
  read_names n (syms.Goto target) h address e = h address e
  read_names n (syms.Label label) h address e = h address e
  read_names n (syms.SelectBank bit on) h address e = h address e
  read_names n (syms.SelectPage bit target) h address e = h address e
  read_names n (syms.Table table root) h address e = h address e

  test_names : (flag : FlagName) (turned : Bool) (s : Sym) → NamesOnly named s → NamesOnly named (tests_flag flag turned s)
  test_names flag turned (syms.File op file into) h address e = h address e
  test_names flag turned (syms.Movwf file) h address e = h address e
  test_names flag turned (syms.Clrf file) h address e = h address e
  test_names flag turned (syms.Bit op file bit) h address e = absurd (cc)
  test_names flag turned (syms.Literal op value) h address e = h address e
  test_names flag turned (syms.Plain op) h address e = h address e
  test_names flag turned (syms.Call target) h address e = h address e
  test_names flag turned (syms.Goto target) h address e = h address e
  test_names flag turned (syms.Label label) h address e = h address e
  test_names flag turned (syms.SelectBank bit on) h address e = h address e
  test_names flag turned (syms.SelectPage bit target) h address e = h address e
  test_names flag turned (syms.Table table root) h address e = h address e

  rows_name : (rows : List Row) → AllName (olds rows) → AllName (puts rows)
  rows_name [] h = tt
  rows_name (At (syms.Label label) act said ∷ rows) h = (h.0, rows_name rows h.1)
  rows_name (At s Keeps said ∷ rows) h = (h.0, rows_name rows h.1)
  rows_name (At s Drops said ∷ rows) h = rows_name rows h.1
  rows_name (At s (Puts op n) said ∷ rows) h = ((λ address e. absurd (cc)), rows_name rows h.1)
  rows_name (At s Narrows said ∷ rows) h = (narrowed_names s h.0, rows_name rows h.1)
  rows_name (At s Clears said ∷ rows) h = (cleared_names s h.0, rows_name rows h.1)
  rows_name (At s (Reads n) said ∷ rows) h = (read_names n s h.0, rows_name rows h.1)
  rows_name (At s (Tests flag turned) said ∷ rows) h = (test_names flag turned s h.0, rows_name rows h.1)

  -- ---- blocks
  abbrev BlocksName : List SymBlock → Type 0
  BlocksName blocks = (k : ℕ) (block : SymBlock) → slice_get blocks k ≡ Some block → AllName block.list.items

  lean_name : (given lean : List SymBlock) → AllZip IsLeaner given lean → BlocksName given → BlocksName lean
  lean_name [] [] z all k block is = absurd (cc)
  lean_name [] (b ∷ lean) z all k block is = absurd z
  lean_name (g ∷ given) [] z all k block is = absurd z
  lean_name (g ∷ given) (b ∷ lean) z all zero block is =
      let before : AllName (olds z.0.rows) = subst AllName z.0.before (all 0 g refl) in
      subst (λ (x : SymBlock). AllName x.list.items) (some_is b block is) (subst AllName (sym z.0.after) (rows_name z.0.rows before))
  lean_name (g ∷ given) (b ∷ lean) z all (suc k) block is = lean_name given lean z.1 (λ j x there. all (suc j) x there) k block is

  abbrev first_list : List (List Sym) → List Sym
  first_list [] = []
  first_list (x ∷ xs) = x

  abbrev rest_lists : List (List Sym) → List (List Sym)
  rest_lists [] = []
  rest_lists (x ∷ xs) = xs

  selects_name : (given made : List SymBlock) → bare_lists made ≡ bare_lists given → BlocksName given → BlocksName made
  selects_name given [] same all k block is = absurd (cc)
  selects_name [] (m ∷ made) same all k block is = absurd (cc)
  selects_name (g ∷ given) (m ∷ made) same all zero block is =
      let one : bare m.list.items ≡ bare g.list.items = ap first_list same in
      subst (λ (b : SymBlock). AllName b.list.items) (some_is m block is) (whole_names m.list.items (subst AllName (sym one) (bare_names g.list.items (all 0 g refl))))
  selects_name (g ∷ given) (m ∷ made) same all (suc k) block is = selects_name given made (ap rest_lists same) (λ j b there. all (suc j) b there) k block is

all_named : (memory : Memory) (list : List Sym) → SymsLie memory list → AllName memory.devices list
all_named memory [] h = tt
all_named memory (s ∷ list) h = (sym_named memory s h.0, all_named memory list h.1)

-- ---- what the passes make
pub made_name_registers : MadeNameRegisters
made_name_registers typed copies core given lean whole made placed at blocks thinned has placing statics few k block is =
    let p = program_of typed in
    let named = names_register p in
    let kept = thinning_keeps placed (handler_at copies) at whole made thinned blocks.apart blocks.reaches in
    let leaner = blocks_are_leaner (layout_of placed) (handler_at copies) (core_of p copies).variable_bytes blocks.lent given lean blocks.leaner in
    let all : BlocksName named given = λ j g there. all_named (memory_of p copies) g.list.items (block_there typed copies blocks.lowered core given placed blocks.sound blocks.roots blocks.numbers blocks.bodies blocks.code blocks.joined has placing statics few j g there) in
    at_index named block.list.items (selects_name named lean made (kept.lists ∙ blocks.bare) (lean_name named given lean leaner all) k block is)

-- ---- the code that blocks make
named_at : (named : ℕ → Bool) (blocks : List SymBlock) (name : BlockName) → BlocksNameOnly named blocks → (i : ℕ) (s : Sym) → slice_get (block_in blocks name) i ≡ Some s → NamesOnly named s
named_at named [] name all i s is = absurd (cc)
named_at named (b ∷ blocks) name all i s is = by (same_name b.name name) (λ q. named_at named blocks name (λ k block there. all (suc k) block there) i s q) is
  where
    by : (here : Bool) → (slice_get (block_in blocks name) i ≡ Some s → NamesOnly named s) → slice_get (if here then b.list.items else block_in blocks name) i ≡ Some s → NamesOnly named s
    by true more q = all 0 b refl i s q
    by false more q = more q

blocks_name : (p : Program) (copies : List FnCopy) (core : CoreProgram) (given made : List SymBlock) (placed : Placed) (at image : List ℕ) (content : MapContent) → IsTranslation p copies core given made placed at image content
    → BlocksNameOnly (names_register p) made
blocks_name p copies core given made placed at image content is =
    let of_typed = subst (λ (q : Program). AreBlocks q copies core given is.passed.lean is.passed.whole placed) is.same is.passed.blocks in
    let calls = subst (λ (q : Program). HasCalls q copies) is.same is.calls in
    let placing = subst (λ (q : Program). IsPlacing q copies (map object_of placed.objects.items) (map frame_of placed.frames.items)) is.same is.spread.placing in
    let statics = subst (λ (q : Program). map items_of core.statics.items ≡ first_bytes q) is.same is.written.statics in
    let few = subst (λ (q : Program). length q.statics ≤ 65535) is.same is.few in
    subst (λ (q : Program). BlocksNameOnly (names_register q) made) (sym is.same)
    (made_name_registers is.typed copies core given is.passed.lean is.passed.whole made placed at of_typed is.passed.thinned calls placing statics few)

pub code_names_registers : CodeNamesRegisters
code_names_registers p copies core given made placed at image content is handler layout address n =
    named_at (names_register p) made n.at.block (blocks_name p copies core given made placed at image content is) n.at.index n.word n.here address n.named

-- of all that the passes make together
pub translations_name : (p : Program) (image : List ℕ) (content : MapContent) (made : IsTranslated p image content) → BlocksNameOnly (names_register p) made.made
translations_name p image content made = blocks_name p made.copies made.core made.given made.made made.placed made.at image content made.is
