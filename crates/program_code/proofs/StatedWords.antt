-- The block of a function's copy has at most the function's stated words.
use Rattle.std.proofs.Common.{◌≡◌, ℕ, ◌+◌, ◌/◌, ◌≤◌, Bool, true, false, not, if◌then◌else◌, List, [], ◌∷◌, ◌++◌, map, length, Option, Some, option_map, slice_get, refl, sym, ap, ◌∙◌, subst, arith}
use Rattle.std.proofs.lemmas.Option.{slice_get_within}
use Rattle.c_typed.specs.Calls.{statements_calls}
use Rattle.c_typed.specs.Room.{frame_size}
use Rattle.sym_code.specs.Layout.{frame}
use Rattle.code_place.specs.Layouts.{layout_of}
use Rattle.c_typed.specs.Sound.{statements_fit}
use Rattle.c_typed.specs.Trees.{StaticTree, FunctionTree, Program}
use Rattle.c_typed.specs.Types.{type_bytes}
use Rattle.c_typed.specs.Words.{block_size, statements_words, variable_bytes}
use Rattle.c_typed.specs.declared.calls.FnId.{FnId}
use Rattle.c_typed.specs.declared.calls.FnId.TheVariants as callee
use Rattle.call_graph.specs.Numbers.{handler_at}
use Rattle.call_graph.specs.declared.types.FnCopy.{FnCopy}
use Rattle.core_code.specs.Tree as core
use Rattle.core_code.specs.Tree.{Tree, trees_of}
use Rattle.core_code.specs.View.{trees_in}
use Rattle.core_code.specs.declared.code.Body.{Body}
use Rattle.lower_expr.specs.Layout.{static_number}
use Rattle.lower_stmt.specs.Bodies.{body_code}
use Rattle.lower_stmt.specs.Frames.{ground_for, layout_for}
use Rattle.lower_stmt.specs.Ground.{Ground}
use Rattle.lower_stmt.specs.Jumps.{outside}
use Rattle.lower_stmt.specs.Statements.{stmts_code}
use Rattle.named_registers.specs.Registers.{names_register}
use Rattle.pic_world.specs.declared.Root.{Root}
use Rattle.ram_place.specs.Sizes.{frame_bytes, block_words, size_or_none}
use Rattle.select_code.specs.declared.control.Ending.{Ending}
use Rattle.select_wide.specs.Blocks.{block_code, ending_at}
use Rattle.sym_code.specs.Selects.{bare}
use Rattle.sym_code.specs.declared.code.Sym.{Sym}
use Rattle.program_code.specs.Bounds.{NamesWithin, IsProgram, IsCodeOf, BlocksAreBare, BlocksKeepWithin, WordsAreStated}
use Rattle.program_code.specs.Counting.{counted}
use Rattle.program_code.proofs.Chain.{has_none, none_first, none_later}
use Rattle.program_code.proofs.Paying.{Pays}
use Rattle.program_code.proofs.Lowered.{some_code, Takes, takes_on, takes_more}
use Rattle.program_code.proofs.Segments.{leave_takes}
use Rattle.program_code.proofs.Selecting.{selects_are_counted}
use Rattle.program_code.proofs.Statements.{statements_take}
use Rattle.program_code.specs.Naming.{Memory, HasBytes, HaveCopies, TreesLie, SymsLie}
use Rattle.program_code.specs.There.{memory_of, BlocksKeepThere}
use Rattle.program_code.proofs.Naming.{in_trees}
use Rattle.program_code.proofs.Lying.{AllLie, lie_on, trees_lie}
use Rattle.program_code.proofs.Rooms.{Keeps}
use Rattle.program_code.proofs.StatementBytes.{statements_lie}
use Rattle.program_code.proofs.Others.{calls_fit}
use Rattle.program_code.proofs.Devices.{HasRegisters, registers_fit}
use Rattle.program_code.proofs.Copied.{called_have_copies}
use Rattle.program_code.proofs.Placed.{HasFrames, HasObjects, function_keeps, objects_small, stands, base_within, helpers_roomy, all_banked}
use Rattle.program_code.proofs.There.{names_within}

-- a body's code, and its end
body_takes : (list : List FnCopy) (root : Root) (end : Ending) (p : Program) (f : FunctionTree) (g : Ground) → p.sizes ≡ g.layout.sizes → g.bytes ≡ map (variable_bytes g.layout.sizes) f.locals → statements_fit p f true false false f.body ≡ true
    → Takes list root end g.copy (4 + statements_words g.layout.sizes g.bytes f.body) (body_code g f)
body_takes list root end p f g same bytes h =
    let n = statements_words g.layout.sizes g.bytes f.body in
    takes_more list root end g.copy (n + 3) (4 + n) (body_code g f) (omega arith)
    (takes_on list root end g.copy n 3 (stmts_code g outside f.body) (core.Leave ∷ []) (statements_take list root end p f g same bytes outside true false false f.body h) (leave_takes list root end p f g))

-- a list without selects is what taking them out leaves
none_bare : (code : List Sym) → has_none code ≡ true → bare code ≡ code
none_bare [] e = refl
none_bare (s ∷ code) e = ap (λ (b : Bool). if not b then s ∷ bare code else bare code) (none_first s code e) ∙ ap (λ (l : List Sym). s ∷ l) (none_bare code (none_later s code e))

-- what is counted for all of some code
counted_all : (c n : ℕ) (code : List Sym) → ((rest : List Sym) → counted c false false (code ++ rest) ≤ n + counted c false false rest) → counted c false false code ≤ n
counted_all c n code h =
    let l = h [] in
    let e = ap (counted c false false) (append_none code) in
    omega (arith, l, e)
  where
    append_none : (xs : List Sym) → xs ++ [] ≡ xs
    append_none [] = refl
    append_none (x ∷ xs) = ap (λ l. x ∷ l) (append_none xs)

-- the code of a copy's block
module _ (p : Program) (copies : List FnCopy) (number : ℕ) (f : FunctionTree) (list : List Sym) (is : IsProgram p) (block : IsCodeOf p copies number f list) where
  abbrev root : Root
  root = block.body.root

  abbrev end : Ending
  end = ending_at (handler_at copies) number

  abbrev code : List Sym
  code = some_code copies root end number [] 0 [] (body_code (ground_for p copies number root f) f)

  code_is : list ≡ code
  code_is = block.selected ∙ ap (some_code copies root end number [] 0 []) block.lowered

  keeps : Keeps p f × (statements_fit p f true false false f.body ≡ true)
  keeps = function_keeps p block.function f is block.found

  code_pays : Pays number false false (block_size p.sizes f) false false code
  code_pays = body_takes copies root end p f (ground_for p copies number root f) refl refl keeps.1 [] 0 []

  pub all_counted : counted number false false list ≤ block_size p.sizes f
  all_counted =
      let all = counted_all number (block_size p.sizes f) code code_pays.0 in
      let same = ap (counted number false false) code_is in
      omega (arith, all, same)

  pub all_bare : bare list ≡ list
  all_bare = ap bare code_is ∙ none_bare code code_pays.1 ∙ sym code_is

  called : HaveCopies (layout_for p copies root f).copies (statements_calls f.body)
  called =
      subst (λ (r : Root). HaveCopies (layout_for p copies r f).copies (statements_calls f.body)) (sym block.under)
      (called_have_copies p copies block.depth number block.function block.copy f is.sound block.known block.deep block.there block.is_function block.found)

  -- ---- what the block names, where the frames and the static objects are there
  module _ (memory : Memory) (frames : HasFrames p copies memory) (objects : HasObjects p memory) (devices : HasRegisters p memory) where
    own : memory.frames number ≡ Some (frame_size p.sizes f)
    own = frames number block.copy block.there ∙ ap (λ (id : FnId). Some (frame_bytes p id)) block.is_function ∙ ap (λ (o : Option FunctionTree). Some (size_or_none (frame_size p.sizes) o)) block.found

    all_lie : AllLie memory (body_code (ground_for p copies number root f) f)
    all_lie =
        let g = ground_for p copies number root f in
        lie_on memory (stmts_code g outside f.body) (core.Leave ∷ [])
        (statements_lie (frame_size p.sizes f) memory p f g (stands p copies root f number memory is keeps.0 own objects) refl outside true false false f.body keeps.1 (calls_fit p copies memory root f frames (statements_calls f.body) called, registers_fit p memory block.function f devices block.found) (base_within p copies root f)) (tt, tt)

    trees_there : TreesLie memory (trees_of (body_code (ground_for p copies number root f) f))
    trees_there = trees_lie memory (body_code (ground_for p copies number root f) f) all_lie

    -- what is selected for byte code names no other bytes than that
    code_there : (ts : List Tree) → TreesLie memory (trees_of ts) → SymsLie memory (some_code copies root end number [] 0 [] ts)
    code_there ts lie = in_trees memory copies root (helpers_roomy p copies memory root frames block.copy) end [] 0 [] (trees_of ts) (length ts) lie

    code_lies : SymsLie memory code
    code_lies = code_there (body_code (ground_for p copies number root f) f) trees_there

    -- so it is with another body of this copy, which names no other bytes than the one that was lowered
    pub other_there : (body : Body) → body.root ≡ root → (TreesLie memory (trees_of (trees_in block.body.code.items)) → TreesLie memory (trees_of (trees_in body.code.items))) → SymsLie memory (block_code copies number body)
    other_there body same keeps =
        let lowered = subst (λ (ts : List Tree). TreesLie memory (trees_of ts)) (sym block.lowered) trees_there in
        subst (λ (r : Root). SymsLie memory (some_code copies r end number [] 0 [] (trees_in body.code.items))) (sym same) (code_there (trees_in body.code.items) (keeps lowered))

    pub all_there : SymsLie memory list
    all_there = subst (SymsLie memory) (sym code_is) code_lies

    pub all_within : NamesWithin number (frame_size p.sizes f) list
    all_within = names_within number (frame_size p.sizes f) memory own list all_there

-- ---- what is there of a program
frames_there : (p : Program) (copies : List FnCopy) → HasFrames p copies (memory_of p copies)
frames_there p copies k copy there = ap (option_map (λ (c : FnCopy). frame_bytes p c.function)) there

static_is : (k : ℕ) → k ≤ 65535 → static_number k ≡ k
unfolding static_number
static_is k l = omega (arith, l)

objects_there : (p : Program) (copies : List FnCopy) → length p.statics ≤ 65535 → HasObjects p (memory_of p copies)
objects_there p copies few k s there =
    let inside = slice_get_within p.statics k s there in
    let number = static_is k (omega (arith, few, inside)) in
    let held = ap (slice_get p.statics) number ∙ there in
    subst (λ (o : Option StaticTree). HasBytes (option_map (λ (x : StaticTree). type_bytes p.sizes x.ty.ty) o) (type_bytes p.sizes s.ty.ty)) (sym held) (omega arith)

devices_there : (p : Program) (address : ℕ) → names_register p address ≡ true → names_register p address ≡ true
devices_there p address named = named

-- the same without the objects' numbers: each number is one of an object that is large enough
large_memory : Program → List FnCopy → Memory
large_memory p copies = record { frames = (memory_of p copies).frames; objects = λ k. Some 65535; devices = (memory_of p copies).devices }

-- the bytes of the copy's frame, whatever the numbers of static objects
kept_within : BlocksKeepWithin
unfolding large_memory
kept_within p copies number f given is block = all_within p copies number f given.list.items is block (large_memory p copies) (frames_there p copies) (λ k s there. objects_small p is k s there) (devices_there p)

pub blocks_are_bare : BlocksAreBare
blocks_are_bare p copies number f given is block = all_bare p copies number f given.list.items is block

pub blocks_keep_within : BlocksKeepWithin
blocks_keep_within p copies number f given is block = kept_within p copies number f given is block

pub blocks_keep_there : BlocksKeepThere
blocks_keep_there p copies number f given is few block = all_there p copies number f given.list.items is block (memory_of p copies) (frames_there p copies) (objects_there p copies few) (devices_there p)

-- The same of what is selected for another body of the copy, which names no other bytes.
pub others_keep_there : (p : Program) (copies : List FnCopy) (number : ℕ) (f : FunctionTree) (list : List Sym) → IsProgram p → length p.statics ≤ 65535 → (block : IsCodeOf p copies number f list) → (body : Body) → body.root ≡ block.body.root
    → (TreesLie (memory_of p copies) (trees_of (trees_in block.body.code.items)) → TreesLie (memory_of p copies) (trees_of (trees_in body.code.items))) → SymsLie (memory_of p copies) (block_code copies number body)
others_keep_there p copies number f list is few block body same keeps = other_there p copies number f list is block (memory_of p copies) (frames_there p copies) (objects_there p copies few) (devices_there p) body same keeps

pub words_are_stated : WordsAreStated
words_are_stated p copies placed number f given made is block exact frame_is =
    let all = all_counted p copies number f given.list.items is block in
    let none = all_bare p copies number f given.list.items is block in
    let banked = all_banked p placed number f frame_is given.list.items (kept_within p copies number f given is block) in
    let few = selects_are_counted placed given made number ((frame (layout_of placed) number).address / 128) exact none banked in
    let stated : block_words p (callee.User block.function) ≡ block_size p.sizes f = ap (size_or_none (block_size p.sizes)) block.found in
    omega (arith, all, few, stated)
