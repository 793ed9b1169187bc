-- The code of operations.
use Rattle.std.specs.Prelude.{ℕ, zero, suc, ◌+◌, Bool, true, false, cond, List, [], ◌∷◌, ◌++◌, length, slice_get, Option, Some, None, option_map}
use Rattle.core_code.specs.Tree.{Tree, Trees, Set, Address, Copy, Load, Store, Unary, Binary, Convert, BitRead, BitWrite, Call, Leave, Many, If, Loop, Exit, Again, NoTree, AndTree, list_of, trees_of}
use Rattle.sym_code.specs.declared.code.BlockName.{BlockName}
use Rattle.sym_code.specs.declared.code.BlockName.TheVariants as block
use Rattle.sym_code.specs.declared.code.Label.{Label}
use Rattle.sym_code.specs.declared.code.Label.TheVariants as label
use Rattle.sym_code.specs.declared.code.PlainOperation.TheVariants as plain
use Rattle.sym_code.specs.declared.code.Sym.{Sym}
use Rattle.sym_code.specs.declared.code.Sym.TheVariants as sym
use Rattle.sym_code.specs.declared.code.Target.TheVariants as target
use Rattle.select_code.specs.declared.control.Ending.{Ending}
use Rattle.select_code.specs.declared.control.Ending.TheVariants as ending
use Rattle.select_code.specs.Pieces.{set_code, copy_code, test_code, first_label, second_label, label_code, goto_code, jump_code, unless_code, bit_read_code, bit_write_code}
use Rattle.select_code.specs.Sized.{is_cut}

-- The code of what is neither byte-sized nor control: how many instructions stand before it, what stands before it in the
-- same `Many`, the operation.
abbrev pub Given : Type 0
Given = ℕ → List Tree → Tree → List Sym

abbrev pub leave_code : Ending → List Sym
leave_code ending.Halt = goto_code label.Halt
leave_code ending.Restore = goto_code label.Restore
leave_code ending.Return = sym.Plain plain.Return ∷ []

abbrev pub call_code : ℕ → List Sym
call_code copy = sym.Call (target.Block (block.Copy copy)) ∷ []

-- Where an operation goes to that does nothing else. `loops` has where the loops round it begin, the innermost one first.
abbrev pub jump_target : List ℕ → Tree → Option Label
jump_target loops (Exit count) = option_map second_label (slice_get loops count)
jump_target loops (Again count) = option_map first_label (slice_get loops count)
jump_target loops _ = None

abbrev pub goes_to : Option Label → List Sym
goes_to None = []
goes_to (Some to) = goto_code to

abbrev pub is_none : Trees → Bool
is_none NoTree = true
is_none (AndTree part parts) = false

abbrev pub is_nothing : Tree → Bool
is_nothing (Many parts) = is_none parts
is_nothing _ = false

-- the one operation of a list that has no other, and any other operation itself
abbrev pub only_of : Tree → Tree
only_of (Many (AndTree part NoTree)) = part
only_of tree = tree

-- where a condition goes to that is but a jump: the part with nothing to do, and the other one
abbrev pub short_jump : List ℕ → Tree → Tree → Option Label
short_jump loops nothing other = cond (is_nothing nothing) (jump_target loops (only_of other)) None

-- leaves the innermost loop
abbrev pub is_exit : Tree → Bool
is_exit (Exit zero) = true
is_exit _ = false

-- how many operations there are before the last one, where that leaves the innermost loop
abbrev pub short_list : List Tree → Option ℕ
short_list [] = None
short_list (part ∷ []) = cond (is_exit part) (Some 0) None
short_list (part ∷ next ∷ parts) = option_map (λ count. suc count) (short_list (next ∷ parts))

abbrev pub short_turn : Tree → Option ℕ
short_turn (Many parts) = short_list (list_of parts)
short_turn _ = None

-- What a condition comes to: but a jump, where it fails or where it holds; nothing to do where it fails, or where it holds; or
-- the whole of it.
pub data IfForm : Type 0 where
  Jumps : Label → IfForm
  Leaps : Label → IfForm
  Half : IfForm
  Other : IfForm
  Whole : IfForm

-- by whether there is nothing to do where it fails, and where it holds
abbrev pub part_form : Bool → Bool → IfForm
part_form true bare = Half
part_form false true = Other
part_form false false = Whole

-- by the jumps that it is, where it fails and where it holds, and then by its parts
abbrev pub form_by : Option Label → Option Label → Bool → Bool → IfForm
form_by (Some to) leap nothing bare = Jumps to
form_by None (Some to) nothing bare = Leaps to
form_by None None nothing bare = part_form nothing bare

abbrev pub if_form : List ℕ → Tree → Tree → IfForm
if_form loops holds fails = form_by (short_jump loops holds fails) (short_jump loops fails holds) (is_nothing fails) (is_nothing holds)

-- a condition behind so many instructions: the code of the test, and the codes of both parts behind so many instructions
abbrev pub if_code : IfForm → ℕ → List Sym → (ℕ → List Sym) → (ℕ → List Sym) → List Sym
if_code (Jumps to) at test holds fails = test ++ jump_code to
if_code (Leaps to) at test holds fails = test ++ unless_code to
if_code Half at test holds fails =
    let head = test ++ jump_code (second_label at) in
    head ++ holds (at + length head) ++ label_code (second_label at)
if_code Other at test holds fails =
    let head = test ++ unless_code (second_label at) in
    head ++ fails (at + length head) ++ label_code (second_label at)
if_code Whole at test holds fails =
    let head = test ++ jump_code (first_label at) in
    let middle = head ++ holds (at + length head) ++ goto_code (second_label at) ++ label_code (first_label at) in
    middle ++ fails (at + length middle) ++ label_code (second_label at)

-- a loop's turn: a short one, which just goes on behind the loop, or a whole one and the way back to the top
abbrev pub turned : Option (List Sym) → List Sym → Label → List Sym
turned (Some short) whole top = short
turned None whole top = whole ++ goto_code top

-- a loop behind so many instructions
abbrev pub loop_code : ℕ → List Sym → List Sym
loop_code at turn = label_code (first_label at) ++ turn ++ label_code (second_label at)

-- The code of an operation that is no list, condition or loop. What is given for wide ones, how the body ends, where the
-- loops round it begin, how many instructions stand before it, and what stands before it in the same `Many`.
abbrev pub single_code : Given → Ending → List ℕ → ℕ → List Tree → Tree → List Sym
single_code wide end loops at before (Set to value) = set_code to value
single_code wide end loops at before (Address to place) = wide at before (Address to place)
single_code wide end loops at before (Copy to from) = copy_code to from
single_code wide end loops at before (Load to pointer count) = wide at before (Load to pointer count)
single_code wide end loops at before (Store pointer from count) = wide at before (Store pointer from count)
single_code wide end loops at before (Unary op ty to) = wide at before (Unary op ty to)
single_code wide end loops at before (Binary op ty to left right) = wide at before (Binary op ty to left right)
single_code wide end loops at before (Convert from to place) = cond (is_cut from to) [] (wide at before (Convert from to place))
single_code wide end loops at before (BitRead to register bit) = bit_read_code to register bit
single_code wide end loops at before (BitWrite register bit from) = bit_write_code at register bit from
single_code wide end loops at before (Call copy) = call_code copy
single_code wide end loops at before Leave = leave_code end
single_code wide end loops at before (Exit count) = goes_to (jump_target loops (Exit count))
single_code wide end loops at before (Again count) = goes_to (jump_target loops (Again count))
single_code wide end loops at before _ = []

-- the code of an operation
abbrev mutual
  pub code_of : Given → Ending → List ℕ → ℕ → List Tree → Tree → List Sym
  code_of wide end loops at before (Many parts) = parts_code wide end loops at [] parts (length (list_of parts))
  code_of wide end loops at before (If test size holds fails) =
      if_code (if_form loops holds fails) at (test_code test size)
      (λ n. code_of wide end loops n [] holds) (λ n. code_of wide end loops n [] fails)
  code_of wide end loops at before (Loop body) =
      loop_code at (turned (option_map (λ count. first_code wide end (at ∷ loops) (at + 1) count body) (short_turn body))
      (code_of wide end (at ∷ loops) (at + 1) [] body) (first_label at))
  code_of wide end loops at before single = single_code wide end loops at before single

  -- the first operations of a `Many`
  pub first_code : Given → Ending → List ℕ → ℕ → ℕ → Tree → List Sym
  first_code wide end loops at count (Many parts) = parts_code wide end loops at [] parts count
  first_code wide end loops at count _ = []

  -- the first of some operations, one behind the other
  pub parts_code : Given → Ending → List ℕ → ℕ → List Tree → Trees → ℕ → List Sym
  parts_code wide end loops at before NoTree count = []
  parts_code wide end loops at before (AndTree part parts) zero = []
  parts_code wide end loops at before (AndTree part parts) (suc count) =
      let code = code_of wide end loops at before part in
      code ++ parts_code wide end loops (at + length code) (before ++ part ∷ []) parts count

-- a turn of the loop with this body and top
abbrev pub turn_code : Given → Ending → List ℕ → ℕ → Tree → Label → List Sym
turn_code wide end loops at body top =
    turned (option_map (λ count. first_code wide end loops at count body) (short_turn body)) (code_of wide end loops at [] body) top

-- the code of a body
abbrev pub body_code : Given → Ending → ℕ → List Tree → List Sym
body_code wide end at parts = parts_code wide end [] at [] (trees_of parts) (length parts)

-- how the body of a block ends, for all blocks but the handler's: copy 0 is main
abbrev pub ending_of : BlockName → Ending
ending_of (block.Copy zero) = ending.Halt
ending_of _ = ending.Return

-- the code of a byte-sized operation, in the block of this name, behind so many instructions
abbrev pub byte_code : BlockName → ℕ → Tree → List Sym
byte_code name at tree = code_of (λ n before wide. []) (ending_of name) [] at [] tree
