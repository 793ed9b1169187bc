-- In what is selected for a body, and in each routine, skips are paired.
use Rattle.std.proofs.Common.{◌≡◌, ℕ, zero, suc, ◌+◌, Bool, true, false, ◌&&◌, List, [], ◌∷◌, ◌++◌, length, Option, Some, None, refl}
use Rattle.std.specs.Prelude.{cond, option_map}
use Rattle.core_code.specs.Tree as trees
use Rattle.core_code.specs.Tree.{Tree, Trees, list_of, trees_of}
use Rattle.c_typed.specs.declared.calls.Helper.{Helper}
use Rattle.c_typed.specs.declared.calls.Helper.TheVariants.{Mul2, Mul4, Divu2, Divs2, Remu2, Rems2, Divu4, Divs4, Remu4, Rems4, Shl2, Shru2, Shrs2, Shl4, Shru4, Shrs4}
use Rattle.math_helpers.specs.Routines.{helper_code}
use Rattle.pic_world.specs.declared.Root.{Root}
use Rattle.select_code.specs.Pieces.{first_label, second_label, label_code, goto_code, jump_code, unless_code, test_code}
use Rattle.select_code.specs.Selected.{Given, IfForm, Jumps, Leaps, Half, Other, Whole, leave_code, goes_to, jump_target, if_form, if_code, turned, loop_code, short_turn, code_of, first_code, parts_code, body_code}
use Rattle.select_code.specs.Sized.{is_cut}
use Rattle.select_code.specs.declared.control.Ending.{Ending}
use Rattle.select_code.specs.declared.control.Ending.TheVariants as endings
use Rattle.sym_code.specs.declared.code.Label.{Label}
use Rattle.sym_code.specs.declared.code.Sym.{Sym}
use Rattle.program_code.specs.Close.{is_frames, works_close, all_close}
use Rattle.program_code.specs.Paired.{are_paired}
use Rattle.program_code.proofs.ListSkips.{both}
use Rattle.program_code.proofs.RowSkips.{Fine, joined, set_fine, test_fine}

goto_fine : (c : ℕ) (label : Label) → Fine c (goto_code label)
goto_fine c label = refl

jump_fine : (c : ℕ) (label : Label) → Fine c (jump_code label)
jump_fine c label = refl

unless_fine : (c : ℕ) (label : Label) → Fine c (unless_code label)
unless_fine c label = refl

leave_fine : (c : ℕ) (end : Ending) → Fine c (leave_code end)
leave_fine c endings.Halt = refl
leave_fine c endings.Restore = refl
leave_fine c endings.Return = refl

goes_fine : (c : ℕ) (o : Option Label) → Fine c (goes_to o)
goes_fine c None = refl
goes_fine c (Some label) = refl

if_fine : (c : ℕ) (form : IfForm) (at : ℕ) (test : List Sym) (holds fails : ℕ → List Sym) → Fine c test → ((n : ℕ) → Fine c (holds n)) → ((n : ℕ) → Fine c (fails n)) → Fine c (if_code form at test holds fails)
if_fine c (Jumps to) at test holds fails t h f = joined c test (jump_code to) t (jump_fine c to)
if_fine c (Leaps to) at test holds fails t h f = joined c test (unless_code to) t (unless_fine c to)
if_fine c Half at test holds fails t h f =
    let head = test ++ jump_code (second_label at) in
    joined c (head ++ holds (at + length head)) (label_code (second_label at)) (joined c head (holds (at + length head)) (joined c test (jump_code (second_label at)) t refl) (h (at + length head))) refl
if_fine c Other at test holds fails t h f =
    let head = test ++ unless_code (second_label at) in
    joined c (head ++ fails (at + length head)) (label_code (second_label at)) (joined c head (fails (at + length head)) (joined c test (unless_code (second_label at)) t refl) (f (at + length head))) refl
if_fine c Whole at test holds fails t h f =
    let head = test ++ jump_code (first_label at) in
    let middle = head ++ holds (at + length head) ++ goto_code (second_label at) ++ label_code (first_label at) in
    joined c (middle ++ fails (at + length middle)) (label_code (second_label at))
    (joined c middle (fails (at + length middle))
    (joined c (head ++ holds (at + length head) ++ goto_code (second_label at)) (label_code (first_label at))
    (joined c (head ++ holds (at + length head)) (goto_code (second_label at)) (joined c head (holds (at + length head)) (joined c test (jump_code (first_label at)) t refl) (h (at + length head))) refl) refl)
    (f (at + length middle)))
    refl

loop_fine : (c : ℕ) (at : ℕ) (turn : List Sym) → Fine c turn → Fine c (loop_code at turn)
loop_fine c at turn p = joined c (label_code (first_label at) ++ turn) (label_code (second_label at)) (joined c (label_code (first_label at)) turn refl p) refl

module _ (c : ℕ) (wide : Given) (wide_is : (at : ℕ) (before : List Tree) (t : Tree) → works_close c t ≡ true → Fine c (wide at before t)) (end : Ending) where
  cut_fine : (b : Bool) (xs : List Sym) → Fine c xs → Fine c (cond b [] xs)
  cut_fine true xs p = refl
  cut_fine false xs p = p

  turned_fine : (o : Option ℕ) (short : ℕ → List Sym) (whole : List Sym) (top : Label) → ((n : ℕ) → Fine c (short n)) → Fine c whole → Fine c (turned (option_map short o) whole top)
  turned_fine None short whole top s w = joined c whole (goto_code top) w refl
  turned_fine (Some count) short whole top s w = s count

  mutual
    code_fine : (loops : List ℕ) (at : ℕ) (before : List Tree) (t : Tree) → works_close c t ≡ true → Fine c (code_of wide end loops at before t)
    code_fine loops at before (trees.Many parts) given = parts_fine loops at [] parts (length (list_of parts)) given
    code_fine loops at before (trees.If test size holds fails) given =
        let g = both (works_close c holds) (works_close c fails) given in
        if_fine c (if_form loops holds fails) at (test_code test size) (λ n. code_of wide end loops n [] holds) (λ n. code_of wide end loops n [] fails) (test_fine c test size)
        (λ n. code_fine loops n [] holds g.0) (λ n. code_fine loops n [] fails g.1)
    code_fine loops at before (trees.Loop body) given =
        loop_fine c at (turned (option_map (λ count. first_code wide end (at ∷ loops) (at + 1) count body) (short_turn body)) (code_of wide end (at ∷ loops) (at + 1) [] body) (first_label at)) (turned_fine (short_turn body) (λ count. first_code wide end (at ∷ loops) (at + 1) count body) (code_of wide end (at ∷ loops) (at + 1) [] body) (first_label at)
        (λ count. first_fine (at ∷ loops) (at + 1) count body given) (code_fine (at ∷ loops) (at + 1) [] body given))
    code_fine loops at before (trees.Set to value) given = set_fine c to value
    code_fine loops at before (trees.Address to place) given = wide_is at before (trees.Address to place) given
    code_fine loops at before (trees.Copy to from) given = refl
    code_fine loops at before (trees.Load to pointer count) given = wide_is at before (trees.Load to pointer count) given
    code_fine loops at before (trees.Store pointer from count) given = wide_is at before (trees.Store pointer from count) given
    code_fine loops at before (trees.Unary op ty to) given = wide_is at before (trees.Unary op ty to) given
    code_fine loops at before (trees.Binary op ty to left right) given = wide_is at before (trees.Binary op ty to left right) given
    code_fine loops at before (trees.Convert from to place) given = cut_fine (is_cut from to) (wide at before (trees.Convert from to place)) (wide_is at before (trees.Convert from to place) given)
    code_fine loops at before (trees.BitRead to register bit) given = refl
    code_fine loops at before (trees.BitWrite register bit from) given = refl
    code_fine loops at before (trees.Call copy) given = refl
    code_fine loops at before trees.Leave given = leave_fine c end
    code_fine loops at before (trees.Exit count) given = goes_fine c (jump_target loops (trees.Exit count))
    code_fine loops at before (trees.Again count) given = goes_fine c (jump_target loops (trees.Again count))

    first_fine : (loops : List ℕ) (at count : ℕ) (t : Tree) → works_close c t ≡ true → Fine c (first_code wide end loops at count t)
    first_fine loops at count (trees.Many parts) given = parts_fine loops at [] parts count given
    first_fine loops at count (trees.If test size holds fails) given = refl
    first_fine loops at count (trees.Loop body) given = refl
    first_fine loops at count (trees.Set to value) given = refl
    first_fine loops at count (trees.Address to place) given = refl
    first_fine loops at count (trees.Copy to from) given = refl
    first_fine loops at count (trees.Load to pointer n) given = refl
    first_fine loops at count (trees.Store pointer from n) given = refl
    first_fine loops at count (trees.Unary op ty to) given = refl
    first_fine loops at count (trees.Binary op ty to left right) given = refl
    first_fine loops at count (trees.Convert from to place) given = refl
    first_fine loops at count (trees.BitRead to register bit) given = refl
    first_fine loops at count (trees.BitWrite register bit from) given = refl
    first_fine loops at count (trees.Call copy) given = refl
    first_fine loops at count trees.Leave given = refl
    first_fine loops at count (trees.Exit n) given = refl
    first_fine loops at count (trees.Again n) given = refl

    parts_fine : (loops : List ℕ) (at : ℕ) (before : List Tree) (ts : Trees) (count : ℕ) → all_close c ts ≡ true → Fine c (parts_code wide end loops at before ts count)
    parts_fine loops at before trees.NoTree count given = refl
    parts_fine loops at before (trees.AndTree part parts) zero given = refl
    parts_fine loops at before (trees.AndTree part parts) (suc count) given =
        let g = both (works_close c part) (all_close c parts) given in
        let code = code_of wide end loops at before part in
        joined c code (parts_code wide end loops (at + length code) (before ++ part ∷ []) parts count) (code_fine loops at before part g.0) (parts_fine loops (at + length code) (before ++ part ∷ []) parts count g.1)

  pub body_fine : (at : ℕ) (parts : List Tree) → all_close c (trees_of parts) ≡ true → Fine c (body_code wide end at parts)
  body_fine at parts given = parts_fine [] at [] (trees_of parts) (length parts) given

-- ---- routines
pub helper_paired : (h : Helper) (root : Root) (copy : ℕ) → are_paired is_frames (helper_code h root copy) ≡ true
helper_paired Mul2 root copy = refl
helper_paired Mul4 root copy = refl
helper_paired Divu2 root copy = refl
helper_paired Divs2 root copy = refl
helper_paired Remu2 root copy = refl
helper_paired Rems2 root copy = refl
helper_paired Divu4 root copy = refl
helper_paired Divs4 root copy = refl
helper_paired Remu4 root copy = refl
helper_paired Rems4 root copy = refl
helper_paired Shl2 root copy = refl
helper_paired Shru2 root copy = refl
helper_paired Shrs2 root copy = refl
helper_paired Shl4 root copy = refl
helper_paired Shru4 root copy = refl
helper_paired Shrs4 root copy = refl
