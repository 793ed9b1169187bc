-- What is selected for a body is plain code.
use Rattle.std.proofs.Common.{◌≡◌, ℕ, zero, suc, ◌+◌, Bool, true, false, ◌&&◌, List, [], ◌∷◌, ◌++◌, length, Option, Some, None, refl}
use Rattle.std.specs.Prelude.{cond, option_map}
use Rattle.std.proofs.lemmas.Bool.{ltb-true}
use Rattle.core_code.specs.Tree as trees
use Rattle.core_code.specs.Tree.{Tree, Trees, list_of, trees_of}
use Rattle.c_typed.specs.declared.calls.Helper.{Helper}
use Rattle.c_typed.specs.declared.calls.Helper.TheVariants.{Mul2, Mul4, Divu2, Divs2, Remu2, Rems2, Divu4, Divs4, Remu4, Rems4, Shl2, Shru2, Shrs2, Shl4, Shru4, Shrs4}
use Rattle.math_helpers.specs.Routines.{helper_code}
use Rattle.pic_world.specs.declared.Root.{Root}
use Rattle.select_code.specs.Pieces.{first_label, second_label, label_code, goto_code, jump_code, unless_code, test_code}
use Rattle.select_code.specs.Selected.{Given, IfForm, Jumps, Leaps, Half, Other, Whole, leave_code, goes_to, jump_target, if_form, if_code, turned, loop_code, short_turn, code_of, first_code, parts_code, body_code}
use Rattle.select_code.specs.Sized.{is_cut}
use Rattle.select_code.specs.declared.control.Ending.{Ending}
use Rattle.select_code.specs.declared.control.Ending.TheVariants as endings
use Rattle.sym_code.specs.declared.code.Label.{Label}
use Rattle.sym_code.specs.declared.code.Sym.{Sym}
use Rattle.headline_trace.specs.Plain.{is_given, all_given}
use Rattle.headline_trace.proofs.Rows.{Plain, joined, set_plain, test_plain}

both : (a b : Bool) → (a && b) ≡ true → (a ≡ true) × (b ≡ true)
both true b e = (refl, e)
both false b e = absurd (cc)

goto_plain : (label : Label) → Plain (goto_code label)
goto_plain label = refl

jump_plain : (label : Label) → Plain (jump_code label)
jump_plain label = refl

unless_plain : (label : Label) → Plain (unless_code label)
unless_plain label = refl

leave_plain : (end : Ending) → Plain (leave_code end)
leave_plain endings.Halt = refl
leave_plain endings.Restore = refl
leave_plain endings.Return = refl

goes_plain : (o : Option Label) → Plain (goes_to o)
goes_plain None = refl
goes_plain (Some label) = refl

if_plain : (form : IfForm) (at : ℕ) (test : List Sym) (holds fails : ℕ → List Sym) → Plain test → ((n : ℕ) → Plain (holds n)) → ((n : ℕ) → Plain (fails n)) → Plain (if_code form at test holds fails)
if_plain (Jumps to) at test holds fails t h f = joined test (jump_code to) t (jump_plain to)
if_plain (Leaps to) at test holds fails t h f = joined test (unless_code to) t (unless_plain to)
if_plain Half at test holds fails t h f =
    let head = test ++ jump_code (second_label at) in
    joined (head ++ holds (at + length head)) (label_code (second_label at)) (joined head (holds (at + length head)) (joined test (jump_code (second_label at)) t refl) (h (at + length head))) refl
if_plain Other at test holds fails t h f =
    let head = test ++ unless_code (second_label at) in
    joined (head ++ fails (at + length head)) (label_code (second_label at)) (joined head (fails (at + length head)) (joined test (unless_code (second_label at)) t refl) (f (at + length head))) refl
if_plain Whole at test holds fails t h f =
    let head = test ++ jump_code (first_label at) in
    let middle = head ++ holds (at + length head) ++ goto_code (second_label at) ++ label_code (first_label at) in
    joined (middle ++ fails (at + length middle)) (label_code (second_label at))
    (joined middle (fails (at + length middle))
    (joined (head ++ holds (at + length head) ++ goto_code (second_label at)) (label_code (first_label at))
    (joined (head ++ holds (at + length head)) (goto_code (second_label at)) (joined head (holds (at + length head)) (joined test (jump_code (first_label at)) t refl) (h (at + length head))) refl) refl)
    (f (at + length middle)))
    refl

loop_plain : (at : ℕ) (turn : List Sym) → Plain turn → Plain (loop_code at turn)
loop_plain at turn p = joined (label_code (first_label at) ++ turn) (label_code (second_label at)) (joined (label_code (first_label at)) turn refl p) refl

module _ (wide : Given) (wide_is : (at : ℕ) (before : List Tree) (t : Tree) → is_given t ≡ true → Plain (wide at before t)) (end : Ending) where
  cut_plain : (b : Bool) (xs : List Sym) → Plain xs → Plain (cond b [] xs)
  cut_plain true xs p = refl
  cut_plain false xs p = p

  turned_plain : (o : Option ℕ) (short : ℕ → List Sym) (whole : List Sym) (top : Label) → ((n : ℕ) → Plain (short n)) → Plain whole → Plain (turned (option_map short o) whole top)
  turned_plain None short whole top s w = joined whole (goto_code top) w refl
  turned_plain (Some count) short whole top s w = s count

  mutual
    code_plain : (loops : List ℕ) (at : ℕ) (before : List Tree) (t : Tree) → is_given t ≡ true → Plain (code_of wide end loops at before t)
    code_plain loops at before (trees.Many parts) given = parts_plain loops at [] parts (length (list_of parts)) given
    code_plain loops at before (trees.If test size holds fails) given =
        let g = both (is_given holds) (is_given fails) given in
        if_plain (if_form loops holds fails) at (test_code test size) (λ n. code_of wide end loops n [] holds) (λ n. code_of wide end loops n [] fails) (test_plain test size)
        (λ n. code_plain loops n [] holds g.0) (λ n. code_plain loops n [] fails g.1)
    code_plain loops at before (trees.Loop body) given =
        loop_plain at (turned (option_map (λ count. first_code wide end (at ∷ loops) (at + 1) count body) (short_turn body)) (code_of wide end (at ∷ loops) (at + 1) [] body) (first_label at)) (turned_plain (short_turn body) (λ count. first_code wide end (at ∷ loops) (at + 1) count body) (code_of wide end (at ∷ loops) (at + 1) [] body) (first_label at)
        (λ count. first_plain (at ∷ loops) (at + 1) count body given) (code_plain (at ∷ loops) (at + 1) [] body given))
    code_plain loops at before (trees.Set to value) given = set_plain to value (ltb-true value 256 given)
    code_plain loops at before (trees.Address to place) given = wide_is at before (trees.Address to place) given
    code_plain loops at before (trees.Copy to from) given = refl
    code_plain loops at before (trees.Load to pointer count) given = wide_is at before (trees.Load to pointer count) given
    code_plain loops at before (trees.Store pointer from count) given = wide_is at before (trees.Store pointer from count) given
    code_plain loops at before (trees.Unary op ty to) given = wide_is at before (trees.Unary op ty to) given
    code_plain loops at before (trees.Binary op ty to left right) given = wide_is at before (trees.Binary op ty to left right) given
    code_plain loops at before (trees.Convert from to place) given = cut_plain (is_cut from to) (wide at before (trees.Convert from to place)) (wide_is at before (trees.Convert from to place) given)
    code_plain loops at before (trees.BitRead to register bit) given = refl
    code_plain loops at before (trees.BitWrite register bit from) given = refl
    code_plain loops at before (trees.Call copy) given = refl
    code_plain loops at before trees.Leave given = leave_plain end
    code_plain loops at before (trees.Exit count) given = goes_plain (jump_target loops (trees.Exit count))
    code_plain loops at before (trees.Again count) given = goes_plain (jump_target loops (trees.Again count))

    first_plain : (loops : List ℕ) (at count : ℕ) (t : Tree) → is_given t ≡ true → Plain (first_code wide end loops at count t)
    first_plain loops at count (trees.Many parts) given = parts_plain loops at [] parts count given
    first_plain loops at count (trees.If test size holds fails) given = refl
    first_plain loops at count (trees.Loop body) given = refl
    first_plain loops at count (trees.Set to value) given = refl
    first_plain loops at count (trees.Address to place) given = refl
    first_plain loops at count (trees.Copy to from) given = refl
    first_plain loops at count (trees.Load to pointer n) given = refl
    first_plain loops at count (trees.Store pointer from n) given = refl
    first_plain loops at count (trees.Unary op ty to) given = refl
    first_plain loops at count (trees.Binary op ty to left right) given = refl
    first_plain loops at count (trees.Convert from to place) given = refl
    first_plain loops at count (trees.BitRead to register bit) given = refl
    first_plain loops at count (trees.BitWrite register bit from) given = refl
    first_plain loops at count (trees.Call copy) given = refl
    first_plain loops at count trees.Leave given = refl
    first_plain loops at count (trees.Exit n) given = refl
    first_plain loops at count (trees.Again n) given = refl

    parts_plain : (loops : List ℕ) (at : ℕ) (before : List Tree) (ts : Trees) (count : ℕ) → all_given ts ≡ true → Plain (parts_code wide end loops at before ts count)
    parts_plain loops at before trees.NoTree count given = refl
    parts_plain loops at before (trees.AndTree part parts) zero given = refl
    parts_plain loops at before (trees.AndTree part parts) (suc count) given =
        let g = both (is_given part) (all_given parts) given in
        let code = code_of wide end loops at before part in
        joined code (parts_code wide end loops (at + length code) (before ++ part ∷ []) parts count) (code_plain loops at before part g.0) (parts_plain loops (at + length code) (before ++ part ∷ []) parts count g.1)

  pub body_plain : (at : ℕ) (parts : List Tree) → all_given (trees_of parts) ≡ true → Plain (body_code wide end at parts)
  body_plain at parts given = parts_plain [] at [] (trees_of parts) (length parts) given

-- ---- routines
pub helper_plain : (h : Helper) (root : Root) (copy : ℕ) → Plain (helper_code h root copy)
helper_plain Mul2 root copy = refl
helper_plain Mul4 root copy = refl
helper_plain Divu2 root copy = refl
helper_plain Divs2 root copy = refl
helper_plain Remu2 root copy = refl
helper_plain Rems2 root copy = refl
helper_plain Divu4 root copy = refl
helper_plain Divs4 root copy = refl
helper_plain Remu4 root copy = refl
helper_plain Rems4 root copy = refl
helper_plain Shl2 root copy = refl
helper_plain Shru2 root copy = refl
helper_plain Shrs2 root copy = refl
helper_plain Shl4 root copy = refl
helper_plain Shru4 root copy = refl
helper_plain Shrs4 root copy = refl
