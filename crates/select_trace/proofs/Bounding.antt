-- The labels of selected code are within their bounds.
use Rattle.std.proofs.Common.{◌≡◌, ℕ, zero, suc, ◌+◌, ◌*◌, true, ◌&&◌, cond, nat_eq, List, [], ◌∷◌, ◌++◌, length, Option, Some, None, option_map, refl, subst, arith}
use Rattle.core_code.specs.Tree.{Tree, Trees, Set, Address, Copy, Load, Store, Unary, Binary, Convert, BitRead, BitWrite, Call, Leave, Many, If, Loop, Exit, Again, NoTree, AndTree, list_of}
use Rattle.core_code.specs.declared.code.Byte.{Byte}
use Rattle.sym_code.specs.declared.code.Label.{Label}
use Rattle.sym_code.specs.declared.code.Sym.{Sym}
use Rattle.select_code.specs.declared.control.Ending.{Ending}
use Rattle.select_code.specs.declared.control.Ending.TheVariants as ending
use Rattle.select_code.specs.Pieces.{is_clearable, set_code, clear_code, number_code, store_code, test_code, ors_code, first_label, second_label, label_code, goto_code, jump_code, unless_code, bit_read_code}
use Rattle.select_code.specs.Selected.{Given, leave_code, jump_target, goes_to, IfForm, Jumps, Leaps, Half, Other, Whole, if_form, if_code, turned, loop_code, short_turn, code_of, first_code, parts_code, turn_code}
use Rattle.select_code.specs.Sized.{is_cut}
use Rattle.select_trace.proofs.Labels.{Bounds, lower, bounds_append, bounds_then, unlabelled, free_bounds, free_append, free_cond}

pub set_free : (to : Byte) (v : ℕ) → unlabelled (set_code to v) ≡ true
set_free to v = free_cond (nat_eq v 0 && is_clearable to) (clear_code to) (number_code v ++ store_code to) refl refl

ors_free : (test : Byte) (k : ℕ) → unlabelled (ors_code test k) ≡ true
ors_free test zero = refl
ors_free test (suc k) = free_append (ors_code test k) _ (ors_free test k) refl

pub test_free : (test : Byte) (size : ℕ) → unlabelled (test_code test size) ≡ true
test_free test zero = refl
test_free test (suc k) = ors_free test k

leave_free : (e : Ending) → unlabelled (leave_code e) ≡ true
leave_free ending.Halt = refl
leave_free ending.Restore = refl
leave_free ending.Return = refl

goes_free : (to : Option Label) → unlabelled (goes_to to) ≡ true
goes_free None = refl
goes_free (Some l) = refl

-- the code of a condition
if_bounds : (f : IfForm) (n : ℕ) (test : List Sym) (holds fails : ℕ → List Sym) → unlabelled test ≡ true → ((k : ℕ) → Bounds (2 * k) k (holds k)) → ((k : ℕ) → Bounds (2 * k) k (fails k)) → Bounds (2 * n) n (if_code f n test holds fails)
if_bounds (Jumps to) n test holds fails t h g = free_bounds (2 * n) n (test ++ jump_code to) (free_append test (jump_code to) t refl)
if_bounds (Leaps to) n test holds fails t h g = free_bounds (2 * n) n (test ++ unless_code to) (free_append test (unless_code to) t refl)
if_bounds Half n test holds fails t h g =
    let head = test ++ jump_code (second_label n) in
    let yes = head ++ holds (n + length head) in
    bounds_append (2 * n) n (n + length yes) yes (label_code (second_label n)) refl
    (bounds_then n n head (holds (n + length head)) (omega arith) (free_bounds (2 * n) n head (free_append test (jump_code (second_label n)) t refl)) (h (n + length head)))
    ((omega arith, omega arith), tt)
if_bounds Other n test holds fails t h g =
    let head = test ++ unless_code (second_label n) in
    let no = head ++ fails (n + length head) in
    bounds_append (2 * n) n (n + length no) no (label_code (second_label n)) refl
    (bounds_then n n head (fails (n + length head)) (omega arith) (free_bounds (2 * n) n head (free_append test (unless_code (second_label n)) t refl)) (g (n + length head)))
    ((omega arith, omega arith), tt)
if_bounds Whole n test holds fails t h g =
    let head = test ++ jump_code (first_label n) in
    let held = head ++ holds (n + length head) in
    let out = held ++ goto_code (second_label n) in
    let middle = out ++ label_code (first_label n) in
    let both = middle ++ fails (n + length middle) in
    bounds_append (2 * n) n (n + length both) both (label_code (second_label n)) refl
    (bounds_then n n middle (fails (n + length middle)) (omega arith)
    (bounds_append (2 * n) n (n + length out) out (label_code (first_label n)) refl
    (bounds_append (2 * n) n (n + length held) held (goto_code (second_label n)) refl
    (bounds_then n n head (holds (n + length head)) (omega arith) (free_bounds (2 * n) n head (free_append test (jump_code (first_label n)) t refl)) (h (n + length head)))
    (tt, tt))
    ((omega arith, omega arith), tt))
    (g (n + length middle)))
    ((omega arith, omega arith), tt)

pub turned_bounds : (short : Option (List Sym)) (n : ℕ) (whole : List Sym) (top : Label) → ((x : List Sym) → short ≡ Some x → Bounds (2 * n) n x) → Bounds (2 * n) n whole → Bounds (2 * n) n (turned short whole top)
turned_bounds (Some x) n whole top s w = s x refl
turned_bounds None n whole top s w = bounds_append (2 * n) n (n + length whole) whole (goto_code top) refl w (tt, tt)

loop_bounds : (n : ℕ) (turn : List Sym) → Bounds (2 * (n + 1)) (n + 1) turn → Bounds (2 * n) n (loop_code n turn)
loop_bounds n turn b =
    bounds_append (2 * n) n (n + length (label_code (first_label n) ++ turn)) (label_code (first_label n) ++ turn) (label_code (second_label n)) refl
    ((omega arith, omega arith), subst (λ k. Bounds (2 * n) k turn) (omega arith) (lower (2 * (n + 1)) (2 * n) (n + 1) turn (omega arith) b))
    ((omega arith, omega arith), tt)

mapped : (f : ℕ → List Sym) (o : Option ℕ) (x : List Sym) (P : List Sym → Type 0) → ((c : ℕ) → P (f c)) → option_map f o ≡ Some x → P x
mapped f None x P h e = absurd (cc)
mapped f (Some c) x P h e = subst P (let q : f c ≡ x = some_list (f c) x e in q) (h c)
  where
    some_list : (a b : List Sym) → Some a ≡ Some b → a ≡ b
    some_list a b e = cc

-- The code of what is given has no label.
abbrev pub Free : Given → Type 0
Free wide = (at : ℕ) (before : List Tree) (t : Tree) → unlabelled (wide at before t) ≡ true

module _ (wide : Given) (free : Free wide) (end : Ending) where
  mutual
    pub code_bounds : (loops : List ℕ) (n : ℕ) (before : List Tree) (t : Tree) → Bounds (2 * n) n (code_of wide end loops n before t)
    code_bounds loops n before (Many parts) = parts_bounds loops n [] parts (length (list_of parts))
    code_bounds loops n before (If test size holds fails) =
        if_bounds (if_form loops holds fails) n (test_code test size) (λ k. code_of wide end loops k [] holds) (λ k. code_of wide end loops k [] fails) (test_free test size)
        (λ k. code_bounds loops k [] holds) (λ k. code_bounds loops k [] fails)
    code_bounds loops n before (Loop body) =
        loop_bounds n (turn_code wide end (n ∷ loops) (n + 1) body (first_label n))
        (turned_bounds (option_map (λ count. first_code wide end (n ∷ loops) (n + 1) count body) (short_turn body)) (n + 1) (code_of wide end (n ∷ loops) (n + 1) [] body) (first_label n)
        (λ x e. mapped (λ count. first_code wide end (n ∷ loops) (n + 1) count body) (short_turn body) x (λ y. Bounds (2 * (n + 1)) (n + 1) y) (λ count. first_bounds (n ∷ loops) (n + 1) count body) e)
        (code_bounds (n ∷ loops) (n + 1) [] body))
    code_bounds loops n before (Set to v) = free_bounds (2 * n) n (set_code to v) (set_free to v)
    code_bounds loops n before (Address to place) = free_bounds (2 * n) n (wide n before (Address to place)) (free n before (Address to place))
    code_bounds loops n before (Copy to from) = (tt, (tt, tt))
    code_bounds loops n before (Load to pointer count) = free_bounds (2 * n) n (wide n before (Load to pointer count)) (free n before (Load to pointer count))
    code_bounds loops n before (Store pointer from count) = free_bounds (2 * n) n (wide n before (Store pointer from count)) (free n before (Store pointer from count))
    code_bounds loops n before (Unary op ty to) = free_bounds (2 * n) n (wide n before (Unary op ty to)) (free n before (Unary op ty to))
    code_bounds loops n before (Binary op ty to x y) = free_bounds (2 * n) n (wide n before (Binary op ty to x y)) (free n before (Binary op ty to x y))
    code_bounds loops n before (Convert from to place) =
        free_bounds (2 * n) n (cond (is_cut from to) [] (wide n before (Convert from to place))) (free_cond (is_cut from to) [] (wide n before (Convert from to place)) refl (free n before (Convert from to place)))
    code_bounds loops n before (BitRead to register bit) = free_bounds (2 * n) n (bit_read_code to register bit) refl
    code_bounds loops n before (BitWrite register bit from) = (tt, (tt, (tt, (tt, ((omega arith, omega arith), (tt, ((omega arith, omega arith), tt)))))))
    code_bounds loops n before (Call copy) = (tt, tt)
    code_bounds loops n before Leave = free_bounds (2 * n) n (leave_code end) (leave_free end)
    code_bounds loops n before (Exit count) = free_bounds (2 * n) n (goes_to (jump_target loops (Exit count))) (goes_free (jump_target loops (Exit count)))
    code_bounds loops n before (Again count) = free_bounds (2 * n) n (goes_to (jump_target loops (Again count))) (goes_free (jump_target loops (Again count)))

    pub first_bounds : (loops : List ℕ) (n count : ℕ) (t : Tree) → Bounds (2 * n) n (first_code wide end loops n count t)
    first_bounds loops n count (Many parts) = parts_bounds loops n [] parts count
    first_bounds loops n count (If a b c d) = tt
    first_bounds loops n count (Loop a) = tt
    first_bounds loops n count (Set a b) = tt
    first_bounds loops n count (Address a b) = tt
    first_bounds loops n count (Copy a b) = tt
    first_bounds loops n count (Load a b c) = tt
    first_bounds loops n count (Store a b c) = tt
    first_bounds loops n count (Unary a b c) = tt
    first_bounds loops n count (Binary a b c d e) = tt
    first_bounds loops n count (Convert a b c) = tt
    first_bounds loops n count (BitRead a b c) = tt
    first_bounds loops n count (BitWrite a b c) = tt
    first_bounds loops n count (Call a) = tt
    first_bounds loops n count Leave = tt
    first_bounds loops n count (Exit a) = tt
    first_bounds loops n count (Again a) = tt

    pub parts_bounds : (loops : List ℕ) (n : ℕ) (before : List Tree) (ts : Trees) (count : ℕ) → Bounds (2 * n) n (parts_code wide end loops n before ts count)
    parts_bounds loops n before NoTree count = tt
    parts_bounds loops n before (AndTree t ts) zero = tt
    parts_bounds loops n before (AndTree t ts) (suc count) =
        let code = code_of wide end loops n before t in
        bounds_then n n code (parts_code wide end loops (n + length code) (before ++ t ∷ []) ts count) (omega arith) (code_bounds loops n before t) (parts_bounds loops (n + length code) (before ++ t ∷ []) ts count)
