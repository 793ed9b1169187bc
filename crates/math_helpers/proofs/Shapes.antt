-- What can be read off the code of each routine.
use Rattle.std.proofs.Common.{◌≡◌, ℕ, ◌≤◌, true, List, refl, sym, ap, ◌∙◌, subst, lit≤, arith}
use Rattle.std.specs.List.{All}
use Rattle.std.proofs.lemmas.List.Elements.{All-from_recursion}
use Rattle.c_typed.specs.declared.calls.Helper.{Helper}
use Rattle.c_typed.specs.declared.calls.Helper.TheVariants.{Mul2, Mul4, Divu2, Divs2, Remu2, Rems2, Divu4, Divs4, Remu4, Rems4, Shl2, Shru2, Shrs2, Shl4, Shru4, Shrs4}
use Rattle.pic_world.specs.declared.Root.{Root}
use Rattle.sym_code.specs.declared.code.Sym.{Sym}
use Rattle.math_helpers.specs.Routines.{helper_code}
use Rattle.math_helpers.specs.Shape.{most_words, stated_words, is_closed, IsOwn, frame_size}

-- no block is larger than its stated words
pub words_fit : (h : Helper) (root : Root) (copy : ℕ) → most_words (helper_code h root copy) ≤ stated_words h
words_fit Mul2 root copy = lit≤ tt
words_fit Mul4 root copy = lit≤ tt
words_fit Divu2 root copy = lit≤ tt
words_fit Divs2 root copy = lit≤ tt
words_fit Remu2 root copy = lit≤ tt
words_fit Rems2 root copy = lit≤ tt
words_fit Divu4 root copy = lit≤ tt
words_fit Divs4 root copy = lit≤ tt
words_fit Remu4 root copy = lit≤ tt
words_fit Rems4 root copy = lit≤ tt
words_fit Shl2 root copy = lit≤ tt
words_fit Shru2 root copy = lit≤ tt
words_fit Shrs2 root copy = lit≤ tt
words_fit Shl4 root copy = lit≤ tt
words_fit Shru4 root copy = lit≤ tt
words_fit Shrs4 root copy = lit≤ tt

-- each jump stays in the block
pub code_is_closed : (h : Helper) (root : Root) (copy : ℕ) → is_closed (helper_code h root copy) ≡ true
code_is_closed Mul2 root copy = refl
code_is_closed Mul4 root copy = refl
code_is_closed Divu2 root copy = refl
code_is_closed Divs2 root copy = refl
code_is_closed Remu2 root copy = refl
code_is_closed Rems2 root copy = refl
code_is_closed Divu4 root copy = refl
code_is_closed Divs4 root copy = refl
code_is_closed Remu4 root copy = refl
code_is_closed Rems4 root copy = refl
code_is_closed Shl2 root copy = refl
code_is_closed Shru2 root copy = refl
code_is_closed Shrs2 root copy = refl
code_is_closed Shl4 root copy = refl
code_is_closed Shru4 root copy = refl
code_is_closed Shrs4 root copy = refl

-- no other byte is named
pub code_is_own : (h : Helper) (root : Root) (copy : ℕ) → All (IsOwn root copy (frame_size h)) (helper_code h root copy)
code_is_own Mul2 root copy = All-from_recursion (IsOwn root copy (frame_size Mul2)) (helper_code Mul2 root copy) (search arith)
code_is_own Mul4 root copy = All-from_recursion (IsOwn root copy (frame_size Mul4)) (helper_code Mul4 root copy) (search arith)
code_is_own Divu2 root copy = All-from_recursion (IsOwn root copy (frame_size Divu2)) (helper_code Divu2 root copy) (search arith)
code_is_own Divs2 root copy = All-from_recursion (IsOwn root copy (frame_size Divs2)) (helper_code Divs2 root copy) (search arith)
code_is_own Remu2 root copy = All-from_recursion (IsOwn root copy (frame_size Remu2)) (helper_code Remu2 root copy) (search arith)
code_is_own Rems2 root copy = All-from_recursion (IsOwn root copy (frame_size Rems2)) (helper_code Rems2 root copy) (search arith)
code_is_own Divu4 root copy = All-from_recursion (IsOwn root copy (frame_size Divu4)) (helper_code Divu4 root copy) (search arith)
code_is_own Divs4 root copy = All-from_recursion (IsOwn root copy (frame_size Divs4)) (helper_code Divs4 root copy) (search arith)
code_is_own Remu4 root copy = All-from_recursion (IsOwn root copy (frame_size Remu4)) (helper_code Remu4 root copy) (search arith)
code_is_own Rems4 root copy = All-from_recursion (IsOwn root copy (frame_size Rems4)) (helper_code Rems4 root copy) (search arith)
code_is_own Shl2 root copy = All-from_recursion (IsOwn root copy (frame_size Shl2)) (helper_code Shl2 root copy) (search arith)
code_is_own Shru2 root copy = All-from_recursion (IsOwn root copy (frame_size Shru2)) (helper_code Shru2 root copy) (search arith)
code_is_own Shrs2 root copy = All-from_recursion (IsOwn root copy (frame_size Shrs2)) (helper_code Shrs2 root copy) (search arith)
code_is_own Shl4 root copy = All-from_recursion (IsOwn root copy (frame_size Shl4)) (helper_code Shl4 root copy) (search arith)
code_is_own Shru4 root copy = All-from_recursion (IsOwn root copy (frame_size Shru4)) (helper_code Shru4 root copy) (search arith)
code_is_own Shrs4 root copy = All-from_recursion (IsOwn root copy (frame_size Shrs4)) (helper_code Shrs4 root copy) (search arith)

-- the same of a list that is the code of a routine
pub words_of : (h : Helper) (root : Root) (copy : ℕ) (list : List Sym) → list ≡ helper_code h root copy → most_words list ≤ stated_words h
words_of h root copy list is = let P : List Sym → Type 0 = λ xs. most_words xs ≤ stated_words h in subst P (sym is) (words_fit h root copy)

pub is_closed_of : (h : Helper) (root : Root) (copy : ℕ) (list : List Sym) → list ≡ helper_code h root copy → is_closed list ≡ true
is_closed_of h root copy list is = ap is_closed is ∙ code_is_closed h root copy

pub own_of : (h : Helper) (root : Root) (copy : ℕ) (list : List Sym) → list ≡ helper_code h root copy → All (IsOwn root copy (frame_size h)) list
own_of h root copy list is = let P : List Sym → Type 0 = λ xs. All (IsOwn root copy (frame_size h)) xs in subst P (sym is) (code_is_own h root copy)
