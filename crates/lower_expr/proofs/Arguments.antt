-- The arguments of a call, one after the other.
use Rattle.std.proofs.Common.{◌≡◌, ℕ, true, ◌+◌, ◌<◌, ◌≤◌, List, ◌++◌, length, map, drop, get_or, sym, ap, ◌∙◌}
use Rattle.std.proofs.lemmas.List.{at_drop_more, drop_all, append-nil, append_assoc}
use Rattle.c_typed.specs.Views.{expression_of, arguments_of}
use Rattle.c_typed.specs.declared.expression.TExpr.{TExpr}
use Rattle.core_code.specs.Tree.{Tree}
use Rattle.core_puts.specs.Bytes.{beyond}
use Rattle.lower_expr.specs.Layout.{Layout, value_width}
use Rattle.lower_expr.specs.Lowering.{expr_code, arguments_code, arguments_width}

abbrev pub arguments_from : Layout → ℕ → ℕ → ℕ → List TExpr → List Tree
arguments_from l copy base before xs = arguments_code l copy base before (arguments_of (map expression_of xs))

abbrev pub width_from : Layout → ℕ → List TExpr → ℕ
width_from l before xs = arguments_width l before (arguments_of (map expression_of xs))

next_code : (l : Layout) (copy base before : ℕ) (xs : List TExpr) (i : ℕ) (x : TExpr) → i < length xs → x ≡ get_or xs i x → arguments_from l copy base before (drop i xs) ≡ expr_code l copy (beyond base before) true (expression_of x) ++ arguments_from l copy base (beyond before (value_width l (expression_of x))) (drop (i + 1) xs)
unfolding arguments_code
next_code l copy base before xs i x lt is =
    at_drop_more (λ ys. arguments_from l copy base before ys) xs i x lt
    ∙ ap (λ y. expr_code l copy (beyond base before) true (expression_of y) ++ arguments_from l copy base (beyond before (value_width l (expression_of y))) (drop (i + 1) xs)) (sym is)

pub code_goes_on : (l : Layout) (copy base before after at size : ℕ) (xs : List TExpr) (i : ℕ) (x : TExpr) (old new whole : List Tree) → i < length xs → x ≡ get_or xs i x → at ≡ beyond base before → new ≡ old ++ expr_code l copy at true (expression_of x) → size ≡ value_width l (expression_of x) → after ≡ beyond before size → old ++ arguments_from l copy base before (drop i xs) ≡ whole → new ++ arguments_from l copy base after (drop (i + 1) xs) ≡ whole
code_goes_on l copy base before after at size xs i x old new whole lt is stands made sized counted so_far =
    ap (λ ns. ns ++ arguments_from l copy base after (drop (i + 1) xs)) made
    ∙ ap (λ k. (old ++ expr_code l copy k true (expression_of x)) ++ arguments_from l copy base after (drop (i + 1) xs)) stands
    ∙ ap (λ k. (old ++ expr_code l copy (beyond base before) true (expression_of x)) ++ arguments_from l copy base k (drop (i + 1) xs)) (counted ∙ ap (beyond before) sized)
    ∙ append_assoc old (expr_code l copy (beyond base before) true (expression_of x)) (arguments_from l copy base (beyond before (value_width l (expression_of x))) (drop (i + 1) xs))
    ∙ ap (λ ys. old ++ ys) (sym (next_code l copy base before xs i x lt is))
    ∙ so_far

pub code_ends : (l : Layout) (copy base before : ℕ) (xs : List TExpr) (i : ℕ) (old whole : List Tree) → length xs ≤ i → old ++ arguments_from l copy base before (drop i xs) ≡ whole → old ≡ whole
unfolding arguments_code
code_ends l copy base before xs i old whole past so_far =
    sym (append-nil old) ∙ ap (λ ys. old ++ arguments_from l copy base before ys) (sym (drop_all i xs past)) ∙ so_far

pub width_goes_on : (l : Layout) (before after size : ℕ) (xs : List TExpr) (i : ℕ) (x : TExpr) (whole : ℕ) → i < length xs → x ≡ get_or xs i x → size ≡ value_width l (expression_of x) → after ≡ beyond before size → width_from l before (drop i xs) ≡ whole → width_from l after (drop (i + 1) xs) ≡ whole
width_goes_on l before after size xs i x whole lt is sized counted so_far =
    ap (λ k. width_from l k (drop (i + 1) xs)) (counted ∙ ap (beyond before) sized)
    ∙ ap (λ y. width_from l (beyond before (value_width l (expression_of y))) (drop (i + 1) xs)) is
    ∙ sym (at_drop_more (λ ys. width_from l before ys) xs i x lt)
    ∙ so_far

pub width_ends : (l : Layout) (before : ℕ) (xs : List TExpr) (i whole : ℕ) → length xs ≤ i → width_from l before (drop i xs) ≡ whole → before ≡ whole
width_ends l before xs i whole past so_far = ap (λ ys. width_from l before ys) (sym (drop_all i xs past)) ∙ so_far
