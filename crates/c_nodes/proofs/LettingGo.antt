-- The depths of choices that wait to be let go.
use Rattle.std.proofs.Common.{◌≡◌, ℕ, ◌<◌, ◌≤◌, Bool, true, false, if◌then◌else◌, List, [], ◌∷◌, ◌++◌, Some, sym, ap, ◌∙◌, arith}
use Rattle.std.specs.Option.{option_to_list}
use denote.Param.Weighed.{most, most-append}
use Rattle.c_nodes.specs.declared.expression.Assign.{out-Assign, size_is-Assign}
use Rattle.c_nodes.specs.declared.expression.Choice.{Choice, out-Choice, size_is-Choice}
use Rattle.c_nodes.specs.declared.expression.Binary.TheViews.{weight-Expr-others}
use Rattle.c_nodes.specs.declared.expression.Cond.{out-Cond, size_is-Cond}
use Rattle.c_nodes.specs.declared.expression.Expr.{Expr, out-Expr, size_is-Expr}
use Rattle.c_nodes.proofs.expression.Assign.TheLaws.{the_size as assign_size}
use Rattle.c_nodes.proofs.expression.Choice.TheLaws.{the_size}
use Rattle.c_nodes.proofs.expression.Expr.TheLaws.{the_size as expr_size}

both : (xs ys : List Choice) (n : ℕ) → most the_size xs < n → most the_size ys < n → most the_size (xs ++ ys) < n
both xs ys n h k = omega (arith, most-append the_size xs ys, h, k)

-- behind an append, and what is left where it finds no room
pub joined : (now xs ys : List Choice) (b : Bool) (n : ℕ) → now ≡ (if b then xs ++ ys else xs) → most the_size xs < n → most the_size ys < n → most the_size now < n
joined now xs ys true n e h k = rw e (both xs ys n h k)
joined now xs ys false n e h k = rw e h

pub left : (now ys : List Choice) (b : Bool) (n : ℕ) → now ≡ (if b then [] else ys) → most the_size ys < n → most the_size now < n
left now ys true n e h = rw e (omega (arith, h))
left now ys false n e h = rw e h

-- behind a pop, and what it gives
pub kept : (old now : List Choice) (x : Choice) (n : ℕ) → old ≡ now ++ option_to_list (Some x) → most the_size old < n → most the_size now < n
kept old now x n e h = omega (arith, ap (most the_size) e, most-append the_size now (x ∷ []), h)

pub last : (old now : List Choice) (x : Choice) (n : ℕ) → old ≡ now ++ option_to_list (Some x) → most the_size old < n → the_size x < n
last old now x n e h = omega (arith, ap (most the_size) e, most-append the_size now (x ∷ []), h)

most_le : {X : Type 0} (μ ν : X → ℕ) → ((x : X) → μ x ≤ ν x) → (xs : List X) → most μ xs ≤ most ν xs
most_le μ ν h [] = omega arith
most_le μ ν h (x ∷ xs) =
    let here = h x in
    let there = most_le μ ν h xs in
    omega (arith, here, there)

-- in a choice that is taken apart: the choices of its first assignment, and the other assignments
pub deeper : (c : Choice) (e : Expr) (n : ℕ) → e ≡ (out-Choice c).then.value → the_size c ≤ n → (most the_size (out-Cond (out-Assign (out-Expr e).first).value).choices.items < n) × (most (λ p. assign_size p.1) (out-Expr e).others.items < n)
deeper c e n is le =
    let whole = size_is-Choice c in
    let same = ap expr_size is in
    let parts = size_is-Expr e in
    let first = size_is-Assign (out-Expr e).first in
    let value = size_is-Cond (out-Assign (out-Expr e).first).value in
    let others : most (λ p. assign_size p.1) (out-Expr e).others.items ≤ weight-Expr-others (out-Expr e).others = most_le (λ p. assign_size p.1) _ (λ p. omega arith) (out-Expr e).others.items in
    (omega (arith, le, whole, same, parts, first, value), omega (arith, le, whole, same, parts, others))
