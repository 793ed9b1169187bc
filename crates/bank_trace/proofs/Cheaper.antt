-- Where each instruction costs no more, what is within a bound stays so.
use Rattle.std.proofs.Common.{◌≡◌, ℕ, ◌+◌, ◌≤◌, true, List, [], ◌∷◌, arith}
use Rattle.sym_code.specs.Layout.{DataLayout}
use Rattle.sym_code.specs.declared.code.Sym.{Sym}
use Rattle.math_helpers.specs.Shape.{sum_from, ArePriced}
use Rattle.select_wide.specs.Links.{AreDear}
use Rattle.bank_trace.specs.SelectPrices.{CheaperIsDear, CheaperIsPriced}

sum_less : (price less : ℕ → ℕ) → ((k : ℕ) → less k ≤ price k) → (n : ℕ) (part : List Sym) → sum_from less n part ≤ sum_from price n part
sum_less price less fewer n [] = omega arith
sum_less price less fewer n (s ∷ part) =
    let here = fewer n in
    let later = sum_less price less fewer (n + 1) part in
    omega (arith, here, later)

pub cheaper_is_dear : CheaperIsDear
cheaper_is_dear l price less list fewer dear = record {
  each = λ n part there straight. let a = sum_less price less fewer n part in let b = dear.each n part there straight in omega (arith, a, b);
  near = λ n part there straight c are_near. let a = sum_less price less fewer n part in let b = dear.near n part there straight c are_near in omega (arith, a, b);
}

pub cheaper_is_priced : CheaperIsPriced
cheaper_is_priced price less list fewer priced = λ n part there straight. let a = sum_less price less fewer n part in let b = priced n part there straight in omega (arith, a, b)
