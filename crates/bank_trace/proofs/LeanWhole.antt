-- The bounds of the code that is made, over the given code.
use Rattle.std.proofs.Common.{arith}
use Rattle.sym_code.specs.Layout.{frame}
use Rattle.bank_trace.specs.LeanPrices.{LeanIsDear, LeanIsPriced}
use Rattle.bank_trace.proofs.LeanStretches.{stretch}

pub lean_is_dear : LeanIsDear
lean_is_dear l price rows steady dear = record {
  each = λ n part is straight.
      let h = stretch n price rows part steady is straight in
      let sum = h.sum in
      let most = h.most in
      let there = dear.each h.at h.made h.taken h.straight in
      omega arith;
  near = λ n part is straight c near.
      let h = stretch n price rows part steady is straight in
      let sum = h.sum in
      let few = h.few in
      let there = dear.near h.at h.made h.taken h.straight c (h.near c (frame l c).size near) in
      omega arith;
}

pub lean_is_priced : LeanIsPriced
lean_is_priced price rows steady priced = λ n part is straight.
    let h = stretch n price rows part steady is straight in
    let sum = h.sum in
    let most = h.routine in
    let there = priced h.at h.made h.taken h.straight in
    omega arith
