-- A program has few copies, since each block has a word and they stand one behind the other in program memory.
use Rattle.std.proofs.Common.{◌≡◌, ℕ, zero, suc, ◌+◌, ◌-◌, ◌^◌, ◌<◌, ◌≤◌, inl, inr, List, map, length, ap, arith}
use Rattle.std.specs.Prelude.{slice_index, slice_index_or}
use Rattle.std.proofs.Math.Nat.{min-eq_left, min-eq_right}
use Rattle.std.proofs.lemmas.Bool.{cases_lt}
use Rattle.std.proofs.lemmas.List.{get_or-map, length-map}
use Rattle.std.proofs.lemmas.List.Sorted.{Contains-permutation, IsPermutation-sym, length_permutation}
use Rattle.c_typed.specs.Nodes.{capped}
use Rattle.c_typed.specs.Trees.{Program}
use Rattle.c_typed.specs.Words.{block_size, start_size, statements_words, variable_bytes}
use Rattle.c_typed.specs.declared.calls.FnId.{FnId}
use Rattle.c_typed.specs.declared.calls.FnId.TheVariants as callees
use Rattle.c_typed.specs.declared.calls.Helper.{Helper}
use Rattle.c_typed.specs.declared.calls.Helper.TheVariants.{Mul2, Mul4, Divu2, Divs2, Remu2, Rems2, Divu4, Divs4, Remu4, Rems4, Shl2, Shru2, Shrs2, Shl4, Shru4, Shrs4}
use Rattle.call_graph.specs.Copies.{AreCopies, IsOne}
use Rattle.call_graph.specs.declared.types.FnCopy.{FnCopy}
use Rattle.code_place.proofs.Placing.{one_each, in_order_of}
use Rattle.code_place.specs.Pages.{addresses}
use Rattle.pic_world.specs.declared.Root.TheVariants.{Main}
use Rattle.program_code.specs.Stated.{copy_words, sizes, IsPaged}
use Rattle.ram_place.specs.Helpers as helpers
use Rattle.ram_place.specs.Sizes.{size_or_none, block_words}
use Rattle.headline_trace.specs.Bounded.{CopiesAreFew}
use Rattle.headline_trace.proofs.Entered.{at_is, is_at}
use Rattle.headline_trace.proofs.Laid.{is_there}

-- ---- each block has a word
capped_some : (n : ℕ) → 0 < n → 0 < capped n
capped_some n lt = elim (cases_lt (2 ^ 64 - 1) n) [
  | inl over ↦ (let e = min-eq_right {n = 2 ^ 64 - 1} {m = n} (omega (arith, over)) in omega (arith, e))
  | inr under ↦ (let e = min-eq_left {n = n} {m = 2 ^ 64 - 1} under in omega (arith, e, lt))
]

helper_some : (h : Helper) → 0 < helpers.words h
helper_some Mul2 = omega arith
helper_some Mul4 = omega arith
helper_some Divu2 = omega arith
helper_some Divs2 = omega arith
helper_some Remu2 = omega arith
helper_some Rems2 = omega arith
helper_some Divu4 = omega arith
helper_some Divs4 = omega arith
helper_some Remu4 = omega arith
helper_some Rems4 = omega arith
helper_some Shl2 = omega arith
helper_some Shru2 = omega arith
helper_some Shrs2 = omega arith
helper_some Shl4 = omega arith
helper_some Shru4 = omega arith
helper_some Shrs4 = omega arith

block_some : (p : Program) (f : FnId) → IsOne (length p.functions) f → 0 < block_words p f
block_some p (callees.User number) below =
    let f = is_there p.functions number below in
    let size : block_words p (callees.User number) ≡ 4 + statements_words p.sizes (map (variable_bytes p.sizes) f.0.locals) f.0.body = ap (size_or_none (block_size p.sizes)) f.1 in
    omega (arith, size)
block_some p (callees.Helper h) below = helper_some h

module _ (p : Program) (copies : List FnCopy) (at : List ℕ) (paged : IsPaged p copies at) (known : AreCopies p copies) where
  abbrev stated : List ℕ
  stated = sizes p paged.order

  pub some_at : (k : ℕ) → k < length stated → 0 < slice_index stated k
  unfolding copy_words
  some_at zero lt = capped_some (start_size p) (omega arith)
  some_at (suc k) lt =
      let long = length-map paged.order (copy_words p) in
      let within : k < length paged.order = omega (arith, lt, long) in
      let d : FnCopy = record { root = Main; function = callees.User 0; level = 0 } in
      let c = slice_index_or paged.order k d in
      let stands = is_at paged.order k d within in
      let among = Contains-permutation paged.order copies c (IsPermutation-sym copies paged.order paged.same) (k, within, at_is paged.order k c c stands) in
      let copied = (known.exact c).0 among in
      let some = capped_some (block_words p c.function) (block_some p c.function copied.one) in
      let here : slice_index_or (map (copy_words p) paged.order) k 0 ≡ copy_words p c = get_or-map (copy_words p) paged.order k d 0 within in
      omega (arith, some, here)

  behind : (k : ℕ) → k < length stated → k ≤ slice_index at k
  behind zero lt = omega arith
  behind (suc k) lt =
      let before = behind k (omega (arith, lt)) in
      let some = some_at k (omega (arith, lt)) in
      let next = in_order_of at stated paged.stand k (suc k) (omega arith) lt in
      omega (arith, before, some, next)

  few : length copies < 8192
  few =
      let size = length_permutation copies paged.order paged.same in
      let long = length-map paged.order (copy_words p) in
      let same = ap (λ (l : List ℕ). slice_index l (length paged.order)) paged.stand in
      let each = one_each 0 stated in
      let last : slice_index (addresses stated) (length paged.order) < 8192 = paged.memory (length paged.order) (omega (arith, each, long)) in
      let high = behind (length paged.order) (omega (arith, long)) in
      omega (arith, size, same, last, high)

pub copies_few : CopiesAreFew
copies_few p copies at paged known = few p copies at paged known
