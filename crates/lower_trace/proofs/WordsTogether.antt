-- All functions under way have together no more words than all copies: each stands at a number of its own among them.
use Rattle.std.proofs.Common.{◌≡◌, ℕ, suc, ◌+◌, ◌<◌, ◌≤◌, ⊎_elim, false, nat_eq, List, [], ◌∷◌, length, Option, Some, None, slice_get, refl, sym, ap, ◌∙◌, arith}
use Rattle.std.proofs.lemmas.Bool.{false≢true}
use Rattle.std.proofs.lemmas.List.Sums.{sum_by-cons}
use Rattle.std.proofs.lemmas.Option.{slice_get_within}
use Rattle.c_typed.specs.Trees.{Program}
use Rattle.c_typed.specs.Words.{block_size}
use Rattle.c_typed.specs.declared.calls.FnId.TheVariants as callee
use Rattle.call_graph.specs.declared.types.FnCopy.{FnCopy}
use Rattle.ram_place.specs.Sizes.{block_words, size_or_none}
use Rattle.src_rules.proofs.Starts.{or_false}
use Rattle.src_rules.proofs.Totals.{total, without, without_other, total_out}
use Rattle.src_rules.proofs.Waiting.{waiting, waiting_apart, waiting_distinct, AreReached, waiting_reached}
use Rattle.src_rules.specs.Laws.{AreDistinct}
use Rattle.src_rules.specs.Standing.{IsReached, StackStands}
use Rattle.src_values.specs.Control.{Pending, In, To, Doing, Before, Returns, Resumes}
use Rattle.src_values.specs.Objects.{same_copy, is_among}
use Rattle.src_values.specs.declared.objects.CopyOf.{CopyOf}
use Rattle.lower_trace.specs.Lowering.{all_words, IsLowerable}
use Rattle.lower_trace.proofs.Burdens.{under}
use Rattle.lower_trace.proofs.CodeLeft.{Scene, number}
use Rattle.lower_trace.proofs.Entering.{copy_self, bool_cases}
use Rattle.lower_trace.proofs.Numbering.{numbers_apart, function_there}
use Rattle.lower_trace.proofs.Scenes.{own_number, block_small}
use Rattle.lower_trace.proofs.Spans.{body_words}
use Rattle.lower_trace.proofs.Written.{same_nat}

unfoldable words_at : Program → Option FnCopy → ℕ
words_at p None = 0
words_at p (Some copy) = block_words p copy.function

all_total : (p : Program) (copies more : List FnCopy) (a : ℕ) → ((j : ℕ) → j < length more → slice_get copies (a + j) ≡ slice_get more j) → total (λ n. words_at p (slice_get copies n)) a (length more) ≡ all_words p more
unfolding total words_at
all_total p copies [] a h = refl
all_total p copies (copy ∷ more) a h =
    let e : a ≡ a + 0 = omega arith in
    let here : words_at p (slice_get copies a) ≡ block_words p copy.function = ap (λ n. words_at p (slice_get copies n)) e ∙ ap (words_at p) (h 0 (omega arith)) in
    let s = sum_by-cons (λ (c : FnCopy). block_words p c.function) copy more in
    let i = all_total p copies more (suc a) (λ j l. let q : suc a + j ≡ a + suc j = omega arith in ap (slice_get copies) q ∙ h (suc j) (omega arith)) in
    omega arith

module _ (z : Scene) (given : IsLowerable z.program z.copies) where
  abbrev p : Program
  p = z.program

  -- ---- words of a body
  body_in_block : (c : CopyOf) → IsReached p c → body_words p c + 4 ≡ block_words p (callee.User c.function)
  body_in_block c r = let e = ap (size_or_none (block_size p.sizes)) (function_there p c.function r.there) in omega arith

  pub body_small : (c : CopyOf) → IsReached p c → body_words p c ≤ 2048
  body_small c r = let b = block_small z given c r in let e = body_in_block c r in omega arith

  abbrev words : ℕ → ℕ
  words n = words_at p (slice_get z.copies n)

  body_at : (c : CopyOf) → IsReached p c → body_words p c ≤ words (number z c)
  unfolding words_at
  body_at c r =
      let x = own_number z given c r in
      let e = ap (words_at p) x.there ∙ ap (block_words p) x.is in
      let b = body_in_block c r in
      omega arith

  number_within : (c : CopyOf) → IsReached p c → number z c < length z.copies
  number_within c r = let x = own_number z given c r in slice_get_within z.copies (number z c) x.copy x.there

  -- ---- sums over copies
  unfoldable sum_at : (ℕ → ℕ) → List CopyOf → ℕ
  sum_at g [] = 0
  sum_at g (c ∷ cs) = g (number z c) + sum_at g cs

  other_number : (c d : CopyOf) → IsReached p c → IsReached p d → same_copy d c ≡ false → nat_eq (number z d) (number z c) ≡ false
  other_number c d rc rd e =
      ⊎_elim
      (λ t. absurd (let q = numbers_apart p z.copies given.known given.acyclic d c rd rc (same_nat (number z d) (number z c) t) in false≢true (sym e ∙ ap (λ x. same_copy x c) q ∙ copy_self c)))
      (λ f. f)
      (bool_cases (nat_eq (number z d) (number z c)))

  sum_same : (cs : List CopyOf) (c : CopyOf) (g : ℕ → ℕ) → IsReached p c → AreReached p cs → is_among cs c ≡ false → sum_at (without (number z c) g) cs ≡ sum_at g cs
  unfolding sum_at
  sum_same [] c g r rs h = refl
  sum_same (d ∷ ds) c g r rs h =
      let o = or_false (same_copy d c) (is_among ds c) h in
      let i = sum_same ds c g r rs.1 o.1 in
      let e = without_other (number z c) (number z d) g (other_number c d r rs.0 o.0) in
      omega arith

  sum_bound : (cs : List CopyOf) (g : ℕ → ℕ) → AreDistinct cs → AreReached p cs → sum_at g cs ≤ total g 0 (length z.copies)
  unfolding sum_at
  sum_bound [] g h r = omega arith
  sum_bound (c ∷ cs) g h r =
      let i = sum_bound cs (without (number z c) g) h.1 r.1 in
      let e = sum_same cs c g r.0 r.1 h.0 in
      let o = total_out (number z c) g 0 (length z.copies) (omega arith) (let w = number_within c r.0 in omega arith) in
      omega arith

  under_sum : (k : List Pending) (c : CopyOf) → IsReached p c → AreReached p (waiting k) → under p c k ≤ sum_at words (c ∷ waiting k)
  unfolding under waiting sum_at
  under_sum [] c r rs = let b = body_at c r in omega arith
  under_sum (In e got ∷ k) c r rs = under_sum k c r rs
  under_sum (To place ∷ k) c r rs = under_sum k c r rs
  under_sum (Doing t stage ∷ k) c r rs = under_sum k c r rs
  under_sum (Before ss ∷ k) c r rs = under_sum k c r rs
  under_sum (Returns d ∷ k) c r rs = let b = body_at c r in let i = under_sum k d rs.0 rs.1 in omega arith
  under_sum (Resumes d x ∷ k) c r rs = let b = body_at c r in let i = under_sum k d rs.0 rs.1 in omega arith

  pub under_few : (k : List Pending) (c : CopyOf) → IsReached p c → StackStands p c k → under p c k ≤ 8192
  under_few k c r st =
      let rs = waiting_reached p k c st in
      let u = under_sum k c r rs in
      let s = sum_bound (c ∷ waiting k) words (waiting_apart p given.acyclic k c st, waiting_distinct p given.acyclic k c st) (r, rs) in
      let few = given.few_words in
      let t = all_total p z.copies z.copies 0 (λ j l. let e : 0 + j ≡ j = omega arith in ap (slice_get z.copies) e) in
      omega arith
