-- The copies of a generated program's functions.
use Rattle.std.proofs.Common.{◌≡◌, ℕ, zero, suc, ◌+◌, ◌<◌, ◌≤◌, ◌⊎◌, inl, inr, ⊎_elim, List, length, Option, Some, None, refl, ap, sym, ◌∙◌, subst, arith}
use Rattle.std.specs.Prelude.{slice_index_or}
use Rattle.std.specs.List.{AllPairs}
use Rattle.std.proofs.lemmas.Bool.{cases_lt}
use Rattle.c_typed.specs.Chains.{graph_of, number_of, helper_number, IsLevel}
use Rattle.c_typed.specs.Trees.{Program}
use Rattle.c_typed.specs.declared.calls.FnId.{FnId}
use Rattle.c_typed.specs.declared.calls.FnId.TheVariants as callee
use Rattle.call_graph.specs.Copies.{root_of, IsCopy, StandsBefore, AreCopies}
use Rattle.call_graph.specs.declared.types.FnCopy.{FnCopy}
use Rattle.pic_world.specs.declared.Root.{Root}
use Rattle.pic_world.specs.declared.Root.TheVariants as root
use Rattle.generated_laws.specs.Placed.{main_copy, copy_of, copies_from, generated_copies, generated_graph}
use Rattle.generated_laws.proofs.Calling.{main_level, function_level, level_is}
use Rattle.generated_laws.proofs.Members.{Has, has_of, of_has}

abbrev copy_at : ℕ → ℕ → FnCopy
copy_at n level = record { root = root.Main; function = callee.User n; level = level }

pub copies_have : (i n j : ℕ) → i ≤ j → j < i + n → Has (copies_from i n) (copy_of j)
copies_have i zero j low high = absurd (omega (arith, low, high))
copies_have i (suc n) j low high =
    ⊎_elim (λ l. inr (copies_have (suc i) n j (omega (arith, l)) (omega (arith, high)))) (λ m. let same : i ≡ j = omega (arith, low, m) in inl (ap copy_of same)) (cases_lt i j)

pub copies_long : (i n : ℕ) → length (copies_from i n) ≡ n
copies_long i zero = refl
copies_long i (suc n) = ap suc (copies_long (suc i) n)

pub copies_at : (i n j : ℕ) (d : FnCopy) → j < n → slice_index_or (copies_from i n) j d ≡ copy_of (i + j)
copies_at i zero j d lt = absurd (omega (arith, lt))
copies_at i (suc n) zero d lt = let same : i ≡ i + 0 = omega arith in ap copy_of same
copies_at i (suc n) (suc j) d lt = let same : suc i + j ≡ i + suc j = omega arith in copies_at (suc i) n j d (omega (arith, lt)) ∙ ap copy_of same

some_is : (m n : ℕ) → Some m ≡ Some n → m ≡ n
some_is m n is = cc

none_some : (o : Option ℕ) (n : ℕ) → o ≡ None → o ≡ Some n → ⊥
none_some o n none some = let both = sym none ∙ some in cc

module _ (p : Program) (k : ℕ) (main : root_of p root.Main ≡ Some k) (handler : root_of p root.Isr ≡ None) (graph : graph_of p ≡ generated_graph k) (count : length p.functions ≡ k + 1) where
  -- ---- each of them is a copy
  main_is : IsCopy p (main_copy k)
  main_is =
      record { number = k; entered = main; one = omega (arith, count); level = subst (λ (g : List (List ℕ)). IsLevel g k k 0) (sym graph) (main_level k) }

  function_is : (i : ℕ) → i < k → IsCopy p (copy_of i)
  function_is i lt =
      record { number = k; entered = main; one = omega (arith, count, lt); level = subst (λ (g : List (List ℕ)). IsLevel g k i 1) (sym graph) (function_level k i lt) }

  functions_are : (i n : ℕ) → i + n ≤ k → (c : FnCopy) → Has (copies_from i n) c → IsCopy p c
  functions_are i zero le c h = absurd h
  functions_are i (suc n) le c (inl e) = subst (IsCopy p) e (function_is i (omega (arith, le)))
  functions_are i (suc n) le c (inr h) = functions_are (suc i) n (omega (arith, le)) c h

  all_are : (c : FnCopy) → Has (generated_copies k) c → IsCopy p c
  all_are c (inl e) = subst (IsCopy p) e main_is
  all_are c (inr h) = functions_are 0 k (omega arith) c h

  -- ---- and there is no other
  known_copy : (n level : ℕ) → ((k ≡ n) × (level ≡ 0)) ⊎ ((n < k) × (level ≡ 1)) → Has (generated_copies k) (copy_at n level)
  known_copy n level (inl (e, z)) = inl (ap (λ (m : ℕ). copy_at m 0) e ∙ ap (copy_at n) (sym z))
  known_copy n level (inr (l, o)) = inr (subst (λ (v : ℕ). Has (copies_from 0 k) (copy_at n v)) (sym o) (copies_have 0 k n (omega arith) (omega (arith, l))))

  no_helper : (m h level : ℕ) → m ≡ k + 1 → ((k ≡ m + h) × (level ≡ 0)) ⊎ ((m + h < k) × (level ≡ 1)) → ⊥
  no_helper m h level size (inl (e, z)) = omega (arith, size, e)
  no_helper m h level size (inr (l, o)) = omega (arith, size, l)

  of_function : (f : FnId) (level : ℕ) → IsLevel (generated_graph k) k (number_of (length p.functions) f) level → Has (generated_copies k) (record { root = root.Main; function = f; level = level })
  of_function (callee.User n) level is = known_copy n level (level_is k n level is)
  of_function (callee.Helper h) level is =
      absurd (no_helper (length p.functions) (helper_number h) level count (level_is k (length p.functions + helper_number h) level is))

  of_root : (r : Root) (f : FnId) (level number : ℕ) → root_of p r ≡ Some number → IsLevel (graph_of p) number (number_of (length p.functions) f) level
      → Has (generated_copies k) (record { root = r; function = f; level = level })
  of_root root.Main f level number entered is =
      let same = some_is number k (sym entered ∙ main) in
      let g = number_of (length p.functions) f in
      of_function f level (subst (λ (n : ℕ). IsLevel (generated_graph k) n g level) same (subst (λ (rows : List (List ℕ)). IsLevel rows number g level) graph is))
  of_root root.Isr f level number entered is = absurd (none_some (root_of p root.Isr) number handler entered)

  no_other : (c : FnCopy) → IsCopy p c → Has (generated_copies k) c
  no_other c is = of_root c.root c.function c.level is.number is.entered is.level

  -- ---- their order
  ordered : AllPairs (StandsBefore (length p.functions)) (generated_copies k)
  ordered i zero d lt within = absurd (omega (arith, lt))
  ordered zero (suc j) d lt within =
      let long = copies_long 0 k in
      let near : j < k = omega (arith, within, long) in
      subst (StandsBefore (length p.functions) (main_copy k)) (sym (copies_at 0 k j d near)) (inr (refl, inl (omega arith)))
  ordered (suc i) (suc j) d lt within =
      let long = copies_long 0 k in
      let near : j < k = omega (arith, within, long) in
      let nearer : i < k = omega (arith, near, lt) in
      subst (λ (a : FnCopy). StandsBefore (length p.functions) a (slice_index_or (copies_from 0 k) j d)) (sym (copies_at 0 k i d nearer))
      (subst (StandsBefore (length p.functions) (copy_of (0 + i))) (sym (copies_at 0 k j d near)) (inr (refl, inr (refl, omega (arith, lt)))))

  pub are_copies : AreCopies p (generated_copies k)
  are_copies =
      record {
        exact = λ c. (λ has. all_are c (has_of (generated_copies k) c has), λ is. of_has (generated_copies k) c (no_other c is));
        ordered = ordered;
      }
