-- What is found behind a list of registers is its first foreign line, and where none is, none of them is foreign.
use Rattle.std.proofs.Common.{◌≡◌, ◌⊎◌, inl, inr, ⊎_elim, ℕ, zero, suc, ◌≤◌, Bool, true, false, ◌||◌, nat_eq, nat_le, min, if◌then◌else◌, List, [], ◌∷◌, Option, Some, None, slice_get, refl, sym, ap, ◌∙◌, subst, eqb-true, arith}
use Rattle.std.proofs.lemmas.Option.{none-some, same_Some}
use Rattle.c_typed.specs.Trees.{Program}
use Rattle.named_registers.specs.Foreign.{foreign_after, earlier, IsFirstForeign}
use Rattle.named_registers.specs.Registers.{Naming, is_named_in, program_registers}

never_none : (first : Option ℕ) (line : ℕ) → earlier first line ≡ None → ⊥
never_none None line e = none-some line (sym e)
never_none (Some known) line e = none-some (min known line) (sym e)

if_none : (has : Bool) (first : Option ℕ) (line : ℕ) → (if has then first else earlier first line) ≡ None → has ≡ true
if_none true first line e = refl
if_none false first line e = absurd (never_none first line e)

either : (a b : Bool) → (a || b) ≡ true → (a ≡ true) ⊎ (b ≡ true)
either true b e = inl refl
either false b e = inr e

no_true : {A : Type 0} → false ≡ true → A
no_true e = absurd (cc)

-- ---- the lesser of a line and the first one so far
earlier_is : (first : Option ℕ) (line : ℕ) → (known : ℕ) × (earlier first line ≡ Some known) × (known ≤ line)
earlier_is None line = (line, refl, omega arith)
earlier_is (Some known) line = (min known line, refl, omega arith)

still : (has : Bool) (first : Option ℕ) (line known : ℕ) → first ≡ Some known → (less : ℕ) × ((if has then first else earlier first line) ≡ Some less) × (less ≤ known)
still true first line known e = (known, e, omega arith)
still false None line known e = absurd (none-some known e)
still false (Some first) line known e = let same = same_Some first known e in (min first line, refl, omega (arith, same))

one_of : (known line found : ℕ) → min known line ≡ found → (known ≡ found) ⊎ (line ≡ found)
one_of known line found e = by (nat_le known line) refl
  where
    by : (b : Bool) → nat_le known line ≡ b → (known ≡ found) ⊎ (line ≡ found)
    by true l = inl (grind arith)
    by false l = inr (grind arith)

module _ (has : ℕ → Bool) where
  after_none : (first : Option ℕ) (ns : List Naming) → foreign_after has first ns ≡ None → first ≡ None
  after_none first [] e = e
  after_none first (n ∷ ns) e = by (has n.register) (after_none (if has n.register then first else earlier first n.line) ns e)
    where
      by : (b : Bool) → (if b then first else earlier first n.line) ≡ None → first ≡ None
      by true q = q
      by false q = absurd (never_none first n.line q)

  all_there : (first : Option ℕ) (ns : List Naming) → foreign_after has first ns ≡ None → (address : ℕ) → is_named_in ns address ≡ true → has address ≡ true
  all_there first [] e address h = no_true h
  all_there first (n ∷ ns) e address h =
      let now = if has n.register then first else earlier first n.line in
      ⊎_elim (λ q. subst (λ a. has a ≡ true) (eqb-true n.register address q) (if_none (has n.register) first n.line (after_none now ns e))) (λ q. all_there now ns e address q)
      (either (nat_eq n.register address) (is_named_in ns address) h)

  abbrev Stands : List Naming → ℕ → Type 0
  Stands ns line = (k : ℕ) × (n : Naming) × (slice_get ns k ≡ Some n) × (has n.register ≡ false) × (n.line ≡ line)

  found : (first : Option ℕ) (ns : List Naming) (line : ℕ) → foreign_after has first ns ≡ Some line → (first ≡ Some line) ⊎ Stands ns line
  found first [] line e = inl e
  found first (n ∷ ns) line e = ⊎_elim (λ q. by (has n.register) refl q) (λ q. inr (suc q.0, q.1, q.2, q.3, q.4)) (found (if has n.register then first else earlier first n.line) ns line e)
    where
      here : (first : Option ℕ) → has n.register ≡ false → earlier first n.line ≡ Some line → (first ≡ Some line) ⊎ Stands (n ∷ ns) line
      here None f q = inr (0, n, refl, f, same_Some n.line line q)
      here (Some known) f q = ⊎_elim (λ same. inl (ap (λ x. Some x) same)) (λ same. inr (0, n, refl, f, same)) (one_of known n.line line (same_Some (min known n.line) line q))

      by : (b : Bool) → has n.register ≡ b → (if b then first else earlier first n.line) ≡ Some line → (first ≡ Some line) ⊎ Stands (n ∷ ns) line
      by true f q = inl q
      by false f q = here first f q

  least_known : (first : Option ℕ) (ns : List Naming) (line known : ℕ) → foreign_after has first ns ≡ Some line → first ≡ Some known → line ≤ known
  least_known first [] line known e q = let same = same_Some line known (sym e ∙ q) in omega (arith, same)
  least_known first (n ∷ ns) line known e q =
      let s = still (has n.register) first n.line known q in
      let rest = least_known (if has n.register then first else earlier first n.line) ns line s.0 e s.1 in
      let less = s.2 in
      omega (arith, rest, less)

  least : (first : Option ℕ) (ns : List Naming) (line : ℕ) → foreign_after has first ns ≡ Some line → (k : ℕ) (n : Naming) → slice_get ns k ≡ Some n → has n.register ≡ false → line ≤ n.line
  least first [] line e k n is f = absurd (cc)
  least first (m ∷ ns) line e zero n is f =
      let same = same_Some m n is in
      let off : has m.register ≡ false = subst (λ (x : Naming). has x.register ≡ false) (sym same) f in
      let s = earlier_is first m.line in
      let now : foreign_after has (earlier first m.line) ns ≡ Some line = ap (λ (b : Bool). foreign_after has (if b then first else earlier first m.line) ns) (sym off) ∙ e in
      let rest = least_known (earlier first m.line) ns line s.0 now s.1 in
      let less = s.2 in
      let lines = ap (λ (x : Naming). x.line) same in
      omega (arith, rest, less, lines)
  least first (m ∷ ns) line e (suc k) n is f = least (if has m.register then first else earlier first m.line) ns line e k n is f

  pub is_first : (p : Program) (o : Option ℕ) → foreign_after has None (program_registers p) ≡ o → IsFirstForeign has p o
  is_first p None e = all_there None (program_registers p) e
  is_first p (Some line) e = (⊎_elim (λ none. absurd (none-some line none)) (λ s. s) (found None (program_registers p) line e), least None (program_registers p) line e)
