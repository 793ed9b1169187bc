-- The registers that a function names are among those of its program.
use Rattle.std.proofs.Common.{◌≡◌, ℕ, zero, suc, Bool, true, false, ◌||◌, nat_eq, List, [], ◌∷◌, ◌++◌, Some, slice_get, refl, sym, subst, eq-eqb}
use Rattle.std.proofs.lemmas.Option.{same_Some}
use Rattle.c_typed.specs.Trees.{FunctionTree, Program}
use Rattle.named_registers.specs.Registers.{Naming, is_named_in, statements_registers, functions_registers, names_register}
use Rattle.program_code.specs.Naming.{Memory, RegistersFit}

-- each register that the program names is there
abbrev pub HasRegisters : Program → Memory → Type 0
HasRegisters p memory = (address : ℕ) → names_register p address ≡ true → memory.devices address ≡ true

or_first : (a b : Bool) → a ≡ true → (a || b) ≡ true
or_first true b e = refl
or_first false b e = absurd (cc)

or_last : (a b : Bool) → b ≡ true → (a || b) ≡ true
or_last true b e = refl
or_last false b e = e

named_here : (xs ys : List Naming) (address : ℕ) → is_named_in xs address ≡ true → is_named_in (xs ++ ys) address ≡ true
named_here [] ys address e = absurd (cc)
named_here (x ∷ xs) ys address e = by (nat_eq x.register address) (λ q. named_here xs ys address q) e
  where
    by : (b : Bool) → (is_named_in xs address ≡ true → is_named_in (xs ++ ys) address ≡ true) → (b || is_named_in xs address) ≡ true → (b || is_named_in (xs ++ ys) address) ≡ true
    by true more q = refl
    by false more q = more q

named_later : (xs ys : List Naming) (address : ℕ) → is_named_in ys address ≡ true → is_named_in (xs ++ ys) address ≡ true
named_later [] ys address e = e
named_later (x ∷ xs) ys address e = or_last (nat_eq x.register address) (is_named_in (xs ++ ys) address) (named_later xs ys address e)

body_named : (fs : List FunctionTree) (k : ℕ) (f : FunctionTree) → slice_get fs k ≡ Some f → (address : ℕ) → is_named_in (statements_registers f.body) address ≡ true → is_named_in (functions_registers fs) address ≡ true
body_named [] k f there address e = absurd (cc)
body_named (g ∷ fs) zero f there address e =
    named_here (statements_registers g.body) (functions_registers fs) address (subst (λ (x : FunctionTree). is_named_in (statements_registers x.body) address ≡ true) (sym (same_Some g f there)) e)
body_named (g ∷ fs) (suc k) f there address e = named_later (statements_registers g.body) (functions_registers fs) address (body_named fs k f there address e)

all_fit : (memory : Memory) (ns : List Naming) → ((address : ℕ) → is_named_in ns address ≡ true → memory.devices address ≡ true) → RegistersFit memory ns
all_fit memory [] there = tt
all_fit memory (n ∷ ns) there =
    (there n.register (or_first (nat_eq n.register n.register) (is_named_in ns n.register) (eq-eqb n.register n.register refl)), all_fit memory ns (λ address e. there address (or_last (nat_eq n.register address) (is_named_in ns address) e)))

pub registers_fit : (p : Program) (memory : Memory) (k : ℕ) (f : FunctionTree) → HasRegisters p memory → slice_get p.functions k ≡ Some f → RegistersFit memory (statements_registers f.body)
registers_fit p memory k f has there = all_fit memory (statements_registers f.body) (λ address e. has address (body_named p.functions k f there address e))
