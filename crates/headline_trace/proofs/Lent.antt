-- Byte code that takes addresses of objects that are lent alone accesses no other ones by pointers.
use Rattle.std.proofs.Common.{◌≡◌, ℕ, zero, suc, Bool, true, false, nat_eq, if◌then◌else◌, List, [], ◌∷◌, Option, Some, slice_get, refl, arith}
use Rattle.std.specs.List.{All}
use Rattle.c_typed.specs.Trees.{Program}
use Rattle.call_graph.specs.declared.types.FnCopy.{FnCopy}
use Rattle.core_code.specs.Bytes.{Object}
use Rattle.core_code.specs.Machine.{static_byte}
use Rattle.core_code.specs.Tree.{trees_of}
use Rattle.core_code.specs.declared.code.Body.{Body}
use Rattle.headline_trace.specs.Linked.{code_at, program_with, LeadsTo}
use Rattle.lower_stmt.specs.Programs.{core_of}
use Rattle.narrow_code.proofs.Lending.{leads_only}
use Rattle.narrow_code.specs.Lending.{all_lend, leads_lent}
use Rattle.narrow_pass.specs.Lent.{LendsOnly}
use Rattle.select_wide.specs.Blocks.{body_at}

body_lends : (lent : Object → Bool) (bodies : List Body) (c : ℕ) → All (LendsOnly lent) bodies → all_lend lent (trees_of (code_at (body_at bodies c))) ≡ true
body_lends lent [] c all = refl
body_lends lent (b ∷ bodies) c all = by (nat_eq b.copy c) (body_lends lent bodies c (λ i d below. all (suc i) d (omega arith)))
  where
    by : (is : Bool) → all_lend lent (trees_of (code_at (body_at bodies c))) ≡ true → all_lend lent (trees_of (code_at (if is then Some b else body_at bodies c))) ≡ true
    by true rest = all 0 b (omega arith)
    by false rest = rest

pub leads_to : (p : Program) (copies : List FnCopy) (lent : Object → Bool) (bodies : List Body) → All (LendsOnly lent) bodies → ((n offset : ℕ) → leads_lent lent (static_byte (slice_get (core_of p copies).first n) offset) ≡ true)
    → LeadsTo lent (program_with p copies bodies)
leads_to p copies lent bodies all first o i = leads_only lent (program_with p copies bodies) (record { bodies = λ c. body_lends lent bodies c all; first = first }) o i
