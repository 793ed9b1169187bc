-- One byte of a sum or difference.
use Rattle.std.proofs.Common.{◌≡◌, ℕ, zero, suc, ◌+◌, ◌-◌, ◌%◌, ◌<◌, List, ◌++◌, refl, ap, sym, subst, arith}
use Rattle.std.specs.Prelude.{nat_eq, false, if◌then◌else◌}
use Rattle.std.proofs.lemmas.Bool.{ne_eqb}
use Rattle.std.proofs.lemmas.Bool.Decides.{nat_tests}
use Rattle.sym_code.specs.Registers.{Registers}
use Rattle.sym_code.specs.declared.code.FileOperation.TheVariants.{Subwf}
use Rattle.sym_code.specs.Effect.{Memory}
use Rattle.select_trace.specs.Run.{Machine, Sym, going, run}
use Rattle.sym_code.specs.declared.code.Into.{Into}
use Rattle.sym_code.specs.declared.code.Into.TheVariants.{W, File}
use Rattle.select_trace.specs.Code.{Operand, Chain, Sum, Difference, chain_operation, further_code, pair_code, store_code, copy_code, link_code, apart_code}
use Rattle.select_trace.specs.Links.{Fine, Links, EachLinks, Tells, carried}
use Rattle.select_trace.proofs.Vals.{going_is}

further : (chain : Chain) (r : Registers) (m : Memory) (x y : ℕ) → m x < 256 → m y < 256 → r.c < 2 → r.z < 2 → Links chain m r.c (run (further_code chain x y File) (going r m)) x x y
further Sum r m x y a b e f = record {
  going = grind (arith, nat_tests);
  carry = grind (arith, nat_tests);
  zero = grind (arith, nat_tests);
  byte = grind (arith, nat_tests);
  adds = grind (arith, nat_tests);
  others = λ b ne. grind (arith, nat_tests);
}
further Difference r m x y a b e f = record {
  going = grind (arith, nat_tests);
  carry = grind (arith, nat_tests);
  zero = grind (arith, nat_tests);
  byte = grind (arith, nat_tests);
  adds = grind (arith, nat_tests);
  others = λ b ne. grind (arith, nat_tests);
}

first : (chain : Chain) (r : Registers) (m : Memory) (x y : ℕ) → m x < 256 → m y < 256 → r.c < 2 → r.z < 2 → Links chain m (carried chain 0 r.c) (run (pair_code (chain_operation chain) x y File) (going r m)) x x y
first Sum r m x y a b e f = record {
  going = grind (arith, nat_tests);
  carry = grind (arith, nat_tests);
  zero = grind (arith, nat_tests);
  byte = grind (arith, nat_tests);
  adds = grind (arith, nat_tests);
  others = λ b ne. grind (arith, nat_tests);
}
first Difference r m x y a b e f = record {
  going = grind (arith, nat_tests);
  carry = grind (arith, nat_tests);
  zero = grind (arith, nat_tests);
  byte = grind (arith, nat_tests);
  adds = grind (arith, nat_tests);
  others = λ b ne. grind (arith, nat_tests);
}

further_apart : (chain : Chain) (r : Registers) (m : Memory) (x y to : ℕ) → (to ≡ y → ⊥) → m x < 256 → m y < 256 → r.c < 2 → r.z < 2 → Links chain m r.c (run (copy_code to x ++ further_code chain to y File) (going r m)) to x y
further_apart Sum r m x y to apart a b e f = record {
  going = grind (arith, nat_tests);
  carry = grind (arith, nat_tests);
  zero = grind (arith, nat_tests);
  byte = grind (arith, nat_tests);
  adds = grind (arith, nat_tests);
  others = λ b ne. grind (arith, nat_tests);
}
further_apart Difference r m x y to apart a b e f = record {
  going = grind (arith, nat_tests);
  carry = grind (arith, nat_tests);
  zero = grind (arith, nat_tests);
  byte = grind (arith, nat_tests);
  adds = grind (arith, nat_tests);
  others = λ b ne. grind (arith, nat_tests);
}

first_apart : (chain : Chain) (r : Registers) (m : Memory) (x y to : ℕ) → m x < 256 → m y < 256 → r.c < 2 → r.z < 2 → Links chain m (carried chain 0 r.c) (run (pair_code (chain_operation chain) x y W ++ store_code to) (going r m)) to x y
first_apart Sum r m x y to a b e f = record {
  going = grind (arith, nat_tests);
  carry = grind (arith, nat_tests);
  zero = grind (arith, nat_tests);
  byte = grind (arith, nat_tests);
  adds = grind (arith, nat_tests);
  others = λ b ne. grind (arith, nat_tests);
}
first_apart Difference r m x y to a b e f = record {
  going = grind (arith, nat_tests);
  carry = grind (arith, nat_tests);
  zero = grind (arith, nat_tests);
  byte = grind (arith, nat_tests);
  adds = grind (arith, nat_tests);
  others = λ b ne. grind (arith, nat_tests);
}

pub nonzero : (k : ℕ) → nat_eq (suc k) 0 ≡ false
nonzero k = ne_eqb (suc k) 0 (λ e. absurd (omega arith))

pub link_more : (chain : Chain) (left right : Operand) (into : Into) (k : ℕ) → further_code chain (left (suc k)) (right (suc k)) into ≡ link_code chain left right into (suc k)
link_more chain left right into k = ap (λ b. if b then pair_code (chain_operation chain) (left 0) (right 0) into else further_code chain (left (suc k)) (right (suc k)) into) (sym (nonzero k))

pub apart_more : (chain : Chain) (to left right : Operand) (k : ℕ) → copy_code (to (suc k)) (left (suc k)) ++ further_code chain (to (suc k)) (right (suc k)) File ≡ apart_code chain to left right (suc k)
apart_more chain to left right k = ap (λ b. if b then pair_code (chain_operation chain) (left 0) (right 0) W ++ store_code (to 0) else copy_code (to (suc k)) (left (suc k)) ++ further_code chain (to (suc k)) (right (suc k)) File) (sym (nonzero k))

-- each byte in the left operand's place
pub in_place : (chain : Chain) (left right : Operand) (w : ℕ) → EachLinks chain (link_code chain left right File) left left right w
in_place chain left right w zero lt u ok =
    subst (λ (t : Machine). Links chain u.memory (carried chain 0 u.registers.c) (run (link_code chain left right File 0) t) (left 0) (left 0) (right 0)) (going_is u ok.going)
    (first chain u.registers u.memory (left 0) (right 0) (ok.bytes (left 0)) (ok.bytes (right 0)) ok.carry ok.zero)
in_place chain left right w (suc k) lt u ok =
    subst (λ (xs : List Sym). Links chain u.memory u.registers.c (run xs u) (left (suc k)) (left (suc k)) (right (suc k))) (link_more chain left right File k)
    (subst (λ (t : Machine). Links chain u.memory u.registers.c (run (further_code chain (left (suc k)) (right (suc k)) File) t) (left (suc k)) (left (suc k)) (right (suc k))) (going_is u ok.going)
    (further chain u.registers u.memory (left (suc k)) (right (suc k)) (ok.bytes (left (suc k))) (ok.bytes (right (suc k))) ok.carry ok.zero))

-- each byte in another place, which may be one of the left operand's, but from the second byte on none of the right one's
pub apart : (chain : Chain) (to left right : Operand) (w : ℕ) → ((k : ℕ) → k < w → 0 < k → to k ≡ right k → ⊥) → EachLinks chain (apart_code chain to left right) to left right w
apart chain to left right w miss zero lt u ok =
    subst (λ (t : Machine). Links chain u.memory (carried chain 0 u.registers.c) (run (apart_code chain to left right 0) t) (to 0) (left 0) (right 0)) (going_is u ok.going)
    (first_apart chain u.registers u.memory (left 0) (right 0) (to 0) (ok.bytes (left 0)) (ok.bytes (right 0)) ok.carry ok.zero)
apart chain to left right w miss (suc k) lt u ok =
    subst (λ (xs : List Sym). Links chain u.memory u.registers.c (run xs u) (to (suc k)) (left (suc k)) (right (suc k))) (apart_more chain to left right k)
    (subst (λ (t : Machine). Links chain u.memory u.registers.c (run (copy_code (to (suc k)) (left (suc k)) ++ further_code chain (to (suc k)) (right (suc k)) File) t) (to (suc k)) (left (suc k)) (right (suc k))) (going_is u ok.going)
    (further_apart chain u.registers u.memory (left (suc k)) (right (suc k)) (to (suc k)) (miss (suc k) lt (omega arith)) (ok.bytes (left (suc k))) (ok.bytes (right (suc k))) ok.carry ok.zero))

-- ---- a difference whose bytes go nowhere
told_first : (r : Registers) (m : Memory) (x y : ℕ) → m x < 256 → m y < 256 → r.c < 2 → r.z < 2 → Tells m 1 (run (pair_code Subwf x y W) (going r m)) x y
told_first r m x y a b e f = record {
  going = grind (arith, nat_tests);
  carry = grind (arith, nat_tests);
  zero = grind (arith, nat_tests);
  byte = (m x + 256 - m y) % 256;
  small = grind (arith, nat_tests);
  adds = grind (arith, nat_tests);
  same = λ b. refl;
}

told_further : (r : Registers) (m : Memory) (x y : ℕ) → m x < 256 → m y < 256 → r.c < 2 → r.z < 2 → Tells m r.c (run (further_code Difference x y W) (going r m)) x y
told_further r m x y a b e f = record {
  going = grind (arith, nat_tests);
  carry = grind (arith, nat_tests);
  zero = grind (arith, nat_tests);
  byte = (m x + 255 + r.c - m y) % 256;
  small = grind (arith, nat_tests);
  adds = grind (arith, nat_tests);
  same = λ b. grind (arith, nat_tests);
}

pub tells : (left right : Operand) (k : ℕ) (u : Machine) → Fine u → Tells u.memory (carried Difference k u.registers.c) (run (link_code Difference left right W k) u) (left k) (right k)
tells left right zero u ok =
    subst (λ (t : Machine). Tells u.memory 1 (run (link_code Difference left right W 0) t) (left 0) (right 0)) (going_is u ok.going)
    (told_first u.registers u.memory (left 0) (right 0) (ok.bytes (left 0)) (ok.bytes (right 0)) ok.carry ok.zero)
tells left right (suc k) u ok =
    subst (λ (xs : List Sym). Tells u.memory u.registers.c (run xs u) (left (suc k)) (right (suc k))) (link_more Difference left right W k)
    (subst (λ (t : Machine). Tells u.memory u.registers.c (run (further_code Difference (left (suc k)) (right (suc k)) W) t) (left (suc k)) (right (suc k))) (going_is u ok.going)
    (told_further u.registers u.memory (left (suc k)) (right (suc k)) (ok.bytes (left (suc k))) (ok.bytes (right (suc k))) ok.carry ok.zero))
