-- Loops that a byte counts.
use Rattle.std.proofs.Common.{◌≡◌, ℕ, zero, suc, ◌+◌, ◌<◌, List, [], ◌∷◌, ◌++◌, refl, ap, sym, ◌∙◌, subst, arith, inl, inr}
use Rattle.std.proofs.lemmas.Bool.{cases_eq}
use Rattle.std.proofs.lemmas.Bool.Decides.{nat_tests}
use Rattle.sym_code.specs.Effect.{Memory}
use Rattle.select_trace.specs.Run.{Machine, Mode, Sym, Row, Goto, Seeking, going, run, Going}
use Rattle.sym_code.specs.declared.code.Into.TheVariants.{File}
use Rattle.sym_code.specs.Registers.{Registers}
use Rattle.sym_code.specs.declared.code.FileOperation.TheVariants.{Decfsz}
use Rattle.select_trace.specs.Links.{Fine}
use Rattle.select_trace.specs.Loops.{again, Loops}
use Rattle.select_trace.proofs.Vals.{run_append, going_is}

-- the end of a round
abbrev pub end_of : ℕ → ℕ → List Sym
end_of counter label = Row Decfsz counter File ∷ Goto label ∷ []

-- only the counter has changed
pub record Counts (t u : Machine) (counter : ℕ) : Type 0 where
  pub registers : u.registers ≡ t.registers
  pub others : (a : ℕ) → (a ≡ counter → ⊥) → u.memory a ≡ t.memory a

record Ends (t u : Machine) (counter n : ℕ) (m : Mode) : Type 0 where
  mode : u.mode ≡ m
  count : u.memory counter ≡ n
  counts : Counts t u counter

last_at : (r : Registers) (m : Memory) (a label : ℕ) → m a ≡ 1 → Ends (going r m) (run (end_of a label) (going r m)) a 0 Going
last_at r m a label e = record {
  mode = grind (arith, nat_tests);
  count = grind (arith, nat_tests);
  counts = record { registers = grind (arith, nat_tests); others = λ b ne. grind (arith, nat_tests) };
}

more_at : (r : Registers) (m : Memory) (a label n : ℕ) → suc (suc n) < 256 → m a ≡ suc (suc n) → Ends (going r m) (run (end_of a label) (going r m)) a (suc n) (Seeking label)
more_at r m a label n lt e = record {
  mode = grind (arith, nat_tests);
  count = grind (arith, nat_tests);
  counts = record { registers = grind (arith, nat_tests); others = λ b ne. grind (arith, nat_tests) };
}

last : (t : Machine) → Fine t → (a label : ℕ) → t.memory a ≡ 1 → Ends t (run (end_of a label) t) a 0 Going
last t ok a label = subst (λ (v : Machine). v.memory a ≡ 1 → Ends v (run (end_of a label) v) a 0 Going) (going_is t ok.going) (last_at t.registers t.memory a label)

more : (t : Machine) → Fine t → (a label n : ℕ) → suc (suc n) < 256 → t.memory a ≡ suc (suc n) → Ends t (run (end_of a label) t) a (suc n) (Seeking label)
more t ok a label n lt = subst (λ (v : Machine). v.memory a ≡ suc (suc n) → Ends v (run (end_of a label) v) a (suc n) (Seeking label)) (going_is t ok.going) (λ e. more_at t.registers t.memory a label n lt e)

fine_from : (t u : Machine) (counter n : ℕ) → n < 256 → Fine t → u.mode ≡ Going → u.memory counter ≡ n → Counts t u counter → Fine u
fine_from t u counter n lt ok mode count h = record {
  going = mode;
  carry = rw (h.registers) ok.carry;
  zero = rw (h.registers) ok.zero;
  bytes = λ a. elim (cases_eq a counter) [ inl e ↦ rw (e, count) lt | inr ne ↦ rw (h.others a ne) (ok.bytes a) ];
}

-- Each round keeps the invariant and the counter, and the invariant doesn't speak of the counter: then the code goes round as
-- often as the counter says, and the invariant holds with so many rounds more.
pub looped : (label counter : ℕ) (body : List Sym) (Inv : ℕ → Machine → Type 0) (bound : ℕ) →
    ((i : ℕ) (t : Machine) → i < bound → Fine t → Inv i t → (fine : Fine (run body t)) × (Inv (suc i) (run body t)) × ((run body t).memory counter ≡ t.memory counter)) →
    ((i : ℕ) (t u : Machine) → Inv i t → Counts t u counter → Inv i u) →
    (n i : ℕ) (t : Machine) → i + suc n ≡ bound → suc n < 256 → Fine t → t.memory counter ≡ suc n → Inv i t →
    (u : Machine) × Loops label (body ++ end_of counter label) n t u × Fine u × Inv bound u
looped label counter body Inv bound each stable zero i t all lt ok count inv =
    let u : Machine = run body t in
    let h = each i t (omega arith) ok inv in
    let v : Machine = run (end_of counter label) u in
    let e = last u h.0 counter label (h.2 ∙ count) in
    let is : suc i ≡ bound = omega arith in
    (v, (e.mode, run_append body (end_of counter label) t), fine_from u v counter 0 (omega arith) h.0 e.mode e.count e.counts, subst (λ (k : ℕ). Inv k v) is (stable (suc i) u v h.1 e.counts))
looped label counter body Inv bound each stable (suc n) i t all lt ok count inv =
    let u : Machine = run body t in
    let h = each i t (omega arith) ok inv in
    let v : Machine = run (end_of counter label) u in
    let e = more u h.0 counter label n lt (h.2 ∙ count) in
    let c : Counts u (again v) counter = record { registers = e.counts.registers; others = e.counts.others } in
    let rest = looped label counter body Inv bound each stable n (suc i) (again v) (omega arith) (omega arith) (fine_from u (again v) counter (suc n) (omega arith) h.0 refl e.count c) e.count (stable (suc i) u (again v) h.1 c) in
    let joined : run (body ++ end_of counter label) t ≡ v = run_append body (end_of counter label) t in
    (rest.0, (ap (λ (x : Machine). x.mode) joined ∙ e.mode, subst (λ (x : Machine). Loops label (body ++ end_of counter label) n (again x) rest.0) (sym joined) rest.1), rest.2, rest.3)
