-- Marks where nothing was given, and with one byte more.
use Rattle.std.proofs.Common.{◌≡◌, ℕ, ◌+◌, ◌<◌, ◌≢◌, Bool, true, false, List, [], ◌∷◌, ◌++◌, length, slice_set, replicate, refl, ap, ◌∙◌, arith, nat_eq, nat_lt, ⊎_elim}
use Rattle.std.specs.Prelude.{slice_index_or}
use Rattle.std.proofs.lemmas.Bool.{cases_eq, eq-eqb, ne_eqb, lt-ltb}
use Rattle.std.proofs.lemmas.List.{get_or-set_same, get_or-set_other, get_or-replicate, length-replicate, length-set}
use Rattle.hex_image.specs.HexFile.{Given, times}
use Rattle.hex_image.specs.Marks.{AreMarks}
use Rattle.hex_image.proofs.Bytes.{times-append}

pub no_marks : (marks : List Bool) → marks ≡ replicate 0x4400 false → AreMarks [] marks
unfolding times
no_marks marks e = record {
  count = ap length e ∙ length-replicate {A = Bool} 0x4400 false;
  each = λ a h. ap (λ m. slice_index_or m a false) e ∙ get_or-replicate 0x4400 a false false h;
}

times_more : (given : List Given) (address byte : ℕ) → times (given ++ (address, byte) ∷ []) address ≡ times given address + 1
unfolding times
times_more given address byte =
    let both = times-append given ((address, byte) ∷ []) address in
    let same : nat_eq address address ≡ true = eq-eqb address address refl in
    both ∙ rw same (omega arith)

pub times_same : (given : List Given) (address byte a : ℕ) → a ≢ address → times (given ++ (address, byte) ∷ []) a ≡ times given a
unfolding times
times_same given address byte a h =
    let both = times-append given ((address, byte) ∷ []) a in
    let other : nat_eq address a ≡ false = ne_eqb address a (λ e. h (cc e)) in
    both ∙ rw other (omega arith)

pub marked : (given : List Given) (marks : List Bool) (address byte : ℕ) → AreMarks given marks → address < 0x4400 → AreMarks (given ++ (address, byte) ∷ []) (slice_set marks address true)
marked given marks address byte are h = record {
  count = length-set marks address true ∙ are.count;
  each = λ a l.
      ⊎_elim
      (λ same.
      let count = are.count in
      let now : slice_index_or (slice_set marks address true) a false ≡ true = ap (λ i. slice_index_or (slice_set marks address true) i false) same ∙ get_or-set_same marks address true false (omega (arith, count, h)) in
      let more = times_more given address byte in
      let there : times (given ++ (address, byte) ∷ []) a ≡ times given address + 1 = ap (times (given ++ (address, byte) ∷ [])) same ∙ more in
      let mark : nat_lt 0 (times (given ++ (address, byte) ∷ []) a) ≡ true = lt-ltb 0 (times (given ++ (address, byte) ∷ []) a) (omega (arith, there)) in
      rw mark now)
      (λ other. rw (times_same given address byte a other) (get_or-set_other marks address a true false other ∙ are.each a l))
      (cases_eq a address);
}
