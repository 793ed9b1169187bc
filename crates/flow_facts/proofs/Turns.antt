-- One instruction more, or one block more, keeps what a loop keeps.
use Rattle.std.proofs.Common.{◌≡◌, ℕ, ◌+◌, ◌<◌, ◌≤◌, Bool, true, false, ◌&&◌, if◌then◌else◌, List, [], ◌∷◌, ◌++◌, length, get_or, take, sym, ap, ◌∙◌, subst, append-nil, append_assoc}
use Rattle.std.specs.List.{AllZip}
use Rattle.std.proofs.lemmas.List.{take_more, take_all}
use Rattle.std.proofs.lemmas.List.Elements.{AllZip-push}
use Rattle.sym_code.specs.WellFormed.{is_well_formed, are_well_formed}
use Rattle.sym_code.specs.declared.code.BlockName.{BlockName}
use Rattle.sym_code.specs.declared.code.Sym.{Sym}
use Rattle.sym_code.specs.declared.code.SymBlock.{SymBlock}
use Rattle.bank_page.specs.declared.known.Known.{Known}
use Rattle.flow_facts.specs.Facts.{Fact, Facts}
use Rattle.flow_facts.specs.Walk.{fact_after, behind_after, holds_of, all_hold, holds_in, leads, all_lead}
use Rattle.flow_facts.specs.Thin.{is_known, thin_from, IsWithoutKnown}
use Rattle.flow_facts.proofs.More.{and_first, and_last}

-- ---- tests
pub test_on : (test : Known → Sym → Bool) (f : Facts) (own : BlockName) (fact : Fact) (behind whole : Bool) (left : List Sym) (s : Sym) (rest : List Sym)
    → left ≡ s ∷ rest → holds_of test fact s ≡ true → all_hold test f own fact behind left ≡ whole → all_hold test f own (fact_after f own fact behind s) (behind_after behind s) rest ≡ whole
test_on test f own fact behind whole left s rest is passes all =
    sym (ap (all_hold test f own fact behind) is ∙ ap (λ (b : Bool). b && all_hold test f own (fact_after f own fact behind s) (behind_after behind s) rest) passes) ∙ all

pub test_off : (test : Known → Sym → Bool) (f : Facts) (own : BlockName) (fact : Fact) (behind whole : Bool) (left : List Sym) (s : Sym) (rest : List Sym)
    → left ≡ s ∷ rest → holds_of test fact s ≡ false → all_hold test f own fact behind left ≡ whole → false ≡ whole
test_off test f own fact behind whole left s rest is fails all =
    sym (ap (all_hold test f own fact behind) is ∙ ap (λ (b : Bool). b && all_hold test f own (fact_after f own fact behind s) (behind_after behind s) rest) fails) ∙ all

pub test_end : (test : Known → Sym → Bool) (f : Facts) (own : BlockName) (fact : Fact) (behind whole : Bool) (left : List Sym) → left ≡ [] → all_hold test f own fact behind left ≡ whole → true ≡ whole
test_end test f own fact behind whole left is all = sym (ap (all_hold test f own fact behind) is) ∙ all

pub lead_on : (f : Facts) (whole : Bool) (left : List SymBlock) (block : SymBlock) (rest : List SymBlock) → left ≡ block ∷ rest → holds_in (leads f) f block ≡ true → all_lead f left ≡ whole → all_lead f rest ≡ whole
lead_on f whole left block rest is passes all = sym (ap (all_lead f) is ∙ ap (λ (b : Bool). b && all_lead f rest) passes) ∙ all

pub lead_off : (f : Facts) (whole : Bool) (left : List SymBlock) (block : SymBlock) (rest : List SymBlock) → left ≡ block ∷ rest → holds_in (leads f) f block ≡ false → all_lead f left ≡ whole → false ≡ whole
lead_off f whole left block rest is fails all = sym (ap (all_lead f) is ∙ ap (λ (b : Bool). b && all_lead f rest) fails) ∙ all

pub lead_end : (f : Facts) (whole : Bool) (left : List SymBlock) → left ≡ [] → all_lead f left ≡ whole → true ≡ whole
lead_end f whole left is all = sym (ap (all_lead f) is) ∙ all

-- ---- what is put
pub left_out : (f : Facts) (own : BlockName) (fact : Fact) (behind : Bool) (s : Sym) (out : List Sym) → is_known f own fact s ≡ true → (rest : List Sym) → out ++ thin_from f own fact behind rest ≡ out ++ thin_from f own fact behind (s ∷ rest)
left_out f own fact behind s out known rest =
    ap (λ (c : Bool). out ++ (if c then thin_from f own fact behind rest else s ∷ thin_from f own (fact_after f own fact behind s) (behind_after behind s) rest)) (sym known)

pub put_on : (f : Facts) (own : BlockName) (fact : Fact) (behind : Bool) (s : Sym) (out new : List Sym) (next : Fact) (after : Bool) → is_known f own fact s ≡ false → new ≡ out ++ s ∷ [] → next ≡ fact_after f own fact behind s → after ≡ behind_after behind s
    → (rest : List Sym) → new ++ thin_from f own next after rest ≡ out ++ thin_from f own fact behind (s ∷ rest)
put_on f own fact behind s out new next after other put is same rest =
    let left : List Sym = thin_from f own (fact_after f own fact behind s) (behind_after behind s) rest in
    ap (λ (xs : List Sym). xs ++ thin_from f own next after rest) put
    ∙ ap (λ (x : Fact). (out ++ s ∷ []) ++ thin_from f own x after rest) is
    ∙ ap (λ (b : Bool). (out ++ s ∷ []) ++ thin_from f own (fact_after f own fact behind s) b rest) same
    ∙ append_assoc out (s ∷ []) left
    ∙ ap (λ (c : Bool). out ++ (if c then thin_from f own fact behind rest else s ∷ left)) (sym other)

-- the list that is left, without its first
pub first_formed : (left : List Sym) (s : Sym) (rest : List Sym) → left ≡ s ∷ rest → are_well_formed left ≡ true → is_well_formed s ≡ true
first_formed left s rest is formed = and_first (is_well_formed s) (are_well_formed rest) (subst (λ (l : List Sym). are_well_formed l ≡ true) is formed)

pub rest_formed : (left : List Sym) (s : Sym) (rest : List Sym) → left ≡ s ∷ rest → are_well_formed left ≡ true → are_well_formed rest ≡ true
rest_formed left s rest is formed = and_last (is_well_formed s) (are_well_formed rest) (subst (λ (l : List Sym). are_well_formed l ≡ true) is formed)

pub thin_on : (f : Facts) (own name : BlockName) (fact next : Fact) (behind after : Bool) (old new whole left : List Sym) (s : Sym) (rest : List Sym) → name ≡ own → left ≡ s ∷ rest
    → ((r : List Sym) → new ++ thin_from f name next after r ≡ old ++ thin_from f name fact behind (s ∷ r)) → old ++ thin_from f own fact behind left ≡ whole → new ++ thin_from f own next after rest ≡ whole
thin_on f own name fact next behind after old new whole left s rest same is put before =
    subst (λ (n : BlockName). new ++ thin_from f n next after rest ≡ old ++ thin_from f n fact behind (s ∷ rest)) same (put rest)
    ∙ ap (λ (l : List Sym). old ++ thin_from f own fact behind l) (sym is) ∙ before

pub thin_end : (f : Facts) (own : BlockName) (fact : Fact) (behind : Bool) (old whole left : List Sym) → left ≡ [] → old ++ thin_from f own fact behind left ≡ whole → old ≡ whole
thin_end f own fact behind old whole left is before = sym (append-nil old) ∙ ap (λ (l : List Sym). old ++ thin_from f own fact behind l) (sym is) ∙ before

pub thin_begin : (f : Facts) (own : BlockName) (fact : Fact) (behind : Bool) (old list : List Sym) → old ≡ [] → old ++ thin_from f own fact behind list ≡ thin_from f own fact behind list
thin_begin f own fact behind old list none = ap (λ (l : List Sym). l ++ thin_from f own fact behind list) none

pub whole_on : (old new whole left : List Sym) (s : Sym) (rest : List Sym) → left ≡ s ∷ rest → new ≡ old ++ s ∷ [] → old ++ left ≡ whole → new ++ rest ≡ whole
whole_on old new whole left s rest is put before = ap (λ (l : List Sym). l ++ rest) put ∙ append_assoc old (s ∷ []) rest ∙ ap (λ (l : List Sym). old ++ l) (sym is) ∙ before

pub whole_end : (old whole left : List Sym) → left ≡ [] → old ++ left ≡ whole → old ≡ whole
whole_end old whole left is before = sym (append-nil old) ∙ ap (λ (l : List Sym). old ++ l) (sym is) ∙ before

-- ---- blocks
pub zip_none : (f : Facts) (list made : List SymBlock) → made ≡ [] → AllZip (IsWithoutKnown f) (take 0 list) made
zip_none f list made none =
    let P : List SymBlock → Type 0 = λ m. AllZip (IsWithoutKnown f) (take 0 list) m in
    subst P (sym none) tt

pub zip_more : (f : Facts) (list made new : List SymBlock) (i : ℕ) (block x : SymBlock) → i < length list → block ≡ get_or list i block → new ≡ made ++ x ∷ [] → IsWithoutKnown f block x → AllZip (IsWithoutKnown f) (take i list) made → AllZip (IsWithoutKnown f) (take (i + 1) list) new
zip_more f list made new i block x below is put one before =
    let next : take (i + 1) list ≡ take i list ++ block ∷ [] = take_more list i block below ∙ ap (λ (b : SymBlock). take i list ++ b ∷ []) (sym is) in
    let P : List SymBlock → Type 0 = λ l. AllZip (IsWithoutKnown f) l new in
    let Q : List SymBlock → Type 0 = λ l. AllZip (IsWithoutKnown f) (take i list ++ block ∷ []) l in
    subst P (sym next) (subst Q (sym put) (AllZip-push (IsWithoutKnown f) (take i list) made block x before one))

pub zip_all : (f : Facts) (list made : List SymBlock) (i : ℕ) → length list ≤ i → AllZip (IsWithoutKnown f) (take i list) made → AllZip (IsWithoutKnown f) list made
zip_all f list made i past all =
    let P : List SymBlock → Type 0 = λ l. AllZip (IsWithoutKnown f) l made in
    subst P (take_all i list past) all
