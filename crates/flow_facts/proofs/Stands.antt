-- Blocks that stand for others have pages with the same bits.
use Rattle.std.proofs.Common.{◌≡◌, ℕ, zero, suc, ◌+◌, ◌/◌, Bool, true, ◌&&◌, List, [], ◌∷◌, Option, Some, None, slice_get, refl, sym, ap, ◌∙◌, arith}
use Rattle.std.specs.List.{AllZip}
use Rattle.std.specs.Option.{option_or}
use Rattle.std.proofs.lemmas.Bool.{eqb-true}
use Rattle.std.proofs.lemmas.Option.{none-some, same_Some}
use Rattle.code_place.specs.Instructions.{known}
use Rattle.code_place.specs.Layouts.{page_of}
use Rattle.code_place.specs.Pages.{page_words}
use Rattle.code_place.specs.Places.{at_if, block_place}
use Rattle.sym_code.specs.Effect.{page_bit}
use Rattle.sym_code.specs.Programs.{same_name}
use Rattle.sym_code.specs.declared.code.BlockName.{BlockName}
use Rattle.sym_code.specs.declared.code.BlockName.TheVariants as names
use Rattle.sym_code.specs.declared.code.PageBit.{PageBit}
use Rattle.sym_code.specs.declared.code.PageBit.TheVariants.{Low, High}
use Rattle.sym_code.specs.declared.code.SymBlock.{SymBlock}
use Rattle.flow_facts.specs.Facts.{Facts, AreMates}
use Rattle.flow_facts.specs.Mates.{same_bit, all_stand}
use Rattle.flow_facts.specs.Stored.{mate_or, facts_of}
use Rattle.flow_facts.specs.Thin.{IsThin}
use Rattle.flow_facts.specs.declared.facts.FlowFacts.{FlowFacts}
use Rattle.flow_facts.proofs.More.{and_first, and_last}

-- ---- one more of a list
pub stand_on : (pages : BlockName → ℕ) (bit : PageBit) (copy : ℕ) (whole : Bool) (left : List BlockName) (mate : BlockName) (rest : List BlockName)
    → left ≡ mate ∷ rest → same_bit pages bit mate (names.Copy copy) ≡ true → all_stand pages bit copy left ≡ whole → all_stand pages bit (copy + 1) rest ≡ whole
stand_on pages bit copy whole left mate rest is same all =
    sym (ap (all_stand pages bit copy) is ∙ ap (λ (b : Bool). b && all_stand pages bit (copy + 1) rest) same) ∙ all

pub stand_end : (pages : BlockName → ℕ) (bit : PageBit) (copy : ℕ) (whole : Bool) (left : List BlockName) → left ≡ [] → all_stand pages bit copy left ≡ whole → whole ≡ true
stand_end pages bit copy whole left is all = sym all ∙ ap (all_stand pages bit copy) is

-- ---- all of them
stands : (pages : BlockName → ℕ) (bit : PageBit) (first : ℕ) (mates : List BlockName) → all_stand pages bit first mates ≡ true → (k : ℕ) (mate : BlockName) → slice_get mates k ≡ Some mate
    → page_bit bit (pages mate) ≡ page_bit bit (pages (names.Copy (first + k)))
stands pages bit first [] all k mate there = absurd (none-some mate there)
stands pages bit first (x ∷ mates) all zero mate there =
    let same = eqb-true (page_bit bit (pages x)) (page_bit bit (pages (names.Copy first))) (and_first (same_bit pages bit x (names.Copy first)) (all_stand pages bit (first + 1) mates) all) in
    let here : first ≡ first + 0 = omega arith in
    ap (λ (n : BlockName). page_bit bit (pages n)) (sym (same_Some x mate there)) ∙ same ∙ ap (λ (n : ℕ). page_bit bit (pages (names.Copy n))) here
stands pages bit first (x ∷ mates) all (suc k) mate there =
    let later = stands pages bit (first + 1) mates (and_last (same_bit pages bit x (names.Copy first)) (all_stand pages bit (first + 1) mates) all) k mate there in
    let next : first + 1 + k ≡ first + suc k = omega arith in
    later ∙ ap (λ (n : ℕ). page_bit bit (pages (names.Copy n))) next

module _ (pages : BlockName → ℕ) (bit : PageBit) (mates lent : List BlockName) (is : lent ≡ mates) (all : all_stand pages bit 0 lent ≡ true) where
  mate_is : (copy : ℕ) (o : Option BlockName) → slice_get mates copy ≡ o → page_bit bit (pages (mate_or o (names.Copy copy))) ≡ page_bit bit (pages (names.Copy copy))
  mate_is copy None there = refl
  mate_is copy (Some mate) there =
      let here : 0 + copy ≡ copy = omega arith in
      stands pages bit 0 lent all copy mate (ap (λ (l : List BlockName). slice_get l copy) is ∙ there) ∙ ap (λ (n : ℕ). page_bit bit (pages (names.Copy n))) here

pub mates_are : (f : FlowFacts) (pages : BlockName → ℕ) (low high : List BlockName) → low ≡ f.low.items → high ≡ f.high.items → all_stand pages Low 0 low ≡ true → all_stand pages High 0 high ≡ true → AreMates pages (facts_of f).mate
mates_are f pages low high of_low of_high all_low all_high bit names.Start = refl
mates_are f pages low high of_low of_high all_low all_high Low (names.Copy copy) = mate_is pages Low f.low.items low of_low all_low copy (slice_get f.low.items copy) refl
mates_are f pages low high of_low of_high all_low all_high High (names.Copy copy) = mate_is pages High f.high.items high of_high all_high copy (slice_get f.high.items copy) refl

-- where none are listed
pub none_mates : (f : FlowFacts) → f.low.items ≡ [] → f.high.items ≡ [] → (pages : BlockName → ℕ) → AreMates pages (facts_of f).mate
none_mates f low high pages bit names.Start = refl
none_mates f low high pages Low (names.Copy copy) = ap (λ (l : List BlockName). page_bit Low (pages (mate_or (slice_get l copy) (names.Copy copy)))) low
none_mates f low high pages High (names.Copy copy) = ap (λ (l : List BlockName). page_bit High (pages (mate_or (slice_get l copy) (names.Copy copy)))) high

-- ---- what is left of blocks stands where they stood
place_thin : (f : Facts) (given made : List SymBlock) (at : List ℕ) → AllZip (IsThin f) given made → (name : BlockName) → block_place made at name ≡ block_place given at name
place_thin f [] [] at z name = refl
place_thin f [] (m ∷ made) at z name = absurd z
place_thin f (g ∷ given) [] at z name = absurd z
place_thin f (g ∷ given) (m ∷ made) [] z name = refl
place_thin f (g ∷ given) (m ∷ made) (start ∷ at) z name =
    ap (λ (n : BlockName). option_or (at_if (same_name n name) start) (block_place made at name)) z.0.name
    ∙ ap (option_or (at_if (same_name g.name name) start)) (place_thin f given made at z.1 name)

pub mates_thin : (f : Facts) (given made : List SymBlock) (at : List ℕ) → AllZip (IsThin f) given made → AreMates (page_of given at) f.mate → AreMates (page_of made at) f.mate
mates_thin f given made at z mates bit name =
    let same : (n : BlockName) → page_bit bit (page_of made at n) ≡ page_bit bit (page_of given at n) = λ n. ap (λ (o : Option ℕ). page_bit bit (known o / page_words)) (place_thin f given made at z n) in
    same (f.mate bit name) ∙ mates bit name ∙ sym (same name)
