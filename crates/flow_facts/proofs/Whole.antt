-- All that is known of code with selects: what is left of it, and what stays whole.
use Rattle.std.proofs.Common.{◌≡◌, ◌≤◌, ℕ, suc, Bool, true, false, if◌then◌else◌, List, [], ◌∷◌, All, Option, Some, refl, sym, ap, ◌∙◌, subst, arith}
use Rattle.std.specs.List.{AllZip}
use Rattle.std.proofs.lemmas.List.Elements.{All-nil, All-cons}
use Rattle.pic_map.specs.declared.Placed.{Placed}
use Rattle.code_place.specs.Layouts.{page_of}
use Rattle.sym_code.specs.Programs.{same_name}
use Rattle.sym_code.specs.Words.{words_in, most_words}
use Rattle.sym_code.specs.declared.code.BlockName.{BlockName}
use Rattle.sym_code.specs.declared.code.BlockName.TheVariants.{Start}
use Rattle.sym_code.specs.declared.code.Sym.{Sym}
use Rattle.sym_code.specs.declared.code.SymBlock.{SymBlock}
use Rattle.bank_page.specs.Known.{nothing}
use Rattle.bank_page.specs.Needless.{NoneIsNeedless, KeepsOthers}
use Rattle.bank_page.specs.Selected as plain
use Rattle.bank_page.specs.Selected.{names_of, bare_lists, front, all_pass, IsApart, IsWithin, IsExact}
use Rattle.bank_page.proofs.Renewed.{none_needless, all_keep_others}
use Rattle.flow_facts.specs.Facts.{Facts, AreMates, unknown}
use Rattle.flow_facts.specs.Laws.{is_lean, IsLean, IsShorter, Keeps}
use Rattle.flow_facts.specs.Selects.{HasFacts, KeepsStart, HasSelects, LosesKnown}
use Rattle.flow_facts.specs.Stored.{facts_of}
use Rattle.flow_facts.specs.Thin.{thin, without_known, IsWithoutKnown, IsThin, IsThinned}
use Rattle.flow_facts.specs.Walk.{is_consistent}
use Rattle.flow_facts.specs.declared.facts.FlowFacts.{FlowFacts}
use Rattle.flow_facts.proofs.Along.{lean_plainly}
use Rattle.flow_facts.proofs.Kept.{all_first, all_others, are_lean, thinning_keeps}
use Rattle.flow_facts.proofs.Plain.{gives_nothing, unknown_consistent}

-- ---- what is left
each_thin : (f : Facts) (given made : List SymBlock) → AllZip (IsWithoutKnown f) given made → AllZip (IsThin f) given made
each_thin f [] [] z = tt
each_thin f [] (m ∷ made) z = absurd z
each_thin f (g ∷ given) [] z = absurd z
each_thin f (g ∷ given) (m ∷ made) z = (record { whole = same_name g.name Start; name = z.0.name; code = z.0.code; start = λ e. e }, each_thin f given made z.1)

pub loses_known : (f : FlowFacts) (handler : Option ℕ) (at : List ℕ) (given made : List SymBlock) → is_consistent (facts_of f) handler given ≡ true → AreMates (page_of given at) (facts_of f).mate → AllZip (IsWithoutKnown (facts_of f)) given made
    → LosesKnown handler at given made
loses_known f handler at given made consistent mates each = record {
  thinned = record { facts = facts_of f; mates = mates; consistent = consistent; each = each_thin (facts_of f) given made each };
  lean = are_lean (facts_of f) given made each;
}

-- ---- what stays whole
each_whole : (f : Facts) (blocks : List SymBlock) → AllZip (IsThin f) blocks blocks
each_whole f [] = tt
each_whole f (b ∷ blocks) = (record { whole = true; name = refl; code = refl; start = λ e. refl }, each_whole f blocks)

-- code that has all selects that it needs by what straight code tells
pub whole_selects : (placed : Placed) (handler : Option ℕ) (at : List ℕ) (given whole : List SymBlock) → names_of whole ≡ names_of given → bare_lists whole ≡ bare_lists given → All IsApart whole → All (plain.Reaches placed) whole
    → AllZip IsWithin given whole → AllZip (IsExact placed) given whole → HasSelects placed handler at given whole
whole_selects placed handler at given whole named same apart reaches few exact = record {
  whole = whole;
  names = named;
  bare = same;
  apart = apart;
  reaches = reaches;
  few = few;
  exact = exact;
  thinned = record { facts = unknown; mates = λ bit name. refl; consistent = unknown_consistent handler whole; each = each_whole unknown whole };
}

-- ---- no select is needless
lean_block : (f : Facts) (given made : SymBlock) → IsThin f given made → plain.IsLean given → IsLean f made → plain.IsLean made
lean_block f given made is lean known = by (same_name made.name Start) refl known
  where
    start : same_name made.name Start ≡ true → made.list.items ≡ given.list.items
    start e = is.code ∙ ap (λ (c : Bool). thin f c given) (is.start (ap (λ (n : BlockName). same_name n Start) (sym is.name) ∙ e))

    by : (c : Bool) → same_name made.name Start ≡ c → (if c then true else is_lean f made.name (f.front made.name) false made.list.items) ≡ true → plain.IsLean made
    by true e k =
        subst (λ (n : BlockName). all_pass (plain.is_lean n) n front made.list.items ≡ true) (sym is.name)
        (subst (λ (l : List Sym). all_pass (plain.is_lean given.name) given.name front l ≡ true) (sym (start e)) lean)
    by false e k = lean_plainly f made.name (f.front made.name) false nothing false made.list.items (λ b. b) (gives_nothing (f.front made.name)) k

none_are_needless : (f : Facts) (given made : List SymBlock) → AllZip (IsThin f) given made → All plain.IsLean given → All (IsLean f) made → All NoneIsNeedless made
none_are_needless f [] [] z lean known = All-nil NoneIsNeedless
none_are_needless f [] (m ∷ made) z lean known = absurd z
none_are_needless f (g ∷ given) [] z lean known = absurd z
none_are_needless f (g ∷ given) (m ∷ made) z lean known =
    All-cons NoneIsNeedless m made (none_needless m (lean_block f g m z.0 (all_first plain.IsLean g given lean) (all_first (IsLean f) m made known)))
    (none_are_needless f given made z.1 (all_others plain.IsLean g given lean) (all_others (IsLean f) m made known))

-- ---- from the given blocks to those that are made
few_made : (given whole made : List SymBlock) → AllZip IsWithin given whole → AllZip IsShorter whole made → AllZip IsWithin given made
few_made [] [] [] few shorter = tt
few_made [] [] (m ∷ made) few shorter = absurd shorter
few_made [] (w ∷ whole) made few shorter = absurd few
few_made (g ∷ given) [] made few shorter = absurd few
few_made (g ∷ given) (w ∷ whole) [] few shorter = absurd shorter
few_made (g ∷ given) (w ∷ whole) (m ∷ made) few shorter =
    let within : words_in w.list.items ≤ most_words g.list.items = few.0 in
    let less : words_in m.list.items ≤ words_in w.list.items = shorter.0 in
    let words : words_in m.list.items ≤ most_words g.list.items = omega (arith, within, less) in
    (words, few_made given whole made few.1 shorter.1)

start_made : (placed : Placed) (f : Facts) (given whole made : List SymBlock) → AllZip (IsExact placed) given whole → AllZip (IsThin f) whole made → AllZip (KeepsStart placed) given made
start_made placed f [] [] [] exact thinned = tt
start_made placed f [] [] (m ∷ made) exact thinned = absurd thinned
start_made placed f [] (w ∷ whole) made exact thinned = absurd exact
start_made placed f (g ∷ given) [] made exact thinned = absurd exact
start_made placed f (g ∷ given) (w ∷ whole) [] exact thinned = absurd thinned
start_made placed f (g ∷ given) (w ∷ whole) (m ∷ made) exact thinned =
    let own = thinned.0 in
    let of = exact.0 in
    let stays : same_name g.name Start ≡ true → m.list.items ≡ w.list.items =
    λ e. own.code ∙ ap (λ (c : Bool). thin f c w) (own.start (ap (λ (n : BlockName). same_name n Start) of.name ∙ e)) in
    (record { exact = λ e. record { name = own.name ∙ of.name; code = stays e ∙ of.code } }, start_made placed f given whole made exact.1 thinned.1)

-- ---- all of it
pub record IsSelected (placed : Placed) (handler : Option ℕ) (at : List ℕ) (given made : List SymBlock) : Type 0 where
  pub names : names_of made ≡ names_of given
  pub bare : bare_lists made ≡ bare_lists given
  pub others : AllZip KeepsOthers given made
  pub apart : All IsApart made
  pub facts : HasFacts placed handler at made
  pub lean : All NoneIsNeedless made
  pub start : AllZip (KeepsStart placed) given made
  pub few : AllZip IsWithin given made
  pub exact : HasSelects placed handler at given made

pub all_selected : (placed : Placed) (handler : Option ℕ) (at : List ℕ) (given whole made : List SymBlock) → names_of whole ≡ names_of given → bare_lists whole ≡ bare_lists given → All IsApart whole → All (plain.Reaches placed) whole
    → All plain.IsLean whole → AllZip IsWithin given whole → AllZip (IsExact placed) given whole → LosesKnown handler at whole made → IsSelected placed handler at given made
all_selected placed handler at given whole made named same apart reaches lean few exact loses =
    let f = loses.thinned.facts in
    let keeps = thinning_keeps placed handler at whole made loses.thinned apart reaches in
    record {
      names = keeps.names ∙ named;
      bare = keeps.lists ∙ same;
      others = all_keep_others given made (keeps.lists ∙ same);
      apart = keeps.apart;
      facts = record { facts = f; mates = keeps.mates; consistent = keeps.consistent; reaches = keeps.reaches; lean = loses.lean };
      lean = none_are_needless f whole made loses.thinned.each lean loses.lean;
      start = start_made placed f given whole made exact loses.thinned.each;
      few = few_made given whole made few keeps.shorter;
      exact = record { whole = whole; names = named; bare = same; apart = apart; reaches = reaches; few = few; exact = exact; thinned = loses.thinned };
    }
