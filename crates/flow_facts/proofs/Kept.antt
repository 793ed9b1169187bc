-- What thinning keeps, block by block.
use Rattle.std.proofs.Common.{◌≡◌, ℕ, suc, ◌≤◌, Bool, true, false, ◌&&◌, if◌then◌else◌, List, [], ◌∷◌, All, Option, refl, sym, ap, ◌∙◌, subst, arith}
use Rattle.std.specs.List.{AllZip}
use Rattle.std.proofs.lemmas.List.Elements.{All-nil, All-cons}
use Rattle.pic_map.specs.declared.Placed.{Placed}
use Rattle.sym_code.specs.Programs.{same_name, block_in}
use Rattle.sym_code.specs.Selects.{bare}
use Rattle.sym_code.specs.Words.{words_in}
use Rattle.sym_code.specs.declared.code.BlockName.{BlockName}
use Rattle.sym_code.specs.declared.code.BlockName.TheVariants.{Start}
use Rattle.sym_code.specs.declared.code.Sym.{Sym}
use Rattle.sym_code.specs.declared.code.SymBlock.{SymBlock}
use Rattle.bank_page.specs.Known.{nothing}
use Rattle.bank_page.specs.Links.{price_from, price_in}
use Rattle.bank_page.specs.Near.{none_sets_rp1, StaysNear}
use Rattle.bank_page.specs.Selected as plain
use Rattle.bank_page.specs.Selected.{NoSelectBehindSkip, names_of, bare_lists, IsApart, front, all_pass}
use Rattle.flow_facts.specs.Facts.{Facts}
use Rattle.flow_facts.specs.Walk.{is_right, all_hold, leads, all_lead, is_open, is_open_at, is_consistent, Reaches}
use Rattle.flow_facts.specs.Thin.{thin_from, thin, without_known, IsWithoutKnown, IsThin}
use Rattle.flow_facts.specs.Laws.{is_lean, IsLean, IsShorter, ThinningKeeps}
use Rattle.flow_facts.specs.Links.{ThinningHasFlow}
use Rattle.flow_facts.proofs.More.{and_first, and_last, and_both}
use Rattle.flow_facts.proofs.Plain.{gives_nothing}
use Rattle.flow_facts.proofs.Stands.{mates_thin}
use Rattle.flow_facts.proofs.Along.{right_whole, right_thin}
use Rattle.flow_facts.proofs.Lists.{hold_thin, apart_thin, bare_thin, near_thin, shorter_thin, lean_thin, price_thin}

pub all_first : (P : SymBlock → Type 0) (x : SymBlock) (xs : List SymBlock) → All P (x ∷ xs) → P x
all_first P x xs all = all 0 x (omega arith)

pub all_others : (P : SymBlock → Type 0) (x : SymBlock) (xs : List SymBlock) → All P (x ∷ xs) → All P xs
all_others P x xs all = λ i d l. all (suc i) d (omega arith)

module _ (f : Facts) where
  -- ---- one block
  bare_of : (given : SymBlock) (c : Bool) → bare (thin f c given) ≡ bare given.list.items
  bare_of given true = refl
  bare_of given false = bare_thin f given.name (f.front given.name) false given.list.items

  shorter_of : (given : SymBlock) (c : Bool) → words_in (thin f c given) ≤ words_in given.list.items
  shorter_of given true = omega arith
  shorter_of given false = shorter_thin f given.name (f.front given.name) false given.list.items

  price_same : (list : List Sym) (n : ℕ) → price_from 0 list n ≤ price_from 0 list n
  price_same list n = omega arith

  price_of : (given : SymBlock) (c : Bool) (n : ℕ) → price_from 0 (thin f c given) n ≤ price_from 0 given.list.items n
  price_of given true n = price_same given.list.items n
  price_of given false n = price_thin f given.name 0 0 (omega arith) (f.front given.name) false given.list.items n

  apart_of : (given : SymBlock) → IsApart given → (c : Bool) → NoSelectBehindSkip (thin f c given)
  apart_of given apart true = apart
  apart_of given apart false = apart_thin f given.name (f.front given.name) false given.list.items apart

  near_of : (given : SymBlock) → StaysNear given → (c : Bool) → none_sets_rp1 (thin f c given) ≡ true
  near_of given near true = near
  near_of given near false = near_thin f given.name (f.front given.name) false given.list.items near

  lead_of : (given : SymBlock) → IsApart given → all_hold (leads f given.name) f given.name (f.front given.name) false given.list.items ≡ true → (c : Bool) → all_hold (leads f given.name) f given.name (f.front given.name) false (thin f c given) ≡ true
  lead_of given apart lead true = lead
  lead_of given apart lead false = hold_thin f given.name (leads f given.name) (f.front given.name) false given.list.items apart lead

  reach_of : (placed : Placed) (given : SymBlock) → plain.Reaches placed given → (c : Bool) → all_hold (is_right placed f given.name) f given.name (f.front given.name) false (thin f c given) ≡ true
  reach_of placed given reaches true = right_whole f given.name placed (f.front given.name) false nothing false given.list.items (λ e. e) (gives_nothing (f.front given.name)) reaches
  reach_of placed given reaches false = right_thin f given.name placed (f.front given.name) false nothing false given.list.items (λ e. e) (gives_nothing (f.front given.name)) reaches

  lean_of : (given : SymBlock) (c : Bool) → (if c then true else is_lean f given.name (f.front given.name) false (thin f c given)) ≡ true
  lean_of given true = refl
  lean_of given false = lean_thin f given.name (f.front given.name) false given.list.items

  -- ---- a block and what is made of it
  -- what holds of the name and the code that are left
  of_made : (Q : BlockName → List Sym → Type 0) (given made : SymBlock) → IsThin f given made → ((c : Bool) → Q given.name (thin f c given)) → Q made.name made.list.items
  of_made Q given made is each =
      subst (λ (n : BlockName). Q n made.list.items) (sym is.name)
      (subst (λ (l : List Sym). Q given.name l) (sym is.code) (each is.whole))

  -- ---- all blocks
  names_are : (given made : List SymBlock) → AllZip (IsThin f) given made → names_of made ≡ names_of given
  names_are [] [] z = refl
  names_are [] (m ∷ made) z = absurd z
  names_are (g ∷ given) [] z = absurd z
  names_are (g ∷ given) (m ∷ made) z = ap (λ (n : BlockName). n ∷ names_of made) z.0.name ∙ ap (λ (l : List BlockName). g.name ∷ l) (names_are given made z.1)

  bares_are : (given made : List SymBlock) → AllZip (IsThin f) given made → bare_lists made ≡ bare_lists given
  bares_are [] [] z = refl
  bares_are [] (m ∷ made) z = absurd z
  bares_are (g ∷ given) [] z = absurd z
  bares_are (g ∷ given) (m ∷ made) z =
      ap (λ (l : List Sym). l ∷ bare_lists made) (of_made (λ n l. bare l ≡ bare g.list.items) g m z.0 (λ c. bare_of g c))
      ∙ ap (λ (l : List (List Sym)). bare g.list.items ∷ l) (bares_are given made z.1)

  same_bare : (given made : List SymBlock) → AllZip (IsThin f) given made → (name : BlockName) → bare (block_in made name) ≡ bare (block_in given name)
  same_bare [] [] z name = refl
  same_bare [] (m ∷ made) z name = absurd z
  same_bare (g ∷ given) [] z name = absurd z
  same_bare (g ∷ given) (m ∷ made) z name =
      subst (λ (x : BlockName). bare (if same_name x name then m.list.items else block_in made name) ≡ bare (if same_name g.name name then g.list.items else block_in given name)) (sym z.0.name)
      (by (same_name g.name name) (same_bare given made z.1 name))
    where
      by : (c : Bool) → bare (block_in made name) ≡ bare (block_in given name) → bare (if c then m.list.items else block_in made name) ≡ bare (if c then g.list.items else block_in given name)
      by true later = of_made (λ n l. bare l ≡ bare g.list.items) g m z.0 (λ c. bare_of g c)
      by false later = later

  are_shorter : (given made : List SymBlock) → AllZip (IsThin f) given made → AllZip IsShorter given made
  are_shorter [] [] z = tt
  are_shorter [] (m ∷ made) z = absurd z
  are_shorter (g ∷ given) [] z = absurd z
  are_shorter (g ∷ given) (m ∷ made) z = (of_made (λ n l. words_in l ≤ words_in g.list.items) g m z.0 (λ c. shorter_of g c), are_shorter given made z.1)

  prices_are : (given made : List SymBlock) → AllZip (IsThin f) given made → (name : BlockName) (n : ℕ) → price_in (block_in made) name n ≤ price_in (block_in given) name n
  prices_are [] [] z name n = omega arith
  prices_are [] (m ∷ made) z name n = absurd z
  prices_are (g ∷ given) [] z name n = absurd z
  prices_are (g ∷ given) (m ∷ made) z name n =
      subst (λ (x : BlockName). price_from 0 (if same_name x name then m.list.items else block_in made name) n ≤ price_from 0 (if same_name g.name name then g.list.items else block_in given name) n) (sym z.0.name)
      (by (same_name g.name name) (prices_are given made z.1 name n))
    where
      by : (c : Bool) → price_in (block_in made) name n ≤ price_in (block_in given) name n → price_from 0 (if c then m.list.items else block_in made name) n ≤ price_from 0 (if c then g.list.items else block_in given name) n
      by true later = of_made (λ x l. price_from 0 l n ≤ price_from 0 g.list.items n) g m z.0 (λ c. price_of g c n)
      by false later = later

  are_apart : (given made : List SymBlock) → AllZip (IsThin f) given made → All IsApart given → All IsApart made
  are_apart [] [] z all = All-nil IsApart
  are_apart [] (m ∷ made) z all = absurd z
  are_apart (g ∷ given) [] z all = absurd z
  are_apart (g ∷ given) (m ∷ made) z all =
      All-cons IsApart m made (of_made (λ n l. NoSelectBehindSkip l) g m z.0 (λ c. apart_of g (all_first IsApart g given all) c)) (are_apart given made z.1 (all_others IsApart g given all))

  stay_near : (given made : List SymBlock) → AllZip (IsThin f) given made → All StaysNear given → All StaysNear made
  stay_near [] [] z all = All-nil StaysNear
  stay_near [] (m ∷ made) z all = absurd z
  stay_near (g ∷ given) [] z all = absurd z
  stay_near (g ∷ given) (m ∷ made) z all =
      All-cons StaysNear m made (of_made (λ n l. none_sets_rp1 l ≡ true) g m z.0 (λ c. near_of g (all_first StaysNear g given all) c)) (stay_near given made z.1 (all_others StaysNear g given all))

  all_reach : (placed : Placed) (given made : List SymBlock) → AllZip (IsThin f) given made → All (plain.Reaches placed) given → All (Reaches placed f) made
  all_reach placed [] [] z all = All-nil (Reaches placed f)
  all_reach placed [] (m ∷ made) z all = absurd z
  all_reach placed (g ∷ given) [] z all = absurd z
  all_reach placed (g ∷ given) (m ∷ made) z all =
      All-cons (Reaches placed f) m made
      (of_made (λ n l. all_hold (is_right placed f n) f n (f.front n) false l ≡ true) g m z.0 (λ c. reach_of placed g (all_first (plain.Reaches placed) g given all) c))
      (all_reach placed given made z.1 (all_others (plain.Reaches placed) g given all))

  pub are_lean : (given made : List SymBlock) → AllZip (IsWithoutKnown f) given made → All (IsLean f) made
  are_lean [] [] z = All-nil (IsLean f)
  are_lean [] (m ∷ made) z = absurd z
  are_lean (g ∷ given) [] z = absurd z
  are_lean (g ∷ given) (m ∷ made) z =
      All-cons (IsLean f) m made
      (subst (λ (n : BlockName). (if same_name n Start then true else is_lean f n (f.front n) false m.list.items) ≡ true) (sym z.0.name)
      (subst (λ (l : List Sym). (if same_name g.name Start then true else is_lean f g.name (f.front g.name) false l) ≡ true) (sym z.0.code) (lean_of g (same_name g.name Start))))
      (are_lean given made z.1)

  still_lead : (given made : List SymBlock) → AllZip (IsThin f) given made → All IsApart given → all_lead f given ≡ true → all_lead f made ≡ true
  still_lead [] [] z all lead = refl
  still_lead [] (m ∷ made) z all lead = absurd z
  still_lead (g ∷ given) [] z all lead = absurd z
  still_lead (g ∷ given) (m ∷ made) z all lead =
      let first : Bool = all_hold (leads f g.name) f g.name (f.front g.name) false g.list.items in
      and_both (all_hold (leads f m.name) f m.name (f.front m.name) false m.list.items) (all_lead f made)
      (of_made (λ n l. all_hold (leads f n) f n (f.front n) false l ≡ true) g m z.0 (λ c. lead_of g (all_first IsApart g given all) (and_first first (all_lead f given) lead) c))
      (still_lead given made z.1 (all_others IsApart g given all) (and_last first (all_lead f given) lead))

  still_consistent : (handler : Option ℕ) (given made : List SymBlock) → AllZip (IsThin f) given made → All IsApart given → is_consistent f handler given ≡ true → is_consistent f handler made ≡ true
  still_consistent handler given made z all c =
      let later = and_last (is_open f 0) (is_open_at f handler && all_lead f given) c in
      and_both (is_open f 0) (is_open_at f handler && all_lead f made) (and_first (is_open f 0) (is_open_at f handler && all_lead f given) c)
      (and_both (is_open_at f handler) (all_lead f made) (and_first (is_open_at f handler) (all_lead f given) later)
      (still_lead given made z all (and_last (is_open_at f handler) (all_lead f given) later)))

pub thinning_keeps : ThinningKeeps
thinning_keeps placed handler at given made thinned apart reaches =
    let f = thinned.facts in
    record {
      names = names_are f given made thinned.each;
      lists = bares_are f given made thinned.each;
      same = same_bare f given made thinned.each;
      shorter = are_shorter f given made thinned.each;
      prices = prices_are f given made thinned.each;
      apart = are_apart f given made thinned.each apart;
      mates = mates_thin f given made at thinned.each thinned.mates;
      consistent = still_consistent f handler given made thinned.each apart thinned.consistent;
      reaches = all_reach f placed given made thinned.each reaches;
    }

pub thinning_has_flow : ThinningHasFlow
thinning_has_flow given whole made handler placed at g h thinned apart reaches near same given_code made_code without with pages fit named limits leaves =
    let keeps = thinning_keeps placed handler at whole made thinned apart reaches in
    record {
      given_code = given_code;
      made_code = made_code;
      without = without;
      with = with;
      pages = pages;
      fit = fit;
      named = named;
      limits = limits;
      leaves = leaves;
      same = λ name. keeps.same name ∙ same name;
      apart = keeps.apart;
      mates = keeps.mates;
      consistent = keeps.consistent;
      reaches = keeps.reaches;
      near = λ low. stay_near thinned.facts whole made thinned.each (near low);
    }
