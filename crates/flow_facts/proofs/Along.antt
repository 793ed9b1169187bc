-- Along a block: by flow facts no less is known than by straight code, and what is needed is found.
use Rattle.std.proofs.Common.{◌≡◌, Bool, true, false, not, ◌&&◌, if◌then◌else◌, List, [], ◌∷◌, Some, None, refl, sym, ap, ◌∙◌, subst}
use Rattle.pic_map.specs.declared.Placed.{Placed}
use Rattle.sym_code.specs.Programs.{block_of}
use Rattle.sym_code.specs.Selects.{is_select}
use Rattle.sym_code.specs.declared.code.BankBit.TheVariants.{Rp0, Rp1}
use Rattle.sym_code.specs.declared.code.BlockName.{BlockName}
use Rattle.sym_code.specs.declared.code.Sym.{Sym}
use Rattle.sym_code.specs.declared.code.Sym.TheVariants as syms
use Rattle.bank_page.specs.Kinds.{is_label, is_skip}
use Rattle.bank_page.specs.Known.{nothing, after, ends, left, learned, knows, seen_after, writes_status, writes_pclath}
use Rattle.bank_page.specs.Selected as plain
use Rattle.bank_page.specs.Selected.{seen, all_pass}
use Rattle.bank_page.specs.declared.known.Known.{Known}
use Rattle.bank_page.specs.declared.selecting.State.{State}
use Rattle.flow_facts.specs.Facts.{Fact, Facts, gives, gives_known, at_label}
use Rattle.flow_facts.specs.Walk.{mated, is_right, called, fact_after, behind_after, holds_of, all_hold}
use Rattle.flow_facts.specs.Laws.{is_lean}
use Rattle.flow_facts.specs.Thin.{is_known, thin_from}
use Rattle.flow_facts.proofs.More.{never, and_first, and_last, and_both, Gives, by_mates, given_parts, given_whole, left_more, learned_more, knows_more, knows_mated, right_more}
use Rattle.flow_facts.proofs.Plain.{gives_nothing}

-- ---- what a known select is
pub known_select : (f : Facts) (own : BlockName) (fact : Fact) (s : Sym) → is_known f own fact s ≡ true → is_select s ≡ true
known_select f own None s e = e
known_select f own (Some known) (syms.SelectBank Rp0 on) e = refl
known_select f own (Some known) (syms.SelectBank Rp1 on) e = refl
known_select f own (Some known) (syms.SelectPage bit target) e = refl
known_select f own (Some known) s e = never e

pub select_no_skip : (s : Sym) → is_select s ≡ true → is_skip s ≡ false
select_no_skip (syms.SelectBank bit on) e = refl
select_no_skip (syms.SelectPage bit target) e = refl
select_no_skip s e = never e

pub select_no_label : (s : Sym) → is_select s ≡ true → is_label s ≡ false
select_no_label (syms.SelectBank bit on) e = refl
select_no_label (syms.SelectPage bit target) e = refl
select_no_label s e = never e

pub skip_behind : (behind : Bool) (s : Sym) → is_skip s ≡ true → behind_after behind s ≡ true
skip_behind behind (syms.File op file into) e = e
skip_behind behind (syms.Bit op file bit) e = e
skip_behind behind s e = never e

-- ---- one instruction
module _ (f : Facts) (own : BlockName) where
  passed_more : (ended behind b : Bool) (a k : Known) → (b ≡ true → behind ≡ true) → Gives a (by_mates f k) → gives (if ended && not behind then None else Some a) (Some (by_mates f (if ended && not b then nothing else k))) ≡ true
  passed_more false behind b a k r g = given_whole a (by_mates f k) g
  passed_more true false b a k r g = refl
  passed_more true true true a k r g = given_whole a (by_mates f k) g
  passed_more true true false a k r g = refl

  selected_more : (a k : Known) (s : Sym) → Gives a (by_mates f k) → gives_known (learned own a (mated f own s)) (by_mates f (learned own k s)) ≡ true
  selected_more a k s g = given_whole (learned own a (mated f own s)) (by_mates f (learned own k s)) (learned_more f a k g own s)

  live_more : (a k : Known) (behind b : Bool) (s : Sym) → (b ≡ true → behind ≡ true) → Gives a (by_mates f k) → gives (fact_after f own (Some a) behind s) (Some (by_mates f (seen_after own k s b))) ≡ true
  live_more a k behind b (syms.Label label) r g = gives_nothing (at_label f own label)
  live_more a k behind b (syms.Call target) r g = gives_nothing (called (f.back (block_of own target)) a behind)
  live_more a k behind b (syms.SelectBank Rp0 on) r g = selected_more a k (syms.SelectBank Rp0 on) g
  live_more a k behind b (syms.SelectBank Rp1 on) r g = selected_more a k (syms.SelectBank Rp1 on) g
  live_more a k behind b (syms.SelectPage bit target) r g = selected_more a k (syms.SelectPage bit target) g
  live_more a k behind b s r g =
      let t = writes_status s in
      let p = writes_pclath s in
      passed_more (ends s) behind b (left a s t p) (left k s t p) r (left_more f a k g s)

  pub fact_more : (fact : Fact) (k : Known) (behind b : Bool) (s : Sym) → (b ≡ true → behind ≡ true) → gives fact (Some (by_mates f k)) ≡ true → gives (fact_after f own fact behind s) (Some (by_mates f (seen_after own k s b))) ≡ true
  fact_more None k behind b (syms.Label label) r g = gives_nothing (at_label f own label)
  fact_more None k behind b s r g = refl
  fact_more (Some a) k behind b s r g = live_more a k behind b s r (given_parts a (by_mates f k) g)

  pub known_more : (fact : Fact) (k : Known) (s : Sym) → is_known f own fact s ≡ true → gives fact (Some (by_mates f k)) ≡ true → gives fact (Some (by_mates f (learned own k s))) ≡ true
  known_more None k s e g = refl
  known_more (Some a) k s e g = given_whole a (by_mates f (learned own k s)) (knows_more f a k (given_parts a (by_mates f k) g) own s e)

  -- ---- no less is left out
  knows_select : (k : Known) (s : Sym) → knows own k s ≡ true → is_select s ≡ true
  knows_select k (syms.SelectBank Rp0 on) e = refl
  knows_select k (syms.SelectBank Rp1 on) e = refl
  knows_select k (syms.SelectPage bit target) e = refl
  knows_select k s e = never e

  is_known_more : (fact : Fact) (k : Known) (s : Sym) → gives fact (Some (by_mates f k)) ≡ true → knows own k s ≡ true → is_known f own fact s ≡ true
  is_known_more None k s g e = knows_select k s e
  is_known_more (Some a) k s g e = knows_mated f a k (given_parts a (by_mates f k) g) own s e

  lean_more : (fact : Fact) (k : Known) (s : Sym) → gives fact (Some (by_mates f k)) ≡ true → not (is_known f own fact s) ≡ true → plain.is_lean own k s ≡ true
  lean_more fact k s g e = by (knows own k s) refl
    where
      by : (c : Bool) → knows own k s ≡ c → not c ≡ true
      by true is = sym (ap not (is_known_more fact k s g is)) ∙ e
      by false is = refl

  -- where no select sets what flow facts tell, none sets what straight code does
  pub lean_plainly : (fact : Fact) (behind : Bool) (k : Known) (b : Bool) (list : List Sym) → (b ≡ true → behind ≡ true) → gives fact (Some (by_mates f k)) ≡ true → is_lean f own fact behind list ≡ true
      → all_pass (plain.is_lean own) own (record { known = k; behind = b }) list ≡ true
  lean_plainly fact behind k b [] r g e = refl
  lean_plainly fact behind k b (s ∷ list) r g e =
      let rest : Bool = is_lean f own (fact_after f own fact behind s) (behind_after behind s) list in
      and_both (plain.is_lean own k s) (all_pass (plain.is_lean own) own (record { known = seen_after own k s b; behind = is_skip s }) list)
      (lean_more fact k s g (and_first (not (is_known f own fact s)) rest e))
      (lean_plainly (fact_after f own fact behind s) (behind_after behind s) (seen_after own k s b) (is_skip s) list (skip_behind behind s) (fact_more fact k behind b s r g) (and_last (not (is_known f own fact s)) rest e))

  module _ (placed : Placed) where
    abbrev Right : Known → Sym → Bool
    Right = is_right placed f own

    -- .. by what straight code knows
    abbrev Plain : Known → Sym → Bool
    Plain = plain.is_right placed own

    holds_more : (fact : Fact) (k : Known) (s : Sym) → gives fact (Some (by_mates f k)) ≡ true → Plain k s ≡ true → holds_of Right fact s ≡ true
    holds_more None k s g e = refl
    holds_more (Some a) k s g e = right_more f a k (given_parts a (by_mates f k) g) placed own s e

    -- ---- a whole list
    pub right_whole : (fact : Fact) (behind : Bool) (k : Known) (b : Bool) (list : List Sym) → (b ≡ true → behind ≡ true) → gives fact (Some (by_mates f k)) ≡ true → all_pass Plain own (record { known = k; behind = b }) list ≡ true → all_hold Right f own fact behind list ≡ true
    right_whole fact behind k b [] r g e = refl
    right_whole fact behind k b (s ∷ list) r g e =
        let state : State = record { known = k; behind = b } in
        and_both (holds_of Right fact s) (all_hold Right f own (fact_after f own fact behind s) (behind_after behind s) list)
        (holds_more fact k s g (and_first (Plain k s) (all_pass Plain own (seen own state s) list) e))
        (right_whole (fact_after f own fact behind s) (behind_after behind s) (seen_after own k s b) (is_skip s) list (skip_behind behind s) (fact_more fact k behind b s r g) (and_last (Plain k s) (all_pass Plain own (seen own state s) list) e))

    pub right_thin : (fact : Fact) (behind : Bool) (k : Known) (b : Bool) (list : List Sym) → (b ≡ true → behind ≡ true) → gives fact (Some (by_mates f k)) ≡ true → all_pass Plain own (record { known = k; behind = b }) list ≡ true → all_hold Right f own fact behind (thin_from f own fact behind list) ≡ true
    right_thin fact behind k b [] r g e = refl
    right_thin fact behind k b (s ∷ list) r g e =
        by (is_known f own fact s) refl (λ x y. right_thin fact behind x y list) (right_thin (fact_after f own fact behind s) (behind_after behind s) (seen_after own k s b) (is_skip s) list)
      where
        later : all_pass Plain own (record { known = seen_after own k s b; behind = is_skip s }) list ≡ true
        later = and_last (Plain k s) (all_pass Plain own (seen own (record { known = k; behind = b }) s) list) e

        by : (c : Bool) → is_known f own fact s ≡ c
            → ((x : Known) (y : Bool) → (y ≡ true → behind ≡ true) → gives fact (Some (by_mates f x)) ≡ true → all_pass Plain own (record { known = x; behind = y }) list ≡ true → all_hold Right f own fact behind (thin_from f own fact behind list) ≡ true)
            → ((is_skip s ≡ true → behind_after behind s ≡ true) → gives (fact_after f own fact behind s) (Some (by_mates f (seen_after own k s b))) ≡ true → all_pass Plain own (record { known = seen_after own k s b; behind = is_skip s }) list ≡ true
            → all_hold Right f own (fact_after f own fact behind s) (behind_after behind s) (thin_from f own (fact_after f own fact behind s) (behind_after behind s) list) ≡ true)
            → all_hold Right f own fact behind (if c then thin_from f own fact behind list else s ∷ thin_from f own (fact_after f own fact behind s) (behind_after behind s) list) ≡ true
        by true known same next =
            let select = known_select f own fact s known in
            same (learned own k s) (is_skip s) (λ skip. never (sym (select_no_skip s select) ∙ skip)) (known_more fact k s known g)
            (subst (λ (c : Bool). all_pass Plain own (record { known = if c then learned own k s else after k s b; behind = is_skip s }) list ≡ true) select later)
        by false known same next =
            and_both (holds_of Right fact s) (all_hold Right f own (fact_after f own fact behind s) (behind_after behind s) (thin_from f own (fact_after f own fact behind s) (behind_after behind s) list))
            (holds_more fact k s g (and_first (Plain k s) (all_pass Plain own (seen own (record { known = k; behind = b }) s) list) e))
            (next (skip_behind behind s) (fact_more fact k behind b s r g) later)
