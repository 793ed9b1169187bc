-- Selects name the target of an instruction behind them, and putting them in or leaving them out takes no label away.
use Rattle.std.proofs.Common.{◌≡◌, ℕ, Bool, true, false, ◌||◌, if◌then◌else◌, List, [], ◌∷◌, ◌++◌, Option, Some, None, IsSome, refl, ap}
use Rattle.pic_map.specs.declared.Placed.{Placed}
use Rattle.sym_code.specs.Selects.{is_select}
use Rattle.sym_code.specs.declared.code.BlockName.{BlockName}
use Rattle.sym_code.specs.declared.code.Label.{Label}
use Rattle.sym_code.specs.declared.code.Sym.{Sym}
use Rattle.sym_code.specs.declared.code.Sym.TheVariants as syms
use Rattle.sym_code.specs.declared.code.SymBlock.{SymBlock}
use Rattle.sym_code.specs.declared.code.Target.{Target}
use Rattle.bank_page.specs.Kinds.{is_label, is_skip, byte_of, target_of}
use Rattle.bank_page.specs.Known.{knows, learned, writes_status, writes_pclath}
use Rattle.bank_page.specs.Needs.{both_banks, with_bank, both, banked, needs_one, needs_in}
use Rattle.bank_page.specs.Step.{bank_selects, page_selects, unknown, missing, missing_for, behind_bank, put_of, state_of, selected_from}
use Rattle.bank_page.specs.declared.known.Known.{Known}
use Rattle.bank_page.specs.declared.needs.Needs.{Needs}
use Rattle.bank_page.specs.declared.selecting.State.{State}
use Rattle.code_place.specs.Places as placing
use Rattle.flow_facts.specs.Facts.{Fact, Facts}
use Rattle.flow_facts.specs.Thin.{is_known, thin_from, thin}
use Rattle.flow_facts.specs.Walk.{fact_after, behind_after}
use Rattle.program_code.specs.Targets.{HasTarget, HaveTargets}
use Rattle.program_code.proofs.NamedTargets.{has_label, or_second, both_targets, has_left, has_right}

module _ (target : Target → Option ℕ) where
  abbrev AnyTarget : Option Target → Type 0
  AnyTarget None = Unit {0}
  AnyTarget (Some to) = IsSome (target to)

  abbrev NeedsTarget : Option Needs → Type 0
  NeedsTarget None = Unit {0}
  NeedsTarget (Some needs) = AnyTarget needs.page

  -- ---- what is needed
  own_target : (s : Sym) → HasTarget target s → AnyTarget (target_of s)
  own_target (syms.Call to) h = h
  own_target (syms.Goto to) h = h
  own_target (syms.Label label) h = tt
  own_target (syms.SelectBank bit on) h = tt
  own_target (syms.SelectPage bit to) h = tt
  own_target (syms.Table table root) h = absurd h
  own_target (syms.File op file into) h = tt
  own_target (syms.Movwf file) h = tt
  own_target (syms.Clrf file) h = tt
  own_target (syms.Bit op file bit) h = tt
  own_target (syms.Literal op value) h = tt
  own_target (syms.Plain op) h = tt

  one_needs : (s : Sym) (bank : Option (Option ℕ)) → HasTarget target s → NeedsTarget (needs_one s bank)
  one_needs s None h = tt
  one_needs s (Some bank) h = own_target s h

  with_needs : (bank : Option (Option ℕ)) (rest : Needs) → AnyTarget rest.page → NeedsTarget (with_bank bank rest)
  with_needs None rest h = tt
  with_needs (Some bank) rest h = h

  both_needs : (bank : Option (Option ℕ)) (rest : Option Needs) → NeedsTarget rest → NeedsTarget (both bank rest)
  both_needs None rest h = tt
  both_needs (Some bank) None h = tt
  both_needs (Some bank) (Some rest) h = with_needs (both_banks bank rest.bank) rest h

  needs_have : (placed : Placed) (list : List Sym) → HaveTargets target list → NeedsTarget (needs_in placed list)
  needs_have placed [] h = tt
  needs_have placed (s ∷ rest) h = by (is_select s) (is_label s) (is_skip s) (writes_status s || writes_pclath s) (needs_have placed rest h.1) where
    by : (select label skip writes : Bool) → NeedsTarget (needs_in placed rest)
        → NeedsTarget (if select then needs_in placed rest else (if label then None else (if skip then (if writes then None else both (banked placed (byte_of s)) (needs_in placed rest)) else needs_one s (banked placed (byte_of s)))))
    by true label skip writes below = below
    by false true skip writes below = tt
    by false false true true below = tt
    by false false true false below = both_needs (banked placed (byte_of s)) (needs_in placed rest) below
    by false false false writes below = one_needs s (banked placed (byte_of s)) h.0

  -- ---- what is put
  unknown_have : (b : Bool) (s : Sym) → HasTarget target s → HaveTargets target (if b then [] else s ∷ [])
  unknown_have true s h = tt
  unknown_have false s h = (h, tt)

  missing_have : (own : BlockName) (known : Known) (list : List Sym) → HaveTargets target list → HaveTargets target (missing own known list)
  missing_have own known [] h = tt
  missing_have own known (s ∷ list) h =
      both_targets target (unknown own known s) (missing own (learned own known s) list) (unknown_have (knows own known s) s h.0) (missing_have own (learned own known s) list h.1)

  bank_have : (bank : Option ℕ) → HaveTargets target (bank_selects bank)
  bank_have None = tt
  bank_have (Some bank) = (tt, (tt, tt))

  page_have : (page : Option Target) → AnyTarget page → HaveTargets target (page_selects page)
  page_have None h = tt
  page_have (Some to) h = (h, (h, tt))

  put_have : (select plain : Bool) (own : BlockName) (st : State) (s : Sym) (needs : Option Needs) → HasTarget target s → NeedsTarget needs → HaveTargets target (put_of select plain own st s needs)
  put_have true plain own st s needs h n = tt
  put_have false true own st s needs h n = (h, tt)
  put_have false false own st s None h n = (h, tt)
  put_have false false own st s (Some needs) h n =
      both_targets target (missing_for own st.known needs) (s ∷ [])
      (both_targets target (missing own st.known (bank_selects needs.bank)) (missing own (behind_bank own st.known needs) (page_selects needs.page))
      (missing_have own st.known (bank_selects needs.bank) (bank_have needs.bank))
      (missing_have own (behind_bank own st.known needs) (page_selects needs.page) (page_have needs.page n)))
      (h, tt)

  -- What becomes of a list by its selects names nothing else.
  pub selected_have : (placed : Placed) (own : BlockName) (st : State) (list : List Sym) → HaveTargets target list → HaveTargets target (selected_from placed own st list)
  selected_have placed own st [] h = tt
  selected_have placed own st (s ∷ rest) h =
      let plain = st.behind || is_label s in
      let needs = needs_in placed (s ∷ rest) in
      both_targets target (put_of (is_select s) plain own st s needs) (selected_from placed own (state_of (is_select s) plain own st s needs) rest)
      (put_have (is_select s) plain own st s needs h.0 (needs_have placed (s ∷ rest) h))
      (selected_have placed own (state_of (is_select s) plain own st s needs) rest h.1)

  -- .. and so what is left of it
  thin_have_from : (f : Facts) (own : BlockName) (fact : Fact) (behind : Bool) (list : List Sym) → HaveTargets target list → HaveTargets target (thin_from f own fact behind list)
  thin_have_from f own fact behind [] h = tt
  thin_have_from f own fact behind (s ∷ list) h =
      by (is_known f own fact s) (thin_have_from f own fact behind list h.1) (thin_have_from f own (fact_after f own fact behind s) (behind_after behind s) list h.1) where
        by : (b : Bool) → HaveTargets target (thin_from f own fact behind list) → HaveTargets target (thin_from f own (fact_after f own fact behind s) (behind_after behind s) list)
            → HaveTargets target (if b then thin_from f own fact behind list else s ∷ thin_from f own (fact_after f own fact behind s) (behind_after behind s) list)
        by true out in_it = out
        by false out in_it = (h.0, in_it)

  pub thin_have : (f : Facts) (whole : Bool) (block : SymBlock) → HaveTargets target block.list.items → HaveTargets target (thin f whole block)
  thin_have f true block h = h
  thin_have f false block h = thin_have_from f block.name (f.front block.name) false block.list.items h

-- ---- labels stay
no_select : (label : Label) (s : Sym) → placing.is_label label (placing.label_of s) ≡ true → is_select s ≡ false
no_select label (syms.Label other) e = refl
no_select label (syms.SelectBank bit on) e = absurd (cc)
no_select label (syms.SelectPage bit to) e = absurd (cc)
no_select label (syms.Table table root) e = absurd (cc)
no_select label (syms.File op file into) e = absurd (cc)
no_select label (syms.Movwf file) e = absurd (cc)
no_select label (syms.Clrf file) e = absurd (cc)
no_select label (syms.Bit op file bit) e = absurd (cc)
no_select label (syms.Literal op value) e = absurd (cc)
no_select label (syms.Plain op) e = absurd (cc)
no_select label (syms.Call to) e = absurd (cc)
no_select label (syms.Goto to) e = absurd (cc)

not_known : (f : Facts) (own : BlockName) (fact : Fact) (label : Label) (s : Sym) → placing.is_label label (placing.label_of s) ≡ true → is_known f own fact s ≡ false
not_known f own None label s e = no_select label s e
not_known f own (Some known) label (syms.Label other) e = refl
not_known f own (Some known) label (syms.SelectBank bit on) e = absurd (cc)
not_known f own (Some known) label (syms.SelectPage bit to) e = absurd (cc)
not_known f own (Some known) label (syms.Table table root) e = absurd (cc)
not_known f own (Some known) label (syms.File op file into) e = absurd (cc)
not_known f own (Some known) label (syms.Movwf file) e = absurd (cc)
not_known f own (Some known) label (syms.Clrf file) e = absurd (cc)
not_known f own (Some known) label (syms.Bit op file bit) e = absurd (cc)
not_known f own (Some known) label (syms.Literal op value) e = absurd (cc)
not_known f own (Some known) label (syms.Plain op) e = absurd (cc)
not_known f own (Some known) label (syms.Call to) e = absurd (cc)
not_known f own (Some known) label (syms.Goto to) e = absurd (cc)

put_keeps : (label : Label) (select plain : Bool) (own : BlockName) (st : State) (s : Sym) (needs : Option Needs) → select ≡ false → has_label label (s ∷ []) ≡ true → has_label label (put_of select plain own st s needs) ≡ true
put_keeps label true plain own st s needs e h = absurd (cc)
put_keeps label false true own st s needs e h = h
put_keeps label false false own st s None e h = h
put_keeps label false false own st s (Some needs) e h = has_right label (missing_for own st.known needs) (s ∷ []) h

pub selected_keeps : (label : Label) (placed : Placed) (own : BlockName) (st : State) (list : List Sym) → has_label label list ≡ true → has_label label (selected_from placed own st list) ≡ true
selected_keeps label placed own st [] h = absurd (cc)
selected_keeps label placed own st (s ∷ rest) h = by (placing.is_label label (placing.label_of s)) refl h (selected_keeps label placed own (state_of (is_select s) (st.behind || is_label s) own st s (needs_in placed (s ∷ rest))) rest) where
  put : List Sym
  put = put_of (is_select s) (st.behind || is_label s) own st s (needs_in placed (s ∷ rest))

  more : List Sym
  more = selected_from placed own (state_of (is_select s) (st.behind || is_label s) own st s (needs_in placed (s ∷ rest))) rest

  by : (b : Bool) → placing.is_label label (placing.label_of s) ≡ b → (b || has_label label rest) ≡ true → (has_label label rest ≡ true → has_label label more ≡ true) → has_label label (put ++ more) ≡ true
  by true is all below =
      has_left label put more (put_keeps label (is_select s) (st.behind || is_label s) own st s (needs_in placed (s ∷ rest)) (no_select label s is) (ap (λ b. b || false) is))
  by false is all below = has_right label put more (below all)

thin_keeps_from : (label : Label) (f : Facts) (own : BlockName) (fact : Fact) (behind : Bool) (list : List Sym) → has_label label list ≡ true → has_label label (thin_from f own fact behind list) ≡ true
thin_keeps_from label f own fact behind [] h = absurd (cc)
thin_keeps_from label f own fact behind (s ∷ list) h =
    by (placing.is_label label (placing.label_of s)) (is_known f own fact s) refl refl h (thin_keeps_from label f own fact behind list) (thin_keeps_from label f own (fact_after f own fact behind s) (behind_after behind s) list) where
      out : List Sym
      out = thin_from f own fact behind list

      in_it : List Sym
      in_it = thin_from f own (fact_after f own fact behind s) (behind_after behind s) list

      by : (b k : Bool) → placing.is_label label (placing.label_of s) ≡ b → is_known f own fact s ≡ k → (b || has_label label list) ≡ true → (has_label label list ≡ true → has_label label out ≡ true) → (has_label label list ≡ true → has_label label in_it ≡ true)
          → has_label label (if k then out else s ∷ in_it) ≡ true
      by true true is known all o i = let other = not_known f own fact label s is in absurd (cc)
      by true false is known all o i = ap (λ b. b || has_label label in_it) is
      by false true is known all o i = o all
      by false false is known all o i = or_second (placing.is_label label (placing.label_of s)) (has_label label in_it) (i all)

pub thin_keeps : (label : Label) (f : Facts) (whole : Bool) (block : SymBlock) → has_label label block.list.items ≡ true → has_label label (thin f whole block) ≡ true
thin_keeps label f true block h = h
thin_keeps label f false block h = thin_keeps_from label f block.name (f.front block.name) false block.list.items h
