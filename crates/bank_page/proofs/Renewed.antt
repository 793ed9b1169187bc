-- Where no select sets what straight code knows, none is needless; and what beside selects stands in a block stays.
use Rattle.std.proofs.Common.{◌≡◌, ℕ, Bool, true, false, not, ◌&&◌, ◌||◌, if◌then◌else◌, List, [], ◌∷◌, ◌++◌, All, Option, Some, None, refl, sym, ap, ◌∙◌, subst}
use Rattle.std.specs.List.{filter, AllZip}
use Rattle.std.proofs.lemmas.Bool.{eqb-true, eq-eqb}
use Rattle.sym_code.specs.Programs.{same_name, block_of}
use Rattle.sym_code.specs.Selects.{is_select, bare}
use Rattle.sym_code.specs.declared.code.BankBit.TheVariants as bank_bits
use Rattle.sym_code.specs.declared.code.BlockName.{BlockName}
use Rattle.sym_code.specs.declared.code.BlockName.TheVariants as names
use Rattle.sym_code.specs.declared.code.PageBit.TheVariants as page_bits
use Rattle.sym_code.specs.declared.code.Sym.{Sym}
use Rattle.sym_code.specs.declared.code.Sym.TheVariants as syms
use Rattle.sym_code.specs.declared.code.SymBlock.{SymBlock}
use Rattle.sym_code.specs.declared.code.Target.{Target}
use Rattle.bank_page.specs.Kinds.{is_label, is_skip}
use Rattle.bank_page.specs.Known.{nothing, after, ends, forgets, kept, left, learned, knows, seen_after, same_bit, is_bit, is_page, is_of_bit, writes_status, writes_pclath}
use Rattle.bank_page.specs.Needless.{set_one, one_value, are_same, can_change, may_renew, is_renewed, NoneIsNeedless, writes_selected, selects_pointed, KeepsOthers}
use Rattle.bank_page.specs.Selected.{is_lean, front, seen, all_pass, is_lean_all, IsLean, names_of, bare_lists}
use Rattle.bank_page.specs.declared.known.Known.{Known}
use Rattle.bank_page.specs.declared.selecting.State.{State}
use Rattle.bank_page.proofs.Chains.{true_false, and_left, and_right}
use Rattle.bank_page.proofs.Steps.{block_same}

never : {A : Type 0} → false ≡ true → A
never e = absurd (true_false (sym e))

-- ---- tests
or_left : (a b : Bool) → (a || b) ≡ false → a ≡ false
or_left true b e = never (sym e)
or_left false b e = refl

or_right : (a b : Bool) → (a || b) ≡ false → b ≡ false
or_right true b e = never (sym e)
or_right false b e = e

not_false : (a : Bool) → not a ≡ false → a ≡ true
not_false true e = refl
not_false false e = never (sym e)

bit_itself : (on : Bool) → same_bit on on ≡ true
bit_itself true = refl
bit_itself false = refl

bit_turned : (a b : Bool) → same_bit a b ≡ true → same_bit b a ≡ true
bit_turned true true e = refl
bit_turned true false e = e
bit_turned false true e = e
bit_turned false false e = refl

bits_are : (a b : Bool) → same_bit a b ≡ true → a ≡ b
bits_are true true e = refl
bits_are true false e = never e
bits_are false true e = never e
bits_are false false e = refl

name_itself : (a : BlockName) → same_name a a ≡ true
name_itself names.Start = refl
name_itself (names.Copy c) = eq-eqb c c refl

name_turned : (a b : BlockName) → same_name a b ≡ true → same_name b a ≡ true
name_turned a b e = ap (λ (x : BlockName). same_name x a) (sym (block_same a b e)) ∙ name_itself a

bit_stays : (changed : Bool) (known : Option Bool) (on : Bool) → changed ≡ false → is_bit known on ≡ true → is_bit (kept changed known) on ≡ true
bit_stays true known on e h = never (sym e)
bit_stays false known on e h = h

page_stays : (changed : Bool) (known : Option BlockName) (name : BlockName) → changed ≡ false → is_page known name ≡ true → is_page (kept changed known) name ≡ true
page_stays true known name e h = never (sym e)
page_stays false known name e h = h

module _ (own : BlockName) where
  -- ---- behind a select
  knows_itself : (known : Known) (s : Sym) → is_select s ≡ true → knows own (learned own known s) s ≡ true
  knows_itself known (syms.SelectBank bank_bits.Rp0 on) e = bit_itself on
  knows_itself known (syms.SelectBank bank_bits.Rp1 on) e = bit_itself on
  knows_itself known (syms.SelectBank bank_bits.Irp on) e = never e
  knows_itself known (syms.SelectPage page_bits.Low target) e = name_itself (block_of own target)
  knows_itself known (syms.SelectPage page_bits.High target) e = name_itself (block_of own target)
  knows_itself known s e = never e

  select_ends : (s : Sym) → is_select s ≡ true → is_skip s ≡ false
  select_ends (syms.SelectBank bit on) e = refl
  select_ends (syms.SelectPage bit target) e = refl
  select_ends s e = never e

  -- the same select is known as well
  knows_same : (known : Known) (s t : Sym) → is_select s ≡ true → set_one s t ≡ true → one_value own s t ≡ true → knows own known s ≡ true → knows own known t ≡ true
  knows_same known (syms.SelectBank bank_bits.Rp0 on) (syms.SelectBank bank_bits.Rp0 off) e one value k = subst (λ (b : Bool). is_bit known.rp0 b ≡ true) (bits_are on off value) k
  knows_same known (syms.SelectBank bank_bits.Rp1 on) (syms.SelectBank bank_bits.Rp1 off) e one value k = subst (λ (b : Bool). is_bit known.rp1 b ≡ true) (bits_are on off value) k
  knows_same known (syms.SelectPage page_bits.Low target) (syms.SelectPage page_bits.Low other) e one value k = subst (λ (n : BlockName). is_page known.low n ≡ true) (block_same (block_of own target) (block_of own other) value) k
  knows_same known (syms.SelectPage page_bits.High target) (syms.SelectPage page_bits.High other) e one value k = subst (λ (n : BlockName). is_page known.high n ≡ true) (block_same (block_of own target) (block_of own other) value) k
  knows_same known (syms.SelectBank bank_bits.Irp on) t e one value k = never e
  knows_same known s t e one value k = never one

  -- ---- behind another instruction
  -- a select
  abbrev Stays : Known → Sym → Sym → Type 0
  Stays known s t = is_select t ≡ true → (set_one s t && not (one_value own s t)) ≡ false → knows own known s ≡ true → knows own (learned own known t) s ≡ true

  by_first : (known : Known) (on : Bool) (t : Sym) → Stays known (syms.SelectBank bank_bits.Rp0 on) t
  by_first known on (syms.SelectBank bank_bits.Rp0 off) f same k = bit_turned on off (not_false (same_bit on off) same)
  by_first known on (syms.SelectBank bank_bits.Rp1 off) f same k = k
  by_first known on (syms.SelectPage page_bits.Low other) f same k = k
  by_first known on (syms.SelectPage page_bits.High other) f same k = k
  by_first known on t f same k = never f

  by_second : (known : Known) (on : Bool) (t : Sym) → Stays known (syms.SelectBank bank_bits.Rp1 on) t
  by_second known on (syms.SelectBank bank_bits.Rp0 off) f same k = k
  by_second known on (syms.SelectBank bank_bits.Rp1 off) f same k = bit_turned on off (not_false (same_bit on off) same)
  by_second known on (syms.SelectPage page_bits.Low other) f same k = k
  by_second known on (syms.SelectPage page_bits.High other) f same k = k
  by_second known on t f same k = never f

  by_low : (known : Known) (target : Target) (t : Sym) → Stays known (syms.SelectPage page_bits.Low target) t
  by_low known target (syms.SelectBank bank_bits.Rp0 off) f same k = k
  by_low known target (syms.SelectBank bank_bits.Rp1 off) f same k = k
  by_low known target (syms.SelectPage page_bits.Low other) f same k = name_turned (block_of own target) (block_of own other) (not_false (same_name (block_of own target) (block_of own other)) same)
  by_low known target (syms.SelectPage page_bits.High other) f same k = k
  by_low known target t f same k = never f

  by_high : (known : Known) (target : Target) (t : Sym) → Stays known (syms.SelectPage page_bits.High target) t
  by_high known target (syms.SelectBank bank_bits.Rp0 off) f same k = k
  by_high known target (syms.SelectBank bank_bits.Rp1 off) f same k = k
  by_high known target (syms.SelectPage page_bits.Low other) f same k = k
  by_high known target (syms.SelectPage page_bits.High other) f same k = name_turned (block_of own target) (block_of own other) (not_false (same_name (block_of own target) (block_of own other)) same)
  by_high known target t f same k = never f

  by_select : (known : Known) (s t : Sym) → is_select s ≡ true → Stays known s t
  by_select known (syms.SelectBank bank_bits.Rp0 on) t e = by_first known on t
  by_select known (syms.SelectBank bank_bits.Rp1 on) t e = by_second known on t
  by_select known (syms.SelectPage page_bits.Low target) t e = by_low known target t
  by_select known (syms.SelectPage page_bits.High target) t e = by_high known target t
  by_select known s t e = never e

  -- no select
  by_left : (known : Known) (s t : Sym) → is_select s ≡ true → can_change s t ≡ false → knows own known s ≡ true → knows own (left known t (writes_status t) (writes_pclath t)) s ≡ true
  by_left known (syms.SelectBank bank_bits.Rp0 on) t e same k = bit_stays (writes_status t && is_of_bit t 5) known.rp0 on same k
  by_left known (syms.SelectBank bank_bits.Rp1 on) t e same k = bit_stays (writes_status t && is_of_bit t 6) known.rp1 on same k
  by_left known (syms.SelectBank bank_bits.Irp on) t e same k = never e
  by_left known (syms.SelectPage page_bits.Low target) t e same k = page_stays (writes_pclath t && is_of_bit t 3) known.low (block_of own target) same k
  by_left known (syms.SelectPage page_bits.High target) t e same k = page_stays (writes_pclath t && is_of_bit t 4) known.high (block_of own target) same k
  by_left known s t e same k = never e

  knows_on : (known : Known) (behind : Bool) (s t : Sym) → is_select s ≡ true → may_renew own s behind t ≡ false → knows own known s ≡ true → knows own (seen_after own known t behind) s ≡ true
  knows_on known behind s t e stays k = by (is_select t) refl
    where
      stop : Bool
      stop = forgets t || (ends t && not behind)

      others : ((set_one s t && not (one_value own s t)) || can_change s t) ≡ false
      others = or_right stop ((set_one s t && not (one_value own s t)) || can_change s t) stays

      plainly : (c : Bool) → c ≡ false → knows own (if c then nothing else left known t (writes_status t) (writes_pclath t)) s ≡ true
      plainly true is = never (sym is)
      plainly false is = by_left known s t e (or_right (set_one s t && not (one_value own s t)) (can_change s t) others) k

      by : (c : Bool) → is_select t ≡ c → knows own (if c then learned own known t else after known t behind) s ≡ true
      by true is = by_select known s t e is (or_left (set_one s t && not (one_value own s t)) (can_change s t) others) k
      by false is = plainly stop (or_left stop ((set_one s t && not (one_value own s t)) || can_change s t) stays)

  -- ---- a whole list
  abbrev Lean : State → List Sym → Bool
  Lean st list = all_pass (is_lean own) own st list

  renewed : (s t : Sym) (later : List Sym) → is_select s ≡ true → are_same own s t ≡ true → (st : State) (list : List Sym) → knows own st.known s ≡ true → Lean st (list ++ t ∷ later) ≡ true → is_renewed own s st.behind list ≡ true
  renewed s t later e same st [] k lean =
      let known = knows_same st.known s t e (and_left (set_one s t) (one_value own s t) same) (and_right (set_one s t) (one_value own s t) same) k in
      never (sym (ap not known) ∙ and_left (is_lean own st.known t) (Lean (seen own st t) later) lean)
  renewed s t later e same st (x ∷ list) k lean =
      by (may_renew own s st.behind x) refl
      (λ next. renewed s t later e same (seen own st x) list next (and_right (is_lean own st.known x) (Lean (seen own st x) (list ++ t ∷ later)) lean))
    where
      by : (c : Bool) → may_renew own s st.behind x ≡ c → (knows own (seen_after own st.known x st.behind) s ≡ true → is_renewed own s (is_skip x) list ≡ true) → (c || is_renewed own s (is_skip x) list) ≡ true
      by true is next = refl
      by false is next = next (knows_on st.known st.behind s x e is k)

  from_first : (s t : Sym) (list later : List Sym) → is_select s ≡ true → are_same own s t ≡ true → (st : State) (before : List Sym) → Lean st (before ++ s ∷ list ++ t ∷ later) ≡ true → is_renewed own s false list ≡ true
  from_first s t list later e same st [] lean =
      let known : knows own (seen_after own st.known s st.behind) s ≡ true =
      ap (λ (c : Bool). knows own (if c then learned own st.known s else after st.known s st.behind) s) e ∙ knows_itself st.known s e in
      ap (λ (b : Bool). is_renewed own s b list) (sym (select_ends s e))
      ∙ renewed s t later e same (seen own st s) list known (and_right (is_lean own st.known s) (Lean (seen own st s) (list ++ t ∷ later)) lean)
  from_first s t list later e same st (x ∷ before) lean =
      from_first s t list later e same (seen own st x) before (and_right (is_lean own st.known x) (Lean (seen own st x) (before ++ s ∷ list ++ t ∷ later)) lean)

-- where no select sets what straight code knows, none is needless
pub none_needless : (block : SymBlock) → IsLean block → NoneIsNeedless block
none_needless block lean = record {
  between = λ before list behind first second is select same. from_first block.name first second list behind select same front before (ap (λ (l : List Sym). all_pass (is_lean block.name) block.name front l) (sym is) ∙ lean);
}

-- ---- what isn't selected
module _ (test : Sym → Bool) (others : (s : Sym) → is_select s ≡ true → test s ≡ false) where
  in_bare : (list : List Sym) → filter test list ≡ filter test (bare list)
  in_bare [] = refl
  in_bare (s ∷ list) = by (is_select s) refl (in_bare list)
    where
      by : (c : Bool) → is_select s ≡ c → filter test list ≡ filter test (bare list) → (if test s then s ∷ filter test list else filter test list) ≡ filter test (if not c then s ∷ bare list else bare list)
      by true is rest = ap (λ (b : Bool). if b then s ∷ filter test list else filter test list) (others s is) ∙ rest
      by false is rest = ap (λ (l : List Sym). if test s then s ∷ l else l) rest

  same_in_bare : (made given : List Sym) → bare made ≡ bare given → filter test made ≡ filter test given
  same_in_bare made given same = in_bare made ∙ ap (filter test) same ∙ sym (in_bare given)

select_no_label : (s : Sym) → is_select s ≡ true → is_label s ≡ false
select_no_label (syms.SelectBank bit on) e = refl
select_no_label (syms.SelectPage bit target) e = refl
select_no_label s e = never e

select_writes_none : (s : Sym) → is_select s ≡ true → writes_selected s ≡ false
select_writes_none (syms.SelectBank bit on) e = refl
select_writes_none (syms.SelectPage bit target) e = refl
select_writes_none s e = never e

select_points_not : (s : Sym) → is_select s ≡ true → selects_pointed s ≡ false
select_points_not (syms.SelectBank bank_bits.Rp0 on) e = refl
select_points_not (syms.SelectBank bank_bits.Rp1 on) e = refl
select_points_not (syms.SelectBank bank_bits.Irp on) e = never e
select_points_not (syms.SelectPage bit target) e = refl
select_points_not s e = never e

keeps_others : (given made : SymBlock) → bare made.list.items ≡ bare given.list.items → KeepsOthers given made
keeps_others given made same = record {
  labels = same_in_bare is_label select_no_label made.list.items given.list.items same;
  written = same_in_bare writes_selected select_writes_none made.list.items given.list.items same;
  pointed = same_in_bare selects_pointed select_points_not made.list.items given.list.items same;
}

first_is : (x y : List Sym) (xs ys : List (List Sym)) → x ∷ xs ≡ y ∷ ys → x ≡ y
first_is x y xs ys e = ap (λ (l : List (List Sym)). head_or l) e
  where
    head_or : List (List Sym) → List Sym
    head_or [] = x
    head_or (z ∷ zs) = z

others_are : (x y : List Sym) (xs ys : List (List Sym)) → x ∷ xs ≡ y ∷ ys → xs ≡ ys
others_are x y xs ys e = ap (λ (l : List (List Sym)). tail_of l) e
  where
    tail_of : List (List Sym) → List (List Sym)
    tail_of [] = []
    tail_of (z ∷ zs) = zs

pub all_keep_others : (given made : List SymBlock) → bare_lists made ≡ bare_lists given → AllZip KeepsOthers given made
all_keep_others [] [] same = tt
all_keep_others [] (m ∷ made) same = absurd (cc)
all_keep_others (g ∷ given) [] same = absurd (cc)
all_keep_others (g ∷ given) (m ∷ made) same =
    (keeps_others g m (first_is (bare m.list.items) (bare g.list.items) (bare_lists made) (bare_lists given) same), all_keep_others given made (others_are (bare m.list.items) (bare g.list.items) (bare_lists made) (bare_lists given) same))
