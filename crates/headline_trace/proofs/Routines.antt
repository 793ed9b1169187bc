-- The block of a helper's copy, with its selects, has at most the words that are stated of the routine.
use Rattle.std.proofs.Common.{◌≡◌, ℕ, ◌≤◌, Bool, true, false, not, ◌&&◌, ◌||◌, if◌then◌else◌, List, [], ◌∷◌, ◌++◌, Option, Some, None, refl, sym, ap, ◌∙◌, subst, append-nil, arith}
use Rattle.bank_trace.proofs.WholePrices.{leaves_blocks, routines_are_priced}
use Rattle.bank_trace.specs.SelectPrices.{AreSelected}
use Rattle.c_typed.specs.declared.calls.Helper.{Helper}
use Rattle.c_typed.specs.declared.calls.Helper.TheVariants.{Mul2, Mul4, Divu2, Divs2, Remu2, Rems2, Divu4, Divs4, Remu4, Rems4, Shl2, Shru2, Shrs2, Shl4, Shru4, Shrs4}
use Rattle.math_helpers.proofs.Shapes.{words_fit}
use Rattle.math_helpers.specs.Routines.{helper_code}
use Rattle.math_helpers.specs.Shape.{frame_size, stated_words, ArePriced}
use Rattle.pic_map.specs.declared.Placed.{Placed}
use Rattle.pic_world.specs.declared.Root.{Root}
use Rattle.ram_place.specs.Helpers as helpers
use Rattle.sym_code.specs.Layout.{frame, is_whole}
use Rattle.sym_code.specs.Programs.{block_in, same_name}
use Rattle.sym_code.specs.Selects.{is_select, bare}
use Rattle.sym_code.specs.Words.{words_in}
use Rattle.sym_code.specs.declared.code.BlockName.{BlockName}
use Rattle.sym_code.specs.declared.code.BlockName.TheVariants.{Copy}
use Rattle.sym_code.specs.declared.code.Sym.{Sym}
use Rattle.sym_code.specs.declared.code.SymBlock.{SymBlock}
use Rattle.bank_page.specs.Kinds.{is_label}
use Rattle.bank_page.specs.Links.{price_from}
use Rattle.bank_page.specs.Needs.{needs_in}
use Rattle.bank_page.specs.Selected.{front, IsExact}
use Rattle.bank_page.specs.Step.{missing_for, put_of, state_of, selected_from}
use Rattle.bank_page.specs.declared.needs.Needs.{Needs}
use Rattle.bank_page.specs.declared.selecting.State.{State}
use Rattle.code_place.specs.Layouts.{layout_of}
use Rattle.headline_trace.proofs.Bare.{bare_itself, plain_words}
use Rattle.headline_trace.proofs.Blocks.{name_itself}
use Rattle.headline_trace.proofs.Bodies.{helper_plain}
use Rattle.headline_trace.proofs.Counted.{counted, segments, ends_well, well_behind, words_counted, all_few}

-- ---- what can be read off each routine
-- no skip stands before a label or at the end
routine_good : (h : Helper) (root : Root) (copy : ℕ) → segments [] (helper_code h root copy) ≡ true
unfolding segments
routine_good Mul2 root copy = refl
routine_good Mul4 root copy = refl
routine_good Divu2 root copy = refl
routine_good Divs2 root copy = refl
routine_good Remu2 root copy = refl
routine_good Rems2 root copy = refl
routine_good Divu4 root copy = refl
routine_good Divs4 root copy = refl
routine_good Remu4 root copy = refl
routine_good Rems4 root copy = refl
routine_good Shl2 root copy = refl
routine_good Shru2 root copy = refl
routine_good Shrs2 root copy = refl
routine_good Shl4 root copy = refl
routine_good Shru4 root copy = refl
routine_good Shrs4 root copy = refl

-- it ends with an instruction
routine_ends : (h : Helper) (root : Root) (copy : ℕ) → ends_well (helper_code h root copy) ≡ true
routine_ends Mul2 root copy = refl
routine_ends Mul4 root copy = refl
routine_ends Divu2 root copy = refl
routine_ends Divs2 root copy = refl
routine_ends Remu2 root copy = refl
routine_ends Rems2 root copy = refl
routine_ends Divu4 root copy = refl
routine_ends Divs4 root copy = refl
routine_ends Remu4 root copy = refl
routine_ends Rems4 root copy = refl
routine_ends Shl2 root copy = refl
routine_ends Shru2 root copy = refl
routine_ends Shrs2 root copy = refl
routine_ends Shl4 root copy = refl
routine_ends Shru4 root copy = refl
routine_ends Shrs4 root copy = refl

pub stated_same : (h : Helper) → stated_words h ≡ helpers.words h
stated_same Mul2 = refl
stated_same Mul4 = refl
stated_same Divu2 = refl
stated_same Divs2 = refl
stated_same Remu2 = refl
stated_same Rems2 = refl
stated_same Divu4 = refl
stated_same Divs4 = refl
stated_same Remu4 = refl
stated_same Rems4 = refl
stated_same Shl2 = refl
stated_same Shru2 = refl
stated_same Shrs2 = refl
stated_same Shl4 = refl
stated_same Shru4 = refl
stated_same Shrs4 = refl

-- ---- with selects
-- what is put for the last instruction ends with it
put_ends : (own : BlockName) (st : State) (s : Sym) (select plain : Bool) (needs : Option Needs) → is_select s ≡ select → ends_well (s ∷ []) ≡ true → ends_well (put_of select plain own st s needs ++ []) ≡ true
put_ends own st s true plain needs is e =
    let f = sym (ap (λ (b : Bool). not b && not (is_label s)) is) ∙ e in
    absurd (cc)
put_ends own st s false true needs is e = e
put_ends own st s false false None is e = e
put_ends own st s false false (Some needs) is e =
    ap ends_well (append-nil (missing_for own st.known needs ++ s ∷ [])) ∙ well_behind (missing_for own st.known needs) (s ∷ []) e

selected_ends : (placed : Placed) (own : BlockName) (st : State) (list : List Sym) → ends_well list ≡ true → ends_well (selected_from placed own st list) ≡ true
selected_ends placed own st [] e = absurd (cc)
selected_ends placed own st (s ∷ []) e = put_ends own st s (is_select s) (st.behind || is_label s) (needs_in placed (s ∷ [])) refl e
selected_ends placed own st (s ∷ t ∷ rest) e =
    let plain = st.behind || is_label s in
    let needs = needs_in placed (s ∷ t ∷ rest) in
    let next = state_of (is_select s) plain own st s needs in
    well_behind (put_of (is_select s) plain own st s needs) (selected_from placed own next (t ∷ rest)) (selected_ends placed own next (t ∷ rest) e)

-- ---- one block by itself
alone : (b : SymBlock) (name : BlockName) → b.name ≡ name → block_in (b ∷ []) name ≡ b.list.items
alone b name is = ap (λ (t : Bool). if t then b.list.items else []) (ap (λ (n : BlockName). same_name n name) is ∙ name_itself name)

module _ (placed : Placed) (g b : SymBlock) (exact : IsExact placed g b) (h : Helper) (root : Root) (c : ℕ) (name : g.name ≡ Copy c) (code : g.list.items ≡ helper_code h root c)
    (whole : is_whole (frame (layout_of placed) c).address (frame (layout_of placed) c).size ≡ true) (room : frame_size h ≤ (frame (layout_of placed) c).size) where
  given_bare : bare g.list.items ≡ g.list.items
  given_bare = ap bare code ∙ bare_itself (helper_code h root c) (plain_words (helper_code h root c) (helper_plain h root c)) ∙ sym code

  none_in : (n : BlockName) → bare (block_in (g ∷ []) n) ≡ block_in (g ∷ []) n
  none_in n = by (same_name g.name n) where
    by : (t : Bool) → bare (if t then g.list.items else []) ≡ (if t then g.list.items else [])
    by true = given_bare
    by false = refl

  selected : AreSelected placed (g ∷ []) (b ∷ [])
  selected = leaves_blocks placed (g ∷ []) (b ∷ []) (exact, tt) none_in

  made_name : b.name ≡ Copy c
  made_name = exact.name ∙ name

  priced : ArePriced (price_from 0 b.list.items) (helper_code h root c)
  priced =
      let P : List Sym → Type 0 = λ l. ArePriced (price_from 0 l) (helper_code h root c) in
      subst P (alone b (Copy c) made_name) (routines_are_priced placed (g ∷ []) (b ∷ []) selected h root c (alone g (Copy c) name ∙ code) whole room)

  made_bare : bare b.list.items ≡ helper_code h root c
  made_bare = ap bare (sym (alone b (Copy c) made_name)) ∙ selected.same (Copy c) ∙ alone g (Copy c) name ∙ code

  made_ends : ends_well b.list.items ≡ true
  made_ends = ap ends_well (exact.code ∙ ap (selected_from placed g.name front) code) ∙ selected_ends placed g.name front (helper_code h root c) (routine_ends h root c)

  pub routine_words : words_in b.list.items ≤ helpers.words h
  routine_words =
      let words = words_counted b.list.items made_ends in
      let few = all_few (price_from 0 b.list.items) (helper_code h root c) priced (routine_good h root c) in
      let fit = words_fit h root c in
      let same = stated_same h in
      let bare_same = ap (counted (price_from 0 b.list.items) 0) made_bare in
      omega (arith, words, few, fit, same, bare_same)
