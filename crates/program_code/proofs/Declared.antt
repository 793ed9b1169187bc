-- The code of locals that are given values takes at most its stated words.
use Rattle.std.proofs.Common.{◌≡◌, ℕ, zero, suc, ◌+◌, ◌-◌, ◌*◌, ◌≤◌, ◌<◌, Bool, true, false, ◌&&◌, ◌||◌, min, nat_le, nat_lt, nat_eq, if◌then◌else◌, List, [], ◌∷◌, ◌++◌, slice_index, refl, sym, ap, subst, leb-true, arith}
use Rattle.std.proofs.lemmas.Bool.{ltb-true, ltb-false, leb-false}
use Rattle.c_typed.specs.Fits.{source_of, goes_to, fits, place_fits, Used}
use Rattle.c_typed.specs.Sameness.{is_struct}
use Rattle.c_typed.specs.Sound.{item_fits, lies_within, items_fit}
use Rattle.c_typed.specs.Trees as tree
use Rattle.c_typed.specs.Trees.{Expression, Place, Item, VariableTree, FunctionTree, Program}
use Rattle.c_typed.specs.Types.{type_bytes, type_of, value_bytes, place_type, form_of, item_start}
use Rattle.c_typed.specs.Words.{words, place_words, struct_words, item_words, items_words, item_bytes, items_bytes}
use Rattle.c_typed.specs.declared.expression.PlaceForm.TheVariants as form
use Rattle.call_graph.specs.declared.types.FnCopy.{FnCopy}
use Rattle.core_code.specs.Tree as core
use Rattle.core_code.specs.Tree.{Tree}
use Rattle.core_code.specs.declared.code.Byte.{Byte}
use Rattle.core_puts.specs.Bytes.{behind}
use Rattle.lower_expr.specs.Lowering.{pointer_code, address_code}
use Rattle.core_puts.specs.Puts.{copies}
use Rattle.lower_expr.specs.Rows.{struct_row}
use Rattle.lower_expr.specs.Spots.{spot_of}
use Rattle.lower_expr.specs.declared.places.Spot.TheVariants.{Fixed}
use Rattle.lower_stmt.specs.Declarators.{scalar_code, text_code, item_code, items_code, offset_of, is_within, covers, is_covered, rest_code, list_code}
use Rattle.lower_stmt.specs.Ground.{Ground, first, local_byte, local_bytes, value_code}
use Rattle.lower_stmt.specs.Ground as ground
use Rattle.pic_world.specs.declared.Root.{Root}
use Rattle.select_code.specs.declared.control.Ending.{Ending}
use Rattle.program_code.proofs.Chain.{never}
use Rattle.program_code.proofs.Paying.{IsMine, own_frame}
use Rattle.program_code.proofs.Lowered.{Takes, takes_on, takes_more, takes_none, takes_tames, tames_one}
use Rattle.program_code.proofs.Puts.{mine_lower, set_tamed, copies_takes}
use Rattle.program_code.proofs.Rows.{form_at, struct_takes}
use Rattle.program_code.proofs.Typing.{and_first, and_last}
use Rattle.program_code.proofs.Nodes.{width_within, form_same}
use Rattle.program_code.proofs.Expressions.{expr_takes, place_takes}

-- ---- how many places pass a test
abbrev count : (ℕ → Bool) → ℕ → ℕ
count test zero = 0
count test (suc n) = count test n + (if test n then 1 else 0)

count_within : (test : ℕ → Bool) (n : ℕ) → count test n ≤ n
count_within test zero = omega arith
count_within test (suc n) = by_test (test n) (count_within test n)
  where
    by_test : (b : Bool) → count test n ≤ n → count test n + (if b then 1 else 0) ≤ suc n
    by_test true h = omega (arith, h)
    by_test false h = omega (arith, h)

-- two tests that never pass together
count_both : (one other both : ℕ → Bool) → ((k : ℕ) → both k ≡ (one k || other k)) → ((k : ℕ) → one k ≡ true → other k ≡ false) → (n : ℕ) → count one n + count other n ≤ count both n
count_both one other both is apart zero = omega arith
count_both one other both is apart (suc n) =
    let h = count_both one other both is apart n in
    let s = by_tests (one n) (other n) (both n) (is n) (apart n) in
    omega (arith, h, s)
  where
    by_tests : (a b d : Bool) → d ≡ (a || b) → (a ≡ true → b ≡ false) → (if a then 1 else 0) + (if b then 1 else 0) ≤ (if d then 1 else 0)
    by_tests true true d e f = never (sym (f refl))
    by_tests true false true e f = omega arith
    by_tests true false false e f = never e
    by_tests false true true e f = omega arith
    by_tests false true false e f = never e
    by_tests false false d e f = omega arith

within_is : (offset size n : ℕ) → is_within offset size n ≡ false → (offset ≤ n → offset + size ≤ n)
within_is offset size n e l = by_parts (nat_le offset n) (nat_lt (n - offset) size) refl refl e
  where
    by_parts : (a b : Bool) → nat_le offset n ≡ a → nat_lt (n - offset) size ≡ b → (a && b) ≡ false → offset + size ≤ n
    by_parts true true e f g = never (sym g)
    by_parts true false e f g = let m = ltb-false (n - offset) size f in omega (arith, l, m)
    by_parts false b e f g = let m = leb-false offset n e in absurd (omega (arith, l, m))

-- so many places from an offset on
count_from : (offset size n : ℕ) → min n (offset + size) - min n offset ≤ count (is_within offset size) n
count_from offset size zero = omega arith
count_from offset size (suc n) = by_test (is_within offset size n) refl (count_from offset size n)
  where
    by_test : (b : Bool) → is_within offset size n ≡ b → min n (offset + size) - min n offset ≤ count (is_within offset size) n → min (suc n) (offset + size) - min (suc n) offset ≤ count (is_within offset size) n + (if b then 1 else 0)
    by_test true e h = omega (arith, h)
    by_test false e h = by_order (nat_le offset n) refl
      where
        by_order : (o : Bool) → nat_le offset n ≡ o → min (suc n) (offset + size) - min (suc n) offset ≤ count (is_within offset size) n + 0
        by_order true o = let m = within_is offset size n e (leb-true offset n o) in omega (arith, h, m)
        by_order false o = let m = leb-false offset n o in omega (arith, h, m)

module _ (list : List FnCopy) (root : Root) (end : Ending) (p : Program) (f : FunctionTree) (g : Ground) (same : p.sizes ≡ g.layout.sizes) where
  at_first : IsMine g.copy (first g)
  at_first = own_frame g.copy g.base

  -- ---- what items cover
  starts : (item : Item) → offset_of item ≡ item_start item
  starts (tree.Scalar offset e) = refl
  starts (tree.Struct offset from size) = refl
  starts (tree.Text offset bytes size) = refl

  sized : (item : Item) → item_bytes p.sizes item ≡ item_bytes g.layout.sizes item
  sized item = ap (λ (s : List ℕ). item_bytes s item) same

  within_from : (offset size k : ℕ) → is_within offset size k ≡ true → (offset ≤ k) × (k < offset + size)
  within_from offset size k e =
      let low = leb-true offset k (and_first (nat_le offset k) (nat_lt (k - offset) size) e) in
      let high = ltb-true (k - offset) size (and_last (nat_le offset k) (nat_lt (k - offset) size) e) in
      (low, omega (arith, low, high))

  -- where the items behind so many bytes stand
  behind_all : (size before : ℕ) (items : List Item) (k : ℕ) → items_fit p f size before items ≡ true → is_covered g items k ≡ true → before ≤ k
  behind_all size before [] k h e = never e
  behind_all size before (item ∷ items) k h e = by_first (covers g k item) refl (behind_all size (item_start item + item_bytes p.sizes item) items k rest) e
    where
      lies : lies_within size before (item_start item) (item_bytes p.sizes item) ≡ true
      lies = and_first (lies_within size before (item_start item) (item_bytes p.sizes item)) (item_fits p f item && items_fit p f size (item_start item + item_bytes p.sizes item) items) h

      rest : items_fit p f size (item_start item + item_bytes p.sizes item) items ≡ true
      rest = and_last (item_fits p f item) (items_fit p f size (item_start item + item_bytes p.sizes item) items) (and_last (lies_within size before (item_start item) (item_bytes p.sizes item)) (item_fits p f item && items_fit p f size (item_start item + item_bytes p.sizes item) items) h)

      low : before ≤ item_start item
      low = leb-true before (item_start item) (and_first (nat_le before (item_start item)) (nat_le (item_start item) size && nat_le (item_bytes p.sizes item) (size - item_start item)) lies)

      by_first : (b : Bool) → covers g k item ≡ b → (is_covered g items k ≡ true → item_start item + item_bytes p.sizes item ≤ k) → (b || is_covered g items k) ≡ true → before ≤ k
      by_first true is later e =
          let there = within_from (offset_of item) (item_bytes g.layout.sizes item) k is in
          let at = there.0 in
          let start = starts item in
          omega (arith, low, at, start)
      by_first false is later e = let there = later e in omega (arith, low, there)

  covered_all : (size before : ℕ) (items : List Item) → items_fit p f size before items ≡ true → items_bytes g.layout.sizes items ≤ count (is_covered g items) size
  covered_all size before [] h = omega arith
  covered_all size before (item ∷ items) h =
      let later = covered_all size (item_start item + item_bytes p.sizes item) items rest in
      let own = count_from (offset_of item) (item_bytes g.layout.sizes item) size in
      let both = count_both (λ k. covers g k item) (is_covered g items) (is_covered g (item ∷ items)) (λ k. refl) apart size in
      let start = starts item in
      let bytes = sized item in
      let x = low in
      let y = high in
      omega (arith, later, own, both, start, bytes, x, y)
    where
      lies : lies_within size before (item_start item) (item_bytes p.sizes item) ≡ true
      lies = and_first (lies_within size before (item_start item) (item_bytes p.sizes item)) (item_fits p f item && items_fit p f size (item_start item + item_bytes p.sizes item) items) h

      rest : items_fit p f size (item_start item + item_bytes p.sizes item) items ≡ true
      rest = and_last (item_fits p f item) (items_fit p f size (item_start item + item_bytes p.sizes item) items) (and_last (lies_within size before (item_start item) (item_bytes p.sizes item)) (item_fits p f item && items_fit p f size (item_start item + item_bytes p.sizes item) items) h)

      bounds : (nat_le (item_start item) size && nat_le (item_bytes p.sizes item) (size - item_start item)) ≡ true
      bounds = and_last (nat_le before (item_start item)) (nat_le (item_start item) size && nat_le (item_bytes p.sizes item) (size - item_start item)) lies

      low : item_start item ≤ size
      low = leb-true (item_start item) size (and_first (nat_le (item_start item) size) (nat_le (item_bytes p.sizes item) (size - item_start item)) bounds)

      high : item_bytes p.sizes item ≤ size - item_start item
      high = leb-true (item_bytes p.sizes item) (size - item_start item) (and_last (nat_le (item_start item) size) (nat_le (item_bytes p.sizes item) (size - item_start item)) bounds)

      apart : (k : ℕ) → covers g k item ≡ true → is_covered g items k ≡ false
      apart k e = by_rest (is_covered g items k) refl
        where
          by_rest : (b : Bool) → is_covered g items k ≡ b → b ≡ false
          by_rest false is = refl
          by_rest true is =
              let there = within_from (offset_of item) (item_bytes g.layout.sizes item) k e in
              let before_k = behind_all size (item_start item + item_bytes p.sizes item) items k rest is in
              let top = there.1 in
              let start = starts item in
              let bytes = sized item in
              absurd (omega (arith, top, before_k, start, bytes))

  -- ---- bytes that no item covers
  set_takes : (to : Byte) (value : ℕ) → IsMine g.copy to → Takes list root end g.copy 4 (core.Set to value ∷ [])
  set_takes to value h = takes_tames list root end g.copy 2 (core.Set to value ∷ []) (tames_one list root end g.copy 2 (core.Set to value) (set_tamed list root end g.copy to value h))

  rest_step : (to : Byte) (place : ℕ) (covered : Bool) → IsMine g.copy to → Takes list root end g.copy (4 * (1 - (if covered then 1 else 0))) (if covered then [] else core.Set (behind to place) 0 ∷ [])
  rest_step to place true h = takes_none list root end g.copy
  rest_step to place false h = set_takes (behind to place) 0 (mine_lower g.copy to place h)

  rest_takes : (to : Byte) (items : List Item) (n : ℕ) → IsMine g.copy to → Takes list root end g.copy (4 * (n - count (is_covered g items) n)) (rest_code g to items n)
  unfolding rest_code
  rest_takes to items zero h = takes_none list root end g.copy
  rest_takes to items (suc n) h =
      let few = count_within (is_covered g items) n in
      let step = by_covered (is_covered g items n) in
      takes_more list root end g.copy (4 * (n - count (is_covered g items) n) + 4 * (1 - (if is_covered g items n then 1 else 0))) (4 * (suc n - (count (is_covered g items) n + (if is_covered g items n then 1 else 0)))) (rest_code g to items (suc n)) (omega (arith, few, step))
      (takes_on list root end g.copy (4 * (n - count (is_covered g items) n)) (4 * (1 - (if is_covered g items n then 1 else 0))) (rest_code g to items n) (if is_covered g items n then [] else core.Set (behind to n) 0 ∷ []) (rest_takes to items n h) (rest_step to n (is_covered g items n) h))
    where
      by_covered : (b : Bool) → (if b then 1 else 0) ≤ 1
      by_covered true = omega arith
      by_covered false = omega arith

  -- ---- items
  pub scalar_takes : (to : Byte) (e : Expression) → fits p f Used e ≡ true → Takes list root end g.copy (6 * value_bytes g.layout.sizes e + words g.layout.sizes e) (scalar_code g to e)
  scalar_takes to e h =
      let w = width_within g.layout (type_of e) in
      takes_more list root end g.copy (words g.layout.sizes e + 6 * ground.width g e) (6 * value_bytes g.layout.sizes e + words g.layout.sizes e) (scalar_code g to e) (omega (arith, w))
      (takes_on list root end g.copy (words g.layout.sizes e) (6 * ground.width g e) (value_code g e) (copies to (first g) (ground.width g e)) (expr_takes list root end g.layout g.copy p f true g.base Used e h) (copies_takes list root end g.copy to (first g) (ground.width g e)))

  text_takes : (to : Byte) (bytes : List ℕ) (size : ℕ) → IsMine g.copy to → Takes list root end g.copy (4 * size) (text_code to bytes size)
  unfolding text_code
  text_takes to bytes zero h = takes_none list root end g.copy
  text_takes to bytes (suc n) h =
      takes_more list root end g.copy (4 * n + 4) (4 * suc n) (text_code to bytes (suc n)) (omega arith)
      (takes_on list root end g.copy (4 * n) 4 (text_code to bytes n) (core.Set (behind to n) (slice_index bytes n) ∷ []) (text_takes to bytes n h) (set_takes (behind to n) (slice_index bytes n) (mine_lower g.copy to n h)))

  item_takes : (to : Byte) (item : Item) → IsMine g.copy to → item_fits p f item ≡ true → Takes list root end g.copy (item_words g.layout.sizes item) (item_code g to item)
  item_takes to (tree.Scalar offset e) h fit = scalar_takes (behind to offset) e (and_last (goes_to p (source_of e) (type_of e) (type_of e)) (fits p f Used e) fit)
  item_takes to (tree.Struct offset from size) h fit =
      let l = g.layout in
      let rest = and_last (is_struct (place_type from).ty) (nat_eq size (type_bytes p.sizes (place_type from).ty) && place_fits p f from) fit in
      let there = and_last (nat_eq size (type_bytes p.sizes (place_type from).ty)) (place_fits p f from) rest in
      let same_form = ap (λ k. struct_words form.Fixed k size) (form_same l g.copy from) in
      let address = pointer_code (spot_of l g.copy from) (address_code l g.copy g.base from) in
      let row = struct_row l.root (Fixed (behind to offset)) (spot_of l g.copy from) (first g) size in
      takes_more list root end g.copy (place_words l.sizes from + struct_words form.Fixed (form_at (spot_of l g.copy from)) size) (struct_words form.Fixed (form_of from) size + place_words l.sizes from) (address ++ row) (omega (arith, same_form))
      (takes_on list root end g.copy (place_words l.sizes from) (struct_words form.Fixed (form_at (spot_of l g.copy from)) size) address row (place_takes list root end l g.copy p f g.base from there) (struct_takes list root end g.copy l.root (Fixed (behind to offset)) (spot_of l g.copy from) (first g) size at_first))
  item_takes to (tree.Text offset bytes size) h fit = text_takes (behind to offset) bytes size (mine_lower g.copy to offset h)

  items_take : (to : Byte) (size before : ℕ) (items : List Item) → IsMine g.copy to → items_fit p f size before items ≡ true → Takes list root end g.copy (items_words g.layout.sizes items) (items_code g to items)
  items_take to size before [] h fit = takes_none list root end g.copy
  items_take to size before (item ∷ items) h fit =
      let lies = lies_within size before (item_start item) (item_bytes p.sizes item) in
      let next = item_start item + item_bytes p.sizes item in
      let rest = and_last lies (item_fits p f item && items_fit p f size next items) fit in
      takes_on list root end g.copy (item_words g.layout.sizes item) (items_words g.layout.sizes items) (item_code g to item) (items_code g to items) (item_takes to item h (and_first (item_fits p f item) (items_fit p f size next items) rest))
      (items_take to size next items h (and_last (item_fits p f item) (items_fit p f size next items) rest))

  -- a local with a list or a string, of so many bytes
  pub list_takes : (local size : ℕ) (items : List Item) → local_bytes g local ≡ size → items_fit p f size 0 items ≡ true → Takes list root end g.copy (items_words g.layout.sizes items + 4 * (local_bytes g local - items_bytes g.layout.sizes items)) (list_code g local items)
  list_takes local size items is fit =
      let to = local_byte g local in
      let h = own_frame g.copy (slice_index g.layout.locals local) in
      let n = local_bytes g local in
      let covered = covered_all n 0 items (subst (λ k. items_fit p f k 0 items ≡ true) (sym is) fit) in
      takes_more list root end g.copy (items_words g.layout.sizes items + 4 * (n - count (is_covered g items) n)) (items_words g.layout.sizes items + 4 * (n - items_bytes g.layout.sizes items)) (list_code g local items) (omega (arith, covered))
      (takes_on list root end g.copy (items_words g.layout.sizes items) (4 * (n - count (is_covered g items) n)) (items_code g to items) (rest_code g to items n) (items_take to size 0 items h fit) (rest_takes to items n h))
