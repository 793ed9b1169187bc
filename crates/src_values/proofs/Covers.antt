-- Loops over the items of a list and over the bytes that they have.
use Rattle.std.proofs.Common.{◌≡◌, ℕ, suc, ◌+◌, ◌-◌, ◌<◌, ◌≤◌, Bool, true, false, if◌then◌else◌, List, length, get_or, map, drop, sym, ap, ◌∙◌, arith}
use Rattle.std.proofs.lemmas.List.{at_drop_more, drop_all}
use Rattle.c_typed.specs.Trees.{Item}
use Rattle.c_typed.specs.Views.{item_of}
use Rattle.c_typed.specs.declared.statement.TItem.{TItem}
use Rattle.src_values.specs.Lists.{covers, is_covered, covered_from}

-- some item has the byte
abbrev pub covered_in : List ℕ → ℕ → List TItem → Bool
covered_in sizes at items = is_covered sizes (map item_of items) at

next_of : (sizes : List ℕ) (at : ℕ) (items : List TItem) (i : ℕ) (x : TItem) → i < length items → x ≡ get_or items i x → covered_in sizes at (drop i items) ≡ (if covers sizes (item_of x) at then true else covered_in sizes at (drop (i + 1) items))
unfolding is_covered
next_of sizes at items i x lt is = at_drop_more (covered_in sizes at) items i x lt ∙ ap (λ y. if covers sizes (item_of y) at then true else covered_in sizes at (drop (i + 1) items)) (sym is)

pub goes_on : (sizes : List ℕ) (at : ℕ) (items : List TItem) (i : ℕ) (x : TItem) (whole : Bool) → i < length items → x ≡ get_or items i x → covers sizes (item_of x) at ≡ false → covered_in sizes at (drop i items) ≡ whole → covered_in sizes at (drop (i + 1) items) ≡ whole
goes_on sizes at items i x whole lt is fails so_far = sym (next_of sizes at items i x lt is ∙ ap (λ (b : Bool). if b then true else covered_in sizes at (drop (i + 1) items)) fails) ∙ so_far

pub found : (sizes : List ℕ) (at : ℕ) (items : List TItem) (i : ℕ) (x : TItem) (whole : Bool) → i < length items → x ≡ get_or items i x → covers sizes (item_of x) at ≡ true → covered_in sizes at (drop i items) ≡ whole → true ≡ whole
found sizes at items i x whole lt is passes so_far = sym (next_of sizes at items i x lt is ∙ ap (λ (b : Bool). if b then true else covered_in sizes at (drop (i + 1) items)) passes) ∙ so_far

pub nowhere : (sizes : List ℕ) (at : ℕ) (items : List TItem) (i : ℕ) (whole : Bool) → length items ≤ i → covered_in sizes at (drop i items) ≡ whole → false ≡ whole
unfolding is_covered
nowhere sizes at items i whole past so_far = sym (ap (covered_in sizes at) (drop_all i items past)) ∙ so_far

-- the bytes behind one
left_of : (sizes : List ℕ) (all : List Item) (at i left : ℕ) → i < left → covered_from sizes all (at + i) (left - i) ≡ (if is_covered sizes all (at + i) then covered_from sizes all (at + (i + 1)) (left - (i + 1)) + 1 else 0)
left_of sizes all at i left lt =
    let e : left - i ≡ suc (left - (i + 1)) = omega arith in
    let f : at + i + 1 ≡ at + (i + 1) = omega arith in
    ap (covered_from sizes all (at + i)) e ∙ ap (λ n. if is_covered sizes all (at + i) then covered_from sizes all n (left - (i + 1)) + 1 else 0) f

pub one_more : (sizes : List ℕ) (all : List Item) (at i left whole : ℕ) → i < left → is_covered sizes all (at + i) ≡ true → covered_from sizes all (at + i) (left - i) + i ≡ whole → covered_from sizes all (at + (i + 1)) (left - (i + 1)) + (i + 1) ≡ whole
one_more sizes all at i left whole lt is so_far =
    let e = left_of sizes all at i left lt ∙ ap (λ (b : Bool). if b then covered_from sizes all (at + (i + 1)) (left - (i + 1)) + 1 else 0) is in omega (arith, e, so_far)

pub no_more : (sizes : List ℕ) (all : List Item) (at i left whole : ℕ) → i < left → is_covered sizes all (at + i) ≡ false → covered_from sizes all (at + i) (left - i) + i ≡ whole → i ≡ whole
no_more sizes all at i left whole lt is so_far =
    let e = left_of sizes all at i left lt ∙ ap (λ (b : Bool). if b then covered_from sizes all (at + (i + 1)) (left - (i + 1)) + 1 else 0) is in omega (arith, e, so_far)

pub all_covered : (sizes : List ℕ) (all : List Item) (at i left whole : ℕ) → left ≤ i → i ≤ left → covered_from sizes all (at + i) (left - i) + i ≡ whole → left ≡ whole
all_covered sizes all at i left whole past within so_far =
    let e : left - i ≡ 0 = omega arith in
    let f = ap (covered_from sizes all (at + i)) e in omega (arith, f, so_far)
