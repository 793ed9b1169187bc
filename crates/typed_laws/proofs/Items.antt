-- Items of a local: they fit where they stand in order within it.
use Rattle.std.proofs.Common.{◌≡◌, ℕ, ◌+◌, ◌-◌, ◌≤◌, Bool, true, false, ◌&&◌, ◌||◌, nat_eq, nat_le, List, [], ◌∷◌, refl, sym, ap, ◌∙◌, subst, arith, true≢false, not}
use Rattle.std.proofs.lemmas.Bool.{and_from, false≢true}
use Rattle.std.proofs.lemmas.Grind.{common_steps}
use Rattle.c_typed.specs.Fits.{is_open}
use Rattle.c_typed.specs.Sameness.{same_flag, same_qualified, is_scalar}
use Rattle.c_typed.specs.Sound.{item_fits, lies_within, items_fit, has_parts}
use Rattle.c_typed.specs.Types.{item_start}
use Rattle.c_typed.specs.Trees.{Item, FunctionTree, Program}
use Rattle.c_typed.specs.Words.{item_bytes}
use Rattle.c_typed.specs.declared.types.Qualified.{Qualified}
use Rattle.c_typed.specs.declared.types.Ty.{Ty}
use Rattle.c_typed.specs.declared.types.Ty.TheVariants.{Void, Int, Pointer, Array, Struct}
use Rattle.type_rules.specs.Known.{Known}
use Rattle.type_rules.specs.Rows.{is_complete}
use Rattle.typed_laws.specs.Chains.{item_size, ItemsIn}
use Rattle.typed_laws.specs.Living.{LocalTo}
use Rattle.typed_laws.specs.Tables.{Leads}
use Rattle.typed_laws.proofs.Same.{same_qualified_is}

items_bound : (known : Known) (low high : ℕ) (items : List Item) → ItemsIn known low high items → low ≤ high
items_bound known low high [] h = h
items_bound known low high (i ∷ is) h = let more : item_start i + item_size known i ≤ high = items_bound known (item_start i + item_size known i) high is h.2 in omega (arith, h.0, more)

test_le : (m n : ℕ) → m ≤ n → nat_le m n ≡ true
test_le m n h = grind (arith, common_steps)

within_size : (size before start bytes : ℕ) → before ≤ start → start + bytes ≤ size → lies_within size before start bytes ≡ true
within_size size before start bytes a b = and_from (nat_le before start) (nat_le start size && nat_le bytes (size - start)) (test_le before start a)
    (and_from (nat_le start size) (nat_le bytes (size - start)) (test_le start size (omega (arith, b))) (test_le bytes (size - start) (omega (arith, b))))

-- Items in order up to the object's size fit.
pub items_fit_in : (known : Known) (p : Program) (f : FunctionTree) → Leads known p f → (size low high : ℕ) (items : List Item) → high ≤ size → ItemsIn known low high items → items_fit p f size low items ≡ true
items_fit_in known p f l size low high [] le h = refl
items_fit_in known p f l size low high (i ∷ is) le h =
    let bytes : item_bytes p.sizes i ≡ item_size known i = (h.1).bytes p f l in
    let rest : item_start i + item_size known i ≤ high = items_bound known (item_start i + item_size known i) high is h.2 in
    and_from (lies_within size low (item_start i) (item_bytes p.sizes i)) (item_fits p f i && items_fit p f size (item_start i + item_bytes p.sizes i) is)
    (within_size size low (item_start i) (item_bytes p.sizes i) h.0 (subst (λ n. item_start i + n ≤ size) (sym bytes) (more (item_start i + item_size known i) high size rest le)))
    (and_from (item_fits p f i) (items_fit p f size (item_start i + item_bytes p.sizes i) is) ((h.1).fitting p f l)
    (ap (λ n. items_fit p f size (item_start i + n) is) bytes ∙ items_fit_in known p f l size (item_start i + item_size known i) high is le h.2))
  where
    more : (a b c : ℕ) → a ≤ b → b ≤ c → a ≤ c
    more a b c x y = omega (arith, x, y)

-- Where the type is complete, the local's type is that.
open_whole : (known : Known) (t u : Ty) → is_complete known u ≡ true → is_open t u ≡ true → ⊥
open_whole known Void u complete h = false≢true h
open_whole known (Int i) u complete h = false≢true h
open_whole known (Pointer row) u complete h = false≢true h
open_whole known (Struct n) u complete h = false≢true h
open_whole known (Array a m x) Void complete h = false≢true h
open_whole known (Array a m x) (Int i) complete h = false≢true h
open_whole known (Array a m x) (Pointer row) complete h = false≢true h
open_whole known (Array a m x) (Struct n) complete h = false≢true h
open_whole known (Array a m x) (Array b n y) complete h = no_length (nat_eq a b) (nat_eq n 0) (nat_eq y 0) complete h
  where
    no_length : (r z s : Bool) → not z ≡ true → (r && (z && s)) ≡ true → ⊥
    no_length r true s c e = false≢true c
    no_length true false s c e = false≢true e
    no_length false false s c e = false≢true e

pub local_is : (known : Known) (t q : Qualified) → is_complete known q.ty ≡ true → LocalTo t q → t ≡ q
local_is known t q complete h = by_test (same_qualified t q) (is_open t.ty q.ty) refl refl h
  where
    by_test : (s o : Bool) → same_qualified t q ≡ s → is_open t.ty q.ty ≡ o → (s || (true && (o && (same_flag t.constant q.constant && same_flag t.volatile q.volatile)))) ≡ true → t ≡ q
    by_test true o es eo e = same_qualified_is t q es
    by_test false true es eo e = absurd (open_whole known t.ty q.ty complete eo)
    by_test false false es eo e = absurd (false≢true e)

pub parts_of : (known : Known) (ty : Ty) → is_complete known ty ≡ true → is_scalar ty ≡ false → has_parts ty ≡ true
parts_of known Void complete other = absurd (false≢true complete)
parts_of known (Int i) complete other = absurd (true≢false other)
parts_of known (Pointer row) complete other = absurd (true≢false other)
parts_of known (Array row n s) complete other = refl
parts_of known (Struct n) complete other = refl
