-- Items and first bytes in order, and how the parts of an object lie in it.
use Rattle.std.proofs.Common.{◌≡◌, ℕ, zero, suc, ◌+◌, ◌*◌, ◌^◌, ◌%◌, ◌/◌, ◌<◌, ◌≤◌, Bool, true, false, not, ◌||◌, if◌then◌else◌, nat_eq, nat_lt, List, [], ◌∷◌, ◌++◌, length, Some, refl, sym, ap, ◌∙◌, subst, subst₂, true≢false, arith, append_assoc, append-nil}
use Rattle.std.specs.Prelude.{slice_get}
use Rattle.std.proofs.lemmas.Bool.{false≢true}
use Rattle.std.proofs.lemmas.Grind.{common_steps}
use Rattle.std.proofs.lemmas.Option.{same_Some}
use Rattle.c_typed.specs.Sameness.{is_scalar}
use Rattle.c_typed.specs.Trees.{Item, FunctionTree, Program, Scalar, Text}
use Rattle.c_typed.specs.declared.program.Initial.{Initial}
use Rattle.c_typed.specs.declared.program.InitialByte.TheVariants as initial
use Rattle.c_typed.specs.declared.types.Qualified.{Qualified}
use Rattle.c_typed.specs.declared.types.Ty.{Ty}
use Rattle.c_typed.specs.declared.types.Ty.TheVariants.{Void, Int, Pointer, Array, Struct}
use Rattle.type_rules.specs.Initializers.{is_unsized}
use Rattle.type_rules.specs.Known.{Field, Known}
use Rattle.type_rules.specs.Rows.{bytes_of, is_complete, fields_of}
use Rattle.type_rules.specs.Slots.{Slot, Begun, bytes_at, low_bytes}
use Rattle.typed_laws.specs.Chains.{item_size, IsItem, ItemsIn, IsByte, InitialsIn, IsOf, Extends, IsSlot, IsNear, begin_of, upto}
use Rattle.typed_laws.specs.Tables.{at, Adds, Each, IsMember, AreMembers, Orderly}
use Rattle.typed_laws.proofs.Growing.{leads_back}
use Rattle.typed_laws.proofs.Lists.{none_is}
use Rattle.c_typed.specs.declared.program.InitialByte.{InitialByte}
use Rattle.c_typed.specs.Types.{type_of, item_start, kept}
use Rattle.c_typed.specs.Trees as typed

-- ---- lists in order

items_lower : (known : Known) (low mid high : ℕ) (items : List Item) → low ≤ mid → ItemsIn known mid high items → ItemsIn known low high items
items_lower known low mid high [] le h = omega (arith, le, h)
items_lower known low mid high (i ∷ is) le h = (omega (arith, le, h.0), h.1, h.2)

pub items_join : (known : Known) (low mid high : ℕ) (xs ys : List Item) → ItemsIn known low mid xs → ItemsIn known mid high ys → ItemsIn known low high (xs ++ ys)
items_join known low mid high [] ys g h = items_lower known low mid high ys g h
items_join known low mid high (x ∷ xs) ys g h = (g.0, g.1, items_join known (item_start x + item_size known x) mid high xs ys g.2 h)

initials_lower : (known : Known) (low mid high : ℕ) (is : List Initial) → low ≤ mid → InitialsIn known mid high is → InitialsIn known low high is
initials_lower known low mid high [] le h = omega (arith, le, h)
initials_lower known low mid high (i ∷ is) le h = (omega (arith, le, h.0), h.1, h.2)

pub initials_join : (known : Known) (low mid high : ℕ) (xs ys : List Initial) → InitialsIn known low mid xs → InitialsIn known mid high ys → InitialsIn known low high (xs ++ ys)
initials_join known low mid high [] ys g h = initials_lower known low mid high ys g h
initials_join known low mid high (x ∷ xs) ys g h = (g.0, g.1, initials_join known (x.offset + 1) mid high xs ys g.2 h)

pub items_higher : (known : Known) (low mid high : ℕ) (xs : List Item) → mid ≤ high → ItemsIn known low mid xs → ItemsIn known low high xs
items_higher known low mid high [] le h = omega (arith, le, h)
items_higher known low mid high (x ∷ xs) le h = (h.0, h.1, items_higher known (item_start x + item_size known x) mid high xs le h.2)

pub initials_higher : (known : Known) (low mid high : ℕ) (xs : List Initial) → mid ≤ high → InitialsIn known low mid xs → InitialsIn known low high xs
initials_higher known low mid high [] le h = omega (arith, le, h)
initials_higher known low mid high (x ∷ xs) le h = (h.0, h.1, initials_higher known (x.offset + 1) mid high xs le h.2)

-- Bytes in order don't end before they begin.
pub initials_ordered : (known : Known) (low high : ℕ) (is : List Initial) → InitialsIn known low high is → low ≤ high
initials_ordered known low high [] h = h
initials_ordered known low high (i ∷ is) h = let rest : i.offset + 1 ≤ high = initials_ordered known (i.offset + 1) high is h.2 in omega (arith, h.0, rest)

each_join : {A : Type 0} (P : A → Type 0) (xs ys : List A) → Each P xs → Each P ys → Each P (xs ++ ys)
each_join P [] ys g h = h
each_join P (x ∷ xs) ys g h = (g.0, each_join P xs ys g.1 h)

module _ (known : Known) (ty : Ty) where
  pub extends_none : (low high : ℕ) (b : Begun) → low ≤ high → Extends known ty low high b b
  extends_none low high b le = record { initial = []; initial_is = sym (append-nil b.initial); initial_in = le; items = []; items_are = sym (append-nil b.items); items_in = le; types = tt }

  pub extends_join : (low mid high : ℕ) (b c d : Begun) → Extends known ty low mid b c → Extends known ty mid high c d → Extends known ty low high b d
  extends_join low mid high b c d g h = record {
    initial = g.initial ++ h.initial;
    initial_is = h.initial_is ∙ (ap (λ l. l ++ h.initial) g.initial_is ∙ append_assoc b.initial g.initial h.initial);
    initial_in = initials_join known low mid high g.initial h.initial g.initial_in h.initial_in;
    items = g.items ++ h.items;
    items_are = h.items_are ∙ (ap (λ l. l ++ h.items) g.items_are ∙ append_assoc b.items g.items h.items);
    items_in = items_join known low mid high g.items h.items g.items_in h.items_in;
    types = each_join (IsOf ty) g.items h.items g.types h.types;
  }

  pub extends_higher : (low mid high : ℕ) (b c : Begun) → mid ≤ high → Extends known ty low mid b c → Extends known ty low high b c
  extends_higher low mid high b c le g = record {
    initial = g.initial;
    initial_is = g.initial_is;
    initial_in = initials_higher known low mid high g.initial le g.initial_in;
    items = g.items;
    items_are = g.items_are;
    items_in = items_higher known low mid high g.items le g.items_in;
    types = g.types;
  }

  pub extends_at : (low high low2 high2 : ℕ) (b c : Begun) → low ≡ low2 → high ≡ high2 → Extends known ty low high b c → Extends known ty low2 high2 b c
  extends_at low high low2 high2 b c el eh g = subst₂ (λ l h. Extends known ty l h b c) el eh g

pub extends_of : (known : Known) (ty ty2 : Ty) (low high : ℕ) (b c : Begun) → ((is : List Item) → Each (IsOf ty) is → Each (IsOf ty2) is) → Extends known ty low high b c → Extends known ty2 low high b c
extends_of known ty ty2 low high b c f g = record { initial = g.initial; initial_is = g.initial_is; initial_in = g.initial_in; items = g.items; items_are = g.items_are; items_in = g.items_in; types = f g.items g.types }

-- ---- more rows

module _ (known : Known) (ts us : List Qualified) (adds : Adds ts us) where
  item_more : (item : Item) → IsItem (at known ts) item → IsItem (at known us) item
  item_more item h = record { fitting = λ p f l. h.fitting p f (leads_back known ts us adds p f l); bytes = λ p f l. h.bytes p f (leads_back known ts us adds p f l) ∙ same_size item }
    where
      same_size : (item : Item) → item_size (at known ts) item ≡ item_size (at known us) item
      same_size (Scalar offset value) = refl
      same_size (typed.Struct offset from size) = refl
      same_size (Text offset bytes size) = refl

  items_more : (low high : ℕ) (items : List Item) → ItemsIn (at known ts) low high items → ItemsIn (at known us) low high items
  items_more low high [] h = h
  items_more low high (Scalar offset value ∷ is) h = (h.0, item_more _ h.1, items_more (offset + bytes_of (at known ts) (type_of value)) high is h.2)
  items_more low high (typed.Struct offset from size ∷ is) h = (h.0, item_more _ h.1, items_more (offset + size) high is h.2)
  items_more low high (Text offset bytes size ∷ is) h = (h.0, item_more _ h.1, items_more (offset + size) high is h.2)

  initials_more : (low high : ℕ) (is : List Initial) → InitialsIn (at known ts) low high is → InitialsIn (at known us) low high is
  initials_more low high [] h = h
  initials_more low high (i ∷ is) h = (h.0, byte_more i.byte h.1, initials_more (i.offset + 1) high is h.2)
    where
      byte_more : (b : InitialByte) → IsByte (at known ts) b → IsByte (at known us) b
      byte_more (initial.Number n) g = tt
      byte_more (initial.Address object byte) g = g

  pub extends_more : (ty : Ty) (low high : ℕ) (b c : Begun) → Extends (at known ts) ty low high b c → Extends (at known us) ty low high b c
  extends_more ty low high b c g = record {
    initial = g.initial;
    initial_is = g.initial_is;
    initial_in = initials_more low high g.initial g.initial_in;
    items = g.items;
    items_are = g.items_are;
    items_in = items_more low high g.items g.items_in;
    types = g.types;
  }

-- ---- bytes of numbers and characters

pub bytes_in : (known : Known) (offset : ℕ) (bs : List ℕ) → InitialsIn known offset (offset + length bs) (bytes_at offset bs)
bytes_in known offset [] = omega arith
bytes_in known offset (b ∷ bs) = (omega arith, tt, subst (λ n. InitialsIn known (offset + 1) n (bytes_at (offset + 1) bs)) (next (length bs)) (bytes_in known (offset + 1) bs))
  where
    next : (n : ℕ) → (offset + 1) + n ≡ offset + suc n
    next n = omega arith

pub low_length : (k n : ℕ) → length (low_bytes k n) ≡ k
low_length zero n = refl
low_length (suc k) n = ap suc (low_length k (n / 256))

-- ---- sizes that are kept as they are

pub kept_exact : (n : ℕ) → kept n < 2 ^ 40 → kept n ≡ n
kept_exact n h = by_test (nat_lt n (2 ^ 40)) h
  where
    by_test : (b : Bool) → (if b then n else n % 65536 + 2 ^ 40) < 2 ^ 40 → (if b then n else n % 65536 + 2 ^ 40) ≡ n
    by_test true h = refl
    by_test false h = absurd (omega (arith, h))

pub kept_below : (n : ℕ) → IsNear n → kept n ≡ n
kept_below n near = by_test (nat_lt n (2 ^ 40)) refl
  where
    by_test : (b : Bool) → nat_lt n (2 ^ 40) ≡ b → (if b then n else n % 65536 + 2 ^ 40) ≡ n
    by_test true e = refl
    by_test false e = absurd (past e)
      where
        past : nat_lt n (2 ^ 40) ≡ false → ⊥
        past e = grind (arith, common_steps)

-- ---- the parts of a structure

-- Members of a structure of few bytes lie one behind the other within it.
members_within : (known : Known) (before : ℕ) (ms : List (List ℕ × Field)) (size : ℕ) → AreMembers known before ms size → size ≤ 65535 → before ≤ size
members_within known before [] size all small = omega (arith, all)
members_within known before (m ∷ ms) size all small =
    let rest : kept (before + bytes_of known ((m.1).ty).ty) ≤ size = members_within known (kept (before + bytes_of known ((m.1).ty).ty)) ms size all.1 small in
    let low : kept (before + bytes_of known ((m.1).ty).ty) < 2 ^ 40 = omega (arith, rest, small) in
    omega (arith, kept_exact (before + bytes_of known ((m.1).ty).ty) low, rest)

pub member_next : (known : Known) (before : ℕ) (ms : List (List ℕ × Field)) (size n : ℕ) (m : List ℕ × Field) → AreMembers known before ms size → size ≤ 65535 → slice_get ms n ≡ Some m
    → ((m.1).offset ≡ begin_of known before ms n) × ((m.1).offset + bytes_of known ((m.1).ty).ty ≡ begin_of known before ms (suc n)) × (begin_of known before ms (suc n) ≤ size) × IsMember known m.1 (m.1).offset
member_next known before [] size n m all small is = absurd (none_is is)
member_next known before (x ∷ ms) size zero m all small is =
    subst (λ (z : List ℕ × Field). ((z.1).offset ≡ before) × ((z.1).offset + bytes_of known ((z.1).ty).ty ≡ begin_of known (kept (before + bytes_of known ((x.1).ty).ty)) ms 0) × (begin_of known (kept (before + bytes_of known ((x.1).ty).ty)) ms 0 ≤ size) × IsMember known z.1 (z.1).offset) (same_Some x m is) (
      (all.0).offset,
      ap (λ o. o + bytes_of known ((x.1).ty).ty) (all.0).offset ∙ (sym (kept_exact (before + bytes_of known ((x.1).ty).ty) low) ∙ sym (first (kept (before + bytes_of known ((x.1).ty).ty)) ms)),
      subst (λ k. k ≤ size) (sym (first (kept (before + bytes_of known ((x.1).ty).ty)) ms)) rest,
      record { offset = refl; stands = (all.0).stands; whole = (all.0).whole; some = (all.0).some; constant = (all.0).constant },
    )
  where
    first : (b : ℕ) (ms : List (List ℕ × Field)) → begin_of known b ms 0 ≡ b
    first b [] = refl
    first b (y ∷ ys) = refl

    rest : kept (before + bytes_of known ((x.1).ty).ty) ≤ size
    rest = members_within known (kept (before + bytes_of known ((x.1).ty).ty)) ms size all.1 small

    low : kept (before + bytes_of known ((x.1).ty).ty) < 2 ^ 40
    low = omega (arith, rest, small)
member_next known before (x ∷ ms) size (suc n) m all small is = member_next known (kept (before + bytes_of known ((x.1).ty).ty)) ms size n m all.1 small is

-- ---- the parts of an object

first_upto : (known : Known) (ty : Ty) → upto known ty 0 ≡ 0
first_upto known Void = refl
first_upto known (Int i) = refl
first_upto known (Pointer row) = refl
first_upto known (Array row n s) = omega arith
first_upto known (Struct number) = first (fields_of known number)
  where
    first : (ms : List (List ℕ × Field)) → begin_of known 0 ms 0 ≡ 0
    first [] = refl
    first (m ∷ ms) = refl

pub upto_none : (known : Known) (ty : Ty) → upto known ty 0 ≡ 0
upto_none = first_upto

module _ (known : Known) (o : Orderly known) (slot : Slot) (h : IsSlot known slot) where
  -- What is known of a part; where it begins and ends, if that is counted exactly.
  pub record IsPart (n : ℕ) (sn : Slot) : Type 0 where
    pub slot_is : IsSlot known sn
    pub sized : is_unsized (sn.ty).ty ≡ false
    pub begins : IsNear (slot.offset + upto known (slot.ty).ty (suc n)) → sn.offset ≡ slot.offset + upto known (slot.ty).ty n
    pub ends : IsNear (slot.offset + upto known (slot.ty).ty (suc n)) → sn.offset + bytes_of known (sn.ty).ty ≡ slot.offset + upto known (slot.ty).ty (suc n)
    pub small : bytes_of known (sn.ty).ty ≤ 65535
    pub types : (is : List Item) → Each (IsOf (sn.ty).ty) is → Each (IsOf (slot.ty).ty) is

pub complete_sized : (known : Known) (ty : Ty) → is_complete known ty ≡ true → is_unsized ty ≡ false
complete_sized known Void h = refl
complete_sized known (Int i) h = refl
complete_sized known (Pointer row) h = refl
complete_sized known (Array row n s) h = flip (nat_eq n 0) h
  where
    flip : (b : Bool) → not b ≡ true → b ≡ false
    flip true e = absurd (false≢true e)
    flip false e = refl
complete_sized known (Struct number) h = refl

pub only_left : (b : Bool) → (b || false) ≡ true → b ≡ true
only_left true h = refl
only_left false h = absurd (false≢true h)

pub no_scalar : (ty : Ty) → is_scalar ty ≡ false → (is : List Item) (other : Ty) → Each (IsOf other) is → Each (IsOf ty) is
no_scalar ty single [] other all = tt
no_scalar ty single (i ∷ is) other all = ((λ scalar. absurd (true≢false (sym scalar ∙ single))), no_scalar ty single is other all.1)

pub times_near : (offset e n : ℕ) → IsNear (offset + e * suc n) → IsNear (offset + e * n)
times_near offset e n near = omega (arith, near)

pub times_next : (offset e n : ℕ) → (offset + e * n) + e ≡ offset + e * suc n
times_next offset e n = omega arith
