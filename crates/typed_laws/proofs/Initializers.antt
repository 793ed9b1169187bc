-- Initializers: what they give stands in order within the part that it is for, and fits.
use Rattle.std.proofs.Common.{◌≡◌, ℕ, suc, ◌+◌, ◌-◌, ◌*◌, ◌<◌, ◌≤◌, Bool, true, false, not, ◌||◌, ◌&&◌, if◌then◌else◌, nat_eq, nat_lt, nat_le, List, [], ◌∷◌, ◌++◌, length, Option, Some, None, is_some, ◌⊎◌, inl, inr, refl, sym, ap, ◌∙◌, subst, true≢false, append-nil, add-zero, Result, arith}
use Rattle.std.specs.Prelude.{slice_get}
use Rattle.std.proofs.lemmas.Bool.{and_from, or_left, false≢true}
use Rattle.std.proofs.lemmas.Grind.{common_steps}
use Rattle.std.proofs.lemmas.Option.{same_Some}
use Rattle.c_ints.specs.Range as range
use Rattle.c_ints.specs.declared.types.IntTy.{IntTy}
use Rattle.c_ints.specs.declared.types.IntTy.TheVariants as int
use Rattle.c_nodes.specs.Programs.{InitTree, MoreInits}
use Rattle.c_nodes.specs.Programs as tree
use Rattle.c_nodes.specs.Words.{Symbol}
use Rattle.c_typed.specs.Fits.{place_fits, Used}
use Rattle.c_typed.specs.Folding.{folded}
use Rattle.c_typed.specs.declared.folding.Folded.{Folded}
use Rattle.c_typed.specs.Sameness.{same_type, is_array, is_struct, is_scalar}
use Rattle.c_typed.specs.Sound.{value_fits, item_fits, is_changeable}
use Rattle.c_typed.specs.declared.program.Initial.{Initial}
use Rattle.c_typed.specs.Trees as typed
use Rattle.c_typed.specs.Trees.{Expression, Place, Item, FunctionTree, Program}
use Rattle.c_typed.specs.Types.{type_of, place_type, type_bytes, item_start, kept}
use Rattle.c_typed.specs.declared.types.Qualified.{Qualified}
use Rattle.c_typed.specs.declared.types.Ty.{Ty}
use Rattle.c_typed.specs.declared.types.Ty.TheVariants.{Void, Int, Pointer, Array, Struct}
use Rattle.type_rules.specs.Constants.{number_in}
use Rattle.type_rules.specs.Conversions.{may_be_assigned, assigned}
use Rattle.type_rules.specs.Faults as kind
use Rattle.type_rules.specs.Faults.{Fault}
use Rattle.type_rules.specs.Initializers.{items_in, is_unsized, with_items, has_more, begins, more_begins}
use Rattle.type_rules.specs.Known.{Field, Known, Rule, given, go_on}
use Rattle.type_rules.specs.Rows.{like, or_void, target_of, bytes_of, is_complete, fields_in, fields_of}
use Rattle.type_rules.specs.Slots.{Slot, Begun, member_slot, element_slot, part_by, part, bytes_at, number_bytes, with_initial, address_bytes, static_address, begin_pointer, with_item, begin_structure, value_line, begin_value, text_of, is_char, begin_characters, static_text, refused_text, begin_text_by, begin_text}
use Rattle.type_rules.specs.Terms.{Operand, side_of}
use Rattle.type_rules.specs.Writes.{structure_read}
use Rattle.typed_laws.specs.Chains.{item_size, IsItem, InitialsIn, IsOf, Extends, IsSlot, IsSmall, element_size, small_by, IsNear, gave_by, IsLike, Begins, upto}
use Rattle.typed_laws.specs.Going.{Goes}
use Rattle.typed_laws.specs.Tables.{at, Adds, Stands, Orderly, Leads}
use Rattle.typed_laws.specs.Terms.{IsAssigned, IsOperand}
use Rattle.typed_laws.proofs.Assigning.{assigned_goes}
use Rattle.typed_laws.proofs.Chains.{IsPart, extends_none, extends_join, extends_higher, extends_at, extends_of, extends_more, bytes_in, initials_higher, initials_ordered, low_length, kept_exact, upto_none, only_left}
use Rattle.typed_laws.proofs.Enumerators.{number_goes}
use Rattle.typed_laws.proofs.Expressions.{value_of_goes}
use Rattle.typed_laws.proofs.Growing.{stands_more}
use Rattle.typed_laws.proofs.Lists.{none_is}
use Rattle.typed_laws.proofs.Meeting.{target_is, whole_in}
use Rattle.typed_laws.proofs.Operating.{chosen}
use Rattle.typed_laws.proofs.Operators.{not_false}
use Rattle.typed_laws.proofs.Parts.{slot_of, part_at, parts_below, within_all, part_same}
use Rattle.typed_laws.proofs.Places.{member_there}
use Rattle.typed_laws.proofs.Same.{same_type_is, same_nat_refl}
use Rattle.typed_laws.proofs.Steps.{goes_given, goes_broken, goes_on, goes_test, goes_wanted, goes_weaker, goes_more}
use Rattle.typed_laws.proofs.Writes.{read_from}

-- ---- one more item, or more bytes

itself_with : (item : Item) (b : Begun) → IsLike b (with_item item b)
itself_with item b = record { static_object = refl; line = refl }

with_more : (bytes : List Initial) (b : Begun) → IsLike b (with_initial bytes b)
with_more bytes b = record { static_object = refl; line = refl }

pub slot_more : (known : Known) (ts us : List Qualified) → Adds ts us → (slot : Slot) → IsSlot (at known ts) slot → IsSlot (at known us) slot
slot_more known ts us adds slot h = record { stands = stands_more known ts us adds (slot.ty).ty h.stands; whole = h.whole }

itself : (b : Begun) → IsLike b b
itself b = record { static_object = refl; line = refl }

one_item : (known : Known) (ty : Ty) (item : Item) (size : ℕ) (b : Begun) → IsItem known item → item_size known item ≡ size → IsOf ty item → Extends known ty (item_start item) (item_start item + size) b (with_item item b)
one_item known ty item size b h is of = record {
  initial = [];
  initial_is = sym (append-nil b.initial);
  initial_in = omega arith;
  items = item ∷ [];
  items_are = refl;
  items_in = (omega arith, h, ends (item_start item) (item_size known item) size is);
  types = (of, tt);
}
  where
    ends : (s a b : ℕ) → a ≡ b → s + a ≤ s + b
    ends s a b e = omega (arith, e)

more_bytes : (known : Known) (ty : Ty) (bytes : List Initial) (low high : ℕ) (b : Begun) → InitialsIn known low high bytes → low ≤ high → Extends known ty low high b (with_initial bytes b)
more_bytes known ty bytes low high b h le = record {
  initial = bytes;
  initial_is = refl;
  initial_in = h;
  items = [];
  items_are = sym (append-nil b.items);
  items_in = le;
  types = tt;
}

-- ---- values

scalar_bytes : (known : Known) (p : Program) (ty : Ty) → is_scalar ty ≡ true → type_bytes p.sizes ty ≡ bytes_of known ty
scalar_bytes known p Void h = absurd (false≢true h)
scalar_bytes known p (Int i) h = refl
scalar_bytes known p (Pointer row) h = refl
scalar_bytes known p (Array row n s) h = absurd (false≢true h)
scalar_bytes known p (Struct number) h = absurd (false≢true h)

assigned_item : (known : Known) (offset : ℕ) (ty : Ty) (e : Expression) → is_scalar ty ≡ true → IsAssigned known ty e → IsItem known (typed.Scalar offset e)
assigned_item known offset ty e scalar h = record {
  fitting = λ p f l. subst (λ t. value_fits p f t e ≡ true) (sym h.type) (h.fitting p f l);
  bytes = λ p f l. ap (type_bytes p.sizes) h.type ∙ (scalar_bytes known p ty scalar ∙ ap (bytes_of known) (sym h.type));
}

module _ (known : Known) (ts : List Qualified) (o : Orderly (at known ts)) (offset : ℕ) where
  -- what one value gives for a part that isn't an array
  abbrev Given : Ty → List Qualified → Begun → Begun → Type 0
  Given ty us b d = IsLike b d × (d.count ≡ b.count) × Extends (at known us) ty offset (offset + bytes_of (at known ts) ty) b d

  value_local : (ty : Ty) (x : Operand) (line : ℕ) (b : Begun) → is_scalar ty ≡ true → Stands (at known ts) ty → IsOperand (at known ts) Used x
      → Goes known ts (λ us d. Given ty us b d) (go_on (λ value. given (with_item (typed.Scalar offset value) b)) (assigned x ty line (at known ts)))
  value_local ty x line b scalar stands hx = goes_on known _ _ ts _ (λ value. given (with_item (typed.Scalar offset value) b)) (assigned_goes known ts o x ty line hx stands)
      (λ e us adds ordered he. goes_given known _ _ us ordered (
        itself_with (typed.Scalar offset e) b,
        refl,
        one_item (at known us) ty (typed.Scalar offset e) (bytes_of (at known ts) ty) b (assigned_item (at known us) offset ty e scalar he) (ap (bytes_of (at known ts)) he.type) (λ s. he.type),
      ))

  copied_item : (number : ℕ) (x : Operand) (from : Place) → Stands (at known ts) (Struct number) → is_complete (at known ts) (Struct number) ≡ true → IsOperand (at known ts) Used x
      → same_type (type_of x.value) (Struct number) ≡ true → structure_read x.value ≡ Some from → IsItem (at known ts) (typed.Struct offset from (bytes_of (at known ts) (Struct number)))
  copied_item number x from stands complete hx same read = record { fitting = fitting; bytes = λ p f l. refl }
    where
      fitting : (p : Program) (f : FunctionTree) → Leads (at known ts) p f → item_fits p f (typed.Struct offset from (bytes_of (at known ts) (Struct number))) ≡ true
      fitting p f l =
          let source = read_from p f x.value from read (hx.fitting p f l) in
          let is : (place_type from).ty ≡ Struct number = source.0 ∙ same_type_is (type_of x.value) (Struct number) same in
          and_from (is_struct (place_type from).ty) (nat_eq (bytes_of (at known ts) (Struct number)) (type_bytes p.sizes (place_type from).ty) && place_fits p f from) (ap is_struct is)
          (and_from (nat_eq (bytes_of (at known ts) (Struct number)) (type_bytes p.sizes (place_type from).ty)) (place_fits p f from)
          (ap (nat_eq (bytes_of (at known ts) (Struct number))) (ap (type_bytes p.sizes) is ∙ (whole_in (at known ts) p l.begins o (Struct number) stands complete).1) ∙ same_nat_refl (bytes_of (at known ts) (Struct number))) source.1)

  structure_goes : (number : ℕ) (c v : Bool) (x : Operand) (b : Begun) → Stands (at known ts) (Struct number) → is_complete (at known ts) (Struct number) ≡ true → IsOperand (at known ts) Used x
      → Goes known ts (λ us d. Given (Struct number) us b d) (begin_structure (slot_of (Struct number) c v offset) x b (at known ts))
  structure_goes number c v x b stands complete hx = goes_test known _ ts (not (same_type (type_of x.value) (Struct number))) kind.Initializer x.line _
      (λ same. goes_wanted known _ ts (structure_read x.value) kind.Initializer x.line _
      (λ from read. goes_given known _ _ ts o (
        itself_with (typed.Struct offset from (bytes_of (at known ts) (Struct number))) b,
        refl,
        one_item (at known ts) (Struct number) (typed.Struct offset from (bytes_of (at known ts) (Struct number))) (bytes_of (at known ts) (Struct number)) b
            (copied_item number x from stands complete hx (not_false (same_type (type_of x.value) (Struct number)) same) read) refl (λ s. absurd (false≢true s)),
      )))

  number_given : (i : IntTy) (f : Folded) (line : ℕ) (b : Begun)
      → Goes known ts (λ us d. Given (Int i) us b d) (go_on (λ v. given (with_initial (bytes_at offset (number_bytes i v)) b)) (number_in f line (at known ts)))
  number_given i f line b = goes_on known (λ us v. Unit {0}) _ ts _ (λ v. given (with_initial (bytes_at offset (number_bytes i v)) b)) (number_goes known f line ts o)
      (λ v us adds ordered u. goes_given known _ _ us ordered (
        with_more (bytes_at offset (number_bytes i v)) b,
        refl,
        more_bytes (at known us) (Int i) (bytes_at offset (number_bytes i v)) offset (offset + range.bytes_of i) b
            (subst (λ n. InitialsIn (at known us) offset (offset + n) (bytes_at offset (number_bytes i v))) (low_length (range.bytes_of i) (range.pattern i v.number)) (bytes_in (at known us) offset (number_bytes i v))) (omega arith),
      ))

  address_within : (n : ℕ) → is_changeable (slice_get known.statics n) ≡ true → InitialsIn (at known ts) offset (offset + 2) (address_bytes offset n)
  address_within n h = (omega arith, (h, refl), (omega arith, (h, refl), omega arith))

  null_or : (n : Bool) (row : ℕ) (b : Begun) (rest : Rule Begun) → Goes known ts (λ us d. Given (Pointer row) us b d) (rest (at known ts)) → Goes known ts (λ us d. Given (Pointer row) us b d) ((if n then given b else rest) (at known ts))
  null_or true row b rest g = goes_given known _ _ ts o (itself b, refl, extends_none (at known ts) (Pointer row) offset (offset + 2) b (omega arith))
  null_or false row b rest g = g

  pointer_given : (row : ℕ) (c v : Bool) (x : Operand) (line : ℕ) (b : Begun) → IsOperand (at known ts) Used x
      → Goes known ts (λ us d. Given (Pointer row) us b d) (begin_pointer (slot_of (Pointer row) c v offset) x line b (at known ts))
  pointer_given row c v x line b hx = null_or x.null row b _ (goes_wanted known _ ts (static_address x.value) kind.Initializer x.line _
      (λ n is. goes_test known _ ts (not (may_be_assigned (at known ts) (side_of x) (Pointer row))) kind.Convert line _
      (λ h. goes_given known _ _ ts o (with_more (address_bytes offset n) b, refl, more_bytes (at known ts) (Pointer row) (address_bytes offset n) offset (offset + 2) b (address_within n (hx.free refl n is)) (omega arith)))))

  -- what a value gives for a part
  looser : (ty : Ty) (c v : Bool) (b : Begun) (r : Result (Begun × Known) Fault) → is_unsized ty ≡ false → Goes known ts (λ us d. Given ty us b d) r → Goes known ts (λ us d. Begins (at known ts) (at known us) (Some (slot_of ty c v offset)) b d) r
  looser ty c v b r sized g = goes_weaker known _ _ ts r (λ us d h. (h.0, (λ e. absurd (false≢true (sym sized ∙ e))), λ small. subst (λ w. gave_by w (at known ts) (at known us) (slot_of ty c v offset) b d) (sym sized) (h.1, λ near. h.2))) g

  choice_of : (ty : Ty) (s : Bool) (r q : Rule Begun) (b : Begun) → Goes known ts (λ us d. Given ty us b d) (r (at known ts)) → Goes known ts (λ us d. Given ty us b d) (q (at known ts)) → Goes known ts (λ us d. Given ty us b d) ((if s then r else q) (at known ts))
  choice_of ty true r q b g h = g
  choice_of ty false r q b g h = h

  neither : (P : List Qualified → Begun → Type 0) (s : Bool) (r q : Rule Begun) → Goes known ts P (r (at known ts)) → Goes known ts P (q (at known ts)) → Goes known ts P ((if s then r else q) (at known ts))
  neither P true r q g h = g
  neither P false r q g h = h

  value_by : (ty : Ty) (c v : Bool) (inside : Bool) (x : Operand) (b : Begun) → Stands (at known ts) ty → (is_complete (at known ts) ty || is_array ty) ≡ true → IsOperand (at known ts) Used x
      → Goes known ts (λ us d. Begins (at known ts) (at known us) (Some (slot_of ty c v offset)) b d) (begin_value (slot_of ty c v offset) inside x b (at known ts))
  value_by Void c v inside x b stands whole hx = absurd (false≢true whole)
  value_by (Int i) c v inside x b stands whole hx = looser (Int i) c v b _ refl (choice_of (Int i) b.static_object _ _ b (number_given i (folded x.value) x.line b) (value_local (Int i) x (value_line inside x.line b) b refl stands hx))
  value_by (Pointer row) c v inside x b stands whole hx = looser (Pointer row) c v b _ refl (choice_of (Pointer row) b.static_object _ _ b (pointer_given row c v x (value_line inside x.line b) b hx) (value_local (Pointer row) x (value_line inside x.line b) b refl stands hx))
  value_by (Array row n s) c v inside x b stands whole hx = neither _ b.static_object _ _ (goes_broken known _ ts _) (goes_broken known _ ts _)
  value_by (Struct number) c v inside x b stands whole hx = looser (Struct number) c v b _ refl (choice_of (Struct number) b.static_object _ _ b (goes_broken known _ ts _) (structure_goes number c v x b stands (only_left (is_complete (at known ts) (Struct number)) whole) hx))

  -- ---- strings

  chars_one : (ty : Ty) → is_char ty ≡ true → bytes_of (at known ts) ty ≡ 1
  chars_one Void h = absurd (false≢true h)
  chars_one (Int int.Char) h = refl
  chars_one (Int int.SChar) h = refl
  chars_one (Int int.UChar) h = refl
  chars_one (Int int.Short) h = absurd (false≢true h)
  chars_one (Int int.UShort) h = absurd (false≢true h)
  chars_one (Int int.Int) h = absurd (false≢true h)
  chars_one (Int int.UInt) h = absurd (false≢true h)
  chars_one (Int int.Long) h = absurd (false≢true h)
  chars_one (Int int.ULong) h = absurd (false≢true h)
  chars_one (Pointer row) h = absurd (false≢true h)
  chars_one (Array row n s) h = absurd (false≢true h)
  chars_one (Struct number) h = absurd (false≢true h)

  -- characters that have room
  text_extends : (ty : Ty) (text : List ℕ) (size : ℕ) (b d : Begun) (line : ℕ) → is_scalar ty ≡ false → length text ≤ size → d.initial ≡ b.initial → d.items ≡ b.items → (s : Bool)
      → Extends (at known ts) ty offset (offset + size) b (if s then with_initial (bytes_at offset text) d else with_item (typed.Text offset text size) d)
  text_extends ty text size b d line single room same_initial same_items true = record {
    initial = bytes_at offset text;
    initial_is = ap (λ l. l ++ bytes_at offset text) same_initial;
    initial_in = initials_higher (at known ts) offset (offset + length text) (offset + size) (bytes_at offset text) (omega (arith, room)) (bytes_in (at known ts) offset text);
    items = [];
    items_are = same_items ∙ sym (append-nil b.items);
    items_in = omega arith;
    types = tt;
  }
  text_extends ty text size b d line single room same_initial same_items false = record {
    initial = [];
    initial_is = same_initial ∙ sym (append-nil b.initial);
    initial_in = omega arith;
    items = typed.Text offset text size ∷ [];
    items_are = ap (λ l. l ++ typed.Text offset text size ∷ []) same_items;
    items_in = (omega arith, record { fitting = λ p f l. le_test (length text) size room; bytes = λ p f l. refl }, omega arith);
    types = ((λ scalar. absurd (true≢false (sym scalar ∙ single))), tt);
  }
    where
      le_test : (m n : ℕ) → m ≤ n → nat_le m n ≡ true
      le_test m n h = grind (arith, common_steps)

  text_by : (row count size : ℕ) (c v : Bool) (text : List ℕ) (line : ℕ) (b : Begun) → Stands (at known ts) (Array row count size) → is_char (target_of (at known ts) row).ty ≡ true
      → Goes known ts (λ us d. Begins (at known ts) (at known us) (Some (slot_of (Array row count size) c v offset)) b d) (begin_characters (slot_of (Array row count size) c v offset) count text line b (at known ts))
  text_by row count size c v text line b stands chars = goes_test known _ ts (not (nat_eq count 0) && nat_lt count (length text)) kind.Initializer line _
      (λ free. goes_given known _ _ ts o (ends (nat_eq count 0) refl free))
    where
      one : bytes_of (at known ts) (target_of (at known ts) row).ty ≡ 1
      one = chars_one (target_of (at known ts) row).ty chars

      fits_in : nat_lt count (length text) ≡ false → length text ≤ count
      fits_in e = grind (arith, common_steps)

      whole : size ≤ 65535 → count ≤ size
      whole small =
          let target : target_of (at known ts) row ≡ stands.0 = target_is (at known ts) row stands.0 stands.1 in
          let is : size ≡ kept (count * bytes_of (at known ts) (stands.0).ty) = (stands.2).whole in
          let exact : kept (count * bytes_of (at known ts) (stands.0).ty) ≡ count * bytes_of (at known ts) (stands.0).ty = kept_exact (count * bytes_of (at known ts) (stands.0).ty) (omega (arith, is, small)) in
          let single : bytes_of (at known ts) (stands.0).ty ≡ 1 = ap (λ (z : Qualified). bytes_of (at known ts) z.ty) (sym target) ∙ one in
          let product : count * bytes_of (at known ts) (stands.0).ty ≡ count * 1 = ap (λ n. count * n) single in
          omega (arith, is, exact, product)

      like_text : (z s : Bool) → IsLike b (if s then with_initial (bytes_at offset text) (if z then record b { count = Some (length text + 1) } else b) else with_item (typed.Text offset text (if z then length text + 1 else count)) (if z then record b { count = Some (length text + 1) } else b))
      like_text true true = record { static_object = refl; line = refl }
      like_text true false = record { static_object = refl; line = refl }
      like_text false true = record { static_object = refl; line = refl }
      like_text false false = record { static_object = refl; line = refl }

      counted : (s : Bool) (d : Begun) (item : Item) (bytes : List Initial) → (if s then with_initial bytes d else with_item item d).count ≡ d.count
      counted true d item bytes = refl
      counted false d item bytes = refl

      more_room : (n : ℕ) → n ≤ n + 1
      more_room n = omega arith

      region : (n : ℕ) → offset + (n + 1) ≡ offset + bytes_of (at known ts) (target_of (at known ts) row).ty * (n + 1)
      region n = ap (λ k. offset + k) (once (n + 1) ∙ ap (λ k. k * (n + 1)) (sym one))
        where
          once : (k : ℕ) → k ≡ 1 * k
          once k = omega arith

      ends : (z : Bool) → nat_eq count 0 ≡ z → (not (nat_eq count 0) && nat_lt count (length text)) ≡ false
          → Begins (at known ts) (at known ts) (Some (slot_of (Array row count size) c v offset)) b
          (if b.static_object then with_initial (bytes_at offset text) (if nat_eq count 0 then record b { count = Some (length text + 1) } else b) else with_item (typed.Text offset text (if nat_eq count 0 then length text + 1 else count)) (if nat_eq count 0 then record b { count = Some (length text + 1) } else b))
      ends z e free = subst (λ w. IsLike b (if b.static_object then with_initial (bytes_at offset text) (if w then record b { count = Some (length text + 1) } else b) else with_item (typed.Text offset text (if w then length text + 1 else count)) (if w then record b { count = Some (length text + 1) } else b))
          × (w ≡ true → (n : ℕ) × ((if b.static_object then with_initial (bytes_at offset text) (if w then record b { count = Some (length text + 1) } else b) else with_item (typed.Text offset text (if w then length text + 1 else count)) (if w then record b { count = Some (length text + 1) } else b)).count ≡ Some n) × (0 < n))
          × (small_by w (at known ts) (slot_of (Array row count size) c v offset) → gave_by w (at known ts) (at known ts) (slot_of (Array row count size) c v offset) b
          (if b.static_object then with_initial (bytes_at offset text) (if w then record b { count = Some (length text + 1) } else b) else with_item (typed.Text offset text (if w then length text + 1 else count)) (if w then record b { count = Some (length text + 1) } else b))))
          (sym e) (like_text z b.static_object, some_count z, by_count z e free)
        where
          some_count : (z : Bool) → z ≡ true → (n : ℕ) × ((if b.static_object then with_initial (bytes_at offset text) (if z then record b { count = Some (length text + 1) } else b) else with_item (typed.Text offset text (if z then length text + 1 else count)) (if z then record b { count = Some (length text + 1) } else b)).count ≡ Some n) × (0 < n)
          some_count true h = (length text + 1, counted b.static_object (record b { count = Some (length text + 1) }) (typed.Text offset text (length text + 1)) (bytes_at offset text), omega arith)
          some_count false h = absurd (false≢true h)

          by_count : (z : Bool) → nat_eq count 0 ≡ z → (not (nat_eq count 0) && nat_lt count (length text)) ≡ false → small_by z (at known ts) (slot_of (Array row count size) c v offset) → gave_by z (at known ts) (at known ts) (slot_of (Array row count size) c v offset) b
              (if b.static_object then with_initial (bytes_at offset text) (if z then record b { count = Some (length text + 1) } else b) else with_item (typed.Text offset text (if z then length text + 1 else count)) (if z then record b { count = Some (length text + 1) } else b))
          by_count true e free small = (
            length text + 1,
            counted b.static_object (record b { count = Some (length text + 1) }) (typed.Text offset text (length text + 1)) (bytes_at offset text),
            omega arith,
            λ near. subst (λ n. Extends (at known ts) (Array row count size) offset n b (if b.static_object then with_initial (bytes_at offset text) (record b { count = Some (length text + 1) }) else with_item (typed.Text offset text (length text + 1)) (record b { count = Some (length text + 1) }))) (region (length text)) (text_extends (Array row count size) text (length text + 1) b (record b { count = Some (length text + 1) }) line refl (more_room (length text)) refl refl b.static_object),
          )
          by_count false e free small = (
            counted b.static_object b (typed.Text offset text count) (bytes_at offset text),
            λ near. extends_higher (at known ts) (Array row count size) offset (offset + count) (offset + size) b (if b.static_object then with_initial (bytes_at offset text) b else with_item (typed.Text offset text count) b) (reach count size (whole small))
                (text_extends (Array row count size) text count b b line refl (fits_in (sym (ap (λ w. not w && nat_lt count (length text)) e) ∙ free)) refl refl b.static_object),
          )
            where
              reach : (m n : ℕ) → m ≤ n → offset + m ≤ offset + n
              reach m n h = omega (arith, h)

  text_refused : (c v : Bool) (ty : Ty) (inside : Bool) (line : ℕ) (b : Begun) (P : List Qualified → Begun → Type 0) → Goes known ts P (refused_text (slot_of ty c v offset) inside line b (at known ts))
  text_refused c v ty inside line b P = neither P (not (is_scalar ty)) _ _ (goes_broken known _ ts _) (neither P b.static_object _ _ (by_type ty) (goes_broken known _ ts _))
    where
      by_type : (ty : Ty) → Goes known ts P (static_text ty line (at known ts))
      by_type Void = goes_broken known _ ts _
      by_type (Int i) = goes_broken known _ ts _
      by_type (Pointer row) = goes_broken known _ ts _
      by_type (Array row n s) = goes_broken known _ ts _
      by_type (Struct number) = goes_broken known _ ts _

  -- what a string gives for a part
  text_goes : (ty : Ty) (c v : Bool) (inside : Bool) (s : Symbol) (b : Begun) → Stands (at known ts) ty → Goes known ts (λ us d. Begins (at known ts) (at known us) (Some (slot_of ty c v offset)) b d) (begin_text (slot_of ty c v offset) inside s b (at known ts))
  text_goes Void c v inside s b stands = text_refused c v Void inside s.line b _
  text_goes (Int i) c v inside s b stands = text_refused c v (Int i) inside s.line b _
  text_goes (Pointer row) c v inside s b stands = text_refused c v (Pointer row) inside s.line b _
  text_goes (Struct number) c v inside s b stands = text_refused c v (Struct number) inside s.line b _
  text_goes (Array row count size) c v inside s b stands = by_chars (is_char (target_of (at known ts) row).ty) refl
    where
      by_chars : (w : Bool) → is_char (target_of (at known ts) row).ty ≡ w → Goes known ts (λ us d. Begins (at known ts) (at known us) (Some (slot_of (Array row count size) c v offset)) b d) (begin_text_by (if w then Some count else None) (slot_of (Array row count size) c v offset) inside s b (at known ts))
      by_chars true e = text_by row count size c v (text_of s.bytes) s.line b stands e
      by_chars false e = text_refused c v (Array row count size) inside s.line b _

-- ---- lists

abbrev IsAnySlot : Known → Option Slot → Type 0
IsAnySlot known None = Unit {0}
IsAnySlot known (Some s) = IsSlot known s

-- what the further items of a list give
abbrev BeginsMore : Known → Known → Option Slot → ℕ → ℕ → Begun → Begun → Type 0
BeginsMore known after None n m b c = c ≡ b
BeginsMore known after (Some s) n m b c = IsLike b c × (((k : ℕ) → k < n + m → is_some (part known (Some s) k) ≡ true) → IsSmall known s → (c.count ≡ b.count) × (IsNear (s.offset + upto known (s.ty).ty (n + m)) → Extends after (s.ty).ty (s.offset + upto known (s.ty).ty n) (s.offset + upto known (s.ty).ty (n + m)) b c))

first_part : (known : Known) (s sn : Slot) (n : ℕ) → IsSlot known s → (if nat_eq n 0 then Some s else None) ≡ Some sn → IsSlot known sn
first_part known s sn n h is = by_cases (chosen (nat_eq n 0) (Some s) None (Some sn) is)
  where
    by_cases : ((nat_eq n 0 ≡ true) × (Some s ≡ Some sn)) ⊎ ((nat_eq n 0 ≡ false) × (None ≡ Some sn)) → IsSlot known sn
    by_cases (inl g) = subst (IsSlot known) (same_Some s sn g.1) h
    by_cases (inr g) = absurd (none_is g.1)

module _ (known : Known) (ts : List Qualified) (o : Orderly (at known ts)) where
  element_part : (row count size : ℕ) (c v : Bool) (offset n : ℕ) (sn : Slot) → Stands (at known ts) (Array row count size)
      → (if not (nat_eq count 0) && nat_le count n then None else Some (element_slot (at known ts) (slot_of (Array row count size) c v offset) (like (record { ty = Array row count size; constant = c; volatile = v }) (target_of (at known ts) row).ty) n)) ≡ Some sn → IsSlot (at known ts) sn
  element_part row count size c v offset n sn stands is = by_cases (chosen (not (nat_eq count 0) && nat_le count n) None (Some (element_slot (at known ts) (slot_of (Array row count size) c v offset) (like (record { ty = Array row count size; constant = c; volatile = v }) (target_of (at known ts) row).ty) n)) (Some sn) is)
    where
      target : target_of (at known ts) row ≡ stands.0
      target = target_is (at known ts) row stands.0 stands.1

      by_cases : (((not (nat_eq count 0) && nat_le count n) ≡ true) × (None ≡ Some sn)) ⊎ (((not (nat_eq count 0) && nat_le count n) ≡ false) × (Some (element_slot (at known ts) (slot_of (Array row count size) c v offset) (like (record { ty = Array row count size; constant = c; volatile = v }) (target_of (at known ts) row).ty) n) ≡ Some sn)) → IsSlot (at known ts) sn
      by_cases (inl g) = absurd (none_is g.1)
      by_cases (inr g) = subst (IsSlot (at known ts)) (same_Some _ sn g.1) (record {
        stands = subst (λ (z : Qualified). Stands (at known ts) z.ty) (sym target) (o.rows row stands.0 stands.1);
        whole = or_left (is_complete (at known ts) (target_of (at known ts) row).ty) (is_array (target_of (at known ts) row).ty) (ap (λ (z : Qualified). is_complete (at known ts) z.ty) target ∙ (stands.2).stands);
      })

  member_part : (number offset n : ℕ) (sn : Slot) (found : Option (List ℕ × Field)) → Stands (at known ts) (Struct number) → slice_get (fields_of known number) n ≡ found → member_slot offset found ≡ Some sn → IsSlot (at known ts) sn
  member_part number offset n sn None stands at_n is = absurd (none_is is)
  member_part number offset n sn (Some m) stands at_n is =
      let own = member_there known ts o 0 (stands.0).fields (stands.0).size n m (o.shapes number stands.0 stands.1).members (ap (λ x. slice_get (fields_in x) n) (sym stands.1) ∙ at_n) in
      subst (IsSlot (at known ts)) (same_Some _ sn is) (record { stands = (own.1).stands; whole = or_left (is_complete (at known ts) ((m.1).ty).ty) (is_array ((m.1).ty).ty) (own.1).whole })

  part_by_type : (ty : Ty) (c v : Bool) (offset : ℕ) → IsSlot (at known ts) (slot_of ty c v offset) → (n : ℕ) (sn : Slot) → part_by (at known ts) (slot_of ty c v offset) ty n ≡ Some sn → IsSlot (at known ts) sn
  part_by_type Void c v offset h n sn is = first_part (at known ts) _ sn n h is
  part_by_type (Int i) c v offset h n sn is = first_part (at known ts) _ sn n h is
  part_by_type (Pointer row) c v offset h n sn is = first_part (at known ts) _ sn n h is
  part_by_type (Array row count size) c v offset h n sn is = element_part row count size c v offset n sn h.stands is
  part_by_type (Struct number) c v offset h n sn is = member_part number offset n sn (slice_get (fields_of known number) n) h.stands refl is

  -- A part of a part is one.
  any_part : (s : Slot) → IsSlot (at known ts) s → (n : ℕ) → IsAnySlot (at known ts) (part (at known ts) (Some s) n)
  any_part s h n = by_found (part (at known ts) (Some s) n) refl
    where
      by_found : (found : Option Slot) → part (at known ts) (Some s) n ≡ found → IsAnySlot (at known ts) found
      by_found None e = tt
      by_found (Some sn) e = part_by_type (s.ty).ty (s.ty).constant (s.ty).volatile s.offset h n sn e

  -- what one part got
  step_of : (s : Slot) (h : IsSlot (at known ts) s) (n : ℕ) (found : Option Slot) → part (at known ts) (Some s) n ≡ found → (us : List Qualified) (b c : Begun) → Begins (at known ts) (at known us) found b c
      → IsLike b c × (is_some (part (at known ts) (Some s) n) ≡ true → IsSmall (at known ts) s → (c.count ≡ b.count) × (IsNear (s.offset + upto (at known ts) (s.ty).ty (suc n)) → Extends (at known us) (s.ty).ty (s.offset + upto (at known ts) (s.ty).ty n) (s.offset + upto (at known ts) (s.ty).ty (suc n)) b c))
  step_of s h n None e us b c same = (subst (IsLike b) (sym same) (itself b), λ there small. absurd (false≢true (sym (ap is_some e) ∙ there)))
  step_of s h n (Some sn) e us b c g = (
    g.0,
    λ there small.
        let own : IsPart (at known ts) o s h n sn = part_at (at known ts) o s h small n sn e in
        let more = subst (λ w. small_by w (at known ts) sn → gave_by w (at known ts) (at known us) sn b c) own.sized g.2 own.small in
        (more.0, λ near. extends_of (at known us) (sn.ty).ty (s.ty).ty _ _ b c own.types (extends_at (at known us) (sn.ty).ty sn.offset (sn.offset + bytes_of (at known ts) (sn.ty).ty) _ _ b c (own.begins near) (own.ends near) (more.1 (subst IsNear (sym (own.ends near)) near)))),
  )

-- ---- what doesn't change when rows are added

module _ (known : Known) (ts us : List Qualified) (adds : Adds ts us) where
  row_same : (row : ℕ) → (q : Qualified) → slice_get ts row ≡ Some q → target_of (at known us) row ≡ target_of (at known ts) row
  row_same row q h = ap or_void (adds row q h ∙ sym h)

  pub element_same : (ty : Ty) → Stands (at known ts) ty → element_size (at known us) ty ≡ element_size (at known ts) ty
  element_same Void h = refl
  element_same (Int i) h = refl
  element_same (Pointer row) h = refl
  element_same (Array row n s) h = ap (λ (z : Qualified). bytes_of (at known ts) z.ty) (row_same row h.0 h.1)
  element_same (Struct number) h = refl

  upto_same : (ty : Ty) → Stands (at known ts) ty → (n : ℕ) → upto (at known us) ty n ≡ upto (at known ts) ty n
  upto_same Void h n = refl
  upto_same (Int i) h n = refl
  upto_same (Pointer row) h n = refl
  upto_same (Array row m s) h n = ap (λ (z : Qualified). bytes_of (at known ts) z.ty * n) (row_same row h.0 h.1)
  upto_same (Struct number) h n = refl

  small_same : (s : Slot) → Stands (at known ts) (s.ty).ty → IsSmall (at known ts) s → IsSmall (at known us) s
  small_same s h = by_size (is_unsized (s.ty).ty)
    where
      by_size : (w : Bool) → small_by w (at known ts) s → small_by w (at known us) s
      by_size true g = subst (λ n. n ≤ 65535) (sym (element_same (s.ty).ty h)) g
      by_size false g = g

  begins_back : (s : Slot) → Stands (at known ts) (s.ty).ty → (after : Known) (b c : Begun) → Begins (at known us) after (Some s) b c → Begins (at known ts) after (Some s) b c
  begins_back s h after b c g = (g.0, g.1, λ small. by_size (is_unsized (s.ty).ty) (g.2 (small_same s h small)))
    where
      by_size : (w : Bool) → gave_by w (at known us) after s b c → gave_by w (at known ts) after s b c
      by_size true d = (d.0, d.1, d.2, subst (λ n. IsNear (s.offset + n * d.0) → Extends after (s.ty).ty s.offset (s.offset + n * d.0) b c) (element_same (s.ty).ty h) d.3)
      by_size false d = d

  more_back : (slot : Option Slot) → IsAnySlot (at known ts) slot → (n m : ℕ) (after : Known) (b c : Begun) → BeginsMore (at known us) after slot n m b c → BeginsMore (at known ts) after slot n m b c
  more_back None h n m after b c g = g
  more_back (Some s) h n m after b c g = (
    g.0,
    λ all small.
        let d = g.1 (λ k lt. ap is_some (part_same known ts us adds s h.stands k) ∙ all k lt) (small_same s h.stands small) in
        (d.0, λ near. extends_at after (s.ty).ty _ _ _ _ b c (ap (λ k. s.offset + k) (upto_same (s.ty).ty h.stands n)) (ap (λ k. s.offset + k) (upto_same (s.ty).ty h.stands (n + m))) (d.1 (subst (λ k. IsNear (s.offset + k)) (sym (upto_same (s.ty).ty h.stands (n + m))) near))),
  )

like_on : (b c d : Begun) → IsLike b c → IsLike c d → IsLike b d
like_on b c d g h = record { static_object = h.static_object ∙ g.static_object; line = h.line ∙ g.line }

unsized_upto : (known : Known) (ty : Ty) → is_unsized ty ≡ true → (n : ℕ) → upto known ty n ≡ element_size known ty * n
unsized_upto known Void h n = absurd (false≢true h)
unsized_upto known (Int i) h n = absurd (false≢true h)
unsized_upto known (Pointer row) h n = absurd (false≢true h)
unsized_upto known (Array row m s) h n = refl
unsized_upto known (Struct number) h n = absurd (false≢true h)

counted_more : (known : Known) (ty : Ty) (low high : ℕ) (b c : Begun) (count : Option ℕ) → Extends known ty low high b c → Extends known ty low high b (record c { count = count })
counted_more known ty low high b c count g = record { initial = g.initial; initial_is = g.initial_is; initial_in = g.initial_in; items = g.items; items_are = g.items_are; items_in = g.items_in; types = g.types }

counted_like : (b c : Begun) (count : Option ℕ) → IsLike b c → IsLike b (record c { count = count })
counted_like b c count h = record { static_object = h.static_object; line = h.line }

less_suc : (k m : ℕ) → k < 1 + m → k ≤ m
less_suc k m h = omega (arith, h)

-- a list that is as long as the parts are
list_ends : (known : Known) (ts us : List Qualified) (o : Orderly (at known ts)) (s : Slot) (h : IsSlot (at known ts) s) (m : ℕ) (b c : Begun) → is_some (part (at known ts) (Some s) m) ≡ true → BeginsMore (at known ts) (at known us) (Some s) 0 (suc m) b c
    → Begins (at known ts) (at known us) (Some s) b (with_items (Some s) (suc m) c)
list_ends known ts us o s h m b c last g = by_size (is_unsized (s.ty).ty) refl
  where
    all : (k : ℕ) → k < 0 + suc m → is_some (part (at known ts) (Some s) k) ≡ true
    all k lt = parts_below (at known ts) o s m k last (omega (arith, lt))

    total : 0 + suc m ≡ suc m
    total = omega arith

    starts : s.offset + upto (at known ts) (s.ty).ty 0 ≡ s.offset
    starts = ap (λ k. s.offset + k) (upto_none (at known ts) (s.ty).ty) ∙ add-zero s.offset

    by_size : (w : Bool) → is_unsized (s.ty).ty ≡ w → IsLike b (if is_unsized (s.ty).ty then record c { count = Some (suc m) } else c) × (is_unsized (s.ty).ty ≡ true → (n : ℕ) × ((if is_unsized (s.ty).ty then record c { count = Some (suc m) } else c).count ≡ Some n) × (0 < n)) × (IsSmall (at known ts) s → gave_by (is_unsized (s.ty).ty) (at known ts) (at known us) s b (if is_unsized (s.ty).ty then record c { count = Some (suc m) } else c))
    by_size w e = subst (λ z. IsLike b (if z then record c { count = Some (suc m) } else c) × (z ≡ true → (n : ℕ) × ((if z then record c { count = Some (suc m) } else c).count ≡ Some n) × (0 < n)) × (IsSmall (at known ts) s → gave_by z (at known ts) (at known us) s b (if z then record c { count = Some (suc m) } else c))) (sym e) (made w e)
      where
        made : (w : Bool) → is_unsized (s.ty).ty ≡ w → IsLike b (if w then record c { count = Some (suc m) } else c) × (w ≡ true → (n : ℕ) × ((if w then record c { count = Some (suc m) } else c).count ≡ Some n) × (0 < n)) × (IsSmall (at known ts) s → gave_by w (at known ts) (at known us) s b (if w then record c { count = Some (suc m) } else c))
        made true e = (
          counted_like b c (Some (suc m)) g.0,
          (λ h. (suc m, refl, omega arith)),
          λ small. let d = g.1 all small in (
            suc m,
            refl,
            omega arith,
            λ near. counted_more (at known us) (s.ty).ty _ _ b c (Some (suc m))
                (extends_at (at known us) (s.ty).ty _ _ s.offset (s.offset + element_size (at known ts) (s.ty).ty * suc m) b c starts finish (d.1 (subst IsNear (sym finish) near))),
          ),
        )
          where
            finish : s.offset + upto (at known ts) (s.ty).ty (0 + suc m) ≡ s.offset + element_size (at known ts) (s.ty).ty * suc m
            finish = ap (λ k. s.offset + k) (ap (upto (at known ts) (s.ty).ty) total ∙ unsized_upto (at known ts) (s.ty).ty e (suc m))
        made false e = (
          g.0,
          (λ h. absurd (false≢true h)),
          λ small.
              let d = g.1 all small in
              let within = within_all (at known ts) o s h e (subst (λ w. small_by w (at known ts) s) e small) m last in (
                d.0,
                λ near. extends_higher (at known us) (s.ty).ty s.offset (s.offset + upto (at known ts) (s.ty).ty (suc m)) (s.offset + bytes_of (at known ts) (s.ty).ty) b c
                    (up (upto (at known ts) (s.ty).ty (suc m)) (bytes_of (at known ts) (s.ty).ty) within)
                    (extends_at (at known us) (s.ty).ty _ _ s.offset (s.offset + upto (at known ts) (s.ty).ty (suc m)) b c starts finish
                    (d.1 (subst IsNear (sym finish) (nearer (upto (at known ts) (s.ty).ty (suc m)) (bytes_of (at known ts) (s.ty).ty) within near)))),
              ),
        )
          where
            finish : s.offset + upto (at known ts) (s.ty).ty (0 + suc m) ≡ s.offset + upto (at known ts) (s.ty).ty (suc m)
            finish = ap (λ k. s.offset + k) (ap (upto (at known ts) (s.ty).ty) total)

            up : (x y : ℕ) → x ≤ y → s.offset + x ≤ s.offset + y
            up x y le = omega (arith, le)

            nearer : (x y : ℕ) → x ≤ y → IsNear (s.offset + y) → IsNear (s.offset + x)
            nearer x y le near = omega (arith, le, near)

-- one part, and then more
more_of : (known : Known) (ts us ws : List Qualified) → Adds us ws → (s : Slot) (n m : ℕ) (b c d : Begun)
    → IsLike b c × (is_some (part (at known ts) (Some s) n) ≡ true → IsSmall (at known ts) s → (c.count ≡ b.count) × (IsNear (s.offset + upto (at known ts) (s.ty).ty (suc n)) → Extends (at known us) (s.ty).ty (s.offset + upto (at known ts) (s.ty).ty n) (s.offset + upto (at known ts) (s.ty).ty (suc n)) b c))
    → BeginsMore (at known ts) (at known ws) (Some s) (suc n) m c d → BeginsMore (at known ts) (at known ws) (Some s) n (suc m) b d
more_of known ts us ws adds s n m b c d g h = (
  like_on b c d g.0 h.0,
  λ all small.
      let first = g.1 (all n (omega arith)) small in
      let rest = h.1 (λ k lt. all k (omega (arith, lt))) small in (
        rest.0 ∙ first.0,
        λ near.
            let after = rest.1 (subst IsNear (sym finish) near) in
            let ordered = initials_ordered (at known ws) (s.offset + upto (at known ts) (s.ty).ty (suc n)) (s.offset + upto (at known ts) (s.ty).ty (suc n + m)) after.initial after.initial_in in
            extends_join (at known ws) (s.ty).ty (s.offset + upto (at known ts) (s.ty).ty n) (s.offset + upto (at known ts) (s.ty).ty (suc n)) (s.offset + upto (at known ts) (s.ty).ty (n + suc m)) b c d
            (extends_more known us ws adds (s.ty).ty _ _ b c (first.1 (nearer _ _ ordered (subst IsNear (sym finish) near))))
            (extends_at (at known ws) (s.ty).ty _ _ _ _ c d refl finish after),
      ),
)
  where
    turn : (n m : ℕ) → suc n + m ≡ n + suc m
    turn n m = omega arith

    finish : s.offset + upto (at known ts) (s.ty).ty (suc n + m) ≡ s.offset + upto (at known ts) (s.ty).ty (n + suc m)
    finish = ap (λ k. s.offset + upto (at known ts) (s.ty).ty k) (turn n m)

    nearer : (x y : ℕ) → x ≤ y → IsNear y → IsNear x
    nearer x y le near = omega (arith, le, near)

no_more : (known : Known) (ts : List Qualified) (s : Slot) (n : ℕ) (b : Begun) → BeginsMore (at known ts) (at known ts) (Some s) n 0 b b
no_more known ts s n b = (itself b, λ all small. (refl, λ near. extends_none (at known ts) (s.ty).ty _ _ b (same (s.offset) (upto (at known ts) (s.ty).ty n) (upto (at known ts) (s.ty).ty (n + 0)) (ap (upto (at known ts) (s.ty).ty) (sym (add-zero n))))))
  where
    same : (a x y : ℕ) → x ≡ y → a + x ≤ a + y
    same a x y e = omega (arith, e)

last_there : (after : Known) (s : Slot) (m : ℕ) → has_more after (Some s) (suc m) ≡ false → is_some (part after (Some s) m) ≡ true
last_there after s m h = ap (λ k. is_some (part after (Some s) k)) (less m) ∙ not_false (is_some (part after (Some s) (suc m - 1))) h
  where
    less : (m : ℕ) → m ≡ suc m - 1
    less m = omega arith

module _ (known : Known) where
  mutual
    unfolding begins more_begins

    -- What an initializer gives for a part.
    pub begins_go : (i : InitTree) (slot : Option Slot) (inside : Bool) (b : Begun) (ts : List Qualified) → Orderly (at known ts) → IsAnySlot (at known ts) slot → Goes known ts (λ us d. Begins (at known ts) (at known us) slot b d) (begins i slot inside b (at known ts))
    begins_go (tree.Value e) None inside b ts o h = goes_on known _ _ ts _ _ (value_of_goes known e ts o) (λ x us adds ordered hx. goes_given known _ _ us ordered refl)
    begins_go (tree.Value e) (Some s) inside b ts o h = goes_on known _ _ ts _ _ (value_of_goes known e ts o)
        (λ x us adds ordered hx. goes_weaker known _ _ us _ (λ vs d g. begins_back known ts us adds s h.stands (at known vs) b d g)
        (value_by known us ordered s.offset (s.ty).ty (s.ty).constant (s.ty).volatile inside x b (stands_more known ts us adds (s.ty).ty h.stands) h.whole hx))
    begins_go (tree.Quoted s) None inside b ts o h = goes_given known _ _ ts o refl
    begins_go (tree.Quoted s) (Some slot) inside b ts o h = text_goes known ts o slot.offset (slot.ty).ty (slot.ty).constant (slot.ty).volatile inside s b h.stands
    begins_go (tree.Listed opening i is comma closing) None inside b ts o h = goes_on known _ _ ts _ _ (begins_go i None true b ts o tt)
        (λ first us adds ordered e. goes_on known _ _ us _ _ (more_begins_go is None 1 first us ordered tt)
        (λ all vs adds2 ordered2 e2. goes_given known _ _ vs ordered2 (e2 ∙ e)))
    begins_go (tree.Listed opening i is comma closing) (Some s) inside b ts o h = goes_on known _ _ ts _ _ (begins_go i (part (at known ts) (Some s) 0) true b ts o (any_part known ts o s h 0))
        (λ first us adds ordered g. goes_on known _ _ us _ _ (more_begins_go is (Some s) 1 first us ordered (slot_more known ts us adds s h))
        (λ all vs adds2 ordered2 g2. goes_test known _ vs (has_more (at known vs) (Some s) (suc (items_in is))) kind.Initializer opening _
        (λ enough. goes_given known _ _ vs ordered2
        (list_ends known ts vs o s h (items_in is) b all
        (ap is_some (sym (part_same known us vs adds2 s (stands_more known ts us adds (s.ty).ty h.stands) (items_in is) ∙ part_same known ts us adds s h.stands (items_in is))) ∙ last_there (at known vs) s (items_in is) enough)
        (more_of known ts us vs adds2 s 0 (items_in is) b first all (step_of known ts o s h 0 (part (at known ts) (Some s) 0) refl us b first g)
        (more_back known ts us adds (Some s) h 1 (items_in is) (at known vs) first all g2))))))

    more_begins_go : (is : MoreInits) (slot : Option Slot) (n : ℕ) (b : Begun) (ts : List Qualified) → Orderly (at known ts) → IsAnySlot (at known ts) slot → Goes known ts (λ us d. BeginsMore (at known ts) (at known us) slot n (items_in is) b d) (more_begins is slot n b (at known ts))
    more_begins_go tree.NoInit None n b ts o h = goes_given known _ _ ts o refl
    more_begins_go tree.NoInit (Some s) n b ts o h = goes_given known _ _ ts o (no_more known ts s n b)
    more_begins_go (tree.AndInit comma i is) None n b ts o h = goes_on known _ _ ts _ _ (begins_go i None true b ts o tt)
        (λ next us adds ordered e. goes_weaker known _ _ us _ (λ vs d e2. e2 ∙ e) (more_begins_go is None (suc n) next us ordered tt))
    more_begins_go (tree.AndInit comma i is) (Some s) n b ts o h = goes_on known _ _ ts _ _ (begins_go i (part (at known ts) (Some s) n) true b ts o (any_part known ts o s h n))
        (λ next us adds ordered g. goes_more known _ _ us _ (more_begins_go is (Some s) (suc n) next us ordered (slot_more known ts us adds s h))
        (λ vs d adds2 g2. more_of known ts us vs adds2 s n (items_in is) b next d (step_of known ts o s h n (part (at known ts) (Some s) n) refl us b next g) (more_back known ts us adds (Some s) h (suc n) (items_in is) (at known vs) next d g2)))
