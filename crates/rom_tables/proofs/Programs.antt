-- A program whose tables are read by calls is sound where the given one is.
use Rattle.std.proofs.Common.{◌≡◌, ℕ, zero, suc, ◌+◌, Bool, true, false, cond, ◌&&◌, nat_eq, nat_lt, nat_le, List, [], ◌∷◌, ◌++◌, map, length, Option, Some, None, refl, sym, ap, ◌∙◌, slice_get, arith, codes, option_map, subst}
use Rattle.std.specs.List.{list_all}
use Rattle.std.proofs.lemmas.Bool.{and_parts, and_from, false≢true}
use Rattle.std.proofs.lemmas.List.{length-map}
use Rattle.std.proofs.lemmas.Option.{none-some, same_Some, slice_get-map}
use Rattle.c_ints.specs.declared.operators.BinOp.TheVariants as ops
use Rattle.c_typed.specs.declared.expression.Object.TheVariants as object
use Rattle.c_typed.specs.declared.program.Initial.{Initial}
use Rattle.c_typed.specs.declared.program.InitialByte.{InitialByte}
use Rattle.c_typed.specs.declared.program.InitialByte.TheVariants as initial
use Rattle.c_typed.specs.Sameness.{same_qualified, is_complete}
use Rattle.c_typed.specs.Sound.{type_is_there, target_fits, structure_fits, static_fits, object_fits, members_fit, has_bytes, byte_fits, initial_fits, function_fits}
use Rattle.c_typed.specs.Trees as tree
use Rattle.c_typed.specs.Trees.{StaticTree, MemberTree, StructureTree, FunctionTree, Program}
use Rattle.c_typed.specs.Types.{type_bytes, kept}
use Rattle.c_typed.specs.declared.types.Qualified.{Qualified}
use Rattle.c_typed.specs.declared.types.Ty.{Ty}
use Rattle.c_typed.specs.declared.types.Ty.TheVariants.{Void, Int, Pointer, Array, Struct}
use Rattle.rom_tables.proofs.ReadersFit.{CharFacts, char_facts, table_has_char, reader_fits}
use Rattle.rom_tables.proofs.Soundness.{IsRead}
use Rattle.rom_tables.proofs.StatementsFit.{all_hold, type_holds, object_holds, function_again}
use Rattle.rom_tables.proofs.Wider.{both_hold, second_holds, complete_same, found_holds, Stays, wider}
use Rattle.rom_tables.specs.Outlined.{outlined, outlined_function, outlined_functions, row_in, row_of, row_or_zero, row_or_new, type_in, element_type, element_type_of, element_qualified, with_row, with_element, with_rows, reader_for, reader_of, reader_index, reader_parameter, readers}
use Rattle.rom_tables.specs.Tables.{is_table, is_char_array, is_char_row, place_in, tables_from, tables_of}
use Rattle.rom_tables.specs.Laws.{KeepsSound}
use Rattle.typed_laws.proofs.Same.{same_nat, same_qualified_is, same_qualified_refl}

-- ---- lists
pub get_more : {A : Type 0} (xs ys : List A) (n : ℕ) (x : A) → slice_get xs n ≡ Some x → slice_get (xs ++ ys) n ≡ Some x
get_more [] ys n x is = absurd (none-some x is)
get_more (y ∷ xs) ys zero x is = is
get_more (y ∷ xs) ys (suc n) x is = get_more xs ys n x is

pub get_behind : {A : Type 0} (xs ys : List A) (n : ℕ) → slice_get (xs ++ ys) (length xs + n) ≡ slice_get ys n
get_behind [] ys n = ap (slice_get ys) (let e : 0 + n ≡ n = omega arith in e)
get_behind (x ∷ xs) ys n = ap (slice_get (x ∷ (xs ++ ys))) (let e : suc (length xs) + n ≡ suc (length xs + n) = omega arith in e) ∙ get_behind xs ys n

pub all_append : {A : Type 0} (test : A → Bool) (xs ys : List A) → list_all test xs ≡ true → list_all test ys ≡ true → list_all test (xs ++ ys) ≡ true
all_append test [] ys h k = k
all_append test (x ∷ xs) ys h k = let b = and_parts (test x) (list_all test xs) h in and_from (test x) (list_all test (xs ++ ys)) b.0 (all_append test xs ys b.1 k)

all_mapped : {A B : Type 0} (test : A → Bool) (other : B → Bool) (g : A → B) → ((x : A) → test x ≡ true → other (g x) ≡ true) → (xs : List A) → list_all test xs ≡ true → list_all other (map g xs) ≡ true
all_mapped test other g f [] h = h
all_mapped test other g f (x ∷ xs) h = both_hold (test x) (list_all test xs) (other (g x)) (list_all other (map g xs)) (f x) (all_mapped test other g f xs) h

-- ---- rows
in_by : (here : Bool) (q r : Qualified) (k n : ℕ) (rows : List Qualified) → same_qualified q r ≡ here → (row_in q (k + 1) rows ≡ Some n → (i : ℕ) × (n ≡ (k + 1) + i) × (slice_get rows i ≡ Some q)) → cond here (Some k) (row_in q (k + 1) rows) ≡ Some n → (i : ℕ) × (n ≡ k + i) × (slice_get (r ∷ rows) i ≡ Some q)
in_by true q r k n rows is rest h = (0, (let e = same_Some k n h in omega (arith, e)), ap Some (sym (same_qualified_is q r is)))
in_by false q r k n rows is rest h = let found = rest h in (suc found.0, (let e = found.1 in omega (arith, e)), found.2)

in_rows : (q : Qualified) (k n : ℕ) (rows : List Qualified) → row_in q k rows ≡ Some n → (i : ℕ) × (n ≡ k + i) × (slice_get rows i ≡ Some q)
in_rows q k n [] h = absurd (none-some n h)
in_rows q k n (r ∷ rows) h = in_by (same_qualified q r) q r k n rows refl (in_rows q (k + 1) n rows) h

row_there : (q : Qualified) (n : ℕ) (rows : List Qualified) → row_in q 0 rows ≡ Some n → slice_get rows n ≡ Some q
row_there q n rows h = let found = in_rows q 0 n rows h in ap (slice_get rows) (let e = found.1 in omega (arith, e)) ∙ found.2

still_by : (here : Bool) (k n : ℕ) (rest more : Option ℕ) → (rest ≡ Some n → more ≡ Some n) → cond here (Some k) rest ≡ Some n → cond here (Some k) more ≡ Some n
still_by true k n rest more f h = h
still_by false k n rest more f h = f h

still_in : (q : Qualified) (k n : ℕ) (rows new : List Qualified) → row_in q k rows ≡ Some n → row_in q k (rows ++ new) ≡ Some n
still_in q k n [] new h = absurd (none-some n h)
still_in q k n (r ∷ rows) new h = still_by (same_qualified q r) k n (row_in q (k + 1) rows) (row_in q (k + 1) (rows ++ new)) (still_in q (k + 1) n rows new) h

new_by : (here : Bool) (q : Qualified) (k : ℕ) (rows : List Qualified) → (row_in q (k + 1) rows ≡ None → (n : ℕ) × (row_in q (k + 1) (rows ++ q ∷ []) ≡ Some n)) → cond here (Some k) (row_in q (k + 1) rows) ≡ None → (n : ℕ) × (cond here (Some k) (row_in q (k + 1) (rows ++ q ∷ [])) ≡ Some n)
new_by true q k rows rest h = (k, refl)
new_by false q k rows rest h = rest h

new_row : (q : Qualified) (k : ℕ) (rows : List Qualified) → row_in q k rows ≡ None → (n : ℕ) × (row_in q k (rows ++ q ∷ []) ≡ Some n)
new_row q k [] h = (k, ap (λ b. cond b (Some k) None) (same_qualified_refl q))
new_row q k (r ∷ rows) h = new_by (same_qualified q r) q k rows (new_row q (k + 1) rows) h

row_by : (q : Qualified) (found : Option ℕ) (rows : List Qualified) → row_in q 0 rows ≡ found → (n : ℕ) × (row_in q 0 (row_or_new found q rows) ≡ Some n)
row_by q (Some n) rows is = (n, is)
row_by q None rows is = new_row q 0 rows is

has_row : (q : Qualified) (rows : List Qualified) → (n : ℕ) × (row_in q 0 (with_row q rows) ≡ Some n)
has_row q rows = row_by q (row_in q 0 rows) rows refl

keeps_by : (x q : Qualified) (n : ℕ) (found : Option ℕ) (rows : List Qualified) → row_in q 0 rows ≡ Some n → row_in q 0 (row_or_new found x rows) ≡ Some n
keeps_by x q n (Some m) rows h = h
keeps_by x q n None rows h = still_in q 0 n rows (x ∷ []) h

row_kept : (p : Program) (o : Option StaticTree) (q : Qualified) (n : ℕ) (rows : List Qualified) → row_in q 0 rows ≡ Some n → row_in q 0 (with_element p o rows) ≡ Some n
row_kept p None q n rows h = h
row_kept p (Some s) q n rows h = keeps_by (element_qualified p s) q n (row_in (element_qualified p s) 0 rows) rows h

rows_kept : (p : Program) (ts : List ℕ) (q : Qualified) (n : ℕ) (rows : List Qualified) → row_in q 0 rows ≡ Some n → row_in q 0 (with_rows p ts rows) ≡ Some n
rows_kept p [] q n rows h = h
rows_kept p (t ∷ ts) q n rows h = rows_kept p ts q n (with_element p (slice_get p.statics t) rows) (row_kept p (slice_get p.statics t) q n rows h)

element_row : (p : Program) (ts : List ℕ) (i n : ℕ) (s : StaticTree) (rows : List Qualified) → slice_get ts i ≡ Some n → slice_get p.statics n ≡ Some s → (m : ℕ) × (row_in (element_qualified p s) 0 (with_rows p ts rows) ≡ Some m)
element_row p [] i n s rows is there = absurd (none-some n is)
element_row p (t ∷ ts) zero n s rows is there =
    let found = has_row (element_qualified p s) rows in
    (found.0, rows_kept p ts (element_qualified p s) found.0 (with_element p (slice_get p.statics t) rows) (ap (λ o. row_in (element_qualified p s) 0 (with_element p o rows)) (ap (slice_get p.statics) (same_Some t n is) ∙ there) ∙ found.1))
element_row p (t ∷ ts) (suc i) n s rows is there = element_row p ts i n s (with_element p (slice_get p.statics t) rows) is there

stays_by : (x : Qualified) (found : Option ℕ) (rows : List Qualified) (n : ℕ) → Stays (slice_get rows n) (slice_get (row_or_new found x rows) n)
stays_by x (Some m) rows n r h = h
stays_by x None rows n r h = get_more rows (x ∷ []) n r h

element_stays : (p : Program) (o : Option StaticTree) (rows : List Qualified) (n : ℕ) → Stays (slice_get rows n) (slice_get (with_element p o rows) n)
element_stays p None rows n r h = h
element_stays p (Some s) rows n r h = stays_by (element_qualified p s) (row_in (element_qualified p s) 0 rows) rows n r h

pub rows_stay : (p : Program) (ts : List ℕ) (rows : List Qualified) (n : ℕ) → Stays (slice_get rows n) (slice_get (with_rows p ts rows) n)
rows_stay p [] rows n r h = h
rows_stay p (t ∷ ts) rows n r h = rows_stay p ts (with_element p (slice_get p.statics t) rows) n r (element_stays p (slice_get p.statics t) rows n r h)

-- ---- tables
table_by : (here : Bool) (p : Program) (m i n : ℕ) (s : StaticTree) (ss : List StaticTree) → is_table p s ≡ here
    → ((j : ℕ) → slice_get (tables_from p (m + 1) ss) j ≡ Some n → (d : ℕ) × (n ≡ (m + 1) + d) × (r : StaticTree) × (slice_get ss d ≡ Some r) × (is_table p r ≡ true))
    → slice_get (cond here (m ∷ tables_from p (m + 1) ss) (tables_from p (m + 1) ss)) i ≡ Some n → (d : ℕ) × (n ≡ m + d) × (r : StaticTree) × (slice_get (s ∷ ss) d ≡ Some r) × (is_table p r ≡ true)
table_by true p m zero n s ss is rest h = (0, (let e = same_Some m n h in omega (arith, e)), s, refl, is)
table_by true p m (suc i) n s ss is rest h = let found = rest i h in (suc found.0, (let e = found.1 in omega (arith, e)), found.2, found.3, found.4)
table_by false p m i n s ss is rest h = let found = rest i h in (suc found.0, (let e = found.1 in omega (arith, e)), found.2, found.3, found.4)

table_in : (p : Program) (m n : ℕ) (ss : List StaticTree) (i : ℕ) → slice_get (tables_from p m ss) i ≡ Some n → (d : ℕ) × (n ≡ m + d) × (r : StaticTree) × (slice_get ss d ≡ Some r) × (is_table p r ≡ true)
table_in p m n [] i h = absurd (none-some n h)
table_in p m n (s ∷ ss) i h = table_by (is_table p s) p m i n s ss refl (table_in p (m + 1) n ss) h

abbrev pub IsTableAt : Program → ℕ → Type 0
IsTableAt p n = (s : StaticTree) × (slice_get p.statics n ≡ Some s) × (is_table p s ≡ true)

pub tables_are : (p : Program) (i n : ℕ) → slice_get (tables_of p) i ≡ Some n → IsTableAt p n
tables_are p i n h = let found = table_in p 0 n p.statics i h in (found.2, ap (slice_get p.statics) (let e = found.1 in omega (arith, e)) ∙ found.3, found.4)

at_by : (here : Bool) (u n k j : ℕ) (ts : List ℕ) → nat_eq u n ≡ here → (place_in n (k + 1) ts ≡ Some j → (i : ℕ) × (j ≡ (k + 1) + i) × (slice_get ts i ≡ Some n)) → cond here (Some k) (place_in n (k + 1) ts) ≡ Some j → (i : ℕ) × (j ≡ k + i) × (slice_get (u ∷ ts) i ≡ Some n)
at_by true u n k j ts is rest h = (0, (let e = same_Some k j h in omega (arith, e)), ap Some (same_nat u n is))
at_by false u n k j ts is rest h = let found = rest h in (suc found.0, (let e = found.1 in omega (arith, e)), found.2)

place_at : (n k j : ℕ) (ts : List ℕ) → place_in n k ts ≡ Some j → (i : ℕ) × (j ≡ k + i) × (slice_get ts i ≡ Some n)
place_at n k j [] h = absurd (none-some j h)
place_at n k j (u ∷ ts) h = at_by (nat_eq u n) u n k j ts refl (place_at n (k + 1) j ts) h

-- Where a table stands among all, its number stands.
pub table_at : (n j : ℕ) (ts : List ℕ) → place_in n 0 ts ≡ Some j → slice_get ts j ≡ Some n
table_at n j ts h = let found = place_at n 0 j ts h in ap (slice_get ts) (let e = found.1 in omega (arith, e)) ∙ found.2

-- ---- readers
reader_found : (p : Program) (ts : List ℕ) → ((i n : ℕ) → slice_get ts i ≡ Some n → (s : StaticTree) × (slice_get p.statics n ≡ Some s)) → (i n : ℕ) (s : StaticTree) → slice_get ts i ≡ Some n → slice_get p.statics n ≡ Some s → slice_get (readers p ts) i ≡ Some (reader_for p n s)
reader_found p [] each i n s is there = absurd (none-some n is)
reader_found p (t ∷ ts) each zero n s is there =
    ap (λ o. slice_get (reader_of p t o ++ readers p ts) 0) (ap (slice_get p.statics) (same_Some t n is) ∙ there) ∙ ap (λ m. Some (reader_for p m s)) (same_Some t n is)
reader_found p (t ∷ ts) each (suc i) n s is there =
    let first = each 0 t refl in
    ap (λ o. slice_get (reader_of p t o ++ readers p ts) (suc i)) first.1 ∙ reader_found p ts (λ j m h. each (suc j) m h) i n s is there

readers_fit : (test : FunctionTree → Bool) (p : Program) (ts : List ℕ) → ((i n : ℕ) (s : StaticTree) → slice_get ts i ≡ Some n → slice_get p.statics n ≡ Some s → test (reader_for p n s) ≡ true) → ((i n : ℕ) → slice_get ts i ≡ Some n → (s : StaticTree) × (slice_get p.statics n ≡ Some s)) → list_all test (readers p ts) ≡ true
readers_fit test p [] fit each = refl
readers_fit test p (t ∷ ts) fit each =
    let first = each 0 t refl in
    ap (λ o. list_all test (reader_of p t o ++ readers p ts)) first.1
    ∙ and_from (test (reader_for p t first.0)) (list_all test (readers p ts)) (fit 0 t first.0 refl first.1) (readers_fit test p ts (λ i n s h there. fit (suc i) n s h there) (λ j m h. each (suc j) m h))

type_stays : (a b : Option Qualified) → is_char_row a ≡ true → Stays a b → type_in b ≡ type_in a
type_stays None b h stays = absurd (false≢true h)
type_stays (Some x) b h stays = ap type_in (stays x refl)

row_stays : (a b : Option Qualified) → is_char_row a ≡ true → Stays a b → is_char_row b ≡ true
row_stays a b h stays = found_holds is_char_row refl a b stays h

module _ (p : Program) (rows : List Qualified) (functions : List FunctionTree) (more : (n : ℕ) → Stays (slice_get p.targets n) (slice_get rows n)) where
  element_same : (ty : Ty) → is_char_array p ty ≡ true → element_type_of (wider p rows functions) ty ≡ element_type_of p ty
  element_same (Array element count size) h = type_stays (slice_get p.targets element) (slice_get rows element) h (more element)
  element_same Void h = absurd (false≢true h)
  element_same (Int t) h = absurd (false≢true h)
  element_same (Pointer t) h = absurd (false≢true h)
  element_same (Struct t) h = absurd (false≢true h)

  char_array_holds : (ty : Ty) → is_char_array p ty ≡ true → is_char_array (wider p rows functions) ty ≡ true
  char_array_holds (Array element count size) h = row_stays (slice_get p.targets element) (slice_get rows element) h (more element)
  char_array_holds Void h = h
  char_array_holds (Int t) h = h
  char_array_holds (Pointer t) h = h
  char_array_holds (Struct t) h = h

  pub table_holds : (s : StaticTree) → is_table p s ≡ true → is_table (wider p rows functions) s ≡ true
  table_holds s = second_holds s.ty.constant (is_char_array p s.ty.ty) (is_char_array (wider p rows functions) s.ty.ty) (char_array_holds s.ty.ty)

  pub type_same : (s : StaticTree) → is_table p s ≡ true → element_type (wider p rows functions) s ≡ element_type p s
  type_same s h = element_same s.ty.ty (and_parts s.ty.constant (is_char_array p s.ty.ty) h).1

  -- ---- the parts without code
  members_hold : (size before : ℕ) (ms : List MemberTree) → members_fit p size before ms ≡ true → members_fit (wider p rows functions) size before ms ≡ true
  members_hold size before [] h = h
  members_hold size before (m ∷ ms) h =
      second_holds (nat_eq m.offset before) (type_is_there p m.ty.ty && (is_complete p m.ty.ty && members_fit p size (kept (before + type_bytes p.sizes m.ty.ty)) ms)) (type_is_there (wider p rows functions) m.ty.ty && (is_complete (wider p rows functions) m.ty.ty && members_fit (wider p rows functions) size (kept (before + type_bytes p.sizes m.ty.ty)) ms))
      (both_hold (type_is_there p m.ty.ty) (is_complete p m.ty.ty && members_fit p size (kept (before + type_bytes p.sizes m.ty.ty)) ms) (type_is_there (wider p rows functions) m.ty.ty) (is_complete (wider p rows functions) m.ty.ty && members_fit (wider p rows functions) size (kept (before + type_bytes p.sizes m.ty.ty)) ms)
      (type_holds p rows functions more m.ty.ty)
      (both_hold (is_complete p m.ty.ty) (members_fit p size (kept (before + type_bytes p.sizes m.ty.ty)) ms) (is_complete (wider p rows functions) m.ty.ty) (members_fit (wider p rows functions) size (kept (before + type_bytes p.sizes m.ty.ty)) ms)
      (λ e. complete_same p rows functions more m.ty.ty ∙ e) (members_hold size (kept (before + type_bytes p.sizes m.ty.ty)) ms))) h

  structure_holds : (s : StructureTree) → structure_fits p s ≡ true → structure_fits (wider p rows functions) s ≡ true
  structure_holds s = second_holds (has_bytes s.members s.size) (members_fit p s.size 0 s.members) (members_fit (wider p rows functions) s.size 0 s.members) (members_hold s.size 0 s.members)

  byte_same : (b : InitialByte) → byte_fits (wider p rows functions) b ≡ byte_fits p b
  byte_same (initial.Number number) = refl
  byte_same (initial.Address o byte) = refl

  initial_holds : (size before : ℕ) (is : List Initial) → initial_fits p size before is ≡ true → initial_fits (wider p rows functions) size before is ≡ true
  initial_holds size before [] h = h
  initial_holds size before (i ∷ is) h =
      second_holds (nat_le before i.offset) (nat_lt i.offset size && (byte_fits p i.byte && initial_fits p size (i.offset + 1) is)) (nat_lt i.offset size && (byte_fits (wider p rows functions) i.byte && initial_fits (wider p rows functions) size (i.offset + 1) is))
      (second_holds (nat_lt i.offset size) (byte_fits p i.byte && initial_fits p size (i.offset + 1) is) (byte_fits (wider p rows functions) i.byte && initial_fits (wider p rows functions) size (i.offset + 1) is)
      (both_hold (byte_fits p i.byte) (initial_fits p size (i.offset + 1) is) (byte_fits (wider p rows functions) i.byte) (initial_fits (wider p rows functions) size (i.offset + 1) is) (λ e. byte_same i.byte ∙ e) (initial_holds size (i.offset + 1) is))) h

  static_holds : (s : StaticTree) → static_fits p s ≡ true → static_fits (wider p rows functions) s ≡ true
  static_holds s = both_hold (object_fits p s.ty.ty) (initial_fits p (type_bytes p.sizes s.ty.ty) 0 s.initial) (object_fits (wider p rows functions) s.ty.ty) (initial_fits (wider p rows functions) (type_bytes p.sizes s.ty.ty) 0 s.initial) (object_holds p rows functions more s.ty.ty) (initial_holds (type_bytes p.sizes s.ty.ty) 0 s.initial)

-- the rows that are added
added_by : (test : Qualified → Bool) (x : Qualified) (found : Option ℕ) (rows : List Qualified) → test x ≡ true → list_all test rows ≡ true → list_all test (row_or_new found x rows) ≡ true
added_by test x (Some n) rows one h = h
added_by test x None rows one h = all_append test rows (x ∷ []) h (and_from (test x) true one refl)

rows_fit : (test : Qualified → Bool) (p : Program) (ts : List ℕ) (rows : List Qualified) → ((s : StaticTree) → is_table p s ≡ true → test (element_qualified p s) ≡ true) → ((i n : ℕ) → slice_get ts i ≡ Some n → IsTableAt p n) → list_all test rows ≡ true → list_all test (with_rows p ts rows) ≡ true
rows_fit test p [] rows one each h = h
rows_fit test p (t ∷ ts) rows one each h =
    let first = each 0 t refl in
    rows_fit test p ts (with_element p (slice_get p.statics t) rows) one (λ j m k. each (suc j) m k)
    (ap (λ o. list_all test (with_element p o rows)) first.1 ∙ added_by test (element_qualified p first.0) (row_in (element_qualified p first.0) 0 rows) rows (one first.0 first.2) h)

-- ---- the whole program
abbrev pub all_rows : Program → List Qualified
all_rows p = with_rows p (tables_of p) p.targets

abbrev pub all_functions : Program → List FunctionTree
all_functions p = outlined_functions p (tables_of p)

-- the program that readers are made from, and the whole one
abbrev from_rows : Program → Program
from_rows p = wider p (all_rows p) p.functions

abbrev pub whole : Program → Program
whole p = wider p (all_rows p) (all_functions p)

pub more_rows : (p : Program) (n : ℕ) → Stays (slice_get p.targets n) (slice_get (all_rows p) n)
more_rows p n = rows_stay p (tables_of p) p.targets n

there_each : (p : Program) (i n : ℕ) → slice_get (tables_of p) i ≡ Some n → (s : StaticTree) × (slice_get p.statics n ≡ Some s)
there_each p i n h = let at = tables_are p i n h in (at.0, at.1)

pub function_there : (p : Program) (n : ℕ) (g : FunctionTree) → slice_get p.functions n ≡ Some g → slice_get (all_functions p) n ≡ Some (outlined_function (tables_of p) (length p.functions) g)
function_there p n g h =
    let again = outlined_function (tables_of p) (length p.functions) in
    get_more (map again p.functions) (readers (from_rows p) (tables_of p)) n (again g) (slice_get-map again p.functions n ∙ ap (option_map again) h)

pub reader_there : (p : Program) (t n : ℕ) (s : StaticTree) → slice_get (tables_of p) t ≡ Some n → slice_get p.statics n ≡ Some s → slice_get (all_functions p) (length p.functions + t) ≡ Some (reader_for (from_rows p) n s)
reader_there p t n s at there =
    let again = outlined_function (tables_of p) (length p.functions) in
    ap (λ m. slice_get (all_functions p) (m + t)) (sym (length-map p.functions again))
    ∙ get_behind (map again p.functions) (readers (from_rows p) (tables_of p)) t
    ∙ reader_found (from_rows p) (tables_of p) (there_each p) t n s at there

pub is_read : (p : Program) (n t : ℕ) → place_in n 0 (tables_of p) ≡ Some t → IsRead p (all_functions p) (length p.functions) n t
is_read p n t h =
    let at = table_at n t (tables_of p) h in
    let s = tables_are p t n at in
    record {
      static = s.0;
      there = s.1;
      table = s.2;
      reader = reader_for (from_rows p) n s.0;
      stands = reader_there p t n s.0 at s.1;
      gives = type_same p (all_rows p) p.functions (more_rows p) s.0 s.2;
      takes = refl;
    }

-- a reader of the rows is one of the whole program
same_reader : (p : Program) (n : ℕ) (s : StaticTree) → is_table p s ≡ true → reader_for (from_rows p) n s ≡ reader_for (whole p) n s
same_reader p n s h =
    ap (λ (ty : Ty).
    let q : Qualified = record { ty = ty; constant = true; volatile = s.ty.volatile } in
    let pointer : Ty = Pointer (row_or_zero (row_in q 0 (all_rows p))) in
    let made : FunctionTree = record {
      name = codes "$rom." ++ s.name;
      result = ty;
      params = reader_parameter s.line ∷ [];
      locals = [];
      body = tree.AndStatement (tree.Return (Some (tree.Read (tree.Deref (tree.Offset ops.Add (tree.Address (tree.Name (object.Static n) s.ty s.line) pointer s.line) (reader_index s.line) 1 pointer s.line) q s.line) ty s.line)) s.line) tree.NoStatement;
      interrupt = false;
      line = s.line;
    } in
    made)
    (type_same p (all_rows p) p.functions (more_rows p) s h ∙ sym (type_same p (all_rows p) (all_functions p) (more_rows p) s h))

reader_row : (p : Program) (i n : ℕ) (s : StaticTree) → slice_get (tables_of p) i ≡ Some n → slice_get p.statics n ≡ Some s → is_table p s ≡ true → slice_get (all_rows p) (row_of (whole p) (element_qualified (whole p) s)) ≡ Some (element_qualified (whole p) s)
reader_row p i n s at there h =
    let q = element_qualified p s in
    let m = element_row p (tables_of p) i n s p.targets at there in
    subst (λ (x : Qualified). slice_get (all_rows p) (row_or_zero (row_in x 0 (all_rows p))) ≡ Some x)
    (sym (ap (λ (ty : Ty). let x : Qualified = record { ty = ty; constant = true; volatile = s.ty.volatile } in x) (type_same p (all_rows p) (all_functions p) (more_rows p) s h)))
    (ap (λ o. slice_get (all_rows p) (row_or_zero o)) m.1 ∙ row_there q m.0 (all_rows p) m.1)

reader_sound : (p : Program) (i n : ℕ) (s : StaticTree) → slice_get (tables_of p) i ≡ Some n → slice_get p.statics n ≡ Some s → function_fits (whole p) (reader_for (from_rows p) n s) ≡ true
reader_sound p i n s at there =
    let known = tables_are p i n at in
    let same = same_Some known.0 s (sym known.1 ∙ there) in
    let table = ap (is_table p) (sym same) ∙ known.2 in
    ap (function_fits (whole p)) (same_reader p n s table)
    ∙ reader_fits (whole p) n s (table_holds p (all_rows p) (all_functions p) (more_rows p) s table) there (reader_row p i n s at there table)

row_sound : (p : Program) (s : StaticTree) → is_table p s ≡ true → target_fits (whole p) (element_qualified p s) ≡ true
row_sound p s h = let facts : CharFacts (whole p) (element_type p s) = char_facts (whole p) (element_type p s) (table_has_char p s h) in facts.there

pub outlined_sound : KeepsSound
unfolding outlined
outlined_sound p sound =
    let rows = all_rows p in
    let functions = all_functions p in
    let more = more_rows p in
    let again = outlined_function (tables_of p) (length p.functions) in
    let a = and_parts (list_all (target_fits p) p.targets) (list_all (structure_fits p) p.structures && (list_all (static_fits p) p.statics && list_all (function_fits p) p.functions)) sound in
    let b = and_parts (list_all (structure_fits p) p.structures) (list_all (static_fits p) p.statics && list_all (function_fits p) p.functions) a.1 in
    let c = and_parts (list_all (static_fits p) p.statics) (list_all (function_fits p) p.functions) b.1 in
    and_from (list_all (target_fits (whole p)) rows) (list_all (structure_fits (whole p)) p.structures && (list_all (static_fits (whole p)) p.statics && list_all (function_fits (whole p)) functions))
    (rows_fit (target_fits (whole p)) p (tables_of p) p.targets (row_sound p) (tables_are p) (all_hold (target_fits p) (target_fits (whole p)) (λ q. type_holds p rows functions more q.ty) p.targets a.0))
    (and_from (list_all (structure_fits (whole p)) p.structures) (list_all (static_fits (whole p)) p.statics && list_all (function_fits (whole p)) functions)
    (all_hold (structure_fits p) (structure_fits (whole p)) (structure_holds p rows functions more) p.structures b.0)
    (and_from (list_all (static_fits (whole p)) p.statics) (list_all (function_fits (whole p)) functions)
    (all_hold (static_fits p) (static_fits (whole p)) (static_holds p rows functions more) p.statics c.0)
    (all_append (function_fits (whole p)) (map again p.functions) (readers (from_rows p) (tables_of p))
    (all_mapped (function_fits p) (function_fits (whole p)) again (λ f. function_again p rows functions more (tables_of p) (length p.functions) (function_there p) (is_read p) f) p.functions c.1)
    (readers_fit (function_fits (whole p)) (from_rows p) (tables_of p) (reader_sound p) (there_each p)))))
