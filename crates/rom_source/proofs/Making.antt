-- What is used of the outlined program holds of it.
use Rattle.std.proofs.Common.{◌≡◌, ℕ, zero, suc, ◌+◌, ◌-◌, ◌<◌, ◌≤◌, Bool, true, false, ◌&&◌, nat_eq, if◌then◌else◌, List, [], ◌∷◌, ◌++◌, length, Option, Some, None, is_some, refl, sym, ap, ◌∙◌, subst, arith}
use Rattle.std.proofs.lemmas.Bool.{and_parts, false≢true, eq-eqb}
use Rattle.std.proofs.lemmas.List.{length-map}
use Rattle.std.proofs.lemmas.Option.{slice_get_within}
use Rattle.std.specs.List.{list_all}
use Rattle.std.specs.Prelude.{slice_get, map}
use Rattle.c_ints.specs.declared.types.IntTy.{IntTy}
use Rattle.c_typed.specs.Roots.{first_from, is_main, is_handler}
use Rattle.c_typed.specs.Sameness.{same_type, same_flag, same_qualified}
use Rattle.c_typed.specs.Sound.{result_fits, param_fits, local_fits, statements_fit, function_fits}
use Rattle.c_typed.specs.Trees.{FunctionTree, StaticTree, Program}
use Rattle.c_typed.specs.declared.types.Qualified.{Qualified}
use Rattle.c_typed.specs.declared.types.Ty.{Ty}
use Rattle.c_typed.specs.declared.types.Ty.TheVariants as types
use Rattle.rom_source.proofs.Adding.{added_function}
use Rattle.rom_source.proofs.Facts.{table_there, CharArray, char_array, none_some, some_same}
use Rattle.rom_source.proofs.Links.{with_parts, IsMade}
use Rattle.rom_source.proofs.Transfer.{same_statements}
use Rattle.rom_tables.specs.Outlined.{outlined_function, outlined_functions, row_in, row_or_zero, row_of, type_in, element_type_of, element_type, element_qualified, reader_for, reader_of, readers, row_or_new, with_element, with_rows, with_targets}
use Rattle.rom_tables.specs.Tables.{is_table, tables_from, tables_of, place_in}
use Rattle.src_rules.proofs.Starts.{all_at, function_there, sound_parts}
use Rattle.src_rules.proofs.Stepping.{get_front}
use Rattle.src_rules.proofs.Values.{same_nat, same_type_is}
use Rattle.src_rules.proofs.Writing.{get_behind}
use Rattle.src_rules.specs.Laws.{IsProper}
use Rattle.src_values.specs.Counting.{is_operator}
use Rattle.src_values.specs.Objects.{function_at, or_no_function, or_first}

-- ---- lists
map_at : {A B : Type 0} (f : A → B) (xs : List A) (n : ℕ) (x : A) → slice_get xs n ≡ Some x → slice_get (map f xs) n ≡ Some (f x)
map_at f [] n x e = absurd (none_some x e)
map_at f (y ∷ xs) zero x e = ap (λ y. Some (f y)) (some_same y x e)
map_at f (y ∷ xs) (suc n) x e = map_at f xs n x e

stays_in : {A : Type 0} (xs ys : List A) (n : ℕ) (x : A) → slice_get xs n ≡ Some x → slice_get (xs ++ ys) n ≡ Some x
stays_in xs ys n x e = get_front xs ys n (slice_get_within xs n x e) ∙ e

first_same : (test : FunctionTree → Bool) (f : FunctionTree → FunctionTree) (xs ys : List FunctionTree) (n : ℕ) → ((x : FunctionTree) → test (f x) ≡ test x) → ((m : ℕ) → first_from test ys m ≡ None) → first_from test (map f xs ++ ys) n ≡ first_from test xs n
first_same test f [] ys n same none = none n
first_same test f (x ∷ xs) ys n same none = rw (same x, first_same test f xs ys (n + 1) same none) refl

flag_itself : (b : Bool) → same_flag b b ≡ true
flag_itself true = refl
flag_itself false = refl

type_itself : (ty : Ty) → same_type ty ty ≡ true
type_itself types.Void = refl
type_itself (types.Int t) = eq-eqb _ _ refl
type_itself (types.Pointer n) = eq-eqb n n refl
type_itself (types.Array a b c) = rw (eq-eqb a a refl, eq-eqb b b refl, eq-eqb c c refl) refl
type_itself (types.Struct n) = eq-eqb n n refl

qualified_itself : (q : Qualified) → same_qualified q q ≡ true
qualified_itself q = rw (type_itself q.ty, flag_itself q.constant, flag_itself q.volatile) refl

-- ---- rows
record Row (x : Qualified) (n k : ℕ) (rows : List Qualified) : Type 0 where
  row : Qualified
  near : n ≤ k
  there : slice_get rows (k - n) ≡ Some row
  same : same_qualified x row ≡ true

row_by : (x y : Qualified) (rows : List Qualified) (n k : ℕ) (b : Bool) → same_qualified x y ≡ b → (row_in x (n + 1) rows ≡ Some k → Row x (n + 1) k rows) → (if b then Some n else row_in x (n + 1) rows) ≡ Some k → Row x n k (y ∷ rows)
row_by x y rows n k true is ih e = let f = some_same n k e in let z : k - n ≡ 0 = omega arith in record { row = y; near = omega arith; there = ap (slice_get (y ∷ rows)) z; same = is }
row_by x y rows n k false is ih e =
    let r = ih e in
    let near = r.near in
    let z : k - n ≡ suc (k - (n + 1)) = omega arith in
    record { row = r.row; near = omega arith; there = ap (slice_get (y ∷ rows)) z ∙ r.there; same = r.same }

row_at : (x : Qualified) (rows : List Qualified) (n k : ℕ) → row_in x n rows ≡ Some k → Row x n k rows
row_at x [] n k e = absurd (none_some k e)
row_at x (y ∷ rows) n k e = row_by x y rows n k (same_qualified x y) refl (λ e. row_at x rows (n + 1) k e) e

has_by : (b : Bool) (n : ℕ) (o u : Option ℕ) → (is_some o ≡ true → is_some u ≡ true) → is_some (if b then Some n else o) ≡ true → is_some (if b then Some n else u) ≡ true
has_by true n o u h e = refl
has_by false n o u h e = h e

in_front : (x : Qualified) (rows more : List Qualified) (n : ℕ) → is_some (row_in x n rows) ≡ true → is_some (row_in x n (rows ++ more)) ≡ true
in_front x [] more n e = absurd (false≢true e)
in_front x (y ∷ rows) more n e = has_by (same_qualified x y) n _ _ (in_front x rows more (n + 1)) e

either_some : (b : Bool) (n : ℕ) (o : Option ℕ) → is_some o ≡ true → is_some (if b then Some n else o) ≡ true
either_some true n o e = refl
either_some false n o e = e

at_end : (x : Qualified) (rows : List Qualified) (n : ℕ) → is_some (row_in x n (rows ++ x ∷ [])) ≡ true
at_end x [] n = rw (qualified_itself x) refl
at_end x (y ∷ rows) n = either_some (same_qualified x y) n _ (at_end x rows (n + 1))

has_more : (x y : Qualified) (rows : List Qualified) (o : Option ℕ) → is_some (row_in x 0 rows) ≡ true → is_some (row_in x 0 (row_or_new o y rows)) ≡ true
has_more x y rows (Some n) e = e
has_more x y rows None e = in_front x rows (y ∷ []) 0 e

has_new : (x : Qualified) (rows : List Qualified) (o : Option ℕ) → row_in x 0 rows ≡ o → is_some (row_in x 0 (row_or_new o x rows)) ≡ true
has_new x rows (Some n) e = ap is_some e
has_new x rows None e = at_end x rows 0

-- rows that are there stay
more_at : (x : Qualified) (rows : List Qualified) (o : Option ℕ) (n : ℕ) (y : Qualified) → slice_get rows n ≡ Some y → slice_get (row_or_new o x rows) n ≡ Some y
more_at x rows (Some k) n y e = e
more_at x rows None n y e = stays_in rows (x ∷ []) n y e

module _ (p : Program) where
  element_at : (o : Option StaticTree) (rows : List Qualified) (n : ℕ) (y : Qualified) → slice_get rows n ≡ Some y → slice_get (with_element p o rows) n ≡ Some y
  element_at None rows n y e = e
  element_at (Some s) rows n y e = more_at (element_qualified p s) rows _ n y e

  rows_at : (ts : List ℕ) (rows : List Qualified) (n : ℕ) (y : Qualified) → slice_get rows n ≡ Some y → slice_get (with_rows p ts rows) n ≡ Some y
  rows_at [] rows n y e = e
  rows_at (t ∷ ts) rows n y e = rows_at ts (with_element p (slice_get p.statics t) rows) n y (element_at (slice_get p.statics t) rows n y e)

  element_has : (x : Qualified) (o : Option StaticTree) (rows : List Qualified) → is_some (row_in x 0 rows) ≡ true → is_some (row_in x 0 (with_element p o rows)) ≡ true
  element_has x None rows e = e
  element_has x (Some s) rows e = has_more x (element_qualified p s) rows _ e

  rows_have : (x : Qualified) (ts : List ℕ) (rows : List Qualified) → is_some (row_in x 0 rows) ≡ true → is_some (row_in x 0 (with_rows p ts rows)) ≡ true
  rows_have x [] rows e = e
  rows_have x (t ∷ ts) rows e = rows_have x ts (with_element p (slice_get p.statics t) rows) (element_has x (slice_get p.statics t) rows e)

  table_has : (s : StaticTree) (n : ℕ) → slice_get p.statics n ≡ Some s → (ts : List ℕ) (k t : ℕ) (rows : List Qualified) → place_in n k ts ≡ Some t → is_some (row_in (element_qualified p s) 0 (with_rows p ts rows)) ≡ true
  table_has s n there [] k t rows e = absurd (none_some t e)
  table_has s n there (x ∷ ts) k t rows e = by (nat_eq x n) refl (λ e. table_has s n there ts (k + 1) t (with_element p (slice_get p.statics x) rows) e) e
    where
      by : (b : Bool) → nat_eq x n ≡ b → (place_in n (k + 1) ts ≡ Some t → is_some (row_in (element_qualified p s) 0 (with_rows p (x ∷ ts) rows)) ≡ true) → (if b then Some k else place_in n (k + 1) ts) ≡ Some t → is_some (row_in (element_qualified p s) 0 (with_rows p (x ∷ ts) rows)) ≡ true
      by true is ih e =
          let here : slice_get p.statics x ≡ Some s = ap (slice_get p.statics) (same_nat x n is) ∙ there in
          rows_have (element_qualified p s) ts (with_element p (slice_get p.statics x) rows) (subst (λ o. is_some (row_in (element_qualified p s) 0 (with_element p o rows)) ≡ true) (sym here) (has_new (element_qualified p s) rows _ refl))
      by false is ih e = ih e

  abbrev pub ts : List ℕ
  ts = tables_of p

  abbrev pub rows : List Qualified
  rows = with_rows p ts p.targets

  abbrev pub fs : List FunctionTree
  fs = outlined_functions p ts

  abbrev typed : Program
  typed = with_targets p ts

  -- ---- elements of tables
  elements_by : (s : StaticTree) → CharArray p s.ty.ty → element_type typed s ≡ element_type p s
  elements_by s a =
      ap (element_type_of typed) a.is ∙ ap type_in (rows_at ts p.targets a.element a.row a.there) ∙ sym (ap type_in a.there) ∙ sym (ap (element_type_of p) a.is)

  array_of : (s : StaticTree) → is_table p s ≡ true → CharArray p s.ty.ty
  array_of s h = char_array p s.ty.ty (and_parts _ _ h).1

  table_of : (n t : ℕ) (s : StaticTree) → place_in n 0 ts ≡ Some t → slice_get p.statics n ≡ Some s → is_table p s ≡ true
  table_of n t s place there = let d = table_there p n t place in subst (λ x. is_table p x ≡ true) (some_same d.static s (sym d.there ∙ there)) d.table

  elements : (n t : ℕ) (s : StaticTree) → place_in n 0 ts ≡ Some t → slice_get p.statics n ≡ Some s → element_type typed s ≡ element_type p s
  elements n t s place there = elements_by s (array_of s (table_of n t s place there))

  letter_is : (s : StaticTree) (a : CharArray p s.ty.ty) → element_type p s ≡ types.Int a.letter
  letter_is s a = ap (element_type_of p) a.is ∙ ap type_in a.there ∙ a.row_is

  row_known : (x : Qualified) (letter : IntTy) (element count size : ℕ) (o : Option ℕ) → row_in x 0 rows ≡ o → is_some o ≡ true → x.ty ≡ types.Int letter → is_operator (with_parts p rows fs) (types.Array element count size) (types.Pointer (row_or_zero o)) ≡ false
  row_known x letter element count size None is e ty = absurd (false≢true e)
  row_known x letter element count size (Some k) is e ty =
      let r = row_at x rows 0 k is in
      let z : k - 0 ≡ k = omega arith in
      let there : slice_get rows k ≡ Some r.row = sym (ap (slice_get rows) z) ∙ r.there in
      let same : r.row.ty ≡ types.Int letter = sym (same_type_is x.ty r.row.ty (and_parts _ _ r.same).0) ∙ ty in
      rw (there, same) refl

  starts : (n t : ℕ) (s : StaticTree) → place_in n 0 ts ≡ Some t → slice_get p.statics n ≡ Some s → is_operator (with_parts p rows fs) s.ty.ty (types.Pointer (row_of typed (element_qualified typed s))) ≡ false
  starts n t s place there =
      let a = array_of s (table_of n t s place there) in
      let same : element_qualified typed s ≡ element_qualified p s = ap (λ (ty : Ty). record { ty = ty; constant = true; volatile = s.ty.volatile }) (elements n t s place there) in
      ap (λ ty. is_operator (with_parts p rows fs) ty (types.Pointer (row_of typed (element_qualified typed s)))) a.is
      ∙ ap (λ x. is_operator (with_parts p rows fs) (types.Array a.element a.count a.size) (types.Pointer (row_of typed x))) same
      ∙ row_known (element_qualified p s) a.letter a.element a.count a.size (row_in (element_qualified p s) 0 rows) refl (table_has s n there ts 0 t p.targets place) (letter_is s a)

  -- ---- readers
  AllThere : List ℕ → Type 0
  AllThere [] = Unit {0}
  AllThere (t ∷ rest) = ((s : StaticTree) × (slice_get p.statics t ≡ Some s)) × AllThere rest

  there_by : (b : Bool) (a : ℕ) (rest : List ℕ) (s : StaticTree) → slice_get p.statics a ≡ Some s → AllThere rest → AllThere (if b then a ∷ rest else rest)
  unfolding AllThere
  there_by true a rest s e h = ((s, e), h)
  there_by false a rest s e h = h

  all_there : (a : ℕ) (xs : List StaticTree) → ((j : ℕ) → slice_get p.statics (a + j) ≡ slice_get xs j) → AllThere (tables_from p a xs)
  unfolding AllThere
  all_there a [] same = tt
  all_there a (x ∷ xs) same =
      let e : a + 0 ≡ a = omega arith in
      there_by (is_table p x) a (tables_from p (a + 1) xs) x (sym (ap (slice_get p.statics) e) ∙ same 0)
      (all_there (a + 1) xs (λ j. let f : a + 1 + j ≡ a + suc j = omega arith in ap (slice_get p.statics) f ∙ same (suc j)))

  record ReaderAt (n k t : ℕ) (s : StaticTree) (xs : List ℕ) : Type 0 where
    near : k ≤ t
    there : slice_get (readers typed xs) (t - k) ≡ Some (reader_for typed n s)

  reader_by : (n x k t : ℕ) (s y : StaticTree) (xs : List ℕ) (b : Bool) → nat_eq x n ≡ b → slice_get p.statics n ≡ Some s → slice_get p.statics x ≡ Some y → (place_in n (k + 1) xs ≡ Some t → ReaderAt n (k + 1) t s xs)
      → (if b then Some k else place_in n (k + 1) xs) ≡ Some t → ReaderAt n k t s (x ∷ xs)
  reader_by n x k t s y xs true is there own ih e =
      let f = some_same k t e in
      let z : t - k ≡ 0 = omega arith in
      let g = same_nat x n is in
      let h : y ≡ s = some_same y s (sym own ∙ ap (slice_get p.statics) g ∙ there) in
      record {
        near = omega arith;
        there = ap (slice_get (readers typed (x ∷ xs))) z ∙ ap (λ o. slice_get (reader_of typed x o ++ readers typed xs) 0) own ∙ ap (λ i. Some (reader_for typed i y)) g ∙ ap (λ i. Some (reader_for typed n i)) h;
      }
  reader_by n x k t s y xs false is there own ih e =
      let r = ih e in
      let near = r.near in
      let z : t - k ≡ suc (t - (k + 1)) = omega arith in
      record {
        near = omega arith;
        there = ap (slice_get (readers typed (x ∷ xs))) z ∙ ap (λ o. slice_get (reader_of typed x o ++ readers typed xs) (suc (t - (k + 1)))) own ∙ r.there;
      }

  reader_at : (n k t : ℕ) (s : StaticTree) (xs : List ℕ) → AllThere xs → slice_get p.statics n ≡ Some s → place_in n k xs ≡ Some t → ReaderAt n k t s xs
  unfolding AllThere
  reader_at n k t s [] h there e = absurd (none_some t e)
  reader_at n k t s (x ∷ xs) h there e = reader_by n x k t s h.0.0 xs (nat_eq x n) refl there h.0.1 (λ e. reader_at n (k + 1) t s xs h.1 there e) e

  readers_are : (n t : ℕ) (s : StaticTree) → place_in n 0 ts ≡ Some t → slice_get p.statics n ≡ Some s → function_at (with_parts p rows fs) (length p.functions + t) ≡ reader_for typed n s
  readers_are n t s place there =
      let r = reader_at n 0 t s ts (all_there 0 p.statics (λ j. let e : 0 + j ≡ j = omega arith in ap (slice_get p.statics) e)) there place in
      let z : t - 0 ≡ t = omega arith in
      let h = map (outlined_function ts (length p.functions)) p.functions in
      let l : length h ≡ length p.functions = length-map p.functions (outlined_function ts (length p.functions)) in
      ap or_no_function (ap (λ i. slice_get (h ++ readers typed ts) (i + t)) (sym l) ∙ get_behind h (readers typed ts) t ∙ sym (ap (slice_get (readers typed ts)) z) ∙ r.there)

  -- ---- functions
  body_fits : (f : FunctionTree) → function_fits p f ≡ true → statements_fit p f true false false f.body ≡ true
  body_fits f h =
      let a = and_parts (result_fits p f.result) (list_all (param_fits p) f.params && (list_all (local_fits p) f.locals && statements_fit p f true false false f.body)) h in
      let b = and_parts (list_all (param_fits p) f.params) (list_all (local_fits p) f.locals && statements_fit p f true false false f.body) a.1 in
      (and_parts (list_all (local_fits p) f.locals) (statements_fit p f true false false f.body) b.1).1

  function_is : (f : FunctionTree) → function_fits p f ≡ true → outlined_function ts (length p.functions) f ≡ added_function ts (length p.functions) f
  function_is f h = ap (λ ss. record { name = f.name; result = f.result; params = f.params; locals = f.locals; body = ss; interrupt = f.interrupt; line = f.line }) (same_statements p f (length p.functions) true false false f.body (body_fits f h))

  functions_are : IsProper p → (f : ℕ) → f < length p.functions → function_at (with_parts p rows fs) f ≡ added_function ts (length p.functions) (function_at p f)
  functions_are sound f l =
      let there = function_there p f l in
      let is = stays_in (map (outlined_function ts (length p.functions)) p.functions) (readers typed ts) f _ (map_at (outlined_function ts (length p.functions)) p.functions f (function_at p f) there) in
      ap or_no_function is ∙ function_is (function_at p f) (all_at (function_fits p) p.functions f (function_at p f) (sound_parts p sound.sound).1 there)

  -- ---- roots
  no_handler : (xs : List ℕ) (m : ℕ) → first_from is_handler (readers typed xs) m ≡ None
  no_handler [] m = refl
  no_handler (x ∷ xs) m = by (slice_get p.statics x) (λ m. no_handler xs m)
    where
      by : (o : Option StaticTree) → ((m : ℕ) → first_from is_handler (readers typed xs) m ≡ None) → first_from is_handler (reader_of typed x o ++ readers typed xs) m ≡ None
      by None ih = ih m
      by (Some s) ih = ih (m + 1)

  no_main : (xs : List ℕ) (m : ℕ) → first_from is_main (readers typed xs) m ≡ None
  no_main [] m = refl
  no_main (x ∷ xs) m = by (slice_get p.statics x) (λ m. no_main xs m)
    where
      by : (o : Option StaticTree) → ((m : ℕ) → first_from is_main (readers typed xs) m ≡ None) → first_from is_main (reader_of typed x o ++ readers typed xs) m ≡ None
      by None ih = ih m
      by (Some s) ih = ih (m + 1)

  pub is_made : IsProper p → IsMade p rows fs
  is_made sound = record {
    rows_stay = λ n q e. rows_at ts p.targets n q e;
    functions = functions_are sound;
    handler = first_same is_handler (outlined_function ts (length p.functions)) p.functions (readers typed ts) 0 (λ x. refl) (no_handler ts);
    main = ap or_first (first_same is_main (outlined_function ts (length p.functions)) p.functions (readers typed ts) 0 (λ x. refl) (no_main ts));
    readers = readers_are;
    elements = elements;
    starts = starts;
  }
