-- Which reads are those of a table, and what their types say.
use Rattle.std.proofs.Common.{◌≡◌, ℕ, suc, ◌+◌, ◌-◌, ◌≤◌, ◌⊎◌, inl, inr, Bool, true, false, not, ◌&&◌, ◌||◌, nat_eq, List, [], ◌∷◌, Option, Some, None, refl, sym, ap, ◌∙◌, subst, ⊎_elim, arith}
use Rattle.std.proofs.lemmas.Bool.{and_parts, or_cases, false≢true}
use Rattle.std.specs.Prelude.{if◌then◌else◌, slice_get, option_map, is_some, unwrap_or}
use Rattle.c_ints.specs.Range.{bytes_of}
use Rattle.c_ints.specs.declared.operators.BinOp.TheVariants as ops
use Rattle.c_ints.specs.declared.types.IntTy.{IntTy}
use Rattle.c_ints.specs.declared.types.IntTy.TheVariants as ints
use Rattle.c_typed.specs.Fits.{rule_holds, place_rule_holds, is_reached, is_indexed, static_type, is_named}
use Rattle.c_typed.specs.Rules.{address_fits, start_fits, is_start, moves, counts_in, deref_fits, offset_fits}
use Rattle.c_typed.specs.Sameness.{same_flag, same_qualified, is_index, pointed, element_of, part_of, is_the}
use Rattle.c_typed.specs.Trees as tree
use Rattle.c_typed.specs.Trees.{Expression, Place, StaticTree, Program}
use Rattle.c_typed.specs.Types.{type_of, type_bytes}
use Rattle.c_typed.specs.declared.expression.Object.TheVariants as names
use Rattle.c_typed.specs.declared.types.Qualified.{Qualified}
use Rattle.c_typed.specs.declared.types.Ty.{Ty}
use Rattle.c_typed.specs.declared.types.Ty.TheVariants as types
use Rattle.rom_source.proofs.Links.{Side, Left, Right, TableRead, read_at, IsTableRead}
use Rattle.rom_source.proofs.Same.{Stays}
use Rattle.rom_tables.specs.Outlined.{element_type, element_type_of, type_in}
use Rattle.rom_tables.specs.Tables.{is_char, has_char, is_char_row, is_char_array, is_table, tables_from, tables_of, place_in, start_table}
use Rattle.src_rules.proofs.Rules.{read_rule, offset_rule}
use Rattle.src_rules.proofs.Values.{same_nat, same_type_is}
use Rattle.src_rules.specs.Parts.{Obeys, ObeysIn, IsExpressionOf}
use Rattle.src_values.specs.Counting.{is_operator}

pub none_some : {A : Type 0} (x : A) → None ≡ Some x → ⊥
none_some {A} x e = false≢true (ap (λ (o : Option A). is_some o) e)

pub some_same : {A : Type 0} (x y : A) → Some x ≡ Some y → x ≡ y
some_same {A} x y e = ap (λ (o : Option A). unwrap_or o x) e

-- ---- which reads
-- the start of a table
record StartAt (ts : List ℕ) (t : ℕ) (e : Expression) : Type 0 where
  object : ℕ
  object_ty : Qualified
  object_line : ℕ
  start_ty : Ty
  start_line : ℕ
  is : e ≡ tree.Address (tree.Name (names.Static object) object_ty object_line) start_ty start_line
  place : place_in object 0 ts ≡ Some t

start_at : (ts : List ℕ) (t : ℕ) (e : Expression) → start_table ts e ≡ Some t → StartAt ts t e
start_at ts t (tree.Address (tree.Name (names.Static n) ty line) to at) h = record { object = n; object_ty = ty; object_line = line; start_ty = to; start_line = at; is = refl; place = h }
start_at ts t (tree.Address (tree.Name object ty line) to at) h = absurd (none_some t h)
start_at ts t (tree.Address place to at) h = absurd (none_some t h)
start_at ts t e h = absurd (none_some t h)

-- an expression is the read of a table
pub record TableAt (p : Program) (e : Expression) : Type 0 where
  pub side : Side
  pub read : TableRead
  pub is : e ≡ read_at side read
  pub place : place_in read.object 0 (tables_of p) ≡ Some read.table
  -- on the right, the index is no start of a table itself
  pub lone : (side ≡ Right) → start_table (tables_of p) read.index ≡ None

module _ (p : Program) where
  left_at : (t : ℕ) (l r : Expression) (size : ℕ) (pty : Ty) (pat : ℕ) (q : Qualified) (at : ℕ) (ty : Ty) (line : ℕ) → StartAt (tables_of p) t l → TableAt p (tree.Read (tree.Deref (tree.Offset ops.Add l r size pty pat) q at) ty line)
  left_at t l r size pty pat q at ty line h = record {
    side = Left;
    read = record { table = t; object = h.object; object_ty = h.object_ty; object_line = h.object_line; start_ty = h.start_ty; start_line = h.start_line; index = r; size = size; sum_ty = pty; sum_line = pat; place_ty = q; place_line = at; ty = ty; line = line };
    is = ap (λ e. tree.Read (tree.Deref (tree.Offset ops.Add e r size pty pat) q at) ty line) h.is;
    place = h.place;
    lone = λ e. absurd (left_right e);
  }
    where
      is_left : Side → Bool
      is_left Left = true
      is_left Right = false

      left_right : Left ≡ Right → ⊥
      left_right e = false≢true (sym (ap is_left e))

  right_at : (t : ℕ) (l r : Expression) (size : ℕ) (pty : Ty) (pat : ℕ) (q : Qualified) (at : ℕ) (ty : Ty) (line : ℕ) → StartAt (tables_of p) t r → start_table (tables_of p) l ≡ None → TableAt p (tree.Read (tree.Deref (tree.Offset ops.Add l r size pty pat) q at) ty line)
  right_at t l r size pty pat q at ty line h none = record {
    side = Right;
    read = record { table = t; object = h.object; object_ty = h.object_ty; object_line = h.object_line; start_ty = h.start_ty; start_line = h.start_line; index = l; size = size; sum_ty = pty; sum_line = pat; place_ty = q; place_line = at; ty = ty; line = line };
    is = ap (λ e. tree.Read (tree.Deref (tree.Offset ops.Add l e size pty pat) q at) ty line) h.is;
    place = h.place;
    lone = λ e. none;
  }

  by_tables : (l r : Expression) (size : ℕ) (pty : Ty) (pat : ℕ) (q : Qualified) (at : ℕ) (ty : Ty) (line : ℕ) (a b : Option ℕ) → start_table (tables_of p) l ≡ a → start_table (tables_of p) r ≡ b
      → Stays p (tree.Read (tree.Deref (tree.Offset ops.Add l r size pty pat) q at) ty line) ⊎ TableAt p (tree.Read (tree.Deref (tree.Offset ops.Add l r size pty pat) q at) ty line)
  by_tables l r size pty pat q at ty line (Some t) b e f = inr (left_at t l r size pty pat q at ty line (start_at (tables_of p) t l e))
  by_tables l r size pty pat q at ty line None (Some t) e f = inr (right_at t l r size pty pat q at ty line (start_at (tables_of p) t r f) e)
  by_tables l r size pty pat q at ty line None None e f = inl (e, f)

  by_sum : (e : Expression) (q : Qualified) (at : ℕ) (ty : Ty) (line : ℕ) → Stays p (tree.Read (tree.Deref e q at) ty line) ⊎ TableAt p (tree.Read (tree.Deref e q at) ty line)
  by_sum (tree.Offset ops.Add l r size pty pat) q at ty line = by_tables l r size pty pat q at ty line _ _ refl refl
  by_sum (tree.Offset op l r size pty pat) q at ty line = inl (refl, refl)
  by_sum e q at ty line = inl (refl, refl)

  -- each expression is the read of a table, or no such one
  pub reads : (e : Expression) → Stays p e ⊎ TableAt p e
  reads (tree.Read (tree.Deref e q at) ty line) = by_sum e q at ty line
  reads (tree.Read place ty line) = inl (refl, refl)
  reads e = inl tt

  -- ---- the table
  pub record TableThere (n : ℕ) : Type 0 where
    pub static : StaticTree
    pub there : slice_get p.statics n ≡ Some static
    pub table : is_table p static ≡ true

  record Member (a : ℕ) (xs : List StaticTree) (n : ℕ) : Type 0 where
    static : StaticTree
    near : a ≤ n
    there : slice_get xs (n - a) ≡ Some static
    table : is_table p static ≡ true

  later : (a : ℕ) (x : StaticTree) (xs : List StaticTree) (n : ℕ) → Member (a + 1) xs n → Member a (x ∷ xs) n
  later a x xs n h =
      let near = h.near in
      let e : n - a ≡ suc (n - (a + 1)) = omega arith in
      record { static = h.static; near = omega arith; there = ap (slice_get (x ∷ xs)) e ∙ h.there; table = h.table }

  member_at : (a : ℕ) (x : StaticTree) (xs : List StaticTree) (n k t : ℕ) (b : Bool) → nat_eq a n ≡ b → is_table p x ≡ true → ((k : ℕ) → place_in n k (tables_from p (a + 1) xs) ≡ Some t → Member (a + 1) xs n)
      → (if b then Some k else place_in n (k + 1) (tables_from p (a + 1) xs)) ≡ Some t → Member a (x ∷ xs) n
  member_at a x xs n k t true e is ih h =
      let f = same_nat a n e in
      let z : n - a ≡ 0 = omega arith in
      record { static = x; near = omega arith; there = ap (slice_get (x ∷ xs)) z; table = is }
  member_at a x xs n k t false e is ih h = later a x xs n (ih (k + 1) h)

  member_by : (a : ℕ) (x : StaticTree) (xs : List StaticTree) (n k t : ℕ) (b : Bool) → is_table p x ≡ b → ((k : ℕ) → place_in n k (tables_from p (a + 1) xs) ≡ Some t → Member (a + 1) xs n)
      → place_in n k (if b then a ∷ tables_from p (a + 1) xs else tables_from p (a + 1) xs) ≡ Some t → Member a (x ∷ xs) n
  member_by a x xs n k t false is ih h = later a x xs n (ih k h)
  member_by a x xs n k t true is ih h = member_at a x xs n k t (nat_eq a n) refl is ih h

  member : (a : ℕ) (xs : List StaticTree) (n k t : ℕ) → place_in n k (tables_from p a xs) ≡ Some t → Member a xs n
  member a [] n k t h = absurd (none_some t h)
  member a (x ∷ xs) n k t h = member_by a x xs n k t (is_table p x) refl (λ k h. member (a + 1) xs n k t h) h

  pub table_there : (n t : ℕ) → place_in n 0 (tables_of p) ≡ Some t → TableThere n
  table_there n t h =
      let m = member 0 p.statics n 0 t h in
      let e : n - 0 ≡ n = omega arith in
      record { static = m.static; there = sym (ap (slice_get p.statics) e) ∙ m.there; table = m.table }

-- ---- types
-- the type of a table: an array of a row that has a char type
pub record CharArray (p : Program) (ty : Ty) : Type 0 where
  pub element : ℕ
  pub count : ℕ
  pub size : ℕ
  pub row : Qualified
  pub letter : IntTy
  pub is : ty ≡ types.Array element count size
  pub there : slice_get p.targets element ≡ Some row
  pub row_is : row.ty ≡ types.Int letter
  pub one : bytes_of letter ≡ 1

char_one : (ty : IntTy) → is_char ty ≡ true → bytes_of ty ≡ 1
char_one ints.Char e = refl
char_one ints.SChar e = refl
char_one ints.UChar e = refl
char_one ints.Short e = absurd (false≢true e)
char_one ints.UShort e = absurd (false≢true e)
char_one ints.Int e = absurd (false≢true e)
char_one ints.UInt e = absurd (false≢true e)
char_one ints.Long e = absurd (false≢true e)
char_one ints.ULong e = absurd (false≢true e)

char_array_of : (p : Program) (element count size : ℕ) (row : Qualified) (t : Ty) → slice_get p.targets element ≡ Some row → row.ty ≡ t → has_char t ≡ true → CharArray p (types.Array element count size)
char_array_of p element count size row types.Void e f h = absurd (false≢true h)
char_array_of p element count size row (types.Int ty) e f h = record { element = element; count = count; size = size; row = row; letter = ty; is = refl; there = e; row_is = f; one = char_one ty h }
char_array_of p element count size row (types.Pointer n) e f h = absurd (false≢true h)
char_array_of p element count size row (types.Array a b c) e f h = absurd (false≢true h)
char_array_of p element count size row (types.Struct n) e f h = absurd (false≢true h)

char_array_in : (p : Program) (element count size : ℕ) (o : Option Qualified) → slice_get p.targets element ≡ o → is_char_row o ≡ true → CharArray p (types.Array element count size)
char_array_in p element count size None e h = absurd (false≢true h)
char_array_in p element count size (Some row) e h = char_array_of p element count size row row.ty e refl h

pub char_array : (p : Program) (ty : Ty) → is_char_array p ty ≡ true → CharArray p ty
char_array p types.Void h = absurd (false≢true h)
char_array p (types.Int t) h = absurd (false≢true h)
char_array p (types.Pointer n) h = absurd (false≢true h)
char_array p (types.Array element count size) h = char_array_in p element count size (slice_get p.targets element) refl h
char_array p (types.Struct n) h = absurd (false≢true h)

-- a pointer to the elements
record Points (p : Program) (ty to : Ty) : Type 0 where
  row : Qualified
  there : pointed p ty ≡ Some row
  row_is : row.ty ≡ to

points_by : (p : Program) (ty : Ty) (q : Qualified) (o : Option Qualified) → pointed p ty ≡ o → is_the o q ≡ true → Points p ty q.ty
points_by p ty q None e h = absurd (false≢true h)
points_by p ty q (Some row) e h = record { row = row; there = e; row_is = same_type_is row.ty q.ty (and_parts _ _ h).0 }

points : (p : Program) (ty : Ty) (q : Qualified) → is_the (pointed p ty) q ≡ true → Points p ty q.ty
points p ty q h = points_by p ty q (pointed p ty) refl h

same_points : (p : Program) (ty a b : Ty) → Points p ty a → Points p ty b → a ≡ b
same_points p ty a b h g = sym h.row_is ∙ ap (λ (q : Qualified). q.ty) (some_same h.row g.row (sym h.there ∙ g.there)) ∙ g.row_is

start_points : (p : Program) (place : Qualified) (ty : Ty) (o : Option Qualified) (element : Qualified) → o ≡ Some element → is_start p place ty o ≡ true → Points p ty element.ty
start_points p place ty o element e h = points p ty element (subst (λ o. is_start p place ty o ≡ true) e h)

pub same_flag_true : (a b : Bool) → same_flag a b ≡ true → a ≡ true → b ≡ true
same_flag_true true b h e = h
same_flag_true false b h e = absurd (false≢true e)

module _ (p : Program) where
  -- what names a table, and points to its first element
  record Started (object : ℕ) (object_ty : Qualified) (start_ty : Ty) : Type 0 where
    static : StaticTree
    there : slice_get p.statics object ≡ Some static
    table : is_table p static ≡ true
    letter : IntTy
    one : bytes_of letter ≡ 1
    element_is : element_type p static ≡ types.Int letter
    points : Points p start_ty (types.Int letter)
    plain : is_operator p object_ty.ty start_ty ≡ false

  constant_address : (reached : Bool) (place : Qualified) (ty : Ty) → reached ≡ false → place.constant ≡ true → address_fits p true reached place ty ≡ true → ⊥
  constant_address reached place ty r c h = false≢true (sym (ap (λ b. b || not place.constant) r ∙ ap not c) ∙ (and_parts true (reached || not place.constant) (and_parts (is_the (pointed p ty) place) (true && (reached || not place.constant)) h).1).1)

  no_operator : (element count size : ℕ) (ty : Ty) (letter : IntTy) → Points p ty (types.Int letter) → is_operator p (types.Array element count size) ty ≡ false
  no_operator element count size ty letter h = rw h.there (rw h.row_is refl)

  started_by : (f n : ℕ) (object_ty : Qualified) (object_line : ℕ) (start_ty : Ty) (start_line : ℕ) (h : TableThere p n) (a : CharArray p h.static.ty.ty)
      → Obeys p (tree.Address (tree.Name (names.Static n) object_ty object_line) start_ty start_line)
      → same_qualified h.static.ty object_ty ≡ true → Started n object_ty start_ty
  unfolding rule_holds is_reached
  started_by f n object_ty object_line start_ty start_line h a obeys same =
      let flags = and_parts (same_flag h.static.ty.constant object_ty.constant) _ (and_parts _ _ same).1 in
      let constant : object_ty.constant ≡ true = same_flag_true _ _ flags.0 (and_parts _ _ h.table).0 in
      let array : object_ty.ty ≡ types.Array a.element a.count a.size = sym (same_type_is _ _ (and_parts _ _ same).0) ∙ a.is in
      let starts : start_fits p (is_indexed obeys.0) false object_ty start_ty ≡ true = ⊎_elim (λ e. absurd (constant_address false object_ty start_ty refl constant e)) (λ e. e) (or_cases (address_fits p true false object_ty start_ty) (start_fits p (is_indexed obeys.0) false object_ty start_ty) obeys.1) in
      let whole : element_of p object_ty object_ty.ty ≡ Some (record { ty = a.row.ty; constant = object_ty.constant; volatile = object_ty.volatile }) = ap (element_of p object_ty) array ∙ ap (part_of object_ty) a.there in
      let leads : Points p start_ty a.row.ty = start_points p object_ty start_ty (element_of p object_ty object_ty.ty) (record { ty = a.row.ty; constant = object_ty.constant; volatile = object_ty.volatile }) whole (and_parts _ _ starts).0 in
      let to_letter : Points p start_ty (types.Int a.letter) = subst (Points p start_ty) a.row_is leads in
      record {
        static = h.static;
        there = h.there;
        table = h.table;
        letter = a.letter;
        one = a.one;
        element_is = ap (element_type_of p) a.is ∙ ap type_in a.there ∙ a.row_is;
        points = to_letter;
        plain = ap (λ ty. is_operator p ty start_ty) array ∙ no_operator a.element a.count a.size start_ty a.letter to_letter;
      }

  pub named_same : (n : ℕ) (ty : Qualified) (s : StaticTree) (o : Option StaticTree) → o ≡ Some s → is_named false (option_map static_type o) ty ≡ true → same_qualified s.ty ty ≡ true
  named_same n ty s o e h = ⊎_elim (λ d. d) (λ d. absurd (false≢true d)) (or_cases (same_qualified s.ty ty) false (subst (λ o. is_named false (option_map static_type o) ty ≡ true) e h))

  started : (f n t : ℕ) (object_ty : Qualified) (object_line : ℕ) (start_ty : Ty) (start_line : ℕ) → place_in n 0 (tables_of p) ≡ Some t
      → Obeys p (tree.Address (tree.Name (names.Static n) object_ty object_line) start_ty start_line) → ObeysIn p f (tree.Name (names.Static n) object_ty object_line) → Started n object_ty start_ty
  unfolding place_rule_holds
  started f n t object_ty object_line start_ty start_line place obeys named =
      let h = table_there p n t place in
      started_by f n object_ty object_line start_ty start_line h (char_array p h.static.ty.ty (and_parts _ _ h.table).1) obeys (named_same n object_ty h.static (slice_get p.statics n) h.there named)

  -- ---- the sum
  is_an_index : (ty : Ty) → is_index ty ≡ true → (ty ≡ types.Int ints.Int) ⊎ (ty ≡ types.Int ints.UInt)
  is_an_index ty e = ⊎_elim (λ h. inl (same_type_is ty (types.Int ints.Int) h)) (λ h. inr (same_type_is ty (types.Int ints.UInt) h)) (or_cases _ _ e)

  pointer_no_index : (ty to : Ty) → Points p ty to → is_index ty ≡ true → ⊥
  pointer_no_index types.Void to h e = false≢true e
  pointer_no_index (types.Int t) to h e = none_some h.row h.there
  pointer_no_index (types.Pointer row) to h e = false≢true e
  pointer_no_index (types.Array a b c) to h e = false≢true e
  pointer_no_index (types.Struct n) to h e = false≢true e

  record Summed (start index : Ty) (size : ℕ) (ty : Ty) : Type 0 where
    index_is : (index ≡ types.Int ints.Int) ⊎ (index ≡ types.Int ints.UInt)
    size_is : size ≡ 1
    same : start ≡ ty

  summed : (start index : Ty) (size : ℕ) (ty : Ty) (letter : IntTy) → Points p start (types.Int letter) → bytes_of letter ≡ 1 → moves p start index size ty ≡ true → Summed start index size ty
  summed start index size ty letter h one e =
      let a = and_parts (is_index index) _ e in
      let b = and_parts (counts_in p (pointed p start) size) _ a.1 in
      let c = and_parts _ _ (subst (λ o. counts_in p o size ≡ true) h.there b.0) in
      record { index_is = is_an_index index a.0; size_is = same_nat size _ c.1 ∙ ap (type_bytes p.sizes) h.row_is ∙ one; same = same_type_is start ty b.1 }

  left_summed : (start index : Ty) (size : ℕ) (ty : Ty) (letter : IntTy) → Points p start (types.Int letter) → bytes_of letter ≡ 1 → offset_fits p ops.Add start index size ty ≡ true → Summed start index size ty
  left_summed start index size ty letter h one e = ⊎_elim (λ d. summed start index size ty letter h one d) (λ d. absurd (pointer_no_index start (types.Int letter) h (and_parts _ _ d).0)) (or_cases (moves p start index size ty) (moves p index start size ty) e)

  right_summed : (start index : Ty) (size : ℕ) (ty : Ty) (letter : IntTy) → Points p start (types.Int letter) → bytes_of letter ≡ 1 → offset_fits p ops.Add index start size ty ≡ true → Summed start index size ty
  right_summed start index size ty letter h one e = ⊎_elim (λ d. absurd (pointer_no_index start (types.Int letter) h (and_parts _ _ d).0)) (λ d. summed start index size ty letter h one d) (or_cases (moves p index start size ty) (moves p start index size ty) e)

  table_read : (f : ℕ) (r : TableRead) (z : Started r.object r.object_ty r.start_ty) → place_in r.object 0 (tables_of p) ≡ Some r.table → Summed r.start_ty (type_of r.index) r.size r.sum_ty
      → deref_fits p r.sum_ty r.place_ty ≡ true → r.place_ty.ty ≡ r.ty → IsTableRead p r
  table_read f r z place d deref read =
      let letter : r.place_ty.ty ≡ types.Int z.letter = same_points p r.sum_ty _ _ (points p r.sum_ty r.place_ty (and_parts _ _ deref).0) (subst (λ ty. Points p ty (types.Int z.letter)) d.same z.points) in
      record {
        static = z.static;
        there = z.there;
        table = z.table;
        place = place;
        element = z.letter;
        ty = sym read ∙ letter;
        element_is = z.element_is;
        one = z.one;
        size = d.size_is;
        index = d.index_is;
        plain = z.plain;
      }

  -- what is known of the read of a table in a sound program
  pub read_is : (f : ℕ) (side : Side) (r : TableRead) → place_in r.object 0 (tables_of p) ≡ Some r.table → IsExpressionOf p f (read_at side r) → IsTableRead p r
  unfolding place_rule_holds
  read_is f Left r place h =
      let z = started f r.object r.table r.object_ty r.object_line r.start_ty r.start_line place h.1.1.1.0 h.1.1.1.1 in
      table_read f r z place (left_summed r.start_ty (type_of r.index) r.size r.sum_ty z.letter z.points z.one (offset_rule p _ _ _ _ _ _ h.1.1.0)) h.1.0 (read_rule p _ _ _ h.0).0
  read_is f Right r place h =
      let z = started f r.object r.table r.object_ty r.object_line r.start_ty r.start_line place h.1.1.2.0 h.1.1.2.1 in
      table_read f r z place (right_summed r.start_ty (type_of r.index) r.size r.sum_ty z.letter z.points z.one (offset_rule p _ _ _ _ _ _ h.1.1.0)) h.1.0 (read_rule p _ _ _ h.0).0
