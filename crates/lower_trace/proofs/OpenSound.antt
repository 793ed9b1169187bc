-- In a sound program a pointer that may lead to a const object is indexed at once, and what is reached so is const: the expressions of
-- its trees have open values, and the places that they write are open.
use Rattle.std.proofs.Common.{◌≡◌, ℕ, ◌⊎◌, inl, inr, Bool, true, false, not, ◌&&◌, ◌||◌, nat_eq, List, [], ◌∷◌, Option, Some, None, refl, sym, ap, ◌∙◌, subst, ⊎_elim}
use Rattle.std.proofs.lemmas.Bool.{and_parts, false≢true, or_cases}
use Rattle.c_ints.specs.declared.operators.BinOp.{BinOp}
use Rattle.c_ints.specs.declared.operators.BinOp.TheVariants as binop
use Rattle.c_typed.specs.Fits.{array_reach, arguments_fit, first_reach, fits, if_array, is_alone, is_indexed, is_local_name, is_memory, is_reached, member_at, operand_standing, place_fits, place_rule_holds, reached_by, rule_holds, Standing, Used, Pointed, Indexed, Alone}
use Rattle.c_typed.specs.Rules.{address_fits, assign_fits, copy_fits, deref_fits, is_start, is_writable, member_fits, moves, offset_fits, start_fits}
use Rattle.c_typed.specs.Sameness.{element_of, is_index, is_pointer, is_the, part_of, pointed, same_flag, same_type}
use Rattle.c_typed.specs.Trees as tree
use Rattle.c_typed.specs.Trees.{Expression, Expressions, FunctionTree, MemberTree, Place, Program, VariableTree}
use Rattle.c_typed.specs.Types.{place_type, type_of}
use Rattle.c_typed.specs.declared.types.Qualified.{Qualified}
use Rattle.c_typed.specs.declared.types.Ty.{Ty}
use Rattle.c_typed.specs.declared.types.Ty.TheVariants as types
use Rattle.src_rules.proofs.Rules.{address_rule}
use Rattle.src_rules.proofs.Values.{same_type_is}
use Rattle.lower_trace.proofs.Entering.{bool_cases}
use Rattle.lower_trace.proofs.OpenTrees.{AllOpen, AreOpen, IsTarget, PlaceOpen, UsedOpen, closed_place, is_closed}

-- what is pointed to is const
abbrev pub const_of : Option Qualified → Bool
const_of None = false
const_of (Some q) = q.constant

-- ---- flags
flag_true : (a b : Bool) → same_flag a b ≡ true → a ≡ true → b ≡ true
flag_true true b e h = e
flag_true false b e h = absurd (false≢true h)

or_right : (a b : Bool) → b ≡ true → (a || b) ≡ true
or_right true b e = refl
or_right false b e = e

-- neither reached nor not const
neither : (r c : Bool) → r ≡ false → c ≡ true → (r || not c) ≡ true → ⊥
neither r c a b e = let q : (r || not c) ≡ (false || not true) = ap (λ x. x || not c) a ∙ ap (λ x. false || not x) b in false≢true (sym q ∙ e)

the_const : (o : Option Qualified) (q : Qualified) → is_the o q ≡ true → q.constant ≡ true → const_of o ≡ true
the_const None q e h = absurd (false≢true e)
the_const (Some x) q e h = let g = and_parts _ _ (and_parts (same_type x.ty q.ty) _ e).1 in flag_back x.constant q.constant g.0 h
  where
    flag_back : (a b : Bool) → same_flag a b ≡ true → b ≡ true → a ≡ true
    flag_back true b e h = refl
    flag_back false b e h = absurd (let q : not b ≡ false = ap not h in false≢true (sym q ∙ e))

const_the : (o : Option Qualified) (q : Qualified) → is_the o q ≡ true → const_of o ≡ true → q.constant ≡ true
const_the None q e h = absurd (false≢true e)
const_the (Some x) q e h = flag_true x.constant q.constant (and_parts _ _ (and_parts (same_type x.ty q.ty) _ e).1).0 h

-- the first element of a const array is const, and its address is that of an array
start_const : (p : Program) (whole : Qualified) (ty : Ty) (o : Option Qualified) → is_start p whole ty (part_of whole o) ≡ true → whole.constant ≡ true → const_of (pointed p ty) ≡ true
start_const p whole ty None e h = absurd (false≢true e)
start_const p whole ty (Some q) e h = the_const (pointed p ty) (record { ty = q.ty; constant = whole.constant; volatile = whole.volatile }) e h

record IsStart (p : Program) (from : Ty) (ty : Ty) (reached : Bool) : Type 0 where
  constant : const_of (pointed p ty) ≡ true
  array : if_array from reached ≡ Some reached

start_is : (p : Program) (whole : Qualified) (from ty : Ty) (reached : Bool) → is_start p whole ty (element_of p whole from) ≡ true → whole.constant ≡ true → IsStart p from ty reached
start_is p whole (types.Array element count size) ty reached e h = record { constant = start_const p whole ty _ e h; array = refl }
start_is p whole types.Void ty reached e h = absurd (false≢true e)
start_is p whole (types.Int t) ty reached e h = absurd (false≢true e)
start_is p whole (types.Pointer row) ty reached e h = absurd (false≢true e)
start_is p whole (types.Struct number) ty reached e h = absurd (false≢true e)

-- an index is no pointer
index_no_pointer : (p : Program) (ty : Ty) → is_index ty ≡ true → const_of (pointed p ty) ≡ true → ⊥
index_no_pointer p types.Void i e = false≢true i
index_no_pointer p (types.Int t) i e = false≢true e
index_no_pointer p (types.Pointer row) i e = false≢true i
index_no_pointer p (types.Array element count size) i e = false≢true i
index_no_pointer p (types.Struct number) i e = false≢true i

pointer_no_index : (ty : Ty) → is_pointer ty ≡ true → is_index ty ≡ true → ⊥
pointer_no_index types.Void a b = false≢true a
pointer_no_index (types.Int t) a b = false≢true a
pointer_no_index (types.Pointer row) a b = false≢true b
pointer_no_index (types.Array element count size) a b = false≢true a
pointer_no_index (types.Struct number) a b = false≢true a

-- ---- standings
indexed_operand : (standing : Standing) (op : BinOp) → is_indexed (operand_standing standing op) ≡ true → (standing ≡ Pointed) × (op ≡ binop.Add)
indexed_operand Pointed binop.Add e = (refl, refl)
indexed_operand Pointed _ e = absurd (false≢true e)
indexed_operand Used op e = absurd (false≢true e)
indexed_operand Indexed op e = absurd (false≢true e)
indexed_operand Alone op e = absurd (false≢true e)

pointed_operand : (standing : Standing) (op : BinOp) → operand_standing standing op ≡ Pointed → ⊥
pointed_operand Pointed binop.Add e = cc
pointed_operand Pointed _ e = cc
pointed_operand Used op e = cc
pointed_operand Indexed op e = cc
pointed_operand Alone op e = cc

module _ (p : Program) (f : FunctionTree) where
  -- how a pointer stands that may lead to a const object
  abbrev ClosedAt : Standing → Expression → Type 0
  ClosedAt standing (tree.Address place ty line) = (is_indexed standing ≡ true) × (array_reach (tree.Address place ty line) ≡ Some false) × (const_of (pointed p ty) ≡ true)
  ClosedAt standing (tree.Offset op left right size ty line) = (standing ≡ Pointed) × (reached_by (tree.Offset op left right size ty line) ≡ false) × (const_of (pointed p ty) ≡ true)
  ClosedAt standing _ = ⊥

  not_used : (e : Expression) → ClosedAt Used e → ⊥
  not_used (tree.Address place ty line) h = false≢true h.0
  not_used (tree.Offset op left right size ty line) h = no h.0
    where
      no : Used ≡ Pointed → ⊥
      no e = cc
  not_used _ h = h

  not_alone : (e : Expression) → ClosedAt Alone e → ⊥
  not_alone (tree.Address place ty line) h = false≢true h.0
  not_alone (tree.Offset op left right size ty line) h = no h.0
    where
      no : Alone ≡ Pointed → ⊥
      no e = cc
  not_alone _ h = h

  record IsPart (standing : Standing) (op : BinOp) (e : Expression) : Type 0 where
    stands : standing ≡ Pointed
    sum : op ≡ binop.Add
    reach : array_reach e ≡ Some false
    constant : const_of (pointed p (type_of e)) ≡ true

  part_of_sum : (standing : Standing) (op : BinOp) (e : Expression) → ClosedAt (operand_standing standing op) e → IsPart standing op e
  part_of_sum standing op (tree.Address place ty line) h = let q = indexed_operand standing op h.0 in record { stands = q.0; sum = q.1; reach = h.1; constant = h.2 }
  part_of_sum standing op (tree.Offset o left right size ty line) h = absurd (pointed_operand standing op h.0)
  part_of_sum standing op _ h = absurd h

  -- an index is no address
  index_reach : (standing : Standing) (e : Expression) → fits p f standing e ≡ true → is_index (type_of e) ≡ true → array_reach e ≡ None
  unfolding fits array_reach
  index_reach standing (tree.Address place ty line) h i = absurd (pointer_no_index ty (address_rule p place ty line (standing, (and_parts _ _ h).0)).0 i)
  index_reach standing (tree.Constant value line) h i = refl
  index_reach standing (tree.Read place ty line) h i = refl
  index_reach standing (tree.Convert operand ty line) h i = refl
  index_reach standing (tree.Cast operand ty line) h i = refl
  index_reach standing (tree.Unary op operand ty line) h i = refl
  index_reach standing (tree.Binary op left right ty line) h i = refl
  index_reach standing (tree.Offset op left right size ty line) h i = refl
  index_reach standing (tree.Difference left right size line) h i = refl
  index_reach standing (tree.Logical op left right line) h i = refl
  index_reach standing (tree.Conditional condition chosen otherwise ty line) h i = refl
  index_reach standing (tree.Comma left right ty line) h i = refl
  index_reach standing (tree.Assign place value ty line) h i = refl
  index_reach standing (tree.StructAssign place from size line) h i = refl
  index_reach standing (tree.Update op place value operation size ty line) h i = refl
  index_reach standing (tree.Step op place operation size ty line) h i = refl
  index_reach standing (tree.Call function arguments ty line) h i = refl

  -- ---- sums with a pointer that may lead to a const object
  moved_const : (from ty : Ty) → same_type from ty ≡ true → const_of (pointed p from) ≡ true → const_of (pointed p ty) ≡ true
  moved_const from ty e h = subst (λ t. const_of (pointed p t) ≡ true) (same_type_is from ty e) h

  left_const : (left right : Ty) (size : ℕ) (ty : Ty) → offset_fits p binop.Add left right size ty ≡ true → const_of (pointed p left) ≡ true → const_of (pointed p ty) ≡ true
  left_const left right size ty e h =
      ⊎_elim
      (λ m. moved_const left ty (and_parts _ _ (and_parts (is_index right) _ m).1).1 h)
      (λ m. absurd (index_no_pointer p left (and_parts (is_index left) _ m).0 h))
      (or_cases (moves p left right size ty) (moves p right left size ty) e)

  right_const : (left right : Ty) (size : ℕ) (ty : Ty) → offset_fits p binop.Add left right size ty ≡ true → const_of (pointed p right) ≡ true → (is_index left ≡ true) × (const_of (pointed p ty) ≡ true)
  right_const left right size ty e h =
      ⊎_elim
      (λ m. absurd (index_no_pointer p right (and_parts (is_index right) _ m).0 h))
      (λ m. let q = and_parts (is_index left) _ m in (q.0, moved_const right ty (and_parts _ _ q.1).1 h))
      (or_cases (moves p left right size ty) (moves p right left size ty) e)

  left_part : (standing : Standing) (op : BinOp) (left right : Expression) (size : ℕ) (ty : Ty) (line : ℕ) → offset_fits p op (type_of left) (type_of right) size ty ≡ true → IsPart standing op left → ClosedAt standing (tree.Offset op left right size ty line)
  unfolding reached_by
  left_part standing op left right size ty line rule part =
      (part.stands, ap (λ o. first_reach o (array_reach right)) part.reach, left_const (type_of left) (type_of right) size ty (subst (λ o. offset_fits p o (type_of left) (type_of right) size ty ≡ true) part.sum rule) part.constant)

  right_part : (standing : Standing) (op : BinOp) (left right : Expression) (size : ℕ) (ty : Ty) (line : ℕ) → offset_fits p op (type_of left) (type_of right) size ty ≡ true → fits p f (operand_standing standing op) left ≡ true → IsPart standing op right → ClosedAt standing (tree.Offset op left right size ty line)
  unfolding reached_by
  right_part standing op left right size ty line rule h part =
      let q = right_const (type_of left) (type_of right) size ty (subst (λ o. offset_fits p o (type_of left) (type_of right) size ty ≡ true) part.sum rule) part.constant in
      (part.stands, ap (λ o. first_reach o (array_reach right)) (index_reach (operand_standing standing op) left h q.0) ∙ ap (first_reach None) part.reach, q.1)

  -- ---- places
  member_const : (o : Option MemberTree) (whole : Qualified) (offset : ℕ) (ty : Qualified) → member_fits o whole offset ty ≡ true → whole.constant ≡ true → ty.constant ≡ true
  member_const None whole offset ty e h = absurd (false≢true e)
  member_const (Some m) whole offset ty e h =
      let g = and_parts _ _ (and_parts (same_type m.ty.ty ty.ty) _ (and_parts (nat_eq m.offset offset) _ e).1).1 in
      flag_true (m.ty.constant || whole.constant) ty.constant g.0 (or_right m.ty.constant whole.constant h)

  address_closed : (standing : Standing) (memory reached : Bool) (place : Qualified) (ty : Ty) → reached ≡ false → place.constant ≡ true → (address_fits p memory reached place ty || start_fits p (is_indexed standing) reached place ty) ≡ true → (is_indexed standing ≡ true) × IsStart p place.ty ty reached
  address_closed standing memory reached place ty r c e =
      ⊎_elim
      (λ a. absurd (neither reached place.constant r c (and_parts memory _ (and_parts (is_the (pointed p ty) place) _ a).1).1))
      (λ s.
      let g = and_parts (is_start p place ty (element_of p place place.ty)) _ s in
      (⊎_elim (λ i. i) (λ n. absurd (neither reached place.constant r c n)) (or_cases (is_indexed standing) _ g.1), start_is p place place.ty ty reached g.0 c))
      (or_cases (address_fits p memory reached place ty) (start_fits p (is_indexed standing) reached place ty) e)

  mutual
    unfolding fits place_fits rule_holds place_rule_holds array_reach is_reached reached_by

    pub place_closed : (place : Place) → place_fits p f place ≡ true → closed_place place ≡ true → (is_reached place ≡ false) × ((place_type place).constant ≡ true)
    place_closed (tree.Name object ty line) h c = (refl, c)
    place_closed (tree.Bit register bit line) h c = absurd (false≢true c)
    place_closed (tree.Member whole member offset ty line) h c =
        let g = and_parts (member_fits (member_at p (place_type whole).ty member) (place_type whole) offset ty) _ h in
        let r = place_closed whole g.1 c in
        (r.0, member_const (member_at p (place_type whole).ty member) (place_type whole) offset ty g.0 r.1)
    place_closed (tree.Deref pointer ty line) h c =
        let g = and_parts (deref_fits p (type_of pointer) ty) _ h in
        let r = pointed_closed pointer (expression_closed Pointed pointer g.1 c) in
        (r.0, const_the (pointed p (type_of pointer)) ty (and_parts _ _ g.0).0 r.1)

    pointed_closed : (e : Expression) → ClosedAt Pointed e → (reached_by e ≡ false) × (const_of (pointed p (type_of e)) ≡ true)
    pointed_closed (tree.Address place ty line) h = absurd (false≢true h.0)
    pointed_closed (tree.Offset op left right size ty line) h = (h.1, h.2)
    pointed_closed _ h = absurd h

    expression_closed : (standing : Standing) (e : Expression) → fits p f standing e ≡ true → is_closed e ≡ true → ClosedAt standing e
    expression_closed standing (tree.Address place ty line) h c =
        let g = and_parts _ (place_fits p f place) h in
        let r = place_closed place g.1 c in
        let a = address_closed standing (is_memory place) (is_reached place) (place_type place) ty r.0 r.1 g.0 in
        (a.0, a.1.array ∙ ap Some r.0, a.1.constant)
    expression_closed standing (tree.Offset op left right size ty line) h c =
        let g = and_parts (offset_fits p op (type_of left) (type_of right) size ty) _ h in
        let parts = and_parts (fits p f (operand_standing standing op) left) _ g.1 in
        ⊎_elim
        (λ l. left_part standing op left right size ty line g.0 (part_of_sum standing op left (expression_closed (operand_standing standing op) left parts.0 l)))
        (λ r. right_part standing op left right size ty line g.0 parts.0 (part_of_sum standing op right (expression_closed (operand_standing standing op) right parts.1 r)))
        (or_cases (is_closed left) (is_closed right) c)
    expression_closed standing (tree.Constant value line) h c = absurd (false≢true c)
    expression_closed standing (tree.Read place ty line) h c = absurd (false≢true c)
    expression_closed standing (tree.Convert operand ty line) h c = absurd (false≢true c)
    expression_closed standing (tree.Cast operand ty line) h c = absurd (false≢true c)
    expression_closed standing (tree.Unary op operand ty line) h c = absurd (false≢true c)
    expression_closed standing (tree.Binary op left right ty line) h c = absurd (false≢true c)
    expression_closed standing (tree.Difference left right size line) h c = absurd (false≢true c)
    expression_closed standing (tree.Logical op left right line) h c = absurd (false≢true c)
    expression_closed standing (tree.Conditional condition chosen otherwise ty line) h c = absurd (false≢true c)
    expression_closed standing (tree.Comma left right ty line) h c = absurd (false≢true c)
    expression_closed standing (tree.Assign place value ty line) h c = absurd (false≢true c)
    expression_closed standing (tree.StructAssign place from size line) h c = absurd (false≢true c)
    expression_closed standing (tree.Update op place value operation size ty line) h c = absurd (false≢true c)
    expression_closed standing (tree.Step op place operation size ty line) h c = absurd (false≢true c)
    expression_closed standing (tree.Call function arguments ty line) h c = absurd (false≢true c)

  -- ---- what is used
  pub used_open : (e : Expression) → fits p f Used e ≡ true → is_closed e ≡ false
  used_open e h = ⊎_elim (λ c. absurd (not_used e (expression_closed Used e h c))) (λ n. n) (bool_cases (is_closed e))

  pub alone_open : (e : Expression) → fits p f Alone e ≡ true → is_closed e ≡ false
  alone_open e h = ⊎_elim (λ c. absurd (not_alone e (expression_closed Alone e h c))) (λ n. n) (bool_cases (is_closed e))

  -- a place that isn't const is open
  written_open : (place : Place) → place_fits p f place ≡ true → is_writable (place_type place) ≡ true → closed_place place ≡ false
  written_open place h w =
      ⊎_elim
      (λ c. let q : not (place_type place).constant ≡ false = ap not (place_closed place h c).1 in absurd (false≢true (sym q ∙ (and_parts _ _ w).0)))
      (λ n. n)
      (bool_cases (closed_place place))

  target_is : (begins : Bool) (place : Place) (from : Qualified) (size : ℕ) → place_fits p f place ≡ true → copy_fits p (begins && is_local_name place) (place_type place) from size ≡ true → IsTarget place
  target_is begins place from size h rule =
      ⊎_elim
      (λ b. inr (and_parts begins (is_local_name place) b).1)
      (λ w. inl (written_open place h w))
      (or_cases (begins && is_local_name place) (is_writable (place_type place)) (and_parts _ _ rule).0)

  -- ---- all parts
  mutual
    unfolding fits place_fits rule_holds

    pub all_open : (standing : Standing) (e : Expression) → fits p f standing e ≡ true → AllOpen e
    all_open standing (tree.Constant value line) h = tt
    all_open standing (tree.Read place ty line) h = places_open place (and_parts _ (place_fits p f place) h).1
    all_open standing (tree.Address place ty line) h = places_open place (and_parts _ (place_fits p f place) h).1
    all_open standing (tree.Convert operand ty line) h = (used_open operand (and_parts _ (fits p f Used operand) h).1, all_open Used operand (and_parts _ (fits p f Used operand) h).1)
    all_open standing (tree.Cast operand ty line) h = (used_open operand (and_parts _ (fits p f Used operand) h).1, all_open Used operand (and_parts _ (fits p f Used operand) h).1)
    all_open standing (tree.Unary op operand ty line) h = (used_open operand (and_parts _ (fits p f Used operand) h).1, all_open Used operand (and_parts _ (fits p f Used operand) h).1)
    all_open standing (tree.Binary op left right ty line) h = let g = and_parts (fits p f Used left) (fits p f Used right) (and_parts _ (fits p f Used left && fits p f Used right) h).1 in ((used_open left g.0, all_open Used left g.0), (used_open right g.1, all_open Used right g.1))
    all_open standing (tree.Offset op left right size ty line) h =
        let s = operand_standing standing op in
        let g = and_parts (fits p f s left) (fits p f s right) (and_parts _ (fits p f s left && fits p f s right) h).1 in
        (all_open s left g.0, all_open s right g.1)
    all_open standing (tree.Difference left right size line) h = let g = and_parts (fits p f Used left) (fits p f Used right) (and_parts _ (fits p f Used left && fits p f Used right) h).1 in ((used_open left g.0, all_open Used left g.0), (used_open right g.1, all_open Used right g.1))
    all_open standing (tree.Logical op left right line) h = let g = and_parts (fits p f Used left) (fits p f Used right) (and_parts _ (fits p f Used left && fits p f Used right) h).1 in ((used_open left g.0, all_open Used left g.0), (used_open right g.1, all_open Used right g.1))
    all_open standing (tree.Conditional condition chosen otherwise ty line) h =
        let g = and_parts (fits p f Used condition) (fits p f Used chosen && fits p f Used otherwise) (and_parts _ (fits p f Used condition && (fits p f Used chosen && fits p f Used otherwise)) h).1 in
        let d = and_parts (fits p f Used chosen) (fits p f Used otherwise) g.1 in
        ((used_open condition g.0, all_open Used condition g.0), (used_open chosen d.0, all_open Used chosen d.0), (used_open otherwise d.1, all_open Used otherwise d.1))
    all_open standing (tree.Comma left right ty line) h = let g = and_parts (fits p f Used left) (fits p f Used right) (and_parts _ (fits p f Used left && fits p f Used right) h).1 in ((used_open left g.0, all_open Used left g.0), (used_open right g.1, all_open Used right g.1))
    all_open standing (tree.Assign place value ty line) h =
        let g = and_parts _ (place_fits p f place && fits p f Used value) h in
        let d = and_parts (place_fits p f place) (fits p f Used value) g.1 in
        (written_open place d.0 (and_parts _ _ (and_parts (assign_fits (place_type place) ty) _ g.0).0).0, places_open place d.0, (used_open value d.1, all_open Used value d.1))
    all_open standing (tree.StructAssign place from size line) h =
        let g = and_parts _ (place_fits p f place && place_fits p f from) h in
        let d = and_parts (place_fits p f place) (place_fits p f from) g.1 in
        (target_is (is_alone standing) place (place_type from) size d.0 g.0, places_open place d.0, places_open from d.1)
    all_open standing (tree.Update op place value operation size ty line) h =
        let g = and_parts _ (place_fits p f place && fits p f Used value) h in
        let d = and_parts (place_fits p f place) (fits p f Used value) g.1 in
        (written_open place d.0 (and_parts _ _ (and_parts (assign_fits (place_type place) ty) _ g.0).0).0, places_open place d.0, (used_open value d.1, all_open Used value d.1))
    all_open standing (tree.Step op place operation size ty line) h =
        let g = and_parts _ (place_fits p f place) h in
        (written_open place g.1 (and_parts _ _ (and_parts (assign_fits (place_type place) ty) _ g.0).0).0, places_open place g.1)
    all_open standing (tree.Call function arguments ty line) h = arguments_open arguments _ (and_parts _ (arguments_fit p f arguments _) h).1

    arguments_open : (es : Expressions) (vs : List VariableTree) → arguments_fit p f es vs ≡ true → AreOpen es
    arguments_open tree.NoExpression vs h = tt
    arguments_open (tree.AndExpression e es) [] h = absurd (false≢true h)
    arguments_open (tree.AndExpression e es) (v ∷ vs) h =
        let g = and_parts (fits p f Used e) (arguments_fit p f es vs) (and_parts _ (fits p f Used e && arguments_fit p f es vs) h).1 in
        ((used_open e g.0, all_open Used e g.0), arguments_open es vs g.1)

    pub places_open : (place : Place) → place_fits p f place ≡ true → PlaceOpen place
    places_open (tree.Name object ty line) h = tt
    places_open (tree.Bit register bit line) h = tt
    places_open (tree.Member whole member offset ty line) h = places_open whole (and_parts _ (place_fits p f whole) h).1
    places_open (tree.Deref pointer ty line) h = all_open Pointed pointer (and_parts _ (fits p f Pointed pointer) h).1

  pub value_open : (e : Expression) → fits p f Used e ≡ true → UsedOpen e
  value_open e h = (used_open e h, all_open Used e h)

  pub alone_value_open : (e : Expression) → fits p f Alone e ≡ true → UsedOpen e
  alone_value_open e h = (alone_open e h, all_open Alone e h)
