-- The bytes of values and places against the room that is counted for them.
use Rattle.std.proofs.Common.{◌≡◌, ℕ, zero, suc, ◌+◌, ◌^◌, ◌%◌, ◌≤◌, Bool, true, false, not, ◌&&◌, ◌||◌, nat_eq, nat_lt, if◌then◌else◌, List, [], ◌∷◌, map, Option, Some, None, slice_get, slice_index, refl, sym, ap, ◌∙◌, subst, eqb-true, arith}
use Rattle.std.proofs.lemmas.Option.{none-some, same_Some}
use Rattle.std.specs.List.{list_all}
use Rattle.c_ints.specs.declared.types.IntTy.TheVariants as int
use Rattle.c_ints.specs.declared.operators.UnOp.{UnOp}
use Rattle.c_ints.specs.declared.operators.UnOp.TheVariants as unop
use Rattle.c_typed.specs.Fits.{source_of, goes_to, keeps_from, is_memory, is_reached, leads_fits, sides_fit, is_side, is_indexed, rule_holds, member_at, fits, place_fits, Standing, Used}
use Rattle.c_typed.specs.Room.{room, unary_room}
use Rattle.c_typed.specs.Rules.{is_start, unary_fits, choice_fits, assign_fits, is_writable, integer_update_fits, moves_by, moves, integer_step_fits, counts_in, member_fits}
use Rattle.c_typed.specs.Sameness.{same_type, same_flag, is_scalar, is_plain_int, is_promoted, is_pointer, is_void, is_complete, is_the, pointed, element_of, members_in}
use Rattle.c_typed.specs.Sound.{type_is_there, has_bytes, members_fit, structure_fits, static_fits, local_fits, param_fits}
use Rattle.c_typed.specs.Trees as tree
use Rattle.c_typed.specs.Trees.{Expression, Place, MemberTree, StructureTree, VariableTree, StaticTree, FunctionTree, Program}
use Rattle.c_typed.specs.Types.{type_bytes, value_bytes, type_of, place_type, kept}
use Rattle.c_typed.specs.declared.types.Qualified.{Qualified}
use Rattle.c_typed.specs.declared.types.Ty.{Ty}
use Rattle.c_typed.specs.declared.types.Ty.TheVariants.{Void, Int, Pointer, Array, Struct}
use Rattle.program_code.proofs.Chain.{never}
use Rattle.program_code.proofs.Typing.{and_first, and_last, same_bytes}

-- ---- types
pub same_type_bytes : (sizes : List ℕ) (a b : Ty) → same_type a b ≡ true → type_bytes sizes a ≡ type_bytes sizes b
same_type_bytes sizes Void Void e = refl
same_type_bytes sizes Void (Int b) e = never e
same_type_bytes sizes Void (Pointer b) e = never e
same_type_bytes sizes Void (Array b n y) e = never e
same_type_bytes sizes Void (Struct b) e = never e
same_type_bytes sizes (Int a) Void e = never e
same_type_bytes sizes (Int a) (Int b) e = same_bytes a b e
same_type_bytes sizes (Int a) (Pointer b) e = never e
same_type_bytes sizes (Int a) (Array b n y) e = never e
same_type_bytes sizes (Int a) (Struct b) e = never e
same_type_bytes sizes (Pointer a) Void e = never e
same_type_bytes sizes (Pointer a) (Int b) e = never e
same_type_bytes sizes (Pointer a) (Pointer b) e = refl
same_type_bytes sizes (Pointer a) (Array b n y) e = never e
same_type_bytes sizes (Pointer a) (Struct b) e = never e
same_type_bytes sizes (Array a m x) Void e = never e
same_type_bytes sizes (Array a m x) (Int b) e = never e
same_type_bytes sizes (Array a m x) (Pointer b) e = never e
same_type_bytes sizes (Array a m x) (Array b n y) e = eqb-true x y (and_last (nat_eq m n) (nat_eq x y) (and_last (nat_eq a b) (nat_eq m n && nat_eq x y) e))
same_type_bytes sizes (Array a m x) (Struct b) e = never e
same_type_bytes sizes (Struct a) Void e = never e
same_type_bytes sizes (Struct a) (Int b) e = never e
same_type_bytes sizes (Struct a) (Pointer b) e = never e
same_type_bytes sizes (Struct a) (Array b n y) e = never e
same_type_bytes sizes (Struct a) (Struct b) e = ap (slice_index sizes) (eqb-true a b e)

-- an address is a pointer
no_start : {A : Type 0} (p : Program) (place : Qualified) (ty : Ty) (o : Option Qualified) (a : Bool) → pointed p ty ≡ None → (is_start p place ty o && a) ≡ true → A
no_start p place ty None a e h = never h
no_start p place ty (Some element) a e h = never (sym (ap (λ (t : Option Qualified). is_the t element && a) e) ∙ h)

pub address_two : (sizes : List ℕ) (p : Program) (standing : Standing) (memory reached : Bool) (place : Qualified) (ty : Ty) → leads_fits p standing memory reached place ty ≡ true → type_bytes sizes ty ≡ 2
address_two sizes p standing memory reached place (Pointer row) e = refl
address_two sizes p standing memory reached place Void e = no_start p place Void (element_of p place place.ty) (is_indexed standing || (reached || not place.constant)) refl e
address_two sizes p standing memory reached place (Int ty) e = no_start p place (Int ty) (element_of p place place.ty) (is_indexed standing || (reached || not place.constant)) refl e
address_two sizes p standing memory reached place (Array element count size) e = no_start p place (Array element count size) (element_of p place place.ty) (is_indexed standing || (reached || not place.constant)) refl e
address_two sizes p standing memory reached place (Struct number) e = no_start p place (Struct number) (element_of p place place.ty) (is_indexed standing || (reached || not place.constant)) refl e

unary_room_holds : (sizes : List ℕ) (op : UnOp) (from ty : Ty) (operand : ℕ) → unary_fits op from ty ≡ true → type_bytes sizes ty ≤ unary_room op operand (type_bytes sizes from) (type_bytes sizes ty)
unary_room_holds sizes unop.Plus from ty operand e = omega arith
unary_room_holds sizes unop.Minus from ty operand e = omega arith
unary_room_holds sizes unop.Not from ty operand e = omega arith
unary_room_holds sizes unop.Bang from ty operand e = let two = same_type_bytes sizes ty (Int int.Int) (and_last (is_scalar from) (is_plain_int ty) e) in omega (arith, two)

module _ (sizes : List ℕ) (p : Program) (f : FunctionTree) where
  pub assigned_same : (source : Option Ty) (value ty : Ty) → goes_to p source value ty ≡ true → same_type value ty ≡ true
  assigned_same source value ty h = and_first (same_type value ty) (keeps_from p source ty) (and_last (is_scalar ty) (same_type value ty && keeps_from p source ty) h)

  -- the bytes of a value are among those that its expression takes
  pub room_holds : (standing : Standing) (e : Expression) → fits p f standing e ≡ true → value_bytes sizes e ≤ room sizes e
  unfolding fits rule_holds room
  room_holds standing (tree.Constant value line) h = omega arith
  room_holds standing (tree.Read place ty line) h = omega arith
  room_holds standing (tree.Address place ty line) h =
      let two = address_two sizes p standing (is_memory place) (is_reached place) (place_type place) ty (and_first (rule_holds p standing (tree.Address place ty line)) (place_fits p f place) h) in
      omega (arith, two)
  room_holds standing (tree.Convert operand ty line) h = omega arith
  room_holds standing (tree.Cast operand ty line) h = omega arith
  room_holds standing (tree.Unary op operand ty line) h = unary_room_holds sizes op (type_of operand) ty (room sizes operand) (and_first (rule_holds p standing (tree.Unary op operand ty line)) (fits p f Used operand) h)
  room_holds standing (tree.Binary op left right ty line) h = omega arith
  room_holds standing (tree.Offset op left right size ty line) h = omega arith
  room_holds standing (tree.Difference left right size line) h = omega arith
  room_holds standing (tree.Logical op left right line) h = omega arith
  room_holds standing (tree.Conditional condition chosen otherwise ty line) h =
      let rule = rule_holds p standing (tree.Conditional condition chosen otherwise ty line) in
      let whole = is_scalar (type_of condition) in
      let sides = sides_fit (source_of chosen) (type_of chosen) (source_of otherwise) (type_of otherwise) ty in
      let inner = choice_fits (type_of chosen) (type_of otherwise) ty in
      let others = is_side (source_of chosen) ty && is_side (source_of otherwise) ty in
      let same = same_type_bytes sizes (type_of chosen) ty (and_first (same_type (type_of chosen) ty) (same_type (type_of otherwise) ty && (is_promoted ty || (is_pointer ty || is_void ty))) (and_first inner others (and_last whole sides (and_first rule (fits p f Used condition && (fits p f Used chosen && fits p f Used otherwise)) h)))) in
      let held = room_holds Used chosen (and_first (fits p f Used chosen) (fits p f Used otherwise) (and_last (fits p f Used condition) (fits p f Used chosen && fits p f Used otherwise) (and_last rule (fits p f Used condition && (fits p f Used chosen && fits p f Used otherwise)) h))) in
      omega (arith, same, held)
  room_holds standing (tree.Comma left right ty line) h =
      let rule = rule_holds p standing (tree.Comma left right ty line) in
      let same = same_type_bytes sizes (type_of right) ty (and_first rule (fits p f Used left && fits p f Used right) h) in
      let held = room_holds Used right (and_last (fits p f Used left) (fits p f Used right) (and_last rule (fits p f Used left && fits p f Used right) h)) in
      omega (arith, same, held)
  room_holds standing (tree.Assign place value ty line) h =
      let rule = rule_holds p standing (tree.Assign place value ty line) in
      let goes = goes_to p (source_of value) (type_of value) ty in
      let same = same_type_bytes sizes (type_of value) ty (assigned_same (source_of value) (type_of value) ty (and_last (assign_fits (place_type place) ty) goes (and_first rule (place_fits p f place && fits p f Used value) h))) in
      omega (arith, same)
  room_holds standing (tree.StructAssign place from size line) h = omega arith
  room_holds standing (tree.Update op place value operation size ty line) h =
      let rule = rule_holds p standing (tree.Update op place value operation size ty line) in
      let rest = (nat_eq size 0 && integer_update_fits op ty (type_of value) operation) || (moves_by op && (same_type operation ty && moves p ty (type_of value) size ty)) in
      let same = same_type_bytes sizes (place_type place).ty ty (and_last (is_writable (place_type place)) (same_type (place_type place).ty ty) (and_first (assign_fits (place_type place) ty) rest (and_first rule (place_fits p f place && fits p f Used value) h))) in
      omega (arith, same)
  room_holds standing (tree.Step op place operation size ty line) h =
      let rule = rule_holds p standing (tree.Step op place operation size ty line) in
      let rest = (nat_eq size 0 && integer_step_fits ty operation) || (same_type operation ty && counts_in p (pointed p ty) size) in
      let same = same_type_bytes sizes (place_type place).ty ty (and_last (is_writable (place_type place)) (same_type (place_type place).ty ty) (and_first (assign_fits (place_type place) ty) rest (and_first rule (place_fits p f place) h))) in
      omega (arith, same)
  room_holds standing (tree.Call function arguments ty line) h = omega arith

-- ---- members of structures
kept_below : (n size : ℕ) → size ≤ 65535 → kept n ≤ size → n ≤ size
kept_below n size l h = by_small (nat_lt n (2 ^ 40)) refl h
  where
    by_small : (b : Bool) → nat_lt n (2 ^ 40) ≡ b → (if b then n else n % 65536 + 2 ^ 40) ≤ size → n ≤ size
    by_small true e h = h
    by_small false e h = absurd (omega (arith, l, h))

members_from : (p : Program) (size before : ℕ) (ms : List MemberTree) → size ≤ 65535 → members_fit p size before ms ≡ true → before ≤ size
members_from p size before [] l h = let e = eqb-true before size h in omega (arith, e)
members_from p size before (m ∷ ms) l h =
    let next = kept (before + type_bytes p.sizes m.ty.ty) in
    let rest = members_fit p size next ms in
    let later = and_last (is_complete p m.ty.ty) rest (and_last (type_is_there p m.ty.ty) (is_complete p m.ty.ty && rest) (and_last (nat_eq m.offset before) (type_is_there p m.ty.ty && (is_complete p m.ty.ty && rest)) h)) in
    let low = kept_below (before + type_bytes p.sizes m.ty.ty) size l (members_from p size next ms l later) in
    omega (arith, low)

member_within : (p : Program) (size before : ℕ) (ms : List MemberTree) (k : ℕ) (m : MemberTree) → size ≤ 65535 → members_fit p size before ms ≡ true → slice_get ms k ≡ Some m → m.offset + type_bytes p.sizes m.ty.ty ≤ size
member_within p size before [] k m l h e = absurd (none-some m e)
member_within p size before (n ∷ ms) k m l h e = by_place k e (λ j f. member_within p size (kept (before + type_bytes p.sizes n.ty.ty)) ms j m l later f)
  where
    rest : Bool
    rest = members_fit p size (kept (before + type_bytes p.sizes n.ty.ty)) ms

    first : nat_eq n.offset before ≡ true
    first = and_first (nat_eq n.offset before) (type_is_there p n.ty.ty && (is_complete p n.ty.ty && members_fit p size (kept (before + type_bytes p.sizes n.ty.ty)) ms)) h

    later : members_fit p size (kept (before + type_bytes p.sizes n.ty.ty)) ms ≡ true
    later = and_last (is_complete p n.ty.ty) (members_fit p size (kept (before + type_bytes p.sizes n.ty.ty)) ms) (and_last (type_is_there p n.ty.ty) (is_complete p n.ty.ty && members_fit p size (kept (before + type_bytes p.sizes n.ty.ty)) ms) (and_last (nat_eq n.offset before) (type_is_there p n.ty.ty && (is_complete p n.ty.ty && members_fit p size (kept (before + type_bytes p.sizes n.ty.ty)) ms)) h))

    here : n.offset + type_bytes p.sizes n.ty.ty ≤ size
    here =
        let low = kept_below (before + type_bytes p.sizes n.ty.ty) size l (members_from p size (kept (before + type_bytes p.sizes n.ty.ty)) ms l later) in
        let at = eqb-true n.offset before first in
        omega (arith, low, at)

    by_place : (k : ℕ) → slice_get (n ∷ ms) k ≡ Some m → ((j : ℕ) → slice_get ms j ≡ Some m → m.offset + type_bytes p.sizes m.ty.ty ≤ size) → m.offset + type_bytes p.sizes m.ty.ty ≤ size
    by_place zero e g = subst (λ (x : MemberTree). x.offset + type_bytes p.sizes x.ty.ty ≤ size) (same_Some n m e) here
    by_place (suc j) e g = g j e

pub list_there : {A : Type 0} (test : A → Bool) (xs : List A) (k : ℕ) (x : A) → list_all test xs ≡ true → slice_get xs k ≡ Some x → test x ≡ true
list_there test [] k x h e = absurd (none-some x e)
list_there {A = A} test (y ∷ ys) zero x h e = subst (λ (z : A). test z ≡ true) (same_Some y x e) (and_first (test y) (list_all test ys) h)
list_there test (y ∷ ys) (suc k) x h e = list_there test ys k x (and_last (test y) (list_all test ys) h) e

size_there : (structures : List StructureTree) (n : ℕ) (s : StructureTree) → slice_get structures n ≡ Some s → slice_index (map (λ (x : StructureTree). x.size) structures) n ≡ s.size
size_there [] n s e = absurd (none-some s e)
size_there (x ∷ xs) zero s e = ap (λ (y : StructureTree). y.size) (same_Some x s e)
size_there (x ∷ xs) (suc k) s e = size_there xs k s e

-- ---- what programs keep: each structure's size is that of its members, and what is declared fits
pub record Keeps (p : Program) (f : FunctionTree) : Type 0 where
  pub sizes : p.sizes ≡ map (λ (s : StructureTree). s.size) p.structures
  pub structures : list_all (structure_fits p) p.structures ≡ true
  pub statics : list_all (static_fits p) p.statics ≡ true
  pub params : list_all (param_fits p) f.params ≡ true
  pub locals : list_all (local_fits p) f.locals ≡ true

module _ (p : Program) (f : FunctionTree) (has : Keeps p f) where
  -- a member lies within its structure
  in_structure : (o : Option StructureTree) (n : ℕ) (member offset : ℕ) (whole ty : Qualified) → slice_get p.structures n ≡ o → type_bytes p.sizes (Struct n) ≤ 65535 → member_fits (slice_get (members_in o) member) whole offset ty ≡ true → offset + type_bytes p.sizes ty.ty ≤ type_bytes p.sizes (Struct n)
  in_structure None n member offset whole ty there l h = never h
  in_structure (Some s) n member offset whole ty there l h = by_member (slice_get s.members member) refl h
    where
      size : type_bytes p.sizes (Struct n) ≡ s.size
      size = ap (λ (x : List ℕ). slice_index x n) has.sizes ∙ size_there p.structures n s there

      by_member : (o : Option MemberTree) → slice_get s.members member ≡ o → member_fits o whole offset ty ≡ true → offset + type_bytes p.sizes ty.ty ≤ type_bytes p.sizes (Struct n)
      by_member None e h = never h
      by_member (Some m) e h =
          let at = eqb-true m.offset offset (and_first (nat_eq m.offset offset) (same_type m.ty.ty ty.ty && (same_flag (m.ty.constant || whole.constant) ty.constant && same_flag (m.ty.volatile || whole.volatile) ty.volatile)) h) in
          let same = same_type_bytes p.sizes m.ty.ty ty.ty (and_first (same_type m.ty.ty ty.ty) (same_flag (m.ty.constant || whole.constant) ty.constant && same_flag (m.ty.volatile || whole.volatile) ty.volatile) (and_last (nat_eq m.offset offset) (same_type m.ty.ty ty.ty && (same_flag (m.ty.constant || whole.constant) ty.constant && same_flag (m.ty.volatile || whole.volatile) ty.volatile)) h)) in
          let is = size in
          let fits = and_last (has_bytes s.members s.size) (members_fit p s.size 0 s.members) (list_there (structure_fits p) p.structures n s has.structures there) in
          let inside = member_within p s.size 0 s.members member m (omega (arith, l, is)) fits e in
          omega (arith, at, same, is, inside)

  pub in_whole : (whole ty : Qualified) (member offset : ℕ) → type_bytes p.sizes whole.ty ≤ 65535 → member_fits (member_at p whole.ty member) whole offset ty ≡ true → offset + type_bytes p.sizes ty.ty ≤ type_bytes p.sizes whole.ty
  in_whole whole ty member offset l h = by_type whole.ty l h
    where
      by_type : (t : Ty) → type_bytes p.sizes t ≤ 65535 → member_fits (member_at p t member) whole offset ty ≡ true → offset + type_bytes p.sizes ty.ty ≤ type_bytes p.sizes t
      by_type (Struct n) l h = in_structure (slice_get p.structures n) n member offset whole ty refl l h
      by_type Void l h = never h
      by_type (Int t) l h = never h
      by_type (Pointer row) l h = never h
      by_type (Array element count size) l h = never h
