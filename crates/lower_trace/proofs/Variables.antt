-- Where variables lie in the frame of a copy: one behind the other, as in the source, and below the temporary bytes.
use Rattle.std.proofs.Common.{◌≡◌, ℕ, zero, suc, ◌+◌, ◌<◌, ◌≤◌, inl, inr, Bool, true, false, ◌&&◌, nat_eq, List, [], ◌∷◌, ◌++◌, length, Option, Some, None, slice_get, slice_index, take, refl, sym, ap, ◌∙◌, subst, ⊎_elim, arith}
use Rattle.std.proofs.lemmas.Bool.{cases_lt}
use Rattle.std.proofs.lemmas.Option.{same_Some}
use Rattle.c_typed.specs.Room.{variables_bytes, frame_size}
use Rattle.c_typed.specs.Trees.{FunctionTree, VariableTree}
use Rattle.c_typed.specs.Types.{type_bytes}
use Rattle.lower_stmt.specs.Frames.{offsets_from, end_from, base_of}
use Rattle.src_values.specs.Objects.{variables_of, bytes_of_variable}
use Rattle.lower_trace.proofs.Operations.{beyond_is}
use Rattle.lower_trace.proofs.Written.{nat_same, nat_apart, and_false}

-- ---- sums of bytes
pub joined_bytes : (sizes : List ℕ) (vs us : List VariableTree) → variables_bytes sizes (vs ++ us) ≡ variables_bytes sizes vs + variables_bytes sizes us
joined_bytes sizes [] us = omega arith
joined_bytes sizes (v ∷ vs) us = let e = joined_bytes sizes vs us in omega (arith, e)

-- a variable lies in front of all later ones
pub before_later : (sizes : List ℕ) (vs : List VariableTree) (i j : ℕ) (v : VariableTree) → slice_get vs i ≡ Some v → i < j → variables_bytes sizes (take i vs) + type_bytes sizes v.ty.ty ≤ variables_bytes sizes (take j vs)
before_later sizes [] i j v e lt = absurd (cc)
before_later sizes (u ∷ vs) zero zero v e lt = absurd (omega arith)
before_later sizes (u ∷ vs) zero (suc j) v e lt = let s : type_bytes sizes u.ty.ty ≡ type_bytes sizes v.ty.ty = ap (λ (x : VariableTree). type_bytes sizes x.ty.ty) (same_Some u v e) in omega (arith, s)
before_later sizes (u ∷ vs) (suc i) zero v e lt = absurd (omega arith)
before_later sizes (u ∷ vs) (suc i) (suc j) v e lt = let r = before_later sizes vs i j v e (omega (arith, lt)) in omega (arith, r)

-- and all lie in the whole
pub in_all : (sizes : List ℕ) (vs : List VariableTree) (i : ℕ) (v : VariableTree) → slice_get vs i ≡ Some v → variables_bytes sizes (take i vs) + type_bytes sizes v.ty.ty ≤ variables_bytes sizes vs
in_all sizes [] i v e = absurd (cc)
in_all sizes (u ∷ vs) zero v e = let s : type_bytes sizes u.ty.ty ≡ type_bytes sizes v.ty.ty = ap (λ (x : VariableTree). type_bytes sizes x.ty.ty) (same_Some u v e) in omega (arith, s)
in_all sizes (u ∷ vs) (suc i) v e = let r = in_all sizes vs i v e in omega (arith, r)

pub take_left : (sizes : List ℕ) (vs us : List VariableTree) (i : ℕ) → i < length vs → variables_bytes sizes (take i (vs ++ us)) ≡ variables_bytes sizes (take i vs)
take_left sizes [] us i lt = absurd (omega arith)
take_left sizes (v ∷ vs) us zero lt = refl
take_left sizes (v ∷ vs) us (suc i) lt = ap (λ n. type_bytes sizes v.ty.ty + n) (take_left sizes vs us i (omega (arith, lt)))

pub take_right : (sizes : List ℕ) (vs us : List VariableTree) (i : ℕ) → variables_bytes sizes (take (length vs + i) (vs ++ us)) ≡ variables_bytes sizes vs + variables_bytes sizes (take i us)
take_right sizes [] us i = let e : 0 + i ≡ i = omega arith in ap (λ n. variables_bytes sizes (take n us)) e ∙ (omega arith)
take_right sizes (v ∷ vs) us i =
    let e : suc (length vs) + i ≡ suc (length vs + i) = omega arith in
    let r = take_right sizes vs us i in
    ap (λ n. variables_bytes sizes (take n (v ∷ (vs ++ us)))) e ∙ (omega (arith, r))

-- ---- the offsets of byte code
pub end_is : (sizes : List ℕ) (at : ℕ) (vs : List VariableTree) → at + variables_bytes sizes vs ≤ 65535 → end_from sizes at vs ≡ at + variables_bytes sizes vs
end_is sizes at [] le = omega arith
end_is sizes at (v ∷ vs) le =
    let b = beyond_is at (type_bytes sizes v.ty.ty) (omega (arith, le)) in
    let r = end_is sizes (at + type_bytes sizes v.ty.ty) vs (omega (arith, le)) in
    ap (λ n. end_from sizes n vs) b ∙ r ∙ (omega arith)

pub offset_is : (sizes : List ℕ) (at : ℕ) (vs : List VariableTree) (i : ℕ) → i < length vs → at + variables_bytes sizes vs ≤ 65535 → slice_index (offsets_from sizes at vs) i ≡ at + variables_bytes sizes (take i vs)
offset_is sizes at [] i lt le = absurd (omega arith)
offset_is sizes at (v ∷ vs) zero lt le = omega arith
offset_is sizes at (v ∷ vs) (suc i) lt le =
    let b = beyond_is at (type_bytes sizes v.ty.ty) (omega (arith, le)) in
    let r = offset_is sizes (at + type_bytes sizes v.ty.ty) vs i (omega (arith, lt)) (omega (arith, le)) in
    ap (λ n. slice_index (offsets_from sizes n vs) i) b ∙ r ∙ (omega arith)

pub base_is : (sizes : List ℕ) (f : FunctionTree) → frame_size sizes f ≤ 65535 → base_of sizes f ≡ variables_bytes sizes f.params + variables_bytes sizes f.locals
base_is sizes f le =
    let a = end_is sizes 0 f.params (omega (arith, le)) in
    let b = end_is sizes (0 + variables_bytes sizes f.params) f.locals (omega (arith, le)) in
    ap (λ n. end_from sizes n f.locals) a ∙ b ∙ (omega arith)

pub params_is : (sizes : List ℕ) (f : FunctionTree) (i : ℕ) → frame_size sizes f ≤ 65535 → i < length f.params → slice_index (offsets_from sizes 0 f.params) i ≡ variables_bytes sizes (take i (variables_of f)) + 0
params_is sizes f i le lt =
    let o = offset_is sizes 0 f.params i lt (omega (arith, le)) in
    let t = take_left sizes f.params f.locals i lt in
    omega (arith, o, t)

pub locals_is : (sizes : List ℕ) (f : FunctionTree) (i : ℕ) → frame_size sizes f ≤ 65535 → i < length f.locals → slice_index (offsets_from sizes (end_from sizes 0 f.params) f.locals) i ≡ variables_bytes sizes (take (length f.params + i) (variables_of f)) + 0
locals_is sizes f i le lt =
    let a = end_is sizes 0 f.params (omega (arith, le)) in
    let o = offset_is sizes (0 + variables_bytes sizes f.params) f.locals i lt (omega (arith, le)) in
    let t = take_right sizes f.params f.locals i in
    ap (λ n. slice_index (offsets_from sizes n f.locals) i) a ∙ (omega (arith, o, t))

-- ---- bytes of variables
-- a byte of a variable that is there
pub record IsIn (sizes : List ℕ) (vs : List VariableTree) (i at : ℕ) : Type 0 where
  pub variable : VariableTree
  pub there : slice_get vs i ≡ Some variable
  pub inside : at < type_bytes sizes variable.ty.ty

pub is_in : (sizes : List ℕ) (vs : List VariableTree) (i at : ℕ) → at < bytes_of_variable sizes (slice_get vs i) → IsIn sizes vs i at
is_in sizes vs i at lt = by (slice_get vs i) refl lt where
  by : (o : Option VariableTree) → slice_get vs i ≡ o → at < bytes_of_variable sizes o → IsIn sizes vs i at
  by None e lt = absurd (omega arith)
  by (Some v) e lt = record { variable = v; there = e; inside = lt }

-- all bytes of a variable lie in the variables' bytes
pub in_frame : (sizes : List ℕ) (vs : List VariableTree) (i : ℕ) → i < length vs → variables_bytes sizes (take i vs) + bytes_of_variable sizes (slice_get vs i) ≤ variables_bytes sizes vs
in_frame sizes [] i lt = absurd (omega arith)
in_frame sizes (v ∷ vs) zero lt = omega arith
in_frame sizes (v ∷ vs) (suc i) lt = let r = in_frame sizes vs i (omega (arith, lt)) in omega (arith, r)

same_shifted : (a i j : ℕ) → nat_eq (a + i) (a + j) ≡ nat_eq i j
same_shifted a i j =
    ⊎_elim (λ less. nat_apart (a + i) (a + j) (inl (omega arith)) ∙ sym (nat_apart i j (inl less)))
    (λ ge.
    ⊎_elim (λ more. nat_apart (a + i) (a + j) (inr (omega arith)) ∙ sym (nat_apart i j (inr more)))
    (λ le. let e : i ≡ j = omega arith in ap (λ n. nat_eq (a + i) (a + n)) (sym e) ∙ nat_same (a + i) ∙ sym (nat_same i) ∙ ap (nat_eq i) e)
    (cases_lt j i))
    (cases_lt i j)

-- two bytes are at one offset where they are one byte of one variable
pub same_variable : (sizes : List ℕ) (vs : List VariableTree) (x y i j : ℕ) → IsIn sizes vs x i → IsIn sizes vs y j → nat_eq (variables_bytes sizes (take x vs) + i) (variables_bytes sizes (take y vs) + j) ≡ (nat_eq x y && nat_eq i j)
same_variable sizes vs x y i j a b =
    let ai = a.inside in
    let bi = b.inside in
    ⊎_elim
    (λ less.
    let l = before_later sizes vs x y a.variable a.there less in
    nat_apart (variables_bytes sizes (take x vs) + i) (variables_bytes sizes (take y vs) + j) (inl (omega (arith, l, ai))) ∙ sym (ap (λ t. t && nat_eq i j) (nat_apart x y (inl less))))
    (λ ge.
    ⊎_elim
    (λ more.
    let l = before_later sizes vs y x b.variable b.there more in
    nat_apart (variables_bytes sizes (take x vs) + i) (variables_bytes sizes (take y vs) + j) (inr (omega (arith, l, bi))) ∙ sym (ap (λ t. t && nat_eq i j) (nat_apart x y (inr more))))
    (λ le.
    let e : x ≡ y = omega (arith, ge, le) in
    ap (λ n. nat_eq (variables_bytes sizes (take x vs) + i) (variables_bytes sizes (take n vs) + j)) (sym e)
    ∙ same_shifted (variables_bytes sizes (take x vs)) i j
    ∙ sym (ap (λ t. t && nat_eq i j) (ap (nat_eq x) (sym e) ∙ nat_same x)))
    (cases_lt y x))
    (cases_lt x y)
