-- Each copy of a function has its body, by its number.
use Rattle.std.proofs.Common.{◌≡◌, ℕ, zero, suc, ◌+◌, ◌⊎◌, inl, inr, Bool, true, false, nat_eq, if◌then◌else◌, List, [], ◌∷◌, ◌++◌, map, Option, Some, None, refl, sym, ap, ◌∙◌, subst, ⊎_elim, arith}
use Rattle.std.specs.Prelude.{slice_get}
use Rattle.std.proofs.lemmas.Bool.{eqb-true, eq-eqb}
use Rattle.c_typed.specs.Trees.{FunctionTree, Program}
use Rattle.c_typed.specs.declared.calls.FnId.{FnId}
use Rattle.c_typed.specs.declared.calls.FnId.TheVariants.{User, Helper}
use Rattle.call_graph.specs.declared.types.FnCopy.{FnCopy}
use Rattle.core_code.specs.Tree as core
use Rattle.core_code.specs.Tree.{Tree, trees_of}
use Rattle.core_code.specs.View.{trees_in}
use Rattle.core_code.specs.declared.code.Body.{Body}
use Rattle.lower_stmt.specs.Bodies.{BodyTree, body_of, code_of, bodies_for, bodies_from, bodies_of}
use Rattle.lower_stmt.specs.Frames.{ground_for}
use Rattle.lower_stmt.specs.Jumps.{outside}
use Rattle.lower_stmt.specs.Programs.{body_for, body_in, root_in, core_of}
use Rattle.lower_stmt.specs.Statements.{stmts_code}
use Rattle.pic_world.specs.declared.Root.{Root}
use Rattle.src_rules.specs.Parts.{IsRunnable}
use Rattle.select_wide.specs.Blocks.{is_user, body_at}
use Rattle.select_wide.specs.Links.{IsBody}
use Rattle.headline_trace.specs.Linked.{code_at}
use Rattle.headline_trace.specs.Plain.{all_given}
use Rattle.headline_trace.proofs.Blocks.{some_back}
use Rattle.headline_trace.proofs.Members.{Has, has_left, has_right, has_either, has_map, map_has}
use Rattle.headline_trace.proofs.Stated.{body_given, body_sets}

abbrev tree_for : Program → List FnCopy → ℕ → Root → FnId → BodyTree
tree_for p copies number root function = record { copy = number; root = root; code = body_for p copies number root function }

module _ (p : Program) (copies : List FnCopy) where
  -- what a body is of
  pub record IsBodyOf (from : ℕ) (list : List FnCopy) (body : BodyTree) : Type 0 where
    pub place : ℕ
    pub copy : FnCopy
    pub there : slice_get list place ≡ Some copy
    pub is : body ≡ tree_for p copies (from + place) copy.root copy.function

  first_of : (from : ℕ) (copy : FnCopy) (list : List FnCopy) (body : BodyTree) → body ≡ tree_for p copies from copy.root copy.function → IsBodyOf from (copy ∷ list) body
  first_of from copy list body e =
      let z : from ≡ from + 0 = omega arith in
      record { place = 0; copy = copy; there = refl; is = e ∙ ap (λ n. tree_for p copies n copy.root copy.function) z }

  later_of : (from : ℕ) (copy : FnCopy) (list : List FnCopy) (body : BodyTree) → IsBodyOf (from + 1) list body → IsBodyOf from (copy ∷ list) body
  later_of from copy list body o =
      let z : from + 1 + o.place ≡ from + suc o.place = omega arith in
      record { place = suc o.place; copy = o.copy; there = o.there; is = o.is ∙ ap (λ n. tree_for p copies n o.copy.root o.copy.function) z }

  of_entry : (from : ℕ) (root : Root) (f : FnId) (body : BodyTree) → Has (bodies_for p copies from root f) body → body ≡ tree_for p copies from root f
  of_entry from root (User f) body (inl e) = sym e
  of_entry from root (User f) body (inr h) = absurd h
  of_entry from root (Helper h) body has = absurd has

  of_bodies : (from : ℕ) (list : List FnCopy) (body : BodyTree) → Has (bodies_from p copies from list) body → IsBodyOf from list body
  of_bodies from [] body h = absurd h
  of_bodies from (copy ∷ list) body h =
      ⊎_elim (λ l. first_of from copy list body (of_entry from copy.root copy.function body l)) (λ r. later_of from copy list body (of_bodies (from + 1) list body r))
      (has_either (bodies_for p copies from copy.root copy.function) (bodies_from p copies (from + 1) list) body h)

  entry_of : (from : ℕ) (root : Root) (f : FnId) → is_user f ≡ true → Has (bodies_for p copies from root f) (tree_for p copies from root f)
  entry_of from root (User f) user = inl refl
  entry_of from root (Helper h) user = absurd (cc)

  has_body : (from : ℕ) (list : List FnCopy) (i : ℕ) (copy : FnCopy) → slice_get list i ≡ Some copy → is_user copy.function ≡ true
      → Has (bodies_from p copies from list) (tree_for p copies (from + i) copy.root copy.function)
  has_body from [] i copy is user = absurd (cc)
  has_body from (x ∷ list) zero copy is user =
      let z : from ≡ from + 0 = omega arith in
      let same : copy ≡ x = sym (some_back x copy is) in
      subst (λ n. Has (bodies_from p copies from (x ∷ list)) (tree_for p copies n copy.root copy.function)) z
      (subst (λ (c : FnCopy). Has (bodies_from p copies from (x ∷ list)) (tree_for p copies from c.root c.function)) (sym same)
      (has_left _ _ _ (entry_of from x.root x.function (subst (λ (c : FnCopy). is_user c.function ≡ true) same user))))
  has_body from (x ∷ list) (suc i) copy is user =
      let z : from + 1 + i ≡ from + suc i = omega arith in
      subst (λ n. Has (bodies_from p copies from (x ∷ list)) (tree_for p copies n copy.root copy.function)) z (has_right _ _ _ (has_body (from + 1) list i copy is user))

-- ---- the first body of a number
record IsFound (bodies : List Body) (c : ℕ) : Type 0 where
  body : Body
  there : body_at bodies c ≡ Some body
  among : Has bodies body
  number : body.copy ≡ c

found_in : (bodies : List Body) (c : ℕ) (b : Body) → Has bodies b → b.copy ≡ c → IsFound bodies c
found_in [] c b has is = absurd has
found_in (x ∷ bodies) c b has is = by (nat_eq x.copy c) refl has (λ h. found_in bodies c b h is) where
  later : nat_eq x.copy c ≡ false → IsFound bodies c → IsFound (x ∷ bodies) c
  later e found = record { body = found.body; there = ap (λ t. if t then Some x else body_at bodies c) e ∙ found.there; among = inr found.among; number = found.number }

  by : (t : Bool) → nat_eq x.copy c ≡ t → Has (x ∷ bodies) b → (Has bodies b → IsFound bodies c) → IsFound (x ∷ bodies) c
  by true e h below = record { body = x; there = ap (λ t. if t then Some x else body_at bodies c) e; among = inl refl; number = eqb-true x.copy c e }
  by false e (inl same) below = let f = sym e ∙ ap (λ (y : Body). nat_eq y.copy c) same ∙ eq-eqb b.copy c is in absurd (cc)
  by false e (inr h) below = later e (below h)

at_is : (bodies : List Body) (c : ℕ) (body : Body) → body_at bodies c ≡ Some body → Has bodies body
at_is [] c body is = absurd (cc)
at_is (x ∷ bodies) c body is = by (nat_eq x.copy c) is (at_is bodies c body) where
  some_body : (y z : Body) → Some y ≡ Some z → y ≡ z
  some_body y z e = ap or_y e where
    or_y : Option Body → Body
    or_y None = y
    or_y (Some w) = w

  by : (t : Bool) → (if t then Some x else body_at bodies c) ≡ Some body → (body_at bodies c ≡ Some body → Has bodies body) → Has (x ∷ bodies) body
  by true e below = inl (some_body x body e)
  by false e below = inr (below e)

at_number : (bodies : List Body) (c : ℕ) (body : Body) → body_at bodies c ≡ Some body → body.copy ≡ c
at_number [] c body is = absurd (cc)
at_number (x ∷ bodies) c body is = by (nat_eq x.copy c) refl is (at_number bodies c body) where
  number_or : ℕ → Option Body → ℕ
  number_or n None = n
  number_or n (Some y) = y.copy

  by : (t : Bool) → nat_eq x.copy c ≡ t → (if t then Some x else body_at bodies c) ≡ Some body → (body_at bodies c ≡ Some body → body.copy ≡ c) → body.copy ≡ c
  by true e at below = sym (ap (number_or 0) at) ∙ eqb-true x.copy c e
  by false e at below = below at

-- ---- the end of a body
record Ends (list : List Tree) : Type 0 where
  front : List Tree
  is : list ≡ front ++ core.Leave ∷ []

ends_code : (p : Program) (copies : List FnCopy) (c : ℕ) (root : Root) (o : Option FunctionTree) → Ends (code_of p copies c root o)
ends_code p copies c root None = record { front = []; is = refl }
ends_code p copies c root (Some f) = record { front = stmts_code (ground_for p copies c root f) outside f.body; is = refl }

ends_for : (p : Program) (copies : List FnCopy) (c : ℕ) (root : Root) (f : FnId) → is_user f ≡ true → Ends (body_for p copies c root f)
ends_for p copies c root (User f) user = ends_code p copies c root (slice_get p.functions f)
ends_for p copies c root (Helper h) user = absurd (cc)

-- a body ends by leaving, or is a helper's, which has no byte code
abbrev pub EndsOrNone : List Tree → Type 0
EndsOrNone list = (list ≡ []) ⊎ ((front : List Tree) × (list ≡ front ++ core.Leave ∷ []))

ends_any : (p : Program) (copies : List FnCopy) (c : ℕ) (root : Root) (f : FnId) → EndsOrNone (body_for p copies c root f)
ends_any p copies c root (User f) = let e = ends_code p copies c root (slice_get p.functions f) in inr (e.front, e.is)
ends_any p copies c root (Helper h) = inl refl

module _ (p : Program) (copies : List FnCopy) (runs : IsRunnable p) (bodies : List Body) (lowered : map body_of bodies ≡ bodies_of p copies) where
  of_body : (body : Body) → Has bodies body → IsBodyOf p copies 0 copies (body_of body)
  of_body body has = of_bodies p copies 0 copies (body_of body) (subst (λ bs. Has bs (body_of body)) lowered (map_has body_of bodies body has))

  -- byte code of each body is given
  pub each_given : (c : ℕ) (body : Body) → body_at bodies c ≡ Some body → all_given (trees_of (trees_in body.code.items)) ≡ true
  each_given c body is =
      let o = of_body body (at_is bodies c body is) in
      ap (λ (t : BodyTree). all_given (trees_of t.code)) o.is ∙ body_given p copies runs (0 + o.place) (Some o.copy)

  pub each_ends : (c : ℕ) (body : Body) → body_at bodies c ≡ Some body → EndsOrNone (trees_in body.code.items)
  each_ends c body is =
      let o = of_body body (at_is bodies c body is) in
      let code : trees_in body.code.items ≡ body_for p copies (0 + o.place) o.copy.root o.copy.function = ap (λ (t : BodyTree). t.code) o.is in
      subst (λ (list : List Tree). EndsOrNone list) (sym code) (ends_any p copies (0 + o.place) o.copy.root o.copy.function)

  -- .. and the body of a copy is that of its number, and ends by leaving
  pub body_there : (c : ℕ) (copy : FnCopy) → slice_get copies c ≡ Some copy → is_user copy.function ≡ true → IsBody (core_of p copies) bodies c
  unfolding core_of
  body_there c copy is user =
      let view = has_map body_of bodies (tree_for p copies (0 + c) copy.root copy.function)
      (subst (λ bs. Has bs (tree_for p copies (0 + c) copy.root copy.function)) (sym lowered) (has_body p copies 0 copies c copy is user)) in
      let z : 0 + c ≡ c = omega arith in
      let found = found_in bodies c view.0 view.1 (ap (λ (t : BodyTree). t.copy) view.2 ∙ z) in
      let o = of_body found.body found.among in
      let number : 0 + o.place ≡ c = sym (ap (λ (t : BodyTree). t.copy) o.is) ∙ found.number in
      let place : o.place ≡ c = omega arith in
      let same : copy ≡ o.copy = some_back copy o.copy (sym is ∙ ap (slice_get copies) (sym place) ∙ o.there) in
      let tree : body_of found.body ≡ tree_for p copies c copy.root copy.function =
      o.is ∙ ap (λ n. tree_for p copies n o.copy.root o.copy.function) number ∙ ap (λ (x : FnCopy). tree_for p copies c x.root x.function) (sym same) in
      let code : body_in p copies c (slice_get copies c) ≡ body_for p copies c copy.root copy.function = ap (body_in p copies c) is in
      let ends = ends_for p copies c copy.root copy.function user in
      record {
        body = found.body;
        there = found.there;
        code = code ∙ sym (ap (λ (t : BodyTree). t.code) tree);
        root = ap root_in is ∙ sym (ap (λ (t : BodyTree). t.root) tree);
        front = ends.front;
        leaves = code ∙ ends.is;
        bytes = body_sets p copies runs c (slice_get copies c);
      }

  -- .. and so is the code of each number, where a helper has none
  pub code_there : (c : ℕ) → (core_of p copies).body c ≡ code_at (body_at bodies c)
  unfolding core_of
  code_there c = by (body_at bodies c) refl where
    of_one : (body : Body) → body_at bodies c ≡ Some body → body_in p copies c (slice_get copies c) ≡ trees_in body.code.items
    of_one body at =
        let o = of_body body (at_is bodies c body at) in
        let number : 0 + o.place ≡ c = sym (ap (λ (t : BodyTree). t.copy) o.is) ∙ at_number bodies c body at in
        let place : o.place ≡ c = omega arith in
        let there : slice_get copies c ≡ Some o.copy = ap (slice_get copies) (sym place) ∙ o.there in
        ap (body_in p copies c) there ∙ ap (λ n. body_for p copies n o.copy.root o.copy.function) (sym number) ∙ sym (ap (λ (t : BodyTree). t.code) o.is)

    of_function : (copy : FnCopy) (f : FnId) → copy.function ≡ f → slice_get copies c ≡ Some copy → body_at bodies c ≡ None → body_for p copies c copy.root f ≡ []
    of_function copy (User f) is there at = let b = body_there c copy there (ap is_user is) in let e = sym at ∙ b.there in absurd (cc)
    of_function copy (Helper h) is there at = refl

    of_none : (o : Option FnCopy) → slice_get copies c ≡ o → body_at bodies c ≡ None → body_in p copies c o ≡ []
    of_none None is at = refl
    of_none (Some copy) is at = of_function copy copy.function refl is at

    by : (o : Option Body) → body_at bodies c ≡ o → body_in p copies c (slice_get copies c) ≡ code_at o
    by None at = of_none (slice_get copies c) refl at
    by (Some body) at = of_one body at
