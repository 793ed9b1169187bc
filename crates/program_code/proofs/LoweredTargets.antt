-- Each body that is lowered calls copies that are there.
use Rattle.std.proofs.Common.{◌≡◌, ℕ, ◌+◌, inl, inr, Bool, true, false, nat_eq, nat_lt, if◌then◌else◌, List, [], ◌∷◌, length, map, Some, subst, ⊎_elim}
use Rattle.std.specs.Prelude.{slice_get}
use Rattle.std.proofs.lemmas.Option.{same_Some}
use Rattle.c_typed.specs.Trees.{Program}
use Rattle.c_typed.specs.declared.calls.FnId.{FnId}
use Rattle.c_typed.specs.declared.calls.FnId.TheVariants.{User, Helper}
use Rattle.call_graph.specs.declared.types.FnCopy.{FnCopy}
use Rattle.core_code.specs.Tree.{trees_of}
use Rattle.core_code.specs.View.{trees_in}
use Rattle.core_code.specs.declared.code.Body.{Body}
use Rattle.lower_stmt.specs.Bodies.{BodyTree, body_of, bodies_for, bodies_from, bodies_of}
use Rattle.pic_world.specs.declared.Root.{Root}
use Rattle.select_wide.specs.Blocks.{body_at}
use Rattle.program_code.specs.Calling.{all_below}
use Rattle.program_code.proofs.TargetMembers.{Has, has_either, map_has}
use Rattle.program_code.proofs.StatementTargets.{body_below}

body_has : (bodies : List Body) (c : ℕ) (body : Body) → body_at bodies c ≡ Some body → Has bodies body
body_has [] c body is = absurd (cc)
body_has (x ∷ bodies) c body is = by (nat_eq x.copy c) is (body_has bodies c body) where
  by : (t : Bool) → (if t then Some x else body_at bodies c) ≡ Some body → (body_at bodies c ≡ Some body → Has bodies body) → Has (x ∷ bodies) body
  by true e below = inl (same_Some x body e)
  by false e below = inr (below e)

module _ (p : Program) (copies : List FnCopy) (some : nat_lt 0 (length copies) ≡ true) where
  abbrev Below : BodyTree → Type 0
  Below t = all_below (length copies) (trees_of t.code) ≡ true

  one_below : (number : ℕ) (root : Root) (f : FnId) (t : BodyTree) → Has (bodies_for p copies number root f) t → Below t
  one_below number root (User f) t (inl e) = subst Below e (body_below p copies number root (slice_get p.functions f) some)
  one_below number root (User f) t (inr h) = absurd h
  one_below number root (Helper h) t has = absurd has

  from_below : (number : ℕ) (list : List FnCopy) (t : BodyTree) → Has (bodies_from p copies number list) t → Below t
  from_below number [] t h = absurd h
  from_below number (copy ∷ list) t h =
      ⊎_elim (λ l. one_below number copy.root copy.function t l) (λ r. from_below (number + 1) list t r)
      (has_either (bodies_for p copies number copy.root copy.function) (bodies_from p copies (number + 1) list) t h)

  pub each_below : (bodies : List Body) → map body_of bodies ≡ bodies_of p copies → (c : ℕ) (body : Body) → body_at bodies c ≡ Some body → all_below (length copies) (trees_of (trees_in body.code.items)) ≡ true
  each_below bodies lowered c body is = from_below 0 copies (body_of body) (subst (λ (bs : List BodyTree). Has bs (body_of body)) lowered (map_has body_of bodies body (body_has bodies c body is)))
