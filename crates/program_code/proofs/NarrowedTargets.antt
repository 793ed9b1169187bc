-- Byte code with operators on low bytes calls the copies that it called before.
use Rattle.std.proofs.Common.{◌≡◌, ℕ, Bool, true, ◌&&◌, Some, refl, ap, ◌∙◌}
use Rattle.std.proofs.Math.Bool.{and_comm}
use Rattle.core_code.specs.Tree.{trees_of}
use Rattle.core_code.specs.View.{trees_in}
use Rattle.core_code.specs.declared.code.Body.{Body}
use Rattle.core_code.specs.declared.code.CoreProgram.{CoreProgram}
use Rattle.narrow_code.specs.Plans.{Whole, Low, Turned, Plan, Stays, Narrowed, Several, Choice, Repeat, Plans, NoPlan, AndPlan, given, made, all_given, all_made}
use Rattle.program_code.specs.Passed.{IsByteCode}
use Rattle.program_code.proofs.Bodies.{is_from}
use Rattle.select_wide.specs.Blocks.{body_at}
use Rattle.program_code.specs.Calling.{calls_below, all_below}

module _ (limit : ℕ) where
  mutual
    calls_alike : (t : Plan) → calls_below limit (made t) ≡ calls_below limit (given t)
    calls_alike (Stays t) = refl
    calls_alike (Narrowed op ty to left right) = refl
    calls_alike (Several ts) = all_alike ts
    calls_alike (Choice test size Whole first second) = ap (λ (b : Bool). b && calls_below limit (made second)) (calls_alike first) ∙ ap (λ (b : Bool). calls_below limit (given first) && b) (calls_alike second)
    calls_alike (Choice test size Low first second) = ap (λ (b : Bool). b && calls_below limit (made second)) (calls_alike first) ∙ ap (λ (b : Bool). calls_below limit (given first) && b) (calls_alike second)
    calls_alike (Choice test size Turned first second) = and_comm (calls_below limit (made second)) (calls_below limit (made first)) ∙ ap (λ (b : Bool). b && calls_below limit (made second)) (calls_alike first) ∙ ap (λ (b : Bool). calls_below limit (given first) && b) (calls_alike second)
    calls_alike (Repeat front behind body) = calls_alike body

    all_alike : (ts : Plans) → all_below limit (all_made ts) ≡ all_below limit (all_given ts)
    all_alike NoPlan = refl
    all_alike (AndPlan t ts) = ap (λ (b : Bool). b && all_below limit (all_made ts)) (calls_alike t) ∙ ap (λ (b : Bool). calls_below limit (given t) && b) (all_alike ts)

  pub narrower_below : (lowered core : CoreProgram) → IsByteCode lowered core → ((c : ℕ) (body : Body) → body_at lowered.bodies.items c ≡ Some body → all_below limit (trees_of (trees_in body.code.items)) ≡ true)
      → (c : ℕ) (body : Body) → body_at core.bodies.items c ≡ Some body → all_below limit (trees_of (trees_in body.code.items)) ≡ true
  narrower_below lowered core code all c body is =
      let from = is_from (λ ts. all_below limit ts ≡ true) (λ ps holds. all_alike ps ∙ holds) lowered core code c body is in
      from.keeps (all c from.given from.there)
