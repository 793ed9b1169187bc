-- What is read is a tree that spells the tokens taken, however many brackets may be entered.
use Rattle.std.proofs.Common.{ℕ, zero, suc}
use Rattle.c_nodes.specs.Trees.{spelled, spelled_specs, spelled_declarator, IsTree, AreSpecs, IsDeclarator}
use Rattle.parse_expr.specs.Reading.{cond_by, assign_by, expr_by, specs_by, declarator_by, at}
use Rattle.parse_expr.proofs.Knots.{Sound, SoundInner, IsCond, IsAssign}
use Rattle.parse_expr.proofs.TakesOperators.{cond_by_takes, assign_by_takes, expr_by_takes}
use Rattle.parse_expr.proofs.TakesDeclarators.{specs_by_take, type_name_by_takes, declarator_by_takes, members_by_take, params_by_take}
use Rattle.parse_expr.proofs.TakesEnumerations.{enumerators_by_take}

pub at_sound : (n : ℕ) → SoundInner (at n)
unfolding at
at_sound zero = record { expr = λ toks plain x e. absurd cc; size = λ toks plain x e. absurd cc; type_name = λ toks plain x e. absurd cc; members = λ toks plain x e. absurd cc; params = λ toks plain x e. absurd cc; enumerators = λ toks plain x e. absurd cc }
at_sound (suc n) =
    let inner = at_sound n in
    record { expr = expr_by_takes (at n) inner; size = cond_by_takes (at n) inner; type_name = type_name_by_takes (at n) inner; members = members_by_take (at n) inner; params = params_by_take (at n) inner; enumerators = enumerators_by_take (at n) inner }

pub expr_takes : (n : ℕ) → Sound spelled IsTree (expr_by (at n))
expr_takes n = expr_by_takes (at n) (at_sound n)

pub assign_takes : (n : ℕ) → Sound spelled IsAssign (assign_by (at n))
assign_takes n = assign_by_takes (at n) (at_sound n)

pub cond_takes : (n : ℕ) → Sound spelled IsCond (cond_by (at n))
cond_takes n = cond_by_takes (at n) (at_sound n)

pub specs_takes : (n : ℕ) → Sound spelled_specs AreSpecs (specs_by (at n))
specs_takes n = specs_by_take (at n) (at_sound n)

pub declarator_takes : (n : ℕ) → Sound spelled_declarator IsDeclarator (declarator_by (at n))
declarator_takes n = declarator_by_takes (at n) (at_sound n)
