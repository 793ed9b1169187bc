-- An expression without a list of its own is what stands in it.
use Rattle.std.proofs.Common.{◌≡◌, ℕ, ◌==◌, true, [], Vec, Global, vec_len, length, map, refl, arith}
use Rattle.std.proofs.lemmas.Bool.{eqb-true}
use Rattle.std.proofs.lemmas.List.{nil_from_length}
use Rattle.c_nodes.specs.Views.{assign_of, binary_of, cond_of, expr_of}
use Rattle.c_nodes.specs.declared.expression.Assign.{Assign}
use Rattle.c_nodes.specs.declared.expression.Cond.{Cond}
use Rattle.c_nodes.specs.declared.expression.Expr.{Expr}
use Rattle.c_nodes.specs.declared.expression.Binary.TheViews.{out-Assign, out-Cond, out-Expr}
use Rattle.c_nodes.proofs.Shapes.{show_assign, show_cond, show_expr}

none_in : {X : Type 0} (v : Vec X Global) → (vec_len v == 0) ≡ true → v.items ≡ []
none_in v none = let same = v.ok.0 in let zero = eqb-true _ _ none in nil_from_length v.items (omega (arith, same, zero))

pub no_choice : (c : Cond) → (vec_len (out-Cond c).choices == 0) ≡ true → cond_of c ≡ binary_of (out-Cond c).last
no_choice c none = rw (show_cond c, none_in (out-Cond c).choices none) refl

pub no_target : (a : Assign) → (vec_len (out-Assign a).targets == 0) ≡ true → assign_of a ≡ cond_of (out-Assign a).value
no_target a none = rw (show_assign a, none_in (out-Assign a).targets none) refl

pub no_comma : (e : Expr) → (vec_len (out-Expr e).others == 0) ≡ true → expr_of e ≡ assign_of (out-Expr e).first
no_comma e none = rw (show_expr e, none_in (out-Expr e).others none) refl
