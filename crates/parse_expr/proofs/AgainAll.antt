-- At any depth of brackets each tree is read again from its spelling, if it has no more tokens than brackets may be entered.
use Rattle.std.proofs.Common.{ℕ, zero, suc, length-append, arith}
use Rattle.c_nodes.specs.Words.{Symbols}
use Rattle.c_nodes.specs.Trees.{spelled, spelled_type, spelled_specs, spelled_member, spelled_more_members, spelled_declarator, spelled_param, spelled_more_params, spelled_enumerator, spelled_more_enumerators, IsTree, IsType, AreSpecs, IsDeclarator}
use Rattle.c_nodes.specs.Lists.{more_members, more_params, more_enumerators}
use Rattle.parse_expr.specs.Reader.{Reader}
use Rattle.parse_expr.specs.Reading.{at, expr_by, assign_by, cond_by, specs_by, type_name_by, declarator_by}
use Rattle.parse_expr.proofs.Knots.{Stops, StopsType, IsCond, IsAssign, Again, CompleteInner}
use Rattle.parse_expr.proofs.Starts.{type_has_token, member_has_token, param_has_token, enumerator_has_token}
use Rattle.parse_expr.proofs.AgainOperands.{has_token}
use Rattle.parse_expr.proofs.AgainExpressions.{expr_again_by, assign_again_by, cond_again_by}
use Rattle.parse_expr.proofs.AgainSpecifiers.{StopsSpecs, specs_again_by, type_name_again_by}
use Rattle.parse_expr.proofs.AgainDeclarators.{StopsSuffixes, declarator_again_by, members_again_by, params_again_by}
use Rattle.parse_expr.proofs.AgainEnumerations.{enumerators_again_by}

-- no tree is spelled with no token
nothing_spelled : CompleteInner zero (at zero)
nothing_spelled = record {
  expr = λ a le is rest stop. absurd (omega (arith, has_token a));
  size = λ a le is rest stop. absurd (omega (arith, has_token a));
  type_name = λ a le is rest stop. absurd (omega (arith, type_has_token a));
  members = λ a le is rest stop. absurd (omega (arith, member_has_token a.0, length-append (spelled_member a.0) (spelled_more_members (more_members a.1))));
  params = λ a le is rest stop. absurd (omega (arith, param_has_token a.0, length-append (spelled_param a.0) (spelled_more_params (more_params a.1))));
  enumerators = λ a le is rest stop. absurd (omega (arith, enumerator_has_token a.0, length-append (spelled_enumerator a.0) (spelled_more_enumerators (more_enumerators a.1))));
}

pub at_complete : (n : ℕ) → CompleteInner n (at n)
unfolding at
at_complete zero = nothing_spelled
at_complete (suc n) =
    let inner = at_complete n in
    record {
      expr = expr_again_by n (at n) inner;
      size = cond_again_by n (at n) inner;
      type_name = type_name_again_by n (at n) inner;
      members = members_again_by n (at n) inner;
      params = params_again_by n (at n) inner;
      enumerators = enumerators_again_by n (at n) inner;
    }

-- a token less
fewer : {A : Type 0} (n : ℕ) (spell : A → Symbols) (Is : A → Type 0) (Stop : Symbols → Type 0) (reader : Reader A) → Again (suc n) spell Is Stop reader → Again n spell Is Stop reader
fewer n spell Is Stop reader more a le is rest stop = more a (omega arith) is rest stop

pub expr_again : (n : ℕ) → Again n spelled IsTree (Stops 13) (expr_by (at n))
expr_again n = fewer n spelled IsTree (Stops 13) (expr_by (at n)) (expr_again_by n (at n) (at_complete n))

pub assign_again : (n : ℕ) → Again n spelled IsAssign (Stops 12) (assign_by (at n))
assign_again n = fewer n spelled IsAssign (Stops 12) (assign_by (at n)) (assign_again_by n (at n) (at_complete n))

pub cond_again : (n : ℕ) → Again n spelled IsCond (Stops 11) (cond_by (at n))
cond_again n = fewer n spelled IsCond (Stops 11) (cond_by (at n)) (cond_again_by n (at n) (at_complete n))

pub specs_again : (n : ℕ) → Again n spelled_specs AreSpecs StopsSpecs (specs_by (at n))
specs_again n = fewer n spelled_specs AreSpecs StopsSpecs (specs_by (at n)) (specs_again_by n (at n) (at_complete n))

pub type_name_again : (n : ℕ) → Again n spelled_type IsType StopsType (type_name_by (at n))
type_name_again n = fewer n spelled_type IsType StopsType (type_name_by (at n)) (type_name_again_by n (at n) (at_complete n))

pub declarator_again : (n : ℕ) → Again n spelled_declarator IsDeclarator StopsSuffixes (declarator_by (at n))
declarator_again n = fewer n spelled_declarator IsDeclarator StopsSuffixes (declarator_by (at n)) (declarator_again_by n (at n) (at_complete n))
