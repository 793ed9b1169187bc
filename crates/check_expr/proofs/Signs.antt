-- Signs that a definition names, and all others.
use Rattle.std.proofs.Common.{◌≡◌, ◌≤◌, ℕ, List, refl, sym, ap, ◌∙◌, arith, Result}
use Rattle.c_token.specs.declared.token.Punct.{Punct}
use Rattle.c_token.specs.declared.token.Punct.TheVariants as marks
use Rattle.c_token.specs.declared.token.TokKind.TheVariants as kinds
use Rattle.type_rules.specs.Expressions.{selected, listed_by}
use Rattle.type_rules.specs.Faults.{Fault}
use Rattle.type_rules.specs.Known.{Known}
use Rattle.type_rules.specs.Places.{member}
use Rattle.type_rules.specs.Terms.{Term, Operand}
use Rattle.c_nodes.specs.Kinds.{tier_of}
use Rattle.c_nodes.specs.Trees.{Tree}
use Rattle.c_nodes.specs.Words.{Symbol}
use Rattle.check_expr.specs.Folds.{combined_from}

pub selected_member : (p : Punct) (t : Term) (name : List ℕ) (k : Known) → ((p ≡ marks.Arrow) → ⊥) → member t name t.start k ≡ selected (kinds.Punct p) t name k
selected_member marks.Arrow t name k h = absurd (h refl)
selected_member _ t name k h = refl

-- An operator of a chain leaves no list behind it, as a comma does.
lone : (s : Punct) → tier_of s ≤ 10 → (before : List Operand) (x y : Operand) (t : Term) → listed_by (kinds.Punct s) before x y t ≡ t
lone marks.Comma h before x y t = absurd (let over : 13 ≤ 10 = h in omega (arith, over))
lone _ h before x y t = refl

-- behind an operator of a chain
pub alone : (s : Punct) → tier_of s ≤ 10 → (before : List Operand) (x y : Operand) (t : Term) (bs : List (Symbol × Tree)) (k : Known) (said : Result (Term × Known) Fault) → combined_from (listed_by (kinds.Punct s) before x y t) bs k ≡ said → combined_from t bs k ≡ said
alone s h before x y t bs k said p = sym (ap (λ u. combined_from u bs k) (lone s h before x y t)) ∙ p
