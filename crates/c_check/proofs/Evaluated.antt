-- The value of an expression whose term was read without what stands between its commas.
use Rattle.std.proofs.Common.{◌≡◌, Result, Ok, Err, [], refl, sym, ap, subst, ◌∙◌}
use Rattle.c_nodes.specs.Trees.{Tree}
use Rattle.type_rules.specs.Expressions.{judged, value_of}
use Rattle.type_rules.specs.Faults.{Fault}
use Rattle.type_rules.specs.Known.{Known, go_on}
use Rattle.type_rules.specs.Terms as rule
use Rattle.c_tables.specs.Answers.{Answers, Refuses}
use Rattle.c_terms.specs.Terms.{operand_of}
use Rattle.c_tables.specs.declared.error.CheckError.{CheckError}
use Rattle.c_tables.specs.declared.error.CheckError.TheVariants as errors
use Rattle.c_terms.specs.declared.term.Operand.{Operand}
use Rattle.check_expr.specs.Views.{unlisted}

abbrev bare : rule.Term → rule.Term
bare t = record t { listed = [] }

same_value : (t : rule.Term) (form : rule.Form) (known : Known) → rule.value_in (bare t) form known ≡ rule.value_in t form known
same_value t (rule.ValueForm value) known = refl
same_value t (rule.PlaceForm place reach) known = refl
same_value t (rule.FunctionForm number bare) known = refl
same_value t rule.TypeForm known = refl

same_behind : (t : rule.Term) (said : Result (Known × Known) Fault) → go_on (λ _. rule.value_in (bare t) t.form) said ≡ go_on (λ _. rule.value_in t t.form) said
same_behind t (Ok x) = same_value t t.form x.1
same_behind t (Err fault) = refl

-- What a term has between its commas doesn't matter to its value.
same_used : (t : rule.Term) (known : Known) → rule.used (bare t) known ≡ rule.used t known
same_used t known = same_behind t (rule.no_table t known)

parts_same : (x y : rule.Term × Known) → ◌≡◌ {A = Result (rule.Term × Known) Fault} (Ok x) (Ok y) → x ≡ y
parts_same x y e = ap (or_else x) e
  where
    or_else : rule.Term × Known → Result (rule.Term × Known) Fault → rule.Term × Known
    or_else d (Ok z) = z
    or_else d (Err fault) = d

used_behind : (said : Result (rule.Term × Known) Fault) (t : rule.Term) (mid : Known) → unlisted said ≡ Ok (t, mid) → rule.used t mid ≡ go_on rule.used said
used_behind (Ok x) t mid e = ap (λ q. rule.used q.0 q.1) (sym (parts_same (bare x.0, x.1) (t, mid) e)) ∙ same_used x.0 x.1
used_behind (Err fault) t mid e = cc

pub value_is : (e : Tree) (known mid after : Known) (t : rule.Term) (result : Result Operand CheckError) → unlisted (judged e known) ≡ Ok (t, mid) → Answers operand_of result after (rule.used t mid) → Answers operand_of result after (value_of e known)
value_is e known mid after t result h answer = subst (Answers operand_of result after) (used_behind (judged e known) t mid h) answer

wrong_behind : (fault : CheckError) (said : Result (rule.Term × Known) Fault) → Refuses fault (unlisted said) → Refuses fault (go_on rule.used said)
wrong_behind errors.NoMemory said h = h
wrong_behind (errors.Kind kind line) (Ok x) h = cc
wrong_behind (errors.Kind kind line) (Err fault) h = cc

pub judged_wrong : (e : Tree) (known : Known) (fault : CheckError) → Refuses fault (unlisted (judged e known)) → Refuses fault (value_of e known)
judged_wrong e known fault h = wrong_behind fault (judged e known) h
