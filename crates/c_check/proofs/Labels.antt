-- The labels of a switch, and the numbers of those that were seen.
use Rattle.std.proofs.Common.{◌≡◌, ℕ, ◌^◌, ◌-◌, ℤ, pos, negsuc, ◌≤ℤ◌, ◌<ℤ◌, to_z, of_z, w64, Bool, true, false, not, ◌||◌, List, [], ◌∷◌, ◌++◌, map, Ok, Err, if◌then◌else◌, int_eq, refl, sym, ap, ◌∙◌, arith}
use Rattle.std.proofs.lemmas.Int.{ints, to_z-of_z}
use Rattle.std.proofs.lemmas.List.{map-append}
use Rattle.std.specs.List.{list_any}
use Rattle.c_ints.specs.Operators.{cut_to}
use Rattle.c_ints.specs.Quantity.{Quantity}
use Rattle.c_ints.specs.declared.types.IntTy.{IntTy}
use Rattle.c_nodes.specs.Trees.{Tree}
use Rattle.c_typed.specs.declared.statement.TCase.{TCase}
use Rattle.type_rules.specs.Constants.{constant_value}
use Rattle.type_rules.specs.Faults as kind
use Rattle.type_rules.specs.Known.{Known, Rule, given, tried, go_on, ◌>>=◌}
use Rattle.type_rules.specs.Statements as rule
use Rattle.c_check.specs.StatementViews.{case_rule}

-- ---- a number is seen exactly where a label has it

turned : (a b : ℤ) → int_eq a b ≡ int_eq b a
turned a b = grind (arith, ints)

pub seen_before : (n : ℤ) (cases : List TCase) → list_any (int_eq n) (map (λ (c : TCase). c.value.number) cases) ≡ list_any (λ (c : TCase). int_eq c.value.number n) cases
seen_before n [] = refl
seen_before n (c ∷ cs) = ap (λ b. b || list_any (int_eq n) (map (λ (c : TCase). c.value.number) cs)) (turned n c.value.number) ∙ ap (λ b. int_eq c.value.number n || b) (seen_before n cs)

-- a label's number as the machine keeps it
pub kept_number : (x : ℤ) → negsuc (2 ^ 31 - 1) ≤ℤ x → x <ℤ pos (2 ^ 32) → to_z w64 (of_z w64 x) ≡ x
kept_number x low high = grind (arith, to_z-of_z)

not_new : (b new : Bool) → new ≡ not b → new ≡ false → b ≡ true
not_new true new is old = refl
not_new false new is old = absurd (cc)

is_new : (b new : Bool) → new ≡ not b → new ≡ true → b ≡ false
is_new true new is fresh = absurd (cc)
is_new false new is fresh = refl

-- ---- the rule of a `case`

abbrev by_test : Bool → ℕ → rule.SwitchBody → Rule rule.SwitchBody
by_test again line added = tried ((again, kind.Jump) ∷ []) line >>= (λ _. given added)

abbrev behind_value : ℕ → IntTy → rule.SwitchBody → Quantity → Rule rule.SwitchBody
behind_value line ty body v = by_test (rule.stands_already body.cases (cut_to ty v.number)) line (rule.case_added body (cut_to ty v.number) line)

module _ (e : Tree) (line : ℕ) (ty : IntTy) (body : rule.SwitchBody) (known mid : Known) (found value : Quantity) (n : ℤ) (keys : List ℤ) (new : Bool) where
  case_by : (again : Bool) → constant_value e known ≡ Ok (found, mid) → value ≡ cut_to ty found.number → rule.stands_already body.cases value ≡ again → case_rule e line ty body known ≡ by_test again line (rule.case_added body value line) mid
  case_by again h is stands =
      ap (go_on (behind_value line ty body)) h
      ∙ ap (λ v. by_test (rule.stands_already body.cases v) line (rule.case_added body v line) mid) (sym is)
      ∙ ap (λ b. by_test b line (rule.case_added body value line) mid) stands

  stands_by : n ≡ value.number → keys ≡ map (λ (c : TCase). c.value.number) body.cases → list_any (int_eq n) keys ≡ rule.stands_already body.cases value
  stands_by number sees = ap (list_any (int_eq n)) sees ∙ seen_before n body.cases ∙ ap (λ m. list_any (λ (c : TCase). int_eq c.value.number m) body.cases) number

  pub case_again : constant_value e known ≡ Ok (found, mid) → value ≡ cut_to ty found.number → n ≡ value.number → keys ≡ map (λ (c : TCase). c.value.number) body.cases → new ≡ not (list_any (int_eq n) keys) → new ≡ false → case_rule e line ty body known ≡ Err (record { kind = kind.Jump; line = line })
  case_again h is number sees told old = case_by true h is (sym (stands_by number sees) ∙ not_new (list_any (int_eq n) keys) new told old)

  pub case_once : constant_value e known ≡ Ok (found, mid) → value ≡ cut_to ty found.number → n ≡ value.number → keys ≡ map (λ (c : TCase). c.value.number) body.cases → new ≡ not (list_any (int_eq n) keys) → new ≡ true → case_rule e line ty body known ≡ Ok (rule.case_added body value line, mid)
  case_once h is number sees told fresh = case_by false h is (sym (stands_by number sees) ∙ is_new (list_any (int_eq n) keys) new told fresh)

-- ---- what is seen behind a new label

abbrev put : Bool → List ℤ → ℤ → List ℤ
put there keys n = if there then keys else keys ++ n ∷ []

pub seen_more : (keys more : List ℤ) (cases cases_more : List TCase) (c : TCase) (n : ℤ) (new : Bool) → keys ≡ map (λ (c : TCase). c.value.number) cases → more ≡ put (list_any (int_eq n) keys) keys n → new ≡ not (list_any (int_eq n) keys) → new ≡ true → cases_more ≡ cases ++ c ∷ [] → n ≡ c.value.number → more ≡ map (λ (c : TCase). c.value.number) cases_more
seen_more keys more cases cases_more c n new sees put_in told fresh pushed number =
    put_in
    ∙ ap (λ there. put there keys n) (is_new (list_any (int_eq n) keys) new told fresh)
    ∙ ap (λ ks. ks ++ n ∷ []) sees
    ∙ ap (λ m. map (λ (c : TCase). c.value.number) cases ++ m ∷ []) number
    ∙ sym (map-append (λ (c : TCase). c.value.number) cases (c ∷ []))
    ∙ ap (map (λ (c : TCase). c.value.number)) (sym pushed)
