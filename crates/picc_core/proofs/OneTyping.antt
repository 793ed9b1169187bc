-- A text has one tree at most, so one typed program or one rule that it breaks first.
use Rattle.std.proofs.Common.{◌≡◌, ℕ, List, Some, Result, Ok, Err, sym, ap, ◌∙◌}
use Rattle.c_token.specs.declared.token.Tok.{Tok}
use Rattle.c_nodes.specs.Programs.{ItemTree, spelled_unit}
use Rattle.c_typed.specs.Trees.{Program}
use Rattle.parse_expr.specs.Reader.{symbols_in}
use Rattle.c_parse.specs.Reading.{unit_by}
use Rattle.c_parse.proofs.AgainUnits.{unit_again}
use Rattle.type_rules.specs.Faults.{Fault}
use Rattle.type_rules.specs.Units.{judged_unit}
use Rattle.picc_core.specs.Texts.{program_tokens}
use Rattle.picc_core.specs.Typed.{IsTreeOf, HasOneTyping}

same_list : (a b : List Tok) (text : List ℕ) → program_tokens text ≡ Ok a → program_tokens text ≡ Ok b → a ≡ b
same_list a b text first second = let both = sym first ∙ second in cc

same_unit : (a b : List ItemTree) → Some a ≡ Some b → a ≡ b
same_unit a b is = cc

one_tree : (text : List ℕ) (a b : List ItemTree) → IsTreeOf text a → IsTreeOf text b → a ≡ b
one_tree text a b first second =
    let spelled : spelled_unit a ≡ spelled_unit b = sym first.spelled ∙ ap (symbols_in text) (same_list first.toks second.toks text first.tokens second.tokens) ∙ second.spelled in
    same_unit a b (sym (unit_again a first.grammar) ∙ ap unit_by spelled ∙ unit_again b second.grammar)

-- what the rules say of the one tree and of the other is the same
same_judged : (text : List ℕ) (a b : List ItemTree) → IsTreeOf text a → IsTreeOf text b → judged_unit a ≡ judged_unit b
same_judged text a b first second = ap judged_unit (one_tree text a b first second)

same_ok : (s t : Result Program Fault) (p q : Program) → s ≡ Ok p → t ≡ Ok q → s ≡ t → p ≡ q
same_ok s t p q first second same = let both = sym first ∙ same ∙ second in cc

same_err : (s t : Result Program Fault) (f g : Fault) → s ≡ Err f → t ≡ Err g → s ≡ t → f ≡ g
same_err s t f g first second same = let both = sym first ∙ same ∙ second in cc

not_both : (s t : Result Program Fault) (p : Program) (f : Fault) → s ≡ Ok p → t ≡ Err f → s ≡ t → ⊥
not_both s t p f first second same = let both = sym first ∙ same ∙ second in cc

pub one_typing : (text : List ℕ) → HasOneTyping text
one_typing text =
    record {
      program = λ p q a b. same_ok (judged_unit a.tree) (judged_unit b.tree) p q a.judged b.judged (same_judged text a.tree b.tree a.of_text b.of_text);
      fault = λ f g a b. same_err (judged_unit a.tree) (judged_unit b.tree) f g a.judged b.judged (same_judged text a.tree b.tree a.of_text b.of_text);
      either = λ p f a b. not_both (judged_unit a.tree) (judged_unit b.tree) p f a.judged b.judged (same_judged text a.tree b.tree a.of_text b.of_text);
    }
