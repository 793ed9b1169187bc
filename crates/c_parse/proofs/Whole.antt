-- What the answer tells of the trees that the tokens spell.
use Rattle.std.proofs.Common.{◌≡◌, ℕ, List, [], ◌∷◌, Option, Some, None, Result, Ok, Err, IfOk, Bool, true, false, length, nat_lt, cond, refl, sym, ap, subst, ◌∙◌}
use Rattle.c_token.specs.declared.token.Tok.{Tok}
use Rattle.c_nodes.specs.Programs.{ItemTree, IsUnit, spelled_unit}
use Rattle.parse_expr.specs.declared.error.ParseError.{ParseError}
use Rattle.parse_expr.specs.declared.error.ParseError.TheVariants.{NoMemory, Nesting, Run, Syntax}
use Rattle.std.proofs.lemmas.List.{length-map}
use Rattle.parse_expr.specs.Reader.{Gives, Fails, symbol_in, symbols_in}
use Rattle.parse_expr.proofs.Plain.{symbols_plain}
use Rattle.c_parse.specs.Limits.{open_after, run_after, judged, first_over, IsLimit}
use Rattle.c_parse.specs.Reading.{unit_by}
use Rattle.c_parse.proofs.TakesUnits.{unit_takes}
use Rattle.c_parse.proofs.AgainUnits.{unit_again}

-- what is known of an answer
abbrev pub Limits : {X : Type 0} → List Tok → Result X ParseError → Type 0
Limits toks r = (e : ParseError) → first_over 0 0 toks ≡ Some e → r ≡ Err e

abbrev pub Within : {X : Type 0} → (X → List ItemTree) → List ℕ → List Tok → Result X ParseError → Type 0
Within view text toks r = first_over 0 0 toks ≡ None → Gives view r (unit_by (symbols_in text toks))

-- a limit is passed, or none
by_limit : (toks : List Tok) (C : Type 0) → ((e : ParseError) → first_over 0 0 toks ≡ Some e → C) → (first_over 0 0 toks ≡ None → C) → C
by_limit toks C some none = elim (first_over 0 0 toks) as (λ q. first_over 0 0 toks ≡ q → C) [ Some e ↦ λ h. some e h | None ↦ λ h. none h ] refl

pub found : {X : Type 0} (view : X → List ItemTree) (text : List ℕ) (toks : List Tok) (r : Result X ParseError) → Limits toks r → Within view text toks r → IfOk r (λ u. (symbols_in text toks ≡ spelled_unit (view u)) × IsUnit (view u))
found view text toks (Ok u) limit within = by_limit toks ((symbols_in text toks ≡ spelled_unit (view u)) × IsUnit (view u)) (λ e h. absurd (let differ = limit e h in cc)) (λ h. unit_takes (symbols_in text toks) (view u) (symbols_plain text toks) (within h))
found view text toks (Err e) limit within = tt

pub only : {X : Type 0} (view : X → List ItemTree) (text : List ℕ) (toks : List Tok) (r : Result X ParseError) → Within view text toks r → (u : List ItemTree) → IsUnit u → symbols_in text toks ≡ spelled_unit u → first_over 0 0 toks ≡ None → Gives view r (Some u)
only view text toks r within u is e none = subst (λ q. Gives view r q) (ap unit_by e ∙ unit_again u is) (within none)

-- a tree has as many tokens as it was read of
pub as_long : {X : Type 0} (view : X → List ItemTree) (text : List ℕ) (toks : List Tok) (r : Result X ParseError) → IfOk r (λ u. (symbols_in text toks ≡ spelled_unit (view u)) × IsUnit (view u)) → IfOk r (λ u. length (spelled_unit (view u)) ≡ length toks)
as_long view text toks (Ok u) is = sym (ap length is.0) ∙ length-map toks (symbol_in text)
as_long view text toks (Err e) is = tt

-- a limit's error is none of reading
not_read : (e : ParseError) (read : Option (List ItemTree)) → IsLimit e → Fails e read → ⊥
not_read NoMemory read is fails = is
not_read (Nesting line) read is fails = fails
not_read (Run line) read is fails = fails
not_read (Syntax line) read is fails = is

same_error : {X : Type 0} (a b : ParseError) (r : Result X ParseError) → r ≡ Err a → r ≡ Err b → a ≡ b
same_error a b r ea eb = let e : Err a ≡ Err b = sym ea ∙ eb in cc

pub limit_only : {X : Type 0} (view : X → List ItemTree) (text : List ℕ) (toks : List Tok) (r : Result X ParseError) → Limits toks r → Within view text toks r → (e : ParseError) → r ≡ Err e → IsLimit e → first_over 0 0 toks ≡ Some e
limit_only view text toks r limit within e h is =
    by_limit toks (first_over 0 0 toks ≡ Some e)
    (λ x hx. hx ∙ ap Some (same_error x e r (limit x hx) h))
    (λ none. absurd (not_read e (unit_by (symbols_in text toks)) is (subst (λ q. Gives view q (unit_by (symbols_in text toks))) h (within none))))

-- the first token over a limit is never told as an error of syntax
judged_limit : (a b line : ℕ) (later : Option ParseError) (l : ℕ) → (later ≡ Some (Syntax l) → ⊥) → judged a b line later ≡ Some (Syntax l) → ⊥
judged_limit a b line later l never e = go (nat_lt 64 a) (nat_lt 8192 b) e where
  go : (x y : Bool) → cond x (Some (Nesting line)) (cond y (Some (Run line)) later) ≡ Some (Syntax l) → ⊥
  go true y h = absurd (let differ : Some (Nesting line) ≡ Some (Syntax l) = h in cc)
  go false true h = absurd (let differ : Some (Run line) ≡ Some (Syntax l) = h in cc)
  go false false h = never h

never_syntax : (n m : ℕ) (toks : List Tok) (l : ℕ) → first_over n m toks ≡ Some (Syntax l) → ⊥
unfolding first_over
never_syntax n m [] l e = absurd cc
never_syntax n m (t ∷ ts) l e = judged_limit (open_after n t.kind) (run_after m t.kind) t.line (first_over (open_after n t.kind) (run_after m t.kind) ts) l (never_syntax (open_after n t.kind) (run_after m t.kind) ts l) e

no_some : (u : List ItemTree) → None ≡ Some u → ⊥
no_some u e = cc

pub no_tree : {X : Type 0} (view : X → List ItemTree) (text : List ℕ) (toks : List Tok) (r : Result X ParseError) → Limits toks r → Within view text toks r → (line : ℕ) → r ≡ Err (Syntax line) → (u : List ItemTree) → IsUnit u → symbols_in text toks ≡ spelled_unit u → ⊥
no_tree view text toks r limit within line h u is e =
    by_limit toks ⊥
    (λ x hx. never_syntax 0 0 toks line (hx ∙ ap Some (same_error x (Syntax line) r (limit x hx) h)))
    (λ none. no_some u (sym (subst (λ q. Gives view q (Some u)) h (only view text toks r within u is e none))))
