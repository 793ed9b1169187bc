-- The text of a generated program by its parts.
use Rattle.std.proofs.Common.{◌≡◌, ℕ, ◌+◌, List, [], ◌∷◌, ◌++◌, sym, ap, ◌∙◌, append_assoc, append-nil, add-one, codes}
use Rattle.std.specs.Prelude.{decimal}
use Rattle.generated_laws.specs.Generated.{line, functions_text, calls_text, generated}

pub no_functions : (old : List ℕ) → old ≡ old ++ functions_text 0
unfolding functions_text
no_functions old = sym (append-nil old)

functions_on : (old : List ℕ) (i : ℕ) → (((old ++ functions_text i) ++ (codes "unsigned char f" ++ decimal i)) ++ (codes "(unsigned char x){return x+" ++ decimal i)) ++ codes ";}\n" ≡ old ++ functions_text (i + 1)
unfolding functions_text
functions_on old i =
    let first = codes "unsigned char f" ++ decimal i in
    let second = codes "(unsigned char x){return x+" ++ decimal i in
    let last = codes ";}\n" in
    append_assoc ((old ++ functions_text i) ++ first) second last
    ∙ append_assoc (old ++ functions_text i) first (second ++ last)
    ∙ append_assoc old (functions_text i) (first ++ (second ++ last))
    ∙ ap (λ t. old ++ (functions_text i ++ t)) (sym (append_assoc (first ++ second) (codes ";}") (10 ∷ []) ∙ append_assoc first second last))
    ∙ ap (λ n. old ++ functions_text n) (sym (add-one i))

pub functions_by_parts : (old begun first second third : List ℕ) (i : ℕ) → begun ≡ old ++ functions_text i → first ≡ begun ++ (codes "unsigned char f" ++ decimal i)
    → second ≡ first ++ (codes "(unsigned char x){return x+" ++ decimal i) → third ≡ second ++ codes ";}\n" → third ≡ old ++ functions_text (i + 1)
functions_by_parts old begun first second third i e f g h =
    h
    ∙ ap (λ t. t ++ codes ";}\n") (g ∙ ap (λ t. t ++ (codes "(unsigned char x){return x+" ++ decimal i)) (f ∙ ap (λ t. t ++ (codes "unsigned char f" ++ decimal i)) e))
    ∙ functions_on old i

pub no_calls : (old : List ℕ) → old ≡ old ++ calls_text 0
unfolding calls_text
no_calls old = sym (append-nil old)

pub calls_on : (old : List ℕ) (i : ℕ) → ((old ++ calls_text i) ++ (codes "x=f" ++ decimal i)) ++ codes "(x);\n" ≡ old ++ calls_text (i + 1)
unfolding calls_text
calls_on old i =
    let first = codes "x=f" ++ decimal i in
    let last = codes "(x);\n" in
    append_assoc (old ++ calls_text i) first last
    ∙ append_assoc old (calls_text i) (first ++ last)
    ∙ ap (λ t. old ++ (calls_text i ++ t)) (sym (append_assoc first (codes "(x);") (10 ∷ [])))
    ∙ ap (λ n. old ++ calls_text n) (sym (add-one i))

pub whole : (functions : ℕ) → (((codes "unsigned char s;\n" ++ functions_text functions) ++ codes "void main(void){unsigned char x;\nx=PORTB;\n") ++ calls_text functions) ++ codes "PORTC=x;\n}\n" ≡ generated functions
unfolding generated
whole functions =
    let front = line (codes "unsigned char s;") ++ functions_text functions in
    let calls = calls_text functions in
    let v = line (codes "void main(void){unsigned char x;") in
    let p = line (codes "x=PORTB;") in
    ap (λ t. (t ++ calls) ++ codes "PORTC=x;\n}\n") (sym (append_assoc front v p))
    ∙ sym (append_assoc (((front ++ v) ++ p) ++ calls) (line (codes "PORTC=x;")) (line (codes "}")))
