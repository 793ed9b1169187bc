-- Prefixes of what is printed, where its parts are printed one behind the other.
use Rattle.std.proofs.Common.{◌≡◌, ℕ, ◌+◌, Option, Some, None, List, ◌++◌, length, take, refl, sym, ap, ◌∙◌, subst, arith, append_assoc, option_map, Result, Ok, Err, OnErr}
use Rattle.std.proofs.Math.Seq.{take-append-add}
use Rattle.std.proofs.lemmas.List.{length-append, take-append-le}
use Rattle.host_io.specs.Host.{PrintsPrefix}

pub longer : (p q : Option (List ℕ)) (b rest : List ℕ) → PrintsPrefix p q b → PrintsPrefix p q (b ++ rest)
longer p q b rest (n, short, e) =
    (n, omega (arith, length-append {A = ℕ} b rest), e ∙ ap (λ s. option_map (λ printed. printed ++ s) p) (sym (take-append-le n b rest short)))

pub later : (p q r : Option (List ℕ)) (a b : List ℕ) → q ≡ option_map (λ t. t ++ a) p → PrintsPrefix q r b → PrintsPrefix p r (a ++ b)
later p q r a b first (n, short, e) = (
  length a + n,
  omega (arith, length-append {A = ℕ} a b),
  e ∙ ap (λ o. option_map (λ t. t ++ take n b) o) first ∙ joined p ∙ ap (λ s. option_map (λ t. t ++ s) p) (sym (take-append-add a b n)),
)
  where
    joined : (p : Option (List ℕ)) → option_map (λ t. t ++ take n b) (option_map (λ t. t ++ a) p) ≡ option_map (λ t. t ++ (a ++ take n b)) p
    joined None = refl
    joined (Some t) = ap Some (append_assoc t a (take n b))

pub on_err : {T E P : Type 0} (r : Result T E) → P → OnErr r P
on_err (Ok x) p = tt
on_err (Err e) p = p

pub second_prefix : (p q r : Option (List ℕ)) (a b rest first second : List ℕ) → first ≡ a → q ≡ option_map (λ t. t ++ first) p → second ≡ b → PrintsPrefix q r second
    → PrintsPrefix p r (a ++ (b ++ rest))
second_prefix p q r a b rest first second e one f two =
    later p q r a (b ++ rest) (one ∙ ap (λ s. option_map (λ t. t ++ s) p) e) (longer q r b rest (subst (PrintsPrefix q r) f two))

pub third_prefix : (p q r s : Option (List ℕ)) (a b c first second third : List ℕ) → first ≡ a → q ≡ option_map (λ t. t ++ first) p → second ≡ b → r ≡ option_map (λ t. t ++ second) q
    → third ≡ c → PrintsPrefix r s third → PrintsPrefix p s (a ++ (b ++ c))
third_prefix p q r s a b c first second third e one f two g three =
    later p q s a (b ++ c) (one ∙ ap (λ s. option_map (λ t. t ++ s) p) e)
    (later q r s b c (two ∙ ap (λ s. option_map (λ t. t ++ s) q) f) (subst (PrintsPrefix r s) g three))
