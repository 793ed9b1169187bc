-- One step of the replacement: its effect on what is left.
use Rattle.std.proofs.Common.{ℕ, suc, ◌+◌, ◌≡◌, Result, Ok, Err, List, [], ◌∷◌, ◌++◌, arith, ap, sym, ◌∙◌, refl, append_assoc}
use Rattle.c_token.specs.declared.token.Tok.{Tok}
use Rattle.c_pre.specs.declared.PreError.{PreError}
use Rattle.c_pre.specs.declared.PreError.TheVariants as error
use Rattle.c_pre.specs.Replace.{Event, Left, Replaced, limited, with_tokens, with_token}

with_one : (ts : List Tok) (t : Tok) (r : Result (List Tok) PreError) → with_tokens ts (with_token t r) ≡ with_tokens (ts ++ t ∷ []) r
with_one ts t (Ok us) = ap Ok (sym (append_assoc ts (t ∷ []) us))
with_one ts t (Err e) = refl

limited_left : (room less : ℕ) (t : Tok) (es : List Event) → less + 1 ≡ room → limited room (Left t ∷ es) ≡ with_token t (limited less es)
unfolding limited
limited_left room less t es e = ap (λ n. limited n (Left t ∷ es)) (let s : room ≡ suc less = omega arith in s)

limited_replaced : (room less line : ℕ) (es : List Event) → less + 1 ≡ room → limited room (Replaced line ∷ es) ≡ limited less es
unfolding limited
limited_replaced room less line es e = ap (λ n. limited n (Replaced line ∷ es)) (let s : room ≡ suc less = omega arith in s)

pub left_passes : (ts us : List Tok) (room less : ℕ) (t : Tok) → us ≡ ts ++ t ∷ [] → less + 1 ≡ room → (es : List Event) → with_tokens ts (limited room ((Left t ∷ []) ++ es)) ≡ with_tokens us (limited less es)
left_passes ts us room less t u e es = ap (with_tokens ts) (limited_left room less t es e) ∙ with_one ts t (limited less es) ∙ ap (λ vs. with_tokens vs (limited less es)) (sym u)

pub left_stops : (ts : List Tok) (room : ℕ) (t : Tok) → room ≡ 0 → (es : List Event) → with_tokens ts (limited room ((Left t ∷ []) ++ es)) ≡ Err (error.Tokens t.line)
unfolding limited
left_stops ts room t e es = ap (λ n. with_tokens ts (limited n (Left t ∷ es))) e

pub replaced_passes : (ts : List Tok) (room less line : ℕ) → less + 1 ≡ room → (es : List Event) → with_tokens ts (limited room ((Replaced line ∷ []) ++ es)) ≡ with_tokens ts (limited less es)
replaced_passes ts room less line e es = ap (with_tokens ts) (limited_replaced room less line es e)

pub replaced_stops : (ts : List Tok) (room line : ℕ) → room ≡ 0 → (es : List Event) → with_tokens ts (limited room ((Replaced line ∷ []) ++ es)) ≡ Err (error.Tokens line)
unfolding limited
replaced_stops ts room line e es = ap (λ n. with_tokens ts (limited n (Replaced line ∷ es))) e
