-- Tokens that stand one behind the other.
use Rattle.std.proofs.Common.{ℕ, ◌+◌, ◌<◌, ◌≤◌, ◌≡◌, Option, Some, None, List, [], ◌∷◌, ◌++◌, length, arith, ap, sym, ◌∙◌, subst, append-nil}
use Rattle.std.specs.Prelude.{option_to_list, All}
use Rattle.c_token.specs.declared.token.Tok.{Tok}
use Rattle.std.proofs.Common.{drop}
use Rattle.std.proofs.lemmas.List.Elements.{All-push}
use Rattle.c_token.specs.declared.scan.Position.{Position}
use Rattle.c_token.specs.Text.{InOrder, LiesIn, Spans, tokens_of, tokens_from, with_any}
use Rattle.c_token.proofs.Passing.{with_tokens, with_more}

pub order_ends : (ts : List Tok) (low high higher : ℕ) → InOrder low high ts → high ≤ higher → InOrder low higher ts
order_ends [] low high higher o h = omega arith
order_ends (t ∷ ts) low high higher o h = (o.0, o.1, order_ends ts t.end high higher o.2 h)

order_one : (ts : List Tok) (low mid high : ℕ) (t : Tok) → InOrder low mid ts → mid ≤ t.start → t.start < t.end → t.end ≤ high → InOrder low high (ts ++ t ∷ [])
order_one [] low mid high t o a b c = (omega arith, b, c)
order_one (s ∷ ts) low mid high t o a b c = (o.0, o.1, order_one ts s.end mid high t o.2 a b c)

pub order_more : (ts : List Tok) (mid high : ℕ) (t : Option Tok) → InOrder 0 mid ts → Spans mid high t → InOrder 0 high (ts ++ option_to_list t)
order_more ts mid high None o s = subst (InOrder 0 high) (sym (append-nil ts)) (order_ends ts 0 mid high o s)
order_more ts mid high (Some t) o s = order_one ts 0 mid high t o s.0 s.1 s.2

pub within_more : (ts : List Tok) (mid high size : ℕ) (t : Option Tok) → All (LiesIn size) ts → Spans mid high t → high ≤ size → All (LiesIn size) (ts ++ option_to_list t)
within_more ts mid high size None a s h = subst (All (LiesIn size)) (sym (append-nil ts)) a
within_more ts mid high size (Some t) a s h = All-push (LiesIn size) ts t a (s.1, omega arith)

-- what a step of the loop over a text keeps
abbrev pub Keeps : List ℕ → List Tok → Position → Type 0
Keeps text ts place = (place.at ≤ length text) × (place.line ≤ place.at + 1) × (InOrder 0 place.at ts) × (All (LiesIn (length text)) ts) × (tokens_of text ≡ with_tokens ts (tokens_from (drop place.at text) 0 place))

pub keeps_on : (text : List ℕ) (old new : List Tok) (t : Option Tok) (p q : Position) → Keeps text old p → new ≡ old ++ option_to_list t → Spans p.at q.at t → q.at ≤ length text → q.line ≤ q.at + 1 → tokens_from (drop p.at text) 0 p ≡ with_any t (tokens_from (drop q.at text) 0 q) → Keeps text new q
keeps_on text old new t p q k e s a l r =
    let made : Keeps text (old ++ option_to_list t) q = (a, l, order_more old p.at q.at t k.2 s, within_more old p.at q.at (length text) t k.3 s a, k.4 ∙ ap (with_tokens old) r ∙ with_more old t (tokens_from (drop q.at text) 0 q)) in
    subst (λ ts. Keeps text ts q) (sym e) made
