-- Each token of a text is the longest that stands at its place.
use Rattle.std.proofs.Common.{ℕ, zero, suc, ◌+◌, ◌-◌, ◌≡◌, Bool, true, false, ◌&&◌, not, cond, Result, Ok, Err, Option, Some, None, List, [], ◌∷◌, drop, arith, ap, sym, ◌∙◌, refl, subst}
use Rattle.std.specs.Prelude.{All, nat_lt, codes, nat_eq, ◌==◌}
use Rattle.std.specs.List.{starts_with, prefix_len}
use Rattle.std.proofs.lemmas.List.{drop-drop}
use Rattle.std.proofs.lemmas.List.Elements.{All-nil, All-cons}
use Rattle.c_token.specs.declared.scan.Position.{Position}
use Rattle.c_token.specs.declared.token.Tok.{Tok}
use Rattle.c_token.specs.declared.token.TokKind.{TokKind}
use Rattle.c_token.specs.declared.token.LexError.{LexError}
use Rattle.c_token.specs.declared.token.LexError.TheVariants as error
use Rattle.c_token.specs.declared.piece.Piece.{Piece}
use Rattle.c_token.specs.declared.piece.Piece.TheVariants.{Blank, Token, Bad, TooLong}
use Rattle.c_token.specs.Bytes.{is_blank}
use Rattle.c_token.specs.Token.{token_at, comment_end, block_comment, is_too_long, token_piece, piece_at}
use Rattle.c_token.specs.Text.{behind, is_hash, token_of, with_token, after_piece, tokens_from, tokens_of}
use Rattle.c_token.specs.Longest.{IsLongest, IsLongestIn}
use Rattle.c_token.proofs.Longest.{longest}

-- ---- a piece that is a token

choice : {P : Type 0} (t : Bool) (a b x : Piece) → (a ≡ x → P) → (b ≡ x → P) → cond t a b ≡ x → P
choice true a b x f g e = f e
choice false a b x f g e = g e

comment_no_token : (o : Option ℕ) (k : TokKind) (n : ℕ) {P : Type 0} → block_comment o ≡ Token k n → P
comment_no_token None k n e = absurd cc
comment_no_token (Some m) k n e = absurd cc

token_is : (o : Option (TokKind × ℕ)) (k : TokKind) (n : ℕ) → token_piece o ≡ Token k n → o ≡ Some (k, n)
token_is None k n e = absurd cc
token_is (Some x) k n e =
    choice (is_too_long x.0 x.1) TooLong (Token x.0 x.1) (Token k n) (λ g. absurd cc)
    (λ g. let same : x.0 ≡ k = cc in let size : x.1 ≡ n = cc in ap (λ (j : TokKind). Some (j, x.1)) same ∙ ap (λ (m : ℕ). Some (k, m)) size) e

pub piece_token : (b : ℕ) (rest : List ℕ) (k : TokKind) (n : ℕ) → piece_at (b ∷ rest) ≡ Token k n → token_at (b ∷ rest) ≡ Some (k, n)
unfolding piece_at
piece_token b rest k n e =
    let tokens = token_piece (token_at (b ∷ rest)) in
    let comments = cond (starts_with nat_eq (b ∷ rest) (codes "/*")) (block_comment (comment_end (drop 2 (b ∷ rest)))) tokens in
    let line = Blank (prefix_len (λ b. not (b == 10)) (b ∷ rest)) in
    choice (is_blank b) (Blank 1) (cond (starts_with nat_eq (b ∷ rest) (codes "//")) line comments) (Token k n) (λ f. absurd cc)
    (λ f. choice (starts_with nat_eq (b ∷ rest) (codes "//")) line comments (Token k n) (λ g. absurd cc)
    (λ g. choice (starts_with nat_eq (b ∷ rest) (codes "/*")) (block_comment (comment_end (drop 2 (b ∷ rest)))) tokens (Token k n)
    (λ h. comment_no_token (comment_end (drop 2 (b ∷ rest))) k n h)
    (λ h. token_is (token_at (b ∷ rest)) k n h) g) f) e

-- ---- the tokens from a place on

-- the bytes from a place of a text on
abbrev Left : List ℕ → List ℕ → Position → Type 0
Left text xs place = drop place.at text ≡ xs

left_behind : (text : List ℕ) (b : ℕ) (rest : List ℕ) (place : Position) → Left text (b ∷ rest) place → Left text rest (behind b place)
left_behind text b rest place l = sym (drop-drop 1 place.at text) ∙ ap (drop 1) l

-- what is to be shown of a list of tokens, if there is one
abbrev Each : List ℕ → Result (List Tok) LexError → Type 0
Each text r = (ts : List Tok) → r ≡ Ok ts → All (IsLongestIn text) ts

no_tokens : (text : List ℕ) (e : LexError) → Each text (Err e)
no_tokens text e ts h = absurd cc

each_none : (text : List ℕ) → Each text (Ok [])
each_none text ts e =
    let same : [] ≡ ts = cc in
    subst (All (IsLongestIn text)) same (All-nil (IsLongestIn text))

with_longest : (text : List ℕ) (t : Tok) (r : Result (List Tok) LexError) → IsLongestIn text t → Each text r → Each text (with_token t r)
with_longest text t (Ok us) h each ts e =
    let same : t ∷ us ≡ ts = cc in
    subst (All (IsLongestIn text)) same (All-cons (IsLongestIn text) t us h (each us refl))
with_longest text t (Err x) h each ts e = absurd cc

choice_each : (text : List ℕ) (t : Bool) (a b : Result (List Tok) LexError) → Each text a → Each text b → Each text (cond t a b)
choice_each text true a b f g = f
choice_each text false a b f g = g

token_longest : (text : List ℕ) (b : ℕ) (rest : List ℕ) (place : Position) (k : TokKind) (n : ℕ) → Left text (b ∷ rest) place → piece_at (b ∷ rest) ≡ Token k n → IsLongestIn text (token_of k n place)
token_longest text b rest place k n l e =
    let here : IsLongest (drop place.at text) k n = subst (λ (xs : List ℕ). IsLongest xs k n) (sym l) (longest (b ∷ rest) k n (piece_token b rest k n e)) in
    subst (λ (m : ℕ). IsLongest (drop place.at text) k m) (let size : n ≡ place.at + n - place.at = omega arith in size) here

each_after : (text : List ℕ) (b : ℕ) (rest : List ℕ) (place : Position) → Left text (b ∷ rest) place → ((passed : ℕ) (p : Position) → Left text rest p → Each text (tokens_from rest passed p)) → (x : Piece) → piece_at (b ∷ rest) ≡ x → Each text (after_piece (tokens_from rest) b place x)
each_after text b rest place l again (Blank n) e = again (n - 1) (behind b place) (left_behind text b rest place l)
each_after text b rest place l again (Token k n) e =
    let p : Position = record place { last = place.line } in
    choice_each text (is_hash k && not (nat_lt place.last place.line)) (Err (error.Bad place.line)) (with_token (token_of k n place) (tokens_from rest (n - 1) (behind b p)))
    (no_tokens text (error.Bad place.line))
    (with_longest text (token_of k n place) (tokens_from rest (n - 1) (behind b p)) (token_longest text b rest place k n l e) (again (n - 1) (behind b p) (left_behind text b rest p l)))
each_after text b rest place l again Bad e = no_tokens text (error.Bad place.line)
each_after text b rest place l again TooLong e = no_tokens text (error.Identifier place.line)

each_from : (text : List ℕ) (xs : List ℕ) (passed : ℕ) (place : Position) → Left text xs place → Each text (tokens_from xs passed place)
unfolding tokens_from
each_from text [] passed place l = each_none text
each_from text (b ∷ rest) (suc passed) place l = each_from text rest passed (behind b place) (left_behind text b rest place l)
each_from text (b ∷ rest) zero place l = each_after text b rest place l (each_from text rest) (piece_at (b ∷ rest)) refl

pub each : (text : List ℕ) (ts : List Tok) → tokens_of text ≡ Ok ts → All (IsLongestIn text) ts
each text = each_from text text 0 (record { at = 0; line = 1; last = 0 }) refl
