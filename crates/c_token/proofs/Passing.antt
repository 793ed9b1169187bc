-- Reading a text on from a place inside it.
use Rattle.std.proofs.Common.{ℕ, zero, suc, ◌+◌, ◌-◌, ◌<◌, ◌≤◌, ◌≡◌, true, false, cond, Result, Ok, Err, Option, Some, None, List, [], ◌∷◌, ◌++◌, length, drop, take, get_or, arith, ap, sym, ◌∙◌, refl, length-drop, add-one, drop-cons, append-nil, append_assoc}
use Rattle.c_token.specs.declared.scan.Position.{Position}
use Rattle.c_token.specs.declared.token.Tok.{Tok}
use Rattle.c_token.specs.declared.token.LexError.{LexError}
use Rattle.c_token.specs.declared.token.TokKind.{TokKind}
use Rattle.c_token.specs.declared.token.LexError.TheVariants as error
use Rattle.c_token.specs.declared.piece.Piece.{Piece}
use Rattle.c_token.specs.declared.piece.Piece.TheVariants.{Blank, Token, Bad, TooLong}
use Rattle.std.specs.Prelude.{nat_lt, not, ◌&&◌, option_to_list}
use Rattle.c_token.specs.Token.{piece_at}
use Rattle.c_token.specs.Text.{tokens_from, behind, after_piece, with_token, with_any, token_of, is_hash}
use Rattle.std.proofs.lemmas.List.{drop_all}
use Rattle.c_token.proofs.Strings.{tail_whole}

-- a byte that was read already moves the place
pub one_passed : (text : List ℕ) (i k : ℕ) (p : Position) → i < length text → tokens_from (drop i text) (k + 1) p ≡ tokens_from (drop (i + 1) text) k (behind (get_or text i 0) p)
unfolding tokens_from
one_passed text i k p h =
    ap (λ xs. tokens_from xs (k + 1) p) (drop-cons text i 0 h)
    ∙ ap (λ n. tokens_from (get_or text i 0 ∷ drop (suc i) text) n p) (add-one k)
    ∙ ap (λ n. tokens_from (drop n text) k (behind (get_or text i 0) p)) (sym (add-one i))

pub passes_on : (text xs : List ℕ) (n i j : ℕ) (start p : Position) → i < n → p.at ≡ j → j < length text → tokens_from xs n start ≡ tokens_from (drop p.at text) (n - i) p → tokens_from xs n start ≡ tokens_from (drop (p.at + 1) text) (n - (i + 1)) (behind (get_or text j 0) p)
passes_on text xs n i j start p h same r e =
    e ∙ ap (λ m. tokens_from (drop p.at text) m p) (let less : n - i ≡ n - (i + 1) + 1 = omega arith in less)
    ∙ one_passed text p.at (n - (i + 1)) p (omega arith)
    ∙ ap (λ m. tokens_from (drop (p.at + 1) text) (n - (i + 1)) (behind (get_or text m 0) p)) same

-- What `tokens_from` is at a place, by the piece that stands there.

abbrev pub rest_of : List ℕ → Position → List ℕ
rest_of text p = take (length text - p.at) (drop p.at text)

blank_front : (xs : List ℕ) (p : Position) (n : ℕ) → 0 < length xs → piece_at xs ≡ Blank n → 0 < n → tokens_from xs 0 p ≡ tokens_from xs n p
unfolding tokens_from
blank_front [] p n h e g = absurd (omega arith)
blank_front (b ∷ rest) p zero h e g = absurd (omega arith)
blank_front (b ∷ rest) p (suc m) h e g = ap (after_piece (tokens_from rest) b p) e ∙ ap (λ k. tokens_from rest k (behind b p)) (let one : suc m - 1 ≡ m = omega arith in one)

token_front : (xs : List ℕ) (p : Position) (k : TokKind) (n : ℕ) → 0 < length xs → piece_at xs ≡ Token k n → 0 < n → (is_hash k && not (nat_lt p.last p.line)) ≡ false → tokens_from xs 0 p ≡ with_token (token_of k n p) (tokens_from xs n (record p { last = p.line }))
unfolding tokens_from
token_front [] p k n h e g f = absurd (omega arith)
token_front (b ∷ rest) p k zero h e g f = absurd (omega arith)
token_front (b ∷ rest) p k (suc m) h e g f =
    ap (after_piece (tokens_from rest) b p) e
    ∙ ap (λ t. cond t (Err (error.Bad p.line)) (with_token (token_of k (suc m) p) (tokens_from rest (suc m - 1) (behind b (record p { last = p.line }))))) f
    ∙ ap (λ j. with_token (token_of k (suc m) p) (tokens_from rest j (behind b (record p { last = p.line })))) (let one : suc m - 1 ≡ m = omega arith in one)

hash_front : (xs : List ℕ) (p : Position) (k : TokKind) (n : ℕ) → 0 < length xs → piece_at xs ≡ Token k n → (is_hash k && not (nat_lt p.last p.line)) ≡ true → tokens_from xs 0 p ≡ Err (error.Bad p.line)
unfolding tokens_from
hash_front [] p k n h e f = absurd (omega arith)
hash_front (b ∷ rest) p k n h e f =
    ap (after_piece (tokens_from rest) b p) e
    ∙ ap (λ t. cond t (Err (error.Bad p.line)) (with_token (token_of k n p) (tokens_from rest (n - 1) (behind b (record p { last = p.line }))))) f

bad_front : (xs : List ℕ) (p : Position) → 0 < length xs → piece_at xs ≡ Bad → tokens_from xs 0 p ≡ Err (error.Bad p.line)
unfolding tokens_from
bad_front [] p h e = absurd (omega arith)
bad_front (b ∷ rest) p h e = ap (after_piece (tokens_from rest) b p) e

long_front : (xs : List ℕ) (p : Position) → 0 < length xs → piece_at xs ≡ TooLong → tokens_from xs 0 p ≡ Err (error.Identifier p.line)
unfolding tokens_from
long_front [] p h e = absurd (omega arith)
long_front (b ∷ rest) p h e = ap (after_piece (tokens_from rest) b p) e

some_left : (text : List ℕ) (p : Position) → p.at < length text → 0 < length (drop p.at text)
some_left text p h = omega (arith, length-drop p.at text)

at_front : (text : List ℕ) (p : Position) (x : Piece) → x ≡ piece_at (rest_of text p) → piece_at (drop p.at text) ≡ x
at_front text p x e = ap piece_at (sym (tail_whole p.at text)) ∙ sym e

pub blank_reads : (text : List ℕ) (p : Position) (n : ℕ) → p.at < length text → Blank n ≡ piece_at (rest_of text p) → 0 < n → tokens_from (drop p.at text) 0 p ≡ tokens_from (drop p.at text) n p
blank_reads text p n h e g = blank_front (drop p.at text) p n (some_left text p h) (at_front text p (Blank n) e) g

pub token_reads : (text : List ℕ) (p : Position) (k : TokKind) (n : ℕ) → p.at < length text → Token k n ≡ piece_at (rest_of text p) → 0 < n → (is_hash k && not (nat_lt p.last p.line)) ≡ false → tokens_from (drop p.at text) 0 p ≡ with_token (token_of k n p) (tokens_from (drop p.at text) n (record p { last = p.line }))
token_reads text p k n h e g f = token_front (drop p.at text) p k n (some_left text p h) (at_front text p (Token k n) e) g f

pub hash_stops : (text : List ℕ) (p : Position) (k : TokKind) (n : ℕ) → p.at < length text → Token k n ≡ piece_at (rest_of text p) → (is_hash k && not (nat_lt p.last p.line)) ≡ true → tokens_from (drop p.at text) 0 p ≡ Err (error.Bad p.line)
hash_stops text p k n h e f = hash_front (drop p.at text) p k n (some_left text p h) (at_front text p (Token k n) e) f

pub bad_stops : (text : List ℕ) (p : Position) → p.at < length text → Bad ≡ piece_at (rest_of text p) → tokens_from (drop p.at text) 0 p ≡ Err (error.Bad p.line)
bad_stops text p h e = bad_front (drop p.at text) p (some_left text p h) (at_front text p Bad e)

pub long_stops : (text : List ℕ) (p : Position) → p.at < length text → TooLong ≡ piece_at (rest_of text p) → tokens_from (drop p.at text) 0 p ≡ Err (error.Identifier p.line)
long_stops text p h e = long_front (drop p.at text) p (some_left text p h) (at_front text p TooLong e)

-- tokens that were read stand before those that follow
abbrev pub with_tokens : List Tok → Result (List Tok) LexError → Result (List Tok) LexError
with_tokens ts (Ok us) = Ok (ts ++ us)
with_tokens ts (Err e) = Err e

pub with_none : (r : Result (List Tok) LexError) → with_tokens [] r ≡ r
with_none (Ok us) = refl
with_none (Err e) = refl

pub with_more : (ts : List Tok) (t : Option Tok) (r : Result (List Tok) LexError) → with_tokens ts (with_any t r) ≡ with_tokens (ts ++ option_to_list t) r
with_more ts None (Ok us) = ap (λ xs. Ok (xs ++ us)) (sym (append-nil ts))
with_more ts None (Err e) = refl
with_more ts (Some t) (Ok us) = ap Ok (sym (append_assoc ts (t ∷ []) us))
with_more ts (Some t) (Err e) = refl

pub all_read : (text : List ℕ) (p : Position) (ts : List Tok) → length text ≤ p.at → with_tokens ts (tokens_from (drop p.at text) 0 p) ≡ Ok ts
unfolding tokens_from
all_read text p ts h = ap (λ xs. with_tokens ts (tokens_from xs 0 p)) (drop_all p.at text h) ∙ ap Ok (append-nil ts)
