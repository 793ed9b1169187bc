-- Between the tokens of a text stand white space and comments alone.
use Rattle.std.proofs.Common.{ℕ, zero, suc, ◌+◌, ◌-◌, ◌<◌, ◌≤◌, ◌≡◌, Bool, true, false, ◌&&◌, ◌||◌, cond, Result, Ok, Err, Option, Some, None, List, [], ◌∷◌, length, drop, take, arith, ap, sym, ◌∙◌, refl, subst, length-drop}
use Rattle.std.specs.Prelude.{codes, nat_eq, nat_lt, not, ◌==◌}
use Rattle.std.specs.List.{starts_with, list_all, prefix_len}
use Rattle.std.proofs.lemmas.List.{drop-drop}
use Rattle.std.proofs.lemmas.List.Sums.{prefix_len-le-length}
use Rattle.c_token.specs.declared.scan.Position.{Position}
use Rattle.c_token.specs.declared.token.Tok.{Tok}
use Rattle.c_token.specs.declared.token.TokKind.{TokKind}
use Rattle.c_token.specs.declared.token.LexError.{LexError}
use Rattle.c_token.specs.declared.token.LexError.TheVariants as error
use Rattle.c_token.specs.declared.piece.Piece.{Piece}
use Rattle.c_token.specs.declared.piece.Piece.TheVariants.{Blank, Token, Bad, TooLong}
use Rattle.c_token.specs.Bytes.{is_blank}
use Rattle.c_token.specs.Constant.{◌>>=◌}
use Rattle.c_token.specs.Token.{token_at, comment_end, block_comment, is_too_long, token_piece, piece_at}
use Rattle.c_token.specs.Text.{behind, is_hash, token_of, with_token, after_piece, tokens_from, tokens_of}
use Rattle.c_token.specs.Gaps.{ends_line, is_white_space, is_line_comment, is_end, is_block_comment, is_blank_piece, IsGap, IsCut}
use Rattle.c_token.proofs.Bounds.{starts_fits}
use Rattle.std.specs.Cmp.Lexicographic.{pointwise}
use Rattle.std.proofs.lemmas.Bool.{and_from, and_parts, eqb-true, eq-eqb}
use Rattle.c_token.specs.Constant.{integer_of}
use Rattle.c_token.specs.Longest.{token_spelled, character_spelled, string_spelled, punctuator_spelled}
use Rattle.c_token.proofs.LongestFronts.{prefix_all}
use Rattle.c_token.proofs.LongestTokens.{piece_token}
use Rattle.c_token.proofs.Longest.{longest}

-- ---- a piece that is blank

-- So many bytes at the front are blank, some, and no more than there are.
record IsPiece (text : List ℕ) (n : ℕ) : Type 0 where
  blank : is_blank_piece text n ≡ true
  some : 0 < n
  within : n ≤ length text

from_not : (t : Bool) → not t ≡ false → t ≡ true
from_not true e = refl
from_not false e = cc

line_stops : (t : Bool) (c : ℕ) (b : ℕ) (rest : List ℕ) → (not (b == 10)) ≡ t → ends_line (drop c rest) ≡ true → ends_line (drop (cond t (1 + c) 0) (b ∷ rest)) ≡ true
line_stops true c b rest e h = subst (λ (n : ℕ). ends_line (drop n (b ∷ rest)) ≡ true) (let same : suc c ≡ 1 + c = omega arith in same) h
line_stops false c b rest e h = from_not (b == 10) e

line_ends : (xs : List ℕ) → ends_line (drop (prefix_len (λ b. not (b == 10)) xs) xs) ≡ true
line_ends [] = refl
line_ends (b ∷ rest) = line_stops (not (b == 10)) (prefix_len (λ b. not (b == 10)) rest) b rest refl (line_ends rest)

either_way : (t : Bool) (a b x : Piece) {P : Type 0} → (t ≡ true → a ≡ x → P) → (t ≡ false → b ≡ x → P) → cond t a b ≡ x → P
either_way true a b x f g e = f refl e
either_way false a b x f g e = g refl e

or_right : (a b : Bool) → b ≡ true → (a || b) ≡ true
or_right true b e = refl
or_right false b e = e

or_left : (a b : Bool) → a ≡ true → (a || b) ≡ true
or_left true b e = refl
or_left false b e = cc

by_line : (text : List ℕ) (n : ℕ) → starts_with nat_eq text (codes "//") ≡ true → list_all (λ b. not (b == 10)) (take n text) ≡ true → ends_line (drop n text) ≡ true → is_blank_piece text n ≡ true
by_line text n f g h =
    or_right (is_white_space text n) (is_line_comment text n || is_block_comment text n)
    (or_left (is_line_comment text n) (is_block_comment text n) (and_from (starts_with nat_eq text (codes "//")) (list_all (λ b. not (b == 10)) (take n text) && ends_line (drop n text)) f (and_from (list_all (λ b. not (b == 10)) (take n text)) (ends_line (drop n text)) g h)))

by_block : (text : List ℕ) (n : ℕ) → starts_with nat_eq text (codes "/*") ≡ true → is_end (comment_end (drop 2 text)) n ≡ true → is_blank_piece text n ≡ true
by_block text n f g =
    or_right (is_white_space text n) (is_line_comment text n || is_block_comment text n)
    (or_right (is_line_comment text n) (is_block_comment text n) (and_from (starts_with nat_eq text (codes "/*")) (is_end (comment_end (drop 2 text)) n) f g))

-- what begins with two bytes has two
two_bytes : (text front : List ℕ) → length front ≡ 2 → starts_with nat_eq text front ≡ true → 2 ≤ length text
two_bytes text front l e = let h = starts_fits text front e in omega (arith, l)

slash_goes_on : (b : ℕ) (rest : List ℕ) → starts_with nat_eq (b ∷ rest) (codes "//") ≡ true → not (b == 10) ≡ true
slash_goes_on b rest e =
    let same = eqb-true 47 b (and_parts (nat_eq 47 b) (pointwise nat_eq (47 ∷ []) (take 1 rest)) e).0 in
    subst (λ (n : ℕ). not (n == 10) ≡ true) same refl

first_counts : (t : Bool) (c n : ℕ) → n ≡ cond t (1 + c) 0 → t ≡ true → 0 < n
first_counts true c n h g = omega arith
first_counts false c n h g = absurd cc

not_empty : (n : ℕ) (b : ℕ) (rest : List ℕ) → starts_with nat_eq (b ∷ rest) (codes "//") ≡ true → n ≡ prefix_len (λ b. not (b == 10)) (b ∷ rest) → 0 < n
not_empty n b rest e h = first_counts (not (b == 10)) (prefix_len (λ b. not (b == 10)) rest) n h (slash_goes_on b rest e)

one_end : (m size : ℕ) (t : Bool) (o : Option ℕ) → (t ≡ true → 2 ≤ size) → ((k : ℕ) → o ≡ Some k → k + 1 ≤ size) → cond t (Some 2) (o >>= λ n. Some (n + 1)) ≡ Some m → m ≤ size
one_end m size true o f g e = let same : 2 ≡ m = cc in let h = f refl in omega arith
one_end m size false None f g e = absurd cc
one_end m size false (Some k) f g e = let same : k + 1 ≡ m = cc in let h = g k refl in omega arith

end_within : (xs : List ℕ) (m : ℕ) → comment_end xs ≡ Some m → m ≤ length xs
unfolding comment_end
end_within [] m e = absurd cc
end_within (a ∷ rest) m e =
    one_end m (suc (length rest)) (starts_with nat_eq (a ∷ rest) (codes "*/")) (comment_end rest)
    (λ f. two_bytes (a ∷ rest) (codes "*/") refl f) (λ k g. let h = end_within rest k g in omega arith) e

blank_one : (b : ℕ) (rest : List ℕ) (n : ℕ) → is_blank b ≡ true → Blank 1 ≡ Blank n → IsPiece (b ∷ rest) n
blank_one b rest n f e =
    let one : 1 ≡ n = cc in
    subst (IsPiece (b ∷ rest)) one (record { blank = cc; some = omega arith; within = omega arith })

line_piece : (b : ℕ) (rest : List ℕ) (n : ℕ) → starts_with nat_eq (b ∷ rest) (codes "//") ≡ true → Blank (prefix_len (λ b. not (b == 10)) (b ∷ rest)) ≡ Blank n → IsPiece (b ∷ rest) n
line_piece b rest n f e =
    let size : prefix_len (λ b. not (b == 10)) (b ∷ rest) ≡ n = cc in
    let within = prefix_len-le-length (λ b. not (b == 10)) (b ∷ rest) in
    let bare = prefix_all (λ b. not (b == 10)) n (b ∷ rest) (omega (arith, size)) (omega (arith, size)) in
    let ends : ends_line (drop n (b ∷ rest)) ≡ true = subst (λ k. ends_line (drop k (b ∷ rest)) ≡ true) size (line_ends (b ∷ rest)) in
    record { blank = by_line (b ∷ rest) n f bare ends; some = not_empty n b rest f (sym size); within = omega (arith, size) }

block_end : (o : Option ℕ) (n size : ℕ) → ((m : ℕ) → o ≡ Some m → m + 2 ≤ size) → block_comment o ≡ Blank n → (is_end o n ≡ true) × (0 < n) × (n ≤ size)
block_end None n size f e = absurd cc
block_end (Some m) n size f e =
    let same : m + 2 ≡ n = cc in
    let h = f m refl in
    (eq-eqb n (m + 2) (sym same), omega arith, omega arith)

block_piece : (b : ℕ) (rest : List ℕ) (n : ℕ) → starts_with nat_eq (b ∷ rest) (codes "/*") ≡ true → block_comment (comment_end (drop 2 (b ∷ rest))) ≡ Blank n → IsPiece (b ∷ rest) n
block_piece b rest n f e =
    let two = two_bytes (b ∷ rest) (codes "/*") refl f in
    let all = block_end (comment_end (drop 2 (b ∷ rest))) n (length (b ∷ rest)) (λ m g. let h = end_within (drop 2 (b ∷ rest)) m g in omega (arith, length-drop 2 (b ∷ rest))) e in
    record { blank = by_block (b ∷ rest) n f all.0; some = all.1; within = all.2 }

token_no_blank : (o : Option (TokKind × ℕ)) (n : ℕ) {P : Type 0} → token_piece o ≡ Blank n → P
token_no_blank None n e = absurd cc
token_no_blank (Some x) n e = either_way (is_too_long x.0 x.1) TooLong (Token x.0 x.1) (Blank n) (λ f g. absurd cc) (λ f g. absurd cc) e

piece_blank : (b : ℕ) (rest : List ℕ) (n : ℕ) → piece_at (b ∷ rest) ≡ Blank n → IsPiece (b ∷ rest) n
unfolding piece_at
piece_blank b rest n e =
    let tokens = token_piece (token_at (b ∷ rest)) in
    let comments = cond (starts_with nat_eq (b ∷ rest) (codes "/*")) (block_comment (comment_end (drop 2 (b ∷ rest)))) tokens in
    let line = Blank (prefix_len (λ b. not (b == 10)) (b ∷ rest)) in
    either_way (is_blank b) (Blank 1) (cond (starts_with nat_eq (b ∷ rest) (codes "//")) line comments) (Blank n) (λ t f. blank_one b rest n t f)
    (λ t f. either_way (starts_with nat_eq (b ∷ rest) (codes "//")) line comments (Blank n) (λ u g. line_piece b rest n u g)
    (λ u g. either_way (starts_with nat_eq (b ∷ rest) (codes "/*")) (block_comment (comment_end (drop 2 (b ∷ rest)))) tokens (Blank n)
    (λ v h. block_piece b rest n v h)
    (λ v h. token_no_blank (token_at (b ∷ rest)) n h) g) f) e

-- ---- the tokens from a place on

-- the bytes from a place of a text on
abbrev Left : List ℕ → List ℕ → Position → Type 0
Left text xs place = drop place.at text ≡ xs

left_behind : (text : List ℕ) (b : ℕ) (rest : List ℕ) (place : Position) → Left text (b ∷ rest) place → Left text rest (behind b place)
left_behind text b rest place l = sym (drop-drop 1 place.at text) ∙ ap (drop 1) l

left_counts : (text : List ℕ) (xs : List ℕ) (place : Position) → Left text xs place → length text - place.at ≡ length xs
left_counts text xs place l = sym (length-drop place.at text) ∙ ap length l

no_gap : (text : List ℕ) (n : ℕ) → 0 ≡ n → IsGap text n
no_gap text n e = record { sizes = []; all = e; each = tt }

more_gap : (text : List ℕ) (n m : ℕ) → is_blank_piece text n ≡ true → IsGap (drop n text) m → IsGap text (n + m)
more_gap text n m e g = record { sizes = n ∷ g.sizes; all = ap (λ k. n + k) g.all; each = (e, g.each) }

gap_before : (text : List ℕ) (at n m k : ℕ) → is_blank_piece (drop at text) n ≡ true → n + m ≡ k → IsGap (drop (at + n) text) m → IsGap (drop at text) k
gap_before text at n m k e s g =
    subst (IsGap (drop at text)) s (more_gap (drop at text) n m e (subst (λ (xs : List ℕ). IsGap xs m) (sym (drop-drop n at text)) g))

cut_before : (text : List ℕ) (at n : ℕ) (ts : List Tok) → is_blank_piece (drop at text) n ≡ true → at + n ≤ length text → IsCut text (at + n) ts → IsCut text at ts
cut_before text at n [] e h c = gap_before text at n (length text - (at + n)) (length text - at) e (omega arith) c
cut_before text at n (t ∷ ts) e h c = (omega (arith, c.0), gap_before text at n (t.start - (at + n)) (t.start - at) e (omega (arith, c.0)) c.1, c.2)

-- what is to be shown of a list of tokens, if there is one
abbrev Cut : List ℕ → ℕ → Result (List Tok) LexError → Type 0
Cut text at r = (ts : List Tok) → r ≡ Ok ts → IsCut text at ts

not_cut : (text : List ℕ) (at : ℕ) (e : LexError) → Cut text at (Err e)
not_cut text at e ts h = cc

cut_none : (text : List ℕ) (at : ℕ) → length text ≤ at → Cut text at (Ok [])
cut_none text at h ts e =
    let same : [] ≡ ts = cc in
    subst (IsCut text at) same (no_gap (drop at text) (length text - at) (omega arith))

cut_token : (text : List ℕ) (t : Tok) (r : Result (List Tok) LexError) → Cut text t.end r → Cut text t.start (with_token t r)
cut_token text t (Ok us) h ts e =
    let same : t ∷ us ≡ ts = cc in
    subst (IsCut text t.start) same (omega arith, no_gap (drop t.start text) (t.start - t.start) (omega arith), h us refl)
cut_token text t (Err x) h ts e = cc

choice_cut : (text : List ℕ) (at : ℕ) (t : Bool) (a b : Result (List Tok) LexError) → Cut text at a → Cut text at b → Cut text at (cond t a b)
choice_cut text at true a b f g = f
choice_cut text at false a b f g = g

blank_cut : (text : List ℕ) (b : ℕ) (rest : List ℕ) (place : Position) (n : ℕ) → Left text (b ∷ rest) place → piece_at (b ∷ rest) ≡ Blank n → (r : Result (List Tok) LexError) → Cut text (place.at + 1 + (n - 1)) r → Cut text place.at r
blank_cut text b rest place n l e r c ts f =
    let piece = piece_blank b rest n e in
    let counts = left_counts text (b ∷ rest) place l in
    cut_before text place.at n ts (subst (λ (xs : List ℕ). is_blank_piece xs n ≡ true) (sym l) piece.blank) (omega (arith, counts, piece.within, piece.some))
    (subst (λ (k : ℕ). IsCut text k ts) (let same : place.at + 1 + (n - 1) ≡ place.at + n = omega (arith, piece.some) in same) (c ts f))

no_token_of_none : (text : List ℕ) (k : TokKind) (n : ℕ) → token_spelled (take n text) ≡ Some k → 0 < n
unfolding token_spelled integer_of character_spelled string_spelled punctuator_spelled
no_token_of_none text k zero e = absurd cc
no_token_of_none text k (suc n) e = omega arith

token_cut : (text : List ℕ) (b : ℕ) (rest : List ℕ) (place : Position) (k : TokKind) (n : ℕ) → piece_at (b ∷ rest) ≡ Token k n → (r : Result (List Tok) LexError) → Cut text (place.at + 1 + (n - 1)) r → Cut text place.at (with_token (token_of k n place) r)
token_cut text b rest place k n e r c =
    let some = no_token_of_none (b ∷ rest) k n (longest (b ∷ rest) k n (piece_token b rest k n e)).stands.spelled in
    cut_token text (token_of k n place) r (subst (λ (m : ℕ). Cut text m r) (let same : place.at + 1 + (n - 1) ≡ place.at + n = omega (arith, some) in same) c)

cut_after : (text : List ℕ) (b : ℕ) (rest : List ℕ) (place : Position) → Left text (b ∷ rest) place → ((passed : ℕ) (p : Position) → Left text rest p → passed ≤ length rest → Cut text (p.at + passed) (tokens_from rest passed p)) → (x : Piece) → piece_at (b ∷ rest) ≡ x → Cut text place.at (after_piece (tokens_from rest) b place x)
cut_after text b rest place l again (Blank n) e =
    let piece = piece_blank b rest n e in
    blank_cut text b rest place n l e (tokens_from rest (n - 1) (behind b place)) (again (n - 1) (behind b place) (left_behind text b rest place l) (omega (arith, piece.within, piece.some)))
cut_after text b rest place l again (Token k n) e =
    let p : Position = record place { last = place.line } in
    let stands = (longest (b ∷ rest) k n (piece_token b rest k n e)).stands in
    choice_cut text place.at (is_hash k && not (nat_lt place.last place.line)) (Err (error.Bad place.line)) (with_token (token_of k n place) (tokens_from rest (n - 1) (behind b p)))
    (not_cut text place.at (error.Bad place.line))
    (token_cut text b rest place k n e (tokens_from rest (n - 1) (behind b p)) (again (n - 1) (behind b p) (left_behind text b rest p l) (omega (arith, stands.within, no_token_of_none (b ∷ rest) k n stands.spelled))))
cut_after text b rest place l again Bad e = not_cut text place.at (error.Bad place.line)
cut_after text b rest place l again TooLong e = not_cut text place.at (error.Identifier place.line)

cut_from : (text : List ℕ) (xs : List ℕ) (passed : ℕ) (place : Position) → Left text xs place → passed ≤ length xs → Cut text (place.at + passed) (tokens_from xs passed place)
unfolding tokens_from
cut_from text [] passed place l h = cut_none text (place.at + passed) (omega (arith, left_counts text [] place l))
cut_from text (b ∷ rest) (suc passed) place l h =
    subst (λ (n : ℕ). Cut text n (tokens_from rest passed (behind b place))) (let same : place.at + 1 + passed ≡ place.at + suc passed = omega arith in same)
    (cut_from text rest passed (behind b place) (left_behind text b rest place l) (omega arith))
cut_from text (b ∷ rest) zero place l h =
    subst (λ (n : ℕ). Cut text n (after_piece (tokens_from rest) b place (piece_at (b ∷ rest)))) (let same : place.at ≡ place.at + 0 = omega arith in same)
    (cut_after text b rest place l (cut_from text rest) (piece_at (b ∷ rest)) refl)

pub cut : (text : List ℕ) (ts : List Tok) → tokens_of text ≡ Ok ts → IsCut text 0 ts
cut text ts e = cut_from text text 0 (record { at = 0; line = 1; last = 0 }) refl (omega arith) ts e
