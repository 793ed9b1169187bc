-- Names of the text, and names that are made of them.
use Rattle.std.proofs.Common.{◌≡◌, ℕ, zero, suc, ◌+◌, ◌/◌, ◌%◌, ◌<◌, Bool, true, false, ◌==◌, ◌&&◌, if◌then◌else◌, List, [], ◌∷◌, ◌++◌, length, refl, arith, length-append}
use Rattle.std.specs.Fmt.{decimal, digits, digits_onto, digit_glyph}
use Rattle.std.specs.List.{list_all}
use Rattle.std.proofs.lemmas.Bool.{false≢true, and_from, or_left}
use Rattle.c_token.specs.Bytes.{is_decimal, begins_name, is_name_byte}
use Rattle.c_token.specs.Longest.{is_word}
use Rattle.c_nodes.specs.Trees.{DeclaratorTree, Declares, IsDeclarator, spelled_declarator, spelled_suffixes}
use Rattle.c_nodes.specs.Words.{Symbols}
use Rattle.type_rules.specs.Declarators.{name_in}
use Rattle.type_rules.specs.Objects.{block_name}
use Rattle.program_laws.specs.Named.{AreWords, is_dotted_byte, IsDotted}

-- ---- tokens of parts of a tree

pub words_left : (xs ys : Symbols) → AreWords (xs ++ ys) → AreWords xs
words_left [] ys h = tt
words_left (x ∷ xs) ys h = (h.0, words_left xs ys h.1)

pub words_right : (xs ys : Symbols) → AreWords (xs ++ ys) → AreWords ys
words_right [] ys h = h
words_right (x ∷ xs) ys h = words_right xs ys h.1

pub declared_word : (d : DeclaratorTree) → IsDeclarator d → AreWords (spelled_declarator d) → is_word (name_in d) ≡ true
declared_word (Declares ps n ss) is words = (words_right ps (n ∷ spelled_suffixes ss) words).0 is.1

-- ---- bytes

both : (a b : Bool) → (a && b) ≡ true → (a ≡ true) × (b ≡ true)
both true b e = (refl, e)
both false b e = absurd (false≢true e)

all_weaker : (p q : ℕ → Bool) → ((b : ℕ) → p b ≡ true → q b ≡ true) → (bs : List ℕ) → list_all p bs ≡ true → list_all q bs ≡ true
all_weaker p q so [] h = refl
all_weaker p q so (b ∷ bs) h = let parts = both (p b) (list_all p bs) h in and_from (q b) (list_all q bs) (so b parts.0) (all_weaker p q so bs parts.1)

all_joined : (p : ℕ → Bool) (xs ys : List ℕ) → list_all p xs ≡ true → list_all p ys ≡ true → list_all p (xs ++ ys) ≡ true
all_joined p [] ys h g = g
all_joined p (x ∷ xs) ys h g = let parts = both (p x) (list_all p xs) h in and_from (p x) (list_all p (xs ++ ys)) parts.0 (all_joined p xs ys parts.1 g)

name_dotted : (b : ℕ) → is_name_byte b ≡ true → is_dotted_byte b ≡ true
name_dotted b h = or_left (is_name_byte b) (b == 46) h

begins_dotted : (b : ℕ) → begins_name b ≡ true → is_dotted_byte b ≡ true
begins_dotted b h = name_dotted b (or_left (begins_name b) (is_decimal b) h)

pub word_dotted : (name : List ℕ) → is_word name ≡ true → IsDotted name
word_dotted [] h = absurd (false≢true h)
word_dotted (b ∷ rest) h =
    let parts = both (begins_name b) (list_all is_name_byte rest) h in
    record { some = omega arith; bytes = and_from (is_dotted_byte b) (list_all is_dotted_byte rest) (begins_dotted b parts.0) (all_weaker is_name_byte is_dotted_byte name_dotted rest parts.1) }

-- ---- numbers

digit_dotted : (d : ℕ) → d < 10 → is_dotted_byte (digit_glyph false d) ≡ true
digit_dotted zero h = refl
digit_dotted (suc zero) h = refl
digit_dotted (suc (suc zero)) h = refl
digit_dotted (suc (suc (suc zero))) h = refl
digit_dotted (suc (suc (suc (suc zero)))) h = refl
digit_dotted (suc (suc (suc (suc (suc zero))))) h = refl
digit_dotted (suc (suc (suc (suc (suc (suc zero)))))) h = refl
digit_dotted (suc (suc (suc (suc (suc (suc (suc zero))))))) h = refl
digit_dotted (suc (suc (suc (suc (suc (suc (suc (suc zero)))))))) h = refl
digit_dotted (suc (suc (suc (suc (suc (suc (suc (suc (suc zero))))))))) h = refl
digit_dotted (suc (suc (suc (suc (suc (suc (suc (suc (suc (suc d)))))))))) h = absurd (omega (arith, h))

digits_dotted : (k n : ℕ) (acc : List ℕ) → list_all is_dotted_byte acc ≡ true → list_all is_dotted_byte (digits_onto k 10 false n acc) ≡ true
digits_dotted zero n acc h = h
digits_dotted (suc k) n acc h = by (n / 10 == 0) (digits_dotted k (n / 10) (digit_glyph false (n % 10) ∷ acc) more)
  where
    more : list_all is_dotted_byte (digit_glyph false (n % 10) ∷ acc) ≡ true
    more = and_from (is_dotted_byte (digit_glyph false (n % 10))) (list_all is_dotted_byte acc) (digit_dotted (n % 10) (omega arith)) h

    by : (t : Bool) → list_all is_dotted_byte (digits_onto k 10 false (n / 10) (digit_glyph false (n % 10) ∷ acc)) ≡ true
        → list_all is_dotted_byte (if t then digit_glyph false (n % 10) ∷ acc else digits_onto k 10 false (n / 10) (digit_glyph false (n % 10) ∷ acc)) ≡ true
    by true rest = more
    by false rest = rest

decimal_dotted : (n : ℕ) → list_all is_dotted_byte (decimal n) ≡ true
unfolding digits
decimal_dotted n = digits_dotted 64 n [] refl

-- FUNCTION.K.NAME
longer : (xs ys : List ℕ) → 0 < length xs → 0 < length (xs ++ ys)
longer xs ys h = omega (arith, h, length-append xs ys)

pub block_dotted : (f : List ℕ) (k : ℕ) (name : List ℕ) → is_word f ≡ true → is_word name ≡ true → IsDotted (block_name f k name)
block_dotted f k name wf wn = record {
  some = longer (f ++ 46 ∷ decimal k) (46 ∷ name) (longer f (46 ∷ decimal k) (word_dotted f wf).some);
  bytes = all_joined is_dotted_byte (f ++ 46 ∷ decimal k) (46 ∷ name) (all_joined is_dotted_byte f (46 ∷ decimal k) (word_dotted f wf).bytes (decimal_dotted k)) (word_dotted name wn).bytes;
}
