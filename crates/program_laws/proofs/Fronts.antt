-- A token of a text that is a name has the bytes of a name.
use Rattle.std.proofs.Common.{◌≡◌, ℕ, ◌-◌, ◌<◌, ◌≤◌, Bool, true, false, if◌then◌else◌, List, [], ◌∷◌, length, take, drop, Option, Some, None, refl, sym, ap, ◌∙◌, arith, true≢false}
use Rattle.std.specs.Option.{option_or}
use Rattle.std.specs.Prelude.{nat_le, ◌==◌}
use Rattle.std.specs.Str.{bytes_eq}
use Rattle.std.proofs.lemmas.Bool.{false≢true, and_from, le-leb}
use Rattle.std.proofs.lemmas.List.{length-take, length-drop}
use Rattle.c_token.specs.Constant.{◌>>=◌, number_in, integer_of, element_at, string_end}
use Rattle.c_token.specs.Longest.{is_word, character_spelled, string_spelled, punctuator_spelled, token_spelled, IsLongestIn}
use Rattle.c_token.specs.Token.{keyword_of, kind_of_word}
use Rattle.c_token.specs.declared.token.Tok.{Tok}
use Rattle.c_token.specs.declared.token.TokKind.{TokKind}
use Rattle.c_token.specs.declared.token.TokKind.TheVariants as kind
use Rattle.c_pre.specs.Words.{word_of}
use Rattle.c_nodes.specs.Kinds.{is_name}

-- where a token is a name, its bytes are those of one
abbrev pub Spelt : List ℕ → Tok → Type 0
Spelt text t = is_name t.kind ≡ true → is_word (word_of text t) ≡ true

-- ---- what else a token is

unfoldable NoName : Option TokKind → Type 0
NoName None = Unit {0}
NoName (Some k) = is_name k ≡ false

none_no : NoName None
unfolding NoName
none_no = tt

some_no : (k : TokKind) → is_name k ≡ false → NoName (Some k)
unfolding NoName
some_no k is = is

bind_no : {A : Type 0} (o : Option A) (f : A → Option TokKind) → ((a : A) → NoName (f a)) → NoName (o >>= f)
unfolding NoName
bind_no None f each = tt
bind_no (Some a) f each = each a

either_no : (t : Bool) (a b : Option TokKind) → NoName a → NoName b → NoName (if t then a else b)
either_no true a b f g = f
either_no false a b f g = g

first_no : (o p : Option TokKind) → NoName o → NoName p → NoName (option_or o p)
unfolding NoName
first_no None p f g = g
first_no (Some k) p f g = f

number_no : (base : ℕ) (bytes : List ℕ) → NoName (number_in base bytes)
unfolding number_in
number_no base bytes = either_no _ _ _ (bind_no _ _ (λ s. some_no _ refl)) none_no

integer_no : (bytes : List ℕ) → NoName (integer_of bytes)
unfolding integer_of
integer_no [] = none_no
integer_no (a ∷ []) = either_no _ _ _ (number_no 8 (a ∷ [])) (number_no 10 (a ∷ []))
integer_no (a ∷ b ∷ rest) = either_no _ _ _ (either_no _ _ _ (number_no 16 rest) (either_no _ _ _ (number_no 2 rest) (number_no 8 (a ∷ b ∷ rest)))) (number_no 10 (a ∷ b ∷ rest))

character_no : (bytes : List ℕ) → NoName (character_spelled bytes)
unfolding character_spelled
character_no [] = none_no
character_no (b ∷ rest) = either_no (b == 39) (element_at 39 rest >>= (λ element. if bytes_eq (drop element.1 rest) (39 ∷ []) then Some (kind.Char element.0) else None)) None
    (bind_no (element_at 39 rest) (λ element. if bytes_eq (drop element.1 rest) (39 ∷ []) then Some (kind.Char element.0) else None)
    (λ element. either_no (bytes_eq (drop element.1 rest) (39 ∷ [])) (Some (kind.Char element.0)) None (some_no (kind.Char element.0) refl) none_no)) none_no

string_no : (bytes : List ℕ) → NoName (string_spelled bytes)
unfolding string_spelled
string_no [] = none_no
string_no (b ∷ rest) = either_no (b == 34) (string_end 0 rest >>= (λ count. if count == length rest then Some kind.Text else None)) None
    (bind_no (string_end 0 rest) (λ count. if count == length rest then Some kind.Text else None) (λ count. either_no (count == length rest) (Some kind.Text) None (some_no kind.Text refl) none_no)) none_no

punctuator_no : (bytes : List ℕ) → NoName (punctuator_spelled bytes)
unfolding punctuator_spelled
punctuator_no bytes = bind_no _ _ (λ p. some_no (kind.Punct p) refl)

-- ---- names

clash : (rest : Option TokKind) (k : TokKind) → NoName rest → rest ≡ Some k → is_name k ≡ true → ⊥
unfolding NoName
clash None k free e name = cc e
clash (Some j) k free e name = true≢false (sym name ∙ (ap is_name (sym (kind_is j k e)) ∙ free))
  where
    kind_is : (a b : TokKind) → Some a ≡ Some b → a ≡ b
    kind_is a b e = cc

spelled_word : (bytes : List ℕ) (k : TokKind) → token_spelled bytes ≡ Some k → is_name k ≡ true → is_word bytes ≡ true
unfolding token_spelled
spelled_word bytes k e name = by (is_word bytes) (option_or (integer_of bytes) (option_or (character_spelled bytes) (option_or (string_spelled bytes) (punctuator_spelled bytes))))
    (first_no (integer_of bytes) _ (integer_no bytes) (first_no (character_spelled bytes) _ (character_no bytes) (first_no (string_spelled bytes) _ (string_no bytes) (punctuator_no bytes)))) e
  where
    by : (t : Bool) (rest : Option TokKind) → NoName rest → option_or (if t then Some (kind_of_word (keyword_of bytes)) else None) rest ≡ Some k → t ≡ true
    by true rest free e = refl
    by false rest free e = absurd (clash rest k free e name)

word_some : (bytes : List ℕ) → is_word bytes ≡ true → 0 < length bytes
word_some [] h = absurd (false≢true h)
word_some (b ∷ bytes) h = omega arith

-- a token of the text, at whose place it is the longest
pub raw_spelt : (text : List ℕ) (t : Tok) → IsLongestIn text t → Spelt text t
raw_spelt text t longest name =
    let word = spelled_word (take (t.end - t.start) (drop t.start text)) t.kind (longest.stands).spelled name in
    let some = word_some (take (t.end - t.start) (drop t.start text)) word in
    let taken = length-take (t.end - t.start) (drop t.start text) in
    let dropped = length-drop t.start text in
    let within = (longest.stands).within in
    let order : t.start ≤ t.end = omega (arith, some, taken) in
    let inside : t.end ≤ length text = omega (arith, some, taken, dropped, within) in
    let test = and_from (nat_le t.start t.end) (nat_le t.end (length text)) (le-leb t.start t.end order) (le-leb t.end (length text) inside) in
    ap (λ (b : Bool). is_word (if b then take (t.end - t.start) (drop t.start text) else [])) test ∙ word
