-- The token that is read at a front is the longest that stands there, and where none is read, none
-- stands.
use Rattle.std.proofs.Common.{ℕ, zero, suc, ◌+◌, ◌≤◌, ◌≡◌, Bool, true, false, ◌&&◌, not, cond, Option, Some, None, List, [], ◌∷◌, length, drop, take, arith, ap, sym, ◌∙◌, refl, subst, eqb-true}
use Rattle.std.specs.Prelude.{◌==◌}
use Rattle.std.specs.Option.{option_or}
use Rattle.std.specs.List.{prefix_len, list_all}
use Rattle.std.proofs.lemmas.Bool.{and_parts, and_from, and_left, or_left, not-true}
use Rattle.std.proofs.lemmas.List.Sums.{prefix_len-le-length}
use Rattle.std.proofs.lemmas.Option.{same_Some, some_pair_parts}
use Rattle.c_token.specs.declared.token.TokKind.{TokKind}
use Rattle.c_token.specs.declared.token.TokKind.TheVariants as kind
use Rattle.c_token.specs.declared.token.Keyword.{Keyword}
use Rattle.c_token.specs.Bytes.{begins_name, is_decimal, is_name_byte, is_number_byte}
use Rattle.c_token.specs.Constant.{◌>>=◌, integer_of, character_at}
use Rattle.c_token.specs.Token.{keyword_of, kind_of_word, word_at, integer_at, string_at, punctuator_at, token_at}
use Rattle.c_token.specs.Longest.{is_word, word_spelled, character_spelled, string_spelled, punctuator_spelled, token_spelled, is_integer, number_goes_on, Stands, IsLongest, StandsNone}
use Rattle.c_token.proofs.LongestFronts.{bound, all_within, prefix_all, number_ends, number_whole}
use Rattle.c_token.proofs.LongestNumbers.{branches, word_bytes, decimal_no_name, integer_first, integer_is}
use Rattle.c_token.proofs.LongestElements.{string_reads, string_quoted, character_reads, character_quoted}
use Rattle.c_token.proofs.LongestPunctuators.{is_mark, begins_with_mark, Marked, punctuator_reads, punctuator_spells}

-- ---- the kinds of tokens exclude each other

or_first : {A : Type 0} (a b : Option A) (y : A) → a ≡ Some y → option_or a b ≡ Some y
or_first a b y e = ap (λ o. option_or o b) e

or_next : {A : Type 0} (a b : Option A) → a ≡ None → option_or a b ≡ b
or_next a b e = ap (λ o. option_or o b) e

either : {A P : Type 0} (a b : Option A) (y : A) → (a ≡ Some y → P) → (b ≡ Some y → P) → option_or a b ≡ Some y → P
either None b y f g e = g e
either (Some x) b y f g e = f e

none_from : {A : Type 0} (o : Option A) → ((x : A) → o ≡ Some x → ⊥) → o ≡ None
none_from None f = refl
none_from (Some x) f = absurd (f x refl)

no_word : (b : ℕ) (rest : List ℕ) → begins_name b ≡ false → word_spelled (b ∷ rest) ≡ None
no_word b rest e = ap (λ t. cond t (Some (kind_of_word (keyword_of (b ∷ rest)))) None) (and_left (begins_name b) (list_all is_name_byte rest) e)

no_integer : (b : ℕ) (rest : List ℕ) → is_decimal b ≡ false → integer_of (b ∷ rest) ≡ None
no_integer b rest e = none_from (integer_of (b ∷ rest)) (λ k i. let d = integer_first b rest k i in let no : true ≡ false = sym d ∙ e in cc)

no_character : (b : ℕ) (rest : List ℕ) → (b == 39) ≡ false → character_spelled (b ∷ rest) ≡ None
unfolding character_spelled
no_character b rest e = rw e refl

no_string : (b : ℕ) (rest : List ℕ) → (b == 34) ≡ false → string_spelled (b ∷ rest) ≡ None
unfolding string_spelled
no_string b rest e = rw e refl

-- ---- what the bytes of each kind are as a token

word_token : (bytes : List ℕ) → is_word bytes ≡ true → token_spelled bytes ≡ Some (kind_of_word (keyword_of bytes))
unfolding token_spelled
word_token bytes e =
    let k = kind_of_word (keyword_of bytes) in
    or_first (word_spelled bytes) (option_or (integer_of bytes) (option_or (character_spelled bytes) (option_or (string_spelled bytes) (punctuator_spelled bytes)))) k
    (ap (λ t. cond t (Some k) None) e)

integer_token : (bytes : List ℕ) (k : TokKind) → integer_of bytes ≡ Some k → token_spelled bytes ≡ Some k
unfolding token_spelled integer_of
integer_token [] k e = absurd cc
integer_token (b ∷ rest) k e =
    let more = option_or (character_spelled (b ∷ rest)) (option_or (string_spelled (b ∷ rest)) (punctuator_spelled (b ∷ rest))) in
    or_next (word_spelled (b ∷ rest)) (option_or (integer_of (b ∷ rest)) more) (no_word b rest (decimal_no_name b (integer_first b rest k e)))
    ∙ or_first (integer_of (b ∷ rest)) more k e

character_token : (rest : List ℕ) (k : TokKind) → character_spelled (39 ∷ rest) ≡ Some k → token_spelled (39 ∷ rest) ≡ Some k
unfolding token_spelled
character_token rest k e =
    let more = option_or (string_spelled (39 ∷ rest)) (punctuator_spelled (39 ∷ rest)) in
    or_next (integer_of (39 ∷ rest)) (option_or (character_spelled (39 ∷ rest)) more) (no_integer 39 rest refl)
    ∙ or_first (character_spelled (39 ∷ rest)) more k e

string_token : (rest : List ℕ) (k : TokKind) → string_spelled (34 ∷ rest) ≡ Some k → token_spelled (34 ∷ rest) ≡ Some k
unfolding token_spelled
string_token rest k e =
    let more = punctuator_spelled (34 ∷ rest) in
    or_next (integer_of (34 ∷ rest)) (option_or (character_spelled (34 ∷ rest)) (option_or (string_spelled (34 ∷ rest)) more)) (no_integer 34 rest refl)
    ∙ or_next (character_spelled (34 ∷ rest)) (option_or (string_spelled (34 ∷ rest)) more) (no_character 34 rest refl)
    ∙ or_first (string_spelled (34 ∷ rest)) more k e

-- what a mark is not
record Mark (b : ℕ) : Type 0 where
  name : begins_name b ≡ false
  decimal : is_decimal b ≡ false
  single : (b == 39) ≡ false
  double : (b == 34) ≡ false

mark_is : (b : ℕ) → is_mark b ≡ true → Mark b
mark_is b e =
    let p = and_parts (not (begins_name b)) (not (is_decimal b) && (not (b == 39) && not (b == 34))) e in
    let q = and_parts (not (is_decimal b)) (not (b == 39) && not (b == 34)) p.1 in
    let r = and_parts (not (b == 39)) (not (b == 34)) q.1 in
    record { name = not-true (begins_name b) p.0; decimal = not-true (is_decimal b) q.0; single = not-true (b == 39) r.0; double = not-true (b == 34) r.1 }

mark_token : (bytes : List ℕ) → begins_with_mark bytes ≡ true → token_spelled bytes ≡ punctuator_spelled bytes
unfolding token_spelled
mark_token [] e = absurd cc
mark_token (b ∷ rest) e =
    let m = mark_is b e in
    let p = punctuator_spelled (b ∷ rest) in
    or_next (word_spelled (b ∷ rest)) (option_or (integer_of (b ∷ rest)) (option_or (character_spelled (b ∷ rest)) (option_or (string_spelled (b ∷ rest)) p))) (no_word b rest m.name)
    ∙ or_next (integer_of (b ∷ rest)) (option_or (character_spelled (b ∷ rest)) (option_or (string_spelled (b ∷ rest)) p)) (no_integer b rest m.decimal)
    ∙ or_next (character_spelled (b ∷ rest)) (option_or (string_spelled (b ∷ rest)) p) (no_character b rest m.single)
    ∙ or_next (string_spelled (b ∷ rest)) p (no_string b rest m.double)

nothing : token_spelled [] ≡ None
unfolding token_spelled integer_of character_spelled string_spelled punctuator_spelled
nothing = refl

-- ---- what is read stands there

not_integer : (k : TokKind) {P : Type 0} → is_integer k ≡ false → is_integer k ≡ true → P
not_integer k e f = absurd (let no : false ≡ true = sym e ∙ f in cc)

word_kind : (o : Option Keyword) → is_integer (kind_of_word o) ≡ false
word_kind None = refl
word_kind (Some k) = refl

first_counts : (t : Bool) (n : ℕ) → t ≡ true → cond t (1 + n) 0 ≡ suc n
first_counts true n e = omega arith
first_counts false n e = absurd cc

word_stands : (b : ℕ) (rest : List ℕ) (k : TokKind) (n : ℕ) → begins_name b ≡ true → word_at (b ∷ rest) ≡ (k, n) → Stands (b ∷ rest) n k
unfolding word_at
word_stands b rest k n t e =
    let p = prefix_len is_name_byte rest in
    let count : n ≡ suc p = sym (ap (λ (x : TokKind × ℕ). x.1) e) ∙ first_counts (is_name_byte b) p (or_left (begins_name b) (is_decimal b) t) in
    let size = prefix_len-le-length is_name_byte rest in
    let word : is_word (b ∷ take p rest) ≡ true = and_from (begins_name b) (list_all is_name_byte (take p rest)) t (prefix_all is_name_byte p rest size (omega arith)) in
    let same : kind_of_word (keyword_of (take n (b ∷ rest))) ≡ k = ap (λ (c : ℕ). kind_of_word (keyword_of (take c (b ∷ rest)))) (sym (ap (λ (x : TokKind × ℕ). x.1) e)) ∙ ap (λ (x : TokKind × ℕ). x.0) e in
    record {
      within = omega arith;
      spelled = word_token (take n (b ∷ rest)) (ap (λ (c : ℕ). is_word (take c (b ∷ rest))) count ∙ word) ∙ ap Some same;
      ended = not_integer k (ap is_integer (sym same) ∙ word_kind (keyword_of (take n (b ∷ rest))));
    }

integer_stands : (text : List ℕ) (k : TokKind) (n : ℕ) → integer_at text ≡ Some (k, n) → Stands text n k
unfolding integer_at
integer_stands text k n e =
    let p = prefix_len is_number_byte text in
    let b = bound (integer_of (take p text)) (λ i. Some (i, p)) (k, n) e in
    let parts = some_pair_parts b.first k p n b.then in
    let spelled : integer_of (take n text) ≡ Some k = ap (λ (c : ℕ). integer_of (take c text)) (sym parts.1) ∙ b.is ∙ ap Some parts.0 in
    let size = prefix_len-le-length is_number_byte text in
    record {
      within = omega arith;
      spelled = integer_token (take n text) k spelled;
      ended = λ i. ap (λ (c : ℕ). number_goes_on (drop c text)) (sym parts.1) ∙ number_ends text;
    }

character_stands : (rest : List ℕ) (k : TokKind) (n : ℕ) → character_at rest ≡ Some (k, n) → Stands (39 ∷ rest) n k
character_stands rest k n e =
    let q = character_quoted rest k n e in
    let within = q.within in
    let made : Stands (39 ∷ rest) (suc q.further) k = record { within = omega arith; spelled = character_token (take q.further rest) k q.spells; ended = not_integer k q.kind_is } in
    subst (λ (c : ℕ). Stands (39 ∷ rest) c k) (sym q.is) made

string_stands : (rest : List ℕ) (k : TokKind) (n : ℕ) → string_at rest ≡ Some (k, n) → Stands (34 ∷ rest) n k
string_stands rest k n e =
    let q = string_quoted rest k n e in
    let within = q.within in
    let made : Stands (34 ∷ rest) (suc q.further) k = record { within = omega arith; spelled = string_token (take q.further rest) k q.spells; ended = not_integer k q.kind_is } in
    subst (λ (c : ℕ). Stands (34 ∷ rest) c k) (sym q.is) made

punctuator_stands : (text : List ℕ) (k : TokKind) (n : ℕ) → punctuator_at text ≡ Some (k, n) → Stands text n k
punctuator_stands text k n e =
    let s = punctuator_spells text k n e in
    record { within = s.within; spelled = mark_token (take n text) s.mark ∙ s.spells; ended = not_integer k s.kind_is }

stands : (text : List ℕ) (k : TokKind) (n : ℕ) → token_at text ≡ Some (k, n) → Stands text n k
unfolding token_at
stands [] k n e = absurd cc
stands (b ∷ rest) k n e =
    let marks = punctuator_at (b ∷ rest) in
    let strings = cond (b == 34) (string_at rest) marks in
    let characters = cond (b == 39) (character_at rest) strings in
    let integers = cond (is_decimal b) (integer_at (b ∷ rest)) characters in
    branches (begins_name b) (Some (word_at (b ∷ rest))) integers (k, n)
    (λ t g. word_stands b rest k n t (same_Some (word_at (b ∷ rest)) (k, n) g))
    (λ t g. branches (is_decimal b) (integer_at (b ∷ rest)) characters (k, n)
    (λ u h. integer_stands (b ∷ rest) k n h)
    (λ u h. branches (b == 39) (character_at rest) strings (k, n)
    (λ v i. subst (λ (c : ℕ). Stands (c ∷ rest) n k) (sym (eqb-true b 39 v)) (character_stands rest k n i))
    (λ v i. branches (b == 34) (string_at rest) marks (k, n)
    (λ w j. subst (λ (c : ℕ). Stands (c ∷ rest) n k) (sym (eqb-true b 34 w)) (string_stands rest k n j))
    (λ w j. punctuator_stands (b ∷ rest) k n j) i) h) g) e

-- ---- what stands there is read, or a longer one

record Reads (text : List ℕ) (m : ℕ) : Type 0 where
  token : TokKind × ℕ
  is : token_at text ≡ Some token
  enough : m ≤ token.1

word_reads : (m : ℕ) (b : ℕ) (rest : List ℕ) → m ≤ length (b ∷ rest) → begins_name b ≡ true → list_all is_name_byte (take m (b ∷ rest)) ≡ true → Reads (b ∷ rest) m
unfolding token_at word_at
word_reads m b rest l t e = record {
  token = word_at (b ∷ rest);
  is = rw t refl;
  enough = all_within is_name_byte m (b ∷ rest) l e;
}

integer_whole : (m : ℕ) (text : List ℕ) (k : TokKind) → m ≡ prefix_len is_number_byte text → integer_of (take m text) ≡ Some k → integer_at text ≡ Some (k, m)
unfolding integer_at
integer_whole m text k h e =
    let made : ℕ → TokKind → Option (TokKind × ℕ) = λ c i. Some (i, c) in
    let at : (integer_of (take m text) >>= made m) ≡ Some (k, m) = ap (λ o. o >>= made m) e in
    subst (λ (c : ℕ). (integer_of (take c text) >>= made c) ≡ Some (k, m)) h at

integer_reads : (m : ℕ) (b : ℕ) (rest : List ℕ) (k : TokKind) → is_decimal b ≡ true → integer_at (b ∷ rest) ≡ Some (k, m) → Reads (b ∷ rest) m
unfolding token_at
integer_reads m b rest k d e = record { token = (k, m); is = rw (decimal_no_name b d, d) e; enough = omega arith }

quoted_reads : (m : ℕ) (rest : List ℕ) (k : TokKind) → character_at rest ≡ Some (k, suc m) → Reads (39 ∷ rest) (suc m)
unfolding token_at
quoted_reads m rest k e = record { token = (k, suc m); is = e; enough = omega arith }

text_reads : (m : ℕ) (rest : List ℕ) (k : TokKind) → string_at rest ≡ Some (k, suc m) → Reads (34 ∷ rest) (suc m)
unfolding token_at
text_reads m rest k e = record { token = (k, suc m); is = e; enough = omega arith }

mark_reads : (m : ℕ) (b : ℕ) (rest : List ℕ) → is_mark b ≡ true → Marked m (b ∷ rest) → Reads (b ∷ rest) m
unfolding token_at
mark_reads m b rest t q =
    let k = mark_is b t in
    record { token = (kind.Punct q.punct, _); is = rw (k.name, k.decimal, k.single, k.double) q.is; enough = q.enough }

by_word : (m : ℕ) (b : ℕ) (rest : List ℕ) (j : TokKind) → m ≤ length rest → word_spelled (b ∷ take m rest) ≡ Some j → Reads (b ∷ rest) (suc m)
by_word m b rest j l e =
    branches (is_word (b ∷ take m rest)) (Some (kind_of_word (keyword_of (b ∷ take m rest)))) None j
    (λ t g. word_reads (suc m) b rest (omega arith) (and_parts (begins_name b) (list_all is_name_byte (take m rest)) t).0 (word_bytes (b ∷ take m rest) t))
    (λ t g. absurd cc) e

by_integer : (m : ℕ) (b : ℕ) (rest : List ℕ) (j : TokKind) → Stands (b ∷ rest) (suc m) j → integer_of (b ∷ take m rest) ≡ Some j → Reads (b ∷ rest) (suc m)
by_integer m b rest j s e =
    let i = integer_is (b ∷ take m rest) j e in
    let le = all_within is_number_byte (suc m) (b ∷ rest) s.within i.numbers in
    integer_reads (suc m) b rest j (integer_first b (take m rest) j e) (integer_whole (suc m) (b ∷ rest) j (number_whole (suc m) (b ∷ rest) le (s.ended i.is)) e)

by_character : (m : ℕ) (b : ℕ) (rest : List ℕ) (j : TokKind) → m ≤ length rest → character_spelled (b ∷ take m rest) ≡ Some j → Reads (b ∷ rest) (suc m)
by_character m b rest j l e = elim (b == 39) as (λ t. (b == 39) ≡ t → Reads (b ∷ rest) (suc m)) [
  | true ↦ λ t.
      let same = eqb-true b 39 t in
      subst (λ (c : ℕ). Reads (c ∷ rest) (suc m)) (sym same) (quoted_reads m rest j (character_reads m rest j l (subst (λ (c : ℕ). character_spelled (c ∷ take m rest) ≡ Some j) same e)))
  | false ↦ λ t. absurd (let no : None ≡ Some j = sym (no_character b (take m rest) t) ∙ e in cc)
] refl

by_string : (m : ℕ) (b : ℕ) (rest : List ℕ) (j : TokKind) → m ≤ length rest → string_spelled (b ∷ take m rest) ≡ Some j → Reads (b ∷ rest) (suc m)
by_string m b rest j l e = elim (b == 34) as (λ t. (b == 34) ≡ t → Reads (b ∷ rest) (suc m)) [
  | true ↦ λ t.
      let same = eqb-true b 34 t in
      subst (λ (c : ℕ). Reads (c ∷ rest) (suc m)) (sym same) (text_reads m rest j (string_reads m rest j l (subst (λ (c : ℕ). string_spelled (c ∷ take m rest) ≡ Some j) same e)))
  | false ↦ λ t. absurd (let no : None ≡ Some j = sym (no_string b (take m rest) t) ∙ e in cc)
] refl

by_punctuator : (m : ℕ) (b : ℕ) (rest : List ℕ) (j : TokKind) → m ≤ length rest → punctuator_spelled (b ∷ take m rest) ≡ Some j → Reads (b ∷ rest) (suc m)
by_punctuator m b rest j l e = let q = punctuator_reads (suc m) (b ∷ rest) j (omega arith) e in mark_reads (suc m) b rest q.mark q

reads : (text : List ℕ) (m : ℕ) (j : TokKind) → Stands text m j → Reads text m
unfolding token_spelled
reads [] zero j s = absurd (let no : None ≡ Some j = sym nothing ∙ s.spelled in cc)
reads [] (suc m) j s = absurd (let no : None ≡ Some j = sym nothing ∙ s.spelled in cc)
reads (b ∷ rest) zero j s = absurd (let no : None ≡ Some j = sym nothing ∙ s.spelled in cc)
reads (b ∷ rest) (suc m) j s =
    let bytes = b ∷ take m rest in
    let within = s.within in
    let l : m ≤ length rest = omega arith in
    let strings = option_or (string_spelled bytes) (punctuator_spelled bytes) in
    let characters = option_or (character_spelled bytes) strings in
    let integers = option_or (integer_of bytes) characters in
    either (word_spelled bytes) integers j (λ e. by_word m b rest j l e)
    (λ f. either (integer_of bytes) characters j (λ e. by_integer m b rest j s e)
    (λ g. either (character_spelled bytes) strings j (λ e. by_character m b rest j l e)
    (λ h. either (string_spelled bytes) (punctuator_spelled bytes) j (λ e. by_string m b rest j l e) (λ e. by_punctuator m b rest j l e) h) g) f) s.spelled

-- ---- the law

no_more : (text : List ℕ) (k : TokKind) (n m : ℕ) → token_at text ≡ Some (k, n) → Reads text m → m ≤ n
no_more text k n m e r =
    let both : Some r.token ≡ Some (k, n) = sym r.is ∙ e in
    let same = same_Some r.token (k, n) both in
    let size : r.token.1 ≡ n = ap (λ (x : TokKind × ℕ). x.1) same in
    let enough = r.enough in
    omega arith

pub longest : (text : List ℕ) (k : TokKind) (n : ℕ) → token_at text ≡ Some (k, n) → IsLongest text k n
longest text k n e = record { stands = stands text k n e; longest = λ m j s. no_more text k n m e (reads text m j s) }

pub none : (text : List ℕ) → token_at text ≡ None → StandsNone text
none text e m j s = let r = reads text m j s in let no : Some r.token ≡ None = sym r.is ∙ e in cc
