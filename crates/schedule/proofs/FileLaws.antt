-- What is read of a text's lines is the content of a script file, and that of each script file is read.
use Rattle.std.proofs.Common.{◌≡◌, ℕ, suc, ◌+◌, ◌-◌, ◌<◌, ◌≤◌, Bool, true, false, Option, Some, None, Result, Ok, Err, List, [], ◌∷◌, ◌++◌, length, refl, sym, ap, ◌∙◌, subst, append_assoc, append-nil, nat_lt, arith}
use Rattle.std.specs.Prelude.{codes, if◌then◌else◌}
use Rattle.std.specs.List.{slice_get}
use Rattle.std.proofs.lemmas.Bool.{le-ltb, ltb-false}
use Rattle.text_lines.specs.Text.{lines_of}
use Rattle.pic_world.specs.declared.Arrival.{Arrival}
use Rattle.text_lines.specs.Front.{after}
use Rattle.text_lines.proofs.Words.{after_is, after_again}
use Rattle.pic_world.specs.Arrivals.{IsRising}
use Rattle.schedule.specs.ScriptFile as file
use Rattle.schedule.specs.ScriptFile.{ScriptContent, Piece, IsLine, AreLines, inputs_of, arrivals_of, AreScriptLines, IsScriptFile}
use Rattle.schedule.specs.Reading.{bytes_in, arrival_in, with_input, with_arrival, time_of, last_time, by_word, after_line, go_on, read_on, nothing}
use Rattle.std.proofs.lemmas.List.{length-append}
use Rattle.schedule.proofs.Fields.{guarded, bytes_are, bytes_again, arrival_is, arrival_again}

-- ---- a line
-- the content with what a piece tells
abbrev pub onto : ScriptContent → Piece → ScriptContent
onto m file.Blank = m
onto m (file.Input bytes) = record m { input = m.input ++ bytes }
onto m (file.At a) = record m { arrivals = m.arrivals ++ a ∷ [] }

-- a script may have the piece there
abbrev pub IsAllowed : ScriptContent → Piece → Type 0
IsAllowed m file.Blank = Unit {0}
IsAllowed m (file.Input bytes) = Unit {0}
IsAllowed m (file.At a) = last_time m.arrivals ≤ a.t

abbrev pub Tells : ScriptContent → List ℕ → ScriptContent → Type 0
Tells m line n = (p : Piece) × IsLine line p × IsAllowed m p × (onto m p ≡ n)

input_tells : (m n : ScriptContent) (line digits : List ℕ) (o : Option (List ℕ)) → line ≡ codes "input" ++ digits → bytes_in digits ≡ o → with_input m o ≡ Some n → Tells m line n
input_tells m n line digits None e f h = absurd (cc h)
input_tells m n line digits (Some bytes) e f h = (file.Input bytes, (digits, e, bytes_are digits bytes f), tt, cc h)

arrival_tells : (m n : ScriptContent) (line text : List ℕ) (o : Option Arrival) → line ≡ codes "at " ++ text → arrival_in text ≡ o → with_arrival m o ≡ Some n → Tells m line n
arrival_tells m n line text None e f h = absurd (cc h)
arrival_tells m n line text (Some a) e f h =
    let g = guarded (nat_lt a.t (last_time m.arrivals)) (Some (onto m (file.At a))) n h in
    let (digits, spelled, time) = arrival_is text a f in
    let same : onto m (file.At a) ≡ n = cc g.1 in
    (file.At a, (digits, e ∙ ap (λ t. codes "at " ++ t) spelled, time), ltb-false a.t (last_time m.arrivals) g.0, same)

word_tells : (m n : ScriptContent) (line : List ℕ) (x y : Option (List ℕ)) → after (codes "input") line ≡ x → after (codes "at ") line ≡ y → by_word m x y ≡ Some n → Tells m line n
word_tells m n line (Some digits) y e f h = input_tells m n line digits (bytes_in digits) (after_is (codes "input") line digits e) refl h
word_tells m n line None (Some text) e f h = arrival_tells m n line text (arrival_in text) (after_is (codes "at ") line text f) refl h
word_tells m n line None None e f h = absurd (cc h)

pub line_is : (m n : ScriptContent) (line : List ℕ) → after_line m line ≡ Some n → Tells m line n
unfolding after_line
line_is m n [] h = (file.Blank, refl, tt, cc h)
line_is m n (c ∷ line) h = word_tells m n (c ∷ line) (after (codes "input") (c ∷ line)) (after (codes "at ") (c ∷ line)) refl refl h

input_again : (m : ScriptContent) (text : List ℕ) → after_line m (codes "input" ++ text) ≡ with_input m (bytes_in text)
unfolding after_line
input_again m text = ap (λ x. by_word m x (after (codes "at ") (codes "input" ++ text))) (after_again (codes "input") text)

at_again : (m : ScriptContent) (text : List ℕ) → after_line m (codes "at " ++ text) ≡ with_arrival m (arrival_in text)
unfolding after_line after
at_again m text = ap (λ x. by_word m None x) (after_again (codes "at ") text)

empty_line : (m : ScriptContent) → after_line m [] ≡ Some m
unfolding after_line
empty_line m = refl

pub line_again : (m : ScriptContent) (line : List ℕ) (p : Piece) → IsLine line p → IsAllowed m p → after_line m line ≡ Some (onto m p)
line_again m line file.Blank h a = ap (after_line m) h ∙ empty_line m
line_again m line (file.Input bytes) h a =
    let (tail, e, are) = h in
    ap (after_line m) e ∙ input_again m tail ∙ ap (with_input m) (bytes_again tail bytes are)
line_again m line (file.At arrival) h a =
    let (digits, e, time) = h in
    let late : nat_lt arrival.t (last_time m.arrivals) ≡ false = le-ltb arrival.t (last_time m.arrivals) a in
    ap (after_line m) e ∙ at_again m (digits ++ file.flag_word arrival.flag) ∙ ap (with_arrival m) (arrival_again digits arrival time)
    ∙ ap (λ b. if◌then◌else◌ {A = Option ScriptContent} b None (Some (onto m (file.At arrival)))) late

-- ---- from a line on
last_is : (arrivals : List Arrival) (a : Arrival) → slice_get (arrivals ++ a ∷ []) (length arrivals) ≡ Some a
last_is [] a = refl
last_is (b ∷ arrivals) a = last_is arrivals a

pub last_of : (arrivals : List Arrival) (a : Arrival) → last_time (arrivals ++ a ∷ []) ≡ a.t
last_of arrivals a =
    let end : length (arrivals ++ a ∷ []) - 1 ≡ length arrivals = ap (λ n. n - 1) (length-append arrivals (a ∷ [])) ∙ omega arith in
    ap (λ n. time_of (slice_get (arrivals ++ a ∷ []) n)) end ∙ ap time_of (last_is arrivals a)

-- the lines tell what the content has more than the one so far
pub record Behind (m : ScriptContent) (lines : List (List ℕ)) (c : ScriptContent) : Type 0 where
  pub pieces : List Piece
  pub tell : AreLines lines pieces
  pub input : c.input ≡ m.input ++ inputs_of pieces
  pub arrivals : c.arrivals ≡ m.arrivals ++ arrivals_of pieces
  pub rising : IsRising (last_time m.arrivals) (arrivals_of pieces)

one_more : (m c : ScriptContent) (line : List ℕ) (lines : List (List ℕ)) (p : Piece) → IsLine line p → IsAllowed m p → Behind (onto m p) lines c → Behind m (line ∷ lines) c
one_more m c line lines file.Blank h a b = record { pieces = file.Blank ∷ b.pieces; tell = (h, b.tell); input = b.input; arrivals = b.arrivals; rising = b.rising }
one_more m c line lines (file.Input bytes) h a b = record {
  pieces = file.Input bytes ∷ b.pieces;
  tell = (h, b.tell);
  input = b.input ∙ append_assoc m.input bytes (inputs_of b.pieces);
  arrivals = b.arrivals;
  rising = b.rising;
}
one_more m c line lines (file.At arrival) h a b = record {
  pieces = file.At arrival ∷ b.pieces;
  tell = (h, b.tell);
  input = b.input;
  arrivals = b.arrivals ∙ append_assoc m.arrivals (arrival ∷ []) (arrivals_of b.pieces);
  rising = (a, subst (λ t. IsRising t (arrivals_of b.pieces)) (last_of m.arrivals arrival) b.rising);
}

no_result : (k : ℕ) (c : ScriptContent) → Err k ≡ Ok c → ⊥
no_result k c e = cc e

pub lines_are : (k : ℕ) (m c : ScriptContent) (lines : List (List ℕ)) → read_on k m lines ≡ Ok c → Behind m lines c
unfolding read_on
lines_are k m c [] h =
    let same : m ≡ c = cc h in
    record { pieces = []; tell = tt; input = ap (λ x. x.input) (sym same) ∙ sym (append-nil m.input); arrivals = ap (λ x. x.arrivals) (sym same) ∙ sym (append-nil m.arrivals); rising = tt }
lines_are k m c (line ∷ lines) h = by_line (λ n g. lines_are (k + 1) n c lines g) (after_line m line) refl h
  where
    by_line : ((n : ScriptContent) → read_on (k + 1) n lines ≡ Ok c → Behind n lines c) → (o : Option ScriptContent) → after_line m line ≡ o
        → go_on o k (λ n. read_on (k + 1) n lines) ≡ Ok c → Behind m (line ∷ lines) c
    by_line behind None e g = absurd (no_result k c g)
    by_line behind (Some n) e g =
        let (p, is, allowed, same) = line_is m n line e in
        one_more m c line lines p is allowed (subst (λ x. Behind x lines c) (sym same) (behind n g))

same_content : (m c : ScriptContent) → c.input ≡ m.input → c.arrivals ≡ m.arrivals → m ≡ c
same_content m c e f = ap (λ x. record { input = x; arrivals = m.arrivals }) (sym e) ∙ ap (λ x. record { input = c.input; arrivals = x }) (sym f)

allowed_first : (m : ScriptContent) (p : Piece) (pieces : List Piece) → IsRising (last_time m.arrivals) (arrivals_of (p ∷ pieces)) → IsAllowed m p
allowed_first m file.Blank pieces r = tt
allowed_first m (file.Input bytes) pieces r = tt
allowed_first m (file.At arrival) pieces r = r.0

rising_behind : (m : ScriptContent) (p : Piece) (pieces : List Piece) → IsRising (last_time m.arrivals) (arrivals_of (p ∷ pieces)) → IsRising (last_time (onto m p).arrivals) (arrivals_of pieces)
rising_behind m file.Blank pieces r = r
rising_behind m (file.Input bytes) pieces r = r
rising_behind m (file.At arrival) pieces r = subst (λ t. IsRising t (arrivals_of pieces)) (sym (last_of m.arrivals arrival)) r.1

input_behind : (m : ScriptContent) (p : Piece) (pieces : List Piece) → m.input ++ inputs_of (p ∷ pieces) ≡ (onto m p).input ++ inputs_of pieces
input_behind m file.Blank pieces = refl
input_behind m (file.Input bytes) pieces = sym (append_assoc m.input bytes (inputs_of pieces))
input_behind m (file.At arrival) pieces = refl

arrivals_behind : (m : ScriptContent) (p : Piece) (pieces : List Piece) → m.arrivals ++ arrivals_of (p ∷ pieces) ≡ (onto m p).arrivals ++ arrivals_of pieces
arrivals_behind m file.Blank pieces = refl
arrivals_behind m (file.Input bytes) pieces = refl
arrivals_behind m (file.At arrival) pieces = sym (append_assoc m.arrivals (arrival ∷ []) (arrivals_of pieces))

pub read_again : (k : ℕ) (m c : ScriptContent) (lines : List (List ℕ)) (pieces : List Piece) → AreLines lines pieces
    → c.input ≡ m.input ++ inputs_of pieces → c.arrivals ≡ m.arrivals ++ arrivals_of pieces → IsRising (last_time m.arrivals) (arrivals_of pieces) → read_on k m lines ≡ Ok c
unfolding read_on
read_again k m c [] [] t i a r = ap Ok (same_content m c (i ∙ append-nil m.input) (a ∙ append-nil m.arrivals))
read_again k m c [] (p ∷ pieces) t i a r = absurd t
read_again k m c (line ∷ lines) [] t i a r = absurd t
read_again k m c (line ∷ lines) (p ∷ pieces) t i a r =
    ap (λ o. go_on o k (λ n. read_on (k + 1) n lines)) (line_again m line p t.0 (allowed_first m p pieces r))
    ∙ read_again (k + 1) (onto m p) c lines pieces t.1 (i ∙ input_behind m p pieces) (a ∙ arrivals_behind m p pieces) (rising_behind m p pieces r)

pub script_is : (k : ℕ) (c : ScriptContent) (lines : List (List ℕ)) → read_on k nothing lines ≡ Ok c → AreScriptLines lines c
script_is k c lines h =
    let b = lines_are k nothing c lines h in
    record { pieces = b.pieces; tell = b.tell; input = b.input; arrivals = b.arrivals; rising = b.rising }

pub script_again : (k : ℕ) (c : ScriptContent) (lines : List (List ℕ)) → AreScriptLines lines c → read_on k nothing lines ≡ Ok c
script_again k c lines h = read_again k nothing c lines h.pieces h.tell h.input h.arrivals h.rising

same_ok : (r : Result ScriptContent ℕ) (a b : ScriptContent) → r ≡ Ok a → r ≡ Ok b → a ≡ b
same_ok r a b e f = cc (e, f)

-- each text has one content at most
pub one_only : (text : List ℕ) (a b : ScriptContent) → IsScriptFile text a → IsScriptFile text b → a ≡ b
one_only text a b h k = same_ok (read_on 1 nothing (lines_of text)) a b (script_again 1 a (lines_of text) h) (script_again 1 b (lines_of text) k)

-- ---- order
-- an arrival that doesn't come before the last one goes behind it
pub rising_behind_last : (t : ℕ) (xs : List Arrival) (a : Arrival) → IsRising t xs → t ≤ a.t → last_time xs ≤ a.t → IsRising t (xs ++ a ∷ [])
rising_behind_last t [] a h first last = (first, tt)
rising_behind_last t (x ∷ []) a h first last = (h.0, (last, tt))
rising_behind_last t (x ∷ y ∷ xs) a h first last =
    let same : length (x ∷ y ∷ xs) - 1 ≡ suc (length (y ∷ xs) - 1) = omega arith in
    let later : last_time (y ∷ xs) ≤ a.t = subst (λ n. time_of (slice_get (x ∷ y ∷ xs) n) ≤ a.t) same last in
    (h.0, rising_behind_last x.t (y ∷ xs) a h.1 (rising_last x.t (y ∷ xs) h.1 (omega arith) later) later)
  where
    rising_last : (t : ℕ) (xs : List Arrival) → IsRising t xs → 0 < length xs → last_time xs ≤ a.t → t ≤ a.t
    rising_last t [] h l last = absurd (omega arith)
    rising_last t (x ∷ []) h l last = let first = h.0 in omega (arith, first, last)
    rising_last t (x ∷ y ∷ xs) h l last =
        let same : length (x ∷ y ∷ xs) - 1 ≡ suc (length (y ∷ xs) - 1) = omega arith in
        let first = h.0 in
        let rest = rising_last x.t (y ∷ xs) h.1 (omega arith) (subst (λ n. time_of (slice_get (x ∷ y ∷ xs) n) ≤ a.t) same last) in
        omega (arith, first, rest)
