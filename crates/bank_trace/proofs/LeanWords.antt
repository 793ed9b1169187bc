-- What is made of rows needs no more words, with all selects that it may need, than the rows.
use Rattle.std.proofs.Common.{◌≡◌, ℕ, ◌+◌, ◌≤◌, Bool, true, false, ◌||◌, if◌then◌else◌, List, [], ◌∷◌, refl, sym, ◌∙◌, arith}
use Rattle.std.proofs.lemmas.List.Sums.{sum_by-cons}
use Rattle.core_code.specs.declared.code.Byte.TheVariants as bytes
use Rattle.sym_code.specs.Words as words
use Rattle.sym_code.specs.Words.{most_of_one, most_of_operand, is_common}
use Rattle.sym_code.specs.declared.code.Literal.TheVariants.{Number}
use Rattle.sym_code.specs.declared.code.Operand.{Operand}
use Rattle.sym_code.specs.declared.code.Operand.TheVariants as operands
use Rattle.sym_code.specs.declared.code.Sym.{Sym}
use Rattle.sym_code.specs.declared.code.Sym.TheVariants as syms
use Rattle.math_helpers.specs.Shape.{is_in_frame, accesses_frame, jumps, select_words, words_from, most_words}
use Rattle.lean_code.specs.Rows.{Keeps, Drops, Puts, Narrows, narrowed, Clears, cleared, Reads, Tests, FlagName, tests_flag, operand_before, reads_before, Row, At, olds, puts, is_label}
use Rattle.bank_trace.proofs.LeanRows.{never}

-- ---- two selects for each byte in a bank, and for each jump and call
one_by : (b : Bool) → 1 ≤ (if b then 1 else 3)
one_by true = omega arith
one_by false = omega arith

one_operand : (operand : Operand) → 1 ≤ most_of_operand operand
one_operand (operands.Byte byte) = one_by (is_common byte)
one_operand (operands.Register register) = omega arith
one_operand (operands.Saved saved) = omega arith

one_word : (s : Sym) → is_label s ≡ false → 1 ≤ most_of_one s
one_word (syms.Label label) l = never (sym l)
one_word (syms.File op operand to) l = one_operand operand
one_word (syms.Movwf operand) l = one_operand operand
one_word (syms.Clrf operand) l = one_operand operand
one_word (syms.Bit op operand bit) l = one_operand operand
one_word s l = omega arith

narrowed_most : (s : Sym) → most_of_one (narrowed s) ≤ most_of_one s
narrowed_most (syms.File op operand to) = omega arith
narrowed_most s = omega arith

cleared_most : (s : Sym) → most_of_one (cleared s) ≤ most_of_one s
cleared_most (syms.Movwf operand) = omega arith
cleared_most s = omega arith

operand_most : (n : ℕ) (operand : Operand) → most_of_operand (operand_before n operand) ≡ most_of_operand operand
operand_most n (operands.Byte (bytes.Frame copy offset)) = refl
operand_most n (operands.Byte (bytes.Static object offset)) = refl
operand_most n (operands.Byte (bytes.Result root k)) = refl
operand_most n (operands.Byte (bytes.Device address)) = refl
operand_most n (operands.Register register) = refl
operand_most n (operands.Saved cell) = refl

read_most : (n : ℕ) (s : Sym) → most_of_one (reads_before n s) ≤ most_of_one s
read_most n (syms.File op operand to) = let same = operand_most n operand in omega arith
read_most n (syms.Bit op operand bit) = let same = operand_most n operand in omega arith
read_most n s = omega arith

test_most : (flag : FlagName) (turned : Bool) (s : Sym) → most_of_one (tests_flag flag turned s) ≤ most_of_one s
test_most flag turned (syms.Bit op operand bit) = one_operand operand
test_most flag turned s = omega arith

more : (s t : Sym) (list made : List Sym) → most_of_one t ≤ most_of_one s → words.most_words made ≤ words.most_words list → words.most_words (t ∷ made) ≤ words.most_words (s ∷ list)
more s t list made one before =
    let a = sum_by-cons most_of_one s list in
    let b = sum_by-cons most_of_one t made in
    omega arith

less : (s : Sym) (list made : List Sym) → words.most_words made ≤ words.most_words list → words.most_words made ≤ words.most_words (s ∷ list)
less s list made before = let a = sum_by-cons most_of_one s list in omega arith

pub most_fewer : (rows : List Row) → words.most_words (puts rows) ≤ words.most_words (olds rows)
most_fewer [] = omega arith
most_fewer (At (syms.Label label) act said ∷ rows) = more (syms.Label label) (syms.Label label) (olds rows) (puts rows) (omega arith) (most_fewer rows)
most_fewer (At s Keeps said ∷ rows) = more s s (olds rows) (puts rows) (omega arith) (most_fewer rows)
most_fewer (At s Drops said ∷ rows) = less s (olds rows) (puts rows) (most_fewer rows)
most_fewer (At s (Puts op n) said ∷ rows) = more s (syms.Literal op (Number n)) (olds rows) (puts rows) (one_word s refl) (most_fewer rows)
most_fewer (At s Narrows said ∷ rows) = more s (narrowed s) (olds rows) (puts rows) (narrowed_most s) (most_fewer rows)
most_fewer (At s Clears said ∷ rows) = more s (cleared s) (olds rows) (puts rows) (cleared_most s) (most_fewer rows)
most_fewer (At s (Reads n) said ∷ rows) = more s (reads_before n s) (olds rows) (puts rows) (read_most n s) (most_fewer rows)
most_fewer (At s (Tests flag turned) said ∷ rows) = more s (tests_flag flag turned s) (olds rows) (puts rows) (test_most flag turned s) (most_fewer rows)

-- ---- the selects of the frame's bank and of the page where they aren't selected
-- an access that stays, or becomes none: what was selected by it may have to be selected later on
one_stays : (b c t s : Bool) → (t ≡ true → s ≡ true) → select_words b t + select_words (b || t) (c || s) ≤ select_words c s + select_words b c
one_stays true true true true h = omega arith
one_stays true true true false h = omega arith
one_stays true true false true h = omega arith
one_stays true true false false h = omega arith
one_stays true false true true h = omega arith
one_stays true false true false h = omega arith
one_stays true false false true h = omega arith
one_stays true false false false h = omega arith
one_stays false true true true h = omega arith
one_stays false true true false h = never (h refl)
one_stays false true false true h = omega arith
one_stays false true false false h = omega arith
one_stays false false true true h = omega arith
one_stays false false true false h = never (h refl)
one_stays false false false true h = omega arith
one_stays false false false false h = omega arith

one_goes : (b c s : Bool) → select_words b (c || s) ≤ select_words c s + select_words b c
one_goes true true true = omega arith
one_goes true true false = omega arith
one_goes true false true = omega arith
one_goes true false false = omega arith
one_goes false true true = omega arith
one_goes false true false = omega arith
one_goes false false true = omega arith
one_goes false false false = omega arith

words_step : (bank page : Bool) (s : Sym) (rest : List Sym) → is_label s ≡ false → words_from bank page (s ∷ rest) ≡ 1 + select_words bank (accesses_frame s) + select_words page (jumps s) + words_from (bank || accesses_frame s) (page || jumps s) rest
words_step bank page (syms.Label label) rest e = never (sym e)
words_step bank page s rest e = refl

abbrev Fewer : List Sym → List Sym → Type 0
Fewer old made = (b p c q : Bool) → words_from b p made ≤ words_from c q old + select_words b c + select_words p q

stays : (s t : Sym) (old made : List Sym) → is_label s ≡ false → is_label t ≡ false → (accesses_frame t ≡ true → accesses_frame s ≡ true) → (jumps t ≡ true → jumps s ≡ true) → Fewer old made → Fewer (s ∷ old) (t ∷ made)
stays s t old made l m banks pages later b p c q =
    let before = words_step c q s old l in
    let after = words_step b p t made m in
    let rest = later (b || accesses_frame t) (p || jumps t) (c || accesses_frame s) (q || jumps s) in
    let bank = one_stays b c (accesses_frame t) (accesses_frame s) banks in
    let page = one_stays p q (jumps t) (jumps s) pages in
    omega arith

goes : (s : Sym) (old made : List Sym) → is_label s ≡ false → Fewer old made → Fewer (s ∷ old) made
goes s old made l later b p c q =
    let before = words_step c q s old l in
    let rest = later b p (c || accesses_frame s) (q || jumps s) in
    let bank = one_goes b c (accesses_frame s) in
    let page = one_goes p q (jumps s) in
    omega arith

narrowed_frame : (s : Sym) → accesses_frame (narrowed s) ≡ true → accesses_frame s ≡ true
narrowed_frame (syms.File op operand to) e = e
narrowed_frame s e = e

narrowed_jumps : (s : Sym) → jumps (narrowed s) ≡ true → jumps s ≡ true
narrowed_jumps (syms.File op operand to) e = e
narrowed_jumps s e = e

narrowed_word : (s : Sym) → is_label s ≡ false → is_label (narrowed s) ≡ false
narrowed_word (syms.File op operand to) l = refl
narrowed_word s l = l

cleared_frame : (s : Sym) → accesses_frame (cleared s) ≡ true → accesses_frame s ≡ true
cleared_frame (syms.Movwf operand) e = e
cleared_frame s e = e

cleared_jumps : (s : Sym) → jumps (cleared s) ≡ true → jumps s ≡ true
cleared_jumps (syms.Movwf operand) e = e
cleared_jumps s e = e

cleared_word : (s : Sym) → is_label s ≡ false → is_label (cleared s) ≡ false
cleared_word (syms.Movwf operand) l = refl
cleared_word s l = l

operand_frame : (n : ℕ) (operand : Operand) → is_in_frame (operand_before n operand) ≡ is_in_frame operand
operand_frame n (operands.Byte (bytes.Frame copy offset)) = refl
operand_frame n (operands.Byte (bytes.Static object offset)) = refl
operand_frame n (operands.Byte (bytes.Result root k)) = refl
operand_frame n (operands.Byte (bytes.Device address)) = refl
operand_frame n (operands.Register register) = refl
operand_frame n (operands.Saved cell) = refl

read_frame : (n : ℕ) (s : Sym) → accesses_frame (reads_before n s) ≡ true → accesses_frame s ≡ true
read_frame n (syms.File op operand to) e = sym (operand_frame n operand) ∙ e
read_frame n (syms.Bit op operand bit) e = sym (operand_frame n operand) ∙ e
read_frame n s e = e

read_jumps : (n : ℕ) (s : Sym) → jumps (reads_before n s) ≡ true → jumps s ≡ true
read_jumps n (syms.File op operand to) e = e
read_jumps n (syms.Bit op operand bit) e = e
read_jumps n s e = e

read_word : (n : ℕ) (s : Sym) → is_label s ≡ false → is_label (reads_before n s) ≡ false
read_word n (syms.File op operand to) l = refl
read_word n (syms.Bit op operand bit) l = refl
read_word n s l = l

test_frame : (flag : FlagName) (turned : Bool) (s : Sym) → accesses_frame (tests_flag flag turned s) ≡ true → accesses_frame s ≡ true
test_frame flag turned (syms.Bit op operand bit) e = never e
test_frame flag turned s e = e

test_jumps : (flag : FlagName) (turned : Bool) (s : Sym) → jumps (tests_flag flag turned s) ≡ true → jumps s ≡ true
test_jumps flag turned (syms.Bit op operand bit) e = e
test_jumps flag turned s e = e

test_word : (flag : FlagName) (turned : Bool) (s : Sym) → is_label s ≡ false → is_label (tests_flag flag turned s) ≡ false
test_word flag turned (syms.Bit op operand bit) l = refl
test_word flag turned s l = l

few_from : (rows : List Row) → Fewer (olds rows) (puts rows)
few_from [] b p c q = omega arith
few_from (At (syms.Label label) act said ∷ rows) b p c q = let later = few_from rows false false false false in omega arith
few_from (At s Keeps said ∷ rows) b p c q = stays s s (olds rows) (puts rows) refl refl (λ e. e) (λ e. e) (few_from rows) b p c q
few_from (At s Drops said ∷ rows) b p c q = goes s (olds rows) (puts rows) refl (few_from rows) b p c q
few_from (At s (Puts op n) said ∷ rows) b p c q = stays s (syms.Literal op (Number n)) (olds rows) (puts rows) refl refl (λ e. never e) (λ e. never e) (few_from rows) b p c q
few_from (At s Narrows said ∷ rows) b p c q = stays s (narrowed s) (olds rows) (puts rows) refl (narrowed_word s refl) (narrowed_frame s) (narrowed_jumps s) (few_from rows) b p c q
few_from (At s Clears said ∷ rows) b p c q = stays s (cleared s) (olds rows) (puts rows) refl (cleared_word s refl) (cleared_frame s) (cleared_jumps s) (few_from rows) b p c q
few_from (At s (Reads n) said ∷ rows) b p c q = stays s (reads_before n s) (olds rows) (puts rows) refl (read_word n s refl) (read_frame n s) (read_jumps n s) (few_from rows) b p c q
few_from (At s (Tests flag turned) said ∷ rows) b p c q = stays s (tests_flag flag turned s) (olds rows) (puts rows) refl (test_word flag turned s refl) (test_frame flag turned s) (test_jumps flag turned s) (few_from rows) b p c q

pub routine_fewer : (rows : List Row) → most_words (puts rows) ≤ most_words (olds rows)
routine_fewer rows = let few = few_from rows false false false false in omega arith
