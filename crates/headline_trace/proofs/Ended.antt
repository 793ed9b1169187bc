-- Behind each label of a block stands a word, so the label is in the block's page.
use Rattle.std.proofs.Common.{◌≡◌, ℕ, ◌+◌, ◌/◌, ◌%◌, ◌<◌, ◌≤◌, Bool, true, false, not, if◌then◌else◌, List, [], ◌∷◌, ◌++◌, length, Option, Some, None, refl, sym, ap, ◌∙◌, arith}
use Rattle.std.specs.Option.{option_or}
use Rattle.std.specs.Global.{Global}
use Rattle.std.specs.declared.vec.Vec.{Vec}
use Rattle.std.proofs.lemmas.List.Sums.{sum_by-cons}
use Rattle.c_typed.specs.declared.calls.Helper.{Helper}
use Rattle.c_typed.specs.declared.calls.Helper.TheVariants.{Mul2, Mul4, Divu2, Divs2, Remu2, Rems2, Divu4, Divs4, Remu4, Rems4, Shl2, Shru2, Shrs2, Shl4, Shru4, Shrs4}
use Rattle.code_place.specs.Places.{label_at, label_of, is_label, at_if}
use Rattle.core_code.specs.Tree as trees
use Rattle.core_code.specs.Tree.{Tree, trees_of}
use Rattle.core_code.specs.declared.code.FirstByte.{FirstByte}
use Rattle.lean_code.specs.Admissible.{becomes_word, ends_by_word}
use Rattle.isr_save.specs.Start.{vector, objects_code, start_code, reset, main}
use Rattle.math_helpers.specs.Routines.{helper_code}
use Rattle.pic_world.specs.declared.Root.{Root}
use Rattle.select_code.specs.Selected.{Given, code_of, parts_code, body_code, leave_code}
use Rattle.select_code.specs.declared.control.Ending.{Ending}
use Rattle.select_code.specs.declared.control.Ending.TheVariants as endings
use Rattle.sym_code.specs.Selects.{is_select, bare}
use Rattle.sym_code.specs.Words.{words_in, words_of_one}
use Rattle.sym_code.specs.declared.code.Label.{Label}
use Rattle.sym_code.specs.declared.code.Label.TheVariants as labels
use Rattle.sym_code.specs.declared.code.Sym.{Sym}
use Rattle.sym_code.specs.declared.code.Sym.TheVariants as syms

ends_joined : (last : Bool) (xs ys : List Sym) → ends_by_word last (xs ++ ys) ≡ ends_by_word (ends_by_word last xs) ys
ends_joined last [] ys = refl
ends_joined last (x ∷ xs) ys = ends_joined (becomes_word x) xs ys

ends_later : (last : Bool) (list : List Sym) → ends_by_word last list ≡ true → ends_by_word true list ≡ true
ends_later last [] e = refl
ends_later last (s ∷ list) e = e

select_word : (s : Sym) → is_select s ≡ true → becomes_word s ≡ true
select_word (syms.SelectBank bit on) e = refl
select_word (syms.SelectPage bit target) e = refl
select_word (syms.Table table root) e = refl
select_word (syms.Label label) e = absurd (cc)
select_word (syms.File op file into) e = refl
select_word (syms.Movwf file) e = refl
select_word (syms.Clrf file) e = refl
select_word (syms.Bit op file bit) e = refl
select_word (syms.Literal op value) e = refl
select_word (syms.Plain op) e = refl
select_word (syms.Call target) e = refl
select_word (syms.Goto target) e = refl

one_word : (s : Sym) → becomes_word s ≡ true → words_of_one s ≡ 1
one_word (syms.SelectBank bit on) e = refl
one_word (syms.SelectPage bit target) e = refl
one_word (syms.Table table root) e = refl
one_word (syms.Label label) e = absurd (cc)
one_word (syms.File op file into) e = refl
one_word (syms.Movwf file) e = refl
one_word (syms.Clrf file) e = refl
one_word (syms.Bit op file bit) e = refl
one_word (syms.Literal op value) e = refl
one_word (syms.Plain op) e = refl
one_word (syms.Call target) e = refl
one_word (syms.Goto target) e = refl

label_wordless : (label : Label) (s : Sym) → is_label label (label_of s) ≡ true → becomes_word s ≡ false
label_wordless label (syms.Label l) e = refl
label_wordless label (syms.SelectBank bit on) e = absurd (cc)
label_wordless label (syms.SelectPage bit target) e = absurd (cc)
label_wordless label (syms.Table table root) e = absurd (cc)
label_wordless label (syms.File op file into) e = absurd (cc)
label_wordless label (syms.Movwf file) e = absurd (cc)
label_wordless label (syms.Clrf file) e = absurd (cc)
label_wordless label (syms.Bit op file bit) e = absurd (cc)
label_wordless label (syms.Literal op value) e = absurd (cc)
label_wordless label (syms.Plain op) e = absurd (cc)
label_wordless label (syms.Call target) e = absurd (cc)
label_wordless label (syms.Goto target) e = absurd (cc)

-- selects are words
pub ends_bare : (last : Bool) (list : List Sym) → ends_by_word last (bare list) ≡ true → ends_by_word last list ≡ true
ends_bare last [] e = e
ends_bare last (s ∷ list) e = by (is_select s) refl e (ends_bare last list) (ends_bare (becomes_word s) list) where
  by : (b : Bool) → is_select s ≡ b → ends_by_word last (if not b then s ∷ bare list else bare list) ≡ true → (ends_by_word last (bare list) ≡ true → ends_by_word last list ≡ true)
      → (ends_by_word (becomes_word s) (bare list) ≡ true → ends_by_word (becomes_word s) list ≡ true) → ends_by_word (becomes_word s) list ≡ true
  by true is h left on = ap (λ (b : Bool). ends_by_word b list) (select_word s is) ∙ ends_later last list (left h)
  by false is h left on = on h

-- ---- labels
word_behind : (list : List Sym) → ends_by_word false list ≡ true → 1 ≤ words_in list
word_behind [] e = absurd (cc)
word_behind (s ∷ list) e = by (becomes_word s) refl (word_behind list) e where
  by : (b : Bool) → becomes_word s ≡ b → (ends_by_word false list ≡ true → 1 ≤ words_in list) → ends_by_word b list ≡ true → 1 ≤ words_in (s ∷ list)
  by true is below h = let one = one_word s is in let sum = sum_by-cons words_of_one s list in omega arith
  by false is below h = let more = below h in let sum = sum_by-cons words_of_one s list in omega arith

some_nat : (a b : ℕ) → Some a ≡ Some b → a ≡ b
some_nat a b e = ap or_a e where
  or_a : Option ℕ → ℕ
  or_a None = a
  or_a (Some c) = c

pub label_inside : (label : Label) (last : Bool) (at : ℕ) (list : List Sym) (address : ℕ) → ends_by_word last list ≡ true → label_at label at list ≡ Some address
    → (at ≤ address) × (address < at + words_in list)
label_inside label last at [] address e is = absurd (cc)
label_inside label last at (s ∷ list) address e is =
    by (is_label label (label_of s)) refl is (label_inside label (becomes_word s) (at + words_of_one s) list address e) where
      by : (b : Bool) → is_label label (label_of s) ≡ b → option_or (at_if b at) (label_at label (at + words_of_one s) list) ≡ Some address
          → (label_at label (at + words_of_one s) list ≡ Some address → (at + words_of_one s ≤ address) × (address < at + words_of_one s + words_in list))
          → (at ≤ address) × (address < at + words_in (s ∷ list))
      by true here found below =
          let same = some_nat at address found in
          let more = word_behind list (ap (λ (b : Bool). ends_by_word b list) (sym (label_wordless label s here)) ∙ e) in
          let sum = sum_by-cons words_of_one s list in
          (omega arith, omega arith)
      by false here found below =
          let r = below found in
          let low = r.0 in
          let high = r.1 in
          let sum = sum_by-cons words_of_one s list in
          (omega arith, omega arith)

same_page : (start words address : ℕ) → start % 2048 + words ≤ 2048 → start ≤ address → address < start + words → address / 2048 ≡ start / 2048
same_page start words address fit low high = omega arith

-- a label stands in the page in which its block begins
pub label_paged : (label : Label) (start : ℕ) (list : List Sym) (address : ℕ) → ends_by_word true list ≡ true → start % 2048 + words_in list ≤ 2048 → label_at label start list ≡ Some address
    → address / 2048 ≡ start / 2048
label_paged label start list address ends fit is = let r = label_inside label true start list address ends is in same_page start (words_in list) address fit r.0 r.1

-- ---- code as it was selected
leave_ends : (last : Bool) (end : Ending) → ends_by_word last (leave_code end ++ []) ≡ true
leave_ends last endings.Halt = refl
leave_ends last endings.Restore = refl
leave_ends last endings.Return = refl

module _ (wide : Given) (end : Ending) where
  parts_end : (last : Bool) (at : ℕ) (before front : List Tree) → ends_by_word last (parts_code wide end [] at before (trees_of (front ++ trees.Leave ∷ [])) (length (front ++ trees.Leave ∷ []))) ≡ true
  parts_end last at before [] = leave_ends last end
  parts_end last at before (t ∷ front) =
      let code = code_of wide end [] at before t in
      ends_joined last code (parts_code wide end [] (at + length code) (before ++ t ∷ []) (trees_of (front ++ trees.Leave ∷ [])) (length (front ++ trees.Leave ∷ [])))
      ∙ parts_end (ends_by_word last code) (at + length code) (before ++ t ∷ []) front

  pub body_ends : (parts front : List Tree) → parts ≡ front ++ trees.Leave ∷ [] → ends_by_word true (body_code wide end 0 parts) ≡ true
  body_ends parts front is = ap (λ (ts : List Tree). ends_by_word true (body_code wide end 0 ts)) is ∙ parts_end true 0 [] front

  pub empty_ends : (parts : List Tree) → parts ≡ [] → ends_by_word true (body_code wide end 0 parts) ≡ true
  empty_ends parts is = ap (λ (ts : List Tree). ends_by_word true (body_code wide end 0 ts)) is

pub helper_ends : (h : Helper) (root : Root) (copy : ℕ) → ends_by_word true (helper_code h root copy) ≡ true
helper_ends Mul2 root copy = refl
helper_ends Mul4 root copy = refl
helper_ends Divu2 root copy = refl
helper_ends Divs2 root copy = refl
helper_ends Remu2 root copy = refl
helper_ends Rems2 root copy = refl
helper_ends Divu4 root copy = refl
helper_ends Divs4 root copy = refl
helper_ends Remu4 root copy = refl
helper_ends Rems4 root copy = refl
helper_ends Shl2 root copy = refl
helper_ends Shru2 root copy = refl
helper_ends Shrs2 root copy = refl
helper_ends Shl4 root copy = refl
helper_ends Shru4 root copy = refl
helper_ends Shrs4 root copy = refl

pub start_ends : (handler : Option ℕ) (statics : List (Vec FirstByte Global)) → ends_by_word true (start_code handler statics) ≡ true
start_ends handler statics = ends_joined true (reset ++ vector handler ++ (syms.Label (labels.Inner 0) ∷ []) ++ objects_code 0 statics) main
