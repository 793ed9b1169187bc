-- How many words the code of some operations of byte code takes, wherever they stand in a body.
use Rattle.std.proofs.Common.{◌≡◌, ℕ, zero, suc, ◌+◌, ◌*◌, ◌≤◌, Bool, true, false, not, ◌&&◌, cond, List, [], ◌∷◌, ◌++◌, length, length-append, Option, Some, None, option_map, refl, sym, ap, ◌∙◌, subst, append_assoc, arith}
use Rattle.std.proofs.lemmas.List.Sums.{sum_by-cons}
use Rattle.std.proofs.lemmas.Option.{none-some, same_Some}
use Rattle.call_graph.specs.declared.types.FnCopy.{FnCopy}
use Rattle.core_code.specs.Tree as code
use Rattle.core_code.specs.Tree.{Tree, Trees, many, list_of, trees_of}
use Rattle.core_code.specs.declared.code.Byte.{Byte}
use Rattle.pic_world.specs.declared.Root.{Root}
use Rattle.sym_code.specs.Selects.{is_select}
use Rattle.sym_code.specs.Words.{most_words, most_of_one}
use Rattle.sym_code.specs.declared.code.BitOperation.TheVariants.{Btfsc, Btfss}
use Rattle.sym_code.specs.declared.code.FileOperation.TheVariants.{Movf, Iorwf}
use Rattle.sym_code.specs.declared.code.Into.TheVariants.{W}
use Rattle.sym_code.specs.declared.code.Label.{Label}
use Rattle.sym_code.specs.declared.code.Sym.{Sym}
use Rattle.sym_code.specs.declared.code.Operand.TheVariants as operands
use Rattle.sym_code.specs.declared.code.Register.TheVariants.{Status}
use Rattle.sym_code.specs.declared.code.Sym.TheVariants as syms
use Rattle.sym_code.specs.declared.code.Target.{Target}
use Rattle.sym_code.specs.declared.code.Target.TheVariants as target
use Rattle.bank_page.specs.Kinds.{is_skip}
use Rattle.select_code.specs.Pieces.{byte_behind, file_code, flag_bit, flag_code, ors_code, test_code, jump_code, unless_code, goto_code, label_code, first_label, second_label}
use Rattle.select_code.specs.Selected.{code_of, parts_code, first_code, IfForm, Jumps, Leaps, Half, Other, Whole, if_form, if_code, turned, is_exit, short_list}
use Rattle.select_code.specs.declared.control.Ending.{Ending}
use Rattle.select_code.specs.declared.pieces.Flag.TheVariants.{Zero}
use Rattle.select_wide.specs.Selection.{wide_code}
use Rattle.program_code.specs.Counting.{has_behind, counted}
use Rattle.program_code.proofs.Chain.{never, has_none, none_later}
use Rattle.program_code.proofs.Paying.{extra, IsMine, easy_mine, mine_behind, Pays, pays_none, pays_on, pays_more, pays_less, pays_from, pays_most, pays_plain, Tame, Held, held_on, tame_on, held_more}
use Rattle.program_code.proofs.Operations.{file_one, file_tame, clrw_bare}
use Rattle.program_code.proofs.Operators.{Loose}

-- the words of a test, with the frame's selects
abbrev pub test_most : ℕ → ℕ
test_most zero = 1
test_most (suc w) = w + 3

module _ (list : List FnCopy) (root : Root) (end : Ending) (c : ℕ) where
  -- the code of an operation, and of several, in these loops, behind so many instructions and these operations
  abbrev pub one_code : List ℕ → ℕ → List Tree → Tree → List Sym
  one_code loops at before t = code_of (λ at before tree. wide_code list root before tree) end loops at before t

  abbrev pub some_code : List ℕ → ℕ → List Tree → List Tree → List Sym
  some_code loops at before ts = parts_code (λ at before tree. wide_code list root before tree) end loops at before (trees_of ts) (length ts)

  abbrev pub One : Bool → ℕ → Bool → Tree → Type 0
  One has n last t = (loops : List ℕ) (at : ℕ) (before : List Tree) → Pays c has false n last false (one_code loops at before t)

  abbrev pub Costs : Bool → ℕ → Bool → List Tree → Type 0
  Costs has n last ts = (loops : List ℕ) (at : ℕ) (before : List Tree) → Pays c has false n last false (some_code loops at before ts)

  -- from nothing known to nothing known
  abbrev pub Takes : ℕ → List Tree → Type 0
  Takes n ts = Costs false n false ts

  -- on bytes of the frame and results alone
  abbrev pub Tames : ℕ → List Tree → Type 0
  Tames n ts = (has : Bool) → Costs has (n + extra has) true ts

  abbrev pub Helds : ℕ → List Tree → Type 0
  Helds n ts = Costs true n true ts

  pub one_more : (has last : Bool) (n m : ℕ) (t : Tree) → n ≤ m → One has n last t → One has m last t
  one_more has last n m t l h loops at before = pays_more c has false last false n m (one_code loops at before t) l (h loops at before)

  pub costs_more : (has last : Bool) (n m : ℕ) (ts : List Tree) → n ≤ m → Costs has n last ts → Costs has m last ts
  costs_more has last n m ts l h loops at before = pays_more c has false last false n m (some_code loops at before ts) l (h loops at before)

  pub costs_less : (has last less : Bool) (n : ℕ) (ts : List Tree) → (less ≡ true → last ≡ true) → Costs has n last ts → Costs has n less ts
  costs_less has last less n ts h p loops at before = pays_less c has false last less false n (some_code loops at before ts) h (p loops at before)

  pub costs_from : (has less last : Bool) (n : ℕ) (ts : List Tree) → (less ≡ true → has ≡ true) → Costs less n last ts → Costs has n last ts
  costs_from has less last n ts h p loops at before = pays_from c has less false last false n (some_code loops at before ts) h (p loops at before)

  pub costs_none : (has : Bool) → Costs has 0 has []
  costs_none has loops at before = pays_none c has false

  pub costs_one : (has last : Bool) (n : ℕ) (t : Tree) → One has n last t → Costs has n last (t ∷ [])
  costs_one has last n t h loops at before =
      pays_more c has false last false (n + 0) n (some_code loops at before (t ∷ [])) (omega arith) (pays_on c has false last false last false n 0 (one_code loops at before t) [] (h loops at before) (pays_none c last false))

  -- ---- one behind the other
  append_none : {A : Type 0} (xs : List A) → xs ++ [] ≡ xs
  append_none [] = refl
  append_none (x ∷ xs) = ap (λ l. x ∷ l) (append_none xs)

  parts_split : (xs ys : List Tree) (loops : List ℕ) (at : ℕ) (before : List Tree)
      → some_code loops at before (xs ++ ys) ≡ some_code loops at before xs ++ some_code loops (at + length (some_code loops at before xs)) (before ++ xs) ys
  parts_split [] ys loops at before =
      let z : at ≡ at + 0 = omega arith in
      ap (λ n. some_code loops n before ys) z ∙ ap (λ (l : List Tree). some_code loops (at + 0) l ys) (sym (append_none before))
  parts_split (x ∷ xs) ys loops at before =
      let one = one_code loops at before x in
      let next = before ++ x ∷ [] in
      let later = some_code loops (at + length one) next xs in
      let sum : at + length one + length later ≡ at + (length one + length later) = omega arith in
      let place : at + length one + length later ≡ at + length (one ++ later) = sum ∙ ap (λ n. at + n) (sym (length-append one later)) in
      ap (λ (l : List Sym). one ++ l) (parts_split xs ys loops (at + length one) next)
      ∙ sym (append_assoc one later (some_code loops (at + length one + length later) (next ++ xs) ys))
      ∙ ap (λ n. one ++ later ++ some_code loops n (next ++ xs) ys) place
      ∙ ap (λ (l : List Tree). one ++ later ++ some_code loops (at + length (one ++ later)) l ys) (append_assoc before (x ∷ []) xs)

  pub costs_on : (has mid last : Bool) (n m : ℕ) (xs ys : List Tree) → Costs has n mid xs → Costs mid m last ys → Costs has (n + m) last (xs ++ ys)
  costs_on has mid last n m xs ys p q loops at before =
      subst (Pays c has false (n + m) last false) (sym (parts_split xs ys loops at before))
      (pays_on c has false mid false last false n m (some_code loops at before xs) (some_code loops (at + length (some_code loops at before xs)) (before ++ xs) ys) (p loops at before) (q loops (at + length (some_code loops at before xs)) (before ++ xs)))

  pub takes_on : (n m : ℕ) (xs ys : List Tree) → Takes n xs → Takes m ys → Takes (n + m) (xs ++ ys)
  takes_on n m xs ys p q = costs_on false false false n m xs ys p q

  pub takes_more : (n m : ℕ) (xs : List Tree) → n ≤ m → Takes n xs → Takes m xs
  takes_more n m xs l p = costs_more false false n m xs l p

  pub takes_none : Takes 0 []
  takes_none = costs_none false

  pub tames_on : (n m : ℕ) (xs ys : List Tree) → Tames n xs → Helds m ys → Tames (n + m) (xs ++ ys)
  tames_on n m xs ys p q has = costs_more has true (n + extra has + m) (n + m + extra has) (xs ++ ys) (omega arith) (costs_on has true true (n + extra has) m xs ys (p has) q)

  pub helds_on : (n m : ℕ) (xs ys : List Tree) → Helds n xs → Helds m ys → Helds (n + m) (xs ++ ys)
  helds_on n m xs ys p q = costs_on true true true n m xs ys p q

  pub helds_more : (n m : ℕ) (xs : List Tree) → n ≤ m → Helds n xs → Helds m xs
  helds_more n m xs l p = costs_more true true n m xs l p

  pub helds_tames : (n : ℕ) (xs : List Tree) → Tames n xs → Helds n xs
  helds_tames n xs p = costs_more true true (n + 0) n xs (omega arith) (p true)

  pub tames_more : (n m : ℕ) (xs : List Tree) → n ≤ m → Tames n xs → Tames m xs
  tames_more n m xs l p has = costs_more has true (n + extra has) (m + extra has) xs (omega (arith, l)) (p has)

  pub takes_tames : (n : ℕ) (xs : List Tree) → Tames n xs → Takes (n + 2) xs
  takes_tames n xs p = costs_less false true false (n + 2) xs (λ e. never e) (p false)

  pub tames_one : (n : ℕ) (t : Tree) → ((loops : List ℕ) (at : ℕ) (before : List Tree) → Tame c n (one_code loops at before t)) → Tames n (t ∷ [])
  tames_one n t h has = costs_one has true (n + extra has) t (λ loops at before. h loops at before has)

  pub takes_loose : (n : ℕ) (t : Tree) → ((loops : List ℕ) (at : ℕ) (before : List Tree) → Loose c n (one_code loops at before t)) → Takes (n + 2) (t ∷ [])
  takes_loose n t h = costs_one false false (n + 2) t (λ loops at before. h loops at before false)

  -- several as one
  list_is : (ts : List Tree) → list_of (trees_of ts) ≡ ts
  list_is [] = refl
  list_is (t ∷ ts) = ap (λ l. t ∷ l) (list_is ts)

  pub many_one : (has last : Bool) (n : ℕ) (ts : List Tree) → Costs has n last ts → One has n last (many ts)
  many_one has last n ts h loops at before =
      subst (λ k. Pays c has false n last false (parts_code (λ at before tree. wide_code list root before tree) end loops at [] (trees_of ts) k)) (ap length (sym (list_is ts))) (h loops at [])

  -- ---- conditions
  ors_held : (first : Byte) (w : ℕ) → IsMine c first → Held c (1 * w) (ors_code first w)
  ors_held first zero h = pays_none c true false
  ors_held first (suc w) h =
      held_more c (1 * w + 1) (1 * suc w) (ors_code first (suc w)) (omega arith)
      (held_on c (1 * w) 1 (ors_code first w) (file_code Iorwf (byte_behind first (suc w)) W) (ors_held first w h) (file_one c Iorwf (byte_behind first (suc w)) W refl (easy_mine c (byte_behind first (suc w)) (mine_behind c first (suc w) h))))

  pub test_pays : (test : Byte) (w : ℕ) → IsMine c test → Pays c false false (test_most w) false false (test_code test w)
  test_pays test zero h = clrw_bare c false
  test_pays test (suc w) h =
      pays_less c false false true false false (w + 3) (test_code test (suc w)) (λ e. never e)
      (pays_more c false false true false (1 + 1 * w + 2) (w + 3) (test_code test (suc w)) (omega arith)
      (tame_on c 1 (1 * w) (file_code Movf test W) (ors_code test w) (file_tame c Movf test W refl h) (ors_held test w h) false))

  pub goto_pays : (label : Label) (has behind : Bool) → Pays c has behind 3 false false (goto_code label)
  goto_pays label has behind =
      let one = sum_by-cons most_of_one (syms.Goto (target.Label label)) [] in
      pays_more c has behind false false (most_words (goto_code label)) 3 (goto_code label) (omega (arith, one)) (pays_most c has behind (goto_code label) refl)

  pub label_pays : (label : Label) (has : Bool) → Pays c has false 0 false false (label_code label)
  label_pays label has =
      let one = sum_by-cons most_of_one (syms.Label label) [] in
      pays_more c has false false false (most_words (label_code label)) 0 (label_code label) (omega (arith, one)) (pays_most c has false (label_code label) refl)

  pub jump_pays : (label : Label) → Pays c false false 4 false false (jump_code label)
  jump_pays label = pays_on c false false false true false false 1 3 (flag_code Btfsc Zero) (goto_code label) (flag_free false) (goto_pays label false true)
    where
      flag_free : (has : Bool) → Pays c has false 1 has true (flag_code Btfsc Zero)
      flag_free has = pays_plain c (syms.Bit Btfsc (operands.Register Status) (flag_bit Zero)) has false (refl, refl, refl, refl, refl)

  unless_pays : (label : Label) → Pays c false false 4 false false (unless_code label)
  unless_pays label = pays_on c false false false true false false 1 3 (flag_code Btfss Zero) (goto_code label) (flag_free false) (goto_pays label false true)
    where
      flag_free : (has : Bool) → Pays c has false 1 has true (flag_code Btfss Zero)
      flag_free has = pays_plain c (syms.Bit Btfss (operands.Register Status) (flag_bit Zero)) has false (refl, refl, refl, refl, refl)

  if_pays : (form : IfForm) (at n h f : ℕ) (test : List Sym) (holds fails : ℕ → List Sym) → Pays c false false n false false test → ((k : ℕ) → Pays c false false h false false (holds k)) → ((k : ℕ) → Pays c false false f false false (fails k))
      → Pays c false false (n + 7 + h + f) false false (if_code form at test holds fails)
  if_pays (Jumps to) at n h f test holds fails p q r =
      pays_more c false false false false (n + 4) (n + 7 + h + f) (test ++ jump_code to) (omega arith) (pays_on c false false false false false false n 4 test (jump_code to) p (jump_pays to))
  if_pays (Leaps to) at n h f test holds fails p q r =
      pays_more c false false false false (n + 4) (n + 7 + h + f) (test ++ unless_code to) (omega arith) (pays_on c false false false false false false n 4 test (unless_code to) p (unless_pays to))
  if_pays Half at n h f test holds fails p q r =
      let to = second_label at in
      let head = test ++ jump_code to in
      pays_more c false false false false (n + 4 + h + 0) (n + 7 + h + f) (head ++ holds (at + length head) ++ label_code to) (omega arith)
      (pays_on c false false false false false false (n + 4 + h) 0 (head ++ holds (at + length head)) (label_code to)
      (pays_on c false false false false false false (n + 4) h head (holds (at + length head)) (pays_on c false false false false false false n 4 test (jump_code to) p (jump_pays to)) (q (at + length head)))
      (label_pays to false))
  if_pays Other at n h f test holds fails p q r =
      let to = second_label at in
      let head = test ++ unless_code to in
      pays_more c false false false false (n + 4 + f + 0) (n + 7 + h + f) (head ++ fails (at + length head) ++ label_code to) (omega arith)
      (pays_on c false false false false false false (n + 4 + f) 0 (head ++ fails (at + length head)) (label_code to)
      (pays_on c false false false false false false (n + 4) f head (fails (at + length head)) (pays_on c false false false false false false n 4 test (unless_code to) p (unless_pays to)) (r (at + length head)))
      (label_pays to false))
  if_pays Whole at n h f test holds fails p q r =
      let to = first_label at in
      let past = second_label at in
      let head = test ++ jump_code to in
      let middle = head ++ holds (at + length head) ++ goto_code past ++ label_code to in
      pays_more c false false false false (n + 4 + h + 3 + 0 + f + 0) (n + 7 + h + f) (middle ++ fails (at + length middle) ++ label_code past) (omega arith)
      (pays_on c false false false false false false (n + 4 + h + 3 + 0 + f) 0 (middle ++ fails (at + length middle)) (label_code past)
      (pays_on c false false false false false false (n + 4 + h + 3 + 0) f middle (fails (at + length middle))
      (pays_on c false false false false false false (n + 4 + h + 3) 0 (head ++ holds (at + length head) ++ goto_code past) (label_code to)
      (pays_on c false false false false false false (n + 4 + h) 3 (head ++ holds (at + length head)) (goto_code past)
      (pays_on c false false false false false false (n + 4) h head (holds (at + length head)) (pays_on c false false false false false false n 4 test (jump_code to) p (jump_pays to)) (q (at + length head)))
      (goto_pays past false false))
      (label_pays to false))
      (r (at + length middle)))
      (label_pays past false))

  pub if_one : (test : Byte) (w h f : ℕ) (holds fails : Tree) → IsMine c test → One false h false holds → One false f false fails → One false (test_most w + 7 + h + f) false (code.If test w holds fails)
  if_one test w h f holds fails mine p q loops at before =
      if_pays (if_form loops holds fails) at (test_most w) h f (test_code test w) (λ n. one_code loops n [] holds) (λ n. one_code loops n [] fails) (test_pays test w mine) (λ n. p loops n []) (λ n. q loops n [])

  -- ---- loops
  -- a label takes no more than a jump in its place
  label_for_goto : (P : List Sym) (has behind : Bool) (label : Label) (to : Target) (rest : List Sym) → counted c has behind (P ++ syms.Label label ∷ rest) ≤ counted c has behind (P ++ syms.Goto to ∷ rest)
  label_for_goto [] has behind label to rest = omega arith
  label_for_goto (s ∷ P) has behind label to rest = let h = label_for_goto P (has_behind c has behind s) (is_skip s) label to rest in omega (arith, h)

  none_before : (P : List Sym) (label : Label) (to : Target) → has_none (P ++ syms.Goto to ∷ []) ≡ true → has_none (P ++ label_code label) ≡ true
  none_before [] label to e = refl
  none_before (s ∷ P) label to e = by_first (is_select s) (has_none (P ++ syms.Goto to ∷ [])) (has_none (P ++ label_code label)) e (none_before P label to (none_later s (P ++ syms.Goto to ∷ []) e))
    where
      by_first : (a b d : Bool) → (not a && b) ≡ true → d ≡ true → (not a && d) ≡ true
      by_first true b d e f = e
      by_first false b d e f = f

  short_pays : (n : ℕ) (P : List Sym) (label : Label) (to : Target) → Pays c false false n false false (P ++ syms.Goto to ∷ []) → Pays c false false n false false (P ++ label_code label)
  short_pays n P label to p = (
    λ rest.
        let l = label_for_goto P false false label to rest in
        let f = p.0 rest in
        let a = ap (counted c false false) (append_assoc P (label_code label) rest) in
        let b = ap (counted c false false) (append_assoc P (syms.Goto to ∷ []) rest) in
        omega (arith, l, f, a, b),
    none_before P label to p.1,
  )

  -- the first of some operations
  first_is : (xs ys : List Tree) (loops : List ℕ) (at : ℕ) (before : List Tree) → parts_code (λ at before tree. wide_code list root before tree) end loops at before (trees_of (xs ++ ys)) (length xs) ≡ some_code loops at before xs
  first_is [] [] loops at before = refl
  first_is [] (y ∷ ys) loops at before = refl
  first_is (x ∷ xs) ys loops at before = ap (λ (l : List Sym). one_code loops at before x ++ l) (first_is xs ys loops (at + length (one_code loops at before x)) (before ++ x ∷ []))

  short_end : (xs : List Tree) → short_list (xs ++ code.Exit 0 ∷ []) ≡ Some (length xs)
  short_end [] = refl
  short_end (x ∷ []) = refl
  short_end (x ∷ y ∷ xs) = ap (option_map (λ count. suc count)) (short_end (y ∷ xs))

  exit_is : (t : Tree) → is_exit t ≡ true → t ≡ code.Exit 0
  exit_is (code.Exit zero) e = refl
  exit_is (code.Exit (suc k)) e = never e
  exit_is (code.Set to value) e = never e
  exit_is (code.Address to place) e = never e
  exit_is (code.Copy to from) e = never e
  exit_is (code.Load to pointer count) e = never e
  exit_is (code.Store pointer from count) e = never e
  exit_is (code.Unary op ty at) e = never e
  exit_is (code.Binary op ty to left right) e = never e
  exit_is (code.Convert from to at) e = never e
  exit_is (code.BitRead to register bit) e = never e
  exit_is (code.BitWrite register bit from) e = never e
  exit_is (code.Call copy) e = never e
  exit_is code.Leave e = never e
  exit_is (code.Many parts) e = never e
  exit_is (code.If test size holds fails) e = never e
  exit_is (code.Loop body) e = never e
  exit_is (code.Again k) e = never e

  -- a list that ends with leaving the loop
  abbrev EndsAt : List Tree → ℕ → Type 0
  EndsAt body k = (xs : List Tree) × (body ≡ xs ++ code.Exit 0 ∷ []) × (length xs ≡ k)

  short_split : (body : List Tree) (k : ℕ) → short_list body ≡ Some k → EndsAt body k
  short_split [] k e = absurd (none-some k e)
  short_split (t ∷ []) k e = by_exit (is_exit t) refl e
    where
      by_exit : (b : Bool) → is_exit t ≡ b → cond b (Some 0) None ≡ Some k → EndsAt (t ∷ []) k
      by_exit true f e = ([], ap (λ x. x ∷ []) (exit_is t f), same_Some 0 k e)
      by_exit false f e = absurd (none-some k e)
  short_split (t ∷ u ∷ ts) k e = by_later (short_list (u ∷ ts)) (λ n f. short_split (u ∷ ts) n f) e
    where
      by_later : (o : Option ℕ) → ((n : ℕ) → o ≡ Some n → EndsAt (u ∷ ts) n) → option_map (λ count. suc count) o ≡ Some k → EndsAt (t ∷ u ∷ ts) k
      by_later None h e = absurd (none-some k e)
      by_later (Some n) h e =
          let later = h n refl in
          (t ∷ later.0, ap (λ (l : List Tree). t ∷ l) later.1, ap (λ m. suc m) later.2 ∙ same_Some (suc n) k e)

  -- the code of a loop, by its turn
  abbrev turn_of : List ℕ → ℕ → List Tree → Option ℕ → List Sym
  turn_of loops at body short =
      turned (option_map (λ count. first_code (λ at before tree. wide_code list root before tree) end (at ∷ loops) (at + 1) count (many body)) short) (one_code (at ∷ loops) (at + 1) [] (many body)) (first_label at)

  turn_pays : (n : ℕ) (body : List Tree) (loops : List ℕ) (at : ℕ) (short : Option ℕ) → short_list body ≡ short → Takes n body → Pays c false false (n + 3) false false (turn_of loops at body short ++ label_code (second_label at))
  turn_pays n body loops at None e p =
      pays_more c false false false false (n + 3 + 0) (n + 3) (turn_of loops at body None ++ label_code (second_label at)) (omega arith)
      (pays_on c false false false false false false (n + 3) 0 (one_code (at ∷ loops) (at + 1) [] (many body) ++ goto_code (first_label at)) (label_code (second_label at))
      (pays_on c false false false false false false n 3 (one_code (at ∷ loops) (at + 1) [] (many body)) (goto_code (first_label at)) (many_one false false n body p (at ∷ loops) (at + 1) []) (goto_pays (first_label at) false false))
      (label_pays (second_label at) false))
  turn_pays n body loops at (Some k) e p =
      let ends = short_split body k e in
      let xs = ends.0 in
      let P = some_code (at ∷ loops) (at + 1) [] xs in
      let whole : some_code (at ∷ loops) (at + 1) [] body ≡ P ++ goto_code (second_label at) =
      ap (some_code (at ∷ loops) (at + 1) []) ends.1 ∙ parts_split xs (code.Exit 0 ∷ []) (at ∷ loops) (at + 1) [] in
      let turn : turn_of loops at body (Some k) ≡ P =
      ap (λ (l : List Tree). turn_of loops at l (Some k)) ends.1 ∙ ap (λ m. turn_of loops at (xs ++ code.Exit 0 ∷ []) (Some m)) (sym ends.2) ∙ first_is xs (code.Exit 0 ∷ []) (at ∷ loops) (at + 1) [] in
      pays_more c false false false false n (n + 3) (turn_of loops at body (Some k) ++ label_code (second_label at)) (omega arith)
      (subst (λ (l : List Sym). Pays c false false n false false (l ++ label_code (second_label at))) (sym turn)
      (short_pays n P (second_label at) (target.Label (second_label at)) (subst (Pays c false false n false false) whole (p (at ∷ loops) (at + 1) []))))

  -- ---- single operations
  abbrev pub Tamed : ℕ → Tree → Type 0
  Tamed n t = (loops : List ℕ) (at : ℕ) (before : List Tree) → Tame c n (one_code loops at before t)

  pub helds_one : (n : ℕ) (t : Tree) → Tamed n t → Helds n (t ∷ [])
  helds_one n t h = helds_tames n (t ∷ []) (tames_one n t h)

  pub takes_one : (n : ℕ) (t : Tree) → One false n false t → Takes n (t ∷ [])
  takes_one n t h = costs_one false false n t h

  pub loop_one : (n : ℕ) (body : List Tree) → Takes n body → One false (n + 3) false (code.Loop (many body))
  loop_one n body p loops at before =
      let short = short_list (list_of (trees_of body)) in
      let turn = turn_of loops at body short in
      subst (Pays c false false (n + 3) false false) (sym (append_assoc (label_code (first_label at)) turn (label_code (second_label at))))
      (pays_more c false false false false (0 + (n + 3)) (n + 3) (label_code (first_label at) ++ (turn ++ label_code (second_label at))) (omega arith)
      (pays_on c false false false false false false 0 (n + 3) (label_code (first_label at)) (turn ++ label_code (second_label at)) (label_pays (first_label at) false) (turn_pays n body loops at short (ap short_list (sym (list_is body))) p)))

  -- one that ends by leaving itself
  pub once_one : (n : ℕ) (body : List Tree) → Takes n body → One false n false (code.Loop (many (body ++ code.Exit 0 ∷ [])))
  once_one n body p loops at before =
      let whole = body ++ code.Exit 0 ∷ [] in
      let short : short_list (list_of (trees_of whole)) ≡ Some (length body) = ap short_list (list_is whole) ∙ short_end body in
      let turn : turn_of loops at whole (short_list (list_of (trees_of whole))) ≡ some_code (at ∷ loops) (at + 1) [] body =
      ap (turn_of loops at whole) short ∙ first_is body (code.Exit 0 ∷ []) (at ∷ loops) (at + 1) [] in
      subst (λ (l : List Sym). Pays c false false n false false (label_code (first_label at) ++ l ++ label_code (second_label at))) (sym turn)
      (pays_more c false false false false (0 + n + 0) n (label_code (first_label at) ++ some_code (at ∷ loops) (at + 1) [] body ++ label_code (second_label at)) (omega arith)
      (pays_on c false false false false false false (0 + n) 0 (label_code (first_label at) ++ some_code (at ∷ loops) (at + 1) [] body) (label_code (second_label at))
      (pays_on c false false false false false false 0 n (label_code (first_label at)) (some_code (at ∷ loops) (at + 1) [] body) (label_pays (first_label at) false) (p (at ∷ loops) (at + 1) []))
      (label_pays (second_label at) false)))
