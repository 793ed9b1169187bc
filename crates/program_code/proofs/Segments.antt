-- How many words the parts of statements take that hold no other statement: jumps, conditions, and the loops of a switch.
use Rattle.std.proofs.Common.{◌≡◌, ℕ, zero, suc, ◌+◌, ◌*◌, ◌≤◌, Bool, true, false, List, [], ◌∷◌, ◌++◌, Option, Some, None, refl, sym, subst, arith}
use Rattle.c_ints.specs.Range.{bytes_of, pattern}
use Rattle.c_ints.specs.declared.operators.BinOp.TheVariants.{Eq}
use Rattle.c_ints.specs.declared.types.IntTy.{IntTy}
use Rattle.c_ints.specs.declared.types.IntTy.TheVariants as int
use Rattle.c_typed.specs.Fits.{fits, Used}
use Rattle.c_typed.specs.Sameness.{is_promoted}
use Rattle.c_typed.specs.Sound.{any_condition_fits, any_fits}
use Rattle.c_typed.specs.Sameness.{is_scalar}
use Rattle.c_typed.specs.Trees.{Expression, FunctionTree, Program}
use Rattle.c_typed.specs.Types.{type_bytes, type_of, value_bytes}
use Rattle.c_typed.specs.Words.{words, any_words, condition_words, cases_words}
use Rattle.c_typed.specs.declared.statement.TCase.{TCase}
use Rattle.c_typed.specs.declared.types.Ty.{Ty}
use Rattle.c_typed.specs.declared.types.Ty.TheVariants.{Void, Int, Pointer, Array, Struct}
use Rattle.call_graph.specs.declared.types.FnCopy.{FnCopy}
use Rattle.core_code.specs.Tree as core
use Rattle.core_code.specs.Tree.{Tree, many}
use Rattle.core_code.specs.declared.code.Byte.{Byte}
use Rattle.core_puts.specs.Bytes.{operation_type}
use Rattle.core_puts.specs.Puts.{sets, test_size}
use Rattle.lower_stmt.specs.Ground.{Ground, first, temporary, value_code, effect_code}
use Rattle.lower_stmt.specs.Ground as ground
use Rattle.lower_stmt.specs.Labels.{segments_before}
use Rattle.lower_stmt.specs.Statements.{any_code, condition_code}
use Rattle.lower_stmt.specs.Switches.{comparison, leading, case_code, cases_code, otherwise_segment, comparisons, Segments, no_segments, joined, cut, nest, around, for_labels}
use Rattle.pic_world.specs.declared.Root.{Root}
use Rattle.select_code.specs.Selected.{jump_target, goes_to, leave_code}
use Rattle.select_code.specs.declared.control.Ending.{Ending}
use Rattle.select_code.specs.declared.control.Ending.TheVariants as ending
use Rattle.sym_code.specs.Words.{most_words, most_of_one}
use Rattle.sym_code.specs.declared.code.Label.{Label}
use Rattle.sym_code.specs.declared.code.Label.TheVariants as label
use Rattle.sym_code.specs.declared.code.PlainOperation.TheVariants as plain
use Rattle.sym_code.specs.declared.code.Sym.TheVariants as syms
use Rattle.std.proofs.lemmas.List.Sums.{sum_by-cons}
use Rattle.select_wide.specs.Comparisons.{equality_code}
use Rattle.program_code.proofs.Chain.{never}
use Rattle.program_code.proofs.Paying.{IsMine, own_frame, Pays, pays_none, pays_more, pays_most, Tame}
use Rattle.program_code.proofs.Operators.{whole_bytes, equality_tame}
use Rattle.program_code.proofs.Lowered.{one_code, tames_more, One, Takes, Tames, takes_on, takes_more, takes_none, takes_one, takes_tames, helds_one, tames_on, many_one, if_one, once_one, loop_one, goto_pays, test_most}
use Rattle.program_code.proofs.Puts.{mine_lower, sets_tames, test_four}
use Rattle.program_code.proofs.Typing.{promoted_number, and_last}
use Rattle.program_code.proofs.Nodes.{width_within, width_some}
use Rattle.program_code.proofs.Expressions.{expr_takes}

pub promoted_two : (sizes : List ℕ) (ty : Ty) → is_promoted ty ≡ true → 2 ≤ type_bytes sizes ty
promoted_two sizes (Int int.Char) e = never e
promoted_two sizes (Int int.SChar) e = never e
promoted_two sizes (Int int.UChar) e = never e
promoted_two sizes (Int int.Short) e = never e
promoted_two sizes (Int int.UShort) e = never e
promoted_two sizes (Int int.Int) e = omega arith
promoted_two sizes (Int int.UInt) e = omega arith
promoted_two sizes (Int int.Long) e = omega arith
promoted_two sizes (Int int.ULong) e = omega arith
promoted_two sizes Void e = never e
promoted_two sizes (Pointer target) e = never e
promoted_two sizes (Array element count size) e = never e
promoted_two sizes (Struct number) e = never e

-- the words of a condition's code, and of a loop's one, without the way back
abbrev pub condition_most : List ℕ → Option Expression → ℕ
condition_most sizes None = 0
condition_most sizes (Some e) = 4 * value_bytes sizes e + 11 + words sizes e

pub condition_enough : (sizes : List ℕ) (o : Option Expression) → condition_most sizes o + 3 ≤ condition_words sizes o
condition_enough sizes None = omega arith
condition_enough sizes (Some e) = omega arith

module _ (list : List FnCopy) (root : Root) (end : Ending) (p : Program) (f : FunctionTree) (g : Ground) where
  at_first : IsMine g.copy (first g)
  at_first = own_frame g.copy g.base

  -- ---- jumps
  goes_pays : (o : Option Label) → Pays g.copy false false 3 false false (goes_to o)
  goes_pays None = pays_more g.copy false false false false 0 3 [] (omega arith) (pays_none g.copy false false)
  goes_pays (Some to) = goto_pays list root end g.copy to false false

  exit_one : (k : ℕ) → One list root end g.copy false 3 false (core.Exit k)
  exit_one k loops at before = goes_pays (jump_target loops (core.Exit k))

  again_one : (k : ℕ) → One list root end g.copy false 3 false (core.Again k)
  again_one k loops at before = goes_pays (jump_target loops (core.Again k))

  pub exit_takes : (k : ℕ) → Takes list root end g.copy 3 (core.Exit k ∷ [])
  exit_takes k = takes_one list root end g.copy 3 (core.Exit k) (exit_one k)

  pub again_takes : (k : ℕ) → Takes list root end g.copy 3 (core.Again k ∷ [])
  again_takes k = takes_one list root end g.copy 3 (core.Again k) (again_one k)

  leave_pays : (e : Ending) → Pays g.copy false false 3 false false (leave_code e)
  leave_pays ending.Halt = goto_pays list root end g.copy label.Halt false false
  leave_pays ending.Restore = goto_pays list root end g.copy label.Restore false false
  leave_pays ending.Return =
      let one = sum_by-cons most_of_one (syms.Plain plain.Return) [] in
      pays_more g.copy false false false false (most_words (leave_code ending.Return)) 3 (leave_code ending.Return) (omega (arith, one)) (pays_most g.copy false false (leave_code ending.Return) refl)

  pub leave_takes : Takes list root end g.copy 3 (core.Leave ∷ [])
  leave_takes = takes_one list root end g.copy 3 core.Leave (λ loops at before. leave_pays end)

  none_one : One list root end g.copy false 0 false (many [])
  none_one = many_one list root end g.copy false false 0 [] (takes_none list root end g.copy)

  -- ---- conditions
  pub value_takes : (e : Expression) → fits p f Used e ≡ true → Takes list root end g.copy (words g.layout.sizes e) (value_code g e)
  value_takes e h = expr_takes list root end g.layout g.copy p f true g.base Used e h

  pub condition_takes : (o : Option Expression) → any_condition_fits p f o ≡ true → Takes list root end g.copy (condition_most g.layout.sizes o) (condition_code g o)
  condition_takes None h = takes_none list root end g.copy
  condition_takes (Some e) h =
      let t = test_four (ground.width g e) in
      let w = width_within g.layout (type_of e) in
      let test = core.If (first g) (test_size (ground.width g e)) (many []) (core.Exit 0) in
      takes_more list root end g.copy (words g.layout.sizes e + (test_most (test_size (ground.width g e)) + 7 + 0 + 3)) (condition_most g.layout.sizes (Some e)) (value_code g e ++ test ∷ []) (omega (arith, t, w))
      (takes_on list root end g.copy (words g.layout.sizes e) (test_most (test_size (ground.width g e)) + 7 + 0 + 3) (value_code g e) (test ∷ []) (value_takes e (and_last (is_scalar (type_of e)) (fits p f Used e) h))
      (takes_one list root end g.copy (test_most (test_size (ground.width g e)) + 7 + 0 + 3) test (if_one list root end g.copy (first g) (test_size (ground.width g e)) 0 3 (many []) (core.Exit 0) at_first none_one (exit_one 0))))

  pub any_takes : (o : Option Expression) → any_fits p f o ≡ true → Takes list root end g.copy (any_words g.layout.sizes o) (any_code g o)
  any_takes None h = takes_none list root end g.copy
  any_takes (Some e) h = expr_takes list root end g.layout g.copy p f false g.base Used e h

  -- ---- cases
  compared : (ty : IntTy) (to left right : Byte) → IsMine g.copy to → IsMine g.copy left → IsMine g.copy right → (k : ℕ) → bytes_of ty ≡ suc k → (loops : List ℕ) (at : ℕ) (before : List Tree) → Tame g.copy (3 * k + 8) (one_code list root end g.copy loops at before (core.Binary Eq ty to left right))
  compared ty to left right h x y k e loops at before = subst (λ (w : ℕ). Tame g.copy (3 * k + 8) (equality_code 0 to left right w)) (sym e) (equality_tame g.copy 0 to left right h x y k)

  two_test : test_most (test_size 2) ≡ 4
  unfolding test_size
  two_test = refl

  leading_takes : (test : Byte) (segment : ℕ) → IsMine g.copy test → Takes list root end g.copy 14 (leading test segment)
  leading_takes test segment h =
      let t = two_test in
      takes_more list root end g.copy (test_most (test_size 2) + 7 + 3 + 0) 14 (leading test segment) (omega (arith, t))
      (takes_one list root end g.copy (test_most (test_size 2) + 7 + 3 + 0) (core.If test (test_size 2) (core.Exit segment) (many [])) (if_one list root end g.copy test (test_size 2) 3 0 (core.Exit segment) (many []) h (exit_one segment) none_one))

  -- sets of as many bytes as the value has, one at least
  numbers_tame : (to : Byte) (number w : ℕ) → IsMine g.copy to → 1 ≤ w → Tames list root end g.copy (2 * w) (sets to number w)
  numbers_tame to number zero h l = absurd (omega (arith, l))
  numbers_tame to number (suc k) h l = tames_more list root end g.copy (2 * k + 2) (2 * suc k) (sets to number (suc k)) (omega arith) (sets_tames list root end g.copy to number k h)

  case_takes : (value : Expression) (case : TCase) (segment : ℕ) → is_promoted (type_of value) ≡ true
      → Takes list root end g.copy (10 * value_bytes g.layout.sizes value + 14) (case_code g (operation_type (type_of value)) (ground.width g value) case segment)
  case_takes value case segment h =
      let ty = operation_type (type_of value) in
      let w = ground.width g value in
      let b = whole_bytes ty in
      let e = b.1 in
      let same = promoted_number g.layout.sizes (type_of value) h in
      let two = promoted_two g.layout.sizes (type_of value) h in
      let within = width_within g.layout (type_of value) in
      let some = width_some g.layout (type_of value) (omega (arith, two)) in
      let to = temporary g (2 * w) in
      let right = temporary g w in
      let number = pattern case.value.ty case.value.number in
      let mine_to = mine_lower g.copy (first g) (2 * w) at_first in
      let mine_right = mine_lower g.copy (first g) w at_first in
      takes_more list root end g.copy (2 * w + (3 * b.0 + 8) + 2 + 14) (10 * value_bytes g.layout.sizes value + 14) (case_code g ty w case segment) (omega (arith, e, same, two, within))
      (takes_on list root end g.copy (2 * w + (3 * b.0 + 8) + 2) 14 (sets right number w ++ comparison ty to (first g) right) (leading to segment)
      (takes_tames list root end g.copy (2 * w + (3 * b.0 + 8)) (sets right number w ++ comparison ty to (first g) right)
      (tames_on list root end g.copy (2 * w) (3 * b.0 + 8) (sets right number w) (comparison ty to (first g) right) (numbers_tame right number w mine_right some)
      (helds_one list root end g.copy (3 * b.0 + 8) (core.Binary Eq ty to (first g) right) (compared ty to (first g) right mine_to at_first mine_right b.0 b.1))))
      (leading_takes to segment mine_to))

  cases_take : (value : Expression) (labels : List ℕ) (cases : List TCase) → is_promoted (type_of value) ≡ true
      → Takes list root end g.copy (cases_words (value_bytes g.layout.sizes value) cases) (cases_code g (operation_type (type_of value)) (ground.width g value) labels cases)
  cases_take value labels [] h = takes_none list root end g.copy
  cases_take value labels (case ∷ cases) h =
      takes_on list root end g.copy (10 * value_bytes g.layout.sizes value + 14) (cases_words (value_bytes g.layout.sizes value) cases) (case_code g (operation_type (type_of value)) (ground.width g value) case (segments_before case.target labels)) (cases_code g (operation_type (type_of value)) (ground.width g value) labels cases)
      (case_takes value case (segments_before case.target labels) h) (cases_take value labels cases h)

  pub comparisons_take : (value : Expression) (cases : List TCase) (default : Option ℕ) (labels : List ℕ) (count : ℕ) → is_promoted (type_of value) ≡ true
      → Takes list root end g.copy (cases_words (value_bytes g.layout.sizes value) cases + 3) (comparisons g value cases default labels count)
  comparisons_take value cases default labels count h =
      takes_on list root end g.copy (cases_words (value_bytes g.layout.sizes value) cases) 3 (cases_code g (operation_type (type_of value)) (ground.width g value) labels cases) (core.Exit (otherwise_segment labels count default) ∷ []) (cases_take value labels cases h) (exit_takes (otherwise_segment labels count default))

  -- ---- segments
  abbrev pub AllTake : ℕ → List (List Tree) → Type 0
  AllTake n [] = Unit {0}
  AllTake n (s ∷ ss) = (m : ℕ) × (k : ℕ) × Takes list root end g.copy m s × AllTake k ss × (m + k ≤ n)

  abbrev pub SegmentsTake : ℕ → Segments → Type 0
  SegmentsTake n s = (m : ℕ) × (k : ℕ) × Takes list root end g.copy m s.running × AllTake k s.later × (m + k ≤ n)

  pub no_segments_take : SegmentsTake 0 no_segments
  no_segments_take = (0, 0, takes_none list root end g.copy, tt, omega arith)

  pub joined_take : (n m : ℕ) (code : List Tree) (s : Segments) → Takes list root end g.copy n code → SegmentsTake m s → SegmentsTake (n + m) (joined code s)
  joined_take n m code s h t = let l = t.4 in (n + t.0, t.1, takes_on list root end g.copy n t.0 code s.running h t.2, t.3, omega (arith, l))

  pub cut_take : (n : ℕ) (begins : Bool) (s : Segments) → SegmentsTake n s → SegmentsTake n (cut begins s)
  cut_take n true s t = let l = t.4 in (0, t.0 + t.1, takes_none list root end g.copy, (t.0, t.1, t.2, t.3, omega arith), omega (arith, l))
  cut_take n false s t = t

  pub nest_takes : (n m : ℕ) (inner : List Tree) (segments : List (List Tree)) → Takes list root end g.copy n inner → AllTake m segments → Takes list root end g.copy (n + m) (nest inner segments)
  nest_takes n m inner [] h t = takes_more list root end g.copy n (n + m) inner (omega arith) h
  nest_takes n m inner (s ∷ ss) h t =
      let l = t.4 in
      let whole = core.Loop (many (inner ++ s ++ core.Exit 0 ∷ [])) in
      takes_more list root end g.copy (n + t.0 + t.1) (n + m) (nest (whole ∷ []) ss) (omega (arith, l))
      (nest_takes (n + t.0) t.1 (whole ∷ []) ss (takes_one list root end g.copy (n + t.0) whole (once_one list root end g.copy (n + t.0) (inner ++ s) (takes_on list root end g.copy n t.0 inner s h t.2))) t.3)

  pub around_takes : (n m : ℕ) (comparisons : List Tree) (s : Segments) → Takes list root end g.copy n comparisons → SegmentsTake m s → Takes list root end g.copy (n + 3 + m) (around comparisons s)
  around_takes n m comparisons s h t =
      let l = t.4 in
      takes_more list root end g.copy (n + 3 + t.1) (n + 3 + m) (around comparisons s) (omega (arith, l))
      (nest_takes (n + 3) t.1 (core.Loop (many comparisons) ∷ []) s.later (takes_one list root end g.copy (n + 3) (core.Loop (many comparisons)) (loop_one list root end g.copy n comparisons h)) t.3)

  pub labels_take : (n : ℕ) (labels : List ℕ) (code : List Tree) → Takes list root end g.copy n code → Takes list root end g.copy n (for_labels labels code)
  labels_take n [] code h = takes_more list root end g.copy 0 n [] (omega arith) (takes_none list root end g.copy)
  labels_take n (one ∷ labels) code h = h
