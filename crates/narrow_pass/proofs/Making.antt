-- What is made of code, part by part.
use Rattle.std.proofs.Common.{◌≡◌, ℕ, ◌+◌, ◌<◌, inl, inr, Bool, true, false, not, ◌&&◌, ◌||◌, nat_lt, if◌then◌else◌, List, [], ◌∷◌, ◌++◌, length, take, get_or, Option, Some, None, refl, sym, ap, ◌∙◌, subst}
use Rattle.std.proofs.lemmas.Bool.{true≢false, and_parts, and_from, ltb-true}
use Rattle.std.proofs.lemmas.List.{map_more}
use Rattle.std.proofs.lemmas.Option.{none-some, cond_some}
use Rattle.c_ints.specs.Operators.{type_of, compares}
use Rattle.c_ints.specs.Range.{bytes_of}
use Rattle.c_ints.specs.declared.operators.BinOp.{BinOp}
use Rattle.c_ints.specs.declared.operators.BinOp.TheVariants as ops
use Rattle.c_ints.specs.declared.types.IntTy.{IntTy}
use Rattle.c_ints.specs.declared.types.IntTy.TheVariants.{UChar}
use Rattle.core_code.specs.Tree as tree
use Rattle.core_code.specs.Tree.{Tree, Trees, NoTree, AndTree, trees_of, list_of}
use Rattle.core_code.specs.View.{tree_of, trees_in}
use Rattle.core_code.specs.declared.code.Byte.{Byte}
use Rattle.core_code.specs.declared.code.Byte.TheVariants.{Device}
use Rattle.core_code.specs.declared.code.Core.{Core}
use Rattle.core_code.specs.declared.code.Core.TheVariants as Core
use Rattle.core_code.proofs.Views.{tree_many, tree_if, tree_loop, trees_more}
use Rattle.narrow_code.specs.Checked.{Turn, all_below, met, put_bytes, nowhere, allowed, walked_on, joined, comes_back, may_exit, may_repeat, same_at, same_from, small_at, number_at, may_cut, walk, walk_all}
use Rattle.narrow_code.specs.Drafts as drafts
use Rattle.narrow_code.specs.Drafts.{Draft, Drafts, NoDraft, AndDraft, head_of, tail_of, marks_in, planned, all_planned}
use Rattle.narrow_code.specs.Lending.{lends, all_lend}
use Rattle.narrow_code.specs.Links.{is_lent}
use Rattle.narrow_code.specs.Marks.{Mark, may_differ}
use Rattle.narrow_code.specs.Places.{AtEachPlace, AtAllPlaces, IsRetyped}
use Rattle.narrow_code.specs.Plans.{Way, Whole, low_op, choice_by, made, all_made}
use Rattle.narrow_code.specs.Right.{is_low, narrow_mark, fits_way}
use Rattle.narrow_pass.specs.Ways.{marks_of, turn_of, may_go, reads_same, written, IsMade, AreMade}
use Rattle.narrow_pass.specs.declared.marks.Mark as kept
use Rattle.narrow_pass.specs.declared.turns.Turn as kept_turns

never : {A : Type 0} → false ≡ true → A
never e = absurd (true≢false (sym e))

holds : (t : Bool) (marks : List Mark) → t ≡ true → allowed t marks ≡ Some marks
holds t marks e = ap (λ (b : Bool). allowed b marks) e

first_or : Tree → Trees → Tree
first_or t NoTree = t
first_or t (AndTree u us) = u

rest_of : Trees → Trees
rest_of NoTree = NoTree
rest_of (AndTree u us) = us

-- the drafts of some operations, and of one more behind them
abbrev with_draft : List Tree → Drafts → Draft → Drafts
with_draft [] ds d = AndDraft d NoDraft
with_draft (t ∷ ts) ds d = AndDraft (head_of ds) (with_draft ts (tail_of ds) d)

module _ (alone : Bool) (lent : ℕ → Bool) (p : ℕ) where
  -- ---- operations without parts
  first : (here : List Mark) (byte other : Byte) (n m : ℕ) → (same_from lent p here byte n && same_from lent p here other m) ≡ true → same_from lent p here byte n ≡ true
  first here byte other n m e = (and_parts (same_from lent p here byte n) (same_from lent p here other m) e).0

  one : (here : List Mark) (byte other : Byte) (m : ℕ) → (same_from lent p here byte 1 && same_from lent p here other m) ≡ true → same_at lent p here byte ≡ true
  one here byte other m e = (and_parts (same_at lent p here byte) true (first here byte other 1 m e)).0

  stays : (turns : List Turn) (here : List Mark) (t : Tree) → may_go turns here t ≡ true → lends (is_lent lent) t ≡ true → reads_same lent p here t ≡ true → IsMade alone lent p turns here t t (written lent p here t)
  stays turns here (tree.Set to value) go len e = record { draft = drafts.Keep; passes = refl; code = refl; lending = len; places = λ types. inl refl }
  stays turns here (tree.Address to place) go len e = record { draft = drafts.Keep; passes = refl; code = refl; lending = len; places = λ types. inl refl }
  stays turns here (tree.Copy to from) go len e = record { draft = drafts.Keep; passes = holds (same_at lent p here from) (written lent p here (tree.Copy to from)) (one here from (Device 0) 0 e); code = refl; lending = len; places = λ types. inl refl }
  stays turns here (tree.Load to pointer count) go len e = record { draft = drafts.Keep; passes = holds (same_from lent p here pointer 2) (written lent p here (tree.Load to pointer count)) (first here pointer (Device 0) 2 0 e); code = refl; lending = len; places = λ types. inl refl }
  stays turns here (tree.Store pointer from count) go len e = record { draft = drafts.Keep; passes = holds (same_from lent p here pointer 2 && same_from lent p here from count) here e; code = refl; lending = len; places = λ types. inl refl }
  stays turns here (tree.Unary op ty at) go len e = record { draft = drafts.Keep; passes = holds (same_from lent p here at (bytes_of ty)) (written lent p here (tree.Unary op ty at)) (first here at (Device 0) (bytes_of ty) 0 e); code = refl; lending = len; places = λ types. inl refl }
  stays turns here (tree.Binary op ty to left right) go len e = record { draft = drafts.Keep; passes = holds (reads_same lent p here (tree.Binary op ty to left right)) (written lent p here (tree.Binary op ty to left right)) e; code = refl; lending = len; places = λ types. inl refl }
  stays turns here (tree.Convert from to at) go len e = record { draft = drafts.Keep; passes = holds (same_from lent p here at (bytes_of from)) (written lent p here (tree.Convert from to at)) (first here at (Device 0) (bytes_of from) 0 e); code = refl; lending = len; places = λ types. inl refl }
  stays turns here (tree.BitRead to register bit) go len e = record { draft = drafts.Keep; passes = refl; code = refl; lending = len; places = λ types. inl refl }
  stays turns here (tree.BitWrite register bit from) go len e = record { draft = drafts.Keep; passes = holds (same_at lent p here from) here (one here from (Device 0) 0 e); code = refl; lending = len; places = λ types. inl refl }
  stays turns here (tree.Call copy) go len e = record { draft = drafts.Keep; passes = refl; code = refl; lending = len; places = λ types. inl refl }
  stays turns here tree.Leave go len e = record { draft = drafts.Keep; passes = refl; code = refl; lending = len; places = λ types. inl refl }
  stays turns here (tree.Exit n) go len e = record { draft = drafts.Keep; passes = holds (may_exit turns n here) (nowhere here) go; code = refl; lending = len; places = λ types. inl refl }
  stays turns here (tree.Again n) go len e = record { draft = drafts.Keep; passes = holds (may_repeat turns n here) (nowhere here) go; code = refl; lending = len; places = λ types. inl refl }
  stays turns here (tree.Many ts) go len e = never go
  stays turns here (tree.If test size a b) go len e = never go
  stays turns here (tree.Loop body) go len e = never go

  pub stays_made : (turns : List Turn) (here after : List Mark) (t new : Tree) → may_go turns here t ≡ true → lends (is_lent lent) t ≡ true → reads_same lent p here t ≡ true → new ≡ t → after ≡ written lent p here t → IsMade alone lent p turns here t new after
  stays_made turns here after t new go len e n a =
      subst (λ (u : Tree). IsMade alone lent p turns here t u after) (sym n) (subst (λ (l : List Mark). IsMade alone lent p turns here t t l) (sym a) (stays turns here t go len e))

  -- where types alone are to change, the operator stays
  low_same : (op : BinOp) → is_low op ≡ true → low_op op ≡ op
  low_same ops.Add e = refl
  low_same ops.Sub e = refl
  low_same ops.And e = refl
  low_same ops.Or e = refl
  low_same ops.Xor e = refl
  low_same _ e = never e

  low_where : (only low : Bool) → (not only || low) ≡ true → only ≡ true → low ≡ true
  low_where true low e types = e
  low_where false low e types = never types

  wide_where : (here : List Mark) (op : BinOp) (ty : IntTy) (to left right : Byte) → may_cut lent p here op ty to left right ≡ true → 1 < bytes_of ty
  wide_where here op ty to left right e =
      let able = is_low op || (compares op && small_at lent p here ty left right) in
      let last = and_parts (able && nat_lt 1 (bytes_of ty) && number_at lent p here left && number_at lent p here right) (may_differ lent p to) e in
      let fourth = and_parts (able && nat_lt 1 (bytes_of ty) && number_at lent p here left) (number_at lent p here right) last.0 in
      let third = and_parts (able && nat_lt 1 (bytes_of ty)) (number_at lent p here left) fourth.0 in
      ltb-true 1 (bytes_of ty) (and_parts able (nat_lt 1 (bytes_of ty)) third.0).1

  retyped : (here : List Mark) (op : BinOp) (ty : IntTy) (to left right : Byte) → (not alone || is_low op) ≡ true → may_cut lent p here op ty to left right ≡ true → alone ≡ true
      → IsRetyped (tree.Binary op ty to left right) (tree.Binary (low_op op) UChar to left right)
  retyped here op ty to left right change e types =
      let low = low_where alone (is_low op) change types in
      inr (low, wide_where here op ty to left right e, ap (λ (o : BinOp). tree.Binary o UChar to left right) (low_same op low))

  pub cut_made : (turns : List Turn) (here after : List Mark) (op : BinOp) (ty : IntTy) (to left right : Byte) (t new : Tree) → (not alone || is_low op) ≡ true → may_cut lent p here op ty to left right ≡ true
      → t ≡ tree.Binary op ty to left right → new ≡ tree.Binary (low_op op) UChar to left right → after ≡ put_bytes p here to (bytes_of (type_of op ty)) (narrow_mark op (small_at lent p here ty left right)) → IsMade alone lent p turns here t new after
  cut_made turns here after op ty to left right t new change e o n a =
      subst (λ (l : List Mark). IsMade alone lent p turns here t new l) (sym a)
      (subst (λ (u : Tree). IsMade alone lent p turns here t u (put_bytes p here to (bytes_of (type_of op ty)) (narrow_mark op (small_at lent p here ty left right)))) (sym n)
      (subst (λ (u : Tree). IsMade alone lent p turns here u (tree.Binary (low_op op) UChar to left right) (put_bytes p here to (bytes_of (type_of op ty)) (narrow_mark op (small_at lent p here ty left right)))) (sym o)
      (record { draft = drafts.Cut; passes = holds (may_cut lent p here op ty to left right) (put_bytes p here to (bytes_of (type_of op ty)) (narrow_mark op (small_at lent p here ty left right))) e; code = refl; lending = refl; places = retyped here op ty to left right change e })))

  -- ---- some operations, one behind the other
  code_more : (ts : List Tree) (ds : Drafts) (t : Tree) (d : Draft) → list_of (all_made (all_planned (trees_of (ts ++ t ∷ [])) (with_draft ts ds d))) ≡ list_of (all_made (all_planned (trees_of ts) ds)) ++ made (planned t d) ∷ []
  code_more [] ds t d = refl
  code_more (u ∷ ts) ds t d = ap (λ (l : List Tree). made (planned u (head_of ds)) ∷ l) (code_more ts (tail_of ds) t d)

  through : (way : Option (List Mark)) (f g : List Mark → Option (List Mark)) (x y : List Mark) → ((m : List Mark) → f m ≡ Some x → g m ≡ Some y) → walked_on way f ≡ Some x → walked_on way g ≡ Some y
  through None f g x y h e = absurd (none-some x e)
  through (Some m) f g x y h e = h m e

  walk_more : (turns : List Turn) (ts : List Tree) (ds : Drafts) (here mid after : List Mark) (t : Tree) (d : Draft) → walk lent p turns mid t d ≡ Some after → walk_all lent p turns here (trees_of ts) ds ≡ Some mid
      → walk_all lent p turns here (trees_of (ts ++ t ∷ [])) (with_draft ts ds d) ≡ Some after
  walk_more turns [] ds here mid after t d e h =
      ap (λ (w : Option (List Mark)). walked_on w (λ m. Some m)) (subst (λ (m : List Mark). walk lent p turns m t d ≡ Some after) (sym (cond_some true here mid h).1) e)
  walk_more turns (u ∷ ts) ds here mid after t d e h =
      through (walk lent p turns here u (head_of ds)) (λ m. walk_all lent p turns m (trees_of ts) (tail_of ds)) (λ m. walk_all lent p turns m (trees_of (ts ++ t ∷ [])) (with_draft ts (tail_of ds) d)) mid after
      (λ m i. walk_more turns ts (tail_of ds) m mid after t d e i) h

  lend_more : (ts : List Tree) (t : Tree) → lends (is_lent lent) t ≡ true → all_lend (is_lent lent) (trees_of ts) ≡ true → all_lend (is_lent lent) (trees_of (ts ++ t ∷ [])) ≡ true
  lend_more [] t e h = and_from (lends (is_lent lent) t) true e refl
  lend_more (u ∷ ts) t e h = let w = and_parts (lends (is_lent lent) u) (all_lend (is_lent lent) (trees_of ts)) h in and_from (lends (is_lent lent) u) (all_lend (is_lent lent) (trees_of (ts ++ t ∷ []))) w.0 (lend_more ts t e w.1)

  places_more : (old new : List Tree) (t n : Tree) → AtAllPlaces IsRetyped (trees_of old) (trees_of new) → AtEachPlace IsRetyped t n → AtAllPlaces IsRetyped (trees_of (old ++ t ∷ [])) (trees_of (new ++ n ∷ []))
  unfolding first_or rest_of
  places_more [] [] t n all one = (n, NoTree, refl, one, refl)
  places_more [] (v ∷ new) t n all one = absurd (cc)
  places_more (u ∷ old) [] t n all one = let is = all.2 in absurd (cc)
  places_more (u ∷ old) (v ∷ new) t n all one =
      let heads : v ≡ all.0 = ap (first_or v) all.2 in
      let tails : trees_of new ≡ all.1 = ap rest_of all.2 in
      (v, trees_of (new ++ n ∷ []), refl, subst (λ (x : Tree). AtEachPlace IsRetyped u x) (sym heads) all.3, places_more old new t n (subst (λ (x : Trees). AtAllPlaces IsRetyped (trees_of old) x) (sym tails) all.4) one)

  more : (turns : List Turn) (here mid after : List Mark) (old new : List Tree) (t n : Tree) → AreMade alone lent p turns here old new mid → IsMade alone lent p turns mid t n after → AreMade alone lent p turns here (old ++ t ∷ []) (new ++ n ∷ []) after
  more turns here mid after old new t n are is = record {
    drafts = with_draft old are.drafts is.draft;
    passes = walk_more turns old are.drafts here mid after t is.draft is.passes are.passes;
    code = ap (λ (l : List Tree). l ++ n ∷ []) are.code ∙ ap (λ (u : Tree). list_of (all_made (all_planned (trees_of old) are.drafts)) ++ u ∷ []) is.code ∙ sym (code_more old are.drafts t is.draft);
    lending = lend_more old t is.lending are.lending;
    places = λ types. places_more old new t n (are.places types) (is.places types);
  }

  pub parts_none : (turns : List Turn) (here : List Mark) → AreMade alone lent p turns here [] [] here
  parts_none turns here = record { drafts = NoDraft; passes = refl; code = refl; lending = refl; places = λ types. refl }

  pub parts_more : (turns : List Turn) (here mid after : List Mark) (parts new : List Core) (k : ℕ) (c n : Core) → k < length parts → c ≡ get_or parts k c
      → IsMade alone lent p turns mid (tree_of c) (tree_of n) after → AreMade alone lent p turns here (trees_in (take k parts)) (trees_in new) mid
      → AreMade alone lent p turns here (trees_in (take (k + 1) parts)) (trees_in (new ++ n ∷ [])) after
  parts_more turns here mid after parts new k c n h e is are =
      subst (λ (l : List Tree). AreMade alone lent p turns here l (trees_in (new ++ n ∷ [])) after) (sym (map_more tree_of parts k c h ∙ ap (λ (d : Core). trees_in (take k parts) ++ tree_of d ∷ []) (sym e)))
      (subst (λ (l : List Tree). AreMade alone lent p turns here (trees_in (take k parts) ++ tree_of c ∷ []) l after) (sym (trees_more new n))
      (more turns here mid after (trees_in (take k parts)) (trees_in new) (tree_of c) (tree_of n) are is))

  -- ---- operations with parts
  trees_again : (ts : Trees) → trees_of (list_of ts) ≡ ts
  trees_again NoTree = refl
  trees_again (AndTree t ts) = ap (AndTree t) (trees_again ts)

  many : (turns : List Turn) (here after : List Mark) (old new : List Tree) → AreMade alone lent p turns here old new after → IsMade alone lent p turns here (tree.Many (trees_of old)) (tree.Many (trees_of new)) after
  many turns here after old new are = record {
    draft = drafts.Parts are.drafts;
    passes = are.passes;
    code = ap tree.Many (ap trees_of are.code ∙ trees_again (all_made (all_planned (trees_of old) are.drafts)));
    lending = are.lending;
    places = λ types. (trees_of new, refl, are.places types);
  }

  pub many_made : (turns : List Turn) (here after : List Mark) (t : Core) (parts : _) (list : List Core) (new : List Tree) (n : Tree) → t ≡ Core.Many parts → list ≡ parts.items → n ≡ tree.Many (trees_of new)
      → AreMade alone lent p turns here (trees_in list) new after → IsMade alone lent p turns here (tree_of t) n after
  many_made turns here after t parts list new n e l f are =
      subst (λ (u : Tree). IsMade alone lent p turns here u n after) (ap (λ (i : List Core). tree.Many (trees_of (trees_in i))) l ∙ sym (ap tree_of e ∙ tree_many parts))
      (subst (λ (u : Tree). IsMade alone lent p turns here (tree.Many (trees_of (trees_in list))) u after) (sym f) (many turns here after (trees_in list) new are))

  choice : (turns : List Turn) (here yes_after no_after : List Mark) (test : Byte) (size : ℕ) (way : Way) (a b c d : Tree) → fits_way lent p (marks_in here) test size way ≡ true → (alone ≡ true → way ≡ Whole)
      → IsMade alone lent p turns here a c yes_after → IsMade alone lent p turns here b d no_after → IsMade alone lent p turns here (tree.If test size a b) (choice_by test size way c d) (met yes_after no_after)
  choice turns here yes_after no_after test size way a b c d e whole is other = record {
    draft = drafts.Ways way is.draft other.draft;
    passes =
        ap (λ (t : Bool). if t then joined (walk lent p turns here a is.draft) (walk lent p turns here b other.draft) else None) e
        ∙ ap (λ (w : Option (List Mark)). joined w (walk lent p turns here b other.draft)) is.passes ∙ ap (joined (Some yes_after)) other.passes;
    code = ap (λ (t : Tree). choice_by test size way t d) is.code ∙ ap (choice_by test size way (made (planned a is.draft))) other.code;
    lending = and_from (lends (is_lent lent) a) (lends (is_lent lent) b) is.lending other.lending;
    places = λ types. (c, d, ap (λ (w : Way). choice_by test size w c d) (whole types), is.places types, other.places types);
  }

  pub choice_made : (turns : List Turn) (here other : List kept.Mark) (yes_after no_after after : List Mark) (test : Byte) (size : ℕ) (way : Way) (t : Core) (yes_part no_part : _) (a b : Core) (c d n : Tree)
      → t ≡ Core.If test size yes_part no_part → a ≡ yes_part.value → b ≡ no_part.value → fits_way lent p (marks_in (marks_of here)) test size way ≡ true → (alone ≡ true → way ≡ Whole) → other ≡ here
      → IsMade alone lent p turns (marks_of here) (tree_of a) c yes_after → IsMade alone lent p turns (marks_of other) (tree_of b) d no_after
      → after ≡ met yes_after no_after → n ≡ choice_by test size way c d → IsMade alone lent p turns (marks_of here) (tree_of t) n after
  choice_made turns here other yes_after no_after after test size way t yes_part no_part a b c d n o y z e stays_whole k is else_is m w =
      let whole : tree_of t ≡ tree.If test size (tree_of a) (tree_of b) =
      ap tree_of o ∙ tree_if test size yes_part no_part ∙ ap (λ (u : Core). tree.If test size (tree_of u) (tree_of no_part.value)) (sym y) ∙ ap (λ (u : Core). tree.If test size (tree_of a) (tree_of u)) (sym z) in
      subst (λ (l : List Mark). IsMade alone lent p turns (marks_of here) (tree_of t) n l) (sym m)
      (subst (λ (u : Tree). IsMade alone lent p turns (marks_of here) (tree_of t) u (met yes_after no_after)) (sym w)
      (subst (λ (u : Tree). IsMade alone lent p turns (marks_of here) u (choice_by test size way c d) (met yes_after no_after)) (sym whole)
      (choice turns (marks_of here) yes_after no_after test size way (tree_of a) (tree_of b) c d e stays_whole is
      (subst (λ (l : List kept.Mark). IsMade alone lent p turns (marks_of l) (tree_of b) d no_after) k else_is))))

  loop : (turns : List Turn) (here front behind end : List Mark) (a c : Tree) → all_below front here ≡ true → all_below front end ≡ true
      → IsMade alone lent p (record { front = front; behind = behind } ∷ turns) front a c end → IsMade alone lent p turns here (tree.Loop a) (tree.Loop c) behind
  loop turns here front behind end a c e h is = record {
    draft = drafts.Round front behind is.draft;
    passes = holds (all_below front here && comes_back (walk lent p (record { front = front; behind = behind } ∷ turns) front a is.draft) front) behind
        (and_from (all_below front here) (comes_back (walk lent p (record { front = front; behind = behind } ∷ turns) front a is.draft) front) e (ap (λ (w : Option (List Mark)). comes_back w front) is.passes ∙ h));
    code = ap tree.Loop is.code;
    lending = is.lending;
    places = λ types. (c, refl, is.places types);
  }

  pub loop_made : (turns inside : List Turn) (turn : kept_turns.Turn) (start end : List kept.Mark) (here : List Mark) (a c n : Tree) → all_below (marks_of turn.front.items) here ≡ true → inside ≡ turn_of turn ∷ turns
      → start ≡ turn.front.items → IsMade alone lent p inside (marks_of start) a c (marks_of end) → all_below (marks_of turn.front.items) (marks_of end) ≡ true → n ≡ tree.Loop c
      → IsMade alone lent p turns here (tree.Loop a) n (marks_of turn.behind.items)
  loop_made turns inside turn start end here a c n e i s is h f =
      subst (λ (u : Tree). IsMade alone lent p turns here (tree.Loop a) u (marks_of turn.behind.items)) (sym f)
      (loop turns here (marks_of turn.front.items) (marks_of turn.behind.items) (marks_of end) a c e h
      (subst (λ (l : List Turn). IsMade alone lent p l (marks_of turn.front.items) a c (marks_of end)) i
      (subst (λ (l : List kept.Mark). IsMade alone lent p inside (marks_of l) a c (marks_of end)) s is)))

  pub loop_is : (turns : List Turn) (here after : List Mark) (t : Core) (body : _) (a : Core) (n : Tree) → t ≡ Core.Loop body → a ≡ body.value → IsMade alone lent p turns here (tree.Loop (tree_of a)) n after → IsMade alone lent p turns here (tree_of t) n after
  loop_is turns here after t body a n e l is =
      subst (λ (u : Tree). IsMade alone lent p turns here u n after) (ap (λ (u : Core). tree.Loop (tree_of u)) l ∙ sym (ap tree_of e ∙ tree_loop body)) is
