-- Objects and frames have one placing, and where one of them has no address there is none. What is told to have none is one name.
use Rattle.std.proofs.Common.{◌≡◌, ℕ, zero, suc, ◌+◌, ◌<◌, ◌≤◌, ◌⊎◌, inl, inr, ⊎_elim, List, [], ◌∷◌, ◌++◌, length, take, Option, Some, refl, sym, ap, ◌∙◌, subst, arith}
use Rattle.std.specs.Prelude.{slice_get}
use Rattle.std.proofs.lemmas.Bool.{cases_lt}
use Rattle.std.proofs.lemmas.List.{take_all}
use Rattle.std.proofs.lemmas.Option.{slice_get_within}
use Rattle.c_typed.specs.Trees.{Program, StaticTree}
use Rattle.c_typed.specs.Types.{type_bytes}
use Rattle.call_graph.specs.declared.types.FnCopy.{FnCopy}
use Rattle.pic_map.specs.MapContent.{ObjectLine, FrameLine}
use Rattle.live_frames.specs.Memory.{IsLowestIn, IsLowest, AreFull}
use Rattle.ram_place.specs.Placement.{IsTaken, IsTakenFor, object_line, frame_line, whole_below, IsObjectBelow, IsFrameBelow, AreObjectsIn, AreFramesBelow, IsPlacing, IsPlacingIn, LacksObjectIn, LacksFrameIn, LacksFrameBehindBelow}
use Rattle.ram_place.specs.Regions.{StandsBelow, HasNoPlaceBelow, regions_below}
use Rattle.ram_place.specs.Sizes.{name_of, frame_bytes}
use Rattle.live_frames.specs.declared.memory.Span.{Span}

-- ---- one address, or none
lowest_in_once : (taken : ℕ → Type 0) (region : Span) (n a b : ℕ) → IsLowestIn taken region n a → IsLowestIn taken region n b → a ≡ b
lowest_in_once taken region n a b here there =
    ⊎_elim (λ l. absurd (there.1 a l here.0)) (λ m. ⊎_elim (λ l. absurd (here.1 b l there.0)) (λ k. omega (arith, m, k)) (cases_lt b a)) (cases_lt a b)

lowest_once : (taken : ℕ → Type 0) (spans : List Span) (n a b : ℕ) → IsLowest taken spans n a → IsLowest taken spans n b → a ≡ b
lowest_once taken [] n a b here there = absurd here
lowest_once taken (span ∷ spans) n a b (inl here) (inl there) = lowest_in_once taken span n a b here there
lowest_once taken (span ∷ spans) n a b (inl here) (inr there) = absurd (there.0 a here.0)
lowest_once taken (span ∷ spans) n a b (inr here) (inl there) = absurd (here.0 b there.0)
lowest_once taken (span ∷ spans) n a b (inr here) (inr there) = lowest_once taken spans n a b here.1 there.1

stands_once : (top : ℕ) (taken : ℕ → Type 0) (n a b : ℕ) → StandsBelow top taken n a → StandsBelow top taken n b → a ≡ b
stands_once top taken zero a b here there = here.0 refl ∙ sym (there.0 refl)
stands_once top taken (suc n) a b here there = lowest_once taken (regions_below top) (suc n) a b (here.1 (omega arith)) (there.1 (omega arith))

none_lowest : (taken : ℕ → Type 0) (spans : List Span) (n a : ℕ) → AreFull taken spans n → IsLowest taken spans n a → ⊥
none_lowest taken [] n a full here = here
none_lowest taken (span ∷ spans) n a full (inl here) = full.0 a here.0
none_lowest taken (span ∷ spans) n a full (inr here) = none_lowest taken spans n a full.1 here.1

-- what has no byte has room in the first region
none_stands : (top : ℕ) (taken : ℕ → Type 0) (n a : ℕ) → HasNoPlaceBelow top taken n → StandsBelow top taken n a → ⊥
none_stands top taken zero a none here = none.0 0x20 ((omega arith, omega arith), λ x low high t. omega (arith, low, high))
none_stands top taken (suc n) a none here = none_lowest taken (regions_below top) (suc n) a none (here.1 (omega arith))

-- ---- things that get a line each, by the lines before it
one_some : {A : Type 0} (o : Option A) (a b : A) → o ≡ Some a → o ≡ Some b → a ≡ b
one_some o a b first second = let both = sym first ∙ second in cc

is_there : {A : Type 0} (xs : List A) (n : ℕ) → n < length xs → (x : A) × (slice_get xs n ≡ Some x)
is_there [] n lt = absurd (omega arith)
is_there (x ∷ xs) zero lt = (x, refl)
is_there (x ∷ xs) (suc n) lt = is_there xs n (omega arith)

take_one : {A : Type 0} (xs : List A) (k : ℕ) (x : A) → slice_get xs k ≡ Some x → take (suc k) xs ≡ take k xs ++ x ∷ []
take_one [] k x is = absurd (cc)
take_one (y ∷ xs) zero x is = ap (λ z. z ∷ []) (one_some (Some y) y x refl is)
take_one (y ∷ xs) (suc k) x is = ap (λ l. y ∷ l) (take_one xs k x is)

module _ {A L : Type 0} (things : List A) (Line : List L → A → L → Type 0) (once : (others : List L) (a : A) (l m : L) → Line others a l → Line others a m → l ≡ m) where
  -- the lines are those of the first things
  abbrev AreLines : List L → Type 0
  AreLines lines = (k : ℕ) (a : A) (l : L) → slice_get things k ≡ Some a → slice_get lines k ≡ Some l → Line (take k lines) a l

  same_line : (xs ys : List L) (k : ℕ) (a : A) (x y : L) → AreLines xs → AreLines ys → slice_get things k ≡ Some a → slice_get xs k ≡ Some x → slice_get ys k ≡ Some y
      → take k xs ≡ take k ys → take (suc k) xs ≡ take (suc k) ys
  same_line xs ys k a x y each other thing first second front =
      let here : x ≡ y = once (take k ys) a x y (subst (λ (o : List L). Line o a x) front (each k a x thing first)) (other k a y thing second) in
      take_one xs k x first ∙ ap (λ o. o ++ x ∷ []) front ∙ ap (λ z. take k ys ++ z ∷ []) here ∙ sym (take_one ys k y second)

  same_front : (xs ys : List L) → AreLines xs → AreLines ys → (k : ℕ) → k ≤ length xs → k ≤ length ys → k ≤ length things → take k xs ≡ take k ys
  same_front xs ys each other zero l m n = refl
  same_front xs ys each other (suc k) l m n =
      let a = is_there things k (omega (arith, n)) in
      let x = is_there xs k (omega (arith, l)) in
      let y = is_there ys k (omega (arith, m)) in
      same_line xs ys k a.0 x.0 y.0 each other a.1 x.1 y.1 (same_front xs ys each other k (omega (arith, l)) (omega (arith, m)) (omega (arith, n)))

  -- behind these lines the next thing has none, so no list of lines is longer
  no_longer : (xs ys : List L) (a : A) → AreLines xs → AreLines ys → slice_get things (length xs) ≡ Some a → ((l : L) → Line xs a l → ⊥) → length ys ≤ length xs
  no_longer xs ys a each other next none =
      ⊎_elim
      (λ l. absurd (
      let y = is_there ys (length xs) l in
      let size = slice_get_within things (length xs) a next in
      let front = same_front xs ys each other (length xs) (omega arith) (omega (arith, l)) (omega (arith, size)) in
      none y.0 (subst (λ (o : List L). Line o a y.0) (sym front ∙ take_all (length xs) xs (omega arith)) (other (length xs) a y.0 next y.1))))
      (λ m. m)
      (cases_lt (length xs) (length ys))

  -- the lines of all things are one list
  whole_once : (xs ys : List L) → AreLines xs → AreLines ys → length xs ≡ length things → length ys ≡ length things → xs ≡ ys
  whole_once xs ys each other first second =
      sym (take_all (length things) xs (omega (arith, first))) ∙ same_front xs ys each other (length things) (omega (arith, first)) (omega (arith, second)) (omega arith)
      ∙ take_all (length things) ys (omega (arith, second))

  -- of two things that have no line the one is the other
  same_next : (xs ys : List L) (a b : A) → AreLines xs → AreLines ys → slice_get things (length xs) ≡ Some a → ((l : L) → Line xs a l → ⊥)
      → slice_get things (length ys) ≡ Some b → ((l : L) → Line ys b l → ⊥) → a ≡ b
  same_next xs ys a b each other first none second lacks =
      let low = no_longer xs ys a each other first none in
      let high = no_longer ys xs b other each second lacks in
      let same : length xs ≡ length ys = omega (arith, low, high) in
      one_some (slice_get things (length ys)) a b (sym (ap (slice_get things) same) ∙ first) second

  -- where all have lines, none is without
  none_lacks : (xs ys : List L) (a : A) → AreLines xs → AreLines ys → slice_get things (length xs) ≡ Some a → ((l : L) → Line xs a l → ⊥) → length ys ≡ length things → ⊥
  none_lacks xs ys a each other next none whole =
      let most = no_longer xs ys a each other next none in
      let size = slice_get_within things (length xs) a next in
      omega (arith, most, size, whole)

-- ---- objects
module _ (top : ℕ) (p : Program) where
  object_once : (others : List ObjectLine) (s : StaticTree) (l m : ObjectLine) → IsObjectBelow top p others s l → IsObjectBelow top p others s m → l ≡ m
  object_once others s l m here there =
      let wide : l.size ≡ type_bytes p.sizes s.ty.ty = ap (λ (line : ObjectLine). line.size) here.0 in
      let long : m.size ≡ type_bytes p.sizes s.ty.ty = ap (λ (line : ObjectLine). line.size) there.0 in
      let same = stands_once top (IsTaken others) (type_bytes p.sizes s.ty.ty) l.address m.address (subst (λ (n : ℕ). StandsBelow top (IsTaken others) n l.address) wide here.1)
      (subst (λ (n : ℕ). StandsBelow top (IsTaken others) n m.address) long there.1) in
      here.0 ∙ ap (object_line p s) same ∙ sym there.0

  object_none : (others : List ObjectLine) (s : StaticTree) → HasNoPlaceBelow top (IsTaken others) (type_bytes p.sizes s.ty.ty) → (l : ObjectLine) → IsObjectBelow top p others s l → ⊥
  object_none others s none l here =
      let wide : l.size ≡ type_bytes p.sizes s.ty.ty = ap (λ (line : ObjectLine). line.size) here.0 in
      none_stands top (IsTaken others) (type_bytes p.sizes s.ty.ty) l.address none (subst (λ (n : ℕ). StandsBelow top (IsTaken others) n l.address) wide here.1)

  objects_once : (xs ys : List ObjectLine) → AreObjectsIn (whole_below p top) p xs → AreObjectsIn (whole_below p top) p ys → length xs ≡ length p.statics → length ys ≡ length p.statics → xs ≡ ys
  objects_once xs ys each other first second = whole_once p.statics (IsObjectBelow top p) object_once xs ys each other first second

  no_object : (objects : List ObjectLine) (name : List ℕ) → AreObjectsIn (whole_below p top) p objects → length objects ≡ length p.statics → LacksObjectIn (whole_below p top) p name → ⊥
  no_object objects name each whole lacks =
      none_lacks p.statics (IsObjectBelow top p) object_once lacks.objects objects lacks.object lacks.objects_stand each lacks.is_next (object_none lacks.objects lacks.object lacks.has_none) whole

  object_named : (m n : List ℕ) → LacksObjectIn (whole_below p top) p m → LacksObjectIn (whole_below p top) p n → m ≡ n
  object_named m n here there =
      let same =
      same_next p.statics (IsObjectBelow top p) object_once here.objects there.objects here.object there.object here.objects_stand there.objects_stand here.is_next
      (object_none here.objects here.object here.has_none) there.is_next (object_none there.objects there.object there.has_none) in
      here.named ∙ ap (λ (s : StaticTree). s.name) same ∙ sym there.named

-- ---- frames
module _ (top : ℕ) (p : Program) (objects : List ObjectLine) (copies : List FnCopy) where
  frame_once : (others : List FrameLine) (c : FnCopy) (l m : FrameLine) → IsFrameBelow top p objects copies others c l → IsFrameBelow top p objects copies others c m → l ≡ m
  frame_once others c l m here there =
      let wide : l.size ≡ frame_bytes p c.function = ap (λ (line : FrameLine). line.size) here.0 in
      let long : m.size ≡ frame_bytes p c.function = ap (λ (line : FrameLine). line.size) there.0 in
      let same =
      stands_once top (IsTakenFor p objects copies others c) (frame_bytes p c.function) l.address m.address
      (subst (λ (n : ℕ). StandsBelow top (IsTakenFor p objects copies others c) n l.address) wide here.1) (subst (λ (n : ℕ). StandsBelow top (IsTakenFor p objects copies others c) n m.address) long there.1) in
      here.0 ∙ ap (frame_line p c) same ∙ sym there.0

  frame_none : (others : List FrameLine) (c : FnCopy) → HasNoPlaceBelow top (IsTakenFor p objects copies others c) (frame_bytes p c.function) → (l : FrameLine) → IsFrameBelow top p objects copies others c l → ⊥
  frame_none others c none l here =
      let wide : l.size ≡ frame_bytes p c.function = ap (λ (line : FrameLine). line.size) here.0 in
      none_stands top (IsTakenFor p objects copies others c) (frame_bytes p c.function) l.address none (subst (λ (n : ℕ). StandsBelow top (IsTakenFor p objects copies others c) n l.address) wide here.1)

  no_frame : (frames : List FrameLine) (name : List ℕ) → AreFramesBelow top p objects copies frames → length frames ≡ length copies → LacksFrameBehindBelow top p objects copies name → ⊥
  no_frame frames name each whole lacks =
      none_lacks copies (IsFrameBelow top p objects copies) frame_once lacks.frames frames lacks.copy lacks.frames_stand each lacks.is_next (frame_none lacks.frames lacks.copy lacks.has_none) whole

  frame_named : (m n : List ℕ) → LacksFrameBehindBelow top p objects copies m → LacksFrameBehindBelow top p objects copies n → m ≡ n
  frame_named m n here there =
      let same =
      same_next copies (IsFrameBelow top p objects copies) frame_once here.frames there.frames here.copy there.copy here.frames_stand there.frames_stand here.is_next
      (frame_none here.frames here.copy here.has_none) there.is_next (frame_none there.frames there.copy there.has_none) in
      here.named ∙ ap (λ (c : FnCopy). name_of p c.function) same ∙ sym there.named

-- ---- both
module _ (top : ℕ) (p : Program) (copies : List FnCopy) where
  -- of the objects there is one list of lines, so a frame behind the one stands behind the other
  moved : (name : List ℕ) (objects : List ObjectLine) → AreObjectsIn (whole_below p top) p objects → length objects ≡ length p.statics → (lacks : LacksFrameIn (whole_below p top) p copies name) → LacksFrameBehindBelow top p objects copies name
  moved name objects each whole lacks =
      subst (λ (l : List ObjectLine). LacksFrameBehindBelow top p l copies name) (objects_once top p lacks.objects objects lacks.objects_stand each lacks.each_object whole) lacks.frame

  pub none_without : (name : List ℕ) (objects : List ObjectLine) (frames : List FrameLine) → IsPlacingIn (whole_below p top) p copies objects frames → LacksObjectIn (whole_below p top) p name ⊎ LacksFrameIn (whole_below p top) p copies name → ⊥
  none_without name objects frames all (inl lacks) = no_object top p objects name all.objects_stand all.each_object lacks
  none_without name objects frames all (inr lacks) = no_frame top p objects copies frames name all.frames_stand all.each_frame (moved name objects all.objects_stand all.each_object lacks)

  pub one_without : (m n : List ℕ) → LacksObjectIn (whole_below p top) p m ⊎ LacksFrameIn (whole_below p top) p copies m → LacksObjectIn (whole_below p top) p n ⊎ LacksFrameIn (whole_below p top) p copies n → m ≡ n
  one_without m n (inl here) (inl there) = object_named top p m n here there
  one_without m n (inl here) (inr there) = absurd (no_object top p there.objects m there.objects_stand there.each_object here)
  one_without m n (inr here) (inl there) = absurd (no_object top p here.objects n here.objects_stand here.each_object there)
  one_without m n (inr here) (inr there) = frame_named top p there.objects copies m n (moved m there.objects there.objects_stand there.each_object here) there.frame

  -- objects and frames have one placing
  pub placed_once : (objects others : List ObjectLine) (frames more : List FrameLine) → IsPlacingIn (whole_below p top) p copies objects frames → IsPlacingIn (whole_below p top) p copies others more → (objects ≡ others) × (frames ≡ more)
  placed_once objects others frames more here there =
      let same : objects ≡ others = objects_once top p objects others here.objects_stand there.objects_stand here.each_object there.each_object in (
        same,
        whole_once copies (IsFrameBelow top p objects copies) (frame_once top p objects copies) frames more here.frames_stand
            (subst (λ (l : List ObjectLine). AreFramesBelow top p l copies more) (sym same) there.frames_stand) here.each_frame there.each_frame,
      )

-- .. in the whole memory as well
pub one_placing : (p : Program) (copies : List FnCopy) (objects others : List ObjectLine) (frames more : List FrameLine) → IsPlacing p copies objects frames → IsPlacing p copies others more → (objects ≡ others) × (frames ≡ more)
one_placing p copies objects others frames more here there = placed_once 0x200 p copies objects others frames more here there
