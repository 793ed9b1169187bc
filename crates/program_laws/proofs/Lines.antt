-- Lines of objects and of frames have names, and no two frames have one root and one name.
use Rattle.std.proofs.Common.{◌≡◌, ℕ, zero, suc, ◌<◌, ◌≤◌, ◌⊎◌, inl, inr, Bool, true, false, ◌||◌, List, [], ◌∷◌, length, Some, refl, sym, ap, ◌∙◌, subst, arith, true≢false}
use Rattle.std.specs.Prelude.{slice_get, slice_index_or, nat_le, ◌==◌, ◌&&◌}
use Rattle.std.specs.List.{AllPairs, list_all}
use Rattle.std.proofs.lemmas.Bool.{cases_lt, false≢true, and_from, and_parts}
use Rattle.std.proofs.lemmas.List.Sums.{AllPass-from_list_all}
use Rattle.c_token.specs.Longest.{is_word}
use Rattle.c_typed.specs.Chains.{graph_of, number_of, IsLevel}
use Rattle.c_typed.specs.Trees.{StaticTree, FunctionTree, Program}
use Rattle.c_typed.specs.declared.calls.FnId.{FnId}
use Rattle.c_typed.specs.declared.calls.FnId.TheVariants.{User, Helper}
use Rattle.call_graph.specs.Copies.{root_of, root_place, IsOne, IsCopy, StandsBefore, AreCopies}
use Rattle.call_graph.specs.declared.types.FnCopy.{FnCopy}
use Rattle.pic_map.specs.MapContent.{ObjectLine, FrameLine}
use Rattle.pic_map.specs.MapFile.{is_name_byte, IsName}
use Rattle.ram_place.specs.Placement.{IsPlacing}
use Rattle.ram_place.specs.Sizes.{name_of, name_or_none}
use Rattle.program_laws.specs.Named.{is_dotted_byte, IsDotted, AreDotted, HaveWords, HaveOtherNames, AreNamed}
use Rattle.program_laws.proofs.Words.{word_dotted}
use Rattle.program_laws.specs.MapNames.{AreOtherFrames, HaveNames}
use Rattle.program_laws.proofs.Helpers.{no_word, helper_name, helpers_differ}

-- ---- places in lists

got_at : {A : Type 0} (xs : List A) (k : ℕ) (d : A) → k < length xs → slice_get xs k ≡ Some (slice_index_or xs k d)
got_at [] k d h = absurd (omega (arith, h))
got_at (x ∷ xs) zero d h = refl
got_at (x ∷ xs) (suc k) d h = got_at xs k d (omega (arith, h))

is_there : {A : Type 0} (xs : List A) (k : ℕ) → k < length xs → (x : A) × (slice_get xs k ≡ Some x)
is_there [] k h = absurd (omega (arith, h))
is_there (x ∷ xs) zero h = (x, refl)
is_there (x ∷ xs) (suc k) h = is_there xs k (omega (arith, h))

index_is : {A : Type 0} (xs : List A) (k : ℕ) (x d : A) → slice_get xs k ≡ Some x → slice_index_or xs k d ≡ x
index_is [] k x d h = absurd (cc h)
index_is (y ∷ xs) zero x d h = some_is y x h
  where
    some_is : {A : Type 0} (a b : A) → Some a ≡ Some b → a ≡ b
    some_is a b e = cc
index_is (y ∷ xs) (suc k) x d h = index_is xs k x d h

in_range : {A : Type 0} (xs : List A) (k : ℕ) (x : A) → slice_get xs k ≡ Some x → k < length xs
in_range [] k x h = absurd (cc h)
in_range (y ∷ xs) zero x h = omega arith
in_range (y ∷ xs) (suc k) x h = let l = in_range xs k x h in omega (arith, l)

-- ---- bytes

-- the same classes in the map's order
in_order : (capital small line digit stop dollar : Bool) → ((((capital || small) || line) || digit) || stop) ≡ true → (((((capital || small) || digit) || line) || stop) || dollar) ≡ true
in_order true b u d s x h = refl
in_order false true b u d s h = refl
in_order false false true true s x h = refl
in_order false false true false s x h = refl
in_order false false false true s x h = refl
in_order false false false false true x h = refl
in_order false false false false false x h = absurd (false≢true h)

all_names : (bs : List ℕ) → list_all is_dotted_byte bs ≡ true → list_all is_name_byte bs ≡ true
all_names [] h = refl
all_names (b ∷ bs) h = let parts = and_parts (is_dotted_byte b) (list_all is_dotted_byte bs) h in
    and_from (is_name_byte b) (list_all is_name_byte bs) (in_order (nat_le 65 b && nat_le b 90) (nat_le 97 b && nat_le b 122) (b == 95) (nat_le 48 b && nat_le b 57) (b == 46) (b == 36) parts.0) (all_names bs parts.1)

dotted_name : (name : List ℕ) → IsDotted name → IsName name
dotted_name name h = record { some = h.some; bytes = AllPass-from_list_all is_name_byte name (all_names name h.bytes) }

-- ---- objects

static_dotted : (ss : List StaticTree) (k : ℕ) (s : StaticTree) → AreDotted ss → slice_get ss k ≡ Some s → IsDotted s.name
static_dotted [] k s are h = absurd (cc h)
static_dotted (t ∷ ss) zero s are h = subst (λ (z : StaticTree). IsDotted z.name) (some_is t s h) are.0
  where
    some_is : (a b : StaticTree) → Some a ≡ Some b → a ≡ b
    some_is a b e = cc
static_dotted (t ∷ ss) (suc k) s are h = static_dotted ss k s are.1 h

-- ---- functions

function_word : (fs : List FunctionTree) (k : ℕ) (f : FunctionTree) → HaveWords fs → slice_get fs k ≡ Some f → is_word f.name ≡ true
function_word [] k f have h = absurd (cc h)
function_word (g ∷ fs) zero f have h = subst (λ (z : FunctionTree). is_word z.name ≡ true) (some_is g f h) have.0
  where
    some_is : (a b : FunctionTree) → Some a ≡ Some b → a ≡ b
    some_is a b e = cc
function_word (g ∷ fs) (suc k) f have h = function_word fs k f have.1 h

functions_once : (fs : List FunctionTree) (m n : ℕ) (f g : FunctionTree) → AllPairs HaveOtherNames fs → slice_get fs m ≡ Some f → slice_get fs n ≡ Some g → f.name ≡ g.name → m ≡ n
functions_once fs m n f g distinct at_m at_n same = by (cases_lt m n) (cases_lt n m)
  where
    apart : (i j : ℕ) (x y : FunctionTree) → i < j → slice_get fs i ≡ Some x → slice_get fs j ≡ Some y → x.name ≡ y.name → ⊥
    apart i j x y less at_i at_j e = distinct i j x less (in_range fs j y at_j)
        (ap (λ (z : FunctionTree). z.name) (index_is fs i x x at_i) ∙ (e ∙ ap (λ (z : FunctionTree). z.name) (sym (index_is fs j y x at_j))))

    by : (m < n) ⊎ (n ≤ m) → (n < m) ⊎ (m ≤ n) → m ≡ n
    by (inl less) other = absurd (apart m n f g less at_m at_n same)
    by (inr h) (inl less) = absurd (apart n m g f less at_n at_m (sym same))
    by (inr h) (inr l) = omega (arith, h, l)

module _ (p : Program) (named : AreNamed p) where
  function_at : (m : ℕ) → m < length p.functions → (f : FunctionTree) × (slice_get p.functions m ≡ Some f) × (name_of p (User m) ≡ f.name)
  function_at m h = let f = is_there p.functions m h in (f.0, f.1, ap name_or_none f.1)

  user_word : (m : ℕ) → m < length p.functions → is_word (name_of p (User m)) ≡ true
  user_word m h = let f = function_at m h in ap is_word f.2 ∙ function_word p.functions m f.0 named.functions f.1

  name_is : (f : FnId) → IsOne (length p.functions) f → IsName (name_of p f)
  name_is (User m) h = dotted_name (name_of p (User m)) (word_dotted (name_of p (User m)) (user_word m h))
  name_is (Helper helper) h = helper_name helper

  -- two functions or helpers with one name are one
  names_once : (f g : FnId) → IsOne (length p.functions) f → IsOne (length p.functions) g → name_of p f ≡ name_of p g → f ≡ g
  names_once (User m) (User n) h k same =
      let f = function_at m h in
      let g = function_at n k in
      ap User (functions_once p.functions m n f.0 g.0 named.distinct f.1 g.1 (sym f.2 ∙ (same ∙ g.2)))
  names_once (User m) (Helper b) h k same = absurd (true≢false (sym (user_word m h) ∙ (ap is_word same ∙ no_word b)))
  names_once (Helper a) (User n) h k same = absurd (true≢false (sym (user_word n k) ∙ (ap is_word (sym same) ∙ no_word a)))
  names_once (Helper a) (Helper b) h k same = ap Helper (helpers_differ a b same)

-- ---- copies

number_is : (a b : ℕ) → Some a ≡ Some b → a ≡ b
number_is a b e = cc

-- two copies of one function under one root have one level
one_level : (p : Program) (a b : FnCopy) → IsCopy p a → IsCopy p b → a.root ≡ b.root → a.function ≡ b.function → a.level ≡ b.level
one_level p a b x y root function =
    let number : x.number ≡ y.number = number_is x.number y.number (sym x.entered ∙ (ap (root_of p) root ∙ y.entered)) in
    let n = length p.functions in
    let moved : IsLevel (graph_of p) x.number (number_of n b.function) b.level = subst (λ (i : ℕ). IsLevel (graph_of p) i (number_of n b.function) b.level) (sym number) y.level in
    let other : IsLevel (graph_of p) x.number (number_of n a.function) b.level = subst (λ (f : FnId). IsLevel (graph_of p) x.number (number_of n f) b.level) (sym function) moved in
    let long = (x.level).1 other.0.0 other.0.1 in
    let short = other.1 (x.level).0.0 (x.level).0.1 in
    let first = (x.level).0.2 in
    let second = other.0.2 in
    omega (arith, long, short, first, second)

-- so none stands before another one of the same function and root
pub not_before : (p : Program) (a b : FnCopy) → IsCopy p a → IsCopy p b → StandsBefore (length p.functions) a b → a.root ≡ b.root → a.function ≡ b.function → ⊥
not_before p a b x y (inl less) root function = let same = ap root_place root in omega (arith, less, same)
not_before p a b x y (inr (same, inl less)) root function = let level = one_level p a b x y root function in omega (arith, less, level)
not_before p a b x y (inr (same, inr (level, less))) root function = let number = ap (number_of (length p.functions)) function in omega (arith, less, number)

module _ (p : Program) (copies : List FnCopy) (objects : List ObjectLine) (frames : List FrameLine) (named : AreNamed p) (known : AreCopies p copies) (placing : IsPlacing p copies objects frames) where
  object_named : (k : ℕ) (line : ObjectLine) → slice_get objects k ≡ Some line → IsName line.name
  object_named k line is =
      let within = in_range objects k line is in
      let whole = placing.each_object in
      let s = is_there p.statics k (omega (arith, within, whole)) in
      let line_is = (placing.objects_stand k s.0 line s.1 is).0 in
      subst IsName (ap (λ (l : ObjectLine). l.name) (sym line_is)) (dotted_name (s.0).name (static_dotted p.statics k s.0 named.statics s.1))

  -- the copy of a frame
  copy_at : (k : ℕ) → k < length frames → (c : FnCopy) × (slice_get copies k ≡ Some c) × IsCopy p c
  copy_at k within =
      let whole = placing.each_frame in
      let lt : k < length copies = omega (arith, within, whole) in
      let c = is_there copies k lt in
      (c.0, c.1, (known.exact c.0).0 (k, lt, index_is copies k c.0 c.0 c.1))

  frame_named : (k : ℕ) (line : FrameLine) → slice_get frames k ≡ Some line → IsName line.name
  frame_named k line is =
      let c = copy_at k (in_range frames k line is) in
      let line_is = (placing.frames_stand k c.0 line c.1 is).0 in
      subst IsName (ap (λ (l : FrameLine). l.name) (sym line_is)) (name_is p named (c.0).function (c.2).one)

  frames_apart : (i j : ℕ) (f g : FrameLine) → i < j → slice_get frames i ≡ Some f → slice_get frames j ≡ Some g → AreOtherFrames f g
  frames_apart i j f g less at_i at_j root name =
      let a = copy_at i (in_range frames i f at_i) in
      let b = copy_at j (in_range frames j g at_j) in
      let f_is = (placing.frames_stand i a.0 f a.1 at_i).0 in
      let g_is = (placing.frames_stand j b.0 g b.1 at_j).0 in
      let roots : (a.0).root ≡ (b.0).root = sym (ap (λ (l : FrameLine). l.root) f_is) ∙ (root ∙ ap (λ (l : FrameLine). l.root) g_is) in
      let names : name_of p (a.0).function ≡ name_of p (b.0).function = sym (ap (λ (l : FrameLine). l.name) f_is) ∙ (name ∙ ap (λ (l : FrameLine). l.name) g_is) in
      let before = known.ordered i j a.0 less (in_range copies j b.0 b.1) in
      let stands : StandsBefore (length p.functions) a.0 b.0 = subst (λ (z : FnCopy). StandsBefore (length p.functions) a.0 z) (index_is copies j b.0 a.0 b.1)
      (subst (λ (z : FnCopy). StandsBefore (length p.functions) z (slice_index_or copies j a.0)) (index_is copies i a.0 a.0 a.1) before) in
      not_before p a.0 b.0 a.2 b.2 stands roots (names_once p named (a.0).function (b.0).function (a.2).one (b.2).one names)

  names_had : HaveNames objects frames
  names_had = record {
    objects = λ k d within. object_named k (slice_index_or objects k d) (got_at objects k d within);
    frames = λ k d within. frame_named k (slice_index_or frames k d) (got_at frames k d within);
    apart = λ i j d less within. frames_apart i j (slice_index_or frames i d) (slice_index_or frames j d) less (got_at frames i d (omega (arith, less, within))) (got_at frames j d within);
  }

pub lines_named : (p : Program) (copies : List FnCopy) (objects : List ObjectLine) (frames : List FrameLine) → AreNamed p → AreCopies p copies → IsPlacing p copies objects frames → HaveNames objects frames
lines_named p copies objects frames named known placing = names_had p copies objects frames named known placing
