-- The layout that the placing makes is one of the program's objects and copies, and each object and frame stands whole in a bank.
use Rattle.std.proofs.Common.{◌≡◌, ℕ, zero, suc, ◌+◌, ◌<◌, ◌≤◌, inl, inr, Bool, true, false, not, ◌||◌, List, [], ◌∷◌, map, length, take, Option, Some, None, refl, sym, ap, ◌∙◌, subst, arith}
use Rattle.std.specs.Prelude.{slice_get, slice_index_or}
use Rattle.std.proofs.lemmas.Bool.{le-leb}
use Rattle.std.proofs.lemmas.List.{length-append, length-map}
use Rattle.std.proofs.lemmas.Option.{slice_get_within}
use Rattle.c_typed.specs.Room.{frame_size}
use Rattle.c_typed.specs.Trees.{FunctionTree, Program, StaticTree}
use Rattle.c_typed.specs.Types.{type_bytes}
use Rattle.c_typed.specs.declared.calls.FnId.{FnId}
use Rattle.c_typed.specs.declared.calls.FnId.TheVariants as callees
use Rattle.c_typed.specs.declared.calls.Helper.{Helper}
use Rattle.c_typed.specs.declared.calls.Helper.TheVariants.{Mul2, Mul4, Divu2, Divs2, Remu2, Rems2, Divu4, Divs4, Remu4, Rems4, Shl2, Shru2, Shrs2, Shl4, Shru4, Shrs4}
use Rattle.c_typed.specs.declared.program.Initial.{Initial}
use Rattle.call_graph.specs.declared.types.FnCopy.{FnCopy}
use Rattle.core_code.specs.FirstBytes.{first_held}
use Rattle.lower_stmt.specs.Bodies.{first_bytes}
use Rattle.lower_stmt.specs.FirstBytes.{byte_at, bytes_in, static_bytes}
use Rattle.lower_stmt.specs.Programs.{size_or_none, function_in, function_at, isnt_const, root_in, statics_held, core_of}
use Rattle.math_helpers.specs.Shape as shape
use Rattle.pic_chip.specs.Run.{Range}
use Rattle.pic_map.specs.MapContent as content
use Rattle.pic_map.specs.MapView.{object_of, frame_of}
use Rattle.pic_map.specs.declared.Placed.{Placed}
use Rattle.ram_place.specs.Helpers as helpers
use Rattle.live_frames.specs.Memory.{Stands, IsLowest, regions}
use Rattle.ram_place.specs.Placement.{IsPlacing, IsTaken, IsTakenFor}
use Rattle.ram_place.specs.Sizes as sizes
use Rattle.sym_code.specs.Layout.{FrameRange, IsOf, no_range, no_frame, object, frame, lies_in, is_whole}
use Rattle.code_place.specs.Layouts as places
use Rattle.code_place.specs.Layouts.{layout_of}
use Rattle.headline_trace.specs.Carried.{frame_of as range_of_frame}
use Rattle.headline_trace.proofs.Numbers.{and_true}
use Rattle.headline_trace.proofs.Statics.{some_is}

-- ---- lists
pub is_there : {A : Type 0} (xs : List A) (n : ℕ) → n < length xs → (x : A) × (slice_get xs n ≡ Some x)
is_there [] n lt = absurd (omega arith)
is_there (x ∷ xs) zero lt = (x, refl)
is_there (x ∷ xs) (suc n) lt = is_there xs n (omega arith)

-- what two views of a list have at one index
pub mapped_at : {A B C : Type 0} (f : A → B) (g : A → C) (xs : List A) (n : ℕ) (d : C) (b : B) → slice_get (map f xs) n ≡ Some b → (x : A) × (f x ≡ b) × (slice_index_or (map g xs) n d ≡ g x)
mapped_at f g [] n d b is = absurd (cc)
mapped_at f g (x ∷ xs) zero d b is = (x, some_is (f x) b is, refl)
mapped_at f g (x ∷ xs) (suc n) d b is = mapped_at f g xs n d b is

index_is : {A B : Type 0} (f : A → B) (xs : List A) (n : ℕ) (d : B) (x : A) → slice_get xs n ≡ Some x → slice_index_or (map f xs) n d ≡ f x
index_is f [] n d x is = absurd (cc)
index_is f (y ∷ xs) zero d x is = ap f (some_is y x is)
index_is f (y ∷ xs) (suc n) d x is = index_is f xs n d x is

pub get_map : {A B : Type 0} (f : A → B) (xs : List A) (n : ℕ) (x : A) → slice_get xs n ≡ Some x → slice_get (map f xs) n ≡ Some (f x)
get_map f [] n x is = absurd (cc)
get_map f (y ∷ xs) zero x is = ap (λ z. Some (f z)) (some_is y x is)
get_map f (y ∷ xs) (suc n) x is = get_map f xs n x is

-- ---- where things stand
lies : (first behind address size : ℕ) → first ≤ address → address + size ≤ behind → lies_in first behind address size ≡ true
lies first behind address size low high = and_true _ _ (le-leb first address low) (le-leb (address + size) behind high)

in_first : (a b c d : Bool) → a ≡ true → (a || b || c || d) ≡ true
in_first a b c d e = ap (λ x. x || b || c || d) e

in_second : (a b c d : Bool) → b ≡ true → (a || b || c || d) ≡ true
in_second true b c d e = refl
in_second false b c d e = ap (λ x. x || c || d) e

in_third : (a b c d : Bool) → c ≡ true → (a || b || c || d) ≡ true
in_third true b c d e = refl
in_third false true c d e = refl
in_third false false c d e = ap (λ x. x || d) e

in_fourth : (a b c d : Bool) → d ≡ true → (a || b || c || d) ≡ true
in_fourth true b c d e = refl
in_fourth false true c d e = refl
in_fourth false false true d e = refl
in_fourth false false false d e = e

lowest_whole : (taken : ℕ → Type 0) (size address : ℕ) → IsLowest taken regions size address → is_whole address size ≡ true
lowest_whole taken size address (inl h) = let i = h.0 in let j = i.0 in let low = j.0 in let high = j.1 in in_first (lies_in 0x20 0x70 address size) (lies_in 0xa0 0xf0 address size) (lies_in 0x110 0x170 address size) (lies_in 0x190 0x1f0 address size) (lies 0x20 0x70 address size (omega arith) (omega arith))
lowest_whole taken size address (inr (full, inl h)) = let i = h.0 in let j = i.0 in let low = j.0 in let high = j.1 in in_second (lies_in 0x20 0x70 address size) (lies_in 0xa0 0xf0 address size) (lies_in 0x110 0x170 address size) (lies_in 0x190 0x1f0 address size) (lies 0xa0 0xf0 address size (omega arith) (omega arith))
lowest_whole taken size address (inr (full, inr (more, inl h))) = let i = h.0 in let j = i.0 in let low = j.0 in let high = j.1 in in_third (lies_in 0x20 0x70 address size) (lies_in 0xa0 0xf0 address size) (lies_in 0x110 0x170 address size) (lies_in 0x190 0x1f0 address size) (lies 0x110 0x170 address size (omega arith) (omega arith))
lowest_whole taken size address (inr (full, inr (more, inr (rest, inl h)))) =
    let i = h.0 in let j = i.0 in let low = j.0 in let high = j.1 in in_fourth (lies_in 0x20 0x70 address size) (lies_in 0xa0 0xf0 address size) (lies_in 0x110 0x170 address size) (lies_in 0x190 0x1f0 address size) (lies 0x190 0x1f0 address size (omega arith) (omega arith))
lowest_whole taken size address (inr (full, inr (more, inr (rest, inr h)))) = absurd (h.1)

whole : (taken : ℕ → Type 0) (size address : ℕ) → Stands taken size address → is_whole address size ≡ true
whole taken zero address stands = ap (λ a. is_whole a 0) (stands.0 refl)
whole taken (suc size) address stands = lowest_whole taken (suc size) address (stands.1 (omega arith))

-- no region has more than 96 bytes
lowest_small : (taken : ℕ → Type 0) (size address : ℕ) → IsLowest taken regions size address → size ≤ 96
lowest_small taken size address (inl h) = let i = h.0 in let j = i.0 in let low = j.0 in let high = j.1 in omega arith
lowest_small taken size address (inr (full, inl h)) = let i = h.0 in let j = i.0 in let low = j.0 in let high = j.1 in omega arith
lowest_small taken size address (inr (full, inr (more, inl h))) = let i = h.0 in let j = i.0 in let low = j.0 in let high = j.1 in omega arith
lowest_small taken size address (inr (full, inr (more, inr (rest, inl h)))) = let i = h.0 in let j = i.0 in let low = j.0 in let high = j.1 in omega arith
lowest_small taken size address (inr (full, inr (more, inr (rest, inr h)))) = absurd (h.1)

small : (taken : ℕ → Type 0) (size address : ℕ) → Stands taken size address → size ≤ 96
small taken zero address stands = omega arith
small taken (suc size) address stands = lowest_small taken (suc size) address (stands.1 (omega arith))

pub bytes_long : (is : List Initial) (n : ℕ) → length (bytes_in is n) ≡ n
unfolding bytes_in
bytes_long is zero = refl
bytes_long is (suc n) = length-append (bytes_in is n) (byte_at is n ∷ []) ∙ ap (λ m. m + 1) (bytes_long is n) ∙ omega arith

helper_room : (h : Helper) → shape.frame_size h ≤ helpers.frame_bytes h
helper_room Mul2 = omega arith
helper_room Mul4 = omega arith
helper_room Divu2 = omega arith
helper_room Divs2 = omega arith
helper_room Remu2 = omega arith
helper_room Rems2 = omega arith
helper_room Divu4 = omega arith
helper_room Divs4 = omega arith
helper_room Remu4 = omega arith
helper_room Rems4 = omega arith
helper_room Shl2 = omega arith
helper_room Shru2 = omega arith
helper_room Shrs2 = omega arith
helper_room Shl4 = omega arith
helper_room Shru4 = omega arith
helper_room Shrs4 = omega arith

user_room : (p : Program) (f : FnId) → size_or_none (frame_size p.sizes) (function_at p f) ≤ sizes.frame_bytes p f
user_room p (callees.User f) = by (slice_get p.functions f) where
  by : (o : Option FunctionTree) → size_or_none (frame_size p.sizes) o ≤ sizes.size_or_none (frame_size p.sizes) o
  by None = omega arith
  by (Some function) = omega arith
user_room p (callees.Helper h) = omega arith

not_not : (b : Bool) → b ≡ not (not b)
not_not true = refl
not_not false = refl

module _ (p : Program) (copies : List FnCopy) (placed : Placed) (placing : IsPlacing p copies (map object_of placed.objects.items) (map frame_of placed.frames.items)) where
  record ObjectStands (n : ℕ) (s : StaticTree) : Type 0 where
    address : ℕ
    is : object (layout_of placed) n ≡ record { constant = s.ty.constant; address = address; size = type_bytes p.sizes s.ty.ty }
    in_bank : is_whole address (type_bytes p.sizes s.ty.ty) ≡ true
    few : type_bytes p.sizes s.ty.ty ≤ 96

  object_at : (n : ℕ) (s : StaticTree) → slice_get p.statics n ≡ Some s → ObjectStands n s
  object_at n s is =
      let lt : n < length p.statics = slice_get_within p.statics n s is in
      let each = placing.each_object in
      let line = is_there (map object_of placed.objects.items) n (omega arith) in
      let here = placing.objects_stand n s line.0 is line.1 in
      let at = mapped_at object_of places.range_of placed.objects.items n no_range line.0 line.1 in
      let taken = IsTaken (take n (map object_of placed.objects.items)) in
      record {
        address = line.0.address;
        is = at.2 ∙ ap content.range_of at.1 ∙ ap content.range_of here.0;
        in_bank = whole taken (type_bytes p.sizes s.ty.ty) line.0.address (subst (λ size. Stands taken size line.0.address) (ap (λ (x : content.ObjectLine). x.size) here.0) here.1);
        few = small taken (type_bytes p.sizes s.ty.ty) line.0.address (subst (λ size. Stands taken size line.0.address) (ap (λ (x : content.ObjectLine). x.size) here.0) here.1);
      }

  record FrameStands (c : ℕ) (copy : FnCopy) : Type 0 where
    address : ℕ
    is : frame (layout_of placed) c ≡ record { root = copy.root; address = address; size = sizes.frame_bytes p copy.function }
    in_bank : is_whole address (sizes.frame_bytes p copy.function) ≡ true
    few : sizes.frame_bytes p copy.function ≤ 96

  frame_at : (c : ℕ) (copy : FnCopy) → slice_get copies c ≡ Some copy → FrameStands c copy
  frame_at c copy is =
      let lt : c < length copies = slice_get_within copies c copy is in
      let each = placing.each_frame in
      let line = is_there (map frame_of placed.frames.items) c (omega arith) in
      let here = placing.frames_stand c copy line.0 is line.1 in
      let at = mapped_at frame_of places.frame_of placed.frames.items c no_frame line.0 line.1 in
      let taken = IsTakenFor p (map object_of placed.objects.items) copies (take c (map frame_of placed.frames.items)) copy in
      record {
        address = line.0.address;
        is = at.2 ∙ ap range_of_frame at.1 ∙ ap range_of_frame here.0;
        in_bank = whole taken (sizes.frame_bytes p copy.function) line.0.address (subst (λ size. Stands taken size line.0.address) (ap (λ (x : content.FrameLine). x.size) here.0) here.1);
        few = small taken (sizes.frame_bytes p copy.function) line.0.address (subst (λ size. Stands taken size line.0.address) (ap (λ (x : content.FrameLine). x.size) here.0) here.1);
      }

  pub objects_long : length (layout_of placed).objects ≡ length p.statics
  objects_long = length-map placed.objects.items places.range_of ∙ sym (length-map placed.objects.items object_of) ∙ placing.each_object

  pub frames_long : length (layout_of placed).frames ≡ length copies
  frames_long = length-map placed.frames.items places.frame_of ∙ sym (length-map placed.frames.items frame_of) ∙ placing.each_frame

  -- each object stands whole in a bank, and so does each frame
  pub objects_whole : (n : ℕ) → n < length (layout_of placed).objects → is_whole (object (layout_of placed) n).address (object (layout_of placed) n).size ≡ true
  objects_whole n lt =
      let long = objects_long in
      let s = is_there p.statics n (omega arith) in
      let o = object_at n s.0 s.1 in
      ap (λ (r : Range). is_whole r.address r.size) o.is ∙ o.in_bank

  pub frames_whole : (c : ℕ) → c < length (layout_of placed).frames → is_whole (frame (layout_of placed) c).address (frame (layout_of placed) c).size ≡ true
  frames_whole c lt =
      let long = frames_long in
      let copy = is_there copies c (omega arith) in
      let f = frame_at c copy.0 copy.1 in
      ap (λ (r : FrameRange). is_whole r.address r.size) f.is ∙ f.in_bank

  -- each of them has at most 96 bytes
  pub object_few : (n : ℕ) (s : StaticTree) → slice_get p.statics n ≡ Some s → type_bytes p.sizes s.ty.ty ≤ 96
  object_few n s is = (object_at n s is).few

  pub frame_few : (c : ℕ) (copy : FnCopy) → slice_get copies c ≡ Some copy → sizes.frame_bytes p copy.function ≤ 96
  frame_few c copy is = (frame_at c copy is).few

  -- a frame of the layout has the bytes of its copy's
  pub frame_bytes_are : (c : ℕ) (copy : FnCopy) → slice_get copies c ≡ Some copy → (frame (layout_of placed) c).size ≡ sizes.frame_bytes p copy.function
  frame_bytes_are c copy is = let f = frame_at c copy is in ap (λ (r : FrameRange). r.size) f.is

  firsts_long : length (statics_held p) ≡ length p.statics
  firsts_long = length-map (first_bytes p) (map first_held) ∙ length-map p.statics (static_bytes p.sizes)

  first_long : (n : ℕ) (s : StaticTree) → slice_get p.statics n ≡ Some s → length (slice_index_or (statics_held p) n []) ≡ type_bytes p.sizes s.ty.ty
  first_long n s is =
      let there : slice_get (first_bytes p) n ≡ Some (static_bytes p.sizes s) = get_map (static_bytes p.sizes) p.statics n s is in
      ap length (index_is (map first_held) (first_bytes p) n [] (static_bytes p.sizes s) there) ∙ length-map (static_bytes p.sizes s) first_held ∙ bytes_long s.initial (type_bytes p.sizes s.ty.ty)

  -- The layout is one of the program's objects and copies.
  pub layout_is : IsOf (core_of p copies).first (core_of p copies).is_watched (length copies) (core_of p copies).frame_bytes (core_of p copies).root (layout_of placed)
  unfolding core_of
  layout_is = record {
    objects = objects_long ∙ sym firsts_long;
    sizes = λ n lt. let long = firsts_long in let s = is_there p.statics n (omega arith) in let o = object_at n s.0 s.1 in ap (λ (r : Range). r.size) o.is ∙ sym (first_long n s.0 s.1);
    constants = λ n lt. let long = firsts_long in let s = is_there p.statics n (omega arith) in let o = object_at n s.0 s.1 in
        ap (λ (r : Range). r.constant) o.is ∙ not_not s.0.ty.constant ∙ ap (λ (x : Option StaticTree). not (isnt_const x)) (sym s.1);
    frames = frames_long;
    frame_sizes = λ c lt. let copy = is_there copies c lt in let f = frame_at c copy.0 copy.1 in let room = user_room p copy.0.function in
        let size = ap (λ (r : FrameRange). r.size) f.is in
        let bytes = ap (λ (x : Option FnCopy). size_or_none (frame_size p.sizes) (function_in p x)) copy.1 in omega arith;
    roots = λ c lt. let copy = is_there copies c lt in let f = frame_at c copy.0 copy.1 in ap (λ (r : FrameRange). r.root) f.is ∙ sym (ap root_in copy.1);
  }

  -- .. and each routine has the frame that it needs
  pub routine_room : (c : ℕ) (copy : FnCopy) (h : Helper) → slice_get copies c ≡ Some copy → copy.function ≡ callees.Helper h → shape.frame_size h ≤ (frame (layout_of placed) c).size
  routine_room c copy h is routine =
      let f = frame_at c copy is in
      let size : (frame (layout_of placed) c).size ≡ helpers.frame_bytes h = ap (λ (r : FrameRange). r.size) f.is ∙ ap (sizes.frame_bytes p) routine in
      let room = helper_room h in
      omega arith
