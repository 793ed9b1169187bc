-- Laws of a placing: what may be live together is disjoint.
use Rattle.std.proofs.Common.{◌≡◌, ℕ, zero, suc, ◌+◌, ◌<◌, ◌≤◌, ◌⊎◌, inl, inr, Bool, true, false, ◌||◌, List, [], ◌∷◌, length, take, refl, sym, ap, ◌∙◌, subst, arith, Option, Some, slice_get}
use Rattle.std.proofs.lemmas.Bool.{cases_lt}
use Rattle.std.proofs.lemmas.Option.{slice_get_within, slice_get_cases}
use Rattle.c_typed.specs.Chains.{graph_of}
use Rattle.c_typed.specs.Trees.{StaticTree, Program}
use Rattle.call_graph.specs.declared.types.FnCopy.{FnCopy}
use Rattle.pic_map.specs.MapContent.{ObjectLine, FrameLine}
use Rattle.live_frames.specs.Memory.{covers, AreDisjoint}
use Rattle.live_frames.specs.Together.{MayBeLive, LiveFramesHave}
use Rattle.ram_place.specs.Placement.{objects_have, IsTaken, IsTakenFor, Extent, IsPlacingIn, LiveFramesAreDisjoint, FramesAreClear, ObjectsAreDisjoint}
use Rattle.ram_place.proofs.Below.{below_free}

get_take : {X : Type 0} (xs : List X) (k j : ℕ) (x : X) → j < k → slice_get xs j ≡ Some x → slice_get (take k xs) j ≡ Some x
get_take {X} [] k j x less got = absurd (cc)
get_take {X} (y ∷ ys) zero j x less got = absurd (omega (arith, less))
get_take {X} (y ∷ ys) (suc k) zero x less got = got
get_take {X} (y ∷ ys) (suc k) (suc j) x less got = get_take ys k j x (omega (arith, less)) got

-- the bytes of an object are those of one of the objects
one_object : (xs : List ObjectLine) (j : ℕ) (o : ObjectLine) (x : ℕ) → slice_get xs j ≡ Some o → covers o.address o.size x ≡ true → objects_have xs x ≡ true
one_object [] j o x got has = absurd (cc)
one_object (y ∷ ys) zero o x got has =
    let same : y ≡ o = cc in
    ap (λ (l : ObjectLine). covers l.address l.size x || objects_have ys x) same ∙ ap (λ (b : Bool). b || objects_have ys x) has
one_object (y ∷ ys) (suc j) o x got has = ap (λ (b : Bool). covers y.address y.size x || b) (one_object ys j o x got has) ∙ or_true (covers y.address y.size x) where
  or_true : (b : Bool) → (b || true) ≡ true
  or_true true = refl
  or_true false = refl

-- the bytes of a frame that may be live are those of one of the frames
one_frame : (graph : List (List ℕ)) (functions : ℕ) (copy : FnCopy) (others : List FnCopy) (lines : List FrameLine) (j : ℕ) (other : FnCopy) (f : FrameLine) (x : ℕ) → slice_get others j ≡ Some other → slice_get lines j ≡ Some f → MayBeLive graph functions other copy → covers f.address f.size x ≡ true → LiveFramesHave graph functions copy others lines x
one_frame graph functions copy [] lines j other f x listed got live has = absurd (cc)
one_frame graph functions copy (c ∷ cs) [] j other f x listed got live has = absurd (cc)
one_frame graph functions copy (c ∷ cs) (l ∷ ls) zero other f x listed got live has =
    let same_copy : other ≡ c = cc in
    let same_line : f ≡ l = cc in
    let P : FnCopy → Type 0 = λ (d : FnCopy). MayBeLive graph functions d copy in
    let Q : FrameLine → Type 0 = λ (m : FrameLine). covers m.address m.size x ≡ true in
    inl (subst P same_copy live, subst Q same_line has)
one_frame graph functions copy (c ∷ cs) (l ∷ ls) (suc j) other f x listed got live has = inr (one_frame graph functions copy cs ls j other f x listed got live has)

turned : (graph : List (List ℕ)) (functions : ℕ) (a b : FnCopy) → MayBeLive graph functions a b → MayBeLive graph functions b a
turned graph functions a b live = elim live [ inl roots ↦ inl (λ same. roots (sym same)) | inr one ↦ elim one [ inl on ↦ inr (inr on) | inr back ↦ inr (inl back) ] ]

-- a frame is clear of an earlier one that may be live
earlier : (e : Extent) (p : Program) (copies : List FnCopy) (objects : List ObjectLine) (frames : List FrameLine) → IsPlacingIn e p copies objects frames → (j k : ℕ) (a b : FnCopy) (f g : FrameLine) → j < k → slice_get copies j ≡ Some a → slice_get copies k ≡ Some b → slice_get frames j ≡ Some f → slice_get frames k ≡ Some g → MayBeLive (graph_of p) (length p.functions) a b → AreDisjoint f.address f.size g.address g.size
earlier e p copies objects frames placing j k a b f g less one two here there live x in_first in_second =
    below_free e.top (IsTakenFor p objects copies (take k frames) b) g.size g.address x (placing.frames_stand k b g two there).1 in_second
    (inr (one_frame (graph_of p) (length p.functions) b copies (take k frames) j a f x one (get_take frames k j f less here) live in_first))

other_way : (j k : ℕ) → (j ≡ k → ⊥) → (j < k) ⊎ (k < j)
other_way j k other = elim (cases_lt j k) [ inl less ↦ inl less | inr more ↦ inr (below j k other more) ] where
  below : (j k : ℕ) → (j ≡ k → ⊥) → k ≤ j → k < j
  below j k other more = elim (cases_lt k j) [ inl less ↦ less | inr same ↦ absurd (other (omega (arith, more, same))) ]

pub live_disjoint : (e : Extent) (p : Program) (copies : List FnCopy) (objects : List ObjectLine) (frames : List FrameLine) → IsPlacingIn e p copies objects frames → LiveFramesAreDisjoint p copies frames
live_disjoint e p copies objects frames placing j k a b f g other one two here there live x in_first in_second =
    elim (other_way j k other) [
      | inl less ↦ earlier e p copies objects frames placing j k a b f g less one two here there live x in_first in_second
      | inr more ↦ earlier e p copies objects frames placing k j b a g f more two one there here (turned (graph_of p) (length p.functions) a b live) x in_second in_first
    ]

-- a frame is clear of each object
pub frames_clear : (e : Extent) (p : Program) (copies : List FnCopy) (objects : List ObjectLine) (frames : List FrameLine) → IsPlacingIn e p copies objects frames → FramesAreClear objects frames
frames_clear e p copies objects frames placing j k o f here there x in_object in_frame =
    elim (slice_get_cases copies k).1 [
      | inl found ↦ below_free e.top (IsTakenFor p objects copies (take k frames) found.0) f.size f.address x (placing.frames_stand k found.0 f found.2 there).1 in_frame (inl (one_object objects j o x here in_object))
      | inr past ↦ absurd (omega (arith, past.0, placing.each_frame, slice_get_within frames k f there))
    ]

earlier_object : (e : Extent) (p : Program) (copies : List FnCopy) (objects : List ObjectLine) (frames : List FrameLine) → IsPlacingIn e p copies objects frames → (j k : ℕ) (o q : ObjectLine) → j < k → slice_get objects j ≡ Some o → slice_get objects k ≡ Some q → AreDisjoint o.address o.size q.address q.size
earlier_object e p copies objects frames placing j k o q less here there x in_first in_second =
    elim (slice_get_cases e.statics k).1 [
      | inl found ↦ below_free e.top (IsTaken (take k objects)) q.size q.address x (placing.objects_stand k found.0 q found.2 there).1 in_second (one_object (take k objects) j o x (get_take objects k j o less here) in_first)
      | inr past ↦ absurd (omega (arith, past.0, placing.each_object, slice_get_within objects k q there))
    ]

pub objects_disjoint : (e : Extent) (p : Program) (copies : List FnCopy) (objects : List ObjectLine) (frames : List FrameLine) → IsPlacingIn e p copies objects frames → ObjectsAreDisjoint objects
objects_disjoint e p copies objects frames placing j k o q other here there x in_first in_second =
    elim (other_way j k other) [
      | inl less ↦ earlier_object e p copies objects frames placing j k o q less here there x in_first in_second
      | inr more ↦ earlier_object e p copies objects frames placing k j q o more there here x in_second in_first
    ]
