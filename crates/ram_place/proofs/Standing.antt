-- Lines of objects and frames: what stands where, and what has no place.
use Rattle.std.proofs.Common.{◌≡◌, ℕ, zero, suc, ◌+◌, ◌-◌, ◌^◌, ◌<◌, ◌≤◌, min, ◌⊎◌, ◌↔◌, inl, inr, Bool, true, false, ◌||◌, List, [], ◌∷◌, ◌++◌, length, map, take, drop, refl, sym, ap, ◌∙◌, subst, arith, slice_get, Option, Some, Result, Ok, Err}
use Rattle.std.proofs.lemmas.Bool.{cases_lt}
use Rattle.std.proofs.lemmas.List.{length-map, length-append, map-append, take-append-le, take_at}
use Rattle.std.proofs.lemmas.Option.{slice_get_within}
use Rattle.c_typed.specs.Chains.{graph_of}
use Rattle.c_typed.specs.Nodes.{capped}
use Rattle.c_typed.specs.Trees.{StaticTree, Program}
use Rattle.c_typed.specs.Types.{type_bytes}
use Rattle.call_graph.specs.declared.types.FnCopy.{FnCopy}
use Rattle.pic_map.specs.MapContent.{ObjectLine, FrameLine}
use Rattle.pic_map.specs.declared.FrameLine as code
use Rattle.ram_place.specs.Answers.{TellsObject, TellsFrame}
use Rattle.live_frames.specs.Memory.{is_taken, covers}
use Rattle.live_frames.specs.Together.{LiveFramesHave}
use Rattle.ram_place.specs.Placement.{object_line, frame_line, objects_have, frames_have, IsTaken, IsTakenFor, Extent, IsObjectBelow, IsFrameBelow, AreObjectsIn, AreFramesBelow}
use Rattle.ram_place.specs.Regions.{StandsBelow, HasNoPlaceBelow}
use Rattle.ram_place.specs.Sizes as sizes
use Rattle.ram_place.specs.declared.placing.PlaceError.{PlaceError}
use Rattle.ram_place.specs.declared.placing.PlaceError.TheVariants.{NoMemory, Ram}
use Rattle.live_frames.proofs.FreeRuns.{too_large}
use Rattle.ram_place.proofs.Below.{below_too, lost_below, none_below_too}

-- a size that a region holds is told as it is
uncapped : (n size : ℕ) → size ≡ capped n → size ≤ 96 → size ≡ n
uncapped n size same small = omega (arith, same, small)

same_capped : (n : ℕ) → n ≤ 96 → capped n ≡ n
same_capped n small = omega (arith, small)

pub none_uncapped : (top : ℕ) (taken : ℕ → Type 0) (n told : ℕ) → told ≡ capped n → HasNoPlaceBelow top taken told → HasNoPlaceBelow top taken n
none_uncapped top taken n told same none =
    let P : ℕ → Type 0 = λ (m : ℕ). HasNoPlaceBelow top taken m in
    elim (cases_lt 96 n) [ inl large ↦ lost_below taken top n (too_large taken n large) | inr small ↦ subst P (same ∙ same_capped n small) none ]

-- the line of an object that stands somewhere
pub object_told : (top : ℕ) (p : Program) (s : StaticTree) (taken : ℕ → Type 0) (name : List ℕ) (address size n : ℕ) → name ≡ s.name → n ≡ type_bytes p.sizes s.ty.ty → StandsBelow top taken n address → size ≡ n → ((let line : ObjectLine = record { constant = s.ty.constant; name = name; address = address; size = size } in line) ≡ object_line p s address) × StandsBelow top taken size address
object_told top p s taken name address size n named bytes stands same =
    let one : List ℕ → ObjectLine = λ (m : List ℕ). record { constant = s.ty.constant; name = m; address = address; size = size } in
    let two : ℕ → ObjectLine = λ (m : ℕ). record { constant = s.ty.constant; name = s.name; address = address; size = m } in
    let P : ℕ → Type 0 = λ (m : ℕ). StandsBelow top taken m address in
    (ap one named ∙ ap two (same ∙ bytes), subst P (sym same) stands)

-- the line of a frame that stands somewhere
pub frame_told : (top : ℕ) (p : Program) (copy : FnCopy) (taken : ℕ → Type 0) (name : List ℕ) (address size n : ℕ) → name ≡ sizes.name_of p copy.function → n ≡ capped (sizes.frame_bytes p copy.function) → StandsBelow top taken n address → size ≡ n → size ≤ 96 → ((let line : FrameLine = record { root = copy.root; name = name; address = address; size = size } in line) ≡ frame_line p copy address) × StandsBelow top taken size address
frame_told top p copy taken name address size n named bytes stands same small =
    let one : List ℕ → FrameLine = λ (m : List ℕ). record { root = copy.root; name = m; address = address; size = size } in
    let two : ℕ → FrameLine = λ (m : ℕ). record { root = copy.root; name = sizes.name_of p copy.function; address = address; size = m } in
    let P : ℕ → Type 0 = λ (m : ℕ). StandsBelow top taken m address in
    (ap one named ∙ ap two (uncapped (sizes.frame_bytes p copy.function) size (same ∙ bytes) small), subst P (sym same) stands)

-- the same where the same bytes are taken
frame_too : (top : ℕ) (p : Program) (copy : FnCopy) (taken other : ℕ → Type 0) → ((x : ℕ) → x < 512 → taken x → other x) → ((x : ℕ) → x < 512 → other x → taken x) → (r : Result code.FrameLine PlaceError) → TellsFrame top p taken copy r → TellsFrame top p other copy r
frame_too top p copy taken other on back (Ok line) told = (told.0, below_too top taken other on back line.size line.address told.1)
frame_too top p copy taken other on back (Err NoMemory) told = tt
frame_too top p copy taken other on back (Err (Ram name)) told = (told.0, none_below_too top taken other on (sizes.frame_bytes p copy.function) told.1)

-- what is told of a frame by the bytes that are marked
pub next_told : (top : ℕ) (p : Program) (objects : List ObjectLine) (list : List FnCopy) (frames : List FrameLine) (copy : FnCopy) (graph : List (List ℕ)) (functions : ℕ) (marks old : List Bool) → graph ≡ graph_of p → functions ≡ length p.functions → ((x : ℕ) → x < 512 → is_taken old x ≡ objects_have objects x) → ((x : ℕ) → x < 512 → (is_taken marks x ≡ true) ↔ ((is_taken old x ≡ true) ⊎ LiveFramesHave graph functions copy list frames x)) → (r : Result code.FrameLine PlaceError) → TellsFrame top p (λ x. is_taken marks x ≡ true) copy r → TellsFrame top p (IsTakenFor p objects list frames copy) copy r
next_told top p objects list frames copy graph functions marks old rows count agree told r frame =
    let P : ℕ → List (List ℕ) → Type 0 = λ (x : ℕ) (g : List (List ℕ)). LiveFramesHave g functions copy list frames x in
    let Q : ℕ → ℕ → Type 0 = λ (x : ℕ) (n : ℕ). LiveFramesHave (graph_of p) n copy list frames x in
    frame_too top p copy (λ (x : ℕ). is_taken marks x ≡ true) (IsTakenFor p objects list frames copy)
    (λ x small here. elim ((told x small).0 here) [ inl was ↦ inl (sym (agree x small) ∙ was) | inr live ↦ inr (subst (Q x) count (subst (P x) rows live)) ])
    (λ x small there. (told x small).1 (elim there [ inl was ↦ inl (agree x small ∙ was) | inr live ↦ inr (subst (P x) (sym rows) (subst (Q x) (sym count) live)) ])) r frame

-- an element of a list with one more: one of before, or the new one
pushed : {X : Type 0} (xs : List X) (y x : X) (k : ℕ) → slice_get (xs ++ y ∷ []) k ≡ Some x → ((k < length xs) × (slice_get xs k ≡ Some x)) ⊎ ((k ≡ length xs) × (x ≡ y))
pushed {X} [] y x zero got = inr (refl, cc)
pushed {X} [] y x (suc k) got = absurd (cc)
pushed {X} (z ∷ zs) y x zero got = inl (omega arith, got)
pushed {X} (z ∷ zs) y x (suc k) got = elim (pushed zs y x k got) [ inl was ↦ inl (omega (arith, was.0), was.1) | inr now ↦ inr (ap suc now.0, now.1) ]

same_some : {X : Type 0} (x y : X) (o : Option X) → o ≡ Some x → o ≡ Some y → x ≡ y
same_some {X} x y o one two = cc

-- one object more stands behind those before it
pub objects_pushed : (e : Extent) (p : Program) (xs : List ObjectLine) (y : ObjectLine) (s : StaticTree) (marks : List Bool) → AreObjectsIn e p xs → slice_get e.statics (length xs) ≡ Some s → ((x : ℕ) → x < 512 → is_taken marks x ≡ objects_have xs x) → y ≡ object_line p s y.address → StandsBelow e.top (λ x. is_taken marks x ≡ true) y.size y.address → AreObjectsIn e p (xs ++ y ∷ [])
objects_pushed e p xs y s marks so_far next agree told stands k t line declared got =
    let here : StandsBelow e.top (IsTaken xs) y.size y.address = below_too e.top (λ (x : ℕ). is_taken marks x ≡ true) (IsTaken xs) (λ x small h. sym (agree x small) ∙ h) (λ x small h. agree x small ∙ h) y.size y.address stands in
    let P : List ObjectLine → Type 0 = λ (list : List ObjectLine). IsObjectBelow e.top p list t line in
    elim (pushed xs y line k got) [
      | inl was ↦ subst P (sym (take-append-le k xs (y ∷ []) (omega (arith, was.0)))) (so_far k t line declared was.1)
      | inr now ↦ (
          let E : ℕ → Type 0 = λ (n : ℕ). slice_get e.statics n ≡ Some t in
          let same : t ≡ s = same_some t s (slice_get e.statics (length xs)) (subst E now.0 declared) next in
          let Q : StaticTree → Type 0 = λ (u : StaticTree). IsObjectBelow e.top p xs u y in
          let R : ObjectLine → Type 0 = λ (l : ObjectLine). IsObjectBelow e.top p xs t l in
          subst P (sym (take_at xs (y ∷ []) k (sym now.0))) (subst R (sym now.1) (subst Q (sym same) (told, here))))
    ]

-- one frame more stands behind those before it
pub frames_pushed : (top : ℕ) (p : Program) (objects : List ObjectLine) (copies : List FnCopy) (xs : List FrameLine) (y : FrameLine) (copy : FnCopy) → AreFramesBelow top p objects copies xs → slice_get copies (length xs) ≡ Some copy → IsFrameBelow top p objects copies xs copy y → AreFramesBelow top p objects copies (xs ++ y ∷ [])
frames_pushed top p objects copies xs y copy so_far next told k c line listed got =
    let P : List FrameLine → Type 0 = λ (list : List FrameLine). IsFrameBelow top p objects copies list c line in
    elim (pushed xs y line k got) [
      | inl was ↦ subst P (sym (take-append-le k xs (y ∷ []) (omega (arith, was.0)))) (so_far k c line listed was.1)
      | inr now ↦ (
          let E : ℕ → Type 0 = λ (n : ℕ). slice_get copies n ≡ Some c in
          let same : c ≡ copy = same_some c copy (slice_get copies (length xs)) (subst E now.0 listed) next in
          let Q : FnCopy → Type 0 = λ (d : FnCopy). IsFrameBelow top p objects copies xs d y in
          let R : FrameLine → Type 0 = λ (l : FrameLine). IsFrameBelow top p objects copies xs c l in
          subst P (sym (take_at xs (y ∷ []) k (sym now.0))) (subst R (sym now.1) (subst Q (sym same) told)))
    ]

-- the bytes of one object more
or_turned : (a b c : Bool) → (a || (b || c)) ≡ (b || (a || c))
or_turned true true c = refl
or_turned true false c = refl
or_turned false true c = refl
or_turned false false c = refl

or_none : (a : Bool) → (a || false) ≡ a
or_none true = refl
or_none false = refl

pub objects_have_more : (xs : List ObjectLine) (y : ObjectLine) (x : ℕ) → objects_have (xs ++ y ∷ []) x ≡ (covers y.address y.size x || objects_have xs x)
objects_have_more [] y x = refl
objects_have_more (z ∷ zs) y x = ap (λ (b : Bool). covers z.address z.size x || b) (objects_have_more zs y x) ∙ or_turned (covers z.address z.size x) (covers y.address y.size x) (objects_have zs x)

-- the bytes of the frames that are left, with those that are taken
pub frames_have_more : (line : FrameLine) (lines : List FrameLine) (x : ℕ) (old new all : Bool) → new ≡ (covers line.address line.size x || old) → (old || frames_have (line ∷ lines) x) ≡ all → (new || frames_have lines x) ≡ all
frames_have_more line lines x old new all here so_far = ap (λ (b : Bool). b || frames_have lines x) here ∙ or_joined (covers line.address line.size x) old (frames_have lines x) ∙ so_far where
  or_joined : (a b c : Bool) → ((a || b) || c) ≡ (b || (a || c))
  or_joined true true c = refl
  or_joined true false c = refl
  or_joined false true c = refl
  or_joined false false c = refl

pub frames_have_none : (lines : List FrameLine) (x : ℕ) (now all : Bool) → lines ≡ [] → (now || frames_have lines x) ≡ all → now ≡ all
frames_have_none lines x now all none so_far = sym (or_none now) ∙ sym (ap (λ (list : List FrameLine). now || frames_have list x) none) ∙ so_far
