-- Where the object and the frames of a generated program stand.
use Rattle.std.proofs.Common.{◌≡◌, ℕ, zero, suc, ◌+◌, ◌<◌, ◌≤◌, inl, inr, Bool, true, false, ◌||◌, List, [], ◌∷◌, length, take, Option, Some, refl, ap, sym, ◌∙◌, subst, arith, if◌then◌else◌}
use Rattle.std.specs.Prelude.{slice_get}
use Rattle.std.proofs.lemmas.Option.{slice_get_within}
use Rattle.c_typed.specs.Chains.{graph_of, IsChain}
use Rattle.c_typed.specs.Room.{frame_size, room, place_room, arguments_room, statement_room, statements_room, arm_room, arms_room, last_room}
use Rattle.c_typed.specs.Trees.{FunctionTree, StaticTree, Program}
use Rattle.call_graph.specs.declared.types.FnCopy.{FnCopy}
use Rattle.live_frames.specs.Memory.{covers, Stands, count_below, counted}
use Rattle.live_frames.specs.Together.{MayBeLive, LiveFramesHave}
use Rattle.live_frames.proofs.FreeRuns.{covers_tells}
use Rattle.pic_map.specs.MapContent.{ObjectLine, FrameLine}
use Rattle.pic_world.specs.declared.Root.TheVariants as root
use Rattle.ram_place.specs.Placement.{objects_have, frames_have, IsTaken, IsTakenFor, frame_line, IsObject, IsFrame, AreObjects, AreFrames, IsPlacing, addresses_covered}
use Rattle.ram_place.specs.Sizes.{name_or_none, size_or_none}
use Rattle.generated_laws.specs.Placed.{main_copy, copy_of, copies_from, generated_copies, object_at, main_frame, frame_of, frames_from, generated_objects, generated_frames, generated_graph}
use Rattle.generated_laws.specs.Tree.{function_name}
use Rattle.generated_laws.specs.TypedProgram.{unused, function_at, functions_from, main_at, generated_program}
use Rattle.generated_laws.proofs.Calling.{IsShort, chain_is, one_call}
use Rattle.generated_laws.proofs.Copying.{copies_long}

some_one : {A : Type 0} (a b : A) → Some a ≡ Some b → a ≡ b
some_one a b is = cc

-- ---- functions by number
function_there : (i n j : ℕ) (rest : List FunctionTree) → j < n → slice_get (functions_from i n rest) j ≡ Some (function_at (i + j + 2) (i + j))
function_there i zero j rest lt = absurd (omega (arith, lt))
function_there i (suc n) zero rest lt = let same : i ≡ i + 0 = omega arith in ap (λ (m : ℕ). Some (function_at (m + 2) m)) same
function_there i (suc n) (suc j) rest lt =
    let same : suc i + j ≡ i + suc j = omega arith in function_there (suc i) n j rest (omega (arith, lt)) ∙ ap (λ (m : ℕ). Some (function_at (m + 2) m)) same

main_there : (i n : ℕ) (main : FunctionTree) → slice_get (functions_from i n (main ∷ [])) n ≡ Some main
main_there i zero main = refl
main_there i (suc n) main = main_there (suc i) n main

function_frame : (line i : ℕ) → frame_size [] (function_at line i) ≡ 9
unfolding room place_room arguments_room statement_room statements_room arm_room arms_room last_room
function_frame line i = refl

copy_there : (i n j : ℕ) (c : FnCopy) → slice_get (copies_from i n) j ≡ Some c → copy_of (i + j) ≡ c
copy_there i zero j c is = absurd (cc)
copy_there i (suc n) zero c is = let same : i + 0 ≡ i = omega arith in ap copy_of same ∙ some_one (copy_of i) c is
copy_there i (suc n) (suc j) c is = let same : i + suc j ≡ suc i + j = omega arith in ap copy_of same ∙ copy_there (suc i) n j c is

frame_there : (i n j : ℕ) (f : FrameLine) → slice_get (frames_from i n) j ≡ Some f → frame_of (i + j) ≡ f
frame_there i zero j f is = absurd (cc)
frame_there i (suc n) zero f is = let same : i + 0 ≡ i = omega arith in ap frame_of same ∙ some_one (frame_of i) f is
frame_there i (suc n) (suc j) f is = let same : i + suc j ≡ suc i + j = omega arith in ap frame_of same ∙ frame_there (suc i) n j f is

frames_long : (i n : ℕ) → length (frames_from i n) ≡ n
frames_long i zero = refl
frames_long i (suc n) = ap suc (frames_long (suc i) n)

-- ---- lines
-- the line of a frame, by its function
abbrev line_by : ℕ → Option FunctionTree → FrameLine
line_by address f = record { root = root.Main; name = name_or_none f; address = address; size = size_or_none (frame_size []) f }

abbrev main_sized : ℕ → FrameLine
main_sized size = record { root = root.Main; name = main_frame.name; address = 0x21; size = size }

abbrev function_sized : ℕ → ℕ → FrameLine
function_sized j size = record { root = root.Main; name = function_name j; address = 0x25; size = size }

main_line : (k : ℕ) → frame_size [] (main_at (k + 2) k) ≡ 4 → main_frame ≡ frame_line (generated_program k) (main_copy k) 0x21
unfolding generated_program
main_line k size = sym (ap (line_by 0x21) (main_there 0 k (main_at (k + 2) k)) ∙ ap main_sized size)

function_line : (k j : ℕ) → j < k → frame_of j ≡ frame_line (generated_program k) (copy_of j) 0x25
unfolding generated_program
function_line k j lt =
    sym (ap (line_by 0x25) (function_there 0 k j (main_at (k + 2) k ∷ []) lt) ∙ at_zero j)
  where
    at_zero : (j : ℕ) → line_by 0x25 (Some (function_at (0 + j + 2) (0 + j))) ≡ frame_of j
    at_zero j = let same : 0 + j ≡ j = omega arith in ap (λ (m : ℕ). line_by 0x25 (Some (function_at (m + 2) m))) same ∙ ap (function_sized j) (function_frame (j + 2) j)

-- ---- what is taken
covers_within : (a n x : ℕ) → covers a n x ≡ true → (a ≤ x) × (x < a + n)
covers_within a n x is = covers_tells a n x is

or_false_end : (b : Bool) → b || false ≡ true → b ≡ true
or_false_end true e = refl
or_false_end false e = e

object_low : (x : ℕ) → IsTaken generated_objects x → x < 0x21
object_low x taken = let w = covers_within 0x20 1 x (or_false_end (covers 0x20 1 x) taken) in let l = w.1 in omega (arith, l)

not_short : (k i j calls : ℕ) → i < j → j < k → IsShort k i calls j → ⊥
not_short k i j calls lt low (inl (e, z)) = omega (arith, lt, e)
not_short k i j calls lt low (inr (e, l, o)) = omega (arith, lt, low, e)

not_back : (k i j calls : ℕ) → i < j → j < k → IsShort k j calls i → ⊥
not_back k i j calls lt low (inl (e, z)) = omega (arith, lt, e)
not_back k i j calls lt low (inr (e, l, o)) = omega (arith, low, e)

module _ (p : Program) (k : ℕ) (graph : graph_of p ≡ generated_graph k) where
  moved : (f : ℕ) (hs : List ℕ) (g : ℕ) → IsChain (graph_of p) f hs g → IsChain (generated_graph k) f hs g
  moved f hs g chain = subst (λ (rows : List (List ℕ)). IsChain rows f hs g) graph chain

  -- the functions that main calls are never live together
  never_live : (i j : ℕ) → i < j → j < k → MayBeLive (graph_of p) (length p.functions) (copy_of i) (copy_of j) → ⊥
  never_live i j lt low (inl apart) = apart refl
  never_live i j lt low (inr (inl (hs, chain))) = not_short k i j (length hs) lt low (chain_is k i hs j (moved i hs j chain))
  never_live i j lt low (inr (inr (hs, chain))) = not_back k i j (length hs) lt low (chain_is k j hs i (moved j hs i chain))

  none_have : (i m j l x : ℕ) → i + l ≤ j → j < k → LiveFramesHave (graph_of p) (length p.functions) (copy_of j) (copies_from i m) (take l (frames_from i m)) x → ⊥
  none_have i zero j l x le low h = h
  none_have i (suc m) j zero x le low h = h
  none_have i (suc m) j (suc l) x le low (inl (live, there)) = never_live i j (omega (arith, le)) low live
  none_have i (suc m) j (suc l) x le low (inr h) = none_have (suc i) m j l x (omega (arith, le)) low h

  main_lives : (j : ℕ) → j < k → MayBeLive (graph_of p) (length p.functions) (main_copy k) (copy_of j)
  main_lives j lt = inr (inl (j ∷ [], subst (λ (rows : List (List ℕ)). IsChain rows k (j ∷ []) j) (sym graph) (one_call k j lt)))

  abbrev TakenForMain : ℕ → Type 0
  TakenForMain x = IsTakenFor p generated_objects (generated_copies k) [] (main_copy k) x

  main_free : (x : ℕ) → 0x21 ≤ x → TakenForMain x → ⊥
  main_free x low (inl taken) = let l = object_low x taken in omega (arith, low, l)
  main_free x low (inr h) = h

  main_lowest : (b : ℕ) → b < 0x21 → 0x20 ≤ b → ((x : ℕ) → b ≤ x → x < b + 4 → TakenForMain x → ⊥) → ⊥
  main_lowest b lt low free = free 0x20 (omega (arith, lt)) (omega (arith, low)) (inl refl)

  main_stands : Stands TakenForMain 4 0x21
  main_stands = (
    λ zero. absurd (omega (arith, zero)),
    λ some. inl (((omega arith, omega arith), λ x low high taken. main_free x low taken), λ b lt place. main_lowest b lt place.0.0 (λ x l h t. place.1 x l h t)),
  )

  abbrev TakenFor : ℕ → ℕ → Type 0
  TakenFor j x = IsTakenFor p generated_objects (generated_copies k) (main_frame ∷ take j (frames_from 0 k)) (copy_of j) x

  function_free : (j x : ℕ) → j < k → 0x25 ≤ x → TakenFor j x → ⊥
  function_free j x lt low (inl taken) = let l = object_low x taken in omega (arith, low, l)
  function_free j x lt low (inr (inl (live, there))) = let w = covers_within 0x21 4 x there in let l = w.1 in omega (arith, low, l)
  function_free j x lt low (inr (inr h)) = none_have 0 k j j x (omega arith) lt h

  function_lowest : (j b : ℕ) → j < k → b < 0x25 → 0x20 ≤ b → ((x : ℕ) → b ≤ x → x < b + 9 → TakenFor j x → ⊥) → ⊥
  function_lowest j b lt low high free = free 0x24 (omega (arith, low)) (omega (arith, high)) (inr (inl (main_lives j lt, refl)))

  function_stands : (j : ℕ) → j < k → Stands (TakenFor j) 9 0x25
  function_stands j lt = (
    λ zero. absurd (omega (arith, zero)),
    λ some. inl (((omega arith, omega arith), λ x low high taken. function_free j x lt low taken), λ b less place. function_lowest j b lt less place.0.0 (λ x l h t. place.1 x l h t)),
  )

-- ---- the placing
object_stands : Stands (IsTaken []) 1 0x20
object_stands = (
  λ zero. absurd (omega (arith, zero)),
  λ some. inl (((omega arith, omega arith), λ x low high taken. false_true taken), λ b lt place. below b lt place.0.0),
)
  where
    false_true : false ≡ true → ⊥
    false_true e = absurd (cc)

    below : (b : ℕ) → b < 0x20 → 0x20 ≤ b → ⊥
    below b lt low = omega (arith, lt, low)

objects_are : (k : ℕ) → AreObjects (generated_program k) generated_objects
unfolding generated_program
objects_are k zero s line thing at = by s line (some_one unused s thing) (some_one object_at line at) where
  by : (s : StaticTree) (line : ObjectLine) → unused ≡ s → object_at ≡ line → IsObject (generated_program k) [] s line
  by s line first second = subst (λ (t : StaticTree). IsObject (generated_program k) [] t line) first (subst (IsObject (generated_program k) [] unused) second (refl, object_stands))
objects_are k (suc i) s line thing at = absurd (cc)

module _ (k : ℕ) (graph : graph_of (generated_program k) ≡ generated_graph k) (size : frame_size [] (main_at (k + 2) k) ≡ 4) where
  frames_are : AreFrames (generated_program k) generated_objects (generated_copies k) (generated_frames k)
  frames_are zero copy line thing at =
      subst (λ (c : FnCopy). IsFrame (generated_program k) generated_objects (generated_copies k) [] c line) (some_one (main_copy k) copy thing)
      (subst (IsFrame (generated_program k) generated_objects (generated_copies k) [] (main_copy k)) (some_one main_frame line at) (main_line k size, main_stands (generated_program k) k graph))
  frames_are (suc j) copy line thing at =
      let long = copies_long 0 k in
      let within = slice_get_within (copies_from 0 k) j copy thing in
      let near : j < k = omega (arith, long, within) in
      let same : 0 + j ≡ j = omega arith in
      subst (λ (c : FnCopy). IsFrame (generated_program k) generated_objects (generated_copies k) (main_frame ∷ take j (frames_from 0 k)) c line) (ap copy_of (sym same) ∙ copy_there 0 k j copy thing)
      (subst (IsFrame (generated_program k) generated_objects (generated_copies k) (main_frame ∷ take j (frames_from 0 k)) (copy_of j)) (ap frame_of (sym same) ∙ frame_there 0 k j line at)
      (function_line k j near, function_stands (generated_program k) k graph j near))

  one_object : length generated_objects ≡ length (generated_program k).statics
  unfolding generated_program
  one_object = refl

  pub placing : IsPlacing (generated_program k) (generated_copies k) generated_objects (generated_frames k)
  placing =
      record {
        each_object = one_object;
        objects_stand = objects_are k;
        each_frame = ap suc (frames_long 0 k ∙ sym (copies_long 0 k));
        frames_stand = frames_are;
      }

-- ---- how many addresses are covered
twice : (b : Bool) → b || b ≡ b
twice true = refl
twice false = refl

frames_same : (i n x : ℕ) → frames_have (frames_from i (suc n)) x ≡ covers 0x25 9 x
frames_same i zero x = end (covers 0x25 9 x) where
  end : (b : Bool) → b || false ≡ b
  end true = refl
  end false = refl
frames_same i (suc n) x = ap (λ (b : Bool). covers 0x25 9 x || b) (frames_same (suc i) n x) ∙ twice (covers 0x25 9 x)

same_count : (f g : ℕ → Bool) → ((x : ℕ) → f x ≡ g x) → (n : ℕ) → count_below f n ≡ count_below g n
unfolding count_below
same_count f g same zero = refl
same_count f g same (suc n) = ap (λ (m : ℕ). m + counted f n) (same_count f g same n) ∙ ap (λ (b : Bool). count_below g n + (if b then 1 else 0)) (same n)

abbrev has_byte : ℕ → Bool
has_byte x = objects_have generated_objects x || (covers 0x21 4 x || covers 0x25 9 x)

fourteen : count_below has_byte 512 ≡ 14
unfolding count_below
fourteen = refl

pub covered : (n : ℕ) → addresses_covered generated_objects (generated_frames (suc n)) ≡ 14
covered n =
    same_count (λ (x : ℕ). objects_have generated_objects x || frames_have (generated_frames (suc n)) x) has_byte
    (λ x. ap (λ (b : Bool). objects_have generated_objects x || (covers 0x21 4 x || b)) (frames_same 0 n x)) 512
    ∙ fourteen
