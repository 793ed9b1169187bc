-- The steps of the placing: one line more, or a name that is told.
use Rattle.std.proofs.Common.{◌≡◌, ℕ, ◌+◌, ◌<◌, ◌≤◌, ◌⊎◌, inl, inr, Bool, true, false, ◌||◌, List, [], ◌∷◌, ◌++◌, length, map, take, replicate, refl, sym, ap, ◌∙◌, subst, arith, slice_get, Some, Result, Ok, Err, IfOk, lit<}
use Rattle.std.proofs.lemmas.List.{length-map, length-append, length-replicate, map-append, length_push}
use Rattle.std.specs.Global.{Global}
use Rattle.std.specs.declared.vec.Vec.{Vec}
use Rattle.c_typed.specs.Chains.{graph_of, row_of, number_of, helper_number}
use Rattle.c_typed.specs.Trees.{StaticTree, Program}
use Rattle.c_typed.specs.Types.{type_bytes}
use Rattle.c_typed.specs.declared.calls.FnId.{FnId}
use Rattle.c_typed.specs.declared.calls.FnId.TheVariants as callee
use Rattle.c_typed.specs.declared.calls.Helper as helper
use Rattle.c_typed.specs.declared.calls.Helper.TheVariants.{Mul2, Mul4, Divu2, Divs2, Remu2, Rems2, Divu4, Divs4, Remu4, Rems4, Shl2, Shru2, Shrs2, Shl4, Shru4, Shrs4}
use Rattle.std.proofs.lemmas.Option.{slice_get_within, get_or_from_slice_get}
use Rattle.call_graph.specs.Copies.{IsOne, AreCopies}
use Rattle.call_graph.specs.Rows.{rows_of}
use Rattle.call_graph.specs.declared.types.FnCopy.{FnCopy}
use Rattle.pic_map.specs.MapContent.{ObjectLine, FrameLine}
use Rattle.pic_map.specs.MapView.{object_of, frame_of}
use Rattle.pic_map.specs.declared.ObjLine.{ObjLine}
use Rattle.pic_map.specs.declared.FrameLine as code
use Rattle.ram_place.specs.Answers.{TellsPlacingIn, TellsObject, TellsFrame, TellsObjects, TellsFrames}
use Rattle.live_frames.specs.Live.{IsGraphOf}
use Rattle.live_frames.specs.Memory.{is_taken, covers}
use Rattle.ram_place.specs.Placement.{objects_have, IsTaken, IsTakenFor, Extent, kept, kept_from, but_below, whole_below, AreObjectsIn, AreFramesBelow, IsPlacing, IsPlacingBut, IsPlacingIn, LacksObjectIn, LacksFrameIn}
use Rattle.live_frames.specs.declared.live.Graph.{Graph}
use Rattle.ram_place.specs.declared.placing.Objects.{Objects}
use Rattle.pic_map.specs.declared.Placed.{Placed}
use Rattle.ram_place.specs.declared.placing.PlaceError.{PlaceError}
use Rattle.ram_place.specs.declared.placing.PlaceError.TheVariants.{NoMemory, Ram}
use Rattle.live_frames.proofs.Connected.{rows_length}
use Rattle.ram_place.proofs.Below.{none_below_too, stands_whole}
use Rattle.ram_place.proofs.Remaining.{kept_none}
use Rattle.ram_place.proofs.Standing.{objects_pushed, frames_pushed, objects_have_more}

none_got : {X : Type 0} (xs : List X) (k : ℕ) (x : X) → xs ≡ [] → slice_get xs k ≡ Some x → ⊥
none_got {X} [] k x none got = cc
none_got {X} (y ∷ ys) k x none got = cc

-- before the first object, and before the first frame
pub objects_none : (e : Extent) (p : Program) (lines : List ObjLine) → lines ≡ [] → AreObjectsIn e p (map object_of lines)
objects_none e p lines none k s line declared got = absurd (none_got (map object_of lines) k line (ap (map object_of) none) got)

pub frames_none : (top : ℕ) (p : Program) (objects : List ObjectLine) (copies : List FnCopy) (lines : List code.FrameLine) → lines ≡ [] → AreFramesBelow top p objects copies (map frame_of lines)
frames_none top p objects copies lines none k copy line listed got = absurd (none_got (map frame_of lines) k line (ap (map frame_of) none) got)

-- the object whose turn it is
turn : (e : Extent) (lines : List ObjLine) (s : StaticTree) → slice_get e.statics (length lines) ≡ Some s → slice_get e.statics (length (map object_of lines)) ≡ Some s
turn e lines s next = ap (slice_get e.statics) (length-map lines object_of) ∙ next

pub object_placed : (e : Extent) (p : Program) (lines new : List ObjLine) (s : StaticTree) (line : ObjLine) (marks marked : List Bool) → slice_get e.statics (length lines) ≡ Some s → AreObjectsIn e p (map object_of lines) → ((x : ℕ) → x < 512 → is_taken marks x ≡ objects_have (map object_of lines) x) → new ≡ lines ++ line ∷ [] → TellsObject e.top p (λ x. is_taken marks x ≡ true) s (Ok line) → ((x : ℕ) → x < 512 → is_taken marked x ≡ (covers line.address line.size x || is_taken marks x)) → (length new ≡ length lines + 1) × AreObjectsIn e p (map object_of new) × ((x : ℕ) → x < 512 → is_taken marked x ≡ objects_have (map object_of new) x)
object_placed e p lines new s line marks marked next so_far agree grown told more =
    let seen : map object_of new ≡ map object_of lines ++ object_of line ∷ [] = ap (map object_of) grown ∙ map-append object_of lines (line ∷ []) in
    let P : List ObjectLine → Type 0 = λ (list : List ObjectLine). AreObjectsIn e p list in (
      ap length grown ∙ length_push lines line,
      subst P (sym seen) (objects_pushed e p (map object_of lines) (object_of line) s marks so_far (turn e lines s next) agree told.0 told.1),
      λ x small. more x small ∙ ap (λ (b : Bool). covers line.address line.size x || b) (agree x small) ∙ sym (objects_have_more (map object_of lines) (object_of line) x) ∙ sym (ap (λ (list : List ObjectLine). objects_have list x) seen),
    )

pub object_lost : (e : Extent) (p : Program) (lines : List ObjLine) (s : StaticTree) (marks : List Bool) → slice_get e.statics (length lines) ≡ Some s → AreObjectsIn e p (map object_of lines) → ((x : ℕ) → x < 512 → is_taken marks x ≡ objects_have (map object_of lines) x) → (error : PlaceError) → TellsObject e.top p (λ x. is_taken marks x ≡ true) s (Err error) → TellsObjects e p (Err error)
object_lost e p lines s marks next so_far agree NoMemory told = tt
object_lost e p lines s marks next so_far agree (Ram name) told =
    record {
      objects = map object_of lines;
      objects_stand = so_far;
      object = s;
      is_next = turn e lines s next;
      has_none = none_below_too e.top (λ (x : ℕ). is_taken marks x ≡ true) (IsTaken (map object_of lines)) (λ x small here. sym (agree x small) ∙ here) (type_bytes p.sizes s.ty.ty) told.1;
      named = told.0;
    }

next_copy : (copies : List FnCopy) (lines : List code.FrameLine) (i : ℕ) (copy : FnCopy) → length lines ≡ i → slice_get copies i ≡ Some copy → slice_get copies (length (map frame_of lines)) ≡ Some copy
next_copy copies lines i copy count listed =
    let P : ℕ → Type 0 = λ (n : ℕ). slice_get copies n ≡ Some copy in
    subst P (sym (length-map lines frame_of ∙ count)) listed

pub frame_placed : (top : ℕ) (p : Program) (objects : List ObjectLine) (copies : List FnCopy) (lines given new : List code.FrameLine) (i : ℕ) (copy : FnCopy) (line : code.FrameLine) → given ≡ lines → length lines ≡ i → slice_get copies i ≡ Some copy → AreFramesBelow top p objects copies (map frame_of lines) → new ≡ lines ++ line ∷ [] → TellsFrame top p (IsTakenFor p objects copies (map frame_of given) copy) copy (Ok line) → (length new ≡ i + 1) × AreFramesBelow top p objects copies (map frame_of new)
frame_placed top p objects copies lines given new i copy line same count listed so_far grown told =
    let seen : map frame_of new ≡ map frame_of lines ++ frame_of line ∷ [] = ap (map frame_of) grown ∙ map-append frame_of lines (line ∷ []) in
    let P : List FrameLine → Type 0 = λ (list : List FrameLine). AreFramesBelow top p objects copies list in
    let Q : List code.FrameLine → Type 0 = λ (list : List code.FrameLine). TellsFrame top p (IsTakenFor p objects copies (map frame_of list) copy) copy (Ok line) in (
      ap length grown ∙ length_push lines line ∙ ap (λ (n : ℕ). n + 1) count,
      subst P (sym seen) (frames_pushed top p objects copies (map frame_of lines) (frame_of line) copy so_far (next_copy copies lines i copy count listed) (subst Q same told)),
    )

pub frame_lost : (top : ℕ) (p : Program) (objects : List ObjectLine) (copies : List FnCopy) (lines given : List code.FrameLine) (i : ℕ) (copy : FnCopy) → given ≡ lines → length lines ≡ i → slice_get copies i ≡ Some copy → AreFramesBelow top p objects copies (map frame_of lines) → (e : PlaceError) → TellsFrame top p (IsTakenFor p objects copies (map frame_of given) copy) copy (Err e) → TellsFrames top p objects copies (Err e)
frame_lost top p objects copies lines given i copy same count listed so_far NoMemory told = tt
frame_lost top p objects copies lines given i copy same count listed so_far (Ram name) told =
    let Q : List code.FrameLine → Type 0 = λ (list : List code.FrameLine). TellsFrame top p (IsTakenFor p objects copies (map frame_of list) copy) copy (Err (Ram name)) in
    let here = subst Q same told in
    record {
      frames = map frame_of lines;
      frames_stand = so_far;
      copy = copy;
      is_next = next_copy copies lines i copy count listed;
      has_none = here.1;
      named = here.0;
    }

-- what is told of the objects, and of the frames behind them, is told of the placing
pub objects_lost : (e : Extent) (p : Program) (copies : List FnCopy) (error : PlaceError) → TellsObjects e p (Err error) → TellsPlacingIn e p copies (Err error)
objects_lost e p copies NoMemory told = tt
objects_lost e p copies (Ram name) told = inl told

pub frames_lost : (e : Extent) (p : Program) (objects : Objects) (copies given : List FnCopy) (error : PlaceError) → given ≡ copies → TellsObjects e p (Ok objects) → TellsFrames e.top p (map object_of objects.lines.items) given (Err error) → TellsPlacingIn e p copies (Err error)
frames_lost e p objects copies given NoMemory same stood told = tt
frames_lost e p objects copies given (Ram name) same stood told =
    let Q : List FnCopy → Type 0 = λ (list : List FnCopy). TellsFrames e.top p (map object_of objects.lines.items) list (Err (Ram name)) in
    inr (record {
      objects = map object_of objects.lines.items;
      each_object = length-map objects.lines.items object_of ∙ stood.0;
      objects_stand = stood.1;
      frame = subst Q same told;
    })

pub all_placed : (e : Extent) (p : Program) (objects : Objects) (copies given : List FnCopy) (frames : Vec code.FrameLine Global) → given ≡ copies → TellsObjects e p (Ok objects) → TellsFrames e.top p (map object_of objects.lines.items) given (Ok frames) → IsPlacingIn e p copies (map object_of objects.lines.items) (map frame_of frames.items)
all_placed e p objects copies given frames same stood told =
    let Q : List FnCopy → Type 0 = λ (list : List FnCopy). TellsFrames e.top p (map object_of objects.lines.items) list (Ok frames) in
    let here = subst Q same told in
    record {
      each_object = length-map objects.lines.items object_of ∙ stood.0;
      objects_stand = stood.1;
      each_frame = length-map frames.items frame_of ∙ here.0;
      frames_stand = here.1;
    }

-- with none left out all static objects are placed
all_kept : (p : Program) (without : List ℕ) → without ≡ [] → kept p without ≡ p.statics
all_kept p without none = ap (λ (list : List ℕ). kept_from 0 list p.statics) none ∙ kept_none 0 p.statics

pub none_out : (p : Program) (without : List ℕ) (top : ℕ) (copies : List FnCopy) (r : Result Placed PlaceError) → without ≡ [] → TellsPlacingIn (but_below p without top) p copies r → TellsPlacingIn (whole_below p top) p copies r
none_out p without top copies r none told =
    let P : List StaticTree → Type 0 = λ (list : List StaticTree). TellsPlacingIn (record { statics = list; top = top }) p copies r in
    subst P (all_kept p without none) told

pub none_but : (p : Program) (without : List ℕ) (copies : List FnCopy) (r : Result Placed PlaceError) → without ≡ [] → IfOk r (λ placed. IsPlacingBut p copies without (map object_of placed.objects.items) (map frame_of placed.frames.items))
    → IfOk r (λ placed. IsPlacing p copies (map object_of placed.objects.items) (map frame_of placed.frames.items))
none_but p without copies r none told =
    let P : List StaticTree → Type 0 = λ (list : List StaticTree). IfOk r (λ placed. IsPlacingIn (record { statics = list; top = 0x200 }) p copies (map object_of placed.objects.items) (map frame_of placed.frames.items)) in
    subst P (all_kept p without none) told

-- what stands below a top stands so in the whole memory
pub whole_memory : (statics : List StaticTree) (top : ℕ) (p : Program) (copies : List FnCopy) (objects : List ObjectLine) (frames : List FrameLine) → IsPlacingIn (record { statics = statics; top = top }) p copies objects frames
    → IsPlacingIn (record { statics = statics; top = 0x200 }) p copies objects frames
whole_memory statics top p copies objects frames placing =
    record {
      each_object = placing.each_object;
      objects_stand = λ k s line declared got. let here = placing.objects_stand k s line declared got in (here.0, stands_whole (IsTaken (take k objects)) top line.size line.address here.1);
      each_frame = placing.each_frame;
      frames_stand = λ k copy line listed got.
          let here = placing.frames_stand k copy line listed got in (here.0, stands_whole (IsTakenFor p objects copies (take k frames) copy) top line.size line.address here.1);
    }

-- the number of a function of the program, or of a helper, is one of the graph
helper_below : (h : helper.Helper) → helper_number h < 16
helper_below Mul2 = lit< tt
helper_below Mul4 = lit< tt
helper_below Divu2 = lit< tt
helper_below Divs2 = lit< tt
helper_below Remu2 = lit< tt
helper_below Rems2 = lit< tt
helper_below Divu4 = lit< tt
helper_below Divs4 = lit< tt
helper_below Remu4 = lit< tt
helper_below Rems4 = lit< tt
helper_below Shl2 = lit< tt
helper_below Shru2 = lit< tt
helper_below Shrs2 = lit< tt
helper_below Shl4 = lit< tt
helper_below Shru4 = lit< tt
helper_below Shrs4 = lit< tt

number_below : (functions : ℕ) (f : FnId) → IsOne functions f → number_of functions f < functions + 16
number_below functions (callee.User n) one = omega (arith, one)
number_below functions (callee.Helper h) one = omega (arith, helper_below h)

graph_length : (p : Program) → length (graph_of p) ≡ length p.functions + 16
graph_length p = length-append (map (row_of (length p.functions)) p.functions) (replicate 16 []) ∙ ap (λ (n : ℕ). n + 16) (length-map p.functions (row_of (length p.functions)))

pub copies_in : (p : Program) (graph : Graph) (copies given : List FnCopy) → given ≡ copies → IsGraphOf p graph → AreCopies p copies → (k : ℕ) (copy : FnCopy) → slice_get given k ≡ Some copy → number_of graph.functions copy.function < length graph.rows.items
copies_in p graph copies given same is are k copy got =
    let P : List FnCopy → Type 0 = λ (list : List FnCopy). slice_get list k ≡ Some copy in
    let listed : slice_get copies k ≡ Some copy = subst P same got in
    let one : IsOne (length p.functions) copy.function = ((are.exact copy).0 (k, slice_get_within copies k copy listed, get_or_from_slice_get copies k copy copy listed)).one in
    let Q : ℕ → Type 0 = λ (n : ℕ). number_of n copy.function < length p.functions + 16 in
    let below : number_of graph.functions copy.function < length p.functions + 16 = subst Q (sym is.0) (number_below (length p.functions) copy.function one) in
    let size : length graph.rows.items ≡ length p.functions + 16 = sym (rows_length graph.rows.items) ∙ ap length is.1 ∙ graph_length p in
    omega (arith, below, size)
