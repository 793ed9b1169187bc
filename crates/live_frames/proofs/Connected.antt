-- Which of two functions reaches the other, by what is marked of a search; and the frames that may be live.
use Rattle.std.proofs.Common.{◌≡◌, ℕ, ◌+◌, ◌<◌, ◌≤◌, ◌⊎◌, ◌↔◌, inl, inr, Bool, true, false, ◌||◌, List, [], ◌∷◌, length, map, drop, get_or, refl, sym, ap, ◌∙◌, subst, arith, slice_get, Some, vec_len}
use Rattle.std.proofs.lemmas.List.{length-map, drop_more, drop_all}
use Rattle.std.proofs.lemmas.Option.{slice_get_within, get_or_from_slice_get, slice_get-map, slice_get_read}
use Rattle.std.specs.Global.{Global}
use Rattle.std.specs.Option.{option_map}
use Rattle.std.specs.declared.vec.Vec.{Vec}
use Rattle.c_typed.specs.Chains.{Reaches}
use Rattle.c_typed.specs.Views.{function_of}
use Rattle.c_typed.specs.declared.program.Function.{Function}
use Rattle.call_graph.proofs.Callers.{leads_back}
use Rattle.call_graph.proofs.Ways.{reaches_cases, reaches_by}
use Rattle.call_graph.specs.Reach.{Leads, AreReached, AreCallers}
use Rattle.call_graph.specs.Rows.{rows_of}
use Rattle.call_graph.specs.declared.types.FnCopy.{FnCopy}
use Rattle.pic_map.specs.MapContent.{FrameLine}
use Rattle.live_frames.specs.Memory.{is_taken, covers}
use Rattle.live_frames.specs.Together.{MayBeLive, LiveFramesHave}

-- what is left where neither the numbers are the same nor a chain leads on
pub only_back : (graph : List (List ℕ)) (f g : ℕ) → (g ≡ f → ⊥) → (Leads graph f g → ⊥) → (Reaches graph g f ⊎ Reaches graph f g) → Leads graph g f
only_back graph f g other none one =
    elim one [ inl back ↦ elim (reaches_cases graph g f back) [ inl same ↦ absurd (other same) | inr leads ↦ leads ] | inr on ↦ elim (reaches_cases graph f g on) [ inl same ↦ absurd (other (sym same)) | inr leads ↦ absurd (none leads) ] ]

pub rows_length : (rows : List (Vec ℕ Global)) → length (rows_of rows) ≡ length rows
rows_length rows = length-map rows (λ (row : Vec ℕ Global). row.items)

-- what is told of a search on, and of one among the callers
pub forward_told : (rows given : List (Vec ℕ Global)) (f n : ℕ) (marks : List Bool) → given ≡ rows → n ≡ f → AreReached (rows_of given) n marks → (g : ℕ) → g < length rows → (is_taken marks g ≡ true) ↔ Leads (rows_of rows) f g
forward_told rows given f n marks same number reached g below =
    let P : List (Vec ℕ Global) → Type 0 = λ (list : List (Vec ℕ Global)). AreReached (rows_of list) n marks in
    let here : AreReached (rows_of rows) n marks = subst P same reached in
    let Q : ℕ → Type 0 = λ (m : ℕ). AreReached (rows_of rows) m marks in
    let there : AreReached (rows_of rows) f marks = subst Q number here in
    there g (omega (arith, rows_length rows, below))

pub backward_told : (rows callers given : List (Vec ℕ Global)) (f n : ℕ) (marks : List Bool) → given ≡ callers → n ≡ f → f < length rows → length callers ≡ length rows → AreCallers (rows_of rows) (rows_of callers) → AreReached (rows_of given) n marks → (g : ℕ) → g < length rows → (is_taken marks g ≡ true) ↔ Leads (rows_of rows) g f
backward_told rows callers given f n marks same number own size are reached g below =
    let there = forward_told callers given f n marks same number reached g (omega (arith, size, below)) in
    let turned = leads_back (rows_of rows) (rows_of callers) are (rows_length callers ∙ size ∙ sym (rows_length rows)) g f (omega (arith, rows_length rows, own)) in
    (λ marked. turned.0 (there.0 marked), λ leads. there.1 (turned.1 leads))

-- one frame more is taken, if it may be live
pub live_more : (graph : List (List ℕ)) (functions : ℕ) (copy other : FnCopy) (others : List FnCopy) (line : FrameLine) (lines : List FrameLine) (x : ℕ) (old new all : Type 0) → (new ↔ (old ⊎ (MayBeLive graph functions other copy × (covers line.address line.size x ≡ true)))) → ((old ⊎ LiveFramesHave graph functions copy (other ∷ others) (line ∷ lines) x) ↔ all) → ((new ⊎ LiveFramesHave graph functions copy others lines x) ↔ all)
live_more graph functions copy other others line lines x old new all here so_far = (
  λ one. elim one [ inl now ↦ elim (here.0 now) [ inl was ↦ so_far.0 (inl was) | inr live ↦ so_far.0 (inr (inl live)) ] | inr later ↦ so_far.0 (inr (inr later)) ],
  λ has. elim (so_far.1 has) [ inl was ↦ inl (here.1 (inl was)) | inr one ↦ elim one [ inl live ↦ inl (here.1 (inr live)) | inr later ↦ inr later ] ],
)

-- none are left
pub live_none : (graph : List (List ℕ)) (functions : ℕ) (copy : FnCopy) (others : List FnCopy) (x : ℕ) → LiveFramesHave graph functions copy others [] x → ⊥
live_none graph functions copy [] x has = has
live_none graph functions copy (other ∷ others) x has = has

pub live_done : (now left all : Type 0) → (left → ⊥) → ((now ⊎ left) ↔ all) → (now ↔ all)
live_done now left all none so_far = (λ here. so_far.0 (inl here), λ has. elim (so_far.1 has) [ inl here ↦ here | inr more ↦ absurd (none more) ])

pub true_false : (true ≡ false) → ⊥
true_false same = cc

pub drop_got : {X : Type 0} (xs : List X) (i : ℕ) (x : X) → slice_get xs i ≡ Some x → drop i xs ≡ x ∷ drop (i + 1) xs
drop_got {X} xs i x got = drop_more xs i x (slice_get_within xs i x got) ∙ ap (λ (y : X). y ∷ drop (i + 1) xs) (get_or_from_slice_get xs i x x got)

-- the frame at an index, and what is left behind it
pub live_at : (graph : List (List ℕ)) (functions : ℕ) (copy : FnCopy) (others : List FnCopy) (lines : List FrameLine) (i : ℕ) (other : FnCopy) (line : FrameLine) → slice_get others i ≡ Some other → slice_get lines i ≡ Some line → (x : ℕ) (old new all : Type 0) → (new ↔ (old ⊎ (MayBeLive graph functions other copy × (covers line.address line.size x ≡ true)))) → ((old ⊎ LiveFramesHave graph functions copy (drop i others) (drop i lines) x) ↔ all) → ((new ⊎ LiveFramesHave graph functions copy (drop (i + 1) others) (drop (i + 1) lines) x) ↔ all)
live_at graph functions copy others lines i other line read got x old new all here so_far =
    let left : drop i others ≡ other ∷ drop (i + 1) others = drop_got others i other read in
    let behind : drop i lines ≡ line ∷ drop (i + 1) lines = drop_got lines i line got in
    let P : List FnCopy → Type 0 = λ (list : List FnCopy). (old ⊎ LiveFramesHave graph functions copy list (drop i lines) x) ↔ all in
    let Q : List FrameLine → Type 0 = λ (list : List FrameLine). (old ⊎ LiveFramesHave graph functions copy (other ∷ drop (i + 1) others) list x) ↔ all in
    live_more graph functions copy other (drop (i + 1) others) line (drop (i + 1) lines) x old new all here (subst Q behind (subst P left so_far))

-- none are left behind the last frame, or behind the last copy
pub live_past : (graph : List (List ℕ)) (functions : ℕ) (copy : FnCopy) (others : List FnCopy) (lines : List FrameLine) (i x : ℕ) → (length others ≤ i) ⊎ (length lines ≤ i) → LiveFramesHave graph functions copy (drop i others) (drop i lines) x → ⊥
live_past graph functions copy others lines i x past has =
    let P : List FnCopy → Type 0 = λ (list : List FnCopy). LiveFramesHave graph functions copy list (drop i lines) x in
    let Q : List FrameLine → Type 0 = λ (list : List FrameLine). LiveFramesHave graph functions copy (drop i others) list x in
    elim past [ inl none ↦ subst P (drop_all i others none) has | inr none ↦ live_none graph functions copy (drop i others) x (subst Q (drop_all i lines none) has) ]

pub callers_told : (rows given callers : List (Vec ℕ Global)) → given ≡ rows → AreCallers (rows_of given) (rows_of callers) → AreCallers (rows_of rows) (rows_of callers)
callers_told rows given callers same told =
    let P : List (Vec ℕ Global) → Type 0 = λ (list : List (Vec ℕ Global)). AreCallers (rows_of list) (rows_of callers) in
    subst P same told

-- what a list gives at an index, seen through a view
pub got_of : {X : Type 0} {Y : Type 0} (view : X → Y) (xs : List X) (i : ℕ) (x : X) → i < length xs → x ≡ get_or xs i x → slice_get (map view xs) i ≡ Some (view x)
got_of {X} {Y} view xs i x below read = slice_get-map view xs i ∙ ap (option_map view) (slice_get_read xs (length xs) i x refl below read)

pub functions_told : (functions : Vec Function Global) → vec_len functions ≡ length (map function_of functions.items)
functions_told functions = let count = functions.ok.0 in omega (arith, length-map functions.items function_of, count)
