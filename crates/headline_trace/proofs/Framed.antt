-- By its root and name the map's line of a frame is found that belongs to a function's copy.
use Rattle.std.proofs.Common.{◌≡◌, ℕ, zero, suc, ◌<◌, inl, inr, Bool, true, false, ◌&&◌, nat_eq, List, [], ◌∷◌, map, length, Option, Some, None, refl, sym, ap, ◌∙◌, subst, arith}
use Rattle.std.specs.List.{AllPairs, position, position_or_len}
use Rattle.std.specs.Prelude.{slice_get, if◌then◌else◌, cond, unwrap_or}
use Rattle.std.proofs.lemmas.Bool.{eqb-true, eq-eqb, lt-ltb, cases_lt, false≢true, and_parts}
use Rattle.std.proofs.lemmas.List.Quantifiers.{position-Some}
use Rattle.std.proofs.lemmas.List.Sums.{fails_before_first}
use Rattle.std.proofs.lemmas.Option.{slice_get_within, get_or_from_slice_get}
use Rattle.c_typed.specs.Chains.{graph_of}
use Rattle.c_typed.specs.Roots.{same_bytes}
use Rattle.c_typed.specs.Trees.{FunctionTree, Program}
use Rattle.c_typed.specs.declared.calls.FnId.{FnId}
use Rattle.c_typed.specs.declared.calls.FnId.TheVariants as callees
use Rattle.call_graph.specs.Copies.{root_of}
use Rattle.call_graph.specs.declared.types.FnCopy.{FnCopy}
use Rattle.call_graph.proofs.Results.{graph_size}
use Rattle.pic_map.specs.MapContent.{FrameLine, MapContent}
use Rattle.pic_map.specs.MapView.{object_of, frame_of}
use Rattle.pic_map.specs.declared.Placed.{Placed}
use Rattle.pic_world.specs.Roots.{same_root}
use Rattle.pic_world.specs.declared.Root.{Root}
use Rattle.pic_world.specs.declared.Root.TheVariants.{Main, Isr}
use Rattle.program_code.specs.Translated.{HasCalls, AreOthers}
use Rattle.ram_place.specs.Placement.{IsPlacing}
use Rattle.ram_place.specs.Sizes.{name_of, name_or_none}
use Rattle.src_memory.specs.Shown.{frame_address}
use Rattle.src_rules.specs.Standing.{root_in, IsReached}
use Rattle.src_values.specs.Objects.{or_no_function, function_at}
use Rattle.src_values.specs.declared.objects.CopyOf.{CopyOf}
use Rattle.sym_code.specs.Layout.{FrameRange, frame, no_frame}
use Rattle.code_place.specs.Layouts as places
use Rattle.code_place.specs.Layouts.{layout_of}
use Rattle.lower_trace.specs.Lowering.{is_of, copy_number}
use Rattle.headline_trace.specs.Linked.{IsNamed}
use Rattle.headline_trace.proofs.Depths.{bounded, roots_same}
use Rattle.headline_trace.proofs.Entered.{is_at}
use Rattle.headline_trace.proofs.Laid.{is_there, mapped_at}
use Rattle.headline_trace.proofs.Longest.{level_under}
use Rattle.headline_trace.proofs.Numbers.{and_true}
use Rattle.headline_trace.proofs.Statics.{some_is}

-- ---- what passes a test is found
pub found : {A : Type 0} (test : A → Bool) (xs : List A) (k : ℕ) (x : A) → slice_get xs k ≡ Some x → test x ≡ true → (n : ℕ) × (position test xs ≡ Some n)
found test xs k x is passes = elim (cases_lt (position_or_len test xs) (length xs)) [
  | inl inside ↦ (position_or_len test xs, ap (λ (b : Bool). cond b (Some (position_or_len test xs)) None) (lt-ltb (position_or_len test xs) (length xs) inside))
  | inr past ↦ absurd (
      let lt = slice_get_within xs k x is in
      let fails = fails_before_first test xs k x (omega arith) in
      false≢true (sym fails ∙ ap test (get_or_from_slice_get xs k x x is) ∙ passes))
]

-- ---- roots and names
root_itself : (r : Root) → same_root r r ≡ true
root_itself Main = refl
root_itself Isr = refl

bytes_same : (xs ys : List ℕ) → same_bytes xs ys ≡ true → xs ≡ ys
bytes_same [] [] e = refl
bytes_same [] (y ∷ ys) e = absurd (cc)
bytes_same (x ∷ xs) [] e = absurd (cc)
bytes_same (x ∷ xs) (y ∷ ys) e =
    let parts = and_parts (nat_eq x y) (same_bytes xs ys) e in
    ap (λ z. z ∷ xs) (eqb-true x y parts.0) ∙ ap (λ zs. y ∷ zs) (bytes_same xs ys parts.1)

bytes_itself : (xs : List ℕ) → same_bytes xs xs ≡ true
bytes_itself [] = refl
bytes_itself (x ∷ xs) = and_true (nat_eq x x) (same_bytes xs xs) (eq-eqb x x refl) (bytes_itself xs)

-- ---- lines that differ
differ_behind : (f : FrameLine) (fs : List FrameLine) → AllPairs AreOthers (f ∷ fs) → AllPairs AreOthers fs
differ_behind f fs h i j d lt within = h (suc i) (suc j) d (omega arith) (omega arith)

pub address_is : (fs : List FrameLine) (n : ℕ) (line : FrameLine) → AllPairs AreOthers fs → slice_get fs n ≡ Some line → frame_address fs line.root line.name ≡ line.address
address_is [] n line h is = absurd (cc)
address_is (f ∷ fs) zero line h is =
    subst (λ (x : FrameLine). frame_address (f ∷ fs) x.root x.name ≡ x.address) (some_is f line is)
    (ap (λ (b : Bool). if b then f.address else frame_address fs f.root f.name) (and_true (same_root f.root f.root) (same_bytes f.name f.name) (root_itself f.root) (bytes_itself f.name)))
address_is (f ∷ fs) (suc n) line h is = by (same_root f.root line.root) (same_bytes f.name line.name) refl refl (address_is fs n line (differ_behind f fs h) is) where
  differ : f.root ≡ line.root → f.name ≡ line.name → ⊥
  differ =
      let lt = slice_get_within fs n line is in
      subst (λ (x : FrameLine). f.root ≡ x.root → f.name ≡ x.name → ⊥) (get_or_from_slice_get fs n line line is) (h 0 (suc n) line (omega arith) (omega arith))

  by : (a b : Bool) → same_root f.root line.root ≡ a → same_bytes f.name line.name ≡ b → frame_address fs line.root line.name ≡ line.address
      → (if a && b then f.address else frame_address fs line.root line.name) ≡ line.address
  by true true e g below = absurd (differ (roots_same f.root line.root e) (bytes_same f.name line.name g))
  by true false e g below = below
  by false b e g below = below

-- ---- copies
entered_is : (p : Program) (r : Root) → root_in p r ≡ root_of p r
entered_is p Main = refl
entered_is p Isr = refl

function_is : (function : ℕ) (f : FnId) → is_of function f ≡ true → f ≡ callees.User function
function_is function (callees.User other) e = ap callees.User (eqb-true other function e)
function_is function (callees.Helper h) e = absurd (cc)

name_is : (o : Option FunctionTree) → name_or_none o ≡ (or_no_function o).name
name_is None = refl
name_is (Some f) = refl

module _ (p : Program) (copies : List FnCopy) (placed : Placed) (content : MapContent) (has : HasCalls p copies) (placing : IsPlacing p copies (map object_of placed.objects.items) (map frame_of placed.frames.items))
    (frames : content.frames ≡ map frame_of placed.frames.items) (others : AllPairs AreOthers content.frames) where
  -- the copy of this number is that of the function under the root
  record IsCopyAt (c : CopyOf) (number : ℕ) : Type 0 where
    copy : FnCopy
    there : slice_get copies number ≡ Some copy
    root : copy.root ≡ c.root
    function : copy.function ≡ callees.User c.function

  -- Each function that its root reaches has a copy,
  copied : (c : CopyOf) → IsReached p c → (number : ℕ) × IsCopyAt c number
  copied c r =
      let entered : root_of p c.root ≡ Some r.root = sym (entered_is p c.root) ∙ r.entered in
      let bound = bounded p copies has c.root r.root entered in
      let size = graph_size p in
      let below = r.there in
      let level = level_under (graph_of p) r.root c.function bound.most (λ hs chain. bound.longest.most c.function hs (omega arith) chain) r.chain.0 r.chain.1 in
      let copy : FnCopy = record { function = callees.User c.function; root = c.root; level = level.level } in
      let among = (has.known.exact copy).1 (record { number = r.root; entered = entered; one = below; level = level.is }) in
      (among.0, record { copy = copy; there = is_at copies among.0 copy among.1 ∙ ap (λ (x : FnCopy). Some x) among.2; root = refl; function = refl })

  abbrev test : CopyOf → FnCopy → Bool
  test c copy = same_root copy.root c.root && is_of c.function copy.function

  -- which is found by its number.
  numbered : (c : CopyOf) → IsReached p c → IsCopyAt c (copy_number copies c.root c.function)
  numbered c r =
      let x = copied c r in
      let root : same_root x.1.copy.root c.root ≡ true = ap (λ (q : Root). same_root q c.root) x.1.root ∙ root_itself c.root in
      let function : is_of c.function x.1.copy.function ≡ true = ap (is_of c.function) x.1.function ∙ eq-eqb c.function c.function refl in
      let n = found (test c) copies x.0 x.1.copy x.1.there (and_true (same_root x.1.copy.root c.root) (is_of c.function x.1.copy.function) root function) in
      let at = position-Some (test c) copies n.0 x.1.copy n.1 in
      let copy = is_there copies n.0 at.0 in
      let passes : test c copy.0 ≡ true = sym (ap (test c) (get_or_from_slice_get copies n.0 copy.0 x.1.copy copy.1)) ∙ at.1 in
      let parts = and_parts (same_root copy.0.root c.root) (is_of c.function copy.0.function) passes in
      subst (IsCopyAt c) (sym (ap (λ (o : Option ℕ). unwrap_or o 0) n.1))
      (record { copy = copy.0; there = copy.1; root = roots_same copy.0.root c.root parts.0; function = function_is c.function copy.0.function parts.1 })

  -- the line of a copy's frame
  record HasLine (c : CopyOf) (number : ℕ) : Type 0 where
    line : FrameLine
    there : slice_get content.frames number ≡ Some line
    root : line.root ≡ c.root
    name : line.name ≡ (function_at p c.function).name
    address : (frame (layout_of placed) number).address ≡ line.address

  lined : (c : CopyOf) (number : ℕ) → IsCopyAt c number → HasLine c number
  lined c number x =
      let lt : number < length copies = slice_get_within copies number x.copy x.there in
      let each = placing.each_frame in
      let line = is_there (map frame_of placed.frames.items) number (omega arith) in
      let here = placing.frames_stand number x.copy line.0 x.there line.1 in
      let at = mapped_at frame_of places.frame_of placed.frames.items number no_frame line.0 line.1 in
      record {
        line = line.0;
        there = ap (λ (l : List FrameLine). slice_get l number) frames ∙ line.1;
        root = ap (λ (l : FrameLine). l.root) here.0 ∙ x.root;
        name = ap (λ (l : FrameLine). l.name) here.0 ∙ ap (name_of p) x.function ∙ name_is (slice_get p.functions c.function);
        address = ap (λ (r : FrameRange). r.address) at.2 ∙ ap (λ (l : FrameLine). l.address) at.1;
      }

  address_at : (c : CopyOf) (number : ℕ) → HasLine c number → frame_address content.frames c.root (function_at p c.function).name ≡ (frame (layout_of placed) number).address
  address_at c number x =
      ap (λ (r : Root). frame_address content.frames r (function_at p c.function).name) (sym x.root) ∙ ap (λ (name : List ℕ). frame_address content.frames x.line.root name) (sym x.name)
      ∙ address_is content.frames number x.line others x.there ∙ sym x.address

  pub frames_named : IsNamed p copies content (layout_of placed)
  frames_named = record { frames = λ c r. let number = copy_number copies c.root c.function in address_at c number (lined c number (numbered c r)) }
