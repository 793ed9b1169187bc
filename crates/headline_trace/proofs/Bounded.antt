-- Each block with its selects has at most its stated words: the start block, those of functions, and those of helpers.
use Rattle.std.proofs.Common.{◌≡◌, ℕ, zero, suc, ◌+◌, ◌*◌, ◌<◌, ◌≤◌, inl, inr, List, [], ◌∷◌, map, length, Some, refl, sym, ap, ◌∙◌, subst, arith}
use Rattle.std.specs.Prelude.{slice_get}
use Rattle.std.specs.Global.{Global}
use Rattle.std.specs.List.{AllZip}
use Rattle.std.specs.declared.vec.Vec.{Vec}
use Rattle.std.proofs.lemmas.List.Sums.{sum_by-cons}
use Rattle.std.proofs.lemmas.Option.{slice_get_within}
use Rattle.c_typed.specs.Room.{frame_size}
use Rattle.c_typed.specs.Trees.{Program, StaticTree}
use Rattle.c_typed.specs.Types.{type_bytes}
use Rattle.c_typed.specs.Views.{program_of}
use Rattle.c_typed.specs.Words.{statics_bytes}
use Rattle.c_typed.specs.declared.calls.FnId.{FnId}
use Rattle.c_typed.specs.declared.calls.FnId.TheVariants as callees
use Rattle.c_typed.specs.declared.calls.Helper.{Helper}
use Rattle.c_typed.specs.declared.program.Typed.{Typed}
use Rattle.call_graph.specs.Copies.{IsOne}
use Rattle.call_graph.specs.Numbers.{handler_at}
use Rattle.call_graph.specs.declared.types.FnCopy.{FnCopy}
use Rattle.core_code.specs.View.{trees_in}
use Rattle.core_code.specs.declared.code.CoreProgram.{CoreProgram}
use Rattle.core_code.specs.declared.code.FirstByte.{FirstByte}
use Rattle.isr_save.proofs.Words.{start_words}
use Rattle.isr_save.specs.Start.{start_code, bytes_of}
use Rattle.lower_stmt.specs.Bodies.{body_code, code_of as lowered_of, body_of, bodies_of, first_bytes}
use Rattle.lower_stmt.specs.FirstBytes.{items_of, static_bytes}
use Rattle.lower_stmt.specs.Frames.{ground_for}
use Rattle.lower_stmt.specs.Programs.{body_for, body_in, core_of}
use Rattle.pic_map.specs.MapView.{object_of, frame_of}
use Rattle.pic_map.specs.declared.Placed.{Placed}
use Rattle.pic_world.specs.declared.Root.{Root}
use Rattle.program_code.specs.Passed.{AreBlocks}
use Rattle.program_code.specs.Translated.{HasCalls}
use Rattle.ram_place.specs.Placement.{IsPlacing}
use Rattle.ram_place.specs.Sizes.{size_or_none, frame_bytes, block_words}
use Rattle.select_wide.specs.Blocks.{is_user, code_by}
use Rattle.select_wide.specs.Links.{IsBody}
use Rattle.src_rules.proofs.Starts.{sound_runs}
use Rattle.sym_code.specs.Layout.{frame}
use Rattle.sym_code.specs.Words.{words_in, most_words}
use Rattle.sym_code.specs.declared.code.BlockName.{BlockName}
use Rattle.sym_code.specs.declared.code.BlockName.TheVariants.{Start, Copy}
use Rattle.sym_code.specs.declared.code.Sym.{Sym}
use Rattle.sym_code.specs.declared.code.SymBlock.{SymBlock}
use Rattle.bank_page.specs.Selected.{IsExact, IsWithin}
use Rattle.code_place.specs.Layouts.{layout_of}
use Rattle.program_code.proofs.Placed.{programs_keep_sizes}
use Rattle.program_code.proofs.StatedWords.{words_are_stated}
use Rattle.program_code.specs.Bounds.{IsBlockOf, HasFrame}
use Rattle.program_code.specs.Stated.{words_of_copy, words_for, IsStated}
use Rattle.headline_trace.specs.Bounded.{BlocksAreStated}
use Rattle.headline_trace.specs.Passed.{code_of}
use Rattle.headline_trace.proofs.Blocks.{is_of}
use Rattle.headline_trace.proofs.Chosen.{root_is}
use Rattle.headline_trace.proofs.Entered.{at_is}
use Rattle.headline_trace.proofs.Laid.{bytes_long, frame_bytes_are, frames_long, frames_whole, is_there, routine_room}
use Rattle.headline_trace.proofs.Lowered.{body_there}
use Rattle.headline_trace.proofs.Members.{Has}
use Rattle.headline_trace.proofs.Routines.{routine_words}
use Rattle.headline_trace.proofs.Statics.{some_is}

-- ---- lists
pub zip_at : {A B : Type 0} (R : A → B → Type 0) (xs : List A) (ys : List B) → AllZip R xs ys → (k : ℕ) (y : B) → slice_get ys k ≡ Some y → (x : A) × (slice_get xs k ≡ Some x) × R x y
zip_at R [] [] h k y is = absurd (cc)
zip_at R [] (z ∷ ys) h k y is = absurd h
zip_at R (x ∷ xs) [] h k y is = absurd h
zip_at R (x ∷ xs) (z ∷ ys) h zero y is = (x, refl, subst (R x) (some_is z y is) h.0)
zip_at R (x ∷ xs) (z ∷ ys) h (suc k) y is = zip_at R xs ys h.1 k y is

pub has_at : {A : Type 0} (xs : List A) (k : ℕ) (x : A) → slice_get xs k ≡ Some x → Has xs x
has_at [] k x is = absurd (cc)
has_at (y ∷ xs) zero x is = inl (some_is y x is)
has_at (y ∷ xs) (suc k) x is = inr (has_at xs k x is)

-- ---- the bytes of static objects
abbrev first_in : List (List FirstByte) → List FirstByte
first_in [] = []
first_in (x ∷ xs) = x

abbrev rest_in : List (List FirstByte) → List (List FirstByte)
rest_in [] = []
rest_in (x ∷ xs) = xs

bytes_same : (sizes : List ℕ) (list : List (Vec FirstByte Global)) (statics : List StaticTree) → map items_of list ≡ map (static_bytes sizes) statics → bytes_of list ≡ statics_bytes sizes statics
bytes_same sizes [] [] e = refl
bytes_same sizes [] (s ∷ statics) e = absurd (cc)
bytes_same sizes (object ∷ list) [] e = absurd (cc)
bytes_same sizes (object ∷ list) (s ∷ statics) e =
    let first : length object.items ≡ type_bytes sizes s.ty.ty = ap (λ l. length (first_in l)) e ∙ bytes_long s.initial (type_bytes sizes s.ty.ty) in
    let rest = bytes_same sizes list statics (ap rest_in e) in
    let sum = sum_by-cons (λ (v : Vec FirstByte Global). length v.items) object list in
    omega (arith, first, rest, sum)

module _ (typed : Typed) (copies : List FnCopy) (core : CoreProgram) (given made : List SymBlock) (placed : Placed) (blocks : AreBlocks (program_of typed) copies core given given made placed)
    (bodies : map body_of core.bodies.items ≡ bodies_of (program_of typed) copies) (has : HasCalls (program_of typed) copies) (placing : IsPlacing (program_of typed) copies (map object_of placed.objects.items) (map frame_of placed.frames.items))
    (statics : map items_of core.statics.items ≡ first_bytes (program_of typed)) where
  abbrev p : Program
  p = program_of typed

  -- the start block sets each byte of each object
  start_stated : (g b : SymBlock) → slice_get given 0 ≡ Some g → IsExact placed g b → IsWithin g b → IsStated p copies b
  start_stated g b is exact few =
      let same : blocks.joined.start ≡ g = some_is blocks.joined.start g (sym (ap (λ (l : List SymBlock). slice_get l 0) blocks.joined.whole) ∙ is) in
      let name : b.name ≡ Start = exact.name ∙ ap (λ (x : SymBlock). x.name) (sym same) ∙ blocks.joined.name in
      let code : g.list.items ≡ start_code (handler_at copies) core.statics.items = ap (λ (x : SymBlock). x.list.items) (sym same) ∙ blocks.joined.exact in
      let most = ap most_words code in
      let all = start_words (handler_at copies) core.statics.items in
      let bytes = bytes_same p.sizes core.statics.items p.statics statics in
      let within : words_in b.list.items ≤ most_words g.list.items = few in
      let stated : words_for p copies b.name ≡ 100 + 4 * statics_bytes p.sizes p.statics = ap (words_for p copies) name in
      let words : words_in b.list.items ≤ words_for p copies b.name = omega (arith, within, most, all, bytes, stated) in
      words

  -- ---- the copy of a number
  module _ (c : ℕ) (copy : FnCopy) (there : slice_get copies c ≡ Some copy) (g b : SymBlock) (exact : IsExact placed g b) (name : g.name ≡ Copy c)
      (code : g.list.items ≡ code_of core.bodies.items copies c copy.root copy.function) where
    within : c < length (layout_of placed).frames
    within =
        let lt = slice_get_within copies c copy there in
        let size = frames_long p copies placed placing in
        omega (arith, lt, size)

    user_words : (f : ℕ) → copy.function ≡ callees.User f → words_in b.list.items ≤ block_words p (callees.User f)
    unfolding core_of
    user_words f is =
        let known = (has.known.exact copy).0 (c, slice_get_within copies c copy there, at_is copies c copy copy there) in
        let below : f < length p.functions = subst (IsOne (length p.functions)) is known.one in
        let function = is_there p.functions f below in
        let body : IsBody (core_of p copies) core.bodies.items c = body_there p copies (sound_runs p blocks.sound blocks.roots blocks.numbers) core.bodies.items bodies c copy there (ap is_user is) in
        let under : body.body.root ≡ copy.root = sym body.root ∙ root_is p copies c copy there in
        let lowered : trees_in body.body.code.items ≡ body_code (ground_for p copies c body.body.root function.0) function.0 =
        sym body.code ∙ ap (body_in p copies c) there ∙ ap (body_for p copies c copy.root) is ∙ ap (lowered_of p copies c copy.root) function.1
        ∙ ap (λ (r : Root). body_code (ground_for p copies c r function.0) function.0) (sym under) in
        let selected = code ∙ ap (code_of core.bodies.items copies c copy.root) is ∙ ap (code_by copies c) body.there in
        let block : IsBlockOf p copies c function.0 g = record {
          copy = copy;
          there = there;
          function = f;
          is_function = is;
          found = function.1;
          body = body.body;
          under = under;
          lowered = lowered;
          selected = selected;
          known = has.known;
          depth = has.depth;
          deep = has.exact;
        } in
        let bytes = frame_bytes_are p copies placed placing c copy there in
        let own : frame_bytes p copy.function ≡ frame_size p.sizes function.0 = ap (frame_bytes p) is ∙ ap (size_or_none (frame_size p.sizes)) function.1 in
        let size : frame_size p.sizes function.0 ≤ (frame (layout_of placed) c).size = omega (arith, bytes, own) in
        let stands : HasFrame p placed c function.0 = record { room = size; whole = frames_whole p copies placed placing c within } in
        words_are_stated p copies placed c function.0 g b (programs_keep_sizes typed blocks.sound) block exact stands

    helper_words : (h : Helper) → copy.function ≡ callees.Helper h → words_in b.list.items ≤ block_words p (callees.Helper h)
    helper_words h is =
        routine_words placed g b exact h copy.root c name (code ∙ ap (code_of core.bodies.items copies c copy.root) is) (frames_whole p copies placed placing c within)
        (routine_room p copies placed placing c copy h there is)

    copy_words : (f : FnId) → copy.function ≡ f → words_in b.list.items ≤ block_words p f
    copy_words (callees.User f) is = user_words f is
    copy_words (callees.Helper h) is = helper_words h is

    copy_stated : IsStated p copies b
    copy_stated =
        let few = copy_words copy.function refl in
        let stated : words_for p copies b.name ≡ block_words p copy.function = ap (words_for p copies) (exact.name ∙ name) ∙ ap (words_of_copy p) there in
        let words : words_in b.list.items ≤ words_for p copies b.name = omega (arith, few, stated) in
        words

  behind_stated : (k : ℕ) (g b : SymBlock) → slice_get given (suc k) ≡ Some g → IsExact placed g b → IsStated p copies b
  behind_stated k g b is exact =
      let o = is_of core copies given blocks.joined g (has_at blocks.joined.order k g (sym (ap (λ (l : List SymBlock). slice_get l (suc k)) blocks.joined.whole) ∙ is)) in
      let z : 0 + o.place ≡ o.place = omega arith in
      copy_stated (0 + o.place) o.copy (ap (slice_get copies) z ∙ o.there) g b exact (ap (λ (v : BlockName × List Sym). v.0) o.is) (ap (λ (v : BlockName × List Sym). v.1) o.is)

  stated_at : (k : ℕ) (b : SymBlock) → slice_get made k ≡ Some b → IsStated p copies b
  stated_at zero b is =
      let g = zip_at (IsExact placed) given made blocks.exact 0 b is in
      let h = zip_at IsWithin given made blocks.few 0 b is in
      let same : h.0 ≡ g.0 = some_is h.0 g.0 (sym h.1 ∙ g.1) in
      start_stated g.0 b g.1 g.2 (subst (λ (x : SymBlock). IsWithin x b) same h.2)
  stated_at (suc k) b is = let g = zip_at (IsExact placed) given made blocks.exact (suc k) b is in behind_stated k g.0 b g.1 g.2

pub blocks_stated : BlocksAreStated
blocks_stated typed copies core given made placed blocks bodies has placing statics k b is = stated_at typed copies core given made placed blocks bodies has placing statics k b is
