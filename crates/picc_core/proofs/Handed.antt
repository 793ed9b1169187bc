-- What is known of a front, of the program that is built of it.
use Rattle.std.proofs.Common.{◌≡◌, ℕ, ◌<◌, ◌≤◌, map, length, None, Some, IfOk, Result, Ok, Err, sym, ap, ◌∙◌, subst, arith}
use Rattle.std.proofs.lemmas.List.Quantifiers.{position-Some}
use Rattle.c_typed.specs.Chains.{graph_of}
use Rattle.c_typed.specs.Roots.{broken_root}
use Rattle.c_typed.specs.Trees.{Program}
use Rattle.c_typed.specs.Views.{program_of}
use Rattle.c_typed.specs.declared.calls.FnId.TheVariants.{User}
use Rattle.call_graph.specs.Copies.{AreCopies, HasDepth}
use Rattle.call_graph.specs.Levels.{IsAcyclic}
use Rattle.call_graph.specs.Numbers.{handler_at}
use Rattle.call_graph.specs.declared.types.FnCopy.{FnCopy}
use Rattle.pic_world.specs.Roots.{same_root}
use Rattle.pic_world.specs.declared.Root.TheVariants.{Isr}
use Rattle.pic_map.specs.MapContent.{ObjectLine, FrameLine}
use Rattle.pic_map.specs.MapText.{AreInRange}
use Rattle.pic_map.specs.MapView.{content_of, object_of, frame_of}
use Rattle.program_code.specs.Translated.{IsTranslated}
use Rattle.ram_place.specs.Placement.{IsPlacing, LiveFramesAreDisjoint, FramesAreClear, ObjectsAreDisjoint, addresses_covered}
use Rattle.headline_trace.proofs.Faithful.{translations_faithful}
use Rattle.headline_trace.proofs.FewCopies.{copies_few}
use Rattle.picc_core.specs.Blocks.{HasBlocks, HasWords}
use Rattle.picc_core.specs.Compiled.{IsPlaced, IsWithinDepth, IsCompiledTo}
use Rattle.picc_core.specs.Decided.{IsAcceptedText}
use Rattle.picc_core.specs.Texts.{HasTree}
use Rattle.picc_core.specs.Typed.{IsTypedAs}
use Rattle.picc_core.specs.declared.known.Built.{Built}
use Rattle.picc_core.specs.declared.known.Front.{Front}
use Rattle.picc_core.specs.declared.refusal.CompileError.{CompileError}
use Rattle.std.specs.Prelude.{List}

-- what is known of what a text is compiled to has its parts
pub part_of : (text : List ℕ) (P : Built → Type 0) (r : Result Built CompileError) → IfOk r (IsCompiledTo text) → ((b : Built) → IsCompiledTo text b → P b) → IfOk r P
part_of text P (Ok b) is part = part b is
part_of text P (Err e) is part = tt

pub within_depth : (p q : Program) (d e : ℕ) → q ≡ p → e ≡ d → HasDepth p d × (d ≤ 8) → IsWithinDepth q e
within_depth p q d e a b (has, low) = subst (λ x. IsWithinDepth x e) (sym a) (subst (IsWithinDepth p) (sym b) (record { exact = has; within = low }))

pub words_handed : (p q : Program) (w v : ℕ) (copies : List FnCopy) (at : List ℕ) → q ≡ p → v ≡ w → AreCopies p copies → HasBlocks p copies at w → HasWords q v
words_handed p q w v copies at a b known blocks =
    let has : HasWords p w = record { copies = copies; known = known; order = blocks.order; same = blocks.same; sum = blocks.sum; within = blocks.within } in
    subst (λ x. HasWords x v) (sym a) (subst (HasWords p) (sym b) has)

pub placed : (p q : Program) (os ps : List ObjectLine) (fs gs : List FrameLine) → q ≡ p → ps ≡ os → gs ≡ fs → IsPlaced p os fs → IsPlaced q ps gs
placed p q os ps fs gs a b c is = subst (λ x. IsPlaced x ps gs) (sym a) (subst (λ x. IsPlaced p x gs) (sym b) (subst (λ x. IsPlaced p os x) (sym c) is))

-- a copy's number is small, where there are few
pub small_number : (copies : List FnCopy) (number : ℕ) → handler_at copies ≡ Some number → length copies ≤ 65536 → number ≤ 65535
small_number copies number is few = let within = (position-Some (λ (c : FnCopy). same_root c.root Isr) copies number (record { root = Isr; function = User 0; level = 0 }) is).0 in omega (arith, within, few)

-- a program that has its blocks has few copies
few_had : (p : Program) (copies : List FnCopy) (at : List ℕ) (words : ℕ) → AreCopies p copies → HasBlocks p copies at words → length copies < 8192
few_had p copies at words known blocks = copies_few p copies at (record { order = blocks.order; same = blocks.same; sorted = blocks.sorted; stand = blocks.placed; pages = blocks.pages; memory = blocks.memory }) known

pub few_copies : (answer : Result Front CompileError) → IfOk answer (λ f. AreCopies (program_of f.typed) f.copies.list.items) → IfOk answer (λ f. HasBlocks (program_of f.typed) f.copies.list.items f.at.items f.words)
    → IfOk answer (λ f. length f.copies.list.items < 8192)
few_copies (Ok f) known blocks = few_had (program_of f.typed) f.copies.list.items f.at.items f.words known blocks
few_copies (Err e) known blocks = tt

-- all that is known of a front, and that image and map are what the passes make of its program, is known of what is built of it
pub compiled_to : (text : List ℕ) (f : Front) (b : Built) → HasTree text → IsTypedAs text (program_of f.typed) → IsAcceptedText text → broken_root (program_of f.typed) ≡ None → IsAcyclic (graph_of (program_of f.typed))
    → HasDepth (program_of f.typed) f.copies.depth × (f.copies.depth ≤ 8) → AreCopies (program_of f.typed) f.copies.list.items
    → IsPlacing (program_of f.typed) f.copies.list.items (map object_of f.placed.objects.items) (map frame_of f.placed.frames.items)
    → LiveFramesAreDisjoint (program_of f.typed) f.copies.list.items (map frame_of f.placed.frames.items) → FramesAreClear (map object_of f.placed.objects.items) (map frame_of f.placed.frames.items)
    → ObjectsAreDisjoint (map object_of f.placed.objects.items) → f.placed.ram ≡ addresses_covered (map object_of f.placed.objects.items) (map frame_of f.placed.frames.items)
    → HasBlocks (program_of f.typed) f.copies.list.items f.at.items f.words → b.typed ≡ f.typed → b.map.objects ≡ f.placed.objects → b.map.frames ≡ f.placed.frames
    → (b.ram ≡ f.placed.ram) × ((b.words ≡ f.words) × (b.depth ≡ f.copies.depth)) → AreInRange (content_of b.map) → length b.map.objects.items ≤ 65535
    → IsTranslated (program_of b.typed) b.image (content_of b.map) → IsCompiledTo text b
compiled_to text f b tree typed taken roots recursion depth list exact apart clear objects ram blocks same lines frames sizes range few made =
    let of : program_of b.typed ≡ program_of f.typed = ap program_of same in
    let wide : map object_of b.map.objects.items ≡ map object_of f.placed.objects.items = ap (λ v. map object_of v.items) lines in
    let long : map frame_of b.map.frames.items ≡ map frame_of f.placed.frames.items = ap (λ v. map frame_of v.items) frames in
    record {
      tree = tree;
      typed = subst (IsTypedAs text) (sym of) typed;
      taken = taken;
      roots = ap broken_root of ∙ roots;
      recursion = subst (λ p. IsAcyclic (graph_of p)) (sym of) recursion;
      depth = within_depth (program_of f.typed) (program_of b.typed) f.copies.depth b.depth of sizes.1.1 depth;
      lines =
          placed (program_of f.typed) (program_of b.typed) (map object_of f.placed.objects.items) (map object_of b.map.objects.items) (map frame_of f.placed.frames.items) (map frame_of b.map.frames.items) of wide long
          (record { copies = f.copies.list.items; known = list; exact = exact; apart = apart; clear = clear; objects_apart = objects });
      written = range;
      words = words_handed (program_of f.typed) (program_of b.typed) f.words b.words f.copies.list.items f.at.items of sizes.1.0 list blocks;
      few = omega (arith, few);
      ram = sizes.0 ∙ ram ∙ sym (ap (λ l. addresses_covered l (map frame_of b.map.frames.items)) wide ∙ ap (addresses_covered (map object_of f.placed.objects.items)) long);
      faithful = translations_faithful (program_of b.typed) b.image (content_of b.map) made;
    }
