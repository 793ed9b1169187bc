-- Each generated text is accepted, and its sizes.
use Rattle.std.proofs.Common.{◌≡◌, ℕ, zero, suc, ◌+◌, ◌*◌, ◌<◌, ◌≤◌, Bool, true, List, [], ◌∷◌, map, Option, Some, Result, Ok, Err, refl, sym, ap, ◌∙◌, subst, arith}
use Rattle.std.specs.Prelude.{sum}
use Rattle.std.specs.List.{sum_by}
use Rattle.std.specs.List.Sorted.{IsPermutation}
use Rattle.std.proofs.lemmas.List.Sorted.{sum_by-IsPermutation}
use Rattle.std.proofs.lemmas.List.Sums.{sum_by-cons}
use Rattle.c_token.specs.Text.{tokens_of}
use Rattle.c_token.specs.declared.token.LexError.{LexError}
use Rattle.c_token.specs.declared.token.Tok.{Tok}
use Rattle.c_nodes.specs.Programs.{ItemTree, IsUnit, spelled_unit}
use Rattle.c_nodes.specs.Words.{Symbols}
use Rattle.c_typed.specs.Chains.{graph_of}
use Rattle.c_typed.specs.Nodes.{capped}
use Rattle.c_typed.specs.Trees.{Program}
use Rattle.c_typed.specs.Words.{start_size}
use Rattle.call_graph.specs.Copies.{IsDepth, HasDepth, AreCopies, root_of}
use Rattle.call_graph.specs.Levels.{IsAcyclic, IsLongest}
use Rattle.call_graph.specs.declared.types.FnCopy.{FnCopy}
use Rattle.pic_map.specs.MapContent.{ObjectLine}
use Rattle.pic_world.specs.declared.Root.TheVariants as root
use Rattle.code_place.specs.Pages.{addresses}
use Rattle.program_code.specs.Stated.{copy_words, sizes}
use Rattle.ram_place.specs.Placement.{IsPlacing, addresses_covered}
use Rattle.picc_core.specs.Accepted.{IsAccepted, IsCodeOrder}
use Rattle.picc_core.specs.Decided.{IsAcceptedText}
use Rattle.picc_core.specs.Texts.{HasTree}
use Rattle.picc_core.specs.Typed.{IsTreeOf, IsTypedAs}
use Rattle.picc_core.proofs.OneTyping.{one_typing}
use Rattle.picc_core.proofs.OnlyCopies.{one_copies}
use Rattle.picc_core.proofs.OnlyPlaces.{one_placing}
use Rattle.typed_laws.proofs.Units.{judged_sound}
use Rattle.generated_laws.specs.Generated.{generated}
use Rattle.generated_laws.specs.Placed.{generated_copies, generated_order, generated_objects, generated_frames, generated_graph}
use Rattle.generated_laws.specs.Sizes.{AreSizes}
use Rattle.generated_laws.specs.Tree.{generated_tree}
use Rattle.generated_laws.specs.TypedProgram.{generated_program}
use Rattle.generated_laws.proofs.Calling.{acyclic, longest, only_longest}
use Rattle.generated_laws.proofs.Computed.{seen, reads, is_flat, is_judged, is_rooted, has_main, no_handler, has_graph, has_count, is_framed, blocks_of, is_sized}
use Rattle.generated_laws.proofs.Copying.{are_copies}
use Rattle.generated_laws.proofs.Framing.{placing, covered}
use Rattle.generated_laws.proofs.Grammar.{is_unit}
use Rattle.generated_laws.proofs.Ordering.{in_order, within_pages, in_memory}
use Rattle.generated_laws.proofs.Tokens.{words_along, symbols_by, is_kept, plainly_read}

-- ---- the tree
seen_symbols : (a c : Bool × Symbols) → Some a ≡ Some c → a ≡ c
seen_symbols a c is = cc

tree_of : (text : List ℕ) (tree : List ItemTree) (r : Result (List Tok) LexError) → tokens_of text ≡ r → seen text r ≡ Some (true, spelled_unit tree) → IsUnit tree → IsTreeOf text tree
tree_of text tree (Ok raw) is same unit =
    let both = seen_symbols (is_kept text raw (words_along 0 text raw), symbols_by raw (words_along 0 text raw)) (true, spelled_unit tree) same in
    let read = plainly_read text raw is (ap (λ (x : Bool × Symbols). x.0) both) in
    record { toks = raw; tokens = read.0; grammar = unit; spelled = read.1 ∙ ap (λ (x : Bool × Symbols). x.1) both }
tree_of text tree (Err e) is same unit = absurd (cc)

module _ (k : ℕ) (low : 0 < k) (high : k ≤ 64) where
  abbrev p : Program
  p = generated_program k

  typed : IsTypedAs (generated k) p
  typed =
      record {
        tree = generated_tree k;
        of_text = tree_of (generated k) (generated_tree k) (tokens_of (generated k)) refl (reads k low high) (is_unit k (is_flat k low high));
        judged = is_judged k low high;
      }

  -- ---- the program
  copies : AreCopies p (generated_copies k)
  copies = are_copies p k (has_main k low high) (no_handler k low high) (has_graph k low high) (has_count k low high)

  no_cycle : IsAcyclic (graph_of p)
  no_cycle = subst IsAcyclic (sym (has_graph k low high)) (acyclic k)

  -- calls from main alone
  depth_of : (d : ℕ) → IsLongest (generated_graph k) k d → HasDepth p d
  depth_of d is =
      subst (λ (m : Option ℕ). IsDepth (graph_of p) m (root_of p root.Isr) d) (sym (has_main k low high))
      (subst (λ (h : Option ℕ). IsDepth (graph_of p) (Some k) h d) (sym (no_handler k low high)) (subst (λ (g : List (List ℕ)). IsLongest g k d) (sym (has_graph k low high)) is))

  of_depth : (d : ℕ) → HasDepth p d → IsLongest (generated_graph k) k d
  of_depth d is =
      subst (λ (g : List (List ℕ)). IsLongest g k d) (has_graph k low high)
      (subst (λ (h : Option ℕ). IsDepth (graph_of p) (Some k) h d) (no_handler k low high)
      (subst (λ (m : Option ℕ). IsDepth (graph_of p) m (root_of p root.Isr) d) (has_main k low high) is))

  places : IsPlacing p (generated_copies k) generated_objects (generated_frames k)
  places = placing k (has_graph k low high) (is_framed k low high)

  program_accepted : IsAccepted p (generated_copies k) (generated_order k)
  program_accepted =
      record {
        typed = judged_sound (generated_tree k) p (is_judged k low high);
        roots = is_rooted k low high;
        acyclic = no_cycle;
        stack = record { depth = 1; exact = depth_of 1 (longest k low); within = omega arith };
        known = copies;
        memory = record { objects = generated_objects; frames = generated_frames k; placing = places };
        in_order = in_order k;
        pages = within_pages (blocks_of k) (ap (λ (x : Bool × Bool × ℕ). x.0) (is_sized k low high));
        code = in_memory (addresses (blocks_of k)) (ap (λ (x : Bool × Bool × ℕ). x.1) (is_sized k low high));
      }

  pub accepted : IsAcceptedText (generated k)
  accepted = record { program = p; typed = typed; copies = generated_copies k; accepted = record { order = generated_order k; accepted = program_accepted } }

  -- ---- its sizes
  sum_as : (order : List FnCopy) → sum (sizes p order) ≡ capped (start_size p) + sum_by (copy_words p) order
  sum_as order = sum_by-cons (λ (n : ℕ). n) (capped (start_size p)) (map (copy_words p) order) ∙ ap (λ n. capped (start_size p) + n) (summed order) where
    summed : (xs : List FnCopy) → sum (map (copy_words p) xs) ≡ sum_by (copy_words p) xs
    summed [] = refl
    summed (x ∷ xs) = sum_by-cons (λ (n : ℕ). n) (copy_words p x) (map (copy_words p) xs) ∙ ap (λ n. copy_words p x + n) (summed xs) ∙ sym (sum_by-cons (copy_words p) x xs)

  words_are : (order : List FnCopy) → IsPermutation (generated_copies k) order → sum (sizes p order) ≡ 132 + 92 * k
  words_are order same =
      let ordered = in_order k in
      sum_as order
      ∙ ap (λ n. capped (start_size p) + n) (sum_by-IsPermutation (copy_words p) (generated_copies k) order same ∙ sym (sum_by-IsPermutation (copy_words p) (generated_copies k) (generated_order k) ordered.same))
      ∙ sym (sum_as (generated_order k))
      ∙ ap (λ (x : Bool × Bool × ℕ). x.2) (is_sized k low high)

  some_covered : (n : ℕ) → 0 < n → addresses_covered generated_objects (generated_frames n) ≡ 14
  some_covered zero some = absurd (omega (arith, some))
  some_covered (suc n) some = covered n

  pub sizes_are : AreSizes (generated k) (132 + 92 * k) 14 1
  sizes_are =
      record {
        tree = has_tree;
        program = p;
        typed = typed;
        copies = generated_copies k;
        are_copies = copies;
        has_depth = depth_of 1 (longest k low);
        objects = generated_objects;
        frames = generated_frames k;
        placed = places;
        covered = sym (some_covered k low);
        blocks = record { copies = generated_copies k; known = copies; order = generated_order k; same = ordered.same; sum = sym (ap (λ (x : Bool × Bool × ℕ). x.2) (is_sized k low high)); within = omega (arith, high) };
      }
    where
      has_tree : HasTree (generated k)
      has_tree = let is = typed.of_text in record { toks = is.toks; tree = typed.tree; tokens = is.tokens; grammar = is.grammar; spelled = is.spelled }

      ordered : IsCodeOrder (generated_copies k) (generated_order k)
      ordered = in_order k

  module _ (words ram depth : ℕ) (s : AreSizes (generated k) words ram depth) where
    one : s.program ≡ p
    one = let only = one_typing (generated k) in only.program s.program p s.typed typed

    of_program : (others : List FnCopy) → AreCopies s.program others → others ≡ generated_copies k
    of_program others are = one_copies p others (generated_copies k) (subst (λ (q : Program). AreCopies q others) one are) copies

    stated : words ≡ 132 + 92 * k
    stated =
        let b = s.blocks in
        b.sum ∙ ap (λ (q : Program). sum (sizes q b.order)) one ∙ words_are b.order (subst (λ (l : List FnCopy). IsPermutation l b.order) (of_program b.copies b.known) b.same)

    placed : IsPlacing p (generated_copies k) s.objects s.frames
    placed =
        subst (λ (l : List FnCopy). IsPlacing p l s.objects s.frames) (of_program s.copies s.are_copies) (subst (λ (q : Program). IsPlacing q s.copies s.objects s.frames) one s.placed)

    bytes : ram ≡ 14
    bytes =
        let same = one_placing p (generated_copies k) s.objects generated_objects s.frames (generated_frames k) placed places in
        s.covered ∙ ap (λ (o : List ObjectLine). addresses_covered o s.frames) same.0 ∙ ap (addresses_covered generated_objects) same.1 ∙ some_covered k low

    deep : depth ≡ 1
    deep = only_longest k depth low (of_depth depth (subst (λ (q : Program). HasDepth q depth) one s.has_depth))

    pub known_sizes : (words ≡ 132 + 92 * k) × (ram ≡ 14) × (depth ≡ 1)
    known_sizes = (stated, bytes, deep)
