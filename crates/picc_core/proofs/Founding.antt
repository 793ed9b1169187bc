-- What is known of a program before its code is made, and what the passes ask for by it: numbers have room, selects can be put, blocks have room
-- where they stand, and what they name has an address.
use Rattle.std.proofs.Common.{◌≡◌, ℕ, ◌≤◌, true, List, [], ◌∷◌, length, map, None, refl, ap, ◌∙◌, subst, arith}
use Rattle.std.specs.List.{All, AllZip}
use Rattle.std.proofs.lemmas.List.{length-map}
use Rattle.c_typed.specs.Chains.{graph_of}
use Rattle.c_typed.specs.Roots.{broken_root}
use Rattle.c_typed.specs.Sound.{is_sound}
use Rattle.c_typed.specs.Views.{program_of, static_of}
use Rattle.c_typed.specs.declared.program.Typed.{Typed}
use Rattle.call_graph.specs.Copies.{AreCopies, HasDepth}
use Rattle.call_graph.specs.Levels.{IsAcyclic}
use Rattle.call_graph.specs.Numbers.{handler_at}
use Rattle.call_graph.specs.declared.types.FnCopy.{FnCopy}
use Rattle.core_code.specs.declared.code.Byte.{Byte}
use Rattle.core_code.specs.declared.code.Byte.TheVariants as bytes
use Rattle.core_code.specs.declared.code.CoreProgram.{CoreProgram}
use Rattle.lower_stmt.specs.Bodies.{body_of, bodies_of, first_bytes}
use Rattle.program_code.specs.Leaner.{IsLeaner}
use Rattle.program_code.proofs.LeanerBlocks.{blocks_are_leaner}
use Rattle.lower_stmt.specs.FirstBytes.{items_of}
use Rattle.lower_stmt.specs.Programs.{core_of}
use Rattle.pic_map.specs.MapView.{object_of, frame_of}
use Rattle.pic_map.specs.declared.Placed.{Placed}
use Rattle.sym_code.specs.declared.code.Sym.{Sym}
use Rattle.sym_code.specs.declared.code.SymBlock.{SymBlock}
use Rattle.bank_page.specs.Ready.{CanSelect}
use Rattle.bank_page.specs.Selected.{bare_lists}
use Rattle.code_place.specs.Layouts.{layout_of}
use Rattle.code_place.specs.Places.{BlocksHaveAddresses, HasEnds}
use Rattle.code_place.specs.Sizes.{Fit}
use Rattle.flow_facts.proofs.Kept.{thinning_keeps}
use Rattle.narrow_code.specs.Links.{is_lent}
use Rattle.program_code.specs.Joined.{IsJoined}
use Rattle.program_code.proofs.Bodies.{as_lowered, statics_kept}
use Rattle.program_code.specs.Passed.{AreBlocks}
use Rattle.program_code.specs.Stated.{AreStated}
use Rattle.ram_place.specs.Placement.{IsPlacing, LiveFramesAreDisjoint, FramesAreClear, ObjectsAreDisjoint}
use Rattle.src_rules.specs.Numbers.{ProgramHasNumbers}
use Rattle.program_code.specs.There as there
use Rattle.program_code.specs.Skips as skips
use Rattle.program_code.proofs.AllSkips.{blocks_can_select}
use Rattle.program_code.proofs.PlacedTargets.{all_is_there}
use Rattle.program_code.proofs.AllTargets as targets
use Rattle.program_laws.proofs.Sized.{objects_few}
use Rattle.headline_trace.specs.Addressed.{BlocksHaveOperands, BlocksStandInside}
use Rattle.headline_trace.proofs.Addressed.{lean_keeps_operands, operands_have_addresses, selects_keep_operands}
use Rattle.headline_trace.proofs.FewCopies.{copies_few}
use Rattle.headline_trace.proofs.Laid.{frames_whole}
use Rattle.headline_trace.proofs.Narrowed.{at_first}
use Rattle.headline_trace.proofs.Standing.{translations_fit, translations_stated}
use Rattle.headline_trace.proofs.Statics.{first_there}
use Rattle.picc_core.specs.Blocks.{HasBlocks}
use Rattle.picc_core.specs.Coded.{IsRoomy, AsGiven, Seen, IsSymbolic}
use Rattle.picc_core.specs.Founded.{IsFounded}

-- ---- from the stages
pub founded_on : (typed : Typed) (copies : List FnCopy) (placed : Placed) (at : List ℕ) (depth words : ℕ) → is_sound (program_of typed) ≡ true → ProgramHasNumbers (program_of typed) → broken_root (program_of typed) ≡ None
    → IsAcyclic (graph_of (program_of typed)) → HasDepth (program_of typed) depth × (depth ≤ 8) → AreCopies (program_of typed) copies
    → IsPlacing (program_of typed) copies (map object_of placed.objects.items) (map frame_of placed.frames.items) → LiveFramesAreDisjoint (program_of typed) copies (map frame_of placed.frames.items)
    → FramesAreClear (map object_of placed.objects.items) (map frame_of placed.frames.items) → ObjectsAreDisjoint (map object_of placed.objects.items) → HasBlocks (program_of typed) copies at words → IsFounded typed copies placed at
founded_on typed copies placed at depth words sound numbers roots acyclic deep known exact apart clear objects blocks = record {
  sound = sound;
  roots = roots;
  numbers = numbers;
  calls = record { known = known; acyclic = acyclic; depth = depth; exact = deep.0; shallow = deep.1 };
  spread = record { placing = exact; objects = objects; clear = clear; frames = apart };
  paged = record { order = blocks.order; same = blocks.same; sorted = blocks.sorted; stand = blocks.placed; pages = blocks.pages; memory = blocks.memory };
  few = objects_few typed (map object_of placed.objects.items) sound exact.objects_stand exact.each_object objects;
}

-- ---- bytes that are there
is_inside : (placed : Placed) (byte : Byte) → there.IsInside placed byte → skips.IsInside placed byte
is_inside placed (bytes.Frame copy offset) h = h
is_inside placed (bytes.Static object offset) h = tt
is_inside placed (bytes.Result r k) h = tt
is_inside placed (bytes.Device address) h = tt

are_there : (placed : Placed) (list : List Sym) → there.StandInside placed list → skips.AreThere placed list
are_there placed [] h = tt
are_there placed (s ∷ rest) h = (λ byte is. let at = h.0 byte is in (at.0, is_inside placed byte at.1), are_there placed rest h.1)

module _ (typed : Typed) (copies : List FnCopy) (placed : Placed) (at : List ℕ) (founded : IsFounded typed copies placed at) where
  -- ---- room for numbers
  pub copies_low : length copies ≤ 65536
  copies_low = let few = copies_few (program_of typed) copies at founded.paged founded.calls.known in omega (arith, few)

  pub statics_low : length typed.statics.items ≤ 65536
  statics_low = let few = founded.few in omega (arith, few)

  pub statics_few : length (program_of typed).statics ≤ 65535
  statics_few = let few = founded.few in let same = length-map typed.statics.items static_of in omega (arith, few, same)

  -- ---- code
  module _ (core : CoreProgram) (bodies : map body_of core.bodies.items ≡ bodies_of (program_of typed) copies) (statics : map items_of core.statics.items ≡ first_bytes (program_of typed)) where
    operands : (given : List SymBlock) → IsJoined core copies given → BlocksHaveOperands placed given × BlocksStandInside placed given
    operands given joined = operands_have_addresses typed copies core core given placed founded.sound founded.roots founded.numbers bodies (as_lowered core) joined founded.calls founded.spread.placing statics statics_few

    -- Selects can be put into the blocks that are joined from it.
    pub ready : (given : List SymBlock) → IsJoined core copies given → All (CanSelect placed) given
    ready given joined =
        let inside = (operands given joined).1 in
        blocks_can_select (program_of typed) copies core given placed bodies joined (frames_whole (program_of typed) copies placed founded.spread.placing) (λ k d lt. are_there placed _ (inside k d lt))

    module _ (made : List SymBlock) (symbolic : IsSymbolic (program_of typed) core copies placed at made) where
      -- what objects begin with in the byte code that blocks are made of
      pub first : map items_of symbolic.core.statics.items ≡ first_bytes (program_of typed)
      first = statics_kept core symbolic.core symbolic.code ∙ statics

      pub blocks : AreBlocks (program_of typed) copies symbolic.core symbolic.given symbolic.lean symbolic.selects.whole placed
      blocks = record {
        sound = founded.sound;
        roots = founded.roots;
        numbers = founded.numbers;
        lowered = core;
        bodies = bodies;
        code = symbolic.code;
        joined = symbolic.joined;
        lent = is_lent symbolic.lent;
        statics = λ n. refl;
        lends = symbolic.lends;
        first = at_first symbolic.lent (core_of (program_of typed) copies).first (first_there (program_of typed) copies founded.sound founded.numbers);
        leaner = symbolic.leaner;
        names = symbolic.selects.names;
        bare = symbolic.selects.bare;
        apart = symbolic.selects.apart;
        reaches = symbolic.selects.reaches;
        few = symbolic.selects.few;
        exact = symbolic.selects.exact;
      }

      -- no block has more words than are stated of it: where code is as it was selected by the law on that, and leaner code was seen to
      pub stated : AreStated (program_of typed) copies made
      stated = by symbolic.room where
        by : IsRoomy (program_of typed) copies core symbolic.core symbolic.given symbolic.lean made → AreStated (program_of typed) copies made
        by (AsGiven lowered same) =
            translations_stated typed copies symbolic.core symbolic.given symbolic.selects.whole made placed at
            (subst (λ (l : List SymBlock). AreBlocks (program_of typed) copies symbolic.core symbolic.given l symbolic.selects.whole placed) same blocks) (ap (λ (q : CoreProgram). map body_of q.bodies.items) lowered ∙ bodies)
            symbolic.selects.thinned founded.calls founded.spread.placing first
        by (Seen has) = has

      -- so each has room
      pub fit : Fit made at
      fit = translations_fit typed copies symbolic.core symbolic.given symbolic.lean symbolic.selects.whole made placed at blocks symbolic.selects.thinned founded.calls founded.paged stated

      pub ends : HasEnds made at
      ends = targets.ends_are_there (program_of typed) copies symbolic.core symbolic.given symbolic.lean symbolic.selects.whole made placed at blocks symbolic.selects.thinned founded.calls fit

      all_operands : BlocksHaveOperands placed symbolic.given × BlocksStandInside placed symbolic.given
      all_operands = operands_have_addresses typed copies core symbolic.core symbolic.given placed founded.sound founded.roots founded.numbers bodies symbolic.code symbolic.joined founded.calls founded.spread.placing first statics_few

      lists_kept : bare_lists made ≡ bare_lists symbolic.lean
      lists_kept = (thinning_keeps placed (handler_at copies) at symbolic.selects.whole made symbolic.selects.thinned symbolic.selects.apart symbolic.selects.reaches).lists ∙ symbolic.selects.bare

      leaner : AllZip IsLeaner symbolic.given symbolic.lean
      leaner = blocks_are_leaner (layout_of placed) (handler_at copies) (core_of (program_of typed) copies).variable_bytes (is_lent symbolic.lent) symbolic.given symbolic.lean symbolic.leaner

      pub named : BlocksHaveAddresses placed made at
      named =
          all_is_there placed made at (targets.targets_are_there (program_of typed) copies symbolic.core symbolic.given symbolic.lean symbolic.selects.whole made placed at blocks symbolic.selects.thinned founded.calls fit)
          (selects_keep_operands placed symbolic.lean made lists_kept (lean_keeps_operands placed symbolic.given symbolic.lean leaner all_operands.0))
