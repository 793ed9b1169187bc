-- Blocks with their selects have the code of the leaner ones, and find what they need.
use Rattle.std.proofs.Common.{◌≡◌, ℕ, inl, inr, true, List, ◌∷◌, refl, sym, ap, ◌∙◌, subst}
use Rattle.c_typed.specs.Trees.{Program}
use Rattle.call_graph.specs.Numbers.{handler_at}
use Rattle.call_graph.specs.declared.types.FnCopy.{FnCopy}
use Rattle.core_code.specs.declared.code.CoreProgram.{CoreProgram}
use Rattle.pic_map.specs.declared.Placed.{Placed}
use Rattle.program_code.specs.Passed.{IsPassed}
use Rattle.sym_code.specs.Programs.{block_in}
use Rattle.sym_code.specs.Selects.{bare}
use Rattle.sym_code.specs.declared.code.BlockName.{BlockName}
use Rattle.sym_code.specs.declared.code.SymBlock.{SymBlock}
use Rattle.flow_facts.proofs.Kept.{thinning_keeps, thinning_has_flow}
use Rattle.headline_trace.specs.Linked.{bare_setting, full_setting}
use Rattle.headline_trace.specs.Passed.{SelectsAreHad}
use Rattle.headline_trace.proofs.Bare.{all_are, is_word, bare_itself, bare_same, in_blocks, plain_words, start_words}
use Rattle.headline_trace.proofs.Members.{Has}
use Rattle.headline_trace.proofs.Ready.{IsReady, ready}

module _ (copies : List FnCopy) (core : CoreProgram) (given blocks : List SymBlock) (is : IsReady core copies given blocks) where
  -- no select stands in them
  pub block_words : (b : SymBlock) → Has (is.start ∷ is.order) b → all_are is_word b.list.items ≡ true
  block_words b (inl same) =
      ap (λ (x : SymBlock). all_are is_word x.list.items) (sym same) ∙ ap (all_are is_word) is.exact ∙ start_words (handler_at copies) core.statics.items
  block_words b (inr h) = plain_words b.list.items (is.plain b h)

  own_words : (name : BlockName) → all_are is_word (block_in blocks name) ≡ true
  own_words name = in_blocks (λ list. all_are is_word list ≡ true) blocks name refl (λ b h. block_words b (subst (λ bs. Has bs b) is.whole h))

-- ---- the record
-- taken out, the selects of the whole blocks leave the leaner ones
pub whole_same : (p : Program) (copies : List FnCopy) (core : CoreProgram) (given made : List SymBlock) (placed : Placed) (at : List ℕ) (passed : IsPassed p copies core given made placed at) (name : BlockName)
    → bare (block_in passed.whole name) ≡ block_in passed.lean name
whole_same p copies core given made placed at passed name =
    let words = own_words copies core given passed.lean (ready p copies core given passed.lean passed.whole placed passed.blocks) in
    bare_same passed.whole passed.lean passed.blocks.names passed.blocks.bare name ∙ bare_itself (block_in passed.lean name) (words name)

-- .. and so do those that are left of them
pub made_same : (p : Program) (copies : List FnCopy) (core : CoreProgram) (given made : List SymBlock) (placed : Placed) (at : List ℕ) (passed : IsPassed p copies core given made placed at) (name : BlockName)
    → bare (block_in made name) ≡ block_in passed.lean name
made_same p copies core given made placed at passed name =
    let keeps = thinning_keeps placed (handler_at copies) at passed.whole made passed.thinned passed.blocks.apart passed.blocks.reaches in
    keeps.same name ∙ whole_same p copies core given made placed at passed name

pub selects_had : SelectsAreHad
selects_had p copies core given made placed at limit passed near =
    thinning_has_flow passed.lean passed.whole made (handler_at copies) placed at (bare_setting passed.lean made (handler_at copies) placed at limit) (full_setting made (handler_at copies) placed at limit) passed.thinned
    passed.blocks.apart passed.blocks.reaches near (whole_same p copies core given made placed at passed) refl refl refl refl refl passed.fit passed.named refl refl
