-- Each block of what the passes make of a program has at most its stated words, with its selects and without those that flow facts make
-- needless; and room where it is put, leaner or not, where it has no more than these.
use Rattle.std.proofs.Common.{◌≡◌, ℕ, suc, ◌≤◌, List, sym, ap, ◌∙◌, subst, arith}
use Rattle.std.specs.List.{AllZip}
use Rattle.c_typed.specs.Trees.{Program}
use Rattle.c_typed.specs.Views.{program_of}
use Rattle.c_typed.specs.declared.program.Typed.{Typed}
use Rattle.call_graph.specs.Numbers.{handler_at}
use Rattle.call_graph.specs.declared.types.FnCopy.{FnCopy}
use Rattle.flow_facts.proofs.Kept.{thinning_keeps}
use Rattle.flow_facts.specs.Facts.{Facts}
use Rattle.flow_facts.specs.Laws.{IsShorter}
use Rattle.flow_facts.specs.Thin.{IsThin, IsThinned}
use Rattle.sym_code.specs.Words.{words_in}
use Rattle.sym_code.specs.declared.code.SymBlock.{SymBlock}
use Rattle.core_code.specs.declared.code.CoreProgram.{CoreProgram}
use Rattle.pic_map.specs.declared.Placed.{Placed}
use Rattle.program_code.specs.Passed.{AreBlocks}
use Rattle.program_code.specs.Stated.{words_for, IsPaged, AreStated}
use Rattle.program_code.specs.Translated.{HasCalls}
use Rattle.headline_trace.specs.Bounded.{AreInOrder, TranslationsAreStated, TranslationsFit}
use Rattle.headline_trace.proofs.Bounded.{blocks_stated, zip_at}
use Rattle.headline_trace.proofs.Fitting.{blocks_fit}
use Rattle.headline_trace.proofs.Ranked.{blocks_in_order}
use Rattle.headline_trace.proofs.Statics.{some_is}

module _ (p : Program) (copies : List FnCopy) (facts : Facts) (whole made : List SymBlock) (each : AllZip (IsThin facts) whole made) where
  thin_in_order : (order : List FnCopy) → AreInOrder copies order whole → AreInOrder copies order made
  thin_in_order order stands =
      record {
        first = λ block is. let g = zip_at (IsThin facts) whole made each 0 block is in g.2.name ∙ stands.first g.0 g.1;
        behind = λ k block is.
            let g = zip_at (IsThin facts) whole made each (suc k) block is in
            let at = stands.behind k g.0 g.1 in
            record { number = at.number; copy = at.copy; named = g.2.name ∙ at.named; there = at.there; in_order = at.in_order };
      }

  thin_stated : AllZip IsShorter whole made → AreStated p copies whole → AreStated p copies made
  thin_stated shorter stated k block is =
      let g = zip_at (IsThin facts) whole made each k block is in
      let h = zip_at IsShorter whole made shorter k block is in
      let same : h.0 ≡ g.0 = some_is h.0 g.0 (sym h.1 ∙ g.1) in
      let fewer : words_in block.list.items ≤ words_in g.0.list.items = subst (λ (x : SymBlock). IsShorter x block) same h.2 in
      let few : words_in g.0.list.items ≤ words_for p copies g.0.name = stated k g.0 g.1 in
      let name = ap (words_for p copies) g.2.name in
      let words : words_in block.list.items ≤ words_for p copies block.name = omega (arith, fewer, few, name) in
      words

pub translations_stated : TranslationsAreStated
translations_stated typed copies core given whole made placed at blocks bodies thinned has placing statics =
    let kept = thinning_keeps placed (handler_at copies) at whole made thinned blocks.apart blocks.reaches in
    thin_stated (program_of typed) copies thinned.facts whole made thinned.each kept.shorter (blocks_stated typed copies core given whole placed blocks bodies has placing statics)

-- they stand in the order in which the words were given
pub made_in_order : (typed : Typed) (copies : List FnCopy) (core : CoreProgram) (given lean whole made : List SymBlock) (placed : Placed) (at : List ℕ) → AreBlocks (program_of typed) copies core given lean whole placed
    → IsThinned (handler_at copies) at whole made → HasCalls (program_of typed) copies → (paged : IsPaged (program_of typed) copies at) → AreInOrder copies paged.order made
made_in_order typed copies core given lean whole made placed at blocks thinned has paged =
    thin_in_order (program_of typed) copies thinned.facts whole made thinned.each paged.order (blocks_in_order typed copies core given lean whole placed at blocks has paged)

pub translations_fit : TranslationsFit
translations_fit typed copies core given lean whole made placed at blocks thinned has paged stated =
    blocks_fit (program_of typed) copies made at paged (made_in_order typed copies core given lean whole made placed at blocks thinned has paged) stated
