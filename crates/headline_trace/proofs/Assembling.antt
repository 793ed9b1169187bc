-- All that the chip is given, put together.
use Rattle.std.proofs.Common.{◌≡◌, List, [], ◌∷◌, map, length, refl, sym, ap, ◌∙◌, subst}
use Rattle.call_graph.specs.Numbers.{handler_at}
use Rattle.code_place.specs.Layouts as places
use Rattle.core_code.specs.declared.code.FirstByte.{FirstByte}
use Rattle.isr_save.specs.Start.{start_code}
use Rattle.pic_chip.specs.Run.{Range}
use Rattle.pic_map.specs.MapContent as content
use Rattle.pic_map.specs.MapView.{object_of}
use Rattle.pic_map.specs.declared.ObjLine.{ObjLine}
use Rattle.headline_trace.specs.Assembly.{AssemblyIsHad}
use Rattle.headline_trace.specs.Selection.{reaches_in}
use Rattle.headline_trace.proofs.Apart.{laid_out}
use Rattle.headline_trace.proofs.Selects.{made_same}
use Rattle.headline_trace.proofs.Depths.{reach_sound, depth_had}
use Rattle.headline_trace.proofs.Fronts.{start_place}
use Rattle.headline_trace.proofs.Had.{start_had}
use Rattle.headline_trace.proofs.Outside.{all_outside, all_small}
use Rattle.headline_trace.proofs.Paged.{selects_paged}
use Rattle.headline_trace.proofs.Ready.{ready}
use Rattle.headline_trace.proofs.Statics.{AllGood, statics_good}
use Rattle.headline_trace.proofs.Thinned.{start_kept}

-- the map's lines show the ranges of the layout
pub ranges_are : (lines : List ObjLine) → map content.range_of (map object_of lines) ≡ map places.range_of lines
ranges_are [] = refl
ranges_are (line ∷ lines) = ap (λ (l : List Range). places.range_of line ∷ l) (ranges_are lines)

pub assembly_had : AssemblyIsHad
assembly_had p copies core given made placed at image map_content passed has spread made_image first =
    let leaner = ready p copies core given passed.lean passed.whole placed passed.blocks in
    let same = made_same p copies core given made placed at passed in
    let start = start_had p copies core given made placed at passed in
    record {
      code = refl;
      banked = refl;
      pages = refl;
      leaves = refl;
      fit = passed.fit;
      words = made_image.words;
      named = passed.named;
      targets = made_image.targets;
      main = made_image.main;
      halt = made_image.halt;
      start = start.0;
      starts = start_place placed (start_code (handler_at copies) core.statics.items) made (start_kept p copies core given made placed at passed) at first;
      vector = start.1;
      halts = start.2;
      ranges = ap (map content.range_of) made_image.objects ∙ ranges_are placed.objects.items;
      small = all_small copies core given passed.lean leaner made same (length p.statics)
          (subst (λ (l : List (List FirstByte)). AllGood (length p.statics) l) (sym made_image.statics) (statics_good p passed.blocks.sound passed.blocks.numbers));
      selects = selects_paged p copies core given made placed at passed;
      outside = all_outside copies core given passed.lean leaner made same;
      reaches = reaches_in p copies;
      laid_out = laid_out p copies placed spread.placing (reaches_in p copies) (reach_sound p copies has) spread.objects spread.clear spread.frames;
      depth = depth_had p copies has;
    }
