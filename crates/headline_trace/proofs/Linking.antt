-- What all passes make is linked.
use Rattle.std.proofs.Common.{◌≡◌, List, [], ◌∷◌, map, refl, ap, ◌∙◌}
use Rattle.call_graph.specs.Numbers.{handler_at}
use Rattle.code_place.specs.Layouts as places
use Rattle.pic_map.specs.MapContent as content
use Rattle.pic_map.specs.MapView.{frame_of}
use Rattle.pic_map.specs.declared.FrameLine.{FrameLine}
use Rattle.bank_trace.proofs.Premises.{near_at}
use Rattle.src_rules.proofs.Starts.{sound_runs}
use Rattle.sym_code.specs.Layout.{FrameRange}
use Rattle.sym_code.specs.declared.code.BlockName.TheVariants.{Start}
use Rattle.headline_trace.specs.Carried as carried
use Rattle.headline_trace.proofs.Whole.{makes_headline}
use Rattle.headline_trace.specs.Selection.{reaches_in, limit_of}
use Rattle.headline_trace.specs.Translations.{TranslationsAreLowerable, TranslationsAreLinked, TranslationsFollow}
use Rattle.headline_trace.proofs.Assembling.{assembly_had, ranges_are}
use Rattle.headline_trace.proofs.Nearby.{selects_near}
use Rattle.headline_trace.proofs.Selects.{selects_had}
use Rattle.headline_trace.proofs.StartGiven.{beginning_had}
use Rattle.headline_trace.proofs.Framed.{frames_named}
use Rattle.headline_trace.proofs.Lent.{leads_to}
use Rattle.headline_trace.proofs.Lowerable.{first_at, lowerable}
use Rattle.headline_trace.proofs.Narrowed.{bodies_follow}
use Rattle.headline_trace.proofs.Priced.{lean_had}
use Rattle.headline_trace.proofs.Selecting.{selection_had}
use Rattle.headline_trace.proofs.Thinned.{first_reaches}

-- the map's lines of frames show those of the layout
frames_are : (lines : List FrameLine) → map carried.frame_of (map frame_of lines) ≡ map places.frame_of lines
frames_are [] = refl
frames_are (line ∷ lines) = ap (λ (l : List FrameRange). places.frame_of line ∷ l) (frames_are lines)

pub translations_lowerable : TranslationsAreLowerable
translations_lowerable = lowerable

pub translations_linked : TranslationsAreLinked
translations_linked p copies core given made placed at image map_content t =
    let begins = beginning_had p copies core given made placed at t.passed t.spread.placing t.written.statics in
    let lean = lean_had p copies core given made placed at t.passed t.spread.placing in
    let near = selects_near p t.typed t.same copies core given t.passed.lean t.passed.whole placed t.passed.blocks t.calls t.spread.placing t.written.statics t.few in
    let selects = selects_had p copies core given made placed at (limit_of copies) t.passed near in
    record {
      lowerable = lowerable p copies core given made placed at image map_content t;
      price = lean.price;
      sure = lean.sure;
      narrowed =
          bodies_follow p copies t.passed.blocks.sound t.passed.blocks.numbers t.calls (sound_runs p t.passed.blocks.sound t.passed.blocks.roots t.passed.blocks.numbers) t.passed.blocks.lowered core t.passed.blocks.bodies
          t.passed.blocks.code;
      selected = selection_had p copies core given made placed at t.passed t.calls t.spread lean;
      lent = t.passed.blocks.lent;
      leads = leads_to p copies t.passed.blocks.lent core.bodies.items t.passed.blocks.lends t.passed.blocks.first;
      hidden = lean.hidden;
      clear = lean.clear;
      leaner = lean.keeps;
      facts = t.passed.thinned.facts;
      selects = selects;
      assembled = assembly_had p copies core given made placed at image map_content t.passed t.calls t.spread t.written (first_at p copies at t.paged);
      beginning = record { code = begins.code; selected = first_reaches p copies core given made placed at t.passed; near = λ low. near_at placed made selects.near low Start; sizes = begins.sizes; first = begins.first };
      statics_are = begins.statics_are;
      objects = ap (map content.range_of) t.written.objects ∙ ranges_are placed.objects.items;
      frames = ap (map carried.frame_of) t.written.frames ∙ frames_are placed.frames.items;
      named = frames_named p copies placed map_content t.calls t.spread.placing t.written.frames t.written.apart;
    }

pub translations_follow : TranslationsFollow
translations_follow p image map_content made start inputs arrivals is_start bytes =
    let copies = made.copies in
    let core = made.core in
    makes_headline p copies core.bodies.items core.statics.items (reaches_in p copies) made.given made.is.passed.lean made.made (handler_at copies) made.placed made.at (limit_of copies) image map_content
    (translations_linked p copies core made.given made.made made.placed made.at image map_content made.is) start inputs arrivals is_start bytes
