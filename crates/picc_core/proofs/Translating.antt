-- What the passes promise of an accepted program, put together.
use Rattle.std.proofs.Common.{◌≡◌, ℕ, ◌≤◌, List, length, map, refl, sym, ap, subst, arith}
use Rattle.std.specs.Global.{Global}
use Rattle.std.specs.List.{AllPairs}
use Rattle.std.specs.declared.vec.Vec.{Vec}
use Rattle.std.proofs.lemmas.List.{length-map}
use Rattle.c_typed.specs.Trees.{Program}
use Rattle.c_typed.specs.Views.{program_of}
use Rattle.c_typed.specs.declared.program.Typed.{Typed}
use Rattle.call_graph.specs.declared.types.FnCopy.{FnCopy}
use Rattle.program_laws.proofs.Lines.{lines_named}
use Rattle.pic_map.specs.MapContent as content
use Rattle.pic_map.specs.MapText.{AreInRange}
use Rattle.pic_map.specs.MapView.{content_of, object_of, frame_of}
use Rattle.pic_map.specs.declared.FrameLine.{FrameLine}
use Rattle.pic_map.specs.declared.ObjLine.{ObjLine}
use Rattle.pic_map.specs.declared.Placed.{Placed}
use Rattle.program_code.specs.Passed.{IsPassed}
use Rattle.program_code.specs.Translated.{IsTranslated, AreOthers}
use Rattle.ram_place.specs.Placement.{IsPlacing}
use Rattle.program_laws.specs.Named.{AreNamed}
use Rattle.headline_trace.proofs.Written.{maps_written}
use Rattle.picc_core.specs.Coded.{IsCoded}
use Rattle.picc_core.specs.Founded.{IsFounded}
use Rattle.picc_core.specs.declared.known.Built.{Built}
use Rattle.picc_core.proofs.Founding.{statics_few, first, blocks}

-- the addresses are those of the list that was lent
pub coded_at : (p : Program) (copies : List FnCopy) (placed : Placed) (lent at image : List ℕ) (main halt : ℕ) → lent ≡ at → IsCoded p copies placed lent image main halt
    → IsCoded p copies placed at image main halt
coded_at p copies placed lent at image main halt same code = subst (λ (l : List ℕ). IsCoded p copies placed l image main halt) same code

pub founded_at : (typed : Typed) (copies : List FnCopy) (placed : Placed) (lent at : List ℕ) → lent ≡ at → IsFounded typed copies placed at → IsFounded typed copies placed lent
founded_at typed copies placed lent at same founded = subst (λ (l : List ℕ). IsFounded typed copies placed l) (sym same) founded

-- A map file can tell the map of what is built, which has few objects, and frames that differ.
pub record IsChecked (b : Built) : Type 0 where
  pub range : AreInRange (content_of b.map)
  pub few : length b.map.objects.items ≤ 65535
  pub apart : AllPairs AreOthers (map frame_of b.map.frames.items)

module _ (typed : Typed) (copies : List FnCopy) (placed : Placed) (at : List ℕ) (b : Built) (objects : b.map.objects ≡ placed.objects) (frames : b.map.frames ≡ placed.frames)
    (founded : IsFounded typed copies placed at) (code : IsCoded (program_of typed) copies placed at b.image b.map.main b.map.halt) where
  passed : IsPassed (program_of typed) copies code.symbolic.core code.symbolic.given code.made placed at
  passed = record {
    lean = code.symbolic.lean;
    whole = code.symbolic.selects.whole;
    blocks = blocks typed copies placed at founded code.lowered code.bodies code.statics code.made code.symbolic;
    thinned = code.symbolic.selects.thinned;
    stated = code.stated;
    fit = code.fit;
    named = code.named;
  }

  objects_are : map object_of b.map.objects.items ≡ map object_of placed.objects.items
  objects_are = ap (λ (v : Vec ObjLine Global). map object_of v.items) objects

  frames_are : map frame_of b.map.frames.items ≡ map frame_of placed.frames.items
  frames_are = ap (λ (v : Vec FrameLine Global). map frame_of v.items) frames

  placing : IsPlacing (program_of typed) copies (map object_of b.map.objects.items) (map frame_of b.map.frames.items)
  placing = subst (λ (os : List content.ObjectLine). IsPlacing (program_of typed) copies os (map frame_of b.map.frames.items)) (sym objects_are)
      (subst (λ (fs : List content.FrameLine). IsPlacing (program_of typed) copies (map object_of placed.objects.items) fs) (sym frames_are) founded.spread.placing)

  -- where its names are those of a text
  pub checked : AreNamed (program_of typed) → IsChecked b
  checked named =
      let names = lines_named (program_of typed) copies (map object_of b.map.objects.items) (map frame_of b.map.frames.items) named founded.calls.known placing in
      let long = length-map b.map.objects.items object_of in
      let whole = placing.each_object in
      let few = statics_few typed copies placed at founded in
      record {
        range = maps_written (program_of typed) copies code.symbolic.core code.symbolic.given code.made placed at (content_of b.map) passed placing code.begins code.ends names.objects names.frames;
        few = omega (arith, long, whole, few);
        apart = names.apart;
      }

  -- What is known of the typed program, of its copies and places, and of its code makes the image and the map those of the program.
  pub translated : b.typed ≡ typed → IsChecked b → IsTranslated (program_of b.typed) b.image (content_of b.map)
  translated same is =
      let made : IsTranslated (program_of typed) b.image (content_of b.map) = record {
        copies = copies;
        core = code.symbolic.core;
        given = code.symbolic.given;
        made = code.made;
        placed = placed;
        at = at;
        is = record {
          typed = typed;
          same = refl;
          few = statics_few typed copies placed at founded;
          calls = founded.calls;
          spread = founded.spread;
          paged = founded.paged;
          passed = passed;
          written = record {
            statics = first typed copies placed at founded code.lowered code.bodies code.statics code.made code.symbolic;
            words = code.words;
            erased = code.erased;
            targets = code.targets;
            main = code.begins;
            halt = code.ends;
            objects = objects_are;
            frames = frames_are;
            range = is.range;
            apart = is.apart;
          };
        };
      } in
      subst (λ (q : Program). IsTranslated q b.image (content_of b.map)) (ap program_of (sym same)) made
