-- What the start block is given: its code, and what the objects begin with.
use Rattle.std.proofs.Common.{◌≡◌, List, [], map, length, sym, ap, ◌∙◌, subst, arith}
use Rattle.std.specs.Global.{Global}
use Rattle.std.specs.List.{All}
use Rattle.std.specs.Prelude.{slice_index_or}
use Rattle.std.specs.declared.vec.Vec.{Vec}
use Rattle.std.proofs.lemmas.List.{length-map}
use Rattle.core_code.specs.Bytes.{Held}
use Rattle.core_code.specs.FirstBytes.{first_held}
use Rattle.core_code.specs.declared.code.FirstByte.{FirstByte}
use Rattle.lower_stmt.specs.Programs.{core_of}
use Rattle.select_wide.specs.Links.{IsFirst}
use Rattle.sym_code.specs.declared.code.BlockName.TheVariants.{Start}
use Rattle.chip_trace.specs.Starting.{held_in}
use Rattle.headline_trace.specs.Assembly.{BeginningIsHad}
use Rattle.headline_trace.proofs.Selects.{made_same}
use Rattle.headline_trace.proofs.Laid.{layout_is}
use Rattle.headline_trace.proofs.Ready.{ready, start_is}
use Rattle.headline_trace.proofs.Statics.{first_there, held_are}

pub beginning_had : BeginningIsHad
beginning_had p copies core given made placed at passed placing statics =
    let held : held_in core.statics.items ≡ (core_of p copies).first = held_are p copies core.statics.items statics in
    let layout = layout_is p copies placed placing in
    let long : length (held_in core.statics.items) ≡ length core.statics.items = length-map core.statics.items (λ (object : Vec FirstByte Global). map first_held object.items) in
    let whole = ap length held in
    record {
      code = made_same p copies core given made placed at passed Start ∙ start_is copies core given passed.lean (ready p copies core given passed.lean passed.whole placed passed.blocks);
      sizes = λ n lt.
          let size = layout.sizes n (omega arith) in
          let bytes = ap (λ (l : List (List Held)). length (slice_index_or l n [])) held in
          omega arith;
      first = subst (λ (l : List (List Held)). All (All (IsFirst l)) l) (sym held) (first_there p copies passed.blocks.sound passed.blocks.numbers);
      statics_are = held;
    }
