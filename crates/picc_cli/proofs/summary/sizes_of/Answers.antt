use Rattle.std.proofs.Common.{ℕ, List, map, subst}
use Rattle.c_typed.specs.Views.{program_of}
use Rattle.generated_laws.specs.Generated.{generated}
use Rattle.generated_laws.specs.Sizes.{AreSizes}
use Rattle.generated_laws.proofs.Whole.{accepted, known_sizes}
use Rattle.pic_map.specs.MapView.{object_of, frame_of}
use Rattle.picc_core.proofs.OneAnswer.{one_answer}
use Rattle.picc_core.specs.Answers.{Tells}
use Rattle.picc_cli.proofs.summary.sizes_of.Goals as goal

-- a refusal of the text would be one of the generated program, which is accepted
pub unreachable-requires : goal.unreachable-requires
unreachable-requires c =
    let size = c.requires.size in
    let k = c.args.functions in
    let tells = subst (λ (text : List ℕ). Tells text c.in-Err-Refused.field-0-0) c.requires.text (rw c.in-Err-Refused.field-0-is at c.in-Err-Refused.ensures.refused) in
    let only = one_answer (generated k) in
    only.either c.in-Err-Refused.field-0-0 (accepted k size.0 size.1) tells

pub returns-in-Ok : goal.returns-in-Ok
returns-in-Ok c =
    let size = c.requires.size in
    let k = c.args.functions in
    let built = c.in-Ok.built in
    let says = c.in-Ok.ensures in
    let sizes : AreSizes c.args.text.now built.words built.ram built.depth = record {
      tree = says.tree;
      program = program_of built.typed;
      typed = says.typed;
      copies = says.map.copies;
      are_copies = says.map.known;
      has_depth = says.depth.exact;
      objects = map object_of built.map.objects.items;
      frames = map frame_of built.map.frames.items;
      placed = says.map.exact;
      covered = says.ram;
      blocks = says.words;
    } in
    known_sizes k size.0 size.1 built.words built.ram built.depth (subst (λ (text : List ℕ). AreSizes text built.words built.ram built.depth) c.requires.text sizes)
