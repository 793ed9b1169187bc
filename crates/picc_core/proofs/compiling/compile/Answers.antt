use Rattle.std.proofs.Common.{◌≡◌, ◌≤◌, map, length, None}
use Rattle.c_typed.specs.Chains.{graph_of}
use Rattle.c_typed.specs.Roots.{broken_root}
use Rattle.c_typed.specs.Views.{program_of}
use Rattle.call_graph.specs.Levels.{IsAcyclic}
use Rattle.headline.specs.SourceOf.{IsFaithfulTo}
use Rattle.pic_map.specs.MapText.{AreInRange}
use Rattle.pic_map.specs.MapView.{content_of, object_of, frame_of}
use Rattle.ram_place.specs.Placement.{addresses_covered}
use Rattle.picc_core.specs.Blocks.{HasWords}
use Rattle.picc_core.specs.Compiled.{IsPlaced, IsWithinDepth}
use Rattle.picc_core.specs.Decided.{IsAcceptedText}
use Rattle.picc_core.specs.Texts.{HasTree}
use Rattle.picc_core.specs.Typed.{IsTypedAs}
use Rattle.picc_core.proofs.Handed.{part_of}
use Rattle.picc_core.proofs.compiling.compile.Goals as goal

pub returns-clause-tree : goal.returns-clause-tree
returns-clause-tree c = part_of c.args.text.now (λ _. HasTree c.args.text.now) c.compiled.result c.compiled.ensures.whole (λ b is. is.tree)

pub returns-clause-typed : goal.returns-clause-typed
returns-clause-typed c = part_of c.args.text.now (λ b. IsTypedAs c.args.text.now (program_of b.typed)) c.compiled.result c.compiled.ensures.whole (λ b is. is.typed)

pub returns-clause-taken : goal.returns-clause-taken
returns-clause-taken c = part_of c.args.text.now (λ _. IsAcceptedText c.args.text.now) c.compiled.result c.compiled.ensures.whole (λ b is. is.taken)

pub returns-clause-roots : goal.returns-clause-roots
returns-clause-roots c = part_of c.args.text.now (λ b. broken_root (program_of b.typed) ≡ None) c.compiled.result c.compiled.ensures.whole (λ b is. is.roots)

pub returns-clause-recursion : goal.returns-clause-recursion
returns-clause-recursion c = part_of c.args.text.now (λ b. IsAcyclic (graph_of (program_of b.typed))) c.compiled.result c.compiled.ensures.whole (λ b is. is.recursion)

pub returns-clause-depth : goal.returns-clause-depth
returns-clause-depth c = part_of c.args.text.now (λ b. IsWithinDepth (program_of b.typed) b.depth) c.compiled.result c.compiled.ensures.whole (λ b is. is.depth)

pub returns-clause-map : goal.returns-clause-map
returns-clause-map c = part_of c.args.text.now (λ b. IsPlaced (program_of b.typed) (map object_of b.map.objects.items) (map frame_of b.map.frames.items)) c.compiled.result c.compiled.ensures.whole (λ b is. is.lines)

pub returns-clause-written : goal.returns-clause-written
returns-clause-written c = part_of c.args.text.now (λ b. AreInRange (content_of b.map)) c.compiled.result c.compiled.ensures.whole (λ b is. is.written)

pub returns-clause-words : goal.returns-clause-words
returns-clause-words c = part_of c.args.text.now (λ b. HasWords (program_of b.typed) b.words) c.compiled.result c.compiled.ensures.whole (λ b is. is.words)

pub returns-clause-few : goal.returns-clause-few
returns-clause-few c = part_of c.args.text.now (λ b. length b.map.objects.items ≤ 65536) c.compiled.result c.compiled.ensures.whole (λ b is. is.few)

pub returns-clause-faithful : goal.returns-clause-faithful
returns-clause-faithful c = part_of c.args.text.now (λ b. IsFaithfulTo (program_of b.typed) (content_of b.map) b.image) c.compiled.result c.compiled.ensures.whole (λ b is. is.faithful)

pub returns-clause-ram : goal.returns-clause-ram
returns-clause-ram c = part_of c.args.text.now (λ b. b.ram ≡ addresses_covered (map object_of b.map.objects.items) (map frame_of b.map.frames.items)) c.compiled.result c.compiled.ensures.whole (λ b is. is.ram)
