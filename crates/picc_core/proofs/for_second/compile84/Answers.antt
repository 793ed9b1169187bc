use Rattle.std.proofs.Common.{map}
use Rattle.c_typed.specs.Views.{program_of}
use Rattle.headline.specs.SourceOf.{source_of, IsFaithfulAs}
use Rattle.headline_84a.specs.OnSecondChip.{pic16f84a}
use Rattle.pic_map.specs.MapView.{content_of, object_of, frame_of}
use Rattle.picc_core.specs.Decided.{IsAcceptedBy}
use Rattle.picc_core.specs.SecondChip.{AreAcceptedSecond, HasFewWords, IsPlacedLow}
use Rattle.picc_core.proofs.Seconds.{part_of}
use Rattle.picc_core.proofs.for_second.compile84.Goals as goal

pub returns-clause-taken : goal.returns-clause-taken
returns-clause-taken c = part_of c.args.text.now (λ _. IsAcceptedBy AreAcceptedSecond c.args.text.now) c.compiled84.result c.compiled84.ensures.whole (λ b is. is.taken)

pub returns-clause-map : goal.returns-clause-map
returns-clause-map c = part_of c.args.text.now (λ b. IsPlacedLow (program_of b.typed) (map object_of b.map.objects.items) (map frame_of b.map.frames.items)) c.compiled84.result c.compiled84.ensures.whole (λ b is. is.lines)

pub returns-clause-words : goal.returns-clause-words
returns-clause-words c = part_of c.args.text.now (λ b. HasFewWords (program_of b.typed) b.words) c.compiled84.result c.compiled84.ensures.whole (λ b is. is.words)

pub returns-clause-faithful : goal.returns-clause-faithful
returns-clause-faithful c =
    part_of c.args.text.now (λ b. IsFaithfulAs pic16f84a source_of (program_of b.typed) (content_of b.map) b.image) c.compiled84.result c.compiled84.ensures.whole (λ b is. is.faithful)
