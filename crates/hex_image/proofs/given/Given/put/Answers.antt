use Rattle.std.proofs.Common.{slice_set, true, sym, subst}
use Rattle.hex_image.specs.Marks.{AreMarks}
use Rattle.hex_image.proofs.Marking.{marked}
use Rattle.hex_image.proofs.given.Given.put.Goals as goal

pub invariant_of-self-2 : goal.invariant_of-self-2
invariant_of-self-2 c =
    subst (λ items. AreMarks items (slice_set c.self.inside.marks.items c.args.address true)) (sym c.in_ok-push.ensures.items)
    (marked c.self.inside.bytes.items c.self.inside.marks.items c.args.address c.args.byte c.self.invariant c.requires)
