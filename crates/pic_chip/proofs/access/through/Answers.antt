use Rattle.std.proofs.Common.{◌≡◌, true, false, List, ◌++◌, ap, ◌∙◌, sym}
use Rattle.pic_chip.specs.Act.{made, Made}
use Rattle.pic_chip.specs.Instructions.{note_by, write_note_by}
use Rattle.pic_chip.specs.Profiles.{rule_of}
use Rattle.pic_chip.specs.Named.{named}
use Rattle.pic_chip.specs.Seen.{made_by}
use Rattle.pic_chip.proofs.Done.{made-append}
use Rattle.pic_chip.proofs.access.through.Goals as goal

pub returns-then-d : goal.returns-then-d
returns-then-d c = λ s v u ev eu.
    rw c.if-d.true
    (ap (λ (xs : List Made). xs ++ made_by true c.access_to-then-d.result) (c.access_to.ensures false s v ev)
    ∙ ap (λ (ys : List Made). made (note_by (rule_of c.args.profile).lowest false (named c.args.place) v) s ++ ys) (c.access_to-then-d.ensures true s u eu)
    ∙ sym (made-append (note_by (rule_of c.args.profile).lowest false (named c.args.place) v) (note_by (rule_of c.args.profile).lowest true (named c.args.place) u) s))
