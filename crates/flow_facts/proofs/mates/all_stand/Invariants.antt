use Rattle.std.proofs.Common.{◌≡◌, length}
use Rattle.code_place.specs.Layouts.{page_of}
use Rattle.flow_facts.specs.Mates.{all_stand}
use Rattle.flow_facts.proofs.mates.all_stand.Given as goal

abbrev pub invariant-loop-mate : goal.invariant-loop-mate
invariant-loop-mate l = all_stand (page_of l.blocks l.at) l.bit l.copy l.left ≡ all_stand (page_of l.blocks l.at) l.bit 0 l.mates

abbrev pub decreases-loop-mate : goal.decreases-loop-mate
decreases-loop-mate l = length l.left
