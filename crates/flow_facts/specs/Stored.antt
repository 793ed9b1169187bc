-- Flow facts as the code keeps them: for each copy, by its number, what is known at the front of its block, at its labels and where it returns,
-- and the blocks that stand for those of its page. Of the start block, and of what isn't listed, nothing is known, and it stands for itself.
use Rattle.std.specs.Prelude.{ℕ, List, Option, Some, None, slice_get}
use Rattle.sym_code.specs.declared.code.BlockName.{BlockName}
use Rattle.sym_code.specs.declared.code.BlockName.TheVariants as names
use Rattle.sym_code.specs.declared.code.PageBit.{PageBit}
use Rattle.sym_code.specs.declared.code.PageBit.TheVariants.{Low, High}
use Rattle.bank_page.specs.Known.{nothing}
use Rattle.flow_facts.specs.Facts.{Fact, Facts}
use Rattle.flow_facts.specs.declared.facts.BlockFacts.{BlockFacts}
use Rattle.flow_facts.specs.declared.facts.FlowFacts.{FlowFacts}

abbrev pub listed : Option Fact → Fact
listed None = Some nothing
listed (Some fact) = fact

abbrev pub front_of : Option BlockFacts → Fact
front_of None = Some nothing
front_of (Some facts) = facts.front

abbrev pub back_of : Option BlockFacts → Fact
back_of None = Some nothing
back_of (Some facts) = facts.back

abbrev pub label_of : Option BlockFacts → ℕ → Fact
label_of None number = Some nothing
label_of (Some facts) number = listed (slice_get facts.labels.items number)

abbrev pub of_block : FlowFacts → BlockName → Option BlockFacts
of_block facts names.Start = None
of_block facts (names.Copy copy) = slice_get facts.copies.items copy

abbrev pub mates_of : FlowFacts → PageBit → List BlockName
mates_of facts Low = facts.low.items
mates_of facts High = facts.high.items

abbrev pub mate_or : Option BlockName → BlockName → BlockName
mate_or None name = name
mate_or (Some mate) name = mate

abbrev pub mate_of : FlowFacts → PageBit → BlockName → BlockName
mate_of facts bit names.Start = names.Start
mate_of facts bit (names.Copy copy) = mate_or (slice_get (mates_of facts bit) copy) (names.Copy copy)

abbrev pub facts_of : FlowFacts → Facts
facts_of facts = record {
  front = λ name. front_of (of_block facts name);
  label = λ name number. label_of (of_block facts name) number;
  back = λ name. back_of (of_block facts name);
  mate = λ bit name. mate_of facts bit name;
}
