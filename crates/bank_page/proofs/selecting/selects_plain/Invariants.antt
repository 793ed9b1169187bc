use Rattle.bank_page.proofs.Programs.{Blocks}
use Rattle.bank_page.proofs.selecting.selects_plain.Given as goal

abbrev pub invariant-loop-block : goal.invariant-loop-block
invariant-loop-block l = Blocks l.placed l.s.blocks.items l.block-index l.blocks.items
