use Rattle.isr_save.proofs.Words.{few_words}
use Rattle.isr_save.proofs.start.start_block.Goals as goal

pub returns-clause-words : goal.returns-clause-words
returns-clause-words c = few_words _ _ _ _ c.deref.ensures.value c.in_ok-block.ensures.exact
