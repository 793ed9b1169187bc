use Rattle.program_laws.proofs.Marked.{tokens_words}
use Rattle.program_laws.proofs.token_words.tokens_are_words.Goals as goal

pub returns : goal.returns
returns c = record { words = tokens_words }
