use Rattle.run_tests.proofs.agree_tests.answer.Goals as goal

pub agree-requires-clause-objects : goal.agree-requires-clause-objects
agree-requires-clause-objects c = c.requires.compiled.1.few

pub agree-requires-clause-roots : goal.agree-requires-clause-roots
agree-requires-clause-roots c = c.requires.compiled.1.roots

pub agree-requires-clause-acyclic : goal.agree-requires-clause-acyclic
agree-requires-clause-acyclic c = c.requires.compiled.1.recursion

pub agree-requires-clause-faithful : goal.agree-requires-clause-faithful
agree-requires-clause-faithful c = c.requires.compiled.1.faithful
