use Rattle.picc_cli.proofs.building.compiled.Goals as goal

pub returns-in-Pic16F877a-clause-whole : goal.returns-in-Pic16F877a-clause-whole
returns-in-Pic16F877a-clause-whole c = rw c.in-Pic16F877a.is c.compiled_first.ensures.whole

pub returns-in-Pic16F877a-clause-made : goal.returns-in-Pic16F877a-clause-made
returns-in-Pic16F877a-clause-made c = rw c.in-Pic16F877a.is c.compiled_first.ensures.made

pub returns-in-Pic16F877a-clause-why : goal.returns-in-Pic16F877a-clause-why
returns-in-Pic16F877a-clause-why c = rw c.in-Pic16F877a.is c.compiled_first.ensures.why

pub returns-in-Pic16F84a-clause-whole : goal.returns-in-Pic16F84a-clause-whole
returns-in-Pic16F84a-clause-whole c = rw c.in-Pic16F84a.is c.compiled_second.ensures.whole

pub returns-in-Pic16F84a-clause-made : goal.returns-in-Pic16F84a-clause-made
returns-in-Pic16F84a-clause-made c = rw c.in-Pic16F84a.is c.compiled_second.ensures.made

pub returns-in-Pic16F84a-clause-why : goal.returns-in-Pic16F84a-clause-why
returns-in-Pic16F84a-clause-why c = rw c.in-Pic16F84a.is c.compiled_second.ensures.why
