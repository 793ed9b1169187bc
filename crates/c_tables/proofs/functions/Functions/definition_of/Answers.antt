use Rattle.std.proofs.Common.{ℕ, Vec, Global, ◌∙◌}
use Rattle.c_tables.proofs.Names.{definition_found}
use Rattle.c_tables.proofs.functions.Functions.definition_of.Goals as goal

pub returns-in-Some : goal.returns-in-Some
returns-in-Some c =
    c.in-Some.ensures.index ∙ definition_found (λ (name : Vec ℕ Global). name.items) c.args.self.now.definitions.keys c.args.name.now

pub returns-in-None : goal.returns-in-None
returns-in-None c = c.in-None.ensures.index ∙ definition_found (λ (name : Vec ℕ Global). name.items) c.args.self.now.definitions.keys c.args.name.now
