use Rattle.std.proofs.Common.{Bool, not, ◌∷◌, [], map, slice_get, sym, ap, ◌∙◌}
use Rattle.type_rules.specs.Declarations.{is_same}
use Rattle.type_rules.specs.Faults as kind
use Rattle.type_rules.specs.Known.{tried}
use Rattle.c_tables.specs.Tables.{signature_of}
use Rattle.c_tables.proofs.Sights.{refused_once}
use Rattle.c_tables.proofs.functions.Functions.refuse_other.Goals as goal

pub returns-then-is_same : goal.returns-then-is_same
returns-then-is_same c = λ known. ap (λ (b : Bool). tried ((not b, kind.Again) ∷ []) c.args.line known) (sym c.is_same.ensures ∙ c.if-is_same.true)

pub returns-else-is_same : goal.returns-else-is_same
returns-else-is_same c = λ known.
    refused_once c.refused.result c.args.line (is_same (slice_get (map signature_of c.args.self.now.declared.items) c.args.function) c.args.returns c.args.params.now c.args.defines) known
    c.refused.ensures (sym c.is_same.ensures ∙ c.if-is_same.false)
