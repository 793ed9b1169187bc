use Rattle.std.proofs.Common.{◌%◌, sym, ap, ◌∙◌}
use Rattle.c_ints.specs.declared.types.IntTy.TheVariants as int
use Rattle.type_rules.specs.Places as rule
use Rattle.type_rules.specs.Terms.{number_of_type}
use Rattle.c_tables.specs.Tables.{types_in}
use Rattle.c_terms.specs.Terms.{term_of}
use Rattle.c_operate.proofs.PlaceSteps.{has_size, valued_as}
use Rattle.c_terms.proofs.Refusing.{made}
use Rattle.c_operate.proofs.places.size_of_type.Goals as goal

pub returns : goal.returns
returns c = λ known.
    let here = types_in c.args.types.now known in
    made term_of (rule.size_of_type c.args.ty c.args.line here) c.value_term.result _ here
    (has_size c.args.ty c.args.line here (sym (c.if-not-is_complete.ensures known)))
    (valued_as _ _ _ c.args.line c.value_term.ensures (c.constant-value.ensures ∙ ap (λ n. number_of_type int.UInt n c.args.line) (c.as_unsigned_int.ensures ∙ ap (λ n. n % 65536) (c.bytes_of.ensures known))))
