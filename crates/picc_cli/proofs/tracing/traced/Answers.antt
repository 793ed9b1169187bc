use Rattle.std.proofs.Common.{ℕ, ◌<◌, List, ◌∙◌, subst, arith}
use Rattle.std.specs.List.{All}
use Rattle.picc_cli.specs.CommandView.{asked_of}
use Rattle.picc_cli.proofs.TraceFiles.{run_known, refused_known}
use Rattle.picc_cli.proofs.TracedWhole.{traced_runs}
use Rattle.picc_cli.proofs.tracing.traced.Goals as goal

pub returns-in-Ok-front-clause-knows : goal.returns-in-Ok-front-clause-knows
returns-in-Ok-front-clause-knows g c =
    run_known (asked_of c.args.asked) _ _ _ c.run.result _ _ c.in-Ok.ensures.bytes c.in-Ok.ensures.same_contents c.in-Ok-script_in.ensures.found
    c.deref.ensures.value c.in-Ok-front.ensures.taken c.run.ensures.end

pub returns-clause-knows : goal.returns-clause-knows
returns-clause-knows g c =
    let tells = rw c.in-Err-Refused.field-0-is at c.in-Err-Refused.ensures.refused in
    refused_known (asked_of c.args.asked) _ _ _ _ c.in-Err-Refused.refusal _ _ c.in-Ok.ensures.bytes c.in-Ok.ensures.same_contents c.in-Ok-script_in.ensures.found
    c.deref.ensures.value tells c.in-Err-Refused.refusal-is

pub run-requires-clause-few : goal.run-requires-clause-few
run-requires-clause-few g c = let few = c.in-Ok-front.ensures.founded.few in omega (arith, few)

pub run-requires-clause-given : goal.run-requires-clause-given
run-requires-clause-given g c = record {
  proper = record { sound = c.in-Ok-front.known.typed.sound; roots = c.in-Ok-front.ensures.roots; numbers = c.see_numbers.ensures };
  acyclic = c.in-Ok-front.ensures.recursion;
  bytes = subst (λ (list : List ℕ). All (λ byte. byte < 256) list) c.deref-in-Ok-front.ensures.value c.see_bytes.ensures;
}

pub returns-in-Ok-front-clause-runs : goal.returns-in-Ok-front-clause-runs
returns-in-Ok-front-clause-runs g c =
    traced_runs (asked_of c.args.asked) _ _ _ _ _ _ _ _ _ _ _ _ c.run.result (c.in-Ok-script_in.ensures.same_printed ∙ c.in-Ok.ensures.same_printed) c.in-Ok.ensures.bytes c.in-Ok.ensures.same_contents c.in-Ok-script_in.ensures.found
    c.deref.ensures.value
    (record {
      tree = c.in-Ok-front.ensures.tree;
      typed = c.in-Ok-front.ensures.typed;
      sound = c.in-Ok-front.known.typed.sound;
      roots = c.in-Ok-front.ensures.roots;
      numbers = c.see_numbers.ensures;
      acyclic = c.in-Ok-front.ensures.recursion;
      are_copies = c.in-Ok-front.ensures.list;
      placed = c.in-Ok-front.ensures.exact;
    })
    c.run.ensures.ran c.run.ensures.end
