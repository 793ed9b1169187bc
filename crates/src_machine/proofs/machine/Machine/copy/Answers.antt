use Rattle.std.proofs.Common.{refl, ◌∙◌, arith}
use Rattle.std.proofs.lemmas.List.Elements.{same_from_all_zip}
use Rattle.src_machine.proofs.machine.Machine.copy.Goals as goal

pub returns : goal.returns
returns c = record {
  copies = record {
    program = refl;
    copy = refl;
    focus = refl;
    interrupted = refl;
    items = c.try_reserve.ensures.items ∙ same_from_all_zip _ c.args.self.now.stack.items c.in_ok-stack.stack.items c.in_ok-stack.ensures.cases.0 (λ x y e. e);
    room = omega (arith, c.in_ok-try_reserve.ensures.ok, c.try_reserve.ensures.len, c.in_ok-stack.ensures.cases.1, c.capacity.ensures, c.len.ensures, c.args.self.now.stack.ok);
    memory = c.in_ok-clone.ensures.cases;
    world = refl;
    handler = refl;
  };
}
