use Rattle.std.proofs.Common.{refl, ap, ◌∙◌, arith}
use Rattle.pic_map.specs.MapView.{content_of}
use Rattle.pic_world.specs.declared.Root.TheVariants.{Main}
use Rattle.src_machine.proofs.Beginning.{begun}
use Rattle.src_machine.specs.declared.machine.Machine.{Machine}
use Rattle.src_rules.specs.Step.{copy_of}
use Rattle.src_values.specs.declared.control.Focus.TheVariants.{Past}
use Rattle.src_machine.proofs.machine.Machine.new.Goals as goal

pub returns : goal.returns
returns c = record {
  begins = λ s e given few.
      let old : Machine = record {
        program = c.args.program;
        copy = copy_of Main c.main_or_first-main.result;
        focus = Past;
        interrupted = Past;
        stack = c.try_reserve.new.self;
        memory = c.in_ok-memory.memory;
        world = c.new-2.result;
        handler = c.handler_in.result;
      } in
      begun s (content_of c.args.map.now) old c.begin_body.new.self given e few c.begin_body.ensures.others
      (ap (copy_of Main) c.main_or_first-main.ensures) refl (c.try_reserve.ensures.items ∙ c.new-stack.ensures.items) c.begin_body.ensures.waits c.in_ok-memory.ensures.memory c.in_ok-memory.ensures.shape
      (c.new-2.ensures s.outside) c.handler_in.ensures
      c.in_ok-room_for.field-0 (λ n. let h = c.in_ok-room_for.ensures.enough s e given.proper given.bytes given.acyclic n in omega arith) c.in_ok-try_reserve.ensures.ok c.begin_body.ensures.room;
}
