use Rattle.c_typed.specs.Views.{program_of}
use Rattle.vol_opt.proofs.AllKept.{all_kept}
use Rattle.vol_opt.proofs.keeping.kept.Goals as goal

pub returns : goal.returns
returns c =
    all_kept (program_of c.args.p.now) c.in_ok-objects.objects.items c.mark_handlers.new.marks.items c.mark_addresses.new.marks.items c.mark_initial.new.marks.items
    c.in_ok-objects.ensures c.mark_handlers.ensures (rw c.deref-2.ensures.value at c.mark_addresses.ensures) (rw c.deref-3.ensures.value at c.mark_initial.ensures)
