use Rattle.std.proofs.Common.{refl, sym, subst}
use Rattle.c_typed.specs.Views.{program_of}
use Rattle.pic_map.specs.MapView.{content_of}
use Rattle.run_compare.proofs.Searched.{looked_by}
use Rattle.run_compare.proofs.searching.Search.fault_before.Goals as goal
use Rattle.run_compare.specs.Searching.{MayBeRunBy}
use Rattle.src_memory.specs.Seen.{outside_by}

pub returns-then-moment-self-clause-found : goal.returns-then-moment-self-clause-found
returns-then-moment-self-clause-found c = λ copies g taken given l is h. h

pub returns-clause-found : goal.returns-clause-found
returns-clause-found c = λ copies g taken given l is h.
    let p = program_of c.args.program.now in
    let content = content_of c.args.map.now in
    let old = c.args.self.now in
    looked_by p copies content g c.args.off.now given taken c.args.moment l is old _ c.look-found.new.self c.length_before-events.result h refl refl refl refl c.if-moment-self.false c.length_before-events.ensures
    c.in_ok-run.run' c.look-found.result c.steps_at.result c.steps_at.ensures.value
    (c.in_ok-run.ensures (outside_by old.earlier) (subst (MayBeRunBy p content (outside_by old.earlier)) (sym c.take.ensures.value) h.known))
    c.look-found.ensures.looked c.look-found.ensures.goes
