use Rattle.std.proofs.Common.{ℕ, ◌<◌, length, slice_index, sym, ap, subst, arith}
use Rattle.std.specs.List.{All}
use Rattle.c_typed.specs.Views.{program_of}
use Rattle.pic_map.specs.MapView.{content_of}
use Rattle.run_compare.proofs.Arrived.{come_by, off_few}
use Rattle.run_compare.proofs.Telling.{agreed_of, exact, read_is}
use Rattle.run_compare.proofs.comparing.agree.Goals as goal
use Rattle.run_compare.specs.Agreement.{Tells}
use Rattle.run_compare.specs.Searching.{ComeBy}
use Rattle.schedule.specs.Off.{last_free}
use Rattle.schedule.specs.Watching.{run_of, traces}

pub first_fault-requires-clause-moments : goal.first_fault-requires-clause-moments
first_fault-requires-clause-moments c = let m = c.in_ok-off.ensures.moment in let n = c.requires.moments in omega (arith, m, n)

pub first_fault-requires-clause-lengths : goal.first_fault-requires-clause-lengths
first_fault-requires-clause-lengths c =
    let g = run_of c.args.image.now c.args.map.now c.args.script.now in
    let e = ap length c.in_ok-off.ensures.lengths in
    let f = off_few (traces g) c.in_ok-off.off.moment c.args.script.now.arrivals.items in
    omega (arith, e, f)

pub first_fault-requires-clause-early : goal.first_fault-requires-clause-early
first_fault-requires-clause-early c =
    let g = run_of c.args.image.now c.args.map.now c.args.script.now in
    subst (λ xs. ComeBy c.args.script.now.arrivals.items (length xs) c.in_ok-off.off.moment) (sym c.in_ok-off.ensures.lengths) (come_by (traces g) c.in_ok-off.off.moment c.args.script.now.arrivals.items c.args.script.now.rising)

pub returns-clause-exact : goal.returns-clause-exact
returns-clause-exact c = λ copies.
    let p = program_of c.args.program.now in
    let content = content_of c.args.map.now in
    let g = run_of c.args.image.now c.args.map.now c.args.script.now in
    let off = c.in_ok-off.off in
    let o = c.in_ok-off.ensures in
    let faithful = c.requires.faithful in
    let given =
    read_is c.args.program.now c.args.image.now c.args.map.now c.args.script.now off c.requires.roots c.requires.acyclic c.see_numbers.ensures faithful c.requires.objects
    (subst (All (λ byte. byte < 256)) c.deref.ensures.value c.see_bytes.ensures.all) o.events o.runs o.before o.lengths o.input in
    subst (λ f. Tells p copies content g (last_free g c.args.n) (agreed_of f off.events)) c.in-None.is
    (exact p c.args.image.now c.args.map.now c.args.script.now off faithful (subst (λ xs. (k : ℕ) → slice_index xs k < 256) c.deref.ensures.value c.see_bytes.ensures.each) given (last_free g c.args.n) _ o.last c.in_ok-found.ensures copies)

pub returns-in-Some-clause-exact : goal.returns-in-Some-clause-exact
returns-in-Some-clause-exact c = λ copies.
    let p = program_of c.args.program.now in
    let content = content_of c.args.map.now in
    let g = run_of c.args.image.now c.args.map.now c.args.script.now in
    let off = c.in_ok-off.off in
    let o = c.in_ok-off.ensures in
    let faithful = c.requires.faithful in
    let given =
    read_is c.args.program.now c.args.image.now c.args.map.now c.args.script.now off c.requires.roots c.requires.acyclic c.see_numbers.ensures faithful c.requires.objects
    (subst (All (λ byte. byte < 256)) c.deref.ensures.value c.see_bytes.ensures.all) o.events o.runs o.before o.lengths o.input in
    subst (λ f. Tells p copies content g (last_free g c.args.n) (agreed_of f off.events)) c.in-Some.is
    (exact p c.args.image.now c.args.map.now c.args.script.now off faithful (subst (λ xs. (k : ℕ) → slice_index xs k < 256) c.deref.ensures.value c.see_bytes.ensures.each) given (last_free g c.args.n) _ o.last c.in_ok-found.ensures copies)
