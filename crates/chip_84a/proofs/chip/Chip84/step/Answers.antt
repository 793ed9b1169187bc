use Rattle.std.proofs.Common.{ℕ, List, ap, ◌∙◌, sym, slice_index}
use Rattle.pic_chip.specs.Act.{perform, accesses}
use Rattle.chip_84a.specs.Machine.{execute, begun, wanted}
use Rattle.pic_world.specs.Arrivals.{arriving}
use Rattle.pic_chip.specs.Machine.{Machine, feeds_each}
use Rattle.chip_84a.proofs.chip.Chip84.step.Goals as goal

pub returns-clause-state : goal.returns-clause-state
returns-clause-state c =
    let inputs = c.args.script.now.input.items in
    let arrivals = c.args.script.now.arrivals.items in
    let old = c.args.self.now in
    let m = c.begin-2.new.self in
    let mask = c.mask_at.ensures.value ∙ ap (λ (x : Machine). arriving arrivals x.index) c.begin.view_is in
    let at = c.begin-2.ensures.state ∙ ap (λ (k : ℕ). begun k old.state) mask in
    let taken = c.taken.ensures ∙ ap (λ (x : Machine). x.state.taken) c.self.view_is in
    let e = sym (c.input_at-input.ensures ∙ ap (λ (xs : List ℕ). slice_index xs c.taken.result) c.deref.ensures.value ∙ ap (slice_index inputs) taken) in
    c.exec.ensures.state inputs (feeds_each inputs m.state.taken c.input_at-input.result e (wanted (accesses (execute c.args.image.now inputs) m.state)))
    ∙ ap (perform (execute c.args.image.now inputs)) at

pub returns-clause-accesses : goal.returns-clause-accesses
returns-clause-accesses c =
    let inputs = c.args.script.now.input.items in
    let arrivals = c.args.script.now.arrivals.items in
    let old = c.args.self.now in
    let m = c.begin-2.new.self in
    let mask = c.mask_at.ensures.value ∙ ap (λ (x : Machine). arriving arrivals x.index) c.begin.view_is in
    let at = c.begin-2.ensures.state ∙ ap (λ (k : ℕ). begun k old.state) mask in
    let taken = c.taken.ensures ∙ ap (λ (x : Machine). x.state.taken) c.self.view_is in
    let e = sym (c.input_at-input.ensures ∙ ap (λ (xs : List ℕ). slice_index xs c.taken.result) c.deref.ensures.value ∙ ap (slice_index inputs) taken) in
    c.exec.ensures.accesses inputs (feeds_each inputs m.state.taken c.input_at-input.result e (wanted (accesses (execute c.args.image.now inputs) m.state)))
    ∙ ap (accesses (execute c.args.image.now inputs)) at
