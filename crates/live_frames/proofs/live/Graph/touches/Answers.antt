use Rattle.std.proofs.Common.{◌≡◌, [], inl, inr, true, false, refl, sym, ap, ◌∙◌}
use Rattle.call_graph.specs.Rows.{rows_of}
use Rattle.call_graph.proofs.Ways.{reaches_by}
use Rattle.live_frames.specs.Memory.{is_taken}
use Rattle.live_frames.proofs.Connected.{only_back, true_false}
use Rattle.live_frames.proofs.live.Graph.touches.Goals as goal

pub returns-then-number-own : goal.returns-then-number-own
returns-then-number-own c = (λ _. inl ([], c.if-number-own.true), λ _. refl)

pub returns-then-is_marked : goal.returns-then-is_marked
returns-then-is_marked c =
    let marked = sym (ap (λ marks. is_taken marks c.args.number) c.deref.ensures.value) ∙ sym c.is_marked.ensures ∙ c.if-is_marked.true in
    (λ _. inr (reaches_by (rows_of c.args.self.now.rows.items) c.args.own c.args.number ((c.requires.known.forward c.args.number c.requires.within).0 marked)), λ _. refl)

pub returns : goal.returns
returns c =
    let graph = rows_of c.args.self.now.rows.items in
    let unmarked = sym (ap (λ marks. is_taken marks c.args.number) c.deref.ensures.value) ∙ sym c.is_marked.ensures ∙ c.if-is_marked.false in
    let told = c.is_marked-2.ensures ∙ ap (λ marks. is_taken marks c.args.number) c.deref-2.ensures.value in
    let known = c.requires.known.backward c.args.number c.requires.within in (
      λ marked. inl (reaches_by graph c.args.number c.args.own (known.0 (sym told ∙ marked))),
      λ one. (told ∙ known.1 (only_back graph c.args.own c.args.number c.if-number-own.false (λ leads. true_false (sym ((c.requires.known.forward c.args.number c.requires.within).1 leads) ∙ unmarked)) one)),
    )
