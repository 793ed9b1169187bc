use Rattle.std.proofs.Common.{refl, ◌∙◌, sym, ap, arith}
use Rattle.c_typed.specs.Views.{program_of}
use Rattle.pic_map.specs.MapView.{content_of}
use Rattle.run_compare.proofs.Searched.{all_answers, answered, few_more, goes_on, rising_more, taken_more}
use Rattle.run_compare.proofs.searching.first_fault.Goals as goal

pub loop-number-init : goal.loop-number-init
loop-number-init c = record {
  earlier = c.in_ok-search.ensures.earlier;
  few = let e = c.in_ok-search.ensures.moments in omega (arith, e);
  searched = λ copies g same given. c.in_ok-search.ensures.begins (program_of c.args.program.now) copies (content_of c.args.map.now) g given;
}

pub fault_before-requires : goal.fault_before-requires
fault_before-requires c =
    let l = c.loop-number-test.true in
    let n = c.len-number-end.ensures in
    let e = ap (λ a. a.t) c.index.ensures in
    let f = c.requires.early c.loop-number.number c.index.result.now (omega (arith, l, n)) in
    let m = c.requires.moments in
    omega (arith, e, f, m)

pub returns-then-is_some : goal.returns-then-is_some
returns-then-is_some c =
    let l = c.loop-number-test.true in
    let n = c.len-number-end.ensures in
    answered (program_of c.args.program.now) (content_of c.args.map.now) c.args.script.now.arrivals.items c.args.off.now c.loop-number.number (omega (arith, l, n)) c.index.result.now c.index.ensures
    c.loop-number.search c.fault_before.new.self c.in_ok-found.found c.loop-number.invariant.searched c.in_ok-found.ensures.found (sym c.is_some.ensures ∙ c.if-is_some.true)

pub take-requires-clause-rising : goal.take-requires-clause-rising
take-requires-clause-rising c =
    let l = c.loop-number-test.true in
    let n = c.len-number-end.ensures in
    rising_more c.args.off.now.by_length.arrivals.items c.loop-number.number c.index-in-loop-number.result.now c.fault_before.new.self.earlier c.loop-number.search.earlier c.fault_before.ensures.earlier
    c.loop-number.invariant.earlier c.index-in-loop-number.ensures (omega (arith, l, n)) c.args.off.now.by_length.rising

pub take-requires-clause-room : goal.take-requires-clause-room
take-requires-clause-room c =
    let l = c.loop-number-test.true in
    let e = c.fault_before.ensures.moments in
    let f = c.loop-number.invariant.few in
    let n = c.len-number-end.ensures in
    let r = c.args.off.now.by_length.arrivals.ok in
    omega (arith, l, e, f, n, r)

pub loop-number-preserved : goal.loop-number-preserved
loop-number-preserved c =
    let l = c.loop-number-test.true in
    let n = c.len-number-end.ensures in
    let h = c.loop-number.invariant in
    let e = c.fault_before.ensures.moments in
    let f = h.few in record {
      earlier = c.in_ok-take.ensures.earlier ∙ taken_more c.args.off.now.by_length.arrivals.items c.loop-number.number c.index-in-loop-number.result.now c.fault_before.new.self.earlier c.loop-number.search.earlier c.fault_before.ensures.earlier
          h.earlier c.index-in-loop-number.ensures (omega (arith, l, n));
      few = few_more _ _ c.fault_before.new.self.moments c.loop-number.number c.in_ok-take.ensures.moments (omega (arith, e, f));
      searched =
          goes_on (program_of c.args.program.now) (content_of c.args.map.now) c.args.script.now.arrivals.items c.args.off.now c.loop-number.number (omega (arith, l, n)) c.index.result.now c.index.ensures
          c.loop-number.search c.fault_before.new.self c.in_ok-found.found h.searched c.in_ok-found.ensures.found c.take.new.self c.index-in-loop-number.result.now _ (sym c.is_some.ensures ∙ c.if-is_some.false) c.in_ok-found.ensures.seen
          c.index-in-loop-number.ensures refl c.in_ok-take.ensures.earlier c.take.ensures.input c.in_ok-take.ensures.known c.take.ensures.seen c.in_ok-take.ensures.moments;
    }

pub returns : goal.returns
returns c =
    let over = c.loop-number-test.false in
    let most = c.loop-number.auto.number-end in
    let n = c.len-number-end.ensures in
    all_answers (program_of c.args.program.now) (content_of c.args.map.now) c.args.script.now.arrivals.items c.args.off.now c.loop-number.search c.loop-number.number c.fault_in_run.result
    c.loop-number.invariant.searched (omega (arith, over, most, n)) c.fault_in_run.ensures
