use Rattle.std.proofs.Common.{◌≡◌, ◌+◌, ◌<◌, ◌≤◌, ℕ, length, arith}
use Rattle.std.specs.Global.{Global}
use Rattle.std.specs.declared.vec.Vec.{Vec}
use Rattle.std.proofs.lemmas.Bool.Decides.{nat_tests}
use Rattle.std.proofs.lemmas.List.{length-map}
use Rattle.call_graph.specs.Rows.{rows_of}
use Rattle.call_graph.proofs.Rising.{knows_bound}
use Rattle.call_graph.proofs.Turns.{turn_first, turn_next, turn_levels, turn_longest, turn_size}
use Rattle.call_graph.proofs.levels.levels_from.Goals as goal

pub waves-init : goal.waves-init
waves-init c = turn_first c.args.rows.now c.args.root c.in_ok-levels.levels.len c.in_ok-levels.levels.items c.deref_mut.result.now c.raise.new.levels c.deref.result.now c.in_ok-wave.wave.items c.in_ok-levels.ensures c.deref_mut.ensures.value (omega arith) c.requires.within c.raise.ensures c.deref.ensures.value c.in_ok-wave.ensures

pub overflow_add-next : goal.overflow_add-next
overflow_add-next c =
    let b = knows_bound (rows_of c.args.rows.now) c.args.root c.waves.longest c.waves.levels.items c.waves.wave.items c.requires.acyclic c.waves.invariant in
    let count = length-map c.args.rows.now (λ (v : Vec ℕ Global). v.items) in
    omega (arith, b, count)

pub returns-then-is_empty : goal.returns-then-is_empty
returns-then-is_empty c =
    let none : length c.in_ok-wave-2.wave.items ≡ 0 = grind (arith, nat_tests) in
    let count = length-map c.args.rows.now (λ (v : Vec ℕ Global). v.items) in
    let b = knows_bound (rows_of c.args.rows.now) c.args.root c.waves.longest c.waves.levels.items c.waves.wave.items c.requires.acyclic c.waves.invariant in
    record {
      size = turn_size (rows_of c.args.rows.now) c.args.root c.waves.longest c.waves.levels.len c.waves.levels.items c.deref_mut-in-waves.result.now c.raise_callees.new.levels c.deref-in-waves-2.result.now c.waves.wave.items c.deref-in-waves.result.now c.in_ok-wave-2.wave.items c.deref_mut-in-waves.ensures.value (omega arith) c.deref-in-waves.ensures.value c.raise_callees.ensures c.deref-in-waves-2.ensures.value c.in_ok-wave-2.ensures c.waves.invariant none;
      levels = turn_levels (rows_of c.args.rows.now) c.args.root c.waves.longest c.waves.levels.len c.waves.levels.items c.deref_mut-in-waves.result.now c.raise_callees.new.levels c.deref-in-waves-2.result.now c.waves.wave.items c.deref-in-waves.result.now c.in_ok-wave-2.wave.items c.deref_mut-in-waves.ensures.value (omega arith) c.deref-in-waves.ensures.value c.raise_callees.ensures c.deref-in-waves-2.ensures.value c.in_ok-wave-2.ensures c.waves.invariant none;
      longest = turn_longest (rows_of c.args.rows.now) c.args.root c.waves.longest c.waves.levels.len c.waves.levels.items c.deref_mut-in-waves.result.now c.raise_callees.new.levels c.deref-in-waves-2.result.now c.waves.wave.items c.deref-in-waves.result.now c.in_ok-wave-2.wave.items c.deref_mut-in-waves.ensures.value (omega arith) c.deref-in-waves.ensures.value c.raise_callees.ensures c.deref-in-waves-2.ensures.value c.in_ok-wave-2.ensures c.waves.invariant none;
      bound = b;
    }

pub waves-preserved : goal.waves-preserved
waves-preserved c =
    let many : 0 < length c.in_ok-wave-2.wave.items = grind (arith, nat_tests) in
    turn_next (rows_of c.args.rows.now) c.args.root c.waves.longest c.waves.levels.len c.waves.levels.items c.deref_mut-in-waves.result.now c.raise_callees.new.levels c.deref-in-waves-2.result.now c.waves.wave.items c.deref-in-waves.result.now c.in_ok-wave-2.wave.items c.deref_mut-in-waves.ensures.value (omega arith) c.deref-in-waves.ensures.value c.raise_callees.ensures c.deref-in-waves-2.ensures.value c.in_ok-wave-2.ensures c.waves.invariant many

pub waves-smaller : goal.waves-smaller
waves-smaller c =
    let many : 0 < length c.in_ok-wave-2.wave.items = grind (arith, nat_tests) in
    let known = turn_next (rows_of c.args.rows.now) c.args.root c.waves.longest c.waves.levels.len c.waves.levels.items c.deref_mut-in-waves.result.now c.raise_callees.new.levels c.deref-in-waves-2.result.now c.waves.wave.items c.deref-in-waves.result.now c.in_ok-wave-2.wave.items c.deref_mut-in-waves.ensures.value (omega arith) c.deref-in-waves.ensures.value c.raise_callees.ensures c.deref-in-waves-2.ensures.value c.in_ok-wave-2.ensures c.waves.invariant many in
    let b : c.waves.longest + 1 ≤ length (rows_of c.args.rows.now) = knows_bound (rows_of c.args.rows.now) c.args.root (c.waves.longest + 1) _ c.in_ok-wave-2.wave.items c.requires.acyclic known in
    let count = length-map c.args.rows.now (λ (v : Vec ℕ Global). v.items) in
    omega (arith, b, count)
