use Rattle.std.proofs.Common.{◌≡◌, ℕ, map, reverse, take, sym, ap, ◌∙◌, arith}
use Rattle.type_rules.specs.Names.{found_in}
use Rattle.c_tables.proofs.Sights.{bindings_of}
use Rattle.c_tables.proofs.scope.Scopes.find.Goals as goal

pub returns : goal.returns
returns c =
    let zero : c.loop-left.left ≡ 0 = omega (arith, c.loop-left-test.false) in
    c.builtin.ensures ∙ ap (λ (n : ℕ). found_in (reverse (map (λ m. bindings_of m.entries) (take n c.args.self.now.«open».items))) c.args.name.now) (sym zero) ∙ c.loop-left.invariant.1
