-- That the definitions of what is kept miss nothing.
use Rattle.std.specs.Prelude.{◌≡◌, ◌↔◌, ℕ, true, Some}
use Rattle.c_typed.specs.Chains.{graph_of, Reaches}
use Rattle.c_typed.specs.Trees.{Program}
use Rattle.c_typed.specs.declared.types.Qualified.{Qualified}
use Rattle.call_graph.specs.Copies.{root_of}
use Rattle.pic_world.specs.declared.Root.TheVariants.{Isr}
use Rattle.vol_opt.specs.Kept.{is_volatile_within, is_volatile, is_handlers}

-- A volatile part at any depth is one within the levels that are looked at.
abbrev pub AnyDepthCounts : Type 0
AnyDepthCounts = (p : Program) (q : Qualified) (n : ℕ) → is_volatile_within p n q ≡ true → is_volatile p q ≡ true

-- A function is the handler's exactly where some chain of calls leads from the handler to it.
abbrev pub AnyChainCounts : Type 0
AnyChainCounts = (p : Program) (handler number : ℕ) → root_of p Isr ≡ Some handler → (is_handlers p number ≡ true) ↔ Reaches (graph_of p) handler number
