-- What the start block keeps.
use Rattle.std.proofs.Common.{◌≡◌, ℕ, List, Option, sym, subst}
use Rattle.pic_chip.specs.Run as chip
use Rattle.pic_chip.specs.Run.{IsStart}
use Rattle.pic_map.specs.declared.Placed.{Placed}
use Rattle.sym_code.specs.Effect.{Setting}
use Rattle.sym_code.specs.declared.code.SymBlock.{SymBlock}
use Rattle.chip_trace.specs.Arriving.{IsAssembled, IsStarted}
use Rattle.chip_trace.proofs.Moments.{inputs_small}
use Rattle.chip_trace.proofs.Placing.{G}
use Rattle.chip_trace.specs.Starting.{held_in, IsBeginning, Starting}
use Rattle.chip_trace.proofs.StartWhole.{started}

-- a setting is made of what is known of it
setting_is : (blocks : List SymBlock) (at : List ℕ) (placed : Placed) (handler : Option ℕ) (c : chip.Setting) (g : Setting) → IsAssembled blocks at placed handler c.image c.watch g → G blocks at placed handler c.image c.watch g.limit ≡ g
setting_is blocks at placed handler c g a = λ i. record { program = sym a.code i; banked = sym a.banked i; page_of = sym a.pages i; limit = g.limit; leaves = sym a.leaves i }

pub starting : Starting
starting blocks at placed handler statics g c a b start inputs =
    subst (λ s. IsAssembled blocks at placed handler c.image c.watch s → IsBeginning blocks placed handler statics s → IsStarted s (held_in statics) c) (setting_is blocks at placed handler c g a)
    (λ a' b'. started blocks at placed handler g.limit c start (inputs_small c.inputs inputs) a' statics b') a b
