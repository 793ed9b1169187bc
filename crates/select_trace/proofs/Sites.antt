-- What is given, as one: a program of byte code, one of symbolic code that was selected for it, and what comes from outside.
use Rattle.std.proofs.Common.{ℕ, ◌<◌, Bool, List}
use Rattle.std.specs.List.{All}
use Rattle.pic_world.specs.World.{Outside, World, world_as}
use Rattle.call_graph.specs.declared.types.FnCopy.{FnCopy}
use Rattle.core_code.specs.Bytes.{Held, Object}
use Rattle.core_code.specs.Machine as core
use Rattle.core_code.specs.declared.code.Body.{Body}
use Rattle.sym_code.specs.Correct.{AreEntries}
use Rattle.sym_code.specs.Effect.{Setting}
use Rattle.sym_code.specs.Layout.{DataLayout, shown}
use Rattle.sym_code.specs.Machine.{Entry}
use Rattle.sym_code.specs.declared.code.BlockName.{BlockName}
use Rattle.select_wide.specs.Links.{IsSelected, AreShown}

pub record Site : Type 0 where
  pub q : core.Program
  pub copies : List FnCopy
  pub bodies : List Body
  pub reaches : ℕ → ℕ → Bool
  pub g : Setting
  pub price : BlockName → ℕ → ℕ
  pub sure : BlockName → ℕ → ℕ
  pub chosen : IsSelected q copies bodies reaches g price sure
  pub e : Entry
  pub o : Outside
  pub entries : AreEntries e
  pub input : All (λ byte. byte < 256) o.input
  -- the objects to which pointers may lead, and the general bytes to which none does
  pub lent : Object → Bool
  pub hidden : ℕ → Bool
  pub shows : AreShown g.program.layout lent hidden

abbrev pub core_of : Site → core.Setting
core_of s = record { program = s.q; outside = s.o }

abbrev pub layout : Site → DataLayout
layout s = s.g.program.layout

-- the world of byte code as symbolic code shows it
abbrev pub show : Site → World Held → World ℕ
show s w = world_as (shown (layout s)) w
