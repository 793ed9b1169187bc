-- The order in which blocks stand behind the start block: the copies of main's root and then those of the handler's, within a root the
-- functions in order of definition, and the helpers behind them. What stands first has the lowest rank.
use Rattle.std.specs.Prelude.{ℕ, ◌+◌, ◌*◌, List, Option, Some, None, slice_get}
use Rattle.c_typed.specs.Chains.{number_of}
use Rattle.call_graph.specs.Copies.{root_place}
use Rattle.call_graph.specs.declared.types.FnCopy.{FnCopy}
use Rattle.sym_code.specs.declared.code.BlockName.{BlockName}
use Rattle.sym_code.specs.declared.code.BlockName.TheVariants.{Start, Copy}
use Rattle.sym_code.specs.declared.code.SymBlock.{SymBlock}

-- within a root a number, as in a program of 2^28 functions, which are the most
abbrev pub rank : FnCopy → ℕ
rank copy = 0x200000000 * root_place copy.root + number_of 0x10000000 copy.function

-- the rank of the block of a name
abbrev pub rank_or_none : Option FnCopy → ℕ
rank_or_none None = 0
rank_or_none (Some copy) = rank copy

abbrev pub name_rank : List FnCopy → BlockName → ℕ
name_rank copies Start = 0
name_rank copies (Copy number) = rank_or_none (slice_get copies number)

abbrev pub block_rank : List FnCopy → SymBlock → ℕ
block_rank copies block = name_rank copies block.name
