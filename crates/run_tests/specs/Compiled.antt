-- What is known of the programs that are tested.
use Rattle.std.specs.Prelude.{ℕ, List}
use Rattle.picc_core.specs.Compiled.{IsCompiledTo}
use Rattle.picc_core.specs.declared.known.Built.{Built}

-- some text is compiled to this
abbrev pub IsCompiled : Built → Type 0
IsCompiled built = (text : List ℕ) × IsCompiledTo text built
