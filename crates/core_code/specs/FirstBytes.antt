-- What a byte of a static object begins as.
use Rattle.std.specs.Prelude.{true, false}
use Rattle.core_code.specs.Bytes as bytes
use Rattle.core_code.specs.Bytes.{Fixed, Held}
use Rattle.core_code.specs.declared.code.FirstByte.{FirstByte}
use Rattle.core_code.specs.declared.code.FirstByte.TheVariants.{Number, Low, High}

abbrev pub first_held : FirstByte → Held
first_held (Number n) = bytes.Number n
first_held (Low object) = bytes.Part (Fixed object) 0 false
first_held (High object) = bytes.Part (Fixed object) 0 true
