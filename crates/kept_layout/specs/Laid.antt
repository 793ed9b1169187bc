-- That objects and frames are whole and apart over the layout of kept objects, too.
use Rattle.std.specs.Prelude.{ℕ, Bool, List}
use Rattle.sym_code.specs.Layout.{DataLayout, IsLaidOut}
use Rattle.kept_layout.specs.KeptLayout.{kept_layout}

abbrev pub KeptIsLaidOut : Type 0
KeptIsLaidOut = (kept : List Bool) (reaches : ℕ → ℕ → Bool) (l : DataLayout) → IsLaidOut reaches l → IsLaidOut reaches (kept_layout kept l)
