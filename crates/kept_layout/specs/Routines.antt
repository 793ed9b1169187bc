-- The routines of helpers name bytes of their own frames and results alone.
use Rattle.std.specs.Prelude.{◌≡◌, ℕ, ◌<◌, ◌≤◌, Bool, true, List, length}
use Rattle.std.specs.List.{list_all}
use Rattle.c_typed.specs.declared.calls.Helper.{Helper}
use Rattle.math_helpers.specs.Routines.{helper_code}
use Rattle.math_helpers.specs.Shape.{frame_size}
use Rattle.pic_world.specs.declared.Root.{Root}
use Rattle.sym_code.specs.Layout.{DataLayout, frame}
use Rattle.sym_code.specs.declared.code.BlockName.{BlockName}
use Rattle.kept_layout.specs.NamedCode.{operand_named}
use Rattle.kept_layout.specs.OpenCode.{sym_by}

-- So the routine of a copy is named within its layout, where the copy's frame is there and has the bytes that the routine asks for.
abbrev pub RoutinesAreNamed : Type 0
RoutinesAreNamed =
    (kept : List Bool) (handlers : BlockName → Bool) (l : DataLayout) (own : BlockName) (h : Helper) (root : Root) (copy : ℕ) → copy < length l.frames → frame_size h ≤ (frame l copy).size
    → list_all (sym_by (operand_named kept l) handlers l own) (helper_code h root copy) ≡ true
