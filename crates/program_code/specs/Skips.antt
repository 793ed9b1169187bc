-- What is promised of the skips in all code of the compiler.
use Rattle.std.specs.Prelude.{◌≡◌, ℕ, ◌<◌, Bool, true, List, [], ◌∷◌, Option, Some, length, map}
use Rattle.std.specs.Global.{Global}
use Rattle.std.specs.List.{All}
use Rattle.std.specs.declared.vec.Vec.{Vec}
use Rattle.c_typed.specs.Trees.{FunctionTree, Program}
use Rattle.c_typed.specs.declared.calls.Helper.{Helper}
use Rattle.call_graph.specs.declared.types.FnCopy.{FnCopy}
use Rattle.core_code.specs.View.{trees_in}
use Rattle.core_code.specs.declared.code.Body.{Body}
use Rattle.core_code.specs.declared.code.Byte.{Byte}
use Rattle.core_code.specs.declared.code.Byte.TheVariants as bytes
use Rattle.core_code.specs.declared.code.CoreProgram.{CoreProgram}
use Rattle.core_code.specs.declared.code.FirstByte.{FirstByte}
use Rattle.pic_map.specs.declared.Placed.{Placed}
use Rattle.pic_world.specs.declared.Root.{Root}
use Rattle.lower_stmt.specs.Bodies.{body_code, body_of, bodies_of}
use Rattle.lower_stmt.specs.Frames.{ground_for}
use Rattle.sym_code.specs.Layout.{frame, is_whole}
use Rattle.sym_code.specs.declared.code.Sym.{Sym}
use Rattle.sym_code.specs.declared.code.SymBlock.{SymBlock}
use Rattle.select_wide.specs.Blocks.{block_code}
use Rattle.math_helpers.specs.Routines.{helper_code}
use Rattle.isr_save.specs.Start.{start_code}
use Rattle.code_place.specs.Addresses.{address_of}
use Rattle.code_place.specs.Layouts.{layout_of}
use Rattle.bank_page.specs.Kinds.{byte_of}
use Rattle.bank_page.specs.Ready.{are_ready, CanSelect}
use Rattle.program_code.specs.Joined.{IsJoined}
use Rattle.program_code.specs.Close.{is_own, is_frames}
use Rattle.program_code.specs.Paired.{are_paired, HavePlaces}

-- In the block that is selected for the body of a copy, as it is lowered, skips are paired, and the copy's frame is the home.
abbrev pub BodiesArePaired : Type 0
BodiesArePaired =
    (p : Program) (copies : List FnCopy) (number block : ℕ) (f : FunctionTree) (body : Body) → trees_in body.code.items ≡ body_code (ground_for p copies number body.root f) f
    → are_paired (is_own number) (block_code copies block body) ≡ true

-- In a helper's routine they are, by bytes of frames.
abbrev pub RoutinesArePaired : Type 0
RoutinesArePaired = (h : Helper) (root : Root) (copy : ℕ) → are_paired is_frames (helper_code h root copy) ≡ true

-- In the start block they are, with any home: there is none.
abbrev pub StartIsPaired : Type 0
StartIsPaired = (home : Byte → Bool) (handler : Option ℕ) (statics : List (Vec FirstByte Global)) → are_paired home (start_code handler statics) ≡ true

-- Where skips are paired, each byte that needs a bank has an address, and the home bytes stand in one bank, selects can be put.
abbrev pub PairedIsReady : Type 0
PairedIsReady = (placed : Placed) (home : Byte → Bool) (bank : ℕ) (list : List Sym) → HavePlaces placed home bank list → are_paired home list ≡ true → are_ready placed list ≡ true

-- ---- the blocks of a program
-- a byte of a frame is one of its bytes
abbrev pub IsInside : Placed → Byte → Type 0
IsInside placed (bytes.Frame copy offset) = offset < (frame (layout_of placed) copy).size
IsInside placed _ = Unit {0}

-- each byte that needs a bank has an address, and stands within its frame
abbrev pub AreThere : Placed → List Sym → Type 0
AreThere placed [] = Unit {0}
AreThere placed (s ∷ rest) = ((byte : Byte) → byte_of s ≡ Some byte → ((at : ℕ) × (address_of placed byte ≡ Some at)) × IsInside placed byte) × AreThere placed rest

abbrev pub NamesBytes : Placed → SymBlock → Type 0
NamesBytes placed block = AreThere placed block.list.items

-- each frame stands whole in a bank
abbrev pub FramesAreWhole : Placed → Type 0
FramesAreWhole placed = (c : ℕ) → c < length (layout_of placed).frames → is_whole (frame (layout_of placed) c).address (frame (layout_of placed) c).size ≡ true

-- Selects can be put into each block that is joined from the byte code of a program's copies, where each frame stands whole in a bank
-- and what the blocks name is there.
abbrev pub BlocksCanSelect : Type 0
BlocksCanSelect =
    (p : Program) (copies : List FnCopy) (core : CoreProgram) (given : List SymBlock) (placed : Placed) → map body_of core.bodies.items ≡ bodies_of p copies → IsJoined core copies given
    → FramesAreWhole placed → All (NamesBytes placed) given → All (CanSelect placed) given
