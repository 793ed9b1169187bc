-- That blocks name bytes alone that are there, and that these have addresses where objects and frames are placed.
use Rattle.std.specs.Prelude.{◌≡◌, ℕ, ◌<◌, ◌≤◌, true, List, [], ◌∷◌, length, map, slice_get, option_map, Option, Some, IsSome}
use Rattle.std.specs.Global.{Global}
use Rattle.std.specs.declared.vec.Vec.{Vec}
use Rattle.c_typed.specs.Trees.{StaticTree, FunctionTree, Program}
use Rattle.c_typed.specs.Types.{type_bytes}
use Rattle.c_typed.specs.declared.calls.FnId.TheVariants as callee
use Rattle.c_typed.specs.declared.calls.Helper.{Helper}
use Rattle.call_graph.specs.declared.types.FnCopy.{FnCopy}
use Rattle.code_place.specs.Addresses.{address_of, file_address}
use Rattle.code_place.specs.Layouts.{layout_of}
use Rattle.code_place.specs.Places.{HasLiteral}
use Rattle.bank_page.specs.Kinds.{byte_of}
use Rattle.bank_page.specs.Near.{AreNear}
use Rattle.core_code.specs.declared.code.Byte.{Byte}
use Rattle.core_code.specs.declared.code.Byte.TheVariants as bytes
use Rattle.core_code.specs.declared.code.FirstByte.{FirstByte}
use Rattle.isr_save.specs.Start.{start_code}
use Rattle.lower_stmt.specs.Bodies.{first_bytes}
use Rattle.lower_stmt.specs.FirstBytes.{items_of}
use Rattle.math_helpers.specs.Routines.{helper_code}
use Rattle.named_registers.specs.Registers.{names_register}
use Rattle.pic_map.specs.MapView.{object_of, frame_of}
use Rattle.pic_map.specs.declared.Placed.{Placed}
use Rattle.pic_world.specs.declared.Root.{Root}
use Rattle.ram_place.specs.Placement.{IsPlacing}
use Rattle.ram_place.specs.Sizes.{frame_bytes}
use Rattle.sym_code.specs.Layout.{all_near, frame}
use Rattle.sym_code.specs.declared.code.Sym.{Sym}
use Rattle.sym_code.specs.declared.code.Sym.TheVariants as syms
use Rattle.sym_code.specs.declared.code.SymBlock.{SymBlock}
use Rattle.program_code.specs.Bounds.{IsProgram, IsBlockOf}
use Rattle.program_code.specs.Naming.{Memory, SymsLie}

-- the bytes of a program's copies and static objects, and the registers that it names
abbrev pub memory_of : Program → List FnCopy → Memory
memory_of p copies = record { frames = λ k. option_map (λ (c : FnCopy). frame_bytes p c.function) (slice_get copies k); objects = λ k. option_map (λ (s : StaticTree). type_bytes p.sizes s.ty.ty) (slice_get p.statics k); devices = names_register p }

-- The block of a function's copy names bytes alone that are there. The number of a static object has two bytes.
abbrev pub BlocksKeepThere : Type 0
BlocksKeepThere = (p : Program) (copies : List FnCopy) (number : ℕ) (f : FunctionTree) (given : SymBlock) → IsProgram p → length p.statics ≤ 65535 → IsBlockOf p copies number f given → SymsLie (memory_of p copies) given.list.items

-- A helper's routine in the block of its copy names bytes alone that are there.
abbrev pub RoutinesKeepThere : Type 0
RoutinesKeepThere = (p : Program) (copies : List FnCopy) (number : ℕ) (copy : FnCopy) (helper : Helper) (root : Root) → slice_get copies number ≡ Some copy → copy.function ≡ callee.Helper helper → SymsLie (memory_of p copies) (helper_code helper root number)

-- So does the start block, where it sets the first bytes of the program's static objects.
abbrev pub StartKeepsThere : Type 0
StartKeepsThere = (p : Program) (copies : List FnCopy) (handler : Option ℕ) (statics : List (Vec FirstByte Global)) → IsProgram p → map items_of statics ≡ first_bytes p → SymsLie (memory_of p copies) (start_code handler statics)

-- the byte that an instruction names, or whose address it has as a literal, has an address
abbrev pub HasOperand : Placed → Sym → Type 0
HasOperand placed (syms.Label label) = Unit {0}
HasOperand placed (syms.SelectBank bit on) = Unit {0}
HasOperand placed (syms.SelectPage bit to) = Unit {0}
HasOperand placed (syms.Table table root) = Unit {0}
HasOperand placed (syms.File op file into) = IsSome (file_address placed file)
HasOperand placed (syms.Movwf file) = IsSome (file_address placed file)
HasOperand placed (syms.Clrf file) = IsSome (file_address placed file)
HasOperand placed (syms.Bit op file bit) = IsSome (file_address placed file)
HasOperand placed (syms.Literal op value) = HasLiteral placed value
HasOperand placed (syms.Plain op) = Unit {0}
HasOperand placed (syms.Call to) = Unit {0}
HasOperand placed (syms.Goto to) = Unit {0}

abbrev pub HaveOperands : Placed → List Sym → Type 0
HaveOperands placed [] = Unit {0}
HaveOperands placed (s ∷ list) = HasOperand placed s × HaveOperands placed list

-- What is there has an address where objects and frames are placed.
abbrev pub PlacedHaveAddresses : Type 0
PlacedHaveAddresses = (p : Program) (copies : List FnCopy) (placed : Placed) (list : List Sym) → IsPlacing p copies (map object_of placed.objects.items) (map frame_of placed.frames.items) → SymsLie (memory_of p copies) list → HaveOperands placed list

-- Where objects and frames end below 100h, all that is there stands below it.
abbrev pub PlacedStayNear : Type 0
PlacedStayNear =
    (p : Program) (copies : List FnCopy) (placed : Placed) (list : List Sym) → IsPlacing p copies (map object_of placed.objects.items) (map frame_of placed.frames.items) → all_near (layout_of placed) ≡ true → SymsLie (memory_of p copies) list
    → AreNear placed list

-- a byte of a frame is one of its bytes
abbrev pub IsInside : Placed → Byte → Type 0
IsInside placed (bytes.Frame copy offset) = offset < (frame (layout_of placed) copy).size
IsInside placed (bytes.Static object offset) = Unit {0}
IsInside placed (bytes.Result r k) = Unit {0}
IsInside placed (bytes.Device address) = Unit {0}

-- each byte that needs a bank has an address, and stands within its frame
abbrev pub StandInside : Placed → List Sym → Type 0
StandInside placed [] = Unit {0}
StandInside placed (s ∷ list) = ((byte : Byte) → byte_of s ≡ Some byte → ((at : ℕ) × (address_of placed byte ≡ Some at)) × IsInside placed byte) × StandInside placed list

-- So it is with what is there, where objects and frames are placed.
abbrev pub PlacedStandInside : Type 0
PlacedStandInside = (p : Program) (copies : List FnCopy) (placed : Placed) (list : List Sym) → IsPlacing p copies (map object_of placed.objects.items) (map frame_of placed.frames.items) → SymsLie (memory_of p copies) list → StandInside placed list
