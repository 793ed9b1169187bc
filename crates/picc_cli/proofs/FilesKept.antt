-- Files that are such as they are to be, and statuses of those that aren't.
use Rattle.std.proofs.Common.{◌≡◌, ℕ, ◌⊎◌, inl, inr, Some, List, Result, Ok, length, refl, sym, ap, ◌∙◌, subst, arith}
use Rattle.hex_image.proofs.Found.{is_read, only}
use Rattle.hex_image.specs.HexFile.{IsHexFile}
use Rattle.hex_image.specs.declared.read.HexError.{HexError}
use Rattle.host_io.specs.Host.{Contents}
use Rattle.pic_map.specs.MapContent.{MapContent}
use Rattle.pic_map.specs.MapFile.{IsMapFile}
use Rattle.schedule.specs.ScriptFile.{ScriptContent, IsScriptFile}
use Rattle.picc_cli.specs.declared.inputs.FileEnd.{FileEnd}
use Rattle.picc_cli.specs.declared.inputs.FileEnd.TheVariants as files
use Rattle.picc_cli.specs.Inputs as inputs
use Rattle.picc_cli.specs.Inputs.{IsHexInput, IsMapInput, IsScriptInput, HasNoHex, HasNoMap, HasNoScript}
use Rattle.host_lines.specs.Said.{GivesUp}
use Rattle.picc_cli.specs.ScriptInput.{IsFile, IsScript}

pub same_bytes : (o : Contents) (name bytes other : List ℕ) → o name ≡ Some bytes → o name ≡ Some other → bytes ≡ other
same_bytes o name bytes other a b = let both : Some bytes ≡ Some other = sym a ∙ b in cc

-- a HEX file is of one image
same_image : (text a b : List ℕ) → IsHexFile text a → IsHexFile text b → a ≡ b
same_image text a b f h = let same : ◌≡◌ {A = Result (List ℕ) HexError} (Ok b) (Ok a) = only (Ok a) text (is_read text a f) b h in cc

pub hex_same : (o : Contents) (name a b : List ℕ) → IsFile o name (IsHexInput a) → IsFile o name (IsHexInput b) → a ≡ b
hex_same o name a b (bytes, has, is) (others, there, also) = same_image bytes a b is.file (subst (λ t. IsHexFile t b) (same_bytes o name others bytes there has) also.file)

-- what is such a file isn't refused as one
pub hex_kept : (o : Contents) (name image : List ℕ) (end : FileEnd) → IsFile o name (IsHexInput image) → HasNoHex o name end → GivesUp (inputs.status_of end)
hex_kept o name image files.CannotRead file none = inl refl
hex_kept o name image files.NoMemory file none = inr refl
hex_kept o name image files.TooLong file (other, there, long) =
    let l = ap (length {A = ℕ}) (same_bytes o name file.0 other file.1 there) in let short = file.2.short in absurd (omega arith)
hex_kept o name image (files.BadHex error) file (other, there, bad) =
    absurd (bad.none image (subst (λ b. IsHexFile b image) (same_bytes o name file.0 other file.1 there) file.2.file))
hex_kept o name image (files.BadLine line) file none = absurd none

pub map_kept : (o : Contents) (name : List ℕ) (map : MapContent) (end : FileEnd) → IsFile o name (IsMapInput map) → HasNoMap o name end → GivesUp (inputs.status_of end)
map_kept o name map files.CannotRead file none = inl refl
map_kept o name map files.NoMemory file none = inr refl
map_kept o name map files.TooLong file (other, there, long) =
    let l = ap (length {A = ℕ}) (same_bytes o name file.0 other file.1 there) in let short = file.2.short in absurd (omega arith)
map_kept o name map (files.BadLine line) file (other, there, bad) =
    absurd (bad.none map (subst (λ b. IsMapFile b map) (same_bytes o name file.0 other file.1 there) file.2.file))
map_kept o name map (files.BadHex error) file none = absurd none

pub script_kept : (o : Contents) (name : List ℕ) (script : ScriptContent) (end : FileEnd) → IsFile o name (IsScriptInput script) → HasNoScript o name end → GivesUp (inputs.status_of end)
script_kept o name script files.CannotRead file none = inl refl
script_kept o name script files.NoMemory file none = inr refl
script_kept o name script files.TooLong file (other, there, long) =
    let l = ap (length {A = ℕ}) (same_bytes o name file.0 other file.1 there) in let short = file.2.short in absurd (omega arith)
script_kept o name script (files.BadLine line) file (other, there, bad) =
    absurd (bad.none script (subst (λ b. IsScriptFile b script) (same_bytes o name file.0 other file.1 there) file.2.file))
script_kept o name script (files.BadHex error) file none = absurd none

-- without a fault it is told, or memory was wanting
pub file_ends : (end : FileEnd) (result : ℕ) → (result ≡ 3 → ⊥) → result ≡ inputs.status_of end → (result ≡ 5) ⊎ (result ≡ 9)
file_ends files.CannotRead result quiet e = absurd (quiet e)
file_ends files.TooLong result quiet e = inl e
file_ends (files.BadHex error) result quiet e = inl e
file_ends (files.BadLine line) result quiet e = inl e
file_ends files.NoMemory result quiet e = inr e

-- where a script was refused there is none
pub script_ends : (o : Contents) (name : List ℕ) (end : FileEnd) → HasNoScript o name end → (result : ℕ) → (result ≡ 3 → ⊥) → result ≡ inputs.status_of end → (script : List ℕ) → o name ≡ Some script
    → ((result ≡ 5) × (IsScript script → ⊥)) ⊎ (result ≡ 9)
script_ends o name files.CannotRead none result quiet e script has = absurd (quiet e)
script_ends o name files.NoMemory none result quiet e script has = inr e
script_ends o name files.TooLong (other, there, long) result quiet e script has =
    inl (e, λ is. let l = ap (length {A = ℕ}) (same_bytes o name script other has there) in let short = is.short in absurd (omega arith))
script_ends o name (files.BadLine line) (other, there, bad) result quiet e script has =
    inl (e, λ is. bad.none is.content (subst (λ b. IsScriptFile b is.content) (same_bytes o name script other has there) is.file))
script_ends o name (files.BadHex error) none result quiet e script has = absurd none
