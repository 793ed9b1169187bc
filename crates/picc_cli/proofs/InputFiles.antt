-- What is known of a file that a command reads.
use Rattle.std.proofs.lemmas.List.{length-map}
use Rattle.std.proofs.Common.{◌≡◌, ℕ, ◌<◌, ◌≤◌, true, false, Bool, Option, Some, None, IfSome, List, ◌+◌, length, Result, Ok, Err, refl, sym, ap, ◌∙◌, subst, arith}
use Rattle.hex_image.specs.Answers.{Refuses}
use Rattle.hex_image.specs.HexFile.{Given, IsHexFile}
use Rattle.hex_image.specs.Reading.{reading_of}
use Rattle.hex_image.specs.declared.read.HexError.{HexError}
use Rattle.hex_image.specs.declared.read.HexError.TheVariants as errors
use Rattle.host_io.specs.Host.{Kind, Contents, IsRead}
use Rattle.pic_map.specs.MapContent.{MapContent}
use Rattle.pic_map.specs.MapView as view
use Rattle.pic_map.specs.declared.Map.{Map}
use Rattle.pic_map.specs.MapFile as map_file
use Rattle.pic_map.specs.MapFile.{IsMapFile}
use Rattle.schedule.specs.ScriptFile.{ScriptContent, IsScriptFile, IsFirstBadLine}
use Rattle.picc_cli.specs.declared.inputs.FileEnd.{FileEnd}
use Rattle.picc_cli.specs.declared.inputs.FileEnd.TheVariants.{CannotRead, TooLong, BadHex, BadLine, NoMemory}
use Rattle.picc_cli.specs.Inputs.{IsHexInput, IsMapInput, IsScriptInput, HasBadMapLine, IsUnread, HasNoHex, HasNoMap, HasNoScript, FailsWithoutFile, hex_end, is_fault, is_no_memory, status_of}
use Rattle.host_lines.specs.Said.{HasOutcomeCause}
use Rattle.picc_cli.specs.ScriptInput.{IsFile, HasBadLine}
use Rattle.std.specs.Prelude.{if◌then◌else◌}
use Rattle.picc_cli.proofs.FewObjects.{few_objects}
use Rattle.picc_cli.proofs.Files.{content_of, read_whole, read_long}

-- ---- the bytes
pub bytes_found : (old : Option Contents) (name bytes : List ℕ) (limit : ℕ) → IfSome old (IsRead name (limit + 1) bytes) → length bytes ≤ limit → IfSome old (λ o. o name ≡ Some bytes)
bytes_found None name bytes limit read short = tt
bytes_found (Some o) name bytes limit read short =
    let found = content_of (limit + 1) (o name) bytes read in
    found.1 ∙ ap Some (read_whole limit found.0 bytes found.2 short)

pub bytes_long : (old : Option Contents) (name bytes : List ℕ) (limit : ℕ) → IfSome old (IsRead name (limit + 1) bytes) → limit < length bytes
    → IfSome old (λ o. IsUnread limit o name TooLong)
bytes_long None name bytes limit read long = tt
bytes_long (Some o) name bytes limit read long =
    let found = content_of (limit + 1) (o name) bytes read in
    (found.0, found.1, read_long limit found.0 bytes found.2 long)

-- ---- a file without a content, or too long
unread_hex_at : (o : Contents) (name : List ℕ) (end : FileEnd) → IsUnread 1048576 o name end → HasNoHex o name end
unread_hex_at o name CannotRead unread = tt
unread_hex_at o name NoMemory unread = tt
unread_hex_at o name TooLong unread = unread
unread_hex_at o name (BadHex error) unread = absurd unread
unread_hex_at o name (BadLine line) unread = absurd unread

unread_map_at : (o : Contents) (name : List ℕ) (end : FileEnd) → IsUnread 262144 o name end → HasNoMap o name end
unread_map_at o name CannotRead unread = tt
unread_map_at o name NoMemory unread = tt
unread_map_at o name TooLong unread = unread
unread_map_at o name (BadHex error) unread = absurd unread
unread_map_at o name (BadLine line) unread = absurd unread

unread_script_at : (o : Contents) (name : List ℕ) (end : FileEnd) → IsUnread 4194304 o name end → HasNoScript o name end
unread_script_at o name CannotRead unread = tt
unread_script_at o name NoMemory unread = tt
unread_script_at o name TooLong unread = unread
unread_script_at o name (BadHex error) unread = absurd unread
unread_script_at o name (BadLine line) unread = absurd unread

pub unread_hex : (old : Option Contents) (name : List ℕ) (end : FileEnd) → IfSome old (λ o. IsUnread 1048576 o name end) → IfSome old (λ o. HasNoHex o name end)
unread_hex None name end unread = tt
unread_hex (Some o) name end unread = unread_hex_at o name end unread

pub unread_map : (old : Option Contents) (name : List ℕ) (end : FileEnd) → IfSome old (λ o. IsUnread 262144 o name end) → IfSome old (λ o. HasNoMap o name end)
unread_map None name end unread = tt
unread_map (Some o) name end unread = unread_map_at o name end unread

pub unread_script : (old : Option Contents) (name : List ℕ) (end : FileEnd) → IfSome old (λ o. IsUnread 4194304 o name end) → IfSome old (λ o. HasNoScript o name end)
unread_script None name end unread = tt
unread_script (Some o) name end unread = unread_script_at o name end unread

-- ---- HEX files
pub hex_found : (old : Option Contents) (name bytes text image : List ℕ) → IfSome old (λ o. o name ≡ Some bytes) → length bytes ≤ 1048576 → text ≡ bytes → IsHexFile text image
    → IfSome old (λ o. IsFile o name (IsHexInput image))
hex_found None name bytes text image found short same file = tt
hex_found (Some o) name bytes text image found short same file = (bytes, found, record { short = short; file = subst (λ b. IsHexFile b image) same file })

told_first : (error : HexError) (read : Result (List Given) HexError) → is_no_memory error ≡ false → Refuses error read → read ≡ Err error
told_first errors.NoMemory read is refuses = absurd (cc)
told_first (errors.BadRecord line) read is refuses = refuses
told_first (errors.Checksum line found wanted) read is refuses = refuses
told_first (errors.UnknownType line kind) read is refuses = refuses
told_first (errors.Outside line address) read is refuses = refuses
told_first (errors.Twice line address) read is refuses = refuses
told_first errors.NoEnd read is refuses = refuses

not_read : (error : HexError) (image : List ℕ) → is_no_memory error ≡ false → Refuses error (Ok image) → ⊥
not_read errors.NoMemory image is refuses = cc
not_read (errors.BadRecord line) image is refuses = cc
not_read (errors.Checksum line found wanted) image is refuses = cc
not_read (errors.UnknownType line kind) image is refuses = cc
not_read (errors.Outside line address) image is refuses = cc
not_read (errors.Twice line address) image is refuses = cc
not_read errors.NoEnd image is refuses = cc

-- an error of the reader is that of the file, or memory was wanting
hex_none_at : (o : Contents) (name bytes text : List ℕ) (error : HexError) → o name ≡ Some bytes → length bytes ≤ 1048576 → text ≡ bytes
    → ((image : List ℕ) → IsHexFile text image → Refuses error (Ok image)) → Refuses error (reading_of text) → HasNoHex o name (hex_end error)
hex_none_at o name bytes text error found short same only refused = by_test (is_no_memory error) refl where
  by_test : (b : Bool) → is_no_memory error ≡ b → HasNoHex o name (if b then NoMemory else BadHex error)
  by_test true is = tt
  by_test false is = (
    bytes,
    found,
    record {
      short = short;
      first = subst (λ t. reading_of t ≡ Err error) same (told_first error (reading_of text) is refused);
      none = λ image file. not_read error image is (only image (subst (λ b. IsHexFile b image) (sym same) file));
    },
  )

pub hex_none : (old : Option Contents) (name bytes text : List ℕ) (told error : HexError) (end : FileEnd) → IfSome old (λ o. o name ≡ Some bytes) → length bytes ≤ 1048576 → text ≡ bytes
    → ((image : List ℕ) → IsHexFile text image → Refuses error (Ok image)) → Refuses error (reading_of text) → end ≡ hex_end told → told ≡ error
    → IfSome old (λ o. HasNoHex o name end)
hex_none None name bytes text told error end found short same only refused is moved = tt
hex_none (Some o) name bytes text told error end found short same only refused is moved =
    subst (HasNoHex o name) (sym (is ∙ ap hex_end moved)) (hex_none_at o name bytes text error found short same only refused)

-- a file that was read is no fault
pub later_cause : (kind : Kind) (before now : ℕ) (end : FileEnd) → HasOutcomeCause kind before now false → is_fault end ≡ false → HasOutcomeCause kind before now (is_fault end)
later_cause kind before now end cause quiet = subst (HasOutcomeCause kind before now) (sym quiet) cause

pub later_sound : {S T : Type 0} (kind : Kind) (old : Option Contents) (name : List ℕ) (x : S) (end : FileEnd) → FailsWithoutFile {T = S} kind old name (Ok x) → is_fault end ≡ false
    → FailsWithoutFile {T = T} kind old name (Err end)
later_sound kind old name x end sound quiet =
    record {
      only = λ is fails. absurd (cc);
      always = λ is lacks. let both = sound.always is lacks in absurd (cc);
    }

-- ---- maps
pub map_found : (old : Option Contents) (name bytes text : List ℕ) (content : MapContent) → IfSome old (λ o. o name ≡ Some bytes) → length bytes ≤ 262144 → text ≡ bytes
    → IsMapFile text content → IfSome old (λ o. IsFile o name (IsMapInput content))
map_found None name bytes text content found short same file = tt
map_found (Some o) name bytes text content found short same file = (bytes, found, record { short = short; file = subst (λ b. IsMapFile b content) same file })

pub map_bad : (old : Option Contents) (name bytes text : List ℕ) (line : ℕ) → IfSome old (λ o. o name ≡ Some bytes) → length bytes ≤ 262144 → text ≡ bytes
    → map_file.IsFirstBadLine text line → ((content : MapContent) → IsMapFile text content → ⊥) → IfSome old (λ o. IsFile o name (HasBadMapLine line))
map_bad None name bytes text line found short same first none = tt
map_bad (Some o) name bytes text line found short same first none = (
  bytes,
  found,
  record {
    short = short;
    first = subst (λ b. map_file.IsFirstBadLine b line) same first;
    none = λ content file. none content (subst (λ b. IsMapFile b content) (sym same) file);
  },
)

pub few_in : (bytes text : List ℕ) (m : Map) → text ≡ bytes → IsMapFile text (view.content_of m) → length bytes ≤ 262144 → length m.objects.items ≤ 65536
few_in bytes text m same file short =
    let few = few_objects text (view.content_of m) file (subst (λ b. length b ≤ 262144) (sym same) short) in
    let l = length-map m.objects.items view.object_of in omega arith

-- ---- scripts
pub script_found : (old : Option Contents) (name bytes text : List ℕ) (content : ScriptContent) → IfSome old (λ o. o name ≡ Some bytes) → length bytes ≤ 4194304 → text ≡ bytes
    → IsScriptFile text content → IfSome old (λ o. IsFile o name (IsScriptInput content))
script_found None name bytes text content found short same file = tt
script_found (Some o) name bytes text content found short same file = (bytes, found, record { short = short; file = subst (λ b. IsScriptFile b content) same file })

pub script_bad : (old : Option Contents) (name bytes text : List ℕ) (line : ℕ) → IfSome old (λ o. o name ≡ Some bytes) → length bytes ≤ 4194304 → text ≡ bytes
    → IsFirstBadLine text line → ((content : ScriptContent) → IsScriptFile text content → ⊥) → IfSome old (λ o. IsFile o name (HasBadLine line))
script_bad None name bytes text line found short same first none = tt
script_bad (Some o) name bytes text line found short same first none = (
  bytes,
  found,
  record {
    short = short;
    first = subst (λ b. IsFirstBadLine b line) same first;
    none = λ content file. none content (subst (λ b. IsScriptFile b content) (sym same) file);
  },
)

-- ---- faults
pub file_three : (end : FileEnd) → status_of end ≡ 3 → is_fault end ≡ true
file_three CannotRead e = refl
file_three TooLong e = absurd (omega arith)
file_three (BadHex error) e = absurd (omega arith)
file_three (BadLine line) e = absurd (omega arith)
file_three NoMemory e = absurd (omega arith)

pub file_fault : (end : FileEnd) → is_fault end ≡ true → status_of end ≡ 3
file_fault CannotRead e = refl
file_fault TooLong e = absurd (cc)
file_fault (BadHex error) e = absurd (cc)
file_fault (BadLine line) e = absurd (cc)
file_fault NoMemory e = absurd (cc)
