-- How a check of the depth of the return stack ends: what is known of its file and of the image, what it prints, and its exit status.
use Rattle.std.specs.Prelude.{ℕ, ◌≡◌, ◌≤◌, ◌⊎◌, Bool, true, false, IsTrue, Option, Some, List, [], ◌∷◌, ◌++◌, codes, decimal, option_map}
use Rattle.depth_check.specs.Certificate.{Certificate}
use Rattle.depth_check.specs.Depth.{StaysWithin}
use Rattle.depth_check.specs.Valid.{is_valid, total_of}
use Rattle.host_io.specs.Host.{Kind, Contents, Lacks}
use Rattle.picc_cli.specs.declared.checking.Ended.{Ended}
use Rattle.picc_cli.specs.declared.checking.Ended.TheVariants.{Within, Uncertified, NoHex, NoMemory}
use Rattle.picc_cli.specs.declared.inputs.FileEnd.{FileEnd}
use Rattle.picc_cli.specs.declared.inputs.FileEnd.TheVariants.{CannotRead}
use Rattle.picc_cli.specs.Inputs as inputs
use Rattle.picc_cli.specs.Inputs.{IsHexInput, HasNoHex}
use Rattle.picc_cli.specs.Lines.{cannot_read}
use Rattle.host_lines.specs.Said.{Prints}
use Rattle.picc_cli.specs.ScriptInput.{IsFile}

-- ---- the image
-- A certificate with this total is valid for the image, and each one that is has this total. So in every run of it, from reset, whatever is
-- unknown then, whatever bytes are read and whatever flags arrive, the return stack holds at most so many words at each moment: of its eight
-- none is lost, and nothing is popped that wasn't pushed.
pub record IsBounded (image : List ℕ) (depth : ℕ) : Type 0 where
  pub certificate : Certificate
  pub valid : is_valid image certificate ≡ true
  pub total : depth ≡ total_of certificate
  pub one : (c : Certificate) → is_valid image c ≡ true → depth ≡ total_of c
  pub few : depth ≤ 8
  pub runs : StaysWithin image depth

abbrev pub HasNoCertificate : List ℕ → Type 0
HasNoCertificate image = (c : Certificate) → is_valid image c ≡ true → ⊥

-- a search for a certificate can end so
abbrev pub IsImageEnd : Ended → Type 0
IsImageEnd (Within depth) = Unit {0}
IsImageEnd Uncertified = Unit {0}
IsImageEnd (NoHex end) = ⊥
IsImageEnd NoMemory = Unit {0}

-- What is known of the image where it ended so.
abbrev pub ImageKnows : List ℕ → Ended → Type 0
ImageKnows image (Within depth) = IsBounded image depth
ImageKnows image Uncertified = HasNoCertificate image
ImageKnows image (NoHex end) = Unit {0}
ImageKnows image NoMemory = Unit {0}

-- ---- the file
-- the name has a HEX file of an image of which this holds
abbrev pub HasImage : Contents → List ℕ → (List ℕ → Type 0) → Type 0
HasImage old name Of = (image : List ℕ) × IsFile old name (IsHexInput image) × Of image

-- What is known of the file of a check that ended so.
abbrev pub Knows : List ℕ → Contents → Ended → Type 0
Knows name old (Within depth) = HasImage old name (λ image. IsBounded image depth)
Knows name old Uncertified = HasImage old name HasNoCertificate
Knows name old (NoHex end) = HasNoHex old name end
Knows name old NoMemory = Unit {0}

-- ---- faults
abbrev pub is_fault : Ended → Bool
is_fault (Within depth) = false
is_fault Uncertified = false
is_fault (NoHex end) = inputs.is_fault end
is_fault NoMemory = false

-- Over a sound host a fault is a file without a content, and each is one.
pub record FailsWithoutFile (kind : Kind) (old : Option Contents) (name : List ℕ) (ended : Ended) : Type 0 where
  pub only : IsTrue kind.is_sound → is_fault ended ≡ true → (ended ≡ NoHex CannotRead) × Lacks old name
  pub always : IsTrue kind.is_sound → Lacks old name → ended ≡ NoHex CannotRead

-- ---- the printed line and the status
abbrev pub depth_line : ℕ → List ℕ
depth_line depth = codes "depth " ++ decimal depth ++ 10 ∷ []

abbrev pub no_certificate : List ℕ
no_certificate = codes "no certificate" ++ 10 ∷ []

abbrev pub last_line : List ℕ → Ended → List ℕ
last_line name (Within depth) = depth_line depth
last_line name Uncertified = no_certificate
last_line name (NoHex end) = inputs.line_of name end
last_line name NoMemory = []

abbrev pub status_of : Ended → ℕ
status_of (Within depth) = 0
status_of Uncertified = 7
status_of (NoHex end) = inputs.status_of end
status_of NoMemory = 9

-- the whole text of a check that ends so is its last line
abbrev pub IsText : List ℕ → Ended → List ℕ → Type 0
IsText name ended text = text ≡ last_line name ended

pub record CheckPrints (kind : Kind) (name : List ℕ) (old new : Option (List ℕ)) (result : ℕ) : Type 0 where
  pub prints : Prints status_of (IsText name) old new result
  -- over a sound host, where only the file can be missing, the line says so
  pub sound : IsTrue kind.is_sound → result ≡ 3 → new ≡ option_map (λ text. text ++ cannot_read name) old

-- ---- what the status says
-- this line is printed
abbrev pub Adds : List ℕ → Option (List ℕ) → Option (List ℕ) → Type 0
Adds line before after = after ≡ option_map (λ text. text ++ line) before

-- the line of the file's fault
abbrev pub TellsFile : List ℕ → Contents → Option (List ℕ) → Option (List ℕ) → Type 0
TellsFile name old before after = (end : FileEnd) × HasNoHex old name end × (inputs.status_of end ≡ 5) × Adds (inputs.line_of name end) before after

-- 0: some certificate is valid for the image of the file, and the printed depth is that of each that is, so no run goes deeper. 7: no
-- certificate is valid for that image. 5: the name has a content that is no HEX file, or is too long, and its fault is told.
pub record CheckTells (name : List ℕ) (old : Contents) (before after : Option (List ℕ)) (result : ℕ) : Type 0 where
  pub bounded : result ≡ 0 → (depth : ℕ) × HasImage old name (λ image. IsBounded image depth) × Adds (depth_line depth) before after
  pub uncertified : result ≡ 7 → HasImage old name HasNoCertificate × Adds no_certificate before after
  pub refused : result ≡ 5 → TellsFile name old before after

-- Without a fault and with memory enough an image that some certificate is valid for ends with 0, one that none is valid for with 7,
-- and a content that is no HEX file with 5.
pub record CheckCompletes (name : List ℕ) (old : Contents) (result : ℕ) : Type 0 where
  pub ends : (result ≡ 0) ⊎ ((result ≡ 5) ⊎ ((result ≡ 7) ⊎ (result ≡ 9)))
  pub certified : (image : List ℕ) (c : Certificate) → IsFile old name (IsHexInput image) → is_valid image c ≡ true → (result ≡ 0) ⊎ (result ≡ 9)
  pub uncertified : (image : List ℕ) → IsFile old name (IsHexInput image) → HasNoCertificate image → (result ≡ 7) ⊎ (result ≡ 9)
  pub no_hex : (bytes : List ℕ) → old name ≡ Some bytes → ((image : List ℕ) → IsHexInput image bytes → ⊥) → (result ≡ 5) ⊎ (result ≡ 9)
