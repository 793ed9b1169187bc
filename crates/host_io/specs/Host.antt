-- What the calls of a host change, and when they fail.
use Rattle.std.specs.Prelude.{◌≡◌, ◌⊎◌, ◌<◌, ◌≤◌, ◌+◌, ◌++◌, ℕ, List, [], Bool, true, false, IsTrue, Option, Some, None, Result, Ok, Err, IsErrOf, OnOk, IsSome, unwrap_or, option_map, length, take, drop, if◌then◌else◌}
use Rattle.std.specs.Str.{bytes_eq}
use Rattle.host_io.specs.declared.host.HostError.{HostError}
use Rattle.host_io.specs.declared.host.HostError.TheVariants.{Failed, NoMemory}

-- What no call of a host changes.
pub record Kind : Type 0 where
  -- no call fails but the opening of a name that has no content
  pub is_sound : Bool
  -- the last count of faults, if there is one
  pub last : Option ℕ

-- the content of each name that has one
abbrev pub Contents : Type 0
Contents = List ℕ → Option (List ℕ)

-- The file that is open. A host that tells contents tells its name too, and the place of the next read.
pub data OpenFile : Type 0 where
  Closed : OpenFile
  Reading : Option (List ℕ × ℕ) → OpenFile
  Writing : Option (List ℕ) → OpenFile

-- this, where the host tells contents
abbrev pub told : {X : Type 0} → Option Contents → X → Option X
told (Some contents) x = Some x
told None x = None

abbrev pub is_reading : OpenFile → Bool
is_reading Closed = false
is_reading (Reading at) = true
is_reading (Writing name) = false

abbrev pub is_writing : OpenFile → Bool
is_writing Closed = false
is_writing (Reading at) = false
is_writing (Writing name) = true

abbrev pub is_open : OpenFile → Bool
is_open Closed = false
is_open (Reading at) = true
is_open (Writing name) = true

-- the bytes under a name, and none where it has no content
abbrev pub bytes_of : Contents → List ℕ → List ℕ
bytes_of contents name = unwrap_or (contents name) []

-- the contents with these bytes under this name
abbrev pub put : List ℕ → List ℕ → Contents → Contents
put name bytes contents = λ other. if bytes_eq name other then Some bytes else contents other

-- where the host tells contents, the name has none
abbrev pub Lacks : Option Contents → List ℕ → Type 0
Lacks (Some contents) name = contents name ≡ None
Lacks None name = ⊥

-- where the host tells contents, the name has one
abbrev pub Has : Option Contents → List ℕ → Type 0
Has (Some contents) name = IsSome (contents name)
Has None name = Unit {0}

-- the bytes that are left to read of the open file, where the host tells them
abbrev pub left_of : Option Contents → OpenFile → Option (List ℕ)
left_of (Some contents) (Reading (Some at)) = Some (drop at.1 (bytes_of contents at.0))
left_of (Some contents) (Reading None) = None
left_of (Some contents) Closed = None
left_of (Some contents) (Writing name) = None
left_of None file = None

-- the open file after a read of n bytes
abbrev pub read_on : ℕ → OpenFile → OpenFile
read_on n Closed = Closed
read_on n (Reading at) = Reading (option_map (λ at. (at.0, at.1 + n)) at)
read_on n (Writing name) = Writing name

-- the contents after bytes are appended to the open file
abbrev pub append : OpenFile → List ℕ → Contents → Contents
append Closed bytes contents = contents
append (Reading at) bytes contents = contents
append (Writing None) bytes contents = contents
append (Writing (Some name)) bytes contents = put name (bytes_of contents name ++ bytes) contents

-- The first n bytes of the buffer are the next of those that are left, and there are none only at the end.
pub record ReadsFront (n : ℕ) (buffer left : List ℕ) : Type 0 where
  pub bytes : take n buffer ≡ take n left
  pub within : n ≤ length left
  pub at_end : n ≡ 0 → left ≡ []

-- what was printed has grown by a prefix of these bytes, where the host tells it
abbrev pub PrintsPrefix : Option (List ℕ) → Option (List ℕ) → List ℕ → Type 0
PrintsPrefix old new bytes = (n : ℕ) × (n ≤ length bytes) × (new ≡ option_map (λ printed. printed ++ take n bytes) old)

-- the count of faults was raised, or stood at its last value and still does
abbrev pub IsCounted : Kind → ℕ → ℕ → Type 0
IsCounted kind before now = (before < now) ⊎ ((kind.last ≡ Some before) × (now ≡ before))

-- A call that fails has raised the count of faults, unless it stood at its last value. Every other call keeps the count.
pub record HasCause {T : Type 0} (kind : Kind) (before now : ℕ) (result : Result T HostError) : Type 0 where
  pub never_falls : before ≤ now
  pub failed : IsErrOf result Failed → IsCounted kind before now
  pub stays_last : kind.last ≡ Some before → now ≡ before
  pub ok : OnOk result (now ≡ before)
  pub no_memory : IsErrOf result NoMemory → now ≡ before

-- a sound host doesn't fail
abbrev pub NoFailure : {T : Type 0} → Kind → Result T HostError → Type 0
NoFailure kind result = IsTrue kind.is_sound → IsErrOf result Failed → ⊥

-- a sound host fails exactly where the name has no content
pub record FailsAtMissing {T : Type 0} (kind : Kind) (contents : Option Contents) (name : List ℕ) (result : Result T HostError) : Type 0 where
  pub only : IsTrue kind.is_sound → IsErrOf result Failed → Lacks contents name
  pub always : IsTrue kind.is_sound → Lacks contents name → IsErrOf result Failed

-- A file is read up to n bytes: the name has a content, and these are its first n bytes, or all of them.
abbrev pub IsRead : List ℕ → ℕ → List ℕ → Contents → Type 0
IsRead name n bytes contents = option_map (take n) (contents name) ≡ Some bytes

-- The contents are as before, or the name has a prefix of these bytes and all others are as before.
abbrev pub PutsPrefix : List ℕ → List ℕ → Option Contents → Option Contents → Type 0
PutsPrefix name bytes old new = (new ≡ old) ⊎ ((n : ℕ) × (n ≤ length bytes) × (new ≡ option_map (put name (take n bytes)) old))

-- a host that began with these contents writes to this name, which has these bytes by now
pub record IsWritingTo (start : Option Contents) (name bytes : List ℕ) (file : OpenFile) (contents : Option Contents) : Type 0 where
  pub file_is : file ≡ Writing (told start name)
  pub contents_are : contents ≡ option_map (put name bytes) start

-- the open file has grown by these bytes
abbrev pub Grows : OpenFile → Option Contents → Option Contents → List ℕ → Type 0
Grows file old new bytes =
    (start : Option Contents) (name front : List ℕ) → IsWritingTo start name front file old → IsWritingTo start name (front ++ bytes) file new

-- the open file has grown by a prefix of these bytes
abbrev pub GrowsByPrefix : OpenFile → Option Contents → Option Contents → List ℕ → Type 0
GrowsByPrefix file old new bytes = (n : ℕ) × (n ≤ length bytes) × Grows file old new (take n bytes)

-- What two calls in a row answer: a failure comes before a want of memory, and either before a value.
abbrev pub joined : {T : Type 0} → Result T HostError → Result Unit HostError → Result T HostError
joined (Ok value) (Ok done) = Ok value
joined (Ok value) (Err error) = Err error
joined (Err Failed) second = Err Failed
joined (Err NoMemory) (Ok done) = Err NoMemory
joined (Err NoMemory) (Err error) = Err error
