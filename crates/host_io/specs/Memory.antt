-- What a host in memory tells, and which of its calls fail.
use Rattle.std.specs.Prelude.{◌==◌, ◌||◌, ◌^◌, ◌-◌, ℕ, List, Bool, false, Option, Some, None, option_map, is_none, length, Vec, String, string_bytes}
use Rattle.std.specs.List.{list_any}
use Rattle.std.specs.Str.{bytes_eq}
use Rattle.std.specs.BTreeMap.{BTreeMap, get_by_text}
use Rattle.std.specs.declared.alloc.Global.{Global}
use Rattle.host_io.specs.declared.memory.Fail.{Fail}
use Rattle.host_io.specs.declared.memory.Fail.TheVariants.{Call, Open, Create}
use Rattle.host_io.specs.declared.memory.Current.{Current}
use Rattle.host_io.specs.declared.memory.Current.TheVariants as current
use Rattle.host_io.specs.declared.memory.MemoryHost.{MemoryHost}
use Rattle.host_io.specs.Host.{Kind, Contents, OpenFile, Closed, Reading, Writing}

-- the content of each name, in bytes
abbrev pub contents_of : BTreeMap (String Global) (Vec ℕ Global) → Contents
contents_of files = λ name. option_map (λ bytes. bytes.items) (get_by_text files name)

-- the open file, with its name and the place of the next read
abbrev pub open_of : Option Current → OpenFile
open_of None = Closed
open_of (Some (current.Reading name place)) = Reading (Some (string_bytes name, place))
open_of (Some (current.Writing name)) = Writing (Some (string_bytes name))

-- it is sound where no failure is listed, and its count of faults ends at the greatest 64-bit number
abbrev pub kind_of : List Fail → Kind
kind_of fails = record { is_sound = length fails == 0; last = Some (2 ^ 64 - 1) }

-- the call of this number fails
abbrev pub is_call : ℕ → Fail → Bool
is_call number (Call call) = call == number
is_call number (Open name) = false
is_call number (Create name) = false

-- each opening of this name fails
abbrev pub is_opening : List ℕ → Fail → Bool
is_opening name (Call call) = false
is_opening name (Open failing) = bytes_eq (string_bytes failing) name
is_opening name (Create failing) = false

-- each creating of this name fails
abbrev pub is_creating : List ℕ → Fail → Bool
is_creating name (Call call) = false
is_creating name (Open failing) = false
is_creating name (Create failing) = bytes_eq (string_bytes failing) name

-- the next call is a listed failure
abbrev pub fails_call : MemoryHost → Bool
fails_call host = list_any (is_call host.calls) host.fails.items

-- the next call, if it opens this name, is a listed failure
abbrev pub lists_open : List ℕ → MemoryHost → Bool
lists_open name host = list_any (λ fail. is_call host.calls fail || is_opening name fail) host.fails.items

-- the next call, if it opens this name, is a listed failure, or the name has no content
abbrev pub fails_open : List ℕ → MemoryHost → Bool
fails_open name host = lists_open name host || is_none (contents_of host.files name)

-- the next call, if it creates this name, is a listed failure
abbrev pub fails_create : List ℕ → MemoryHost → Bool
fails_create name host = list_any (λ fail. is_call host.calls fail || is_creating name fail) host.fails.items
