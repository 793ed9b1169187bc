-- Lines that a command prints.
use Rattle.std.specs.Prelude.{ℕ, ◌/◌, ◌%◌, List, [], ◌∷◌, ◌++◌, codes, decimal}
use Rattle.pic_world.specs.declared.Event.{Event}
use Rattle.pic_map.specs.EventText.{event_text}
use Rattle.pic_map.specs.MapContent.{MapContent}
use Rattle.text_lines.specs.Text.{hex_pairs}
use Rattle.src_values.specs.declared.objects.Undef.{Undef}
use Rattle.src_values.specs.declared.objects.Undef.TheVariants as undef

abbrev pub usage_line : List ℕ
usage_line = codes "usage: picc build IN OUT MAP | trace IN SCRIPT M | sim HEX MAP SCRIPT N | agree IN SCRIPT N | gen K | check HEX | build84 IN OUT MAP | sim84 HEX MAP SCRIPT N" ++ 10 ∷ []

abbrev pub cannot_read : List ℕ → List ℕ
cannot_read name = codes "cannot read " ++ (name ++ 10 ∷ [])

-- four upper case digits
abbrev pub word_text : ℕ → List ℕ
word_text n = hex_pairs ((n / 256) ∷ (n % 256) ∷ [])

-- `NAME:LINE: TEXT`
abbrev pub located : List ℕ → ℕ → List ℕ → List ℕ
located name line text = name ++ (codes ":" ++ decimal line) ++ codes ": " ++ text ++ 10 ∷ []

-- the kinds of undefined steps
abbrev pub undef_text : Undef → List ℕ
undef_text undef.Division = codes "division"
undef_text undef.Overflow = codes "overflow"
undef_text undef.Shift = codes "shift"
undef_text undef.Unset = codes "unset"
undef_text undef.Outside = codes "outside"
undef_text undef.Inactive = codes "inactive"
undef_text undef.Order = codes "order"
undef_text undef.Past = codes "past"
undef_text undef.Bytes = codes "bytes"
undef_text undef.Isolation = codes "isolation"
undef_text undef.Gie = codes "gie"
undef_text undef.Handler = codes "handler"

abbrev pub undefined_line : List ℕ → Undef → ℕ → List ℕ
undefined_line name kind line = located name line (codes "undefined: " ++ undef_text kind)

-- the lines of events, one behind the other
abbrev pub event_lines : MapContent → List Event → List ℕ
event_lines content [] = []
event_lines content (e ∷ es) = event_text content e ++ event_lines content es
