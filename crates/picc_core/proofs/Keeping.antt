-- What the passes make keeps to what its map and its program name.
use Rattle.std.specs.Prelude.{ℕ, List}
use Rattle.c_typed.specs.Trees.{Program}
use Rattle.pic_map.specs.MapContent.{MapContent}
use Rattle.named_registers.specs.Registers.{names_register}
use Rattle.program_code.specs.Translated.{IsTranslated}
use Rattle.headline_trace.proofs.Registered.{translations_name}
use Rattle.headline_trace.proofs.Within.{translations_within}
use Rattle.picc_core.specs.Kept.{IsKept}

pub translations_kept : (p : Program) (image : List ℕ) (content : MapContent) → IsTranslated p image content → IsKept p content image
translations_kept p image content made =
    let within = translations_within p image content (names_register p) made (translations_name p image content made) in
    record { copies = within.copies; known = within.known; at = within.at; paged = within.paged; all = within.all }
