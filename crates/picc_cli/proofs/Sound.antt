-- Over a sound host, where a command comes to a file without a content.
use Rattle.std.proofs.Common.{◌≡◌, ℕ, inl, inr, true, false, IsTrue, Option, Some, None, IfSome, List, Result, Ok, Err, refl, sym, ap, ◌∙◌, subst}
use Rattle.host_io.specs.Host.{Kind, Contents, Lacks, FailsAtMissing}
use Rattle.host_io.specs.declared.host.HostError.TheVariants as host
use Rattle.pic_map.specs.MapContent.{MapContent}
use Rattle.picc_cli.specs.declared.comparing.Ended as agree_ends
use Rattle.picc_cli.specs.declared.comparing.Ended.TheVariants as agree
use Rattle.picc_cli.specs.declared.inputs.FileEnd.{FileEnd}
use Rattle.picc_cli.specs.declared.inputs.FileEnd.TheVariants.{CannotRead}
use Rattle.picc_cli.specs.declared.simulating.Ended as chip_ends
use Rattle.picc_cli.specs.declared.simulating.Ended.TheVariants as chip
use Rattle.picc_cli.specs.declared.tracing.Ended.TheVariants as traced
use Rattle.picc_cli.specs.Agreement as agreement
use Rattle.picc_cli.specs.Trace as tracing
use Rattle.picc_cli.specs.Chip as simulation
use Rattle.picc_cli.specs.Command.{Asked, Simulated, Compared}
use Rattle.picc_cli.specs.Inputs as inputs
use Rattle.picc_cli.specs.Inputs.{IsHexInput, IsMapInput, HasNoHex, HasNoMap, FailsWithoutFile}
use Rattle.host_lines.specs.Said.{GivesUp}
use Rattle.picc_cli.specs.ScriptInput.{IsFile}
use Rattle.picc_cli.proofs.FilesKept.{hex_kept, map_kept}

hex_up : (old : Option Contents) (name : List ℕ) (end : FileEnd) → simulation.HasHex old name → IfSome old (λ o. HasNoHex o name end) → GivesUp (inputs.status_of end)
hex_up None name end has none = absurd has
hex_up (Some o) name end (image, file) none = hex_kept o name image end file none

map_up : (old : Option Contents) (name : List ℕ) (end : FileEnd) → simulation.HasMap old name → IfSome old (λ o. HasNoMap o name end) → GivesUp (inputs.status_of end)
map_up None name end has none = absurd has
map_up (Some o) name end (content, file) none = map_kept o name content end file none

-- what was read is there
has_hex : (old : Option Contents) (name image : List ℕ) (lacked : List ℕ) → IfSome old (λ o. IsFile o name (IsHexInput image)) → Lacks old lacked → simulation.HasHex old name
has_hex None name image lacked found lacks = absurd lacks
has_hex (Some o) name image lacked found lacks = (image, found)

has_map : (old : Option Contents) (name : List ℕ) (content : MapContent) (lacked : List ℕ) → IfSome old (λ o. IsFile o name (IsMapInput content)) → Lacks old lacked → simulation.HasMap old name
has_map None name content lacked found lacks = absurd lacks
has_map (Some o) name content lacked found lacks = (content, found)

module _ {T : Type 0} (kind : Kind) (old : Option Contents) (name : List ℕ) where
  -- one that was read has a content
  read_there : (x : T) → FailsWithoutFile {T = T} kind old name (Ok x) → IsTrue kind.is_sound → Lacks old name → ⊥
  read_there x sound is lacks = let both = sound.always is lacks in cc

  -- and one that wasn't for want of one ends so
  lacked_up : (end : FileEnd) → FailsWithoutFile {T = T} kind old name (Err end) → IsTrue kind.is_sound → Lacks old name → GivesUp (inputs.status_of end)
  lacked_up end sound is lacks = let both = sound.always is lacks in let e : end ≡ CannotRead = cc in inl (ap inputs.status_of e)

  moved : (other : Kind) (middle : Option Contents) (result : Result T FileEnd) → other ≡ kind → middle ≡ old → FailsWithoutFile {T = T} other middle name result → FailsWithoutFile {T = T} kind old name result
  moved other middle result alike same sound =
      subst (λ (k : Kind). FailsWithoutFile {T = T} k old name result) alike (subst (λ o. FailsWithoutFile {T = T} other o name result) same sound)

-- ---- simulations
module _ (kind : Kind) (old : Option Contents) (asked : Simulated) where
  pub no_hex_fails : {T : Type 0} (end : FileEnd) → FailsWithoutFile {T = T} kind old asked.hex (Err end) → IfSome old (λ o. HasNoHex o asked.hex end)
      → simulation.FailsWithoutFiles kind old asked (chip.NoHex end)
  no_hex_fails {T} end sound none = record { only = only; missing = missing }
    where
      only : IsTrue kind.is_sound → inputs.is_fault end ≡ true → simulation.EndsAtMissing asked old (chip.NoHex end)
      only is fails = let both = sound.only is fails in let read = both.0 in let e : end ≡ CannotRead = cc in inl (ap chip.NoHex e, both.1)

      missing : IsTrue kind.is_sound → simulation.LacksFile asked old → GivesUp (inputs.status_of end)
      missing is (inl lacks) = lacked_up {T = T} kind old asked.hex end sound is lacks
      missing is (inr (inl (has, lacks))) = hex_up old asked.hex end has none
      missing is (inr (inr (has, more, lacks))) = hex_up old asked.hex end has none

  pub no_map_fails : {T U : Type 0} (image : List ℕ) (x : T) (end : FileEnd) (other : Kind) (middle : Option Contents) → FailsWithoutFile {T = T} kind old asked.hex (Ok x)
      → IfSome old (λ o. IsFile o asked.hex (IsHexInput image)) → other ≡ kind → middle ≡ old → FailsWithoutFile {T = U} other middle asked.map (Err end)
      → IfSome middle (λ o. HasNoMap o asked.map end) → simulation.FailsWithoutFiles kind old asked (chip.NoMap end)
  no_map_fails {T} {U} image x end other middle hex found alike same later none = record { only = only; missing = missing }
    where
      sound : FailsWithoutFile {T = U} kind old asked.map (Err end)
      sound = moved {T = U} kind old asked.map other middle (Err end) alike same later

      no_map : IfSome old (λ o. HasNoMap o asked.map end)
      no_map = subst (λ c. IfSome c (λ o. HasNoMap o asked.map end)) same none

      only : IsTrue kind.is_sound → inputs.is_fault end ≡ true → simulation.EndsAtMissing asked old (chip.NoMap end)
      only is fails =
          let both = sound.only is fails in let read = both.0 in let e : end ≡ CannotRead = cc in
          inr (inl (ap chip.NoMap e, has_hex old asked.hex image asked.map found both.1, both.1))

      missing : IsTrue kind.is_sound → simulation.LacksFile asked old → GivesUp (inputs.status_of end)
      missing is (inl lacks) = absurd (read_there {T = T} kind old asked.hex x hex is lacks)
      missing is (inr (inl (has, lacks))) = lacked_up {T = U} kind old asked.map end sound is lacks
      missing is (inr (inr (has, more, lacks))) = map_up old asked.map end more no_map

  pub no_script_fails : {T U V : Type 0} (image : List ℕ) (content : MapContent) (x : T) (y : U) (end : FileEnd) (other last : Kind) (middle later : Option Contents)
      → FailsWithoutFile {T = T} kind old asked.hex (Ok x) → IfSome old (λ o. IsFile o asked.hex (IsHexInput image)) → other ≡ kind → middle ≡ old
      → FailsWithoutFile {T = U} other middle asked.map (Ok y) → IfSome middle (λ o. IsFile o asked.map (IsMapInput content)) → last ≡ other → later ≡ middle
      → FailsWithoutFile {T = V} last later asked.script (Err end) → simulation.FailsWithoutFiles kind old asked (chip.NoScript end)
  no_script_fails {T} {U} {V} image content x y end other last middle later hex found alike same map there after kept script = record { only = only; missing = missing }
    where
      sound : FailsWithoutFile {T = V} kind old asked.script (Err end)
      sound = moved {T = V} kind old asked.script last later (Err end) (after ∙ alike) (kept ∙ same) script

      map_there : FailsWithoutFile {T = U} kind old asked.map (Ok y)
      map_there = moved {T = U} kind old asked.map other middle (Ok y) alike same map

      map_found : IfSome old (λ o. IsFile o asked.map (IsMapInput content))
      map_found = subst (λ c. IfSome c (λ o. IsFile o asked.map (IsMapInput content))) same there

      only : IsTrue kind.is_sound → inputs.is_fault end ≡ true → simulation.EndsAtMissing asked old (chip.NoScript end)
      only is fails =
          let both = sound.only is fails in let read = both.0 in let e : end ≡ CannotRead = cc in
          inr (inr (ap chip.NoScript e, has_hex old asked.hex image asked.script found both.1, has_map old asked.map content asked.script map_found both.1, both.1))

      missing : IsTrue kind.is_sound → simulation.LacksFile asked old → GivesUp (inputs.status_of end)
      missing is (inl lacks) = absurd (read_there {T = T} kind old asked.hex x hex is lacks)
      missing is (inr (inl (has, lacks))) = absurd (read_there {T = U} kind old asked.map y map_there is lacks)
      missing is (inr (inr (has, more, lacks))) = lacked_up {T = V} kind old asked.script end sound is lacks

  pub run_fails : {T U V : Type 0} (x : T) (y : U) (z : V) (ended : chip_ends.Ended) (other last run : Kind) (middle later : Option Contents)
      → FailsWithoutFile {T = T} kind old asked.hex (Ok x) → other ≡ kind → middle ≡ old → FailsWithoutFile {T = U} other middle asked.map (Ok y) → last ≡ other → later ≡ middle
      → FailsWithoutFile {T = V} last later asked.script (Ok z) → run ≡ last → (IsTrue run.is_sound → simulation.is_fault ended ≡ false)
      → simulation.FailsWithoutFiles kind old asked ended
  run_fails {T} {U} {V} x y z ended other last run middle later hex alike same map after kept script ran quiet = record { only = only; missing = missing }
    where
      only : IsTrue kind.is_sound → simulation.is_fault ended ≡ true → simulation.EndsAtMissing asked old ended
      only is fails = let never = quiet (subst (λ (k : Kind). IsTrue k.is_sound) (sym (ran ∙ after ∙ alike)) is) in absurd (cc)

      missing : IsTrue kind.is_sound → simulation.LacksFile asked old → GivesUp (simulation.status_of ended)
      missing is (inl lacks) = absurd (read_there {T = T} kind old asked.hex x hex is lacks)
      missing is (inr (inl (has, lacks))) = absurd (read_there {T = U} kind old asked.map y (moved {T = U} kind old asked.map other middle (Ok y) alike same map) is lacks)
      missing is (inr (inr (has, more, lacks))) =
          absurd (read_there {T = V} kind old asked.script z (moved {T = V} kind old asked.script last later (Ok z) (after ∙ alike) (kept ∙ same) script) is lacks)

-- ---- comparisons
pub text_fails : {T : Type 0} (kind : Kind) (old : Option Contents) (asked : Compared) → FailsAtMissing {T = T} kind old asked.input (Err host.Failed)
    → agreement.FailsWithoutFiles kind old asked agree.CannotReadText
text_fails kind old asked sound = record { only = λ is fails. inl (refl, sound.only is refl); missing = λ is lacks. inl refl }

pub memory_fails : (kind : Kind) (old : Option Contents) (asked : Compared) → agreement.FailsWithoutFiles kind old asked agree.NoMemory
memory_fails kind old asked = record { only = λ is fails. absurd (cc); missing = λ is lacks. inr refl }

pub no_fault : (ended : agree_ends.Ended) → agreement.IsRunEnd ended → agreement.is_fault ended ≡ false
no_fault (agree.Same events) end = refl
no_fault (agree.Undefined kind line) end = refl
no_fault (agree.Refused refusal) end = refl
no_fault agree.CannotReadText end = absurd end
no_fault (agree.NoScript file) end = absurd end
no_fault agree.NoMemory end = refl

text_there : {T : Type 0} (kind : Kind) (old : Option Contents) (asked : Compared) (x : T) → FailsAtMissing {T = T} kind old asked.input (Ok x) → IsTrue kind.is_sound → Lacks old asked.input → ⊥
text_there kind old asked x text is lacks = let both = text.always is lacks in cc

module _ {T U : Type 0} (kind : Kind) (old : Option Contents) (asked : Compared) (x : T) (text : FailsAtMissing {T = T} kind old asked.input (Ok x)) where
  pub compared_no_script : (end : FileEnd) (other : Kind) (middle : Option Contents) → other ≡ kind → middle ≡ old → FailsWithoutFile {T = U} other middle asked.script (Err end)
      → agreement.FailsWithoutFiles kind old asked (agree.NoScript end)
  compared_no_script end other middle alike same later = record { only = only; missing = missing }
    where
      sound : FailsWithoutFile {T = U} kind old asked.script (Err end)
      sound = moved {T = U} kind old asked.script other middle (Err end) alike same later

      only : IsTrue kind.is_sound → inputs.is_fault end ≡ true → agreement.EndsAtMissing asked old (agree.NoScript end)
      only is fails =
          let both = sound.only is fails in let read = both.0 in let e : end ≡ CannotRead = cc in
          inr (ap agree.NoScript e, (λ lacks. text_there {T = T} kind old asked x text is lacks), both.1)

      missing : IsTrue kind.is_sound → agreement.LacksFile asked old → GivesUp (inputs.status_of end)
      missing is (inl lacks) = absurd (text_there {T = T} kind old asked x text is lacks)
      missing is (inr lacks) = lacked_up {T = U} kind old asked.script end sound is lacks

  pub compared_runs : (z : U) (ended : agree_ends.Ended) (other : Kind) (middle : Option Contents) → other ≡ kind → middle ≡ old → FailsWithoutFile {T = U} other middle asked.script (Ok z)
      → agreement.IsRunEnd ended → agreement.FailsWithoutFiles kind old asked ended
  compared_runs z ended other middle alike same later end = record { only = λ is fails. let never = no_fault ended end in absurd (cc); missing = missing }
    where
      missing : IsTrue kind.is_sound → agreement.LacksFile asked old → GivesUp (agreement.status_of ended)
      missing is (inl lacks) = absurd (text_there {T = T} kind old asked x text is lacks)
      missing is (inr lacks) = absurd (read_there {T = U} kind old asked.script z (moved {T = U} kind old asked.script other middle (Ok z) alike same later) is lacks)

-- ---- traces
module _ {T U : Type 0} (kind : Kind) (old : Option Contents) (asked : Asked) (x : T) (text : FailsAtMissing {T = T} kind old asked.input (Ok x)) where
  pub traced_no_script : (end : FileEnd) (other : Kind) (middle : Option Contents) → other ≡ kind → middle ≡ old → FailsWithoutFile {T = U} other middle asked.script (Err end)
      → tracing.FailsWithoutFiles kind old asked (traced.NoScript end)
  traced_no_script end other middle alike same later =
      record {
        only = λ is fails. let both = sound.only is fails in let read = both.0 in let e : end ≡ CannotRead = cc in inr (ap traced.NoScript e, both.1);
        text = λ is lacks. let both = text.always is lacks in absurd (cc);
        script = λ is lacks. let both = sound.always is lacks in let e : end ≡ CannotRead = cc in inr (inl (ap traced.NoScript e));
      }
    where
      sound : FailsWithoutFile {T = U} kind old asked.script (Err end)
      sound = moved {T = U} kind old asked.script other middle (Err end) alike same later
