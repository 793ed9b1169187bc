-- Without a fault, how a simulation ends by its files.
use Rattle.std.proofs.Common.{◌≡◌, ℕ, ◌⊎◌, inl, inr, ⊎_elim, Option, List, sym, subst}
use Rattle.host_io.specs.Host.{Contents}
use Rattle.pic_map.specs.MapContent.{MapContent}
use Rattle.pic_sim.specs.Going.{Known}
use Rattle.schedule.specs.ScriptFile.{ScriptContent}
use Rattle.picc_cli.specs.declared.simulating.Ended.{Ended}
use Rattle.picc_cli.specs.declared.simulating.Ended.TheVariants.{Done, Unmodelled, NoHex, NoMap, NoScript, CannotPrint, NoMemory}
use Rattle.picc_cli.specs.Chip.{status_of}
use Rattle.picc_cli.specs.Command.{Simulated}
use Rattle.picc_cli.specs.Inputs.{IsHexInput, IsMapInput, IsScriptInput}
use Rattle.host_lines.specs.Said.{GivesUp}
use Rattle.picc_cli.specs.Simulation.{Knows, SimulationTells, SimulationCompletes}
use Rattle.picc_cli.specs.ScriptInput.{IsFile}
use Rattle.picc_cli.proofs.FilesKept.{same_bytes, hex_kept, map_kept, script_kept, file_ends}

module _ (asked : Simulated) (o : Contents) (before now : Known) (p q : Option (List ℕ)) (result : ℕ) (quiet : result ≡ 3 → ⊥) where
  nine : GivesUp result → result ≡ 9
  nine (inl three) = absurd (quiet three)
  nine (inr is) = is

  -- not all files are such as they are to be
  abbrev OneIsBad : Type 0
  OneIsBad = (image : List ℕ) (map : MapContent) (script : ScriptContent) → IsFile o asked.hex (IsHexInput image) → IsFile o asked.map (IsMapInput map) → IsFile o asked.script (IsScriptInput script) → ⊥

  bad_ends : (ended : Ended) (middle : Option (List ℕ)) → Knows asked o before now ended p middle → result ≡ status_of ended → OneIsBad → (result ≡ 5) ⊎ (result ≡ 9)
  bad_ends Done middle k e bad = absurd (bad k.image k.map k.script k.hex_file k.map_file k.script_file)
  bad_ends (Unmodelled at) middle k e bad = absurd (bad k.image k.map k.script k.hex_file k.map_file k.script_file)
  bad_ends (NoHex end) middle k e bad = file_ends end result quiet e
  bad_ends (NoMap end) middle k e bad = file_ends end result quiet e
  bad_ends (NoScript end) middle k e bad = file_ends end result quiet e
  bad_ends CannotPrint middle k e bad = absurd (quiet e)
  bad_ends NoMemory middle k e bad = inr e

  good_ends : (ended : Ended) (middle : Option (List ℕ)) → Knows asked o before now ended p middle → result ≡ status_of ended
      → (image : List ℕ) (map : MapContent) (script : ScriptContent) → IsFile o asked.hex (IsHexInput image) → IsFile o asked.map (IsMapInput map) → IsFile o asked.script (IsScriptInput script)
      → (result ≡ 0) ⊎ ((result ≡ 6) ⊎ (result ≡ 9))
  good_ends Done middle k e image map script a b c = inl e
  good_ends (Unmodelled at) middle k e image map script a b c = inr (inl e)
  good_ends (NoHex end) middle k e image map script a b c = inr (inr (nine (subst GivesUp (sym e) (hex_kept o asked.hex image end a k.0))))
  good_ends (NoMap end) middle k e image map script a b c = inr (inr (nine (subst GivesUp (sym e) (map_kept o asked.map map end b k.0.of_map))))
  good_ends (NoScript end) middle k e image map script a b c = inr (inr (nine (subst GivesUp (sym e) (script_kept o asked.script script end c k.0.of_script))))
  good_ends CannotPrint middle k e image map script a b c = absurd (quiet e)
  good_ends NoMemory middle k e image map script a b c = inr (inr e)

  bad_told : SimulationTells asked o before now p q result → OneIsBad → (result ≡ 5) ⊎ (result ≡ 9)
  bad_told t bad = ⊎_elim (λ said. bad_ends t.ended t.middle t.knows said.0 bad) (λ up. inr (nine up.0)) t.last

  pub simulation_whole : SimulationTells asked o before now p q result → (result ≡ 0) ⊎ ((result ≡ 5) ⊎ ((result ≡ 6) ⊎ (result ≡ 9))) → SimulationCompletes asked o result
  simulation_whole t ends =
      record {
        ends = ends;
        runs = λ image map script a b c. ⊎_elim (λ said. good_ends t.ended t.middle t.knows said.0 image map script a b c) (λ up. inr (inr (nine up.0))) t.last;
        no_hex = λ bytes has none. bad_told t (λ image map script a b c. none image (subst (IsHexInput image) (same_bytes o asked.hex a.0 bytes a.1 has) a.2));
        no_map = λ bytes has none. bad_told t (λ image map script a b c. none map (subst (IsMapInput map) (same_bytes o asked.map b.0 bytes b.1 has) b.2));
        no_script = λ bytes has none. bad_told t (λ image map script a b c. none script (subst (IsScriptInput script) (same_bytes o asked.script c.0 bytes c.1 has) c.2));
      }
