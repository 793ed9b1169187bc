-- What is known of a command by its end.
use Rattle.std.proofs.Common.{◌≡◌, ℕ, inl, inr, false, Option, Some, None, IsSome, IfSome, List, [], ◌∷◌, Result, Ok, Err, OnOk, is_err, sym, ap, ◌∙◌, subst, arith}
use Rattle.host_io.specs.Host.{Kind, Contents, PrintsPrefix}
use Rattle.pic_world.specs.declared.Event.{Event}
use Rattle.pic_chip.specs.Machine.{Machine}
use Rattle.pic_chip.specs.State.{State}
use Rattle.pic_map.specs.MapContent.{MapContent, watch_of}
use Rattle.pic_map.specs.Tracing.{Tracing, looked}
use Rattle.pic_sim.specs.declared.running.SimEnd.{SimEnd}
use Rattle.schedule.specs.ScriptFile.{ScriptContent}
use Rattle.pic_sim.specs.Going.{Known, WentBy}
use Rattle.pic_sim.specs.Kind as chips
use Rattle.picc_cli.specs.declared.simulating.Ended.{Ended}
use Rattle.picc_cli.specs.declared.simulating.Ended.TheVariants.{Done, Unmodelled, NoHex, NoMap, NoScript, CannotPrint, NoMemory}
use Rattle.picc_cli.specs.Chip.{RunPrints, last_line, status_of}
use Rattle.picc_cli.specs.Command.{Simulated, Simulate}
use Rattle.host_lines.specs.Said.{IsLast, Says}
use Rattle.picc_cli.specs.Inputs.{IsHexInput, IsMapInput, IsScriptInput}
use Rattle.picc_cli.specs.ScriptInput.{IsFile}
use Rattle.picc_cli.specs.Simulation.{HasSimulated, Knows, IsFed, IsRunBy, IsPrinted, Runs, RunsBy, Simulates, Simulator, first_look}
use Rattle.picc_cli.proofs.Endings.{add_nothing}
use Rattle.picc_cli.proofs.SimulationStops.{prints_as_run, stops_as_run}

-- what was said, or wasn't, comes last
pub said_last : (kind : Kind) (before now : ℕ) (p q : Option (List ℕ)) (line : List ℕ) (status result : ℕ) → Says kind before now p q line status result → IsLast status line p q result
said_last kind before now p q line status result (inl s) = inl (s.ends, s.printed)
said_last kind before now p q line status result (inr u) = inr (u.ends, u.printed)

pub simulation_told : (asked : Simulated) (ended : Ended) (old : Option Contents) (before now : Known) (kind : Kind) (first later : ℕ) (p middle q : Option (List ℕ)) (result : ℕ)
    → IfSome old (λ o. Knows asked o before now ended p middle) → Says kind first later middle q (last_line asked ended) (status_of ended) result
    → IfSome old (λ o. HasSimulated (Some (Simulate asked)) o before now p q result)
simulation_told asked ended None before now kind first later p middle q result knows says = tt
simulation_told asked ended (Some o) before now kind first later p middle q result knows says =
    let last = said_last kind first later middle q (last_line asked ended) (status_of ended) result says in
    record {
      ended = ended;
      middle = middle;
      knows = knows;
      last = last;
      stops = stops_as_run asked o before now ended p middle q result knows last;
      traces = prints_as_run asked o before now ended p middle knows;
    }

-- ---- the run
-- a board that was fed
pub fed_of : {T E : Type 0} (script : ScriptContent) (before fed : Known) (r : Result T E) → is_err r ≡ false
    → OnOk r (IsSome before.follows → fed.follows ≡ Some (record { input = script.input; arrivals = script.arrivals })) → fed.lists ≡ before.lists → IsFed script before fed
fed_of script before fed (Ok x) is follows same = record { same_lists = same; follows = follows }
fed_of script before fed (Err e) is follows same = absurd (cc)

-- nothing of it was printed
pub none_printed : (p : Option (List ℕ)) (text : List ℕ) → PrintsPrefix p p text
none_printed p [] = (0, omega arith, sym (add_nothing p))
none_printed p (c ∷ text) = (0, omega arith, sym (add_nothing p))

module _ (kind : chips.Kind) (begin : State) (image : List ℕ) (map : MapContent) (script : ScriptContent) (n : ℕ) (before fed now : Known) where
  pub run_of : (chip later : Machine) (tracing last : Tracing) (first events : List Event) (end : SimEnd) → IsFed script before fed → chip ≡ record { state = begin; index = 0 } → tracing ≡ first_look map → first ≡ []
      → WentBy kind image n (record { chip = chip; tracing = tracing; events = first; board = fed }) (record { chip = later; tracing = last; events = events; board = now }) end
      → IsRunBy kind begin image map script n before now events end
  run_of chip later tracing last first events end is_fed a b c went = record { fed = fed; is_fed = is_fed; chip = later; tracing = last; went = rw (← a, ← b, ← c) went }

-- a run and what was printed of it
pub runs_of : (s : Simulator) (image : List ℕ) (map : MapContent) (script : ScriptContent) (n : ℕ) (before now : Known) (events : List Event) (end : SimEnd) (ended : Ended) (p q : Option (List ℕ))
    → s.Ran image map script n before now events end → IsPrinted map events end ended p q → RunsBy s image map script n before now ended p q
runs_of s image map script n before now events end Done p q run (is, shown, printed) =
    record { events = events; run = subst (λ x. s.Ran image map script n before now events x) is run; shown = shown; printed = printed }
runs_of s image map script n before now events end (Unmodelled at) p q run (is, shown, printed) =
    record { events = events; run = subst (λ x. s.Ran image map script n before now events x) is run; shown = shown; printed = printed }
runs_of s image map script n before now events end CannotPrint p q run printed = record { end = end; events = events; run = run; printed = printed }
runs_of s image map script n before now events end NoMemory p q run printed = inr (record { end = end; events = events; run = run; printed = printed })
runs_of s image map script n before now events end (NoHex why) p q run printed = absurd printed
runs_of s image map script n before now events end (NoMap why) p q run printed = absurd printed
runs_of s image map script n before now events end (NoScript why) p q run printed = absurd printed

-- and the printed lines alone
pub prints_of : (map : MapContent) (events : List Event) (end : SimEnd) (ended : Ended) (p q : Option (List ℕ)) → IsPrinted map events end ended p q → RunPrints map ended p q
prints_of map events end Done p q (is, shown, printed) = (events, shown, printed)
prints_of map events end (Unmodelled at) p q (is, shown, printed) = (events, shown, printed)
prints_of map events end CannotPrint p q printed = (events, printed)
prints_of map events end NoMemory p q printed = (events, printed)
prints_of map events end (NoHex why) p q printed = absurd printed
prints_of map events end (NoMap why) p q printed = absurd printed
prints_of map events end (NoScript why) p q printed = absurd printed

-- the first look, at a chip that was reset
pub looked_first : (map : MapContent) (pc : ℕ) (new old : Tracing) → pc ≡ 0 → old ≡ record { watch = watch_of map; met = false; ended = false } → new ≡ looked pc old → new ≡ first_look map
looked_first map pc new old at is e = e ∙ ap (λ k. looked k old) at ∙ ap (looked 0) is

-- ---- the files
knows_at : (asked : Simulated) (o : Contents) (image : List ℕ) (map : MapContent) (script : ScriptContent) (before now : Known) (ended : Ended) (p q : Option (List ℕ))
    → IsFile o asked.hex (IsHexInput image) → IsFile o asked.map (IsMapInput map) → IsFile o asked.script (IsScriptInput script)
    → Runs asked.chip image map script asked.instructions before now ended p q → Knows asked o before now ended p q
knows_at asked o image map script before now ended p q hex maps scripts runs = by_end ended runs where
  all : (ended : Ended) → Runs asked.chip image map script asked.instructions before now ended p q → Simulates asked o before now ended p q
  all ended runs = record { image = image; map = map; script = script; hex_file = hex; map_file = maps; script_file = scripts; runs = runs }

  by_end : (ended : Ended) → Runs asked.chip image map script asked.instructions before now ended p q → Knows asked o before now ended p q
  by_end Done runs = all Done runs
  by_end (Unmodelled at) runs = all (Unmodelled at) runs
  by_end CannotPrint runs = all CannotPrint runs
  by_end NoMemory (inl nothing) = inl nothing
  by_end NoMemory (inr broken) = inr (all NoMemory (inr broken))
  by_end (NoHex why) runs = absurd runs
  by_end (NoMap why) runs = absurd runs
  by_end (NoScript why) runs = absurd runs

-- each file was read, nothing was printed before the run
pub run_known : (asked : Simulated) (old second third : Option Contents) (image : List ℕ) (map : MapContent) (script : ScriptContent) (before now : Known) (ended : Ended) (p r q : Option (List ℕ))
    → IfSome old (λ o. IsFile o asked.hex (IsHexInput image)) → second ≡ old → IfSome second (λ o. IsFile o asked.map (IsMapInput map)) → third ≡ second
    → IfSome third (λ o. IsFile o asked.script (IsScriptInput script)) → r ≡ p → Runs asked.chip image map script asked.instructions before now ended r q
    → IfSome old (λ o. Knows asked o before now ended p q)
run_known asked None second third image map script before now ended p r q hex a maps b scripts same runs = tt
run_known asked (Some o) second third image map script before now ended p r q hex a maps b scripts same runs =
    knows_at asked o image map script before now ended p q hex
    (subst (λ c. IfSome c (λ o. IsFile o asked.map (IsMapInput map))) a maps)
    (subst (λ c. IfSome c (λ o. IsFile o asked.script (IsScriptInput script))) (b ∙ a) scripts)
    (subst (λ x. Runs asked.chip image map script asked.instructions before now ended x q) same runs)
