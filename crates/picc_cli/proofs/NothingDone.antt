-- A command that wants memory before it has begun.
use Rattle.std.proofs.Common.{ℕ, inl, inr, Option, Some, None, IfSome, List, [], ◌∷◌, refl, sym, arith}
use Rattle.host_io.specs.Host.{Kind, Contents, PrintsPrefix}
use Rattle.picc_cli.specs.declared.building.Outcome.TheVariants as outcomes
use Rattle.picc_cli.specs.declared.checking.Ended.TheVariants as check
use Rattle.picc_cli.specs.declared.comparing.Ended.TheVariants as agree
use Rattle.picc_cli.specs.declared.simulating.Ended.TheVariants as chip
use Rattle.picc_cli.specs.declared.tracing.Ended.TheVariants as trace
use Rattle.picc_cli.specs.Command.{Form, Build, Trace, Simulate, Agree, Generate, Check}
use Rattle.picc_cli.specs.Finished.{HasFiles, HasFaults, IsStatus, HasStatus, HasPrinted, HasTold, IsComplete}
use Rattle.pic_sim.specs.Going.{Known}
use Rattle.picc_cli.specs.Made.{HasMade}
use Rattle.host_lines.specs.Said.{IsLast}
use Rattle.picc_cli.specs.Simulation.{HasSimulated, Knows}
use Rattle.picc_cli.specs.Lines.{usage_line}
use Rattle.picc_cli.specs.Summary.{generated_text}
use Rattle.picc_cli.proofs.CheckEnds.{unsaid_told}
use Rattle.picc_cli.proofs.Endings.{add_nothing}
use Rattle.picc_cli.proofs.SimulationStops.{prints_as_run, stops_as_run}

pub nothing_of : (p : Option (List ℕ)) (text : List ℕ) → PrintsPrefix p p text
nothing_of p [] = (0, omega arith, sym (add_nothing p))
nothing_of p (c ∷ text) = (0, omega arith, sym (add_nothing p))

pub no_files : (form : Option Form) (old : Option Contents) → IfSome old (λ o. HasFiles form o old 9)
no_files form None = tt
no_files None (Some o) = refl
no_files (Some (Build names)) (Some o) = record { built = λ e. absurd (omega arith); refused = λ e. absurd (omega arith); broken = λ up. inl refl }
no_files (Some (Trace asked)) (Some o) = refl
no_files (Some (Simulate asked)) (Some o) = refl
no_files (Some (Agree asked)) (Some o) = refl
no_files (Some (Generate functions)) (Some o) = refl
no_files (Some (Check hex)) (Some o) = refl

pub no_made : (form : Option Form) (old : Option Contents) (p : Option (List ℕ)) → IfSome old (λ o. HasMade form o old p p 9)
no_made form None p = tt
no_made None (Some o) p = tt
no_made (Some (Build names)) (Some o) p = record { built = λ e. absurd (omega arith); refused = λ e. absurd (omega arith); broken = λ up. inl refl }
no_made (Some (Trace asked)) (Some o) p = tt
no_made (Some (Simulate asked)) (Some o) p = tt
no_made (Some (Agree asked)) (Some o) p = record { ended = agree.NoMemory; knows = tt; exact = tt; last = inr (inr refl, nothing_of p []) }
no_made (Some (Generate functions)) (Some o) p = tt
no_made (Some (Check hex)) (Some o) p = tt

pub no_faults : (form : Option Form) (kind : Kind) (count : ℕ) (old : Option Contents) → HasFaults kind count count form old 9
no_faults form kind count old =
    record {
      never_falls = omega arith;
      only = λ three. absurd (omega arith);
      each = λ more. absurd (omega arith);
      sound = λ is three. absurd (omega arith);
      missing = λ is lacks. inr refl;
    }

no_status_known : (form : Option Form) → IsStatus form 9
no_status_known None = inr (inr refl)
no_status_known (Some (Build names)) = inr (inr (inr refl))
no_status_known (Some (Trace asked)) = inr (inr (inr (inr (inr refl))))
no_status_known (Some (Simulate asked)) = inr (inr (inr (inr refl)))
no_status_known (Some (Agree asked)) = inr (inr (inr (inr (inr refl))))
no_status_known (Some (Generate functions)) = inr (inr refl)
no_status_known (Some (Check hex)) = inr (inr (inr (inr refl)))

pub no_status : (form : Option Form) → HasStatus form 9
no_status form = record { known = no_status_known form; usage = λ two. absurd (omega arith); no_form = λ none. inr (inr refl) }

pub no_print : (form : Option Form) (kind : Kind) (files : Option Contents) (p : Option (List ℕ)) → HasPrinted kind form files p p 9
no_print None kind files p = record { whole = λ two. absurd (omega arith); prefix = λ up. nothing_of p usage_line }
no_print (Some (Build names)) kind files p =
    record {
      nothing = λ e. absurd (omega arith);
      error = λ e. absurd (omega arith);
      prefix = λ up. (outcomes.NoMemory, nothing_of p []);
      sound = λ is e. absurd (omega arith);
    }
no_print (Some (Trace asked)) kind files p =
    record {
      whole = inl (inr refl);
      prefix = λ up. (trace.NoMemory, [], record { events = []; has_events = refl; whole = refl }, nothing_of p []);
      sound = λ is e. absurd (omega arith);
    }
no_print (Some (Simulate asked)) kind files p =
    record {
      prints =
          record {
            whole = inl (inr refl);
            prefix = λ up. (chip.NoMemory, [], ([], inr (record { main = 0; halt = 0; objects = []; frames = [] }, [], refl), refl), nothing_of p []);
          };
      sound = λ is e. absurd (omega arith);
    }
no_print (Some (Agree asked)) kind files p =
    record {
      prints = record { whole = inl (inr refl); prefix = λ up. (agree.NoMemory, [], refl, nothing_of p []) };
      sound = λ is e. absurd (omega arith);
    }
no_print (Some (Generate functions)) kind files p =
    record { whole = λ zero. absurd (omega arith); prefix = λ up. nothing_of p (generated_text functions) }
no_print (Some (Check hex)) kind files p =
    record {
      prints = record { whole = inl (inr refl); prefix = λ up. (check.NoMemory, [], refl, nothing_of p []) };
      sound = λ is e. absurd (omega arith);
    }

pub no_told : (form : Option Form) (old new : Option Contents) (p : Option (List ℕ)) → IfSome old (λ o. HasTold form o new p p 9)
no_told form None new p = tt
no_told None (Some o) new p = tt
no_told (Some (Build names)) (Some o) new p = λ e. absurd (omega arith)
no_told (Some (Trace asked)) (Some o) new p = inl (inr refl)
no_told (Some (Simulate asked)) (Some o) new p = tt
no_told (Some (Agree asked)) (Some o) new p = record { ended = agree.NoMemory; knows = tt; exact = tt; last = inr (inr refl, nothing_of p []) }
no_told (Some (Generate functions)) (Some o) new p = λ e. absurd (omega arith)
no_told (Some (Check hex)) (Some o) new p = unsaid_told hex o 9 p p (inr refl)

-- a board that wasn't asked
pub not_simulated : (form : Option Form) (old : Option Contents) (board : Known) (p : Option (List ℕ)) → IfSome old (λ o. HasSimulated form o board board p p 9)
not_simulated form None board p = tt
not_simulated None (Some o) board p = tt
not_simulated (Some (Build names)) (Some o) board p = tt
not_simulated (Some (Trace asked)) (Some o) board p = tt
not_simulated (Some (Simulate asked)) (Some o) board p =
    let knows : Knows asked o board board chip.NoMemory p p = inl (refl, refl) in
    let last : IsLast 9 [] p p 9 = inr (inr refl, nothing_of p []) in
    record {
      ended = chip.NoMemory;
      middle = p;
      knows = knows;
      last = last;
      stops = stops_as_run asked o board board chip.NoMemory p p p 9 knows last;
      traces = prints_as_run asked o board board chip.NoMemory p p knows;
    }
not_simulated (Some (Agree asked)) (Some o) board p = tt
not_simulated (Some (Generate functions)) (Some o) board p = tt
not_simulated (Some (Check hex)) (Some o) board p = tt

pub no_end : (form : Option Form) (kind : Kind) (before now : ℕ) (old : Option Contents) → IfSome old (λ o. IsComplete kind before now form o 9)
no_end form kind before now None = tt
no_end None kind before now (Some o) = λ quiet. inr refl
no_end (Some (Build names)) kind before now (Some o) = λ quiet. record { ends = λ text a. inr (inr refl); accepted = λ text a b. inr refl; refused = λ text refusal a b. inr refl }
no_end (Some (Trace asked)) kind before now (Some o) = λ quiet.
    record {
      ends = λ text script a b. inr (inr (inr refl));
      no_script = λ text script a b c. inr refl;
      accepted = λ text script a b c d. inr (inr refl);
      refused = λ text script refusal a b c d. inr refl;
    }
no_end (Some (Simulate asked)) kind before now (Some o) = λ quiet.
    record {
      ends = inr (inr (inr refl));
      runs = λ image map script a b c. inr (inr refl);
      no_hex = λ bytes a b. inr refl;
      no_map = λ bytes a b. inr refl;
      no_script = λ bytes a b. inr refl;
    }
no_end (Some (Agree asked)) kind before now (Some o) = λ quiet.
    record {
      ends = inr (inr (inr (inr refl)));
      files =
          record {
            ends = λ text script a b. inr (inr (inr refl));
            no_script = λ text script a b c. inr refl;
            accepted = λ text script a b c d. inr (inr refl);
            refused = λ text script refusal a b c d. inr refl;
          };
    }
no_end (Some (Generate functions)) kind before now (Some o) = λ quiet. inr refl
no_end (Some (Check hex)) kind before now (Some o) = λ quiet.
    record {
      ends = inr (inr (inr refl));
      certified = λ image c a b. inr refl;
      uncertified = λ image a b. inr refl;
      no_hex = λ bytes a b. inr refl;
    }
